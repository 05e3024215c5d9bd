-- The whole of `let k = fun x -> x in k` has all that a part has to have. No state of its constraint is related to another, so the constraint
-- is solved as it stands, and each state is paired with itself.
--     let_constraint
use Rattle.std.proofs.Common.{◌≡◌, inl, ℕ, zero, suc, ◌<◌, arith, Bool, true, false, ◌&&◌, [], ◌∷◌, length, Contains, refl, sym, ◌∙◌, subst}
use Rattle.std.specs.FinMap as env
use Rattle.mls_automaton.specs.declared.automaton.Polarity.{Polarity}
use Rattle.mls_automaton.specs.declared.automaton.Polarity.TheVariants.{Positive, Negative}
use Rattle.mls_automaton.specs.declared.scheme.Scheme.{Scheme}
use Rattle.mls_automaton.specs.Automata.{polarity_at, head_at, flow, HasFlow, IsState}
use Rattle.mls_automaton.specs.Heads.{parts_of, combined, IsSameParts}
use Rattle.mls_automaton.proofs.Lists.{Contains-here}
use Rattle.mls_solver.specs.Solved.{ReachesBy, IsSolved}
use Rattle.mls_flow.specs.Simulations.{IsHeadWithin}
use Rattle.mls_flow.specs.Admissible.{IsFlowRelation, Holds, IsAdmissible}
use Rattle.mls_subsume.specs.Walks.{IsWalk}
use Rattle.mls_layout.specs.Parts.{Constraint, IsSolvedTo, IsLaidOut, HasConstraint}
use Rattle.mls_allowed.proofs.WorkedIdentity.{identity, book, place_of, type_place, walked, IsPair, itself_paired, is_paired, R, unrelated, the_flow, parts_at, identity_layout, identity_places}
use Rattle.mls_allowed.proofs.WorkedNames.{identity_closed, closed_book, root, binder, is_free, section_of, the_let, first, let_posed}
use Rattle.mls_layout.proofs.WorkedParts.{nothing, contains_one}

abbrev pub the_constraint : Constraint
the_constraint = record { automaton = identity; goals = [] }

abbrev pub the_scheme : Scheme
the_scheme = record { automaton = identity; env = []; root = record { 0 = 0 } }

no_reach : (p : Polarity) (s j : ℕ) → ReachesBy identity R p s j → ⊥
no_reach Positive s j (n, it, edge) = unrelated identity j n it
no_reach Negative s j (p, edge, it) = unrelated identity p j it

alone : (s : ℕ) → IsSameParts (parts_of (head_at identity s)) (combined (polarity_at identity s) (parts_of (head_at identity s) ∷ []))
alone zero = record { boolean = refl; integer = refl; function = ((λ s h. h, λ s h. h), (λ s h. h, λ s h. h)); fields = tt }
alone (suc zero) = record { boolean = refl; integer = refl; function = tt; fields = tt }
alone (suc (suc zero)) = record { boolean = refl; integer = refl; function = tt; fields = tt }
alone (suc (suc (suc s))) = record { boolean = refl; integer = refl; function = tt; fields = tt }

solved : IsSolved identity R identity
solved = record {
  same_length = refl;
  polarity = λ s. refl;
  flows = λ n q edge. inl edge;
  old_flows = λ n q edge. edge;
  new_flows = λ n q it. absurd (unrelated identity it.0 it.1 it.3);
  members = λ s. s ∷ [];
  self = λ s. Contains-here s [];
  reached = λ s j there. inl (sym (contains_one s j there));
  reaching = λ s j it. absurd (no_reach (polarity_at identity s) s j it);
  heads = alone;
}

-- the edge
abbrev is_source : ℕ → Bool
is_source zero = false
is_source (suc zero) = true
is_source (suc (suc n)) = false

abbrev is_target : ℕ → Bool
is_target zero = false
is_target (suc zero) = false
is_target (suc (suc zero)) = true
is_target (suc (suc (suc n))) = false

abbrev the_edge : ℕ → ℕ → Bool
the_edge n p = is_source n && is_target p

edge_only : (n p : ℕ) → the_edge n p ≡ true → (n ≡ 1) × (p ≡ 2)
edge_only zero p e = absurd (cc)
edge_only (suc zero) zero e = absurd (cc)
edge_only (suc zero) (suc zero) e = absurd (cc)
edge_only (suc zero) (suc (suc zero)) e = (refl, refl)
edge_only (suc zero) (suc (suc (suc p))) e = absurd (cc)
edge_only (suc (suc n)) p e = absurd (cc)

is_flow : IsFlowRelation identity (Holds the_edge)
is_flow n p is_n is_p it =
    let at = edge_only n p it in
    inl (subst (λ z. HasFlow identity z p) (sym at.0) (subst (λ z. HasFlow identity 1 z) (sym at.1) (Contains-here (flow 1 2) [])))

state_there : (s : ℕ) → s < 3 → IsState identity (polarity_at identity s) s
state_there s low = record { in_range = low; polarity = refl }

one_within : (s : ℕ) → IsPair s s → (x : ℕ) → Contains (s ∷ []) x → (y : ℕ) × Contains (s ∷ []) y × IsPair x y
one_within s paired x there = (s, Contains-here s [], subst (λ z. IsPair z s) (contains_one s x there) paired)

within : (s : ℕ) → IsHeadWithin IsPair (polarity_at identity s) (parts_of (head_at identity s)) (parts_of (head_at identity s))
within zero = record { boolean = λ e. e; integer = λ e. e; function = (one_within 1 is_paired.1, one_within 2 is_paired.2); fields = tt }
within (suc zero) = record { boolean = λ e. e; integer = λ e. e; function = tt; fields = tt }
within (suc (suc zero)) = record { boolean = λ e. e; integer = λ e. e; function = tt; fields = tt }
within (suc (suc (suc s))) = record { boolean = λ e. e; integer = λ e. e; function = tt; fields = tt }

in_order : (h g t s : ℕ) → HasFlow identity h g → IsPair h t → IsPair g s → IsAdmissible identity t s
in_order h g t s edge one other =
    let at = the_flow h g edge in
    let is_t : t ≡ 1 = sym (itself_paired h t one).0 ∙ at.0 in
    let is_s : s ≡ 2 = sym (itself_paired g s other).0 ∙ at.1 in
    (the_edge, is_flow, subst (λ z. the_edge z s ≡ true) (sym is_t) (subst (λ z. the_edge 1 z ≡ true) (sym is_s) refl))

walk : IsWalk the_scheme the_scheme walked
walk = record {
  roots = is_paired.0;
  states =
      λ g s it.
      let is = itself_paired g s it in
      subst (λ z. IsState identity (polarity_at identity z) s) (sym is.0) (state_there s is.1);
  heads =
      λ g s it.
      let is = itself_paired g s it in
      subst (λ z. IsHeadWithin IsPair (polarity_at identity g) (parts_of (head_at identity g)) (parts_of (head_at identity z))) is.0 (within g);
  flows = in_order;
}

pub solved_to : IsSolvedTo the_constraint the_scheme the_scheme walked
solved_to = record {
  closed = identity_closed;
  goals = λ p n it. absurd (nothing (p, n) it);
  free = λ p n it clash clashes. unrelated identity p n it;
  solved = solved;
  closed_type = identity_closed;
  walk = walk;
  is_positive = refl;
}

pub parts_inside : (s i : ℕ) → Contains (parts_at s) i → i < length book
parts_inside zero i there = subst (λ z. z < length book) (contains_one 3 i there) (omega arith)
parts_inside (suc s) i there = absurd (nothing i there)

pub type_inside : (s : ℕ) → type_place s < length book
type_inside zero = omega arith
type_inside (suc zero) = omega arith
type_inside (suc (suc zero)) = omega arith
type_inside (suc (suc (suc s))) = omega arith

unfoldable pub laid_out : IsLaidOut book the_constraint the_scheme walked place_of type_place
unfolding identity_layout
laid_out = record {
  closed = closed_book;
  layout = identity_layout;
  parts = parts_inside;
  values = λ n. omega arith;
  places = identity_places;
  type_places = type_inside;
}

pub let_constraint : HasConstraint (section_of the_let) (first ∷ []) 3 env.empty 0
let_constraint = record {
  constraint = the_constraint;
  general = the_scheme;
  special = the_scheme;
  walked = walked;
  solved = solved_to;
  place = place_of;
  type_place = type_place;
  laid_out = laid_out;
  root = root;
  binder = binder;
  is_place = λ i s. true;
  is_free = is_free;
  tree = the_let;
  scope = [];
  rising = tt;
  posed = let_posed;
  is_root = refl;
  partner = λ x. 0;
  paired = λ x there. absurd (nothing x there);
  env = refl;
  is_type = refl;
}
