-- The whole of `let k = fun x -> x in k` is written in three steps, behind one about the first part: the name and the let have the type of
-- the first part, and one step by pairs goes over to the type of the whole, with what the variable of the first part stands for.
--     let_written
use Rattle.std.proofs.Common.{◌≡◌, ◌⊎◌, inl, inr, ℕ, zero, suc, Bool, true, false, List, [], ◌∷◌, ◌++◌, Contains, refl, sym, ap, ◌∙◌, subst, arith, Some, None}
use Rattle.std.specs.Prelude.{IsTrue}
use Rattle.std.specs.FinMap as env
use Rattle.std.specs.FinMap.{get-empty}
use Rattle.std.specs.Ordering.{nat_cmp}
use Rattle.mls_book.specs.Books.{node_at}
use Rattle.mls_automaton.proofs.Lists.{Contains-here, Contains-cases}
use Rattle.mls_term.specs.declared.term.TermForm.{TermForm}
use Rattle.mls_term.specs.declared.term.TermForm.TheVariants as form
use Rattle.mls_term.specs.Terms.{before, postorder}
use Rattle.mls_deriv.specs.declared.derivation.StepLine.{StepLine}
use Rattle.mls_deriv.specs.declared.derivation.StepRule.TheVariants as rule
use Rattle.mls_deriv.specs.Pairs.{put_at}
use Rattle.mls_deriv.specs.Steps.{env_of, form_at, Before}
use Rattle.mls_lines.specs.Conclusions.{AreClear, Conclusion, Concluded, a_binder, by_step, by_pairs, settled}
use Rattle.mls_layout.specs.Lets.{after}
use Rattle.mls_layout.specs.Parts.{IsGoalOf}
use Rattle.mls_layout.specs.Plans.{PlannedLine, a_step_with}
use Rattle.mls_layout.specs.Posed.{IsPosed}
use Rattle.mls_layout.specs.Runs.{a_step}
use Rattle.mls_layout.specs.Uses.{NamesOnly}
use Rattle.mls_lines.specs.NodeLines.{Standing, NamesKnown, IsInnerWritten, IsLetWritten, IsWrittenAs}
use Rattle.mls_lines.specs.Writings.{IsBefore, AreWrittenBefore, IsNodeOf, itself, within, IsWriting}
use Rattle.mls_allowed.specs.PartNodes.{IsPartNode, named, of_state, of_type}
use Rattle.mls_allowed.specs.WrittenParts.{IsPartWritten}
use Rattle.mls_allowed.specs.WrittenUses.{IsInnerRead, IsLetRead, IsUseRead}
use Rattle.mls_allowed.proofs.NamesEmitted.{no_binder}
use Rattle.mls_allowed.proofs.PartNodes.{child_such}
use Rattle.mls_allowed.proofs.WorkedConstraint.{the_constraint, the_scheme, solved_to, laid_out}
use Rattle.mls_allowed.proofs.WorkedIdentity.{identity, book, place_of, type_place, walked, parts_at, identity_layout}
use Rattle.mls_allowed.proofs.WorkedNames.{root, binder, section_of, the_let, first, known_copy, the_puts, met, fits}
use Rattle.mls_layout.proofs.WorkedParts.{nothing, contains_one}

-- a step about the first part
abbrev the_first : StepLine
the_first = a_step 1 rule.Var [] 4

abbrev pub begun : List StepLine
begun = the_first ∷ []

abbrev pub b : Before
b = after (section_of the_let) begun ((0, 0) ∷ [])

abbrev at : Standing
at = record { root = root; binder = binder; place = place_of; parts = parts_at }

abbrev names : NamesKnown
names = record { from = λ g. 0; type = λ g. 0; first = λ k. first; step = λ k. 0; binders = λ k. []; puts = λ i. the_puts }

-- the nodes of the constraint and of the type of the whole
abbrev is_own : ℕ → Bool
is_own zero = true
is_own (suc zero) = true
is_own (suc (suc zero)) = true
is_own (suc (suc (suc zero))) = true
is_own (suc (suc (suc (suc zero)))) = false
is_own (suc (suc (suc (suc (suc zero))))) = false
is_own (suc (suc (suc (suc (suc (suc zero)))))) = false
is_own (suc (suc (suc (suc (suc (suc (suc zero))))))) = true
is_own (suc (suc (suc (suc (suc (suc (suc (suc n)))))))) = false

abbrev IsListed : ℕ → Type 0
IsListed i = IsTrue (is_own i)

children : (i : ℕ) → IsListed i → NamesOnly IsListed (node_at book i)
children zero is = (refl, refl)
children (suc zero) is = tt
children (suc (suc zero)) is = tt
children (suc (suc (suc zero))) is = (refl, refl)
children (suc (suc (suc (suc zero)))) is = absurd (cc)
children (suc (suc (suc (suc (suc zero))))) is = absurd (cc)
children (suc (suc (suc (suc (suc (suc zero)))))) is = absurd (cc)
children (suc (suc (suc (suc (suc (suc (suc zero))))))) is = tt
children (suc (suc (suc (suc (suc (suc (suc (suc n)))))))) is = absurd (cc)

clear_listed : AreClear book IsListed the_puts
clear_listed zero x is e = absurd (cc)
clear_listed (suc zero) x is e = let same : 0 ≡ x = cc in subst (λ z. put_at the_puts z ≡ None) same refl
clear_listed (suc (suc zero)) x is e = let same : 0 ≡ x = cc in subst (λ z. put_at the_puts z ≡ None) same refl
clear_listed (suc (suc (suc zero))) x is e = absurd (cc)
clear_listed (suc (suc (suc (suc zero)))) x is e = absurd (cc)
clear_listed (suc (suc (suc (suc (suc zero))))) x is e = absurd (cc)
clear_listed (suc (suc (suc (suc (suc (suc zero)))))) x is e = absurd (cc)
clear_listed (suc (suc (suc (suc (suc (suc (suc zero))))))) x is e = absurd (cc)
clear_listed (suc (suc (suc (suc (suc (suc (suc (suc n)))))))) x is e = absurd (cc)

own_place : (s : ℕ) → IsListed (place_of s)
own_place zero = refl
own_place (suc zero) = refl
own_place (suc (suc zero)) = refl
own_place (suc (suc (suc s))) = refl

own_type : (s : ℕ) → IsListed (type_place s)
own_type zero = refl
own_type (suc zero) = refl
own_type (suc (suc zero)) = refl
own_type (suc (suc (suc s))) = refl

abbrev Own : ℕ → Type 0
Own = IsPartNode book place_of type_place

-- these are all
listed : (i : ℕ) → Own i → IsListed i
listed i (of_state s e) = subst IsListed e (own_place s)
listed i (of_type s e) = subst IsListed e (own_type s)
listed i (named j it child) = child_such IsListed (node_at book j) i (children j (listed j it)) child

clear : AreClear book Own the_puts
clear i x it e = clear_listed i x (listed i it) e

abbrev IsPlaceAt : ℕ → ℕ → Type 0
IsPlaceAt i s = IsTrue true

inner_read : IsInnerRead b identity at names (0 ∷ []) IsPlaceAt Own [] 2 0
unfolding known_copy
inner_read = record {
  known = Contains-here 0 [];
  top = 0;
  copied = known_copy;
  is_root = refl;
  at_top = refl;
  env = refl;
  fits = fits b refl 4 (omega arith);
  bound = λ x n found. absurd (no_binder x n found);
  puts = refl;
}

let_read : IsLetRead b identity at names (0 ∷ []) IsPlaceAt Own [] 3 0 1
unfolding known_copy
let_read = record {
  known = Contains-here 0 [];
  part = refl;
  top = 0;
  copied = known_copy;
  bound = λ x n found. absurd (no_binder x n found);
  low = λ x n found. absurd (no_binder x n found);
  clear = clear;
  puts = refl;
}

posed : IsPosed b.term_nodes identity (IsGoalOf the_constraint) root binder (IsUseRead b identity at names (0 ∷ []) IsPlaceAt Own) [] 3 the_let
unfolding postorder before
posed = (1, 2, refl, refl, let_read, (refl, inner_read))

-- the steps, node by node
abbrev use_step : StepLine
use_step = a_step 2 (rule.Use 0) [] 4

abbrev let_step : StepLine
let_step = a_step 3 (rule.Let 0 1) [] 4

abbrev steps : ℕ → List StepLine
steps zero = begun
steps (suc zero) = begun
steps (suc (suc zero)) = begun
steps (suc (suc (suc i))) = begun ++ use_step ∷ []

abbrev plan : ℕ → List PlannedLine
plan zero = []
plan (suc zero) = []
plan (suc (suc zero)) = a_step_with use_step [] ∷ []
plan (suc (suc (suc i))) = a_step_with let_step [] ∷ []

abbrev of_use : Conclusion
of_use = record { number = 1; type = 4; env = []; puts = the_puts }

abbrev of_let : Conclusion
of_let = record { number = 2; type = 4; env = []; puts = the_puts }

abbrev of : ℕ → Concluded
of zero = a_binder 0
of (suc zero) = a_binder 0
of (suc (suc zero)) = by_step of_use
of (suc (suc (suc i))) = by_step of_let

abbrev members : List ℕ
members = 2 ∷ 3 ∷ []

is_member : (i : ℕ) → Contains members i → (2 ≡ i) ⊎ (3 ≡ i)
is_member i there = elim (Contains-cases 2 (3 ∷ []) i there) [ inl same ↦ inl same | inr later ↦ inr (contains_one 3 i later) ]

use_form : form_at b.term_nodes 2 ≡ Some (form.Inner 0)
unfolding postorder before
use_form = refl

let_form : form_at b.term_nodes 3 ≡ Some (form.Let 0 1 2)
unfolding postorder before
let_form = refl

use_written : IsInnerWritten book the_constraint at names of 0 2 (steps 2) (plan 2) (of 2)
use_written = record { plan_is = refl; own_is = refl }

let_lines : IsLetWritten book the_constraint at names of 0 2 3 (steps 3) (plan 3) (of 3)
let_lines = record {
  lines = [];
  second = of_use;
  settles = settled;
  met = [];
  rising = tt;
  meets = λ x. met (env.get (env_of []) x) (get-empty nat_cmp x);
  more = [];
  puts = inr (refl, λ x. get-empty nat_cmp x);
  apart = λ x n e. absurd (cc);
  plan_is = refl;
  own_is = refl;
}

abbrev IsFormWritten : ℕ → TermForm → Type 0
IsFormWritten i f = IsWrittenAs book the_constraint at names of f i (steps i) (plan i) (of i)

same_form : (i : ℕ) (f g : TermForm) → form_at b.term_nodes i ≡ Some f → form_at b.term_nodes i ≡ Some g → f ≡ g
same_form i f g e e' = let h : Some f ≡ Some g = sym e ∙ e' in cc

forms : (i : ℕ) (f : TermForm) → Contains members i → form_at b.term_nodes i ≡ Some f → IsFormWritten i f
forms i f there is = go (is_member i there)
  where
    go : (2 ≡ i) ⊎ (3 ≡ i) → IsFormWritten i f
    go (inl same) =
        subst (λ z. IsFormWritten z f) same
        (subst (IsFormWritten 2) (same_form 2 (form.Inner 0) f use_form (subst (λ z. form_at b.term_nodes z ≡ Some f) (sym same) is)) use_written)
    go (inr same) =
        subst (λ z. IsFormWritten z f) same
        (subst (IsFormWritten 3) (same_form 3 (form.Let 0 1 2) f let_form (subst (λ z. form_at b.term_nodes z ≡ Some f) (sym same) is)) let_lines)

abbrev StandsBefore : ℕ → TermForm → Type 0
StandsBefore i f = AreWrittenBefore (Contains members) (IsBefore steps plan) f i

stand_before : (i : ℕ) (f : TermForm) → Contains members i → form_at b.term_nodes i ≡ Some f → StandsBefore i f
stand_before i f there is = go (is_member i there)
  where
    go : (2 ≡ i) ⊎ (3 ≡ i) → StandsBefore i f
    go (inl same) =
        subst (λ z. StandsBefore z f) same
        (subst (StandsBefore 2) (same_form 2 (form.Inner 0) f use_form (subst (λ z. form_at b.term_nodes z ≡ Some f) (sym same) is)) tt)
    go (inr same) =
        subst (λ z. StandsBefore z f) same
        (subst (StandsBefore 3) (same_form 3 (form.Let 0 1 2) f let_form (subst (λ z. form_at b.term_nodes z ≡ Some f) (sym same) is))
        (Contains-here 2 (3 ∷ []), ([], refl)))

begins : (i : ℕ) → Contains members i → (more : List StepLine) × (steps i ≡ begun ++ more)
begins i there = go (is_member i there)
  where
    go : (2 ≡ i) ⊎ (3 ≡ i) → (more : List StepLine) × (steps i ≡ begun ++ more)
    go (inl same) = ([], ap steps (sym same))
    go (inr same) = (use_step ∷ [], ap steps (sym same))

writing : IsWriting b the_constraint at names begun members
writing = record {
  steps = steps;
  plan = plan;
  of = of;
  in_order = (refl, (refl, tt));
  begins = begins;
  forms = forms;
  before = stand_before;
}

nodes : (m : ℕ) → Contains members m → IsNodeOf b.term_nodes 3 m
nodes m there = go (is_member m there)
  where
    go : (2 ≡ m) ⊎ (3 ≡ m) → IsNodeOf b.term_nodes 3 m
    go (inl same) = subst (IsNodeOf b.term_nodes 3) same (within 2 (form.Let 0 1 2) let_form refl itself)
    go (inr same) = subst (IsNodeOf b.term_nodes 3) same itself

abbrev last_step : StepLine
last_step = a_step 3 (rule.Sub 2) [] 0

pub let_written : IsPartWritten b begun (first ∷ []) 3 env.empty 0 (a_step_with use_step [] ∷ a_step_with let_step [] ∷ a_step_with last_step the_puts ∷ [])
unfolding laid_out identity_layout writing
let_written = record {
  constraint = the_constraint;
  general = the_scheme;
  special = the_scheme;
  walked = walked;
  solved = solved_to;
  place = place_of;
  type_place = type_place;
  laid_out = laid_out;
  root = root;
  binder = binder;
  names = names;
  lets = 0 ∷ [];
  are_known = λ k there. (Contains-here first [], contains_one 0 k there, subst (λ z. env.find nat_cmp z b.lets ≡ Some 0) (contains_one 0 k there) refl);
  is_place = λ i s. true;
  tree = the_let;
  scope = [];
  posed = posed;
  is_root = refl;
  partner = λ x. 0;
  paired = λ x there. absurd (nothing x there);
  members = members;
  earlier = 2 ∷ [];
  last = refl;
  nodes = nodes;
  writing = writing;
  binders = [];
  fits = fits b refl 0 (omega arith);
  envs = λ x there. absurd (nothing x there);
  env = refl;
  is_type = refl;
  lines = a_step_with last_step the_puts ∷ [];
  number = 3;
  brought = by_pairs;
  is_plan = refl;
  no_lets = tt;
}
