-- Worked types of nodes: of `fun x -> x`, and of `let k = fun x -> x in k`.
--     identity_types       each type of `fun x -> x` is above a function from a type to itself
--     identity_model       its constraint has a model that gives the type
--     let_types            and the let, whose name has the best scheme of its first part
use Rattle.std.proofs.Common.{◌≡◌, ℕ, zero, suc, ◌+◌, ◌<◌, List, [], ◌∷◌, refl, sym, ◌∙◌, subst, arith, slice_get, Some}
use Rattle.std.specs.Prelude.{None}
use Rattle.mls_typing.proofs.Lists.{Contains-here, nothing_in}
use Rattle.std.specs.FinMap as env
use Rattle.std.specs.FinMap.{get-empty, get-insert}
use Rattle.std.specs.Ordering.{nat_cmp}
use Rattle.std.proofs.lemmas.Cmp.{nat_cmp_total}
use Rattle.mls_book.specs.declared.book.Node.{Node}
use Rattle.mls_book.specs.declared.book.Node.TheVariants as node
use Rattle.mls_book.specs.Books.{node_at, IsClosedBook}
use Rattle.mls_book.specs.Predicates.{Predicate, Implies, top, bot, join, meet, arrow}
use Rattle.mls_book.specs.Passes.{passes_by}
use Rattle.mls_book.specs.Schemes.{Scheme, binder_passes}
use Rattle.mls_book.proofs.Constructors.{arrow-implies}
use Rattle.mls_book.proofs.Depths.{Implies-refl, Implies-trans, Implies-same, Implies-same_back}
use Rattle.mls_book.proofs.LongerBooks.{IsGood, closed_from}
use Rattle.mls_book.proofs.Table.{value-var, value-arrow}
use Rattle.mls_term.specs.Terms.{TermTree, bound, inner, fun, local, before, postorder}
use Rattle.mls_term.specs.Derivations.{Known}
use Rattle.mls_term.proofs.Environments.{is_scheme-empty}
use Rattle.mls_typing.specs.Typed.{Types, IsTyped, IsType}
use Rattle.mls_parts.specs.NodeTypes.{AllowsAll, IsKnownHere, HasNodeTypes}
use Rattle.mls_parts.specs.NumberedNodes.{IsPlaced}
use Rattle.mls_parts.proofs.NumberedNodes.{numbered_whole}
use Rattle.mls_allowed.proofs.NodeTypes.{nodes_have_types}
use Rattle.mls_allowed.proofs.KnownHere.{known_start}
use Rattle.mls_parts.proofs.TypedModels.{has_model}
use Rattle.mls_allowed.proofs.WorkedIdentity.{identity as constraint}
use Rattle.mls_layout.proofs.WorkedParts.{contains_one}
use Rattle.mls_automaton.specs.declared.automaton.Flow.{Flow}
use Rattle.mls_automaton.specs.declared.automaton.Polarity.TheVariants.{Positive, Negative}
use Rattle.mls_automaton.specs.Automata.{IsState, polarity_at, head_at, flow}
use Rattle.mls_automaton.specs.Heads.{head_value}
use Rattle.mls_automaton.specs.Models.{IsInside}
use Rattle.mls_automaton.specs.Schemes.{NoGoal}
use Rattle.mls_automaton.proofs.HeadParts.{head_least}
use Rattle.mls_automaton.proofs.Instances.{HasModel}
use Rattle.mls_book.proofs.Lattice.{join_bot, meet_top}

-- fun x -> x
abbrev identity : TermTree
identity = fun 0 0 (bound 9 0)

-- nothing is known
abbrev nothing : Known
nothing = record { globals = []; lets = env.empty }

no_schemes : (g : ℕ) (s : Scheme) → slice_get nothing.globals g ≡ Some s → ⊥
no_schemes g s e = let none : None ≡ Some s = e in cc

known_nothing : (known : Known) → nothing.globals ≡ known.globals → IsKnownHere known [] nothing
known_nothing known same = known_start known [] (λ g s e. absurd (no_schemes g s e)) (λ g s e. absurd (no_schemes g s e)) same

identity_placed : IsPlaced (postorder 0 identity) [] 0 identity
identity_placed = record {
  numbers = numbered_whole (postorder 0 identity) identity refl;
  lets = [];
  globals = 0;
  scoped = Contains-here 0 [];
  once = λ i j d before low same. absurd (omega arith);
  apart = λ x around inside. nothing_in x around;
}

identity_nodes : (types : Types) (f : Predicate) → IsTyped nothing types identity f → HasNodeTypes (postorder 0 identity) nothing types 0 identity f
identity_nodes types f h = nodes_have_types (postorder 0 identity) nothing [] nothing 0 identity identity_placed (known_nothing nothing refl) tt types f h

-- each type of `fun x -> x` is above a function from a type to itself
pub identity_types : (types : Types) (f : Predicate) → IsTyped nothing types identity f → (g : Predicate) × IsType g × Implies (arrow g g) f
identity_types types f h =
    let it : HasNodeTypes (postorder 0 identity) nothing types 0 identity f = identity_nodes types f h in
    let g : Predicate = it.binder 0 in
    let i : ℕ = 0 + before identity in
    let j : ℕ = it.typed.0 in (
      g,
      it.binders_are 0 (Contains-here 0 []),
      Implies-trans (arrow g g) (it.type i) f
          (Implies-trans (arrow g g) (arrow g (it.type j)) (it.type i) (arrow-implies g g g (it.type j) (Implies-refl g) it.typed.2.1) it.typed.1.1)
          it.root,
    )

-- The constraint of `fun x -> x` has a model that gives each of its types: a state of a function, one of the binder, and one of its use.
module _ (types : Types) (f : Predicate) (it : HasNodeTypes (postorder 0 identity) nothing types 0 identity f) where
  abbrev value : ℕ → Predicate
  value zero = it.type (0 + before identity)
  value (suc zero) = it.binder 0
  value (suc (suc s)) = it.type it.typed.0

  abbrev Inside : ℕ → Type 0
  Inside s = IsInside (polarity_at constraint s) (head_value (polarity_at constraint s) value (head_at constraint s)) (value s)

  heads : (s : ℕ) → Inside s
  heads zero =
      head_least Positive value (head_at constraint 0) (value 0)
      (λ t e. absurd (cc)) (λ t e. absurd (cc))
      (Implies-trans (arrow (meet (value 1) top) (join (value 2) bot)) (arrow (value 1) (value 2)) (value 0)
      (arrow-implies (meet (value 1) top) (join (value 2) bot) (value 1) (value 2)
      (Implies-same_back (meet (value 1) top) (value 1) (meet_top (value 1)))
      (Implies-same (join (value 2) bot) (value 2) (join_bot (value 2))))
      it.typed.1.1)
      (λ t e. absurd (cc))
  heads (suc zero) = λ t e. refl
  heads (suc (suc zero)) = λ t e. absurd (cc)
  heads (suc (suc (suc s))) = λ t e. absurd (cc)

  types_are : (n : ℕ) → IsState constraint Negative n → IsType (value n)
  types_are zero state = let positive : Positive ≡ Negative = state.polarity in absurd (cc)
  types_are (suc zero) state = it.binders_are 0 (Contains-here 0 [])
  types_are (suc (suc n)) state = it.types_are it.typed.0

  pub identity_model : HasModel (record { automaton = constraint; env = []; root = record { 0 = 0 } }) NoGoal f types
  identity_model =
      has_model (record { automaton = constraint; env = []; root = record { 0 = 0 } }) NoGoal f types value types_are
      (record {
        flows = λ e there. subst (λ (e : Flow). Implies (value e.negative.0) (value e.positive.0)) (contains_one (flow 1 2) e there) it.typed.2.1;
        heads = heads;
      })
      (λ p n none. absurd none) it.root (λ x t e. refl)

-- a -> a
abbrev best_book : List Node
best_book = node.Var 0 ∷ node.Arrow (record { 0 = 0 }) (record { 0 = 0 }) ∷ []

best_closed : IsClosedBook best_book
best_closed = closed_from best_book at
  where
    at : (i : ℕ) → i < 2 → IsGood 2 (0 + i) (node_at best_book i)
    at zero low = record { ordered = tt; below = tt }
    at (suc zero) low = record { ordered = tt; below = (omega arith, omega arith) }
    at (suc (suc i)) low = absurd (omega arith)

abbrev best : Scheme
best = record { book = best_book; env = env.empty; root = 1 }

-- it allows each type of `fun x -> x`
best_allows : AllowsAll [] nothing identity best
best_allows = record {
  is = is_scheme-empty best_book best_closed 1 (omega arith);
  needs = λ x i e. let absent : env.get (env.empty {X = ℕ} {R = nat_cmp}) x ≡ None = get-empty nat_cmp x in absurd (cc);
  all = λ types f h.
      let it = identity_types types f h in
      record {
        book = it.1.0;
        closed = it.1.1;
        reading = λ x. it.0;
        held = λ x. it.1.2;
        root =
            Implies-trans (passes_by (λ x. it.0) best_book 1) (arrow it.0 it.0) f
            (Implies-same (passes_by (λ x. it.0) best_book 1) (arrow it.0 it.0)
            (value-arrow (λ x. it.0) best_book best_closed.book 1 (record { 0 = 0 }) (record { 0 = 0 }) refl
            ∙ (let at : passes_by (λ x. it.0) best_book 0 ≡ it.0 = value-var (λ x. it.0) best_book best_closed.book 0 0 refl in λ k. arrow (at k) (at k))))
            it.2;
        env = λ x. subst (λ o. Implies (types x) (binder_passes (passes_by (λ x. it.0) best_book) o)) (sym (get-empty nat_cmp x)) (λ t e. refl);
      };
}

-- let k = fun x -> x in k
abbrev the_let : TermTree
the_let = local 0 0 identity (inner 9 0)

-- its name has the best scheme
abbrev known : Known
known = record { globals = []; lets = env.insert env.empty 0 best }

known_best : env.get known.lets 0 ≡ Some best
known_best = get-insert nat_cmp_total env.empty 0 best 0

let_placed : IsPlaced (postorder 0 the_let) [] 0 the_let
let_placed = record {
  numbers = numbered_whole (postorder 0 the_let) the_let refl;
  lets = [];
  globals = 0;
  scoped = (Contains-here 0 [], Contains-here 0 []);
  once = λ i j d before low same. absurd (omega arith);
  apart = λ x around inside. nothing_in x around;
}

-- wherever the let has a type, so has each of its nodes, and the name has an instance of the best scheme
pub let_types : (types : Types) (f : Predicate) → IsTyped nothing types the_let f → HasNodeTypes (postorder 0 the_let) known types 0 the_let f
let_types types f h =
    nodes_have_types (postorder 0 the_let) known [] nothing 0 the_let let_placed (known_nothing known refl) (best, known_best, best_allows, tt) types f h
