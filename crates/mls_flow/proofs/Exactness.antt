-- In a closed deterministic automaton a pair of states is admissible exactly where the negative state is below the
-- positive one.
--     flow_table-exact, flow_table-admissible      for a table
--     admissible_exact                             for the admissible relation
--     decide_admissible                            or a test separates the two
--     admissible_exact_in_book                     said of the nodes of a book
--     exact_in_books, redundant_by_table           what a table says
use Rattle.std.proofs.Common.{◌≡◌, ◌⊎◌, inl, inr, ℕ, ◌<◌, Bool, true, false, List, refl, sym, subst, length, Contains}
use Rattle.std.specs.Prelude.{◌↔◌}
use Rattle.mls_book.specs.declared.book.Node.{Node}
use Rattle.mls_book.specs.Predicates.{Predicate, Implies, var}
use Rattle.mls_book.specs.Passes.{passes}
use Rattle.mls_automaton.specs.declared.automaton.Polarity.TheVariants.{Positive, Negative}
use Rattle.mls_automaton.specs.declared.automaton.Flow.{Flow}
use Rattle.mls_automaton.specs.Automata.{Automaton, flow, HasFlow, IsState}
use Rattle.mls_automaton.specs.Models.{IsClosed, IsModel, IsDeterministic}
use Rattle.mls_automaton.specs.Schemes.{IsBookOf}
use Rattle.mls_automaton.proofs.Bounds.{passes-model}
use Rattle.mls_automaton.proofs.BookValues.{book-value}
use Rattle.mls_automaton.proofs.Instances.{plain}
use Rattle.mls_flow.specs.Admissible.{IsMatched, Holds, IsAdmissible, IsRedundant}
use Rattle.mls_flow.specs.Tables.{IsExactAt, IsExactInBooksAt, IsFlow, OfAllPairs, Table}
use Rattle.mls_flow.specs.Separated.{IsSeparated}
use Rattle.mls_flow.proofs.Admissibles.{matched_more_in, admissible_flows, flow_relation-below}
use Rattle.mls_flow.proofs.Refining.{IsFlowTable, flow_table}

pub separated-apart : (value : ℕ → Predicate) (n p : ℕ) → IsSeparated value n p → Implies (value n) (value p) → ⊥
separated-apart value n p it below =
    let yes : value p it.0 ≡ true = below it.0 it.1 in
    let no : value p it.0 ≡ false = it.2 in
    absurd (cc)

module _ (a : Automaton) (closed : IsClosed a) (variable : Flow → ℕ) where
  abbrev value : ℕ → Predicate
  value = plain variable a

  abbrev model : IsModel a value
  model = passes-model a closed _

  pub admissible-below : (n p : ℕ) → IsState a Negative n → IsState a Positive p → IsAdmissible a n p → Implies (value n) (value p)
  admissible-below = flow_relation-below a closed (IsAdmissible a) (admissible_flows a) value model

  module _ (table : ℕ → ℕ → Bool) (it : IsFlowTable a value table) (n p : ℕ) (is_n : IsState a Negative n) (is_p : IsState a Positive p) where
    held : (b : Bool) → table n p ≡ b → Implies (value n) (value p) → table n p ≡ true
    held true e below = e
    held false e below = absurd (separated-apart value n p (it.separated n p is_n is_p e) below)

    pub flow_table-exact : (table n p ≡ true) ↔ Implies (value n) (value p)
    flow_table-exact = (
      λ e. flow_relation-below a closed (Holds table) it.flows value model n p is_n is_p e,
      held (table n p) refl,
    )

    pub flow_table-admissible : (table n p ≡ true) ↔ IsAdmissible a n p
    flow_table-admissible = (
      λ e. (table, it.flows, e),
      λ admissible. flow_table-exact.1 (admissible-below n p is_n is_p admissible),
    )

  module _ (single : IsDeterministic a) (distinct : (f g : Flow) → Contains a.flows f → Contains a.flows g → variable f ≡ variable g → f ≡ g) (n p : ℕ) (is_n : IsState a Negative n) (is_p : IsState a Positive p) where
    pub admissible_exact : IsAdmissible a n p ↔ Implies (value n) (value p)
    admissible_exact =
        let table = flow_table a closed single variable distinct in (
          admissible-below n p is_n is_p,
          λ below. (table.0, table.1.flows, (flow_table-exact table.0 table.1 n p is_n is_p).1 below),
        )

    -- what is not admissible is separated by a test
    pub decide_admissible : IsAdmissible a n p ⊎ IsSeparated value n p
    decide_admissible =
        let table = flow_table a closed single variable distinct in
        go table.0 table.1 (table.0 n p) refl
      where
        go : (table : ℕ → ℕ → Bool) → IsFlowTable a value table → (b : Bool) → table n p ≡ b → IsAdmissible a n p ⊎ IsSeparated value n p
        go table it true e = inl (table, it.flows, e)
        go table it false e = inr (it.separated n p is_n is_p e)

-- the same of the nodes of a book of the automaton
module _ (a : Automaton) (closed : IsClosed a) (single : IsDeterministic a) (variable : Flow → ℕ) (place : ℕ → ℕ) (nodes : List Node) (is_book : IsBookOf a variable place nodes) (n p : ℕ) (is_n : IsState a Negative n) (is_p : IsState a Positive p) where
  at_node : (s : ℕ) → s < length a.states → passes nodes (place s) ≡ plain variable a s
  at_node s low = book-value a variable place nodes closed is_book var s low

  pub admissible_exact_in_book : IsAdmissible a n p ↔ Implies (passes nodes (place n)) (passes nodes (place p))
  admissible_exact_in_book =
      let exact = admissible_exact a closed variable single is_book.distinct n p is_n is_p in
      let first : passes nodes (place n) ≡ plain variable a n = at_node n is_n.in_range in
      let second : passes nodes (place p) ≡ plain variable a p = at_node p is_p.in_range in (
        λ admissible. subst (λ f. Implies f (passes nodes (place p))) (sym first) (subst (Implies (plain variable a n)) (sym second) (exact.0 admissible)),
        λ below. exact.1 (subst (λ f. Implies f (plain variable a p)) first (subst (Implies (passes nodes (place n))) second below)),
      )

-- a table that says yes of the pair exactly where it is admissible, says yes exactly where the two are in order in each book
pub exact_in_books : (a : Automaton) → IsClosed a → IsDeterministic a → (t : Table) (n p : ℕ) → IsState a Negative n → IsState a Positive p → IsExactAt a t n p → IsExactInBooksAt a t n p
exact_in_books a closed single t n p is_n is_p exact variable place nodes is_book =
    let below = admissible_exact_in_book a closed single variable place nodes is_book n p is_n is_p in
    (λ there. below.0 (exact.0 there), λ implies. exact.1 (below.1 implies))

-- an edge is redundant where its heads are matched relative to an exact table
pub redundant_by_table : (a : Automaton) → IsClosed a → (t : Table) → OfAllPairs a (IsExactAt a t) → (n p : ℕ) → HasFlow a n p → IsMatched a (IsFlow t) n p ↔ IsRedundant a n p
redundant_by_table a closed t exact n p edge =
    let is_n : IsState a Negative n = closed.negative (flow n p) edge in
    let is_p : IsState a Positive p = closed.positive (flow n p) edge in (
      λ matched. (edge, matched_more_in a (IsFlow t) (IsAdmissible a) (λ m q is_m is_q h. (exact m q is_m is_q).0 h) closed n p is_n is_p matched),
      λ redundant. matched_more_in a (IsAdmissible a) (IsFlow t) (λ m q is_m is_q h. (exact m q is_m is_q).1 h) closed n p is_n is_p redundant.1,
    )
