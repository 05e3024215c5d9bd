-- A worked layout with a related pair: `fun f -> f 1` at its type `(int -> a) -> a`. The constraint has the state of the binder (0) with an
-- edge to its use (1), the number (2), the result of the application (3) with an edge to its use (4), the functions from the number to
-- the result (5), to which the use of the binder is related, and the root (6).
--     application_layout      the nodes of the constraint, which are all in the book
--     application_posed       it is the constraint of the term
use Rattle.std.proofs.Common.{◌≡◌, ◌⊎◌, inl, inr, ℕ, zero, suc, Bool, true, false, List, [], ◌∷◌, Contains, refl, sym, ap, ◌∙◌, subst, arith, Some, ◌<◌, length}
use Rattle.std.proofs.lemmas.List.Elements.{All-nil}
use Rattle.mls_book.specs.declared.book.Node.{Node}
use Rattle.mls_book.specs.declared.book.Node.TheVariants as node
use Rattle.mls_book.specs.Books.{node_at}
use Rattle.mls_automaton.specs.declared.automaton.Arms.{Arms}
use Rattle.mls_automaton.specs.declared.automaton.FieldSet.{FieldSet}
use Rattle.mls_automaton.specs.declared.automaton.Flow.{Flow}
use Rattle.mls_automaton.specs.declared.automaton.Polarity.TheVariants.{Positive, Negative}
use Rattle.mls_automaton.specs.Automata.{Automaton, empty_head, polarity_at, head_at, flow, HasFlow}
use Rattle.mls_automaton.specs.Heads.{parts_of}
use Rattle.mls_automaton.proofs.Lists.{Contains-here, Contains-later, Contains-cases}
use Rattle.mls_term.specs.Terms.{TermTree, bound, number, fun, apply, before, postorder}
use Rattle.mls_solver.specs.Relations.{IsRelated, goal, domain, codomain, field, along}
use Rattle.mls_subsume.specs.declared.verdict.StatePair.{StatePair}
use Rattle.mls_subsume.specs.Walks.{pair, IsIn}
use Rattle.mls_layout.specs.Trees.{IsTree}
use Rattle.mls_layout.specs.Heads.{AreParts}
use Rattle.mls_layout.specs.Posed.{IsPosed}
use Rattle.mls_layout.specs.Layouts.{IsTypeLayout, Enters, IsLayout}
use Rattle.mls_layout.proofs.WorkedParts.{nothing, contains_one, function_head, integer_head, single_tree, empty_tree, set_tree, empty_parts, integer_parts, function_parts}

abbrev application : Automaton
application = record {
  states =
      record { polarity = Negative; head = empty_head }
      ∷ record { polarity = Positive; head = empty_head }
      ∷ record { polarity = Positive; head = integer_head }
      ∷ record { polarity = Negative; head = empty_head }
      ∷ record { polarity = Positive; head = empty_head }
      ∷ record { polarity = Negative; head = function_head (2 ∷ []) (3 ∷ []) }
      ∷ record { polarity = Positive; head = function_head (0 ∷ []) (4 ∷ []) }
      ∷ [];
  flows = flow 0 1 ∷ flow 3 4 ∷ [];
}

-- the type: a function (0) from functions (1) from `int` (2) to a variable (3), to that variable (4)
abbrev type : Automaton
type = record {
  states =
      record { polarity = Positive; head = function_head (1 ∷ []) (4 ∷ []) }
      ∷ record { polarity = Negative; head = function_head (2 ∷ []) (3 ∷ []) }
      ∷ record { polarity = Positive; head = integer_head }
      ∷ record { polarity = Negative; head = empty_head }
      ∷ record { polarity = Positive; head = empty_head }
      ∷ [];
  flows = flow 3 4 ∷ [];
}

abbrev book : List Node
book =
    node.Arrow (record { 0 = 1 }) (record { 0 = 4 })
    ∷ node.Arrow (record { 0 = 2 }) (record { 0 = 3 }) ∷ node.Int ∷ node.Var 0 ∷ node.Var 0
    ∷ node.Arrow (record { 0 = 1 }) (record { 0 = 3 })
    ∷ node.Bot
    ∷ []

abbrev IsTheGoal : ℕ → ℕ → Type 0
IsTheGoal p n = (p ≡ 1) × (n ≡ 5)

abbrev R : ℕ → ℕ → Type 0
R = IsRelated application IsTheGoal

abbrev walked : List StatePair
walked = pair 6 0 ∷ pair 0 1 ∷ pair 2 2 ∷ pair 3 3 ∷ pair 4 4 ∷ []

-- the state of the type that a state is paired with
abbrev partner : ℕ → ℕ
partner zero = 1
partner (suc zero) = 9
partner (suc (suc zero)) = 2
partner (suc (suc (suc zero))) = 3
partner (suc (suc (suc (suc zero)))) = 4
partner (suc (suc (suc (suc (suc zero))))) = 9
partner (suc (suc (suc (suc (suc (suc n)))))) = 0

abbrev has_partner : ℕ → Bool
has_partner (suc zero) = false
has_partner (suc (suc (suc (suc (suc zero))))) = false
has_partner _ = true

abbrev IsPartner : ℕ → ℕ → Type 0
IsPartner g s = (s ≡ partner g) × (has_partner g ≡ true)

by_pair : (g s h t : ℕ) → IsPartner h t → pair h t ≡ pair g s → IsPartner g s
by_pair g s h t known same = (
  ap (λ (p : StatePair). p.special.0) (sym same) ∙ (known.0 ∙ ap (λ (p : StatePair). partner p.general.0) same),
  ap (λ (p : StatePair). has_partner p.general.0) (sym same) ∙ known.1,
)

paired : (g s : ℕ) → IsIn walked g s → IsPartner g s
paired g s it =
    elim (Contains-cases (pair 6 0) (pair 0 1 ∷ pair 2 2 ∷ pair 3 3 ∷ pair 4 4 ∷ []) (pair g s) it) [
      | inl same ↦ by_pair g s 6 0 (refl, refl) same
      | inr it ↦ elim (Contains-cases (pair 0 1) (pair 2 2 ∷ pair 3 3 ∷ pair 4 4 ∷ []) (pair g s) it) [
        | inl same ↦ by_pair g s 0 1 (refl, refl) same
        | inr it ↦ elim (Contains-cases (pair 2 2) (pair 3 3 ∷ pair 4 4 ∷ []) (pair g s) it) [
          | inl same ↦ by_pair g s 2 2 (refl, refl) same
          | inr it ↦ elim (Contains-cases (pair 3 3) (pair 4 4 ∷ []) (pair g s) it) [
            | inl same ↦ by_pair g s 3 3 (refl, refl) same
            | inr it ↦ by_pair g s 4 4 (refl, refl) (contains_one (pair 4 4) (pair g s) it)
          ]
        ]
      ]
    ]

-- the state from which an edge goes to a state
abbrev source : ℕ → ℕ
source (suc zero) = 0
source _ = 3

from_flow : (n p k q : ℕ) → k ≡ source q → flow k q ≡ flow n p → n ≡ source p
from_flow n p k q known same = ap (λ (f : Flow). f.negative.0) (sym same) ∙ (known ∙ ap (λ (f : Flow). source f.positive.0) same)

-- an edge ends at 1 or 4, and begins at its source
the_flow : (n p : ℕ) → HasFlow application n p → (n ≡ source p) × ((p ≡ 1) ⊎ (p ≡ 4))
the_flow n p it =
    elim (Contains-cases (flow 0 1) (flow 3 4 ∷ []) (flow n p) it) [
      | inl same ↦ (from_flow n p 0 1 refl same, inl (ap (λ (f : Flow). f.positive.0) (sym same)))
      | inr it ↦ (let same = contains_one (flow 3 4) (flow n p) it in (from_flow n p 3 4 refl same, inr (ap (λ (f : Flow). f.positive.0) (sym same))))
    ]

-- the use of the binder is related to the functions, and nothing else is
no_arms : (p : ℕ) (arms : Arms) → p ≡ 1 → (head_at application p).function ≡ Some arms → ⊥
no_arms p arms is e = let f : (head_at application 1).function ≡ Some arms = subst (λ z. (head_at application z).function ≡ Some arms) is e in cc

no_fields : (p : ℕ) (fields : List FieldSet) → p ≡ 1 → (head_at application p).fields ≡ Some fields → ⊥
no_fields p fields is e = let f : (head_at application 1).fields ≡ Some fields = subst (λ z. (head_at application z).fields ≡ Some fields) is e in cc

not_five : (n : ℕ) → n ≡ 5 → (n ≡ 0) ⊎ (n ≡ 3) → ⊥
not_five n is (inl e) = cc
not_five n is (inr e) = cc

no_source : (n q : ℕ) → n ≡ 5 → HasFlow application n q → ⊥
no_source n q is edge =
    let it = the_flow n q edge in
    not_five n is (elim it.1 [ inl e ↦ inl (it.0 ∙ ap source e) | inr e ↦ inr (it.0 ∙ ap source e) ])

the_related : (p n : ℕ) → R p n → IsTheGoal p n
the_related p n (goal is) = is
the_related p n (domain {p = q} {n = m} it left right) = absurd (no_arms q right.0 (the_related q m it).0 right.1)
the_related p n (codomain {p = q} {n = m} it left right) = absurd (no_arms q left.0 (the_related q m it).0 left.1)
the_related p n (field {p = q} {n = m} label it left right) = absurd (no_fields q left.0 (the_related q m it).0 left.2)
the_related p n (along {n = m} {q = q} it edge later) = absurd (no_source m q (the_related p m it).1 edge)

-- the type
abbrev type_place : ℕ → ℕ
type_place zero = 0
type_place (suc zero) = 1
type_place (suc (suc zero)) = 2
type_place (suc (suc (suc zero))) = 3
type_place (suc (suc (suc (suc zero)))) = 4
type_place (suc (suc (suc (suc (suc s))))) = 6

abbrev type_parts : ℕ → List ℕ
type_parts zero = 0 ∷ []
type_parts (suc zero) = 1 ∷ []
type_parts (suc (suc zero)) = 2 ∷ []
type_parts (suc (suc (suc s))) = []

abbrev variables : ℕ → List ℕ
variables zero = []
variables (suc zero) = []
variables (suc (suc zero)) = []
variables (suc (suc (suc zero))) = 3 ∷ []
variables (suc (suc (suc (suc zero)))) = 4 ∷ []
variables (suc (suc (suc (suc (suc s))))) = []

type_heads : (s : ℕ) → AreParts book type_place (polarity_at type s) (parts_of (head_at type s)) (type_parts s)
type_heads zero = function_parts book Positive type_place (1 ∷ []) (4 ∷ []) 0 (record { 0 = 1 }) (record { 0 = 4 }) refl (set_tree book Negative type_place 1) (set_tree book Positive type_place 4)
type_heads (suc zero) = function_parts book Negative type_place (2 ∷ []) (3 ∷ []) 1 (record { 0 = 2 }) (record { 0 = 3 }) refl (set_tree book Positive type_place 2) (set_tree book Negative type_place 3)
type_heads (suc (suc zero)) = integer_parts book Positive type_place 2 refl
type_heads (suc (suc (suc zero))) = empty_parts book Negative type_place
type_heads (suc (suc (suc (suc zero)))) = empty_parts book Positive type_place
type_heads (suc (suc (suc (suc (suc s))))) = empty_parts book Positive type_place

are_variables : (s n : ℕ) → Contains (variables s) n → (x : ℕ) × (node_at book n ≡ node.Var x)
are_variables zero n there = absurd (nothing n there)
are_variables (suc zero) n there = absurd (nothing n there)
are_variables (suc (suc zero)) n there = absurd (nothing n there)
are_variables (suc (suc (suc zero))) n there = (0, subst (λ z. node_at book z ≡ node.Var 0) (contains_one 3 n there) refl)
are_variables (suc (suc (suc (suc zero)))) n there = (0, subst (λ z. node_at book z ≡ node.Var 0) (contains_one 4 n there) refl)
are_variables (suc (suc (suc (suc (suc s))))) n there = absurd (nothing n there)

abbrev IsLeaf : ℕ → ℕ → Type 0
IsLeaf s n = Contains (type_parts s) n ⊎ Contains (variables s) n

one_part : (s m n : ℕ) → type_parts s ≡ m ∷ [] → variables s ≡ [] → IsLeaf s n → n ≡ m
one_part s m n is free (inl there) = sym (contains_one m n (subst (λ (l : List ℕ). Contains l n) is there))
one_part s m n is free (inr there) = absurd (nothing n (subst (λ (l : List ℕ). Contains l n) free there))

one_variable : (s m n : ℕ) → type_parts s ≡ [] → variables s ≡ m ∷ [] → IsLeaf s n → n ≡ m
one_variable s m n free is (inl there) = absurd (nothing n (subst (λ (l : List ℕ). Contains l n) free there))
one_variable s m n free is (inr there) = sym (contains_one m n (subst (λ (l : List ℕ). Contains l n) is there))

no_leaf : (s n : ℕ) → IsLeaf (suc (suc (suc (suc (suc s))))) n → ⊥
no_leaf s n (inl there) = nothing n there
no_leaf s n (inr there) = nothing n there

type_tree : (s : ℕ) → IsTree book (polarity_at type s) (IsLeaf s) (type_place s)
type_tree zero = single_tree book Positive (IsLeaf 0) 0 (inl (Contains-here 0 [])) (λ n it. one_part 0 0 n refl refl it)
type_tree (suc zero) = single_tree book Negative (IsLeaf 1) 1 (inl (Contains-here 1 [])) (λ n it. one_part 1 1 n refl refl it)
type_tree (suc (suc zero)) = single_tree book Positive (IsLeaf 2) 2 (inl (Contains-here 2 [])) (λ n it. one_part 2 2 n refl refl it)
type_tree (suc (suc (suc zero))) = single_tree book Negative (IsLeaf 3) 3 (inr (Contains-here 3 [])) (λ n it. one_variable 3 3 n refl refl it)
type_tree (suc (suc (suc (suc zero)))) = single_tree book Positive (IsLeaf 4) 4 (inr (Contains-here 4 [])) (λ n it. one_variable 4 4 n refl refl it)
type_tree (suc (suc (suc (suc (suc s))))) = empty_tree book Positive (IsLeaf (suc (suc (suc (suc (suc s)))))) 6 refl (no_leaf s)

abbrev Shared : ℕ → ℕ → Type 0
Shared n p = (l m x : ℕ) × Contains (variables n) l × Contains (variables p) m × (node_at book l ≡ node.Var x) × (node_at book m ≡ node.Var x)

type_flows : (n p : ℕ) → HasFlow type n p → Shared n p
type_flows n p edge =
    let same = contains_one (flow 3 4) (flow n p) edge in
    let shared : Shared 3 4 = (3, 4, 0, Contains-here 3 [], Contains-here 4 [], refl, refl) in
    subst (λ z. Shared z p) (ap (λ (f : Flow). f.negative.0) same) (subst (λ z. Shared 3 z) (ap (λ (f : Flow). f.positive.0) same) shared)

type_layout : IsTypeLayout book type type_place
type_layout = record {
  parts = type_parts;
  variables = variables;
  heads = type_heads;
  are_variables = are_variables;
  tree = type_tree;
  flows = type_flows;
}

-- the constraint
abbrev place : ℕ → ℕ
place zero = 1
place (suc zero) = 1
place (suc (suc zero)) = 2
place (suc (suc (suc zero))) = 3
place (suc (suc (suc (suc zero)))) = 3
place (suc (suc (suc (suc (suc zero))))) = 1
place (suc (suc (suc (suc (suc (suc zero)))))) = 5
place (suc (suc (suc (suc (suc (suc (suc s))))))) = 6

abbrev value : ℕ → ℕ
value (suc (suc (suc zero))) = 3
value _ = 1

abbrev parts : ℕ → List ℕ
parts zero = []
parts (suc zero) = []
parts (suc (suc zero)) = 2 ∷ []
parts (suc (suc (suc zero))) = []
parts (suc (suc (suc (suc zero)))) = []
parts (suc (suc (suc (suc (suc zero))))) = 1 ∷ []
parts (suc (suc (suc (suc (suc (suc zero)))))) = 5 ∷ []
parts (suc (suc (suc (suc (suc (suc (suc s))))))) = []

heads : (s : ℕ) → AreParts book place (polarity_at application s) (parts_of (head_at application s)) (parts s)
heads zero = empty_parts book Negative place
heads (suc zero) = empty_parts book Positive place
heads (suc (suc zero)) = integer_parts book Positive place 2 refl
heads (suc (suc (suc zero))) = empty_parts book Negative place
heads (suc (suc (suc (suc zero)))) = empty_parts book Positive place
heads (suc (suc (suc (suc (suc zero))))) = function_parts book Negative place (2 ∷ []) (3 ∷ []) 1 (record { 0 = 2 }) (record { 0 = 3 }) refl (set_tree book Positive place 2) (set_tree book Negative place 3)
heads (suc (suc (suc (suc (suc (suc zero)))))) = function_parts book Positive place (0 ∷ []) (4 ∷ []) 5 (record { 0 = 1 }) (record { 0 = 3 }) refl (set_tree book Negative place 0) (set_tree book Positive place 4)
heads (suc (suc (suc (suc (suc (suc (suc s))))))) = empty_parts book Positive place

abbrev IsEntering : ℕ → ℕ → Type 0
IsEntering = Enters application R (IsIn walked) parts type_place

-- what goes in at the binder, and at the functions that its use is below, is the type of the domain; at the result it is the variable
from_type : (n s i : ℕ) → IsIn walked n s → type_place s ≡ i → i ≡ type_place (partner n)
from_type n s i it is = sym is ∙ ap type_place (paired n s it).0

no_head : (p n i : ℕ) → R p n → Contains (parts p) i → ⊥
no_head p n i it in_p = nothing i (subst (λ z. Contains (parts z) i) (the_related p n it).0 in_p)

past_use : (k p n s i : ℕ) → HasFlow application k p → R p n → IsIn walked k s → type_place s ≡ i → (n ≡ 5) × (i ≡ 1)
past_use k p n s i edge it in_walk is =
    let k_is : k ≡ 0 = (the_flow k p edge).0 ∙ ap source (the_related p n it).0 in
    ((the_related p n it).1, from_type k s i in_walk is ∙ ap (λ z. type_place (partner z)) k_is)

entering : (n i : ℕ) → IsEntering n i → (i ≡ type_place (partner n)) ⊎ ((n ≡ 5) × (i ≡ 1))
entering n i (inl (s, it, is)) = inl (from_type n s i it is)
entering n i (inr (inl (p, it, in_p))) = absurd (no_head p n i it in_p)
entering n i (inr (inr (k, p, s, edge, it, in_walk, is))) = inr (past_use k p n s i edge it in_walk is)

at_binder : (i : ℕ) → IsEntering 0 i → i ≡ 1
at_binder i it = elim (entering 0 i it) [ inl is ↦ is | inr h ↦ h.1 ]

at_result : (i : ℕ) → IsEntering 3 i → i ≡ 3
at_result i it = elim (entering 3 i it) [ inl is ↦ is | inr h ↦ absurd (not_five 3 h.0 (inr refl)) ]

at_functions : (i : ℕ) → IsEntering 5 i → i ≡ 1
at_functions i (inl (s, it, is)) = let yes : has_partner 5 ≡ true = (paired 5 s it).1 in absurd (cc)
at_functions i (inr (inl (p, it, in_p))) = absurd (no_head p 5 i it in_p)
at_functions i (inr (inr (k, p, s, edge, it, in_walk, is))) = (past_use k p 5 s i edge it in_walk is).1

in_walk_binder : IsIn walked 0 1
in_walk_binder = Contains-later (pair 6 0) (pair 0 1 ∷ pair 2 2 ∷ pair 3 3 ∷ pair 4 4 ∷ []) (pair 0 1) (Contains-here (pair 0 1) (pair 2 2 ∷ pair 3 3 ∷ pair 4 4 ∷ []))

in_walk_result : IsIn walked 3 3
in_walk_result = (3, omega arith, refl)

values : (n : ℕ) → polarity_at application n ≡ Negative → IsTree book Positive (IsEntering n) (value n)
values zero is = single_tree book Positive (IsEntering 0) 1 (inl (1, in_walk_binder, refl)) at_binder
values (suc zero) is = absurd (cc)
values (suc (suc zero)) is = absurd (cc)
values (suc (suc (suc zero))) is = single_tree book Positive (IsEntering 3) 3 (inl (3, in_walk_result, refl)) at_result
values (suc (suc (suc (suc zero)))) is = absurd (cc)
values (suc (suc (suc (suc (suc zero))))) is =
    single_tree book Positive (IsEntering 5) 1 (inr (inr (0, 1, 1, Contains-here (flow 0 1) (flow 3 4 ∷ []), goal (refl, refl), in_walk_binder, refl))) at_functions
values (suc (suc (suc (suc (suc (suc zero)))))) is = absurd (cc)
values (suc (suc (suc (suc (suc (suc (suc s))))))) is = absurd (cc)

abbrev IsAbove : ℕ → ℕ → Type 0
IsAbove q i = Contains (parts q) i ⊎ ((n : ℕ) × HasFlow application n q × (value n ≡ i))

-- a state to which an edge goes, and one to which none goes
by_edge : (q i : ℕ) → parts q ≡ [] → IsAbove q i → i ≡ value (source q)
by_edge q i free (inl there) = absurd (nothing i (subst (λ (l : List ℕ). Contains l i) free there))
by_edge q i free (inr (n, edge, is)) = sym is ∙ ap value (the_flow n q edge).0

no_edge : (q : ℕ) → (q ≡ 1 → ⊥) → (q ≡ 4 → ⊥) → (n : ℕ) → HasFlow application n q → ⊥
no_edge q first second n edge = elim (the_flow n q edge).1 [ inl e ↦ first e | inr e ↦ second e ]

by_head : (q m i : ℕ) → parts q ≡ m ∷ [] → (q ≡ 1 → ⊥) → (q ≡ 4 → ⊥) → IsAbove q i → i ≡ m
by_head q m i is first second (inl there) = sym (contains_one m i (subst (λ (l : List ℕ). Contains l i) is there))
by_head q m i is first second (inr (n, edge, e)) = absurd (no_edge q first second n edge)

no_member : (q i : ℕ) → parts q ≡ [] → (q ≡ 1 → ⊥) → (q ≡ 4 → ⊥) → IsAbove q i → ⊥
no_member q i free first second (inl there) = nothing i (subst (λ (l : List ℕ). Contains l i) free there)
no_member q i free first second (inr (n, edge, e)) = no_edge q first second n edge

positive : (q : ℕ) → polarity_at application q ≡ Positive → IsTree book Positive (IsAbove q) (place q)
positive zero is = absurd (cc)
positive (suc zero) is = single_tree book Positive (IsAbove 1) 1 (inr (0, Contains-here (flow 0 1) (flow 3 4 ∷ []), refl)) (λ i it. by_edge 1 i refl it)
positive (suc (suc zero)) is = single_tree book Positive (IsAbove 2) 2 (inl (Contains-here 2 [])) (λ i it. by_head 2 2 i refl (λ e. cc) (λ e. cc) it)
positive (suc (suc (suc zero))) is = absurd (cc)
positive (suc (suc (suc (suc zero)))) is = single_tree book Positive (IsAbove 4) 3 (inr (3, Contains-later (flow 0 1) (flow 3 4 ∷ []) (flow 3 4) (Contains-here (flow 3 4) []), refl)) (λ i it. by_edge 4 i refl it)
positive (suc (suc (suc (suc (suc zero))))) is = absurd (cc)
positive (suc (suc (suc (suc (suc (suc zero)))))) is = single_tree book Positive (IsAbove 6) 5 (inl (Contains-here 5 [])) (λ i it. by_head 6 5 i refl (λ e. cc) (λ e. cc) it)
positive (suc (suc (suc (suc (suc (suc (suc s))))))) is =
    let q = suc (suc (suc (suc (suc (suc (suc s)))))) in
    empty_tree book Positive (IsAbove q) 6 refl (λ i it. no_member q i refl (λ e. cc) (λ e. cc) it)

abbrev IsBelow : ℕ → ℕ → Type 0
IsBelow n i = Contains (parts n) i ⊎ (value n ≡ i)

by_value : (n i : ℕ) → parts n ≡ [] → IsBelow n i → i ≡ value n
by_value n i free (inl there) = absurd (nothing i (subst (λ (l : List ℕ). Contains l i) free there))
by_value n i free (inr is) = sym is

-- the functions and their value are one node
by_both : (i : ℕ) → IsBelow 5 i → i ≡ 1
by_both i (inl there) = sym (contains_one 1 i there)
by_both i (inr is) = sym is

negative : (n : ℕ) → polarity_at application n ≡ Negative → IsTree book Negative (IsBelow n) (place n)
negative zero is = single_tree book Negative (IsBelow 0) 1 (inr refl) (λ i it. by_value 0 i refl it)
negative (suc zero) is = absurd (cc)
negative (suc (suc zero)) is = absurd (cc)
negative (suc (suc (suc zero))) is = single_tree book Negative (IsBelow 3) 3 (inr refl) (λ i it. by_value 3 i refl it)
negative (suc (suc (suc (suc zero)))) is = absurd (cc)
negative (suc (suc (suc (suc (suc zero))))) is = single_tree book Negative (IsBelow 5) 1 (inr refl) by_both
negative (suc (suc (suc (suc (suc (suc zero)))))) is = absurd (cc)
negative (suc (suc (suc (suc (suc (suc (suc s))))))) is = absurd (cc)

pub application_layout : IsLayout book application type R (IsIn walked) place type_place
application_layout = record {
  type = type_layout;
  parts = parts;
  value = value;
  heads = heads;
  values = values;
  positive = positive;
  negative = negative;
}

pub application_places : (s : ℕ) → place s < length book
application_places zero = omega arith
application_places (suc zero) = omega arith
application_places (suc (suc zero)) = omega arith
application_places (suc (suc (suc zero))) = omega arith
application_places (suc (suc (suc (suc zero)))) = omega arith
application_places (suc (suc (suc (suc (suc zero))))) = omega arith
application_places (suc (suc (suc (suc (suc (suc zero)))))) = omega arith
application_places (suc (suc (suc (suc (suc (suc (suc s))))))) = omega arith

pub application_values : (n : ℕ) → value n < length book
application_values zero = omega arith
application_values (suc zero) = omega arith
application_values (suc (suc zero)) = omega arith
application_values (suc (suc (suc zero))) = omega arith
application_values (suc (suc (suc (suc n)))) = omega arith

-- the term: the use of the binder, the number, the application, and the function
abbrev term : TermTree
term = fun 0 0 (apply 0 (bound 0 0) (number 0 1))

abbrev root : ℕ → ℕ
root zero = 1
root (suc zero) = 2
root (suc (suc zero)) = 4
root (suc (suc (suc i))) = 6

pub application_posed : IsPosed (postorder 0 term) application IsTheGoal root (λ x. 0) (λ scope i. ⊥) [] 3 term
unfolding postorder before
application_posed = (
  2,
  refl,
  All-nil (λ y. y < 0),
  refl,
  refl,
  (
    0,
    1,
    5,
    3,
    refl,
    refl,
    (refl, refl),
    Contains-later (flow 0 1) (flow 3 4 ∷ []) (flow 3 4) (Contains-here (flow 3 4) []),
    (refl, Contains-here 0 [], Contains-here (flow 0 1) (flow 3 4 ∷ [])),
    (refl, refl, refl),
  ),
)
