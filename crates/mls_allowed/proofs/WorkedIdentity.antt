-- A worked layout: `fun x -> x` at its type `a -> a`, and a use of a name of this type. The constraint has three states, as the type has:
-- a function, the state that goes in and the state that comes out, with an edge between them. Nothing is related to anything.
--     identity_layout     the nodes of the constraint, which are all in the book
--     identity_posed      it is the constraint of the term
--     identity_copied, identity_puts       the node that the variable of the name's type stands for
use Rattle.std.proofs.Common.{◌≡◌, ◌⊎◌, inl, inr, ℕ, zero, suc, ◌<◌, true, arith, length, List, [], ◌∷◌, Contains, refl, sym, ap, ◌∙◌, subst, Some}
use Rattle.std.specs.Prelude.{IsTrue}
use Rattle.std.proofs.lemmas.List.Elements.{All-nil}
use Rattle.mls_book.specs.declared.book.Node.{Node}
use Rattle.mls_book.specs.declared.book.Node.TheVariants as node
use Rattle.mls_book.specs.Books.{node_at}
use Rattle.mls_automaton.specs.declared.automaton.Flow.{Flow}
use Rattle.mls_automaton.specs.declared.automaton.Polarity.{Polarity}
use Rattle.mls_flow.proofs.HeadsWithin.{within-self, within-more}
use Rattle.mls_allowed.proofs.NameLayouts.{IsCopied}
use Rattle.mls_automaton.specs.declared.automaton.Polarity.TheVariants.{Positive, Negative}
use Rattle.mls_automaton.specs.Automata.{Automaton, empty_head, polarity_at, head_at, flow, HasFlow}
use Rattle.mls_automaton.specs.Heads.{parts_of}
use Rattle.mls_automaton.proofs.Lists.{Contains-here, Contains-later, Contains-cases}
use Rattle.mls_term.specs.Terms.{bound, fun, before, postorder}
use Rattle.mls_solver.specs.Relations.{IsRelated, goal, domain, codomain, field, along}
use Rattle.mls_deriv.specs.Pairs.{put_at}
use Rattle.mls_subsume.specs.declared.verdict.StatePair.{StatePair}
use Rattle.mls_subsume.specs.Walks.{pair, IsIn}
use Rattle.mls_layout.specs.Trees.{IsTree}
use Rattle.mls_layout.specs.Heads.{AreParts}
use Rattle.mls_layout.specs.Layouts.{IsTypeLayout, Enters, IsLayout}
use Rattle.mls_layout.specs.Posed.{IsPosed}
use Rattle.mls_layout.specs.Uses.{Shows, ArePuts}
use Rattle.mls_layout.proofs.WorkedParts.{nothing, contains_one, function_head, single_tree, empty_tree, set_tree, empty_parts, function_parts}

abbrev pub identity : Automaton
identity = record {
  states =
      record { polarity = Positive; head = function_head (1 ∷ []) (2 ∷ []) }
      ∷ record { polarity = Negative; head = empty_head }
      ∷ record { polarity = Positive; head = empty_head }
      ∷ [];
  flows = flow 1 2 ∷ [];
}

pub the_flow : (n p : ℕ) → HasFlow identity n p → (n ≡ 1) × (p ≡ 2)
the_flow n p it =
    let same = contains_one (flow 1 2) (flow n p) it in
    (sym (ap (λ (f : Flow). f.negative.0) same), sym (ap (λ (f : Flow). f.positive.0) same))

-- the places of three states; all others are past the end
abbrev placed : ℕ → ℕ → ℕ → ℕ → ℕ → ℕ
placed i j k past zero = i
placed i j k past (suc zero) = j
placed i j k past (suc (suc zero)) = k
placed i j k past (suc (suc (suc s))) = past

-- the book of a type `a -> a` that begins at node i
module _ (book : List Node) (i j k past v : ℕ) (arrow : node_at book i ≡ node.Arrow (record { 0 = j }) (record { 0 = k })) (one : node_at book j ≡ node.Var v) (two : node_at book k ≡ node.Var v) (end : node_at book past ≡ node.Bot) where
  abbrev pub place : ℕ → ℕ
  place = placed i j k past

  abbrev pub parts : ℕ → List ℕ
  parts zero = i ∷ []
  parts (suc s) = []

  abbrev pub variables : ℕ → List ℕ
  variables zero = []
  variables (suc zero) = j ∷ []
  variables (suc (suc zero)) = k ∷ []
  variables (suc (suc (suc s))) = []

  pub heads : (s : ℕ) → AreParts book place (polarity_at identity s) (parts_of (head_at identity s)) (parts s)
  heads zero = function_parts book Positive place (1 ∷ []) (2 ∷ []) i (record { 0 = j }) (record { 0 = k }) arrow (set_tree book Negative place 1) (set_tree book Positive place 2)
  heads (suc zero) = empty_parts book Negative place
  heads (suc (suc zero)) = empty_parts book Positive place
  heads (suc (suc (suc s))) = empty_parts book Positive place

  pub are_variables : (s n : ℕ) → Contains (variables s) n → (x : ℕ) × (node_at book n ≡ node.Var x)
  are_variables zero n there = absurd (nothing n there)
  are_variables (suc zero) n there = (v, subst (λ z. node_at book z ≡ node.Var v) (contains_one j n there) one)
  are_variables (suc (suc zero)) n there = (v, subst (λ z. node_at book z ≡ node.Var v) (contains_one k n there) two)
  are_variables (suc (suc (suc s))) n there = absurd (nothing n there)

  abbrev IsLeaf : ℕ → ℕ → Type 0
  IsLeaf s n = Contains (parts s) n ⊎ Contains (variables s) n

  one_part : (n : ℕ) → IsLeaf 0 n → n ≡ i
  one_part n (inl there) = sym (contains_one i n there)
  one_part n (inr there) = absurd (nothing n there)

  one_variable : (s m n : ℕ) → parts s ≡ [] → variables s ≡ m ∷ [] → IsLeaf s n → n ≡ m
  one_variable s m n free is (inl there) = absurd (nothing n (subst (λ (l : List ℕ). Contains l n) free there))
  one_variable s m n free is (inr there) = sym (contains_one m n (subst (λ (l : List ℕ). Contains l n) is there))

  no_leaf : (s n : ℕ) → IsLeaf (suc (suc (suc s))) n → ⊥
  no_leaf s n (inl there) = nothing n there
  no_leaf s n (inr there) = nothing n there

  pub tree : (s : ℕ) → IsTree book (polarity_at identity s) (IsLeaf s) (place s)
  tree zero = single_tree book Positive (IsLeaf 0) i (inl (Contains-here i [])) one_part
  tree (suc zero) = single_tree book Negative (IsLeaf 1) j (inr (Contains-here j [])) (λ n it. one_variable 1 j n refl refl it)
  tree (suc (suc zero)) = single_tree book Positive (IsLeaf 2) k (inr (Contains-here k [])) (λ n it. one_variable 2 k n refl refl it)
  tree (suc (suc (suc s))) = empty_tree book Positive (IsLeaf (suc (suc (suc s)))) past end (no_leaf s)

  abbrev Shared : ℕ → ℕ → Type 0
  Shared n p = (l m x : ℕ) × Contains (variables n) l × Contains (variables p) m × (node_at book l ≡ node.Var x) × (node_at book m ≡ node.Var x)

  unfoldable pub type_layout : IsTypeLayout book identity place
  type_layout = record {
    parts = parts;
    variables = variables;
    heads = heads;
    are_variables = are_variables;
    tree = tree;
    flows =
        λ n p edge.
        let it = the_flow n p edge in
        let shared : Shared 1 2 = (j, k, v, Contains-here j [], Contains-here k [], one, two) in
        subst (λ z. Shared z p) (sym it.0) (subst (λ z. Shared 1 z) (sym it.1) shared);
  }

-- no pair is asked to be in order, so none is
abbrev pub NoGoal : ℕ → ℕ → Type 0
NoGoal p n = Contains {X = ℕ × ℕ} [] (p, n)

pub unrelated : (a : Automaton) (p n : ℕ) → IsRelated a NoGoal p n → ⊥
unrelated a p n (goal is) = absurd (nothing (p, n) is)
unrelated a p n (domain {p = q} {n = m} it left right) = unrelated a q m it
unrelated a p n (codomain {p = q} {n = m} it left right) = unrelated a q m it
unrelated a p n (field {p = q} {n = m} label it left right) = unrelated a q m it
unrelated a p n (along {n = m} it edge later) = unrelated a p m it

-- the type's book, the root of the constraint, the book of the scheme of a name, and the node of states that are not there
abbrev pub book : List Node
book =
    node.Arrow (record { 0 = 1 }) (record { 0 = 2 }) ∷ node.Var 0 ∷ node.Var 0
    ∷ node.Arrow (record { 0 = 1 }) (record { 0 = 1 })
    ∷ node.Arrow (record { 0 = 5 }) (record { 0 = 6 }) ∷ node.Var 1 ∷ node.Var 1
    ∷ node.Bot
    ∷ []

abbrev pub type_place : ℕ → ℕ
type_place = placed 0 1 2 7

abbrev pub place_of : ℕ → ℕ
place_of = placed 3 1 1 7

abbrev pub known_place : ℕ → ℕ
known_place = placed 4 5 6 7

abbrev pub R : ℕ → ℕ → Type 0
R = IsRelated identity NoGoal

-- each state is paired with its own number
abbrev pub walked : List StatePair
walked = pair 0 0 ∷ pair 1 1 ∷ pair 2 2 ∷ []

abbrev pub IsPair : ℕ → ℕ → Type 0
IsPair = IsIn walked

of_one : (g s k : ℕ) → k < 3 → pair k k ≡ pair g s → (g ≡ s) × (s < 3)
of_one g s k low same =
    let is_g : k ≡ g = ap (λ (p : StatePair). p.general.0) same in
    let is_s : k ≡ s = ap (λ (p : StatePair). p.special.0) same in
    (sym is_g ∙ is_s, subst (λ z. z < 3) is_s low)

pub itself_paired : (g s : ℕ) → IsPair g s → (g ≡ s) × (s < 3)
itself_paired g s it =
    elim (Contains-cases (pair 0 0) (pair 1 1 ∷ pair 2 2 ∷ []) (pair g s) it) [
      | inl same ↦ of_one g s 0 (omega arith) same
      | inr it ↦ elim (Contains-cases (pair 1 1) (pair 2 2 ∷ []) (pair g s) it) [
        | inl same ↦ of_one g s 1 (omega arith) same
        | inr it ↦ of_one g s 2 (omega arith) (contains_one (pair 2 2) (pair g s) it)
      ]
    ]

pub is_paired : IsPair 0 0 × IsPair 1 1 × IsPair 2 2
is_paired = (
  Contains-here (pair 0 0) (pair 1 1 ∷ pair 2 2 ∷ []),
  Contains-later (pair 0 0) (pair 1 1 ∷ pair 2 2 ∷ []) (pair 1 1) (Contains-here (pair 1 1) (pair 2 2 ∷ [])),
  Contains-later (pair 0 0) (pair 1 1 ∷ pair 2 2 ∷ []) (pair 2 2) (Contains-later (pair 1 1) (pair 2 2 ∷ []) (pair 2 2) (Contains-here (pair 2 2) [])),
)

abbrev pub parts_at : ℕ → List ℕ
parts_at zero = 3 ∷ []
parts_at (suc s) = []

pub heads_at : (s : ℕ) → AreParts book place_of (polarity_at identity s) (parts_of (head_at identity s)) (parts_at s)
heads_at zero = function_parts book Positive place_of (1 ∷ []) (2 ∷ []) 3 (record { 0 = 1 }) (record { 0 = 1 }) refl (set_tree book Negative place_of 1) (set_tree book Positive place_of 2)
heads_at (suc zero) = empty_parts book Negative place_of
heads_at (suc (suc zero)) = empty_parts book Positive place_of
heads_at (suc (suc (suc s))) = empty_parts book Positive place_of

entered : (i : ℕ) → Enters identity R IsPair parts_at type_place 1 i → i ≡ 1
entered i (inl (s, it, is)) = sym is ∙ ap type_place (sym (itself_paired 1 s it).0)
entered i (inr (inl (p, it, in_p))) = absurd (unrelated identity p 1 it)
entered i (inr (inr (k, p, s, edge, it, pair, is))) = absurd (unrelated identity p 1 it)

pub values : (n : ℕ) → polarity_at identity n ≡ Negative → IsTree book Positive (Enters identity R IsPair parts_at type_place n) 1
values zero is = absurd (cc)
values (suc zero) is = single_tree book Positive (Enters identity R IsPair parts_at type_place 1) 1 (inl (1, is_paired.1, refl)) entered
values (suc (suc zero)) is = absurd (cc)
values (suc (suc (suc s))) is = absurd (cc)

abbrev pub IsAbove : ℕ → ℕ → Type 0
IsAbove q i = Contains (parts_at q) i ⊎ ((n : ℕ) × HasFlow identity n q × (1 ≡ i))

of_function : (i : ℕ) → IsAbove 0 i → i ≡ 3
of_function i (inl there) = sym (contains_one 3 i there)
of_function i (inr (n, edge, is)) = let e = (the_flow n 0 edge).1 in absurd (cc)

of_result : (i : ℕ) → IsAbove 2 i → i ≡ 1
of_result i (inl there) = absurd (nothing i there)
of_result i (inr (n, edge, is)) = sym is

of_none : (s i : ℕ) → IsAbove (suc (suc (suc s))) i → ⊥
of_none s i (inl there) = nothing i there
of_none s i (inr (n, edge, is)) = let e = (the_flow n (suc (suc (suc s))) edge).1 in cc

pub positive : (q : ℕ) → polarity_at identity q ≡ Positive → IsTree book Positive (IsAbove q) (place_of q)
positive zero is = single_tree book Positive (IsAbove 0) 3 (inl (Contains-here 3 [])) of_function
positive (suc zero) is = absurd (cc)
positive (suc (suc zero)) is = single_tree book Positive (IsAbove 2) 1 (inr (1, Contains-here (flow 1 2) [], refl)) of_result
positive (suc (suc (suc s))) is = empty_tree book Positive (IsAbove (suc (suc (suc s)))) 7 refl (of_none s)

abbrev pub IsBelow : ℕ → ℕ → Type 0
IsBelow n i = Contains (parts_at n) i ⊎ (1 ≡ i)

of_argument : (i : ℕ) → IsBelow 1 i → i ≡ 1
of_argument i (inl there) = absurd (nothing i there)
of_argument i (inr is) = sym is

pub negative : (n : ℕ) → polarity_at identity n ≡ Negative → IsTree book Negative (IsBelow n) (place_of n)
negative zero is = absurd (cc)
negative (suc zero) is = single_tree book Negative (IsBelow 1) 1 (inr refl) of_argument
negative (suc (suc zero)) is = absurd (cc)
negative (suc (suc (suc s))) is = absurd (cc)

unfoldable pub identity_layout : IsLayout book identity identity R IsPair place_of type_place
identity_layout = record {
  type = type_layout book 0 1 2 7 0 refl refl refl refl;
  parts = parts_at;
  value = λ n. 1;
  heads = heads_at;
  values = values;
  positive = positive;
  negative = negative;
}

-- the name's type, whose variable stands for the node of the state that goes in
abbrev pub known_variables : ℕ → List ℕ
known_variables = variables book 4 5 6 7 1 refl refl refl refl

abbrev pub IsPlace : ℕ → Type 0
IsPlace s = IsTrue true

abbrev pub sign : ℕ → Polarity
sign = polarity_at identity

abbrev IsJoined : ℕ → ℕ → Type 0
IsJoined x i = (n : ℕ) × IsPlace n × (sign n ≡ Negative) × Shows book known_variables n x × (place_of n ≡ i)

only_variable : (s x : ℕ) → Shows book known_variables s x → x ≡ 1
only_variable zero x (i, there, is) = absurd (nothing i there)
only_variable (suc zero) x (i, there, is) = let e : node_at book i ≡ node.Var 1 = subst (λ z. node_at book z ≡ node.Var 1) (contains_one 5 i there) refl in cc
only_variable (suc (suc zero)) x (i, there, is) = let e : node_at book i ≡ node.Var 1 = subst (λ z. node_at book z ≡ node.Var 1) (contains_one 6 i there) refl in cc
only_variable (suc (suc (suc s))) x (i, there, is) = absurd (nothing i there)

negative_one : (n : ℕ) → polarity_at identity n ≡ Negative → n ≡ 1
negative_one zero is = absurd (cc)
negative_one (suc zero) is = refl
negative_one (suc (suc zero)) is = absurd (cc)
negative_one (suc (suc (suc s))) is = absurd (cc)

positive_shows : (p x : ℕ) → polarity_at identity p ≡ Positive → Shows book known_variables p x → p ≡ 2
positive_shows zero x is (i, there, e) = absurd (nothing i there)
positive_shows (suc zero) x is shows = absurd (cc)
positive_shows (suc (suc zero)) x is shows = refl
positive_shows (suc (suc (suc s))) x is (i, there, e) = absurd (nothing i there)

joined_tree : IsTree book Positive (IsJoined 1) 1
joined_tree = single_tree book Positive (IsJoined 1) 1 (1, refl, refl, (5, Contains-here 5 [], refl), refl) (λ j it. sym it.4 ∙ ap place_of (negative_one it.0 it.2))

pub identity_copied : IsCopied book identity identity known_variables (λ s. s)
identity_copied = record {
  polarity = λ s. refl;
  heads =
      λ s.
      within-more (λ x y. x ≡ y) (λ x y. Unit {0} × (x ≡ y)) (λ x y e. (tt, e)) (sign s) (parts_of (head_at identity s)) (parts_of (head_at identity s))
      (within-self (sign s) (parts_of (head_at identity s)));
  flows =
      λ n p x is_n is_p shows shows'.
      subst (λ z. HasFlow identity z p) (sym (negative_one n is_n))
      (subst (λ z. HasFlow identity 1 z) (sym (positive_shows p x is_p shows')) (Contains-here (flow 1 2) []));
}

pub identity_puts : ArePuts book IsPlace sign known_variables place_of (λ s. s) (record { variable = 1; node = 1 } ∷ [])
identity_puts = record {
  joined = λ x. 1;
  put = λ s x at_s shows. subst (λ z. put_at (record { variable = 1; node = 1 } ∷ []) z ≡ Some 1) (sym (only_variable s x shows)) refl;
  tree = λ s x at_s shows. subst (λ z. IsTree book Positive (IsJoined z) 1) (sym (only_variable s x shows)) joined_tree;
}

pub identity_places : (s : ℕ) → place_of s < length book
identity_places zero = omega arith
identity_places (suc zero) = omega arith
identity_places (suc (suc zero)) = omega arith
identity_places (suc (suc (suc s))) = omega arith

-- the term: the use of the binder, and the function
abbrev root : ℕ → ℕ
root zero = 2
root (suc i) = 0

pub identity_posed : IsPosed (postorder 0 (fun 0 0 (bound 0 0))) identity NoGoal root (λ x. 1) (λ scope i. ⊥) [] 1 (fun 0 0 (bound 0 0))
unfolding postorder before
identity_posed = (0, refl, All-nil (λ y. y < 0), refl, refl, (refl, Contains-here 0 [], Contains-here (flow 1 2) []))
