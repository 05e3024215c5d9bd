-- The tops that have each variable, and the edges between them, one after another.
use Rattle.std.proofs.Common.{◌≡◌, ◌↔◌, ◌⊎◌, inl, inr, ℕ, ◌+◌, ◌<◌, ◌≤◌, List, [], take, refl, sym, ap, ◌∙◌, subst, arith, length, get_or, All, Contains, Some, None}
use Rattle.std.specs.Prelude.{Option, set}
use Rattle.std.proofs.lemmas.Bool.{cases_eq}
use Rattle.std.proofs.lemmas.List.{get_or_default, get_or_past, length-set, get_or-set_same, get_or-set_other, take_all}
use Rattle.mls_book.specs.declared.book.Node.{Node}
use Rattle.mls_book.specs.declared.book.Node.TheVariants as node
use Rattle.mls_book.specs.Books.{node_at}
use Rattle.mls_book.proofs.LongerBooks.{below_or_more}
use Rattle.mls_automaton.specs.declared.automaton.Polarity.{Polarity}
use Rattle.mls_automaton.specs.declared.automaton.Polarity.TheVariants.{Positive, Negative}
use Rattle.mls_automaton.specs.declared.automaton.State.{State}
use Rattle.mls_automaton.specs.declared.automaton.Flow.{Flow}
use Rattle.mls_automaton.specs.Automata.{Automaton, empty_head, flow, state_at, HasFlow, IsState}
use Rattle.mls_automaton.proofs.Lists.{All-contained}
use Rattle.mls_automaton.proofs.Searches.{next-cases, next-last, next-more}
use Rattle.mls_scheme.specs.ReadAutomata.{HasVariable}
use Rattle.mls_scheme.specs.steps.Layers.{AreAtoms}
use Rattle.mls_scheme.specs.steps.Signs.{sign_at}
use Rattle.mls_scheme.specs.steps.States.{AreNodeStates, IsNodeState}
use Rattle.mls_scheme.specs.steps.Uses.{uses_at, AddsUses, AreUses, AreUsesTo, AreVariablesBelow, IsAmong, IsEdge, IsUsedPair}

no_member : (x : ℕ) → Contains [] x → ⊥
no_member x it = let low : it.0 < 0 = it.1 in omega arith

in_list : (xs : List ℕ) (i d x : ℕ) → get_or xs i d ≡ x → i < length xs → Contains xs x
in_list xs i d x e low = (i, low, get_or_default xs i x d low ∙ e)

-- the variable of one atom
pub use-here : (y : Node) (v i : ℕ) (old : List (List ℕ)) (d was new : List ℕ) → y ≡ node.Var v → v < length old → was ≡ get_or old v d
    → ((j : ℕ) → Contains new j ↔ (j ≡ i) ⊎ Contains was j) → AddsUses (λ x. y ≡ node.Var x) i old (set old v new)
use-here y v i old d was new is low at adds = record {
  size = length-set old v new;
  uses = λ x k. go x k (cases_eq x v);
}
  where
    go : (x k : ℕ) → (x ≡ v) ⊎ (x ≡ v → ⊥) → Contains (uses_at (set old v new) x) k ↔ Contains (uses_at old x) k ⊎ ((y ≡ node.Var x) × (k ≡ i))
    go x k (inl same) =
        let here : uses_at (set old v new) x ≡ new = ap (uses_at (set old v new)) same ∙ get_or-set_same old v new [] low in
        let before : was ≡ uses_at old x = at ∙ (get_or_default old v d [] low ∙ ap (uses_at old) (sym same)) in (
          λ it. elim ((adds k).0 (subst (λ s. Contains s k) here it)) [
            | inl e ↦ inr (is ∙ ap node.Var (sym same), e)
            | inr there ↦ inl (subst (λ s. Contains s k) before there)
          ],
          λ it. subst (λ s. Contains s k) (sym here) (elim it [
            | inl there ↦ (adds k).1 (inr (subst (λ s. Contains s k) (sym before) there))
            | inr e ↦ (adds k).1 (inl e.1)
          ]),
        )
    go x k (inr other) =
        let here : uses_at (set old v new) x ≡ uses_at old x = get_or-set_other old v x new [] other in (
          λ it. inl (subst (λ s. Contains s k) here it),
          λ it. elim it [
            | inl there ↦ subst (λ s. Contains s k) (sym here) there
            | inr e ↦ let two : node.Var x ≡ node.Var v = sym e.0 ∙ is in let same : x ≡ v = cc in absurd (other same)
          ],
        )

-- the next atom
pub uses-next : (nodes : List Node) (list : List ℕ) (n d i : ℕ) (first old new : List (List ℕ)) (y : Node) → n < length list
    → AddsUses (IsAmong nodes (take n list)) i first old → y ≡ node_at nodes (get_or list n d) → AddsUses (λ x. y ≡ node.Var x) i old new
    → AddsUses (IsAmong nodes (take (n + 1) list)) i first new
uses-next nodes list n d i first old new y low before is adds = record {
  size = adds.size ∙ before.size;
  uses = λ x k. (
    λ it. elim ((adds.uses x k).0 it) [
      | inl was ↦ elim ((before.uses x k).0 was) [
        | inl there ↦ inl there
        | inr earlier ↦ inr ((earlier.0.0, next-more list n d low earlier.0.0 earlier.0.1, earlier.0.2), earlier.1)
      ]
      | inr one ↦ inr ((get_or list n d, next-last list n d low, sym is ∙ one.0), one.1)
    ],
    λ it. elim it [
      | inl there ↦ (adds.uses x k).1 (inl ((before.uses x k).1 (inl there)))
      | inr one ↦ elim (next-cases list n d low one.0.0 one.0.1) [
        | inl was ↦ (adds.uses x k).1 (inl ((before.uses x k).1 (inr ((one.0.0, was, one.0.2), one.1))))
        | inr last ↦ (adds.uses x k).1 (inr (is ∙ (ap (node_at nodes) last ∙ one.0.2), one.1))
      ]
    ],
  );
}

-- all atoms of a top
pub uses-top : (P : Type 0) (nodes : List Node) (i : ℕ) (list : List ℕ) (old new : List (List ℕ)) → P → AreAtoms nodes i list → AddsUses (IsAmong nodes list) i old new → AddsUses (λ x. P × HasVariable nodes i x) i old new
uses-top P nodes i list old new it are adds = record {
  size = adds.size;
  uses = λ x k. (
    λ there. elim ((adds.uses x k).0 there) [
      | inl was ↦ inl was
      | inr one ↦ inr ((it, (one.0.0, are.same.0 one.0.0 one.0.1, one.0.2)), one.1)
    ],
    λ there. elim there [
      | inl was ↦ (adds.uses x k).1 (inl was)
      | inr one ↦ (adds.uses x k).1 (inr ((one.0.1.0, are.same.1 one.0.1.0 one.0.1.1, one.0.1.2), one.1))
    ],
  );
}

-- a top of the other polarity
pub uses-other : (P : Type 0) (nodes : List Node) (i : ℕ) (old : List (List ℕ)) → (P → ⊥) → AddsUses (λ x. P × HasVariable nodes i x) i old old
uses-other P nodes i old none = record {
  size = refl;
  uses = λ x k. (λ there. inl there, λ there. elim there [ inl was ↦ was | inr one ↦ absurd (none one.0.0) ]);
}

-- what has a sign is in the list
signed-low : (signs : List (Option Polarity)) (k : ℕ) (q : Polarity) → sign_at signs k ≡ Some q → k < length signs
signed-low signs k q e = go (below_or_more k (length signs))
  where
    go : (k < length signs) ⊎ ((j : ℕ) × (k ≡ length signs + j)) → k < length signs
    go (inl lower) = lower
    go (inr (j, more)) = let past : sign_at signs k ≡ None = get_or_past signs k None (omega arith) in absurd (cc)

module _ (nodes : List Node) (signs : List (Option Polarity)) (p : Polarity) (vars : ℕ) where
  pub uses-first : (uses : List (List ℕ)) → length uses ≡ vars → ((x : ℕ) → uses_at uses x ≡ []) → AreUsesTo 0 nodes signs p vars uses
  uses-first uses size none = record {
    size = size;
    members = λ x k. (λ it. absurd (no_member k (subst (λ s. Contains s k) (none x) it)), λ it. let low : k < 0 = it.0 in absurd (omega arith));
  }

  -- the next top
  pub uses-more : (i : ℕ) (d : Option Polarity) (old new : List (List ℕ)) → i < length signs → AreUsesTo i nodes signs p vars old
      → AddsUses (λ x. (get_or signs i d ≡ Some p) × HasVariable nodes i x) i old new → AreUsesTo (i + 1) nodes signs p vars new
  uses-more i d old new low before adds = record {
    size = adds.size ∙ before.size;
    members = λ x k. (
      λ it. elim ((adds.uses x k).0 it) [
        | inl was ↦ let one = (before.members x k).0 was in let lower : k < i = one.0 in (omega arith, one.1, one.2)
        | inr one ↦
            let same : k ≡ i = one.1 in
            let here : (sign_at signs k ≡ Some p) × HasVariable nodes k x = subst (λ j. (sign_at signs j ≡ Some p) × HasVariable nodes j x) (sym same) (sym default ∙ one.0.0, one.0.1) in
            (omega arith, here.0, here.1)
      ],
      λ it. go x k it (below_or_more k i),
    );
  }
    where
      default : get_or signs i d ≡ sign_at signs i
      default = get_or_default signs i d None low

      go : (x k : ℕ) → (k < i + 1) × (sign_at signs k ≡ Some p) × HasVariable nodes k x → (k < i) ⊎ ((j : ℕ) × (k ≡ i + j)) → Contains (uses_at new x) k
      go x k it (inl lower) = (adds.uses x k).1 (inl ((before.members x k).1 (lower, it.1, it.2)))
      go x k it (inr (j, e)) =
          let high : k < i + 1 = it.0 in
          let same : k ≡ i = omega arith in
          let here : (sign_at signs i ≡ Some p) × HasVariable nodes i x = subst (λ j. (sign_at signs j ≡ Some p) × HasVariable nodes j x) same (it.1, it.2) in
          (adds.uses x k).1 (inr ((default ∙ here.0, here.1), same))

  pub uses-all : (i : ℕ) (uses : List (List ℕ)) → length signs ≤ i → AreUsesTo i nodes signs p vars uses → AreUses nodes signs p vars uses
  uses-all i uses past are = record {
    size = are.size;
    members = λ x k. (
      λ it. let one = (are.members x k).0 it in (signed-low signs k p one.1, one.1, one.2),
      λ it. let low : k < length signs = it.0 in (are.members x k).1 ((omega arith), it.1, it.2),
    );
  }

  -- these tops are states of this polarity
  pub uses-states : (a : Automaton) (uses : List (List ℕ)) → length signs ≡ length nodes → AreNodeStates nodes signs a → AreUses nodes signs p vars uses → (x : ℕ) → All (IsState a p) (uses_at uses x)
  uses-states a uses size states are x =
      All-contained (IsState a p) (uses_at uses x)
      (λ k it.
      let one = (are.members x k).0 it in
      let same : length a.states ≡ length nodes = states.size in
      let low : k < length signs = one.0 in
      let there : k < length nodes = omega arith in
      record { in_range = omega arith; polarity = (subst (λ o. IsNodeState nodes k o (state_at a k)) one.1 (states.state k there)).polarity })

-- edges
same_states : (a b : Automaton) (p : Polarity) (s : ℕ) → b.states ≡ a.states → IsState a p s → IsState b p s
same_states a b p s same is = record {
  in_range = subst (λ (ss : List State). s < length ss) (sym same) is.in_range;
  polarity = ap (λ (ss : List State). (get_or ss s (record { polarity = Positive; head = empty_head })).polarity) same ∙ is.polarity;
}

pub same_all : (a b : Automaton) (p : Polarity) (list : List ℕ) → b.states ≡ a.states → All (IsState a p) list → All (IsState b p) list
same_all a b p list same all k d low = same_states a b p (get_or list k d) same (all k d low)

pub set_states : (a b : Automaton) (p : Polarity) (uses : List (List ℕ)) (x : ℕ) (d list : List ℕ) → x < length uses → list ≡ get_or uses x d → b.states ≡ a.states
    → ((x : ℕ) → All (IsState a p) (uses_at uses x)) → All (IsState b p) list
set_states a b p uses x d list low is same all =
    subst (All (IsState b p)) (sym (is ∙ get_or_default uses x d [] low)) (same_all a b p (uses_at uses x) same (all x))

pub pairs-next : (a old new : Automaton) (list ends : List ℕ) (i d : ℕ) → i < length list
    → ((n p : ℕ) → HasFlow old n p ↔ HasFlow a n p ⊎ (Contains (take i list) n × Contains ends p))
    → ((n p : ℕ) → HasFlow new n p ↔ HasFlow old n p ⊎ ((n ≡ get_or list i d) × Contains ends p))
    → (n p : ℕ) → HasFlow new n p ↔ HasFlow a n p ⊎ (Contains (take (i + 1) list) n × Contains ends p)
pairs-next a old new list ends i d low before adds n p = (
  λ it. elim ((adds n p).0 it) [
    | inl was ↦ elim ((before n p).0 was) [
      | inl first ↦ inl first
      | inr earlier ↦ inr (next-more list i d low n earlier.0, earlier.1)
    ]
    | inr one ↦ inr (subst (Contains (take (i + 1) list)) (sym one.0) (next-last list i d low), one.1)
  ],
  λ it. elim it [
    | inl first ↦ (adds n p).1 (inl ((before n p).1 (inl first)))
    | inr one ↦ elim (next-cases list i d low n one.0) [
      | inl was ↦ (adds n p).1 (inl ((before n p).1 (inr (was, one.1))))
      | inr last ↦ (adds n p).1 (inr (sym last, one.1))
    ]
  ],
)

pub pairs-all : (a new : Automaton) (list all ends : List ℕ) (i : ℕ) → length list ≤ i → list ≡ all
    → ((n p : ℕ) → HasFlow new n p ↔ HasFlow a n p ⊎ (Contains (take i list) n × Contains ends p))
    → (n p : ℕ) → HasFlow new n p ↔ HasFlow a n p ⊎ (Contains all n × Contains ends p)
pairs-all a new list all ends i past same is = subst (λ xs. (n p : ℕ) → HasFlow new n p ↔ HasFlow a n p ⊎ (Contains xs n × Contains ends p)) (take_all i list past ∙ same) is

abbrev HasPairsTo : ℕ → List (List ℕ) → List (List ℕ) → Automaton → Automaton → Type 0
HasPairsTo i negative positive a new = (n p : ℕ) → HasFlow new n p ↔ HasFlow a n p ⊎ ((x : ℕ) × (x < i) × IsUsedPair negative positive x n p)

-- the next variable
pub edges-more : (a old new : Automaton) (negative positive : List (List ℕ)) (i : ℕ) (d d' ns ps : List ℕ) → i < length negative → length negative ≡ length positive
    → ns ≡ get_or negative i d → ps ≡ get_or positive i d' → HasPairsTo i negative positive a old
    → ((n p : ℕ) → HasFlow new n p ↔ HasFlow old n p ⊎ (Contains ns n × Contains ps p)) → HasPairsTo (i + 1) negative positive a new
edges-more a old new negative positive i d d' ns ps low size is is' before adds n p = (
  λ it. elim ((adds n p).0 it) [
    | inl was ↦ elim ((before n p).0 was) [
      | inl first ↦ inl first
      | inr one ↦ let lower : one.0 < i = one.1 in inr (one.0, (omega arith), one.2)
    ]
    | inr one ↦ inr (i, (omega arith), (subst (λ s. Contains s n) of one.0, subst (λ s. Contains s p) of' one.1))
  ],
  λ it. elim it [
    | inl first ↦ (adds n p).1 (inl ((before n p).1 (inl first)))
    | inr one ↦ go one.0 one.1 one.2 (below_or_more one.0 i)
  ],
)
  where
    of : ns ≡ uses_at negative i
    of = is ∙ get_or_default negative i d [] low

    of' : ps ≡ uses_at positive i
    of' = is' ∙ get_or_default positive i d' [] (omega arith)

    go : (x : ℕ) → x < i + 1 → IsUsedPair negative positive x n p → (x < i) ⊎ ((j : ℕ) × (x ≡ i + j)) → HasFlow new n p
    go x high pair (inl lower) = (adds n p).1 (inl ((before n p).1 (inr (x, lower, pair))))
    go x high pair (inr (j, e)) =
        let same : x ≡ i = omega arith in
        let here : IsUsedPair negative positive i n p = subst (λ y. IsUsedPair negative positive y n p) same pair in
        (adds n p).1 (inr (subst (λ s. Contains s n) (sym of) here.0, subst (λ s. Contains s p) (sym of') here.1))

pub edges-first : (a : Automaton) (negative positive : List (List ℕ)) → HasPairsTo 0 negative positive a a
edges-first a negative positive n p = (λ it. inl it, λ it. elim it [ inl first ↦ first | inr one ↦ let low : one.0 < 0 = one.1 in absurd (omega arith) ])

pub edges-whole : (a new : Automaton) (negative positive : List (List ℕ)) (i : ℕ) → length negative ≤ i → HasPairsTo i negative positive a new
    → (n p : ℕ) → HasFlow new n p ↔ HasFlow a n p ⊎ ((x : ℕ) × IsUsedPair negative positive x n p)
edges-whole a new negative positive i past is n p = (
  λ it. elim ((is n p).0 it) [ inl first ↦ inl first | inr one ↦ inr (one.0, one.2) ],
  λ it. elim it [
    | inl first ↦ (is n p).1 (inl first)
    | inr one ↦ go one.0 one.1 (below_or_more one.0 i)
  ],
)
  where
    go : (x : ℕ) → IsUsedPair negative positive x n p → (x < i) ⊎ ((j : ℕ) × (x ≡ i + j)) → HasFlow new n p
    go x pair (inl lower) = (is n p).1 (inr (x, lower, pair))
    go x pair (inr (j, e)) =
        let none : uses_at negative x ≡ [] = get_or_past negative x [] (omega arith) in
        absurd (no_member n (subst (λ s. Contains s n) none pair.0))

-- the edges of a book
pub edges-are : (nodes : List Node) (signs : List (Option Polarity)) (vars : ℕ) (a new : Automaton) (negative positive : List (List ℕ))
    → AreNodeStates nodes signs a → AreUses nodes signs Negative vars negative → AreUses nodes signs Positive vars positive
    → ((n p : ℕ) → HasFlow new n p ↔ HasFlow a n p ⊎ ((x : ℕ) × IsUsedPair negative positive x n p))
    → (n p : ℕ) → HasFlow new n p ↔ IsEdge nodes signs n p
edges-are nodes signs vars a new negative positive states are_negative are_positive is n p = (
  λ it. elim ((is n p).0 it) [
    | inl first ↦ absurd (none first)
    | inr one ↦
        let m = (are_negative.members one.0 n).0 one.1.0 in
        let q = (are_positive.members one.0 p).0 one.1.1 in
        (m.1, q.1, (one.0, m.2, q.2))
  ],
  λ it. (is n p).1 (inr (
    it.2.0,
    (
      (are_negative.members it.2.0 n).1 (signed-low signs n Negative it.0, it.0, it.2.1),
      (are_positive.members it.2.0 p).1 (signed-low signs p Positive it.1, it.1, it.2.2),
    ),
  )),
)
  where
    none : HasFlow a n p → ⊥
    none it =
        let there : Contains [] (flow n p) = subst (λ (fs : List Flow). Contains fs (flow n p)) states.no_flows it in
        let low : there.0 < 0 = there.1 in
        omega arith

-- without variables there is no edge
pub edges-none : (nodes : List Node) (signs : List (Option Polarity)) (vars : ℕ) (a : Automaton) → vars ≡ 0 → AreVariablesBelow vars nodes → AreNodeStates nodes signs a → (n p : ℕ) → HasFlow a n p ↔ IsEdge nodes signs n p
edges-none nodes signs vars a none below states n p = (
  λ edge. absurd (no_flow (flow n p) (subst (λ (es : List Flow). Contains es (flow n p)) states.no_flows edge)),
  λ edge. absurd (no_variable edge.2.0 edge.2.1.0 edge.2.1.2),
)
  where
    no_flow : (e : Flow) → Contains [] e → ⊥
    no_flow e it = let low : it.0 < 0 = it.1 in omega arith

    no_variable : (x j : ℕ) → node_at nodes j ≡ node.Var x → ⊥
    no_variable x j is = go (below_or_more j (length nodes))
      where
        go : (j < length nodes) ⊎ ((k : ℕ) × (j ≡ length nodes + k)) → ⊥
        go (inl low) = let under : x < vars = below j x low is in omega (arith, none)
        go (inr (k, more)) = let past : node_at nodes j ≡ node.Bot = get_or_past nodes j node.Bot (omega (arith, more)) in absurd (cc)
