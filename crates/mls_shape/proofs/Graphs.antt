-- The edges of a graph, and its parents.
--     places_none, places_more, places_all   the places of one head
--     edges_none, edges_more                 one more state
--     added_parents                          one more edge
--     parents_none, parents_more             one more edge, of all
--     parents_nodes                          parents are nodes
--     edges_below                            the ends of edges are states
use Rattle.std.proofs.Common.{◌≡◌, ◌⊎◌, inl, inr, ◌↔◌, ℕ, ◌+◌, ◌<◌, List, [], ◌∷◌, ◌++◌, refl, sym, ap, ◌∙◌, subst, arith, length, map, get_or, All, Contains, Some, None}
use Rattle.std.specs.Prelude.{Option}
use Rattle.std.proofs.lemmas.Bool.{cases_eq}
use Rattle.std.proofs.lemmas.List.Elements.{All-append, All-head, All-tail, Contains-append_left, Contains-append_right, Contains-append_cases}
use Rattle.mls_automaton.specs.declared.automaton.Polarity.{Polarity}
use Rattle.mls_automaton.specs.declared.automaton.Arms.{Arms}
use Rattle.mls_automaton.specs.declared.automaton.FieldSet.{FieldSet}
use Rattle.mls_automaton.specs.Automata.{Automaton, polarity_at, head_at, opposite, IsState}
use Rattle.mls_automaton.specs.Models.{HasArmsIn, HasFieldsIn, HasSingleArms, HasSingleFields, IsClosed, IsDeterministic, IsSingle}
use Rattle.mls_automaton.proofs.Lists.{All-contained, All-one, Contains-here, Contains-cases}
use Rattle.mls_shape.specs.declared.graph.Edge.{Edge}
use Rattle.mls_shape.specs.steps.Classes.{one_of}
use Rattle.mls_shape.specs.steps.Edges.{AddsHolders}
use Rattle.mls_shape.specs.steps.Graphs.{children, function_children, field_children, edge_at, AddsEdges, AddsParents, AreEdges, AreParents, HasEndsBelow, IsParentBy, IsPlace}
use Rattle.mls_shape.specs.steps.Partitions.{AreNodes}
use Rattle.mls_shape.proofs.Partitions.{no_member}
use Rattle.mls_shape.proofs.Refining.{listed_low, only}

-- one more element
snoc : {X : Type 0} (xs : List X) (x y : X) → Contains (xs ++ x ∷ []) y → Contains xs y ⊎ (x ≡ y)
snoc xs x y there =
    elim (Contains-append_cases xs (x ∷ []) y there) [
      | inl before ↦ inl before
      | inr last ↦
          elim (Contains-cases x [] y last) [
            | inl same ↦ inr same
            | inr none ↦ let low : none.0 < 0 = none.1 in absurd (omega arith)
          ]
    ]

last_of : {X : Type 0} (xs : List X) (x : X) → Contains (xs ++ x ∷ []) x
last_of xs x = Contains-append_right xs (x ∷ []) x (Contains-here x [])

-- the places of one head
abbrev pub AddsPlaces : ℕ → List ℕ → ℕ → List Edge → List Edge → Type 0
AddsPlaces source named upto old new = (e : Edge) → Contains new e ↔ (Contains old e ⊎ ((e.source ≡ source) × (e.place < upto) × (get_or named e.place 0 ≡ e.target)))

pub places_none : (source : ℕ) (named : List ℕ) (old : List Edge) → AddsPlaces source named 0 old old
places_none source named old e = (
  (λ there. inl there),
  (λ it. elim it [
    | inl there ↦ there
    | inr added ↦ let low : e.place < 0 = added.1 in absurd (omega arith)
  ]),
)

pub places_more : (source : ℕ) (named : List ℕ) (k target : ℕ) (old mid : List Edge) → target ≡ get_or named k 0 → AddsPlaces source named k old mid
    → AddsPlaces source named (k + 1) old (mid ++ record { source = source; place = k; target = target } ∷ [])
places_more source named k target old mid at adds e = (
  (λ there. elim (snoc mid new e there) [
    | inl before ↦
        elim ((adds e).0 before) [
          | inl first ↦ inl first
          | inr added ↦ let low : e.place < k = added.1 in inr (added.0, omega arith, added.2)
        ]
    | inr same ↦ subst (λ e. Contains old e ⊎ ((e.source ≡ source) × (e.place < k + 1) × (get_or named e.place 0 ≡ e.target))) same (inr (refl, omega arith, sym at))
  ]),
  (λ it. elim it [
    | inl first ↦ Contains-append_left mid (new ∷ []) e ((adds e).1 (inl first))
    | inr added ↦
        let low : e.place < k + 1 = added.1 in
        elim (cases_eq e.place k) [
          | inl same ↦
              let is : e.target ≡ target = sym added.2 ∙ (ap (λ i. get_or named i 0) same ∙ sym at) in
              subst (Contains (mid ++ new ∷ [])) (λ i. record { source = sym added.0 i; place = sym same i; target = sym is i }) (last_of mid new)
          | inr other ↦ Contains-append_left mid (new ∷ []) e ((adds e).1 (inr (added.0, omega arith, added.2)))
        ]
  ]),
)
  where
    new : Edge
    new = record { source = source; place = k; target = target }

pub places_all : (source : ℕ) (named : List ℕ) (k : ℕ) (old new : List Edge) → k ≡ length named → AddsPlaces source named k old new → AddsEdges source named old new
places_all source named k old new all adds e =
    let it = subst (λ n. Contains new e ↔ (Contains old e ⊎ ((e.source ≡ source) × (e.place < n) × (get_or named e.place 0 ≡ e.target)))) all (adds e) in (
      (λ there. elim (it.0 there) [ inl before ↦ inl before | inr added ↦ inr (added.0, (added.1, added.2)) ]),
      (λ there. elim there [ inl before ↦ it.1 (inl before) | inr added ↦ it.1 (inr (added.0, added.1.0, added.1.1)) ]),
    )

-- one more state
pub edges_none : (a : Automaton) → AreEdges a 0 []
edges_none a e = (
  (λ none. let low : none.0 < 0 = none.1 in absurd (omega arith)),
  (λ it. let low : e.source < 0 = it.0 in absurd (omega arith)),
)

pub edges_more : (a : Automaton) (s : ℕ) (old new : List Edge) → AreEdges a s old → AddsEdges s (children (head_at a s)) old new → AreEdges a (s + 1) new
edges_more a s old new are adds e = (
  (λ there. elim ((adds e).0 there) [
    | inl before ↦ let it = (are e).0 before in let low : e.source < s = it.0 in (omega arith, it.1)
    | inr added ↦ let same : e.source ≡ s = added.0 in (omega arith, subst (λ s. IsPlace (children (head_at a s)) e) (sym same) added.1)
  ]),
  (λ it. let low : e.source < s + 1 = it.0 in
      elim (cases_eq e.source s) [
        | inl same ↦ (adds e).1 (inr (same, subst (λ s. IsPlace (children (head_at a s)) e) same it.1))
        | inr other ↦ (adds e).1 (inl ((are e).1 (omega arith, it.1)))
      ]),
)

-- one more edge
pub added_parents : (e : Edge) (node : ℕ) (old mid new : List (List ℕ)) (targets nodes : List ℕ) → targets ≡ e.target ∷ [] → nodes ≡ node ∷ []
    → AddsHolders old mid (λ u j. (u ≡ node) × Contains targets j) → AddsHolders mid new (λ u j. (u ≡ e.source) × Contains nodes j) → AddsParents e node old new
added_parents e node old mid new targets nodes are_targets are_nodes first second = record {
  size = second.same_length ∙ first.same_length;
  just = λ x k low.
      let sizes = first.same_length in (
        (λ there. elim ((second.just x k (omega arith)).0 there) [
          | inl before ↦
              elim ((first.just x k low).0 before) [
                | inl was ↦ inl was
                | inr it ↦ inr (inl (it.0, sym (only e.target k (subst (λ xs. Contains xs k) are_targets it.1))))
              ]
          | inr it ↦ inr (inr (it.0, sym (only node k (subst (λ xs. Contains xs k) are_nodes it.1))))
        ]),
        (λ it. elim it [
          | inl was ↦ (second.just x k (omega arith)).1 (inl ((first.just x k low).1 (inl was)))
          | inr (inl by) ↦
              (second.just x k (omega arith)).1
              (inl ((first.just x k low).1 (inr (by.0, subst (λ (xs : List ℕ). Contains xs k) (sym are_targets) (subst (Contains (e.target ∷ [])) (sym by.1) (Contains-here e.target []))))))
          | inr (inr by) ↦
              (second.just x k (omega arith)).1
              (inr (by.0, subst (λ (xs : List ℕ). Contains xs k) (sym are_nodes) (subst (Contains (node ∷ [])) (sym by.1) (Contains-here node []))))
        ]),
      );
}

pub parents_none : (states : ℕ) (edges : List Edge) (parents : List (List ℕ)) → length parents ≡ states + length edges → All (λ list. list ≡ []) parents → AreParents states edges 0 parents
parents_none states edges parents size empty = record {
  size = size;
  just = λ x k low. (
    (λ there. absurd (no_member x (subst (λ (xs : List ℕ). Contains xs x) (empty k [] (omega arith)) there))),
    (λ it. let none : it.0 < 0 = it.1 in absurd (omega arith)),
  );
}

pub parents_more : (states : ℕ) (edges : List Edge) (i : ℕ) (e : Edge) (old new : List (List ℕ)) → AreParents states edges i old → e ≡ edge_at edges i → AddsParents e (states + i) old new → AreParents states edges (i + 1) new
parents_more states edges i e old new are at adds = record {
  size = adds.size ∙ are.size;
  just = λ x k low.
      let size = are.size in (
        (λ there. elim ((adds.just x k (omega arith)).0 there) [
          | inl before ↦ let it = (are.just x k low).0 before in let less : it.0 < i = it.1 in (it.0, omega arith, it.2)
          | inr by ↦ (i, omega arith, subst (λ e. IsParentBy e (states + i) x k) at by)
        ]),
        (λ it.
            let less : it.0 < i + 1 = it.1 in
            elim (cases_eq it.0 i) [
              | inl same ↦ (adds.just x k (omega arith)).1 (inr (subst (λ e. IsParentBy e (states + i) x k) (sym at) (subst (λ j. IsParentBy (edge_at edges j) (states + j) x k) same it.2)))
              | inr other ↦ (adds.just x k (omega arith)).1 (inl ((are.just x k low).1 (it.0, omega arith, it.2)))
            ]),
      );
}

-- parents are nodes
pub parents_nodes : (states : ℕ) (edges : List Edge) (parents : List (List ℕ)) → All (HasEndsBelow states) edges → AreParents states edges (length edges) parents → AreNodes parents
parents_nodes states edges parents below are k v there =
    let size = are.size in
    let low = listed_low parents k v there in
    let it = (are.just v k (omega arith)).0 there in
    let less : it.0 < length edges = it.1 in
    let source : (edge_at edges it.0).source < states = (below it.0 (record { source = 0; place = 0; target = 0 }) less).0 in
    elim it.2 [
      | inl by ↦ let at : v ≡ states + it.0 = by.0 in omega arith
      | inr by ↦ let at : v ≡ (edge_at edges it.0).source = by.0 in omega arith
    ]

-- the ends of edges are states
module _ (a : Automaton) (closed : IsClosed a) (single : IsDeterministic a) where
  abbrev n : ℕ
  n = length a.states

  one_below : (p : Polarity) (set : List ℕ) → IsSingle set → All (IsState a p) set → one_of set < n
  one_below p set one all = subst (λ (xs : List ℕ). one_of xs < n) (sym one.1) (All-head (IsState a p) one.0 [] (subst (All (IsState a p)) one.1 all)).in_range

  arms_below : (p : Polarity) (o : Option Arms) → HasSingleArms o → HasArmsIn (IsState a) p o → All (λ s. s < n) (function_children o)
  arms_below p None one all = λ k d low. absurd (omega arith)
  arms_below p (Some arms) one all =
      All-append (λ s. s < n) (one_of arms.domain ∷ []) (one_of arms.codomain ∷ [])
      (All-one (λ s. s < n) (one_of arms.domain) (one_below (opposite p) arms.domain one.0 all.0))
      (All-one (λ s. s < n) (one_of arms.codomain) (one_below p arms.codomain one.1 all.1))

  fields_below : (p : Polarity) (o : Option (List FieldSet)) → HasSingleFields o → HasFieldsIn (IsState a) p o → All (λ s. s < n) (field_children o)
  fields_below p None one all = λ k d low. absurd (omega arith)
  fields_below p (Some fields) one all = go fields one all
    where
      go : (fields : List FieldSet) → All (λ (f : FieldSet). IsSingle f.set) fields → All (λ (f : FieldSet). All (IsState a p) f.set) fields → All (λ s. s < n) (map (λ (f : FieldSet). one_of f.set) fields)
      go [] one all = λ k d low. absurd (omega arith)
      go (f ∷ fs) one all =
          All-append (λ s. s < n) (one_of f.set ∷ []) (map (λ (f : FieldSet). one_of f.set) fs)
          (All-one (λ s. s < n) (one_of f.set) (one_below p f.set (All-head (λ (f : FieldSet). IsSingle f.set) f fs one) (All-head (λ (f : FieldSet). All (IsState a p) f.set) f fs all)))
          (go fs (All-tail (λ (f : FieldSet). IsSingle f.set) f fs one) (All-tail (λ (f : FieldSet). All (IsState a p) f.set) f fs all))

  children_below : (s : ℕ) → All (λ t. t < n) (children (head_at a s))
  children_below s =
      All-append (λ t. t < n) (function_children (head_at a s).function) (field_children (head_at a s).fields)
      (arms_below (polarity_at a s) (head_at a s).function (single s).0 (closed.heads s).function)
      (fields_below (polarity_at a s) (head_at a s).fields (single s).1 (closed.heads s).fields)

  pub edges_below : (edges : List Edge) → AreEdges a n edges → All (HasEndsBelow n) edges
  edges_below edges are = All-contained (HasEndsBelow n) edges (λ e there.
      let it = (are e).0 there in
      (it.0, subst (λ t. t < n) it.1.1 (children_below e.source e.place 0 it.1.0)))
