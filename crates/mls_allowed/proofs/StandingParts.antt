-- The nodes of the parts of a state's head, told by their nodes.
--     arrow_at        a function's node has the trees of its domain and its codomain
--     record_at       a record's node has the fields of its sets
--     field_there, field_some     a field is there where its set is
use Rattle.std.proofs.Common.{◌≡◌, ◌↔◌, ℕ, List, refl, sym, ◌∙◌, subst, Option, Some, None}
use Rattle.std.specs.Prelude.{IsSome, Contains}
use Rattle.mls_book.specs.declared.book.Field.{Field}
use Rattle.mls_book.specs.declared.book.NodeId.{NodeId}
use Rattle.mls_book.specs.declared.book.Node.{Node}
use Rattle.mls_book.specs.declared.book.Node.TheVariants as node
use Rattle.mls_book.specs.Books.{node_at, field_at}
use Rattle.mls_automaton.specs.declared.automaton.Arms.{Arms}
use Rattle.mls_automaton.specs.declared.automaton.HeadKind.{HeadKind}
use Rattle.mls_automaton.specs.declared.automaton.HeadKind.TheVariants as kind
use Rattle.mls_automaton.specs.declared.automaton.Polarity.{Polarity}
use Rattle.mls_automaton.specs.Automata.{opposite}
use Rattle.mls_automaton.specs.Heads.{Parts}
use Rattle.mls_layout.specs.Heads.{IsFieldAt, IsFunctionAt, IsRecordAt, IsKindAt, AreParts}
use Rattle.mls_layout.specs.Trees.{IsTree, IsPlaceIn}

module _ (book : List Node) (place : ℕ → ℕ) (p : Polarity) where
  -- a field is there where its set is, and it is the tree of the set
  pub field_there : (set : List ℕ) (o : Option NodeId) → IsFieldAt book place p (Some set) o → (i : NodeId) × (o ≡ Some i) × IsTree book p (IsPlaceIn place set) i.0
  field_there set None is = absurd is
  field_there set (Some i) is = (i, refl, is)

  pub field_some : (x : Option (List ℕ)) (o : Option NodeId) → IsFieldAt book place p x o → IsSome o ↔ IsSome x
  field_some None None is = (λ h. h, λ h. h)
  field_some None (Some i) is = absurd is
  field_some (Some set) None is = absurd is
  field_some (Some set) (Some i) is = (λ h. refl, λ h. refl)

  module _ (h : Parts) (parts : List ℕ) (are : AreParts book place p h parts) (i : ℕ) (there : Contains parts i) where
    pub arrow_at : (arms : Arms) (from to : NodeId) → h.function ≡ Some arms → node_at book i ≡ node.Arrow from to
        → IsTree book (opposite p) (IsPlaceIn place arms.domain) from.0 × IsTree book p (IsPlaceIn place arms.codomain) to.0
    arrow_at arms from to has is = go (are.all i there).0 (are.all i there).1
      where
        of_function : IsFunctionAt book place p h i → IsTree book (opposite p) (IsPlaceIn place arms.domain) from.0 × IsTree book p (IsPlaceIn place arms.codomain) to.0
        of_function it =
            let same : it.arms ≡ arms = (let e : Some it.arms ≡ Some arms = sym it.has ∙ has in cc) in
            let ends : node.Arrow it.from it.to ≡ node.Arrow from to = sym it.node ∙ is in
            let same_from : it.from ≡ from = cc in
            let same_to : it.to ≡ to = cc in (
              subst (λ (z : NodeId). IsTree book (opposite p) (IsPlaceIn place arms.domain) z.0) same_from (subst (λ (z : Arms). IsTree book (opposite p) (IsPlaceIn place z.domain) it.from.0) same it.domain),
              subst (λ (z : NodeId). IsTree book p (IsPlaceIn place arms.codomain) z.0) same_to (subst (λ (z : Arms). IsTree book p (IsPlaceIn place z.codomain) it.to.0) same it.codomain),
            )

        go : (k : HeadKind) → IsKindAt book place p h k i → IsTree book (opposite p) (IsPlaceIn place arms.domain) from.0 × IsTree book p (IsPlaceIn place arms.codomain) to.0
        go kind.Bool it = let other : node_at book i ≡ node.Bool = it.1 in absurd (cc)
        go kind.Int it = let other : node_at book i ≡ node.Int = it.1 in absurd (cc)
        go kind.Function it = of_function it
        go kind.Rcd it = let other : node_at book i ≡ node.Rcd it.fields = it.node in absurd (cc)

    pub record_at : (sets : List ℕ → Option (List ℕ)) (fields : List Field) → h.fields ≡ Some sets → node_at book i ≡ node.Rcd fields
        → (label : List ℕ) → IsFieldAt book place p (sets label) (field_at label fields)
    record_at sets fields has is label = go (are.all i there).0 (are.all i there).1
      where
        of_record : IsRecordAt book place p h i → IsFieldAt book place p (sets label) (field_at label fields)
        of_record it =
            let same : it.sets ≡ sets = (let e : Some it.sets ≡ Some sets = sym it.has ∙ has in cc) in
            let same_fields : it.fields ≡ fields = (let e : node.Rcd it.fields ≡ node.Rcd fields = sym it.node ∙ is in cc) in
            subst (λ (z : List Field). IsFieldAt book place p (sets label) (field_at label z)) same_fields
            (subst (λ (z : List ℕ → Option (List ℕ)). IsFieldAt book place p (z label) (field_at label it.fields)) same (it.field label))

        go : (k : HeadKind) → IsKindAt book place p h k i → IsFieldAt book place p (sets label) (field_at label fields)
        go kind.Bool it = let other : node_at book i ≡ node.Bool = it.1 in absurd (cc)
        go kind.Int it = let other : node_at book i ≡ node.Int = it.1 in absurd (cc)
        go kind.Function it = let other : node_at book i ≡ node.Arrow it.from it.to = it.node in absurd (cc)
        go kind.Rcd it = of_record it
