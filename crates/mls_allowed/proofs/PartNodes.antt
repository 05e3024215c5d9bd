-- The nodes of a part (`IsPartNode`) are closed under children, and no variable is among them but those of its type.
--     child_such          where a node names such nodes alone, each child is such
--     part_children       what a node of the part names is one
--     part_of_state       so are the parts of the heads of its states
--     part_variable       a variable among them is one that a state of the type shows
--     part_clear          so none of them stands for another node, where those of the type do not
use Rattle.std.proofs.Common.{◌≡◌, ◌⊎◌, inl, inr, ℕ, List, refl, sym, ◌∙◌, subst, Some, None}
use Rattle.std.specs.Prelude.{Contains, Option}
use Rattle.std.proofs.lemmas.List.Elements.{All-contains}
use Rattle.mls_book.specs.declared.book.Field.{Field}
use Rattle.mls_book.specs.declared.book.NodeId.{NodeId}
use Rattle.mls_book.specs.declared.book.Node.{Node}
use Rattle.mls_book.specs.declared.book.Node.TheVariants as node
use Rattle.mls_book.specs.Books.{node_at, field_at, AreRising, IsOrdered, IsBook}
use Rattle.mls_automaton.specs.declared.automaton.HeadKind.{HeadKind}
use Rattle.mls_automaton.specs.declared.automaton.HeadKind.TheVariants as kind
use Rattle.mls_automaton.specs.declared.automaton.Polarity.{Polarity}
use Rattle.mls_automaton.specs.declared.automaton.Polarity.TheVariants.{Positive, Negative}
use Rattle.mls_automaton.specs.Automata.{Automaton, flow, head_at, polarity_at, HasFlow}
use Rattle.mls_automaton.specs.Heads.{Parts, parts_of}
use Rattle.mls_automaton.specs.Models.{IsClosed}
use Rattle.mls_automaton.proofs.Lists.{All-contained}
use Rattle.mls_deriv.specs.declared.claim.Put.{Put}
use Rattle.mls_deriv.specs.Pairs.{put_at}
use Rattle.mls_lines.specs.Conclusions.{AreClear}
use Rattle.mls_typenodes.proofs.UsedTops.{field_found}
use Rattle.mls_layout.specs.Heads.{IsFieldAt, IsKindAt}
use Rattle.mls_layout.specs.Layouts.{Enters, IsLayout}
use Rattle.mls_layout.specs.Trees.{HasMember, HasOnly, IsPlaceIn, here, first, member, none, none_node, second, two, two_node}
use Rattle.mls_layout.specs.Uses.{NamesOnly, Shows}
use Rattle.mls_allowed.specs.PartNodes.{HasChild, IsPartNode, named, of_state, of_type}

-- where each child is such, the node names such nodes alone
children_of : (P : ℕ → Type 0) (n : Node) → ((k : ℕ) → HasChild n k → P k) → NamesOnly P n
children_of P node.Bot all = tt
children_of P node.Top all = tt
children_of P (node.Var x) all = tt
children_of P node.Bool all = tt
children_of P node.Int all = tt
children_of P (node.Arrow j k) all = (all j.0 (inl refl), all k.0 (inr refl))
children_of P (node.Rcd fields) all = All-contained (λ (f : Field). P f.node.0) fields (λ f there. all f.node.0 (f, there, refl))
children_of P (node.Join j k) all = (all j.0 (inl refl), all k.0 (inr refl))
children_of P (node.Meet j k) all = (all j.0 (inl refl), all k.0 (inr refl))

-- and the other way round
pub child_such : (P : ℕ → Type 0) (n : Node) (k : ℕ) → NamesOnly P n → HasChild n k → P k
child_such P node.Bot k all child = absurd child
child_such P node.Top k all child = absurd child
child_such P (node.Var x) k all child = absurd child
child_such P node.Bool k all child = absurd child
child_such P node.Int k all child = absurd child
child_such P (node.Arrow i j) k all child = elim child [ inl same ↦ subst P same all.0 | inr same ↦ subst P same all.1 ]
child_such P (node.Rcd fields) k all child = subst P child.2 (All-contains (λ (f : Field). P f.node.0) fields child.0 all child.1)
child_such P (node.Join i j) k all child = elim child [ inl same ↦ subst P same all.0 | inr same ↦ subst P same all.1 ]
child_such P (node.Meet i j) k all child = elim child [ inl same ↦ subst P same all.0 | inr same ↦ subst P same all.1 ]

-- the node of no member names none, and that of two trees these
none_childless : (p : Polarity) (k : ℕ) → HasChild (none_node p) k → ⊥
none_childless Positive k it = it
none_childless Negative k it = it

two_children : (p : Polarity) (l r : NodeId) (k : ℕ) → HasChild (two_node p l r) k → (l.0 ≡ k) ⊎ (r.0 ≡ k)
two_children Positive l r k it = it
two_children Negative l r k it = it

left_child : (p : Polarity) (l r : NodeId) → HasChild (two_node p l r) l.0
left_child Positive l r = inl refl
left_child Negative l r = inl refl

right_child : (p : Polarity) (l r : NodeId) → HasChild (two_node p l r) r.0
right_child Positive l r = inr refl
right_child Negative l r = inr refl

none_no_variable : (p : Polarity) (x : ℕ) → none_node p ≡ node.Var x → ⊥
none_no_variable Positive x e = absurd (cc)
none_no_variable Negative x e = absurd (cc)

two_no_variable : (p : Polarity) (l r : NodeId) (x : ℕ) → two_node p l r ≡ node.Var x → ⊥
two_no_variable Positive l r x e = absurd (cc)
two_no_variable Negative l r x e = absurd (cc)

module _ (book : List Node) (place type_place : ℕ → ℕ) where
  pub part_children : (i : ℕ) → IsPartNode book place type_place i → NamesOnly (IsPartNode book place type_place) (node_at book i)
  part_children i it = children_of (IsPartNode book place type_place) (node_at book i) (λ k child. named i it child)

  -- the members of a tree of the part
  member_of : (p : Polarity) (j i : ℕ) → HasMember book p j i → IsPartNode book place type_place i → IsPartNode book place type_place j
  member_of p j i (here e) it = subst (IsPartNode book place type_place) e it
  member_of p j i (first l r e below) it = member_of p j l.0 below (named i it (subst (λ (n : Node). HasChild n l.0) (sym e) (left_child p l r)))
  member_of p j i (second l r e below) it = member_of p j r.0 below (named i it (subst (λ (n : Node). HasChild n r.0) (sym e) (right_child p l r)))

  -- a tree of trees of such members, of any polarity
  data AreTrees (IsBase : ℕ → Type 0) : ℕ → Type 0 where
    base : {i : ℕ} → IsBase i → AreTrees IsBase i
    nothing : {i : ℕ} (p : Polarity) → node_at book i ≡ none_node p → AreTrees IsBase i
    both : {i : ℕ} (p : Polarity) (l r : NodeId) → node_at book i ≡ two_node p l r → AreTrees IsBase l.0 → AreTrees IsBase r.0 → AreTrees IsBase i

  flat : (IsBase M : ℕ → Type 0) (p : Polarity) → ((j : ℕ) → M j → AreTrees IsBase j) → (i : ℕ) → HasOnly book p M i → AreTrees IsBase i
  flat IsBase M p all i (member it) = all i it
  flat IsBase M p all i (none e) = nothing p e
  flat IsBase M p all i (two l r e one other) = both p l r e (flat IsBase M p all l.0 one) (flat IsBase M p all r.0 other)

  -- the field of a label that the record has is a tree of the places of a set
  field_trees : (IsBase : ℕ → Type 0) (at : ℕ → ℕ) (p : Polarity) → ((s : ℕ) → AreTrees IsBase (at s)) → (set : Option (List ℕ)) (found : Option NodeId) (id : NodeId) → found ≡ Some id
      → IsFieldAt book at p set found → AreTrees IsBase id.0
  field_trees IsBase at p all (Some set) (Some own) id same it =
      let is : own ≡ id = cc in
      subst (λ (n : NodeId). AreTrees IsBase n.0) is (flat IsBase (IsPlaceIn at set) p (λ j place. subst (AreTrees IsBase) place.2 (all place.0)) own.0 it.only)
  field_trees IsBase at p all None (Some own) id same it = absurd it
  field_trees IsBase at p all (Some set) None id same it = absurd it
  field_trees IsBase at p all None None id same it = absurd (cc)

  -- what a part of a head names
  module _ (is_book : IsBook book) (IsBase : ℕ → Type 0) (at : ℕ → ℕ) (all : (s : ℕ) → AreTrees IsBase (at s)) (p : Polarity) (h : Parts) (i k : ℕ) where
    by_kind : (own : HeadKind) → IsKindAt book at p h own i → HasChild (node_at book i) k → AreTrees IsBase k
    by_kind kind.Bool it child = absurd (subst (λ (n : Node). HasChild n k) it.1 child)
    by_kind kind.Int it child = absurd (subst (λ (n : Node). HasChild n k) it.1 child)
    by_kind kind.Function it child =
        elim (subst (λ (n : Node). HasChild n k) it.node child) [
          | inl from ↦ subst (AreTrees IsBase) from (flat IsBase (IsPlaceIn at it.arms.domain) _ (λ j place. subst (AreTrees IsBase) place.2 (all place.0)) it.from.0 it.domain.only)
          | inr to ↦ subst (AreTrees IsBase) to (flat IsBase (IsPlaceIn at it.arms.codomain) p (λ j place. subst (AreTrees IsBase) place.2 (all place.0)) it.to.0 it.codomain.only)
        ]
    by_kind kind.Rcd it child =
        let one = subst (λ (n : Node). HasChild n k) it.node child in
        let rising : AreRising it.fields = subst (IsOrdered i) it.node (is_book i) in
        let field : Field = one.0 in
        let there : Contains it.fields field = one.1 in
        let found : field_at field.label it.fields ≡ Some field.node =
        subst (λ (f : Field). field_at f.label it.fields ≡ Some f.node) (there.2) (field_found it.fields rising there.0 field there.1) in
        subst (AreTrees IsBase) one.2 (field_trees IsBase at p all (it.sets field.label) (field_at field.label it.fields) field.node found (it.field field.label))

    not_variable : (own : HeadKind) → IsKindAt book at p h own i → (x : ℕ) → node_at book i ≡ node.Var x → ⊥
    not_variable kind.Bool it x e = let is : node_at book i ≡ node.Bool = it.1 in absurd (cc)
    not_variable kind.Int it x e = let is : node_at book i ≡ node.Int = it.1 in absurd (cc)
    not_variable kind.Function it x e = let is : node_at book i ≡ node.Arrow it.from it.to = it.node in absurd (cc)
    not_variable kind.Rcd it x e = let is : node_at book i ≡ node.Rcd it.fields = it.node in absurd (cc)

  module _ (a b : Automaton) (closed : IsClosed a) (IsRelated IsPair : ℕ → ℕ → Type 0) (layout : IsLayout book a b IsRelated IsPair place type_place) where
    pub part_of_state : (s i : ℕ) → Contains (layout.parts s) i → IsPartNode book place type_place i
    part_of_state s i there = go (polarity_at a s) refl
      where
        go : (p : Polarity) → polarity_at a s ≡ p → IsPartNode book place type_place i
        go Positive is = member_of Positive i (place s) ((layout.positive s is).each i (inl there)) (of_state s refl)
        go Negative is = member_of Negative i (place s) ((layout.negative s is).each i (inl there)) (of_state s refl)

    -- the parts of heads, of states and of those of the type, and the variables of the type
    abbrev IsBase : ℕ → Type 0
    IsBase i =
        ((s : ℕ) × Contains (layout.parts s) i) ⊎ (((s : ℕ) × Contains (layout.type.parts s) i) ⊎ ((s : ℕ) × Contains (layout.type.variables s) i))

    type_trees : (s : ℕ) → AreTrees IsBase (type_place s)
    type_trees s =
        flat IsBase (λ i. Contains (layout.type.parts s) i ⊎ Contains (layout.type.variables s) i) (polarity_at b s)
        (λ j it. elim it [ inl own ↦ base (inr (inl (s, own))) | inr variable ↦ base (inr (inr (s, variable))) ]) (type_place s) (layout.type.tree s).only

    entered : (n j : ℕ) → Enters a IsRelated IsPair layout.parts type_place n j → AreTrees IsBase j
    entered n j (inl it) = subst (AreTrees IsBase) it.2 (type_trees it.0)
    entered n j (inr (inl it)) = base (inl (it.0, it.2))
    entered n j (inr (inr (k, p, s, edge, related, pair, same))) = subst (AreTrees IsBase) same (type_trees s)

    value_trees : (n : ℕ) → polarity_at a n ≡ Negative → AreTrees IsBase (layout.value n)
    value_trees n is = flat IsBase (Enters a IsRelated IsPair layout.parts type_place n) Positive (entered n) (layout.value n) (layout.values n is).only

    place_trees : (s : ℕ) → AreTrees IsBase (place s)
    place_trees s = go (polarity_at a s) refl
      where
        go : (p : Polarity) → polarity_at a s ≡ p → AreTrees IsBase (place s)
        go Positive is =
            flat IsBase (λ i. Contains (layout.parts s) i ⊎ ((n : ℕ) × HasFlow a n s × (layout.value n ≡ i))) Positive
            (λ j it. elim it [
              | inl own ↦ base (inl (s, own))
              | inr value ↦ subst (AreTrees IsBase) value.2 (value_trees value.0 (closed.negative (flow value.0 s) value.1).polarity)
            ]) (place s) (layout.positive s is).only
        go Negative is =
            flat IsBase (λ i. Contains (layout.parts s) i ⊎ (layout.value s ≡ i)) Negative
            (λ j it. elim it [ inl own ↦ base (inl (s, own)) | inr value ↦ subst (AreTrees IsBase) value (value_trees s is) ]) (place s) (layout.negative s is).only

    module _ (is_book : IsBook book) where
      below_base : (i k : ℕ) → IsBase i → HasChild (node_at book i) k → AreTrees IsBase k
      below_base i k (inl (s, own)) child =
          let one = (layout.heads s).all i own in
          by_kind is_book IsBase place place_trees (polarity_at a s) (parts_of (head_at a s)) i k one.0 one.1 child
      below_base i k (inr (inl (s, own))) child =
          let one = (layout.type.heads s).all i own in
          by_kind is_book IsBase type_place type_trees (polarity_at b s) (parts_of (head_at b s)) i k one.0 one.1 child
      below_base i k (inr (inr (s, variable))) child =
          let one = layout.type.are_variables s i variable in
          absurd (subst (λ (n : Node). HasChild n k) one.1 child)

      below_trees : (i k : ℕ) → AreTrees IsBase i → HasChild (node_at book i) k → AreTrees IsBase k
      below_trees i k (base it) child = below_base i k it child
      below_trees i k (nothing p e) child = absurd (none_childless p k (subst (λ (n : Node). HasChild n k) e child))
      below_trees i k (both p l r e one other) child =
          elim (two_children p l r k (subst (λ (n : Node). HasChild n k) e child)) [
            | inl same ↦ subst (AreTrees IsBase) same one
            | inr same ↦ subst (AreTrees IsBase) same other
          ]

      part_trees : (i : ℕ) → IsPartNode book place type_place i → AreTrees IsBase i
      part_trees i (of_state s e) = subst (AreTrees IsBase) e (place_trees s)
      part_trees i (of_type s e) = subst (AreTrees IsBase) e (type_trees s)
      part_trees i (named j it child) = below_trees j i (part_trees j it) child

      shown_base : (i x : ℕ) → IsBase i → node_at book i ≡ node.Var x → (s : ℕ) × Shows book layout.type.variables s x
      shown_base i x (inl (s, own)) e =
          let one = (layout.heads s).all i own in
          absurd (not_variable is_book IsBase place place_trees (polarity_at a s) (parts_of (head_at a s)) i i one.0 one.1 x e)
      shown_base i x (inr (inl (s, own))) e =
          let one = (layout.type.heads s).all i own in
          absurd (not_variable is_book IsBase type_place type_trees (polarity_at b s) (parts_of (head_at b s)) i i one.0 one.1 x e)
      shown_base i x (inr (inr (s, variable))) e = (s, (i, variable, e))

      shown_trees : (i x : ℕ) → AreTrees IsBase i → node_at book i ≡ node.Var x → (s : ℕ) × Shows book layout.type.variables s x
      shown_trees i x (base it) e = shown_base i x it e
      shown_trees i x (nothing p empty) e = absurd (none_no_variable p x (sym empty ∙ e))
      shown_trees i x (both p l r pair one other) e = absurd (two_no_variable p l r x (sym pair ∙ e))

      pub part_variable : (i x : ℕ) → IsPartNode book place type_place i → node_at book i ≡ node.Var x → (s : ℕ) × Shows book layout.type.variables s x
      part_variable i x it e = shown_trees i x (part_trees i it) e

      -- so the nodes of the part show no variable that stands for another node, where those of the type do not
      pub part_clear : (puts : List Put) → ((s x : ℕ) → Shows book layout.type.variables s x → put_at puts x ≡ None) → AreClear book (IsPartNode book place type_place) puts
      part_clear puts apart i x it e = let shown = part_variable i x it e in apart shown.0 x shown.1
