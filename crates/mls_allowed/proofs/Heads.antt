-- Pairs of parts of heads.
--     set_inside          trees of related sets
--     head_inside         a part of a head that lies within another is inside a part of the other
use Rattle.std.proofs.Common.{◌≡◌, ℕ, Bool, true, List, Contains, refl, sym, subst, Option, Some, None}
use Rattle.mls_book.specs.declared.book.NodeId.{NodeId}
use Rattle.mls_book.specs.declared.book.Node.{Node}
use Rattle.mls_book.specs.Books.{field_at}
use Rattle.mls_automaton.specs.declared.automaton.Arms.{Arms}
use Rattle.mls_automaton.specs.declared.automaton.Polarity.{Polarity}
use Rattle.mls_automaton.specs.declared.automaton.Polarity.TheVariants.{Positive, Negative}
use Rattle.mls_automaton.specs.Automata.{opposite}
use Rattle.mls_automaton.specs.Heads.{Parts}
use Rattle.mls_automaton.specs.declared.automaton.HeadKind.{HeadKind}
use Rattle.mls_automaton.specs.declared.automaton.HeadKind.TheVariants as kind
use Rattle.mls_flow.specs.Simulations.{IsSetWithin, IsFunctionWithin, IsFieldWithin, IsRecordWithin, IsHeadWithin}
use Rattle.mls_deriv.specs.declared.derivation.Mode.{Mode}
use Rattle.mls_deriv.specs.declared.derivation.Mode.TheVariants.{Lr, Rl, Pp}
use Rattle.mls_deriv.specs.Pairs.{exchanged}
use Rattle.mls_deriv.specs.declared.claim.Put.{Put}
use Rattle.mls_layout.specs.Shown.{IsShown, both_bool, both_int, arrows, rcds}
use Rattle.mls_layout.specs.Trees.{IsTree, IsPlaceIn}
use Rattle.mls_layout.specs.Heads.{IsFieldAt, IsFunctionAt, IsRecordAt, IsKindAt, HasKind, AreParts, HasSigns}
use Rattle.mls_allowed.proofs.Trees.{IsInside, only_inside, member_inside}

pub exchanged-twice : (mode : Mode) → exchanged (exchanged mode) ≡ mode
exchanged-twice Lr = refl
exchanged-twice Rl = refl
exchanged-twice Pp = refl

module _ (book : List Node) (puts : List Put) (base claims : Mode → ℕ → ℕ → Type 0) where
  abbrev Inside : Polarity → Mode → ℕ → ℕ → Type 0
  Inside = IsInside book puts base claims true

  -- states of the first automaton that are related to states of the second are inside them
  module _ (mode : Mode) (place place' : ℕ → ℕ) (sign : ℕ → Polarity) (R : ℕ → ℕ → Type 0) (inside : (x y : ℕ) → R x y → Inside (sign x) mode (place x) (place' y)) where
    pub set_inside : (q : Polarity) (xs ys : List ℕ) (i j : ℕ) → ((x : ℕ) → Contains xs x → sign x ≡ q) → IsSetWithin R xs ys
        → IsTree book q (IsPlaceIn place xs) i → IsTree book q (IsPlaceIn place' ys) j → Inside q mode i j
    set_inside q xs ys i j signs within t t' =
        only_inside book puts base claims true q mode (IsPlaceIn place xs) i j t.only
        (λ k it.
        let y = within it.0 it.1 in
        member_inside book puts base claims true q mode k (place' y.0) j (t'.each (place' y.0) (y.0, y.1, refl))
        (subst (λ z. Inside q mode z (place' y.0)) it.2 (subst (λ r. Inside r mode (place it.0) (place' y.0)) (signs it.0 it.1) (inside it.0 y.0 y.2))))

    positive_field : (x y : Option (List ℕ)) (o o' : Option NodeId) → ((set : List ℕ) → x ≡ Some set → (s : ℕ) → Contains set s → sign s ≡ Positive)
        → IsFieldWithin R Positive x y → IsFieldAt book place Positive x o → IsFieldAt book place' Positive y o'
        → (k : NodeId) → o' ≡ Some k → (m : NodeId) × (o ≡ Some m) × Inside Positive mode m.0 k.0
    positive_field x None o None signs within at at' k e = absurd (cc)
    positive_field x None o (Some k') signs within at at' k e = absurd at'
    positive_field x (Some ys) o None signs within at at' k e = absurd (cc)
    positive_field None (Some ys) o (Some k') signs within at at' k e = absurd within
    positive_field (Some xs) (Some ys) None (Some k') signs within at at' k e = absurd at
    positive_field (Some xs) (Some ys) (Some m) (Some k') signs within at at' k e =
        (m, refl, (let same : k' ≡ k = cc in subst (λ (z : NodeId). Inside Positive mode m.0 z.0) same (set_inside Positive xs ys m.0 k'.0 (signs xs refl) within at at')))

    negative_field : (x y : Option (List ℕ)) (o o' : Option NodeId) → ((set : List ℕ) → x ≡ Some set → (s : ℕ) → Contains set s → sign s ≡ Negative)
        → IsFieldWithin R Negative x y → IsFieldAt book place Negative x o → IsFieldAt book place' Negative y o'
        → (k : NodeId) → o ≡ Some k → (m : NodeId) × (o' ≡ Some m) × Inside Negative mode k.0 m.0
    negative_field None y None o' signs within at at' k e = absurd (cc)
    negative_field None y (Some k') o' signs within at at' k e = absurd at
    negative_field (Some xs) y None o' signs within at at' k e = absurd (cc)
    negative_field (Some xs) None (Some k') o' signs within at at' k e = absurd within
    negative_field (Some xs) (Some ys) (Some k') None signs within at at' k e = absurd at'
    negative_field (Some xs) (Some ys) (Some k') (Some m) signs within at at' k e =
        (m, refl, (let same : k' ≡ k = cc in subst (λ (z : NodeId). Inside Negative mode z.0 m.0) same (set_inside Negative xs ys k'.0 m.0 (signs xs refl) within at at')))

    module _ (h k : Parts) (level : Bool) where
      function_inside : (p : Polarity) (i j : ℕ) → HasSigns sign p h → IsFunctionWithin R h.function k.function → IsFunctionAt book place p h i → IsFunctionAt book place' p k j → IsInside book puts base claims level p mode i j
      function_inside p i j signs within f g = go p (signs.domain f.arms f.has) (signs.codomain f.arms f.has) f.domain f.codomain g.domain g.codomain
        where
          sets : IsSetWithin R f.arms.domain g.arms.domain × IsSetWithin R f.arms.codomain g.arms.codomain
          sets = subst (λ o. IsFunctionWithin R (Some f.arms) o) g.has (subst (λ o. IsFunctionWithin R o k.function) f.has within)

          go : (p : Polarity) → ((s : ℕ) → Contains f.arms.domain s → sign s ≡ opposite p) → ((s : ℕ) → Contains f.arms.codomain s → sign s ≡ p)
              → IsTree book (opposite p) (IsPlaceIn place f.arms.domain) f.from.0 → IsTree book p (IsPlaceIn place f.arms.codomain) f.to.0
              → IsTree book (opposite p) (IsPlaceIn place' g.arms.domain) g.from.0 → IsTree book p (IsPlaceIn place' g.arms.codomain) g.to.0
              → IsInside book puts base claims level p mode i j
          go Positive ds cs d c d' c' =
              arrows f.from f.to g.from g.to f.node g.node
              (set_inside Negative f.arms.domain g.arms.domain f.from.0 g.from.0 ds sets.0 d d')
              (set_inside Positive f.arms.codomain g.arms.codomain f.to.0 g.to.0 cs sets.1 c c')
          go Negative ds cs d c d' c' =
              arrows g.from g.to f.from f.to g.node f.node
              (subst (λ m. IsShown book puts base claims true m f.from.0 g.from.0) (sym (exchanged-twice mode)) (set_inside Positive f.arms.domain g.arms.domain f.from.0 g.from.0 ds sets.0 d d'))
              (set_inside Negative f.arms.codomain g.arms.codomain f.to.0 g.to.0 cs sets.1 c c')

      record_inside : (p : Polarity) (i j : ℕ) → HasSigns sign p h → IsRecordWithin R p h.fields k.fields → IsRecordAt book place p h i → IsRecordAt book place' p k j → IsInside book puts base claims level p mode i j
      record_inside p i j signs within f g = go p (signs.field f.sets f.has) labels f.field g.field
        where
          labels : (label : List ℕ) → IsFieldWithin R p (f.sets label) (g.sets label)
          labels = subst (λ o. IsRecordWithin R p (Some f.sets) o) g.has (subst (λ o. IsRecordWithin R p o k.fields) f.has within)

          go : (p : Polarity) → ((label set : List ℕ) → f.sets label ≡ Some set → (s : ℕ) → Contains set s → sign s ≡ p)
              → ((label : List ℕ) → IsFieldWithin R p (f.sets label) (g.sets label))
              → ((label : List ℕ) → IsFieldAt book place p (f.sets label) (field_at label f.fields))
              → ((label : List ℕ) → IsFieldAt book place' p (g.sets label) (field_at label g.fields))
              → IsInside book puts base claims level p mode i j
          go Positive ss ws fs gs =
              let each : (label : List ℕ) (k : NodeId) → field_at label g.fields ≡ Some k → (m : NodeId) × (field_at label f.fields ≡ Some m) × Inside Positive mode m.0 k.0
              = λ label. positive_field (f.sets label) (g.sets label) (field_at label f.fields) (field_at label g.fields) (ss label) (ws label) (fs label) (gs label) in
              rcds f.fields g.fields f.node g.node (λ label k e. (each label k e).0) (λ label k e. (each label k e).1) (λ label k e. (each label k e).2)
          go Negative ss ws fs gs =
              let each : (label : List ℕ) (k : NodeId) → field_at label f.fields ≡ Some k → (m : NodeId) × (field_at label g.fields ≡ Some m) × Inside Negative mode k.0 m.0
              = λ label. negative_field (f.sets label) (g.sets label) (field_at label f.fields) (field_at label g.fields) (ss label) (ws label) (fs label) (gs label) in
              rcds g.fields f.fields g.node f.node (λ label k e. (each label k e).0) (λ label k e. (each label k e).1) (λ label k e. (each label k e).2)

      -- what lies within has its kinds there
      kind_there : (p : Polarity) (kind : HeadKind) (i : ℕ) → IsHeadWithin R p h k → IsKindAt book place p h kind i → HasKind k kind
      kind_there p kind.Bool i within at = within.boolean at.0
      kind_there p kind.Int i within at = within.integer at.0
      kind_there p kind.Function i within at = go k.function refl (subst (λ o. IsFunctionWithin R o k.function) at.has within.function)
        where
          go : (o : Option Arms) → k.function ≡ o → IsFunctionWithin R (Some at.arms) o → HasKind k kind.Function
          go None e w = absurd w
          go (Some arms) e w = (arms, e)
      kind_there p kind.Rcd i within at = go k.fields refl (subst (λ o. IsRecordWithin R p o k.fields) at.has within.fields)
        where
          go : (o : Option (List ℕ → Option (List ℕ))) → k.fields ≡ o → IsRecordWithin R p (Some at.sets) o → HasKind k kind.Rcd
          go None e w = absurd w
          go (Some sets) e w = (sets, e)

      kind_inside : (p : Polarity) (kind : HeadKind) (i j : ℕ) → HasSigns sign p h → IsHeadWithin R p h k → IsKindAt book place p h kind i → IsKindAt book place' p k kind j → IsInside book puts base claims level p mode i j
      kind_inside Positive kind.Bool i j signs within at at' = both_bool at.1 at'.1
      kind_inside Negative kind.Bool i j signs within at at' = both_bool at'.1 at.1
      kind_inside Positive kind.Int i j signs within at at' = both_int at.1 at'.1
      kind_inside Negative kind.Int i j signs within at at' = both_int at'.1 at.1
      kind_inside p kind.Function i j signs within at at' = function_inside p i j signs within.function at at'
      kind_inside p kind.Rcd i j signs within at at' = record_inside p i j signs within.fields at at'

      pub head_inside : (p : Polarity) (kind : HeadKind) (i : ℕ) (parts : List ℕ) → HasSigns sign p h → IsHeadWithin R p h k → IsKindAt book place p h kind i → AreParts book place' p k parts
          → (j : ℕ) × Contains parts j × IsInside book puts base claims level p mode i j
      head_inside p kind i parts signs within at there =
          let it = there.each kind (kind_there p kind i within at) in
          (it.0, it.1, kind_inside p kind i it.0 signs within at it.2)
