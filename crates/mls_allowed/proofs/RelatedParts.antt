-- Where no related pair clashes, each part of the positive head is below each part of the negative one.
--     related_parts
use Rattle.std.proofs.Common.{◌≡◌, inl, inr, ℕ, Bool, true, List, Contains, refl, sym, ap, ◌∙◌, subst, Some, None}
use Rattle.std.specs.Prelude.{Option, option_map, is_some}
use Rattle.mls_book.specs.declared.book.NodeId.{NodeId}
use Rattle.mls_book.specs.declared.book.Node.{Node}
use Rattle.mls_book.specs.Books.{field_at}
use Rattle.mls_automaton.specs.declared.automaton.FieldSet.{FieldSet}
use Rattle.mls_automaton.specs.declared.automaton.Polarity.{Polarity}
use Rattle.mls_automaton.specs.declared.automaton.Polarity.TheVariants.{Positive, Negative}
use Rattle.mls_automaton.specs.Automata.{Automaton, head_at}
use Rattle.mls_automaton.specs.Heads.{parts_of, set_at}
use Rattle.mls_automaton.specs.declared.automaton.HeadKind.{HeadKind}
use Rattle.mls_automaton.specs.declared.automaton.HeadKind.TheVariants as kind
use Rattle.mls_solver.specs.declared.goal.ClashKind.TheVariants.{Unlike, Lacks}
use Rattle.mls_solver.specs.Relations.{IsRelated, domain, codomain, field}
use Rattle.mls_automaton.specs.Automata.{has_kind}
use Rattle.mls_solver.specs.Clashes.{LacksField, HasNoClash}
use Rattle.mls_solver.proofs.PartKinds.{same_kind-is}
use Rattle.mls_solver.proofs.RelatedHeads.{set_at-field}
use Rattle.mls_deriv.specs.declared.derivation.Mode.{Mode}
use Rattle.mls_deriv.specs.Pairs.{exchanged}
use Rattle.mls_deriv.specs.declared.claim.Put.{Put}
use Rattle.mls_layout.specs.Shown.{IsShown, both_bool, both_int, arrows, rcds}
use Rattle.mls_layout.specs.Trees.{IsTree, IsPlaceIn}
use Rattle.mls_layout.specs.Heads.{IsFieldAt, IsFunctionAt, IsRecordAt, IsKindAt}
use Rattle.mls_allowed.proofs.Trees.{only_inside, below_only}

-- a part that stands at a node is there
pub kind-has : (book : List Node) (place : ℕ → ℕ) (p : Polarity) (a : Automaton) (s : ℕ) (k : HeadKind) (i : ℕ) → IsKindAt book place p (parts_of (head_at a s)) k i → has_kind k (head_at a s) ≡ true
kind-has book place p a s kind.Bool i at = at.0
kind-has book place p a s kind.Int i at = at.0
kind-has book place p a s kind.Function i at = ap is_some at.has
kind-has book place p a s kind.Rcd i at = go (head_at a s).fields at.has
  where
    go : (o : Option (List FieldSet)) → option_map set_at o ≡ Some at.sets → is_some o ≡ true
    go None e = absurd (cc)
    go (Some fields) e = refl

module _ (book : List Node) (puts : List Put) (base claims : Mode → ℕ → ℕ → Type 0) (place : ℕ → ℕ) where
  -- a join of states below a meet of states
  pub sets_below : (mode : Mode) (xs ys : List ℕ) (i j : ℕ) → IsTree book Positive (IsPlaceIn place xs) i → IsTree book Negative (IsPlaceIn place ys) j
      → ((x y : ℕ) → Contains xs x → Contains ys y → IsShown book puts base claims true mode (place x) (place y))
      → IsShown book puts base claims true mode i j
  sets_below mode xs ys i j t t' each =
      only_inside book puts base claims true Positive mode (IsPlaceIn place xs) i j t.only
      (λ k it.
      below_only book puts base claims true mode (IsPlaceIn place ys) k j t'.only
      (λ l it'.
      subst (λ z. IsShown book puts base claims true mode z l) it.2 (subst (IsShown book puts base claims true mode (place it.0)) it'.2 (each it.0 it'.0 it.1 it'.1))))

  module _ (a : Automaton) (IsGoal : ℕ → ℕ → Type 0) (free : HasNoClash a (IsRelated a IsGoal))
      (follows : (mode : Mode) (p n : ℕ) → IsRelated a IsGoal p n → IsShown book puts base claims true mode (place p) (place n))
      (p n : ℕ) (it : IsRelated a IsGoal p n) (level : Bool) (mode : Mode) where
    functions-below : (i j : ℕ) → IsFunctionAt book place Positive (parts_of (head_at a p)) i → IsFunctionAt book place Negative (parts_of (head_at a n)) j → IsShown book puts base claims level mode i j
    functions-below i j f g =
        arrows f.from f.to g.from g.to f.node g.node
        (sets_below (exchanged mode) g.arms.domain f.arms.domain g.from.0 f.from.0 g.domain f.domain
        (λ x y in_g in_f. follows (exchanged mode) x y (domain it (g.arms, g.has, in_g) (f.arms, f.has, in_f))))
        (sets_below mode f.arms.codomain g.arms.codomain f.to.0 g.to.0 f.codomain g.codomain
        (λ x y in_f in_g. follows mode x y (codomain it (f.arms, f.has, in_f) (g.arms, g.has, in_g))))

    field-below : (fs gs : List FieldSet) → (head_at a p).fields ≡ Some fs → (head_at a n).fields ≡ Some gs → (label : List ℕ)
        → (x y : Option (List ℕ)) → set_at fs label ≡ x → set_at gs label ≡ y → (o o' : Option NodeId)
        → IsFieldAt book place Positive x o → IsFieldAt book place Negative y o' → (k : NodeId) → o' ≡ Some k
        → (m : NodeId) × (o ≡ Some m) × IsShown book puts base claims true mode m.0 k.0
    field-below fs gs e e' label x None is is' o None at at' k found = absurd (cc)
    field-below fs gs e e' label x None is is' o (Some k') at at' k found = absurd at'
    field-below fs gs e e' label x (Some ys) is is' o None at at' k found = absurd at'
    field-below fs gs e e' label None (Some ys) is is' o (Some k') at at' k found =
        let it' = set_at-field gs label ys is' in
        let lacks : set_at fs it'.field.label ≡ None = ap (set_at fs) it'.is_label ∙ is in
        absurd (free p n it (Lacks it'.number)
        (subst (λ o. LacksField o (head_at a n).fields it'.number) (sym e)
        (subst (λ o. LacksField (Some fs) o it'.number) (sym e') (it'.field, it'.there, lacks))))
    field-below fs gs e e' label (Some xs) (Some ys) is is' None (Some k') at at' k found = absurd at
    field-below fs gs e e' label (Some xs) (Some ys) is is' (Some m) (Some k') at at' k found =
        let same : k' ≡ k = cc in (
          m,
          refl,
          subst (λ (z : NodeId). IsShown book puts base claims true mode m.0 z.0) same
              (sets_below mode xs ys m.0 k'.0 at at' (λ q r in_xs in_ys. follows mode q r (field label it (fs, xs, e, is, in_xs) (gs, ys, e', is', in_ys)))),
        )

    records-below : (i j : ℕ) → IsRecordAt book place Positive (parts_of (head_at a p)) i → IsRecordAt book place Negative (parts_of (head_at a n)) j → IsShown book puts base claims level mode i j
    records-below i j f g = go (head_at a p).fields (head_at a n).fields refl refl f.has g.has
      where
        go : (o o' : Option (List FieldSet)) → (head_at a p).fields ≡ o → (head_at a n).fields ≡ o' → option_map set_at o ≡ Some f.sets → option_map set_at o' ≡ Some g.sets → IsShown book puts base claims level mode i j
        go None o' e e' h h' = absurd (cc)
        go (Some fs) None e e' h h' = absurd (cc)
        go (Some fs) (Some gs) e e' h h' =
            let is : set_at fs ≡ f.sets = cc in
            let is' : set_at gs ≡ g.sets = cc in
            let each : (label : List ℕ) (k : NodeId) → field_at label g.fields ≡ Some k → (m : NodeId) × (field_at label f.fields ≡ Some m) × IsShown book puts base claims true mode m.0 k.0
            = λ label. field-below fs gs e e' label (f.sets label) (g.sets label) (λ i. is i label) (λ i. is' i label) (field_at label f.fields) (field_at label g.fields) (f.field label) (g.field label) in
            rcds f.fields g.fields f.node g.node (λ label k e. (each label k e).0) (λ label k e. (each label k e).1) (λ label k e. (each label k e).2)

    same_kinds-below : (k : HeadKind) (i j : ℕ) → IsKindAt book place Positive (parts_of (head_at a p)) k i → IsKindAt book place Negative (parts_of (head_at a n)) k j → IsShown book puts base claims level mode i j
    same_kinds-below kind.Bool i j at at' = both_bool at.1 at'.1
    same_kinds-below kind.Int i j at at' = both_int at.1 at'.1
    same_kinds-below kind.Function i j at at' = functions-below i j at at'
    same_kinds-below kind.Rcd i j at at' = records-below i j at at'

    pub related_parts : (k k' : HeadKind) (i j : ℕ) → IsKindAt book place Positive (parts_of (head_at a p)) k i → IsKindAt book place Negative (parts_of (head_at a n)) k' j → IsShown book puts base claims level mode i j
    related_parts k k' i j at at' =
        elim (same_kind-is k k') [
          | inl same ↦ same_kinds-below k i j at (subst (λ z. IsKindAt book place Negative (parts_of (head_at a n)) z j) (sym same) at')
          | inr other ↦ absurd (free p n it (Unlike k k') (kind-has book place Positive a p k i at, kind-has book place Negative a n k' j at', other.1))
        ]
