-- Where no related pair clashes, and all related pairs are in order, the heads of related pairs are in order.
use Rattle.std.proofs.Common.{◌≡◌, inl, inr, ℕ, suc, Bool, true, false, List, [], ◌∷◌, refl, sym, ap, ◌∙◌, subst, Contains, Some, None}
use Rattle.std.specs.Prelude.{Option, option_map, cond, find, bytes_eq, slice_get, get_or, is_some}
use Rattle.std.proofs.lemmas.Slice.Eq.{bytes_eq-Decides}
use Rattle.std.proofs.lemmas.List.Elements.{Contains-get_or}
use Rattle.mls_book.specs.Predicates.{Predicate, Implies, bool, int}
use Rattle.mls_book.proofs.Depths.{Implies-refl}
use Rattle.mls_book.proofs.Constructors.{arrow-implies, rcd-implies}
use Rattle.mls_automaton.specs.declared.automaton.Polarity.TheVariants.{Positive, Negative}
use Rattle.mls_automaton.specs.declared.automaton.Arms.{Arms}
use Rattle.mls_automaton.specs.declared.automaton.FieldSet.{FieldSet}
use Rattle.mls_automaton.specs.Automata.{Automaton, head_at}
use Rattle.mls_automaton.specs.Heads.{set_value, set_at, function_value, record_value, part_value, bit_value, head_value}
use Rattle.mls_automaton.proofs.Signs.{all_least}
use Rattle.mls_automaton.specs.declared.automaton.HeadKind.{HeadKind}
use Rattle.mls_automaton.specs.declared.automaton.HeadKind.TheVariants as kind
use Rattle.mls_solver.specs.declared.goal.ClashKind.TheVariants.{Unlike, Lacks}
use Rattle.mls_solver.specs.Relations.{IsRelated, domain, codomain, field}
use Rattle.mls_automaton.specs.Automata.{has_kind}
use Rattle.mls_solver.specs.Clashes.{LacksField, HasNoClash}
use Rattle.mls_solver.proofs.PartKinds.{kind_value, kinds_least, kind-absent, same_kind-is}

-- the field at a label has a number
pub record IsFieldAt (fields : List FieldSet) (label set : List ℕ) : Type 0 where
  pub number : ℕ
  pub field : FieldSet
  pub there : slice_get fields number ≡ Some field
  pub is_label : field.label ≡ label
  pub is_set : field.set ≡ set

pub set_at-field : (fields : List FieldSet) (label set : List ℕ) → set_at fields label ≡ Some set → IsFieldAt fields label set
set_at-field [] label set e = absurd (cc)
set_at-field (first ∷ rest) label set e = go (bytes_eq first.label label) refl e (set_at-field rest label set)
  where
    go : (b : Bool) → bytes_eq first.label label ≡ b → option_map (λ (f : FieldSet). f.set) (cond b (Some first) (find (λ (f : FieldSet). bytes_eq f.label label) rest)) ≡ Some set → (set_at rest label ≡ Some set → IsFieldAt rest label set) → IsFieldAt (first ∷ rest) label set
    go true is e later = record { number = 0; field = first; there = refl; is_label = (bytes_eq-Decides first.label label).0 is; is_set = cc }
    go false is e later =
        let it = later e in
        record { number = suc it.number; field = it.field; there = it.there; is_label = it.is_label; is_set = it.is_set }

module _ (a : Automaton) (IsGoal : ℕ → ℕ → Type 0) (value : ℕ → Predicate) (follows : (p n : ℕ) → IsRelated a IsGoal p n → Implies (value p) (value n)) (free : HasNoClash a (IsRelated a IsGoal)) where
  sets-below : (xs ys : List ℕ) → ((x y : ℕ) → Contains xs x → Contains ys y → Implies (value x) (value y)) → Implies (set_value Positive value xs) (set_value Negative value ys)
  sets-below xs ys each =
      all_least value Positive xs (set_value Negative value ys)
      (λ k x low.
      all_least value Negative ys (value (get_or xs k x))
      (λ j y low'. each (get_or xs k x) (get_or ys j y) (Contains-get_or xs k x low) (Contains-get_or ys j y low')))

  module _ (p n : ℕ) (it : IsRelated a IsGoal p n) where
    functions-below : (o o' : Option Arms) → (head_at a p).function ≡ o → (head_at a n).function ≡ o' → is_some o ≡ true → is_some o' ≡ true → Implies (part_value Positive (option_map (function_value Positive value) o)) (part_value Negative (option_map (function_value Negative value) o'))
    functions-below None o' e e' some some' = absurd (cc)
    functions-below (Some f) None e e' some some' = absurd (cc)
    functions-below (Some f) (Some g) e e' some some' =
        arrow-implies (set_value Negative value f.domain) (set_value Positive value f.codomain) (set_value Positive value g.domain) (set_value Negative value g.codomain)
        (sets-below g.domain f.domain (λ q m in_g in_f. follows q m (domain it (g, e', in_g) (f, e, in_f))))
        (sets-below f.codomain g.codomain (λ q m in_f in_g. follows q m (codomain it (f, e, in_f) (g, e', in_g))))

    field-below : (fs gs : List FieldSet) → (head_at a p).fields ≡ Some fs → (head_at a n).fields ≡ Some gs → (label : List ℕ) (o o' : Option (List ℕ)) → set_at fs label ≡ o → set_at gs label ≡ o' → (g : Predicate) → option_map (set_value Negative value) o' ≡ Some g → (f : Predicate) × (option_map (set_value Positive value) o ≡ Some f) × Implies f g
    field-below fs gs e e' label o None is is' g has = absurd (cc)
    field-below fs gs e e' label None (Some ys) is is' g has =
        let found = set_at-field gs label ys is' in
        let lacks : set_at fs found.field.label ≡ None = ap (set_at fs) found.is_label ∙ is in
        absurd (free p n it (Lacks found.number)
        (subst (λ o. LacksField o (head_at a n).fields found.number) (sym e)
        (subst (λ o. LacksField (Some fs) o found.number) (sym e') (found.field, found.there, lacks))))
    field-below fs gs e e' label (Some xs) (Some ys) is is' g has =
        let same : set_value Negative value ys ≡ g = cc in (
          set_value Positive value xs,
          refl,
          subst (Implies (set_value Positive value xs)) same
              (sets-below xs ys (λ q m in_xs in_ys. follows q m (field label it (fs, xs, e, is, in_xs) (gs, ys, e', is', in_ys)))),
        )

    records-below : (o o' : Option (List FieldSet)) → (head_at a p).fields ≡ o → (head_at a n).fields ≡ o' → is_some o ≡ true → is_some o' ≡ true → Implies (part_value Positive (option_map (record_value Positive value) (option_map set_at o))) (part_value Negative (option_map (record_value Negative value) (option_map set_at o')))
    records-below None o' e e' some some' = absurd (cc)
    records-below (Some fs) None e e' some some' = absurd (cc)
    records-below (Some fs) (Some gs) e e' some some' =
        rcd-implies (λ label. option_map (set_value Positive value) (set_at fs label)) (λ label. option_map (set_value Negative value) (set_at gs label))
        (λ label g has. field-below fs gs e e' label (set_at fs label) (set_at gs label) refl refl g has)

    bits-below : (f : Predicate) (b c : Bool) → b ≡ true → c ≡ true → Implies (bit_value Positive f b) (bit_value Negative f c)
    bits-below f true true e e' = Implies-refl f
    bits-below f true false e e' = absurd (cc)
    bits-below f false c e e' = absurd (cc)

    same_kinds-below : (k : HeadKind) → has_kind k (head_at a p) ≡ true → has_kind k (head_at a n) ≡ true → Implies (kind_value Positive value (head_at a p) k) (kind_value Negative value (head_at a n) k)
    same_kinds-below kind.Bool e e' = bits-below bool (head_at a p).boolean (head_at a n).boolean e e'
    same_kinds-below kind.Int e e' = bits-below int (head_at a p).integer (head_at a n).integer e e'
    same_kinds-below kind.Function e e' = functions-below (head_at a p).function (head_at a n).function refl refl e e'
    same_kinds-below kind.Rcd e e' = records-below (head_at a p).fields (head_at a n).fields refl refl e e'

    kinds-below : (k j : HeadKind) (b c : Bool) → has_kind k (head_at a p) ≡ b → has_kind j (head_at a n) ≡ c → Implies (kind_value Positive value (head_at a p) k) (kind_value Negative value (head_at a n) j)
    kinds-below k j false c e e' = λ t h. let no : false ≡ true = (λ i. sym (kind-absent Positive value (head_at a p) k e) i t) ∙ h in absurd (cc)
    kinds-below k j true false e e' = λ t h. (λ i. kind-absent Negative value (head_at a n) j e' i t)
    kinds-below k j true true e e' =
        elim (same_kind-is k j) [
          | inl same ↦
              subst (λ i. Implies (kind_value Positive value (head_at a p) k) (kind_value Negative value (head_at a n) i)) same
              (same_kinds-below k e (ap (λ i. has_kind i (head_at a n)) same ∙ e'))
          | inr other ↦ absurd (free p n it (Unlike k j) (e, e', other.1))
        ]

    pub related_heads : Implies (head_value Positive value (head_at a p)) (head_value Negative value (head_at a n))
    related_heads =
        kinds_least Positive value (head_at a p) (head_value Negative value (head_at a n))
        (λ k.
        kinds_least Negative value (head_at a n) (kind_value Positive value (head_at a p) k)
        (λ j. kinds-below k j (has_kind k (head_at a p)) (has_kind j (head_at a n)) refl refl))
