-- What a record has, by what its parts have.
--     typed_make
use Rattle.std.proofs.Common.{◌≡◌, ◌↔◌, ℕ, suc, ◌<◌, List, [], map, length, refl, sym, ap, ◌∙◌, subst, arith, Some}
use Rattle.std.specs.Prelude.{Option, None, option_map, All, IsSome, Contains}
use Rattle.std.specs.FinMap as finmap
use Rattle.std.specs.FinMap.{get-empty}
use Rattle.std.specs.Ordering.{nat_cmp}
use Rattle.mls_book.specs.declared.book.Field.{Field}
use Rattle.mls_book.specs.declared.book.NodeId.{NodeId}
use Rattle.mls_book.specs.declared.book.Node.{Node}
use Rattle.mls_book.specs.declared.book.Node.TheVariants as node
use Rattle.mls_book.specs.Books.{field_at, IsOrdered, HasChildrenBelow}
use Rattle.mls_book.specs.Predicates.{Predicate, Implies, rcd, var}
use Rattle.mls_book.specs.Passes.{passes, passes_by, field_values}
use Rattle.mls_book.specs.Schemes.{Scheme, IsScheme, binder_passes}
use Rattle.mls_book.proofs.Children.{at_found, HasChildrenIn-more, children_below}
use Rattle.mls_book.proofs.Depths.{Implies-refl, Implies-trans, Implies-same, Implies-same_back}
use Rattle.mls_book.proofs.Guarded.{node_value-same}
use Rattle.mls_book.proofs.LongerBooks.{Extends, Extends-trans, Extends-holds, extended_with, closed_from, Holds, Holds-trans, united, renamed_field, renamed_id, field_at-renamed, field_values-renamed, AreRising-renamed, fields_below-renamed}
use Rattle.mls_book.proofs.Table.{value-rcd}
use Rattle.mls_term.specs.Terms.{TermTree, TermFields, make, no_field, a_field}
use Rattle.mls_term.specs.Derivations.{Known, over, HaveLabels, labels_of, Derives, rcd as rcd_rule, AllDerive, none, more}
use Rattle.mls_term.specs.TypingLaws.{AreSchemes}
use Rattle.mls_term.proofs.Environments.{scheme_at}
use Rattle.mls_term.proofs.Metatheory.{derived_scheme}
use Rattle.mls_term.proofs.Rules.{ByMake, Generated}
use Rattle.mls_typing.specs.Typed.{IsTyped, Allows, AreBelow, AllOf, OfMake}
use Rattle.mls_typing.proofs.Instances.{IsTyped-more, instance_types, typed_under}
use Rattle.mls_typing.proofs.Contexts.{longer_within}
use Rattle.mls_typing.proofs.TypedForms.{Context, needs_in, in_context, meet_contexts, derived_over, typed_over, Allows-over, children_there, generated, rule_allows}

-- labels are those of the same fields elsewhere
labels_moved : (place : ℕ → ℕ) (parts : TermFields) (fields : List Field) → HaveLabels parts fields → HaveLabels parts (map (renamed_field place) fields)
labels_moved place parts fields have label =
    subst (λ o. IsSome o ↔ Contains (labels_of parts) label) (sym (field_at-renamed place label fields)) (at (field_at label fields) (have label))
  where
    at : (o : Option NodeId) → IsSome o ↔ Contains (labels_of parts) label → IsSome (option_map (renamed_id place) o) ↔ Contains (labels_of parts) label
    at None h = h
    at (Some i) h = h

-- values of fields whose nodes pass the same
fields_same : (f g : ℕ → Predicate) (n : ℕ) (fields : List Field) → All (λ field. field.node.0 < n) fields → ((i : ℕ) → i < n → f i ≡ g i) → rcd (field_values f fields) ≡ rcd (field_values g fields)
fields_same f g n fields within same =
    node_value-same var f g (node.Rcd fields)
    (HasChildrenIn-more (λ j. j < n) (λ j. f j ≡ g j) same (node.Rcd fields) (children_below n (node.Rcd fields) within))

-- parts in a lower context
parts_lower : (known : Known) (types others : ℕ → Predicate) (parts : TermFields) (fields : List ℕ → Option Predicate) → AreBelow others types → AllOf (λ e ts g. IsTyped known ts e g) parts types fields → AllOf (λ e ts g. IsTyped known ts e g) parts others fields
parts_lower known types others no_field fields lower h = tt
parts_lower known types others (a_field label e rest) fields lower h = (
  (h.0.0, h.0.1, IsTyped-more known types others e h.0.0 h.0.0 lower (Implies-refl h.0.0) h.0.2),
  parts_lower known types others rest fields lower h.1,
)

-- a context in which all parts have their types; without parts it needs nothing
parts_in : (known : Known) (types : ℕ → Predicate) (parts : TermFields) (fields : List ℕ → Option Predicate) → AllOf (λ e ts g. IsTyped known ts e g) parts types fields
    → (c : Context types) × (parts ≡ no_field → c.env ≡ finmap.empty) × AllOf (λ e ts g. IsTyped known ts e g) parts (needs_in c) fields
parts_in known types no_field fields h = (
  record {
    book = [];
    closed = closed_from [] (λ i low. absurd (omega arith));
    env = finmap.empty;
    within = λ x i e. no_entry x i e;
    above = λ x. subst (λ o. Implies (types x) (binder_passes (passes []) o)) (sym (get-empty nat_cmp x)) (λ t e. refl);
  },
  λ e. refl,
  tt,
)
  where
    no_entry : (x i : ℕ) → finmap.get (finmap.empty {X = ℕ} {R = nat_cmp}) x ≡ Some i → i < 0
    no_entry x i e = let absent : finmap.get (finmap.empty {X = ℕ} {R = nat_cmp}) x ≡ None = get-empty nat_cmp x in absurd (cc)
parts_in known types (a_field label e rest) fields h =
    let one = in_context known types e h.0.0 h.0.2 in
    let two = parts_in known types rest fields h.1 in
    let m = meet_contexts types one.0 two.0 in (
      m.0,
      λ e'. absurd (cc),
      (
        (h.0.0, h.0.1, IsTyped-more known (needs_in one.0) (needs_in m.0) e h.0.0 h.0.0 m.1 (Implies-refl h.0.0) one.1),
        parts_lower known (needs_in two.0) (needs_in m.0) rest fields m.2 two.2,
      ),
    )

-- the node of a field that has a value
found : (value : ℕ → Predicate) (fields : List Field) (label : List ℕ) (f : Predicate) → field_values value fields label ≡ Some f → (i : NodeId) × (field_at label fields ≡ Some i) × (value i.0 ≡ f)
found value fields label f e = at (field_at label fields) e refl
  where
    at : (o : Option NodeId) → option_map (λ (id : NodeId). value id.0) o ≡ Some f → field_at label fields ≡ o → (i : NodeId) × (field_at label fields ≡ Some i) × (value i.0 ≡ f)
    at None e is = absurd (cc)
    at (Some i) e is = (i, is, cc)

-- in a longer book that has the fields, the parts are derivable at them
parts_derive : (known : Known) (types : ℕ → Predicate) (c : Context types) (b d : List Node) (place : ℕ → ℕ) → Extends c.book b → Holds d b place → (fields : List Field) → All (λ field. field.node.0 < length d) fields
    → (n : ℕ) (parts : TermFields) → AllOf (λ e ts g. IsTyped known ts e g) parts (needs_in c) (field_values (passes d) fields) → AllDerive known parts (scheme_at b c.env n) (map (renamed_field place) fields)
parts_derive known types c b d place more_book holds fields within n no_field h = none refl
parts_derive known types c b d place more_book holds fields within n (a_field label e rest) h =
    let it = found (passes d) fields label h.0.0 h.0.1 in
    let low : it.0.0 < length d = at_found (λ i. i < length d) label fields within it.0 it.1 in
    more label e rest (renamed_id place it.0) refl (field_at-renamed place label fields ∙ ap (option_map (renamed_id place)) it.1)
    (derived_over known types c b more_book e h.0.0 h.0.2 (place it.0.0) (holds.in_range it.0.0 low)
    (Implies-same_back (passes b (place it.0.0)) h.0.0 (holds.value var it.0.0 low ∙ it.2)))
    (parts_derive known types c b d place more_book holds fields within n rest h.1)

-- the parts of a derivable record, under a reading
parts_under : (known : Known) → AreSchemes known → (types : ℕ → Predicate) (f : Predicate) (s : Scheme) (a : Allows s types f) (c : List Node) (place : ℕ → ℕ)
    → ((i : ℕ) → i < length s.book → passes c (place i) ≡ passes_by a.reading s.book i)
    → (fields : List Field) (parts : TermFields) → AllDerive known parts s fields → AllOf (λ e ts g. IsTyped known ts e g) parts types (field_values (passes c) (map (renamed_field place) fields))
parts_under known all types f s a c place value fields no_field h = tt
parts_under known all types f s a c place value fields (a_field label e rest) (none empty) = absurd (cc)
parts_under known all types f s a c place value fields (a_field label e rest) (more label' e' rest' i same has h others) =
    let label_is : label' ≡ label = cc in
    let body_is : e' ≡ e = cc in
    let rest_is : rest' ≡ rest = cc in
    let At : TermTree → Type 0 = λ t. Derives known t (over s s.env i.0) in
    let All_at : TermFields → Type 0 = λ ts. AllDerive known ts s fields in
    let body : Derives known e (over s s.env i.0) = subst At body_is h in
    let is : IsScheme (over s s.env i.0) = derived_scheme known e (over s s.env i.0) all body in
    let has_label : field_at label fields ≡ Some i = ap (λ l. field_at l fields) (sym label_is) ∙ has in (
      (
        passes c (place i.0),
        ap (option_map (λ (id : NodeId). passes c id.0)) (field_at-renamed place label fields ∙ ap (option_map (renamed_id place)) has_label),
        typed_under (over s s.env i.0) is types (passes c (place i.0))
            (Allows-over s types f a types (passes c (place i.0)) s.env i.0 (Implies-same_back (passes c (place i.0)) (passes_by a.reading s.book i.0) (value i.0 is.root)) a.env)
            known e body,
      ),
      parts_under known all types f s a c place value fields rest (subst All_at rest_is others),
    )

module _ (known : Known) (all : AreSchemes known) (types : ℕ → Predicate) (f : Predicate) (at : ℕ) (parts : TermFields) where
  pub typed_make : IsTyped known types (make at parts) f ↔ OfMake parts (AllOf (λ e ts g. IsTyped known ts e g) parts) types f
  typed_make = (forth, back)
    where
      forth : IsTyped known types (make at parts) f → OfMake parts (AllOf (λ e ts g. IsTyped known ts e g) parts) types f
      forth h =
          let g : Generated known (make at parts) h.scheme = generated known types (make at parts) f h in
          let a : Allows g.first types f = rule_allows known types (make at parts) f h in
          let rule : ByMake known parts g.first = g.rule in
          let s : Scheme = g.first in
          let it = instance_types s rule.scheme types f a in
          let c : List Node = it.0 in
          let place : ℕ → ℕ = it.2.0 in
          let below : HasChildrenBelow (length s.book) (node.Rcd rule.fields) = children_there s rule.scheme s.root rule.scheme.root (node.Rcd rule.fields) rule.root_is in
          let rising : IsOrdered s.root (node.Rcd rule.fields) = subst (IsOrdered s.root) rule.root_is (rule.scheme.book.book s.root) in
          record {
            book = c;
            closed = it.1;
            fields = map (renamed_field place) rule.fields;
            rising = AreRising-renamed place rule.fields rising;
            within = fields_below-renamed place (length s.book) (length c) it.2.1 rule.fields below;
            labels = labels_moved place parts rule.fields rule.labels;
            each = parts_under known all types f s a c place it.2.2 rule.fields parts rule.parts_have;
            below =
                Implies-trans (rcd (field_values (passes c) (map (renamed_field place) rule.fields))) (passes_by a.reading s.book s.root) f
                (Implies-same_back (passes_by a.reading s.book s.root) (rcd (field_values (passes c) (map (renamed_field place) rule.fields)))
                (value-rcd a.reading s.book rule.scheme.book.book s.root rule.fields rule.root_is
                ∙ (sym (fields_same (λ i. passes c (place i)) (passes_by a.reading s.book) (length s.book) rule.fields below it.2.2)
                ∙ ap rcd (sym (field_values-renamed place (passes c) rule.fields)))))
                a.root;
          }

      back : OfMake parts (AllOf (λ e ts g. IsTyped known ts e g) parts) types f → IsTyped known types (make at parts) f
      back it =
          let all_in = parts_in known types parts (field_values (passes it.book) it.fields) it.each in
          let c : Context types = all_in.0 in
          let u = united c.book it.book c.closed it.closed in
          let place : ℕ → ℕ = u.2.0 in
          let fields : List Field = map (renamed_field place) it.fields in
          let last =
          extended_with u.0 (node.Rcd fields) u.1.closed (AreRising-renamed place it.fields it.rising)
          (fields_below-renamed place (length it.book) (suc (length u.0)) (λ i low. let there : place i < length u.0 = u.2.1.in_range i low in omega arith) it.fields it.within) in
          let b : List Node = last.0 in
          let n : ℕ = last.2.0 in
          let more_book : Extends c.book b = Extends-trans c.book u.0 b u.1 last.1 in
          let holds : Holds it.book b place = Holds-trans it.book u.0 b place (λ i. i) u.2.1 (Extends-holds u.0 b u.1.closed last.1) in
          let value : passes b n ≡ rcd (field_values (passes it.book) it.fields) =
          value-rcd var b last.1.closed.book n fields last.2.2
          ∙ (ap rcd (field_values-renamed place (passes b) it.fields)
          ∙ fields_same (λ i. passes b (place i)) (passes it.book) (length it.book) it.fields it.within (λ i low. holds.value var i low)) in
          typed_over known types c b more_book (make at parts) f n last.2.1
          (rcd_rule at parts fields refl (record { book = last.1.closed; root = last.2.1; env = longer_within c.book b c.env more_book c.within }) last.2.2
          (labels_moved place parts it.fields it.labels)
          all_in.1
          (parts_derive known types c b it.book place more_book holds it.fields it.within n parts all_in.2))
          (Implies-trans (passes b n) (rcd (field_values (passes it.book) it.fields)) f (Implies-same (passes b n) (rcd (field_values (passes it.book) it.fields)) value) it.below)
