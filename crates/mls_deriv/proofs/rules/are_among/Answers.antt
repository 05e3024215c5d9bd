use Rattle.std.proofs.Common.{◌≡◌, ◌⊎◌, inl, inr, ℕ, ◌+◌, ◌<◌, false, length, get_or, List, rules, sym, subst, ◌∙◌, arith}
use Rattle.std.specs.Prelude.{IsTrue}
use Rattle.std.specs.BTreeSet.{contains}
use Rattle.std.specs.Ordering.{nat_cmp}
use Rattle.std.specs.Cmp.Lexicographic.{slice_cmp}
use Rattle.std.proofs.lemmas.Bool.{cases_eq}
use Rattle.std.proofs.lemmas.List.{get_or_default}
use Rattle.mls_book.specs.declared.book.Field.{Field}
use Rattle.mls_deriv.proofs.rules.are_among.Goals as goal

pub returns-then-not-contains : goal.returns-then-not-contains
returns-then-not-contains c =
    let fields : List Field = c.args.fields.now in
    let i : ℕ = c.loop-field.field-index in
    let field : Field = c.field-item.result in
    let low : i < length fields = search rules in
    let here : field ≡ get_or fields i field = search rules in
    let lacking : contains (slice_cmp nat_cmp) c.args.labels.now field.label ≡ false = search rules in (
      λ h. absurd (cc),
      λ all.
          let there : IsTrue (contains (slice_cmp nat_cmp) c.args.labels.now field.label) = subst (λ (f : Field). IsTrue (contains (slice_cmp nat_cmp) c.args.labels.now f.label)) (sym here) (all i field low) in
          subst IsTrue lacking there,
    )

pub loop-field-preserved : goal.loop-field-preserved
loop-field-preserved c = λ k d below. go k d (cases_eq k c.loop-field.field-index) below
  where
    fields : List Field
    fields = c.args.fields.now

    there : IsTrue (contains (slice_cmp nat_cmp) c.args.labels.now c.field-item.result.label)
    there = search rules

    low : c.loop-field.field-index < length fields
    low = search rules

    here : c.field-item.result ≡ get_or fields c.loop-field.field-index c.field-item.result
    here = search rules

    go : (k : ℕ) (d : Field) → (k ≡ c.loop-field.field-index) ⊎ (k ≡ c.loop-field.field-index → ⊥) → k < c.loop-field.field-index + 1 → IsTrue (contains (slice_cmp nat_cmp) c.args.labels.now (get_or fields k d).label)
    go k d (inl same) below =
        subst (λ n. IsTrue (contains (slice_cmp nat_cmp) c.args.labels.now (get_or fields n d).label)) (sym same)
        (subst (λ (f : Field). IsTrue (contains (slice_cmp nat_cmp) c.args.labels.now f.label)) (here ∙ get_or_default fields c.loop-field.field-index c.field-item.result d low) there)
    go k d (inr other) below = c.loop-field.invariant k d (omega arith)
