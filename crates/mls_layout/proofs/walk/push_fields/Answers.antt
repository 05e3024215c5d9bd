use Rattle.std.proofs.Common.{◌≡◌, ◌∙◌, ◌+◌, ◌++◌, ◌∷◌, ℕ, List, [], take, get_or, sym, ap, subst, rules}
use Rattle.std.proofs.lemmas.List.{take_all, take_more}
use Rattle.mls_automaton.specs.declared.automaton.FieldSet.{FieldSet}
use Rattle.mls_layout.specs.Walks.{IsOfField, IsOfFields}
use Rattle.mls_layout.specs.steps.Walking.{Lists}
use Rattle.mls_layout.proofs.MetPairs.{any_none, any_more}
use Rattle.mls_layout.proofs.walk.push_fields.Goals as goal

pub loop-field-init : goal.loop-field-init
loop-field-init c = any_none (IsOfField c.args.general.now) c.args.into.now

pub loop-field-preserved : goal.loop-field-preserved
loop-field-preserved c =
    let xs : List FieldSet = c.args.special.now in
    let i : ℕ = c.loop-field.field-index in
    let item : FieldSet = c.field-item.result in
    let is : get_or xs i item ≡ item = search rules in
    let next : take (i + 1) xs ≡ take i xs ++ item ∷ [] = take_more xs i item c.loop-field-test.true ∙ ap (λ (f : FieldSet). take i xs ++ f ∷ []) is in
    subst (λ (ys : List FieldSet). Lists (IsOfFields c.args.general.now ys) c.args.into.now c.push_field.new.into) (sym next)
    (any_more (IsOfField c.args.general.now) (take i xs) item c.args.into.now c.loop-field.into c.push_field.new.into c.loop-field.invariant c.in_ok-push_field.ensures)

pub returns : goal.returns
returns c =
    subst (λ (ys : List FieldSet). Lists (IsOfFields c.args.general.now ys) c.args.into.now c.loop-field.into) (take_all c.loop-field.field-index c.args.special.now c.loop-field-test.false) c.loop-field.invariant
