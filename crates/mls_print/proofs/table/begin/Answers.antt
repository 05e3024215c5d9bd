use Rattle.std.proofs.Common.{◌∷◌, [], subst}
use Rattle.mls_print.specs.steps.Registers.{sets_in, Numbers}
use Rattle.mls_print.proofs.Rows.{begins_with, is_begun}
use Rattle.mls_print.proofs.table.begin.Goals as goal

pub returns-clause-begins : goal.returns-clause-begins
returns-clause-begins c =
    let one : Numbers (c.args.root.0 ∷ []) [] (sets_in c.number_of.new.self) c.in_ok-number_of.field-0 =
    subst (λ states. Numbers states [] (sets_in c.number_of.new.self) c.in_ok-number_of.field-0) c.in_ok-vec.ensures.items (subst (λ sets. Numbers c.in_ok-vec.field-0.items sets (sets_in c.number_of.new.self) c.in_ok-number_of.field-0) c.new-register.ensures.sets c.in_ok-number_of.ensures.number) in
    begins_with c.args.root.0 c.number_of.new.self c.in_ok-number_of.field-0 c.in_ok-number_of.ensures.register one c.new.result

pub returns-clause-building : goal.returns-clause-building
returns-clause-building c = λ a order visited.
    let one : Numbers (c.args.root.0 ∷ []) [] (sets_in c.number_of.new.self) c.in_ok-number_of.field-0 =
    subst (λ states. Numbers states [] (sets_in c.number_of.new.self) c.in_ok-number_of.field-0) c.in_ok-vec.ensures.items (subst (λ sets. Numbers c.in_ok-vec.field-0.items sets (sets_in c.number_of.new.self) c.in_ok-number_of.field-0) c.new-register.ensures.sets c.in_ok-number_of.ensures.number) in
    is_begun c.args.root.0 c.number_of.new.self c.in_ok-number_of.field-0 c.in_ok-number_of.ensures.register one c.new.result a order visited c.new.ensures.items
