use Rattle.std.proofs.Common.{refl}
use Rattle.mls_shape.specs.steps.Registers.{sets_in}
use Rattle.mls_shape.proofs.NumberedHeads.{head_parts}
use Rattle.mls_shape.proofs.heads.numbered_head.Goals as goal

pub returns-clause-head : goal.returns-clause-head
returns-clause-head c =
    head_parts c.args.polarity c.args.head.now (record { boolean = c.args.head.now.boolean; integer = c.args.head.now.integer; function = c.in_ok-function.function; fields = c.in_ok-fields.fields })
    (sets_in c.args.register.now) (sets_in c.numbered_function.new.register) (sets_in c.numbered_record.new.register) refl refl c.in_ok-function.ensures.function c.in_ok-fields.ensures.fields
