use Rattle.std.proofs.Common.{◌∙◌, ◌<◌, ◌≤◌, length, List, [], refl, sym, ap, subst, None, get_or}
use Rattle.mls_parts.specs.Posings.{root_in}
use Rattle.mls_book.specs.declared.book.Field.{Field}
use Rattle.mls_book.specs.declared.book.NodeId.{NodeId}
use Rattle.mls_lines.specs.PlainRecords.{AreFieldsOf}
use Rattle.mls_lines.proofs.LowNodes.{fields_low, parts_low, up}
use Rattle.std.specs.Prelude.{All}
use Rattle.mls_lines.proofs.GoingOn.{sound_grown}
use Rattle.mls_lines.proofs.Lengthening.{lengthens_grown, lengthens_kept}
use Rattle.mls_lines.proofs.PlainRecords.{all_joined_rising, fields_long, make_writes}
use Rattle.mls_lines.proofs.writer.Writer.plain_make.Goals as goal

-- there is a field for each part
pub env_of_parts-requires : goal.env_of_parts-requires
env_of_parts-requires c =
    subst (λ (nodes : List NodeId). length c.args.parts.now ≤ length nodes) (sym c.as_slice.ensures) (fields_long c.in_ok-fields.ensures.0 c.args.parts.now c.in_ok-fields.fields c.in_ok-fields.ensures.2)

pub parts-requires : goal.parts-requires
parts-requires c =
    subst (λ (nodes : List NodeId). length c.args.parts.now ≤ length nodes) (sym c.as_slice-2.ensures) (fields_long c.in_ok-fields.ensures.0 c.args.parts.now c.in_ok-fields.fields c.in_ok-fields.ensures.2)

pub returns-clause-writes : goal.returns-clause-writes
returns-clause-writes c = λ k places sound have.
    let w = c.args.self.now in
    let p = c.args.view.now.posing.now in
    let grown = c.env_of_parts.new.self in
    let now = c.parts.new.self in
    let id = c.in_ok-record.record in
    let (fields, is, are) = c.in_ok-fields.ensures in
    let grows = c.in_ok-env.ensures.grows in
    let joined = c.in_ok-env.ensures.joins fields (subst (AreFieldsOf fields c.args.parts.now) (sym c.as_slice.ensures) are) sound.rising in
    let rising = all_joined_rising _ grown.laid.book [] c.in_ok-env.env joined.offered joined.joins tt in
    let low = parts_low w grown p sound grows id.0 fields c.args.parts.now c.in_ok-env.env is joined in
    let fields_are_low = fields_low w.laid.book sound.closed id.0 fields is in
    let all : All (λ (f : Field). f.node.0 < length grown.laid.book) fields = λ i d h. up w grown p sound grows (get_or fields i d).node.0 (fields_are_low i d h) in
    let it = c.in_ok-steps.ensures.brings fields (subst (AreFieldsOf fields c.args.parts.now) (sym c.as_slice-2.ensures) are) (sound_grown w grown grows sound) rising low all in
    let there = have.records (root_in p c.args.node) id (ap (λ s. get_or w.laid.own.records s None) (sym c.root.ensures) ∙ c.in_ok-record.ensures) in
    make_writes c.args.view.now.globals.now c.args.view.now.firsts.now c.args.view.now.known.now.lets k p places c.args.node w grown now _ grows fields c.args.parts.now c.in_ok-env.env c.in_ok-steps.steps joined it c.in_ok-own.own refl refl id sound there is c.in_ok-own.ensures

pub returns-clause-lengthens : goal.returns-clause-lengthens
returns-clause-lengthens c =
    lengthens_kept c.args.self.now.laid c.env_of_parts.new.self.laid c.parts.new.self.laid (lengthens_grown c.args.self.now c.env_of_parts.new.self c.in_ok-env.ensures.grows) c.in_ok-steps.ensures.laid
