use Rattle.std.proofs.Common.{List}
use Rattle.mls_biunify.specs.Live.{Live}
use Rattle.mls_term.specs.declared.term.Part.{Part}
use Rattle.mls_term.specs.declared.term.TermForm.TheVariants as form
use Rattle.mls_infer.specs.declared.done.Known.{Known}
use Rattle.mls_infer.specs.Doing.{schemes_known}
use Rattle.mls_infer.specs.Finished.{Finished}
use Rattle.mls_infer.specs.Joining.{part_labels}
use Rattle.mls_infer.specs.Pending.{part_in}
use Rattle.mls_infer.proofs.DoneSteps.{made_in}
use Rattle.mls_infer.proofs.infer.of_record.Goals as goal

pub record-requires : goal.record-requires
record-requires c =
    let it = c.in_ok-rows.ensures in
    (part_labels c.args.parts.now, it.0, it.1.beside.waiting, it.2, c.requires.parts.built)

pub returns : goal.returns
returns c =
    let it = c.in_ok-rows.ensures in
    let parts : List Part = c.args.parts.now in
    let first : Finished = schemes_known c.args.done.now.live c.args.done.now.nodes.items in
    let mid : Live = c.rows_of.new.done.live in
    let rest : List Known = c.rows_of.new.done.nodes.items in
    made_in (form.Make parts) first mid c.record.new.live rest it.0 it.1 c.requires.parts (part_in c.in_ok-part.part) c.ready-made.ensures.live
    (c.in_ok-part.ensures parts it.0 it.1.beside.waiting it.2 c.requires.parts.built)
