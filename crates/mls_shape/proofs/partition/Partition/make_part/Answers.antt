use Rattle.std.proofs.Common.{◌≡◌, ◌∙◌, ◌<◌, arith, length}
use Rattle.std.proofs.lemmas.List.{get_or_default}
use Rattle.std.proofs.lemmas.Result.{on_ok_weaker}
use Rattle.mls_shape.specs.steps.Classes.{class_in}
use Rattle.mls_shape.proofs.Partitions.{part_opened}
use Rattle.mls_shape.proofs.partition.Partition.make_part.Goals as goal

pub returns : goal.returns
returns c =
    let at : c.index.result.now ≡ class_in c.args.self.now.parts.items c.args.block = c.index.ensures ∙ get_or_default c.args.self.now.parts.items c.args.block c.index.result.now 0 (omega (arith, c.requires.partition.parts, c.requires.block)) in
    let none : class_in c.args.self.now.parts.items c.args.block < c.args.first = omega (arith, at, c.if-index-first.false) in
    on_ok_weaker c.open.result
    (part_opened c.args.first c.args.block (length c.args.self.now.blocks.items) c.args.self.now c.open.new.self c.requires.partition c.requires.block c.requires.first none)
    c.open.ensures
