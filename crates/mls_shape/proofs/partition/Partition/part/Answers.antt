use Rattle.std.proofs.Common.{◌≡◌, ◌∙◌, ◌<◌, ℕ, arith, length, subst}
use Rattle.std.specs.Prelude.{OnOk}
use Rattle.std.proofs.lemmas.List.{get_or_default}
use Rattle.std.proofs.lemmas.Result.{on_ok_weaker}
use Rattle.mls_shape.specs.steps.Classes.{class_in}
use Rattle.mls_shape.specs.steps.Partitions.{HasPart, SendsNode}
use Rattle.mls_shape.proofs.Partitions.{part_partition, part_grows, parts_send}
use Rattle.mls_shape.proofs.partition.Partition.part.Goals as goal

pub returns-clause-partition : goal.returns-clause-partition
returns-clause-partition c =
    let at : c.index-block.result.now ≡ class_in c.args.self.now.blocks.items c.args.node = c.index-block.ensures ∙ get_or_default c.args.self.now.blocks.items c.args.node c.index-block.result.now 0 c.requires.node in
    let less : class_in c.args.self.now.blocks.items c.args.node < c.args.first = omega (arith, at, c.if-block-first.false) in
    let n : ℕ = length c.args.self.now.blocks.items in
    on_ok_weaker c.send.result
    (part_partition c.args.first c.args.node n c.args.self.now c.make_part.new.self c.send.new.self c.requires.partition c.requires.node less
    (subst (λ block. HasPart c.args.first block n c.args.self.now c.make_part.new.self) at c.in_ok-make_part.ensures))
    (subst (λ block. OnOk c.send.result (SendsNode c.args.node block c.make_part.new.self c.send.new.self)) at c.send.ensures)

pub returns-clause-grows : goal.returns-clause-grows
returns-clause-grows c =
    let at : c.index-block.result.now ≡ class_in c.args.self.now.blocks.items c.args.node = c.index-block.ensures ∙ get_or_default c.args.self.now.blocks.items c.args.node c.index-block.result.now 0 c.requires.node in
    let less : class_in c.args.self.now.blocks.items c.args.node < c.args.first = omega (arith, at, c.if-block-first.false) in
    let n : ℕ = length c.args.self.now.blocks.items in
    on_ok_weaker c.send.result
    (part_grows c.args.first c.args.node n c.args.self.now c.make_part.new.self c.send.new.self c.requires.partition c.requires.node less
    (subst (λ block. HasPart c.args.first block n c.args.self.now c.make_part.new.self) at c.in_ok-make_part.ensures))
    (subst (λ block. OnOk c.send.result (SendsNode c.args.node block c.make_part.new.self c.send.new.self)) at c.send.ensures)

pub returns-clause-parts : goal.returns-clause-parts
returns-clause-parts c =
    let at : c.index-block.result.now ≡ class_in c.args.self.now.blocks.items c.args.node = c.index-block.ensures ∙ get_or_default c.args.self.now.blocks.items c.args.node c.index-block.result.now 0 c.requires.node in
    let less : class_in c.args.self.now.blocks.items c.args.node < c.args.first = omega (arith, at, c.if-block-first.false) in
    let n : ℕ = length c.args.self.now.blocks.items in
    on_ok_weaker c.send.result
    (parts_send c.args.first c.args.node n c.args.self.now c.make_part.new.self c.send.new.self c.requires.partition c.requires.node less
    (subst (λ block. HasPart c.args.first block n c.args.self.now c.make_part.new.self) at c.in_ok-make_part.ensures))
    (subst (λ block. OnOk c.send.result (SendsNode c.args.node block c.make_part.new.self c.send.new.self)) at c.send.ensures)
