use Rattle.std.proofs.Common.{rules, reverse}
use Rattle.std.proofs.lemmas.List.{nil_from_length}
use Rattle.mls_reader.specs.steps.Linking.{linked, link_start}
use Rattle.mls_reader.proofs.Links.{linked-step-back, linked-end-back}
use Rattle.mls_reader.proofs.nodes.link_backward.Goals as goal

pub loop-piece-preserved : goal.loop-piece-preserved
loop-piece-preserved c =
    linked-step-back c.loop-piece.linker c.join.new.self (linked link_start (reverse c.args.backward.items)) c.loop-piece.backward.items c.pop.new.self.items c.in-Some.piece c.in-Some.ensures.items c.in_ok-join.ensures c.loop-piece.invariant

pub returns : goal.returns
returns c =
    linked-end-back c.loop-piece.linker (linked link_start (reverse c.args.backward.items)) c.module.result c.loop-piece.backward.items (nil_from_length c.loop-piece.backward.items (search rules)) c.module.ensures c.loop-piece.invariant
