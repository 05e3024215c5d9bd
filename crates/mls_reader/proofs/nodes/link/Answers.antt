use Rattle.std.proofs.Common.{rules}
use Rattle.std.proofs.lemmas.List.{nil_from_length}
use Rattle.mls_reader.specs.steps.Linking.{linked, link_start}
use Rattle.mls_reader.proofs.Links.{linked-step, linked-end}
use Rattle.mls_reader.proofs.nodes.link.Goals as goal

pub loop-piece-preserved : goal.loop-piece-preserved
loop-piece-preserved c =
    (tt, tt, linked-step c.loop-piece.linker c.join.new.self (linked link_start c.args.pieces.items) c.loop-piece.piece-iterator.rest.items c.next.new.self.rest.items c.in-Some.piece c.in-Some.ensures.steps.0 c.in_ok-join.ensures c.loop-piece.invariant.2)

pub returns : goal.returns
returns c =
    linked-end c.loop-piece.linker (linked link_start c.args.pieces.items) c.module.result c.loop-piece.piece-iterator.rest.items (nil_from_length c.loop-piece.piece-iterator.rest.items (search rules)) c.module.ensures c.loop-piece.invariant.2
