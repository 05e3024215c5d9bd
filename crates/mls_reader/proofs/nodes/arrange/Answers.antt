use Rattle.std.proofs.Common.{rules}
use Rattle.std.proofs.lemmas.List.{nil_from_length}
use Rattle.mls_reader.proofs.LaterSteps.{arrangement-step, arrangement-end}
use Rattle.mls_reader.proofs.nodes.arrange.Goals as goal

pub loop-piece-preserved : goal.loop-piece-preserved
loop-piece-preserved c =
    arrangement-step c.loop-piece.later.items c.tell.new.later.items c.place.new.later.items c.loop-piece.backward.items c.tell.new.backward.items c.place.new.backward.items
    c.loop-piece.pieces.items c.pop.new.self.items c.args.pieces.items c.in-Some.piece
    c.in-Some.ensures.items c.in_ok-tell.ensures.told c.in_ok-tell.ensures.left c.in_ok-place.ensures.told c.in_ok-place.ensures.fronts c.loop-piece.invariant

pub returns : goal.returns
returns c =
    arrangement-end c.loop-piece.later.items c.loop-piece.backward.items c.tell-2.new.backward.items c.loop-piece.pieces.items c.args.pieces.items
    (nil_from_length c.loop-piece.pieces.items (search rules)) c.in_ok-tell-2.ensures.told c.loop-piece.invariant
