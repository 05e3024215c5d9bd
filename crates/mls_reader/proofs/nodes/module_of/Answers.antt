use Rattle.std.proofs.Common.{rules, reverse, sym}
use Rattle.mls_reader.proofs.OrderedPieces.{ok-told, ok-told-back, stay}
use Rattle.mls_reader.proofs.nodes.module_of.Goals as goal

pub returns-in_ok-backward : goal.returns-in_ok-backward
returns-in_ok-backward c = ok-told-back c.link_backward.result c.args.pieces.items c.in_ok-backward.backward.items c.in_ok-backward.ensures c.link_backward.ensures

pub returns-else-has_operators : goal.returns-else-has_operators
returns-else-has_operators c = ok-told c.link.result c.args.pieces.items c.args.pieces.items (sym (stay 0 (reverse c.args.pieces.items) (search rules))) c.link.ensures
