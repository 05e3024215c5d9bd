use Rattle.mls_lines.specs.Showing.{shown_by}
use Rattle.mls_lines.proofs.JoinedPuts.{adds_join}
use Rattle.mls_lines.proofs.puts.joined_put.Goals as goal

pub returns-clause-node : goal.returns-clause-node
returns-clause-node c =
    adds_join c.args.places.now c.args.first (shown_by c.args.global.now.showing c.args.variable) c.args.book.now c.joined.new.book c.in_ok-ids.ids c.in_ok-node.node.0 c.in_ok-ids.ensures c.in_ok-node.ensures
