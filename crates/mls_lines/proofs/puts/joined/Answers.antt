use Rattle.std.proofs.Common.{List, subst}
use Rattle.mls_book.specs.declared.book.NodeId.{NodeId}
use Rattle.mls_automaton.specs.declared.automaton.Polarity.TheVariants.{Positive}
use Rattle.mls_layout.specs.Trees.{AddsTree}
use Rattle.mls_lines.proofs.puts.joined.Goals as goal

pub returns : goal.returns
returns c = subst (λ (ids : List NodeId). AddsTree Positive ids c.args.book.now c.push_tree.new.book c.in_ok-node.node.0) c.as_slice-2.ensures c.in_ok-node.ensures
