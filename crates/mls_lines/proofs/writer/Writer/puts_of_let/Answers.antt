use Rattle.mls_lines.specs.Puts.{IsNodeOfCopy, IsPutOfEdge}
use Rattle.mls_lines.proofs.PutLists.{puts_follow}
use Rattle.mls_lines.proofs.writer.Writer.puts_of_let.Goals as goal

pub returns-clause-follow : goal.returns-clause-follow
returns-clause-follow c =
    let known = c.let_type-scheme.result.now in
    let IsNode = IsNodeOfCopy c.args.self.now.laid.places c.args.view.now.posing.now known c.copy_at-first.result in
    puts_follow (IsPutOfEdge IsNode known.automaton.flows c.args.part.now.variable) c.args.part.now.variable c.in_ok-puts.puts c.in_ok-puts.ensures.each

pub returns-clause-edges : goal.returns-clause-edges
returns-clause-edges c = record {
  known = c.let_type-scheme.result.now;
  is_known = c.let_type-scheme.ensures;
  first = c.copy_at-first.result;
  copy = c.copy_at-first.ensures;
  edges = c.in_ok-puts.ensures;
}
