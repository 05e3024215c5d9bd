use Rattle.mls_automaton.proofs.BookLoops.{edges-more}
use Rattle.mls_automaton.proofs.scheme_book.push_all_edges.Goals as goal

pub loop-s-preserved : goal.loop-s-preserved
loop-s-preserved c =
    edges-more c.args.automaton.now c.loop-s.s c.loop-s.book c.loop-s.edges.items c.len-states.result c.polarity-polarity.result c.partners-partners.result.now c.push_edges.new.book c.in_ok-last.last c.push.new.self.items
    c.loop-s.invariant c.len-states.ensures.len c.polarity-polarity.ensures c.partners-partners.ensures.partners c.in_ok-last.ensures.ok c.in_ok-last.ensures.last c.in_ok-push.ensures.items
