use Rattle.std.proofs.Common.{List, ◌++◌, ap, ◌∙◌}
use Rattle.mls_book.specs.declared.book.NodeId.{NodeId}
use Rattle.mls_automaton.specs.Automata.{polarity_at}
use Rattle.mls_layout.specs.LaidOut.{place_of}
use Rattle.mls_layout.proofs.Entering.{placed_made}
use Rattle.mls_layout.proofs.layout.states.state_members.Goals as goal

pub returns : goal.returns
returns c =
    placed_made c.args.a.now c.requires.closed c.args.sources.now (place_of c.args.values.now) (polarity_at c.args.a.now c.args.s.0) c.args.s.0 c.new-ids.result c.add_all.new.ids c.add_values.new.ids
    c.new-ids.ensures (c.in_ok-add_all.ensures ∙ ap (λ (ids : List NodeId). c.new-ids.result ++ ids) c.parts.ensures) c.in_ok-add_values.ensures
