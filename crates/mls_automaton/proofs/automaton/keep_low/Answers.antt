use Rattle.std.proofs.Common.{rules}
use Rattle.std.specs.Prelude.{nat_lt, ◌&&◌}
use Rattle.std.proofs.lemmas.Fn.{filter_same}
use Rattle.mls_automaton.specs.declared.automaton.Flow.{Flow}
use Rattle.mls_automaton.proofs.automaton.keep_low.Goals as goal

pub returns : goal.returns
returns c =
    filter_same _ (λ (f : Flow). nat_lt f.negative.0 c.args.states && nat_lt f.positive.0 c.args.states) _ (λ f b g k. search rules)
    c.args.flows.now.items c.retain.new.self.items c.retain.ensures.filtered
