use Rattle.std.proofs.Common.{subst}
use Rattle.mls_names.specs.steps.Walks.{ReadsNodes}
use Rattle.mls_names.proofs.WholeWalks.{has_unknown, has_term}
use Rattle.mls_names.proofs.resolver.Resolver.term.Goals as goal

pub returns-in-Some-clause-fault : goal.returns-in-Some-clause-fault
returns-in-Some-clause-fault c = λ other. has_unknown c.args.nodes.now c.args.self.now c.read_nodes.new.self c.new-terms.result c.read_nodes.new.terms c.in_ok-unknown.unknown c.in-Some.at c.in_ok-unknown.ensures c.in-Some.is

pub returns-clause-term : goal.returns-clause-term
returns-clause-term c =
    has_term c.args.nodes.now c.in_ok-counts.counts.items c.in_ok-counts.ensures.counts c.args.self.now c.read_nodes.new.self c.read_nodes.new.terms c.reverse.new.self c.in_ok-unknown.unknown c.index-all.result.now
    (subst (λ before. ReadsNodes c.args.nodes.now c.args.self.now c.read_nodes.new.self before c.read_nodes.new.terms c.in_ok-unknown.unknown) c.new-terms.ensures c.in_ok-unknown.ensures)
    c.in-None.is c.reverse.ensures c.index-all.ensures
