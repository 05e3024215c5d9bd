use Rattle.mls_automaton.proofs.LeftFields.{left-all}
use Rattle.mls_automaton.proofs.combine.merge_fields.Goals as goal

pub loop-other-init : goal.loop-other-init
loop-other-init c = left-all c.args.polarity c.args.first c.args.second c.reversed-one.result.items c.reversed-other.result.items c.new-both.result c.reversed-one.ensures c.reversed-other.ensures c.new-both.ensures
