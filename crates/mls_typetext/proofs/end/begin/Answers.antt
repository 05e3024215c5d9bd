use Rattle.mls_typetext.proofs.StackSteps.{opened}
use Rattle.mls_typetext.proofs.end.begin.Goals as goal

pub returns-in_ok-extend_from_slice-in-Some-2 : goal.returns-in_ok-extend_from_slice-in-Some-2
returns-in_ok-extend_from_slice-in-Some-2 c =
    opened c.args.part c.args.kind c.args.stack.now.items c.extend_from_slice.new.self.items c.extend_from_slice-in-Some.new.self.items c.in-Some.rest c.behind.result c.behind.ensures c.in-Some.is
    c.in_ok-extend_from_slice-in-Some.ensures.items c.in_ok-extend_from_slice-in-Some-2.ensures.items
