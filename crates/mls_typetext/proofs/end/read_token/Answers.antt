use Rattle.std.proofs.Common.{sym, subst, rules}
use Rattle.std.proofs.lemmas.List.{nil_from_length}
use Rattle.mls_typetext.specs.steps.EndStacks.{Opened}
use Rattle.mls_typetext.proofs.StackSteps.{do_same, part-read, part-stuck, part-empty, all-over}
use Rattle.mls_typetext.proofs.end.read_token.Goals as goal

pub loop-part-init : goal.loop-part-init
loop-part-init c = do_same c.args.kind c.args.stack.now.items

pub returns-then-branch : goal.returns-then-branch
returns-then-branch c =
    part-read c.args.kind c.args.stack.now.items c.loop-part.stack.items c.pop.new.self.items c.begin.new.stack.items c.in-Some.part c.loop-part.invariant c.in-Some.ensures.items
    (subst (Opened c.in-Some.part c.args.kind c.pop.new.self.items c.begin.new.stack.items) c.if-branch.true c.in_ok-begin.ensures)

pub returns-then-not-may_end : goal.returns-then-not-may_end
returns-then-not-may_end c =
    part-stuck c.args.kind c.args.stack.now.items c.loop-part.stack.items c.pop.new.self.items c.begin.new.stack.items c.in-Some.part c.loop-part.invariant c.in-Some.ensures.items
    (subst (Opened c.in-Some.part c.args.kind c.pop.new.self.items c.begin.new.stack.items) c.if-branch.false c.in_ok-begin.ensures)
    (sym c.if-not-may_end.ensures)

pub loop-part-preserved : goal.loop-part-preserved
loop-part-preserved c =
    part-empty c.args.kind c.args.stack.now.items c.loop-part.stack.items c.pop.new.self.items c.begin.new.stack.items c.in-Some.part c.loop-part.invariant c.in-Some.ensures.items
    (subst (Opened c.in-Some.part c.args.kind c.pop.new.self.items c.begin.new.stack.items) c.if-branch.false c.in_ok-begin.ensures)
    (sym c.if-not-may_end.ensures)

pub returns : goal.returns
returns c = all-over c.args.kind c.args.stack.now.items c.loop-part.stack.items c.pop.new.self.items c.loop-part.invariant (nil_from_length c.loop-part.stack.items (search rules))
