use Rattle.std.proofs.Common.{refl}
use Rattle.mls_biunify.specs.steps.Keeping.{walk_of}
use Rattle.mls_biunify.proofs.FoundStates.{finds-none, finds-one}
use Rattle.mls_biunify.proofs.reach.Search.mark.Goals as goal

pub returns-then-not-is_new : goal.returns-then-not-is_new
returns-then-not-is_new g c =
    finds-none (walk_of g.F.Found.members c.args.self.now) (walk_of g.F.Found.members (record { found = c.find.new.self; work = c.args.self.now.work })) c.args.s c.in_ok-is_new.is_new c.in_ok-is_new.ensures c.if-not-is_new.true refl

pub returns : goal.returns
returns g c =
    finds-one (walk_of g.F.Found.members c.args.self.now) (walk_of g.F.Found.members (record { found = c.find.new.self; work = c.push.new.self })) c.args.s c.in_ok-is_new.is_new c.in_ok-is_new.ensures c.if-not-is_new.false c.in_ok-push.ensures.items
