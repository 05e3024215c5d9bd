use Rattle.std.proofs.Common.{inl, inr}
use Rattle.mls_automaton.specs.Reached.{HeadNames, InFunction, InRecord}
use Rattle.mls_biunify.specs.steps.Keeping.{walk_of}
use Rattle.mls_biunify.proofs.FoundStates.{finds-both}
use Rattle.mls_biunify.proofs.reach.Search.mark_head.Goals as goal

pub returns : goal.returns
returns g c =
    finds-both (walk_of g.F.Found.members c.args.self.now) (walk_of g.F.Found.members c.mark_function.new.self) (walk_of g.F.Found.members c.mark_record.new.self) (InFunction c.args.head.now.function) (InRecord c.args.head.now.fields) (HeadNames c.args.head.now) c.in_ok-mark_function.ensures c.in_ok-mark_record.ensures
    (λ j it. inl it) (λ j it. inr it) (λ j it. it)
