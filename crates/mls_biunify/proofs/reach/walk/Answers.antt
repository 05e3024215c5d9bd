use Rattle.std.proofs.Common.{◌≡◌, [], arith, subst, refl}
use Rattle.std.proofs.lemmas.Grind.{common_steps}
use Rattle.mls_automaton.specs.declared.automaton.Head.{Head}
use Rattle.mls_automaton.specs.Reached.{HeadNames}
use Rattle.mls_automaton.proofs.Reaching.{looked-less}
use Rattle.mls_biunify.specs.steps.Keeping.{Finds, found_of, walk_of}
use Rattle.mls_biunify.proofs.Walking.{begun-in, head-below, last-there, looked-in, walked-in}
use Rattle.mls_biunify.proofs.reach.walk.Goals as goal

pub loop-s-init : goal.loop-s-init
loop-s-init g c =
    begun-in c.args.table.now c.limit-limit.ensures.is c.args.roots.now c.requires.there (walk_of g.F.Found.members c.args.search.now) (walk_of g.F.Found.members c.mark_roots.new.self) c.requires.found c.requires.work c.in_ok-mark_roots.ensures

pub head-requires : goal.head-requires
head-requires g c = last-there c.args.table.now c.args.roots.now (found_of c.args.table.now.limit (walk_of g.F.Found.members c.loop-s.search)) (found_of c.args.table.now.limit (walk_of g.F.Found.members (record { found = c.loop-s.search.found; work = c.pop.new.self }))) c.in-Some.s c.loop-s.invariant.is refl c.in-Some.ensures.items c.limit-limit.ensures.is c.requires.there

pub loop-s-preserved : goal.loop-s-preserved
loop-s-preserved g c =
    looked-in c.args.table.now c.limit-limit.ensures.is c.args.roots.now (walk_of g.F.Found.members c.loop-s.search) (walk_of g.F.Found.members (record { found = c.loop-s.search.found; work = c.pop.new.self })) (walk_of g.F.Found.members c.mark_head.new.self) c.in-Some.s c.loop-s.invariant refl c.in-Some.ensures.items
    (subst (λ (h : Head). Finds (walk_of g.F.Found.members (record { found = c.loop-s.search.found; work = c.pop.new.self })) (walk_of g.F.Found.members c.mark_head.new.self) (HeadNames h)) c.head.ensures.head c.in_ok-mark_head.ensures)

pub loop-s-smaller : goal.loop-s-smaller
loop-s-smaller g c =
    looked-less (found_of c.args.table.now.limit (walk_of g.F.Found.members c.loop-s.search)) (found_of c.args.table.now.limit (walk_of g.F.Found.members (record { found = c.loop-s.search.found; work = c.pop.new.self }))) (found_of c.args.table.now.limit (walk_of g.F.Found.members c.mark_head.new.self)) c.in-Some.s
    (HeadNames c.head.result.now) refl c.in-Some.ensures.items
    (c.in_ok-mark_head.ensures c.args.table.now.limit (head-below c.args.table.now c.limit-limit.ensures.is c.in-Some.s c.head.result.now c.head.ensures.head))

pub returns : goal.returns
returns g c =
    let none : c.loop-s.search.work.items ≡ [] = grind (arith, common_steps) in
    walked-in c.args.table.now c.args.roots.now (walk_of g.F.Found.members c.loop-s.search) c.loop-s.invariant none
