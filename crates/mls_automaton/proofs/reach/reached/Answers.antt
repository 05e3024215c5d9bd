use Rattle.std.proofs.Common.{◌≡◌, ◌<◌, [], arith, sym, subst, refl}
use Rattle.std.proofs.lemmas.Grind.{common_steps}
use Rattle.mls_automaton.specs.declared.automaton.Head.{Head}
use Rattle.mls_automaton.specs.Reached.{HeadNames}
use Rattle.mls_automaton.specs.steps.Searching.{Grows, search_of}
use Rattle.mls_automaton.proofs.Reaching.{last-low, looked, looked-less, searched, named-low}
use Rattle.mls_automaton.proofs.reach.reached.Goals as goal

pub head-requires : goal.head-requires
head-requires c = last-low c.args.scheme.now (search_of c.loop-s.search) c.pop.new.self.items c.in-Some.s c.loop-s.invariant c.in-Some.ensures.items

pub mark_head-requires : goal.mark_head-requires
mark_head-requires c = λ j it.
    subst (λ n. j < n) (sym c.loop-s.invariant.same_length)
    (named-low c.args.scheme.now.automaton c.requires.automaton c.in-Some.s j (subst (λ (h : Head). HeadNames h j) c.head.ensures it))

pub loop-s-preserved : goal.loop-s-preserved
loop-s-preserved c =
    looked c.args.scheme.now (search_of c.loop-s.search) (record { marks = c.loop-s.search.marks.items; work = c.pop.new.self.items }) (search_of c.mark_head.new.self) c.in-Some.s
    c.loop-s.invariant refl c.in-Some.ensures.items
    (subst (λ (h : Head). Grows (record { marks = c.loop-s.search.marks.items; work = c.pop.new.self.items }) (search_of c.mark_head.new.self) (HeadNames h)) c.head.ensures c.in_ok-mark_head.ensures)

pub loop-s-smaller : goal.loop-s-smaller
loop-s-smaller c =
    looked-less (search_of c.loop-s.search) (record { marks = c.loop-s.search.marks.items; work = c.pop.new.self.items }) (search_of c.mark_head.new.self) c.in-Some.s
    (HeadNames c.head.result.now) refl c.in-Some.ensures.items c.in_ok-mark_head.ensures

pub returns : goal.returns
returns c =
    let none : c.loop-s.search.work.items ≡ [] = grind (arith, common_steps) in
    searched c.args.scheme.now (search_of c.loop-s.search) c.loop-s.invariant none
