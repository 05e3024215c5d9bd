use Rattle.std.proofs.Common.{◌≡◌, ◌<◌, ◌≤◌, ◌∙◌, ℕ, ap, sym, subst, arith, length, ◌++◌, List}
use Rattle.mls_automaton.specs.declared.automaton.Flow.{Flow}
use Rattle.mls_subsume.proofs.AskedFlows.{all-more}
use Rattle.mls_subsume.proofs.flows.all_asked.Goals as goal

pub loop-number-preserved : goal.loop-number-preserved
loop-number-preserved c =
    all-more c.args.general.now c.args.queue.now.met c.loop-number.number c.loop-number.flows.items c.extend_from_slice.new.self.items c.in_ok-asked.asked c.pair.result.general.0 c.pair.result.special.0
    c.pair.ensures.general c.pair.ensures.special c.loop-number.invariant c.in_ok-asked.ensures
    (c.in_ok-extend_from_slice.ensures.items ∙ ap (λ (xs : List Flow). c.loop-number.flows.items ++ xs) c.as_slice.ensures)

pub returns-clause-each : goal.returns-clause-each
returns-clause-each c = λ f there.
    let at = c.loop-number.invariant.0 f there in
    let low : at.0 < c.loop-number.number = at.1 in
    let end : c.loop-number.number ≤ c.len-number-end.result = c.loop-number.auto.number-end in
    let size : c.len-number-end.result ≡ length c.args.queue.now.met = c.len-number-end.ensures in
    (at.0, omega arith, at.2)

pub returns-clause-all : goal.returns-clause-all
returns-clause-all c = λ k low f is.
    let low : k < length c.args.queue.now.met = low in
    let high : c.len-number-end.result ≤ c.loop-number.number = c.loop-number-test.false in
    let size : c.len-number-end.result ≡ length c.args.queue.now.met = c.len-number-end.ensures in
    c.loop-number.invariant.1 k f (omega arith) is
