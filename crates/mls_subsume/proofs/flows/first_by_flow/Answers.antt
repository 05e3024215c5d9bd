use Rattle.std.proofs.Common.{◌≡◌, ◌<◌, ◌∙◌, ℕ, sym, subst, length, All, Contains, Some, None}
use Rattle.std.specs.Prelude.{◌↔◌}
use Rattle.mls_automaton.specs.declared.automaton.Flow.{Flow}
use Rattle.mls_automaton.proofs.Lists.{All-contained}
use Rattle.mls_flow.specs.Needs.{IsPair}
use Rattle.mls_subsume.specs.Failures.{IsFirstFailure}
use Rattle.mls_subsume.specs.declared.verdict.Reason.TheVariants as reason
use Rattle.mls_subsume.specs.steps.Asked.{IsFirstRefused}
use Rattle.mls_subsume.proofs.Exploring.{state-at}
use Rattle.mls_subsume.proofs.FirstFailures.{asked-pair, exact-of, flow-found, flow-none}
use Rattle.mls_subsume.proofs.flows.first_by_flow.Goals as goal

pub all_asked-requires-clause-pairs : goal.all_asked-requires-clause-pairs
all_asked-requires-clause-pairs c = λ k low.
    (state-at c.args.general.now c.args.special.now c.requires.general c.requires.special c.args.queue.now.met c.requires.search.leads k low).1.in_range

pub first_refused-requires-clause-pairs : goal.first_refused-requires-clause-pairs
first_refused-requires-clause-pairs c = λ k low.
    (state-at c.args.general.now c.args.special.now c.requires.general c.requires.special c.args.queue.now.met c.requires.search.leads k low).1.in_range

pub admissible_among-requires-clause-states : goal.admissible_among-requires-clause-states
admissible_among-requires-clause-states c =
    subst (All (IsPair c.args.special.now.automaton)) (sym c.as_slice.ensures.value)
    (All-contained (IsPair c.args.special.now.automaton) c.in_ok-asked.asked.items (λ f there.
    let at = c.in_ok-asked.ensures.each f there in
    asked-pair c.args.general.now c.args.special.now c.requires.general c.requires.special c.args.queue.now.met c.requires.search at.0 f at.1 at.2))

pub returns-in-None : goal.returns-in-None
returns-in-None c =
    flow-none c.args.general.now c.args.special.now c.args.queue.now.met c.requires.search c.requires.rising c.in_ok-table.table.flows c.requires.heads
    (exact-of c.args.general.now.automaton c.args.special.now.automaton c.args.queue.now.met c.in_ok-table.table c.in_ok-asked.asked.items c.as_slice.result.now c.as_slice.ensures.value
    c.in_ok-table.ensures.known c.in_ok-table.ensures.admissible c.in_ok-asked.ensures.all)
    (subst (IsFirstRefused c.args.general.now.automaton c.args.queue.now.met c.in_ok-table.table.flows) c.in-None.is c.in_ok-first_refused.ensures)

pub returns : goal.returns
returns c =
    subst (λ steps. IsFirstFailure c.args.general.now c.args.special.now (record { steps = steps; reason = reason.Flow })) (sym c.in_ok-steps-in-Some.ensures)
    (flow-found c.args.general.now c.args.special.now c.args.queue.now.met c.requires.search c.requires.rising c.in_ok-table.table.flows c.requires.heads
    (exact-of c.args.general.now.automaton c.args.special.now.automaton c.args.queue.now.met c.in_ok-table.table c.in_ok-asked.asked.items c.as_slice.result.now c.as_slice.ensures.value
    c.in_ok-table.ensures.known c.in_ok-table.ensures.admissible c.in_ok-asked.ensures.all)
    c.in-Some.number
    (subst (IsFirstRefused c.args.general.now.automaton c.args.queue.now.met c.in_ok-table.table.flows) c.in-Some.is c.in_ok-first_refused.ensures))
