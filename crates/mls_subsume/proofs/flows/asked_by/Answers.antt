use Rattle.std.proofs.Common.{◌≡◌, ◌<◌, inl, inr, sym, subst, length, Contains, ◌∙◌}
use Rattle.std.specs.Prelude.{◌↔◌, ℕ}
use Rattle.mls_automaton.specs.Automata.{HasFlow, IsPartner, flow}
use Rattle.mls_automaton.specs.Models.{IsClosed}
use Rattle.mls_subsume.proofs.AskedFlows.{asked-done, partner-low}
use Rattle.mls_subsume.proofs.flows.asked_by.Goals as goal

pub asked_along-requires : goal.asked_along-requires
asked_along-requires c = λ h there.
    subst (λ n. h < n) (sym c.requires.states)
    (partner-low c.args.general.now c.args.pair.general.0 h c.requires.closed ((c.partners-ends.ensures.partners h).0 (subst (λ xs. Contains xs h) c.as_slice.ensures.members there)))

pub returns-in_ok-asked-in-Positive : goal.returns-in_ok-asked-in-Positive
returns-in_ok-asked-in-Positive c =
    asked-done c.args.general.now c.args.queue.now.met c.args.pair.general.0 c.args.pair.special.0 c.as_slice.result.now c.in_ok-asked-in-Positive.asked c.requires.closed
    (sym c.polarity.ensures ∙ c.in-Positive.is)
    (λ j. subst (λ xs. Contains xs j ↔ IsPartner c.args.general.now c.args.pair.general.0 j) (sym c.as_slice.ensures.members) (c.partners-ends.ensures.partners j))
    c.in_ok-asked-in-Positive.ensures
