use Rattle.std.proofs.Common.{◌≡◌, ◌<◌, ap, ◌∙◌, subst, length}
use Rattle.std.proofs.lemmas.List.{get_or_default}
use Rattle.mls_automaton.specs.declared.automaton.Head.{Head}
use Rattle.mls_automaton.specs.declared.automaton.Polarity.{Polarity}
use Rattle.mls_automaton.specs.declared.automaton.Polarity.TheVariants.{Positive}
use Rattle.mls_automaton.specs.declared.automaton.State.{State}
use Rattle.mls_automaton.specs.Automata.{Automaton, empty_head, polarity_at, state_at}
use Rattle.mls_shape.proofs.KeptFlows.{states-next}
use Rattle.mls_shape.proofs.drop.states_of.Goals as goal

pub loop-s-preserved : goal.loop-s-preserved
loop-s-preserved c =
    let states = c.args.a.now.states in
    let low : c.loop-s.s < length states = subst (λ size. c.loop-s.s < size) c.len-s-end.ensures.len c.loop-s-test.true in
    let added : State = record { polarity = c.polarity.result; head = c.in_ok-head.head } in
    let is : added ≡ state_at c.args.a.now c.loop-s.s =
    ap (λ (p : Polarity). record { polarity = p; head = c.in_ok-head.head }) c.polarity.ensures
    ∙ ap (λ (h : Head). record { polarity = polarity_at c.args.a.now c.loop-s.s; head = h }) (c.in_ok-head.ensures ∙ c.head.ensures) in (
      states-next c.loop-s.states.states states c.state.new.self.states c.loop-s.s added low c.loop-s.invariant.0
          (ap (λ (a : Automaton). a.states) c.in_ok-state.ensures.ok)
          (is ∙ get_or_default states c.loop-s.s (record { polarity = Positive; head = empty_head }) added low),
      ap (λ (a : Automaton). a.flows) c.in_ok-state.ensures.ok ∙ c.loop-s.invariant.1,
    )
