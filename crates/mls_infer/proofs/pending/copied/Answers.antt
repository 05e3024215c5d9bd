use Rattle.std.proofs.Common.{◌≡◌, ◌∙◌, ◌<◌, ℕ, List, map, length, ap, sym, subst, All}
use Rattle.std.proofs.lemmas.List.{take_all}
use Rattle.mls_automaton.specs.declared.scheme.EnvEntry.{EnvEntry}
use Rattle.mls_automaton.specs.declared.state_set.StateId.{StateId}
use Rattle.mls_automaton.specs.Environments.{BindersRise}
use Rattle.mls_biunify.specs.Live.{IsThere, number_of}
use Rattle.mls_infer.specs.Constraints.{renamed_entry}
use Rattle.mls_infer.specs.Pending.{part_in}
use Rattle.mls_infer.proofs.CopiedParts.{all_there, copied_edges, copied_is, copied_rise, entries_low}
use Rattle.mls_infer.proofs.pending.copied.Goals as goal

pub renumbered-requires : goal.renumbered-requires
renumbered-requires c =
    subst (λ (env : List EnvEntry). All (λ (entry : EnvEntry). entry.state.0 < length c.in_ok-numbers.numbers) env) (sym c.as_slice.ensures.entries)
    (entries_low c.args.scheme.now c.requires c.in_ok-numbers.numbers c.in_ok-numbers.ensures.copy.count)

pub weight-requires : goal.weight-requires
weight-requires c =
    subst (λ (states : List StateId). All (λ (s : StateId). IsThere c.absorb.new.self s.0) states) (sym c.as_slice-2.ensures.value)
    (all_there c.args.scheme.now c.requires c.args.live.now c.absorb.new.self c.ready-before.ensures.live c.ready-after.ensures.live
    c.in_ok-numbers.numbers c.in_ok-numbers.ensures.copy c.in_ok-numbers.ensures.states c.in_ok-numbers.ensures.flows c.loop-s.states.items
    (c.loop-s.invariant ∙ (take_all c.loop-s.s-index c.as_slice-s-items.result.now c.loop-s-test.false ∙ c.as_slice-s-items.ensures.members)))

pub returns-clause-copied : goal.returns-clause-copied
returns-clause-copied c =
    copied_is c.args.scheme.now c.requires c.args.live.now c.absorb.new.self c.ready-before.ensures.live c.ready-after.ensures.live
    c.in_ok-numbers.numbers c.in_ok-numbers.ensures.copy c.in_ok-numbers.ensures.states c.in_ok-numbers.ensures.flows
    (part_in (record { region = record { states = c.loop-s.states; size = c.fresh-size.result }; env = c.in_ok-env.env; root = c.get-root.result }))
    (c.loop-s.invariant ∙ (take_all c.loop-s.s-index c.as_slice-s-items.result.now c.loop-s-test.false ∙ c.as_slice-s-items.ensures.members))
    (c.in_ok-env.ensures ∙ ap (map (renamed_entry (number_of c.in_ok-numbers.numbers))) c.as_slice.ensures.entries)
    c.get-root.ensures

pub returns-clause-rise : goal.returns-clause-rise
returns-clause-rise c = λ rise.
    let place : ℕ → ℕ = number_of c.in_ok-numbers.numbers in
    let same : c.in_ok-env.env ≡ map (renamed_entry place) c.args.scheme.now.env = c.in_ok-env.ensures ∙ ap (map (renamed_entry place)) c.as_slice.ensures.entries in
    subst BindersRise (sym same) (copied_rise place c.args.scheme.now.env rise)

pub returns-clause-edges : goal.returns-clause-edges
returns-clause-edges c = λ n edge.
    copied_edges c.args.scheme.now c.requires c.args.live.now c.absorb.new.self c.ready-before.ensures.live c.ready-after.ensures.live
    c.in_ok-numbers.numbers c.in_ok-numbers.ensures.copy c.in_ok-numbers.ensures.states c.in_ok-numbers.ensures.flows
    c.get-root.result.0 n c.get-root.ensures edge
