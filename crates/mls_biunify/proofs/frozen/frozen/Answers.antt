use Rattle.std.proofs.Common.{◌∙◌, refl}
use Rattle.mls_biunify.proofs.Copied.{table_scheme}
use Rattle.mls_biunify.proofs.PlacedStates.{frozen-keeps, frozen-scheme, has-places, keys-rise, listed-reached, numbers-order, numbers-there, scheme-roots, scheme-roots_there}
use Rattle.mls_biunify.proofs.frozen.frozen.Goals as goal

pub reached-requires : goal.reached-requires
reached-requires c =
    scheme-roots_there c.args.table.now c.args.root c.args.env.now c.as_slice.result.now (c.as_slice.ensures.value ∙ c.in_ok-roots.ensures) c.requires.root c.requires.env

pub placed_states-requires-clause-there : goal.placed_states-requires-clause-there
placed_states-requires-clause-there c =
    numbers-there c.args.table.now c.limit-limit.ensures.is c.args.root c.args.env.now c.requires.binders
    (table_scheme c.args.table.now c.limit-limit.ensures.is c.args.root.0 c.args.env.now c.requires.root c.requires.env) c.as_slice.result.now (scheme-roots c.args.root c.args.env.now c.as_slice.result.now (c.as_slice.ensures.value ∙ c.in_ok-roots.ensures))
    (scheme-roots_there c.args.table.now c.args.root c.args.env.now c.as_slice.result.now (c.as_slice.ensures.value ∙ c.in_ok-roots.ensures) c.requires.root c.requires.env)
    c.as_slice-numbers.result.now (keys-rise c.in_ok-found.found.keys c.as_slice-numbers.result.now c.len-count.ensures.ordered (c.as_slice-numbers.ensures.value ∙ c.in_ok-list.ensures))
    (listed-reached c.args.table.now.automaton c.as_slice.result.now c.in_ok-found.found.keys c.as_slice-numbers.result.now (c.as_slice-numbers.ensures.value ∙ c.in_ok-list.ensures) c.in_ok-found.ensures)

pub placed_states-requires-clause-rises : goal.placed_states-requires-clause-rises
placed_states-requires-clause-rises c =
    keys-rise c.in_ok-found.found.keys c.as_slice-numbers.result.now c.len-count.ensures.ordered (c.as_slice-numbers.ensures.value ∙ c.in_ok-list.ensures)

pub placed_states-requires-clause-order : goal.placed_states-requires-clause-order
placed_states-requires-clause-order c =
    numbers-order c.args.table.now c.limit-limit.ensures.is c.args.root c.args.env.now c.requires.binders
    (table_scheme c.args.table.now c.limit-limit.ensures.is c.args.root.0 c.args.env.now c.requires.root c.requires.env) c.as_slice.result.now (scheme-roots c.args.root c.args.env.now c.as_slice.result.now (c.as_slice.ensures.value ∙ c.in_ok-roots.ensures))
    (scheme-roots_there c.args.table.now c.args.root c.args.env.now c.as_slice.result.now (c.as_slice.ensures.value ∙ c.in_ok-roots.ensures) c.requires.root c.requires.env)
    c.as_slice-numbers.result.now (keys-rise c.in_ok-found.found.keys c.as_slice-numbers.result.now c.len-count.ensures.ordered (c.as_slice-numbers.ensures.value ∙ c.in_ok-list.ensures))
    (listed-reached c.args.table.now.automaton c.as_slice.result.now c.in_ok-found.found.keys c.as_slice-numbers.result.now (c.as_slice-numbers.ensures.value ∙ c.in_ok-list.ensures) c.in_ok-found.ensures)

pub place_flows-requires-clause-there : goal.place_flows-requires-clause-there
place_flows-requires-clause-there c =
    numbers-there c.args.table.now c.limit-limit.ensures.is c.args.root c.args.env.now c.requires.binders
    (table_scheme c.args.table.now c.limit-limit.ensures.is c.args.root.0 c.args.env.now c.requires.root c.requires.env) c.as_slice.result.now (scheme-roots c.args.root c.args.env.now c.as_slice.result.now (c.as_slice.ensures.value ∙ c.in_ok-roots.ensures))
    (scheme-roots_there c.args.table.now c.args.root c.args.env.now c.as_slice.result.now (c.as_slice.ensures.value ∙ c.in_ok-roots.ensures) c.requires.root c.requires.env)
    c.as_slice-numbers.result.now (keys-rise c.in_ok-found.found.keys c.as_slice-numbers.result.now c.len-count.ensures.ordered (c.as_slice-numbers.ensures.value ∙ c.in_ok-list.ensures))
    (listed-reached c.args.table.now.automaton c.as_slice.result.now c.in_ok-found.found.keys c.as_slice-numbers.result.now (c.as_slice-numbers.ensures.value ∙ c.in_ok-list.ensures) c.in_ok-found.ensures)

pub place_flows-requires-clause-rises : goal.place_flows-requires-clause-rises
place_flows-requires-clause-rises c =
    keys-rise c.in_ok-found.found.keys c.as_slice-numbers.result.now c.len-count.ensures.ordered (c.as_slice-numbers.ensures.value ∙ c.in_ok-list.ensures)

pub place_flows-requires-clause-places : goal.place_flows-requires-clause-places
place_flows-requires-clause-places c =
    has-places c.args.table.now c.limit-limit.ensures.is c.args.root c.args.env.now c.requires.binders
    (table_scheme c.args.table.now c.limit-limit.ensures.is c.args.root.0 c.args.env.now c.requires.root c.requires.env) c.as_slice.result.now (scheme-roots c.args.root c.args.env.now c.as_slice.result.now (c.as_slice.ensures.value ∙ c.in_ok-roots.ensures))
    (scheme-roots_there c.args.table.now c.args.root c.args.env.now c.as_slice.result.now (c.as_slice.ensures.value ∙ c.in_ok-roots.ensures) c.requires.root c.requires.env)
    c.as_slice-numbers.result.now (keys-rise c.in_ok-found.found.keys c.as_slice-numbers.result.now c.len-count.ensures.ordered (c.as_slice-numbers.ensures.value ∙ c.in_ok-list.ensures))
    (listed-reached c.args.table.now.automaton c.as_slice.result.now c.in_ok-found.found.keys c.as_slice-numbers.result.now (c.as_slice-numbers.ensures.value ∙ c.in_ok-list.ensures) c.in_ok-found.ensures)
    c.in_ok-automaton.automaton c.in_ok-automaton.ensures.states

pub placed_env-requires-clause-rises : goal.placed_env-requires-clause-rises
placed_env-requires-clause-rises c =
    keys-rise c.in_ok-found.found.keys c.as_slice-numbers.result.now c.len-count.ensures.ordered (c.as_slice-numbers.ensures.value ∙ c.in_ok-list.ensures)

pub place_in-place-requires : goal.place_in-place-requires
place_in-place-requires c =
    keys-rise c.in_ok-found.found.keys c.as_slice-numbers.result.now c.len-count.ensures.ordered (c.as_slice-numbers.ensures.value ∙ c.in_ok-list.ensures)

pub returns-clause-kept : goal.returns-clause-kept
returns-clause-kept c =
    frozen-keeps c.args.table.now c.limit-limit.ensures.is c.args.root c.args.env.now c.requires.binders
    (table_scheme c.args.table.now c.limit-limit.ensures.is c.args.root.0 c.args.env.now c.requires.root c.requires.env) c.as_slice.result.now (scheme-roots c.args.root c.args.env.now c.as_slice.result.now (c.as_slice.ensures.value ∙ c.in_ok-roots.ensures))
    (scheme-roots_there c.args.table.now c.args.root c.args.env.now c.as_slice.result.now (c.as_slice.ensures.value ∙ c.in_ok-roots.ensures) c.requires.root c.requires.env)
    c.as_slice-numbers.result.now (keys-rise c.in_ok-found.found.keys c.as_slice-numbers.result.now c.len-count.ensures.ordered (c.as_slice-numbers.ensures.value ∙ c.in_ok-list.ensures))
    (listed-reached c.args.table.now.automaton c.as_slice.result.now c.in_ok-found.found.keys c.as_slice-numbers.result.now (c.as_slice-numbers.ensures.value ∙ c.in_ok-list.ensures) c.in_ok-found.ensures)
    c.place_flows.new.into (c.in_ok-place_flows.ensures.states ∙ c.in_ok-automaton.ensures.states) c.in_ok-place_flows.ensures.flows
    (record { automaton = c.place_flows.new.into; env = c.in_ok-env.env; root = record { 0 = c.place_in-place.result } }) refl c.in_ok-env.ensures c.place_in-place.ensures

pub returns-clause-scheme : goal.returns-clause-scheme
returns-clause-scheme c =
    frozen-scheme c.args.table.now c.limit-limit.ensures.is c.args.root c.args.env.now c.requires.binders
    (table_scheme c.args.table.now c.limit-limit.ensures.is c.args.root.0 c.args.env.now c.requires.root c.requires.env) c.as_slice.result.now (scheme-roots c.args.root c.args.env.now c.as_slice.result.now (c.as_slice.ensures.value ∙ c.in_ok-roots.ensures))
    (scheme-roots_there c.args.table.now c.args.root c.args.env.now c.as_slice.result.now (c.as_slice.ensures.value ∙ c.in_ok-roots.ensures) c.requires.root c.requires.env)
    c.as_slice-numbers.result.now (keys-rise c.in_ok-found.found.keys c.as_slice-numbers.result.now c.len-count.ensures.ordered (c.as_slice-numbers.ensures.value ∙ c.in_ok-list.ensures))
    (listed-reached c.args.table.now.automaton c.as_slice.result.now c.in_ok-found.found.keys c.as_slice-numbers.result.now (c.as_slice-numbers.ensures.value ∙ c.in_ok-list.ensures) c.in_ok-found.ensures)
    c.place_flows.new.into (c.in_ok-place_flows.ensures.states ∙ c.in_ok-automaton.ensures.states) c.in_ok-place_flows.ensures.flows
    (record { automaton = c.place_flows.new.into; env = c.in_ok-env.env; root = record { 0 = c.place_in-place.result } }) refl c.in_ok-env.ensures c.place_in-place.ensures
