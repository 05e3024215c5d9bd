use Rattle.std.proofs.Common.{◌∙◌, ◌↔◌, ℕ, false, List, All, Contains, ap, subst, sym}
use Rattle.mls_automaton.specs.declared.state_set.StateId.{StateId}
use Rattle.mls_biunify.specs.Live.{IsReachedFrom, IsRegion, IsThere, KeepsThere, Live, StaysBeside, numbers_in}
use Rattle.mls_biunify.specs.steps.Keeping.{KeepsStates, StaysAmong}
use Rattle.mls_biunify.specs.steps.LiveParts.{live_of}
use Rattle.mls_biunify.proofs.Lives.{kept-live}
use Rattle.mls_biunify.proofs.Regions.{numbers-there, region-flows, region-heads}
use Rattle.mls_biunify.proofs.live.Live.keep_among.Goals as goal

pub keep_among-requires-clause-states : goal.keep_among-requires-clause-states
keep_among-requires-clause-states c =
    numbers-there c.self.inside.table.there c.args.states.items c.as_slice-2.result.now (c.as_slice-2.ensures.value ∙ (c.in_ok-numbers.ensures ∙ ap numbers_in c.as_slice.ensures.value))
    (subst (λ (live : Live). All (λ (s : StateId). IsThere live s.0) c.args.states.items) (sym c.self.view_is) c.requires.states)

pub keep_among-requires-clause-roots : goal.keep_among-requires-clause-roots
keep_among-requires-clause-roots c =
    subst (λ (xs : List ℕ). All (λ (root : StateId). Contains xs root.0) c.args.roots.now) (sym (c.as_slice-2.ensures.value ∙ (c.in_ok-numbers.ensures ∙ ap numbers_in c.as_slice.ensures.value)))
    c.requires.roots

pub keep_among-requires-clause-heads : goal.keep_among-requires-clause-heads
keep_among-requires-clause-heads c =
    region-heads c.self.inside.table.automaton (numbers_in c.args.states.items) c.as_slice-2.result.now (c.as_slice-2.ensures.value ∙ (c.in_ok-numbers.ensures ∙ ap numbers_in c.as_slice.ensures.value))
    (subst (λ (live : Live). IsRegion live.table (numbers_in c.args.states.items)) (sym c.self.view_is) c.requires.region)

pub keep_among-requires-clause-flows : goal.keep_among-requires-clause-flows
keep_among-requires-clause-flows c =
    region-flows c.self.inside.table.automaton (numbers_in c.args.states.items) c.as_slice-2.result.now (c.as_slice-2.ensures.value ∙ (c.in_ok-numbers.ensures ∙ ap numbers_in c.as_slice.ensures.value))
    (subst (λ (live : Live). IsRegion live.table (numbers_in c.args.states.items)) (sym c.self.view_is) c.requires.region)

pub returns-clause-kept : goal.returns-clause-kept
returns-clause-kept c =
    subst (λ (live : Live). KeepsThere live (live_of (record { table = c.keep_among.new.table; relation = c.self.inside.relation; is_solved = false; is_ready = false })) (StaysBeside live (numbers_in c.args.states.items) c.args.roots.now)) c.self.view_is
    (kept-live c.self.inside.table c.keep_among.new.table (StaysAmong c.self.inside.table (numbers_in c.args.states.items) c.args.roots.now) c.self.inside.relation c.self.inside.is_solved c.self.inside.is_ready
    (subst (λ (xs : List ℕ). KeepsStates c.self.inside.table (StaysAmong c.self.inside.table xs c.args.roots.now) c.keep_among.new.table) (c.as_slice-2.ensures.value ∙ (c.in_ok-numbers.ensures ∙ ap numbers_in c.as_slice.ensures.value)) c.in_ok-kept.ensures.ok))

pub returns-clause-answer : goal.returns-clause-answer
returns-clause-answer c =
    subst (λ (live : Live). (s : ℕ) → Contains (numbers_in c.in_ok-kept.kept.items) s ↔ IsReachedFrom live.table c.args.roots.now s) c.self.view_is
    c.in_ok-kept.ensures.kept
