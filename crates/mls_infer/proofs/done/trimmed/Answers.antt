use Rattle.std.proofs.Common.{◌≡◌, List, subst, sym, All}
use Rattle.mls_automaton.specs.declared.state_set.StateId.{StateId}
use Rattle.mls_biunify.specs.Live.{IsThere, numbers_in}
use Rattle.mls_infer.specs.Pending.{part_in}
use Rattle.mls_infer.proofs.DoneOut.{each_there, roots_collected, roots_of, roots_within, stays_there, trimmed_to}
use Rattle.mls_infer.proofs.done.trimmed.Goals as goal

pub keep_among-requires-clause-states : goal.keep_among-requires-clause-states
keep_among-requires-clause-states c = each_there c.merged.new.live c.in_ok-part.part.region.states.items c.in_ok-part.ensures.remade.waits.there

pub keep_among-requires-clause-roots : goal.keep_among-requires-clause-roots
keep_among-requires-clause-roots c =
    roots_within c.merged.new.live (part_in c.in_ok-part.part) c.in_ok-part.ensures.remade.waits c.as_slice.result.now
    (roots_collected c.new-roots.ensures.items c.in_ok-push.ensures.items c.loop-entry.invariant c.loop-entry-test.false c.as_slice-entry-items.ensures c.as_slice.ensures.value)

pub weight-requires : goal.weight-requires
weight-requires c =
    let roots_are : c.as_slice.result.now ≡ roots_of c.in_ok-part.part.root c.in_ok-part.part.env =
    roots_collected c.new-roots.ensures.items c.in_ok-push.ensures.items c.loop-entry.invariant c.loop-entry-test.false c.as_slice-entry-items.ensures c.as_slice.ensures.value in
    subst (λ (xs : List StateId). All (λ (s : StateId). IsThere c.keep_among.new.self s.0) xs) (sym c.as_slice-2.ensures.value)
    (each_there c.keep_among.new.self c.in_ok-states.states.items
    (stays_there c.merged.new.live (part_in c.in_ok-part.part) c.in_ok-part.ensures.remade.waits c.keep_among.new.self c.ready-merged.ensures.live c.ready-kept.ensures.live c.as_slice.result.now roots_are
    c.in_ok-states.ensures.kept (numbers_in c.in_ok-states.states.items) c.in_ok-states.ensures.answer))

pub returns-clause-remade : goal.returns-clause-remade
returns-clause-remade c =
    let roots_are : c.as_slice.result.now ≡ roots_of c.in_ok-part.part.root c.in_ok-part.part.env =
    roots_collected c.new-roots.ensures.items c.in_ok-push.ensures.items c.loop-entry.invariant c.loop-entry-test.false c.as_slice-entry-items.ensures c.as_slice.ensures.value in
    trimmed_to c.merged.new.live (part_in c.in_ok-part.part) c.in_ok-part.ensures.remade.waits c.keep_among.new.self c.ready-merged.ensures.live c.ready-kept.ensures.live c.as_slice.result.now roots_are
    c.in_ok-states.ensures.kept (numbers_in c.in_ok-states.states.items) c.in_ok-states.ensures.answer c.args.live.now (part_in c.args.part) c.in_ok-part.ensures.remade
