use Rattle.std.proofs.Common.{List, sym, subst}
use Rattle.mls_automaton.specs.declared.scheme.EnvEntry.{EnvEntry}
use Rattle.mls_infer.specs.Merges.{BindersAscend, HasSameMembers}
use Rattle.mls_infer.specs.Pending.{part_in, states_in}
use Rattle.mls_infer.proofs.MergeLoops.{IsMergedTo, group_binder, group_some, group_states, merged_end, merged_next, merged_start}
use Rattle.mls_infer.proofs.meets.merged.Goals as goal

abbrev none : EnvEntry
none = record { binder = 0; state = record { 0 = 0 } }

pub loop-i-init : goal.loop-i-init
loop-i-init c =
    let entries : List EnvEntry = c.as_slice-entries.result.now in
    let own : HasSameMembers c.as_slice.result.now entries = subst (HasSameMembers c.as_slice.result.now) (sym c.as_slice-entries.ensures.value) c.in_ok-in_order.ensures.members in
    let same : HasSameMembers c.args.part.env entries = subst (λ (xs : List EnvEntry). HasSameMembers xs entries) c.as_slice.ensures own in
    subst (λ (env : List EnvEntry). IsMergedTo c.args.live.now (part_in c.args.part) entries 0 c.args.live.now (states_in c.args.part.region) env) (sym c.new-env.ensures)
    (merged_start c.args.live.now (part_in c.args.part) entries c.requires same)

pub met-requires-clause-some : goal.met-requires-clause-some
met-requires-clause-some c =
    group_some c.args.live.now c.loop-i.live (part_in c.args.part) c.as_slice-entries.result.now c.loop-i.i (states_in c.loop-i.region) c.loop-i.env c.loop-i.invariant
    c.group_end-end.result c.group_end-end.ensures none

pub met-requires-clause-binder : goal.met-requires-clause-binder
met-requires-clause-binder c = (
  _,
  group_binder c.args.live.now c.loop-i.live (part_in c.args.part) c.as_slice-entries.result.now c.loop-i.i (states_in c.loop-i.region) c.loop-i.env c.loop-i.invariant
      c.group_end-end.result c.group_end-end.ensures none,
)

pub met-requires-clause-states : goal.met-requires-clause-states
met-requires-clause-states c =
    group_states c.args.live.now c.loop-i.live (part_in c.args.part) c.as_slice-entries.result.now c.loop-i.i (states_in c.loop-i.region) c.loop-i.env c.loop-i.invariant
    c.group_end-end.result c.group_end-end.ensures none

pub loop-i-preserved : goal.loop-i-preserved
loop-i-preserved c =
    let ascend : BindersAscend c.as_slice-entries.result.now = subst BindersAscend (sym c.as_slice-entries.ensures.value) c.in_ok-in_order.ensures.sorted in
    merged_next c.args.live.now c.loop-i.live (part_in c.args.part) c.as_slice-entries.result.now c.loop-i.i (states_in c.loop-i.region) c.loop-i.env c.loop-i.invariant
    c.group_end-end.result c.group_end-end.ensures none
    c.met.new.live (states_in c.met.new.region) c.in_ok-entry.entry c.push.new.self c.in_ok-entry.ensures c.in_ok-push.ensures.ok ascend

pub returns-clause-remade : goal.returns-clause-remade
returns-clause-remade c =
    merged_end c.args.live.now c.loop-i.live (part_in c.args.part) c.as_slice-entries.result.now c.loop-i.i (states_in c.loop-i.region) c.loop-i.env c.loop-i.invariant c.loop-i-test.false

pub returns-clause-rise : goal.returns-clause-rise
returns-clause-rise c = c.loop-i.invariant.rise
