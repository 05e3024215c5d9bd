use Rattle.std.proofs.Common.{◌<◌, ◌∙◌, ◌++◌, ◌∷◌, [], ℕ, List, length, take, Contains, sym, subst, ap}
use Rattle.std.proofs.lemmas.List.{take_more}
use Rattle.std.proofs.lemmas.List.Elements.{Contains-get_or}
use Rattle.mls_automaton.specs.declared.automaton.Polarity.TheVariants.{Negative}
use Rattle.mls_automaton.specs.declared.automaton.Head.{Head}
use Rattle.mls_automaton.specs.Heads.{combined_two, parts_of, IsSameParts}
use Rattle.mls_automaton.specs.Models.{HasRisingLabels}
use Rattle.mls_parts.specs.declared.pose.Need.{Need}
use Rattle.mls_parts.specs.MetNeeds.{HasMet}
use Rattle.mls_parts.proofs.MetNeeds.{none_met, next_met}
use Rattle.mls_parts.proofs.pose.meet_needs.Goals as goal

pub loop-need-init : goal.loop-need-init
loop-need-init c = none_met c.args.automaton.now c.args.binders.now c.requires.closed

-- the need stands in the list
there : (c : goal.After-number_at) → Contains c.args.needs.now c.need-item.result
there c =
    subst (Contains c.args.needs.now) (sym c.need-item.is) (Contains-get_or c.args.needs.now c.loop-need.need-index c.need-item.result c.loop-need-test.true)

in_range : (c : goal.After-number_at) → c.number_at.result < length c.loop-need.automaton.states
in_range c =
    subst (λ n. c.number_at.result < n) (sym c.loop-need.invariant.same_length)
    (subst (λ s. s < length c.args.automaton.now.states) (sym c.number_at.ensures) (c.requires.needs.negative c.need-item.result (there c)).in_range)

pub head-requires : goal.head-requires
head-requires c = in_range c

pub combine_heads-requires-clause-first : goal.combine_heads-requires-clause-first
combine_heads-requires-clause-first c = subst (λ (h : Head). HasRisingLabels h.fields) (sym c.head.ensures) (c.loop-need.invariant.labels c.number_at.result)

pub combine_heads-requires-clause-second : goal.combine_heads-requires-clause-second
combine_heads-requires-clause-second c =
    c.requires.needs.labels c.need-item.result (subst (Contains c.args.needs.now) (sym c.need-item.is) (Contains-get_or c.args.needs.now c.loop-need.need-index c.need-item.result c.loop-need-test.true))

pub set_head-requires : goal.set_head-requires
set_head-requires c =
    subst (λ n. c.number_at.result < n) (sym c.loop-need.invariant.same_length)
    (subst (λ s. s < length c.args.automaton.now.states) (sym c.number_at.ensures)
    (c.requires.needs.negative c.need-item.result (subst (Contains c.args.needs.now) (sym c.need-item.is) (Contains-get_or c.args.needs.now c.loop-need.need-index c.need-item.result c.loop-need-test.true))).in_range)

pub loop-need-preserved : goal.loop-need-preserved
loop-need-preserved c =
    let needs : List Need = c.args.needs.now in
    let i : ℕ = c.loop-need.need-index in
    let need : Need = c.need-item.result in
    let there : Contains needs need = subst (Contains needs) (sym c.need-item.is) (Contains-get_or needs i need c.loop-need-test.true) in
    subst (λ (done : List Need). HasMet c.args.binders.now done c.args.automaton.now c.set_head.new.self) (ap (λ (n : Need). take i needs ++ n ∷ []) c.need-item.is ∙ sym (take_more needs i need c.loop-need-test.true))
    (next_met c.args.automaton.now c.loop-need.automaton c.set_head.new.self c.args.binders.now (take i needs) need c.loop-need.invariant
    (c.requires.needs.negative need there) (c.requires.needs.states need there) c.number_at.result c.number_at.ensures c.in_ok-head.head
    (subst (λ (h : Head). IsSameParts (parts_of c.in_ok-head.head) (combined_two Negative (parts_of h) (parts_of need.head))) c.head.ensures c.in_ok-head.ensures.parts) c.in_ok-head.ensures.labels
    c.set_head.ensures.size c.set_head.ensures.polarity c.set_head.ensures.head c.set_head.ensures.others c.set_head.ensures.flows)
