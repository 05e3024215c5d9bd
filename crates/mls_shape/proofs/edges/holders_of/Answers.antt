use Rattle.std.proofs.lemmas.List.{get_or_default}
use Rattle.mls_automaton.specs.declared.automaton.Polarity.TheVariants.{Positive}
use Rattle.std.proofs.Common.{◌≡◌, ◌∙◌, [], ℕ, List, Contains, subst, ap, length, arith}
use Rattle.mls_shape.specs.declared.register.SetState.{SetState}
use Rattle.mls_shape.specs.steps.Edges.{AddsHolders, AreHolders}
use Rattle.mls_shape.proofs.Holders.{holders-more}
use Rattle.mls_shape.proofs.edges.holders_of.Goals as goal

pub loop-u-preserved : goal.loop-u-preserved
loop-u-preserved c =
    holders-more c.args.sets.now c.args.count c.loop-u.u c.loop-u.holders.items c.add_holder.new.holders.items c.loop-u.invariant
    (subst (λ (xs : List ℕ). AddsHolders c.loop-u.holders.items c.add_holder.new.holders.items (λ u j. (u ≡ c.loop-u.u) × Contains xs j))
    (c.as_slice.ensures.members ∙ ap (λ (set : SetState). set.members) (get_or_default c.args.sets.now c.loop-u.u c.index-sets-u.result (record { polarity = Positive; members = [] }) c.loop-u-test.true))
    c.in_ok-add_holder.ensures)

pub returns : goal.returns
returns c =
    let all : c.loop-u.u ≡ length c.args.sets.now = omega (arith, c.loop-u-test.false, c.loop-u.auto.u-end) in
    subst (λ n. AreHolders c.args.sets.now c.args.count n c.loop-u.holders.items) all c.loop-u.invariant
