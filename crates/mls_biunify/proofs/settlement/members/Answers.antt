use Rattle.std.proofs.Common.{◌↔◌, ◌⊎◌, ℕ, List, Contains, subst}
use Rattle.mls_automaton.specs.declared.automaton.Polarity.TheVariants.{Positive, Negative}
use Rattle.mls_solver.specs.Rooms.{Holds}
use Rattle.mls_solver.specs.steps.Solving.{AreMembers}
use Rattle.mls_solver.proofs.Answered.{if_ok}
use Rattle.mls_biunify.specs.steps.Settlement.{GivenBy}
use Rattle.mls_biunify.proofs.SettledHeads.{positive-members, negative-members, partners_low}
use Rattle.mls_biunify.proofs.settlement.members.Goals as goal

pub with_above-requires : goal.with_above-requires
with_above-requires c =
    partners_low c.args.table.now c.polarity.ensures.is Negative c.as_slice.result.now c.args.relation.now.negatives c.requires.columns
    (λ j it. c.polarity.ensures.is.is.negative j c.args.s.0 ((c.before-in-Positive.ensures.partners j).0 (subst (λ (xs : List ℕ). Contains xs j) c.as_slice.ensures.members it)))

pub with_below-requires : goal.with_below-requires
with_below-requires c =
    partners_low c.args.table.now c.polarity.ensures.is Positive c.as_slice-in-Negative.result.now c.args.relation.now.positives c.requires.rows
    (λ j it. c.polarity.ensures.is.is.positive c.args.s.0 j ((c.after.ensures.partners j).0 (subst (λ (xs : List ℕ). Contains xs j) c.as_slice-in-Negative.ensures.members it)))

pub returns-in-Positive : goal.returns-in-Positive
returns-in-Positive c =
    if_ok c.with_above.result (λ (all : List ℕ). (j : ℕ) → Contains all j ↔ (Contains c.in_ok-set.set j ⊎ GivenBy c.as_slice.result.now (λ n p. Holds c.args.relation.now p n) j)) (AreMembers c.args.table.now.automaton (Holds c.args.relation.now) c.args.s.0)
    (λ all it. positive-members c.args.table.now.automaton c.args.relation.now c.args.s.0 c.in_ok-set.set c.in_ok-set.ensures c.in-Positive.ensures.polarity c.before-in-Positive.result.now c.as_slice.result.now all c.as_slice.ensures.members c.before-in-Positive.ensures.partners it)
    c.with_above.ensures

pub returns-in-Negative : goal.returns-in-Negative
returns-in-Negative c =
    if_ok c.with_below.result (λ (all : List ℕ). (j : ℕ) → Contains all j ↔ (Contains c.in_ok-set.set j ⊎ GivenBy c.as_slice-in-Negative.result.now (λ p n. Holds c.args.relation.now p n) j)) (AreMembers c.args.table.now.automaton (Holds c.args.relation.now) c.args.s.0)
    (λ all it. negative-members c.args.table.now.automaton c.args.relation.now c.args.s.0 c.in_ok-set.set c.in_ok-set.ensures c.in-Negative.ensures.polarity c.after.result.now c.as_slice-in-Negative.result.now all c.as_slice-in-Negative.ensures.members c.after.ensures.partners it)
    c.with_below.ensures
