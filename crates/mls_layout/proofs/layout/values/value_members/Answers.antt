use Rattle.std.proofs.Common.{ℕ, ◌∙◌, subst, sym}
use Rattle.std.specs.Prelude.{◌↔◌}
use Rattle.mls_automaton.specs.declared.automaton.Polarity.{Polarity}
use Rattle.mls_solver.specs.Rooms.{Holds}
use Rattle.mls_layout.specs.Trees.{IsNodeIn}
use Rattle.mls_layout.specs.steps.Sources.{IsEntering}
use Rattle.mls_layout.proofs.layout.values.value_members.Goals as goal

pub returns-in_ok-ids-in-Positive : goal.returns-in_ok-ids-in-Positive
returns-in_ok-ids-in-Positive c =
    subst (λ (p : Polarity). (i : ℕ) → IsNodeIn c.in_ok-ids-in-Positive.ids i ↔ IsEntering c.args.a.now (Holds c.args.found.now) c.args.sources.now p c.args.s.0 i)
    (sym c.in-Positive.is ∙ c.polarity.ensures) c.in_ok-ids-in-Positive.ensures

pub returns-in_ok-ids-in-Negative : goal.returns-in_ok-ids-in-Negative
returns-in_ok-ids-in-Negative c =
    subst (λ (p : Polarity). (i : ℕ) → IsNodeIn c.in_ok-ids-in-Negative.ids i ↔ IsEntering c.args.a.now (Holds c.args.found.now) c.args.sources.now p c.args.s.0 i)
    (sym c.in-Negative.is ∙ c.polarity.ensures) c.in_ok-ids-in-Negative.ensures
