use Rattle.std.proofs.Common.{◌↔◌, ℕ, Contains, sym, subst}
use Rattle.mls_automaton.specs.declared.automaton.Polarity.{Polarity}
use Rattle.mls_print.specs.steps.Variables.{IsCandidate}
use Rattle.mls_print.proofs.variables.candidates_of.Goals as goal

pub returns-in_ok-partners-in-Positive : goal.returns-in_ok-partners-in-Positive
returns-in_ok-partners-in-Positive c =
    let P : Polarity → Type 0 = λ p. (j : ℕ) → Contains c.in_ok-partners-in-Positive.partners.items j ↔ IsCandidate c.args.automaton.now p c.args.set.now j in
    subst P (sym c.in-Positive.is) c.in_ok-partners-in-Positive.ensures
