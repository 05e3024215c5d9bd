use Rattle.std.proofs.Common.{◌<◌, ◌≤◌, ℕ, List, arith, length, rules, subst, sym}
use Rattle.std.proofs.lemmas.Bool.{ltb-true}
use Rattle.mls_biunify.specs.steps.Marking.{WasFound}
use Rattle.mls_biunify.proofs.FoundMarks.{past-unfound}
use Rattle.mls_biunify.proofs.marks.Marks.contains.Goals as goal

pub returns-else-s-len : goal.returns-else-s-len
returns-else-s-len c = (
  λ it. let low : c.args.s < c.len.result = ltb-true c.args.s c.len.result it in let high : c.len.result ≤ c.args.s = c.if-s-len.false in absurd (omega arith),
  λ was. let high : length c.self.inside.is_found.items ≤ c.args.s = search rules in absurd (past-unfound c.self.inside.found.items c.self.inside.is_found.items c.self.invariant c.args.s high
      (subst (λ (xs : List ℕ). WasFound xs c.args.s) (sym c.self.view_is) was)),
)
