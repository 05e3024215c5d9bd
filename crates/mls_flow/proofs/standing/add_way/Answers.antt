use Rattle.std.proofs.Common.{◌≡◌, ◌∙◌, ap, sym, subst, ℕ, List, OnOk}
use Rattle.std.specs.Prelude.{Option, Some}
use Rattle.mls_flow.specs.steps.Losing.{AddsUses, IsIn}
use Rattle.mls_flow.proofs.standing.add_way.Goals as goal

pub returns-in-Some : goal.returns-in-Some
returns-in-Some c =
    let P : Option (List ℕ) → Type 0 = λ m. OnOk c.add_uses.result (AddsUses c.args.uses.now.items c.add_uses.new.uses.items (λ u j. (u ≡ record { claim = c.args.claim; is_second = c.args.is_second }) × IsIn m j)) in
    subst P (ap Some c.as_slice.ensures ∙ sym c.in-Some.is) c.add_uses.ensures
