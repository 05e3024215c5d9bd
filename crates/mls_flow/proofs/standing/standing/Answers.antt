use Rattle.std.proofs.Common.{◌∙◌, ap, sym, subst, map, Bool, List}
use Rattle.mls_flow.specs.Claims.{IsGreatest}
use Rattle.mls_flow.specs.steps.Losing.{is_left}
use Rattle.mls_flow.proofs.Losses.{greatest}
use Rattle.mls_flow.proofs.standing.standing.Goals as goal

pub returns-clause-greatest : goal.returns-clause-greatest
returns-clause-greatest c =
    let P : List Bool → Type 0 = λ ms. IsGreatest c.args.claims.now ms in
    subst P (sym (c.in_ok-marks.ensures ∙ ap (map is_left) c.as_slice-3.ensures.value))
    (greatest c.args.claims.now (record { left = c.lose_all.new.left.items; lost = c.lose_all.new.lost.items }) c.requires c.in_ok-lose_all.ensures)
