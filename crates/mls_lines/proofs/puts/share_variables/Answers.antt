use Rattle.std.proofs.Common.{◌≡◌, ◌≤◌, ◌<◌, ◌+◌, length, sym, subst}
use Rattle.mls_lines.proofs.PutLists.{first_variable, shares, shared}
use Rattle.mls_lines.proofs.puts.share_variables.Goals as goal

pub returns-in-Some : goal.returns-in-Some
returns-in-Some c = λ x follow.
    let puts = c.args.puts.now in
    let others = c.args.others.now in
    let first = c.in-Some.first.now in
    let is : first.variable ≡ x = first_variable x others first follow c.in-Some.ensures.value in (
      (λ found.
          let w = c.have_among.ensures.0 found in
          shares x puts others follow w.1 (w.0, w.2, w.3) (subst (λ y. y ≤ w.1.variable) is w.4.0) (subst (λ y. w.1.variable < y + length others) is w.4.1)),
      (λ it.
          let w = shared x puts others follow it in
          c.have_among.ensures.1 (w.1.0, w.0, w.1.1, w.1.2, (subst (λ y. y ≤ w.0.variable) (sym is) w.2, subst (λ y. w.0.variable < y + length others) (sym is) w.3))),
    )
