use Rattle.std.proofs.Common.{◌≡◌, ◌∷◌, [], ap, subst, refl, ◌∙◌, rules, Some, None}
use Rattle.std.specs.Ordering.{nat_cmp}
use Rattle.std.specs.Cmp.Lexicographic.{slice_cmp}
use Rattle.std.specs.BTreeMap.{Updates}
use Rattle.mls_print.proofs.Grouped.{Groups, at, entry_added, is_some-from}
use Rattle.mls_print.proofs.record.add_field.Goals as goal

pub returns-in_ok-push-in-Some : goal.returns-in_ok-push-in-Some
returns-in_ok-push-in-Some c =
    let old : Groups = c.args.groups.now in
    let new : Groups = c.get_mut.follows.lender c.push.new.self in
    let found : at old c.args.field.now.label ≡ Some c.in-Some.sets.now = search rules in
    let found' : at old c.new-label.result ≡ Some c.in-Some.sets.now = ap (at old) c.new-label.ensures ∙ found in
    let updates : Updates (slice_cmp nat_cmp) old new c.new-label.result (Some c.push.new.self) = (c.get_mut.follows.holds c.push.new.self).3 (is_some-from (at old c.new-label.result) c.in-Some.sets.now found') in
    entry_added old new c.args.field.now.label c.args.field.now.set (Some c.in-Some.sets.now) found c.push.new.self (c.in_ok-push-in-Some.ensures)
    (subst (λ k. Updates (slice_cmp nat_cmp) old new k (Some c.push.new.self)) c.new-label.ensures updates)

pub returns-in_ok-insert-in-None : goal.returns-in_ok-insert-in-None
returns-in_ok-insert-in-None c =
    let none : at c.args.groups.now c.args.field.now.label ≡ None = search rules in
    let updates : Updates (slice_cmp nat_cmp) c.args.groups.now c.insert.new.self c.args.field.now.label (Some (c.args.field.now.set ∷ [])) = search rules in
    entry_added c.args.groups.now c.insert.new.self c.args.field.now.label c.args.field.now.set None none (c.args.field.now.set ∷ []) refl updates
