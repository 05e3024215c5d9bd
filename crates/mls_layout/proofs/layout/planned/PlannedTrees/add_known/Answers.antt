use Rattle.std.proofs.Common.{◌≡◌, ◌≢◌, ◌<◌, ℕ, length, ap, ◌∙◌, rules, subst, sym, Some}
use Rattle.std.specs.BTreeMap.{get}
use Rattle.std.specs.Ordering.{nat_cmp}
use Rattle.mls_layout.specs.steps.Planned.{IsRoot, Planned, end_of}
use Rattle.mls_layout.proofs.PlannedTrees.{known_next, last_of}
use Rattle.mls_layout.proofs.layout.planned.PlannedTrees.add_known.Goals as goal

pub invariant_of-self-2 : goal.invariant_of-self-2
invariant_of-self-2 c =
    let here : get nat_cmp c.insert.new.self c.args.sum ≡ Some (c.len-place.result, c.in_ok-root.root) = search rules in
    let others : (k : ℕ) → k ≢ c.args.sum → get nat_cmp c.insert.new.self k ≡ get nat_cmp c.self-2.inside.known k = search rules in (
      c.self-2.invariant.0,
      known_next c.self-2.inside.start c.self-2.inside.end c.self-2.inside.trees c.self-2.inside.known c.insert.new.self c.args.sum (c.len-place.result, c.in_ok-root.root)
          c.self-2.invariant.1 here others
          (last_of c.args.self.now (record { start = c.self-2.inside.start; trees = c.self-2.inside.trees }) c.self-2.inside.end c.args.polarity c.args.members c.len-place.result c.in_ok-root.root
          (c.len-place.ensures ∙ ap (λ (plan : Planned). length plan.trees) c.self.view_is) (c.self-2.view_is ∙ c.in_ok-root.ensures.trees) c.self-2.invariant.0
          (subst (λ (plan : Planned). IsRoot plan c.args.polarity c.args.members c.in_ok-root.root.0) (sym c.self-2.view_is) c.in_ok-root.ensures.root)
          (subst (λ (plan : Planned). c.in_ok-root.root.0 < end_of plan) (sym c.self-2.view_is) c.in_ok-root.ensures.low)),
    )
