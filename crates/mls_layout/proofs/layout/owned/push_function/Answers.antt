use Rattle.std.proofs.Common.{Option, subst, sym}
use Rattle.mls_automaton.specs.declared.automaton.Arms.{Arms}
use Rattle.mls_automaton.specs.declared.automaton.Polarity.{Polarity}
use Rattle.mls_layout.specs.LaidOut.{place_of}
use Rattle.mls_layout.specs.Trees.{IsPlaceIn}
use Rattle.mls_layout.specs.steps.Planned.{HasTree}
use Rattle.mls_layout.specs.steps.Owned.{AddsFunction}
use Rattle.mls_layout.proofs.OwnNodes.{places_low, function_made}
use Rattle.mls_layout.proofs.layout.owned.push_function.Goals as goal

pub plan_set-requires-in-Some : goal.plan_set-requires-in-Some
plan_set-requires-in-Some c = places_low (place_of c.args.places.now) c.args.trees.now c.plan_set.new.trees c.in_ok-from-in-Some.ensures.extends c.requires

pub returns-in_ok-push-in-Some-clause-adds : goal.returns-in_ok-push-in-Some-clause-adds
returns-in_ok-push-in-Some-clause-adds c =
    let place = place_of c.args.places.now in
    let arms = c.in-Some.arms in
    subst (λ (o : Option Arms). AddsFunction c.plan_set-in-Some.new.trees place c.args.polarity o c.args.book.now c.push.new.self) (sym c.in-Some.is)
    (function_made place c.args.polarity c.plan_set.new.trees c.plan_set-in-Some.new.trees c.in_ok-to-in-Some.ensures.extends arms c.in_ok-from-in-Some.from c.in_ok-to-in-Some.to c.args.book.now c.push.new.self
    (subst (λ (p : Polarity). HasTree c.plan_set.new.trees p (IsPlaceIn place arms.domain) c.in_ok-from-in-Some.from.0) c.opposite.ensures c.in_ok-from-in-Some.ensures.tree)
    c.in_ok-to-in-Some.ensures.tree c.in_ok-push-in-Some.ensures.ok)
