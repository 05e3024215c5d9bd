use Rattle.std.proofs.Common.{◌∙◌, ◌+◌, [], ◌∷◌, ap, length, subst, sym}
use Rattle.mls_book.specs.declared.book.Node.TheVariants as node
use Rattle.mls_automaton.specs.declared.automaton.Polarity.TheVariants.{Positive}
use Rattle.mls_automaton.specs.Automata.{polarity_at}
use Rattle.mls_automaton.proofs.BookLoops.{longer-more}
use Rattle.mls_solver.specs.Rooms.{Holds}
use Rattle.mls_layout.specs.LaidOut.{place_of}
use Rattle.mls_layout.specs.steps.Planned.{Planned}
use Rattle.mls_layout.specs.steps.OwnNumbers.{AreOwned}
use Rattle.mls_layout.specs.steps.Sources.{AreBelow, AreParted, IsEntering, IsPlaced, own_before}
use Rattle.mls_layout.proofs.PartsLaidOut.{known_below, past_below, places_below, laid_out}
use Rattle.mls_layout.proofs.layout.lay_out.Goals as goal

pub plan_values-requires-clause-low : goal.plan_values-requires-clause-low
plan_values-requires-clause-low c =
    subst (λ (plan : Planned). AreBelow c.in_ok-sources.sources plan.start) (sym c.new-trees.ensures)
    (known_below c.args.book c.push_leaves.new.book c.args.a.now c.in_ok-leaves.leaves c.in_ok-sources.sources c.args.pairs.now (place_of c.args.type_places.now) c.in_ok-sources.sources.end
    c.requires.places c.in_ok-leaves.ensures
    (subst (λ n. AreParted c.args.a.now c.in_ok-leaves.leaves n (length c.args.a.now.states) c.in_ok-sources.sources.end c.in_ok-sources.sources.parts) c.len-start.ensures.len c.in_ok-sources.ensures.parts)
    c.in_ok-sources.ensures.partners c.in_ok-sources.ensures.nothing)

pub plan_states-requires-clause-low : goal.plan_states-requires-clause-low
plan_states-requires-clause-low c =
    subst (AreBelow c.in_ok-sources.sources) (sym (c.in_ok-values.ensures.extends.start ∙ ap (λ (plan : Planned). plan.start) c.new-trees.ensures))
    (known_below c.args.book c.push_leaves.new.book c.args.a.now c.in_ok-leaves.leaves c.in_ok-sources.sources c.args.pairs.now (place_of c.args.type_places.now) c.in_ok-sources.sources.end
    c.requires.places c.in_ok-leaves.ensures
    (subst (λ n. AreParted c.args.a.now c.in_ok-leaves.leaves n (length c.args.a.now.states) c.in_ok-sources.sources.end c.in_ok-sources.sources.parts) c.len-start.ensures.len c.in_ok-sources.ensures.parts)
    c.in_ok-sources.ensures.partners c.in_ok-sources.ensures.nothing)

pub plan_states-requires-clause-values : goal.plan_states-requires-clause-values
plan_states-requires-clause-values c =
    let starts = c.in_ok-values.ensures.extends.start ∙ ap (λ (plan : Planned). plan.start) c.new-trees.ensures in
    let below =
    known_below c.args.book c.push_leaves.new.book c.args.a.now c.in_ok-leaves.leaves c.in_ok-sources.sources c.args.pairs.now (place_of c.args.type_places.now) c.in_ok-sources.sources.end
    c.requires.places c.in_ok-leaves.ensures
    (subst (λ n. AreParted c.args.a.now c.in_ok-leaves.leaves n (length c.args.a.now.states) c.in_ok-sources.sources.end c.in_ok-sources.sources.parts) c.len-start.ensures.len c.in_ok-sources.ensures.parts)
    c.in_ok-sources.ensures.partners c.in_ok-sources.ensures.nothing in
    places_below c.plan_values.new.trees (λ s. Positive) (λ s. IsEntering c.args.a.now (Holds c.args.found.now) c.in_ok-sources.sources (polarity_at c.args.a.now s) s) (length c.args.a.now.states)
    c.in_ok-values.values c.in_ok-values.ensures.trees
    (past_below c.in_ok-sources.sources c.in_ok-sources.sources.end c.plan_values.new.trees c.in_ok-values.values below starts c.in_ok-values.ensures.past)

pub push_own-requires-clause-low : goal.push_own-requires-clause-low
push_own-requires-clause-low c =
    let starts = c.in_ok-places.ensures.extends.start ∙ (c.in_ok-values.ensures.extends.start ∙ ap (λ (plan : Planned). plan.start) c.new-trees.ensures) in
    let below =
    known_below c.args.book c.push_leaves.new.book c.args.a.now c.in_ok-leaves.leaves c.in_ok-sources.sources c.args.pairs.now (place_of c.args.type_places.now) c.in_ok-sources.sources.end
    c.requires.places c.in_ok-leaves.ensures
    (subst (λ n. AreParted c.args.a.now c.in_ok-leaves.leaves n (length c.args.a.now.states) c.in_ok-sources.sources.end c.in_ok-sources.sources.parts) c.len-start.ensures.len c.in_ok-sources.ensures.parts)
    c.in_ok-sources.ensures.partners c.in_ok-sources.ensures.nothing in
    places_below c.plan_states.new.trees (polarity_at c.args.a.now) (λ s. IsPlaced c.args.a.now c.in_ok-sources.sources (place_of c.in_ok-values.values) (polarity_at c.args.a.now s) s) (length c.args.a.now.states)
    c.in_ok-places.places c.in_ok-places.ensures.trees
    (past_below c.in_ok-sources.sources c.in_ok-sources.sources.end c.plan_states.new.trees c.in_ok-places.places below starts c.in_ok-places.ensures.past)

pub push_onto-requires : goal.push_onto-requires
push_onto-requires c =
    let starts = c.in_ok-push_own.ensures.extends.start ∙ (c.in_ok-places.ensures.extends.start ∙ (c.in_ok-values.ensures.extends.start ∙ ap (λ (plan : Planned). plan.start) c.new-trees.ensures)) in
    starts
    ∙ (c.in_ok-sources.ensures.parts.counted
    ∙ (ap (λ n. n + own_before c.args.a.now (length c.args.a.now.states)) c.len-start.ensures.len ∙ sym c.in_ok-push_own.ensures.adds.size))

-- the leaves, the own nodes of states, and the trees
pub returns-clause-longer : goal.returns-clause-longer
returns-clause-longer c =
    longer-more c.args.book c.push_own.new.book c.push_onto.new.book c.in_ok-push_onto.ensures.more
    (longer-more c.args.book c.push_leaves.new.book c.push_own.new.book c.in_ok-push_own.ensures.adds.more
    (node.Bool ∷ node.Int ∷ node.Bot ∷ [], c.in_ok-leaves.ensures.longer) c.in_ok-push_own.ensures.adds.longer)
    c.in_ok-push_onto.ensures.longer

pub returns-clause-laid : goal.returns-clause-laid
returns-clause-laid c = λ closed_book.
    laid_out c.args.book c.push_leaves.new.book c.push_own.new.book c.push_onto.new.book c.args.a.now c.in_ok-leaves.leaves c.in_ok-sources.sources c.args.found.now c.args.pairs.now
    (place_of c.args.type_places.now) c.in_ok-sources.sources.end c.plan_values.new.trees c.plan_states.new.trees c.push_own.new.trees c.in_ok-values.values c.in_ok-places.places
    closed_book c.requires.closed c.requires.places c.in_ok-leaves.ensures
    (subst (λ n. AreParted c.args.a.now c.in_ok-leaves.leaves n (length c.args.a.now.states) c.in_ok-sources.sources.end c.in_ok-sources.sources.parts) c.len-start.ensures.len c.in_ok-sources.ensures.parts)
    c.in_ok-sources.ensures.partners c.in_ok-sources.ensures.nothing
    (c.in_ok-values.ensures.extends.start ∙ ap (λ (plan : Planned). plan.start) c.new-trees.ensures) c.in_ok-values.ensures.trees c.in_ok-values.ensures.past
    c.in_ok-places.ensures.extends c.in_ok-places.ensures.trees c.in_ok-places.ensures.past
    c.in_ok-push_own.ensures.extends c.in_ok-push_own.ensures.adds c.in_ok-push_onto.ensures
    c.in_ok-own.own
    (subst (λ n. AreOwned c.args.a.now n c.in_ok-own.own) c.len-start.ensures.len c.in_ok-own.ensures)
