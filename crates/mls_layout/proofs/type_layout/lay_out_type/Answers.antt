use Rattle.std.proofs.Common.{◌∙◌, [], ◌∷◌, ap, subst, sym}
use Rattle.mls_book.specs.declared.book.Node.TheVariants as node
use Rattle.mls_automaton.proofs.BookLoops.{longer-more}
use Rattle.mls_layout.specs.steps.Planned.{Planned}
use Rattle.mls_layout.specs.steps.Sources.{AreBelow}
use Rattle.mls_layout.proofs.TypeNodes.{first_places, type_below, type_closed, type_laid_out, type_places}
use Rattle.mls_layout.proofs.type_layout.lay_out_type.Goals as goal

pub plan_types-requires : goal.plan_types-requires
plan_types-requires c =
    subst (λ (plan : Planned). AreBelow c.in_ok-sources.sources plan.start) (sym c.new-trees.ensures)
    (type_below c.args.book c.push_sources.new.book c.args.scheme.now.automaton c.args.first_variable c.in_ok-sources.sources c.in_ok-sources.ensures)

pub push_own-requires-clause-low : goal.push_own-requires-clause-low
push_own-requires-clause-low c =
    first_places c.args.book c.push_sources.new.book c.args.scheme.now.automaton c.args.first_variable c.in_ok-sources.sources c.in_ok-sources.ensures c.plan_types.new.trees c.in_ok-places.places
    (c.in_ok-places.ensures.extends.start ∙ ap (λ (plan : Planned). plan.start) c.new-trees.ensures) c.in_ok-places.ensures.trees c.in_ok-places.ensures.past

pub push_onto-requires : goal.push_onto-requires
push_onto-requires c =
    c.in_ok-push_own.ensures.extends.start
    ∙ (c.in_ok-places.ensures.extends.start
    ∙ (ap (λ (plan : Planned). plan.start) c.new-trees.ensures
    ∙ (c.in_ok-sources.ensures.parts.counted ∙ sym c.in_ok-push_own.ensures.adds.size)))

-- the variables, the leaves, the own nodes of states, and the trees
pub returns-clause-longer : goal.returns-clause-longer
returns-clause-longer c =
    let sources = c.in_ok-sources.ensures in
    longer-more c.args.book c.push_own.new.book c.push_onto.new.book c.in_ok-push_onto.ensures.more
    (longer-more c.args.book c.push_sources.new.book c.push_own.new.book c.in_ok-push_own.ensures.adds.more
    (longer-more c.args.book sources.between c.push_sources.new.book (node.Bool ∷ node.Int ∷ node.Bot ∷ [])
    (sources.variables.more, sources.variables.longer) sources.added.longer) c.in_ok-push_own.ensures.adds.longer)
    c.in_ok-push_onto.ensures.longer

pub returns-clause-closed : goal.returns-clause-closed
returns-clause-closed c =
    type_closed c.args.book c.push_sources.new.book c.args.scheme.now.automaton c.args.first_variable c.in_ok-sources.sources c.in_ok-sources.ensures c.plan_types.new.trees c.in_ok-places.places
    (c.in_ok-places.ensures.extends.start ∙ ap (λ (plan : Planned). plan.start) c.new-trees.ensures) c.in_ok-places.ensures.trees c.in_ok-places.ensures.past
    c.push_own.new.book c.push_onto.new.book c.push_own.new.trees c.in_ok-push_own.ensures.extends c.in_ok-push_own.ensures.adds c.in_ok-push_onto.ensures

pub returns-clause-places : goal.returns-clause-places
returns-clause-places c =
    type_places c.args.book c.push_sources.new.book c.args.scheme.now.automaton c.args.first_variable c.in_ok-sources.sources c.in_ok-sources.ensures c.plan_types.new.trees c.in_ok-places.places
    (c.in_ok-places.ensures.extends.start ∙ ap (λ (plan : Planned). plan.start) c.new-trees.ensures) c.in_ok-places.ensures.trees c.in_ok-places.ensures.past
    c.push_own.new.book c.push_onto.new.book c.push_own.new.trees c.in_ok-push_own.ensures.extends c.in_ok-push_own.ensures.adds c.in_ok-push_onto.ensures

pub returns-clause-layout : goal.returns-clause-layout
returns-clause-layout c =
    type_laid_out c.args.book c.push_sources.new.book c.args.scheme.now.automaton c.args.first_variable c.in_ok-sources.sources c.in_ok-sources.ensures c.plan_types.new.trees c.in_ok-places.places
    (c.in_ok-places.ensures.extends.start ∙ ap (λ (plan : Planned). plan.start) c.new-trees.ensures) c.in_ok-places.ensures.trees c.in_ok-places.ensures.past
    c.push_own.new.book c.push_onto.new.book c.push_own.new.trees c.in_ok-push_own.ensures.extends c.in_ok-push_own.ensures.adds c.in_ok-push_onto.ensures (c.is_closed.ensures.0 c.if-not-is_closed.false)
