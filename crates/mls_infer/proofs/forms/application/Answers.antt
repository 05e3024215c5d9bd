use Rattle.std.proofs.Common.{[], ◌∷◌, ap}
use Rattle.mls_solver.specs.declared.goal.Goal.{Goal}
use Rattle.mls_infer.specs.Pending.{part_in, states_in}
use Rattle.mls_infer.proofs.FormSteps.{application_live, application_made, application_none, application_states, application_stops}
use Rattle.mls_infer.proofs.forms.application.Goals as goal

pub add-requires-clause-states : goal.add-requires-clause-states
add-requires-clause-states c =
    application_states c.args.live.now c.add_passage.new.live (part_in c.args.function) (part_in c.args.argument) c.requires
    c.in_ok-codomain.codomain c.in_ok-codomain.root c.in_ok-head.head c.in_ok-domain.domain c.in_ok-domain.ensures c.in_ok-head.ensures c.in_ok-codomain.ensures.grows

pub solves-requires : goal.solves-requires
solves-requires c =
    application_live c.args.live.now c.add_passage.new.live (part_in c.args.function) (part_in c.args.argument) c.requires
    c.in_ok-codomain.codomain c.in_ok-codomain.root c.in_ok-head.head c.in_ok-domain.domain c.in_ok-domain.ensures c.in_ok-head.ensures c.in_ok-codomain.ensures.grows
    c.add.new.live c.in_ok-demand.demand c.in_ok-demand.ensures.grows (states_in c.in_ok-region.region) (states_in c.add_passage.new.self) (states_in c.add.new.self)
    c.in_ok-region.ensures c.in_ok-codomain.ensures.states c.in_ok-demand.ensures.states c.in_ok-env.env c.in_ok-env.ensures
    (c.goal.result ∷ []) (ap (λ (g : Goal). g ∷ []) c.goal.ensures)

pub clash_of_application-requires-clause-none : goal.clash_of_application-requires-clause-none
clash_of_application-requires-clause-none c =
    application_none c.args.live.now c.add_passage.new.live (part_in c.args.function) (part_in c.args.argument) c.requires
    c.in_ok-codomain.codomain c.in_ok-codomain.root c.in_ok-head.head c.in_ok-domain.domain c.in_ok-domain.ensures c.in_ok-head.ensures c.in_ok-codomain.ensures.grows
    c.add.new.live c.in_ok-demand.demand c.in_ok-demand.ensures.grows (states_in c.in_ok-region.region) (states_in c.add_passage.new.self) (states_in c.add.new.self)
    c.in_ok-region.ensures c.in_ok-codomain.ensures.states c.in_ok-demand.ensures.states c.in_ok-env.env c.in_ok-env.ensures
    (c.goal.result ∷ []) (ap (λ (g : Goal). g ∷ []) c.goal.ensures) c.solves.new.live c.in_ok-solves.field-0 c.in_ok-solves.ensures c.if-not-branch.true

pub returns-then-not-branch-clause-stops : goal.returns-then-not-branch-clause-stops
returns-then-not-branch-clause-stops c =
    application_stops c.args.live.now c.add_passage.new.live (part_in c.args.function) (part_in c.args.argument) c.requires
    c.in_ok-codomain.codomain c.in_ok-codomain.root c.in_ok-head.head c.in_ok-domain.domain c.in_ok-domain.ensures c.in_ok-head.ensures c.in_ok-codomain.ensures.grows
    c.add.new.live c.in_ok-demand.demand c.in_ok-demand.ensures.grows (states_in c.in_ok-region.region) (states_in c.add_passage.new.self) (states_in c.add.new.self)
    c.in_ok-region.ensures c.in_ok-codomain.ensures.states c.in_ok-demand.ensures.states c.in_ok-env.env c.in_ok-env.ensures
    (c.goal.result ∷ []) (ap (λ (g : Goal). g ∷ []) c.goal.ensures) c.solves.new.live c.in_ok-solves.field-0 c.in_ok-solves.ensures c.if-not-branch.true
    c.clash_of_application.result c.clash_of_application.ensures

pub returns-clause-made : goal.returns-clause-made
returns-clause-made c =
    application_made c.args.live.now c.add_passage.new.live (part_in c.args.function) (part_in c.args.argument) c.requires
    c.in_ok-codomain.codomain c.in_ok-codomain.root c.in_ok-head.head c.in_ok-domain.domain c.in_ok-domain.ensures c.in_ok-head.ensures c.in_ok-codomain.ensures.grows
    c.add.new.live c.in_ok-demand.demand c.in_ok-demand.ensures.grows (states_in c.in_ok-region.region) (states_in c.add_passage.new.self) (states_in c.add.new.self)
    c.in_ok-region.ensures c.in_ok-codomain.ensures.states c.in_ok-demand.ensures.states c.in_ok-env.env c.in_ok-env.ensures
    (c.goal.result ∷ []) (ap (λ (g : Goal). g ∷ []) c.goal.ensures) c.solves.new.live c.in_ok-solves.field-0 c.in_ok-solves.ensures c.if-not-branch.false
