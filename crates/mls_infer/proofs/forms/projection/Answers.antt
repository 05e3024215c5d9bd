use Rattle.std.proofs.Common.{[], ◌∷◌, ap, refl}
use Rattle.mls_solver.specs.declared.goal.Goal.{Goal}
use Rattle.mls_infer.specs.Pending.{part_in, states_in}
use Rattle.mls_infer.proofs.FormSteps.{projection_live, projection_made, projection_none, projection_states, projection_stops}
use Rattle.mls_infer.proofs.forms.projection.Goals as goal

pub add-requires-clause-states : goal.add-requires-clause-states
add-requires-clause-states c =
    projection_states c.args.live.now c.add_passage.new.live c.args.label.now (part_in c.args.body) c.requires
    c.in_ok-field.field c.in_ok-field.root c.in_ok-head.head c.in_ok-head.ensures c.in_ok-field.ensures.grows

pub solves-requires : goal.solves-requires
solves-requires c =
    projection_live c.args.live.now c.add_passage.new.live c.args.label.now (part_in c.args.body) c.requires
    c.in_ok-field.field c.in_ok-field.root c.in_ok-head.head c.in_ok-head.ensures c.in_ok-field.ensures.grows
    c.add.new.live c.in_ok-demand.demand c.in_ok-demand.ensures.grows (states_in c.args.body.region) (states_in c.add_passage.new.self) (states_in c.add.new.self)
    refl c.in_ok-field.ensures.states c.in_ok-demand.ensures.states c.args.body.env refl
    (c.goal.result ∷ []) (ap (λ (g : Goal). g ∷ []) c.goal.ensures)

pub clash_of_projection-requires-clause-none : goal.clash_of_projection-requires-clause-none
clash_of_projection-requires-clause-none c =
    projection_none c.args.live.now c.add_passage.new.live c.args.label.now (part_in c.args.body) c.requires
    c.in_ok-field.field c.in_ok-field.root c.in_ok-head.head c.in_ok-head.ensures c.in_ok-field.ensures.grows
    c.add.new.live c.in_ok-demand.demand c.in_ok-demand.ensures.grows (states_in c.args.body.region) (states_in c.add_passage.new.self) (states_in c.add.new.self)
    refl c.in_ok-field.ensures.states c.in_ok-demand.ensures.states c.args.body.env refl
    (c.goal.result ∷ []) (ap (λ (g : Goal). g ∷ []) c.goal.ensures) c.solves.new.live c.in_ok-solves.field-0 c.in_ok-solves.ensures c.if-not-branch.true

pub returns-then-not-branch-clause-stops : goal.returns-then-not-branch-clause-stops
returns-then-not-branch-clause-stops c =
    projection_stops c.args.live.now c.add_passage.new.live c.args.label.now (part_in c.args.body) c.requires
    c.in_ok-field.field c.in_ok-field.root c.in_ok-head.head c.in_ok-head.ensures c.in_ok-field.ensures.grows
    c.add.new.live c.in_ok-demand.demand c.in_ok-demand.ensures.grows (states_in c.args.body.region) (states_in c.add_passage.new.self) (states_in c.add.new.self)
    refl c.in_ok-field.ensures.states c.in_ok-demand.ensures.states c.args.body.env refl
    (c.goal.result ∷ []) (ap (λ (g : Goal). g ∷ []) c.goal.ensures) c.solves.new.live c.in_ok-solves.field-0 c.in_ok-solves.ensures c.if-not-branch.true
    c.clash_of_projection.result c.clash_of_projection.ensures

pub returns-clause-made : goal.returns-clause-made
returns-clause-made c =
    projection_made c.args.live.now c.add_passage.new.live c.args.label.now (part_in c.args.body) c.requires
    c.in_ok-field.field c.in_ok-field.root c.in_ok-head.head c.in_ok-head.ensures c.in_ok-field.ensures.grows
    c.add.new.live c.in_ok-demand.demand c.in_ok-demand.ensures.grows (states_in c.args.body.region) (states_in c.add_passage.new.self) (states_in c.add.new.self)
    refl c.in_ok-field.ensures.states c.in_ok-demand.ensures.states c.args.body.env refl
    (c.goal.result ∷ []) (ap (λ (g : Goal). g ∷ []) c.goal.ensures) c.solves.new.live c.in_ok-solves.field-0 c.in_ok-solves.ensures c.if-not-branch.false
