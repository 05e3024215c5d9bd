use Rattle.std.proofs.Common.{[], ◌∷◌}
use Rattle.mls_infer.specs.Pending.{part_in, states_in}
use Rattle.mls_infer.proofs.FormSteps.{choice_live, choice_made, choice_none, choice_stops}
use Rattle.mls_infer.proofs.forms.conditional.Goals as goal

pub solves-requires : goal.solves-requires
solves-requires c =
    choice_live c.args.live.now c.add.new.live c.add_passage.new.live (part_in c.args.condition) (part_in c.args.first) (part_in c.args.second) c.requires
    c.in_ok-boolean.boolean c.in_ok-either.either c.in_ok-either.root c.bool_head.result c.bool_head.ensures c.in_ok-boolean.ensures.grows c.in_ok-either.ensures.grows
    (states_in c.in_ok-with.field-0) (states_in c.in_ok-region.region) (states_in c.add.new.self) (states_in c.add_passage.new.self)
    c.in_ok-with.ensures c.in_ok-region.ensures c.in_ok-boolean.ensures.states c.in_ok-either.ensures.states
    c.in_ok-joined.field-0 c.in_ok-env.env c.in_ok-joined.ensures c.in_ok-env.ensures
    (c.goal.result ∷ c.goal-2.result ∷ c.goal-3.result ∷ []) (λ i. c.goal.ensures i ∷ c.goal-2.ensures i ∷ c.goal-3.ensures i ∷ [])

pub clash_of_choice-requires-clause-none : goal.clash_of_choice-requires-clause-none
clash_of_choice-requires-clause-none c =
    choice_none c.args.live.now c.add.new.live c.add_passage.new.live (part_in c.args.condition) (part_in c.args.first) (part_in c.args.second) c.requires
    c.in_ok-boolean.boolean c.in_ok-either.either c.in_ok-either.root c.bool_head.result c.bool_head.ensures c.in_ok-boolean.ensures.grows c.in_ok-either.ensures.grows
    (states_in c.in_ok-with.field-0) (states_in c.in_ok-region.region) (states_in c.add.new.self) (states_in c.add_passage.new.self)
    c.in_ok-with.ensures c.in_ok-region.ensures c.in_ok-boolean.ensures.states c.in_ok-either.ensures.states
    c.in_ok-joined.field-0 c.in_ok-env.env c.in_ok-joined.ensures c.in_ok-env.ensures
    (c.goal.result ∷ c.goal-2.result ∷ c.goal-3.result ∷ []) (λ i. c.goal.ensures i ∷ c.goal-2.ensures i ∷ c.goal-3.ensures i ∷ [])
    c.solves.new.live c.in_ok-solves.field-0 c.in_ok-solves.ensures c.if-not-branch.true

pub returns-then-not-branch-clause-stops : goal.returns-then-not-branch-clause-stops
returns-then-not-branch-clause-stops c =
    choice_stops c.args.live.now c.add.new.live c.add_passage.new.live (part_in c.args.condition) (part_in c.args.first) (part_in c.args.second) c.requires
    c.in_ok-boolean.boolean c.in_ok-either.either c.in_ok-either.root c.bool_head.result c.bool_head.ensures c.in_ok-boolean.ensures.grows c.in_ok-either.ensures.grows
    (states_in c.in_ok-with.field-0) (states_in c.in_ok-region.region) (states_in c.add.new.self) (states_in c.add_passage.new.self)
    c.in_ok-with.ensures c.in_ok-region.ensures c.in_ok-boolean.ensures.states c.in_ok-either.ensures.states
    c.in_ok-joined.field-0 c.in_ok-env.env c.in_ok-joined.ensures c.in_ok-env.ensures
    (c.goal.result ∷ c.goal-2.result ∷ c.goal-3.result ∷ []) (λ i. c.goal.ensures i ∷ c.goal-2.ensures i ∷ c.goal-3.ensures i ∷ [])
    c.solves.new.live c.in_ok-solves.field-0 c.in_ok-solves.ensures c.if-not-branch.true
    c.clash_of_choice.result c.clash_of_choice.ensures

pub returns-clause-made : goal.returns-clause-made
returns-clause-made c =
    choice_made c.args.live.now c.add.new.live c.add_passage.new.live (part_in c.args.condition) (part_in c.args.first) (part_in c.args.second) c.requires
    c.in_ok-boolean.boolean c.in_ok-either.either c.in_ok-either.root c.bool_head.result c.bool_head.ensures c.in_ok-boolean.ensures.grows c.in_ok-either.ensures.grows
    (states_in c.in_ok-with.field-0) (states_in c.in_ok-region.region) (states_in c.add.new.self) (states_in c.add_passage.new.self)
    c.in_ok-with.ensures c.in_ok-region.ensures c.in_ok-boolean.ensures.states c.in_ok-either.ensures.states
    c.in_ok-joined.field-0 c.in_ok-env.env c.in_ok-joined.ensures c.in_ok-env.ensures
    (c.goal.result ∷ c.goal-2.result ∷ c.goal-3.result ∷ []) (λ i. c.goal.ensures i ∷ c.goal-2.ensures i ∷ c.goal-3.ensures i ∷ [])
    c.solves.new.live c.in_ok-solves.field-0 c.in_ok-solves.ensures c.if-not-branch.false
