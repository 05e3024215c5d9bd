use Rattle.std.proofs.Common.{◌∙◌, ◌∷◌, ◌++◌, [], List, ℕ, ap}
use Rattle.mls_automaton.specs.declared.scheme.EnvEntry.{EnvEntry}
use Rattle.mls_infer.specs.Pending.{states_in}
use Rattle.mls_infer.proofs.BoundParts.{field_made, field_states}
use Rattle.mls_infer.proofs.forms.bound_field.Goals as goal

pub add-requires-clause-states : goal.add-requires-clause-states
add-requires-clause-states c =
    field_states c.args.live.now c.add_passage.new.live c.args.binder c.args.label.now c.in_ok-field.field c.in_ok-field.root c.in_ok-head.head c.in_ok-head.ensures c.in_ok-field.ensures.grows

pub returns : goal.returns
returns c =
    field_made c.args.live.now c.add_passage.new.live c.args.binder c.args.label.now c.in_ok-field.field c.in_ok-field.root c.in_ok-head.head c.in_ok-head.ensures c.in_ok-field.ensures.grows
    c.add.new.live c.in_ok-state.state c.in_ok-state.ensures.grows (states_in c.add_passage.new.self) (states_in c.add.new.self)
    (c.in_ok-field.ensures.states ∙ ap (λ (set : List ℕ). set ++ c.in_ok-field.field.0 ∷ c.in_ok-field.root.0 ∷ []) c.new-region.ensures) c.in_ok-state.ensures.states
    c.push.new.self (c.in_ok-push.ensures.ok ∙ ap (λ (env : List EnvEntry). env ++ record { binder = c.args.binder; state = c.in_ok-state.state } ∷ []) c.new-env.ensures)
