use Rattle.std.proofs.Common.{◌∙◌, ◌∷◌, ◌++◌, [], List, ℕ, ap}
use Rattle.mls_automaton.specs.declared.scheme.EnvEntry.{EnvEntry}
use Rattle.mls_infer.specs.Pending.{states_in}
use Rattle.mls_infer.proofs.PlainParts.{bound_made}
use Rattle.mls_infer.proofs.forms.bound.Goals as goal

pub returns : goal.returns
returns c =
    bound_made c.args.live.now c.add_passage.new.live c.args.binder c.in_ok-negative.negative c.in_ok-negative.positive c.in_ok-negative.ensures.grows
    (states_in c.add_passage.new.self) (c.in_ok-negative.ensures.states ∙ ap (λ (set : List ℕ). set ++ c.in_ok-negative.negative.0 ∷ c.in_ok-negative.positive.0 ∷ []) c.new-region.ensures)
    c.push.new.self (c.in_ok-push.ensures.ok ∙ ap (λ (env : List EnvEntry). env ++ record { binder = c.args.binder; state = c.in_ok-negative.negative } ∷ []) c.new-env.ensures)
