use Rattle.std.proofs.Common.{◌≡◌, ℕ, ◌+◌, ◌++◌, map, length, ap, ◌∙◌, rules}
use Rattle.mls_automaton.specs.Embeddings.{renamed_state}
use Rattle.mls_automaton.proofs.renumber.push_all.Goals as goal

pub returns-clause-states : goal.returns-clause-states
returns-clause-states c =
    let by : c.len.result ≡ length c.args.states.now.items = search rules in
    c.in_ok-push_states.ensures.ok ∙ ap (λ (n : ℕ). c.args.states.now.items ++ map (renamed_state (λ s. n + s)) c.args.more_states.now) by
