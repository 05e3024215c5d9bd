use Rattle.std.proofs.Common.{◌∷◌, [], List, sym, subst}
use Rattle.mls_automaton.specs.declared.automaton.Head.{Head}
use Rattle.mls_automaton.specs.declared.automaton.Polarity.TheVariants.{Positive}
use Rattle.mls_automaton.specs.declared.scheme.EnvEntry.{EnvEntry}
use Rattle.mls_automaton.specs.Models.{HasStatesIn}
use Rattle.mls_biunify.specs.Live.{IsLiveState}
use Rattle.mls_infer.specs.Constraints.{positive, states_of}
use Rattle.mls_infer.specs.Merges.{HasSameMembers}
use Rattle.mls_infer.specs.Pending.{Grows, part_in, states_in}
use Rattle.mls_infer.proofs.PlainParts.{function_made, function_states, one_with}
use Rattle.mls_infer.proofs.forms.function.Goals as goal

pub add-requires-clause-states : goal.add-requires-clause-states
add-requires-clause-states c =
    let same : HasSameMembers c.in_ok-domain.domain (states_of c.args.binder c.args.body.env) =
    subst (λ (env : List EnvEntry). HasSameMembers c.in_ok-domain.domain (states_of c.args.binder env)) c.as_slice.ensures c.in_ok-domain.ensures in
    subst (HasStatesIn (IsLiveState c.args.live.now) Positive) (sym c.in_ok-head.ensures)
    (function_states c.args.live.now c.args.binder (part_in c.args.body) c.requires.0 c.in_ok-domain.domain same)

pub returns : goal.returns
returns c = record {
  made =
      let same : HasSameMembers c.in_ok-domain.domain (states_of c.args.binder c.args.body.env) =
      subst (λ (env : List EnvEntry). HasSameMembers c.in_ok-domain.domain (states_of c.args.binder env)) c.as_slice.ensures c.in_ok-domain.ensures in
      function_made c.args.live.now c.add.new.live c.args.binder (part_in c.args.body) c.requires.0 c.in_ok-domain.domain same c.in_ok-root.root
      (subst (λ (h : Head). Grows c.args.live.now c.add.new.live ((c.in_ok-root.root.0, positive h) ∷ []) []) c.in_ok-head.ensures c.in_ok-root.ensures.grows)
      (states_in c.add.new.self) (one_with (part_in c.args.body) (c.in_ok-root.root.0 ∷ []) (states_in c.add.new.self) c.in_ok-root.ensures.states)
      c.in_ok-env.env c.in_ok-env.ensures;
}
