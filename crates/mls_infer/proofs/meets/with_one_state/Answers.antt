use Rattle.std.proofs.Common.{◌≡◌, ◌∙◌, List, ap, sym, subst, All}
use Rattle.mls_automaton.specs.declared.automaton.Polarity.TheVariants.{Negative}
use Rattle.mls_automaton.specs.declared.scheme.EnvEntry.{EnvEntry}
use Rattle.mls_biunify.specs.Live.{IsLiveState}
use Rattle.mls_infer.specs.Pending.{part_in, states_in}
use Rattle.mls_infer.proofs.PartChanges.{remade_none}
use Rattle.mls_infer.proofs.PutTogether.{entries_of, is_together, of_binder, states_of_binder}
use Rattle.mls_infer.proofs.meets.with_one_state.Goals as goal

pub returns-then-len-le1-clause-remade : goal.returns-then-len-le1-clause-remade
returns-then-len-le1-clause-remade c = remade_none c.args.live.now (part_in c.args.part) c.requires

pub met-requires-clause-binder : goal.met-requires-clause-binder
met-requires-clause-binder c =
    let same : c.as_slice-2.result.now ≡ entries_of c.args.binder c.args.part.env =
    c.as_slice-2.ensures ∙ (c.in_ok-entries.ensures ∙ ap (entries_of c.args.binder) c.as_slice.ensures) in (
      c.args.binder,
      subst (λ (xs : List EnvEntry). All (λ (entry : EnvEntry). entry.binder ≡ c.args.binder) xs) (sym same) (of_binder c.args.binder c.args.part.env),
    )

pub met-requires-clause-states : goal.met-requires-clause-states
met-requires-clause-states c =
    let same : c.as_slice-2.result.now ≡ entries_of c.args.binder c.args.part.env =
    c.as_slice-2.ensures ∙ (c.in_ok-entries.ensures ∙ ap (entries_of c.args.binder) c.as_slice.ensures) in
    subst (λ (xs : List EnvEntry). All (λ (entry : EnvEntry). IsLiveState c.args.live.now Negative entry.state.0) xs) (sym same)
    (states_of_binder c.args.live.now c.args.binder (part_in c.args.part) c.requires)

pub returns-clause-remade : goal.returns-clause-remade
returns-clause-remade c =
    let same : c.as_slice-2.result.now ≡ entries_of c.args.binder c.args.part.env =
    c.as_slice-2.ensures ∙ (c.in_ok-entries.ensures ∙ ap (entries_of c.args.binder) c.as_slice.ensures) in
    (is_together c.args.live.now c.met.new.live c.args.binder (part_in c.args.part) (states_in c.met.new.region) c.in_ok-entry.entry c.requires
    c.as_slice-2.result.now c.in_ok-env.env c.push.new.self same c.in_ok-env.ensures c.in_ok-push.ensures.ok c.in_ok-entry.ensures).0

pub returns-clause-one : goal.returns-clause-one
returns-clause-one c =
    let same : c.as_slice-2.result.now ≡ entries_of c.args.binder c.args.part.env =
    c.as_slice-2.ensures ∙ (c.in_ok-entries.ensures ∙ ap (entries_of c.args.binder) c.as_slice.ensures) in
    (is_together c.args.live.now c.met.new.live c.args.binder (part_in c.args.part) (states_in c.met.new.region) c.in_ok-entry.entry c.requires
    c.as_slice-2.result.now c.in_ok-env.env c.push.new.self same c.in_ok-env.ensures c.in_ok-push.ensures.ok c.in_ok-entry.ensures).1
