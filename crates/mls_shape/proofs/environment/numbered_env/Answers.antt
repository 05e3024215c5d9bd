use Rattle.std.proofs.Common.{◌+◌, ◌++◌, ◌∷◌, [], List, take, get_or, refl, sym, subst}
use Rattle.std.proofs.lemmas.List.{take_more}
use Rattle.mls_automaton.specs.declared.automaton.Polarity.TheVariants.{Negative}
use Rattle.mls_automaton.specs.declared.scheme.EnvEntry.{EnvEntry}
use Rattle.mls_shape.specs.steps.Registers.{sets_in, Numbers}
use Rattle.mls_shape.specs.steps.Entries.{NumbersEnv}
use Rattle.mls_shape.proofs.Entries.{entry_more, entries_below}
use Rattle.mls_shape.proofs.environment.numbered_env.Goals as goal

pub push-requires : goal.push-requires
push-requires c =
    entries_below (sets_in c.loop-entry.register) c.args.env.now c.as_slice-entry-items.result.now c.loop-entry.entry-index (record { binder = 0; state = record { 0 = 0 } }) c.loop-entry.numbered
    c.as_slice-entry-items.ensures.rise c.as_slice-entry-items.ensures.entries c.loop-entry-test.true c.loop-entry.invariant.1.is

pub loop-entry-preserved : goal.loop-entry-preserved
loop-entry-preserved c = (
  c.in_ok-number.ensures.register,
  let list : List EnvEntry = c.as_slice-entry-items.result.now in
      let i = c.loop-entry.entry-index in
      let e : EnvEntry = get_or list i (record { binder = 0; state = record { 0 = 0 } }) in
      let f : EnvEntry = record { binder = e.binder; state = record { 0 = c.in_ok-number.number } } in
      let number : Numbers Negative (e.state.0 ∷ []) (sets_in c.loop-entry.register) (sets_in c.number_of.new.self) c.in_ok-number.number =
      subst (λ xs. Numbers Negative xs (sets_in c.loop-entry.register) (sets_in c.number_of.new.self) c.in_ok-number.number) c.in_ok-set.ensures c.in_ok-number.ensures.number in
      subst (λ row. NumbersEnv (take (i + 1) list) (sets_in c.args.register.now) (sets_in c.number_of.new.self) row) (sym c.in_ok-push.ensures.ok)
      (subst (λ env. NumbersEnv env (sets_in c.args.register.now) (sets_in c.number_of.new.self) (c.loop-entry.numbered ++ f ∷ [])) (sym (take_more list i (record { binder = 0; state = record { 0 = 0 } }) c.loop-entry-test.true))
      (entry_more (take i list) c.loop-entry.numbered e f (sets_in c.args.register.now) (sets_in c.loop-entry.register) (sets_in c.number_of.new.self) c.loop-entry.invariant.1 refl number)),
)
