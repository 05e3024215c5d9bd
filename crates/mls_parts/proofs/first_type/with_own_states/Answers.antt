use Rattle.std.proofs.Common.{◌≡◌, ◌∙◌, ◌+◌, ◌++◌, ◌∷◌, [], ℕ, List, take, get_or, subst, sym, refl, Contains}
use Rattle.std.proofs.lemmas.List.{take_all, take_more}
use Rattle.std.proofs.lemmas.List.Elements.{Contains-get_or}
use Rattle.mls_automaton.specs.declared.automaton.Polarity.TheVariants.{Negative, Positive}
use Rattle.mls_automaton.specs.declared.scheme.EnvEntry.{EnvEntry}
use Rattle.mls_automaton.proofs.CheckedSchemes.{checked}
use Rattle.mls_automaton.proofs.Reaching.{entry-found}
use Rattle.mls_automaton.specs.declared.scheme.Scheme.{Scheme}
use Rattle.mls_automaton.specs.Automata.{Automaton, IsState}
use Rattle.mls_parts.specs.steps.Twins.{HasOwnStates}
use Rattle.mls_parts.proofs.OwnStates.{own_none, own_more, own_all, own_binders, own_deterministic, own_separate, own_subsumed, own_subsumes}
use Rattle.mls_parts.proofs.Twins.{AreNegative, entries_kept, entries_none, wider_self, wider_then}
use Rattle.mls_parts.proofs.first_type.with_own_states.Goals as goal

abbrev nowhere : EnvEntry
nowhere = record { binder = 0; state = record { 0 = 0 } }

pub loop-entry-init : goal.loop-entry-init
loop-entry-init c = record {
  wider = wider_self c.args.scheme.automaton c.requires.automaton;
  env = entries_none c.args.scheme.automaton c.new-env.result c.new-env.ensures;
  own = subst (HasOwnStates c.args.scheme.automaton [] c.args.scheme.automaton) (sym c.new-env.ensures) (own_none c.args.scheme.automaton c.requires.automaton);
}

pub push_twin-requires : goal.push_twin-requires
push_twin-requires c =
    let entries : List EnvEntry = c.as_slice-entry-items.result.now in
    let entry : EnvEntry = get_or entries c.loop-entry.entry-index nowhere in
    let there : Contains c.args.scheme.env entry = subst (λ (es : List EnvEntry). Contains es entry) c.as_slice-entry-items.ensures.entries (Contains-get_or entries c.loop-entry.entry-index nowhere c.loop-entry-test.true) in
    record {
      closed = c.loop-entry.invariant.wider.closed;
      state = c.loop-entry.invariant.wider.kept Negative entry.state.0
          (c.requires.env entry.binder entry.state.0 (entry-found c.args.scheme.env c.as_slice-entry-items.ensures.rise entry there));
    }

pub loop-entry-preserved : goal.loop-entry-preserved
loop-entry-preserved c =
    let a : Automaton = c.args.scheme.automaton in
    let entries : List EnvEntry = c.args.scheme.env in
    let items : List EnvEntry = c.as_slice-entry-items.result.now in
    let same : items ≡ entries = c.as_slice-entry-items.ensures.entries in
    let i : ℕ = c.loop-entry.entry-index in
    let was : EnvEntry = get_or items i nowhere in
    let entry : EnvEntry = record { binder = was.binder; state = c.in_ok-twin.twin } in
    let there : Contains entries was = subst (λ (es : List EnvEntry). Contains es was) same (Contains-get_or items i nowhere c.loop-entry-test.true) in
    let state : IsState a Negative was.state.0 = c.requires.env was.binder was.state.0 (entry-found entries c.as_slice-entry-items.ensures.rise was there) in
    let next : take (i + 1) items ≡ take i items ++ was ∷ [] = take_more items i nowhere c.loop-entry-test.true in
    let inv = c.loop-entry.invariant in
    record {
      wider = wider_then a c.loop-entry.automaton c.push_twin.new.automaton inv.wider c.in_ok-twin.ensures.wider;
      env = subst (AreNegative c.push_twin.new.automaton) (sym c.in_ok-push_binder.ensures)
          (entries_kept c.loop-entry.automaton c.push_twin.new.automaton c.loop-entry.env entry c.in_ok-twin.ensures.wider inv.env c.in_ok-twin.ensures.twin);
      own = subst (λ (es : List EnvEntry). HasOwnStates a es c.push_twin.new.automaton c.push_binder.new.env) (sym next)
          (subst (HasOwnStates a (take i items ++ was ∷ []) c.push_twin.new.automaton) (sym c.in_ok-push_binder.ensures)
          (own_more a c.loop-entry.automaton c.push_twin.new.automaton (take i items) c.loop-entry.env was entry inv.own inv.wider.closed c.requires.automaton state (inv.wider.kept Negative was.state.0 state) refl c.in_ok-twin.ensures.adds));
    }

pub returns-clause-scheme : goal.returns-clause-scheme
returns-clause-scheme c =
    let wider = c.loop-entry.invariant.wider in
    checked (record { automaton = c.loop-entry.automaton; env = c.loop-entry.env; root = c.args.scheme.root }) c.loop-entry.env refl wider.closed (wider.kept Positive c.args.scheme.root.0 c.requires.root) c.loop-entry.invariant.env

pub returns-clause-separate : goal.returns-clause-separate
returns-clause-separate c =
    let items : List EnvEntry = c.as_slice-entry-items.result.now in
    own_separate c.args.scheme (record { automaton = c.loop-entry.automaton; env = c.loop-entry.env; root = c.args.scheme.root })
    (subst (λ (es : List EnvEntry). HasOwnStates c.args.scheme.automaton es c.loop-entry.automaton c.loop-entry.env) (take_all c.loop-entry.entry-index items c.loop-entry-test.false ∙ c.as_slice-entry-items.ensures.entries) c.loop-entry.invariant.own)

pub returns-clause-binders : goal.returns-clause-binders
returns-clause-binders c =
    let items : List EnvEntry = c.as_slice-entry-items.result.now in
    own_binders c.args.scheme (record { automaton = c.loop-entry.automaton; env = c.loop-entry.env; root = c.args.scheme.root })
    (subst (λ (es : List EnvEntry). HasOwnStates c.args.scheme.automaton es c.loop-entry.automaton c.loop-entry.env) (take_all c.loop-entry.entry-index items c.loop-entry-test.false ∙ c.as_slice-entry-items.ensures.entries) c.loop-entry.invariant.own)
    c.as_slice-entry-items.ensures.rise

pub returns-clause-subsumes : goal.returns-clause-subsumes
returns-clause-subsumes c =
    let items : List EnvEntry = c.as_slice-entry-items.result.now in
    let wider = c.loop-entry.invariant.wider in
    let own : Scheme = record { automaton = c.loop-entry.automaton; env = c.loop-entry.env; root = c.args.scheme.root } in
    own_subsumes c.args.scheme own
    (subst (λ (es : List EnvEntry). HasOwnStates c.args.scheme.automaton es c.loop-entry.automaton c.loop-entry.env) (take_all c.loop-entry.entry-index items c.loop-entry-test.false ∙ c.as_slice-entry-items.ensures.entries) c.loop-entry.invariant.own)
    c.requires (checked own c.loop-entry.env refl wider.closed (wider.kept Positive c.args.scheme.root.0 c.requires.root) c.loop-entry.invariant.env) c.as_slice-entry-items.ensures.rise refl

pub returns-clause-all : goal.returns-clause-all
returns-clause-all c =
    let items : List EnvEntry = c.as_slice-entry-items.result.now in
    own_all c.args.scheme (record { automaton = c.loop-entry.automaton; env = c.loop-entry.env; root = c.args.scheme.root })
    (subst (λ (es : List EnvEntry). HasOwnStates c.args.scheme.automaton es c.loop-entry.automaton c.loop-entry.env) (take_all c.loop-entry.entry-index items c.loop-entry-test.false ∙ c.as_slice-entry-items.ensures.entries) c.loop-entry.invariant.own)

pub returns-clause-deterministic : goal.returns-clause-deterministic
returns-clause-deterministic c single =
    let items : List EnvEntry = c.as_slice-entry-items.result.now in
    own_deterministic c.args.scheme (record { automaton = c.loop-entry.automaton; env = c.loop-entry.env; root = c.args.scheme.root })
    (subst (λ (es : List EnvEntry). HasOwnStates c.args.scheme.automaton es c.loop-entry.automaton c.loop-entry.env) (take_all c.loop-entry.entry-index items c.loop-entry-test.false ∙ c.as_slice-entry-items.ensures.entries) c.loop-entry.invariant.own)
    single

pub returns-clause-subsumed : goal.returns-clause-subsumed
returns-clause-subsumed c =
    let items : List EnvEntry = c.as_slice-entry-items.result.now in
    let wider = c.loop-entry.invariant.wider in
    let own : Scheme = record { automaton = c.loop-entry.automaton; env = c.loop-entry.env; root = c.args.scheme.root } in
    own_subsumed c.args.scheme own
    (subst (λ (es : List EnvEntry). HasOwnStates c.args.scheme.automaton es c.loop-entry.automaton c.loop-entry.env) (take_all c.loop-entry.entry-index items c.loop-entry-test.false ∙ c.as_slice-entry-items.ensures.entries) c.loop-entry.invariant.own)
    c.requires (checked own c.loop-entry.env refl wider.closed (wider.kept Positive c.args.scheme.root.0 c.requires.root) c.loop-entry.invariant.env) c.as_slice-entry-items.ensures.rise refl
