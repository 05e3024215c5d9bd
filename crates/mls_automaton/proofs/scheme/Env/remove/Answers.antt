use Rattle.std.proofs.Common.{◌≡◌, ◌∙◌, List, None, length, sym, ap, subst, refl}
use Rattle.mls_automaton.specs.declared.scheme.EnvEntry.{EnvEntry}
use Rattle.mls_automaton.specs.Environments.{BindersRise, HasNoEntry, IsPlaceOf}
use Rattle.mls_automaton.specs.Schemes.{state_of}
use Rattle.mls_automaton.proofs.Entries.{binders-removed, no-state, removed-none, state-at-place, state_of-removed}
use Rattle.mls_automaton.proofs.scheme.Env.remove.Goals as goal

pub invariant_of-self : goal.invariant_of-self
invariant_of-self c =
    let env = c.self.inside.entries.items in
    let place : IsPlaceOf env c.args.binder c.in-Some.at = subst (λ (es : List EnvEntry). IsPlaceOf es c.args.binder c.in-Some.at) c.as_slice.ensures.value c.in-Some.ensures.some in
    subst BindersRise (sym c.remove.ensures.items) (binders-removed env c.in-Some.at c.self.invariant place.0)

pub returns-in-Some-clause-result : goal.returns-in-Some-clause-result
returns-in-Some-clause-result c =
    let env = c.self.inside.entries.items in
    let place : IsPlaceOf env c.args.binder c.in-Some.at = subst (λ (es : List EnvEntry). IsPlaceOf es c.args.binder c.in-Some.at) c.as_slice.ensures.value c.in-Some.ensures.some in
    sym (ap (λ (es : List EnvEntry). state_of es c.args.binder) (sym c.self.view_is) ∙ state-at-place env c.args.binder c.in-Some.at c.remove.result c.self.invariant place c.remove.ensures.value)

pub returns-in-Some-clause-gone : goal.returns-in-Some-clause-gone
returns-in-Some-clause-gone c =
    let env = c.self.inside.entries.items in
    let place : IsPlaceOf env c.args.binder c.in-Some.at = subst (λ (es : List EnvEntry). IsPlaceOf es c.args.binder c.in-Some.at) c.as_slice.ensures.value c.in-Some.ensures.some in
    subst (λ (es : List EnvEntry). state_of es c.args.binder ≡ None) (sym c.remove.ensures.items) (no-state _ c.args.binder (removed-none env c.args.binder c.in-Some.at c.self.invariant place))

pub returns-in-Some-clause-others : goal.returns-in-Some-clause-others
returns-in-Some-clause-others c = λ x other.
    let env = c.self.inside.entries.items in
    let place : IsPlaceOf env c.args.binder c.in-Some.at = subst (λ (es : List EnvEntry). IsPlaceOf es c.args.binder c.in-Some.at) c.as_slice.ensures.value c.in-Some.ensures.some in
    ap (λ (es : List EnvEntry). state_of es x) c.remove.ensures.items
    ∙ (state_of-removed env c.in-Some.at c.remove.result x place.0 (λ e. other (sym e ∙ place.1 c.remove.result))
    ∙ ap (λ (es : List EnvEntry). state_of es x) c.self.view_is)

pub returns-in-None-clause-result : goal.returns-in-None-clause-result
returns-in-None-clause-result c =
    let none : HasNoEntry c.self.inside.entries.items c.args.binder (length c.self.inside.entries.items) = subst (λ (es : List EnvEntry). HasNoEntry es c.args.binder (length es)) c.as_slice.ensures.value (c.in-None.ensures.none refl) in
    sym (ap (λ (es : List EnvEntry). state_of es c.args.binder) (sym c.self.view_is) ∙ no-state c.self.inside.entries.items c.args.binder none)

pub returns-in-None-clause-gone : goal.returns-in-None-clause-gone
returns-in-None-clause-gone c = sym (returns-in-None-clause-result c)
