use Rattle.std.proofs.Common.{◌≡◌, ◌<◌, ◌≤◌, ℕ, List, length, take, get_or, Contains, sym, subst}
use Rattle.std.proofs.lemmas.List.{take_all, take_more}
use Rattle.std.proofs.lemmas.List.Elements.{Contains-get_or}
use Rattle.mls_automaton.specs.declared.scheme.EnvEntry.{EnvEntry}
use Rattle.mls_parts.specs.Posings.{AddsCopy, size}
use Rattle.mls_parts.specs.steps.Results.{Binds, CanBind}
use Rattle.mls_parts.proofs.Copies.{can_bind, copy_begun, copy_next}
use Rattle.mls_parts.proofs.pose.Posing.push_copy.Goals as goal

pub loop-entry-init : goal.loop-entry-init
loop-entry-init c = copy_begun c.args.self.now c.args.known.now c.append.new.self c.in_ok-first.ensures.ok

abbrev nowhere : EnvEntry
nowhere = record { binder = 0; state = record { 0 = 0 } }

pub push_binder-requires : goal.push_binder-requires
push_binder-requires c =
    let entries : List EnvEntry = c.as_slice-entry-items.result.now in
    let i : ℕ = c.loop-entry.entry-index in
    let entry : EnvEntry = get_or entries i nowhere in
    let there : Contains c.args.known.now.env entry = subst (λ (es : List EnvEntry). Contains es entry) c.as_slice-entry-items.ensures.entries (Contains-get_or entries i nowhere c.loop-entry-test.true) in
    subst (λ n. CanBind c.loop-entry.self n c.args.known.now entry) (sym c.in_ok-first.ensures.number)
    (can_bind c.args.self.now c.args.known.now c.requires c.loop-entry.self (take i c.args.known.now.env) c.loop-entry.invariant entry there)

pub loop-entry-preserved : goal.loop-entry-preserved
loop-entry-preserved c =
    let entries : List EnvEntry = c.as_slice-entry-items.result.now in
    let env : List EnvEntry = c.args.known.now.env in
    let i : ℕ = c.loop-entry.entry-index in
    let same : entries ≡ env = c.as_slice-entry-items.ensures.entries in
    let low : i < length env = subst (λ (es : List EnvEntry). i < length es) same c.loop-entry-test.true in
    subst (λ (es : List EnvEntry). AddsCopy c.args.self.now c.push_binder.new.self (size c.args.self.now) c.args.known.now es) (sym (take_more env i nowhere low))
    (copy_next c.args.self.now c.args.known.now c.loop-entry.self c.push_binder.new.self (take i env) (get_or env i nowhere) c.loop-entry.invariant
    (subst (λ (es : List EnvEntry). Binds c.loop-entry.self c.push_binder.new.self (size c.args.self.now) c.args.known.now (get_or es i nowhere)) same
    (subst (λ n. Binds c.loop-entry.self c.push_binder.new.self n c.args.known.now (get_or entries i nowhere)) c.in_ok-first.ensures.number c.in_ok-push_binder.ensures)))

pub returns-clause-copy : goal.returns-clause-copy
returns-clause-copy c =
    let env : List EnvEntry = c.args.known.now.env in
    let i : ℕ = c.loop-entry.entry-index in
    subst (λ (es : List EnvEntry). AddsCopy c.args.self.now c.loop-entry.self (size c.args.self.now) c.args.known.now es)
    (take_all i env (subst (λ (es : List EnvEntry). length es ≤ i) c.as_slice-entry-items.ensures.entries c.loop-entry-test.false)) c.loop-entry.invariant
