use Rattle.std.proofs.Common.{List, subst}
use Rattle.mls_automaton.specs.declared.automaton.Head.{Head}
use Rattle.mls_automaton.specs.declared.scheme.EnvEntry.{EnvEntry}
use Rattle.mls_automaton.specs.Automata.{head_at}
use Rattle.mls_automaton.specs.Schemes.{AreEquivalentSchemes}
use Rattle.mls_biunify.specs.Live.{Live}
use Rattle.mls_solver.specs.Solutions.{scheme_over}
use Rattle.mls_infer.specs.Fields.{HasOnly}
use Rattle.mls_infer.specs.Pending.{part_in}
use Rattle.mls_infer.specs.Regions.{TablePart}
use Rattle.mls_infer.proofs.KnownFields.{field_there, frozen_field}
use Rattle.mls_infer.proofs.named.Fields.field.Goals as goal

pub freeze-requires-clause-root : goal.freeze-requires-clause-root
freeze-requires-clause-root c =
    let live : Live = c.args.self.now.live in
    let part : TablePart = part_in c.args.self.now.part in
    let only : HasOnly (head_at live.table part.root.0) c.args.label.now c.in-Some.state.0 = subst (λ (h : Head). HasOnly h c.args.label.now c.in-Some.state.0) c.head.ensures.head c.in-Some.ensures in
    field_there live part c.requires c.args.label.now c.in-Some.state only

pub returns-in_ok-field-in-Some : goal.returns-in_ok-field-in-Some
returns-in_ok-field-in-Some c =
    let live : Live = c.args.self.now.live in
    let part : TablePart = part_in c.args.self.now.part in
    let only : HasOnly (head_at live.table part.root.0) c.args.label.now c.in-Some.state.0 = subst (λ (h : Head). HasOnly h c.args.label.now c.in-Some.state.0) c.head.ensures.head c.in-Some.ensures in
    let same : AreEquivalentSchemes (scheme_over live.table c.in-Some.state.0 part.env) c.in_ok-field-in-Some.field =
    subst (λ (env : List EnvEntry). AreEquivalentSchemes (scheme_over live.table c.in-Some.state.0 env) c.in_ok-field-in-Some.field) c.as_slice.ensures c.in_ok-field-in-Some.ensures.equivalent in
    frozen_field live part c.requires c.args.label.now c.in-Some.state only c.in_ok-field-in-Some.field c.in_ok-field-in-Some.ensures.scheme c.as_slice-in-Some.ensures.rise same
