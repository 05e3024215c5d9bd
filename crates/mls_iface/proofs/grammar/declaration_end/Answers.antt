use Rattle.std.proofs.Common.{◌≡◌, suc, sym, ap, ◌∙◌, subst, rules, arith, Some}
use Rattle.std.specs.Prelude.{slice_get}
use Rattle.std.proofs.lemmas.Option.{slice_get-get_or, slice_get_past, slice_get_within}
use Rattle.mls_lexer.specs.declared.token.Kind.TheVariants as kind
use Rattle.mls_typetext.specs.Stops.{EndsBefore, HasStop}
use Rattle.mls_iface.specs.Faults.{HasGrammarFault}
use Rattle.mls_iface.specs.steps.Going.{IsThere, IsMissing}
use Rattle.mls_iface.proofs.GrammarSteps.{val_missing, name_missing, colon_missing, type_missing, val_missing_behind, leads_behind, bound_none, bound_val}
use Rattle.mls_iface.proofs.PassedOn.{passed, passed_type}
use Rattle.mls_iface.proofs.grammar.declaration_end.Goals as goal

pub returns-in_err-name-clause-fault : goal.returns-in_err-name-clause-fault
returns-in_err-name-clause-fault c =
    passed c.from_residual.result c.in_err-name.field-0.0 (HasGrammarFault c.args.text.now c.args.tokens.now c.args.from) c.from_residual.ensures.1
    (λ differs. val_missing c.args.text.now c.args.tokens.now c.args.from c.in_err-name.field-0.0 c.requires.from c.in_err-name.ensures.missing)

pub returns-in_err-colon-clause-fault : goal.returns-in_err-colon-clause-fault
returns-in_err-colon-clause-fault c =
    let missing : IsMissing c.args.tokens.now (suc c.args.from) kind.Name c.in_err-colon.field-0.0 =
    subst (λ i. IsMissing c.args.tokens.now i kind.Name c.in_err-colon.field-0.0) c.in_ok-name.ensures.next c.in_err-colon.ensures.missing in
    passed c.from_residual-in_err-colon.result c.in_err-colon.field-0.0 (HasGrammarFault c.args.text.now c.args.tokens.now c.args.from) c.from_residual-in_err-colon.ensures.1
    (λ differs. name_missing c.args.text.now c.args.tokens.now c.args.from c.in_err-colon.field-0.0 c.in_ok-name.ensures.there missing)

pub returns-in_err-start-clause-fault : goal.returns-in_err-start-clause-fault
returns-in_err-start-clause-fault c =
    let place : c.in_ok-colon.colon ≡ suc (suc c.args.from) = c.in_ok-colon.ensures.next ∙ ap suc c.in_ok-name.ensures.next in
    let second : IsThere c.args.tokens.now (suc c.args.from) kind.Name =
    subst (λ i. IsThere c.args.tokens.now i kind.Name) c.in_ok-name.ensures.next c.in_ok-colon.ensures.there in
    let missing : IsMissing c.args.tokens.now (suc (suc c.args.from)) kind.Colon c.in_err-start.field-0.0 =
    subst (λ i. IsMissing c.args.tokens.now i kind.Colon c.in_err-start.field-0.0) place c.in_err-start.ensures.missing in
    passed c.from_residual-in_err-start.result c.in_err-start.field-0.0 (HasGrammarFault c.args.text.now c.args.tokens.now c.args.from) c.from_residual-in_err-start.ensures.1
    (λ differs. colon_missing c.args.text.now c.args.tokens.now c.args.from c.in_err-start.field-0.0 c.in_ok-name.ensures.there second missing)

pub type_end-requires-clause-from : goal.type_end-requires-clause-from
type_end-requires-clause-from c =
    let low = slice_get_within c.args.tokens.now c.in_ok-colon.colon c.in_ok-start.ensures.there.0 c.in_ok-start.ensures.there.1 in
    let next = c.in_ok-start.ensures.next in
    omega arith

pub returns-in_err-end-clause-fault : goal.returns-in_err-end-clause-fault
returns-in_err-end-clause-fault c =
    let place : c.in_ok-colon.colon ≡ suc (suc c.args.from) = c.in_ok-colon.ensures.next ∙ ap suc c.in_ok-name.ensures.next in
    let behind : c.in_ok-start.start ≡ suc (suc (suc c.args.from)) = c.in_ok-start.ensures.next ∙ ap suc place in
    let second : IsThere c.args.tokens.now (suc c.args.from) kind.Name =
    subst (λ i. IsThere c.args.tokens.now i kind.Name) c.in_ok-name.ensures.next c.in_ok-colon.ensures.there in
    let third : IsThere c.args.tokens.now (suc (suc c.args.from)) kind.Colon =
    subst (λ i. IsThere c.args.tokens.now i kind.Colon) place c.in_ok-start.ensures.there in
    passed_type c.from_residual-in_err-end.result c.in_err-end.field-0.0 (HasGrammarFault c.args.text.now c.args.tokens.now c.args.from) c.from_residual-in_err-end.ensures.1
    (λ differs.
    type_missing c.args.text.now c.args.tokens.now c.args.from c.in_ok-name.ensures.there second third c.in_err-end.field-0.0
    (subst (λ i. HasStop c.args.text.now c.args.tokens.now i c.in_err-end.field-0.0) behind (c.in_err-end.ensures.fault differs)))

pub returns-in-None-clause-end : goal.returns-in-None-clause-end
returns-in-None-clause-end c =
    let place : c.in_ok-colon.colon ≡ suc (suc c.args.from) = c.in_ok-colon.ensures.next ∙ ap suc c.in_ok-name.ensures.next in
    let behind : c.in_ok-start.start ≡ suc (suc (suc c.args.from)) = c.in_ok-start.ensures.next ∙ ap suc place in
    let second : IsThere c.args.tokens.now (suc c.args.from) kind.Name =
    subst (λ i. IsThere c.args.tokens.now i kind.Name) c.in_ok-name.ensures.next c.in_ok-colon.ensures.there in
    let third : IsThere c.args.tokens.now (suc (suc c.args.from)) kind.Colon =
    subst (λ i. IsThere c.args.tokens.now i kind.Colon) place c.in_ok-start.ensures.there in
    leads_behind c.args.text.now c.args.tokens.now c.args.from c.in_ok-name.ensures.there second third c.in_ok-end.end
    (subst (λ i. EndsBefore c.args.text.now c.args.tokens.now i c.in_ok-end.end) behind c.in_ok-end.ensures.end)
    (bound_none c.args.text.now c.args.tokens.now c.in_ok-end.end (slice_get_past c.args.tokens.now c.in_ok-end.end (search rules)))

pub returns-then-eq-clause-end : goal.returns-then-eq-clause-end
returns-then-eq-clause-end c =
    let place : c.in_ok-colon.colon ≡ suc (suc c.args.from) = c.in_ok-colon.ensures.next ∙ ap suc c.in_ok-name.ensures.next in
    let behind : c.in_ok-start.start ≡ suc (suc (suc c.args.from)) = c.in_ok-start.ensures.next ∙ ap suc place in
    let second : IsThere c.args.tokens.now (suc c.args.from) kind.Name =
    subst (λ i. IsThere c.args.tokens.now i kind.Name) c.in_ok-name.ensures.next c.in_ok-colon.ensures.there in
    let third : IsThere c.args.tokens.now (suc (suc c.args.from)) kind.Colon =
    subst (λ i. IsThere c.args.tokens.now i kind.Colon) place c.in_ok-start.ensures.there in
    let at : slice_get c.args.tokens.now c.in_ok-end.end ≡ Some c.in-Some.token.now =
    slice_get-get_or c.args.tokens.now c.in_ok-end.end c.in-Some.token.now c.in-Some.ensures.lookup.3.0 ∙ ap Some (sym c.in-Some.ensures.lookup.1) in
    leads_behind c.args.text.now c.args.tokens.now c.args.from c.in_ok-name.ensures.there second third c.in_ok-end.end
    (subst (λ i. EndsBefore c.args.text.now c.args.tokens.now i c.in_ok-end.end) behind c.in_ok-end.ensures.end)
    (bound_val c.args.text.now c.args.tokens.now c.in_ok-end.end (c.in-Some.token.now, at, search rules))

pub returns-else-eq-clause-fault : goal.returns-else-eq-clause-fault
returns-else-eq-clause-fault c =
    let place : c.in_ok-colon.colon ≡ suc (suc c.args.from) = c.in_ok-colon.ensures.next ∙ ap suc c.in_ok-name.ensures.next in
    let behind : c.in_ok-start.start ≡ suc (suc (suc c.args.from)) = c.in_ok-start.ensures.next ∙ ap suc place in
    let second : IsThere c.args.tokens.now (suc c.args.from) kind.Name =
    subst (λ i. IsThere c.args.tokens.now i kind.Name) c.in_ok-name.ensures.next c.in_ok-colon.ensures.there in
    let third : IsThere c.args.tokens.now (suc (suc c.args.from)) kind.Colon =
    subst (λ i. IsThere c.args.tokens.now i kind.Colon) place c.in_ok-start.ensures.there in
    let at : slice_get c.args.tokens.now c.in_ok-end.end ≡ Some c.in-Some.token.now =
    slice_get-get_or c.args.tokens.now c.in_ok-end.end c.in-Some.token.now c.in-Some.ensures.lookup.3.0 ∙ ap Some (sym c.in-Some.ensures.lookup.1) in
    λ differs.
    val_missing_behind c.args.text.now c.args.tokens.now c.args.from c.in_ok-name.ensures.there second third c.in_ok-end.end c.in-Some.token.now
    (subst (λ i. EndsBefore c.args.text.now c.args.tokens.now i c.in_ok-end.end) behind c.in_ok-end.ensures.end)
    at (search rules)
