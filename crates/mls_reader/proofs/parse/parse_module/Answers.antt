use Rattle.std.proofs.Common.{sym, ◌∙◌, subst}
use Rattle.mls_lexer.specs.Tokens.{IsTokens}
use Rattle.mls_reader.proofs.ParsedModules.{double_is_first, module_is_text}
use Rattle.mls_grammar.proofs.PassedFaults.{tokens_passed, grammar_passed}
use Rattle.mls_reader.proofs.parse.parse_module.Goals as goal

pub returns-in_err-tokens-clause-fault : goal.returns-in_err-tokens-clause-fault
returns-in_err-tokens-clause-fault c = tokens_passed c.args.text.now c.from_residual.result c.in_err-tokens.field-0.0 c.from_residual.ensures.1 c.in_err-tokens.ensures.fault

pub returns-in_err-pieces-clause-fault : goal.returns-in_err-pieces-clause-fault
returns-in_err-pieces-clause-fault c =
    grammar_passed c.args.text.now c.deref.result.now c.from_residual-in_err-pieces.result c.in_err-pieces.field-0.0
    (subst (IsTokens c.args.text.now) (sym c.deref.ensures.value) c.in_ok-tokens.ensures.found)
    c.from_residual-in_err-pieces.ensures.1 c.in_err-pieces.ensures.fault

pub returns-in-Some-clause-fault : goal.returns-in-Some-clause-fault
returns-in-Some-clause-fault c =
    let it = c.in_ok-pieces.ensures.read in
    let are = subst (IsTokens c.args.text.now) (sym c.deref.ensures.value) c.in_ok-tokens.ensures.found in
    λ other. double_is_first c.args.text.now c.deref.result.now are it.phrase it.spelled it.shallow c.in_ok-pieces.field-0.events.items c.in-Some.fault
    it.events_are (sym c.in_ok-fault.ensures ∙ c.in-Some.is)

pub returns-clause-found : goal.returns-clause-found
returns-clause-found c =
    let it = c.in_ok-pieces.ensures.read in
    let are = subst (IsTokens c.args.text.now) (sym c.deref.ensures.value) c.in_ok-tokens.ensures.found in
    module_is_text c.args.text.now c.deref.result.now are it.phrase it.spelled it.shallow c.in_ok-pieces.field-0.pieces.items c.in_ok-pieces.field-0.events.items c.in_ok-module.module
    it.pieces_are it.events_are (sym c.in_ok-fault.ensures ∙ c.in_default.is) c.in_ok-module.ensures
