use Rattle.std.proofs.Common.{sym, ap, ◌∙◌, rules, Some}
use Rattle.std.proofs.lemmas.Option.{slice_get-get_or}
use Rattle.mls_lexer.proofs.Follows.{Follow-all}
use Rattle.mls_lexer.specs.steps.Placed.{placed}
use Rattle.mls_typetext.specs.steps.PieceMachine.{told_of}
use Rattle.mls_typetext.specs.steps.ReadPieces.{IsReadOf, IsFaultOf}
use Rattle.mls_typetext.specs.Stops.{HasTypeFault}
use Rattle.mls_typetext.specs.Texts.{IsTypeText}
use Rattle.mls_typetext.proofs.TextsRead.{passed, passed_ok, passed_err, whole_ended, all_told, type_text, type_fault}
use Rattle.mls_typetext.proofs.WholeTexts.{whole-stop, whole-end}
use Rattle.mls_typetext.proofs.from_text.read_all.Goals as goal

pub returns-in_err-end-clause-fault : goal.returns-in_err-end-clause-fault
returns-in_err-end-clause-fault c =
    passed c.from_residual.result c.in_err-end.field-0.0 (HasTypeFault c.args.text.now) c.from_residual.ensures.1
    (λ other. whole-stop c.args.text.now c.args.tokens.now c.requires c.in_err-end.field-0.0 (c.in_err-end.ensures.fault other))

pub returns-in-Some-clause-fault : goal.returns-in-Some-clause-fault
returns-in-Some-clause-fault c = λ other.
    whole-end c.args.text.now c.args.tokens.now c.requires c.in_ok-end.end c.in-Some.token.now c.in_ok-end.ensures.end
    (slice_get-get_or c.args.tokens.now c.in_ok-end.end c.in-Some.token.now c.in-Some.ensures.lookup.3.0 ∙ ap Some (sym c.in-Some.ensures.lookup.1))

pub scheme_of-requires-clause-of_text : goal.scheme_of-requires-clause-of_text
scheme_of-requires-clause-of_text c = Follow-all c.args.text.now 0 c.args.tokens.now _ c.requires

pub scheme_of-requires-clause-is_type : goal.scheme_of-requires-clause-is_type
scheme_of-requires-clause-is_type c =
    let it = whole_ended c.args.text.now c.args.tokens.now c.in_ok-end.end c.in_ok-end.ensures.end (search rules) in
    all_told c.args.text.now c.args.tokens.now c.requires it.0 it.1

pub returns-clause-read : goal.returns-clause-read
returns-clause-read c =
    let it = whole_ended c.args.text.now c.args.tokens.now c.in_ok-end.end c.in_ok-end.ensures.end (search rules) in
    passed_ok c.scheme_of.result (IsReadOf (told_of (placed c.args.text.now c.args.tokens.now))) (λ r. IsTypeText c.args.text.now r) c.scheme_of.ensures.read
    (type_text c.args.text.now c.args.tokens.now c.requires it.0 it.1)

pub returns-clause-fault : goal.returns-clause-fault
returns-clause-fault c =
    let it = whole_ended c.args.text.now c.args.tokens.now c.in_ok-end.end c.in_ok-end.ensures.end (search rules) in
    passed_err c.scheme_of.result (IsFaultOf (told_of (placed c.args.text.now c.args.tokens.now))) (HasTypeFault c.args.text.now) c.scheme_of.ensures.fault
    (type_fault c.args.text.now c.args.tokens.now c.requires it.0 it.1)
