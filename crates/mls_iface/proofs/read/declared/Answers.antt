use Rattle.std.proofs.Common.{◌≡◌, ◌+◌, sym, ap, ◌∙◌, subst, Some}
use Rattle.std.specs.Prelude.{slice_index_or}
use Rattle.std.proofs.lemmas.Option.{slice_get-get_or, slice_get_within}
use Rattle.mls_lexer.specs.declared.token.Kind.TheVariants as kind
use Rattle.mls_lexer.specs.declared.token.Token.{Token}
use Rattle.mls_lexer.proofs.Follows.{Follow-all}
use Rattle.mls_iface.specs.steps.Reading.{IsNamed}
use Rattle.mls_iface.proofs.DeclarationsRead.{second_there, second_name}
use Rattle.mls_iface.proofs.read.declared.Goals as goal

abbrev nobody : Token
nobody = record { kind = kind.Name; start = 0; end = 0 }

same_token : (t u : Token) → Some t ≡ Some u → t ≡ u
same_token t u e = cc

pub bounds-tokens-from : goal.bounds-tokens-from
bounds-tokens-from c =
    let it = second_there c.args.text.now c.args.tokens.now c.args.from c.requires.from c.requires.grammar in
    slice_get_within c.args.tokens.now (c.args.from + 1) it.0 it.1

pub name_of-requires-clause-of_text : goal.name_of-requires-clause-of_text
name_of-requires-clause-of_text c =
    let it = second_there c.args.text.now c.args.tokens.now c.args.from c.requires.from c.requires.grammar in
    Follow-all c.args.text.now 0 c.args.tokens.now _ c.requires.tokens (c.args.from + 1) nobody
    (slice_get_within c.args.tokens.now (c.args.from + 1) it.0 it.1)

pub name_of-requires-clause-is_name : goal.name_of-requires-clause-is_name
name_of-requires-clause-is_name c =
    let it = second_there c.args.text.now c.args.tokens.now c.args.from c.requires.from c.requires.grammar in
    let low = slice_get_within c.args.tokens.now (c.args.from + 1) it.0 it.1 in
    let same : it.0 ≡ slice_index_or c.args.tokens.now (c.args.from + 1) nobody =
    same_token it.0 (slice_index_or c.args.tokens.now (c.args.from + 1) nobody)
    (sym it.1 ∙ slice_get-get_or c.args.tokens.now (c.args.from + 1) nobody low) in
    ap (λ (t : Token). t.kind) (sym same) ∙ it.2

pub returns : goal.returns
returns c = λ ds is.
    let it = second_there c.args.text.now c.args.tokens.now c.args.from c.requires.from c.requires.grammar in
    let low = slice_get_within c.args.tokens.now (c.args.from + 1) it.0 it.1 in
    let token : Token = slice_index_or c.args.tokens.now (c.args.from + 1) nobody in
    subst (λ x. IsNamed c.args.tokens.now c.args.from ds x token.start) (sym c.in_ok-name.ensures)
    (second_name c.args.text.now c.args.tokens.now c.args.from c.requires.from token
    (slice_get-get_or c.args.tokens.now (c.args.from + 1) nobody low) ds is)
