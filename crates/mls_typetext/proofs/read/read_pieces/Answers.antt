use Rattle.std.proofs.Common.{◌≡◌, get_or, subst, IfOk}
use Rattle.std.proofs.lemmas.Option.{slice_get-get_or}
use Rattle.mls_lexer.specs.declared.token.Kind.TheVariants.{Name}
use Rattle.mls_typetext.proofs.ReadTokens.{has_read-new, has_read-more, has_read-all}
use Rattle.mls_typetext.proofs.read.read_pieces.Goals as goal

pub loop-token-init : goal.loop-token-init
loop-token-init c = has_read-new c.args.text.now c.args.tokens.now c.in_ok-reader.reader c.in_ok-reader.ensures

pub loop-token-preserved : goal.loop-token-preserved
loop-token-preserved c =
    let token = get_or c.args.tokens.now c.loop-token.token-index (record { kind = Name; start = 0; end = 0 }) in
    has_read-more c.args.text.now c.args.tokens.now c.loop-token.token-index token (slice_get-get_or c.args.tokens.now c.loop-token.token-index _ c.loop-token-test.true) c.loop-token.reader c.read_token.new.self c.loop-token.invariant c.in_ok-read_token.ensures

pub returns : goal.returns
returns c =
    subst (λ told. IfOk c.finish.result (λ pieces. pieces.items ≡ told))
    (has_read-all c.args.text.now c.args.tokens.now c.loop-token.token-index c.loop-token.reader c.loop-token-test.false c.loop-token.invariant)
    c.finish.ensures
