use Rattle.std.proofs.Common.{get_or, subst}
use Rattle.std.proofs.lemmas.Option.{slice_get-get_or}
use Rattle.mls_lexer.specs.declared.token.Kind.TheVariants.{Name}
use Rattle.mls_lexer.proofs.Follows.{Follow-all}
use Rattle.mls_grammar.specs.GrammarFaults.{HasGrammarFault}
use Rattle.mls_reader.specs.steps.PieceReaders.{Stopped, Finished}
use Rattle.mls_reader.proofs.ReaderLoops.{fault-passed}
use Rattle.mls_reader.proofs.ReaderEnds.{has_read-new, has_read-more, stopped-fault, finished-early, finished-reads}
use Rattle.mls_reader.proofs.read.read.Goals as goal

pub loop-token-init : goal.loop-token-init
loop-token-init c = has_read-new c.args.text.now c.args.tokens.now c.in_ok-reader.reader c.in_ok-reader.ensures

pub read_token-requires : goal.read_token-requires
read_token-requires c = Follow-all c.args.text.now 0 c.args.tokens.now _ c.requires c.loop-token.token-index _ c.loop-token-test.true

pub returns-in_err-read_token-clause-fault : goal.returns-in_err-read_token-clause-fault
returns-in_err-read_token-clause-fault c =
    let token = get_or c.args.tokens.now c.loop-token.token-index (record { kind = Name; start = 0; end = 0 }) in
    fault-passed c.from_residual-in_err-read_token.result _ (Stopped c.args.text.now token c.loop-token.reader) (HasGrammarFault c.args.text.now c.args.tokens.now) c.from_residual-in_err-read_token.ensures.1
    (stopped-fault c.args.text.now c.args.tokens.now c.loop-token.token-index token (slice_get-get_or c.args.tokens.now c.loop-token.token-index _ c.loop-token-test.true) c.loop-token.reader c.loop-token.invariant)
    c.in_err-read_token.ensures.stopped

pub loop-token-preserved : goal.loop-token-preserved
loop-token-preserved c =
    let token = get_or c.args.tokens.now c.loop-token.token-index (record { kind = Name; start = 0; end = 0 }) in
    has_read-more c.args.text.now c.args.tokens.now c.loop-token.token-index token (slice_get-get_or c.args.tokens.now c.loop-token.token-index _ c.loop-token-test.true) c.loop-token.reader c.loop-token.invariant c.read_token.new.self c.in_ok-read_token.ensures.went

pub returns-then-not-branch-clause-fault : goal.returns-then-not-branch-clause-fault
returns-then-not-branch-clause-fault c = λ other.
    finished-early c.args.text.now c.args.tokens.now c.loop-token.token-index c.loop-token-test.false c.loop-token.reader c.loop-token.invariant c.finish.new.self
    (subst (Finished c.loop-token.reader c.finish.new.self) c.if-not-branch.true c.in_ok-finish.ensures)

pub returns-clause-read : goal.returns-clause-read
returns-clause-read c =
    finished-reads c.args.text.now c.args.tokens.now c.loop-token.token-index c.loop-token-test.false c.loop-token.reader c.loop-token.invariant c.finish.new.self
    (subst (Finished c.loop-token.reader c.finish.new.self) c.if-not-branch.false c.in_ok-finish.ensures)
