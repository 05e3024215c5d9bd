use Rattle.std.proofs.Common.{◌≡◌, arith}
use Rattle.std.proofs.lemmas.Result.{err_from_is_err_and}
use Rattle.mls_lexer.proofs.Follows.{EndAt-push, IsTokens-end, Follow-all, Follow-end, HasTokenFault-at}
use Rattle.mls_lexer.proofs.scan.tokens.Goals as goal

pub returns-in_err-token-clause-fault : goal.returns-in_err-token-clause-fault
returns-in_err-token-clause-fault c =
    let p = err_from_is_err_and c.from_residual.result c.from_residual.ensures.1 in
    rw (p.1, p.2)
    (λ other. HasTokenFault-at c.args.text.now c.loop-start.found.items c.loop-start.end c.in-Some.start c.in_err-token.field-0.0 c.loop-start.invariant.so_far c.in-Some.ensures c.in_err-token.ensures)

pub loop-start-preserved : goal.loop-start-preserved
loop-start-preserved c =
    let token = c.in_ok-token.token in
    let next = c.in-Some.ensures in
    let it = c.in_ok-token.ensures in
    record {
      so_far =
          rw c.in_ok-push.ensures.items
          (EndAt-push c.args.text.now c.loop-start.found.items c.loop-start.end c.in-Some.start token c.loop-start.invariant.so_far next it.0 it.1);
      within = it.1.within.1;
    }

pub returns-clause-found : goal.returns-clause-found
returns-clause-found c = IsTokens-end c.args.text.now c.loop-start.found.items c.loop-start.end c.loop-start.invariant.so_far c.in_default.ensures

pub returns-clause-each : goal.returns-clause-each
returns-clause-each c = Follow-all c.args.text.now 0 c.loop-start.found.items (λ place. place ≡ c.loop-start.end) c.loop-start.invariant.so_far

pub returns-clause-places : goal.returns-clause-places
returns-clause-places c = λ k d inside. (Follow-all c.args.text.now 0 c.loop-start.found.items (λ place. place ≡ c.loop-start.end) c.loop-start.invariant.so_far k d inside).within

pub returns-clause-count : goal.returns-clause-count
returns-clause-count c =
    let ends = Follow-end c.args.text.now 0 c.loop-start.found.items (λ place. place ≡ c.loop-start.end) c.loop-start.invariant.so_far in
    let same = ends.1 in
    let count = ends.2 in
    let within = c.loop-start.invariant.within in
    omega arith
