use Rattle.std.proofs.Common.{◌≡◌, length, subst, arith}
use Rattle.mls_solver.specs.steps.FirstClashes.{IsFirstOf, IsPairBelow}
use Rattle.mls_solver.proofs.FirstClashes.{first_none, first_more, first_in_range, at_in_range, none_at_all, first_at_all}
use Rattle.mls_solver.proofs.Searching.{states_low}
use Rattle.mls_solver.proofs.search.first_clash_of.Goals as goal

pub loop-i-init : goal.loop-i-init
loop-i-init c = first_none c.args.a.now c.args.found.now

pub loop-i-preserved : goal.loop-i-preserved
loop-i-preserved c = first_more c.args.a.now c.args.found.now c.loop-i.i c.loop-i.first c.clash_at.result c.earlier-first.result c.loop-i.invariant c.clash_at.ensures c.earlier-first.ensures

pub earlier-first-requires-clause-first : goal.earlier-first-requires-clause-first
earlier-first-requires-clause-first c =
    let len : c.len-i-end.result ≡ length c.args.found.now.pairs = c.len-i-end.ensures in
    first_in_range c.args.a.now c.args.found.now c.loop-i.i (omega arith) (states_low c.args.a.now c.args.found.now c.requires.states) c.loop-i.first c.loop-i.invariant

pub earlier-first-requires-clause-other : goal.earlier-first-requires-clause-other
earlier-first-requires-clause-other c =
    let len : c.len-i-end.result ≡ length c.args.found.now.pairs = c.len-i-end.ensures in
    at_in_range c.args.a.now c.args.found.now c.loop-i.i (omega arith) (states_low c.args.a.now c.args.found.now c.requires.states) c.clash_at.result c.clash_at.ensures

pub returns-in-None : goal.returns-in-None
returns-in-None c =
    let len : c.len-i-end.result ≡ length c.args.found.now.pairs = c.len-i-end.ensures in
    record {
      ok =
          none_at_all c.args.a.now c.args.found.now c.loop-i.i (omega arith) (omega arith)
          (subst (IsFirstOf c.args.a.now (IsPairBelow c.args.found.now c.loop-i.i)) c.in-None.is c.loop-i.invariant);
      clash = tt;
    }

pub returns-in-Some : goal.returns-in-Some
returns-in-Some c =
    let len : c.len-i-end.result ≡ length c.args.found.now.pairs = c.len-i-end.ensures in
    record {
      ok = tt;
      clash =
          first_at_all c.args.a.now c.args.found.now c.loop-i.i (omega arith) (omega arith) c.in-Some.clash
          (subst (IsFirstOf c.args.a.now (IsPairBelow c.args.found.now c.loop-i.i)) c.in-Some.is c.loop-i.invariant);
    }

pub clash_at-requires-clause-states : goal.clash_at-requires-clause-states
clash_at-requires-clause-states c = states_low c.args.a.now c.args.found.now c.requires.states
