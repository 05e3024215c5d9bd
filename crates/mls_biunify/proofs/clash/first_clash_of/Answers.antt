use Rattle.std.proofs.Common.{◌≡◌, length, subst, arith}
use Rattle.mls_solver.specs.steps.FirstClashes.{IsFirstOf, IsPairBelow}
use Rattle.mls_solver.proofs.FirstClashes.{first_none, first_more, none_at_all, first_at_all}
use Rattle.mls_biunify.proofs.RelatedThere.{first_there, found_there}
use Rattle.mls_biunify.proofs.clash.first_clash_of.Goals as goal

pub loop-i-init : goal.loop-i-init
loop-i-init c = first_none c.args.table.now.automaton c.args.relation.now

pub loop-i-preserved : goal.loop-i-preserved
loop-i-preserved c = first_more c.args.table.now.automaton c.args.relation.now c.loop-i.i c.loop-i.first c.clash_found.result c.earlier_of-first.result c.loop-i.invariant c.clash_found.ensures c.earlier_of-first.ensures

pub earlier_of-first-requires-clause-first : goal.earlier_of-first-requires-clause-first
earlier_of-first-requires-clause-first c =
    let len : c.len-i-end.result ≡ length c.args.relation.now.pairs = c.len-i-end.ensures in
    first_there c.args.table.now c.args.relation.now c.loop-i.i (omega arith) c.requires.states c.loop-i.first c.loop-i.invariant

pub earlier_of-first-requires-clause-other : goal.earlier_of-first-requires-clause-other
earlier_of-first-requires-clause-other c =
    let len : c.len-i-end.result ≡ length c.args.relation.now.pairs = c.len-i-end.ensures in
    found_there c.args.table.now c.args.relation.now c.loop-i.i (omega arith) c.requires.states c.clash_found.result c.clash_found.ensures

pub returns-in-None : goal.returns-in-None
returns-in-None c =
    let len : c.len-i-end.result ≡ length c.args.relation.now.pairs = c.len-i-end.ensures in
    record {
      ok =
          none_at_all c.args.table.now.automaton c.args.relation.now c.loop-i.i (omega arith) (omega arith)
          (subst (IsFirstOf c.args.table.now.automaton (IsPairBelow c.args.relation.now c.loop-i.i)) c.in-None.is c.loop-i.invariant);
      clash = tt;
    }

pub returns-in-Some : goal.returns-in-Some
returns-in-Some c =
    let len : c.len-i-end.result ≡ length c.args.relation.now.pairs = c.len-i-end.ensures in
    record {
      ok = tt;
      clash =
          first_at_all c.args.table.now.automaton c.args.relation.now c.loop-i.i (omega arith) (omega arith) c.in-Some.clash
          (subst (IsFirstOf c.args.table.now.automaton (IsPairBelow c.args.relation.now c.loop-i.i)) c.in-Some.is c.loop-i.invariant);
    }
