use Rattle.std.proofs.Common.{ℕ, List, get_or, subst, arith}
use Rattle.std.proofs.lemmas.List.Elements.{Contains-get_or}
use Rattle.mls_solver.proofs.Relating.{take-all}
use Rattle.mls_biunify.specs.steps.Settlement.{Unlinks}
use Rattle.mls_biunify.proofs.SettledLinks.{same-there-in, unlinks-none, unlinks-more}
use Rattle.mls_biunify.proofs.settlement.unlink_all.Goals as goal

pub loop-i-init : goal.loop-i-init
loop-i-init c = unlinks-none c.args.table.now c.args.edges.now

pub unlink-requires-clause-negative : goal.unlink-requires-clause-negative
unlink-requires-clause-negative c =
    let x : ℕ × ℕ = get_or c.args.edges.now c.loop-i.i (0, 0) in
    same-there-in c.args.table.now c.loop-i.table c.loop-i.invariant.there x.0 (c.requires x.0 x.1 (Contains-get_or c.args.edges.now c.loop-i.i (0, 0) (omega arith))).0

pub unlink-requires-clause-positive : goal.unlink-requires-clause-positive
unlink-requires-clause-positive c =
    let x : ℕ × ℕ = get_or c.args.edges.now c.loop-i.i (0, 0) in
    same-there-in c.args.table.now c.loop-i.table c.loop-i.invariant.there x.1 (c.requires x.0 x.1 (Contains-get_or c.args.edges.now c.loop-i.i (0, 0) (omega arith))).1

pub loop-i-preserved : goal.loop-i-preserved
loop-i-preserved c = unlinks-more c.args.table.now c.loop-i.table c.unlink.new.self c.args.edges.now c.loop-i.i (omega arith) c.loop-i.invariant c.unlink.ensures.removes

pub returns : goal.returns
returns c = subst (λ (xs : List (ℕ × ℕ)). Unlinks c.args.table.now xs c.loop-i.table) (take-all c.args.edges.now c.loop-i.i (omega arith)) c.loop-i.invariant
