use Rattle.std.proofs.Common.{sym}
use Rattle.mls_solver.proofs.FirstKinds.{lacks_none, lacks_first, unlike_other, unlike_first}
use Rattle.mls_solver.proofs.clash.clash_of.Goals as goal

pub returns-in-Some-first_lacking : goal.returns-in-Some-first_lacking
returns-in-Some-first_lacking c =
    lacks_first c.args.upper.now c.args.lower.now c.requires (sym c.in-None.ensures) c.in-Some-first_lacking.i c.in-Some-first_lacking.ensures.0 c.in-Some-first_lacking.ensures.1

pub returns-in-None-first_lacking : goal.returns-in-None-first_lacking
returns-in-None-first_lacking c = lacks_none c.args.upper.now c.args.lower.now c.requires (sym c.in-None.ensures) c.in-None-first_lacking.ensures

pub returns-in-None-other_kind : goal.returns-in-None-other_kind
returns-in-None-other_kind c kind clash = unlike_other c.args.upper.now c.args.lower.now c.in-Some.first (sym c.in-Some.ensures) (sym c.in-None-other_kind.ensures)

pub returns-in-Some-other_kind : goal.returns-in-Some-other_kind
returns-in-Some-other_kind c =
    unlike_first c.args.upper.now c.args.lower.now c.in-Some.first c.in-Some-other_kind.second (sym c.in-Some.ensures) (sym c.in-Some-other_kind.ensures)
