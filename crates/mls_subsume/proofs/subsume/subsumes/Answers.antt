use Rattle.std.proofs.Common.{subst, Some}
use Rattle.std.specs.Prelude.{◌++◌}
use Rattle.mls_subsume.specs.Searches.{IsFirstByFlow, IsFirstByHead}
use Rattle.mls_subsume.proofs.Refuting.{failure_excludes, failure_refutes}
use Rattle.mls_subsume.proofs.Walking.{walk_subsumes}
use Rattle.mls_subsume.proofs.subsume.subsumes.Goals as goal

pub returns-in-Some-clause-does_not_subsume : goal.returns-in-Some-clause-does_not_subsume
returns-in-Some-clause-does_not_subsume c = λ x y is_x is_y.
    failure_refutes c.args.general.now c.args.special.now x y c.requires.general c.requires.special is_x is_y c.requires.general_deterministic c.requires.special_deterministic c.in-Some.path
    (subst (IsFirstByHead c.args.general.now c.args.special.now c.in_ok-queue.queue.met) c.in-Some.is c.in_ok-path.ensures).failure

pub returns-in-Some-2-clause-does_not_subsume : goal.returns-in-Some-2-clause-does_not_subsume
returns-in-Some-2-clause-does_not_subsume c = λ x y is_x is_y.
    failure_refutes c.args.general.now c.args.special.now x y c.requires.general c.requires.special is_x is_y c.requires.general_deterministic c.requires.special_deterministic c.in-Some-2.path
    (subst (IsFirstByFlow c.args.general.now c.args.special.now c.in_ok-queue.queue.met) c.in-Some-2.is c.in_ok-path-2.ensures).failure

pub returns-in-Some-clause-exactly : goal.returns-in-Some-clause-exactly
returns-in-Some-clause-exactly c = (
  λ no. absurd no,
  failure_excludes c.args.general.now c.args.special.now c.requires.general c.requires.special c.requires.general_deterministic c.requires.special_deterministic c.in-Some.path
      (subst (IsFirstByHead c.args.general.now c.args.special.now c.in_ok-queue.queue.met) c.in-Some.is c.in_ok-path.ensures).failure,
)

pub returns-in-Some-2-clause-exactly : goal.returns-in-Some-2-clause-exactly
returns-in-Some-2-clause-exactly c = (
  λ no. absurd no,
  failure_excludes c.args.general.now c.args.special.now c.requires.general c.requires.special c.requires.general_deterministic c.requires.special_deterministic c.in-Some-2.path
      (subst (IsFirstByFlow c.args.general.now c.args.special.now c.in_ok-queue.queue.met) c.in-Some-2.is c.in_ok-path-2.ensures).failure,
)

pub returns-clause-exactly : goal.returns-clause-exactly
returns-clause-exactly c = (
  λ yes x y is_x is_y.
      walk_subsumes c.args.general.now c.args.special.now x y c.requires.general c.requires.special is_x is_y c.requires.no_binders (c.in_ok-walk-in-None.walk.positives ++ c.in_ok-walk-in-None.walk.negatives)
      c.in_ok-walk-in-None.ensures.together,
  λ does. tt,
)
