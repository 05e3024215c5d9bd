use Rattle.mls_typing.specs.InferenceLaws.{at_start}
use Rattle.mls_infer.specs.Inference.{schemes_in}
use Rattle.mls_infer.proofs.SimplerSchemes.{simpler_best, simpler_env}
use Rattle.mls_infer.proofs.infer.infer_noting.Goals as goal

pub returns-clause-env : goal.returns-clause-env
returns-clause-env c =
    simpler_env c.in_ok-whole.whole c.in_ok-simple.simple c.in_ok-whole.ensures.scheme c.in_ok-simple.ensures.scheme
    c.in_ok-whole.ensures.env c.in_ok-simple.ensures.binders

pub returns-clause-best : goal.returns-clause-best
returns-clause-best c = λ t u are is_book.
    simpler_best c.in_ok-whole.whole c.in_ok-simple.simple c.in_ok-whole.ensures.scheme c.in_ok-simple.ensures.scheme
    c.in_ok-whole.ensures.env c.in_ok-simple.ensures.binders c.in_ok-simple.ensures.equivalent
    (at_start (schemes_in c.args.names.now)) t (λ v is_v. c.in_ok-whole.ensures.best t v are is_v) u is_book
