use Rattle.std.proofs.Common.{sym}
use Rattle.std.proofs.lemmas.Slice.Eq.{bytes_eq-Decides}
use Rattle.mls_deriv.proofs.Walks.{end_is}
use Rattle.mls_deriv.proofs.walk.is_end.Goals as goal

pub returns-then-eq : goal.returns-then-eq
returns-then-eq c =
    let both = end_is c.args.binding.now c.args.section.now c.args.read.now c.args.steps.now c.requires.all ((bytes_eq-Decides c.args.section.now.name c.args.binding.now.name).0 (sym c.if-eq.ensures)) in
    (λ h. both.0 (c.is_end_step.ensures.0 h), λ e. c.is_end_step.ensures.1 (both.1 e))
