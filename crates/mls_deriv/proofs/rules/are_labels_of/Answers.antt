use Rattle.std.proofs.Common.{sym, subst, IsTrue}
use Rattle.mls_deriv.proofs.rules.are_labels_of.Goals as goal

pub returns : goal.returns
returns c = (
  λ h k d low. subst IsTrue (c.in_ok-labels.ensures _) (c.are_among.ensures.0 h k d low),
  λ h. c.are_among.ensures.1 (λ k d low. subst IsTrue (sym (c.in_ok-labels.ensures _)) (h k d low)),
)
