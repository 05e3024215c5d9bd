use Rattle.std.proofs.lemmas.Slice.Eq.{slice_eq-Decides}
use Rattle.mls_deriv.proofs.FittingNodes.{field_eq-Decides}
use Rattle.mls_deriv.proofs.fit.are_same.Goals as goal

pub returns : goal.returns
returns c = slice_eq-Decides field_eq-Decides _ _ _ c.eq.ensures
