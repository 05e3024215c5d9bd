use Rattle.mls_subsume.proofs.HeadReasons.{HasNoneAlone}
use Rattle.mls_subsume.proofs.reasons.first_alone.Given as goal

abbrev pub invariant-loop-field : goal.invariant-loop-field
invariant-loop-field l = HasNoneAlone l.fields l.others l.field-index
