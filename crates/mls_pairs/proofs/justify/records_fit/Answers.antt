use Rattle.mls_deriv.proofs.PairRules.{all_labels}
use Rattle.mls_deriv.specs.inner.Tables.{Holds}
use Rattle.mls_pairs.proofs.justify.records_fit.Goals as goal

pub returns : goal.returns
returns c =
    let both = all_labels (Holds c.args.table.now) c.args.mode c.args.fields.now c.args.others.now in
    (λ h. both.0 (c.labels_fit.ensures.0 h), λ h. c.labels_fit.ensures.1 (both.1 h))
