use Rattle.std.proofs.Common.{◌∙◌, ap, sym}
use Rattle.std.specs.List.{flat_map}
use Rattle.mls_print.proofs.Grouped.{flat_map-map}
use Rattle.mls_print.proofs.label.LabelSets.states.Goals as goal

pub returns : goal.returns
returns c =
    c.in_ok-states.ensures
    ∙ (ap (flat_map (λ set. set.now)) c.as_slice.ensures.value
    ∙ (sym (flat_map-map (λ set. set.now) c.self.inside.sets.items)
    ∙ ap (flat_map (λ set. set)) c.self.view_is))
