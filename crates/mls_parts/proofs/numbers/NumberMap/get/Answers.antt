use Rattle.std.proofs.Common.{◌∙◌, subst}
use Rattle.mls_parts.specs.NumberMaps.{IsAt, IsGapFor}
use Rattle.mls_parts.proofs.NumberMaps.{item_read, none_read}
use Rattle.mls_parts.proofs.numbers.NumberMap.get.Goals as goal

-- the entry at the place has the item
pub returns-in-Ok : goal.returns-in-Ok
returns-in-Ok g c =
    let at = subst (λ es. IsAt es c.args.number c.in-Ok.at) c.deref.ensures.value c.in-Ok.ensures.found in
    c.as_ref.ensures.value ∙ item_read c.self.inside.entries.items c.args.self.now c.args.number c.in-Ok.at c.index.result.now c.self.invariant c.self.view_is at c.index.ensures

pub returns-in-Err : goal.returns-in-Err
returns-in-Err g c =
    let gap = subst (λ es. IsGapFor es c.args.number c.in-Err.field-0) c.deref.ensures.value c.in-Err.ensures.absent in
    none_read c.self.inside.entries.items c.args.self.now c.args.number c.in-Err.field-0 c.self.view_is gap
