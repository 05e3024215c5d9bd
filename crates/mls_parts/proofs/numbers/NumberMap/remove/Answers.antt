use Rattle.std.proofs.Common.{None, ◌∙◌, subst}
use Rattle.mls_parts.specs.NumberMaps.{IsAt, IsGapFor}
use Rattle.mls_parts.proofs.NumberMaps.{item_read, none_read, nothing_updates, set_rises, set_updates}
use Rattle.mls_parts.proofs.numbers.NumberMap.remove.Goals as goal

-- the entry at the place has the item, and then none
pub trim-requires : goal.trim-requires
trim-requires g c =
    let at = subst (λ es. IsAt es c.args.number c.in-Ok.at) c.deref.ensures.value c.in-Ok.ensures.found in
    set_rises c.self.inside.entries.items c.args.self.now c.args.number c.in-Ok.at c.index_mut.result.now c.self.invariant c.self.view_is at c.index_mut.ensures.value c.take-item.new.self None c.take-item.ensures.after

pub returns-in-Ok-clause-value : goal.returns-in-Ok-clause-value
returns-in-Ok-clause-value g c =
    let at = subst (λ es. IsAt es c.args.number c.in-Ok.at) c.deref.ensures.value c.in-Ok.ensures.found in
    c.take-item.ensures.value ∙ item_read c.self.inside.entries.items c.args.self.now c.args.number c.in-Ok.at c.index_mut.result.now c.self.invariant c.self.view_is at c.index_mut.ensures.value

pub returns-in-Ok-clause-updates : goal.returns-in-Ok-clause-updates
returns-in-Ok-clause-updates g c =
    let at = subst (λ es. IsAt es c.args.number c.in-Ok.at) c.deref.ensures.value c.in-Ok.ensures.found in
    set_updates c.self.inside.entries.items c.args.self.now c.args.number c.in-Ok.at c.index_mut.result.now c.self.invariant c.self.view_is at c.index_mut.ensures.value c.take-item.new.self None c.take-item.ensures.after c.trim.new.entries.items c.trim.ensures.held

pub returns-in-Err-clause-value : goal.returns-in-Err-clause-value
returns-in-Err-clause-value g c =
    let gap = subst (λ es. IsGapFor es c.args.number c.in-Err.field-0) c.deref.ensures.value c.in-Err.ensures.absent in
    none_read c.self.inside.entries.items c.args.self.now c.args.number c.in-Err.field-0 c.self.view_is gap

pub returns-in-Err-clause-updates : goal.returns-in-Err-clause-updates
returns-in-Err-clause-updates g c =
    let gap = subst (λ es. IsGapFor es c.args.number c.in-Err.field-0) c.deref.ensures.value c.in-Err.ensures.absent in
    nothing_updates c.self.inside.entries.items c.args.self.now c.args.number c.in-Err.field-0 c.self.view_is gap
