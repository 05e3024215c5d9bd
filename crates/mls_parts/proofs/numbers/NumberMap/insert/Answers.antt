use Rattle.std.proofs.Common.{Some, ◌∙◌, subst, set, refl}
use Rattle.mls_parts.specs.NumberMaps.{IsAt, IsGapFor}
use Rattle.mls_parts.proofs.NumberMaps.{insert_rises, insert_updates, item_read, none_read, set_rises, set_updates}
use Rattle.mls_parts.proofs.numbers.NumberMap.insert.Goals as goal

-- the entry at the place has the item that was there, and then the new one
pub invariant_of-self : goal.invariant_of-self
invariant_of-self g c =
    let at = subst (λ es. IsAt es c.args.number c.in-Ok.at) c.deref.ensures.value c.in-Ok.ensures.found in
    set_rises c.self.inside.entries.items c.args.self.now c.args.number c.in-Ok.at c.index_mut.result.now c.self.invariant c.self.view_is at c.index_mut.ensures.value c.replace.new.self (Some c.args.item) c.replace.ensures.after

pub returns-in-Ok-clause-old : goal.returns-in-Ok-clause-old
returns-in-Ok-clause-old g c =
    let at = subst (λ es. IsAt es c.args.number c.in-Ok.at) c.deref.ensures.value c.in-Ok.ensures.found in
    c.replace.ensures.value ∙ item_read c.self.inside.entries.items c.args.self.now c.args.number c.in-Ok.at c.index_mut.result.now c.self.invariant c.self.view_is at c.index_mut.ensures.value

pub returns-in-Ok-clause-updates : goal.returns-in-Ok-clause-updates
returns-in-Ok-clause-updates g c =
    let at = subst (λ es. IsAt es c.args.number c.in-Ok.at) c.deref.ensures.value c.in-Ok.ensures.found in
    set_updates c.self.inside.entries.items c.args.self.now c.args.number c.in-Ok.at c.index_mut.result.now c.self.invariant c.self.view_is at c.index_mut.ensures.value c.replace.new.self (Some c.args.item) c.replace.ensures.after (set c.self.inside.entries.items c.in-Ok.at (c.index_mut.result.now.0, c.replace.new.self)) refl

-- or one comes into the gap
pub invariant_of-self-in-Err : goal.invariant_of-self-in-Err
invariant_of-self-in-Err g c =
    let gap = subst (λ es. IsGapFor es c.args.number c.in-Err.at) c.deref.ensures.value c.in-Err.ensures.absent in
    insert_rises c.self.inside.entries.items c.args.self.now c.args.number c.in-Err.at c.self.view_is gap c.self.invariant c.insert.new.self.items (Some c.args.item) c.in_ok-insert-in-Err.ensures.items

pub returns-in_ok-insert-in-Err-clause-old : goal.returns-in_ok-insert-in-Err-clause-old
returns-in_ok-insert-in-Err-clause-old g c =
    let gap = subst (λ es. IsGapFor es c.args.number c.in-Err.at) c.deref.ensures.value c.in-Err.ensures.absent in
    none_read c.self.inside.entries.items c.args.self.now c.args.number c.in-Err.at c.self.view_is gap

pub returns-in_ok-insert-in-Err-clause-updates : goal.returns-in_ok-insert-in-Err-clause-updates
returns-in_ok-insert-in-Err-clause-updates g c =
    let gap = subst (λ es. IsGapFor es c.args.number c.in-Err.at) c.deref.ensures.value c.in-Err.ensures.absent in
    insert_updates c.self.inside.entries.items c.args.self.now c.args.number c.in-Err.at c.self.view_is gap c.self.invariant c.insert.new.self.items (Some c.args.item) c.in_ok-insert-in-Err.ensures.items
