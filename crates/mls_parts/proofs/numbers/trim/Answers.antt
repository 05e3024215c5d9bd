use Rattle.std.proofs.Common.{◌∙◌, subst}
use Rattle.mls_parts.specs.NumberMaps.{EndsEmpty}
use Rattle.mls_parts.proofs.NumberMaps.{front_held, front_rises}
use Rattle.mls_parts.proofs.numbers.trim.Goals as goal

-- the entry that goes has no item
pub loop-entries-preserved-in-loop-entries : goal.loop-entries-preserved-in-loop-entries
loop-entries-preserved-in-loop-entries g c = record {
  rising = front_rises c.loop-entries.entries.items c.pop.new.self.items c.pop.result c.pop.ensures.items c.loop-entries.invariant.rising;
  same =
      front_held c.loop-entries.entries.items c.pop.new.self.items c.pop.result c.pop.ensures.items (subst EndsEmpty c.deref.ensures.value (c.ends_empty.ensures c.loop-entries-test.true))
      ∙ c.loop-entries.invariant.same;
}

pub loop-entries-preserved-in-loop-entries-2 : goal.loop-entries-preserved-in-loop-entries-2
loop-entries-preserved-in-loop-entries-2 g c = record {
  rising = front_rises c.loop-entries.entries.items c.pop.new.self.items c.pop.result c.pop.ensures.items c.loop-entries.invariant.rising;
  same =
      front_held c.loop-entries.entries.items c.pop.new.self.items c.pop.result c.pop.ensures.items (subst EndsEmpty c.deref.ensures.value (c.ends_empty.ensures c.loop-entries-test.true))
      ∙ c.loop-entries.invariant.same;
}
