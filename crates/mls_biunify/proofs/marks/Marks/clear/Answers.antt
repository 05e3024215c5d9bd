use Rattle.std.proofs.Common.{◌<◌, ℕ, List, All, length, subst, sym}
use Rattle.mls_biunify.proofs.FoundMarks.{found-low, marks-cleared}
use Rattle.mls_biunify.proofs.marks.Marks.clear.Goals as goal

pub unmark-requires : goal.unmark-requires
unmark-requires c = subst (λ (xs : List ℕ). All (λ s. s < length c.self.inside.is_found.items) xs) (sym c.as_slice.ensures.value) (found-low c.self.inside.found.items c.self.inside.is_found.items c.self.invariant)

pub invariant_of-self : goal.invariant_of-self
invariant_of-self c = marks-cleared c.self.inside.found.items c.self.inside.is_found.items c.self.invariant c.as_slice.result.now c.unmark.new.marks.items c.as_slice.ensures.value c.unmark.ensures c.clear.new.self.items c.clear.ensures.items
