use Rattle.std.proofs.Common.{take}
use Rattle.mls_layout.specs.LaidOut.{place_of}
use Rattle.mls_layout.specs.steps.Sources.{ArePartners}
use Rattle.mls_layout.proofs.layout.partners.partners_of.Given as goal

-- the partners by the first pairs
abbrev pub invariant-loop-pair : goal.invariant-loop-pair
invariant-loop-pair l = ArePartners (take l.pair-index l.pairs) (place_of l.type_places) l.states l.lists.items
