use Rattle.std.proofs.Common.{take}
use Rattle.mls_layout.specs.steps.Sources.{Gathers, IsOfState}
use Rattle.mls_layout.proofs.Gathering.{BySome}
use Rattle.mls_layout.proofs.layout.values.entering.Given as goal

-- those of the first related states
abbrev pub invariant-loop-p : goal.invariant-loop-p
invariant-loop-p l = Gathers (BySome (take l.p-index l.p-items) (IsOfState l.a l.sources)) l.initial.ids l.ids
