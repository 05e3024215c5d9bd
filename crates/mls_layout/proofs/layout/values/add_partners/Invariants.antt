use Rattle.std.proofs.Common.{take}
use Rattle.mls_layout.specs.Trees.{IsNodeIn}
use Rattle.mls_layout.specs.steps.Sources.{Gathers, partners_in}
use Rattle.mls_layout.proofs.Gathering.{BySome}
use Rattle.mls_layout.proofs.layout.values.add_partners.Given as goal

-- those of the first states
abbrev pub invariant-loop-k : goal.invariant-loop-k
invariant-loop-k l = Gathers (BySome (take l.k-index l.states) (λ k i. IsNodeIn (partners_in l.sources k) i)) l.fn.ids l.ids
