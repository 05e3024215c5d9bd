use Rattle.std.proofs.Common.{◌≡◌, take}
use Rattle.mls_scheme.specs.steps.Heads.{heads_of}
use Rattle.mls_scheme.proofs.heads.atom_heads.Given as goal

-- the heads so far
abbrev pub invariant-loop-j : goal.invariant-loop-j
invariant-loop-j l = l.heads.items ≡ heads_of l.book (take l.j-index l.atoms)
