-- A record of one part.
--     child_alone      the root of its part
use Rattle.std.proofs.Common.{◌≡◌, List, [], ◌∷◌, length, map, get_or, ap, arith}
use Rattle.mls_term.specs.declared.term.Part.{Part}
use Rattle.mls_infer.specs.Finished.{child_of}

pub child_alone : (parts : List Part) (part : Part) → length parts ≡ 1 → get_or parts 0 part ≡ part → map child_of parts ≡ part.child ∷ []
child_alone [] part one is = absurd (omega arith)
child_alone (x ∷ []) part one is = ap (λ (y : Part). y.child ∷ []) is
child_alone (x ∷ y ∷ rest) part one is = absurd (omega arith)
