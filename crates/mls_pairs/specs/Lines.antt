-- Put lines and pair lines, and what the table of them has.
use Rattle.std.specs.Prelude.{◌≡◌, ◌↔◌, ℕ, List, map}
use Rattle.mls_deriv.specs.declared.derivation.Mode.{Mode}
use Rattle.mls_deriv.specs.declared.derivation.SectionLine.{SectionLine}
use Rattle.mls_deriv.specs.declared.derivation.SectionLine.TheVariants as line
use Rattle.mls_deriv.specs.declared.table.Table.{Table}
use Rattle.mls_deriv.specs.declared.claim.Pair.{Pair}
use Rattle.mls_deriv.specs.declared.claim.Put.{Put}
use Rattle.mls_deriv.specs.Pairs.{put_at, Claims}
use Rattle.mls_deriv.specs.inner.Tables.{Holds, put_in}

abbrev pub put_line : Put → SectionLine
put_line put = line.Put put.variable (record { 0 = put.node })

abbrev pub pair_line : Pair → SectionLine
pair_line pair = line.Pair pair.mode (record { 0 = pair.left }) (record { 0 = pair.right })

abbrev pub put_lines : List Put → List SectionLine
put_lines puts = map put_line puts

abbrev pub pair_lines : List Pair → List SectionLine
pair_lines pairs = map pair_line pairs

-- the table has these pairs and these nodes of variables
pub record IsTable (puts : List Put) (pairs : List Pair) (table : Table) : Type 0 where
  pub holds : (mode : Mode) (i j : ℕ) → Holds table mode i j ↔ Claims pairs mode i j
  pub put : (x : ℕ) → put_in table x ≡ put_at puts x
