use Rattle.std.proofs.Common.{◌≡◌, ◌++◌, length}
use Rattle.std.specs.Prelude.{All}
use Rattle.std.specs.List.{flat_map}
use Rattle.mls_deriv.specs.Spellings.{line_text}
use Rattle.mls_deriv.specs.Forms.{IsLineForm}
use Rattle.mls_deriv.specs.Texts.{none_given, AllStand}
use Rattle.mls_deriv.specs.BadLines.{given_by}
use Rattle.mls_deriv.specs.inner.GivenLines.{IsGiven}
use Rattle.mls_deriv.proofs.section.read_lines.Given as goal

-- the lines so far and what is left are the text, and they gave what is noted
abbrev pub invariant-loop-front : goal.invariant-loop-front
invariant-loop-front l = record {
  spelled : l.text ≡ flat_map line_text l.lines ++ l.rest;
  forms : All IsLineForm l.lines;
  stand : AllStand l.nodes none_given l.lines;
  given : IsGiven (given_by none_given l.lines) l.given;
}

abbrev pub decreases-loop-front : goal.decreases-loop-front
decreases-loop-front l = length l.rest
