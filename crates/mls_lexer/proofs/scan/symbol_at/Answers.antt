use Rattle.std.proofs.Common.{sym, refl, arith}
use Rattle.mls_lexer.proofs.Pieces.{one_token, two_token, IsLongest-none}
use Rattle.mls_lexer.proofs.scan.symbol_at.Goals as goal
use Rattle.mls_lexer.proofs.scan.symbol_at.Goals.{then-start-text+in_default, else-start-text}

pub returns-in-Some : goal.returns-in-Some
returns-in-Some c =
    (refl, two_token c.args.text.now c.args.start c.requires.in_text c.in-Some.kind c.if-start-text.true c.requires.no_letter c.requires.no_digit (sym c.in-Some.ensures))

pub returns-in-Some-one_byte_symbol : goal.returns-in-Some-one_byte_symbol
returns-in-Some-one_byte_symbol c = (
  refl,
  one_token c.args.text.now c.args.start c.requires.in_text c.in-Some-one_byte_symbol.kind c.requires.no_letter c.requires.no_digit (sym c.in-Some-one_byte_symbol.ensures)
      (λ more. elim c.if-start-text.branch [ then-start-text+in_default w ↦ sym w.in_default.ensures | else-start-text w ↦ absurd (omega arith) ]),
)

pub returns-in-None : goal.returns-in-None
returns-in-None c = IsLongest-none c.args.text.now c.args.start c.requires.in_text c.requires.no_letter c.requires.no_digit (sym c.in-None.ensures)
