use Rattle.std.proofs.Common.{◌+◌, refl, subst, ◌≤◌}
use Rattle.mls_lexer.specs.Tokens.{largest_number}
use Rattle.mls_lexer.proofs.Pieces.{number_digits, number_token, big_number}
use Rattle.mls_lexer.proofs.scan.number_at.Goals as goal

pub value_of-requires : goal.value_of-requires
value_of-requires c = number_digits c.args.text.now c.args.start c.requires.in_text c.digits.result c.digits.ensures

pub returns-in-Some : goal.returns-in-Some
returns-in-Some c = (
  refl,
  number_token c.args.text.now c.args.start c.requires.in_text c.digits.result c.requires.digit c.digits.ensures
      (subst (λ n. n ≤ largest_number) c.in-Some.ensures.0 c.in-Some.ensures.1),
)

pub returns-in-None : goal.returns-in-None
returns-in-None c =
    (refl, (c.args.start + c.digits.result, big_number c.args.text.now c.args.start c.requires.in_text c.digits.result c.requires.digit c.digits.ensures c.in-None.ensures))
