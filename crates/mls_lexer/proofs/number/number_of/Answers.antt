use Rattle.std.proofs.Common.{ap, ◌∙◌, slice_range, Some}
use Rattle.mls_lexer.proofs.Shapes.{is_number-from_shape, digits-from_number}
use Rattle.mls_lexer.proofs.number.number_of.Goals as goal

pub value_of-requires : goal.value_of-requires
value_of-requires c =
    let bytes = slice_range c.args.text.now c.args.token.now.start c.args.token.now.end in
    digits-from_number bytes (is_number-from_shape bytes (c.requires.of_text.bytes ∙ ap Some c.requires.is_number))
