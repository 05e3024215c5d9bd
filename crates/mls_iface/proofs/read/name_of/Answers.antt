use Rattle.std.proofs.Common.{ap, ◌∙◌, Some}
use Rattle.mls_lexer.proofs.Shapes.{IsName-from_shape}
use Rattle.mls_iface.proofs.read.name_of.Goals as goal

pub new-requires : goal.new-requires
new-requires c = IsName-from_shape _ (c.requires.of_text.bytes ∙ ap Some c.requires.is_name)
