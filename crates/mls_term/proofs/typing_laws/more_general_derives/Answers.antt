use Rattle.mls_term.proofs.Metatheory.{more_general_derives}
use Rattle.mls_term.proofs.typing_laws.more_general_derives.Goals as goal

pub returns : goal.returns
returns c = more_general_derives
