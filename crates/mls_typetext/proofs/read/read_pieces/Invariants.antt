use Rattle.mls_typetext.proofs.ReadTokens.{HasRead}
use Rattle.mls_typetext.proofs.read.read_pieces.Given as goal

abbrev pub invariant-loop-token : goal.invariant-loop-token
invariant-loop-token l = HasRead l.text l.tokens l.token-index l.reader
