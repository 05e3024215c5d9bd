use Rattle.mls_reader.proofs.ReaderEnds.{HasRead}
use Rattle.mls_reader.proofs.read.read.Given as goal

abbrev pub invariant-loop-token : goal.invariant-loop-token
invariant-loop-token l = HasRead l.text l.tokens l.token-index l.reader
