use Rattle.std.proofs.Common.{rules}
use Rattle.mls_lines.specs.Writer.{Grows}
use Rattle.mls_lines.proofs.Lengthening.{lengthens_grown, lengthens_then}
use Rattle.mls_lines.proofs.writer.Writer.env_of_choice.Goals as goal

pub loop-part-preserved : goal.loop-part-preserved
loop-part-preserved c =
    let grown : Grows c.loop-part.self c.joined.new.self = search rules in
    lengthens_then c.args.self.now.laid c.loop-part.self.laid c.joined.new.self.laid c.loop-part.invariant (lengthens_grown c.loop-part.self c.joined.new.self grown)
