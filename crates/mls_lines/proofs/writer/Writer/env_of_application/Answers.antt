use Rattle.std.proofs.Common.{rules}
use Rattle.std.proofs.lemmas.Result.{on_ok_weaker}
use Rattle.mls_lines.specs.Writer.{Lengthens}
use Rattle.mls_lines.proofs.Lengthening.{lengthens_grown, lengthens_then}
use Rattle.mls_lines.proofs.writer.Writer.env_of_application.Goals as goal

pub returns : goal.returns
returns c =
    let first : Lengthens c.args.self.now.laid c.chained.new.self.laid = search rules in
    on_ok_weaker c.joined.result (λ grown. lengthens_then c.args.self.now.laid c.chained.new.self.laid c.joined.new.self.laid first (lengthens_grown c.chained.new.self c.joined.new.self grown)) c.joined.ensures.grows
