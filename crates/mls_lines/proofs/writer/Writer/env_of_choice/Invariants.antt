use Rattle.mls_lines.specs.Writer.{Lengthens}
use Rattle.mls_lines.proofs.writer.Writer.env_of_choice.Given as goal

-- the nodes of states stay
abbrev pub invariant-loop-part : goal.invariant-loop-part
invariant-loop-part l = Lengthens l.fn.self.laid l.self.laid
