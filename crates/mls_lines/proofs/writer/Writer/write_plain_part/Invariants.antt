use Rattle.std.proofs.Common.{ℕ, List, take}
use Rattle.mls_layout.specs.Parts.{Constraint}
use Rattle.mls_lines.specs.PlainParts.{CanWritePart, ConcludesNothing}
use Rattle.mls_lines.specs.Writer.{Lengthens}
use Rattle.mls_lines.proofs.WrittenNodes.{HaveWritten}
use Rattle.mls_lines.proofs.writer.Writer.write_plain_part.Given as goal

-- the nodes so far are written, and the nodes of states stay
abbrev pub invariant-loop-i : goal.invariant-loop-i
invariant-loop-i l = record {
  lengthens : Lengthens l.initial.self.laid l.self.laid;
  written : (c : Constraint) (parts : ℕ → List ℕ) → CanWritePart l.initial.self.laid l.initial.self.steps l.view.globals.now l.view.firsts.now c l.view.posing.now parts l.nodes l.part
      → ConcludesNothing l.initial.self → HaveWritten l.view.globals.now l.view.firsts.now l.view.known.now.lets c l.view.posing.now parts l.nodes l.initial.self l.self (take l.i-index l.part);
}
