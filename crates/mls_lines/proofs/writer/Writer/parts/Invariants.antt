use Rattle.std.proofs.Common.{◌≡◌, ◌<◌, List, take, length}
use Rattle.std.specs.Prelude.{All}
use Rattle.mls_book.specs.declared.book.Field.{Field}
use Rattle.mls_deriv.specs.Steps.{IsRising}
use Rattle.mls_lines.specs.PlainLines.{IsSound}
use Rattle.mls_lines.specs.PlainRecords.{AreFieldsOf, BringsParts}
use Rattle.mls_lines.specs.Writer.{HasLowEnv}
use Rattle.mls_lines.proofs.writer.Writer.parts.Given as goal

-- the parts so far are brought to their fields, and nothing is laid out
abbrev pub invariant-loop-number : goal.invariant-loop-number
invariant-loop-number l = record {
  laid : l.self.laid ≡ l.initial.self.laid;
  brings : (of_record : List Field) → AreFieldsOf of_record l.parts l.fields → IsSound l.initial.self → IsRising l.env
      → HasLowEnv (length l.initial.self.laid.book) l.env → All (λ (field : Field). field.node.0 < length l.initial.self.laid.book) of_record → BringsParts l.initial.self l.self l.env of_record (take l.number l.parts) l.steps;
}
