use Rattle.std.proofs.Common.{List, take}
use Rattle.mls_book.specs.declared.book.Field.{Field}
use Rattle.mls_lines.specs.PlainRecords.{AreFieldsOf, JoinsParts}
use Rattle.mls_lines.specs.Writer.{Grows, HaveRisingSteps}
use Rattle.mls_lines.proofs.writer.Writer.env_of_parts.Given as goal

-- what the parts so far are offered, in one environment
abbrev pub invariant-loop-number : goal.invariant-loop-number
invariant-loop-number l = record {
  grows : Grows l.initial.self l.self;
  joins : (of_record : List Field) → AreFieldsOf of_record l.parts l.fields → HaveRisingSteps l.initial.self
      → JoinsParts l.initial.self l.self l.view.posing.now of_record (take l.number l.parts) l.env;
}
