use Rattle.std.proofs.Common.{take}
use Rattle.mls_lines.specs.PlainRecords.{AreFieldsOf}
use Rattle.mls_lines.proofs.writer.records.fields_at.Given as goal

-- the nodes of the parts so far
abbrev pub invariant-loop-part : goal.invariant-loop-part
invariant-loop-part l = AreFieldsOf l.fields (take l.part-index l.parts) l.nodes
