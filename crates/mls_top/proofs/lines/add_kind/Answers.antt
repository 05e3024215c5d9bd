use Rattle.std.proofs.Common.{rules}
use Rattle.mls_top.proofs.Telling.{lacking_added}
use Rattle.mls_top.proofs.lines.add_kind.Goals as goal

pub returns-in_ok-extend_from_slice-in-Lacks-2 : goal.returns-in_ok-extend_from_slice-in-Lacks-2
returns-in_ok-extend_from_slice-in-Lacks-2 c =
    lacking_added c.args.text.now.items c.extend_from_slice-in-Lacks.new.self.items c.extend_from_slice-in-Lacks-2.new.self.items c.in-Lacks.label c.args.kind.now c.bytes.result.now
    (search rules) c.bytes.ensures.bytes c.in_ok-extend_from_slice-in-Lacks.ensures.items c.in_ok-extend_from_slice-in-Lacks-2.ensures.items
