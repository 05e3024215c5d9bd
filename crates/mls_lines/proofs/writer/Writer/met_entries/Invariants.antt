use Rattle.std.proofs.Common.{List, map, take}
use Rattle.std.specs.Prelude.{All}
use Rattle.mls_deriv.specs.declared.derivation.BinderNode.{BinderNode}
use Rattle.mls_lines.specs.Environments.{AreEntries, HasNodes, needed_binder, MeetsIn}
use Rattle.mls_lines.specs.Writer.{Grows}
use Rattle.mls_lines.proofs.writer.Writer.met_entries.Given as goal

-- the entries so far
abbrev pub invariant-loop-needed : goal.invariant-loop-needed
invariant-loop-needed l = record {
  grows : Grows l.initial.self l.self;
  entries : (d e : List BinderNode) → All (HasNodes d e) l.all
      → AreEntries (MeetsIn l.self.laid.book d e) (map needed_binder (take l.needed-index l.all)) l.env;
}
