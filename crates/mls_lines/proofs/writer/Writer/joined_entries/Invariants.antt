use Rattle.std.proofs.Common.{List, map, take}
use Rattle.std.specs.Prelude.{All}
use Rattle.mls_deriv.specs.declared.derivation.BinderNode.{BinderNode}
use Rattle.mls_lines.specs.Environments.{AreEntries, HasNodes, needed_binder, JoinsIn}
use Rattle.mls_lines.specs.Writer.{Grows, own_node}
use Rattle.mls_lines.proofs.writer.Writer.joined_entries.Given as goal

-- the entries so far
abbrev pub invariant-loop-needed : goal.invariant-loop-needed
invariant-loop-needed l = record {
  grows : Grows l.initial.self l.self;
  entries : (d e : List BinderNode) → All (HasNodes d e) l.all
      → AreEntries (JoinsIn l.self.laid.book (own_node l.initial.self l.view.posing.now) d e) (map needed_binder (take l.needed-index l.all)) l.env;
}
