use Rattle.std.proofs.Common.{◌≡◌}
use Rattle.mls_sections.specs.KnownNames.{AreNameTypes}
use Rattle.mls_emit.specs.Derivable.{names_read}
use Rattle.mls_emit.specs.Drafts.{AreGlobalsIn, HavePlaces, IsGrown, KnowGlobals}
use Rattle.mls_emit.proofs.derive.section.Draft.add_globals.Given as goal

-- the names of the nodes so far, with their places; nothing is learned of lets, the book grows, and all else stays
abbrev pub invariant-loop-node : goal.invariant-loop-node
invariant-loop-node l =
    AreNameTypes (names_read l.declared l.entries) l.self.known.globals × KnowGlobals l.nodes l.self.known.globals l.node-index × (l.self.known.lets ≡ l.initial.self.known.lets)
    × IsGrown l.initial.self.book l.self.book l.initial.self.variable l.self.variable × AreGlobalsIn (names_read l.declared l.entries) l.self.book l.self.variable l.self.globals × HavePlaces l.nodes l.self.globals l.node-index
    × (l.self ≡ record l.initial.self { book = l.self.book; known = l.self.known; globals = l.self.globals; variable = l.self.variable })
