use Rattle.std.proofs.Common.{◌≡◌, ◌≤◌, length}
use Rattle.mls_deriv.specs.Steps.{HasFrom}
use Rattle.mls_emit.specs.declared.derive.Way.TheVariants.{Plain}
use Rattle.mls_sections.specs.KnownNames.{AreNameTypes}
use Rattle.mls_emit.specs.Derivable.{names_read}
use Rattle.mls_emit.specs.Drafts.{AreGlobalsIn, HavePlaces, KnowsBefore}
use Rattle.mls_emit.specs.PlainSections.{so_far, HasParts}
use Rattle.mls_lines.specs.Found.{HaveFirsts}
use Rattle.mls_emit.proofs.derive.section.write_section.Given as goal

-- the names of the parts so far, those of the environment with their places, the nodes of the type with which the book
-- begins, and the parts that are written plainly
abbrev pub invariant-loop-root : goal.invariant-loop-root
invariant-loop-root l =
    KnowsBefore l.nodes l.draft.known l.root × AreNameTypes (names_read l.declared l.entries) l.draft.known.globals × HasFrom l.draft.book 0 l.read.book
    × AreGlobalsIn (names_read l.declared l.entries) l.draft.book l.draft.variable l.draft.globals × HavePlaces l.nodes l.draft.globals (length l.nodes)
    × (l.draft.way ≡ l.way) × (l.way ≡ Plain → HasParts (names_read l.declared l.entries) l.nodes l.read l.root (so_far l.draft))
    × (l.root ≤ length l.nodes) × HaveFirsts l.draft.known.lets l.draft.firsts
