use Rattle.std.proofs.Common.{refl, sym}
use Rattle.mls_allowed.specs.SectionParts.{same}
use Rattle.mls_emit.specs.PlainSections.{so_far}
use Rattle.mls_emit.proofs.AddedParts.{no_last, part_comes}
use Rattle.mls_emit.proofs.KnownNames.{before_same, no_first}
use Rattle.mls_lines.proofs.Growing.{longer_itself}
use Rattle.mls_emit.proofs.derive.section.Draft.add_root.Goals as goal

pub add_part-requires-clause-part : goal.add_part-requires-clause-part
add_part-requires-clause-part c = c.requires.parts.part c.args.root c.in-Some.part.now (sym c.in-Some.ensures.value)

-- a node that is the root of no part is the first part of no let
pub returns-in-None-clause-known : goal.returns-in-None-clause-known
returns-in-None-clause-known c =
    before_same c.args.nodes.now c.args.root c.args.self.now.known c.args.self.now.known refl c.requires.known
    (no_first c.args.nodes.now c.args.root c.args.parts.now c.requires.parts (sym c.in-None.ensures.value))

pub returns-in-None-clause-longer : goal.returns-in-None-clause-longer
returns-in-None-clause-longer c = longer_itself c.args.self.now.book

-- the part has come
pub returns-in-Some-clause-come : goal.returns-in-Some-clause-come
returns-in-Some-clause-come c = λ begun way come.
    part_comes c.add_part.result c.args.nodes.now c.args.read.now begun c.args.root (so_far c.args.self.now) (so_far c.add_part.new.self) c.in-Some.part.now.of_let come
    (λ k is. c.add_part.ensures.first k way is) (λ is. c.add_part.ensures.whole way is)

pub returns-in-None-clause-come : goal.returns-in-None-clause-come
returns-in-None-clause-come c = λ begun way come.
    same come (no_first c.args.nodes.now c.args.root c.args.parts.now c.requires.parts (sym c.in-None.ensures.value)) (no_last c.args.nodes.now c.args.root c.args.parts.now c.requires.parts (sym c.in-None.ensures.value))
