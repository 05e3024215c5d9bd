use Rattle.mls_emit.proofs.PlacedNames.{globals_kept, place_more}
use Rattle.mls_emit.proofs.derive.section.Draft.place_global.Goals as goal

pub returns-clause-places : goal.returns-clause-places
returns-clause-places c = λ reads is before.
    place_more reads c.put_global.new.book c.greater-self.result c.args.self.now.globals c.insert.new.self c.args.g c.args.read.now c.in_ok-global.global is c.requires.0 c.in_ok-global.ensures.at c.greater-self.ensures.second
    (globals_kept reads c.args.self.now.book c.put_global.new.book c.args.self.now.variable c.greater-self.result c.args.self.now.globals c.in_ok-global.ensures.longer c.greater-self.ensures.first before) c.in_ok-insert.ensures.updates

-- the type of the name stands behind what was there
pub returns-clause-grown : goal.returns-clause-grown
returns-clause-grown c = record { longer = c.in_ok-global.ensures.longer; closed = c.in_ok-global.ensures.closed; variable = c.greater-self.ensures.first }
