use Rattle.std.proofs.Common.{arith}
use Rattle.mls_biunify.proofs.Filling.{signed-none, signing-there, signing-empty, signing-unnamed, signing-unlinked, signed-more, signed-all}
use Rattle.mls_biunify.proofs.absorb.set_polarities.Goals as goal

pub loop-i-init : goal.loop-i-init
loop-i-init c = signed-none c.args.table.now c.args.a.now c.args.numbers.now c.requires.count c.requires.rises c.requires.loose c.requires.empty

pub set_polarity-requires-clause-there : goal.set_polarity-requires-clause-there
set_polarity-requires-clause-there c = signing-there c.args.table.now c.args.a.now c.args.numbers.now c.requires.count c.requires.rises c.requires.loose c.requires.empty c.loop-i.i c.loop-i.table (omega arith) c.loop-i.invariant

pub set_polarity-requires-clause-empty : goal.set_polarity-requires-clause-empty
set_polarity-requires-clause-empty c = signing-empty c.args.table.now c.args.a.now c.args.numbers.now c.requires.count c.requires.rises c.requires.loose c.requires.empty c.loop-i.i c.loop-i.table (omega arith) c.loop-i.invariant

pub set_polarity-requires-clause-unnamed : goal.set_polarity-requires-clause-unnamed
set_polarity-requires-clause-unnamed c = signing-unnamed c.args.table.now c.args.a.now c.args.numbers.now c.requires.count c.requires.rises c.requires.loose c.requires.empty c.loop-i.i c.loop-i.table (omega arith) c.loop-i.invariant c.limit-limit.ensures.is

pub set_polarity-requires-clause-unlinked : goal.set_polarity-requires-clause-unlinked
set_polarity-requires-clause-unlinked c = signing-unlinked c.args.table.now c.args.a.now c.args.numbers.now c.requires.count c.requires.rises c.requires.loose c.requires.empty c.loop-i.i c.loop-i.table (omega arith) c.loop-i.invariant

pub loop-i-preserved : goal.loop-i-preserved
loop-i-preserved c = signed-more c.args.table.now c.args.a.now c.args.numbers.now c.requires.count c.requires.rises c.requires.loose c.requires.empty c.loop-i.i c.loop-i.table (omega arith) c.loop-i.invariant c.set_polarity.new.self c.polarity.result c.polarity.ensures c.set_polarity.ensures

pub returns : goal.returns
returns c = signed-all c.args.table.now c.args.a.now c.args.numbers.now c.requires.count c.requires.rises c.requires.loose c.requires.empty c.loop-i.i c.loop-i.table (omega arith) c.loop-i.invariant
