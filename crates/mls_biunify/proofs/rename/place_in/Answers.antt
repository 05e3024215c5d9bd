use Rattle.mls_biunify.proofs.Renames.{found-place, missing-place}
use Rattle.mls_biunify.proofs.rename.place_in.Goals as goal

pub returns-in-Ok : goal.returns-in-Ok
returns-in-Ok c = found-place c.args.numbers.now c.args.s c.binary_search.result c.in-Ok.place c.in-Ok.is c.requires c.binary_search.ensures.bound c.binary_search.ensures.position

pub returns-in-Err : goal.returns-in-Err
returns-in-Err c = missing-place c.args.numbers.now c.args.s c.binary_search.result c.in-Err.place c.in-Err.is c.requires c.binary_search.ensures.bound c.binary_search.ensures.position
