use Rattle.std.proofs.Common.{◌≡◌, take}
use Rattle.mls_biunify.specs.Live.{numbers_in}
use Rattle.mls_infer_tests.proofs.tests_of_regions.states_of.Given as goal

abbrev pub invariant-loop-s : goal.invariant-loop-s
invariant-loop-s l = numbers_in l.states.items ≡ take l.s-index l.s-items
