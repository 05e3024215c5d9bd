use Rattle.std.proofs.Common.{ℕ, ◌<◌, List, get_or, All, sym, subst}
use Rattle.mls_biunify.proofs.Filling.{rising-front}
use Rattle.mls_biunify.proofs.absorb.set_of.Goals as goal

pub push-requires : goal.push-requires
push-requires c =
    subst (λ (xs : List ℕ). All (λ j. j < get_or c.args.numbers.now c.loop-s.s-index 0) xs) (sym c.loop-s.invariant)
    (rising-front c.args.numbers.now c.loop-s.s-index c.requires c.loop-s-test.true)
