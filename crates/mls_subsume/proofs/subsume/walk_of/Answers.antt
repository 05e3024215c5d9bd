use Rattle.mls_subsume.proofs.Exploring.{state-at}
use Rattle.mls_subsume.proofs.SplitWalks.{split_walk}
use Rattle.mls_subsume.proofs.subsume.walk_of.Goals as goal

pub pairs_with-requires : goal.pairs_with-requires
pairs_with-requires c = λ k low.
    (state-at c.args.general.now c.args.special.now c.requires.general c.requires.special c.args.queue.now.met c.requires.search.leads k low).1.in_range

pub pairs_with-requires-2 : goal.pairs_with-requires-2
pairs_with-requires-2 c = λ k low.
    (state-at c.args.general.now c.args.special.now c.requires.general c.requires.special c.args.queue.now.met c.requires.search.leads k low).1.in_range

pub returns : goal.returns
returns c =
    split_walk c.args.general.now c.args.special.now c.requires.general c.requires.special c.requires.deterministic c.args.queue.now.met c.requires.search c.requires.fine
    c.in_ok-positives.positives c.in_ok-negatives.negatives c.in_ok-positives.ensures c.in_ok-negatives.ensures
