use Rattle.std.proofs.lemmas.List.Filters.{dedup_is}
use Rattle.mls_biunify.proofs.SettledEdges.{distinct-same, pair_eq}
use Rattle.mls_biunify.proofs.settlement.distinct.Goals as goal

pub returns : goal.returns
returns c =
    distinct-same c.args.ends.items c.sort_unstable.new.self.items c.dedup.new.self.items c.sort_unstable.ensures.permutation
    (dedup_is pair_eq c.sort_unstable.new.self.items c.dedup.new.self.items c.dedup.ensures.filtered)
