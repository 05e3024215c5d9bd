use Rattle.std.proofs.Common.{◌≡◌, ◌<◌, List, length, refl, rules, slice_get, sym, Some}
use Rattle.mls_infer.specs.declared.done.Known.{Known}
use Rattle.mls_infer.specs.declared.done.Known.TheVariants as known
use Rattle.mls_infer.proofs.DonePlaces.{found_at, known_low}
use Rattle.mls_infer.proofs.done.Done.take_bound.Goals as goal

pub index_mut-requires : goal.index_mut-requires
index_mut-requires c =
    let low : c.args.i < length c.args.self.now.nodes.items = known_low c.args.self.now.live c.args.self.now.nodes.items c.args.i c.requires.there.0 c.requires.there.1 in
    search rules

pub returns-in-Bound-clause-some : goal.returns-in-Bound-clause-some
returns-in-Bound-clause-some c = record {
  is = found_at c.args.self.now.live c.args.self.now.nodes.items c.args.i c.requires.there.0 c.requires.there.1 (known.Bound c.in-Bound.x) c.index.result.now (sym c.in-Bound.is) c.index.ensures;
  live = refl;
  left = search rules;
}
