use Rattle.mls_shape.proofs.FoundEdges.{partners_low, holders_ok}
use Rattle.mls_shape.proofs.edges.add_partners.Goals as goal

pub add_holders-requires : goal.add_holders-requires
add_holders-requires c =
    partners_low c.args.a.now c.args.holders.now c.requires.closed c.requires.holders c.args.m.0 c.partners.result.now c.as_slice.result.now c.as_slice.ensures.members c.partners.ensures.partners

pub returns : goal.returns
returns c =
    holders_ok c.args.a.now c.args.holders.now c.args.m.0 c.partners.result.now c.as_slice.result.now c.args.targets.now.items c.add_holders.new.targets.items c.add_holders.result
    c.as_slice.ensures.members c.partners.ensures.partners c.add_holders.ensures
