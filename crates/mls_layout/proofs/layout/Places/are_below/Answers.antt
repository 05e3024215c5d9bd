use Rattle.mls_layout.proofs.KnownNodes.{all_low}
use Rattle.mls_layout.proofs.layout.Places.are_below.Goals as goal

pub returns : goal.returns
returns c =
    let low = all_low c.args.self.now c.args.number in
    (λ yes_low. low.0 (c.have_low_nodes.ensures.0 yes_low), λ all. c.have_low_nodes.ensures.1 (low.1 all))
