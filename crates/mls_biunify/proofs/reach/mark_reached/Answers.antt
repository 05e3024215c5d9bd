use Rattle.mls_biunify.proofs.reach.mark_reached.Goals as goal

pub returns : goal.returns
returns c = c.in_ok-walk.ensures
