use Rattle.mls_solver.proofs.Answered.{always_err}
use Rattle.mls_biunify.specs.steps.Absorbing.{AreUnfilled}
use Rattle.mls_biunify.proofs.Filling.{edges-fit, heads-fit, filled, unfilled}
use Rattle.mls_biunify.proofs.absorb.fill.Goals as goal

pub link_all-requires : goal.link_all-requires
link_all-requires c =
    edges-fit c.args.table.now c.args.a.now c.requires.closed c.args.numbers.now c.requires.count c.requires.rises c.requires.loose c.requires.empty c.set_polarities.new.table c.set_polarities.ensures
    c.in_ok-edges.edges.items c.as_slice.result.now c.as_slice.ensures.value c.in_ok-edges.ensures

pub store_heads-requires : goal.store_heads-requires
store_heads-requires c =
    heads-fit c.args.table.now c.args.a.now c.requires.closed c.args.numbers.now c.requires.count c.requires.rises c.requires.loose c.requires.empty c.set_polarities.new.table c.set_polarities.ensures
    c.in_ok-edges.edges.items c.as_slice.result.now c.as_slice.ensures.value c.in_ok-edges.ensures c.link_all.new.table c.in_ok-link_all.ensures.ok c.in_ok-heads.heads.items c.in_ok-heads.ensures

pub returns-clause-ok : goal.returns-clause-ok
returns-clause-ok c =
    filled c.args.table.now c.args.a.now c.requires.closed c.args.numbers.now c.requires.count c.requires.rises c.requires.loose c.requires.empty c.set_polarities.new.table c.set_polarities.ensures
    c.in_ok-edges.edges.items c.as_slice.result.now c.as_slice.ensures.value c.in_ok-edges.ensures c.link_all.new.table c.in_ok-link_all.ensures.ok c.in_ok-heads.heads.items c.in_ok-heads.ensures
    c.store_heads.new.table c.store_heads.ensures

pub returns-in_err-link_all-clause-err : goal.returns-in_err-link_all-clause-err
returns-in_err-link_all-clause-err c =
    always_err c.from_residual-in_err-link_all.result (AreUnfilled c.args.table.now c.link_all.new.table c.args.numbers.now)
    (unfilled c.args.table.now c.args.a.now c.requires.closed c.args.numbers.now c.requires.count c.requires.rises c.requires.loose c.requires.empty c.set_polarities.new.table c.set_polarities.ensures
    c.link_all.new.table c.in_err-link_all.ensures.err)
