use Rattle.std.proofs.lemmas.Result.{on_ok_weaker}
use Rattle.mls_shape.proofs.Graphs.{added_parents}
use Rattle.mls_shape.proofs.graph.add_parents.Goals as goal

pub returns : goal.returns
returns c =
    on_ok_weaker c.add_holder-2.result
    (added_parents c.args.edge c.args.node c.args.parents.now.items c.add_holder.new.holders.items c.add_holder-2.new.holders.items c.as_slice.result.now c.as_slice-2.result.now
    c.as_slice.ensures c.as_slice-2.ensures c.in_ok-add_holder.ensures)
    c.add_holder-2.ensures
