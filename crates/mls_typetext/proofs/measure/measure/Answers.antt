use Rattle.std.proofs.Common.{◌≡◌, [], ap, ◌∙◌, arith, length, reverse}
use Rattle.std.proofs.lemmas.Grind.{common_steps}
use Rattle.mls_typetext.specs.steps.Measuring.{measure_all, state_of}
use Rattle.mls_typetext.proofs.MeasuredItems.{measure-step, measure-end, IsMeasured, measured-whole}
use Rattle.mls_typetext.proofs.measure.measure.Goals as goal

pub loop-item-preserved : goal.loop-item-preserved
loop-item-preserved c =
    measure-step (state_of c.loop-item.measuring) (state_of c.take.new.self) c.in-Some.item c.loop-item.left.items c.pop.new.self.items _ c.in-Some.ensures.items c.in_ok-take.ensures c.loop-item.invariant

pub returns : goal.returns
returns c = λ t is.
    let none : c.loop-item.left.items ≡ [] = grind (arith, common_steps) in
    let end : state_of c.loop-item.measuring ≡ measure_all (record { names = []; sizes = []; totals = []; pieces = [] }) (reverse c.args.items.items) =
    measure-end (state_of c.loop-item.measuring) c.loop-item.left.items _ none c.loop-item.invariant in
    let it : IsMeasured t c.last_size-size.result (state_of c.last_size-size.new.self) =
    measured-whole t c.args.items.items c.last_size-size.result (state_of c.loop-item.measuring) (state_of c.last_size-size.new.self) end is c.last_size-size.ensures.size c.last_size-size.ensures.others in
    record { pieces = it.pieces; whole = it.whole; count = c.len-2.ensures ∙ ap length it.names }
