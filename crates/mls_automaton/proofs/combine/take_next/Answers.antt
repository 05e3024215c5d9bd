use Rattle.std.specs.declared.cmp.Ordering.TheVariants.{Less, Equal, Greater}
use Rattle.mls_automaton.proofs.LeftFields.{left-both, left-first, left-second, next-at, on_ok}
use Rattle.mls_automaton.proofs.combine.take_next.Goals as goal

pub returns-in-Less-clause-merging : goal.returns-in-Less-clause-merging
returns-in-Less-clause-merging c one other rising rising' is =
    let next = next-at c.as_slice.result.now c.as_slice-2.result.now c.args.first.now.items c.args.second.now.items Less c.as_slice.ensures.value c.as_slice-2.ensures.value c.in-Less.ensures in
    on_ok c.take_one.result (λ taken. left-first c.args.polarity one other rising rising' c.args.first.now.items c.args.second.now.items c.args.both.now is taken.0 c.take_one.new.rest.items c.take_one.new.both taken.1 taken.2 next.1) c.take_one.ensures

pub returns-in-Greater-clause-merging : goal.returns-in-Greater-clause-merging
returns-in-Greater-clause-merging c one other rising rising' is =
    let next = next-at c.as_slice.result.now c.as_slice-2.result.now c.args.first.now.items c.args.second.now.items Greater c.as_slice.ensures.value c.as_slice-2.ensures.value c.in-Greater.ensures in
    on_ok c.take_one-in-Greater.result (λ taken. left-second c.args.polarity one other rising rising' c.args.first.now.items c.args.second.now.items c.args.both.now is taken.0 c.take_one-in-Greater.new.rest.items c.take_one-in-Greater.new.both taken.1 taken.2 next.1) c.take_one-in-Greater.ensures

pub returns-in-Equal-clause-merging : goal.returns-in-Equal-clause-merging
returns-in-Equal-clause-merging c one other rising rising' is =
    let next = next-at c.as_slice.result.now c.as_slice-2.result.now c.args.first.now.items c.args.second.now.items Equal c.as_slice.ensures.value c.as_slice-2.ensures.value c.in-Equal.ensures in
    on_ok c.take_two.result (λ taken. left-both c.args.polarity one other rising rising' c.args.first.now.items c.args.second.now.items c.args.both.now is taken.0 taken.1 taken.2 c.take_two.new.first.items c.take_two.new.second.items c.take_two.new.both taken.3 taken.4 taken.5 taken.6 next.2) c.take_two.ensures
