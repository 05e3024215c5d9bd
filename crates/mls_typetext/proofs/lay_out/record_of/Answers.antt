use Rattle.std.proofs.Common.{◌≡◌, ◌++◌, rules, ◌∙◌}
use Rattle.mls_typetext.specs.steps.Laying.{in_order}
use Rattle.mls_typetext.proofs.SortedFields.{sort-by-labels}
use Rattle.mls_typetext.proofs.lay_out.record_of.Goals as goal

pub loop-field-init : goal.loop-field-init
loop-field-init c =
    let sorted : c.sort_by.new.self.items ≡ in_order c.args.fields.items =
    sort-by-labels c.args.fields.items c.sort_by.new.self.items c.in_ok-sort_by.ensures.sorted c.in_ok-sort_by.ensures.stable (λ a r q k. search rules) in
    let came : c.into_iter-field-iterator.result.rest.items ≡ c.sort_by.new.self.items = c.into_iter-field-iterator.ensures.into_iter_gives.0 in
    (tt, tt, (λ i. c.new-all.ensures i ++ came i) ∙ sorted)
