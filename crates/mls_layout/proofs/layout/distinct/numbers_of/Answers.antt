use Rattle.std.proofs.Common.{◌≡◌, ◌≤◌, ◌∙◌, List, length, take, rules, subst}
use Rattle.std.proofs.lemmas.List.{take_all}
use Rattle.mls_book.specs.declared.book.NodeId.{NodeId}
use Rattle.mls_solver.proofs.Settling.{inserted}
use Rattle.mls_layout.proofs.Distinct.{AreNumbersOf, numbers_more}
use Rattle.mls_layout.proofs.layout.distinct.numbers_of.Goals as goal

pub loop-id-preserved : goal.loop-id-preserved
loop-id-preserved c =
    numbers_more c.as_slice-id-items.result.now c.loop-id.id-index _ c.loop-id.numbers.keys c.insert.new.self.keys c.loop-id-test.true
    c.loop-id.invariant (inserted c.loop-id.numbers c.insert.new.self _ c.in_ok-insert.ensures.updates)

pub returns : goal.returns
returns c =
    let all : length c.as_slice-id-items.result.now ≤ c.loop-id.id-index = search rules in
    let ids : take c.loop-id.id-index c.as_slice-id-items.result.now ≡ c.args.ids.now = take_all c.loop-id.id-index c.as_slice-id-items.result.now all ∙ c.as_slice-id-items.ensures in
    subst (λ (ns : List NodeId). AreNumbersOf ns c.loop-id.numbers.keys) ids c.loop-id.invariant
