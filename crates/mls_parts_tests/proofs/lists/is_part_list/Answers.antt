use Rattle.std.proofs.Common.{ℕ, List, take, get_or, sym, subst, rules}
use Rattle.std.specs.Prelude.{IsTrue}
use Rattle.std.specs.Ordering.{nat_cmp}
use Rattle.std.proofs.lemmas.List.{take_all, take_more}
use Rattle.mls_parts.specs.PosedParts.{IsPartList}
use Rattle.mls_layout.specs.steps.Posable.{HasJust}
use Rattle.mls_layout.proofs.KeySets.{just_none, just_more, number_same, number_self}
use Rattle.mls_parts_tests.proofs.TestLists.{list_none, list_more}
use Rattle.mls_parts_tests.proofs.lists.is_part_list.Goals as goal

pub loop-node-init : goal.loop-node-init
loop-node-init c = record {
  list = list_none c.args.nodes.now;
  just = just_none nat_cmp number_same number_self c.new-done.result c.new-done.ensures.empty;
}

pub loop-node-preserved : goal.loop-node-preserved
loop-node-preserved c =
    let xs : List ℕ = c.args.part.now in
    let i : ℕ = c.loop-node.node-index in
    let follows : IsTrue c.may_follow.result = search rules in
    let next = sym (take_more xs i 0 c.loop-node-test.true) in
    record {
      list = subst (IsPartList c.args.nodes.now) next
          (list_more c.args.nodes.now (take i xs) c.loop-node.done (get_or xs i 0) c.loop-node.invariant.list c.loop-node.invariant.just (c.may_follow.ensures follows));
      just = subst (λ (ys : List ℕ). HasJust nat_cmp ys c.insert.new.self) next
          (just_more nat_cmp number_same number_self (take i xs) c.loop-node.done c.insert.new.self (get_or xs i 0) c.loop-node.invariant.just c.in_ok-insert.ensures.updates);
    }

pub returns : goal.returns
returns c = λ yes. subst (IsPartList c.args.nodes.now) (take_all c.loop-node.node-index c.args.part.now c.loop-node-test.false) c.loop-node.invariant.list
