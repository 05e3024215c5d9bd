use Rattle.std.proofs.Common.{ℕ, List, Contains, get_or, subst}
use Rattle.std.proofs.lemmas.List.Elements.{Contains-get_or}
use Rattle.mls_biunify.proofs.Collected.{Collected, collected-none, collected-more, collected-all}
use Rattle.mls_biunify.proofs.SettledEdges.{Gives, edges-are, end-there, past-given}
use Rattle.mls_biunify.proofs.settlement.new_edges.Goals as goal

pub loop-end-init : goal.loop-end-init
loop-end-init c = collected-none (Gives c.args.table.now.automaton) (Contains c.new-edges.result.items) c.as_slice-end-items.result.now

pub after-requires : goal.after-requires
after-requires c =
    end-there c.args.table.now c.limit-limit.ensures.is c.args.relation.now c.requires c.in_ok-ends.ends.items c.in_ok-ends.ensures (get_or c.as_slice-end-items.result.now c.loop-end.end-index (0, 0))
    (subst (λ (xs : List (ℕ × ℕ)). Contains xs (get_or c.as_slice-end-items.result.now c.loop-end.end-index (0, 0))) c.as_slice-end-items.ensures.value
    (Contains-get_or c.as_slice-end-items.result.now c.loop-end.end-index (0, 0) c.loop-end-test.true))

pub loop-end-preserved : goal.loop-end-preserved
loop-end-preserved c =
    let end : ℕ × ℕ = get_or c.as_slice-end-items.result.now c.loop-end.end-index (0, 0) in
    collected-more (Gives c.args.table.now.automaton) (Contains c.new-edges.result.items) (Contains c.loop-end.edges.items) (Contains c.push_edges.new.edges.items) c.as_slice-end-items.result.now c.loop-end.end-index (0, 0) c.loop-end-test.true c.loop-end.invariant
    (past-given c.args.table.now.automaton end.0 end.1 c.loop-end.edges.items c.push_edges.new.edges.items c.after.result.now c.as_slice.result.now c.as_slice.ensures.members c.after.ensures.partners c.in_ok-push_edges.ensures)

pub returns : goal.returns
returns c =
    edges-are c.args.table.now.automaton c.args.relation.now c.in_ok-ends.ends.items c.in_ok-ends.ensures c.new-edges.result.items c.loop-end.edges.items c.new-edges.ensures.items
    (subst (Collected (Gives c.args.table.now.automaton) (Contains c.new-edges.result.items) (Contains c.loop-end.edges.items)) c.as_slice-end-items.ensures.value
    (collected-all (Gives c.args.table.now.automaton) (Contains c.new-edges.result.items) (Contains c.loop-end.edges.items) c.as_slice-end-items.result.now c.loop-end.end-index c.loop-end-test.false c.loop-end.invariant))
