use Rattle.std.proofs.Common.{◌≡◌, ◌∙◌, ℕ, List, Contains, get_or, subst, sym, arith}
use Rattle.std.proofs.lemmas.List.Elements.{Contains-get_or}
use Rattle.mls_automaton.specs.declared.automaton.Polarity.TheVariants.{Positive, Negative}
use Rattle.mls_automaton.proofs.Refusals.{refused, accepted}
use Rattle.mls_solver.proofs.Relating.{take-all}
use Rattle.mls_biunify.specs.steps.Settlement.{AddsEdges, Links, Unlinks}
use Rattle.mls_biunify.proofs.SettledLinks.{linked-none, linked-more, same-state-in, noted_there, unlinked}
use Rattle.mls_biunify.proofs.settlement.link_all.Goals as goal

pub loop-i-init : goal.loop-i-init
loop-i-init c = linked-none c.args.table.now c.args.edges.now c.new-added.result.items c.new-added.ensures.items

pub link-requires-clause-negative : goal.link-requires-clause-negative
link-requires-clause-negative c =
    let x : ℕ × ℕ = get_or c.args.edges.now c.loop-i.i (0, 0) in
    same-state-in c.args.table.now c.loop-i.table c.loop-i.invariant.adds.states c.loop-i.invariant.adds.there Negative x.0 (c.requires x.0 x.1 (Contains-get_or c.args.edges.now c.loop-i.i (0, 0) (omega arith))).0

pub link-requires-clause-positive : goal.link-requires-clause-positive
link-requires-clause-positive c =
    let x : ℕ × ℕ = get_or c.args.edges.now c.loop-i.i (0, 0) in
    same-state-in c.args.table.now c.loop-i.table c.loop-i.invariant.adds.states c.loop-i.invariant.adds.there Positive x.1 (c.requires x.0 x.1 (Contains-get_or c.args.edges.now c.loop-i.i (0, 0) (omega arith))).1

pub unlink_all-requires : goal.unlink_all-requires
unlink_all-requires c =
    noted_there c.args.table.now c.loop-i.table c.link.new.table c.args.edges.now c.as_slice.result.now c.loop-i.added.items c.loop-i.i c.requires c.loop-i.invariant
    (refused c.link.result (AddsEdges c.loop-i.table c.link.new.table (λ n p. ⊥)) (sym c.is_err.ensures.value ∙ c.if-is_err.true) c.link.ensures.err)
    (c.as_slice.ensures.value ∙ refused c.link.result (c.link.new.added.items ≡ c.loop-i.added.items) (sym c.is_err.ensures.value ∙ c.if-is_err.true) c.link.ensures.noted)

pub loop-i-preserved : goal.loop-i-preserved
loop-i-preserved c =
    let x : ℕ × ℕ = get_or c.args.edges.now c.loop-i.i (0, 0) in
    linked-more c.args.table.now c.loop-i.table c.link.new.table c.args.edges.now c.loop-i.i c.loop-i.added.items c.link.new.added.items (omega arith) c.loop-i.invariant
    (accepted c.link.result (Links c.loop-i.table c.link.new.table c.loop-i.added.items c.link.new.added.items x.0 x.1) (sym c.is_err.ensures.value ∙ c.if-is_err.false) c.link.ensures.ok)

pub returns-then-is_err-clause-err : goal.returns-then-is_err-clause-err
returns-then-is_err-clause-err c =
    unlinked c.args.table.now c.loop-i.table c.unlink_all.new.table c.args.edges.now c.loop-i.added.items c.loop-i.i c.loop-i.invariant c.link.new.table
    (refused c.link.result (AddsEdges c.loop-i.table c.link.new.table (λ n p. ⊥)) (sym c.is_err.ensures.value ∙ c.if-is_err.true) c.link.ensures.err)
    (subst (λ (xs : List (ℕ × ℕ)). Unlinks c.link.new.table xs c.unlink_all.new.table) (refused c.link.result (c.link.new.added.items ≡ c.loop-i.added.items) (sym c.is_err.ensures.value ∙ c.if-is_err.true) c.link.ensures.noted)
    (subst (λ (xs : List (ℕ × ℕ)). Unlinks c.link.new.table xs c.unlink_all.new.table) c.as_slice.ensures.value c.unlink_all.ensures))

pub returns-clause-ok : goal.returns-clause-ok
returns-clause-ok c =
    subst (λ (xs : List (ℕ × ℕ)). AddsEdges c.args.table.now c.loop-i.table (λ n p. Contains xs (n, p))) (take-all c.args.edges.now c.loop-i.i (omega arith)) c.loop-i.invariant.adds
