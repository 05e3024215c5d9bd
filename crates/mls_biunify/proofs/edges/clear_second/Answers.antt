use Rattle.std.proofs.Common.{ℕ, ◌<◌, get_or, sym, subst}
use Rattle.std.proofs.lemmas.List.Elements.{Contains-get_or}
use Rattle.mls_solver.proofs.Relating.{take-all}
use Rattle.mls_biunify.proofs.IndexedPairs.{cleared-none, cleared-more, cleared-all}
use Rattle.mls_biunify.proofs.edges.clear_second.Goals as goal

pub loop-pair-init : goal.loop-pair-init
loop-pair-init c = cleared-none (λ x. x.1) c.args.pairs.now c.args.sets.now.items

pub clear_set-requires : goal.clear_set-requires
clear_set-requires c =
    let x : ℕ × ℕ = get_or c.args.pairs.now c.loop-pair.pair-index (0, 0) in
    subst (λ k. x.1 < k) (sym c.loop-pair.invariant.same_length)
    (c.requires x.0 x.1 (Contains-get_or c.args.pairs.now c.loop-pair.pair-index (0, 0) c.loop-pair-test.true))

pub loop-pair-preserved : goal.loop-pair-preserved
loop-pair-preserved c =
    cleared-more (λ x. x.1) c.args.pairs.now c.loop-pair.pair-index c.args.sets.now.items c.loop-pair.sets.items c.clear_set.new.sets.items c.loop-pair-test.true c.loop-pair.invariant c.clear_set.ensures

pub returns-clause-clear : goal.returns-clause-clear
returns-clause-clear c n p j it =
    cleared-all (λ x. x.1) c.args.pairs.now c.loop-pair.pair-index c.args.sets.now.items c.loop-pair.sets.items
    (take-all c.args.pairs.now c.loop-pair.pair-index c.loop-pair-test.false) c.loop-pair.invariant (n, p) j it
