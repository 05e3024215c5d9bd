use Rattle.std.proofs.Common.{ℕ, List, take, get_or, sym, subst}
use Rattle.std.proofs.lemmas.List.{take_all, take_more}
use Rattle.mls_parts.specs.steps.MetBinders.{HasMet}
use Rattle.mls_parts.proofs.PartBinders.{met_more}
use Rattle.mls_parts.proofs.binders.met_in.Goals as goal

pub loop-i-preserved : goal.loop-i-preserved
loop-i-preserved c =
    let xs : List ℕ = c.args.part.now in
    let i : ℕ = c.loop-i.i-index in
    subst (λ (ys : List ℕ). HasMet c.args.nodes.now c.args.lets.now ys c.meet_node.new.met) (sym (take_more xs i 0 c.loop-i-test.true))
    (met_more c.args.nodes.now c.args.lets.now (take i xs) (get_or xs i 0) c.loop-i.met c.meet_node.new.met c.loop-i.invariant c.in_ok-meet_node.ensures)

pub returns : goal.returns
returns c = subst (λ (ys : List ℕ). HasMet c.args.nodes.now c.args.lets.now ys c.loop-i.met) (take_all c.loop-i.i-index c.args.part.now c.loop-i-test.false) c.loop-i.invariant
