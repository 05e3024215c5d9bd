use Rattle.std.proofs.Common.{List, ◌++◌, ap, ◌∙◌, get_or}
use Rattle.mls_book.specs.declared.book.NodeId.{NodeId}
use Rattle.mls_layout.specs.Trees.{IsNodeIn}
use Rattle.mls_layout.specs.steps.Sources.{partners_in}
use Rattle.mls_layout.proofs.Gathering.{gathers_first, gathers_more, gathers_all, gathers_append}
use Rattle.mls_layout.proofs.layout.values.add_partners.Goals as goal

pub loop-k-init : goal.loop-k-init
loop-k-init c = gathers_first (λ k i. IsNodeIn (partners_in c.args.sources.now k) i) c.args.states.now c.args.ids.now

pub loop-k-preserved : goal.loop-k-preserved
loop-k-preserved c =
    gathers_more (λ k i. IsNodeIn (partners_in c.args.sources.now k) i) c.args.states.now c.loop-k.k-index 0 c.args.ids.now c.loop-k.ids c.add_all.new.ids c.loop-k-test.true c.loop-k.invariant
    (gathers_append c.loop-k.ids (partners_in c.args.sources.now (get_or c.args.states.now c.loop-k.k-index 0)) c.add_all.new.ids
    (c.in_ok-add_all.ensures ∙ ap (λ (ids : List NodeId). c.loop-k.ids ++ ids) c.partners.ensures))

pub returns : goal.returns
returns c = gathers_all (λ k i. IsNodeIn (partners_in c.args.sources.now k) i) c.args.states.now c.loop-k.k-index c.args.ids.now c.loop-k.ids c.loop-k-test.false c.loop-k.invariant
