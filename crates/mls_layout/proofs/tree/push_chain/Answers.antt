use Rattle.std.proofs.Common.{◌∷◌, List, take, sym, subst}
use Rattle.std.proofs.lemmas.List.{take_more}
use Rattle.mls_book.specs.declared.book.NodeId.{NodeId}
use Rattle.mls_layout.specs.Trees.{AddsTree}
use Rattle.mls_layout.proofs.TreesMade.{chain_first, chain_next}
use Rattle.mls_layout.proofs.tree.push_chain.Goals as goal

pub loop-member-init : goal.loop-member-init
loop-member-init c = chain_first c.args.polarity c.args.book.now c.args.first c.requires.first

pub loop-member-preserved : goal.loop-member-preserved
loop-member-preserved c =
    subst (λ (ms : List NodeId). AddsTree c.args.polarity (c.args.first ∷ ms) c.args.book.now c.push_two.new.book c.in_ok-root.root.0)
    (sym (take_more c.args.rest.now c.loop-member.member-index _ c.loop-member-test.true))
    (chain_next c.args.polarity c.args.first (take c.loop-member.member-index c.args.rest.now) c.args.book.now c.loop-member.book c.push_two.new.book
    c.loop-member.root _ c.in_ok-root.root c.push_two.ensures.is_book c.in_ok-root.ensures.is_new c.loop-member.invariant c.in_ok-root.ensures.book c.in_ok-root.ensures.number)
