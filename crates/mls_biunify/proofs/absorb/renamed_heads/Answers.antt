use Rattle.std.proofs.Common.{◌≡◌, ◌∙◌, ◌++◌, ◌∷◌, [], length, ap, arith, subst}
use Rattle.mls_automaton.specs.declared.automaton.Head.{Head}
use Rattle.mls_automaton.specs.Embeddings.{renamed_head}
use Rattle.mls_biunify.specs.Live.{number_of}
use Rattle.mls_biunify.specs.steps.Absorbing.{AreRenamedHeads, renamed_at}
use Rattle.mls_biunify.proofs.Filling.{names-numbered, upto-none, upto-more}
use Rattle.mls_biunify.proofs.Renames.{head-order}
use Rattle.mls_biunify.proofs.absorb.renamed_heads.Goals as goal

pub loop-i-init : goal.loop-i-init
loop-i-init c = upto-none (renamed_at c.args.a.now c.args.numbers.now) c.in_ok-heads.heads.items c.in_ok-heads.ensures.items

pub rename_head-requires-clause-order : goal.rename_head-requires-clause-order
rename_head-requires-clause-order c =
    head-order c.args.numbers.now c.head.result.now c.requires.rises (names-numbered c.args.a.now c.args.numbers.now c.requires.closed c.requires.count c.loop-i.i c.head.result.now c.head.ensures)

pub loop-i-preserved : goal.loop-i-preserved
loop-i-preserved c =
    upto-more (renamed_at c.args.a.now c.args.numbers.now) c.loop-i.i c.loop-i.heads.items c.push.new.self.items
    (c.in_ok-push.ensures.items ∙ ap (λ (h : Head). c.loop-i.heads.items ++ (number_of c.args.numbers.now c.loop-i.i, h) ∷ []) (c.in_ok-head.ensures ∙ ap (λ (h : Head). renamed_head (number_of c.args.numbers.now) h) c.head.ensures))
    c.loop-i.invariant

pub returns : goal.returns
returns c =
    let all : c.loop-i.i ≡ length c.args.a.now.states = omega arith in
    subst (λ n. AreRenamedHeads c.args.a.now c.args.numbers.now n c.loop-i.heads.items) all c.loop-i.invariant
