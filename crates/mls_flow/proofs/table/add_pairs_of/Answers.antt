use Rattle.std.proofs.Common.{◌∙◌, ap, arith}
use Rattle.std.proofs.lemmas.List.Elements.{All-contains_itself}
use Rattle.mls_automaton.specs.declared.automaton.Polarity.TheVariants.{Positive}
use Rattle.mls_automaton.specs.Automata.{IsState}
use Rattle.mls_flow.proofs.Tabled.{refused, row-more, row-same}
use Rattle.mls_flow.proofs.table.add_pairs_of.Goals as goal
use Rattle.mls_flow.proofs.table.add_pairs_of.Goals.{then-is_state+in_ok-push, else-is_state}

pub loop-p-init : goal.loop-p-init
loop-p-init c = (c.requires.each, All-contains_itself c.args.pairs.now.items, λ p low is_p. absurd (omega arith))

pub loop-p-preserved : goal.loop-p-preserved
loop-p-preserved c =
    elim c.if-is_state.branch [
      | then-is_state+in_ok-push w ↦
          row-more c.args.a.now c.args.pairs.now.items c.loop-p.pairs.items c.if-is_state.pairs.items c.args.negative c.loop-p.p
          c.requires.state (c.is_state.ensures.0 w.if-is_state.true) (ap (λ v. v.items) w.pairs-is ∙ w.in_ok-push.ensures.items) c.loop-p.invariant
      | else-is_state w ↦
          row-same c.args.a.now c.args.pairs.now.items c.loop-p.pairs.items c.if-is_state.pairs.items c.args.negative c.loop-p.p
          (refused c.is_state.result (IsState c.args.a.now Positive c.loop-p.p) c.is_state.ensures w.if-is_state.false) (ap (λ v. v.items) w.pairs-is) c.loop-p.invariant
    ]
