use Rattle.std.proofs.Common.{◌≡◌, ap, sym, subst, All, Contains}
use Rattle.mls_automaton.specs.declared.automaton.Polarity.TheVariants.{Negative}
use Rattle.mls_automaton.specs.Automata.{IsState, flow}
use Rattle.mls_flow.specs.Needs.{IsPair}
use Rattle.mls_flow.proofs.Tabled.{refused, rows-more, rows-same}
use Rattle.mls_flow.proofs.table.all_pairs.Goals as goal
use Rattle.mls_flow.proofs.table.all_pairs.Goals.{then-is_state+in_ok-add_pairs_of, else-is_state}

pub loop-n-preserved : goal.loop-n-preserved
loop-n-preserved c =
    elim c.if-is_state.branch [
      | then-is_state+in_ok-add_pairs_of w ↦
          let same : c.if-is_state.pairs.items ≡ w.add_pairs_of.new.pairs.items = ap (λ v. v.items) w.pairs-is in
          rows-more c.args.a.now c.loop-n.pairs.items c.if-is_state.pairs.items c.loop-n.n
          (subst (All (IsPair c.args.a.now)) (sym same) w.in_ok-add_pairs_of.ensures.each)
          (subst (λ list. All (Contains list) c.loop-n.pairs.items) (sym same) w.in_ok-add_pairs_of.ensures.kept)
          (λ p is_p. subst (λ list. Contains list (flow c.loop-n.n p)) (sym same) (w.in_ok-add_pairs_of.ensures.added p is_p)) c.loop-n.invariant
      | else-is_state w ↦
          rows-same c.args.a.now c.loop-n.pairs.items c.if-is_state.pairs.items c.loop-n.n
          (refused c.is_state.result (IsState c.args.a.now Negative c.loop-n.n) c.is_state.ensures w.if-is_state.false) (ap (λ v. v.items) w.pairs-is) c.loop-n.invariant
    ]
