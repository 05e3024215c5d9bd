use Rattle.std.proofs.Common.{subst, sym}
use Rattle.mls_automaton.specs.declared.automaton.Head.{Head}
use Rattle.mls_automaton.specs.declared.automaton.Polarity.{Polarity}
use Rattle.mls_automaton.specs.Automata.{head_at}
use Rattle.mls_automaton.specs.Models.{HasRisingLabels}
use Rattle.mls_layout.specs.LaidOut.{place_of}
use Rattle.mls_layout.specs.steps.Owned.{AddsOwn}
use Rattle.mls_layout.proofs.PlannedTrees.{extends_none, extends_then}
use Rattle.mls_layout.proofs.OwnNodes.{places_low, states_none, states_next}
use Rattle.mls_layout.proofs.layout.owned.push_own.Goals as goal

pub loop-s-init : goal.loop-s-init
loop-s-init c = record { extends = extends_none c.args.trees.now; adds = states_none (place_of c.args.places.now) c.args.a.now c.args.trees.now c.args.book.now }

pub push_head-requires-clause-labels : goal.push_head-requires-clause-labels
push_head-requires-clause-labels c = subst (λ (h : Head). HasRisingLabels h.fields) (sym c.head.ensures) (c.requires.closed.labels c.loop-s.s)

pub push_head-requires-clause-low : goal.push_head-requires-clause-low
push_head-requires-clause-low c = places_low (place_of c.args.places.now) c.args.trees.now c.loop-s.trees c.loop-s.invariant.extends c.requires.low

pub loop-s-preserved : goal.loop-s-preserved
loop-s-preserved c =
    let place = place_of c.args.places.now in
    record {
      extends = extends_then c.args.trees.now c.loop-s.trees c.push_head.new.trees c.loop-s.invariant.extends c.in_ok-push_head.ensures.extends;
      adds =
          states_next place c.args.a.now c.loop-s.trees c.push_head.new.trees c.loop-s.s c.args.book.now c.loop-s.book c.push_head.new.book c.in_ok-push_head.ensures.extends
          (c.requires.closed.labels c.loop-s.s) c.loop-s.invariant.adds
          (subst (λ (p : Polarity). AddsOwn c.push_head.new.trees place p (head_at c.args.a.now c.loop-s.s) c.loop-s.book c.push_head.new.book) c.polarity.ensures
          (subst (λ (h : Head). AddsOwn c.push_head.new.trees place c.polarity.result h c.loop-s.book c.push_head.new.book) c.head.ensures c.in_ok-push_head.ensures.adds));
    }
