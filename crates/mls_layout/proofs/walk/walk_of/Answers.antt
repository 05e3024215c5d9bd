use Rattle.std.proofs.Common.{◌≡◌, ◌∙◌, ◌<◌, ◌≤◌, List, length, get_or, sym, ap, subst, rules}
use Rattle.std.specs.Prelude.{ℕ}
use Rattle.std.proofs.lemmas.List.{get_or_default}
use Rattle.mls_subsume.specs.declared.verdict.StatePair.{StatePair}
use Rattle.mls_layout.specs.Walks.{IsPairAlike}
use Rattle.mls_layout.specs.steps.Walking.{IsAlikeIn, Meets}
use Rattle.mls_layout.proofs.MetPairs.{meeting_start, meeting_more, met_all, met_alike}
use Rattle.mls_layout.proofs.walk.walk_of.Goals as goal

abbrev nowhere : StatePair
nowhere = record { general = record { 0 = 0 }; special = record { 0 = 0 } }

pub loop-place-init : goal.loop-place-init
loop-place-init c = record {
  marked = c.in_ok-add_alike.ensures.marked;
  meeting = meeting_start c.args.general.now c.args.special.now c.in_ok-ends.ends c.add_alike.new.self.pairs c.in_ok-ends.ensures
      (subst (λ (old : List StatePair). Meets (IsAlikeIn c.args.general.now.automaton c.args.special.now.automaton c.in_ok-ends.ends) old c.add_alike.new.self.pairs) c.new-met.ensures.pairs c.in_ok-add_alike.ensures.meets);
}

pub returns-then-place-len-clause-alike : goal.returns-then-place-len-clause-alike
returns-then-place-len-clause-alike c = met_alike c.args.general.now c.args.special.now c.loop-place.met.pairs c.loop-place.place c.loop-place.invariant.meeting

pub returns-then-place-len-clause-met : goal.returns-then-place-len-clause-met
returns-then-place-len-clause-met c =
    let over : length c.loop-place.met.pairs ≤ c.loop-place.place = search rules in
    met_all c.args.general.now c.args.special.now c.loop-place.met.pairs c.loop-place.place over c.loop-place.invariant.meeting

pub behind-requires : goal.behind-requires
behind-requires c =
    let pairs : List StatePair = c.loop-place.met.pairs in
    let same : pairs ≡ c.as_slice.result.now = sym c.as_slice.ensures in
    let low : c.loop-place.place < length pairs = search rules in
    subst (λ (ps : List StatePair). IsPairAlike c.args.general.now.automaton c.args.special.now.automaton (get_or ps c.loop-place.place nowhere)) same
    (met_alike c.args.general.now c.args.special.now pairs c.loop-place.place c.loop-place.invariant.meeting c.loop-place.place nowhere low)

pub loop-place-preserved : goal.loop-place-preserved
loop-place-preserved c =
    let pairs : List StatePair = c.loop-place.met.pairs in
    let items : List StatePair = c.as_slice.result.now in
    let place : ℕ = c.loop-place.place in
    let pair : StatePair = get_or items place nowhere in
    let low : place < length pairs = search rules in
    record {
      marked = c.in_ok-add_alike-2.ensures.marked;
      meeting = meeting_more c.args.general.now c.args.special.now pairs c.add_alike-in-loop-place.new.self.pairs place pair c.in_ok-named.named low
          (λ d. get_or_default pairs place d nowhere low ∙ ap (λ (ps : List StatePair). get_or ps place nowhere) (sym c.as_slice.ensures))
          c.loop-place.invariant.meeting c.in_ok-named.ensures c.in_ok-add_alike-2.ensures.meets;
    }
