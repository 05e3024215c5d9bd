use Rattle.std.proofs.Common.{rules, ◌+◌, ◌≡◌, ◌∙◌, ap, subst, sym, List, ℕ, length, [], ◌∷◌, ◌++◌}
use Rattle.mls_automaton.specs.steps.Keeping.{AreKeptTo}
use Rattle.mls_automaton.proofs.KeptNumbers.{kept-skip, kept-more}
use Rattle.mls_automaton.proofs.keep.keep.Goals as goal
use Rattle.mls_automaton.proofs.keep.keep.Goals.{then-marks-s+in_ok-push-2, else-marks-s}

pub loop-s-preserved : goal.loop-s-preserved
loop-s-preserved c =
    let count : c.len.result ≡ length c.loop-s.places.items = search rules in
    let numbers : c.push.new.self.items ≡ c.loop-s.numbers.items ++ length c.loop-s.places.items ∷ [] =
    c.in_ok-push.ensures.items ∙ ap (λ (n : ℕ). c.loop-s.numbers.items ++ n ∷ []) count in
    elim c.if-marks-s.branch [
      | then-marks-s+in_ok-push-2 w ↦
          let places : c.if-marks-s.places.items ≡ c.loop-s.places.items ++ c.loop-s.s ∷ [] = cc (w.places-is, w.in_ok-push-2.ensures.items) in
          subst (λ (xs : List ℕ). AreKeptTo (c.loop-s.s + 1) c.args.marks.now xs c.push.new.self.items) (sym places)
          (subst (λ (xs : List ℕ). AreKeptTo (c.loop-s.s + 1) c.args.marks.now (c.loop-s.places.items ++ c.loop-s.s ∷ []) xs) (sym numbers) (kept-more c.loop-s.s c.args.marks.now c.loop-s.places.items c.loop-s.numbers.items c.loop-s.invariant w.if-marks-s.true))
      | else-marks-s w ↦
          let places : c.if-marks-s.places.items ≡ c.loop-s.places.items = cc (w.places-is) in
          subst (λ (xs : List ℕ). AreKeptTo (c.loop-s.s + 1) c.args.marks.now xs c.push.new.self.items) (sym places)
          (subst (λ (xs : List ℕ). AreKeptTo (c.loop-s.s + 1) c.args.marks.now c.loop-s.places.items xs) (sym numbers) (kept-skip c.loop-s.s c.args.marks.now c.loop-s.places.items c.loop-s.numbers.items c.loop-s.invariant w.if-marks-s.false))
    ]
