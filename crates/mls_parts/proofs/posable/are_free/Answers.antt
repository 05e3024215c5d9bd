use Rattle.std.proofs.Common.{◌≡◌, inl, inr, ℕ, ◌+◌, ◌≤◌, length, arith, ap, subst, sym, rules}
use Rattle.std.proofs.lemmas.List.{get_or_past}
use Rattle.mls_automaton.specs.declared.automaton.Polarity.TheVariants.{Positive}
use Rattle.mls_automaton.specs.declared.automaton.State.{State}
use Rattle.std.specs.Prelude.{IsTrue}
use Rattle.mls_automaton.specs.Automata.{empty_head, head_at, polarity_at}
use Rattle.mls_automaton.specs.declared.automaton.Head.{Head}
use Rattle.mls_automaton.specs.Models.{HasStatesIn}
use Rattle.mls_book.proofs.LongerBooks.{below_or_more}
use Rattle.mls_layout.specs.steps.Posable.{IsFree}
use Rattle.mls_parts.proofs.posable.are_free.Goals as goal

pub loop-s-preserved : goal.loop-s-preserved
loop-s-preserved c k low =
    let free : IsTrue c.is_free_head.result = search rules in
    elim (below_or_more k c.loop-s.s) [
      | inl before ↦ c.loop-s.invariant k before
      | inr more ↦
          let last : k ≡ c.loop-s.s = let e : k ≡ c.loop-s.s + more.0 = more.1 in omega (arith, low, e) in
          subst (λ j. HasStatesIn (λ q. IsFree c.args.states.now) (polarity_at c.args.automaton.now j) (head_at c.args.automaton.now j)) (sym last)
          (subst (λ (h : Head). HasStatesIn (λ q. IsFree c.args.states.now) (polarity_at c.args.automaton.now c.loop-s.s) h) c.head.ensures (c.is_free_head.ensures free (polarity_at c.args.automaton.now c.loop-s.s)))
    ]

pub returns : goal.returns
returns c = λ yes k. elim (below_or_more k c.loop-s.s) [
  | inl before ↦ c.loop-s.invariant k before
  | inr more ↦
      let past : length c.args.automaton.now.states ≤ k = let e : k ≡ c.loop-s.s + more.0 = more.1 in let all = c.len-s-end.ensures.len in omega (arith, e, c.loop-s-test.false, all) in
      none_free k past
]
  where
    none_free : (k : ℕ) → length c.args.automaton.now.states ≤ k → HasStatesIn (λ q. IsFree c.args.states.now) (polarity_at c.args.automaton.now k) (head_at c.args.automaton.now k)
    none_free k past =
        subst (λ (h : Head). HasStatesIn (λ q. IsFree c.args.states.now) (polarity_at c.args.automaton.now k) h)
        (sym (ap (λ (s : State). s.head) (get_or_past c.args.automaton.now.states k (record { polarity = Positive; head = empty_head }) past)))
        (record { function = tt; fields = tt })
