-- The numbers of the nodes of functions and records, state by state.
--     numbers_none, numbers_next      those of one state more
--     all_owned                       those of all states
use Rattle.std.proofs.Common.{◌≡◌, ◌⊎◌, inl, inr, ℕ, suc, ◌+◌, ◌<◌, ◌≤◌, List, [], ◌∷◌, ◌++◌, length, sym, ap, ◌∙◌, subst, arith, Option, None, length-append, add-one}
use Rattle.std.proofs.Math.ListN.{get_or-append}
use Rattle.std.proofs.lemmas.List.{get_or_past, get_or_push}
use Rattle.mls_book.specs.declared.book.NodeId.{NodeId}
use Rattle.mls_book.proofs.LongerBooks.{below_or_more}
use Rattle.mls_automaton.specs.declared.automaton.Head.{Head}
use Rattle.mls_automaton.specs.declared.automaton.Polarity.TheVariants.{Positive}
use Rattle.mls_automaton.specs.declared.automaton.State.{State}
use Rattle.mls_automaton.specs.Automata.{Automaton, empty_head, head_at}
use Rattle.mls_layout.specs.declared.layout.numbers.Owned.{Owned}
use Rattle.mls_layout.specs.steps.OwnNumbers.{AddsNumbers, AreOwned, HasNumbers, function_at, node_in, record_at}
use Rattle.mls_layout.specs.steps.Sources.{own_before, own_count}

pub numbers_none : (a : Automaton) (start : ℕ) (own : Owned) → own.functions ≡ [] → own.records ≡ [] → HasNumbers a start 0 start own
numbers_none a start own functions records = record {
  functions_size = ap length functions;
  records_size = ap length records;
  counted = omega arith;
  functions = λ s low. absurd (omega (arith, low));
  records = λ s low. absurd (omega (arith, low));
}

-- one node more
node_next : (old new : List (Option NodeId)) (n : ℕ) (at : ℕ → Option NodeId) → length old ≡ n → ((s : ℕ) → s < n → node_in old s ≡ at s) → new ≡ old ++ at n ∷ [] → (s : ℕ) → s < suc n → node_in new s ≡ at s
node_next old new n at size are is s low = subst (λ (ns : List (Option NodeId)). node_in ns s ≡ at s) (sym is) (go (below_or_more s n))
  where
    go : (s < n) ⊎ ((j : ℕ) × (s ≡ n + j)) → node_in (old ++ at n ∷ []) s ≡ at s
    go (inl before) = get_or-append old (at n ∷ []) None s (omega (arith, size, before)) ∙ are s before
    go (inr (j, e)) = let same : n ≡ s = omega (arith, low, e) in get_or_push old (at n) None s (size ∙ same) ∙ ap at same

size_next : (old new : List (Option NodeId)) (n : ℕ) (x : Option NodeId) → length old ≡ n → new ≡ old ++ x ∷ [] → length new ≡ suc n
size_next old new n x size is = let all : length (old ++ x ∷ []) ≡ length old + 1 = length-append old (x ∷ []) in let same : length new ≡ length (old ++ x ∷ []) = ap length is in omega (arith, size, all, same)

pub numbers_next : (a : Automaton) (start n end next : ℕ) (old new : Owned) (h : Head) → HasNumbers a start n end old → h ≡ head_at a n → AddsNumbers old new end h → next ≡ end + own_count h → HasNumbers a start (n + 1) next new
numbers_next a start n end next old new h it of_state adds at = subst (λ k. HasNumbers a start k next new) (sym (add-one n)) (record {
  functions_size = size_next old.functions new.functions n (function_at end h) it.functions_size adds.functions;
  records_size = size_next old.records new.records n (record_at end h) it.records_size adds.records;
  counted =
      let first : end ≡ start + own_before a n = it.counted in
      let more : own_count h ≡ own_count (head_at a n) = ap own_count of_state in
      omega (arith, first, at, more);
  functions =
      node_next old.functions new.functions n (λ s. function_at (start + own_before a s) (head_at a s)) it.functions_size it.functions
      (adds.functions ∙ (λ i. old.functions ++ function_at (it.counted i) (of_state i) ∷ []));
  records =
      node_next old.records new.records n (λ s. record_at (start + own_before a s) (head_at a s)) it.records_size it.records
      (adds.records ∙ (λ i. old.records ++ record_at (it.counted i) (of_state i) ∷ []));
})

-- past the end there is no head
past_head : (a : Automaton) (s : ℕ) → length a.states ≤ s → head_at a s ≡ empty_head
past_head a s past = ap (λ (x : State). x.head) (get_or_past a.states s (record { polarity = Positive; head = empty_head }) past)

pub all_owned : (a : Automaton) (start n end : ℕ) (own : Owned) → length a.states ≤ n → HasNumbers a start n end own → AreOwned a start own
all_owned a start n end own all it = record {
  functions = λ s. functions s (below_or_more s n);
  records = λ s. records s (below_or_more s n);
}
  where
    functions : (s : ℕ) → (s < n) ⊎ ((j : ℕ) × (s ≡ n + j)) → node_in own.functions s ≡ function_at (start + own_before a s) (head_at a s)
    functions s (inl low) = it.functions s low
    functions s (inr (j, e)) =
        let size : length own.functions ≡ n = it.functions_size in
        get_or_past own.functions s None (omega (arith, size, e)) ∙ sym (ap (function_at (start + own_before a s)) (past_head a s (omega (arith, all, e))))

    records : (s : ℕ) → (s < n) ⊎ ((j : ℕ) × (s ≡ n + j)) → node_in own.records s ≡ record_at (start + own_before a s) (head_at a s)
    records s (inl low) = it.records s low
    records s (inr (j, e)) =
        let size : length own.records ≡ n = it.records_size in
        get_or_past own.records s None (omega (arith, size, e)) ∙ sym (ap (record_at (start + own_before a s)) (past_head a s (omega (arith, all, e))))
