use Rattle.std.proofs.Common.{◌≡◌, inl, inr, ℕ, ◌+◌, ◌<◌, List, [], ◌∷◌, ◌++◌, length, get_or, ap, sym, ◌∙◌, arith, Bool, false, cond}
use Rattle.std.proofs.Math.ListN.{get_or-append}
use Rattle.std.proofs.lemmas.List.{get_or_push, length_push}
use Rattle.mls_book.specs.declared.book.NodeId.{NodeId}
use Rattle.mls_book.proofs.LongerBooks.{below_or_more}
use Rattle.mls_automaton.specs.Automata.{polarity_at}
use Rattle.mls_typenodes.specs.ReadPlaces.{is_in, none_at, states_in_use, used_place}
use Rattle.mls_typenodes.proofs.read_places.read_places.Goals as goal

-- one node more
pushed : (nodes new : List NodeId) (n : ℕ) (bot node : NodeId) (f : ℕ → ℕ) → length nodes ≡ n → ((q : ℕ) → q < n → (get_or nodes q bot).0 ≡ f q) → new ≡ nodes ++ node ∷ [] → node.0 ≡ f n
    → (length new ≡ n + 1) × ((q : ℕ) → q < n + 1 → (get_or new q bot).0 ≡ f q)
pushed nodes new n bot node f many each is last = (
  (let long : length new ≡ length nodes + 1 = ap length is ∙ length_push nodes node in omega (arith, long, many)),
  λ q low. elim (below_or_more q n) [
    | inl before ↦ (let inside : q < length nodes = omega (arith, before, many) in
        ap (λ (xs : List NodeId). (get_or xs q bot).0) is ∙ (ap (λ (x : NodeId). x.0) (get_or-append nodes (node ∷ []) bot q inside) ∙ each q before))
    | inr it ↦ (let more : q ≡ n + it.0 = it.1 in
        let same : q ≡ n = omega (arith, more, low) in
        let end : q ≡ length nodes = omega (arith, same, many) in
        ap (λ (xs : List NodeId). (get_or xs q bot).0) is ∙ (ap (λ (x : NodeId). x.0) (get_or_push nodes node bot q (sym end)) ∙ (last ∙ ap f (omega (arith, same)))))
  ],
)

-- each state has a mark
pub place_of-requires-clause-mark : goal.place_of-requires-clause-mark
place_of-requires-clause-mark c =
    let all : length c.as_slice-all.result.now ≡ length c.in_ok-marks.marks.items = ap length c.as_slice-all.ensures.value in
    let many : length c.in_ok-marks.marks.items ≡ c.len.result = c.in_ok-marks.ensures.size in
    omega (arith, all, many, c.len.ensures.len, c.len-s-end.ensures.len, c.loop-s-test.true)

pub loop-s-preserved : goal.loop-s-preserved
loop-s-preserved c =
    let low : c.loop-s.s < c.len.result = omega (arith, c.len.ensures.len, c.len-s-end.ensures.len, c.loop-s-test.true) in
    let list : c.as_slice.result.now ≡ states_in_use c.args.scheme.now = c.as_slice.ensures ∙ c.in_ok-used.ensures in
    let marked : get_or c.as_slice-all.result.now c.loop-s.s false ≡ is_in (states_in_use c.args.scheme.now) c.loop-s.s =
    ap (λ (xs : List Bool). get_or xs c.loop-s.s false) c.as_slice-all.ensures.value
    ∙ (c.in_ok-marks.ensures.marks c.loop-s.s low ∙ ap (λ (xs : List ℕ). is_in xs c.loop-s.s) list) in
    let node : c.place_of.result.0 ≡ used_place c.args.scheme.now c.args.bot.0 c.args.top.0 c.loop-s.s =
    c.place_of.ensures ∙ (λ i. cond (marked i) c.loop-s.s (none_at c.args.bot.0 c.args.top.0 (polarity_at c.args.scheme.now.automaton c.loop-s.s))) in
    pushed c.loop-s.nodes c.push.new.self c.loop-s.s c.args.bot c.place_of.result (used_place c.args.scheme.now c.args.bot.0 c.args.top.0) c.loop-s.invariant.0 c.loop-s.invariant.1 c.in_ok-push.ensures.ok node
