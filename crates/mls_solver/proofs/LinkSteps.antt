-- Places that are linked by their keys, one after another.
use Rattle.std.proofs.Common.{◌≡◌, ◌⊎◌, inl, inr, ℕ, ◌+◌, ◌<◌, ◌≤◌, ◌≢◌, ◌==◌, Bool, true, false, List, [], ◌∷◌, ◌++◌, refl, sym, ap, ◌∙◌, subst, arith, length, get_or}
use Rattle.std.proofs.Math.ListN.{set}
use Rattle.std.proofs.Math.Seq.{get_or-append_seam}
use Rattle.std.proofs.lemmas.Bool.{eqb-true, eqb-false, cases_lt}
use Rattle.std.proofs.lemmas.List.{length-append, length-set, get_or_append_left, get_or-set_other, get_or-set_same, get_or_past}
use Rattle.mls_solver.proofs.Members.{below_or_last}
use Rattle.mls_solver.specs.steps.Links.{LinkTable, IsLatest, AreLinked}

-- no place
pub linked_none : (last before : List ℕ) → ((r : ℕ) → get_or last r 0 ≡ 0) → AreLinked [] (record { last = last; before = before; len = 0 })
linked_none last before zeros = record {
  size = refl;
  latest = λ r low. record {
    low = let is : get_or last r 0 ≡ 0 = zeros r in omega arith;
    here = λ k e. let is : get_or last r 0 ≡ 0 = zeros r in absurd (omega arith);
    none = λ j least low e. absurd (omega arith);
  };
  earlier = λ k low. absurd (omega arith);
}

-- places that come later change nothing before them
pub latest-append : (keys more : List ℕ) (n r at : ℕ) → n ≤ length keys → IsLatest keys n r at → IsLatest (keys ++ more) n r at
latest-append keys more n r at all it = record {
  low = it.low;
  here = λ k e. let low : at ≤ n = it.low in get_or_append_left keys more 0 k (omega arith) ∙ it.here k e;
  none = λ j least low e. it.none j least low (sym (get_or_append_left keys more 0 j (omega arith)) ∙ e);
}

module _ (keys : List ℕ) (t : LinkTable) (are : AreLinked keys t) (key : ℕ) (in_range : key < length t.last) (space : t.len < length t.before) where
  abbrev grown : List ℕ
  grown = keys ++ key ∷ []

  size : length grown ≡ length keys + 1
  size = length-append keys (key ∷ [])

  last_key : get_or grown (length keys) 0 ≡ key
  last_key = get_or-append_seam keys key [] 0

  abbrev last : List ℕ
  last = set t.last key (t.len + 1)

  abbrev before : List ℕ
  before = set t.before t.len (get_or t.last key 0)

  latest_of : (r : ℕ) (b : Bool) → (r == key) ≡ b → r < length t.last → IsLatest grown (length grown) r (get_or last r 0)
  latest_of r true e low =
      let same : r ≡ key = eqb-true r key e in
      let at : get_or last r 0 ≡ t.len + 1 = ap (λ q. get_or last q 0) same ∙ get_or-set_same t.last key (t.len + 1) 0 in_range in
      let all : length grown ≡ length keys + 1 = size in
      let len : t.len ≡ length keys = are.size in
      record {
        low = omega arith;
        here = λ k e. let is : k ≡ length keys = omega arith in ap (λ j. get_or grown j 0) is ∙ (last_key ∙ sym same);
        none = λ j least low e. absurd (omega arith);
      }
  latest_of r false e low =
      let apart : r ≢ key = eqb-false r key e in
      let at : get_or last r 0 ≡ get_or t.last r 0 = get_or-set_other t.last key r (t.len + 1) 0 apart in
      let all : length grown ≡ length keys + 1 = size in
      let old : IsLatest grown (length keys) r (get_or last r 0) = subst (IsLatest grown (length keys) r) (sym at) (latest-append keys (key ∷ []) (length keys) r (get_or t.last r 0) (omega arith) (are.latest r low)) in
      record {
        low = let less : get_or last r 0 ≤ length keys = old.low in omega arith;
        here = old.here;
        none = λ j least low e.
            elim (below_or_last (length keys) j (omega arith)) [
              | inl less ↦ old.none j least less e
              | inr same ↦ apart (sym e ∙ (ap (λ i. get_or grown i 0) same ∙ last_key))
            ];
      }

  earlier_of : (k : ℕ) → (k < length keys) ⊎ (k ≡ length keys) → IsLatest grown k (get_or grown k 0) (get_or before k 0)
  earlier_of k (inl less) =
      let len : t.len ≡ length keys = are.size in
      let apart : k ≢ t.len = λ same. omega arith in
      let at : get_or before k 0 ≡ get_or t.before k 0 = get_or-set_other t.before t.len k (get_or t.last key 0) 0 apart in
      let is : get_or grown k 0 ≡ get_or keys k 0 = get_or_append_left keys (key ∷ []) 0 k less in
      subst (IsLatest grown k (get_or grown k 0)) (sym at)
      (subst (λ r. IsLatest grown k r (get_or t.before k 0)) (sym is)
      (latest-append keys (key ∷ []) k (get_or keys k 0) (get_or t.before k 0) (omega arith) (are.earlier k less)))
  earlier_of k (inr same) =
      let len : t.len ≡ length keys = are.size in
      let is : k ≡ t.len = omega arith in
      let at : get_or before k 0 ≡ get_or t.last key 0 = ap (λ j. get_or before j 0) is ∙ get_or-set_same t.before t.len (get_or t.last key 0) 0 space in
      let last_is : get_or grown k 0 ≡ key = ap (λ j. get_or grown j 0) same ∙ last_key in
      subst (IsLatest grown k (get_or grown k 0)) (sym at)
      (subst (λ r. IsLatest grown k r (get_or t.last key 0)) (sym last_is)
      (subst (λ j. IsLatest grown j key (get_or t.last key 0)) (sym same)
      (latest-append keys (key ∷ []) (length keys) key (get_or t.last key 0) (omega arith) (are.latest key in_range))))

  pub linked_more : AreLinked (keys ++ key ∷ []) (record { last = set t.last key (t.len + 1); before = set t.before t.len (get_or t.last key 0); len = t.len + 1 })
  linked_more = record {
    size = let all : length grown ≡ length keys + 1 = size in let len : t.len ≡ length keys = are.size in omega arith;
    latest = λ r low. latest_of r (r == key) refl (subst (λ k. r < k) (length-set t.last key (t.len + 1)) low);
    earlier = λ k low. let all : length grown ≡ length keys + 1 = size in earlier_of k (below_or_last (length keys) k (omega arith));
  }

-- numbers are made 0 one after another
pub zeros-more : (numbers : List ℕ) (i : ℕ) → i < length numbers → ((r : ℕ) → r < i → get_or numbers r 0 ≡ 0) → (r : ℕ) → r < i + 1 → get_or (set numbers i 0) r 0 ≡ 0
zeros-more numbers i low zeros r below =
    elim (below_or_last i r below) [
      | inl less ↦
          let apart : r ≢ i = λ same. omega arith in
          get_or-set_other numbers i r 0 0 apart ∙ zeros r less
      | inr same ↦ ap (λ j. get_or (set numbers i 0) j 0) same ∙ get_or-set_same numbers i 0 0 low
    ]

pub zeros-all : (numbers : List ℕ) (i : ℕ) → length numbers ≤ i → ((r : ℕ) → r < i → get_or numbers r 0 ≡ 0) → (r : ℕ) → get_or numbers r 0 ≡ 0
zeros-all numbers i all zeros r = go (cases_lt r (length numbers))
  where
    go : (r < length numbers) ⊎ (length numbers ≤ r) → get_or numbers r 0 ≡ 0
    go (inl low) = zeros r (omega arith)
    go (inr high) = get_or_past numbers r 0 high
