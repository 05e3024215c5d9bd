-- What a table says of the pairs that it knows.
--     found-marked, none-marked      a pair by its number
--     pairs-so-far, wanted-known, known-exact, known-below    the table of the pairs that were wanted
--     rows-more, rows-same           all pairs of states
use Rattle.std.proofs.Common.{◌≡◌, ◌⊎◌, inl, inr, ℕ, ◌+◌, ◌<◌, Bool, true, false, List, [], ◌∷◌, ◌++◌, sym, ◌∙◌, subst, arith, length, All, Contains, Some, None}
use Rattle.std.specs.Prelude.{◌↔◌, Option, IsTrue, map}
use Rattle.std.proofs.lemmas.Bool.{cases_eq}
use Rattle.std.proofs.lemmas.List.{get_or_default}
use Rattle.std.proofs.lemmas.List.Elements.{All-append, All-contains, Contains-append_left, Contains-append_right}
use Rattle.mls_automaton.specs.declared.automaton.Flow.{Flow}
use Rattle.mls_automaton.specs.declared.automaton.Polarity.TheVariants.{Positive, Negative}
use Rattle.mls_automaton.specs.Automata.{Automaton, flow, IsState}
use Rattle.mls_automaton.specs.Models.{IsClosed, IsDeterministic}
use Rattle.mls_automaton.proofs.Lists.{All-contained, All-one, Contains-here, Contains-map_back}
use Rattle.mls_flow.specs.declared.standing.Claim.{Claim}
use Rattle.mls_flow.specs.Claims.{IsGreatest, kept_at}
use Rattle.mls_flow.specs.Needs.{AreClaimsOf, Extends, IsNumbered, IsPair, pair_at}
use Rattle.mls_flow.specs.Pairs.{IsAt}
use Rattle.mls_flow.specs.Tables.{IsExactAt, IsExactInBooksAt, OfAllPairs, OfPairs, Table, marked}
use Rattle.mls_flow.proofs.Claimed.{at-marked, claimed, marked-at}
use Rattle.mls_flow.proofs.Exactness.{exact_in_books}
use Rattle.mls_flow.proofs.Numbers.{extends-all, extends-wider, none-all, numbered-kept}

pair-is-at : (list : List Flow) (k n p : ℕ) → k < length list → pair_at list k ≡ flow n p → IsAt list k n p
pair-is-at list k n p low e = (low, get_or_default list k (flow n p) (flow 0 0) low ∙ e)

pub none-marked : (list : List Flow) (marks : List Bool) (n p : ℕ) → ((k : ℕ) → IsAt list k n p → ⊥) → Contains (marked list marks) (flow n p) → ⊥
none-marked list marks n p none there = let it = marked-at list marks (flow n p) there in none it.0 (pair-is-at list it.0 n p it.1.0 it.1.1)

pub found-marked : (list : List Flow) (marks : List Bool) (n p k : ℕ) → IsAt list k n p → ((j : ℕ) → IsAt list j n p → j ≡ k) → (kept_at marks k ≡ true) ↔ Contains (marked list marks) (flow n p)
found-marked list marks n p k at alone = (to, from)
  where
    to : kept_at marks k ≡ true → Contains (marked list marks) (flow n p)
    to e =
        subst (Contains (marked list marks)) (get_or_default list k (flow 0 0) (flow n p) at.0 ∙ at.1) (at-marked list marks k at.0 e)

    from : Contains (marked list marks) (flow n p) → kept_at marks k ≡ true
    from there =
        let it = marked-at list marks (flow n p) there in
        subst (λ j. kept_at marks j ≡ true) (alone it.0 (pair-is-at list it.0 n p it.1.0 it.1.1)) it.1.2

numbered-known : (list : List Flow) (numbers : Option (List ℕ)) (needs : List Flow) → IsNumbered list numbers (Some needs) → All (Contains list) needs
numbered-known list None needs is = absurd is
numbered-known list (Some numbers) needs is =
    subst (All (Contains list)) is.1 (All-contained (Contains list) (map (pair_at list) numbers) (λ f there.
    let it = Contains-map_back (pair_at list) numbers f there in
    let low : it.0 < length list = All-contains (λ k. k < length list) numbers it.0 is.0 it.1 in
    (it.0, low, get_or_default list it.0 f (flow 0 0) low ∙ it.2)))

-- the pairs that were wanted, numbered
module _ (a : Automaton) (wanted : List Flow) (states : All (IsPair a) wanted) (none first : List Flow) (empty : none ≡ []) (numbered : Extends (Contains wanted) none first) where
  pub pairs-so-far : All (IsPair a) first
  pairs-so-far =
      extends-all (IsPair a) none first (subst (All (IsPair a)) (sym empty) (none-all (IsPair a)))
      (extends-wider (Contains wanted) (IsPair a) none first (λ f there. All-contains (IsPair a) wanted f states there) numbered)

  -- and those that they need
  module _ (list : List Flow) (more : Extends (IsPair a) first list) where
    pub all-pairs : All (IsPair a) list
    all-pairs = extends-all (IsPair a) first list pairs-so-far more

    pub wanted-known : (numbers : Option (List ℕ)) → IsNumbered first numbers (Some wanted) → All (Contains list) wanted
    wanted-known numbers is = numbered-known list numbers wanted (numbered-kept (IsPair a) first list more numbers (Some wanted) is)

    module _ (closed : IsClosed a) (single : IsDeterministic a) (claims same-claims : List Claim) (same : same-claims ≡ claims) (are : AreClaimsOf a list claims) (all : length claims ≡ length list)
        (marks : List Bool) (greatest : IsGreatest same-claims marks) where
      abbrev table : Table
      table = record { known = list; flows = marked list marks }

      pub known-exact : (n p : ℕ) → Contains list (flow n p) → IsExactAt a table n p
      known-exact = claimed a closed single list all-pairs claims are all marks (subst (λ cs. IsGreatest cs marks) same greatest)

      pub known-below : (n p : ℕ) → Contains list (flow n p) → IsExactInBooksAt a table n p
      known-below n p there =
          let pair = All-contains (IsPair a) list (flow n p) all-pairs there in
          exact_in_books a closed single table n p pair.0 pair.1 (known-exact n p there)

-- all pairs of states, one more positive state at a time
module _ (a : Automaton) (old now now' : List Flow) (n p : ℕ) where
  abbrev IsRow : List Flow → ℕ → Type 0
  IsRow list end = All (IsPair a) list × All (Contains list) old × ((q : ℕ) → q < end → IsState a Positive q → Contains list (flow n q))

  pub row-more : IsState a Negative n → IsState a Positive p → now' ≡ now ++ flow n p ∷ [] → IsRow now p → IsRow now' (p + 1)
  row-more is_n is_p added row =
      subst (λ list. IsRow list (p + 1)) (sym added) (
        All-append (IsPair a) now (flow n p ∷ []) row.0 (All-one (IsPair a) (flow n p) (is_n, is_p)),
        All-contained (Contains (now ++ flow n p ∷ [])) old (λ f there. Contains-append_left now (flow n p ∷ []) f (All-contains (Contains now) old f row.1 there)),
        λ q low is_q. go q low is_q (cases_eq q p),
      )
    where
      go : (q : ℕ) → q < p + 1 → IsState a Positive q → (q ≡ p) ⊎ (q ≡ p → ⊥) → Contains (now ++ flow n p ∷ []) (flow n q)
      go q low is_q (inl same) = subst (λ r. Contains (now ++ flow n p ∷ []) (flow n r)) (sym same) (Contains-append_right now (flow n p ∷ []) (flow n p) (Contains-here (flow n p) []))
      go q low is_q (inr other) = let low-q : q < p = omega arith in Contains-append_left now (flow n p ∷ []) (flow n q) (row.2 q low-q is_q)

  pub row-same : (IsState a Positive p → ⊥) → now' ≡ now → IsRow now p → IsRow now' (p + 1)
  row-same other-kind same row = subst (λ list. IsRow list (p + 1)) (sym same) (row.0, row.1, λ q low is_q. go q low is_q (cases_eq q p))
    where
      go : (q : ℕ) → q < p + 1 → IsState a Positive q → (q ≡ p) ⊎ (q ≡ p → ⊥) → Contains now (flow n q)
      go q low is_q (inl same) = absurd (other-kind (subst (IsState a Positive) same is_q))
      go q low is_q (inr other) = let low-q : q < p = omega arith in row.2 q low-q is_q

-- and one more negative state
module _ (a : Automaton) (now now' : List Flow) (n : ℕ) where
  abbrev AreRows : List Flow → ℕ → Type 0
  AreRows list end = All (IsPair a) list × ((m p : ℕ) → m < end → IsState a Negative m → IsState a Positive p → Contains list (flow m p))

  pub rows-more : All (IsPair a) now' → All (Contains now') now → ((p : ℕ) → IsState a Positive p → Contains now' (flow n p)) → AreRows now n → AreRows now' (n + 1)
  rows-more each kept added rows = (each, λ m p low is_m is_p. go m p low is_m is_p (cases_eq m n))
    where
      go : (m p : ℕ) → m < n + 1 → IsState a Negative m → IsState a Positive p → (m ≡ n) ⊎ (m ≡ n → ⊥) → Contains now' (flow m p)
      go m p low is_m is_p (inl same) = subst (λ k. Contains now' (flow k p)) (sym same) (added p is_p)
      go m p low is_m is_p (inr other) = let low-m : m < n = omega arith in All-contains (Contains now') now (flow m p) kept (rows.1 m p low-m is_m is_p)

  pub rows-same : (IsState a Negative n → ⊥) → now' ≡ now → AreRows now n → AreRows now' (n + 1)
  rows-same other-kind same rows = subst (λ list. AreRows list (n + 1)) (sym same) (rows.0, λ m p low is_m is_p. go m p low is_m is_p (cases_eq m n))
    where
      go : (m p : ℕ) → m < n + 1 → IsState a Negative m → IsState a Positive p → (m ≡ n) ⊎ (m ≡ n → ⊥) → Contains now (flow m p)
      go m p low is_m is_p (inl same) = absurd (other-kind (subst (IsState a Negative) same is_m))
      go m p low is_m is_p (inr other) = let low-m : m < n = omega arith in rows.1 m p low-m is_m is_p

pub refused : (b : Bool) (P : Type 0) → IsTrue b ↔ P → b ≡ false → P → ⊥
refused b P is e it = let t : b ≡ true = is.1 it in absurd (cc)

-- where all pairs were wanted
pub all-known : (a : Automaton) (Q : ℕ → ℕ → Type 0) (known wanted items : List Flow) → wanted ≡ items → All (Contains known) wanted → OfAllPairs a (λ n p. Contains items (flow n p)) → OfPairs known Q → OfAllPairs a Q
all-known a Q known wanted items same there all each n p is_n is_p =
    each n p (All-contains (Contains known) wanted (flow n p) there (subst (λ list. Contains list (flow n p)) (sym same) (all n p is_n is_p)))
