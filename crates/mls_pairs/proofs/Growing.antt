-- How a list grows by the pairs that the rules name.
--     found_there, found_new, found_none, found_next  a pair that is there, a new one, and pairs after pairs
--     growing_first, growing_next, growing_last      the loop over the list
use Rattle.std.proofs.Common.{◌≡◌, ◌⊎◌, inl, inr, ℕ, zero, suc, ◌<◌, ◌≤◌, Bool, List, [], ◌∷◌, ◌++◌, ◌+◌, take, length, refl, sym, ap, ◌∙◌, subst, arith, Option, Some, append-nil, append_assoc}
use Rattle.std.specs.Prelude.{All, Contains, get_or}
use Rattle.std.proofs.lemmas.List.Elements.{All-nil, All-append, All-contains, Contains-append_left, Contains-append_right, Contains-append_cases, Contains-push}
use Rattle.std.proofs.lemmas.List.{get_or_default, take_more}
use Rattle.mls_book.specs.declared.book.Node.{Node}
use Rattle.mls_book.specs.Books.{IsClosed}
use Rattle.mls_deriv.specs.declared.derivation.Mode.{Mode}
use Rattle.mls_deriv.specs.declared.claim.Pair.{Pair}
use Rattle.mls_deriv.specs.Pairs.{Claims}
use Rattle.mls_deriv.specs.declared.table.Table.{Table}
use Rattle.mls_deriv.specs.inner.Tables.{AddsPair, Holds, put_in}
use Rattle.mls_deriv.proofs.ScopedNames.{first_or_later}
use Rattle.mls_pairs.specs.declared.found.Found.{Found}
use Rattle.mls_pairs.specs.PairLists.{pair_of, IsInside}
use Rattle.mls_pairs.specs.steps.Needs.{IsPlainNode, needs_by}
use Rattle.mls_pairs.specs.steps.Growth.{IsFound, Finds, FindsNeeds, IsGathered, IsClosedList, IsGrowing}
use Rattle.mls_pairs.proofs.Inside.{all_there, needs_inside}

-- the only pair of a list
only : (x y : Pair) → Contains (x ∷ []) y → x ≡ y
only x y there = go (first_or_later x [] y there)
  where
    go : (x ≡ y) ⊎ Contains [] y → x ≡ y
    go (inl e) = e
    go (inr h) = absurd (let low : h.0 < 0 = h.1 in omega arith)

-- a pair that is marked
pub found_there : (before : Found) (table : Table) (pair : Pair) → IsFound before → AddsPair pair.mode pair.left pair.right before.table table → Holds before.table pair.mode pair.left pair.right
    → Finds before (record { pairs = before.pairs; table = table }) (pair ∷ [])
found_there before table pair is adds held = record {
  is = λ m k l. (λ h. to m k l ((adds.0 m k l).0 h), λ h. (adds.0 m k l).1 (inl ((is m k l).1 h)));
  more = [];
  behind = sym (append-nil before.pairs);
  only = λ other there. absurd (let low : there.0 < 0 = there.1 in omega arith);
  has = λ other there. subst (Contains before.pairs) (only pair other there) ((is pair.mode pair.left pair.right).0 held);
  puts = adds.1;
}
  where
    to : (m : Mode) (k l : ℕ) → Holds before.table m k l ⊎ ((pair.mode ≡ m) × (pair.left ≡ k) × (pair.right ≡ l)) → Claims before.pairs m k l
    to m k l (inl h) = (is m k l).0 h
    to m k l (inr e) =
        let same : pair ≡ pair_of m k l = λ n. pair_of (e.0 n) (e.1 n) (e.2 n) in
        subst (Contains before.pairs) same ((is pair.mode pair.left pair.right).0 held)

-- a pair that is new
pub found_new : (before : Found) (table : Table) (pairs : List Pair) (pair : Pair) → IsFound before → AddsPair pair.mode pair.left pair.right before.table table → pairs ≡ before.pairs ++ pair ∷ []
    → Finds before (record { pairs = pairs; table = table }) (pair ∷ [])
found_new before table pairs pair is adds all = record {
  is = λ m k l. (λ h. to m k l ((adds.0 m k l).0 h), λ h. (adds.0 m k l).1 (from m k l h));
  more = pair ∷ [];
  behind = all;
  only = λ other there. there;
  has = λ other there. subst (λ ps. Contains ps other) (sym all) (subst (Contains (before.pairs ++ pair ∷ [])) (only pair other there) (Contains-push before.pairs pair));
  puts = adds.1;
}
  where
    to : (m : Mode) (k l : ℕ) → Holds before.table m k l ⊎ ((pair.mode ≡ m) × (pair.left ≡ k) × (pair.right ≡ l)) → Claims pairs m k l
    to m k l (inl h) = subst (λ ps. Claims ps m k l) (sym all) (Contains-append_left before.pairs (pair ∷ []) (pair_of m k l) ((is m k l).0 h))
    to m k l (inr e) =
        let same : pair ≡ pair_of m k l = λ n. pair_of (e.0 n) (e.1 n) (e.2 n) in
        subst (λ ps. Claims ps m k l) (sym all) (subst (Contains (before.pairs ++ pair ∷ [])) same (Contains-push before.pairs pair))

    cases : (m : Mode) (k l : ℕ) → Contains before.pairs (pair_of m k l) ⊎ Contains (pair ∷ []) (pair_of m k l) → Holds before.table m k l ⊎ ((pair.mode ≡ m) × (pair.left ≡ k) × (pair.right ≡ l))
    cases m k l (inl h) = inl ((is m k l).1 h)
    cases m k l (inr h) =
        let same : pair ≡ pair_of m k l = only pair (pair_of m k l) h in
        inr (ap (λ (p : Pair). p.mode) same, ap (λ (p : Pair). p.left) same, ap (λ (p : Pair). p.right) same)

    from : (m : Mode) (k l : ℕ) → Claims pairs m k l → Holds before.table m k l ⊎ ((pair.mode ≡ m) × (pair.left ≡ k) × (pair.right ≡ l))
    from m k l h = cases m k l (Contains-append_cases before.pairs (pair ∷ []) (pair_of m k l) (subst (λ ps. Claims ps m k l) all h))

-- nothing is found
pub found_none : (f : Found) → IsFound f → Finds f f []
found_none f is = record {
  is = is;
  more = [];
  behind = sym (append-nil f.pairs);
  only = λ other there. there;
  has = λ other there. absurd (let low : there.0 < 0 = there.1 in omega arith);
  puts = λ x. refl;
}

-- pairs after pairs
pub found_then : (f g h : Found) (first second : List Pair) → Finds f g first → Finds g h second → Finds f h (first ++ second)
found_then f g h first second one two = record {
  is = two.is;
  more = one.more ++ two.more;
  behind = two.behind ∙ (ap (λ ps. ps ++ two.more) one.behind ∙ append_assoc f.pairs one.more two.more);
  only = λ other there. among other (Contains-append_cases one.more two.more other there);
  has = λ other there. go other (Contains-append_cases first second other there);
  puts = λ x. two.puts x ∙ one.puts x;
}
  where
    among : (other : Pair) → Contains one.more other ⊎ Contains two.more other → Contains (first ++ second) other
    among other (inl there) = Contains-append_left first second other (one.only other there)
    among other (inr there) = Contains-append_right first second other (two.only other there)

    go : (other : Pair) → Contains first other ⊎ Contains second other → Contains h.pairs other
    go other (inl there) = subst (λ ps. Contains ps other) (sym two.behind) (Contains-append_left g.pairs two.more other (one.has other there))
    go other (inr there) = two.has other there

-- one pair more of a list
pub found_next : (f g h : Found) (pairs : List Pair) (i : ℕ) (d : Pair) → i < length pairs → Finds f g (take i pairs)
    → Finds g h (get_or pairs i d ∷ []) → Finds f h (take (i + 1) pairs)
found_next f g h pairs i d low one two =
    subst (Finds f h) (sym (take_more pairs i d low)) (found_then f g h (take i pairs) (get_or pairs i d ∷ []) one two)

-- a place of a list that goes on
pub at_front : (xs ys : List Pair) (k : ℕ) (d : Pair) → k < length xs → get_or (xs ++ ys) k d ≡ get_or xs k d
at_front [] ys k d low = absurd (omega arith)
at_front (x ∷ xs) ys zero d low = refl
at_front (x ∷ xs) ys (suc k) d low = at_front xs ys k d (omega arith)

pub split : (k n : ℕ) → (k < n) ⊎ (n ≤ k)
split k zero = inr (omega arith)
split zero (suc n) = inl (omega arith)
split (suc k) (suc n) = go (split k n)
  where
    go : (k < n) ⊎ (n ≤ k) → (suc k < suc n) ⊎ (suc n ≤ suc k)
    go (inl h) = inl (omega arith)
    go (inr h) = inr (omega arith)

module _ (alone : Bool) (book : List Node) (put : ℕ → Option ℕ) where
  -- one more pair of the list has what the rules name for it
  gathered_next : (f g : Found) (n : ℕ) (pair : Pair) → n < length f.pairs → get_or f.pairs n pair ≡ pair → IsGathered alone book put n f.pairs
      → FindsNeeds alone book put f g pair → IsGathered alone book put (n + 1) g.pairs
  gathered_next f g n pair low is all it k one k_low k_in at apart other needed = go (split k n)
    where
      go : (k < n) ⊎ (n ≤ k) → Contains g.pairs other
      go (inl less) =
          subst (λ ps. Contains ps other) (sym it.finds.behind)
          (Contains-append_left f.pairs it.finds.more other
          (all k one less (omega arith) (sym (at_front f.pairs it.finds.more k one (omega arith)) ∙ (ap (λ ps. get_or ps k one) (sym it.finds.behind) ∙ at)) apart other needed))
      go (inr more) =
          it.finds.has other
          (subst (λ ps. Contains ps other) (sym (it.are (subst (λ p. IsPlainNode p → ⊥) same apart)))
          (subst (λ p. Contains (needs_by alone book put p) other) same needed))
        where
          same : one ≡ pair
          same =
              let is_n : k ≡ n = omega arith in
              sym at
              ∙ (ap (λ ps. get_or ps k one) it.finds.behind
              ∙ (at_front f.pairs it.finds.more k one (omega arith)
              ∙ (ap (λ m. get_or f.pairs m one) is_n
              ∙ (get_or_default f.pairs n one pair low ∙ is))))

  -- behind pairs of nodes of the book stand such pairs
  more_inside : (n : ℕ) (f g : Found) (pairs : List Pair) → Finds f g pairs → All (IsInside n) f.pairs → All (IsInside n) pairs → All (IsInside n) g.pairs
  more_inside n f g pairs finds first all =
      subst (All (IsInside n)) (sym finds.behind)
      (All-append (IsInside n) f.pairs finds.more first (all_there (IsInside n) finds.more (λ pair there. All-contains (IsInside n) pairs pair all (finds.only pair there))))

  pub growing_first : (wanted : List Pair) (f g : Found) → f.pairs ≡ [] → Finds f g wanted → ((x : ℕ) → put_in f.table x ≡ put x) → IsGrowing alone book put wanted 0 g
  growing_first wanted f g empty finds puts = record {
    is = finds.is;
    has_wanted = finds.has;
    gathered = λ k pair low. absurd (omega arith);
    inside = λ closed low all. more_inside (length book) f g wanted finds (subst (All (IsInside (length book))) (sym empty) (All-nil (IsInside (length book)))) all;
    puts = λ x. finds.puts x ∙ puts x;
  }

  pub growing_next : (wanted : List Pair) (f g : Found) (n : ℕ) (pair : Pair) → n < length f.pairs → get_or f.pairs n pair ≡ pair → IsGrowing alone book put wanted n f
      → FindsNeeds alone book put f g pair → IsGrowing alone book put wanted (n + 1) g
  growing_next wanted f g n pair low is it more = record {
    is = more.finds.is;
    has_wanted = λ other there. subst (λ ps. Contains ps other) (sym more.finds.behind) (Contains-append_left f.pairs more.finds.more other (it.has_wanted other there));
    gathered = gathered_next f g n pair low is it.gathered more;
    inside = λ closed puts all. next closed puts (it.inside closed puts all);
    puts = λ x. more.finds.puts x ∙ it.puts x;
  }
    where
      next : IsClosed book → ((x m : ℕ) → put x ≡ Some m → m < length book) → All (IsInside (length book)) f.pairs → All (IsInside (length book)) g.pairs
      next closed puts first =
          let own : IsInside (length book) pair = All-contains (IsInside (length book)) f.pairs pair first (n, low, is) in
          more_inside (length book) f g more.needs more.finds first
          (all_there (IsInside (length book)) more.needs (λ other there. All-contains (IsInside (length book)) (needs_by alone book put pair) other
          (needs_inside book put closed puts pair own alone) (more.named other there)))

  pub growing_last : (wanted : List Pair) (f : Found) (n : ℕ) → length f.pairs ≤ n → IsGrowing alone book put wanted n f → IsClosedList alone book put wanted f.pairs
  growing_last wanted f n all it = record {
    has_wanted = it.has_wanted;
    closed = λ pair other there apart needed. it.gathered there.0 pair (let low : there.0 < length f.pairs = there.1 in omega arith) there.1 there.2 apart other needed;
  }

  -- a pair that needs others, and one that needs none
  pub needs_found : (f g : Found) (pair : Pair) → Finds f g (needs_by alone book put pair) → FindsNeeds alone book put f g pair
  needs_found f g pair finds = record { needs = needs_by alone book put pair; finds = finds; are = λ apart. refl; named = λ other there. there }

  pub none_needed : (f : Found) (pair : Pair) → IsFound f → IsPlainNode pair → FindsNeeds alone book put f f pair
  none_needed f pair is same = record { needs = []; finds = found_none f is; are = λ apart. absurd (apart same); named = λ other there. absurd (let low : there.0 < 0 = there.1 in omega arith) }
