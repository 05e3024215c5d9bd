-- Rounds of deletions.
--     those_looked                a list that is gone through
--     those_same                  lists of two kinds that are the same
--     those_length, those_all, those_smaller      how long it is, and where all is kept
--     left_first                  what is left
--     left_has                    it has each wanted pair that is not refuted
--     left_last                   what is left when nothing is to be deleted
--     left_inside                 what is left has nodes of the book
use Rattle.std.proofs.Common.{◌≡◌, ◌↔◌, ◌⊎◌, inl, inr, Bool, true, false, ℕ, zero, suc, ◌<◌, ◌≤◌, List, [], ◌∷◌, ◌++◌, ◌+◌, take, length, refl, sym, ap, subst, arith, Option, Some, None, IsSome}
use Rattle.std.specs.Prelude.{◌==◌, All, Contains, get_or, IsTrue}
use Rattle.std.proofs.lemmas.Bool.Decides.{Decides-eqb}
use Rattle.std.proofs.lemmas.List.{take_more}
use Rattle.std.proofs.lemmas.List.Elements.{All-nil, All-cons, Contains-append_left, Contains-append_right, Contains-append_cases}
use Rattle.mls_book.specs.declared.book.Node.{Node}
use Rattle.mls_deriv.specs.declared.derivation.Mode.{Mode}
use Rattle.mls_deriv.specs.declared.derivation.Mode.TheVariants.{Lr, Rl, Pp}
use Rattle.mls_deriv.specs.declared.claim.Pair.{Pair}
use Rattle.mls_deriv.specs.declared.claim.Put.{Put}
use Rattle.mls_deriv.specs.Pairs.{put_at, Claims, IsJustified, same_node}
use Rattle.mls_deriv.proofs.CheckedSubs.{justified_more}
use Rattle.mls_deriv.proofs.ScopedNames.{first_or_later}
use Rattle.mls_pairs.specs.PairLists.{pair_of, IsOutside, IsRefuted, refuted, IsPairList, StaysInside}
use Rattle.mls_pairs.specs.steps.Needs.{IsPlainNode, needs_by, needs_of, or_else, own_needs}
use Rattle.mls_pairs.specs.steps.Rounds.{AreThose, none, kept, gone, AddsKept, IsJustifiedBy, IsLeft, IsWhole}
use Rattle.mls_pairs.proofs.Own.{own_justified, own_more}
use Rattle.mls_pairs.proofs.Needed.{by_needs, Named}
use Rattle.mls_pairs.proofs.Inside.{part_inside}

-- a mode in which both sides are read plainly
abbrev is_plain : Mode → Bool
is_plain Lr = false
is_plain Rl = false
is_plain Pp = true

plain_is : (mode : Mode) → is_plain mode ≡ true → mode ≡ Pp
plain_is Lr e = absurd (cc)
plain_is Rl e = absurd (cc)
plain_is Pp e = refl

compared : (m n : ℕ) → m ≤ n → (m < n) ⊎ (m ≡ n)
compared zero zero low = inr refl
compared zero (suc n) low = inl (omega arith)
compared (suc m) zero low = absurd (omega arith)
compared (suc m) (suc n) low = go (compared m n (omega arith))
  where
    go : (m < n) ⊎ (m ≡ n) → (suc m < suc n) ⊎ (suc m ≡ suc n)
    go (inl h) = inl (omega arith)
    go (inr e) = inr (ap suc e)

-- lists of two kinds that are the same
pub those_same : (P Q : Pair → Type 0) → ((pair : Pair) → P pair ↔ Q pair) → (pairs left : List Pair) → AreThose P pairs left → AreThose Q pairs left
those_same P Q same pairs left none = none
those_same P Q same pairs left (kept {pairs = ps} {left = ls} first one rest) = kept first ((same first).0 one) (those_same P Q same ps ls rest)
those_same P Q same pairs left (gone {pairs = ps} {left = ls} first one rest) = gone first (λ q. one ((same first).1 q)) (those_same P Q same ps ls rest)

module _ (IsOne : Pair → Type 0) where
  those_push : (pairs left : List Pair) (pair : Pair) → IsOne pair → AreThose IsOne pairs left → AreThose IsOne (pairs ++ pair ∷ []) (left ++ pair ∷ [])
  those_push pairs left pair is none = kept pair is none
  those_push pairs left pair is (kept first one rest) = kept first one (those_push _ _ pair is rest)
  those_push pairs left pair is (gone first one rest) = gone first one (those_push _ _ pair is rest)

  those_skip : (pairs left : List Pair) (pair : Pair) → (IsOne pair → ⊥) → AreThose IsOne pairs left → AreThose IsOne (pairs ++ pair ∷ []) left
  those_skip pairs left pair is none = gone pair is none
  those_skip pairs left pair is (kept first one rest) = kept first one (those_skip _ _ pair is rest)
  those_skip pairs left pair is (gone first one rest) = gone first one (those_skip _ _ pair is rest)

  -- one more of a list is looked at
  pub those_looked : (pairs left new : List Pair) (i : ℕ) (d : Pair) (is_kept : Bool) → i < length pairs → IsTrue is_kept ↔ IsOne (get_or pairs i d)
      → AddsKept is_kept (get_or pairs i d) left new → AreThose IsOne (take i pairs) left → AreThose IsOne (take (i + 1) pairs) new
  those_looked pairs left new i d true low exactly adds those =
      subst (λ ps. AreThose IsOne ps new) (sym (take_more pairs i d low))
      (subst (AreThose IsOne (take i pairs ++ get_or pairs i d ∷ [])) (sym (adds.0 refl)) (those_push (take i pairs) left (get_or pairs i d) (exactly.0 refl) those))
  those_looked pairs left new i d false low exactly adds those =
      subst (λ ps. AreThose IsOne ps new) (sym (take_more pairs i d low))
      (subst (AreThose IsOne (take i pairs ++ get_or pairs i d ∷ [])) (sym (adds.1 refl))
      (those_skip (take i pairs) left (get_or pairs i d) (λ h. let e : false ≡ true = exactly.1 h in absurd (cc)) those))

  pub those_length : (pairs left : List Pair) → AreThose IsOne pairs left → length left ≤ length pairs
  those_length pairs left none = omega arith
  those_length pairs left (kept {pairs = ps} {left = ls} first one rest) = let low : length ls ≤ length ps = those_length ps ls rest in omega arith
  those_length pairs left (gone {pairs = ps} {left = ls} first one rest) = let low : length ls ≤ length ps = those_length ps ls rest in omega arith

  -- where nothing is gone, all are of this kind
  pub those_all : (pairs left : List Pair) → AreThose IsOne pairs left → length left ≡ length pairs → All IsOne pairs
  those_all pairs left none same = All-nil IsOne
  those_all pairs left (kept {pairs = ps} {left = ls} first one rest) same = All-cons IsOne first ps one (those_all ps ls rest (let e : suc (length ls) ≡ suc (length ps) = same in omega arith))
  those_all pairs left (gone {pairs = ps} {left = ls} first one rest) same =
      let low : length ls ≤ length ps = those_length ps ls rest in
      absurd (let e : length ls ≡ suc (length ps) = same in omega arith)

  -- else some are gone
  pub those_smaller : (pairs left : List Pair) → AreThose IsOne pairs left → (length left ≡ length pairs → ⊥) → length left < length pairs
  those_smaller pairs left those other = go (compared (length left) (length pairs) (those_length pairs left those))
    where
      go : (length left < length pairs) ⊎ (length left ≡ length pairs) → length left < length pairs
      go (inl h) = h
      go (inr e) = absurd (other e)

  -- those that are gone
  abbrev pub those_gone : (pairs left : List Pair) → AreThose IsOne pairs left → List Pair
  those_gone pairs left none = []
  those_gone pairs left (kept {pairs = ps} {left = ls} first one rest) = those_gone ps ls rest
  those_gone pairs left (gone {pairs = ps} {left = ls} first one rest) = first ∷ those_gone ps ls rest

  later : (x y : Pair) (xs : List Pair) → Contains xs y → Contains (x ∷ xs) y
  later x y xs h = (suc h.0, (let low : h.0 < length xs = h.1 in omega arith), h.2)

  pub gone_is_not : (pairs left : List Pair) (those : AreThose IsOne pairs left) (pair : Pair) → Contains (those_gone pairs left those) pair → (IsOne pair → ⊥) × Contains pairs pair
  gone_is_not pairs left none pair there = absurd (let low : there.0 < 0 = there.1 in omega arith)
  gone_is_not pairs left (kept {pairs = ps} {left = ls} first one rest) pair there =
      let it = gone_is_not ps ls rest pair there in
      (it.0, later first pair ps it.1)
  gone_is_not pairs left (gone {pairs = ps} {left = ls} first one rest) pair there = go (first_or_later first (those_gone ps ls rest) pair there) (gone_is_not ps ls rest pair)
    where
      go : (first ≡ pair) ⊎ Contains (those_gone ps ls rest) pair → (Contains (those_gone ps ls rest) pair → (IsOne pair → ⊥) × Contains ps pair) → (IsOne pair → ⊥) × Contains (first ∷ ps) pair
      go (inl e) inside = (subst (λ q. IsOne q → ⊥) e one, (0, omega arith, e))
      go (inr h) inside =
          let it = inside h in
          (it.0, later first pair ps it.1)

  pub left_or_gone : (pairs left : List Pair) (those : AreThose IsOne pairs left) (pair : Pair) → Contains pairs pair → Contains left pair ⊎ Contains (those_gone pairs left those) pair
  left_or_gone pairs left none pair there = absurd (let low : there.0 < 0 = there.1 in omega arith)
  left_or_gone pairs left (kept {pairs = ps} {left = ls} first one rest) pair there = go (first_or_later first ps pair there) (left_or_gone ps ls rest pair)
    where
      go : (first ≡ pair) ⊎ Contains ps pair → (Contains ps pair → Contains ls pair ⊎ Contains (those_gone ps ls rest) pair) → Contains (first ∷ ls) pair ⊎ Contains (those_gone ps ls rest) pair
      go (inl e) inside = inl (0, omega arith, e)
      go (inr h) inside = either (inside h)
        where
          either : Contains ls pair ⊎ Contains (those_gone ps ls rest) pair → Contains (first ∷ ls) pair ⊎ Contains (those_gone ps ls rest) pair
          either (inl l) = inl (later first pair ls l)
          either (inr g) = inr g
  left_or_gone pairs left (gone {pairs = ps} {left = ls} first one rest) pair there = go (first_or_later first ps pair there) (left_or_gone ps ls rest pair)
    where
      go : (first ≡ pair) ⊎ Contains ps pair → (Contains ps pair → Contains ls pair ⊎ Contains (those_gone ps ls rest) pair) → Contains ls pair ⊎ Contains (first ∷ those_gone ps ls rest) pair
      go (inl e) inside = inr (0, omega arith, e)
      go (inr h) inside = either (inside h)
        where
          either : Contains ls pair ⊎ Contains (those_gone ps ls rest) pair → Contains ls pair ⊎ Contains (first ∷ those_gone ps ls rest) pair
          either (inl l) = inl l
          either (inr g) = inr (later first pair (those_gone ps ls rest) g)

  pub left_there : (pairs left : List Pair) → AreThose IsOne pairs left → (pair : Pair) → Contains left pair → Contains pairs pair
  left_there pairs left none pair there = there
  left_there pairs left (kept {pairs = ps} {left = ls} first one rest) pair there = go (first_or_later first ls pair there) (left_there ps ls rest pair)
    where
      go : (first ≡ pair) ⊎ Contains ls pair → (Contains ls pair → Contains ps pair) → Contains (first ∷ ps) pair
      go (inl e) inside = (0, omega arith, e)
      go (inr h) inside = later first pair ps (inside h)
  left_there pairs left (gone {pairs = ps} {left = ls} first one rest) pair there = later first pair ps (left_there ps ls rest pair there)

module _ (book : List Node) (puts : List Put) (wanted : List Pair) where
  pub left_first : (pairs : List Pair) → IsWhole book puts wanted pairs → IsLeft book puts wanted pairs
  left_first pairs whole = record {
    first = pairs;
    whole = whole;
    own = λ alone pair there own. there;
    gone = [];
    within = λ pair there. there;
    refuted = λ pair there. absurd (let low : there.0 < 0 = there.1 in omega arith);
    either = λ pair there. inl there;
  }

  -- a node read plainly, or not
  plain_or : (pair : Pair) → IsPlainNode pair ⊎ (IsPlainNode pair → ⊥)
  plain_or pair = go (is_plain pair.mode) refl (pair.left == pair.right) refl
    where
      go : (p : Bool) → is_plain pair.mode ≡ p → (e : Bool) → pair.left == pair.right ≡ e → IsPlainNode pair ⊎ (IsPlainNode pair → ⊥)
      go true p true e = inl (plain_is pair.mode p, (Decides-eqb pair.left pair.right).0 e)
      go true p false e = inr (λ h. let yes : pair.left == pair.right ≡ true = (Decides-eqb pair.left pair.right).1 h.1 in absurd (cc))
      go false p e q = inr (λ h. let yes : is_plain pair.mode ≡ true = ap is_plain h.0 in absurd (cc))

  -- what holds by itself is justified by what is left
  own_stays : (pairs : List Pair) (it : IsLeft book puts wanted pairs) → it.whole.alone ≡ true → (pair : Pair) → Contains it.first pair → IsSome (own_needs book pair) → IsJustifiedBy book puts pairs pair
  own_stays pairs it alone pair there some = go (plain_or pair)
    where
      go : IsPlainNode pair ⊎ (IsPlainNode pair → ⊥) → IsJustifiedBy book puts pairs pair
      go (inl same) = same_node same.0 same.1
      go (inr apart) = at (own_needs book pair) refl some
        where
          at : (o : Option (List Pair)) → own_needs book pair ≡ o → IsSome o → IsJustifiedBy book puts pairs pair
          at None e wrong = absurd (cc)
          at (Some own) e some =
              subst (λ ps. IsJustified book ps (Claims pairs) pair.mode pair.left pair.right) (sym (it.whole.none alone))
              (own_justified book (Claims pairs) pair own e
              (λ other inside. it.own alone other
              (it.whole.closed.closed pair other there apart
              (subst (λ b. Contains (needs_by b book (put_at puts) pair) other) (sym alone)
              (subst (λ (p : Option (List Pair)). Contains (or_else p (needs_of book (put_at puts) pair)) other) (sym e) inside)))
              (own_more book pair own e other inside)))

  -- a pair of the list that the list does not justify is refuted
  now_refuted : (pairs : List Pair) (it : IsLeft book puts wanted pairs) (pair : Pair) → Contains pairs pair → (IsJustifiedBy book puts pairs pair → ⊥) → IsRefuted book puts pair
  now_refuted pairs it pair there not_so = refuted it.gone it.refuted unjustified
    where
      -- a node is below itself
      apart : IsPlainNode pair → ⊥
      apart same = not_so (same_node same.0 same.1)

      still : (other : Pair) → Contains (needs_of book (put_at puts) pair) other → (Contains it.gone other → ⊥) → Contains pairs other
      still other needed outside = go (it.either other (it.whole.closed.closed pair other (it.within pair there) apart (named it.whole.alone refl (own_needs book pair) refl)))
        where
          named : (b : Bool) → it.whole.alone ≡ b → (o : Option (List Pair)) → own_needs book pair ≡ o → Contains (needs_by it.whole.alone book (put_at puts) pair) other
          named false e o is = subst (λ b. Contains (needs_by b book (put_at puts) pair) other) (sym e) needed
          named true e None is =
              subst (λ b. Contains (needs_by b book (put_at puts) pair) other) (sym e)
              (subst (λ (p : Option (List Pair)). Contains (or_else p (needs_of book (put_at puts) pair)) other) (sym is) needed)
          named true e (Some own) is = absurd (not_so (own_stays pairs it e pair (it.within pair there) (subst IsSome (sym is) refl)))

          go : Contains pairs other ⊎ Contains it.gone other → Contains pairs other
          go (inl h) = h
          go (inr h) = absurd (outside h)

      unjustified : IsJustified book puts (IsOutside it.gone) pair.mode pair.left pair.right → ⊥
      unjustified h =
          not_so
          (justified_more book puts (Named book puts (IsOutside it.gone) pair.mode pair.left pair.right) (Claims pairs)
          (λ m k l named. still (pair_of m k l) named.1 named.0) pair.mode pair.left pair.right
          (by_needs book puts (IsOutside it.gone) pair.mode pair.left pair.right h))

  -- pairs that are not justified are taken out
  pub left_without : (IsOne : Pair → Type 0) (pairs left : List Pair) → IsLeft book puts wanted pairs → AreThose IsOne pairs left
      → ((pair : Pair) → (IsOne pair → ⊥) → IsJustifiedBy book puts pairs pair → ⊥) → IsLeft book puts wanted left
  left_without IsOne pairs left it those unjustified = record {
    first = it.first;
    whole = it.whole;
    own = λ alone pair there own. own_left alone pair there own (left_or_gone IsOne pairs left those pair (it.own alone pair there own));
    gone = it.gone ++ now;
    within = λ pair there. it.within pair (left_there IsOne pairs left those pair there);
    refuted = λ pair there. all_refuted pair (Contains-append_cases it.gone now pair there);
    either = λ pair there. either pair (it.either pair there);
  }
    where
      now : List Pair
      now = those_gone IsOne pairs left those

      own_left : it.whole.alone ≡ true → (pair : Pair) → Contains it.first pair → IsSome (own_needs book pair) → Contains left pair ⊎ Contains now pair → Contains left pair
      own_left alone pair there own (inl h) = h
      own_left alone pair there own (inr h) =
          let is = gone_is_not IsOne pairs left those pair h in
          absurd (unjustified pair is.0 (own_stays pairs it alone pair there own))

      all_refuted : (pair : Pair) → Contains it.gone pair ⊎ Contains now pair → IsRefuted book puts pair
      all_refuted pair (inl h) = it.refuted pair h
      all_refuted pair (inr h) =
          let is = gone_is_not IsOne pairs left those pair h in
          now_refuted pairs it pair is.1 (unjustified pair is.0)

      either : (pair : Pair) → Contains pairs pair ⊎ Contains it.gone pair → Contains left pair ⊎ Contains (it.gone ++ now) pair
      either pair (inr h) = inr (Contains-append_left it.gone now pair h)
      either pair (inl h) = go (left_or_gone IsOne pairs left those pair h)
        where
          go : Contains left pair ⊎ Contains now pair → Contains left pair ⊎ Contains (it.gone ++ now) pair
          go (inl l) = inl l
          go (inr g) = inr (Contains-append_right it.gone now pair g)

  -- a list with the same pairs
  pub left_same : (pairs others : List Pair) → IsLeft book puts wanted pairs → ((pair : Pair) → Contains pairs pair ↔ Contains others pair) → IsLeft book puts wanted others
  left_same pairs others it same = record {
    first = it.first;
    whole = it.whole;
    own = λ alone pair there own. (same pair).0 (it.own alone pair there own);
    gone = it.gone;
    within = λ pair there. it.within pair ((same pair).1 there);
    refuted = it.refuted;
    either = λ pair there. either pair (it.either pair there);
  }
    where
      either : (pair : Pair) → Contains pairs pair ⊎ Contains it.gone pair → Contains others pair ⊎ Contains it.gone pair
      either pair (inl h) = inl ((same pair).0 h)
      either pair (inr h) = inr h

  pub left_inside : (pairs : List Pair) → IsLeft book puts wanted pairs → StaysInside book (put_at puts) wanted pairs
  left_inside pairs it = part_inside book (put_at puts) wanted it.first pairs it.within it.whole.inside

  -- each wanted pair is left, or refuted
  pub left_has : (pairs : List Pair) → IsLeft book puts wanted pairs → (pair : Pair) → Contains wanted pair → Contains pairs pair ⊎ IsRefuted book puts pair
  left_has pairs it pair there = go (it.either pair (it.whole.closed.has_wanted pair there))
    where
      go : Contains pairs pair ⊎ Contains it.gone pair → Contains pairs pair ⊎ IsRefuted book puts pair
      go (inl h) = inl h
      go (inr h) = inr (it.refuted pair h)

  pub left_last : (pairs left : List Pair) → IsLeft book puts wanted pairs → AreThose (IsJustifiedBy book puts pairs) pairs left → length left ≡ length pairs → IsPairList book puts wanted pairs
  left_last pairs left it those same = record {
    justified = those_all (IsJustifiedBy book puts pairs) pairs left those same;
    has = left_has pairs it;
  }
