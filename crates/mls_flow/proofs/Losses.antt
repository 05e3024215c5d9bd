-- How claims are lost.
use Rattle.std.proofs.Common.{◌≡◌, ◌⊎◌, inl, inr, ℕ, zero, suc, ◌+◌, ◌<◌, ◌≤◌, Bool, true, false, not, cond, List, [], ◌∷◌, ◌++◌, refl, sym, ap, ◌∙◌, subst, arith, append-nil, length, take, map, get_or, Contains, All}
use Rattle.std.specs.Prelude.{◌||◌, ◌&&◌, Option, Some, None, IsSome, is_some}
use Rattle.std.specs.List.{sum_by, fold}
use Rattle.std.proofs.lemmas.Bool.{cases_eq, cases_Bool}
use Rattle.std.proofs.Math.ListN.{get_or-append}
use Rattle.std.proofs.Math.Seq.{get_or-append_seam}
use Rattle.std.proofs.lemmas.List.{append_assoc, length-append, length-map, length-take-le, get_or_default, take_more, get_or-set_same, get_or-set_other, length-set}
use Rattle.std.proofs.lemmas.List.Sums.{sum_by-set, sum_by-append}
use Rattle.std.proofs.lemmas.List.Elements.{All-contains, Contains-append_left, Contains-append_right, Contains-append_cases}
use Rattle.mls_automaton.proofs.Lists.{Contains-here, Contains-later, Contains-cases, All-contained}
use Rattle.mls_flow.specs.declared.standing.Claim.{Claim}
use Rattle.mls_flow.specs.declared.standing.Left.{Left}
use Rattle.mls_flow.specs.declared.standing.Use.{Use}
use Rattle.mls_flow.specs.Claims.{way, claim_at, no_claim, kept_at, AllIn, Stands, StandTogether, IsGreatest, IsAmong, IsWayAmong}
use Rattle.mls_flow.specs.steps.Losing.{IsIn, IsUse, IsUsesOf, is_open, is_left, without, no_left, left_at, all_of, Losses, close, IsUnsupported, IsLeft, weight, AreLost, AreLosses}

-- where nothing is left
none-first : (a b : Bool) → (a || b) ≡ false → a ≡ false
none-first true b e = e
none-first false b e = refl

none-second : (a b : Bool) → (a || b) ≡ false → b ≡ false
none-second true b e = absurd (cc)
none-second false b e = e

none-three : (a b d : Bool) → a ≡ false → b ≡ false → d ≡ false → (a || (b || d)) ≡ false
none-three true b d e f g = e
none-three false true d e f g = f
none-three false false true e f g = g
none-three false false false e f g = refl

one-of-three : (a b d : Bool) → (a || (b || d)) ≡ true → (a ≡ true) ⊎ ((b ≡ true) ⊎ (d ≡ true))
one-of-three true b d e = inl refl
one-of-three false true d e = inr (inl refl)
one-of-three false false d e = inr (inr e)

nothing-holds : (l : Left) → is_left l ≡ false → l.holds ≡ false
nothing-holds l e = none-first l.holds (l.first || l.second) e

nothing-open : (l : Left) (b : Bool) → is_left l ≡ false → is_open l b ≡ false
nothing-open l false e = none-first l.first l.second (none-second l.holds (l.first || l.second) e)
nothing-open l true e = none-second l.first l.second (none-second l.holds (l.first || l.second) e)

left-ways : (l : Left) → is_left l ≡ true → (l.holds ≡ true) ⊎ ((l.first ≡ true) ⊎ (l.second ≡ true))
left-ways l e = one-of-three l.holds l.first l.second e

and-yes : (b d : Bool) → b ≡ true → d ≡ false → (b && not d) ≡ true
and-yes true false e f = refl
and-yes true true e f = absurd (cc)
and-yes false d e f = absurd (cc)

-- a claim of which nothing is left stands in no set of claims that stand together
pub lost-unsupported : (claims : List Claim) (lefts : List Left) (j : ℕ) → IsLeft claims lefts → j < length claims → is_left (left_at lefts j) ≡ false
    → (kept : ℕ → Bool) → StandTogether claims kept → kept j ≡ true → ⊥
lost-unsupported claims lefts j it low nothing kept together e =
    elim (together j low e) [
      | inl holds ↦
          let no : (left_at lefts j).holds ≡ false = nothing-holds (left_at lefts j) nothing in
          let holds-it : (left_at lefts j).holds ≡ true = it.holds j low ∙ holds in
          absurd (cc)
      | inr lists ↦
          elim lists [
            | inl first ↦ it.absent j low false (nothing-open (left_at lefts j) false nothing) kept together first
            | inr second ↦ it.absent j low true (nothing-open (left_at lefts j) true nothing) kept together second
          ]
    ]

-- nor can a list in which it stands
pub use-unsupported : (claims : List Claim) (lefts : List Left) (j : ℕ) → IsLeft claims lefts → j < length claims → is_left (left_at lefts j) ≡ false
    → (u : Use) → IsUse claims u j → IsUnsupported claims u
use-unsupported claims lefts j it low nothing u is kept together all = go (way (claim_at claims u.claim) u.is_second) is all
  where
    go : (o : Option (List ℕ)) → IsIn o j → AllIn kept o → ⊥
    go None inside all = absurd inside
    go (Some xs) inside all = lost-unsupported claims lefts j it low nothing kept together (All-contains (λ k. kept k ≡ true) xs j all inside)

-- one list less
module _ (claims : List Claim) (s : Losses) (u : Use) (inside : u.claim < length claims) (unsupported : IsUnsupported claims u) (it : IsLeft claims s.left) where
  abbrev l : Left
  l = left_at s.left u.claim

  abbrev next : Losses
  next = close s u

  low : u.claim < length s.left
  low = rw it.same_length inside

  here : left_at next.left u.claim ≡ without u.is_second l
  here = get_or-set_same s.left u.claim (without u.is_second l) no_left low

  elsewhere : (i : ℕ) → (i ≡ u.claim → ⊥) → left_at next.left i ≡ left_at s.left i
  elsewhere i other = get_or-set_other s.left u.claim i (without u.is_second l) no_left other

  without-holds : (b : Bool) (m : Left) → (without b m).holds ≡ m.holds
  without-holds false m = refl
  without-holds true m = refl

  -- what is left behind it was left before
  without-open : (b d : Bool) (m : Left) → is_open (without b m) d ≡ true → is_open m d ≡ true
  without-open false false m e = absurd (cc)
  without-open false true m e = e
  without-open true false m e = e
  without-open true true m e = absurd (cc)

  -- what is gone behind it was gone before, or is the list
  without-gone : (b d : Bool) (m : Left) → is_open (without b m) d ≡ false → (is_open m d ≡ false) ⊎ (d ≡ b)
  without-gone false false m e = inr refl
  without-gone false true m e = inl e
  without-gone true false m e = inl e
  without-gone true true m e = inr refl

  without-this : (b : Bool) (m : Left) → is_open (without b m) b ≡ false
  without-this false m = refl
  without-this true m = refl

  -- a list that is gone stays gone
  pub gone-stays : (i : ℕ) (d : Bool) → is_open (left_at s.left i) d ≡ false → is_open (left_at next.left i) d ≡ false
  gone-stays i d e =
      elim (cases_eq i u.claim) [
        | inl same ↦ elim (cases_Bool (is_open (left_at next.left i) d)) [
          | inl held ↦
              let at : is_open (left_at next.left u.claim) d ≡ true = subst (λ k. is_open (left_at next.left k) d ≡ true) same held in
              let was : is_open l d ≡ true = without-open u.is_second d l (subst (λ m. is_open m d ≡ true) here at) in
              let was-not : is_open l d ≡ false = subst (λ k. is_open (left_at s.left k) d ≡ false) same e in
              absurd (cc)
          | inr absent ↦ absent
        ]
        | inr other ↦ subst (λ m. is_open m d ≡ false) (sym (elsewhere i other)) e
      ]

  pub this-gone : is_open (left_at next.left u.claim) u.is_second ≡ false
  this-gone = subst (λ m. is_open m u.is_second ≡ false) (sym here) (without-this u.is_second l)

  pub left-closed : IsLeft claims next.left
  left-closed = record {
    same_length = length-set s.left u.claim (without u.is_second l) ∙ it.same_length;
    holds = λ i low-i. elim (cases_eq i u.claim) [
      | inl same ↦
          subst (λ k. (left_at next.left k).holds ≡ (claim_at claims k).holds) (sym same)
          (ap (λ (m : Left). m.holds) here ∙ without-holds u.is_second l ∙ it.holds u.claim inside)
      | inr other ↦ ap (λ (m : Left). m.holds) (elsewhere i other) ∙ it.holds i low-i
    ];
    present = λ i low-i d e. elim (cases_eq i u.claim) [
      | inl same ↦
          let at : is_open (left_at next.left u.claim) d ≡ true = subst (λ k. is_open (left_at next.left k) d ≡ true) same e in
          subst (λ k. IsSome (way (claim_at claims k) d)) (sym same) (it.present u.claim inside d (without-open u.is_second d l (subst (λ m. is_open m d ≡ true) here at)))
      | inr other ↦ it.present i low-i d (subst (λ m. is_open m d ≡ true) (elsewhere i other) e)
    ];
    absent = λ i low-i d e. elim (cases_eq i u.claim) [
      | inl same ↦
          let at : is_open (left_at next.left u.claim) d ≡ false = subst (λ k. is_open (left_at next.left k) d ≡ false) same e in
          subst (λ k. IsUnsupported claims (record { claim = k; is_second = d })) (sym same)
          (elim (without-gone u.is_second d l (subst (λ m. is_open m d ≡ false) here at)) [
            | inl was ↦ it.absent u.claim inside d was
            | inr this ↦ subst (λ b. IsUnsupported claims (record { claim = u.claim; is_second = b })) (sym this) unsupported
          ])
      | inr other ↦ it.absent i low-i d (subst (λ m. is_open m d ≡ false) (elsewhere i other) e)
    ];
  }

  -- the lost claims are those of which nothing is left, still
  module _ (lost : AreLost s.left s.lost) where
    abbrev is_new : Bool
    is_new = is_left l && not (is_left (without u.is_second l))

    weighs : (b d : Bool) → (b ≡ false → d ≡ false) → (xs : List ℕ) → cond d 1 0 + length (cond (b && not d) (xs ++ u.claim ∷ []) xs) ≡ cond b 1 0 + length xs
    weighs false false h xs = refl
    weighs false true h xs = let e : true ≡ false = h refl in absurd (cc)
    weighs true false h xs = let e : length (xs ++ u.claim ∷ []) ≡ length xs + 1 = length-append xs (u.claim ∷ []) in omega arith
    weighs true true h xs = refl

    less : is_left l ≡ false → is_left (without u.is_second l) ≡ false
    less e = go u.is_second
      where
        go : (b : Bool) → is_left (without b l) ≡ false
        go false = none-three l.holds false l.second (nothing-holds l e) refl (nothing-open l true e)
        go true = none-three l.holds l.first false (nothing-holds l e) (nothing-open l false e) refl

    pub lost-closed : AreLost next.left next.lost
    lost-closed = record {
      all = λ i low-i e. all i (subst (λ n. i < n) (length-set s.left u.claim (without u.is_second l)) low-i) e;
      each = All-contained Nothing next.lost each;
      count = count;
    }
      where
        Nothing : ℕ → Type 0
        Nothing i = (i < length next.left) × (is_left (left_at next.left i) ≡ false)

        still : (i : ℕ) → (i < length s.left) × (is_left (left_at s.left i) ≡ false) → Nothing i
        still i h =
            let shorter : i < length next.left = subst (λ n. i < n) (sym (length-set s.left u.claim (without u.is_second l))) h.0 in
            elim (cases_eq i u.claim) [
              | inl same ↦
                  let nothing : is_left l ≡ false = subst (λ k. is_left (left_at s.left k) ≡ false) same h.1 in
                  (shorter, subst (λ k. is_left (left_at next.left k) ≡ false) (sym same) (ap is_left here ∙ less nothing))
              | inr other ↦ (shorter, ap is_left (elsewhere i other) ∙ h.1)
            ]

        kept : (b : Bool) (i : ℕ) → Contains s.lost i → Contains (cond b (s.lost ++ u.claim ∷ []) s.lost) i
        kept false i it = it
        kept true i it = Contains-append_left s.lost (u.claim ∷ []) i it

        all : (i : ℕ) → i < length s.left → is_left (left_at next.left i) ≡ false → Contains next.lost i
        all i low-i e =
            elim (cases_Bool (is_left (left_at s.left i))) [
              | inr was ↦ kept is_new i (lost.all i low-i was)
              | inl left ↦
                  elim (cases_eq i u.claim) [
                    | inl same ↦
                        let some-left : is_left l ≡ true = subst (λ k. is_left (left_at s.left k) ≡ true) same left in
                        let no : is_left (without u.is_second l) ≡ false = ap is_left (sym here) ∙ subst (λ k. is_left (left_at next.left k) ≡ false) same e in
                        let is-new : is_new ≡ true = and-yes (is_left l) (is_left (without u.is_second l)) some-left no in
                        subst (λ b. Contains (cond b (s.lost ++ u.claim ∷ []) s.lost) i) (sym is-new)
                        (Contains-append_right s.lost (u.claim ∷ []) i (subst (λ k. Contains (u.claim ∷ []) k) (sym same) (Contains-here u.claim [])))
                    | inr other ↦
                        let no : is_left (left_at s.left i) ≡ false = ap is_left (sym (elsewhere i other)) ∙ e in
                        absurd (cc)
                  ]
            ]

        each-of : (b : Bool) → is_new ≡ b → (i : ℕ) → Contains (cond b (s.lost ++ u.claim ∷ []) s.lost) i → Nothing i
        each-of false is i h = still i (All-contains (λ k. (k < length s.left) × (is_left (left_at s.left k) ≡ false)) s.lost i lost.each h)
        each-of true is i h =
            elim (Contains-append_cases s.lost (u.claim ∷ []) i h) [
              | inl before ↦ still i (All-contains (λ k. (k < length s.left) × (is_left (left_at s.left k) ≡ false)) s.lost i lost.each before)
              | inr last ↦
                  elim (Contains-cases u.claim [] i last) [
                    | inl same ↦
                        let shorter : u.claim < length next.left = subst (λ n. u.claim < n) (sym (length-set s.left u.claim (without u.is_second l))) low in
                        let no : is_left (without u.is_second l) ≡ false = and-not (is_left l) (is_left (without u.is_second l)) is in
                        subst Nothing same (shorter, ap is_left here ∙ no)
                    | inr none ↦ let no : none.0 < 0 = none.1 in absurd (omega arith)
                  ]
            ]
          where
            and-not : (b d : Bool) → (b && not d) ≡ true → d ≡ false
            and-not b false e = refl
            and-not false true e = absurd (cc)
            and-not true true e = absurd (cc)

        each : (i : ℕ) → Contains next.lost i → Nothing i
        each i h = each-of is_new refl i h

        count : sum_by weight next.left + length next.lost ≡ length next.left
        count =
            let changed : sum_by weight next.left + weight l ≡ sum_by weight s.left + weight (without u.is_second l) = sum_by-set weight s.left u.claim (without u.is_second l) no_left low in
            let was : sum_by weight s.left + length s.lost ≡ length s.left = lost.count in
            let same : length next.left ≡ length s.left = length-set s.left u.claim (without u.is_second l) in
            let weighed : weight (without u.is_second l) + length next.lost ≡ weight l + length s.lost = weighs (is_left l) (is_left (without u.is_second l)) less s.lost in
            omega arith

-- what some lists less come to
pub record AreClosed (claims : List Claim) (s : Losses) (us : List Use) (t : Losses) : Type 0 where
  pub left : IsLeft claims t.left
  pub lost : AreLost t.left t.lost
  pub gone : (u : Use) → Contains us u → is_open (left_at t.left u.claim) u.is_second ≡ false
  pub stays : (i : ℕ) (d : Bool) → is_open (left_at s.left i) d ≡ false → is_open (left_at t.left i) d ≡ false
  pub behind : (more : List ℕ) × (t.lost ≡ s.lost ++ more)

one-behind : (b : Bool) (xs : List ℕ) (i : ℕ) → (more : List ℕ) × (cond b (xs ++ i ∷ []) xs ≡ xs ++ more)
one-behind false xs i = ([], sym (append-nil xs))
one-behind true xs i = (i ∷ [], refl)

pub all-closed : (claims : List Claim) (s : Losses) (us : List Use) → IsLeft claims s.left → AreLost s.left s.lost
    → ((u : Use) → Contains us u → (u.claim < length claims) × IsUnsupported claims u) → AreClosed claims s us (fold close s us)
all-closed claims s [] left lost each = record {
  left = left;
  lost = lost;
  gone = λ u it. let low : it.0 < 0 = it.1 in absurd (omega arith);
  stays = λ i d e. e;
  behind = ([], sym (append-nil s.lost));
}
all-closed claims s (u ∷ us) left lost each = whole (all-closed claims (close s u) us next-left next-lost (λ v it. each v (Contains-later u us v it)))
  where
    first : (u.claim < length claims) × IsUnsupported claims u
    first = each u (Contains-here u us)

    next-left : IsLeft claims (close s u).left
    next-left = left-closed claims s u first.0 first.1 left

    next-lost : AreLost (close s u).left (close s u).lost
    next-lost = lost-closed claims s u first.0 first.1 left lost

    whole : AreClosed claims (close s u) us (fold close (close s u) us) → AreClosed claims s (u ∷ us) (fold close (close s u) us)
    whole rest = record {
      left = rest.left;
      lost = rest.lost;
      gone = λ v it. elim (Contains-cases u us v it) [
        | inl same ↦
            subst (λ (w : Use). is_open (left_at (fold close (close s u) us).left w.claim) w.is_second ≡ false) same
            (rest.stays u.claim u.is_second (this-gone claims s u first.0 first.1 left))
        | inr later ↦ rest.gone v later
      ];
      stays = λ i d e. rest.stays i d (gone-stays claims s u first.0 first.1 left i d e);
      behind =
          let one = one-behind (is_left (left_at s.left u.claim) && not (is_left (without u.is_second (left_at s.left u.claim)))) s.lost u.claim in
          (one.0 ++ rest.behind.0, rest.behind.1 ∙ ap (λ xs. xs ++ rest.behind.0) one.1 ∙ append_assoc s.lost one.0 rest.behind.0);
    }

-- the lists of one lost claim less
module _ (claims : List Claim) (uses : List (List Use)) (of : IsUsesOf claims uses) (next : ℕ) (s : Losses) (it : AreLosses claims next s) (low : next < length s.lost)
    (j : ℕ) (is-j : j ≡ get_or s.lost next j) (us d : List Use) (is-us : us ≡ get_or uses j d) where
  lost-at : (j < length s.left) × (is_left (left_at s.left j) ≡ false)
  lost-at = subst (λ k. (k < length s.left) × (is_left (left_at s.left k) ≡ false)) (sym is-j) (it.are_lost.each next j low)

  j-low : j < length claims
  j-low = subst (λ n. j < n) it.is_left.same_length lost-at.0

  us-is : us ≡ get_or uses j []
  us-is = let inside : j < length uses = rw of.same_length j-low in is-us ∙ get_or_default uses j d [] inside

  uses-low : (u : Use) → Contains us u → (u.claim < length claims) × IsUse claims u j
  uses-low u h = (of.just u j j-low).0 (subst (λ vs. Contains vs u) us-is h)

  pub claims-low : (u : Use) → Contains us u → u.claim < length s.left
  claims-low u h = subst (λ n. u.claim < n) (sym it.is_left.same_length) (uses-low u h).0

  closed : AreClosed claims s us (fold close s us)
  closed = all-closed claims s us it.is_left it.are_lost (λ u h. let is = uses-low u h in (is.0, use-unsupported claims s.left j it.is_left j-low lost-at.1 u is.1))

  pub taken-more : (t : Losses) → t ≡ fold close s us → AreLosses claims (next + 1) t × (next + 1 ≤ length t.lost)
  taken-more t is-t = subst (λ (r : Losses). AreLosses claims (next + 1) r × (next + 1 ≤ length r.lost)) (sym is-t) (whole, longer)
    where
      after : Losses
      after = fold close s us

      more : List ℕ
      more = closed.behind.0

      longer : next + 1 ≤ length after.lost
      longer =
          let same : length after.lost ≡ length (s.lost ++ more) = ap length closed.behind.1 in
          let sum : length (s.lost ++ more) ≡ length s.lost + length more = length-append s.lost more in
          omega arith

      same-at : (k : ℕ) → k < length s.lost → get_or after.lost k 0 ≡ get_or s.lost k 0
      same-at k low-k = ap (λ xs. get_or xs k 0) closed.behind.1 ∙ get_or-append s.lost more 0 k low-k

      whole : AreLosses claims (next + 1) after
      whole = record {
        is_left = closed.left;
        are_lost = closed.lost;
        taken = λ k low-k u low-u is. elim (cases_eq k next) [
          | inl same ↦
              let at : get_or after.lost k 0 ≡ j = ap (λ i. get_or after.lost i 0) same ∙ same-at next low ∙ get_or_default s.lost next 0 j low ∙ sym is-j in
              closed.gone u (subst (λ vs. Contains vs u) (sym us-is) ((of.just u j j-low).1 (low-u, subst (λ i. IsUse claims u i) at is)))
          | inr other ↦
              let up : k < next + 1 = low-k in
              let before : k < next = omega arith in
              let inside : k < length s.lost = omega arith in
              closed.stays u.claim u.is_second (it.taken k before u low-u (subst (λ i. IsUse claims u i) (same-at k inside) is))
        ];
      }

-- At first.
one-more : (l : Left) (i : ℕ) (lefts : List Left) (lost : List ℕ) → AreLost (take i lefts) lost → i < length lefts → l ≡ get_or lefts i l
    → AreLost (take i lefts ++ l ∷ []) (cond (is_left l) lost (lost ++ i ∷ []))
one-more l i lefts lost it low is = record {
  all = all (is_left l) refl;
  each = All-contained Nothing (cond (is_left l) lost (lost ++ i ∷ [])) (each (is_left l) refl);
  count = count;
}
  where
    before : List Left
    before = take i lefts

    size : length before ≡ i
    size = length-take-le i lefts (omega arith)

    longer : length (before ++ l ∷ []) ≡ i + 1
    longer = length-append before (l ∷ []) ∙ ap (λ n. n + 1) size

    Nothing : ℕ → Type 0
    Nothing k = (k < length (before ++ l ∷ [])) × (is_left (left_at (before ++ l ∷ []) k) ≡ false)

    old : (k : ℕ) → k < length before → left_at (before ++ l ∷ []) k ≡ left_at before k
    old k low-k = get_or-append before (l ∷ []) no_left k low-k

    last : left_at (before ++ l ∷ []) i ≡ l
    last = ap (λ n. left_at (before ++ l ∷ []) n) (sym size) ∙ get_or-append_seam before l [] no_left

    kept : (b : Bool) (k : ℕ) → Contains lost k → Contains (cond b lost (lost ++ i ∷ [])) k
    kept true k h = h
    kept false k h = Contains-append_left lost (i ∷ []) k h

    all : (b : Bool) → is_left l ≡ b → (k : ℕ) → k < length (before ++ l ∷ []) → is_left (left_at (before ++ l ∷ []) k) ≡ false → Contains (cond (is_left l) lost (lost ++ i ∷ [])) k
    all b e k low-k nothing =
        elim (cases_eq k i) [
          | inl same ↦
              let no : is_left l ≡ false = ap is_left (sym last) ∙ subst (λ n. is_left (left_at (before ++ l ∷ []) n) ≡ false) same nothing in
              subst (λ b. Contains (cond b lost (lost ++ i ∷ [])) k) (sym no)
              (Contains-append_right lost (i ∷ []) k (subst (λ n. Contains (i ∷ []) n) (sym same) (Contains-here i [])))
          | inr other ↦
              let up : k < i + 1 = subst (λ n. k < n) longer low-k in
              let inside : k < length before = rw size (omega arith) in
              kept (is_left l) k (it.all k inside (ap is_left (sym (old k inside)) ∙ nothing))
        ]

    still : (k : ℕ) → Contains lost k → Nothing k
    still k h =
        let was = All-contains (λ n. (n < length before) × (is_left (left_at before n) ≡ false)) lost k it.each h in
        let inside : k < length before = was.0 in
        (rw longer (let small : k < i = rw (sym size) inside in omega arith), ap is_left (old k inside) ∙ was.1)

    each : (b : Bool) → is_left l ≡ b → (k : ℕ) → Contains (cond (is_left l) lost (lost ++ i ∷ [])) k → Nothing k
    each b e k h = go b e (subst (λ d. Contains (cond d lost (lost ++ i ∷ [])) k) e h)
      where
        go : (b : Bool) → is_left l ≡ b → Contains (cond b lost (lost ++ i ∷ [])) k → Nothing k
        go true e h = still k h
        go false e h =
            elim (Contains-append_cases lost (i ∷ []) k h) [
              | inl was ↦ still k was
              | inr new ↦
                  elim (Contains-cases i [] k new) [
                    | inl same ↦ subst Nothing same (rw longer (omega arith), ap is_left last ∙ e)
                    | inr none ↦ let no : none.0 < 0 = none.1 in absurd (omega arith)
                  ]
            ]

    count : sum_by weight (before ++ l ∷ []) + length (cond (is_left l) lost (lost ++ i ∷ [])) ≡ length (before ++ l ∷ [])
    count =
        let sum : sum_by weight (before ++ l ∷ []) ≡ sum_by weight before + (0 + weight l) = sum_by-append weight before (l ∷ []) in
        let was : sum_by weight before + length lost ≡ length before = it.count in
        let longer' : length (before ++ l ∷ []) ≡ length before + 1 = length-append before (l ∷ []) in
        let both : weight l + length (cond (is_left l) lost (lost ++ i ∷ [])) ≡ length lost + 1 = weighed (is_left l) in
        omega arith
      where
        weighed : (b : Bool) → cond b 1 0 + length (cond b lost (lost ++ i ∷ [])) ≡ length lost + 1
        weighed true = omega arith
        weighed false = let e : length (lost ++ i ∷ []) ≡ length lost + 1 = length-append lost (i ∷ []) in omega arith

pub lost-more : (d : Left) (i : ℕ) (lefts : List Left) (lost after : List ℕ) → AreLost (take i lefts) lost → i < length lefts
    → after ≡ cond (is_left (get_or lefts i d)) lost (lost ++ i ∷ []) → AreLost (take (i + 1) lefts) after
lost-more d i lefts lost after it low is-after =
    let l : Left = get_or lefts i d in
    subst (λ ns. AreLost (take (i + 1) lefts) ns) (sym is-after)
    (subst (λ ls. AreLost ls (cond (is_left l) lost (lost ++ i ∷ []))) (sym (take_more lefts i d low))
    (one-more l i lefts lost it low (get_or_default lefts i d l low)))

mapped-at : {X Y : Type 0} (f : X → Y) (xs : List X) (i : ℕ) (d : X) → get_or (map f xs) i (f d) ≡ f (get_or xs i d)
mapped-at f [] i d = refl
mapped-at f (x ∷ xs) zero d = refl
mapped-at f (x ∷ xs) (suc i) d = mapped-at f xs i d

pub left-at-first : (claims : List Claim) → IsLeft claims (map all_of claims)
left-at-first claims = record {
  same_length = length-map claims all_of;
  holds = λ i low. ap (λ (l : Left). l.holds) (at i);
  present = λ i low d e. some (way (claim_at claims i) d) (sym (open-of (claim_at claims i) d) ∙ subst (λ l. is_open l d ≡ true) (at i) e);
  absent = λ i low d e kept together all. none (way (claim_at claims i) d) kept (sym (open-of (claim_at claims i) d) ∙ subst (λ l. is_open l d ≡ false) (at i) e) all;
}
  where
    at : (i : ℕ) → left_at (map all_of claims) i ≡ all_of (claim_at claims i)
    at i = mapped-at all_of claims i no_claim

    open-of : (c : Claim) (d : Bool) → is_open (all_of c) d ≡ is_some (way c d)
    open-of c false = refl
    open-of c true = refl

    some : (o : Option (List ℕ)) → is_some o ≡ true → IsSome o
    some None e = absurd (cc)
    some (Some xs) e = refl

    none : (o : Option (List ℕ)) (kept : ℕ → Bool) → is_some o ≡ false → AllIn kept o → ⊥
    none None kept e all = all
    none (Some xs) kept e all = absurd (cc)

pub losses-at-first : (claims : List Claim) (lefts : List Left) (lost : List ℕ) → lefts ≡ map all_of claims → AreLost lefts lost → AreLosses claims 0 (record { left = lefts; lost = lost })
losses-at-first claims lefts lost is are = record {
  is_left = subst (IsLeft claims) (sym is) (left-at-first claims);
  are_lost = are;
  taken = λ k low. let no : k < 0 = low in absurd (omega arith);
}

-- In the end.
pub greatest : (claims : List Claim) (s : Losses) → All (IsAmong (length claims)) claims → AreLosses claims (length s.lost) s → IsGreatest claims (map is_left s.left)
greatest claims s among it = record {
  together = λ i low e. stand i low (subst (λ b. b ≡ true) (mark i) e);
  greatest = λ kept together i low e. elim (cases_Bool (kept_at (map is_left s.left) i)) [
    | inl marked ↦ marked
    | inr unmarked ↦ absurd (lost-unsupported claims s.left i it.is_left low (sym (mark i) ∙ unmarked) kept together e)
  ];
}
  where
    mark : (i : ℕ) → kept_at (map is_left s.left) i ≡ is_left (left_at s.left i)
    mark i = mapped-at is_left s.left i no_left

    member : (i j : ℕ) (d : Bool) → i < length claims → j < length claims → IsIn (way (claim_at claims i) d) j → is_open (left_at s.left i) d ≡ true → is_left (left_at s.left j) ≡ true
    member i j d low low-j inside held =
        elim (cases_Bool (is_left (left_at s.left j))) [
          | inl left ↦ left
          | inr nothing ↦
              let longer : j < length s.left = subst (λ n. j < n) (sym it.is_left.same_length) low-j in
              let place = it.are_lost.all j longer nothing in
              let at : get_or s.lost place.0 0 ≡ j = get_or_default s.lost place.0 0 j place.1 ∙ place.2 in
              let no : is_open (left_at s.left i) d ≡ false = it.taken place.0 place.1 (record { claim = i; is_second = d }) low (subst (λ k. IsIn (way (claim_at claims i) d) k) (sym at) inside) in
              absurd (cc)
        ]

    whole : (o : Option (List ℕ)) → IsSome o → IsWayAmong (length claims) o → ((j : ℕ) → j < length claims → IsIn o j → is_left (left_at s.left j) ≡ true) → AllIn (kept_at (map is_left s.left)) o
    whole None is inside each = let no : false ≡ true = is in absurd (cc)
    whole (Some xs) is inside each = All-contained (λ j. kept_at (map is_left s.left) j ≡ true) xs (λ j h. mark j ∙ each j (All-contains (λ k. k < length claims) xs j inside h) h)

    stand : (i : ℕ) → i < length claims → is_left (left_at s.left i) ≡ true → Stands (kept_at (map is_left s.left)) (claim_at claims i)
    stand i low e =
        let inside : IsAmong (length claims) (claim_at claims i) = among i no_claim low in
        elim (left-ways (left_at s.left i) e) [
          | inl holds ↦ inl (sym (it.is_left.holds i low) ∙ holds)
          | inr lists ↦
              inr (elim lists [
                | inl first ↦ inl (whole (claim_at claims i).first (it.is_left.present i low false first) inside.0 (λ j low-j h. member i j false low low-j h first))
                | inr second ↦ inr (whole (claim_at claims i).second (it.is_left.present i low true second) inside.1 (λ j low-j h. member i j true low low-j h second))
              ])
        ]
