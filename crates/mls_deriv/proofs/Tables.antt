-- How the table of a step's pairs and variables grows.
use Rattle.std.proofs.Common.{◌≡◌, ◌↔◌, ◌⊎◌, inl, inr, ℕ, suc, ◌<◌, Bool, true, false, List, [], ◌∷◌, length, refl, sym, ap, ◌∙◌, subst, arith, Option, Some, None, cond}
use Rattle.std.specs.Prelude.{IsTrue, find, option_map, if◌then◌else◌, nat_eq}
use Rattle.std.specs.FinMap.{nat_cmp-IsAntisymmetric}
use Rattle.std.specs.Cmp.{nat_cmp_is}
use Rattle.std.specs.BTreeSet.{BTreeSet, contains, Updates}
use Rattle.std.specs.BTreeMap.{BTreeMap}
use Rattle.std.specs.Ordering.{nat_cmp, ordering_then, is_eq}
use Rattle.std.specs.declared.cmp.Ordering.{Ordering}
use Rattle.std.specs.declared.cmp.Ordering.TheVariants.{Less, Equal, Greater}
use Rattle.mls_deriv.specs.declared.derivation.Mode.{Mode}
use Rattle.mls_deriv.specs.declared.derivation.Mode.TheVariants.{Lr, Rl, Pp}
use Rattle.mls_deriv.specs.declared.derivation.SectionLine.{SectionLine}
use Rattle.mls_deriv.specs.declared.derivation.SectionLine.TheVariants as line
use Rattle.mls_deriv.specs.declared.table.Table.{Table}
use Rattle.mls_deriv.specs.Pairs.{Put, Pair, Claims, put_at}
use Rattle.mls_deriv.specs.Steps.{puts_of, pairs_of}
use Rattle.mls_deriv.specs.declared.pair_set.PairSet.{PairSet}
use Rattle.mls_deriv.specs.inner.Tables.{numbers_cmp, GetsPair, LosesPair, Holds, put_in, or_else, AddsPair, RemovesPair, Adds, IsTableWith, IsTableOf}
use Rattle.mls_deriv.proofs.ScopedNames.{first_or_later}

both_equal : (o p : Ordering) → is_eq (ordering_then o p) ≡ true → (o ≡ Equal) × (p ≡ Equal)
both_equal Less p e = absurd (cc)
both_equal Equal Less e = absurd (cc)
both_equal Equal Equal e = (refl, refl)
both_equal Equal Greater e = absurd (cc)
both_equal Greater p e = absurd (cc)

tied : (x y : ℕ) → x ≡ y → nat_cmp x y ≡ Equal
tied x y e = sym (nat_cmp_is x y Equal e)

-- a set with one more pair
pub set_added : (i j : ℕ) (old new : BTreeSet (ℕ × ℕ)) → Updates numbers_cmp old new (i, j) true → (k l : ℕ)
    → IsTrue (contains numbers_cmp new (k, l)) ↔ (IsTrue (contains numbers_cmp old (k, l)) ⊎ ((i ≡ k) × (j ≡ l)))
set_added i j old new updates k l =
    let same : contains numbers_cmp new (k, l) ≡ cond (is_eq (numbers_cmp (i, j) (k, l))) true (contains numbers_cmp old (k, l)) = updates.0 (k, l) in
    let to = to_cases (is_eq (numbers_cmp (i, j) (k, l))) refl in (
      λ h. to (sym same ∙ h),
      λ h. same ∙ from h,
    )
  where
    equal : is_eq (numbers_cmp (i, j) (k, l)) ≡ true → (i ≡ k) × (j ≡ l)
    equal e =
        let both = both_equal (nat_cmp i k) (nat_cmp j l) e in
        (nat_cmp-IsAntisymmetric i k both.0, nat_cmp-IsAntisymmetric j l both.1)

    to_cases : (b : Bool) → is_eq (numbers_cmp (i, j) (k, l)) ≡ b → cond b true (contains numbers_cmp old (k, l)) ≡ true
        → IsTrue (contains numbers_cmp old (k, l)) ⊎ ((i ≡ k) × (j ≡ l))
    to_cases true e h = inr (equal e)
    to_cases false e h = inl h

    one_of : (b : Bool) → contains numbers_cmp old (k, l) ≡ true → cond b true (contains numbers_cmp old (k, l)) ≡ true
    one_of true h = refl
    one_of false h = h

    from : IsTrue (contains numbers_cmp old (k, l)) ⊎ ((i ≡ k) × (j ≡ l)) → cond (is_eq (numbers_cmp (i, j) (k, l))) true (contains numbers_cmp old (k, l)) ≡ true
    from (inl h) = one_of (is_eq (numbers_cmp (i, j) (k, l))) h
    from (inr e) =
        let first : nat_cmp i k ≡ Equal = tied i k e.0 in
        let second : nat_cmp j l ≡ Equal = tied j l e.1 in
        let equal : is_eq (numbers_cmp (i, j) (k, l)) ≡ true = λ n. is_eq (ordering_then (first n) (second n)) in
        ap (λ b. cond b true (contains numbers_cmp old (k, l))) equal

-- and with one less
pub set_removed : (i j : ℕ) (old new : BTreeSet (ℕ × ℕ)) → Updates numbers_cmp old new (i, j) false → (k l : ℕ)
    → IsTrue (contains numbers_cmp new (k, l)) ↔ (IsTrue (contains numbers_cmp old (k, l)) × ((i ≡ k) × (j ≡ l) → ⊥))
set_removed i j old new updates k l =
    let same : contains numbers_cmp new (k, l) ≡ cond (is_eq (numbers_cmp (i, j) (k, l))) false (contains numbers_cmp old (k, l)) = updates.0 (k, l) in (
      λ h. left (is_eq (numbers_cmp (i, j) (k, l))) refl (sym same ∙ h),
      λ h. same ∙ back (is_eq (numbers_cmp (i, j) (k, l))) refl h,
    )
  where
    equal : is_eq (numbers_cmp (i, j) (k, l)) ≡ true → (i ≡ k) × (j ≡ l)
    equal e =
        let both = both_equal (nat_cmp i k) (nat_cmp j l) e in
        (nat_cmp-IsAntisymmetric i k both.0, nat_cmp-IsAntisymmetric j l both.1)

    other : is_eq (numbers_cmp (i, j) (k, l)) ≡ false → (i ≡ k) × (j ≡ l) → ⊥
    other apart e =
        let first : nat_cmp i k ≡ Equal = tied i k e.0 in
        let second : nat_cmp j l ≡ Equal = tied j l e.1 in
        let yes : is_eq (numbers_cmp (i, j) (k, l)) ≡ true = λ n. is_eq (ordering_then (first n) (second n)) in
        absurd (cc)

    left : (b : Bool) → is_eq (numbers_cmp (i, j) (k, l)) ≡ b → cond b false (contains numbers_cmp old (k, l)) ≡ true
        → IsTrue (contains numbers_cmp old (k, l)) × ((i ≡ k) × (j ≡ l) → ⊥)
    left true e h = absurd (cc)
    left false e h = (h, other e)

    back : (b : Bool) → is_eq (numbers_cmp (i, j) (k, l)) ≡ b → IsTrue (contains numbers_cmp old (k, l)) × ((i ≡ k) × (j ≡ l) → ⊥)
        → cond b false (contains numbers_cmp old (k, l)) ≡ true
    back true e h = absurd (h.1 (equal e))
    back false e h = h.0

-- a pair of this mode that is not this one
not_here : (A B P Q : Type 0) (m : Mode) → A ↔ (B × (P × Q → ⊥)) → A ↔ (B × ((m ≡ m) × P × Q → ⊥))
not_here A B P Q m h = (
  λ a. ((h.0 a).0, λ e. (h.0 a).1 (e.1, e.2)),
  λ b. h.1 (b.0, λ e. b.1 (refl, e.0, e.1)),
)

-- a pair of another mode
not_elsewhere : (A P Q : Type 0) (m n : Mode) → (m ≡ n → ⊥) → A ↔ (A × ((m ≡ n) × P × Q → ⊥))
not_elsewhere A P Q m n other = (λ a. (a, λ e. other e.0), λ h. h.0)

-- the pair is of this mode
here : (A B P Q : Type 0) (m : Mode) → A ↔ (B ⊎ (P × Q)) → A ↔ (B ⊎ ((m ≡ m) × P × Q))
here A B P Q m h = (λ a. to (h.0 a), λ b. h.1 (from b))
  where
    to : B ⊎ (P × Q) → B ⊎ ((m ≡ m) × P × Q)
    to (inl b) = inl b
    to (inr e) = inr (refl, e.0, e.1)

    from : B ⊎ ((m ≡ m) × P × Q) → B ⊎ (P × Q)
    from (inl b) = inl b
    from (inr e) = inr (e.1, e.2)

-- the pair is of another mode
elsewhere : (A P Q : Type 0) (m n : Mode) → (m ≡ n → ⊥) → A ↔ (A ⊎ ((m ≡ n) × P × Q))
elsewhere A P Q m n other = (λ a. inl a, from)
  where
    from : A ⊎ ((m ≡ n) × P × Q) → A
    from (inl a) = a
    from (inr e) = absurd (other e.0)

module _ (puts : BTreeMap ℕ ℕ) (lr rl pp set : PairSet) (i j : ℕ) where
  abbrev old : Table
  old = record { puts = puts; lr = lr; rl = rl; pp = pp }

  pub lr_added : GetsPair i j lr set → AddsPair Lr i j old (record { puts = puts; lr = set; rl = rl; pp = pp })
  lr_added updates = (go, λ y. refl)
    where
      go : (m : Mode) (k l : ℕ) → Holds (record { puts = puts; lr = set; rl = rl; pp = pp }) m k l ↔ (Holds old m k l ⊎ ((Lr ≡ m) × (i ≡ k) × (j ≡ l)))
      go Lr k l = here _ _ _ _ Lr (updates k l)
      go Rl k l = elsewhere _ _ _ Lr Rl (λ e. absurd (cc))
      go Pp k l = elsewhere _ _ _ Lr Pp (λ e. absurd (cc))

  pub rl_added : GetsPair i j rl set → AddsPair Rl i j old (record { puts = puts; lr = lr; rl = set; pp = pp })
  rl_added updates = (go, λ y. refl)
    where
      go : (m : Mode) (k l : ℕ) → Holds (record { puts = puts; lr = lr; rl = set; pp = pp }) m k l ↔ (Holds old m k l ⊎ ((Rl ≡ m) × (i ≡ k) × (j ≡ l)))
      go Lr k l = elsewhere _ _ _ Rl Lr (λ e. absurd (cc))
      go Rl k l = here _ _ _ _ Rl (updates k l)
      go Pp k l = elsewhere _ _ _ Rl Pp (λ e. absurd (cc))

  pub pp_added : GetsPair i j pp set → AddsPair Pp i j old (record { puts = puts; lr = lr; rl = rl; pp = set })
  pp_added updates = (go, λ y. refl)
    where
      go : (m : Mode) (k l : ℕ) → Holds (record { puts = puts; lr = lr; rl = rl; pp = set }) m k l ↔ (Holds old m k l ⊎ ((Pp ≡ m) × (i ≡ k) × (j ≡ l)))
      go Lr k l = elsewhere _ _ _ Pp Lr (λ e. absurd (cc))
      go Rl k l = elsewhere _ _ _ Pp Rl (λ e. absurd (cc))
      go Pp k l = here _ _ _ _ Pp (updates k l)

  pub lr_removed : LosesPair i j lr set → RemovesPair Lr i j old (record { puts = puts; lr = set; rl = rl; pp = pp })
  lr_removed updates = (go, λ y. refl)
    where
      go : (m : Mode) (k l : ℕ) → Holds (record { puts = puts; lr = set; rl = rl; pp = pp }) m k l ↔ Holds old m k l × ((Lr ≡ m) × (i ≡ k) × (j ≡ l) → ⊥)
      go Lr k l = not_here _ _ _ _ Lr (updates k l)
      go Rl k l = not_elsewhere _ _ _ Lr Rl (λ e. absurd (cc))
      go Pp k l = not_elsewhere _ _ _ Lr Pp (λ e. absurd (cc))

  pub rl_removed : LosesPair i j rl set → RemovesPair Rl i j old (record { puts = puts; lr = lr; rl = set; pp = pp })
  rl_removed updates = (go, λ y. refl)
    where
      go : (m : Mode) (k l : ℕ) → Holds (record { puts = puts; lr = lr; rl = set; pp = pp }) m k l ↔ Holds old m k l × ((Rl ≡ m) × (i ≡ k) × (j ≡ l) → ⊥)
      go Lr k l = not_elsewhere _ _ _ Rl Lr (λ e. absurd (cc))
      go Rl k l = not_here _ _ _ _ Rl (updates k l)
      go Pp k l = not_elsewhere _ _ _ Rl Pp (λ e. absurd (cc))

  pub pp_removed : LosesPair i j pp set → RemovesPair Pp i j old (record { puts = puts; lr = lr; rl = rl; pp = set })
  pp_removed updates = (go, λ y. refl)
    where
      go : (m : Mode) (k l : ℕ) → Holds (record { puts = puts; lr = lr; rl = rl; pp = set }) m k l ↔ Holds old m k l × ((Pp ≡ m) × (i ≡ k) × (j ≡ l) → ⊥)
      go Lr k l = not_elsewhere _ _ _ Pp Lr (λ e. absurd (cc))
      go Rl k l = not_elsewhere _ _ _ Pp Rl (λ e. absurd (cc))
      go Pp k l = not_here _ _ _ _ Pp (updates k l)

-- a list with one more pair in front
claims_more : (mode : Mode) (i j : ℕ) (pairs : List Pair) (m : Mode) (k l : ℕ)
    → Claims (record { mode = mode; left = i; right = j } ∷ pairs) m k l ↔ (((mode ≡ m) × (i ≡ k) × (j ≡ l)) ⊎ Claims pairs m k l)
claims_more mode i j pairs m k l = (to, from)
  where
    to : Claims (record { mode = mode; left = i; right = j } ∷ pairs) m k l → ((mode ≡ m) × (i ≡ k) × (j ≡ l)) ⊎ Claims pairs m k l
    to h = go (first_or_later (record { mode = mode; left = i; right = j }) pairs _ h)
      where
        go : (◌≡◌ {A = Pair} (record { mode = mode; left = i; right = j }) (record { mode = m; left = k; right = l })) ⊎ Claims pairs m k l → ((mode ≡ m) × (i ≡ k) × (j ≡ l)) ⊎ Claims pairs m k l
        go (inl e) = inl (ap (λ (q : Pair). q.mode) e, ap (λ (q : Pair). q.left) e, ap (λ (q : Pair). q.right) e)
        go (inr h) = inr h

    from : ((mode ≡ m) × (i ≡ k) × (j ≡ l)) ⊎ Claims pairs m k l → Claims (record { mode = mode; left = i; right = j } ∷ pairs) m k l
    from (inl e) = (0, omega arith, λ n. record { mode = e.0 n; left = e.1 n; right = e.2 n })
    from (inr h) = (suc h.0, (let low : h.0 < length pairs = h.1 in omega arith), h.2)

or_else_assoc : (a b c : Option ℕ) → or_else (or_else a b) c ≡ or_else a (or_else b c)
or_else_assoc None b c = refl
or_else_assoc (Some n) b c = refl

put_more : (x n : ℕ) (puts : List Put) (y : ℕ) → or_else (if nat_eq x y then Some n else None) (put_at puts y) ≡ put_at (record { variable = x; node = n } ∷ puts) y
put_more x n puts y = go (nat_eq x y)
  where
    go : (b : Bool) → or_else (if b then Some n else None) (put_at puts y) ≡ option_map (λ (put : Put). put.node) (cond b (Some (record { variable = x; node = n })) (find (λ (put : Put). nat_eq put.variable y) puts))
    go true = refl
    go false = refl

-- a line that was added
pub with_added : (first : SectionLine) (rest whole : List SectionLine) (old new : Table) → Adds first old new true → IsTableWith (first ∷ rest) old whole → IsTableWith rest new whole
with_added (line.Let k number) rest whole old new adds it = absurd (let e : true ≡ false = adds.0 in cc)
with_added (line.Step step) rest whole old new adds it = absurd (let e : true ≡ false = adds.0 in cc)
with_added (line.Put x n) rest whole old new adds it = (
  λ m k l. (λ h. (it.0 m k l).0 (to m k l h), λ h. from m k l ((it.0 m k l).1 h)),
  λ y. ap (λ o. or_else o (put_at (puts_of rest) y)) (adds.1.1 y) ∙ (or_else_assoc (put_in old y) (if nat_eq x y then Some n.0 else None) (put_at (puts_of rest) y)
      ∙ (ap (or_else (put_in old y)) (put_more x n.0 (puts_of rest) y) ∙ it.1 y)),
)
  where
    to : (m : Mode) (k l : ℕ) → Holds new m k l ⊎ Claims (pairs_of rest) m k l → Holds old m k l ⊎ Claims (pairs_of rest) m k l
    to m k l (inl h) = inl ((adds.1.0 m k l).0 h)
    to m k l (inr h) = inr h

    from : (m : Mode) (k l : ℕ) → Holds old m k l ⊎ Claims (pairs_of rest) m k l → Holds new m k l ⊎ Claims (pairs_of rest) m k l
    from m k l (inl h) = inl ((adds.1.0 m k l).1 h)
    from m k l (inr h) = inr h
with_added (line.Pair mode i j) rest whole old new adds it = (
  λ m k l. (λ h. (it.0 m k l).0 (to m k l h), λ h. from m k l ((it.0 m k l).1 h)),
  λ y. ap (λ o. or_else o (put_at (puts_of rest) y)) (adds.1.1 y) ∙ it.1 y,
)
  where
    here_or_there : (m : Mode) (k l : ℕ) → Holds old m k l ⊎ ((mode ≡ m) × (i.0 ≡ k) × (j.0 ≡ l)) → Holds old m k l ⊎ Claims (record { mode = mode; left = i.0; right = j.0 } ∷ pairs_of rest) m k l
    here_or_there m k l (inl h) = inl h
    here_or_there m k l (inr e) = inr ((claims_more mode i.0 j.0 (pairs_of rest) m k l).1 (inl e))

    to : (m : Mode) (k l : ℕ) → Holds new m k l ⊎ Claims (pairs_of rest) m k l → Holds old m k l ⊎ Claims (record { mode = mode; left = i.0; right = j.0 } ∷ pairs_of rest) m k l
    to m k l (inl h) = here_or_there m k l ((adds.1.0 m k l).0 h)
    to m k l (inr h) = inr ((claims_more mode i.0 j.0 (pairs_of rest) m k l).1 (inr h))

    from_claims : (m : Mode) (k l : ℕ) → ((mode ≡ m) × (i.0 ≡ k) × (j.0 ≡ l)) ⊎ Claims (pairs_of rest) m k l → Holds new m k l ⊎ Claims (pairs_of rest) m k l
    from_claims m k l (inl e) = inl ((adds.1.0 m k l).1 (inr e))
    from_claims m k l (inr h) = inr h

    from : (m : Mode) (k l : ℕ) → Holds old m k l ⊎ Claims (record { mode = mode; left = i.0; right = j.0 } ∷ pairs_of rest) m k l → Holds new m k l ⊎ Claims (pairs_of rest) m k l
    from m k l (inl h) = inl ((adds.1.0 m k l).1 (inl h))
    from m k l (inr h) = from_claims m k l ((claims_more mode i.0 j.0 (pairs_of rest) m k l).0 h)

no_claim : (m : Mode) (k l : ℕ) → Claims [] m k l → ⊥
no_claim m k l h = let low : h.0 < 0 = h.1 in omega arith

no_more : (o : Option ℕ) → or_else o None ≡ o
no_more None = refl
no_more (Some n) = refl

-- no line is left
pub with_none : (t : Table) (whole : List SectionLine) → IsTableWith [] t whole → IsTableOf whole t
with_none t whole it = (
  λ m k l. (λ h. (it.0 m k l).0 (inl h), λ h. from m k l ((it.0 m k l).1 h)),
  λ x. sym (no_more (put_in t x)) ∙ it.1 x,
)
  where
    from : (m : Mode) (k l : ℕ) → Holds t m k l ⊎ Claims [] m k l → Holds t m k l
    from m k l (inl h) = h
    from m k l (inr h) = absurd (no_claim m k l h)

-- a line that does not belong to the step
pub with_ended : (first : SectionLine) (rest whole : List SectionLine) (old new : Table) → Adds first old new false → IsTableWith (first ∷ rest) old whole → IsTableOf whole new
with_ended (line.Let k number) rest whole old new adds it = subst (IsTableOf whole) (sym adds.1) (with_none old whole it)
with_ended (line.Step step) rest whole old new adds it = subst (IsTableOf whole) (sym adds.1) (with_none old whole it)
with_ended (line.Put x n) rest whole old new adds it = absurd (let e : false ≡ true = adds.0 in cc)
with_ended (line.Pair mode i j) rest whole old new adds it = absurd (let e : false ≡ true = adds.0 in cc)

-- at the start
pub with_all : (t : Table) (whole : List SectionLine) → ((m : Mode) (k l : ℕ) → Holds t m k l → ⊥) → ((x : ℕ) → put_in t x ≡ None) → IsTableWith whole t whole
with_all t whole none nothing = (
  λ m k l. (to m k l, λ h. inr h),
  λ x. ap (λ o. or_else o (put_at (puts_of whole) x)) (nothing x),
)
  where
    to : (m : Mode) (k l : ℕ) → Holds t m k l ⊎ Claims (pairs_of whole) m k l → Claims (pairs_of whole) m k l
    to m k l (inl h) = absurd (none m k l h)
    to m k l (inr h) = h
