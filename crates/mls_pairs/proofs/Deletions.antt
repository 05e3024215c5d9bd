-- Pairs that are taken out of a table, one after another.
--     deletes_trans       one after another
--     held_table          the table in the end is that of what it has of the list
--     left_by             the table in the end is that of a list that is left
--     held_left           and that is what it has of the list
use Rattle.std.proofs.Common.{◌≡◌, ◌↔◌, ◌⊎◌, inl, inr, Bool, true, false, ℕ, ◌<◌, List, [], ◌∷◌, refl, sym, ap, ◌∙◌, subst, arith}
use Rattle.std.specs.Prelude.{◌==◌, Contains}
use Rattle.std.proofs.lemmas.Bool.Decides.{Decides-eqb}
use Rattle.mls_book.specs.declared.book.Node.{Node}
use Rattle.mls_deriv.specs.declared.derivation.Mode.{Mode}
use Rattle.mls_deriv.specs.declared.derivation.Mode.TheVariants.{Lr, Rl, Pp}
use Rattle.mls_deriv.specs.declared.claim.Pair.{Pair}
use Rattle.mls_deriv.specs.declared.claim.Put.{Put}
use Rattle.mls_deriv.specs.declared.table.Table.{Table}
use Rattle.mls_deriv.specs.Pairs.{Claims}
use Rattle.mls_deriv.specs.inner.Tables.{Holds, RemovesPair, put_in}
use Rattle.mls_deriv.proofs.ScopedNames.{first_or_later}
use Rattle.mls_pairs.specs.Lines.{IsTable}
use Rattle.mls_pairs.specs.PairLists.{pair_of}
use Rattle.mls_pairs.specs.steps.Deleting.{Deletes, IsHeldBy, nothing, one_more}
use Rattle.mls_pairs.specs.steps.Rounds.{AreThose, none, kept, gone, IsJustifiedBy, IsLeft, IsShownBy}
use Rattle.mls_pairs.proofs.Rounding.{those_gone, gone_is_not, left_or_gone, left_same, left_there, left_without}
use Rattle.mls_pairs.proofs.TableShown.{justified_shown}

pub deletes_trans : (book : List Node) {old mid new : Table} → Deletes book old mid → Deletes book mid new → Deletes book old new
deletes_trans book first nothing = first
deletes_trans book first (one_more pair before not_so removes) = one_more pair (deletes_trans book first before) not_so removes

same_mode : (m n : Mode) → (m ≡ n) ⊎ (m ≡ n → ⊥)
same_mode Lr Lr = inl refl
same_mode Lr Rl = inr (λ e. absurd (cc))
same_mode Lr Pp = inr (λ e. absurd (cc))
same_mode Rl Lr = inr (λ e. absurd (cc))
same_mode Rl Rl = inl refl
same_mode Rl Pp = inr (λ e. absurd (cc))
same_mode Pp Lr = inr (λ e. absurd (cc))
same_mode Pp Rl = inr (λ e. absurd (cc))
same_mode Pp Pp = inl refl

same_number : (m n : ℕ) → (m ≡ n) ⊎ (m ≡ n → ⊥)
same_number m n = go (m == n) refl
  where
    go : (b : Bool) → m == n ≡ b → (m ≡ n) ⊎ (m ≡ n → ⊥)
    go true e = inl ((Decides-eqb m n).0 e)
    go false apart = inr (λ e. let yes : m == n ≡ true = (Decides-eqb m n).1 e in absurd (cc))

same_pair : (p q : Pair) → (p ≡ q) ⊎ (p ≡ q → ⊥)
same_pair p q = go (same_mode p.mode q.mode) (same_number p.left q.left) (same_number p.right q.right)
  where
    go : (p.mode ≡ q.mode) ⊎ (p.mode ≡ q.mode → ⊥) → (p.left ≡ q.left) ⊎ (p.left ≡ q.left → ⊥) → (p.right ≡ q.right) ⊎ (p.right ≡ q.right → ⊥)
        → (p ≡ q) ⊎ (p ≡ q → ⊥)
    go (inr apart) l r = inr (λ e. apart (ap (λ (s : Pair). s.mode) e))
    go (inl m) (inr apart) r = inr (λ e. apart (ap (λ (s : Pair). s.left) e))
    go (inl m) (inl l) (inr apart) = inr (λ e. apart (ap (λ (s : Pair). s.right) e))
    go (inl m) (inl l) (inl r) = inl (λ n. record { mode = m n; left = l n; right = r n })

-- another pair than this one
abbrev Other : Pair → Pair → Type 0
Other pair q = pair ≡ q → ⊥

-- the list without this pair
without : (pair : Pair) (pairs : List Pair) → (left : List Pair) × AreThose (Other pair) pairs left
without pair [] = ([], none)
without pair (q ∷ pairs) = go (same_pair pair q) (without pair pairs)
  where
    go : (pair ≡ q) ⊎ (pair ≡ q → ⊥) → ((left : List Pair) × AreThose (Other pair) pairs left) → (left : List Pair) × AreThose (Other pair) (q ∷ pairs) left
    go (inl e) rest = (rest.0, gone q (λ apart. apart e) rest.1)
    go (inr apart) rest = (q ∷ rest.0, kept q apart rest.1)

left_is : (IsOne : Pair → Type 0) (pairs left : List Pair) → AreThose IsOne pairs left → (pair : Pair) → Contains left pair → IsOne pair
left_is IsOne pairs left none pair there = absurd (let low : there.0 < 0 = there.1 in omega arith)
left_is IsOne pairs left (kept {pairs = ps} {left = ls} first one rest) pair there = go (first_or_later first ls pair there) (left_is IsOne ps ls rest pair)
  where
    go : (first ≡ pair) ⊎ Contains ls pair → (Contains ls pair → IsOne pair) → IsOne pair
    go (inl e) inside = subst IsOne e one
    go (inr h) inside = inside h
left_is IsOne pairs left (gone {pairs = ps} {left = ls} first one rest) pair there = left_is IsOne ps ls rest pair there

-- a pair of the list that is one is left
stays : (IsOne : Pair → Type 0) (pairs left : List Pair) → AreThose IsOne pairs left → (pair : Pair) → Contains pairs pair → IsOne pair → Contains left pair
stays IsOne pairs left those pair there one = go (left_or_gone IsOne pairs left those pair there)
  where
    go : Contains left pair ⊎ Contains (those_gone IsOne pairs left those) pair → Contains left pair
    go (inl h) = h
    go (inr h) = absurd ((gone_is_not IsOne pairs left those pair h).0 one)

-- what is left was there, with the same nodes of variables
pub deletes_less : (book : List Node) (old new : Table) → Deletes book old new → ((m : Mode) (i j : ℕ) → Holds new m i j → Holds old m i j) × ((x : ℕ) → put_in new x ≡ put_in old x)
deletes_less book old new nothing = (λ m i j h. h, λ x. refl)
deletes_less book old new (one_more {mid = mid} pair before not_so removes) =
    let first = deletes_less book old mid before in
    (λ m i j h. first.0 m i j ((removes.0 m i j).0 h).0, λ x. removes.1 x ∙ first.1 x)

-- the table in the end is that of what it has of the list
pub held_table : (book : List Node) (puts : List Put) (pairs left : List Pair) (old new : Table) → IsTable puts pairs old → Deletes book old new → AreThose (IsHeldBy new) pairs left → IsTable puts left new
held_table book puts pairs left old new table deletes those = record {
  holds = λ m i j. (
    λ h. stays (IsHeldBy new) pairs left those (pair_of m i j) ((table.holds m i j).0 (less.0 m i j h)) h,
    λ h. left_is (IsHeldBy new) pairs left those (pair_of m i j) h,
  );
  put = λ x. less.1 x ∙ table.put x;
}
  where
    less : ((m : Mode) (i j : ℕ) → Holds new m i j → Holds old m i j) × ((x : ℕ) → put_in new x ≡ put_in old x)
    less = deletes_less book old new deletes

module _ (book : List Node) (puts : List Put) (wanted : List Pair) where
  -- a list that is left of the first one, and of which this is the table
  pub record IsLeftBy (pairs : List Pair) (table : Table) : Type 0 where
    pub left : List Pair
    pub is : IsLeft book puts wanted left
    pub of : IsTable puts left table
    pub within : (pair : Pair) → Contains left pair → Contains pairs pair

  -- the table without the pair is that of the list without it
  table_without : (pair : Pair) (pairs left : List Pair) (old new : Table) → AreThose (Other pair) pairs left → IsTable puts pairs old
      → RemovesPair pair.mode pair.left pair.right old new → IsTable puts left new
  table_without pair pairs left old new those is removes = record {
    holds = λ m i j. (λ h. to m i j ((removes.0 m i j).0 h), λ h. (removes.0 m i j).1 (from m i j h));
    put = λ x. removes.1 x ∙ is.put x;
  }
    where
      to : (m : Mode) (i j : ℕ) → Holds old m i j × ((pair.mode ≡ m) × (pair.left ≡ i) × (pair.right ≡ j) → ⊥) → Claims left m i j
      to m i j h =
          stays (Other pair) pairs left those (pair_of m i j) ((is.holds m i j).0 h.0)
          (λ e. h.1 (ap (λ (s : Pair). s.mode) e, ap (λ (s : Pair). s.left) e, ap (λ (s : Pair). s.right) e))

      from : (m : Mode) (i j : ℕ) → Claims left m i j → Holds old m i j × ((pair.mode ≡ m) × (pair.left ≡ i) × (pair.right ≡ j) → ⊥)
      from m i j h = (
        (is.holds m i j).1 (left_there (Other pair) pairs left those (pair_of m i j) h),
        λ e. left_is (Other pair) pairs left those (pair_of m i j) h (λ n. record { mode = e.0 n; left = e.1 n; right = e.2 n }),
      )

  -- one more pair that the table does not show is taken out
  one_less : (pairs : List Pair) (pair : Pair) (old new : Table) → IsLeftBy pairs old → (IsShownBy book old pair → ⊥)
      → RemovesPair pair.mode pair.left pair.right old new → IsLeftBy pairs new
  one_less pairs pair old new it not_so removes =
      let rest = without pair it.left in
      record {
        left = rest.0;
        is = left_without book puts wanted (Other pair) it.left rest.0 it.is rest.1 unjustified;
        of = table_without pair it.left rest.0 old new rest.1 it.of removes;
        within = λ q there. it.within q (left_there (Other pair) it.left rest.0 rest.1 q there);
      }
    where
      unjustified : (q : Pair) → (Other pair q → ⊥) → IsJustifiedBy book puts it.left q → ⊥
      unjustified q same justified =
          same (λ e. not_so (subst (IsShownBy book old) (sym e) (justified_shown book puts it.left old it.of q justified)))

  pub left_by : (pairs : List Pair) (old new : Table) → IsLeftBy pairs old → Deletes book old new → IsLeftBy pairs new
  left_by pairs old new it nothing = it
  left_by pairs old new it (one_more {mid = mid} pair before not_so removes) =
      one_less pairs pair mid new (left_by pairs old mid it before) not_so removes

  -- what the table has in the end is left of the list
  same_pairs : (pairs left : List Pair) (new : Table) (it : IsLeftBy pairs new) → AreThose (IsHeldBy new) pairs left → (pair : Pair) → Contains it.left pair ↔ Contains left pair
  same_pairs pairs left new it those pair = (
    λ there. stays (IsHeldBy new) pairs left those pair (it.within pair there) ((it.of.holds pair.mode pair.left pair.right).1 there),
    λ there. (it.of.holds pair.mode pair.left pair.right).0 (left_is (IsHeldBy new) pairs left those pair there),
  )

  pub held_left : (pairs left : List Pair) (old new : Table) → IsTable puts pairs old → Deletes book old new → AreThose (IsHeldBy new) pairs left
      → IsLeft book puts wanted pairs → IsLeft book puts wanted left
  held_left pairs left old new table deletes those is =
      let it = left_by pairs old new (record { left = pairs; is = is; of = table; within = λ pair there. there }) deletes in
      left_same book puts wanted it.left left it.is (same_pairs pairs left new it those)
