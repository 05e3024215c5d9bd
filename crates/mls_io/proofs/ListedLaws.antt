-- How the count of listed calls goes on with the calls.
use Rattle.std.proofs.Common.{◌≡◌, ℕ, ◌+◌, ◌<◌, ◌≤◌, Bool, true, false, List, [], ◌∷◌, ◌++◌, take, drop, inl, inr, refl, ap, subst, sym, arith, true≢false}
use Rattle.std.proofs.lemmas.List.{take-append-drop}
use Rattle.std.specs.Prelude.{min, nat_lt, ◌==◌, IsTrue, ◌||◌, cond, filter, IsSomeAnd, length, find, map, Option, Some, None, option_map, is_some}
use Rattle.mls_io.specs.declared.failing.FailAt.{FailAt}
use Rattle.mls_io.specs.Counts.{Count, Grows, Rose}
use Rattle.mls_io.specs.Memory.{Shelf, shelf_holdings}
use Rattle.mls_io.specs.Stores as stores
use Rattle.mls_io.specs.Sinks as sinks
use Rattle.mls_io.specs.Sinks.{TakesSome}
use Rattle.mls_io.specs.Listed.{is_listed, count_below, made_of, next_count, FailingShelf, failing_holdings, kept_at, FailingTape, failing_written}

-- one number more or less
count_below-cons : (number : ℕ) (numbers : List ℕ) (n : ℕ) → count_below (number ∷ numbers) n ≡ cond (nat_lt number n) 1 0 + count_below numbers n
count_below-cons number numbers n = by (nat_lt number n)
  where
    by : (b : Bool) → length (cond b (number ∷ filter (λ other. nat_lt other n) numbers) (filter (λ other. nat_lt other n) numbers)) ≡ cond b 1 0 + count_below numbers n
    by true = omega arith
    by false = omega arith

-- no fewer entries are below a greater number
pub count_below-le : (numbers : List ℕ) (n m : ℕ) → n ≤ m → count_below numbers n ≤ count_below numbers m
count_below-le [] n m le = omega arith
count_below-le (number ∷ numbers) n m le =
    let first : cond (nat_lt number n) 1 0 ≤ cond (nat_lt number m) 1 0 = grind arith in
    omega (arith, count_below-cons number numbers n, count_below-cons number numbers m, first, count_below-le numbers n m le)

-- the entry of a number counts once the number is passed
pub count_below-listed : (numbers : List ℕ) (n : ℕ) → IsTrue (is_listed numbers n) → count_below numbers n < count_below numbers (n + 1)
count_below-listed [] n listed = absurd (true≢false (sym listed))
count_below-listed (number ∷ numbers) n listed = by (number == n) refl listed (λ later. count_below-listed numbers n later)
  where
    by : (b : Bool) → (number == n) ≡ b → IsTrue (b || is_listed numbers n) → (IsTrue (is_listed numbers n) → count_below numbers n < count_below numbers (n + 1))
        → count_below (number ∷ numbers) n < count_below (number ∷ numbers) (n + 1)
    by true is _ _ =
        let first : cond (nat_lt number n) 1 0 < cond (nat_lt number (n + 1)) 1 0 = grind arith in
        omega (arith, count_below-cons number numbers n, count_below-cons number numbers (n + 1), first, count_below-le numbers n (n + 1) (omega arith))
    by false _ later rest =
        let first : cond (nat_lt number n) 1 0 ≤ cond (nat_lt number (n + 1)) 1 0 = grind arith in
        omega (arith, count_below-cons number numbers n, count_below-cons number numbers (n + 1), first, rest later)

-- faults do not fall where the calls do not
pub made_of-Grows : (numbers : List ℕ) (old new : Count) → Grows old new → Grows (made_of numbers old) (made_of numbers new)
made_of-Grows numbers old new grows = record { value = count_below-le numbers old.value new.value grows.value; worn = grows.worn }

-- they rise at a listed call
pub made_of-Rose : (numbers : List ℕ) (calls : Count) → IsTrue (is_listed numbers calls.value) → Rose (made_of numbers calls) (made_of numbers (next_count calls))
made_of-Rose numbers calls listed = by (min (calls.value + 1) 18446744073709551615 == 18446744073709551615) refl
  where
    by : (b : Bool) → (min (calls.value + 1) 18446744073709551615 == 18446744073709551615) ≡ b → Rose (made_of numbers calls) (made_of numbers (next_count calls))
    by true last = inr last
    by false before =
        let next : min (calls.value + 1) 18446744073709551615 ≡ calls.value + 1 = grind arith in
        inl (subst (λ (n : ℕ). count_below numbers calls.value < count_below numbers n) (sym next) (count_below-listed numbers calls.value listed))

-- a put that is listed with what it keeps is listed
pub kept_at-listed : (failing : List FailAt) (n kept : ℕ) → kept_at failing n ≡ Some kept → IsTrue (is_listed (map (λ entry. entry.call) failing) n)
kept_at-listed [] n kept found = absurd (true≢false (sym (ap is_some found)))
kept_at-listed (entry ∷ failing) n kept found = by (entry.call == n) found (λ later. kept_at-listed failing n kept later)
  where
    by : (b : Bool) → option_map (λ (e : FailAt). e.kept) (cond b (Some entry) (find (λ (e : FailAt). e.call == n) failing)) ≡ Some kept
        → (kept_at failing n ≡ Some kept → IsTrue (is_listed (map (λ (e : FailAt). e.call) failing) n))
        → IsTrue (b || is_listed (map (λ (e : FailAt). e.call) failing) n)
    by true _ _ = refl
    by false later rest = rest later

-- a store whose calls were counted while its files were asked
pub asked-Follows : (old : FailingShelf) (shelf : Shelf) (calls : Count) → stores.Follows (shelf_holdings old.shelf) (shelf_holdings shelf) → Grows old.calls calls
    → stores.Follows (failing_holdings old) (failing_holdings (record { shelf = shelf; failing = old.failing; calls = calls }))
asked-Follows old shelf calls follows grows = record {
  files = follows.files;
  faults = made_of-Grows old.failing old.calls calls grows;
  misses = follows.misses;
  longs = follows.longs;
}

-- a sink whose puts were counted
pub put-Follows : (old : FailingTape) (bytes : List ℕ) (puts : Count) → Grows old.puts puts
    → sinks.Follows (failing_written old) (failing_written (record { bytes = bytes; failing = old.failing; puts = puts }))
put-Follows old bytes puts grows = record { told = refl; faults = made_of-Grows (map (λ entry. entry.call) old.failing) old.puts puts grows }

-- a listed put rises the faults, and adds a part of the piece
pub put-TakesSome : (old : FailingTape) (bytes piece : List ℕ) → IsSomeAnd (kept_at old.failing old.puts.value) (λ kept. bytes ≡ old.bytes ++ take kept piece)
    → TakesSome (failing_written old) (failing_written (record { bytes = bytes; failing = old.failing; puts = next_count old.puts })) piece
put-TakesSome old bytes piece kept = by (kept_at old.failing old.puts.value) refl kept
  where
    by : (o : Option ℕ) → kept_at old.failing old.puts.value ≡ o → IsSomeAnd o (λ k. bytes ≡ old.bytes ++ take k piece)
        → TakesSome (failing_written old) (failing_written (record { bytes = bytes; failing = old.failing; puts = next_count old.puts })) piece
    by None _ none = absurd none
    by (Some k) found adds = record {
      counted = made_of-Rose (map (λ (entry : FailAt). entry.call) old.failing) old.puts (kept_at-listed old.failing old.puts.value k found);
      taken = take k piece;
      left = drop k piece;
      parts = sym (take-append-drop k piece);
      adds = ap Some adds;
    }
