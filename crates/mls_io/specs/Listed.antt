-- What a store and a sink in memory hold whose listed calls fail.
use Rattle.std.specs.Prelude.{ℕ, ◌+◌, min, nat_lt, ◌==◌, List, [], ◌∷◌, Bool, map, filter, find, length, Option, Some}
use Rattle.std.specs.Prelude.{option_map}
use Rattle.std.specs.List.{list_any}
use Rattle.mls_base.specs.Files.{Files}
use Rattle.mls_io.specs.Counts.{Count, count_of, no_count}
use Rattle.mls_io.specs.Memory.{Shelf, new_shelf}
use Rattle.mls_io.specs.Stores.{Holdings}
use Rattle.mls_io.specs.Sinks.{Written}
use Rattle.mls_io.specs.declared.failing.FailAt.{FailAt}

-- this number stands in the list
abbrev pub is_listed : List ℕ → ℕ → Bool
is_listed numbers n = list_any (λ number. number == n) numbers

-- how many entries of a list of numbers are below n
abbrev pub count_below : List ℕ → ℕ → ℕ
count_below numbers n = length (filter (λ number. nat_lt number n) numbers)

-- how many entries of a list are numbers of calls that were made, where calls are counted from 0
abbrev pub made_of : List ℕ → Count → Count
made_of numbers calls = record { value = count_below numbers calls.value; is_worn = calls.is_worn }

-- one call more, up to the last value of a counter
abbrev pub next_count : Count → Count
next_count calls = count_of (min (calls.value + 1) 18446744073709551615)

-- files in memory, the numbers of the calls that fail, and how many calls were made
pub record FailingShelf : Type 0 where
  pub shelf : Shelf
  pub failing : List ℕ
  pub calls : Count

-- a store in memory that was not yet asked, and of which these calls will fail
abbrev pub new_failing_shelf : Files → List ℕ → FailingShelf
new_failing_shelf files failing = record { shelf = new_shelf files; failing = failing; calls = no_count }

-- it tells its files, and its faults are the listed calls that were made
abbrev pub failing_holdings : FailingShelf → Holdings
failing_holdings store = record {
  files = Some store.shelf.files;
  faults = made_of store.failing store.calls;
  misses = store.shelf.misses;
  longs = store.shelf.longs;
}

-- how many bytes a put keeps that fails, where the put of this number is listed; the first entry of a number counts
abbrev pub kept_at : List FailAt → ℕ → Option ℕ
kept_at failing n = option_map (λ entry. entry.kept) (find (λ entry. entry.call == n) failing)

-- bytes in memory, the puts that fail, and how many pieces that are not empty were put
pub record FailingTape : Type 0 where
  pub bytes : List ℕ
  pub failing : List FailAt
  pub puts : Count

-- a sink in memory without bytes, of which these puts will fail
abbrev pub new_failing_tape : List FailAt → FailingTape
new_failing_tape failing = record { bytes = []; failing = failing; puts = no_count }

-- it tells its bytes, and its faults are the listed puts that were made
abbrev pub failing_written : FailingTape → Written
failing_written sink = record {
  bytes = Some sink.bytes;
  faults = made_of (map (λ entry. entry.call) sink.failing) sink.puts;
}

-- the count of puts behind a put of this piece: empty ones do not count
abbrev pub counted_puts : Count → List ℕ → Count
counted_puts puts [] = puts
counted_puts puts (byte ∷ rest) = next_count puts
