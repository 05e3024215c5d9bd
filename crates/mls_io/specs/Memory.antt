-- What the stores and sinks in memory hold.
use Rattle.std.specs.Prelude.{◌≡◌, ℕ, List, [], ◌∷◌, Some, None}
use Rattle.mls_base.specs.Files.{Files, bytes_at}
use Rattle.mls_io.specs.Counts.{Count, no_count}
use Rattle.mls_io.specs.Stores.{Holdings}
use Rattle.mls_io.specs.Sinks.{Written}

-- no file has the name of one after it
abbrev pub HasDistinctNames : Files → Type 0
HasDistinctNames [] = Unit {0}
HasDistinctNames (file ∷ rest) = (bytes_at rest file.0 ≡ None) × HasDistinctNames rest

-- the files of a store in memory, and how often one was missing or too long
pub record Shelf : Type 0 where
  pub files : Files
  pub misses : Count
  pub longs : Count

-- a store in memory that was not yet asked
abbrev pub new_shelf : Files → Shelf
new_shelf files = record { files = files; misses = no_count; longs = no_count }

-- it tells its files, and none ever fails
abbrev pub shelf_holdings : Shelf → Holdings
shelf_holdings shelf = record {
  files = Some shelf.files;
  faults = no_count;
  misses = shelf.misses;
  longs = shelf.longs;
}

-- a sink in memory tells its bytes, and never fails
abbrev pub sure_written : List ℕ → Written
sure_written bytes = record { bytes = Some bytes; faults = no_count }
