-- What a store over a directory is.
use Rattle.std.specs.Prelude.{ℕ, List, None}
use Rattle.mls_io.specs.Counts.{Count, no_count}
use Rattle.mls_io.specs.Stores.{Holdings}

-- the path of the directory, and how often a file could not be read, was missing, or was too long
pub record Directory : Type 0 where
  pub folder : List ℕ
  pub faults : Count
  pub misses : Count
  pub longs : Count

-- a store over a directory that was not yet asked
abbrev pub new_directory : List ℕ → Directory
new_directory folder = record {
  folder = folder;
  faults = no_count;
  misses = no_count;
  longs = no_count;
}

-- it does not tell its files
abbrev pub untold_holdings : Directory → Holdings
untold_holdings directory = record {
  files = None;
  faults = directory.faults;
  misses = directory.misses;
  longs = directory.longs;
}
