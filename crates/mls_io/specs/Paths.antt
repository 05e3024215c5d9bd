-- What a search path over stores holds.
use Rattle.std.specs.Prelude.{◌≡◌, ◌≢◌, ◌+◌, ◌||◌, ℕ, List, [], ◌∷◌, ◌++◌, map, Option, Some, None, IfSome}
use Rattle.mls_base.specs.Files.{Files, bytes_at}
use Rattle.mls_io.specs.Counts.{Count, Rose, no_count}
use Rattle.mls_io.specs.Stores.{Holdings, Follows, IsAsked}
use Rattle.mls_io.specs.declared.store.Fetch.{Fetch}
use Rattle.mls_io.specs.declared.store.Fetch.TheVariants.{Missing}

-- the sum of two counts, which is worn where one of them is
abbrev pub plus : Count → Count → Count
plus first second = record { value = first.value + second.value; is_worn = first.is_worn || second.is_worn }

-- the sum of counts, which is worn where one of them is
abbrev pub total : List Count → Count
total [] = no_count
total (count ∷ rest) = plus count (total rest)

-- the files of both, those of the first before those of the second, where both are told
abbrev pub then_files : Option Files → Option Files → Option Files
then_files (Some first) (Some second) = Some (first ++ second)
then_files (Some first) None = None
then_files None second = None

-- the files of all members one after another, where all are told
abbrev pub files_in_turn : List Holdings → Option Files
files_in_turn [] = Some []
files_in_turn (member ∷ rest) = then_files member.files (files_in_turn rest)

-- what a path with this count of misses holds over members that hold these
abbrev pub joined : Count → List Holdings → Holdings
joined misses members = record {
  files = files_in_turn members;
  faults = total (map (λ member. member.faults) members);
  misses = misses;
  longs = total (map (λ member. member.longs) members);
}

-- a member answered that it has no such file
pub record Misses (name : List ℕ) (old new : Holdings) : Type 0 where
  pub follows : Follows old new
  pub counted : Rose old.misses new.misses
  pub told : IfSome old.files (λ files. bytes_at files name ≡ None)

-- each of these members answered so, in turn
abbrev pub EachMisses : List ℕ → List Holdings → List Holdings → Type 0
EachMisses name [] [] = Unit {0}
EachMisses name [] (new ∷ news) = ⊥
EachMisses name (old ∷ olds) [] = ⊥
EachMisses name (old ∷ olds) (new ∷ news) = Misses name old new × EachMisses name olds news

-- Some members answered that they have no such file, the next one answered otherwise, and those behind it were not
-- asked.
pub record StopsEarly (olds news : List Holdings) (name : List ℕ) (limit : ℕ) (before after : List ℕ)
    (answer : Fetch) : Type 0 where
  pub front : List Holdings
  pub later_front : List Holdings
  pub old : Holdings
  pub new : Holdings
  pub rest : List Holdings
  pub olds_are : olds ≡ front ++ old ∷ rest
  pub news_are : news ≡ later_front ++ new ∷ rest
  pub missed : EachMisses name front later_front
  pub asked : IsAsked old new name limit before after answer
  pub other : answer ≢ Missing
