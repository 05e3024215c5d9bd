-- What is learned of files by fetching some of them.
use Rattle.std.specs.Prelude.{◌≡◌, ◌⊎◌, ℕ, List, Contains, Option, Some, None}
use Rattle.mls_base.specs.Files.{Files, bytes_at}
use Rattle.mls_grammar.specs.declared.module.Import.{Import}
use Rattle.mls_top.specs.Answers.{MayBeThose}
use Rattle.mls_top.specs.Lines.{module_file, interface_file}

-- the files have the same bytes under these names
abbrev pub Agree : (List ℕ → Type 0) → Files → Files → Type 0
Agree names files others = (x : List ℕ) → names x → bytes_at others x ≡ bytes_at files x

-- where the store tells nothing, there are no other files than some of these names
abbrev pub HasOnly : Option Files → (List ℕ → Type 0) → Files → Type 0
HasOnly (Some those) names files = Unit {0}
HasOnly None names files = (x : List ℕ) → (names x → ⊥) → bytes_at files x ≡ None

-- By fetches of files of these names, each once, this was learned: it holds of all files that have the same bytes under
-- these names as some files that may be those of the store.
pub record Learns (told : Option Files) (names : List ℕ → Type 0) (P : Files → Type 0) : Type 0 where
  pub files : Files
  pub of_store : MayBeThose told files
  pub only : HasOnly told names files
  pub holds : (others : Files) → Agree names files others → P others

-- the file is the interface of one of these imports
abbrev pub IsInterfaceFile : List Import → List ℕ → Type 0
IsInterfaceFile imports file = (i : Import) × Contains imports i × (file ≡ interface_file i.name)

-- the file is the text of the module of this name, or the interface of one of these imports
abbrev pub IsFileOf : List ℕ → List Import → List ℕ → Type 0
IsFileOf x imports file = (file ≡ module_file x) ⊎ IsInterfaceFile imports file
