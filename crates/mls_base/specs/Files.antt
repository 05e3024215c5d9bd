-- Files by their names.
use Rattle.std.specs.Prelude.{ℕ, List, find, bytes_eq, Option, option_map}

-- names and bytes of files; where a name stands twice, its first entry counts
abbrev pub Files : Type 0
Files = List (List ℕ × List ℕ)

-- the bytes of the file of this name, where there is one
abbrev pub bytes_at : Files → List ℕ → Option (List ℕ)
bytes_at files name = option_map (λ file. file.1) (find (λ file. bytes_eq file.0 name) files)
