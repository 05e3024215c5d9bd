-- What a map of files has, read as a list of files.
use Rattle.std.proofs.Common.{◌≡◌, ℕ, Bool, true, false, List, [], ◌∷◌, ◌++◌, refl, ap, subst, sym, ◌∙◌, append_assoc, true≢false}
use Rattle.std.specs.Prelude.{Some, None, is_some, option_map, bytes_eq, cond, map, find}
use Rattle.std.specs.Prelude.{◌↔◌, ◌||◌, IsTrue}
use Rattle.std.specs.List.{list_any}
use Rattle.std.specs.Map.{lookup}
use Rattle.std.proofs.lemmas.Cmp.{nat_list_eq_equiv}
use Rattle.indexmap.specs.IndexMap.{insert_entry}
use Rattle.mls_base.specs.Files.{Files, bytes_at}
use Rattle.mls_io.specs.Memory.{HasDistinctNames}

-- what is under no name of a list is under none of its parts
absent_parts : (file : List ℕ × List ℕ) (rest : Files) (name : List ℕ) → bytes_at (file ∷ rest) name ≡ None → (bytes_eq file.0 name ≡ false) × (bytes_at rest name ≡ None)
absent_parts file rest name absent = by (bytes_eq file.0 name) absent
  where
    by : (b : Bool) → option_map (λ (f : List ℕ × List ℕ). f.1) (cond b (Some file) (find (λ (f : List ℕ × List ℕ). bytes_eq f.0 name) rest)) ≡ None → (b ≡ false) × (bytes_at rest name ≡ None)
    by true found = absurd (true≢false (ap is_some found))
    by false later = (refl, later)

-- a file has another name than one that is later
apart_before : (front : Files) (file : List ℕ × List ℕ) (rest : Files) (name : List ℕ) → bytes_at (front ++ file ∷ rest) name ≡ None → bytes_eq file.0 name ≡ false
apart_before [] file rest name absent = (absent_parts file rest name absent).0
apart_before (first ∷ front) file rest name absent = apart_before front file rest name (absent_parts first (front ++ file ∷ rest) name absent).1

-- where names are distinct, there is no file of this name before this one
absent_before : (front : Files) (file : List ℕ × List ℕ) (rest : Files) → HasDistinctNames (front ++ file ∷ rest) → bytes_at front file.0 ≡ None
absent_before [] file rest distinct = refl
absent_before (first ∷ front) file rest distinct =
    let other : bytes_eq first.0 file.0 ≡ false = nat_list_eq_equiv.symm first.0 file.0 ∙ apart_before front file rest first.0 distinct.0 in
    (λ i. option_map (λ (f : List ℕ × List ℕ). f.1) (cond (other i) (Some first) (find (λ (f : List ℕ × List ℕ). bytes_eq f.0 file.0) front)))
    ∙ absent_before front file rest distinct.1

-- the entries of a map as files
module _ {K X : Type 0} (name_of : K → List ℕ) (bytes_of : X → List ℕ) where
  abbrev pub files_of : List (K × X) → Files
  files_of entries = map (λ entry. (name_of entry.0, bytes_of entry.1)) entries

  -- the file of a name is what the map has at it
  pub bytes_at-files_of : (entries : List (K × X)) (name : List ℕ) → bytes_at (files_of entries) name ≡ option_map bytes_of (lookup (λ key. bytes_eq name (name_of key)) entries)
  bytes_at-files_of [] name = refl
  bytes_at-files_of (entry ∷ rest) name =
      (λ t. option_map (λ (file : List ℕ × List ℕ). file.1) (cond (nat_list_eq_equiv.symm (name_of entry.0) name t) (Some (name_of entry.0, bytes_of entry.1)) (find (λ (file : List ℕ × List ℕ). bytes_eq file.0 name) (files_of rest))))
      ∙ by (bytes_eq name (name_of entry.0)) (bytes_at-files_of rest name)
    where
      by : (b : Bool)
          → bytes_at (files_of rest) name ≡ option_map bytes_of (lookup (λ key. bytes_eq name (name_of key)) rest)
          → option_map (λ (file : List ℕ × List ℕ). file.1) (cond b (Some (name_of entry.0, bytes_of entry.1)) (find (λ (file : List ℕ × List ℕ). bytes_eq file.0 name) (files_of rest)))
          ≡ option_map bytes_of (cond b (Some entry.1) (lookup (λ key. bytes_eq name (name_of key)) rest))
      by true _ = refl
      by false later = later

  -- a new name goes last
  module _ (eq : K → K → Bool) (by_name : (j k : K) → eq j k ≡ bytes_eq (name_of j) (name_of k)) where
    pub files_of-insert_entry : (entries : List (K × X)) (key : K) (value : X) → bytes_at (files_of entries) (name_of key) ≡ None
        → files_of (insert_entry eq entries key value) ≡ files_of entries ++ (name_of key, bytes_of value) ∷ []
    files_of-insert_entry [] key value absent = refl
    files_of-insert_entry (entry ∷ rest) key value absent =
        let parts = absent_parts (name_of entry.0, bytes_of entry.1) (files_of rest) (name_of key) absent in
        let other : eq key entry.0 ≡ false = by_name key entry.0 ∙ nat_list_eq_equiv.symm (name_of key) (name_of entry.0) ∙ parts.0 in
        (λ i. files_of (cond (other i) ((entry.0, value) ∷ rest) (entry ∷ insert_entry eq rest key value)))
        ∙ ap (λ files. (name_of entry.0, bytes_of entry.1) ∷ files) (files_of-insert_entry rest key value parts.1)

    -- where the names of all files are distinct, the next one goes last
    pub files_of-insert_next : (entries : List (K × X)) (key : K) (value : X) (front behind rest : Files) (file : List ℕ × List ℕ)
        → files_of entries ≡ front → (name_of key, bytes_of value) ≡ file → behind ≡ file ∷ rest → HasDistinctNames (front ++ behind)
        → files_of (insert_entry eq entries key value) ≡ front ++ file ∷ []
    files_of-insert_next entries key value front behind rest file filled is next distinct =
        let absent : bytes_at front file.0 ≡ None = absent_before front file rest (subst (λ (files : Files). HasDistinctNames (front ++ files)) next distinct) in
        files_of-insert_entry entries key value ((λ i. bytes_at (filled i) (is i).0) ∙ absent)
        ∙ (λ i. filled i ++ is i ∷ [])

-- taking the next file leaves the files that were taken and those that are left
pub split_next : (front behind rest all : Files) (file : List ℕ × List ℕ) → behind ≡ file ∷ rest → front ++ behind ≡ all → front ++ file ∷ [] ++ rest ≡ all
split_next front behind rest all file next split = append_assoc front (file ∷ []) rest ∙ (λ i. front ++ sym next i) ∙ split

-- a name is under none of the files where no file has it
any-absent : (files : Files) (name : List ℕ) → (list_any (λ file. bytes_eq file.0 name) files ≡ false) ↔ (bytes_at files name ≡ None)
any-absent [] name = ((λ _. refl), (λ _. refl))
any-absent (file ∷ files) name = by (any-absent files name) (bytes_eq file.0 name)
  where
    by : (list_any (λ file. bytes_eq file.0 name) files ≡ false) ↔ (bytes_at files name ≡ None) → (b : Bool) → ((b || list_any (λ file. bytes_eq file.0 name) files) ≡ false) ↔ (option_map (λ (f : List ℕ × List ℕ). f.1) (cond b (Some file) (find (λ (f : List ℕ × List ℕ). bytes_eq f.0 name) files)) ≡ None)
    by rest true = ((λ h. absurd (cc)), (λ h. absurd (cc)))
    by rest false = rest

-- one file more
pub distinct_more : (files rest : Files) (file : List ℕ × List ℕ) → files ≡ file ∷ rest → list_any (λ other. bytes_eq other.0 file.0) rest ≡ false → (b : Bool) → IsTrue b ↔ HasDistinctNames rest → IsTrue b ↔ HasDistinctNames files
distinct_more files rest file split apart b h = subst (λ (files : Files). IsTrue b ↔ HasDistinctNames files) (sym split) ((λ is. ((any-absent rest file.0).0 apart, h.0 is)), (λ is. h.1 is.1))

pub not_distinct : (files rest : Files) (file : List ℕ × List ℕ) → files ≡ file ∷ rest → list_any (λ other. bytes_eq other.0 file.0) rest ≡ true → HasDistinctNames files → ⊥
not_distinct files rest file split among is =
    let P : Files → Type 0 = λ files. HasDistinctNames files in
    let apart = (any-absent rest file.0).1 (subst P split is).0 in
    absurd (cc)
