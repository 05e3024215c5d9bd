-- The entries of a signature, and their text.
use Rattle.std.specs.Prelude.{◌≢◌, ℕ, Bool, not, ◌&&◌, ◌==◌, List, [], ◌∷◌, ◌++◌, map, codes, All, AllPairs, IsTrue}
use Rattle.std.specs.List.{list_all}
use Rattle.mls_base.specs.Spelling.{IsName}
use Rattle.mls_typetext.specs.Texts.{IsTypeText}
use Rattle.mls_iface.specs.declared.signature.SigEntry.{SigEntry}

-- a byte that is no newline and no `#`, with which comments begin
abbrev pub is_plain : ℕ → Bool
is_plain byte = not (byte == 10) && not (byte == 35)

-- a part of one line, without comment
abbrev pub IsPlain : List ℕ → Type 0
IsPlain text = IsTrue (list_all is_plain text)

-- the entry has a name, and its text is a type on one line, which is read as its scheme
pub record IsEntry (e : SigEntry) : Type 0 where
  pub name : IsName e.name
  pub plain : IsPlain e.text
  pub reads : IsTypeText e.text e.scheme

-- the entries are such, and each name stands once
pub record AreEntries (entries : List SigEntry) : Type 0 where
  pub each : All IsEntry entries
  pub distinct : AllPairs (λ x y. x ≢ y) (map (λ e. e.name) entries)

-- the line that declares a name with the text of a type
abbrev pub val_line : (name text : List ℕ) → List ℕ
val_line name text = codes "val " ++ name ++ codes " : " ++ text ++ codes "\n"

-- the text of a signature: a line `val NAME : TYPE` for each entry
abbrev pub entry_line : SigEntry → List ℕ
entry_line e = val_line e.name e.text

unfoldable pub signature_text : List SigEntry → List ℕ
signature_text [] = []
signature_text (e ∷ es) = entry_line e ++ signature_text es
