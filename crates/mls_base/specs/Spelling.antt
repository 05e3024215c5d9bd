-- How names are spelled.
use Rattle.std.specs.Prelude.{◌≡◌, ℕ, Bool, false, ◌&&◌, ◌||◌, nat_le, ◌==◌, List, [], ◌∷◌, codes, bytes_eq, IsTrue}
use Rattle.std.specs.List.{list_any, list_all}

-- the words that no name is
abbrev pub reserved_words : List (List ℕ)
reserved_words =
    codes "and" ∷ codes "bool" ∷ codes "bot" ∷ codes "else" ∷ codes "false" ∷ codes "format" ∷ codes "fun" ∷ codes "if"
    ∷ codes "import" ∷ codes "in" ∷ codes "int" ∷ codes "let" ∷ codes "rec" ∷ codes "then" ∷ codes "top" ∷ codes "true"
    ∷ codes "type" ∷ codes "val" ∷ []

-- a letter `a` to `z`
abbrev pub is_lower : ℕ → Bool
is_lower byte = nat_le 97 byte && nat_le byte 122

-- a letter, a digit or `_`
abbrev pub is_name_byte : ℕ → Bool
is_name_byte byte =
    is_lower byte || (nat_le 65 byte && nat_le byte 90) || (nat_le 48 byte && nat_le byte 57) || (byte == 95)

-- the first byte is a letter `a` to `z`
abbrev pub begins_lower : List ℕ → Bool
begins_lower [] = false
begins_lower (first ∷ rest) = is_lower first

-- a small letter, and then letters, digits and `_`
abbrev pub is_spelled : List ℕ → Bool
is_spelled bytes = begins_lower bytes && list_all is_name_byte bytes

-- one of the reserved words
unfoldable pub is_reserved : List ℕ → Bool
is_reserved bytes = list_any (bytes_eq bytes) reserved_words

-- a name that is no reserved word
pub record IsName (bytes : List ℕ) : Type 0 where
  pub spelled : IsTrue (is_spelled bytes)
  pub free : is_reserved bytes ≡ false
