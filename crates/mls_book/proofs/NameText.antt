-- A name is text: each of its bytes is ASCII.
use Rattle.std.proofs.Common.{◌≡◌, ℕ, zero, suc, ◌<◌, Bool, true, false, ◌&&◌, List, [], ◌∷◌, arith, refl}
use Rattle.std.specs.Prelude.{IsTrue}
use Rattle.std.specs.List.{list_all}
use Rattle.std.specs.Str.{IsAscii, IsUtf8}
use Rattle.std.proofs.lemmas.Str.{IsUtf8-from_ascii}
use Rattle.std.proofs.lemmas.Str.Ascii.{IsAscii-nil}
use Rattle.std.proofs.lemmas.Bool.Decides.{nat_tests}
use Rattle.mls_base.specs.Spelling.{IsName, is_name_byte, begins_lower, is_spelled}

and-both : (a b : Bool) → (a && b) ≡ true → (a ≡ true) × (b ≡ true)
and-both true b h = (λ _. true, h)
and-both false b h = absurd (cc)

ascii_byte : (b : ℕ) → is_name_byte b ≡ true → b < 128
ascii_byte b h = grind (arith, nat_tests)

IsAscii-more : (b : ℕ) (rest : List ℕ) → b < 128 → IsAscii rest → IsAscii (b ∷ rest)
IsAscii-more b rest h more zero = h
IsAscii-more b rest h more (suc i) = more i

IsAscii-name_bytes : (bytes : List ℕ) → list_all is_name_byte bytes ≡ true → IsAscii bytes
IsAscii-name_bytes [] h = IsAscii-nil
IsAscii-name_bytes (b ∷ rest) h =
    let both = and-both (is_name_byte b) (list_all is_name_byte rest) h in
    IsAscii-more b rest (ascii_byte b both.0) (IsAscii-name_bytes rest both.1)

true_test : (b : Bool) → IsTrue b → b ≡ true
true_test true h = refl
true_test false h = absurd (cc)

pub name_is_text : (bytes : List ℕ) → IsName bytes → IsUtf8 bytes
name_is_text bytes n =
    IsUtf8-from_ascii bytes (IsAscii-name_bytes bytes (and-both (begins_lower bytes) (list_all is_name_byte bytes) (true_test (is_spelled bytes) n.spelled)).1)
