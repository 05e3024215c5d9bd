-- What is written of a phrase whose names are names has no newline and no comment.
use Rattle.std.proofs.Common.{◌≡◌, ℕ, true, Bool, not, ◌&&◌, ◌==◌, List, [], ◌∷◌, ◌++◌, refl, sym, ◌∙◌, subst, codes, arith}
use Rattle.std.specs.List.{list_all}
use Rattle.std.proofs.lemmas.Bool.{and_parts, and_from}
use Rattle.std.proofs.lemmas.Bool.Decides.{nat_tests}
use Rattle.std.proofs.lemmas.List.Folds.{list_all-append}
use Rattle.mls_base.specs.Spelling.{IsName, is_lower, is_name_byte}
use Rattle.mls_typetext.specs.Phrases.{Sort, Phrase, recursive, joined, no_codomain, to, joins, no_join, or, meets, no_meet, and, named, boolean, integer, top, bot, parens, braces, no_field, first_field, last_field, next_field}
use Rattle.mls_print.specs.Layouts.{written}
use Rattle.mls_print.specs.Laws.{IsOneLine, PrintedIsOneLine}
use Rattle.mls_print.proofs.WrittenPhrases.{HasNames}
use Rattle.mls_print.proofs.ReadsBack.{named_phrase}

abbrev is_plain : ℕ → Bool
is_plain byte = not (byte == 10) && not (byte == 35)

name_byte_plain : (byte : ℕ) → is_name_byte byte ≡ true → is_plain byte ≡ true
name_byte_plain byte h = grind (arith, nat_tests)

name_bytes_plain : (bytes : List ℕ) → list_all is_name_byte bytes ≡ true → IsOneLine bytes
name_bytes_plain [] h = refl
name_bytes_plain (byte ∷ bytes) h =
    let parts = and_parts (is_name_byte byte) (list_all is_name_byte bytes) h in
    and_from (is_plain byte) (list_all is_plain bytes) (name_byte_plain byte parts.0) (name_bytes_plain bytes parts.1)

pub name-one_line : (x : List ℕ) → IsName x → IsOneLine x
name-one_line [] h = refl
name-one_line (first ∷ rest) h = name_bytes_plain (first ∷ rest) (and_parts (is_lower first) (list_all is_name_byte (first ∷ rest)) h.spelled).1

pub one_line-append : (xs ys : List ℕ) → IsOneLine xs → IsOneLine ys → IsOneLine (xs ++ ys)
one_line-append xs ys h h' = list_all-append is_plain xs ys ∙ (λ i. h i && h' i)

-- a name before a rest
name_before : (x rest : List ℕ) → IsName x → IsOneLine rest → IsOneLine (x ++ rest)
name_before x rest is h = one_line-append x rest (name-one_line x is) h

pub written-one_line : {s : Sort} (p : Phrase s) → HasNames IsName p → (rest : List ℕ) → IsOneLine rest → IsOneLine (written p rest)
unfolding written
written-one_line (recursive x t) is rest h =
    one_line-append (codes "rec ") (x ++ (codes ". " ++ written t rest)) refl
    (name_before x (codes ". " ++ written t rest) is.0 (one_line-append (codes ". ") (written t rest) refl (written-one_line t is.1 rest h)))
written-one_line (joined j c) is rest h = written-one_line j is.0 (written c rest) (written-one_line c is.1 rest h)
written-one_line no_codomain is rest h = h
written-one_line (to t) is rest h = one_line-append (codes " -> ") (written t rest) refl (written-one_line t is rest h)
written-one_line (joins m t) is rest h = written-one_line m is.0 (written t rest) (written-one_line t is.1 rest h)
written-one_line no_join is rest h = h
written-one_line (or m t) is rest h = one_line-append (codes " | ") (written m (written t rest)) refl (written-one_line m is.0 (written t rest) (written-one_line t is.1 rest h))
written-one_line (meets a t) is rest h = written-one_line a is.0 (written t rest) (written-one_line t is.1 rest h)
written-one_line no_meet is rest h = h
written-one_line (and a t) is rest h = one_line-append (codes " & ") (written a (written t rest)) refl (written-one_line a is.0 (written t rest) (written-one_line t is.1 rest h))
written-one_line (named x) is rest h = name_before x rest is h
written-one_line boolean is rest h = one_line-append (codes "bool") rest refl h
written-one_line integer is rest h = one_line-append (codes "int") rest refl h
written-one_line top is rest h = one_line-append (codes "top") rest refl h
written-one_line bot is rest h = one_line-append (codes "bot") rest refl h
written-one_line (parens t) is rest h =
    one_line-append (codes "(") (written t (codes ")" ++ rest)) refl (written-one_line t is (codes ")" ++ rest) (one_line-append (codes ")") rest refl h))
written-one_line (braces f) is rest h = one_line-append (codes "{") (written f rest) refl (written-one_line f is rest h)
written-one_line no_field is rest h = one_line-append (codes "}") rest refl h
written-one_line (first_field label t f) is rest h =
    name_before label (codes ": " ++ written t (written f rest)) is.0
    (one_line-append (codes ": ") (written t (written f rest)) refl (written-one_line t is.1 (written f rest) (written-one_line f is.2 rest h)))
written-one_line last_field is rest h = one_line-append (codes "}") rest refl h
written-one_line (next_field label t f) is rest h =
    one_line-append (codes ", ") (label ++ (codes ": " ++ written t (written f rest))) refl
    (name_before label (codes ": " ++ written t (written f rest)) is.0
    (one_line-append (codes ": ") (written t (written f rest)) refl (written-one_line t is.1 (written f rest) (written-one_line f is.2 rest h))))

pub printed_is_one_line : PrintedIsOneLine
printed_is_one_line s text is labelled no_env it short =
    subst IsOneLine (sym it.written_as) (written-one_line _ (named_phrase s text is labelled no_env it short) [] refl)
