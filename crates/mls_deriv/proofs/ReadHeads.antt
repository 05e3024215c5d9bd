-- The line of a name and a type, read from its front.
use Rattle.std.proofs.Common.{◌≡◌, ◌≢◌, ℕ, ◌+◌, ◌<◌, true, false, List, [], ◌∷◌, ◌++◌, length, take, drop, sym, ap, subst, ◌∙◌, refl, arith, nat_eq, append_assoc, Some, None, length-append}
use Rattle.std.specs.Prelude.{codes, Option, MatchOption, bytes_eq}
use Rattle.std.specs.Borrow.{Bor}
use Rattle.std.specs.List.{slice_split}
use Rattle.std.proofs.lemmas.Bool.{ne_eqb}
use Rattle.std.proofs.lemmas.List.{append_cancel_left, drop_at, get_or_at, take-append-drop, take_at}
use Rattle.std.proofs.lemmas.List.Elements.{All-nil, All-cons, All-head, All-tail, All-drop}
use Rattle.std.proofs.lemmas.List.Splits.{slice_split_at}
use Rattle.std.proofs.lemmas.Slice.Eq.{bytes_eq-Decides}
use Rattle.mls_base.specs.Spelling.{IsName}
use Rattle.mls_typetext.specs.declared.scheme.ReadScheme.{ReadScheme}
use Rattle.mls_typetext.specs.Texts.{IsTypeText}
use Rattle.mls_deriv.specs.Texts.{IsOneLine}
use Rattle.mls_deriv.specs.BadLines.{Begins, val_line}
use Rattle.mls_deriv.specs.inner.Readings.{IsOneWord}
use Rattle.mls_deriv.proofs.SpelledNumbers.{HasNoSpace}
use Rattle.mls_deriv.proofs.SpelledNodes.{name_bytes}
use Rattle.mls_deriv.proofs.TextLines.{Line, Val, letters, one_val}
use Rattle.mls_deriv.proofs.ReadParts.{front_is, no_front}

abbrev Cut : List ℕ → List ℕ → Bor (List ℕ) → Type 0
Cut text piece x = (bytes_eq (take (length piece) text) piece ≡ true) × (x.now ≡ drop (length piece) text) × (length x.now + length piece ≡ length text)

-- what stands behind a piece
pub behind_is : (text piece : List ℕ) (r : Option (Bor (List ℕ))) → MatchOption r (bytes_eq (take (length piece) text) piece ≡ false) (λ x. Cut text piece x)
    → MatchOption r (Begins text piece → ⊥) (λ rest. text ≡ piece ++ rest.now)
behind_is text piece None h = λ begins.
    let taken : take (length piece) text ≡ piece = ap (take (length piece)) begins.1 ∙ take_at piece begins.0 (length piece) refl in
    let same : bytes_eq (take (length piece) text) piece ≡ true = (bytes_eq-Decides (take (length piece) text) piece).1 taken in absurd (cc)
behind_is text piece (Some x) h =
    let front : take (length piece) text ≡ piece = (bytes_eq-Decides (take (length piece) text) piece).0 h.0 in
    sym (take-append-drop (length piece) text) ∙ (λ i. front i ++ sym h.1 i)

-- words
no_space : (word : List ℕ) → IsOneWord word → HasNoSpace word
no_space [] h = All-nil (λ byte. nat_eq byte 32 ≡ false)
no_space (b ∷ rest) h = All-cons (λ byte. nat_eq byte 32 ≡ false) b rest (ne_eqb b 32 (All-head (λ byte. byte ≢ 32) b rest h)) (no_space rest (All-tail (λ byte. byte ≢ 32) b rest h))

val_bytes : (name type : List ℕ) → codes "val " ++ name ++ codes " : " ++ type ≡ codes "val " ++ (name ++ (codes " : " ++ type))
val_bytes name type = simp append_assoc refl

abbrev first : List (List ℕ) → List ℕ
first [] = []
first (word ∷ words) = word

abbrev behind_first : List ℕ → List ℕ
behind_first [] = []
behind_first (b ∷ rest) = rest

-- what stands behind the first word of such a line
rest_of : (line rest name type : List ℕ) → line ≡ codes "val " ++ rest → line ≡ codes "val " ++ name ++ codes " : " ++ type → rest ≡ name ++ (32 ∷ (codes ": " ++ type))
rest_of line rest name type e e' = append_cancel_left (codes "val ") rest (name ++ (32 ∷ (codes ": " ++ type))) (sym e ∙ (e' ∙ val_bytes name type))

pub no_val : (line name type : List ℕ) → (Begins line (codes "val ") → ⊥) → line ≡ codes "val " ++ name ++ codes " : " ++ type → ⊥
no_val line name type none e = none (name ++ (codes " : " ++ type), e ∙ val_bytes name type)

pub no_word : (line rest name type : List ℕ) → line ≡ codes "val " ++ rest → IsOneWord rest → line ≡ codes "val " ++ name ++ codes " : " ++ type → ⊥
no_word line rest name type e one e' =
    let is = rest_of line rest name type e e' in
    let all : IsOneWord (name ++ (32 ∷ (codes ": " ++ type))) = subst IsOneWord is one in
    let low : length name < length (name ++ (32 ∷ (codes ": " ++ type))) = (let size : length (name ++ (32 ∷ (codes ": " ++ type))) ≡ length name + length (32 ∷ (codes ": " ++ type)) = length-append name (32 ∷ (codes ": " ++ type)) in omega arith) in
    all (length name) 0 low (get_or_at name 32 (codes ": " ++ type) 0 (length name) refl)

pub word_is : (line rest word more name type : List ℕ) → line ≡ codes "val " ++ rest → IsOneWord word → rest ≡ word ++ (32 ∷ more) → IsName name → line ≡ codes "val " ++ name ++ codes " : " ++ type → (word ≡ name) × (more ≡ codes ": " ++ type)
word_is line rest word more name type e one cut is e' =
    let both : word ++ (32 ∷ more) ≡ name ++ (32 ∷ (codes ": " ++ type)) = sym cut ∙ rest_of line rest name type e e' in
    let parts : word ∷ slice_split (λ byte. nat_eq byte 32) more ≡ name ∷ slice_split (λ byte. nat_eq byte 32) (codes ": " ++ type) =
    sym (slice_split_at (λ byte. nat_eq byte 32) word 32 more (no_space word one) refl)
    ∙ (ap (slice_split (λ byte. nat_eq byte 32)) both ∙ slice_split_at (λ byte. nat_eq byte 32) name 32 (codes ": " ++ type) (name_bytes name (letters name is)) refl) in
    let same : word ≡ name = ap first parts in
    let rests : 32 ∷ more ≡ 32 ∷ (codes ": " ++ type) = append_cancel_left word (32 ∷ more) (32 ∷ (codes ": " ++ type)) (both ∙ ap (λ n. n ++ (32 ∷ (codes ": " ++ type))) (sym same)) in
    (same, ap behind_first rests)

pub no_colon : (line rest word more name type : List ℕ) → line ≡ codes "val " ++ rest → IsOneWord word → rest ≡ word ++ (32 ∷ more) → (Begins more (codes ": ") → ⊥) → IsName name → line ≡ codes "val " ++ name ++ codes " : " ++ type → ⊥
no_colon line rest word more name type e one cut none is e' = none (type, (word_is line rest word more name type e one cut is e').1)

pub no_name : (line rest word more name type : List ℕ) → line ≡ codes "val " ++ rest → IsOneWord word → rest ≡ word ++ (32 ∷ more) → (IsName word → ⊥) → IsName name → line ≡ codes "val " ++ name ++ codes " : " ++ type → ⊥
no_name line rest word more name type e one cut none is e' = none (subst IsName (sym (word_is line rest word more name type e one cut is e').0) is)

pub val_is : (line rest word more type : List ℕ) → line ≡ codes "val " ++ rest → rest ≡ word ++ (32 ∷ more) → more ≡ codes ": " ++ type → line ≡ codes "val " ++ word ++ codes " : " ++ type
val_is line rest word more type e cut colon = e ∙ (ap (λ t. codes "val " ++ t) (cut ∙ ap (λ t. word ++ (32 ∷ t)) colon) ∙ sym (val_bytes word type))

-- heads
pub no_head_at_end : (text name type : List ℕ) → IsOneLine text → IsName name → IsOneLine type → Begins text (val_line name type) → ⊥
no_head_at_end text name type one is one' begins = no_front text (Val name type) begins.0 one (is, one') begins.1

pub no_head_in_front : (text line rest name type : List ℕ) → IsOneLine line → text ≡ line ++ (10 ∷ rest) → ((n t : List ℕ) → IsName n → line ≡ codes "val " ++ n ++ codes " : " ++ t → ⊥) → IsName name → IsOneLine type → Begins text (val_line name type) → ⊥
no_head_in_front text line rest name type one e none is one' begins = none name type is (front_is line rest (Val name type) begins.0 one (is, one') (sym e ∙ begins.1))

type_of : Line → List ℕ
type_of (Val name type) = type
type_of _ = []

pub no_type_in_front : (text line rest word found name type : List ℕ) (read : ReadScheme) → IsOneLine line → text ≡ line ++ (10 ∷ rest) → IsName word → line ≡ codes "val " ++ word ++ codes " : " ++ found
    → ((r : ReadScheme) → IsTypeText found r → ⊥) → IsName name → IsOneLine type → IsTypeText type read → Begins text (val_line name type) → ⊥
unfolding type_of
no_type_in_front text line rest word found name type read one e named spelled none is one' reads begins =
    let other : line ≡ codes "val " ++ name ++ codes " : " ++ type = front_is line rest (Val name type) begins.0 one (is, one') (sym e ∙ begins.1) in
    let same : Val name type ≡ Val word found = one_val name type word found is named (sym other ∙ spelled) in
    none read (subst (λ t. IsTypeText t read) (ap type_of same) reads)

-- the type of a line stands on one line
pub type_on_line : (line name type : List ℕ) → IsOneLine line → line ≡ codes "val " ++ name ++ codes " : " ++ type → IsOneLine type
type_on_line line name type one e =
    let all : IsOneLine ((codes "val " ++ name ++ codes " : ") ++ type) = subst IsOneLine e one in
    subst IsOneLine (drop_at (codes "val " ++ name ++ codes " : ") type (length (codes "val " ++ name ++ codes " : ")) refl)
    (All-drop (λ byte. byte ≢ 10) (length (codes "val " ++ name ++ codes " : ")) ((codes "val " ++ name ++ codes " : ") ++ type) all)
