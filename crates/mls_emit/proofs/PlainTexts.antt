-- What is written plainly has a text.
--     plain_sections      sections of entries that are allowed, that may be spelled, and whose lines stand
use Rattle.std.proofs.Common.{◌≡◌, ◌≢◌, ℕ, List, [], ◌∷◌, ◌++◌, true, sym, subst}
use Rattle.std.specs.Prelude.{All, not, ◌==◌}
use Rattle.std.specs.List.{list_all}
use Rattle.std.proofs.lemmas.Bool.{and_parts, eq-eqb}
use Rattle.std.proofs.lemmas.List.Elements.{All-nil, All-cons, All-head, All-tail}
use Rattle.mls_base.specs.Spelling.{IsName}
use Rattle.mls_term.specs.declared.term.ResolvedBinding.{ResolvedBinding}
use Rattle.mls_typetext.specs.declared.scheme.ReadScheme.{ReadScheme}
use Rattle.mls_deriv.specs.declared.derivation.Section.{Section}
use Rattle.mls_deriv.specs.Sections.{AreSectionsAllowed}
use Rattle.mls_deriv.specs.Texts.{IsOneLine, IsSectionForm, IsSpelledSection, LinesStand}
use Rattle.mls_deriv.proofs.SectionForms.{section_form}
use Rattle.mls_iface.specs.declared.signature.SigEntry.{SigEntry}
use Rattle.mls_iface.specs.Signatures.{is_plain, IsEntry, IsPlain}
use Rattle.mls_emit.specs.Derived.{entry_names, entry_texts, section_names, section_texts}

-- a part of one line has no newline
abbrev IsNoNewline : ℕ → Type 0
IsNoNewline byte = byte ≢ 10

plain_one_line : (text : List ℕ) → IsPlain text → IsOneLine text
plain_one_line [] is = All-nil IsNoNewline
plain_one_line (byte ∷ rest) is =
    let parts = and_parts (is_plain byte) (list_all is_plain rest) is in
    let both = and_parts (not (byte == 10)) (not (byte == 35)) parts.0 in
    All-cons IsNoNewline byte rest (λ same. absurd (let yes_it : (byte == 10) ≡ true = eq-eqb byte 10 same in cc)) (plain_one_line rest parts.1)

head_same : (x y : List ℕ) (xs ys : List (List ℕ)) → x ∷ xs ≡ y ∷ ys → x ≡ y
head_same x y xs ys e = cc

tail_same : (x y : List ℕ) (xs ys : List (List ℕ)) → x ∷ xs ≡ y ∷ ys → xs ≡ ys
tail_same x y xs ys e = cc

pub plain_sections : (known : List ReadScheme) (bindings : List ResolvedBinding) (entries : List SigEntry) (sections : List Section) → section_names sections ≡ entry_names entries → section_texts sections ≡ entry_texts entries → All IsEntry entries
    → AreSectionsAllowed known bindings sections → All LinesStand sections → All IsSpelledSection sections → All IsSectionForm sections
plain_sections known [] entries [] names texts are allowed stand spelled = All-nil IsSectionForm
plain_sections known [] entries (s ∷ sections) names texts are allowed stand spelled = absurd allowed
plain_sections known (binding ∷ bindings) entries [] names texts are allowed stand spelled = absurd allowed
plain_sections known (binding ∷ bindings) [] (s ∷ sections) names texts are allowed stand spelled = absurd (cc)
plain_sections known (binding ∷ bindings) (e ∷ entries) (s ∷ sections) names texts are (read, allowed, later) stand spelled =
    let is : IsEntry e = All-head IsEntry e entries are in
    let name : s.name ≡ e.name = head_same s.name e.name (section_names sections) (entry_names entries) names in
    let text : s.text ≡ e.text = head_same s.text e.text (section_texts sections) (entry_texts entries) texts in
    All-cons IsSectionForm s sections
    (section_form s read (subst IsName (sym name) is.name) (subst IsOneLine (sym text) (plain_one_line e.text is.plain)) allowed.head
    (All-head IsSpelledSection s sections spelled) (All-head LinesStand s sections stand))
    (plain_sections (known ++ read ∷ []) bindings entries sections (tail_same s.name e.name (section_names sections) (entry_names entries) names) (tail_same s.text e.text (section_texts sections) (entry_texts entries) texts)
    (All-tail IsEntry e entries are) later (All-tail LinesStand s sections stand) (All-tail IsSpelledSection s sections spelled))
