-- A text has one first bad line at most, and none if it is that of a derivation.
use Rattle.std.proofs.Common.{◌≡◌, ◌⊎◌, inl, inr, ℕ, ◌+◌, ◌<◌, suc, List, [], ◌++◌, length, sym, ap, subst, ◌∙◌, refl, append-nil}
use Rattle.std.specs.Prelude.{All, codes}
use Rattle.std.specs.List.{flat_map, sum_by}
use Rattle.std.proofs.lemmas.Bool.{cases_order}
use Rattle.std.proofs.lemmas.List.{append_cancel_left}
use Rattle.mls_book.specs.declared.book.Node.{Node}
use Rattle.mls_typetext.specs.declared.scheme.ReadScheme.{ReadScheme}
use Rattle.mls_deriv.specs.declared.derivation.Derivation.{Derivation}
use Rattle.mls_deriv.specs.declared.derivation.Section.{Section}
use Rattle.mls_deriv.specs.Spellings.{node_line, line_text, section_text}
use Rattle.mls_deriv.specs.Texts.{IsSectionForm, IsTextOf}
use Rattle.mls_deriv.specs.BadLines.{val_line, Fits, HasLines, IsBadSection, bad_val, bad_node, bad_line, line_count, IsFirstBadLine, no_head, in_section}
use Rattle.mls_deriv.specs.TextLaws.{OneReading}
use Rattle.mls_deriv.proofs.TextParts.{one_stop, stay, all_fit, one_lines, one_head, grouped, section_head, section_lines, section_fits, one_section}

-- what fits also fits under equal names
fits_as : (read read' : ReadScheme) (nodes nodes' : List Node) (i : ℕ) → read ≡ read' → nodes ≡ nodes' → Fits read.book nodes i → Fits read'.book nodes' i
fits_as read read' nodes nodes' i e e' fits = subst (λ (r : ReadScheme). Fits r.book nodes' i) e (subst (λ (ns : List Node). Fits read.book ns i) e' fits)

-- a section has no bad line
pub not_bad_section : (s : Section) (r : List ℕ) (k : ℕ) → IsSectionForm s → IsBadSection (section_text s ++ r) k → ⊥
not_bad_section s r _ is (bad_val lacks) = lacks s.name s.text is.read is.name is.one_line is.head.text (flat_map node_line s.nodes ++ (flat_map line_text s.lines ++ (codes "end\n" ++ r)), grouped (val_line s.name s.text) (flat_map node_line s.nodes) (flat_map line_text s.lines) (codes "end\n") r)
not_bad_section s r _ is (bad_node read nodes rest i head low before unfit) =
    let same = one_head (section_text s ++ r) is.read read s.nodes nodes (flat_map line_text s.lines ++ (codes "end\n" ++ r)) rest (section_head (section_text s ++ r) s is r refl) head in
    unfit (fits_as is.read read s.nodes nodes i same.reads same.same_nodes (section_fits s is i))
not_bad_section s r _ is (bad_line read nodes rest lines left head fits has no_end) =
    let same = one_head (section_text s ++ r) is.read read s.nodes nodes (flat_map line_text s.lines ++ (codes "end\n" ++ r)) rest (section_head (section_text s ++ r) s is r refl) head in
    let mine : HasLines (length nodes) rest s.lines (codes "end\n" ++ r) =
    subst (λ (ns : List Node). HasLines (length ns) rest s.lines (codes "end\n" ++ r)) same.same_nodes (subst (λ t. HasLines (length s.nodes) t s.lines (codes "end\n" ++ r)) same.rests (section_lines s is r)) in
    let ends = one_lines (length nodes) rest s.lines lines (codes "end\n" ++ r) left mine has in
    no_end (r, sym ends.1)

-- the least number of which something does not hold
least : (P : ℕ → Type 0) (i j : ℕ) → ((k : ℕ) → k < i → P k) → (P i → ⊥) → ((k : ℕ) → k < j → P k) → (P j → ⊥) → i ≡ j
least P i j before not before' not' = go (cases_order i j)
  where
    go : (i ≡ j) ⊎ ((i < j) ⊎ (j < i)) → i ≡ j
    go (inl e) = e
    go (inr (inl low)) = absurd (not (before' i low))
    go (inr (inr low)) = absurd (not' (before j low))

pub one_bad_section : (text : List ℕ) (k m : ℕ) → IsBadSection text k → IsBadSection text m → k ≡ m
one_bad_section text _ _ (bad_val lacks) (bad_val lacks') = refl
one_bad_section text _ _ (bad_val lacks) (bad_node read nodes rest i head low before unfit) = absurd (lacks head.name head.type read head.is_name head.one_line head.type_is (flat_map node_line nodes ++ rest, head.spelled))
one_bad_section text _ _ (bad_val lacks) (bad_line read nodes rest lines left head fits has no_end) = absurd (lacks head.name head.type read head.is_name head.one_line head.type_is (flat_map node_line nodes ++ rest, head.spelled))
one_bad_section text _ _ (bad_node read nodes rest i head low before unfit) (bad_val lacks) = absurd (lacks head.name head.type read head.is_name head.one_line head.type_is (flat_map node_line nodes ++ rest, head.spelled))
one_bad_section text _ _ (bad_line read nodes rest lines left head fits has no_end) (bad_val lacks) = absurd (lacks head.name head.type read head.is_name head.one_line head.type_is (flat_map node_line nodes ++ rest, head.spelled))
one_bad_section text _ _ (bad_node read nodes rest i head low before unfit) (bad_node read' nodes' rest' j head' low' before' unfit') =
    let same = one_head text read read' nodes nodes' rest rest' head head' in
    ap suc (least (Fits read'.book nodes') i j (λ k h. fits_as read read' nodes nodes' k same.reads same.same_nodes (before k h))
    (λ h. unfit (fits_as read' read nodes' nodes i (sym same.reads) (sym same.same_nodes) h)) before' unfit')
one_bad_section text _ _ (bad_node read nodes rest i head low before unfit) (bad_line read' nodes' rest' lines left head' fits has no_end) =
    let same = one_head text read read' nodes nodes' rest rest' head head' in
    absurd (unfit (fits_as read' read nodes' nodes i (sym same.reads) (sym same.same_nodes) (fits i)))
one_bad_section text _ _ (bad_line read nodes rest lines left head fits has no_end) (bad_node read' nodes' rest' i head' low before unfit) =
    let same = one_head text read read' nodes nodes' rest rest' head head' in
    absurd (unfit (fits_as read read' nodes nodes' i same.reads same.same_nodes (fits i)))
one_bad_section text _ _ (bad_line read nodes rest lines left head fits has no_end) (bad_line read' nodes' rest' lines' left' head' fits' has' no_end') =
    let same = one_head text read read' nodes nodes' rest rest' head head' in
    let moved : HasLines (length nodes') rest' lines left =
    subst (λ (ns : List Node). HasLines (length ns) rest' lines left) same.same_nodes (subst (λ t. HasLines (length nodes) t lines left) same.rests has) in
    let ends = one_lines (length nodes') rest' lines lines' left left' moved has' in
    λ i. suc (length (same.same_nodes i) + length (ends.0 i))

one_sections : (ss others : List Section) (r s : List ℕ) → All IsSectionForm ss → All IsSectionForm others → ((x : Section) (more : List ℕ) → IsSectionForm x → r ≡ section_text x ++ more → ⊥)
    → ((x : Section) (more : List ℕ) → IsSectionForm x → s ≡ section_text x ++ more → ⊥) → flat_map section_text ss ++ r ≡ flat_map section_text others ++ s → (ss ≡ others) × (r ≡ s)
one_sections ss others r s all all' stop stop' e =
    one_stop section_text (λ (g : Unit {0}) x. IsSectionForm x) stay one_section tt ss others r s (all_fit IsSectionForm ss all) (all_fit IsSectionForm others all') stop stop' e

-- no section stands in front of a bad one
bad_stops : (rest : List ℕ) (k : ℕ) → IsBadSection rest k → (x : Section) (more : List ℕ) → IsSectionForm x → rest ≡ section_text x ++ more → ⊥
bad_stops rest k bad x more is e = not_bad_section x more k is (subst (λ t. IsBadSection t k) e bad)

nothing_stops : (x : Section) (more : List ℕ) → IsSectionForm x → [] ≡ section_text x ++ more → ⊥
nothing_stops x more is e = cc

not_both : (text : List ℕ) (d : Derivation) (n : ℕ) → IsTextOf text d → IsFirstBadLine text n → ⊥
not_both text d _ is (no_head lacks) = lacks (flat_map section_text d.sections, is.spelled)
not_both text d _ is (in_section sections rest k forms full spelled bad) =
    let e : flat_map section_text d.sections ++ [] ≡ flat_map section_text sections ++ rest =
    append-nil (flat_map section_text d.sections) ∙ append_cancel_left (codes "derivation 1\n") (flat_map section_text d.sections) (flat_map section_text sections ++ rest) (sym is.spelled ∙ spelled) in
    let same = one_sections d.sections sections [] rest is.sections forms nothing_stops (bad_stops rest k bad) e in
    full (sym same.1)

one_bad : (text : List ℕ) (n m : ℕ) → IsFirstBadLine text n → IsFirstBadLine text m → n ≡ m
one_bad text _ _ (no_head lacks) (no_head lacks') = refl
one_bad text _ _ (no_head lacks) (in_section sections rest k forms full spelled bad) = absurd (lacks (flat_map section_text sections ++ rest, spelled))
one_bad text _ _ (in_section sections rest k forms full spelled bad) (no_head lacks) = absurd (lacks (flat_map section_text sections ++ rest, spelled))
one_bad text _ _ (in_section sections rest k forms full spelled bad) (in_section sections' rest' k' forms' full' spelled' bad') =
    let e : flat_map section_text sections ++ rest ≡ flat_map section_text sections' ++ rest' =
    append_cancel_left (codes "derivation 1\n") (flat_map section_text sections ++ rest) (flat_map section_text sections' ++ rest') (sym spelled ∙ spelled') in
    let same = one_sections sections sections' rest rest' forms forms' (bad_stops rest k bad) (bad_stops rest' k' bad') e in
    let numbers : k ≡ k' = one_bad_section rest' k k' (subst (λ t. IsBadSection t k) same.1 bad) bad' in
    λ i. 2 + (sum_by line_count (same.0 i) + numbers i)

pub one_reading : OneReading
one_reading text = record { not_both = not_both text; one_bad = one_bad text }
