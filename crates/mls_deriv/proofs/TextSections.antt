-- Texts by their lines, and sections read from their lines.
use Rattle.std.proofs.Common.{◌≡◌, ℕ, List, [], ◌∷◌, ◌++◌, map, sym, ap, ◌∙◌, refl, nat_eq, append-nil, append_assoc}
use Rattle.std.specs.Prelude.{All, codes}
use Rattle.std.specs.List.{flat_map, slice_split}
use Rattle.std.proofs.lemmas.List.{append_cancel_left, append_cancel_right}
use Rattle.std.proofs.lemmas.List.Concat.{flat_map-append}
use Rattle.std.proofs.lemmas.List.Folds.{flat_map-map}
use Rattle.std.proofs.lemmas.List.Elements.{All-nil, All-cons, All-head, All-tail, All-append}
use Rattle.std.proofs.lemmas.List.Splits.{slice_split_at}
use Rattle.mls_book.specs.declared.book.Node.{Node}
use Rattle.mls_deriv.specs.declared.derivation.Derivation.{Derivation}
use Rattle.mls_deriv.specs.declared.derivation.Section.{Section}
use Rattle.mls_deriv.specs.declared.derivation.SectionLine.{SectionLine}
use Rattle.mls_deriv.specs.Spellings.{node_line, line_text, section_text, derivation_text}
use Rattle.mls_deriv.specs.Forms.{IsNodeForm, IsLineForm}
use Rattle.mls_deriv.specs.Texts.{IsSectionForm, IsTextOf}
use Rattle.mls_deriv.proofs.TextLines.{Line, Val, Of_node, Of, End, IsForm, bytes, bare, one_of_lines}

-- the lines of a section
abbrev section_lines : Section → List Line
section_lines s = Val s.name s.text ∷ (map Of_node s.nodes ++ (map Of s.lines ++ End ∷ []))

abbrev sections_lines : List Section → List Line
sections_lines = flat_map section_lines

abbrev spelling : Line → List ℕ
spelling l = bytes l ++ codes "\n"

grouped : (head nodes lines end : List ℕ) → head ++ nodes ++ lines ++ end ≡ head ++ (nodes ++ (lines ++ end))
grouped head nodes lines end = simp append_assoc refl

section_spelled : (s : Section) → section_text s ≡ flat_map spelling (section_lines s)
section_spelled s =
    let head = codes "val " ++ s.name ++ codes " : " ++ s.text ++ codes "\n" in
    let nodes : flat_map spelling (map Of_node s.nodes) ≡ flat_map node_line s.nodes = flat_map-map spelling Of_node s.nodes in
    let lines : flat_map spelling (map Of s.lines) ≡ flat_map line_text s.lines = flat_map-map spelling Of s.lines in
    let behind : flat_map spelling (map Of s.lines ++ End ∷ []) ≡ flat_map line_text s.lines ++ codes "end\n" =
    flat_map-append spelling (map Of s.lines) (End ∷ []) ∙ ap (λ t. t ++ codes "end\n") lines in
    let all : flat_map spelling (map Of_node s.nodes ++ (map Of s.lines ++ End ∷ [])) ≡ flat_map node_line s.nodes ++ (flat_map line_text s.lines ++ codes "end\n") =
    flat_map-append spelling (map Of_node s.nodes) (map Of s.lines ++ End ∷ []) ∙ (λ i. nodes i ++ behind i) in
    grouped head (flat_map node_line s.nodes) (flat_map line_text s.lines) (codes "end\n") ∙ ap (λ t. head ++ t) (sym all)

sections_spelled : (ss : List Section) → flat_map section_text ss ≡ flat_map spelling (sections_lines ss)
sections_spelled [] = refl
sections_spelled (s ∷ ss) = (λ i. section_spelled s i ++ sections_spelled ss i) ∙ sym (flat_map-append spelling (section_lines s) (sections_lines ss))

-- the lines of a section stand in texts
nodes_forms : (nodes : List Node) → All IsNodeForm nodes → All IsForm (map Of_node nodes)
nodes_forms [] all = All-nil IsForm
nodes_forms (n ∷ nodes) all = All-cons IsForm (Of_node n) (map Of_node nodes) (All-head IsNodeForm n nodes all) (nodes_forms nodes (All-tail IsNodeForm n nodes all))

lines_forms : (lines : List SectionLine) → All IsLineForm lines → All IsForm (map Of lines)
lines_forms [] all = All-nil IsForm
lines_forms (l ∷ lines) all = All-cons IsForm (Of l) (map Of lines) (All-head IsLineForm l lines all) (lines_forms lines (All-tail IsLineForm l lines all))

section_forms : (s : Section) → IsSectionForm s → All IsForm (section_lines s)
section_forms s is =
    let end : All IsForm (End ∷ []) = All-cons IsForm End [] tt (All-nil IsForm) in
    All-cons IsForm (Val s.name s.text) (map Of_node s.nodes ++ (map Of s.lines ++ End ∷ [])) (is.name, is.one_line)
    (All-append IsForm (map Of_node s.nodes) (map Of s.lines ++ End ∷ []) (nodes_forms s.nodes is.nodes)
    (All-append IsForm (map Of s.lines) (End ∷ []) (lines_forms s.lines is.lines) end))

sections_forms : (ss : List Section) → All IsSectionForm ss → All IsForm (sections_lines ss)
sections_forms [] all = All-nil IsForm
sections_forms (s ∷ ss) all =
    All-append IsForm (section_lines s) (sections_lines ss) (section_forms s (All-head IsSectionForm s ss all)) (sections_forms ss (All-tail IsSectionForm s ss all))

-- a text is cut at its newlines into its lines
cut : List ℕ → List (List ℕ)
cut = slice_split (λ byte. nat_eq byte 10)

cut_lines : (ls : List Line) → All IsForm ls → cut (flat_map spelling ls) ≡ map bytes ls ++ ([] ∷ [])
unfolding cut
cut_lines [] all = refl
cut_lines (l ∷ ls) all =
    ap (slice_split (λ byte. nat_eq byte 10)) (append_assoc (bytes l) (codes "\n") (flat_map spelling ls))
    ∙ (slice_split_at (λ byte. nat_eq byte 10) (bytes l) 10 (flat_map spelling ls) (bare l (All-head IsForm l ls all)) refl
    ∙ ap (λ words. bytes l ∷ words) (cut_lines ls (All-tail IsForm l ls all)))

first : List (List ℕ) → List ℕ
first [] = []
first (word ∷ words) = word

behind : List (List ℕ) → List (List ℕ)
behind [] = []
behind (word ∷ words) = words

same_lines : (ls others : List Line) → All IsForm ls → All IsForm others → map bytes ls ≡ map bytes others → ls ≡ others
unfolding first behind
same_lines [] [] all all' e = refl
same_lines [] (m ∷ ms) all all' e = absurd (cc)
same_lines (l ∷ ls) [] all all' e = absurd (cc)
same_lines (l ∷ ls) (m ∷ ms) all all' e =
    let head : l ≡ m = one_of_lines l m (All-head IsForm l ls all) (All-head IsForm m ms all') (ap first e) in
    let tail : ls ≡ ms = same_lines ls ms (All-tail IsForm l ls all) (All-tail IsForm m ms all') (ap behind e) in
    λ i. head i ∷ tail i

-- sections, read from their lines
record Read : Type 0 where
  nodes : List Node
  lines : List SectionLine
  sections : List Section

put : Line → Read → Read
put (Val name type) r = record { nodes = []; lines = []; sections = record { name = name; text = type; nodes = r.nodes; lines = r.lines } ∷ r.sections }
put (Of_node n) r = record r { nodes = n ∷ r.nodes }
put (Of l) r = record r { lines = l ∷ r.lines }
put End r = record r { nodes = []; lines = [] }

read : List Line → Read
read [] = record { nodes = []; lines = []; sections = [] }
read (l ∷ ls) = put l (read ls)

read_lines : (lines : List SectionLine) (ls : List Line) → read (map Of lines ++ ls) ≡ record (read ls) { lines = lines ++ (read ls).lines }
unfolding read put
read_lines [] ls = refl
read_lines (l ∷ lines) ls = ap (put (Of l)) (read_lines lines ls)

read_nodes : (nodes : List Node) (ls : List Line) → read (map Of_node nodes ++ ls) ≡ record (read ls) { nodes = nodes ++ (read ls).nodes }
unfolding read put
read_nodes [] ls = refl
read_nodes (n ∷ nodes) ls = ap (put (Of_node n)) (read_nodes nodes ls)

section_read : (s : Section) (ls : List Line) → (read (section_lines s ++ ls)).sections ≡ s ∷ (read ls).sections
unfolding read put
section_read s ls =
    let assoc : (map Of_node s.nodes ++ (map Of s.lines ++ End ∷ [])) ++ ls ≡ map Of_node s.nodes ++ (map Of s.lines ++ End ∷ ls) =
    append_assoc (map Of_node s.nodes) (map Of s.lines ++ End ∷ []) ls ∙ ap (λ t. map Of_node s.nodes ++ t) (append_assoc (map Of s.lines) (End ∷ []) ls) in
    let whole : read (map Of_node s.nodes ++ (map Of s.lines ++ End ∷ ls)) ≡ record { nodes = s.nodes; lines = s.lines; sections = (read ls).sections } =
    read_nodes s.nodes (map Of s.lines ++ End ∷ ls)
    ∙ (ap (λ (r : Read). record r { nodes = s.nodes ++ r.nodes }) (read_lines s.lines (End ∷ ls))
    ∙ (λ i. record { nodes = append-nil s.nodes i; lines = append-nil s.lines i; sections = (read ls).sections })) in
    ap (λ others. (put (Val s.name s.text) (read others)).sections) assoc ∙ ap (λ (r : Read). (put (Val s.name s.text) r).sections) whole

sections_read : (ss : List Section) → (read (sections_lines ss)).sections ≡ ss
unfolding read
sections_read [] = refl
sections_read (s ∷ ss) = section_read s (sections_lines ss) ∙ ap (λ others. s ∷ others) (sections_read ss)

-- derivations with the same text are the same
pub one_derivation : (text : List ℕ) (d other : Derivation) → IsTextOf text d → IsTextOf text other → d ≡ other
one_derivation text d other is is' =
    let ls = sections_lines d.sections in
    let others = sections_lines other.sections in
    let texts : derivation_text d ≡ derivation_text other = sym is.spelled ∙ is'.spelled in
    let sections : flat_map section_text d.sections ≡ flat_map section_text other.sections =
    append_cancel_left (codes "derivation 1\n") (flat_map section_text d.sections) (flat_map section_text other.sections) texts in
    let spelled : flat_map spelling ls ≡ flat_map spelling others = sym (sections_spelled d.sections) ∙ (sections ∙ sections_spelled other.sections) in
    let forms = sections_forms d.sections is.sections in
    let forms' = sections_forms other.sections is'.sections in
    let parts : map bytes ls ++ ([] ∷ []) ≡ map bytes others ++ ([] ∷ []) = sym (cut_lines ls forms) ∙ (ap cut spelled ∙ cut_lines others forms') in
    let same : ls ≡ others = same_lines ls others forms forms' (append_cancel_right (map bytes ls) (map bytes others) ([] ∷ []) parts) in
    let all : d.sections ≡ other.sections = sym (sections_read d.sections) ∙ (ap (λ lines. (read lines).sections) same ∙ sections_read other.sections) in
    ap (λ ss. record { sections = ss }) all
