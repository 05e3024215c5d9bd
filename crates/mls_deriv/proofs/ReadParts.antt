-- How texts are read part by part.
use Rattle.std.proofs.Common.{◌≡◌, ◌⊎◌, inl, inr, ℕ, ◌+◌, ◌<◌, ◌≤◌, List, [], ◌∷◌, ◌++◌, length, sym, ap, subst, ◌∙◌, refl, arith, nat_eq, append-nil, append_assoc, length-append, None}
use Rattle.std.specs.Prelude.{All, codes}
use Rattle.std.specs.List.{flat_map, slice_split, count_by, sum_by}
use Rattle.std.proofs.lemmas.Bool.{cases_lt}
use Rattle.std.proofs.lemmas.List.Concat.{flat_map-append}
use Rattle.std.proofs.lemmas.List.Elements.{All-from_get_or, All-push}
use Rattle.std.proofs.lemmas.List.Sums.{sum_by_push}
use Rattle.std.proofs.lemmas.List.Splits.{slice_split_at, slice_split_none, length-slice_split}
use Rattle.mls_base.specs.Spelling.{IsName}
use Rattle.mls_book.specs.declared.book.Node.{Node}
use Rattle.mls_book.specs.declared.book.Node.TheVariants as node
use Rattle.mls_book.specs.Books.{HasChildrenBelow}
use Rattle.mls_typetext.specs.declared.scheme.ReadScheme.{ReadScheme}
use Rattle.mls_typetext.specs.Texts.{IsTypeText}
use Rattle.mls_deriv.specs.declared.derivation.Section.{Section}
use Rattle.mls_deriv.specs.declared.derivation.SectionLine.{SectionLine}
use Rattle.mls_deriv.specs.Sections.{IsHeadRead}
use Rattle.mls_deriv.specs.Spellings.{node_line, line_text, section_text}
use Rattle.mls_deriv.specs.Forms.{IsNodeForm, IsLineForm}
use Rattle.mls_deriv.specs.Texts.{IsOneLine, Given, after, Stands, AllStand, IsSectionForm, IsTextOf}
use Rattle.mls_deriv.specs.BadLines.{Begins, val_line, HasHead, Fits, given_by, HasLines, IsBadSection, line_count, IsFirstBadLine, in_section}
use Rattle.mls_deriv.specs.inner.Readings.{IsNodeRead, IsLineRead, HasNodes}
use Rattle.mls_deriv.proofs.TextLines.{Line, Of_node, Of, IsForm, bytes, bare, text_bare}
use Rattle.mls_deriv.proofs.TextParts.{grouped}

abbrev behind_first : List ℕ → List ℕ
behind_first [] = []
behind_first (b ∷ rest) = rest

abbrev first : List (List ℕ) → List ℕ
first [] = []
first (word ∷ words) = word

abbrev others : List (List ℕ) → List (List ℕ)
others [] = []
others (word ∷ words) = words

-- what is spelled on the line in front of a text
pub spelled_in_front : (text line rest spelling : List ℕ) → text ≡ line ++ (10 ∷ rest) → line ≡ spelling → text ≡ (spelling ++ codes "\n") ++ rest
spelled_in_front text line rest spelling e is = e ∙ (ap (λ t. t ++ (10 ∷ rest)) is ∙ sym (append_assoc spelling (codes "\n") rest))

-- a line that a text begins with is the one in front
pub front_is : (line rest : List ℕ) (l : Line) (more : List ℕ) → IsOneLine line → IsForm l → line ++ (10 ∷ rest) ≡ (bytes l ++ codes "\n") ++ more → line ≡ bytes l
front_is line rest l more one is e =
    let parts : line ∷ slice_split (λ byte. nat_eq byte 10) rest ≡ bytes l ∷ slice_split (λ byte. nat_eq byte 10) more =
    sym (slice_split_at (λ byte. nat_eq byte 10) line 10 rest (text_bare line one) refl)
    ∙ (ap (slice_split (λ byte. nat_eq byte 10)) (e ∙ append_assoc (bytes l) (codes "\n") more) ∙ slice_split_at (λ byte. nat_eq byte 10) (bytes l) 10 more (bare l is) refl) in
    ap first parts

-- and there is none if there is no newline
pub no_front : (text : List ℕ) (l : Line) (more : List ℕ) → IsOneLine text → IsForm l → text ≡ (bytes l ++ codes "\n") ++ more → ⊥
no_front text l more one is e =
    let parts : text ∷ [] ≡ bytes l ∷ slice_split (λ byte. nat_eq byte 10) more =
    sym (slice_split_none (λ byte. nat_eq byte 10) text (text_bare text one))
    ∙ (ap (slice_split (λ byte. nat_eq byte 10)) (e ∙ append_assoc (bytes l) (codes "\n") more) ∙ slice_split_at (λ byte. nat_eq byte 10) (bytes l) 10 more (bare l is) refl) in
    let none : length (others (text ∷ [])) ≡ length (slice_split (λ byte. nat_eq byte 10) more) = ap (λ ws. length (others ws)) parts in
    let size : length (slice_split (λ byte. nat_eq byte 10) more) ≡ count_by (λ byte. nat_eq byte 10) more + 1 = length-slice_split (λ byte. nat_eq byte 10) more in
    absurd (omega arith)

-- the line in front of a text is that of no node
pub no_node_in_front : (text line rest : List ℕ) → IsOneLine line → text ≡ line ++ (10 ∷ rest) → IsNodeRead line None → (n : Node) → IsNodeForm n → Begins text (node_line n) → ⊥
no_node_in_front text line rest one e none n is begins = none n is (front_is line rest (Of_node n) begins.0 one is (sym e ∙ begins.1))

pub no_node_at_end : (text : List ℕ) → IsOneLine text → (n : Node) → IsNodeForm n → Begins text (node_line n) → ⊥
no_node_at_end text one n is begins = no_front text (Of_node n) begins.0 one is begins.1

-- the line in front of a text may not stand there
pub no_line_in_front : (count : ℕ) (g : Given) (text line rest : List ℕ) → IsOneLine line → text ≡ line ++ (10 ∷ rest) → IsLineRead line None → (l : SectionLine) → IsLineForm l → Stands count g l → Begins text (line_text l) → ⊥
no_line_in_front count g text line rest one e none l is stands begins = none l is (front_is line rest (Of l) begins.0 one is (sym e ∙ begins.1))

pub no_line_at_end : (count : ℕ) (g : Given) (text : List ℕ) → IsOneLine text → (l : SectionLine) → IsLineForm l → Stands count g l → Begins text (line_text l) → ⊥
no_line_at_end count g text one l is stands begins = no_front text (Of l) begins.0 one is begins.1

-- what stands behind the line in front is shorter
pub shorter : (text line rest : List ℕ) → text ≡ line ++ (10 ∷ rest) → length rest < length text
shorter text line rest e =
    let size : length text ≡ length line + length (10 ∷ rest) = ap length e ∙ length-append line (10 ∷ rest) in
    omega arith

-- and so is what stands behind a section
pub shorter_section : (s : Section) (text rest : List ℕ) → text ≡ section_text s ++ rest → length rest < length text
shorter_section s text rest e =
    let size : length text ≡ length (118 ∷ behind_first (section_text s)) + length rest = ap length e ∙ length-append (section_text s) rest in
    omega arith

-- one item more
pub one_more : {X : Type 0} (f : X → List ℕ) (text rest behind : List ℕ) (xs : List X) (x : X) → text ≡ flat_map f xs ++ rest → rest ≡ f x ++ behind → text ≡ flat_map f (xs ++ x ∷ []) ++ behind
one_more f text rest behind xs x e e' =
    let both : flat_map f (xs ++ x ∷ []) ≡ flat_map f xs ++ f x = flat_map-append f xs (x ∷ []) ∙ ap (λ t. flat_map f xs ++ t) (append-nil (f x)) in
    e ∙ (ap (λ t. flat_map f xs ++ t) e' ∙ (sym (append_assoc (flat_map f xs) (f x) behind) ∙ ap (λ t. t ++ behind) (sym both)))

pub stand_more : (count : ℕ) (g : Given) (ls : List SectionLine) (l : SectionLine) → AllStand count g ls → Stands count (given_by g ls) l → AllStand count g (ls ++ l ∷ [])
stand_more count g [] l all s = (s, tt)
stand_more count g (x ∷ ls) l all s = (all.0, stand_more count (after g x) ls l all.1 s)

pub given_more : (g : Given) (ls : List SectionLine) (l : SectionLine) → given_by g (ls ++ l ∷ []) ≡ after (given_by g ls) l
given_more g [] l = refl
given_more g (x ∷ ls) l = given_more (after g x) ls l

-- the head of a section, from its first line and its nodes
pub head_of : (text name type rest left : List ℕ) (read : ReadScheme) (nodes : List Node) → IsName name → IsOneLine type → IsTypeText type read → text ≡ val_line name type ++ rest → HasNodes rest nodes left
    → HasHead text read nodes left
head_of text name type rest left read nodes is one reads e has = record {
  name = name;
  type = type;
  spelled = e ∙ ap (λ t. val_line name type ++ t) has.spelled;
  is_name = is;
  one_line = one;
  type_is = reads;
  forms = has.forms;
  no_more = has.no_more;
}

-- a section from its parts
pub section_of : (text rest left behind : List ℕ) (read : ReadScheme) (s : Section) → IsName s.name → IsOneLine s.text → IsTypeText s.text read → ((i : ℕ) → Fits read.book s.nodes i)
    → (mid : List ℕ) → text ≡ val_line s.name s.text ++ rest → HasNodes rest s.nodes mid → HasLines (length s.nodes) mid s.lines left → left ≡ codes "end\n" ++ behind
    → IsSectionForm s × (text ≡ section_text s ++ behind)
section_of text rest left behind read s is one reads fits mid e has lines end =
    let longer : length read.book ≤ length s.nodes = go (cases_lt (length s.nodes) (length read.book)) in
    let head : IsHeadRead s read = record {
      text = reads;
      closed = record { book = λ i. (fits i).ordered; closed = All-from_get_or (HasChildrenBelow (length s.nodes)) s.nodes node.Bot (λ i low. (fits i).below) };
      longer = longer;
      begins = λ i low. (fits i).same low;
    } in
    let form : IsSectionForm s = record { name = is; one_line = one; read = read; head = head; nodes = has.forms; lines = lines.forms; stand = lines.stand } in (
      form,
      e ∙ (ap (λ t. val_line s.name s.text ++ t) (has.spelled ∙ ap (λ t. flat_map node_line s.nodes ++ t) (lines.spelled ∙ ap (λ t. flat_map line_text s.lines ++ t) end))
          ∙ sym (grouped (val_line s.name s.text) (flat_map node_line s.nodes) (flat_map line_text s.lines) (codes "end\n") behind)),
    )
  where
    go : (length s.nodes < length read.book) ⊎ (length read.book ≤ length s.nodes) → length read.book ≤ length s.nodes
    go (inl less) = let there : length s.nodes < length s.nodes = (fits (length s.nodes)).there less in absurd (omega arith)
    go (inr longer) = longer

-- how far a text is read
pub record HaveRead (text : List ℕ) (sections : List Section) (rest : List ℕ) (number : ℕ) : Type 0 where
  pub spelled : text ≡ codes "derivation 1\n" ++ (flat_map section_text sections ++ rest)
  pub forms : All IsSectionForm sections
  pub number_is : number ≡ 2 + sum_by line_count sections

pub read_none : (text rest : List ℕ) → text ≡ codes "derivation 1\n" ++ rest → HaveRead text [] rest 2
read_none text rest e = record { spelled = e; forms = λ k d low. absurd (omega arith); number_is = refl }

pub read_more : (text rest left : List ℕ) (ss : List Section) (s : Section) (number count : ℕ) → HaveRead text ss rest number → IsSectionForm s → rest ≡ section_text s ++ left → count ≡ number + line_count s
    → HaveRead text (ss ++ s ∷ []) left count
read_more text rest left ss s number count have is e count_is =
    let lines : sum_by line_count (ss ++ s ∷ []) ≡ sum_by line_count ss + line_count s = sum_by_push line_count ss s in
    let is_number : number ≡ 2 + sum_by line_count ss = have.number_is in
    record {
      spelled = have.spelled ∙ ap (λ t. codes "derivation 1\n" ++ t) (one_more section_text (flat_map section_text ss ++ rest) rest left ss s refl e);
      forms = All-push IsSectionForm ss s have.forms is;
      number_is = omega arith;
    }

pub read_all : (text : List ℕ) (ss : List Section) (rest : List ℕ) (number : ℕ) → HaveRead text ss rest number → rest ≡ [] → IsTextOf text (record { sections = ss })
read_all text ss rest number have empty = record {
  spelled = have.spelled ∙ ap (λ t. codes "derivation 1\n" ++ t) (ap (λ t. flat_map section_text ss ++ t) empty ∙ append-nil (flat_map section_text ss));
  sections = have.forms;
}

pub read_bad : (text : List ℕ) (ss : List Section) (rest : List ℕ) (number k n : ℕ) → HaveRead text ss rest number → (rest ≡ [] → ⊥) → IsBadSection rest k → n ≡ number + k → IsFirstBadLine text n
read_bad text ss rest number k n have full bad n_is =
    let is_number : number ≡ 2 + sum_by line_count ss = have.number_is in
    let same : 2 + (sum_by line_count ss + k) ≡ n = omega arith in
    subst (IsFirstBadLine text) same (in_section ss rest k have.forms full have.spelled bad)
