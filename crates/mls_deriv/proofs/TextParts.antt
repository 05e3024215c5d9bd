-- The parts of a text, each of which is as long as it can be: there is one way to cut it.
use Rattle.std.proofs.Common.{◌≡◌, ◌⊎◌, inl, inr, ℕ, ◌<◌, ◌≤◌, List, [], ◌∷◌, ◌++◌, length, sym, ap, subst, ◌∙◌, refl, arith, nat_eq, append_assoc}
use Rattle.std.specs.Prelude.{All, codes}
use Rattle.std.specs.List.{flat_map, slice_split, fold}
use Rattle.std.proofs.lemmas.Bool.{cases_lt}
use Rattle.std.proofs.lemmas.List.{append_cancel_left, get_or_past}
use Rattle.std.proofs.lemmas.List.Elements.{All-head, All-tail, All-get_or}
use Rattle.std.proofs.lemmas.List.Splits.{slice_split_at}
use Rattle.mls_book.specs.declared.book.Node.{Node}
use Rattle.mls_book.specs.declared.book.Node.TheVariants as node
use Rattle.mls_book.specs.Books.{node_at, HasChildrenBelow}
use Rattle.mls_typetext.specs.declared.scheme.ReadScheme.{ReadScheme}
use Rattle.mls_typetext.specs.Texts.{IsTypeText}
use Rattle.mls_typetext.proofs.ReadLaws.{one_reading}
use Rattle.mls_deriv.specs.declared.derivation.Section.{Section}
use Rattle.mls_deriv.specs.declared.derivation.SectionLine.{SectionLine}
use Rattle.mls_deriv.specs.Spellings.{node_line, line_text, section_text}
use Rattle.mls_deriv.specs.Forms.{IsNodeForm, IsLineForm}
use Rattle.mls_deriv.specs.Texts.{Given, none_given, after, Stands, AllStand, IsSectionForm}
use Rattle.mls_deriv.specs.BadLines.{val_line, HasHead, Fits, HasLines}
use Rattle.mls_deriv.proofs.TextLines.{Line, Val, Of_node, Of, End, IsForm, bytes, bare, one_of_lines}

-- what stands behind the first item of a list, and the first item
abbrev behind_first : List ℕ → List ℕ
behind_first [] = []
behind_first (b ∷ rest) = rest

abbrev first : List (List ℕ) → List ℕ
first [] = []
first (word ∷ words) = word

-- a text begins with one line at most
one_front : (l other : Line) (r s : List ℕ) → IsForm l → IsForm other → bytes l ++ (10 ∷ r) ≡ bytes other ++ (10 ∷ s) → (l ≡ other) × (r ≡ s)
one_front l other r s is is' e =
    let parts : bytes l ∷ slice_split (λ byte. nat_eq byte 10) r ≡ bytes other ∷ slice_split (λ byte. nat_eq byte 10) s =
    sym (slice_split_at (λ byte. nat_eq byte 10) (bytes l) 10 r (bare l is) refl)
    ∙ (ap (slice_split (λ byte. nat_eq byte 10)) e ∙ slice_split_at (λ byte. nat_eq byte 10) (bytes other) 10 s (bare other is') refl) in
    let same : bytes l ≡ bytes other = ap first parts in
    let rest : 10 ∷ r ≡ 10 ∷ s = append_cancel_left (bytes l) (10 ∷ r) (10 ∷ s) (e ∙ ap (λ b. b ++ (10 ∷ s)) (sym same)) in
    (one_of_lines l other is is' same, ap behind_first rest)

pub one_text : (l other : Line) (r s : List ℕ) → IsForm l → IsForm other → (bytes l ++ codes "\n") ++ r ≡ (bytes other ++ codes "\n") ++ s → (l ≡ other) × (r ≡ s)
one_text l other r s is is' e = one_front l other r s is is' (sym (append_assoc (bytes l) (codes "\n") r) ∙ (e ∙ append_assoc (bytes other) (codes "\n") s))

-- items that follow one another, each as what stands before it demands
abbrev pub AllFit : {G X : Type 0} → (G → X → Type 0) → (G → X → G) → G → List X → Type 0
AllFit Fit next g [] = Unit {0}
AllFit Fit next g (x ∷ xs) = Fit g x × AllFit Fit next (next g x) xs

-- no further item stands at the front
abbrev pub Stops : {G X : Type 0} → (X → List ℕ) → (G → X → Type 0) → G → List ℕ → Type 0
Stops {G} {X} f Fit g r = (x : X) (more : List ℕ) → Fit g x → r ≡ f x ++ more → ⊥

module _ {G X : Type 0} (f : X → List ℕ) (Fit : G → X → Type 0) (next : G → X → G) (one : (g : G) (x y : X) (r s : List ℕ) → Fit g x → Fit g y → f x ++ r ≡ f y ++ s → (x ≡ y) × (r ≡ s)) where
  -- a text goes on with one list of items at most, as long as it can be
  pub one_stop : (g : G) (xs ys : List X) (r s : List ℕ) → AllFit Fit next g xs → AllFit Fit next g ys → Stops f Fit (fold next g xs) r → Stops f Fit (fold next g ys) s
      → flat_map f xs ++ r ≡ flat_map f ys ++ s → (xs ≡ ys) × (r ≡ s)
  one_stop g [] [] r s a b stop stop' e = (refl, e)
  one_stop g [] (y ∷ ys) r s a b stop stop' e = absurd (stop y (flat_map f ys ++ s) b.0 (e ∙ append_assoc (f y) (flat_map f ys) s))
  one_stop g (x ∷ xs) [] r s a b stop stop' e = absurd (stop' x (flat_map f xs ++ r) a.0 (sym e ∙ append_assoc (f x) (flat_map f xs) r))
  one_stop g (x ∷ xs) (y ∷ ys) r s a b stop stop' e =
      let front = one g x y (flat_map f xs ++ r) (flat_map f ys ++ s) a.0 b.0 (sym (append_assoc (f x) (flat_map f xs) r) ∙ (e ∙ append_assoc (f y) (flat_map f ys) s)) in
      let same : x ≡ y = front.0 in
      let rest = one_stop (next g x) xs ys r s a.1 (subst (λ (z : X). AllFit Fit next (next g z) ys) (sym same) b.1) stop
      (subst (λ (z : X). Stops f Fit (fold next (next g z) ys) s) (sym same) stop') front.1 in
      (λ i. same i ∷ rest.0 i, rest.1)

-- where nothing depends on what stands before
abbrev pub stay : {X : Type 0} → Unit {0} → X → Unit {0}
stay g x = g

pub all_fit : {X : Type 0} (P : X → Type 0) (xs : List X) → All P xs → AllFit (λ (g : Unit {0}) x. P x) stay tt xs
all_fit P [] all = tt
all_fit P (x ∷ xs) all = (All-head P x xs all, all_fit P xs (All-tail P x xs all))

-- lines that stand one behind the other
abbrev pub StandsSo : ℕ → Given → SectionLine → Type 0
StandsSo count g l = IsLineForm l × Stands count g l

pub all_stand : (count : ℕ) (g : Given) (ls : List SectionLine) → All IsLineForm ls → AllStand count g ls → AllFit (StandsSo count) after g ls
all_stand count g [] forms stand = tt
all_stand count g (l ∷ ls) forms stand = ((All-head IsLineForm l ls forms, stand.0), all_stand count (after g l) ls (All-tail IsLineForm l ls forms) stand.1)

of_line : Line → SectionLine → SectionLine
of_line (Of l) other = l
of_line _ other = other

of_node : Line → Node → Node
of_node (Of_node n) other = n
of_node _ other = other

one_line : (count : ℕ) (g : Given) (l other : SectionLine) (r s : List ℕ) → StandsSo count g l → StandsSo count g other → line_text l ++ r ≡ line_text other ++ s → (l ≡ other) × (r ≡ s)
unfolding of_line
one_line count g l other r s is is' e =
    let same = one_text (Of l) (Of other) r s is.0 is'.0 e in
    (ap (λ m. of_line m l) same.0, same.1)

one_node : (g : Unit {0}) (n other : Node) (r s : List ℕ) → IsNodeForm n → IsNodeForm other → node_line n ++ r ≡ node_line other ++ s → (n ≡ other) × (r ≡ s)
unfolding of_node
one_node g n other r s is is' e =
    let same = one_text (Of_node n) (Of_node other) r s is is' e in
    (ap (λ m. of_node m n) same.0, same.1)

-- behind so many nodes a text goes on with one list of lines, as long as it can be
pub one_lines : (count : ℕ) (text : List ℕ) (ls others : List SectionLine) (r s : List ℕ) → HasLines count text ls r → HasLines count text others s → (ls ≡ others) × (r ≡ s)
one_lines count text ls others r s h h' =
    one_stop line_text (StandsSo count) after (one_line count) none_given ls others r s (all_stand count none_given ls h.forms h.stand) (all_stand count none_given others h'.forms h'.stand)
    (λ l more is e. h.no_more l is.0 is.1 (more, e)) (λ l more is e. h'.no_more l is.0 is.1 (more, e)) (sym h.spelled ∙ h'.spelled)

-- a text has one head at most
pub record SameHead (name name' type type' : List ℕ) (read read' : ReadScheme) (nodes nodes' : List Node) (rest rest' : List ℕ) : Type 0 where
  pub names : name ≡ name'
  pub types : type ≡ type'
  pub reads : read ≡ read'
  pub same_nodes : nodes ≡ nodes'
  pub rests : rest ≡ rest'

name_of : Line → List ℕ
name_of (Val name type) = name
name_of _ = []

type_of : Line → List ℕ
type_of (Val name type) = type
type_of _ = []

pub one_head : (text : List ℕ) (read read' : ReadScheme) (nodes nodes' : List Node) (rest rest' : List ℕ) (h : HasHead text read nodes rest) (h' : HasHead text read' nodes' rest')
    → SameHead h.name h'.name h.type h'.type read read' nodes nodes' rest rest'
unfolding name_of type_of
one_head text read read' nodes nodes' rest rest' h h' =
    let e : val_line h.name h.type ++ (flat_map node_line nodes ++ rest) ≡ val_line h'.name h'.type ++ (flat_map node_line nodes' ++ rest') = sym h.spelled ∙ h'.spelled in
    let same = one_text (Val h.name h.type) (Val h'.name h'.type) (flat_map node_line nodes ++ rest) (flat_map node_line nodes' ++ rest') (h.is_name, h.one_line) (h'.is_name, h'.one_line) e in
    let types : h.type ≡ h'.type = ap type_of same.0 in
    let run = one_stop node_line (λ (g : Unit {0}) n. IsNodeForm n) stay one_node tt nodes nodes' rest rest' (all_fit IsNodeForm nodes h.forms) (all_fit IsNodeForm nodes' h'.forms)
    (λ n more is w. h.no_more n is (more, w)) (λ n more is w. h'.no_more n is (more, w)) same.1 in
    record {
      names = ap name_of same.0;
      types = types;
      reads = one_reading h'.type read read' (subst (λ t. IsTypeText t read) types h.type_is) h'.type_is;
      same_nodes = run.0;
      rests = run.1;
    }

-- the parts of a section
pub grouped : (head nodes lines end r : List ℕ) → (head ++ nodes ++ lines ++ end) ++ r ≡ head ++ (nodes ++ (lines ++ (end ++ r)))
grouped head nodes lines end r = simp append_assoc refl

no_node : (ls : List SectionLine) (r : List ℕ) → All IsLineForm ls → (n : Node) (more : List ℕ) → IsNodeForm n → flat_map line_text ls ++ (codes "end\n" ++ r) ≡ node_line n ++ more → ⊥
no_node [] r all n more is e = let same = one_text End (Of_node n) r more tt is e in cc
no_node (l ∷ ls) r all n more is e =
    let same = one_text (Of l) (Of_node n) (flat_map line_text ls ++ (codes "end\n" ++ r)) more (All-head IsLineForm l ls all) is (sym (append_assoc (line_text l) (flat_map line_text ls) (codes "end\n" ++ r)) ∙ e) in cc

no_line : (r : List ℕ) (l : SectionLine) (more : List ℕ) → IsLineForm l → codes "end\n" ++ r ≡ line_text l ++ more → ⊥
no_line r l more is e = let same = one_text End (Of l) r more tt is e in cc

pub section_head : (text : List ℕ) (s : Section) (is : IsSectionForm s) (r : List ℕ) → text ≡ section_text s ++ r → HasHead text is.read s.nodes (flat_map line_text s.lines ++ (codes "end\n" ++ r))
section_head text s is r e = record {
  name = s.name;
  type = s.text;
  spelled = e ∙ grouped (val_line s.name s.text) (flat_map node_line s.nodes) (flat_map line_text s.lines) (codes "end\n") r;
  is_name = is.name;
  one_line = is.one_line;
  type_is = is.head.text;
  forms = is.nodes;
  no_more = λ n form begins. no_node s.lines r is.lines n begins.0 form begins.1;
}

pub section_lines : (s : Section) (is : IsSectionForm s) (r : List ℕ) → HasLines (length s.nodes) (flat_map line_text s.lines ++ (codes "end\n" ++ r)) s.lines (codes "end\n" ++ r)
section_lines s is r = record {
  spelled = refl;
  forms = is.lines;
  stand = is.stand;
  no_more = λ l form stands begins. no_line r l begins.0 form begins.1;
}

pub section_fits : (s : Section) (is : IsSectionForm s) (i : ℕ) → Fits is.read.book s.nodes i
section_fits s is i =
    let longer : length is.read.book ≤ length s.nodes = is.head.longer in
    record {
      there = λ h. omega arith;
      same = λ h. is.head.begins i h;
      ordered = is.head.closed.book i;
      below = go (cases_lt i (length s.nodes));
    }
  where
    go : (i < length s.nodes) ⊎ (length s.nodes ≤ i) → HasChildrenBelow (length s.nodes) (node_at s.nodes i)
    go (inl low) = All-get_or (HasChildrenBelow (length s.nodes)) s.nodes i node.Bot low is.head.closed.closed
    go (inr past) = subst (HasChildrenBelow (length s.nodes)) (sym (get_or_past s.nodes i node.Bot past)) tt

-- a text begins with one section at most
pub one_section : (g : Unit {0}) (s other : Section) (r r' : List ℕ) → IsSectionForm s → IsSectionForm other → section_text s ++ r ≡ section_text other ++ r' → (s ≡ other) × (r ≡ r')
unfolding section_head
one_section g s other r r' is is' e =
    let text = section_text other ++ r' in
    let lines = flat_map line_text s.lines ++ (codes "end\n" ++ r) in
    let lines' = flat_map line_text other.lines ++ (codes "end\n" ++ r') in
    let same = one_head text is.read is'.read s.nodes other.nodes lines lines' (section_head text s is r (sym e)) (section_head text other is' r' refl) in
    let moved : HasLines (length other.nodes) lines' s.lines (codes "end\n" ++ r) =
    subst (λ (ns : List Node). HasLines (length ns) lines' s.lines (codes "end\n" ++ r)) same.same_nodes (subst (λ t. HasLines (length s.nodes) t s.lines (codes "end\n" ++ r)) same.rests (section_lines s is r)) in
    let ends = one_lines (length other.nodes) lines' s.lines other.lines (codes "end\n" ++ r) (codes "end\n" ++ r') moved (section_lines other is' r') in
    (λ i. record { name = same.names i; text = same.types i; nodes = same.same_nodes i; lines = ends.0 i }, append_cancel_left (codes "end\n") r r' ends.1)
