-- The lines of sections: none has a newline within, and bytes are at most one of them.
use Rattle.std.proofs.Common.{◌≡◌, ◌≢◌, ℕ, ◌+◌, ◌%◌, true, false, List, [], ◌∷◌, ◌++◌, map, sym, ap, subst, ◌∙◌, refl, arith, nat_eq, append_assoc}
use Rattle.std.specs.Prelude.{All, decimal, codes, if◌then◌else◌, not, bytes_eq}
use Rattle.std.specs.List.{list_all}
use Rattle.std.proofs.lemmas.Bool.{ne_eqb, and_parts, not-true}
use Rattle.std.proofs.lemmas.Fmt.{decimal_by_steps}
use Rattle.std.proofs.lemmas.List.{append_cancel_left}
use Rattle.std.proofs.lemmas.List.Elements.{All-nil, All-cons, All-head, All-tail, All-append}
use Rattle.std.proofs.lemmas.List.Splits.{slice_split_at}
use Rattle.mls_base.specs.Spelling.{IsName, is_name_byte, begins_lower, is_spelled}
use Rattle.mls_book.specs.declared.book.Field.{Field}
use Rattle.mls_book.specs.declared.book.Node.{Node}
use Rattle.mls_book.specs.declared.book.Node.TheVariants as node
use Rattle.mls_deriv.specs.declared.derivation.Mode.{Mode}
use Rattle.mls_deriv.specs.declared.derivation.Mode.TheVariants.{Lr, Rl, Pp}
use Rattle.mls_deriv.specs.declared.derivation.SectionLine.{SectionLine}
use Rattle.mls_deriv.specs.declared.derivation.SectionLine.TheVariants as line
use Rattle.mls_deriv.specs.declared.derivation.StepRule.{StepRule}
use Rattle.mls_deriv.specs.declared.derivation.StepRule.TheVariants as rule
use Rattle.mls_deriv.specs.Spellings.{node_words, line_words}
use Rattle.mls_deriv.specs.Forms.{IsWord, IsFieldForm, IsNodeForm, IsLineForm}
use Rattle.mls_deriv.specs.Texts.{IsOneLine}
use Rattle.mls_deriv.specs.inner.Clauses.{Said, words_of, IsSaid, line_parts, rule_word, rule_said}
use Rattle.mls_deriv.proofs.SpelledNumbers.{tails, bytes_of}
use Rattle.mls_deriv.proofs.SpelledLines.{mode_said, line_said, entry_numbers, line_spelled, line_is_said, line_parted, one_line}
use Rattle.mls_deriv.proofs.SpelledNodes.{field_said, node_said, first_word, node_spelled, all_said, node_parted, name_bytes, true_test, one_node}

-- the lines of sections
pub data Line : Type 0 where
  Val : (name type : List ℕ) → Line
  Of_node : Node → Line
  Of : SectionLine → Line
  End : Line

abbrev pub IsForm : Line → Type 0
IsForm (Val name type) = IsName name × IsOneLine type
IsForm (Of_node n) = IsNodeForm n
IsForm (Of l) = IsLineForm l
IsForm End = Unit {0}

-- the bytes of a line, without its newline
abbrev pub bytes : Line → List ℕ
bytes (Val name type) = codes "val " ++ name ++ codes " : " ++ type
bytes (Of_node n) = codes "node" ++ node_words n
bytes (Of l) = line_words l
bytes End = codes "end"

-- no byte is a newline
abbrev pub IsBare : List ℕ → Type 0
IsBare word = All (λ byte. nat_eq byte 10 ≡ false) word

both : (word other : List ℕ) → IsBare word → IsBare other → IsBare (word ++ other)
both word other h h' = All-append (λ byte. nat_eq byte 10 ≡ false) word other h h'

one_byte : (b : ℕ) → (b ≡ 10 → ⊥) → IsBare (b ∷ [])
one_byte b ne = All-cons (λ byte. nat_eq byte 10 ≡ false) b [] (ne_eqb b 10 ne) (All-nil (λ byte. nat_eq byte 10 ≡ false))

decimal_bare : (n : ℕ) → IsWord n → IsBare (decimal n)
decimal_bare n low =
    decimal_by_steps (λ _ word. IsBare word) (λ d h. one_byte (48 + d) (λ e. absurd (omega arith)))
    (λ d ds h before. both ds ((48 + d % 10) ∷ []) before (one_byte (48 + d % 10) (λ e. absurd (omega arith)))) n low

literal : (word : List ℕ) → list_all (λ byte. not (nat_eq byte 10)) word ≡ true → IsBare word
literal [] h = All-nil (λ byte. nat_eq byte 10 ≡ false)
literal (byte ∷ rest) h =
    let parts = and_parts (not (nat_eq byte 10)) (list_all (λ b. not (nat_eq b 10)) rest) h in
    All-cons (λ b. nat_eq b 10 ≡ false) byte rest (not-true (nat_eq byte 10) parts.0) (literal rest parts.1)

pub text_bare : (text : List ℕ) → IsOneLine text → IsBare text
text_bare [] h = All-nil (λ byte. nat_eq byte 10 ≡ false)
text_bare (b ∷ rest) h = All-cons (λ byte. nat_eq byte 10 ≡ false) b rest (ne_eqb b 10 (All-head (λ byte. byte ≢ 10) b rest h)) (text_bare rest (All-tail (λ byte. byte ≢ 10) b rest h))

name_byte : (b : ℕ) → is_name_byte b ≡ true → nat_eq b 10 ≡ false
name_byte b h = ne_eqb b 10 (λ e. let wrong : is_name_byte 10 ≡ true = subst (λ c. is_name_byte c ≡ true) e h in absurd (cc))

name_letters : (name : List ℕ) → list_all is_name_byte name ≡ true → IsBare name
name_letters [] h = All-nil (λ byte. nat_eq byte 10 ≡ false)
name_letters (b ∷ rest) h =
    let parts = and_parts (is_name_byte b) (list_all is_name_byte rest) h in
    All-cons (λ byte. nat_eq byte 10 ≡ false) b rest (name_byte b parts.0) (name_letters rest parts.1)

-- the letters of a name
pub letters : (name : List ℕ) → IsName name → list_all is_name_byte name ≡ true
letters name is = (and_parts (begins_lower name) (list_all is_name_byte name) (true_test (is_spelled name) is.spelled)).1

name_bare : (name : List ℕ) → IsName name → IsBare name
name_bare name is = name_letters name (letters name is)

-- words without newlines make lines without
abbrev HasBareWord : Said → Type 0
HasBareWord c = IsBare c.0

numbers_bare : (ns : List ℕ) → All IsWord ns → All IsBare (map decimal ns)
numbers_bare [] all = All-nil IsBare
numbers_bare (n ∷ ns) all = All-cons IsBare (decimal n) (map decimal ns) (decimal_bare n (All-head IsWord n ns all)) (numbers_bare ns (All-tail IsWord n ns all))

words_bare : (cs : List Said) → All IsSaid cs → All HasBareWord cs → All IsBare (words_of cs)
words_bare [] all bare = All-nil IsBare
words_bare (c ∷ cs) all bare =
    All-append IsBare (c.0 ∷ map decimal c.1) (words_of cs)
    (All-cons IsBare c.0 (map decimal c.1) (All-head HasBareWord c cs bare) (numbers_bare c.1 (All-head IsSaid c cs all).1))
    (words_bare cs (All-tail IsSaid c cs all) (All-tail HasBareWord c cs bare))

tails_bare : (words : List (List ℕ)) → All IsBare words → IsBare (tails words)
tails_bare [] all = All-nil (λ byte. nat_eq byte 10 ≡ false)
tails_bare (word ∷ words) all =
    both (32 ∷ word) (tails words) (All-cons (λ byte. nat_eq byte 10 ≡ false) 32 word refl (All-head IsBare word words all)) (tails_bare words (All-tail IsBare word words all))

line_bare : (c : Said) (cs : List Said) → All IsSaid (c ∷ cs) → All HasBareWord (c ∷ cs) → IsBare (bytes_of (words_of (c ∷ cs)))
line_bare c cs all bare =
    let words = words_bare (c ∷ cs) all bare in
    both c.0 (tails (map decimal c.1 ++ words_of cs)) (All-head IsBare c.0 (map decimal c.1 ++ words_of cs) words)
    (tails_bare (map decimal c.1 ++ words_of cs) (All-tail IsBare c.0 (map decimal c.1 ++ words_of cs) words))

more : (c : Said) → list_all (λ byte. not (nat_eq byte 10)) c.0 ≡ true → (cs : List Said) → All HasBareWord cs → All HasBareWord (c ∷ cs)
more c h cs all = All-cons HasBareWord c cs (literal c.0 h) all

no_more : All HasBareWord []
no_more = All-nil HasBareWord

rule_bare : (r : StepRule) → list_all (λ byte. not (nat_eq byte 10)) (rule_word r) ≡ true
rule_bare rule.Var = refl
rule_bare (rule.Use s) = refl
rule_bare (rule.Name n) = refl
rule_bare rule.Lit = refl
rule_bare (rule.Fun s) = refl
rule_bare (rule.App s t) = refl
rule_bare (rule.Make numbers) = refl
rule_bare (rule.Proj s) = refl
rule_bare (rule.If s t u) = refl
rule_bare (rule.Let s t) = refl
rule_bare (rule.Rec s) = refl
rule_bare (rule.Sub s) = refl

mode_bare : (m : Mode) → list_all (λ byte. not (nat_eq byte 10)) (mode_said m) ≡ true
mode_bare Lr = refl
mode_bare Rl = refl
mode_bare Pp = refl

words_of_line_bare : (l : SectionLine) → IsLineForm l → IsBare (bytes_of (words_of (line_said l)))
words_of_line_bare (line.Let k s) is = line_bare (codes "let", k ∷ s ∷ []) [] (line_is_said (line.Let k s) is) (more (codes "let", k ∷ s ∷ []) refl [] no_more)
words_of_line_bare (line.Step step) is =
    line_bare (codes "step", step.node ∷ []) (rule_said step.rule ∷ (codes "env", entry_numbers step.env) ∷ (codes "type", step.root.0 ∷ []) ∷ []) (line_is_said (line.Step step) is)
    (more (codes "step", step.node ∷ []) refl (rule_said step.rule ∷ (codes "env", entry_numbers step.env) ∷ (codes "type", step.root.0 ∷ []) ∷ []) (more (rule_said step.rule) (rule_bare step.rule) ((codes "env", entry_numbers step.env) ∷ (codes "type", step.root.0 ∷ []) ∷ [])
    (more (codes "env", entry_numbers step.env) refl ((codes "type", step.root.0 ∷ []) ∷ []) (more (codes "type", step.root.0 ∷ []) refl [] no_more))))
words_of_line_bare (line.Put x n) is = line_bare (codes "put", x ∷ n.0 ∷ []) [] (line_is_said (line.Put x n) is) (more (codes "put", x ∷ n.0 ∷ []) refl [] no_more)
words_of_line_bare (line.Pair mode i j) is =
    line_bare (codes "pair", []) ((mode_said mode, i.0 ∷ j.0 ∷ []) ∷ []) (line_is_said (line.Pair mode i j) is)
    (more (codes "pair", []) refl ((mode_said mode, i.0 ∷ j.0 ∷ []) ∷ []) (more (mode_said mode, i.0 ∷ j.0 ∷ []) (mode_bare mode) [] no_more))

fields_bare : (fields : List Field) → All IsFieldForm fields → All HasBareWord (map field_said fields)
fields_bare [] all = All-nil HasBareWord
fields_bare (field ∷ rest) all =
    All-cons HasBareWord (field_said field) (map field_said rest) (name_bare field.label (All-head IsFieldForm field rest all).0) (fields_bare rest (All-tail IsFieldForm field rest all))

node_bare : (n : Node) → IsNodeForm n → All HasBareWord (node_said n)
node_bare node.Bot is = more (codes "bot", []) refl [] no_more
node_bare node.Top is = more (codes "top", []) refl [] no_more
node_bare (node.Var x) is = more (codes "var", x ∷ []) refl [] no_more
node_bare node.Bool is = more (codes "bool", []) refl [] no_more
node_bare node.Int is = more (codes "int", []) refl [] no_more
node_bare (node.Arrow j k) is = more (codes "fn", j.0 ∷ k.0 ∷ []) refl [] no_more
node_bare (node.Rcd fields) is = more (codes "rcd", []) refl (map field_said fields) (fields_bare fields is.0)
node_bare (node.Join j k) is = more (codes "join", j.0 ∷ k.0 ∷ []) refl [] no_more
node_bare (node.Meet j k) is = more (codes "meet", j.0 ∷ k.0 ∷ []) refl [] no_more

-- no line has a newline within
pub bare : (l : Line) → IsForm l → IsBare (bytes l)
bare (Val name type) is =
    both (codes "val " ++ name ++ codes " : ") type
    (both (codes "val " ++ name) (codes " : ") (both (codes "val ") name (literal (codes "val ") refl) (name_bare name is.0)) (literal (codes " : ") refl)) (text_bare type is.1)
bare (Of_node n) is = subst IsBare (sym (node_spelled n)) (line_bare first_word (node_said n) (all_said n is) (more first_word refl (node_said n) (node_bare n is)))
bare (Of l) is = subst IsBare (sym (line_spelled l)) (words_of_line_bare l is)
bare End is = literal (codes "end") refl

-- the first words of lines tell their kinds
abbrev first : List (List ℕ) → List ℕ
first [] = []
first (word ∷ words) = word

abbrev kind : List ℕ → ℕ
kind word = if bytes_eq word (codes "val") then 0 else (if bytes_eq word (codes "node") then 1 else (if bytes_eq word (codes "end") then 2 else 3))

first_of_line : (l : SectionLine) → kind (first (words_of (line_said l))) ≡ 3
first_of_line (line.Let k s) = refl
first_of_line (line.Step step) = refl
first_of_line (line.Put x n) = refl
first_of_line (line.Pair mode i j) = refl

-- the line of a name and a type, from its front
val_bytes : (name type : List ℕ) → codes "val " ++ name ++ codes " : " ++ type ≡ codes "val " ++ (name ++ (codes " : " ++ type))
val_bytes name type = simp append_assoc refl

abbrev kind_of : Line → ℕ
kind_of (Val name type) = 0
kind_of (Of_node n) = 1
kind_of (Of l) = 3
kind_of End = 2

tells : (l : Line) → IsForm l → kind (first (line_parts (bytes l))) ≡ kind_of l
tells (Val name type) is =
    ap (λ b. kind (first (line_parts b))) (val_bytes name type)
    ∙ ap (λ ws. kind (first ws)) (slice_split_at (λ byte. nat_eq byte 32) (codes "val") 32 (name ++ (codes " : " ++ type)) plain_val refl)
  where
    plain_val : All (λ byte. nat_eq byte 32 ≡ false) (codes "val")
    plain_val = name_bytes (codes "val") refl
tells (Of_node n) is = ap (λ ws. kind (first ws)) (node_parted n is)
tells (Of l) is = ap (λ ws. kind (first ws)) (line_parted l is) ∙ first_of_line l
tells End is = refl

pub one_val : (name type name' type' : List ℕ) → IsName name → IsName name' → bytes (Val name type) ≡ bytes (Val name' type') → Val name type ≡ Val name' type'
one_val name type name' type' is is' e =
    let rest : name ++ (codes " : " ++ type) ≡ name' ++ (codes " : " ++ type') =
    append_cancel_left (codes "val ") (name ++ (codes " : " ++ type)) (name' ++ (codes " : " ++ type')) (sym (val_bytes name type) ∙ (e ∙ val_bytes name' type')) in
    let split : (n t : List ℕ) → IsName n → first (line_parts (n ++ (codes " : " ++ t))) ≡ n =
    λ n t h. ap first (slice_split_at (λ byte. nat_eq byte 32) n 32 (58 ∷ 32 ∷ t) (name_bytes n (letters n h)) refl) in
    let names : name ≡ name' = sym (split name type is) ∙ (ap (λ b. first (line_parts b)) rest ∙ split name' type' is') in
    let others : codes " : " ++ type ≡ codes " : " ++ type' =
    append_cancel_left name (codes " : " ++ type) (codes " : " ++ type') (rest ∙ ap (λ n. n ++ (codes " : " ++ type')) (sym names)) in
    let types : type ≡ type' = append_cancel_left (codes " : ") type type' others in
    λ i. Val (names i) (types i)

-- bytes are those of one line at most
pub one_of_lines : (l other : Line) → IsForm l → IsForm other → bytes l ≡ bytes other → l ≡ other
one_of_lines l other is is' e = go l other is is' e (sym (tells l is) ∙ (ap (λ b. kind (first (line_parts b))) e ∙ tells other is'))
  where
    go : (l other : Line) → IsForm l → IsForm other → bytes l ≡ bytes other → kind_of l ≡ kind_of other → l ≡ other
    go (Val name type) (Val name' type') is is' e same = one_val name type name' type' is.0 is'.0 e
    go (Val name type) (Of_node m) is is' e same = absurd (cc)
    go (Val name type) (Of m) is is' e same = absurd (cc)
    go (Val name type) End is is' e same = absurd (cc)
    go (Of_node n) (Val name type) is is' e same = absurd (cc)
    go (Of_node n) (Of_node m) is is' e same = ap Of_node (one_node n m is is' (ap (λ b. b ++ codes "\n") e))
    go (Of_node n) (Of m) is is' e same = absurd (cc)
    go (Of_node n) End is is' e same = absurd (cc)
    go (Of n) (Val name type) is is' e same = absurd (cc)
    go (Of n) (Of_node m) is is' e same = absurd (cc)
    go (Of n) (Of m) is is' e same = ap Of (one_line n m is is' (ap (λ b. b ++ codes "\n") e))
    go (Of n) End is is' e same = absurd (cc)
    go End (Val name type) is is' e same = absurd (cc)
    go End (Of_node m) is is' e same = absurd (cc)
    go End (Of m) is is' e same = absurd (cc)
    go End End is is' e same = refl
