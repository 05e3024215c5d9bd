-- Lines by their clauses: each line has other clauses than any other, and is read from them.
use Rattle.std.proofs.Common.{◌≡◌, ℕ, Bool, true, false, List, [], ◌∷◌, ◌++◌, map, Some, None, sym, ap, ◌∙◌, refl, nat_eq, nat_lt, append-nil, append_assoc}
use Rattle.std.specs.Prelude.{All, decimal, bytes_eq, Option, codes, if◌then◌else◌, not}
use Rattle.std.specs.List.{flat_map, list_all}
use Rattle.std.proofs.lemmas.Bool.{ltb-true, and_parts, not-true}
use Rattle.std.proofs.lemmas.List.{append_cancel_right}
use Rattle.std.proofs.lemmas.List.Concat.{flat_map-append}
use Rattle.std.proofs.lemmas.List.Folds.{flat_map-map}
use Rattle.std.proofs.lemmas.List.Elements.{All-nil, All-cons, All-head, All-tail, All-append}
use Rattle.mls_deriv.specs.declared.derivation.BinderNode.{BinderNode}
use Rattle.mls_deriv.specs.declared.derivation.Mode.{Mode}
use Rattle.mls_deriv.specs.declared.derivation.Mode.TheVariants.{Lr, Rl, Pp}
use Rattle.mls_deriv.specs.declared.derivation.SectionLine.{SectionLine}
use Rattle.mls_deriv.specs.declared.derivation.SectionLine.TheVariants as line
use Rattle.mls_deriv.specs.declared.derivation.StepRule.{StepRule}
use Rattle.mls_deriv.specs.declared.derivation.StepRule.TheVariants as rule
use Rattle.mls_deriv.specs.Spellings.{number_word, number_words, rule_words, entry_words, line_words, line_text}
use Rattle.mls_deriv.specs.Forms.{IsWord, arguments, IsLineForm, IsEntryForm}
use Rattle.mls_deriv.specs.inner.Clauses.{number_of, Said, words_of, IsSaid, line_parts, rule_word, rule_said}
use Rattle.mls_deriv.proofs.SpelledNumbers.{no_number, one_saying, tails, bytes_of, parts_of_bytes, HasNoSpace, decimal_has_no_space}

-- numbers behind a word, and what stands behind them
tails_of_numbers : (ns : List ℕ) (words : List (List ℕ)) → tails (map decimal ns ++ words) ≡ number_words ns ++ tails words
tails_of_numbers ns words = flat_map-append (λ word. 32 ∷ word) (map decimal ns) words ∙ ap (λ t. t ++ tails words) (flat_map-map (λ word. 32 ∷ word) decimal ns)

-- the rule, by its word and its numbers
rule_spelled : (r : StepRule) → rule_words r ≡ (32 ∷ rule_word r) ++ number_words (arguments r)
rule_spelled rule.Var = refl
rule_spelled (rule.Use s) = ap (λ t. codes " use" ++ t) (sym (append-nil (number_word s)))
rule_spelled (rule.Name n) = ap (λ t. codes " name" ++ t) (sym (append-nil (number_word n.0)))
rule_spelled rule.Lit = refl
rule_spelled (rule.Fun s) = ap (λ t. codes " fun" ++ t) (sym (append-nil (number_word s)))
rule_spelled (rule.App s t) = simp (append_assoc, append-nil) refl
rule_spelled (rule.Make numbers) = refl
rule_spelled (rule.Proj s) = ap (λ t. codes " proj" ++ t) (sym (append-nil (number_word s)))
rule_spelled (rule.If s t u) = simp (append_assoc, append-nil) refl
rule_spelled (rule.Let s t) = simp (append_assoc, append-nil) refl
rule_spelled (rule.Rec s) = ap (λ t. codes " rec" ++ t) (sym (append-nil (number_word s)))
rule_spelled (rule.Sub s) = ap (λ t. codes " sub" ++ t) (sym (append-nil (number_word s)))

-- the numbers of an environment
unfoldable pub entry_numbers : List BinderNode → List ℕ
entry_numbers [] = []
entry_numbers (entry ∷ rest) = entry.binder ∷ entry.node.0 ∷ entry_numbers rest

entries_spelled : (env : List BinderNode) → flat_map entry_words env ≡ number_words (entry_numbers env)
unfolding entry_numbers
entries_spelled [] = refl
entries_spelled (entry ∷ rest) =
    append_assoc (number_word entry.binder) (number_word entry.node.0) (flat_map entry_words rest)
    ∙ ap (λ t. number_word entry.binder ++ (number_word entry.node.0 ++ t)) (entries_spelled rest)

-- entries are read from their numbers
more_entries : ℕ → ℕ → Option (List BinderNode) → Option (List BinderNode)
more_entries binder node None = None
more_entries binder node (Some env) = Some (record { binder = binder; node = record { 0 = node } } ∷ env)

entries_from : List ℕ → Option (List BinderNode)
entries_from [] = Some []
entries_from (binder ∷ []) = None
entries_from (binder ∷ node ∷ rest) = more_entries binder node (entries_from rest)

entries_read : (env : List BinderNode) → entries_from (entry_numbers env) ≡ Some env
unfolding entry_numbers entries_from more_entries
entries_read [] = refl
entries_read (entry ∷ rest) = ap (more_entries entry.binder entry.node.0) (entries_read rest)

-- rules are read from their words and numbers
abbrev pub is : List ℕ → List ℕ → Bool
is word other = bytes_eq word other

abbrev rule_from : Said → Option StepRule
rule_from (word, []) = if is word (codes "var") then Some rule.Var else (if is word (codes "lit") then Some rule.Lit else (if is word (codes "make") then Some (rule.Make []) else None))
rule_from (word, s ∷ []) =
    if is word (codes "use") then Some (rule.Use s) else (if is word (codes "name") then Some (rule.Name (record { 0 = s })) else (if is word (codes "fun") then Some (rule.Fun s)
    else (if is word (codes "proj") then Some (rule.Proj s) else (if is word (codes "rec") then Some (rule.Rec s) else (if is word (codes "sub") then Some (rule.Sub s)
    else (if is word (codes "make") then Some (rule.Make (s ∷ [])) else None))))))
rule_from (word, s ∷ t ∷ []) =
    if is word (codes "app") then Some (rule.App s t) else (if is word (codes "let") then Some (rule.Let s t) else (if is word (codes "make") then Some (rule.Make (s ∷ t ∷ [])) else None))
rule_from (word, s ∷ t ∷ u ∷ []) = if is word (codes "if") then Some (rule.If s t u) else (if is word (codes "make") then Some (rule.Make (s ∷ t ∷ u ∷ [])) else None)
rule_from (word, numbers) = if is word (codes "make") then Some (rule.Make numbers) else None

rule_read : (r : StepRule) → rule_from (rule_said r) ≡ Some r
rule_read rule.Var = refl
rule_read (rule.Use s) = refl
rule_read (rule.Name n) = refl
rule_read rule.Lit = refl
rule_read (rule.Fun s) = refl
rule_read (rule.App s t) = refl
rule_read (rule.Make []) = refl
rule_read (rule.Make (s ∷ [])) = refl
rule_read (rule.Make (s ∷ t ∷ [])) = refl
rule_read (rule.Make (s ∷ t ∷ u ∷ [])) = refl
rule_read (rule.Make (s ∷ t ∷ u ∷ v ∷ more)) = refl
rule_read (rule.Proj s) = refl
rule_read (rule.If s t u) = refl
rule_read (rule.Let s t) = refl
rule_read (rule.Rec s) = refl
rule_read (rule.Sub s) = refl

-- the clauses of a line
abbrev pub mode_said : Mode → List ℕ
mode_said Lr = codes "lr"
mode_said Rl = codes "rl"
mode_said Pp = codes "pp"

abbrev pub line_said : SectionLine → List Said
line_said (line.Let k s) = (codes "let", k ∷ s ∷ []) ∷ []
line_said (line.Step step) = (codes "step", step.node ∷ []) ∷ rule_said step.rule ∷ (codes "env", entry_numbers step.env) ∷ (codes "type", step.root.0 ∷ []) ∷ []
line_said (line.Put x n) = (codes "put", x ∷ n.0 ∷ []) ∷ []
line_said (line.Pair mode i j) = (codes "pair", []) ∷ (mode_said mode, i.0 ∷ j.0 ∷ []) ∷ []

-- lines are read from their clauses
abbrev mode_from : List ℕ → Mode
mode_from word = if is word (codes "lr") then Lr else (if is word (codes "rl") then Rl else Pp)

abbrev step_with : ℕ → ℕ → Option StepRule → Option (List BinderNode) → Option SectionLine
step_with node root (Some rule) (Some env) = Some (line.Step (record { node = node; rule = rule; env = env; root = record { 0 = root } }))
step_with node root _ _ = None

abbrev line_from : List Said → Option SectionLine
line_from ((word, k ∷ s ∷ []) ∷ []) = if is word (codes "let") then Some (line.Let k s) else Some (line.Put k (record { 0 = s }))
line_from ((word, []) ∷ (mode, i ∷ j ∷ []) ∷ []) = Some (line.Pair (mode_from mode) (record { 0 = i }) (record { 0 = j }))
line_from ((word, node ∷ []) ∷ rule ∷ (word', entries) ∷ (word'', root ∷ []) ∷ []) = step_with node root (rule_from rule) (entries_from entries)
line_from _ = None

line_read : (l : SectionLine) → line_from (line_said l) ≡ Some l
line_read (line.Let k s) = refl
line_read (line.Step step) = λ i. step_with step.node step.root.0 (rule_read step.rule i) (entries_read step.env i)
line_read (line.Put x n) = refl
line_read (line.Pair Lr i j) = refl
line_read (line.Pair Rl i j) = refl
line_read (line.Pair Pp i j) = refl

-- a line is spelled by the words of its clauses
step_bytes : (node rule numbers env root : List ℕ) → codes "step" ++ node ++ (rule ++ numbers) ++ codes " env" ++ env ++ codes " type" ++ root
    ≡ codes "step" ++ (node ++ (rule ++ (numbers ++ (codes " env" ++ (env ++ (codes " type" ++ root))))))
step_bytes node rule numbers env root = simp append_assoc refl

step_words : (node : ℕ) (word : List ℕ) (numbers entries : List ℕ) (root : ℕ) → codes "step" ++ (number_word node ++ ((32 ∷ word) ++ (number_words numbers ++ (codes " env" ++ (number_words entries ++ (codes " type" ++ number_word root))))))
    ≡ bytes_of (codes "step" ∷ decimal node ∷ word ∷ (map decimal numbers ++ codes "env" ∷ (map decimal entries ++ codes "type" ∷ decimal root ∷ [])))
step_words node word numbers entries root =
    let last : number_word root ≡ number_word root ++ [] = sym (append-nil (number_word root)) in
    let env : number_words entries ++ (codes " type" ++ number_word root) ≡ tails (map decimal entries ++ codes "type" ∷ decimal root ∷ []) =
    ap (λ t. number_words entries ++ (codes " type" ++ t)) last ∙ sym (tails_of_numbers entries (codes "type" ∷ decimal root ∷ [])) in
    let rule : number_words numbers ++ (codes " env" ++ (number_words entries ++ (codes " type" ++ number_word root))) ≡ tails (map decimal numbers ++ codes "env" ∷ (map decimal entries ++ codes "type" ∷ decimal root ∷ [])) =
    ap (λ t. number_words numbers ++ (codes " env" ++ t)) env ∙ sym (tails_of_numbers numbers (codes "env" ∷ (map decimal entries ++ codes "type" ∷ decimal root ∷ []))) in
    ap (λ t. codes "step" ++ (number_word node ++ ((32 ∷ word) ++ t))) rule

pub two_words : (word a b : List ℕ) → word ++ (32 ∷ a) ++ (32 ∷ b) ≡ word ++ ((32 ∷ a) ++ ((32 ∷ b) ++ []))
two_words word a b = simp (append_assoc, append-nil) refl

pub line_spelled : (l : SectionLine) → line_words l ≡ bytes_of (words_of (line_said l))
line_spelled (line.Let k s) = two_words (codes "let") (decimal k) (decimal s)
line_spelled (line.Step step) =
    (λ i. codes "step" ++ number_word step.node ++ rule_spelled step.rule i ++ codes " env" ++ entries_spelled step.env i ++ codes " type" ++ number_word step.root.0)
    ∙ (step_bytes (number_word step.node) (32 ∷ rule_word step.rule) (number_words (arguments step.rule)) (number_words (entry_numbers step.env)) (number_word step.root.0)
    ∙ step_words step.node (rule_word step.rule) (arguments step.rule) (entry_numbers step.env) step.root.0)
line_spelled (line.Put x n) = two_words (codes "put") (decimal x) (decimal n.0)
line_spelled (line.Pair Lr i j) = two_words (codes "pair lr") (decimal i.0) (decimal j.0)
line_spelled (line.Pair Rl i j) = two_words (codes "pair rl") (decimal i.0) (decimal j.0)
line_spelled (line.Pair Pp i j) = two_words (codes "pair pp") (decimal i.0) (decimal j.0)

-- the clauses of a line begin with words that are no numbers
entries_low : (env : List BinderNode) → All IsEntryForm env → All IsWord (entry_numbers env)
unfolding entry_numbers
entries_low [] all = All-nil IsWord
entries_low (entry ∷ rest) all =
    let first = All-head IsEntryForm entry rest all in
    All-cons IsWord entry.binder (entry.node.0 ∷ entry_numbers rest) first.0 (All-cons IsWord entry.node.0 (entry_numbers rest) first.1 (entries_low rest (All-tail IsEntryForm entry rest all)))

pub one : (n : ℕ) → IsWord n → All IsWord (n ∷ [])
one n low = All-cons IsWord n [] low (All-nil IsWord)

pub two : (n m : ℕ) → IsWord n → IsWord m → All IsWord (n ∷ m ∷ [])
two n m low low' = All-cons IsWord n (m ∷ []) low (one m low')

pub high : (b : ℕ) (rest : List ℕ) → nat_lt 57 b ≡ true → number_of (b ∷ rest) ≡ None
high b rest h = no_number b rest (ltb-true 57 b h)

rule_high : (r : StepRule) → number_of (rule_word r) ≡ None
rule_high rule.Var = high _ _ refl
rule_high (rule.Use s) = high _ _ refl
rule_high (rule.Name n) = high _ _ refl
rule_high rule.Lit = high _ _ refl
rule_high (rule.Fun s) = high _ _ refl
rule_high (rule.App s t) = high _ _ refl
rule_high (rule.Make numbers) = high _ _ refl
rule_high (rule.Proj s) = high _ _ refl
rule_high (rule.If s t u) = high _ _ refl
rule_high (rule.Let s t) = high _ _ refl
rule_high (rule.Rec s) = high _ _ refl
rule_high (rule.Sub s) = high _ _ refl

mode_high : (m : Mode) → number_of (mode_said m) ≡ None
mode_high Lr = high _ _ refl
mode_high Rl = high _ _ refl
mode_high Pp = high _ _ refl

pub only : (c : Said) → IsSaid c → All IsSaid (c ∷ [])
only c is = All-cons IsSaid c [] is (All-nil IsSaid)

pub line_is_said : (l : SectionLine) → IsLineForm l → All IsSaid (line_said l)
line_is_said (line.Let k s) is = only (codes "let", k ∷ s ∷ []) (high _ _ refl, two k s is.0 is.1)
line_is_said (line.Step step) is =
    let root : All IsSaid ((codes "type", step.root.0 ∷ []) ∷ []) = only (codes "type", step.root.0 ∷ []) (high _ _ refl, one step.root.0 is.root) in
    let env : IsSaid (codes "env", entry_numbers step.env) = (high _ _ refl, entries_low step.env is.env) in
    let rule : IsSaid (rule_said step.rule) = (rule_high step.rule, is.rule) in
    let first : IsSaid (codes "step", step.node ∷ []) = (high _ _ refl, one step.node is.node) in
    All-cons IsSaid (codes "step", step.node ∷ []) (rule_said step.rule ∷ (codes "env", entry_numbers step.env) ∷ (codes "type", step.root.0 ∷ []) ∷ []) first
    (All-cons IsSaid (rule_said step.rule) ((codes "env", entry_numbers step.env) ∷ (codes "type", step.root.0 ∷ []) ∷ []) rule
    (All-cons IsSaid (codes "env", entry_numbers step.env) ((codes "type", step.root.0 ∷ []) ∷ []) env root))
line_is_said (line.Put x n) is = only (codes "put", x ∷ n.0 ∷ []) (high _ _ refl, two x n.0 is.0 is.1)
line_is_said (line.Pair mode i j) is =
    All-cons IsSaid (codes "pair", []) ((mode_said mode, i.0 ∷ j.0 ∷ []) ∷ []) (high _ _ refl, All-nil IsWord)
    (only (mode_said mode, i.0 ∷ j.0 ∷ []) (mode_high mode, two i.0 j.0 is.0 is.1))

-- no word of a line has a space
literal : (word : List ℕ) → list_all (λ byte. not (nat_eq byte 32)) word ≡ true → HasNoSpace word
literal [] h = All-nil (λ byte. nat_eq byte 32 ≡ false)
literal (byte ∷ rest) h =
    let parts = and_parts (not (nat_eq byte 32)) (list_all (λ b. not (nat_eq b 32)) rest) h in
    All-cons (λ b. nat_eq b 32 ≡ false) byte rest (not-true (nat_eq byte 32) parts.0) (literal rest parts.1)

abbrev pub HasPlainWord : Said → Type 0
HasPlainWord c = HasNoSpace c.0

numbers_plain : (ns : List ℕ) → All IsWord ns → All HasNoSpace (map decimal ns)
numbers_plain [] all = All-nil HasNoSpace
numbers_plain (n ∷ ns) all = All-cons HasNoSpace (decimal n) (map decimal ns) (decimal_has_no_space n (All-head IsWord n ns all)) (numbers_plain ns (All-tail IsWord n ns all))

words_plain : (cs : List Said) → All IsSaid cs → All HasPlainWord cs → All HasNoSpace (words_of cs)
words_plain [] all plain = All-nil HasNoSpace
words_plain (c ∷ cs) all plain =
    All-append HasNoSpace (c.0 ∷ map decimal c.1) (words_of cs)
    (All-cons HasNoSpace c.0 (map decimal c.1) (All-head HasPlainWord c cs plain) (numbers_plain c.1 (All-head IsSaid c cs all).1))
    (words_plain cs (All-tail IsSaid c cs all) (All-tail HasPlainWord c cs plain))

pub parts_said : (c : Said) (cs : List Said) → All IsSaid (c ∷ cs) → All HasPlainWord (c ∷ cs) → line_parts (bytes_of (words_of (c ∷ cs))) ≡ words_of (c ∷ cs)
parts_said c cs all plain =
    let words = words_plain (c ∷ cs) all plain in
    parts_of_bytes c.0 (map decimal c.1 ++ words_of cs) (All-head HasNoSpace c.0 (map decimal c.1 ++ words_of cs) words) (All-tail HasNoSpace c.0 (map decimal c.1 ++ words_of cs) words)

pub plain : (c : Said) → list_all (λ byte. not (nat_eq byte 32)) c.0 ≡ true → (cs : List Said) → All HasPlainWord cs → All HasPlainWord (c ∷ cs)
plain c h cs all = All-cons HasPlainWord c cs (literal c.0 h) all

pub no_word : All HasPlainWord []
no_word = All-nil HasPlainWord

rule_plain : (r : StepRule) → list_all (λ byte. not (nat_eq byte 32)) (rule_word r) ≡ true
rule_plain rule.Var = refl
rule_plain (rule.Use s) = refl
rule_plain (rule.Name n) = refl
rule_plain rule.Lit = refl
rule_plain (rule.Fun s) = refl
rule_plain (rule.App s t) = refl
rule_plain (rule.Make numbers) = refl
rule_plain (rule.Proj s) = refl
rule_plain (rule.If s t u) = refl
rule_plain (rule.Let s t) = refl
rule_plain (rule.Rec s) = refl
rule_plain (rule.Sub s) = refl

mode_plain : (m : Mode) → list_all (λ byte. not (nat_eq byte 32)) (mode_said m) ≡ true
mode_plain Lr = refl
mode_plain Rl = refl
mode_plain Pp = refl

-- the words of a line are those of its clauses
pub line_parted : (l : SectionLine) → IsLineForm l → line_parts (line_words l) ≡ words_of (line_said l)
line_parted (line.Let k s) is =
    ap line_parts (line_spelled (line.Let k s))
    ∙ parts_said (codes "let", k ∷ s ∷ []) [] (line_is_said (line.Let k s) is) (plain (codes "let", k ∷ s ∷ []) refl [] no_word)
line_parted (line.Step step) is =
    ap line_parts (line_spelled (line.Step step))
    ∙ parts_said (codes "step", step.node ∷ []) (rule_said step.rule ∷ (codes "env", entry_numbers step.env) ∷ (codes "type", step.root.0 ∷ []) ∷ []) (line_is_said (line.Step step) is)
    (plain (codes "step", step.node ∷ []) refl (rule_said step.rule ∷ (codes "env", entry_numbers step.env) ∷ (codes "type", step.root.0 ∷ []) ∷ []) (plain (rule_said step.rule) (rule_plain step.rule) ((codes "env", entry_numbers step.env) ∷ (codes "type", step.root.0 ∷ []) ∷ [])
    (plain (codes "env", entry_numbers step.env) refl ((codes "type", step.root.0 ∷ []) ∷ []) (plain (codes "type", step.root.0 ∷ []) refl [] no_word))))
line_parted (line.Put x n) is =
    ap line_parts (line_spelled (line.Put x n))
    ∙ parts_said (codes "put", x ∷ n.0 ∷ []) [] (line_is_said (line.Put x n) is) (plain (codes "put", x ∷ n.0 ∷ []) refl [] no_word)
line_parted (line.Pair mode i j) is =
    ap line_parts (line_spelled (line.Pair mode i j))
    ∙ parts_said (codes "pair", []) ((mode_said mode, i.0 ∷ j.0 ∷ []) ∷ []) (line_is_said (line.Pair mode i j) is)
    (plain (codes "pair", []) refl ((mode_said mode, i.0 ∷ j.0 ∷ []) ∷ []) (plain (mode_said mode, i.0 ∷ j.0 ∷ []) (mode_plain mode) [] no_word))

or_else : SectionLine → Option SectionLine → SectionLine
or_else l None = l
or_else l (Some found) = found

-- lines with the same text are the same
pub one_line : (l other : SectionLine) → IsLineForm l → IsLineForm other → line_text l ≡ line_text other → l ≡ other
unfolding or_else
one_line l other is is' e =
    let bytes : line_words l ≡ line_words other = append_cancel_right (line_words l) (line_words other) (codes "\n") e in
    let words : words_of (line_said l) ≡ words_of (line_said other) = sym (line_parted l is) ∙ (ap line_parts bytes ∙ line_parted other is') in
    let said : line_said l ≡ line_said other = one_saying (line_said l) (line_said other) (line_is_said l is) (line_is_said other is') words in
    ap (or_else l) (sym (line_read l) ∙ (ap line_from said ∙ line_read other))
