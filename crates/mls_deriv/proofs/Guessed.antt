-- The line that words may spell is the one that they do spell, and it is of a form that a line may have.
use Rattle.std.proofs.Common.{◌≡◌, ℕ, ◌+◌, ◌<◌, zero, suc, Bool, true, false, ◌&&◌, List, [], ◌∷◌, ◌++◌, length, map, get_or, drop, Some, None, sym, ap, subst, ◌∙◌, refl, arith, append_assoc, length-append}
use Rattle.std.specs.Prelude.{All, decimal, bytes_eq, Option, codes, if◌then◌else◌, not}
use Rattle.std.proofs.lemmas.Bool.{and_parts, and_from}
use Rattle.std.proofs.lemmas.List.{drop_at, get_or_at}
use Rattle.std.proofs.lemmas.List.Elements.{All-nil, All-cons, All-head, All-tail}
use Rattle.std.proofs.lemmas.Slice.Eq.{bytes_eq-Decides}
use Rattle.mls_base.specs.Spelling.{IsName, is_spelled, is_reserved}
use Rattle.mls_book.specs.declared.book.Field.{Field}
use Rattle.mls_book.specs.declared.book.Node.{Node}
use Rattle.mls_book.specs.declared.book.Node.TheVariants as node
use Rattle.mls_deriv.specs.declared.derivation.BinderNode.{BinderNode}
use Rattle.mls_deriv.specs.declared.derivation.Mode.TheVariants.{Lr, Rl, Pp}
use Rattle.mls_deriv.specs.declared.derivation.SectionLine.{SectionLine}
use Rattle.mls_deriv.specs.declared.derivation.SectionLine.TheVariants as line
use Rattle.mls_deriv.specs.declared.derivation.StepLine.{StepLine}
use Rattle.mls_deriv.specs.declared.derivation.StepRule.{StepRule}
use Rattle.mls_deriv.specs.declared.derivation.StepRule.TheVariants as rule
use Rattle.mls_deriv.specs.declared.node_line.NodeWord.{NodeWord}
use Rattle.mls_deriv.specs.declared.node_line.NodeWord.TheVariants as node_kind
use Rattle.mls_deriv.specs.declared.section_line.LineWord.{LineWord}
use Rattle.mls_deriv.specs.declared.section_line.LineWord.TheVariants as line_kind
use Rattle.mls_deriv.specs.declared.section_line.RuleWord.{RuleWord}
use Rattle.mls_deriv.specs.declared.section_line.RuleWord.TheVariants as rule_kind
use Rattle.mls_deriv.specs.Spellings.{node_words, line_words}
use Rattle.mls_deriv.specs.Forms.{IsWord, arguments, IsFieldForm, IsNodeForm, IsEntryForm, IsStepForm, IsLineForm}
use Rattle.mls_deriv.specs.inner.Clauses.{number_of, words_of, rule_word, line_parts}
use Rattle.mls_deriv.specs.inner.Guesses.{or_zero, value_of, word_at, values_until, node_by, node_word, fields_guess, node_guess, rule_by, rule_word_of, env_guess, step_by, step_guess, line_by, line_word, line_guess}
use Rattle.mls_deriv.specs.inner.Readings.{HasRising, HasRisingBinders}
use Rattle.mls_deriv.proofs.SpelledNumbers.{number_spelled, number_sound}
use Rattle.mls_deriv.proofs.SpelledLines.{line_said, entry_numbers, high, line_parted}
use Rattle.mls_deriv.proofs.SpelledNodes.{first_word, field_said, node_said, true_test, node_parted}

-- the value of the word of a number
pub value_spelled : (n : ℕ) → IsWord n → value_of (decimal n) ≡ n
value_spelled n low = ap or_zero (number_spelled n low)

pub value_low : (word : List ℕ) → IsWord (value_of word)
value_low word = go (number_of word) refl
  where
    go : (o : Option ℕ) → number_of word ≡ o → IsWord (or_zero (number_of word))
    go None e = subst (λ o. IsWord (or_zero o)) (sym e) (let low : 0 < 18446744073709551616 = omega arith in low)
    go (Some n) e = subst (λ o. IsWord (or_zero o)) (sym e) (number_sound word n e).0

-- fields
named : (label : List ℕ) → IsName label → (is_spelled label && not (is_reserved label)) ≡ true
named label is = and_from (is_spelled label) (not (is_reserved label)) (true_test (is_spelled label) is.spelled) (ap not is.free)

fields_guessed : (fields : List Field) → All IsFieldForm fields → fields_guess (words_of (map field_said fields)) ≡ fields
fields_guessed [] all = refl
fields_guessed (field ∷ rest) all =
    let first = All-head IsFieldForm field rest all in
    λ i. if (named field.label first.0 i) then record { label = field.label; node = record { 0 = value_spelled field.node.0 first.1 i } } ∷ fields_guessed rest (All-tail IsFieldForm field rest all) i else []

-- nodes
pub node_guessed : (n : Node) → IsNodeForm n → node_guess (words_of (first_word ∷ node_said n)) ≡ n
node_guessed node.Bot is = refl
node_guessed node.Top is = refl
node_guessed (node.Var x) is = ap node.Var (value_spelled x is)
node_guessed node.Bool is = refl
node_guessed node.Int is = refl
node_guessed (node.Arrow j k) is = λ i. node.Arrow (record { 0 = value_spelled j.0 is.0 i }) (record { 0 = value_spelled k.0 is.1 i })
node_guessed (node.Rcd fields) is = ap node.Rcd (fields_guessed fields is.0)
node_guessed (node.Join j k) is = λ i. node.Join (record { 0 = value_spelled j.0 is.0 i }) (record { 0 = value_spelled k.0 is.1 i })
node_guessed (node.Meet j k) is = λ i. node.Meet (record { 0 = value_spelled j.0 is.0 i }) (record { 0 = value_spelled k.0 is.1 i })

name_of : (label : List ℕ) → (is_spelled label && not (is_reserved label)) ≡ true → IsName label
name_of label e = go (is_reserved label) refl
  where
    parts : (is_spelled label ≡ true) × (not (is_reserved label) ≡ true)
    parts = and_parts (is_spelled label) (not (is_reserved label)) e

    go : (b : Bool) → is_reserved label ≡ b → IsName label
    go true is = absurd (let taken : not (is_reserved label) ≡ true = parts.1 in let wrong : not (is_reserved label) ≡ false = ap not is in cc)
    go false is = record { spelled = parts.0; free = is }

fields_low : (words : List (List ℕ)) → All IsFieldForm (fields_guess words)
fields_low [] = All-nil IsFieldForm
fields_low (label ∷ []) = All-nil IsFieldForm
fields_low (label ∷ number ∷ rest) = go (is_spelled label && not (is_reserved label)) refl (fields_low rest)
  where
    go : (b : Bool) → (is_spelled label && not (is_reserved label)) ≡ b → All IsFieldForm (fields_guess rest) → All IsFieldForm (if b then record { label = label; node = record { 0 = value_of number } } ∷ fields_guess rest else [])
    go true e all = All-cons IsFieldForm (record { label = label; node = record { 0 = value_of number } }) (fields_guess rest) (name_of label e, value_low number) all
    go false e all = All-nil IsFieldForm

pub node_low : (kind : NodeWord) (words : List (List ℕ)) → HasRising (node_by kind words) → IsNodeForm (node_by kind words)
node_low node_kind.Bot words rising = tt
node_low node_kind.Top words rising = tt
node_low node_kind.Var words rising = value_low (word_at words 2)
node_low node_kind.Bool words rising = tt
node_low node_kind.Int words rising = tt
node_low node_kind.Fn words rising = (value_low (word_at words 2), value_low (word_at words 3))
node_low node_kind.Rcd words rising = (fields_low (drop 2 words), rising)
node_low node_kind.Join words rising = (value_low (word_at words 2), value_low (word_at words 3))
node_low node_kind.Meet words rising = (value_low (word_at words 2), value_low (word_at words 3))

-- numbers up to a word that is none
same_word : (word : List ℕ) → bytes_eq word word ≡ true
same_word word = (bytes_eq-Decides word word).1 refl

other_word : (n : ℕ) (stop : List ℕ) → IsWord n → number_of stop ≡ None → bytes_eq (decimal n) stop ≡ false
other_word n stop low none = go (bytes_eq (decimal n) stop) refl
  where
    go : (b : Bool) → bytes_eq (decimal n) stop ≡ b → b ≡ false
    go false e = refl
    go true e = absurd (let spelled : number_of stop ≡ Some n = ap number_of (sym ((bytes_eq-Decides (decimal n) stop).0 e)) ∙ number_spelled n low in cc)

until : (ns : List ℕ) (stop : List ℕ) (rest : List (List ℕ)) → number_of stop ≡ None → All IsWord ns → values_until stop (map decimal ns ++ stop ∷ rest) ≡ ns
until [] stop rest none all = λ i. if (same_word stop i) then [] else value_of stop ∷ values_until stop rest
until (n ∷ ns) stop rest none all =
    λ i. if (other_word n stop (All-head IsWord n ns all) none i) then [] else value_spelled n (All-head IsWord n ns all) i ∷ until ns stop rest none (All-tail IsWord n ns all) i

until_low : (stop : List ℕ) (words : List (List ℕ)) → All IsWord (values_until stop words)
until_low stop [] = All-nil IsWord
until_low stop (word ∷ words) = go (bytes_eq word stop) (until_low stop words)
  where
    go : (b : Bool) → All IsWord (values_until stop words) → All IsWord (if b then [] else value_of word ∷ values_until stop words)
    go true all = All-nil IsWord
    go false all = All-cons IsWord (value_of word) (values_until stop words) (value_low word) all

-- environments and rules
env_guessed : (env : List BinderNode) → env_guess (entry_numbers env) ≡ env
unfolding entry_numbers
env_guessed [] = refl
env_guessed (entry ∷ rest) = ap (λ es. record { binder = entry.binder; node = record { 0 = entry.node.0 } } ∷ es) (env_guessed rest)

rule_guessed : (r : StepRule) → rule_by (rule_word_of (rule_word r)) (arguments r) ≡ r
rule_guessed rule.Var = refl
rule_guessed (rule.Use s) = refl
rule_guessed (rule.Name n) = refl
rule_guessed rule.Lit = refl
rule_guessed (rule.Fun s) = refl
rule_guessed (rule.App s t) = refl
rule_guessed (rule.Make numbers) = refl
rule_guessed (rule.Proj s) = refl
rule_guessed (rule.If s t u) = refl
rule_guessed (rule.Let s t) = refl
rule_guessed (rule.Rec s) = refl
rule_guessed (rule.Sub s) = refl

env_low : (ns : List ℕ) → All IsWord ns → All IsEntryForm (env_guess ns)
env_low [] all = All-nil IsEntryForm
env_low (b ∷ []) all = All-nil IsEntryForm
env_low (b ∷ n ∷ rest) all =
    let more = All-tail IsWord b (n ∷ rest) all in
    All-cons IsEntryForm (record { binder = b; node = record { 0 = n } }) (env_guess rest) (All-head IsWord b (n ∷ rest) all, All-head IsWord n rest more) (env_low rest (All-tail IsWord n rest more))

value_in : (ns : List ℕ) (i : ℕ) → All IsWord ns → IsWord (get_or ns i 0)
value_in [] i all = let low : 0 < 18446744073709551616 = omega arith in low
value_in (n ∷ ns) zero all = All-head IsWord n ns all
value_in (n ∷ ns) (suc i) all = value_in ns i (All-tail IsWord n ns all)

one : (n : ℕ) → IsWord n → All IsWord (n ∷ [])
one n low = All-cons IsWord n [] low (All-nil IsWord)

two : (n m : ℕ) → IsWord n → IsWord m → All IsWord (n ∷ m ∷ [])
two n m low low' = All-cons IsWord n (m ∷ []) low (one m low')

rule_low : (kind : RuleWord) (ns : List ℕ) → All IsWord ns → All IsWord (arguments (rule_by kind ns))
rule_low rule_kind.Var ns all = All-nil IsWord
rule_low rule_kind.Use ns all = one (get_or ns 0 0) (value_in ns 0 all)
rule_low rule_kind.Name ns all = one (get_or ns 0 0) (value_in ns 0 all)
rule_low rule_kind.Lit ns all = All-nil IsWord
rule_low rule_kind.Fun ns all = one (get_or ns 0 0) (value_in ns 0 all)
rule_low rule_kind.App ns all = two (get_or ns 0 0) (get_or ns 1 0) (value_in ns 0 all) (value_in ns 1 all)
rule_low rule_kind.Make ns all = all
rule_low rule_kind.Proj ns all = one (get_or ns 0 0) (value_in ns 0 all)
rule_low rule_kind.If ns all = All-cons IsWord (get_or ns 0 0) (get_or ns 1 0 ∷ get_or ns 2 0 ∷ []) (value_in ns 0 all) (two (get_or ns 1 0) (get_or ns 2 0) (value_in ns 1 all) (value_in ns 2 all))
rule_low rule_kind.Let ns all = two (get_or ns 0 0) (get_or ns 1 0) (value_in ns 0 all) (value_in ns 1 all)
rule_low rule_kind.Rec ns all = one (get_or ns 0 0) (value_in ns 0 all)
rule_low rule_kind.Sub ns all = one (get_or ns 0 0) (value_in ns 0 all)

-- lines
pub line_low : (kind : LineWord) (words : List (List ℕ)) → HasRisingBinders (line_by kind words) → IsLineForm (line_by kind words)
line_low line_kind.Let words rising = (value_low (word_at words 1), value_low (word_at words 2))
line_low line_kind.Put words rising = (value_low (word_at words 1), value_low (word_at words 2))
line_low line_kind.Pair words rising = (value_low (word_at words 2), value_low (word_at words 3))
line_low line_kind.Step words rising =
    let ns = values_until (codes "env") (drop 3 words) in
    let entries = values_until (codes "type") (drop (length ns + 4) words) in
    record {
      node = value_low (word_at words 1);
      rule = rule_low (rule_word_of (word_at words 2)) ns (until_low (codes "env") (drop 3 words));
      env = env_low entries (until_low (codes "type") (drop (length ns + 4) words));
      rising = rising;
      root = value_low (word_at words (length ns + length entries + 5));
    }

-- the words of a step
step_at : (e : ℕ) (word : List ℕ) (ns entries : List ℕ) (t : ℕ) → List (List ℕ)
step_at e word ns entries t = codes "step" ∷ decimal e ∷ word ∷ (map decimal ns ++ codes "env" ∷ (map decimal entries ++ codes "type" ∷ decimal t ∷ []))

length_map : (ns : List ℕ) → length (map decimal ns) ≡ length ns
length_map [] = refl
length_map (n ∷ ns) = ap suc (length_map ns)

behind_env : (e : ℕ) (word : List ℕ) (ns entries : List ℕ) (t : ℕ) → drop (length ns + 4) (step_at e word ns entries t) ≡ map decimal entries ++ codes "type" ∷ decimal t ∷ []
unfolding step_at
behind_env e word ns entries t =
    let rest = map decimal entries ++ codes "type" ∷ decimal t ∷ [] in
    let front = codes "step" ∷ decimal e ∷ word ∷ (map decimal ns ++ codes "env" ∷ []) in
    let whole : step_at e word ns entries t ≡ front ++ rest = ap (λ ws. codes "step" ∷ decimal e ∷ word ∷ ws) (sym (append_assoc (map decimal ns) (codes "env" ∷ []) rest)) in
    let count : length (map decimal ns) ≡ length ns = length_map ns in
    let inner : length (map decimal ns ++ codes "env" ∷ []) ≡ length (map decimal ns) + 1 = length-append (map decimal ns) (codes "env" ∷ []) in
    let size : length front ≡ length ns + 4 = omega arith in
    ap (drop (length ns + 4)) whole ∙ drop_at front rest (length ns + 4) size

root_of : (e : ℕ) (word : List ℕ) (ns entries : List ℕ) (t : ℕ) → word_at (step_at e word ns entries t) (length ns + length entries + 5) ≡ decimal t
unfolding step_at
root_of e word ns entries t =
    let front = codes "step" ∷ decimal e ∷ word ∷ (map decimal ns ++ codes "env" ∷ (map decimal entries ++ codes "type" ∷ [])) in
    let inner : map decimal ns ++ codes "env" ∷ (map decimal entries ++ codes "type" ∷ decimal t ∷ []) ≡ (map decimal ns ++ codes "env" ∷ (map decimal entries ++ codes "type" ∷ [])) ++ decimal t ∷ [] =
    ap (λ ws. map decimal ns ++ codes "env" ∷ ws) (sym (append_assoc (map decimal entries) (codes "type" ∷ []) (decimal t ∷ [])))
    ∙ sym (append_assoc (map decimal ns) (codes "env" ∷ (map decimal entries ++ codes "type" ∷ [])) (decimal t ∷ [])) in
    let whole : step_at e word ns entries t ≡ front ++ decimal t ∷ [] = ap (λ ws. codes "step" ∷ decimal e ∷ word ∷ ws) inner in
    let count : length (map decimal ns) ≡ length ns = length_map ns in
    let count' : length (map decimal entries) ≡ length entries = length_map entries in
    let one : length (map decimal ns ++ codes "env" ∷ (map decimal entries ++ codes "type" ∷ [])) ≡ length (map decimal ns) + suc (length (map decimal entries ++ codes "type" ∷ [])) =
    length-append (map decimal ns) (codes "env" ∷ (map decimal entries ++ codes "type" ∷ [])) in
    let other : length (map decimal entries ++ codes "type" ∷ []) ≡ length (map decimal entries) + 1 = length-append (map decimal entries) (codes "type" ∷ []) in
    let size : length front ≡ length ns + length entries + 5 = omega arith in
    ap (λ ws. word_at ws (length ns + length entries + 5)) whole ∙ get_or_at front (decimal t) [] [] (length ns + length entries + 5) size

step_spelled : (e : ℕ) (word : List ℕ) (ns entries : List ℕ) (t : ℕ) → All IsWord ns → All IsWord entries → step_guess (step_at e word ns entries t) ≡ step_by (step_at e word ns entries t) ns entries
unfolding step_at
step_spelled e word ns entries t all all' =
    let words = step_at e word ns entries t in
    let front : values_until (codes "env") (drop 3 words) ≡ ns = numbers in
    let back : values_until (codes "type") (drop (length ns + 4) words) ≡ entries =
    ap (values_until (codes "type")) (behind_env e word ns entries t) ∙ until entries (codes "type") (decimal t ∷ []) (high _ _ refl) all' in
    ap (λ ms. step_by words ms (values_until (codes "type") (drop (length ms + 4) words))) front ∙ ap (step_by words ns) back
  where
    numbers : values_until (codes "env") (drop 3 (step_at e word ns entries t)) ≡ ns
    numbers = until ns (codes "env") (map decimal entries ++ codes "type" ∷ decimal t ∷ []) (high _ _ refl) all

entries_low : (env : List BinderNode) → All IsEntryForm env → All IsWord (entry_numbers env)
unfolding entry_numbers
entries_low [] all = All-nil IsWord
entries_low (entry ∷ rest) all =
    let first = All-head IsEntryForm entry rest all in
    All-cons IsWord entry.binder (entry.node.0 ∷ entry_numbers rest) first.0 (All-cons IsWord entry.node.0 (entry_numbers rest) first.1 (entries_low rest (All-tail IsEntryForm entry rest all)))

step_guessed : (step : StepLine) → IsStepForm step → step_guess (words_of (line_said (line.Step step))) ≡ line.Step step
unfolding step_at
step_guessed step is =
    let entries = entry_numbers step.env in
    let root = root_of step.node (rule_word step.rule) (arguments step.rule) entries step.root.0 in
    step_spelled step.node (rule_word step.rule) (arguments step.rule) entries step.root.0 is.rule (entries_low step.env is.env)
    ∙ (λ i. line.Step (record {
      node = value_spelled step.node is.node i;
      rule = rule_guessed step.rule i;
      env = env_guessed step.env i;
      root = record { 0 = (ap value_of root ∙ value_spelled step.root.0 is.root) i };
    }))

pub line_guessed : (l : SectionLine) → IsLineForm l → line_guess (words_of (line_said l)) ≡ l
line_guessed (line.Let k s) is = λ i. line.Let (value_spelled k is.0 i) (value_spelled s is.1 i)
line_guessed (line.Step step) is = step_guessed step is
line_guessed (line.Put x n) is = λ i. line.Put (value_spelled x is.0 i) (record { 0 = value_spelled n.0 is.1 i })
line_guessed (line.Pair Lr j k) is = λ i. line.Pair Lr (record { 0 = value_spelled j.0 is.0 i }) (record { 0 = value_spelled k.0 is.1 i })
line_guessed (line.Pair Rl j k) is = λ i. line.Pair Rl (record { 0 = value_spelled j.0 is.0 i }) (record { 0 = value_spelled k.0 is.1 i })
line_guessed (line.Pair Pp j k) is = λ i. line.Pair Pp (record { 0 = value_spelled j.0 is.0 i }) (record { 0 = value_spelled k.0 is.1 i })

-- what is read of a line is what it spells
pub node_found : (line : List ℕ) (words : List (List ℕ)) (found n : Node) → words ≡ line_parts line → found ≡ node_guess words → IsNodeForm n → line ≡ codes "node" ++ node_words n → found ≡ n
node_found line words found n e e' is spelled = e' ∙ (ap node_guess (e ∙ (ap line_parts spelled ∙ node_parted n is)) ∙ node_guessed n is)

pub node_form : (words : List (List ℕ)) (found : Node) → found ≡ node_guess words → HasRising found → IsNodeForm found
node_form words found e rising = subst IsNodeForm (sym e) (node_low (node_word (word_at words 1)) words (subst HasRising e rising))

pub node_rises : (n : Node) → IsNodeForm n → HasRising n
node_rises node.Bot is = tt
node_rises node.Top is = tt
node_rises (node.Var x) is = tt
node_rises node.Bool is = tt
node_rises node.Int is = tt
node_rises (node.Arrow j k) is = tt
node_rises (node.Rcd fields) is = is.1
node_rises (node.Join j k) is = tt
node_rises (node.Meet j k) is = tt

pub line_found : (line : List ℕ) (words : List (List ℕ)) (found l : SectionLine) → words ≡ line_parts line → found ≡ line_guess words → IsLineForm l → line ≡ line_words l → found ≡ l
line_found line words found l e e' is spelled = e' ∙ (ap line_guess (e ∙ (ap line_parts spelled ∙ line_parted l is)) ∙ line_guessed l is)

pub line_form : (words : List (List ℕ)) (found : SectionLine) → found ≡ line_guess words → HasRisingBinders found → IsLineForm found
line_form words found e rising = subst IsLineForm (sym e) (line_low (line_word (word_at words 0)) words (subst HasRisingBinders e rising))

pub line_rises : (l : SectionLine) → IsLineForm l → HasRisingBinders l
line_rises (line.Let k s) is = tt
line_rises (line.Step step) is = is.rising
line_rises (line.Put x n) is = tt
line_rises (line.Pair mode i j) is = tt
