-- The one line that words may spell.
use Rattle.std.specs.Prelude.{ℕ, ◌+◌, not, ◌&&◌, List, [], ◌∷◌, length, drop, get_or, bytes_eq, codes, if◌then◌else◌}
use Rattle.std.specs.Prelude.{Option, Some, None}
use Rattle.mls_base.specs.Spelling.{is_spelled, is_reserved}
use Rattle.mls_book.specs.declared.book.Field.{Field}
use Rattle.mls_book.specs.declared.book.Node.{Node}
use Rattle.mls_book.specs.declared.book.Node.TheVariants as node
use Rattle.mls_deriv.specs.declared.derivation.BinderNode.{BinderNode}
use Rattle.mls_deriv.specs.declared.derivation.Mode.{Mode}
use Rattle.mls_deriv.specs.declared.derivation.Mode.TheVariants.{Lr, Rl, Pp}
use Rattle.mls_deriv.specs.declared.derivation.SectionLine.{SectionLine}
use Rattle.mls_deriv.specs.declared.derivation.SectionLine.TheVariants as line
use Rattle.mls_deriv.specs.declared.derivation.StepRule.{StepRule}
use Rattle.mls_deriv.specs.declared.derivation.StepRule.TheVariants as rule
use Rattle.mls_deriv.specs.declared.node_line.NodeWord.{NodeWord}
use Rattle.mls_deriv.specs.declared.node_line.NodeWord.TheVariants as node_kind
use Rattle.mls_deriv.specs.declared.section_line.LineWord.{LineWord}
use Rattle.mls_deriv.specs.declared.section_line.LineWord.TheVariants as line_kind
use Rattle.mls_deriv.specs.declared.section_line.RuleWord.{RuleWord}
use Rattle.mls_deriv.specs.declared.section_line.RuleWord.TheVariants as rule_kind
use Rattle.mls_deriv.specs.inner.Clauses.{number_of}

-- the number that a word spells; it is 0 for a word that spells none
abbrev pub or_zero : Option ℕ → ℕ
or_zero None = 0
or_zero (Some n) = n

abbrev pub value_of : List ℕ → ℕ
value_of word = or_zero (number_of word)

-- the word of this number; past the end it is empty
abbrev pub word_at : List (List ℕ) → ℕ → List ℕ
word_at words i = get_or words i []

abbrev pub value_at : List (List ℕ) → ℕ → ℕ
value_at words i = value_of (word_at words i)

-- the numbers that words spell, up to this one
abbrev pub values_until : (stop : List ℕ) → List (List ℕ) → List ℕ
values_until stop [] = []
values_until stop (word ∷ words) = if bytes_eq word stop then [] else value_of word ∷ values_until stop words

-- the kinds of nodes, by their words
abbrev pub node_word : List ℕ → NodeWord
node_word word =
    if bytes_eq word (codes "bot") then node_kind.Bot else if bytes_eq word (codes "top") then node_kind.Top
    else if bytes_eq word (codes "var") then node_kind.Var else if bytes_eq word (codes "bool") then node_kind.Bool
    else if bytes_eq word (codes "int") then node_kind.Int else if bytes_eq word (codes "fn") then node_kind.Fn
    else if bytes_eq word (codes "join") then node_kind.Join else if bytes_eq word (codes "meet") then node_kind.Meet
    else node_kind.Rcd

-- the fields of these words, up to one that is no label
abbrev pub fields_guess : List (List ℕ) → List Field
fields_guess [] = []
fields_guess (label ∷ []) = []
fields_guess (label ∷ number ∷ rest) =
    if is_spelled label && not (is_reserved label)
    then record { label = label; node = record { 0 = value_of number } } ∷ fields_guess rest
    else []

abbrev pub node_by : NodeWord → List (List ℕ) → Node
node_by node_kind.Bot words = node.Bot
node_by node_kind.Top words = node.Top
node_by node_kind.Var words = node.Var (value_at words 2)
node_by node_kind.Bool words = node.Bool
node_by node_kind.Int words = node.Int
node_by node_kind.Fn words = node.Arrow (record { 0 = value_at words 2 }) (record { 0 = value_at words 3 })
node_by node_kind.Rcd words = node.Rcd (fields_guess (drop 2 words))
node_by node_kind.Join words = node.Join (record { 0 = value_at words 2 }) (record { 0 = value_at words 3 })
node_by node_kind.Meet words = node.Meet (record { 0 = value_at words 2 }) (record { 0 = value_at words 3 })

-- the kinds of lines, by their first words
abbrev pub line_word : List ℕ → LineWord
line_word word =
    if bytes_eq word (codes "let") then line_kind.Let else if bytes_eq word (codes "put") then line_kind.Put
    else if bytes_eq word (codes "pair") then line_kind.Pair else line_kind.Step

abbrev pub mode_guess : List ℕ → Mode
mode_guess word = if bytes_eq word (codes "lr") then Lr else if bytes_eq word (codes "rl") then Rl else Pp

-- the kinds of rules, by their words
abbrev pub rule_word_of : List ℕ → RuleWord
rule_word_of word =
    if bytes_eq word (codes "var") then rule_kind.Var else if bytes_eq word (codes "use") then rule_kind.Use
    else if bytes_eq word (codes "name") then rule_kind.Name else if bytes_eq word (codes "lit") then rule_kind.Lit
    else if bytes_eq word (codes "fun") then rule_kind.Fun else if bytes_eq word (codes "app") then rule_kind.App
    else if bytes_eq word (codes "proj") then rule_kind.Proj else if bytes_eq word (codes "if") then rule_kind.If
    else if bytes_eq word (codes "let") then rule_kind.Let else if bytes_eq word (codes "rec") then rule_kind.Rec
    else if bytes_eq word (codes "sub") then rule_kind.Sub else rule_kind.Make

abbrev pub rule_by : RuleWord → List ℕ → StepRule
rule_by rule_kind.Var ns = rule.Var
rule_by rule_kind.Use ns = rule.Use (get_or ns 0 0)
rule_by rule_kind.Name ns = rule.Name (record { 0 = get_or ns 0 0 })
rule_by rule_kind.Lit ns = rule.Lit
rule_by rule_kind.Fun ns = rule.Fun (get_or ns 0 0)
rule_by rule_kind.App ns = rule.App (get_or ns 0 0) (get_or ns 1 0)
rule_by rule_kind.Make ns = rule.Make ns
rule_by rule_kind.Proj ns = rule.Proj (get_or ns 0 0)
rule_by rule_kind.If ns = rule.If (get_or ns 0 0) (get_or ns 1 0) (get_or ns 2 0)
rule_by rule_kind.Let ns = rule.Let (get_or ns 0 0) (get_or ns 1 0)
rule_by rule_kind.Rec ns = rule.Rec (get_or ns 0 0)
rule_by rule_kind.Sub ns = rule.Sub (get_or ns 0 0)

-- the environment of binders and nodes in turn
abbrev pub env_guess : List ℕ → List BinderNode
env_guess [] = []
env_guess (binder ∷ []) = []
env_guess (binder ∷ n ∷ rest) = record { binder = binder; node = record { 0 = n } } ∷ env_guess rest

-- a step with these numbers behind its rule, and these in its environment
abbrev pub step_by : List (List ℕ) → (ns entries : List ℕ) → SectionLine
step_by words ns entries = line.Step (record {
  node = value_at words 1;
  rule = rule_by (rule_word_of (word_at words 2)) ns;
  env = env_guess entries;
  root = record { 0 = value_at words (length ns + length entries + 5) };
})

abbrev pub step_guess : List (List ℕ) → SectionLine
step_guess words =
    let ns = values_until (codes "env") (drop 3 words) in
    step_by words ns (values_until (codes "type") (drop (length ns + 4) words))

abbrev pub line_by : LineWord → List (List ℕ) → SectionLine
line_by line_kind.Let words = line.Let (value_at words 1) (value_at words 2)
line_by line_kind.Put words = line.Put (value_at words 1) (record { 0 = value_at words 2 })
line_by line_kind.Pair words =
    line.Pair (mode_guess (word_at words 1)) (record { 0 = value_at words 2 }) (record { 0 = value_at words 3 })
line_by line_kind.Step words = step_guess words

-- what these words may spell
abbrev pub node_guess : List (List ℕ) → Node
node_guess words = node_by (node_word (word_at words 1)) words

abbrev pub line_guess : List (List ℕ) → SectionLine
line_guess words = line_by (line_word (word_at words 0)) words
