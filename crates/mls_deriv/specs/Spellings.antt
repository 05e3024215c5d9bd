-- The text of a derivation.
use Rattle.std.specs.Prelude.{ℕ, List, ◌++◌, codes, decimal}
use Rattle.std.specs.List.{flat_map}
use Rattle.mls_book.specs.declared.book.Field.{Field}
use Rattle.mls_book.specs.declared.book.Node.{Node}
use Rattle.mls_book.specs.declared.book.Node.TheVariants as node
use Rattle.mls_deriv.specs.declared.derivation.BinderNode.{BinderNode}
use Rattle.mls_deriv.specs.declared.derivation.Derivation.{Derivation}
use Rattle.mls_deriv.specs.declared.derivation.Mode.{Mode}
use Rattle.mls_deriv.specs.declared.derivation.Mode.TheVariants.{Lr, Rl, Pp}
use Rattle.mls_deriv.specs.declared.derivation.Section.{Section}
use Rattle.mls_deriv.specs.declared.derivation.SectionLine.{SectionLine}
use Rattle.mls_deriv.specs.declared.derivation.SectionLine.TheVariants as line
use Rattle.mls_deriv.specs.declared.derivation.StepRule.{StepRule}
use Rattle.mls_deriv.specs.declared.derivation.StepRule.TheVariants as rule

-- a space and a number, and so for many
abbrev pub number_word : ℕ → List ℕ
number_word n = codes " " ++ decimal n

abbrev pub number_words : List ℕ → List ℕ
number_words = flat_map number_word

abbrev pub field_words : Field → List ℕ
field_words field = codes " " ++ field.label ++ number_word field.node.0

-- what stands on the line of a node behind its first word
abbrev pub node_words : Node → List ℕ
node_words node.Bot = codes " bot"
node_words node.Top = codes " top"
node_words (node.Var x) = codes " var" ++ number_word x
node_words node.Bool = codes " bool"
node_words node.Int = codes " int"
node_words (node.Arrow j k) = codes " fn" ++ number_word j.0 ++ number_word k.0
node_words (node.Rcd fields) = codes " rcd" ++ flat_map field_words fields
node_words (node.Join j k) = codes " join" ++ number_word j.0 ++ number_word k.0
node_words (node.Meet j k) = codes " meet" ++ number_word j.0 ++ number_word k.0

abbrev pub node_line : Node → List ℕ
node_line n = codes "node" ++ node_words n ++ codes "\n"

abbrev pub rule_words : StepRule → List ℕ
rule_words rule.Var = codes " var"
rule_words (rule.Use s) = codes " use" ++ number_word s
rule_words (rule.Name n) = codes " name" ++ number_word n.0
rule_words rule.Lit = codes " lit"
rule_words (rule.Fun s) = codes " fun" ++ number_word s
rule_words (rule.App s t) = codes " app" ++ number_word s ++ number_word t
rule_words (rule.Make ss) = codes " make" ++ number_words ss
rule_words (rule.Proj s) = codes " proj" ++ number_word s
rule_words (rule.If s t u) = codes " if" ++ number_word s ++ number_word t ++ number_word u
rule_words (rule.Let s t) = codes " let" ++ number_word s ++ number_word t
rule_words (rule.Rec s) = codes " rec" ++ number_word s
rule_words (rule.Sub s) = codes " sub" ++ number_word s

abbrev pub mode_word : Mode → List ℕ
mode_word Lr = codes " lr"
mode_word Rl = codes " rl"
mode_word Pp = codes " pp"

abbrev pub entry_words : BinderNode → List ℕ
entry_words entry = number_word entry.binder ++ number_word entry.node.0

abbrev pub line_words : SectionLine → List ℕ
line_words (line.Let k s) = codes "let" ++ number_word k ++ number_word s
line_words (line.Step step) =
    codes "step" ++ number_word step.node ++ rule_words step.rule ++ codes " env" ++ flat_map entry_words step.env
    ++ codes " type" ++ number_word step.root.0
line_words (line.Put x n) = codes "put" ++ number_word x ++ number_word n.0
line_words (line.Pair mode i j) = codes "pair" ++ mode_word mode ++ number_word i.0 ++ number_word j.0

abbrev pub line_text : SectionLine → List ℕ
line_text l = line_words l ++ codes "\n"

abbrev pub section_text : Section → List ℕ
section_text s =
    codes "val " ++ s.name ++ codes " : " ++ s.text ++ codes "\n" ++ flat_map node_line s.nodes
    ++ flat_map line_text s.lines
    ++ codes "end\n"

abbrev pub derivation_text : Derivation → List ℕ
derivation_text d = codes "derivation 1\n" ++ flat_map section_text d.sections
