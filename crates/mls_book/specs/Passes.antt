-- When a node of a book passes a test.
use Rattle.std.specs.Prelude.{ℕ, zero, suc, Bool, true, false, not, ◌&&◌, ◌||◌, List, option_map, Option, Some, None}
use Rattle.std.specs.Prelude.{is_none}
use Rattle.mls_book.specs.declared.book.Field.{Field}
use Rattle.mls_book.specs.declared.book.NodeId.{NodeId}
use Rattle.mls_book.specs.declared.book.Node.{Node}
use Rattle.mls_book.specs.declared.book.Node.TheVariants as node
use Rattle.mls_book.specs.Books.{node_at, field_at}
use Rattle.mls_book.specs.Tests.{Test, test, FunctionPart, never_function, always_function, dom, cod, RecordPart}
use Rattle.mls_book.specs.Tests.{never_record, always_record, lacks, at}
use Rattle.mls_book.specs.Predicates.{Predicate, bot, top, var, bool, int, arrow, rcd, join, meet}

-- the fields of a record, where `value` says what the nodes pass
abbrev pub field_values : (ℕ → Predicate) → List Field → List ℕ → Option Predicate
field_values value fields label = option_map (λ id. value id.0) (field_at label fields)

-- The table: what a node passes, where `variable` says it of the variables and `value` of its children.
abbrev pub node_value : (variable value : ℕ → Predicate) → Node → Predicate
node_value variable value node.Bot = bot
node_value variable value node.Top = top
node_value variable value (node.Var x) = variable x
node_value variable value node.Bool = bool
node_value variable value node.Int = int
node_value variable value (node.Arrow j k) = arrow (value j.0) (value k.0)
node_value variable value (node.Rcd fields) = rcd (field_values value fields)
node_value variable value (node.Join j k) = join (value j.0) (value k.0)
node_value variable value (node.Meet j k) = meet (value j.0) (value k.0)

-- The rest defines the one family of predicates that is as the table says. It recurses on the test, and for one test
-- on the number of the node.

-- what one test says of the nodes that are no join and no meet
pub record Answers : Type 0 where
  pub variable : ℕ → Bool
  pub boolean : Bool
  pub integer : Bool
  pub function : ℕ → ℕ → Bool
  pub fields : List Field → Bool

-- what it says of a node, where `child` answers for the nodes before it
abbrev pub answer : Answers → (ℕ → Bool) → Node → Bool
answer a child node.Bot = false
answer a child node.Top = true
answer a child (node.Var x) = a.variable x
answer a child node.Bool = a.boolean
answer a child node.Int = a.integer
answer a child (node.Arrow j k) = a.function j.0 k.0
answer a child (node.Rcd fields) = a.fields fields
answer a child (node.Join j k) = child j.0 || child k.0
answer a child (node.Meet j k) = child j.0 && child k.0

-- what it says of the nodes below a number; of the others, which nobody asks for, it says no
unfoldable pub answer_below : Answers → List Node → ℕ → ℕ → Bool
answer_below a nodes zero i = false
answer_below a nodes (suc n) i = answer a (answer_below a nodes n) (node_at nodes i)

-- what a test of a field says, and of a label that is not there
abbrev pub field_passes : (ℕ → Bool) → Option NodeId → Bool
field_passes child None = true
field_passes child (Some id) = child id.0

-- whether a node passes a test, where `variable` says which variables pass
unfoldable mutual
  pub passes_by : (variable : ℕ → Predicate) → List Node → ℕ → Test → Bool
  passes_by variable nodes i (test vars boolean integer function fields) =
      answer_below record {
        variable = λ x. variable x (test vars boolean integer function fields);
        boolean = boolean;
        integer = integer;
        function = function_passes variable nodes function;
        fields = record_passes variable nodes fields;
      } nodes (suc i) i

  pub function_passes : (variable : ℕ → Predicate) → List Node → FunctionPart → ℕ → ℕ → Bool
  function_passes variable nodes never_function j k = false
  function_passes variable nodes always_function j k = true
  function_passes variable nodes (dom q) j k = not (passes_by variable nodes j q)
  function_passes variable nodes (cod q) j k = passes_by variable nodes k q

  pub record_passes : (variable : ℕ → Predicate) → List Node → RecordPart → List Field → Bool
  record_passes variable nodes never_record fields = false
  record_passes variable nodes always_record fields = true
  record_passes variable nodes (lacks label) fields = is_none (field_at label fields)
  record_passes variable nodes (at label q) fields =
      field_passes (λ i. passes_by variable nodes i q) (field_at label fields)

-- whether a node passes a test
abbrev pub passes : List Node → ℕ → Test → Bool
passes = passes_by var

-- the same, where each variable x stands for the node r x of a second book
abbrev pub passes_under : List Node → (ℕ → ℕ) → List Node → ℕ → Test → Bool
passes_under other r = passes_by (λ x. passes other (r x))
