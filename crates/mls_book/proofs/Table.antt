-- What the nodes of a book pass is as the table says.
use Rattle.std.proofs.Common.{◌≡◌, ℕ, zero, suc, ◌<◌, Bool, ◌&&◌, ◌||◌, List, refl, ap, ◌∙◌, arith}
use Rattle.std.specs.Prelude.{Option, Some, None, option_map, is_none}
use Rattle.mls_book.specs.declared.book.Field.{Field}
use Rattle.mls_book.specs.declared.book.Node.{Node}
use Rattle.mls_book.specs.declared.book.NodeId.{NodeId}
use Rattle.mls_book.specs.declared.book.Node.TheVariants as node
use Rattle.mls_book.specs.Books.{node_at, field_at, IsOrdered, IsBook}
use Rattle.mls_book.specs.Tests.{Test, test, FunctionPart, never_function, always_function, dom, cod, RecordPart, never_record, always_record, lacks, at}
use Rattle.mls_book.specs.Predicates.{Predicate, bot, top, bool, int, function_answer, arrow, field_answer, record_answer, rcd, join, meet}
use Rattle.mls_book.specs.Passes.{Answers, answer, answer_below, passes_by, function_passes, record_passes, field_passes, field_values, node_value}

-- the answers of one test
abbrev pub answers_of : (variable : ℕ → Predicate) → List Node → Test → Answers
answers_of variable nodes (test vars boolean integer function fields) = record {
  variable = λ x. variable x (test vars boolean integer function fields);
  boolean = boolean;
  integer = integer;
  function = function_passes variable nodes function;
  fields = record_passes variable nodes fields;
}

-- an answer asks only the nodes before
answer_before : (a : Answers) (c d : ℕ → Bool) (i : ℕ) (x : Node) → IsOrdered i x → ((j : ℕ) → j < i → c j ≡ d j) → answer a c x ≡ answer a d x
answer_before a c d i node.Bot h same = refl
answer_before a c d i node.Top h same = refl
answer_before a c d i (node.Var x) h same = refl
answer_before a c d i node.Bool h same = refl
answer_before a c d i node.Int h same = refl
answer_before a c d i (node.Arrow j k) h same = refl
answer_before a c d i (node.Rcd fields) h same = refl
answer_before a c d i (node.Join j k) h same = λ t. same j.0 h.0 t || same k.0 h.1 t
answer_before a c d i (node.Meet j k) h same = λ t. same j.0 h.0 t && same k.0 h.1 t

-- and the number of steps does not count
answer_below-same : (a : Answers) (nodes : List Node) → IsBook nodes → (n m i : ℕ) → i < n → i < m → answer_below a nodes n i ≡ answer_below a nodes m i
unfolding answer_below
answer_below-same a nodes book zero m i hn hm = absurd (omega arith)
answer_below-same a nodes book (suc n) zero i hn hm = absurd (omega arith)
answer_below-same a nodes book (suc n) (suc m) i hn hm =
    answer_before a (answer_below a nodes n) (answer_below a nodes m) i (node_at nodes i) (book i)
    (λ j h. answer_below-same a nodes book n m j (omega arith) (omega arith))

-- what a node answers to one test, by what the nodes before it answer to it
pub passes_by-answer : (v : ℕ → Predicate) (nodes : List Node) → IsBook nodes → (t : Test) (i : ℕ) → passes_by v nodes i t ≡ answer (answers_of v nodes t) (λ j. passes_by v nodes j t) (node_at nodes i)
unfolding passes_by answer_below
passes_by-answer v nodes book (test vars boolean integer function fields) i =
    let a : Answers = answers_of v nodes (test vars boolean integer function fields) in
    answer_before a (answer_below a nodes i) (λ j. answer_below a nodes (suc j) j) i (node_at nodes i) (book i)
    (λ j h. answer_below-same a nodes book i (suc j) j h (omega arith))

-- the parts of a test are answered as those of predicates
module _ (v : ℕ → Predicate) (nodes : List Node) where
  abbrev pub value : ℕ → Predicate
  value = passes_by v nodes

  pub function_passes-answer : (part : FunctionPart) (j k : ℕ) → function_passes v nodes part j k ≡ function_answer (value j) (value k) part
  unfolding passes_by
  function_passes-answer never_function j k = refl
  function_passes-answer always_function j k = refl
  function_passes-answer (dom q) j k = refl
  function_passes-answer (cod q) j k = refl

  is_none-map : (o : Option NodeId) → is_none o ≡ is_none (option_map (λ id. value id.0) o)
  is_none-map None = refl
  is_none-map (Some id) = refl

  field_passes-map : (q : Test) (o : Option NodeId) → field_passes (λ i. value i q) o ≡ field_answer (option_map (λ id. value id.0) o) q
  field_passes-map q None = refl
  field_passes-map q (Some id) = refl

  pub record_passes-answer : (part : RecordPart) (fields : List Field) → record_passes v nodes part fields ≡ record_answer (field_values value fields) part
  unfolding passes_by
  record_passes-answer never_record fields = refl
  record_passes-answer always_record fields = refl
  record_passes-answer (lacks label) fields = is_none-map (field_at label fields)
  record_passes-answer (at label q) fields = field_passes-map q (field_at label fields)

  answer-value : (x : Node) (t : Test) → answer (answers_of v nodes t) (λ j. value j t) x ≡ node_value v value x t
  answer-value node.Bot t = refl
  answer-value node.Top t = refl
  answer-value (node.Var x) (test vars boolean integer function fields) = refl
  answer-value node.Bool (test vars boolean integer function fields) = refl
  answer-value node.Int (test vars boolean integer function fields) = refl
  answer-value (node.Arrow j k) (test vars boolean integer function fields) = function_passes-answer function j.0 k.0
  answer-value (node.Rcd all) (test vars boolean integer function fields) = record_passes-answer fields all
  answer-value (node.Join j k) t = refl
  answer-value (node.Meet j k) t = refl

-- what a node passes is as the table says
pub passes_by-value : (v : ℕ → Predicate) (nodes : List Node) → IsBook nodes → (i : ℕ) → passes_by v nodes i ≡ node_value v (passes_by v nodes) (node_at nodes i)
passes_by-value v nodes book i = λ k t. (passes_by-answer v nodes book t i ∙ answer-value v nodes (node_at nodes i) t) k

-- the same at each kind of node
module _ (v : ℕ → Predicate) (nodes : List Node) (book : IsBook nodes) (i : ℕ) where
  pub value_at : (x : Node) → node_at nodes i ≡ x → passes_by v nodes i ≡ node_value v (passes_by v nodes) x
  value_at x e = passes_by-value v nodes book i ∙ ap (node_value v (passes_by v nodes)) e

  pub value-bot : node_at nodes i ≡ node.Bot → passes_by v nodes i ≡ bot
  value-bot e = value_at node.Bot e

  pub value-top : node_at nodes i ≡ node.Top → passes_by v nodes i ≡ top
  value-top e = value_at node.Top e

  pub value-var : (x : ℕ) → node_at nodes i ≡ node.Var x → passes_by v nodes i ≡ v x
  value-var x e = value_at (node.Var x) e

  pub value-bool : node_at nodes i ≡ node.Bool → passes_by v nodes i ≡ bool
  value-bool e = value_at node.Bool e

  pub value-int : node_at nodes i ≡ node.Int → passes_by v nodes i ≡ int
  value-int e = value_at node.Int e

  pub value-arrow : (j k : NodeId) → node_at nodes i ≡ node.Arrow j k → passes_by v nodes i ≡ arrow (passes_by v nodes j.0) (passes_by v nodes k.0)
  value-arrow j k e = value_at (node.Arrow j k) e

  pub value-rcd : (fields : List Field) → node_at nodes i ≡ node.Rcd fields → passes_by v nodes i ≡ rcd (field_values (passes_by v nodes) fields)
  value-rcd fields e = value_at (node.Rcd fields) e

  pub value-join : (j k : NodeId) → node_at nodes i ≡ node.Join j k → passes_by v nodes i ≡ join (passes_by v nodes j.0) (passes_by v nodes k.0)
  value-join j k e = value_at (node.Join j k) e

  pub value-meet : (j k : NodeId) → node_at nodes i ≡ node.Meet j k → passes_by v nodes i ≡ meet (passes_by v nodes j.0) (passes_by v nodes k.0)
  value-meet j k e = value_at (node.Meet j k) e
