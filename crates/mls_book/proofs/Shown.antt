-- What a node passes, by the parts of the program's test.
use Rattle.std.proofs.Common.{◌≡◌, ℕ, ◌<◌, Bool, true, false, not, ◌||◌, ◌&&◌, List, length, sym, ap, subst, ◌∙◌, Some, None}
use Rattle.std.specs.Prelude.{Option, is_some, is_none, option_map}
use Rattle.std.proofs.lemmas.List.Elements.{All-get_or}
use Rattle.mls_book.specs.declared.book.Field.{Field}
use Rattle.mls_book.specs.declared.book.Node.{Node}
use Rattle.mls_book.specs.declared.book.NodeId.{NodeId}
use Rattle.mls_book.specs.declared.book.Node.TheVariants as node
use Rattle.mls_book.specs.declared.test.FunctionPart.{FunctionPart}
use Rattle.mls_book.specs.declared.test.RecordPart.{RecordPart}
use Rattle.mls_book.specs.declared.test.Test.TheInside.{Inside}
use Rattle.mls_book.specs.Books.{node_at, field_at, IsBook, IsClosed, HasChildrenBelow}
use Rattle.mls_book.specs.Tests as tests
use Rattle.mls_book.specs.TestView.{function_view, record_view, test_view}
use Rattle.mls_book.specs.Predicates.{Predicate, var, function_answer, field_answer, record_answer}
use Rattle.mls_book.specs.Passes.{passes, field_values, node_value}
use Rattle.mls_book.proofs.Table.{value_at}
use Rattle.mls_book.proofs.Children.{at_found}

module _ (b : List Node) (book : IsBook b) (i : ℕ) (t : tests.Test) (inside : Inside) (view_is : test_view inside ≡ t) (found : Node) (is : found ≡ node_at b i) where
  -- by the whole test, as a join asks
  pub at_node : (x : Node) → found ≡ x → node_value var (passes b) x t ≡ passes b i t
  at_node x e = λ k. sym (value_at var b book i x (sym is ∙ e)) k t

  -- and by its parts
  pub at_parts : (x : Node) → found ≡ x → node_value var (passes b) x (test_view inside) ≡ passes b i t
  at_parts x e = ap (node_value var (passes b) x) view_is ∙ at_node x e

  pub at_function : (j k : NodeId) → found ≡ node.Arrow j k → (part : FunctionPart) → inside.function ≡ part → function_answer (passes b j.0) (passes b k.0) (function_view part) ≡ passes b i t
  at_function j k e part e' = ap (λ p. function_answer (passes b j.0) (passes b k.0) (function_view p)) (sym e') ∙ at_parts (node.Arrow j k) e

  pub at_record : (fields : List Field) → found ≡ node.Rcd fields → (part : RecordPart) → inside.fields ≡ part → record_answer (field_values (passes b) fields) (record_view part) ≡ passes b i t
  at_record fields e part e' = ap (λ p. record_answer (field_values (passes b) fields) (record_view p)) (sym e') ∙ at_parts (node.Rcd fields) e

-- a label that is not found has no field
pub none_where : (value : ℕ → Predicate) (o p : Option NodeId) (r : Bool) → o ≡ p → is_some o ≡ not r → r ≡ is_none (option_map (λ id. value id.0) p)
none_where value None None true same e = cc
none_where value None None false same e = cc
none_where value None (Some n) r same e = absurd (cc)
none_where value (Some n) None r same e = absurd (cc)
none_where value (Some n) (Some m) true same e = cc
none_where value (Some n) (Some m) false same e = cc

-- what is found of a field, as the record answers it
pub found_field : (value : ℕ → Predicate) (q : tests.Test) (o p : Option NodeId) → o ≡ p → field_answer (option_map (λ id. value id.0) o) q ≡ field_answer (option_map (λ id. value id.0) p) q
found_field value q o p e = ap (λ o. field_answer (option_map (λ id. value id.0) o) q) e

pub or_yes : (p q : Bool) → p ≡ true → p ≡ (p || q)
or_yes true q e = cc
or_yes false q e = absurd (cc)

pub or_no : (p q : Bool) → p ≡ false → q ≡ (p || q)
or_no true q e = absurd (cc)
or_no false q e = cc

pub and_yes : (p q : Bool) → p ≡ true → q ≡ (p && q)
and_yes true q e = cc
and_yes false q e = absurd (cc)

pub and_no : (p q : Bool) → p ≡ false → p ≡ (p && q)
and_no true q e = absurd (cc)
and_no false q e = cc

-- a field of a closed book names a node that is there
pub field_in_range : (b : List Node) → IsClosed b → (i : ℕ) → i < length b → (found : Node) → found ≡ node_at b i → (fields : List Field) → found ≡ node.Rcd fields → (label : List ℕ) (o : Option NodeId) → o ≡ field_at label fields → (n : NodeId) → o ≡ Some n → n.0 < length b
field_in_range b closed i i_in found is fields is_rcd label o is_o n some =
    at_found (λ m. m < length b) label fields
    (let all : HasChildrenBelow (length b) (node_at b i) = All-get_or (HasChildrenBelow (length b)) b i node.Bot i_in closed in
    subst (HasChildrenBelow (length b)) (sym is ∙ is_rcd) all)
    n (sym is_o ∙ some)
