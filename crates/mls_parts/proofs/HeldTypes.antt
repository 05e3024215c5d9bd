-- Predicates that are types, which nodes of closed books pass.
--     top_type, bool_type, int_type
--     arrow_type, record_type, field_type
--     in_one_book        finitely many types are types of one closed book
use Rattle.std.proofs.Common.{◌≡◌, ◌⊎◌, inl, inr, ℕ, zero, suc, ◌+◌, ◌<◌, List, [], ◌∷◌, length, ap, subst, arith}
use Rattle.std.specs.Prelude.{All}
use Rattle.std.specs.Ordering.{nat_cmp}
use Rattle.std.specs.declared.cmp.Ordering.TheVariants.{Less}
use Rattle.std.specs.Cmp.Lexicographic.{slice_cmp}
use Rattle.std.proofs.lemmas.List.Elements.{All-nil, All-cons}
use Rattle.mls_book.specs.declared.book.Field.{Field}
use Rattle.mls_book.specs.declared.book.Node.{Node}
use Rattle.mls_book.specs.declared.book.Node.TheVariants as node
use Rattle.mls_book.specs.Books.{IsClosedBook, IsOrdered, HasChildrenBelow, AreRising}
use Rattle.mls_book.specs.Predicates.{Predicate, top, bool, int, arrow, rcd, var}
use Rattle.mls_book.specs.Passes.{passes, node_value, field_values}
use Rattle.mls_book.proofs.LongerBooks.{closed_from, HasChildrenBelow-more, extended_with, extended-value, below_or_more}
use Rattle.mls_book.proofs.Representation.{IsIn-longer}
use Rattle.mls_typing.specs.Typed.{IsTypeOf, IsType, one_field}
use Rattle.mls_typing.proofs.TypedForms.{with_type}
use Rattle.mls_typing.proofs.TypedUses.{one_field-value}

-- what a node over a closed book passes
node_type : (b : List Node) → IsClosedBook b → (x : Node) → IsOrdered (length b) x → HasChildrenBelow (length b) x → IsType (node_value var (passes b) x)
node_type b closed x ordered below =
    let it = extended_with b x closed ordered (HasChildrenBelow-more (length b) (suc (length b)) (omega arith) x below) in
    (it.0, it.1.closed, (it.2.0, it.2.1, extended-value b it.0 x it.2.0 closed it.1 below it.2.2 var))

no_nodes : IsClosedBook []
no_nodes = closed_from [] (λ i low. absurd (omega arith))

pub top_type : IsType top
top_type = node_type [] no_nodes node.Top tt tt

pub bool_type : IsType bool
bool_type = node_type [] no_nodes node.Bool tt tt

pub int_type : IsType int
int_type = node_type [] no_nodes node.Int tt tt

pub arrow_type : (f g : Predicate) → IsType f → IsType g → IsType (arrow f g)
arrow_type f g is_f is_g =
    let both = with_type is_f.0 is_f.1 g is_g in
    let first : IsTypeOf both.0 f = IsIn-longer is_f.0 both.0 f is_f.1 both.1 is_f.2 in
    let second : IsTypeOf both.0 g = both.2 in
    let same : arrow (passes both.0 first.0) (passes both.0 second.0) ≡ arrow f g = λ k. arrow (first.2 k) (second.2 k) in
    subst IsType same (node_type both.0 both.1.closed (node.Arrow (record { 0 = first.0 }) (record { 0 = second.0 })) tt (first.1, second.1))

-- records of fields of one closed book
pub record_type : (b : List Node) → IsClosedBook b → (fields : List Field) → AreRising fields → All (λ field. field.node.0 < length b) fields → IsType (rcd (field_values (passes b) fields))
record_type b closed fields rising within = node_type b closed (node.Rcd fields) rising within

-- records of one field
pub field_type : (label : List ℕ) (f : Predicate) → IsType f → IsType (rcd (one_field label f))
field_type label f is =
    let it : IsTypeOf is.0 f = is.2 in
    let field : Field = record { label = label; node = record { 0 = it.0 } } in
    subst IsType (ap rcd (one_field-value (passes is.0) label (record { 0 = it.0 }) f it.2))
    (record_type is.0 is.1 (field ∷ [])
    (All-nil (λ later. slice_cmp nat_cmp field.label later.label ≡ Less), tt)
    (All-cons (λ (field : Field). field.node.0 < length is.0) field [] it.1 (All-nil (λ (field : Field). field.node.0 < length is.0))))

-- finitely many types are types of one closed book
pub in_one_book : (n : ℕ) (type : ℕ → Predicate) → ((i : ℕ) → i < n → IsType (type i)) → (b : List Node) × IsClosedBook b × ((i : ℕ) → i < n → IsTypeOf b (type i))
in_one_book zero type are = ([], no_nodes, λ i low. absurd (omega arith))
in_one_book (suc n) type are =
    let before = in_one_book n type (λ i low. are i (omega arith)) in
    let it = with_type before.0 before.1 (type n) (are n (omega arith)) in (
      it.0,
      it.1.closed,
      λ i low. choose it.0 i low (below_or_more i n) it.2 (λ low'. IsIn-longer before.0 it.0 (type i) before.1 it.1 (before.2 i low')),
    )
  where
    choose : (b : List Node) (i : ℕ) → i < suc n → (i < n) ⊎ ((j : ℕ) × (i ≡ n + j)) → IsTypeOf b (type n) → (i < n → IsTypeOf b (type i)) → IsTypeOf b (type i)
    choose b i low (inl h) last old = old h
    choose b i low (inr h) last old =
        let same : n ≡ i = let at : i ≡ n + h.0 = h.1 in omega arith in
        let P : ℕ → Type 0 = λ i. IsTypeOf b (type i) in
        subst P same last
