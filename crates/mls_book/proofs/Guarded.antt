-- A family of predicates that is given by less deep tests, and at one test by the members before, is one alone.
use Rattle.std.proofs.Common.{◌≡◌, ◌⊎◌, inl, inr, ℕ, zero, suc, ◌<◌, not, ◌&&◌, ◌||◌, List, length, refl, sym, ap, ◌∙◌, arith, Some, None}
use Rattle.std.specs.Prelude.{Option, option_map, is_none}
use Rattle.mls_book.specs.declared.book.Node.{Node}
use Rattle.mls_book.specs.declared.book.NodeId.{NodeId}
use Rattle.mls_book.specs.declared.book.Node.TheVariants as node
use Rattle.mls_book.specs.Books.{node_at, field_at, IsOrdered, IsBook, IsClosedBook}
use Rattle.mls_book.specs.Tests.{Test, test, depth, never_function, always_function, dom, cod, never_record, always_record, lacks, at}
use Rattle.mls_book.specs.Predicates.{Predicate, field_answer, arrow, rcd, join, meet}
use Rattle.mls_book.specs.Passes.{passes_by, node_value}
use Rattle.mls_book.proofs.Table.{passes_by-value}
use Rattle.mls_book.proofs.Children.{HasChildrenIn, closed_children, any_children, at_found}

-- the one test is less deep, or it is the same one at a smaller number
abbrev pub IsBefore : ℕ → Test → ℕ → Test → Type 0
IsBefore j u i t = (depth u < depth t) ⊎ ((u ≡ t) × (j < i))

-- what F says of member i at a test depends on what comes before it alone, among the numbers of Q
abbrev pub IsGuarded : (ℕ → Type 0) → ((ℕ → Predicate) → ℕ → Predicate) → Type 0
IsGuarded Q F =
    (f g : ℕ → Predicate) (i : ℕ) (t : Test) → Q i → ((j : ℕ) (u : Test) → Q j → IsBefore j u i t → f j u ≡ g j u) → F f i t ≡ F g i t

module _ (Q : ℕ → Type 0) (F : (ℕ → Predicate) → ℕ → Predicate) (guarded : IsGuarded Q F) (f g : ℕ → Predicate) (is_f : (i : ℕ) → Q i → f i ≡ F f i) (is_g : (i : ℕ) → Q i → g i ≡ F g i) where
  -- what comes before agrees, where less deep tests and smaller members do
  asked : (n i : ℕ) (t : Test) → i < suc n → ((j : ℕ) → Q j → (u : Test) → depth u < depth t → f j u ≡ g j u) → ((j : ℕ) → j < n → Q j → (u : Test) → depth u < suc (depth t) → f j u ≡ g j u) → (j : ℕ) (u : Test) → Q j → IsBefore j u i t → f j u ≡ g j u
  asked n i t h less smaller j u q (inl deeper) = less j q u deeper
  asked n i t h less smaller j u q (inr before) =
      let even : depth u ≡ depth t = ap depth before.0 in
      let lower : j < i = before.1 in
      smaller j (omega arith) q u (omega arith)

  -- at one depth, member by member
  same_at : (d : ℕ) → ((i : ℕ) → Q i → (t : Test) → depth t < d → f i t ≡ g i t) → (n i : ℕ) → i < n → Q i → (t : Test) → depth t < suc d → f i t ≡ g i t
  same_at d less zero i h q t low = absurd (omega arith)
  same_at d less (suc n) i h q t low =
      (λ k. is_f i q k t)
      ∙ (guarded f g i t q
      (asked n i t h
      (λ j q' u deeper. less j q' u (omega arith))
      (λ j lower q' u deeper. same_at d less n j lower q' u (omega arith)))
      ∙ (λ k. sym (is_g i q) k t))

  same_to : (d i : ℕ) → Q i → (t : Test) → depth t < d → f i t ≡ g i t
  same_to zero i q t low = absurd (omega arith)
  same_to (suc d) i q t low = same_at d (same_to d) (suc i) i (omega arith) q t low

  pub guarded_unique : (i : ℕ) → Q i → f i ≡ g i
  guarded_unique i q = λ k t. same_to (suc (depth t)) i q t (omega arith) k

-- what a node passes depends on what comes before it alone
field_answer-agree : (f g : ℕ → Predicate) (q : Test) (o : Option NodeId) → ((id : NodeId) → o ≡ Some id → f id.0 q ≡ g id.0 q) → field_answer (option_map (λ id. f id.0) o) q ≡ field_answer (option_map (λ id. g id.0) o) q
field_answer-agree f g q None same = refl
field_answer-agree f g q (Some id) same = same id refl

is_none-agree : (f g : ℕ → Predicate) (o : Option NodeId) → is_none (option_map (λ (id : NodeId). f id.0) o) ≡ is_none (option_map (λ (id : NodeId). g id.0) o)
is_none-agree f g None = refl
is_none-agree f g (Some id) = refl

pub node_value-agree : (v : ℕ → Predicate) (Q : ℕ → Type 0) (f g : ℕ → Predicate) (i : ℕ) (t : Test) (x : Node) → IsOrdered i x → HasChildrenIn Q x → ((j : ℕ) (u : Test) → Q j → IsBefore j u i t → f j u ≡ g j u) → node_value v f x t ≡ node_value v g x t
node_value-agree v Q f g i t node.Bot ordered within ask = refl
node_value-agree v Q f g i t node.Top ordered within ask = refl
node_value-agree v Q f g i t (node.Var x) ordered within ask = refl
node_value-agree v Q f g i t node.Bool ordered within ask = refl
node_value-agree v Q f g i t node.Int ordered within ask = refl
node_value-agree v Q f g i (test vars p q never_function fields) (node.Arrow j k) ordered within ask = refl
node_value-agree v Q f g i (test vars p q always_function fields) (node.Arrow j k) ordered within ask = refl
node_value-agree v Q f g i (test vars p q (dom t) fields) (node.Arrow j k) ordered within ask = ap not (ask j.0 t within.0 (inl (omega arith)))
node_value-agree v Q f g i (test vars p q (cod t) fields) (node.Arrow j k) ordered within ask = ask k.0 t within.1 (inl (omega arith))
node_value-agree v Q f g i (test vars p q function never_record) (node.Rcd all) ordered within ask = refl
node_value-agree v Q f g i (test vars p q function always_record) (node.Rcd all) ordered within ask = refl
node_value-agree v Q f g i (test vars p q function (lacks label)) (node.Rcd all) ordered within ask = is_none-agree f g (field_at label all)
node_value-agree v Q f g i (test vars p q function (at label t)) (node.Rcd all) ordered within ask =
    field_answer-agree f g t (field_at label all)
    (λ id found. ask id.0 t (at_found Q label all within id found) (inl (omega arith)))
node_value-agree v Q f g i t (node.Join j k) ordered within ask = λ n. ask j.0 t within.0 (inr (refl, ordered.0)) n || ask k.0 t within.1 (inr (refl, ordered.1)) n
node_value-agree v Q f g i t (node.Meet j k) ordered within ask = λ n. ask j.0 t within.0 (inr (refl, ordered.0)) n && ask k.0 t within.1 (inr (refl, ordered.1)) n

-- what a node passes depends on what its children pass alone
option_map-same : (f g : ℕ → Predicate) (o : Option NodeId) → ((id : NodeId) → o ≡ Some id → f id.0 ≡ g id.0) → option_map (λ id. f id.0) o ≡ option_map (λ id. g id.0) o
option_map-same f g None same = refl
option_map-same f g (Some id) same = ap Some (same id refl)

pub node_value-same : (v f g : ℕ → Predicate) (x : Node) → HasChildrenIn (λ j. f j ≡ g j) x → node_value v f x ≡ node_value v g x
node_value-same v f g node.Bot same = refl
node_value-same v f g node.Top same = refl
node_value-same v f g (node.Var x) same = refl
node_value-same v f g node.Bool same = refl
node_value-same v f g node.Int same = refl
node_value-same v f g (node.Arrow j k) same = λ i. arrow (same.0 i) (same.1 i)
node_value-same v f g (node.Rcd fields) same = λ i. rcd (λ label. option_map-same f g (field_at label fields) (at_found (λ j. f j ≡ g j) label fields same) i)
node_value-same v f g (node.Join j k) same = λ i. join (same.0 i) (same.1 i)
node_value-same v f g (node.Meet j k) same = λ i. meet (same.0 i) (same.1 i)

pub node_value-guarded : (v : ℕ → Predicate) (b : List Node) → IsBook b → (Q : ℕ → Type 0) → ((i : ℕ) → Q i → HasChildrenIn Q (node_at b i)) → IsGuarded Q (λ f i. node_value v f (node_at b i))
node_value-guarded v b book Q within f g i t q ask = node_value-agree v Q f g i t (node_at b i) (book i) (within i q) ask

-- a family that is as the table says of the nodes of Q is what they pass
pub passes_by-unique_in : (v : ℕ → Predicate) (b : List Node) → IsBook b → (Q : ℕ → Type 0) → ((i : ℕ) → Q i → HasChildrenIn Q (node_at b i)) → (f : ℕ → Predicate) → ((i : ℕ) → Q i → f i ≡ node_value v f (node_at b i)) → (i : ℕ) → Q i → f i ≡ passes_by v b i
passes_by-unique_in v b book Q within f is_f =
    guarded_unique Q (λ f i. node_value v f (node_at b i)) (node_value-guarded v b book Q within) f (passes_by v b) is_f (λ i q. passes_by-value v b book i)

-- of the nodes of a closed book
pub passes_by-unique : (v : ℕ → Predicate) (b : List Node) → IsClosedBook b → (f : ℕ → Predicate) → ((i : ℕ) → i < length b → f i ≡ node_value v f (node_at b i)) → (i : ℕ) → i < length b → f i ≡ passes_by v b i
passes_by-unique v b closed = passes_by-unique_in v b closed.book (λ i. i < length b) (closed_children b closed.closed)

-- of all numbers, also those past the end
pub passes_by-unique_all : (v : ℕ → Predicate) (b : List Node) → IsBook b → (f : ℕ → Predicate) → ((i : ℕ) → f i ≡ node_value v f (node_at b i)) → (i : ℕ) → f i ≡ passes_by v b i
passes_by-unique_all v b book f is_f i = passes_by-unique_in v b book (λ i. Unit {0}) (λ i q. any_children (node_at b i)) f (λ i q. is_f i) i tt
