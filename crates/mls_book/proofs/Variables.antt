-- The variables of a book: what nodes pass depends on them alone.
use Rattle.std.proofs.Common.{◌≡◌, ◌⊎◌, inl, inr, ℕ, zero, suc, Bool, true, not, ◌||◌, ◌==◌, List, [], ◌∷◌, ◌++◌, refl, ap, ◌∙◌}
use Rattle.std.specs.List.{list_any}
use Rattle.std.proofs.lemmas.Bool.{eqb-true, eq-eqb}
use Rattle.std.proofs.lemmas.List.Folds.{list_any-append}
use Rattle.mls_book.specs.declared.book.Field.{Field}
use Rattle.mls_book.specs.declared.book.Node.{Node}
use Rattle.mls_book.specs.declared.book.Node.TheVariants as node
use Rattle.mls_book.specs.Books.{node_at, field_at}
use Rattle.mls_book.specs.Tests.{Test, test, FunctionPart, never_function, always_function, dom, cod, RecordPart, never_record, always_record, lacks, at}
use Rattle.mls_book.specs.Predicates.{Predicate}
use Rattle.mls_book.specs.Passes.{Answers, answer, answer_below, passes_by, function_passes, record_passes, field_passes}
use Rattle.mls_book.proofs.Table.{answers_of}
use Rattle.mls_book.proofs.Lattice.{or_left, or_right, or_cases}

abbrev pub variable_of : Node → List ℕ
variable_of (node.Var x) = x ∷ []
variable_of _ = []

-- the variables of a book, in the order of their nodes
abbrev pub variables_of : List Node → List ℕ
variables_of [] = []
variables_of (x ∷ rest) = variable_of x ++ variables_of rest

unfoldable pub has : ℕ → List ℕ → Bool
has x names = list_any (λ y. y == x) names

has-append : (x : ℕ) (xs ys : List ℕ) → has x (xs ++ ys) ≡ (has x xs || has x ys)
unfolding has
has-append x xs ys = list_any-append (λ y. y == x) xs ys

pub has_left : (x : ℕ) (xs ys : List ℕ) → has x xs ≡ true → has x (xs ++ ys) ≡ true
has_left x xs ys e = has-append x xs ys ∙ or_left (has x xs) (has x ys) e

pub has_right : (x : ℕ) (xs ys : List ℕ) → has x ys ≡ true → has x (xs ++ ys) ≡ true
has_right x xs ys e = has-append x xs ys ∙ or_right (has x xs) (has x ys) e

pub has_self : (x : ℕ) (rest : List ℕ) → has x (x ∷ rest) ≡ true
unfolding has
has_self x rest = or_left (x == x) (list_any (λ y. y == x) rest) (eq-eqb x x refl)

pub has-variables_of : (b : List Node) (i x : ℕ) → node_at b i ≡ node.Var x → has x (variables_of b) ≡ true
has-variables_of [] i x e = absurd (cc)
has-variables_of (first ∷ rest) zero x e = rw e (has_self x (variables_of rest))
has-variables_of (first ∷ rest) (suc i) x e = has_right x (variable_of first) (variables_of rest) (has-variables_of rest i x e)

-- where two answers agree at the nodes of a book that are no join and no meet, they agree at each of its nodes
answer_below-agree : (a z : Answers) (b : List Node) → ((c : ℕ → Bool) (i : ℕ) → answer a c (node_at b i) ≡ answer z c (node_at b i)) → (n i : ℕ) → answer_below a b n i ≡ answer_below z b n i
unfolding answer_below
answer_below-agree a z b agree zero i = refl
answer_below-agree a z b agree (suc n) i =
    agree (answer_below a b n) i ∙ (λ k. answer z (λ j. answer_below-agree a z b agree n j k) (node_at b i))

-- where two readings of variables agree at those of a book, they agree at each of its nodes
module _ (v w : ℕ → Predicate) (b : List Node) (agree : (x : ℕ) → has x (variables_of b) ≡ true → v x ≡ w x) where
  leaf : (t : Test) → ((j k : ℕ) → (answers_of v b t).function j k ≡ (answers_of w b t).function j k) → ((fields : List Field) → (answers_of v b t).fields fields ≡ (answers_of w b t).fields fields) → (c : ℕ → Bool) (i : ℕ) (x : Node) → node_at b i ≡ x → answer (answers_of v b t) c x ≡ answer (answers_of w b t) c x
  leaf t functions records c i node.Bot e = refl
  leaf t functions records c i node.Top e = refl
  leaf (test vars p q function fields) functions records c i (node.Var y) e = λ k. agree y (has-variables_of b i y e) k (test vars p q function fields)
  leaf (test vars p q function fields) functions records c i node.Bool e = refl
  leaf (test vars p q function fields) functions records c i node.Int e = refl
  leaf t functions records c i (node.Arrow j k) e = functions j.0 k.0
  leaf t functions records c i (node.Rcd fields) e = records fields
  leaf t functions records c i (node.Join j k) e = refl
  leaf t functions records c i (node.Meet j k) e = refl

  mutual
    unfolding passes_by

    agree_at : (t : Test) (i : ℕ) → passes_by v b i t ≡ passes_by w b i t
    agree_at (test vars p q function fields) i =
        answer_below-agree (answers_of v b (test vars p q function fields)) (answers_of w b (test vars p q function fields)) b
        (λ c j. leaf (test vars p q function fields) (agree_function function) (agree_record fields) c j (node_at b j) refl)
        (suc i) i

    agree_function : (part : FunctionPart) (j k : ℕ) → function_passes v b part j k ≡ function_passes w b part j k
    agree_function never_function j k = refl
    agree_function always_function j k = refl
    agree_function (dom t) j k = ap not (agree_at t j)
    agree_function (cod t) j k = agree_at t k

    agree_record : (part : RecordPart) (fields : List Field) → record_passes v b part fields ≡ record_passes w b part fields
    agree_record never_record fields = refl
    agree_record always_record fields = refl
    agree_record (lacks label) fields = refl
    agree_record (at label t) fields = λ k. field_passes (λ i. agree_at t i k) (field_at label fields)

  pub passes_by-agree : passes_by v b ≡ passes_by w b
  passes_by-agree = λ k i t. agree_at t i k

-- a variable of a list is its first or one of the rest
abbrev pub IsFirstOrLater : ℕ → List ℕ → Type 0
IsFirstOrLater x [] = ⊥
IsFirstOrLater x (y ∷ rest) = (y ≡ x) ⊎ (has x rest ≡ true)

pub has_cases : (x : ℕ) (names : List ℕ) → has x names ≡ true → IsFirstOrLater x names
unfolding has
has_cases x [] e = absurd (cc)
has_cases x (y ∷ rest) e =
    elim (or_cases (y == x) (list_any (λ y. y == x) rest) e) [
      | inl h ↦ inl (eqb-true y x h)
      | inr h ↦ inr h
    ]
