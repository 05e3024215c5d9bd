-- Which nodes of a section fit.
use Rattle.std.proofs.Common.{◌≡◌, ◌⊎◌, inl, inr, ℕ, ◌<◌, ◌≤◌, ◌&&◌, List, [], ◌∷◌, ◌++◌, length, reverse, refl, sym, ap, subst, ◌∙◌, arith}
use Rattle.std.specs.Prelude.{bytes_eq, nat_eq}
use Rattle.std.proofs.Common.{rules}
use Rattle.std.proofs.lemmas.Bool.{cases_lt}
use Rattle.std.proofs.lemmas.Slice.Eq.{bytes_eq-Decides}
use Rattle.std.proofs.Common.{append_assoc}
use Rattle.std.proofs.lemmas.List.{get_or_past, get_or_at, reverse-append, reverse-reverse}
use Rattle.std.specs.Bool.{Decides}
use Rattle.mls_book.specs.declared.book.Field.{Field}
use Rattle.mls_book.specs.declared.book.Node.{Node}
use Rattle.mls_book.specs.declared.book.Node.TheVariants as node
use Rattle.mls_book.specs.Books.{node_at, IsOrdered, HasChildrenBelow}
use Rattle.mls_deriv.specs.BadLines.{Fits}

pub field_is : (a b : Field) → a.label ≡ b.label → a.node.0 ≡ b.node.0 → a ≡ b
field_is a b e e' = λ i. record { label = e i; node = record { 0 = e' i } }

pub field_eq-Decides : (a b : Field) → Decides (bytes_eq a.label b.label && nat_eq a.node.0 b.node.0) (a ≡ b)
field_eq-Decides a b = search (rules, bytes_eq-Decides, field_is)

-- past the end all nodes fit, if none is missing
pub fits_past : (front nodes : List Node) (i : ℕ) → length front ≤ length nodes → length nodes ≤ i → Fits front nodes i
fits_past front nodes i longer past = record {
  there = λ h. absurd (omega arith);
  same = λ h. absurd (omega arith);
  ordered = subst (IsOrdered i) (sym (get_or_past nodes i node.Bot past)) tt;
  below = subst (HasChildrenBelow (length nodes)) (sym (get_or_past nodes i node.Bot past)) tt;
}

pub all_fit : (front nodes : List Node) (n : ℕ) → length nodes ≤ n → length front ≤ length nodes → ((k : ℕ) → k < n → Fits front nodes k) → (i : ℕ) → Fits front nodes i
all_fit front nodes n all longer fit i = go (cases_lt i n)
  where
    go : (i < n) ⊎ (n ≤ i) → Fits front nodes i
    go (inl low) = fit i low
    go (inr past) = fits_past front nodes i longer (omega arith)

pub missing : (front nodes : List Node) → length nodes < length front → Fits front nodes (length nodes) → ⊥
missing front nodes less fit = let there : length nodes < length nodes = fit.there less in absurd (omega arith)

-- nodes that are pushed in order
pub ordered_next : (nodes left book rest : List Node) (n : Node) → ((i : ℕ) → IsOrdered i (node_at nodes i)) → left ≡ reverse nodes → book ++ reverse (rest ++ n ∷ []) ≡ reverse left → IsOrdered (length book) n
ordered_next nodes left book rest n ordered e is =
    let whole : book ++ n ∷ reverse rest ≡ nodes = ap (λ t. book ++ t) (sym (reverse-append rest (n ∷ []))) ∙ (is ∙ (ap reverse e ∙ reverse-reverse nodes)) in
    let there : node_at nodes (length book) ≡ n = ap (λ (ns : List Node). node_at ns (length book)) (sym whole) ∙ get_or_at book n (reverse rest) node.Bot (length book) refl in
    subst (IsOrdered (length book)) there (ordered (length book))

pub pushed_next : (left initial book new rest : List Node) (n : Node) → left ≡ rest ++ n ∷ [] → book ++ reverse left ≡ reverse initial → new ≡ book ++ n ∷ [] → new ++ reverse rest ≡ reverse initial
pushed_next left initial book new rest n e is added =
    ap (λ t. t ++ reverse rest) added ∙ (append_assoc book (n ∷ []) (reverse rest) ∙ (ap (λ t. book ++ t) (sym (ap reverse e ∙ reverse-append rest (n ∷ []))) ∙ is))
