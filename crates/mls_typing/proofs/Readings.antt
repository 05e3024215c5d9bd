-- Two families of predicates, one behind the other.
use Rattle.std.proofs.Common.{◌≡◌, ◌⊎◌, inl, inr, ℕ, ◌+◌, ◌<◌, List, refl, ap, ◌∙◌, arith}
use Rattle.mls_book.specs.declared.book.Node.{Node}
use Rattle.mls_book.specs.Predicates.{Predicate}
use Rattle.mls_book.proofs.LongerBooks.{below_or_more}
use Rattle.mls_typing.specs.Typed.{IsTypeOf}

-- the first family for the numbers below m, the second, moved up, for the others
abbrev pub choice : (m : ℕ) (v w : ℕ → Predicate) (x : ℕ) → (x < m) ⊎ ((j : ℕ) × (x ≡ m + j)) → Predicate
choice m v w x (inl h) = v x
choice m v w x (inr h) = w h.0

abbrev pub two_readings : (m : ℕ) (v w : ℕ → Predicate) → ℕ → Predicate
two_readings m v w x = choice m v w x (below_or_more x m)

pub read_below : (m : ℕ) (v w : ℕ → Predicate) (x : ℕ) → x < m → two_readings m v w x ≡ v x
read_below m v w x low = by (below_or_more x m)
  where
    by : (o : (x < m) ⊎ ((j : ℕ) × (x ≡ m + j))) → choice m v w x o ≡ v x
    by (inl h) = refl
    by (inr h) = let at : x ≡ m + h.0 = h.1 in absurd (omega arith)

pub read_above : (m : ℕ) (v w : ℕ → Predicate) (x : ℕ) → two_readings m v w (m + x) ≡ w x
read_above m v w x = by (below_or_more (m + x) m)
  where
    by : (o : (m + x < m) ⊎ ((j : ℕ) × (m + x ≡ m + j))) → choice m v w (m + x) o ≡ w x
    by (inl h) = absurd (omega arith)
    by (inr h) = let at : m + x ≡ m + h.0 = h.1 in let same : h.0 ≡ x = omega arith in ap w same

pub readings_held : (m : ℕ) (b : List Node) (v w : ℕ → Predicate) → ((x : ℕ) → x < m → IsTypeOf b (v x)) → ((x : ℕ) → IsTypeOf b (w x)) → (x : ℕ) → IsTypeOf b (two_readings m v w x)
readings_held m b v w first second x = by (below_or_more x m)
  where
    by : (o : (x < m) ⊎ ((j : ℕ) × (x ≡ m + j))) → IsTypeOf b (choice m v w x o)
    by (inl h) = first x h
    by (inr h) = second h.0

-- the number i of the second
pub read_at : (m : ℕ) (v w : ℕ → Predicate) (x i : ℕ) → x ≡ m + i → two_readings m v w x ≡ w i
read_at m v w x i at = ap (two_readings m v w) at ∙ read_above m v w i
