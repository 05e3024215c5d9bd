-- What types pass, by what their parts pass. No number of a node stands here.
use Rattle.std.specs.Prelude.{◌≡◌, ℕ, zero, suc, List, [], ◌∷◌, if◌then◌else◌, bytes_eq, Option, Some, None}
use Rattle.mls_book.specs.Predicates as predicate
use Rattle.mls_book.specs.Predicates.{Predicate, bool, int, rcd}
use Rattle.mls_typetext.specs.Books.{Ty, var, again, boolean, integer, top, bot, arrow, join, meet, fields, rec}
use Rattle.mls_typetext.specs.Books.{TyFields, none, one}

-- the k-th predicate of a list, and past its end `bot`
abbrev pub value_in : List Predicate → ℕ → Predicate
value_in [] k = predicate.bot
value_in (f ∷ fs) zero = f
value_in (f ∷ fs) (suc k) = value_in fs k

-- the type passes f, where `variable` says what the variables pass, and the `rec`s around it pass these, the nearest
-- first
abbrev mutual
  pub HasValue : (variable : ℕ → Predicate) → List Predicate → Ty → Predicate → Type 0
  HasValue variable recs (var x) f = f ≡ variable x
  HasValue variable recs (again k) f = f ≡ value_in recs k
  HasValue variable recs boolean f = f ≡ bool
  HasValue variable recs integer f = f ≡ int
  HasValue variable recs top f = f ≡ predicate.top
  HasValue variable recs bot f = f ≡ predicate.bot
  HasValue variable recs (arrow a b) f =
      (g h : Predicate) × HasValue variable recs a g × HasValue variable recs b h × (f ≡ predicate.arrow g h)
  HasValue variable recs (join a b) f =
      (g h : Predicate) × HasValue variable recs a g × HasValue variable recs b h × (f ≡ predicate.join g h)
  HasValue variable recs (meet a b) f =
      (g h : Predicate) × HasValue variable recs a g × HasValue variable recs b h × (f ≡ predicate.meet g h)
  HasValue variable recs (fields all) f =
      (fs : List ℕ → Option Predicate) × HaveValues variable recs all fs × (f ≡ rcd fs)
  -- a `rec` passes what its body passes with itself for the recursive name
  HasValue variable recs (rec a) f = HasValue variable (f ∷ recs) a f

  -- so for the fields of a record, by their labels
  pub HaveValues : (variable : ℕ → Predicate) → List Predicate → TyFields → (List ℕ → Option Predicate) → Type 0
  HaveValues variable recs none fs = fs ≡ (λ x. None)
  HaveValues variable recs (one label a rest) fs =
      (g : Predicate) × (gs : List ℕ → Option Predicate)
      × HasValue variable recs a g × HaveValues variable recs rest gs
      × (fs ≡ (λ x. if bytes_eq label x then Some g else gs x))
