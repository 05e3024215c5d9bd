-- The join and the meet of a family of functions, or of records, that is not empty. Of an empty one they are `bot` and
-- `top`, which are neither.
use Rattle.std.proofs.Common.{zero, suc, ◌<◌, ◌≡◌, ℕ, List, [], ◌∷◌, map, refl, sym, ap, ◌∙◌, Some, None, Contains, arith, length, get_or, suc}
use Rattle.std.specs.Prelude.{Option}
use Rattle.mls_book.specs.Predicates.{Predicate, bot, arrow, rcd, join, meet, joins, meets}
use Rattle.mls_book.proofs.Lattice.{join_bot, meet_top}
use Rattle.mls_book.proofs.Constructors.{join-arrow, meet-arrow, joined_field, met_field, join-rcd, meet-rcd}

module _ {X : Type 0} (f g : X → Predicate) where
  pub joins-arrow : (x : X) (rest : List X) → joins (map (λ x. arrow (f x) (g x)) (x ∷ rest)) ≡ arrow (meets (map f (x ∷ rest))) (joins (map g (x ∷ rest)))
  joins-arrow x [] = join_bot (arrow (f x) (g x)) ∙ (λ i. arrow (sym (meet_top (f x)) i) (sym (join_bot (g x)) i))
  joins-arrow x (y ∷ rest) =
      ap (join (arrow (f x) (g x))) (joins-arrow y rest)
      ∙ join-arrow (f x) (g x) (meets (map f (y ∷ rest))) (joins (map g (y ∷ rest)))

  pub meets-arrow : (x : X) (rest : List X) → meets (map (λ x. arrow (f x) (g x)) (x ∷ rest)) ≡ arrow (joins (map f (x ∷ rest))) (meets (map g (x ∷ rest)))
  meets-arrow x [] = meet_top (arrow (f x) (g x)) ∙ (λ i. arrow (sym (join_bot (f x)) i) (sym (meet_top (g x)) i))
  meets-arrow x (y ∷ rest) =
      ap (meet (arrow (f x) (g x))) (meets-arrow y rest)
      ∙ meet-arrow (f x) (g x) (joins (map f (y ∷ rest))) (meets (map g (y ∷ rest)))

-- a field of the join of records: each of them has it
abbrev pub joined_fields : List (Option Predicate) → Option Predicate
joined_fields [] = Some bot
joined_fields (o ∷ rest) = joined_field o (joined_fields rest)

-- a field of the meet of records: one of them has it
abbrev pub met_fields : List (Option Predicate) → Option Predicate
met_fields [] = None
met_fields (o ∷ rest) = met_field o (met_fields rest)

joined_alone : (o : Option Predicate) → joined_field o (Some bot) ≡ o
joined_alone None = refl
joined_alone (Some f) = ap Some (join_bot f)

met_alone : (o : Option Predicate) → met_field o None ≡ o
met_alone None = refl
met_alone (Some f) = refl

module _ {X : Type 0} (fields : X → List ℕ → Option Predicate) where
  pub joins-rcd : (x : X) (rest : List X) → joins (map (λ x. rcd (fields x)) (x ∷ rest)) ≡ rcd (λ label. joined_fields (map (λ x. fields x label) (x ∷ rest)))
  joins-rcd x [] = join_bot (rcd (fields x)) ∙ (λ i. rcd (λ label. sym (joined_alone (fields x label)) i))
  joins-rcd x (y ∷ rest) =
      ap (join (rcd (fields x))) (joins-rcd y rest)
      ∙ join-rcd (fields x) (λ label. joined_fields (map (λ x. fields x label) (y ∷ rest)))

  pub meets-rcd : (x : X) (rest : List X) → meets (map (λ x. rcd (fields x)) (x ∷ rest)) ≡ rcd (λ label. met_fields (map (λ x. fields x label) (x ∷ rest)))
  meets-rcd x [] = meet_top (rcd (fields x)) ∙ (λ i. rcd (λ label. sym (met_alone (fields x label)) i))
  meets-rcd x (y ∷ rest) =
      ap (meet (rcd (fields x))) (meets-rcd y rest)
      ∙ meet-rcd (fields x) (λ label. met_fields (map (λ x. fields x label) (y ∷ rest)))

-- where all have the field it is the join, and where one lacks it there is none
pub joined_fields-all : (types : List Predicate) → joined_fields (map Some types) ≡ Some (joins types)
joined_fields-all [] = refl
joined_fields-all (f ∷ rest) = ap (joined_field (Some f)) (joined_fields-all rest)

pub joined_fields-lacks : (os : List (Option Predicate)) → Contains os None → joined_fields os ≡ None
joined_fields-lacks [] it = let low : it.0 < 0 = it.1 in absurd (omega arith)
joined_fields-lacks (o ∷ rest) it = go it.0 it.1 it.2 (joined_fields-lacks rest)
  where
    joined_none : (o : Option Predicate) → joined_field o None ≡ None
    joined_none None = refl
    joined_none (Some f) = refl

    go : (k : ℕ) → k < length (o ∷ rest) → get_or (o ∷ rest) k None ≡ None → (Contains rest None → joined_fields rest ≡ None) → joined_field o (joined_fields rest) ≡ None
    go zero low is later = ap (λ o. joined_field o (joined_fields rest)) is
    go (suc k) low is later = ap (joined_field o) (later (k, omega arith, is)) ∙ joined_none o

-- the fields that are there
abbrev pub existing : List (Option Predicate) → List Predicate
existing [] = []
existing (None ∷ rest) = existing rest
existing (Some f ∷ rest) = f ∷ existing rest

-- their meet, where there is one
abbrev pub meet_of : List Predicate → Option Predicate
meet_of [] = None
meet_of (f ∷ rest) = Some (meets (f ∷ rest))

pub met_fields-existing : (os : List (Option Predicate)) → met_fields os ≡ meet_of (existing os)
met_fields-existing [] = refl
met_fields-existing (None ∷ rest) = met_fields-existing rest
met_fields-existing (Some f ∷ rest) = ap (met_field (Some f)) (met_fields-existing rest) ∙ more (existing rest)
  where
    more : (types : List Predicate) → met_field (Some f) (meet_of types) ≡ Some (meets (f ∷ types))
    more [] = ap Some (sym (meet_top f))
    more (g ∷ types) = refl
