-- Joins and meets of predicates.
use Rattle.std.proofs.Common.{◌≡◌, ◌⊎◌, inl, inr, ℕ, zero, suc, ◌<◌, arith, length, get_or, Bool, true, false, ◌&&◌, ◌||◌, List, [], ◌∷◌, ◌++◌, refl, sym, ap, ◌∙◌, All, Contains, map}
use Rattle.std.proofs.lemmas.List.Elements.{All-head, All-tail}
use Rattle.mls_book.specs.Predicates.{Predicate, Implies, bot, top, join, meet, joins, meets}
use Rattle.mls_book.proofs.Depths.{ImpliesTo, Implies-to, Implies-all}

pub or_left : (p q : Bool) → p ≡ true → (p || q) ≡ true
or_left true q e = refl
or_left false q e = absurd (cc)

pub or_right : (p q : Bool) → q ≡ true → (p || q) ≡ true
or_right true q e = refl
or_right false q e = e

pub or_cases : (p q : Bool) → (p || q) ≡ true → (p ≡ true) ⊎ (q ≡ true)
or_cases true q e = inl refl
or_cases false q e = inr e

pub or_least : (p q r : Bool) → (p ≡ true → r ≡ true) → (q ≡ true → r ≡ true) → (p || q) ≡ true → r ≡ true
or_least true q r f g e = f refl
or_least false q r f g e = g e

pub and_left : (p q : Bool) → (p && q) ≡ true → p ≡ true
and_left true q e = refl
and_left false q e = e

pub and_right : (p q : Bool) → (p && q) ≡ true → q ≡ true
and_right true q e = e
and_right false q e = absurd (cc)

pub and_both : (p q : Bool) → p ≡ true → q ≡ true → (p && q) ≡ true
and_both true q e f = f
and_both false q e f = e

-- two predicates
pub join_left : (f g : Predicate) → Implies f (join f g)
join_left f g t e = or_left (f t) (g t) e

pub join_right : (f g : Predicate) → Implies g (join f g)
join_right f g t e = or_right (f t) (g t) e

pub join_least : (f g h : Predicate) → Implies f h → Implies g h → Implies (join f g) h
join_least f g h first second t = or_least (f t) (g t) (h t) (first t) (second t)

pub meet_left : (f g : Predicate) → Implies (meet f g) f
meet_left f g t e = and_left (f t) (g t) e

pub meet_right : (f g : Predicate) → Implies (meet f g) g
meet_right f g t e = and_right (f t) (g t) e

pub meet_greatest : (f g h : Predicate) → Implies h f → Implies h g → Implies h (meet f g)
meet_greatest f g h first second t e = and_both (f t) (g t) (first t e) (second t e)

-- the same to a depth
pub join_least_to : (d : ℕ) (f g h : Predicate) → ImpliesTo d f h → ImpliesTo d g h → ImpliesTo d (join f g) h
join_least_to d f g h first second t low = or_least (f t) (g t) (h t) (first t low) (second t low)

pub join_left_to : (d : ℕ) (f g h : Predicate) → ImpliesTo d h f → ImpliesTo d h (join f g)
join_left_to d f g h below t low e = or_left (f t) (g t) (below t low e)

pub join_right_to : (d : ℕ) (f g h : Predicate) → ImpliesTo d h g → ImpliesTo d h (join f g)
join_right_to d f g h below t low e = or_right (f t) (g t) (below t low e)

pub meet_greatest_to : (d : ℕ) (f g h : Predicate) → ImpliesTo d h f → ImpliesTo d h g → ImpliesTo d h (meet f g)
meet_greatest_to d f g h first second t low e = and_both (f t) (g t) (first t low e) (second t low e)

pub meet_left_to : (d : ℕ) (f g h : Predicate) → ImpliesTo d f h → ImpliesTo d (meet f g) h
meet_left_to d f g h below t low e = below t low (and_left (f t) (g t) e)

pub meet_right_to : (d : ℕ) (f g h : Predicate) → ImpliesTo d g h → ImpliesTo d (meet f g) h
meet_right_to d f g h below t low e = below t low (and_right (f t) (g t) e)

-- equations
or_self : (p : Bool) → (p || p) ≡ p
or_self true = refl
or_self false = refl

or_swap : (p q : Bool) → (p || q) ≡ (q || p)
or_swap true true = refl
or_swap true false = refl
or_swap false true = refl
or_swap false false = refl

or_group : (p q r : Bool) → ((p || q) || r) ≡ (p || (q || r))
or_group true q r = refl
or_group false q r = refl

and_self : (p : Bool) → (p && p) ≡ p
and_self true = refl
and_self false = refl

and_swap : (p q : Bool) → (p && q) ≡ (q && p)
and_swap true true = refl
and_swap true false = refl
and_swap false true = refl
and_swap false false = refl

and_group : (p q r : Bool) → ((p && q) && r) ≡ (p && (q && r))
and_group true q r = refl
and_group false q r = refl

and_or : (p q r : Bool) → (p && (q || r)) ≡ ((p && q) || (p && r))
and_or true q r = refl
and_or false q r = refl

or_false : (p : Bool) → (p || false) ≡ p
or_false true = refl
or_false false = refl

and_true : (p : Bool) → (p && true) ≡ p
and_true true = refl
and_true false = refl

pub join_self : (f : Predicate) → join f f ≡ f
join_self f = λ k t. or_self (f t) k

pub join_swap : (f g : Predicate) → join f g ≡ join g f
join_swap f g = λ k t. or_swap (f t) (g t) k

pub join_group : (f g h : Predicate) → join (join f g) h ≡ join f (join g h)
join_group f g h = λ k t. or_group (f t) (g t) (h t) k

pub join_bot : (f : Predicate) → join f bot ≡ f
join_bot f = λ k t. or_false (f t) k

pub meet_self : (f : Predicate) → meet f f ≡ f
meet_self f = λ k t. and_self (f t) k

pub meet_swap : (f g : Predicate) → meet f g ≡ meet g f
meet_swap f g = λ k t. and_swap (f t) (g t) k

pub meet_group : (f g h : Predicate) → meet (meet f g) h ≡ meet f (meet g h)
meet_group f g h = λ k t. and_group (f t) (g t) (h t) k

pub meet_top : (f : Predicate) → meet f top ≡ f
meet_top f = λ k t. and_true (f t) k

-- a meet goes over a join
pub meet-join : (f g h : Predicate) → meet f (join g h) ≡ join (meet f g) (meet f h)
meet-join f g h = λ k t. and_or (f t) (g t) (h t) k

-- the joins and meets of two lists
pub joins-append : (fs gs : List Predicate) → joins (fs ++ gs) ≡ join (joins fs) (joins gs)
joins-append [] gs = refl
joins-append (f ∷ fs) gs = ap (join f) (joins-append fs gs) ∙ sym (join_group f (joins fs) (joins gs))

pub meets-append : (fs gs : List Predicate) → meets (fs ++ gs) ≡ meet (meets fs) (meets gs)
meets-append [] gs = refl
meets-append (f ∷ fs) gs = ap (meet f) (meets-append fs gs) ∙ sym (meet_group f (meets fs) (meets gs))

-- the joins and meets of the types of a list, to a depth
module _ {X : Type 0} (f : X → Predicate) where
  pub joins_least_to : (d : ℕ) (xs : List X) (g : Predicate) → All (λ x. ImpliesTo d (f x) g) xs → ImpliesTo d (joins (map f xs)) g
  joins_least_to d [] g each = λ t low e. absurd (cc)
  joins_least_to d (x ∷ rest) g each =
      join_least_to d (f x) (joins (map f rest)) g
      (All-head (λ x. ImpliesTo d (f x) g) x rest each)
      (joins_least_to d rest g (All-tail (λ x. ImpliesTo d (f x) g) x rest each))

  pub joins_upper : (xs : List X) (x : X) → Contains xs x → Implies (f x) (joins (map f xs))
  joins_upper [] x it = let low : it.0 < 0 = it.1 in absurd (omega arith)
  joins_upper (y ∷ rest) x it = go it.0 it.1 it.2 (joins_upper rest x)
    where
      go : (k : ℕ) → k < length (y ∷ rest) → get_or (y ∷ rest) k x ≡ x → (Contains rest x → Implies (f x) (joins (map f rest))) → Implies (f x) (join (f y) (joins (map f rest)))
      go zero low same later t e = or_left (f y t) (joins (map f rest) t) ((λ k. f (same k) t) ∙ e)
      go (suc k) low same later t e = or_right (f y t) (joins (map f rest) t) (later (k, omega arith, same) t e)

  pub meets_greatest_to : (d : ℕ) (xs : List X) (g : Predicate) → All (λ x. ImpliesTo d g (f x)) xs → ImpliesTo d g (meets (map f xs))
  meets_greatest_to d [] g each = λ t low e. refl
  meets_greatest_to d (x ∷ rest) g each =
      meet_greatest_to d (f x) (meets (map f rest)) g
      (All-head (λ x. ImpliesTo d g (f x)) x rest each)
      (meets_greatest_to d rest g (All-tail (λ x. ImpliesTo d g (f x)) x rest each))

  pub meets_lower : (xs : List X) (x : X) → Contains xs x → Implies (meets (map f xs)) (f x)
  meets_lower [] x it = let low : it.0 < 0 = it.1 in absurd (omega arith)
  meets_lower (y ∷ rest) x it = go it.0 it.1 it.2 (meets_lower rest x)
    where
      go : (k : ℕ) → k < length (y ∷ rest) → get_or (y ∷ rest) k x ≡ x → (Contains rest x → Implies (meets (map f rest)) (f x)) → Implies (meet (f y) (meets (map f rest))) (f x)
      go zero low same later t e = (λ k. f (sym same k) t) ∙ and_left (f y t) (meets (map f rest) t) e
      go (suc k) low same later t e = later (k, omega arith, same) t (and_right (f y t) (meets (map f rest) t) e)

  -- and to every depth
  pub joins_least : (xs : List X) (g : Predicate) → All (λ x. Implies (f x) g) xs → Implies (joins (map f xs)) g
  joins_least xs g each = Implies-all (joins (map f xs)) g (λ d. joins_least_to d xs g (λ k x low. Implies-to d (f (get_or xs k x)) g (each k x low)))

  pub meets_greatest : (xs : List X) (g : Predicate) → All (λ x. Implies g (f x)) xs → Implies g (meets (map f xs))
  meets_greatest xs g each = Implies-all g (meets (map f xs)) (λ d. meets_greatest_to d xs g (λ k x low. Implies-to d g (f (get_or xs k x)) (each k x low)))

-- each type of the first list is below one of the second
pub joins_within_to : {X Y : Type 0} (f : X → Predicate) (g : Y → Predicate) (d : ℕ) (xs : List X) (ys : List Y) → All (λ x. (y : Y) × Contains ys y × ImpliesTo d (f x) (g y)) xs → ImpliesTo d (joins (map f xs)) (joins (map g ys))
joins_within_to f g d xs ys each =
    joins_least_to f d xs (joins (map g ys))
    (λ k x low t deep e. let it = each k x low in joins_upper g ys it.0 it.1 t (it.2 t deep e))

-- each type of the second list is above one of the first
pub meets_within_to : {X Y : Type 0} (f : X → Predicate) (g : Y → Predicate) (d : ℕ) (xs : List X) (ys : List Y) → All (λ y. (x : X) × Contains xs x × ImpliesTo d (f x) (g y)) ys → ImpliesTo d (meets (map f xs)) (meets (map g ys))
meets_within_to f g d xs ys each =
    meets_greatest_to g d ys (meets (map f xs))
    (λ k y low t deep e. let it = each k y low in it.2 t deep (meets_lower f xs it.0 it.1 t e))
