-- What two environments need, in the order of their binders.
--     complete_none, complete_more     one entry after another
--     needs_all                        all entries
use Rattle.std.proofs.Common.{◌≡◌, ◌≢◌, ◌⊎◌, inl, inr, ℕ, zero, suc, ◌+◌, ◌-◌, ◌<◌, ◌≤◌, Bool, true, false, List, [], ◌∷◌, ◌++◌, drop, take, map, length, get_or, refl, sym, ap, ◌∙◌, subst, arith, append-nil, append_assoc, Contains, Option, Some, None}
use Rattle.std.specs.Prelude.{All, IsSome, cond}
use Rattle.std.specs.Ordering.{nat_cmp, eq_by_cmp}
use Rattle.std.proofs.lemmas.Bool.{cases_eq}
use Rattle.std.proofs.lemmas.List.{drop_more, length-drop, take_all}
use Rattle.std.proofs.Math.ListN.{drop_of_length-le}
use Rattle.std.proofs.lemmas.List.Elements.{All-nil, All-cons, All-head, All-tail, All-weaker}
use Rattle.mls_automaton.proofs.Lists.{Contains-here, Contains-later}
use Rattle.mls_deriv.specs.declared.derivation.BinderNode.{BinderNode}
use Rattle.mls_deriv.specs.Steps.{IsRising}
use Rattle.mls_lines.specs.declared.envs.Needed.{Needed}
use Rattle.mls_lines.specs.declared.envs.Needed.TheVariants as needed
use Rattle.mls_lines.specs.Environments.{AreNeeded, HasNodes, IsNext, needed_binder}
use Rattle.mls_lines.proofs.Scopes.{looked, got, same_key, itself_key}

differs : (y x : ℕ) → y ≢ x → (t : Bool) → eq_by_cmp nat_cmp y x ≡ t → t ≡ false
differs y x apart true e = absurd (apart (same_key y x e))
differs y x apart false e = refl

-- the entry of a binder is the first one, or one behind it
looked_here : (first : BinderNode) (d : List BinderNode) → looked (first ∷ d) first.binder ≡ Some first.node.0
looked_here first d = ap (λ t. cond t (Some first.node.0) (looked d first.binder)) (itself_key first.binder)

looked_later : (first : BinderNode) (d : List BinderNode) (x : ℕ) → x ≢ first.binder → looked (first ∷ d) x ≡ looked d x
looked_later first d x apart = ap (λ t. cond t (Some first.node.0) (looked d x)) (differs x first.binder apart (eq_by_cmp nat_cmp x first.binder) refl)

abbrev IsAbove : ℕ → List BinderNode → Type 0
IsAbove x d = All (λ (later : BinderNode). x < later.binder) d

-- a binder that has a node is above what all are above
looked_above : (x : ℕ) (d : List BinderNode) → IsAbove x d → (y n : ℕ) → looked d y ≡ Some n → x < y
looked_above x [] above y n found = absurd (cc)
looked_above x (first ∷ d) above y n found =
    by_test (cases_eq y first.binder) (looked_above x d (All-tail (λ (later : BinderNode). x < later.binder) first d above) y n)
  where
    by_test : (y ≡ first.binder) ⊎ (y ≡ first.binder → ⊥) → (looked d y ≡ Some n → x < y) → x < y
    by_test (inl same) later = subst (λ z. x < z) (sym same) (All-head (λ (later : BinderNode). x < later.binder) first d above)
    by_test (inr apart) later = later (sym (looked_later first d y apart) ∙ found)

-- so what all are above has none
looked_nothing : (x : ℕ) (d : List BinderNode) → IsAbove x d → looked d x ≡ None
looked_nothing x d above = by_node (looked d x) refl
  where
    by_node : (o : Option ℕ) → looked d x ≡ o → o ≡ None
    by_node None e = refl
    by_node (Some n) e = let less : x < x = looked_above x d above x n e in absurd (omega (arith, less))

above_more : (x y : ℕ) (d : List BinderNode) → x < y → IsAbove y d → IsAbove x d
above_more x y [] less above = All-nil (λ (later : BinderNode). x < later.binder)
above_more x y (first ∷ d) less above =
    let here : y < first.binder = All-head (λ (later : BinderNode). y < later.binder) first d above in
    All-cons (λ (later : BinderNode). x < later.binder) first d (omega (arith, less, here)) (above_more x y d less (All-tail (λ (later : BinderNode). y < later.binder) first d above))

-- the nodes that two environments have for a binder, as they are looked up
abbrev pub HasLooked : (d e : List BinderNode) → Needed → Type 0
HasLooked d e (needed.One entry) = ((looked d entry.binder ≡ Some entry.node.0) × (looked e entry.binder ≡ None))
    ⊎ ((looked d entry.binder ≡ None) × (looked e entry.binder ≡ Some entry.node.0))
HasLooked d e (needed.Both x left right) = (looked d x ≡ Some left.0) × (looked e x ≡ Some right.0)

abbrev pub Rise : List Needed → Type 0
Rise [] = Unit {0}
Rise (first ∷ all) = All (λ (later : Needed). needed_binder first < needed_binder later) all × Rise all

pub record Front (d e : List BinderNode) (all : List Needed) : Type 0 where
  pub rise : Rise all
  pub nodes : All (HasLooked d e) all
  pub first : (x : ℕ) → IsSome (looked d x) → Contains (map needed_binder all) x
  pub second : (x : ℕ) → IsSome (looked e x) → Contains (map needed_binder all) x

-- What comes first, where both environments go on with others, all of whose binders are above.
module _ (d e d' e' : List BinderNode) (n : Needed) (has : HasLooked d e n)
    (same : (z : ℕ) → z ≢ needed_binder n → (looked d z ≡ looked d' z) × (looked e z ≡ looked e' z))
    (above : (z m : ℕ) → (looked d' z ≡ Some m) ⊎ (looked e' z ≡ Some m) → needed_binder n < z) where
  behind : (k : Needed) → HasLooked d' e' k → needed_binder n < needed_binder k
  behind (needed.One entry) (inl is) = above entry.binder entry.node.0 (inl is.0)
  behind (needed.One entry) (inr is) = above entry.binder entry.node.0 (inr is.1)
  behind (needed.Both x left right) is = above x left.0 (inl is.0)

  apart_from : (z : ℕ) → needed_binder n < z → z ≢ needed_binder n
  apart_from z less is = absurd (omega (arith, less, is))

  moved : (k : Needed) → HasLooked d' e' k → HasLooked d e k
  moved (needed.One entry) (inl is) = let it = same entry.binder (apart_from entry.binder (behind (needed.One entry) (inl is))) in inl (it.0 ∙ is.0, it.1 ∙ is.1)
  moved (needed.One entry) (inr is) = let it = same entry.binder (apart_from entry.binder (behind (needed.One entry) (inr is))) in inr (it.0 ∙ is.0, it.1 ∙ is.1)
  moved (needed.Both x left right) is = let it = same x (apart_from x (behind (needed.Both x left right) is)) in (it.0 ∙ is.0, it.1 ∙ is.1)

  there : (all : List Needed) (x : ℕ) → (x ≡ needed_binder n) ⊎ (x ≡ needed_binder n → ⊥) → (x ≢ needed_binder n → Contains (map needed_binder all) x)
      → Contains (map needed_binder (n ∷ all)) x
  there all x (inl is) later = subst (Contains (map needed_binder (n ∷ all))) (sym is) (Contains-here (needed_binder n) (map needed_binder all))
  there all x (inr apart) later = Contains-later (needed_binder n) (map needed_binder all) x (later apart)

  front_cons : (all : List Needed) → Front d' e' all → Front d e (n ∷ all)
  front_cons all it = record {
    rise = (All-weaker (HasLooked d' e') (λ later. needed_binder n < needed_binder later) behind all it.nodes, it.rise);
    nodes = All-cons (HasLooked d e) n all has (All-weaker (HasLooked d' e') (HasLooked d e) moved all it.nodes);
    first = λ x is. there all x (cases_eq x (needed_binder n)) (λ apart. it.first x (subst IsSome (same x apart).0 is));
    second = λ x is. there all x (cases_eq x (needed_binder n)) (λ apart. it.second x (subst IsSome (same x apart).1 is));
  }

no_node : (x m : ℕ) → looked [] x ≡ Some m → ⊥
no_node x m found = cc

front_none : Front [] [] []
front_none = record {
  rise = tt;
  nodes = All-nil (HasLooked [] []);
  first = λ x there. absurd (cc);
  second = λ x there. absurd (cc);
}

-- one environment alone
alone_first : (d : List BinderNode) → IsRising d → Front d [] (map needed.One d)
alone_first [] rising = front_none
alone_first (x ∷ d) rising =
    front_cons (x ∷ d) [] d [] (needed.One x) (inl (looked_here x d, refl)) (λ z apart. (looked_later x d z apart, refl)) above (map needed.One d) (alone_first d rising.1)
  where
    above : (z m : ℕ) → (looked d z ≡ Some m) ⊎ (looked [] z ≡ Some m) → x.binder < z
    above z m (inl found) = looked_above x.binder d rising.0 z m found
    above z m (inr found) = absurd (no_node z m found)

alone_second : (e : List BinderNode) → IsRising e → Front [] e (map needed.One e)
alone_second [] rising = front_none
alone_second (y ∷ e) rising =
    front_cons [] (y ∷ e) [] e (needed.One y) (inr (refl, looked_here y e)) (λ z apart. (refl, looked_later y e z apart)) above (map needed.One e) (alone_second e rising.1)
  where
    above : (z m : ℕ) → (looked [] z ≡ Some m) ⊎ (looked e z ≡ Some m) → y.binder < z
    above z m (inl found) = absurd (no_node z m found)
    above z m (inr found) = looked_above y.binder e rising.0 z m found

-- the lower of two binders, or one that both have
module _ (x : BinderNode) (d : List BinderNode) (y : BinderNode) (e : List BinderNode) (rising : IsRising (x ∷ d)) (rising' : IsRising (y ∷ e)) (all : List Needed) where
  front_first : x.binder < y.binder → Front d (y ∷ e) all → Front (x ∷ d) (y ∷ e) (needed.One x ∷ all)
  front_first less =
      front_cons (x ∷ d) (y ∷ e) d (y ∷ e) (needed.One x) (inl (looked_here x d, looked_nothing x.binder (y ∷ e) higher)) (λ z apart. (looked_later x d z apart, refl)) above all
    where
      higher : IsAbove x.binder (y ∷ e)
      higher = All-cons (λ (later : BinderNode). x.binder < later.binder) y e less (above_more x.binder y.binder e less rising'.0)

      above : (z m : ℕ) → (looked d z ≡ Some m) ⊎ (looked (y ∷ e) z ≡ Some m) → x.binder < z
      above z m (inl found) = looked_above x.binder d rising.0 z m found
      above z m (inr found) = looked_above x.binder (y ∷ e) higher z m found

  front_second : y.binder < x.binder → Front (x ∷ d) e all → Front (x ∷ d) (y ∷ e) (needed.One y ∷ all)
  front_second less =
      front_cons (x ∷ d) (y ∷ e) (x ∷ d) e (needed.One y) (inr (looked_nothing y.binder (x ∷ d) higher, looked_here y e)) (λ z apart. (refl, looked_later y e z apart)) above all
    where
      higher : IsAbove y.binder (x ∷ d)
      higher = All-cons (λ (later : BinderNode). y.binder < later.binder) x d less (above_more y.binder x.binder d less rising.0)

      above : (z m : ℕ) → (looked (x ∷ d) z ≡ Some m) ⊎ (looked e z ≡ Some m) → y.binder < z
      above z m (inl found) = looked_above y.binder (x ∷ d) higher z m found
      above z m (inr found) = looked_above y.binder e rising'.0 z m found

  front_both : x.binder ≡ y.binder → Front d e all → Front (x ∷ d) (y ∷ e) (needed.Both x.binder x.node y.node ∷ all)
  front_both equal =
      front_cons (x ∷ d) (y ∷ e) d e (needed.Both x.binder x.node y.node) (looked_here x d, ap (looked (y ∷ e)) equal ∙ looked_here y e)
      (λ z apart. (looked_later x d z apart, looked_later y e z (λ is. apart (is ∙ sym equal)))) above all
    where
      above : (z m : ℕ) → (looked d z ≡ Some m) ⊎ (looked e z ≡ Some m) → x.binder < z
      above z m (inl found) = looked_above x.binder d rising.0 z m found
      above z m (inr found) = looked_above x.binder e (subst (λ b. IsAbove b e) (sym equal) rising'.0) z m found

rising_drop : (d : List BinderNode) (i : ℕ) → IsRising d → IsRising (drop i d)
rising_drop d zero rising = rising
rising_drop [] (suc i) rising = tt
rising_drop (x ∷ d) (suc i) rising = rising_drop d i rising.1

-- one entry more of two environments, from these places on
front_step : (d e : List BinderNode) (i j : ℕ) (c : BinderNode) → i < length d → j < length e → IsRising d → IsRising e → (n : Needed) (a b : ℕ) → IsNext (get_or d i c) (get_or e j c) n a b
    → (rest : List Needed) → Front (drop (i + a) d) (drop (j + b) e) rest → Front (drop i d) (drop j e) (n ∷ rest)
front_step d e i j c low low' rising rising' n a b next rest front =
    subst (λ (l : List BinderNode). Front l (drop j e) (n ∷ rest)) (sym first) (subst (λ (l : List BinderNode). Front (x ∷ d') l (n ∷ rest)) (sym second) (by_order next))
  where
    x : BinderNode
    x = get_or d i c

    y : BinderNode
    y = get_or e j c

    d' : List BinderNode
    d' = drop (i + 1) d

    e' : List BinderNode
    e' = drop (j + 1) e

    first : drop i d ≡ x ∷ d'
    first = drop_more d i c low

    second : drop j e ≡ y ∷ e'
    second = drop_more e j c low'

    up : IsRising (x ∷ d')
    up = subst IsRising first (rising_drop d i rising)

    up' : IsRising (y ∷ e')
    up' = subst IsRising second (rising_drop e j rising')

    stays : (l : List BinderNode) (k : ℕ) → drop (k + 0) l ≡ drop k l
    stays l k = let same : k + 0 ≡ k = omega arith in ap (λ m. drop m l) same

    by_order : IsNext x y n a b → Front (x ∷ d') (y ∷ e') (n ∷ rest)
    by_order (inl (less, is, one, none)) =
        subst (λ (m : Needed). Front (x ∷ d') (y ∷ e') (m ∷ rest)) (sym is)
        (front_first x d' y e' up up' rest less
        (subst (λ (l : List BinderNode). Front d' l rest) (ap (λ k. drop (j + k) e) none ∙ (stays e j ∙ second)) (subst (λ k. Front (drop (i + k) d) (drop (j + b) e) rest) one front)))
    by_order (inr (inl (equal, is, one, one'))) =
        subst (λ (m : Needed). Front (x ∷ d') (y ∷ e') (m ∷ rest)) (sym is)
        (front_both x d' y e' up up' rest equal (subst (λ k. Front d' (drop (j + k) e) rest) one' (subst (λ k. Front (drop (i + k) d) (drop (j + b) e) rest) one front)))
    by_order (inr (inr (less, is, none, one))) =
        subst (λ (m : Needed). Front (x ∷ d') (y ∷ e') (m ∷ rest)) (sym is)
        (front_second x d' y e' up up' rest less
        (subst (λ (l : List BinderNode). Front l e' rest) (ap (λ k. drop (i + k) d) none ∙ (stays d i ∙ first)) (subst (λ k. Front (drop (i + a) d) (drop (j + k) e) rest) one front)))

-- from what is left of both to all of both
abbrev pub Completes : (d e : List BinderNode) (i j : ℕ) → List Needed → Type 0
Completes d e i j all = IsRising d → IsRising e → (rest : List Needed) → Front (drop i d) (drop j e) rest → Front d e (all ++ rest)

pub complete_none : (d e : List BinderNode) → Completes d e 0 0 []
complete_none d e rising rising' rest front = front

pub complete_more : (d e : List BinderNode) (i j : ℕ) (c : BinderNode) (all : List Needed) → i < length d → j < length e → Completes d e i j all
    → (n : Needed) (a b : ℕ) → IsNext (get_or d i c) (get_or e j c) n a b → Completes d e (i + a) (j + b) (all ++ n ∷ [])
complete_more d e i j c all low low' completes n a b next rising rising' rest front =
    subst (Front d e) (sym (append_assoc all (n ∷ []) rest)) (completes rising rising' (n ∷ rest) (front_step d e i j c low low' rising rising' n a b next rest front))

rises : (all : List Needed) → Rise all → (i j : ℕ) → i < j → j < length (map needed_binder all) → get_or (map needed_binder all) i 0 < get_or (map needed_binder all) j 0
rises [] rise i j less low = absurd (omega (arith, low))
rises (first ∷ all) rise i zero less low = absurd (omega (arith, less))
rises (first ∷ all) rise zero (suc j) less low = at all j rise.0 (omega (arith, low))
  where
    at : (all : List Needed) (j : ℕ) → All (λ (later : Needed). needed_binder first < needed_binder later) all → j < length (map needed_binder all) → needed_binder first < get_or (map needed_binder all) j 0
    at [] j above low = absurd (omega (arith, low))
    at (next ∷ all) zero above low = All-head (λ (later : Needed). needed_binder first < needed_binder later) next all above
    at (next ∷ all) (suc j) above low = at all j (All-tail (λ (later : Needed). needed_binder first < needed_binder later) next all above) (omega (arith, low))
rises (first ∷ all) rise (suc i) (suc j) less low = rises all rise.1 i j (omega (arith, less)) (omega (arith, low))

are_needed : (d e : List BinderNode) (all : List Needed) → Front d e all → AreNeeded d e all
are_needed d e all front = record {
  binders = record {
    rise = rises all front.rise;
    first = λ x there. front.first x (subst IsSome (got d x) there);
    second = λ x there. front.second x (subst IsSome (got e x) there);
  };
  nodes = All-weaker (HasLooked d e) (HasNodes d e) back all front.nodes;
}
  where
    back : (k : Needed) → HasLooked d e k → HasNodes d e k
    back (needed.One entry) (inl is) = inl (got d entry.binder ∙ is.0, got e entry.binder ∙ is.1)
    back (needed.One entry) (inr is) = inr (got d entry.binder ∙ is.0, got e entry.binder ∙ is.1)
    back (needed.Both x left right) is = (got d x ∙ is.0, got e x ∙ is.1)

-- where one environment is gone through, the rest is that of the other
pub needs_all : (d e : List BinderNode) (i j : ℕ) (all : List Needed) → (length d ≤ i) ⊎ (length e ≤ j) → Completes d e i j all → IsRising d → IsRising e
    → AreNeeded d e ((all ++ map needed.One (drop i d)) ++ map needed.One (drop j e))
needs_all d e i j all ends completes rising rising' =
    subst (AreNeeded d e) (sym (append_assoc all (map needed.One (drop i d)) (map needed.One (drop j e))))
    (are_needed d e (all ++ (map needed.One (drop i d) ++ map needed.One (drop j e))) (completes rising rising' (map needed.One (drop i d) ++ map needed.One (drop j e)) (by_end ends)))
  where
    by_end : (length d ≤ i) ⊎ (length e ≤ j) → Front (drop i d) (drop j e) (map needed.One (drop i d) ++ map needed.One (drop j e))
    by_end (inl past) =
        let none : drop i d ≡ [] = drop_of_length-le d past in
        subst (λ (l : List BinderNode). Front l (drop j e) (map needed.One l ++ map needed.One (drop j e))) (sym none) (alone_second (drop j e) (rising_drop e j rising'))
    by_end (inr past) =
        let none : drop j e ≡ [] = drop_of_length-le e past in
        subst (λ (l : List BinderNode). Front (drop i d) l (map needed.One (drop i d) ++ map needed.One l)) (sym none)
        (subst (Front (drop i d) []) (sym (append-nil (map needed.One (drop i d)))) (alone_first (drop i d) (rising_drop d i rising)))

-- one entry of one of them is gone at least, and one of each at most
pub next_counts : (left right : BinderNode) (n : Needed) (a b : ℕ) → IsNext left right n a b → (1 ≤ a + b) × (a ≤ 1) × (b ≤ 1)
next_counts left right n a b (inl (less, is, one, none)) = (omega (arith, one, none), omega (arith, one), omega (arith, none))
next_counts left right n a b (inr (inl (equal, is, one, one'))) = (omega (arith, one, one'), omega (arith, one), omega (arith, one'))
next_counts left right n a b (inr (inr (less, is, none, one))) = (omega (arith, none, one), omega (arith, none), omega (arith, one))

-- the rest of an environment
pub rest_whole : (d : List BinderNode) (i : ℕ) → take (length d - i) (drop i d) ≡ drop i d
rest_whole d i = take_all (length d - i) (drop i d) (let size : length (drop i d) ≡ length d - i = length-drop i d in omega (arith, size))
