-- Pairs that are met from the ends of two schemes.
--     lists_none, lists_then, lists_as, lists_one     pairs of numbers, listed one after another
--     any_none, any_more                              those of the members of a list
--     states_none, states_more                        states of binders by their numbers
--     marked_more                                     a set with one pair more
--     meets_none, meets_then, meets_as                pairs that are met, one after another
--     meeting_start, meeting_more, met_all            what is behind the pairs that were met, place by place
--     met_alike                                       all of them are alike
use Rattle.std.proofs.Common.{◌≡◌, ◌⊎◌, inl, inr, ℕ, ◌+◌, ◌<◌, ◌≤◌, Bool, true, false, cond, List, [], ◌∷◌, ◌++◌, length, take, get_or, refl, sym, ap, ◌∙◌, subst, arith, Contains, All, Some, None, append_assoc, append-nil}
use Rattle.std.specs.Prelude.{◌↔◌}
use Rattle.std.specs.BTreeMap as tree
use Rattle.std.specs.BTreeMap.{BTreeMap, get}
use Rattle.std.specs.BTreeSet.{BTreeSet, contains, IsEmpty, Updates}
use Rattle.std.specs.Ordering.{nat_cmp, ordering_then, is_eq}
use Rattle.std.specs.declared.cmp.Ordering.{Ordering}
use Rattle.std.specs.declared.cmp.Ordering.TheVariants.{Less, Equal, Greater}
use Rattle.std.proofs.lemmas.List.{get_or_append_left, get_or_default, get_or-take, length-take-le}
use Rattle.std.proofs.lemmas.List.Elements.{Contains-append_left, Contains-push, Contains-push_cases}
use Rattle.mls_book.proofs.LongerBooks.{below_or_more}
use Rattle.mls_automaton.specs.declared.scheme.EnvEntry.{EnvEntry}
use Rattle.mls_automaton.specs.declared.scheme.Scheme.{Scheme}
use Rattle.mls_automaton.specs.Automata.{Automaton, head_at}
use Rattle.mls_automaton.specs.Environments.{BindersRise}
use Rattle.mls_automaton.specs.Schemes.{state_of}
use Rattle.mls_automaton.proofs.Reaching.{entry-found, found-entry}
use Rattle.mls_deriv.specs.inner.Tables.{numbers_cmp}
use Rattle.mls_subsume.specs.declared.verdict.StatePair.{StatePair}
use Rattle.mls_subsume.specs.Walks.{IsIn}
use Rattle.mls_layout.specs.Walks.{AreAlike, AreMet, IsEnd, IsMet, end, behind, IsOfAny, IsOfHeads, IsPairAlike, IsThis}
use Rattle.mls_layout.specs.steps.Walking.{AreMeeting, AreStatesOf, IsAlikeIn, IsMarked, IsOfEntries, IsThisAlike, Lists, Meets, pair_of}
use Rattle.mls_layout.proofs.KeySets.{number_same, number_self}
use Rattle.mls_layout.proofs.WorkedParts.{nothing}

abbrev Pairs : Type 0
Pairs = List (ℕ × ℕ)

abbrev no_pairs : Pairs
no_pairs = []

abbrev Relation : Type 1
Relation = ℕ → ℕ → Type 0

-- pairs of numbers that are listed
pub lists_none : (P : Relation) → ((g s : ℕ) → P g s → ⊥) → (xs : Pairs) → Lists P xs xs
lists_none P none xs g s = (inl, back)
  where
    back : Contains xs (g, s) ⊎ P g s → Contains xs (g, s)
    back (inl there) = there
    back (inr is) = absurd (none g s is)

pub lists_then : (P Q : Relation) (xs ys zs : Pairs) → Lists P xs ys → Lists Q ys zs → Lists (λ g s. P g s ⊎ Q g s) xs zs
lists_then P Q xs ys zs one two g s = ((λ there. to ((two g s).0 there)), back)
  where
    middle : Contains xs (g, s) ⊎ P g s → Contains xs (g, s) ⊎ (P g s ⊎ Q g s)
    middle (inl there) = inl there
    middle (inr is) = inr (inl is)

    to : Contains ys (g, s) ⊎ Q g s → Contains xs (g, s) ⊎ (P g s ⊎ Q g s)
    to (inl there) = middle ((one g s).0 there)
    to (inr is) = inr (inr is)

    back : Contains xs (g, s) ⊎ (P g s ⊎ Q g s) → Contains zs (g, s)
    back (inl there) = (two g s).1 (inl ((one g s).1 (inl there)))
    back (inr (inl is)) = (two g s).1 (inl ((one g s).1 (inr is)))
    back (inr (inr is)) = (two g s).1 (inr is)

pub lists_as : (P Q : Relation) → ((g s : ℕ) → P g s → Q g s) → ((g s : ℕ) → Q g s → P g s) → (xs ys : Pairs) → Lists P xs ys → Lists Q xs ys
lists_as P Q to from xs ys it g s = ((λ there. forth ((it g s).0 there)), back)
  where
    forth : Contains xs (g, s) ⊎ P g s → Contains xs (g, s) ⊎ Q g s
    forth (inl there) = inl there
    forth (inr is) = inr (to g s is)

    back : Contains xs (g, s) ⊎ Q g s → Contains ys (g, s)
    back (inl there) = (it g s).1 (inl there)
    back (inr is) = (it g s).1 (inr (from g s is))

pub lists_one : (pair : ℕ × ℕ) (xs ys : Pairs) → ys ≡ xs ++ pair ∷ [] → Lists (IsThis pair) xs ys
lists_one pair xs ys is g s = ((λ there. to (Contains-push_cases xs pair (g, s) (subst (λ (zs : Pairs). Contains zs (g, s)) is there))), (λ at. subst (λ (zs : Pairs). Contains zs (g, s)) (sym is) (back at)))
  where
    to : Contains xs (g, s) ⊎ (pair ≡ (g, s)) → Contains xs (g, s) ⊎ IsThis pair g s
    to (inl there) = inl there
    to (inr same) = inr (ap (λ (p : ℕ × ℕ). p.0) (sym same), ap (λ (p : ℕ × ℕ). p.1) (sym same))

    back : Contains xs (g, s) ⊎ IsThis pair g s → Contains (xs ++ pair ∷ []) (g, s)
    back (inl there) = Contains-append_left xs (pair ∷ []) (g, s) there
    back (inr at) = subst (Contains (xs ++ pair ∷ [])) (λ i. (sym at.0 i, sym at.1 i)) (Contains-push xs pair)

-- what the members of a list give, one after another
module _ {X : Type 0} (One : X → ℕ → ℕ → Type 0) where
  pub any_none : (xs : Pairs) → Lists (IsOfAny [] One) xs xs
  any_none xs = lists_none (IsOfAny [] One) (λ g s is. nothing is.0 is.1) xs

  pub any_more : (items : List X) (x : X) (xs ys zs : Pairs) → Lists (IsOfAny items One) xs ys → Lists (One x) ys zs → Lists (IsOfAny (items ++ x ∷ []) One) xs zs
  any_more items x xs ys zs one two = lists_as (λ g s. IsOfAny items One g s ⊎ One x g s) (IsOfAny (items ++ x ∷ []) One) to from xs zs (lists_then (IsOfAny items One) (One x) xs ys zs one two)
    where
      to : (g s : ℕ) → IsOfAny items One g s ⊎ One x g s → IsOfAny (items ++ x ∷ []) One g s
      to g s (inl is) = (is.0, Contains-append_left items (x ∷ []) is.0 is.1, is.2)
      to g s (inr is) = (x, Contains-push items x, is)

      back : (g s : ℕ) (y : X) → One y g s → Contains items y ⊎ (x ≡ y) → IsOfAny items One g s ⊎ One x g s
      back g s y is (inl there) = inl (y, there, is)
      back g s y is (inr same) = inr (subst (λ z. One z g s) (sym same) is)

      from : (g s : ℕ) → IsOfAny (items ++ x ∷ []) One g s → IsOfAny items One g s ⊎ One x g s
      from g s is = back g s is.0 is.2 (Contains-push_cases items x is.0 is.1)

-- the states of binders by their numbers
pub states_none : (states : BTreeMap ℕ ℕ) → ((x : ℕ) → get nat_cmp states x ≡ None) → AreStatesOf [] states
states_none states none x s = (
  (λ is. let wrong : None ≡ Some s = sym (none x) ∙ is in absurd (cc)),
  (λ is. absurd (nothing is.0 is.1)),
)

pub states_more : (env : List EnvEntry) (entry : EnvEntry) (old new : BTreeMap ℕ ℕ) → AreStatesOf env old → ((other : EnvEntry) → Contains env other → other.binder < entry.binder) → tree.Updates nat_cmp old new entry.binder (Some entry.state.0) → AreStatesOf (env ++ entry ∷ []) new
states_more env entry old new it below updates x s = (
  (λ is. to (is_eq (nat_cmp entry.binder x)) refl (sym (updates.0 x) ∙ is)),
  (λ is. updates.0 x ∙ from is.0 is.2 is.3 (is_eq (nat_cmp entry.binder x)) refl (Contains-push_cases env entry is.0 is.1)),
)
  where
    Found : List EnvEntry → Type 0
    Found xs = (e : EnvEntry) × Contains xs e × (e.binder ≡ x) × (e.state.0 ≡ s)

    to : (b : Bool) → is_eq (nat_cmp entry.binder x) ≡ b → cond b (Some entry.state.0) (get nat_cmp old x) ≡ Some s → Found (env ++ entry ∷ [])
    to true e h = (entry, Contains-push env entry, number_same entry.binder x e, let same : entry.state.0 ≡ s = cc in same)
    to false e h = let found = (it x s).0 h in (found.0, Contains-append_left env (entry ∷ []) found.0 found.1, found.2, found.3)

    from : (e : EnvEntry) → e.binder ≡ x → e.state.0 ≡ s → (b : Bool) → is_eq (nat_cmp entry.binder x) ≡ b → Contains env e ⊎ (entry ≡ e) → cond b (Some entry.state.0) (get nat_cmp old x) ≡ Some s
    from e binder state true key (inr same) = ap (λ (z : EnvEntry). Some z.state.0) same ∙ ap Some state
    from e binder state true key (inl there) = let less : e.binder < entry.binder = below e there in let at : entry.binder ≡ x = number_same entry.binder x key in absurd (omega (arith, less, at, binder))
    from e binder state false key (inl there) = (it x s).1 (e, there, binder, state)
    from e binder state false key (inr same) =
        let at : entry.binder ≡ x = ap (λ (z : EnvEntry). z.binder) same ∙ binder in
        let yes' : is_eq (nat_cmp entry.binder x) ≡ true = subst (λ y. is_eq (nat_cmp entry.binder y) ≡ true) at (number_self entry.binder) in
        absurd (cc)

-- an earlier binder is lower
pub earlier_below : (env : List EnvEntry) → BindersRise env → (i : ℕ) (d : EnvEntry) → i < length env → (other : EnvEntry) → Contains (take i env) other → other.binder < (get_or env i d).binder
earlier_below env rise i d low other there =
    let k : ℕ = there.0 in
    let inside : k < length (take i env) = there.1 in
    let long : length (take i env) ≡ i = length-take-le i env (omega (arith, low)) in
    let before : k < i = omega (arith, inside, long) in
    let at : get_or env k other ≡ other = sym (get_or-take i env k other before) ∙ there.2 in
    let less : (get_or env k other).binder < (get_or env i other).binder = rise k i other before low in
    let same : get_or env i other ≡ get_or env i d = get_or_default env i other d low in
    subst (λ (e : EnvEntry). e.binder < (get_or env i d).binder) at (subst (λ (e : EnvEntry). (get_or env k other).binder < e.binder) same less)

-- the roots, and the binders that both schemes have
pub ends_are : (general special : Scheme) (states : BTreeMap ℕ ℕ) → BindersRise general.env → BindersRise special.env → AreStatesOf special.env states → (first ends : Pairs)
    → Lists (IsThis (general.root.0, special.root.0)) [] first → Lists (IsOfEntries states general.env) first ends → (g s : ℕ) → Contains ends (g, s) ↔ IsEnd general special g s
ends_are general special states rise rise' are first ends root entries g s =
    let both = lists_then (IsThis (general.root.0, special.root.0)) (IsOfEntries states general.env) [] first ends root entries in
    ((λ there. to ((both g s).0 there)), (λ is. (both g s).1 (inr (from is))))
  where
    to : Contains no_pairs (g, s) ⊎ (IsThis (general.root.0, special.root.0) g s ⊎ IsOfEntries states general.env g s) → IsEnd general special g s
    to (inl none) = absurd (nothing (g, s) none)
    to (inr (inl is)) = inl is
    to (inr (inr (entry, there, (at, found)))) =
        let other = (are entry.binder s).0 found in
        inr (
          entry.binder,
          entry-found general.env rise entry there ∙ ap Some (sym at),
          subst (λ x. state_of special.env x ≡ Some s) other.2 (entry-found special.env rise' other.0 other.1 ∙ ap Some other.3),
        )

    from : IsEnd general special g s → IsThis (general.root.0, special.root.0) g s ⊎ IsOfEntries states general.env g s
    from (inl is) = inl is
    from (inr (x, one, two)) =
        let entry = found-entry general.env x g one in
        let other = found-entry special.env x s two in
        inr (entry.0, entry.1, (sym entry.3, subst (λ y. get nat_cmp states y ≡ Some s) (sym entry.2) ((are x s).1 other)))

-- sets of pairs
both_equal : (o p : Ordering) → is_eq (ordering_then o p) ≡ true → (is_eq o ≡ true) × (is_eq p ≡ true)
both_equal Less p e = absurd (cc)
both_equal Equal p e = (refl, e)
both_equal Greater p e = absurd (cc)

equal_both : (o p : Ordering) → is_eq o ≡ true → is_eq p ≡ true → is_eq (ordering_then o p) ≡ true
equal_both Less p e e' = absurd (cc)
equal_both Equal p e e' = e'
equal_both Greater p e e' = absurd (cc)

pub marked_none : (marked : BTreeSet (ℕ × ℕ)) → IsEmpty marked → IsMarked marked []
marked_none marked none g s = (
  (λ is. let empty : contains numbers_cmp marked (g, s) ≡ false = (λ i. contains numbers_cmp (record { keys = none i }) (g, s)) in absurd (cc)),
  (λ there. absurd (nothing (pair_of (g, s)) there)),
)

pub marked_more : (old new : BTreeSet (ℕ × ℕ)) (pairs : List StatePair) (pair : ℕ × ℕ) → IsMarked old pairs → Updates numbers_cmp old new pair true → IsMarked new (pairs ++ pair_of pair ∷ [])
marked_more old new pairs pair it updates g s = (
  (λ is. to (is_eq (numbers_cmp pair (g, s))) refl (sym (updates.0 (g, s)) ∙ is)),
  (λ there. updates.0 (g, s) ∙ from (is_eq (numbers_cmp pair (g, s))) refl (Contains-push_cases pairs (pair_of pair) (pair_of (g, s)) there)),
)
  where
    to : (b : Bool) → is_eq (numbers_cmp pair (g, s)) ≡ b → cond b true (contains numbers_cmp old (g, s)) ≡ true → Contains (pairs ++ pair_of pair ∷ []) (pair_of (g, s))
    to true e h =
        let both = both_equal (nat_cmp pair.0 g) (nat_cmp pair.1 s) e in
        let one : pair.0 ≡ g = number_same pair.0 g both.0 in
        let two : pair.1 ≡ s = number_same pair.1 s both.1 in
        subst (Contains (pairs ++ pair_of pair ∷ [])) (λ i. pair_of (one i, two i)) (Contains-push pairs (pair_of pair))
    to false e h = Contains-append_left pairs (pair_of pair ∷ []) (pair_of (g, s)) ((it g s).0 h)

    from : (b : Bool) → is_eq (numbers_cmp pair (g, s)) ≡ b → Contains pairs (pair_of (g, s)) ⊎ (pair_of pair ≡ pair_of (g, s)) → cond b true (contains numbers_cmp old (g, s)) ≡ true
    from true e there = refl
    from false e (inl before) = (it g s).1 before
    from false e (inr same) =
        let one : pair.0 ≡ g = ap (λ (p : StatePair). p.general.0) same in
        let two : pair.1 ≡ s = ap (λ (p : StatePair). p.special.0) same in
        let first : is_eq (nat_cmp pair.0 g) ≡ true = subst (λ y. is_eq (nat_cmp pair.0 y) ≡ true) one (number_self pair.0) in
        let second : is_eq (nat_cmp pair.1 s) ≡ true = subst (λ y. is_eq (nat_cmp pair.1 y) ≡ true) two (number_self pair.1) in
        let both : is_eq (numbers_cmp pair (g, s)) ≡ true = equal_both (nat_cmp pair.0 g) (nat_cmp pair.1 s) first second in
        absurd (cc)

-- pairs that are met
pub meets_none : (P : Relation) → ((g s : ℕ) → P g s → ⊥) → (xs : List StatePair) → Meets P xs xs
meets_none P none xs = record { more = []; extends = sym (append-nil xs); there = λ g s is. absurd (none g s is); back = λ g s there. inl there }

pub meets_there : (P : Relation) → (xs : List StatePair) → ((g s : ℕ) → P g s → IsIn xs g s) → Meets P xs xs
meets_there P xs all = record { more = []; extends = sym (append-nil xs); there = all; back = λ g s there. inl there }

pub this_there : (pair : ℕ × ℕ) (xs : List StatePair) → IsIn xs pair.0 pair.1 → Meets (IsThis pair) xs xs
this_there pair xs inside = meets_there (IsThis pair) xs (λ g s at. subst (Contains xs) (λ i. pair_of (sym at.0 i, sym at.1 i)) inside)

pub meets_one : (pair : ℕ × ℕ) (xs ys : List StatePair) → ys ≡ xs ++ pair_of pair ∷ [] → Meets (IsThis pair) xs ys
meets_one pair xs ys is = record {
  more = pair_of pair ∷ [];
  extends = is;
  there = λ g s at. subst (λ (zs : List StatePair). IsIn zs g s) (sym is) (subst (Contains (xs ++ pair_of pair ∷ [])) (λ i. pair_of (sym at.0 i, sym at.1 i)) (Contains-push xs (pair_of pair)));
  back = λ g s there. back g s (Contains-push_cases xs (pair_of pair) (pair_of (g, s)) (subst (λ (zs : List StatePair). IsIn zs g s) is there));
}
  where
    back : (g s : ℕ) → Contains xs (pair_of (g, s)) ⊎ (pair_of pair ≡ pair_of (g, s)) → IsIn xs g s ⊎ IsThis pair g s
    back g s (inl there) = inl there
    back g s (inr same) = inr (sym (ap (λ (p : StatePair). p.general.0) same), sym (ap (λ (p : StatePair). p.special.0) same))

kept_in : (P : Relation) (xs ys : List StatePair) → Meets P xs ys → (g s : ℕ) → IsIn xs g s → IsIn ys g s
kept_in P xs ys it g s there = subst (λ (zs : List StatePair). IsIn zs g s) (sym it.extends) (Contains-append_left xs it.more (pair_of (g, s)) there)

pub meets_then : (P Q : Relation) (xs ys zs : List StatePair) → Meets P xs ys → Meets Q ys zs → Meets (λ g s. P g s ⊎ Q g s) xs zs
meets_then P Q xs ys zs one two = record {
  more = one.more ++ two.more;
  extends = two.extends ∙ (ap (λ (us : List StatePair). us ++ two.more) one.extends ∙ append_assoc xs one.more two.more);
  there = there;
  back = λ g s inside. first g s (two.back g s inside);
}
  where
    there : (g s : ℕ) → P g s ⊎ Q g s → IsIn zs g s
    there g s (inl is) = kept_in Q ys zs two g s (one.there g s is)
    there g s (inr is) = two.there g s is

    second : (g s : ℕ) → IsIn xs g s ⊎ P g s → IsIn xs g s ⊎ (P g s ⊎ Q g s)
    second g s (inl inside) = inl inside
    second g s (inr is) = inr (inl is)

    first : (g s : ℕ) → IsIn ys g s ⊎ Q g s → IsIn xs g s ⊎ (P g s ⊎ Q g s)
    first g s (inl inside) = second g s (one.back g s inside)
    first g s (inr is) = inr (inr is)

pub meets_as : (P Q : Relation) → ((g s : ℕ) → P g s → Q g s) → ((g s : ℕ) → Q g s → P g s) → (xs ys : List StatePair) → Meets P xs ys → Meets Q xs ys
meets_as P Q to from xs ys it = record { more = it.more; extends = it.extends; there = λ g s is. it.there g s (from g s is); back = λ g s inside. back g s (it.back g s inside) }
  where
    back : (g s : ℕ) → IsIn xs g s ⊎ P g s → IsIn xs g s ⊎ Q g s
    back g s (inl inside) = inl inside
    back g s (inr is) = inr (to g s is)

-- those of a list that are alike, one after another
module _ (a b : Automaton) where
  pub alike_none : (xs : List StatePair) → Meets (IsAlikeIn a b []) xs xs
  alike_none xs = meets_none (IsAlikeIn a b []) (λ g s is. nothing (g, s) is.0) xs

  pub this_alike : (pair : ℕ × ℕ) (xs ys : List StatePair) → AreAlike a b pair.0 pair.1 → Meets (IsThis pair) xs ys → Meets (IsThisAlike a b pair) xs ys
  this_alike pair xs ys alike it = meets_as (IsThis pair) (IsThisAlike a b pair) to (λ g s is. is.0) xs ys it
    where
      to : (g s : ℕ) → IsThis pair g s → IsThisAlike a b pair g s
      to g s is = let P : ℕ × ℕ → Type 0 = λ p. IsThisAlike a b pair p.0 p.1 in let here : P pair = ((refl, refl), alike) in subst P (λ i. (sym is.0 i, sym is.1 i)) here

  pub this_unlike : (pair : ℕ × ℕ) (xs : List StatePair) → (AreAlike a b pair.0 pair.1 → ⊥) → Meets (IsThisAlike a b pair) xs xs
  this_unlike pair xs unlike = meets_none (IsThisAlike a b pair) (λ g s is. let P : ℕ × ℕ → Type 0 = λ p. AreAlike a b p.0 p.1 in unlike (subst P (λ i. (is.0.0 i, is.0.1 i)) is.1)) xs

  pub alike_more : (pairs : Pairs) (pair : ℕ × ℕ) (xs ys zs : List StatePair) → Meets (IsAlikeIn a b pairs) xs ys → Meets (IsThisAlike a b pair) ys zs → Meets (IsAlikeIn a b (pairs ++ pair ∷ [])) xs zs
  alike_more pairs pair xs ys zs one two = meets_as (λ g s. IsAlikeIn a b pairs g s ⊎ IsThisAlike a b pair g s) (IsAlikeIn a b (pairs ++ pair ∷ [])) to from xs zs (meets_then (IsAlikeIn a b pairs) (IsThisAlike a b pair) xs ys zs one two)
    where
      to : (g s : ℕ) → IsAlikeIn a b pairs g s ⊎ IsThisAlike a b pair g s → IsAlikeIn a b (pairs ++ pair ∷ []) g s
      to g s (inl is) = (Contains-append_left pairs (pair ∷ []) (g, s) is.0, is.1)
      to g s (inr is) = (subst (Contains (pairs ++ pair ∷ [])) (λ i. (sym is.0.0 i, sym is.0.1 i)) (Contains-push pairs pair), is.1)

      back : (g s : ℕ) → AreAlike a b g s → Contains pairs (g, s) ⊎ (pair ≡ (g, s)) → IsAlikeIn a b pairs g s ⊎ IsThisAlike a b pair g s
      back g s is (inl there) = inl (there, is)
      back g s is (inr same) = inr ((ap (λ (p : ℕ × ℕ). p.0) (sym same), ap (λ (p : ℕ × ℕ). p.1) (sym same)), is)

      from : (g s : ℕ) → IsAlikeIn a b (pairs ++ pair ∷ []) g s → IsAlikeIn a b pairs g s ⊎ IsThisAlike a b pair g s
      from g s is = back g s is.1 (Contains-push_cases pairs pair (g, s) is.0)

-- place by place
module _ (general special : Scheme) where
  abbrev a : Automaton
  a = general.automaton

  abbrev b : Automaton
  b = special.automaton

  pub meeting_start : (ends : Pairs) (pairs : List StatePair) → ((g s : ℕ) → Contains ends (g, s) ↔ IsEnd general special g s) → Meets (IsAlikeIn a b ends) [] pairs → AreMeeting general special pairs 0
  meeting_start ends pairs are it = record {
    ends = λ g s is alike. it.there g s ((are g s).1 is, alike);
    behind = λ k h t g s low. absurd (omega (arith, low));
    back = λ g s inside. back g s (it.back g s inside);
  }
    where
      back : (g s : ℕ) → IsIn [] g s ⊎ IsAlikeIn a b ends g s → IsMet general special g s
      back g s (inl none) = absurd (nothing (pair_of (g, s)) none)
      back g s (inr is) = end ((are g s).0 is.0) is.1

  pub meeting_more : (pairs new : List StatePair) (place : ℕ) (pair : StatePair) (named : Pairs) → place < length pairs → ((d : StatePair) → get_or pairs place d ≡ pair) → AreMeeting general special pairs place
      → Lists (IsOfHeads (head_at a pair.general.0) (head_at b pair.special.0)) [] named
      → Meets (IsAlikeIn a b named) pairs new → AreMeeting general special new (place + 1)
  meeting_more pairs new place pair named low at_place it are meets = record {
    ends = λ g s is alike. kept g s (it.ends g s is alike);
    behind = λ k h t g s below inside at heads alike. next k h t g s at heads alike (below_or_more k place) below;
    back = λ g s inside. back g s (meets.back g s inside);
  }
    where
      kept : (g s : ℕ) → IsIn pairs g s → IsIn new g s
      kept = kept_in (IsAlikeIn a b named) pairs new meets

      old_at : (k h t : ℕ) → k < length pairs → get_or new k (pair_of (h, t)) ≡ pair_of (h, t) → get_or pairs k (pair_of (h, t)) ≡ pair_of (h, t)
      old_at k h t inside at = sym (get_or_append_left pairs meets.more (pair_of (h, t)) k inside) ∙ (ap (λ (ps : List StatePair). get_or ps k (pair_of (h, t))) (sym meets.extends) ∙ at)

      next : (k h t g s : ℕ) → get_or new k (pair_of (h, t)) ≡ pair_of (h, t) → IsOfHeads (head_at a h) (head_at b t) g s → AreAlike a b g s
          → (k < place) ⊎ ((d : ℕ) × (k ≡ place + d)) → k < place + 1 → IsIn new g s
      next k h t g s at heads alike (inl less) below =
          let inside : k < length pairs = omega (arith, less, low) in
          kept g s (it.behind k h t g s less inside (old_at k h t inside at) heads alike)
      next k h t g s at heads alike (inr (d, is)) below =
          let same : k ≡ place = omega (arith, is, below) in
          let here : get_or pairs place (pair_of (h, t)) ≡ pair_of (h, t) = old_at place h t low (subst (λ i. get_or new i (pair_of (h, t)) ≡ pair_of (h, t)) same at) in
          let same' : pair ≡ pair_of (h, t) = sym (at_place (pair_of (h, t))) ∙ here in
          let heads' : IsOfHeads (head_at a pair.general.0) (head_at b pair.special.0) g s = subst (λ (q : StatePair). IsOfHeads (head_at a q.general.0) (head_at b q.special.0) g s) (sym same') heads in
          meets.there g s ((are g s).1 (inr heads'), alike)

      back : (g s : ℕ) → IsIn pairs g s ⊎ IsAlikeIn a b named g s → IsMet general special g s
      back g s (inl inside) = it.back g s inside
      back g s (inr is) = from g s is.1 ((are g s).0 is.0)
        where
          from : (g s : ℕ) → AreAlike a b g s → Contains no_pairs (g, s) ⊎ IsOfHeads (head_at a pair.general.0) (head_at b pair.special.0) g s → IsMet general special g s
          from g s alike (inl none) = absurd (nothing (g, s) none)
          from g s alike (inr heads) = behind pair.general.0 pair.special.0 (it.back pair.general.0 pair.special.0 (place, low, at_place pair)) heads alike

  pub met_all : (pairs : List StatePair) (place : ℕ) → length pairs ≤ place → AreMeeting general special pairs place → AreMet general special pairs
  met_all pairs place over it g s = (it.back g s, all g s)
    where
      all : (g s : ℕ) → IsMet general special g s → IsIn pairs g s
      all g s (end is alike) = it.ends g s is alike
      all g s (behind h t before heads alike) =
          let inside : IsIn pairs h t = all h t before in
          let low : inside.0 < length pairs = inside.1 in
          it.behind inside.0 h t g s (omega (arith, low, over)) low inside.2 heads alike

  alike_of : (g s : ℕ) → IsMet general special g s → AreAlike a b g s
  alike_of g s (end is alike) = alike
  alike_of g s (behind h t before heads alike) = alike

  pub met_alike : (pairs : List StatePair) (place : ℕ) → AreMeeting general special pairs place → All (IsPairAlike a b) pairs
  met_alike pairs place it k d low =
      let p : StatePair = get_or pairs k d in
      alike_of p.general.0 p.special.0 (it.back p.general.0 p.special.0 (k, low, get_or_default pairs k p d low))
