-- The root of the part of each node, and the parts that are gathered by it.
--     gives_none, gives_then, gives_as        what is given by nothing, by one after another, and in other words
--     given_none, given_parts, given_make     the parts of a record
--     settled_start, settled_more, settled_all
--                                             from the last node on, each node gives its parts their owner
--     split_none, split_more                  the nodes of each part, one after another
--     named_none, named_more                  the lets of which parts are the first ones
--     own_child, first_child                  the parts of a node are its children
--     one_owner                               a node belongs to one part
--     root_low, node_low                      where the nodes of a part stand
--     term_parts                              so all parts are found
use Rattle.std.proofs.Common.{◌≡◌, ◌⊎◌, inl, inr, ℕ, suc, ◌+◌, ◌<◌, ◌≤◌, Bool, true, false, cond, List, [], ◌∷◌, ◌++◌, map, length, get_or, refl, sym, ◌∙◌, subst, arith, Contains, Option, Some, None}
use Rattle.std.specs.Prelude.{IsSome, option_map}
use Rattle.std.specs.BTreeMap.{BTreeMap, get}
use Rattle.std.specs.Ordering.{nat_cmp, is_eq}
use Rattle.std.proofs.lemmas.List.{map-append}
use Rattle.std.proofs.lemmas.List.Elements.{Contains-get_or, Contains-append_left, Contains-push, Contains-push_cases}
use Rattle.mls_book.proofs.LongerBooks.{below_or_more}
use Rattle.mls_automaton.specs.Sets.{Rises}
use Rattle.mls_automaton.proofs.KeptNumbers.{rises-push}
use Rattle.mls_term.specs.declared.term.Part.{Part}
use Rattle.mls_term.specs.declared.term.TermForm.{TermForm}
use Rattle.mls_term.specs.declared.term.TermForm.TheVariants as form
use Rattle.mls_term.specs.declared.term.TermNode.{TermNode}
use Rattle.mls_typing.proofs.Lists.{Contains-here, Contains-later, Contains-cases, nothing_in}
use Rattle.mls_deriv.specs.Steps.{form_at}
use Rattle.mls_parts.specs.declared.split.TermPart.{TermPart}
use Rattle.mls_parts.specs.NodeTypes.{IsNodeOf, at_top, in_part, IsOwnPart}
use Rattle.mls_parts.specs.TermParts.{AreTermParts, IsFirstPart, IsPartRoot, IsTermPart}
use Rattle.mls_parts.specs.TreeNodes.{AreTreeNodes, children_of}
use Rattle.mls_parts.specs.steps.Owners.{AreOwners, AreSettled, Gives, IsCalled, IsChildOf, IsNamed, IsNamedAt, IsOne, IsOwner, IsPart, IsPiece, IsSettled, IsSplit, IsSplitAt, with_form, with_let, with_node}
use Rattle.mls_layout.proofs.KeySets.{number_same, number_self}
use Rattle.mls_parts.proofs.TreeNodes.{form_low, one_form}

pub gives_none : (P : ℕ → ℕ → Type 0) → ((j r : ℕ) → P j r → ⊥) → (xs : List ℕ) → Gives P xs xs
gives_none P none xs = record { same_length = refl; each = λ j. inl refl; given = λ j r low is. absurd (none j r is) }

pub gives_then : (P Q : ℕ → ℕ → Type 0) (xs ys zs : List ℕ) → Gives P xs ys → Gives Q ys zs → Gives (λ j r. P j r ⊎ Q j r) xs zs
gives_then P Q xs ys zs one two = record {
  same_length = two.same_length ∙ one.same_length;
  each = λ j. each j (two.each j) (one.each j);
  given = λ j r low is. given j low (two.each j) is;
}
  where
    each : (j : ℕ) → (get_or zs j 0 ≡ get_or ys j 0) ⊎ Q j (get_or zs j 0) → (get_or ys j 0 ≡ get_or xs j 0) ⊎ P j (get_or ys j 0) → (get_or zs j 0 ≡ get_or xs j 0) ⊎ (P j (get_or zs j 0) ⊎ Q j (get_or zs j 0))
    each j (inl same) (inl also) = inl (same ∙ also)
    each j (inl same) (inr is) = inr (inl (subst (P j) (sym same) is))
    each j (inr is) old = inr (inr is)

    given : (j : ℕ) {r : ℕ} → j < length xs → (get_or zs j 0 ≡ get_or ys j 0) ⊎ Q j (get_or zs j 0) → P j r ⊎ Q j r → P j (get_or zs j 0) ⊎ Q j (get_or zs j 0)
    given j {r} low (inr is) was = inr is
    given j {r} low (inl same) (inl was) = inl (subst (P j) (sym same) (one.given j r low was))
    given j {r} low (inl same) (inr was) = inr (two.given j r (let long : length ys ≡ length xs = one.same_length in omega (arith, low)) was)

pub gives_as : (P Q : ℕ → ℕ → Type 0) → ((j r : ℕ) → P j r → Q j r) → ((j r : ℕ) → Q j r → P j r) → (xs ys : List ℕ) → Gives P xs ys → Gives Q xs ys
gives_as P Q to from xs ys it = record {
  same_length = it.same_length;
  each = λ j. each j (it.each j);
  given = λ j r low is. to j (get_or ys j 0) (it.given j r low (from j r is));
}
  where
    each : (j : ℕ) → (get_or ys j 0 ≡ get_or xs j 0) ⊎ P j (get_or ys j 0) → (get_or ys j 0 ≡ get_or xs j 0) ⊎ Q j (get_or ys j 0)
    each j (inl same) = inl same
    each j (inr is) = inr (to j (get_or ys j 0) is)

abbrev child : Part → ℕ
child part = part.child

pub given_none : (root : ℕ) (xs : List ℕ) → Gives (IsPart [] root) xs xs
given_none root xs = gives_none (IsPart [] root) (λ j r is. nothing_in j is.0) xs

pub given_parts : (parts : List Part) (part : Part) (root : ℕ) (xs ys zs : List ℕ) → Gives (IsPart parts root) xs ys → Gives (IsOne part.child root) ys zs → Gives (IsPart (parts ++ part ∷ []) root) xs zs
given_parts parts part root xs ys zs one two =
    gives_as (λ j r. IsPart parts root j r ⊎ IsOne part.child root j r) (IsPart (parts ++ part ∷ []) root) to from xs zs (gives_then (IsPart parts root) (IsOne part.child root) xs ys zs one two)
  where
    same : map child (parts ++ part ∷ []) ≡ map child parts ++ part.child ∷ []
    same = map-append child parts (part ∷ [])

    to : (j r : ℕ) → IsPart parts root j r ⊎ IsOne part.child root j r → IsPart (parts ++ part ∷ []) root j r
    to j r (inl is) = (subst (λ (js : List ℕ). Contains js j) (sym same) (Contains-append_left (map child parts) (part.child ∷ []) j is.0), is.1)
    to j r (inr is) = (subst (λ (js : List ℕ). Contains js j) (sym same) (subst (Contains (map child parts ++ part.child ∷ [])) (sym is.0) (Contains-push (map child parts) part.child)), is.1)

    back : (j r : ℕ) → r ≡ root → Contains (map child parts) j ⊎ (part.child ≡ j) → IsPart parts root j r ⊎ IsOne part.child root j r
    back j r is (inl there) = inl (there, is)
    back j r is (inr last) = inr (sym last, is)

    from : (j r : ℕ) → IsPart (parts ++ part ∷ []) root j r → IsPart parts root j r ⊎ IsOne part.child root j r
    from j r is = back j r is.1 (Contains-push_cases (map child parts) part.child j (subst (λ (js : List ℕ). Contains js j) same is.0))

module _ (root : ℕ) (xs : List ℕ) where
  pub given_make : (parts : List Part) (ys : List ℕ) → Gives (IsPart parts root) xs ys → Gives (IsChildOf (form.Make parts) root) xs ys
  given_make parts ys it = gives_as (IsPart parts root) (IsChildOf (form.Make parts) root) (λ j r is. inl (part_there parts j is.0, is.1)) from xs ys it
    where
      part_there : (ps : List Part) (j : ℕ) → Contains (map child ps) j → (part : Part) × Contains ps part × (j ≡ part.child)
      part_there [] j there = absurd (nothing_in j there)
      part_there (p ∷ ps) j there = elim (Contains-cases p.child (map child ps) j there) [
        | inl same ↦ (p, Contains-here p ps, sym same)
        | inr later ↦ (let found = part_there ps j later in (found.0, Contains-later p ps found.0 found.1, found.2))
      ]

      child_there : (ps : List Part) (part : Part) → Contains ps part → Contains (map child ps) part.child
      child_there [] part there = absurd (nothing_in part there)
      child_there (p ∷ ps) part there = elim (Contains-cases p ps part there) [
        | inl same ↦ subst (λ (q : Part). Contains (map child (p ∷ ps)) q.child) same (Contains-here p.child (map child ps))
        | inr later ↦ Contains-later p.child (map child ps) part.child (child_there ps part later)
      ]

      from : (j r : ℕ) → IsChildOf (form.Make parts) root j r → IsPart parts root j r
      from j r (inl is) = (subst (Contains (map child parts)) (sym is.0.2) (child_there parts is.0.0 is.0.1), is.1)
      from j r (inr is) = absurd (is.0)

-- a part of the node, and the first part of a let, are children of it
abbrev AsChild : TermForm → ℕ → Type 0
AsChild f j = IsOwnPart f j ⊎ IsFirstPart f j

one_in : (j i : ℕ) → Contains (j ∷ []) i → i ≡ j
one_in j i there = elim (Contains-cases j [] i there) [ inl same ↦ sym same | inr later ↦ absurd (nothing_in i later) ]

two_in : (j k i : ℕ) → Contains (j ∷ k ∷ []) i → (i ≡ j) ⊎ (i ≡ k)
two_in j k i there = elim (Contains-cases j (k ∷ []) i there) [ inl same ↦ inl (sym same) | inr later ↦ inr (one_in k i later) ]

child_kind : (f : TermForm) (j : ℕ) → Contains (children_of f) j → AsChild f j
child_kind (form.Bound x) j there = absurd (nothing_in j there)
child_kind (form.Inner k) j there = absurd (nothing_in j there)
child_kind (form.Global g) j there = absurd (nothing_in j there)
child_kind (form.Number value) j there = absurd (nothing_in j there)
child_kind (form.Truth value) j there = absurd (nothing_in j there)
child_kind (form.Fun x e) j there = inl (one_in e j there)
child_kind (form.Rec x e) j there = inl (one_in e j there)
child_kind (form.Project e label) j there = inl (one_in e j there)
child_kind (form.Apply e e') j there = inl (two_in e e' j there)
child_kind (form.Make parts) j there = inl (find parts there)
  where
    find : (ps : List Part) → Contains (map child ps) j → (part : Part) × Contains ps part × (j ≡ part.child)
    find [] there = absurd (nothing_in j there)
    find (p ∷ ps) there = elim (Contains-cases p.child (map child ps) j there) [
      | inl same ↦ (p, Contains-here p ps, sym same)
      | inr later ↦ (let found = find ps later in (found.0, Contains-later p ps found.0 found.1, found.2))
    ]
child_kind (form.If c e e') j there = elim (Contains-cases c (e ∷ e' ∷ []) j there) [ inl same ↦ inl (inl (sym same)) | inr later ↦ inl (inr (two_in e e' j later)) ]
child_kind (form.Let k e e') j there = elim (two_in e e' j there) [ inl same ↦ inr same | inr same ↦ inl same ]

pub own_child : (f : TermForm) (j : ℕ) → IsOwnPart f j → Contains (children_of f) j
own_child (form.Bound x) j is = absurd (is)
own_child (form.Inner k) j is = absurd (is)
own_child (form.Global g) j is = absurd (is)
own_child (form.Number value) j is = absurd (is)
own_child (form.Truth value) j is = absurd (is)
own_child (form.Fun x e) j is = subst (Contains (e ∷ [])) (sym is) (Contains-here e [])
own_child (form.Rec x e) j is = subst (Contains (e ∷ [])) (sym is) (Contains-here e [])
own_child (form.Project e label) j is = subst (Contains (e ∷ [])) (sym is) (Contains-here e [])
own_child (form.Apply e e') j (inl is) = subst (Contains (e ∷ e' ∷ [])) (sym is) (Contains-here e (e' ∷ []))
own_child (form.Apply e e') j (inr is) = subst (Contains (e ∷ e' ∷ [])) (sym is) (Contains-later e (e' ∷ []) e' (Contains-here e' []))
own_child (form.Make parts) j is = subst (Contains (map child parts)) (sym is.2) (there parts is.0 is.1)
  where
    there : (ps : List Part) (part : Part) → Contains ps part → Contains (map child ps) part.child
    there [] part inside = absurd (nothing_in part inside)
    there (p ∷ ps) part inside = elim (Contains-cases p ps part inside) [
      | inl same ↦ subst (λ (q : Part). Contains (map child (p ∷ ps)) q.child) same (Contains-here p.child (map child ps))
      | inr later ↦ Contains-later p.child (map child ps) part.child (there ps part later)
    ]
own_child (form.If c e e') j (inl is) = subst (Contains (c ∷ e ∷ e' ∷ [])) (sym is) (Contains-here c (e ∷ e' ∷ []))
own_child (form.If c e e') j (inr (inl is)) = subst (Contains (c ∷ e ∷ e' ∷ [])) (sym is) (Contains-later c (e ∷ e' ∷ []) e (Contains-here e (e' ∷ [])))
own_child (form.If c e e') j (inr (inr is)) = subst (Contains (c ∷ e ∷ e' ∷ [])) (sym is) (Contains-later c (e ∷ e' ∷ []) e' (Contains-later e (e' ∷ []) e' (Contains-here e' [])))
own_child (form.Let k e e') j is = subst (Contains (e ∷ e' ∷ [])) (sym is) (Contains-later e (e' ∷ []) e' (Contains-here e' []))

pub first_child : (f : TermForm) (j : ℕ) → IsFirstPart f j → Contains (children_of f) j
first_child (form.Bound x) j is = absurd (is)
first_child (form.Inner k) j is = absurd (is)
first_child (form.Global g) j is = absurd (is)
first_child (form.Number value) j is = absurd (is)
first_child (form.Truth value) j is = absurd (is)
first_child (form.Fun x e) j is = absurd (is)
first_child (form.Rec x e) j is = absurd (is)
first_child (form.Project e label) j is = absurd (is)
first_child (form.Apply e e') j is = absurd (is)
first_child (form.Make parts) j is = absurd (is)
first_child (form.If c e e') j is = absurd (is)
first_child (form.Let k e e') j is = subst (Contains (e ∷ e' ∷ [])) (sym is) (Contains-here e (e' ∷ []))

module _ (nodes : List TermNode) where
  pub settled_start : (owners : List ℕ) → length owners ≡ length nodes → ((j : ℕ) → suc j ≡ length nodes → get_or owners j 0 ≡ j) → AreSettled nodes 0 owners
  settled_start owners many last = record { same_length = many; each = λ j is. start j is }
    where
      start : (j : ℕ) → IsSettled nodes 0 j → IsOwner nodes (get_or owners j 0) j
      start j (inl is) = subst (λ r. IsOwner nodes r j) (sym (last j is)) (record { root = inl is; node = at_top refl })
      start j (inr (i, f, wrong, e, there)) = absurd (omega (arith, wrong, form_low nodes i f e))

  module _ (tree : AreTreeNodes nodes) where
    -- each node that is next is settled
    next_settled : (back i : ℕ) → i + suc back ≡ length nodes → IsSettled nodes back i
    next_settled back i is = go (below_or_more (suc i) (length nodes))
      where
        go : (suc i < length nodes) ⊎ ((d : ℕ) × (suc i ≡ length nodes + d)) → IsSettled nodes back i
        go (inl less) = let up = tree.parent i less in inr (up.0, up.1, let above : i < up.0 = tree.below up.0 i up.1 up.2 up.3 in omega (arith, above, is), up.2, up.3)
        go (inr more) = let at : suc i ≡ length nodes + more.0 = more.1 in inl (omega (arith, at, is))

    pub settled_more : (back i : ℕ) (f : TermForm) (old new : List ℕ) → i + suc back ≡ length nodes → form_at nodes i ≡ Some f → AreSettled nodes back old
        → Gives (IsChildOf f (get_or old i 0)) old new → AreSettled nodes (back + 1) new
    settled_more back i f old new is e it gives = record { same_length = gives.same_length ∙ it.same_length; each = λ j settled. each j settled }
      where
        owner : IsOwner nodes (get_or old i 0) i
        owner = it.each i (next_settled back i is)

        given : (j r : ℕ) → IsChildOf f (get_or old i 0) j r → IsOwner nodes r j
        given j r (inl part) = subst (λ s. IsOwner nodes s j) (sym part.1) (record { root = owner.root; node = in_part i f owner.node e part.0 })
        given j r (inr first) = subst (λ s. IsOwner nodes s j) (sym first.1) (record { root = inr (i, f, e, first.0); node = at_top refl })

        kept : (j : ℕ) → IsSettled nodes back j → (get_or new j 0 ≡ get_or old j 0) ⊎ IsChildOf f (get_or old i 0) j (get_or new j 0) → IsOwner nodes (get_or new j 0) j
        kept j settled (inl same) = subst (λ r. IsOwner nodes r j) (sym same) (it.each j settled)
        kept j settled (inr child) = given j (get_or new j 0) child

        low : (k : ℕ) (g : TermForm) → form_at nodes k ≡ Some g → (j : ℕ) → Contains (children_of g) j → j < length old
        low k g e' j there = let less : j < k = tree.below k j g e' there in let inside : k < length nodes = form_low nodes k g e' in let many : length old ≡ length nodes = it.same_length in omega (arith, less, inside, many)

        child : (j : ℕ) → j < length old → AsChild f j → IsOwner nodes (get_or new j 0) j
        child j inside (inl part) = given j (get_or new j 0) (gives.given j (get_or old i 0) inside (inl (part, refl)))
        child j inside (inr first) = given j (get_or new j 0) (gives.given j j inside (inr (first, refl)))

        each : (j : ℕ) → IsSettled nodes (back + 1) j → IsOwner nodes (get_or new j 0) j
        each j (inl last) = kept j (inl last) (gives.each j)
        each j (inr (k, g, far, e', there)) = go (below_or_more k (suc i))
          where
            go : (k < suc i) ⊎ ((d : ℕ) × (k ≡ suc i + d)) → IsOwner nodes (get_or new j 0) j
            go (inl less) =
                let same : k ≡ i = omega (arith, less, far, is) in
                let shape : g ≡ f = one_form nodes i g f (subst (λ x. form_at nodes x ≡ Some g) same e') e in
                child j (low k g e' j there) (child_kind f j (subst (λ h. Contains (children_of h) j) shape there))
            go (inr more) = let at : k ≡ suc i + more.0 = more.1 in kept j (inr (k, g, omega (arith, at, is), e', there)) (gives.each j)

    pub settled_all : (owners : List ℕ) → AreSettled nodes (length nodes) owners → AreOwners nodes owners
    settled_all owners it = record { same_length = it.same_length; each = λ j low. it.each j (settled j low) }
      where
        settled : (j : ℕ) → j < length nodes → IsSettled nodes (length nodes) j
        settled j low = go (below_or_more (suc j) (length nodes))
          where
            go : (suc j < length nodes) ⊎ ((d : ℕ) × (suc j ≡ length nodes + d)) → IsSettled nodes (length nodes) j
            go (inl less) = let up = tree.parent j less in inr (up.0, up.1, omega arith, up.2, up.3)
            go (inr more) = let at : suc j ≡ length nodes + more.0 = more.1 in inl (omega (arith, at, low))

    -- a root of a part is no part of a node
    root_apart : (r i : ℕ) (f : TermForm) → IsPartRoot nodes r → form_at nodes i ≡ Some f → IsOwnPart f r → ⊥
    root_apart r i f (inl last) e part =
        let less : r < i = tree.below i r f e (own_child f r part) in
        let low : i < length nodes = form_low nodes i f e in
        let at : suc r ≡ length nodes = last in
        omega arith
    root_apart r i f (inr (k, g, e', first)) e part =
        let same : k ≡ i = tree.one k i r g f e' e (first_child g r first) (own_child f r part) in
        let shape : f ≡ g = one_form nodes i f g e (subst (λ x. form_at nodes x ≡ Some g) same e') in
        both f part (subst (λ h. IsFirstPart h r) (sym shape) first) e
      where
        both : (h : TermForm) → IsOwnPart h r → IsFirstPart h r → form_at nodes i ≡ Some h → ⊥
        both (form.Let n j l) own first at = let less : j < l = tree.apart i n j l at in let same : r ≡ j = first in let also : r ≡ l = own in omega arith
        both (form.Bound x) own first at = first
        both (form.Inner x) own first at = first
        both (form.Global x) own first at = first
        both (form.Number x) own first at = first
        both (form.Truth x) own first at = first
        both (form.Fun x y) own first at = first
        both (form.Rec x y) own first at = first
        both (form.Project x y) own first at = first
        both (form.Apply x y) own first at = first
        both (form.Make x) own first at = first
        both (form.If x y z) own first at = first

    -- a node belongs to one part
    pub one_owner : (r s j : ℕ) → IsPartRoot nodes r → IsPartRoot nodes s → IsNodeOf nodes r j → IsNodeOf nodes s j → r ≡ s
    one_owner r s j root root' (at_top same) (at_top also) = sym same ∙ also
    one_owner r s j root root' (at_top same) (in_part i f outer e part) = absurd (root_apart r i f root e (subst (IsOwnPart f) same part))
    one_owner r s j root root' (in_part i f outer e part) (at_top also) = absurd (root_apart s i f root' e (subst (IsOwnPart f) also part))
    one_owner r s j root root' (in_part i f outer e part) (in_part k g outer' e' part') =
        let same : i ≡ k = tree.one i k j f g e e' (own_child f j part) (own_child g j part') in
        one_owner r s i root root' outer (subst (IsNodeOf nodes s) (sym same) outer')

    -- the root of a part stands in the term, and so do all nodes of the part
    pub root_low : (r : ℕ) → IsPartRoot nodes r → r < length nodes
    root_low r (inl last) = omega (arith, last)
    root_low r (inr (i, f, e, first)) = let less : r < i = tree.below i r f e (first_child f r first) in let low : i < length nodes = form_low nodes i f e in omega (arith, less, low)

    pub node_low : (r j : ℕ) → IsPartRoot nodes r → IsNodeOf nodes r j → j ≤ r
    node_low r j root (at_top same) = omega (arith, same)
    node_low r j root (in_part i f outer e part) = let less : j < i = tree.below i j f e (own_child f j part) in let low : i ≤ r = node_low r i root outer in omega (arith, less, low)

    pub term_parts : (owners : List ℕ) (parts named : BTreeMap ℕ TermPart) → AreOwners nodes owners → IsSplit owners (length owners) (get nat_cmp parts)
        → IsNamed nodes (length nodes) (get nat_cmp parts) (get nat_cmp named) → AreTermParts nodes named
    term_parts owners parts named own split names = record {
      part = λ r part e. piece r part (get nat_cmp parts r) (get nat_cmp named r) (names r) (split r) e;
      there = λ r root. there r root (get nat_cmp parts r) (get nat_cmp named r) (names r) (split r);
    }
      where
        Owned : ℕ → ℕ → Type 0
        Owned r j = get_or owners j 0 ≡ r

        many : length owners ≡ length nodes
        many = own.same_length

        owned : (r j : ℕ) → IsPartRoot nodes r → IsNodeOf nodes r j → (j < length owners) × Owned r j
        owned r j root node =
            let up : j ≤ r = node_low r j root node in
            let low : r < length nodes = root_low r root in
            let inside : j < length nodes = omega (arith, up, low) in
            let owner : IsOwner nodes (get_or owners j 0) j = own.each j inside in
            (omega (arith, inside, many), one_owner (get_or owners j 0) r j owner.root root owner.node node)

        made : (r : ℕ) (old part : TermPart) → IsPiece owners (length owners) r old → IsCalled nodes (length nodes) r old part → IsPartRoot nodes r → IsTermPart nodes r part
        made r old part it called root = record {
          root = root;
          rises = subst Rises (sym called.same_nodes) it.rises;
          all = λ j node. let at = owned r j root node in subst (λ (js : List ℕ). Contains js j) (sym called.same_nodes) (it.all j at.0 at.1);
          only = λ j inside.
              let at = it.only j (subst (λ (js : List ℕ). Contains js j) called.same_nodes inside) in
              let low : j < length nodes = omega (arith, at.0, many) in
              (low, subst (λ s. IsNodeOf nodes s j) at.1 (own.each j low).node);
          of_let = called.of_let;
          of_none = λ none i k l e. called.of_none none i k l (form_low nodes i (form.Let k r l) e) e;
        }

        -- a part that is there has a node, so its root is one
        root_is : (r : ℕ) (old : TermPart) → IsPiece owners (length owners) r old → IsPartRoot nodes r
        root_is r old it = let at = it.only it.first it.there in subst (IsPartRoot nodes) at.1 (own.each it.first (omega (arith, at.0, many))).root

        piece : (r : ℕ) (part : TermPart) (o n : Option TermPart) → IsNamedAt nodes (length nodes) r o n → IsSplitAt owners (length owners) r o → n ≡ Some part → IsTermPart nodes r part
        piece r part None n none it e = absurd (cc)
        piece r part (Some old) None wrong it e = absurd wrong
        piece r part (Some old) (Some new) called it e =
            let same : new ≡ part = cc in
            subst (IsTermPart nodes r) same (made r old new it called (root_is r old it))

        there : (r : ℕ) → IsPartRoot nodes r → (o n : Option TermPart) → IsNamedAt nodes (length nodes) r o n → IsSplitAt owners (length owners) r o → IsSome n
        there r root None n none it = let at = owned r r root (at_top refl) in absurd (it r at.0 at.1)
        there r root (Some old) None wrong it = absurd wrong
        there r root (Some old) (Some new) called it = refl

-- the nodes of each part, one after another
pub split_none : (owners : List ℕ) (part_at : ℕ → Option TermPart) → ((r : ℕ) → part_at r ≡ None) → IsSplit owners 0 part_at
split_none owners part_at none r = subst (IsSplitAt owners 0 r) (sym (none r)) (λ j low. absurd (omega (arith, low)))

pub split_more : (owners : List ℕ) (m root : ℕ) (old new : ℕ → Option TermPart) → get_or owners m 0 ≡ root → IsSplit owners m old → ((r : ℕ) → new r ≡ with_node (is_eq (nat_cmp root r)) m (old r)) → IsSplit owners (m + 1) new
split_more owners m root old new is it grows r = subst (IsSplitAt owners (m + 1) r) (sym (grows r)) (go (is_eq (nat_cmp root r)) refl (old r) (it r))
  where
    Cases : ℕ → Type 0
    Cases j = (j < m) ⊎ (j ≡ m)

    cases : (j : ℕ) → j < m + 1 → Cases j
    cases j low = elim (below_or_more j m) [ inl less ↦ inl less | inr more ↦ inr (let at : j ≡ m + more.0 = more.1 in omega (arith, at, low)) ]

    -- a root that differs does not own the node
    other : is_eq (nat_cmp root r) ≡ false → get_or owners m 0 ≡ r → ⊥
    other e own = let yes : is_eq (nat_cmp root r) ≡ true = subst (λ s. is_eq (nat_cmp root s) ≡ true) (sym is ∙ own) (number_self root) in cc

    root_is : is_eq (nat_cmp root r) ≡ true → get_or owners m 0 ≡ r
    root_is e = is ∙ number_same root r e

    go : (b : Bool) → is_eq (nat_cmp root r) ≡ b → (o : Option TermPart) → IsSplitAt owners m r o → IsSplitAt owners (m + 1) r (with_node b m o)
    go false e None none = λ j low own. not_there j (cases j low) own
      where
        not_there : (j : ℕ) → Cases j → get_or owners j 0 ≡ r → ⊥
        not_there j (inl less) own = none j less own
        not_there j (inr same) own = other e (subst (λ k. get_or owners k 0 ≡ r) same own)
    go false e (Some part) piece = record {
      no_let = piece.no_let;
      first = piece.first;
      there = piece.there;
      rises = piece.rises;
      all = λ j low own. there j (cases j low) own;
      only = λ j inside. let at = piece.only j inside in (omega (arith, at.0), at.1);
    }
      where
        there : (j : ℕ) → Cases j → get_or owners j 0 ≡ r → Contains part.nodes j
        there j (inl less) own = piece.all j less own
        there j (inr same) own = absurd (other e (subst (λ k. get_or owners k 0 ≡ r) same own))
    go true e None none = record {
      no_let = refl;
      first = m;
      there = Contains-here m [];
      rises = λ i j before low. absurd (omega (arith, before, low));
      all = λ j low own. there j (cases j low) own;
      only = λ j inside. last j (Contains-cases m [] j inside);
    }
      where
        there : (j : ℕ) → Cases j → get_or owners j 0 ≡ r → Contains (m ∷ []) j
        there j (inl less) own = absurd (none j less own)
        there j (inr same) own = subst (Contains (m ∷ [])) (sym same) (Contains-here m [])

        last : (j : ℕ) → (m ≡ j) ⊎ Contains [] j → (j < m + 1) × (get_or owners j 0 ≡ r)
        last j (inl same) = (omega (arith, same), subst (λ k. get_or owners k 0 ≡ r) same (root_is e))
        last j (inr wrong) = absurd (nothing_in j wrong)
    go true e (Some part) piece = record {
      no_let = piece.no_let;
      first = m;
      there = Contains-push part.nodes m;
      rises = rises-push part.nodes m piece.rises (λ i low. (piece.only (get_or part.nodes i 0) (Contains-get_or part.nodes i 0 low)).0);
      all = λ j low own. there j (cases j low) own;
      only = λ j inside. where_is j (Contains-push_cases part.nodes m j inside);
    }
      where
        there : (j : ℕ) → Cases j → get_or owners j 0 ≡ r → Contains (part.nodes ++ m ∷ []) j
        there j (inl less) own = Contains-append_left part.nodes (m ∷ []) j (piece.all j less own)
        there j (inr same) own = subst (Contains (part.nodes ++ m ∷ [])) (sym same) (Contains-push part.nodes m)

        where_is : (j : ℕ) → Contains part.nodes j ⊎ (m ≡ j) → (j < m + 1) × (get_or owners j 0 ≡ r)
        where_is j (inl inside) = let at = piece.only j inside in (omega (arith, at.0), at.1)
        where_is j (inr same) = (omega (arith, same), subst (λ k. get_or owners k 0 ≡ r) same (root_is e))

-- the lets of which parts are the first ones, one node after another
pub named_none : (nodes : List TermNode) (part_at : ℕ → Option TermPart) → ((r : ℕ) (part : TermPart) → part_at r ≡ Some part → part.of_let ≡ None) → IsNamed nodes 0 part_at part_at
named_none nodes part_at no_let r = go (part_at r) (no_let r)
  where
    go : (o : Option TermPart) → ((part : TermPart) → o ≡ Some part → part.of_let ≡ None) → IsNamedAt nodes 0 r o o
    go None it = refl
    go (Some part) it = record {
      same_nodes = refl;
      of_let = λ k e. let none : None ≡ Some k = sym (it part refl) ∙ e in absurd (cc);
      of_none = λ none i k l low e. absurd (omega (arith, low));
    }

pub named_more : (nodes : List TermNode) (m : ℕ) (f : TermForm) (first old new : ℕ → Option TermPart) → form_at nodes m ≡ Some f → IsNamed nodes m first old → ((r : ℕ) → new r ≡ with_form f r (old r)) → IsNamed nodes (m + 1) first new
named_more nodes m f first old new e it grows r = subst (IsNamedAt nodes (m + 1) r (first r)) (sym (grows r)) (by_form f e (first r) (old r) (it r))
  where
    Cases : ℕ → Type 0
    Cases j = (j < m) ⊎ (j ≡ m)

    cases : (j : ℕ) → j < m + 1 → Cases j
    cases j low = elim (below_or_more j m) [ inl less ↦ inl less | inr more ↦ inr (let at : j ≡ m + more.0 = more.1 in omega (arith, at, low)) ]

    -- no let of which this is the first part
    kept : (g : TermForm) → form_at nodes m ≡ Some g → ((k l : ℕ) → g ≡ form.Let k r l → ⊥) → (o n : Option TermPart) → IsNamedAt nodes m r o n → IsNamedAt nodes (m + 1) r o n
    kept g is no_let None n named = named
    kept g is no_let (Some old) None wrong = wrong
    kept g is no_let (Some old) (Some new) named = record {
      same_nodes = named.same_nodes;
      of_let = named.of_let;
      of_none = λ none i k l low e. go i k l (cases i low) none e;
    }
      where
        go : (i k l : ℕ) → Cases i → new.of_let ≡ None → form_at nodes i ≡ Some (form.Let k r l) → ⊥
        go i k l (inl less) none e = named.of_none none i k l less e
        go i k l (inr same) none e =
            let here : form_at nodes m ≡ Some (form.Let k r l) = subst (λ j. form_at nodes j ≡ Some (form.Let k r l)) same e in
            let is' : Some g ≡ Some (form.Let k r l) = sym is ∙ here in
            no_let k l (let same : g ≡ form.Let k r l = cc in same)

    by_let : (k j l : ℕ) → form_at nodes m ≡ Some (form.Let k j l) → (b : Bool) → is_eq (nat_cmp j r) ≡ b → (o n : Option TermPart) → IsNamedAt nodes m r o n → IsNamedAt nodes (m + 1) r o (cond b (option_map (with_let k) n) n)
    by_let k j l is false differs o n named =
        kept (form.Let k j l) is
        (λ k' l' same.
        let at : j ≡ r = cc in
        let yes : is_eq (nat_cmp j r) ≡ true = subst (λ s. is_eq (nat_cmp j s) ≡ true) at (number_self j) in
        cc)
        o n named
    by_let k j l is true same_key None n named = subst (λ (p : Option TermPart). option_map (with_let k) p ≡ None) (sym named) refl
    by_let k j l is true same_key (Some old) None wrong = wrong
    by_let k j l is true same_key (Some old) (Some new) named = record {
      same_nodes = named.same_nodes;
      of_let = λ k' same. (m, l, let is' : k ≡ k' = cc in subst (λ n. form_at nodes m ≡ Some (form.Let n r l)) is' (subst (λ s. form_at nodes m ≡ Some (form.Let k s l)) (number_same j r same_key) is));
      of_none = λ none i k l low e. absurd (cc);
    }

    by_form : (g : TermForm) → form_at nodes m ≡ Some g → (o n : Option TermPart) → IsNamedAt nodes m r o n → IsNamedAt nodes (m + 1) r o (with_form g r n)
    by_form (form.Let k j l) is o n named = by_let k j l is (is_eq (nat_cmp j r)) refl o n named
    by_form (form.Bound x) is o n named = kept (form.Bound x) is (λ k l same. cc) o n named
    by_form (form.Inner x) is o n named = kept (form.Inner x) is (λ k l same. cc) o n named
    by_form (form.Global x) is o n named = kept (form.Global x) is (λ k l same. cc) o n named
    by_form (form.Number x) is o n named = kept (form.Number x) is (λ k l same. cc) o n named
    by_form (form.Truth x) is o n named = kept (form.Truth x) is (λ k l same. cc) o n named
    by_form (form.Fun x y) is o n named = kept (form.Fun x y) is (λ k l same. cc) o n named
    by_form (form.Rec x y) is o n named = kept (form.Rec x y) is (λ k l same. cc) o n named
    by_form (form.Project x y) is o n named = kept (form.Project x y) is (λ k l same. cc) o n named
    by_form (form.Apply x y) is o n named = kept (form.Apply x y) is (λ k l same. cc) o n named
    by_form (form.Make x) is o n named = kept (form.Make x) is (λ k l same. cc) o n named
    by_form (form.If x y z) is o n named = kept (form.If x y z) is (λ k l same. cc) o n named
