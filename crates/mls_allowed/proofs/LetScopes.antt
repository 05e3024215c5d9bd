-- The binders around each let of a term: there are such scopes, since no two lets have one number.
--     scopes_of               each let of a tree with the binders around it
--     let_scope_of            the binders around the let of a number
--     have_scopes             so each let of a term has its scope
use Rattle.std.proofs.Common.{◌≡◌, ◌≢◌, inl, inr, ℕ, ◌==◌, ◌<◌, ◌⊎◌, true, false, List, [], ◌∷◌, ◌++◌, map, refl, sym, ap, ◌∙◌, subst, arith, Contains}
use Rattle.std.specs.Prelude.{cond}
use Rattle.std.proofs.lemmas.Bool.Decides.{eqb_tells}
use Rattle.std.proofs.lemmas.List.Elements.{Contains-append_left, Contains-append_right}
use Rattle.mls_automaton.proofs.Lists.{Contains-cases, Contains-here, Contains-later, Contains-map}
use Rattle.mls_term.specs.declared.term.TermNode.{TermNode}
use Rattle.mls_term.specs.Terms.{TermTree, TermFields, bound, inner, global, number, truth, fun, apply, make, project, choice, local, fix, no_field, a_field}
use Rattle.mls_term.specs.WellFormed.{IsTerm, lets_of, field_lets_of}
use Rattle.mls_allowed.specs.LetScopes.{HasScopes, HaveScopes}
use Rattle.mls_allowed.proofs.DistinctLists.{AreDistinct, distinct_first, distinct_rest}

-- each let of a tree, with the binders around it, of which those of the scope are around the tree
abbrev mutual
  pub scopes_of : List ℕ → TermTree → List (ℕ × List ℕ)
  scopes_of scope (bound at x) = []
  scopes_of scope (inner at k) = []
  scopes_of scope (global at g) = []
  scopes_of scope (number at value) = []
  scopes_of scope (truth at value) = []
  scopes_of scope (fun at x e) = scopes_of (scope ++ x ∷ []) e
  scopes_of scope (apply at e f) = scopes_of scope e ++ scopes_of scope f
  scopes_of scope (make at fields) = field_scopes_of scope fields
  scopes_of scope (project at e label) = scopes_of scope e
  scopes_of scope (choice at c e f) = scopes_of scope c ++ scopes_of scope e ++ scopes_of scope f
  scopes_of scope (local at k e f) = (k, scope) ∷ (scopes_of scope e ++ scopes_of scope f)
  scopes_of scope (fix at x e) = scopes_of (scope ++ x ∷ []) e

  pub field_scopes_of : List ℕ → TermFields → List (ℕ × List ℕ)
  field_scopes_of scope no_field = []
  field_scopes_of scope (a_field label e rest) = scopes_of scope e ++ field_scopes_of scope rest

-- the numbers of a list of scopes, and the scope of a number
abbrev numbers : List (ℕ × List ℕ) → List ℕ
numbers scopes = map (λ (p : ℕ × List ℕ). p.0) scopes

abbrev pub scope_in : List (ℕ × List ℕ) → ℕ → List ℕ
scope_in [] k = []
scope_in (p ∷ rest) k = cond (p.0 == k) p.1 (scope_in rest k)

numbers-append : (xs ys : List (ℕ × List ℕ)) → numbers (xs ++ ys) ≡ numbers xs ++ numbers ys
numbers-append [] ys = refl
numbers-append (x ∷ xs) ys = ap (λ (zs : List ℕ). x.0 ∷ zs) (numbers-append xs ys)

numbers-both : (xs ys : List (ℕ × List ℕ)) (ms ns : List ℕ) → numbers xs ≡ ms → numbers ys ≡ ns → numbers (xs ++ ys) ≡ ms ++ ns
numbers-both xs ys ms ns left right = numbers-append xs ys ∙ (λ i. left i ++ right i)

-- the numbers are those of the lets
mutual
  numbers_are : (t : TermTree) (scope : List ℕ) → numbers (scopes_of scope t) ≡ lets_of t
  numbers_are (bound at x) scope = refl
  numbers_are (inner at k) scope = refl
  numbers_are (global at g) scope = refl
  numbers_are (number at value) scope = refl
  numbers_are (truth at value) scope = refl
  numbers_are (fun at x e) scope = numbers_are e (scope ++ x ∷ [])
  numbers_are (fix at x e) scope = numbers_are e (scope ++ x ∷ [])
  numbers_are (project at e label) scope = numbers_are e scope
  numbers_are (apply at e f) scope = numbers-both (scopes_of scope e) (scopes_of scope f) (lets_of e) (lets_of f) (numbers_are e scope) (numbers_are f scope)
  numbers_are (make at fields) scope = field_numbers_are fields scope
  numbers_are (choice at c e f) scope =
      numbers-both (scopes_of scope c ++ scopes_of scope e) (scopes_of scope f) (lets_of c ++ lets_of e) (lets_of f)
      (numbers-both (scopes_of scope c) (scopes_of scope e) (lets_of c) (lets_of e) (numbers_are c scope) (numbers_are e scope))
      (numbers_are f scope)
  numbers_are (local at k e f) scope = ap (λ (zs : List ℕ). k ∷ zs) (numbers-both (scopes_of scope e) (scopes_of scope f) (lets_of e) (lets_of f) (numbers_are e scope) (numbers_are f scope))

  field_numbers_are : (fields : TermFields) (scope : List ℕ) → numbers (field_scopes_of scope fields) ≡ field_lets_of fields
  field_numbers_are no_field scope = refl
  field_numbers_are (a_field label e rest) scope = numbers-both (scopes_of scope e) (field_scopes_of scope rest) (lets_of e) (field_lets_of rest) (numbers_are e scope) (field_numbers_are rest scope)

-- where no number stands twice, a member is found
found : (scopes : List (ℕ × List ℕ)) → AreDistinct (numbers scopes) → (p : ℕ × List ℕ) → Contains scopes p → scope_in scopes p.0 ≡ p.1
found [] distinct p there = absurd (let low : there.0 < 0 = there.1 in omega arith)
found (q ∷ rest) distinct p there =
    elim (Contains-cases q rest p there) [
      | inl same ↦ here (eqb_tells q.0 p.0) same
      | inr later ↦ after (eqb_tells q.0 p.0) later (found rest (distinct_rest q.0 (numbers rest) distinct) p later)
    ]
  where
    here : (((q.0 == p.0) ≡ true) × (q.0 ≡ p.0)) ⊎ (((q.0 == p.0) ≡ false) × (q.0 ≢ p.0)) → q ≡ p → scope_in (q ∷ rest) p.0 ≡ p.1
    here (inl is_one) same = ap (λ b. cond b q.1 (scope_in rest p.0)) is_one.0 ∙ ap (λ (r : ℕ × List ℕ). r.1) same
    here (inr other) same = absurd (other.1 (ap (λ (r : ℕ × List ℕ). r.0) same))

    after : (((q.0 == p.0) ≡ true) × (q.0 ≡ p.0)) ⊎ (((q.0 == p.0) ≡ false) × (q.0 ≢ p.0)) → Contains rest p → scope_in rest p.0 ≡ p.1 → scope_in (q ∷ rest) p.0 ≡ p.1
    after (inl is_one) later next =
        let inside : Contains (numbers rest) p.0 = Contains-map (λ (r : ℕ × List ℕ). r.0) rest p later in
        absurd (distinct_first q.0 (numbers rest) distinct (subst (Contains (numbers rest)) (sym is_one.1) inside))
    after (inr other) later next = ap (λ b. cond b q.1 (scope_in rest p.0)) other.0 ∙ next

-- lets that have their scopes
module _ (let_scope : ℕ → List ℕ) where
  abbrev AreTheirs : List (ℕ × List ℕ) → Type 0
  AreTheirs scopes = (p : ℕ × List ℕ) → Contains scopes p → let_scope p.0 ≡ p.1

  theirs_left : (xs ys : List (ℕ × List ℕ)) → AreTheirs (xs ++ ys) → AreTheirs xs
  theirs_left xs ys all p there = all p (Contains-append_left xs ys p there)

  theirs_right : (xs ys : List (ℕ × List ℕ)) → AreTheirs (xs ++ ys) → AreTheirs ys
  theirs_right xs ys all p there = all p (Contains-append_right xs ys p there)

  mutual
    has_scopes : (t : TermTree) (scope : List ℕ) → AreTheirs (scopes_of scope t) → HasScopes let_scope scope t
    has_scopes (bound at x) scope all = tt
    has_scopes (inner at k) scope all = tt
    has_scopes (global at g) scope all = tt
    has_scopes (number at value) scope all = tt
    has_scopes (truth at value) scope all = tt
    has_scopes (fun at x e) scope all = has_scopes e (scope ++ x ∷ []) all
    has_scopes (fix at x e) scope all = has_scopes e (scope ++ x ∷ []) all
    has_scopes (project at e label) scope all = has_scopes e scope all
    has_scopes (apply at e f) scope all = (
      has_scopes e scope (theirs_left (scopes_of scope e) (scopes_of scope f) all),
      has_scopes f scope (theirs_right (scopes_of scope e) (scopes_of scope f) all),
    )
    has_scopes (make at fields) scope all = have_field_scopes fields scope all
    has_scopes (choice at c e f) scope all =
        let front : AreTheirs (scopes_of scope c ++ scopes_of scope e) = theirs_left (scopes_of scope c ++ scopes_of scope e) (scopes_of scope f) all in (
          has_scopes c scope (theirs_left (scopes_of scope c) (scopes_of scope e) front),
          has_scopes e scope (theirs_right (scopes_of scope c) (scopes_of scope e) front),
          has_scopes f scope (theirs_right (scopes_of scope c ++ scopes_of scope e) (scopes_of scope f) all),
        )
    has_scopes (local at k e f) scope all =
        let inside : AreTheirs (scopes_of scope e ++ scopes_of scope f) = λ p there. all p (Contains-later (k, scope) (scopes_of scope e ++ scopes_of scope f) p there) in (
          all (k, scope) (Contains-here (k, scope) (scopes_of scope e ++ scopes_of scope f)),
          has_scopes e scope (theirs_left (scopes_of scope e) (scopes_of scope f) inside),
          has_scopes f scope (theirs_right (scopes_of scope e) (scopes_of scope f) inside),
        )

    have_field_scopes : (fields : TermFields) (scope : List ℕ) → AreTheirs (field_scopes_of scope fields) → HaveScopes let_scope scope fields
    have_field_scopes no_field scope all = tt
    have_field_scopes (a_field label e rest) scope all = (
      has_scopes e scope (theirs_left (scopes_of scope e) (field_scopes_of scope rest) all),
      have_field_scopes rest scope (theirs_right (scopes_of scope e) (field_scopes_of scope rest) all),
    )

-- the binders around the lets of a term
abbrev pub let_scope_of : TermTree → ℕ → List ℕ
let_scope_of t = scope_in (scopes_of [] t)

pub have_scopes : (globals : ℕ) (nodes : List TermNode) (binders lets : ℕ) (term : IsTerm globals nodes binders lets) → HasScopes (let_scope_of term.tree) [] term.tree
have_scopes globals nodes binders lets term =
    has_scopes (let_scope_of term.tree) term.tree []
    (found (scopes_of [] term.tree) (subst AreDistinct (sym (numbers_are term.tree [])) term.let_numbers.distinct))
