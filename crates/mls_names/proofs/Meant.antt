-- A tree without unknown names means its term, and no other.
use Rattle.std.proofs.Common.{◌≡◌, ℕ, suc, ◌+◌, Bool, true, false, if◌then◌else◌, List, [], ◌∷◌, ◌++◌, refl, ap, ◌∙◌, Some, None, is_some}
use Rattle.std.specs.Prelude.{Option}
use Rattle.mls_term.specs.declared.term.ResolvedBinding.{ResolvedBinding}
use Rattle.mls_grammar.specs.Trees.{Tree, a_name, an_operator, a_number, a_truth, a_fun, a_fix, a_let, an_if, an_apply, a_make, a_project, Fields, no_field, a_field, BindingTree}
use Rattle.mls_term.specs.Terms.{TermTree, TermFields, fun, apply, make, project, choice, local, fix, postorder}
use Rattle.mls_term.specs.Terms as term
use Rattle.mls_names.specs.Resolution.{Meant, binder, let_number, Scope, meant_by, use_of, names_of, is_known, unknowns, field_unknowns, unknown_names, binders, lets, Means, MeanFields, scope_after, IsTermOf, AreTermsOf}
use Rattle.mls_names.specs.steps.Meanings.{use_or_truth, resolved, resolved_fields, binding_in, bindings_in}
use Rattle.mls_names.proofs.Named.{known}

-- where two lists have no place, neither has one
pub no_left : (xs ys : List ℕ) → xs ++ ys ≡ [] → xs ≡ []
no_left [] ys h = refl
no_left (x ∷ xs) ys h = absurd (cc)

pub no_right : (xs ys : List ℕ) → xs ++ ys ≡ [] → ys ≡ []
no_right [] ys h = h
no_right (x ∷ xs) ys h = absurd (cc)

none : (xs ys : List ℕ) → xs ≡ [] → ys ≡ [] → xs ++ ys ≡ []
none xs ys e e' = ap (λ zs. zs ++ ys) e ∙ e'

name_means : (m : Option Meant) (b : Bool) (at : ℕ) → is_some m ≡ b → (if b then [] else at ∷ []) ≡ [] → (n : Meant) × (m ≡ Some n) × (use_or_truth at m ≡ use_of at n)
name_means None true at e h = absurd (cc)
name_means None false at e h = absurd (cc)
name_means (Some m) b at e h = (m, refl, refl)

mutual
  pub means : (t : Tree) (scope : Scope) (b l : ℕ) → unknowns (names_of scope) t ≡ [] → Means scope b l t (resolved scope b l t)
  means (a_name at x) scope b l h = name_means (meant_by scope x) (is_known (names_of scope) x) at (known scope x) h
  means (an_operator at o) scope b l h = refl
  means (a_number at value) scope b l h = refl
  means (a_truth at value) scope b l h = refl
  means (a_fun at x e) scope b l h = (resolved ((x, binder b) ∷ scope) (suc b) l e, means e ((x, binder b) ∷ scope) (suc b) l h, refl)
  means (a_fix at x e) scope b l h = (resolved ((x, binder b) ∷ scope) (suc b) l e, means e ((x, binder b) ∷ scope) (suc b) l h, refl)
  means (a_let at x e f) scope b l h = (
    resolved scope b (suc l) e,
    resolved ((x, let_number l) ∷ scope) (b + binders e) (suc l + lets e) f,
    means e scope b (suc l) (no_left (unknowns (names_of scope) e) (unknowns (x ∷ names_of scope) f) h),
    means f ((x, let_number l) ∷ scope) (b + binders e) (suc l + lets e) (no_right (unknowns (names_of scope) e) (unknowns (x ∷ names_of scope) f) h),
    refl,
  )
  means (an_if at c e f) scope b l h =
      let us = unknowns (names_of scope) in
      let early : us c ++ us e ≡ [] = no_left (us c ++ us e) (us f) h in (
        resolved scope b l c,
        resolved scope (b + binders c) (l + lets c) e,
        resolved scope (b + binders c + binders e) (l + lets c + lets e) f,
        means c scope b l (no_left (us c) (us e) early),
        means e scope (b + binders c) (l + lets c) (no_right (us c) (us e) early),
        means f scope (b + binders c + binders e) (l + lets c + lets e) (no_right (us c ++ us e) (us f) h),
        refl,
      )
  means (an_apply at f a) scope b l h = (
    resolved scope b l f,
    resolved scope (b + binders f) (l + lets f) a,
    means f scope b l (no_left (unknowns (names_of scope) f) (unknowns (names_of scope) a) h),
    means a scope (b + binders f) (l + lets f) (no_right (unknowns (names_of scope) f) (unknowns (names_of scope) a) h),
    refl,
  )
  means (a_make at fields) scope b l h = (resolved_fields scope b l fields, mean_fields fields scope b l h, refl)
  means (a_project at e label) scope b l h = (resolved scope b l e, means e scope b l h, refl)

  mean_fields : (fields : Fields) (scope : Scope) (b l : ℕ) → field_unknowns (names_of scope) fields ≡ [] → MeanFields scope b l fields (resolved_fields scope b l fields)
  mean_fields no_field scope b l h = refl
  mean_fields (a_field label e rest) scope b l h = (
    resolved scope b l e,
    resolved_fields scope (b + binders e) (l + lets e) rest,
    means e scope b l (no_left (unknowns (names_of scope) e) (field_unknowns (names_of scope) rest) h),
    mean_fields rest scope (b + binders e) (l + lets e) (no_right (unknowns (names_of scope) e) (field_unknowns (names_of scope) rest) h),
    refl,
  )

name_is : (m : Option Meant) (b : Bool) (at : ℕ) (t : TermTree) → is_some m ≡ b → (n : Meant) × (m ≡ Some n) × (t ≡ use_of at n) → (t ≡ use_or_truth at m) × ((if b then [] else at ∷ []) ≡ [])
name_is None b at t e h = absurd (cc (h.1))
name_is (Some m) true at t e h = (let same : h.0 ≡ m = cc (h.1) in h.2 ∙ ap (use_of at) same, refl)
name_is (Some m) false at t e h = absurd (cc)

mutual
  pub is_meant : (t : Tree) (scope : Scope) (b l : ℕ) (u : TermTree) → Means scope b l t u → (u ≡ resolved scope b l t) × (unknowns (names_of scope) t ≡ [])
  is_meant (a_name at x) scope b l u h = name_is (meant_by scope x) (is_known (names_of scope) x) at u (known scope x) h
  is_meant (an_operator at o) scope b l u h = (h, refl)
  is_meant (a_number at value) scope b l u h = (h, refl)
  is_meant (a_truth at value) scope b l u h = (h, refl)
  is_meant (a_fun at x e) scope b l u h =
      let it = is_meant e ((x, binder b) ∷ scope) (suc b) l h.0 h.1 in
      (h.2 ∙ ap (fun at b) it.0, it.1)
  is_meant (a_fix at x e) scope b l u h =
      let it = is_meant e ((x, binder b) ∷ scope) (suc b) l h.0 h.1 in
      (h.2 ∙ ap (fix at b) it.0, it.1)
  is_meant (a_let at x e f) scope b l u h =
      let first = is_meant e scope b (suc l) h.0 h.2 in
      let second = is_meant f ((x, let_number l) ∷ scope) (b + binders e) (suc l + lets e) h.1 h.3 in
      (h.4 ∙ (λ i. local at l (first.0 i) (second.0 i)), none (unknowns (names_of scope) e) (unknowns (x ∷ names_of scope) f) first.1 second.1)
  is_meant (an_if at c e f) scope b l u h =
      let us = unknowns (names_of scope) in
      let one = is_meant c scope b l h.0 h.3 in
      let two = is_meant e scope (b + binders c) (l + lets c) h.1 h.4 in
      let three = is_meant f scope (b + binders c + binders e) (l + lets c + lets e) h.2 h.5 in
      (h.6 ∙ (λ i. choice at (one.0 i) (two.0 i) (three.0 i)), none (us c ++ us e) (us f) (none (us c) (us e) one.1 two.1) three.1)
  is_meant (an_apply at f a) scope b l u h =
      let one = is_meant f scope b l h.0 h.2 in
      let two = is_meant a scope (b + binders f) (l + lets f) h.1 h.3 in
      (h.4 ∙ (λ i. apply at (one.0 i) (two.0 i)), none (unknowns (names_of scope) f) (unknowns (names_of scope) a) one.1 two.1)
  is_meant (a_make at fields) scope b l u h =
      let it = are_meant fields scope b l h.0 h.1 in
      (h.2 ∙ ap (make at) it.0, it.1)
  is_meant (a_project at e label) scope b l u h =
      let it = is_meant e scope b l h.0 h.1 in
      (h.2 ∙ (λ i. project at (it.0 i) label), it.1)

  are_meant : (fields : Fields) (scope : Scope) (b l : ℕ) (us : TermFields) → MeanFields scope b l fields us → (us ≡ resolved_fields scope b l fields) × (field_unknowns (names_of scope) fields ≡ [])
  are_meant no_field scope b l us h = (h, refl)
  are_meant (a_field label e rest) scope b l us h =
      let one = is_meant e scope b l h.0 h.2 in
      let two = are_meant rest scope (b + binders e) (l + lets e) h.1 h.3 in
      (h.4 ∙ (λ i. term.a_field label (one.0 i) (two.0 i)), none (unknowns (names_of scope) e) (field_unknowns (names_of scope) rest) one.1 two.1)

-- the bindings of a module
pub are_terms : (declared : List (List (List ℕ))) (earlier : List (List ℕ)) (bs : List BindingTree) → unknown_names declared earlier bs ≡ [] → AreTermsOf declared earlier bs (bindings_in declared earlier bs)
are_terms declared earlier [] h = refl
are_terms declared earlier (b ∷ bs) h =
    let scope = scope_after declared earlier in (
      binding_in scope b,
      bindings_in declared (earlier ++ b.x ∷ []) bs,
      refl,
      record {
        name = refl;
        at = refl;
        term_tree = resolved scope 0 0 b.body;
        means = means b.body scope 0 0 (no_left (unknowns (names_of scope) b.body) (unknown_names declared (earlier ++ b.x ∷ []) bs) h);
        nodes = refl;
        binders = refl;
        lets = refl;
      },
      are_terms declared (earlier ++ b.x ∷ []) bs (no_right (unknowns (names_of scope) b.body) (unknown_names declared (earlier ++ b.x ∷ []) bs) h),
    )

one_binding : (scope : Scope) (b : BindingTree) (r : ResolvedBinding) → IsTermOf scope b r → (r ≡ binding_in scope b) × (unknowns (names_of scope) b.body ≡ [])
one_binding scope b r h =
    let it = is_meant b.body scope 0 0 h.term_tree h.means in
    (λ i. record { name = h.name i; at = h.at i; term = record { nodes = (h.nodes ∙ ap (postorder 0) it.0) i; binders = h.binders i; lets = h.lets i } }, it.1)

pub terms_are : (declared : List (List (List ℕ))) (earlier : List (List ℕ)) (bs : List BindingTree) (rs : List ResolvedBinding) → AreTermsOf declared earlier bs rs
    → (rs ≡ bindings_in declared earlier bs) × (unknown_names declared earlier bs ≡ [])
terms_are declared earlier [] rs h = (h, refl)
terms_are declared earlier (b ∷ bs) rs h =
    let scope = scope_after declared earlier in
    let first = one_binding scope b h.0 h.3 in
    let later = terms_are declared (earlier ++ b.x ∷ []) bs h.1 h.4 in
    (h.2 ∙ (λ i. first.0 i ∷ later.0 i), none (unknowns (names_of scope) b.body) (unknown_names declared (earlier ++ b.x ∷ []) bs) first.1 later.1)
