-- What is known in the parts of a term, and which schemes the lets have there.
--     known_start, known_more, known_let     at the root, under one more binder, and behind a let
--     best_allows_all, allows_all_best       a best scheme allows every type, and a derivable one that does is best
--     allows_all_more                        so does one that subsumes such a scheme
--     lets_allow                             where each first part has such a scheme once those inside it have, all have
use Rattle.std.proofs.Common.{◌≡◌, ℕ, Bool, true, false, cond, List, [], ◌∷◌, refl, sym, ap, ◌∙◌, subst, Some, slice_get}
use Rattle.std.specs.Prelude.{None}
use Rattle.std.specs.FinMap as env
use Rattle.std.specs.FinMap.{get-empty, get-insert}
use Rattle.std.specs.Ordering.{nat_cmp, eq_by_cmp}
use Rattle.std.proofs.lemmas.Cmp.{nat_cmp_total}
use Rattle.mls_book.specs.Schemes.{Scheme, IsScheme, Subsumes}
use Rattle.mls_term.specs.declared.term.TermNode.{TermNode}
use Rattle.mls_term.specs.Terms.{TermTree, TermFields, bound, inner, global, number, truth, fun, apply, make, project, choice, local, fix, no_field, a_field}
use Rattle.mls_term.specs.Derivations.{Known, with_let, Derives, IsBest}
use Rattle.mls_term.specs.TypingLaws.{AreSchemes}
use Rattle.mls_term.proofs.Metatheory.{AreSchemes-let}
use Rattle.mls_typing.specs.InferenceLaws.{at_start, AllSchemes}
use Rattle.mls_typing.proofs.Contexts.{same_key}
use Rattle.mls_typing.proofs.Instances.{Allows-subsumed, best_allows, best_by_types, typed_under}
use Rattle.mls_typing.proofs.Lists.{Contains-later}
use Rattle.mls_layout.specs.PosedNodes.{IsNamed}
use Rattle.mls_parts.specs.NodeTypes.{NeedsOnly, AllowsAll, LetsAllow, AllLetsAllow, IsKnownHere}
use Rattle.mls_parts.specs.NumberedNodes.{behind, IsPlaced}
use Rattle.mls_allowed.specs.FirstTypes.{AreLetsIn, AreFieldLetsIn}
use Rattle.mls_allowed.proofs.PlacedParts.{ArePlaced, placed_fun, placed_fix, placed_project, placed_function, placed_argument, placed_condition, placed_first_branch, placed_second_branch, placed_first, placed_second, placed_fields, placed_field, placed_rest}

-- at the root the names of the environment are known, which need no binders
pub known_start : (known : Known) (globals : List Scheme) → AllSchemes globals → ((g : ℕ) (s : Scheme) → slice_get globals g ≡ Some s → s.env ≡ env.empty) → globals ≡ known.globals → IsKnownHere known [] (at_start globals)
known_start known globals schemes no_needs same = record {
  schemes = record { globals = schemes; lets = λ k s e. absurd (no_lets k s e) };
  globals = same;
  lets = λ k s e. absurd (no_lets k s e);
  globals_need = λ g s e x i has.
      let absent : env.get s.env x ≡ None = ap (λ d. env.get d x) (no_needs g s e) ∙ get-empty nat_cmp x in
      let none : None ≡ Some i = sym absent ∙ has in
      absurd (cc);
  lets_need = λ k s e. absurd (no_lets k s e);
}
  where
    no_lets : (k : ℕ) (s : Scheme) → env.get (env.empty {X = Scheme} {R = nat_cmp}) k ≡ Some s → ⊥
    no_lets k s e = let absent : env.get (env.empty {X = Scheme} {R = nat_cmp}) k ≡ None = get-empty nat_cmp k in absurd (cc)

-- what is known under one more binder, and behind a let
pub known_more : (known : Known) (scope : List ℕ) (here : Known) (x : ℕ) → IsKnownHere known scope here → IsKnownHere known (x ∷ scope) here
known_more known scope here x it = record {
  schemes = it.schemes;
  globals = it.globals;
  lets = it.lets;
  globals_need = λ g s e y i has. Contains-later x scope y (it.globals_need g s e y i has);
  lets_need = λ k s e y i has. Contains-later x scope y (it.lets_need k s e y i has);
}

pub known_let : (known : Known) (scope : List ℕ) (here : Known) (k : ℕ) (s : Scheme) → env.get known.lets k ≡ Some s → IsScheme s → NeedsOnly scope s → IsKnownHere known scope here → IsKnownHere known scope (with_let here k s)
known_let known scope here k s known_is is needs it = record {
  schemes = AreSchemes-let here k s it.schemes is;
  globals = it.globals;
  lets = λ q u e. by_key q u (eq_by_cmp nat_cmp q k) refl (sym (get-insert nat_cmp_total here.lets k s q) ∙ e);
  globals_need = it.globals_need;
  lets_need = λ q u e. needs_by_key q u (eq_by_cmp nat_cmp q k) (sym (get-insert nat_cmp_total here.lets k s q) ∙ e);
}
  where
    by_key : (q : ℕ) (u : Scheme) (b : Bool) → eq_by_cmp nat_cmp q k ≡ b → cond b (Some s) (env.get here.lets q) ≡ Some u → env.get known.lets q ≡ Some u
    by_key q u true key e = ap (λ z. env.get known.lets z) (same_key q k key) ∙ (known_is ∙ e)
    by_key q u false key e = it.lets q u e

    needs_by_key : (q : ℕ) (u : Scheme) (b : Bool) → cond b (Some s) (env.get here.lets q) ≡ Some u → NeedsOnly scope u
    needs_by_key q u true e = let same : s ≡ u = cc in let P : Scheme → Type 0 = λ u. NeedsOnly scope u in subst P same needs
    needs_by_key q u false e = it.lets_need q u e

-- a best scheme allows every type
pub best_allows_all : (scope : List ℕ) (here : Known) (t : TermTree) (s : Scheme) → IsScheme s → NeedsOnly scope s → IsBest here t s → AllowsAll scope here t s
best_allows_all scope here t s is needs best = record { is = is; needs = needs; all = λ types f h. (best_allows here t s is best types f).0 h }

-- and a derivable scheme that does is best
pub allows_all_best : (scope : List ℕ) (here : Known) (t : TermTree) (s : Scheme) → AreSchemes here → AllowsAll scope here t s → Derives here t s → IsBest here t s
allows_all_best scope here t s schemes it derives = best_by_types here t s schemes it.is (λ types f. (it.all types f, λ a. typed_under s it.is types f a here t derives))

-- what is as general allows as much
pub allows_all_more : (scope : List ℕ) (here : Known) (t : TermTree) (s u : Scheme) → IsScheme u → NeedsOnly scope u → Subsumes u s → AllowsAll scope here t s → AllowsAll scope here t u
allows_all_more scope here t s u is needs general it = record { is = is; needs = needs; all = λ types f h. Allows-subsumed s it.is types f (it.all types f h) u general }

-- Each let has a scheme that allows all types of its first part, if it has one once the lets inside the first part have.
module _ (nodes : List TermNode) (known : Known) (let_scope : ℕ → List ℕ)
    (step : (scope : List ℕ) (here : Known) (n at k : ℕ) (e f : TermTree) → IsPlaced nodes scope n (local at k e f) → IsNamed let_scope scope k → IsKnownHere known scope here → LetsAllow known scope here e
    → (s : Scheme) × (env.get known.lets k ≡ Some s) × AllowsAll scope here e s) where
  mutual
    pub lets_allow : (t : TermTree) (scope : List ℕ) (here : Known) (n : ℕ) → IsPlaced nodes scope n t → AreLetsIn let_scope scope t → IsKnownHere known scope here → LetsAllow known scope here t
    lets_allow (bound at x) scope here n placed inside_scope known_here = tt
    lets_allow (inner at k) scope here n placed inside_scope known_here = tt
    lets_allow (global at g) scope here n placed inside_scope known_here = tt
    lets_allow (number at value) scope here n placed inside_scope known_here = tt
    lets_allow (truth at value) scope here n placed inside_scope known_here = tt
    lets_allow (fun at x e) scope here n placed inside_scope known_here = lets_allow e (x ∷ scope) here n (placed_fun nodes scope n at x e placed) inside_scope (known_more known scope here x known_here)
    lets_allow (fix at x e) scope here n placed inside_scope known_here = lets_allow e (x ∷ scope) here n (placed_fix nodes scope n at x e placed) inside_scope (known_more known scope here x known_here)
    lets_allow (project at e label) scope here n placed inside_scope known_here = lets_allow e scope here n (placed_project nodes scope n at e label placed) inside_scope known_here
    lets_allow (apply at e f) scope here n placed inside_scope known_here = (
      lets_allow e scope here n (placed_function nodes scope n at e f placed) inside_scope.0 known_here,
      lets_allow f scope here (behind n e) (placed_argument nodes scope n at e f placed) inside_scope.1 known_here,
    )
    lets_allow (choice at c e f) scope here n placed inside_scope known_here = (
      lets_allow c scope here n (placed_condition nodes scope n at c e f placed) inside_scope.0 known_here,
      lets_allow e scope here (behind n c) (placed_first_branch nodes scope n at c e f placed) inside_scope.1 known_here,
      lets_allow f scope here (behind (behind n c) e) (placed_second_branch nodes scope n at c e f placed) inside_scope.2 known_here,
    )
    lets_allow (make at parts) scope here n placed inside_scope known_here = all_lets_allow parts scope here n (placed_fields nodes scope n at parts placed) inside_scope known_here
    lets_allow (local at k e f) scope here n placed inside_scope known_here =
        let inside : LetsAllow known scope here e = lets_allow e scope here n (placed_first nodes scope n at e f k placed) inside_scope.1 known_here in
        let it = step scope here n at k e f placed inside_scope.0 known_here inside in (
          it.0,
          it.1,
          it.2,
          lets_allow f scope (with_let here k it.0) (behind n e) (placed_second nodes scope n at e f k placed) inside_scope.2 (known_let known scope here k it.0 it.1 it.2.is it.2.needs known_here),
        )

    pub all_lets_allow : (parts : TermFields) (scope : List ℕ) (here : Known) (n : ℕ) → ArePlaced nodes scope n parts → AreFieldLetsIn let_scope scope parts → IsKnownHere known scope here → AllLetsAllow known scope here parts
    all_lets_allow no_field scope here n placed inside_scope known_here = tt
    all_lets_allow (a_field label e rest) scope here n placed inside_scope known_here = (
      lets_allow e scope here n (placed_field nodes scope n label e rest placed) inside_scope.0 known_here,
      all_lets_allow rest scope here (behind n e) (placed_rest nodes scope n label e rest placed) inside_scope.1 known_here,
    )
