-- What an expression has depends on the schemes of the names alone that are in scope.
--     uses_derives          it has the same schemes where the let numbers in scope have the same
use Rattle.std.proofs.Common.{◌≡◌, ◌⊎◌, inl, inr, ℕ, zero, suc, true, List, ◌∷◌, sym, ap, ◌∙◌, subst, arith, slice_get, Some, cond}
use Rattle.std.specs.Prelude.{Contains}
use Rattle.std.specs.FinMap as env
use Rattle.std.specs.FinMap.{get-insert}
use Rattle.std.specs.Ordering.{nat_cmp, eq_by_cmp, is_eq}
use Rattle.std.specs.Cmp.{nat_cmp_is}
use Rattle.std.specs.declared.cmp.Ordering.TheVariants.{Equal}
use Rattle.std.proofs.lemmas.Cmp.{nat_cmp_total}
use Rattle.mls_book.specs.declared.book.Field.{Field}
use Rattle.mls_book.specs.Schemes.{Scheme}
use Rattle.mls_term.specs.Terms.{TermTree, TermFields, make, choice}
use Rattle.mls_term.specs.WellFormed.{IsScoped, AreScoped}
use Rattle.mls_term.specs.Derivations.{Known, with_let, over, Derives, var_inner, var_global, var_fun, lit_truth, lit_number, abs, app, rcd, proj, cond as if_else, let_in, rec_fix, sub, AllDerive, none, more}

-- an element of a list is its first or one of the rest
pub first_or_later : {X : Type 0} (y : X) (ys : List X) (x : X) → Contains (y ∷ ys) x → (y ≡ x) ⊎ Contains ys x
first_or_later y ys x (zero, low, is) = inl is
first_or_later y ys x (suc k, low, is) = inr (k, omega arith, is)

-- the same schemes for the names of the environment and for these let numbers
pub record AgreeOn (lets : List ℕ) (known other : Known) : Type 0 where
  pub globals : other.globals ≡ known.globals
  pub lets_are : (k : ℕ) → Contains lets k → env.get other.lets k ≡ env.get known.lets k

AgreeOn-let : (lets : List ℕ) (known other : Known) (k : ℕ) (s : Scheme) → AgreeOn lets known other → AgreeOn (k ∷ lets) (with_let known k s) (with_let other k s)
AgreeOn-let lets known other k s agree = record {
  globals = agree.globals;
  lets_are = λ q there.
      get-insert nat_cmp_total other.lets k s q
      ∙ (by_place q (first_or_later k lets q there)
      ∙ sym (get-insert nat_cmp_total known.lets k s q));
}
  where
    by_place : (q : ℕ) → (k ≡ q) ⊎ Contains lets q → cond (eq_by_cmp nat_cmp q k) (Some s) (env.get other.lets q) ≡ cond (eq_by_cmp nat_cmp q k) (Some s) (env.get known.lets q)
    by_place q (inl same) =
        let is : eq_by_cmp nat_cmp q k ≡ true = ap is_eq (sym (nat_cmp_is q k Equal (sym same))) in
        ap (λ b. cond b (Some s) (env.get other.lets q)) is ∙ sym (ap (λ b. cond b (Some s) (env.get known.lets q)) is)
    by_place q (inr later) = ap (cond (eq_by_cmp nat_cmp q k) (Some s)) (agree.lets_are q later)

-- so the one derives what the other does
mutual
  pub uses_derives : (binders lets : List ℕ) (globals : ℕ) (known other : Known) (t : TermTree) (s : Scheme) → IsScoped binders lets globals t → AgreeOn lets known other → Derives known t s → Derives other t s
  uses_derives binders lets globals known other t s uses agree (var_inner at k e h) =
      let here : Contains lets k = subst (IsScoped binders lets globals) e uses in
      var_inner at k e (agree.lets_are k here ∙ h)
  uses_derives binders lets globals known other t s uses agree (var_global at g e h) = var_global at g e (ap (λ gs. slice_get gs g) agree.globals ∙ h)
  uses_derives binders lets globals known other t s uses agree (var_fun at x e fit env_is) = var_fun at x e fit env_is
  uses_derives binders lets globals known other t s uses agree (lit_truth at value e fit env_is root_is) = lit_truth at value e fit env_is root_is
  uses_derives binders lets globals known other t s uses agree (lit_number at value e fit env_is root_is) = lit_number at value e fit env_is root_is
  uses_derives binders lets globals known other t s uses agree (abs at x body d i j e fit env_is takes root_is h) =
      let inside : IsScoped (x ∷ binders) lets globals body = subst (IsScoped binders lets globals) e uses in
      abs at x body d i j e fit env_is takes root_is (uses_derives (x ∷ binders) lets globals known other body (over s d j.0) inside agree h)
  uses_derives binders lets globals known other t s uses agree (app at f a g i e fit function_is h h') =
      let inside : IsScoped binders lets globals f × IsScoped binders lets globals a = subst (IsScoped binders lets globals) e uses in
      app at f a g i e fit function_is
      (uses_derives binders lets globals known other f (over s s.env g) inside.0 agree h)
      (uses_derives binders lets globals known other a (over s s.env i.0) inside.1 agree h')
  uses_derives binders lets globals known other t s uses agree (rcd at parts fields e fit root_is labels nothing h) =
      let inside : IsScoped binders lets globals (make at parts) = subst (IsScoped binders lets globals) e uses in
      rcd at parts fields e fit root_is labels nothing (all_use_derive binders lets globals known other parts s fields inside.1 agree h)
  uses_derives binders lets globals known other t s uses agree (proj at body label i field e fit record_is label_is node_is h) =
      let inside : IsScoped binders lets globals body = subst (IsScoped binders lets globals) e uses in
      proj at body label i field e fit record_is label_is node_is (uses_derives binders lets globals known other body (over s s.env i) inside agree h)
  uses_derives binders lets globals known other t s uses agree (if_else at c f f' i e fit condition_is h h1 h2) =
      let inside : IsScoped binders lets globals (choice at c f f') = subst (IsScoped binders lets globals) e uses in
      if_else at c f f' i e fit condition_is
      (uses_derives binders lets globals known other c (over s s.env i) inside.0 agree h)
      (uses_derives binders lets globals known other f s inside.1 agree h1)
      (uses_derives binders lets globals known other f' s inside.2 agree h2)
  uses_derives binders lets globals known other t s uses agree (let_in at k f f' d1 d2 t1 e fit meet h1 h2) =
      let inside : IsScoped binders lets globals f × IsScoped binders (k ∷ lets) globals f' = subst (IsScoped binders lets globals) e uses in
      let s1 : Scheme = over s d1 t1 in
      let_in at k f f' d1 d2 t1 e fit meet
      (uses_derives binders lets globals known other f s1 inside.0 agree h1)
      (uses_derives binders (k ∷ lets) globals (with_let known k s1) (with_let other k s1) f' (over s d2 s.root) inside.1 (AgreeOn-let lets known other k s1 agree) h2)
  uses_derives binders lets globals known other t s uses agree (rec_fix at x body d e fit env_is root_is h) =
      let inside : IsScoped (x ∷ binders) lets globals body = subst (IsScoped binders lets globals) e uses in
      rec_fix at x body d e fit env_is root_is (uses_derives (x ∷ binders) lets globals known other body (over s d s.root) inside agree h)
  uses_derives binders lets globals known other t s uses agree (sub first h subsumes fit) =
      sub first (uses_derives binders lets globals known other t first uses agree h) subsumes fit

  all_use_derive : (binders lets : List ℕ) (globals : ℕ) (known other : Known) (parts : TermFields) (s : Scheme) (fields : List Field) → AreScoped binders lets globals parts → AgreeOn lets known other → AllDerive known parts s fields → AllDerive other parts s fields
  all_use_derive binders lets globals known other parts s fields uses agree (none e) = none e
  all_use_derive binders lets globals known other parts s fields uses agree (more label body rest i e has h others) =
      let inside : IsScoped binders lets globals body × AreScoped binders lets globals rest = subst (AreScoped binders lets globals) e uses in
      more label body rest i e has
      (uses_derives binders lets globals known other body (over s s.env i.0) inside.0 agree h)
      (all_use_derive binders lets globals known other rest s fields inside.1 agree others)
