-- What holds of all derivations.
use Rattle.std.proofs.Common.{◌≡◌, ℕ, Bool, true, false, List, refl, sym, subst, Option, Some, cond}
use Rattle.std.specs.FinMap as env
use Rattle.std.specs.FinMap.{FinMap, get-insert}
use Rattle.std.specs.Ordering.{nat_cmp, eq_by_cmp}
use Rattle.std.proofs.lemmas.Cmp.{nat_cmp_total}
use Rattle.mls_book.specs.declared.book.Field.{Field}
use Rattle.mls_book.specs.Schemes.{Scheme, IsScheme, Subsumes, AreEquivalent}
use Rattle.mls_book.proofs.Subsumption.{Subsumes-refl, Subsumes-trans}
use Rattle.mls_term.specs.Terms.{TermTree, TermFields}
use Rattle.mls_term.specs.Derivations.{Known, with_let, over, Derives, var_inner, var_global, var_fun, lit_truth, lit_number, abs, app, rcd, proj, cond as if_else, let_in, rec_fix, sub, AllDerive, none, more, IsBest, HasNone}
use Rattle.mls_term.specs.TypingLaws.{AreSchemes, IsMoreGeneral}

-- every instance of a derivable scheme is derivable
pub Derives-instance : (known : Known) (t : TermTree) (s u : Scheme) → Derives known t s → Subsumes s u → IsScheme u → Derives known t u
Derives-instance known t s u h subsumes scheme = sub s h subsumes scheme

-- best schemes of one expression are equivalent
pub best_equivalent : (known : Known) (t : TermTree) (s u : Scheme) → IsBest known t s → IsBest known t u → AreEquivalent s u
best_equivalent known t s u b c = (b.least u c.derives, c.least s b.derives)

-- a scheme that is equivalent to a best one is best
pub best_stays : (known : Known) (t : TermTree) (s u : Scheme) → IsBest known t s → AreEquivalent s u → IsScheme u → IsBest known t u
best_stays known t s u b same scheme = record {
  derives = sub s b.derives same.0 scheme;
  least = λ other h. Subsumes-trans u s other same.1 (b.least other h);
}

-- what a map has after an insertion: the inserted value, or what it had
pub inserted : (P : Option Scheme → Type 0) (m : FinMap nat_cmp Scheme) (k : ℕ) (v : Scheme) (q : ℕ) → P (Some v) → P (env.get m q) → P (env.get (env.insert m k v) q)
inserted P m k v q here there = subst P (sym (get-insert nat_cmp_total m k v q)) (by_test (eq_by_cmp nat_cmp q k))
  where
    by_test : (b : Bool) → P (cond b (Some v) (env.get m q))
    by_test true = here
    by_test false = there

pub AreSchemes-let : (known : Known) (k : ℕ) (s : Scheme) → AreSchemes known → IsScheme s → AreSchemes (with_let known k s)
AreSchemes-let known k s all is = record {
  globals = all.globals;
  lets = λ q u. inserted (λ o. o ≡ Some u → IsScheme u) known.lets k s q (λ e. subst (λ (w : Scheme). IsScheme w) (cc) is) (all.lets q u);
}

-- what is derivable is a scheme
pub derived_scheme : (known : Known) (t : TermTree) (s : Scheme) → AreSchemes known → Derives known t s → IsScheme s
derived_scheme known t s all (var_inner at k e h) = all.lets k s h
derived_scheme known t s all (var_global at g e h) = all.globals g s h
derived_scheme known t s all (var_fun at x e scheme env_is) = scheme
derived_scheme known t s all (lit_truth at value e scheme env_is root_is) = scheme
derived_scheme known t s all (lit_number at value e scheme env_is root_is) = scheme
derived_scheme known t s all (abs at x body d i j e scheme env_is takes root_is h) = scheme
derived_scheme known t s all (app at function argument f i e scheme function_is h h') = scheme
derived_scheme known t s all (rcd at parts fields e scheme root_is labels nothing h) = scheme
derived_scheme known t s all (proj at body label i field e scheme record_is label_is node_is h) = scheme
derived_scheme known t s all (if_else at condition first second i e scheme condition_is h h1 h2) = scheme
derived_scheme known t s all (let_in at k first second d1 d2 t1 e scheme meet h1 h2) = scheme
derived_scheme known t s all (rec_fix at x body d e scheme env_is root_is h) = scheme
derived_scheme known t s all (sub first h subsumes scheme) = scheme

-- an environment is as general as itself
pub IsMoreGeneral-refl : (known : Known) → IsMoreGeneral known known
IsMoreGeneral-refl known = record {
  globals = λ g s h. (s, h, Subsumes-refl s);
  lets = λ k s h. (s, h, Subsumes-refl s);
}

abbrev HasMore : Option Scheme → Option Scheme → Type 0
HasMore o p = (s : Scheme) → p ≡ Some s → (u : Scheme) × (o ≡ Some u) × Subsumes u s

pub IsMoreGeneral-let : (first second : Known) (k : ℕ) (u s : Scheme) → IsMoreGeneral first second → Subsumes u s → IsMoreGeneral (with_let first k u) (with_let second k s)
IsMoreGeneral-let first second k u s general subsumes = record {
  globals = general.globals;
  lets = λ q.
      let both : HasMore (cond (eq_by_cmp nat_cmp q k) (Some u) (env.get first.lets q)) (cond (eq_by_cmp nat_cmp q k) (Some s) (env.get second.lets q)) = by_test q (eq_by_cmp nat_cmp q k) in
      let F : Option Scheme → Type 0 = λ o. HasMore o (cond (eq_by_cmp nat_cmp q k) (Some s) (env.get second.lets q)) in
      let S : Option Scheme → Type 0 = λ p. HasMore (env.get (env.insert first.lets k u) q) p in
      subst S (sym (get-insert nat_cmp_total second.lets k s q)) (subst F (sym (get-insert nat_cmp_total first.lets k u q)) both);
}
  where
    by_test : (q : ℕ) (b : Bool) → HasMore (cond b (Some u) (env.get first.lets q)) (cond b (Some s) (env.get second.lets q))
    by_test q true = λ w e. (u, refl, let P : Scheme → Type 0 = λ w. Subsumes u w in subst P (cc) subsumes)
    by_test q false = general.lets q

-- a more general environment derives everything that a more special one does
mutual
  pub more_general_derives : (first second : Known) (t : TermTree) (s : Scheme) → IsMoreGeneral first second → AreSchemes second → Derives second t s → Derives first t s
  more_general_derives first second t s general all (var_inner at k e h) =
      let it = general.lets k s h in
      sub it.0 (var_inner at k e it.1) it.2 (all.lets k s h)
  more_general_derives first second t s general all (var_global at g e h) =
      let it = general.globals g s h in
      sub it.0 (var_global at g e it.1) it.2 (all.globals g s h)
  more_general_derives first second t s general all (var_fun at x e scheme env_is) = var_fun at x e scheme env_is
  more_general_derives first second t s general all (lit_truth at value e scheme env_is root_is) = lit_truth at value e scheme env_is root_is
  more_general_derives first second t s general all (lit_number at value e scheme env_is root_is) = lit_number at value e scheme env_is root_is
  more_general_derives first second t s general all (abs at x body d i j e scheme env_is takes root_is h) =
      abs at x body d i j e scheme env_is takes root_is (more_general_derives first second body (over s d j.0) general all h)
  more_general_derives first second t s general all (app at function argument f i e scheme function_is h h') =
      app at function argument f i e scheme function_is
      (more_general_derives first second function (over s s.env f) general all h)
      (more_general_derives first second argument (over s s.env i.0) general all h')
  more_general_derives first second t s general all (rcd at parts fields e scheme root_is labels nothing h) =
      rcd at parts fields e scheme root_is labels nothing (all_more_general first second parts s fields general all h)
  more_general_derives first second t s general all (proj at body label i field e scheme record_is label_is node_is h) =
      proj at body label i field e scheme record_is label_is node_is (more_general_derives first second body (over s s.env i) general all h)
  more_general_derives first second t s general all (if_else at condition yes_part no_part i e scheme condition_is h h1 h2) =
      if_else at condition yes_part no_part i e scheme condition_is
      (more_general_derives first second condition (over s s.env i) general all h)
      (more_general_derives first second yes_part s general all h1)
      (more_general_derives first second no_part s general all h2)
  more_general_derives first second t s general all (let_in at k e1 e2 d1 d2 t1 e scheme meet h1 h2) =
      let s1 = over s d1 t1 in
      let_in at k e1 e2 d1 d2 t1 e scheme meet
      (more_general_derives first second e1 s1 general all h1)
      (more_general_derives (with_let first k s1) (with_let second k s1) e2 (over s d2 s.root)
      (IsMoreGeneral-let first second k s1 s1 general (Subsumes-refl s1)) (AreSchemes-let second k s1 all (derived_scheme second e1 s1 all h1)) h2)
  more_general_derives first second t s general all (rec_fix at x body d e scheme env_is root_is h) =
      rec_fix at x body d e scheme env_is root_is (more_general_derives first second body (over s d s.root) general all h)
  more_general_derives first second t s general all (sub u h subsumes scheme) =
      sub u (more_general_derives first second t u general all h) subsumes scheme

  all_more_general : (first second : Known) (parts : TermFields) (s : Scheme) (fields : List Field) → IsMoreGeneral first second → AreSchemes second → AllDerive second parts s fields → AllDerive first parts s fields
  all_more_general first second parts s fields general all (none e) = none e
  all_more_general first second parts s fields general all (more label body rest i e has h others) =
      more label body rest i e has (more_general_derives first second body (over s s.env i.0) general all h) (all_more_general first second rest s fields general all others)

-- best schemes do not depend on which of equivalent environments is known
pub best_more_general : (first second : Known) (t : TermTree) (s : Scheme) → IsMoreGeneral first second → IsMoreGeneral second first → AreSchemes first → AreSchemes second → IsBest first t s → IsBest second t s
best_more_general first second t s to from all_first all_second b = record {
  derives = more_general_derives second first t s from all_first b.derives;
  least = λ other h. b.least other (more_general_derives first second t other to all_second h);
}

-- and an expression without a scheme has none in a more special environment
pub none_more_special : (first second : Known) (t : TermTree) → IsMoreGeneral first second → AreSchemes second → HasNone first t → HasNone second t
none_more_special first second t general all has_none = λ s h. has_none s (more_general_derives first second t s general all h)
