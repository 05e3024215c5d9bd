-- An expression needs no binders but those in scope. So a best scheme of a whole term needs none.
--     scoped_types     what an expression has depends on the types of the binders in scope alone
--     closed_best      a best scheme of a whole term is best without its environment
use Rattle.std.proofs.Common.{◌≡◌, ◌⊎◌, inl, inr, ℕ, ◌<◌, Bool, true, false, cond, List, [], ◌∷◌, refl, sym, ap, ◌∙◌, subst, arith, Contains, Some, slice_get}
use Rattle.std.specs.Prelude.{Option, None}
use Rattle.std.specs.FinMap as finmap
use Rattle.std.specs.FinMap.{get-empty, get-insert}
use Rattle.std.specs.Ordering.{nat_cmp, eq_by_cmp}
use Rattle.std.proofs.lemmas.Cmp.{nat_cmp_total}
use Rattle.mls_book.specs.Predicates.{Predicate, Implies, top, bool, arrow}
use Rattle.mls_book.specs.Passes.{passes, passes_by, field_values}
use Rattle.mls_book.specs.Schemes.{Scheme, IsScheme, Subsumes, binder_passes}
use Rattle.mls_book.proofs.Depths.{Implies-refl, Implies-trans}
use Rattle.mls_book.proofs.Subsumption.{Subsumes-below, Subsumes-trans}
use Rattle.mls_typing.proofs.Lists.{Contains-cases, Contains-here, Contains-later}
use Rattle.mls_term.specs.Terms.{TermTree, TermFields, bound, inner, global, number, truth, fun, apply, make, project, choice, local, fix, no_field, a_field}
use Rattle.mls_term.specs.Derivations.{Known, with_let, Derives, IsBest}
use Rattle.mls_term.specs.WellFormed.{IsScoped, AreScoped}
use Rattle.mls_term.specs.TypingLaws.{AreSchemes}
use Rattle.mls_term.proofs.Metatheory.{AreSchemes-let, IsMoreGeneral-refl, IsMoreGeneral-let}
use Rattle.mls_typing.specs.Typed.{type_of, needs_of, IsTyped, Allows, AllOf, with_binder}
use Rattle.mls_typing.proofs.Contexts.{same_key}
use Rattle.mls_typing.proofs.Instances.{IsTyped-derived, typed_derives}
use Rattle.mls_typing.proofs.TypedForms.{same_self, typed_number, typed_truth, typed_bound, generated, rule_allows}
use Rattle.mls_typing.proofs.TypedParts.{typed_inner, typed_global, typed_fun, typed_fix}
use Rattle.mls_typing.proofs.TypedUses.{typed_apply, typed_project, typed_choice}
use Rattle.mls_typing.proofs.TypedMake.{typed_make}
use Rattle.mls_typing.proofs.TypedLet.{LetParts, let_parts, let_has, typed_more_general}

-- the scheme needs these binders alone
abbrev pub NeedsOnly : List ℕ → Scheme → Type 0
NeedsOnly binders s = (x i : ℕ) → finmap.get s.env x ≡ Some i → Contains binders x

-- so do the schemes that an expression with these lets and so many schemes of the environment may use
pub record KnownWithin (binders lets : List ℕ) (globals : ℕ) (known : Known) : Type 0 where
  pub lets_within : (k : ℕ) → Contains lets k → (s : Scheme) → finmap.get known.lets k ≡ Some s → NeedsOnly binders s
  pub globals_within : (g : ℕ) → g < globals → (s : Scheme) → slice_get known.globals g ≡ Some s → NeedsOnly binders s

-- lower at these binders
abbrev pub AreBelowAt : List ℕ → (ℕ → Predicate) → (ℕ → Predicate) → Type 0
AreBelowAt binders others types = (x : ℕ) → Contains binders x → Implies (others x) (types x)

-- one more binder, with the same type in both
with_same : (binders : List ℕ) (others types : ℕ → Predicate) (x : ℕ) (f : Predicate) → AreBelowAt binders others types → AreBelowAt (x ∷ binders) (with_binder others x f) (with_binder types x f)
with_same binders others types x f below y inside = at (eq_by_cmp nat_cmp y x) refl (Contains-cases x binders y inside)
  where
    at : (b : Bool) → eq_by_cmp nat_cmp y x ≡ b → (x ≡ y) ⊎ Contains binders y → Implies (cond b f (others y)) (cond b f (types y))
    at true e which = Implies-refl f
    at false e (inl same) = let own : eq_by_cmp nat_cmp y x ≡ true = (λ k. eq_by_cmp nat_cmp (sym same k) x) ∙ same_self x in absurd (cc)
    at false e (inr there) = below y there

within_more : (x : ℕ) (binders lets : List ℕ) (globals : ℕ) (known : Known) → KnownWithin binders lets globals known → KnownWithin (x ∷ binders) lets globals known
within_more x binders lets globals known within = record {
  lets_within = λ k inside s e y i e'. Contains-later x binders y (within.lets_within k inside s e y i e');
  globals_within = λ g low s e y i e'. Contains-later x binders y (within.globals_within g low s e y i e');
}

within_let : (binders lets : List ℕ) (globals : ℕ) (known : Known) (k : ℕ) (s : Scheme) → KnownWithin binders lets globals known → NeedsOnly binders s → KnownWithin binders (k ∷ lets) globals (with_let known k s)
within_let binders lets globals known k s within only = record {
  lets_within = λ q inside u e. by_key q (eq_by_cmp nat_cmp q k) refl (Contains-cases k lets q inside) u (sym (get-insert nat_cmp_total known.lets k s q) ∙ e);
  globals_within = within.globals_within;
}
  where
    by_key : (q : ℕ) (b : Bool) → eq_by_cmp nat_cmp q k ≡ b → (k ≡ q) ⊎ Contains lets q → (u : Scheme) → cond b (Some s) (finmap.get known.lets q) ≡ Some u → NeedsOnly binders u
    by_key q true e which u is = let same : s ≡ u = cc in let P : Scheme → Type 0 = λ u. NeedsOnly binders u in subst P same only
    by_key q false e (inl same) u is = let own : eq_by_cmp nat_cmp q k ≡ true = (λ i. eq_by_cmp nat_cmp (sym same i) k) ∙ same_self k in absurd (cc)
    by_key q false e (inr there) u is = within.lets_within q there u is

-- what a scheme allows depends on the types of the binders that it needs
allows_only : (binders : List ℕ) (s : Scheme) → NeedsOnly binders s → (types others : ℕ → Predicate) (f : Predicate) → AreBelowAt binders others types → Allows s types f → Allows s others f
allows_only binders s only types others f below a = record {
  book = a.book;
  closed = a.closed;
  reading = a.reading;
  held = a.held;
  root = a.root;
  env = λ x. at x (finmap.get s.env x) refl;
}
  where
    at : (x : ℕ) (o : Option ℕ) → finmap.get s.env x ≡ o → Implies (others x) (binder_passes (passes_by a.reading s.book) (finmap.get s.env x))
    at x None e = subst (λ o. Implies (others x) (binder_passes (passes_by a.reading s.book) o)) (sym e) (λ t h. refl)
    at x (Some i) e = Implies-trans (others x) (types x) (binder_passes (passes_by a.reading s.book) (finmap.get s.env x)) (below x (only x i e)) (a.env x)

-- whether a number is in a list
is_in : List ℕ → ℕ → Bool
is_in [] x = false
is_in (y ∷ rest) x = cond (eq_by_cmp nat_cmp x y) true (is_in rest x)

is_in-contains : (names : List ℕ) (x : ℕ) → is_in names x ≡ true → Contains names x
unfolding is_in
is_in-contains [] x e = absurd (cc)
is_in-contains (y ∷ rest) x e = at (eq_by_cmp nat_cmp x y) refl e (is_in-contains rest x)
  where
    at : (b : Bool) → eq_by_cmp nat_cmp x y ≡ b → cond b true (is_in rest x) ≡ true → (is_in rest x ≡ true → Contains rest x) → Contains (y ∷ rest) x
    at true same e later = let P : ℕ → Type 0 = λ z. Contains (y ∷ rest) z in subst P (sym (same_key x y same)) (Contains-here y rest)
    at false other e later = Contains-later y rest x (later e)

contains-is_in : (names : List ℕ) (x : ℕ) → Contains names x → is_in names x ≡ true
unfolding is_in
contains-is_in [] x it = let low : it.0 < 0 = it.1 in absurd (omega arith)
contains-is_in (y ∷ rest) x it = at (eq_by_cmp nat_cmp x y) refl (Contains-cases y rest x it) (contains-is_in rest x)
  where
    at : (b : Bool) → eq_by_cmp nat_cmp x y ≡ b → (y ≡ x) ⊎ Contains rest x → (Contains rest x → is_in rest x ≡ true) → cond b true (is_in rest x) ≡ true
    at true e which later = refl
    at false e (inl same) later = let own : eq_by_cmp nat_cmp x y ≡ true = (λ k. eq_by_cmp nat_cmp (sym same k) y) ∙ same_self y in absurd (cc)
    at false e (inr inside) later = later inside

-- the scheme with these binders alone
abbrev restricted : List ℕ → Scheme → Scheme
restricted binders s = record { book = s.book; env = finmap.retain_keys s.env (is_in binders); root = s.root }

get-restricted : (binders : List ℕ) (s : Scheme) (x : ℕ) → finmap.get (restricted binders s).env x ≡ cond (is_in binders x) (finmap.get s.env x) None
get-restricted binders s x = finmap.get-retain_keys s.env (is_in binders) x (λ y e. ap (is_in binders) (sym (finmap.nat_cmp-IsAntisymmetric x y e)))

module _ (binders : List ℕ) (s : Scheme) (is : IsScheme s) where
  restricted_entry : (x i : ℕ) → finmap.get (restricted binders s).env x ≡ Some i → Contains binders x × (finmap.get s.env x ≡ Some i)
  restricted_entry x i e = at (is_in binders x) refl (sym (get-restricted binders s x) ∙ e)
    where
      at : (b : Bool) → is_in binders x ≡ b → cond b (finmap.get s.env x) None ≡ Some i → Contains binders x × (finmap.get s.env x ≡ Some i)
      at true inside h = (is_in-contains binders x inside, h)
      at false outside h = absurd (cc)

  restricted_scheme : IsScheme (restricted binders s)
  restricted_scheme = record { book = is.book; root = is.root; env = λ x i e. is.env x i (restricted_entry x i e).1 }

  -- at these binders it needs the same, at others nothing
  restricted_below : AreBelowAt binders (needs_of (restricted binders s)) (needs_of s)
  restricted_below x inside =
      subst (λ o. Implies (binder_passes (passes s.book) o) (needs_of s x)) (sym (get-restricted binders s x ∙ ap (λ b. cond b (finmap.get s.env x) None) (contains-is_in binders x inside)))
      (Implies-refl (needs_of s x))

  restricted_above : (x : ℕ) → Implies (needs_of s x) (needs_of (restricted binders s) x)
  restricted_above x = subst (λ o. Implies (needs_of s x) (binder_passes (passes s.book) o)) (sym (get-restricted binders s x)) (at (is_in binders x))
    where
      at : (b : Bool) → Implies (needs_of s x) (binder_passes (passes s.book) (cond b (finmap.get s.env x) None))
      at true = Implies-refl (needs_of s x)
      at false = λ t e. refl

allows_restricted : (binders : List ℕ) (s : Scheme) → IsScheme s → (types : ℕ → Predicate) (f : Predicate) → Allows s types f → Allows (restricted binders s) types f
allows_restricted binders s is types f a = record {
  book = a.book;
  closed = a.closed;
  reading = a.reading;
  held = a.held;
  root = a.root;
  env = λ x. subst (λ o. Implies (types x) (binder_passes (passes_by a.reading s.book) o)) (sym (get-restricted binders s x)) (at x (is_in binders x));
}
  where
    at : (x : ℕ) (b : Bool) → Implies (types x) (binder_passes (passes_by a.reading s.book) (cond b (finmap.get s.env x) None))
    at x true = a.env x
    at x false = λ t e. refl

-- what an expression has depends on the types of the binders in scope alone
mutual
  pub scoped_types : (binders lets : List ℕ) (globals : ℕ) (known : Known) (t : TermTree) → AreSchemes known → KnownWithin binders lets globals known → IsScoped binders lets globals t
      → (types others : ℕ → Predicate) (f : Predicate) → AreBelowAt binders others types → IsTyped known types t f → IsTyped known others t f
  scoped_types binders lets globals known (bound at x) all within scoped types others f below h =
      let it = (typed_bound known types f at x).0 h in
      (typed_bound known others f at x).1 (record { between = it.between; is = it.is; above = Implies-trans (others x) (types x) it.between (below x scoped) it.above; below = it.below })
  scoped_types binders lets globals known (inner at k) all within scoped types others f below h =
      let s : Scheme = (generated known types (inner at k) f h).first in
      let is : finmap.get known.lets k ≡ Some s = (generated known types (inner at k) f h).rule in
      let a : Allows s types f = rule_allows known types (inner at k) f h in
      (typed_inner known all others f at k s is).1 (allows_only binders s (within.lets_within k scoped s is) types others f below a)
  scoped_types binders lets globals known (global at g) all within scoped types others f below h =
      let s : Scheme = (generated known types (global at g) f h).first in
      let is : slice_get known.globals g ≡ Some s = (generated known types (global at g) f h).rule in
      let a : Allows s types f = rule_allows known types (global at g) f h in
      (typed_global known all others f at g s is).1 (allows_only binders s (within.globals_within g scoped s is) types others f below a)
  scoped_types binders lets globals known (number at value) all within scoped types others f below h = (typed_number known others f at value).1 ((typed_number known types f at value).0 h)
  scoped_types binders lets globals known (truth at value) all within scoped types others f below h = (typed_truth known others f at value).1 ((typed_truth known types f at value).0 h)
  scoped_types binders lets globals known (fun at x e) all within scoped types others f below h =
      let it = (typed_fun known all types f at x e).0 h in
      (typed_fun known all others f at x e).1 (record {
        domain = it.domain;
        codomain = it.codomain;
        domain_is = it.domain_is;
        codomain_is = it.codomain_is;
        body =
            scoped_types (x ∷ binders) lets globals known e all (within_more x binders lets globals known within) scoped (with_binder types x it.domain) (with_binder others x it.domain) it.codomain
            (with_same binders others types x it.domain below) it.body;
        below = it.below;
      })
  scoped_types binders lets globals known (apply at e e') all within scoped types others f below h =
      let it = (typed_apply known all types f at e e').0 h in
      (typed_apply known all others f at e e').1 (record {
        domain = it.domain;
        codomain = it.codomain;
        domain_is = it.domain_is;
        codomain_is = it.codomain_is;
        function = scoped_types binders lets globals known e all within scoped.0 types others (arrow it.domain it.codomain) below it.function;
        argument = scoped_types binders lets globals known e' all within scoped.1 types others it.domain below it.argument;
        below = it.below;
      })
  scoped_types binders lets globals known (make at parts) all within scoped types others f below h =
      let it = (typed_make known all types f at parts).0 h in
      (typed_make known all others f at parts).1 (record {
        book = it.book;
        closed = it.closed;
        fields = it.fields;
        rising = it.rising;
        within = it.within;
        labels = it.labels;
        each = scoped_fields binders lets globals known parts all within scoped.1 types others (field_values (passes it.book) it.fields) below it.each;
        below = it.below;
      })
  scoped_types binders lets globals known (project at e label) all within scoped types others f below h =
      let it = (typed_project known all types f at e label).0 h in
      (typed_project known all others f at e label).1 (record {
        field = it.field;
        field_is = it.field_is;
        body = scoped_types binders lets globals known e all within scoped types others _ below it.body;
        below = it.below;
      })
  scoped_types binders lets globals known (choice at c e e') all within scoped types others f below h =
      let it = (typed_choice known all types f at c e e').0 h in
      (typed_choice known all others f at c e e').1 (record {
        branch = it.branch;
        branch_is = it.branch_is;
        condition = scoped_types binders lets globals known c all within scoped.0 types others bool below it.condition;
        first = scoped_types binders lets globals known e all within scoped.1 types others it.branch below it.first;
        second = scoped_types binders lets globals known e' all within scoped.2 types others it.branch below it.second;
        below = it.below;
      })
  scoped_types binders lets globals known (local at k e e') all within scoped types others f below h =
      let it : LetParts known types k e e' f = let_parts known all types f at k e e' h in
      let s : Scheme = it.scheme in
      let r : Scheme = restricted binders s in
      let is_r : IsScheme r = restricted_scheme binders s it.is in
      let only : NeedsOnly binders r = λ x i h. (restricted_entry binders s it.is x i h).0 in
      let first : IsTyped known (needs_of r) e (type_of r) =
      scoped_types binders lets globals known e all within scoped.0 (needs_of s) (needs_of r) (type_of s) (restricted_below binders s it.is) (IsTyped-derived known e s it.is it.derives) in
      let derives : Derives known e r = typed_derives known e r is_r first in
      let general : Subsumes r s = Subsumes-below r s (record { root = Implies-refl (type_of s); env = restricted_above binders s it.is }) in
      let allowed : Allows r others top = allows_only binders r only types others top below (allows_restricted binders s it.is types top it.allowed) in
      let second : IsTyped (with_let known k r) types e' f =
      typed_more_general (with_let known k r) (with_let known k s) types e' f (IsMoreGeneral-let known known k r s (IsMoreGeneral-refl known) general) (AreSchemes-let known k s all it.is) it.second in
      let_has known all others f at k e e' r is_r derives allowed
      (scoped_types binders (k ∷ lets) globals (with_let known k r) e' (AreSchemes-let known k r all is_r) (within_let binders lets globals known k r within only) scoped.1 types others f below second)
  scoped_types binders lets globals known (fix at x e) all within scoped types others f below h =
      let it = (typed_fix known all types f at x e).0 h in
      (typed_fix known all others f at x e).1 (record {
        body_type = it.body_type;
        is = it.is;
        body =
            scoped_types (x ∷ binders) lets globals known e all (within_more x binders lets globals known within) scoped (with_binder types x it.body_type) (with_binder others x it.body_type) it.body_type
            (with_same binders others types x it.body_type below) it.body;
        below = it.below;
      })

  scoped_fields : (binders lets : List ℕ) (globals : ℕ) (known : Known) (parts : TermFields) → AreSchemes known → KnownWithin binders lets globals known → AreScoped binders lets globals parts
      → (types others : ℕ → Predicate) (fields : List ℕ → Option Predicate) → AreBelowAt binders others types → AllOf (λ e ts g. IsTyped known ts e g) parts types fields → AllOf (λ e ts g. IsTyped known ts e g) parts others fields
  scoped_fields binders lets globals known no_field all within scoped types others fields below h = tt
  scoped_fields binders lets globals known (a_field label e rest) all within scoped types others fields below h = (
    (h.0.0, h.0.1, scoped_types binders lets globals known e all within scoped.0 types others h.0.0 below h.0.2),
    scoped_fields binders lets globals known rest all within scoped.1 types others fields below h.1,
  )

-- a best scheme of a whole term is best without its environment
pub closed_best : (known : Known) → AreSchemes known → (globals : ℕ) (t : TermTree) → KnownWithin [] [] globals known → IsScoped [] [] globals t → (s : Scheme) → IsScheme s → IsBest known t s → IsBest known t (record { book = s.book; env = finmap.empty; root = s.root })
closed_best known all globals t within scoped s is best = record {
  derives =
      typed_derives known t u is_u
      (scoped_types [] [] globals known t all within scoped (needs_of s) (needs_of u) (type_of s) (λ x inside. absurd (nothing x inside)) (IsTyped-derived known t s is best.derives));
  least = λ other h.
      Subsumes-trans u s other
      (Subsumes-below u s (record { root = Implies-refl (type_of s); env = λ x. subst (λ o. Implies (needs_of s x) (binder_passes (passes s.book) o)) (sym (get-empty nat_cmp x)) (λ t e. refl) }))
      (best.least other h);
}
  where
    u : Scheme
    u = record { book = s.book; env = finmap.empty; root = s.root }

    nothing : (x : ℕ) → Contains [] x → ⊥
    nothing x it = let low : it.0 < 0 = it.1 in absurd (omega arith)

    is_u : IsScheme u
    is_u = record { book = is.book; root = is.root; env = λ x i e. let none : finmap.get (finmap.empty {X = ℕ} {R = nat_cmp}) x ≡ None = get-empty nat_cmp x in absurd (cc) }
