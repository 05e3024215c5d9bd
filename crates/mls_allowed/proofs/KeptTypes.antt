-- Families of types that are changed on the nodes of a part and on its binders alone.
--     with_other, with_is_type        one type set
--     AgreeOn, with_agree             the same types of the binders around
--     reset                           the type `top` for some binders
--     instance_on, allows_on          what a scheme allows depends on the binders that it needs
--     AreKept, kept_all, kept_less, kept_then, kept_binder
use Rattle.std.proofs.Common.{◌≡◌, ◌⊎◌, inl, inr, ℕ, ◌<◌, ◌≤◌, Bool, true, false, cond, List, ◌∷◌, ◌++◌, refl, sym, ◌∙◌, subst, arith, Some}
use Rattle.std.specs.Prelude.{Option, None, Contains}
use Rattle.std.specs.Prelude.{◌==◌}
use Rattle.std.specs.List.{list_any}
use Rattle.std.proofs.lemmas.Bool.{eqb-true, eq-eqb}
use Rattle.mls_automaton.proofs.Lists.{any_found, found_any}
use Rattle.std.specs.FinMap as env
use Rattle.std.specs.Ordering.{nat_cmp, eq_by_cmp}
use Rattle.std.proofs.lemmas.List.Elements.{Contains-append_left, Contains-append_right}
use Rattle.mls_book.specs.Predicates.{Predicate, Implies, top}
use Rattle.mls_book.specs.Passes.{passes_by}
use Rattle.mls_book.specs.Schemes.{Scheme, binder_passes}
use Rattle.mls_book.proofs.Depths.{Implies-refl, Implies-trans, Implies-same}
use Rattle.mls_typing.specs.Typed.{Types, IsType, with_binder, Allows}
use Rattle.mls_typing.proofs.Contexts.{same_key}
use Rattle.mls_typing.proofs.Instances.{Allows-more}
use Rattle.mls_typing.proofs.Lists.{Contains-here, Contains-later, Contains-cases}
use Rattle.mls_typing.proofs.TypedForms.{same_self}
use Rattle.mls_parts.specs.NodeTypes.{HasInstance, NeedsOnly}
use Rattle.mls_parts.proofs.HeldTypes.{top_type}

-- one type set
pub with_other : (types : ℕ → Predicate) (x : ℕ) (f : Predicate) (y : ℕ) → (y ≡ x → ⊥) → with_binder types x f y ≡ types y
with_other types x f y differs = at (eq_by_cmp nat_cmp y x) refl
  where
    at : (b : Bool) → eq_by_cmp nat_cmp y x ≡ b → cond b f (types y) ≡ types y
    at true e = absurd (differs (same_key y x e))
    at false e = refl

pub with_is_type : (types : ℕ → Predicate) (x : ℕ) (f : Predicate) (y : ℕ) → IsType f → IsType (types y) → IsType (with_binder types x f y)
with_is_type types x f y is others = at (eq_by_cmp nat_cmp y x)
  where
    at : (b : Bool) → IsType (cond b f (types y))
    at true = is
    at false = others

-- the same for these binders
abbrev pub AgreeOn : List ℕ → Types → Types → Type 0
AgreeOn scope types others = (x : ℕ) → Contains scope x → types x ≡ others x

pub with_agree : (scope : List ℕ) (x : ℕ) (f : Predicate) (types others : Types) → AgreeOn scope types others → AgreeOn (x ∷ scope) (with_binder types x f) (with_binder others x f)
with_agree scope x f types others agree y inside = at (eq_by_cmp nat_cmp y x) refl (Contains-cases x scope y inside)
  where
    at : (b : Bool) → eq_by_cmp nat_cmp y x ≡ b → (x ≡ y) ⊎ Contains scope y → cond b f (types y) ≡ cond b f (others y)
    at true e which = refl
    at false e (inl same) = let own : eq_by_cmp nat_cmp y x ≡ true = (λ k. eq_by_cmp nat_cmp (sym same k) x) ∙ same_self x in absurd (cc)
    at false e (inr there) = agree y there

-- the type `top` for these binders
abbrev pub reset : List ℕ → Types → Types
reset bs types x = cond (list_any (λ y. y == x) bs) top (types x)

pub reset_inside : (bs : List ℕ) (types : Types) (x : ℕ) → Contains bs x → IsType (reset bs types x)
reset_inside bs types x inside =
    subst (λ b. IsType (cond b top (types x))) (sym (found_any (λ y. y == x) bs x inside (eq-eqb x x refl))) top_type

pub reset_outside : (bs : List ℕ) (types : Types) (x : ℕ) → (Contains bs x → ⊥) → reset bs types x ≡ types x
reset_outside bs types x out = at (list_any (λ y. y == x) bs) refl
  where
    at : (b : Bool) → list_any (λ y. y == x) bs ≡ b → cond b top (types x) ≡ types x
    at true e =
        let it = any_found (λ y. y == x) bs e in
        let P : ℕ → Type 0 = λ z. Contains bs z in
        absurd (out (subst P (eqb-true it.0 x it.2) it.1))
    at false e = refl

-- an instance of a scheme depends on the binders that it needs alone
pub instance_on : (scope : List ℕ) (s : Scheme) (types others : Types) (f g : Predicate) → NeedsOnly scope s → AgreeOn scope others types → (a : Allows s types f) → passes_by a.reading s.book s.root ≡ g → HasInstance s others g
instance_on scope s types others f g needs agree a same = (
  record {
    book = a.book;
    closed = a.closed;
    reading = a.reading;
    held = a.held;
    root = Implies-same (passes_by a.reading s.book s.root) g same;
    env = λ x. at x (env.get s.env x) refl;
  },
  same,
)
  where
    at : (x : ℕ) (o : Option ℕ) → env.get s.env x ≡ o → Implies (others x) (binder_passes (passes_by a.reading s.book) (env.get s.env x))
    at x None e = subst (λ o. Implies (others x) (binder_passes (passes_by a.reading s.book) o)) (sym e) (λ t h. refl)
    at x (Some i) e = Implies-trans (others x) (types x) (binder_passes (passes_by a.reading s.book) (env.get s.env x)) (Implies-same (others x) (types x) (agree x (needs x i e))) (a.env x)

-- and so does what it allows
pub allows_on : (scope : List ℕ) (s : Scheme) (types others : Types) (f : Predicate) → NeedsOnly scope s → AgreeOn scope others types → Allows s types f → Allows s others f
allows_on scope s types others f needs agree a =
    let g : Predicate = passes_by a.reading s.book s.root in
    Allows-more s others others g f (λ x. Implies-refl (others x)) a.root (instance_on scope s types others f g needs agree a refl).0

-- Families of types are kept: on the nodes before n and on all binders but these.
pub record AreKept (n : ℕ) (bs : List ℕ) (old : ℕ → Predicate) (olds : Types) (type : ℕ → Predicate) (binder : Types) : Type 0 where
  pub nodes : (m : ℕ) → m < n → type m ≡ old m
  pub binders : (x : ℕ) → (Contains bs x → ⊥) → binder x ≡ olds x
  pub nodes_are : ((m : ℕ) → IsType (old m)) → (m : ℕ) → IsType (type m)
  pub binders_are : (x : ℕ) → IsType (olds x) → IsType (binder x)

pub kept_all : (n : ℕ) (bs : List ℕ) (old : ℕ → Predicate) (olds : Types) → AreKept n bs old olds old olds
kept_all n bs old olds = record { nodes = λ m low. refl; binders = λ x out. refl; nodes_are = λ are. are; binders_are = λ x is. is }

pub kept_less : (n m : ℕ) (bs cs : List ℕ) (old : ℕ → Predicate) (olds : Types) (type : ℕ → Predicate) (binder : Types) → n ≤ m → ((x : ℕ) → Contains bs x → Contains cs x)
    → AreKept m bs old olds type binder → AreKept n cs old olds type binder
kept_less n m bs cs old olds type binder le more kept = record {
  nodes = λ k low. let low' : k < n = low in kept.nodes k (omega arith);
  binders = λ x out. kept.binders x (λ inside. out (more x inside));
  nodes_are = kept.nodes_are;
  binders_are = kept.binders_are;
}

pub kept_then : (n m : ℕ) (bs cs : List ℕ) (old : ℕ → Predicate) (olds : Types) (type : ℕ → Predicate) (binder : Types) (next : ℕ → Predicate) (nexts : Types) → n ≤ m
    → AreKept n bs old olds type binder → AreKept m cs type binder next nexts → AreKept n (bs ++ cs) old olds next nexts
kept_then n m bs cs old olds type binder next nexts le one two = record {
  nodes = λ k low. let low' : k < n = low in two.nodes k (omega arith) ∙ one.nodes k low;
  binders = λ x out. two.binders x (λ inside. out (Contains-append_right bs cs x inside)) ∙ one.binders x (λ inside. out (Contains-append_left bs cs x inside));
  nodes_are = λ are. two.nodes_are (one.nodes_are are);
  binders_are = λ x is. two.binders_are x (one.binders_are x is);
}

-- one more binder, of this type
pub kept_binder : (n : ℕ) (x : ℕ) (bs : List ℕ) (f : Predicate) → IsType f → (old : ℕ → Predicate) (olds : Types) (type : ℕ → Predicate) (binder : Types)
    → AreKept n bs old (with_binder olds x f) type binder → AreKept n (x ∷ bs) old olds type binder
kept_binder n x bs f is old olds type binder kept = record {
  nodes = kept.nodes;
  binders = λ y out. kept.binders y (λ inside. out (Contains-later x bs y inside)) ∙ with_other olds x f y (λ same. let P : ℕ → Type 0 = λ z. Contains (x ∷ bs) z in out (subst P (sym same) (Contains-here x bs)));
  nodes_are = kept.nodes_are;
  binders_are = λ y other. kept.binders_are y (with_is_type olds x f y is other);
}
