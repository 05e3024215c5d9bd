-- What an expression has, form by form: the rules of typing without schemes, books and subsumption.
--     typed_bound, typed_number, typed_truth, typed_inner, typed_global
--     typed_fun, typed_apply, typed_project, typed_choice, typed_fix
use Rattle.std.proofs.Common.{◌≡◌, ◌↔◌, ℕ, ◌<◌, Bool, true, false, cond, List, [], length, refl, sym, ap, ◌∙◌, subst, arith, Some}
use Rattle.std.specs.Prelude.{None}
use Rattle.std.specs.FinMap as finmap
use Rattle.std.specs.FinMap.{get-empty, get-insert}
use Rattle.std.specs.Ordering.{nat_cmp, eq_by_cmp, is_eq}
use Rattle.std.specs.Cmp.{nat_cmp_is}
use Rattle.std.specs.declared.cmp.Ordering.TheVariants.{Equal}
use Rattle.std.proofs.lemmas.Cmp.{nat_cmp_total}
use Rattle.mls_book.specs.declared.book.Node.{Node}
use Rattle.mls_book.specs.declared.book.Node.TheVariants as node
use Rattle.mls_book.specs.Books.{node_at, IsClosedBook, HasChildrenBelow}
use Rattle.mls_book.specs.Predicates.{Predicate, Implies, meet, bool, int, var}
use Rattle.mls_book.specs.Passes.{passes, passes_by}
use Rattle.mls_book.specs.Schemes.{Env, Scheme, IsScheme, binder_passes}
use Rattle.mls_book.proofs.Depths.{Implies-refl, Implies-trans, Implies-same, Implies-same_back}
use Rattle.mls_book.proofs.Lattice.{meet_left, meet_right, meet_greatest}
use Rattle.mls_book.proofs.LongerBooks.{closed_from, Extends, Extends-trans, Extends-holds, extended_with, Holds, Holds-trans, united}
use Rattle.mls_book.proofs.MovedSchemes.{moved_env, get-moved_env}
use Rattle.mls_book.proofs.Representation.{IsIn-held}
use Rattle.mls_book.proofs.Table.{value-bool, value-int}
use Rattle.mls_term.specs.Terms.{TermTree, bound, number, truth}
use Rattle.mls_term.specs.Derivations.{Known, over, Derives, var_fun, lit_truth, lit_number}
use Rattle.mls_term.proofs.Environments.{one, get-one, scheme_at, is_scheme-empty, is_scheme-one}
use Rattle.mls_term.proofs.Rules.{ByBound, ByTruth, ByNumber, Generated, generation}
use Rattle.mls_typing.specs.Typed.{type_of, needs_of, IsTypeOf, IsType, AreBelow, with_binder, IsTyped, Allows, OfBound}
use Rattle.mls_typing.proofs.Contexts.{IsWithin, same_key, MeetIn, meet_in, IsMeet-value, held_under, longer_under, held_within, longer_within}
use Rattle.mls_typing.proofs.Instances.{Subsumes-allows, Allows-more, IsTyped-more, typed_derives, instance_is_type}

pub same_self : (x : ℕ) → eq_by_cmp nat_cmp x x ≡ true
same_self x = ap is_eq (sym (nat_cmp_is x x Equal refl))

-- types of binders that stand in a closed book, above these
pub record Context (types : ℕ → Predicate) : Type 0 where
  pub book : List Node
  pub closed : IsClosedBook book
  pub env : Env
  pub within : IsWithin book env
  pub above : (x : ℕ) → Implies (types x) (binder_passes (passes book) (finmap.get env x))

abbrev pub needs_in : {types : ℕ → Predicate} → Context types → ℕ → Predicate
needs_in c x = binder_passes (passes c.book) (finmap.get c.env x)

-- an expression has its type in a context too
pub in_context : (known : Known) (types : ℕ → Predicate) (t : TermTree) (f : Predicate) → IsTyped known types t f → (c : Context types) × IsTyped known (needs_in c) t f
in_context known types t f h = (
  record { book = h.scheme.book; closed = h.is.book; env = h.scheme.env; within = h.is.env; above = h.env },
  record { scheme = h.scheme; is = h.is; derives = h.derives; root = h.root; env = λ x. Implies-refl (needs_of h.scheme x) },
)

-- two contexts have a lower one
module _ (types : ℕ → Predicate) (c d : Context types) where
  abbrev u : (b : List Node) × Extends c.book b × ((place : ℕ → ℕ) × Holds d.book b place)
  u = united c.book d.book c.closed d.closed

  abbrev right : Env
  right = moved_env u.2.0 d.env

  abbrev m : MeetIn u.0 c.env right
  m =
      meet_in u.0 u.1.closed c.env right (longer_within c.book u.0 c.env u.1 c.within)
      (λ x j e. held_within d.book u.0 u.2.0 u.2.1 (finmap.get d.env x) (d.within x) j (sym (get-moved_env u.2.0 d.env x) ∙ e))

  meet_value : (x : ℕ) → binder_passes (passes m.book) (finmap.get m.both x) ≡ meet (needs_in c x) (needs_in d x)
  meet_value x =
      let first : binder_passes (passes m.book) (finmap.get c.env x) ≡ needs_in c x = longer_under var c.book m.book c.closed (Extends-trans c.book u.0 m.book u.1 m.extends) (finmap.get c.env x) (c.within x) in
      let second : binder_passes (passes m.book) (finmap.get right x) ≡ needs_in d x =
      ap (binder_passes (passes m.book)) (get-moved_env u.2.0 d.env x)
      ∙ held_under var d.book m.book u.2.0 (Holds-trans d.book u.0 m.book u.2.0 (λ i. i) u.2.1 (Extends-holds u.0 m.book u.1.closed m.extends)) (finmap.get d.env x) (d.within x) in
      IsMeet-value m.book m.extends.closed c.env right m.both m.is var x ∙ (λ k. meet (first k) (second k))

  pub meet_contexts : (e : Context types) × AreBelow (needs_in e) (needs_in c) × AreBelow (needs_in e) (needs_in d)
  meet_contexts = (
    record {
      book = m.book;
      closed = m.extends.closed;
      env = m.both;
      within = m.within;
      above = λ x. subst (Implies (types x)) (sym (meet_value x)) (meet_greatest (needs_in c x) (needs_in d x) (types x) (c.above x) (d.above x));
    },
    λ x. subst (λ f. Implies f (needs_in c x)) (sym (meet_value x)) (meet_left (needs_in c x) (needs_in d x)),
    λ x. subst (λ f. Implies f (needs_in d x)) (sym (meet_value x)) (meet_right (needs_in c x) (needs_in d x)),
  )

-- in a context, what an expression has is derivable at every node of a longer book that has the type
pub derived_over : (known : Known) (types : ℕ → Predicate) (c : Context types) (b : List Node) → Extends c.book b → (t : TermTree) (f : Predicate) → IsTyped known (needs_in c) t f → (n : ℕ) → n < length b → Implies f (passes b n) → Derives known t (scheme_at b c.env n)
derived_over known types c b more t f h n low above =
    let s : Scheme = scheme_at b c.env n in
    typed_derives known t s (record { book = more.closed; root = low; env = longer_within c.book b c.env more c.within })
    (IsTyped-more known (needs_in c) (needs_of s) t f (type_of s)
    (λ x. Implies-same (needs_of s x) (needs_in c x) (longer_under var c.book b c.closed more (finmap.get c.env x) (c.within x)))
    above h)

-- and back
pub typed_over : (known : Known) (types : ℕ → Predicate) (c : Context types) (b : List Node) → Extends c.book b → (t : TermTree) (f : Predicate) (n : ℕ) → n < length b → Derives known t (scheme_at b c.env n) → Implies (passes b n) f → IsTyped known types t f
typed_over known types c b more t f n low h below = record {
  scheme = scheme_at b c.env n;
  is = record { book = more.closed; root = low; env = longer_within c.book b c.env more c.within };
  derives = h;
  root = below;
  env = λ x. Implies-trans (types x) (needs_in c x) (needs_of (scheme_at b c.env n) x) (c.above x) (Implies-same_back (needs_of (scheme_at b c.env n) x) (needs_in c x) (longer_under var c.book b c.closed more (finmap.get c.env x) (c.within x)));
}

-- a longer book that has a type
pub with_type : (b : List Node) → IsClosedBook b → (f : Predicate) → IsType f → (c : List Node) × Extends b c × IsTypeOf c f
with_type b closed f is =
    let u = united b is.0 closed is.1 in
    (u.0, u.1, IsIn-held is.0 u.0 u.2.0 f u.2.1 is.2)

-- an instance of a scheme, as one of the same scheme's other nodes
pub Allows-over : (s : Scheme) (types : ℕ → Predicate) (f : Predicate) (a : Allows s types f) (others : ℕ → Predicate) (g : Predicate) (d : Env) (i : ℕ)
    → Implies (passes_by a.reading s.book i) g → ((x : ℕ) → Implies (others x) (binder_passes (passes_by a.reading s.book) (finmap.get d x)))
    → Allows (over s d i) others g
Allows-over s types f a others g d i root needs = record { book = a.book; closed = a.closed; reading = a.reading; held = a.held; root = root; env = needs }

-- the children of a node of a scheme are there
pub children_there : (s : Scheme) → IsScheme s → (i : ℕ) → i < length s.book → (x : Node) → node_at s.book i ≡ x → HasChildrenBelow (length s.book) x
children_there s is i low x e = subst (HasChildrenBelow (length s.book)) e (is.book.closed i node.Bot low)

-- what an expression has, by the rule of its form: the scheme of the rule allows it
module _ (known : Known) (types : ℕ → Predicate) (t : TermTree) (f : Predicate) (h : IsTyped known types t f) where
  abbrev pub generated : Generated known t h.scheme
  generated = generation known t h.scheme h.derives

  abbrev pub rule_allows : Allows generated.first types f
  rule_allows = Allows-more generated.first (needs_of h.scheme) types (type_of h.scheme) f h.env h.root (Subsumes-allows generated.first h.scheme generated.subsumes)

-- a binder at its own type
pub with_binder-same : (types : ℕ → Predicate) (x : ℕ) (f : Predicate) → with_binder types x f x ≡ f
with_binder-same types x f = ap (λ b. cond b f (types x)) (same_self x)

module _ (known : Known) (types : ℕ → Predicate) (f : Predicate) where
  -- numbers and truth values
  pub typed_number : (at value : ℕ) → IsTyped known types (number at value) f ↔ Implies int f
  typed_number at value = (forth, back)
    where
      forth : IsTyped known types (number at value) f → Implies int f
      forth h =
          let g : Generated known (number at value) h.scheme = generated known types (number at value) f h in
          let a : Allows g.first types f = rule_allows known types (number at value) f h in
          let rule : ByNumber g.first = g.rule in
          Implies-trans int (passes_by a.reading g.first.book g.first.root) f
          (Implies-same_back (passes_by a.reading g.first.book g.first.root) int (value-int a.reading g.first.book rule.scheme.book.book g.first.root rule.root_is)) a.root

      back : Implies int f → IsTyped known types (number at value) f
      back below =
          let it = extended_with [] node.Int (closed_from [] (λ i low. absurd (omega arith))) tt tt in
          let s : Scheme = scheme_at it.0 finmap.empty it.2.0 in
          let is : IsScheme s = is_scheme-empty it.0 it.1.closed it.2.0 it.2.1 in
          record {
            scheme = s;
            is = is;
            derives = lit_number at value refl is refl it.2.2;
            root = Implies-trans (type_of s) int f (Implies-same (type_of s) int (value-int var it.0 it.1.closed.book it.2.0 it.2.2)) below;
            env = λ x. subst (λ o. Implies (types x) (binder_passes (passes it.0) o)) (sym (get-empty nat_cmp x)) (λ t e. refl);
          }

  pub typed_truth : (at : ℕ) (value : Bool) → IsTyped known types (truth at value) f ↔ Implies bool f
  typed_truth at value = (forth, back)
    where
      forth : IsTyped known types (truth at value) f → Implies bool f
      forth h =
          let g : Generated known (truth at value) h.scheme = generated known types (truth at value) f h in
          let a : Allows g.first types f = rule_allows known types (truth at value) f h in
          let rule : ByTruth g.first = g.rule in
          Implies-trans bool (passes_by a.reading g.first.book g.first.root) f
          (Implies-same_back (passes_by a.reading g.first.book g.first.root) bool (value-bool a.reading g.first.book rule.scheme.book.book g.first.root rule.root_is)) a.root

      back : Implies bool f → IsTyped known types (truth at value) f
      back below =
          let it = extended_with [] node.Bool (closed_from [] (λ i low. absurd (omega arith))) tt tt in
          let s : Scheme = scheme_at it.0 finmap.empty it.2.0 in
          let is : IsScheme s = is_scheme-empty it.0 it.1.closed it.2.0 it.2.1 in
          record {
            scheme = s;
            is = is;
            derives = lit_truth at value refl is refl it.2.2;
            root = Implies-trans (type_of s) bool f (Implies-same (type_of s) bool (value-bool var it.0 it.1.closed.book it.2.0 it.2.2)) below;
            env = λ x. subst (λ o. Implies (types x) (binder_passes (passes it.0) o)) (sym (get-empty nat_cmp x)) (λ t e. refl);
          }

  -- a binder
  pub typed_bound : (at x : ℕ) → IsTyped known types (bound at x) f ↔ OfBound x types f
  typed_bound at x = (forth, back)
    where
      forth : IsTyped known types (bound at x) f → OfBound x types f
      forth h =
          let g : Generated known (bound at x) h.scheme = generated known types (bound at x) f h in
          let a : Allows g.first types f = rule_allows known types (bound at x) f h in
          let rule : ByBound x g.first = g.rule in
          let P : ℕ → Predicate = passes_by a.reading g.first.book in
          record {
            between = P g.first.root;
            is = instance_is_type g.first rule.scheme types f a g.first.root rule.scheme.root;
            above = subst (λ o. Implies (types x) (binder_passes P o)) ((λ k. finmap.get (rule.env_is k) x) ∙ get-one x g.first.root) (a.env x);
            below = a.root;
          }

      needs : (b : List Node) (n y : ℕ) (g : Predicate) → passes b n ≡ g → Implies (types x) g → (e : Bool) → eq_by_cmp nat_cmp y x ≡ e → Implies (types y) (binder_passes (passes b) (cond e (Some n) None))
      needs b n y g is above true e = let P : ℕ → Type 0 = λ z. Implies (types z) (passes b n) in subst P (sym (same_key y x e)) (subst (Implies (types x)) (sym is) above)
      needs b n y g is above false e = λ t k. refl

      back : OfBound x types f → IsTyped known types (bound at x) f
      back it =
          let b = it.is.0 in
          let n = it.is.2.0 in
          let s : Scheme = scheme_at b (one x n) n in
          let is : IsScheme s = is_scheme-one b it.is.1 x n n it.is.2.1 it.is.2.1 in
          record {
            scheme = s;
            is = is;
            derives = var_fun at x refl is refl;
            root = Implies-trans (type_of s) it.between f (Implies-same (type_of s) it.between it.is.2.2) it.below;
            env = λ y.
                subst (λ o. Implies (types y) (binder_passes (passes b) o))
                (sym (get-insert nat_cmp_total finmap.empty x n y ∙ ap (cond (eq_by_cmp nat_cmp y x) (Some n)) (get-empty nat_cmp y)))
                (needs b n y it.between it.is.2.2 it.above (eq_by_cmp nat_cmp y x) refl);
          }
