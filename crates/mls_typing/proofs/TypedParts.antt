-- What an expression has, by what its parts have: names, functions, recursion.
--     typed_inner, typed_global, typed_fun, typed_fix
use Rattle.std.proofs.Common.{◌≡◌, ◌↔◌, inl, inr, ℕ, ◌<◌, ◌≤◌, Bool, true, false, cond, List, length, refl, sym, ap, ◌∙◌, subst, arith, Some, slice_get}
use Rattle.std.specs.Prelude.{None}
use Rattle.std.specs.FinMap as finmap
use Rattle.std.specs.FinMap.{get-insert, get-remove}
use Rattle.std.specs.Ordering.{nat_cmp, eq_by_cmp}
use Rattle.std.proofs.lemmas.Cmp.{nat_cmp_total}
use Rattle.mls_book.specs.declared.book.NodeId.{NodeId}
use Rattle.mls_book.specs.declared.book.Node.{Node}
use Rattle.mls_book.specs.declared.book.Node.TheVariants as node
use Rattle.mls_book.specs.Books.{IsClosedBook, HasChildrenBelow}
use Rattle.mls_book.specs.Predicates.{Predicate, Implies, arrow, var}
use Rattle.mls_book.specs.Passes.{passes, passes_by}
use Rattle.mls_book.specs.Schemes.{Env, Scheme, IsScheme, binder_passes}
use Rattle.mls_book.proofs.Constructors.{arrow-implies}
use Rattle.mls_book.proofs.Depths.{Implies-refl, Implies-trans, Implies-same, Implies-same_back}
use Rattle.mls_book.proofs.LongerBooks.{Extends, Extends-value, Extends-trans, extended_with}
use Rattle.mls_book.proofs.Table.{value-arrow}
use Rattle.mls_term.specs.Terms.{TermTree, inner, global, fun, fix}
use Rattle.mls_term.specs.Derivations.{Known, over, Takes, var_inner, var_global, abs, rec_fix, sub}
use Rattle.mls_term.specs.TypingLaws.{AreSchemes}
use Rattle.mls_term.proofs.Environments.{scheme_at}
use Rattle.mls_term.proofs.Metatheory.{derived_scheme}
use Rattle.mls_term.proofs.Rules.{ByFun, ByFix, Generated}
use Rattle.mls_typing.specs.Typed.{type_of, needs_of, AreBelow, with_binder, IsTyped, Allows, OfFun, OfFix}
use Rattle.mls_typing.proofs.Contexts.{IsWithin, same_key}
use Rattle.mls_typing.proofs.Instances.{typed_under, instance_is_type}
use Rattle.mls_book.proofs.Subsumption.{Subsumes-below}
use Rattle.mls_typing.proofs.Contexts.{longer_under, longer_within}
use Rattle.mls_typing.proofs.TypedForms.{same_self, with_binder-same, with_type, Allows-over, children_there, generated, rule_allows}

some_is : {s u : Scheme} → Some s ≡ Some u → s ≡ u
some_is e = cc

module _ (known : Known) (all : AreSchemes known) (types : ℕ → Predicate) (f : Predicate) where
  -- a name that is known by a scheme has what the scheme allows
  pub typed_inner : (at k : ℕ) (s : Scheme) → finmap.get known.lets k ≡ Some s → IsTyped known types (inner at k) f ↔ Allows s types f
  typed_inner at k s known_is = (forth, λ a. typed_under s (all.lets k s known_is) types f a known (inner at k) (var_inner at k refl known_is))
    where
      forth : IsTyped known types (inner at k) f → Allows s types f
      forth h =
          let a : Allows (generated known types (inner at k) f h).first types f = rule_allows known types (inner at k) f h in
          let rule : finmap.get known.lets k ≡ Some (generated known types (inner at k) f h).first = (generated known types (inner at k) f h).rule in
          let same : (generated known types (inner at k) f h).first ≡ s = some_is (sym rule ∙ known_is) in
          subst (λ (u : Scheme). Allows u types f) same a

  pub typed_global : (at k : ℕ) (s : Scheme) → slice_get known.globals k ≡ Some s → IsTyped known types (global at k) f ↔ Allows s types f
  typed_global at k s known_is = (forth, λ a. typed_under s (all.globals k s known_is) types f a known (global at k) (var_global at k refl known_is))
    where
      forth : IsTyped known types (global at k) f → Allows s types f
      forth h =
          let a : Allows (generated known types (global at k) f h).first types f = rule_allows known types (global at k) f h in
          let rule : slice_get known.globals k ≡ Some (generated known types (global at k) f h).first = (generated known types (global at k) f h).rule in
          let same : (generated known types (global at k) f h).first ≡ s = some_is (sym rule ∙ known_is) in
          subst (λ (u : Scheme). Allows u types f) same a

  -- a function
  taken : (v : ℕ → Predicate) (s : Scheme) (d : Env) (x : ℕ) (i : NodeId) → s.env ≡ finmap.remove d x → Takes s.book d x i
      → ((y : ℕ) → Implies (types y) (binder_passes (passes_by v s.book) (finmap.get s.env y)))
      → (y : ℕ) → Implies (with_binder types x (passes_by v s.book i.0) y) (binder_passes (passes_by v s.book) (finmap.get d y))
  taken v s d x i env_is takes above y = at (eq_by_cmp nat_cmp y x) refl
    where
      P : ℕ → Predicate
      P = passes_by v s.book

      here : Takes s.book d x i → Implies (passes_by v s.book i.0) (binder_passes (passes_by v s.book) (finmap.get d x))
      here (inl has) = Implies-same (passes_by v s.book i.0) (binder_passes (passes_by v s.book) (finmap.get d x)) (sym (ap (binder_passes (passes_by v s.book)) has))
      here (inr (absent, top_is)) = subst (λ o. Implies (passes_by v s.book i.0) (binder_passes (passes_by v s.book) o)) (sym absent) (λ t e. refl)

      at : (b : Bool) → eq_by_cmp nat_cmp y x ≡ b → Implies (cond b (passes_by v s.book i.0) (types y)) (binder_passes (passes_by v s.book) (finmap.get d y))
      at true e = let Q : ℕ → Type 0 = λ z. Implies (passes_by v s.book i.0) (binder_passes (passes_by v s.book) (finmap.get d z)) in subst Q (sym (same_key y x e)) (here takes)
      at false e =
          let is : finmap.get s.env y ≡ finmap.get d y = (λ k. finmap.get (env_is k) y) ∙ (get-remove nat_cmp_total d x y ∙ ap (λ b. cond b None (finmap.get d y)) e) in
          subst (λ o. Implies (types y) (binder_passes (passes_by v s.book) o)) is (above y)

  -- a binder's type put into the environment of a scheme
  put : (s : Scheme) (b : List Node) → IsClosedBook s.book → IsWithin s.book s.env → Extends s.book b → (x n : ℕ) (g h : Predicate) → passes b n ≡ g → Implies g (binder_passes (passes s.book) (finmap.get s.env x))
      → (y : ℕ) → Implies (binder_passes (passes b) (finmap.get (finmap.insert s.env x n) y)) (binder_passes (passes s.book) (finmap.get s.env y))
  put s b closed within more x n g h is below y = subst (λ o. Implies (binder_passes (passes b) o) (binder_passes (passes s.book) (finmap.get s.env y))) (sym (get-insert nat_cmp_total s.env x n y)) (at (eq_by_cmp nat_cmp y x) refl)
    where
      at : (e : Bool) → eq_by_cmp nat_cmp y x ≡ e → Implies (binder_passes (passes b) (cond e (Some n) (finmap.get s.env y))) (binder_passes (passes s.book) (finmap.get s.env y))
      at true e = let Q : ℕ → Type 0 = λ z. Implies (passes b n) (binder_passes (passes s.book) (finmap.get s.env z)) in subst Q (sym (same_key y x e)) (subst (λ k. Implies k (binder_passes (passes s.book) (finmap.get s.env x))) (sym is) below)
      at false e = Implies-same (binder_passes (passes b) (finmap.get s.env y)) (binder_passes (passes s.book) (finmap.get s.env y)) (longer_under var s.book b closed more (finmap.get s.env y) (within y))

  put_within : (s : Scheme) (b : List Node) → IsWithin s.book s.env → Extends s.book b → (x n : ℕ) → n < length b → IsWithin b (finmap.insert s.env x n)
  put_within s b within more x n low y i e = at (eq_by_cmp nat_cmp y x) (sym (get-insert nat_cmp_total s.env x n y) ∙ e)
    where
      at : (t : Bool) → cond t (Some n) (finmap.get s.env y) ≡ Some i → i < length b
      at true e = let is : n ≡ i = cc in omega arith
      at false e = longer_within s.book b s.env more within y i e

  removed_within : (b : List Node) (d : Env) (x : ℕ) → IsWithin b d → IsWithin b (finmap.remove d x)
  removed_within b d x within y i e = at (eq_by_cmp nat_cmp y x) (sym (get-remove nat_cmp_total d x y) ∙ e)
    where
      at : (t : Bool) → cond t None (finmap.get d y) ≡ Some i → i < length b
      at true e = absurd (cc)
      at false e = within y i e

  -- and taken out again
  put_out : (s : Scheme) (b : List Node) → IsClosedBook s.book → IsWithin s.book s.env → Extends s.book b → (x n : ℕ) (g : Predicate) → AreBelow (with_binder types x g) (needs_of s)
      → (y : ℕ) → Implies (types y) (binder_passes (passes b) (finmap.get (finmap.remove (finmap.insert s.env x n) x) y))
  put_out s b closed within more x n g below y =
      subst (λ o. Implies (types y) (binder_passes (passes b) o)) (sym (get-remove nat_cmp_total (finmap.insert s.env x n) x y ∙ ap (cond (eq_by_cmp nat_cmp y x) None) (get-insert nat_cmp_total s.env x n y)))
      (at (eq_by_cmp nat_cmp y x) (below y))
    where
      at : (e : Bool) → Implies (cond e g (types y)) (needs_of s y) → Implies (types y) (binder_passes (passes b) (cond e None (cond e (Some n) (finmap.get s.env y))))
      at true h = λ t e. refl
      at false h = subst (Implies (types y)) (sym (longer_under var s.book b closed more (finmap.get s.env y) (within y))) h

  pub typed_fun : (at x : ℕ) (e : TermTree) → IsTyped known types (fun at x e) f ↔ OfFun x (λ ts g. IsTyped known ts e g) types f
  typed_fun at x e = (forth, back)
    where
      forth : IsTyped known types (fun at x e) f → OfFun x (λ ts g. IsTyped known ts e g) types f
      forth h =
          let g : Generated known (fun at x e) h.scheme = generated known types (fun at x e) f h in
          let a : Allows g.first types f = rule_allows known types (fun at x e) f h in
          let rule : ByFun known x e g.first = g.rule in
          let s : Scheme = g.first in
          let P : ℕ → Predicate = passes_by a.reading s.book in
          let below : HasChildrenBelow (length s.book) (node.Arrow rule.i rule.j) = children_there s rule.scheme s.root rule.scheme.root (node.Arrow rule.i rule.j) rule.root_is in
          record {
            domain = P rule.i.0;
            codomain = P rule.j.0;
            domain_is = instance_is_type s rule.scheme types f a rule.i.0 below.0;
            codomain_is = instance_is_type s rule.scheme types f a rule.j.0 below.1;
            body =
                typed_under (over s rule.d rule.j.0) (derived_scheme known e (over s rule.d rule.j.0) all rule.body_has) (with_binder types x (P rule.i.0)) (P rule.j.0)
                (Allows-over s types f a (with_binder types x (P rule.i.0)) (P rule.j.0) rule.d rule.j.0 (Implies-refl (P rule.j.0)) (taken a.reading s rule.d x rule.i rule.env_is rule.takes a.env))
                known e rule.body_has;
            below = subst (λ g. Implies g f) (value-arrow a.reading s.book rule.scheme.book.book s.root rule.i rule.j rule.root_is) a.root;
          }

      back : OfFun x (λ ts g. IsTyped known ts e g) types f → IsTyped known types (fun at x e) f
      back it =
          let s : Scheme = it.body.scheme in
          let is : IsScheme s = it.body.is in
          let one = with_type s.book is.book it.domain it.domain_is in
          let b : List Node = one.0 in
          let n : ℕ = one.2.0 in
          let root_low : s.root < length b = let low : s.root < length s.book = is.root in let le : length s.book ≤ length b = one.1.longer in omega arith in
          let n_low : n < length b = one.2.1 in
          let two = extended_with b (node.Arrow (record { 0 = n }) (record { 0 = s.root })) one.1.closed tt (omega arith, omega arith) in
          let c : List Node = two.0 in
          let more : Extends s.book c = Extends-trans s.book b c one.1 two.1 in
          let d : Env = finmap.insert s.env x n in
          let n_in : n < length c = let le : length b ≤ length c = two.1.longer in omega arith in
          let root_in : s.root < length c = let le : length b ≤ length c = two.1.longer in omega arith in
          let domain_value : passes c n ≡ it.domain = Extends-value b c one.1.closed two.1 var n n_low ∙ one.2.2 in
          let codomain_value : passes c s.root ≡ type_of s = Extends-value s.book c is.book more var s.root is.root in
          let u : Scheme = scheme_at c (finmap.remove d x) two.2.0 in
          let is_u : IsScheme u = record { book = two.1.closed; root = two.2.1; env = removed_within c d x (put_within s c is.env more x n n_in) } in
          let has_domain : Implies it.domain (binder_passes (passes s.book) (finmap.get s.env x)) = subst (λ g. Implies g (needs_of s x)) (with_binder-same types x it.domain) (it.body.env x) in
          record {
            scheme = u;
            is = is_u;
            derives =
                abs at x e d (record { 0 = n }) (record { 0 = s.root }) refl is_u refl (inl (get-insert nat_cmp_total s.env x n x ∙ ap (λ t. cond t (Some n) (finmap.get s.env x)) (same_self x))) two.2.2
                (sub s it.body.derives
                (Subsumes-below s (scheme_at c d s.root) (record {
                  root = Implies-same_back (passes c s.root) (type_of s) codomain_value;
                  env = put s c is.book is.env more x n it.domain it.domain domain_value has_domain;
                }))
                (record { book = two.1.closed; root = root_in; env = put_within s c is.env more x n n_in }));
            root =
                Implies-trans (type_of u) (arrow it.domain it.codomain) f
                (Implies-trans (type_of u) (arrow it.domain (type_of s)) (arrow it.domain it.codomain)
                (Implies-same (type_of u) (arrow it.domain (type_of s)) (value-arrow var c two.1.closed.book two.2.0 (record { 0 = n }) (record { 0 = s.root }) two.2.2 ∙ (λ k. arrow (domain_value k) (codomain_value k))))
                (arrow-implies it.domain (type_of s) it.domain it.codomain (Implies-refl it.domain) it.body.root))
                it.below;
            env = put_out s c is.book is.env more x n it.domain it.body.env;
          }

  pub typed_fix : (at x : ℕ) (e : TermTree) → IsTyped known types (fix at x e) f ↔ OfFix x (λ ts g. IsTyped known ts e g) types f
  typed_fix at x e = (forth, back)
    where
      forth : IsTyped known types (fix at x e) f → OfFix x (λ ts g. IsTyped known ts e g) types f
      forth h =
          let g : Generated known (fix at x e) h.scheme = generated known types (fix at x e) f h in
          let a : Allows g.first types f = rule_allows known types (fix at x e) f h in
          let rule : ByFix known x e g.first = g.rule in
          let s : Scheme = g.first in
          let P : ℕ → Predicate = passes_by a.reading s.book in
          record {
            body_type = P s.root;
            is = instance_is_type s rule.scheme types f a s.root rule.scheme.root;
            body =
                typed_under (over s rule.d s.root) (derived_scheme known e (over s rule.d s.root) all rule.body_has) (with_binder types x (P s.root)) (P s.root)
                (Allows-over s types f a (with_binder types x (P s.root)) (P s.root) rule.d s.root (Implies-refl (P s.root)) (taken a.reading s rule.d x (record { 0 = s.root }) rule.env_is (inl rule.root_is) a.env))
                known e rule.body_has;
            below = a.root;
          }

      back : OfFix x (λ ts g. IsTyped known ts e g) types f → IsTyped known types (fix at x e) f
      back it =
          let s : Scheme = it.body.scheme in
          let is : IsScheme s = it.body.is in
          let one = with_type s.book is.book it.body_type it.is in
          let b : List Node = one.0 in
          let n : ℕ = one.2.0 in
          let d : Env = finmap.insert s.env x n in
          let u : Scheme = scheme_at b (finmap.remove d x) n in
          let is_u : IsScheme u = record { book = one.1.closed; root = one.2.1; env = removed_within b d x (put_within s b is.env one.1 x n one.2.1) } in
          let has_type : Implies it.body_type (binder_passes (passes s.book) (finmap.get s.env x)) = subst (λ g. Implies g (needs_of s x)) (with_binder-same types x it.body_type) (it.body.env x) in
          record {
            scheme = u;
            is = is_u;
            derives =
                rec_fix at x e d refl is_u refl (get-insert nat_cmp_total s.env x n x ∙ ap (λ t. cond t (Some n) (finmap.get s.env x)) (same_self x))
                (sub s it.body.derives
                (Subsumes-below s (scheme_at b d n) (record {
                  root = Implies-trans (type_of s) it.body_type (passes b n) it.body.root (Implies-same_back (passes b n) it.body_type one.2.2);
                  env = put s b is.book is.env one.1 x n it.body_type it.body_type one.2.2 has_type;
                }))
                (record { book = one.1.closed; root = one.2.1; env = put_within s b is.env one.1 x n one.2.1 }));
            root = Implies-trans (type_of u) it.body_type f (Implies-same (type_of u) it.body_type one.2.2) it.below;
            env = put_out s b is.book is.env one.1 x n it.body_type it.body.env;
          }
