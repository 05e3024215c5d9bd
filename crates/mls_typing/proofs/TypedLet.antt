-- The rule of let: schemes of both parts give one of the whole, and what a let has, by a best scheme of its first part.
--     let_derives     the scheme of a let from one of each part, by values
--     let_parts, let_has      what a let has, by some scheme of its first part
--     typed_let       and by a best one
use Rattle.std.proofs.Common.{◌≡◌, ◌⊎◌, ◌↔◌, inl, inr, ℕ, zero, suc, ◌+◌, ◌-◌, ◌<◌, true, List, [], ◌∷◌, length, refl, sym, ap, ◌∙◌, subst, arith}
use Rattle.std.specs.FinMap as finmap
use Rattle.mls_book.specs.declared.book.Node.{Node}
use Rattle.mls_book.specs.declared.book.Node.TheVariants as node
use Rattle.mls_book.specs.Books.{IsClosedBook}
use Rattle.mls_book.specs.Predicates.{Predicate, Implies, top, meet, var}
use Rattle.mls_book.specs.Passes.{passes, passes_by}
use Rattle.mls_book.specs.Schemes.{Env, Scheme, IsScheme, AreEquivalent, binder_passes}
use Rattle.mls_book.proofs.Depths.{Implies-trans, Implies-same}
use Rattle.mls_book.proofs.Lattice.{meet_left, meet_right, meet_greatest}
use Rattle.mls_book.proofs.LongerBooks.{Extends, Extends-trans, Extends-holds, Holds, Holds-trans, united, extended_with, closed_from, below_or_more}
use Rattle.mls_book.proofs.MovedSchemes.{moved_env, get-moved_env, renamed_scheme, IsScheme-renamed, IsRenamed-renamed, Equivalent-renamed_scheme, Equivalent-lengthened}
use Rattle.mls_book.proofs.Representation.{IsIn-held, IsIn-longer}
use Rattle.mls_book.proofs.Table.{value-var}
use Rattle.mls_book.proofs.Variables.{variables_of, has, has_cases, passes_by-agree}
use Rattle.mls_term.specs.Terms.{TermTree, local}
use Rattle.mls_term.specs.Derivations.{Known, with_let, over, Derives, let_in, sub, IsBest}
use Rattle.mls_term.specs.TypingLaws.{AreSchemes, IsMoreGeneral}
use Rattle.mls_term.proofs.Environments.{scheme_at}
use Rattle.mls_term.proofs.Metatheory.{derived_scheme, AreSchemes-let, IsMoreGeneral-refl, IsMoreGeneral-let, more_general_derives}
use Rattle.mls_term.proofs.MovedDerivations.{Derives-lengthened, Derives-moved}
use Rattle.mls_term.proofs.Rules.{ByLet, Generated}
use Rattle.mls_typing.specs.Typed.{type_of, needs_of, IsTypeOf, IsTyped, Allows, OfLet}
use Rattle.mls_typing.proofs.Contexts.{MeetIn, meet_in, IsMeet-value}
use Rattle.mls_typing.proofs.Contexts.{held_under, longer_under, held_within}
use Rattle.mls_typing.proofs.Instances.{best_allows, typed_under}
use Rattle.mls_typing.proofs.Readings.{two_readings, read_below, read_above, readings_held}
use Rattle.mls_typing.proofs.Contexts.{longer_within}
use Rattle.mls_typing.proofs.TypedForms.{generated, rule_allows, Allows-over}

-- a scheme of a let: the type of the second scheme, and the meets of what both need
pub record IsLetOf (first second whole : Scheme) : Type 0 where
  pub is : IsScheme whole
  pub root : (v : ℕ → Predicate) → passes_by v whole.book whole.root ≡ passes_by v second.book second.root
  pub env : (v : ℕ → Predicate) (x : ℕ)
      → binder_passes (passes_by v whole.book) (finmap.get whole.env x)
      ≡ meet (binder_passes (passes_by v first.book) (finmap.get first.env x)) (binder_passes (passes_by v second.book) (finmap.get second.env x))

-- schemes of both parts of a let, of whatever books, give one of the let
module _ (known : Known) (all : AreSchemes known) (at k : ℕ) (e e' : TermTree) (s t : Scheme) (is_s : IsScheme s) (is_t : IsScheme t)
    (h : Derives known e s) (h' : Derives (with_let known k s) e' t) where
  abbrev u : (b : List Node) × Extends s.book b × ((place : ℕ → ℕ) × Holds t.book b place)
  u = united s.book t.book is_s.book is_t.book

  abbrev right : Env
  right = moved_env u.2.0 t.env

  abbrev m : MeetIn u.0 s.env right
  m =
      meet_in u.0 u.1.closed s.env right (longer_within s.book u.0 s.env u.1 is_s.env)
      (λ x j e. held_within t.book u.0 u.2.0 u.2.1 (finmap.get t.env x) (is_t.env x) j (sym (get-moved_env u.2.0 t.env x) ∙ e))

  more : Extends s.book m.book
  more = Extends-trans s.book u.0 m.book u.1 m.extends

  holds : Holds t.book m.book u.2.0
  holds = Holds-trans t.book u.0 m.book u.2.0 (λ i. i) u.2.1 (Extends-holds u.0 m.book u.1.closed m.extends)

  abbrev whole : Scheme
  whole = scheme_at m.book m.both (u.2.0 t.root)

  is_whole : IsScheme whole
  is_whole = record { book = m.extends.closed; root = holds.in_range t.root is_t.root; env = m.within }

  pub let_derives : (w : Scheme) × IsLetOf s t w × Derives known (local at k e e') w
  let_derives =
      let s' : Scheme = scheme_at m.book s.env s.root in
      let t' : Scheme = scheme_at m.book right (u.2.0 t.root) in
      let first : Derives known e s' = Derives-lengthened known e s is_s h m.book more in
      let general : IsMoreGeneral (with_let known k s') (with_let known k s) = IsMoreGeneral-let known known k s' s (IsMoreGeneral-refl known) (Equivalent-lengthened m.book s is_s more).1 in
      let second : Derives (with_let known k s') e' t' =
      Derives-moved (with_let known k s') e' t is_t (more_general_derives (with_let known k s') (with_let known k s) e' t general (AreSchemes-let known k s all is_s) h') u.2.0 m.book m.extends.closed holds in (
        whole,
        record {
          is = is_whole;
          root = λ v. holds.value v t.root is_t.root;
          env = λ v x.
              IsMeet-value m.book m.extends.closed s.env right m.both m.is v x
              ∙ (λ i. meet (longer_under v s.book m.book is_s.book more (finmap.get s.env x) (is_s.env x) i)
              ((ap (binder_passes (passes_by v m.book)) (get-moved_env u.2.0 t.env x) ∙ held_under v t.book m.book u.2.0 holds (finmap.get t.env x) (is_t.env x)) i));
        },
        let_in at k e e' s.env right s.root refl is_whole m.is first second,
      )

-- what is more general has as much
pub typed_more_general : (first second : Known) (types : ℕ → Predicate) (t : TermTree) (f : Predicate) → IsMoreGeneral first second → AreSchemes second → IsTyped second types t f → IsTyped first types t f
typed_more_general first second types t f general all h = record {
  scheme = h.scheme;
  is = h.is;
  derives = more_general_derives first second t h.scheme general all h.derives;
  root = h.root;
  env = h.env;
}

-- a closed book with the variables below a number
variables_below : (m : ℕ) → (b : List Node) × IsClosedBook b × ((x : ℕ) → x < m → IsTypeOf b (var x))
variables_below zero = ([], closed_from [] (λ i low. absurd (omega arith)), λ x low. absurd (omega arith))
variables_below (suc m) =
    let before = variables_below m in
    let it = extended_with before.0 (node.Var m) before.1 tt tt in (
      it.0,
      it.1.closed,
      λ x low. choose it.0 it.2.0 it.2.1 (value-var var it.0 it.1.closed.book it.2.0 m it.2.2) x low (below_or_more x m) (λ low'. IsIn-longer before.0 it.0 (var x) before.1 it.1 (before.2 x low')),
    )
  where
    choose : (b : List Node) (n : ℕ) → n < length b → passes b n ≡ var m → (x : ℕ) → x < suc m → (x < m) ⊎ ((j : ℕ) × (x ≡ m + j)) → (x < m → IsTypeOf b (var x)) → IsTypeOf b (var x)
    choose b n n_low is x low (inl h) old = old h
    choose b n n_low is x low (inr h) old = let same : m ≡ x = let at : x ≡ m + h.0 = h.1 in omega arith in (n, n_low, is ∙ ap var same)

-- a number above all of a list
above_all : List ℕ → ℕ
above_all [] = 0
above_all (x ∷ rest) = suc x + above_all rest

below_above_all : (x : ℕ) (names : List ℕ) → has x names ≡ true → x < above_all names
unfolding above_all
below_above_all x [] e = absurd (has_cases x [] e)
below_above_all x (y ∷ rest) e =
    elim (has_cases x (y ∷ rest) e) [
      | inl same ↦ let is : y ≡ x = same in omega arith
      | inr later ↦ let low : x < above_all rest = below_above_all x rest later in omega arith
    ]

-- what a let has, by some scheme of its first part
pub record LetParts (known : Known) (types : ℕ → Predicate) (k : ℕ) (e e' : TermTree) (f : Predicate) : Type 0 where
  pub scheme : Scheme
  pub is : IsScheme scheme
  pub derives : Derives known e scheme
  pub allowed : Allows scheme types top
  pub second : IsTyped (with_let known k scheme) types e' f

pub let_parts : (known : Known) → AreSchemes known → (types : ℕ → Predicate) (f : Predicate) (at k : ℕ) (e e' : TermTree) → IsTyped known types (local at k e e') f → LetParts known types k e e' f
let_parts known all types f at k e e' h =
    let g : Generated known (local at k e e') h.scheme = generated known types (local at k e e') f h in
    let a : Allows g.first types f = rule_allows known types (local at k e e') f h in
    let rule : ByLet known k e e' g.first = g.rule in
    let t : Scheme = g.first in
    let P : ℕ → Predicate = passes_by a.reading t.book in
    let s1 : Scheme = over t rule.d1 rule.t1 in
    let s2 : Scheme = over t rule.d2 t.root in
    let is_s1 : IsScheme s1 = derived_scheme known e s1 all rule.first_has in
    let is_s2 : IsScheme s2 = derived_scheme (with_let known k s1) e' s2 (AreSchemes-let known k s1 all is_s1) rule.second_has in
    let needs : (x : ℕ) → Implies (types x) (meet (binder_passes P (finmap.get rule.d1 x)) (binder_passes P (finmap.get rule.d2 x))) =
    λ x. subst (Implies (types x)) (IsMeet-value t.book rule.scheme.book rule.d1 rule.d2 t.env rule.meet a.reading x) (a.env x) in
    record {
      scheme = s1;
      is = is_s1;
      derives = rule.first_has;
      allowed =
          Allows-over t types f a types top rule.d1 rule.t1 (λ x h. refl)
          (λ x. Implies-trans (types x) (meet (binder_passes P (finmap.get rule.d1 x)) (binder_passes P (finmap.get rule.d2 x))) (binder_passes P (finmap.get rule.d1 x)) (needs x) (meet_left (binder_passes P (finmap.get rule.d1 x)) (binder_passes P (finmap.get rule.d2 x))));
      second =
          typed_under s2 is_s2 types f
          (Allows-over t types f a types f rule.d2 t.root a.root
          (λ x. Implies-trans (types x) (meet (binder_passes P (finmap.get rule.d1 x)) (binder_passes P (finmap.get rule.d2 x))) (binder_passes P (finmap.get rule.d2 x)) (needs x) (meet_right (binder_passes P (finmap.get rule.d1 x)) (binder_passes P (finmap.get rule.d2 x)))))
          (with_let known k s1) e' rule.second_has;
    }

module _ (known : Known) (all : AreSchemes known) (types : ℕ → Predicate) (f : Predicate) (at k : ℕ) (e e' : TermTree) (s : Scheme) (is : IsScheme s) where
  -- a scheme of the first part that allows these types, in which the second part has the type
  pub let_has : Derives known e s → Allows s types top → IsTyped (with_let known k s) types e' f → IsTyped known types (local at k e e') f
  let_has derived allowed second =
      let t : Scheme = second.scheme in
      let m : ℕ = above_all (variables_of t.book) in
      let up : ℕ → ℕ = λ x. m + x in
      let s' : Scheme = renamed_scheme up s in
      let is_s' : IsScheme s' = IsScheme-renamed up s is in
      let same : AreEquivalent s s' = Equivalent-renamed_scheme up s is (λ y. y - m) (λ x known_is. let undone : m + x - m ≡ x = omega arith in undone) in
      let derived' : Derives known e s' = sub s derived same.0 is_s' in
      let general : IsMoreGeneral (with_let known k s') (with_let known k s) = IsMoreGeneral-let known known k s' s (IsMoreGeneral-refl known) same.1 in
      let second' : Derives (with_let known k s') e' t = more_general_derives (with_let known k s') (with_let known k s) e' t general (AreSchemes-let known k s all is) second.derives in
      let it = let_derives known all at k e e' s' t is_s' second.is derived' second' in
      let w : Scheme = it.0 in
      let a : Allows s types top = allowed in
      let names = variables_below m in
      let u = united a.book names.0 a.closed names.1 in
      let reading : ℕ → Predicate = two_readings m var a.reading in
      let held : (x : ℕ) → IsTypeOf u.0 (reading x) =
      readings_held m u.0 var a.reading
      (λ x low. IsIn-held names.0 u.0 u.2.0 (var x) u.2.1 (names.2 x low))
      (λ x. IsIn-longer a.book u.0 (a.reading x) a.closed u.1 (a.held x)) in
      let t_value : passes_by reading t.book ≡ passes t.book = passes_by-agree reading var t.book (λ x h. read_below m var a.reading x (below_above_all x (variables_of t.book) h)) in
      let s_reading : (λ x. reading (up x)) ≡ a.reading = λ i x. read_above m var a.reading x i in
      typed_under w it.1.is types f
      (record {
        book = u.0;
        closed = u.1.closed;
        reading = reading;
        held = held;
        root =
            Implies-trans (passes_by reading w.book w.root) (type_of t) f
            (Implies-same (passes_by reading w.book w.root) (type_of t) (it.1.root reading ∙ (λ i. t_value i t.root)))
            second.root;
        env = λ x.
            let first_needs : binder_passes (passes_by reading s'.book) (finmap.get s'.env x) ≡ binder_passes (passes_by a.reading s.book) (finmap.get s.env x) =
            sym ((IsRenamed-renamed up s is).env reading x) ∙ (λ i. binder_passes (passes_by (s_reading i) s.book) (finmap.get s.env x)) in
            let second_needs : binder_passes (passes_by reading t.book) (finmap.get t.env x) ≡ needs_of t x = λ i. binder_passes (t_value i) (finmap.get t.env x) in
            subst (Implies (types x)) (sym (it.1.env reading x ∙ (λ i. meet (first_needs i) (second_needs i))))
            (meet_greatest (binder_passes (passes_by a.reading s.book) (finmap.get s.env x)) (needs_of t x) (types x) (a.env x) (second.env x));
      })
      known (local at k e e') it.2

  -- what a let has, by a best scheme of its first part
  pub typed_let : IsBest known e s → IsTyped known types (local at k e e') f ↔ OfLet (Allows s) (λ ts g. IsTyped (with_let known k s) ts e' g) types f
  typed_let best = (forth, λ it. let_has best.derives it.first it.second)
    where
      forth : IsTyped known types (local at k e e') f → OfLet (Allows s) (λ ts g. IsTyped (with_let known k s) ts e' g) types f
      forth h =
          let it : LetParts known types k e e' f = let_parts known all types f at k e e' h in
          let all' : AreSchemes (with_let known k it.scheme) = AreSchemes-let known k it.scheme all it.is in
          record {
            first = (best_allows known e s is best types top).0 (typed_under it.scheme it.is types top it.allowed known e it.derives);
            second = typed_more_general (with_let known k s) (with_let known k it.scheme) types e' f (IsMoreGeneral-let known known k s it.scheme (IsMoreGeneral-refl known) (best.least it.scheme it.derives)) all' it.second;
          }
