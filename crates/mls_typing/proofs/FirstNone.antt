-- The first node of a term that has no scheme: there is at most one, and where there is one the whole term has no scheme.
--     none_goes_up            a part without a scheme leaves the whole without one
--     first_none_fails        so the whole has none where a node has none
--     one_first_none          there is one first node
use Rattle.std.proofs.Common.{◌≡◌, ◌⊎◌, inl, inr, ℕ, ◌+◌, ◌<◌, List, sym, subst, arith, Some, None, slice_get}
use Rattle.std.specs.FinMap as finmap
use Rattle.std.specs.FinMap.{get-empty}
use Rattle.std.specs.Ordering.{nat_cmp}
use Rattle.mls_book.specs.Schemes.{Scheme, IsScheme}
use Rattle.mls_book.proofs.LongerBooks.{below_or_more}
use Rattle.mls_term.specs.Terms.{TermTree, local, before}
use Rattle.mls_term.specs.Derivations.{Known, Derives, HasNone}
use Rattle.mls_term.specs.WellFormed.{IsPartOf, at_root, in_part, in_second, IsFirstNone}
use Rattle.mls_term.specs.TypingLaws.{AreSchemes}
use Rattle.mls_term.proofs.Failures.{part_fails, second_fails}
use Rattle.mls_term.proofs.Metatheory.{AreSchemes-let, derived_scheme, IsMoreGeneral-refl, more_general_derives}
use Rattle.mls_typing.proofs.OnePart.{part_reached, AreAlike, IsOnePart, one_reached}

module _ (globals : List Scheme) (whole : TermTree) (schemes : (g : ℕ) (s : Scheme) → slice_get globals g ≡ Some s → IsScheme s) where
  abbrev start : Known
  start = record { globals = globals; lets = finmap.empty }

  start_schemes : AreSchemes start
  start_schemes = record {
    globals = schemes;
    lets = λ k s e. let nothing : finmap.get (finmap.empty {X = Scheme} {R = nat_cmp}) k ≡ None = get-empty nat_cmp k in absurd (cc);
  }

  -- what is known at a part are schemes
  pub part_schemes : (n : ℕ) (t : TermTree) (known : Known) → IsPartOf globals whole n t known → AreSchemes known
  part_schemes n t known (at_root n_is t_is known_is) = let K : Known → Type 0 = λ known. AreSchemes known in subst K (sym known_is) start_schemes
  part_schemes n t known (in_part m outer part inside) = part_schemes m outer known part
  part_schemes n t known (in_second m outer at k first s part n_is best known_is) =
      let all : AreSchemes outer = part_schemes m (local at k first t) outer part in
      let K : Known → Type 0 = λ known. AreSchemes known in
      subst K (sym known_is) (AreSchemes-let outer k s all (derived_scheme outer first s all best.derives))

  -- a part without a scheme leaves the whole without one
  pub none_goes_up : (n : ℕ) (t : TermTree) (known : Known) → IsPartOf globals whole n t known → HasNone known t → HasNone start whole
  none_goes_up n t known (at_root n_is t_is known_is) none =
      let K : Known → Type 0 = λ known. HasNone known t in
      let T : TermTree → Type 0 = λ t. HasNone start t in
      subst T t_is (subst K known_is none)
  none_goes_up n t known (in_part m outer part inside) none = none_goes_up m outer known part (part_fails known m n outer t inside none)
  none_goes_up n t known (in_second m outer at k first s part n_is best known_is) none =
      let K : Known → Type 0 = λ known. HasNone known t in
      none_goes_up m (local at k first t) outer part
      (second_fails outer at k first t s (part_schemes m (local at k first t) outer part) best (subst K known_is none))

  pub first_none_fails : (i : ℕ) → IsFirstNone globals whole i → HasNone start whole
  first_none_fails i it = none_goes_up it.n it.t it.known it.part it.none

  -- parts whose nodes have the same number are one
  pub one_part : (n n' : ℕ) (t t' : TermTree) (known known' : Known) → IsPartOf globals whole n t known → IsPartOf globals whole n' t' known' → n + before t ≡ n' + before t' → IsOnePart n n' t t' known known'
  one_part n n' t t' known known' part part' same =
      let alike : AreAlike start start = record { schemes = start_schemes; schemes' = start_schemes; there = IsMoreGeneral-refl start; back = IsMoreGeneral-refl start } in
      one_reached start start known known' 0 n n' whole t t' alike (part_reached globals whole n t known part) (part_reached globals whole n' t' known' part') same

  -- a node has not both a scheme and none, whatever best schemes are known there
  pub not_both : (n n' : ℕ) (t t' : TermTree) (known known' : Known) (s : Scheme) → IsPartOf globals whole n t known → IsPartOf globals whole n' t' known' → n + before t ≡ n' + before t' → HasNone known t → Derives known' t' s → ⊥
  not_both n n' t t' known known' s part part' same none h =
      let one : IsOnePart n n' t t' known known' = one_part n n' t t' known known' part part' same in
      let T : TermTree → Type 0 = λ t. Derives known' t s in
      none s (more_general_derives known known' t s one.alike.there one.alike.schemes' (subst T (sym one.tree) h))

  not_before : (i j : ℕ) → IsFirstNone globals whole i → IsFirstNone globals whole j → i < j → ⊥
  not_before i j first second low =
      let it = second.earlier i low in
      let other : i ≡ it.0 + before it.1 = it.5 in
      let own : i ≡ first.n + before first.t = first.number_is in
      not_both first.n it.0 first.t it.1 first.known it.2 it.3 first.part it.4 (omega arith) first.none it.6.derives

  -- there is at most one first node without a scheme
  pub one_first_none : (i j : ℕ) → IsFirstNone globals whole i → IsFirstNone globals whole j → i ≡ j
  one_first_none i j first second = by_case (below_or_more i j) (below_or_more j i)
    where
      by_case : (i < j) ⊎ ((k : ℕ) × (i ≡ j + k)) → (j < i) ⊎ ((k : ℕ) × (j ≡ i + k)) → i ≡ j
      by_case (inl low) other = absurd (not_before i j first second low)
      by_case (inr more) (inl low) = absurd (not_before j i second first low)
      by_case (inr (k, at)) (inr (l, at')) = let a : i ≡ j + k = at in let b : j ≡ i + l = at' in omega arith
