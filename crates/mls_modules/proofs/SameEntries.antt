-- Entries of the same bindings mean the same: their types are equivalent, one after the other. So the same binding is the
-- first without an entry, and the same node of it the first without a scheme.
use Rattle.std.proofs.Common.{◌≡◌, ◌⊎◌, inl, inr, ℕ, zero, suc, ◌+◌, ◌<◌, ◌≤◌, List, [], ◌∷◌, ◌++◌, length, map, take, refl, sym, ap, ◌∙◌, subst, Some, None, arith, All}
use Rattle.std.specs.Prelude.{slice_get}
use Rattle.std.specs.List.{AllByRecursion}
use Rattle.std.specs.FinMap as finmap
use Rattle.std.specs.FinMap.{get-empty}
use Rattle.std.specs.Ordering.{nat_cmp}
use Rattle.std.proofs.lemmas.List.Elements.{recursion_from_All}
use Rattle.mls_book.specs.Schemes.{Scheme, IsScheme, Subsumes, AreEquivalent}
use Rattle.mls_book.proofs.Subsumption.{Subsumes-refl}
use Rattle.mls_book.proofs.LongerBooks.{below_or_more}
use Rattle.mls_term.specs.declared.term.ResolvedBinding.{ResolvedBinding}
use Rattle.mls_term.specs.Terms.{TermTree, before}
use Rattle.mls_term.specs.Derivations.{Known, IsBest}
use Rattle.mls_term.specs.WellFormed.{IsFirstNone}
use Rattle.mls_term.specs.TypingLaws.{AreSchemes, IsMoreGeneral}
use Rattle.mls_term.proofs.Metatheory.{more_general_derives, best_more_general, best_equivalent}
use Rattle.mls_term.proofs.TreesOfTerms.{one_term_tree}
use Rattle.mls_typing.specs.InferenceLaws.{at_start}
use Rattle.mls_typing.proofs.OnePart.{part_reached, AreAlike, IsOnePart, one_reached}
use Rattle.mls_typing.proofs.FirstNone.{first_none_fails}
use Rattle.mls_typetext.specs.declared.scheme.ReadScheme.{ReadScheme}
use Rattle.mls_typetext.specs.Schemes.{scheme_of, type_scheme, operator_types, environment}
use Rattle.mls_typetext.proofs.ReadLaws.{read_is_closed}
use Rattle.mls_iface.specs.declared.interface.Interface.{Interface}
use Rattle.mls_iface.specs.declared.signature.SigEntry.{SigEntry}
use Rattle.mls_iface.specs.Matches.{IsRead}
use Rattle.mls_modules.specs.Environments.{IsValidInterface, declared_schemes, entry_schemes}
use Rattle.mls_modules.specs.Entries.{IsEntryOf, AreEntriesOf, HasFirstNone}
use Rattle.mls_modules.proofs.KnownTypes.{read_is_scheme, operators_are_schemes}
use Rattle.mls_modules.proofs.Environments.{declared_valid, known_more}

-- schemes that are equivalent, one after the other
abbrev pub AreEqualInTurn : List Scheme → List Scheme → Type 0
AreEqualInTurn [] [] = Unit {0}
AreEqualInTurn (x ∷ xs) (y ∷ ys) = IsScheme x × IsScheme y × AreEquivalent x y × AreEqualInTurn xs ys
AreEqualInTurn _ _ = ⊥

in_turn-refl : (xs : List Scheme) → ((g : ℕ) (s : Scheme) → slice_get xs g ≡ Some s → IsScheme s) → AreEqualInTurn xs xs
in_turn-refl [] all = tt
in_turn-refl (x ∷ xs) all = (all 0 x refl, all 0 x refl, (Subsumes-refl x, Subsumes-refl x), in_turn-refl xs (λ g s at. all (suc g) s at))

in_turn-append : (xs ys : List Scheme) (x y : Scheme) → AreEqualInTurn xs ys → IsScheme x → IsScheme y → AreEquivalent x y → AreEqualInTurn (xs ++ x ∷ []) (ys ++ y ∷ [])
in_turn-append [] [] x y all is is' same = (is, is', same, tt)
in_turn-append (a ∷ xs) (b ∷ ys) x y all is is' same = (all.0, all.1, all.2, in_turn-append xs ys x y all.3 is is' same)
in_turn-append [] (b ∷ ys) x y all is is' same = absurd all
in_turn-append (a ∷ xs) [] x y all is is' same = absurd all

in_turn-both : (xs ys us vs : List Scheme) → AreEqualInTurn xs ys → AreEqualInTurn us vs → AreEqualInTurn (xs ++ us) (ys ++ vs)
in_turn-both [] [] us vs all more = more
in_turn-both (x ∷ xs) (y ∷ ys) us vs all more = (all.0, all.1, all.2, in_turn-both xs ys us vs all.3 more)
in_turn-both [] (y ∷ ys) us vs all more = absurd all
in_turn-both (x ∷ xs) [] us vs all more = absurd all

-- what was read is equal to itself
reads_in_turn : (reads : List ReadScheme) → AllByRecursion IsRead reads → AreEqualInTurn (map scheme_of reads) (map scheme_of reads)
reads_in_turn [] all = tt
reads_in_turn (r ∷ reads) all =
    let is : IsScheme (scheme_of r) = read_is_scheme r all.0.0 in
    (is, is, (Subsumes-refl (scheme_of r), Subsumes-refl (scheme_of r)), reads_in_turn reads all.1)

-- what stands at a number in the one list, and what stands there in the other
record HaveAt (xs ys : List Scheme) (g : ℕ) (s : Scheme) : Type 0 where
  pub is : IsScheme s
  pub u : Scheme
  pub there : slice_get xs g ≡ Some u
  pub is_other : IsScheme u
  pub subsumes : Subsumes u s
  pub subsumed : Subsumes s u

at_second : (xs ys : List Scheme) → AreEqualInTurn xs ys → (g : ℕ) (s : Scheme) → slice_get ys g ≡ Some s → HaveAt xs ys g s
at_second [] [] all g s e = absurd (cc)
at_second [] (y ∷ ys) all g s e = absurd all
at_second (x ∷ xs) [] all g s e = absurd all
at_second (x ∷ xs) (y ∷ ys) all zero s e =
    let same : y ≡ s = cc in
    let P : Scheme → Type 0 = λ s. HaveAt (x ∷ xs) (y ∷ ys) 0 s in
    subst P same (record { is = all.1; u = x; there = refl; is_other = all.0; subsumes = all.2.0; subsumed = all.2.1 })
at_second (x ∷ xs) (y ∷ ys) all (suc g) s e =
    let it = at_second xs ys all.3 g s e in
    record { is = it.is; u = it.u; there = it.there; is_other = it.is_other; subsumes = it.subsumes; subsumed = it.subsumed }

in_turn-sym : (xs ys : List Scheme) → AreEqualInTurn xs ys → AreEqualInTurn ys xs
in_turn-sym [] [] all = tt
in_turn-sym (x ∷ xs) (y ∷ ys) all = (all.1, all.0, (all.2.1, all.2.0), in_turn-sym xs ys all.3)
in_turn-sym [] (y ∷ ys) all = absurd all
in_turn-sym (x ∷ xs) [] all = absurd all

start_schemes : (xs ys : List Scheme) → AreEqualInTurn xs ys → AreSchemes (at_start ys)
start_schemes xs ys all = record {
  globals = λ g s e. (at_second xs ys all g s e).is;
  lets = λ k s e. let nothing : finmap.get (finmap.empty {X = Scheme} {R = nat_cmp}) k ≡ None = get-empty nat_cmp k in absurd (cc);
}

start_general : (xs ys : List Scheme) → AreEqualInTurn xs ys → IsMoreGeneral (at_start xs) (at_start ys)
start_general xs ys all = record {
  globals = λ g s e. let it = at_second xs ys all g s e in (it.u, it.there, it.subsumes);
  lets = λ k s e. let nothing : finmap.get (finmap.empty {X = Scheme} {R = nat_cmp}) k ≡ None = get-empty nat_cmp k in absurd (cc);
}

-- so what is known is alike
pub start_alike : (xs ys : List Scheme) → AreEqualInTurn xs ys → AreAlike (at_start xs) (at_start ys)
start_alike xs ys all = record {
  schemes = start_schemes ys xs (in_turn-sym xs ys all);
  schemes' = start_schemes xs ys all;
  there = start_general xs ys all;
  back = start_general ys xs (in_turn-sym xs ys all);
}

-- where what is known is alike, the same node is the first without a scheme
not_before : (globals globals' : List Scheme) (whole : TermTree) → AreAlike (at_start globals) (at_start globals') → (i j : ℕ) → IsFirstNone globals whole i → IsFirstNone globals' whole j → i < j → ⊥
not_before globals globals' whole alike i j first second low =
    let it = second.earlier i low in
    let at : i ≡ it.0 + before it.1 = it.5 in
    let own : i ≡ first.n + before first.t = first.number_is in
    let one : IsOnePart first.n it.0 first.t it.1 first.known it.2 =
    one_reached (at_start globals) (at_start globals') first.known it.2 0 first.n it.0 whole first.t it.1 alike
    (part_reached globals whole first.n first.t first.known first.part) (part_reached globals' whole it.0 it.1 it.2 it.4) (omega arith) in
    let T : TermTree → Type 0 = λ t. IsBest it.2 t it.3 in
    let best : IsBest it.2 first.t it.3 = subst T (sym one.tree) it.6 in
    first.none it.3 (more_general_derives first.known it.2 first.t it.3 one.alike.there one.alike.schemes' best.derives)

alike-sym : (known known' : Known) → AreAlike known known' → AreAlike known' known
alike-sym known known' a = record { schemes = a.schemes'; schemes' = a.schemes; there = a.back; back = a.there }

pub same_first_none : (globals globals' : List Scheme) (whole : TermTree) → AreAlike (at_start globals) (at_start globals') → (i j : ℕ) → IsFirstNone globals whole i → IsFirstNone globals' whole j → i ≡ j
same_first_none globals globals' whole alike i j first second = by_case (below_or_more i j) (below_or_more j i)
  where
    by_case : (i < j) ⊎ ((k : ℕ) × (i ≡ j + k)) → (j < i) ⊎ ((k : ℕ) × (j ≡ i + k)) → i ≡ j
    by_case (inl low) other = absurd (not_before globals globals' whole alike i j first second low)
    by_case (inr more) (inl low) = absurd (not_before globals' globals whole (alike-sym (at_start globals) (at_start globals') alike) j i second first low)
    by_case (inr (k, at)) (inr (l, at')) = let a : i ≡ j + k = at in let b : j ≡ i + l = at' in omega arith

-- what stands at a number
pub stands : {X : Type 0} (xs : List X) (k : ℕ) → k < length xs → (x : X) × (slice_get xs k ≡ Some x)
stands [] k low = absurd (omega arith)
stands (x ∷ xs) zero low = (x, refl)
stands (x ∷ xs) (suc k) low = stands xs k (omega arith)

pub below_length : {X : Type 0} (xs : List X) (k : ℕ) (x : X) → slice_get xs k ≡ Some x → k < length xs
below_length [] k x e = absurd (cc)
below_length (y ∷ xs) zero x e = omega arith
below_length (y ∷ xs) (suc k) x e = let low = below_length xs k x e in omega arith

take_one_more : {X : Type 0} (xs : List X) (k : ℕ) (x : X) → slice_get xs k ≡ Some x → take (suc k) xs ≡ take k xs ++ x ∷ []
take_one_more [] k x e = absurd (cc)
take_one_more (y ∷ xs) zero x e = let same : y ≡ x = cc in ap (λ z. z ∷ []) same
take_one_more (y ∷ xs) (suc k) x e = ap (λ l. y ∷ l) (take_one_more xs k x e)

take_whole : {X : Type 0} (xs : List X) → take (length xs) xs ≡ xs
take_whole [] = refl
take_whole (x ∷ xs) = ap (λ l. x ∷ l) (take_whole xs)

module _ (imports : List Interface) (valid : All IsValidInterface imports) where
  -- what is known behind entries
  abbrev known_schemes : List SigEntry → List Scheme
  known_schemes es = environment (declared_schemes imports) (entry_schemes es)

  start_in_turn : AreEqualInTurn (known_schemes []) (known_schemes [])
  start_in_turn =
      let operators : List Scheme = map type_scheme operator_types in
      let declared : List Scheme = map scheme_of (declared_schemes imports) in
      in_turn-both operators operators (declared ++ []) (declared ++ []) (in_turn-refl operators operators_are_schemes)
      (in_turn-both declared declared [] [] (reads_in_turn (declared_schemes imports) (recursion_from_All IsRead (declared_schemes imports) (declared_valid imports valid))) tt)

  module _ (bs : List ResolvedBinding) (es fs : List SigEntry) (are : AreEntriesOf imports bs es) (are' : AreEntriesOf imports bs fs) where
    -- entries of one binding are equivalent
    one_entry : (earlier earlier' : List SigEntry) (b : ResolvedBinding) (e f : SigEntry) → AreEqualInTurn (known_schemes earlier) (known_schemes earlier') → IsEntryOf imports earlier b e → IsEntryOf imports earlier' b f
        → IsScheme (scheme_of e.scheme) × IsScheme (scheme_of f.scheme) × AreEquivalent (scheme_of e.scheme) (scheme_of f.scheme)
    one_entry earlier earlier' b e f all is is' =
        let alike = start_alike (known_schemes earlier) (known_schemes earlier') all in
        let tree : is.term_tree ≡ is'.term_tree = one_term_tree is.term_tree is'.term_tree (sym is.nodes ∙ is'.nodes) in
        let T : TermTree → Type 0 = λ t. IsBest (at_start (known_schemes earlier)) t (scheme_of e.scheme) in
        let moved =
        best_more_general (at_start (known_schemes earlier)) (at_start (known_schemes earlier')) is'.term_tree (scheme_of e.scheme) alike.there alike.back alike.schemes alike.schemes'
        (subst T tree is.best) in (
          read_is_scheme e.scheme (read_is_closed e.text e.scheme is.is_entry.reads),
          read_is_scheme f.scheme (read_is_closed f.text f.scheme is'.is_entry.reads),
          best_equivalent (at_start (known_schemes earlier')) is'.term_tree (scheme_of e.scheme) (scheme_of f.scheme) moved is'.best,
        )

    -- so what is known behind the first k entries is alike
    same_known : (k : ℕ) → k ≤ length es → k ≤ length fs → k ≤ length bs → AreEqualInTurn (known_schemes (take k es)) (known_schemes (take k fs))
    same_known zero h h' h'' = start_in_turn
    same_known (suc k) h h' h'' =
        let e = stands es k (omega arith) in
        let f = stands fs k (omega arith) in
        let b = stands bs k (omega arith) in
        let earlier = same_known k (omega arith) (omega arith) (omega arith) in
        let both = one_entry (take k es) (take k fs) b.0 e.0 f.0 earlier (are k b.0 e.0 b.1 e.1) (are' k b.0 f.0 b.1 f.1) in
        let L : List Scheme → Type 0 = λ l. AreEqualInTurn l (known_schemes (take (suc k) fs)) in
        let R : List Scheme → Type 0 = λ l. AreEqualInTurn (known_schemes (take k es) ++ scheme_of e.0.scheme ∷ []) l in
        subst L (sym (ap known_schemes (take_one_more es k e.0 e.1) ∙ known_more imports (take k es) e.0))
        (subst R (sym (ap known_schemes (take_one_more fs k f.0 f.1) ∙ known_more imports (take k fs) f.0))
        (in_turn-append (known_schemes (take k es)) (known_schemes (take k fs)) (scheme_of e.0.scheme) (scheme_of f.0.scheme) earlier both.0 both.1 both.2))

    -- and entry k of the one is equivalent to entry k of the other
    pub same_entry : (k : ℕ) (b : ResolvedBinding) (e f : SigEntry) → slice_get bs k ≡ Some b → slice_get es k ≡ Some e → slice_get fs k ≡ Some f
        → (e.name ≡ f.name) × AreEquivalent (scheme_of e.scheme) (scheme_of f.scheme)
    same_entry k b e f at_b at_e at_f =
        let low_b = below_length bs k b at_b in
        let low_e = below_length es k e at_e in
        let low_f = below_length fs k f at_f in
        let one = are k b e at_b at_e in
        let other = are' k b f at_b at_f in
        (one.name ∙ sym other.name, (one_entry (take k es) (take k fs) b e f (same_known k (omega arith) (omega arith) (omega arith)) one other).2)

    -- a binding without a scheme behind the ones has no entry among the others
    pub no_entry : (b : ResolvedBinding) (node : ℕ) → slice_get bs (length es) ≡ Some b → HasFirstNone imports es b node → length es < length fs → ⊥
    no_entry b node there h low =
        let k = length es in
        let f = stands fs k low in
        let is = are' k b f.0 there f.1 in
        let E : List SigEntry → Type 0 = λ l. AreEqualInTurn (known_schemes l) (known_schemes (take k fs)) in
        let some = below_length bs k b there in
        let all = subst E (take_whole es) (same_known k (omega arith) (omega arith) (omega arith)) in
        let alike = start_alike (known_schemes es) (known_schemes (take k fs)) all in
        let tree : is.term_tree ≡ h.term_tree = one_term_tree is.term_tree h.term_tree (sym is.nodes ∙ h.nodes) in
        let T : TermTree → Type 0 = λ t. IsBest (at_start (known_schemes (take k fs))) t (scheme_of f.0.scheme) in
        let best = subst T tree is.best in
        first_none_fails (known_schemes es) h.term_tree alike.schemes.globals node h.first (scheme_of f.0.scheme)
        (more_general_derives (at_start (known_schemes es)) (at_start (known_schemes (take k fs))) h.term_tree (scheme_of f.0.scheme) alike.there alike.schemes' best.derives)

    -- where the same binding has no scheme behind both, it fails at one node
    pub one_node : (b : ResolvedBinding) (node node' : ℕ) → length es ≡ length fs → slice_get bs (length es) ≡ Some b → HasFirstNone imports es b node → HasFirstNone imports fs b node' → node ≡ node'
    one_node b node node' same there h h' =
        let k = length es in
        let some = below_length bs k b there in
        let E : List SigEntry → Type 0 = λ l. AreEqualInTurn (known_schemes l) (known_schemes (take k fs)) in
        let F : List SigEntry → Type 0 = λ l. AreEqualInTurn (known_schemes es) (known_schemes l) in
        let all = subst F (ap (λ n. take n fs) same ∙ take_whole fs) (subst E (take_whole es) (same_known k (omega arith) (omega arith) (omega arith))) in
        let tree : h.term_tree ≡ h'.term_tree = one_term_tree h.term_tree h'.term_tree (sym h.nodes ∙ h'.nodes) in
        let T : TermTree → Type 0 = λ t. IsFirstNone (known_schemes es) t node in
        same_first_none (known_schemes es) (known_schemes fs) h'.term_tree (start_alike (known_schemes es) (known_schemes fs) all) node node' (subst T tree h.first) h'.first
