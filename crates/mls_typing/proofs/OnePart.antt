-- A term has one part at each number, and what is known there is the same but for equivalent schemes.
--     Reaches        parts from the whole downwards
--     part_reached   each part is reached
--     one_reached    parts whose nodes have the same number are the same
use Rattle.std.proofs.Common.{◌≡◌, ◌⊎◌, inl, inr, ℕ, suc, ◌+◌, ◌<◌, ◌≤◌, List, [], ◌∷◌, refl, sym, ap, ◌∙◌, subst, arith, Contains}
use Rattle.std.specs.FinMap as finmap
use Rattle.mls_book.specs.Schemes.{Scheme}
use Rattle.mls_typing.proofs.Lists.{Contains-cases}
use Rattle.mls_term.specs.Terms.{TermTree, local, before}
use Rattle.mls_term.specs.Derivations.{Known, with_let, IsBest}
use Rattle.mls_term.specs.WellFormed.{early_parts, IsPartOf, at_root, in_part, in_second}
use Rattle.mls_term.specs.TypingLaws.{AreSchemes, IsMoreGeneral}
use Rattle.mls_term.proofs.Metatheory.{AreSchemes-let, derived_scheme, IsMoreGeneral-let, best_equivalent, best_more_general}
use Rattle.mls_typing.proofs.Inference.{AreInTurn, early_in_turn, before_let, in_turn_le}

-- from this part with what is known there, downwards to that one
pub data Reaches : Known → ℕ → TermTree → Known → ℕ → TermTree → Type 0 where
  itself : {known other : Known} {n m : ℕ} {t u : TermTree} → other ≡ known → m ≡ n → u ≡ t → Reaches known n t other m u
  through_part : {known other : Known} {n m : ℕ} {t u : TermTree} (k : ℕ) (e : TermTree)
      → Contains (early_parts n t) (k, e) → Reaches known k e other m u
      → Reaches known n t other m u
  through_second : {known other : Known} {n m : ℕ} {t u : TermTree} (at k : ℕ) (first second : TermTree) (s : Scheme)
      → t ≡ local at k first second → IsBest known first s → Reaches (with_let known k s) (n + suc (before first)) second other m u
      → Reaches known n t other m u

-- one step further down
reach_part : (known other : Known) (n m k : ℕ) (t u e : TermTree) → Reaches known n t other m u → Contains (early_parts m u) (k, e) → Reaches known n t other k e
reach_part known other n m k t u e (itself known_is m_is u_is) inside =
    let N : ℕ → Type 0 = λ m. Contains (early_parts m u) (k, e) in
    let U : TermTree → Type 0 = λ u. Contains (early_parts n u) (k, e) in
    through_part k e (subst U u_is (subst N m_is inside)) (itself known_is refl refl)
reach_part known other n m k t u e (through_part k' e' inside' rest) inside = through_part k' e' inside' (reach_part known other k' m k e' u e rest inside)
reach_part known other n m k t u e (through_second at k' first second s t_is best rest) inside =
    through_second at k' first second s t_is best (reach_part (with_let known k' s) other (n + suc (before first)) m k second u e rest inside)

reach_second : (known other : Known) (n m : ℕ) (t : TermTree) (at k : ℕ) (first second : TermTree) (s : Scheme) → Reaches known n t other m (local at k first second) → IsBest other first s → Reaches known n t (with_let other k s) (m + suc (before first)) second
reach_second known other n m t at k first second s (itself known_is m_is u_is) best =
    let K : Known → Type 0 = λ known. IsBest known first s in
    through_second at k first second s (sym u_is) (subst K known_is best) (itself (ap (λ known. with_let known k s) known_is) (ap (λ m. m + suc (before first)) m_is) refl)
reach_second known other n m t at k first second s (through_part k' e' inside' rest) best = through_part k' e' inside' (reach_second known other k' m e' at k first second s rest best)
reach_second known other n m t at k first second s (through_second at' k' first' second' s' t_is best' rest) best =
    through_second at' k' first' second' s' t_is best' (reach_second (with_let known k' s') other (n + suc (before first')) m second' at k first second s rest best)

-- each part of a term is reached from the whole
pub part_reached : (globals : List Scheme) (whole : TermTree) (n : ℕ) (t : TermTree) (known : Known) → IsPartOf globals whole n t known → Reaches (record { globals = globals; lets = finmap.empty }) 0 whole known n t
part_reached globals whole n t known (at_root n_is t_is known_is) = itself known_is n_is t_is
part_reached globals whole n t known (in_part m outer part inside) =
    reach_part (record { globals = globals; lets = finmap.empty }) known 0 m n whole outer t (part_reached globals whole m outer known part) inside
part_reached globals whole n t known (in_second m outer at k first s part n_is best known_is) =
    let N : ℕ → Type 0 = λ n. Reaches (record { globals = globals; lets = finmap.empty }) 0 whole known n t in
    let K : Known → Type 0 = λ known. Reaches (record { globals = globals; lets = finmap.empty }) 0 whole known (m + suc (before first)) t in
    subst N (sym n_is) (subst K (sym known_is)
    (reach_second (record { globals = globals; lets = finmap.empty }) outer 0 m whole at k first t s (part_reached globals whole m (local at k first t) outer part) best))

-- the place of a part among those that follow one another
in_turn_within : (a : ℕ) (parts : List (ℕ × TermTree)) (b k : ℕ) (e : TermTree) → AreInTurn a parts b → Contains parts (k, e) → (a ≤ k) × (k + before e < b)
in_turn_within a [] b k e turn it = let low : it.0 < 0 = it.1 in absurd (omega arith)
in_turn_within a (part ∷ rest) b k e turn it = by_case (Contains-cases part rest (k, e) it) (in_turn_within (part.0 + suc (before part.1)) rest b k e turn.1)
  where
    by_case : (part ≡ (k, e)) ⊎ Contains rest (k, e) → (Contains rest (k, e) → (part.0 + suc (before part.1) ≤ k) × (k + before e < b)) → (a ≤ k) × (k + before e < b)
    by_case (inl same) later =
        let at : part.0 ≡ a = turn.0 in
        let le : part.0 + suc (before part.1) ≤ b = in_turn_le (part.0 + suc (before part.1)) rest b turn.1 in
        let P : ℕ × TermTree → Type 0 = λ p. (a ≤ p.0) × (p.0 + before p.1 < b) in
        subst P same (omega arith, omega arith)
    by_case (inr inside) later =
        let it = later inside in
        let from : part.0 + suc (before part.1) ≤ k = it.0 in
        let at : part.0 ≡ a = turn.0 in
        (omega arith, it.1)

-- two of them that have a number in common are one
one_in_turn : (a : ℕ) (parts : List (ℕ × TermTree)) (b k k' j : ℕ) (e e' : TermTree) → AreInTurn a parts b → Contains parts (k, e) → Contains parts (k', e') → k ≤ j → j ≤ k + before e → k' ≤ j → j ≤ k' + before e' → (k ≡ k') × (e ≡ e')
one_in_turn a [] b k k' j e e' turn it it' low high low' high' = let none : it.0 < 0 = it.1 in absurd (omega arith)
one_in_turn a (part ∷ rest) b k k' j e e' turn it it' low high low' high' =
    by_case (Contains-cases part rest (k, e) it) (Contains-cases part rest (k', e') it')
    (λ inside inside'. one_in_turn (part.0 + suc (before part.1)) rest b k k' j e e' turn.1 inside inside' low high low' high')
  where
    by_case : (part ≡ (k, e)) ⊎ Contains rest (k, e) → (part ≡ (k', e')) ⊎ Contains rest (k', e') → (Contains rest (k, e) → Contains rest (k', e') → (k ≡ k') × (e ≡ e')) → (k ≡ k') × (e ≡ e')
    by_case (inl same) (inl same') later = (ap (λ (p : ℕ × TermTree). p.0) (sym same ∙ same'), ap (λ (p : ℕ × TermTree). p.1) (sym same ∙ same'))
    by_case (inl same) (inr inside') later =
        let from : part.0 + suc (before part.1) ≤ k' = (in_turn_within (part.0 + suc (before part.1)) rest b k' e' turn.1 inside').0 in
        let P : ℕ × TermTree → Type 0 = λ p. p.0 + suc (before p.1) ≤ k' in
        let from' : k + suc (before e) ≤ k' = subst P same from in
        absurd (omega arith)
    by_case (inr inside) (inl same') later =
        let from : part.0 + suc (before part.1) ≤ k = (in_turn_within (part.0 + suc (before part.1)) rest b k e turn.1 inside).0 in
        let P : ℕ × TermTree → Type 0 = λ p. p.0 + suc (before p.1) ≤ k in
        let from' : k' + suc (before e') ≤ k = subst P same' from in
        absurd (omega arith)
    by_case (inr inside) (inr inside') later = later inside inside'

-- the numbers of the nodes of what is reached are those of the part
pub reached_within : (known other : Known) (n m : ℕ) (t u : TermTree) → Reaches known n t other m u → (n ≤ m) × (m + before u ≤ n + before t)
reached_within known other n m t u (itself known_is m_is u_is) =
    let P : TermTree → Type 0 = λ t. (n ≤ m) × (m + before u ≤ n + before t) in
    let at : m ≡ n = m_is in
    subst P u_is (omega arith, omega arith)
reached_within known other n m t u (through_part k e inside rest) =
    let turn = early_in_turn n t in
    let place = in_turn_within n (early_parts n t) turn.0 k e turn.1 inside in
    let below = reached_within known other k m e u rest in
    let low : n ≤ k = place.0 in
    let high : k + before e < turn.0 = place.1 in
    let end : turn.0 ≤ n + before t = turn.2 in
    let low' : k ≤ m = below.0 in
    let high' : m + before u ≤ k + before e = below.1 in
    (omega arith, omega arith)
reached_within known other n m t u (through_second at k first second s t_is best rest) =
    let below = reached_within (with_let known k s) other (n + suc (before first)) m second u rest in
    let low : n + suc (before first) ≤ m = below.0 in
    let high : m + before u ≤ n + suc (before first) + before second = below.1 in
    let size : before (local at k first second) ≡ suc (before first) + suc (before second) = before_let at k first second in
    let size' : before t ≡ before (local at k first second) = ap before t_is in
    (omega arith, omega arith)

-- a part that is reached through another comes before its node
through_part_below : (known other : Known) (n m k : ℕ) (t u e : TermTree) → Contains (early_parts n t) (k, e) → Reaches known k e other m u → m + before u < n + before t
through_part_below known other n m k t u e inside rest =
    let turn = early_in_turn n t in
    let high : k + before e < turn.0 = (in_turn_within n (early_parts n t) turn.0 k e turn.1 inside).1 in
    let end : turn.0 ≤ n + before t = turn.2 in
    let high' : m + before u ≤ k + before e = (reached_within known other k m e u rest).1 in
    omega arith

through_second_below : (known other : Known) (n m at k : ℕ) (t u first second : TermTree) → t ≡ local at k first second → Reaches known (n + suc (before first)) second other m u → m + before u < n + before t
through_second_below known other n m at k t u first second t_is rest =
    let high : m + before u ≤ n + suc (before first) + before second = (reached_within known other (n + suc (before first)) m second u rest).1 in
    let size : before (local at k first second) ≡ suc (before first) + suc (before second) = before_let at k first second in
    let size' : before t ≡ before (local at k first second) = ap before t_is in
    omega arith

-- what is known in two ways is the same
pub record AreAlike (known known' : Known) : Type 0 where
  pub schemes : AreSchemes known
  pub schemes' : AreSchemes known'
  pub there : IsMoreGeneral known known'
  pub back : IsMoreGeneral known' known

-- the two parts are one
pub record IsOnePart (m m' : ℕ) (u u' : TermTree) (other other' : Known) : Type 0 where
  pub number : m ≡ m'
  pub tree : u ≡ u'
  pub alike : AreAlike other other'

alike_let : (known known' : Known) (k : ℕ) (e : TermTree) (s s' : Scheme) → AreAlike known known' → IsBest known e s → IsBest known' e s' → AreAlike (with_let known k s) (with_let known' k s')
alike_let known known' k e s s' alike best best' =
    let moved : IsBest known' e s = best_more_general known known' e s alike.there alike.back alike.schemes alike.schemes' best in
    let same = best_equivalent known' e s s' moved best' in
    record {
      schemes = AreSchemes-let known k s alike.schemes (derived_scheme known e s alike.schemes best.derives);
      schemes' = AreSchemes-let known' k s' alike.schemes' (derived_scheme known' e s' alike.schemes' best'.derives);
      there = IsMoreGeneral-let known known' k s s' alike.there same.0;
      back = IsMoreGeneral-let known' known k s' s alike.back same.1;
    }

pub one_reached : (known known' other other' : Known) (n m m' : ℕ) (t u u' : TermTree) → AreAlike known known' → Reaches known n t other m u → Reaches known' n t other' m' u' → m + before u ≡ m' + before u' → IsOnePart m m' u u' other other'
one_reached known known' other other' n m m' t u u' alike (itself known_is m_is u_is) (itself known_is' m_is' u_is') same = record {
  number = m_is ∙ sym m_is';
  tree = u_is ∙ sym u_is';
  alike =
      let K : Known → Type 0 = λ k. AreAlike k other' in
      let K' : Known → Type 0 = λ k. AreAlike known k in
      subst K (sym known_is) (subst K' (sym known_is') alike);
}
one_reached known known' other other' n m m' t u u' alike (itself known_is m_is u_is) (through_part k e inside rest) same =
    let below : m' + before u' < n + before t = through_part_below known' other' n m' k t u' e inside rest in
    let at : m ≡ n = m_is in
    let size : before u ≡ before t = ap before u_is in
    absurd (omega arith)
one_reached known known' other other' n m m' t u u' alike (itself known_is m_is u_is) (through_second at k first second s t_is best rest) same =
    let below : m' + before u' < n + before t = through_second_below (with_let known' k s) other' n m' at k t u' first second t_is rest in
    let at_n : m ≡ n = m_is in
    let size : before u ≡ before t = ap before u_is in
    absurd (omega arith)
one_reached known known' other other' n m m' t u u' alike (through_part k e inside rest) (itself known_is m_is u_is) same =
    let below : m + before u < n + before t = through_part_below known other n m k t u e inside rest in
    let at : m' ≡ n = m_is in
    let size : before u' ≡ before t = ap before u_is in
    absurd (omega arith)
one_reached known known' other other' n m m' t u u' alike (through_part k e inside rest) (through_part k' e' inside' rest') same =
    let turn = early_in_turn n t in
    let place = reached_within known other k m e u rest in
    let place' = reached_within known' other' k' m' e' u' rest' in
    let low : k ≤ m = place.0 in
    let high : m + before u ≤ k + before e = place.1 in
    let low' : k' ≤ m' = place'.0 in
    let high' : m' + before u' ≤ k' + before e' = place'.1 in
    let one = one_in_turn n (early_parts n t) turn.0 k k' (m + before u) e e' turn.1 inside inside' (omega arith) high (omega arith) (omega arith) in
    let N : ℕ → Type 0 = λ k. Reaches known' k e' other' m' u' in
    let E : TermTree → Type 0 = λ e. Reaches known' k e other' m' u' in
    one_reached known known' other other' k m m' e u u' alike rest (subst E (sym one.1) (subst N (sym one.0) rest')) same
one_reached known known' other other' n m m' t u u' alike (through_part k e inside rest) (through_second at k' first second s t_is best rest') same =
    let P : TermTree → Type 0 = λ t. Contains (early_parts n t) (k, e) in
    let turn = early_in_turn n (local at k' first second) in
    let place = in_turn_within n ((n, first) ∷ []) (n + suc (before first)) k e (refl, refl) (subst P t_is inside) in
    let high : k + before e < n + suc (before first) = place.1 in
    let high' : m + before u ≤ k + before e = (reached_within known other k m e u rest).1 in
    let low : n + suc (before first) ≤ m' = (reached_within (with_let known' k' s) other' (n + suc (before first)) m' second u' rest').0 in
    absurd (omega arith)
one_reached known known' other other' n m m' t u u' alike (through_second at k first second s t_is best rest) (itself known_is m_is u_is) same =
    let below : m + before u < n + before t = through_second_below (with_let known k s) other n m at k t u first second t_is rest in
    let at_n : m' ≡ n = m_is in
    let size : before u' ≡ before t = ap before u_is in
    absurd (omega arith)
one_reached known known' other other' n m m' t u u' alike (through_second at k' first second s t_is best rest) (through_part k e inside rest') same =
    let P : TermTree → Type 0 = λ t. Contains (early_parts n t) (k, e) in
    let place = in_turn_within n ((n, first) ∷ []) (n + suc (before first)) k e (refl, refl) (subst P t_is inside) in
    let high : k + before e < n + suc (before first) = place.1 in
    let high' : m' + before u' ≤ k + before e = (reached_within known' other' k m' e u' rest').1 in
    let low : n + suc (before first) ≤ m = (reached_within (with_let known k' s) other (n + suc (before first)) m second u rest).0 in
    absurd (omega arith)
one_reached known known' other other' n m m' t u u' alike (through_second at k first second s t_is best rest) (through_second at' k' first' second' s' t_is' best' rest') same =
    let both : local at k first second ≡ local at' k' first' second' = sym t_is ∙ t_is' in
    let first_is : first' ≡ first = cc in
    let second_is : second' ≡ second = cc in
    let k_is : k' ≡ k = cc in
    let B : TermTree → Type 0 = λ e. IsBest known' e s' in
    let F : TermTree → Type 0 = λ e. Reaches (with_let known' k' s') (n + suc (before e)) second' other' m' u' in
    let S : TermTree → Type 0 = λ e. Reaches (with_let known' k' s') (n + suc (before first)) e other' m' u' in
    let K : ℕ → Type 0 = λ k. Reaches (with_let known' k s') (n + suc (before first)) second other' m' u' in
    one_reached (with_let known k s) (with_let known' k s') other other' (n + suc (before first)) m m' second u u'
    (alike_let known known' k first s s' alike best (subst B first_is best'))
    rest (subst K k_is (subst S second_is (subst F first_is rest'))) same
