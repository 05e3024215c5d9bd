-- Inference is right: a scheme that it answers is best, and a node that it answers is the first that has none.
--     infers_right      at each part of a term
--     infers_best, infers_first_none     at a whole term
use Rattle.std.proofs.Common.{◌≡◌, ◌⊎◌, inl, inr, ℕ, suc, ◌+◌, ◌<◌, ◌≤◌, false, List, [], ◌∷◌, length, refl, sym, subst, arith, Contains, Some, None, slice_get}
use Rattle.std.specs.FinMap as finmap
use Rattle.std.specs.FinMap.{get-empty}
use Rattle.std.specs.Ordering.{nat_cmp}
use Rattle.mls_book.specs.Schemes.{Scheme, IsScheme}
use Rattle.mls_book.proofs.LongerBooks.{below_or_more}
use Rattle.mls_term.specs.Terms.{TermTree, TermFields, bound, inner, global, number, truth, fun, apply, make, project, choice, local, fix, no_field, a_field, before, field_nodes}
use Rattle.mls_term.specs.Derivations.{Known, with_let, IsBest, HasNone}
use Rattle.mls_term.specs.WellFormed.{early_parts, field_parts, IsPartOf, at_root, in_part, in_second, IsFirstNone}
use Rattle.mls_term.specs.TypingLaws.{AreSchemes}
use Rattle.mls_term.proofs.Metatheory.{AreSchemes-let}
use Rattle.mls_typing.specs.Runs.{is_let, Outcome, best, none, Infers, solved, unsolved, part_has_none, let_solved, second_has_none, AllInfer, no_part, a_part, OneHasNone, here, later}
use Rattle.mls_typing.proofs.Rows.{AllBest, row_best, row_none, let_best}

-- these parts follow one another, from the one number to the other
abbrev pub AreInTurn : ℕ → List (ℕ × TermTree) → ℕ → Type 0
AreInTurn a [] b = a ≡ b
AreInTurn a (part ∷ rest) b = (part.0 ≡ a) × AreInTurn (part.0 + suc (before part.1)) rest b

fields_in_turn : (n : ℕ) (parts : TermFields) → AreInTurn n (field_parts n parts) (n + field_nodes parts)
unfolding before
fields_in_turn n no_field = let same : n ≡ n + 0 = omega arith in same
fields_in_turn n (a_field label e rest) =
    let at : n + suc (before e) + field_nodes rest ≡ n + (suc (before e) + field_nodes rest) = omega arith in
    (refl, subst (AreInTurn (n + suc (before e)) (field_parts (n + suc (before e)) rest)) at (fields_in_turn (n + suc (before e)) rest))

-- the parts of an expression that is no let end where its own node stands
pub parts_in_turn : (n : ℕ) (t : TermTree) → is_let t ≡ false → AreInTurn n (early_parts n t) (n + before t)
unfolding before
parts_in_turn n (inner at k) plain = let same : n ≡ n + 0 = omega arith in same
parts_in_turn n (global at k) plain = let same : n ≡ n + 0 = omega arith in same
parts_in_turn n (bound at x) plain = let same : n ≡ n + 0 = omega arith in same
parts_in_turn n (number at value) plain = let same : n ≡ n + 0 = omega arith in same
parts_in_turn n (truth at value) plain = let same : n ≡ n + 0 = omega arith in same
parts_in_turn n (fun at x e) plain = (refl, refl)
parts_in_turn n (apply at e e') plain = (refl, (refl, let same : n + suc (before e) + suc (before e') ≡ n + (suc (before e) + suc (before e')) = omega arith in same))
parts_in_turn n (make at parts) plain = fields_in_turn n parts
parts_in_turn n (project at e label) plain = (refl, refl)
parts_in_turn n (choice at c e e') plain = (refl, (refl, (refl, let same : n + suc (before c) + suc (before e) + suc (before e') ≡ n + (suc (before c) + suc (before e) + suc (before e')) = omega arith in same)))
parts_in_turn n (local at k e e') plain = absurd (cc)
parts_in_turn n (fix at x e) plain = (refl, refl)

pub before_let : (at k : ℕ) (e e' : TermTree) → before (local at k e e') ≡ suc (before e) + suc (before e')
unfolding before
before_let at k e e' = refl

pub in_turn_le : (a : ℕ) (parts : List (ℕ × TermTree)) (b : ℕ) → AreInTurn a parts b → a ≤ b
in_turn_le a [] b turn = let same : a ≡ b = turn in omega arith
in_turn_le a (part ∷ rest) b turn =
    let at : part.0 ≡ a = turn.0 in
    let le : part.0 + suc (before part.1) ≤ b = in_turn_le (part.0 + suc (before part.1)) rest b turn.1 in
    omega arith

-- the parts of any expression, but for the second part of a let
pub early_in_turn : (n : ℕ) (t : TermTree) → (b : ℕ) × AreInTurn n (early_parts n t) b × (b ≤ n + before t)
early_in_turn n (local at k e e') = (n + suc (before e), (refl, refl), let size : before (local at k e e') ≡ suc (before e) + suc (before e') = before_let at k e e' in omega arith)
early_in_turn n (inner at k) = (n + before (inner at k), parts_in_turn n (inner at k) refl, omega arith)
early_in_turn n (global at k) = (n + before (global at k), parts_in_turn n (global at k) refl, omega arith)
early_in_turn n (bound at x) = (n + before (bound at x), parts_in_turn n (bound at x) refl, omega arith)
early_in_turn n (number at value) = (n + before (number at value), parts_in_turn n (number at value) refl, omega arith)
early_in_turn n (truth at value) = (n + before (truth at value), parts_in_turn n (truth at value) refl, omega arith)
early_in_turn n (fun at x e) = (n + before (fun at x e), parts_in_turn n (fun at x e) refl, omega arith)
early_in_turn n (apply at e e') = (n + before (apply at e e'), parts_in_turn n (apply at e e') refl, omega arith)
early_in_turn n (make at parts) = (n + before (make at parts), parts_in_turn n (make at parts) refl, omega arith)
early_in_turn n (project at e label) = (n + before (project at e label), parts_in_turn n (project at e label) refl, omega arith)
early_in_turn n (choice at c e e') = (n + before (choice at c e e'), parts_in_turn n (choice at c e e') refl, omega arith)
early_in_turn n (fix at x e) = (n + before (fix at x e), parts_in_turn n (fix at x e) refl, omega arith)

module _ (globals : List Scheme) (whole : TermTree) where
  -- the part whose node has this number has a best scheme, where what is known there is best too
  pub record HasBestAt (j : ℕ) : Type 0 where
    pub n : ℕ
    pub t : TermTree
    pub known : Known
    pub s : Scheme
    pub part : IsPartOf globals whole n t known
    pub number_is : j ≡ n + before t
    pub best : IsBest known t s

  -- every node from the one number up to the other has
  abbrev pub AllHaveBest : ℕ → ℕ → Type 0
  AllHaveBest a b = (j : ℕ) → a ≤ j → j < b → HasBestAt j

  -- the node of this number has none
  pub record HasNoneAt (i : ℕ) : Type 0 where
    pub n : ℕ
    pub t : TermTree
    pub known : Known
    pub part : IsPartOf globals whole n t known
    pub number_is : i ≡ n + before t
    pub none : HasNone known t

  -- of nodes from a number on, this is the first that has none
  pub record IsFirstNoneFrom (a i : ℕ) : Type 0 where
    pub from : a ≤ i
    pub none : HasNoneAt i
    pub earlier : AllHaveBest a i

  -- what inference answers at a part of the term
  abbrev pub IsRight : Known → ℕ → TermTree → Outcome → Type 0
  IsRight known n t (best s) = IsScheme s × IsBest known t s × AllHaveBest n (n + suc (before t))
  IsRight known n t (none i) = IsFirstNoneFrom n i × (i < n + suc (before t))

  join_ranges : (a b c : ℕ) → AllHaveBest a b → AllHaveBest b c → AllHaveBest a c
  join_ranges a b c first second j low high = by (below_or_more j b)
    where
      by : (j < b) ⊎ ((i : ℕ) × (j ≡ b + i)) → HasBestAt j
      by (inl h) = first j low h
      by (inr h) = let at : j ≡ b + h.0 = h.1 in second j (omega arith) high

  -- the node of the expression itself comes last
  and_itself : (known : Known) (n : ℕ) (t : TermTree) (s : Scheme) → IsPartOf globals whole n t known → IsBest known t s → AllHaveBest n (n + before t) → AllHaveBest n (n + suc (before t))
  and_itself known n t s part is_best before_it =
      join_ranges n (n + before t) (n + suc (before t)) before_it
      (λ j low high. record {
        n = n;
        t = t;
        known = known;
        s = s;
        part = part;
        number_is = omega arith;
        best = is_best;
      })

  -- each of the parts is one of the term
  abbrev ArePartsOf : List (ℕ × TermTree) → Known → Type 0
  ArePartsOf parts known = (n : ℕ) (t : TermTree) → Contains parts (n, t) → IsPartOf globals whole n t known

  head_part : (part : ℕ × TermTree) (rest : List (ℕ × TermTree)) (known : Known) → ArePartsOf (part ∷ rest) known → IsPartOf globals whole part.0 part.1 known
  head_part part rest known all = all part.0 part.1 (0, omega arith, refl)

  rest_parts : (part : ℕ × TermTree) (rest : List (ℕ × TermTree)) (known : Known) → ArePartsOf (part ∷ rest) known → ArePartsOf rest known
  rest_parts part rest known all n t it = all n t (suc it.0, (let low : it.0 < length rest = it.1 in omega arith), it.2)

  mutual
    pub infers_right : (known : Known) (n : ℕ) (t : TermTree) (o : Outcome) → AreSchemes known → IsPartOf globals whole n t known → Infers known n t o → IsRight known n t o
    infers_right known n t o all part (solved ss s plain each solves o_is) =
        let it = all_right known all n (n + before t) (early_parts n t) ss (parts_in_turn n t plain) (λ m e inside. in_part n t part inside) each in
        let is_best : IsBest known t s = row_best known all n t ss s plain it.0 solves in
        subst (IsRight known n t) (sym o_is) (solves.is, is_best, and_itself known n t s part is_best it.1)
    infers_right known n t o all part (unsolved ss plain each unsolvable o_is) =
        let it = all_right known all n (n + before t) (early_parts n t) ss (parts_in_turn n t plain) (λ m e inside. in_part n t part inside) each in
        subst (IsRight known n t) (sym o_is) (
          record {
            from = omega arith;
            none = record {
              n = n;
              t = t;
              known = known;
              part = part;
              number_is = refl;
              none = row_none known all n t ss plain it.0 unsolvable;
            };
            earlier = it.1;
          },
          omega arith,
        )
    infers_right known n t o all part (part_has_none i one o_is) =
        let turn = early_in_turn n t in
        let it = one_right known all n turn.0 (early_parts n t) i turn.1 (λ m e inside. in_part n t part inside) one in
        let high : i < turn.0 = it.1 in
        let le : turn.0 ≤ n + before t = turn.2 in
        subst (IsRight known n t) (sym o_is) (it.0, omega arith)
    infers_right known n t o all part (let_solved at k e e' r s u t_is first second solves o_is) =
        let P : TermTree → Type 0 = λ t. IsPartOf globals whole n t known in
        let here : IsPartOf globals whole n (local at k e e') known = subst P t_is part in
        let one : IsRight known n e (best r) = infers_right known n e (best r) all (in_part n (local at k e e') here (0, omega arith, refl)) first in
        let is_r : IsScheme r = one.0 in
        let best_r : IsBest known e r = one.1 in
        let m : ℕ = n + suc (before e) in
        let two : IsRight (with_let known k r) m e' (best s) =
        infers_right (with_let known k r) m e' (best s) (AreSchemes-let known k r all is_r) (in_second n known at k e r here refl best_r refl) second in
        let is_best : IsBest known (local at k e e') u = let_best known all at k e e' r s u is_r best_r two.0 two.1 solves in
        let end : m + suc (before e') ≡ n + before (local at k e e') = let size : before (local at k e e') ≡ suc (before e) + suc (before e') = before_let at k e e' in omega arith in
        let earlier : AllHaveBest n (n + before (local at k e e')) = subst (AllHaveBest n) end (join_ranges n m (m + suc (before e')) one.2 two.2) in
        let right : IsRight known n (local at k e e') (best u) = (solves.is, is_best, and_itself known n (local at k e e') u here is_best earlier) in
        subst (IsRight known n t) (sym o_is) (let Q : TermTree → Type 0 = λ t. IsRight known n t (best u) in subst Q (sym t_is) right)
    infers_right known n t o all part (second_has_none at k e e' r i t_is first second o_is) =
        let P : TermTree → Type 0 = λ t. IsPartOf globals whole n t known in
        let here : IsPartOf globals whole n (local at k e e') known = subst P t_is part in
        let one : IsRight known n e (best r) = infers_right known n e (best r) all (in_part n (local at k e e') here (0, omega arith, refl)) first in
        let is_r : IsScheme r = one.0 in
        let best_r : IsBest known e r = one.1 in
        let m : ℕ = n + suc (before e) in
        let two : IsRight (with_let known k r) m e' (none i) =
        infers_right (with_let known k r) m e' (none i) (AreSchemes-let known k r all is_r) (in_second n known at k e r here refl best_r refl) second in
        let high : i < m + suc (before e') = two.1 in
        let from : m ≤ i = two.0.from in
        let size : before (local at k e e') ≡ suc (before e) + suc (before e') = before_let at k e e' in
        let right : IsRight known n (local at k e e') (none i) = (
          record {
            from = omega arith;
            none = two.0.none;
            earlier = join_ranges n m i one.2 two.0.earlier;
          },
          omega arith,
        ) in
        subst (IsRight known n t) (sym o_is) (let Q : TermTree → Type 0 = λ t. IsRight known n t (none i) in subst Q (sym t_is) right)

    all_right : (known : Known) → AreSchemes known → (a b : ℕ) (parts : List (ℕ × TermTree)) (ss : List Scheme) → AreInTurn a parts b → ArePartsOf parts known → AllInfer known parts ss → AllBest known parts ss × AllHaveBest a b
    all_right known all a b parts ss turn are (no_part parts_is ss_is) =
        let Turn : List (ℕ × TermTree) → Type 0 = λ ps. AreInTurn a ps b in
        let same : a ≡ b = subst Turn parts_is turn in
        let Best : List (ℕ × TermTree) → Type 0 = λ ps. AllBest known ps ss in
        let None_best : List Scheme → Type 0 = λ ss. AllBest known [] ss in
        (subst Best (sym parts_is) (subst None_best (sym ss_is) tt), λ j low high. absurd (omega arith))
    all_right known all a b parts ss turn are (a_part n t rest s others parts_is ss_is it later_ones) =
        let Turn : List (ℕ × TermTree) → Type 0 = λ ps. AreInTurn a ps b in
        let Are : List (ℕ × TermTree) → Type 0 = λ ps. ArePartsOf ps known in
        let turn' : AreInTurn a ((n, t) ∷ rest) b = subst Turn parts_is turn in
        let are' : ArePartsOf ((n, t) ∷ rest) known = subst Are parts_is are in
        let one : IsRight known n t (best s) = infers_right known n t (best s) all (head_part (n, t) rest known are') it in
        let two = all_right known all (n + suc (before t)) b rest others turn'.1 (rest_parts (n, t) rest known are') later_ones in
        let Best : List (ℕ × TermTree) → Type 0 = λ ps. AllBest known ps ss in
        let Some_best : List Scheme → Type 0 = λ ss. AllBest known ((n, t) ∷ rest) ss in
        let From : ℕ → Type 0 = λ a. AllHaveBest a b in (
          subst Best (sym parts_is) (subst Some_best (sym ss_is) ((one.0, one.1), two.0)),
          subst From turn'.0 (join_ranges n (n + suc (before t)) b one.2 two.1),
        )

    one_right : (known : Known) → AreSchemes known → (a b : ℕ) (parts : List (ℕ × TermTree)) (i : ℕ) → AreInTurn a parts b → ArePartsOf parts known → OneHasNone known parts i → IsFirstNoneFrom a i × (i < b)
    one_right known all a b parts i turn are (here n t rest parts_is it) =
        let Turn : List (ℕ × TermTree) → Type 0 = λ ps. AreInTurn a ps b in
        let Are : List (ℕ × TermTree) → Type 0 = λ ps. ArePartsOf ps known in
        let turn' : AreInTurn a ((n, t) ∷ rest) b = subst Turn parts_is turn in
        let are' : ArePartsOf ((n, t) ∷ rest) known = subst Are parts_is are in
        let one : IsRight known n t (none i) = infers_right known n t (none i) all (head_part (n, t) rest known are') it in
        let high : i < n + suc (before t) = one.1 in
        let le : n + suc (before t) ≤ b = in_turn_le (n + suc (before t)) rest b turn'.1 in
        let From : ℕ → Type 0 = λ a. IsFirstNoneFrom a i in
        (subst From turn'.0 one.0, omega arith)
    one_right known all a b parts i turn are (later n t rest s parts_is it later_one) =
        let Turn : List (ℕ × TermTree) → Type 0 = λ ps. AreInTurn a ps b in
        let Are : List (ℕ × TermTree) → Type 0 = λ ps. ArePartsOf ps known in
        let turn' : AreInTurn a ((n, t) ∷ rest) b = subst Turn parts_is turn in
        let are' : ArePartsOf ((n, t) ∷ rest) known = subst Are parts_is are in
        let one : IsRight known n t (best s) = infers_right known n t (best s) all (head_part (n, t) rest known are') it in
        let c : ℕ = n + suc (before t) in
        let two = one_right known all c b rest i turn'.1 (rest_parts (n, t) rest known are') later_one in
        let from : c ≤ i = two.0.from in
        let From : ℕ → Type 0 = λ a. IsFirstNoneFrom a i in (
          subst From turn'.0 (record {
            from = omega arith;
            none = two.0.none;
            earlier = join_ranges n c i one.2 two.0.earlier;
          }),
          two.1,
        )

-- of a whole term
module _ (globals : List Scheme) (whole : TermTree) (all : (g : ℕ) (s : Scheme) → slice_get globals g ≡ Some s → IsScheme s) where
  abbrev start : Known
  start = record { globals = globals; lets = finmap.empty }

  start_schemes : AreSchemes start
  start_schemes = record {
    globals = all;
    lets = λ k s e. let nothing : finmap.get (finmap.empty {X = Scheme} {R = nat_cmp}) k ≡ None = get-empty nat_cmp k in absurd (cc);
  }

  -- the answered scheme is best
  pub infers_best : (s : Scheme) → Infers start 0 whole (best s) → IsScheme s × IsBest start whole s
  infers_best s h = let it : IsRight globals whole start 0 whole (best s) = infers_right globals whole start 0 whole (best s) start_schemes (at_root refl refl refl) h in (it.0, it.1)

  -- the answered node is the first that has none
  pub infers_first_none : (i : ℕ) → Infers start 0 whole (none i) → IsFirstNone globals whole i
  infers_first_none i h =
      let it : IsRight globals whole start 0 whole (none i) = infers_right globals whole start 0 whole (none i) start_schemes (at_root refl refl refl) h in
      let first : IsFirstNoneFrom globals whole 0 i = it.0 in
      record {
        n = first.none.n;
        t = first.none.t;
        known = first.none.known;
        part = first.none.part;
        number_is = first.none.number_is;
        none = first.none.none;
        earlier = λ j low. let b : HasBestAt globals whole j = first.earlier j (omega arith) low in (b.n, b.t, b.known, b.s, b.part, b.number_is, b.best);
      }
