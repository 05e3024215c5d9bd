-- States are given rows and columns one after another.
use Rattle.std.proofs.Common.{◌≡◌, ◌⊎◌, inl, inr, ℕ, ◌+◌, ◌<◌, ◌≤◌, ◌==◌, Bool, true, false, List, [], ◌∷◌, ◌++◌, refl, sym, ap, ◌∙◌, subst, arith, length, length-append, take, get_or, Contains}
use Rattle.std.specs.Prelude.{◌↔◌, cond, count_by, All}
use Rattle.std.proofs.lemmas.Bool.{eqb-true, eqb-false}
use Rattle.std.proofs.lemmas.List.Sums.{count_by_more_yes, count_by_more_no, sum_by-take-le}
use Rattle.std.proofs.lemmas.List.Elements.{Contains-append_left, Contains-append_right, Contains-append_cases}
use Rattle.mls_automaton.specs.declared.automaton.Polarity.{Polarity}
use Rattle.mls_automaton.specs.declared.automaton.Polarity.TheVariants.{Positive, Negative}
use Rattle.mls_automaton.specs.declared.automaton.State.{State}
use Rattle.mls_automaton.specs.Automata.{Automaton, empty_head, polarity_at}
use Rattle.mls_automaton.proofs.Lists.{Contains-here, Contains-cases, All-contained}
use Rattle.mls_solver.specs.Rooms.{Room, is_positive, is_negative, Fits}
use Rattle.mls_solver.specs.steps.Numbering.{AreNumbered}
use Rattle.mls_solver.specs.steps.Consequences.{IsRoomOf}

count_by-take : {X : Type 0} (p : X → Bool) (i : ℕ) (xs : List X) → count_by p (take i xs) ≤ count_by p xs
count_by-take p i xs = sum_by-take-le (λ x. cond (p x) 1 0) xs i

module _ (a : Automaton) (old : Room) (s : ℕ) (room : Room) (so_far : AreNumbered a old s room) where
  abbrev state : State
  state = get_or a.states s (record { polarity = Positive; head = empty_head })

  below_rows : All (λ p. p < s) room.rows
  below_rows = All-contained (λ p. p < s) room.rows (λ p it. ((so_far.rows p).0 it).0)

  pub rows_below : All (λ p. p < s) room.rows
  rows_below = below_rows

  pub columns_below : All (λ n. n < s) room.columns
  columns_below = All-contained (λ n. n < s) room.columns (λ n it. ((so_far.columns n).0 it).0)

  -- the state has space
  pub state_fits : Fits a room → s < length a.states → s < room.positives + room.negatives
  state_fits fits low = go (polarity_at a s) refl
    where
      go : (p : Polarity) → polarity_at a s ≡ p → s < room.positives + room.negatives
      go Positive is =
          let sum : length room.rows + length room.columns ≡ s = so_far.total in
          let rows : length room.rows ≡ count_by is_positive (take s a.states) = so_far.row_count in
          let columns : length room.columns ≡ count_by is_negative (take s a.states) = so_far.column_count in
          let yes : is_positive state ≡ true = ap (λ p. elim p [ Positive ↦ true | Negative ↦ false ]) is in
          let counted : count_by is_positive (take (s + 1) a.states) ≡ count_by is_positive (take s a.states) + 1 = count_by_more_yes is_positive a.states s _ low yes in
          let some : count_by is_positive (take (s + 1) a.states) ≤ count_by is_positive a.states = count_by-take is_positive (s + 1) a.states in
          let others : count_by is_negative (take s a.states) ≤ count_by is_negative a.states = count_by-take is_negative s a.states in
          let fit : count_by is_positive a.states ≤ room.positives = fits.positives in
          let fit' : count_by is_negative a.states ≤ room.negatives = fits.negatives in
          omega arith
      go Negative is =
          let sum : length room.rows + length room.columns ≡ s = so_far.total in
          let rows : length room.rows ≡ count_by is_positive (take s a.states) = so_far.row_count in
          let columns : length room.columns ≡ count_by is_negative (take s a.states) = so_far.column_count in
          let yes : is_negative state ≡ true = ap (λ p. elim p [ Positive ↦ false | Negative ↦ true ]) is in
          let counted : count_by is_negative (take (s + 1) a.states) ≡ count_by is_negative (take s a.states) + 1 = count_by_more_yes is_negative a.states s _ low yes in
          let some : count_by is_negative (take (s + 1) a.states) ≤ count_by is_negative a.states = count_by-take is_negative (s + 1) a.states in
          let others : count_by is_positive (take s a.states) ≤ count_by is_positive a.states = count_by-take is_positive s a.states in
          let fit : count_by is_positive a.states ≤ room.positives = fits.positives in
          let fit' : count_by is_negative a.states ≤ room.negatives = fits.negatives in
          omega arith

  case : (p : ℕ) (b : Bool) → (p == s) ≡ b → p < s + 1 → (p < s) ⊎ (p ≡ s)
  case p true e less = inr (eqb-true p s e)
  case p false e less = let apart : p ≡ s → ⊥ = eqb-false p s e in inl (omega arith)

  -- one more line of a polarity
  module _ (lines more : List ℕ) (polarity other : Polarity) (apart : polarity ≡ other → ⊥) (is : polarity_at a s ≡ polarity) (so : (p : ℕ) → Contains lines p ↔ (p < s) × (polarity_at a p ≡ polarity)) (grown : more ≡ lines ++ s ∷ []) where
    pub line-more : (p : ℕ) → Contains more p ↔ (p < s + 1) × (polarity_at a p ≡ polarity)
    line-more p = (
      λ it.
          elim (Contains-append_cases lines (s ∷ []) p (subst (λ xs. Contains xs p) grown it)) [
            | inl before ↦ let less : p < s = ((so p).0 before).0 in (omega arith, ((so p).0 before).1)
            | inr last ↦
                elim (Contains-cases s [] p last) [
                  | inl same ↦ (let e : s ≡ p = same in omega arith, subst (λ q. polarity_at a q ≡ polarity) same is)
                  | inr none ↦ let low : none.0 < 0 = none.1 in absurd (omega arith)
                ]
          ],
      λ it.
          subst (λ xs. Contains xs p) (sym grown)
          (elim (case p (p == s) refl it.0) [
            | inl less ↦ Contains-append_left lines (s ∷ []) p ((so p).1 (less, it.1))
            | inr same ↦ Contains-append_right lines (s ∷ []) p (subst (λ q. Contains (s ∷ []) q) (sym same) (Contains-here s []))
          ]),
    )

  -- the other polarity has no more lines
  pub line-other : (lines : List ℕ) (polarity other : Polarity) → (polarity ≡ other → ⊥) → polarity_at a s ≡ polarity → ((p : ℕ) → Contains lines p ↔ (p < s) × (polarity_at a p ≡ other)) → (p : ℕ) → Contains lines p ↔ (p < s + 1) × (polarity_at a p ≡ other)
  line-other lines polarity other apart is so p = (
    λ it. let less : p < s = ((so p).0 it).0 in (omega arith, ((so p).0 it).1),
    λ it.
        elim (case p (p == s) refl it.0) [
          | inl less ↦ (so p).1 (less, it.1)
          | inr same ↦ absurd (apart (sym is ∙ (ap (polarity_at a) (sym same) ∙ it.1)))
        ],
  )

  module _ (new : Room) (low : s < length a.states) (positives : new.positives ≡ room.positives) (negatives : new.negatives ≡ room.negatives) (empty : new.pairs ≡ []) where
    pub row_numbered : polarity_at a s ≡ Positive → new.rows ≡ room.rows ++ s ∷ [] → new.columns ≡ room.columns → AreNumbered a old (s + 1) new
    row_numbered is rows columns =
        let longer : length new.rows ≡ length room.rows + 1 = ap length rows ∙ length-append room.rows (s ∷ []) in
        let same : length new.columns ≡ length room.columns = ap length columns in
        let total : length room.rows + length room.columns ≡ s = so_far.total in
        let few : length room.rows ≡ count_by is_positive (take s a.states) = so_far.row_count in
        let yes : is_positive state ≡ true = ap (λ p. elim p [ Positive ↦ true | Negative ↦ false ]) is in
        let no : is_negative state ≡ false = ap (λ p. elim p [ Positive ↦ false | Negative ↦ true ]) is in
        let counted : count_by is_positive (take (s + 1) a.states) ≡ count_by is_positive (take s a.states) + 1 = count_by_more_yes is_positive a.states s _ low yes in
        record {
          positives = positives ∙ so_far.positives;
          negatives = negatives ∙ so_far.negatives;
          empty = empty;
          total = omega arith;
          row_count = omega arith;
          column_count = same ∙ (so_far.column_count ∙ sym (count_by_more_no is_negative a.states s _ low no));
          rows = line-more room.rows new.rows Positive Negative (λ e. cc) is so_far.rows rows;
          columns = λ n. subst (λ xs. Contains xs n ↔ (n < s + 1) × (polarity_at a n ≡ Negative)) (sym columns) (line-other room.columns Positive Negative (λ e. cc) is so_far.columns n);
        }

    pub column_numbered : polarity_at a s ≡ Negative → new.rows ≡ room.rows → new.columns ≡ room.columns ++ s ∷ [] → AreNumbered a old (s + 1) new
    column_numbered is rows columns =
        let longer : length new.columns ≡ length room.columns + 1 = ap length columns ∙ length-append room.columns (s ∷ []) in
        let same : length new.rows ≡ length room.rows = ap length rows in
        let total : length room.rows + length room.columns ≡ s = so_far.total in
        let few : length room.columns ≡ count_by is_negative (take s a.states) = so_far.column_count in
        let yes : is_negative state ≡ true = ap (λ p. elim p [ Positive ↦ false | Negative ↦ true ]) is in
        let no : is_positive state ≡ false = ap (λ p. elim p [ Positive ↦ true | Negative ↦ false ]) is in
        let counted : count_by is_negative (take (s + 1) a.states) ≡ count_by is_negative (take s a.states) + 1 = count_by_more_yes is_negative a.states s _ low yes in
        record {
          positives = positives ∙ so_far.positives;
          negatives = negatives ∙ so_far.negatives;
          empty = empty;
          total = omega arith;
          row_count = same ∙ (so_far.row_count ∙ sym (count_by_more_no is_positive a.states s _ low no));
          column_count = omega arith;
          rows = λ p. subst (λ xs. Contains xs p ↔ (p < s + 1) × (polarity_at a p ≡ Positive)) (sym rows) (line-other room.rows Negative Positive (λ e. cc) is so_far.rows p);
          columns = line-more room.columns new.columns Negative Positive (λ e. cc) is so_far.columns columns;
        }

  -- at the end
  pub all_numbered : length a.states ≤ s → s ≤ length a.states → IsRoomOf a room
  all_numbered all few = record {
    row = λ p it. let low : p < length a.states = it.in_range in (so_far.rows p).1 (omega arith, it.polarity);
    column = λ n it. let low : n < length a.states = it.in_range in (so_far.columns n).1 (omega arith, it.polarity);
    row_is = λ p it. let less : p < s = ((so_far.rows p).0 it).0 in record { in_range = omega arith; polarity = ((so_far.rows p).0 it).1 };
    column_is = λ n it. let less : n < s = ((so_far.columns n).0 it).0 in record { in_range = omega arith; polarity = ((so_far.columns n).0 it).1 };
  }
