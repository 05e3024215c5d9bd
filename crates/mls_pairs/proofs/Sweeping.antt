-- A table from which the pairs of a list are taken out that it does not show.
--     look_absent, look_shown, look_gone      one look at one pair
--     swept_none, swept_gone, swept_kept      one look after another
--     look_next_gone, look_next_kept          and in a loop
--     swept_fewer         where a pair is gone, fewer of the list are left
--     swept_list          where none is gone, the list justifies itself
use Rattle.std.proofs.Common.{◌≡◌, ◌⊎◌, inl, inr, Bool, true, false, ℕ, suc, ◌<◌, ◌≤◌, ◌+◌, ◌-◌, drop, get_or, List, [], ◌∷◌, length, refl, sym, ap, ◌∙◌, subst, arith}
use Rattle.std.specs.Prelude.{Contains}
use Rattle.std.proofs.lemmas.List.{drop_more}
use Rattle.std.proofs.lemmas.List.Elements.{All-contains}
use Rattle.mls_book.specs.declared.book.Node.{Node}
use Rattle.mls_deriv.specs.declared.claim.Pair.{Pair}
use Rattle.mls_deriv.specs.declared.claim.Put.{Put}
use Rattle.mls_deriv.specs.declared.table.Table.{Table}
use Rattle.mls_deriv.specs.inner.Tables.{RemovesPair}
use Rattle.mls_deriv.proofs.ScopedNames.{first_or_later}
use Rattle.mls_pairs.specs.Lines.{IsTable}
use Rattle.mls_pairs.specs.PairLists.{IsPairList}
use Rattle.mls_pairs.specs.steps.Deleting.{Deletes, IsHeldBy, Sweeps, nothing, one_more}
use Rattle.mls_pairs.specs.steps.Rounds.{AreThose, IsLeft, IsShownBy, none, kept}
use Rattle.mls_pairs.proofs.Deletions.{deletes_less, deletes_trans}
use Rattle.mls_pairs.proofs.Rounding.{left_last, those_all, those_smaller}
use Rattle.mls_pairs.proofs.TableShown.{those_justified}

one_of : (pair : Pair) (P : Pair → Type 0) → P pair → (other : Pair) → Contains (pair ∷ []) other → P other
one_of pair P it other there = go (first_or_later pair [] other there)
  where
    go : (pair ≡ other) ⊎ Contains [] other → P other
    go (inl same) = subst P same it
    go (inr there) = absurd (let low : there.0 < 0 = there.1 in omega arith)

next_first : (pairs : List Pair) (left : ℕ) (default : Pair) → 0 < left → left ≤ length pairs → drop (left - 1) pairs ≡ get_or pairs (left - 1) default ∷ drop left pairs
next_first pairs left default some low =
    let behind : left - 1 + 1 ≡ left = omega (arith, some) in
    drop_more pairs (left - 1) default (omega (arith, some, low)) ∙ ap (λ (n : ℕ). get_or pairs (left - 1) default ∷ drop n pairs) behind

module _ (book : List Node) where
  -- the table has no such pair
  pub look_absent : (pair : Pair) (table : Table) → (IsHeldBy table pair → ⊥) → Sweeps book (pair ∷ []) table table false
  look_absent pair table absent = record {
    deletes = nothing;
    some = λ wrong. absurd (cc);
    same = λ is. refl;
    shown = λ is other there. one_of pair (λ (q : Pair). IsHeldBy table q → IsShownBy book table q) (λ held. absurd (absent held)) other there;
  }

  -- the table shows it
  pub look_shown : (pair : Pair) (table : Table) → IsShownBy book table pair → Sweeps book (pair ∷ []) table table false
  look_shown pair table is_shown = record {
    deletes = nothing;
    some = λ wrong. absurd (cc);
    same = λ is. refl;
    shown = λ is other there. one_of pair (λ (q : Pair). IsHeldBy table q → IsShownBy book table q) (λ held. is_shown) other there;
  }

  -- it is taken out
  pub look_gone : (pair : Pair) (old new : Table) → (IsShownBy book old pair → ⊥) → RemovesPair pair.mode pair.left pair.right old new
      → Sweeps book (pair ∷ []) old new true
  look_gone pair old new not_so removes = record {
    deletes = one_more pair nothing not_so removes;
    some = λ is. (pair, (0, omega arith, refl), λ held. ((removes.0 pair.mode pair.left pair.right).0 held).1 (refl, refl, refl));
    same = λ wrong. absurd (cc);
    shown = λ wrong. absurd (cc);
  }

  pub swept_none : (table : Table) → Sweeps book [] table table false
  swept_none table = record {
    deletes = nothing;
    some = λ wrong. absurd (cc);
    same = λ is. refl;
    shown = λ is other there. absurd (let low : there.0 < 0 = there.1 in omega arith);
  }

  in_rest : (pair other : Pair) (rest : List Pair) → Contains rest other → Contains (pair ∷ rest) other
  in_rest pair other rest there = (suc there.0, (let low : there.0 < length rest = there.1 in omega arith), there.2)

  in_front : (pair other : Pair) (rest : List Pair) → Contains (pair ∷ []) other → Contains (pair ∷ rest) other
  in_front pair other rest there = one_of pair (Contains (pair ∷ rest)) (0, omega arith, refl) other there

  -- one more pair is gone
  pub swept_gone : (pair : Pair) (rest : List Pair) (old mid new : Table) (is_less : Bool) → Sweeps book rest old mid is_less
      → Sweeps book (pair ∷ []) mid new true → Sweeps book (pair ∷ rest) old new true
  swept_gone pair rest old mid new is_less before look = record {
    deletes = deletes_trans book before.deletes look.deletes;
    some = λ is. let it = look.some refl in (it.0, in_front pair it.0 rest it.1, it.2);
    same = λ wrong. absurd (cc);
    shown = λ wrong. absurd (cc);
  }

  -- one more pair is looked at, and none is gone
  pub swept_kept : (pair : Pair) (rest : List Pair) (old mid new : Table) (is_less : Bool) → Sweeps book rest old mid is_less
      → Sweeps book (pair ∷ []) mid new false → Sweeps book (pair ∷ rest) old new is_less
  swept_kept pair rest old mid new is_less before look = record {
    deletes = deletes_trans book before.deletes look.deletes;
    some = λ is.
        let it = before.some is in
        (it.0, in_rest pair it.0 rest it.1, subst (λ (t : Table). IsHeldBy t it.0 → ⊥) (sym (look.same refl)) it.2);
    same = λ is. look.same refl ∙ before.same is;
    shown = λ is other there. go is other (first_or_later pair rest other there);
  }
    where
      go : is_less ≡ false → (other : Pair) → (pair ≡ other) ⊎ Contains rest other → IsHeldBy new other → IsShownBy book new other
      go is other (inl same) held = look.shown refl other (0, omega arith, same) held
      go is other (inr there) held =
          subst (λ (t : Table). IsHeldBy t other → IsShownBy book t other) (sym (look.same refl)) (before.shown is other there) held

  -- the next look of a loop from the last pair to the first
  pub look_next_gone : (pairs : List Pair) (left : ℕ) (default : Pair) (old mid new : Table) (is_less is_gone : Bool) → 0 < left → left ≤ length pairs → is_gone ≡ true
      → Sweeps book (drop left pairs) old mid is_less → Sweeps book (get_or pairs (left - 1) default ∷ []) mid new is_gone → Sweeps book (drop (left - 1) pairs) old new true
  look_next_gone pairs left default old mid new is_less is_gone some low is before look =
      subst (λ (ps : List Pair). Sweeps book ps old new true) (sym (next_first pairs left default some low))
      (swept_gone (get_or pairs (left - 1) default) (drop left pairs) old mid new is_less before
      (subst (Sweeps book (get_or pairs (left - 1) default ∷ []) mid new) is look))

  pub look_next_kept : (pairs : List Pair) (left : ℕ) (default : Pair) (old mid new : Table) (is_less is_gone : Bool) → 0 < left → left ≤ length pairs → is_gone ≡ false
      → Sweeps book (drop left pairs) old mid is_less → Sweeps book (get_or pairs (left - 1) default ∷ []) mid new is_gone → Sweeps book (drop (left - 1) pairs) old new is_less
  look_next_kept pairs left default old mid new is_less is_gone some low is before look =
      subst (λ (ps : List Pair). Sweeps book ps old new is_less) (sym (next_first pairs left default some low))
      (swept_kept (get_or pairs (left - 1) default) (drop left pairs) old mid new is_less before
      (subst (Sweeps book (get_or pairs (left - 1) default ∷ []) mid new) is look))

  -- where a pair is gone, fewer of the list are left
  pub swept_fewer : (pairs left : List Pair) (old mid new : Table) → Sweeps book pairs old mid true → Deletes book mid new
      → AreThose (IsHeldBy new) pairs left → length left < length pairs
  swept_fewer pairs left old mid new swept deletes those =
      those_smaller (IsHeldBy new) pairs left those
      (λ same.
      let it = swept.some refl in
      let held : IsHeldBy new it.0 = All-contains (IsHeldBy new) pairs it.0 (those_all (IsHeldBy new) pairs left those same) it.1 in
      it.2 ((deletes_less book mid new deletes).0 it.0.mode it.0.left it.0.right held))

  all_shown : (table : Table) (pairs : List Pair) → ((pair : Pair) → Contains pairs pair → IsShownBy book table pair)
      → AreThose (IsShownBy book table) pairs pairs
  all_shown table [] shown = none
  all_shown table (pair ∷ pairs) shown = kept pair (shown pair (0, omega arith, refl)) (all_shown table pairs (λ other there. shown other (in_rest pair other pairs there)))

  -- where none is gone, the list justifies itself
  pub swept_list : (puts : List Put) (wanted pairs : List Pair) (old new : Table) → IsLeft book puts wanted pairs → IsTable puts pairs old
      → Sweeps book pairs old new false → IsPairList book puts wanted pairs
  swept_list puts wanted pairs old new left is swept =
      left_last book puts wanted pairs pairs left
      (those_justified book puts pairs new table pairs pairs refl
      (all_shown new pairs (λ pair there. swept.shown refl pair there ((table.holds pair.mode pair.left pair.right).1 there))))
      refl
    where
      table : IsTable puts pairs new
      table = subst (IsTable puts pairs) (sym (swept.same refl)) is
