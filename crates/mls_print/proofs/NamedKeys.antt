-- Keys get their numbers as they appear.
--     variable_step, recursion_step       the number of a key when it appears
use Rattle.std.proofs.Common.{◌≡◌, inl, inr, ℕ, suc, ◌+◌, ◌<◌, ◌≤◌, Bool, true, false, ◌||◌, ◌==◌, List, [], ◌∷◌, ◌++◌, refl, sym, ap, ◌∙◌, subst, arith, length, get_or, slice_set, Some, None}
use Rattle.std.specs.Prelude.{Option, is_some, unwrap_or, cond}
use Rattle.std.proofs.lemmas.Bool.{cases_eq}
use Rattle.std.proofs.lemmas.Bool.Decides.{nat_tests}
use Rattle.std.proofs.lemmas.List.{length-set, length_push, get_or-set_same, get_or-set_other}
use Rattle.std.proofs.lemmas.List.Folds.{list_any-append}
use Rattle.mls_print.specs.Keys.{Key, variable, recursion, same_key, place_of}
use Rattle.mls_print.specs.steps.Writing.{is_known, added, number_in, GetsNumber, HasNumbers}
use Rattle.mls_print.proofs.Names.{same_key-self}
use Rattle.mls_print.proofs.KeyOrder.{place-front}

-- what a number tells of a key
known-some : (seen : List Key) (key : Key) (k : ℕ) → number_in seen key ≡ Some k → (is_known seen key ≡ true) × (place_of seen key ≡ k)
known-some seen key k e = go (is_known seen key) refl e
  where
    go : (b : Bool) → is_known seen key ≡ b → cond b (Some (place_of seen key)) None ≡ Some k → (is_known seen key ≡ true) × (place_of seen key ≡ k)
    go true is e = (is, ap (λ o. unwrap_or o 0) e)
    go false is e = let no : false ≡ true = ap is_some e in absurd (cc)

known-none : (seen : List Key) (key : Key) → number_in seen key ≡ None → is_known seen key ≡ false
known-none seen key e = go (is_known seen key) refl e
  where
    go : (b : Bool) → is_known seen key ≡ b → cond b (Some (place_of seen key)) None ≡ None → is_known seen key ≡ false
    go false is e = is
    go true is e = let no : true ≡ false = ap is_some e in absurd (cc)

added-known : (seen : List Key) (key : Key) → is_known seen key ≡ true → added seen key ≡ seen
added-known seen key e = ap (λ b. cond b seen (seen ++ key ∷ [])) e

added-new : (seen : List Key) (key : Key) → is_known seen key ≡ false → added seen key ≡ seen ++ key ∷ []
added-new seen key e = ap (λ b. cond b seen (seen ++ key ∷ [])) e

-- a key that appears behind others
place-end : (seen : List Key) (key : Key) → is_known seen key ≡ false → place_of (seen ++ key ∷ []) key ≡ length seen
place-end [] key e = ap (λ b. cond b 0 1) (same_key-self key)
place-end (first ∷ rest) key e = go (same_key first key) refl e (place-end rest key)
  where
    go : (b : Bool) → same_key first key ≡ b → (b || is_known rest key) ≡ false → (is_known rest key ≡ false → place_of (rest ++ key ∷ []) key ≡ length rest) → cond b 0 (suc (place_of (rest ++ key ∷ []) key)) ≡ suc (length rest)
    go true is e later = absurd (cc)
    go false is e later = ap suc (later e)

known-push : (seen : List Key) (key other : Key) → is_known (seen ++ key ∷ []) other ≡ (is_known seen other || (same_key key other || false))
known-push seen key other = list_any-append (λ k. same_key k other) seen (key ∷ [])

number-end : (seen : List Key) (key : Key) → is_known seen key ≡ false → number_in (seen ++ key ∷ []) key ≡ Some (length seen)
number-end seen key e =
    let yes : is_known (seen ++ key ∷ []) key ≡ true = known-push seen key key ∙ (λ i. e i || (same_key-self key i || false)) in
    (λ i. cond (yes i) (Some (place-end seen key e i)) None)

number-apart : (seen : List Key) (key other : Key) → same_key key other ≡ false → number_in (seen ++ key ∷ []) other ≡ number_in seen other
number-apart seen key other apart = go (is_known seen other) refl
  where
    longer : (b : Bool) → is_known seen other ≡ b → is_known (seen ++ key ∷ []) other ≡ (b || false)
    longer b e = known-push seen key other ∙ (λ i. e i || (apart i || false))

    go : (b : Bool) → is_known seen other ≡ b → number_in (seen ++ key ∷ []) other ≡ number_in seen other
    go true e = λ i. cond ((longer true e ∙ sym e) i) (Some (place-front seen (key ∷ []) other e i)) None
    go false e = (λ i. cond (longer false e i) (Some (place_of (seen ++ key ∷ []) other)) None) ∙ sym (λ i. cond (e i) (Some (place_of seen other)) None)

pub unlike : (m n : ℕ) → (m ≡ n → ⊥) → (n == m) ≡ false
unlike m n apart = go (n == m) refl
  where
    go : (b : Bool) → (n == m) ≡ b → b ≡ false
    go false e = refl
    go true e = let same : m ≡ n = grind (arith, nat_tests) in absurd (apart same)

-- the table of one kind of keys
module _ (kind : ℕ → Key) (tells : (m n : ℕ) → (m ≡ n → ⊥) → same_key (kind n) (kind m) ≡ false) where
  abbrev pub Tables : List Key → List (Option ℕ) → Type 0
  Tables seen numbers = (m : ℕ) → m < length numbers → get_or numbers m None ≡ number_in seen (kind m)

  tables-new : (seen : List Key) (numbers : List (Option ℕ)) (n : ℕ) → Tables seen numbers → n < length numbers → is_known seen (kind n) ≡ false → Tables (seen ++ kind n ∷ []) (slice_set numbers n (Some (length seen)))
  tables-new seen numbers n tables low new m below =
      elim (cases_eq m n) [
        | inl same ↦
            let P : ℕ → Type 0 = λ j. get_or (slice_set numbers n (Some (length seen))) j None ≡ number_in (seen ++ kind n ∷ []) (kind j) in
            subst P (sym same) (get_or-set_same numbers n (Some (length seen)) None low ∙ sym (number-end seen (kind n) new))
        | inr other ↦
            let inside : m < length numbers = omega (arith, length-set numbers n (Some (length seen))) in
            get_or-set_other numbers n m (Some (length seen)) None other
            ∙ (tables m inside ∙ sym (number-apart seen (kind n) (kind m) (tells m n other)))
      ]

  tables-apart : (seen : List Key) (numbers : List (Option ℕ)) (key : Key) → ((m : ℕ) → same_key key (kind m) ≡ false) → Tables seen numbers → Tables (seen ++ key ∷ []) numbers
  tables-apart seen numbers key apart tables m below = tables m below ∙ sym (number-apart seen key (kind m) (apart m))

abbrev pub MoreNumbers : List (Option ℕ) → ℕ → List (Option ℕ) → ℕ → Type 0
MoreNumbers old named new named_then = (length new ≡ length old) × (named_then ≤ named + 1)

-- the variable of a state appears
pub variable_step : (vs vs' rs : List (Option ℕ)) (n named named' given : ℕ) → n < length vs → GetsNumber (get_or vs n None) n named vs vs' named' given
    → MoreNumbers vs named vs' named' × ((seen : List Key) → HasNumbers seen vs rs named → HasNumbers (added seen (variable n)) vs' rs named' × (given ≡ place_of (added seen (variable n)) (variable n)))
variable_step vs vs' rs n named named' given low it = go (get_or vs n None) refl it
  where
    go : (o : Option ℕ) → get_or vs n None ≡ o → GetsNumber o n named vs vs' named' given
        → MoreNumbers vs named vs' named' × ((seen : List Key) → HasNumbers seen vs rs named → HasNumbers (added seen (variable n)) vs' rs named' × (given ≡ place_of (added seen (variable n)) (variable n)))
    go (Some k) e it = (
      (ap length it.1.0, (let h : named' ≡ named = it.1.1 in omega arith)),
      λ seen has.
          let is = known-some seen (variable n) k (sym (has.variable_number n low) ∙ e) in
          let same : added seen (variable n) ≡ seen = added-known seen (variable n) is.0 in
          let H : List Key → List (Option ℕ) → ℕ → Type 0 = λ seen vs named. HasNumbers seen vs rs named in (
            subst (λ seen. H seen vs' named') (sym same) (subst (λ vs. H seen vs named') (sym it.1.0) (subst (H seen vs) (sym it.1.1) has)),
            it.0 ∙ (sym is.1 ∙ ap (λ seen. place_of seen (variable n)) (sym same)),
          ),
    )
    go None e it = (
      (ap length it.1.0 ∙ length-set vs n (Some named), (let h : named' ≡ named + 1 = it.1.1 in omega arith)),
      λ seen has.
          let new : is_known seen (variable n) ≡ false = known-none seen (variable n) (sym (has.variable_number n low) ∙ e) in
          let same : added seen (variable n) ≡ seen ++ variable n ∷ [] = added-new seen (variable n) new in
          let count : named ≡ length seen = has.count in
          let table : vs' ≡ slice_set vs n (Some (length seen)) = it.1.0 ∙ ap (λ k. slice_set vs n (Some k)) count in
          let V : List (Option ℕ) → Type 0 = Tables variable unlike (seen ++ variable n ∷ []) in
          let numbers : HasNumbers (seen ++ variable n ∷ []) vs' rs named' = record {
            count = it.1.1 ∙ (ap (λ k. k + 1) count ∙ sym (length_push seen (variable n)));
            variable_number = subst V (sym table) (tables-new variable unlike seen vs n has.variable_number low new);
            recursion_number = tables-apart recursion unlike seen rs (variable n) (λ m. refl) has.recursion_number;
          } in (
            subst (λ seen. HasNumbers seen vs' rs named') (sym same) numbers,
            it.0 ∙ (count ∙ (sym (place-end seen (variable n) new) ∙ ap (λ seen. place_of seen (variable n)) (sym same))),
          ),
    )

-- a recursion appears
pub recursion_step : (vs rs rs' : List (Option ℕ)) (j named named' given : ℕ) → j < length rs → GetsNumber (get_or rs j None) j named rs rs' named' given
    → MoreNumbers rs named rs' named' × ((seen : List Key) → HasNumbers seen vs rs named → HasNumbers (added seen (recursion j)) vs rs' named' × (given ≡ place_of (added seen (recursion j)) (recursion j)))
recursion_step vs rs rs' j named named' given low it = go (get_or rs j None) refl it
  where
    go : (o : Option ℕ) → get_or rs j None ≡ o → GetsNumber o j named rs rs' named' given
        → MoreNumbers rs named rs' named' × ((seen : List Key) → HasNumbers seen vs rs named → HasNumbers (added seen (recursion j)) vs rs' named' × (given ≡ place_of (added seen (recursion j)) (recursion j)))
    go (Some k) e it = (
      (ap length it.1.0, (let h : named' ≡ named = it.1.1 in omega arith)),
      λ seen has.
          let is = known-some seen (recursion j) k (sym (has.recursion_number j low) ∙ e) in
          let same : added seen (recursion j) ≡ seen = added-known seen (recursion j) is.0 in
          let H : List Key → List (Option ℕ) → ℕ → Type 0 = λ seen rs named. HasNumbers seen vs rs named in (
            subst (λ seen. H seen rs' named') (sym same) (subst (λ rs. H seen rs named') (sym it.1.0) (subst (H seen rs) (sym it.1.1) has)),
            it.0 ∙ (sym is.1 ∙ ap (λ seen. place_of seen (recursion j)) (sym same)),
          ),
    )
    go None e it = (
      (ap length it.1.0 ∙ length-set rs j (Some named), (let h : named' ≡ named + 1 = it.1.1 in omega arith)),
      λ seen has.
          let new : is_known seen (recursion j) ≡ false = known-none seen (recursion j) (sym (has.recursion_number j low) ∙ e) in
          let same : added seen (recursion j) ≡ seen ++ recursion j ∷ [] = added-new seen (recursion j) new in
          let count : named ≡ length seen = has.count in
          let table : rs' ≡ slice_set rs j (Some (length seen)) = it.1.0 ∙ ap (λ k. slice_set rs j (Some k)) count in
          let V : List (Option ℕ) → Type 0 = Tables recursion unlike (seen ++ recursion j ∷ []) in
          let numbers : HasNumbers (seen ++ recursion j ∷ []) vs rs' named' = record {
            count = it.1.1 ∙ (ap (λ k. k + 1) count ∙ sym (length_push seen (recursion j)));
            variable_number = tables-apart variable unlike seen vs (recursion j) (λ m. refl) has.variable_number;
            recursion_number = subst V (sym table) (tables-new recursion unlike seen rs j has.recursion_number low new);
          } in (
            subst (λ seen. HasNumbers seen vs rs' named') (sym same) numbers,
            it.0 ∙ (count ∙ (sym (place-end seen (recursion j) new) ∙ ap (λ seen. place_of seen (recursion j)) (sym same))),
          ),
    )
