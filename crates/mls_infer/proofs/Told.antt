-- The loop goes on with schemes that are told, and the program knows others with the same types.
--     can_told                  a node that can be inferred over what is told can be over what is known
--     stop_told, answer_told    what stops it or answers it
--     cleared, told_next        what is told after a step
use Rattle.std.proofs.Common.{◌≡◌, ◌⊎◌, inl, inr, ℕ, zero, suc, ◌+◌, ◌<◌, List, [], ◌∷◌, ◌++◌, length, refl, sym, ap, ◌∙◌, subst, arith, length-append, Some, None, slice_get, slice_set, Contains, All}
use Rattle.std.proofs.lemmas.Bool.{cases_eq}
use Rattle.std.proofs.lemmas.List.Elements.{All-cons}
use Rattle.mls_automaton.specs.declared.scheme.Scheme.{Scheme}
use Rattle.mls_automaton.proofs.Lists.{Contains-cases}
use Rattle.mls_term.specs.declared.term.TermForm.{TermForm}
use Rattle.mls_term.specs.declared.term.TermForm.TheVariants as form
use Rattle.mls_biunify.specs.Live.{Live}
use Rattle.mls_infer.specs.declared.done.Known.{Known}
use Rattle.mls_infer.specs.declared.fault.SiteKind.{SiteKind}
use Rattle.mls_infer.specs.Constraints.{Constraint, HasStates, no_goals}
use Rattle.mls_infer.specs.Doing.{AreDone, schemes_known}
use Rattle.mls_infer.specs.Finished.{Finished, Has, HasEach}
use Rattle.mls_infer.specs.Finishing.{CanStep, HasConstraint, HasParts, IsAnswer, IsNamed, IsStop, KeepsBut, Scope, is_copied, is_named, is_read, is_solved}
use Rattle.mls_infer.specs.Forms.{children}
use Rattle.mls_infer.specs.Merges.{AreAlike, HaveSameTypes}
use Rattle.mls_infer.proofs.ConstraintRows.{nothing_in}
use Rattle.mls_infer.proofs.DoneNodes.{alike_then, known_at, known_states, then_types}
use Rattle.mls_infer.proofs.FinishedParts.{one_scheme, other_item}
use Rattle.mls_infer.proofs.Going.{one_each}

states_alike : (ss ts : List Scheme) → AreAlike ss ts → All HasStates ts
states_alike [] [] alike = λ k d low. absurd (omega arith)
states_alike [] (t ∷ ts) alike = absurd alike
states_alike (s ∷ ss) [] alike = absurd alike
states_alike (s ∷ ss) (t ∷ ts) alike = All-cons HasStates t ts alike.0.0 (states_alike ss ts alike.1)

module _ (told known : Finished) (keeps : KeepsBut [] told known) (states : (i : ℕ) (s : Scheme) → Has known i s → HasStates s) where
  pub told_has : (i : ℕ) (s : Scheme) → Has told i s → (t : Scheme) × Has known i t × HaveSameTypes (no_goals s) (no_goals t)
  told_has i s has = keeps.kept i s (λ none. nothing_in i none) has

  told_each : (is : List ℕ) (ss : List Scheme) → HasEach told is ss → (ts : List Scheme) × HasEach known is ts × AreAlike ss ts
  told_each [] [] each = ([], tt, tt)
  told_each [] (s ∷ ss) each = absurd each
  told_each (i ∷ is) [] each = absurd each
  told_each (i ∷ is) (s ∷ ss) each =
      let it = told_has i s each.0 in
      let later = told_each is ss each.1 in
      (it.0 ∷ later.0, (it.1, later.1), ((states i it.0 it.1, it.2), later.2))

  told_parts : (node : TermForm) → HasParts node told → HasParts node known
  told_parts node parts =
      let it = told_each (children node) parts.schemes parts.each in
      record { schemes = it.0; each = it.1; are = states_alike parts.schemes it.0 it.2; distinct = parts.distinct; built = parts.built }

  constraint_told : (node : TermForm) (c : Constraint) → HasConstraint node known c → HasParts node told → HasConstraint node told c
  constraint_told node c has parts =
      let it = told_each (children node) parts.schemes parts.each in
      let P : List Scheme → Type 0 = λ ts. AreAlike parts.schemes ts in
      record {
        schemes = parts.schemes;
        each = parts.each;
        taken = has.taken;
        alike = alike_then parts.schemes has.schemes has.taken (subst P (one_each known (children node) it.0 has.schemes it.1 has.each) it.2) has.alike;
        is = has.is;
      }

  module _ (scope : Scope) where
    pub can_told : (node : TermForm) → CanStep scope node told → CanStep scope node known
    can_told (form.Inner k) can = let it = told_has can.0 can.1 can.3 in (can.0, it.0, can.2, it.1, states can.0 it.0 it.1)
    can_told (form.Global g) can = can
    can_told (form.Bound x) can = told_parts (form.Bound x) can
    can_told (form.Number n) can = told_parts (form.Number n) can
    can_told (form.Truth b) can = told_parts (form.Truth b) can
    can_told (form.Fun x e) can = told_parts (form.Fun x e) can
    can_told (form.Apply f a) can = told_parts (form.Apply f a) can
    can_told (form.Make parts) can = told_parts (form.Make parts) can
    can_told (form.Project e label) can = told_parts (form.Project e label) can
    can_told (form.If c e f) can = told_parts (form.If c e f) can
    can_told (form.Let k e f) can = told_parts (form.Let k e f) can
    can_told (form.Rec x e) can = told_parts (form.Rec x e) can

    solved_told : (node : TermForm) (c : Constraint) → CanStep scope node told → HasConstraint node known c → HasConstraint node told c
    solved_told (form.Inner k) c can has = absurd has.is
    solved_told (form.Global g) c can has = absurd has.is
    solved_told (form.Bound x) c can has = constraint_told (form.Bound x) c has can
    solved_told (form.Number n) c can has = constraint_told (form.Number n) c has can
    solved_told (form.Truth b) c can has = constraint_told (form.Truth b) c has can
    solved_told (form.Fun x e) c can has = constraint_told (form.Fun x e) c has can
    solved_told (form.Apply f a) c can has = constraint_told (form.Apply f a) c has can
    solved_told (form.Make parts) c can has = constraint_told (form.Make parts) c has can
    solved_told (form.Project e label) c can has = constraint_told (form.Project e label) c has can
    solved_told (form.If d e f) c can has = constraint_told (form.If d e f) c has can
    solved_told (form.Let k e f) c can has = constraint_told (form.Let k e f) c has can
    solved_told (form.Rec x e) c can has = constraint_told (form.Rec x e) c has can

    pub stop_told : (node : TermForm) (m : SiteKind) → CanStep scope node told → IsStop node known m → IsStop node told m
    stop_told node m can stop = record { constraint = stop.constraint; is = solved_told node stop.constraint can stop.is; none = stop.none; first = stop.first }

    named_told : (node : TermForm) (t s : Scheme) → CanStep scope node told → IsNamed scope node known t → HaveSameTypes (no_goals t) (no_goals s) → IsAnswer scope node told s
    named_told node t s can (is_copied k i same first has) alike =
        let P : TermForm → Type 0 = λ node. CanStep scope node told in
        let it : (i : ℕ) × (s : Scheme) × (scope.first_of k ≡ Some i) × Has told i s × HasStates s = subst P same can in
        let u = told_has it.0 it.1 it.3 in
        let both : Some it.0 ≡ Some i = sym it.2 ∙ first in
        let same_root : it.0 ≡ i = cc in
        let H : ℕ → Type 0 = λ i. Has known i u.0 in
        let T : Scheme → Type 0 = λ t. HaveSameTypes (no_goals it.1) (no_goals t) in
        let own : HaveSameTypes (no_goals it.1) (no_goals t) = subst T (one_scheme known i u.0 t (subst H same_root u.1) has) u.2 in
        is_named it.1 (is_copied k it.0 same it.2 it.3) (then_types it.1 t s own alike)
    named_told node t s can (is_read g b same there read) alike = is_named t (is_read g b same there read) alike

    pub answer_told : (node : TermForm) (s : Scheme) → CanStep scope node told → IsAnswer scope node known s → IsAnswer scope node told s
    answer_told node s can (is_named t named alike) = named_told node t s can named alike
    answer_told node s can (is_solved c has solution) = is_solved c (solved_told node c can has) solution

-- what is told without some
abbrev pub cleared : List ℕ → Finished → Finished
cleared [] told = told
cleared (i ∷ is) told = cleared is (slice_set told i None)

pub cleared_size : (is : List ℕ) (told : Finished) → length (cleared is told) ≡ length told
cleared_size [] told = refl
cleared_size (i ∷ is) told = cleared_size is (slice_set told i None) ∙ size told i
  where
    size : (told : Finished) (i : ℕ) → length (slice_set told i None) ≡ length told
    size [] i = refl
    size (x ∷ xs) zero = refl
    size (x ∷ xs) (suc i) = ap suc (size xs i)

pub cleared_other : (is : List ℕ) (told : Finished) (j : ℕ) → (Contains is j → ⊥) → slice_get (cleared is told) j ≡ slice_get told j
cleared_other [] told j out = refl
cleared_other (i ∷ is) told j out =
    cleared_other is (slice_set told i None) j (λ inside. out (suc inside.0, (let low : inside.0 < length is = inside.1 in omega arith), inside.2))
    ∙ other_item told i j None (λ same. out (0, omega arith, sym same))

cleared_has : (is : List ℕ) (told : Finished) (j : ℕ) (s : Scheme) → Has (cleared is told) j s → (Contains is j → ⊥) × Has told j s
cleared_has [] told j s has = ((λ none. nothing_in j none), has)
cleared_has (i ∷ is) told j s has =
    let it = cleared_has is (slice_set told i None) j s has in
    elim (cases_eq j i) [
      | inl same ↦ let H : ℕ → Type 0 = λ j. Has (slice_set told i None) j s in absurd (gone told i (subst H same it.1))
      | inr other ↦ (
        (λ inside. elim (Contains-cases i is j inside) [ inl here ↦ other (sym here) | inr later ↦ it.0 later ]),
        sym (other_item told i j None other) ∙ it.1,
      )
    ]
  where
    gone : (told : Finished) (i : ℕ) → Has (slice_set told i None) i s → ⊥
    gone [] i has = absurd (cc)
    gone (x ∷ xs) zero has = absurd (cc)
    gone (x ∷ xs) (suc i) has = gone xs i has

-- at the end of a list, and before it
pub get_end : {X : Type 0} (xs : List X) (x : X) → slice_get (xs ++ x ∷ []) (length xs) ≡ Some x
get_end [] x = refl
get_end (y ∷ xs) x = get_end xs x

pub get_old : {X : Type 0} (xs : List X) (x y : X) (k : ℕ) → slice_get xs k ≡ Some y → slice_get (xs ++ x ∷ []) k ≡ Some y
get_old [] x y k at = absurd (cc)
get_old (z ∷ xs) x y zero at = at
get_old (z ∷ xs) x y (suc k) at = get_old xs x y k at

get_cases : {X : Type 0} (xs : List X) (x y : X) (k : ℕ) → slice_get (xs ++ x ∷ []) k ≡ Some y → (slice_get xs k ≡ Some y) ⊎ ((k ≡ length xs) × (y ≡ x))
get_cases [] x y zero at = inr (refl, (cc))
get_cases [] x y (suc k) at = absurd (cc)
get_cases (z ∷ xs) x y zero at = inl at
get_cases (z ∷ xs) x y (suc k) at = elim (get_cases xs x y k at) [ inl old ↦ inl old | inr new ↦ inr (ap suc new.0, new.1) ]

-- after a step
module _ (is : List ℕ) (told known mid new : Finished) (s : Scheme) (keeps : KeepsBut [] told known) (step : KeepsBut is known mid) (adds : KeepsBut [] (mid ++ Some s ∷ []) new) where
  pub told_next : KeepsBut [] (cleared is told ++ Some s ∷ []) new
  told_next = record {
    size =
        let one : length new ≡ length (mid ++ Some s ∷ []) = adds.size in
        let two : length (mid ++ Some s ∷ []) ≡ length mid + 1 = length-append mid (Some s ∷ []) in
        let three : length (cleared is told ++ Some s ∷ []) ≡ length (cleared is told) + 1 = length-append (cleared is told) (Some s ∷ []) in
        let four : length (cleared is told) ≡ length told = cleared_size is told in
        let five : length known ≡ length told = keeps.size in
        let six : length mid ≡ length known = step.size in
        omega arith;
    kept = λ j t none has. go j t (get_cases (cleared is told) (Some s) (Some t) j has);
  }
    where
      go : (j : ℕ) (t : Scheme) → Has (cleared is told) j t ⊎ ((j ≡ length (cleared is told)) × (Some t ≡ Some s)) → (u : Scheme) × Has new j u × HaveSameTypes (no_goals t) (no_goals u)
      go j t (inl old) =
          let was = cleared_has is told j t old in
          let a = keeps.kept j t (λ none. nothing_in j none) was.1 in
          let b = step.kept j a.0 was.0 a.1 in
          let c = adds.kept j b.0 (λ none. nothing_in j none) (get_old mid (Some s) (Some b.0) j b.1) in
          (c.0, c.1, then_types t a.0 c.0 a.2 (then_types a.0 b.0 c.0 b.2 c.2))
      go j t (inr last) =
          let same : t ≡ s = cc in
          let four : length (cleared is told) ≡ length told = cleared_size is told in
          let five : length known ≡ length told = keeps.size in
          let six : length mid ≡ length known = step.size in
          let first : j ≡ length (cleared is told) = last.0 in
          let at : length mid ≡ j = omega arith in
          let H : ℕ → Type 0 = λ j. Has (mid ++ Some s ∷ []) j s in
          let c = adds.kept j s (λ none. nothing_in j none) (subst H at (get_end mid (Some s))) in
          let S : Scheme → Type 0 = λ t. HaveSameTypes (no_goals t) (no_goals c.0) in
          (c.0, c.1, subst S (sym same) c.2)

-- what is known of nodes has states
pub done_states : (live : Live) (nodes : List Known) → AreDone live nodes → (i : ℕ) (s : Scheme) → Has (schemes_known live nodes) i s → HasStates s
done_states live nodes done i s has =
    let it = known_at live nodes i s has in
    known_states live done.is_live it.0 s (done.stand i it.0 it.1) it.2

-- nothing is told at first
pub none_told : (known : Finished) → known ≡ [] → KeepsBut [] [] known
none_told known none = record { size = ap length none; kept = λ j s out has. absurd (cc) }
