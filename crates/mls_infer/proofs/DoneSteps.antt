-- The steps on what is known of nodes.
--     take_waiting, take_copied     a part is taken, or a copy
--     named_done, named_keeps       a part is set apart
--     bound_out                     or a binder
--     pushed_done, shared_done, bind_done      a part is added, a known type, or a binder
--     pushed_schemes                what is known then
--     made_in                       parts give way to that of a node
--     stops_in                      or do not, since the constraint has no types
--     built_added                   what is built is added
--     trimmed_in                    a part is trimmed
--     field_built                   a copy of a field comes in place of a known type
--     bound_projected, bound_called      a binder is taken and projected, or applied
use Rattle.std.proofs.Common.{◌≡◌, ◌≢◌, ◌⊎◌, inl, inr, ℕ, zero, suc, List, [], ◌∷◌, ◌++◌, length, refl, sym, ap, ◌∙◌, subst, arith, Some, slice_get, slice_set, Contains}
use Rattle.std.specs.List.{AllPairs}
use Rattle.std.proofs.lemmas.Bool.{cases_eq}
use Rattle.std.proofs.lemmas.List.{map-append}
use Rattle.std.proofs.lemmas.List.Elements.{Contains-append_left, Contains-append_right}
use Rattle.mls_automaton.specs.declared.scheme.Scheme.{Scheme}
use Rattle.mls_automaton.proofs.Lists.{Contains-cases, Contains-here}
use Rattle.mls_biunify.specs.Live.{IsLive, Live}
use Rattle.mls_term.specs.declared.term.TermForm.{TermForm}
use Rattle.mls_term.specs.declared.term.TermForm.TheVariants as form
use Rattle.mls_infer.specs.declared.done.Known.{Known}
use Rattle.mls_infer.specs.declared.done.Known.TheVariants as known
use Rattle.mls_infer.specs.declared.pending.Pending.{Pending}
use Rattle.mls_infer.specs.declared.solve.NoSolution.{NoSolution}
use Rattle.mls_infer.specs.declared.solve.NoSolution.TheVariants as no_solution
use Rattle.mls_infer.specs.Constraints.{Constraint, HasStates, apply_constraint, bound_scheme, no_goals, project_constraint}
use Rattle.mls_infer.specs.Doing.{AreBeside, AreDone, AreTaken, IsAddedIn, IsBuiltIn, IsTakenOut, Stands, scheme_known, schemes_known, states_known}
use Rattle.mls_infer.specs.Fields.{IsFieldOf, IsKnownType, Shared}
use Rattle.mls_infer.specs.Finished.{Finished, Has, HasEach}
use Rattle.mls_infer.specs.Finishing.{HasConstraint, HasParts, KeepsBut, Scope, StopsAt, is_solved}
use Rattle.mls_infer.specs.Forms.{IsBuilt, IsPosed, children}
use Rattle.mls_infer.specs.Merges.{AreAlike, HaveSameTypes}
use Rattle.mls_infer.specs.Pending.{Changes, IsCopied, IsMade, IsMadeWith, IsPosedOver, IsRemade, StopsOver, Waits, all_states, part_in}
use Rattle.mls_infer.specs.Regions.{AreApart, TablePart, scheme_at, schemes_at}
use Rattle.mls_infer.proofs.ClosedConstraints.{bound_closed}
use Rattle.mls_infer.proofs.ConstraintRows.{nothing_in}
use Rattle.mls_infer.proofs.DoneNodes.{alike_snoc, alike_then, beside_on, done_on, each_split, hand_on, has_known, held_too, keeps_after, keeps_on, known_states, one_held, own_types, set_apart, set_cases, set_done, set_has, set_here, set_size, then_types}
use Rattle.mls_infer.proofs.FinishedParts.{one_scheme}
use Rattle.mls_infer.proofs.PartChanges.{changes_then}
use Rattle.mls_infer.proofs.SolvedConstraints.{solution_after}
use Rattle.mls_infer.proofs.TableSolutions.{part_states}

nothing_known : (states : List ℕ) (s : ℕ) → Contains [] s → Contains states s → ⊥
nothing_known states s none here = nothing_in s none

-- Nothing waits in place of a part that was taken.
module _ (live : Live) (nodes : List Known) (done : AreDone live nodes) (i : ℕ) where
  abbrev pub left : List Known
  left = slice_set nodes i known.Taken

  pub left_done : AreDone live left
  left_done = set_done live nodes i known.Taken done tt (λ j k other at. nothing_known (states_known k))

  pub left_apart : (states : List ℕ) → ((j : ℕ) (k : Known) → slice_get nodes j ≡ Some k → AreApart states (states_known k)) → (j : ℕ) (k : Known) → slice_get left j ≡ Some k → AreApart states (states_known k)
  left_apart states apart = set_apart live nodes i known.Taken states apart (λ s it none. nothing_in s none)

  -- the part is apart from what is left
  pub own_apart : (l : Known) → slice_get nodes i ≡ Some l → (j : ℕ) (k : Known) → slice_get left j ≡ Some k → AreApart (states_known l) (states_known k)
  own_apart l at j k at' = elim (set_cases nodes i j known.Taken k at') [
    | inl here ↦ let P : Known → Type 0 = λ k. AreApart (states_known l) (states_known k) in subst P (sym here.1) (λ s it none. nothing_in s none)
    | inr other ↦ done.apart i j l k (λ same. other.0 (sym same)) at other.1
  ]

  -- the scheme that was known
  pub the_scheme : (k : Known) (s t : Scheme) → slice_get nodes i ≡ Some k → scheme_known live k ≡ Some s → Has (schemes_known live nodes) i t → t ≡ s
  the_scheme k s t at is has = one_scheme (schemes_known live nodes) i t s has (has_known live nodes i k s at is)

module _ (first : Finished) (gone : List ℕ) (live : Live) (nodes : List Known) (parts : List TablePart) (taken : AreTaken first gone live nodes parts) (i : ℕ) (fresh : Contains gone i → ⊥) where
  abbrev rest : List Known
  rest = left live nodes taken.done i

  rest_done : AreDone live rest
  rest_done = left_done live nodes taken.done i

  rest_keeps : KeepsBut (gone ++ i ∷ []) first (schemes_known live rest)
  rest_keeps = record {
    size = set_size live nodes i known.Taken ∙ taken.keeps.size;
    kept = λ j s out has.
        let it = taken.keeps.kept j s (λ inside. out (Contains-append_left gone (i ∷ []) j inside)) has in
        let C : ℕ → Type 0 = Contains (i ∷ []) in
        let other : j ≢ i = λ same. out (Contains-append_right gone (i ∷ []) j (subst C (sym same) (Contains-here i []))) in
        (it.0, set_has live nodes i known.Taken j it.0 other it.1, it.2);
  }

  -- the scheme at the place, which has the types of one that was known at first
  as_known : (k : Known) (s t : Scheme) → slice_get nodes i ≡ Some k → scheme_known live k ≡ Some s → Has first i t → HaveSameTypes (no_goals t) (no_goals s)
  as_known k s t at is has =
      let it = taken.keeps.kept i t fresh has in
      let P : Scheme → Type 0 = λ s. HaveSameTypes (no_goals t) (no_goals s) in
      subst P (the_scheme live nodes taken.done i k s it.0 at is it.1) it.2

  -- schemes of the parts, and of one more
  alike_more : (new : Live) (part : TablePart) → ((ss : List Scheme) → HasEach first gone ss → AreAlike ss (schemes_at new.table parts)) → HasStates (scheme_at new.table part)
      → ((t : Scheme) → Has first i t → HaveSameTypes (no_goals t) (no_goals (scheme_at new.table part)))
      → (ss : List Scheme) → HasEach first (gone ++ i ∷ []) ss → AreAlike ss (schemes_at new.table (parts ++ part ∷ []))
  alike_more new part before states own ss each =
      let it = each_split first gone i ss each in
      let P : List Scheme → Type 0 = λ ss. AreAlike ss (schemes_at new.table (parts ++ part ∷ [])) in
      let Q : List Scheme → Type 0 = λ ts. AreAlike (it.0 ++ it.1 ∷ []) ts in
      subst P (sym it.2)
      (subst Q (sym (map-append (scheme_at new.table) parts (part ∷ [])))
      (alike_snoc it.0 (schemes_at new.table parts) it.1 (scheme_at new.table part) (before it.0 it.3) states (own it.1 it.4)))

  pub take_waiting : (p : Pending) → slice_get nodes i ≡ Some (known.Waiting p) → AreTaken first (gone ++ i ∷ []) live rest (parts ++ part_in p ∷ [])
  take_waiting p at =
      let part : TablePart = part_in p in
      let waits : Waits live part = taken.done.stand i (known.Waiting p) at in
      record {
        done = rest_done;
        beside =
            held_too live rest parts part (record { waiting = taken.beside.waiting; beside = left_apart live nodes taken.done i (all_states parts) taken.beside.beside }) waits
            (taken.beside.beside i (known.Waiting p) at) (own_apart live nodes taken.done i (known.Waiting p) at);
        alike =
            alike_more live part taken.alike (known_states live taken.done.is_live (known.Waiting p) (scheme_at live.table part) waits refl)
            (λ t has. as_known (known.Waiting p) (scheme_at live.table part) t at refl has);
        keeps = rest_keeps;
      }

  pub take_copied : (k : Known) (s : Scheme) → slice_get nodes i ≡ Some k → scheme_known live k ≡ Some s → (new : Live) → IsLive new → (part : TablePart) → IsCopied s live new part → AreTaken first (gone ++ i ∷ []) new rest (parts ++ part ∷ [])
  take_copied k s at is new is_new part copy =
      let is_live : IsLive live = taken.done.is_live in
      let none : (j : ℕ) (k : Known) → slice_get rest j ≡ Some k → AreApart [] (states_known k) = λ j k at. nothing_known (states_known k) in
      let hand = hand_on [] live new part.states copy.changes is_live is_new parts taken.beside.waiting (nothing_known (all_states parts)) in
      record {
        done = done_on [] live new part.states copy.changes is_live is_new rest rest_done none;
        beside =
            held_too new rest parts part (record { waiting = hand.0; beside = left_apart live nodes taken.done i (all_states parts) taken.beside.beside }) copy.waits
            (λ s it here. hand.1 s here it) (beside_on [] live new part.states copy.changes is_live is_new rest rest_done none);
        alike =
            alike_more new part (λ ss each. alike_then ss (schemes_at live.table parts) (schemes_at new.table parts) (taken.alike ss each) hand.2)
            (part_states new is_new part.states copy.waits.there part.env part.root copy.waits.part)
            (λ t has. then_types t s (scheme_at new.table part) (as_known k s t at is has) copy.alike);
        keeps = keeps_after (gone ++ i ∷ []) first (schemes_known live rest) (schemes_known new rest) rest_keeps (keeps_on [] live new part.states copy.changes is_live is_new rest rest_done none);
      }

-- A part is set apart.
module _ (live : Live) (nodes : List Known) (done : AreDone live nodes) (i : ℕ) (k : Known) (s : Scheme) (at : slice_get nodes i ≡ Some k) (is : scheme_known live k ≡ Some s) (new : Live) (is_new : IsLive new)
    (changes : Changes (states_known k) live new []) (r : Shared) (is_known : IsKnownType r.value) (alike : HaveSameTypes (no_goals s) (no_goals r.value.scheme)) where
  abbrev others : List Known
  others = left live nodes done i

  abbrev named : List Known
  named = slice_set others i (known.Named r)

  pub named_here : slice_get named i ≡ Some (known.Named r)
  named_here = set_here others i (known.Named r) known.Taken (set_here nodes i known.Taken k at)

  pub named_done : AreDone new named
  named_done =
      set_done new others i (known.Named r)
      (done_on (states_known k) live new [] changes done.is_live is_new others (left_done live nodes done i) (own_apart live nodes done i k at))
      is_known (λ j l other at. nothing_known (states_known l))

  pub named_keeps : KeepsBut [] (schemes_known live nodes) (schemes_known new named)
  named_keeps =
      let on : KeepsBut [] (schemes_known live others) (schemes_known new others) =
      keeps_on (states_known k) live new [] changes done.is_live is_new others (left_done live nodes done i) (own_apart live nodes done i k at) in
      record {
        size = set_size new others i (known.Named r) ∙ (on.size ∙ set_size live nodes i known.Taken);
        kept = λ j t none has. go on j t none has (cases_eq j i);
      }
    where
      go : KeepsBut [] (schemes_known live others) (schemes_known new others) → (j : ℕ) (t : Scheme) → (Contains [] j → ⊥) → Has (schemes_known live nodes) j t → (j ≡ i) ⊎ (j ≢ i) → (u : Scheme) × Has (schemes_known new named) j u × HaveSameTypes (no_goals t) (no_goals u)
      go on j t none has (inl same) =
          let H : ℕ → Type 0 = λ j. Has (schemes_known live nodes) j t in
          let N : ℕ → Type 0 = λ j. Has (schemes_known new named) j r.value.scheme in
          let S : Scheme → Type 0 = λ t. HaveSameTypes (no_goals t) (no_goals r.value.scheme) in
          let one : t ≡ s = the_scheme live nodes done i k s t at is (subst H same has) in
          (r.value.scheme, subst N (sym same) (has_known new named i (known.Named r) r.value.scheme named_here refl), subst S (sym one) alike)
      go on j t none has (inr other) =
          let it = on.kept j t none (set_has live nodes i known.Taken j t other has) in
          (it.0, set_has new others i (known.Named r) j it.0 other it.1, it.2)

-- A binder came and was taken out: it has the types of a binder.
pub record IsBoundOut (live : Live) (x : ℕ) (new : Live) (s : Scheme) : Type 0 where
  pub is_live : IsLive new
  pub changes : Changes [] live new []
  pub alike : HaveSameTypes (no_goals (bound_scheme x)) (no_goals s)

pub bound_out : (live : Live) (x : ℕ) (mid : Live) (part : TablePart) → IsCopied (bound_scheme x) live mid part → (new : Live) (s : Scheme) → IsTakenOut mid part new s → IsBoundOut live x new s
bound_out live x mid part copy new s out = record {
  is_live = out.is_live;
  changes = changes_then [] live mid new part.states [] copy.changes out.changes;
  alike = then_types (bound_scheme x) (scheme_at mid.table part) s copy.alike out.alike;
}

-- what was there is put back
pub set_back : (nodes : List Known) (i : ℕ) (x y : Known) → slice_get nodes i ≡ Some x → slice_set (slice_set nodes i y) i x ≡ nodes
set_back [] i x y at = refl
set_back (z ∷ zs) zero x y at = let same : z ≡ x = cc in ap (λ x. x ∷ zs) (sym same)
set_back (z ∷ zs) (suc i) x y at = ap (λ xs. z ∷ xs) (set_back zs i x y at)

-- what is apart at a place has the types of what was known there
pub named_alike : (first : Finished) (live : Live) (nodes : List Known) (i : ℕ) → AreDone live nodes → KeepsBut [] first (schemes_known live nodes) → (r : Shared) → slice_get nodes i ≡ Some (known.Named r) → (s : Scheme) → Has first i s → HaveSameTypes (no_goals s) (no_goals r.value.scheme)
named_alike first live nodes i done keeps r at s has =
    let t = keeps.kept i s (λ none. nothing_in i none) has in
    let P : Scheme → Type 0 = λ t. HaveSameTypes (no_goals s) (no_goals t) in
    subst P (the_scheme live nodes done i (known.Named r) r.value.scheme t.0 at refl t.1) t.2

-- A part is added.
snoc_cases : (xs : List Known) (x : Known) (j : ℕ) (k : Known) → slice_get (xs ++ x ∷ []) j ≡ Some k → (slice_get xs j ≡ Some k) ⊎ ((j ≡ length xs) × (k ≡ x))
snoc_cases [] x zero k at = inr (refl, (cc))
snoc_cases [] x (suc j) k at = absurd (cc)
snoc_cases (y ∷ ys) x zero k at = inl at
snoc_cases (y ∷ ys) x (suc j) k at = elim (snoc_cases ys x j k at) [ inl old ↦ inl old | inr new ↦ inr (ap suc new.0, new.1) ]

module _ (live : Live) (nodes : List Known) where
  more_done : AreDone live nodes → (k : Known) → Stands live k → ((j : ℕ) (l : Known) → slice_get nodes j ≡ Some l → AreApart (states_known k) (states_known l)) → AreDone live (nodes ++ k ∷ [])
  more_done done k stands own = record {
    is_live = done.is_live;
    stand = λ j l at. elim (snoc_cases nodes k j l at) [
      | inl old ↦ done.stand j l old
      | inr new ↦ let P : Known → Type 0 = Stands live in subst P (sym new.1) stands
    ];
    apart = λ j m l l' distinct at at'. both j m l l' distinct (snoc_cases nodes k j l at) (snoc_cases nodes k m l' at');
  }
    where
      both : (j m : ℕ) (l l' : Known) → j ≢ m → (slice_get nodes j ≡ Some l) ⊎ ((j ≡ length nodes) × (l ≡ k)) → (slice_get nodes m ≡ Some l') ⊎ ((m ≡ length nodes) × (l' ≡ k)) → AreApart (states_known l) (states_known l')
      both j m l l' distinct (inl old) (inl old') = done.apart j m l l' distinct old old'
      both j m l l' distinct (inl old) (inr new) =
          let P : Known → Type 0 = λ l'. AreApart (states_known l) (states_known l') in
          subst P (sym new.1) (λ s it mine. own j l old s mine it)
      both j m l l' distinct (inr new) (inl old) = let P : Known → Type 0 = λ l. AreApart (states_known l) (states_known l') in subst P (sym new.1) (own m l' old)
      both j m l l' distinct (inr new) (inr new') = absurd (distinct (new.0 ∙ sym new'.0))

  pub pushed_done : (p : Pending) → AreDone live nodes → AreBeside live nodes (part_in p ∷ []) → AreDone live (nodes ++ known.Waiting p ∷ [])
  pushed_done p done beside =
      more_done done (known.Waiting p) beside.waiting.0
      (λ j l at s it here. beside.beside j l at s (Contains-append_left (part_in p).states [] s it) here)

  pub bind_done : (x : ℕ) → AreDone live nodes → AreDone live (nodes ++ known.Bound x ∷ [])
  bind_done x done = more_done done (known.Bound x) tt (λ j l at. nothing_known (states_known l))

  pub shared_done : (r : Shared) → AreDone live nodes → IsKnownType r.value → AreDone live (nodes ++ known.Named r ∷ [])
  shared_done r done is = more_done done (known.Named r) is (λ j l at. nothing_known (states_known l))

  pub pushed_schemes : (k : Known) → schemes_known live (nodes ++ k ∷ []) ≡ schemes_known live nodes ++ scheme_known live k ∷ []
  pushed_schemes k = map-append (scheme_known live) nodes (k ∷ [])

-- Nothing was taken yet.
pub none_taken : (live : Live) (nodes : List Known) → AreDone live nodes → AreTaken (schemes_known live nodes) [] live nodes []
none_taken live nodes done = record {
  done = done;
  beside = record { waiting = tt; beside = λ i k at. nothing_known (states_known k) };
  alike = none_alike;
  keeps = record { size = refl; kept = λ j s out has. (s, has, own_types s) };
}
  where
    none_alike : (ss : List Scheme) → HasEach (schemes_known live nodes) [] ss → AreAlike ss []
    none_alike [] each = tt
    none_alike (s ∷ ss) each = absurd each

-- The parts of a node give way to its own.
module _ (node : TermForm) (first : Finished) (mid new : Live) (nodes : List Known) (parts : List TablePart) (taken : AreTaken first (children node) mid nodes parts) (has : HasParts node first) where
  -- the constraint is over schemes with the types of those that were known
  over_known : (c : Constraint) → IsPosedOver node (schemes_at mid.table parts) c → HasConstraint node first c
  over_known c posed = record {
    schemes = has.schemes;
    each = has.each;
    taken = posed.taken;
    alike = alike_then has.schemes (schemes_at mid.table parts) posed.taken (taken.alike has.schemes has.each) posed.alike;
    is = posed.is;
  }

  pub made_in : (part : TablePart) → IsLive new → IsMade node mid parts new part → IsBuiltIn node first new nodes part
  made_in part is_new made = record {
    done = done_on (all_states parts) mid new part.states made.changes taken.done.is_live is_new nodes taken.done taken.beside.beside;
    beside = one_held new nodes part made.waits (beside_on (all_states parts) mid new part.states made.changes taken.done.is_live is_new nodes taken.done taken.beside.beside);
    constraint = made.constraint;
    posed = over_known made.constraint made.posed;
    solution = made.solution;
    keeps =
        keeps_after (children node) first (schemes_known mid nodes) (schemes_known new nodes) taken.keeps
        (keeps_on (all_states parts) mid new part.states made.changes taken.done.is_live is_new nodes taken.done taken.beside.beside);
  }

  pub stops_in : (e : NoSolution) → StopsOver node mid parts e → StopsAt node first e
  stops_in (no_solution.Clash m) stop = record { constraint = stop.constraint; is = over_known stop.constraint stop.posed; none = stop.none; first = stop.first }
  stops_in no_solution.Memory stop = tt

-- a form over other numbers
pub made_as : (node other : TermForm) (old new : Live) (parts : List TablePart) (part : TablePart) → ((ss : List Scheme) (c : Constraint) → IsPosed node ss c → IsPosed other ss c) → IsMade node old parts new part → IsMade other old parts new part
made_as node other old new parts part same made = record {
  waits = made.waits;
  changes = made.changes;
  constraint = made.constraint;
  posed = record { taken = made.posed.taken; alike = made.posed.alike; is = same made.posed.taken made.constraint made.posed.is };
  solution = made.solution;
}

pub stops_as : (node other : TermForm) (live : Live) (parts : List TablePart) → ((ss : List Scheme) (c : Constraint) → IsPosed node ss c → IsPosed other ss c) → (e : NoSolution) → StopsOver node live parts e → StopsOver other live parts e
stops_as node other live parts same (no_solution.Clash m) stop = record {
  constraint = stop.constraint;
  posed = record { taken = stop.posed.taken; alike = stop.posed.alike; is = same stop.posed.taken stop.constraint stop.posed.is };
  none = stop.none;
  first = stop.first;
}
stops_as node other live parts same no_solution.Memory stop = tt

-- what is built is added
pub built_added : (scope : Scope) (node : TermForm) (first : Finished) (mid new : Live) (rest more : List Known) (part : TablePart) → IsBuiltIn node first mid rest part → AreDone new more
    → KeepsBut [] (schemes_known mid rest ++ Some (scheme_at mid.table part) ∷ []) (schemes_known new more) → IsAddedIn scope node first new more
built_added scope node first mid new rest more part built done adds = record {
  done = done;
  scheme = scheme_at mid.table part;
  answer = record { answer = is_solved built.constraint built.posed built.solution; states = built.solution.states };
  rest = schemes_known mid rest;
  keeps = built.keeps;
  adds = adds;
}

-- A part is trimmed.
pub trimmed_in : (node : TermForm) (first : Finished) (live new : Live) (nodes : List Known) (part other : TablePart) → IsLive new → IsRemade live part new other → IsBuiltIn node first live nodes part → IsBuiltIn node first new nodes other
trimmed_in node first live new nodes part other is_new remade it =
    let apart : (j : ℕ) (k : Known) → slice_get nodes j ≡ Some k → AreApart part.states (states_known k) = λ j k at s own here. it.beside.beside j k at s (Contains-append_left part.states [] s own) here in
    let states : HasStates (scheme_at new.table other) = part_states new is_new other.states remade.waits.there other.env other.root remade.waits.part in
    record {
      done = done_on part.states live new other.states remade.changes it.done.is_live is_new nodes it.done apart;
      beside = one_held new nodes other remade.waits (beside_on part.states live new other.states remade.changes it.done.is_live is_new nodes it.done apart);
      constraint = it.constraint;
      posed = it.posed;
      solution = solution_after it.constraint (scheme_at live.table part) (scheme_at new.table other) it.solution (record { states = states; just = remade.alike });
      keeps = keeps_after (children node) first (schemes_known live nodes) (schemes_known new nodes) it.keeps (keeps_on part.states live new other.states remade.changes it.done.is_live is_new nodes it.done apart);
    }

-- schemes that were taken one time and another
keeps_both : (gs hs : List ℕ) (a b c : Finished) → KeepsBut gs a b → KeepsBut hs b c → KeepsBut (gs ++ hs) a c
keeps_both gs hs a b c first second = record {
  size = second.size ∙ first.size;
  kept = λ j s out has.
      let one = first.kept j s (λ here. out (Contains-append_left gs hs j here)) has in
      let two = second.kept j one.0 (λ here. out (Contains-append_right gs hs j here)) one.1 in
      (two.0, two.1, then_types s one.0 two.0 one.2 two.2);
}

-- A copy of a field comes in place of a known type.
module _ (live new : Live) (nodes : List Known) (done : AreDone live nodes) (i : ℕ) (label : List ℕ) (parts : HasParts (form.Project i label) (schemes_known live nodes)) (is_new : IsLive new) (t : Scheme) (part : TablePart) (copy : IsCopied t live new part) where
  abbrev at_first : Finished
  at_first = schemes_known live nodes

  abbrev remaining : List Known
  remaining = left live nodes done i

  none_there : (j : ℕ) (k : Known) → slice_get remaining j ≡ Some k → AreApart [] (states_known k)
  none_there j k at = nothing_known (states_known k)

  posed_field : (ss : List Scheme) → HasEach at_first (i ∷ []) ss → (s : Scheme) × Has at_first i s × (ss ≡ s ∷ [])
  posed_field [] each = absurd each
  posed_field (s ∷ []) each = (s, each.0, refl)
  posed_field (s ∷ u ∷ ss) each = absurd each.1

  pub field_built : ((s : Scheme) → Has at_first i s → IsFieldOf label s t) → IsBuiltIn (form.Project i label) at_first new remaining part
  field_built field =
      let one = posed_field parts.schemes parts.each in
      let it : IsFieldOf label one.0 t = field one.0 one.1 in
      let states : HasStates (scheme_at new.table part) = part_states new is_new part.states copy.waits.there part.env part.root copy.waits.part in
      record {
        done = done_on [] live new part.states copy.changes done.is_live is_new remaining (left_done live nodes done i) none_there;
        beside = one_held new remaining part copy.waits (beside_on [] live new part.states copy.changes done.is_live is_new remaining (left_done live nodes done i) none_there);
        constraint = project_constraint label it.taken;
        posed = record { schemes = one.0 ∷ []; each = (one.1, tt); taken = it.taken ∷ []; alike = ((it.states, it.alike), tt); is = refl };
        solution = solution_after (project_constraint label it.taken) t (scheme_at new.table part) it.solution (record { states = states; just = copy.alike });
        keeps =
            keeps_after (i ∷ []) at_first (schemes_known live remaining) (schemes_known new remaining)
            (rest_keeps at_first [] live nodes [] (none_taken live nodes done) i (λ none. nothing_in i none))
            (keeps_on [] live new part.states copy.changes done.is_live is_new remaining (left_done live nodes done i) none_there);
      }

-- A binder is taken, and a part is made with what the node asks of it.
module _ (live : Live) (nodes : List Known) (done : AreDone live nodes) (i x : ℕ) (at : slice_get nodes i ≡ Some (known.Bound x)) where
  abbrev remains : List Known
  remains = left live nodes done i

  -- the scheme of the node is that of the binder
  bound_alike : (s : Scheme) → Has (schemes_known live nodes) i s → HasStates (bound_scheme x) × HaveSameTypes (no_goals s) (no_goals (bound_scheme x))
  bound_alike s has =
      let P : Scheme → Type 0 = λ s. HaveSameTypes (no_goals s) (no_goals (bound_scheme x)) in
      ((bound_closed x).states, subst P (sym (the_scheme live nodes done i (known.Bound x) (bound_scheme x) s at refl has)) (own_types (bound_scheme x)))

  pub bound_left : AreDone live remains
  bound_left = left_done live nodes done i

  pub bound_keeps : KeepsBut (i ∷ []) (schemes_known live nodes) (schemes_known live remains)
  bound_keeps = rest_keeps (schemes_known live nodes) [] live nodes [] (none_taken live nodes done) i (λ none. nothing_in i none)

  -- What is made of the parts that were taken after the binder.
  module _ (node : TermForm) (gone : List ℕ) (own : children node ≡ i ∷ gone) (mid : Live) (later : List Known) (parts : List TablePart) (taken : AreTaken (schemes_known live remains) gone mid later parts)
      (new : Live) (is_new : IsLive new) (part : TablePart) (c : Constraint) (posed : HasConstraint node (schemes_known live nodes) c) (made : IsMadeWith c mid parts new part) where
    pub bound_built : IsBuiltIn node (schemes_known live nodes) new later part
    bound_built = record {
      done = done_on (all_states parts) mid new part.states made.changes taken.done.is_live is_new later taken.done taken.beside.beside;
      beside = one_held new later part made.waits (beside_on (all_states parts) mid new part.states made.changes taken.done.is_live is_new later taken.done taken.beside.beside);
      constraint = c;
      posed = posed;
      solution = made.solution;
      keeps =
          let G : List ℕ → Type 0 = λ gone. KeepsBut gone (schemes_known live nodes) (schemes_known new later) in
          subst G (sym own)
          (keeps_both (i ∷ []) gone (schemes_known live nodes) (schemes_known live remains) (schemes_known new later) bound_keeps
          (keeps_after gone (schemes_known live remains) (schemes_known mid later) (schemes_known new later) taken.keeps
          (keeps_on (all_states parts) mid new part.states made.changes taken.done.is_live is_new later taken.done taken.beside.beside)));
    }

  -- a projection from the binder
  pub bound_projected : (label : List ℕ) → HasParts (form.Project i label) (schemes_known live nodes) → (new : Live) → IsLive new → (part : TablePart) → IsMadeWith (project_constraint label (bound_scheme x)) live [] new part
      → IsBuiltIn (form.Project i label) (schemes_known live nodes) new remains part
  bound_projected label has new is_new part made =
      bound_built (form.Project i label) [] refl live remains [] (none_taken live remains bound_left) new is_new part (project_constraint label (bound_scheme x))
      (record { schemes = has.schemes; each = has.each; taken = bound_scheme x ∷ []; alike = go has.schemes has.each; is = refl }) made
    where
      go : (ss : List Scheme) → HasEach (schemes_known live nodes) (i ∷ []) ss → AreAlike ss (bound_scheme x ∷ [])
      go [] each = absurd each
      go (s ∷ []) each = (bound_alike s each.0, tt)
      go (s ∷ u ∷ ss) each = absurd each.1

  -- an application of the binder
  module _ (a : ℕ) (has : HasParts (form.Apply i a) (schemes_known live nodes)) where
    other_place : a ≢ i
    other_place same =
        let distinct : AllPairs (λ i j. i ≢ j) (i ∷ a ∷ []) = has.distinct in
        distinct 0 1 i (omega arith) (omega arith) (sym same)

    -- the argument is there when the binder is gone
    pub argument_there : (s : Scheme) × Has (schemes_known live remains) a s
    argument_there = go has.schemes has.each
      where
        go : (ss : List Scheme) → HasEach (schemes_known live nodes) (i ∷ a ∷ []) ss → (s : Scheme) × Has (schemes_known live remains) a s
        go [] each = absurd each
        go (s ∷ []) each = absurd each.1
        go (s ∷ t ∷ ss) each = (t, set_has live nodes i known.Taken a t other_place each.1.0)

    pub bound_called : (mid : Live) (later : List Known) (argument : TablePart) → AreTaken (schemes_known live remains) (a ∷ []) mid later (argument ∷ []) → (new : Live) → IsLive new → (part : TablePart)
        → IsMadeWith (apply_constraint (bound_scheme x) (scheme_at mid.table argument)) mid (argument ∷ []) new part → IsBuiltIn (form.Apply i a) (schemes_known live nodes) new later part
    bound_called mid later argument taken new is_new part made =
        bound_built (form.Apply i a) (a ∷ []) refl mid later (argument ∷ []) taken new is_new part (apply_constraint (bound_scheme x) (scheme_at mid.table argument))
        (record { schemes = has.schemes; each = has.each; taken = bound_scheme x ∷ scheme_at mid.table argument ∷ []; alike = go has.schemes has.each; is = inl refl }) made
      where
        go : (ss : List Scheme) → HasEach (schemes_known live nodes) (i ∷ a ∷ []) ss → AreAlike ss (bound_scheme x ∷ scheme_at mid.table argument ∷ [])
        go [] each = absurd each
        go (s ∷ []) each = absurd each.1
        go (s ∷ t ∷ u ∷ ss) each = absurd each.1.1
        go (s ∷ t ∷ []) each = (bound_alike s each.0, taken.alike (t ∷ []) (set_has live nodes i known.Taken a t other_place each.1.0, tt))

-- One part is taken, and then others.
pub take_one : (live : Live) (nodes : List Known) → AreDone live nodes → (i : ℕ) (mid : Live) (later : List Known) (part : TablePart)
    → ((first : Finished) (gone : List ℕ) (parts : List TablePart) → AreTaken first gone live nodes parts → (Contains gone i → ⊥) → AreTaken first (gone ++ i ∷ []) mid later (parts ++ part ∷ []))
    → AreTaken (schemes_known live nodes) (i ∷ []) mid later (part ∷ [])
take_one live nodes done i mid later part takes = takes (schemes_known live nodes) [] [] (none_taken live nodes done) (λ none. nothing_in i none)

pub still_there : (first : Finished) (gone : List ℕ) (live : Live) (nodes : List Known) (parts : List TablePart) → AreTaken first gone live nodes parts → (i : ℕ) → (Contains gone i → ⊥) → (s : Scheme) × Has first i s → (t : Scheme) × Has (schemes_known live nodes) i t
still_there first gone live nodes parts taken i fresh one = let it = taken.keeps.kept i one.0 fresh one.1 in (it.0, it.1)

pub fresh_second : (i j : ℕ) (more : List ℕ) → AllPairs (λ i j. i ≢ j) (i ∷ j ∷ more) → Contains (i ∷ []) j → ⊥
fresh_second i j more distinct inside = elim (Contains-cases i [] j inside) [
  | inl same ↦ distinct 0 1 i (omega arith) (omega arith) same
  | inr none ↦ nothing_in j none
]

pub fresh_third : (i j k : ℕ) → AllPairs (λ i j. i ≢ j) (i ∷ j ∷ k ∷ []) → Contains (i ∷ j ∷ []) k → ⊥
fresh_third i j k distinct inside = elim (Contains-cases i (j ∷ []) k inside) [
  | inl same ↦ distinct 0 2 i (omega arith) (omega arith) same
  | inr later ↦ elim (Contains-cases j [] k later) [
    | inl same ↦ distinct 1 2 i (omega arith) (omega arith) same
    | inr none ↦ nothing_in k none
  ]
]

-- a node without parts
pub no_parts : (node : TermForm) (first : Finished) → children node ≡ [] → IsBuilt node → HasParts node first
no_parts node first none built = record {
  schemes = [];
  each = let P : List ℕ → Type 0 = λ is. HasEach first is [] in subst P (sym none) tt;
  are = λ k d low. absurd (omega arith);
  distinct = let P : List ℕ → Type 0 = AllPairs (λ i j. i ≢ j) in subst P (sym none) (λ i j d less low. absurd (omega arith));
  built = built;
}
