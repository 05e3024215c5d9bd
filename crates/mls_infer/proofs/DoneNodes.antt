-- What is known of nodes, where the table changes and where parts are taken.
--     known_at, has_known      a scheme is that of what is known of its node
--     keeps_self, keeps_after  schemes stay there
--     done_on, beside_on, keeps_on      nodes apart from what changes stand on
--     hand_on                  and so do parts in hand
--     set_done, set_beside, set_keeps   a node is taken
--     held_too                 one more part in hand
use Rattle.std.proofs.Common.{◌≡◌, ◌≢◌, ◌⊎◌, inl, inr, ℕ, zero, suc, List, [], ◌∷◌, ◌++◌, length, refl, sym, ap, ◌∙◌, subst, Some, None, slice_get, slice_set, Contains}
use Rattle.std.specs.Prelude.{Option, option_map}
use Rattle.std.proofs.lemmas.Bool.{cases_eq}
use Rattle.std.proofs.lemmas.List.{length-map}
use Rattle.std.proofs.lemmas.List.Elements.{Contains-append_cases, Contains-append_left, Contains-append_right}
use Rattle.std.proofs.lemmas.Option.{slice_get-map}
use Rattle.mls_automaton.specs.declared.scheme.Scheme.{Scheme}
use Rattle.mls_biunify.specs.Live.{IsLive, Live}
use Rattle.mls_infer.specs.declared.done.Known.{Known}
use Rattle.mls_infer.specs.declared.done.Known.TheVariants as known
use Rattle.mls_infer.specs.Constraints.{HasStates, bound_scheme, no_goals}
use Rattle.mls_infer.specs.Doing.{AreBeside, AreDone, Stands, scheme_known, schemes_known, states_known}
use Rattle.mls_infer.specs.Finished.{Finished, Has, HasEach}
use Rattle.mls_infer.specs.Finishing.{KeepsBut}
use Rattle.mls_infer.specs.Merges.{AreAlike, HaveSameTypes}
use Rattle.mls_infer.specs.Pending.{AreWaiting, Changes, Waits, all_states, part_in}
use Rattle.mls_infer.specs.Regions.{AreApart, TablePart, scheme_at, schemes_at}
use Rattle.mls_infer.proofs.ClosedConstraints.{bound_closed}
use Rattle.mls_infer.proofs.ConstraintRows.{nothing_in}
use Rattle.mls_infer.proofs.FinishedParts.{other_item}
use Rattle.mls_infer.proofs.Merges.{types_trans}
use Rattle.mls_infer.proofs.OneState.{scheme_states}
use Rattle.mls_infer.proofs.PartChanges.{types_on, waits_on}
use Rattle.mls_infer.proofs.TableSolutions.{part_states}

pub own_types : (s : Scheme) → HaveSameTypes (no_goals s) (no_goals s)
own_types s types f = (λ h. h, λ h. h)

pub then_types : (r s t : Scheme) → HaveSameTypes (no_goals r) (no_goals s) → HaveSameTypes (no_goals s) (no_goals t) → HaveSameTypes (no_goals r) (no_goals t)
then_types r s t one two = types_trans (no_goals r) (no_goals s) (no_goals t) one two

-- a scheme is that of what is known of its node
module _ (live : Live) (nodes : List Known) (i : ℕ) where
  pub known_at : (s : Scheme) → Has (schemes_known live nodes) i s → (k : Known) × (slice_get nodes i ≡ Some k) × (scheme_known live k ≡ Some s)
  known_at s has = go (slice_get nodes i) refl
    where
      go : (o : Option Known) → slice_get nodes i ≡ o → (k : Known) × (slice_get nodes i ≡ Some k) × (scheme_known live k ≡ Some s)
      go None at =
          let none : None ≡ Some (Some s) = ap (option_map (scheme_known live)) (sym at) ∙ (sym (slice_get-map (scheme_known live) nodes i) ∙ has) in
          absurd (cc)
      go (Some k) at =
          let same : Some (scheme_known live k) ≡ Some (Some s) = ap (option_map (scheme_known live)) (sym at) ∙ (sym (slice_get-map (scheme_known live) nodes i) ∙ has) in
          let is : scheme_known live k ≡ Some s = cc in
          (k, at, is)

  pub has_known : (k : Known) (s : Scheme) → slice_get nodes i ≡ Some k → scheme_known live k ≡ Some s → Has (schemes_known live nodes) i s
  has_known k s at is = slice_get-map (scheme_known live) nodes i ∙ (ap (option_map (scheme_known live)) at ∙ ap Some is)

-- schemes stay there
pub keeps_self : (a : Finished) → KeepsBut [] a a
keeps_self a = record { size = refl; kept = λ j s out has. (s, has, own_types s) }

pub keeps_after : (gone : List ℕ) (a b c : Finished) → KeepsBut gone a b → KeepsBut [] b c → KeepsBut gone a c
keeps_after gone a b c first second = record {
  size = second.size ∙ first.size;
  kept = λ j s out has.
      let one = first.kept j s out has in
      let two = second.kept j one.0 (λ none. nothing_in j none) one.1 in
      (two.0, two.1, then_types s one.0 two.0 one.2 two.2);
}

-- each has the states that constraints ask for
pub known_states : (live : Live) → IsLive live → (k : Known) (s : Scheme) → Stands live k → scheme_known live k ≡ Some s → HasStates s
known_states live is (known.Waiting part) s stands at =
    let same : scheme_at live.table (part_in part) ≡ s = cc in
    let p : TablePart = part_in part in
    let w : Waits live p = stands in
    subst HasStates same (part_states live is p.states w.there p.env p.root w.part)
known_states live is (known.Named r) s stands at = let same : r.value.scheme ≡ s = cc in subst HasStates same (scheme_states r.value.scheme stands.scheme stands.rise)
known_states live is (known.Bound x) s stands at = let same : bound_scheme x ≡ s = cc in subst HasStates same (bound_closed x).states
known_states live is known.Taken s stands at = absurd (cc)

-- The table changes.
module _ (taken : List ℕ) (old new : Live) (made : List ℕ) (changes : Changes taken old new made) (is_old : IsLive old) (is_new : IsLive new) where
  stands_on : (k : Known) → Stands old k → AreApart taken (states_known k) → Stands new k × AreApart made (states_known k)
  stands_on (known.Waiting part) stands apart = let it = waits_on taken old new made changes (part_in part) stands apart in (it.0, it.2)
  stands_on (known.Named r) stands apart = (stands, λ s it none. absurd (nothing_in s none))
  stands_on (known.Bound x) stands apart = (tt, λ s it none. absurd (nothing_in s none))
  stands_on known.Taken stands apart = (tt, λ s it none. absurd (nothing_in s none))

  scheme_on : (k : Known) (s : Scheme) → Stands old k → AreApart taken (states_known k) → scheme_known old k ≡ Some s → (t : Scheme) × (scheme_known new k ≡ Some t) × HaveSameTypes (no_goals s) (no_goals t)
  scheme_on (known.Waiting part) s stands apart is =
      let same : scheme_at old.table (part_in part) ≡ s = cc in
      let t : Scheme = scheme_at new.table (part_in part) in
      let P : Scheme → Type 0 = λ s. HaveSameTypes (no_goals s) (no_goals t) in
      (t, refl, subst P same (types_on taken old new made changes is_old is_new (part_in part) stands apart))
  scheme_on (known.Named r) s stands apart is = (s, is, own_types s)
  scheme_on (known.Bound x) s stands apart is = (s, is, own_types s)
  scheme_on known.Taken s stands apart is = absurd (cc)

  module _ (nodes : List Known) (done : AreDone old nodes) (apart : (i : ℕ) (k : Known) → slice_get nodes i ≡ Some k → AreApart taken (states_known k)) where
    pub done_on : AreDone new nodes
    done_on = record { is_live = is_new; stand = λ i k at. (stands_on k (done.stand i k at) (apart i k at)).0; apart = done.apart }

    pub beside_on : (i : ℕ) (k : Known) → slice_get nodes i ≡ Some k → AreApart made (states_known k)
    beside_on i k at = (stands_on k (done.stand i k at) (apart i k at)).1

    pub keeps_on : KeepsBut [] (schemes_known old nodes) (schemes_known new nodes)
    keeps_on = record {
      size = length-map nodes (scheme_known new) ∙ sym (length-map nodes (scheme_known old));
      kept = λ j s out has.
          let it = known_at old nodes j s has in
          let on = scheme_on it.0 s (done.stand j it.0 it.1) (apart j it.0 it.1) it.2 in
          (on.0, has_known new nodes j it.0 on.0 it.1 on.1, on.2);
    }

  -- parts in hand
  pub hand_on : (parts : List TablePart) → AreWaiting old parts → AreApart taken (all_states parts) → AreWaiting new parts × AreApart made (all_states parts) × AreAlike (schemes_at old.table parts) (schemes_at new.table parts)
  hand_on [] are apart = (tt, (λ s it here. nothing_in s here), tt)
  hand_on (part ∷ rest) are apart =
      let own : AreApart taken part.states = λ s it here. apart s it (Contains-append_left part.states (all_states rest) s here) in
      let first = waits_on taken old new made changes part are.0 own in
      let later = hand_on rest are.2 (λ s it here. apart s it (Contains-append_right part.states (all_states rest) s here)) in (
        (first.0, are.1, later.0),
        (λ s it here. elim (Contains-append_cases part.states (all_states rest) s here) [ inl one ↦ first.2 s it one | inr other ↦ later.1 s it other ]),
        ((part_states new is_new part.states first.0.there part.env part.root first.0.part, types_on taken old new made changes is_old is_new part are.0 own), later.2),
      )

-- A node is taken.
pub set_cases : (nodes : List Known) (i j : ℕ) (x k : Known) → slice_get (slice_set nodes i x) j ≡ Some k → ((j ≡ i) × (k ≡ x)) ⊎ ((j ≢ i) × (slice_get nodes j ≡ Some k))
set_cases nodes i j x k at = elim (cases_eq j i) [
  | inl same ↦ inl (same, here nodes i (subst (λ j. slice_get (slice_set nodes i x) j ≡ Some k) same at))
  | inr other ↦ inr (other, sym (other_item nodes i j x other) ∙ at)
]
  where
    here : (nodes : List Known) (i : ℕ) → slice_get (slice_set nodes i x) i ≡ Some k → k ≡ x
    here [] i at = absurd (cc)
    here (y ∷ ys) zero at = cc
    here (y ∷ ys) (suc i) at = here ys i at

pub length_set : (nodes : List Known) (i : ℕ) (x : Known) → length (slice_set nodes i x) ≡ length nodes
length_set [] i x = refl
length_set (y ∷ ys) zero x = refl
length_set (y ∷ ys) (suc i) x = ap suc (length_set ys i x)

pub set_here : (nodes : List Known) (i : ℕ) (x k : Known) → slice_get nodes i ≡ Some k → slice_get (slice_set nodes i x) i ≡ Some x
set_here [] i x k at = absurd (cc)
set_here (y ∷ ys) zero x k at = refl
set_here (y ∷ ys) (suc i) x k at = set_here ys i x k at

-- something else comes in place of what was known of a node
module _ (live : Live) (nodes : List Known) (i : ℕ) (x : Known) where
  pub set_done : AreDone live nodes → Stands live x → ((j : ℕ) (k : Known) → j ≢ i → slice_get nodes j ≡ Some k → AreApart (states_known x) (states_known k)) → AreDone live (slice_set nodes i x)
  set_done done stands apart = record {
    is_live = done.is_live;
    stand = λ j k at. elim (set_cases nodes i j x k at) [
      | inl here ↦ subst (Stands live) (sym here.1) stands
      | inr other ↦ done.stand j k other.1
    ];
    apart = λ j m k l distinct at at'. both j m k l distinct (set_cases nodes i j x k at) (set_cases nodes i m x l at');
  }
    where
      both : (j m : ℕ) (k l : Known) → j ≢ m → ((j ≡ i) × (k ≡ x)) ⊎ ((j ≢ i) × (slice_get nodes j ≡ Some k)) → ((m ≡ i) × (l ≡ x)) ⊎ ((m ≢ i) × (slice_get nodes m ≡ Some l)) → AreApart (states_known k) (states_known l)
      both j m k l distinct (inl here) (inl here') = absurd (distinct (here.0 ∙ sym here'.0))
      both j m k l distinct (inl here) (inr other) = let P : Known → Type 0 = λ k. AreApart (states_known k) (states_known l) in subst P (sym here.1) (apart m l other.0 other.1)
      both j m k l distinct (inr other) (inl here) =
          let P : Known → Type 0 = λ l. AreApart (states_known k) (states_known l) in
          subst P (sym here.1) (λ s it own. apart j k other.0 other.1 s own it)
      both j m k l distinct (inr other) (inr other') = done.apart j m k l distinct other.1 other'.1

  pub set_apart : (states : List ℕ) → ((j : ℕ) (k : Known) → slice_get nodes j ≡ Some k → AreApart states (states_known k)) → AreApart states (states_known x) → (j : ℕ) (k : Known) → slice_get (slice_set nodes i x) j ≡ Some k → AreApart states (states_known k)
  set_apart states apart own j k at = elim (set_cases nodes i j x k at) [
    | inl here ↦ let P : Known → Type 0 = λ k. AreApart states (states_known k) in subst P (sym here.1) own
    | inr other ↦ apart j k other.1
  ]

  pub set_has : (j : ℕ) (s : Scheme) → j ≢ i → Has (schemes_known live nodes) j s → Has (schemes_known live (slice_set nodes i x)) j s
  set_has j s other has =
      let it = known_at live nodes j s has in
      has_known live (slice_set nodes i x) j it.0 s (other_item nodes i j x other ∙ it.1) it.2

  pub set_size : length (schemes_known live (slice_set nodes i x)) ≡ length (schemes_known live nodes)
  set_size = length-map (slice_set nodes i x) (scheme_known live) ∙ (length_set nodes i x ∙ sym (length-map nodes (scheme_known live)))

-- One more part in hand.
pub in_snoc : (parts : List TablePart) (part : TablePart) (s : ℕ) → Contains (all_states (parts ++ part ∷ [])) s → Contains (all_states parts) s ⊎ Contains part.states s
in_snoc [] part s it = elim (Contains-append_cases part.states [] s it) [ inl own ↦ inr own | inr none ↦ inl none ]
in_snoc (p ∷ rest) part s it = elim (Contains-append_cases p.states (all_states (rest ++ part ∷ [])) s it) [
  | inl own ↦ inl (Contains-append_left p.states (all_states rest) s own)
  | inr other ↦ elim (in_snoc rest part s other) [
    | inl later ↦ inl (Contains-append_right p.states (all_states rest) s later)
    | inr last ↦ inr last
  ]
]

waiting_snoc : (live : Live) (parts : List TablePart) (part : TablePart) → AreWaiting live parts → Waits live part → AreApart (all_states parts) part.states → AreWaiting live (parts ++ part ∷ [])
waiting_snoc live [] part are waits apart = (waits, (λ s it none. nothing_in s none), tt)
waiting_snoc live (p ∷ rest) part are waits apart = (
  are.0,
  (λ s it here. elim (in_snoc rest part s here) [
    | inl later ↦ are.1 s it later
    | inr last ↦ apart s (Contains-append_left p.states (all_states rest) s it) last
  ]),
  waiting_snoc live rest part are.2 waits (λ s it here. apart s (Contains-append_right p.states (all_states rest) s it) here),
)

pub held_too : (live : Live) (nodes : List Known) (parts : List TablePart) (part : TablePart) → AreBeside live nodes parts → Waits live part → AreApart (all_states parts) part.states
    → ((i : ℕ) (k : Known) → slice_get nodes i ≡ Some k → AreApart part.states (states_known k)) → AreBeside live nodes (parts ++ part ∷ [])
held_too live nodes parts part beside waits apart others = record {
  waiting = waiting_snoc live parts part beside.waiting waits apart;
  beside = λ i k at s it here. elim (in_snoc parts part s it) [
    | inl old ↦ beside.beside i k at s old here
    | inr own ↦ others i k at s own here
  ];
}

pub one_held : (live : Live) (nodes : List Known) (part : TablePart) → Waits live part → ((i : ℕ) (k : Known) → slice_get nodes i ≡ Some k → AreApart part.states (states_known k)) → AreBeside live nodes (part ∷ [])
one_held live nodes part waits others = held_too live nodes [] part (record { waiting = tt; beside = λ i k at s none here. nothing_in s none }) waits (λ s none here. nothing_in s none) others

-- schemes with the same types, one more
pub alike_snoc : (ss ts : List Scheme) (s t : Scheme) → AreAlike ss ts → HasStates t → HaveSameTypes (no_goals s) (no_goals t) → AreAlike (ss ++ s ∷ []) (ts ++ t ∷ [])
alike_snoc [] [] s t alike states same = ((states, same), tt)
alike_snoc [] (u ∷ ts) s t alike states same = absurd alike
alike_snoc (r ∷ ss) [] s t alike states same = absurd alike
alike_snoc (r ∷ ss) (u ∷ ts) s t alike states same = (alike.0, alike_snoc ss ts s t alike.1 states same)

pub alike_then : (rs ss ts : List Scheme) → AreAlike rs ss → AreAlike ss ts → AreAlike rs ts
alike_then [] [] [] one two = tt
alike_then [] [] (t ∷ ts) one two = absurd two
alike_then [] (s ∷ ss) ts one two = absurd one
alike_then (r ∷ rs) [] ts one two = absurd one
alike_then (r ∷ rs) (s ∷ ss) [] one two = absurd two
alike_then (r ∷ rs) (s ∷ ss) (t ∷ ts) one two = ((two.0.0, then_types r s t one.0.1 two.0.1), alike_then rs ss ts one.1 two.1)

-- the schemes at some numbers and at one more
pub each_split : (done : Finished) (is : List ℕ) (i : ℕ) (ss : List Scheme) → HasEach done (is ++ i ∷ []) ss → (first : List Scheme) × (s : Scheme) × (ss ≡ first ++ s ∷ []) × HasEach done is first × Has done i s
each_split done [] i [] each = absurd each
each_split done [] i (s ∷ []) each = ([], s, refl, tt, each.0)
each_split done [] i (s ∷ t ∷ ss) each = absurd each.1
each_split done (j ∷ is) i [] each = absurd each
each_split done (j ∷ is) i (s ∷ ss) each =
    let it = each_split done is i ss each.1 in
    (s ∷ it.0, it.1, ap (λ xs. s ∷ xs) it.2, (each.0, it.3), it.4)
