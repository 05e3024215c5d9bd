-- The pairs of a queue, read from the visits: each with the steps along its links.
--     met_of-length, met_of-more        one more visit is one more pair
--     visit-general, visit-special      the pair of a number
--     visit-steps                       its steps: none, or those of the pair of its link and one more
--     queue-first, queue-kept, queue-added      the index of a queue
--     set-noted                         a pair is noted in one set
--     back-more                         one step more of the way back
use Rattle.std.proofs.Common.{◌≡◌, ◌⊎◌, inl, inr, ℕ, zero, suc, ◌+◌, ◌<◌, ◌≤◌, List, [], ◌∷◌, ◌++◌, refl, sym, ap, ◌∙◌, subst, arith, length, reverse, get_or, Contains, Some, None, length-append}
use Rattle.std.specs.Prelude.{◌↔◌, Option}
use Rattle.std.proofs.Math.ListN.{get_or-append, set}
use Rattle.std.proofs.Math.Seq.{get_or-append_seam}
use Rattle.std.proofs.lemmas.Bool.{cases_eq}
use Rattle.std.proofs.lemmas.List.{append-nil, append_assoc, get_or_default, get_or-set_other, get_or-set_same, reverse-append}
use Rattle.std.proofs.lemmas.List.Elements.{Contains-append_left, Contains-append_right, Contains-append_cases}
use Rattle.mls_automaton.proofs.Lists.{Contains-here, Contains-cases}
use Rattle.mls_subsume.specs.declared.verdict.Step.{Step}
use Rattle.mls_subsume.specs.declared.queue.Link.{Link}
use Rattle.mls_subsume.specs.declared.queue.Visit.{Visit}
use Rattle.mls_subsume.specs.Searches.{Met, met_at}
use Rattle.mls_subsume.specs.steps.Queues.{IsLinkBelow, IsMet, IsQueue, met_behind, met_by, met_of, partners_at, steps_by, visit_at}

abbrev no_met : Met
no_met = record { general = 0; special = 0; steps = [] }

met_behind-more : (met : List Met) (xs : List Visit) (v : Visit) → met_behind met (xs ++ v ∷ []) ≡ met_behind met xs ++ met_by (met_behind met xs) v ∷ []
met_behind-more met [] v = refl
met_behind-more met (x ∷ xs) v = met_behind-more (met ++ met_by met x ∷ []) xs v

met_behind-length : (met : List Met) (xs : List Visit) → length (met_behind met xs) ≡ length met + length xs
met_behind-length met [] = omega arith
met_behind-length met (x ∷ xs) =
    let later : length (met_behind (met ++ met_by met x ∷ []) xs) ≡ length (met ++ met_by met x ∷ []) + length xs = met_behind-length (met ++ met_by met x ∷ []) xs in
    let size : length (met ++ met_by met x ∷ []) ≡ length met + 1 = length-append met (met_by met x ∷ []) in
    omega arith

met_behind-kept : (met : List Met) (xs : List Visit) (k : ℕ) → k < length met → met_at (met_behind met xs) k ≡ met_at met k
met_behind-kept met [] k low = refl
met_behind-kept met (x ∷ xs) k low =
    let size : length (met ++ met_by met x ∷ []) ≡ length met + 1 = length-append met (met_by met x ∷ []) in
    met_behind-kept (met ++ met_by met x ∷ []) xs k (omega arith) ∙ get_or-append met (met_by met x ∷ []) no_met k low

pub met_of-length : (visits : List Visit) → length (met_of visits) ≡ length visits
met_of-length visits = let e : length (met_of visits) ≡ 0 + length visits = met_behind-length [] visits in omega arith

pub met_of-more : (visits : List Visit) (v : Visit) → met_of (visits ++ v ∷ []) ≡ met_of visits ++ met_by (met_of visits) v ∷ []
met_of-more visits v = met_behind-more [] visits v

-- what was met of the visit of this number, behind those before it
record IsFront (all front : List Met) (n : ℕ) (v : Visit) : Type 0 where
  pub size : length front ≡ n
  pub here : met_at all n ≡ met_by front v
  pub kept : (j : ℕ) → j < n → met_at all j ≡ met_at front j

front-at : (met : List Met) (xs : List Visit) (k : ℕ) → k < length xs → (front : List Met) × IsFront (met_behind met xs) front (length met + k) (visit_at xs k)
front-at met [] k low = absurd (omega arith)
front-at met (x ∷ xs) zero low =
    let m : Met = met_by met x in
    let size : length (met ++ m ∷ []) ≡ length met + 1 = length-append met (m ∷ []) in
    let same : length met ≡ length met + 0 = omega arith in (
      met,
      record {
        size = same;
        here = subst (λ n. met_at (met_behind (met ++ m ∷ []) xs) n ≡ m) same (met_behind-kept (met ++ m ∷ []) xs (length met) (omega arith) ∙ get_or-append_seam met m [] no_met);
        kept = λ j low_j.
            let low_j : j < length met + 0 = low_j in
            met_behind-kept (met ++ m ∷ []) xs j (omega arith) ∙ get_or-append met (m ∷ []) no_met j (omega arith);
      },
    )
front-at met (x ∷ xs) (suc k) low =
    let m : Met = met_by met x in
    let size : length (met ++ m ∷ []) ≡ length met + 1 = length-append met (m ∷ []) in
    let it = front-at (met ++ m ∷ []) xs k (omega arith) in
    let same : length (met ++ m ∷ []) + k ≡ length met + suc k = omega arith in
    (it.0, subst (λ n. IsFront (met_behind (met ++ m ∷ []) xs) it.0 n (visit_at xs k)) same it.1)

module _ (visits : List Visit) (k : ℕ) (low : k < length visits) where
  front : (met : List Met) × IsFront (met_of visits) met k (visit_at visits k)
  front =
      let it = front-at [] visits k low in
      let same : 0 + k ≡ k = omega arith in
      (it.0, subst (λ n. IsFront (met_of visits) it.0 n (visit_at visits k)) same it.1)

  pub visit-general : (met_at (met_of visits) k).general ≡ (visit_at visits k).pair.general.0
  visit-general = ap (λ (m : Met). m.general) front.1.here

  pub visit-special : (met_at (met_of visits) k).special ≡ (visit_at visits k).pair.special.0
  visit-special = ap (λ (m : Met). m.special) front.1.here

  pub visit-steps : (link : Option Link) → (visit_at visits k).link ≡ link → IsLinkBelow k link → (met_at (met_of visits) k).steps ≡ steps_by (met_of visits) link
  visit-steps None is low_link = ap (λ (m : Met). m.steps) front.1.here ∙ ap (steps_by front.0) is
  visit-steps (Some link) is low_link =
      ap (λ (m : Met). m.steps) front.1.here ∙ ap (steps_by front.0) is
      ∙ ap (λ (m : Met). m.steps ++ link.step ∷ []) (sym (front.1.kept link.from low_link))

-- which pairs were met
pub met-more : (met : List Met) (m : Met) (g s : ℕ) → IsMet met g s → IsMet (met ++ m ∷ []) g s
met-more met m g s it = (it.0, Contains-append_left met (m ∷ []) it.0 it.1, it.2, it.3)

pub met-last : (met : List Met) (m : Met) → IsMet (met ++ m ∷ []) m.general m.special
met-last met m = (m, Contains-append_right met (m ∷ []) m (Contains-here m []), refl, refl)

pub met-cases : (met : List Met) (m : Met) (g s : ℕ) → IsMet (met ++ m ∷ []) g s → IsMet met g s ⊎ ((g ≡ m.general) × (s ≡ m.special))
met-cases met m g s it =
    elim (Contains-append_cases met (m ∷ []) it.0 it.1) [
      | inl old ↦ inl (it.0, old, it.2, it.3)
      | inr new ↦ elim (Contains-cases m [] it.0 new) [
        | inl same ↦ inr (sym it.2 ∙ ap (λ (n : Met). n.general) (sym same), sym it.3 ∙ ap (λ (n : Met). n.special) (sym same))
        | inr none ↦ let no : none.0 < 0 = none.1 in absurd (omega arith)
      ]
    ]

-- the index after one pair was noted
abbrev pub IsNoted : List (List ℕ) → List (List ℕ) → ℕ → ℕ → Type 0
IsNoted old new g' s' = (g s : ℕ) → Contains (partners_at new g) s ↔ Contains (partners_at old g) s ⊎ ((g ≡ g') × (s ≡ s'))

link-more : (visits : List Visit) (v : Visit) → ((k : ℕ) → k < length visits → IsLinkBelow k (visit_at visits k).link) → IsLinkBelow (length visits) v.link → (k : ℕ) → k < length (visits ++ v ∷ []) → IsLinkBelow k (visit_at (visits ++ v ∷ []) k).link
link-more visits v linked last k low =
    let size : length (visits ++ v ∷ []) ≡ length visits + 1 = length-append visits (v ∷ []) in
    elim (cases_eq k (length visits)) [
      | inl same ↦
          subst (λ j. IsLinkBelow j (visit_at (visits ++ v ∷ []) j).link) (sym same)
          (subst (λ (x : Visit). IsLinkBelow (length visits) x.link) (sym (get_or-append_seam visits v [] _)) last)
      | inr other ↦
          let inside : k < length visits = omega arith in
          subst (λ (x : Visit). IsLinkBelow k x.link) (sym (get_or-append visits (v ∷ []) _ k inside)) (linked k inside)
    ]

pub queue-added : (visits visits' : List Visit) (partners partners' : List (List ℕ)) (v : Visit) → IsQueue visits partners → visits' ≡ visits ++ v ∷ [] → IsLinkBelow (length visits) v.link → IsNoted partners partners' v.pair.general.0 v.pair.special.0 → IsQueue visits' partners'
queue-added visits visits' partners partners' v it added last noted =
    subst (λ vs. IsQueue vs partners') (sym added)
    (record {
      linked = link-more visits v it.linked last;
      members = λ g s. (
        λ there.
            subst (λ met. IsMet met g s) (sym (met_of-more visits v))
            (elim ((noted g s).0 there) [
              | inl old ↦ met-more (met_of visits) (met_by (met_of visits) v) g s ((it.members g s).0 old)
              | inr new ↦
                  subst (λ g. IsMet (met_of visits ++ met_by (met_of visits) v ∷ []) g s) (sym new.0)
                  (subst (λ s. IsMet (met_of visits ++ met_by (met_of visits) v ∷ []) v.pair.general.0 s) (sym new.1) (met-last (met_of visits) (met_by (met_of visits) v)))
            ]),
        λ met.
            elim (met-cases (met_of visits) (met_by (met_of visits) v) g s (subst (λ met. IsMet met g s) (met_of-more visits v) met)) [
              | inl old ↦ (noted g s).1 (inl ((it.members g s).1 old))
              | inr new ↦ (noted g s).1 (inr new)
            ],
      );
    })

pub queue-kept : (visits visits' : List Visit) (partners partners' : List (List ℕ)) → IsQueue visits partners → visits' ≡ visits → ((g : ℕ) → partners_at partners' g ≡ partners_at partners g) → IsQueue visits' partners'
queue-kept visits visits' partners partners' it same kept =
    subst (λ vs. IsQueue vs partners') (sym same)
    (record {
      linked = it.linked;
      members = λ g s. (
        λ there. (it.members g s).0 (subst (λ xs. Contains xs s) (kept g) there),
        λ met. subst (λ xs. Contains xs s) (sym (kept g)) ((it.members g s).1 met),
      );
    })

no_queue : (partners : List (List ℕ)) → ((g : ℕ) → partners_at partners g ≡ []) → IsQueue [] partners
no_queue partners none = record {
  linked = λ k low. absurd (omega arith);
  members = λ g s. (
    λ there. let it = subst (λ xs. Contains xs s) (none g) there in let no : it.0 < 0 = it.1 in absurd (omega arith),
    λ met. let no : met.1.0 < 0 = met.1.1 in absurd (omega arith),
  );
}

pub queue-first : (visits : List Visit) (partners partners' : List (List ℕ)) (v : Visit) → visits ≡ v ∷ [] → v.link ≡ None → ((g : ℕ) → partners_at partners g ≡ []) → IsNoted partners partners' v.pair.general.0 v.pair.special.0 → IsQueue visits partners'
queue-first visits partners partners' v is none empty noted =
    queue-added [] visits partners partners' v (no_queue partners empty) is (subst (IsLinkBelow 0) (sym none) tt) noted

-- what is noted in one set
pub set-noted : (partners : List (List ℕ)) (g' s' : ℕ) (old new : List ℕ) → g' < length partners → old ≡ get_or partners g' old → ((s : ℕ) → Contains new s ↔ (s ≡ s') ⊎ Contains old s) → IsNoted partners (set partners g' new) g' s'
set-noted partners g' s' old new low was members = λ g s. elim (cases_eq g g') [
  | inl same ↦ subst (λ g. Contains (partners_at (set partners g' new) g) s ↔ Contains (partners_at partners g) s ⊎ ((g ≡ g') × (s ≡ s'))) (sym same) (at-state s)
  | inr other ↦ (
    λ there. inl (subst (λ xs. Contains xs s) (others g other) there),
    λ either. elim either [
      | inl there ↦ subst (λ xs. Contains xs s) (sym (others g other)) there
      | inr e ↦ absurd (other e.0)
    ],
  )
]
  where
    here : partners_at (set partners g' new) g' ≡ new
    here = get_or-set_same partners g' new [] low

    others : (g : ℕ) → (g ≡ g' → ⊥) → partners_at (set partners g' new) g ≡ partners_at partners g
    others g other = get_or-set_other partners g' g new [] other

    before : old ≡ partners_at partners g'
    before = was ∙ get_or_default partners g' old [] low

    at-state : (s : ℕ) → Contains (partners_at (set partners g' new) g') s ↔ Contains (partners_at partners g') s ⊎ ((g' ≡ g') × (s ≡ s'))
    at-state s = (
      λ there. elim ((members s).0 (subst (λ xs. Contains xs s) here there)) [
        | inl e ↦ inr (refl, e)
        | inr there' ↦ inl (subst (λ xs. Contains xs s) before there')
      ],
      λ either. subst (λ xs. Contains xs s) (sym here) ((members s).1 (elim either [
        | inl there ↦ inr (subst (λ xs. Contains xs s) (sym before) there)
        | inr e ↦ inl e.1
      ])),
    )

-- the way back from a pair: the steps that are left, and those that were taken so far, the last one first
pub back-more : (all front : List Step) (step : Step) (taken : List Step) → (front ++ step ∷ []) ++ reverse taken ≡ all → front ++ reverse (taken ++ step ∷ []) ≡ all
back-more all front step taken so-far =
    ap (λ xs. front ++ xs) (reverse-append taken (step ∷ [])) ∙ sym (append_assoc front (step ∷ []) (reverse taken)) ∙ so-far

pub back-end : (visits : List Visit) (at : ℕ) → at < length visits → (all taken : List Step) → ((link : Link) → (visit_at visits at).link ≡ Some link → ⊥) → (met_at (met_of visits) at).steps ++ reverse taken ≡ all → reverse taken ≡ all
back-end visits at low all taken no_link so-far = go (visit_at visits at).link refl
  where
    go : (o : Option Link) → (visit_at visits at).link ≡ o → reverse taken ≡ all
    go None e = ap (λ xs. xs ++ reverse taken) (sym (visit-steps visits at low None e tt)) ∙ so-far
    go (Some link) e = absurd (no_link link e)
