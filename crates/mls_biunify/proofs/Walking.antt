-- The walk over a table finds just the states that are reached.
use Rattle.std.proofs.Common.{◌≡◌, ◌↔◌, ◌⊎◌, inl, inr, Some, ℕ, ◌<◌, true, false, List, [], ◌∷◌, ◌++◌, All, Contains, get_or, length, sym, ap, ◌∙◌, subst, arith}
use Rattle.std.proofs.lemmas.List.Elements.{Contains-append_cases, Contains-append_left, Contains-append_right, All-contains}
use Rattle.mls_automaton.specs.declared.automaton.Head.{Head}
use Rattle.mls_automaton.specs.declared.scheme.EnvEntry.{EnvEntry}
use Rattle.mls_automaton.specs.declared.state_set.StateId.{StateId}
use Rattle.mls_automaton.specs.Automata.{Automaton, head_at}
use Rattle.mls_automaton.specs.Environments.{BindersRise}
use Rattle.mls_automaton.specs.Reached.{HeadNames, IsReached, Names, root as of-root, binder as of-binder, named as of-name}
use Rattle.mls_automaton.specs.steps.Searching.{Found, Grows, InEntries, IsBelow, IsMarked}
use Rattle.mls_automaton.proofs.Lists.{Contains-here, Contains-cases}
use Rattle.mls_automaton.proofs.Reaching.{entry-found, found-entry}
use Rattle.mls_solver.specs.Solutions.{scheme_over}
use Rattle.mls_biunify.specs.Live.{IsReachedFrom, root as at-root, named as by-name}
use Rattle.mls_biunify.specs.steps.Keeping.{Finds, found_of, InRoots, IsSearch, Walk, marks_below}
use Rattle.mls_biunify.specs.steps.Tables.{IsNumbered, Numbered}
use Rattle.mls_biunify.proofs.Claiming.{names-there}
use Rattle.mls_biunify.proofs.FoundStates.{finds-below, is-marked, marked-is, marks-length}

abbrev pub AreThere : Numbered → List StateId → Type 0
AreThere t roots = All (λ (r : StateId). get_or t.there r.0 false ≡ true) roots

pub root-low : (t : Numbered) → IsNumbered t → (roots : List StateId) → AreThere t roots → (j : ℕ) → InRoots roots j → j < t.limit
root-low t is roots there j it = subst (λ k. k < t.limit) it.2 (is.low it.0.0 (All-contains (λ (r : StateId). get_or t.there r.0 false ≡ true) roots it.0 there it.1))

-- what is reached is there
pub reached-there : (t : Numbered) → IsNumbered t → (roots : List StateId) → AreThere t roots → (j : ℕ) → IsReachedFrom t.automaton roots j → get_or t.there j false ≡ true
reached-there t is roots there j (at-root r it e) = subst (λ k. get_or t.there k false ≡ true) e (All-contains (λ (r : StateId). get_or t.there r.0 false ≡ true) roots r there it)
reached-there t is roots there j (by-name {i} before names) = names-there t is i j names

-- the walk begins with the roots
pub begun : (t : Numbered) (roots : List StateId) (a b : Found) → length a.marks ≡ t.limit → ((j : ℕ) → IsMarked a j → ⊥) → a.work ≡ [] → Grows a b (InRoots roots) → IsSearch t roots b
begun t roots a b size not-before work grows = record {
  same_length = grows.same_length ∙ size;
  sound = λ j it. elim (grows.found j it) [
    | inl before ↦ absurd (not-before j before)
    | inr new ↦ at-root new.0.0 new.0.1 new.0.2
  ];
  first = grows.all;
  work = λ j it. elim (grows.work_new j it) [
    | inl before ↦ absurd (none j before)
    | inr new ↦ grows.all j new
  ];
  closed = λ i it. elim (grows.found i it) [
    | inl before ↦ absurd (not-before i before)
    | inr new ↦ inl new.1
  ];
}
  where
    none : (j : ℕ) → Contains a.work j → ⊥
    none j it = let there : Contains [] j = subst (λ xs. Contains xs j) work it in let low : there.0 < 0 = there.1 in absurd (omega arith)

module _ (t : Numbered) (roots : List StateId) (before rest : Found) (k : ℕ) (is : IsSearch t roots before) (marks : rest.marks ≡ before.marks) (work : before.work ≡ rest.work ++ k ∷ []) where
  back : (j : ℕ) → IsMarked rest j → IsMarked before j
  back j it = ap (λ ms. get_or ms j false) (sym marks) ∙ it

  forth : (j : ℕ) → IsMarked before j → IsMarked rest j
  forth j it = ap (λ ms. get_or ms j false) marks ∙ it

  more : (j : ℕ) → Contains rest.work j → Contains before.work j
  more j it = subst (λ xs. Contains xs j) (sym work) (Contains-append_left rest.work (k ∷ []) j it)

  last : Contains before.work k
  last = subst (λ xs. Contains xs k) (sym work) (Contains-append_right rest.work (k ∷ []) k (Contains-here k []))

  one : (i : ℕ) → Contains (k ∷ []) i → k ≡ i
  one i it = elim (Contains-cases k [] i it) [
    | inl e ↦ e
    | inr none ↦ let low : none.0 < 0 = none.1 in absurd (omega arith)
  ]

  -- the state that is taken up is there
  pub last-there : IsNumbered t → AreThere t roots → get_or t.there k false ≡ true
  last-there numbered there = reached-there t numbered roots there k (is.sound k (is.work k last))

  -- one more state is looked at
  pub looked : (after : Found) → Grows rest after (Names t.automaton k) → IsSearch t roots after
  looked after grows = record {
    same_length = grows.same_length ∙ (ap length marks ∙ is.same_length);
    sound = λ j it. elim (grows.found j it) [
      | inl was ↦ is.sound j (back j was)
      | inr new ↦ by-name (is.sound k (is.work k last)) new.0
    ];
    first = λ j it. grows.kept j (forth j (is.first j it));
    work = λ j it. elim (grows.work_new j it) [
      | inl was ↦ grows.kept j (forth j (is.work j (more j was)))
      | inr new ↦ grows.all j new
    ];
    closed = λ i it. elim (grows.found i it) [
      | inl was ↦ elim (is.closed i (back i was)) [
        | inl in_work ↦ elim (Contains-append_cases rest.work (k ∷ []) i (subst (λ xs. Contains xs i) work in_work)) [
          | inl still ↦ inl (grows.work_kept i still)
          | inr now ↦ inr (λ j named. grows.all j (subst (λ m. Names t.automaton m j) (sym (one i now)) named))
        ]
        | inr all ↦ inr (λ j named. grows.kept j (forth j (all j named)))
      ]
      | inr new ↦ inl new.1
    ];
  }

-- where nothing is left to be looked at
pub walked : (t : Numbered) (roots : List StateId) (f : Found) → IsSearch t roots f → f.work ≡ [] → (j : ℕ) → IsMarked f j ↔ IsReachedFrom t.automaton roots j
walked t roots f is work j = (is.sound j, complete j)
  where
    complete : (j : ℕ) → IsReachedFrom t.automaton roots j → IsMarked f j
    complete j (at-root r it e) = is.first j (r, it, e)
    complete j (by-name {i} before named) = elim (is.closed i (complete i before)) [
      | inl in_work ↦ let there : Contains [] i = subst (λ xs. Contains xs i) work in_work in let low : there.0 < 0 = there.1 in absurd (omega arith)
      | inr all ↦ all j named
    ]

-- what is found in a table is below its limit
pub record IsSearchIn (t : Numbered) (roots : List StateId) (s : Walk) : Type 0 where
  pub below : IsBelow (Contains s.found) t.limit
  pub is : IsSearch t roots (found_of t.limit s)

pub begun-in : (t : Numbered) → IsNumbered t → (roots : List StateId) → AreThere t roots → (a b : Walk) → a.found ≡ [] → a.work ≡ [] → Finds a b (InRoots roots) → IsSearchIn t roots b
begun-in t numbered roots there a b empty work finds = record {
  below = finds-below a b (InRoots roots) t.limit finds low (λ j it. absurd (none j it));
  is = begun t roots (found_of t.limit a) (found_of t.limit b) (marks-length t.limit a.found) (λ j it. none j (marked-is t.limit a.found j it).1) work (finds t.limit low);
}
  where
    low : IsBelow (InRoots roots) t.limit
    low = root-low t numbered roots there

    none : (j : ℕ) → Contains a.found j → ⊥
    none j it = let there : Contains [] j = subst (λ xs. Contains xs j) empty it in let low : there.0 < 0 = there.1 in absurd (omega arith)

-- what the head of a state names is below the limit
pub head-below : (t : Numbered) → IsNumbered t → (k : ℕ) (h : Head) → h ≡ head_at t.automaton k → IsBelow (HeadNames h) t.limit
head-below t numbered k h e j it = numbered.low j (names-there t numbered k j (subst (λ (g : Head). HeadNames g j) e it))

pub looked-in : (t : Numbered) → IsNumbered t → (roots : List StateId) (before rest after : Walk) (k : ℕ) → IsSearchIn t roots before → rest.found ≡ before.found → before.work ≡ rest.work ++ k ∷ [] → Finds rest after (Names t.automaton k) → IsSearchIn t roots after
looked-in t numbered roots before rest after k it keys work finds = record {
  below = finds-below rest after (Names t.automaton k) t.limit finds low (λ j found. it.below j (subst (λ (xs : List ℕ). Contains xs j) keys found));
  is = looked t roots (found_of t.limit before) (found_of t.limit rest) k it.is (ap (marks_below t.limit) keys) work (found_of t.limit after) (finds t.limit low);
}
  where
    low : IsBelow (Names t.automaton k) t.limit
    low j named = numbered.low j (names-there t numbered k j named)

pub walked-in : (t : Numbered) (roots : List StateId) (s : Walk) → IsSearchIn t roots s → s.work ≡ [] → (j : ℕ) → Contains s.found j ↔ IsReachedFrom t.automaton roots j
walked-in t roots s it none j = (
  λ found. (walked t roots (found_of t.limit s) it.is none j).0 (is-marked t.limit s.found j (it.below j found) found),
  λ reached. (marked-is t.limit s.found j ((walked t roots (found_of t.limit s) it.is none j).1 reached)).1,
)

-- what the heads of a scheme reach from its root and its binders is what they reach from these states as roots
module _ (a : Automaton) (r : ℕ) (env : List EnvEntry) (rise : BindersRise env) (roots : List StateId) (same : (j : ℕ) → InRoots roots j ↔ (r ≡ j) ⊎ InEntries env j) where
  pub scheme-reached : (j : ℕ) → IsReached (scheme_over a r env) j → IsReachedFrom a roots j
  scheme-reached j (of-root e) = let one = (same j).1 (inl e) in at-root one.0 one.1 one.2
  scheme-reached j (of-binder x e) = let entry = found-entry env x j e in let one = (same j).1 (inr (entry.0, entry.1, entry.3)) in at-root one.0 one.1 one.2
  scheme-reached j (of-name {i} before names) = by-name (scheme-reached i before) names

  pub reached-scheme : (j : ℕ) → IsReachedFrom a roots j → IsReached (scheme_over a r env) j
  reached-scheme j (at-root root it e) = elim ((same j).0 (root, it, e)) [
    | inl first ↦ of-root first
    | inr entry ↦ of-binder entry.0.binder (entry-found env rise entry.0 entry.1 ∙ ap Some entry.2)
  ]
  reached-scheme j (by-name {i} before names) = of-name (reached-scheme i before) names
