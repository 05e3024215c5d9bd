-- A recursion: the part of the node, and why it stops.
--     fixed_state, fixed_live, fixed_made, fixed_none, fixed_stops      where its binder has one state
--     unfixed_made        where it has none
--     made_after, stops_after      of a part that was remade before
use Rattle.std.proofs.Common.{◌≡◌, ◌↔◌, inl, inr, ℕ, Bool, true, false, List, [], ◌∷◌, ◌++◌, map, length, refl, sym, ap, subst, arith, All, Contains}
use Rattle.std.specs.Prelude.{◌≤◌, filter, not}
use Rattle.std.specs.Ordering.{nat_cmp, eq_by_cmp}
use Rattle.std.proofs.lemmas.List.Elements.{Contains-append_cases, Contains-append_left}
use Rattle.mls_automaton.specs.declared.automaton.Polarity.TheVariants.{Negative}
use Rattle.mls_automaton.specs.declared.state_set.StateId.{StateId}
use Rattle.mls_automaton.specs.declared.scheme.EnvEntry.{EnvEntry}
use Rattle.mls_automaton.specs.declared.scheme.Scheme.{Scheme}
use Rattle.mls_automaton.specs.Automata.{Automaton, polarity_at}
use Rattle.mls_automaton.proofs.Lists.{All-one, Contains-cases, Contains-filter, Contains-filtered, Contains-here, Contains-map}
use Rattle.mls_solver.specs.declared.goal.Goal.{Goal}
use Rattle.mls_biunify.specs.Live.{IsLive, IsLiveGoal, IsLiveState, Live}
use Rattle.mls_term.specs.declared.term.TermForm.{TermForm}
use Rattle.mls_term.specs.declared.term.TermForm.TheVariants as form
use Rattle.mls_infer.specs.declared.solve.NoSolution.{NoSolution}
use Rattle.mls_infer.specs.declared.solve.NoSolution.TheVariants as no_solution
use Rattle.mls_infer.specs.Constraints.{Constraint, fix_constraint, no_goals, states_of, without}
use Rattle.mls_infer.specs.Merges.{AreAlike, HaveSameTypes}
use Rattle.mls_infer.specs.Pending.{AreWaiting, Changes, Grows, IsMade, IsPosedOver, IsRefused, IsRemade, IsSameTable, IsSettled, OverAllSame, OverSame, StopsOver, Waits, all_states}
use Rattle.mls_infer.specs.Regions.{IsPart, TablePart, part_over, scheme_at, schemes_at}
use Rattle.mls_infer.specs.Solved.{TellsFirstClash}
use Rattle.mls_infer.specs.Steps.{HasNoTypes}
use Rattle.mls_infer.specs.TableRows.{IsRecursionAt}
use Rattle.mls_infer.proofs.ConstraintRows.{nothing_in}
use Rattle.mls_infer.proofs.FormParts.{alike_same, like_before, like_same, no_ends, stops_with, tells_same}
use Rattle.mls_infer.proofs.Grown.{Contains-mapped}
use Rattle.mls_infer.proofs.Growths.{grows_none}
use Rattle.mls_infer.proofs.GrownParts.{grown_changes, grown_waits, waiting_part, waiting_states}
use Rattle.mls_infer.proofs.MadeForms.{fix_same}
use Rattle.mls_infer.proofs.MadeParts.{are_posed, made_grown, made_solved, refused_none}
use Rattle.mls_infer.proofs.Merges.{types_trans}
use Rattle.mls_infer.proofs.PartChanges.{changes_then}
use Rattle.mls_infer.proofs.SameTables.{same_table_back}
use Rattle.mls_infer.proofs.TableParts.{AreStatesWith}
use Rattle.mls_infer.proofs.TableRows.{one_in}

pub alone_waits : (live : Live) (part : TablePart) → Waits live part → AreWaiting live (part ∷ [])
alone_waits live part waits = (waits, (λ s here none. nothing_in s none), tt)

-- the entry of a state of a binder
pub state_entry : (x : ℕ) (env : List EnvEntry) (s : ℕ) → Contains (states_of x env) s → (e : EnvEntry) × Contains env e × (e.state.0 ≡ s)
state_entry x env s inside =
    let it = Contains-mapped (λ (entry : EnvEntry). entry.state.0) (filter (λ (entry : EnvEntry). eq_by_cmp nat_cmp entry.binder x) env) s inside in
    (it.0, Contains-filtered (λ (entry : EnvEntry). eq_by_cmp nat_cmp entry.binder x) env it.0 it.1, it.2)

one_or_none : (part : TablePart) → AreStatesWith (part ∷ []) [] part.states
one_or_none part s = (
  λ here. inl (inl here),
  λ it. elim it [
    | inl inside ↦ elim inside [ inl here ↦ here | inr out ↦ absurd out ]
    | inr none ↦ absurd (nothing_in s none)
  ],
)

module _ (live : Live) (is : IsLive live) (x : ℕ) (body : TablePart) (waits : Waits live body) (state : StateId) (only : states_of x body.env ≡ state.0 ∷ []) where
  abbrev fixed_parts : List TablePart
  fixed_parts = body ∷ []

  abbrev fixed_part : TablePart
  fixed_part = record { states = body.states; env = without x body.env; root = body.root }

  abbrev fixed_goals : List Goal
  fixed_goals = record { positive = body.root; negative = state } ∷ []

  abbrev fixed_pairs : List (ℕ × ℕ)
  fixed_pairs = (body.root.0, state.0) ∷ []

  fixed_grows : Grows live live [] []
  fixed_grows = grows_none live is

  state_there : (e : EnvEntry) × Contains body.env e × (e.state.0 ≡ state.0)
  state_there = state_entry x body.env state.0 (subst (λ (set : List ℕ). Contains set state.0) (sym only) (Contains-here state.0 []))

  pub state_in : Contains body.states state.0
  state_in = subst (Contains body.states) state_there.2 (waits.part.env_in state_there.0 state_there.1)

  fixed_at : IsRecursionAt body x fixed_pairs (without x body.env)
  fixed_at = record { goals_are = λ p n. (forth p n, back p n); entries = λ entry. (λ h. h, λ h. h) }
    where
      forth : (p n : ℕ) → Contains fixed_pairs (p, n) → (p ≡ body.root.0) × Contains (states_of x body.env) n
      forth p n inside = elim (Contains-cases (body.root.0, state.0) [] (p, n) inside) [
        | inl same ↦ (
          sym (ap (λ (e : ℕ × ℕ). e.0) same),
          subst (λ (set : List ℕ). Contains set n) (sym only) (subst (λ k. Contains (state.0 ∷ []) k) (ap (λ (e : ℕ × ℕ). e.1) same) (Contains-here state.0 [])),
        )
        | inr none ↦ absurd (nothing_in (p, n) none)
      ]

      back : (p n : ℕ) → (p ≡ body.root.0) × Contains (states_of x body.env) n → Contains fixed_pairs (p, n)
      back p n it =
          subst (λ k. Contains {X = ℕ × ℕ} fixed_pairs (k, n)) (sym it.0)
          (one_in (λ k. Contains {X = ℕ × ℕ} fixed_pairs (body.root.0, k)) state.0 (Contains-here (body.root.0, state.0) []) n (subst (λ (set : List ℕ). Contains set n) only it.1))

  fixed_is : IsPart live.table body.states (without x body.env) body.root
  fixed_is =
      let it : IsPart live.table body.states body.env body.root = waiting_part live body waits in
      record {
        region = it.region;
        root_in = it.root_in;
        root_positive = it.root_positive;
        env_in = λ entry inside. it.env_in entry (other entry inside);
        env_negative = λ entry inside. it.env_negative entry (other entry inside);
      }
    where
      other : (entry : EnvEntry) → Contains (without x body.env) entry → Contains body.env entry
      other entry inside = Contains-filtered (λ (entry : EnvEntry). not (eq_by_cmp nat_cmp entry.binder x)) body.env entry inside

  fixed_waits : Waits live fixed_part
  fixed_waits = grown_waits live live [] [] fixed_grows (no_ends []) fixed_parts (alone_waits live body waits) fixed_part (one_or_none body) fixed_is

  fixed_changes : Changes (all_states fixed_parts) live live body.states
  fixed_changes = grown_changes live live [] [] fixed_grows (no_ends []) fixed_parts (alone_waits live body waits) fixed_part (one_or_none body) fixed_is

  pub fixed_state : IsLiveState live Negative state.0
  fixed_state = record {
    there = waits.there state.0 state_in;
    polarity = subst (λ s. polarity_at live.table s ≡ Negative) state_there.2 (waits.part.env_negative state_there.0 state_there.1);
  }

  pub fixed_live : All (IsLiveGoal live) fixed_goals
  fixed_live =
      All-one (IsLiveGoal live) (record { positive = body.root; negative = state })
      (record { there = waits.there body.root.0 waits.part.root_in; polarity = waits.part.root_positive }, fixed_state)

  fixed_between : (g : Goal) → Contains fixed_goals g → Contains body.states g.positive.0 × Contains body.states g.negative.0
  fixed_between g inside = elim (Contains-cases (record { positive = body.root; negative = state }) [] g inside) [
    | inl same ↦ subst (λ (g : Goal). Contains body.states g.positive.0 × Contains body.states g.negative.0) same (waits.part.root_in, state_in)
    | inr none ↦ absurd (nothing_in g none)
  ]

  one_state : length (states_of x body.env) ≤ 1
  one_state = subst (λ (set : List ℕ). length set ≤ 1) (sym only) (omega arith)

  pub fixed_made : (after : Live) → IsSettled live fixed_goals after → IsMade (form.Rec x 0) live fixed_parts after fixed_part
  fixed_made after it =
      let c : Constraint = fix_constraint x (scheme_at live.table body) in
      made_solved (form.Rec x 0) live fixed_parts live fixed_part fixed_waits fixed_changes c
      (are_posed live is fixed_parts (alone_waits live body waits) (form.Rec x 0) c (one_state, refl))
      fixed_goals after it fixed_between
      (fix_same live.table body x fixed_pairs (without x body.env) fixed_at (scheme_at live.table body) (like_before live live [] [] fixed_grows (no_ends []) body waits))

  pub fixed_clashing : (after : Live) → IsRefused live fixed_goals after → OverAllSame after (λ a. HasNoTypes (fix_constraint x (part_over a body.env body.root)))
  fixed_clashing after it a same types f h =
      let s : Scheme = part_over a body.env body.root in
      refused_none live after fixed_goals (without x body.env) body.root (waiting_states live is fixed_part fixed_waits) fixed_live it types f
      ((fix_same live.table body x fixed_pairs (without x body.env) fixed_at s
      (like_same live live [] [] fixed_grows (no_ends []) body waits a (same_table_back live after it.same it.numbers a same)) types f).0 h)

  pub fixed_stops : (after : Live) → IsRefused live fixed_goals after → (result : NoSolution)
      → OverSame after (λ a. TellsFirstClash (fix_constraint 0 (part_over a (record { binder = 0; state = state } ∷ []) body.root)) result) → StopsOver (form.Rec x 0) live fixed_parts result
  fixed_stops after it result tells =
      let a : Automaton = tells.0 in
      let same : IsSameTable after a = tells.1 in
      let s : Scheme = part_over a body.env body.root in
      let t : Scheme = part_over a (record { binder = 0; state = state } ∷ []) body.root in
      stops_with (form.Rec x 0) live fixed_parts result
      (λ m is. record {
        constraint = fix_constraint x s;
        posed = record {
          taken = s ∷ [];
          alike = (alike_same live live [] [] fixed_grows (no_ends []) body waits a (same_table_back live after it.same it.numbers a same), tt);
          is = (one_state, refl);
        };
        none = fixed_clashing after it a same;
        first =
            subst (λ (r : NoSolution). TellsFirstClash (fix_constraint x s) r) is
            (tells_same (fix_constraint 0 t) (fix_constraint x s) refl (ap (λ (set : List ℕ). map (λ (n : ℕ). (body.root.0, n)) set) (sym only)) result tells.2);
      })

  abbrev own_entry : EnvEntry
  own_entry = record { binder = 0; state = state }

  abbrev own_body : TablePart
  own_body = record { states = body.states; env = own_entry ∷ []; root = body.root }

  own_waits : Waits live own_body
  own_waits = record {
    there = waits.there;
    part = record {
      region = waits.part.region;
      root_in = waits.part.root_in;
      root_positive = waits.part.root_positive;
      env_in = λ entry inside. elim (Contains-cases own_entry [] entry inside) [
        | inl same ↦ subst (λ (e : EnvEntry). Contains body.states e.state.0) same state_in
        | inr none ↦ absurd (nothing_in entry none)
      ];
      env_negative = λ entry inside. elim (Contains-cases own_entry [] entry inside) [
        | inl same ↦
            subst (λ (e : EnvEntry). polarity_at live.table e.state.0 ≡ Negative) same
            (subst (λ s. polarity_at live.table s ≡ Negative) state_there.2 (waits.part.env_negative state_there.0 state_there.1))
        | inr none ↦ absurd (nothing_in entry none)
      ];
    };
  }

pub fixed_none : (live : Live) → IsLive live → (x : ℕ) (body : TablePart) → Waits live body → (state : StateId) → states_of x body.env ≡ state.0 ∷ [] → (after : Live) → IsRefused live (record { positive = body.root; negative = state } ∷ []) after
    → OverAllSame after (λ a. HasNoTypes (fix_constraint 0 (part_over a (record { binder = 0; state = state } ∷ []) body.root)))
fixed_none live is x body waits state only after it =
    fixed_clashing live is 0 (own_body live is x body waits state only) (own_waits live is x body waits state only) state refl after it

-- A binder without a state.
module _ (live : Live) (is : IsLive live) (x : ℕ) (body : TablePart) (waits : Waits live body) (none : states_of x body.env ≡ []) where
  no_state : (n : ℕ) → Contains (states_of x body.env) n → ⊥
  no_state n inside = nothing_in n (subst (λ (set : List ℕ). Contains set n) none inside)

  stays_there : (entry : EnvEntry) → Contains body.env entry → Contains (without x body.env) entry
  stays_there entry inside = Contains-filter (λ (entry : EnvEntry). not (eq_by_cmp nat_cmp entry.binder x)) body.env entry inside (at (eq_by_cmp nat_cmp entry.binder x) refl)
    where
      at : (b : Bool) → eq_by_cmp nat_cmp entry.binder x ≡ b → not b ≡ true
      at false e = refl
      at true e =
          absurd (no_state entry.state.0
          (Contains-map (λ (entry : EnvEntry). entry.state.0) (filter (λ (entry : EnvEntry). eq_by_cmp nat_cmp entry.binder x) body.env) entry
          (Contains-filter (λ (entry : EnvEntry). eq_by_cmp nat_cmp entry.binder x) body.env entry inside e)))

  unfixed_at : IsRecursionAt body x [] body.env
  unfixed_at = record {
    goals_are = λ p n. (λ inside. absurd (nothing_in (p, n) inside), λ it. absurd (no_state n it.1));
    entries = λ entry. (stays_there entry, λ inside. Contains-filtered (λ (entry : EnvEntry). not (eq_by_cmp nat_cmp entry.binder x)) body.env entry inside);
  }

  pub unfixed_made : IsMade (form.Rec x 0) live (body ∷ []) live body
  unfixed_made =
      let c : Constraint = fix_constraint x (scheme_at live.table body) in
      let grows : Grows live live [] [] = grows_none live is in
      let part : IsPart live.table body.states body.env body.root = waiting_part live body waits in
      let less : length (states_of x body.env) ≤ 1 = subst (λ (set : List ℕ). length set ≤ 1) (sym none) (omega arith) in
      made_grown (form.Rec x 0) live (body ∷ []) live body
      (grown_waits live live [] [] grows (no_ends []) (body ∷ []) (alone_waits live body waits) body (one_or_none body) part)
      (grown_changes live live [] [] grows (no_ends []) (body ∷ []) (alone_waits live body waits) body (one_or_none body) part)
      c (are_posed live is (body ∷ []) (alone_waits live body waits) (form.Rec x 0) c (less, refl)) is
      (fix_same live.table body x [] body.env unfixed_at (scheme_at live.table body) (like_before live live [] [] grows (no_ends []) body waits))

-- A part that was remade before.
changes_same : (taken others : List ℕ) (old new : Live) (made : List ℕ) → ((s : ℕ) → Contains taken s ↔ Contains others s) → Changes taken old new made → Changes others old new made
changes_same taken others old new made same it = record {
  touched = it.touched;
  within = it.within;
  touched_of = λ s here. elim (it.touched_of s here) [ inl one ↦ inl ((same s).0 one) | inr gone ↦ inr gone ];
  stays = λ s was. elim (it.stays s was) [ inl one ↦ inl ((same s).0 one) | inr now ↦ inr now ];
  made_of = λ s here. elim (it.made_of s here) [ inl one ↦ inl ((same s).0 one) | inr gone ↦ inr gone ];
}

with_none : (states : List ℕ) (s : ℕ) → Contains (states ++ []) s ↔ Contains states s
with_none states s = (
  λ here. elim (Contains-append_cases states [] s here) [ inl one ↦ one | inr none ↦ absurd (nothing_in s none) ],
  λ here. Contains-append_left states [] s here,
)

alike_after : (s t : Scheme) → HaveSameTypes (no_goals s) (no_goals t) → (taken : List Scheme) → AreAlike (t ∷ []) taken → AreAlike (s ∷ []) taken
alike_after s t same [] it = absurd it
alike_after s t same (u ∷ rest) it = ((it.0.0, types_trans (no_goals s) (no_goals t) (no_goals u) same it.0.1), it.1)

module _ (node : TermForm) (old : Live) (part : TablePart) (mid : Live) (other : TablePart) (remade : IsRemade old part mid other) where
  posed_after : (c : Constraint) → IsPosedOver node (schemes_at mid.table (other ∷ [])) c → IsPosedOver node (schemes_at old.table (part ∷ [])) c
  posed_after c it = record {
    taken = it.taken;
    alike = alike_after (scheme_at old.table part) (scheme_at mid.table other) remade.alike it.taken it.alike;
    is = it.is;
  }

  pub made_after : (new : Live) (made : TablePart) → IsMade node mid (other ∷ []) new made → IsMade node old (part ∷ []) new made
  made_after new made it = record {
    waits = it.waits;
    changes =
        changes_same part.states (all_states (part ∷ [])) old new made.states (λ s. let both = with_none part.states s in (both.1, both.0))
        (changes_then part.states old mid new other.states made.states remade.changes (changes_same (all_states (other ∷ [])) other.states mid new made.states (with_none other.states) it.changes));
    constraint = it.constraint;
    posed = posed_after it.constraint it.posed;
    solution = it.solution;
  }

  pub stops_after : (result : NoSolution) → StopsOver node mid (other ∷ []) result → StopsOver node old (part ∷ []) result
  stops_after (no_solution.Clash m) it = record {
    constraint = it.constraint;
    posed = posed_after it.constraint it.posed;
    none = it.none;
    first = it.first;
  }
  stops_after no_solution.Memory it = tt
