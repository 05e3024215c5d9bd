-- Constraints whose binders have several states. The entries are numbered, so that each has a binder of its own: then each
-- binder has one state, and the types are the same where each number stands for the binder of its entry.
--     numbered                        the entries, under their numbers
--     numbered_rise                   their binders rise
--     numbered_is                     so they make a scheme of one with states for several
--     to_numbered, from_numbered      the types are the same
--     open_solution, open_none        the solved automaton is a solution, and after a clash there are no types
--     open_answer                     what solving answers for a clash
--     open_without_goals              without goals the constraints are a solution themselves
use Rattle.std.proofs.Common.{◌≡◌, ℕ, zero, suc, ◌+◌, ◌<◌, List, [], ◌∷◌, map, length, get_or, refl, sym, ap, ◌∙◌, subst, arith, Contains, All}
use Rattle.std.proofs.lemmas.List.{get_or_default}
use Rattle.std.proofs.lemmas.List.Elements.{Contains-get_or}
use Rattle.mls_book.specs.Predicates.{Predicate, Implies}
use Rattle.mls_automaton.specs.declared.automaton.Polarity.TheVariants.{Negative}
use Rattle.mls_automaton.specs.declared.scheme.EnvEntry.{EnvEntry}
use Rattle.mls_automaton.specs.declared.scheme.Scheme.{Scheme}
use Rattle.mls_automaton.specs.Automata.{Automaton, IsState}
use Rattle.mls_automaton.specs.Environments.{BindersRise}
use Rattle.mls_automaton.specs.Schemes.{IsScheme}
use Rattle.mls_solver.specs.declared.goal.Clash.{Clash}
use Rattle.mls_solver.specs.declared.goal.Goal.{Goal}
use Rattle.mls_solver.specs.Clashes.{IsClashOf}
use Rattle.mls_solver.specs.Relations.{IsGoal, IsGoalOf, IsRelated}
use Rattle.mls_solver.proofs.SolvedInstances.{over}
use Rattle.mls_infer.specs.declared.solve.NoSolution.{NoSolution}
use Rattle.mls_infer.specs.declared.solve.NoSolution.TheVariants as none
use Rattle.mls_infer.specs.Constraints.{Constraint, HasStates, HasTypes, id, no_goals}
use Rattle.mls_infer.specs.Posed.{goal_pair}
use Rattle.mls_infer.specs.Solved.{ClashesFirst, IsClashWithout, IsSolvedFor}
use Rattle.mls_infer.specs.Steps.{HasNoTypes, IsSolution}
use Rattle.mls_infer.proofs.Models.{found_entry}
use Rattle.mls_infer.proofs.SolvedConstraints.{scheme_none, scheme_solution}

-- the entries, whose binders are numbers from this one on
abbrev pub numbered : ℕ → List EnvEntry → List EnvEntry
numbered n [] = []
numbered n (e ∷ rest) = record { binder = n; state = e.state } ∷ numbered (suc n) rest

numbered_length : (n : ℕ) (env : List EnvEntry) → length (numbered n env) ≡ length env
numbered_length n [] = refl
numbered_length n (e ∷ rest) = ap suc (numbered_length (suc n) rest)

-- the entry at a place
numbered_at : (n : ℕ) (env : List EnvEntry) (i : ℕ) (d d' : EnvEntry) → i < length env
    → get_or (numbered n env) i d ≡ record { binder = n + i; state = (get_or env i d').state }
numbered_at n [] i d d' low = absurd (omega arith)
numbered_at n (e ∷ rest) zero d d' low =
    let here : n ≡ n + 0 = omega arith in
    λ k. record { binder = here k; state = e.state }
numbered_at n (e ∷ rest) (suc i) d d' low =
    let later : suc n + i ≡ n + suc i = omega arith in
    numbered_at (suc n) rest i d d' (omega arith) ∙ (λ k. record { binder = later k; state = (get_or rest i d').state })

pub numbered_rise : (n : ℕ) (env : List EnvEntry) → BindersRise (numbered n env)
numbered_rise n env i j d less low =
    let size : length (numbered n env) ≡ length env = numbered_length n env in
    let high : j < length env = omega arith in
    let at_i : (get_or (numbered n env) i d).binder ≡ n + i = ap (λ (e : EnvEntry). e.binder) (numbered_at n env i d d (omega arith)) in
    let at_j : (get_or (numbered n env) j d).binder ≡ n + j = ap (λ (e : EnvEntry). e.binder) (numbered_at n env j d d high) in
    omega arith

abbrev nothing : EnvEntry
nothing = record { binder = 0; state = id 0 }

-- the binder that a number stands for
abbrev binder_of : List EnvEntry → ℕ → ℕ
binder_of env i = (get_or env i nothing).binder

-- each numbered entry is one of the entries, under its number, and each entry has one
old_entry : (env : List EnvEntry) (e : EnvEntry) → Contains (numbered 0 env) e
    → (old : EnvEntry) × Contains env old × (old.binder ≡ binder_of env e.binder) × (old.state.0 ≡ e.state.0)
old_entry env e it =
    let size : length (numbered 0 env) ≡ length env = numbered_length 0 env in
    let inside : it.0 < length (numbered 0 env) = it.1 in
    let low : it.0 < length env = omega arith in
    let is : e ≡ record { binder = 0 + it.0; state = (get_or env it.0 nothing).state } = sym it.2 ∙ numbered_at 0 env it.0 e nothing low in
    let same : e.binder ≡ 0 + it.0 = ap (λ (e : EnvEntry). e.binder) is in
    let number : it.0 ≡ e.binder = omega arith in (
      get_or env it.0 nothing,
      Contains-get_or env it.0 nothing low,
      ap (binder_of env) number,
      sym (ap (λ (e : EnvEntry). e.state.0) is),
    )

new_entry : (env : List EnvEntry) (e : EnvEntry) → Contains env e
    → (new : EnvEntry) × Contains (numbered 0 env) new × (binder_of env new.binder ≡ e.binder) × (new.state.0 ≡ e.state.0)
new_entry env e it =
    let size : length (numbered 0 env) ≡ length env = numbered_length 0 env in
    let low : it.0 < length env = it.1 in
    let is : get_or (numbered 0 env) it.0 nothing ≡ record { binder = 0 + it.0; state = (get_or env it.0 e).state } =
    numbered_at 0 env it.0 nothing e low in
    let same : (get_or (numbered 0 env) it.0 nothing).binder ≡ 0 + it.0 = ap (λ (e : EnvEntry). e.binder) is in
    let number : (get_or (numbered 0 env) it.0 nothing).binder ≡ it.0 = omega arith in
    let old : get_or env it.0 nothing ≡ e = get_or_default env it.0 nothing e low ∙ it.2 in (
      get_or (numbered 0 env) it.0 nothing,
      Contains-get_or (numbered 0 env) it.0 nothing (omega arith),
      ap (binder_of env) number ∙ ap (λ (e : EnvEntry). e.binder) old,
      ap (λ (e : EnvEntry). e.state.0) is ∙ ap (λ (e : EnvEntry). e.state.0) it.2,
    )

abbrev pub numbered_scheme : Scheme → Scheme
numbered_scheme s = record { automaton = s.automaton; env = numbered 0 s.env; root = s.root }

pub numbered_is : (s : Scheme) → HasStates s → IsScheme (numbered_scheme s)
numbered_is s states = record {
  automaton = states.automaton;
  root = states.root;
  env = λ x n found.
      let e = found_entry (numbered 0 s.env) x n found in
      let old = old_entry s.env e.0 e.1 in
      subst (IsState s.automaton Negative) e.3 (subst (IsState s.automaton Negative) old.3 (states.env old.0 old.1));
}

-- the types are the same
module _ (s : Scheme) (goals : List (ℕ × ℕ)) (types : ℕ → Predicate) (f : Predicate) where
  abbrev plain : Constraint
  plain = record { scheme = s; goals = goals }

  abbrev counted : Constraint
  counted = record { scheme = numbered_scheme s; goals = goals }

  abbrev pub types_of_numbers : ℕ → Predicate
  types_of_numbers i = types (binder_of s.env i)

  pub to_numbered : HasTypes plain types f → HasTypes counted types_of_numbers f
  to_numbered h = record {
    nodes = h.nodes;
    closed = h.closed;
    value = h.value;
    held = h.held;
    model = h.model;
    goals = h.goals;
    root = h.root;
    env = λ e inside.
        let old = old_entry s.env e inside in
        subst (λ x. Implies (types x) (h.value e.state.0)) old.2
        (subst (λ n. Implies (types old.0.binder) (h.value n)) old.3 (h.env old.0 old.1));
  }

  pub from_numbered : HasTypes counted types_of_numbers f → HasTypes plain types f
  from_numbered h = record {
    nodes = h.nodes;
    closed = h.closed;
    value = h.value;
    held = h.held;
    model = h.model;
    goals = h.goals;
    root = h.root;
    env = λ e inside.
        let new = new_entry s.env e inside in
        subst (λ x. Implies (types x) (h.value e.state.0)) new.2
        (subst (λ n. Implies (types (binder_of s.env new.0.binder)) (h.value n)) new.3 (h.env new.0 new.1));
  }

module _ (s : Scheme) (goals : List Goal) (states : HasStates s) (are : All (IsGoalOf s.automaton) goals) where
  abbrev posed : Constraint
  posed = record { scheme = s; goals = map goal_pair goals }

  abbrev pairs : List (ℕ × ℕ)
  pairs = map goal_pair goals

  pub open_none : (clash : Clash) → IsClashOf s.automaton (IsRelated s.automaton (IsGoal goals)) clash → HasNoTypes posed
  open_none clash it types f h =
      scheme_none (numbered_scheme s) goals (numbered_is s states) (numbered_rise 0 s.env) are clash it
      (types_of_numbers s pairs types f) f (to_numbered s pairs types f h)

  pub open_answer : (e : NoSolution) → ClashesFirst s.automaton goals e → IsClashWithout posed e
  open_answer (none.Clash m) it = open_none it.clash it.first.clash
  open_answer none.Memory it = tt

  pub open_solution : (solved : Automaton) → IsSolvedFor s.automaton goals solved → IsSolution posed (over s solved)
  open_solution solved it =
      let whole = scheme_solution (numbered_scheme s) goals (numbered_is s states) (numbered_rise 0 s.env) are solved it in
      record {
        states = record {
          automaton = it.closed;
          root = whole.states.root;
          env = λ e inside. let new = new_entry s.env e inside in subst (IsState solved Negative) new.3 (whole.states.env new.0 new.1);
        };
        just = λ types f.
            let same = whole.just (types_of_numbers s pairs types f) f in (
              λ h. from_numbered (over s solved) [] types f (same.0 (to_numbered s pairs types f h)),
              λ h. from_numbered s pairs types f (same.1 (to_numbered (over s solved) [] types f h)),
            );
      }

-- without goals
pub open_without_goals : (s : Scheme) (goals : List Goal) → HasStates s → goals ≡ [] → IsSolution (record { scheme = s; goals = map goal_pair goals }) s
open_without_goals s goals states none =
    let same : record { scheme = s; goals = map goal_pair goals } ≡ no_goals s = λ i. record { scheme = s; goals = map goal_pair (none i) } in
    record {
      states = states;
      just = λ types f. (λ h. subst (λ (c : Constraint). HasTypes c types f) same h, λ h. subst (λ (c : Constraint). HasTypes c types f) (sym same) h);
    }
