-- The forms over a binder of which nothing is in the table yet: the part of the node, where nothing is to be solved.
--     no_states               the states where there are no parts
--     field_states, call_states     heads of the new states name states that are there
--     field_made, call_made         a projection from a binder, and an application of one
use Rattle.std.proofs.Common.{◌≡◌, ◌⊎◌, ◌↔◌, inl, inr, ℕ, List, [], ◌∷◌, ◌++◌, refl, sym, ap, ◌∙◌, subst, Contains}
use Rattle.std.proofs.lemmas.List.Elements.{Contains-append_cases, Contains-append_left, Contains-append_right}
use Rattle.mls_automaton.specs.declared.automaton.Polarity.TheVariants.{Negative}
use Rattle.mls_automaton.specs.declared.automaton.Head.{Head}
use Rattle.mls_automaton.specs.declared.automaton.State.{State}
use Rattle.mls_automaton.specs.declared.state_set.StateId.{StateId}
use Rattle.mls_automaton.specs.declared.scheme.EnvEntry.{EnvEntry}
use Rattle.mls_automaton.specs.Automata.{empty_head}
use Rattle.mls_automaton.specs.Models.{HasStatesIn}
use Rattle.mls_automaton.proofs.Lists.{Contains-cases, Contains-here}
use Rattle.mls_biunify.specs.Live.{IsLive, IsLiveState, Live}
use Rattle.mls_infer.specs.Constraints.{Constraint, apply_constraint, bound_scheme, function_head, negative, no_goals, positive, project_constraint, record_head}
use Rattle.mls_infer.specs.Joining.{field_of}
use Rattle.mls_infer.specs.Merges.{HaveSameTypes}
use Rattle.mls_infer.specs.Pending.{AreWaiting, Changes, Grows, IsMadeWith, Waits, all_states}
use Rattle.mls_infer.specs.Regions.{InEnvs, IsPart, TablePart, scheme_at}
use Rattle.mls_infer.specs.TableRows.{IsBoundCallAt, IsBoundFieldAt}
use Rattle.mls_infer.proofs.ConstraintRows.{nothing_in}
use Rattle.mls_infer.proofs.FormParts.{like_before, own_ends, second_of, third_of}
use Rattle.mls_infer.proofs.FormSteps.{added_states, applied_states, one_states, passage_then, projected_states}
use Rattle.mls_infer.proofs.GrownParts.{HasOwnEnds, beside, edges_within, grown_changes, grown_waits, passage_at, waiting_states}
use Rattle.mls_infer.proofs.MadeForms.{bound_call_same, bound_field_same}
use Rattle.mls_infer.proofs.SolvedConstraints.{solution_same}
use Rattle.mls_infer.proofs.TableParts.{AreStatesWith, bound_call_part, bound_field_part}

-- a part with just the types of a constraint
made_with : (c : Constraint) (old : Live) (parts : List TablePart) (new : Live) (made : TablePart) → IsLive new → Waits new made → Changes (all_states parts) old new made.states
    → HaveSameTypes c (no_goals (scheme_at new.table made)) → IsMadeWith c old parts new made
made_with c old parts new made is waits changes same = record {
  waits = waits;
  changes = changes;
  solution =
      solution_same c (no_goals (scheme_at new.table made)) (scheme_at new.table made) same
      (record { states = waiting_states new is made waits; just = λ types f. (λ h. h, λ h. h) });
}

pub no_states : (came states : List ℕ) → ((s : ℕ) → Contains states s ↔ (Contains [] s ⊎ Contains came s)) → AreStatesWith [] came states
no_states came states each s = (
  λ here. elim ((each s).0 here) [ inl none ↦ absurd (nothing_in s none) | inr new ↦ inr new ],
  λ it. (each s).1 (elim it [ inl out ↦ absurd out | inr new ↦ inr new ]),
)

-- A projection.
module _ (old mid : Live) (x : ℕ) (label : List ℕ) (field root : StateId) (head : Head) (head_is : head ≡ record_head (field_of label field.0 ∷ []))
    (first : Grows old mid ((field.0, negative empty_head) ∷ (root.0, positive empty_head) ∷ []) ((field.0, root.0) ∷ [])) where
  pub field_states : HasStatesIn (IsLiveState mid) Negative head
  field_states = subst (λ (h : Head). HasStatesIn (IsLiveState mid) Negative h) (sym head_is) (projected_states old mid field.0 root.0 first label)

  module _ (new : Live) (state : StateId) (second : Grows mid new ((state.0, negative head) ∷ []) []) (middle states : List ℕ) (middle_is : middle ≡ field.0 ∷ root.0 ∷ []) (states_are : states ≡ middle ++ state.0 ∷ [])
      (env : List EnvEntry) (env_is : env ≡ record { binder = x; state = state } ∷ []) where
    abbrev field_came : List (ℕ × State)
    field_came = (field.0, negative empty_head) ∷ (root.0, positive empty_head) ∷ (state.0, negative (record_head (field_of label field.0 ∷ []))) ∷ []

    abbrev field_edges : List (ℕ × ℕ)
    field_edges = (field.0, root.0) ∷ []

    abbrev field_numbers : List ℕ
    field_numbers = field.0 ∷ root.0 ∷ state.0 ∷ []

    abbrev field_part : TablePart
    field_part = record { states = states; env = env; root = root }

    field_grows : Grows old new field_came field_edges
    field_grows = passage_then old mid new field.0 root.0 state.0 head (record_head (field_of label field.0 ∷ [])) head_is first second

    field_each : AreStatesWith [] field_numbers states
    field_each = no_states field_numbers states (added_states [] middle states (field.0 ∷ root.0 ∷ []) (state.0 ∷ []) middle_is states_are)

    field_ends : HasOwnEnds field_came field_edges
    field_ends = own_ends field_came field.0 root.0 (Contains-here field.0 (root.0 ∷ state.0 ∷ [])) (second_of field.0 root.0 (state.0 ∷ []))

    field_at : IsBoundFieldAt new.table x label field.0 root.0 state.0 env
    field_at = record {
      beside = beside old new field_came field_edges field_grows field_ends [] tt;
      passage =
          passage_at old new field_came field_edges field_grows field_ends field.0 root.0 refl
          (Contains-here (field.0, negative empty_head) ((root.0, positive empty_head) ∷ (state.0, negative (record_head (field_of label field.0 ∷ []))) ∷ []))
          (second_of (field.0, negative empty_head) (root.0, positive empty_head) ((state.0, negative (record_head (field_of label field.0 ∷ []))) ∷ []));
      demand =
          field_grows.here state.0 (negative (record_head (field_of label field.0 ∷ [])))
          (third_of (field.0, negative empty_head) (root.0, positive empty_head) (state.0, negative (record_head (field_of label field.0 ∷ []))) []);
      entries = λ entry. (
        λ inside. elim (Contains-cases (record { binder = x; state = state }) [] entry (subst (λ (es : List EnvEntry). Contains es entry) env_is inside)) [
          | inl same ↦ sym same
          | inr none ↦ absurd (nothing_in entry none)
        ],
        λ same. subst (λ (es : List EnvEntry). Contains es entry) (sym env_is) (subst (λ (e : EnvEntry). Contains (record { binder = x; state = state } ∷ []) e) (sym same) (Contains-here (record { binder = x; state = state }) [])),
      );
    }

    field_is : IsPart new.table states env root
    field_is = bound_field_part new.table x label field.0 root.0 state.0 env field_at (edges_within old new field_came field_edges field_grows field_ends) states field_each

    pub field_made : IsMadeWith (project_constraint label (bound_scheme x)) old [] new field_part
    field_made =
        made_with (project_constraint label (bound_scheme x)) old [] new field_part field_grows.live_new
        (grown_waits old new field_came field_edges field_grows field_ends [] tt field_part field_each field_is)
        (grown_changes old new field_came field_edges field_grows field_ends [] tt field_part field_each field_is)
        (bound_field_same new.table x label field.0 root.0 state.0 env field_at)

-- An application.
module _ (old mid : Live) (x : ℕ) (argument : TablePart) (are : AreWaiting old (argument ∷ [])) (codomain root : StateId) (head : Head) (domain : List ℕ)
    (domain_is : domain ≡ argument.root.0 ∷ []) (head_is : head ≡ function_head domain (codomain.0 ∷ []))
    (first : Grows old mid ((codomain.0, negative empty_head) ∷ (root.0, positive empty_head) ∷ []) ((codomain.0, root.0) ∷ [])) where
  call_head : head ≡ function_head (argument.root.0 ∷ []) (codomain.0 ∷ [])
  call_head = head_is ∙ ap (λ (set : List ℕ). function_head set (codomain.0 ∷ [])) domain_is

  pub call_states : HasStatesIn (IsLiveState mid) Negative head
  call_states = subst (λ (h : Head). HasStatesIn (IsLiveState mid) Negative h) (sym call_head) (applied_states old mid codomain.0 root.0 first argument are.0)

  module _ (new : Live) (state : StateId) (second : Grows mid new ((state.0, negative head) ∷ []) []) (middle states : List ℕ) (middle_is : middle ≡ argument.states ++ codomain.0 ∷ root.0 ∷ []) (states_are : states ≡ middle ++ state.0 ∷ [])
      (env : List EnvEntry) (env_is : env ≡ argument.env ++ record { binder = x; state = state } ∷ []) where
    abbrev call_came : List (ℕ × State)
    call_came = (codomain.0, negative empty_head) ∷ (root.0, positive empty_head) ∷ (state.0, negative (function_head (argument.root.0 ∷ []) (codomain.0 ∷ []))) ∷ []

    abbrev call_edges : List (ℕ × ℕ)
    call_edges = (codomain.0, root.0) ∷ []

    abbrev call_numbers : List ℕ
    call_numbers = codomain.0 ∷ root.0 ∷ state.0 ∷ []

    abbrev call_parts : List TablePart
    call_parts = argument ∷ []

    abbrev call_part : TablePart
    call_part = record { states = states; env = env; root = root }

    abbrev own : EnvEntry
    own = record { binder = x; state = state }

    call_grows : Grows old new call_came call_edges
    call_grows = passage_then old mid new codomain.0 root.0 state.0 head (function_head (argument.root.0 ∷ []) (codomain.0 ∷ [])) call_head first second

    call_each : AreStatesWith call_parts call_numbers states
    call_each = one_states argument argument.states call_numbers states refl (added_states argument.states middle states (codomain.0 ∷ root.0 ∷ []) (state.0 ∷ []) middle_is states_are)

    call_ends : HasOwnEnds call_came call_edges
    call_ends = own_ends call_came codomain.0 root.0 (Contains-here codomain.0 (root.0 ∷ state.0 ∷ [])) (second_of codomain.0 root.0 (state.0 ∷ []))

    call_entries : (entry : EnvEntry) → Contains env entry ↔ (entry ≡ own) ⊎ InEnvs call_parts entry
    call_entries entry = (
      λ inside. elim (Contains-append_cases argument.env (own ∷ []) entry (subst (λ (es : List EnvEntry). Contains es entry) env_is inside)) [
        | inl old ↦ inr (inl old)
        | inr new ↦ elim (Contains-cases own [] entry new) [ inl same ↦ inl (sym same) | inr none ↦ absurd (nothing_in entry none) ]
      ],
      λ it. subst (λ (es : List EnvEntry). Contains es entry) (sym env_is) (elim it [
        | inl same ↦ Contains-append_right argument.env (own ∷ []) entry (subst (λ (e : EnvEntry). Contains (own ∷ []) e) (sym same) (Contains-here own []))
        | inr inside ↦ elim inside [ inl old ↦ Contains-append_left argument.env (own ∷ []) entry old | inr out ↦ absurd out ]
      ]),
    )

    call_at : IsBoundCallAt new.table argument x codomain.0 root.0 state.0 env
    call_at = record {
      beside = beside old new call_came call_edges call_grows call_ends call_parts are;
      passage =
          passage_at old new call_came call_edges call_grows call_ends codomain.0 root.0 refl
          (Contains-here (codomain.0, negative empty_head) ((root.0, positive empty_head) ∷ (state.0, negative (function_head (argument.root.0 ∷ []) (codomain.0 ∷ []))) ∷ []))
          (second_of (codomain.0, negative empty_head) (root.0, positive empty_head) ((state.0, negative (function_head (argument.root.0 ∷ []) (codomain.0 ∷ []))) ∷ []));
      demand =
          call_grows.here state.0 (negative (function_head (argument.root.0 ∷ []) (codomain.0 ∷ [])))
          (third_of (codomain.0, negative empty_head) (root.0, positive empty_head) (state.0, negative (function_head (argument.root.0 ∷ []) (codomain.0 ∷ []))) []);
      entries = call_entries;
    }

    call_is : IsPart new.table states env root
    call_is = bound_call_part new.table argument x codomain.0 root.0 state.0 env call_at (edges_within old new call_came call_edges call_grows call_ends) states call_each

    pub call_made : IsMadeWith (apply_constraint (bound_scheme x) (scheme_at old.table argument)) old call_parts new call_part
    call_made =
        made_with (apply_constraint (bound_scheme x) (scheme_at old.table argument)) old call_parts new call_part call_grows.live_new
        (grown_waits old new call_came call_edges call_grows call_ends call_parts are call_part call_each call_is)
        (grown_changes old new call_came call_edges call_grows call_ends call_parts are call_part call_each call_is)
        (bound_call_same new.table argument x codomain.0 root.0 state.0 env call_at (scheme_at old.table argument) (like_before old new call_came call_edges call_grows call_ends argument are.0))
