-- The steps of each form: what is known before goals are solved.
--     added_states, one_states, two_states, three_states      the states of the region
--     one_entry, two_entries, three_entries       the entries of the environment
--     passage_low, applied_states, projected_states       heads of new states name states that are there
--     settled_true, refused_false, refused_live       the answers of solving
--     application_made, projection_made, choice_made      the part of the node, where its goals are solved
--     application_none, application_stops, ..      why the node stops, where they clash
use Rattle.std.proofs.Common.{◌≡◌, ◌⊎◌, ◌↔◌, inl, inr, ℕ, Bool, true, false, List, [], ◌∷◌, ◌++◌, get_or, sym, ap, ◌∙◌, subst, All, Contains}
use Rattle.std.proofs.lemmas.List.Elements.{Contains-append_cases, Contains-append_left, Contains-append_right}
use Rattle.mls_automaton.specs.declared.automaton.Polarity.{Polarity}
use Rattle.mls_automaton.specs.declared.automaton.Polarity.TheVariants.{Positive, Negative}
use Rattle.mls_automaton.specs.declared.automaton.FieldSet.{FieldSet}
use Rattle.mls_automaton.specs.declared.automaton.Head.{Head}
use Rattle.mls_automaton.specs.declared.automaton.State.{State}
use Rattle.mls_automaton.specs.declared.scheme.EnvEntry.{EnvEntry}
use Rattle.mls_automaton.specs.declared.state_set.StateId.{StateId}
use Rattle.mls_automaton.specs.Automata.{Automaton, empty_head, polarity_at}
use Rattle.mls_automaton.specs.Models.{HasStatesIn}
use Rattle.mls_automaton.proofs.Lists.{All-one, Contains-here}
use Rattle.mls_solver.specs.declared.goal.Goal.{Goal}
use Rattle.mls_biunify.specs.Live.{IsLiveGoal, IsLiveState, Live}
use Rattle.mls_term.specs.declared.term.TermForm.TheVariants as form
use Rattle.mls_infer.specs.declared.solve.NoSolution.{NoSolution}
use Rattle.mls_infer.specs.Constraints.{apply_constraint, bool_head, choice_constraint, function_head, negative, positive, project_constraint, record_head}
use Rattle.mls_infer.specs.Joining.{field_of}
use Rattle.mls_infer.specs.Pending.{AreWaiting, Grows, IsMade, IsRefused, IsSettled, OverAllSame, OverSame, Solves, StopsOver, Waits}
use Rattle.mls_infer.specs.Regions.{TablePart, part_over}
use Rattle.mls_infer.specs.Solved.{TellsFirstClash}
use Rattle.mls_infer.specs.Steps.{HasNoTypes}
use Rattle.mls_infer.specs.TableRows.{AreEntries}
use Rattle.mls_infer.proofs.FormParts.{applied_live, applied_made, applied_none, applied_stops, chosen_live, chosen_made, chosen_none, chosen_stops}
use Rattle.mls_infer.proofs.FormParts.{own_ends, projected_live, projected_made, projected_none, projected_stops, root_live, second_of}
use Rattle.mls_infer.proofs.Growths.{grows_then}
use Rattle.mls_infer.proofs.GrownParts.{HasOwnEnds}
use Rattle.mls_infer.proofs.TableParts.{AreStatesWith}

-- what was added behind the states
pub added_states : (base mid last news more : List ℕ) → mid ≡ base ++ news → last ≡ mid ++ more → (s : ℕ) → Contains last s ↔ (Contains base s ⊎ Contains (news ++ more) s)
added_states base mid last news more first second s = (
  λ here. elim (Contains-append_cases mid more s (subst (λ (set : List ℕ). Contains set s) second here)) [
    | inl before ↦ elim (Contains-append_cases base news s (subst (λ (set : List ℕ). Contains set s) first before)) [
      | inl one ↦ inl one
      | inr two ↦ inr (Contains-append_left news more s two)
    ]
    | inr three ↦ inr (Contains-append_right news more s three)
  ],
  λ it. subst (λ (set : List ℕ). Contains set s) (sym second) (elim it [
    | inl one ↦ Contains-append_left mid more s (subst (λ (set : List ℕ). Contains set s) (sym first) (Contains-append_left base news s one))
    | inr came ↦ elim (Contains-append_cases news more s came) [
      | inl two ↦ Contains-append_left mid more s (subst (λ (set : List ℕ). Contains set s) (sym first) (Contains-append_right base news s two))
      | inr three ↦ Contains-append_right mid more s three
    ]
  ]),
)

pub one_states : (part : TablePart) (base came states : List ℕ) → base ≡ part.states → ((s : ℕ) → Contains states s ↔ (Contains base s ⊎ Contains came s)) → AreStatesWith (part ∷ []) came states
one_states part base came states same each s = (
  λ here. elim ((each s).0 here) [ inl old ↦ inl (inl (subst (λ (set : List ℕ). Contains set s) same old)) | inr new ↦ inr new ],
  λ it. (each s).1 (elim it [
    | inl inside ↦ elim inside [ inl here ↦ inl (subst (λ (set : List ℕ). Contains set s) (sym same) here) | inr out ↦ absurd out ]
    | inr new ↦ inr new
  ]),
)

pub two_states : (first second : TablePart) (base came states : List ℕ) → ((s : ℕ) → Contains base s ↔ (Contains first.states s ⊎ Contains second.states s))
    → ((s : ℕ) → Contains states s ↔ (Contains base s ⊎ Contains came s)) → AreStatesWith (first ∷ second ∷ []) came states
two_states first second base came states both each s = (
  λ here. elim ((each s).0 here) [
    | inl old ↦ elim ((both s).0 old) [ inl one ↦ inl (inl one) | inr two ↦ inl (inr (inl two)) ]
    | inr new ↦ inr new
  ],
  λ it. (each s).1 (elim it [
    | inl inside ↦ inl ((both s).1 (elim inside [ inl one ↦ inl one | inr later ↦ elim later [ inl two ↦ inr two | inr out ↦ absurd out ] ]))
    | inr new ↦ inr new
  ]),
)

pub three_states : (first second third : TablePart) (base more came states : List ℕ) → ((s : ℕ) → Contains base s ↔ (Contains first.states s ⊎ Contains second.states s)) → ((s : ℕ) → Contains more s ↔ (Contains base s ⊎ Contains third.states s))
    → ((s : ℕ) → Contains states s ↔ (Contains more s ⊎ Contains came s)) → AreStatesWith (first ∷ second ∷ third ∷ []) came states
three_states first second third base more came states both all each s = (
  λ here. elim ((each s).0 here) [
    | inl old ↦ elim ((all s).0 old) [
      | inl early ↦ elim ((both s).0 early) [ inl one ↦ inl (inl one) | inr two ↦ inl (inr (inl two)) ]
      | inr three ↦ inl (inr (inr (inl three)))
    ]
    | inr new ↦ inr new
  ],
  λ it. (each s).1 (elim it [
    | inl inside ↦ inl ((all s).1 (elim inside [
      | inl one ↦ inl ((both s).1 (inl one))
      | inr later ↦ elim later [
        | inl two ↦ inl ((both s).1 (inr two))
        | inr last ↦ elim last [ inl three ↦ inr three | inr out ↦ absurd out ]
      ]
    ]))
    | inr new ↦ inr new
  ]),
)

pub one_entry : (part : TablePart) (env : List EnvEntry) → env ≡ part.env → AreEntries (part ∷ []) env
one_entry part env same entry = (
  λ here. inl (subst (λ (es : List EnvEntry). Contains es entry) same here),
  λ it. elim it [ inl here ↦ subst (λ (es : List EnvEntry). Contains es entry) (sym same) here | inr out ↦ absurd out ],
)

pub two_entries : (first second : TablePart) (env : List EnvEntry) → ((entry : EnvEntry) → Contains env entry ↔ (Contains first.env entry ⊎ Contains second.env entry)) → AreEntries (first ∷ second ∷ []) env
two_entries first second env both entry = (
  λ here. elim ((both entry).0 here) [ inl one ↦ inl one | inr two ↦ inr (inl two) ],
  λ it. (both entry).1 (elim it [ inl one ↦ inl one | inr later ↦ elim later [ inl two ↦ inr two | inr out ↦ absurd out ] ]),
)

pub three_entries : (first second third : TablePart) (base env : List EnvEntry) → ((entry : EnvEntry) → Contains base entry ↔ (Contains first.env entry ⊎ Contains second.env entry))
    → ((entry : EnvEntry) → Contains env entry ↔ (Contains base entry ⊎ Contains third.env entry)) → AreEntries (first ∷ second ∷ third ∷ []) env
three_entries first second third base env both all entry = (
  λ here. elim ((all entry).0 here) [
    | inl early ↦ elim ((both entry).0 early) [ inl one ↦ inl one | inr two ↦ inr (inl two) ]
    | inr three ↦ inr (inr (inl three))
  ],
  λ it. (all entry).1 (elim it [
    | inl one ↦ inl ((both entry).1 (inl one))
    | inr later ↦ elim later [
      | inl two ↦ inl ((both entry).1 (inr two))
      | inr last ↦ elim last [ inl three ↦ inr three | inr out ↦ absurd out ]
    ]
  ]),
)

-- After a passage came.
module _ (old new : Live) (n p : ℕ) (grows : Grows old new ((n, negative empty_head) ∷ (p, positive empty_head) ∷ []) ((n, p) ∷ [])) where
  abbrev passage_came : List (ℕ × State)
  passage_came = (n, negative empty_head) ∷ (p, positive empty_head) ∷ []

  passage_ends : HasOwnEnds passage_came ((n, p) ∷ [])
  passage_ends = own_ends passage_came n p (Contains-here n (p ∷ [])) (second_of n p [])

  pub passage_low : IsLiveState new Negative n
  passage_low = record {
    there = (grows.there n).1 (inr (Contains-here n (p ∷ [])));
    polarity = ap (λ (x : State). x.polarity) (grows.here n (negative empty_head) (Contains-here (n, negative empty_head) ((p, positive empty_head) ∷ [])));
  }

  pub passage_root : (part : TablePart) → Waits old part → IsLiveState new Positive part.root.0
  passage_root part waits = root_live old new passage_came ((n, p) ∷ []) grows passage_ends part waits

  pub applied_states : (part : TablePart) → Waits old part → HasStatesIn (IsLiveState new) Negative (function_head (part.root.0 ∷ []) (n ∷ []))
  applied_states part waits = record {
    function = (All-one (IsLiveState new Positive) part.root.0 (passage_root part waits), All-one (IsLiveState new Negative) n passage_low);
    fields = tt;
  }

  pub projected_states : (label : List ℕ) → HasStatesIn (IsLiveState new) Negative (record_head (field_of label n ∷ []))
  projected_states label = record {
    function = tt;
    fields = All-one (λ (f : FieldSet). All (IsLiveState new Negative) f.set) (field_of label n) (All-one (IsLiveState new Negative) n passage_low);
  }

pub settled_true : (old : Live) (goals others : List Goal) → goals ≡ others → (new : Live) (b : Bool) → Solves old goals new b → b ≡ true → IsSettled old others new
settled_true old goals others same new b it is = subst (λ (gs : List Goal). IsSettled old gs new) same (subst (λ b. Solves old goals new b) is it)

pub refused_false : (old : Live) (goals others : List Goal) → goals ≡ others → (new : Live) (b : Bool) → Solves old goals new b → b ≡ false → IsRefused old others new
refused_false old goals others same new b it is = subst (λ (gs : List Goal). IsRefused old gs new) same (subst (λ b. Solves old goals new b) is it)

-- What was refused left the states as they were.
pub refused_live : (new : Live) (goals : List Goal) (after : Live) → IsRefused new goals after → (p : Polarity) (s : ℕ) → IsLiveState new p s → IsLiveState after p s
refused_live new goals after it p s live = record {
  there = subst (λ (bits : List Bool). get_or bits s false ≡ true) (sym it.numbers) live.there;
  polarity = subst (λ (a : Automaton). polarity_at a s ≡ p) (sym it.same) live.polarity;
}

-- a passage, and a negative state with a head
pub passage_then : (old mid new : Live) (n p d : ℕ) (h k : Head) → h ≡ k → Grows old mid ((n, negative empty_head) ∷ (p, positive empty_head) ∷ []) ((n, p) ∷ []) → Grows mid new ((d, negative h) ∷ []) []
    → Grows old new ((n, negative empty_head) ∷ (p, positive empty_head) ∷ (d, negative k) ∷ []) ((n, p) ∷ [])
passage_then old mid new n p d h k same first second =
    grows_then old mid new ((n, negative empty_head) ∷ (p, positive empty_head) ∷ []) ((d, negative k) ∷ []) ((n, p) ∷ []) [] first
    (subst (λ (h : Head). Grows mid new ((d, negative h) ∷ []) []) same second)

-- An application, by what its steps ensure.
module _ (old mid : Live) (function argument : TablePart) (are : AreWaiting old (function ∷ argument ∷ [])) (codomain root : StateId) (head : Head) (domain : List ℕ)
    (domain_is : domain ≡ argument.root.0 ∷ []) (head_is : head ≡ function_head domain (codomain.0 ∷ []))
    (first : Grows old mid ((codomain.0, negative empty_head) ∷ (root.0, positive empty_head) ∷ []) ((codomain.0, root.0) ∷ [])) where
  application_head : head ≡ function_head (argument.root.0 ∷ []) (codomain.0 ∷ [])
  application_head = head_is ∙ ap (λ (set : List ℕ). function_head set (codomain.0 ∷ [])) domain_is

  pub application_states : HasStatesIn (IsLiveState mid) Negative head
  application_states = subst (λ (h : Head). HasStatesIn (IsLiveState mid) Negative h) (sym application_head) (applied_states old mid codomain.0 root.0 first argument are.2.0)

  module _ (new : Live) (demand : StateId) (second : Grows mid new ((demand.0, negative head) ∷ []) []) (base middle states : List ℕ) (both : (s : ℕ) → Contains base s ↔ (Contains function.states s ⊎ Contains argument.states s))
      (middle_is : middle ≡ base ++ codomain.0 ∷ root.0 ∷ []) (states_are : states ≡ middle ++ demand.0 ∷ []) (env : List EnvEntry) (entries : (entry : EnvEntry) → Contains env entry ↔ (Contains function.env entry ⊎ Contains argument.env entry))
      (goals : List Goal) (goals_are : goals ≡ record { positive = function.root; negative = demand } ∷ []) where
    abbrev application_came : List (ℕ × State)
    application_came = (codomain.0, negative empty_head) ∷ (root.0, positive empty_head) ∷ (demand.0, negative (function_head (argument.root.0 ∷ []) (codomain.0 ∷ []))) ∷ []

    abbrev application_edges : List (ℕ × ℕ)
    application_edges = (codomain.0, root.0) ∷ []

    abbrev application_goals : List Goal
    application_goals = record { positive = function.root; negative = demand } ∷ []

    application_grows : Grows old new application_came application_edges
    application_grows = passage_then old mid new codomain.0 root.0 demand.0 head (function_head (argument.root.0 ∷ []) (codomain.0 ∷ [])) application_head first second

    application_each : AreStatesWith (function ∷ argument ∷ []) (codomain.0 ∷ root.0 ∷ demand.0 ∷ []) states
    application_each = two_states function argument base (codomain.0 ∷ root.0 ∷ demand.0 ∷ []) states both (added_states base middle states (codomain.0 ∷ root.0 ∷ []) (demand.0 ∷ []) middle_is states_are)

    application_entries : AreEntries (function ∷ argument ∷ []) env
    application_entries = two_entries function argument env entries

    pub application_live : All (IsLiveGoal new) goals
    application_live =
        subst (λ (gs : List Goal). All (IsLiveGoal new) gs) (sym goals_are)
        (applied_live old new function argument are codomain root demand application_grows states application_each env application_entries)

    module _ (after : Live) (b : Bool) (solves : Solves new goals after b) where
      pub application_made : b ≡ true → IsMade (form.Apply 0 0) old (function ∷ argument ∷ []) after (record { states = states; env = env; root = root })
      application_made is =
          applied_made old new function argument are codomain root demand application_grows states application_each env application_entries after
          (settled_true new goals application_goals goals_are after b solves is)

      application_refused : b ≡ false → IsRefused new application_goals after
      application_refused is = refused_false new goals application_goals goals_are after b solves is

      pub application_none : b ≡ false → OverAllSame after (λ a. OverAllSame after (λ b. HasNoTypes (apply_constraint (part_over a [] function.root) (part_over b [] argument.root))))
      application_none is = applied_none old new function argument are codomain root demand application_grows states application_each after (application_refused is)

      pub application_stops : b ≡ false → (result : NoSolution) → OverSame after (λ a. OverSame after (λ b. TellsFirstClash (apply_constraint (part_over a [] function.root) (part_over b [] argument.root)) result))
          → StopsOver (form.Apply 0 0) old (function ∷ argument ∷ []) result
      application_stops is result tells =
          applied_stops old new function argument are codomain root demand application_grows states application_each env application_entries after (application_refused is) result tells

-- A projection, by what its steps ensure.
module _ (old mid : Live) (label : List ℕ) (body : TablePart) (are : AreWaiting old (body ∷ [])) (field root : StateId) (head : Head)
    (head_is : head ≡ record_head (field_of label field.0 ∷ []))
    (first : Grows old mid ((field.0, negative empty_head) ∷ (root.0, positive empty_head) ∷ []) ((field.0, root.0) ∷ [])) where
  pub projection_states : HasStatesIn (IsLiveState mid) Negative head
  projection_states = subst (λ (h : Head). HasStatesIn (IsLiveState mid) Negative h) (sym head_is) (projected_states old mid field.0 root.0 first label)

  module _ (new : Live) (demand : StateId) (second : Grows mid new ((demand.0, negative head) ∷ []) []) (base middle states : List ℕ) (base_is : base ≡ body.states)
      (middle_is : middle ≡ base ++ field.0 ∷ root.0 ∷ []) (states_are : states ≡ middle ++ demand.0 ∷ []) (env : List EnvEntry) (env_is : env ≡ body.env)
      (goals : List Goal) (goals_are : goals ≡ record { positive = body.root; negative = demand } ∷ []) where
    abbrev projection_came : List (ℕ × State)
    projection_came = (field.0, negative empty_head) ∷ (root.0, positive empty_head) ∷ (demand.0, negative (record_head (field_of label field.0 ∷ []))) ∷ []

    abbrev projection_edges : List (ℕ × ℕ)
    projection_edges = (field.0, root.0) ∷ []

    abbrev projection_goals : List Goal
    projection_goals = record { positive = body.root; negative = demand } ∷ []

    projection_grows : Grows old new projection_came projection_edges
    projection_grows = passage_then old mid new field.0 root.0 demand.0 head (record_head (field_of label field.0 ∷ [])) head_is first second

    projection_each : AreStatesWith (body ∷ []) (field.0 ∷ root.0 ∷ demand.0 ∷ []) states
    projection_each = one_states body base (field.0 ∷ root.0 ∷ demand.0 ∷ []) states base_is (added_states base middle states (field.0 ∷ root.0 ∷ []) (demand.0 ∷ []) middle_is states_are)

    projection_entries : AreEntries (body ∷ []) env
    projection_entries = one_entry body env env_is

    pub projection_live : All (IsLiveGoal new) goals
    projection_live =
        subst (λ (gs : List Goal). All (IsLiveGoal new) gs) (sym goals_are)
        (projected_live old new label body are field root demand projection_grows states projection_each env projection_entries)

    module _ (after : Live) (b : Bool) (solves : Solves new goals after b) where
      pub projection_made : b ≡ true → IsMade (form.Project 0 label) old (body ∷ []) after (record { states = states; env = env; root = root })
      projection_made is =
          projected_made old new label body are field root demand projection_grows states projection_each env projection_entries after
          (settled_true new goals projection_goals goals_are after b solves is)

      projection_refused : b ≡ false → IsRefused new projection_goals after
      projection_refused is = refused_false new goals projection_goals goals_are after b solves is

      pub projection_none : b ≡ false → OverAllSame after (λ a. HasNoTypes (project_constraint label (part_over a [] body.root)))
      projection_none is = projected_none old new label body are field root demand projection_grows states projection_each after (projection_refused is)

      pub projection_stops : b ≡ false → (result : NoSolution) → OverSame after (λ a. TellsFirstClash (project_constraint label (part_over a [] body.root)) result) → StopsOver (form.Project 0 label) old (body ∷ []) result
      projection_stops is result tells =
          projected_stops old new label body are field root demand projection_grows states projection_each env projection_entries after (projection_refused is) result tells

-- A conditional, by what its steps ensure.
module _ (old mid new : Live) (condition one other : TablePart) (are : AreWaiting old (condition ∷ one ∷ other ∷ [])) (boolean either root : StateId) (head : Head) (head_is : head ≡ bool_head)
    (first : Grows old mid ((boolean.0, negative head) ∷ []) []) (second : Grows mid new ((either.0, negative empty_head) ∷ (root.0, positive empty_head) ∷ []) ((either.0, root.0) ∷ []))
    (base more middle states : List ℕ) (both : (s : ℕ) → Contains base s ↔ (Contains condition.states s ⊎ Contains one.states s)) (all : (s : ℕ) → Contains more s ↔ (Contains base s ⊎ Contains other.states s))
    (middle_is : middle ≡ more ++ boolean.0 ∷ []) (states_are : states ≡ middle ++ either.0 ∷ root.0 ∷ [])
    (early env : List EnvEntry) (early_are : (entry : EnvEntry) → Contains early entry ↔ (Contains condition.env entry ⊎ Contains one.env entry)) (env_are : (entry : EnvEntry) → Contains env entry ↔ (Contains early entry ⊎ Contains other.env entry))
    (goals : List Goal) (goals_are : goals ≡ record { positive = condition.root; negative = boolean } ∷ record { positive = one.root; negative = either } ∷ record { positive = other.root; negative = either } ∷ []) where
  abbrev choice_came : List (ℕ × State)
  choice_came = (boolean.0, negative bool_head) ∷ (either.0, negative empty_head) ∷ (root.0, positive empty_head) ∷ []

  abbrev choice_edges : List (ℕ × ℕ)
  choice_edges = (either.0, root.0) ∷ []

  abbrev choice_goals : List Goal
  choice_goals = record { positive = condition.root; negative = boolean } ∷ record { positive = one.root; negative = either } ∷ record { positive = other.root; negative = either } ∷ []

  choice_grows : Grows old new choice_came choice_edges
  choice_grows = grows_then old mid new ((boolean.0, negative bool_head) ∷ []) ((either.0, negative empty_head) ∷ (root.0, positive empty_head) ∷ []) [] ((either.0, root.0) ∷ [])
      (subst (λ (h : Head). Grows old mid ((boolean.0, negative h) ∷ []) []) head_is first) second

  choice_each : AreStatesWith (condition ∷ one ∷ other ∷ []) (boolean.0 ∷ either.0 ∷ root.0 ∷ []) states
  choice_each = three_states condition one other base more (boolean.0 ∷ either.0 ∷ root.0 ∷ []) states both all (added_states more middle states (boolean.0 ∷ []) (either.0 ∷ root.0 ∷ []) middle_is states_are)

  choice_entries : AreEntries (condition ∷ one ∷ other ∷ []) env
  choice_entries = three_entries condition one other early env early_are env_are

  pub choice_live : All (IsLiveGoal new) goals
  choice_live =
      subst (λ (gs : List Goal). All (IsLiveGoal new) gs) (sym goals_are)
      (chosen_live old new condition one other are boolean either root choice_grows states choice_each env choice_entries)

  module _ (after : Live) (b : Bool) (solves : Solves new goals after b) where
    pub choice_made : b ≡ true → IsMade (form.If 0 0 0) old (condition ∷ one ∷ other ∷ []) after (record { states = states; env = env; root = root })
    choice_made is =
        chosen_made old new condition one other are boolean either root choice_grows states choice_each env choice_entries after
        (settled_true new goals choice_goals goals_are after b solves is)

    choice_refused : b ≡ false → IsRefused new choice_goals after
    choice_refused is = refused_false new goals choice_goals goals_are after b solves is

    pub choice_none : b ≡ false → OverAllSame after (λ a. OverAllSame after (λ b. OverAllSame after (λ c. HasNoTypes (choice_constraint (part_over a [] condition.root) (part_over b [] one.root) (part_over c [] other.root)))))
    choice_none is = chosen_none old new condition one other are boolean either root choice_grows states choice_each after (choice_refused is)

    pub choice_stops : b ≡ false → (result : NoSolution) → OverSame after (λ a. OverSame after (λ b. OverSame after (λ c. TellsFirstClash (choice_constraint (part_over a [] condition.root) (part_over b [] one.root) (part_over c [] other.root)) result)))
        → StopsOver (form.If 0 0 0) old (condition ∷ one ∷ other ∷ []) result
    choice_stops is result tells =
        chosen_stops old new condition one other are boolean either root choice_grows states choice_each env choice_entries after (choice_refused is) result tells
