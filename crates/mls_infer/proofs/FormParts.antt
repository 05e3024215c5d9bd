-- The forms with goals: the part of the node where these are solved, and why it stops where they clash.
--     like_before, alike_same      a part has its types before and after, and over a copy of the table
--     root_live                    its root is there
--     An application: applied_live, applied_made, applied_none, applied_stops
--     A projection: projected_live, projected_made, projected_none, projected_stops
--     A conditional: chosen_live, chosen_made, chosen_none, chosen_stops
use Rattle.std.proofs.Common.{◌≡◌, ◌⊎◌, ◌↔◌, inl, inr, ℕ, List, [], ◌∷◌, map, refl, ap, subst, All, Contains}
use Rattle.mls_automaton.specs.declared.automaton.Polarity.TheVariants.{Positive, Negative}
use Rattle.mls_automaton.specs.declared.automaton.State.{State}
use Rattle.mls_automaton.specs.declared.state_set.StateId.{StateId}
use Rattle.mls_automaton.specs.declared.scheme.EnvEntry.{EnvEntry}
use Rattle.mls_automaton.specs.declared.scheme.Scheme.{Scheme}
use Rattle.mls_automaton.specs.Automata.{Automaton, empty_head}
use Rattle.mls_automaton.proofs.Lists.{All-one, Contains-cases, Contains-here, Contains-later}
use Rattle.std.proofs.lemmas.List.Elements.{All-cons}
use Rattle.mls_solver.specs.declared.goal.Goal.{Goal}
use Rattle.mls_biunify.specs.Live.{IsLiveGoal, IsLiveState, IsThere, Live}
use Rattle.mls_term.specs.declared.term.TermForm.{TermForm}
use Rattle.mls_term.specs.declared.term.TermForm.TheVariants as form
use Rattle.mls_infer.specs.declared.fault.SiteKind.{SiteKind}
use Rattle.mls_infer.specs.declared.solve.NoSolution.{NoSolution}
use Rattle.mls_infer.specs.declared.solve.NoSolution.TheVariants as no_solution
use Rattle.mls_infer.specs.Constraints.{Constraint, HasStates, apply_constraint, bool_head, choice_constraint, function_head, negative, no_goals, positive, project_constraint, record_head}
use Rattle.mls_infer.specs.Joining.{field_of}
use Rattle.mls_infer.specs.Merges.{HaveSameTypes}
use Rattle.mls_infer.specs.Pending.{AreWaiting, Changes, Grows, HasClash, IsMade, IsRefused, IsSameTable, IsSettled, OverAllSame, OverSame, StopsOver, Waits, all_states, numbered}
use Rattle.mls_infer.specs.Regions.{AreSideBySide, IsPart, TablePart, part_over, scheme_at}
use Rattle.mls_infer.specs.Solved.{IsFirstKind, TellsFirstClash}
use Rattle.mls_infer.specs.Steps.{HasNoTypes}
use Rattle.mls_infer.specs.TableRows.{AreEntries, IsApplicationAt, IsChoiceAt, IsProjectionAt}
use Rattle.mls_infer.proofs.ConstraintRows.{nothing_in}
use Rattle.mls_infer.proofs.GrownParts.{HasOwnEnds, beside, edges_within, grown_changes, grown_waits, passage_at, same_types, stays_part, waiting_states}
use Rattle.mls_infer.proofs.MadeForms.{IsLike, apply_same, choice_same, project_same}
use Rattle.mls_infer.proofs.MadeParts.{are_posed, made_solved, refused_none}
use Rattle.mls_infer.proofs.Merges.{types_trans}
use Rattle.mls_infer.proofs.SameTables.{same_table_back, same_table_states, same_table_types}
use Rattle.mls_infer.proofs.TableRows.{three_in}
use Rattle.mls_infer.proofs.TableParts.{AreEdgesWithin, AreStatesWith, apply_part, choice_part, project_part}

-- the part without its binders
abbrev pub bare : TablePart → TablePart
bare part = record { states = part.states; env = []; root = part.root }

pub bare_waits : (live : Live) (part : TablePart) → Waits live part → Waits live (bare part)
bare_waits live part waits = record {
  there = waits.there;
  part = record {
    region = waits.part.region;
    root_in = waits.part.root_in;
    root_positive = waits.part.root_positive;
    env_in = λ entry inside. absurd (nothing_in entry inside);
    env_negative = λ entry inside. absurd (nothing_in entry inside);
  };
}

-- the one edge leads from a new state to a new one
pub own_ends : (states : List (ℕ × State)) (n p : ℕ) → Contains (map numbered states) n → Contains (map numbered states) p → HasOwnEnds states ((n, p) ∷ [])
own_ends states n p from to m q inside = elim (Contains-cases (n, p) [] (m, q) inside) [
  | inl same ↦ subst (λ (e : ℕ × ℕ). Contains (map numbered states) e.0 × Contains (map numbered states) e.1) same (from, to)
  | inr none ↦ absurd (nothing_in (m, q) none)
]

pub no_ends : (states : List (ℕ × State)) → HasOwnEnds states []
no_ends states m q inside = absurd (nothing_in (m, q) inside)

pub second_of : {X : Type 0} (x y : X) (rest : List X) → Contains (x ∷ y ∷ rest) y
second_of x y rest = Contains-later x (y ∷ rest) y (Contains-here y rest)

pub third_of : {X : Type 0} (x y z : X) (rest : List X) → Contains (x ∷ y ∷ z ∷ rest) z
third_of x y z rest = Contains-later x (y ∷ z ∷ rest) z (second_of y z rest)

pub three_of : {X : Type 0} (P : X → Type 0) (x y z : X) → P x → P y → P z → (u : X) → Contains (x ∷ y ∷ z ∷ []) u → P u
three_of P x y z first second third u inside = elim (Contains-cases x (y ∷ z ∷ []) u inside) [
  | inl same ↦ subst P same first
  | inr later ↦ elim (Contains-cases y (z ∷ []) u later) [
    | inl same ↦ subst P same second
    | inr last ↦ elim (Contains-cases z [] u last) [ inl same ↦ subst P same third | inr none ↦ absurd (nothing_in u none) ]
  ]
]

-- What stops a node: the kind of the first clash, where its constraint has no types.
pub stops_with : (node : TermForm) (live : Live) (parts : List TablePart) (result : NoSolution) → ((m : SiteKind) → result ≡ no_solution.Clash m → HasClash node live parts m) → StopsOver node live parts result
stops_with node live parts (no_solution.Clash m) clash = clash m refl
stops_with node live parts no_solution.Memory clash = tt

-- the first clash is that of the automaton and of the goals
pub tells_same : (c d : Constraint) → c.scheme.automaton ≡ d.scheme.automaton → c.goals ≡ d.goals → (result : NoSolution) → TellsFirstClash c result → TellsFirstClash d result
tells_same c d same goals (no_solution.Clash m) first =
    subst (λ (a : Automaton). IsFirstKind a (λ p n. Contains d.goals (p, n)) m) same
    (subst (λ (gs : List (ℕ × ℕ)). IsFirstKind c.scheme.automaton (λ p n. Contains gs (p, n)) m) goals first)
tells_same c d same goals no_solution.Memory first = tt

-- A part of the table before, and the same over an automaton with the states of the table after.
module _ (old new : Live) (states : List (ℕ × State)) (edges : List (ℕ × ℕ)) (grows : Grows old new states edges) (ends : HasOwnEnds states edges) (part : TablePart) (waits : Waits old part) where
  pub like_before : IsLike new.table part (scheme_at old.table part)
  like_before = record { states = waiting_states old grows.live_old part waits; types = same_types old new states edges grows ends part waits }

  pub there_still : (s : ℕ) → Contains part.states s → IsThere new s
  there_still s here = (grows.there s).1 (inl (waits.there s here))

  pub root_live : IsLiveState new Positive part.root.0
  root_live = record { there = there_still part.root.0 waits.part.root_in; polarity = (stays_part old new states edges grows ends part waits).root_positive }

  env_live : (entry : EnvEntry) → Contains part.env entry → IsLiveState new Negative entry.state.0
  env_live entry inside = record {
    there = there_still entry.state.0 (waits.part.env_in entry inside);
    polarity = (stays_part old new states edges grows ends part waits).env_negative entry inside;
  }

  pub like_same : (a : Automaton) → IsSameTable new a → IsLike new.table part (part_over a part.env part.root)
  like_same a same = record {
    states = same_table_states new a same part.env part.root root_live env_live;
    types = λ types f. let it = same_table_types new a same part.env part.root types f in (it.1, it.0);
  }

  pub alike_same : (a : Automaton) → IsSameTable new a → HasStates (part_over a part.env part.root) × HaveSameTypes (no_goals (scheme_at old.table part)) (no_goals (part_over a part.env part.root))
  alike_same a same = (
    (like_same a same).states,
    types_trans (no_goals (scheme_at old.table part)) (no_goals (scheme_at new.table part)) (no_goals (part_over a part.env part.root))
        (same_types old new states edges grows ends part waits) (same_table_types new a same part.env part.root),
  )

-- An application.
module _ (old new : Live) (function argument : TablePart) (are : AreWaiting old (function ∷ argument ∷ [])) (codomain root demand : StateId)
    (grows : Grows old new ((codomain.0, negative empty_head) ∷ (root.0, positive empty_head) ∷ (demand.0, negative (function_head (argument.root.0 ∷ []) (codomain.0 ∷ []))) ∷ []) ((codomain.0, root.0) ∷ []))
    (states : List ℕ) (each : AreStatesWith (function ∷ argument ∷ []) (codomain.0 ∷ root.0 ∷ demand.0 ∷ []) states) (env : List EnvEntry) (entries : AreEntries (function ∷ argument ∷ []) env) where
  abbrev pub applied_came : List (ℕ × State)
  applied_came = (codomain.0, negative empty_head) ∷ (root.0, positive empty_head) ∷ (demand.0, negative (function_head (argument.root.0 ∷ []) (codomain.0 ∷ []))) ∷ []

  abbrev applied_edges : List (ℕ × ℕ)
  applied_edges = (codomain.0, root.0) ∷ []

  abbrev applied_numbers : List ℕ
  applied_numbers = codomain.0 ∷ root.0 ∷ demand.0 ∷ []

  abbrev applied_parts : List TablePart
  applied_parts = function ∷ argument ∷ []

  abbrev applied_part : TablePart
  applied_part = record { states = states; env = env; root = root }

  abbrev applied_goals : List Goal
  applied_goals = record { positive = function.root; negative = demand } ∷ []

  applied_ends : HasOwnEnds applied_came applied_edges
  applied_ends = own_ends applied_came codomain.0 root.0 (Contains-here codomain.0 (root.0 ∷ demand.0 ∷ [])) (second_of codomain.0 root.0 (demand.0 ∷ []))

  applied_at : IsApplicationAt new.table function argument codomain.0 root.0 demand.0 env
  applied_at = record {
    beside = beside old new applied_came applied_edges grows applied_ends applied_parts are;
    passage =
        passage_at old new applied_came applied_edges grows applied_ends codomain.0 root.0 refl
        (Contains-here (codomain.0, negative empty_head) ((root.0, positive empty_head) ∷ (demand.0, negative (function_head (argument.root.0 ∷ []) (codomain.0 ∷ []))) ∷ []))
        (second_of (codomain.0, negative empty_head) (root.0, positive empty_head) ((demand.0, negative (function_head (argument.root.0 ∷ []) (codomain.0 ∷ []))) ∷ []));
    demand =
        grows.here demand.0 (negative (function_head (argument.root.0 ∷ []) (codomain.0 ∷ [])))
        (third_of (codomain.0, negative empty_head) (root.0, positive empty_head) (demand.0, negative (function_head (argument.root.0 ∷ []) (codomain.0 ∷ []))) []);
    entries = entries;
  }

  applied_is : IsPart new.table states env root
  applied_is =
      apply_part new.table function argument codomain.0 root.0 demand.0 env applied_at
      (edges_within old new applied_came applied_edges grows applied_ends) states each

  applied_waits : Waits new applied_part
  applied_waits = grown_waits old new applied_came applied_edges grows applied_ends applied_parts are applied_part each applied_is

  applied_changes : Changes (all_states applied_parts) old new states
  applied_changes = grown_changes old new applied_came applied_edges grows applied_ends applied_parts are applied_part each applied_is

  pub applied_live : All (IsLiveGoal new) applied_goals
  applied_live = All-one (IsLiveGoal new) (record { positive = function.root; negative = demand }) (
    root_live old new applied_came applied_edges grows applied_ends function are.0,
    record {
      there = (grows.there demand.0).1 (inr (third_of codomain.0 root.0 demand.0 []));
      polarity = ap (λ (x : State). x.polarity) applied_at.demand;
    },
  )

  applied_between : (g : Goal) → Contains applied_goals g → Contains states g.positive.0 × Contains states g.negative.0
  applied_between g inside = elim (Contains-cases (record { positive = function.root; negative = demand }) [] g inside) [
    | inl same ↦ subst (λ (g : Goal). Contains states g.positive.0 × Contains states g.negative.0) same (
      (each function.root.0).1 (inl (inl are.0.part.root_in)),
      (each demand.0).1 (inr (third_of codomain.0 root.0 demand.0 [])),
    )
    | inr none ↦ absurd (nothing_in g none)
  ]

  pub applied_made : (after : Live) → IsSettled new applied_goals after → IsMade (form.Apply 0 0) old applied_parts after applied_part
  applied_made after it =
      let c : Constraint = apply_constraint (scheme_at old.table function) (scheme_at old.table argument) in
      made_solved (form.Apply 0 0) old applied_parts new applied_part applied_waits applied_changes c
      (are_posed old grows.live_old applied_parts are (form.Apply 0 0) c (inl refl))
      applied_goals after it applied_between
      (apply_same new.table function argument codomain.0 root.0 demand.0 env applied_at (scheme_at old.table function) (scheme_at old.table argument)
      (like_before old new applied_came applied_edges grows applied_ends function are.0)
      (like_before old new applied_came applied_edges grows applied_ends argument are.2.0))

  -- no schemes with the types of the two have types together
  applied_clash : (after : Live) → IsRefused new applied_goals after → (s t : Scheme) → IsLike new.table function s → IsLike new.table argument t → HasNoTypes (apply_constraint s t)
  applied_clash after it s t first second types f h =
      refused_none new after applied_goals env root (waiting_states new grows.live_new applied_part applied_waits) applied_live it types f
      ((apply_same new.table function argument codomain.0 root.0 demand.0 env applied_at s t first second types f).0 h)

  pub applied_clashing : (after : Live) → IsRefused new applied_goals after
      → OverAllSame after (λ a. OverAllSame after (λ b. HasNoTypes (apply_constraint (part_over a function.env function.root) (part_over b argument.env argument.root))))
  applied_clashing after it a same_a b same_b =
      applied_clash after it (part_over a function.env function.root) (part_over b argument.env argument.root)
      (like_same old new applied_came applied_edges grows applied_ends function are.0 a (same_table_back new after it.same it.numbers a same_a))
      (like_same old new applied_came applied_edges grows applied_ends argument are.2.0 b (same_table_back new after it.same it.numbers b same_b))

  pub applied_stops : (after : Live) → IsRefused new applied_goals after → (result : NoSolution)
      → OverSame after (λ a. OverSame after (λ b. TellsFirstClash (apply_constraint (part_over a [] function.root) (part_over b [] argument.root)) result)) → StopsOver (form.Apply 0 0) old applied_parts result
  applied_stops after it result tells =
      let a : Automaton = tells.0 in
      let same_a : IsSameTable after a = tells.1 in
      let b : Automaton = tells.2.0 in
      let same_b : IsSameTable after b = tells.2.1 in
      let first : TellsFirstClash (apply_constraint (part_over a [] function.root) (part_over b [] argument.root)) result = tells.2.2 in
      let s : Scheme = part_over a function.env function.root in
      let t : Scheme = part_over b argument.env argument.root in
      stops_with (form.Apply 0 0) old applied_parts result
      (λ m is. record {
        constraint = apply_constraint s t;
        posed = record {
          taken = s ∷ t ∷ [];
          alike = (
            alike_same old new applied_came applied_edges grows applied_ends function are.0 a (same_table_back new after it.same it.numbers a same_a),
            (alike_same old new applied_came applied_edges grows applied_ends argument are.2.0 b (same_table_back new after it.same it.numbers b same_b), tt),
          );
          is = inl refl;
        };
        none = applied_clashing after it a same_a b same_b;
        first = subst (λ (r : NoSolution). TellsFirstClash (apply_constraint s t) r) is (tells_same (apply_constraint (part_over a [] function.root) (part_over b [] argument.root)) (apply_constraint s t) refl refl result first);
      })

pub bare_entries : (entry : EnvEntry) → Contains [] entry ↔ (Contains [] entry ⊎ (Contains [] entry ⊎ ⊥))
bare_entries entry = (λ none. inl none, λ either. elim either [ inl none ↦ none | inr later ↦ elim later [ inl none ↦ none | inr out ↦ absurd out ] ])

pub applied_none : (old new : Live) (function argument : TablePart) → AreWaiting old (function ∷ argument ∷ []) → (codomain root demand : StateId)
    → Grows old new ((codomain.0, negative empty_head) ∷ (root.0, positive empty_head) ∷ (demand.0, negative (function_head (argument.root.0 ∷ []) (codomain.0 ∷ []))) ∷ []) ((codomain.0, root.0) ∷ [])
    → (states : List ℕ) → AreStatesWith (function ∷ argument ∷ []) (codomain.0 ∷ root.0 ∷ demand.0 ∷ []) states → (after : Live) → IsRefused new (record { positive = function.root; negative = demand } ∷ []) after
    → OverAllSame after (λ a. OverAllSame after (λ b. HasNoTypes (apply_constraint (part_over a [] function.root) (part_over b [] argument.root))))
applied_none old new function argument are codomain root demand grows states each after it =
    applied_clashing old new (bare function) (bare argument) (bare_waits old function are.0, are.1, (bare_waits old argument are.2.0, are.2.1, tt)) codomain root demand grows states each [] bare_entries after it

-- A projection.
module _ (old new : Live) (label : List ℕ) (body : TablePart) (are : AreWaiting old (body ∷ [])) (field root demand : StateId)
    (grows : Grows old new ((field.0, negative empty_head) ∷ (root.0, positive empty_head) ∷ (demand.0, negative (record_head (field_of label field.0 ∷ []))) ∷ []) ((field.0, root.0) ∷ []))
    (states : List ℕ) (each : AreStatesWith (body ∷ []) (field.0 ∷ root.0 ∷ demand.0 ∷ []) states) (env : List EnvEntry) (entries : AreEntries (body ∷ []) env) where
  abbrev projected_came : List (ℕ × State)
  projected_came = (field.0, negative empty_head) ∷ (root.0, positive empty_head) ∷ (demand.0, negative (record_head (field_of label field.0 ∷ []))) ∷ []

  abbrev projected_edges : List (ℕ × ℕ)
  projected_edges = (field.0, root.0) ∷ []

  abbrev projected_parts : List TablePart
  projected_parts = body ∷ []

  abbrev projected_part : TablePart
  projected_part = record { states = states; env = env; root = root }

  abbrev projected_goals : List Goal
  projected_goals = record { positive = body.root; negative = demand } ∷ []

  projected_ends : HasOwnEnds projected_came projected_edges
  projected_ends = own_ends projected_came field.0 root.0 (Contains-here field.0 (root.0 ∷ demand.0 ∷ [])) (second_of field.0 root.0 (demand.0 ∷ []))

  projected_at : IsProjectionAt new.table body label field.0 root.0 demand.0 env
  projected_at = record {
    beside = beside old new projected_came projected_edges grows projected_ends projected_parts are;
    passage =
        passage_at old new projected_came projected_edges grows projected_ends field.0 root.0 refl
        (Contains-here (field.0, negative empty_head) ((root.0, positive empty_head) ∷ (demand.0, negative (record_head (field_of label field.0 ∷ []))) ∷ []))
        (second_of (field.0, negative empty_head) (root.0, positive empty_head) ((demand.0, negative (record_head (field_of label field.0 ∷ []))) ∷ []));
    demand =
        grows.here demand.0 (negative (record_head (field_of label field.0 ∷ [])))
        (third_of (field.0, negative empty_head) (root.0, positive empty_head) (demand.0, negative (record_head (field_of label field.0 ∷ []))) []);
    entries = entries;
  }

  projected_is : IsPart new.table states env root
  projected_is =
      project_part new.table body label field.0 root.0 demand.0 env projected_at
      (edges_within old new projected_came projected_edges grows projected_ends) states each

  projected_waits : Waits new projected_part
  projected_waits = grown_waits old new projected_came projected_edges grows projected_ends projected_parts are projected_part each projected_is

  projected_changes : Changes (all_states projected_parts) old new states
  projected_changes = grown_changes old new projected_came projected_edges grows projected_ends projected_parts are projected_part each projected_is

  pub projected_live : All (IsLiveGoal new) projected_goals
  projected_live = All-one (IsLiveGoal new) (record { positive = body.root; negative = demand }) (
    root_live old new projected_came projected_edges grows projected_ends body are.0,
    record {
      there = (grows.there demand.0).1 (inr (third_of field.0 root.0 demand.0 []));
      polarity = ap (λ (x : State). x.polarity) projected_at.demand;
    },
  )

  projected_between : (g : Goal) → Contains projected_goals g → Contains states g.positive.0 × Contains states g.negative.0
  projected_between g inside = elim (Contains-cases (record { positive = body.root; negative = demand }) [] g inside) [
    | inl same ↦ subst (λ (g : Goal). Contains states g.positive.0 × Contains states g.negative.0) same (
      (each body.root.0).1 (inl (inl are.0.part.root_in)),
      (each demand.0).1 (inr (third_of field.0 root.0 demand.0 [])),
    )
    | inr none ↦ absurd (nothing_in g none)
  ]

  pub projected_made : (after : Live) → IsSettled new projected_goals after → IsMade (form.Project 0 label) old projected_parts after projected_part
  projected_made after it =
      let c : Constraint = project_constraint label (scheme_at old.table body) in
      made_solved (form.Project 0 label) old projected_parts new projected_part projected_waits projected_changes c
      (are_posed old grows.live_old projected_parts are (form.Project 0 label) c refl)
      projected_goals after it projected_between
      (project_same new.table body label field.0 root.0 demand.0 env projected_at (scheme_at old.table body)
      (like_before old new projected_came projected_edges grows projected_ends body are.0))

  pub projected_clashing : (after : Live) → IsRefused new projected_goals after → OverAllSame after (λ a. HasNoTypes (project_constraint label (part_over a body.env body.root)))
  projected_clashing after it a same types f h =
      let s : Scheme = part_over a body.env body.root in
      refused_none new after projected_goals env root (waiting_states new grows.live_new projected_part projected_waits) projected_live it types f
      ((project_same new.table body label field.0 root.0 demand.0 env projected_at s
      (like_same old new projected_came projected_edges grows projected_ends body are.0 a (same_table_back new after it.same it.numbers a same)) types f).0 h)

  pub projected_stops : (after : Live) → IsRefused new projected_goals after → (result : NoSolution)
      → OverSame after (λ a. TellsFirstClash (project_constraint label (part_over a [] body.root)) result) → StopsOver (form.Project 0 label) old projected_parts result
  projected_stops after it result tells =
      let a : Automaton = tells.0 in
      let same : IsSameTable after a = tells.1 in
      let s : Scheme = part_over a body.env body.root in
      stops_with (form.Project 0 label) old projected_parts result
      (λ m is. record {
        constraint = project_constraint label s;
        posed = record {
          taken = s ∷ [];
          alike = (alike_same old new projected_came projected_edges grows projected_ends body are.0 a (same_table_back new after it.same it.numbers a same), tt);
          is = refl;
        };
        none = projected_clashing after it a same;
        first = subst (λ (r : NoSolution). TellsFirstClash (project_constraint label s) r) is (tells_same (project_constraint label (part_over a [] body.root)) (project_constraint label s) refl refl result tells.2);
      })

pub projected_none : (old new : Live) (label : List ℕ) (body : TablePart) → AreWaiting old (body ∷ []) → (field root demand : StateId)
    → Grows old new ((field.0, negative empty_head) ∷ (root.0, positive empty_head) ∷ (demand.0, negative (record_head (field_of label field.0 ∷ []))) ∷ []) ((field.0, root.0) ∷ [])
    → (states : List ℕ) → AreStatesWith (body ∷ []) (field.0 ∷ root.0 ∷ demand.0 ∷ []) states → (after : Live) → IsRefused new (record { positive = body.root; negative = demand } ∷ []) after
    → OverAllSame after (λ a. HasNoTypes (project_constraint label (part_over a [] body.root)))
projected_none old new label body are field root demand grows states each after it =
    projected_clashing old new label (bare body) (bare_waits old body are.0, are.1, tt) field root demand grows states each []
    (λ entry. (λ none. inl none, λ either. elim either [ inl none ↦ none | inr out ↦ absurd out ])) after it

-- A conditional.
module _ (old new : Live) (condition first second : TablePart) (are : AreWaiting old (condition ∷ first ∷ second ∷ [])) (boolean either root : StateId)
    (grows : Grows old new ((boolean.0, negative bool_head) ∷ (either.0, negative empty_head) ∷ (root.0, positive empty_head) ∷ []) ((either.0, root.0) ∷ []))
    (states : List ℕ) (each : AreStatesWith (condition ∷ first ∷ second ∷ []) (boolean.0 ∷ either.0 ∷ root.0 ∷ []) states) (env : List EnvEntry) (entries : AreEntries (condition ∷ first ∷ second ∷ []) env) where
  abbrev chosen_came : List (ℕ × State)
  chosen_came = (boolean.0, negative bool_head) ∷ (either.0, negative empty_head) ∷ (root.0, positive empty_head) ∷ []

  abbrev chosen_edges : List (ℕ × ℕ)
  chosen_edges = (either.0, root.0) ∷ []

  abbrev chosen_numbers : List ℕ
  chosen_numbers = boolean.0 ∷ either.0 ∷ root.0 ∷ []

  abbrev chosen_parts : List TablePart
  chosen_parts = condition ∷ first ∷ second ∷ []

  abbrev chosen_part : TablePart
  chosen_part = record { states = states; env = env; root = root }

  abbrev chosen_goals : List Goal
  chosen_goals = record { positive = condition.root; negative = boolean } ∷ record { positive = first.root; negative = either } ∷ record { positive = second.root; negative = either } ∷ []

  chosen_ends : HasOwnEnds chosen_came chosen_edges
  chosen_ends = own_ends chosen_came either.0 root.0 (second_of boolean.0 either.0 (root.0 ∷ [])) (third_of boolean.0 either.0 root.0 [])

  -- the new states in the order of the rows
  turned_beside : AreSideBySide new.table chosen_parts (either.0 ∷ root.0 ∷ boolean.0 ∷ [])
  turned_beside =
      let it : AreSideBySide new.table chosen_parts chosen_numbers = beside old new chosen_came chosen_edges grows chosen_ends chosen_parts are in
      record { flows = it.flows; are = it.are; outside = λ s here. it.outside s (turned_back s here) }
    where
      turned_back : (s : ℕ) → Contains (either.0 ∷ root.0 ∷ boolean.0 ∷ []) s → Contains chosen_numbers s
      turned_back s here = three_in (Contains chosen_numbers) either.0 root.0 boolean.0 (second_of boolean.0 either.0 (root.0 ∷ [])) (third_of boolean.0 either.0 root.0 []) (Contains-here boolean.0 (either.0 ∷ root.0 ∷ [])) s here

  chosen_at : IsChoiceAt new.table condition first second either.0 root.0 boolean.0 env
  chosen_at = record {
    beside = turned_beside;
    passage =
        passage_at old new chosen_came chosen_edges grows chosen_ends either.0 root.0 refl
        (second_of (boolean.0, negative bool_head) (either.0, negative empty_head) ((root.0, positive empty_head) ∷ []))
        (third_of (boolean.0, negative bool_head) (either.0, negative empty_head) (root.0, positive empty_head) []);
    demand = grows.here boolean.0 (negative bool_head) (Contains-here (boolean.0, negative bool_head) ((either.0, negative empty_head) ∷ (root.0, positive empty_head) ∷ []));
    entries = entries;
  }

  same_numbers : (s : ℕ) → Contains chosen_numbers s ↔ Contains (either.0 ∷ root.0 ∷ boolean.0 ∷ []) s
  same_numbers s = (
    λ here. three_in (Contains (either.0 ∷ root.0 ∷ boolean.0 ∷ [])) boolean.0 either.0 root.0 (third_of either.0 root.0 boolean.0 []) (Contains-here either.0 (root.0 ∷ boolean.0 ∷ [])) (second_of either.0 root.0 (boolean.0 ∷ [])) s here,
    λ here. three_in (Contains chosen_numbers) either.0 root.0 boolean.0 (second_of boolean.0 either.0 (root.0 ∷ [])) (third_of boolean.0 either.0 root.0 []) (Contains-here boolean.0 (either.0 ∷ root.0 ∷ [])) s here,
  )

  turned_edges : AreEdgesWithin new.table (either.0 ∷ root.0 ∷ boolean.0 ∷ [])
  turned_edges n p edge =
      let it = edges_within old new chosen_came chosen_edges grows chosen_ends n p edge in (
        λ here. (same_numbers p).0 (it.0 ((same_numbers n).1 here)),
        λ here. (same_numbers n).0 (it.1 ((same_numbers p).1 here)),
      )

  turned_each : AreStatesWith chosen_parts (either.0 ∷ root.0 ∷ boolean.0 ∷ []) states
  turned_each s = (
    λ here. elim ((each s).0 here) [ inl old ↦ inl old | inr new ↦ inr ((same_numbers s).0 new) ],
    λ it. (each s).1 (elim it [ inl old ↦ inl old | inr new ↦ inr ((same_numbers s).1 new) ]),
  )

  chosen_is : IsPart new.table states env root
  chosen_is = choice_part new.table condition first second either.0 root.0 boolean.0 env chosen_at turned_edges states turned_each

  chosen_waits : Waits new chosen_part
  chosen_waits = grown_waits old new chosen_came chosen_edges grows chosen_ends chosen_parts are chosen_part each chosen_is

  chosen_changes : Changes (all_states chosen_parts) old new states
  chosen_changes = grown_changes old new chosen_came chosen_edges grows chosen_ends chosen_parts are chosen_part each chosen_is

  either_live : IsLiveState new Negative either.0
  either_live = record { there = (grows.there either.0).1 (inr (second_of boolean.0 either.0 (root.0 ∷ []))); polarity = ap (λ (x : State). x.polarity) chosen_at.passage.from }

  pub chosen_live : All (IsLiveGoal new) chosen_goals
  chosen_live =
      All-cons (IsLiveGoal new) (record { positive = condition.root; negative = boolean }) (record { positive = first.root; negative = either } ∷ record { positive = second.root; negative = either } ∷ []) (
        root_live old new chosen_came chosen_edges grows chosen_ends condition are.0,
        record {
          there = (grows.there boolean.0).1 (inr (Contains-here boolean.0 (either.0 ∷ root.0 ∷ [])));
          polarity = ap (λ (x : State). x.polarity) chosen_at.demand;
        },
      )
      (All-cons (IsLiveGoal new) (record { positive = first.root; negative = either }) (record { positive = second.root; negative = either } ∷ [])
      (root_live old new chosen_came chosen_edges grows chosen_ends first are.2.0, either_live)
      (All-one (IsLiveGoal new) (record { positive = second.root; negative = either }) (root_live old new chosen_came chosen_edges grows chosen_ends second are.2.2.0, either_live)))

  chosen_between : (g : Goal) → Contains chosen_goals g → Contains states g.positive.0 × Contains states g.negative.0
  chosen_between g inside =
      three_of (λ (g : Goal). Contains states g.positive.0 × Contains states g.negative.0) (record { positive = condition.root; negative = boolean }) (record { positive = first.root; negative = either }) (record { positive = second.root; negative = either })
      ((each condition.root.0).1 (inl (inl are.0.part.root_in)), (each boolean.0).1 (inr (Contains-here boolean.0 (either.0 ∷ root.0 ∷ []))))
      ((each first.root.0).1 (inl (inr (inl are.2.0.part.root_in))), (each either.0).1 (inr (second_of boolean.0 either.0 (root.0 ∷ []))))
      ((each second.root.0).1 (inl (inr (inr (inl are.2.2.0.part.root_in)))), (each either.0).1 (inr (second_of boolean.0 either.0 (root.0 ∷ []))))
      g inside

  pub chosen_made : (after : Live) → IsSettled new chosen_goals after → IsMade (form.If 0 0 0) old chosen_parts after chosen_part
  chosen_made after it =
      let c : Constraint = choice_constraint (scheme_at old.table condition) (scheme_at old.table first) (scheme_at old.table second) in
      made_solved (form.If 0 0 0) old chosen_parts new chosen_part chosen_waits chosen_changes c
      (are_posed old grows.live_old chosen_parts are (form.If 0 0 0) c refl)
      chosen_goals after it chosen_between
      (choice_same new.table condition first second either.0 root.0 boolean.0 env chosen_at (scheme_at old.table condition) (scheme_at old.table first) (scheme_at old.table second)
      (like_before old new chosen_came chosen_edges grows chosen_ends condition are.0)
      (like_before old new chosen_came chosen_edges grows chosen_ends first are.2.0)
      (like_before old new chosen_came chosen_edges grows chosen_ends second are.2.2.0))

  pub chosen_clashing : (after : Live) → IsRefused new chosen_goals after
      → OverAllSame after (λ a. OverAllSame after (λ b. OverAllSame after (λ c. HasNoTypes (choice_constraint (part_over a condition.env condition.root) (part_over b first.env first.root) (part_over c second.env second.root)))))
  chosen_clashing after it a same_a b same_b c same_c types f h =
      refused_none new after chosen_goals env root (waiting_states new grows.live_new chosen_part chosen_waits) chosen_live it types f
      ((choice_same new.table condition first second either.0 root.0 boolean.0 env chosen_at (part_over a condition.env condition.root) (part_over b first.env first.root) (part_over c second.env second.root)
      (like_same old new chosen_came chosen_edges grows chosen_ends condition are.0 a (same_table_back new after it.same it.numbers a same_a))
      (like_same old new chosen_came chosen_edges grows chosen_ends first are.2.0 b (same_table_back new after it.same it.numbers b same_b))
      (like_same old new chosen_came chosen_edges grows chosen_ends second are.2.2.0 c (same_table_back new after it.same it.numbers c same_c)) types f).0 h)

  pub chosen_stops : (after : Live) → IsRefused new chosen_goals after → (result : NoSolution)
      → OverSame after (λ a. OverSame after (λ b. OverSame after (λ c. TellsFirstClash (choice_constraint (part_over a [] condition.root) (part_over b [] first.root) (part_over c [] second.root)) result)))
      → StopsOver (form.If 0 0 0) old chosen_parts result
  chosen_stops after it result tells =
      let a : Automaton = tells.0 in
      let b : Automaton = tells.2.0 in
      let c : Automaton = tells.2.2.0 in
      let r : Scheme = part_over a condition.env condition.root in
      let s : Scheme = part_over b first.env first.root in
      let t : Scheme = part_over c second.env second.root in
      stops_with (form.If 0 0 0) old chosen_parts result
      (λ m is. record {
        constraint = choice_constraint r s t;
        posed = record {
          taken = r ∷ s ∷ t ∷ [];
          alike = (
            alike_same old new chosen_came chosen_edges grows chosen_ends condition are.0 a (same_table_back new after it.same it.numbers a tells.1),
            (
              alike_same old new chosen_came chosen_edges grows chosen_ends first are.2.0 b (same_table_back new after it.same it.numbers b tells.2.1),
              (alike_same old new chosen_came chosen_edges grows chosen_ends second are.2.2.0 c (same_table_back new after it.same it.numbers c tells.2.2.1), tt),
            ),
          );
          is = refl;
        };
        none = chosen_clashing after it a tells.1 b tells.2.1 c tells.2.2.1;
        first =
            subst (λ (r' : NoSolution). TellsFirstClash (choice_constraint r s t) r') is
            (tells_same (choice_constraint (part_over a [] condition.root) (part_over b [] first.root) (part_over c [] second.root)) (choice_constraint r s t) refl refl result tells.2.2.2);
      })

pub chosen_none : (old new : Live) (condition first second : TablePart) → AreWaiting old (condition ∷ first ∷ second ∷ []) → (boolean either root : StateId)
    → Grows old new ((boolean.0, negative bool_head) ∷ (either.0, negative empty_head) ∷ (root.0, positive empty_head) ∷ []) ((either.0, root.0) ∷ [])
    → (states : List ℕ) → AreStatesWith (condition ∷ first ∷ second ∷ []) (boolean.0 ∷ either.0 ∷ root.0 ∷ []) states
    → (after : Live) → IsRefused new (record { positive = condition.root; negative = boolean } ∷ record { positive = first.root; negative = either } ∷ record { positive = second.root; negative = either } ∷ []) after
    → OverAllSame after (λ a. OverAllSame after (λ b. OverAllSame after (λ c. HasNoTypes (choice_constraint (part_over a [] condition.root) (part_over b [] first.root) (part_over c [] second.root)))))
chosen_none old new condition first second are boolean either root grows states each after it =
    chosen_clashing old new (bare condition) (bare first) (bare second)
    (bare_waits old condition are.0, are.1, (bare_waits old first are.2.0, are.2.1, (bare_waits old second are.2.2.0, are.2.2.1, tt)))
    boolean either root grows states each [] (λ entry. (λ none. inl none, λ it. elim it [ inl none ↦ none | inr later ↦ (bare_entries entry).1 later ])) after it
