-- The parts of a form and its new states together are a part again.
--     literal_part, bound_part, bound_field_part, bound_call_part, fun_part, fix_part
--     apply_part, project_part, choice_part, let_part, make_part
use Rattle.std.proofs.Common.{◌≡◌, ◌⊎◌, ◌↔◌, inl, inr, ℕ, List, [], ◌∷◌, refl, sym, ap, subst, Contains}
use Rattle.std.specs.Prelude.{filter, not}
use Rattle.std.specs.Ordering.{nat_cmp, eq_by_cmp}
use Rattle.std.proofs.lemmas.List.Elements.{All-contains}
use Rattle.mls_automaton.specs.declared.automaton.Polarity.TheVariants.{Positive, Negative}
use Rattle.mls_automaton.specs.declared.automaton.FieldSet.{FieldSet}
use Rattle.mls_automaton.specs.declared.automaton.Head.{Head}
use Rattle.mls_automaton.specs.declared.automaton.State.{State}
use Rattle.mls_automaton.specs.declared.state_set.StateId.{StateId}
use Rattle.mls_automaton.specs.declared.scheme.EnvEntry.{EnvEntry}
use Rattle.mls_automaton.specs.Automata.{Automaton, HasFlow, empty_head, polarity_at, state_at}
use Rattle.mls_automaton.specs.Reached.{HeadNames, Names}
use Rattle.mls_automaton.proofs.Lists.{Contains-cases, Contains-filtered, Contains-here, Contains-later}
use Rattle.mls_term.specs.Terms.{TermFields}
use Rattle.mls_infer.specs.Constraints.{bool_head, function_head, id, negative, positive, record_head, states_of, without}
use Rattle.mls_infer.specs.Regions.{AreParts, InEnvs, InParts, IsPart, TablePart, part_roots}
use Rattle.mls_infer.specs.TableRows.{IsApplicationAt, IsBoundAt, IsBoundCallAt, IsBoundFieldAt, IsChoiceAt, IsFunctionAt, IsLetAt, IsLiteralAt, IsProjectionAt, IsRecordAt, IsRecursionAt}
use Rattle.mls_infer.proofs.ConstraintRows.{nothing_in}
use Rattle.mls_infer.proofs.Grown.{Contains-mapped}
use Rattle.mls_infer.proofs.Regions.{empty_names, function_names, parts_env, record_names, region_grown}
use Rattle.mls_infer.proofs.TableRows.{one_in, two_in, three_in}

-- these states are those of the parts and the new ones
abbrev pub AreStatesWith : List TablePart → List ℕ → List ℕ → Type 0
AreStatesWith parts new states = (s : ℕ) → Contains states s ↔ InParts parts s ⊎ Contains new s

-- no edge leads from a new state to an old one or back
abbrev pub AreEdgesWithin : Automaton → List ℕ → Type 0
AreEdgesWithin a new = (n p : ℕ) → HasFlow a n p → Contains new n ↔ Contains new p

-- the head of this state names only these
abbrev NamesWithin : Automaton → List TablePart → List ℕ → ℕ → Type 0
NamesWithin a parts new s = (t : ℕ) → Names a s t → InParts parts t ⊎ Contains new t

names_are : (a : Automaton) (s : ℕ) (x : State) → state_at a s ≡ x → (t : ℕ) → Names a s t → HeadNames x.head t
names_are a s x e t = subst (λ (x : State). HeadNames x.head t) e

names_none : (a : Automaton) (parts : List TablePart) (new : List ℕ) (s : ℕ) (x : State) → state_at a s ≡ x → x.head ≡ empty_head → NamesWithin a parts new s
names_none a parts new s x e no_head t it = absurd (empty_names t (subst (λ (h : Head). HeadNames h t) no_head (names_are a s x e t it)))

entries_negative : (a : Automaton) (parts : List TablePart) → AreParts a parts → (entry : EnvEntry) → InEnvs parts entry → polarity_at a entry.state.0 ≡ Negative
entries_negative a [] are entry inside = absurd inside
entries_negative a (part ∷ rest) are entry (inl inside) = are.0.env_negative entry inside
entries_negative a (part ∷ rest) are entry (inr inside) = entries_negative a rest are.2 entry inside

roots_in : (a : Automaton) (parts : List TablePart) → AreParts a parts → (r : ℕ) → Contains (part_roots parts) r → InParts parts r
roots_in a [] are r inside = absurd (nothing_in r inside)
roots_in a (part ∷ rest) are r inside = elim (Contains-cases part.root.0 (part_roots rest) r inside) [
  | inl same ↦ inl (subst (Contains part.states) same are.0.root_in)
  | inr later ↦ inr (roots_in a rest are.2 r later)
]

-- A state of a binder is a state of its part, and so are the entries of the others.
states_in : (a : Automaton) (part : TablePart) → IsPart a part.states part.env part.root → (x m : ℕ) → Contains (states_of x part.env) m → Contains part.states m
states_in a part is x m inside =
    let it = Contains-mapped (λ (entry : EnvEntry). entry.state.0) (filter (λ (entry : EnvEntry). eq_by_cmp nat_cmp entry.binder x) part.env) m inside in
    let here : Contains part.env it.0 = Contains-filtered (λ (entry : EnvEntry). eq_by_cmp nat_cmp entry.binder x) part.env it.0 it.1 in
    subst (Contains part.states) it.2 (is.env_in it.0 here)

others_in : (x : ℕ) (env : List EnvEntry) (entry : EnvEntry) → Contains (without x env) entry → Contains env entry
others_in x env entry inside = Contains-filtered (λ (entry : EnvEntry). not (eq_by_cmp nat_cmp entry.binder x)) env entry inside

third_in : (n p d : ℕ) → Contains (n ∷ p ∷ d ∷ []) d
third_in n p d = Contains-later n (p ∷ d ∷ []) d (Contains-later p (d ∷ []) d (Contains-here d []))

-- the parts with the new states are a part, with some of the entries and this root
part_grown : (a : Automaton) (parts : List TablePart) (new : List ℕ) → AreParts a parts → (states : List ℕ) → AreStatesWith parts new states → AreEdgesWithin a new → ((s : ℕ) → Contains new s → NamesWithin a parts new s)
    → (env : List EnvEntry) → ((entry : EnvEntry) → Contains env entry → InEnvs parts entry) → (root : StateId) → InParts parts root.0 ⊎ Contains new root.0 → polarity_at a root.0 ≡ Positive → IsPart a states env root
part_grown a parts new are states each edges names env entries root root_in root_positive = record {
  region = region_grown a parts new are states each (λ s t here. names s here t) edges;
  root_in = (each root.0).1 root_in;
  root_positive = root_positive;
  env_in = λ entry inside. (each entry.state.0).1 (inl (parts_env a parts are entry (entries entry inside)));
  env_negative = λ entry inside. entries_negative a parts are entry (entries entry inside);
}

pub literal_part : (a : Automaton) (r : ℕ) (h : Head) (env : List EnvEntry) → IsLiteralAt a r h env → ((t : ℕ) → HeadNames h t → ⊥) → AreEdgesWithin a (r ∷ []) → (states : List ℕ) → AreStatesWith [] (r ∷ []) states → IsPart a states env (id r)
literal_part a r h env is no_names edges states each =
    part_grown a [] (r ∷ []) tt states each edges
    (one_in (NamesWithin a [] (r ∷ [])) r (λ t it. absurd (no_names t (names_are a r (positive h) is.result t it))))
    env (λ entry. (is.entries entry).0) (id r) (inr (Contains-here r [])) (ap (λ (x : State). x.polarity) is.result)

pub bound_part : (a : Automaton) (x n p : ℕ) (env : List EnvEntry) → IsBoundAt a x n p env → AreEdgesWithin a (n ∷ p ∷ []) → (states : List ℕ) → AreStatesWith [] (n ∷ p ∷ []) states → IsPart a states env (id p)
bound_part a x n p env is edges states each = record {
  region =
      region_grown a [] (n ∷ p ∷ []) tt states each
      (λ s t here it. two_in (NamesWithin a [] (n ∷ p ∷ [])) n p (names_none a [] (n ∷ p ∷ []) n (negative empty_head) is.passage.from refl) (names_none a [] (n ∷ p ∷ []) p (positive empty_head) is.passage.to refl) s here t it)
      edges;
  root_in = (each p).1 (inr (Contains-later n (p ∷ []) p (Contains-here p [])));
  root_positive = ap (λ (x : State). x.polarity) is.passage.to;
  env_in = λ entry inside. subst (λ (e : EnvEntry). Contains states e.state.0) (sym ((is.entries entry).0 inside)) ((each n).1 (inr (Contains-here n (p ∷ []))));
  env_negative = λ entry inside. subst (λ (e : EnvEntry). polarity_at a e.state.0 ≡ Negative) (sym ((is.entries entry).0 inside)) (ap (λ (x : State). x.polarity) is.passage.from);
}

pub bound_field_part : (a : Automaton) (x : ℕ) (label : List ℕ) (n p d : ℕ) (env : List EnvEntry) → IsBoundFieldAt a x label n p d env → AreEdgesWithin a (n ∷ p ∷ d ∷ [])
    → (states : List ℕ) → AreStatesWith [] (n ∷ p ∷ d ∷ []) states → IsPart a states env (id p)
bound_field_part a x label n p d env is edges states each =
    let new : List ℕ = n ∷ p ∷ d ∷ [] in
    let fields : List FieldSet = record { label = label; set = n ∷ [] } ∷ [] in
    record {
      region =
          region_grown a [] new tt states each
          (λ s t here. three_in (NamesWithin a [] new) n p d
          (names_none a [] new n (negative empty_head) is.passage.from refl)
          (names_none a [] new p (positive empty_head) is.passage.to refl)
          (λ t it.
          let found = record_names fields t (names_are a d (negative (record_head fields)) is.demand t it) in
          elim (Contains-cases (record { label = label; set = n ∷ [] }) [] found.0 found.1) [
            | inl same ↦ inr (one_in (Contains new) n (Contains-here n (p ∷ d ∷ [])) t (subst (λ (field : FieldSet). Contains field.set t) (sym same) found.2))
            | inr none ↦ absurd (nothing_in found.0 none)
          ])
          s here t)
          edges;
      root_in = (each p).1 (inr (Contains-later n (p ∷ d ∷ []) p (Contains-here p (d ∷ []))));
      root_positive = ap (λ (x : State). x.polarity) is.passage.to;
      env_in = λ entry inside. subst (λ (e : EnvEntry). Contains states e.state.0) (sym ((is.entries entry).0 inside)) ((each d).1 (inr (third_in n p d)));
      env_negative = λ entry inside. subst (λ (e : EnvEntry). polarity_at a e.state.0 ≡ Negative) (sym ((is.entries entry).0 inside)) (ap (λ (x : State). x.polarity) is.demand);
    }

pub bound_call_part : (a : Automaton) (argument : TablePart) (x n p d : ℕ) (env : List EnvEntry) → IsBoundCallAt a argument x n p d env → AreEdgesWithin a (n ∷ p ∷ d ∷ [])
    → (states : List ℕ) → AreStatesWith (argument ∷ []) (n ∷ p ∷ d ∷ []) states → IsPart a states env (id p)
bound_call_part a argument x n p d env is edges states each =
    let parts : List TablePart = argument ∷ [] in
    let new : List ℕ = n ∷ p ∷ d ∷ [] in
    record {
      region =
          region_grown a parts new is.beside.are states each
          (λ s t here. three_in (NamesWithin a parts new) n p d
          (names_none a parts new n (negative empty_head) is.passage.from refl)
          (names_none a parts new p (positive empty_head) is.passage.to refl)
          (λ t it. elim (function_names (argument.root.0 ∷ []) (n ∷ []) t (names_are a d (negative (function_head (argument.root.0 ∷ []) (n ∷ []))) is.demand t it)) [
            | inl inside ↦ inl (inl (one_in (Contains argument.states) argument.root.0 is.beside.are.0.root_in t inside))
            | inr inside ↦ inr (one_in (Contains new) n (Contains-here n (p ∷ d ∷ [])) t inside)
          ])
          s here t)
          edges;
      root_in = (each p).1 (inr (Contains-later n (p ∷ d ∷ []) p (Contains-here p (d ∷ []))));
      root_positive = ap (λ (x : State). x.polarity) is.passage.to;
      env_in = λ entry inside. elim ((is.entries entry).0 inside) [
        | inl same ↦ subst (λ (e : EnvEntry). Contains states e.state.0) (sym same) ((each d).1 (inr (third_in n p d)))
        | inr own ↦ (each entry.state.0).1 (inl (parts_env a parts is.beside.are entry own))
      ];
      env_negative = λ entry inside. elim ((is.entries entry).0 inside) [
        | inl same ↦ subst (λ (e : EnvEntry). polarity_at a e.state.0 ≡ Negative) (sym same) (ap (λ (x : State). x.polarity) is.demand)
        | inr own ↦ entries_negative a parts is.beside.are entry own
      ];
    }

pub fun_part : (a : Automaton) (body : TablePart) (x r : ℕ) (domain : List ℕ) (env : List EnvEntry) → IsFunctionAt a body x r domain env → AreEdgesWithin a (r ∷ []) → (states : List ℕ) → AreStatesWith (body ∷ []) (r ∷ []) states → IsPart a states env (id r)
fun_part a body x r domain env is edges states each =
    part_grown a (body ∷ []) (r ∷ []) is.beside.are states each edges
    (one_in (NamesWithin a (body ∷ []) (r ∷ [])) r
    (λ t it. elim (function_names domain (body.root.0 ∷ []) t (names_are a r (positive (function_head domain (body.root.0 ∷ []))) is.result t it)) [
      | inl inside ↦ inl (inl (states_in a body is.beside.are.0 x t ((is.binder t).0 inside)))
      | inr inside ↦ inl (inl (one_in (Contains body.states) body.root.0 is.beside.are.0.root_in t inside))
    ]))
    env (λ entry inside. inl (others_in x body.env entry ((is.entries entry).0 inside))) (id r) (inr (Contains-here r [])) (ap (λ (x : State). x.polarity) is.result)

pub fix_part : (a : Automaton) (body : TablePart) (x : ℕ) (goals : List (ℕ × ℕ)) (env : List EnvEntry) → IsPart a body.states body.env body.root → IsRecursionAt body x goals env → IsPart a body.states env body.root
fix_part a body x goals env part is = record {
  region = part.region;
  root_in = part.root_in;
  root_positive = part.root_positive;
  env_in = λ entry inside. part.env_in entry (others_in x body.env entry ((is.entries entry).0 inside));
  env_negative = λ entry inside. part.env_negative entry (others_in x body.env entry ((is.entries entry).0 inside));
}

pub apply_part : (a : Automaton) (function argument : TablePart) (n p d : ℕ) (env : List EnvEntry) → IsApplicationAt a function argument n p d env → AreEdgesWithin a (n ∷ p ∷ d ∷ [])
    → (states : List ℕ) → AreStatesWith (function ∷ argument ∷ []) (n ∷ p ∷ d ∷ []) states → IsPart a states env (id p)
apply_part a function argument n p d env is edges states each =
    let parts : List TablePart = function ∷ argument ∷ [] in
    let new : List ℕ = n ∷ p ∷ d ∷ [] in
    part_grown a parts new is.beside.are states each edges
    (three_in (NamesWithin a parts new) n p d
    (names_none a parts new n (negative empty_head) is.passage.from refl)
    (names_none a parts new p (positive empty_head) is.passage.to refl)
    (λ t it. elim (function_names (argument.root.0 ∷ []) (n ∷ []) t (names_are a d (negative (function_head (argument.root.0 ∷ []) (n ∷ []))) is.demand t it)) [
      | inl inside ↦ inl (inr (inl (one_in (Contains argument.states) argument.root.0 is.beside.are.2.0.root_in t inside)))
      | inr inside ↦ inr (one_in (Contains new) n (Contains-here n (p ∷ d ∷ [])) t inside)
    ]))
    env (λ entry. (is.entries entry).0) (id p) (inr (Contains-later n (p ∷ d ∷ []) p (Contains-here p (d ∷ [])))) (ap (λ (x : State). x.polarity) is.passage.to)

pub project_part : (a : Automaton) (body : TablePart) (label : List ℕ) (n p d : ℕ) (env : List EnvEntry) → IsProjectionAt a body label n p d env → AreEdgesWithin a (n ∷ p ∷ d ∷ [])
    → (states : List ℕ) → AreStatesWith (body ∷ []) (n ∷ p ∷ d ∷ []) states → IsPart a states env (id p)
project_part a body label n p d env is edges states each =
    let parts : List TablePart = body ∷ [] in
    let new : List ℕ = n ∷ p ∷ d ∷ [] in
    let fields : List FieldSet = record { label = label; set = n ∷ [] } ∷ [] in
    part_grown a parts new is.beside.are states each edges
    (three_in (NamesWithin a parts new) n p d
    (names_none a parts new n (negative empty_head) is.passage.from refl)
    (names_none a parts new p (positive empty_head) is.passage.to refl)
    (λ t it.
    let found = record_names fields t (names_are a d (negative (record_head fields)) is.demand t it) in
    elim (Contains-cases (record { label = label; set = n ∷ [] }) [] found.0 found.1) [
      | inl same ↦ inr (one_in (Contains new) n (Contains-here n (p ∷ d ∷ [])) t (subst (λ (field : FieldSet). Contains field.set t) (sym same) found.2))
      | inr none ↦ absurd (nothing_in found.0 none)
    ]))
    env (λ entry. (is.entries entry).0) (id p) (inr (Contains-later n (p ∷ d ∷ []) p (Contains-here p (d ∷ [])))) (ap (λ (x : State). x.polarity) is.passage.to)

bool_names : (t : ℕ) → HeadNames bool_head t → ⊥
bool_names t (inl it) = empty_names t (inl it)
bool_names t (inr it) = empty_names t (inr it)

pub choice_part : (a : Automaton) (condition first second : TablePart) (n p d : ℕ) (env : List EnvEntry) → IsChoiceAt a condition first second n p d env → AreEdgesWithin a (n ∷ p ∷ d ∷ [])
    → (states : List ℕ) → AreStatesWith (condition ∷ first ∷ second ∷ []) (n ∷ p ∷ d ∷ []) states → IsPart a states env (id p)
choice_part a condition first second n p d env is edges states each =
    let parts : List TablePart = condition ∷ first ∷ second ∷ [] in
    let new : List ℕ = n ∷ p ∷ d ∷ [] in
    part_grown a parts new is.beside.are states each edges
    (three_in (NamesWithin a parts new) n p d
    (names_none a parts new n (negative empty_head) is.passage.from refl)
    (names_none a parts new p (positive empty_head) is.passage.to refl)
    (λ t it. absurd (bool_names t (names_are a d (negative bool_head) is.demand t it))))
    env (λ entry. (is.entries entry).0) (id p) (inr (Contains-later n (p ∷ d ∷ []) p (Contains-here p (d ∷ [])))) (ap (λ (x : State). x.polarity) is.passage.to)

pub let_part : (a : Automaton) (first second : TablePart) (env : List EnvEntry) → IsLetAt a first second env → (states : List ℕ) → AreStatesWith (first ∷ second ∷ []) [] states → IsPart a states env second.root
let_part a first second env is states each =
    part_grown a (first ∷ second ∷ []) [] is.beside.are states each
    (λ n p edge. (λ inside. absurd (nothing_in n inside), λ inside. absurd (nothing_in p inside)))
    (λ s inside. absurd (nothing_in s inside))
    env (λ entry. (is.entries entry).0) second.root (inl (inr (inl is.beside.are.2.0.root_in))) is.beside.are.2.0.root_positive

pub make_part : (a : Automaton) (fields_of : TermFields) (parts : List TablePart) (r : ℕ) (fields : List FieldSet) (env : List EnvEntry) → IsRecordAt a fields_of parts r fields env → AreEdgesWithin a (r ∷ [])
    → (states : List ℕ) → AreStatesWith parts (r ∷ []) states → IsPart a states env (id r)
make_part a fields_of parts r fields env is edges states each =
    part_grown a parts (r ∷ []) is.beside.are states each edges
    (one_in (NamesWithin a parts (r ∷ [])) r
    (λ t it.
    let found = record_names fields t (names_are a r (positive (record_head fields)) is.result t it) in
    let single = All-contains (λ (field : FieldSet). (root : ℕ) × Contains (part_roots parts) root × (field.set ≡ root ∷ [])) fields found.0 is.fields_are.single found.1 in
    inl (one_in (InParts parts) single.0 (roots_in a parts is.beside.are single.0 single.1) t (subst (λ (set : List ℕ). Contains set t) single.2 found.2))))
    env (λ entry. (is.entries entry).0) (id r) (inr (Contains-here r [])) (ap (λ (x : State). x.polarity) is.result)
