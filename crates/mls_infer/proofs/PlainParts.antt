-- The forms without goals: the part of the node.
--     one_with, two_with      the states of one part and new ones, and of two parts
--     bound_made, number_made, truth_made, function_made, let_made
use Rattle.std.proofs.Common.{◌≡◌, ◌⊎◌, ◌↔◌, inl, inr, ℕ, false, List, [], ◌∷◌, ◌++◌, refl, sym, subst, Contains}
use Rattle.std.proofs.lemmas.List.Elements.{Contains-append_cases, Contains-append_left, Contains-append_right}
use Rattle.mls_automaton.specs.declared.automaton.Polarity.TheVariants.{Positive, Negative}
use Rattle.mls_automaton.specs.declared.automaton.Head.{Head}
use Rattle.mls_automaton.specs.declared.automaton.State.{State}
use Rattle.mls_automaton.specs.declared.state_set.StateId.{StateId}
use Rattle.mls_automaton.specs.declared.scheme.EnvEntry.{EnvEntry}
use Rattle.mls_automaton.specs.Automata.{empty_head}
use Rattle.mls_automaton.specs.Models.{HasStatesIn}
use Rattle.mls_automaton.specs.Reached.{HeadNames}
use Rattle.mls_automaton.proofs.Lists.{All-contained, All-one, Contains-cases, Contains-here}
use Rattle.mls_biunify.specs.Live.{IsLive, IsLiveState, Live}
use Rattle.mls_term.specs.declared.term.TermForm.{TermForm}
use Rattle.mls_term.specs.declared.term.TermForm.TheVariants as form
use Rattle.mls_infer.specs.Constraints.{Constraint, bool_head, bound_scheme, fun_constraint, function_head, int_head, let_constraint, literal_constraint, negative, no_goals, positive, states_of, without}
use Rattle.mls_infer.specs.Forms.{IsPosed}
use Rattle.mls_infer.specs.Merges.{HasSameMembers, HaveSameTypes}
use Rattle.mls_infer.specs.Pending.{AreWaiting, Grows, IsCopied, IsMade, Waits}
use Rattle.mls_infer.specs.Regions.{IsPart, TablePart, scheme_at}
use Rattle.mls_infer.specs.TableRows.{AreEntries, IsBoundAt, IsFunctionAt, IsLetAt, IsLiteralAt}
use Rattle.mls_infer.proofs.ConstraintRows.{nothing_in}
use Rattle.mls_infer.proofs.FixParts.{alone_waits, state_entry}
use Rattle.mls_infer.proofs.FormParts.{like_before, no_ends, own_ends, second_of}
use Rattle.mls_infer.proofs.Growths.{grows_none}
use Rattle.mls_infer.proofs.GrownParts.{HasOwnEnds, beside, edges_within, grown_changes, grown_waits, passage_at, true_flows}
use Rattle.mls_infer.proofs.MadeForms.{bound_same, fun_same, let_same, number_same, truth_same}
use Rattle.mls_infer.proofs.MadeParts.{are_posed, made_grown}
use Rattle.mls_infer.proofs.Regions.{empty_names}
use Rattle.mls_infer.proofs.TableParts.{AreStatesWith, bound_part, fun_part, let_part, literal_part}

-- without parts the states are the new ones
alone_states : (new states : List ℕ) → states ≡ new → AreStatesWith [] new states
alone_states new states same s = (
  λ here. inr (subst (λ (set : List ℕ). Contains set s) same here),
  λ it. elim it [ inl out ↦ absurd out | inr here ↦ subst (λ (set : List ℕ). Contains set s) (sym same) here ],
)

-- the states of a part, and new ones behind them
pub one_with : (part : TablePart) (came states : List ℕ) → states ≡ part.states ++ came → AreStatesWith (part ∷ []) came states
one_with part came states is s = (
  λ here. elim (Contains-append_cases part.states came s (subst (λ (set : List ℕ). Contains set s) is here)) [ inl old ↦ inl (inl old) | inr new ↦ inr new ],
  λ it. subst (λ (set : List ℕ). Contains set s) (sym is) (elim it [
    | inl old ↦ elim old [ inl one ↦ Contains-append_left part.states came s one | inr out ↦ absurd out ]
    | inr new ↦ Contains-append_right part.states came s new
  ]),
)

-- the states of two parts
pub two_with : (first second : TablePart) (states : List ℕ) → ((s : ℕ) → Contains states s ↔ (Contains first.states s ⊎ Contains second.states s)) → AreStatesWith (first ∷ second ∷ []) [] states
two_with first second states both s = (
  λ here. inl (elim ((both s).0 here) [ inl one ↦ inl one | inr two ↦ inr (inl two) ]),
  λ it. (both s).1 (elim it [
    | inl old ↦ elim old [ inl one ↦ inl one | inr later ↦ elim later [ inl two ↦ inr two | inr out ↦ absurd out ] ]
    | inr none ↦ absurd (nothing_in s none)
  ]),
)

-- A binder.
module _ (old new : Live) (x : ℕ) (low root : StateId) (grows : Grows old new ((low.0, negative empty_head) ∷ (root.0, positive empty_head) ∷ []) ((low.0, root.0) ∷ []))
    (states : List ℕ) (are : states ≡ low.0 ∷ root.0 ∷ []) (env : List EnvEntry) (is : env ≡ record { binder = x; state = low } ∷ []) where
  abbrev bound_came : List (ℕ × State)
  bound_came = (low.0, negative empty_head) ∷ (root.0, positive empty_head) ∷ []

  abbrev bound_edges : List (ℕ × ℕ)
  bound_edges = (low.0, root.0) ∷ []

  abbrev bound_made_part : TablePart
  bound_made_part = record { states = states; env = env; root = root }

  bound_ends : HasOwnEnds bound_came bound_edges
  bound_ends = own_ends bound_came low.0 root.0 (Contains-here low.0 (root.0 ∷ [])) (second_of low.0 root.0 [])

  bound_at : IsBoundAt new.table x low.0 root.0 env
  bound_at = record {
    flows = true_flows new grows.live_new;
    passage =
        passage_at old new bound_came bound_edges grows bound_ends low.0 root.0 refl
        (Contains-here (low.0, negative empty_head) ((root.0, positive empty_head) ∷ [])) (second_of (low.0, negative empty_head) (root.0, positive empty_head) []);
    entries = λ entry. (
      λ inside. elim (Contains-cases (record { binder = x; state = low }) [] entry (subst (λ (es : List EnvEntry). Contains es entry) is inside)) [
        | inl same ↦ sym same
        | inr none ↦ absurd (nothing_in entry none)
      ],
      λ same. subst (λ (es : List EnvEntry). Contains es entry) (sym is) (subst (λ (e : EnvEntry). Contains (record { binder = x; state = low } ∷ []) e) (sym same) (Contains-here (record { binder = x; state = low }) [])),
    );
  }

  bound_is : IsPart new.table states env root
  bound_is = bound_part new.table x low.0 root.0 env bound_at (edges_within old new bound_came bound_edges grows bound_ends) states (alone_states (low.0 ∷ root.0 ∷ []) states are)

  pub bound_made : IsCopied (bound_scheme x) old new bound_made_part
  bound_made = record {
    waits = grown_waits old new bound_came bound_edges grows bound_ends [] tt bound_made_part (alone_states (low.0 ∷ root.0 ∷ []) states are) bound_is;
    changes = grown_changes old new bound_came bound_edges grows bound_ends [] tt bound_made_part (alone_states (low.0 ∷ root.0 ∷ []) states are) bound_is;
    alike = bound_same new.table x low.0 root.0 env bound_at;
  }

-- A number or a truth value.
module _ (old new : Live) (h : Head) (root : StateId) (grows : Grows old new ((root.0, positive h) ∷ []) []) (no_names : (t : ℕ) → HeadNames h t → ⊥) (states : List ℕ) (are : states ≡ root.0 ∷ []) (env : List EnvEntry) (is : env ≡ []) where
  abbrev literal_came : List (ℕ × State)
  literal_came = (root.0, positive h) ∷ []

  abbrev literal_made_part : TablePart
  literal_made_part = record { states = states; env = env; root = root }

  literal_at : IsLiteralAt new.table root.0 h env
  literal_at = record {
    flows = true_flows new grows.live_new;
    result = grows.here root.0 (positive h) (Contains-here (root.0, positive h) []);
    entries = λ entry. (λ inside. absurd (nothing_in entry (subst (λ (es : List EnvEntry). Contains es entry) is inside)), λ out. absurd out);
  }

  literal_is : IsPart new.table states env root
  literal_is = literal_part new.table root.0 h env literal_at no_names (edges_within old new literal_came [] grows (no_ends literal_came)) states (alone_states (root.0 ∷ []) states are)

  literal_made : (node : TermForm) → IsPosed node [] (literal_constraint h) → HaveSameTypes (literal_constraint h) (no_goals (scheme_at new.table literal_made_part)) → IsMade node old [] new literal_made_part
  literal_made node posed same =
      made_grown node old [] new literal_made_part
      (grown_waits old new literal_came [] grows (no_ends literal_came) [] tt literal_made_part (alone_states (root.0 ∷ []) states are) literal_is)
      (grown_changes old new literal_came [] grows (no_ends literal_came) [] tt literal_made_part (alone_states (root.0 ∷ []) states are) literal_is)
      (literal_constraint h) (are_posed old grows.live_old [] tt node (literal_constraint h) posed) grows.live_new same

int_names : (t : ℕ) → HeadNames int_head t → ⊥
int_names t (inl it) = empty_names t (inl it)
int_names t (inr it) = empty_names t (inr it)

bool_names : (t : ℕ) → HeadNames bool_head t → ⊥
bool_names t (inl it) = empty_names t (inl it)
bool_names t (inr it) = empty_names t (inr it)

pub number_made : (old new : Live) (root : StateId) → Grows old new ((root.0, positive int_head) ∷ []) [] → (states : List ℕ) → states ≡ root.0 ∷ [] → (env : List EnvEntry) → env ≡ []
    → IsMade (form.Number 0) old [] new (record { states = states; env = env; root = root })
number_made old new root grows states are env is =
    literal_made old new int_head root grows int_names states are env is (form.Number 0) refl
    (number_same new.table root.0 env (literal_at old new int_head root grows int_names states are env is))

pub truth_made : (old new : Live) (root : StateId) → Grows old new ((root.0, positive bool_head) ∷ []) [] → (states : List ℕ) → states ≡ root.0 ∷ [] → (env : List EnvEntry) → env ≡ []
    → IsMade (form.Truth false) old [] new (record { states = states; env = env; root = root })
truth_made old new root grows states are env is =
    literal_made old new bool_head root grows bool_names states are env is (form.Truth false) refl
    (truth_same new.table root.0 env (literal_at old new bool_head root grows bool_names states are env is))

-- A function.
pub function_states : (live : Live) (x : ℕ) (body : TablePart) → Waits live body → (domain : List ℕ) → HasSameMembers domain (states_of x body.env) → HasStatesIn (IsLiveState live) Positive (function_head domain (body.root.0 ∷ []))
function_states live x body waits domain same = record {
  function = (
    All-contained (IsLiveState live Negative) domain (λ s inside.
        let it = state_entry x body.env s ((same s).0 inside) in
        subst (IsLiveState live Negative) it.2 (record { there = waits.there it.0.state.0 (waits.part.env_in it.0 it.1); polarity = waits.part.env_negative it.0 it.1 })),
    All-one (IsLiveState live Positive) body.root.0 (record { there = waits.there body.root.0 waits.part.root_in; polarity = waits.part.root_positive }),
  );
  fields = tt;
}

module _ (old new : Live) (x : ℕ) (body : TablePart) (waits : Waits old body) (domain : List ℕ) (same : HasSameMembers domain (states_of x body.env)) (root : StateId)
    (grows : Grows old new ((root.0, positive (function_head domain (body.root.0 ∷ []))) ∷ []) []) (states : List ℕ) (each : AreStatesWith (body ∷ []) (root.0 ∷ []) states) (env : List EnvEntry) (is : env ≡ without x body.env) where
  abbrev fun_came : List (ℕ × State)
  fun_came = (root.0, positive (function_head domain (body.root.0 ∷ []))) ∷ []

  abbrev fun_made_part : TablePart
  fun_made_part = record { states = states; env = env; root = root }

  fun_at : IsFunctionAt new.table body x root.0 domain env
  fun_at = record {
    beside = beside old new fun_came [] grows (no_ends fun_came) (body ∷ []) (alone_waits old body waits);
    result = grows.here root.0 (positive (function_head domain (body.root.0 ∷ []))) (Contains-here (root.0, positive (function_head domain (body.root.0 ∷ []))) []);
    binder = same;
    entries = λ entry. (λ inside. subst (λ (es : List EnvEntry). Contains es entry) is inside, λ inside. subst (λ (es : List EnvEntry). Contains es entry) (sym is) inside);
  }

  fun_is : IsPart new.table states env root
  fun_is = fun_part new.table body x root.0 domain env fun_at (edges_within old new fun_came [] grows (no_ends fun_came)) states each

  pub function_made : IsMade (form.Fun x 0) old (body ∷ []) new fun_made_part
  function_made =
      let c : Constraint = fun_constraint domain x (scheme_at old.table body) in
      made_grown (form.Fun x 0) old (body ∷ []) new fun_made_part
      (grown_waits old new fun_came [] grows (no_ends fun_came) (body ∷ []) (alone_waits old body waits) fun_made_part each fun_is)
      (grown_changes old new fun_came [] grows (no_ends fun_came) (body ∷ []) (alone_waits old body waits) fun_made_part each fun_is)
      c (are_posed old grows.live_old (body ∷ []) (alone_waits old body waits) (form.Fun x 0) c (domain, same, refl)) grows.live_new
      (fun_same new.table body x root.0 domain env fun_at (scheme_at old.table body) (like_before old new fun_came [] grows (no_ends fun_came) body waits) domain same)

-- A let.
module _ (live : Live) (is : IsLive live) (first second : TablePart) (are : AreWaiting live (first ∷ second ∷ [])) (states : List ℕ) (each : AreStatesWith (first ∷ second ∷ []) [] states) (env : List EnvEntry) (entries : AreEntries (first ∷ second ∷ []) env) where
  abbrev let_made_part : TablePart
  let_made_part = record { states = states; env = env; root = second.root }

  let_grows : Grows live live [] []
  let_grows = grows_none live is

  let_at : IsLetAt live.table first second env
  let_at = record { beside = beside live live [] [] let_grows (no_ends []) (first ∷ second ∷ []) are; entries = entries }

  let_is : IsPart live.table states env second.root
  let_is = let_part live.table first second env let_at states each

  pub let_made : IsMade (form.Let 0 0 0) live (first ∷ second ∷ []) live let_made_part
  let_made =
      let c : Constraint = let_constraint (scheme_at live.table first) (scheme_at live.table second) in
      made_grown (form.Let 0 0 0) live (first ∷ second ∷ []) live let_made_part
      (grown_waits live live [] [] let_grows (no_ends []) (first ∷ second ∷ []) are let_made_part each let_is)
      (grown_changes live live [] [] let_grows (no_ends []) (first ∷ second ∷ []) are let_made_part each let_is)
      c (are_posed live is (first ∷ second ∷ []) are (form.Let 0 0 0) c refl) is
      (let_same live.table first second env let_at (scheme_at live.table first) (scheme_at live.table second)
      (like_before live live [] [] let_grows (no_ends []) first are.0) (like_before live live [] [] let_grows (no_ends []) second are.2.0))
