-- A copy of a scheme is a part that waits.
--     copied_is           the part of a copy
--     copied_edges        an edge leads to its root only where one leads to that of the scheme
--     copied_rise         its binders rise where those of the scheme do
--     all_there           its states are there
--     entries_low         the entries of the scheme have numbers
use Rattle.std.proofs.Common.{◌≡◌, ◌⊎◌, ◌↔◌, inl, inr, ℕ, ◌<◌, true, false, List, [], map, length, get_or, sym, ap, ◌∙◌, subst, arith, Contains, All}
use Rattle.std.proofs.lemmas.List.{length-map}
use Rattle.std.proofs.lemmas.List.Elements.{Contains-get_or}
use Rattle.mls_automaton.specs.declared.state_set.StateId.{StateId}
use Rattle.mls_automaton.specs.declared.scheme.EnvEntry.{EnvEntry}
use Rattle.mls_automaton.specs.declared.scheme.Scheme.{Scheme}
use Rattle.mls_automaton.specs.Automata.{HasFlow, flow}
use Rattle.mls_automaton.specs.Environments.{BindersRise}
use Rattle.mls_automaton.proofs.Lists.{All-contained, Contains-map}
use Rattle.mls_biunify.specs.Live.{AddsStates, IsCopiedFlow, IsCopyAt, IsLive, IsThere, Live, number_of, numbers_in}
use Rattle.mls_biunify.proofs.TableSteps.{table-closed}
use Rattle.mls_infer.specs.Constraints.{HasStates, id, renamed_entry}
use Rattle.mls_infer.specs.Pending.{IsCopied}
use Rattle.mls_infer.specs.Regions.{TablePart}
use Rattle.mls_infer.proofs.FieldRows.{mapped_at}
use Rattle.mls_infer.proofs.PartChanges.{changes_from}
use Rattle.mls_infer.proofs.RegionSteps.{copied, copied_region, unlike}
use Rattle.mls_infer.proofs.TableSolutions.{copied_part, copied_types}

module _ (s : Scheme) (states : HasStates s) (old new : Live) (is_old : IsLive old) (is_new : IsLive new) (numbers : List ℕ) (copy : IsCopyAt s.automaton numbers new.table) (adds : AddsStates old new numbers)
    (flows : (n p : ℕ) → HasFlow new.table n p ↔ HasFlow old.table n p ⊎ IsCopiedFlow s.automaton numbers n p) where
  abbrev copy_of : TablePart
  copy_of = record { states = numbers; env = map (renamed_entry (number_of numbers)) s.env; root = id (number_of numbers s.root.0) }

  is_copied : IsCopied s old new copy_of
  is_copied = record {
    waits = record {
      there = λ j it. (adds.there j).1 (inr it);
      part =
          copied_part s.automaton new.table states.automaton numbers copy s.env s.root states
          (copied_region old new is_old is_new s.automaton states.automaton numbers copy adds flows);
    };
    changes =
        changes_from [] old new numbers (copied old new is_old is_new s.automaton states.automaton numbers copy adds flows)
        (λ j was. inr ((adds.there j).1 (inl was)))
        (λ j it. inr (λ was. unlike (get_or old.there j false) was (adds.were_free j it)));
    alike = copied_types s.automaton new.table states.automaton numbers copy s.env s.root states (table-closed new.table new.there is_new);
  }

  pub copied_is : (part : TablePart) → part.states ≡ numbers → part.env ≡ map (renamed_entry (number_of numbers)) s.env → part.root.0 ≡ number_of numbers s.root.0 → IsCopied s old new part
  copied_is part states_are env_is root_is =
      let same : copy_of ≡ part = λ i. record { states = sym states_are i; env = sym env_is i; root = id (sym root_is i) } in
      subst (IsCopied s old new) same is_copied

  -- an edge to the root of the copy is a copy of one to the root of the scheme
  pub copied_edges : (root n : ℕ) → root ≡ number_of numbers s.root.0 → HasFlow new.table n root → (i : ℕ) × HasFlow s.automaton i s.root.0
  copied_edges root n root_is edge = elim ((flows n root).0 edge) [
    | inl was ↦
        let there : get_or old.there root false ≡ true = (is_old.positive n root was).there in
        let C : ℕ → Type 0 = Contains numbers in
        let low : s.root.0 < length numbers = subst (λ k. s.root.0 < k) (sym copy.count) states.root.in_range in
        absurd (unlike (get_or old.there root false) there (adds.were_free root (subst C (sym root_is) (Contains-get_or numbers s.root.0 0 low))))
    | inr one ↦
        let H : ℕ → Type 0 = λ j. HasFlow s.automaton one.0 j in
        (one.0, subst H (copy.embedded.distinct one.1 s.root.0 (states.automaton.positive (flow one.0 one.1) one.2).in_range states.root.in_range (one.4 ∙ root_is)) one.2)
  ]

  pub all_there : (list : List StateId) → numbers_in list ≡ numbers → All (λ (j : StateId). IsThere new j.0) list
  all_there list same =
      All-contained (λ (j : StateId). IsThere new j.0) list
      (λ j it. (adds.there j.0).1 (inr (subst (λ (xs : List ℕ). Contains xs j.0) same (Contains-map (λ (j : StateId). j.0) list j it))))

pub entries_low : (s : Scheme) → HasStates s → (numbers : List ℕ) → length numbers ≡ length s.automaton.states → All (λ (entry : EnvEntry). entry.state.0 < length numbers) s.env
entries_low s states numbers count =
    All-contained (λ (entry : EnvEntry). entry.state.0 < length numbers) s.env
    (λ entry it. subst (λ n. entry.state.0 < n) (sym count) (states.env entry it).in_range)

-- binders rise under other numbers of their states
pub copied_rise : (place : ℕ → ℕ) (env : List EnvEntry) → BindersRise env → BindersRise (map (renamed_entry place) env)
copied_rise place env rise i j d less low =
    let size : length (map (renamed_entry place) env) ≡ length env = length-map env (renamed_entry place) in
    let high : j < length env = omega arith in
    let at : (k : ℕ) → k < length env → (get_or (map (renamed_entry place) env) k d).binder ≡ (get_or env k d).binder = λ k k_low. ap (λ (e : EnvEntry). e.binder) (mapped_at (renamed_entry place) env k d d k_low) in
    let first : (get_or (map (renamed_entry place) env) i d).binder ≡ (get_or env i d).binder = at i (omega arith) in
    let second : (get_or (map (renamed_entry place) env) j d).binder ≡ (get_or env j d).binder = at j high in
    let rises : (get_or env i d).binder < (get_or env j d).binder = rise i j d less high in
    omega arith
