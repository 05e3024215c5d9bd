-- The states of one binder give way to one.
--     entries_of           the entries of a binder
--     of_binder, parted    are its own, and with those of the others they are all
--     few_one              a binder with one entry at most has one state at most
--     one_left             and so has one whose entries gave way to one
--     is_together          the part with one entry in their place
use Rattle.std.proofs.Common.{◌≡◌, inl, inr, ℕ, ◌≤◌, Bool, true, false, List, [], ◌∷◌, ◌++◌, length, refl, sym, ap, ◌∙◌, subst, arith, Contains, All}
use Rattle.std.specs.Prelude.{cond, filter, not}
use Rattle.std.specs.Ordering.{nat_cmp, eq_by_cmp}
use Rattle.std.specs.Cmp.{unsigned_tied}
use Rattle.std.proofs.lemmas.Bool.{eqb-true}
use Rattle.std.proofs.lemmas.List.{length-map}
use Rattle.std.proofs.lemmas.List.Elements.{All-weaker, Contains-append_left, Contains-append_right, Contains-append_cases, filter-append, filter_passes}
use Rattle.mls_automaton.specs.declared.scheme.EnvEntry.{EnvEntry}
use Rattle.mls_automaton.proofs.Lists.{All-contained, Contains-filter, Contains-filtered}
use Rattle.mls_automaton.specs.declared.automaton.Polarity.TheVariants.{Negative}
use Rattle.mls_biunify.specs.Live.{IsLiveState, Live}
use Rattle.mls_infer.specs.Constraints.{states_of, without}
use Rattle.mls_infer.specs.Merges.{HasSameMembers}
use Rattle.mls_infer.specs.Pending.{IsMeeting, IsRemade, Waits}
use Rattle.mls_infer.specs.Regions.{TablePart}
use Rattle.mls_infer.proofs.SameParts.{remade_members, same_members, turned_members, waits_members, with_lists}

-- whether an entry is of this binder
abbrev is_of : ℕ → EnvEntry → Bool
is_of x entry = eq_by_cmp nat_cmp entry.binder x

-- the entries of a binder
abbrev pub entries_of : ℕ → List EnvEntry → List EnvEntry
entries_of x env = filter (λ (entry : EnvEntry). eq_by_cmp nat_cmp entry.binder x) env

pub of_binder : (x : ℕ) (env : List EnvEntry) → All (λ (entry : EnvEntry). entry.binder ≡ x) (entries_of x env)
of_binder x env =
    All-weaker (λ (entry : EnvEntry). is_of x entry ≡ true) (λ (entry : EnvEntry). entry.binder ≡ x)
    (λ entry is. eqb-true entry.binder x (sym (unsigned_tied entry.binder x) ∙ is))
    (entries_of x env) (filter_passes (is_of x) env)

-- those of a part that waits are negative states of the table
pub states_of_binder : (live : Live) (x : ℕ) (part : TablePart) → Waits live part → All (λ (entry : EnvEntry). IsLiveState live Negative entry.state.0) (entries_of x part.env)
states_of_binder live x part waits =
    All-contained (λ (entry : EnvEntry). IsLiveState live Negative entry.state.0) (entries_of x part.env) (λ entry it.
    let inside : Contains part.env entry = Contains-filtered (is_of x) part.env entry it in
    record { there = waits.there entry.state.0 (waits.part.env_in entry inside); polarity = waits.part.env_negative entry inside })

pub few_one : (x : ℕ) (env : List EnvEntry) → length (entries_of x env) ≤ 1 → length (states_of x env) ≤ 1
few_one x env few =
    let same : length (states_of x env) ≡ length (entries_of x env) = length-map (entries_of x env) (λ (entry : EnvEntry). entry.state.0) in
    omega arith

-- the entries of a binder and those of the others are all
parted : (x : ℕ) (env : List EnvEntry) → HasSameMembers env (entries_of x env ++ without x env)
parted x env entry = (λ it. to (is_of x entry) refl it, from)
  where
    to : (b : Bool) → is_of x entry ≡ b → Contains env entry → Contains (entries_of x env ++ without x env) entry
    to true is it = Contains-append_left (entries_of x env) (without x env) entry (Contains-filter (is_of x) env entry it is)
    to false is it =
        Contains-append_right (entries_of x env) (without x env) entry
        (Contains-filter (λ (entry : EnvEntry). not (is_of x entry)) env entry it (ap not is))

    from : Contains (entries_of x env ++ without x env) entry → Contains env entry
    from it = elim (Contains-append_cases (entries_of x env) (without x env) entry it) [
      | inl of ↦ Contains-filtered (is_of x) env entry of
      | inr other ↦ Contains-filtered (λ (entry : EnvEntry). not (is_of x entry)) env entry other
    ]

-- none of the others is of the binder
none_left : (x : ℕ) (env : List EnvEntry) → entries_of x (without x env) ≡ []
none_left x [] = refl
none_left x (e ∷ rest) = go (is_of x e) refl (none_left x rest)
  where
    go : (b : Bool) → is_of x e ≡ b → entries_of x (without x rest) ≡ [] → entries_of x (cond (not b) (e ∷ without x rest) (without x rest)) ≡ []
    go true is later = later
    go false is later = (λ i. cond (is i) (e ∷ entries_of x (without x rest)) (entries_of x (without x rest))) ∙ later

one_at_most : (x : ℕ) (entry : EnvEntry) → length (entries_of x (entry ∷ [])) ≤ 1
one_at_most x entry = go (is_of x entry)
  where
    go : (b : Bool) → length (cond b (entry ∷ []) []) ≤ 1
    go true = omega arith
    go false = omega arith

one_left : (x : ℕ) (env : List EnvEntry) (entry : EnvEntry) → length (states_of x (without x env ++ entry ∷ [])) ≤ 1
one_left x env entry =
    let parts : entries_of x (without x env ++ entry ∷ []) ≡ entries_of x (without x env) ++ entries_of x (entry ∷ []) =
    filter-append (is_of x) (without x env) (entry ∷ []) in
    let one : entries_of x (without x env ++ entry ∷ []) ≡ entries_of x (entry ∷ []) =
    parts ∙ ap (λ (xs : List EnvEntry). xs ++ entries_of x (entry ∷ [])) (none_left x env) in
    few_one x (without x env ++ entry ∷ []) (subst (λ (xs : List EnvEntry). length xs ≤ 1) (sym one) (one_at_most x entry))

-- one entry in place of those of the binder
module _ (old new : Live) (x : ℕ) (part : TablePart) (more : List ℕ) (entry : EnvEntry) (waits : Waits old part) where
  together : IsMeeting old part.states (entries_of x part.env) new more entry → IsRemade old part new (with_lists more (without x part.env ++ entry ∷ []) part.root)
  together meeting =
      let all : List EnvEntry = entries_of x part.env ++ without x part.env in
      let split : HasSameMembers part.env all = parted x part.env in
      let back : HasSameMembers all part.env = λ e. let it = split e in (it.1, it.0) in
      remade_members old new part.states part.states all part.env part.root more more (entry ∷ without x part.env) (without x part.env ++ entry ∷ []) part.root
      (same_members part.states) back (same_members more) (turned_members (entry ∷ []) (without x part.env))
      (meeting.remade (without x part.env) part.root (waits_members part.states part.states (same_members part.states) part.env all split part.root old waits))

  -- the same of lists that are these
  pub is_together : (xs others env : List EnvEntry) → xs ≡ entries_of x part.env → others ≡ without x part.env → env ≡ others ++ entry ∷ [] → IsMeeting old part.states xs new more entry
      → IsRemade old part new (with_lists more env part.root) × (length (states_of x env) ≤ 1)
  is_together xs others env xs_are others_are env_is meeting =
      let it : IsMeeting old part.states (entries_of x part.env) new more entry =
      subst (λ (ys : List EnvEntry). IsMeeting old part.states ys new more entry) xs_are meeting in
      let back : without x part.env ++ entry ∷ [] ≡ env = sym (env_is ∙ ap (λ (ys : List EnvEntry). ys ++ entry ∷ []) others_are) in
      subst (λ (ys : List EnvEntry). IsRemade old part new (with_lists more ys part.root) × (length (states_of x ys) ≤ 1)) back
      (together it, one_left x part.env entry)
