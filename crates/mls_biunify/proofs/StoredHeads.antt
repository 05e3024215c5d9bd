-- Heads that are stored one after another.
use Rattle.std.proofs.Common.{◌≡◌, inl, inr, ℕ, ◌+◌, ◌<◌, ◌∙◌, Bool, true, false, List, [], ◌∷◌, ◌++◌, Contains, get_or, length, length-append, append_assoc, append-nil, refl, sym, ap, subst, arith}
use Rattle.std.proofs.lemmas.Bool.{cases_eq}
use Rattle.std.proofs.lemmas.List.Elements.{Contains-append_left, Contains-push}
use Rattle.mls_automaton.specs.declared.automaton.Head.{Head}
use Rattle.mls_automaton.specs.declared.automaton.State.{State}
use Rattle.mls_automaton.specs.Automata.{polarity_at, state_at}
use Rattle.mls_automaton.specs.Models.{HasRisingLabels, HasStatesIn}
use Rattle.mls_automaton.proofs.Lists.{Contains-here, Contains-later, Contains-cases}
use Rattle.mls_automaton.proofs.Passing.{states_more}
use Rattle.mls_biunify.specs.Live.{IsStateIn}
use Rattle.mls_biunify.specs.steps.Settlement.{AreFit, StoresHeads}
use Rattle.mls_biunify.specs.steps.Tables.{Numbered, SetsHead}

-- the heads behind those that are left are stored
pub record AreStoring (old : Numbered) (heads left : List (ℕ × Head)) (now : Numbered) : Type 0 where
  pub done : List (ℕ × Head)
  pub split : heads ≡ left ++ done
  pub stored : StoresHeads old now done

pub stored-polarity : (old now : Numbered) (heads : List (ℕ × Head)) → StoresHeads old now heads → (s : ℕ) → polarity_at now.automaton s ≡ polarity_at old.automaton s
stored-polarity old now heads it s =
    elim (it.stored s) [
      | inl here ↦ ap (λ (state : State). state.polarity) here.2
      | inr same ↦ ap (λ (state : State). state.polarity) same.1
    ]

pub storing-none : (t : Numbered) (heads : List (ℕ × Head)) → AreStoring t heads heads t
storing-none t heads = record {
  done = [];
  split = sym (append-nil heads);
  stored = record {
    there = refl;
    flows = refl;
    size = refl;
    limit = refl;
    stored = λ s. inr (λ h none. let low : none.0 < 0 = none.1 in omega arith, refl);
  };
}

pub storing-done : (old : Numbered) (heads left : List (ℕ × Head)) (now : Numbered) → left ≡ [] → AreStoring old heads left now → StoresHeads old now heads
storing-done old heads left now none it =
    let all : heads ≡ it.done = it.split ∙ ap (λ (xs : List (ℕ × Head)). xs ++ it.done) none in
    subst (StoresHeads old now) (sym all) it.stored

pub popped-less : (old rest : List (ℕ × Head)) (x : ℕ × Head) → old ≡ rest ++ x ∷ [] → length rest < length old
popped-less old rest x e =
    let size : length old ≡ length rest + 1 = ap length e ∙ length-append rest (x ∷ []) in
    omega arith

module _ (old : Numbered) (heads left rest : List (ℕ × Head)) (now : Numbered) (s : ℕ) (h : Head) where
  pub fit-now : AreFit old heads → AreStoring old heads left now → left ≡ rest ++ (s, h) ∷ [] → (get_or now.there s false ≡ true) × HasStatesIn (IsStateIn now.automaton now.there) (polarity_at now.automaton s) h × HasRisingLabels h.fields
  fit-now fit it e =
      let here : Contains heads (s, h) =
      subst (λ (xs : List (ℕ × Head)). Contains xs (s, h)) (sym it.split)
      (Contains-append_left left it.done (s, h) (subst (λ (xs : List (ℕ × Head)). Contains xs (s, h)) (sym e) (Contains-push rest (s, h)))) in
      let is = fit s h here in
      let same : polarity_at now.automaton s ≡ polarity_at old.automaton s = stored-polarity old now it.done it.stored s in (
        ap (λ (numbers : List Bool). get_or numbers s false) it.stored.there ∙ is.0,
        subst (λ p. HasStatesIn (IsStateIn now.automaton now.there) p h) (sym same)
            (states_more (IsStateIn old.automaton old.there) (IsStateIn now.automaton now.there)
            (λ p j state. record { there = ap (λ (numbers : List Bool). get_or numbers j false) it.stored.there ∙ state.there; polarity = stored-polarity old now it.done it.stored j ∙ state.polarity })
            (polarity_at old.automaton s) h is.1),
        is.2,
      )

  pub storing-next : (new : Numbered) → AreStoring old heads left now → left ≡ rest ++ (s, h) ∷ [] → SetsHead now new s h → AreStoring old heads rest new
  storing-next new it e sets = record {
    done = (s, h) ∷ it.done;
    split = it.split ∙ (ap (λ (xs : List (ℕ × Head)). xs ++ it.done) e ∙ append_assoc rest ((s, h) ∷ []) it.done);
    stored = record {
      there = sets.there ∙ it.stored.there;
      flows = sets.flows ∙ it.stored.flows;
      size = sets.size ∙ it.stored.size;
      limit = sets.limit ∙ it.stored.limit;
      stored = λ j.
          elim (cases_eq j s) [
            | inl same ↦
                inl (
                  h,
                  subst (λ k. Contains ((s, h) ∷ it.done) (k, h)) (sym same) (Contains-here (s, h) it.done),
                  subst (λ k. state_at new.automaton k ≡ record { polarity = polarity_at old.automaton k; head = h }) (sym same)
                      (sets.here ∙ (λ i. record { polarity = stored-polarity old now it.done it.stored s i; head = h })),
                )
            | inr differs ↦ elim (it.stored.stored j) [
              | inl before ↦ inl (before.0, Contains-later (s, h) it.done (j, before.0) before.1, sets.others j differs ∙ before.2)
              | inr none ↦ inr (
                λ k there.
                    elim (Contains-cases (s, h) it.done (j, k) there) [
                      | inl same ↦ differs (sym (ap (λ (x : ℕ × Head). x.0) same))
                      | inr later ↦ none.0 k later
                    ],
                sets.others j differs ∙ none.1,
              )
            ]
          ];
    };
  }
