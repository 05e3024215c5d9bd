-- States that go one after another.
use Rattle.std.proofs.Common.{◌≡◌, ◌≢◌, inl, inr, ℕ, ◌+◌, ◌<◌, false, List, [], ◌∷◌, ◌++◌, Contains, get_or, length, length-append, append_assoc, append-nil, refl, sym, ap, ◌∙◌, subst, arith}
use Rattle.std.proofs.lemmas.List.Elements.{Contains-append_right}
use Rattle.mls_automaton.specs.declared.automaton.State.{State}
use Rattle.mls_automaton.specs.declared.automaton.Head.{Head}
use Rattle.mls_automaton.specs.declared.automaton.Flow.{Flow}
use Rattle.mls_automaton.specs.Automata.{HasFlow, empty_head, flow, head_at}
use Rattle.mls_automaton.specs.Reached.{HeadNames, Names}
use Rattle.mls_automaton.proofs.Lists.{Contains-here, Contains-later, Contains-cases}
use Rattle.mls_biunify.specs.steps.Absorbing.{AreLoose, RemovesStates}
use Rattle.mls_biunify.specs.steps.Tables.{IsNumbered, Numbered, RemovesState}
use Rattle.mls_biunify.proofs.TableSteps.{there-or_not}

-- a head with nothing names nothing
pub empty-names_none : (h : Head) (j : ℕ) → h ≡ empty_head → HeadNames h j → ⊥
empty-names_none h j e it = go (subst (λ (k : Head). HeadNames k j) e it)
  where
    go : HeadNames empty_head j → ⊥
    go (inl by) = absurd (cc)
    go (inr by) = absurd (cc)

-- what names a state is there
pub free-names_none : (t : Numbered) → IsNumbered t → (i j : ℕ) → get_or t.there i false ≡ false → Names t.automaton i j → ⊥
free-names_none t is i j free it = empty-names_none (head_at t.automaton i) j (ap (λ (state : State). state.head) (is.is.free i free)) it

-- the states behind those that are left are gone
pub record AreRemoving (old : Numbered) (states left : List ℕ) (now : Numbered) : Type 0 where
  pub done : List ℕ
  pub split : states ≡ left ++ done
  pub removed : RemovesStates old done now
  pub is : IsNumbered now

pub removing-none : (t : Numbered) → IsNumbered t → (states : List ℕ) → AreRemoving t states states t
removing-none t is states = record {
  done = [];
  split = sym (append-nil states);
  removed = record {
    there = λ j. (λ it. (it, λ none. let low : none.0 < 0 = none.1 in absurd (omega arith)), λ it. it.0);
    others = λ j none. refl;
    flows = refl;
  };
  is = is;
}

pub removing-done : (old : Numbered) (states left : List ℕ) (now : Numbered) → left ≡ [] → AreRemoving old states left now → RemovesStates old states now
removing-done old states left now none it =
    let all : states ≡ it.done = it.split ∙ ap (λ (xs : List ℕ). xs ++ it.done) none in
    subst (λ xs. RemovesStates old xs now) (sym all) it.removed

module _ (old : Numbered) (states left rest : List ℕ) (now : Numbered) (s : ℕ) (loose : AreLoose old states) (it : AreRemoving old states left now) (e : left ≡ rest ++ s ∷ []) where
  place : states ≡ rest ++ s ∷ it.done
  place = it.split ∙ (ap (λ (xs : List ℕ). xs ++ it.done) e ∙ append_assoc rest (s ∷ []) it.done)

  this : Contains states s
  this = subst (λ xs. Contains xs s) (sym place) (Contains-append_right rest (s ∷ it.done) s (Contains-here s it.done))

  pub removing-unnamed : (j : ℕ) → Names now.automaton j s → ⊥
  removing-unnamed j names =
      elim (there-or_not now.there j) [
        | inl here ↦ loose.unnamed j s ((it.removed.there j).0 here).0 this (subst (λ (state : State). HeadNames state.head s) (it.removed.others j ((it.removed.there j).0 here).1) names)
        | inr free ↦ free-names_none now it.is j s free names
      ]

  pub removing-unlinked : (n p : ℕ) → HasFlow now.automaton n p → (n ≢ s) × (p ≢ s)
  removing-unlinked n p edge =
      let both = loose.unlinked n p (subst (λ (flows : List Flow). Contains flows (flow n p)) it.removed.flows edge) in
      (λ same. both.0 (subst (Contains states) (sym same) this), λ same. both.1 (subst (Contains states) (sym same) this))

  pub removing-next : (new : Numbered) → RemovesState now new s → IsNumbered new → AreRemoving old states rest new
  removing-next new gone is = record {
    done = s ∷ it.done;
    split = place;
    removed = record {
      there = λ j. (
        λ here.
            let before = (gone.there j).0 here in
            let first = (it.removed.there j).0 before.0 in (
              first.0,
              λ one. elim (Contains-cases s it.done j one) [ inl same ↦ before.1 (sym same) | inr later ↦ first.1 later ],
            ),
        λ both. (gone.there j).1 ((it.removed.there j).1 (both.0, λ later. both.1 (Contains-later s it.done j later)), λ same. both.1 (subst (Contains (s ∷ it.done)) (sym same) (Contains-here s it.done))),
      );
      others = λ j none. gone.others j (λ same. none (subst (Contains (s ∷ it.done)) (sym same) (Contains-here s it.done))) ∙ it.removed.others j (λ later. none (Contains-later s it.done j later));
      flows = gone.flows ∙ it.removed.flows;
    };
    is = is;
  }

  -- a state that is gone already
  pub removing-skip : get_or now.there s false ≡ false → AreRemoving old states rest now
  removing-skip none = record {
    done = s ∷ it.done;
    split = place;
    removed = record {
      there = λ j. (
        λ here.
            let first = (it.removed.there j).0 here in (
              first.0,
              λ one. elim (Contains-cases s it.done j one) [
                | inl same ↦ let gone : get_or now.there j false ≡ false = subst (λ k. get_or now.there k false ≡ false) same none in absurd (cc)
                | inr later ↦ first.1 later
              ],
            ),
        λ both. (it.removed.there j).1 (both.0, λ later. both.1 (Contains-later s it.done j later)),
      );
      others = λ j apart. it.removed.others j (λ later. apart (Contains-later s it.done j later));
      flows = it.removed.flows;
    };
    is = it.is;
  }

pub popped-shorter : (old rest : List ℕ) (x : ℕ) → old ≡ rest ++ x ∷ [] → length rest < length old
popped-shorter old rest x e =
    let size : length old ≡ length rest + 1 = ap length e ∙ length-append rest (x ∷ []) in
    omega arith
