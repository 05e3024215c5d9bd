-- A state without a head and without edges, which no head names, gets a polarity.
use Rattle.std.proofs.Common.{◌≡◌, ◌≢◌, inl, inr, ℕ, true, false, length, get_or, Some, is_some, refl, sym, ap, ◌∙◌, subst}
use Rattle.std.proofs.lemmas.Bool.{cases_eq}
use Rattle.std.proofs.lemmas.List.{length-map, length-set}
use Rattle.slab.specs.Slab.{Slab, get, with_value, Updates}
use Rattle.slab.proofs.SlabLemmas.{Updates-with_value}
use Rattle.mls_automaton.specs.declared.automaton.Polarity.{Polarity}
use Rattle.mls_automaton.specs.declared.automaton.Polarity.TheVariants.{Positive, Negative}
use Rattle.mls_automaton.specs.declared.automaton.Head.{Head}
use Rattle.mls_automaton.specs.declared.automaton.State.{State}
use Rattle.mls_automaton.specs.Automata.{HasFlow, empty_head, head_at, polarity_at, state_at}
use Rattle.mls_automaton.specs.Models.{HasStatesIn, HasRisingLabels}
use Rattle.mls_automaton.specs.Reached.{Names}
use Rattle.mls_automaton.proofs.Passing.{states_more}
use Rattle.mls_automaton.proofs.KeptSchemes.{Both, named-both}
use Rattle.mls_biunify.specs.Live.{IsStateIn}
use Rattle.mls_biunify.specs.steps.TwoWay.{TwoWay}
use Rattle.mls_biunify.specs.steps.Tables.{Numbered, IsNumbered, SetsPolarity, numbered_of, state_in}
use Rattle.mls_biunify.proofs.TableSteps.{free-in, same_lists_at, state-in, there-in, there-range}

module _ (states : Slab State) (flows : TwoWay) (is : IsNumbered (numbered_of states flows)) (key : ℕ) (old : State) (p : Polarity) (value : get states key ≡ Some old) (empty : head_at (numbered_of states flows).automaton key ≡ empty_head) where
  abbrev pub signed : Slab State
  signed = with_value states key (record { polarity = p; head = old.head })

  abbrev before : Numbered
  before = numbered_of states flows

  abbrev after : Numbered
  after = numbered_of signed flows

  written : Updates states signed key (Some (record { polarity = p; head = old.head }))
  written = Updates-with_value states key (record { polarity = p; head = old.head }) (ap is_some value)

  there_key : get_or before.there key false ≡ true
  there_key = there-in states flows key ∙ ap is_some value

  no-head : old.head ≡ empty_head
  no-head = sym (ap (λ (s : State). s.head) (state-in states flows key ∙ ap state_in value)) ∙ empty

  same-there : (j : ℕ) → get_or after.there j false ≡ get_or before.there j false
  same-there j =
      elim (cases_eq j key) [
        | inl same ↦
            subst (λ k. get_or after.there k false ≡ get_or before.there k false) (sym same)
            (there-in signed flows key ∙ (ap is_some written.changed ∙ sym there_key))
        | inr differs ↦ there-in signed flows j ∙ (ap is_some (written.others j differs) ∙ sym (there-in states flows j))
      ]

  others : (j : ℕ) → j ≢ key → state_at after.automaton j ≡ state_at before.automaton j
  others j differs = state-in signed flows j ∙ (ap state_in (written.others j differs) ∙ sym (state-in states flows j))

  here : state_at after.automaton key ≡ record { polarity = p; head = empty_head }
  here = state-in signed flows key ∙ (ap state_in written.changed ∙ ap (λ (h : Head). record { polarity = p; head = h }) no-head)

  same_size : length signed.slots ≡ length states.slots
  same_size = length-set states.slots key (Some (record { polarity = p; head = old.head }))

  pub polarity-sets : SetsPolarity before after key p
  polarity-sets = record {
    there = same_lists_at after.there before.there (length-map signed.slots is_some ∙ (same_size ∙ sym (length-map states.slots is_some))) same-there;
    here = here;
    others = others;
    flows = refl;
  }

  module _ (unnamed : (j : ℕ) → Names before.automaton j key → ⊥) (unlinked : (n q : ℕ) → HasFlow before.automaton n q → (n ≢ key) × (q ≢ key)) where
    still : (q : Polarity) (s : ℕ) → s ≢ key → IsStateIn before.automaton before.there q s → IsStateIn after.automaton after.there q s
    still q s other it = record { there = same-there s ∙ it.there; polarity = ap (λ (state : State). state.polarity) (others s other) ∙ it.polarity }

    heads-still : (s : ℕ) → HasStatesIn (IsStateIn after.automaton after.there) (polarity_at before.automaton s) (head_at before.automaton s)
    heads-still s =
        states_more (Both (IsStateIn before.automaton before.there) (λ j. j ≢ key)) (IsStateIn after.automaton after.there) (λ q j it. still q j it.1 it.0) (polarity_at before.automaton s) (head_at before.automaton s)
        (named-both (IsStateIn before.automaton before.there) (λ j. j ≢ key) (polarity_at before.automaton s) (head_at before.automaton s) (is.is.heads s) (λ j it same. unnamed s (subst (λ k. Names before.automaton s k) same it)))

    abbrev IsWell : State → Type 0
    IsWell s = HasStatesIn (IsStateIn after.automaton after.there) s.polarity s.head × HasRisingLabels s.head.fields

    well : (s : ℕ) → IsWell (state_at after.automaton s)
    well s =
        elim (cases_eq s key) [
          | inl same ↦ subst (λ k. IsWell (state_at after.automaton k)) (sym same) (subst IsWell (sym here) (record { function = tt; fields = tt }, tt))
          | inr differs ↦ subst IsWell (sym (others s differs)) (heads-still s, is.is.labels s)
        ]

    pub polarity-numbered : IsNumbered after
    polarity-numbered = record {
      is = record {
        in_range = there-range signed flows;
        free = free-in signed flows;
        heads = λ s. (well s).0;
        labels = λ s. (well s).1;
        negative = λ n q it. still Negative n (unlinked n q it).0 (is.is.negative n q it);
        positive = λ n q it. still Positive q (unlinked n q it).1 (is.is.positive n q it);
      };
      low = λ s it. is.low s (sym (same-there s) ∙ it);
    }
