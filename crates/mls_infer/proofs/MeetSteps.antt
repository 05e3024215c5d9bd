-- One entry stands for some of one binder of a part, whatever the other entries are.
--     meets_one            one entry for itself
--     of_first             all are of the binder of the first
--     meets_all            an entry at a state that meets those of several
use Rattle.std.proofs.Common.{◌≡◌, inl, inr, ℕ, ◌<◌, false, List, [], ◌∷◌, ◌++◌, length, get_or, refl, sym, ap, ◌∙◌, subst, arith, Contains, All}
use Rattle.std.proofs.lemmas.List.Elements.{All-contains, Contains-append_left, Contains-append_right}
use Rattle.mls_automaton.specs.declared.automaton.Polarity.TheVariants.{Negative}
use Rattle.mls_automaton.specs.declared.automaton.State.{State}
use Rattle.mls_automaton.specs.declared.state_set.StateId.{StateId}
use Rattle.mls_automaton.specs.declared.scheme.EnvEntry.{EnvEntry}
use Rattle.mls_automaton.proofs.Lists.{Contains-cases}
use Rattle.mls_biunify.specs.Live.{IsLive, IsLiveState, Live}
use Rattle.mls_infer.specs.Meets.{MeetsAt}
use Rattle.mls_infer.specs.Pending.{IsMeeting, IsRemade, Waits}
use Rattle.mls_infer.proofs.ConstraintRows.{nothing_in}
use Rattle.mls_infer.proofs.MergeLoops.{one_of}
use Rattle.mls_infer.proofs.MetParts.{met, met_part, met_types}
use Rattle.mls_infer.proofs.PartChanges.{changes_from, remade_none, within_more}
use Rattle.mls_infer.proofs.RegionSteps.{unlike}
use Rattle.mls_infer.proofs.SameParts.{remade_members, same_members, turned_members, with_lists}

pub meets_one : (live : Live) (states : List ℕ) (entries : List EnvEntry) (d : EnvEntry) → length entries ≡ 1 → All (λ (e : EnvEntry). IsLiveState live Negative e.state.0) entries
    → IsMeeting live states entries live states (get_or entries 0 d)
meets_one live states entries d one are =
    let x : EnvEntry = get_or entries 0 d in
    let it : IsMeeting live states (x ∷ []) live states x = record {
      binder = λ e it. elim (Contains-cases x [] e it) [
        | inl same ↦ ap (λ (e : EnvEntry). e.binder) (sym same)
        | inr none ↦ absurd (nothing_in e none)
      ];
      state = are 0 d (omega arith);
      stays = λ p s is. is;
      remade = λ others root waits. remade_none live (with_lists states (x ∷ others) root) waits;
    } in
    subst (λ (xs : List EnvEntry). IsMeeting live states xs live states x) (sym (one_of entries d one)) it

pub of_first : (entries : List EnvEntry) (b : ℕ) → All (λ (e : EnvEntry). e.binder ≡ b) entries → (d : EnvEntry) → 0 < length entries
    → (e : EnvEntry) → Contains entries e → e.binder ≡ (get_or entries 0 d).binder
of_first entries b all d some e it = All-contains (λ (e : EnvEntry). e.binder ≡ b) entries e all it ∙ sym (all 0 d some)

-- an entry at a state that meets those of several
module _ (old new : Live) (is_old : IsLive old) (is_new : IsLive new) (entries : List EnvEntry) (binder : ℕ) (own : (e : EnvEntry) → Contains entries e → e.binder ≡ binder) (several : 1 < length entries)
    (state : StateId) (meets : MeetsAt entries state.0 old new) (states : List ℕ) where
  abbrev met_entry : EnvEntry
  met_entry = record { binder = binder; state = state }

  module _ (others : List EnvEntry) (root : StateId) (waits : Waits old (with_lists states (entries ++ others) root)) where
    inside : (e : EnvEntry) → Contains entries e → Contains states e.state.0
    inside e it = waits.part.env_in e (Contains-append_left entries others e it)

    met_remade : IsRemade old (with_lists states (entries ++ others) root) new (with_lists (state.0 ∷ states) (met_entry ∷ others) root)
    met_remade = record {
      waits = record {
        there = λ s it. (meets.there s).1 (elim (Contains-cases state.0 states s it) [ inl here ↦ inr (sym here) | inr was ↦ inl (waits.there s was) ]);
        part = met_part old new is_old is_new entries state.0 meets states waits.there binder own several others root waits.part;
      };
      changes =
          changes_from states old new (state.0 ∷ states)
          (within_more (state.0 ∷ states) (states ++ state.0 ∷ states) old.table new.table (λ s it. Contains-append_right states (state.0 ∷ states) s it)
          (met old new is_old is_new entries state.0 meets states waits.part.region waits.there inside))
          (λ s was. inr ((meets.there s).1 (inl was)))
          (λ s it. elim (Contains-cases state.0 states s it) [
            | inl here ↦ inr (λ was. unlike (get_or old.there s false) was (subst (λ k. get_or old.there k false ≡ false) here meets.was_free))
            | inr was ↦ inl was
          ]);
      alike = met_types old new is_old is_new entries state.0 meets states waits.there binder own several others root waits.part;
    }

    remade_behind : IsRemade old (with_lists states (entries ++ others) root) new (with_lists (states ++ state.0 ∷ []) (met_entry ∷ others) root)
    remade_behind =
        remade_members old new states states (entries ++ others) (entries ++ others) root (state.0 ∷ states) (states ++ state.0 ∷ []) (met_entry ∷ others) (met_entry ∷ others) root
        (same_members states) (same_members (entries ++ others)) (turned_members (state.0 ∷ []) states) (same_members (met_entry ∷ others)) met_remade

  pub meets_all : (more : List ℕ) → more ≡ states ++ state.0 ∷ [] → IsMeeting old states entries new more met_entry
  meets_all more are = record {
    binder = own;
    state = record { there = (meets.there state.0).1 (inr refl); polarity = meets.polarity };
    stays = λ p s was. record { there = (meets.there s).1 (inl was.there); polarity = ap (λ (x : State). x.polarity) (meets.others s was.there) ∙ was.polarity };
    remade = λ others root waits.
        subst (λ (xs : List ℕ). IsRemade old (with_lists states (entries ++ others) root) new (with_lists xs (met_entry ∷ others) root)) (sym are)
        (remade_behind others root waits);
  }
