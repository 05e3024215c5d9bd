-- How parts change, and what that leaves of the others.
--     within_then         changes within some states compose
--     changes_from        a change within the states that were taken and those that were made
--     changes_none, changes_then     no change, and one after the other
--     apart_from_made     states that stay are apart from those that are made
--     waits_on, wait_on   what is apart from a change waits on
--     types_on            with the same types
--     remade_none, remade_then
use Rattle.std.proofs.Common.{◌⊎◌, inl, inr, ℕ, false, List, [], ◌∷◌, ◌++◌, get_or, refl, ◌∙◌, Contains}
use Rattle.std.proofs.lemmas.List.Elements.{Contains-append_cases, Contains-append_left, Contains-append_right}
use Rattle.mls_automaton.specs.Automata.{Automaton, head_at}
use Rattle.mls_automaton.specs.Heads.{parts_of}
use Rattle.mls_biunify.specs.Live.{IsLive, IsThere, Live}
use Rattle.mls_automaton.proofs.CombinedHeads.{same_parts-self, same_parts-trans}
use Rattle.mls_biunify.proofs.TableSteps.{table-closed, there-or_not}
use Rattle.mls_infer.specs.Constraints.{no_goals}
use Rattle.mls_infer.specs.Merges.{HaveSameTypes}
use Rattle.mls_infer.specs.Pending.{AreWaiting, Changes, IsRemade, Waits, all_states}
use Rattle.mls_infer.specs.Regions.{AgreesAt, AreApart, ChangesWithin, IsSeparatePart, TablePart, scheme_at}
use Rattle.mls_infer.proofs.ConstraintRows.{nothing_in}
use Rattle.mls_infer.proofs.Merges.{types_trans}
use Rattle.mls_infer.proofs.RegionSteps.{other_part, unlike}
use Rattle.mls_infer.proofs.StandingParts.{agrees_stands, own_entries, standing_alike}

pub within_none : (states : List ℕ) (a : Automaton) → ChangesWithin states a a
within_none states a = record {
  polarity = λ s out. refl;
  heads = λ s out. same_parts-self (parts_of (head_at a s));
  names = λ s t it. inl it;
  flows = λ n p edge. inl edge;
  old_flows = λ n p out edge. edge;
}

-- changes within more states
pub within_more : (states more : List ℕ) (a b : Automaton) → ((s : ℕ) → Contains states s → Contains more s) → ChangesWithin states a b → ChangesWithin more a b
within_more states more a b sub within = record {
  polarity = λ s out. within.polarity s (λ it. out (sub s it));
  heads = λ s out. within.heads s (λ it. out (sub s it));
  names = λ s t it. elim (within.names s t it) [ inl old ↦ inl old | inr new ↦ inr (sub s new.0, sub t new.1) ];
  flows = λ n p edge. elim (within.flows n p edge) [ inl old ↦ inl old | inr new ↦ inr (sub n new.0, sub p new.1) ];
  old_flows = λ n p out edge. within.old_flows n p (λ it. out (sub n it)) edge;
}

-- one change after another
pub within_then : (states : List ℕ) (a b c : Automaton) → ChangesWithin states a b → ChangesWithin states b c → ChangesWithin states a c
within_then states a b c first second = record {
  polarity = λ s out. second.polarity s out ∙ first.polarity s out;
  heads = λ s out. same_parts-trans (parts_of (head_at c s)) (parts_of (head_at b s)) (parts_of (head_at a s)) (second.heads s out) (first.heads s out);
  names = λ s t it. elim (second.names s t it) [ inl mid ↦ first.names s t mid | inr new ↦ inr new ];
  flows = λ n p edge. elim (second.flows n p edge) [ inl mid ↦ first.flows n p mid | inr new ↦ inr new ];
  old_flows = λ n p out edge. second.old_flows n p out (first.old_flows n p out edge);
}

pub changes_from : (taken : List ℕ) (old new : Live) (made : List ℕ) → ChangesWithin (taken ++ made) old.table new.table
    → ((s : ℕ) → IsThere old s → Contains taken s ⊎ IsThere new s) → ((s : ℕ) → Contains made s → Contains taken s ⊎ (IsThere old s → ⊥)) → Changes taken old new made
changes_from taken old new made within stays made_of = record {
  touched = taken ++ made;
  within = within;
  touched_of = λ s it. elim (Contains-append_cases taken made s it) [ inl one ↦ inl one | inr other ↦ made_of s other ];
  stays = stays;
  made_of = made_of;
}

pub changes_none : (states : List ℕ) (live : Live) → Changes states live live states
changes_none states live = record {
  touched = [];
  within = within_none [] live.table;
  touched_of = λ s it. absurd (nothing_in s it);
  stays = λ s was. inr was;
  made_of = λ s it. inl it;
}

module _ (taken : List ℕ) (old mid new : Live) (made more : List ℕ) (first : Changes taken old mid made) (second : Changes made mid new more) where
  -- what was made of the first, or was free behind it, was taken or free before it
  earlier : (s : ℕ) → Contains made s ⊎ (IsThere mid s → ⊥) → Contains taken s ⊎ (IsThere old s → ⊥)
  earlier s (inl it) = first.made_of s it
  earlier s (inr gone) = elim (there-or_not old.there s) [
    | inl was ↦ elim (first.stays s was) [ inl it ↦ inl it | inr there ↦ absurd (gone there) ]
    | inr free ↦ inr (λ was. unlike (get_or old.there s false) was free)
  ]

  pub changes_then : Changes taken old new more
  changes_then =
      let both : List ℕ = first.touched ++ second.touched in
      record {
        touched = both;
        within =
            within_then both old.table mid.table new.table
            (within_more first.touched both old.table mid.table (λ s it. Contains-append_left first.touched second.touched s it) first.within)
            (within_more second.touched both mid.table new.table (λ s it. Contains-append_right first.touched second.touched s it) second.within);
        touched_of = λ s it. elim (Contains-append_cases first.touched second.touched s it) [
          | inl one ↦ first.touched_of s one
          | inr two ↦ earlier s (second.touched_of s two)
        ];
        stays = λ s was. elim (first.stays s was) [
          | inl it ↦ inl it
          | inr there ↦ elim (second.stays s there) [
            | inl it ↦ elim (first.made_of s it) [ inl own ↦ inl own | inr gone ↦ absurd (gone was) ]
            | inr now ↦ inr now
          ]
        ];
        made_of = λ s it. earlier s (second.made_of s it);
      }

module _ (taken : List ℕ) (old new : Live) (made : List ℕ) (changes : Changes taken old new made) where
  pub apart_from_made : (others : List ℕ) → ((s : ℕ) → Contains others s → IsThere old s) → AreApart taken others → AreApart made others
  apart_from_made others there apart s it here = elim (changes.made_of s it) [ inl own ↦ apart s own here | inr gone ↦ gone (there s here) ]

  apart_from_touched : (others : List ℕ) → ((s : ℕ) → Contains others s → IsThere old s) → AreApart taken others → AreApart changes.touched others
  apart_from_touched others there apart s it here = elim (changes.touched_of s it) [ inl own ↦ apart s own here | inr gone ↦ gone (there s here) ]

  -- another part waits on
  pub waits_on : (other : TablePart) → Waits old other → AreApart taken other.states → Waits new other × AgreesAt other.states old.table new.table × AreApart made other.states
  waits_on other waits apart =
      let it : IsSeparatePart new.table other.states other.env other.root × AgreesAt other.states old.table new.table =
      other_part changes.touched old.table new.table changes.within other.states other.env other.root (apart_from_touched other.states waits.there apart) waits.part in (
        record {
          there = λ s here. elim (changes.stays s (waits.there s here)) [ inl own ↦ absurd (apart s own here) | inr now ↦ now ];
          part = it.0;
        },
        it.1,
        apart_from_made other.states waits.there apart,
      )

  -- with the same types
  pub types_on : IsLive old → IsLive new → (other : TablePart) → Waits old other → AreApart taken other.states → HaveSameTypes (no_goals (scheme_at old.table other)) (no_goals (scheme_at new.table other))
  types_on is_old is_new other waits apart types f =
      let it = waits_on other waits apart in
      standing_alike old.table new.table (table-closed old.table old.there is_old) (table-closed new.table new.there is_new) other.states (λ s. s)
      (agrees_stands other.states old.table new.table waits.part.region it.1)
      other.root other.root other.env other.env waits.part.root_in waits.part.env_in refl (own_entries other.env) types f

  -- and so do several
  pub wait_on : (parts : List TablePart) → AreWaiting old parts → AreApart taken (all_states parts) → AreWaiting new parts × AreApart made (all_states parts)
  wait_on [] are apart = (tt, λ s it here. nothing_in s here)
  wait_on (part ∷ rest) are apart =
      let first = waits_on part are.0 (λ s it here. apart s it (Contains-append_left part.states (all_states rest) s here)) in
      let later = wait_on rest are.2 (λ s it here. apart s it (Contains-append_right part.states (all_states rest) s here)) in (
        (first.0, are.1, later.0),
        λ s it here. elim (Contains-append_cases part.states (all_states rest) s here) [ inl one ↦ first.2 s it one | inr other ↦ later.1 s it other ],
      )

pub remade_none : (live : Live) (part : TablePart) → Waits live part → IsRemade live part live part
remade_none live part waits = record { waits = waits; changes = changes_none part.states live; alike = λ types f. (λ h. h, λ h. h) }

pub remade_then : (old : Live) (part : TablePart) (mid : Live) (other : TablePart) (new : Live) (last : TablePart) → IsRemade old part mid other → IsRemade mid other new last → IsRemade old part new last
remade_then old part mid other new last first second = record {
  waits = second.waits;
  changes = changes_then part.states old mid new other.states last.states first.changes second.changes;
  alike =
      types_trans (no_goals (scheme_at old.table part)) (no_goals (scheme_at mid.table other)) (no_goals (scheme_at new.table last))
      first.alike second.alike;
}
