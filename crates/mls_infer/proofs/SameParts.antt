-- The order of the states and of the entries of a part is nothing.
--     region_members, part_members, waits_members, changes_members, remade_members
use Rattle.std.proofs.Common.{inl, inr, ℕ, List, [], ◌++◌, Contains}
use Rattle.std.proofs.lemmas.List.Elements.{Contains-append_cases, Contains-append_left, Contains-append_right}
use Rattle.mls_automaton.specs.declared.state_set.StateId.{StateId}
use Rattle.mls_automaton.specs.declared.scheme.EnvEntry.{EnvEntry}
use Rattle.mls_automaton.specs.Automata.{Automaton}
use Rattle.mls_biunify.specs.Live.{IsRegion, Live}
use Rattle.mls_infer.specs.Constraints.{no_goals}
use Rattle.mls_infer.specs.Merges.{HasSameMembers}
use Rattle.mls_infer.specs.Pending.{Changes, IsRemade, Waits}
use Rattle.mls_infer.specs.Regions.{IsSeparatePart, TablePart, part_over}
use Rattle.mls_infer.proofs.Merges.{members_types, types_trans}

-- a part with these states and these entries
abbrev pub with_lists : List ℕ → List EnvEntry → StateId → TablePart
with_lists states env root = record { states = states; env = env; root = root }

pub same_members : {X : Type 0} (xs : List X) → HasSameMembers xs xs
same_members xs x = (λ it. it, λ it. it)

-- two lists change places
pub turned_members : {X : Type 0} (xs ys : List X) → HasSameMembers (xs ++ ys) (ys ++ xs)
turned_members xs ys x = (turn xs ys, turn ys xs)
  where
    turn : (xs ys : List _) → Contains (xs ++ ys) x → Contains (ys ++ xs) x
    turn xs ys it = elim (Contains-append_cases xs ys x it) [
      | inl left ↦ Contains-append_right ys xs x left
      | inr right ↦ Contains-append_left ys xs x right
    ]

pub region_members : (a : Automaton) (xs ys : List ℕ) → HasSameMembers xs ys → IsRegion a xs → IsRegion a ys
region_members a xs ys same region = record {
  heads = λ s t names. let it = region.heads s t names in (λ here. (same t).0 (it.0 ((same s).1 here)), λ here. (same s).0 (it.1 ((same t).1 here)));
  flows = λ n p edge. let it = region.flows n p edge in (λ here. (same p).0 (it.0 ((same n).1 here)), λ here. (same n).0 (it.1 ((same p).1 here)));
}

module _ (xs ys : List ℕ) (same : HasSameMembers xs ys) (env other : List EnvEntry) (alike : HasSameMembers env other) (root : StateId) where
  pub part_members : (a : Automaton) → IsSeparatePart a xs env root → IsSeparatePart a ys other root
  part_members a part = record {
    region = region_members a xs ys same part.region;
    root_in = (same root.0).0 part.root_in;
    root_positive = part.root_positive;
    env_in = λ e it. (same e.state.0).0 (part.env_in e ((alike e).1 it));
    env_negative = λ e it. part.env_negative e ((alike e).1 it);
  }

  pub waits_members : (live : Live) → Waits live (with_lists xs env root) → Waits live (with_lists ys other root)
  waits_members live waits = record { there = λ s it. waits.there s ((same s).1 it); part = part_members live.table waits.part }

pub changes_members : (old new : Live) (xs ys made more : List ℕ) → HasSameMembers xs ys → HasSameMembers made more → Changes xs old new made → Changes ys old new more
changes_members old new xs ys made more same alike changes = record {
  touched = changes.touched;
  within = changes.within;
  touched_of = λ s it. elim (changes.touched_of s it) [ inl own ↦ inl ((same s).0 own) | inr gone ↦ inr gone ];
  stays = λ s was. elim (changes.stays s was) [ inl own ↦ inl ((same s).0 own) | inr now ↦ inr now ];
  made_of = λ s it. elim (changes.made_of s ((alike s).1 it)) [ inl own ↦ inl ((same s).0 own) | inr gone ↦ inr gone ];
}

-- the members of the first part, and those of the second
module _ (old new : Live) (xs ys : List ℕ) (env other : List EnvEntry) (root : StateId) (xs' ys' : List ℕ) (env' other' : List EnvEntry) (root' : StateId) where
  pub remade_members : HasSameMembers xs ys → HasSameMembers env other → HasSameMembers xs' ys' → HasSameMembers env' other'
      → IsRemade old (with_lists xs env root) new (with_lists xs' env' root') → IsRemade old (with_lists ys other root) new (with_lists ys' other' root')
  remade_members same alike same' alike' remade = record {
    waits = waits_members xs' ys' same' env' other' alike' root' new remade.waits;
    changes = changes_members old new xs ys xs' ys' same same' remade.changes;
    alike =
        types_trans (no_goals (part_over old.table other root)) (no_goals (part_over old.table env root)) (no_goals (part_over new.table other' root'))
        (members_types old.table root [] other env (λ e. ((alike e).1, (alike e).0)))
        (types_trans (no_goals (part_over old.table env root)) (no_goals (part_over new.table env' root')) (no_goals (part_over new.table other' root'))
        remade.alike (members_types new.table root' [] env' other' alike'));
  }
