-- How the states of binders get their numbers.
--     entry_more, entries_kept   one more binder; binders keep their numbers while sets come behind
--     entries_below              binders rise where those of the first environment do
--     binders_rise               the binders of the second environment rise
--     entry_of, entry_env        the state of a binder in the one environment and in the other
use Rattle.std.proofs.Common.{◌≡◌, inl, inr, ℕ, zero, suc, ◌<◌, ◌==◌, Bool, true, false, List, [], ◌∷◌, ◌++◌, map, take, refl, sym, ap, subst, arith, length, get_or, All, Contains, Some}
use Rattle.std.specs.Prelude.{find, cond, option_map}
use Rattle.std.proofs.lemmas.List.Elements.{All-cons, All-head, All-tail, Contains-append_left, Contains-push}
use Rattle.mls_automaton.specs.declared.automaton.Polarity.TheVariants.{Negative}
use Rattle.mls_automaton.specs.declared.scheme.EnvEntry.{EnvEntry}
use Rattle.mls_automaton.specs.Environments.{BindersRise}
use Rattle.mls_automaton.specs.Heads.{IsSameOption}
use Rattle.mls_automaton.specs.Schemes.{state_of}
use Rattle.mls_automaton.specs.steps.Keeping.{renamed_entry}
use Rattle.mls_automaton.proofs.Lists.{Contains-here, Contains-later, Contains-cases}
use Rattle.mls_automaton.proofs.KeptSchemes.{entries-rise}
use Rattle.mls_shape.specs.declared.register.SetState.{SetState}
use Rattle.mls_shape.specs.steps.Registers.{IsAt, Grows, Numbers}
use Rattle.mls_shape.specs.steps.Entries.{AreEntriesOf, HasEntryAt, NumbersEnv}
use Rattle.mls_shape.proofs.Registered.{grows_none, grows_then, grows_wider, at_kept}

pub entries_kept : (P : ℕ → Type 0) (old new : List SetState) → Grows P old new → (env row : List EnvEntry) → AreEntriesOf old env row → AreEntriesOf new env row
entries_kept P old new it [] [] is = tt
entries_kept P old new it (e ∷ env) (f ∷ row) is = (is.0, at_kept P old new it f.state.0 Negative (e.state.0 ∷ []) is.1, entries_kept P old new it env row is.2)
entries_kept P old new it [] (f ∷ row) is = absurd is
entries_kept P old new it (e ∷ env) [] is = absurd is

entries_more : (sets : List SetState) (env row : List EnvEntry) (e f : EnvEntry) → AreEntriesOf sets env row → e.binder ≡ f.binder → IsAt sets f.state.0 Negative (e.state.0 ∷ []) → AreEntriesOf sets (env ++ e ∷ []) (row ++ f ∷ [])
entries_more sets [] [] e f is binder at = (binder, at, tt)
entries_more sets (g ∷ env) (h ∷ row) e f is binder at = (is.0, is.1, entries_more sets env row e f is.2 binder at)
entries_more sets [] (h ∷ row) e f is binder at = absurd is
entries_more sets (g ∷ env) [] e f is binder at = absurd is

pub no_entries : (sets : List SetState) → NumbersEnv [] sets sets []
no_entries sets = record { grows = grows_none (HasEntryAt []) sets; is = tt }

pub entry_more : (env row : List EnvEntry) (e f : EnvEntry) (first second third : List SetState) → NumbersEnv env first second row → e.binder ≡ f.binder → Numbers Negative (e.state.0 ∷ []) second third f.state.0 → NumbersEnv (env ++ e ∷ []) first third (row ++ f ∷ [])
entry_more env row e f first second third one binder two =
    let Named : ℕ → Type 0 = HasEntryAt (row ++ f ∷ []) in
    record {
      grows = grows_then Named first second third
          (grows_wider (HasEntryAt row) Named (λ k there. (there.0, Contains-append_left row (f ∷ []) there.0 there.1, there.2)) first second one.grows)
          (grows_wider (λ k. k ≡ f.state.0) Named (λ k same. (f, Contains-push row f, sym same)) second third two.grows);
      is = entries_more third env row e f (entries_kept (λ k. k ≡ f.state.0) second third two.grows env row one.is) binder two.at;
    }

module _ (sets : List SetState) (number : ℕ → ℕ) (b : ℕ) where
  below : (env row : List EnvEntry) → AreEntriesOf sets env row → All (λ (x : EnvEntry). x.binder < b) (map (renamed_entry number) env) → All (λ (x : EnvEntry). x.binder < b) row
  below [] [] is each = λ k d low. absurd (omega arith)
  below (e ∷ env) (f ∷ row) is each =
      All-cons (λ (x : EnvEntry). x.binder < b) f row
      (subst (λ y. y < b) is.0 (All-head (λ (x : EnvEntry). x.binder < b) (renamed_entry number e) (map (renamed_entry number) env) each))
      (below env row is.2 (All-tail (λ (x : EnvEntry). x.binder < b) (renamed_entry number e) (map (renamed_entry number) env) each))
  below [] (f ∷ row) is each = absurd is
  below (e ∷ env) [] is each = absurd is

-- the binders so far are below the next
pub entries_below : (sets : List SetState) (env list : List EnvEntry) (i : ℕ) (d : EnvEntry) (row : List EnvEntry) → BindersRise env → list ≡ env → i < length list → AreEntriesOf sets (take i list) row → All (λ (x : EnvEntry). x.binder < (get_or list i d).binder) row
entries_below sets env list i d row rise same low is =
    below sets (λ k. k) (get_or list i d).binder (take i list) row is (entries-rise (λ k. k) env list i d (map (renamed_entry (λ k. k)) (take i list)) rise same low refl)

-- the entry that an entry comes from
pub entry_of : (sets : List SetState) (env row : List EnvEntry) → AreEntriesOf sets env row → (f : EnvEntry) → Contains row f → (e : EnvEntry) × Contains env e × IsAt sets f.state.0 Negative (e.state.0 ∷ [])
entry_of sets [] [] is f there = let low : there.0 < 0 = there.1 in absurd (omega arith)
entry_of sets (e ∷ env) (g ∷ row) is f there =
    elim (Contains-cases g row f there) [
      | inl same ↦ (e, Contains-here e env, subst (λ (f : EnvEntry). IsAt sets f.state.0 Negative (e.state.0 ∷ [])) same is.1)
      | inr later ↦ let it = entry_of sets env row is.2 f later in (it.0, Contains-later e env it.0 it.1, it.2)
    ]
entry_of sets [] (g ∷ row) is f there = absurd is
entry_of sets (e ∷ env) [] is f there = absurd is

-- the states of a binder in both
abbrev pub SameEntry : List SetState → ℕ → ℕ → Type 0
SameEntry sets n j = IsAt sets j Negative (n ∷ [])

entry_at : (sets : List SetState) (e f : EnvEntry) (env row : List EnvEntry) (x : ℕ) → IsAt sets f.state.0 Negative (e.state.0 ∷ []) → IsSameOption (SameEntry sets) (state_of env x) (state_of row x)
    → (b : Bool) → IsSameOption (SameEntry sets)
    (option_map (λ (g : EnvEntry). g.state.0) (cond b (Some e) (find (λ (g : EnvEntry). g.binder == x) env)))
    (option_map (λ (g : EnvEntry). g.state.0) (cond b (Some f) (find (λ (g : EnvEntry). g.binder == x) row)))
entry_at sets e f env row x here later true = here
entry_at sets e f env row x here later false = later

pub entry_env : (sets : List SetState) (env row : List EnvEntry) → AreEntriesOf sets env row → (x : ℕ) → IsSameOption (SameEntry sets) (state_of env x) (state_of row x)
entry_env sets [] [] is x = tt
entry_env sets (e ∷ env) (f ∷ row) is x =
    subst (λ b. IsSameOption (SameEntry sets) (state_of (e ∷ env) x) (option_map (λ (g : EnvEntry). g.state.0) (cond (b == x) (Some f) (find (λ (g : EnvEntry). g.binder == x) row)))) is.0
    (entry_at sets e f env row x is.1 (entry_env sets env row is.2 x) (e.binder == x))
entry_env sets [] (f ∷ row) is x = absurd is
entry_env sets (e ∷ env) [] is x = absurd is

-- the binders of the second rise too
entry_sizes : (sets : List SetState) (env row : List EnvEntry) → AreEntriesOf sets env row → length env ≡ length row
entry_sizes sets [] [] is = refl
entry_sizes sets (e ∷ env) (f ∷ row) is = ap suc (entry_sizes sets env row is.2)
entry_sizes sets [] (f ∷ row) is = absurd is
entry_sizes sets (e ∷ env) [] is = absurd is

same_binder : (sets : List SetState) (env row : List EnvEntry) → AreEntriesOf sets env row → (i : ℕ) (d : EnvEntry) → (get_or env i d).binder ≡ (get_or row i d).binder
same_binder sets [] [] is i d = refl
same_binder sets (e ∷ env) (f ∷ row) is zero d = is.0
same_binder sets (e ∷ env) (f ∷ row) is (suc i) d = same_binder sets env row is.2 i d
same_binder sets [] (f ∷ row) is i d = absurd is
same_binder sets (e ∷ env) [] is i d = absurd is

pub binders_rise : (sets : List SetState) (env row : List EnvEntry) → AreEntriesOf sets env row → BindersRise env → BindersRise row
binders_rise sets env row is rise i j d less low =
    let size : length env ≡ length row = entry_sizes sets env row is in
    let up : (get_or env i d).binder < (get_or env j d).binder = rise i j d less (omega arith) in
    let first : (get_or env i d).binder ≡ (get_or row i d).binder = same_binder sets env row is i d in
    let second : (get_or env j d).binder ≡ (get_or row j d).binder = same_binder sets env row is j d in
    omega arith
