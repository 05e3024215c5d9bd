-- Known types that may be copied.
--     apart_none, apart_more      the states of binders, one after another
--     separate                    no two binders have one state, and no head names one
--     known_type                  what is asked of a known type
use Rattle.std.proofs.Common.{◌≡◌, ◌⊎◌, inl, inr, ℕ, true, List, [], ◌∷◌, ◌++◌, map, sym, ap, ◌∙◌, subst, Contains, All}
use Rattle.std.specs.BTreeSet.{BTreeSet, IsEmpty, Updates}
use Rattle.std.specs.Ordering.{nat_cmp}
use Rattle.std.proofs.lemmas.List.{map-append}
use Rattle.std.proofs.lemmas.List.Elements.{All-contains, Contains-push_cases}
use Rattle.mls_automaton.specs.declared.scheme.EnvEntry.{EnvEntry}
use Rattle.mls_automaton.specs.declared.scheme.Scheme.{Scheme}
use Rattle.mls_automaton.specs.Automata.{head_at, polarity_at}
use Rattle.mls_automaton.specs.Environments.{BindersRise}
use Rattle.mls_automaton.specs.Models.{HasStatesIn}
use Rattle.mls_automaton.specs.Schemes.{IsScheme}
use Rattle.mls_automaton.proofs.Lists.{Contains-map}
use Rattle.mls_automaton.proofs.Passing.{states_more}
use Rattle.mls_automaton.proofs.Reaching.{entry-found}
use Rattle.mls_parts.specs.MetCopies.{AreSeparate, IsOfNoBinder}
use Rattle.mls_parts.specs.PosedParts.{IsKnownType}
use Rattle.mls_layout.specs.steps.Posable.{AreApart, Has, HasJust, IsFree}
use Rattle.mls_layout.proofs.KeySets.{just_none, just_more, number_same, number_self}
use Rattle.mls_layout.proofs.WorkedParts.{nothing}

abbrev number : EnvEntry → ℕ
number entry = entry.state.0

pub apart_none : (states : BTreeSet ℕ) → IsEmpty states → AreApart [] states
apart_none states none = record {
  apart = λ entry other there. absurd (nothing entry there);
  just = just_none nat_cmp number_same number_self states none;
}

pub apart_more : (env : List EnvEntry) (old new : BTreeSet ℕ) (entry : EnvEntry) → AreApart env old → (Has old entry.state.0 → ⊥) → Updates nat_cmp old new entry.state.0 true → AreApart (env ++ entry ∷ []) new
apart_more env old new entry it absent updates = record {
  apart = λ e f one two same. go e f (Contains-push_cases env entry e one) (Contains-push_cases env entry f two) same;
  just = subst (λ (ns : List ℕ). HasJust nat_cmp ns new) (sym (map-append number env (entry ∷ [])))
      (just_more nat_cmp number_same number_self (map number env) old new entry.state.0 it.just updates);
}
  where
    unlike : (e : EnvEntry) → Contains env e → e.state.0 ≡ entry.state.0 → ⊥
    unlike e there same = absent (record { is = (it.just entry.state.0).1 (subst (Contains (map number env)) same (Contains-map number env e there)) })

    go : (e f : EnvEntry) → Contains env e ⊎ (entry ≡ e) → Contains env f ⊎ (entry ≡ f) → e.state.0 ≡ f.state.0 → e.binder ≡ f.binder
    go e f (inl one) (inl two) same = it.apart e f one two same
    go e f (inl one) (inr last) same = absurd (unlike e one (same ∙ sym (ap number last)))
    go e f (inr last) (inl two) same = absurd (unlike f two (sym same ∙ sym (ap number last)))
    go e f (inr last) (inr also) same = ap (λ (x : EnvEntry). x.binder) (sym last ∙ also)

pub separate : (s : Scheme) (states : BTreeSet ℕ) → AreApart s.env states → ((k : ℕ) → HasStatesIn (λ q. IsFree states) (polarity_at s.automaton k) (head_at s.automaton k)) → AreSeparate s
separate s states it free = record {
  apart = it.apart;
  free = λ k. states_more (λ q. IsFree states) (λ q. IsOfNoBinder s) (λ q j none. no_binder j none) (polarity_at s.automaton k) (head_at s.automaton k) (free k);
}
  where
    no_binder : (j : ℕ) → IsFree states j → IsOfNoBinder s j
    no_binder j none entry there same = none (record { is = (it.just j).1 (subst (Contains (map number s.env)) same (Contains-map number s.env entry there)) })

pub known_type : (binders : List ℕ) (around : BTreeSet ℕ) (s : Scheme) → IsScheme s → BindersRise s.env → All (λ (entry : EnvEntry). Has around entry.binder) s.env → AreSeparate s → HasJust nat_cmp binders around → IsKnownType binders s
known_type binders around s scheme rise within apart just = record {
  closed = scheme.automaton;
  root = scheme.root;
  states = λ entry there. scheme.env entry.binder entry.state.0 (entry-found s.env rise entry there);
  around = λ entry there. let h : Has around entry.binder = All-contains (λ (e : EnvEntry). Has around e.binder) s.env entry within there in (just entry.binder).0 h.is;
  found = λ entry there. entry-found s.env rise entry there;
  separate = apart;
}
