-- What is looked at of a scheme that a text says makes it one.
use Rattle.std.proofs.Common.{◌≡◌, inl, inr, ℕ, ◌<◌, ◌-◌, List, length, get_or, sym, ap, subst, arith, All}
use Rattle.std.proofs.lemmas.Bool.{cases_lt}
use Rattle.std.proofs.lemmas.List.{get_or_default}
use Rattle.std.proofs.lemmas.List.Elements.{All-contains}
use Rattle.mls_automaton.specs.declared.automaton.Polarity.TheVariants.{Positive, Negative}
use Rattle.mls_automaton.specs.declared.scheme.EnvEntry.{EnvEntry}
use Rattle.mls_automaton.specs.declared.scheme.Scheme.{Scheme}
use Rattle.mls_automaton.specs.Automata.{IsState}
use Rattle.mls_automaton.specs.Environments.{BindersRise}
use Rattle.mls_automaton.specs.Models.{IsClosed}
use Rattle.mls_automaton.specs.Schemes.{IsScheme}
use Rattle.mls_automaton.proofs.Reaching.{found-entry}

pub checked : (s : Scheme) (entries : List EnvEntry) → entries ≡ s.env → IsClosed s.automaton → IsState s.automaton Positive s.root.0 → All (λ (entry : EnvEntry). IsState s.automaton Negative entry.state.0) entries → IsScheme s
checked s entries same closed root all = record {
  automaton = closed;
  root = root;
  env = λ x n e.
      let it = found-entry s.env x n e in
      subst (IsState s.automaton Negative) it.3
      (All-contains (λ (entry : EnvEntry). IsState s.automaton Negative entry.state.0) s.env it.0 (subst (λ (es : List EnvEntry). All (λ (entry : EnvEntry). IsState s.automaton Negative entry.state.0) es) same all) it.1);
}

-- a number above the binder of the last entry is above all
pub all_below : (env : List EnvEntry) (d : EnvEntry) (x : ℕ) → BindersRise env → (get_or env (length env - 1) d).binder < x → All (λ (other : EnvEntry). other.binder < x) env
all_below env d x rise low k e here =
    let same : (get_or env k e).binder ≡ (get_or env k d).binder = ap (λ (o : EnvEntry). o.binder) (get_or_default env k e d here) in
    elim (cases_lt k (length env - 1)) [
      | inl before ↦
          let h : (get_or env k d).binder < (get_or env (length env - 1) d).binder = rise k (length env - 1) d before (omega arith) in
          omega arith
      | inr after ↦
          let last : k ≡ length env - 1 = omega arith in
          let h : (get_or env k d).binder < x = subst (λ j. (get_or env j d).binder < x) (sym last) low in
          omega arith
    ]
