-- The scheme of a use of a binder is a scheme, and a scheme without one of its binders is one.
use Rattle.std.proofs.Common.{◌≡◌, ◌≢◌, inl, inr, ℕ, Bool, true, false, Some, None, refl, sym, ap, ◌∙◌, subst, arith, cond, ◌==◌}
use Rattle.std.specs.Prelude.{option_map}
use Rattle.std.proofs.lemmas.Bool.Decides.{eqb_tells}
use Rattle.mls_automaton.specs.declared.automaton.Polarity.TheVariants.{Positive, Negative}
use Rattle.mls_automaton.specs.declared.scheme.EnvEntry.{EnvEntry}
use Rattle.mls_automaton.specs.declared.scheme.Scheme.{Scheme}
use Rattle.mls_automaton.specs.declared.state_set.StateId.{StateId}
use Rattle.mls_automaton.specs.Automata.{Automaton, IsState}
use Rattle.mls_automaton.specs.Models.{IsClosed}
use Rattle.mls_automaton.specs.Schemes.{state_of, IsScheme}
use Rattle.mls_automaton.proofs.Small.{use_automaton, use_closed}
use Rattle.mls_scheme.specs.Smallest.{lambda_scheme}

pub lambda_is_scheme : (binder : ℕ) → IsScheme (lambda_scheme binder)
lambda_is_scheme binder = record {
  automaton = use_closed;
  root = record { in_range = omega arith; polarity = refl };
  env = λ x n e. entry (binder == x) n e;
}
  where
    entry : (b : Bool) (n : ℕ) → option_map (λ (e : EnvEntry). e.state.0) (cond b (Some (record { binder = binder; state = record { 0 = 0 } })) None) ≡ Some n → IsState use_automaton Negative n
    entry true n e =
        let same : 0 ≡ n = cc in
        subst (IsState use_automaton Negative) same (record { in_range = omega arith; polarity = refl })
    entry false n e = absurd (cc)

pub dropped_is_scheme : (s u : Scheme) (binder : ℕ) → IsScheme s → u.automaton ≡ s.automaton → u.root ≡ s.root → state_of u.env binder ≡ None → ((x : ℕ) → x ≢ binder → state_of u.env x ≡ state_of s.env x) → IsScheme u
dropped_is_scheme s u binder is same_automaton same_root gone others = record {
  automaton = subst IsClosed (sym same_automaton) is.automaton;
  root =
      subst (λ (a : Automaton). IsState a Positive u.root.0) (sym same_automaton)
      (subst (λ (r : StateId). IsState s.automaton Positive r.0) (sym same_root) is.root);
  env = λ x n e. subst (λ (a : Automaton). IsState a Negative n) (sym same_automaton) (kept x n e);
}
  where
    kept : (x n : ℕ) → state_of u.env x ≡ Some n → IsState s.automaton Negative n
    kept x n e =
        elim (eqb_tells x binder) [
          | inl same ↦
              let none : None ≡ Some n = sym gone ∙ (ap (state_of u.env) (sym same.1) ∙ e) in
              absurd (cc)
          | inr other ↦ is.env x n (sym (others x other.1) ∙ e)
        ]
