-- Copies of known types in a constraint whose binders have what is needed of them.
use Rattle.std.specs.Prelude.{◌≡◌, ℕ, ◌<◌, ◌+◌, length, Contains, Option, Some}
use Rattle.std.specs.BTreeMap.{BTreeMap, get}
use Rattle.std.specs.Ordering.{nat_cmp}
use Rattle.mls_automaton.specs.declared.scheme.EnvEntry.{EnvEntry}
use Rattle.mls_automaton.specs.declared.scheme.Scheme.{Scheme}
use Rattle.mls_automaton.specs.Automata.{Automaton, head_at, polarity_at, HasFlow}
use Rattle.mls_automaton.specs.Heads.{parts_of}
use Rattle.mls_automaton.specs.Models.{HasStatesIn}
use Rattle.mls_flow.specs.Simulations.{IsHeadWithin}
use Rattle.mls_term.specs.declared.term.TermForm.{TermForm}
use Rattle.mls_term.specs.declared.term.TermForm.TheVariants as form

-- the state is that of no binder
abbrev pub IsOfNoBinder : Scheme → ℕ → Type 0
IsOfNoBinder s k = (entry : EnvEntry) → Contains s.env entry → entry.state.0 ≡ k → ⊥

-- no two binders have one state, and no head names the state of a binder
pub record AreSeparate (s : Scheme) : Type 0 where
  pub apart : (entry other : EnvEntry) → Contains s.env entry → Contains s.env other
      → entry.state.0 ≡ other.state.0 → entry.binder ≡ other.binder
  pub free : (k : ℕ) → HasStatesIn (λ p. IsOfNoBinder s) (polarity_at s.automaton k) (head_at s.automaton k)

-- Each state of the known type has a copy with its polarity, in whose head its own lies, and each edge goes between the
-- copies of its ends. The copies of the states of binders are those of the binders around.
pub record IsCopyMet (a : Automaton) (binder : ℕ → ℕ) (s : Scheme) (copy : ℕ → ℕ) : Type 0 where
  pub polarity : (k : ℕ) → polarity_at a (copy k) ≡ polarity_at s.automaton k
  pub heads : (k : ℕ) → IsHeadWithin (λ x y. copy x ≡ y) (polarity_at s.automaton k) (parts_of (head_at s.automaton k))
      (parts_of (head_at a (copy k)))
  pub flows : (k l : ℕ) → HasFlow s.automaton k l → HasFlow a (copy k) (copy l)
  pub bound : (entry : EnvEntry) → Contains s.env entry → copy entry.state.0 ≡ binder entry.binder

-- Node `i` has a copy of the known type. The first state of the copy is noted, and each state that is that of no binder
-- has its copy as far behind that one as its number says.
pub record HasCopy (a : Automaton) (binder : ℕ → ℕ) (copies : BTreeMap ℕ ℕ) (i : ℕ) (s : Scheme) : Type 0 where
  pub copy : ℕ → ℕ
  pub met : IsCopyMet a binder s copy
  pub first : ℕ
  pub noted : get nat_cmp copies i ≡ Some first
  pub stands : (k : ℕ) → k < length s.automaton.states → IsOfNoBinder s k → copy k ≡ first + k

-- a name has a copy of its known type, of whose root the copy is its root, and a let one of that of its first part
module _ (known_global known_let : ℕ → Option Scheme) (a : Automaton) (root binder : ℕ → ℕ) (copies : BTreeMap ℕ ℕ)
    (i : ℕ) where
  abbrev pub IsUseMet : TermForm → Type 0
  IsUseMet (form.Inner k) = (s : Scheme) × (known_let k ≡ Some s) × (has : HasCopy a binder copies i s)
      × (root i ≡ has.copy s.root.0)
  IsUseMet (form.Global g) = (s : Scheme) × (known_global g ≡ Some s) × (has : HasCopy a binder copies i s)
      × (root i ≡ has.copy s.root.0)
  IsUseMet (form.Let k j l) = (s : Scheme) × (known_let k ≡ Some s) × HasCopy a binder copies i s
  IsUseMet _ = ⊥
