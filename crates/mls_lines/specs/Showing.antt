-- Which tops of a read type show its variables, one top after another.
use Rattle.std.specs.Prelude.{◌≡◌, ◌↔◌, ◌⊎◌, ℕ, ◌<◌, Bool, true, false, List, [], ◌∷◌, ◌++◌, Contains, Option, Some}
use Rattle.std.specs.BTreeMap.{BTreeMap, get}
use Rattle.std.specs.Option.{unwrap_or}
use Rattle.std.specs.Ordering.{nat_cmp}
use Rattle.mls_book.specs.declared.book.Node.{Node}
use Rattle.mls_automaton.specs.declared.automaton.Polarity.{Polarity}
use Rattle.mls_automaton.specs.declared.automaton.Polarity.TheVariants.{Negative}
use Rattle.mls_scheme.specs.ReadAutomata.{HasVariable}
use Rattle.mls_scheme.specs.steps.Signs.{sign_at, AreSigned}

-- the states that show a variable
abbrev pub shown_by : BTreeMap ℕ (List ℕ) → ℕ → List ℕ
shown_by showing x = unwrap_or (get nat_cmp showing x) []

-- the states with one more at the end, or as they are
abbrev pub with_state : Bool → ℕ → Option (List ℕ) → Option (List ℕ)
with_state true state states = Some (unwrap_or states [] ++ state ∷ [])
with_state false state states = states

-- the state came to those that show these variables
pub record AddsShown (IsShown : ℕ → Type 0) (state : ℕ) (old new : BTreeMap ℕ (List ℕ)) : Type 0 where
  pub members : (x k : ℕ) → Contains (shown_by new x) k ↔ Contains (shown_by old x) k ⊎ (IsShown x × (k ≡ state))

-- of the tops below this number, where they have these signs, the negative ones show each variable that they have
abbrev pub ShowTopsTo : ℕ → List Node → List (Option Polarity) → BTreeMap ℕ (List ℕ) → Type 0
ShowTopsTo n nodes signs showing = (x k : ℕ)
    → Contains (shown_by showing x) k ↔ (k < n) × (sign_at signs k ≡ Some Negative) × HasVariable nodes k x

-- Just the negative tops of the book that have a variable show it, where the tops are those that the root leads to.
pub record ShowTops (nodes : List Node) (root : ℕ) (showing : BTreeMap ℕ (List ℕ)) : Type 0 where
  pub signs : List (Option Polarity)
  pub signed : AreSigned nodes root signs
  pub members : (x k : ℕ)
      → Contains (shown_by showing x) k ↔ (sign_at signs k ≡ Some Negative) × HasVariable nodes k x
