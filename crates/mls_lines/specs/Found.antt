-- What is looked up for the lines of a part, and is always found: what is known of its names, where the copies of their
-- types begin, and where branches of conditionals go.
use Rattle.std.specs.Prelude.{◌≡◌, ℕ, List, Contains, IsSome, Some}
use Rattle.std.specs.BTreeMap.{BTreeMap, get}
use Rattle.std.specs.Ordering.{nat_cmp}
use Rattle.mls_automaton.specs.declared.scheme.Scheme.{Scheme}
use Rattle.mls_term.specs.declared.term.TermForm.{TermForm}
use Rattle.mls_term.specs.declared.term.TermForm.TheVariants as form
use Rattle.mls_term.specs.declared.term.TermNode.{TermNode}
use Rattle.mls_deriv.specs.Steps.{form_at}
use Rattle.mls_parts.specs.declared.pose.Posing.{Posing}
use Rattle.mls_lines.specs.declared.known.FirstPart.{FirstPart}
use Rattle.mls_lines.specs.declared.known.GlobalAt.{GlobalAt}

-- name g of the environment has a place, and node i a copy of its type
pub record HasPlace (globals : BTreeMap ℕ GlobalAt) (p : Posing) (g i : ℕ) : Type 0 where
  pub place : IsSome (get nat_cmp globals g)
  pub copy : IsSome (get nat_cmp p.copies i)

-- the first part of let k is known, with its type, and node i has a copy of that
pub record HasFirst (firsts : BTreeMap ℕ FirstPart) (lets : BTreeMap ℕ Scheme) (p : Posing) (k i : ℕ) : Type 0 where
  pub part : IsSome (get nat_cmp firsts k)
  pub type : IsSome (get nat_cmp lets k)
  pub copy : IsSome (get nat_cmp p.copies i)

-- each let whose type is known has its first part
abbrev pub HaveFirsts : BTreeMap ℕ Scheme → BTreeMap ℕ FirstPart → Type 0
HaveFirsts lets firsts = (k : ℕ) → IsSome (get nat_cmp lets k) → IsSome (get nat_cmp firsts k)

module _ (globals : BTreeMap ℕ GlobalAt) (firsts : BTreeMap ℕ FirstPart) (lets : BTreeMap ℕ Scheme) (p : Posing) where
  -- what is looked up for node i of this form is there
  abbrev pub IsFound : TermForm → (i : ℕ) → Type 0
  IsFound (form.Inner k) i = HasFirst firsts lets p k i
  IsFound (form.Global g) i = HasPlace globals p g i
  IsFound (form.Let k j l) i = HasFirst firsts lets p k i
  IsFound (form.If j k l) i = IsSome (get nat_cmp p.results i)
  IsFound _ i = Unit {0}

  -- so it is for the nodes of a part
  abbrev pub AreFound : List TermNode → (members : List ℕ) → Type 0
  AreFound nodes members = (i : ℕ) (f : TermForm) → Contains members i → form_at nodes i ≡ Some f → IsFound f i
