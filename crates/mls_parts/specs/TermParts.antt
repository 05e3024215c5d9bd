-- The parts of a term: the first part of each let, and the whole, each without the parts that lie in it.
use Rattle.std.specs.Prelude.{◌≡◌, ◌⊎◌, ℕ, suc, ◌<◌, List, length, Contains, IsSome, Some, None}
use Rattle.std.specs.BTreeMap.{BTreeMap, get}
use Rattle.std.specs.Ordering.{nat_cmp}
use Rattle.mls_automaton.specs.Sets.{Rises}
use Rattle.mls_term.specs.declared.term.TermForm.{TermForm}
use Rattle.mls_term.specs.declared.term.TermForm.TheVariants as form
use Rattle.mls_term.specs.declared.term.TermNode.{TermNode}
use Rattle.mls_deriv.specs.Steps.{form_at}
use Rattle.mls_parts.specs.declared.split.TermPart.{TermPart}
use Rattle.mls_parts.specs.NodeTypes.{IsNodeOf}

-- node i is the first part of a let of this form
abbrev pub IsFirstPart : TermForm → ℕ → Type 0
IsFirstPart (form.Let k j l) i = i ≡ j
IsFirstPart _ i = ⊥

-- node r is the root of a part: the last node, or the first part of a let
abbrev pub IsPartRoot : List TermNode → ℕ → Type 0
IsPartRoot nodes r =
    (suc r ≡ length nodes) ⊎ ((i : ℕ) × (f : TermForm) × (form_at nodes i ≡ Some f) × IsFirstPart f r)

-- The part with this root: its nodes in rising order, and the let of which it is the first part.
pub record IsTermPart (nodes : List TermNode) (r : ℕ) (part : TermPart) : Type 0 where
  pub root : IsPartRoot nodes r
  pub rises : Rises part.nodes
  pub all : (j : ℕ) → IsNodeOf nodes r j → Contains part.nodes j
  pub only : (j : ℕ) → Contains part.nodes j → (j < length nodes) × IsNodeOf nodes r j
  pub of_let : (k : ℕ) → part.of_let ≡ Some k → (i l : ℕ) × (form_at nodes i ≡ Some (form.Let k r l))
  pub of_none : part.of_let ≡ None → (i k l : ℕ) → form_at nodes i ≡ Some (form.Let k r l) → ⊥

-- the parts by the numbers of their roots
pub record AreTermParts (nodes : List TermNode) (parts : BTreeMap ℕ TermPart) : Type 0 where
  pub part : (r : ℕ) (part : TermPart) → get nat_cmp parts r ≡ Some part → IsTermPart nodes r part
  pub there : (r : ℕ) → IsPartRoot nodes r → IsSome (get nat_cmp parts r)
