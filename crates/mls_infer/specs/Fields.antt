-- Known types that stand apart from the table of a term, and the types of their fields.
use Rattle.std.specs.Prelude.{◌≡◌, ℕ, List, [], ◌∷◌, Option, Some, None}
use Rattle.std.specs.BTreeMap.{BTreeMap, get}
use Rattle.std.specs.Ordering.{nat_cmp}
use Rattle.std.specs.declared.alloc.Global.{Global}
use Rattle.std.specs.declared.rc.Rc.{Rc}
use Rattle.mls_book.specs.Schemes as book
use Rattle.mls_automaton.specs.declared.automaton.FieldSet.{FieldSet}
use Rattle.mls_automaton.specs.declared.automaton.Head.{Head}
use Rattle.mls_automaton.specs.declared.scheme.Scheme.{Scheme}
use Rattle.mls_automaton.specs.Automata.{HasFlow}
use Rattle.mls_automaton.specs.Environments.{BindersRise}
use Rattle.mls_automaton.specs.Heads.{set_at}
use Rattle.mls_automaton.specs.Schemes.{IsScheme}
use Rattle.mls_biunify.specs.Live.{IsLive, Live}
use Rattle.mls_infer.specs.declared.named.Fields.{Fields}
use Rattle.mls_infer.specs.declared.named.Named.{Named}
use Rattle.mls_infer.specs.Constraints.{HasStates, no_goals, project_constraint, record_head}
use Rattle.mls_infer.specs.Finishing.{IsRead}
use Rattle.mls_infer.specs.Merges.{HaveSameTypes}
use Rattle.mls_infer.specs.Pending.{Waits, part_in}
use Rattle.mls_infer.specs.Regions.{TablePart, scheme_at}
use Rattle.mls_infer.specs.Steps.{IsSolution}

-- the head has a record and nothing else, and the field of this label has this state and no other
abbrev pub HasOnly : Head → List ℕ → ℕ → Type 0
HasOnly h label n = (fields : List FieldSet) × (h ≡ record_head fields) × (set_at fields label ≡ Some (n ∷ []))

-- The second scheme has just the types of the projection from the first, or from another one with the same types.
pub record IsFieldOf (label : List ℕ) (s t : Scheme) : Type 0 where
  pub taken : Scheme
  pub states : HasStates taken
  pub alike : HaveSameTypes (no_goals s) (no_goals taken)
  pub solution : IsSolution (project_constraint label taken) t

-- a part of a table, whose binders rise, and to whose root no edge leads
pub record IsRecord (live : Live) (part : TablePart) : Type 0 where
  pub is_live : IsLive live
  pub waits : Waits live part
  pub rise : BindersRise part.env
  pub free : (n : ℕ) → HasFlow live.table n part.root.0 → ⊥

-- it has the types of the scheme
abbrev pub HasRecord : Scheme → Option Fields → Type 0
HasRecord s None = Unit {0}
HasRecord s (Some fields) = IsRecord fields.live (part_in fields.part)
    × HaveSameTypes (no_goals s) (no_goals (scheme_at fields.live.table (part_in fields.part)))

-- a known type: its scheme, and the table of its fields, where there is one
pub record IsKnownType (named : Named) : Type 0 where
  pub scheme : IsScheme named.scheme
  pub rise : BindersRise named.scheme.env
  pub fields : HasRecord named.scheme named.fields

-- a known type that all its uses share
abbrev pub Shared : Type 0
Shared = Rc Named Global

-- each of these is the type of the name of this number
abbrev pub AreReads : List book.Scheme → BTreeMap ℕ Shared → Type 0
AreReads globals reads = (g : ℕ) (r : Shared) → get nat_cmp reads g ≡ Some r
    → IsKnownType r.value × IsRead globals g r.value.scheme
