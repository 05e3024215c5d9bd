-- What is wrong with the tree of a type.
use Rattle.std.specs.Prelude.{ℕ, suc, Bool, true, false, not, ◌==◌, if◌then◌else◌, List, [], ◌∷◌, ◌++◌, find, bytes_eq}
use Rattle.std.specs.Prelude.{Option, Some, None}
use Rattle.std.specs.List.{list_any}
use Rattle.mls_typetext.specs.declared.scheme.TypeFault.{TypeFault}
use Rattle.mls_typetext.specs.declared.scheme.TypeFault.TheVariants.{NotPolar, Unguarded, Contravariant, DuplicateLabel}
use Rattle.mls_typetext.specs.Trees.{TypeTree, a_name, a_bool, an_int, a_top, a_bot, an_arrow, a_record, a_join, a_meet}
use Rattle.mls_typetext.specs.Trees.{a_rec, TypeFields, no_field, a_field}

-- a `rec` around a part: its name, whether its place is positive, and how many functions and records are around it
pub record Around : Type 0 where
  pub x : List ℕ
  pub is_positive : Bool
  pub guards : ℕ

-- the nearest `rec` of a name
abbrev pub nearest : List Around → List ℕ → Option Around
nearest around x = find (λ r. bytes_eq r.x x) around

-- two truth values are the same
abbrev pub same : Bool → Bool → Bool
same true b = b
same false b = not b

-- the fault of a recursive name at a place of this sign with so many functions and records around it
abbrev pub name_faults : (is_positive : Bool) (guards at : ℕ) → Option Around → List TypeFault
name_faults is_positive guards at None = []
name_faults is_positive guards at (Some r) =
    if r.guards == guards then Unguarded at ∷ []
    else (if same r.is_positive is_positive then [] else Contravariant at ∷ [])

-- All faults of a tree in the order of the text, at a place of this sign, under these `rec`s, with so many functions
-- and records around it. The whole type has a positive place; a domain has the other sign than its function, and every
-- other part the sign of what it is part of.
abbrev mutual
  pub faults : (is_positive : Bool) → List Around → ℕ → TypeTree → List TypeFault
  faults is_positive around guards (a_name at x) = name_faults is_positive guards at (nearest around x)
  faults is_positive around guards a_bool = []
  faults is_positive around guards an_int = []
  faults is_positive around guards (a_top at) = if is_positive then NotPolar at ∷ [] else []
  faults is_positive around guards (a_bot at) = if is_positive then [] else NotPolar at ∷ []
  faults is_positive around guards (an_arrow from to) =
      faults (not is_positive) around (suc guards) from ++ faults is_positive around (suc guards) to
  faults is_positive around guards (a_record fields) = field_faults is_positive around (suc guards) [] fields
  faults is_positive around guards (a_join left at right) =
      faults is_positive around guards left ++ (if is_positive then [] else NotPolar at ∷ [])
      ++ faults is_positive around guards right
  faults is_positive around guards (a_meet left at right) =
      faults is_positive around guards left ++ (if is_positive then NotPolar at ∷ [] else [])
      ++ faults is_positive around guards right
  faults is_positive around guards (a_rec x t) =
      faults is_positive (record { x = x; is_positive = is_positive; guards = guards } ∷ around) guards t

  -- the faults of fields, where a record has these labels before them
  pub field_faults : (is_positive : Bool) → List Around → ℕ → List (List ℕ) → TypeFields → List TypeFault
  field_faults is_positive around guards labels no_field = []
  field_faults is_positive around guards labels (a_field at label t rest) =
      (if list_any (bytes_eq label) labels then DuplicateLabel at ∷ [] else [])
      ++ faults is_positive around guards t
      ++ field_faults is_positive around guards (label ∷ labels) rest
