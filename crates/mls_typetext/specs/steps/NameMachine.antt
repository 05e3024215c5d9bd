-- A machine that reads the pieces of a tree from the last to the first, by a stack of what is still to come.
use Rattle.std.specs.Prelude.{ℕ, suc, ◌-◌, Bool, true, false, not, ◌==◌, ◌||◌, if◌then◌else◌, List, [], ◌∷◌, ◌++◌}
use Rattle.std.specs.Prelude.{bytes_eq, Option, Some, None}
use Rattle.mls_typetext.specs.declared.scheme.TypeFault.{TypeFault}
use Rattle.mls_typetext.specs.declared.scheme.TypeFault.TheVariants.{NotPolar, Unguarded, Contravariant, DuplicateLabel}
use Rattle.mls_typetext.specs.declared.piece.Piece.{Piece}
use Rattle.mls_typetext.specs.declared.piece.Piece.TheVariants as piece
use Rattle.mls_typetext.specs.declared.piece.Item.{Item}
use Rattle.mls_typetext.specs.declared.piece.Item.TheVariants as item
use Rattle.mls_typetext.specs.declared.resolve.NamePlace.{NamePlace}
use Rattle.mls_typetext.specs.declared.resolve.NameTask.{NameTask}
use Rattle.mls_typetext.specs.declared.resolve.NameTask.TheVariants.{Part, Leave, Note}
use Rattle.mls_typetext.specs.Faults.{same}

-- what is known at a place: what the names of the `rec`s around it mean, the labels that the record has so far, the
-- fault that stands first behind the place, and the items behind it, from the last to the first
pub record Known : Type 0 where
  pub recs : List ℕ → Option NamePlace
  pub labels : List ℕ → Bool
  pub fault : Option TypeFault
  pub items : List Item

-- the tasks, the next one first
pub record State : Type 0 where
  pub tasks : List NameTask
  pub known : Known

-- the place of a whole type, and that of what stands in a record, in a codomain, in a domain and in a `rec`
abbrev pub whole_place : NamePlace
whole_place = record { is_positive = true; guards = 0; depth = 0 }

abbrev pub inside : NamePlace → NamePlace
inside p = record { is_positive = p.is_positive; guards = suc p.guards; depth = p.depth }

abbrev pub domain : NamePlace → NamePlace
domain p = record { is_positive = not p.is_positive; guards = suc p.guards; depth = p.depth }

abbrev pub body : NamePlace → NamePlace
body p = record { is_positive = p.is_positive; guards = p.guards; depth = suc p.depth }

-- at the end of a whole type
abbrev pub nothing_known : Known
nothing_known = record { recs = λ x. None; labels = λ x. false; fault = None; items = [] }

abbrev pub told : Item → Known → Known
told item k = record { recs = k.recs; labels = k.labels; fault = k.fault; items = k.items ++ item ∷ [] }

abbrev pub noted : Option TypeFault → Known → Known
noted None k = k
noted (Some fault) k = record { recs = k.recs; labels = k.labels; fault = Some fault; items = k.items }

-- where a name means this, or is no name of a `rec`
abbrev pub naming : List ℕ → Option NamePlace → Known → Known
naming x meaning k =
    record {
      recs = λ y. if bytes_eq x y then meaning else k.recs y;
      labels = k.labels;
      fault = k.fault;
      items =
          k.items;
    }

abbrev pub without_labels : Known → Known
without_labels k = record { recs = k.recs; labels = λ x. false; fault = k.fault; items = k.items }

abbrev pub with_label : List ℕ → Known → Known
with_label label k =
    record { recs = k.recs; labels = λ x. bytes_eq x label || k.labels x; fault = k.fault; items = k.items }

abbrev pub fault_if : Bool → TypeFault → Option TypeFault
fault_if true fault = Some fault
fault_if false fault = None

-- the fault of a name that means a `rec` whose body has this place
abbrev pub name_fault : NamePlace → ℕ → Option NamePlace → Option TypeFault
name_fault p at None = None
name_fault p at (Some b) =
    if b.guards == p.guards then Some (Unguarded at)
    else fault_if (not (same b.is_positive p.is_positive)) (Contravariant at)

-- its item
abbrev pub name_item : NamePlace → List ℕ → Option NamePlace → Item
name_item p x None = item.Variable x
name_item p x (Some b) = item.Again (p.depth - b.depth)

abbrev pub notes : Option TypeFault → List NameTask
notes None = []
notes (Some fault) = Note fault ∷ []

-- what a part at a place becomes once its last piece is read
abbrev pub opened : Piece → NamePlace → List NameTask → Known → State
opened (piece.Name at x) p st k =
    record { tasks = st; known = told (name_item p x (k.recs x)) (noted (name_fault p at (k.recs x)) k) }
opened piece.Bool p st k = record { tasks = st; known = told item.Bool k }
opened piece.Int p st k = record { tasks = st; known = told item.Int k }
opened (piece.Top at) p st k =
    record { tasks = st; known = told item.Top (noted (fault_if p.is_positive (NotPolar at)) k) }
opened (piece.Bot at) p st k =
    record { tasks = st; known = told item.Bot (noted (fault_if (not p.is_positive) (NotPolar at)) k) }
opened piece.Arrow p st k = record { tasks = Part (inside p) ∷ Part (domain p) ∷ st; known = told item.Arrow k }
opened (piece.Join at) p st k =
    record {
      tasks = Part p ∷ notes (fault_if (not p.is_positive) (NotPolar at)) ++ Part p
          ∷ st;
      known = told item.Join k;
    }
opened (piece.Meet at) p st k =
    record { tasks = Part p ∷ notes (fault_if p.is_positive (NotPolar at)) ++ Part p ∷ st; known = told item.Meet k }
opened (piece.Rec x) p st k =
    record { tasks = Part (body p) ∷ Leave x (k.recs x) ∷ st; known = told item.Rec (naming x (Some (body p)) k) }
opened piece.Record p st k = record { tasks = Part (inside p) ∷ st; known = told item.Record (without_labels k) }
opened piece.Last p st k = record { tasks = st; known = told item.Last k }
opened (piece.Field at label) p st k = record {
  tasks = Part p ∷ Part p ∷ notes (fault_if (k.labels label) (DuplicateLabel at)) ++ st;
  known = told (item.Field label) (with_label label k);
}

-- one piece: what is to do before it is done
unfoldable pub taken : Piece → List NameTask → Known → State
taken piece [] k = record { tasks = []; known = k }
taken piece (Part p ∷ st) k = opened piece p st k
taken piece (Leave x outer ∷ st) k = taken piece st (naming x outer k)
taken piece (Note fault ∷ st) k = taken piece st (noted (Some fault) k)

-- and where no piece is left
unfoldable pub ended : List NameTask → Known → Known
ended [] k = k
ended (Part p ∷ st) k = ended st k
ended (Leave x outer ∷ st) k = ended st (naming x outer k)
ended (Note fault ∷ st) k = ended st (noted (Some fault) k)

-- what is known in the end, where the pieces are given from the last to the first
unfoldable pub known_after : List NameTask → Known → List Piece → Known
known_after st k [] = ended st k
known_after st k (piece ∷ pieces) =
    let next = taken piece st k in
    known_after next.tasks next.known pieces
