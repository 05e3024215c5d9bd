-- What the reader of pieces holds, as the machine has it, and what it gives.
use Rattle.std.specs.Prelude.{◌≡◌, true, List, [], ◌∷◌, reverse}
use Rattle.std.specs.BTreeMap.{get}
use Rattle.std.specs.Ordering.{nat_cmp}
use Rattle.std.specs.Cmp.Lexicographic.{slice_cmp}
use Rattle.mls_typetext.specs.declared.scheme.TypeFault.{TypeFault}
use Rattle.mls_typetext.specs.declared.piece.Piece.{Piece}
use Rattle.mls_typetext.specs.declared.piece.Item.{Item}
use Rattle.mls_typetext.specs.declared.resolve.NameTask.{NameTask}
use Rattle.mls_typetext.specs.declared.resolve.NameReader.{NameReader}
use Rattle.mls_typetext.specs.Trees.{TypeTree}
use Rattle.mls_typetext.specs.Faults.{faults}
use Rattle.mls_typetext.specs.steps.Pieces.{postorder}
use Rattle.mls_typetext.specs.steps.Items.{items}
use Rattle.mls_typetext.specs.steps.NameMachine.{Known}
use Rattle.mls_typetext.specs.steps.LabelLists.{is_among}

abbrev pub tasks_of : NameReader → List NameTask
tasks_of r = reverse r.tasks.items

abbrev pub known_of : NameReader → Known
known_of r = record {
  recs = get (slice_cmp nat_cmp) r.recs;
  labels = is_among r.labels;
  fault = r.fault;
  items = r.items.items;
}

-- the pieces are those of no tree with a fault, and these are its items from the last to the first
abbrev pub GivesItems : List Piece → List Item → Type 0
GivesItems pieces found =
    (t : TypeTree) → pieces ≡ postorder t → (faults true [] 0 t ≡ []) × (found ≡ reverse (items [] t))

-- the pieces are those of no tree with another first fault
abbrev pub GivesFault : List Piece → TypeFault → Type 0
GivesFault pieces fault =
    (t : TypeTree) → pieces ≡ postorder t → (later : List TypeFault) × (faults true [] 0 t ≡ fault ∷ later)
