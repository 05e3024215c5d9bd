-- Where one atom of a top at most is a function, and one a record, the head of its state has just their parts.
--     bool_atom, int_atom, function_atom, record_atom      an atom with a part is of its kind
--     atom_within                the head of an atom lies within that of the state
--     head_atom                  each kind of the state's head is one of an atom
--     function_of, fields_of     the function and the record of the state's head
use Rattle.std.proofs.Common.{◌≡◌, inl, inr, ℕ, Bool, true, List, [], ◌∷◌, map, Contains, refl, sym, ap, ◌∙◌, Option, Some, None}
use Rattle.std.specs.Prelude.{IsTrue, option_map}
use Rattle.mls_book.specs.declared.book.NodeId.{NodeId}
use Rattle.mls_book.specs.declared.book.Field.{Field}
use Rattle.mls_book.specs.declared.book.Node.{Node}
use Rattle.mls_book.specs.declared.book.Node.TheVariants as node
use Rattle.mls_book.specs.Books.{node_at, field_at}
use Rattle.mls_automaton.specs.declared.automaton.Arms.{Arms}
use Rattle.mls_automaton.specs.declared.automaton.HeadKind.{HeadKind}
use Rattle.mls_automaton.specs.declared.automaton.HeadKind.TheVariants as kind
use Rattle.mls_automaton.specs.declared.automaton.Polarity.{Polarity}
use Rattle.mls_automaton.specs.Automata.{Automaton, head_at}
use Rattle.mls_automaton.specs.Heads.{Parts, parts_of, combined, IsSameSet, IsSameOption}
use Rattle.mls_scheme.specs.ReadAutomata.{atoms, atom_parts, IsReadAutomaton}
use Rattle.mls_flow.specs.Simulations.{IsHeadWithin}
use Rattle.mls_flow.proofs.HeadsWithin.{Same, within-trans, within-combined, within-same}
use Rattle.mls_layout.specs.Heads.{HasKind}
use Rattle.mls_typenodes.specs.OneEach.{is_function, is_record, HaveOneEach}
use Rattle.mls_typenodes.proofs.CombinedParts.{Sets, IsAtMost, IsSameArms, combined_has, kind_same, combined_function, combined_fields}
use Rattle.mls_typenodes.proofs.ReadLayouts.{is_part}

-- an atom with a part is of its kind
pub bool_atom : (x : Node) → (atom_parts x).boolean ≡ true → x ≡ node.Bool
bool_atom node.Bool e = refl
bool_atom node.Bot e = absurd (cc)
bool_atom node.Top e = absurd (cc)
bool_atom (node.Var x) e = absurd (cc)
bool_atom node.Int e = absurd (cc)
bool_atom (node.Arrow j k) e = absurd (cc)
bool_atom (node.Rcd fields) e = absurd (cc)
bool_atom (node.Join j k) e = absurd (cc)
bool_atom (node.Meet j k) e = absurd (cc)

pub int_atom : (x : Node) → (atom_parts x).integer ≡ true → x ≡ node.Int
int_atom node.Int e = refl
int_atom node.Bot e = absurd (cc)
int_atom node.Top e = absurd (cc)
int_atom (node.Var x) e = absurd (cc)
int_atom node.Bool e = absurd (cc)
int_atom (node.Arrow j k) e = absurd (cc)
int_atom (node.Rcd fields) e = absurd (cc)
int_atom (node.Join j k) e = absurd (cc)
int_atom (node.Meet j k) e = absurd (cc)

pub function_atom : (x : Node) (arms : Arms) → (atom_parts x).function ≡ Some arms → (j k : NodeId) × (x ≡ node.Arrow j k)
function_atom (node.Arrow j k) arms e = (j, k, refl)
function_atom node.Bot arms e = absurd (cc)
function_atom node.Top arms e = absurd (cc)
function_atom (node.Var x) arms e = absurd (cc)
function_atom node.Bool arms e = absurd (cc)
function_atom node.Int arms e = absurd (cc)
function_atom (node.Rcd fields) arms e = absurd (cc)
function_atom (node.Join j k) arms e = absurd (cc)
function_atom (node.Meet j k) arms e = absurd (cc)

pub record_atom : (x : Node) (sets : Sets) → (atom_parts x).fields ≡ Some sets → (fields : List Field) × (x ≡ node.Rcd fields)
record_atom (node.Rcd fields) sets e = (fields, refl)
record_atom node.Bot sets e = absurd (cc)
record_atom node.Top sets e = absurd (cc)
record_atom (node.Var x) sets e = absurd (cc)
record_atom node.Bool sets e = absurd (cc)
record_atom node.Int sets e = absurd (cc)
record_atom (node.Arrow j k) sets e = absurd (cc)
record_atom (node.Join j k) sets e = absurd (cc)
record_atom (node.Meet j k) sets e = absurd (cc)

-- a part of a head has a kind, and the other way round
pub part_kind : (x : Node) → is_part x ≡ true → (k : HeadKind) × HasKind (atom_parts x) k
part_kind node.Bool e = (kind.Bool, refl)
part_kind node.Int e = (kind.Int, refl)
part_kind (node.Arrow j k) e = (kind.Function, (record { domain = j.0 ∷ []; codomain = k.0 ∷ [] }, refl))
part_kind (node.Rcd fields) e = (kind.Rcd, ((λ label. option_map (λ (id : NodeId). id.0 ∷ []) (field_at label fields)), refl))
part_kind node.Bot e = absurd (cc)
part_kind node.Top e = absurd (cc)
part_kind (node.Var x) e = absurd (cc)
part_kind (node.Join j k) e = absurd (cc)
part_kind (node.Meet j k) e = absurd (cc)

pub kind_part : (x : Node) (k : HeadKind) → HasKind (atom_parts x) k → is_part x ≡ true
kind_part x kind.Bool e = ap is_part (bool_atom x e)
kind_part x kind.Int e = ap is_part (int_atom x e)
kind_part x kind.Function it = ap is_part (function_atom x it.0 it.1).2
kind_part x kind.Rcd it = ap is_part (record_atom x it.0 it.1).1

-- the sets of the fields of a record
abbrev pub sets_of_fields : List Field → Sets
sets_of_fields fields label = option_map (λ (id : NodeId). id.0 ∷ []) (field_at label fields)

-- where one atom of a top at most is a function, and one a record, its head has the same as theirs
module _ (nodes : List Node) (sign : ℕ → Polarity) (is_top : ℕ → Bool) (b : Automaton) (read : IsReadAutomaton sign is_top nodes b) (one : HaveOneEach nodes is_top)
    (s : ℕ) (top : IsTrue (is_top s)) where
  abbrev atom_head : ℕ → Parts
  atom_head j = atom_parts (node_at nodes j)

  abbrev head : Parts
  head = parts_of (head_at b s)

  abbrev all_heads : Parts
  all_heads = combined (sign s) (map atom_head (atoms nodes s))

  pub atom_within : (j : ℕ) → Contains (atoms nodes s) j → IsHeadWithin Same (sign s) (atom_head j) head
  atom_within j there =
      within-trans Same Same Same (λ x y z e e'. e ∙ e') (sign s) (atom_head j) all_heads head
      (within-combined (sign s) atom_head (atoms nodes s) j there)
      (within-same (sign s) head all_heads (read.heads s top))

  pub head_atom : (k : HeadKind) → HasKind head k → (j : ℕ) × Contains (atoms nodes s) j × HasKind (atom_head j) k
  head_atom k has = combined_has (sign s) atom_head (atoms nodes s) k (kind_same head all_heads (read.heads s top) k has)

  pub function_of : (j : ℕ) → Contains (atoms nodes s) j → (k l : NodeId) → node_at nodes j ≡ node.Arrow k l
      → (found : Arms) × ((head_at b s).function ≡ Some found) × IsSameArms found (record { domain = k.0 ∷ []; codomain = l.0 ∷ [] })
  function_of j there k l is =
      combined_function (sign s) atom_head (atoms nodes s) head (read.heads s top) j there arms at_j
      (λ i there'. other i there' (atom_head i).function refl)
    where
      arms : Arms
      arms = record { domain = k.0 ∷ []; codomain = l.0 ∷ [] }

      at_j : (atom_head j).function ≡ Some arms
      at_j = ap (λ x. (atom_parts x).function) is

      other : (i : ℕ) → Contains (atoms nodes s) i → (o : Option Arms) → (atom_head i).function ≡ o → IsAtMost arms (atom_head i).function
      other i there' None e = inl e
      other i there' (Some found) e =
          let same : j ≡ i = (one s top).function j i there there' (ap is_function is) (ap is_function (function_atom (node_at nodes i) found e).2) in
          inr (ap (λ k. (atom_head k).function) (sym same) ∙ at_j)

  pub fields_of : (j : ℕ) → Contains (atoms nodes s) j → (fields : List Field) → node_at nodes j ≡ node.Rcd fields
      → (found : Sets) × (head.fields ≡ Some found) × ((label : List ℕ) → IsSameOption IsSameSet (found label) (sets_of_fields fields label))
  fields_of j there fields is =
      combined_fields (sign s) atom_head (atoms nodes s) head (read.heads s top) j there (sets_of_fields fields) at_j
      (λ i there'. other i there' (atom_head i).fields refl)
    where
      at_j : (atom_head j).fields ≡ Some (sets_of_fields fields)
      at_j = ap (λ x. (atom_parts x).fields) is

      other : (i : ℕ) → Contains (atoms nodes s) i → (o : Option Sets) → (atom_head i).fields ≡ o → IsAtMost (sets_of_fields fields) (atom_head i).fields
      other i there' None e = inl e
      other i there' (Some found) e =
          let same : j ≡ i = (one s top).fields j i there there' (ap is_record is) (ap is_record (record_atom (node_at nodes i) found e).1) in
          inr (ap (λ k. (atom_head k).fields) (sym same) ∙ at_j)
