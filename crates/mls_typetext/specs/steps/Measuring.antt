-- A machine that numbers the variables of a type and measures its parts, piece by piece from the first to the last.
use Rattle.std.specs.Prelude.{◌≡◌, ℕ, ◌+◌, suc, List, [], ◌∷◌, ◌++◌, reverse, length, Some, None, bytes_eq}
use Rattle.std.specs.List.{position_or_len}
use Rattle.mls_typetext.specs.declared.piece.Size.{Size}
use Rattle.mls_typetext.specs.declared.piece.Item.{Item}
use Rattle.mls_typetext.specs.declared.piece.Item.TheVariants as item
use Rattle.mls_typetext.specs.declared.piece.Member.{Member}
use Rattle.mls_typetext.specs.declared.piece.Member.TheVariants as member
use Rattle.mls_typetext.specs.declared.measure.Measuring.{Measuring}
use Rattle.mls_typetext.specs.declared.measure.Measured.{Measured}
use Rattle.mls_typetext.specs.Trees.{TypeTree}
use Rattle.mls_typetext.specs.steps.Items.{items}
use Rattle.mls_typetext.specs.Books.{variables, type_of}
use Rattle.mls_typetext.specs.steps.Variables.{with_name}
use Rattle.mls_typetext.specs.steps.Members.{outer, size_of, members}

-- the variables so far; the sizes of the parts that belong to nothing yet and how many nodes lie below the fields of
-- records that are open, both the nearest first; and the pieces
pub record State : Type 0 where
  pub names : List (List ℕ)
  pub sizes : List Size
  pub totals : List ℕ
  pub pieces : List Member

abbrev pub state_of : Measuring → State
state_of it = record {
  names = it.names;
  sizes = reverse it.sizes.items;
  totals = reverse it.totals.items;
  pieces = it.members.items;
}

abbrev pub size : (here under : ℕ) → Size
size here under = record { here = here; under = under; again = None }

abbrev pub again_size : ℕ → Size
again_size k = record { here = 0; under = 0; again = Some k }

abbrev pub nodes_in : Size → ℕ
nodes_in a = a.here + a.under

abbrev pub arrow_size : Size → Size → Size
arrow_size a b = size 1 (nodes_in a + nodes_in b)

abbrev pub join_size : Size → Size → Size
join_size a b = size (suc (a.here + b.here)) (a.under + b.under)

abbrev pub rec_size : Size → Size
rec_size a = record { here = a.here; under = a.under; again = outer a.again }

-- the nearest, which is always there
abbrev pub first_size : List Size → Size
first_size [] = size 0 0
first_size (a ∷ rest) = a

abbrev pub other_sizes : List Size → List Size
other_sizes [] = []
other_sizes (a ∷ rest) = rest

abbrev pub first_total : List ℕ → ℕ
first_total [] = 0
first_total (n ∷ ns) = n

abbrev pub other_totals : List ℕ → List ℕ
other_totals [] = []
other_totals (n ∷ ns) = ns

-- one piece more, of a part of this size
abbrev pub add : Member → Size → State → State
add member size s =
    record { names = s.names; sizes = size ∷ s.sizes; totals = s.totals; pieces = s.pieces ++ member ∷ [] }

abbrev pub named : List ℕ → State → State
named x s = record { names = with_name s.names x; sizes = s.sizes; totals = s.totals; pieces = s.pieces }

abbrev pub without_size : State → State
without_size s = record { names = s.names; sizes = other_sizes s.sizes; totals = s.totals; pieces = s.pieces }

abbrev pub without_total : State → State
without_total s = record { names = s.names; sizes = s.sizes; totals = other_totals s.totals; pieces = s.pieces }

abbrev pub add_total : Member → ℕ → State → State
add_total member total s =
    record { names = s.names; sizes = s.sizes; totals = total ∷ s.totals; pieces = s.pieces ++ member ∷ [] }

abbrev pub measured : Item → State → State
measured (item.Variable x) s = add (member.Var (position_or_len (bytes_eq x) s.names)) (size 1 0) (named x s)
measured (item.Again k) s = add (member.Again k) (again_size k) s
measured item.Bool s = add member.Bool (size 1 0) s
measured item.Int s = add member.Int (size 1 0) s
measured item.Top s = add member.Top (size 1 0) s
measured item.Bot s = add member.Bot (size 1 0) s
measured item.Arrow s =
    let b = first_size s.sizes in
    let a = first_size (other_sizes s.sizes) in
    add (member.Arrow a b) (arrow_size a b) (without_size (without_size s))
measured item.Join s =
    let b = first_size s.sizes in
    let a = first_size (other_sizes s.sizes) in
    add (member.Join a b) (join_size a b) (without_size (without_size s))
measured item.Meet s =
    let b = first_size s.sizes in
    let a = first_size (other_sizes s.sizes) in
    add (member.Meet a b) (join_size a b) (without_size (without_size s))
measured item.Rec s = let a = first_size s.sizes in add (member.Rec a) (rec_size a) (without_size s)
measured item.Record s = add member.Record (size 1 (first_total s.totals)) (without_total s)
measured item.Last s = add_total member.Last 0 s
measured (item.Field label) s =
    let a = first_size s.sizes in
    add_total (member.Field label a) (nodes_in a + first_total s.totals) (without_total (without_size s))

unfoldable pub measure_all : State → List Item → State
measure_all s [] = s
measure_all s (item ∷ rest) = measure_all (measured item s) rest

-- what was measured belongs to this type, which has so many variables
pub record IsMeasureOf (m : Measured) (t : TypeTree) : Type 0 where
  pub pieces : m.members.items ≡ members (type_of t)
  pub whole : m.size ≡ size_of (type_of t)
  pub count : m.vars ≡ length (variables t)

-- it does where these are the pieces of the type's tree, from the last to the first
abbrev pub Measures : List Item → Measured → Type 0
Measures all m = (t : TypeTree) → all ≡ reverse (items [] t) → IsMeasureOf m t
