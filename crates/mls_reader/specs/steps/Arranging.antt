-- The machine that puts the pieces of a module into the order of the nodes. It reads them and tells them from the last
-- to the first.
use Rattle.std.specs.Prelude.{ℕ, zero, suc, Bool, true, false, List, [], ◌∷◌, ◌++◌}
use Rattle.mls_reader.specs.declared.piece.Piece.{Piece}
use Rattle.mls_reader.specs.declared.piece.Piece.TheVariants as piece
use Rattle.mls_reader.specs.declared.nodes.Later.{Later}
use Rattle.mls_reader.specs.declared.nodes.Later.TheVariants.{Part, Tell}

-- an operator behind both of its operands
abbrev pub is_operator : Piece → Bool
is_operator (piece.Binary at o) = true
is_operator p = false

-- a piece as the nodes have it: behind both of its operands an operator is applied
abbrev pub node_piece : Piece → Piece
node_piece (piece.Binary at o) = piece.Apply at
node_piece p = p

-- how many parts stand before a piece
abbrev pub part_count : Piece → ℕ
part_count (piece.Fun at x) = 1
part_count (piece.Rec at x) = 1
part_count (piece.Project at label) = 1
part_count (piece.Make at) = 1
part_count (piece.Binding at x) = 1
part_count (piece.Let at x) = 2
part_count (piece.Apply at) = 2
part_count (piece.Binary at o) = 2
part_count (piece.Field label) = 2
part_count (piece.If at) = 3
part_count _ = 0

-- this many parts
abbrev pub parts : ℕ → List Later
parts zero = []
parts (suc n) = Part ∷ parts n

-- what stands before a piece, the nearest first: an operator is applied to its left operand, and stands alone before it
abbrev pub fronts : Piece → List Later
fronts (piece.Binary at o) = Part ∷ Tell (piece.Apply at) ∷ Part ∷ Tell (piece.Operator at o) ∷ []
fronts p = parts (part_count p)

-- what is to be told before the next part
abbrev pub told : List Later → List Piece
told (Tell p ∷ st) = p ∷ told st
told _ = []

-- and what is left behind that part
abbrev pub left : List Later → List Later
left (Tell p ∷ st) = left st
left (Part ∷ st) = st
left [] = []

-- what is told of these pieces, where this stands before those that were read
unfoldable pub arrangement : List Later → List Piece → List Piece
arrangement st [] = told st
arrangement st (p ∷ ps) = told st ++ (node_piece p ∷ arrangement (fronts p ++ left st) ps)
