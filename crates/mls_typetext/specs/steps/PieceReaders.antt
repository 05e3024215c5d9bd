-- The stack of the reader of types as the machine has it, and what its functions answer.
use Rattle.std.specs.Prelude.{◌≡◌, Bool, true, false, List, [], ◌∷◌, ◌++◌, map, reverse, Option, Some, None}
use Rattle.mls_typetext.specs.declared.piece.Piece.{Piece}
use Rattle.mls_typetext.specs.declared.read.PiecePart.{PiecePart}
use Rattle.mls_typetext.specs.declared.read.PiecePart.TheVariants as part
use Rattle.mls_typetext.specs.declared.read.Todo.{Todo as Kept}
use Rattle.mls_typetext.specs.declared.read.Todo.TheVariants as kept
use Rattle.mls_typetext.specs.declared.read.PieceReader.{PieceReader}
use Rattle.mls_typetext.specs.Phrases.{whole, codomain, join, join_tail, meet, meet_tail, atom, fields, more_fields}
use Rattle.mls_typetext.specs.steps.PieceMachine.{Todo, a, the_rec, the_field, the_dot, the_colon, the_paren, tell, Act}
use Rattle.mls_typetext.specs.steps.PieceMachine.{State, more}

-- a part as the machine has it
abbrev pub part_of : PiecePart → Todo
part_of part.Whole = a whole
part_of part.Codomain = a codomain
part_of part.Join = a join
part_of part.JoinTail = a join_tail
part_of part.Meet = a meet
part_of part.MeetTail = a meet_tail
part_of part.Atom = a atom
part_of part.Fields = a fields
part_of part.MoreFields = a more_fields
part_of part.Binder = the_rec
part_of part.Label = the_field
part_of part.Dot = the_dot
part_of part.Colon = the_colon
part_of part.ParenRight = the_paren

-- a part of which each first token has a kind alone, and no name
abbrev pub IsByKind : PiecePart → Type 0
IsByKind part.Whole = ⊥
IsByKind part.Join = ⊥
IsByKind part.Meet = ⊥
IsByKind part.Atom = ⊥
IsByKind part.Fields = ⊥
IsByKind part.Binder = ⊥
IsByKind part.Label = ⊥
IsByKind _ = Unit {0}

-- what is still to do as the machine has it
abbrev pub todo_of : Kept → Todo
todo_of (kept.Read part) = part_of part
todo_of (kept.Tell piece) = tell piece

-- a stack, from its top down
abbrev pub stack_of : List Kept → List Todo
stack_of todos = map todo_of (reverse todos)

-- a reader as the state of the machine
abbrev pub state_of : PieceReader → State
state_of reader = record { stack = stack_of reader.stack.items; told = reader.pieces.items }

-- a reader before the first token
pub record IsNew (reader : PieceReader) : Type 0 where
  pub stack : stack_of reader.stack.items ≡ a whole ∷ []
  pub pieces : reader.pieces.items ≡ []

-- the row was put on the stack, and nothing else was changed
pub record Puts (row : List Kept) (old new : PieceReader) : Type 0 where
  pub stack : stack_of new.stack.items ≡ stack_of row ++ stack_of old.stack.items
  pub pieces : new.pieces.items ≡ old.pieces.items

-- the row was put on the stack, and a piece was told
pub record Tells (row : List Kept) (piece : Piece) (old new : PieceReader) : Type 0 where
  pub stack : stack_of new.stack.items ≡ stack_of row ++ stack_of old.stack.items
  pub pieces : new.pieces.items ≡ old.pieces.items ++ piece ∷ []

-- the act was done
pub record Did (it : Act) (old new : PieceReader) : Type 0 where
  pub stack : stack_of new.stack.items ≡ it.row ++ stack_of old.stack.items
  pub pieces : new.pieces.items ≡ more old.pieces.items it.told

-- nothing was changed
pub record Stays (old new : PieceReader) : Type 0 where
  pub stack : new.stack.items ≡ old.stack.items
  pub pieces : new.pieces.items ≡ old.pieces.items

-- a part did its act exactly where it has one
abbrev pub Acted : Option Act → (old new : PieceReader) → Bool → Type 0
Acted (Some it) old new begun = (begun ≡ true) × Did it old new
Acted None old new begun = (begun ≡ false) × Stays old new
