-- What the functions of the reader of modules answer, and what is read at last.
use Rattle.std.specs.Prelude.{◌≡◌, ◌≢◌, ℕ, suc, ◌≤◌, Bool, true, false, List, [], ◌∷◌, ◌++◌, map, Option, Some, None}
use Rattle.std.specs.List.{list_all}
use Rattle.mls_lexer.specs.declared.token.Kind.TheVariants as kind
use Rattle.mls_lexer.specs.declared.token.Token.{Token}
use Rattle.mls_lexer.specs.Tokens.{Terminal, name, number, word, terminal, terminals}
use Rattle.mls_grammar.specs.declared.fault.Fault.{Fault}
use Rattle.mls_grammar.specs.declared.fault.Fault.TheVariants.{Unexpected, TooDeep}
use Rattle.mls_reader.specs.declared.piece.Piece.{Piece}
use Rattle.mls_reader.specs.declared.piece.Piece.TheVariants as piece
use Rattle.mls_reader.specs.declared.piece.Event.{Event}
use Rattle.mls_reader.specs.declared.todo.Todo.{Todo as Kept}
use Rattle.mls_reader.specs.declared.read.ModuleReader.{ModuleReader}
use Rattle.mls_grammar.specs.Phrases.{Phrase, source, expr, yields, nesting}
use Rattle.mls_reader.specs.steps.Todos.{todo_of, stack_of, may_be_empty}
use Rattle.mls_reader.specs.steps.PieceMachine.{Todo, a, the_then, the_else, tell, Act, acts, State, advance, build}
use Rattle.mls_reader.specs.steps.PieceMachine.{last_told, beginning}

-- a reader as the state of the machine
abbrev pub state_of : ModuleReader → State
state_of reader =
    record { stack = stack_of reader.stack.items; told = reader.pieces.items; heard = reader.events.items }

-- a reader before the first token
pub record IsNew (reader : ModuleReader) : Type 0 where
  pub stack : stack_of reader.stack.items ≡ beginning
  pub pieces : reader.pieces.items ≡ []
  pub events : reader.events.items ≡ []

-- this was put on the stack, and nothing else was changed
pub record Puts (todo : Kept) (old new : ModuleReader) : Type 0 where
  pub stack : stack_of new.stack.items ≡ todo_of todo ∷ stack_of old.stack.items
  pub pieces : new.pieces.items ≡ old.pieces.items
  pub events : new.events.items ≡ old.events.items

-- the same, for a row of the machine
pub record PutsRow (row : List Todo) (old new : ModuleReader) : Type 0 where
  pub stack : stack_of new.stack.items ≡ row ++ stack_of old.stack.items
  pub pieces : new.pieces.items ≡ old.pieces.items
  pub events : new.events.items ≡ old.events.items

-- what stands behind an `if` with this place
abbrev pub if_row : (depth at : ℕ) → List Todo
if_row m at = a m expr ∷ the_then ∷ a m expr ∷ the_else ∷ a m expr ∷ tell (piece.If at) ∷ []

-- the act was done
pub record Did (it : Act) (old new : ModuleReader) : Type 0 where
  pub stack : stack_of new.stack.items ≡ it.row ++ stack_of old.stack.items
  pub pieces : new.pieces.items ≡ old.pieces.items ++ it.told
  pub events : new.events.items ≡ old.events.items ++ it.heard

-- nothing was changed
pub record Stays (old new : ModuleReader) : Type 0 where
  pub stack : new.stack.items ≡ old.stack.items
  pub pieces : new.pieces.items ≡ old.pieces.items
  pub events : new.events.items ≡ old.events.items

-- a part did its act exactly where it has one
abbrev pub Acted : Option Act → (old new : ModuleReader) → Bool → Type 0
Acted (Some it) old new begun = (begun ≡ true) × Did it old new
Acted None old new begun = (begun ≡ false) × Stays old new

-- the bytes of a name
abbrev pub name_in : Terminal → Option (List ℕ)
name_in (name x) = Some x
name_in _ = None

-- what a name, a number or a truth value tells
abbrev pub leaf : (at : ℕ) → Terminal → Option Piece
leaf at (name x) = Some (piece.Name at x)
leaf at (number value) = Some (piece.Number at value)
leaf at (word kind.WordTrue) = Some (piece.Truth at true)
leaf at (word kind.WordFalse) = Some (piece.Truth at false)
leaf at _ = None

-- the nesting of the expression that a part is, and 0 for any other part
abbrev pub own : Todo → ℕ
own (a n expr) = suc n
own _ = 0

abbrev pub reached : Option Act → Bool → ℕ → Option ℕ → Option ℕ
reached (Some it) empty n later = Some n
reached None true n later = later
reached None false n later = None

-- the nesting of the expression that begins at a terminal, and 0 where none begins there; none where the terminal
-- cannot come
abbrev pub mark : (at : ℕ) → Terminal → List Todo → Option ℕ
mark at t [] = None
mark at t (todo ∷ st) = reached (acts todo at t) (may_be_empty todo) (own todo) (mark at t st)

-- what is told where a piece is to tell
abbrev pub told_by : Todo → List Piece
told_by (tell piece) = piece ∷ []
told_by _ = []

-- what was to do did its act, or is over
abbrev pub Tried : (text : List ℕ) (token : Token) → Todo → (old new : ModuleReader) → Bool → Type 0
Tried text token todo old new true =
    (it : Act) × (acts todo token.start (terminal text token) ≡ Some it) × Did it old new × (own todo ≢ 201)
Tried text token todo old new false =
    (acts todo token.start (terminal text token) ≡ None)
    × (may_be_empty todo ≡ true)
    × (new.stack.items ≡ old.stack.items)
    × (new.pieces.items ≡ old.pieces.items ++ told_by todo)
    × (new.events.items ≡ old.events.items)

-- why what was to do can neither do its act nor be over
pub data Refused (text : List ℕ) (token : Token) (todo : Todo) : Fault → Type 0 where
  is_owed : acts todo token.start (terminal text token) ≡ None → may_be_empty todo ≡ false
      → Refused text token todo (Unexpected token.start token.kind)
  is_too_deep : (it : Act) → acts todo token.start (terminal text token) ≡ Some it → own todo ≡ 201
      → Refused text token todo (TooDeep token.start)

-- the token was read, and no expression begins with it that is nested too deep
pub record Went (text : List ℕ) (token : Token) (old new : ModuleReader) : Type 0 where
  pub nesting : ℕ
  pub there : mark token.start (terminal text token) (stack_of old.stack.items) ≡ Some nesting
  pub shallow : nesting ≢ 201
  pub state : state_of new ≡ advance token.start (terminal text token)
      (stack_of old.stack.items) old.pieces.items old.events.items

-- why a token was not read
pub data Stopped (text : List ℕ) (token : Token) (old : ModuleReader) : Fault → Type 0 where
  stuck : mark token.start (terminal text token) (stack_of old.stack.items) ≡ None
      → Stopped text token old (Unexpected token.start token.kind)
  deep : mark token.start (terminal text token) (stack_of old.stack.items) ≡ Some 201
      → Stopped text token old (TooDeep token.start)

-- whether nothing more has to come, and then what is told at last
abbrev pub Finished : (old new : ModuleReader) → Bool → Type 0
Finished old new true =
    (list_all may_be_empty (stack_of old.stack.items) ≡ true)
    × (new.pieces.items ≡ last_told (stack_of old.stack.items) old.pieces.items)
    × (new.events.items ≡ old.events.items)
Finished old new false = list_all may_be_empty (stack_of old.stack.items) ≡ false

-- the tokens of a text as terminals with their places
abbrev pub placed : List ℕ → List Token → List (ℕ × Terminal)
placed text tokens = map (λ token. (token.start, terminal text token)) tokens

-- the machine at the end of the text
abbrev pub at_end : List ℕ → List Token → State
at_end text tokens = build beginning [] [] (placed text tokens)

-- the tokens are a module, nested at most 200 deep, and it tells these pieces and gives these names and labels
pub record ReadsSource (text : List ℕ) (tokens : List Token) (pieces : List Piece) (events : List Event) : Type 0 where
  pub phrase : Phrase source
  pub spelled : yields phrase [] ≡ terminals text tokens
  pub shallow : nesting phrase ≤ 200
  pub pieces_are : pieces ≡ last_told (at_end text tokens).stack (at_end text tokens).told
  pub events_are : events ≡ (at_end text tokens).heard
