-- A machine that tells the pieces of a type from left to right, by a stack of what is still to come and still to tell.
use Rattle.std.specs.Prelude.{ℕ, List, [], ◌∷◌, ◌++◌, Option, Some, None}
use Rattle.mls_lexer.specs.declared.token.Kind.TheVariants as kind
use Rattle.mls_lexer.specs.Tokens.{Terminal, name, word}
use Rattle.mls_lexer.specs.steps.Placed.{Placed}
use Rattle.mls_typetext.specs.declared.piece.Piece.{Piece}
use Rattle.mls_typetext.specs.declared.piece.Piece.TheVariants as piece
use Rattle.mls_typetext.specs.Phrases.{Sort, whole, codomain, join, join_tail, meet, meet_tail, atom, fields}
use Rattle.mls_typetext.specs.Phrases.{more_fields}

-- a part of the grammar that is still to come, or a piece that is told once what stands before it is over
pub data Todo : Type 0 where
  a : Sort → Todo
  the_rec the_field the_dot the_colon the_paren : Todo
  tell : Piece → Todo

-- what a part that begins with a terminal leaves to come, and the pieces that it tells at once
pub record Act : Type 0 where
  pub row : List Todo
  pub told : List Piece

abbrev act : List Todo → List Piece → Option Act
act row told = Some (record { row = row; told = told })

abbrev pub atom_acts : List Todo → ℕ → Terminal → Option Act
atom_acts row at (name x) = act row (piece.Name at x ∷ [])
atom_acts row at (word kind.WordBool) = act row (piece.Bool ∷ [])
atom_acts row at (word kind.WordInt) = act row (piece.Int ∷ [])
atom_acts row at (word kind.WordTop) = act row (piece.Top at ∷ [])
atom_acts row at (word kind.WordBot) = act row (piece.Bot at ∷ [])
atom_acts row at (word kind.ParenLeft) = act (a whole ∷ the_paren ∷ row) []
atom_acts row at (word kind.BraceLeft) = act (a fields ∷ tell piece.Record ∷ row) []
atom_acts row at _ = None

abbrev pub acts : Todo → ℕ → Terminal → Option Act
acts (a whole) at (word kind.WordRec) = act (the_rec ∷ []) []
acts (a whole) at t = atom_acts (a meet_tail ∷ a join_tail ∷ a codomain ∷ []) at t
acts (a codomain) at (word kind.Arrow) = act (a whole ∷ tell piece.Arrow ∷ []) []
acts (a join) at t = atom_acts (a meet_tail ∷ a join_tail ∷ []) at t
acts (a join_tail) at (word kind.Bar) = act (a meet ∷ tell (piece.Join at) ∷ a join_tail ∷ []) []
acts (a meet) at t = atom_acts (a meet_tail ∷ []) at t
acts (a meet_tail) at (word kind.Amp) = act (a atom ∷ tell (piece.Meet at) ∷ a meet_tail ∷ []) []
acts (a atom) at t = atom_acts [] at t
acts (a fields) at (word kind.BraceRight) = act [] (piece.Last ∷ [])
acts (a fields) at (name x) = act (the_colon ∷ a whole ∷ a more_fields ∷ tell (piece.Field at x) ∷ []) []
acts (a more_fields) at (word kind.BraceRight) = act [] (piece.Last ∷ [])
acts (a more_fields) at (word kind.Comma) = act (the_field ∷ []) []
acts the_rec at (name x) = act (the_dot ∷ a whole ∷ tell (piece.Rec x) ∷ []) []
acts the_field at (name x) = act (the_colon ∷ a whole ∷ a more_fields ∷ tell (piece.Field at x) ∷ []) []
acts the_dot at (word kind.Dot) = act [] []
acts the_colon at (word kind.Colon) = act [] []
acts the_paren at (word kind.ParenRight) = act [] []
acts _ at t = None

-- what is to do, and what was told
pub record State : Type 0 where
  pub stack : List Todo
  pub told : List Piece

abbrev pub more : List Piece → List Piece → List Piece
more out [] = out
more out (piece ∷ pieces) = out ++ (piece ∷ pieces)

abbrev pub took : Option Act → List Todo → List Piece → State → State
took (Some it) st out later = record { stack = it.row ++ st; told = more out it.told }
took None st out later = later

-- one terminal: what cannot begin with it is over
abbrev pub advance : ℕ → Terminal → List Todo → List Piece → State
advance at t [] out = record { stack = []; told = out }
advance at t (tell piece ∷ st) out = advance at t st (out ++ piece ∷ [])
advance at t (todo ∷ st) out = took (acts todo at t) st out (advance at t st out)

unfoldable pub build : List Todo → List Piece → List Placed → State
build st out [] = record { stack = st; told = out }
build st out (u ∷ us) =
    let next = advance u.0 u.1 st out in
    build next.stack next.told us

-- what is told when no terminal is left
abbrev pub last_told : List Todo → List Piece → List Piece
last_told [] out = out
last_told (tell piece ∷ st) out = last_told st (out ++ piece ∷ [])
last_told (todo ∷ st) out = last_told st out

-- what the machine tells of a whole type
abbrev pub told_of : List Placed → List Piece
told_of us = let s = build (a whole ∷ []) [] us in last_told s.stack s.told
