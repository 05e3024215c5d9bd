-- What the pieces of a type are read as.
use Rattle.std.specs.Prelude.{◌≡◌, true, List, [], ◌∷◌}
use Rattle.mls_typetext.specs.declared.piece.Piece.{Piece}
use Rattle.mls_typetext.specs.declared.scheme.ReadScheme.{ReadScheme}
use Rattle.mls_typetext.specs.declared.scheme.TypeFault.{TypeFault}
use Rattle.mls_typetext.specs.Trees.{TypeTree}
use Rattle.mls_typetext.specs.Faults.{faults}
use Rattle.mls_typetext.specs.steps.Pieces.{postorder}
use Rattle.mls_typetext.specs.Texts.{read_of}

-- the pieces are those of a tree
abbrev pub IsTold : List Piece → Type 0
IsTold pieces = (t : TypeTree) × (pieces ≡ postorder t)

-- the tree of the pieces has no fault, and this is what it is read as
abbrev pub IsReadOf : List Piece → ReadScheme → Type 0
IsReadOf pieces r = (t : TypeTree) → pieces ≡ postorder t → (faults true [] 0 t ≡ []) × (r ≡ read_of t)

-- the tree of the pieces has this first fault
abbrev pub IsFaultOf : List Piece → TypeFault → Type 0
IsFaultOf pieces fault =
    (t : TypeTree) → pieces ≡ postorder t → (later : List TypeFault) × (faults true [] 0 t ≡ fault ∷ later)
