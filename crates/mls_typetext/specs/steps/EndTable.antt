-- The parts of the grammar of types: with which terminal each can begin, and what it leaves to come behind it.
use Rattle.std.specs.Prelude.{Bool, true, false, List, [], ◌∷◌, Option, Some, None}
use Rattle.mls_lexer.specs.declared.token.Kind.TheVariants as kind
use Rattle.mls_lexer.specs.Tokens.{Terminal, name, word}
use Rattle.mls_typetext.specs.Phrases.{Sort, whole, codomain, join, join_tail, meet, meet_tail, atom, fields}
use Rattle.mls_typetext.specs.Phrases.{more_fields}

-- what can be still to come: a phrase of a sort, a name or one of three words
pub data ToCome : Type 0 where
  a : Sort → ToCome
  the_name the_dot the_colon the_paren : ToCome

-- where an atom can begin, with what comes behind it
abbrev pub atom_opens : List ToCome → Terminal → Option (List ToCome)
atom_opens row (name x) = Some row
atom_opens row (word kind.WordBool) = Some row
atom_opens row (word kind.WordInt) = Some row
atom_opens row (word kind.WordTop) = Some row
atom_opens row (word kind.WordBot) = Some row
atom_opens row (word kind.ParenLeft) = Some (a whole ∷ the_paren ∷ row)
atom_opens row (word kind.BraceLeft) = Some (a fields ∷ row)
atom_opens row _ = None

abbrev pub whole_opens : Terminal → Option (List ToCome)
whole_opens (word kind.WordRec) = Some (the_name ∷ the_dot ∷ a whole ∷ [])
whole_opens t = atom_opens (a meet_tail ∷ a join_tail ∷ a codomain ∷ []) t

abbrev pub codomain_opens : Terminal → Option (List ToCome)
codomain_opens (word kind.Arrow) = Some (a whole ∷ [])
codomain_opens _ = None

abbrev pub join_tail_opens : Terminal → Option (List ToCome)
join_tail_opens (word kind.Bar) = Some (a meet ∷ a join_tail ∷ [])
join_tail_opens _ = None

abbrev pub meet_tail_opens : Terminal → Option (List ToCome)
meet_tail_opens (word kind.Amp) = Some (a atom ∷ a meet_tail ∷ [])
meet_tail_opens _ = None

abbrev pub fields_opens : Terminal → Option (List ToCome)
fields_opens (word kind.BraceRight) = Some []
fields_opens (name x) = Some (the_colon ∷ a whole ∷ a more_fields ∷ [])
fields_opens _ = None

abbrev pub more_fields_opens : Terminal → Option (List ToCome)
more_fields_opens (word kind.BraceRight) = Some []
more_fields_opens (word kind.Comma) = Some (the_name ∷ the_colon ∷ a whole ∷ a more_fields ∷ [])
more_fields_opens _ = None

abbrev pub name_opens : Terminal → Option (List ToCome)
name_opens (name x) = Some []
name_opens _ = None

abbrev pub dot_opens : Terminal → Option (List ToCome)
dot_opens (word kind.Dot) = Some []
dot_opens _ = None

abbrev pub colon_opens : Terminal → Option (List ToCome)
colon_opens (word kind.Colon) = Some []
colon_opens _ = None

abbrev pub paren_opens : Terminal → Option (List ToCome)
paren_opens (word kind.ParenRight) = Some []
paren_opens _ = None

-- what a part leaves to come behind a terminal with which it can begin
abbrev pub opens : ToCome → Terminal → Option (List ToCome)
opens (a whole) t = whole_opens t
opens (a codomain) t = codomain_opens t
opens (a join) t = atom_opens (a meet_tail ∷ a join_tail ∷ []) t
opens (a join_tail) t = join_tail_opens t
opens (a meet) t = atom_opens (a meet_tail ∷ []) t
opens (a meet_tail) t = meet_tail_opens t
opens (a atom) t = atom_opens [] t
opens (a fields) t = fields_opens t
opens (a more_fields) t = more_fields_opens t
opens the_name t = name_opens t
opens the_dot t = dot_opens t
opens the_colon t = colon_opens t
opens the_paren t = paren_opens t

-- what may be empty
abbrev pub may_end : ToCome → Bool
may_end (a codomain) = true
may_end (a join_tail) = true
may_end (a meet_tail) = true
may_end _ = false
