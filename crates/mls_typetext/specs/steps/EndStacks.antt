-- The stack of a reader, from its top down, as the stack of the machine.
use Rattle.std.specs.Prelude.{◌≡◌, ◌≢◌, ℕ, Bool, true, false, List, ◌++◌, map, reverse, Some, None, Option, option_map}
use Rattle.std.specs.Prelude.{MatchOption}
use Rattle.mls_lexer.specs.declared.token.Kind.{Kind}
use Rattle.mls_lexer.specs.Tokens.{terminal_of}
use Rattle.mls_lexer.specs.steps.Machine.{step, can_end}
use Rattle.mls_typetext.specs.declared.end.EndPart.{EndPart as Kept}
use Rattle.mls_typetext.specs.declared.end.EndPart.TheVariants as kept
use Rattle.mls_typetext.specs.declared.end.Rest.{Rest}
use Rattle.mls_typetext.specs.declared.end.Step.{Step}
use Rattle.mls_typetext.specs.declared.end.Step.TheVariants.{Read, Over, Stuck}
use Rattle.mls_typetext.specs.Phrases.{whole, codomain, join, join_tail, meet, meet_tail, atom, fields, more_fields}
use Rattle.mls_typetext.specs.steps.EndTable.{ToCome, a, the_name, the_dot, the_colon, the_paren, atom_opens, opens}
use Rattle.mls_typetext.specs.steps.EndTable.{may_end}

-- a part as the machine has it
abbrev pub part_of : Kept → ToCome
part_of kept.Whole = a whole
part_of kept.Codomain = a codomain
part_of kept.Join = a join
part_of kept.JoinTail = a join_tail
part_of kept.Meet = a meet
part_of kept.MeetTail = a meet_tail
part_of kept.Atom = a atom
part_of kept.Fields = a fields
part_of kept.MoreFields = a more_fields
part_of kept.Name = the_name
part_of kept.Dot = the_dot
part_of kept.Colon = the_colon
part_of kept.ParenRight = the_paren

-- parts, the next one last
abbrev pub stack_of : List Kept → List ToCome
stack_of parts = map part_of (reverse parts)

-- what is left to come behind a token
abbrev pub row_of : Rest → List ToCome
row_of rest = stack_of rest.inner.now ++ stack_of rest.outer.now

-- this is what the part leaves to come behind a token of this kind
abbrev pub Behind : Kept → Kind → Option Rest → Type 0
Behind part kind rest = (bytes : List ℕ) → opens (part_of part) (terminal_of kind bytes) ≡ option_map row_of rest

-- and an atom that parts follow
abbrev pub BehindAtom : List Kept → Kind → Option Rest → Type 0
BehindAtom outer kind rest =
    (bytes : List ℕ) → atom_opens (stack_of outer) (terminal_of kind bytes) ≡ option_map row_of rest

-- and a part that begins with one kind of token alone
abbrev pub BehindOne : Kind → Kind → List Kept → Option Rest → Type 0
BehindOne kind wanted inner rest =
    MatchOption rest (kind ≢ wanted) (λ rest. (kind ≡ wanted) × (row_of rest ≡ stack_of inner))

-- what a part makes of the stack below it at a token
abbrev pub Opened : Kept → Kind → (old new : List Kept) → Bool → Type 0
Opened part kind old new true =
    (row : List ToCome) × ((bytes : List ℕ) → opens (part_of part) (terminal_of kind bytes) ≡ Some row)
    × (stack_of new ≡ row ++ stack_of old)
Opened part kind old new false = ((bytes : List ℕ) → opens (part_of part) (terminal_of kind bytes) ≡ None) × (new ≡ old)

-- what a token makes of the stack
abbrev pub Stepped : Kind → (old new : List Kept) → Step → Type 0
Stepped kind old new Read =
    (bytes : List ℕ) → step opens may_end (stack_of old) (terminal_of kind bytes) ≡ Some (stack_of new)
Stepped kind old new Over =
    ((bytes : List ℕ) → step opens may_end (stack_of old) (terminal_of kind bytes) ≡ None)
    × (can_end may_end (stack_of old) ≡ true)
Stepped kind old new Stuck =
    ((bytes : List ℕ) → step opens may_end (stack_of old) (terminal_of kind bytes) ≡ None)
    × (can_end may_end (stack_of old) ≡ false)
