-- Types as predicates: a type is known by the tests that it passes.
use Rattle.std.specs.Prelude.{◌≡◌, ℕ, Bool, true, false, not, ◌&&◌, ◌||◌, ◌==◌, List, [], ◌∷◌, Option, Some, None}
use Rattle.std.specs.Prelude.{is_none}
use Rattle.std.specs.List.{list_any}
use Rattle.mls_book.specs.Tests.{Test, test, FunctionPart, never_function, always_function, dom, cod, RecordPart}
use Rattle.mls_book.specs.Tests.{never_record, always_record, lacks, at}

-- which tests a type passes
abbrev pub Predicate : Type 0
Predicate = Test → Bool

-- every test that passes the first passes the second
abbrev pub Implies : Predicate → Predicate → Type 0
Implies f g = (t : Test) → f t ≡ true → g t ≡ true

-- the least type passes no test
abbrev pub bot : Predicate
bot t = false

-- the greatest type passes every test
abbrev pub top : Predicate
top t = true

-- a variable passes the tests that have it in their set
abbrev pub var : ℕ → Predicate
var x (test vars boolean integer function fields) = list_any (λ y. y == x) vars

abbrev pub bool : Predicate
bool (test vars boolean integer function fields) = boolean

abbrev pub int : Predicate
int (test vars boolean integer function fields) = integer

-- what a function answers to the function part of a test, by its domain and its codomain
abbrev pub function_answer : Predicate → Predicate → FunctionPart → Bool
function_answer f g never_function = false
function_answer f g always_function = true
function_answer f g (dom q) = not (f q)
function_answer f g (cod q) = g q

-- the functions from the one type to the other
abbrev pub arrow : Predicate → Predicate → Predicate
arrow f g (test vars boolean integer function fields) = function_answer f g function

-- what a field says to a test: one that is absent passes all
abbrev pub field_answer : Option Predicate → Predicate
field_answer None q = true
field_answer (Some f) q = f q

-- what a record answers to the record part of a test, by its fields
abbrev pub record_answer : (List ℕ → Option Predicate) → RecordPart → Bool
record_answer fields never_record = false
record_answer fields always_record = true
record_answer fields (lacks label) = is_none (fields label)
record_answer fields (at label q) = field_answer (fields label) q

-- the records with these fields, and maybe others
abbrev pub rcd : (List ℕ → Option Predicate) → Predicate
rcd types (test vars boolean integer function fields) = record_answer types fields

abbrev pub join : Predicate → Predicate → Predicate
join f g t = f t || g t

abbrev pub meet : Predicate → Predicate → Predicate
meet f g t = f t && g t

-- the join of all, `bot` where there is none
abbrev pub joins : List Predicate → Predicate
joins [] = bot
joins (f ∷ rest) = join f (joins rest)

-- the meet of all, `top` where there is none
abbrev pub meets : List Predicate → Predicate
meets [] = top
meets (f ∷ rest) = meet f (meets rest)
