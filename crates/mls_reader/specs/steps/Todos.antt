-- What is still to do, as the machine has it, and what may be empty or is nested too deep.
use Rattle.std.specs.Prelude.{ℕ, Bool, true, false, ◌&&◌, ◌==◌, is_some, List, [], ◌∷◌, map, reverse}
use Rattle.mls_lexer.specs.declared.token.Kind.{Kind}
use Rattle.mls_lexer.specs.declared.token.Kind.TheVariants as kind
use Rattle.mls_lexer.specs.Tokens.{terminal_of}
use Rattle.mls_reader.specs.declared.todo.PiecePart.{PiecePart}
use Rattle.mls_reader.specs.declared.todo.PiecePart.TheVariants as part
use Rattle.mls_reader.specs.declared.todo.Operand.{Operand}
use Rattle.mls_reader.specs.declared.todo.Operand.TheVariants as operand
use Rattle.mls_reader.specs.declared.todo.Follower.{Follower}
use Rattle.mls_reader.specs.declared.todo.Follower.TheVariants as follower
use Rattle.mls_reader.specs.declared.todo.Tail.{Tail}
use Rattle.mls_reader.specs.declared.todo.Tail.TheVariants as tail
use Rattle.mls_reader.specs.declared.todo.Word.{Word}
use Rattle.mls_reader.specs.declared.todo.Word.TheVariants as word
use Rattle.mls_reader.specs.declared.todo.Todo.{Todo as Kept}
use Rattle.mls_reader.specs.declared.todo.Todo.TheVariants as kept
use Rattle.mls_grammar.specs.Phrases.{Sort, imports, bindings, bind_rest, expr, compare_tail, sum, sum_tail, product}
use Rattle.mls_grammar.specs.Phrases.{product_tail, apply, dots, parts, more_parts}
use Rattle.mls_reader.specs.declared.piece.Piece.TheVariants as piece
use Rattle.mls_reader.specs.steps.PieceMachine.{apply_row, product_row, sum_row, compare_row}
use Rattle.mls_reader.specs.steps.PieceMachine.{Todo, a, arguments_of, let_of, the_import, the_binding, the_fun}
use Rattle.mls_reader.specs.steps.PieceMachine.{the_fix, the_local, the_label, the_part, the_equals, the_arrow}
use Rattle.mls_reader.specs.steps.PieceMachine.{the_then, the_else, the_in, the_paren, tell, expr_acts}

-- operands, tails and words as the machine has them
abbrev pub operand_sort : Operand → Sort
operand_sort operand.Sum = sum
operand_sort operand.Product = product
operand_sort operand.Apply = apply

abbrev pub tail_sort : Tail → Sort
tail_sort tail.Compare = compare_tail
tail_sort tail.Sum = sum_tail
tail_sort tail.Product = product_tail
tail_sort tail.Dots = dots

abbrev pub word_of : Word → Todo
word_of word.Equals = the_equals
word_of word.Arrow = the_arrow
word_of word.Then = the_then
word_of word.Else = the_else
word_of word.In = the_in
word_of word.ParenRight = the_paren

-- the kind of a word
abbrev pub word_kind : Word → Kind
word_kind word.Equals = kind.Equals
word_kind word.Arrow = kind.Arrow
word_kind word.Then = kind.WordThen
word_kind word.Else = kind.WordElse
word_kind word.In = kind.WordIn
word_kind word.ParenRight = kind.ParenRight

-- a part as the machine has it
abbrev pub part_of : PiecePart → Todo
part_of part.Imports = a 0 imports
part_of part.Import = the_import
part_of part.Bindings = a 0 bindings
part_of part.BindRest = a 0 bind_rest
part_of (part.Binding rec_at) = the_binding 0 rec_at
part_of (part.Expr n) = a n expr
part_of (part.Fun n at) = the_fun n at
part_of (part.Fix n at) = the_fix n at
part_of (part.Let n at) = let_of n at
part_of (part.Local n at rec_at) = the_local n at rec_at
part_of (part.Operand n o) = a n (operand_sort o)
part_of (part.Arguments n at) = arguments_of n at
part_of (part.Tail n t) = a n (tail_sort t)
part_of part.Label = the_label
part_of (part.Fields n) = a n parts
part_of (part.MoreFields n) = a n more_parts
part_of (part.Field n) = the_part n
part_of (part.Word w) = word_of w

-- what may follow an atom with this place, the nearest first
abbrev pub follower_row : (around at : ℕ) → Follower → List Todo
follower_row n at follower.Compare = compare_row n at
follower_row n at follower.Sum = sum_row n at
follower_row n at follower.Product = product_row n at
follower_row n at follower.Apply = apply_row n at
follower_row n at (follower.Argument apply_at) =
    a n dots ∷ tell (piece.Apply apply_at) ∷ arguments_of n apply_at ∷ []

-- what is still to do as the machine has it
abbrev pub todo_of : Kept → Todo
todo_of (kept.Read part) = part_of part
todo_of (kept.Tell piece) = tell piece

-- a stack, from its top down
abbrev pub stack_of : List Kept → List Todo
stack_of todos = map todo_of (reverse todos)

-- whether an expression begins with a token of this kind
abbrev pub begins_expr : Kind → Bool
begins_expr kind = is_some (expr_acts 0 0 (terminal_of kind []))

-- whether a part is an expression that begins with a token of this kind, and lies in 200 others
abbrev pub is_deep : Todo → Kind → Bool
is_deep (a n expr) kind = (n == 200) && begins_expr kind
is_deep _ kind = false

-- whether a part may be empty; a piece has not to come
abbrev pub may_be_empty : Todo → Bool
may_be_empty (a n imports) = true
may_be_empty (a n bindings) = true
may_be_empty (a n compare_tail) = true
may_be_empty (a n sum_tail) = true
may_be_empty (a n product_tail) = true
may_be_empty (a n dots) = true
may_be_empty (arguments_of n at) = true
may_be_empty (tell piece) = true
may_be_empty _ = false
