-- The machine that tells pieces goes on where the machine of the grammar does.
use Rattle.std.proofs.Common.{◌≡◌, ℕ, suc, Bool, true, false, List, [], ◌∷◌, ◌++◌, refl, sym, ap, ◌∙◌, Some, None}
use Rattle.std.specs.Prelude.{Option, ◌&&◌}
use Rattle.std.specs.List.{list_all}
use Rattle.std.proofs.lemmas.List.{append_assoc}
use Rattle.mls_lexer.specs.declared.token.Kind.TheVariants as kind
use Rattle.mls_lexer.specs.Tokens.{Terminal, name, number, word}
use Rattle.mls_lexer.specs.steps.Machine.{step, chosen, can_end}
use Rattle.mls_reader.specs.declared.piece.Piece.{Piece}
use Rattle.mls_reader.specs.declared.piece.Piece.TheVariants as piece
use Rattle.mls_reader.specs.declared.piece.Event.{Event}
use Rattle.mls_grammar.specs.Phrases.{source, imports, bindings, bind_rest, expr, let_rest, compare_tail, sum, sum_tail, product, product_tail, apply, arguments, post, dots, atom, parts, more_parts}
use Rattle.mls_reader.specs.steps.PieceMachine as build
use Rattle.mls_reader.specs.steps.PieceMachine.{Todo, arguments_of, let_of, the_import, the_binding, the_fun, the_fix, the_local, the_label, the_part, tell, Act, acts, atom_acts, apply_row, product_row, sum_row, compare_row, State, advance}
use Rattle.mls_reader.specs.steps.Todos.{may_be_empty}
use Rattle.mls_reader.specs.steps.PieceReaders.{own, told_by, reached, mark}
use Rattle.mls_grammar.proofs.GrammarMachine.{ToCome, a, the_name, the_equals, the_arrow, the_then, the_else, the_in, the_paren, atom_opens, opens, may_end}
use Rattle.mls_grammar.proofs.GrammarNesting.{picked, begun}
use Rattle.mls_reader.proofs.ReaderLoops.{advance-acts, advance-over}

-- What is to do as parts of the grammar: what is to tell is none of it.
-- Two forms are never to do, and stand here for what nothing begins with.
abbrev pub parts_of : Todo → List ToCome
parts_of (build.a n let_rest) = a n source ∷ []
parts_of (build.a n arguments) = a n source ∷ []
parts_of (build.a n s) = a n s ∷ []
parts_of (arguments_of n at) = a n arguments ∷ []
parts_of (let_of n at) = a n let_rest ∷ []
parts_of the_import = the_name ∷ []
parts_of (the_binding n at) = the_name ∷ the_equals ∷ a n expr ∷ a n bindings ∷ []
parts_of (the_fun n at) = the_name ∷ the_arrow ∷ a n expr ∷ []
parts_of (the_fix n at) = the_name ∷ the_arrow ∷ a n expr ∷ []
parts_of (the_local n at rec_at) = the_name ∷ the_equals ∷ a n expr ∷ the_in ∷ a n expr ∷ []
parts_of the_label = the_name ∷ []
parts_of (the_part n) = the_name ∷ the_equals ∷ a n expr ∷ a n more_parts ∷ []
parts_of build.the_equals = the_equals ∷ []
parts_of build.the_arrow = the_arrow ∷ []
parts_of build.the_then = the_then ∷ []
parts_of build.the_else = the_else ∷ []
parts_of build.the_in = the_in ∷ []
parts_of build.the_paren = the_paren ∷ []
parts_of (tell piece) = []

abbrev pub all_parts : List Todo → List ToCome
all_parts [] = []
all_parts (todo ∷ st) = parts_of todo ++ all_parts st

all_parts-append : (row st : List Todo) → all_parts (row ++ st) ≡ all_parts row ++ all_parts st
all_parts-append [] st = refl
all_parts-append (todo ∷ row) st = ap (λ ps. parts_of todo ++ ps) (all_parts-append row st) ∙ sym (append_assoc (parts_of todo) (all_parts row) (all_parts st))

-- what the machine of the grammar does by a part of this nesting before other parts, where the other machine has this act or none
abbrev IsAlike : Option Act → Bool → ℕ → (st : List ToCome) → Terminal → Option (List ToCome) → ℕ → Type 0
IsAlike (Some it) empty n st t next m = (next ≡ Some (all_parts it.row ++ st)) × (m ≡ n)
IsAlike None true n st t next m = (next ≡ step opens may_end st t) × (m ≡ begun st t)
IsAlike None false n st t next m = (next ≡ None) × (m ≡ 0)

alike-none : (empty : Bool) (n : ℕ) (st : List ToCome) (t : Terminal) → IsAlike None empty n st t (chosen None empty st (step opens may_end st t)) (picked None empty n (begun st t))
alike-none true n st t = (refl, refl)
alike-none false n st t = (refl, refl)

alike-atom : (n at : ℕ) (row : List Todo) (empty : Bool) (m : ℕ) (st : List ToCome) (t : Terminal)
    → IsAlike (atom_acts n row at t) empty m st t (chosen (atom_opens n (all_parts row) t) empty st (step opens may_end st t)) (picked (atom_opens n (all_parts row) t) empty m (begun st t))
alike-atom n at row empty m st (name x) = (refl, refl)
alike-atom n at row empty m st (number value) = (refl, refl)
alike-atom n at row empty m st (word kind.WordTrue) = (refl, refl)
alike-atom n at row empty m st (word kind.WordFalse) = (refl, refl)
alike-atom n at row empty m st (word kind.ParenLeft) = (refl, refl)
alike-atom n at row empty m st (word kind.BraceLeft) = (refl, refl)
alike-atom n at row empty m st t = alike-none empty m st t

alike : (todo : Todo) (at : ℕ) (t : Terminal) (st : List ToCome) → IsAlike (acts todo at t) (may_be_empty todo) (own todo) st t (step opens may_end (parts_of todo ++ st) t) (begun (parts_of todo ++ st) t)
alike (build.a n source) at t st = (refl, refl)
alike (build.a n imports) at (word kind.WordImport) st = (refl, refl)
alike (build.a n imports) at _ st = (refl, refl)
alike (build.a n bindings) at (word kind.WordLet) st = (refl, refl)
alike (build.a n bindings) at _ st = (refl, refl)
alike (build.a n bind_rest) at (name x) st = (refl, refl)
alike (build.a n bind_rest) at (word kind.WordRec) st = (refl, refl)
alike (build.a n bind_rest) at _ st = (refl, refl)
alike (build.a n expr) at (word kind.WordFun) st = (refl, refl)
alike (build.a n expr) at (word kind.WordRec) st = (refl, refl)
alike (build.a n expr) at (word kind.WordLet) st = (refl, refl)
alike (build.a n expr) at (word kind.WordIf) st = (refl, refl)
alike (build.a n expr) at t st = alike-atom (suc n) at (compare_row (suc n) at) false (suc n) st t
alike (build.a n let_rest) at t st = (refl, refl)
alike (build.a n compare_tail) at (word kind.Less) st = (refl, refl)
alike (build.a n compare_tail) at (word kind.DoubleEquals) st = (refl, refl)
alike (build.a n compare_tail) at _ st = (refl, refl)
alike (build.a n sum) at t st = alike-atom n at (sum_row n at) false 0 st t
alike (build.a n sum_tail) at (word kind.Plus) st = (refl, refl)
alike (build.a n sum_tail) at (word kind.Minus) st = (refl, refl)
alike (build.a n sum_tail) at _ st = (refl, refl)
alike (build.a n product) at t st = alike-atom n at (product_row n at) false 0 st t
alike (build.a n product_tail) at (word kind.Star) st = (refl, refl)
alike (build.a n product_tail) at _ st = (refl, refl)
alike (build.a n apply) at t st = alike-atom n at (apply_row n at) false 0 st t
alike (build.a n arguments) at t st = (refl, refl)
alike (build.a n post) at t st = alike-atom n at (build.a n dots ∷ []) false 0 st t
alike (build.a n dots) at (word kind.Dot) st = (refl, refl)
alike (build.a n dots) at _ st = (refl, refl)
alike (build.a n atom) at t st = alike-atom n at [] false 0 st t
alike (build.a n parts) at (word kind.BraceRight) st = (refl, refl)
alike (build.a n parts) at (name x) st = (refl, refl)
alike (build.a n parts) at _ st = (refl, refl)
alike (build.a n more_parts) at (word kind.BraceRight) st = (refl, refl)
alike (build.a n more_parts) at (word kind.Comma) st = (refl, refl)
alike (build.a n more_parts) at _ st = (refl, refl)
alike (arguments_of n apply_at) at t st = alike-atom n at (build.a n dots ∷ tell (piece.Apply apply_at) ∷ arguments_of n apply_at ∷ []) true 0 st t
alike (let_of n let_at) at (name x) st = (refl, refl)
alike (let_of n let_at) at (word kind.WordRec) st = (refl, refl)
alike (let_of n let_at) at _ st = (refl, refl)
alike the_import at (name x) st = (refl, refl)
alike the_import at _ st = (refl, refl)
alike (the_binding n rec_at) at (name x) st = (refl, refl)
alike (the_binding n rec_at) at _ st = (refl, refl)
alike (the_fun n fun_at) at (name x) st = (refl, refl)
alike (the_fun n fun_at) at _ st = (refl, refl)
alike (the_fix n rec_at) at (name x) st = (refl, refl)
alike (the_fix n rec_at) at _ st = (refl, refl)
alike (the_local n let_at rec_at) at (name x) st = (refl, refl)
alike (the_local n let_at rec_at) at _ st = (refl, refl)
alike the_label at (name x) st = (refl, refl)
alike the_label at _ st = (refl, refl)
alike (the_part n) at (name x) st = (refl, refl)
alike (the_part n) at _ st = (refl, refl)
alike build.the_equals at (word kind.Equals) st = (refl, refl)
alike build.the_equals at _ st = (refl, refl)
alike build.the_arrow at (word kind.Arrow) st = (refl, refl)
alike build.the_arrow at _ st = (refl, refl)
alike build.the_then at (word kind.WordThen) st = (refl, refl)
alike build.the_then at _ st = (refl, refl)
alike build.the_else at (word kind.WordElse) st = (refl, refl)
alike build.the_else at _ st = (refl, refl)
alike build.the_in at (word kind.WordIn) st = (refl, refl)
alike build.the_in at _ st = (refl, refl)
alike build.the_paren at (word kind.ParenRight) st = (refl, refl)
alike build.the_paren at _ st = (refl, refl)
alike (tell piece) at t st = (refl, refl)

-- where the one machine goes on, the other does so with the same parts, and an expression of this nesting begins
pub goes : (st : List Todo) (at : ℕ) (t : Terminal) (told : List Piece) (heard : List Event) (m : ℕ) → mark at t st ≡ Some m
    → (step opens may_end (all_parts st) t ≡ Some (all_parts (advance at t st told heard).stack)) × (begun (all_parts st) t ≡ m)
goes [] at t told heard m e = absurd (cc)
goes (todo ∷ st) at t told heard m e = go (acts todo at t) refl (may_be_empty todo) (alike todo at t (all_parts st)) e (λ more h. goes st at t more heard m h)
  where
    go : (o : Option Act) → acts todo at t ≡ o → (b : Bool) → IsAlike o b (own todo) (all_parts st) t (step opens may_end (parts_of todo ++ all_parts st) t) (begun (parts_of todo ++ all_parts st) t)
        → reached o b (own todo) (mark at t st) ≡ Some m
        → ((more : List Piece) → mark at t st ≡ Some m → (step opens may_end (all_parts st) t ≡ Some (all_parts (advance at t st more heard).stack)) × (begun (all_parts st) t ≡ m))
        → (step opens may_end (parts_of todo ++ all_parts st) t ≡ Some (all_parts (advance at t (todo ∷ st) told heard).stack)) × (begun (parts_of todo ++ all_parts st) t ≡ m)
    go (Some it) is b same e later =
        let mine : own todo ≡ m = cc in
        (same.0 ∙ ap Some (sym (all_parts-append it.row st) ∙ ap (λ (s : State). all_parts s.stack) (sym (advance-acts todo at t it st told heard is))), same.1 ∙ mine)
    go None is true same e later =
        let next = later (told ++ told_by todo) e in
        (same.0 ∙ (next.0 ∙ ap (λ (s : State). Some (all_parts s.stack)) (sym (advance-over todo at t st told heard is))), same.1 ∙ next.1)
    go None is false same e later = absurd (cc)

-- and where it does not, the other does not
pub stops : (st : List Todo) (at : ℕ) (t : Terminal) → mark at t st ≡ None → step opens may_end (all_parts st) t ≡ None
stops [] at t e = refl
stops (todo ∷ st) at t e = go (acts todo at t) (may_be_empty todo) (alike todo at t (all_parts st)) e (λ h. stops st at t h)
  where
    go : (o : Option Act) (b : Bool) → IsAlike o b (own todo) (all_parts st) t (step opens may_end (parts_of todo ++ all_parts st) t) (begun (parts_of todo ++ all_parts st) t)
        → reached o b (own todo) (mark at t st) ≡ None → (mark at t st ≡ None → step opens may_end (all_parts st) t ≡ None) → step opens may_end (parts_of todo ++ all_parts st) t ≡ None
    go (Some it) b same e later = absurd (cc)
    go None true same e later = same.0 ∙ later e
    go None false same e later = same.0

-- both end at the same places
ends-todo : (todo : Todo) (st : List ToCome) (rest : Bool) → can_end may_end st ≡ rest → can_end may_end (parts_of todo ++ st) ≡ (may_be_empty todo && rest)
ends-todo (build.a n source) st rest e = refl
ends-todo (build.a n imports) st rest e = e
ends-todo (build.a n bindings) st rest e = e
ends-todo (build.a n compare_tail) st rest e = e
ends-todo (build.a n sum_tail) st rest e = e
ends-todo (build.a n product_tail) st rest e = e
ends-todo (build.a n dots) st rest e = e
ends-todo (arguments_of n at) st rest e = e
ends-todo (tell piece) st rest e = e
ends-todo _ st rest e = refl

pub ends : (st : List Todo) → can_end may_end (all_parts st) ≡ list_all may_be_empty st
ends [] = refl
ends (todo ∷ st) = ends-todo todo (all_parts st) (list_all may_be_empty st) (ends st)
