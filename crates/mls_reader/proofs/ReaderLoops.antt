-- The loops over the stack of the reader of modules.
use Rattle.std.proofs.Common.{◌≡◌, ◌≢◌, ℕ, List, [], ◌∷◌, ◌++◌, map, reverse, refl, sym, ap, ◌∙◌, append-nil, subst, Some, None, Ok, Err}
use Rattle.std.specs.Prelude.{Result, IsErrAnd, IfErr}
use Rattle.std.specs.List.{list_all}
use Rattle.std.proofs.lemmas.List.{reverse-append, map-append}
use Rattle.mls_lexer.specs.declared.token.Token.{Token}
use Rattle.mls_lexer.specs.Tokens.{Terminal, terminal}
use Rattle.mls_grammar.specs.declared.fault.Fault.{Fault}
use Rattle.mls_grammar.specs.declared.fault.Fault.TheVariants.{Unexpected, Memory}
use Rattle.mls_reader.specs.declared.piece.Piece.{Piece}
use Rattle.mls_reader.specs.declared.piece.Event.{Event}
use Rattle.mls_reader.specs.declared.todo.Todo.{Todo as Kept}
use Rattle.mls_reader.specs.declared.read.ModuleReader.{ModuleReader}
use Rattle.mls_reader.specs.steps.PieceMachine.{Todo, tell, Act, acts, took, advance, last_told}
use Rattle.mls_reader.specs.steps.Todos.{todo_of, stack_of, may_be_empty}
use Rattle.mls_reader.specs.steps.PieceReaders.{own, told_by, reached, mark, Refused, is_owed, is_too_deep, Stopped, stuck, deep}

-- the next to do is the last that was put on the stack
pub popped : (st rest : List Kept) (todo : Kept) → st ≡ rest ++ todo ∷ [] → stack_of st ≡ todo_of todo ∷ stack_of rest
popped st rest todo e = ap stack_of e ∙ (ap (map todo_of) (reverse-append rest (todo ∷ [])) ∙ map-append todo_of (todo ∷ []) (reverse rest))

-- one step of the machine, where what is next to do has an act,
pub advance-acts : (todo : Todo) (at : ℕ) (t : Terminal) (it : Act) (st : List Todo) (told : List Piece) (heard : List Event) → acts todo at t ≡ Some it
    → advance at t (todo ∷ st) told heard ≡ record { stack = it.row ++ st; told = told ++ it.told; heard = heard ++ it.heard }
advance-acts (tell piece) at t it st told heard e = absurd (cc)
advance-acts todo at t it st told heard e = ap (λ o. took o st told heard (advance at t st told heard)) e

-- and where it is over
pub advance-over : (todo : Todo) (at : ℕ) (t : Terminal) (st : List Todo) (told : List Piece) (heard : List Event) → acts todo at t ≡ None
    → advance at t (todo ∷ st) told heard ≡ advance at t st (told ++ told_by todo) heard
advance-over (tell piece) at t st told heard e = refl
advance-over todo at t st told heard e =
    ap (λ o. took o st told heard (advance at t st told heard)) e ∙ ap (λ ps. advance at t st ps heard) (sym (append-nil told))

-- two readers do the same at a token
pub record DoSame (text : List ℕ) (token : Token) (old new : ModuleReader) : Type 0 where
  pub marks : mark token.start (terminal text token) (stack_of old.stack.items) ≡ mark token.start (terminal text token) (stack_of new.stack.items)
  pub states : advance token.start (terminal text token) (stack_of old.stack.items) old.pieces.items old.events.items ≡ advance token.start (terminal text token) (stack_of new.stack.items) new.pieces.items new.events.items

module _ (text : List ℕ) (token : Token) (old here before : ModuleReader) (todo : Kept) (same : DoSame text token old here) (pop : here.stack.items ≡ before.stack.items ++ todo ∷ []) where
  mark-popped : mark token.start (terminal text token) (stack_of old.stack.items) ≡ reached (acts (todo_of todo) token.start (terminal text token)) (may_be_empty (todo_of todo)) (own (todo_of todo)) (mark token.start (terminal text token) (stack_of before.stack.items))
  mark-popped = same.marks ∙ ap (mark token.start (terminal text token)) (popped here.stack.items before.stack.items todo pop)

  -- what is refused stops the reader
  pub refused-stopped : (fault : Fault) → Refused text token (todo_of todo) fault → Stopped text token old fault
  refused-stopped _ (is_owed is owed) = stuck (mark-popped ∙ (λ i. reached (is i) (owed i) (own (todo_of todo)) (mark token.start (terminal text token) (stack_of before.stack.items))))
  refused-stopped _ (is_too_deep it is nesting) = deep (mark-popped ∙ (ap (λ o. reached o (may_be_empty (todo_of todo)) (own (todo_of todo)) (mark token.start (terminal text token) (stack_of before.stack.items))) is ∙ ap Some nesting))

pub all-over : (text : List ℕ) (token : Token) (old here : ModuleReader) → DoSame text token old here → here.stack.items ≡ [] → Stopped text token old (Unexpected token.start token.kind)
all-over text token old here same e = stuck (same.marks ∙ ap (λ st. mark token.start (terminal text token) (stack_of st)) e)

-- two readers do the same at the end of the text
pub record EndSame (old new : ModuleReader) : Type 0 where
  pub owed : list_all may_be_empty (stack_of old.stack.items) ≡ list_all may_be_empty (stack_of new.stack.items)
  pub told : last_told (stack_of old.stack.items) old.pieces.items ≡ last_told (stack_of new.stack.items) new.pieces.items
  pub events : new.events.items ≡ old.events.items

-- the exit of a `?` after a fault that tells more
pub fault-passed : {T : Type 0} (result : Result T Fault) (fault : Fault) (P Q : Fault → Type 0) → IsErrAnd result (λ e. e ≡ fault) → ((e : Fault) → P e → Q e) → (fault ≢ Memory → P fault) → IfErr result (λ e. e ≢ Memory → Q e)
fault-passed (Ok x) fault P Q is more h = tt
fault-passed (Err e) fault P Q is more h = λ other. more e (subst P (sym is) (h (λ memory. other (is ∙ memory))))
