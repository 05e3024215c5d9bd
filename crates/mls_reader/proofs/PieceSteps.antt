-- What the machine of modules tells and gives from terminals, whatever is to come behind them: its single steps.
use Rattle.std.proofs.Common.{◌≡◌, ℕ, List, [], ◌∷◌, ◌++◌, refl, sym, ap, ◌∙◌, Some, None, append-nil}
use Rattle.std.proofs.lemmas.List.{append_assoc}
use Rattle.std.proofs.lemmas.Option.{none-some}
use Rattle.mls_lexer.specs.declared.token.Kind.TheVariants as kind
use Rattle.mls_lexer.specs.Tokens.{Terminal, word}
use Rattle.mls_reader.specs.declared.piece.Piece.{Piece}
use Rattle.mls_reader.specs.declared.piece.Piece.TheVariants as piece
use Rattle.mls_reader.specs.declared.piece.Event.{Event}
use Rattle.mls_grammar.specs.Phrases.{Sort, dots}
use Rattle.mls_reader.specs.steps.PieceMachine.{Todo, a, arguments_of, let_of, the_import, the_binding, the_fun, the_fix, the_local, the_label, the_part, the_equals, the_arrow, the_then, the_else, the_in, the_paren, tell, Act, act, acts, State, took, advance, build, last_told}
use Rattle.mls_lexer.specs.steps.Placed.{Placed}
use Rattle.mls_reader.proofs.Closing.{First, ClosesApply}

-- all that is told and given once no terminal is left
unfoldable pub told_all : List Todo → List Piece → List Event → List Placed → List Piece × List Event
told_all st told heard us =
    let s = build st told heard us in
    (last_told s.stack s.told, s.heard)

-- a piece on top of the stack is told before anything else
pub told-first : (p : Piece) (st : List Todo) (told : List Piece) (heard : List Event) (us : List Placed)
    → told_all (tell p ∷ st) told heard us ≡ told_all st (told ++ p ∷ []) heard us
unfolding told_all build
told-first p st told heard [] = refl
told-first p st told heard (u ∷ us) = refl

-- From these terminals, where the row is to come, the machine comes to the terminals `vs` with the row behind it, having told these pieces and given these events:
-- so at least as far as what is told and given at the end can show.
pub record Goes (row : List Todo) (us : List Placed) (pieces : List Piece) (events : List Event) (vs : List Placed) : Type 0 where
  pub goes : (st : List Todo) (told : List Piece) (heard : List Event) → told_all (row ++ st) told heard us ≡ told_all st (told ++ pieces) (heard ++ events) vs

-- nothing is to come
pub stays : (us : List Placed) → Goes [] us [] [] us
stays us = record { goes = λ st told heard i. told_all st (sym (append-nil told) i) (sym (append-nil heard) i) us }

-- a closing parenthesis
closes : (at : ℕ) (st : List Todo) (told : List Piece) (heard : List Event) (us : List Placed) → told_all (the_paren ∷ st) told heard ((at, word kind.ParenRight) ∷ us) ≡ told_all st told heard us
unfolding told_all build
closes at st told heard us = λ i. told_all st (append-nil told i) (append-nil heard i) us

-- one part and then those behind it
pub first_then : {todo : Todo} {row : List Todo} {us vs ws : List Placed} {p q : List Piece} {e f : List Event}
    → Goes (todo ∷ []) us p e vs → Goes row vs q f ws → Goes (todo ∷ row) us (p ++ q) (e ++ f) ws
first_then {todo} {row} {us} {vs} {ws} {p} {q} {e} {f} x y = record {
  goes = λ st told heard.
      x.goes (row ++ st) told heard
      ∙ (y.goes st (told ++ p) (heard ++ e)
      ∙ λ i. told_all st (append_assoc told p q i) (append_assoc heard e f i) ws);
}

-- a piece that is told
pub tells : {piece : Piece} {row : List Todo} {us vs : List Placed} {p : List Piece} {e : List Event} → Goes row us p e vs → Goes (tell piece ∷ row) us (piece ∷ p) e vs
tells {piece} {row} {us} {vs} {p} {e} x = record {
  goes = λ st told heard.
      told-first piece (row ++ st) told heard us
      ∙ (x.goes st (told ++ piece ∷ []) heard
      ∙ ap (λ told. told_all st told (heard ++ e) vs) (append_assoc told (piece ∷ []) p));
}

-- a part, with a piece that is told once it is over
pub then_tells : {todo : Todo} {piece : Piece} {us vs : List Placed} {p : List Piece} {e : List Event}
    → Goes (todo ∷ []) us p e vs → Goes (todo ∷ tell piece ∷ []) us (p ++ piece ∷ []) e vs
then_tells {todo} {piece} {us} {vs} {p} {e} x = record {
  goes = λ st told heard.
      x.goes (tell piece ∷ st) told heard
      ∙ (told-first piece st (told ++ p) (heard ++ e) vs
      ∙ ap (λ told. told_all st told (heard ++ e) vs) (append_assoc told p (piece ∷ [])));
}

-- a part with a parenthesis behind it
pub then_closes : {todo : Todo} {us vs : List Placed} {p : List Piece} {e : List Event} {at : ℕ}
    → Goes (todo ∷ []) us p e ((at, word kind.ParenRight) ∷ vs) → Goes (todo ∷ the_paren ∷ []) us p e vs
then_closes {todo} {us} {vs} {p} {e} {at} x = record {
  goes = λ st told heard.
      x.goes (the_paren ∷ st) told heard
      ∙ (closes at st (told ++ p) (heard ++ e) vs);
}

-- another row that comes to the same
pub alike : {row other : List Todo} {us vs : List Placed} {p : List Piece} {e : List Event}
    → ((st : List Todo) (told : List Piece) (heard : List Event) → told_all (row ++ st) told heard us ≡ told_all (other ++ st) told heard us)
    → Goes other us p e vs → Goes row us p e vs
alike same x = record { goes = λ st told heard. same st told heard ∙ x.goes st told heard }

-- what is told and given from a state of the machine on
abbrev from_state : State → List Placed → List Piece × List Event
from_state s us = told_all s.stack s.told s.heard us

-- a part that may be empty is over where the next terminal does not go on with it
is_over : (n : ℕ) (s : Sort) (us : List Placed) → First (λ t. (at : ℕ) → acts (a n s) at t ≡ None) us → (st : List Todo) (told : List Piece) (heard : List Event)
    → told_all (a n s ∷ st) told heard us ≡ told_all st told heard us
unfolding told_all build
is_over n s [] h st told heard = refl
is_over n s (u ∷ us) h st told heard = ap (λ o. from_state (took o st told heard (advance u.0 u.1 st told heard)) us) (h u.0)

pub over : (n : ℕ) (s : Sort) (us : List Placed) → First (λ t. (at : ℕ) → acts (a n s) at t ≡ None) us → Goes (a n s ∷ []) us [] [] us
over n s us h = alike (is_over n s us h) (stays us)

are_over : (n apply_at : ℕ) (us : List Placed) → First ClosesApply us → (st : List Todo) (told : List Piece) (heard : List Event)
    → told_all (arguments_of n apply_at ∷ st) told heard us ≡ told_all st told heard us
unfolding told_all build
are_over n apply_at [] h st told heard = refl
are_over n apply_at (u ∷ us) h st told heard =
    ap (λ o. from_state (took o st told heard (advance u.0 u.1 st told heard)) us) (h.1 n (a n dots ∷ tell (piece.Apply apply_at) ∷ arguments_of n apply_at ∷ []) u.0)

pub no_more_arguments : (n apply_at : ℕ) (us : List Placed) → First ClosesApply us → Goes (arguments_of n apply_at ∷ []) us [] [] us
no_more_arguments n apply_at us h = alike (are_over n apply_at us h) (stays us)

-- one terminal with which the first part begins
begun : (todo : Todo) (it : Act) (at : ℕ) (t : Terminal) → acts todo at t ≡ Some it → (st : List Todo) (told : List Piece) (heard : List Event)
    → advance at t (todo ∷ st) told heard ≡ record { stack = it.row ++ st; told = told ++ it.told; heard = heard ++ it.heard }
begun (tell piece) it at t e st told heard = absurd (none-some it e)
begun (a n s) it at t e st told heard = ap (λ o. took o st told heard (advance at t st told heard)) e
begun (arguments_of n apply_at) it at t e st told heard = ap (λ o. took o st told heard (advance at t st told heard)) e
begun (let_of n let_at) it at t e st told heard = ap (λ o. took o st told heard (advance at t st told heard)) e
begun the_import it at t e st told heard = ap (λ o. took o st told heard (advance at t st told heard)) e
begun (the_binding n rec_at) it at t e st told heard = ap (λ o. took o st told heard (advance at t st told heard)) e
begun (the_fun n fun_at) it at t e st told heard = ap (λ o. took o st told heard (advance at t st told heard)) e
begun (the_fix n rec_at) it at t e st told heard = ap (λ o. took o st told heard (advance at t st told heard)) e
begun (the_local n let_at rec_at) it at t e st told heard = ap (λ o. took o st told heard (advance at t st told heard)) e
begun the_label it at t e st told heard = ap (λ o. took o st told heard (advance at t st told heard)) e
begun (the_part n) it at t e st told heard = ap (λ o. took o st told heard (advance at t st told heard)) e
begun the_equals it at t e st told heard = ap (λ o. took o st told heard (advance at t st told heard)) e
begun the_arrow it at t e st told heard = ap (λ o. took o st told heard (advance at t st told heard)) e
begun the_then it at t e st told heard = ap (λ o. took o st told heard (advance at t st told heard)) e
begun the_else it at t e st told heard = ap (λ o. took o st told heard (advance at t st told heard)) e
begun the_in it at t e st told heard = ap (λ o. took o st told heard (advance at t st told heard)) e
begun the_paren it at t e st told heard = ap (λ o. took o st told heard (advance at t st told heard)) e

begins : (todo : Todo) (it : Act) (at : ℕ) (t : Terminal) (us : List Placed) → acts todo at t ≡ Some it → (st : List Todo) (told : List Piece) (heard : List Event)
    → told_all (todo ∷ st) told heard ((at, t) ∷ us) ≡ told_all (it.row ++ st) (told ++ it.told) (heard ++ it.heard) us
unfolding told_all build
begins todo it at t us e st told heard = ap (λ s. from_state s us) (begun todo it at t e st told heard)

pub takes : {todo : Todo} {row rest : List Todo} {at : ℕ} {t : Terminal} {p q : List Piece} {e f : List Event} {us vs : List Placed}
    → acts todo at t ≡ act row p e → Goes (row ++ rest) us q f vs → Goes (todo ∷ rest) ((at, t) ∷ us) (p ++ q) (e ++ f) vs
takes {todo} {row} {rest} {at} {t} {p} {q} {e} {f} {us} {vs} h x = record {
  goes = λ st told heard.
      begins todo (record { row = row; told = p; heard = e }) at t us h (rest ++ st) told heard
      ∙ (ap (λ st. told_all st (told ++ p) (heard ++ e) us) (sym (append_assoc row rest st))
      ∙ (x.goes st (told ++ p) (heard ++ e)
      ∙ λ i. told_all st (append_assoc told p q i) (append_assoc heard e f i) vs));
}
