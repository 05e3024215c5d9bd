-- Which terminals can stand behind a phrase: those that go on with none of the tails that it can leave open.
use Rattle.std.proofs.Common.{◌≡◌, ℕ, true, false, List, [], ◌∷◌, refl, None}
use Rattle.mls_lexer.specs.declared.token.Kind.TheVariants as kind
use Rattle.mls_lexer.specs.Tokens.{Terminal, word}
use Rattle.mls_grammar.specs.Phrases.{Sort, source, imports, bindings, bind_rest, expr, let_rest, compare_tail, sum, sum_tail, product, product_tail, apply, arguments, post, dots, atom, parts, more_parts, Phrase, no_binding, binding, no_compare, less, equal, no_sum, plus, minus, no_product, times, no_argument, argument, posted, variable, literal, truth, parens, braces, last_part, next_part}
use Rattle.mls_reader.specs.steps.PieceMachine.{Todo, atom_acts, imports_acts, bindings_acts, compare_tail_acts, sum_tail_acts, product_tail_acts, dots_acts}
use Rattle.mls_lexer.specs.steps.Placed.{Placed}
use Rattle.mls_reader.proofs.Spelled.{spells}

-- no tail of this kind goes on with the terminal
abbrev pub ClosesPost : Terminal → Type 0
ClosesPost t = (n : ℕ) → dots_acts n t ≡ None

abbrev pub ClosesApply : Terminal → Type 0
ClosesApply t = ClosesPost t × ((n : ℕ) (row : List Todo) (at : ℕ) → atom_acts n row at t ≡ None)

abbrev pub ClosesProduct : Terminal → Type 0
ClosesProduct t = ClosesApply t × ((n at : ℕ) → product_tail_acts n at t ≡ None)

abbrev pub ClosesSum : Terminal → Type 0
ClosesSum t = ClosesProduct t × ((n at : ℕ) → sum_tail_acts n at t ≡ None)

abbrev pub ClosesExpr : Terminal → Type 0
ClosesExpr t = ClosesSum t × ((n at : ℕ) → compare_tail_acts n at t ≡ None)

abbrev pub ClosesBindings : Terminal → Type 0
ClosesBindings t = ClosesExpr t × ((n : ℕ) → bindings_acts n t ≡ None)

abbrev pub ClosesImports : Terminal → Type 0
ClosesImports t = (n : ℕ) → imports_acts n t ≡ None

-- the terminal can stand behind a phrase of the sort
abbrev pub Closes : Sort → Terminal → Type 0
Closes source t = ClosesBindings t × ClosesImports t
Closes imports t = ClosesImports t
Closes bindings t = ClosesBindings t
Closes bind_rest t = ClosesBindings t
Closes expr t = ClosesExpr t
Closes let_rest t = ClosesExpr t
Closes compare_tail t = ClosesExpr t
Closes sum t = ClosesSum t
Closes sum_tail t = ClosesSum t
Closes product t = ClosesProduct t
Closes product_tail t = ClosesProduct t
Closes apply t = ClosesApply t
Closes arguments t = ClosesApply t
Closes post t = ClosesPost t
Closes dots t = ClosesPost t
Closes atom t = Unit {0}
Closes parts t = Unit {0}
Closes more_parts t = Unit {0}

-- this holds of the first terminal, if there is one
abbrev pub First : (Terminal → Type 0) → List Placed → Type 0
First holds [] = Unit {0}
First holds (u ∷ us) = holds u.1

pub weaker : {P Q : Terminal → Type 0} → ((t : Terminal) → P t → Q t) → (us : List Placed) → First P us → First Q us
weaker f [] h = h
weaker f (u ∷ us) h = f u.1 h

-- what closes each phrase of a sort that leaves no tail open
pub no_tail : (us : List Placed) → First (λ t. Unit {0}) us
no_tail [] = tt
no_tail (u ∷ us) = tt

-- no tail of an expression goes on with one of these words
pub closed_let : ClosesExpr (word kind.WordLet)
closed_let = ((((λ n. refl, λ n row at. refl), λ n at. refl), λ n at. refl), λ n at. refl)

pub closed_then : ClosesExpr (word kind.WordThen)
closed_then = ((((λ n. refl, λ n row at. refl), λ n at. refl), λ n at. refl), λ n at. refl)

pub closed_else : ClosesExpr (word kind.WordElse)
closed_else = ((((λ n. refl, λ n row at. refl), λ n at. refl), λ n at. refl), λ n at. refl)

pub closed_in : ClosesExpr (word kind.WordIn)
closed_in = ((((λ n. refl, λ n row at. refl), λ n at. refl), λ n at. refl), λ n at. refl)

pub closed_paren : ClosesExpr (word kind.ParenRight)
closed_paren = ((((λ n. refl, λ n row at. refl), λ n at. refl), λ n at. refl), λ n at. refl)

closed_brace : ClosesExpr (word kind.BraceRight)
closed_brace = ((((λ n. refl, λ n row at. refl), λ n at. refl), λ n at. refl), λ n at. refl)

closed_comma : ClosesExpr (word kind.Comma)
closed_comma = ((((λ n. refl, λ n row at. refl), λ n at. refl), λ n at. refl), λ n at. refl)

-- what stands behind a part can begin with the tail that follows it
pub before_bindings : (place : ℕ → ℕ) (k : ℕ) (b : Phrase bindings) (us : List Placed) → First ClosesBindings us → First ClosesExpr (spells place k b us)
unfolding spells
before_bindings place k no_binding us h = weaker (λ t h. h.0) us h
before_bindings place k (binding r) us h = closed_let

pub behind_imports : (place : ℕ → ℕ) (k : ℕ) (b : Phrase bindings) (us : List Placed) → First (Closes source) us → First ClosesImports (spells place k b us)
unfolding spells
behind_imports place k no_binding us h = weaker (λ t h. h.1) us h
behind_imports place k (binding r) us h = λ n. refl

pub before_compare : (place : ℕ → ℕ) (k : ℕ) (c : Phrase compare_tail) (us : List Placed) → First ClosesExpr us → First ClosesSum (spells place k c us)
unfolding spells
before_compare place k no_compare us h = weaker (λ t h. h.0) us h
before_compare place k (less s) us h = (((λ n. refl, λ n row at. refl), λ n at. refl), λ n at. refl)
before_compare place k (equal s) us h = (((λ n. refl, λ n row at. refl), λ n at. refl), λ n at. refl)

pub before_sum : (place : ℕ → ℕ) (k : ℕ) (c : Phrase sum_tail) (us : List Placed) → First ClosesSum us → First ClosesProduct (spells place k c us)
unfolding spells
before_sum place k no_sum us h = weaker (λ t h. h.0) us h
before_sum place k (plus p c) us h = ((λ n. refl, λ n row at. refl), λ n at. refl)
before_sum place k (minus p c) us h = ((λ n. refl, λ n row at. refl), λ n at. refl)

pub before_product : (place : ℕ → ℕ) (k : ℕ) (c : Phrase product_tail) (us : List Placed) → First ClosesProduct us → First ClosesApply (spells place k c us)
unfolding spells
before_product place k no_product us h = weaker (λ t h. h.0) us h
before_product place k (times p c) us h = (λ n. refl, λ n row at. refl)

before_atom : (place : ℕ → ℕ) (k : ℕ) (x : Phrase atom) (us : List Placed) → First ClosesPost (spells place k x us)
unfolding spells
before_atom place k (variable x) us = λ n. refl
before_atom place k (literal value) us = λ n. refl
before_atom place k (truth true) us = λ n. refl
before_atom place k (truth false) us = λ n. refl
before_atom place k (parens e) us = λ n. refl
before_atom place k (braces p) us = λ n. refl

pub before_arguments : (place : ℕ → ℕ) (k : ℕ) (m : Phrase arguments) (us : List Placed) → First ClosesApply us → First ClosesPost (spells place k m us)
unfolding spells
before_arguments place k no_argument us h = weaker (λ t h. h.0) us h
before_arguments place k (argument (posted x d) m) us h = before_atom place k x _

pub before_parts : (place : ℕ → ℕ) (k : ℕ) (p : Phrase more_parts) (us : List Placed) → First ClosesExpr (spells place k p us)
unfolding spells
before_parts place k last_part us = closed_brace
before_parts place k (next_part label e p) us = closed_comma
