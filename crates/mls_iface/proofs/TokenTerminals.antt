-- Terminals and the tokens that they are of.
use Rattle.std.proofs.Common.{◌≡◌, ℕ, zero, suc, ◌+◌, List, [], ◌∷◌, drop, refl, sym, ap, arith, ◌∙◌, Some, None}
use Rattle.std.specs.Prelude.{slice_get, option_map}
use Rattle.std.proofs.lemmas.List.{drop_all}
use Rattle.std.proofs.lemmas.Option.{slice_get-map}
use Rattle.mls_lexer.specs.declared.token.Kind.{Kind}
use Rattle.mls_lexer.specs.declared.token.Kind.TheVariants as kind
use Rattle.mls_lexer.specs.declared.token.Token.{Token}
use Rattle.mls_lexer.specs.Tokens.{Terminal, name, number, word, terminal_of, terminal, terminals}

-- the kind of a terminal
abbrev pub kind_of : Terminal → Kind
kind_of (name x) = kind.Name
kind_of (number n) = kind.Number
kind_of (word k) = k

pub kind_of-terminal : (k : Kind) (bytes : List ℕ) → kind_of (terminal_of k bytes) ≡ k
kind_of-terminal kind.Name bytes = refl
kind_of-terminal kind.Number bytes = refl
kind_of-terminal kind.WordAnd bytes = refl
kind_of-terminal kind.WordBool bytes = refl
kind_of-terminal kind.WordBot bytes = refl
kind_of-terminal kind.WordElse bytes = refl
kind_of-terminal kind.WordFalse bytes = refl
kind_of-terminal kind.WordFormat bytes = refl
kind_of-terminal kind.WordFun bytes = refl
kind_of-terminal kind.WordIf bytes = refl
kind_of-terminal kind.WordImport bytes = refl
kind_of-terminal kind.WordIn bytes = refl
kind_of-terminal kind.WordInt bytes = refl
kind_of-terminal kind.WordLet bytes = refl
kind_of-terminal kind.WordRec bytes = refl
kind_of-terminal kind.WordThen bytes = refl
kind_of-terminal kind.WordTop bytes = refl
kind_of-terminal kind.WordTrue bytes = refl
kind_of-terminal kind.WordType bytes = refl
kind_of-terminal kind.WordVal bytes = refl
kind_of-terminal kind.Equals bytes = refl
kind_of-terminal kind.DoubleEquals bytes = refl
kind_of-terminal kind.Arrow bytes = refl
kind_of-terminal kind.BraceLeft bytes = refl
kind_of-terminal kind.BraceRight bytes = refl
kind_of-terminal kind.ParenLeft bytes = refl
kind_of-terminal kind.ParenRight bytes = refl
kind_of-terminal kind.Comma bytes = refl
kind_of-terminal kind.Dot bytes = refl
kind_of-terminal kind.Colon bytes = refl
kind_of-terminal kind.Plus bytes = refl
kind_of-terminal kind.Minus bytes = refl
kind_of-terminal kind.Star bytes = refl
kind_of-terminal kind.Less bytes = refl
kind_of-terminal kind.Bar bytes = refl
kind_of-terminal kind.Amp bytes = refl

-- tokens from one that is there on
pub drop-next : {X : Type 0} (xs : List X) (i : ℕ) (x : X) → slice_get xs i ≡ Some x → drop i xs ≡ x ∷ drop (suc i) xs
drop-next [] i x at = absurd (cc)
drop-next (first ∷ xs) zero x at = let same : first ≡ x = cc in ap (λ y. y ∷ xs) same
drop-next (first ∷ xs) (suc i) x at = drop-next xs i x at

pub drop-none : {X : Type 0} (xs : List X) (i : ℕ) → slice_get xs i ≡ None → drop i xs ≡ []
drop-none [] zero at = refl
drop-none [] (suc i) at = refl
drop-none (first ∷ xs) zero at = absurd (cc)
drop-none (first ∷ xs) (suc i) at = drop-none xs i at

pub slice_get-behind : {X : Type 0} (xs : List X) (k n : ℕ) → slice_get (drop k xs) n ≡ slice_get xs (k + n)
slice_get-behind xs zero n = ap (slice_get xs) (omega arith)
slice_get-behind [] (suc k) n = refl
slice_get-behind (first ∷ xs) (suc k) n =
    let same : suc (k + n) ≡ suc k + n = omega arith in
    slice_get-behind xs k n ∙ ap (slice_get (first ∷ xs)) same

pub drop-behind : {X : Type 0} (xs : List X) (k n : ℕ) → drop n (drop k xs) ≡ drop (k + n) xs
drop-behind xs zero n = ap (λ m. drop m xs) (omega arith)
drop-behind [] (suc k) n = drop_all n [] (omega arith) ∙ sym (drop_all (suc k + n) [] (omega arith))
drop-behind (first ∷ xs) (suc k) n =
    let same : suc (k + n) ≡ suc k + n = omega arith in
    drop-behind xs k n ∙ ap (λ m. drop m (first ∷ xs)) same

pub terminal-there : (text : List ℕ) (tokens : List Token) (i : ℕ) (token : Token) → slice_get tokens i ≡ Some token
    → slice_get (terminals text tokens) i ≡ Some (terminal text token)
terminal-there text tokens i token at =
    slice_get-map (λ token. terminal text token) tokens i ∙ ap (option_map (λ token. terminal text token)) at

pub terminal-absent : (text : List ℕ) (tokens : List Token) (i : ℕ) → slice_get tokens i ≡ None → slice_get (terminals text tokens) i ≡ None
terminal-absent text tokens i at =
    slice_get-map (λ token. terminal text token) tokens i ∙ ap (option_map (λ token. terminal text token)) at
