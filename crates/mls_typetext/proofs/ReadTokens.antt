-- How the loop over the tokens of a type goes on and ends.
use Rattle.std.proofs.Common.{◌≡◌, ℕ, zero, suc, ◌+◌, ◌≤◌, List, [], ◌∷◌, ◌++◌, length, take, refl, sym, ap, ◌∙◌, arith, add-one, Some}
use Rattle.std.specs.Prelude.{option_map, slice_get}
use Rattle.std.proofs.lemmas.List.{length-map, take_all}
use Rattle.std.proofs.lemmas.Option.{slice_get-map}
use Rattle.mls_lexer.specs.declared.token.Token.{Token}
use Rattle.mls_lexer.specs.Tokens.{terminal}
use Rattle.mls_typetext.specs.declared.piece.Piece.{Piece}
use Rattle.mls_typetext.specs.declared.read.PieceReader.{PieceReader}
use Rattle.mls_typetext.specs.Phrases.{whole}
use Rattle.mls_lexer.specs.steps.Placed.{Placed, placed}
use Rattle.mls_typetext.specs.steps.PieceMachine.{Todo, a, State, advance, build, last_told, told_of}
use Rattle.mls_typetext.specs.steps.PieceReaders.{stack_of, state_of, IsNew}

next_taken : {A : Type 0} (xs : List A) (n : ℕ) (x : A) → slice_get xs n ≡ Some x → take (suc n) xs ≡ take n xs ++ x ∷ []
next_taken [] n x e = absurd (cc)
next_taken (y ∷ xs) zero x e = let same : y ≡ x = cc in ap (λ z. z ∷ []) same
next_taken (y ∷ xs) (suc n) x e = ap (λ zs. y ∷ zs) (next_taken xs n x e)

-- a list after another is built behind it
build-append : (us vs : List Placed) (st : List Todo) (told : List Piece) → build st told (us ++ vs) ≡ build (build st told us).stack (build st told us).told vs
unfolding build
build-append [] vs st told = refl
build-append (u ∷ us) vs st told = let next = advance u.0 u.1 st told in build-append us vs next.stack next.told

build-one : (u : Placed) (st : List Todo) (told : List Piece) → build st told (u ∷ []) ≡ advance u.0 u.1 st told
unfolding build
build-one u st told = refl

-- the reader has read the first n tokens
abbrev pub HasRead : List ℕ → List Token → ℕ → PieceReader → Type 0
HasRead text tokens n reader = build (a whole ∷ []) [] (take n (placed text tokens)) ≡ state_of reader

pub has_read-new : (text : List ℕ) (tokens : List Token) (reader : PieceReader) → IsNew reader → HasRead text tokens 0 reader
unfolding build
has_read-new text tokens reader new = λ i. record { stack = sym new.stack i; told = sym new.pieces i }

pub has_read-more : (text : List ℕ) (tokens : List Token) (n : ℕ) (token : Token) → slice_get tokens n ≡ Some token → (old new : PieceReader) → HasRead text tokens n old
    → state_of new ≡ advance token.start (terminal text token) (stack_of old.stack.items) old.pieces.items → HasRead text tokens (n + 1) new
has_read-more text tokens n token at old new is went =
    let u : Placed = (token.start, terminal text token) in
    let here : slice_get (placed text tokens) n ≡ Some u =
    slice_get-map (λ (token : Token). (token.start, terminal text token)) tokens n ∙ ap (option_map (λ (token : Token). (token.start, terminal text token))) at in
    ap (λ m. build (a whole ∷ []) [] (take m (placed text tokens))) (add-one n)
    ∙ (ap (build (a whole ∷ []) []) (next_taken (placed text tokens) n u here)
    ∙ (build-append (take n (placed text tokens)) (u ∷ []) (a whole ∷ []) []
    ∙ (ap (λ (s : State). build s.stack s.told (u ∷ [])) is
    ∙ (build-one u (stack_of old.stack.items) old.pieces.items
    ∙ sym went))))

pub has_read-all : (text : List ℕ) (tokens : List Token) (n : ℕ) (reader : PieceReader) → length tokens ≤ n → HasRead text tokens n reader → last_told (stack_of reader.stack.items) reader.pieces.items ≡ told_of (placed text tokens)
has_read-all text tokens n reader past is =
    let size : length (placed text tokens) ≡ length tokens = length-map tokens (λ (token : Token). (token.start, terminal text token)) in
    let all : take n (placed text tokens) ≡ placed text tokens = take_all n (placed text tokens) (omega arith) in
    ap (λ (s : State). last_told s.stack s.told) (sym is ∙ ap (build (a whole ∷ []) []) all)
