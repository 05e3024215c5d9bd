-- Tokens that follow one another.
use Rattle.std.proofs.Common.{◌≡◌, ℕ, zero, suc, ◌+◌, ◌<◌, ◌≤◌, List, [], ◌∷◌, ◌++◌, length, drop, slice_range, All, Err, sym, subst, refl, arith}
use Rattle.mls_lexer.specs.declared.token.Token.{Token}
use Rattle.mls_lexer.specs.declared.token.LexFault.{LexFault}
use Rattle.mls_lexer.specs.declared.token.LexFault.TheVariants.{BadByte, BigNumber, Memory}
use Rattle.mls_lexer.specs.Tokens.{IsGap, IsLastGap, IsLongest, IsToken, Follow, IsTokens, HasTokenFault, bad_byte, big_number}
use Rattle.mls_lexer.specs.steps.Scanning.{ComesNext, IsBigNumber, StandsAt}

-- what holds after the tokens may be weakened
pub Follow-map : (text : List ℕ) (place : ℕ) (tokens : List Token) (R S : ℕ → Type 0) → ((q : ℕ) → R q → S q)
    → Follow text place tokens R → Follow text place tokens S
Follow-map text place [] R S weaker h = weaker place h
Follow-map text place (token ∷ tokens) R S weaker h = (h.0, h.1, h.2, Follow-map text token.end tokens R S weaker h.3)

-- one token more at the end
pub Follow-push : (text : List ℕ) (place : ℕ) (tokens : List Token) (token : Token) (R S : ℕ → Type 0)
    → ((q : ℕ) → R q → (q ≤ token.start) × IsGap (slice_range text q token.start) × IsToken text token × S token.end)
    → Follow text place tokens R → Follow text place (tokens ++ token ∷ []) S
Follow-push text place [] token R S next h = next place h
Follow-push text place (first ∷ tokens) token R S next h = (h.0, h.1, h.2, Follow-push text first.end tokens token R S next h.3)

-- the tokens lie between the place and where they end, and each has a byte at least
pub Follow-end : (text : List ℕ) (place : ℕ) (tokens : List Token) (R : ℕ → Type 0) → Follow text place tokens R
    → (q : ℕ) × R q × (place + length tokens ≤ q)
Follow-end text place [] R h = (place, h, omega arith)
Follow-end text place (token ∷ tokens) R h =
    let rest = Follow-end text token.end tokens R h.3 in
    let within = h.2.within in
    let start = h.0 in
    let after = rest.2 in
    (rest.0, rest.1, omega arith)

-- each of them is a token
pub Follow-all : (text : List ℕ) (place : ℕ) (tokens : List Token) (R : ℕ → Type 0) → Follow text place tokens R → All (IsToken text) tokens
Follow-all text place [] R h k d inside = absurd (omega arith)
Follow-all text place (token ∷ tokens) R h zero d inside = h.2
Follow-all text place (token ∷ tokens) R h (suc k) d inside = Follow-all text token.end tokens R h.3 k d (omega arith)

-- the tokens found so far end at a place
abbrev pub EndAt : List ℕ → List Token → ℕ → Type 0
EndAt text tokens end = Follow text 0 tokens (λ place. place ≡ end)

pub EndAt-push : (text : List ℕ) (tokens : List Token) (end start : ℕ) (token : Token) → EndAt text tokens end → ComesNext text end start
    → token.start ≡ start → IsToken text token → EndAt text (tokens ++ token ∷ []) token.end
EndAt-push text tokens end start token so_far next place it =
    Follow-push text 0 tokens token (λ q. q ≡ end) (λ q. q ≡ token.end)
    (λ q same. subst (λ e. (e ≤ token.start) × IsGap (slice_range text e token.start) × IsToken text token × (token.end ≡ token.end)) (sym same)
    (subst (λ s. end ≤ s) (sym place) next.inside.0, subst (λ s. IsGap (slice_range text end s)) (sym place) next.separated, it, refl))
    so_far

pub IsTokens-end : (text : List ℕ) (tokens : List Token) (end : ℕ) → EndAt text tokens end → IsLastGap (drop end text) → IsTokens text tokens
IsTokens-end text tokens end so_far last =
    Follow-map text 0 tokens (λ q. q ≡ end) (λ q. IsLastGap (drop q text)) (λ q same. subst (λ e. IsLastGap (drop e text)) (sym same) last) so_far

reaches : (text : List ℕ) (tokens : List Token) (end at : ℕ) → EndAt text tokens end → ComesNext text end at
    → Follow text 0 tokens (λ q. (q ≤ at) × (at < length text) × IsGap (slice_range text q at))
reaches text tokens end at so_far next =
    Follow-map text 0 tokens (λ q. q ≡ end) (λ q. (q ≤ at) × (at < length text) × IsGap (slice_range text q at))
    (λ q same. subst (λ e. (e ≤ at) × (at < length text) × IsGap (slice_range text e at)) (sym same) (next.inside.0, next.inside.1, next.separated)) so_far

pub HasTokenFault-bad_byte : (text : List ℕ) (tokens : List Token) (end at : ℕ) → EndAt text tokens end → ComesNext text end at
    → IsLongest text at at → HasTokenFault text (BadByte at)
HasTokenFault-bad_byte text tokens end at so_far next none = bad_byte tokens at (reaches text tokens end at so_far next) next.stop none

pub HasTokenFault-big_number : (text : List ℕ) (tokens : List Token) (end at : ℕ) → EndAt text tokens end → ComesNext text end at
    → (stop : ℕ) × IsBigNumber text at stop → HasTokenFault text (BigNumber at)
HasTokenFault-big_number text tokens end at so_far next big =
    big_number tokens at big.0 (reaches text tokens end at so_far next) big.1.within.1 big.1.digits big.1.longest big.1.value

-- what stands after the tokens so far, where it is a fault
pub HasTokenFault-at : (text : List ℕ) (tokens : List Token) (end at : ℕ) (fault : LexFault) → EndAt text tokens end → ComesNext text end at
    → StandsAt text at (Err fault) → HasTokenFault text fault
HasTokenFault-at text tokens end at (BadByte place) so_far next h =
    subst (λ p. HasTokenFault text (BadByte p)) (sym h.0) (HasTokenFault-bad_byte text tokens end at so_far next h.1)
HasTokenFault-at text tokens end at (BigNumber place) so_far next h =
    subst (λ p. HasTokenFault text (BigNumber p)) (sym h.0) (HasTokenFault-big_number text tokens end at so_far next h.1)
HasTokenFault-at text tokens end at Memory so_far next h = absurd h
