-- Where the machine stops, a type ends or the grammar stops: what a reader with a stack has to know.
use Rattle.std.proofs.Common.{◌≡◌, ℕ, zero, suc, ◌+◌, ◌<◌, ◌≤◌, true, false, List, [], ◌∷◌, ◌++◌, length, take, drop, refl, sym, ap, ◌∙◌, subst, arith, Some, None}
use Rattle.std.specs.Prelude.{slice_get}
use Rattle.mls_lexer.specs.declared.token.Token.{Token}
use Rattle.mls_lexer.specs.Tokens.{Terminal, terminals}
use Rattle.mls_lexer.specs.steps.Machine.{run, step, onward, can_end}
use Rattle.mls_lexer.proofs.Machine.{run-append}
use Rattle.mls_typetext.specs.declared.scheme.TypeFault.TheVariants.{Unexpected, Ended}
use Rattle.mls_typetext.specs.Phrases.{whole}
use Rattle.mls_typetext.specs.Stops.{IsType, IsFurthest, EndsBefore, HasStop, stops_before, stops_at_end}
use Rattle.mls_typetext.specs.steps.EndTable.{ToCome, a, opens, may_end}
use Rattle.mls_typetext.proofs.TypeMachine.{read, left}
use Rattle.mls_typetext.proofs.TypeGoing.{IsThere, begins-read, read-begins, type-read, read-type}

-- the machine has read the first n terminals and this is left to come
abbrev pub IsRead : List Terminal → ℕ → List ToCome → Type 0
IsRead ts n st = read (a whole ∷ []) (take n ts) ≡ Some st

-- the next terminal, if there is one, cannot go on
abbrev pub IsStuck : List Terminal → ℕ → List ToCome → Type 0
IsStuck ts n st = (t : Terminal) → slice_get ts n ≡ Some t → step opens may_end st t ≡ None

-- the terminals behind the first n
take_split : (ts : List Terminal) (n m : ℕ) → n < m → m ≤ length ts → (t : Terminal) × (rest : List Terminal) × (slice_get ts n ≡ Some t) × (take m ts ≡ take n ts ++ t ∷ rest)
take_split [] n m less le = absurd (omega arith)
take_split (t ∷ ts) n zero less le = absurd (omega arith)
take_split (t ∷ ts) zero (suc m) less le = (t, take m ts, refl, refl)
take_split (t ∷ ts) (suc n) (suc m) less le =
    let it = take_split ts n m (omega arith) (omega arith) in
    (it.0, it.1, it.2, ap (λ us. t ∷ us) it.3)

pub furthest-stuck : (ts : List Terminal) (n : ℕ) (st : List ToCome) → n ≤ length ts → IsRead ts n st → IsStuck ts n st → IsFurthest ts n
unfolding run
furthest-stuck ts n st le is stuck = record {
  within = le;
  begins =
      let it = read-begins (take n ts) (subst IsThere (sym is) tt) in
      (it.1, (it.0, it.2));
  no_further = λ m less within begins.
      let split = take_split ts n m less within in
      let none : step opens may_end st split.0 ≡ None = stuck split.0 split.2 in
      let read_none : read (a whole ∷ []) (take m ts) ≡ None =
      ap (read (a whole ∷ [])) split.3
      ∙ (run-append opens may_end (a whole ∷ []) (take n ts) (split.0 ∷ split.1)
      ∙ (ap (λ o. onward o (λ next. read next (split.0 ∷ split.1))) is
      ∙ ap (λ o. onward o (λ next. read next split.1)) none)) in
      subst IsThere read_none (begins-read (take m ts) (begins.1.0, begins.0, begins.1.1));
}

-- what is read is a type exactly where nothing more has to come
pub type-can_end : (us : List Terminal) (st : List ToCome) → read (a whole ∷ []) us ≡ Some st → IsType us → can_end may_end st ≡ true
type-can_end us st is type =
    let whole_read : read (a whole ∷ []) us ≡ Some (left whole) = type-read us type.0 type.1 in
    let same : left whole ≡ st = same_some (left whole) st (sym whole_read ∙ is) in
    ap (can_end may_end) (sym same)
  where
    same_some : (x y : List ToCome) → Some x ≡ Some y → x ≡ y
    same_some x y e = cc

no_type-can_end : (us : List Terminal) (st : List ToCome) → read (a whole ∷ []) us ≡ Some st → can_end may_end st ≡ false → IsType us → ⊥
no_type-can_end us st is owed type = let yes : can_end may_end st ≡ true = type-can_end us st is type in cc

-- so it is found where the type that begins at a token ends,
pub ends_before : (text : List ℕ) (tokens : List Token) (from n : ℕ) (st : List ToCome) → n ≤ length (drop from (terminals text tokens)) → IsRead (drop from (terminals text tokens)) n st → IsStuck (drop from (terminals text tokens)) n st → can_end may_end st ≡ true → EndsBefore text tokens from (from + n)
ends_before text tokens from n st le is stuck can = record {
  count = n;
  furthest = furthest-stuck (drop from (terminals text tokens)) n st le is stuck;
  is_type = read-type (take n (drop from (terminals text tokens))) st is can;
  place = refl;
}

-- which token is unexpected,
pub has_stop : (text : List ℕ) (tokens : List Token) (from n : ℕ) (st : List ToCome) (token : Token) → n ≤ length (drop from (terminals text tokens)) → IsRead (drop from (terminals text tokens)) n st → IsStuck (drop from (terminals text tokens)) n st → can_end may_end st ≡ false → slice_get tokens (from + n) ≡ Some token → HasStop text tokens from (Unexpected token.start token.kind)
has_stop text tokens from n st token le is stuck owed at =
    stops_before n token (furthest-stuck (drop from (terminals text tokens)) n st le is stuck)
    (no_type-can_end (take n (drop from (terminals text tokens))) st is owed) at

-- and that the type ends too early
pub has_ended : (text : List ℕ) (tokens : List Token) (from : ℕ) (st : List ToCome) → read (a whole ∷ []) (drop from (terminals text tokens)) ≡ Some st → can_end may_end st ≡ false → HasStop text tokens from Ended
has_ended text tokens from st is owed =
    let it = read-begins (drop from (terminals text tokens)) (subst IsThere (sym is) tt) in
    stops_at_end (it.1, (it.0, it.2)) (no_type-can_end (drop from (terminals text tokens)) st is owed)
