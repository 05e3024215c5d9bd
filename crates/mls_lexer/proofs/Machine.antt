-- What the machine over a stack of parts reads, where its table is sound for the phrases of a grammar.
use Rattle.std.proofs.Common.{◌≡◌, Bool, true, false, List, [], ◌∷◌, ◌++◌, refl, sym, ap, ◌∙◌, Some, None}
use Rattle.std.specs.Prelude.{Option}
use Rattle.mls_lexer.specs.steps.Machine.{chosen, step, onward, run, both, can_end}

-- a list after another is read behind it
pub run-append : {T S : Type 0} (opens : S → T → Option (List S)) (may_end : S → Bool) (st : List S) (xs ys : List T) → run opens may_end st (xs ++ ys) ≡ onward (run opens may_end st xs) (λ next. run opens may_end next ys)
unfolding run
run-append opens may_end st [] ys = refl
run-append {T = T} {S = S} opens may_end st (t ∷ xs) ys = go (step opens may_end st t) (λ next. run-append opens may_end next xs ys)
  where
    go : (o : Option (List S)) → ((next : List S) → run opens may_end next (xs ++ ys) ≡ onward (run opens may_end next xs) (λ next. run opens may_end next ys)) → onward o (λ next. run opens may_end next (xs ++ ys)) ≡ onward (onward o (λ next. run opens may_end next xs)) (λ next. run opens may_end next ys)
    go None later = refl
    go (Some next) later = later next

-- phrases for a stack
abbrev pub Phrases : {S : Type 0} → (S → Type 0) → List S → Type 0
Phrases P [] = Unit {0}
Phrases P (s ∷ st) = P s × Phrases P st

-- what they spell, before what follows
abbrev pub spell : {T S : Type 0} → (P : S → Type 0) → ((s : S) → P s → List T → List T) → (st : List S) → Phrases P st → List T → List T
spell P yields [] ps ts = ts
spell P yields (s ∷ st) ps ts = yields s ps.0 (spell P yields st ps.1 ts)

-- a part of each sort makes phrases for any stack
pub some_phrases : {S : Type 0} (P : S → Type 0) → ((s : S) → P s) → (st : List S) → Phrases P st
some_phrases P some [] = tt
some_phrases P some (s ∷ st) = (some s, some_phrases P some st)

-- phrases for two stacks in a row
split : {T S : Type 0} (P : S → Type 0) (yields : (s : S) → P s → List T → List T) (new st : List S) (qs : Phrases P (new ++ st)) → (first : Phrases P new) × (second : Phrases P st) × ((ts : List T) → spell P yields (new ++ st) qs ts ≡ spell P yields new first (spell P yields st second ts))
split P yields [] st qs = (tt, qs, λ ts. refl)
split P yields (s ∷ new) st qs =
    let rest = split P yields new st qs.1 in
    ((qs.0, rest.0), rest.1, λ ts. ap (yields s qs.0) (rest.2 ts))

-- a part may begin as the table says
abbrev pub OpensSoundly : {T S : Type 0} → (P : S → Type 0) → ((s : S) → P s → List T → List T) → S → T → Option (List S) → Type 0
OpensSoundly P yields s t None = Unit {0}
OpensSoundly {T = T} P yields s t (Some new) = (qs : Phrases P new) → (p : P s) × ((ts : List T) → yields s p ts ≡ t ∷ spell P yields new qs ts)

-- whatever phrases come for what is left, there are phrases that spell the list before them
abbrev pub ReadsSoundly : {T S : Type 0} → (P : S → Type 0) → ((s : S) → P s → List T → List T) → List S → List T → Option (List S) → Type 0
ReadsSoundly P yields st us None = Unit {0}
ReadsSoundly {T = T} P yields st us (Some next) = (qs : Phrases P next) → (ps : Phrases P st) × ((ts : List T) → spell P yields st ps ts ≡ us ++ spell P yields next qs ts)

-- a table is sound for the phrases of a grammar
pub record IsSound {T S : Type 0} (opens : S → T → Option (List S)) (may_end : S → Bool) (P : S → Type 0) (yields : (s : S) → P s → List T → List T) : Type 0 where
  pub opening : (s : S) (t : T) → OpensSoundly P yields s t (opens s t)
  pub empty : (s : S) → may_end s ≡ true → (p : P s) × ((ts : List T) → yields s p ts ≡ ts)

module _ {T S : Type 0} (opens : S → T → Option (List S)) (may_end : S → Bool) (P : S → Type 0) (yields : (s : S) → P s → List T → List T) (is : IsSound opens may_end P yields) where
  step-sound : (st : List S) (t : T) → ReadsSoundly P yields st (t ∷ []) (step opens may_end st t)
  step-sound [] t = tt
  step-sound (s ∷ st) t = go (opens s t) (is.opening s t) (may_end s) (is.empty s) (step opens may_end st t) (step-sound st t)
    where
      go : (o : Option (List S)) → OpensSoundly P yields s t o → (b : Bool) → (b ≡ true → (p : P s) × ((ts : List T) → yields s p ts ≡ ts)) → (later : Option (List S)) → ReadsSoundly P yields st (t ∷ []) later → ReadsSoundly P yields (s ∷ st) (t ∷ []) (chosen o b st later)
      go (Some new) opening b empty later after = λ qs.
          let parts = split P yields new st qs in
          let it = opening parts.0 in
          ((it.0, parts.1), λ ts. it.1 (spell P yields st parts.1 ts) ∙ ap (λ us. t ∷ us) (sym (parts.2 ts)))
      go None opening true empty None after = tt
      go None opening true empty (Some next) after = λ qs.
          let it = after qs in
          let e = empty refl in
          ((e.0, it.0), λ ts. e.1 (spell P yields st it.0 ts) ∙ it.1 ts)
      go None opening false empty later after = tt

  -- what the machine has read is the beginning of phrases
  pub run-sound : (us : List T) (st : List S) → ReadsSoundly P yields st us (run opens may_end st us)
  unfolding run
  run-sound [] st = λ qs. (qs, λ ts. refl)
  run-sound (u ∷ us) st = go (step opens may_end st u) (step-sound st u) (λ next. run-sound us next)
    where
      after : (next : List S) → ReadsSoundly P yields st (u ∷ []) (Some next) → (o : Option (List S)) → ReadsSoundly P yields next us o → ReadsSoundly P yields st (u ∷ us) o
      after next first None second = tt
      after next first (Some last) second = λ qs.
          let two = second qs in
          let one = first two.0 in
          (one.0, λ ts. one.1 ts ∙ ap (λ vs. u ∷ vs) (two.1 ts))

      go : (o : Option (List S)) → ReadsSoundly P yields st (u ∷ []) o → ((next : List S) → ReadsSoundly P yields next us (run opens may_end next us)) → ReadsSoundly P yields st (u ∷ us) (onward o (λ next. run opens may_end next us))
      go None first second = tt
      go (Some next) first second = after next first (run opens may_end next us) (second next)

  -- where nothing more has to come, phrases spell just what was read
  pub empty_phrases : (st : List S) → can_end may_end st ≡ true → (ps : Phrases P st) × ((ts : List T) → spell P yields st ps ts ≡ ts)
  empty_phrases [] e = (tt, λ ts. refl)
  empty_phrases (s ∷ st) e = go (may_end s) (is.empty s) e (empty_phrases st)
    where
      go : (b : Bool) → (b ≡ true → (p : P s) × ((ts : List T) → yields s p ts ≡ ts)) → both b (can_end may_end st) ≡ true → (can_end may_end st ≡ true → (ps : Phrases P st) × ((ts : List T) → spell P yields st ps ts ≡ ts)) → (ps : Phrases P (s ∷ st)) × ((ts : List T) → spell P yields (s ∷ st) ps ts ≡ ts)
      go true empty e rest =
          let first = empty refl in
          let later = rest e in
          ((first.0, later.0), λ ts. first.1 (spell P yields st later.0 ts) ∙ later.1 ts)
      go false empty e rest = absurd (cc)
