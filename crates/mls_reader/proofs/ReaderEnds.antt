-- How the loop over the tokens of a module goes on and ends.
use Rattle.std.proofs.Common.{◌≡◌, ℕ, zero, suc, ◌+◌, ◌<◌, ◌≤◌, true, false, List, [], ◌∷◌, ◌++◌, length, take, refl, sym, ap, ◌∙◌, subst, arith, add-one, ◌⊎◌, inl, inr, Some, None}
use Rattle.std.specs.Prelude.{Option, option_map, slice_get}
use Rattle.std.proofs.lemmas.Bool.{cases_lt}
use Rattle.std.proofs.lemmas.List.{length-map, take_all}
use Rattle.std.proofs.lemmas.Option.{slice_get-map}
use Rattle.mls_lexer.specs.declared.token.Token.{Token}
use Rattle.mls_lexer.specs.Tokens.{Terminal, terminal, terminals}
use Rattle.mls_lexer.specs.steps.Machine.{run, step, onward}
use Rattle.mls_lexer.proofs.Machine.{run-append}
use Rattle.mls_grammar.specs.declared.fault.Fault.{Fault}
use Rattle.mls_grammar.specs.declared.fault.Fault.TheVariants.{Ended}
use Rattle.mls_reader.specs.declared.piece.Piece.{Piece}
use Rattle.mls_reader.specs.declared.piece.Event.{Event}
use Rattle.mls_reader.specs.declared.read.ModuleReader.{ModuleReader}
use Rattle.mls_grammar.specs.GrammarFaults.{nestings, HasGrammarFault}
use Rattle.mls_reader.specs.steps.PieceMachine.{Todo, State, advance, build, last_told, beginning}
use Rattle.mls_reader.specs.steps.Todos.{stack_of}
use Rattle.mls_reader.specs.steps.PieceReaders.{state_of, IsNew, Went, Stopped, stuck, deep, Finished, placed, at_end, ReadsSource}
use Rattle.mls_grammar.proofs.GrammarMachine.{ToCome, opens, may_end, read, start}
use Rattle.mls_grammar.proofs.GrammarNesting.{begun, further, marks, marked-source}
use Rattle.mls_grammar.proofs.GrammarGoing.{ends-source}
use Rattle.mls_grammar.proofs.GrammarReads.{NoMarkBefore, has_unexpected, has_ended, has_too_deep}
use Rattle.mls_grammar.proofs.GrammarTotal.{mark-within, shallow}
use Rattle.mls_reader.proofs.ReaderParts.{all_parts, goes, stops, ends}

next_taken : {A : Type 0} (xs : List A) (n : ℕ) (x : A) → slice_get xs n ≡ Some x → take (suc n) xs ≡ take n xs ++ x ∷ []
next_taken [] n x e = absurd (cc)
next_taken (y ∷ xs) zero x e = let same : y ≡ x = cc in ap (λ z. z ∷ []) same
next_taken (y ∷ xs) (suc n) x e = ap (λ zs. y ∷ zs) (next_taken xs n x e)

-- a list after another is built behind it
build-append : (us vs : List (ℕ × Terminal)) (st : List Todo) (told : List Piece) (heard : List Event)
    → build st told heard (us ++ vs) ≡ build (build st told heard us).stack (build st told heard us).told (build st told heard us).heard vs
unfolding build
build-append [] vs st told heard = refl
build-append (u ∷ us) vs st told heard =
    let next = advance u.0 u.1 st told heard in
    build-append us vs next.stack next.told next.heard

-- the mark of a terminal is what the machine says behind those before it
mark-at : (ts : List Terminal) (n : ℕ) (t : Terminal) (st next : List ToCome) → read st (take n ts) ≡ Some next → slice_get ts n ≡ Some t → slice_get (marks st ts) n ≡ Some (begun next t)
unfolding run marks
mark-at [] n t st next is at = absurd (cc)
mark-at (u ∷ ts) zero t st next is at =
    let same : st ≡ next = cc in
    let here : u ≡ t = cc in
    λ i. Some (begun (same i) (here i))
mark-at (u ∷ ts) (suc n) t st next is at = go (step opens may_end st u) is (λ middle h. mark-at ts n t middle next h at)
  where
    go : (o : Option (List ToCome)) → onward o (λ middle. read middle (take n ts)) ≡ Some next → ((middle : List ToCome) → read middle (take n ts) ≡ Some next → slice_get (marks middle ts) n ≡ Some (begun next t))
        → slice_get (further o (λ middle. marks middle ts)) n ≡ Some (begun next t)
    go None e later = absurd (cc)
    go (Some middle) e later = later middle e

no_mark-more : (ts : List Terminal) (n m : ℕ) → NoMarkBefore ts n → slice_get (marks start ts) n ≡ Some m → (m ≡ 201 → ⊥) → NoMarkBefore ts (suc n)
no_mark-more ts n m none is other j low e = go (cases_lt j n)
  where
    go : (j < n) ⊎ (n ≤ j) → ⊥
    go (inl h) = none j h e
    go (inr h) =
        let here : j ≡ n = omega arith in
        let same : Some m ≡ Some 201 = sym is ∙ (ap (slice_get (marks start ts)) (sym here) ∙ e) in
        other cc

-- the reader has read the first n tokens
pub record HasRead (text : List ℕ) (tokens : List Token) (n : ℕ) (reader : ModuleReader) : Type 0 where
  pub built : build beginning [] [] (take n (placed text tokens)) ≡ state_of reader
  pub going : read start (take n (terminals text tokens)) ≡ Some (all_parts (stack_of reader.stack.items))
  pub none : NoMarkBefore (terminals text tokens) n

pub has_read-new : (text : List ℕ) (tokens : List Token) (reader : ModuleReader) → IsNew reader → HasRead text tokens 0 reader
unfolding build run
has_read-new text tokens reader new = record {
  built = λ i. record { stack = sym new.stack i; told = sym new.pieces i; heard = sym new.events i };
  going = ap (λ st. Some (all_parts st)) (sym new.stack);
  none = λ j low e. absurd (omega arith);
}

module _ (text : List ℕ) (tokens : List Token) where
  -- a token, its terminal, and both with its place
  module _ (n : ℕ) (token : Token) (at : slice_get tokens n ≡ Some token) where
    terminal-at : slice_get (terminals text tokens) n ≡ Some (terminal text token)
    terminal-at = slice_get-map (λ token. terminal text token) tokens n ∙ ap (option_map (λ token. terminal text token)) at

    placed-at : slice_get (placed text tokens) n ≡ Some (token.start, terminal text token)
    placed-at = slice_get-map (λ (token : Token). (token.start, terminal text token)) tokens n ∙ ap (option_map (λ (token : Token). (token.start, terminal text token))) at

    module _ (old : ModuleReader) (is : HasRead text tokens n old) where
      mark-there : slice_get (marks start (terminals text tokens)) n ≡ Some (begun (all_parts (stack_of old.stack.items)) (terminal text token))
      mark-there = mark-at (terminals text tokens) n (terminal text token) start (all_parts (stack_of old.stack.items)) is.going terminal-at

      built-more : (new : ModuleReader) → Went text token old new → build beginning [] [] (take (suc n) (placed text tokens)) ≡ state_of new
      unfolding build
      built-more new went =
          ap (build beginning [] []) (next_taken (placed text tokens) n (token.start, terminal text token) placed-at)
          ∙ (build-append (take n (placed text tokens)) ((token.start, terminal text token) ∷ []) beginning [] []
          ∙ (ap (λ (s : State). advance token.start (terminal text token) s.stack s.told s.heard) is.built
          ∙ sym went.state))

      going-more : (new : ModuleReader) → Went text token old new → read start (take (suc n) (terminals text tokens)) ≡ Some (all_parts (stack_of new.stack.items))
      unfolding run
      going-more new went =
          let t = terminal text token in
          let next = goes (stack_of old.stack.items) token.start t old.pieces.items old.events.items went.nesting went.there in
          ap (read start) (next_taken (terminals text tokens) n t terminal-at)
          ∙ (run-append opens may_end start (take n (terminals text tokens)) (t ∷ [])
          ∙ (ap (λ o. onward o (λ st. read st (t ∷ []))) is.going
          ∙ (ap (λ o. onward o (λ st. read st [])) next.0
          ∙ ap (λ (s : State). Some (all_parts s.stack)) (sym went.state))))

      -- one token more is read,
      pub has_read-more : (new : ModuleReader) → Went text token old new → HasRead text tokens (n + 1) new
      has_read-more new went =
          let next = goes (stack_of old.stack.items) token.start (terminal text token) old.pieces.items old.events.items went.nesting went.there in
          subst (λ m. HasRead text tokens m new) (sym (add-one n)) (record {
            built = built-more new went;
            going = going-more new went;
            none = no_mark-more (terminals text tokens) n went.nesting is.none (mark-there ∙ ap Some next.1) went.shallow;
          })

      -- or has a fault
      pub stopped-fault : (fault : Fault) → Stopped text token old fault → HasGrammarFault text tokens fault
      stopped-fault _ (stuck none) =
          has_unexpected text tokens n token (all_parts (stack_of old.stack.items)) at is.going (stops (stack_of old.stack.items) token.start (terminal text token) none) is.none
      stopped-fault _ (deep there) =
          let next = goes (stack_of old.stack.items) token.start (terminal text token) old.pieces.items old.events.items 201 there in
          has_too_deep text tokens n token at (mark-there ∙ ap Some next.1) is.none

  module _ (n : ℕ) (past : length tokens ≤ n) (reader : ModuleReader) (is : HasRead text tokens n reader) where
    all-going : read start (terminals text tokens) ≡ Some (all_parts (stack_of reader.stack.items))
    all-going =
        let size : length (terminals text tokens) ≡ length tokens = length-map tokens (λ token. terminal text token) in
        ap (read start) (sym (take_all n (terminals text tokens) (omega arith))) ∙ is.going

    all-built : at_end text tokens ≡ state_of reader
    all-built =
        let size : length (placed text tokens) ≡ length tokens = length-map tokens (λ (token : Token). (token.start, terminal text token)) in
        ap (build beginning [] []) (sym (take_all n (placed text tokens) (omega arith))) ∙ is.built

    -- behind the last token something has to come,
    pub finished-early : (new : ModuleReader) → Finished reader new false → HasGrammarFault text tokens Ended
    finished-early new owed =
        has_ended text tokens (all_parts (stack_of reader.stack.items)) all-going (ends (stack_of reader.stack.items) ∙ owed) (λ j low e. is.none j (omega arith) e)

    no_mark : (k : ℕ) → slice_get (marks start (terminals text tokens)) k ≡ Some 201 → ⊥
    no_mark k e =
        let size : length (terminals text tokens) ≡ length tokens = length-map tokens (λ token. terminal text token) in
        let low : k < length (terminals text tokens) = mark-within (terminals text tokens) start k 201 e in
        is.none k (omega arith) e

    -- or it is a module
    pub finished-reads : (new : ModuleReader) → Finished reader new true → ReadsSource text tokens new.pieces.items new.events.items
    finished-reads new (can, told, heard) =
        let it = ends-source (terminals text tokens) (all_parts (stack_of reader.stack.items)) all-going (ends (stack_of reader.stack.items) ∙ can) in
        let same : nestings 0 it.0 [] ≡ marks start (terminals text tokens) = sym (marked-source it.0) ∙ ap (marks start) it.1 in
        record {
          phrase = it.0;
          spelled = it.1;
          shallow = shallow it.0 (λ k h. no_mark k (ap (λ ms. slice_get ms k) (sym same) ∙ h));
          pieces_are = told ∙ ap (λ (s : State). last_told s.stack s.told) (sym all-built);
          events_are = heard ∙ ap (λ (s : State). s.heard) (sym all-built);
        }
