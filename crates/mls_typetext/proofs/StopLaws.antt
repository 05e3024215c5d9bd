-- A text is read or has one first fault, and from a token on a type ends or stops once.
use Rattle.std.proofs.Common.{◌≡◌, ◌⊎◌, inl, inr, ℕ, ◌+◌, ◌-◌, ◌<◌, ◌≤◌, true, List, [], ◌∷◌, length, take, drop, refl, sym, ap, ◌∙◌, subst, arith, Some, append-nil}
use Rattle.std.specs.Prelude.{slice_get}
use Rattle.std.proofs.Math.Seq.{take-length}
use Rattle.std.proofs.lemmas.Bool.{cases_lt}
use Rattle.std.proofs.lemmas.List.{length-map, length-drop, take_all}
use Rattle.std.proofs.lemmas.Option.{slice_get_within}
use Rattle.mls_lexer.specs.declared.token.Token.{Token}
use Rattle.mls_lexer.specs.Tokens.{Terminal, terminal, terminals, place_of}
use Rattle.mls_lexer.proofs.Readings as lexer
use Rattle.mls_typetext.specs.declared.scheme.TypeFault.{TypeFault}
use Rattle.mls_typetext.specs.declared.scheme.TypeFault.TheVariants.{Unexpected}
use Rattle.mls_typetext.specs.Phrases.{Phrase, whole, yields}
use Rattle.mls_typetext.specs.Trees.{meaning}
use Rattle.mls_typetext.specs.Faults.{faults}
use Rattle.mls_typetext.specs.Stops.{IsType, BeginsType, IsFurthest, EndsBefore, HasStop, stops_before, stops_at_end, of_tokens, HasTypeFault, in_tokens, before, at_end, in_tree}
use Rattle.mls_typetext.specs.Laws.{NoFaultBesideReading, OneFirstFault, OneEnd}
use Rattle.mls_typetext.proofs.OnePhrase.{one_phrase}

-- a type begins itself
pub begins-type : (ts : List Terminal) → IsType ts → BeginsType ts
begins-type ts is = ([], subst IsType (sym (append-nil ts)) is)

begins-all : (ts : List Terminal) → BeginsType ts → BeginsType (take (length ts) ts)
begins-all ts begins = subst BeginsType (sym (take-length ts)) begins

-- there is one number of terminals that go on
pub one_furthest : (ts : List Terminal) (n m : ℕ) → IsFurthest ts n → IsFurthest ts m → n ≡ m
one_furthest ts n m is is' = go (cases_lt n m) (cases_lt m n)
  where
    go : (n < m) ⊎ (m ≤ n) → (m < n) ⊎ (n ≤ m) → n ≡ m
    go (inl h) other = absurd (is.no_further m h is'.within is'.begins)
    go (inr h) (inl k) = absurd (is'.no_further n k is.within is.begins)
    go (inr h) (inr k) = omega arith

-- and it is that of all, where all go on
furthest-all : (ts : List Terminal) (n : ℕ) → IsFurthest ts n → BeginsType ts → length ts ≤ n
furthest-all ts n is begins = go (cases_lt n (length ts))
  where
    go : (n < length ts) ⊎ (length ts ≤ n) → length ts ≤ n
    go (inl h) = absurd (is.no_further (length ts) h (omega arith) (begins-all ts begins))
    go (inr h) = h

length-terminals : (text : List ℕ) (tokens : List Token) → length (terminals text tokens) ≡ length tokens
length-terminals text tokens = length-map tokens (λ token. terminal text token)

-- so no token is unexpected where all go on
all_expected : (text : List ℕ) (tokens : List Token) (n : ℕ) (token : Token) → IsFurthest (terminals text tokens) n → slice_get tokens n ≡ Some token → BeginsType (terminals text tokens) → ⊥
all_expected text tokens n token is at begins =
    let low : n < length tokens = slice_get_within tokens n token at in
    let all : length (terminals text tokens) ≤ n = furthest-all (terminals text tokens) n is begins in
    let size : length (terminals text tokens) ≡ length tokens = length-terminals text tokens in
    absurd (omega arith)

token_fault : (token other : Token) → Some token ≡ Some other → Unexpected token.start token.kind ≡ Unexpected other.start other.kind
token_fault token other e = let same : token ≡ other = cc in λ i. Unexpected (same i).start (same i).kind

-- an unexpected token of the same tokens is the same
one_token : (text : List ℕ) (tokens others : List Token) (n m : ℕ) (token other : Token) → tokens ≡ others → IsFurthest (terminals text tokens) n → slice_get tokens n ≡ Some token → IsFurthest (terminals text others) m → slice_get others m ≡ Some other → Unexpected token.start token.kind ≡ Unexpected other.start other.kind
one_token text tokens others n m token other same is at is' at' =
    let count : n ≡ m = one_furthest (terminals text others) n m (subst (λ ts. IsFurthest (terminals text ts) n) same is) is' in
    token_fault token other (sym at ∙ ((λ i. slice_get (same i) (count i)) ∙ at'))

-- the tree of a text's tokens is one
one_meaning : (text : List ℕ) (tokens others : List Token) (p q : Phrase whole) → tokens ≡ others → yields p [] ≡ terminals text tokens → yields q [] ≡ terminals text others → meaning (place_of tokens) 0 p ≡ meaning (place_of others) 0 q
one_meaning text tokens others p q same is is' =
    let phrase : p ≡ q = one_phrase p q (is ∙ (ap (terminals text) same ∙ sym is')) in
    λ i. meaning (place_of (same i)) 0 (phrase i)

first_fault : (f g : TypeFault) (fs gs : List TypeFault) → f ∷ fs ≡ g ∷ gs → f ≡ g
first_fault f g fs gs e = cc

spelled_begins : (text : List ℕ) (tokens : List Token) (p : Phrase whole) → yields p [] ≡ terminals text tokens → BeginsType (terminals text tokens)
spelled_begins text tokens p is = begins-type (terminals text tokens) (p, is)

not_both : (fs : List TypeFault) (f : TypeFault) (later : List TypeFault) → fs ≡ [] → fs ≡ f ∷ later → ⊥
not_both fs f later e e' = cc

pub no_fault_beside_reading : NoFaultBesideReading
no_fault_beside_reading text read fault it has = go fault has
  where
    go : (fault : TypeFault) → HasTypeFault text fault → ⊥
    go _ (in_tokens f h) = lexer.no_fault_beside_tokens text it.text_of.tokens f it.text_of.has_tokens h
    go _ (before tokens has n token is at) =
        let same : it.text_of.tokens ≡ tokens = lexer.one_reading text it.text_of.tokens tokens it.text_of.has_tokens has in
        all_expected text tokens n token is at
        (spelled_begins text tokens it.text_of.phrase (it.text_of.spelled ∙ ap (terminals text) same))
    go _ (at_end tokens has begins no_type) =
        let same : it.text_of.tokens ≡ tokens = lexer.one_reading text it.text_of.tokens tokens it.text_of.has_tokens has in
        no_type (it.text_of.phrase, it.text_of.spelled ∙ ap (terminals text) same)
    go _ (in_tree tokens has p spelled f later e) =
        let same : it.text_of.tokens ≡ tokens = lexer.one_reading text it.text_of.tokens tokens it.text_of.has_tokens has in
        let tree : it.tree ≡ meaning (place_of tokens) 0 p = it.text_of.meant ∙ one_meaning text it.text_of.tokens tokens it.text_of.phrase p same it.text_of.spelled spelled in
        let none : faults true [] 0 it.tree ≡ [] = it.text_of.no_fault in
        let some : faults true [] 0 it.tree ≡ f ∷ later = ap (faults true [] 0) tree ∙ e in
        not_both (faults true [] 0 it.tree) f later none some

pub one_first_fault : OneFirstFault
one_first_fault text _ _ (in_tokens f h) (in_tokens g k) = ap of_tokens (lexer.one_first_fault text f g h k)
one_first_fault text _ _ (in_tokens f h) (before tokens has n token is at) = absurd (lexer.no_fault_beside_tokens text tokens f has h)
one_first_fault text _ _ (in_tokens f h) (at_end tokens has begins no_type) = absurd (lexer.no_fault_beside_tokens text tokens f has h)
one_first_fault text _ _ (in_tokens f h) (in_tree tokens has p spelled g later e) = absurd (lexer.no_fault_beside_tokens text tokens f has h)
one_first_fault text _ _ (before tokens has n token is at) (in_tokens f h) = absurd (lexer.no_fault_beside_tokens text tokens f has h)
one_first_fault text _ _ (at_end tokens has begins no_type) (in_tokens f h) = absurd (lexer.no_fault_beside_tokens text tokens f has h)
one_first_fault text _ _ (in_tree tokens has p spelled g later e) (in_tokens f h) = absurd (lexer.no_fault_beside_tokens text tokens f has h)
one_first_fault text _ _ (before tokens has n token is at) (before others has' m other is' at') =
    one_token text tokens others n m token other (lexer.one_reading text tokens others has has') is at is' at'
one_first_fault text _ _ (before tokens has n token is at) (at_end others has' begins no_type) =
    absurd (all_expected text tokens n token is at (subst (λ ts. BeginsType (terminals text ts)) (lexer.one_reading text others tokens has' has) begins))
one_first_fault text _ _ (at_end others has' begins no_type) (before tokens has n token is at) =
    absurd (all_expected text tokens n token is at (subst (λ ts. BeginsType (terminals text ts)) (lexer.one_reading text others tokens has' has) begins))
one_first_fault text _ _ (before tokens has n token is at) (in_tree others has' p spelled g later e) =
    absurd (all_expected text tokens n token is at (subst (λ ts. BeginsType (terminals text ts)) (lexer.one_reading text others tokens has' has) (spelled_begins text others p spelled)))
one_first_fault text _ _ (in_tree others has' p spelled g later e) (before tokens has n token is at) =
    absurd (all_expected text tokens n token is at (subst (λ ts. BeginsType (terminals text ts)) (lexer.one_reading text others tokens has' has) (spelled_begins text others p spelled)))
one_first_fault text _ _ (at_end tokens has begins no_type) (at_end others has' begins' no_type') = refl
one_first_fault text _ _ (at_end tokens has begins no_type) (in_tree others has' p spelled g later e) =
    absurd (no_type (p, spelled ∙ ap (terminals text) (lexer.one_reading text others tokens has' has)))
one_first_fault text _ _ (in_tree others has' p spelled g later e) (at_end tokens has begins no_type) =
    absurd (no_type (p, spelled ∙ ap (terminals text) (lexer.one_reading text others tokens has' has)))
one_first_fault text _ _ (in_tree tokens has p spelled f later e) (in_tree others has' q spelled' g later' e') =
    let tree : meaning (place_of tokens) 0 p ≡ meaning (place_of others) 0 q = one_meaning text tokens others p q (lexer.one_reading text tokens others has has') spelled spelled' in
    first_fault f g later later' (sym e ∙ (ap (faults true [] 0) tree ∙ e'))

-- where the whole rest goes on, no token of it is unexpected
rest_expected : (text : List ℕ) (tokens : List Token) (from n : ℕ) (token : Token) → IsFurthest (drop from (terminals text tokens)) n → slice_get tokens (from + n) ≡ Some token → BeginsType (drop from (terminals text tokens)) → ⊥
rest_expected text tokens from n token is at begins =
    let low : from + n < length tokens = slice_get_within tokens (from + n) token at in
    let all : length (drop from (terminals text tokens)) ≤ n = furthest-all (drop from (terminals text tokens)) n is begins in
    let size : length (terminals text tokens) ≡ length tokens = length-terminals text tokens in
    let rest : length (drop from (terminals text tokens)) ≡ length (terminals text tokens) - from = length-drop from (terminals text tokens) in
    absurd (omega arith)

one_stop : (text : List ℕ) (tokens : List Token) (from : ℕ) (fault other : TypeFault) → HasStop text tokens from fault → HasStop text tokens from other → fault ≡ other
one_stop text tokens from _ _ (stops_before n token is no_type at) (stops_before m other is' no_type' at') =
    let count : n ≡ m = one_furthest (drop from (terminals text tokens)) n m is is' in
    token_fault token other (sym at ∙ (ap (λ k. slice_get tokens (from + k)) count ∙ at'))
one_stop text tokens from _ _ (stops_before n token is no_type at) (stops_at_end begins no_type') = absurd (rest_expected text tokens from n token is at begins)
one_stop text tokens from _ _ (stops_at_end begins no_type') (stops_before n token is no_type at) = absurd (rest_expected text tokens from n token is at begins)
one_stop text tokens from _ _ (stops_at_end begins no_type) (stops_at_end begins' no_type') = refl

no_stop : (text : List ℕ) (tokens : List Token) (from k : ℕ) (fault : TypeFault) → EndsBefore text tokens from k → HasStop text tokens from fault → ⊥
no_stop text tokens from k _ ends (stops_before n token is no_type at) =
    no_type (subst (λ n. IsType (take n (drop from (terminals text tokens)))) (one_furthest (drop from (terminals text tokens)) ends.count n ends.furthest is) ends.is_type)
no_stop text tokens from k _ ends (stops_at_end begins no_type) =
    no_type (subst IsType (take_all ends.count (drop from (terminals text tokens)) (furthest-all (drop from (terminals text tokens)) ends.count ends.furthest begins)) ends.is_type)

pub one_end : OneEnd
one_end text tokens from = record {
  one_end = λ k l is is'.
      is.place
      ∙ (ap (λ n. from + n) (one_furthest (drop from (terminals text tokens)) is.count is'.count is.furthest is'.furthest)
      ∙ sym is'.place);
  no_stop = no_stop text tokens from;
  one_stop = one_stop text tokens from;
}
