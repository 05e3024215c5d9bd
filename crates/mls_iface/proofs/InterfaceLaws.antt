-- A text is one interface, or has one first fault.
use Rattle.std.proofs.Common.{◌≡◌, ◌⊎◌, inl, inr, ℕ, zero, suc, ◌+◌, ◌<◌, ◌≤◌, List, [], ◌∷◌, ◌++◌, length, take, refl, sym, ap, ◌∙◌, subst, arith, Some, append-nil, append_assoc}
use Rattle.std.specs.Prelude.{slice_get}
use Rattle.std.proofs.Math.Seq.{take-length}
use Rattle.std.proofs.lemmas.Bool.{cases_lt}
use Rattle.std.proofs.lemmas.List.{take_all}
use Rattle.mls_lexer.specs.declared.token.Token.{Token}
use Rattle.mls_lexer.specs.Tokens.{Terminal, IsTokens, terminals, place_of}
use Rattle.mls_lexer.proofs.Readings as lexer
use Rattle.mls_iface.specs.declared.interface.IfaceFault.{IfaceFault}
use Rattle.mls_iface.specs.declared.interface.IfaceFault.TheVariants.{Unexpected}
use Rattle.mls_iface.specs.Declarations.{Declaration, spelled, IsInterface, BeginsInterface, vals_of}
use Rattle.mls_iface.specs.Faults.{of_tokens, HasGrammarFault, before, at_end, faults_of}
use Rattle.mls_iface.specs.Interfaces.{in_tokens, in_grammar, in_declarations}
use Rattle.mls_iface.specs.Laws.{OneInterface, NoFaultBesideInterface, OneFirstFault}
use Rattle.mls_iface.proofs.Fronts.{one_spelling}

-- what begins an interface does so with fewer terminals
begins_front : (a b : List Terminal) → BeginsInterface (a ++ b) → BeginsInterface a
begins_front a b (more, is) = (b ++ more, subst IsInterface (append_assoc a b more) is)

front_again : (ts : List Terminal) (n m : ℕ) → n ≤ m → (rest : List Terminal) × (take m ts ≡ take n ts ++ rest)
front_again ts zero m low = (take m ts, refl)
front_again ts (suc n) zero low = absurd (omega arith)
front_again [] (suc n) (suc m) low = ([], refl)
front_again (t ∷ ts) (suc n) (suc m) low = let it = front_again ts n m (omega arith) in (it.0, ap (λ us. t ∷ us) it.1)

begins_less : (ts : List Terminal) (n m : ℕ) → n ≤ m → BeginsInterface (take m ts) → BeginsInterface (take n ts)
begins_less ts n m low begins =
    let it = front_again ts n m low in
    begins_front (take n ts) it.0 (subst BeginsInterface it.1 begins)

begins_all : (ts : List Terminal) (n : ℕ) → BeginsInterface ts → BeginsInterface (take n ts)
begins_all ts n begins = go (cases_lt n (length ts))
  where
    go : (n < length ts) ⊎ (length ts ≤ n) → BeginsInterface (take n ts)
    go (inl low) = begins_less ts n (length ts) (omega arith) (subst BeginsInterface (sym (take-length ts)) begins)
    go (inr past) = subst BeginsInterface (sym (take_all n ts past)) begins

interface_begins : (ts : List Terminal) → IsInterface ts → BeginsInterface ts
interface_begins ts is = ([], subst IsInterface (sym (append-nil ts)) is)

module _ (text : List ℕ) (tokens : List Token) where
  abbrev ts : List Terminal
  ts = terminals text tokens

  token_fault : (token other : Token) → Some token ≡ Some other → Unexpected token.start token.kind ≡ Unexpected other.start other.kind
  token_fault token other e = let same : token ≡ other = cc in λ i. Unexpected (same i).start (same i).kind

  -- no grammar fault beside an interface,
  pub no_grammar_fault : (fault : IfaceFault) → IsInterface ts → HasGrammarFault text tokens 0 fault → ⊥
  no_grammar_fault _ is (before count token at begins not_so) = not_so (begins_all ts (suc count) (interface_begins ts is))
  no_grammar_fault _ is (at_end begins not_so) = not_so is

  -- and there is one
  pub one_grammar_fault : (fault another : IfaceFault) → HasGrammarFault text tokens 0 fault → HasGrammarFault text tokens 0 another → fault ≡ another
  one_grammar_fault _ _ (before n token at begins not_so) (before m token' at' begins' not_so') = go (cases_lt n m) (cases_lt m n)
    where
      go : (n < m) ⊎ (m ≤ n) → (m < n) ⊎ (n ≤ m) → Unexpected token.start token.kind ≡ Unexpected token'.start token'.kind
      go (inl low) either = absurd (not_so (begins_less ts (suc n) m (omega arith) begins'))
      go (inr high) (inl low) = absurd (not_so' (begins_less ts (suc m) n (omega arith) begins))
      go (inr high) (inr low) =
          let same : 0 + n ≡ 0 + m = omega arith in
          token_fault token token' (sym at ∙ (ap (slice_get tokens) same ∙ at'))
  one_grammar_fault _ _ (before n token at begins not_so) (at_end begins' not_so') = absurd (not_so (begins_all ts (suc n) begins'))
  one_grammar_fault _ _ (at_end begins not_so) (before m token' at' begins' not_so') = absurd (not_so' (begins_all ts (suc m) begins))
  one_grammar_fault _ _ (at_end begins not_so) (at_end begins' not_so') = refl

module _ (text : List ℕ) (tokens others : List Token) (are : IsTokens text tokens) (are' : IsTokens text others) where
  one_tokens : tokens ≡ others
  one_tokens = lexer.one_reading text tokens others are are'

  one_declarations : (ds es : List Declaration) → spelled ds ≡ terminals text tokens → spelled es ≡ terminals text others → ds ≡ es
  one_declarations ds es is is' = one_spelling ds es (is ∙ (ap (terminals text) one_tokens ∙ sym is'))

  one_vals : (ds es : List Declaration) → spelled ds ≡ terminals text tokens → spelled es ≡ terminals text others
      → vals_of (place_of tokens) 0 ds ≡ vals_of (place_of others) 0 es
  one_vals ds es is is' = let same = one_declarations ds es is is' in λ i. vals_of (place_of (one_tokens i)) 0 (same i)

  one_faults : (ds es : List Declaration) → spelled ds ≡ terminals text tokens → spelled es ≡ terminals text others
      → faults_of (place_of tokens) 0 [] ds ≡ faults_of (place_of others) 0 [] es
  one_faults ds es is is' = let same = one_declarations ds es is is' in λ i. faults_of (place_of (one_tokens i)) 0 [] (same i)

  there : (fault : IfaceFault) → HasGrammarFault text tokens 0 fault → HasGrammarFault text others 0 fault
  there fault has = subst (λ ts. HasGrammarFault text ts 0 fault) one_tokens has

  interface_there : (ds : List Declaration) → spelled ds ≡ terminals text tokens → IsInterface (terminals text others)
  interface_there ds is = (ds, is ∙ ap (terminals text) one_tokens)

pub one_interface : OneInterface
one_interface text interface other it it' =
    it.declares
    ∙ (one_vals text it.tokens it'.tokens it.has_tokens it'.has_tokens it.declarations it'.declarations it.spells it'.spells
    ∙ sym it'.declares)

none_some : (fs : List IfaceFault) (f : IfaceFault) (later : List IfaceFault) → fs ≡ [] → fs ≡ f ∷ later → ⊥
none_some fs f later e e' = cc

first_of : (f g : IfaceFault) (fs gs : List IfaceFault) → f ∷ fs ≡ g ∷ gs → f ≡ g
first_of f g fs gs e = cc

pub no_fault_beside_interface : NoFaultBesideInterface
no_fault_beside_interface text interface _ it (in_tokens fault has) = lexer.no_fault_beside_tokens text it.tokens fault it.has_tokens has
no_fault_beside_interface text interface fault it (in_grammar tokens are _ has) =
    no_grammar_fault text tokens fault (interface_there text it.tokens tokens it.has_tokens are it.declarations it.spells) has
no_fault_beside_interface text interface fault it (in_declarations tokens are ds is _ later first) =
    none_some (faults_of (place_of tokens) 0 [] ds) fault later
    (sym (one_faults text it.tokens tokens it.has_tokens are it.declarations ds it.spells is) ∙ it.no_fault) first

pub one_first_fault : OneFirstFault
one_first_fault text _ _ (in_tokens f has) (in_tokens g has') = ap of_tokens (lexer.one_first_fault text f g has has')
one_first_fault text _ _ (in_tokens f has) (in_grammar tokens are g has') = absurd (lexer.no_fault_beside_tokens text tokens f are has)
one_first_fault text _ _ (in_tokens f has) (in_declarations tokens are ds is g later first) = absurd (lexer.no_fault_beside_tokens text tokens f are has)
one_first_fault text _ _ (in_grammar tokens are f has) (in_tokens g has') = absurd (lexer.no_fault_beside_tokens text tokens g are has')
one_first_fault text _ _ (in_grammar tokens are f has) (in_grammar others are' g has') =
    one_grammar_fault text others f g (there text tokens others are are' f has) has'
one_first_fault text _ _ (in_grammar tokens are f has) (in_declarations others are' ds is g later first) =
    absurd (no_grammar_fault text tokens f (interface_there text others tokens are' are ds is) has)
one_first_fault text _ _ (in_declarations tokens are ds is f later first) (in_tokens g has') = absurd (lexer.no_fault_beside_tokens text tokens g are has')
one_first_fault text _ _ (in_declarations tokens are ds is f later first) (in_grammar others are' g has') =
    absurd (no_grammar_fault text others g (interface_there text tokens others are are' ds is) has')
one_first_fault text _ _ (in_declarations tokens are ds is f later first) (in_declarations others are' es is' g later' first') =
    first_of f g later later' (sym first ∙ (one_faults text tokens others are are' ds es is is' ∙ first'))
