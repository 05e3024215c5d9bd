-- A text is a module or has one first fault before its names are looked at.
use Rattle.std.proofs.Common.{◌≡◌, ◌⊎◌, inl, inr, ℕ, ◌≤◌, List, [], ◌∷◌, refl, sym, ap, ◌∙◌, subst}
use Rattle.mls_lexer.specs.declared.token.LexFault.{LexFault}
use Rattle.mls_lexer.specs.declared.token.Token.{Token}
use Rattle.mls_lexer.specs.Tokens.{IsTokens, HasTokenFault, terminals, place_of}
use Rattle.mls_lexer.proofs.Readings as lexer
use Rattle.mls_lexer.proofs.Total.{tokens_or_fault}
use Rattle.mls_grammar.specs.declared.fault.Fault.{Fault}
use Rattle.mls_grammar.specs.Phrases.{Phrase, source, yields, nesting}
use Rattle.mls_grammar.specs.Trees.{meaning}
use Rattle.mls_grammar.specs.Modules.{HasNoDoubles}
use Rattle.mls_grammar.specs.GrammarFaults.{HasGrammarFault}
use Rattle.mls_grammar.specs.Doubles.{doubles}
use Rattle.mls_grammar.specs.FirstFaults.{of_tokens, HasFirstFault, in_tokens, in_grammar, in_doubles}
use Rattle.mls_grammar.specs.GrammarLaws.{NoFaultBesideATree, OneFaultBeforeNames, IsPhraseOrFault, IsTreeOrFault, TreeOrFault}
use Rattle.mls_grammar.proofs.OnePhrase.{one_phrase}
use Rattle.mls_grammar.proofs.Distinct.{clean}
use Rattle.mls_grammar.proofs.Undoubled.{undoubled}
use Rattle.mls_grammar.proofs.GrammarStops.{one_grammar_fault, no_grammar_fault}
use Rattle.mls_grammar.proofs.GrammarTotal.{phrase_or_fault}

-- the same tokens are spelled by one phrase, which has one list of doubles
one_list : (text : List ℕ) (tokens others : List Token) (p q : Phrase source) → tokens ≡ others → yields p [] ≡ terminals text tokens → yields q [] ≡ terminals text others → doubles (place_of tokens) [] 0 p ≡ doubles (place_of others) [] 0 q
one_list text tokens others p q same is is' =
    let phrase : p ≡ q = one_phrase p q (is ∙ (ap (terminals text) same ∙ sym is')) in
    λ i. doubles (place_of (same i)) [] 0 (phrase i)

not_both : (fs : List Fault) (f : Fault) (later : List Fault) → fs ≡ [] → fs ≡ f ∷ later → ⊥
not_both fs f later e e' = cc

first_fault : (f g : Fault) (fs gs : List Fault) → f ∷ fs ≡ g ∷ gs → f ≡ g
first_fault f g fs gs e = cc

pub no_fault_beside_a_tree : NoFaultBesideATree
no_fault_beside_a_tree text tree fault it has = go fault has
  where
    go : (fault : Fault) → HasFirstFault text fault → ⊥
    go _ (in_tokens f h) = lexer.no_fault_beside_tokens text it.tokens f it.has_tokens h
    go _ (in_grammar tokens has f h) =
        let same : it.tokens ≡ tokens = lexer.one_reading text it.tokens tokens it.has_tokens has in
        no_grammar_fault text tokens it.phrase f (it.spelled ∙ ap (terminals text) same) it.shallow h
    go _ (in_doubles tokens has p spelled shallow f later e) =
        let same : it.tokens ≡ tokens = lexer.one_reading text it.tokens tokens it.has_tokens has in
        let none : doubles (place_of it.tokens) [] 0 it.phrase ≡ [] = clean (place_of it.tokens) it.phrase [] 0 (subst HasNoDoubles it.meant it.no_doubles) in
        not_both (doubles (place_of it.tokens) [] 0 it.phrase) f later none (one_list text it.tokens tokens it.phrase p same it.spelled spelled ∙ e)

pub one_fault_before_names : OneFaultBeforeNames
one_fault_before_names text _ _ (in_tokens f h) (in_tokens g k) = ap of_tokens (lexer.one_first_fault text f g h k)
one_fault_before_names text _ _ (in_tokens f h) (in_grammar tokens has g k) = absurd (lexer.no_fault_beside_tokens text tokens f has h)
one_fault_before_names text _ _ (in_tokens f h) (in_doubles tokens has p spelled shallow g later e) = absurd (lexer.no_fault_beside_tokens text tokens f has h)
one_fault_before_names text _ _ (in_grammar tokens has g k) (in_tokens f h) = absurd (lexer.no_fault_beside_tokens text tokens f has h)
one_fault_before_names text _ _ (in_doubles tokens has p spelled shallow g later e) (in_tokens f h) = absurd (lexer.no_fault_beside_tokens text tokens f has h)
one_fault_before_names text _ _ (in_grammar tokens has f h) (in_grammar others has' g k) =
    one_grammar_fault text others f g (subst (λ ts. HasGrammarFault text ts f) (lexer.one_reading text tokens others has has') h) k
one_fault_before_names text _ _ (in_grammar tokens has f h) (in_doubles others has' p spelled shallow g later e) =
    absurd (no_grammar_fault text others p f spelled shallow (subst (λ ts. HasGrammarFault text ts f) (lexer.one_reading text tokens others has has') h))
one_fault_before_names text _ _ (in_doubles others has' p spelled shallow g later e) (in_grammar tokens has f h) =
    absurd (no_grammar_fault text others p f spelled shallow (subst (λ ts. HasGrammarFault text ts f) (lexer.one_reading text tokens others has has') h))
one_fault_before_names text _ _ (in_doubles tokens has p spelled shallow f later e) (in_doubles others has' q spelled' shallow' g later' e') =
    first_fault f g later later' (sym e ∙ (one_list text tokens others p q (lexer.one_reading text tokens others has has') spelled spelled' ∙ e'))

-- what its tokens give
of_all_tokens : (text : List ℕ) (tokens : List Token) → IsTokens text tokens → IsTreeOrFault text
of_all_tokens text tokens has = go (phrase_or_fault text tokens)
  where
    by_doubles : (p : Phrase source) → yields p [] ≡ terminals text tokens → nesting p ≤ 200 → (fs : List Fault) → doubles (place_of tokens) [] 0 p ≡ fs
        → IsTreeOrFault text
    by_doubles p is shallow [] e =
        inl (
          meaning (place_of tokens) 0 p,
          record {
            tokens = tokens;
            has_tokens = has;
            phrase = p;
            spelled = is;
            shallow = shallow;
            meant = refl;
            no_doubles = undoubled (place_of tokens) p [] 0 e;
          },
        )
    by_doubles p is shallow (f ∷ later) e = inr (f, in_doubles tokens has p is shallow f later e)

    go : IsPhraseOrFault text tokens → IsTreeOrFault text
    go (inl it) = by_doubles it.0 it.1 it.2 (doubles (place_of tokens) [] 0 it.0) refl
    go (inr it) = inr (it.0, in_grammar tokens has it.0 it.1)

pub tree_or_fault : TreeOrFault
tree_or_fault text = by_tokens (tokens_or_fault text)
  where
    by_tokens : ((tokens : List Token) × IsTokens text tokens) ⊎ ((fault : LexFault) × HasTokenFault text fault) → IsTreeOrFault text
    by_tokens (inl (tokens, has)) = of_all_tokens text tokens has
    by_tokens (inr (fault, has)) = inr (of_tokens fault, in_tokens fault has)
