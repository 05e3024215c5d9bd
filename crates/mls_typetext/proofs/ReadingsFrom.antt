-- From a token on a type is read in one way or has one first fault.
use Rattle.std.proofs.Common.{◌≡◌, ◌⊎◌, inl, inr, ℕ, true, List, [], ◌∷◌, take, drop, refl, sym, ap, ◌∙◌, subst}
use Rattle.mls_lexer.specs.declared.token.Token.{Token}
use Rattle.mls_lexer.specs.Tokens.{terminals}
use Rattle.mls_typetext.specs.declared.scheme.ReadScheme.{ReadScheme}
use Rattle.mls_typetext.specs.declared.scheme.TypeFault.{TypeFault}
use Rattle.mls_typetext.specs.Phrases.{Phrase, whole, yields}
use Rattle.mls_typetext.specs.Trees.{meaning}
use Rattle.mls_typetext.specs.Faults.{faults}
use Rattle.mls_lexer.specs.Tokens.{place_of}
use Rattle.mls_typetext.specs.Texts.{read_of}
use Rattle.mls_typetext.specs.TextsFrom.{ReadsFrom, HasFaultFrom, stops, in_tree_from}
use Rattle.mls_typetext.specs.Stops.{EndsBefore, HasStop}
use Rattle.mls_typetext.specs.Laws.{IsReadScheme, OneReadingFrom}
use Rattle.mls_typetext.proofs.OnePhrase.{one_phrase}
use Rattle.mls_typetext.proofs.ReadLaws.{read_of-closed}
use Rattle.mls_typetext.proofs.StopLaws.{one_furthest, one_end}
use Rattle.mls_typetext.proofs.Total.{ends_or_stops}

module _ (text : List ℕ) (tokens : List Token) (from : ℕ) where
  -- a type that ends has one phrase
  phrase_between : (k l : ℕ) (ends : EndsBefore text tokens from k) (other : EndsBefore text tokens from l) (p q : Phrase whole)
      → yields p [] ≡ take ends.count (drop from (terminals text tokens)) → yields q [] ≡ take other.count (drop from (terminals text tokens)) → p ≡ q
  phrase_between k l ends other p q is is' =
      one_phrase p q
      (is ∙ (ap (λ n. take n (drop from (terminals text tokens))) (one_furthest (drop from (terminals text tokens)) ends.count other.count ends.furthest other.furthest)
      ∙ sym is'))

  abbrev faults_of : Phrase whole → List TypeFault
  faults_of p = faults true [] 0 (meaning (place_of tokens) from p)

  one_read : (read other : ReadScheme) (k l : ℕ) → ReadsFrom text tokens from read k → ReadsFrom text tokens from other l → (read ≡ other) × (k ≡ l)
  one_read read other k l is is' =
      let same = phrase_between k l is.ends is'.ends is.phrase is'.phrase is.spelled is'.spelled in (
        is.read_as ∙ (ap (λ p. read_of (meaning (place_of tokens) from p)) same ∙ sym is'.read_as),
        (one_end text tokens from).one_end k l is.ends is'.ends,
      )

  no_fault : (read : ReadScheme) (k : ℕ) (fault : TypeFault) → ReadsFrom text tokens from read k → HasFaultFrom text tokens from fault → ⊥
  no_fault read k _ is (stops has) = (one_end text tokens from).no_stop k _ is.ends has
  no_fault read k _ is (in_tree_from l ends p spelled fault later first) =
      let same = phrase_between k l is.ends ends is.phrase p is.spelled spelled in
      let none : faults_of is.phrase ≡ [] = is.no_fault in
      let some : faults_of is.phrase ≡ fault ∷ later = ap faults_of same ∙ first in
      let wrong : [] ≡ fault ∷ later = sym none ∙ some in
      absurd (cc)

  first_of : (f g : TypeFault) (fs gs : List TypeFault) → f ∷ fs ≡ g ∷ gs → f ≡ g
  first_of f g fs gs e = cc

  one_fault : (fault other : TypeFault) → HasFaultFrom text tokens from fault → HasFaultFrom text tokens from other → fault ≡ other
  one_fault _ _ (stops has) (stops has') = (one_end text tokens from).one_stop _ _ has has'
  one_fault _ _ (stops has) (in_tree_from l ends p spelled other later first) = absurd ((one_end text tokens from).no_stop l _ ends has)
  one_fault _ _ (in_tree_from k ends p spelled fault later first) (stops has) = absurd ((one_end text tokens from).no_stop k _ ends has)
  one_fault _ _ (in_tree_from k ends p spelled fault later first) (in_tree_from l ends' q spelled' other later' first') =
      let same = phrase_between k l ends ends' p q spelled spelled' in
      first_of fault other later later' (sym first ∙ (ap faults_of same ∙ first'))

  closed : (read : ReadScheme) (k : ℕ) → ReadsFrom text tokens from read k → IsReadScheme read
  closed read k is = subst IsReadScheme (sym is.read_as) (read_of-closed (meaning (place_of tokens) from is.phrase) is.no_fault)

  abbrev Answer : Type 0
  Answer = ((read : ReadScheme) × (k : ℕ) × ReadsFrom text tokens from read k) ⊎ ((fault : TypeFault) × HasFaultFrom text tokens from fault)

  by_faults : (k : ℕ) (ends : EndsBefore text tokens from k) (p : Phrase whole) → yields p [] ≡ take ends.count (drop from (terminals text tokens))
      → (fs : List TypeFault) → faults_of p ≡ fs → Answer
  by_faults k ends p spelled [] none =
      inl (read_of (meaning (place_of tokens) from p), k, record { ends = ends; phrase = p; spelled = spelled; no_fault = none; read_as = refl })
  by_faults k ends p spelled (fault ∷ later) first = inr (fault, in_tree_from k ends p spelled fault later first)

  by_end : ((k : ℕ) × EndsBefore text tokens from k) ⊎ ((fault : TypeFault) × HasStop text tokens from fault) → Answer
  by_end (inl (k, ends)) = by_faults k ends ends.is_type.0 ends.is_type.1 (faults_of ends.is_type.0) refl
  by_end (inr (fault, has)) = inr (fault, stops has)

pub one_reading_from : OneReadingFrom
one_reading_from text tokens from low = record {
  one_reading = one_read text tokens from;
  no_fault = no_fault text tokens from;
  one_fault = one_fault text tokens from;
  closed = closed text tokens from;
  reading_or_fault = by_end text tokens from (ends_or_stops text tokens from);
}
