-- What is read of texts of types, and that those of the operators are read as their types.
use Rattle.std.proofs.Common.{◌≡◌, ℕ, zero, suc, true, Some, List, [], ◌∷◌, ◌++◌, refl, sym, ap, ◌∙◌, subst, codes, All, map}
use Rattle.std.specs.Prelude.{slice_get}
use Rattle.std.proofs.lemmas.List.Elements.{All-nil, All-cons}
use Rattle.mls_base.specs.Spelling.{IsName}
use Rattle.mls_book.specs.Schemes as book
use Rattle.mls_lexer.specs.Tokens.{HasTerminals, place_of}
use Rattle.mls_lexer.proofs.Terminals.{HasTerminals-nil}
use Rattle.mls_term.proofs.Environments.{is_scheme-empty}
use Rattle.mls_typetext.specs.declared.scheme.Names.{Names}
use Rattle.mls_typetext.specs.declared.scheme.ReadScheme.{ReadScheme}
use Rattle.mls_typetext.specs.Phrases.{Phrase, whole, atom, joined, no_codomain, to, joins, no_join, meets, no_meet, integer, boolean, yields, width}
use Rattle.mls_typetext.specs.Trees.{meaning}
use Rattle.mls_typetext.specs.Faults.{faults}
use Rattle.mls_typetext.specs.Books.{Ty, arrow, type_of}
use Rattle.mls_typetext.specs.Books as books
use Rattle.mls_typetext.specs.Schemes.{scheme_of, type_scheme, operator_types}
use Rattle.mls_typetext.specs.Texts.{read_of, IsTypeText}
use Rattle.mls_typetext.specs.Laws.{IsReadScheme}
use Rattle.mls_typetext.proofs.ReadLaws.{one_reading, read_is_closed}
use Rattle.mls_scheme.proofs.PolarisedTypes.{read-polarised}
use Rattle.mls_print.specs.Layouts.{written}
use Rattle.mls_print.proofs.WrittenPhrases.{HasNames, written-terminals}
use Rattle.mls_infer.specs.Inference.{AreNames, schemes_in}
use Rattle.mls_iface.specs.Matches.{IsRead}

-- what was read is a valid scheme
pub text_is_valid : (text : List ℕ) (read : ReadScheme) → IsTypeText text read → IsRead read
text_is_valid text read it = (read_is_closed text read it, read-polarised text read it)

pub read_is_scheme : (read : ReadScheme) → IsReadScheme read → book.IsScheme (scheme_of read)
read_is_scheme read it = is_scheme-empty read.book it.book read.root.0 it.root

-- a phrase without faults is read from what is written of it
module _ (p : Phrase whole) (names : HasNames IsName p) (sound : (place : ℕ → ℕ) → faults true [] 0 (meaning place 0 p) ≡ []) where
  pub has_terminals : HasTerminals (written p []) (yields p [])
  has_terminals = written-terminals p names [] [] tt HasTerminals-nil

  pub written_reads : IsTypeText (written p []) (read_of (meaning (place_of has_terminals.0) 0 p))
  written_reads = record {
    tree = meaning (place_of has_terminals.0) 0 p;
    text_of = record {
      tokens = has_terminals.0;
      has_tokens = has_terminals.1;
      phrase = p;
      spelled = sym has_terminals.2;
      meant = refl;
      no_fault = sound (place_of has_terminals.0);
    };
    read_as = refl;
  }

  -- and what it is read as is its type
  pub written_type : (t : Ty) → ((place : ℕ → ℕ) → type_of (meaning place 0 p) ≡ t) → (read : ReadScheme) → IsTypeText (written p []) read → scheme_of read ≡ type_scheme t
  written_type t typed read it =
      ap scheme_of (one_reading (written p []) read (read_of (meaning (place_of has_terminals.0) 0 p)) it written_reads)
      ∙ ap type_scheme (typed (place_of has_terminals.0))

-- `int -> int -> X`
abbrev from_int : Phrase whole → Phrase whole
from_int t = joined (joins (meets integer no_meet) no_join) (to t)

abbrev operator_phrase : Phrase atom → Phrase whole
operator_phrase x = from_int (from_int (joined (joins (meets x no_meet) no_join) no_codomain))

pub number_text : (read : ReadScheme) × IsTypeText (codes "int -> int -> int") read
unfolding written meaning width
number_text = (_, written_reads (operator_phrase integer) (((tt, tt), tt), (((tt, tt), tt), (((tt, tt), tt), tt))) (λ place. refl))

pub truth_text : (read : ReadScheme) × IsTypeText (codes "int -> int -> bool") read
unfolding written meaning width
truth_text = (_, written_reads (operator_phrase boolean) (((tt, tt), tt), (((tt, tt), tt), (((tt, tt), tt), tt))) (λ place. refl))

abbrev number_type : Ty
number_type = arrow books.integer (arrow books.integer books.integer)

abbrev truth_type : Ty
truth_type = arrow books.integer (arrow books.integer books.boolean)

number_read : (read : ReadScheme) → IsTypeText (codes "int -> int -> int") read → scheme_of read ≡ type_scheme number_type
unfolding written meaning width
number_read read it = written_type (operator_phrase integer) (((tt, tt), tt), (((tt, tt), tt), (((tt, tt), tt), tt))) (λ place. refl) number_type (λ place. refl) read it

truth_read : (read : ReadScheme) → IsTypeText (codes "int -> int -> bool") read → scheme_of read ≡ type_scheme truth_type
unfolding written meaning width
truth_read read it = written_type (operator_phrase boolean) (((tt, tt), tt), (((tt, tt), tt), (((tt, tt), tt), tt))) (λ place. refl) truth_type (λ place. refl) read it

-- five elements, pushed one after another
pub pushed_five : {X : Type 0} {l l1 l2 l3 l4 l5 : List X} {a b c d e : X} → l ≡ [] → l1 ≡ l ++ a ∷ [] → l2 ≡ l1 ++ b ∷ [] → l3 ≡ l2 ++ c ∷ [] → l4 ≡ l3 ++ d ∷ [] → l5 ≡ l4 ++ e ∷ []
    → l5 ≡ a ∷ b ∷ c ∷ d ∷ e ∷ []
pushed_five {a} {b} {c} {d} {e} none one two three four five =
    five ∙ (λ i. four i ++ e ∷ []) ∙ (λ i. (three i ++ d ∷ []) ++ e ∷ []) ∙ (λ i. ((two i ++ c ∷ []) ++ d ∷ []) ++ e ∷ [])
    ∙ (λ i. (((one i ++ b ∷ []) ++ c ∷ []) ++ d ∷ []) ++ e ∷ []) ∙ (λ i. ((((none i ++ a ∷ []) ++ b ∷ []) ++ c ∷ []) ++ d ∷ []) ++ e ∷ [])

-- the types of the operators, one after the other
module _ (names : Names) (plus minus times less equal : ReadScheme) (are : names.schemes ≡ plus ∷ minus ∷ times ∷ less ∷ equal ∷ [])
    (p : IsTypeText (codes "int -> int -> int") plus) (m : IsTypeText (codes "int -> int -> int") minus) (t : IsTypeText (codes "int -> int -> int") times)
    (l : IsTypeText (codes "int -> int -> bool") less) (e : IsTypeText (codes "int -> int -> bool") equal) where
  pub operators_named : AreNames names
  operators_named =
      subst (All IsRead) (sym are)
      (All-cons IsRead plus (minus ∷ times ∷ less ∷ equal ∷ []) (text_is_valid _ plus p)
      (All-cons IsRead minus (times ∷ less ∷ equal ∷ []) (text_is_valid _ minus m)
      (All-cons IsRead times (less ∷ equal ∷ []) (text_is_valid _ times t)
      (All-cons IsRead less (equal ∷ []) (text_is_valid _ less l)
      (All-cons IsRead equal [] (text_is_valid _ equal e) (All-nil IsRead))))))

  pub operators_mean : schemes_in names ≡ map type_scheme operator_types
  operators_mean =
      ap (λ (l : List ReadScheme). map scheme_of l) are
      ∙ (λ i. number_read plus p i ∷ number_read minus m i ∷ number_read times t i ∷ truth_read less l i ∷ truth_read equal e i ∷ [])

some_is : {x y : book.Scheme} → Some x ≡ Some y → x ≡ y
some_is e = cc

-- they are schemes
pub operators_are_schemes : (g : ℕ) (s : book.Scheme) → slice_get (map type_scheme operator_types) g ≡ Some s → book.IsScheme s
operators_are_schemes g s e = in_operators g s e
  where
    number_is : book.IsScheme (type_scheme number_type)
    number_is =
        let it = number_text in
        subst (λ (s : book.Scheme). book.IsScheme s) (number_read it.0 it.1) (read_is_scheme it.0 (read_is_closed (codes "int -> int -> int") it.0 it.1))

    truth_is : book.IsScheme (type_scheme truth_type)
    truth_is =
        let it = truth_text in
        subst (λ (s : book.Scheme). book.IsScheme s) (truth_read it.0 it.1) (read_is_scheme it.0 (read_is_closed (codes "int -> int -> bool") it.0 it.1))

    in_operators : (g : ℕ) (s : book.Scheme) → slice_get (map type_scheme operator_types) g ≡ Some s → book.IsScheme s
    in_operators zero s e = subst (λ (s : book.Scheme). book.IsScheme s) (some_is e) number_is
    in_operators (suc zero) s e = subst (λ (s : book.Scheme). book.IsScheme s) (some_is e) number_is
    in_operators (suc (suc zero)) s e = subst (λ (s : book.Scheme). book.IsScheme s) (some_is e) number_is
    in_operators (suc (suc (suc zero))) s e = subst (λ (s : book.Scheme). book.IsScheme s) (some_is e) truth_is
    in_operators (suc (suc (suc (suc zero)))) s e = subst (λ (s : book.Scheme). book.IsScheme s) (some_is e) truth_is
    in_operators (suc (suc (suc (suc (suc g))))) s e = absurd (cc)
