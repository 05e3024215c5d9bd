-- The type of a printed text has one function and one record at most in each layer, and so has the book that is read from it.
--     shown_has_one         the type of a tree of shown sets
--     printed_has_one       what a printed text is read as
use Rattle.std.proofs.Common.{◌≡◌, ℕ, ◌^◌, ◌+◌, ◌<◌, ◌≤◌, Bool, true, false, List, [], ◌∷◌, ◌++◌, map, length, Contains, refl, sym, ap, ◌∙◌, subst, arith, append-nil}
use Rattle.std.proofs.lemmas.List.{length-map}
use Rattle.mls_lexer.specs.Tokens.{HasTerminals, IsTokens, terminals, place_of}
use Rattle.mls_lexer.proofs.Terminals.{HasTerminals-nil}
use Rattle.mls_typetext.specs.declared.scheme.ReadScheme.{ReadScheme}
use Rattle.mls_typetext.specs.Phrases.{Phrase, whole, yields}
use Rattle.mls_typetext.specs.Trees.{TypeTree, meaning}
use Rattle.mls_typetext.specs.Books as ty
use Rattle.mls_typetext.specs.Books.{Ty, TyFields, variables, type_of, book_of}
use Rattle.mls_typetext.specs.Texts.{read_of, IsTypeOf, IsTypeText}
use Rattle.mls_typetext.proofs.ReadLaws.{one_reading}
use Rattle.mls_automaton.specs.declared.automaton.Polarity.{Polarity}
use Rattle.mls_automaton.specs.declared.automaton.Polarity.TheVariants.{Positive, Negative}
use Rattle.mls_automaton.specs.declared.scheme.Scheme.{Scheme}
use Rattle.mls_automaton.specs.Schemes.{IsScheme}
use Rattle.mls_automaton.proofs.Lists.{All-one}
use Rattle.mls_print.specs.Shown.{Shown, again, a_set, ShownFunction, no_function, function, ShownRecord, no_record, fields, ShownFields, no_more, field, is_recursive}
use Rattle.mls_print.specs.Keys.{Key, keys_in}
use Rattle.mls_print.specs.Layouts.{written}
use Rattle.mls_print.specs.Named.{name_in, printed_phrase}
use Rattle.mls_print.specs.Printed.{IsPrinted, HasNamedFields}
use Rattle.mls_print.specs.steps.Visits.{IsVisited}
use Rattle.mls_print.proofs.Visited.{walk-closed}
use Rattle.mls_print.proofs.ShownTypes.{more_types, all_types, bit_type, bound_type, shown_type, function_type, record_type, field_types}
use Rattle.mls_print.proofs.ShownTrees.{IsProper, shown-proper}
use Rattle.mls_print.proofs.WrittenPhrases.{HasNames, written-terminals}
use Rattle.mls_print.proofs.Names.{name_among-injective}
use Rattle.mls_print.proofs.PhraseNames.{phrase-names}
use Rattle.mls_print.proofs.PhraseKeys.{names_in, phrase-keys, IsSome, names-shorter}
use Rattle.mls_print.proofs.ReadsBack.{named_phrase}
use Rattle.mls_print.proofs.ReadTrees.{IsRead, number, tree-read}
use Rattle.mls_typenodes.specs.OneEach.{HasOneEach, PrintedHasOneEach}
use Rattle.mls_typenodes.proofs.TypeLayers.{IsPlain, weight, alone, plain, HasOneBelow, HaveOneBelow, HasOneLayers, book_has_one}

-- the components of a set
abbrev ArePlain : List Ty → Type 0
ArePlain [] = Unit {0}
ArePlain (t ∷ rest) = IsPlain t × ArePlain rest

abbrev weights : (f r : ℕ) → List Ty → ℕ
weights f r [] = 0
weights f r (t ∷ rest) = weight f r t + weights f r rest

abbrev HaveBelow : List Ty → Type 0
HaveBelow [] = Unit {0}
HaveBelow (t ∷ rest) = HasOneBelow t × HaveBelow rest

-- components with so many functions and records at most, and without recursive names
record AreComponents (functions records : ℕ) (ts : List Ty) : Type 0 where
  are_plain : ArePlain ts
  few_functions : weights 1 0 ts ≤ functions
  few_records : weights 0 1 ts ≤ records
  have_below : HaveBelow ts

no_components : AreComponents 0 0 []
no_components = record { are_plain = tt; few_functions = omega arith; few_records = omega arith; have_below = tt }

one_component : (functions records : ℕ) (t : Ty) → IsPlain t → weight 1 0 t ≡ functions → weight 0 1 t ≡ records → HasOneBelow t → AreComponents functions records (t ∷ [])
one_component functions records t is_plain is is' below = record { are_plain = (is_plain, tt); few_functions = omega arith; few_records = omega arith; have_below = (below, tt) }

plain-append : (ts us : List Ty) → ArePlain ts → ArePlain us → ArePlain (ts ++ us)
plain-append [] us first second = second
plain-append (t ∷ rest) us first second = (first.0, plain-append rest us first.1 second)

below-append : (ts us : List Ty) → HaveBelow ts → HaveBelow us → HaveBelow (ts ++ us)
below-append [] us first second = second
below-append (t ∷ rest) us first second = (first.0, below-append rest us first.1 second)

weights-append : (f r : ℕ) (ts us : List Ty) → weights f r (ts ++ us) ≡ weights f r ts + weights f r us
weights-append f r [] us = omega arith
weights-append f r (t ∷ rest) us = let later = weights-append f r rest us in omega arith

components-append : (n m n' m' : ℕ) (ts us : List Ty) → AreComponents n m ts → AreComponents n' m' us → AreComponents (n + n') (m + m') (ts ++ us)
components-append n m n' m' ts us first second =
    let functions = weights-append 1 0 ts us in
    let records = weights-append 0 1 ts us in
    let few = first.few_functions in
    let few' = second.few_functions in
    let few_records = first.few_records in
    let few_records' = second.few_records in
    record {
      are_plain = plain-append ts us first.are_plain second.are_plain;
      few_functions = omega arith;
      few_records = omega arith;
      have_below = below-append ts us first.have_below second.have_below;
    }

variable_components : (number : ℕ → ℕ) (vs : List ℕ) → AreComponents 0 0 (map (λ n. ty.var (number n)) vs)
variable_components number [] = no_components
variable_components number (n ∷ rest) =
    components-append 0 0 0 0 (ty.var (number n) ∷ []) (map (λ n. ty.var (number n)) rest) (one_component 0 0 (ty.var (number n)) tt refl refl tt) (variable_components number rest)

bit_components : (t : Ty) → AreComponents 0 0 (t ∷ []) → (b : Bool) → AreComponents 0 0 (bit_type t b)
bit_components t it false = no_components
bit_components t it true = it

-- components joined, or met, are one layer
more-plain : (p : Polarity) (t : Ty) (rest : List Ty) → IsPlain t → ArePlain rest → IsPlain (more_types p t rest)
more-plain p t [] first later = first
more-plain Positive t (u ∷ rest) first later = more-plain Positive (ty.join t u) rest (first, later.0) later.1
more-plain Negative t (u ∷ rest) first later = more-plain Negative (ty.meet t u) rest (first, later.0) later.1

more-weight : (f r : ℕ) (p : Polarity) (t : Ty) (rest : List Ty) → weight f r (more_types p t rest) ≡ weight f r t + weights f r rest
more-weight f r p t [] = omega arith
more-weight f r Positive t (u ∷ rest) = let later = more-weight f r Positive (ty.join t u) rest in omega arith
more-weight f r Negative t (u ∷ rest) = let later = more-weight f r Negative (ty.meet t u) rest in omega arith

more-below : (p : Polarity) (t : Ty) (rest : List Ty) → HasOneBelow t → HaveBelow rest → HasOneBelow (more_types p t rest)
more-below p t [] first later = first
more-below Positive t (u ∷ rest) first later = more-below Positive (ty.join t u) rest (first, later.0) later.1
more-below Negative t (u ∷ rest) first later = more-below Negative (ty.meet t u) rest (first, later.0) later.1

all-one-layer : (p : Polarity) (ts : List Ty) → AreComponents 1 1 ts → IsPlain (all_types p ts) × ((weight 1 0 (all_types p ts) ≤ 1) × (weight 0 1 (all_types p ts) ≤ 1)) × HasOneBelow (all_types p ts)
all-one-layer Positive [] it = (tt, (omega arith, omega arith), tt)
all-one-layer Negative [] it = (tt, (omega arith, omega arith), tt)
all-one-layer p (t ∷ rest) it =
    let functions = more-weight 1 0 p t rest in
    let records = more-weight 0 1 p t rest in
    let few = it.few_functions in
    let few' = it.few_records in
    (more-plain p t rest it.are_plain.0 it.are_plain.1, (omega arith, omega arith), more-below p t rest it.have_below.0 it.have_below.1)

-- with a `rec` or without
bound-one : (b : Bool) (t : Ty) → IsPlain t × ((weight 1 0 t ≤ 1) × (weight 0 1 t ≤ 1)) × HasOneBelow t → HasOneLayers (bound_type b t)
bound-one false t it = (plain it.0 it.1.0 it.1.1, it.2)
bound-one true t it = (plain it.0 it.1.0 it.1.1, it.2)

mutual
  pub shown_has_one : (number : ℕ → ℕ) (around : List Bool) (t : Shown) → HasOneLayers (shown_type number around t)
  shown_has_one number around (again k) = (alone _, tt)
  shown_has_one number around (a_set p vs b i f r) =
      let inner : List Bool = is_recursive f r ∷ around in
      let names : List Ty = map (λ n. ty.var (number n)) vs in
      let bits : List Ty = bit_type ty.boolean b ++ bit_type ty.integer i in
      let fs : List Ty = function_type number inner f in
      let rs : List Ty = record_type number inner r in
      bound-one (is_recursive f r) (all_types p ((names ++ bits) ++ (fs ++ rs)))
      (all-one-layer p ((names ++ bits) ++ (fs ++ rs))
      (components-append 0 0 1 1 (names ++ bits) (fs ++ rs)
      (components-append 0 0 0 0 names bits (variable_components number vs)
      (components-append 0 0 0 0 (bit_type ty.boolean b) (bit_type ty.integer i)
      (bit_components ty.boolean (one_component 0 0 ty.boolean tt refl refl tt) b)
      (bit_components ty.integer (one_component 0 0 ty.integer tt refl refl tt) i)))
      (components-append 1 0 0 1 fs rs (function_has_one number inner f) (record_has_one number inner r))))

  function_has_one : (number : ℕ → ℕ) (around : List Bool) (f : ShownFunction) → AreComponents 1 0 (function_type number around f)
  function_has_one number around no_function = record { are_plain = tt; few_functions = omega arith; few_records = omega arith; have_below = tt }
  function_has_one number around (function d c) =
      one_component 1 0 (ty.arrow (shown_type number around d) (shown_type number around c)) tt refl refl (shown_has_one number around d, shown_has_one number around c)

  record_has_one : (number : ℕ → ℕ) (around : List Bool) (r : ShownRecord) → AreComponents 0 1 (record_type number around r)
  record_has_one number around no_record = record { are_plain = tt; few_functions = omega arith; few_records = omega arith; have_below = tt }
  record_has_one number around (fields shown) = one_component 0 1 (ty.fields (field_types number around shown)) tt refl refl (fields_have_one number around shown)

  fields_have_one : (number : ℕ → ℕ) (around : List Bool) (shown : ShownFields) → HaveOneBelow (field_types number around shown)
  fields_have_one number around no_more = tt
  fields_have_one number around (field label t rest) = (shown_has_one number around t, fields_have_one number around rest)

-- the printed text of a scheme, read
module _ (s : Scheme) (text : List ℕ) (is : IsScheme s) (labelled : HasNamedFields s.automaton) (no_env : s.env ≡ []) (it : IsPrinted s text) (short : length text < 2 ^ 64) where
  abbrev keys : List Key
  keys = keys_in 0 [] it.tree

  abbrev name : Key → List ℕ
  name = name_in it.tree

  abbrev the_phrase : Phrase whole
  the_phrase = printed_phrase it.tree

  proper : IsProper [] Positive it.tree
  proper =
      let visits = walk-closed s.automaton s.root.0 it.order it.walked in
      (shown-proper s.automaton is.automaton labelled it.order visits.1 [] (λ k d low. absurd (omega arith)) Positive (s.root.0 ∷ [])
      (All-one (IsVisited s.automaton it.order Positive) s.root.0 (record { state = is.root; visited = visits.0 })) it.tree it.shows).0

  -- each name takes a byte, so a short text has few keys
  few : length keys < 2 ^ 64
  few =
      let some : HasNames IsSome the_phrase = phrase-names IsSome name 0 [] [] Positive it.tree proper (λ key there. omega arith) in
      let le = names-shorter the_phrase some [] [] (omega arith) in
      let names : length (names_in the_phrase []) ≡ length keys =
      ap length (phrase-keys name 0 [] it.tree []) ∙ (ap length (append-nil (map name keys)) ∙ length-map keys name) in
      let same : length text ≡ length (written the_phrase []) = ap length it.written_as in
      omega arith

  distinct : (k l : Key) → Contains keys k → Contains keys l → name k ≡ name l → k ≡ l
  distinct = name_among-injective keys few

  has_terminals : HasTerminals (written the_phrase []) (yields the_phrase [])
  has_terminals = written-terminals the_phrase (named_phrase s text is labelled no_env it short) [] [] tt HasTerminals-nil

  abbrev type_tree : TypeTree
  type_tree = meaning (place_of has_terminals.0) 0 the_phrase

  abbrev number_of : ℕ → ℕ
  number_of = number name (Contains keys) distinct (variables type_tree) (place_of has_terminals.0)

  typed : IsRead name (Contains keys) distinct (variables type_tree) (place_of has_terminals.0) [] Positive 0 type_tree (shown_type number_of [] it.tree)
  typed = tree-read name (Contains keys) distinct (variables type_tree) (place_of has_terminals.0) [] 0 0 tt Positive it.tree proper (λ k low e. absurd (omega arith)) (λ key there. there) 0

  is_type : IsTypeOf text type_tree
  is_type = record {
    tokens = has_terminals.0;
    has_tokens = subst (λ bytes. IsTokens bytes has_terminals.0) (sym it.written_as) has_terminals.1;
    phrase = the_phrase;
    spelled = sym has_terminals.2 ∙ ap (λ bytes. terminals bytes has_terminals.0) (sym it.written_as);
    meant = refl;
    no_fault = typed.sound;
  }

  -- what it is read as is the book of the type of its tree of sets
  read_book : (read : ReadScheme) → IsTypeText text read → read.book ≡ book_of (shown_type number_of [] it.tree)
  read_book read is_text =
      ap (λ (r : ReadScheme). r.book) (one_reading text read (read_of type_tree) is_text (record { tree = type_tree; text_of = is_type; read_as = refl }))
      ∙ ap book_of typed.typed

  pub read_has_one : (read : ReadScheme) → IsTypeText text read → (i : ℕ) → i < length read.book → HasOneEach read.book i
  read_has_one read is_text i low =
      let type : Ty = shown_type number_of [] it.tree in
      let same : read.book ≡ book_of type = read_book read is_text in
      subst (λ nodes. HasOneEach nodes i) (sym same) (book_has_one type (shown_has_one number_of [] it.tree) i (subst (λ nodes. i < length nodes) same low))

pub printed_has_one : PrintedHasOneEach
printed_has_one s text read is labelled no_env it short is_text = read_has_one s text is labelled no_env it short read is_text
