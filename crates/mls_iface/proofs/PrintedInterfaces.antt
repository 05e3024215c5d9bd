-- The text of a signature is an interface that declares its names with their schemes.
use Rattle.std.proofs.Common.{◌≡◌, ◌≢◌, ℕ, suc, ◌+◌, Bool, true, false, ◌||◌, List, [], ◌∷◌, ◌++◌, map, get_or, codes, sym, ap, subst, ◌∙◌, refl, arith, append_assoc}
use Rattle.std.specs.Prelude.{All, AllPairs, bytes_eq, if◌then◌else◌}
use Rattle.std.specs.List.{list_any}
use Rattle.std.proofs.lemmas.List.Elements.{All-head, All-tail}
use Rattle.mls_base.specs.Spelling.{IsName}
use Rattle.mls_lexer.specs.declared.token.Kind.TheVariants as kind
use Rattle.mls_lexer.specs.Tokens.{Terminal, name, word, HasTerminals, place_of}
use Rattle.mls_lexer.proofs.Terminals.{HasTerminals-nil, HasTerminals-space, HasTerminals-fixed, HasTerminals-closed, HasTerminals-name_off, StopsBefore-names}
use Rattle.mls_typetext.specs.Phrases.{Phrase, whole, yields}
use Rattle.mls_typetext.specs.Trees.{meaning}
use Rattle.mls_typetext.specs.Faults.{faults}
use Rattle.mls_typetext.specs.Texts.{read_of}
use Rattle.mls_typetext.proofs.FieldOrder.{bytes_eq-same}
use Rattle.mls_iface.specs.declared.interface.IfaceFault.TheVariants.{DuplicateVal}
use Rattle.mls_iface.specs.declared.interface.Interface.{Interface}
use Rattle.mls_iface.specs.declared.signature.SigEntry.{SigEntry}
use Rattle.mls_iface.specs.Declarations.{Declaration, spelled, behind, vals_of}
use Rattle.mls_iface.specs.Faults.{of_type, faults_of}
use Rattle.mls_iface.specs.Signatures.{IsEntry, entry_line, signature_text}
use Rattle.mls_iface.specs.Laws.{PrintedIsInterface}
use Rattle.mls_iface.proofs.Yields.{yields-append}
use Rattle.mls_iface.proofs.OtherPlaces.{read-same, faultless-same}
use Rattle.mls_iface.proofs.Continued.{terminals-behind}

-- the line of an entry before its newline
abbrev header : SigEntry → List ℕ
header e = codes "val " ++ e.name ++ codes " : " ++ e.text

header-terminals : (e : SigEntry) (xs : List Terminal) → IsName e.name → HasTerminals e.text xs
    → HasTerminals (header e) (word kind.WordVal ∷ name e.name ∷ word kind.Colon ∷ xs)
header-terminals e xs is h =
    subst (λ text. HasTerminals text (word kind.WordVal ∷ name e.name ∷ word kind.Colon ∷ xs))
    (sym (append_assoc (codes "val " ++ e.name) (codes " : ") e.text ∙ append_assoc (codes "val ") e.name (codes " : " ++ e.text)))
    (HasTerminals-fixed kind.WordVal (32 ∷ (e.name ++ (codes " : " ++ e.text))) (name e.name ∷ word kind.Colon ∷ xs) refl
    (StopsBefore-names (codes "val") (32 ∷ (e.name ++ (codes " : " ++ e.text))) refl refl)
    (HasTerminals-space 32 (e.name ++ (codes " : " ++ e.text)) (name e.name ∷ word kind.Colon ∷ xs) refl
    (HasTerminals-name_off e.name (codes " : " ++ e.text) (word kind.Colon ∷ xs) is refl
    (HasTerminals-space 32 (58 ∷ 32 ∷ e.text) (word kind.Colon ∷ xs) refl
    (HasTerminals-closed kind.Colon (32 ∷ e.text) xs refl (HasTerminals-space 32 e.text xs refl h))))))

line-split : (e : SigEntry) (rest : List ℕ) → entry_line e ++ rest ≡ header e ++ 10 ∷ rest
line-split e rest = append_assoc (header e) (codes "\n") rest

-- none of these names is among those
abbrev AreNew : List (List ℕ) → List (List ℕ) → Type 0
AreNew earlier names = All (λ x. list_any (bytes_eq x) earlier ≡ false) names

abbrev names_of : List SigEntry → List (List ℕ)
names_of es = map (λ e. e.name) es

-- the declarations of the text of entries
record IsDeclared (es : List SigEntry) : Type 0 where
  declarations : List Declaration
  terminals : HasTerminals (signature_text es) (spelled declarations)
  names : (place : ℕ → ℕ) (k : ℕ) → map (λ v. v.name) (vals_of place k declarations) ≡ names_of es
  schemes : (place : ℕ → ℕ) (k : ℕ) → map (λ v. v.scheme) (vals_of place k declarations) ≡ map (λ e. e.scheme) es
  no_fault : (place : ℕ → ℕ) (k : ℕ) (earlier : List (List ℕ)) → AreNew earlier (names_of es) → AllPairs (λ x y. x ≢ y) (names_of es)
      → faults_of place k earlier declarations ≡ []

names-differ : (x y : List ℕ) → (x ≡ y → ⊥) → bytes_eq y x ≡ false
names-differ x y differ = go (bytes_eq y x) refl
  where
    go : (b : Bool) → bytes_eq y x ≡ b → b ≡ false
    go true e = absurd (differ (sym (bytes_eq-same y x e)))
    go false e = refl

-- with one name more
still-new : (x : List ℕ) (earlier names : List (List ℕ)) → AreNew earlier (x ∷ names) → AllPairs (λ x y. x ≢ y) (x ∷ names) → AreNew (x ∷ earlier) names
still-new x earlier names new distinct = λ k d low.
    ap (λ b. b || list_any (bytes_eq (get_or names k d)) earlier) (names-differ x (get_or names k d) (distinct 0 (suc k) d (omega arith) (omega arith)))
    ∙ new (suc k) d (omega arith)

distinct-tail : (x : List ℕ) (names : List (List ℕ)) → AllPairs (λ x y. x ≢ y) (x ∷ names) → AllPairs (λ x y. x ≢ y) names
distinct-tail x names distinct = λ i j d low within. distinct (suc i) (suc j) d (omega arith) (omega arith)

module _ (e : SigEntry) (es : List SigEntry) (is : IsEntry e) (rest : IsDeclared es) where
  abbrev p : Phrase whole
  p = is.reads.text_of.phrase

  abbrev first : Declaration
  first = record { declared = e.name; type = p }

  text-terminals : HasTerminals e.text (yields p [])
  text-terminals = (is.reads.text_of.tokens, is.reads.text_of.has_tokens, sym is.reads.text_of.spelled)

  read-there : (place : ℕ → ℕ) (k : ℕ) → read_of (meaning place k p) ≡ e.scheme
  read-there place k =
      read-same place (place_of is.reads.text_of.tokens) k 0 p
      ∙ (ap read_of (sym is.reads.text_of.meant) ∙ sym is.reads.read_as)

  faultless-there : (place : ℕ → ℕ) (k : ℕ) → faults true [] 0 (meaning place k p) ≡ []
  faultless-there place k =
      faultless-same (place_of is.reads.text_of.tokens) place 0 k p
      (ap (faults true [] 0) (sym is.reads.text_of.meant) ∙ is.reads.text_of.no_fault)

  all-terminals : HasTerminals (signature_text (e ∷ es)) (spelled (first ∷ rest.declarations))
  unfolding signature_text spelled
  all-terminals =
      subst (λ text. HasTerminals text (word kind.WordVal ∷ name e.name ∷ word kind.Colon ∷ yields p (spelled rest.declarations)))
      (sym (line-split e (signature_text es)))
      (subst (HasTerminals (header e ++ 10 ∷ signature_text es))
      (ap (λ ts. word kind.WordVal ∷ name e.name ∷ word kind.Colon ∷ ts) (sym (yields-append p [] (spelled rest.declarations))))
      (terminals-behind (header e) (signature_text es) (word kind.WordVal ∷ name e.name ∷ word kind.Colon ∷ yields p []) (spelled rest.declarations)
      (header-terminals e (yields p []) is.name text-terminals) rest.terminals))

  all-names : (place : ℕ → ℕ) (k : ℕ) → map (λ v. v.name) (vals_of place k (first ∷ rest.declarations)) ≡ names_of (e ∷ es)
  unfolding vals_of
  all-names place k = ap (λ xs. e.name ∷ xs) (rest.names place (behind k first))

  all-schemes : (place : ℕ → ℕ) (k : ℕ) → map (λ v. v.scheme) (vals_of place k (first ∷ rest.declarations)) ≡ map (λ e. e.scheme) (e ∷ es)
  unfolding vals_of
  all-schemes place k = λ i. read-there place (k + 3) i ∷ rest.schemes place (behind k first) i

  all-faultless : (place : ℕ → ℕ) (k : ℕ) (earlier : List (List ℕ)) → AreNew earlier (names_of (e ∷ es)) → AllPairs (λ x y. x ≢ y) (names_of (e ∷ es))
      → faults_of place k earlier (first ∷ rest.declarations) ≡ []
  unfolding faults_of
  all-faultless place k earlier new distinct =
      (λ i.
      (if All-head (λ x. list_any (bytes_eq x) earlier ≡ false) e.name (names_of es) new i then DuplicateVal (place (k + 1)) ∷ [] else [])
      ++ map of_type (faultless-there place (k + 3) i)
      ++ rest.no_fault place (behind k first) (e.name ∷ earlier) (still-new e.name earlier (names_of es) new distinct) (distinct-tail e.name (names_of es) distinct) i)

  one_more : IsDeclared (e ∷ es)
  one_more = record {
    declarations = first ∷ rest.declarations;
    terminals = all-terminals;
    names = all-names;
    schemes = all-schemes;
    no_fault = all-faultless;
  }

none : IsDeclared []
unfolding signature_text spelled vals_of faults_of
none = record {
  declarations = [];
  terminals = HasTerminals-nil;
  names = λ place k. refl;
  schemes = λ place k. refl;
  no_fault = λ place k earlier new distinct. refl;
}

declared : (es : List SigEntry) → All IsEntry es → IsDeclared es
declared [] are = none
declared (e ∷ es) are = one_more e es (All-head IsEntry e es are) (declared es (All-tail IsEntry e es are))

pub printed_is_interface : PrintedIsInterface
printed_is_interface es are =
    let it = declared es are.each in
    let place : ℕ → ℕ = place_of it.terminals.0 in
    let interface : Interface = record { vals = vals_of place 0 it.declarations } in (
      interface,
      record {
        tokens = it.terminals.0;
        has_tokens = it.terminals.1;
        declarations = it.declarations;
        spells = sym it.terminals.2;
        no_fault = it.no_fault place 0 [] (λ k d low. refl) are.distinct;
        declares = refl;
      },
      it.names place 0,
      it.schemes place 0,
    )
