-- What an interface declares: types, each under a name of its own.
use Rattle.std.proofs.Common.{◌≡◌, ◌≢◌, ℕ, ◌+◌, Bool, true, false, ◌||◌, cond, List, [], ◌∷◌, ◌++◌, map, get_or, sym, ap, subst, ◌∙◌, refl, arith}
use Rattle.std.specs.Prelude.{All, AllPairs, bytes_eq}
use Rattle.std.specs.List.{list_any}
use Rattle.std.proofs.lemmas.List.Elements.{All-nil, All-cons, All-head, All-tail}
use Rattle.std.proofs.lemmas.List.Kept.{AllPairs-cons}
use Rattle.mls_lexer.specs.declared.token.Kind.TheVariants as kind
use Rattle.mls_lexer.specs.Spellings.{IsTerminal, spaced}
use Rattle.mls_lexer.specs.Spellings as lexer
use Rattle.mls_lexer.specs.Tokens.{Terminal, name, word, HasTerminals, place_of}
use Rattle.mls_lexer.proofs.Writings.{written_is_read, tokens_are_terminals}
use Rattle.mls_typetext.specs.declared.scheme.TypeFault.{TypeFault}
use Rattle.mls_typetext.specs.Phrases.{Phrase, whole, yields}
use Rattle.mls_typetext.specs.Trees.{meaning}
use Rattle.mls_typetext.specs.Faults.{faults}
use Rattle.mls_typetext.specs.Texts.{read_of, IsTypeText}
use Rattle.mls_typetext.proofs.FieldOrder.{bytes_eq-self}
use Rattle.mls_typetext.proofs.ReadLaws.{read_is_closed}
use Rattle.mls_scheme.proofs.PolarisedTypes.{read-polarised}
use Rattle.mls_iface.specs.declared.interface.IfaceFault.{IfaceFault}
use Rattle.mls_iface.specs.declared.interface.IfaceFault.TheVariants.{DuplicateVal}
use Rattle.mls_iface.specs.declared.interface.Val.{Val}
use Rattle.mls_iface.specs.Declarations.{Declaration, spelled, behind, vals_of}
use Rattle.mls_iface.specs.Faults.{of_type, faults_of}
use Rattle.mls_iface.specs.Matches.{IsRead, AreDeclarations}
use Rattle.mls_iface.specs.Laws.{InterfaceIsValid}
use Rattle.mls_iface.proofs.Yields.{yields-append}
use Rattle.mls_iface.proofs.OtherPlaces.{read-same, faultless-same}

two_empty : {A : Type 0} (xs ys : List A) → xs ++ ys ≡ [] → (xs ≡ []) × (ys ≡ [])
two_empty [] ys e = (refl, e)
two_empty (x ∷ xs) ys e = absurd (cc)

map_empty : {A B : Type 0} (f : A → B) (xs : List A) → map f xs ≡ [] → xs ≡ []
map_empty f [] e = refl
map_empty f (x ∷ xs) e = absurd (cc)

All-split : {X : Type 0} (P : X → Type 0) (xs ys : List X) → All P (xs ++ ys) → All P xs × All P ys
All-split P [] ys all = (All-nil P, all)
All-split P (x ∷ xs) ys all =
    let rest = All-split P xs ys (All-tail P x (xs ++ ys) all) in
    (All-cons P x xs (All-head P x (xs ++ ys) all) rest.0, rest.1)

-- there is a text of the phrase alone
type_text : (place : ℕ → ℕ) (k : ℕ) (p : Phrase whole) → All IsTerminal (yields p []) → faults true [] 0 (meaning place k p) ≡ []
    → (text : List ℕ) × IsTypeText text (read_of (meaning place k p))
type_text place k p are none =
    let h : HasTerminals (spaced (map lexer.spelled (yields p []))) (yields p []) = written_is_read (yields p []) are in (
      spaced (map lexer.spelled (yields p [])),
      record {
        tree = meaning (place_of h.0) 0 p;
        text_of = record {
          tokens = h.0;
          has_tokens = h.1;
          phrase = p;
          spelled = sym h.2;
          meant = refl;
          no_fault = faultless-same place (place_of h.0) k 0 p none;
        };
        read_as = read-same place (place_of h.0) k 0 p;
      },
    )

type_read : (place : ℕ → ℕ) (k : ℕ) (p : Phrase whole) → All IsTerminal (yields p []) → faults true [] 0 (meaning place k p) ≡ []
    → IsRead (read_of (meaning place k p))
type_read place k p are none =
    let it = type_text place k p are none in
    (read_is_closed it.0 (read_of (meaning place k p)) it.1, read-polarised it.0 (read_of (meaning place k p)) it.1)

-- names that are none of these
abbrev AreNew : List (List ℕ) → List (List ℕ) → Type 0
AreNew earlier names = All (λ x. list_any (bytes_eq x) earlier ≡ false) names

abbrev names_of : List Val → List (List ℕ)
names_of vals = map (λ val. val.name) vals

or_none : (a b : Bool) → (a || b) ≡ false → (a ≡ false) × (b ≡ false)
or_none true b e = absurd (cc)
or_none false b e = (refl, e)

module _ (place : ℕ → ℕ) where
  -- the parts of the faults of the first declaration and of the others
  record NoFault (k : ℕ) (earlier : List (List ℕ)) (d : Declaration) (ds : List Declaration) : Type 0 where
    new : list_any (bytes_eq d.declared) earlier ≡ false
    type : faults true [] 0 (meaning place (k + 3) d.type) ≡ []
    others : faults_of place (behind k d) (d.declared ∷ earlier) ds ≡ []

  parts : (k : ℕ) (earlier : List (List ℕ)) (d : Declaration) (ds : List Declaration) → faults_of place k earlier (d ∷ ds) ≡ [] → NoFault k earlier d ds
  unfolding faults_of
  parts k earlier d ds none =
      let again : List IfaceFault = cond (list_any (bytes_eq d.declared) earlier) (DuplicateVal (place (k + 1)) ∷ []) [] in
      let types : List TypeFault = faults true [] 0 (meaning place (k + 3) d.type) in
      let both = two_empty (again ++ map of_type types) (faults_of place (behind k d) (d.declared ∷ earlier) ds) none in
      let first = two_empty again (map of_type types) both.0 in
      record {
        new = go (list_any (bytes_eq d.declared) earlier) first.0;
        type = map_empty of_type types first.1;
        others = both.1;
      }
    where
      go : (b : Bool) → cond b (DuplicateVal (place (k + 1)) ∷ []) [] ≡ [] → b ≡ false
      go true e = absurd (cc)
      go false e = refl

  schemes-read : (k : ℕ) (earlier : List (List ℕ)) (ds : List Declaration) → All IsTerminal (spelled ds) → faults_of place k earlier ds ≡ []
      → All (λ val. IsRead val.scheme) (vals_of place k ds)
  unfolding spelled vals_of
  schemes-read k earlier [] are none = All-nil (λ (val : Val). IsRead val.scheme)
  schemes-read k earlier (d ∷ ds) are none =
      let it = parts k earlier d ds none in
      let type : List Terminal = yields d.type (spelled ds) in
      let after_val = All-tail IsTerminal (word kind.WordVal) (name d.declared ∷ word kind.Colon ∷ type) are in
      let after_name = All-tail IsTerminal (name d.declared) (word kind.Colon ∷ type) after_val in
      let after_colon = All-tail IsTerminal (word kind.Colon) type after_name in
      let both = All-split IsTerminal (yields d.type []) (spelled ds) (subst (All IsTerminal) (yields-append d.type [] (spelled ds)) after_colon) in
      All-cons (λ (val : Val). IsRead val.scheme) _ (vals_of place (behind k d) ds)
      (type_read place (k + 3) d.type both.0 it.type) (schemes-read (behind k d) (d.declared ∷ earlier) ds both.1 it.others)

  names-new : (k : ℕ) (earlier : List (List ℕ)) (ds : List Declaration) → faults_of place k earlier ds ≡ []
      → AreNew earlier (names_of (vals_of place k ds)) × AllPairs (λ x y. x ≢ y) (names_of (vals_of place k ds))
  unfolding vals_of
  names-new k earlier [] none = (All-nil (λ x. list_any (bytes_eq x) earlier ≡ false), λ i j d less low. absurd (omega arith))
  names-new k earlier (d ∷ ds) none =
      let it = parts k earlier d ds none in
      let names : List (List ℕ) = names_of (vals_of place (behind k d) ds) in
      let rest = names-new (behind k d) (d.declared ∷ earlier) ds it.others in (
        All-cons (λ x. list_any (bytes_eq x) earlier ≡ false) d.declared names it.new (λ i x low. (split i x (rest.0 i x low)).1),
        AllPairs-cons (λ x y. x ≢ y) d.declared names (λ i x low. differ d.declared (get_or names i x) (split i x (rest.0 i x low)).0) rest.1,
      )
    where
      split : (i : ℕ) (x : List ℕ) → list_any (bytes_eq (get_or (names_of (vals_of place (behind k d) ds)) i x)) (d.declared ∷ earlier) ≡ false
          → (bytes_eq (get_or (names_of (vals_of place (behind k d) ds)) i x) d.declared ≡ false)
          × (list_any (bytes_eq (get_or (names_of (vals_of place (behind k d) ds)) i x)) earlier ≡ false)
      split i x e =
          or_none (bytes_eq (get_or (names_of (vals_of place (behind k d) ds)) i x) d.declared)
          (list_any (bytes_eq (get_or (names_of (vals_of place (behind k d) ds)) i x)) earlier) e

      differ : (x y : List ℕ) → bytes_eq y x ≡ false → x ≡ y → ⊥
      differ x y other same =
          let wrong : true ≡ false = sym (bytes_eq-self y) ∙ (ap (bytes_eq y) (sym same) ∙ other) in absurd (cc)

pub interface_is_valid : InterfaceIsValid
interface_is_valid text interface it =
    let place : ℕ → ℕ = place_of it.tokens in
    let are : All IsTerminal (spelled it.declarations) = tokens_are_terminals text (spelled it.declarations) (it.tokens, it.has_tokens, sym it.spells) in
    subst AreDeclarations (sym it.declares)
    (record {
      schemes = schemes-read place 0 [] it.declarations are it.no_fault;
      distinct = (names-new place 0 [] it.declarations it.no_fault).1;
    })
