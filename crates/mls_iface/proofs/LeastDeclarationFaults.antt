-- The first fault of the declarations in the order of the text has the least place.
use Rattle.std.proofs.Common.{◌≡◌, ℕ, suc, ◌+◌, ◌≤◌, true, List, [], ◌∷◌, map, length, refl, ap, ◌∙◌, subst, arith}
use Rattle.std.specs.Prelude.{bytes_eq}
use Rattle.std.specs.List.{list_any}
use Rattle.std.proofs.lemmas.List.{length-map}
use Rattle.mls_lexer.specs.declared.token.Token.{Token}
use Rattle.mls_lexer.specs.Tokens.{terminal, terminals, place_of}
use Rattle.mls_lexer.proofs.TextOrder.{Rises, rises-low, rises-append, rises-if, rises-least, places_rise}
use Rattle.mls_typetext.specs.declared.scheme.TypeFault.{TypeFault}
use Rattle.mls_typetext.specs.declared.scheme.TypeFault.TheVariants as type
use Rattle.mls_typetext.specs.Phrases.{width}
use Rattle.mls_typetext.specs.Stops.{tree_place}
use Rattle.mls_typetext.specs.Trees.{meaning}
use Rattle.mls_typetext.specs.Faults.{faults}
use Rattle.mls_typetext.proofs.FaultsRise.{meaning-rises}
use Rattle.mls_iface.specs.declared.interface.IfaceFault.{IfaceFault}
use Rattle.mls_iface.specs.declared.interface.IfaceFault.TheVariants.{DuplicateVal}
use Rattle.mls_iface.specs.Declarations.{Declaration, spelled, behind}
use Rattle.mls_iface.specs.Faults.{of_type, declaration_place, faults_of}
use Rattle.mls_iface.specs.Laws.{FirstIsLeast}
use Rattle.mls_iface.proofs.Widths.{width-yields}

same-place : (fault : TypeFault) → declaration_place (of_type fault) ≡ tree_place fault
same-place (type.BadByte at) = refl
same-place (type.BigNumber at) = refl
same-place (type.Unexpected at k) = refl
same-place type.Ended = refl
same-place (type.NotPolar at) = refl
same-place (type.Unguarded at) = refl
same-place (type.Contravariant at) = refl
same-place (type.DuplicateLabel at) = refl
same-place type.Memory = refl

spelled-size : (d : Declaration) (ds : List Declaration) → length (spelled (d ∷ ds)) ≡ 3 + (width d.type + length (spelled ds))
unfolding spelled
spelled-size d ds = let size = width-yields d.type (spelled ds) in omega arith

module _ (place : ℕ → ℕ) where
  abbrev Up : ℕ → ℕ → List IfaceFault → Type 0
  Up = Rises declaration_place place

  types-rise : (low high : ℕ) (fs : List TypeFault) → Rises tree_place place low high fs → Up low high (map of_type fs)
  types-rise low high [] h = h
  types-rise low high (fault ∷ fs) h = (h.0, h.1, same-place fault ∙ h.2, types-rise (suc h.0) high fs h.3)

  faults-rise : (k high : ℕ) (earlier : List (List ℕ)) (ds : List Declaration) → k + length (spelled ds) ≤ high → Up k high (faults_of place k earlier ds)
  unfolding faults_of
  faults-rise k high earlier [] le = omega arith
  faults-rise k high earlier (d ∷ ds) le =
      let size = spelled-size d ds in
      rises-append declaration_place place k (behind k d) high _ _
      (rises-append declaration_place place k (k + 2) (behind k d) _ _
      (rises-if declaration_place place k (k + 2) (k + 1) (list_any (bytes_eq d.declared) earlier) (DuplicateVal (place (k + 1))) (omega arith) (omega arith) refl)
      (rises-low declaration_place place (k + 2) (k + 3) (behind k d) _ (omega arith)
      (types-rise (k + 3) (behind k d) (faults true [] 0 (meaning place (k + 3) d.type)) (meaning-rises place (k + 3) (behind k d) d.type (omega arith) true [] 0))))
      (faults-rise (behind k d) high (d.declared ∷ earlier) ds (omega arith))

pub first_is_least : FirstIsLeast
first_is_least text tokens ds fault later are spells first =
    let size : length (terminals text tokens) ≡ length tokens = length-map tokens (λ (token : Token). terminal text token) in
    let all : length (spelled ds) ≡ length (terminals text tokens) = ap length spells in
    rises-least declaration_place (place_of tokens) 0 (length tokens) fault later
    (subst (Rises declaration_place (place_of tokens) 0 (length tokens)) first (faults-rise (place_of tokens) 0 (length tokens) [] ds (omega arith)))
    (λ i j begins less low. places_rise text tokens are i j less low)
