-- No file is fetched twice: the files of a module and of its imports have different names, and the interface of a module
-- that does not import itself is none of those of its imports.
use Rattle.std.proofs.Common.{◌≡◌, ◌⊎◌, inl, inr, ℕ, zero, suc, ◌+◌, ◌<◌, Bool, true, false, cond, List, [], ◌∷◌, ◌++◌, length, map, take, get_or, reverse, Contains, refl, sym, ap, ◌∙◌, subst, arith, codes}
use Rattle.std.specs.Prelude.{slice_get, position, bytes_eq, Option, Some, None}
use Rattle.std.specs.List.{position_from}
use Rattle.std.proofs.lemmas.Iterator.Adapters.{position_from-zero}
use Rattle.std.proofs.lemmas.List.{append_cancel_right, reverse-append, get_or-take, length-take-le}
use Rattle.std.proofs.lemmas.List.Quantifiers.{position-Some}
use Rattle.std.proofs.lemmas.Option.{slice_get-get_or}
use Rattle.std.proofs.lemmas.Slice.Eq.{bytes_eq-Decides}
use Rattle.mls_automaton.proofs.Lists.{Contains-cases, Contains-map}
use Rattle.mls_typing.proofs.Lists.{nothing_in}
use Rattle.mls_grammar.specs.declared.module.Import.{Import}
use Rattle.mls_grammar.specs.Modules.{AreDistinct}
use Rattle.mls_top.specs.Lines.{module_file, interface_file, derivation_file}
use Rattle.mls_top.specs.steps.Fetching.{IsInterfaceFile, IsFileOf}

-- the text of a module is no interface
pub not_interface : (x y : List ℕ) → module_file x ≡ interface_file y → ⊥
not_interface x y same =
    let back : reverse (codes ".ml") ++ reverse x ≡ reverse (codes ".mli") ++ reverse y =
    sym (reverse-append x (codes ".ml")) ∙ (ap (λ (l : List ℕ). reverse l) same ∙ reverse-append y (codes ".mli")) in
    let last : get_or (reverse (codes ".ml") ++ reverse x) 0 0 ≡ get_or (reverse (codes ".mli") ++ reverse y) 0 0 = ap (λ l. get_or l 0 0) back in
    let wrong : 108 ≡ 105 = last in
    absurd (omega arith)

-- a derivation is neither
derivation_ends : (x file : List ℕ) → file ≡ derivation_file x → get_or (reverse file) 0 0 ≡ 100
derivation_ends x file same = ap (λ (l : List ℕ). get_or (reverse l) 0 0) same ∙ ap (λ (l : List ℕ). get_or l 0 0) (reverse-append x (codes ".mld"))

pub module_is_no_derivation : (x y : List ℕ) → module_file y ≡ derivation_file x → ⊥
module_is_no_derivation x y same =
    let last : get_or (reverse (module_file y)) 0 0 ≡ 108 = ap (λ (l : List ℕ). get_or l 0 0) (reverse-append y (codes ".ml")) in
    let other : get_or (reverse (module_file y)) 0 0 ≡ 100 = derivation_ends x (module_file y) same in
    absurd (omega arith)

pub interface_is_no_derivation : (x y : List ℕ) → interface_file y ≡ derivation_file x → ⊥
interface_is_no_derivation x y same =
    let last : get_or (reverse (interface_file y)) 0 0 ≡ 105 = ap (λ (l : List ℕ). get_or l 0 0) (reverse-append y (codes ".mli")) in
    let other : get_or (reverse (interface_file y)) 0 0 ≡ 100 = derivation_ends x (interface_file y) same in
    absurd (omega arith)

pub derivation_not_fetched : (x : List ℕ) (imports : List Import) (file : List ℕ) → IsFileOf x imports file → file ≡ derivation_file x → ⊥
derivation_not_fetched x imports file (inl text) same = module_is_no_derivation x x (sym text ∙ same)
derivation_not_fetched x imports file (inr import) same = interface_is_no_derivation x import.0.name (sym import.2 ∙ same)

-- and interfaces of one name are those of one module
pub one_module : (x y : List ℕ) → interface_file x ≡ interface_file y → x ≡ y
one_module x y same = append_cancel_right x y (codes ".mli") same

-- a list of different names has none of them twice
not_before : (names : List (List ℕ)) (k : ℕ) (x : List ℕ) → k < length names → get_or names k x ≡ x → AreDistinct names → Contains (take k names) x → ⊥
not_before names k x low is distinct inside =
    let j : ℕ = inside.0 in
    let size : length (take k names) ≡ k = length-take-le k names (omega arith) in
    let below : j < length (take k names) = inside.1 in
    distinct j k x (omega arith) low (sym (get_or-take k names j x (omega arith)) ∙ (inside.2 ∙ sym is))

take-names : (k : ℕ) (imports : List Import) → map (λ (i : Import). i.name) (take k imports) ≡ take k (map (λ (i : Import). i.name) imports)
take-names zero imports = refl
take-names (suc k) [] = refl
take-names (suc k) (i ∷ imports) = ap (λ names. i.name ∷ names) (take-names k imports)

name_at : (imports : List Import) (k : ℕ) (i : Import) → slice_get imports k ≡ Some i → (k < length (map (λ (i : Import). i.name) imports)) × (get_or (map (λ (i : Import). i.name) imports) k i.name ≡ i.name)
name_at [] k i e = absurd (cc)
name_at (first ∷ imports) zero i e = let same : first ≡ i = cc in (omega arith, ap (λ (i : Import). i.name) same)
name_at (first ∷ imports) (suc k) i e = let it = name_at imports k i e in let low = it.0 in (omega arith, it.1)

-- the interface of an import is none of those of the imports before it
pub not_yet_fetched : (imports : List Import) (k : ℕ) (i : Import) → slice_get imports k ≡ Some i → AreDistinct (map (λ (i : Import). i.name) imports)
    → (file : List ℕ) → IsInterfaceFile (take k imports) file → file ≡ interface_file i.name → ⊥
not_yet_fetched imports k i there distinct file before same =
    let at = name_at imports k i there in
    let one : before.0.name ≡ i.name = one_module before.0.name i.name (sym before.2 ∙ same) in
    let inside : Contains (map (λ (i : Import). i.name) (take k imports)) before.0.name = Contains-map (λ (i : Import). i.name) (take k imports) before.0 before.1 in
    let P : List ℕ → Type 0 = λ x. Contains (map (λ (i : Import). i.name) (take k imports)) x in
    let Q : List (List ℕ) → Type 0 = λ names. Contains names i.name in
    not_before (map (λ (i : Import). i.name) imports) k i.name at.0 at.1 distinct (subst Q (take-names k imports) (subst P one inside))

-- the import of this name, where there is one
module _ (x : List ℕ) where
  abbrev is_called : Import → Bool
  is_called i = bytes_eq i.name x

  none_later : (first i : Import) (imports : List Import) (k : ℕ) (o : Option ℕ) (b : Bool) → bytes_eq first.name x ≡ b → cond b (Some k) o ≡ None → i.name ≡ x
      → (o ≡ None → Contains imports i → ⊥) → (first ≡ i) ⊎ Contains imports i → ⊥
  none_later first i imports k o true is none same later at = absurd (cc)
  none_later first i imports k o false is none same later (inl here) =
      let yes : bytes_eq first.name x ≡ true = (bytes_eq-Decides first.name x).1 (ap (λ (i : Import). i.name) here ∙ same) in
      let wrong : true ≡ false = sym yes ∙ is in
      absurd (cc)
  none_later first i imports k o false is none same later (inr inside) = later none inside

  no_import_from : (imports : List Import) (k : ℕ) → position_from is_called k imports ≡ None → (i : Import) → Contains imports i → i.name ≡ x → ⊥
  no_import_from [] k none i inside same = nothing_in i inside
  no_import_from (first ∷ imports) k none i inside same =
      none_later first i imports k (position_from is_called (k + 1) imports) (bytes_eq first.name x) refl none same
      (λ later inside. no_import_from imports (k + 1) later i inside same) (Contains-cases first imports i inside)

  pub no_import : (imports : List Import) → position is_called imports ≡ None → (i : Import) → Contains imports i → i.name ≡ x → ⊥
  no_import imports none = no_import_from imports 0 (sym (position_from-zero is_called imports) ∙ none)

  -- so the interface of the module is none of the files that were fetched
  pub own_not_fetched : (imports : List Import) → position is_called imports ≡ None → (file : List ℕ) → IsFileOf x imports file → file ≡ interface_file x → ⊥
  own_not_fetched imports none file (inl text) same = not_interface x x (sym text ∙ same)
  own_not_fetched imports none file (inr import) same = no_import imports none import.0 import.1 (one_module import.0.name x (sym import.2 ∙ same))

  -- where there is one, it has this name
  pub called : (imports : List Import) (k : ℕ) → position is_called imports ≡ Some k → (i : Import) × (slice_get imports k ≡ Some i) × (i.name ≡ x)
  called [] k found = absurd (cc)
  called (first ∷ imports) k found =
      let it = position-Some is_called (first ∷ imports) k first found in
      let i : Import = get_or (first ∷ imports) k first in
      (i, slice_get-get_or (first ∷ imports) k first it.0, (bytes_eq-Decides i.name x).0 it.1)
