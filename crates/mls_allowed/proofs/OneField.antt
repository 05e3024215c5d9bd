-- A record of a book with one label has one field.
--     one_field
use Rattle.std.proofs.Common.{◌≡◌, ℕ, true, false, List, [], ◌∷◌, refl, sym, ap, ◌∙◌, subst, Some, cond, bytes_eq}
use Rattle.std.specs.Prelude.{option_map, find}
use Rattle.std.specs.Ordering.{nat_cmp}
use Rattle.std.specs.declared.cmp.Ordering.TheVariants.{Less}
use Rattle.std.specs.Cmp.Lexicographic.{slice_cmp}
use Rattle.std.proofs.lemmas.List.Elements.{All-head}
use Rattle.std.proofs.lemmas.Slice.Eq.{bytes_eq-Decides}
use Rattle.mls_book.specs.declared.book.Field.{Field}
use Rattle.mls_book.specs.declared.book.NodeId.{NodeId}
use Rattle.mls_book.specs.Books.{field_at, AreRising}
use Rattle.mls_automaton.proofs.CombinedStates.{apart}

itself_there : (label : List ℕ) → bytes_eq label label ≡ true
itself_there label = (bytes_eq-Decides label label).1 refl

-- the first field, and a second one, are found at their labels
first_found : (f : Field) (rest : List Field) → field_at f.label (f ∷ rest) ≡ Some f.node
first_found f rest = ap (λ t. option_map (λ (field : Field). field.node) (cond t (Some f) (find (λ (field : Field). bytes_eq field.label f.label) rest))) (itself_there f.label)

second_found : (f g : Field) (rest : List Field) → bytes_eq f.label g.label ≡ false → field_at g.label (f ∷ g ∷ rest) ≡ Some g.node
second_found f g rest other =
    ap (λ t. option_map (λ (field : Field). field.node) (cond t (Some f) (find (λ (field : Field). bytes_eq field.label g.label) (g ∷ rest)))) other
    ∙ first_found g rest

pub one_field : (label : List ℕ) (fields : List Field) (k : NodeId) → AreRising fields → field_at label fields ≡ Some k
    → ((other : List ℕ) (i : NodeId) → field_at other fields ≡ Some i → other ≡ label)
    → fields ≡ record { label = label; node = k } ∷ []
one_field label [] k rising found only = absurd (cc)
one_field label (f ∷ []) k rising found only =
    let same : f.label ≡ label = only f.label f.node (first_found f []) in
    let at : field_at label (f ∷ []) ≡ Some f.node = subst (λ (l : List ℕ). field_at l (f ∷ []) ≡ Some f.node) same (first_found f []) in
    let node_is : f.node ≡ k = (let h : Some f.node ≡ Some k = sym at ∙ found in cc) in
    λ i. record { label = same i; node = node_is i } ∷ []
one_field label (f ∷ g ∷ rest) k rising found only =
    let other : bytes_eq f.label g.label ≡ false = apart f.label g.label (All-head (λ (later : Field). slice_cmp nat_cmp f.label later.label ≡ Less) g rest rising.0) in
    let same : f.label ≡ label = only f.label f.node (first_found f (g ∷ rest)) in
    let same' : g.label ≡ label = only g.label g.node (second_found f g rest other) in
    let yes : bytes_eq f.label g.label ≡ true = subst (λ (l : List ℕ). bytes_eq f.label l ≡ true) (same ∙ sym same') (itself_there f.label) in
    absurd (cc)
