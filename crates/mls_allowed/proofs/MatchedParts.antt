-- Where the heads of a negative and a positive state match, a part of the first is below a part of the second.
--     matched_parts
use Rattle.std.proofs.Common.{◌≡◌, ℕ, Bool, true, List, Contains, refl, sym, ap, ◌∙◌, subst, Some, None}
use Rattle.std.specs.Prelude.{Option, option_map}
use Rattle.mls_book.specs.declared.book.NodeId.{NodeId}
use Rattle.mls_book.specs.declared.book.Node.{Node}
use Rattle.mls_book.specs.Books.{field_at}
use Rattle.mls_automaton.specs.declared.automaton.Arms.{Arms}
use Rattle.mls_automaton.specs.declared.automaton.FieldSet.{FieldSet}
use Rattle.mls_automaton.specs.declared.automaton.Head.{Head}
use Rattle.mls_automaton.specs.declared.automaton.Polarity.TheVariants.{Positive, Negative}
use Rattle.mls_automaton.specs.Heads.{parts_of, set_at}
use Rattle.mls_automaton.specs.declared.automaton.HeadKind.TheVariants as kind
use Rattle.mls_flow.specs.Admissible.{HasPair, AreFunctionsMatched, AreFieldsMatched, AreRecordsMatched, AreHeadsMatched, booleans, integers, functions, records}
use Rattle.mls_deriv.specs.declared.derivation.Mode.{Mode}
use Rattle.mls_deriv.specs.Pairs.{exchanged}
use Rattle.mls_deriv.specs.declared.claim.Put.{Put}
use Rattle.mls_layout.specs.Shown.{IsShown, both_bool, both_int, arrows, rcds}
use Rattle.mls_layout.specs.Trees.{IsTree, IsPlaceIn}
use Rattle.mls_layout.specs.Heads.{IsFieldAt, AreParts}
use Rattle.mls_allowed.proofs.Trees.{member_inside, member_below}

module _ (book : List Node) (puts : List Put) (base claims : Mode → ℕ → ℕ → Type 0) (place : ℕ → ℕ) (R : ℕ → ℕ → Type 0)
    (follows : (mode : Mode) (n p : ℕ) → R n p → IsShown book puts base claims true mode (place n) (place p)) where
  -- a meet of states is below a join of states where one is below one
  pub pair_below : (mode : Mode) (xs ys : List ℕ) (i j : ℕ) → HasPair R xs ys → IsTree book Negative (IsPlaceIn place xs) i → IsTree book Positive (IsPlaceIn place ys) j → IsShown book puts base claims true mode i j
  pair_below mode xs ys i j (x, y, in_xs, in_ys, it) t t' =
      member_below book puts base claims true mode i (place x) j (t.each (place x) (x, in_xs, refl))
      (member_inside book puts base claims true Positive mode (place x) (place y) j (t'.each (place y) (y, in_ys, refl)) (follows mode x y it))

  field_below : (mode : Mode) (x y : Option (List ℕ)) (o o' : Option NodeId) → AreFieldsMatched R x y → IsFieldAt book place Negative x o → IsFieldAt book place Positive y o'
      → (k : NodeId) → o' ≡ Some k → (m : NodeId) × (o ≡ Some m) × IsShown book puts base claims true mode m.0 k.0
  field_below mode x None o None it at at' k found = absurd (cc)
  field_below mode x None o (Some k') it at at' k found = absurd at'
  field_below mode x (Some ys) o None it at at' k found = absurd at'
  field_below mode None (Some ys) o (Some k') it at at' k found = absurd it
  field_below mode (Some xs) (Some ys) None (Some k') it at at' k found = absurd at
  field_below mode (Some xs) (Some ys) (Some m) (Some k') it at at' k found =
      let same : k' ≡ k = cc in
      (m, refl, subst (λ (z : NodeId). IsShown book puts base claims true mode m.0 z.0) same (pair_below mode xs ys m.0 k'.0 it at at'))

  module _ (h k : Head) (parts parts' : List ℕ) (is : AreParts book place Negative (parts_of h) parts) (is' : AreParts book place Positive (parts_of k) parts') (level : Bool) (mode : Mode) where
    abbrev Found : Type 0
    Found = (i j : ℕ) × Contains parts i × Contains parts' j × IsShown book puts base claims level mode i j

    functions_found : (o o' : Option Arms) → h.function ≡ o → k.function ≡ o' → AreFunctionsMatched R o o' → Found
    functions_found None o' e e' it = absurd it
    functions_found (Some f) None e e' it = absurd it
    functions_found (Some f) (Some g) e e' it =
        let i = is.each kind.Function (f, e) in
        let j = is'.each kind.Function (g, e') in
        let same : f ≡ i.2.arms = (let h : Some f ≡ Some i.2.arms = sym e ∙ i.2.has in cc) in
        let same' : g ≡ j.2.arms = (let h : Some g ≡ Some j.2.arms = sym e' ∙ j.2.has in cc) in
        let domains : HasPair R j.2.arms.domain i.2.arms.domain = subst (λ (z : Arms). HasPair R z.domain i.2.arms.domain) same' (subst (λ (z : Arms). HasPair R g.domain z.domain) same it.0) in
        let codomains : HasPair R i.2.arms.codomain j.2.arms.codomain = subst (λ (z : Arms). HasPair R i.2.arms.codomain z.codomain) same' (subst (λ (z : Arms). HasPair R z.codomain g.codomain) same it.1) in (
          i.0,
          j.0,
          i.1,
          j.1,
          arrows i.2.from i.2.to j.2.from j.2.to i.2.node j.2.node
              (pair_below (exchanged mode) j.2.arms.domain i.2.arms.domain j.2.from.0 i.2.from.0 domains j.2.domain i.2.domain)
              (pair_below mode i.2.arms.codomain j.2.arms.codomain i.2.to.0 j.2.to.0 codomains i.2.codomain j.2.codomain),
        )

    records_found : (o o' : Option (List FieldSet)) → h.fields ≡ o → k.fields ≡ o' → AreRecordsMatched R o o' → Found
    records_found None o' e e' it = absurd it
    records_found (Some fs) None e e' it = absurd it
    records_found (Some fs) (Some gs) e e' it =
        let has : option_map set_at h.fields ≡ Some (set_at fs) = ap (option_map set_at) e in
        let has' : option_map set_at k.fields ≡ Some (set_at gs) = ap (option_map set_at) e' in
        let i = is.each kind.Rcd (set_at fs, has) in
        let j = is'.each kind.Rcd (set_at gs, has') in
        let same : set_at fs ≡ i.2.sets = (let h : Some (set_at fs) ≡ Some i.2.sets = sym has ∙ i.2.has in cc) in
        let same' : set_at gs ≡ j.2.sets = (let h : Some (set_at gs) ≡ Some j.2.sets = sym has' ∙ j.2.has in cc) in
        let each : (label : List ℕ) (k : NodeId) → field_at label j.2.fields ≡ Some k → (m : NodeId) × (field_at label i.2.fields ≡ Some m) × IsShown book puts base claims true mode m.0 k.0
        = λ label.
        field_below mode (i.2.sets label) (j.2.sets label) (field_at label i.2.fields) (field_at label j.2.fields)
        (subst (λ z. AreFieldsMatched R (i.2.sets label) (z label)) same' (subst (λ z. AreFieldsMatched R (z label) (set_at gs label)) same (it label)))
        (i.2.field label) (j.2.field label) in (
          i.0,
          j.0,
          i.1,
          j.1,
          rcds i.2.fields j.2.fields i.2.node j.2.node (λ label k e. (each label k e).0) (λ label k e. (each label k e).1) (λ label k e. (each label k e).2),
        )

    pub matched_parts : AreHeadsMatched R h k → Found
    matched_parts (booleans e e') = let i = is.each kind.Bool e in let j = is'.each kind.Bool e' in (i.0, j.0, i.1, j.1, both_bool i.2.1 j.2.1)
    matched_parts (integers e e') = let i = is.each kind.Int e in let j = is'.each kind.Int e' in (i.0, j.0, i.1, j.1, both_int i.2.1 j.2.1)
    matched_parts (functions it) = functions_found h.function k.function refl refl it
    matched_parts (records it) = records_found h.fields k.fields refl refl it
