-- Where each layer of a book has one function and one record at most, the automaton that is read from it is deterministic.
--     single_set              a set with the members of one
--     single_heads            each set that a head names has one member
use Rattle.std.proofs.Common.{◌≡◌, ℕ, ◌<◌, Bool, true, false, List, [], ◌∷◌, get_or, refl, sym, ap, ◌∙◌, subst, arith, Option, Some, None}
use Rattle.std.specs.Prelude.{IsTrue, option_map}
use Rattle.mls_book.specs.declared.book.NodeId.{NodeId}
use Rattle.mls_book.specs.declared.book.Node.{Node}
use Rattle.mls_book.specs.Books.{node_at, field_at}
use Rattle.mls_automaton.specs.declared.automaton.Arms.{Arms}
use Rattle.mls_automaton.specs.declared.automaton.FieldSet.{FieldSet}
use Rattle.mls_automaton.specs.declared.automaton.Head.{Head}
use Rattle.mls_automaton.specs.declared.automaton.HeadKind.TheVariants as kind
use Rattle.mls_automaton.specs.declared.automaton.Polarity.{Polarity}
use Rattle.mls_automaton.specs.Automata.{Automaton, head_at}
use Rattle.mls_automaton.specs.Heads.{set_at, IsSameSet, IsSameOption}
use Rattle.mls_automaton.specs.Models.{HasRisingLabels, HasSingleArms, HasSingleFields, IsDeterministic, IsSingle}
use Rattle.mls_automaton.specs.Sets.{Rises}
use Rattle.mls_automaton.proofs.CombinedStates.{found_at}
use Rattle.mls_automaton.proofs.Lists.{Contains-here, Contains-later}
use Rattle.mls_scheme.specs.ReadAutomata.{IsReadAutomaton}
use Rattle.mls_typenodes.specs.OneEach.{HaveOneEach, HasRisingArms, HasRisingFields, HasRisingSets}
use Rattle.mls_typenodes.proofs.TopHeads.{function_atom, record_atom, sets_of_fields, head_atom, function_of, fields_of}
use Rattle.mls_layout.proofs.WorkedParts.{nothing, contains_one}

-- a rising set with the members of the set of one state has one member
pub single_set : (set : List ℕ) (k : ℕ) → Rises set → IsSameSet set (k ∷ []) → IsSingle set
single_set [] k rises same = absurd (nothing k (same.1 k (Contains-here k [])))
single_set (x ∷ []) k rises same = (x, refl)
single_set (x ∷ y ∷ rest) k rises same =
    let first : k ≡ x = contains_one k x (same.0 x (Contains-here x (y ∷ rest))) in
    let second : k ≡ y = contains_one k y (same.0 y (Contains-later x (y ∷ rest) y (Contains-here y rest))) in
    let low : x < y = rises 0 1 (omega arith) (omega arith) in
    absurd (omega arith)

module _ (nodes : List Node) (sign : ℕ → Polarity) (is_top : ℕ → Bool) (b : Automaton) (read : IsReadAutomaton sign is_top nodes b) (one : HaveOneEach nodes is_top)
    (labels : (s : ℕ) → HasRisingLabels (head_at b s).fields) (sets : (s : ℕ) → HasRisingSets (head_at b s)) where
  module _ (s : ℕ) (top : IsTrue (is_top s)) where
    single_arms : (o : Option Arms) → (head_at b s).function ≡ o → HasRisingArms o → HasSingleArms o
    single_arms None e rising = tt
    single_arms (Some arms) e rising =
        let (j, there, of) = head_atom nodes sign is_top b read one s top kind.Function (arms, e) in
        let (k, l, is) = function_atom (node_at nodes j) of.0 of.1 in
        let (found, has, same) = function_of nodes sign is_top b read one s top j there k l is in
        let equal : Some found ≡ Some arms = sym has ∙ e in
        let alike : found ≡ arms = cc in (
          single_set arms.domain k.0 rising.0 (subst (λ (a : Arms). IsSameSet a.domain (k.0 ∷ [])) alike same.0),
          single_set arms.codomain l.0 rising.1 (subst (λ (a : Arms). IsSameSet a.codomain (l.0 ∷ [])) alike same.1),
        )

    -- a field that has the members of a node that is named
    single_field : (set : List ℕ) (o : Option NodeId) → Rises set → IsSameOption IsSameSet (Some set) (option_map (λ (id : NodeId). id.0 ∷ []) o) → IsSingle set
    single_field set None rising same = absurd same
    single_field set (Some id) rising same = single_set set id.0 rising same

    single_fields : (o : Option (List FieldSet)) → (head_at b s).fields ≡ o → HasRisingLabels o → HasRisingFields o → HasSingleFields o
    single_fields None e rising sets = tt
    single_fields (Some all) e rising sets =
        let (j, there, of) = head_atom nodes sign is_top b read one s top kind.Rcd (set_at all, ap (option_map set_at) e) in
        let (fields, is) = record_atom (node_at nodes j) of.0 of.1 in
        let (found, has, same) = fields_of nodes sign is_top b read one s top j there fields is in
        let equal : Some found ≡ Some (set_at all) = sym has ∙ ap (option_map set_at) e in
        let alike : found ≡ set_at all = cc in
        λ k d low.
        let field : FieldSet = get_or all k d in
        single_field field.set (field_at field.label fields) (sets k d low)
        (subst (λ o. IsSameOption IsSameSet o (sets_of_fields fields field.label)) ((λ i. alike i field.label) ∙ found_at all rising k d low) (same field.label))

  single_head : (s : ℕ) (t : Bool) → is_top s ≡ t → HasSingleArms (head_at b s).function × HasSingleFields (head_at b s).fields
  single_head s true top = (
    single_arms s top (head_at b s).function refl (sets s).function,
    single_fields s top (head_at b s).fields refl (labels s) (sets s).fields,
  )
  single_head s false free = subst (λ (h : Head). HasSingleArms h.function × HasSingleFields h.fields) (sym (read.others s free)) (tt, tt)

  pub single_heads : IsDeterministic b
  single_heads s = single_head s (is_top s) refl
