-- Matched heads by the pairs that they need.
--     single-set, single-at       the sets of a record have one member
--     functions_by_needs          functions are matched where their needs are met
--     records_by_needs            records are matched where their needs are met
use Rattle.std.proofs.Common.{◌≡◌, ◌⊎◌, inl, inr, ℕ, ◌<◌, Bool, true, false, List, [], ◌∷◌, refl, sym, subst, arith, length, get_or, All, Contains, Some, None}
use Rattle.std.specs.Prelude.{◌↔◌, Option, cond, map, is_some, unwrap_or}
use Rattle.std.proofs.lemmas.List.Elements.{All-contains, All-map}
use Rattle.std.proofs.lemmas.List.Sums.{AllPass-from_list_all, list_all-from_AllPass}
use Rattle.mls_automaton.specs.declared.automaton.Arms.{Arms}
use Rattle.mls_automaton.specs.declared.automaton.FieldSet.{FieldSet}
use Rattle.mls_automaton.specs.declared.automaton.Flow.{Flow}
use Rattle.mls_automaton.specs.Automata.{flow}
use Rattle.mls_automaton.specs.Heads.{set_at}
use Rattle.mls_automaton.specs.Models.{HasRisingLabels, HasSingleArms, HasSingleFields, IsSingle}
use Rattle.mls_automaton.proofs.Lists.{Contains-here, Contains-cases, Contains-map, All-contained}
use Rattle.mls_flow.specs.Admissible.{HasPair, AreFunctionsMatched, AreFieldsMatched, AreRecordsMatched}
use Rattle.mls_flow.specs.Needs.{AreNeedsMet, field_need, function_needs, has_all, only, record_needs}
use Rattle.mls_flow.proofs.Fields.{set_at-field}
use Rattle.mls_flow.proofs.Matching.{pair_by_members, records_by_fields}

pub single-set : (fields : List FieldSet) (label set : List ℕ) → HasSingleFields (Some fields) → set_at fields label ≡ Some set → IsSingle set
single-set fields label set single e =
    let it = set_at-field fields label set e in
    subst IsSingle it.3 (All-contains (λ (f : FieldSet). IsSingle f.set) fields it.0 single it.1)

pub single-length : (set : List ℕ) → IsSingle set → 0 < length set
single-length set it = subst (λ xs. 0 < length xs) (sym it.1) (omega arith)

only-in : (set : List ℕ) → IsSingle set → Contains set (only set)
only-in set it = subst (λ xs. Contains xs (only xs)) (sym it.1) (Contains-here it.0 [])

pub single-at : (fields : List FieldSet) → HasSingleFields (Some fields) → (i : ℕ) (field : FieldSet) → i < length fields → get_or fields i field ≡ field → IsSingle field.set
single-at fields single i field low e = subst (λ (f : FieldSet). IsSingle f.set) e (single i field low)

module _ (R : ℕ → ℕ → Type 0) where
  abbrev Met : Flow → Type 0
  Met f = R f.negative.0 f.positive.0

  only-pair : (xs ys : List ℕ) → IsSingle xs → IsSingle ys → R (only xs) (only ys) ↔ HasPair R xs ys
  only-pair xs ys single single' = pair_by_members R xs ys (only xs) (only ys) single single' (only-in xs single) (only-in ys single')

  two : (f g : Flow) → Met f → Met g → All Met (f ∷ g ∷ [])
  two f g met met' = All-contained Met (f ∷ g ∷ []) (λ h there. go h (Contains-cases f (g ∷ []) h there))
    where
      last : (h : Flow) → (g ≡ h) ⊎ Contains [] h → Met h
      last h (inl same) = subst Met same met'
      last h (inr none) = let low : none.0 < 0 = none.1 in absurd (omega arith)

      go : (h : Flow) → (f ≡ h) ⊎ Contains (g ∷ []) h → Met h
      go h (inl same) = subst Met same met
      go h (inr later) = last h (Contains-cases g [] h later)

  pub functions_by_needs : (o other : Option Arms) → HasSingleArms o → HasSingleArms other → AreNeedsMet R (function_needs o other) ↔ AreFunctionsMatched R o other
  functions_by_needs None None single single' = ((λ it. it), (λ it. it))
  functions_by_needs None (Some g) single single' = ((λ it. it), (λ it. it))
  functions_by_needs (Some f) None single single' = ((λ it. it), (λ it. it))
  functions_by_needs (Some f) (Some g) single single' =
      let domains = only-pair g.domain f.domain single'.0 single.0 in
      let codomains = only-pair f.codomain g.codomain single.1 single'.1 in
      let first : Flow = flow (only g.domain) (only f.domain) in
      let second : Flow = flow (only f.codomain) (only g.codomain) in (
        λ it. (domains.0 (it 0 first (omega arith)), codomains.0 (it 1 second (omega arith))),
        λ it. two first second (domains.1 it.0) (codomains.1 it.1),
      )

  field_met : (other : FieldSet) (o : Option (List ℕ)) → ((set : List ℕ) → o ≡ Some set → IsSingle set) → IsSingle other.set
      → ((is_some o ≡ true) × R (only (unwrap_or o [])) (only other.set)) ↔ AreFieldsMatched R o (Some other.set)
  field_met other None single single' = ((λ it. let e : false ≡ true = it.0 in absurd (cc)), (λ it. absurd it))
  field_met other (Some set) single single' =
      let pair = only-pair set other.set (single set refl) single' in ((λ it. pair.0 it.1), (λ it. (refl, pair.1 it)))

  module _ (fields others : List FieldSet) (single : HasSingleFields (Some fields)) (single' : HasSingleFields (Some others)) (rising : HasRisingLabels (Some others)) where
    abbrev IsFieldMatched : FieldSet → Type 0
    IsFieldMatched other = AreFieldsMatched R (set_at fields other.label) (Some other.set)

    abbrev is_there : FieldSet → Bool
    is_there other = is_some (set_at fields other.label)

    one : (other : FieldSet) → Contains others other → ((is_there other ≡ true) × Met (field_need fields other)) ↔ IsFieldMatched other
    one other there =
        field_met other (set_at fields other.label) (λ set e. single-set fields other.label set single e)
        (All-contains (λ (f : FieldSet). IsSingle f.set) others other single' there)

    to : (b : Bool) → has_all fields others ≡ b → AreNeedsMet R (cond b (Some (map (field_need fields) others)) None) → AreRecordsMatched R (Some fields) (Some others)
    to false e it = absurd it
    to true e it =
        (records_by_fields R fields others rising).0
        (All-contained IsFieldMatched others (λ other there. (one other there).0 (
          All-contains (λ f. is_there f ≡ true) others other (AllPass-from_list_all is_there others e) there,
          All-contains Met (map (field_need fields) others) (field_need fields other) it (Contains-map (field_need fields) others other there),
        )))

    back : AreRecordsMatched R (Some fields) (Some others) → AreNeedsMet R (cond (has_all fields others) (Some (map (field_need fields) others)) None)
    back it =
        let each : All IsFieldMatched others = (records_by_fields R fields others rising).1 it in
        let all : has_all fields others ≡ true = list_all-from_AllPass is_there others (All-contained (λ other. is_there other ≡ true) others (λ other there. ((one other there).1 (All-contains IsFieldMatched others other each there)).0)) in
        subst (λ b. AreNeedsMet R (cond b (Some (map (field_need fields) others)) None)) (sym all)
        (All-map Met (field_need fields) others (All-contained (λ other. Met (field_need fields other)) others (λ other there. ((one other there).1 (All-contains IsFieldMatched others other each there)).1)))

  pub records_by_needs : (o other : Option (List FieldSet)) → HasSingleFields o → HasSingleFields other → HasRisingLabels other → AreNeedsMet R (record_needs o other) ↔ AreRecordsMatched R o other
  records_by_needs None None single single' rising = ((λ it. it), (λ it. it))
  records_by_needs None (Some gs) single single' rising = ((λ it. it), (λ it. it))
  records_by_needs (Some fs) None single single' rising = ((λ it. it), (λ it. it))
  records_by_needs (Some fs) (Some gs) single single' rising = (to fs gs single single' rising (has_all fs gs) refl, back fs gs single single' rising)
