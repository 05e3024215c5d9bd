-- The combined head of a set is made part by part, and depends on the members of the set alone.
--     flat-function, flat-fields, flat-boolean, flat-integer      the parts of a combined head
--     same_boolean, same_integer, same_function, same_fields      sets of the same members have the same head
--     no_function_joined, function_joined                         what is found of the function of a combined head
use Rattle.std.proofs.Common.{◌≡◌, ℕ, Bool, true, false, not, ◌||◌, List, [], ◌∷◌, ◌++◌, map, refl, sym, ap, ◌∙◌, subst, Some, None, append-nil}
use Rattle.std.specs.Prelude.{Option, is_some, unwrap_or, cond}
use Rattle.std.specs.List.{flat_map, list_any}
use Rattle.mls_automaton.specs.declared.automaton.Polarity.{Polarity}
use Rattle.mls_automaton.specs.declared.automaton.Polarity.TheVariants.{Positive, Negative}
use Rattle.mls_automaton.specs.declared.automaton.Arms.{Arms}
use Rattle.mls_automaton.specs.Automata.{Automaton, head_at}
use Rattle.mls_automaton.specs.Heads.{Parts, parts_of, combined_functions, combined_records, combined_sets, combined, IsSameSet, IsSameOption}
use Rattle.mls_automaton.proofs.Lists.{any_found, found_any, Contains-flat_map, Contains-flat_map_back}
use Rattle.mls_print.specs.steps.Flat.{domain_in, codomain_in, has_label, lacks_label, set_in, flat_function, shown_label, flat_set, flat_record}
use Rattle.mls_print.specs.steps.Joining.{function_of_all}
use Rattle.mls_print.specs.steps.Tables.{IsFunctionOf}
use Rattle.mls_print.specs.Shown.{set_head}

abbrev Sets : Type 0
Sets = List ℕ → Option (List ℕ)

-- one record before others
positive_two : (o : Option (List ℕ)) (l : Bool) (s : List ℕ) → combined_sets Positive o (cond (not l) (Some s) None) ≡ cond (not (not (is_some o) || l)) (Some (unwrap_or o [] ++ s)) None
positive_two None true s = refl
positive_two None false s = refl
positive_two (Some t) true s = refl
positive_two (Some t) false s = refl

positive_one : (o : Option (List ℕ)) (l : Bool) (s : List ℕ) → l ≡ false → s ≡ [] → o ≡ cond (not (not (is_some o) || l)) (Some (unwrap_or o [] ++ s)) None
positive_one None l s e e' = refl
positive_one (Some t) l s e e' = λ i. cond (not (sym e i)) (Some ((sym (append-nil t) ∙ ap (λ s. t ++ s) (sym e')) i)) None

negative_two : (o : Option (List ℕ)) (h : Bool) (s : List ℕ) → (h ≡ false → s ≡ []) → combined_sets Negative o (cond h (Some s) None) ≡ cond (is_some o || h) (Some (unwrap_or o [] ++ s)) None
negative_two None true s e = refl
negative_two None false s e = refl
negative_two (Some t) true s e = refl
negative_two (Some t) false s e = ap (λ s. Some s) (sym (append-nil t) ∙ ap (λ s. t ++ s) (sym (e refl)))

negative_one : (o : Option (List ℕ)) (h : Bool) (s : List ℕ) → h ≡ false → s ≡ [] → o ≡ cond (is_some o || h) (Some (unwrap_or o [] ++ s)) None
negative_one None h s e e' = λ i. cond (sym e i) (Some s) None
negative_one (Some t) h s e e' = ap (λ s. Some s) (sym (append-nil t) ∙ ap (λ s. t ++ s) (sym e'))

positive_step : (R : Bool) (L : List ℕ → Bool) (S : List ℕ → List ℕ) (o : Option Sets) → (R ≡ false → (label : List ℕ) → (L label ≡ false) × (S label ≡ []))
    → combined_records Positive o (cond R (Some (λ label. cond (not (L label)) (Some (S label)) None)) None) ≡ cond (is_some o || R) (Some (λ label. cond (not (lacks_label label o || L label)) (Some (set_in label o ++ S label)) None)) None
positive_step R L S None none = refl
positive_step true L S (Some sets) none = λ i. Some (λ label. positive_two (sets label) (L label) (S label) i)
positive_step false L S (Some sets) none = λ i. Some (λ label. positive_one (sets label) (L label) (S label) (none refl label).0 (none refl label).1 i)

negative_step : (R : Bool) (H : List ℕ → Bool) (S : List ℕ → List ℕ) (o : Option Sets) → (R ≡ false → (label : List ℕ) → (H label ≡ false) × (S label ≡ [])) → ((label : List ℕ) → H label ≡ false → S label ≡ [])
    → combined_records Negative o (cond R (Some (λ label. cond (H label) (Some (S label)) None)) None) ≡ cond (is_some o || R) (Some (λ label. cond (has_label label o || H label) (Some (set_in label o ++ S label)) None)) None
negative_step R H S None none empty = refl
negative_step true H S (Some sets) none empty = λ i. Some (λ label. negative_two (sets label) (H label) (S label) (empty label) i)
negative_step false H S (Some sets) none empty = λ i. Some (λ label. negative_one (sets label) (H label) (S label) (none refl label).0 (none refl label).1 i)

module _ {X : Type 0} (parts : X → Parts) where
  pub flat-boolean : (p : Polarity) (xs : List X) → (combined p (map parts xs)).boolean ≡ list_any (λ x. (parts x).boolean) xs
  flat-boolean p [] = refl
  flat-boolean p (x ∷ xs) = ap (λ b. (parts x).boolean || b) (flat-boolean p xs)

  pub flat-integer : (p : Polarity) (xs : List X) → (combined p (map parts xs)).integer ≡ list_any (λ x. (parts x).integer) xs
  flat-integer p [] = refl
  flat-integer p (x ∷ xs) = ap (λ b. (parts x).integer || b) (flat-integer p xs)

  abbrev function_at : X → Option Arms
  function_at x = (parts x).function

  abbrev fields_at : X → Option Sets
  fields_at x = (parts x).fields

  no-function : (side : Option Arms → List ℕ) → side None ≡ [] → (xs : List X) → list_any (λ x. is_some (function_at x)) xs ≡ false → flat_map (λ x. side (function_at x)) xs ≡ []
  no-function side none [] e = refl
  no-function side none (x ∷ xs) e = go (function_at x) e (no-function side none xs)
    where
      go : (o : Option Arms) → (is_some o || list_any (λ x. is_some (function_at x)) xs) ≡ false → (list_any (λ x. is_some (function_at x)) xs ≡ false → flat_map (λ x. side (function_at x)) xs ≡ []) → side o ++ flat_map (λ x. side (function_at x)) xs ≡ []
      go None e later = (λ i. none i ++ later e i)
      go (Some arms) e later = absurd (cc)

  pub flat-function : (p : Polarity) (xs : List X) → (combined p (map parts xs)).function ≡ flat_function function_at fields_at xs
  flat-function p [] = refl
  flat-function p (x ∷ xs) = ap (combined_functions (function_at x)) (flat-function p xs) ∙ go (function_at x)
    where
      go : (o : Option Arms) → combined_functions o (flat_function function_at fields_at xs) ≡ cond (is_some o || list_any (λ x. is_some (function_at x)) xs) (Some (record { domain = domain_in o ++ flat_map (λ x. domain_in (function_at x)) xs; codomain = codomain_in o ++ flat_map (λ x. codomain_in (function_at x)) xs })) None
      go None = refl
      go (Some arms) = by (list_any (λ x. is_some (function_at x)) xs) refl
        where
          by : (b : Bool) → list_any (λ x. is_some (function_at x)) xs ≡ b → combined_functions (Some arms) (cond b (Some (record { domain = flat_map (λ x. domain_in (function_at x)) xs; codomain = flat_map (λ x. codomain_in (function_at x)) xs })) None) ≡ Some (record { domain = arms.domain ++ flat_map (λ x. domain_in (function_at x)) xs; codomain = arms.codomain ++ flat_map (λ x. codomain_in (function_at x)) xs })
          by true e = refl
          by false e = λ i. Some (record {
            domain = (sym (append-nil arms.domain) ∙ ap (λ rest. arms.domain ++ rest) (sym (no-function domain_in refl xs e))) i;
            codomain = (sym (append-nil arms.codomain) ∙ ap (λ rest. arms.codomain ++ rest) (sym (no-function codomain_in refl xs e))) i;
          })

  -- without a record there is no label
  no-record : (label : List ℕ) (xs : List X) → list_any (λ x. is_some (fields_at x)) xs ≡ false
      → (list_any (λ x. has_label label (fields_at x)) xs ≡ false) × ((list_any (λ x. lacks_label label (fields_at x)) xs ≡ false) × (flat_map (λ x. set_in label (fields_at x)) xs ≡ []))
  no-record label [] e = (refl, (refl, refl))
  no-record label (x ∷ xs) e = go (fields_at x) e (no-record label xs)
    where
      go : (o : Option Sets) → (is_some o || list_any (λ x. is_some (fields_at x)) xs) ≡ false
          → (list_any (λ x. is_some (fields_at x)) xs ≡ false → (list_any (λ x. has_label label (fields_at x)) xs ≡ false) × ((list_any (λ x. lacks_label label (fields_at x)) xs ≡ false) × (flat_map (λ x. set_in label (fields_at x)) xs ≡ [])))
          → ((has_label label o || list_any (λ x. has_label label (fields_at x)) xs) ≡ false) × (((lacks_label label o || list_any (λ x. lacks_label label (fields_at x)) xs) ≡ false) × (set_in label o ++ flat_map (λ x. set_in label (fields_at x)) xs ≡ []))
      go None e later = later e
      go (Some sets) e later = absurd (cc)

  no-label : (label : List ℕ) (xs : List X) → list_any (λ x. has_label label (fields_at x)) xs ≡ false → flat_map (λ x. set_in label (fields_at x)) xs ≡ []
  no-label label [] e = refl
  no-label label (x ∷ xs) e = go (fields_at x) e (no-label label xs)
    where
      at : (s : Option (List ℕ)) → (is_some s || list_any (λ x. has_label label (fields_at x)) xs) ≡ false → (list_any (λ x. has_label label (fields_at x)) xs ≡ false → flat_map (λ x. set_in label (fields_at x)) xs ≡ []) → unwrap_or s [] ++ flat_map (λ x. set_in label (fields_at x)) xs ≡ []
      at None e later = later e
      at (Some set) e later = absurd (cc)

      go : (o : Option Sets) → (has_label label o || list_any (λ x. has_label label (fields_at x)) xs) ≡ false → (list_any (λ x. has_label label (fields_at x)) xs ≡ false → flat_map (λ x. set_in label (fields_at x)) xs ≡ []) → set_in label o ++ flat_map (λ x. set_in label (fields_at x)) xs ≡ []
      go None e later = later e
      go (Some sets) e later = at (sets label) e later

  pub flat-fields : (p : Polarity) (xs : List X) → (combined p (map parts xs)).fields ≡ flat_record function_at fields_at p xs
  flat-fields Positive [] = refl
  flat-fields Negative [] = refl
  flat-fields Positive (x ∷ xs) =
      ap (combined_records Positive (fields_at x)) (flat-fields Positive xs)
      ∙ positive_step (list_any (λ x. is_some (fields_at x)) xs) (λ label. list_any (λ x. lacks_label label (fields_at x)) xs) (λ label. flat_map (λ x. set_in label (fields_at x)) xs) (fields_at x)
      (λ e label. let none = no-record label xs e in (none.1.0, none.1.1))
  flat-fields Negative (x ∷ xs) =
      ap (combined_records Negative (fields_at x)) (flat-fields Negative xs)
      ∙ negative_step (list_any (λ x. is_some (fields_at x)) xs) (λ label. list_any (λ x. has_label label (fields_at x)) xs) (λ label. flat_map (λ x. set_in label (fields_at x)) xs) (fields_at x)
      (λ e label. let none = no-record label xs e in (none.0, none.1.1))
      (λ label e. no-label label xs e)

-- sets of the same members
any-same : (q : ℕ → Bool) (xs ys : List ℕ) → IsSameSet xs ys → list_any q xs ≡ list_any q ys
any-same q xs ys same = go (list_any q xs) refl (list_any q ys) refl
  where
    go : (b : Bool) → list_any q xs ≡ b → (c : Bool) → list_any q ys ≡ c → b ≡ c
    go true e true e' = refl
    go false e false e' = refl
    go true e false e' = let it = any_found q xs e in let yes : list_any q ys ≡ true = found_any q ys it.0 (same.0 it.0 it.1) it.2 in absurd (cc)
    go false e true e' = let it = any_found q ys e' in let yes : list_any q xs ≡ true = found_any q xs it.0 (same.1 it.0 it.1) it.2 in absurd (cc)

flat-same : (f : ℕ → List ℕ) (xs ys : List ℕ) → IsSameSet xs ys → IsSameSet (flat_map f xs) (flat_map f ys)
flat-same f xs ys same = (
  λ s it. let found = Contains-flat_map_back f xs s it in Contains-flat_map f ys found.0 s (same.0 found.0 found.1) found.2,
  λ s it. let found = Contains-flat_map_back f ys s it in Contains-flat_map f xs found.0 s (same.1 found.0 found.1) found.2,
)

module _ (a : Automaton) (p : Polarity) (xs ys : List ℕ) (same : IsSameSet xs ys) where
  abbrev head_parts : ℕ → Parts
  head_parts s = parts_of (head_at a s)

  abbrev function_of : ℕ → Option Arms
  function_of s = (head_parts s).function

  abbrev fields_of : ℕ → Option Sets
  fields_of s = (head_parts s).fields

  pub same_boolean : (set_head a p xs).boolean ≡ (set_head a p ys).boolean
  same_boolean = flat-boolean head_parts p xs ∙ (any-same (λ s. (head_parts s).boolean) xs ys same ∙ sym (flat-boolean head_parts p ys))

  pub same_integer : (set_head a p xs).integer ≡ (set_head a p ys).integer
  same_integer = flat-integer head_parts p xs ∙ (any-same (λ s. (head_parts s).integer) xs ys same ∙ sym (flat-integer head_parts p ys))

  abbrev FunctionsSame : Option Arms → Option Arms → Type 0
  FunctionsSame = IsSameOption (λ (f : Arms) g. IsSameSet f.domain g.domain × IsSameSet f.codomain g.codomain)

  abbrev FieldsSame : Option Sets → Option Sets → Type 0
  FieldsSame = IsSameOption (λ (f g : Sets). (label : List ℕ) → IsSameOption IsSameSet (f label) (g label))

  pub same_function : FunctionsSame (set_head a p xs).function (set_head a p ys).function
  same_function =
      subst (λ o. FunctionsSame o (set_head a p ys).function) (sym (flat-function head_parts p xs))
      (subst (FunctionsSame (flat_function function_of fields_of xs)) (sym (flat-function head_parts p ys))
      (go (list_any (λ s. is_some (function_of s)) xs) (list_any (λ s. is_some (function_of s)) ys) (any-same (λ s. is_some (function_of s)) xs ys same)))
    where
      go : (b c : Bool) → b ≡ c → FunctionsSame
          (cond b (Some (record { domain = flat_map (λ s. domain_in (function_of s)) xs; codomain = flat_map (λ s. codomain_in (function_of s)) xs })) None)
          (cond c (Some (record { domain = flat_map (λ s. domain_in (function_of s)) ys; codomain = flat_map (λ s. codomain_in (function_of s)) ys })) None)
      go true true e = (flat-same (λ s. domain_in (function_of s)) xs ys same, flat-same (λ s. codomain_in (function_of s)) xs ys same)
      go false false e = tt
      go true false e = absurd (cc)
      go false true e = absurd (cc)

  label-same : (label : List ℕ) (b c : Bool) → b ≡ c → IsSameOption IsSameSet (cond b (Some (flat_map (λ s. set_in label (fields_of s)) xs)) None) (cond c (Some (flat_map (λ s. set_in label (fields_of s)) ys)) None)
  label-same label true true e = flat-same (λ s. set_in label (fields_of s)) xs ys same
  label-same label false false e = tt
  label-same label true false e = absurd (cc)
  label-same label false true e = absurd (cc)

  shown-same : (q : Polarity) (label : List ℕ) → shown_label function_of fields_of q label xs ≡ shown_label function_of fields_of q label ys
  shown-same Positive label = ap not (any-same (λ s. lacks_label label (fields_of s)) xs ys same)
  shown-same Negative label = any-same (λ s. has_label label (fields_of s)) xs ys same

  pub same_fields : FieldsSame (set_head a p xs).fields (set_head a p ys).fields
  same_fields =
      subst (λ o. FieldsSame o (set_head a p ys).fields) (sym (flat-fields head_parts p xs))
      (subst (FieldsSame (flat_record function_of fields_of p xs)) (sym (flat-fields head_parts p ys))
      (go (list_any (λ s. is_some (fields_of s)) xs) (list_any (λ s. is_some (fields_of s)) ys) (any-same (λ s. is_some (fields_of s)) xs ys same)))
    where
      go : (b c : Bool) → b ≡ c → FieldsSame (cond b (Some (flat_set function_of fields_of p xs)) None) (cond c (Some (flat_set function_of fields_of p ys)) None)
      go true true e = λ label. label-same label (shown_label function_of fields_of p label xs) (shown_label function_of fields_of p label ys) (shown-same p label)
      go false false e = tt
      go true false e = absurd (cc)
      go false true e = absurd (cc)

-- what is found of the function of a combined head
pub no_function_joined : (a : Automaton) (set : List ℕ) → list_any (λ s. is_some (head_at a s).function) set ≡ false → IsFunctionOf (function_of_all a set) None
no_function_joined a set e = subst (λ b. IsFunctionOf (cond b (Some (record { domain = flat_map (λ s. domain_in (head_at a s).function) set; codomain = flat_map (λ s. codomain_in (head_at a s).function) set })) None) None) (sym e) tt

pub function_joined : (a : Automaton) (set domain codomain : List ℕ) → list_any (λ s. is_some (head_at a s).function) set ≡ true → IsSameSet (flat_map (λ s. domain_in (head_at a s).function) set) domain → IsSameSet (flat_map (λ s. codomain_in (head_at a s).function) set) codomain
    → IsFunctionOf (function_of_all a set) (Some (record { domain = domain; codomain = codomain }))
function_joined a set domain codomain e first second =
    subst (λ b. IsFunctionOf (cond b (Some (record { domain = flat_map (λ s. domain_in (head_at a s).function) set; codomain = flat_map (λ s. codomain_in (head_at a s).function) set })) None) (Some (record { domain = domain; codomain = codomain }))) (sym e) (first, second)
