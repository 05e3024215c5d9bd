-- The nodes that are known before the trees: those of parts, and of partners in the type.
--     parted_none, parted_next        the parts of one state more
--     own_later, own_within           numbers of own nodes
--     part_low                        the nodes of parts stand before the trees
--     noted, not_noted                a node is added to the list of a state
--     partners_none, partners_next    the partners by one pair more
--     parts_below                     those of parts stand before the trees
--     sources_below                   all known nodes stand before the trees
--     all_low                         places are low
use Rattle.std.proofs.Common.{◌≡◌, ◌⊎◌, inl, inr, ℕ, zero, suc, ◌+◌, ◌<◌, ◌≤◌, Bool, true, false, List, [], ◌∷◌, ◌++◌, length, take, refl, sym, ap, ◌∙◌, subst, arith, length-append, add-one}
use Rattle.std.specs.Prelude.{◌↔◌, All, Contains, get_or, is_some}
use Rattle.std.proofs.Math.ListN.{get_or-append, set}
use Rattle.std.proofs.lemmas.Bool.{cases_eq}
use Rattle.std.proofs.lemmas.List.{get_or_default, get_or_past, get_or_push, get_or-set_same, get_or-set_other}
use Rattle.std.proofs.lemmas.List.Elements.{Contains-append_left, Contains-append_cases, Contains-push, Contains-push_cases}
use Rattle.mls_book.specs.declared.book.NodeId.{NodeId}
use Rattle.mls_book.proofs.LongerBooks.{below_or_more}
use Rattle.mls_automaton.specs.declared.automaton.Head.{Head}
use Rattle.mls_automaton.specs.Automata.{Automaton, head_at}
use Rattle.mls_solver.proofs.Relating.{taken-before, taken-last, taken-cases}
use Rattle.mls_subsume.specs.declared.verdict.StatePair.{StatePair}
use Rattle.mls_subsume.specs.Walks.{pair, IsIn}
use Rattle.mls_layout.specs.declared.layout.Places.{Places}
use Rattle.mls_layout.specs.declared.layout.leaves.Leaves.{Leaves}
use Rattle.mls_layout.specs.declared.layout.sources.Sources.{Sources}
use Rattle.mls_layout.specs.LaidOut.{place_of}
use Rattle.mls_layout.specs.Trees.{IsNodeIn}
use Rattle.mls_layout.specs.steps.Sources.{ids_if, count_if, own_count, head_parts, own_before, AreParted, ArePartners, AreBelow, partners_in}
use Rattle.mls_layout.proofs.WorkedParts.{nothing, contains_one}

-- the parts of the first states
pub parted_none : (a : Automaton) (leaves : Leaves) (start : ℕ) → AreParted a leaves start 0 start []
parted_none a leaves start = record { size = refl; counted = omega arith; are = λ s low. absurd (omega (arith, low)) }

pub parted_next : (a : Automaton) (leaves : Leaves) (start n end next : ℕ) (parts new : List (List NodeId)) (ids : List NodeId) (h : Head) → AreParted a leaves start n end parts → h ≡ head_at a n → ids ≡ head_parts leaves end h
    → next ≡ end + own_count h → new ≡ parts ++ ids ∷ [] → AreParted a leaves start (n + 1) next new
parted_next a leaves start n end next parts new ids h it of_state of_head at is = subst (λ k. AreParted a leaves start k next new) (sym (add-one n)) (record {
  size = let first : length parts ≡ n = it.size in let all : length (parts ++ ids ∷ []) ≡ length parts + 1 = length-append parts (ids ∷ []) in let same : length new ≡ length (parts ++ ids ∷ []) = ap length is in omega (arith, first, all, same);
  counted =
      let first : end ≡ start + own_before a n = it.counted in
      let more : own_count h ≡ own_count (head_at a n) = ap own_count of_state in
      omega (arith, first, at, more);
  are = λ s low. subst (λ (ps : List (List NodeId)). get_or ps s [] ≡ head_parts leaves (start + own_before a s) (head_at a s)) (sym is) (go s low (below_or_more s n));
})
  where
    go : (s : ℕ) → s < suc n → (s < n) ⊎ ((j : ℕ) × (s ≡ n + j)) → get_or (parts ++ ids ∷ []) s [] ≡ head_parts leaves (start + own_before a s) (head_at a s)
    go s low (inl before) = let first : length parts ≡ n = it.size in get_or-append parts (ids ∷ []) [] s (omega (arith, first, before)) ∙ it.are s before
    go s low (inr (j, e)) =
        let same : n ≡ s = omega (arith, low, e) in
        let last : ids ≡ head_parts leaves (start + own_before a n) (head_at a n) = of_head ∙ (λ i. head_parts leaves (it.counted i) (of_state i)) in
        get_or_push parts ids [] s (it.size ∙ same) ∙ subst (λ k. ids ≡ head_parts leaves (start + own_before a k) (head_at a k)) same last

-- own nodes of later states come behind those of earlier ones
pub own_later : (a : Automaton) (s d : ℕ) → own_before a s ≤ own_before a (s + d)
own_later a s zero = let e : s + 0 ≡ s = omega arith in subst (λ k. own_before a s ≤ own_before a k) (sym e) (omega arith)
own_later a s (suc d) =
    let e : s + suc d ≡ suc (s + d) = omega arith in
    let before : own_before a s ≤ own_before a (s + d) = own_later a s d in
    subst (λ k. own_before a s ≤ own_before a k) (sym e) (omega (arith, before))

pub own_within : (a : Automaton) (s n : ℕ) → s < n → own_before a s + own_count (head_at a s) ≤ own_before a n
own_within a s n low = go (below_or_more n (suc s))
  where
    go : (n < suc s) ⊎ ((j : ℕ) × (n ≡ suc s + j)) → own_before a s + own_count (head_at a s) ≤ own_before a n
    go (inl h) = absurd (omega (arith, low, h))
    go (inr (j, e)) = subst (λ k. own_before a s + own_count (head_at a s) ≤ own_before a k) (sym e) (own_later a (suc s) j)

in_if : (there : Bool) (id : NodeId) (i : ℕ) → IsNodeIn (ids_if there id) i → (there ≡ true) × (id.0 ≡ i)
in_if true id i it = (refl, ap (λ (n : NodeId). n.0) (contains_one id (record { 0 = i }) it))
in_if false id i it = absurd (nothing (record { 0 = i }) it)

-- the nodes of the parts of a head: of `bool`, of `int`, of its function, and of its record
pub part_cases : (leaves : Leaves) (first : ℕ) (h : Head) (i : ℕ) → IsNodeIn (head_parts leaves first h) i
    → ((h.boolean ≡ true) × (leaves.boolean.0 ≡ i)) ⊎ (((h.integer ≡ true) × (leaves.integer.0 ≡ i))
    ⊎ (((is_some h.function ≡ true) × (first ≡ i)) ⊎ ((is_some h.fields ≡ true) × (first + count_if (is_some h.function) ≡ i))))
part_cases leaves first h i it =
    elim (Contains-append_cases (bools ++ ints ++ functions) records (record { 0 = i }) it) [
      | inl it ↦ elim (Contains-append_cases (bools ++ ints) functions (record { 0 = i }) it) [
        | inl it ↦ elim (Contains-append_cases bools ints (record { 0 = i }) it) [
          | inl it ↦ inl (in_if h.boolean leaves.boolean i it)
          | inr it ↦ inr (inl (in_if h.integer leaves.integer i it))
        ]
        | inr it ↦ inr (inr (inl (in_if (is_some h.function) (record { 0 = first }) i it)))
      ]
      | inr it ↦ inr (inr (inr (in_if (is_some h.fields) (record { 0 = first + count_if (is_some h.function) }) i it)))
    ]
  where
    bools : List NodeId
    bools = ids_if h.boolean leaves.boolean

    ints : List NodeId
    ints = ids_if h.integer leaves.integer

    functions : List NodeId
    functions = ids_if (is_some h.function) (record { 0 = first })

    records : List NodeId
    records = ids_if (is_some h.fields) (record { 0 = first + count_if (is_some h.function) })

pub part_low : (leaves : Leaves) (first n : ℕ) (h : Head) → leaves.boolean.0 < n → leaves.integer.0 < n → first + own_count h ≤ n → (i : ℕ) → IsNodeIn (head_parts leaves first h) i → i < n
part_low leaves first n h boolean integer own i it = go (part_cases leaves first h i it)
  where
    go : ((h.boolean ≡ true) × (leaves.boolean.0 ≡ i)) ⊎ (((h.integer ≡ true) × (leaves.integer.0 ≡ i))
        ⊎ (((is_some h.function ≡ true) × (first ≡ i)) ⊎ ((is_some h.fields ≡ true) × (first + count_if (is_some h.function) ≡ i)))) → i < n
    go (inl (has, e)) = omega (arith, boolean, e)
    go (inr (inl (has, e))) = omega (arith, integer, e)
    go (inr (inr (inl (has, e)))) = let one : count_if (is_some h.function) ≡ 1 = ap count_if has in omega (arith, own, one, e)
    go (inr (inr (inr (has, e)))) = let one : count_if (is_some h.fields) ≡ 1 = ap count_if has in omega (arith, own, one, e)

-- a node more for one state
pub noted : (lists : List (List NodeId)) (s : ℕ) (id : NodeId) (old new : List NodeId) → s < length lists → old ≡ get_or lists s old → new ≡ old ++ id ∷ [] → (t i : ℕ)
    → IsNodeIn (get_or (set lists s new) t []) i ↔ IsNodeIn (get_or lists t []) i ⊎ ((s ≡ t) × (id.0 ≡ i))
noted lists s id old new low was is t i = elim (cases_eq t s) [
  | inl same ↦ subst (λ k. IsNodeIn (get_or (set lists s new) k []) i ↔ IsNodeIn (get_or lists k []) i ⊎ ((s ≡ k) × (id.0 ≡ i))) (sym same) at_state
  | inr other ↦ (
    λ there. inl (subst (λ (ids : List NodeId). IsNodeIn ids i) (others other) there),
    λ either. elim either [
      | inl there ↦ subst (λ (ids : List NodeId). IsNodeIn ids i) (sym (others other)) there
      | inr e ↦ absurd (other (sym e.0))
    ],
  )
]
  where
    here : get_or (set lists s new) s [] ≡ get_or lists s [] ++ id ∷ []
    here = get_or-set_same lists s new [] low ∙ (is ∙ ap (λ (ids : List NodeId). ids ++ id ∷ []) (was ∙ get_or_default lists s old [] low))

    others : (t ≡ s → ⊥) → get_or (set lists s new) t [] ≡ get_or lists t []
    others other = get_or-set_other lists s t new [] other

    to : IsNodeIn (get_or lists s [] ++ id ∷ []) i → IsNodeIn (get_or lists s []) i ⊎ ((s ≡ s) × (id.0 ≡ i))
    to it = elim (Contains-push_cases (get_or lists s []) id (record { 0 = i }) it) [
      | inl before ↦ inl before
      | inr same ↦ inr (refl, ap (λ (n : NodeId). n.0) same)
    ]

    from : IsNodeIn (get_or lists s []) i ⊎ ((s ≡ s) × (id.0 ≡ i)) → IsNodeIn (get_or lists s [] ++ id ∷ []) i
    from (inl it) = Contains-append_left (get_or lists s []) (id ∷ []) (record { 0 = i }) it
    from (inr (e, same)) = subst (λ k. IsNodeIn (get_or lists s [] ++ id ∷ []) k) same (Contains-push (get_or lists s []) id)

    at_state : IsNodeIn (get_or (set lists s new) s []) i ↔ IsNodeIn (get_or lists s []) i ⊎ ((s ≡ s) × (id.0 ≡ i))
    at_state = (
      λ it. to (subst (λ (ids : List NodeId). IsNodeIn ids i) here it),
      λ it. subst (λ (ids : List NodeId). IsNodeIn ids i) (sym here) (from it),
    )

pub not_noted : (lists : List (List NodeId)) (s : ℕ) (id : NodeId) → length lists ≤ s → (t i : ℕ) → t < length lists → IsNodeIn (get_or lists t []) i ↔ IsNodeIn (get_or lists t []) i ⊎ ((s ≡ t) × (id.0 ≡ i))
not_noted lists s id past t i low = (
  λ it. inl it,
  λ either. elim either [ inl it ↦ it | inr e ↦ absurd (let same : s ≡ t = e.0 in omega (arith, past, low, same)) ],
)

-- the partners by the first pairs
pub partners_none : (pairs : List StatePair) (type_place : ℕ → ℕ) (n : ℕ) (lists : List (List NodeId)) → length lists ≡ n → ((s : ℕ) → get_or lists s [] ≡ []) → ArePartners (take 0 pairs) type_place n lists
partners_none pairs type_place n lists size none = record {
  size = size;
  are = λ s low i. (
    λ it. absurd (nothing (record { 0 = i }) (subst (λ (ids : List NodeId). IsNodeIn ids i) (none s) it)),
    λ it. absurd (nothing (pair s it.0) it.1),
  );
}

pub partners_next : (pairs : List StatePair) (type_place : ℕ → ℕ) (n k : ℕ) (p : StatePair) (id : NodeId) (lists new : List (List NodeId)) → k < length pairs → p ≡ get_or pairs k p → id.0 ≡ type_place p.special.0
    → ArePartners (take k pairs) type_place n lists → length new ≡ length lists
    → ((t i : ℕ) → t < length lists → IsNodeIn (get_or new t []) i ↔ IsNodeIn (get_or lists t []) i ⊎ ((p.general.0 ≡ t) × (id.0 ≡ i)))
    → ArePartners (take (k + 1) pairs) type_place n new
partners_next pairs type_place n k p id lists new low is of it size added = record {
  size = size ∙ it.size;
  are = λ s h i. (to s h i, from s h i);
}
  where
    abbrev_is : (s t : ℕ) → p.general.0 ≡ s → p.special.0 ≡ t → get_or pairs k p ≡ pair s t
    abbrev_is s t g e = sym is ∙ (λ i. record { general = record { 0 = g i }; special = record { 0 = e i } })

    inside : (s : ℕ) → s < n → s < length lists
    inside s h = let all : length lists ≡ n = it.size in omega (arith, h, all)

    to : (s : ℕ) → s < n → (i : ℕ) → IsNodeIn (get_or new s []) i → (t : ℕ) × IsIn (take (k + 1) pairs) s t × (type_place t ≡ i)
    to s h i there = elim ((added s i (inside s h)).0 there) [
      | inl before ↦ let w = (it.are s h i).0 before in (w.0, taken-before pairs k p low (pair s w.0) w.1, w.2)
      | inr e ↦ (
        p.special.0,
        subst (λ (q : StatePair). Contains (take (k + 1) pairs) q) (abbrev_is s p.special.0 e.0 refl) (taken-last pairs k p low),
        sym of ∙ e.1,
      )
    ]

    from : (s : ℕ) → s < n → (i : ℕ) → (t : ℕ) × IsIn (take (k + 1) pairs) s t × (type_place t ≡ i) → IsNodeIn (get_or new s []) i
    from s h i w = elim (taken-cases pairs k p low (pair s w.0) w.1) [
      | inl before ↦ (added s i (inside s h)).1 (inl ((it.are s h i).1 (w.0, before, w.2)))
      | inr same ↦
          let that : p ≡ pair s w.0 = is ∙ sym same in
          (added s i (inside s h)).1 (inr (ap (λ (q : StatePair). q.general.0) that, of ∙ (ap (λ (q : StatePair). type_place q.special.0) that ∙ w.2)))
    ]

-- those of parts stand before the trees
pub parts_below : (a : Automaton) (leaves : Leaves) (start n end : ℕ) (parts : List (List NodeId)) → AreParted a leaves start n end parts → leaves.boolean.0 < start → leaves.integer.0 < start
    → (s i : ℕ) → IsNodeIn (get_or parts s []) i → i < end
parts_below a leaves start n end parts it boolean integer s i there = go (below_or_more s n)
  where
    longer : start ≤ end
    longer = let e : end ≡ start + own_before a n = it.counted in omega (arith, e)

    go : (s < n) ⊎ ((j : ℕ) × (s ≡ n + j)) → i < end
    go (inl low) =
        let own : own_before a s + own_count (head_at a s) ≤ own_before a n = own_within a s n low in
        let e : end ≡ start + own_before a n = it.counted in
        part_low leaves (start + own_before a s) end (head_at a s) (omega (arith, boolean, longer)) (omega (arith, integer, longer)) (omega (arith, own, e)) i
        (subst (λ (ids : List NodeId). IsNodeIn ids i) (it.are s low) there)
    go (inr (j, e)) =
        let all : length parts ≡ n = it.size in
        absurd (nothing (record { 0 = i }) (subst (λ (ids : List NodeId). IsNodeIn ids i) (get_or_past parts s [] (omega (arith, all, e))) there))

-- all of them stand before the trees
pub sources_below : (a : Automaton) (leaves : Leaves) (start n end : ℕ) (pairs : List StatePair) (type_place : ℕ → ℕ) (sources : Sources) → AreParted a leaves start n end sources.parts
    → ArePartners pairs type_place n sources.partners.items → sources.nothing ≡ leaves.nothing → leaves.boolean.0 < start → leaves.integer.0 < start → leaves.nothing.0 < start
    → ((s : ℕ) → type_place s < start) → AreBelow sources end
sources_below a leaves start n end pairs type_place sources parts partners none boolean integer nothing_low types = record {
  parts = parts_below a leaves start n end sources.parts parts boolean integer;
  partners = λ s i it. partner s i it (below_or_more s n);
  nothing = let same : sources.nothing.0 ≡ leaves.nothing.0 = ap (λ (id : NodeId). id.0) none in omega (arith, same, nothing_low, longer);
}
  where
    longer : start ≤ end
    longer = let e : end ≡ start + own_before a n = parts.counted in omega (arith, e)

    partner : (s i : ℕ) → IsNodeIn (partners_in sources s) i → (s < n) ⊎ ((j : ℕ) × (s ≡ n + j)) → i < end
    partner s i it (inl low) =
        let w = (partners.are s low i).0 it in
        let type : type_place w.0 < start = types w.0 in
        let same : type_place w.0 ≡ i = w.2 in
        omega (arith, type, same, longer)
    partner s i it (inr (j, e)) =
        let all : length sources.partners.items ≡ n = partners.size in
        absurd (nothing (record { 0 = i }) (subst (λ (ids : List NodeId). IsNodeIn ids i) (get_or_past sources.partners.items s [] (omega (arith, all, e))) it))

pub partners_more : (pairs : List StatePair) (type_place : ℕ → ℕ) (n k : ℕ) (d : StatePair) (id : NodeId) (lists new : List (List NodeId)) → k < length pairs → id.0 ≡ type_place (get_or pairs k d).special.0
    → ArePartners (take k pairs) type_place n lists → length new ≡ length lists
    → ((t i : ℕ) → t < length lists → IsNodeIn (get_or new t []) i ↔ IsNodeIn (get_or lists t []) i ⊎ (((get_or pairs k d).general.0 ≡ t) × (id.0 ≡ i)))
    → ArePartners (take (k + 1) pairs) type_place n new
partners_more pairs type_place n k d id lists new low of it size added =
    partners_next pairs type_place n k (get_or pairs k d) id lists new low (get_or_default pairs k d (get_or pairs k d) low) of it size added

-- all places are low where those of the states are, and the one past the end
pub all_low : (places : Places) (n : ℕ) → All (λ (id : NodeId). id.0 < n) places.nodes × (places.past.0 < n) ↔ ((s : ℕ) → place_of places s < n)
all_low places n = (λ it s. go it.0 it.1 s (below_or_more s (length places.nodes)), λ all. (λ k d low. at k d low (all k), at_end (all (length places.nodes))))
  where
    go : All (λ (id : NodeId). id.0 < n) places.nodes → places.past.0 < n → (s : ℕ) → (s < length places.nodes) ⊎ ((j : ℕ) × (s ≡ length places.nodes + j)) → place_of places s < n
    go nodes past s (inl low) = nodes s places.past low
    go nodes past s (inr (j, e)) = subst (λ (id : NodeId). id.0 < n) (sym (get_or_past places.nodes s places.past (omega (arith, e)))) past

    at : (k : ℕ) (d : NodeId) → k < length places.nodes → place_of places k < n → (get_or places.nodes k d).0 < n
    at k d low it = subst (λ (id : NodeId). id.0 < n) (get_or_default places.nodes k places.past d low) it

    at_end : place_of places (length places.nodes) < n → places.past.0 < n
    at_end it = subst (λ (id : NodeId). id.0 < n) (get_or_past places.nodes (length places.nodes) places.past (omega arith)) it
