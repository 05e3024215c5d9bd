-- How the book of an automaton grows, state by state.
use Rattle.std.proofs.Common.{◌≡◌, ◌↔◌, ◌⊎◌, inl, inr, ℕ, zero, suc, add-one, ◌+◌, ◌-◌, ◌*◌, ◌<◌, ◌≤◌, Bool, true, false, List, [], ◌∷◌, ◌++◌, map, refl, sym, ap, ◌∙◌, subst, arith, length, get_or, All, Contains, length-append, Option, Some, None}
use Rattle.std.proofs.lemmas.Bool.{cases_eq}
use Rattle.std.proofs.lemmas.List.{get_or_append_left, get_or-append_right}
use Rattle.std.proofs.lemmas.List.Elements.{All-append}
use Rattle.mls_book.specs.declared.book.Field.{Field}
use Rattle.mls_book.specs.declared.book.Node.{Node}
use Rattle.mls_book.specs.declared.book.Node.TheVariants as node
use Rattle.mls_automaton.specs.declared.automaton.Polarity.{Polarity}
use Rattle.mls_automaton.specs.declared.automaton.Polarity.TheVariants.{Positive, Negative}
use Rattle.mls_automaton.specs.declared.automaton.Arms.{Arms}
use Rattle.mls_automaton.specs.declared.automaton.FieldSet.{FieldSet}
use Rattle.mls_automaton.specs.declared.automaton.Head.{Head}
use Rattle.mls_automaton.specs.Automata.{Automaton, IsPartner, head_at, opposite, polarity_at}
use Rattle.mls_automaton.specs.steps.BookParts.{AddsNoHead, AreEdges, AreSets, AreStates, HasEdges, HasHeadBelow, HasPart, IsLaid, IsLonger, bit_node, both_node, edge_nodes, fields_from, fields_sets, fields_width, function_node, function_sets, function_width, head_sets, head_width, join_nodes, joined, linked, none_node, part_nodes, place_at, record_node, record_sets, record_width, set_nodes, set_width, start_at, state_nodes, variables_of, variable_of, edge_of, width_to}
use Rattle.mls_automaton.proofs.LaidBooks.{function-length}
use Rattle.mls_automaton.proofs.BookSteps.{group, sets-length}

-- parts of longer lists
ends : {X : Type 0} (xs : List X) → xs ++ [] ≡ xs
ends [] = refl
ends (x ∷ xs) = ap (λ l. x ∷ l) (ends xs)

part-last : (old part new : List Node) (n : ℕ) → new ≡ old ++ part → length old ≡ n → HasPart new n part
part-last old part new n is at = record { front = old; back = []; is = is ∙ ap (λ l. old ++ l) (sym (ends part)); at = at }

part-longer : (old new : List Node) (n : ℕ) (part : List Node) → IsLonger old new → HasPart old n part → HasPart new n part
part-longer old new n part longer has = record {
  front = has.front;
  back = has.back ++ longer.0;
  is = longer.1 ∙ ((λ k. has.is k ++ longer.0) ∙ (group has.front (part ++ has.back) longer.0 ∙ ap (λ l. has.front ++ l) (group part has.back longer.0)));
  at = has.at;
}

pub longer-more : (old new newer more : List Node) → IsLonger old new → newer ≡ new ++ more → IsLonger old newer
longer-more old new newer more longer is = (longer.0 ++ more, is ∙ ((λ k. longer.1 k ++ more) ∙ group old longer.0 more))

longer-by : (old new more : List Node) → new ≡ old ++ more → IsLonger old new
longer-by old new more is = (more, is)

edges-longer : (old new : List Node) (a : Automaton) (s e : ℕ) → IsLonger old new → HasEdges old a s e → HasEdges new a s e
edges-longer old new a s e longer it = record {
  partners = it.partners;
  are_partners = it.are_partners;
  start = it.start;
  part = part-longer old new it.start (edge_nodes (polarity_at a s) it.start (variables_of a s it.partners)) longer it.part;
  last = it.last;
}

-- below the next number
below-next : (s i : ℕ) → s < i + 1 → (s < i) ⊎ (s ≡ i)
below-next s i low = elim (cases_eq s i) [
  | inl e ↦ inr e
  | inr other ↦ inl (omega arith)
]

-- functions and records
All-cons : {X : Type 0} (P : X → Type 0) (x : X) (rest : List X) → P x → All P rest → All P (x ∷ rest)
All-cons P x rest first more zero d low = first
All-cons P x rest first more (suc k) d low = more k d (omega arith)

head-more : (n m : ℕ) (x : Node) → n ≤ m → HasHeadBelow n x → HasHeadBelow m x
head-more n m node.Bot le it = tt
head-more n m node.Top le it = tt
head-more n m (node.Var x) le it = tt
head-more n m node.Bool le it = tt
head-more n m node.Int le it = tt
head-more n m (node.Arrow j k) le it = let first = it.0 in let second = it.1 in (omega arith, omega arith)
head-more n m (node.Rcd fields) le it = λ k d low. let h : (get_or fields k d).node.0 < n = it k d low in omega arith
head-more n m (node.Join j k) le it = tt
head-more n m (node.Meet j k) le it = tt

heads-more : (n m : ℕ) (nodes : List Node) → n ≤ m → All (HasHeadBelow n) nodes → All (HasHeadBelow m) nodes
heads-more n m nodes le all k d low = head-more n m (get_or nodes k d) le (all k d low)

none-plain : (n : ℕ) (p : Polarity) → HasHeadBelow n (none_node p)
none-plain n Positive = tt
none-plain n Negative = tt

both-plain : (n : ℕ) (p : Polarity) (j k : ℕ) → HasHeadBelow n (both_node p j k)
both-plain n Positive j k = tt
both-plain n Negative j k = tt

linked-plain : (n : ℕ) (p : Polarity) (m : ℕ) (xs : List ℕ) → All (HasHeadBelow n) (linked p m xs)
linked-plain n p m [] = λ k d low. absurd (omega arith)
linked-plain n p m (x ∷ rest) =
    All-cons (HasHeadBelow n) (node.Var x) (both_node p m (suc m) ∷ linked p (suc (suc m)) rest) tt
    (All-cons (HasHeadBelow n) (both_node p m (suc m)) (linked p (suc (suc m)) rest) (both-plain n p m (suc m)) (linked-plain n p (suc (suc m)) rest))

edges-plain : (n : ℕ) (p : Polarity) (m : ℕ) (xs : List ℕ) → All (HasHeadBelow n) (edge_nodes p m xs)
edges-plain n p m xs = All-cons (HasHeadBelow n) (none_node p) (linked p m xs) (none-plain n p) (linked-plain n p m xs)

joined-plain : (n : ℕ) (p : Polarity) (m : ℕ) (xs : List ℕ) → All (HasHeadBelow n) (joined p m xs)
joined-plain n p m [] = λ k d low. absurd (omega arith)
joined-plain n p m (x ∷ rest) = All-cons (HasHeadBelow n) (both_node p m x) (joined p (suc m) rest) (both-plain n p m x) (joined-plain n p (suc m) rest)

set-plain : (n : ℕ) (p : Polarity) (m : ℕ) (xs : List ℕ) → All (HasHeadBelow n) (set_nodes p m xs)
set-plain n p m xs = All-cons (HasHeadBelow n) (none_node p) (joined p m xs) (none-plain n p) (joined-plain n p m xs)

function-plain : (n : ℕ) (p : Polarity) (place : ℕ → ℕ) (m : ℕ) (o : Option Arms) → All (HasHeadBelow n) (function_sets p place m o)
function-plain n p place m None = λ k d low. absurd (omega arith)
function-plain n p place m (Some arms) =
    All-append (HasHeadBelow n) (set_nodes (opposite p) m (map place arms.domain)) (set_nodes p (m + set_width arms.domain) (map place arms.codomain))
    (set-plain n (opposite p) m (map place arms.domain)) (set-plain n p (m + set_width arms.domain) (map place arms.codomain))

fields-plain : (n : ℕ) (p : Polarity) (place : ℕ → ℕ) (m : ℕ) (fields : List FieldSet) → All (HasHeadBelow n) (fields_sets p place m fields)
fields-plain n p place m [] = λ k d low. absurd (omega arith)
fields-plain n p place m (field ∷ rest) =
    All-append (HasHeadBelow n) (set_nodes p m (map place field.set)) (fields_sets p place (m + set_width field.set) rest)
    (set-plain n p m (map place field.set)) (fields-plain n p place (m + set_width field.set) rest)

record-plain : (n : ℕ) (p : Polarity) (place : ℕ → ℕ) (m : ℕ) (o : Option (List FieldSet)) → All (HasHeadBelow n) (record_sets p place m o)
record-plain n p place m None = λ k d low. absurd (omega arith)
record-plain n p place m (Some fields) = fields-plain n p place m fields

head-plain : (n : ℕ) (p : Polarity) (place : ℕ → ℕ) (m : ℕ) (h : Head) → All (HasHeadBelow n) (head_sets p place m h)
head-plain n p place m h =
    All-append (HasHeadBelow n) (function_sets p place m h.function) (record_sets p place (m + function_width h.function) h.fields)
    (function-plain n p place m h.function) (record-plain n p place (m + function_width h.function) h.fields)

bit-plain : (n : ℕ) (p : Polarity) (x : Node) (b : Bool) → HasHeadBelow n x → HasHeadBelow n (bit_node p x b)
bit-plain n p x false it = none-plain n p
bit-plain n p x true it = it

function-below : (p : Polarity) (m : ℕ) (o : Option Arms) → HasHeadBelow (m + function_width o) (function_node p m o)
function-below p m None = none-plain (m + 0) p
function-below p m (Some arms) = (omega arith, omega arith)

fields-below : (m : ℕ) (fields : List FieldSet) → All (λ (field : Field). field.node.0 < m + fields_width fields) (fields_from m fields)
fields-below m [] k d low = absurd (omega arith)
fields-below m (field ∷ rest) zero d low = omega arith
fields-below m (field ∷ rest) (suc k) d low =
    let h : (get_or (fields_from (m + set_width field.set) rest) k d).node.0 < m + set_width field.set + fields_width rest = fields-below (m + set_width field.set) rest k d (omega arith) in
    omega arith

record-below : (p : Polarity) (m : ℕ) (o : Option (List FieldSet)) → HasHeadBelow (m + record_width o) (record_node p m o)
record-below p m None = none-plain (m + 0) p
record-below p m (Some fields) = fields-below m fields

state-below : (p : Polarity) (edges start m : ℕ) (h : Head) → All (HasHeadBelow (m + head_width h)) (state_nodes p edges start m h)
state-below p edges start m h =
    let n : ℕ = m + head_width h in
    let function : HasHeadBelow n (function_node p m h.function) = head-more (m + function_width h.function) n (function_node p m h.function) (omega arith) (function-below p m h.function) in
    let fields : HasHeadBelow n (record_node p (m + function_width h.function) h.fields) = head-more (m + function_width h.function + record_width h.fields) n (record_node p (m + function_width h.function) h.fields) (omega arith) (record-below p (m + function_width h.function) h.fields) in
    All-append (HasHeadBelow n) (part_nodes p m h) (join_nodes p edges start)
    (All-cons (HasHeadBelow n) (bit_node p node.Bool h.boolean) (bit_node p node.Int h.integer ∷ function_node p m h.function ∷ record_node p (m + function_width h.function) h.fields ∷ []) (bit-plain n p node.Bool h.boolean tt)
    (All-cons (HasHeadBelow n) (bit_node p node.Int h.integer) (function_node p m h.function ∷ record_node p (m + function_width h.function) h.fields ∷ []) (bit-plain n p node.Int h.integer tt)
    (All-cons (HasHeadBelow n) (function_node p m h.function) (record_node p (m + function_width h.function) h.fields ∷ []) function
    (All-cons (HasHeadBelow n) (record_node p (m + function_width h.function) h.fields) [] fields (λ k d low. absurd (omega arith))))))
    (All-cons (HasHeadBelow n) (both_node p (start + 2) (start + 3)) (both_node p (start + 1) (start + 4) ∷ both_node p start (start + 5) ∷ both_node p edges (start + 6) ∷ []) (both-plain n p (start + 2) (start + 3))
    (All-cons (HasHeadBelow n) (both_node p (start + 1) (start + 4)) (both_node p start (start + 5) ∷ both_node p edges (start + 6) ∷ []) (both-plain n p (start + 1) (start + 4))
    (All-cons (HasHeadBelow n) (both_node p start (start + 5)) (both_node p edges (start + 6) ∷ []) (both-plain n p start (start + 5))
    (All-cons (HasHeadBelow n) (both_node p edges (start + 6)) [] (both-plain n p edges (start + 6)) (λ k d low. absurd (omega arith))))))

-- the edges of one more state
pub edges-more : (a : Automaton) (i : ℕ) (nodes : List Node) (edges : List ℕ) (states : ℕ) (p : Polarity) (partners : List ℕ) (new : List Node) (last : ℕ) (newer : List ℕ)
    → AreEdges a i nodes edges → states ≡ length a.states → p ≡ polarity_at a i → ((j : ℕ) → Contains partners j ↔ IsPartner a i j)
    → new ≡ nodes ++ edge_nodes p (length nodes) (map (λ j. variable_of states (edge_of p i j)) partners)
    → last + 1 ≡ length new → newer ≡ edges ++ last ∷ [] → AreEdges a (i + 1) new newer
edges-more a i nodes edges states p partners new last newer so-far is-states is-p are is is-last is-newer = record {
  size = ap length is-newer ∙ (length-append edges (last ∷ []) ∙ ap (λ k. k + 1) so-far.size);
  each = λ s low. elim (below-next s i low) [
    | inl less ↦ subst (HasEdges new a s) (sym (old s less)) (edges-longer nodes new a s (get_or edges s 0) (longer-by nodes new part is') (so-far.each s less))
    | inr e ↦ subst (λ k. HasEdges new a k (get_or newer k 0)) (sym e) (subst (HasEdges new a i) (sym here) one)
  ];
  heads = subst (All (HasHeadBelow 0)) (sym is') (All-append (HasHeadBelow 0) nodes part so-far.heads (edges-plain 0 (polarity_at a i) (length nodes) (variables_of a i partners)));
}
  where
    part : List Node
    part = edge_nodes (polarity_at a i) (length nodes) (variables_of a i partners)

    is' : new ≡ nodes ++ part
    is' = is ∙ (λ k. nodes ++ edge_nodes (is-p k) (length nodes) (map (λ j. variable_of (is-states k) (edge_of (is-p k) i j)) partners))

    old : (s : ℕ) → s < i → get_or newer s 0 ≡ get_or edges s 0
    old s less = let size = so-far.size in ap (λ l. get_or l s 0) is-newer ∙ get_or_append_left edges (last ∷ []) 0 s (omega arith)

    here : get_or newer i 0 ≡ last
    here =
        ap (λ l. get_or l i 0) is-newer
        ∙ (ap (λ k. get_or (edges ++ last ∷ []) k 0) (sym so-far.size)
        ∙ (get_or-append_right edges (last ∷ []) (length edges) (length edges) 0 refl (omega arith)
        ∙ ap (λ k. get_or (last ∷ []) k 0) (let e : length edges - length edges ≡ 0 = omega arith in e)))

    one : HasEdges new a i last
    one = record {
      partners = partners;
      are_partners = are;
      start = length nodes;
      part = part-last nodes part new (length nodes) is' refl;
      last = is-last ∙ (ap length is' ∙ length-append nodes part);
    }

-- one more state
pub states-more : (a : Automaton) (edges : List ℕ) (first sets i : ℕ) (nodes : List Node) (p : Polarity) (h : Head) (edge next : ℕ) (new : List Node)
    → AreStates a edges first sets i nodes → next ≡ sets + width_to a i → p ≡ polarity_at a i → h ≡ head_at a i → edge ≡ get_or edges i 0
    → new ≡ nodes ++ state_nodes p edge (length nodes) next h → AreStates a edges first sets (i + 1) new
states-more a edges first sets i nodes p h edge next new so-far is-next is-p is-h is-edge is = record {
  size = let all : length new ≡ length nodes + 8 = ap length is' ∙ length-append nodes part in let size = so-far.size in omega arith;
  each = λ s low. elim (below-next s i low) [
    | inl less ↦ part-longer nodes new (start_at first s) (state_nodes (polarity_at a s) (get_or edges s 0) (start_at first s) (sets + width_to a s) (head_at a s)) (longer-by nodes new part is') (so-far.each s less)
    | inr e ↦ subst (λ k. HasPart new (start_at first k) (state_nodes (polarity_at a k) (get_or edges k 0) (start_at first k) (sets + width_to a k) (head_at a k))) (sym e) (part-last nodes part new (start_at first i) is' so-far.size)
  ];
  heads =
      let wider : sets + width_to a i + head_width (head_at a i) ≡ sets + width_to a (i + 1) = omega (arith, ap (width_to a) (add-one i)) in
      subst (λ n. All (HasHeadBelow n) new) wider
      (subst (All (HasHeadBelow (sets + width_to a i + head_width (head_at a i)))) (sym is')
      (All-append (HasHeadBelow (sets + width_to a i + head_width (head_at a i))) nodes part
      (heads-more (sets + width_to a i) (sets + width_to a i + head_width (head_at a i)) nodes (omega arith) so-far.heads)
      (state-below (polarity_at a i) (get_or edges i 0) (start_at first i) (sets + width_to a i) (head_at a i))));
}
  where
    part : List Node
    part = state_nodes (polarity_at a i) (get_or edges i 0) (start_at first i) (sets + width_to a i) (head_at a i)

    is' : new ≡ nodes ++ part
    is' = is ∙ (λ k. nodes ++ state_nodes (is-p k) (is-edge k) (so-far.size k) (is-next k) (is-h k))

pub next-more : (a : Automaton) (sets i next after : ℕ) (h : Head) → next ≡ sets + width_to a i → h ≡ head_at a i → after ≡ next + head_width h → after ≡ sets + width_to a (i + 1)
next-more a sets i next after h is is-h is-after =
    let wider : width_to a (i + 1) ≡ width_to a i + head_width (head_at a i) = ap (width_to a) (add-one i) in
    let same : head_width h ≡ head_width (head_at a i) = ap head_width is-h in
    omega arith

-- the sets of one more state
head-length : (p : Polarity) (place : ℕ → ℕ) (n : ℕ) (h : Head) → length (head_sets p place n h) ≡ head_width h
head-length p place n h =
    length-append (function_sets p place n h.function) (record_sets p place (n + function_width h.function) h.fields)
    ∙ (λ k. function-length p place n h.function k + record-length (n + function_width h.function) h.fields k)
  where
    record-length : (m : ℕ) (o : Option (List FieldSet)) → length (record_sets p place m o) ≡ record_width o
    record-length m None = refl
    record-length m (Some fields) = sets-length p place m fields

pub sets-more : (a : Automaton) (first sets i : ℕ) (nodes : List Node) (p : Polarity) (h : Head) (new : List Node)
    → AreSets a first sets i nodes → p ≡ polarity_at a i → h ≡ head_at a i
    → new ≡ nodes ++ head_sets p (place_at first) (length nodes) h → AreSets a first sets (i + 1) new
sets-more a first sets i nodes p h new so-far is-p is-h is = record {
  size =
      let all : length new ≡ length nodes + head_width (head_at a i) = ap length is' ∙ (length-append nodes part ∙ ap (λ k. length nodes + k) (head-length (polarity_at a i) (place_at first) (sets + width_to a i) (head_at a i))) in
      let wider : width_to a (i + 1) ≡ width_to a i + head_width (head_at a i) = ap (width_to a) (add-one i) in
      let size = so-far.size in
      omega arith;
  each = λ s low. elim (below-next s i low) [
    | inl less ↦ part-longer nodes new (sets + width_to a s) (head_sets (polarity_at a s) (place_at first) (sets + width_to a s) (head_at a s)) (longer-by nodes new part is') (so-far.each s less)
    | inr e ↦ subst (λ k. HasPart new (sets + width_to a k) (head_sets (polarity_at a k) (place_at first) (sets + width_to a k) (head_at a k))) (sym e) (part-last nodes part new (sets + width_to a i) is' so-far.size)
  ];
}
  where
    part : List Node
    part = head_sets (polarity_at a i) (place_at first) (sets + width_to a i) (head_at a i)

    is' : new ≡ nodes ++ part
    is' = is ∙ (λ k. nodes ++ head_sets (is-p k) (place_at first) (so-far.size k) (is-h k))

pub no-head-more : (old new newer : List Node) (p : Polarity) (place : ℕ → ℕ) (m : ℕ) (h : Head) → AddsNoHead old new → newer ≡ new ++ head_sets p place m h → AddsNoHead old newer
no-head-more old new newer p place m h adds is n all = subst (All (HasHeadBelow n)) (sym is) (All-append (HasHeadBelow n) new (head_sets p place m h) (adds n all) (head-plain n p place m h))

-- the whole
pub laid : (a : Automaton) (edges : List ℕ) (b1 b2 b3 : List Node) (first sets count : ℕ) → count ≡ length a.states → AreEdges a (length a.states) b1 edges → first ≡ length b1 → sets ≡ first + 8 * count → AreStates a edges first sets (length a.states) b2 → IsLonger b1 b2 → AreSets a first (length b2) (length a.states) b3 → IsLonger b2 b3 → AddsNoHead b2 b3 → IsLaid a first b3
laid a edges b1 b2 b3 first sets count is-count are-edges is-first is-sets states first-longer are-sets longer plain =
    let at : length b2 ≡ sets = (let size = states.size in omega arith) in
    record {
      edges = edges;
      has_edges = λ s low. edges-longer b2 b3 a s (get_or edges s 0) longer (edges-longer b1 b2 a s (get_or edges s 0) first-longer (are-edges.each s low));
      sets = sets;
      has_states = λ s low. part-longer b2 b3 (start_at first s) (state_nodes (polarity_at a s) (get_or edges s 0) (start_at first s) (sets + width_to a s) (head_at a s)) longer (states.each s low);
      has_sets = λ s low. subst (λ n. HasPart b3 (n + width_to a s) (head_sets (polarity_at a s) (place_at first) (n + width_to a s) (head_at a s))) at (are-sets.each s low);
      heads = subst (λ n. All (HasHeadBelow n) b3) (let size = are-sets.size in let e : sets + width_to a (length a.states) ≡ length b3 = omega arith in e) (plain (sets + width_to a (length a.states)) states.heads);
    }
