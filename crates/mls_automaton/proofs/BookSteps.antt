-- How the book of an automaton is laid, node by node and part by part.
use Rattle.std.proofs.Common.{◌≡◌, ℕ, zero, suc, ◌+◌, ◌<◌, List, [], ◌∷◌, ◌++◌, map, refl, sym, ap, ◌∙◌, subst, take, arith, length, get_or, All, length-append, Option, Some, None}
use Rattle.std.specs.Cmp.Lexicographic.{slice_cmp}
use Rattle.std.specs.Ordering.{nat_cmp}
use Rattle.std.specs.declared.cmp.Ordering.TheVariants.{Less}
use Rattle.std.proofs.lemmas.List.{length-map, map-append}
use Rattle.std.proofs.lemmas.List.Elements.{All-head, All-tail}
use Rattle.mls_book.specs.declared.book.Field.{Field}
use Rattle.mls_book.specs.declared.book.Node.{Node}
use Rattle.mls_book.specs.declared.book.Node.TheVariants as node
use Rattle.mls_book.specs.Books as book
use Rattle.mls_automaton.specs.declared.automaton.Polarity.{Polarity}
use Rattle.mls_automaton.specs.declared.automaton.Polarity.TheVariants.{Positive, Negative}
use Rattle.mls_automaton.specs.declared.automaton.FieldSet.{FieldSet}
use Rattle.mls_automaton.specs.declared.automaton.Head.{Head}
use Rattle.mls_automaton.specs.declared.automaton.Arms.{Arms}
use Rattle.mls_automaton.specs.Automata.{opposite}
use Rattle.mls_automaton.specs.Heads.{AreRising}
use Rattle.mls_automaton.specs.Models.{HasRisingLabels}
use Rattle.mls_automaton.specs.steps.BookParts.{IsEdgesSoFar, IsSetSoFar, both_node, edge_nodes, edge_of, fields_from, fields_sets, fields_width, function_sets, function_width, head_sets, id, joined, linked, none_node, place_at, record_node, record_sets, set_nodes, set_width, variable_of}
use Rattle.mls_automaton.proofs.Searches.{next-is}
use Rattle.mls_automaton.proofs.LaidBooks.{function-length, set-length}

pub group : {X : Type 0} (xs ys zs : List X) → (xs ++ ys) ++ zs ≡ xs ++ (ys ++ zs)
group [] ys zs = refl
group (x ∷ xs) ys zs = ap (λ l. x ∷ l) (group xs ys zs)

-- sets of nodes
joined-push : (p : Polarity) (n m : ℕ) (ms : List ℕ) → joined p n (ms ++ m ∷ []) ≡ joined p n ms ++ both_node p (n + length ms) m ∷ []
joined-push p n m [] = ap (λ k. both_node p k m ∷ []) (let e : n ≡ n + 0 = omega arith in e)
joined-push p n m (x ∷ rest) =
    ap (λ l. both_node p n x ∷ l)
    (joined-push p (suc n) m rest
    ∙ ap (λ k. joined p (suc n) rest ++ both_node p k m ∷ []) (let e : suc n + length rest ≡ n + suc (length rest) = omega arith in e))

pub set-next : (p : Polarity) (first : ℕ) (old : List Node) (items : List ℕ) (i : ℕ) (new : List Node) (last : ℕ) (newer : List Node) (next place : ℕ) → i < length items → IsSetSoFar p first old (take i items) new last → place ≡ place_at first (get_or items i 0) → newer ≡ new ++ both_node p last place ∷ [] → next ≡ length new → IsSetSoFar p first old (take (i + 1) items) newer next
set-next p first old items i new last newer next place low so-far at is number = record {
  nodes =
      let before : List ℕ = map (place_at first) (take i items) in
      let size : length new ≡ length old + length (none_node p ∷ joined p (length old) before) = ap length so-far.nodes ∙ length-append old (set_nodes p (length old) before) in
      let width : length (none_node p ∷ joined p (length old) before) ≡ set_width (take i items) = set-length p (place_at first) (length old) (take i items) in
      let count : length before ≡ length (take i items) = length-map (take i items) (place_at first) in
      let end : last ≡ length old + length before = let l = so-far.end in omega arith in
      is
      ∙ ((λ k. so-far.nodes k ++ both_node p (end k) (at k) ∷ [])
      ∙ (group old (set_nodes p (length old) before) (both_node p (length old + length before) (place_at first (get_or items i 0)) ∷ [])
      ∙ ap (λ l. old ++ none_node p ∷ l)
      (sym (joined-push p (length old) (place_at first (get_or items i 0)) before)
      ∙ ap (joined p (length old)) (sym (map-append (place_at first) (take i items) (get_or items i 0 ∷ [])) ∙ ap (map (place_at first)) (sym (next-is items i 0 low))))));
  end = let size : length (new ++ both_node p last place ∷ []) ≡ length new + 1 = length-append new (both_node p last place ∷ []) in let same : length newer ≡ length (new ++ both_node p last place ∷ []) = ap length is in omega arith;
}

-- edges
linked-push : (p : Polarity) (n x : ℕ) (xs : List ℕ) → linked p n (xs ++ x ∷ []) ≡ linked p n xs ++ node.Var x ∷ both_node p (n + length (linked p n xs)) (suc (n + length (linked p n xs))) ∷ []
linked-push p n x [] = ap (λ k. node.Var x ∷ both_node p k (suc k) ∷ []) (let e : n ≡ n + 0 = omega arith in e)
linked-push p n x (y ∷ rest) =
    ap (λ l. node.Var y ∷ both_node p n (suc n) ∷ l)
    (linked-push p (suc (suc n)) x rest
    ∙ ap (λ k. linked p (suc (suc n)) rest ++ node.Var x ∷ both_node p k (suc k) ∷ []) (let e : suc (suc n) + length (linked p (suc (suc n)) rest) ≡ n + suc (suc (length (linked p (suc (suc n)) rest))) = omega arith in e))

pub edges-next : (states : ℕ) (p : Polarity) (s : ℕ) (old : List Node) (items : List ℕ) (i : ℕ) (new : List Node) (last : ℕ) (middle newer : List Node) (variable number next : ℕ) → i < length items → IsEdgesSoFar states p s old (take i items) new last → variable ≡ variable_of states (edge_of p s (get_or items i 0)) → middle ≡ new ++ node.Var variable ∷ [] → number ≡ length new → newer ≡ middle ++ both_node p last number ∷ [] → next ≡ length middle → IsEdgesSoFar states p s old (take (i + 1) items) newer next
edges-next states p s old items i new last middle newer variable number next low so-far is-variable is-middle is-number is at = record {
  nodes =
      let of : ℕ → ℕ = λ j. variable_of states (edge_of p s j) in
      let before : List ℕ = map of (take i items) in
      let chain : List Node = linked p (length old) before in
      let size : length new ≡ length old + suc (length chain) = ap length so-far.nodes ∙ length-append old (edge_nodes p (length old) before) in
      let end : last ≡ length old + length chain = let l = so-far.end in omega arith in
      let one : number ≡ suc (length old + length chain) = omega arith in
      is
      ∙ ((λ k. is-middle k ++ both_node p (end k) (one k) ∷ [])
      ∙ (group new (node.Var variable ∷ []) (both_node p (length old + length chain) (suc (length old + length chain)) ∷ [])
      ∙ ((λ k. so-far.nodes k ++ node.Var (is-variable k) ∷ both_node p (length old + length chain) (suc (length old + length chain)) ∷ [])
      ∙ (group old (edge_nodes p (length old) before) (node.Var (of (get_or items i 0)) ∷ both_node p (length old + length chain) (suc (length old + length chain)) ∷ [])
      ∙ ap (λ l. old ++ none_node p ∷ l)
      (sym (linked-push p (length old) (of (get_or items i 0)) before)
      ∙ ap (linked p (length old)) (sym (map-append of (take i items) (get_or items i 0 ∷ [])) ∙ ap (map of) (sym (next-is items i 0 low))))))));
  end = let size : length (middle ++ both_node p last number ∷ []) ≡ length middle + 1 = length-append middle (both_node p last number ∷ []) in let same : length newer ≡ length (middle ++ both_node p last number ∷ []) = ap length is in omega arith;
}

-- fields
width-push : (fields : List FieldSet) (field : FieldSet) → fields_width (fields ++ field ∷ []) ≡ fields_width fields + set_width field.set
width-push [] field = let e : suc (length field.set) + 0 ≡ 0 + suc (length field.set) = omega arith in e
width-push (first ∷ rest) field = let h : fields_width (rest ++ field ∷ []) ≡ fields_width rest + set_width field.set = width-push rest field in omega arith

from-push : (n : ℕ) (fields : List FieldSet) (field : FieldSet) → fields_from n (fields ++ field ∷ []) ≡ fields_from n fields ++ record { label = field.label; node = id (n + fields_width fields + length field.set) } ∷ []
from-push n [] field = ap (λ k. record { label = field.label; node = id (k + length field.set) } ∷ []) (let e : n ≡ n + 0 = omega arith in e)
from-push n (first ∷ rest) field =
    ap (λ l. record { label = first.label; node = id (n + length first.set) } ∷ l)
    (from-push (n + set_width first.set) rest field
    ∙ ap (λ k. fields_from (n + set_width first.set) rest ++ record { label = field.label; node = id (k + length field.set) } ∷ []) (let e : n + set_width first.set + fields_width rest ≡ n + (set_width first.set + fields_width rest) = omega arith in e))

-- the fields up to the next one
next-field : (fields : List FieldSet) (i : ℕ) (field : FieldSet) → i < length fields → field ≡ get_or fields i field → take (i + 1) fields ≡ take i fields ++ field ∷ []
next-field fields i field low is = next-is fields i field low ∙ ap (λ (f : FieldSet). take i fields ++ f ∷ []) (sym is)

pub fields-next : (n : ℕ) (fields : List FieldSet) (i : ℕ) (field : FieldSet) (placed newer : List Field) (next-one : Field) (end number next : ℕ) → i < length fields → field ≡ get_or fields i field
    → placed ≡ fields_from n (take i fields) → end ≡ n + fields_width (take i fields)
    → number ≡ end + length field.set → next-one ≡ record { label = field.label; node = id number } → newer ≡ placed ++ next-one ∷ [] → next ≡ number + 1
    → (newer ≡ fields_from n (take (i + 1) fields)) × (next ≡ n + fields_width (take (i + 1) fields))
fields-next n fields i field placed newer next-one end number next low at is is-end is-number is-one is-newer is-next =
    let width : fields_width (take (i + 1) fields) ≡ fields_width (take i fields) + set_width field.set = ap fields_width (next-field fields i field low at) ∙ width-push (take i fields) field in (
      is-newer
          ∙ ((λ k. is k ++ (is-one ∙ (λ j. record { label = field.label; node = id ((is-number ∙ ap (λ m. m + length field.set) is-end) j) })) k ∷ [])
          ∙ (sym (from-push n (take i fields) field)
          ∙ ap (fields_from n) (sym (next-field fields i field low at)))),
      omega arith,
    )

later-from : (label : List ℕ) (n : ℕ) (fields : List FieldSet) → All (λ (later : FieldSet). slice_cmp nat_cmp label later.label ≡ Less) fields → All (λ (later : Field). slice_cmp nat_cmp label later.label ≡ Less) (fields_from n fields)
later-from label n [] all k d low = absurd (omega arith)
later-from label n (field ∷ rest) all zero d low = All-head (λ (later : FieldSet). slice_cmp nat_cmp label later.label ≡ Less) field rest all
later-from label n (field ∷ rest) all (suc k) d low = later-from label (n + set_width field.set) rest (All-tail (λ (later : FieldSet). slice_cmp nat_cmp label later.label ≡ Less) field rest all) k d (omega arith)

rising-from : (n : ℕ) (fields : List FieldSet) → AreRising fields → book.AreRising (fields_from n fields)
rising-from n [] rising = tt
rising-from n (field ∷ rest) rising = (later-from field.label (n + set_width field.set) rest rising.0, rising-from (n + set_width field.set) rest rising.1)

-- the sets of fields
pub sets-length : (p : Polarity) (place : ℕ → ℕ) (n : ℕ) (fields : List FieldSet) → length (fields_sets p place n fields) ≡ fields_width fields
sets-length p place n [] = refl
sets-length p place n (field ∷ rest) =
    length-append (set_nodes p n (map place field.set)) (fields_sets p place (n + set_width field.set) rest)
    ∙ (λ i. set-length p place n field.set i + sets-length p place (n + set_width field.set) rest i)

sets-push : (p : Polarity) (place : ℕ → ℕ) (n : ℕ) (fields : List FieldSet) (field : FieldSet) → fields_sets p place n (fields ++ field ∷ []) ≡ fields_sets p place n fields ++ set_nodes p (n + fields_width fields) (map place field.set)
sets-push p place n [] field = ends (set_nodes p n (map place field.set)) ∙ ap (λ k. set_nodes p k (map place field.set)) (let e : n ≡ n + 0 = omega arith in e)
  where
    ends : (xs : List Node) → xs ++ [] ≡ xs
    ends [] = refl
    ends (x ∷ xs) = ap (λ l. x ∷ l) (ends xs)
sets-push p place n (first ∷ rest) field =
    ap (λ l. set_nodes p n (map place first.set) ++ l)
    (sets-push p place (n + set_width first.set) rest field
    ∙ ap (λ k. fields_sets p place (n + set_width first.set) rest ++ set_nodes p k (map place field.set)) (let e : n + set_width first.set + fields_width rest ≡ n + (set_width first.set + fields_width rest) = omega arith in e))
    ∙ sym (group (set_nodes p n (map place first.set)) (fields_sets p place (n + set_width first.set) rest) (set_nodes p (n + (set_width first.set + fields_width rest)) (map place field.set)))

pub fields_sets-next : (p : Polarity) (place : ℕ → ℕ) (old : List Node) (fields : List FieldSet) (i : ℕ) (field : FieldSet) (new newer : List Node) → i < length fields → field ≡ get_or fields i field → new ≡ old ++ fields_sets p place (length old) (take i fields) → newer ≡ new ++ set_nodes p (length new) (map place field.set) → newer ≡ old ++ fields_sets p place (length old) (take (i + 1) fields)
fields_sets-next p place old fields i field new newer low at so-far is =
    let size : length new ≡ length old + fields_width (take i fields) = ap length so-far ∙ (length-append old (fields_sets p place (length old) (take i fields)) ∙ ap (λ k. length old + k) (sets-length p place (length old) (take i fields))) in
    is
    ∙ ((λ k. so-far k ++ set_nodes p (size k) (map place field.set))
    ∙ (group old (fields_sets p place (length old) (take i fields)) (set_nodes p (length old + fields_width (take i fields)) (map place field.set))
    ∙ ap (λ l. old ++ l)
    (sym (sets-push p place (length old) (take i fields) field)
    ∙ ap (fields_sets p place (length old)) (sym (next-field fields i field low at)))))

pub function-sets-both : (p : Polarity) (first : ℕ) (old middle new : List Node) (o : Option Arms) (arms : Arms) (q : Polarity) → o ≡ Some arms → q ≡ opposite p → middle ≡ old ++ set_nodes q (length old) (map (place_at first) arms.domain) → new ≡ middle ++ set_nodes p (length middle) (map (place_at first) arms.codomain) → new ≡ old ++ function_sets p (place_at first) (length old) o
function-sets-both p first old middle new o arms q is turned is-middle is-new =
    let domain : List Node = set_nodes q (length old) (map (place_at first) arms.domain) in
    let size : length middle ≡ length old + set_width arms.domain = ap length is-middle ∙ (length-append old domain ∙ ap (λ k. length old + k) (set-length q (place_at first) (length old) arms.domain)) in
    is-new
    ∙ ((λ k. is-middle k ++ set_nodes p (size k) (map (place_at first) arms.codomain))
    ∙ (group old domain (set_nodes p (length old + set_width arms.domain) (map (place_at first) arms.codomain))
    ∙ ((λ k. old ++ (set_nodes (turned k) (length old) (map (place_at first) arms.domain) ++ set_nodes p (length old + set_width arms.domain) (map (place_at first) arms.codomain)))
    ∙ ap (λ x. old ++ function_sets p (place_at first) (length old) x) (sym is))))

pub head-sets-both : (p : Polarity) (first : ℕ) (old middle new : List Node) (h : Head) → middle ≡ old ++ function_sets p (place_at first) (length old) h.function → new ≡ middle ++ record_sets p (place_at first) (length middle) h.fields → new ≡ old ++ head_sets p (place_at first) (length old) h
head-sets-both p first old middle new h is-middle is-new =
    let function : List Node = function_sets p (place_at first) (length old) h.function in
    let size : length middle ≡ length old + function_width h.function = ap length is-middle ∙ (length-append old function ∙ ap (λ k. length old + k) (function-length p (place_at first) (length old) h.function)) in
    is-new
    ∙ ((λ k. is-middle k ++ record_sets p (place_at first) (size k) h.fields)
    ∙ group old function (record_sets p (place_at first) (length old + function_width h.function) h.fields))

-- a record is as a book demands
pub record-ordered : (n : ℕ) (p : Polarity) (next : ℕ) (o : Option (List FieldSet)) (x : Node) → x ≡ record_node p next o → HasRisingLabels o → book.IsOrdered n x
record-ordered n p next o x is rising = subst (book.IsOrdered n) (sym is) (ordered p o rising)
  where
    ordered : (q : Polarity) (o : Option (List FieldSet)) → HasRisingLabels o → book.IsOrdered n (record_node q next o)
    ordered Positive None it = tt
    ordered Negative None it = tt
    ordered q (Some fields) it = rising-from next fields it
