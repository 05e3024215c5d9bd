-- A list of nodes that is laid out for an automaton is a book of it.
use Rattle.std.proofs.Common.{◌≡◌, ◌↔◌, inl, inr, ℕ, zero, suc, ◌+◌, ◌*◌, ◌<◌, Bool, true, false, List, [], ◌∷◌, ◌++◌, map, refl, sym, ap, ◌∙◌, subst, arith, length, get_or, All, Contains, Some, None}
use Rattle.std.specs.Prelude.{◌==◌, Option, option_map, cond, bytes_eq, find}
use Rattle.std.proofs.Common.{length-append}
use Rattle.std.specs.Cmp.{nat_cmp_total}
use Rattle.std.specs.FinMap as finmap
use Rattle.std.specs.Ordering.{nat_cmp}
use Rattle.std.proofs.lemmas.Bool.{eqb-true, eq-eqb}
use Rattle.std.proofs.lemmas.List.{get_or_default, get_or-append-add, length-map}
use Rattle.std.proofs.lemmas.List.Elements.{Contains-get_or}
use Rattle.mls_book.specs.declared.book.Field.{Field}
use Rattle.mls_book.specs.declared.book.NodeId.{NodeId}
use Rattle.mls_book.specs.declared.book.Node.{Node}
use Rattle.mls_book.specs.declared.book.Node.TheVariants as node
use Rattle.mls_book.specs.Books.{HasChildrenBelow, IsBook, IsClosedBook, IsOrdered, node_at}
use Rattle.mls_book.specs.Predicates as predicate
use Rattle.mls_book.specs.Predicates.{Predicate}
use Rattle.mls_book.specs.Passes.{field_values, passes_by}
use Rattle.mls_book.proofs.Table.{value-arrow, value-bool, value-bot, value-int, value-join, value-meet, value-rcd, value-top, value-var}
use Rattle.mls_automaton.specs.declared.automaton.Polarity.{Polarity}
use Rattle.mls_automaton.specs.declared.automaton.Polarity.TheVariants.{Positive, Negative}
use Rattle.mls_automaton.specs.declared.automaton.Arms.{Arms}
use Rattle.mls_automaton.specs.declared.automaton.FieldSet.{FieldSet}
use Rattle.mls_automaton.specs.declared.automaton.Head.{Head}
use Rattle.mls_automaton.specs.declared.automaton.Flow.{Flow}
use Rattle.mls_automaton.specs.declared.scheme.Scheme.{Scheme}
use Rattle.mls_automaton.specs.declared.scheme_book.SchemeBook.{SchemeBook}
use Rattle.mls_automaton.specs.Automata.{Automaton, HasTrueFlows, IsPartner, end_of, flow, flows_at, head_at, opposite, polarity_at}
use Rattle.mls_automaton.specs.Heads.{all_of, bit_value, both, function_value, head_value, none_of, part_value, record_value, set_at, set_value}
use Rattle.mls_automaton.specs.Models.{IsClosed, IsInside}
use Rattle.mls_automaton.specs.SchemeBooks.{binder_node, scheme_in}
use Rattle.mls_automaton.specs.Schemes.{IsBookOf, IsScheme, IsSchemeOf}
use Rattle.mls_automaton.specs.steps.BookParts.{HasHeadBelow, HasPart, IsLaid, bit_node, both_node, edge_nodes, edge_of, env_node, fields_from, fields_sets, function_node, function_sets, function_width, head_sets, id, joined, linked, none_node, place_at, record_node, record_sets, set_nodes, set_width, start_at, state_nodes, variable_of, variables_of, width_to}
use Rattle.mls_automaton.proofs.BooksExist.{find-entry}
use Rattle.mls_automaton.proofs.Lists.{Contains-filter, Contains-filtered, Contains-map, Contains-map_back, map-map, passes-filtered}
use Rattle.mls_automaton.proofs.Signs.{all-cons, all-empty, all_least, all_upper, both_group, both_none, none_both, same-inside}

-- the nodes stand in the list from n on
abbrev Stands : List Node → ℕ → List Node → Type 0
Stands nodes n [] = Unit {0}
Stands nodes n (x ∷ rest) = (node_at nodes n ≡ x) × Stands nodes (suc n) rest

stands-in : (front part back : List Node) → Stands (front ++ (part ++ back)) (length front) part
stands-in front [] back = tt
stands-in front (x ∷ rest) back = (
  (let e : length front ≡ length front + 0 = omega arith in ap (node_at (front ++ (x ∷ (rest ++ back)))) e ∙ get_or-append-add front (x ∷ (rest ++ back)) 0 node.Bot),
  (let size : length (front ++ x ∷ []) ≡ suc (length front) = length-append front (x ∷ []) ∙ (let e : length front + 1 ≡ suc (length front) = omega arith in e) in
      subst (λ n. Stands (front ++ (x ∷ (rest ++ back))) n rest) size
      (subst (λ l. Stands l (length (front ++ x ∷ [])) rest) (moved front) (stands-in (front ++ x ∷ []) rest back))),
)
  where
    moved : (xs : List Node) → (xs ++ x ∷ []) ++ (rest ++ back) ≡ xs ++ (x ∷ (rest ++ back))
    moved [] = refl
    moved (y ∷ ys) = ap (λ l. y ∷ l) (moved ys)

stands : (nodes : List Node) (n : ℕ) (part : List Node) → HasPart nodes n part → Stands nodes n part
stands nodes n part has = subst (λ m. Stands nodes m part) has.at (subst (λ l. Stands l (length has.front) part) (sym has.is) (stands-in has.front part has.back))

stands-left : (nodes : List Node) (n : ℕ) (xs ys : List Node) → Stands nodes n (xs ++ ys) → Stands nodes n xs
stands-left nodes n [] ys it = tt
stands-left nodes n (x ∷ rest) ys it = (it.0, stands-left nodes (suc n) rest ys it.1)

stands-right : (nodes : List Node) (n : ℕ) (xs ys : List Node) → Stands nodes n (xs ++ ys) → Stands nodes (n + length xs) ys
stands-right nodes n [] ys it = let e : n ≡ n + 0 = omega arith in subst (λ m. Stands nodes m ys) e it
stands-right nodes n (x ∷ rest) ys it = let e : suc n + length rest ≡ n + suc (length rest) = omega arith in subst (λ m. Stands nodes m ys) e (stands-right nodes (suc n) rest ys it.1)

joined-length : (p : Polarity) (n : ℕ) (ms : List ℕ) → length (joined p n ms) ≡ length ms
joined-length p n [] = refl
joined-length p n (m ∷ rest) = ap suc (joined-length p (suc n) rest)

pub set-length : (p : Polarity) (place : ℕ → ℕ) (n : ℕ) (set : List ℕ) → length (set_nodes p n (map place set)) ≡ set_width set
set-length p place n set = ap suc (joined-length p n (map place set) ∙ length-map set place)

pub function-length : (p : Polarity) (place : ℕ → ℕ) (n : ℕ) (o : Option Arms) → length (function_sets p place n o) ≡ function_width o
function-length p place n None = refl
function-length p place n (Some arms) =
    let first = set_nodes (opposite p) n (map place arms.domain) in
    let second = set_nodes p (n + set_width arms.domain) (map place arms.codomain) in
    length-append first second
    ∙ (λ i. set-length (opposite p) place n arms.domain i + set-length p place (n + set_width arms.domain) arms.codomain i)

-- What the nodes of a book pass that stand so.
module _ (v : ℕ → Predicate) (nodes : List Node) (book : IsBook nodes) where
  abbrev value : ℕ → Predicate
  value i = passes_by v nodes i

  value-both : (p : Polarity) (i j k : ℕ) → node_at nodes i ≡ both_node p j k → value i ≡ both p (value j) (value k)
  value-both Positive i j k e = value-join v nodes book i (id j) (id k) e
  value-both Negative i j k e = value-meet v nodes book i (id j) (id k) e

  value-none : (p : Polarity) (i : ℕ) → node_at nodes i ≡ none_node p → value i ≡ none_of p
  value-none Positive i e = value-bot v nodes book i e
  value-none Negative i e = value-top v nodes book i e

  value-joined : (p : Polarity) (n : ℕ) (ms : List ℕ) → Stands nodes (suc n) (joined p n ms) → value (n + length ms) ≡ both p (value n) (all_of p (map value ms))
  value-joined p n [] it = let e : n + 0 ≡ n = omega arith in ap value e ∙ sym (ap (both p (value n)) (all-empty p) ∙ both_none p (value n))
  value-joined p n (m ∷ rest) it =
      let e : n + suc (length rest) ≡ suc n + length rest = omega arith in
      ap value e
      ∙ (value-joined p (suc n) rest it.1
      ∙ ((λ i. both p (value-both p (suc n) n m it.0 i) (all_of p (map value rest)))
      ∙ (both_group p (value n) (value m) (all_of p (map value rest))
      ∙ ap (both p (value n)) (sym (all-cons p (value m) (map value rest))))))

  -- a set
  value-set : (p : Polarity) (place : ℕ → ℕ) (n : ℕ) (set : List ℕ) → Stands nodes n (set_nodes p n (map place set)) → value (n + length set) ≡ set_value p (λ j. value (place j)) set
  value-set p place n set it =
      let size : length (map place set) ≡ length set = length-map set place in
      ap (λ k. value (n + k)) (sym size)
      ∙ (value-joined p n (map place set) it.1
      ∙ ((λ i. both p (value-none p n it.0 i) (all_of p (map-map value place set i)))
      ∙ none_both p (all_of p (map (λ j. value (place j)) set))))

  -- variables
  value-linked : (p : Polarity) (n : ℕ) (xs : List ℕ) → Stands nodes (suc n) (linked p n xs) → value (n + length (linked p n xs)) ≡ both p (value n) (all_of p (map v xs))
  value-linked p n [] it = let e : n + 0 ≡ n = omega arith in ap value e ∙ sym (ap (both p (value n)) (all-empty p) ∙ both_none p (value n))
  value-linked p n (x ∷ rest) it =
      let e : n + suc (suc (length (linked p (suc (suc n)) rest))) ≡ suc (suc n) + length (linked p (suc (suc n)) rest) = omega arith in
      ap value e
      ∙ (value-linked p (suc (suc n)) rest it.1.1
      ∙ ((λ i. both p (value-both p (suc (suc n)) n (suc n) it.1.0 i) (all_of p (map v rest)))
      ∙ ((λ i. both p (both p (value n) (value-var v nodes book (suc n) x it.0 i)) (all_of p (map v rest)))
      ∙ (both_group p (value n) (v x) (all_of p (map v rest))
      ∙ ap (both p (value n)) (sym (all-cons p (v x) (map v rest)))))))

  value-edges : (p : Polarity) (n e : ℕ) (xs : List ℕ) → Stands nodes n (edge_nodes p n xs) → e + 1 ≡ n + length (edge_nodes p n xs) → value e ≡ all_of p (map v xs)
  value-edges p n e xs it last =
      let at : e ≡ n + length (linked p n xs) = omega arith in
      ap value at
      ∙ (value-linked p n xs it.1
      ∙ ((λ i. both p (value-none p n it.0 i) (all_of p (map v xs)))
      ∙ none_both p (all_of p (map v xs))))

  -- the parts of a head
  value-bit : (p : Polarity) (i : ℕ) (x : Node) (f : Predicate) (b : Bool) → (node_at nodes i ≡ x → value i ≡ f) → node_at nodes i ≡ bit_node p x b → value i ≡ bit_value p f b
  value-bit p i x f false is e = value-none p i e
  value-bit p i x f true is e = is e

  module _ (p : Polarity) (place : ℕ → ℕ) where
    abbrev placed : ℕ → Predicate
    placed j = value (place j)

    value-function : (i n : ℕ) (o : Option Arms) → node_at nodes i ≡ function_node p n o → Stands nodes n (function_sets p place n o) → value i ≡ part_value p (option_map (function_value p placed) o)
    value-function i n None e it = value-none p i e
    value-function i n (Some arms) e it =
        let first = set_nodes (opposite p) n (map place arms.domain) in
        let second = set_nodes p (n + set_width arms.domain) (map place arms.codomain) in
        let size : n + length first ≡ n + set_width arms.domain = ap (λ k. n + k) (set-length (opposite p) place n arms.domain) in
        value-arrow v nodes book i (id (n + length arms.domain)) (id (n + set_width arms.domain + length arms.codomain)) e
        ∙ (λ k. predicate.arrow
        (value-set (opposite p) place n arms.domain (stands-left nodes n first second it) k)
        (value-set p place (n + set_width arms.domain) arms.codomain (subst (λ m. Stands nodes m second) size (stands-right nodes n first second it)) k))

    value-fields : (n : ℕ) (fields : List FieldSet) (label : List ℕ) → Stands nodes n (fields_sets p place n fields) → field_values value (fields_from n fields) label ≡ option_map (set_value p placed) (set_at fields label)
    value-fields n [] label it = refl
    value-fields n (field ∷ rest) label it =
        let first = set_nodes p n (map place field.set) in
        let second = fields_sets p place (n + set_width field.set) rest in
        let size : n + length first ≡ n + set_width field.set = ap (λ k. n + k) (set-length p place n field.set) in
        let here : value (n + length field.set) ≡ set_value p placed field.set = value-set p place n field.set (stands-left nodes n first second it) in
        let later : field_values value (fields_from (n + set_width field.set) rest) label ≡ option_map (set_value p placed) (set_at rest label) =
        value-fields (n + set_width field.set) rest label (subst (λ m. Stands nodes m second) size (stands-right nodes n first second it)) in
        elim (bytes_eq field.label label) as (λ b.
        option_map (λ (i : NodeId). value i.0) (option_map (λ (g : Field). g.node) (cond b (Some (record { label = field.label; node = id (n + length field.set) })) (find (λ (g : Field). bytes_eq g.label label) (fields_from (n + set_width field.set) rest))))
        ≡ option_map (set_value p placed) (option_map (λ (g : FieldSet). g.set) (cond b (Some field) (find (λ (g : FieldSet). bytes_eq g.label label) rest)))) [
          | true ↦ ap Some here
          | false ↦ later
        ]

    value-record : (i n : ℕ) (o : Option (List FieldSet)) → node_at nodes i ≡ record_node p n o → Stands nodes n (record_sets p place n o) → value i ≡ part_value p (option_map (record_value p placed) (option_map set_at o))
    value-record i n None e it = value-none p i e
    value-record i n (Some fields) e it =
        value-rcd v nodes book i (fields_from n fields) e
        ∙ (λ k. predicate.rcd (λ label. value-fields n fields label it k))

    -- the eight nodes of a state
    value-state : (edges m n : ℕ) (h : Head) → Stands nodes m (state_nodes p edges m n h) → Stands nodes n (head_sets p place n h) → value (m + 7) ≡ both p (value edges) (head_value p placed h)
    value-state edges m n h it sets =
        let function = function_sets p place n h.function in
        let fields = record_sets p place (n + function_width h.function) h.fields in
        let size : n + length function ≡ n + function_width h.function = ap (λ k. n + k) (function-length p place n h.function) in
        let one : suc m ≡ m + 1 = omega arith in
        let two : suc (suc m) ≡ m + 2 = omega arith in
        let three : suc (suc (suc m)) ≡ m + 3 = omega arith in
        let four : suc (suc (suc (suc m))) ≡ m + 4 = omega arith in
        let five : suc (suc (suc (suc (suc m)))) ≡ m + 5 = omega arith in
        let six : suc (suc (suc (suc (suc (suc m))))) ≡ m + 6 = omega arith in
        let seven : suc (suc (suc (suc (suc (suc (suc m)))))) ≡ m + 7 = omega arith in
        let is0 = value-bit p m node.Bool predicate.bool h.boolean (value-bool v nodes book m) it.0 in
        let is1 = value-bit p (m + 1) node.Int predicate.int h.integer (value-int v nodes book (m + 1)) (ap (node_at nodes) (sym one) ∙ it.1.0) in
        let is2 = value-function (m + 2) n h.function (ap (node_at nodes) (sym two) ∙ it.1.1.0) (stands-left nodes n function fields sets) in
        let is3 = value-record (m + 3) (n + function_width h.function) h.fields (ap (node_at nodes) (sym three) ∙ it.1.1.1.0) (subst (λ k. Stands nodes k fields) size (stands-right nodes n function fields sets)) in
        let is4 = value-both p (m + 4) (m + 2) (m + 3) (ap (node_at nodes) (sym four) ∙ it.1.1.1.1.0) in
        let is5 = value-both p (m + 5) (m + 1) (m + 4) (ap (node_at nodes) (sym five) ∙ it.1.1.1.1.1.0) in
        let is6 = value-both p (m + 6) m (m + 5) (ap (node_at nodes) (sym six) ∙ it.1.1.1.1.1.1.0) in
        let is7 = value-both p (m + 7) edges (m + 6) (ap (node_at nodes) (sym seven) ∙ it.1.1.1.1.1.1.1.0) in
        is7
        ∙ ap (both p (value edges))
        (is6
        ∙ (λ i. both p (is0 i)
        ((is5
        ∙ (λ j. both p (is1 j)
        ((is4
        ∙ (λ k. both p (is2 k) (is3 k))) j))) i)))

-- Lists of the same members have the same join, and the same meet.
within : {X : Type 0} (f : X → Predicate) (p : Polarity) (xs ys : List X) → ((x : X) → Contains xs x → Contains ys x) → IsInside p (all_of p (map f xs)) (all_of p (map f ys))
within f p xs ys more = all_least f p xs (all_of p (map f ys)) (λ k d low. all_upper f p ys (get_or xs k d) (more (get_or xs k d) (Contains-get_or xs k d low)))

-- The edges at a state are those to its partners.
module _ (a : Automaton) (flows : HasTrueFlows a) (s : ℕ) where
  edge-flow : (p : Polarity) → polarity_at a s ≡ p → (j : ℕ) → IsPartner a s j → Contains a.flows (edge_of p s j)
  edge-flow Positive e j (inl it) = let h : polarity_at a s ≡ Negative = (flows.negative (flow s j) it).polarity in absurd (cc)
  edge-flow Positive e j (inr it) = it
  edge-flow Negative e j (inl it) = it
  edge-flow Negative e j (inr it) = let h : polarity_at a s ≡ Positive = (flows.positive (flow j s) it).polarity in absurd (cc)

  edge-end : (p : Polarity) (j : ℕ) → end_of p (edge_of p s j) ≡ s
  edge-end Positive j = refl
  edge-end Negative j = refl

  flow-edge : (p : Polarity) (f : Flow) → Contains a.flows f → end_of p f ≡ s → (j : ℕ) × IsPartner a s j × (edge_of p s j ≡ f)
  flow-edge Positive f it e = (f.negative.0, inr (subst (λ k. Contains a.flows (flow f.negative.0 k)) e it), ap (λ k. flow f.negative.0 k) (sym e))
  flow-edge Negative f it e = (f.positive.0, inl (subst (λ k. Contains a.flows (flow k f.positive.0)) e it), ap (λ k. flow k f.positive.0) (sym e))

  module _ (partners : List ℕ) (are : (j : ℕ) → Contains partners j ↔ IsPartner a s j) where
    abbrev p : Polarity
    p = polarity_at a s

    edges-in : (f : Flow) → Contains (map (edge_of p s) partners) f → Contains (flows_at a s) f
    edges-in f it =
        let from = Contains-map_back (edge_of p s) partners f it in
        let there : Contains a.flows f = subst (λ (g : Flow). Contains a.flows g) from.2 (edge-flow p refl from.0 ((are from.0).0 from.1)) in
        Contains-filter (λ g. end_of p g == s) a.flows f there (eq-eqb (end_of p f) s (ap (end_of p) (sym from.2) ∙ edge-end p from.0))

    in-edges : (f : Flow) → Contains (flows_at a s) f → Contains (map (edge_of p s) partners) f
    in-edges f it =
        let there : Contains a.flows f = Contains-filtered (λ g. end_of p g == s) a.flows f it in
        let at : end_of p f ≡ s = eqb-true (end_of p f) s (passes-filtered (λ g. end_of p g == s) a.flows f it) in
        let edge = flow-edge p f there at in
        subst (λ (g : Flow). Contains (map (edge_of p s) partners) g) edge.2 (Contains-map (edge_of p s) partners edge.0 ((are edge.0).1 edge.1))

    edges-same : (v : ℕ → Predicate) → all_of p (map v (variables_of a s partners)) ≡ all_of p (map (λ f. v (variable_of (length a.states) f)) (flows_at a s))
    edges-same v =
        let reading : Flow → Predicate = λ f. v (variable_of (length a.states) f) in
        ap (all_of p) (map-map v (λ j. variable_of (length a.states) (edge_of p s j)) partners ∙ sym (map-map reading (edge_of p s) partners))
        ∙ same-inside p (all_of p (map reading (map (edge_of p s) partners))) (all_of p (map reading (flows_at a s)))
        (within reading p (map (edge_of p s) partners) (flows_at a s) edges-in)
        (within reading p (flows_at a s) (map (edge_of p s) partners) in-edges)

-- no two edges have one variable
digits : (n m i j k : ℕ) → i < k → j < k → n * k + i ≡ m * k + j → (n ≡ m) × (i ≡ j)
digits zero zero i j k i-low j-low e = (refl, let h : i ≡ j = omega arith in h)
digits zero (suc m) i j k i-low j-low e = absurd (omega arith)
digits (suc n) zero i j k i-low j-low e = absurd (omega arith)
digits (suc n) (suc m) i j k i-low j-low e =
    let h : n * k + i ≡ m * k + j = omega arith in
    let both = digits n m i j k i-low j-low h in
    (ap suc both.0, both.1)

variables-distinct : (a : Automaton) → HasTrueFlows a → (f g : Flow) → Contains a.flows f → Contains a.flows g → variable_of (length a.states) f ≡ variable_of (length a.states) g → f ≡ g
variables-distinct a flows f g it other e =
    let both = digits f.negative.0 g.negative.0 f.positive.0 g.positive.0 (length a.states) (flows.positive f it).in_range (flows.positive g other).in_range e in
    λ i. flow (both.0 i) (both.1 i)

-- A book is closed where the children of functions and records are there.
children-below : (n i : ℕ) (x : Node) → i < n → IsOrdered i x → HasHeadBelow n x → HasChildrenBelow n x
children-below n i node.Bot low ordered head = tt
children-below n i node.Top low ordered head = tt
children-below n i (node.Var x) low ordered head = tt
children-below n i node.Bool low ordered head = tt
children-below n i node.Int low ordered head = tt
children-below n i (node.Arrow j k) low ordered head = head
children-below n i (node.Rcd fields) low ordered head = head
children-below n i (node.Join j k) low ordered head = let first = ordered.0 in let second = ordered.1 in (omega arith, omega arith)
children-below n i (node.Meet j k) low ordered head = let first = ordered.0 in let second = ordered.1 in (omega arith, omega arith)

closed-book : (nodes : List Node) → IsBook nodes → All (HasHeadBelow (length nodes)) nodes → IsClosedBook nodes
closed-book nodes book heads = record {
  book = book;
  closed = λ k d low. children-below (length nodes) k (get_or nodes k d) low (subst (IsOrdered k) (get_or_default nodes k node.Bot d low) (book k)) (heads k d low);
}

-- The theorem.
module _ (a : Automaton) (closed : IsClosed a) (first : ℕ) (nodes : List Node) (book : IsBook nodes) (laid : IsLaid a first nodes) where
  flows-there : HasTrueFlows a
  flows-there = record { negative = closed.negative; positive = closed.positive }

  place-low : (s : ℕ) → s < length a.states → place_at first s < length nodes
  place-low s low =
      let it = laid.has_states s low in
      let part : List Node = state_nodes (polarity_at a s) (get_or laid.edges s 0) (start_at first s) (laid.sets + width_to a s) (head_at a s) in
      let all : length nodes ≡ length it.front + length (part ++ it.back) = ap length it.is ∙ length-append it.front (part ++ it.back) in
      let rest : length (part ++ it.back) ≡ 8 + length it.back = length-append part it.back in
      let at : length it.front ≡ start_at first s = it.at in
      omega arith

  pub laid_book : IsBookOf a (variable_of (length a.states)) (place_at first) nodes
  laid_book = record {
    closed = closed-book nodes book laid.heads;
    distinct = variables-distinct a flows-there;
    in_range = place-low;
    value = λ v s low.
        let p : Polarity = polarity_at a s in
        let h : Head = head_at a s in
        let e : ℕ = get_or laid.edges s 0 in
        let n : ℕ = laid.sets + width_to a s in
        let it = laid.has_edges s low in
        value-state v nodes book p (place_at first) e (start_at first s) n h
        (stands nodes (start_at first s) (state_nodes p e (start_at first s) n h) (laid.has_states s low))
        (stands nodes n (head_sets p (place_at first) n h) (laid.has_sets s low))
        ∙ (λ i. both p
        ((value-edges v nodes book p it.start e (variables_of a s it.partners) (stands nodes it.start (edge_nodes p it.start (variables_of a s it.partners)) it.part) it.last
        ∙ edges-same a flows-there s it.partners it.are_partners v) i)
        (head_value p (λ j. passes_by v nodes (place_at first j)) h));
  }

-- The scheme over it.
pub laid_scheme : (s : Scheme) → IsScheme s → (first : ℕ) (nodes : List Node) → IsBook nodes → IsLaid s.automaton first nodes
    → (made : SchemeBook) → made.book ≡ nodes → made.env ≡ map (env_node first) s.env → made.root.0 ≡ place_at first s.root.0 → IsSchemeOf s (scheme_in made)
laid_scheme s is first nodes book laid made is-book is-env is-root = record {
  variable = variable_of (length s.automaton.states);
  place = place_at first;
  book = subst (IsBookOf s.automaton (variable_of (length s.automaton.states)) (place_at first)) (sym is-book) (laid_book s.automaton is.automaton first nodes book laid);
  root = is-root;
  env = λ x.
      finmap.get-from_entries nat_cmp_total (map binder_node made.env) x
      ∙ (ap (finmap.find nat_cmp x) (ap (map binder_node) is-env ∙ map-map binder_node (env_node first) s.env)
      ∙ find-entry (place_at first) x s.env);
}
