-- The book of a type is a layout of the automaton that is read from it: its tops are the places, each with the atoms of its layer.
--     has_tops                what the automaton of a book has of its tops
--     shown_variable, variable_shown      a top shows the variables among its atoms
--     read_layout, read_variables
use Rattle.std.proofs.Common.{◌≡◌, ◌⊎◌, inl, inr, ℕ, zero, suc, ◌+◌, ◌-◌, ◌<◌, Bool, true, false, List, [], ◌∷◌, ◌++◌, map, length, Contains, refl, sym, ap, ◌∙◌, subst, arith, Option, Some, None}
use Rattle.std.specs.Prelude.{IsTrue, All, option_map, filter}
use Rattle.std.proofs.lemmas.List.Elements.{Contains-append_left, Contains-append_right, Contains-append_cases}
use Rattle.mls_book.specs.declared.book.Field.{Field}
use Rattle.mls_book.specs.declared.book.NodeId.{NodeId}
use Rattle.mls_book.specs.declared.book.Node.{Node}
use Rattle.mls_book.specs.declared.book.Node.TheVariants as node
use Rattle.mls_book.specs.Books.{node_at, field_at, IsOrdered, IsClosedBook}
use Rattle.mls_book.proofs.Children.{at_found}
use Rattle.mls_book.proofs.LongerBooks.{renamed_id, field_at-renamed}
use Rattle.mls_automaton.specs.declared.automaton.Arms.{Arms}
use Rattle.mls_automaton.specs.declared.automaton.HeadKind.{HeadKind}
use Rattle.mls_automaton.specs.declared.automaton.HeadKind.TheVariants as kind
use Rattle.mls_automaton.specs.declared.automaton.Polarity.{Polarity}
use Rattle.mls_automaton.specs.declared.automaton.Polarity.TheVariants.{Positive, Negative}
use Rattle.mls_automaton.specs.Automata.{Automaton, polarity_at, head_at, opposite, HasFlow}
use Rattle.mls_automaton.specs.Heads.{Parts, parts_of, combined, IsSameParts}
use Rattle.mls_automaton.proofs.Lists.{Contains-here, Contains-filter, Contains-filtered, passes-filtered, Contains-map, Contains-map_back}
use Rattle.mls_scheme.specs.ReadAutomata.{IsPolarisedNode, IsPolarised, atoms_step, atoms_below, atoms, atom_parts, HasVariable, AreChildren, AreTops, IsReadAutomaton}
use Rattle.mls_scheme.proofs.Atoms.{atoms-are}
use Rattle.mls_flow.specs.Simulations.{IsSetWithin, IsFunctionWithin, IsFieldWithin, IsRecordWithin, IsHeadWithin}
use Rattle.mls_flow.proofs.HeadsWithin.{Same, within-trans, within-combined, within-same}
use Rattle.mls_deriv.specs.Steps.{raised, HasFrom}
use Rattle.mls_layout.specs.Trees.{none_node, two_node, HasOnly, member, none, two, HasMember, here, first, second, IsTree}
use Rattle.mls_layout.specs.Heads.{IsFieldAt, IsKindAt, HasSigns}
use Rattle.mls_layout.specs.Uses.{Shows, IsNameLayout}
use Rattle.mls_layout.proofs.WorkedParts.{contains_one, set_tree}

-- an atom that gives a head, and one that is a variable
abbrev pub is_part : Node → Bool
is_part node.Bool = true
is_part node.Int = true
is_part (node.Arrow j k) = true
is_part (node.Rcd fields) = true
is_part _ = false

abbrev pub is_variable : Node → Bool
is_variable (node.Var x) = true
is_variable _ = false

-- the states that an atom's head names have the signs of their places
one_sign : (sign : ℕ → Polarity) (p q : Polarity) (j s : ℕ) → sign j ≡ q → q ≡ p → Contains (j ∷ []) s → sign s ≡ p
one_sign sign p q j s is same there = subst (λ z. sign z ≡ p) (contains_one j s there) (is ∙ same)

atom_signs : (sign : ℕ → Polarity) (p : Polarity) (i : ℕ) (x : Node) → IsPolarisedNode sign i x → sign i ≡ p → HasSigns sign p (atom_parts x)
atom_signs sign p i (node.Arrow j k) is same = record {
  domain = λ arms e s there. let arms_are : record { domain = j.0 ∷ []; codomain = k.0 ∷ [] } ≡ arms = cc in one_sign sign (opposite p) (opposite (sign i)) j.0 s is.0 (ap opposite same) (subst (λ (z : Arms). Contains z.domain s) (sym arms_are) there);
  codomain = λ arms e s there. let arms_are : record { domain = j.0 ∷ []; codomain = k.0 ∷ [] } ≡ arms = cc in one_sign sign p (sign i) k.0 s is.1 same (subst (λ (z : Arms). Contains z.codomain s) (sym arms_are) there);
  field = λ sets e label set found s there. absurd (cc);
}
atom_signs sign p i (node.Rcd fields) is same = record {
  domain = λ arms e s there. absurd (cc);
  codomain = λ arms e s there. absurd (cc);
  field =
      λ sets e label set found s there.
      let sets_are : (λ (label : List ℕ). option_map (λ (id : NodeId). id.0 ∷ []) (field_at label fields)) ≡ sets = cc in
      go label set s there (field_at label fields) refl ((λ k. sets_are k label) ∙ found);
}
  where
    go : (label set : List ℕ) (s : ℕ) → Contains set s → (o : Option NodeId) → field_at label fields ≡ o → option_map (λ (id : NodeId). id.0 ∷ []) o ≡ Some set → sign s ≡ p
    go label set s there None e found = absurd (cc)
    go label set s there (Some id) e found =
        let set_is : id.0 ∷ [] ≡ set = cc in
        one_sign sign p (sign i) id.0 s (at_found (λ k. sign k ≡ sign i) label fields is id e) same (subst (λ (l : List ℕ). Contains l s) (sym set_is) there)
atom_signs sign p i node.Bot is same = record { domain = λ arms e s there. absurd (cc); codomain = λ arms e s there. absurd (cc); field = λ sets e label set found s there. absurd (cc) }
atom_signs sign p i node.Top is same = record { domain = λ arms e s there. absurd (cc); codomain = λ arms e s there. absurd (cc); field = λ sets e label set found s there. absurd (cc) }
atom_signs sign p i (node.Var x) is same = record { domain = λ arms e s there. absurd (cc); codomain = λ arms e s there. absurd (cc); field = λ sets e label set found s there. absurd (cc) }
atom_signs sign p i node.Bool is same = record { domain = λ arms e s there. absurd (cc); codomain = λ arms e s there. absurd (cc); field = λ sets e label set found s there. absurd (cc) }
atom_signs sign p i node.Int is same = record { domain = λ arms e s there. absurd (cc); codomain = λ arms e s there. absurd (cc); field = λ sets e label set found s there. absurd (cc) }
atom_signs sign p i (node.Join j k) is same = record { domain = λ arms e s there. absurd (cc); codomain = λ arms e s there. absurd (cc); field = λ sets e label set found s there. absurd (cc) }
atom_signs sign p i (node.Meet j k) is same = record { domain = λ arms e s there. absurd (cc); codomain = λ arms e s there. absurd (cc); field = λ sets e label set found s there. absurd (cc) }

-- where an atom's head lies within another and its children are such, they are such there
module _ (Q : ℕ → Type 0) (R : ℕ → ℕ → Type 0) where
  abbrev Both : ℕ → ℕ → Type 0
  Both x y = Q x × R x y

  one_within : (j : ℕ) (ys : List ℕ) → Q j → IsSetWithin R (j ∷ []) ys → IsSetWithin Both (j ∷ []) ys
  one_within j ys it within x there =
      let found = within x there in
      (found.0, found.1, (subst Q (contains_one j x there) it, found.2))

  arrow_within : (j k : ℕ) (o : Option Arms) → Q j → Q k → IsFunctionWithin R (Some (record { domain = j ∷ []; codomain = k ∷ [] })) o → IsFunctionWithin Both (Some (record { domain = j ∷ []; codomain = k ∷ [] })) o
  arrow_within j k None q r within = absurd within
  arrow_within j k (Some other) q r within = (one_within j other.domain q within.0, one_within k other.codomain r within.1)

  field_within : (p : Polarity) (o : Option NodeId) (y : Option (List ℕ)) → ((id : NodeId) → o ≡ Some id → Q id.0)
      → IsFieldWithin R p (option_map (λ (id : NodeId). id.0 ∷ []) o) y → IsFieldWithin Both p (option_map (λ (id : NodeId). id.0 ∷ []) o) y
  field_within Positive None None q within = tt
  field_within Negative None None q within = tt
  field_within Positive None (Some ys) q within = absurd within
  field_within Negative None (Some ys) q within = tt
  field_within Positive (Some id) None q within = tt
  field_within Negative (Some id) None q within = absurd within
  field_within Positive (Some id) (Some ys) q within = one_within id.0 ys (q id refl) within
  field_within Negative (Some id) (Some ys) q within = one_within id.0 ys (q id refl) within

  fields_within : (p : Polarity) (fields : List Field) (o : Option (List ℕ → Option (List ℕ))) → All (λ field. Q field.node.0) fields
      → IsRecordWithin R p (Some (λ label. option_map (λ (id : NodeId). id.0 ∷ []) (field_at label fields))) o → IsRecordWithin Both p (Some (λ label. option_map (λ (id : NodeId). id.0 ∷ []) (field_at label fields))) o
  fields_within p fields None q within = absurd within
  fields_within p fields (Some others) q within = λ label. field_within p (field_at label fields) (others label) (λ id e. at_found Q label fields q id e) (within label)

  children_within : (p : Polarity) (x : Node) (k : Parts) → AreChildren Q x → IsHeadWithin R p (atom_parts x) k → IsHeadWithin Both p (atom_parts x) k
  children_within p node.Bot k q within = record { boolean = within.boolean; integer = within.integer; function = tt; fields = tt }
  children_within p node.Top k q within = record { boolean = within.boolean; integer = within.integer; function = tt; fields = tt }
  children_within p (node.Var x) k q within = record { boolean = within.boolean; integer = within.integer; function = tt; fields = tt }
  children_within p node.Bool k q within = record { boolean = within.boolean; integer = within.integer; function = tt; fields = tt }
  children_within p node.Int k q within = record { boolean = within.boolean; integer = within.integer; function = tt; fields = tt }
  children_within p (node.Arrow i j) k q within = record { boolean = within.boolean; integer = within.integer; function = arrow_within i.0 j.0 k.function q.0 q.1 within.function; fields = tt }
  children_within p (node.Rcd fields) k q within = record { boolean = within.boolean; integer = within.integer; function = tt; fields = fields_within p fields k.fields q within.fields }
  children_within p (node.Join i j) k q within = record { boolean = within.boolean; integer = within.integer; function = tt; fields = tt }
  children_within p (node.Meet i j) k q within = record { boolean = within.boolean; integer = within.integer; function = tt; fields = tt }

unraised : (n : ℕ) (x : Node) (v : ℕ) → raised n x ≡ node.Var v → x ≡ node.Var v
unraised n node.Bot v e = absurd (cc)
unraised n node.Top v e = absurd (cc)
unraised n (node.Var w) v e = let same : w ≡ v = cc in ap node.Var same
unraised n node.Bool v e = absurd (cc)
unraised n node.Int v e = absurd (cc)
unraised n (node.Arrow j k) v e = absurd (cc)
unraised n (node.Rcd fields) v e = absurd (cc)
unraised n (node.Join j k) v e = absurd (cc)
unraised n (node.Meet j k) v e = absurd (cc)

-- the book of the type stands among the nodes from n on
module _ (book : List Node) (n : ℕ) (nodes : List Node) (from : HasFrom book n nodes) (closed : IsClosedBook nodes) (sign : ℕ → Polarity) (polarised : IsPolarised sign nodes)
    (root : ℕ) (is_top : ℕ → Bool) (tops : AreTops nodes root is_top) where
  abbrev pub IsTop : ℕ → Type 0
  IsTop s = IsTrue (is_top s)

  abbrev pub raised_place : ℕ → ℕ
  raised_place s = n + s

  abbrev pub part_test : ℕ → Bool
  part_test j = is_part (node_at nodes j)

  abbrev pub variable_test : ℕ → Bool
  variable_test j = is_variable (node_at nodes j)

  abbrev pub top_parts : ℕ → List ℕ
  top_parts s = map raised_place (filter part_test (atoms nodes s))

  abbrev pub top_variables : ℕ → List ℕ
  top_variables s = map raised_place (filter variable_test (atoms nodes s))

  -- an atom of a top, at its node
  pub record IsAtomAt (test : ℕ → Bool) (s i : ℕ) : Type 0 where
    pub atom : ℕ
    pub there : Contains (atoms nodes s) atom
    pub place : n + atom ≡ i
    pub passes : test atom ≡ true
    pub in_range : atom < length nodes
    pub polarity : sign atom ≡ sign s

  pub atom_at : (test : ℕ → Bool) (s i : ℕ) → IsTop s → Contains (map raised_place (filter test (atoms nodes s))) i → IsAtomAt test s i
  atom_at test s i top it =
      let back = Contains-map_back raised_place (filter test (atoms nodes s)) i it in
      let there = Contains-filtered test (atoms nodes s) back.0 back.1 in
      let of = atoms-are sign nodes closed polarised (suc s) s (tops.low s top) back.0 there in
      record { atom = back.0; there = there; place = back.2; passes = passes-filtered test (atoms nodes s) back.0 back.1; in_range = of.in_range; polarity = of.polarity }

  -- the head of the node of a part
  abbrev own : ℕ → ℕ → Parts
  own s i = atom_parts (node_at nodes (i - n))

  own_is : (s i : ℕ) (it : IsAtomAt part_test s i) → own s i ≡ atom_parts (node_at nodes it.atom)
  own_is s i it = let same : i - n ≡ it.atom = omega (arith, it.place) in ap (λ j. atom_parts (node_at nodes j)) same

  field_tree : (p : Polarity) (o : Option NodeId) → IsFieldAt book raised_place p (option_map (λ (id : NodeId). id.0 ∷ []) o) (option_map (renamed_id raised_place) o)
  field_tree p None = tt
  field_tree p (Some id) = set_tree book p raised_place id.0

  atom_kind : (p : Polarity) (j : ℕ) (x : Node) → node_at book (n + j) ≡ raised n x → is_part x ≡ true → (k : HeadKind) × IsKindAt book raised_place p (atom_parts x) k (n + j)
  atom_kind p j node.Bool e passed = (kind.Bool, (refl, e))
  atom_kind p j node.Int e passed = (kind.Int, (refl, e))
  atom_kind p j (node.Arrow k l) e passed = (
    kind.Function,
    record {
      arms = record { domain = k.0 ∷ []; codomain = l.0 ∷ [] };
      has = refl;
      from = record { 0 = n + k.0 };
      to = record { 0 = n + l.0 };
      node = e;
      domain = set_tree book (opposite p) raised_place k.0;
      codomain = set_tree book p raised_place l.0;
    },
  )
  atom_kind p j (node.Rcd fields) e passed = (
    kind.Rcd,
    record {
      sets = λ label. option_map (λ (id : NodeId). id.0 ∷ []) (field_at label fields);
      has = refl;
      fields = map (λ (field : Field). record { label = field.label; node = record { 0 = n + field.node.0 } }) fields;
      node = e;
      field =
          λ label.
          subst (IsFieldAt book raised_place p (option_map (λ (id : NodeId). id.0 ∷ []) (field_at label fields))) (sym (field_at-renamed raised_place label fields)) (field_tree p (field_at label fields));
    },
  )
  atom_kind p j node.Bot e passed = absurd (cc)
  atom_kind p j node.Top e passed = absurd (cc)
  atom_kind p j (node.Var x) e passed = absurd (cc)
  atom_kind p j (node.Join k l) e passed = absurd (cc)
  atom_kind p j (node.Meet k l) e passed = absurd (cc)

  pub a_variable : (j : ℕ) (x : Node) → node_at book (n + j) ≡ raised n x → is_variable x ≡ true → (v : ℕ) × (node_at book (n + j) ≡ node.Var v)
  a_variable j (node.Var x) e passed = (x, e)
  a_variable j node.Bot e passed = absurd (cc)
  a_variable j node.Top e passed = absurd (cc)
  a_variable j node.Bool e passed = absurd (cc)
  a_variable j node.Int e passed = absurd (cc)
  a_variable j (node.Arrow k l) e passed = absurd (cc)
  a_variable j (node.Rcd fields) e passed = absurd (cc)
  a_variable j (node.Join k l) e passed = absurd (cc)
  a_variable j (node.Meet k l) e passed = absurd (cc)

  -- what an automaton has of the tops: the heads of their layers, and an edge wherever two have a variable in common
  pub record HasTops (b : Automaton) : Type 0 where
    pub heads : (i : ℕ) → IsTop i → IsSameParts (parts_of (head_at b i)) (combined (sign i) (map (λ j. atom_parts (node_at nodes j)) (atoms nodes i)))
    pub all_flows : (l m x : ℕ) → IsTop l → IsTop m → sign l ≡ Negative → sign m ≡ Positive → HasVariable nodes l x → HasVariable nodes m x → HasFlow b l m

  -- that of the book has this
  pub has_tops : (b : Automaton) → IsReadAutomaton sign is_top nodes b → HasTops b
  has_tops b read = record { heads = read.heads; all_flows = read.all_flows }

  -- what a copy of the automaton has, of the states that are read
  pub record IsTopCopied (b a : Automaton) (copy : ℕ → ℕ) : Type 0 where
    pub polarity : (s : ℕ) → IsTop s → polarity_at a (copy s) ≡ sign s
    pub heads : (s : ℕ) → IsTop s → IsHeadWithin (λ x y. copy x ≡ y) (sign s) (parts_of (head_at b s)) (parts_of (head_at a (copy s)))
    pub flows : (l m : ℕ) → IsTop l → IsTop m → HasFlow b l m → HasFlow a (copy l) (copy m)

  part_within : (b a : Automaton) (copy : ℕ → ℕ) → HasTops b → IsTopCopied b a copy → (s j : ℕ) → IsTop s → Contains (atoms nodes s) j
      → IsHeadWithin (λ x y. IsTop x × (copy x ≡ y)) (sign s) (atom_parts (node_at nodes j)) (parts_of (head_at a (copy s)))
  part_within b a copy read copied s j top there =
      let p = sign s in
      let all : Parts = combined p (map (λ j. atom_parts (node_at nodes j)) (atoms nodes s)) in
      children_within IsTop (λ x y. copy x ≡ y) p (node_at nodes j) (parts_of (head_at a (copy s))) (tops.next s j top there)
      (within-trans Same (λ x y. copy x ≡ y) (λ x y. copy x ≡ y) (λ x y z e h. subst (λ w. copy w ≡ z) (sym e) h) p (atom_parts (node_at nodes j)) (parts_of (head_at b s)) (parts_of (head_at a (copy s)))
      (within-trans Same Same Same (λ x y z e e'. e ∙ e') p (atom_parts (node_at nodes j)) all (parts_of (head_at b s))
      (within-combined p (λ j. atom_parts (node_at nodes j)) (atoms nodes s) j there)
      (within-same p (parts_of (head_at b s)) all (read.heads s top)))
      (copied.heads s top))

  module _ (s : ℕ) (top : IsTop s) where
    abbrev Leaf : ℕ → Type 0
    Leaf k = Contains (top_parts s) k ⊎ Contains (top_variables s) k

    part_leaf : (j : ℕ) → Contains (atoms nodes s) j → part_test j ≡ true → Leaf (n + j)
    part_leaf j there passed = inl (Contains-map raised_place (filter part_test (atoms nodes s)) j (Contains-filter part_test (atoms nodes s) j there passed))

    variable_leaf : (j : ℕ) → Contains (atoms nodes s) j → variable_test j ≡ true → Leaf (n + j)
    variable_leaf j there passed = inr (Contains-map raised_place (filter variable_test (atoms nodes s)) j (Contains-filter variable_test (atoms nodes s) j there passed))

    -- the atoms below a node are atoms of the layer
    abbrev IsBelow : ℕ → ℕ → Type 0
    IsBelow d i = (j : ℕ) → Contains (atoms_below nodes d i) j → Contains (atoms nodes s) j

    abbrev Only : Polarity → ℕ → Type 0
    Only p d = (i : ℕ) → i < d → i < length nodes → sign i ≡ p → IsBelow d i → HasOnly book p Leaf (n + i)

    only : (p : Polarity) (d : ℕ) → Only p d
    only p zero i low in_range is below = absurd (omega arith)
    only p (suc d) i low in_range is below = go (node_at nodes i) refl (polarised i in_range) (closed.book i) below (only p d)
      where
        at : (x : Node) → node_at nodes i ≡ x → node_at book (n + i) ≡ raised n x
        at x e = from.nodes i in_range ∙ ap (raised n) e

        self : Contains (i ∷ []) i
        self = Contains-here i []

        two_of : (x : Node) → node_at nodes i ≡ x → (k l : NodeId) → raised n x ≡ two_node p (record { 0 = n + k.0 }) (record { 0 = n + l.0 }) → k.0 < i → l.0 < i → sign k.0 ≡ p → sign l.0 ≡ p
            → ((j : ℕ) → Contains (atoms_below nodes d k.0 ++ atoms_below nodes d l.0) j → Contains (atoms nodes s) j) → Only p d → HasOnly book p Leaf (n + i)
        two_of x e k l is_two low_k low_l is_k is_l below earlier =
            two (record { 0 = n + k.0 }) (record { 0 = n + l.0 }) (at x e ∙ is_two)
            (earlier k.0 (omega arith) (omega arith) is_k (λ j there. below j (Contains-append_left (atoms_below nodes d k.0) (atoms_below nodes d l.0) j there)))
            (earlier l.0 (omega arith) (omega arith) is_l (λ j there. below j (Contains-append_right (atoms_below nodes d k.0) (atoms_below nodes d l.0) j there)))

        go : (x : Node) → node_at nodes i ≡ x → IsPolarisedNode sign i (node_at nodes i) → IsOrdered i (node_at nodes i)
            → ((j : ℕ) → Contains (atoms_step (atoms_below nodes d) i (node_at nodes i)) j → Contains (atoms nodes s) j) → Only p d → HasOnly book p Leaf (n + i)
        go node.Bot e signs order below earlier =
            let positive : sign i ≡ Positive = subst (IsPolarisedNode sign i) e signs in
            none (at node.Bot e ∙ ap none_node (sym positive ∙ is))
        go node.Top e signs order below earlier =
            let negative : sign i ≡ Negative = subst (IsPolarisedNode sign i) e signs in
            none (at node.Top e ∙ ap none_node (sym negative ∙ is))
        go (node.Var x) e signs order below earlier = member (variable_leaf i (below i (subst (λ v. Contains (atoms_step (atoms_below nodes d) i v) i) (sym e) self)) (ap is_variable e))
        go node.Bool e signs order below earlier = member (part_leaf i (below i (subst (λ v. Contains (atoms_step (atoms_below nodes d) i v) i) (sym e) self)) (ap is_part e))
        go node.Int e signs order below earlier = member (part_leaf i (below i (subst (λ v. Contains (atoms_step (atoms_below nodes d) i v) i) (sym e) self)) (ap is_part e))
        go (node.Arrow k l) e signs order below earlier = member (part_leaf i (below i (subst (λ v. Contains (atoms_step (atoms_below nodes d) i v) i) (sym e) self)) (ap is_part e))
        go (node.Rcd fields) e signs order below earlier = member (part_leaf i (below i (subst (λ v. Contains (atoms_step (atoms_below nodes d) i v) i) (sym e) self)) (ap is_part e))
        go (node.Join k l) e signs order below earlier =
            let it : (sign i ≡ Positive) × (sign k.0 ≡ Positive) × (sign l.0 ≡ Positive) = subst (IsPolarisedNode sign i) e signs in
            let lower : (k.0 < i) × (l.0 < i) = subst (IsOrdered i) e order in
            let same : Positive ≡ p = sym it.0 ∙ is in
            two_of (node.Join k l) e k l (ap (λ q. two_node q (record { 0 = n + k.0 }) (record { 0 = n + l.0 })) same) lower.0 lower.1 (it.1 ∙ same) (it.2 ∙ same)
            (subst (λ v. (j : ℕ) → Contains (atoms_step (atoms_below nodes d) i v) j → Contains (atoms nodes s) j) e below) earlier
        go (node.Meet k l) e signs order below earlier =
            let it : (sign i ≡ Negative) × (sign k.0 ≡ Negative) × (sign l.0 ≡ Negative) = subst (IsPolarisedNode sign i) e signs in
            let lower : (k.0 < i) × (l.0 < i) = subst (IsOrdered i) e order in
            let same : Negative ≡ p = sym it.0 ∙ is in
            two_of (node.Meet k l) e k l (ap (λ q. two_node q (record { 0 = n + k.0 }) (record { 0 = n + l.0 })) same) lower.0 lower.1 (it.1 ∙ same) (it.2 ∙ same)
            (subst (λ v. (j : ℕ) → Contains (atoms_step (atoms_below nodes d) i v) j → Contains (atoms nodes s) j) e below) earlier

    abbrev Each : Polarity → ℕ → Type 0
    Each p d = (i : ℕ) → i < d → i < length nodes → sign i ≡ p → (j : ℕ) → Contains (atoms_below nodes d i) j → HasMember book p (n + j) (n + i)

    each_atom : (p : Polarity) (d : ℕ) → Each p d
    each_atom p zero i low in_range is j there = absurd (omega arith)
    each_atom p (suc d) i low in_range is j there = go (node_at nodes i) refl (polarised i in_range) (closed.book i) there (each_atom p d)
      where
        at : (x : Node) → node_at nodes i ≡ x → node_at book (n + i) ≡ raised n x
        at x e = from.nodes i in_range ∙ ap (raised n) e

        alone : Contains (i ∷ []) j → HasMember book p (n + j) (n + i)
        alone it = here (ap raised_place (contains_one i j it))

        two_of : (x : Node) → node_at nodes i ≡ x → (k l : NodeId) → raised n x ≡ two_node p (record { 0 = n + k.0 }) (record { 0 = n + l.0 }) → k.0 < i → l.0 < i → sign k.0 ≡ p → sign l.0 ≡ p
            → Contains (atoms_below nodes d k.0 ++ atoms_below nodes d l.0) j → Each p d → HasMember book p (n + j) (n + i)
        two_of x e k l is_two low_k low_l is_k is_l there earlier =
            elim (Contains-append_cases (atoms_below nodes d k.0) (atoms_below nodes d l.0) j there) [
              | inl left ↦ first (record { 0 = n + k.0 }) (record { 0 = n + l.0 }) (at x e ∙ is_two) (earlier k.0 (omega arith) (omega arith) is_k j left)
              | inr right ↦ second (record { 0 = n + k.0 }) (record { 0 = n + l.0 }) (at x e ∙ is_two) (earlier l.0 (omega arith) (omega arith) is_l j right)
            ]

        go : (x : Node) → node_at nodes i ≡ x → IsPolarisedNode sign i (node_at nodes i) → IsOrdered i (node_at nodes i)
            → Contains (atoms_step (atoms_below nodes d) i (node_at nodes i)) j → Each p d → HasMember book p (n + j) (n + i)
        go node.Bot e signs order there earlier = alone (subst (λ v. Contains (atoms_step (atoms_below nodes d) i v) j) e there)
        go node.Top e signs order there earlier = alone (subst (λ v. Contains (atoms_step (atoms_below nodes d) i v) j) e there)
        go (node.Var x) e signs order there earlier = alone (subst (λ v. Contains (atoms_step (atoms_below nodes d) i v) j) e there)
        go node.Bool e signs order there earlier = alone (subst (λ v. Contains (atoms_step (atoms_below nodes d) i v) j) e there)
        go node.Int e signs order there earlier = alone (subst (λ v. Contains (atoms_step (atoms_below nodes d) i v) j) e there)
        go (node.Arrow k l) e signs order there earlier = alone (subst (λ v. Contains (atoms_step (atoms_below nodes d) i v) j) e there)
        go (node.Rcd fields) e signs order there earlier = alone (subst (λ v. Contains (atoms_step (atoms_below nodes d) i v) j) e there)
        go (node.Join k l) e signs order there earlier =
            let it : (sign i ≡ Positive) × (sign k.0 ≡ Positive) × (sign l.0 ≡ Positive) = subst (IsPolarisedNode sign i) e signs in
            let lower : (k.0 < i) × (l.0 < i) = subst (IsOrdered i) e order in
            let same : Positive ≡ p = sym it.0 ∙ is in
            two_of (node.Join k l) e k l (ap (λ q. two_node q (record { 0 = n + k.0 }) (record { 0 = n + l.0 })) same) lower.0 lower.1 (it.1 ∙ same) (it.2 ∙ same)
            (subst (λ v. Contains (atoms_step (atoms_below nodes d) i v) j) e there) earlier
        go (node.Meet k l) e signs order there earlier =
            let it : (sign i ≡ Negative) × (sign k.0 ≡ Negative) × (sign l.0 ≡ Negative) = subst (IsPolarisedNode sign i) e signs in
            let lower : (k.0 < i) × (l.0 < i) = subst (IsOrdered i) e order in
            let same : Negative ≡ p = sym it.0 ∙ is in
            two_of (node.Meet k l) e k l (ap (λ q. two_node q (record { 0 = n + k.0 }) (record { 0 = n + l.0 })) same) lower.0 lower.1 (it.1 ∙ same) (it.2 ∙ same)
            (subst (λ v. Contains (atoms_step (atoms_below nodes d) i v) j) e there) earlier

    there_at : (test : ℕ → Bool) (k : ℕ) → IsAtomAt test s k → HasMember book (sign s) k (n + s)
    there_at test k it = subst (λ z. HasMember book (sign s) z (n + s)) it.place (each_atom (sign s) (suc s) s (omega arith) (tops.low s top) refl it.atom it.there)

    pub top_tree : IsTree book (sign s) Leaf (raised_place s)
    top_tree = record {
      only = only (sign s) (suc s) s (omega arith) (tops.low s top) refl (λ j there. there);
      each = λ k leaf. elim leaf [ inl it ↦ there_at part_test k (atom_at part_test s k top it) | inr it ↦ there_at variable_test k (atom_at variable_test s k top it) ];
    }

  -- a variable that a top shows is one of its atoms
  pub shown_variable : (s x : ℕ) → IsTop s → Shows book top_variables s x → HasVariable nodes s x
  shown_variable s x top (i, there, is) =
      let it = atom_at variable_test s i top there in
      let at : raised n (node_at nodes it.atom) ≡ node.Var x = sym (from.nodes it.atom it.in_range) ∙ (ap (node_at book) it.place ∙ is) in
      (it.atom, it.there, unraised n (node_at nodes it.atom) x at)

  -- and a variable among its atoms is shown
  pub variable_shown : (s x : ℕ) → IsTop s → HasVariable nodes s x → Shows book top_variables s x
  variable_shown s x top (j, there, is) =
      let of = atoms-are sign nodes closed polarised (suc s) s (tops.low s top) j there in (
        n + j,
        Contains-map raised_place (filter variable_test (atoms nodes s)) j (Contains-filter variable_test (atoms nodes s) j there (ap is_variable is)),
        from.nodes j of.in_range ∙ ap (raised n) is,
      )

  pub read_layout : (b a : Automaton) (copy : ℕ → ℕ) → HasTops b → IsTopCopied b a copy → IsNameLayout book a IsTop sign raised_place copy
  read_layout b a copy read copied = record {
    parts = top_parts;
    variables = top_variables;
    own = own;
    polarity = copied.polarity;
    signs =
        λ s i top there.
        let it = atom_at part_test s i top there in
        subst (HasSigns sign (sign s)) (sym (own_is s i it)) (atom_signs sign (sign s) it.atom (node_at nodes it.atom) (polarised it.atom it.in_range) it.polarity);
    within =
        λ s i top there.
        let it = atom_at part_test s i top there in
        subst (λ h. IsHeadWithin (λ x y. IsTop x × (copy x ≡ y)) (sign s) h (parts_of (head_at a (copy s)))) (sym (own_is s i it)) (part_within b a copy read copied s it.atom top it.there);
    heads =
        λ s i top there.
        let it = atom_at part_test s i top there in
        let found = atom_kind (sign s) it.atom (node_at nodes it.atom) (from.nodes it.atom it.in_range) it.passes in (
          found.0,
          subst (λ z. IsKindAt book raised_place (sign s) (own s i) found.0 z) it.place
              (subst (λ h. IsKindAt book raised_place (sign s) h found.0 (n + it.atom)) (sym (own_is s i it)) found.1),
        );
    are_variables =
        λ s i top there.
        let it = atom_at variable_test s i top there in
        let found = a_variable it.atom (node_at nodes it.atom) (from.nodes it.atom it.in_range) it.passes in
        (found.0, subst (λ z. node_at book z ≡ node.Var found.0) it.place found.1);
    tree = λ s top. top_tree s top;
    flows =
        λ l m x top_l top_m is_l is_m shows shows'.
        copied.flows l m top_l top_m (read.all_flows l m x top_l top_m is_l is_m (shown_variable l x top_l shows) (shown_variable m x top_m shows'));
  }

  -- the variables of a place are those among its atoms
  pub read_variables : (b a : Automaton) (copy : ℕ → ℕ) (read : HasTops b) (copied : IsTopCopied b a copy) → (read_layout b a copy read copied).variables ≡ top_variables
  unfolding read_layout
  read_variables b a copy read copied = refl
