-- The lines of the nodes of a part, one node after the other.
--     keeps_itself, keeps_on  what was laid out stays
--     own_parts_kept          so own nodes are parts of heads
--     writes_none, writes_next, writes_at     no node, and one node more
--     writes_part             the nodes of a part
use Rattle.std.proofs.Common.{◌≡◌, ◌⊎◌, inl, inr, ℕ, ◌<◌, ◌+◌, take, get_or, Bool, true, false, cond, List, [], ◌∷◌, ◌++◌, length, refl, sym, ap, ◌∙◌, subst, arith, append-nil, append_assoc, Contains, Option, Some, None}
use Rattle.std.specs.Prelude.{IsSome, option_map}
use Rattle.std.specs.List.{flat_map}
use Rattle.std.specs.BTreeMap.{BTreeMap, Updates, get}
use Rattle.std.specs.Ordering.{nat_cmp, is_eq}
use Rattle.std.proofs.lemmas.Grind.{flat_map-append}
use Rattle.std.proofs.lemmas.List.{take_more}
use Rattle.std.proofs.lemmas.List.Elements.{Contains-append_left, Contains-get_or, Contains-push, Contains-push_cases}
use Rattle.mls_automaton.proofs.Lists.{Contains-cases, Contains-here, Contains-later}
use Rattle.mls_book.specs.declared.book.Node.{Node}
use Rattle.mls_book.specs.declared.book.Node.TheVariants as node
use Rattle.mls_book.specs.declared.book.NodeId.{NodeId}
use Rattle.mls_book.specs.Books.{node_at, IsClosedBook}
use Rattle.mls_automaton.specs.Automata.{Automaton}
use Rattle.mls_term.specs.declared.term.TermForm.{TermForm}
use Rattle.mls_term.specs.declared.term.TermForm.TheVariants as form
use Rattle.mls_term.specs.declared.term.TermNode.{TermNode}
use Rattle.mls_deriv.specs.declared.claim.Put.{Put}
use Rattle.mls_deriv.specs.declared.derivation.StepLine.{StepLine}
use Rattle.mls_deriv.specs.Sections.{steps_of}
use Rattle.mls_deriv.specs.Steps.{form_at, IsRising}
use Rattle.mls_layout.specs.declared.layout.LaidOut.{LaidOut}
use Rattle.mls_layout.specs.declared.layout.Places.{Places}
use Rattle.mls_layout.specs.declared.layout.numbers.Owned.{Owned}
use Rattle.mls_layout.specs.LaidOut.{place_of}
use Rattle.mls_layout.specs.Parts.{Constraint}
use Rattle.mls_layout.specs.Plans.{PlannedLine, planned_steps}
use Rattle.mls_layout.proofs.KeySets.{number_same, number_self}
use Rattle.mls_parts.specs.declared.pose.Posing.{Posing}
use Rattle.mls_parts.specs.Posings.{binder_in, root_in}
use Rattle.mls_parts.proofs.PosedParts.{not_before}
use Rattle.mls_automaton.specs.declared.scheme.Scheme.{Scheme}
use Rattle.mls_lines.specs.declared.known.FirstPart.{FirstPart}
use Rattle.mls_lines.specs.declared.known.GlobalAt.{GlobalAt}
use Rattle.mls_lines.specs.declared.steps.Conclusion as conclusion
use Rattle.mls_lines.specs.declared.steps.Steps.{Steps}
use Rattle.mls_lines.specs.declared.writer.Concluded as written
use Rattle.mls_lines.specs.declared.writer.Concluded.TheVariants.{Step}
use Rattle.mls_lines.specs.declared.writer.Writer as state
use Rattle.mls_lines.specs.Conclusions.{Concluded, a_binder}
use Rattle.mls_lines.specs.NodeLines.{NamesKnown, IsWrittenAs}
use Rattle.mls_lines.specs.Writings.{AreInOrder, AreWrittenBefore, IsBefore, IsPartOf}
use Rattle.mls_lines.specs.Puts.{ArePutsAt}
use Rattle.mls_lines.specs.Stepping.{Adds, AreCounted, Stands}
use Rattle.mls_layout.specs.LaidOut.{IsLonger}
use Rattle.mls_lines.specs.Writer.{concluded_in, concluded_of, HasLowNodes, Lengthens}
use Rattle.mls_lines.specs.PlainLines.{AreConclusionsOf, AreNamesOf, ArePutIn, GoesOn, HasOwnParts, HaveLowFirsts, HaveLowGlobals, HaveLowPlaces, HaveRisingFirsts, IsSound, IsSoundOwn, WritesNode, standing}
use Rattle.mls_parts.specs.PosedGoals.{IsPosedAt}
use Rattle.mls_lines.proofs.Lengthening.{lengthens_itself, lengthens_kept, lengthens_then}
use Rattle.mls_lines.specs.PlainParts.{ArePutInAt, CanWritePart, WritesPart}
use Rattle.mls_lines.proofs.Bringing.{adds_none, adds_steps, adds_then, planned_append}
use Rattle.mls_lines.proofs.GoingOn.{concluded_before}
use Rattle.mls_lines.proofs.JoinedEnvironments.{meet_stays}
use Rattle.mls_lines.proofs.JoinedPuts.{puts_at_kept}
use Rattle.mls_lines.proofs.ToldForms.{told_stays}
use Rattle.mls_lines.proofs.LowNodes.{below_longer, firsts_more, globals_more}
use Rattle.mls_lines.proofs.Stepping.{adds_longer}

some_is : {X : Type 0} {x y : X} → Some x ≡ Some y → x ≡ y
some_is e = cc

-- this value at one number, and the others as they were
abbrev with_at : {X : Type 0} → ℕ → X → (ℕ → X) → ℕ → X
with_at i x f j = cond (is_eq (nat_cmp i j)) x (f j)

at_itself : {X : Type 0} (i : ℕ) (x : X) (f : ℕ → X) → with_at i x f i ≡ x
at_itself i x f = ap (λ b. cond b x (f i)) (number_self i)

at_other : {X : Type 0} (i j : ℕ) (x : X) (f : ℕ → X) → (i ≡ j → ⊥) → with_at i x f j ≡ f j
at_other i j x f other = go (is_eq (nat_cmp i j)) refl
  where
    go : (b : Bool) → is_eq (nat_cmp i j) ≡ b → cond b x (f j) ≡ f j
    go true e = absurd (other (number_same i j e))
    go false e = refl

-- what was laid out stays
pub keeps_on : (old now new : state.Writer) → Lengthens old.laid now.laid → GoesOn now new → Lengthens old.laid new.laid
keeps_on old now new it later =
    lengthens_then old.laid now.laid new.laid it (record { book = (later.more, later.book); places = later.places; own = later.own; boolean = later.boolean; integer = later.integer })

pub own_parts_kept : (old now : state.Writer) (a : Automaton) (parts : ℕ → List ℕ) → Lengthens old.laid now.laid → HasOwnParts old a parts → HasOwnParts now a parts
own_parts_kept old now a parts keeps it = record {
  functions = λ s id found. it.functions s id (subst (λ (o : Owned). get_or o.functions s None ≡ Some id) keeps.own found);
  records = λ s id found. it.records s id (subst (λ (o : Owned). get_or o.records s None ≡ Some id) keeps.own found);
  boolean = λ s has. subst (λ (n : NodeId). Contains (parts s) n.0) (sym keeps.boolean) (it.boolean s has);
  integer = λ s has. subst (λ (n : NodeId). Contains (parts s) n.0) (sym keeps.integer) (it.integer s has);
  is_boolean = stays node.Bool old.laid.boolean now.laid.boolean keeps.boolean (λ no. absurd (cc)) it.is_boolean;
  is_integer = stays node.Int old.laid.integer now.laid.integer keeps.integer (λ no. absurd (cc)) it.is_integer;
}
  where
    stays : (leaf : Node) (before later : NodeId) → later ≡ before → (leaf ≡ node.Bot → ⊥) → node_at old.laid.book before.0 ≡ leaf → node_at now.laid.book later.0 ≡ leaf
    stays leaf before later same other is =
        subst (λ (n : NodeId). node_at now.laid.book n.0 ≡ leaf) (sym same)
        (subst (λ (book : List Node). node_at book before.0 ≡ leaf) (sym keeps.book.1) (meet_stays old.laid.book keeps.book.0 before.0 leaf other is))

-- nodes in order
module _ (steps : ℕ → List StepLine) (plan : ℕ → List PlannedLine) where
  -- each node stands behind the steps with which the part begins
  in_order_begins : (begun : List StepLine) (done : List ℕ) → AreInOrder steps plan begun done → (i : ℕ) → Contains done i → (more : List StepLine) × (steps i ≡ begun ++ more)
  in_order_begins begun [] it i there = let low : there.0 < 0 = there.1 in absurd (omega (arith, low))
  in_order_begins begun (first ∷ done) it i there = elim (Contains-cases first done i there) [
    | inl is ↦ ([], subst (λ j. steps j ≡ begun ++ []) is (it.0 ∙ sym (append-nil begun)))
    | inr later ↦
        (let (more, is) = in_order_begins (begun ++ planned_steps (plan first)) done it.1 i later in
        (planned_steps (plan first) ++ more, is ∙ append_assoc begun (planned_steps (plan first)) more))
  ]

  -- and its lines before the end
  in_order_ends : (begun : List StepLine) (done : List ℕ) → AreInOrder steps plan begun done → (i : ℕ) → Contains done i
      → (more : List StepLine) × (begun ++ planned_steps (flat_map plan done) ≡ (steps i ++ planned_steps (plan i)) ++ more)
  in_order_ends begun [] it i there = let low : there.0 < 0 = there.1 in absurd (omega (arith, low))
  in_order_ends begun (first ∷ done) it i there = elim (Contains-cases first done i there) [
    | inl is ↦ (
      planned_steps (flat_map plan done),
      subst (λ j. begun ++ planned_steps (plan first ++ flat_map plan done) ≡ (steps j ++ planned_steps (plan j)) ++ planned_steps (flat_map plan done)) is
          (split ∙ ap (λ (l : List StepLine). (l ++ planned_steps (plan first)) ++ planned_steps (flat_map plan done)) (sym it.0)),
    )
    | inr later ↦ (let (more, is) = in_order_ends (begun ++ planned_steps (plan first)) done it.1 i later in (more, split ∙ is))
  ]
    where
      split : begun ++ planned_steps (plan first ++ flat_map plan done) ≡ (begun ++ planned_steps (plan first)) ++ planned_steps (flat_map plan done)
      split = ap (λ (l : List StepLine). begun ++ l) (planned_append (plan first) (flat_map plan done)) ∙ sym (append_assoc begun (planned_steps (plan first)) (planned_steps (flat_map plan done)))

  module _ (steps' : ℕ → List StepLine) (plan' : ℕ → List PlannedLine) where
    flat_same : (done : List ℕ) → ((j : ℕ) → Contains done j → plan' j ≡ plan j) → flat_map plan' done ≡ flat_map plan done
    flat_same [] same = refl
    flat_same (first ∷ done) same =
        ap (λ (l : List PlannedLine). l ++ flat_map plan' done) (same first (Contains-here first done))
        ∙ ap (λ (l : List PlannedLine). plan first ++ l) (flat_same done (λ j there. same j (Contains-later first done j there)))

    -- one node more
    in_order_more : (begun : List StepLine) (done : List ℕ) (i : ℕ) → AreInOrder steps plan begun done → ((j : ℕ) → Contains done j → (steps' j ≡ steps j) × (plan' j ≡ plan j))
        → steps' i ≡ begun ++ planned_steps (flat_map plan done) → AreInOrder steps' plan' begun (done ++ i ∷ [])
    in_order_more begun [] i it same is = (is ∙ append-nil begun, tt)
    in_order_more begun (first ∷ done) i it same is = (
      (same first (Contains-here first done)).0 ∙ it.0,
      subst (λ (l : List PlannedLine). AreInOrder steps' plan' (begun ++ planned_steps l) (done ++ i ∷ [])) (sym (same first (Contains-here first done)).1)
          (in_order_more (begun ++ planned_steps (plan first)) done i it.1 (λ j there. same j (Contains-later first done j there))
          (is
          ∙ (ap (λ (l : List StepLine). begun ++ l) (planned_append (plan first) (flat_map plan done)) ∙ sym (append_assoc begun (planned_steps (plan first)) (planned_steps (flat_map plan done)))))),
    )

-- what each part of a node is
parts_before : (IsNode : ℕ → Type 0) (Stands : ℕ → ℕ → Type 0) (i : ℕ) (f : TermForm) → ((m : ℕ) → IsPartOf f m → IsNode m × Stands m i) → AreWrittenBefore IsNode Stands f i
parts_before IsNode Stands i (form.Bound x) each = tt
parts_before IsNode Stands i (form.Inner k) each = tt
parts_before IsNode Stands i (form.Global g) each = tt
parts_before IsNode Stands i (form.Number value) each = tt
parts_before IsNode Stands i (form.Truth value) each = tt
parts_before IsNode Stands i (form.Fun x j) each = each j refl
parts_before IsNode Stands i (form.Apply j k) each = let first = each j (inl refl) in let second = each k (inr refl) in (first.0, first.1, second.0, second.1)
parts_before IsNode Stands i (form.Make parts) each = λ part there. each part.child (part, there, refl)
parts_before IsNode Stands i (form.Project j label) each = each j refl
parts_before IsNode Stands i (form.If j k l) each =
    let first = each j (inl refl) in
    let second = each k (inr (inl refl)) in
    let third = each l (inr (inr refl)) in
    (first.0, first.1, second.0, second.1, third.0, third.1)
parts_before IsNode Stands i (form.Let k j l) each = each l refl
parts_before IsNode Stands i (form.Rec x j) each = each j refl

-- The nodes so far are written: each has its own steps, lines and conclusion.
pub record HaveWritten (globals : BTreeMap ℕ GlobalAt) (firsts : BTreeMap ℕ FirstPart) (lets : BTreeMap ℕ Scheme) (c : Constraint) (p : Posing) (parts : ℕ → List ℕ) (nodes : List TermNode) (old now : state.Writer)
    (done : List ℕ) : Type 0 where
  pub puts : ℕ → Option (List Put)
  pub steps : ℕ → List StepLine
  pub plan : ℕ → List PlannedLine
  pub own : ℕ → Concluded
  pub keeps : Lengthens old.laid now.laid
  pub sound : IsSound now
  pub adds : Adds now.laid.book old.steps now.steps (flat_map plan done)
  pub closed : IsClosedBook old.laid.book → IsClosedBook now.laid.book
  pub puts_are : IsClosedBook old.laid.book → (i : ℕ) (f : TermForm) → Contains done i → form_at nodes i ≡ Some f → ArePutsAt now.laid.book old.laid.places p globals firsts lets i f (puts i)
  pub concluded : (i : ℕ) (o : Concluded) → concluded_in now i ≡ Some o → Contains done i × (own i ≡ o)
  pub in_order : AreInOrder steps plan (steps_of old.steps.lines) done
  pub told : (names : NamesKnown) → AreNamesOf globals firsts names → ArePutInAt puts names done → (of : ℕ → Concluded) → ((m : ℕ) → Contains done m → of m ≡ own m)
      → (i : ℕ) (f : TermForm) → Contains done i → form_at nodes i ≡ Some f
      → IsWrittenAs now.laid.book c (standing old p parts) names of f i (steps i) (plan i) (own i)
  pub before : (i m : ℕ) (f : TermForm) → Contains done i → form_at nodes i ≡ Some f → IsPartOf f m → Contains done m × IsBefore steps plan m i

module _ (globals : BTreeMap ℕ GlobalAt) (firsts : BTreeMap ℕ FirstPart) (lets : BTreeMap ℕ Scheme) (c : Constraint) (p : Posing) (parts : ℕ → List ℕ) (nodes : List TermNode) (old : state.Writer) where
  pub writes_none : AreCounted old.steps → IsClosedBook old.laid.book → HaveLowPlaces (length old.laid.book) old.laid.places → ((i : ℕ) → get nat_cmp old.concluded i ≡ None) → HaveWritten globals firsts lets c p parts nodes old old []
  writes_none counted closed places nothing = record {
    puts = λ i. None;
    steps = λ i. [];
    plan = λ i. [];
    own = λ i. a_binder 0;
    keeps = lengthens_itself old.laid;
    sound = record {
      counted = counted;
      have = λ i own known. let none : get nat_cmp old.concluded i ≡ None = nothing i in absurd (cc);
      rising = λ i own known. let none : get nat_cmp old.concluded i ≡ None = nothing i in absurd (cc);
      closed = closed;
      places = places;
      low = λ i own known. let none : get nat_cmp old.concluded i ≡ None = nothing i in absurd (cc);
    };
    adds = adds_none old.laid.book old.steps counted;
    closed = λ is. is;
    puts_are = λ is i f there. let low : there.0 < 0 = there.1 in absurd (omega (arith, low));
    concluded = λ i o known. let none : concluded_in old i ≡ None = ap (option_map concluded_of) (nothing i) in absurd (cc);
    in_order = tt;
    told = λ names are_names put_in of agree i f there. let low : there.0 < 0 = there.1 in absurd (omega (arith, low));
    before = λ i m f there. let low : there.0 < 0 = there.1 in absurd (omega (arith, low));
  }

  -- one node more, whose conclusion is put down
  module _ (now mid new : state.Writer) (done : List ℕ) (i : ℕ) (f : TermForm) (own : written.Concluded) (it : HaveWritten globals firsts lets c p parts nodes old now done) (fresh : Contains done i → ⊥)
      (form_is : form_at nodes i ≡ Some f) (writes : WritesNode globals firsts lets c p parts i f now mid own) (same : new.laid ≡ mid.laid) (same_steps : new.steps ≡ mid.steps)
      (updates : Updates nat_cmp mid.concluded new.concluded i (Some own)) where
    abbrev all : List ℕ
    all = done ++ i ∷ []

    abbrev steps_now : ℕ → List StepLine
    steps_now = with_at i (steps_of now.steps.lines) it.steps

    abbrev plan_now : ℕ → List PlannedLine
    plan_now = with_at i writes.plan it.plan

    abbrev own_now : ℕ → Concluded
    own_now = with_at i (concluded_of own) it.own

    abbrev puts_now : ℕ → Option (List Put)
    puts_now = with_at i writes.puts it.puts

    other : (j : ℕ) → Contains done j → i ≡ j → ⊥
    other j there is = fresh (subst (Contains done) (sym is) there)

    steps_are : steps_of now.steps.lines ≡ steps_of old.steps.lines ++ planned_steps (flat_map it.plan done)
    steps_are = adds_steps now.laid.book old.steps now.steps (flat_map it.plan done) it.adds

    flat_is : flat_map plan_now all ≡ flat_map it.plan done ++ writes.plan
    flat_is =
        flat_map-append plan_now done (i ∷ [])
        ∙ (ap (λ (l : List PlannedLine). l ++ (plan_now i ++ [])) (flat_same it.steps it.plan steps_now plan_now done (λ j there. at_other i j writes.plan it.plan (other j there)))
        ∙ ap (λ (l : List PlannedLine). flat_map it.plan done ++ l) (append-nil (plan_now i) ∙ at_itself i writes.plan it.plan))

    keeps_now : Lengthens old.laid new.laid
    keeps_now = lengthens_kept old.laid mid.laid new.laid (keeps_on old now mid it.keeps writes.continues.goes_on) same

    longer_now : IsLonger now.laid.book new.laid.book
    longer_now = (writes.continues.goes_on.more, (λ n. (same n).book) ∙ writes.continues.goes_on.book)

    adds_now : Adds new.laid.book old.steps new.steps (flat_map plan_now all)
    adds_now =
        let before = subst (λ (book : List Node). Adds book old.steps now.steps (flat_map it.plan done)) (sym longer_now.1) (adds_longer now.laid.book longer_now.0 old.steps now.steps (flat_map it.plan done) it.adds) in
        let behind = subst (λ (book : List Node). Adds book now.steps mid.steps writes.plan) (sym (λ n. (same n).book)) writes.continues.adds in
        subst (Adds new.laid.book old.steps new.steps) (sym flat_is)
        (subst (λ (s : Steps). Adds new.laid.book old.steps s (flat_map it.plan done ++ writes.plan)) (sym same_steps)
        (adds_then new.laid.book old.steps now.steps mid.steps (flat_map it.plan done) writes.plan before behind))

    closed_now : IsClosedBook old.laid.book → IsClosedBook new.laid.book
    closed_now is = subst IsClosedBook (sym (λ n. (same n).book)) (writes.continues.goes_on.closed (it.closed is))

    puts_are_now : IsClosedBook old.laid.book → (j : ℕ) (g : TermForm) → Contains all j → form_at nodes j ≡ Some g → ArePutsAt new.laid.book old.laid.places p globals firsts lets j g (puts_now j)
    puts_are_now closed j g there form_there = by_place (Contains-push_cases done i j there)
      where
        earlier_puts : Contains done j → ArePutsAt new.laid.book old.laid.places p globals firsts lets j g (it.puts j)
        earlier_puts earlier = puts_at_kept now.laid.book new.laid.book old.laid.places p globals firsts lets j g (it.puts j) (it.closed closed).book longer_now (it.puts_are closed j g earlier form_there)

        own_puts : ArePutsAt new.laid.book old.laid.places p globals firsts lets i f writes.puts
        own_puts =
            subst (λ (book : List Node). ArePutsAt book old.laid.places p globals firsts lets i f writes.puts) (sym (λ n. (same n).book))
            (subst (λ (places : Places). ArePutsAt mid.laid.book places p globals firsts lets i f writes.puts) it.keeps.places (writes.puts_are (it.closed closed)))

        by_place : Contains done j ⊎ (i ≡ j) → ArePutsAt new.laid.book old.laid.places p globals firsts lets j g (puts_now j)
        by_place (inl earlier) = subst (ArePutsAt new.laid.book old.laid.places p globals firsts lets j g) (sym (at_other i j writes.puts it.puts (other j earlier))) (earlier_puts earlier)
        by_place (inr own_place) =
            let f_is : f ≡ g = some_is (sym form_is ∙ (ap (form_at nodes) own_place ∙ form_there)) in
            subst (λ k. ArePutsAt new.laid.book old.laid.places p globals firsts lets k g (puts_now k)) own_place
            (subst (λ h. ArePutsAt new.laid.book old.laid.places p globals firsts lets i h (puts_now i)) f_is
            (subst (ArePutsAt new.laid.book old.laid.places p globals firsts lets i f) (sym (at_itself i writes.puts it.puts)) own_puts))

    sound_now : IsSound new
    sound_now = record {
      counted = subst AreCounted (sym same_steps) writes.continues.sound.counted;
      have =
          λ j o known.
          subst (λ (s : Steps). Stands (steps_of s.lines) o) (sym same_steps)
          (by_key j o (is_eq (nat_cmp i j)) (sym (updates.0 j) ∙ known)).0;
      rising = λ j o known. (by_key j o (is_eq (nat_cmp i j)) (sym (updates.0 j) ∙ known)).1;
      closed = subst IsClosedBook (sym (λ n. (same n).book)) writes.continues.sound.closed;
      places = λ s. subst (λ (l : LaidOut). place_of l.places s < length l.book) (sym same) (writes.continues.sound.places s);
      low = λ j o known. subst (λ (l : LaidOut). HasLowNodes (length l.book) o) (sym same) (by_key j o (is_eq (nat_cmp i j)) (sym (updates.0 j) ∙ known)).2;
    }
      where
        by_key : (j : ℕ) (o : conclusion.Conclusion) (b : Bool) → cond b (Some own) (get nat_cmp mid.concluded j) ≡ Some (Step o) → Stands (steps_of mid.steps.lines) o × IsRising o.env × HasLowNodes (length mid.laid.book) o
        by_key j o true known = subst (IsSoundOwn mid.laid.book (steps_of mid.steps.lines)) (some_is known) writes.sound_own
        by_key j o false known = (writes.continues.sound.have j o known, writes.continues.sound.rising j o known, writes.continues.sound.low j o known)

    concluded_now : (j : ℕ) (o : Concluded) → concluded_in new j ≡ Some o → Contains all j × (own_now j ≡ o)
    concluded_now j o known = by_key (is_eq (nat_cmp i j)) refl (sym (ap (option_map concluded_of) (updates.0 j)) ∙ known)
      where
        by_key : (b : Bool) → is_eq (nat_cmp i j) ≡ b → option_map concluded_of (cond b (Some own) (get nat_cmp mid.concluded j)) ≡ Some o → Contains all j × (cond b (concluded_of own) (it.own j) ≡ o)
        by_key true e known = (subst (Contains all) (number_same i j e) (Contains-push done i), some_is known)
        by_key false e known =
            let at = it.concluded j o (concluded_before now mid writes.continues.goes_on.fewer j o known) in
            (Contains-append_left done (i ∷ []) j at.0, at.1)

    in_order_now : AreInOrder steps_now plan_now (steps_of old.steps.lines) all
    in_order_now =
        in_order_more it.steps it.plan steps_now plan_now (steps_of old.steps.lines) done i it.in_order
        (λ j there. (at_other i j (steps_of now.steps.lines) it.steps (other j there), at_other i j writes.plan it.plan (other j there)))
        (at_itself i (steps_of now.steps.lines) it.steps ∙ steps_are)

    before_now : (j m : ℕ) (g : TermForm) → Contains all j → form_at nodes j ≡ Some g → IsPartOf g m → Contains all m × IsBefore steps_now plan_now m j
    before_now j m g there is part = by_place (Contains-push_cases done i j there)
      where
        -- what stood before stands before with the new functions
        stands : (k : ℕ) → Contains done m → (more : List StepLine) → steps_now k ≡ (it.steps m ++ planned_steps (it.plan m)) ++ more → IsBefore steps_now plan_now m k
        stands k earlier more at = (
          more,
          at
              ∙ (ap (λ (l : List StepLine). (l ++ planned_steps (it.plan m)) ++ more) (sym (at_other i m (steps_of now.steps.lines) it.steps (other m earlier)))
              ∙ ap (λ (l : List PlannedLine). (steps_now m ++ planned_steps l) ++ more) (sym (at_other i m writes.plan it.plan (other m earlier)))),
        )

        by_own : (o : Option Concluded) → concluded_in now m ≡ o → IsSome o → Contains done m
        by_own None known some = absurd (cc)
        by_own (Some o) known some = (it.concluded m o known).0

        by_place : Contains done j ⊎ (i ≡ j) → Contains all m × IsBefore steps_now plan_now m j
        by_place (inl earlier) =
            let both = it.before j m g earlier is part in (
              Contains-append_left done (i ∷ []) m both.0,
              stands j both.0 both.1.0 (at_other i j (steps_of now.steps.lines) it.steps (other j earlier) ∙ both.1.1),
            )
        by_place (inr own_place) =
            let f_is : f ≡ g = some_is (sym form_is ∙ (ap (form_at nodes) own_place ∙ is)) in
            let inside = by_own (concluded_in now m) refl (writes.used m (subst (λ h. IsPartOf h m) (sym f_is) part)) in
            let (more, at) = in_order_ends it.steps it.plan (steps_of old.steps.lines) done it.in_order m inside in (
              Contains-append_left done (i ∷ []) m inside,
              subst (IsBefore steps_now plan_now m) own_place (stands i inside more (at_itself i (steps_of now.steps.lines) it.steps ∙ (steps_are ∙ at))),
            )

    module _ (names : NamesKnown) (are_names : AreNamesOf globals firsts names) (put_in : ArePutInAt puts_now names all) (of : ℕ → Concluded) (agree : (m : ℕ) → Contains all m → of m ≡ own_now m) where
      agree_before : (m : ℕ) → Contains done m → of m ≡ it.own m
      agree_before m there = agree m (Contains-append_left done (i ∷ []) m there) ∙ at_other i m (concluded_of own) it.own (other m there)

      agree_now : AreConclusionsOf now of
      agree_now m o known = let at = it.concluded m o known in agree_before m at.0 ∙ at.1

      puts_before : ArePutInAt it.puts names done
      puts_before m there = subst (λ (o : Option (List Put)). ArePutIn o (names.puts m)) (at_other i m writes.puts it.puts (other m there)) (put_in m (Contains-append_left done (i ∷ []) m there))

      told_earlier : (j : ℕ) (g : TermForm) → Contains done j → form_at nodes j ≡ Some g → IsWrittenAs new.laid.book c (standing old p parts) names of g j (steps_now j) (plan_now j) (own_now j)
      told_earlier j g there is =
          subst (λ (l : List StepLine). IsWrittenAs new.laid.book c (standing old p parts) names of g j l (plan_now j) (own_now j)) (sym (at_other i j (steps_of now.steps.lines) it.steps (other j there)))
          (subst (λ (l : List PlannedLine). IsWrittenAs new.laid.book c (standing old p parts) names of g j (it.steps j) l (own_now j)) (sym (at_other i j writes.plan it.plan (other j there)))
          (subst (λ (o : Concluded). IsWrittenAs new.laid.book c (standing old p parts) names of g j (it.steps j) (it.plan j) o) (sym (at_other i j (concluded_of own) it.own (other j there)))
          (subst (λ (book : List Node). IsWrittenAs book c (standing old p parts) names of g j (it.steps j) (it.plan j) (it.own j)) (sym longer_now.1)
          (told_stays now.laid.book longer_now.0 c (standing old p parts) names of g j (it.steps j) (it.plan j) (it.own j) (it.told names are_names puts_before of agree_before j g there is)))))

      told_own : IsWrittenAs new.laid.book c (standing old p parts) names of f i (steps_now i) (plan_now i) (own_now i)
      told_own =
          subst (λ (l : List StepLine). IsWrittenAs new.laid.book c (standing old p parts) names of f i l (plan_now i) (own_now i)) (sym (at_itself i (steps_of now.steps.lines) it.steps))
          (subst (λ (l : List PlannedLine). IsWrittenAs new.laid.book c (standing old p parts) names of f i (steps_of now.steps.lines) l (own_now i)) (sym (at_itself i writes.plan it.plan))
          (subst (λ (o : Concluded). IsWrittenAs new.laid.book c (standing old p parts) names of f i (steps_of now.steps.lines) writes.plan o) (sym (at_itself i (concluded_of own) it.own))
          (subst (λ (book : List Node). IsWrittenAs book c (standing old p parts) names of f i (steps_of now.steps.lines) writes.plan (concluded_of own)) (sym (λ n. (same n).book))
          (subst (λ (places : Places). IsWrittenAs mid.laid.book c (record { root = root_in p; binder = binder_in p; place = place_of places; parts = parts }) names of f i (steps_of now.steps.lines) writes.plan (concluded_of own)) it.keeps.places
          (writes.tells names are_names
          (subst (λ (o : Option (List Put)). ArePutIn o (names.puts i)) (at_itself i writes.puts it.puts) (put_in i (Contains-push done i)))
          of agree_now)))))

      told_now : (j : ℕ) (g : TermForm) → Contains all j → form_at nodes j ≡ Some g → IsWrittenAs new.laid.book c (standing old p parts) names of g j (steps_now j) (plan_now j) (own_now j)
      told_now j g there is = by_place (Contains-push_cases done i j there)
        where
          by_place : Contains done j ⊎ (i ≡ j) → IsWrittenAs new.laid.book c (standing old p parts) names of g j (steps_now j) (plan_now j) (own_now j)
          by_place (inl earlier) = told_earlier j g earlier is
          by_place (inr own_place) =
              let f_is : f ≡ g = some_is (sym form_is ∙ (ap (form_at nodes) own_place ∙ is)) in
              subst (λ k. IsWrittenAs new.laid.book c (standing old p parts) names of g k (steps_now k) (plan_now k) (own_now k)) own_place
              (subst (λ h. IsWrittenAs new.laid.book c (standing old p parts) names of h i (steps_now i) (plan_now i) (own_now i)) f_is told_own)

    pub writes_next : HaveWritten globals firsts lets c p parts nodes old new (done ++ i ∷ [])
    writes_next = record {
      puts = puts_now;
      steps = steps_now;
      plan = plan_now;
      own = own_now;
      keeps = keeps_now;
      sound = sound_now;
      adds = adds_now;
      closed = closed_now;
      puts_are = puts_are_now;
      concluded = concluded_now;
      in_order = in_order_now;
      told = told_now;
      before = before_now;
    }

  -- the next node of the list
  pub writes_at : (members : List ℕ) (n : ℕ) (now mid new : state.Writer) (f : TermForm) (own : written.Concluded) → CanWritePart old.laid old.steps globals firsts c p parts nodes members → n < length members
      → HaveWritten globals firsts lets c p parts nodes old now (take n members) → form_at nodes (get_or members n 0) ≡ Some f
      → (IsSound now → HasOwnParts now c.automaton parts → HaveRisingFirsts firsts → HaveLowFirsts (length now.laid.book) firsts → HaveLowGlobals (length now.laid.book) globals → IsPosedAt c p f (get_or members n 0) → WritesNode globals firsts lets c p parts (get_or members n 0) f now mid own)
      → new.laid ≡ mid.laid → new.steps ≡ mid.steps → Updates nat_cmp mid.concluded new.concluded (get_or members n 0) (Some own)
      → HaveWritten globals firsts lets c p parts nodes old new (take (n + 1) members)
  writes_at members n now mid new f own can low it form_is writes same same_steps updates =
      let i : ℕ = get_or members n 0 in
      let there : Contains members i = Contains-get_or members n 0 low in
      let up : (k : ℕ) → k < length old.laid.book → k < length now.laid.book = λ k. below_longer old.laid.book now.laid.book k it.keeps.book in
      subst (λ (done : List ℕ). HaveWritten globals firsts lets c p parts nodes old new done) (sym (take_more members n 0 low))
      (writes_next now mid new (take n members) i f own it (not_before members n 0 can.list.once low) form_is
      (writes it.sound (own_parts_kept old now c.automaton parts it.keeps can.own_parts) can.rising (firsts_more (length old.laid.book) (length now.laid.book) up firsts can.low_firsts)
      (globals_more (length old.laid.book) (length now.laid.book) up globals can.low_globals) (can.posed i f there form_is)) same same_steps updates)

  pub writes_part : (new : state.Writer) (members : List ℕ) → HaveWritten globals firsts lets c p parts nodes old new members → WritesPart globals firsts lets c p parts nodes members old new
  writes_part new members it = record {
    puts = it.puts;
    plan = it.plan;
    of = it.own;
    writing = λ b longer nodes_are names are_names put_in. (
      record {
        steps = it.steps;
        plan = it.plan;
        of = it.own;
        in_order = it.in_order;
        begins = in_order_begins it.steps it.plan (steps_of old.steps.lines) members it.in_order;
        forms = λ i f there is.
            subst (λ (book : List Node). IsWrittenAs book c (standing old p parts) names it.own f i (it.steps i) (it.plan i) (it.own i)) (sym longer.1)
            (told_stays new.laid.book longer.0 c (standing old p parts) names it.own f i (it.steps i) (it.plan i) (it.own i)
            (it.told names are_names put_in it.own (λ m inside. refl) i f there (subst (λ (l : List TermNode). form_at l i ≡ Some f) nodes_are is)));
        before = λ i f there is.
            parts_before (Contains members) (IsBefore it.steps it.plan) i f
            (λ m part. it.before i m f there (subst (λ (l : List TermNode). form_at l i ≡ Some f) nodes_are is) part);
      },
      refl,
      refl,
    );
    puts_are = it.puts_are;
    closed = it.closed;
    concluded = it.concluded;
    keeps = it.keeps;
    sound = it.sound;
    adds = it.adds;
  }
