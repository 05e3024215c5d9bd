-- A projection from a record to whose root no edge leads has just the types of the field.
--     lowered_model        the type of the root may be made less, down to that of its head
--     field_types          the types of the field
--     field_solution       the scheme of the field is a solution
use Rattle.std.proofs.Common.{◌≡◌, ◌≢◌, ◌⊎◌, ◌↔◌, inl, inr, ℕ, suc, ◌<◌, Bool, true, false, cond, List, [], ◌∷◌, length, refl, sym, ap, ◌∙◌, subst, arith, Some, None, bytes_eq}
use Rattle.std.specs.Prelude.{option_map}
use Rattle.std.specs.Ordering.{nat_cmp}
use Rattle.std.specs.declared.cmp.Ordering.TheVariants.{Less}
use Rattle.std.specs.Cmp.Lexicographic.{slice_cmp}
use Rattle.std.proofs.lemmas.Bool.{cases_eq}
use Rattle.std.proofs.lemmas.List.Elements.{All-cons, All-nil}
use Rattle.std.proofs.lemmas.Slice.Eq.{bytes_eq-Decides}
use Rattle.mls_book.specs.declared.book.Field.{Field}
use Rattle.mls_book.specs.declared.book.Node.{Node}
use Rattle.mls_book.specs.declared.book.Node.TheVariants as node
use Rattle.mls_book.specs.Predicates.{Predicate, Implies, meet, rcd, var}
use Rattle.mls_book.specs.Passes.{passes}
use Rattle.mls_book.proofs.Constructors.{rcd-fieldwise, rcd-implies}
use Rattle.mls_book.proofs.Depths.{Implies-same, Implies-same_back, Implies-trans}
use Rattle.mls_book.proofs.Lattice.{meet_greatest, meet_left, meet_right}
use Rattle.mls_book.proofs.LongerBooks.{Extends, Extends-trans, Extends-value, extended_with}
use Rattle.mls_book.proofs.Representation.{IsIn-longer}
use Rattle.mls_book.proofs.Table.{value-meet, value-rcd}
use Rattle.mls_automaton.specs.declared.automaton.Polarity.{Polarity}
use Rattle.mls_automaton.specs.declared.automaton.Polarity.TheVariants.{Positive, Negative}
use Rattle.mls_automaton.specs.declared.automaton.FieldSet.{FieldSet}
use Rattle.mls_automaton.specs.declared.scheme.Scheme.{Scheme}
use Rattle.mls_automaton.specs.declared.state_set.StateId.{StateId}
use Rattle.mls_automaton.specs.Automata.{Automaton, HasFlow, IsState, head_at, polarity_at}
use Rattle.mls_automaton.specs.Heads.{head_value, set_at, set_value}
use Rattle.mls_automaton.specs.Models.{HasStatesIn, IsInside, IsModel}
use Rattle.mls_automaton.proofs.Passing.{head-inside}
use Rattle.mls_automaton.proofs.Signs.{inside-trans}
use Rattle.mls_typing.specs.Typed.{IsTypeOf, OfProject, one_field}
use Rattle.mls_typing.proofs.TypedUses.{one_field-value}
use Rattle.mls_infer.specs.Constraints.{HasStates, HasTypes, no_goals, project_constraint, record_head}
use Rattle.mls_infer.specs.Regions.{part_over}
use Rattle.mls_infer.specs.Steps.{IsSolution}
use Rattle.mls_infer.proofs.ConstraintRows.{no_goal, project_row}
use Rattle.mls_infer.proofs.Grown.{states_more}
use Rattle.mls_infer.proofs.HeadValues.{record_head-value, set_one}

-- a record that has the field lies below those with the field alone
below_one : (fields : List FieldSet) (label : List ℕ) (r : ℕ) → set_at fields label ≡ Some (r ∷ []) → (T : ℕ → Predicate) → Implies (head_value Positive T (record_head fields)) (rcd (one_field label (T r)))
below_one fields label r there T =
    subst (λ g. Implies g (rcd (one_field label (T r)))) (sym (record_head-value Positive T fields))
    (rcd-implies (λ other. option_map (set_value Positive T) (set_at fields other)) (one_field label (T r)) (λ other g is. at other g (bytes_eq label other) refl is))
  where
    at : (other : List ℕ) (g : Predicate) (b : Bool) → bytes_eq label other ≡ b → cond b (Some (T r)) None ≡ Some g
        → (f : Predicate) × (option_map (set_value Positive T) (set_at fields other) ≡ Some f) × Implies f g
    at other g true e is =
        let same : label ≡ other = (bytes_eq-Decides label other).0 e in
        let value : T r ≡ g = cc in
        (T r, ap (λ l. option_map (set_value Positive T) (set_at fields l)) (sym same) ∙ (ap (option_map (set_value Positive T)) there ∙ ap Some (set_one Positive T r)), Implies-same (T r) g value)
    at other g false e is = absurd (cc)

-- what the field of a record has lies below that of records above
above_one : (fields : List FieldSet) (label : List ℕ) (r : ℕ) → set_at fields label ≡ Some (r ∷ []) → (T : ℕ → Predicate) (g : Predicate) → Implies (head_value Positive T (record_head fields)) (rcd (one_field label g)) → Implies (T r) g
above_one fields label r there T g below =
    let named : one_field label g label ≡ Some g = ap (λ b. cond b (Some g) None) ((bytes_eq-Decides label label).1 refl) in
    let it =
    rcd-fieldwise (λ other. option_map (set_value Positive T) (set_at fields other)) (one_field label g) (subst (λ f. Implies f (rcd (one_field label g))) (record_head-value Positive T fields) below) label g named in
    let value : Some (T r) ≡ Some it.0 = sym (ap (option_map (set_value Positive T)) there ∙ ap Some (set_one Positive T r)) ∙ it.1 in
    let same : T r ≡ it.0 = cc in
    subst (λ f. Implies f g) (sym same) it.2

module _ (s : Scheme) (is : HasStates s) (label : List ℕ) (fields : List FieldSet) (r : StateId) (head_is : head_at s.automaton s.root.0 ≡ record_head fields) (there : set_at fields label ≡ Some (r.0 ∷ [])) (free : (n : ℕ) → HasFlow s.automaton n s.root.0 → ⊥) where
  abbrev a : Automaton
  a = s.automaton

  -- the scheme of the field
  abbrev pub of_field : Scheme
  of_field = part_over a s.env r

  module _ (T : ℕ → Predicate) (model : IsModel a T) where
    abbrev record_type : Predicate
    record_type = rcd (one_field label (T r.0))

    abbrev low : Predicate
    low = meet (T s.root.0) record_type

    abbrev at : (j : ℕ) → (j ≡ s.root.0) ⊎ (j ≢ s.root.0) → Predicate
    at j (inl same) = low
    at j (inr other) = T j

    -- the type of the root is made less
    pub lowered : ℕ → Predicate
    lowered j = at j (cases_eq j s.root.0)

    lowered_root : lowered s.root.0 ≡ low
    unfolding lowered
    lowered_root = go (cases_eq s.root.0 s.root.0)
      where
        go : (o : (s.root.0 ≡ s.root.0) ⊎ (s.root.0 ≢ s.root.0)) → at s.root.0 o ≡ low
        go (inl same) = refl
        go (inr other) = absurd (other refl)

    lowered_other : (j : ℕ) → j ≢ s.root.0 → lowered j ≡ T j
    unfolding lowered
    lowered_other j apart = go (cases_eq j s.root.0)
      where
        go : (o : (j ≡ s.root.0) ⊎ (j ≢ s.root.0)) → at j o ≡ T j
        go (inl same) = absurd (apart same)
        go (inr other) = refl

    -- a negative state is not the root
    apart_negative : (j : ℕ) → polarity_at a j ≡ Negative → j ≢ s.root.0
    apart_negative j polarity same =
        let both : Positive ≡ Negative = sym is.root.polarity ∙ (ap (polarity_at a) (sym same) ∙ polarity) in
        absurd (cc)

    lowered_negative : (j : ℕ) → polarity_at a j ≡ Negative → lowered j ≡ T j
    lowered_negative j polarity = lowered_other j (apart_negative j polarity)

    less : (j : ℕ) → (j ≡ s.root.0) ⊎ (j ≢ s.root.0) → Implies (lowered j) (T j)
    less j (inl same) = subst (λ k. Implies (lowered k) (T k)) (sym same) (subst (λ g. Implies g (T s.root.0)) (sym lowered_root) (meet_left (T s.root.0) record_type))
    less j (inr other) = Implies-same (lowered j) (T j) (lowered_other j other)

    shrinks : (q : Polarity) (j : ℕ) → IsState a q j → IsInside q (lowered j) (T j)
    shrinks Positive j state = less j (cases_eq j s.root.0)
    shrinks Negative j state = Implies-same_back (lowered j) (T j) (lowered_negative j state.polarity)

    head_within : (j : ℕ) → IsInside (polarity_at a j) (head_value (polarity_at a j) lowered (head_at a j)) (T j)
    head_within j =
        let p : Polarity = polarity_at a j in
        inside-trans p (head_value p lowered (head_at a j)) (head_value p T (head_at a j)) (T j)
        (head-inside lowered T p (head_at a j) (states_more (IsState a) (λ q k. IsInside q (lowered k) (T k)) shrinks p (head_at a j) (is.automaton.heads j)))
        (model.heads j)

    head_root : Implies (head_value Positive lowered (head_at a s.root.0)) low
    head_root =
        let h : Predicate = head_value Positive lowered (head_at a s.root.0) in
        let own : Implies h (T s.root.0) = subst (λ p. IsInside p (head_value p lowered (head_at a s.root.0)) (T s.root.0)) is.root.polarity (head_within s.root.0) in
        let more : Implies h (head_value Positive T (head_at a s.root.0)) =
        head-inside lowered T Positive (head_at a s.root.0)
        (states_more (IsState a) (λ q k. IsInside q (lowered k) (T k)) shrinks Positive (head_at a s.root.0) (subst (λ p. HasStatesIn (IsState a) p (head_at a s.root.0)) is.root.polarity (is.automaton.heads s.root.0))) in
        let field : Implies (head_value Positive T (head_at a s.root.0)) record_type = subst (λ h. Implies (head_value Positive T h) record_type) (sym head_is) (below_one fields label r.0 there T) in
        meet_greatest (T s.root.0) record_type h own (Implies-trans h (head_value Positive T (head_at a s.root.0)) record_type more field)

    head_inside : (j : ℕ) → (j ≡ s.root.0) ⊎ (j ≢ s.root.0) → IsInside (polarity_at a j) (head_value (polarity_at a j) lowered (head_at a j)) (lowered j)
    head_inside j (inl same) =
        subst (λ k. IsInside (polarity_at a k) (head_value (polarity_at a k) lowered (head_at a k)) (lowered k)) (sym same)
        (subst (λ p. IsInside p (head_value p lowered (head_at a s.root.0)) (lowered s.root.0)) (sym is.root.polarity)
        (subst (Implies (head_value Positive lowered (head_at a s.root.0))) (sym lowered_root) head_root))
    head_inside j (inr other) = subst (IsInside (polarity_at a j) (head_value (polarity_at a j) lowered (head_at a j))) (sym (lowered_other j other)) (head_within j)

    pub lowered_model : IsModel a lowered
    lowered_model = record {
      flows = λ e edge.
          let from : lowered e.negative.0 ≡ T e.negative.0 = lowered_negative e.negative.0 (is.automaton.negative e edge).polarity in
          let to : lowered e.positive.0 ≡ T e.positive.0 = lowered_other e.positive.0 (λ same. free e.negative.0 (subst (λ k. HasFlow a e.negative.0 k) same edge)) in
          subst (λ g. Implies g (lowered e.positive.0)) (sym from) (subst (Implies (T e.negative.0)) (sym to) (model.flows e edge));
      heads = λ j. head_inside j (cases_eq j s.root.0);
    }

    -- types of a book
    lowered_held : (b : List Node) → IsTypeOf b low → ((j : ℕ) → IsTypeOf b (T j)) → (j : ℕ) → IsTypeOf b (lowered j)
    unfolding lowered
    lowered_held b root held j = go (cases_eq j s.root.0)
      where
        go : (o : (j ≡ s.root.0) ⊎ (j ≢ s.root.0)) → IsTypeOf b (at j o)
        go (inl same) = root
        go (inr other) = held j

  pub field_types : (types : ℕ → Predicate) (f : Predicate) → HasTypes (project_constraint label s) types f ↔ HasTypes (no_goals of_field) types f
  field_types types f = (forth, back)
    where
      forth : HasTypes (project_constraint label s) types f → HasTypes (no_goals of_field) types f
      forth h =
          let it : OfProject label (HasTypes (no_goals s)) types f = (project_row label s is types f).0 h in
          let b = it.body in
          let T : ℕ → Predicate = b.value in
          let head : Implies (head_value Positive T (head_at a s.root.0)) (T s.root.0) = subst (λ p. IsInside p (head_value p T (head_at a s.root.0)) (T s.root.0)) is.root.polarity (b.model.heads s.root.0) in
          let below : Implies (head_value Positive T (record_head fields)) (rcd (one_field label it.field)) =
          subst (λ h. Implies (head_value Positive T h) (rcd (one_field label it.field))) head_is (Implies-trans (head_value Positive T (head_at a s.root.0)) (T s.root.0) (rcd (one_field label it.field)) head b.root) in
          record {
            nodes = b.nodes;
            closed = b.closed;
            value = T;
            held = b.held;
            model = b.model;
            goals = no_goal T;
            root = Implies-trans (T r.0) it.field f (above_one fields label r.0 there T it.field below) it.below;
            env = b.env;
          }

      back : HasTypes (no_goals of_field) types f → HasTypes (project_constraint label s) types f
      back h =
          let T : ℕ → Predicate = h.value in
          let i : ℕ = (h.held r.0).0 in
          let i_low : i < length h.nodes = (h.held r.0).1 in
          let field : Field = record { label = label; node = record { 0 = i } } in
          let one = extended_with h.nodes (node.Rcd (field ∷ [])) h.closed (All-nil (λ later. slice_cmp nat_cmp field.label later.label ≡ Less), tt) (All-cons (λ (field : Field). field.node.0 < suc (length h.nodes)) field [] (omega arith) (All-nil (λ (field : Field). field.node.0 < suc (length h.nodes)))) in
          let i_value : passes one.0 i ≡ T r.0 = Extends-value h.nodes one.0 h.closed one.1 var i i_low ∙ (h.held r.0).2 in
          let j : ℕ = one.2.0 in
          let j_low : j < length one.0 = one.2.1 in
          let j_value : passes one.0 j ≡ rcd (one_field label (T r.0)) = value-rcd var one.0 one.1.closed.book j (field ∷ []) one.2.2 ∙ ap rcd (one_field-value (passes one.0) label (record { 0 = i }) (T r.0) i_value) in
          let k = IsIn-longer h.nodes one.0 (T s.root.0) h.closed one.1 (h.held s.root.0) in
          let k_low : k.0 < length one.0 = k.1 in
          let two = extended_with one.0 (node.Meet (record { 0 = k.0 }) (record { 0 = j })) one.1.closed (k_low, j_low) (omega arith, omega arith) in
          let b : List Node = two.0 in
          let k_value' : passes b k.0 ≡ T s.root.0 = Extends-value one.0 b one.1.closed two.1 var k.0 k_low ∙ k.2 in
          let j_value' : passes b j ≡ rcd (one_field label (T r.0)) = Extends-value one.0 b one.1.closed two.1 var j j_low ∙ j_value in
          let low_held : IsTypeOf b (low T h.model) = (two.2.0, two.2.1, value-meet var b two.1.closed.book two.2.0 (record { 0 = k.0 }) (record { 0 = j }) two.2.2 ∙ (λ x. meet (k_value' x) (j_value' x))) in
          let more : Extends h.nodes b = Extends-trans h.nodes one.0 b one.1 two.1 in
          let held : (m : ℕ) → IsTypeOf b (T m) = λ m. IsIn-longer h.nodes b (T m) h.closed more (h.held m) in
          let V : ℕ → Predicate = lowered T h.model in
          (project_row label s is types f).1
          (record {
            field = T r.0;
            field_is = (h.nodes, h.closed, h.held r.0);
            body = record {
              nodes = b;
              closed = two.1.closed;
              value = V;
              held = lowered_held T h.model b low_held held;
              model = lowered_model T h.model;
              goals = no_goal V;
              root = subst (λ g. Implies g (rcd (one_field label (T r.0)))) (sym (lowered_root T h.model)) (meet_right (T s.root.0) (rcd (one_field label (T r.0))));
              env = λ e inside. subst (Implies (types e.binder)) (sym (lowered_negative T h.model e.state.0 (is.env e inside).polarity)) (h.env e inside);
            };
            below = h.root;
          })

  pub field_solution : IsState a Positive r.0 → IsSolution (project_constraint label s) of_field
  field_solution state = record { states = record { automaton = is.automaton; root = state; env = is.env }; just = field_types }
