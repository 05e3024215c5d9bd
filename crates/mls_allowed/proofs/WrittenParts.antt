-- The lines of a part: each node that is written concludes what fits it, so the lines of all nodes are allowed.
--     node_fits       by induction over the tree
use Rattle.std.proofs.Common.{◌≡◌, ◌⊎◌, inl, inr, ◌↔◌, ℕ, ◌<◌, Bool, true, false, List, [], ◌∷◌, ◌++◌, length, map, refl, sym, ap, ◌∙◌, subst, Option, Some, None, cond, bytes_eq}
use Rattle.std.specs.Prelude.{Contains, IsSome, option_map}
use Rattle.std.specs.FinMap as env
use Rattle.std.specs.Ordering.{nat_cmp}
use Rattle.std.proofs.lemmas.Slice.Eq.{bytes_eq-Decides}
use Rattle.mls_book.specs.declared.book.Field.{Field}
use Rattle.mls_book.specs.declared.book.NodeId.{NodeId}
use Rattle.mls_book.specs.declared.book.Node.TheVariants as node
use Rattle.mls_book.specs.Books.{node_at, field_at, IsOrdered}
use Rattle.mls_book.specs.Schemes.{Env}
use Rattle.mls_book.proofs.Children.{HasChildrenIn, at_found, closed_children}
use Rattle.mls_automaton.specs.declared.automaton.FieldSet.{FieldSet}
use Rattle.mls_automaton.specs.declared.automaton.Polarity.{Polarity}
use Rattle.mls_automaton.specs.declared.automaton.Polarity.TheVariants.{Positive, Negative}
use Rattle.mls_automaton.specs.declared.scheme.Scheme as type_scheme
use Rattle.mls_automaton.specs.Automata.{Automaton, polarity_at, head_at, flow, HasFlow}
use Rattle.mls_automaton.specs.Heads.{parts_of, set_at}
use Rattle.mls_automaton.proofs.Lists.{Contains-here, Contains-later}
use Rattle.mls_solver.specs.Relations.{goal}
use Rattle.mls_subsume.specs.declared.verdict.StatePair.{StatePair}
use Rattle.mls_subsume.specs.Walks.{IsIn}
use Rattle.mls_term.specs.declared.term.Part.{Part}
use Rattle.mls_term.specs.declared.term.TermForm.TheVariants as form
use Rattle.mls_term.specs.Derivations.{IsMeetAt, IsMeet}
use Rattle.mls_term.specs.Terms.{TermTree, TermFields, bound, inner as a_let_name, global, number as a_number, truth, fun, apply, make, project, choice, local, fix, no_field, a_field}
use Rattle.mls_deriv.specs.declared.derivation.BinderNode.{BinderNode}
use Rattle.mls_deriv.specs.declared.derivation.Mode.{Mode}
use Rattle.mls_deriv.specs.declared.derivation.Mode.TheVariants.{Lr, Rl}
use Rattle.mls_deriv.specs.declared.derivation.StepLine.{StepLine}
use Rattle.mls_deriv.specs.declared.derivation.StepRule.TheVariants as rule
use Rattle.mls_deriv.specs.declared.claim.Put.{Put}
use Rattle.mls_deriv.specs.Pairs.{put_at}
use Rattle.mls_deriv.specs.Steps.{env_of, form_at, Before, Says, HaveLabelsOf}
use Rattle.mls_lines.specs.Conclusions.{IsGood, AreClear, Extends, Conclusion, Concluded, a_binder, by_step, IsOffered, IsReading, IsBinderAbove, one, HasConcluded}
use Rattle.mls_layout.specs.Heads.{IsFieldAt, AreParts}
use Rattle.mls_layout.specs.Layouts.{PartClaims, IsItself}
use Rattle.mls_lines.specs.Orders.{Along}
use Rattle.mls_layout.specs.Parts.{Constraint, IsGoalOf, IsRelatedIn, IsSolvedTo, IsLaidOut}
use Rattle.mls_layout.specs.Plans.{PlannedLine, a_step_with, planned_steps}
use Rattle.mls_layout.specs.Posed.{HasArms, IsPosed, ArePosed}
use Rattle.mls_layout.specs.Rows.{at, concluded, EndsWith}
use Rattle.mls_layout.specs.Runs.{a_step}
use Rattle.mls_layout.specs.Shown.{IsShown, claimed}
use Rattle.mls_layout.specs.Trees.{IsTree, IsPlaceIn}
use Rattle.mls_layout.specs.Uses.{NamesOnly, below_copy, above_copy}
use Rattle.mls_lines.specs.NodeLines.{by_rule, Standing, NamesKnown, node_of, IsLeafWritten, IsFunWritten, IsRecWritten, IsApplyWritten, IsProjectWritten, IsIfWritten, AreOffered, IsMakeWritten, IsGlobalWritten, IsInnerWritten, IsLetWritten}
use Rattle.mls_lines.specs.Writings.{IsBefore, IsWriting}
use Rattle.mls_allowed.specs.WrittenUses.{IsCopyAt, IsGlobalRead, IsInnerRead, IsLetRead, IsReadAs, IsUseRead}
use Rattle.mls_allowed.proofs.Conclusions.{good_none, says_then, node_low}
use Rattle.mls_allowed.proofs.OneField.{one_field}
use Rattle.mls_allowed.proofs.PartClaims.{related_leaf, related_shown}
use Rattle.mls_allowed.proofs.PartReadings.{Below, Read, one_below, part_reading}
use Rattle.mls_allowed.proofs.RowPairs.{set_below, set_above, edge_below, head_below, set_below_edge}
use Rattle.mls_allowed.proofs.StandingParts.{field_there, field_some, arrow_at, record_at}
use Rattle.mls_allowed.proofs.WrittenMakes.{IsPartAsked, ArePartsAsked, make_written}
use Rattle.mls_allowed.proofs.WrittenNames.{AreBeside, Settles, global_written, inner_written, settled_concludes, let_written}
use Rattle.mls_allowed.proofs.WrittenRows.{Writes, IsAsked, has_then, writes_behind, number_written, truth_written, fun_written, fix_written, proj_written, app_written, choice_written}

module _ (b : Before) (c : Constraint) (general special : type_scheme.Scheme) (walked : List StatePair) (solved : IsSolvedTo c general special walked)
    (place type_place : ℕ → ℕ) (laid : IsLaidOut b.book c special walked place type_place) (root binder : ℕ → ℕ) (names : NamesKnown) (lets : List ℕ) (IsPlace : ℕ → ℕ → Type 0)
    (Own : ℕ → Type 0) (children : (i : ℕ) → Own i → NamesOnly Own (node_at b.book i)) (own_place : (s : ℕ) → Own (place s))
    (own_part : (s i : ℕ) → Contains (laid.layout.parts s) i → Own i) where
  abbrev a : Automaton
  a = c.automaton

  abbrev pub standing : Standing
  standing = record { root = root; binder = binder; place = place; parts = laid.layout.parts }

  abbrev Claims : Mode → ℕ → ℕ → Type 0
  Claims = PartClaims a special.automaton (IsRelatedIn c) (IsIn walked) place type_place

  abbrev pub IsUnder : ℕ → ℕ → Type 0
  IsUnder = Below b a (IsGoalOf c) solved.closed solved.goals solved.free general special solved.solved solved.closed_type walked solved.walk place type_place laid.layout laid.closed laid.places

  abbrev pub Reads : List Put → Mode → ℕ → ℕ → Type 0
  Reads =
      Read b a (IsGoalOf c) solved.closed solved.goals solved.free general special solved.solved solved.closed_type walked solved.walk place type_place laid.layout laid.closed laid.places
      IsPlace Own children binder (λ x. own_place (binder x))

  abbrev pub own_of : ℕ → ℕ
  own_of x = place (binder x)

  pub laws : IsReading b Own IsUnder Reads own_of
  laws =
      part_reading b a (IsGoalOf c) solved.closed solved.goals solved.free general special solved.solved solved.closed_type walked solved.walk place type_place laid.layout laid.closed laid.places
      IsPlace Own children binder (λ x. own_place (binder x))

  pub under : (mode : Mode) (i j : ℕ) → IsShown b.book [] IsItself Claims true mode i j → IsUnder i j
  under =
      one_below b a (IsGoalOf c) solved.closed solved.goals solved.free general special solved.solved solved.closed_type walked solved.walk place type_place laid.layout laid.closed laid.places

  abbrev pub Has : List StepLine → ℕ → List ℕ → Concluded → Type 0
  Has steps i scope own = HasConcluded b Own IsUnder Reads own_of steps i (place (root i)) scope own

  -- the lines of a node are good, and what it concludes fits it
  pub record NodeFits (steps : List StepLine) (plan : List PlannedLine) (own : Concluded) (scope : List ℕ) (i : ℕ) : Type 0 where
    pub good : IsGood b steps plan
    pub has : Has (steps ++ planned_steps plan) i scope own
    pub ends : (s : Conclusion) → own ≡ by_step s → EndsWith (steps ++ planned_steps plan) i (env_of s.env) s.type

  abbrev Written : List StepLine → ℕ → List ℕ → List PlannedLine → Conclusion → Type 0
  Written steps i scope plan s = Writes b Own IsUnder Reads own_of laws steps i (place (root i)) scope plan s

  same_step : (s t : Conclusion) → by_step s ≡ by_step t → s ≡ t
  same_step s t e = cc

  from_written : (steps : List StepLine) (plan lines : List PlannedLine) (own : Concluded) (s : Conclusion) (scope : List ℕ) (i : ℕ) → plan ≡ lines → own ≡ by_step s → Written steps i scope lines s → NodeFits steps plan own scope i
  from_written steps plan lines own s scope i same_plan same_own it =
      subst (λ (l : List PlannedLine). NodeFits steps l own scope i) (sym same_plan)
      (subst (λ o. NodeFits steps lines o scope i) (sym same_own)
      (record {
        good = it.good;
        has = it.concludes;
        ends = λ t e. subst (λ (z : Conclusion). EndsWith (steps ++ planned_steps lines) i (env_of z.env) z.type) (same_step s t e) it.ends;
      }))

  no_parts : (of : ℕ → Concluded) (steps : List StepLine) (scope : List ℕ) (parts : List Part) (offered : List (List BinderNode)) (others : List Field) → parts ≡ [] → AreOffered b.book c standing names of others parts offered
      → ArePartsAsked b Own IsUnder Reads own_of laws of (λ j. place (root j)) scope others steps parts offered
  no_parts of steps scope [] [] others none offers = tt
  no_parts of steps scope [] (one_offered ∷ offered) others none offers = absurd offers
  no_parts of steps scope (part ∷ parts) offered others none offers = absurd (cc)

  -- nodes of heads
  are_parts : (p : Polarity) (s : ℕ) → polarity_at a s ≡ p → AreParts b.book place p (parts_of (head_at a s)) (laid.layout.parts s)
  are_parts p s is = subst (λ q. AreParts b.book place q (parts_of (head_at a s)) (laid.layout.parts s)) is (laid.layout.heads s)

  low_ends : (s arrow : ℕ) (from to : NodeId) → Contains (laid.layout.parts s) arrow → node_at b.book arrow ≡ node.Arrow from to → (from.0 < length b.book) × (to.0 < length b.book)
  low_ends s arrow from to there is = subst (HasChildrenIn (λ k. k < length b.book)) is (closed_children b.book laid.closed.closed arrow (laid.parts s arrow there))

  own_ends : (s arrow : ℕ) (from to : NodeId) → Contains (laid.layout.parts s) arrow → node_at b.book arrow ≡ node.Arrow from to → Own from.0 × Own to.0
  own_ends s arrow from to there is = subst (NamesOnly Own) is (children arrow (own_part s arrow there))

  low_fields : (s rcd : ℕ) (fields : List Field) → Contains (laid.layout.parts s) rcd → node_at b.book rcd ≡ node.Rcd fields → HasChildrenIn (λ k. k < length b.book) (node.Rcd fields)
  low_fields s rcd fields there is = subst (HasChildrenIn (λ k. k < length b.book)) is (closed_children b.book laid.closed.closed rcd (laid.parts s rcd there))

  own_fields : (s rcd : ℕ) (fields : List Field) → Contains (laid.layout.parts s) rcd → node_at b.book rcd ≡ node.Rcd fields → NamesOnly Own (node.Rcd fields)
  own_fields s rcd fields there is = subst (NamesOnly Own) is (children rcd (own_part s rcd there))

  negative : (n q : ℕ) → HasFlow a n q → polarity_at a n ≡ Negative
  negative n q edge = (solved.closed.negative (flow n q) edge).polarity

  positive : (n q : ℕ) → HasFlow a n q → polarity_at a q ≡ Positive
  positive n q edge = (solved.closed.positive (flow n q) edge).polarity

  head_under : (q i : ℕ) → polarity_at a q ≡ Positive → Contains (laid.layout.parts q) i → IsUnder i (place q)
  head_under q i is there = under Lr i (place q) (head_below b.book Claims true Lr a special.automaton (IsRelatedIn c) (IsIn walked) place type_place laid.layout q i is there)

  edge_under : (n q : ℕ) → HasFlow a n q → IsUnder (place n) (place q)
  edge_under n q edge =
      under Lr (place n) (place q) (edge_below b.book Claims true Lr a special.automaton (IsRelatedIn c) (IsIn walked) place type_place laid.layout n q (negative n q edge) (positive n q edge) edge)

  leaf_under : (p n j : ℕ) → IsGoalOf c p n → Contains (laid.layout.parts n) j → IsUnder (place p) j
  leaf_under p n j is there =
      under Lr (place p) j
      (related_leaf b.book a (IsGoalOf c) solved.closed solved.goals solved.free general special solved.solved solved.closed_type walked solved.walk place type_place laid.layout true Lr p n j (goal is) (inl there))

  goal_under : (p n : ℕ) → IsGoalOf c p n → IsUnder (place p) (place n)
  goal_under p n is =
      under Lr (place p) (place n)
      (related_shown b.book a (IsGoalOf c) solved.closed solved.goals solved.free general special solved.solved solved.closed_type walked solved.walk place type_place laid.layout true Lr p n (goal is))

  in_one : (q i : ℕ) → IsTree b.book Positive (IsPlaceIn place (q ∷ [])) i → IsUnder (place q) i
  in_one q i tree = under Lr (place q) i (set_below b.book Claims true Lr place (q ∷ []) q i (Contains-here q []) tree)

  one_in : (n i : ℕ) → IsTree b.book Negative (IsPlaceIn place (n ∷ [])) i → IsUnder i (place n)
  one_in n i tree = under Lr i (place n) (set_above b.book Claims true Lr place (n ∷ []) n i (Contains-here n []) tree)

  one_flows : (n q i : ℕ) → HasFlow a n q → IsTree b.book Negative (IsPlaceIn place (n ∷ [])) i → IsUnder i (place q)
  one_flows n q i edge tree =
      under Lr i (place q)
      (set_below_edge b.book Claims true Lr a special.automaton (IsRelatedIn c) (IsIn walked) place type_place laid.layout (n ∷ []) n q i (Contains-here n []) (negative n q edge) (positive n q edge) edge tree)

  abbrev Asked : List ℕ → Concluded → ℕ → ℕ → List BinderNode → Type 0
  Asked = IsAsked b Own IsUnder Reads own_of laws

  module _ (of : ℕ → Concluded) (scope : List ℕ) (i : ℕ) (steps : List StepLine) (plan : List PlannedLine) (own : Concluded) where
    number_fits : (value : ℕ) → form_at b.term_nodes i ≡ Some (form.Number value) → polarity_at a (root i) ≡ Positive → IsLeafWritten b.book c standing names of node.Int i steps plan own → NodeFits steps plan own scope i
    number_fits value is_form is_q it =
        from_written steps plan _ own _ scope i it.plan_is it.own_is
        (number_written b Own IsUnder Reads own_of laws steps i value it.node (place (root i)) scope is_form it.is (laid.parts (root i) it.node it.there) (own_part (root i) it.node it.there) (head_under (root i) it.node is_q it.there))

    truth_fits : (value : Bool) → form_at b.term_nodes i ≡ Some (form.Truth value) → polarity_at a (root i) ≡ Positive → IsLeafWritten b.book c standing names of node.Bool i steps plan own → NodeFits steps plan own scope i
    truth_fits value is_form is_q it =
        from_written steps plan _ own _ scope i it.plan_is it.own_is
        (truth_written b Own IsUnder Reads own_of laws steps i value it.node (place (root i)) scope is_form it.is (laid.parts (root i) it.node it.there) (own_part (root i) it.node it.there) (head_under (root i) it.node is_q it.there))

    fun_fits : (x j : ℕ) → form_at b.term_nodes i ≡ Some (form.Fun x j) → polarity_at a (root i) ≡ Positive → HasArms a (root i) (binder x ∷ []) (root j ∷ [])
        → Has steps j (scope ++ x ∷ []) (of j) → IsFunWritten b.book c standing names of x j i steps plan own → NodeFits steps plan own scope i
    fun_fits x j is_form is_q arms has it =
        let trees = arrow_at b.book place Positive (parts_of (head_at a (root i))) (laid.layout.parts (root i)) (are_parts Positive (root i) is_q) it.arrow it.is.there (record { domain = binder x ∷ []; codomain = root j ∷ [] }) it.from it.to arms it.is.is in
        let low = low_ends (root i) it.arrow it.from it.to it.is.there it.is.is in
        let own_both = own_ends (root i) it.arrow it.from it.to it.is.there it.is.is in
        from_written steps plan _ own _ scope i it.plan_is it.own_is
        (fun_written b Own IsUnder Reads own_of laws steps i x j (place (root j)) (of j) it.offered it.inner it.outer it.arrow it.from.0 it.to.0 it.lines it.number (place (root i)) scope is_form it.is.is
        (laid.parts (root i) it.arrow it.is.there) low.0 (own_part (root i) it.arrow it.is.there) (head_under (root i) it.arrow is_q it.is.there) (one_in (binder x) it.from.0 trees.0)
        has (record { below = in_one (root j) it.to.0 trees.1; own = own_both.1; low = low.1; is_offered = it.offers }) it.with_binder it.without_binder it.brought)

    rec_fits : (x j : ℕ) → form_at b.term_nodes i ≡ Some (form.Rec x j) → root i ≡ root j → IsGoalOf c (root j) (binder x)
        → Has steps j (scope ++ x ∷ []) (of j) → IsRecWritten b.book c standing names of x j i steps plan own → NodeFits steps plan own scope i
    rec_fits x j is_form same is_goal has it =
        from_written steps plan _ own _ scope i it.plan_is it.own_is
        (subst (λ z. Writes b Own IsUnder Reads own_of laws steps i (place z) scope (it.lines ++ a_step_with (a_step i (rule.Rec it.number) it.outer (place (root j))) [] ∷ [])
        (by_rule (length (steps ++ planned_steps it.lines)) (a_step i (rule.Rec it.number) it.outer (place (root j))))) (sym same)
        (fix_written b Own IsUnder Reads own_of laws steps i x j (place (root j)) (of j) it.offered it.inner it.outer it.lines it.number scope is_form (goal_under (root j) (binder x) is_goal)
        has (record { below = laws.itself (place (root j)); own = own_place (root j); low = laid.places (root j); is_offered = it.offers }) it.with_binder it.without_binder it.brought))

    apply_fits : (j k : ℕ) → form_at b.term_nodes i ≡ Some (form.Apply j k) → Has steps j scope (of j) → Has steps k scope (of k) → IsApplyWritten b.book c standing names of j k i steps plan own → NodeFits steps plan own scope i
    apply_fits j k is_form has has' it =
        let is_goal_state = (solved.goals (root j) it.goal it.is_goal).1.polarity in
        let trees = arrow_at b.book place Negative (parts_of (head_at a it.goal)) (laid.layout.parts it.goal) (are_parts Negative it.goal is_goal_state) it.arrow it.is.there (record { domain = root k ∷ []; codomain = it.result ∷ [] }) it.from it.to it.arms it.is.is in
        let low = low_ends it.goal it.arrow it.from it.to it.is.there it.is.is in
        let own_both = own_ends it.goal it.arrow it.from it.to it.is.there it.is.is in
        from_written steps plan _ own _ scope i it.plan_is it.own_is
        (app_written b Own IsUnder Reads own_of laws steps i j k (place (root j)) (place (root k)) (of j) (of k) it.left it.right it.outer it.arrow it.from.0 it.to.0 it.lines it.more it.first it.second (place (root i)) scope is_form it.is.is
        low.1 own_both.1 (one_flows it.result (root i) it.to.0 it.flows trees.1)
        has (record { below = leaf_under (root j) it.goal it.arrow it.is_goal it.is.there; own = own_part it.goal it.arrow it.is.there; low = laid.parts it.goal it.arrow it.is.there; is_offered = it.offers_left })
        has' (record { below = in_one (root k) it.from.0 trees.0; own = own_both.0; low = low.0; is_offered = it.offers_right }) it.joins it.brought_first it.brought_second)

    if_fits : (j k l : ℕ) → form_at b.term_nodes i ≡ Some (form.If j k l) → Has steps j scope (of j) → Has steps k scope (of k) → Has steps l scope (of l)
        → IsIfWritten b.book c standing names of j k l i steps plan own → NodeFits steps plan own scope i
    if_fits j k l is_form has has' has'' it =
        from_written steps plan _ own _ scope i it.plan_is it.own_is
        (choice_written b Own IsUnder Reads own_of laws steps i j k l (place (root j)) (place (root k)) (place (root l)) (of j) (of k) (of l) it.left it.middle it.right it.upper it.outer it.truth (place it.result)
        it.lines it.more it.rest it.first it.second it.third (place (root i)) scope is_form it.is (edge_under it.result (root i) it.flows)
        has (record { below = leaf_under (root j) it.bit it.truth it.goal_first it.there; own = own_part it.bit it.truth it.there; low = laid.parts it.bit it.truth it.there; is_offered = it.offers_left })
        has' (record { below = goal_under (root k) it.result it.goal_second; own = own_place it.result; low = laid.places it.result; is_offered = it.offers_middle })
        has'' (record { below = goal_under (root l) it.result it.goal_third; own = own_place it.result; low = laid.places it.result; is_offered = it.offers_right })
        it.joins_upper it.joins it.brought_first it.brought_second it.brought_third)

    -- the record of a goal has the one field
    project_fits : (j : ℕ) (label : List ℕ) → form_at b.term_nodes i ≡ Some (form.Project j label) → Has steps j scope (of j) → IsProjectWritten b.book c standing names of j label i steps plan own → NodeFits steps plan own scope i
    project_fits j label is_form has it =
        from_written steps plan _ own _ scope i it.plan_is it.own_is
        (proj_written b Own IsUnder Reads own_of laws steps i j (place (root j)) label (of j) it.outer it.rcd it.to.0 it.lines it.number (place (root i)) scope is_form (it.is ∙ ap node.Rcd single)
        (at_found (λ k. k < length b.book) label it.others (low_fields it.goal it.rcd it.others it.there it.is) it.to it.found) (at_found Own label it.others (own_fields it.goal it.rcd it.others it.there it.is) it.to it.found)
        (one_flows it.result (root i) it.to.0 it.flows tree)
        has (record { below = leaf_under (root j) it.goal it.rcd it.is_goal it.there; own = own_part it.goal it.rcd it.there; low = laid.parts it.goal it.rcd it.there; is_offered = it.offers }) it.brought)
      where
        sets : List FieldSet
        sets = record { label = label; set = it.result ∷ [] } ∷ []

        field : (other : List ℕ) → IsFieldAt b.book place Negative (set_at sets other) (field_at other it.others)
        field other =
            record_at b.book place Negative (parts_of (head_at a it.goal)) (laid.layout.parts it.goal) (are_parts Negative it.goal (solved.goals (root j) it.goal it.is_goal).1.polarity) it.rcd it.there
            (set_at sets) it.others (ap (option_map set_at) it.fields) it.is other

        there : (k : NodeId) × (field_at label it.others ≡ Some k) × IsTree b.book Negative (IsPlaceIn place (it.result ∷ [])) k.0
        there =
            field_there b.book place Negative (it.result ∷ []) (field_at label it.others)
            (subst (λ o. IsFieldAt b.book place Negative o (field_at label it.others)) (ap (λ t. option_map (λ (f : FieldSet). f.set) (cond t (Some (record { label = label; set = it.result ∷ [] })) None)) ((bytes_eq-Decides label label).1 refl)) (field label))

        tree : IsTree b.book Negative (IsPlaceIn place (it.result ∷ [])) it.to.0
        tree =
            let same : there.0 ≡ it.to = (let h : Some there.0 ≡ Some it.to = sym there.1 ∙ it.found in cc) in
            subst (λ (z : NodeId). IsTree b.book Negative (IsPlaceIn place (it.result ∷ [])) z.0) same there.2

        other_label : (other : List ℕ) (t : Bool) → bytes_eq label other ≡ t → (o : Option NodeId) (k : NodeId) → o ≡ Some k
            → IsFieldAt b.book place Negative (option_map (λ (f : FieldSet). f.set) (cond t (Some (record { label = label; set = it.result ∷ [] })) None)) o → other ≡ label
        other_label other true e o k is h = sym ((bytes_eq-Decides label other).0 e)
        other_label other false e None k is h = absurd (cc)
        other_label other false e (Some m) k is h = absurd h

        single : it.others ≡ record { label = label; node = it.to } ∷ []
        single =
            one_field label it.others it.to (subst (IsOrdered it.rcd) it.is (laid.closed.book it.rcd)) it.found
            (λ other k found. other_label other (bytes_eq label other) refl (field_at other it.others) k found (field other))

    make_fits : (parts : List Part) (sets : List FieldSet) → form_at b.term_nodes i ≡ Some (form.Make parts) → polarity_at a (root i) ≡ Positive → (head_at a (root i)).fields ≡ Some sets
        → ((label : List ℕ) → IsSome (set_at sets label) ↔ Contains (map (λ (part : Part). part.label) parts) label)
        → (it : IsMakeWritten b.book c standing names of parts i steps plan own)
        → ArePartsAsked b Own IsUnder Reads own_of laws of (λ j. place (root j)) scope it.fields steps parts it.offered → NodeFits steps plan own scope i
    make_fits parts sets is_form is_q has labels it asked =
        from_written steps plan _ own _ scope i it.plan_is it.own_is
        (make_written b Own IsUnder Reads own_of laws of (λ j. place (root j)) scope it.fields steps i parts it.offered it.outer it.rcd it.lines it.numbers (place (root i)) is_form it.is labelled
        (laid.parts (root i) it.rcd it.there) (own_part (root i) it.rcd it.there) (head_under (root i) it.rcd is_q it.there) asked it.joins it.brought)
      where
        labelled : HaveLabelsOf parts it.fields
        labelled label =
            let both =
            field_some b.book place Positive (set_at sets label) (field_at label it.fields)
            (record_at b.book place Positive (parts_of (head_at a (root i))) (laid.layout.parts (root i)) (are_parts Positive (root i) is_q) it.rcd it.there (set_at sets) it.fields (ap (option_map set_at) has) it.is label) in
            (λ h. (labels label).0 (both.0 h), λ h. both.1 ((labels label).1 h))

    -- the field of a part of a record
    part_asked : (sets : List FieldSet) (part : Part) (rcd : ℕ) (fields : List Field) (offered : List BinderNode) → polarity_at a (root i) ≡ Positive → (head_at a (root i)).fields ≡ Some sets
        → Contains (laid.layout.parts (root i)) rcd → node_at b.book rcd ≡ node.Rcd fields → set_at sets part.label ≡ Some (root part.child ∷ []) → Has steps part.child scope (of part.child)
        → (field : NodeId) × (field_at part.label fields ≡ Some field) × IsOffered (node_of b.book c standing names of) (of part.child) field.0 offered
        → IsPartAsked b Own IsUnder Reads own_of laws of (λ j. place (root j)) scope fields steps part offered
    part_asked sets part rcd fields offered is_q has there is set concludes (field, found, offers) =
        let at_label =
        field_there b.book place Positive (root part.child ∷ []) (field_at part.label fields)
        (subst (λ o. IsFieldAt b.book place Positive o (field_at part.label fields)) set
        (record_at b.book place Positive (parts_of (head_at a (root i))) (laid.layout.parts (root i)) (are_parts Positive (root i) is_q) rcd there (set_at sets) fields (ap (option_map set_at) has) is part.label)) in
        let same : at_label.0 ≡ field = (let h : Some at_label.0 ≡ Some field = sym at_label.1 ∙ found in cc) in
        record {
          field = field;
          found = found;
          has = concludes;
          asked = record {
            below = in_one (root part.child) field.0 (subst (λ (z : NodeId). IsTree b.book Positive (IsPlaceIn place (root part.child ∷ [])) z.0) same at_label.2);
            own = at_found Own part.label fields (own_fields (root i) rcd fields there is) field found;
            low = at_found (λ k. k < length b.book) part.label fields (low_fields (root i) rcd fields there is) field found;
            is_offered = offers;
          };
        }

    -- what is read of the type of a name, where more variables stand for nodes
    read_type : (top : ℕ) (copied : IsCopyAt b a standing names lets IsPlace Own i top) (puts : List Put) → puts ≡ copied.puts → copied.copy top ≡ root i
        → (more : List Put) → Extends b.book Own puts more → Along (Reads more) IsUnder Lr (copied.known_place top) (place (root i))
    read_type top copied puts same is_root more extends = (
      place (root i),
      subst (λ z. Reads more Lr (copied.known_place top) (place z)) is_root
          (claimed refl (record {
            at = i;
            top = top;
            copied = copied;
            same = λ x n e. extends.same x n (subst (λ (l : List Put). put_at l x ≡ Some n) (sym same) e);
            claim = below_copy top copied.at_top copied.is_positive refl refl refl;
          })),
      laws.itself (place (root i)),
    )

    read_binder : (top : ℕ) (copied : IsCopyAt b a standing names lets IsPlace Own i top) (puts : List Put) → ((x n : ℕ) → put_at copied.puts x ≡ Some n → put_at puts x ≡ Some n) → (x n : ℕ)
        → (s : ℕ) × (n ≡ copied.known_place s) × IsPlace i s × (copied.sign s ≡ Negative) × (copied.copy s ≡ binder x) → IsBinderAbove b Own IsUnder Reads own_of puts (own_of x) n
    read_binder top copied puts same x n (s, is, at_s, is_negative, at_binder) =
        one (
          own_of x,
          laws.itself (own_of x),
          subst (Reads puts Rl (own_of x)) (sym is)
              (subst (λ z. Reads puts Rl (place z) (copied.known_place s)) at_binder
              (claimed refl (record { at = i; top = top; copied = copied; same = same; claim = above_copy s at_s is_negative refl refl refl }))),
        )

    global_fits : (g : ℕ) → form_at b.term_nodes i ≡ Some (form.Global g) → IsGlobalRead b a standing names lets IsPlace Own i g → IsGlobalWritten b.book c standing names of g i steps plan own → NodeFits steps plan own scope i
    global_fits g is_form known it =
        from_written steps plan _ own _ scope i it.plan_is it.own_is
        (global_written b Own IsUnder Reads own_of laws steps i g (names.from g) (names.type g) known.scheme (names.puts i) (place (root i)) scope is_form known.known known.stands known.type known.inside
        (λ x n e. known.copied.low x n (subst (λ (l : List Put). put_at l x ≡ Some n) known.puts e))
        (λ more extends. subst (λ t. Along (Reads more) IsUnder Lr t (place (root i))) (sym known.at_top) (read_type known.top known.copied (names.puts i) known.puts known.is_root more extends)))

    -- what is known of a let behind these steps
    pub record KnowsStep (k : ℕ) : Type 0 where
      pub found : env.find nat_cmp k b.lets ≡ Some (names.step k)
      pub says : Says (at b steps) (names.step k) (names.first k).part (concluded b (names.first k).env (names.first k).type)

    inner_fits : (k : ℕ) → form_at b.term_nodes i ≡ Some (form.Inner k) → KnowsStep k → IsInnerRead b a standing names lets IsPlace Own scope i k
        → IsInnerWritten b.book c standing names of k i steps plan own → NodeFits steps plan own scope i
    inner_fits k is_form knows known it =
        from_written steps plan _ own _ scope i it.plan_is it.own_is
        (inner_written b Own IsUnder Reads own_of laws steps i k (names.step k) (names.first k).part (names.first k).type (names.binders k) (names.puts i) (place (root i)) scope is_form knows.found
        (subst (λ (d : Env). Says (at b steps) (names.step k) (names.first k).part (concluded b d (names.first k).type)) known.env knows.says)
        known.fits (λ x n e. known.copied.low x n (subst (λ (l : List Put). put_at l x ≡ Some n) known.puts e))
        (λ more extends. subst (λ t. Along (Reads more) IsUnder Lr t (place (root i))) (sym known.at_top) (read_type known.top known.copied (names.puts i) known.puts known.is_root more extends))
        (λ x n found.
        let w = known.bound x n (ap (λ (d : Env). env.get d x) known.env ∙ found) in (
          w.0,
          λ more extends.
              read_binder known.top known.copied more (λ y m e. extends.same y m (subst (λ (l : List Put). put_at l y ≡ Some m) (sym known.puts) e)) x n (w.1, w.2, w.3, w.4, w.5),
        )))

    let_beside : (k j : ℕ) (known : IsLetRead b a standing names lets IsPlace Own scope i k j) (puts more : List Put) → (more ≡ names.puts i) ⊎ ((more ≡ []) × ((x : ℕ) → env.get (names.first k).env x ≡ None))
        → ((x n : ℕ) → put_at more x ≡ Some n → put_at puts x ≡ None) → AreBeside b Own IsUnder Reads own_of laws puts more
    let_beside k j known puts more (inl same) apart = record {
      clear = subst (AreClear b.book Own) (sym (same ∙ known.puts)) known.clear;
      apart = apart;
      low = λ x n e. known.copied.low x n (subst (λ (l : List Put). put_at l x ≡ Some n) (same ∙ known.puts) e);
    }
    let_beside k j known puts more (inr none) apart = record {
      clear = subst (AreClear b.book Own) (sym none.0) (λ m x own_m is. refl);
      apart = apart;
      low = λ x n e. let it : put_at [] x ≡ Some n = subst (λ (l : List Put). put_at l x ≡ Some n) none.0 e in absurd (cc);
    }

    let_binder : (k j : ℕ) (known : IsLetRead b a standing names lets IsPlace Own scope i k j) (more : List Put) → (more ≡ names.puts i) ⊎ ((more ≡ []) × ((x : ℕ) → env.get (names.first k).env x ≡ None))
        → (x m : ℕ) → env.get (names.first k).env x ≡ Some m
        → Contains scope x × ((all : List Put) → ((y n : ℕ) → put_at more y ≡ Some n → put_at all y ≡ Some n) → IsBinderAbove b Own IsUnder Reads own_of all (own_of x) m)
    let_binder k j known more (inl same) x m found =
        let w = known.bound x m found in (
          w.0,
          λ all extends.
              read_binder known.top known.copied all (λ y n e. extends y n (subst (λ (l : List Put). put_at l y ≡ Some n) (sym (same ∙ known.puts)) e)) x m (w.1, w.2, w.3, w.4, w.5),
        )
    let_binder k j known more (inr none) x m found = let no : env.get (names.first k).env x ≡ None = none.1 x in absurd (cc)

    met_low : (k j : ℕ) (known : IsLetRead b a standing names lets IsPlace Own scope i k j) (d met : Env) → IsMeet b.book (names.first k).env d met → ((x n : ℕ) → env.get d x ≡ Some n → n < length b.book)
        → (x n : ℕ) → env.get met x ≡ Some n → n < length b.book
    met_low k j known d met meets low x n found = go (env.get (names.first k).env x) (env.get d x) (env.get met x) refl refl found (meets x)
      where
        go : (l r o : Option ℕ) → env.get (names.first k).env x ≡ l → env.get d x ≡ r → o ≡ Some n → IsMeetAt b.book l r o → n < length b.book
        go None r o is_l is_r is_n at_x = low x n (is_r ∙ (sym at_x ∙ is_n))
        go (Some m) None o is_l is_r is_n at_x =
            let same : m ≡ n = (let h : Some m ≡ Some n = sym at_x ∙ is_n in cc) in
            subst (λ z. z < length b.book) same (known.low x m is_l)
        go (Some m) (Some m') o is_l is_r is_n (q, is_q, is_meet) =
            let same : q ≡ n = (let h : Some q ≡ Some n = sym is_q ∙ is_n in cc) in
            subst (λ z. z < length b.book) same (node_low b.book q (λ e. absurd (cc)))

    let_fits : (k j l : ℕ) → form_at b.term_nodes i ≡ Some (form.Let k j l) → root i ≡ root l → KnowsStep k → IsLetRead b a standing names lets IsPlace Own scope i k j → Has steps l scope (of l)
        → IsLetWritten b.book c standing names of k l i steps plan own → NodeFits steps plan own scope i
    let_fits k j l is_form same knows known has it =
        from_written steps plan _ own _ scope i it.plan_is it.own_is
        (subst (λ z. Writes b Own IsUnder Reads own_of laws steps i (place z) scope (it.lines ++ a_step_with (a_step i (rule.Let (names.step k) it.second.number) it.met it.second.type) [] ∷ [])
        (record { number = length (steps ++ planned_steps it.lines); type = it.second.type; env = it.met; puts = it.second.puts ++ it.more })) (sym same)
        (writes_behind b Own IsUnder Reads own_of laws steps it.lines _ i (place (root l)) scope _ settles.good
        (let_written b Own IsUnder Reads own_of laws (steps ++ planned_steps it.lines) i (names.step k) k j l (names.first k).env (names.first k).type (place (root l)) scope it.second it.met it.more is_form knows.found
        (says_then b (planned_steps it.lines) steps (names.step k) j (concluded b (names.first k).env (names.first k).type)
        (subst (λ z. Says (at b steps) (names.step k) z (concluded b (names.first k).env (names.first k).type)) known.part knows.says))
        settles.concludes it.meets
        (record {
          scheme = record {
            book = laid.closed;
            root = settles.concludes.fits.scheme.root;
            env = met_low k j known (env_of it.second.env) (env_of it.met) it.meets settles.concludes.fits.scheme.env;
          };
          rising = it.rising;
        })
        (let_beside k j known it.second.puts it.more it.puts it.apart) (let_binder k j known it.more it.puts))))
      where
        settles : Settles b Own IsUnder Reads own_of laws steps l (place (root l)) scope it.lines it.second
        settles = settled_concludes b Own IsUnder Reads own_of laws steps l (place (root l)) scope (of l) it.lines it.second has (laid.places (root l)) (own_place (root l)) it.settles

    bound_fits : (x : ℕ) → form_at b.term_nodes i ≡ Some (form.Bound x) → Contains scope x → HasFlow a (binder x) (root i) → (plan ≡ []) × (own ≡ a_binder x) → NodeFits steps plan own scope i
    bound_fits x is_form there edge (none, is) =
        subst (λ (l : List PlannedLine). NodeFits steps l own scope i) (sym none)
        (subst (λ o. NodeFits steps [] o scope i) (sym is)
        (record {
          good = good_none b steps;
          has = (is_form, edge_under (binder x) (root i) edge, there);
          ends = λ s e. absurd (cc);
        }))

  -- the nodes of a part
  module _ (begun : List StepLine) (members : List ℕ) (writing : IsWriting b c standing names begun members)
      (found : (k : ℕ) → Contains lets k → env.find nat_cmp k b.lets ≡ Some (names.step k))
      (said : (k : ℕ) → Contains lets k → Says (at b begun) (names.step k) (names.first k).part (concluded b (names.first k).env (names.first k).type)) where
    abbrev pub Fitting : List ℕ → ℕ → Type 0
    Fitting scope i = NodeFits (writing.steps i) (writing.plan i) (writing.of i) scope i

    abbrev pub Posed : List ℕ → ℕ → TermTree → Type 0
    Posed = IsPosed b.term_nodes a (IsGoalOf c) root binder (IsUseRead b a standing names lets IsPlace Own)

    abbrev pub PartsPosed : List ℕ → List FieldSet → List Part → TermFields → Type 0
    PartsPosed = ArePosed b.term_nodes a (IsGoalOf c) root binder (IsUseRead b a standing names lets IsPlace Own)

    has_before : (scope : List ℕ) (j i : ℕ) → IsBefore writing.steps writing.plan j i → Fitting scope j → Has (writing.steps i) j scope (writing.of j)
    has_before scope j i before fits =
        subst (λ (l : List StepLine). Has l j scope (writing.of j)) (sym before.1)
        (has_then b Own IsUnder Reads own_of laws (writing.steps j ++ planned_steps (writing.plan j)) before.0 j (place (root j)) scope (writing.of j) fits.has)

    knows : (scope : List ℕ) (i k : ℕ) → Contains members i → Contains lets k → KnowsStep writing.of scope i (writing.steps i) (writing.plan i) (writing.of i) k
    knows scope i k there known = record {
      found = found k known;
      says =
          let begins = writing.begins i there in
          subst (λ (l : List StepLine). Says (at b l) (names.step k) (names.first k).part (concluded b (names.first k).env (names.first k).type)) (sym begins.1)
          (says_then b begins.0 begun (names.step k) (names.first k).part (concluded b (names.first k).env (names.first k).type) (said k known));
    }

    mutual
      -- by induction over the tree
      pub node_fits : (t : TermTree) (scope : List ℕ) (i : ℕ) → Contains members i → Posed scope i t → Fitting scope i
      node_fits (bound at x) scope i there it =
          bound_fits writing.of scope i (writing.steps i) (writing.plan i) (writing.of i) x it.0 it.1 it.2 (writing.forms i (form.Bound x) there it.0)
      node_fits (a_let_name at k) scope i there it =
          let known = subst (IsReadAs b a standing names lets IsPlace Own scope i) it.0 it.1 in
          inner_fits writing.of scope i (writing.steps i) (writing.plan i) (writing.of i) k it.0 (knows scope i k there known.known) known (writing.forms i (form.Inner k) there it.0)
      node_fits (global at g) scope i there it =
          global_fits writing.of scope i (writing.steps i) (writing.plan i) (writing.of i) g it.0 (subst (IsReadAs b a standing names lets IsPlace Own scope i) it.0 it.1) (writing.forms i (form.Global g) there it.0)
      node_fits (a_number at value) scope i there it =
          number_fits writing.of scope i (writing.steps i) (writing.plan i) (writing.of i) value it.0 it.1 (writing.forms i (form.Number value) there it.0)
      node_fits (truth at value) scope i there it =
          truth_fits writing.of scope i (writing.steps i) (writing.plan i) (writing.of i) value it.0 it.1 (writing.forms i (form.Truth value) there it.0)
      node_fits (fun at x e) scope i there (j, is_form, above, is_q, arms, it) =
          let before = writing.before i (form.Fun x j) there is_form in
          fun_fits writing.of scope i (writing.steps i) (writing.plan i) (writing.of i) x j is_form is_q arms
          (has_before (scope ++ x ∷ []) j i before.1 (node_fits e (scope ++ x ∷ []) j before.0 it)) (writing.forms i (form.Fun x j) there is_form)
      node_fits (apply at e f) scope i there (j, k, g, n, is_form, arms, is_goal, edge, it, it') =
          let before = writing.before i (form.Apply j k) there is_form in
          apply_fits writing.of scope i (writing.steps i) (writing.plan i) (writing.of i) j k is_form
          (has_before scope j i before.1 (node_fits e scope j before.0 it)) (has_before scope k i before.3 (node_fits f scope k before.2 it')) (writing.forms i (form.Apply j k) there is_form)
      node_fits (make at fields) scope i there (parts, sets, is_form, is_q, has, labels, it) =
          let written = writing.forms i (form.Make parts) there is_form in
          make_fits writing.of scope i (writing.steps i) (writing.plan i) (writing.of i) parts sets is_form is_q has labels written
          (fields_fit fields scope i sets parts written.offered written.rcd written.fields is_q has written.there written.is it (writing.before i (form.Make parts) there is_form) written.offers)
      node_fits (project at e label) scope i there (j, g, n, is_form, has, is_goal, edge, it) =
          let before = writing.before i (form.Project j label) there is_form in
          project_fits writing.of scope i (writing.steps i) (writing.plan i) (writing.of i) j label is_form
          (has_before scope j i before.1 (node_fits e scope j before.0 it)) (writing.forms i (form.Project j label) there is_form)
      node_fits (choice at q e f) scope i there (j, k, l, bit, n, is_form, has, goal1, goal2, goal3, edge, it, it', it'') =
          let before = writing.before i (form.If j k l) there is_form in
          if_fits writing.of scope i (writing.steps i) (writing.plan i) (writing.of i) j k l is_form
          (has_before scope j i before.1 (node_fits q scope j before.0 it)) (has_before scope k i before.3 (node_fits e scope k before.2 it')) (has_before scope l i before.5 (node_fits f scope l before.4 it''))
          (writing.forms i (form.If j k l) there is_form)
      node_fits (local at k e f) scope i there (j, l, is_form, same, use_at, it) =
          let before = writing.before i (form.Let k j l) there is_form in
          let known = subst (IsReadAs b a standing names lets IsPlace Own scope i) is_form use_at in
          let_fits writing.of scope i (writing.steps i) (writing.plan i) (writing.of i) k j l is_form same (knows scope i k there known.known) known
          (has_before scope l i before.1 (node_fits f scope l before.0 it)) (writing.forms i (form.Let k j l) there is_form)
      node_fits (fix at x e) scope i there (j, is_form, above, same, is_goal, it) =
          let before = writing.before i (form.Rec x j) there is_form in
          rec_fits writing.of scope i (writing.steps i) (writing.plan i) (writing.of i) x j is_form same is_goal
          (has_before (scope ++ x ∷ []) j i before.1 (node_fits e (scope ++ x ∷ []) j before.0 it)) (writing.forms i (form.Rec x j) there is_form)

      fields_fit : (fields : TermFields) (scope : List ℕ) (i : ℕ) (sets : List FieldSet) (parts : List Part) (offered : List (List BinderNode)) (rcd : ℕ) (others : List Field)
          → polarity_at a (root i) ≡ Positive → (head_at a (root i)).fields ≡ Some sets → Contains (laid.layout.parts (root i)) rcd → node_at b.book rcd ≡ node.Rcd others
          → PartsPosed scope sets parts fields → ((part : Part) → Contains parts part → Contains members part.child × IsBefore writing.steps writing.plan part.child i)
          → AreOffered b.book c standing names writing.of others parts offered
          → ArePartsAsked b Own IsUnder Reads own_of laws writing.of (λ j. place (root j)) scope others (writing.steps i) parts offered
      fields_fit no_field scope i sets parts offered rcd others is_q has there is none before offers =
          no_parts writing.of (writing.steps i) scope parts offered others none offers
      fields_fit (a_field label e rest) scope i sets [] offered rcd others is_q has there is (j, later, are, set, it, it') before offers = absurd (cc)
      fields_fit (a_field label e rest) scope i sets (part ∷ parts) [] rcd others is_q has there is (j, later, are, set, it, it') before offers = absurd offers
      fields_fit (a_field label e rest) scope i sets (part ∷ parts) (one_offered ∷ offered) rcd others is_q has there is (j, later, are, set, it, it') before offers =
          let same_part : part ≡ record { label = label; child = j } = cc in
          let same_later : parts ≡ later = cc in
          let first = before part (Contains-here part parts) in
          let is_child : part.child ≡ j = ap (λ (p : Part). p.child) same_part in
          let is_label : part.label ≡ label = ap (λ (p : Part). p.label) same_part in (
            part_asked writing.of scope i (writing.steps i) (writing.plan i) (writing.of i) sets part rcd others one_offered is_q has there is
                ((λ n. set_at sets (is_label n)) ∙ (set ∙ ap (λ z. Some (root z ∷ [])) (sym is_child)))
                (has_before scope part.child i first.1 (subst (Fitting scope) (sym is_child) (node_fits e scope j (subst (Contains members) is_child first.0) it)))
                offers.0,
            fields_fit rest scope i sets parts offered rcd others is_q has there is (subst (λ (ps : List Part). PartsPosed scope sets ps rest) (sym same_later) it')
                (λ other at_other. before other (Contains-later part parts other at_other)) offers.1,
          )
