-- The lines of a part, whole: those of all its nodes, and those that bring its root to its type.
--     nodes_good      the lines of each node are good
--     all_good        and so are all of them in order
--     part_written    a plan leads to a step about the part, with its type
use Rattle.std.proofs.Common.{◌≡◌, ◌⊎◌, inl, inr, ℕ, suc, ◌<◌, true, List, [], ◌∷◌, ◌++◌, length, refl, sym, ap, ◌∙◌, subst, arith, append-nil, append_assoc, Some}
use Rattle.std.specs.Prelude.{Contains}
use Rattle.std.specs.List.{flat_map}
use Rattle.std.specs.FinMap as env
use Rattle.std.specs.Ordering.{nat_cmp}
use Rattle.mls_book.specs.Books.{node_at}
use Rattle.mls_book.specs.Schemes.{Env}
use Rattle.mls_automaton.specs.declared.automaton.FieldSet.{FieldSet}
use Rattle.mls_automaton.specs.declared.automaton.Polarity.TheVariants.{Negative}
use Rattle.mls_automaton.specs.declared.scheme.Scheme as type_scheme
use Rattle.mls_automaton.specs.Automata.{polarity_at}
use Rattle.mls_automaton.proofs.Lists.{Contains-here, Contains-later, Contains-cases}
use Rattle.std.proofs.lemmas.List.Elements.{Contains-push}
use Rattle.mls_subsume.specs.declared.verdict.StatePair.{StatePair}
use Rattle.mls_subsume.specs.Walks.{IsIn}
use Rattle.mls_term.specs.declared.term.Part.{Part}
use Rattle.mls_term.specs.declared.term.TermForm.{TermForm}
use Rattle.mls_term.specs.declared.term.TermForm.TheVariants as form
use Rattle.mls_term.specs.Terms.{TermTree, TermFields, bound, inner as a_let_name, global, number as a_number, truth, fun, apply, make, project, choice, local, fix, no_field, a_field}
use Rattle.mls_deriv.specs.declared.derivation.BinderNode.{BinderNode}
use Rattle.mls_deriv.specs.declared.derivation.Mode.TheVariants.{Lr, Rl}
use Rattle.mls_deriv.specs.declared.derivation.StepLine.{StepLine}
use Rattle.mls_deriv.specs.declared.derivation.StepRule.TheVariants as rule
use Rattle.mls_deriv.specs.Steps.{env_of, form_at, Before, Says}
use Rattle.mls_lines.specs.Conclusions.{IsGood, Conclusion, Concluded, a_binder, by_step, IsAdapted, as_it_is, by_pairs, bound_as, IsBrought}
use Rattle.mls_layout.specs.Parts.{Constraint, IsGoalOf, IsSolvedTo, IsLaidOut}
use Rattle.mls_layout.specs.Plans.{PlannedLine, planned_steps}
use Rattle.mls_layout.specs.Rows.{at, concluded, Fits, EndsWith, HasRow}
use Rattle.mls_layout.specs.Runs.{a_step}
use Rattle.mls_layout.specs.Scopes.{entry}
use Rattle.mls_layout.specs.Uses.{NamesOnly}
use Rattle.mls_lines.specs.NodeLines.{NamesKnown}
use Rattle.mls_lines.specs.Writings.{IsPartOf, IsNodeOf, itself, within, AreInOrder, IsWriting}
use Rattle.mls_allowed.proofs.Conclusions.{good_none, good_then, says_then, above_before, above_itself, by_above, CoversAll, Brings, brought}
use Rattle.mls_allowed.proofs.PartClaims.{below_type_shown, above_type_shown}
use Rattle.mls_lines.proofs.Bringing.{planned_append}
use Rattle.mls_allowed.proofs.WrittenParts.{standing, IsUnder, Reads, laws, under, Has, Fitting, Posed, PartsPosed, node_fits}

-- the last step of what brings a conclusion to a type
adapted_ends : (steps : List StepLine) (c : Conclusion) (count part : ℕ) (d : List BinderNode) (u : ℕ) (plan : List PlannedLine) (number : ℕ) → EndsWith steps part (env_of c.env) c.type
    → IsAdapted c count part d u plan number → EndsWith (steps ++ planned_steps plan) part (env_of d) u
adapted_ends steps c count part d u plan number ends (as_it_is none same_type same_env) =
    subst (λ (l : List StepLine). EndsWith l part (env_of d) u) (sym (append-nil steps))
    (subst (λ z. EndsWith steps part (env_of d) z) same_type (subst (λ (z : List BinderNode). EndsWith steps part (env_of z) c.type) same_env ends))
adapted_ends steps c count part d u plan number ends by_pairs = record {
  earlier = steps;
  last = a_step part (rule.Sub c.number) d u;
  is = refl;
  about = refl;
  env = refl;
  root = refl;
}

brought_ends : (steps : List StepLine) (own : Concluded) (count part : ℕ) (d : List BinderNode) (u : ℕ) (plan : List PlannedLine) (number : ℕ) → ((s : Conclusion) → own ≡ by_step s → EndsWith steps part (env_of s.env) s.type)
    → IsBrought own count part d u plan number → EndsWith (steps ++ planned_steps plan) part (env_of d) u
brought_ends steps (by_step s) count part d u plan number ends adapts = adapted_ends steps s count part d u plan number (ends s refl) adapts
brought_ends steps (a_binder x) count part d u plan number ends (rest, is, adapts) =
    let step = a_step part rule.Var (entry x u ∷ []) u in
    subst (λ (l : List PlannedLine). EndsWith (steps ++ planned_steps l) part (env_of d) u) (sym is)
    (subst (λ (l : List StepLine). EndsWith l part (env_of d) u) (append_assoc steps (step ∷ []) (planned_steps rest))
    (adapted_ends (steps ++ step ∷ []) (bound_as x u count) (suc count) part d u rest number (record { earlier = steps; last = step; is = refl; about = refl; env = refl; root = refl }) adapts))

-- good plans in order
all_good : (b : Before) (steps : ℕ → List StepLine) (plan : ℕ → List PlannedLine) (members : List ℕ) (begun : List StepLine) → AreInOrder steps plan begun members
    → ((i : ℕ) → Contains members i → IsGood b (steps i) (plan i)) → IsGood b begun (flat_map plan members)
all_good b steps plan [] begun in_order good = good_none b begun
all_good b steps plan (i ∷ rest) begun in_order good =
    good_then b begun (plan i) (flat_map plan rest) (subst (λ (l : List StepLine). IsGood b l (plan i)) in_order.0 (good i (Contains-here i rest)))
    (all_good b steps plan rest (begun ++ planned_steps (plan i)) in_order.1 (λ j there. good j (Contains-later i rest j there)))

-- the last node's lines are the last ones
last_steps : (steps : ℕ → List StepLine) (plan : ℕ → List PlannedLine) (earlier : List ℕ) (r : ℕ) (begun : List StepLine) → AreInOrder steps plan begun (earlier ++ r ∷ [])
    → begun ++ planned_steps (flat_map plan (earlier ++ r ∷ [])) ≡ steps r ++ planned_steps (plan r)
last_steps steps plan [] r begun in_order =
    ap (λ (l : List PlannedLine). begun ++ planned_steps l) (append-nil (plan r)) ∙ ap (λ (l : List StepLine). l ++ planned_steps (plan r)) (sym in_order.0)
last_steps steps plan (i ∷ earlier) r begun in_order =
    ap (λ (l : List StepLine). begun ++ l) (planned_append (plan i) (flat_map plan (earlier ++ r ∷ [])))
    ∙ (sym (append_assoc begun (planned_steps (plan i)) (planned_steps (flat_map plan (earlier ++ r ∷ []))))
    ∙ last_steps steps plan earlier r (begun ++ planned_steps (plan i)) in_order.1)

module _ (b : Before) (c : Constraint) (general special : type_scheme.Scheme) (walked : List StatePair) (solved : IsSolvedTo c general special walked)
    (place type_place : ℕ → ℕ) (laid : IsLaidOut b.book c special walked place type_place) (root binder : ℕ → ℕ) (names : NamesKnown) (lets : List ℕ) (IsPlace : ℕ → ℕ → Type 0)
    (Own : ℕ → Type 0) (children : (i : ℕ) → Own i → NamesOnly Own (node_at b.book i)) (own_place : (s : ℕ) → Own (place s))
    (own_part : (s i : ℕ) → Contains (laid.layout.parts s) i → Own i)
    (begun : List StepLine) (members : List ℕ)
    (writing : IsWriting b c (standing b c general special walked solved place type_place laid root binder names lets IsPlace Own children own_place own_part) names begun members)
    (found : (k : ℕ) → Contains lets k → env.find nat_cmp k b.lets ≡ Some (names.step k))
    (said : (k : ℕ) → Contains lets k → Says (at b begun) (names.step k) (names.first k).part (concluded b (names.first k).env (names.first k).type)) where
  abbrev Fits_at : List ℕ → ℕ → Type 0
  Fits_at = Fitting b c general special walked solved place type_place laid root binder names lets IsPlace Own children own_place own_part begun members writing found said

  abbrev Posed_at : List ℕ → ℕ → TermTree → Type 0
  Posed_at = Posed b c general special walked solved place type_place laid root binder names lets IsPlace Own children own_place own_part begun members writing found said

  abbrev Parts_at : List ℕ → List FieldSet → List Part → TermFields → Type 0
  Parts_at = PartsPosed b c general special walked solved place type_place laid root binder names lets IsPlace Own children own_place own_part begun members writing found said

  fits_at : (t : TermTree) (scope : List ℕ) (i : ℕ) → Contains members i → Posed_at scope i t → Fits_at scope i
  fits_at = node_fits b c general special walked solved place type_place laid root binder names lets IsPlace Own children own_place own_part begun members writing found said

  abbrev Good : ℕ → Type 0
  Good k = IsGood b (writing.steps k) (writing.plan k)

  -- a node of an expression is the expression itself, or stands in one of its parts
  split : (i m : ℕ) (f : TermForm) → form_at b.term_nodes i ≡ Some f → IsNodeOf b.term_nodes i m → (i ≡ m) ⊎ ((j : ℕ) × IsPartOf f j × IsNodeOf b.term_nodes j m)
  split i m f is itself = inl refl
  split i m f is (within j g is_g part node) =
      let same : g ≡ f = (let h : Some g ≡ Some f = sym is_g ∙ is in cc) in
      inr (j, subst (λ (z : TermForm). IsPartOf z j) same part, node)

  own_or : (i m : ℕ) (f : TermForm) → form_at b.term_nodes i ≡ Some f → IsNodeOf b.term_nodes i m → Good i → ((j : ℕ) → IsPartOf f j → IsNodeOf b.term_nodes j m → Good m) → Good m
  own_or i m f is node own parts = go (split i m f is node)
    where
      go : (i ≡ m) ⊎ ((j : ℕ) × IsPartOf f j × IsNodeOf b.term_nodes j m) → Good m
      go (inl same) = subst Good same own
      go (inr it) = parts it.0 it.1 it.2

  from_one : (j k m : ℕ) → (IsNodeOf b.term_nodes j m → Good m) → j ≡ k → IsNodeOf b.term_nodes k m → Good m
  from_one j k m all same node = all (subst (λ z. IsNodeOf b.term_nodes z m) (sym same) node)

  from_two : (j k l m : ℕ) → (IsNodeOf b.term_nodes j m → Good m) → (IsNodeOf b.term_nodes k m → Good m) → (j ≡ l) ⊎ (k ≡ l) → IsNodeOf b.term_nodes l m → Good m
  from_two j k l m all other (inl same) node = from_one j l m all same node
  from_two j k l m all other (inr same) node = from_one k l m other same node

  mutual
    pub nodes_good : (t : TermTree) (scope : List ℕ) (i : ℕ) → Contains members i → Posed_at scope i t → (m : ℕ) → IsNodeOf b.term_nodes i m → Good m
    nodes_good (bound at x) scope i there it m node = own_or i m (form.Bound x) it.0 node (fits_at (bound at x) scope i there it).good (λ j part n. absurd part)
    nodes_good (a_let_name at k) scope i there it m node = own_or i m (form.Inner k) it.0 node (fits_at (a_let_name at k) scope i there it).good (λ j part n. absurd part)
    nodes_good (global at g) scope i there it m node = own_or i m (form.Global g) it.0 node (fits_at (global at g) scope i there it).good (λ j part n. absurd part)
    nodes_good (a_number at value) scope i there it m node = own_or i m (form.Number value) it.0 node (fits_at (a_number at value) scope i there it).good (λ j part n. absurd part)
    nodes_good (truth at value) scope i there it m node = own_or i m (form.Truth value) it.0 node (fits_at (truth at value) scope i there it).good (λ j part n. absurd part)
    nodes_good (fun at x e) scope i there (j, is_form, above, is_q, arms, it) m node =
        own_or i m (form.Fun x j) is_form node (fits_at (fun at x e) scope i there (j, is_form, above, is_q, arms, it)).good
        (λ k part n. from_one j k m (nodes_good e (scope ++ x ∷ []) j (writing.before i (form.Fun x j) there is_form).0 it m) part n)
    nodes_good (apply at e f) scope i there (j, k, g, n, is_form, arms, is_goal, edge, it, it') m node =
        let before = writing.before i (form.Apply j k) there is_form in
        own_or i m (form.Apply j k) is_form node (fits_at (apply at e f) scope i there (j, k, g, n, is_form, arms, is_goal, edge, it, it')).good
        (λ l part node'. from_two j k l m (nodes_good e scope j before.0 it m) (nodes_good f scope k before.2 it' m) part node')
    nodes_good (make at fields) scope i there (parts, sets, is_form, is_q, has, labels, it) m node =
        let before = writing.before i (form.Make parts) there is_form in
        own_or i m (form.Make parts) is_form node (fits_at (make at fields) scope i there (parts, sets, is_form, is_q, has, labels, it)).good
        (λ l part node'. fields_good fields scope sets parts it (λ p at_p. (before p at_p).0) m part.0 part.1 (subst (λ z. IsNodeOf b.term_nodes z m) (sym part.2) node'))
    nodes_good (project at e label) scope i there (j, g, n, is_form, has, is_goal, edge, it) m node =
        own_or i m (form.Project j label) is_form node (fits_at (project at e label) scope i there (j, g, n, is_form, has, is_goal, edge, it)).good
        (λ k part n'. from_one j k m (nodes_good e scope j (writing.before i (form.Project j label) there is_form).0 it m) part n')
    nodes_good (choice at q e f) scope i there (j, k, l, bit, n, is_form, has, goal1, goal2, goal3, edge, it, it', it'') m node =
        let before = writing.before i (form.If j k l) there is_form in
        own_or i m (form.If j k l) is_form node (fits_at (choice at q e f) scope i there (j, k, l, bit, n, is_form, has, goal1, goal2, goal3, edge, it, it', it'')).good
        (λ z part node'. elim part [
          | inl same ↦ from_one j z m (nodes_good q scope j before.0 it m) same node'
          | inr later ↦ from_two k l z m (nodes_good e scope k before.2 it' m) (nodes_good f scope l before.4 it'' m) later node'
        ])
    nodes_good (local at k e f) scope i there (j, l, is_form, same, use_at, it) m node =
        own_or i m (form.Let k j l) is_form node (fits_at (local at k e f) scope i there (j, l, is_form, same, use_at, it)).good
        (λ z part n. from_one l z m (nodes_good f scope l (writing.before i (form.Let k j l) there is_form).0 it m) part n)
    nodes_good (fix at x e) scope i there (j, is_form, above, same, is_goal, it) m node =
        own_or i m (form.Rec x j) is_form node (fits_at (fix at x e) scope i there (j, is_form, above, same, is_goal, it)).good
        (λ z part n. from_one j z m (nodes_good e (scope ++ x ∷ []) j (writing.before i (form.Rec x j) there is_form).0 it m) part n)

    fields_good : (fields : TermFields) (scope : List ℕ) (sets : List FieldSet) (parts : List Part) → Parts_at scope sets parts fields → ((part : Part) → Contains parts part → Contains members part.child)
        → (m : ℕ) (part : Part) → Contains parts part → IsNodeOf b.term_nodes part.child m → Good m
    fields_good no_field scope sets parts none there m part at_part node = let it : Contains [] part = subst (λ (ps : List Part). Contains ps part) none at_part in absurd (let low : it.0 < 0 = it.1 in omega arith)
    fields_good (a_field label e rest) scope sets parts (j, later, are, set, it, it') there m part at_part node =
        go (Contains-cases (record { label = label; child = j }) later part (subst (λ (ps : List Part). Contains ps part) are at_part))
        (nodes_good e scope j (there (record { label = label; child = j }) (subst (λ (ps : List Part). Contains ps (record { label = label; child = j })) (sym are) (Contains-here (record { label = label; child = j }) later))) it m)
        (λ in_later. fields_good rest scope sets later it' (λ p at_p. there p (subst (λ (ps : List Part). Contains ps p) (sym are) (Contains-later (record { label = label; child = j }) later p at_p))) m part in_later node)
      where
        go : (record { label = label; child = j } ≡ part) ⊎ Contains later part → (IsNodeOf b.term_nodes j m → Good m) → (Contains later part → Good m) → Good m
        go (inl same) first other = first (subst (λ (p : Part). IsNodeOf b.term_nodes p.child m) (sym same) node)
        go (inr in_later) first other = other in_later

  -- the type is reached from the root, and each binder has the node of a state of the type
  module _ (own_type : (s : ℕ) → Own (type_place s)) (r : ℕ) (is_root : root r ≡ general.root.0) (scope : List ℕ) (partner : ℕ → ℕ)
      (paired : (x : ℕ) → Contains scope x → (polarity_at c.automaton (binder x) ≡ Negative) × IsIn walked (binder x) (partner x)) where
    abbrev Under : ℕ → ℕ → Type 0
    Under = IsUnder b c general special walked solved place type_place laid root binder names lets IsPlace Own children own_place own_part

    abbrev at_type : ℕ
    at_type = type_place special.root.0

    root_under : Under (place (root r)) at_type
    root_under =
        subst (λ z. Under (place z) at_type) (sym is_root)
        (under b c general special walked solved place type_place laid root binder names lets IsPlace Own children own_place own_part Lr (place general.root.0) at_type
        (below_type_shown b.book c.automaton (IsGoalOf c) solved.closed solved.goals solved.free general special solved.solved solved.closed_type walked solved.walk place type_place laid.layout true Lr
        general.root.0 special.root.0 solved.walk.roots solved.is_positive))

    binder_under : (x : ℕ) → Contains scope x → Under (type_place (partner x)) (place (binder x))
    binder_under x there =
        let it = paired x there in
        under b c general special walked solved place type_place laid root binder names lets IsPlace Own children own_place own_part Rl (type_place (partner x)) (place (binder x))
        (above_type_shown b.book c.automaton (IsGoalOf c) solved.closed solved.goals solved.free general special solved.solved solved.closed_type walked solved.walk place type_place laid.layout true Rl
        (binder x) (partner x) it.1 it.0)

    type_covers : (steps : List StepLine) (own : Concluded) (d : List BinderNode)
        → Has b c general special walked solved place type_place laid root binder names lets IsPlace Own children own_place own_part steps r scope own
        → ((x : ℕ) → Contains scope x → env.get (env_of d) x ≡ Some (type_place (partner x)))
        → CoversAll b Own Under (Reads b c general special walked solved place type_place laid root binder names lets IsPlace Own children own_place own_part) (λ x. place (binder x))
        (laws b c general special walked solved place type_place laid root binder names lets IsPlace Own children own_place own_part) own (place (root r)) d at_type
    type_covers steps (by_step s) d it envs = record {
      type = root_under;
      binders =
          λ x n at_x.
          let there = it.inside x n at_x in (
            type_place (partner x),
            envs x there,
            by_above
                (above_before b Own Under (Reads b c general special walked solved place type_place laid root binder names lets IsPlace Own children own_place own_part) (λ x. place (binder x))
                (laws b c general special walked solved place type_place laid root binder names lets IsPlace Own children own_place own_part) s.puts (type_place (partner x)) (place (binder x)) n (binder_under x there)
                (it.fit.binders s.puts (record { same = λ y m e. e; clear = λ clear. clear }) x n at_x)),
          );
    }
    type_covers steps (a_binder x) d it envs =
        let all = laws b c general special walked solved place type_place laid root binder names lets IsPlace Own children own_place own_part in (
          root_under,
          own_type special.root.0,
          type_place (partner x),
          envs x it.2,
          by_above
              (above_before b Own Under (Reads b c general special walked solved place type_place laid root binder names lets IsPlace Own children own_place own_part) (λ x. place (binder x)) all [] (type_place (partner x)) at_type at_type
              (all.further (type_place (partner x)) (place (binder x)) at_type (binder_under x it.2) (all.further (place (binder x)) (place (root r)) at_type it.1 root_under))
              (above_itself b Own Under (Reads b c general special walked solved place type_place laid root binder names lets IsPlace Own children own_place own_part) (λ x. place (binder x)) all [] at_type (inl refl))),
        )

    -- a row whose plan is that of the part
    pub record HasWrittenRow (plan : List PlannedLine) (d : Env) (number : ℕ) : Type 0 where
      pub row : HasRow b begun r d at_type
      pub same : row.leads.plan ≡ plan
      pub number_is : row.number ≡ number

    -- The lines of the nodes in order, of which the root is the last, and then those that bring it to its type.
    pub part_written : (t : TermTree) → Posed_at scope r t → (earlier : List ℕ) → members ≡ earlier ++ r ∷ [] → ((m : ℕ) → Contains members m → IsNodeOf b.term_nodes r m)
        → (d : List BinderNode) → Fits b d at_type → ((x : ℕ) → Contains scope x → env.get (env_of d) x ≡ Some (type_place (partner x)))
        → (lines : List PlannedLine) (number : ℕ) → IsBrought (writing.of r) (length (begun ++ planned_steps (flat_map writing.plan members))) r d at_type lines number
        → HasWrittenRow (flat_map writing.plan members ++ lines) (env_of d) number
    part_written t posed earlier last nodes d fits envs lines number brings = record {
      row = record {
        more = begun ++ planned_steps (flat_map writing.plan members ++ lines);
        leads = record {
          plan = flat_map writing.plan members ++ lines;
          adds = refl;
          run = good_then b begun (flat_map writing.plan members) lines good_nodes it.good;
          kept = λ m part s says. says_then b (planned_steps (flat_map writing.plan members ++ lines)) begun m part s says;
        };
        number = number;
        says = subst (λ (l : List StepLine). Says (at b l) number r (concluded b (env_of d) at_type)) whole it.says;
        ends = subst (λ (l : List StepLine). EndsWith l r (env_of d) at_type) whole (brought_ends total (writing.of r) (length total) r d at_type lines number (λ s e. subst (λ (l : List StepLine). EndsWith l r (env_of s.env) s.type) (sym at_end) (fitting.ends s e)) brings);
      };
      same = refl;
      number_is = refl;
    }
      where
        total : List StepLine
        total = begun ++ planned_steps (flat_map writing.plan members)

        there : Contains members r
        there = subst (λ (l : List ℕ). Contains l r) (sym last) (Contains-push earlier r)

        fitting : Fits_at scope r
        fitting = fits_at t scope r there posed

        good_nodes : IsGood b begun (flat_map writing.plan members)
        good_nodes = all_good b writing.steps writing.plan members begun writing.in_order (λ m at_m. nodes_good t scope r there posed m (nodes m at_m))

        at_end : total ≡ writing.steps r ++ planned_steps (writing.plan r)
        at_end =
            ap (λ (l : List ℕ). begun ++ planned_steps (flat_map writing.plan l)) last
            ∙ last_steps writing.steps writing.plan earlier r begun (subst (AreInOrder writing.steps writing.plan begun) last writing.in_order)

        has : Has b c general special walked solved place type_place laid root binder names lets IsPlace Own children own_place own_part total r scope (writing.of r)
        has = subst (λ (l : List StepLine). Has b c general special walked solved place type_place laid root binder names lets IsPlace Own children own_place own_part l r scope (writing.of r)) (sym at_end) fitting.has

        it : Brings b Own Under (Reads b c general special walked solved place type_place laid root binder names lets IsPlace Own children own_place own_part) (λ x. place (binder x))
            (laws b c general special walked solved place type_place laid root binder names lets IsPlace Own children own_place own_part) total r d at_type lines number
        it =
            brought b Own Under (Reads b c general special walked solved place type_place laid root binder names lets IsPlace Own children own_place own_part) (λ x. place (binder x))
            (laws b c general special walked solved place type_place laid root binder names lets IsPlace Own children own_place own_part) total r (place (root r)) scope (writing.of r) d at_type lines number has
            (type_covers total (writing.of r) d has envs) fits brings

        whole : total ++ planned_steps lines ≡ begun ++ planned_steps (flat_map writing.plan members ++ lines)
        whole = append_assoc begun (planned_steps (flat_map writing.plan members)) (planned_steps lines) ∙ ap (λ (l : List StepLine). begun ++ l) (sym (planned_append (flat_map writing.plan members) lines))
