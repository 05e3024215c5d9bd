-- The lines that are written for one node, over what its parts conclude: each part is brought to the environment and the type that the
-- rule asks for, and then the rule has a step, which concludes what fits the node.
--     number_written, truth_written, fun_written, app_written, proj_written, choice_written, fix_written
use Rattle.std.proofs.Common.{◌≡◌, ◌⊎◌, inl, inr, ℕ, ◌<◌, Bool, true, false, List, [], ◌∷◌, ◌++◌, length, refl, sym, ap, ◌∙◌, subst, append_assoc, Some, None, cond}
use Rattle.std.specs.FinMap as env
use Rattle.std.specs.FinMap.{get-empty, same_map, nat_cmp-IsAntisymmetric, get-remove}
use Rattle.std.specs.Ordering.{nat_cmp, eq_by_cmp}
use Rattle.std.proofs.lemmas.Cmp.{nat_cmp_total}
use Rattle.std.proofs.lemmas.List.Elements.{Contains-push_cases}
use Rattle.mls_book.specs.declared.book.Node.TheVariants as node
use Rattle.mls_book.specs.Books.{node_at}
use Rattle.mls_term.specs.declared.term.TermForm.TheVariants as form
use Rattle.mls_deriv.specs.declared.derivation.BinderNode.{BinderNode}
use Rattle.mls_deriv.specs.declared.derivation.Mode.{Mode}
use Rattle.mls_deriv.specs.declared.derivation.StepLine.{StepLine}
use Rattle.mls_deriv.specs.declared.derivation.StepRule.TheVariants as rule
use Rattle.mls_deriv.specs.declared.claim.Pair.{Pair}
use Rattle.mls_deriv.specs.declared.claim.Put.{Put}
use Rattle.mls_deriv.specs.Steps.{env_of, form_at, Before, Says, IsAllowed, lit_number, lit_truth, fun, app, proj, choice, fix}
use Rattle.mls_lines.specs.Conclusions.{IsGood, Conclusion, Concluded, a_binder, by_step, IsBrought, IsWith, IsWithout, IsReading, Concludes, HasConcluded, IsOuter, IsOver, ServesLater, as_it_was, below_own, IsOffered, IsJoined}
use Rattle.mls_layout.specs.Plans.{PlannedLine, a_step_with, planned_steps}
use Rattle.mls_layout.specs.Rows.{at, concluded, Fits, EndsWith}
use Rattle.mls_layout.specs.Runs.{id, a_step}
use Rattle.mls_lines.specs.NodeLines.{by_rule}
use Rattle.mls_allowed.proofs.Conclusions.{good_then, good_step, says_then, Brings, brought, fits_of, offered_outer, joined_outer, over_itself, over_first, over_second, over_then, offered_covers, ruled}
use Rattle.mls_lines.proofs.Bringing.{planned_append}
use Rattle.mls_lines.proofs.Scopes.{same_key, itself_key}

pub no_entry : (x n : ℕ) → env.get (env_of []) x ≡ Some n → ⊥
no_entry x n found = let none : env.get (env_of []) x ≡ None = get-empty nat_cmp x in cc

-- a binder is this one or another
one_or_other : (y x : ℕ) → (y ≡ x) ⊎ (y ≡ x → ⊥)
one_or_other y x = go (eq_by_cmp nat_cmp y x) refl
  where
    go : (t : Bool) → eq_by_cmp nat_cmp y x ≡ t → (y ≡ x) ⊎ (y ≡ x → ⊥)
    go true e = inl (same_key y x e)
    go false e = inr (λ same. let yes : eq_by_cmp nat_cmp y x ≡ true = ap (λ z. eq_by_cmp nat_cmp z x) same ∙ itself_key x in absurd (cc))

-- with the binder and without it
removed : (d longer shorter : List BinderNode) (x i : ℕ) → IsWith d x i longer → IsWithout d x shorter → env_of shorter ≡ env.remove (env_of longer) x
removed d longer shorter x i more less = same_map nat_cmp_total nat_cmp-IsAntisymmetric _ _ alike
  where
    by_test : (q : ℕ) (t : Bool) → eq_by_cmp nat_cmp q x ≡ t → env.get (env_of shorter) q ≡ cond t None (env.get (env_of longer) q)
    by_test q true e = ap (env.get (env_of shorter)) (same_key q x e) ∙ less.gone
    by_test q false e =
        let other : q ≡ x → ⊥ = λ same. let yes : eq_by_cmp nat_cmp q x ≡ true = ap (λ z. eq_by_cmp nat_cmp z x) same ∙ itself_key x in absurd (cc) in
        less.others q other ∙ sym (more.others q other)

    alike : (q : ℕ) → env.get (env_of shorter) q ≡ env.get (env.remove (env_of longer) x) q
    alike q = by_test q (eq_by_cmp nat_cmp q x) refl ∙ sym (get-remove nat_cmp_total (env_of longer) x q)

module _ (b : Before) (Own : ℕ → Type 0) (Below : ℕ → ℕ → Type 0) (Read : List Put → Mode → ℕ → ℕ → Type 0) (node_of : ℕ → ℕ) (laws : IsReading b Own Below Read node_of) where
  abbrev Outer : List ℕ → List BinderNode → Type 0
  Outer = IsOuter b Own Below Read node_of

  abbrev Has : List StepLine → (part top : ℕ) → List ℕ → Concluded → Type 0
  Has = HasConcluded b Own Below Read node_of

  abbrev Over : (d later : List BinderNode) → Type 0
  Over = IsOver b Own Below Read node_of

  abbrev Offered : Concluded → ℕ → List BinderNode → Type 0
  Offered = IsOffered node_of

  abbrev Joined : (d e joined : List BinderNode) → Type 0
  Joined = IsJoined node_of b.book

  -- the plan is good, and its last step concludes this about the node
  pub record Writes (steps : List StepLine) (part top : ℕ) (scope : List ℕ) (plan : List PlannedLine) (c : Conclusion) : Type 0 where
    pub good : IsGood b steps plan
    pub concludes : Concludes b Own Below Read node_of (steps ++ planned_steps plan) part top scope c
    pub ends : EndsWith (steps ++ planned_steps plan) part (env_of c.env) c.type

  behind : (steps : List StepLine) (plan : List PlannedLine) (step : StepLine) → (steps ++ planned_steps plan) ++ step ∷ [] ≡ steps ++ planned_steps (plan ++ a_step_with step [] ∷ [])
  behind steps plan step = append_assoc steps (planned_steps plan) (step ∷ []) ∙ ap (λ (l : List StepLine). steps ++ l) (sym (planned_append plan (a_step_with step [] ∷ [])))

  -- behind a good plan, the step of a rule
  pub rule_behind : (steps : List StepLine) (plan : List PlannedLine) (step : StepLine) (top : ℕ) (scope : List ℕ) → IsGood b steps plan
      → ((pairs : List Pair) → IsAllowed (at b (steps ++ planned_steps plan)) [] pairs step) → Own step.root.0 → Below step.root.0 top → Outer scope step.env
      → Writes steps step.node top scope (plan ++ a_step_with step [] ∷ []) (by_rule (length (steps ++ planned_steps plan)) step)
  rule_behind steps plan step top scope good it own below outer = record {
    good = good_then b steps plan (a_step_with step [] ∷ []) good (good_step b (steps ++ planned_steps plan) step [] (λ pairs list. it pairs));
    concludes =
        subst (λ (l : List StepLine). Concludes b Own Below Read node_of l step.node top scope (by_rule (length (steps ++ planned_steps plan)) step))
        (behind steps plan step)
        (ruled b Own Below Read node_of laws (steps ++ planned_steps plan) step top scope it own below outer);
    ends = record { earlier = steps ++ planned_steps plan; last = step; is = sym (behind steps plan step); about = refl; env = refl; root = refl };
  }

  -- behind another good plan
  pub writes_behind : (steps : List StepLine) (plan more : List PlannedLine) (part top : ℕ) (scope : List ℕ) (c : Conclusion) → IsGood b steps plan
      → Writes (steps ++ planned_steps plan) part top scope more c → Writes steps part top scope (plan ++ more) c
  writes_behind steps plan more part top scope c good it =
      let same : (steps ++ planned_steps plan) ++ planned_steps more ≡ steps ++ planned_steps (plan ++ more)
      = append_assoc steps (planned_steps plan) (planned_steps more) ∙ ap (λ (l : List StepLine). steps ++ l) (sym (planned_append plan more)) in
      record {
        good = good_then b steps plan more good it.good;
        concludes = subst (λ (l : List StepLine). Concludes b Own Below Read node_of l part top scope c) same it.concludes;
        ends = subst (λ (l : List StepLine). EndsWith l part (env_of c.env) c.type) same it.ends;
      }

  -- the step of a rule alone
  pub rule_alone : (steps : List StepLine) (step : StepLine) (top : ℕ) (scope : List ℕ) → ((pairs : List Pair) → IsAllowed (at b steps) [] pairs step)
      → Own step.root.0 → Below step.root.0 top → Outer scope step.env → Writes steps step.node top scope (a_step_with step [] ∷ []) (by_rule (length steps) step)
  rule_alone steps step top scope it own below outer = record {
    good = good_step b steps step [] (λ pairs list. it pairs);
    concludes = ruled b Own Below Read node_of laws steps step top scope it own below outer;
    ends = record { earlier = steps; last = step; is = refl; about = refl; env = refl; root = refl };
  }

  pub nothing_outer : (scope : List ℕ) → Outer scope []
  nothing_outer scope = record {
    rising = tt;
    low = λ x m found. absurd (no_entry x m found);
    inside = λ x m found. absurd (no_entry x m found);
    above = λ puts more x m found. absurd (no_entry x m found);
  }

  -- literals
  pub number_written : (steps : List StepLine) (e value i top : ℕ) (scope : List ℕ) → form_at b.term_nodes e ≡ Some (form.Number value) → node_at b.book i ≡ node.Int
      → i < length b.book → Own i → Below i top
      → Writes steps e top scope (a_step_with (a_step e rule.Lit [] i) [] ∷ []) (by_rule (length steps) (a_step e rule.Lit [] i))
  number_written steps e value i top scope is_form is_int low own below =
      rule_alone steps (a_step e rule.Lit [] i) top scope
      (λ pairs. record { in_range = (fits_of b Own Below Read node_of laws scope [] i (nothing_outer scope) low).scheme; rising = tt; by_rule = lit_number value refl is_form refl is_int })
      own below (nothing_outer scope)

  pub truth_written : (steps : List StepLine) (e : ℕ) (value : Bool) (i top : ℕ) (scope : List ℕ) → form_at b.term_nodes e ≡ Some (form.Truth value) → node_at b.book i ≡ node.Bool
      → i < length b.book → Own i → Below i top
      → Writes steps e top scope (a_step_with (a_step e rule.Lit [] i) [] ∷ []) (by_rule (length steps) (a_step e rule.Lit [] i))
  truth_written steps e value i top scope is_form is_bool low own below =
      rule_alone steps (a_step e rule.Lit [] i) top scope
      (λ pairs. record { in_range = (fits_of b Own Below Read node_of laws scope [] i (nothing_outer scope) low).scheme; rising = tt; by_rule = lit_truth value refl is_form refl is_bool })
      own below (nothing_outer scope)

  -- what a part concludes is brought to an environment that is over what is offered for it
  pub record IsAsked (scope : List ℕ) (c : Concluded) (top u : ℕ) (offered : List BinderNode) : Type 0 where
    pub below : Below top u
    pub own : Own u
    pub low : u < length b.book
    pub is_offered : Offered c u offered

  pub asked_outer : (steps : List StepLine) (part top : ℕ) (scope : List ℕ) (c : Concluded) (u : ℕ) (offered : List BinderNode) → Has steps part top scope c → IsAsked scope c top u offered → Outer scope offered
  asked_outer steps part top scope c u offered has it = offered_outer b Own Below Read node_of laws steps part top scope c offered u has it.low it.own it.below it.is_offered

  pub asked_brought : (steps : List StepLine) (part top : ℕ) (scope : List ℕ) (c : Concluded) (u : ℕ) (offered d : List BinderNode) (plan : List PlannedLine) (number : ℕ)
      → Has steps part top scope c → IsAsked scope c top u offered → Over offered d → Fits b d u → IsBrought c (length steps) part d u plan number
      → Brings b Own Below Read node_of laws steps part d u plan number
  asked_brought steps part top scope c u offered d plan number has it over fits adapts =
      brought b Own Below Read node_of laws steps part top scope c d u plan number has
      (offered_covers b Own Below Read node_of laws steps part top scope c offered d u has it.own it.below it.is_offered over) fits adapts

  -- what is concluded stays so
  pub has_then : (steps more : List StepLine) (part top : ℕ) (scope : List ℕ) (c : Concluded) → Has steps part top scope c → Has (steps ++ more) part top scope c
  has_then steps more part top scope (a_binder x) it = it
  has_then steps more part top scope (by_step c) it = record {
    says = says_then b more steps c.number part (concluded b (env_of c.env) c.type) it.says;
    fits = it.fits;
    low = it.low;
    fit = it.fit;
    inside = it.inside;
  }

  -- an environment with one binder more, or one less
  over_with : (own inner : List BinderNode) (x i : ℕ) → IsWith own x i inner → Below i (node_of x) → Over own inner
  over_with own inner x i with below y m found = go (one_or_other y x)
    where
      go : (y ≡ x) ⊎ (y ≡ x → ⊥) → (n : ℕ) × (env.get (env_of inner) y ≡ Some n) × ServesLater b Own Below Read node_of y m n
      go (inl is) =
          (i, subst (λ z. env.get (env_of inner) z ≡ Some i) (sym is) with.found, below_own (subst (λ z. Below i (node_of z)) (sym is) below))
      go (inr other) = (m, with.others y other ∙ found, as_it_was)

  outer_without : (scope : List ℕ) (own d : List BinderNode) (x : ℕ) → Outer (scope ++ x ∷ []) own → IsWithout own x d → Outer scope d
  outer_without scope own d x outer without = record {
    rising = without.rising;
    low = λ y m found. outer.low y m (back y m found);
    inside = λ y m found. elim (Contains-push_cases scope x y (outer.inside y m (back y m found))) [ inl there ↦ there | inr same ↦ absurd (not_gone y m found (sym same)) ];
    above = λ puts more y m found. outer.above puts more y m (back y m found);
  }
    where
      not_gone : (y m : ℕ) → env.get (env_of d) y ≡ Some m → y ≡ x → ⊥
      not_gone y m found same = let none : env.get (env_of d) y ≡ None = ap (env.get (env_of d)) same ∙ without.gone in cc

      back : (y m : ℕ) → env.get (env_of d) y ≡ Some m → env.get (env_of own) y ≡ Some m
      back y m found = sym (without.others y (not_gone y m found)) ∙ found

  fits_with : (scope : List ℕ) (own inner : List BinderNode) (x i u : ℕ) → Outer scope own → IsWith own x i inner → i < length b.book → u < length b.book → Fits b inner u
  fits_with scope own inner x i u outer with i_low u_low = record {
    scheme = record { book = laws.closed; root = u_low; env = λ y m found. go y m found (one_or_other y x) };
    rising = with.rising;
  }
    where
      go : (y m : ℕ) → env.get (env_of inner) y ≡ Some m → (y ≡ x) ⊎ (y ≡ x → ⊥) → m < length b.book
      go y m found (inl same) =
          let at_x : env.get (env_of inner) y ≡ Some i = ap (env.get (env_of inner)) same ∙ with.found in
          let is : m ≡ i = (let h : Some m ≡ Some i = sym found ∙ at_x in cc) in
          subst (λ z. z < length b.book) (sym is) i_low
      go y m found (inr other) = outer.low y m (sym (with.others y other) ∙ found)

  -- a function: its body at the codomain, where the binder has the domain's node
  pub fun_written : (steps : List StepLine) (e x body jtop : ℕ) (c : Concluded) (own inner d : List BinderNode) (arrow from to : ℕ) (plan : List PlannedLine) (number top : ℕ) (scope : List ℕ)
      → form_at b.term_nodes e ≡ Some (form.Fun x body) → node_at b.book arrow ≡ node.Arrow (id from) (id to) → arrow < length b.book → from < length b.book → Own arrow
      → Below arrow top → Below from (node_of x)
      → Has steps body jtop (scope ++ x ∷ []) c → IsAsked (scope ++ x ∷ []) c jtop to own → IsWith own x from inner → IsWithout own x d
      → IsBrought c (length steps) body inner to plan number
      → Writes steps e top scope (plan ++ a_step_with (a_step e (rule.Fun number) d arrow) [] ∷ []) (by_rule (length (steps ++ planned_steps plan)) (a_step e (rule.Fun number) d arrow))
  fun_written steps e x body jtop c own inner d arrow from to plan number top scope is_form is_arrow arrow_low from_low own_arrow below from_below has asked with without adapts =
      rule_behind steps plan (a_step e (rule.Fun number) d arrow) top scope step.good
      (λ pairs. record {
        in_range = (fits_of b Own Below Read node_of laws scope d arrow outer arrow_low).scheme;
        rising = without.rising;
        by_rule = fun number x body (env_of inner) (id from) (id to) refl is_form (removed own inner d x from with without) (inl with.found) is_arrow step.says;
      })
      own_arrow below outer
    where
      own_outer : Outer (scope ++ x ∷ []) own
      own_outer = asked_outer steps body jtop (scope ++ x ∷ []) c to own has asked

      outer : Outer scope d
      outer = outer_without scope own d x own_outer without

      step : Brings b Own Below Read node_of laws steps body inner to plan number
      step =
          asked_brought steps body jtop (scope ++ x ∷ []) c to own inner plan number has asked (over_with own inner x from with from_below)
          (fits_with (scope ++ x ∷ []) own inner x from to own_outer with from_low asked.low) adapts

  -- a recursion: its body and its binder at the node of its root
  pub fix_written : (steps : List StepLine) (e x body top : ℕ) (c : Concluded) (own inner d : List BinderNode) (plan : List PlannedLine) (number : ℕ) (scope : List ℕ)
      → form_at b.term_nodes e ≡ Some (form.Rec x body) → Below top (node_of x)
      → Has steps body top (scope ++ x ∷ []) c → IsAsked (scope ++ x ∷ []) c top top own → IsWith own x top inner → IsWithout own x d
      → IsBrought c (length steps) body inner top plan number
      → Writes steps e top scope (plan ++ a_step_with (a_step e (rule.Rec number) d top) [] ∷ []) (by_rule (length (steps ++ planned_steps plan)) (a_step e (rule.Rec number) d top))
  fix_written steps e x body top c own inner d plan number scope is_form top_below has asked with without adapts =
      rule_behind steps plan (a_step e (rule.Rec number) d top) top scope step.good
      (λ pairs. record {
        in_range = (fits_of b Own Below Read node_of laws scope d top outer asked.low).scheme;
        rising = without.rising;
        by_rule = fix number x body (env_of inner) refl is_form (removed own inner d x top with without) with.found step.says;
      })
      asked.own (laws.itself top) outer
    where
      own_outer : Outer (scope ++ x ∷ []) own
      own_outer = asked_outer steps body top (scope ++ x ∷ []) c top own has asked

      outer : Outer scope d
      outer = outer_without scope own d x own_outer without

      step : Brings b Own Below Read node_of laws steps body inner top plan number
      step =
          asked_brought steps body top (scope ++ x ∷ []) c top own inner plan number has asked (over_with own inner x top with top_below)
          (fits_with (scope ++ x ∷ []) own inner x top top own_outer with asked.low asked.low) adapts

  -- a projection: its body at a record with the one field
  pub proj_written : (steps : List StepLine) (e body jtop : ℕ) (label : List ℕ) (c : Concluded) (d : List BinderNode) (rcd to : ℕ) (plan : List PlannedLine) (number top : ℕ) (scope : List ℕ)
      → form_at b.term_nodes e ≡ Some (form.Project body label) → node_at b.book rcd ≡ node.Rcd (record { label = label; node = id to } ∷ [])
      → to < length b.book → Own to → Below to top
      → Has steps body jtop scope c → IsAsked scope c jtop rcd d → IsBrought c (length steps) body d rcd plan number
      → Writes steps e top scope (plan ++ a_step_with (a_step e (rule.Proj number) d to) [] ∷ []) (by_rule (length (steps ++ planned_steps plan)) (a_step e (rule.Proj number) d to))
  proj_written steps e body jtop label c d rcd to plan number top scope is_form is_rcd to_low own_to below has asked adapts =
      rule_behind steps plan (a_step e (rule.Proj number) d to) top scope step.good
      (λ pairs. record {
        in_range = (fits_of b Own Below Read node_of laws scope d to outer to_low).scheme;
        rising = outer.rising;
        by_rule = proj number body rcd label (record { label = label; node = id to }) refl is_form is_rcd refl refl step.says;
      })
      own_to below outer
    where
      outer : Outer scope d
      outer = asked_outer steps body jtop scope c rcd d has asked

      step : Brings b Own Below Read node_of laws steps body d rcd plan number
      step = asked_brought steps body jtop scope c rcd d d plan number has asked (over_itself b Own Below Read node_of laws d) (fits_of b Own Below Read node_of laws scope d rcd outer asked.low) adapts

  -- two parts one after the other in one environment
  pub record BringsTwo (steps : List StepLine) (f x : ℕ) (d : List BinderNode) (u v : ℕ) (plan more : List PlannedLine) (first second : ℕ) : Type 0 where
    pub good : IsGood b steps (plan ++ more)
    pub one : Says (at b (steps ++ planned_steps (plan ++ more))) first f (concluded b (env_of d) u)
    pub other : Says (at b (steps ++ planned_steps (plan ++ more))) second x (concluded b (env_of d) v)

  two_brought : (steps : List StepLine) (f x : ℕ) (d : List BinderNode) (u v : ℕ) (plan more : List PlannedLine) (first second : ℕ)
      → Brings b Own Below Read node_of laws steps f d u plan first → Brings b Own Below Read node_of laws (steps ++ planned_steps plan) x d v more second
      → BringsTwo steps f x d u v plan more first second
  two_brought steps f x d u v plan more first second it it' =
      let same = append_assoc steps (planned_steps plan) (planned_steps more) ∙ ap (λ (l : List StepLine). steps ++ l) (sym (planned_append plan more)) in
      record {
        good = good_then b steps plan more it.good it'.good;
        one =
            subst (λ (l : List StepLine). Says (at b l) first f (concluded b (env_of d) u)) same
            (says_then b (planned_steps more) (steps ++ planned_steps plan) first f (concluded b (env_of d) u) it.says);
        other = subst (λ (l : List StepLine). Says (at b l) second x (concluded b (env_of d) v)) same it'.says;
      }

  -- an application: the function at a node of an arrow, the argument at its domain
  pub app_written : (steps : List StepLine) (e f x ftop xtop : ℕ) (c c' : Concluded) (left right d : List BinderNode) (arrow from to : ℕ) (plan more : List PlannedLine) (first second top : ℕ) (scope : List ℕ)
      → form_at b.term_nodes e ≡ Some (form.Apply f x) → node_at b.book arrow ≡ node.Arrow (id from) (id to) → to < length b.book → Own to → Below to top
      → Has steps f ftop scope c → IsAsked scope c ftop arrow left → Has steps x xtop scope c' → IsAsked scope c' xtop from right → Joined left right d
      → IsBrought c (length steps) f d arrow plan first → IsBrought c' (length (steps ++ planned_steps plan)) x d from more second
      → Writes steps e top scope ((plan ++ more) ++ a_step_with (a_step e (rule.App first second) d to) [] ∷ [])
      (by_rule (length (steps ++ planned_steps (plan ++ more))) (a_step e (rule.App first second) d to))
  app_written steps e f x ftop xtop c c' left right d arrow from to plan more first second top scope is_form is_arrow to_low own_to below has asked has' asked' joined adapts adapts' =
      rule_behind steps (plan ++ more) (a_step e (rule.App first second) d to) top scope both.good
      (λ pairs. record {
        in_range = (fits_of b Own Below Read node_of laws scope d to outer to_low).scheme;
        rising = outer.rising;
        by_rule = app first second f x arrow (id from) refl is_form is_arrow both.one both.other;
      })
      own_to below outer
    where
      outer : Outer scope d
      outer =
          joined_outer b Own Below Read node_of laws scope left right d (asked_outer steps f ftop scope c arrow left has asked) (asked_outer steps x xtop scope c' from right has' asked') joined

      both : BringsTwo steps f x d arrow from plan more first second
      both =
          two_brought steps f x d arrow from plan more first second
          (asked_brought steps f ftop scope c arrow left d plan first has asked (over_first b Own Below Read node_of laws left right d joined) (fits_of b Own Below Read node_of laws scope d arrow outer asked.low) adapts)
          (asked_brought (steps ++ planned_steps plan) x xtop scope c' from right d more second (has_then steps (planned_steps plan) x xtop scope c' has') asked'
          (over_second b Own Below Read node_of laws left right d joined) (fits_of b Own Below Read node_of laws scope d from outer asked'.low) adapts')

  -- a conditional: the condition at a `bool`, the branches at one node
  pub choice_written : (steps : List StepLine) (e q f g qtop ftop gtop : ℕ) (c c' c'' : Concluded) (left middle right upper d : List BinderNode) (bit to : ℕ) (plan more rest : List PlannedLine) (first second third top : ℕ) (scope : List ℕ)
      → form_at b.term_nodes e ≡ Some (form.If q f g) → node_at b.book bit ≡ node.Bool → Below to top
      → Has steps q qtop scope c → IsAsked scope c qtop bit left → Has steps f ftop scope c' → IsAsked scope c' ftop to middle → Has steps g gtop scope c'' → IsAsked scope c'' gtop to right
      → Joined left middle upper → Joined upper right d
      → IsBrought c (length steps) q d bit plan first → IsBrought c' (length (steps ++ planned_steps plan)) f d to more second
      → IsBrought c'' (length (steps ++ planned_steps (plan ++ more))) g d to rest third
      → Writes steps e top scope (((plan ++ more) ++ rest) ++ a_step_with (a_step e (rule.If first second third) d to) [] ∷ [])
      (by_rule (length (steps ++ planned_steps ((plan ++ more) ++ rest))) (a_step e (rule.If first second third) d to))
  choice_written steps e q f g qtop ftop gtop c c' c'' left middle right upper d bit to plan more rest first second third top scope is_form is_bit below has asked has' asked' has'' asked'' joined joined' adapts adapts' adapts'' =
      rule_behind steps ((plan ++ more) ++ rest) (a_step e (rule.If first second third) d to) top scope (good_then b steps (plan ++ more) rest both.good last.good)
      (λ pairs. record {
        in_range = (fits_of b Own Below Read node_of laws scope d to outer asked'.low).scheme;
        rising = outer.rising;
        by_rule = choice first second third q f g bit refl is_form is_bit (later first q bit both.one) (later second f to both.other) (subst (λ (l : List StepLine). Says (at b l) third g (concluded b (env_of d) to)) same last.says);
      })
      asked'.own below outer
    where
      upper_outer : Outer scope upper
      upper_outer =
          joined_outer b Own Below Read node_of laws scope left middle upper (asked_outer steps q qtop scope c bit left has asked) (asked_outer steps f ftop scope c' to middle has' asked') joined

      outer : Outer scope d
      outer = joined_outer b Own Below Read node_of laws scope upper right d upper_outer (asked_outer steps g gtop scope c'' to right has'' asked'') joined'

      over_upper : Over upper d
      over_upper = over_first b Own Below Read node_of laws upper right d joined'

      both : BringsTwo steps q f d bit to plan more first second
      both =
          two_brought steps q f d bit to plan more first second
          (asked_brought steps q qtop scope c bit left d plan first has asked (over_then b Own Below Read node_of laws left upper d (over_first b Own Below Read node_of laws left middle upper joined) over_upper)
          (fits_of b Own Below Read node_of laws scope d bit outer asked.low) adapts)
          (asked_brought (steps ++ planned_steps plan) f ftop scope c' to middle d more second (has_then steps (planned_steps plan) f ftop scope c' has') asked'
          (over_then b Own Below Read node_of laws middle upper d (over_second b Own Below Read node_of laws left middle upper joined) over_upper) (fits_of b Own Below Read node_of laws scope d to outer asked'.low) adapts')

      last : Brings b Own Below Read node_of laws (steps ++ planned_steps (plan ++ more)) g d to rest third
      last =
          asked_brought (steps ++ planned_steps (plan ++ more)) g gtop scope c'' to right d rest third (has_then steps (planned_steps (plan ++ more)) g gtop scope c'' has'') asked''
          (over_second b Own Below Read node_of laws upper right d joined') (fits_of b Own Below Read node_of laws scope d to outer asked''.low) adapts''

      same : (steps ++ planned_steps (plan ++ more)) ++ planned_steps rest ≡ steps ++ planned_steps ((plan ++ more) ++ rest)
      same = append_assoc steps (planned_steps (plan ++ more)) (planned_steps rest) ∙ ap (λ (l : List StepLine). steps ++ l) (sym (planned_append (plan ++ more) rest))

      later : (number part u : ℕ) → Says (at b (steps ++ planned_steps (plan ++ more))) number part (concluded b (env_of d) u)
          → Says (at b (steps ++ planned_steps ((plan ++ more) ++ rest))) number part (concluded b (env_of d) u)
      later number part u says =
          subst (λ (l : List StepLine). Says (at b l) number part (concluded b (env_of d) u)) same
          (says_then b (planned_steps rest) (steps ++ planned_steps (plan ++ more)) number part (concluded b (env_of d) u) says)
