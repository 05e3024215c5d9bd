-- Rows: the plan of one node over steps about its parts. All steps by pairs of a part of a term rest on the same claims; what their pairs
-- have to be is asked of each row as shown pairs.
--     leads_then, leads_step      plans after plans
--     sub_row                     a step by pairs
--     number_row, truth_row, var_row, fun_row, app_row, proj_row, choice_row, fix_row      the rule of the node, between steps by pairs
use Rattle.std.proofs.Common.{◌≡◌, ℕ, Bool, true, None, List, [], ◌∷◌, ◌++◌, length, refl, sym, ap, ◌∙◌, subst, append-nil, append_assoc, Some}
use Rattle.std.specs.FinMap as env
use Rattle.std.specs.FinMap.{get-empty}
use Rattle.std.specs.Ordering.{nat_cmp}
use Rattle.mls_book.specs.declared.book.Node.TheVariants as node
use Rattle.mls_book.specs.Books.{node_at}
use Rattle.mls_book.specs.Schemes.{Env, IsScheme}
use Rattle.mls_term.specs.declared.term.TermForm.TheVariants as form
use Rattle.mls_term.specs.Derivations.{Takes}
use Rattle.mls_deriv.specs.declared.derivation.BinderNode.{BinderNode}
use Rattle.mls_deriv.specs.declared.derivation.Mode.{Mode}
use Rattle.mls_deriv.specs.declared.derivation.Mode.TheVariants.{Lr, Rl}
use Rattle.mls_deriv.specs.declared.derivation.SectionLine.{SectionLine}
use Rattle.mls_deriv.specs.declared.derivation.StepLine.{StepLine}
use Rattle.mls_deriv.specs.declared.derivation.StepRule.TheVariants as rule
use Rattle.mls_deriv.specs.declared.claim.Put.{Put}
use Rattle.mls_deriv.specs.declared.claim.Pair.{Pair}
use Rattle.mls_deriv.specs.Steps.{env_of, form_at, Before, Says, IsAllowed, var, lit_number, lit_truth, fun, app, proj, choice, fix}
use Rattle.mls_layout.specs.Shown.{IsShown, AreShown}
use Rattle.mls_pairs.specs.PairLists.{IsPairList}
use Rattle.mls_layout.specs.Emitted.{asked_at}
use Rattle.mls_layout.specs.Runs.{id, a_step, lines_of, IsRun}
use Rattle.mls_layout.specs.Plans.{a_step_with, planned_steps, AreLinesOf}
use Rattle.mls_layout.specs.Rows.{at, concluded, Fits, Leads, HasRow, Widens}
use Rattle.mls_allowed.proofs.Plans.{lines_split}
use Rattle.mls_lines.proofs.Bringing.{planned_append}
use Rattle.mls_lines.proofs.Runs.{nothing_run, run_then, step_run, says_last, says_kept}
use Rattle.mls_allowed.proofs.Subs.{sub_allowed}

module _ (b : Before) where
  pub leads_then : (steps more others : List StepLine) → Leads b steps more → Leads b more others → Leads b steps others
  leads_then steps more others first second = record {
    plan = first.plan ++ second.plan;
    adds =
        second.adds
        ∙ (ap (λ (l : List StepLine). l ++ planned_steps second.plan) first.adds
        ∙ (append_assoc steps (planned_steps first.plan) (planned_steps second.plan)
        ∙ ap (λ (l : List StepLine). steps ++ l) (sym (planned_append first.plan second.plan))));
    run =
        λ lines are.
        let it = lines_split b.book second.plan first.plan steps lines are in
        subst (λ (l : List SectionLine). IsRun (at b steps) l (at b others)) (sym it.same)
        (run_then (at b steps) (at b more) (at b others) it.first it.rest (first.run it.first it.are)
        (second.run it.rest (subst (λ (l : List StepLine). AreLinesOf b.book l second.plan it.rest) (sym first.adds) it.later)));
    kept = λ number part s says. second.kept number part s (first.kept number part s says);
  }

  -- no line
  pub leads_still : (steps : List StepLine) → Leads b steps steps
  leads_still steps = record {
    plan = [];
    adds = sym (append-nil steps);
    run = λ lines are. subst (λ (l : List SectionLine). IsRun (at b steps) l (at b steps)) (sym are) (nothing_run (at b steps));
    kept = λ number part s says. says;
  }

  -- a step that is allowed whichever list of its pairs it has
  abbrev IsFree : List StepLine → StepLine → List Put → Type 0
  IsFree steps step puts = (pairs : List Pair) → IsPairList b.book puts (asked_at steps step) pairs → IsAllowed (at b steps) puts pairs step

  pub leads_step : (steps : List StepLine) (step : StepLine) (puts : List Put) → IsFree steps step puts → Leads b steps (steps ++ step ∷ [])
  leads_step steps step puts it = record {
    plan = a_step_with step puts ∷ [];
    adds = refl;
    run =
        λ lines are.
        subst (λ (l : List SectionLine). IsRun (at b steps) l (at b (steps ++ step ∷ [])))
        (sym (are.3 ∙ (ap (λ (l : List SectionLine). lines_of step puts are.0 ++ l) are.4 ∙ append-nil (lines_of step puts are.0))))
        (step_run (at b steps) step puts are.0 (it are.0 are.2.list));
    kept = λ number part s says. says_kept (at b steps) step number part s says;
  }

  pub row_step : (steps : List StepLine) (step : StepLine) (puts : List Put) → IsFree steps step puts → HasRow b steps step.node (env_of step.env) step.root.0
  row_step steps step puts it = record {
    more = steps ++ step ∷ [];
    leads = leads_step steps step puts it;
    number = length steps;
    says = says_last (at b steps) step;
    ends = record { earlier = steps; last = step; is = refl; about = refl; env = refl; root = refl };
  }

  -- a row that goes on after a plan
  pub row_after : (steps more : List StepLine) (part : ℕ) (d : Env) (t : ℕ) → Leads b steps more → HasRow b more part d t → HasRow b steps part d t
  row_after steps more part d t first row = record {
    more = row.more;
    leads = leads_then steps more row.more first row.leads;
    number = row.number;
    says = row.says;
    ends = row.ends;
  }

  module _ (base claims : Mode → ℕ → ℕ → Type 0) (shown : AreShown b.book [] base claims)
      (itself : (mode : Mode) (i : ℕ) → IsShown b.book [] base claims true mode i i) where
    abbrev Below : ℕ → ℕ → Type 0
    Below i j = IsShown b.book [] base claims true Lr i j

    abbrev Is : List BinderNode → ℕ → Type 0
    Is d t = Fits b d t

    same_env : (d : List BinderNode) → Widens b base claims (env_of d) (env_of d)
    same_env d x n found = (n, found, itself Rl n)

    -- a step by pairs
    pub sub_row : (steps : List StepLine) (number part : ℕ) (d : Env) (t : ℕ) (wider : List BinderNode) (u : ℕ)
        → Says (at b steps) number part (concluded b d t) → IsScheme (concluded b d t) → Is wider u → Below t u → Widens b base claims d (env_of wider)
        → HasRow b steps part (env_of wider) u
    sub_row steps number part d t wider u says is is' below widens =
        row_step steps (a_step part (rule.Sub number) wider u) []
        (sub_allowed (at b steps) [] base claims shown (λ x n e. absurd (cc)) (a_step part (rule.Sub number) wider u) number (concluded b d t) refl says refl is'.scheme is'.rising below widens)

    -- a step by the rule of a node, and a step by pairs
    rule_row : (steps : List StepLine) (step : StepLine) (u : ℕ) → ((pairs : List Pair) → IsAllowed (at b steps) [] pairs step) → Is step.env u → Below step.root.0 u → HasRow b steps step.node (env_of step.env) u
    rule_row steps step u it is below =
        let first = row_step steps step [] (λ pairs list. it pairs) in
        row_after steps first.more step.node (env_of step.env) u first.leads
        (sub_row first.more first.number step.node (env_of step.env) step.root.0 step.env u first.says (it []).in_range is below (same_env step.env))

    -- A bound name: the type and the requirement of the step by its rule are one node, which is below `u` and above that of the wider environment.
    pub var_row : (steps : List StepLine) (e x v u : ℕ) (wider : List BinderNode) → form_at b.term_nodes e ≡ Some (form.Bound x)
        → Is (record { binder = x; node = id v } ∷ []) v → Is wider u → Below v u → env_of (record { binder = x; node = id v } ∷ []) ≡ env.insert env.empty x v
        → Widens b base claims (env_of (record { binder = x; node = id v } ∷ [])) (env_of wider)
        → HasRow b steps e (env_of wider) u
    var_row steps e x v u wider is_form is is' below same widens =
        let d : List BinderNode = record { binder = x; node = id v } ∷ [] in
        let first = row_step steps (a_step e rule.Var d v) [] (λ pairs list. record { in_range = is.scheme; rising = is.rising; by_rule = var x refl is_form same }) in
        row_after steps first.more e (env_of wider) u first.leads (sub_row first.more first.number e (env_of d) v wider u first.says is.scheme is' below widens)

    -- an application: the function at a node of an arrow, the argument at its domain
    pub app_row : (steps : List StepLine) (n1 n2 e f x : ℕ) (d1 d2 : Env) (t1 t2 : ℕ) (d : List BinderNode) (arrow from to u : ℕ)
        → form_at b.term_nodes e ≡ Some (form.Apply f x) → node_at b.book arrow ≡ node.Arrow (id from) (id to)
        → Says (at b steps) n1 f (concluded b d1 t1) → IsScheme (concluded b d1 t1) → Says (at b steps) n2 x (concluded b d2 t2) → IsScheme (concluded b d2 t2)
        → Is d arrow → Is d from → Is d to → Is d u
        → Below t1 arrow → Below t2 from → Below to u → Widens b base claims d1 (env_of d) → Widens b base claims d2 (env_of d)
        → HasRow b steps e (env_of d) u
    app_row steps n1 n2 e f x d1 d2 t1 t2 d arrow from to u is_form is_arrow says1 is1 says2 is2 is_a is_f is_t is_u below1 below2 below3 widens1 widens2 =
        let one = sub_row steps n1 f d1 t1 d arrow says1 is1 is_a below1 widens1 in
        let two = sub_row one.more n2 x d2 t2 d from (one.leads.kept n2 x (concluded b d2 t2) says2) is2 is_f below2 widens2 in
        let three =
        rule_row two.more (a_step e (rule.App one.number two.number) d to) u
        (λ pairs. record {
          in_range = is_t.scheme;
          rising = is_t.rising;
          by_rule = app one.number two.number f x arrow (id from) refl is_form is_arrow (two.leads.kept one.number f (concluded b (env_of d) arrow) one.says) two.says;
        })
        is_u below3 in
        row_after steps one.more e (env_of d) u one.leads (row_after one.more two.more e (env_of d) u two.leads three)

    -- a function: its body at the codomain, and its binder at the domain
    pub fun_row : (steps : List StepLine) (n e x body : ℕ) (d1 : Env) (t1 : ℕ) (inner d : List BinderNode) (arrow from to u : ℕ)
        → form_at b.term_nodes e ≡ Some (form.Fun x body) → node_at b.book arrow ≡ node.Arrow (id from) (id to)
        → Says (at b steps) n body (concluded b d1 t1) → IsScheme (concluded b d1 t1)
        → Is inner to → Is d arrow → Is d u → env_of d ≡ env.remove (env_of inner) x → Takes b.book (env_of inner) x (id from)
        → Below t1 to → Below arrow u → Widens b base claims d1 (env_of inner)
        → HasRow b steps e (env_of d) u
    fun_row steps n e x body d1 t1 inner d arrow from to u is_form is_arrow says is is_to is_a is_u removed takes below below' widens =
        let one = sub_row steps n body d1 t1 inner to says is is_to below widens in
        row_after steps one.more e (env_of d) u one.leads
        (rule_row one.more (a_step e (rule.Fun one.number) d arrow) u
        (λ pairs. record { in_range = is_a.scheme; rising = is_a.rising; by_rule = fun one.number x body (env_of inner) (id from) (id to) refl is_form removed takes is_arrow one.says })
        is_u below')

    -- a projection: its body at a record with the one field
    pub proj_row : (steps : List StepLine) (n e body : ℕ) (label : List ℕ) (d1 : Env) (t1 : ℕ) (d : List BinderNode) (rcd to u : ℕ)
        → form_at b.term_nodes e ≡ Some (form.Project body label) → node_at b.book rcd ≡ node.Rcd (record { label = label; node = id to } ∷ [])
        → Says (at b steps) n body (concluded b d1 t1) → IsScheme (concluded b d1 t1) → Is d rcd → Is d to → Is d u
        → Below t1 rcd → Below to u → Widens b base claims d1 (env_of d)
        → HasRow b steps e (env_of d) u
    proj_row steps n e body label d1 t1 d rcd to u is_form is_rcd says is is_r is_t is_u below below' widens =
        let one = sub_row steps n body d1 t1 d rcd says is is_r below widens in
        row_after steps one.more e (env_of d) u one.leads
        (rule_row one.more (a_step e (rule.Proj one.number) d to) u
        (λ pairs. record { in_range = is_t.scheme; rising = is_t.rising; by_rule = proj one.number body rcd label (record { label = label; node = id to }) refl is_form is_rcd refl refl one.says })
        is_u below')

    -- a conditional: the condition at a `bool`, the branches at one node
    pub choice_row : (steps : List StepLine) (n1 n2 n3 e c f g : ℕ) (d1 d2 d3 : Env) (t1 t2 t3 : ℕ) (d : List BinderNode) (bit to u : ℕ)
        → form_at b.term_nodes e ≡ Some (form.If c f g) → node_at b.book bit ≡ node.Bool
        → Says (at b steps) n1 c (concluded b d1 t1) → IsScheme (concluded b d1 t1) → Says (at b steps) n2 f (concluded b d2 t2) → IsScheme (concluded b d2 t2)
        → Says (at b steps) n3 g (concluded b d3 t3) → IsScheme (concluded b d3 t3) → Is d bit → Is d to → Is d u
        → Below t1 bit → Below t2 to → Below t3 to → Below to u
        → Widens b base claims d1 (env_of d) → Widens b base claims d2 (env_of d) → Widens b base claims d3 (env_of d)
        → HasRow b steps e (env_of d) u
    choice_row steps n1 n2 n3 e c f g d1 d2 d3 t1 t2 t3 d bit to u is_form is_bit says1 is1 says2 is2 says3 is3 is_b is_t is_u below1 below2 below3 below4 w1 w2 w3 =
        let one = sub_row steps n1 c d1 t1 d bit says1 is1 is_b below1 w1 in
        let two = sub_row one.more n2 f d2 t2 d to (one.leads.kept n2 f (concluded b d2 t2) says2) is2 is_t below2 w2 in
        let three = sub_row two.more n3 g d3 t3 d to (two.leads.kept n3 g (concluded b d3 t3) (one.leads.kept n3 g (concluded b d3 t3) says3)) is3 is_t below3 w3 in
        let four =
        rule_row three.more (a_step e (rule.If one.number two.number three.number) d to) u
        (λ pairs. record {
          in_range = is_t.scheme;
          rising = is_t.rising;
          by_rule =
              choice one.number two.number three.number c f g bit refl is_form is_bit
              (three.leads.kept one.number c (concluded b (env_of d) bit) (two.leads.kept one.number c (concluded b (env_of d) bit) one.says))
              (three.leads.kept two.number f (concluded b (env_of d) to) two.says)
              three.says;
        })
        is_u below4 in
        row_after steps one.more e (env_of d) u one.leads (row_after one.more two.more e (env_of d) u two.leads (row_after two.more three.more e (env_of d) u three.leads four))

    -- a recursion: its body and its binder at one node
    pub fix_row : (steps : List StepLine) (n e x body : ℕ) (d1 : Env) (t1 : ℕ) (inner d : List BinderNode) (to : ℕ)
        → form_at b.term_nodes e ≡ Some (form.Rec x body)
        → Says (at b steps) n body (concluded b d1 t1) → IsScheme (concluded b d1 t1)
        → Is inner to → Is d to → env_of d ≡ env.remove (env_of inner) x → env.get (env_of inner) x ≡ Some to
        → Below t1 to → Widens b base claims d1 (env_of inner)
        → HasRow b steps e (env_of d) to
    fix_row steps n e x body d1 t1 inner d to is_form says is is_to is_d removed found below widens =
        let one = sub_row steps n body d1 t1 inner to says is is_to below widens in
        row_after steps one.more e (env_of d) to one.leads
        (row_step one.more (a_step e (rule.Rec one.number) d to) []
        (λ pairs list. record { in_range = is_d.scheme; rising = is_d.rising; by_rule = fix one.number x body (env_of inner) refl is_form removed found one.says }))

    nothing : (x n : ℕ) → env.get (env_of []) x ≡ Some n → ⊥
    nothing x n found = let none : env.get (env_of []) x ≡ None = get-empty nat_cmp x in cc

    -- literals need nothing of any binder
    pub number_row : (steps : List StepLine) (e value i u : ℕ) (d : List BinderNode) → form_at b.term_nodes e ≡ Some (form.Number value) → node_at b.book i ≡ node.Int
        → Is [] i → Is d u → Below i u
        → HasRow b steps e (env_of d) u
    number_row steps e value i u d is_form is_int is is' below =
        let first = row_step steps (a_step e rule.Lit [] i) [] (λ pairs list. record { in_range = is.scheme; rising = is.rising; by_rule = lit_number value refl is_form refl is_int }) in
        row_after steps first.more e (env_of d) u first.leads
        (sub_row first.more first.number e (env_of []) i d u first.says is.scheme is' below (λ x n found. absurd (nothing x n found)))

    pub truth_row : (steps : List StepLine) (e : ℕ) (value : Bool) (i u : ℕ) (d : List BinderNode) → form_at b.term_nodes e ≡ Some (form.Truth value) → node_at b.book i ≡ node.Bool
        → Is [] i → Is d u → Below i u
        → HasRow b steps e (env_of d) u
    truth_row steps e value i u d is_form is_bool is is' below =
        let first = row_step steps (a_step e rule.Lit [] i) [] (λ pairs list. record { in_range = is.scheme; rising = is.rising; by_rule = lit_truth value refl is_form refl is_bool }) in
        row_after steps first.more e (env_of d) u first.leads
        (sub_row first.more first.number e (env_of []) i d u first.says is.scheme is' below (λ x n found. absurd (nothing x n found)))
