-- What the rule of a step asks, rule by rule.
--     ByStepRule          what each rule asks
--     by_step_rule        an allowed step has what its rule asks
--     from_step_rule      and the other way round
use Rattle.std.proofs.Common.{◌≡◌, ◌⊎◌, inl, inr, ℕ, ◌+◌, ◌<◌, Bool, List, [], ◌∷◌, length, sym, subst, slice_get, Some}
use Rattle.std.specs.FinMap as env
use Rattle.std.specs.Ordering.{nat_cmp}
use Rattle.mls_book.specs.declared.book.Field.{Field}
use Rattle.mls_book.specs.declared.book.NodeId.{NodeId}
use Rattle.mls_book.specs.declared.book.Node.TheVariants as node
use Rattle.mls_book.specs.Books.{node_at}
use Rattle.mls_book.specs.Schemes.{Env, Scheme}
use Rattle.mls_term.specs.declared.term.Part.{Part}
use Rattle.mls_term.specs.declared.term.TermForm.TheVariants as form
use Rattle.mls_term.specs.Derivations.{over, Takes, IsMeet}
use Rattle.mls_deriv.specs.declared.derivation.Mode.TheVariants.{Lr}
use Rattle.mls_deriv.specs.declared.derivation.StepLine.{StepLine}
use Rattle.mls_deriv.specs.declared.derivation.StepRule.{StepRule}
use Rattle.mls_deriv.specs.declared.derivation.StepRule.TheVariants as rule
use Rattle.mls_deriv.specs.Pairs.{Put, Pair, put_at, Claims, AreJustified}
use Rattle.mls_deriv.specs.Steps.{conclusion, form_at, HasFrom, Before, Says, AllSay, HaveLabelsOf, IsKept, IsAllowedByRule, var, use_let, use_name, lit_number, lit_truth, fun, app, make, proj, choice, let_in, fix, sub}

module _ (b : Before) (puts : List Put) (pairs : List Pair) (step : StepLine) (s : Scheme) where
  -- what a rule asks of a step that concludes the scheme
  abbrev pub ByStepRule : StepRule → Type 0
  ByStepRule rule.Var = (x : ℕ) × (form_at b.term_nodes step.node ≡ Some (form.Bound x)) × (s.env ≡ env.insert env.empty x s.root)
  ByStepRule (rule.Use number) =
      (k : ℕ) × (first : StepLine) × (form_at b.term_nodes step.node ≡ Some (form.Inner k)) × (env.find nat_cmp k b.lets ≡ Some number)
      × (slice_get b.steps number ≡ Some first)
      × (s ≡ conclusion b.book first)
  ByStepRule (rule.Name n) =
      (g : ℕ) × (u : Scheme) × (form_at b.term_nodes step.node ≡ Some (form.Global g)) × (slice_get b.globals g ≡ Some u)
      × HasFrom b.book n.0 u.book
      × (s.env ≡ env.empty)
      × (s.root ≡ n.0 + u.root)
  ByStepRule rule.Lit =
      ((value : ℕ) × (form_at b.term_nodes step.node ≡ Some (form.Number value)) × (s.env ≡ env.empty) × (node_at b.book s.root ≡ node.Int))
      ⊎ ((value : Bool) × (form_at b.term_nodes step.node ≡ Some (form.Truth value)) × (s.env ≡ env.empty) × (node_at b.book s.root ≡ node.Bool))
  ByStepRule (rule.Fun number) =
      (x body : ℕ) × (d : Env) × (i j : NodeId) × (form_at b.term_nodes step.node ≡ Some (form.Fun x body))
      × (s.env ≡ env.remove d x)
      × Takes b.book d x i
      × (node_at b.book s.root ≡ node.Arrow i j)
      × Says b number body (over s d j.0)
  ByStepRule (rule.App first second) =
      (function argument f : ℕ) × (i : NodeId) × (form_at b.term_nodes step.node ≡ Some (form.Apply function argument))
      × (node_at b.book f ≡ node.Arrow i (record { 0 = s.root }))
      × Says b first function (over s s.env f)
      × Says b second argument (over s s.env i.0)
  ByStepRule (rule.Make numbers) =
      (parts : List Part) × (fields : List Field) × (form_at b.term_nodes step.node ≡ Some (form.Make parts))
      × (node_at b.book s.root ≡ node.Rcd fields)
      × HaveLabelsOf parts fields
      × (parts ≡ [] → s.env ≡ env.empty)
      × AllSay b numbers parts s fields
  ByStepRule (rule.Proj number) =
      (body i : ℕ) × (label : List ℕ) × (field : Field) × (form_at b.term_nodes step.node ≡ Some (form.Project body label))
      × (node_at b.book i ≡ node.Rcd (field ∷ []))
      × (field.label ≡ label)
      × (field.node.0 ≡ s.root)
      × Says b number body (over s s.env i)
  ByStepRule (rule.If first second third) =
      (condition one other i : ℕ) × (form_at b.term_nodes step.node ≡ Some (form.If condition one other))
      × (node_at b.book i ≡ node.Bool)
      × Says b first condition (over s s.env i)
      × Says b second one s
      × Says b third other s
  ByStepRule (rule.Let first second) =
      (k e e' : ℕ) × (d1 d2 : Env) × (t1 : ℕ) × (form_at b.term_nodes step.node ≡ Some (form.Let k e e'))
      × (env.find nat_cmp k b.lets ≡ Some first)
      × IsMeet b.book d1 d2 s.env
      × Says b first e (over s d1 t1)
      × Says b second e' (over s d2 s.root)
  ByStepRule (rule.Rec number) =
      (x body : ℕ) × (d : Env) × (form_at b.term_nodes step.node ≡ Some (form.Rec x body))
      × (s.env ≡ env.remove d x)
      × (env.get d x ≡ Some s.root)
      × Says b number body (over s d s.root)
  ByStepRule (rule.Sub number) =
      (first : Scheme) × Says b number step.node first
      × ((x n : ℕ) → put_at puts x ≡ Some n → n < length b.book)
      × AreJustified b.book puts pairs
      × Claims pairs Lr first.root s.root
      × ((x n : ℕ) → env.get first.env x ≡ Some n → IsKept b.book pairs (env.get s.env x) n)

  at_rule : (r : StepRule) → step.rule ≡ r → ByStepRule r → ByStepRule step.rule
  at_rule r e h = subst ByStepRule (sym e) h

  -- an allowed step has what its rule asks
  pub by_step_rule : IsAllowedByRule b puts pairs step s → ByStepRule step.rule
  by_step_rule (var x r f e) = at_rule rule.Var r (x, f, e)
  by_step_rule (use_let n k first r f found stands e) = at_rule (rule.Use n) r (k, first, f, found, stands, e)
  by_step_rule (use_name n g u r f found has e e') = at_rule (rule.Name n) r (g, u, f, found, has, e, e')
  by_step_rule (lit_number value r f e e') = at_rule rule.Lit r (inl (value, f, e, e'))
  by_step_rule (lit_truth value r f e e') = at_rule rule.Lit r (inr (value, f, e, e'))
  by_step_rule (fun n x body d i j r f e takes is says) = at_rule (rule.Fun n) r (x, body, d, i, j, f, e, takes, is, says)
  by_step_rule (app n m e e' g i r f is says says') = at_rule (rule.App n m) r (e, e', g, i, f, is, says, says')
  by_step_rule (make numbers parts fields r f is labels nothing say) = at_rule (rule.Make numbers) r (parts, fields, f, is, labels, nothing, say)
  by_step_rule (proj n body i label field r f is label_is node_is says) = at_rule (rule.Proj n) r (body, i, label, field, f, is, label_is, node_is, says)
  by_step_rule (choice n m l c e e' i r f is says says' says'') = at_rule (rule.If n m l) r (c, e, e', i, f, is, says, says', says'')
  by_step_rule (let_in n m k e e' d1 d2 t1 r f found meet says says') = at_rule (rule.Let n m) r (k, e, e', d1, d2, t1, f, found, meet, says, says')
  by_step_rule (fix n x body d r f e e' says) = at_rule (rule.Rec n) r (x, body, d, f, e, e', says)
  by_step_rule (sub n first r says low all claims kept) = at_rule (rule.Sub n) r (first, says, low, all, claims, kept)

  -- and a step that has it is allowed
  pub from_step_rule : (r : StepRule) → step.rule ≡ r → ByStepRule r → IsAllowedByRule b puts pairs step s
  from_step_rule rule.Var r (x, f, e) = var x r f e
  from_step_rule (rule.Use n) r (k, first, f, found, stands, e) = use_let n k first r f found stands e
  from_step_rule (rule.Name n) r (g, u, f, found, has, e, e') = use_name n g u r f found has e e'
  from_step_rule rule.Lit r (inl (value, f, e, e')) = lit_number value r f e e'
  from_step_rule rule.Lit r (inr (value, f, e, e')) = lit_truth value r f e e'
  from_step_rule (rule.Fun n) r (x, body, d, i, j, f, e, takes, is, says) = fun n x body d i j r f e takes is says
  from_step_rule (rule.App n m) r (e, e', g, i, f, is, says, says') = app n m e e' g i r f is says says'
  from_step_rule (rule.Make numbers) r (parts, fields, f, is, labels, nothing, say) = make numbers parts fields r f is labels nothing say
  from_step_rule (rule.Proj n) r (body, i, label, field, f, is, label_is, node_is, says) = proj n body i label field r f is label_is node_is says
  from_step_rule (rule.If n m l) r (c, e, e', i, f, is, says, says', says'') = choice n m l c e e' i r f is says says' says''
  from_step_rule (rule.Let n m) r (k, e, e', d1, d2, t1, f, found, meet, says, says') = let_in n m k e e' d1 d2 t1 r f found meet says says'
  from_step_rule (rule.Rec n) r (x, body, d, f, e, e', says) = fix n x body d r f e e' says
  from_step_rule (rule.Sub n) r (first, says, low, all, claims, kept) = sub n first r says low all claims kept
