-- The row of a record: a step by pairs for each part, and the rule.
--     make_row
use Rattle.std.proofs.Common.{◌≡◌, ℕ, true, List, [], ◌∷◌, refl, Some}
use Rattle.mls_book.specs.declared.book.Field.{Field}
use Rattle.mls_book.specs.declared.book.NodeId.{NodeId}
use Rattle.mls_book.specs.declared.book.Node.TheVariants as node
use Rattle.mls_book.specs.Books.{node_at, field_at}
use Rattle.mls_book.specs.Schemes.{Env, IsScheme}
use Rattle.std.specs.FinMap as env
use Rattle.mls_term.specs.declared.term.Part.{Part}
use Rattle.mls_term.specs.declared.term.TermForm.TheVariants as form
use Rattle.mls_deriv.specs.declared.derivation.BinderNode.{BinderNode}
use Rattle.mls_deriv.specs.declared.derivation.Mode.{Mode}
use Rattle.mls_deriv.specs.declared.derivation.Mode.TheVariants.{Lr, Rl}
use Rattle.mls_deriv.specs.declared.derivation.StepLine.{StepLine}
use Rattle.mls_deriv.specs.declared.derivation.StepRule.TheVariants as rule
use Rattle.mls_deriv.specs.Steps.{env_of, form_at, Before, Says, AllSay, HaveLabelsOf, make}
use Rattle.mls_layout.specs.Shown.{IsShown, AreShown}
use Rattle.mls_layout.specs.Runs.{a_step}
use Rattle.mls_layout.specs.Rows.{at, concluded, Fits, Leads, HasRow, Widens}
use Rattle.mls_allowed.proofs.Rows.{leads_then, leads_still, row_step, row_after, sub_row}

module _ (b : Before) (base claims : Mode → ℕ → ℕ → Type 0) (shown : AreShown b.book [] base claims)
    (itself : (mode : Mode) (i : ℕ) → IsShown b.book [] base claims true mode i i) (d : List BinderNode) (root : ℕ) (fields : List Field) where
  -- a step says of a part what is below the field of its label
  pub record SaysBelow (steps : List StepLine) (number : ℕ) (part : Part) : Type 0 where
    pub field : NodeId
    pub found : field_at part.label fields ≡ Some field
    pub env : Env
    pub type : ℕ
    pub says : Says (at b steps) number part.child (concluded b env type)
    pub is : IsScheme (concluded b env type)
    pub is_wider : Fits b d field.0
    pub below : IsShown b.book [] base claims true Lr type field.0
    pub widens : Widens b base claims env (env_of d)

  abbrev pub AllSayBelow : List StepLine → List ℕ → List Part → Type 0
  AllSayBelow steps [] [] = Unit {0}
  AllSayBelow steps (number ∷ numbers) (part ∷ parts) = SaysBelow steps number part × AllSayBelow steps numbers parts
  AllSayBelow steps _ _ = ⊥

  abbrev Told : List StepLine → List ℕ → List Part → Type 0
  Told steps numbers parts = AllSay (at b steps) numbers parts (concluded b (env_of d) root) fields

  all_kept : (steps more : List StepLine) → Leads b steps more → (numbers : List ℕ) (parts : List Part) → Told steps numbers parts → Told more numbers parts
  all_kept steps more leads [] [] told = tt
  all_kept steps more leads [] (part ∷ parts) told = absurd told
  all_kept steps more leads (number ∷ numbers) [] told = absurd told
  all_kept steps more leads (number ∷ numbers) (part ∷ parts) told =
      ((told.0.0, told.0.1, leads.kept number part.child (concluded b (env_of d) told.0.0.0) told.0.2), all_kept steps more leads numbers parts told.1)

  record HasSubs (steps : List StepLine) (parts : List Part) : Type 0 where
    more : List StepLine
    leads : Leads b steps more
    numbers : List ℕ
    told : Told more numbers parts

  -- the steps of the later parts come first
  subs : (steps : List StepLine) (numbers : List ℕ) (parts : List Part) → AllSayBelow steps numbers parts → HasSubs steps parts
  subs steps [] [] all = record { more = steps; leads = leads_still b steps; numbers = []; told = tt }
  subs steps [] (part ∷ parts) all = absurd all
  subs steps (number ∷ numbers) [] all = absurd all
  subs steps (number ∷ numbers) (part ∷ parts) all =
      let rest = subs steps numbers parts all.1 in
      let it = all.0 in
      let row =
      sub_row b base claims shown itself rest.more number part.child it.env it.type d it.field.0
      (rest.leads.kept number part.child (concluded b it.env it.type) it.says) it.is it.is_wider it.below it.widens in
      record {
        more = row.more;
        leads = leads_then b steps rest.more row.more rest.leads row.leads;
        numbers = row.number ∷ rest.numbers;
        told = ((it.field, it.found, row.says), all_kept rest.more row.more row.leads rest.numbers parts rest.told);
      }

  pub make_row : (steps : List StepLine) (e : ℕ) (numbers : List ℕ) (parts : List Part) (u : ℕ)
      → form_at b.term_nodes e ≡ Some (form.Make parts) → node_at b.book root ≡ node.Rcd fields → HaveLabelsOf parts fields → (parts ≡ [] → env_of d ≡ env.empty)
      → AllSayBelow steps numbers parts
      → Fits b d root → Fits b d u → IsShown b.book [] base claims true Lr root u
      → HasRow b steps e (env_of d) u
  make_row steps e numbers parts u is_form is_rcd labels none all is is' below =
      let first = subs steps numbers parts all in
      let row =
      row_step b first.more (a_step e (rule.Make first.numbers) d root) []
      (λ pairs list. record { in_range = is.scheme; rising = is.rising; by_rule = make first.numbers parts fields refl is_form is_rcd labels none first.told }) in
      row_after b steps first.more e (env_of d) u first.leads
      (row_after b first.more row.more e (env_of d) u row.leads
      (sub_row b base claims shown itself row.more row.number e (env_of d) root d u row.says is.scheme is' below (λ x n found. (n, found, itself Rl n))))
