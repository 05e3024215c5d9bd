-- The lines that are written for a record: each part is brought to the field of its label, in one environment for all.
--     make_written
use Rattle.std.proofs.Common.{◌≡◌, ℕ, ◌<◌, List, [], ◌∷◌, ◌++◌, length, refl, sym, ap, ◌∙◌, subst, append_assoc, Some}
use Rattle.std.specs.FinMap as env
use Rattle.mls_book.specs.declared.book.Field.{Field}
use Rattle.mls_book.specs.declared.book.NodeId.{NodeId}
use Rattle.mls_book.specs.declared.book.Node.TheVariants as node
use Rattle.mls_book.specs.Books.{node_at, field_at}
use Rattle.mls_term.specs.declared.term.Part.{Part}
use Rattle.mls_term.specs.declared.term.TermForm.TheVariants as form
use Rattle.mls_deriv.specs.declared.derivation.BinderNode.{BinderNode}
use Rattle.mls_deriv.specs.declared.derivation.Mode.{Mode}
use Rattle.mls_deriv.specs.declared.derivation.StepLine.{StepLine}
use Rattle.mls_deriv.specs.declared.derivation.StepRule.TheVariants as rule
use Rattle.mls_deriv.specs.declared.claim.Put.{Put}
use Rattle.mls_deriv.specs.Steps.{env_of, form_at, Before, Says, AllSay, HaveLabelsOf, make}
use Rattle.mls_lines.specs.Conclusions.{IsGood, Concluded, AreBrought, IsReading, HasConcluded, IsOuter, IsOver, AreJoined, no_more, one_more}
use Rattle.mls_layout.specs.Plans.{PlannedLine, a_step_with, planned_steps}
use Rattle.mls_layout.specs.Rows.{at, concluded}
use Rattle.mls_layout.specs.Runs.{a_step}
use Rattle.mls_lines.specs.NodeLines.{by_rule}
use Rattle.mls_allowed.proofs.Conclusions.{good_none, good_then, says_then, fits_of, joined_outer, over_itself, over_first, over_second, over_then}
use Rattle.mls_lines.proofs.Bringing.{planned_append}
use Rattle.mls_allowed.proofs.WrittenRows.{Writes, rule_behind, nothing_outer, IsAsked, asked_outer, asked_brought, has_then}

module _ (b : Before) (Own : ℕ → Type 0) (Below : ℕ → ℕ → Type 0) (Read : List Put → Mode → ℕ → ℕ → Type 0) (node_of : ℕ → ℕ) (laws : IsReading b Own Below Read node_of) where
  abbrev Outer : List ℕ → List BinderNode → Type 0
  Outer = IsOuter b Own Below Read node_of

  abbrev Over : (d later : List BinderNode) → Type 0
  Over = IsOver b Own Below Read node_of

  abbrev AllOver : List (List BinderNode) → List BinderNode → Type 0
  AllOver [] d = Unit {0}
  AllOver (offered ∷ rest) d = Over offered d × AllOver rest d

  abbrev AllOuter : List ℕ → List (List BinderNode) → Type 0
  AllOuter scope [] = Unit {0}
  AllOuter scope (offered ∷ rest) = Outer scope offered × AllOuter scope rest

  all_over : (start last : List BinderNode) (offered : List (List BinderNode)) → AreJoined node_of b.book start offered last → Over start last × AllOver offered last
  all_over start last offered no_more = (over_itself b Own Below Read node_of laws start, tt)
  all_over start last offered (one_more {e = e} {joined = joined} {rest = rest} it more) =
      let later = all_over joined last rest more in (
        over_then b Own Below Read node_of laws start joined last (over_first b Own Below Read node_of laws start e joined it) later.0,
        (over_then b Own Below Read node_of laws e joined last (over_second b Own Below Read node_of laws start e joined it) later.0, later.1),
      )

  all_outer : (scope : List ℕ) (start last : List BinderNode) (offered : List (List BinderNode)) → AreJoined node_of b.book start offered last → Outer scope start → AllOuter scope offered → Outer scope last
  all_outer scope start last offered no_more outer all = outer
  all_outer scope start last offered (one_more {e = e} {joined = joined} {rest = rest} it more) outer all =
      all_outer scope joined last rest more (joined_outer b Own Below Read node_of laws scope start e joined outer all.0 it) all.1

  module _ (of : ℕ → Concluded) (top_of : ℕ → ℕ) (scope : List ℕ) (fields : List Field) where
    -- what is offered for the parts of a record, each at the field of its label
    pub record IsPartAsked (steps : List StepLine) (part : Part) (offered : List BinderNode) : Type 0 where
      pub field : NodeId
      pub found : field_at part.label fields ≡ Some field
      pub has : HasConcluded b Own Below Read node_of steps part.child (top_of part.child) scope (of part.child)
      pub asked : IsAsked b Own Below Read node_of laws scope (of part.child) (top_of part.child) field.0 offered

    abbrev pub ArePartsAsked : List StepLine → List Part → List (List BinderNode) → Type 0
    ArePartsAsked steps [] [] = Unit {0}
    ArePartsAsked steps (part ∷ parts) (offered ∷ rest) = IsPartAsked steps part offered × ArePartsAsked steps parts rest
    ArePartsAsked steps _ _ = ⊥

    parts_outer : (steps : List StepLine) (parts : List Part) (offered : List (List BinderNode)) → ArePartsAsked steps parts offered → AllOuter scope offered
    parts_outer steps [] [] all = tt
    parts_outer steps [] (one ∷ rest) all = absurd all
    parts_outer steps (part ∷ parts) [] all = absurd all
    parts_outer steps (part ∷ parts) (one ∷ rest) all =
        (asked_outer b Own Below Read node_of laws steps part.child (top_of part.child) scope (of part.child) all.0.field.0 one all.0.has all.0.asked, parts_outer steps parts rest all.1)

    parts_then : (steps more : List StepLine) (parts : List Part) (offered : List (List BinderNode)) → ArePartsAsked steps parts offered → ArePartsAsked (steps ++ more) parts offered
    parts_then steps more [] [] all = tt
    parts_then steps more [] (one ∷ rest) all = absurd all
    parts_then steps more (part ∷ parts) [] all = absurd all
    parts_then steps more (part ∷ parts) (one ∷ rest) all = (
      record {
        field = all.0.field;
        found = all.0.found;
        has = has_then b Own Below Read node_of laws steps more part.child (top_of part.child) scope (of part.child) all.0.has;
        asked = all.0.asked;
      },
      parts_then steps more parts rest all.1,
    )

    module _ (d : List BinderNode) (root : ℕ) where
      abbrev Told : List StepLine → List ℕ → List Part → Type 0
      Told steps numbers parts = AllSay (at b steps) numbers parts (concluded b (env_of d) root) fields

      record BringsParts (steps : List StepLine) (parts : List Part) (plan : List PlannedLine) (numbers : List ℕ) : Type 0 where
        good : IsGood b steps plan
        told : Told (steps ++ planned_steps plan) numbers parts

      joined_plans : (steps : List StepLine) (part : Part) (parts : List Part) (field : NodeId) (first rest : List PlannedLine) (number : ℕ) (others : List ℕ) → field_at part.label fields ≡ Some field
          → IsGood b steps first → Says (at b (steps ++ planned_steps first)) number part.child (concluded b (env_of d) field.0)
          → BringsParts (steps ++ planned_steps first) parts rest others → BringsParts steps (part ∷ parts) (first ++ rest) (number ∷ others)
      joined_plans steps part parts field first rest number others found good says later =
          let same = append_assoc steps (planned_steps first) (planned_steps rest) ∙ ap (λ (l : List StepLine). steps ++ l) (sym (planned_append first rest)) in
          record {
            good = good_then b steps first rest good later.good;
            told = (
              (
                field,
                found,
                subst (λ (l : List StepLine). Says (at b l) number part.child (concluded b (env_of d) field.0)) same
                    (says_then b (planned_steps rest) (steps ++ planned_steps first) number part.child (concluded b (env_of d) field.0) says),
              ),
              subst (λ (l : List StepLine). Told l others parts) same later.told,
            );
          }

      parts_brought : (steps : List StepLine) (parts : List Part) (offered : List (List BinderNode)) (plan : List PlannedLine) (numbers : List ℕ) → Outer scope d
          → ArePartsAsked steps parts offered → AllOver offered d → AreBrought of steps d fields parts plan numbers → BringsParts steps parts plan numbers
      parts_brought steps [] offered plan numbers outer all over it =
          subst (λ (l : List PlannedLine). BringsParts steps [] l numbers) (sym it.0)
          (subst (BringsParts steps [] []) (sym it.1) (record { good = good_none b steps; told = tt }))
      parts_brought steps (part ∷ parts) [] plan numbers outer all over it = absurd all
      parts_brought steps (part ∷ parts) (one ∷ offered) plan numbers outer all over (field, found, first, rest, number, others, is_plan, are, adapts, later) =
          let same : all.0.field ≡ field = (let h : Some all.0.field ≡ Some field = sym all.0.found ∙ found in cc) in
          let asked = subst (λ (z : NodeId). IsAsked b Own Below Read node_of laws scope (of part.child) (top_of part.child) z.0 one) same all.0.asked in
          let brings =
          asked_brought b Own Below Read node_of laws steps part.child (top_of part.child) scope (of part.child) field.0 one d first number all.0.has asked over.0
          (fits_of b Own Below Read node_of laws scope d field.0 outer asked.low) adapts in
          subst (λ (l : List PlannedLine). BringsParts steps (part ∷ parts) l numbers) (sym is_plan)
          (subst (BringsParts steps (part ∷ parts) (first ++ rest)) (sym are)
          (joined_plans steps part parts field first rest number others found brings.good brings.says
          (parts_brought (steps ++ planned_steps first) parts offered rest others outer (parts_then steps (planned_steps first) parts offered all.1) over.1 later)))

    -- no part has no binder
    no_part : (steps : List StepLine) (parts : List Part) (offered : List (List BinderNode)) (d : List BinderNode) → ArePartsAsked steps parts offered → AreJoined node_of b.book [] offered d
        → parts ≡ [] → env_of d ≡ env.empty
    no_part steps [] [] d all no_more e = refl
    no_part steps [] (one ∷ rest) d all joined e = absurd all
    no_part steps (part ∷ parts) offered d all joined e = absurd (cc)

    pub make_written : (steps : List StepLine) (e : ℕ) (parts : List Part) (offered : List (List BinderNode)) (d : List BinderNode) (rcd : ℕ) (plan : List PlannedLine) (numbers : List ℕ) (top : ℕ)
        → form_at b.term_nodes e ≡ Some (form.Make parts) → node_at b.book rcd ≡ node.Rcd fields → HaveLabelsOf parts fields → rcd < length b.book → Own rcd → Below rcd top
        → ArePartsAsked steps parts offered → AreJoined node_of b.book [] offered d → AreBrought of steps d fields parts plan numbers
        → Writes b Own Below Read node_of laws steps e top scope (plan ++ a_step_with (a_step e (rule.Make numbers) d rcd) [] ∷ []) (by_rule (length (steps ++ planned_steps plan)) (a_step e (rule.Make numbers) d rcd))
    make_written steps e parts offered d rcd plan numbers top is_form is_rcd labels low own below asked joined adapts =
        rule_behind b Own Below Read node_of laws steps plan (a_step e (rule.Make numbers) d rcd) top scope brings.good
        (λ pairs. record {
          in_range = (fits_of b Own Below Read node_of laws scope d rcd outer low).scheme;
          rising = outer.rising;
          by_rule = make numbers parts fields refl is_form is_rcd labels (no_part steps parts offered d asked joined) brings.told;
        })
        own below outer
      where
        outer : Outer scope d
        outer = all_outer scope [] d offered joined (nothing_outer b Own Below Read node_of laws scope) (parts_outer steps parts offered asked)

        brings : BringsParts d rcd steps parts plan numbers
        brings = parts_brought d rcd steps parts offered plan numbers outer asked (all_over [] d offered joined).1 adapts
