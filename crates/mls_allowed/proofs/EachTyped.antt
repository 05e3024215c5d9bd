-- Where a tree is typed, so is each node of its part.
--     each_typed
--     IsChoice, conditional_tree      a tree whose root is a conditional
use Rattle.std.proofs.Common.{◌≡◌, inl, inr, ℕ, List, sym, ◌∙◌, subst, Some}
use Rattle.std.specs.Prelude.{Contains}
use Rattle.mls_book.specs.Predicates.{Predicate}
use Rattle.mls_term.specs.declared.term.Part.{Part}
use Rattle.mls_term.specs.declared.term.TermForm.{TermForm}
use Rattle.mls_term.specs.declared.term.TermForm.TheVariants as form
use Rattle.mls_term.specs.declared.term.TermNode.{TermNode}
use Rattle.mls_term.specs.Terms.{TermTree, TermFields, bound, inner, global, number, truth, fun, apply, make, project, choice, local, fix, no_field, a_field}
use Rattle.mls_term.specs.Derivations.{Known}
use Rattle.mls_typing.specs.Typed.{Types}
use Rattle.mls_typing.proofs.Lists.{Contains-cases, nothing_in}
use Rattle.mls_deriv.specs.Steps.{form_at}
use Rattle.mls_parts.specs.NodeTypes.{IsConditional, IsNodeTyped, AreTyped, AreAllTyped, IsOwnPart, IsNodeOf, at_top, in_part}

-- the tree of a conditional
abbrev pub IsChoice : TermTree → Type 0
IsChoice (choice at c e e') = Unit {0}
IsChoice _ = ⊥

module _ (nodes : List TermNode) (known : Known) (type : ℕ → Predicate) (binder : Types) where
  abbrev Typed : ℕ → TermTree → Type 0
  Typed i t = AreTyped nodes known type binder i t

  one_form : (i : ℕ) (g f : TermForm) → form_at nodes i ≡ Some g → form_at nodes i ≡ Some f → g ≡ f
  one_form i g f e e' = let same : Some g ≡ Some f = sym e ∙ e' in cc

  -- the root is typed as its form asks
  root_typed : (t : TermTree) (i : ℕ) → Typed i t → (f : TermForm) → form_at nodes i ≡ Some f → IsNodeTyped nodes known type binder i f
  root_typed (bound at x) i it f e = subst (IsNodeTyped nodes known type binder i) (one_form i (form.Bound x) f it.0 e) it.1
  root_typed (inner at k) i it f e = subst (IsNodeTyped nodes known type binder i) (one_form i (form.Inner k) f it.0 e) it.1
  root_typed (global at g) i it f e = subst (IsNodeTyped nodes known type binder i) (one_form i (form.Global g) f it.0 e) it.1
  root_typed (number at value) i it f e = subst (IsNodeTyped nodes known type binder i) (one_form i (form.Number value) f it.0 e) it.1
  root_typed (truth at value) i it f e = subst (IsNodeTyped nodes known type binder i) (one_form i (form.Truth value) f it.0 e) it.1
  root_typed (fun at x e') i (j, it, body) f e = subst (IsNodeTyped nodes known type binder i) (one_form i (form.Fun x j) f it.0 e) it.1
  root_typed (apply at e1 e2) i (j, k, it, one, two) f e = subst (IsNodeTyped nodes known type binder i) (one_form i (form.Apply j k) f it.0 e) it.1
  root_typed (make at fields) i (parts, it, all) f e = subst (IsNodeTyped nodes known type binder i) (one_form i (form.Make parts) f it.0 e) it.1
  root_typed (project at e' label) i (j, it, body) f e = subst (IsNodeTyped nodes known type binder i) (one_form i (form.Project j label) f it.0 e) it.1
  root_typed (choice at c e1 e2) i (j, k, l, it, one, two, three) f e = subst (IsNodeTyped nodes known type binder i) (one_form i (form.If j k l) f it.0 e) it.1
  root_typed (local at k e1 e2) i (j, l, it, second) f e = subst (IsNodeTyped nodes known type binder i) (one_form i (form.Let k j l) f it.0 e) it.1
  root_typed (fix at x e') i (j, it, body) f e = subst (IsNodeTyped nodes known type binder i) (one_form i (form.Rec x j) f it.0 e) it.1

  -- a tree whose root is a conditional
  pub conditional_tree : (t : TermTree) (i : ℕ) → Typed i t → IsConditional nodes i → IsChoice t
  conditional_tree (bound at x) i it (j, k, l, e) = let same : form.Bound x ≡ form.If j k l = one_form i (form.Bound x) (form.If j k l) it.0 e in absurd (cc)
  conditional_tree (inner at m) i it (j, k, l, e) = let same : form.Inner m ≡ form.If j k l = one_form i (form.Inner m) (form.If j k l) it.0 e in absurd (cc)
  conditional_tree (global at g) i it (j, k, l, e) = let same : form.Global g ≡ form.If j k l = one_form i (form.Global g) (form.If j k l) it.0 e in absurd (cc)
  conditional_tree (number at value) i it (j, k, l, e) = let same : form.Number value ≡ form.If j k l = one_form i (form.Number value) (form.If j k l) it.0 e in absurd (cc)
  conditional_tree (truth at value) i it (j, k, l, e) = let same : form.Truth value ≡ form.If j k l = one_form i (form.Truth value) (form.If j k l) it.0 e in absurd (cc)
  conditional_tree (fun at x e') i (j', it, body) (j, k, l, e) = let same : form.Fun x j' ≡ form.If j k l = one_form i (form.Fun x j') (form.If j k l) it.0 e in absurd (cc)
  conditional_tree (apply at e1 e2) i (j', k', it, one, two) (j, k, l, e) = let same : form.Apply j' k' ≡ form.If j k l = one_form i (form.Apply j' k') (form.If j k l) it.0 e in absurd (cc)
  conditional_tree (make at fields) i (parts, it, all) (j, k, l, e) = let same : form.Make parts ≡ form.If j k l = one_form i (form.Make parts) (form.If j k l) it.0 e in absurd (cc)
  conditional_tree (project at e' label) i (j', it, body) (j, k, l, e) = let same : form.Project j' label ≡ form.If j k l = one_form i (form.Project j' label) (form.If j k l) it.0 e in absurd (cc)
  conditional_tree (choice at c e1 e2) i it conditional = tt
  conditional_tree (local at m e1 e2) i (j', l', it, second) (j, k, l, e) = let same : form.Let m j' l' ≡ form.If j k l = one_form i (form.Let m j' l') (form.If j k l) it.0 e in absurd (cc)
  conditional_tree (fix at x e') i (j', it, body) (j, k, l, e) = let same : form.Rec x j' ≡ form.If j k l = one_form i (form.Rec x j') (form.If j k l) it.0 e in absurd (cc)

  -- some tree is typed there
  abbrev HasTyped : ℕ → Type 0
  HasTyped j = (t : TermTree) × Typed j t

  one_of : (j i : ℕ) (t : TermTree) → Typed i t → j ≡ i → HasTyped j
  one_of j i t it same = (t, let P : ℕ → Type 0 = λ k. Typed k t in subst P (sym same) it)

  field_typed : (fields : TermFields) (parts : List Part) → AreAllTyped nodes known type binder parts fields → (part : Part) → Contains parts part → HasTyped part.child
  field_typed no_field parts none part inside = absurd (nothing_in part (subst (λ ps. Contains ps part) none inside))
  field_typed (a_field label e rest) parts (j, others, are, it, all) part inside =
      elim (Contains-cases (record { label = label; child = j }) others part (subst (λ ps. Contains ps part) are inside)) [
        | inl same ↦ (let H : Part → Type 0 = λ (p : Part). HasTyped p.child in subst H same (e, it))
        | inr there ↦ field_typed rest others all part there
      ]

  -- a part of the node is one of its form
  shaped : (j i : ℕ) (g f : TermForm) → form_at nodes i ≡ Some g → form_at nodes i ≡ Some f → IsOwnPart f j → IsOwnPart g j
  shaped j i g f e e' part = subst (λ f. IsOwnPart f j) (sym (one_form i g f e e')) part

  -- and so are its parts
  part_typed : (t : TermTree) (i : ℕ) → Typed i t → (f : TermForm) → form_at nodes i ≡ Some f → (j : ℕ) → IsOwnPart f j → HasTyped j
  part_typed (bound at x) i it f e j part = absurd (shaped j i (form.Bound x) f it.0 e part)
  part_typed (inner at k) i it f e j part = absurd (shaped j i (form.Inner k) f it.0 e part)
  part_typed (global at g) i it f e j part = absurd (shaped j i (form.Global g) f it.0 e part)
  part_typed (number at value) i it f e j part = absurd (shaped j i (form.Number value) f it.0 e part)
  part_typed (truth at value) i it f e j part = absurd (shaped j i (form.Truth value) f it.0 e part)
  part_typed (fun at x e') i (j', it, body) f e j part = one_of j j' e' body (shaped j i (form.Fun x j') f it.0 e part)
  part_typed (apply at e1 e2) i (j', k, it, one, two) f e j part =
      elim (shaped j i (form.Apply j' k) f it.0 e part) [ inl same ↦ one_of j j' e1 one same | inr same ↦ one_of j k e2 two same ]
  part_typed (make at fields) i (parts, it, all) f e j part =
      let found = shaped j i (form.Make parts) f it.0 e part in
      let H : ℕ → Type 0 = HasTyped in
      subst H (sym found.2) (field_typed fields parts all found.0 found.1)
  part_typed (project at e' label) i (j', it, body) f e j part = one_of j j' e' body (shaped j i (form.Project j' label) f it.0 e part)
  part_typed (choice at c e1 e2) i (j', k, l, it, one, two, three) f e j part =
      elim (shaped j i (form.If j' k l) f it.0 e part) [
        | inl same ↦ one_of j j' c one same
        | inr rest ↦ elim rest [ inl same ↦ one_of j k e1 two same | inr same ↦ one_of j l e2 three same ]
      ]
  part_typed (local at k e1 e2) i (j', l, it, second) f e j part = one_of j l e2 second (shaped j i (form.Let k j' l) f it.0 e part)
  part_typed (fix at x e') i (j', it, body) f e j part = one_of j j' e' body (shaped j i (form.Rec x j') f it.0 e part)

  node_typed : (top : ℕ) (t : TermTree) → Typed top t → (i : ℕ) → IsNodeOf nodes top i → HasTyped i
  node_typed top t it i (at_top same) = one_of i top t it same
  node_typed top t it i (in_part j f outer e part) = let above : HasTyped j = node_typed top t it j outer in part_typed above.0 j above.1 f e i part

  -- each node of a typed part is typed as its form asks
  pub each_typed : (top : ℕ) (t : TermTree) → Typed top t → (i : ℕ) (f : TermForm) → IsNodeOf nodes top i → form_at nodes i ≡ Some f → IsNodeTyped nodes known type binder i f
  each_typed top t it i f inside e = let here : HasTyped i = node_typed top t it i inside in root_typed here.0 i here.1 f e
