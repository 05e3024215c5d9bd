-- What the checks of rules find.
use Rattle.std.proofs.Common.{◌≡◌, ◌↔◌, ◌⊎◌, inl, inr, ℕ, suc, ◌+◌, ◌<◌, Bool, true, false, List, [], ◌∷◌, length, get_or, refl, sym, ap, ◌∙◌, subst, arith, Option, Some, None, cond, nat_eq, IsTrue}
use Rattle.std.specs.Prelude.{All, find, option_map}
use Rattle.std.specs.Prelude.{bytes_eq}
use Rattle.std.proofs.lemmas.Bool.{cases_eq}
use Rattle.std.proofs.lemmas.Bool.Decides.{Decides-eqb}
use Rattle.std.proofs.lemmas.Slice.Eq.{bytes_eq-Decides}
use Rattle.mls_book.specs.declared.book.NodeId.{NodeId}
use Rattle.mls_book.specs.Books.{node_at}
use Rattle.mls_deriv.specs.Steps.{raised}
use Rattle.std.proofs.lemmas.List.Elements.{All-head, All-tail}
use Rattle.mls_book.specs.declared.book.Field.{Field}
use Rattle.mls_book.specs.declared.book.Node.{Node}
use Rattle.mls_term.specs.declared.term.Part.{Part}
use Rattle.mls_term.specs.Derivations.{IsMeetAt}
use Rattle.mls_deriv.specs.declared.derivation.BinderNode.{BinderNode}
use Rattle.mls_deriv.specs.declared.derivation.StepLine.{StepLine}
use Rattle.mls_deriv.specs.inner.Rules.{node_in, AreFieldsOf, IsMeetIn}

-- there are as many steps as parts
pub fields_length : (steps : List StepLine) (step : StepLine) (fields : List Field) (numbers : List ℕ) (parts : List Part) → AreFieldsOf steps step fields numbers parts → length numbers ≡ length parts
fields_length steps step fields [] [] all = refl
fields_length steps step fields [] (part ∷ parts) all = absurd all
fields_length steps step fields (number ∷ numbers) [] all = absurd all
fields_length steps step fields (number ∷ numbers) (part ∷ parts) all = ap suc (fields_length steps step fields numbers parts all.1)

-- a binder that has a node is among the entries
among : (P : ℕ → Type 0) (env : List BinderNode) → All (λ entry. P entry.binder) env → (x : ℕ) → (node_in env x ≡ None) ⊎ P x
among P [] all x = inl refl
among P (entry ∷ rest) all x = go (nat_eq entry.binder x) refl (among P rest (All-tail (λ (e : BinderNode). P e.binder) entry rest all) x)
  where
    go : (b : Bool) → nat_eq entry.binder x ≡ b → (node_in rest x ≡ None) ⊎ P x
        → (option_map (λ (e : BinderNode). e.node.0) (cond b (Some entry) (find (λ (e : BinderNode). nat_eq e.binder x) rest)) ≡ None) ⊎ P x
    go true e later = inr (subst P ((Decides-eqb entry.binder x).0 e) (All-head (λ (e : BinderNode). P e.binder) entry rest all))
    go false e later = later

-- three environments meet where they do at all their binders
pub all_met : (book : List Node) (left right both : List BinderNode)
    → All (λ entry. IsMeetAt book (node_in left entry.binder) (node_in right entry.binder) (node_in both entry.binder)) left
    → All (λ entry. IsMeetAt book (node_in left entry.binder) (node_in right entry.binder) (node_in both entry.binder)) right
    → All (λ entry. IsMeetAt book (node_in left entry.binder) (node_in right entry.binder) (node_in both entry.binder)) both
    → IsMeetIn book left right both
all_met book left right both h k l x = go (among Met left h x) (among Met right k x) (among Met both l x)
  where
    Met : ℕ → Type 0
    Met y = IsMeetAt book (node_in left y) (node_in right y) (node_in both y)

    nowhere : (a b c : Option ℕ) → a ≡ None → b ≡ None → c ≡ None → IsMeetAt book a b c
    nowhere None b c e f g = g ∙ sym f
    nowhere (Some i) b c e f g = absurd (cc)

    go : (node_in left x ≡ None) ⊎ Met x → (node_in right x ≡ None) ⊎ Met x → (node_in both x ≡ None) ⊎ Met x → Met x
    go (inr m) b c = m
    go (inl e) (inr m) c = m
    go (inl e) (inl f) (inr m) = m
    go (inl e) (inl f) (inl g) = nowhere (node_in left x) (node_in right x) (node_in both x) e f g

pub met_at : (book : List Node) (left right both env : List BinderNode) → IsMeetIn book left right both
    → All (λ entry. IsMeetAt book (node_in left entry.binder) (node_in right entry.binder) (node_in both entry.binder)) env
met_at book left right both env h = λ i d low. h (get_or env i d).binder

-- one field alone
pub single_field : (fields : List Field) (label : List ℕ) (node : NodeId) (f : Field) (b : Bool) → length fields ≡ 1 → f ≡ get_or fields 0 f
    → true ≡ bytes_eq f.label label → b ≡ nat_eq f.node.0 node.0 → IsTrue b ↔ (fields ≡ record { label = label; node = node } ∷ [])
single_field [] label node f b one is labels nodes = absurd (omega arith)
single_field (x ∷ y ∷ rest) label node f b one is labels nodes = absurd (omega arith)
single_field (x ∷ []) label node f b one is labels nodes =
    let label_is : f.label ≡ label = (bytes_eq-Decides f.label label).0 (sym labels) in
    let tests = Decides-eqb f.node.0 node.0 in (
      λ h.
          let node_is : f.node.0 ≡ node.0 = tests.0 (sym nodes ∙ h) in
          let same : f ≡ record { label = label; node = node } = λ i. record { label = label_is i; node = record { 0 = node_is i } } in
          ap (λ (g : Field). g ∷ []) (sym is ∙ same),
      λ e.
          let same : x ≡ record { label = label; node = node } = cc in
          nodes ∙ tests.1 (ap (λ (g : Field). g.node.0) (is ∙ same)),
    )

-- one node more
pub nodes_more : (book : List Node) (n : ℕ) (other : List Node) (i : ℕ) → ((k : ℕ) → k < i → node_at book (n + k) ≡ raised n (node_at other k))
    → node_at book (n + i) ≡ raised n (node_at other i) → (k : ℕ) → k < i + 1 → node_at book (n + k) ≡ raised n (node_at other k)
nodes_more book n other i before here k low =
    elim (cases_eq k i) [
      | inl same ↦ subst (λ m. node_at book (n + m) ≡ raised n (node_at other m)) (sym same) here
      | inr different ↦ before k (omega arith)
    ]
