-- The row of a record of a part.
--     make_part
use Rattle.std.proofs.Common.{◌≡◌, ◌↔◌, ℕ, ◌<◌, true, List, [], ◌∷◌, length, map, Contains, refl, sym, ap, ◌∙◌, subst, Option, Some, arith}
use Rattle.std.specs.Prelude.{IsSome, option_map}
use Rattle.std.specs.FinMap as env
use Rattle.mls_book.specs.declared.book.Field.{Field}
use Rattle.mls_book.specs.declared.book.Node.TheVariants as node
use Rattle.mls_book.specs.Books.{field_at, IsClosedBook}
use Rattle.mls_book.specs.Schemes.{Env, IsScheme}
use Rattle.mls_book.proofs.Children.{HasChildrenIn, at_found, closed_children}
use Rattle.mls_automaton.specs.declared.automaton.FieldSet.{FieldSet}
use Rattle.mls_automaton.specs.declared.automaton.HeadKind.TheVariants as kind
use Rattle.mls_automaton.specs.declared.automaton.Polarity.TheVariants.{Positive}
use Rattle.mls_automaton.specs.Automata.{Automaton, polarity_at, head_at}
use Rattle.mls_automaton.specs.Heads.{parts_of, set_at}
use Rattle.mls_term.specs.declared.term.Part.{Part}
use Rattle.mls_term.specs.declared.term.TermForm.TheVariants as form
use Rattle.mls_deriv.specs.declared.derivation.BinderNode.{BinderNode}
use Rattle.mls_deriv.specs.declared.derivation.Mode.{Mode}
use Rattle.mls_deriv.specs.declared.derivation.Mode.TheVariants.{Lr}
use Rattle.mls_deriv.specs.declared.derivation.StepLine.{StepLine}
use Rattle.mls_deriv.specs.Steps.{env_of, form_at, Before, Says, HaveLabelsOf}
use Rattle.mls_layout.specs.Shown.{IsShown, based, AreShown}
use Rattle.mls_layout.specs.Heads.{IsFieldAt, AreParts}
use Rattle.mls_layout.specs.Layouts.{IsLayout, IsItself}
use Rattle.mls_layout.specs.Rows.{at, concluded, Fits, HasRow, Keeps}
use Rattle.mls_allowed.proofs.MakeRows.{SaysBelow, AllSayBelow, make_row}
use Rattle.mls_allowed.proofs.RowPairs.{set_below, head_below}
use Rattle.mls_allowed.proofs.StandingParts.{field_there, field_some}

module _ (b : Before) (a type : Automaton) (R IsPair : ℕ → ℕ → Type 0) (place type_place : ℕ → ℕ) (layout : IsLayout b.book a type R IsPair place type_place)
    (claims : Mode → ℕ → ℕ → Type 0) (shown : AreShown b.book [] IsItself claims)
    (closed_book : IsClosedBook b.book) (low : (s i : ℕ) → Contains (layout.parts s) i → i < length b.book) where
  abbrev Shown : Mode → ℕ → ℕ → Type 0
  Shown = IsShown b.book [] IsItself claims true

  -- a step gives a part of the record the root of a state, which alone is the set of its label
  pub record SaysRoot (steps : List StepLine) (sets : List FieldSet) (d : Env) (number : ℕ) (part : Part) : Type 0 where
    pub root : ℕ
    pub set : set_at sets part.label ≡ Some (root ∷ [])
    pub env : Env
    pub says : Says (at b steps) number part.child (concluded b env (place root))
    pub is : IsScheme (concluded b env (place root))
    pub keeps : Keeps env d

  abbrev pub AllSayRoots : List StepLine → List FieldSet → Env → List ℕ → List Part → Type 0
  AllSayRoots steps sets d [] [] = Unit {0}
  AllSayRoots steps sets d (number ∷ numbers) (part ∷ parts) = SaysRoot steps sets d number part × AllSayRoots steps sets d numbers parts
  AllSayRoots steps sets d _ _ = ⊥

  module _ (sets : List FieldSet) (d : List BinderNode) (q : ℕ) (is_d : Fits b d (place q)) (fields : List Field)
      (fields_low : HasChildrenIn (λ k. k < length b.book) (node.Rcd fields))
      (field : (label : List ℕ) → IsFieldAt b.book place Positive (set_at sets label) (field_at label fields)) where
    with_type : (t : ℕ) → t < length b.book → Fits b d t
    with_type t h = record { scheme = record { book = is_d.scheme.book; root = h; env = is_d.scheme.env }; rising = is_d.rising }

    below_field : (i root : ℕ) (steps : List StepLine) (number : ℕ) (part : Part) → SaysRoot steps sets (env_of d) number part
        → SaysBelow b IsItself claims shown (λ mode i. based refl) d root fields steps number part
    below_field i root steps number part it =
        let there = field_there b.book place Positive (it.root ∷ []) (field_at part.label fields) (subst (λ o. IsFieldAt b.book place Positive o (field_at part.label fields)) it.set (field part.label)) in
        record {
          field = there.0;
          found = there.1;
          env = it.env;
          type = place it.root;
          says = it.says;
          is = it.is;
          is_wider = with_type there.0.0 (at_found (λ k. k < length b.book) part.label fields fields_low there.0 there.1);
          below = set_below b.book claims true Lr place (it.root ∷ []) it.root there.0.0 (0, omega arith, refl) there.2;
          widens = λ x n found. (n, it.keeps x n found, based refl);
        }

    all_below : (root : ℕ) (steps : List StepLine) (numbers : List ℕ) (parts : List Part) → AllSayRoots steps sets (env_of d) numbers parts
        → AllSayBelow b IsItself claims shown (λ mode i. based refl) d root fields steps numbers parts
    all_below root steps [] [] all = tt
    all_below root steps [] (part ∷ parts) all = absurd all
    all_below root steps (number ∷ numbers) [] all = absurd all
    all_below root steps (number ∷ numbers) (part ∷ parts) all = (below_field 0 root steps number part all.0, all_below root steps numbers parts all.1)

  -- a record: the root q has the record with a set for each label of the parts
  pub make_part : (steps : List StepLine) (e : ℕ) (numbers : List ℕ) (parts : List Part) (sets : List FieldSet) (d : List BinderNode) (q : ℕ)
      → form_at b.term_nodes e ≡ Some (form.Make parts) → polarity_at a q ≡ Positive → (head_at a q).fields ≡ Some sets
      → ((label : List ℕ) → IsSome (set_at sets label) ↔ Contains (map (λ (part : Part). part.label) parts) label)
      → (parts ≡ [] → env_of d ≡ env.empty) → AllSayRoots steps sets (env_of d) numbers parts
      → Fits b d (place q)
      → HasRow b steps e (env_of d) (place q)
  make_part steps e numbers parts sets d q is_form is_q has labels none all is_d =
      let has' : option_map set_at (head_at a q).fields ≡ Some (set_at sets) = ap (option_map set_at) has in
      let w = (subst (λ p. AreParts b.book place p (parts_of (head_at a q)) (layout.parts q)) is_q (layout.heads q)).each kind.Rcd (set_at sets, has') in
      let same : w.2.sets ≡ set_at sets = (let h : Some w.2.sets ≡ Some (set_at sets) = sym w.2.has ∙ has' in cc) in
      let field : (label : List ℕ) → IsFieldAt b.book place Positive (set_at sets label) (field_at label w.2.fields)
      = λ label. subst (λ (z : List ℕ → Option (List ℕ)). IsFieldAt b.book place Positive (z label) (field_at label w.2.fields)) same (w.2.field label) in
      let children : HasChildrenIn (λ k. k < length b.book) (node.Rcd w.2.fields) = subst (HasChildrenIn (λ k. k < length b.book)) w.2.node (closed_children b.book closed_book.closed w.0 (low q w.0 w.1)) in
      let have : HaveLabelsOf parts w.2.fields
      = λ label.
      let one = field_some b.book place Positive (set_at sets label) (field_at label w.2.fields) (field label) in
      (λ h. (labels label).0 (one.0 h), λ h. one.1 ((labels label).1 h)) in
      make_row b IsItself claims shown (λ mode i. based refl) d w.0 w.2.fields steps e numbers parts (place q) is_form w.2.node have none
      (all_below sets d q is_d w.2.fields children field w.0 steps numbers parts all)
      (with_type sets d q is_d w.2.fields children field w.0 (low q w.0 w.1)) is_d
      (head_below b.book claims true Lr a type R IsPair place type_place layout q w.0 is_q w.1)
