-- The types of first parts, made one after another, are types of all lets of a term.
--     lets_in                 the binders around each let are in scope
--     posed_kept, binders_kept, made_kept
--                             what was made of a first part stays so while more types become known
--     type_new                a let whose first part has the next root has no type before
--     first_needs             a type that was made needs no binders but those around its let
--     firsts_start, firsts_same, firsts_more, firsts_added
--                             the types of first parts, one root after another
--     have_first_types        so all lets have such types
use Rattle.std.proofs.Common.{◌≡◌, ◌⊎◌, inl, inr, ℕ, ◌+◌, ◌<◌, arith, List, [], ◌∷◌, ◌++◌, length, refl, sym, ap, ◌∙◌, subst, Contains, Option, Some, None}
use Rattle.std.specs.Prelude.{◌↔◌, IsSome, is_some}
use Rattle.std.specs.BTreeMap.{BTreeMap, is_at, Updates}
use Rattle.std.specs.Map.{lookup}
use Rattle.std.specs.Ordering.{nat_cmp}
use Rattle.std.proofs.lemmas.List.Elements.{Contains-push_cases}
use Rattle.mls_book.proofs.LongerBooks.{below_or_more}
use Rattle.mls_automaton.specs.declared.scheme.Scheme.{Scheme}
use Rattle.mls_automaton.specs.Schemes.{state_of}
use Rattle.mls_automaton.proofs.Reaching.{entry-found}
use Rattle.mls_solver.specs.Relations.{IsGoal}
use Rattle.mls_term.specs.declared.term.TermForm.{TermForm}
use Rattle.mls_term.specs.declared.term.TermForm.TheVariants as form
use Rattle.mls_term.specs.declared.term.TermNode.{TermNode}
use Rattle.mls_term.specs.Terms.{TermTree, TermFields, bound, inner, global, number, truth, fun, apply, make, project, choice, local, fix, no_field, a_field, before}
use Rattle.mls_term.specs.Derivations.{Known}
use Rattle.mls_term.specs.WellFormed.{IsTerm, HasRisingTree}
use Rattle.mls_typing.proofs.Lists.{Contains-here, Contains-later}
use Rattle.mls_deriv.specs.Steps.{form_at}
use Rattle.mls_layout.specs.PosedNodes.{IsNodePosed}
use Rattle.mls_parts.specs.declared.binders.PartBinders.{PartBinders}
use Rattle.mls_parts.specs.declared.pose.KnownTypes.{KnownTypes}
use Rattle.mls_parts.specs.declared.pose.Posing.{Posing}
use Rattle.mls_parts.specs.MetCopies.{IsUseMet}
use Rattle.mls_parts.specs.NodeTypes.{at_top}
use Rattle.mls_parts.specs.NumberedNodes.{behind}
use Rattle.mls_parts.specs.PartBinders as binders_of_parts
use Rattle.mls_parts.specs.PartBinders.{ArePartBinders, NamesBinder, NeedsBinder}
use Rattle.mls_parts.specs.PartUses.{HasOwnType, KnowsType, KnowTypes}
use Rattle.mls_parts.specs.PosedParts.{IsPartPosed}
use Rattle.mls_parts.specs.Posings.{binder_in, known_in, root_in}
use Rattle.mls_parts.specs.SolvedTypes.{entries_of}
use Rattle.mls_parts.specs.TermParts.{IsTermPart}
use Rattle.mls_parts.specs.TreeNodes.{AreTreeNodes}
use Rattle.mls_parts.proofs.TreeNodes.{form_low, one_form, tree_nodes}
use Rattle.mls_allowed.specs.LetScopes.{HasScopes, HaveScopes}
use Rattle.mls_allowed.specs.MadeFirsts as added
use Rattle.mls_allowed.specs.MadeFirsts.{around_states, AreAdded, IsFirstMade}
use Rattle.mls_allowed.specs.FirstTypes.{AreFieldLetsIn, AreFirstsMade, AreLetsIn, HaveBooks, HaveFirstTypes, HaveOwnLets}
use Rattle.mls_allowed.specs.PartTypes.{AreAround}
use Rattle.mls_allowed.proofs.AroundParts.{part_around}
use Rattle.mls_allowed.proofs.FirstScopes.{IsFirstAround, first_around}
use Rattle.mls_allowed.proofs.FirstTypes.{made_first_type}
use Rattle.mls_allowed.proofs.ReadyParts.{state_back}
use Rattle.mls_allowed.proofs.Updated.{updated_at, updated_own}

-- the binders around each let of a tree are in scope, in whichever order
module _ (let_scope : ℕ → List ℕ) where
  abbrev IsInside : List ℕ → List ℕ → Type 0
  IsInside xs ys = (x : ℕ) → Contains xs x → Contains ys x

  inside_more : (xs ys : List ℕ) (x : ℕ) → IsInside xs ys → IsInside (xs ++ x ∷ []) (x ∷ ys)
  inside_more xs ys x inside y there = elim (Contains-push_cases xs x y there) [ inl outer ↦ Contains-later x ys y (inside y outer) | inr same ↦ subst (Contains (x ∷ ys)) same (Contains-here x ys) ]

  mutual
    pub lets_in : (t : TermTree) (around scope : List ℕ) → IsInside around scope → HasScopes let_scope around t → AreLetsIn let_scope scope t
    lets_in (bound at x) around scope inside has = tt
    lets_in (inner at k) around scope inside has = tt
    lets_in (global at g) around scope inside has = tt
    lets_in (number at value) around scope inside has = tt
    lets_in (truth at value) around scope inside has = tt
    lets_in (fun at x e) around scope inside has = lets_in e (around ++ x ∷ []) (x ∷ scope) (inside_more around scope x inside) has
    lets_in (fix at x e) around scope inside has = lets_in e (around ++ x ∷ []) (x ∷ scope) (inside_more around scope x inside) has
    lets_in (project at e label) around scope inside has = lets_in e around scope inside has
    lets_in (apply at e f) around scope inside has = (lets_in e around scope inside has.0, lets_in f around scope inside has.1)
    lets_in (make at fields) around scope inside has = field_lets_in fields around scope inside has
    lets_in (choice at c e f) around scope inside has = (lets_in c around scope inside has.0, lets_in e around scope inside has.1, lets_in f around scope inside has.2)
    lets_in (local at k e f) around scope inside has = ((λ x there. inside x (subst (λ (ys : List ℕ). Contains ys x) has.0 there)), lets_in e around scope inside has.1, lets_in f around scope inside has.2)

    field_lets_in : (fields : TermFields) (around scope : List ℕ) → IsInside around scope → HaveScopes let_scope around fields → AreFieldLetsIn let_scope scope fields
    field_lets_in no_field around scope inside has = tt
    field_lets_in (a_field label e rest) around scope inside has = (lets_in e around scope inside has.0, field_lets_in rest around scope inside has.1)

-- the second map knows all that the first one does
abbrev pub IsKept : BTreeMap ℕ Scheme → BTreeMap ℕ Scheme → Type 0
IsKept old new = (k : ℕ) (s : Scheme) → known_in old k ≡ Some s → known_in new k ≡ Some s

module _ (nodes : List TermNode) (globals old new : BTreeMap ℕ Scheme) (kept : IsKept old new) where
  -- what a node asks stays so
  node_kept : (p : Posing) (i : ℕ) (f : TermForm) → IsNodePosed p.automaton (IsGoal p.goals) (root_in p) (binder_in p) (IsUseMet (known_in globals) (known_in old) p.automaton (root_in p) (binder_in p) p.copies) i f
      → IsNodePosed p.automaton (IsGoal p.goals) (root_in p) (binder_in p) (IsUseMet (known_in globals) (known_in new) p.automaton (root_in p) (binder_in p) p.copies) i f
  node_kept p i (form.Bound x) it = it
  node_kept p i (form.Inner k) it = (it.0, kept k it.0 it.1, it.2, it.3)
  node_kept p i (form.Global g) it = it
  node_kept p i (form.Number value) it = it
  node_kept p i (form.Truth value) it = it
  node_kept p i (form.Fun x j) it = it
  node_kept p i (form.Apply j k) it = it
  node_kept p i (form.Make parts) it = it
  node_kept p i (form.Project j label) it = it
  node_kept p i (form.If j k l) it = it
  node_kept p i (form.Let k j l) it = (it.0, (it.1.0, kept k it.1.0 it.1.1, it.1.2))
  node_kept p i (form.Rec x j) it = it

  pub posed_kept : (binders part : List ℕ) (p : Posing) → IsPartPosed nodes globals old binders part p → IsPartPosed nodes globals new binders part p
  posed_kept binders part p it = record {
    closed = it.closed;
    goals = it.goals;
    roots = it.roots;
    around = it.around;
    rooted = it.rooted;
    bound = it.bound;
    posed = λ i f there e. node_kept p i f (it.posed i f there e);
    posed_at = it.posed_at;
    models = λ known over type binder types binder_types typed. it.models known (record { globals = over.globals; lets = λ k s b is at. over.lets k s b (kept k s is) at }) type binder types binder_types typed;
  }

  own_kept : (k : ℕ) (o : Option Scheme) → known_in old k ≡ o → HasOwnType o → known_in new k ≡ o
  own_kept k None e own = absurd own
  own_kept k (Some s) e own = kept k s e

  same_known : (k : ℕ) → HasOwnType (known_in old k) → known_in new k ≡ known_in old k
  same_known k own = own_kept k (known_in old k) refl own

  pub know_kept : (f : TermForm) → KnowsType globals old f → KnowsType globals new f
  know_kept (form.Bound x) it = it
  know_kept (form.Inner k) it = subst HasOwnType (sym (same_known k it)) it
  know_kept (form.Global g) it = it
  know_kept (form.Number value) it = it
  know_kept (form.Truth value) it = it
  know_kept (form.Fun x j) it = it
  know_kept (form.Apply j k) it = it
  know_kept (form.Make parts) it = it
  know_kept (form.Project j label) it = it
  know_kept (form.If j k l) it = it
  know_kept (form.Let k j l) it = subst HasOwnType (sym (same_known k it)) it
  know_kept (form.Rec x j) it = it

  -- the same binders are named
  names_same : (f : TermForm) → KnowsType globals old f → (x : ℕ) → NamesBinder old f x ↔ NamesBinder new f x
  names_same (form.Bound y) it x = ((λ names. names), (λ names. names))
  names_same (form.Inner k) it x = ((λ names. subst (λ o. NeedsBinder o x) (sym (same_known k it)) names), (λ names. subst (λ o. NeedsBinder o x) (same_known k it) names))
  names_same (form.Global g) it x = ((λ names. names), (λ names. names))
  names_same (form.Number value) it x = ((λ names. names), (λ names. names))
  names_same (form.Truth value) it x = ((λ names. names), (λ names. names))
  names_same (form.Fun y j) it x = ((λ names. names), (λ names. names))
  names_same (form.Apply j k) it x = ((λ names. names), (λ names. names))
  names_same (form.Make parts) it x = ((λ names. names), (λ names. names))
  names_same (form.Project j label) it x = ((λ names. names), (λ names. names))
  names_same (form.If j k l) it x = ((λ names. names), (λ names. names))
  names_same (form.Let k j l) it x = ((λ names. subst (λ o. NeedsBinder o x) (sym (same_known k it)) names), (λ names. subst (λ o. NeedsBinder o x) (same_known k it) names))
  names_same (form.Rec y j) it x = ((λ names. names), (λ names. names))

  module _ (part : List ℕ) (know : KnowTypes globals old nodes part) where
    named_to : (x : ℕ) → binders_of_parts.IsNamed nodes old part x → binders_of_parts.IsNamed nodes new part x
    named_to x (i, f, there, e, names) = (i, f, there, e, (names_same f (know i f there e) x).0 names)

    named_from : (x : ℕ) → binders_of_parts.IsNamed nodes new part x → binders_of_parts.IsNamed nodes old part x
    named_from x (i, f, there, e, names) = (i, f, there, e, (names_same f (know i f there e) x).1 names)

    abbrev Bound : ℕ → Type 0
    Bound = binders_of_parts.IsBound nodes old part

    pub binders_kept : (binders : PartBinders) → ArePartBinders nodes old part binders → ArePartBinders nodes new part binders
    binders_kept binders it = record {
      all_rise = it.all_rise;
      all = λ x. (
        (λ there. elim ((it.all x).0 there) [ inl named ↦ inl (named_to x named) | inr within ↦ inr within ]),
        (λ is. (it.all x).1 (elim is [ inl named ↦ inl (named_from x named) | inr within ↦ inr within ])),
      );
      around_rise = it.around_rise;
      around = λ x. ((λ there. let is = (it.around x).0 there in (named_to x is.0, is.1)), (λ is. (it.around x).1 (named_from x is.0, is.1)));
    }

  unfoldable pub made_kept : (r : ℕ) (own : Scheme) → IsFirstMade nodes globals old r own → IsFirstMade nodes globals new r own
  made_kept r own it = record {
    part = it.part;
    is_part = it.is_part;
    know = λ i f there e. know_kept f (it.know i f there e);
    binders = it.binders;
    are_binders = binders_kept it.part.nodes it.know it.binders it.are_binders;
    posing = it.posing;
    posed = posed_kept it.binders.all it.part.nodes it.posing it.posed;
    solved = it.solved;
    is_solved = it.is_solved;
    closed = it.closed;
    is = it.is;
    rise = it.rise;
    single = it.single;
    all = it.all;
    same = it.same;
    subsumes = it.subsumes;
    subsumed = it.subsumed;
  }

-- The types of first parts, one root after another.
module _ (nodes : List TermNode) (globals : BTreeMap ℕ Scheme) (let_scope : ℕ → List ℕ) (count binders lets : ℕ) (term : IsTerm count nodes binders lets) (rising : HasRisingTree nodes) (scopes : HasScopes let_scope [] term.tree) where
  tree : AreTreeNodes nodes
  tree = tree_nodes nodes term.tree term.nodes_are

  -- the binders around the first part of a let that it names are around the let
  part_in_scope : (types : BTreeMap ℕ Scheme) → ((k x : ℕ) → NeedsBinder (known_in types k) x → Contains (let_scope k) x) → (i k r l : ℕ) → form_at nodes i ≡ Some (form.Let k r l) → (own : Scheme) (it : IsFirstMade nodes globals types r own)
      → (x : ℕ) → Contains it.binders.around x → Contains (let_scope k) x
  part_in_scope types needs i k r l e own it x there =
      let at : IsFirstAround nodes let_scope count k r = first_around nodes let_scope count binders lets term rising scopes i k r l e in
      let is_part : IsTermPart nodes (at.first + before at.tree) it.part = subst (λ m. IsTermPart nodes m it.part) at.root it.is_part in
      let inside : Contains at.around.scope x = part_around nodes types let_scope count needs it.part it.binders it.are_binders at.first at.tree at.numbers is_part at.around x there in
      subst (λ (ys : List ℕ). Contains ys x) (sym at.scope) inside

  -- so the type needs no others
  pub first_needs : (types : BTreeMap ℕ Scheme) → ((k x : ℕ) → NeedsBinder (known_in types k) x → Contains (let_scope k) x) → (i k r l : ℕ) → form_at nodes i ≡ Some (form.Let k r l) → (own : Scheme) → IsFirstMade nodes globals types r own
      → (x : ℕ) → NeedsBinder (Some own) x → Contains (let_scope k) x
  first_needs types needs i k r l e own it x (entry, there, is) =
      let found : state_of own.env entry.binder ≡ Some entry.state.0 = entry-found own.env it.rise entry there in
      around (state_of (entries_of (around_states it.posing it.binders.around)) x) refl (it.same x (subst (λ y. IsSome (state_of own.env y)) is (ap is_some found)))
    where
      around : (o : Option ℕ) → state_of (entries_of (around_states it.posing it.binders.around)) x ≡ o → IsSome o → Contains (let_scope k) x
      around None at some = absurd (cc)
      around (Some s) at some = part_in_scope types needs i k r l e own it x (state_back it.posing it.binders.around x s at).0

  pub firsts_start : (types : BTreeMap ℕ Scheme) → ((k : ℕ) → known_in types k ≡ None) → AreFirstsMade nodes globals types let_scope 0
  firsts_start types none = record {
    made = λ i k j l e low. absurd (omega (arith, low));
    only = λ k some. let absent : known_in types k ≡ None = none k in absurd (cc);
    needs = λ k x need. absurd (subst (λ o. NeedsBinder o x) (none k) need);
  }

  -- a root that is that of no first part
  pub firsts_same : (types : BTreeMap ℕ Scheme) (r : ℕ) → ((i k l : ℕ) → form_at nodes i ≡ Some (form.Let k r l) → ⊥) → AreFirstsMade nodes globals types let_scope r → AreFirstsMade nodes globals types let_scope (r + 1)
  firsts_same types r none it = record {
    made = λ i k j l e low. go i k j l e (below_or_more j r) low;
    only = λ k some. let at = it.only k some in let low : at.1 < r = at.4 in (at.0, at.1, at.2, at.3, omega (arith, low));
    needs = it.needs;
  }
    where
      go : (i k j l : ℕ) → form_at nodes i ≡ Some (form.Let k j l) → (j < r) ⊎ ((d : ℕ) × (j ≡ r + d)) → j < r + 1 → (own : Scheme) × (known_in types k ≡ Some own) × IsFirstMade nodes globals types j own
      go i k j l e (inl less) low = it.made i k j l e less
      go i k j l e (inr (d, at)) low = let same : j ≡ r = omega (arith, at, low) in absurd (none i k l (subst (λ m. form_at nodes i ≡ Some (form.Let k m l)) same e))

  -- a let whose first part has this root has no type before
  pub type_new : HaveOwnLets nodes → (old : BTreeMap ℕ Scheme) (r i k l : ℕ) → form_at nodes i ≡ Some (form.Let k r l) → AreFirstsMade nodes globals old let_scope r → IsSome (known_in old k) → ⊥
  type_new own_lets old r i k l e it some =
      let at = it.only k some in
      let same : i ≡ at.0 = own_lets i at.0 k r l at.1 at.2 e at.3 in
      let one : form.Let k r l ≡ form.Let k at.1 at.2 = one_form nodes i (form.Let k r l) (form.Let k at.1 at.2) e (subst (λ m. form_at nodes m ≡ Some (form.Let k at.1 at.2)) (sym same) at.3) in
      let root : r ≡ at.1 = cc in
      let low : at.1 < r = at.4 in
      omega arith

  -- the type of the first part with this root
  module _ (own_lets : HaveOwnLets nodes) (old new : BTreeMap ℕ Scheme) (r i k l : ℕ) (e : form_at nodes i ≡ Some (form.Let k r l)) (own : Scheme) (updates : Updates nat_cmp old new k (Some own)) (it : AreFirstsMade nodes globals old let_scope r)
      (mine : IsFirstMade nodes globals old r own) where
    new_let : IsSome (known_in old k) → ⊥
    new_let some = type_new own_lets old r i k l e it some

    kept : IsKept old new
    kept q s known = elim (updated_at old new k own updates q) [
      | inl at ↦ absurd (new_let (subst (λ m. IsSome (known_in old m)) (sym at.0) (ap is_some known)))
      | inr other ↦ other.1 ∙ known
    ]

    Made : (j q : ℕ) → Type 0
    Made j q = (s : Scheme) × (known_in new q ≡ Some s) × IsFirstMade nodes globals new j s

    made_at : (h q j m : ℕ) → form_at nodes h ≡ Some (form.Let q j m) → (j < r) ⊎ ((d : ℕ) × (j ≡ r + d)) → j < r + 1 → Made j q
    unfolding Made
    made_at h q j m at (inl less) low = let known = it.made h q j m at less in (known.0, kept q known.0 known.1, made_kept nodes globals old new kept j known.0 known.2)
    made_at h q j m at (inr (d, past)) low =
        let root : j ≡ r = omega (arith, past, low) in
        let here : form_at nodes h ≡ Some (form.Let q r m) = subst (λ z. form_at nodes h ≡ Some (form.Let q z m)) root at in
        let one : i ≡ h = tree.one i h r (form.Let k r l) (form.Let q r m) e here (Contains-here r (l ∷ [])) (Contains-here r (m ∷ [])) in
        let form : form.Let k r l ≡ form.Let q r m = one_form nodes h (form.Let k r l) (form.Let q r m) (subst (λ z. form_at nodes z ≡ Some (form.Let k r l)) one e) here in
        let number : k ≡ q = cc in
        let known : known_in new k ≡ Some own = updated_own old new k own updates in
        (own, subst (λ z. known_in new z ≡ Some own) number known, subst (λ z. IsFirstMade nodes globals new z own) (sym root) (made_kept nodes globals old new kept r own mine))

    pub firsts_more : AreFirstsMade nodes globals new let_scope (r + 1)
    unfolding Made
    firsts_more = record {
      made = λ h q j m at low. made_at h q j m at (below_or_more j r) low;
      only = λ q some. elim (updated_at old new k own updates q) [
        | inl own_at ↦ (i, r, l, subst (λ z. form_at nodes i ≡ Some (form.Let z r l)) own_at.0 e, omega arith)
        | inr other ↦ (let at = it.only q (subst (λ o. IsSome o) other.1 some) in let low : at.1 < r = at.4 in (at.0, at.1, at.2, at.3, omega (arith, low)))
      ];
      needs = λ q x need. elim (updated_at old new k own updates q) [
        | inl own_at ↦ subst (λ z. Contains (let_scope z) x) own_at.0 (first_needs old it.needs i k r l e own mine x (subst (λ o. NeedsBinder o x) own_at.1 need))
        | inr other ↦ it.needs q x (subst (λ o. NeedsBinder o x) other.1 need)
      ];
    }

  -- what became known one root after another
  pub firsts_added : HaveOwnLets nodes → {r : ℕ} {known : KnownTypes} → known.globals ≡ globals → AreAdded nodes r known → AreFirstsMade nodes globals known.lets let_scope r
  firsts_added own_lets is (added.start {known = first} empty) = firsts_start first.lets (λ k. ap (lookup (is_at (nat_cmp k))) empty)
  firsts_added own_lets is (added.same {r = n} {known = first} before none) = firsts_same first.lets n none (firsts_added own_lets is before)
  firsts_added own_lets is (added.more {r = n} {old = old} {new = new} before adds) =
      let globals_are : old.globals ≡ globals = sym adds.globals ∙ is in
      firsts_more own_lets old.lets new.lets n adds.node adds.number adds.second adds.is adds.scheme adds.updates (firsts_added own_lets globals_are before)
      (subst (λ (names : BTreeMap ℕ Scheme). IsFirstMade nodes names old.lets n adds.scheme) globals_are adds.made)

  -- all lets have types of their first parts
  pub have_first_types : (types : BTreeMap ℕ Scheme) → AreFirstsMade nodes globals types let_scope (length nodes) → (known : Known) → HaveBooks known types → HaveFirstTypes nodes known globals types let_scope
  have_first_types types firsts known books scope n at k e f placed named =
      let i : ℕ = n + before (local at k e f) in
      let r : ℕ = n + before e in
      let is : form_at nodes i ≡ Some (form.Let k r (behind n e + before f)) = placed.numbers.0 in
      let less : r < i = tree.below i r (form.Let k r (behind n e + before f)) is (Contains-here r ((behind n e + before f) ∷ [])) in
      let low : i < length nodes = form_low nodes i (form.Let k r (behind n e + before f)) is in
      let own = firsts.made i k r (behind n e + before f) is (omega (arith, less, low)) in
      let it : IsFirstMade nodes globals types r own.0 = own.2 in
      let type = books k own.0 own.1 in
      let around : AreAround it.posing it.binders.all scope (entries_of (around_states it.posing it.binders.around)) = record {
        there = λ x s found. (it.are_binders.all x).1 (inl ((it.are_binders.around x).0 (state_back it.posing it.binders.around x s found).0).0);
        around = λ x s found. named x (part_in_scope types firsts.needs i k r (behind n e + before f) is own.0 it x (state_back it.posing it.binders.around x s found).0);
        own = λ x s found. (state_back it.posing it.binders.around x s found).1;
      } in (
        type.0,
        type.1,
        made_first_type nodes globals types scope n e it.binders.all it.part.nodes it.posing it.posed (it.is_part.all r (at_top refl)) (λ j there. (it.is_part.only j there).1) (around_states it.posing it.binders.around) around
            it.solved it.is_solved it.closed own.0 it.is it.same it.subsumes type.0 type.2,
      )
