-- The parts of a term may be posed.
--     part_list           the nodes of a part, one after another
--     posable             where the types of its names are known, its nodes may be posed over its binders
--     own_type            the type of a first part is such
--     own_labels          no record of a term has a label twice
--     behind_firsts       the first part of a let stands before all uses of its name
--     first_before_use, first_before_let
--                         so it comes before each part with such a use, or with the let itself
use Rattle.std.proofs.Common.{◌≡◌, ◌≢◌, ◌⊎◌, inl, inr, ℕ, zero, suc, ◌+◌, ◌<◌, ◌≤◌, List, [], ◌∷◌, map, length, take, get_or, min, refl, sym, ap, ◌∙◌, subst, arith, Contains, Option, Some, None}
use Rattle.std.specs.BTreeMap.{BTreeMap}
use Rattle.std.specs.List.{AllPairs}
use Rattle.std.proofs.lemmas.List.{get_or-take, length-take, get_or_default}
use Rattle.std.proofs.lemmas.List.Elements.{Contains-get_or}
use Rattle.mls_book.proofs.LongerBooks.{below_or_more}
use Rattle.mls_automaton.specs.declared.scheme.EnvEntry.{EnvEntry}
use Rattle.mls_automaton.specs.declared.scheme.Scheme.{Scheme}
use Rattle.mls_automaton.specs.Sets.{Rises}
use Rattle.mls_automaton.specs.Environments.{BindersRise}
use Rattle.mls_automaton.specs.Schemes.{IsScheme}
use Rattle.mls_automaton.proofs.Lists.{Contains-map}
use Rattle.mls_automaton.proofs.Reaching.{entry-found}
use Rattle.mls_term.specs.declared.term.Part.{Part}
use Rattle.mls_term.specs.declared.term.TermForm.{TermForm}
use Rattle.mls_term.specs.declared.term.TermForm.TheVariants as form
use Rattle.mls_term.specs.declared.term.TermNode.{TermNode}
use Rattle.mls_term.specs.Terms.{TermTree, TermFields, bound, inner, global, number, truth, fun, apply, make, project, choice, local, fix, no_field, a_field, before, field_nodes, field_roots}
use Rattle.mls_term.specs.Derivations.{labels_of}
use Rattle.mls_term.specs.WellFormed.{field_parts, AreScoped, IsScoped, IsTerm}
use Rattle.mls_typing.proofs.Lists.{Contains-here, Contains-cases, nothing_in}
use Rattle.mls_typing.proofs.PartNodes.{length-postorder}
use Rattle.mls_deriv.specs.Steps.{form_at}
use Rattle.mls_parts.specs.declared.binders.PartBinders.{PartBinders}
use Rattle.mls_parts.specs.declared.split.TermPart.{TermPart}
use Rattle.mls_parts.specs.MetCopies.{AreSeparate}
use Rattle.mls_parts.specs.NodeTypes.{IsNodeOf, IsOwnPart, in_part}
use Rattle.mls_parts.specs.NumberedNodes.{behind, IsNumbered}
use Rattle.mls_parts.specs.PartBinders.{ArePartBinders, NamesBinder, NeedsBinder, BindsBinder}
use Rattle.mls_parts.specs.PartUses.{AreBehindFirsts, HasOwnType, HaveOwnLabels, IsBehindFirst, KnowTypes, KnowsType, binders_in}
use Rattle.mls_layout.specs.PosedNodes.{HasPartsIn}
use Rattle.mls_parts.specs.PosedParts.{ArePosable, HasKnownType, IsKnownType, IsPartList, IsPosable}
use Rattle.mls_parts.specs.Posings.{known_in}
use Rattle.mls_parts.specs.TermParts.{IsPartRoot, IsTermPart}
use Rattle.mls_parts.specs.TreeNodes.{AreTreeNodes}
use Rattle.mls_parts.proofs.NumberedNodes.{numbered_whole}
use Rattle.mls_parts.proofs.Owners.{own_child, node_low}
use Rattle.mls_parts.proofs.TreeNodes.{kids, one_form, form_low, node_with, HasNodeWith}

-- what each own part of a node is
pub own_parts_in : (P : ℕ → Type 0) (f : TermForm) → ((j : ℕ) → IsOwnPart f j → P j) → HasPartsIn P f
own_parts_in P (form.Bound x) each = tt
own_parts_in P (form.Inner k) each = tt
own_parts_in P (form.Global g) each = tt
own_parts_in P (form.Number value) each = tt
own_parts_in P (form.Truth value) each = tt
own_parts_in P (form.Fun x j) each = each j refl
own_parts_in P (form.Apply j k) each = (each j (inl refl), each k (inr refl))
own_parts_in P (form.Make parts) each = λ part there. each part.child (part, there, refl)
own_parts_in P (form.Project j label) each = each j refl
own_parts_in P (form.If j k l) each = (each j (inl refl), each k (inr (inl refl)), each l (inr (inr refl)))
own_parts_in P (form.Let k j l) each = each l refl
own_parts_in P (form.Rec x j) each = each j refl

-- a lower member of a list that rises stands before a higher one
stands_before : (xs : List ℕ) → Rises xs → (j k : ℕ) → k < length xs → Contains xs j → j < get_or xs k 0 → Contains (take k xs) j
stands_before xs rises j k low there less =
    let m : ℕ = there.0 in
    let inside : m < length xs = there.1 in
    let at : get_or xs m 0 ≡ j = get_or_default xs m 0 j inside ∙ there.2 in
    go m inside at (below_or_more m k)
  where
    go : (m : ℕ) → m < length xs → get_or xs m 0 ≡ j → (m < k) ⊎ ((d : ℕ) × (m ≡ k + d)) → Contains (take k xs) j
    go m inside at (inl before) =
        let long : length (take k xs) ≡ min k (length xs) = length-take k xs in
        (m, omega (arith, long, before, low), get_or-take k xs m j before ∙ (get_or_default xs m j 0 inside ∙ at))
    go m inside at (inr (d, is)) = absurd (above d is)
      where
        above : (d : ℕ) → m ≡ k + d → ⊥
        above zero is = let same : m ≡ k = omega (arith, is) in let value : get_or xs k 0 ≡ j = subst (λ x. get_or xs x 0 ≡ j) same at in omega (arith, less, value)
        above (suc d) is = let more : get_or xs k 0 < get_or xs m 0 = rises k m (omega (arith, is)) inside in omega (arith, less, more, at)

-- a scheme whose binders have states of their own may be copied wherever its binders are
pub own_type : (s : Scheme) → IsScheme s → BindersRise s.env → AreSeparate s → HasOwnType (Some s)
own_type s is rise separate = record {
  closed = is.automaton;
  root = is.root;
  states = λ entry there. is.env entry.binder entry.state.0 (entry-found s.env rise entry there);
  around = λ entry there. Contains-map (λ (e : EnvEntry). e.binder) s.env entry there;
  found = λ entry there. entry-found s.env rise entry there;
  separate = separate;
}

module _ (nodes : List TermNode) where
  pub part_list : AreTreeNodes nodes → (r : ℕ) (part : TermPart) → IsTermPart nodes r part → IsPartList nodes part.nodes
  part_list tree r part it = record {
    in_range = λ k d low. (it.only (get_or part.nodes k d) (Contains-get_or part.nodes k d low)).0;
    once = λ i j d before low same.
        let less : get_or part.nodes i 0 < get_or part.nodes j 0 = it.rises i j before low in
        let one : get_or part.nodes i d ≡ get_or part.nodes i 0 = get_or_default part.nodes i d 0 (omega (arith, before, low)) in
        let two : get_or part.nodes j d ≡ get_or part.nodes j 0 = get_or_default part.nodes j d 0 low in
        omega (arith, less, one, two, same);
    behind = λ k f low e.
        let i : ℕ = get_or part.nodes k 0 in
        let node : IsNodeOf nodes r i = (it.only i (Contains-get_or part.nodes k 0 low)).1 in
        own_parts_in (Contains (take k part.nodes)) f
        (λ j own. stands_before part.nodes it.rises j k low (it.all j (in_part i f node e own)) (tree.below i j f e (own_child f j own)));
  }

  known_more : (binders : List ℕ) (s : Scheme) → ((entry : EnvEntry) → Contains s.env entry → Contains binders entry.binder) → (own : List ℕ) → IsKnownType own s → IsKnownType binders s
  known_more binders s around own it = record { closed = it.closed; root = it.root; states = it.states; around = around; found = it.found; separate = it.separate }

  global_more : (binders : List ℕ) (o : Option Scheme) → HasKnownType [] o → HasKnownType binders o
  global_more binders None has = has
  global_more binders (Some s) has = known_more binders s (λ entry there. absurd (nothing_in entry.binder (has.around entry there))) [] has

  own_more : (binders : List ℕ) (o : Option Scheme) → ((s : Scheme) → o ≡ Some s → (entry : EnvEntry) → Contains s.env entry → Contains binders entry.binder) → HasOwnType o → HasKnownType binders o
  own_more binders None around has = has
  own_more binders (Some s) around has = known_more binders s (around s refl) (binders_in s.env) has

  pub posable : (globals lets : BTreeMap ℕ Scheme) (part : List ℕ) (binders : PartBinders) → ArePartBinders nodes lets part binders → KnowTypes globals lets nodes part → HaveOwnLabels nodes
      → ArePosable binders.all nodes part globals lets
  posable globals lets part binders are known labels i f there e = by_form f e (known i f there e)
    where
      named : (f : TermForm) → form_at nodes i ≡ Some f → (x : ℕ) → NamesBinder lets f x → Contains binders.all x
      named f e x is = (are.all x).1 (inl (i, f, there, e, is))

      needed : (o : Option Scheme) (s : Scheme) → o ≡ Some s → (entry : EnvEntry) → Contains s.env entry → NeedsBinder o entry.binder
      needed o s is entry at = subst (λ (q : Option Scheme). NeedsBinder q entry.binder) (sym is) (entry, at, refl)

      binds : (f : TermForm) → form_at nodes i ≡ Some f → (x : ℕ) → BindsBinder f x → Contains binders.all x
      binds f e x is = (are.all x).1 (inr (i, f, there, e, is))

      by_form : (f : TermForm) → form_at nodes i ≡ Some f → KnowsType globals lets f → IsPosable binders.all globals lets f
      by_form (form.Bound x) e has = named (form.Bound x) e x refl
      by_form (form.Inner k) e has = own_more binders.all (known_in lets k) (λ s is entry at. named (form.Inner k) e entry.binder (needed (known_in lets k) s is entry at)) has
      by_form (form.Global g) e has = global_more binders.all (known_in globals g) has
      by_form (form.Number value) e has = tt
      by_form (form.Truth value) e has = tt
      by_form (form.Fun x j) e has = binds (form.Fun x j) e x refl
      by_form (form.Apply j k) e has = tt
      by_form (form.Make parts) e has = labels i parts e
      by_form (form.Project j label) e has = tt
      by_form (form.If j k l) e has = tt
      by_form (form.Let k j l) e has = own_more binders.all (known_in lets k) (λ s is entry at. named (form.Let k j l) e entry.binder (needed (known_in lets k) s is entry at)) has
      by_form (form.Rec x j) e has = binds (form.Rec x j) e x refl

-- the children of a tree whose names are in scope: the binders, and the lets around it
module _ (nodes : List TermNode) (globals : ℕ) where
  -- each let around a tree has its first part before the tree, which lies in its second part
  pub record IsIn (n : ℕ) (t : TermTree) : Type 0 where
    pub binders : List ℕ
    pub lets : List ℕ
    pub scoped : IsScoped binders lets globals t
    pub around : (k : ℕ) → Contains lets k → (i j l : ℕ) × (form_at nodes i ≡ Some (form.Let k j l)) × (j < n) × (n + before t ≤ l)

  abbrev AllIn : List (ℕ × TermTree) → Type 0
  AllIn ks = (kid : ℕ × TermTree) → Contains ks kid → IsIn kid.0 kid.1

  abbrev Around : List ℕ → (low high : ℕ) → Type 0
  Around lets low high = (k : ℕ) → Contains lets k → (i j l : ℕ) × (form_at nodes i ≡ Some (form.Let k j l)) × (j < low) × (high ≤ l)

  narrow : (lets : List ℕ) (low high low' high' : ℕ) → low ≤ low' → high' ≤ high → Around lets low high → Around lets low' high'
  narrow lets low high low' high' up down around k there =
      let it = around k there in
      let before : it.1 < low = it.4 in
      let within : high ≤ it.2 = it.5 in
      (it.0, it.1, it.2, it.3, omega arith, omega arith)

  none_in : AllIn []
  none_in kid there = absurd (nothing_in kid there)

  more_in : (n : ℕ) (t : TermTree) (rest : List (ℕ × TermTree)) → IsIn n t → AllIn rest → AllIn ((n, t) ∷ rest)
  more_in n t rest it all kid there = elim (Contains-cases (n, t) rest kid there) [
    | inl same ↦ (let P : ℕ × TermTree → Type 0 = λ k. IsIn k.0 k.1 in subst P same it)
    | inr later ↦ all kid later
  ]

  -- a child with the same names around
  kid_in : (binders lets : List ℕ) (n m : ℕ) (t u : TermTree) → Around lets n (n + before t) → n ≤ m → m + before u ≤ n + before t → IsScoped binders lets globals u → IsIn m u
  kid_in binders lets n m t u around low high scoped = record { binders = binders; lets = lets; scoped = scoped; around = narrow lets n (n + before t) m (m + before u) low high around }

  fields_in : (binders lets : List ℕ) (fields : TermFields) (n low high : ℕ) → Around lets low high → low ≤ n → n + field_nodes fields ≤ high → AreScoped binders lets globals fields → AllIn (field_parts n fields)
  unfolding before
  fields_in binders lets no_field n low high around up down scoped = none_in
  fields_in binders lets (a_field label e rest) n low high around up down scoped =
      more_in n e (field_parts (n + suc (before e)) rest)
      (record { binders = binders; lets = lets; scoped = scoped.0; around = narrow lets low high n (n + before e) up (omega (arith, down)) around })
      (fields_in binders lets rest (n + suc (before e)) low high around (omega (arith, up)) (omega (arith, down)) scoped.1)

  kids_in : (t : TermTree) (n : ℕ) → IsNumbered nodes n t → IsIn n t → AllIn (kids n t)
  unfolding before
  kids_in (bound at x) n numbers it = none_in
  kids_in (inner at k) n numbers it = none_in
  kids_in (global at g) n numbers it = none_in
  kids_in (number at value) n numbers it = none_in
  kids_in (truth at value) n numbers it = none_in
  kids_in (fun at x e) n numbers it = more_in n e [] (kid_in (x ∷ it.binders) it.lets n n (fun at x e) e it.around (omega arith) (omega arith) it.scoped) none_in
  kids_in (fix at x e) n numbers it = more_in n e [] (kid_in (x ∷ it.binders) it.lets n n (fix at x e) e it.around (omega arith) (omega arith) it.scoped) none_in
  kids_in (project at e label) n numbers it = more_in n e [] (kid_in it.binders it.lets n n (project at e label) e it.around (omega arith) (omega arith) it.scoped) none_in
  kids_in (apply at e f) n numbers it =
      more_in n e ((behind n e, f) ∷ []) (kid_in it.binders it.lets n n (apply at e f) e it.around (omega arith) (omega arith) it.scoped.0)
      (more_in (behind n e) f [] (kid_in it.binders it.lets n (behind n e) (apply at e f) f it.around (omega arith) (omega arith) it.scoped.1) none_in)
  kids_in (choice at c e f) n numbers it =
      more_in n c ((behind n c, e) ∷ (behind (behind n c) e, f) ∷ []) (kid_in it.binders it.lets n n (choice at c e f) c it.around (omega arith) (omega arith) it.scoped.0)
      (more_in (behind n c) e ((behind (behind n c) e, f) ∷ []) (kid_in it.binders it.lets n (behind n c) (choice at c e f) e it.around (omega arith) (omega arith) it.scoped.1)
      (more_in (behind (behind n c) e) f [] (kid_in it.binders it.lets n (behind (behind n c) e) (choice at c e f) f it.around (omega arith) (omega arith) it.scoped.2) none_in))
  kids_in (make at fields) n numbers it = fields_in it.binders it.lets fields n n (n + field_nodes fields) it.around (omega arith) (omega arith) it.scoped.1
  kids_in (local at k e f) n numbers it =
      more_in n e ((behind n e, f) ∷ []) (kid_in it.binders it.lets n n (local at k e f) e it.around (omega arith) (omega arith) it.scoped.0)
      (more_in (behind n e) f [] (record { binders = it.binders; lets = k ∷ it.lets; scoped = it.scoped.1; around = λ q there. by_case q (Contains-cases k it.lets q there) }) none_in)
    where
      by_case : (q : ℕ) → (k ≡ q) ⊎ Contains it.lets q → (i j l : ℕ) × (form_at nodes i ≡ Some (form.Let q j l)) × (j < behind n e) × (behind n e + before f ≤ l)
      by_case q (inl same) = (n + (suc (before e) + suc (before f)), n + before e, behind n e + before f, subst (λ q. form_at nodes (n + (suc (before e) + suc (before f))) ≡ Some (form.Let q (n + before e) (behind n e + before f))) same numbers.0, omega arith, omega arith)
      by_case q (inr later) = narrow it.lets n (n + (suc (before e) + suc (before f))) (behind n e) (behind n e + before f) (omega arith) (omega arith) it.around q later

  -- what the scoping of a tree says of the form of its root
  abbrev RootIn : List ℕ → TermForm → Type 0
  RootIn lets (form.Inner k) = Contains lets k
  RootIn lets (form.Make parts) = AllPairs (λ x y. x ≢ y) (map (λ (part : Part). part.label) parts)
  RootIn lets _ = Unit {0}

  labels_are : (fields : TermFields) (n : ℕ) → map (λ (part : Part). part.label) (field_roots n fields) ≡ labels_of fields
  unfolding field_roots
  labels_are no_field n = refl
  labels_are (a_field label e rest) n = ap (λ ls. label ∷ ls) (labels_are rest (n + suc (before e)))

  root_in_scope : (t : TermTree) (n : ℕ) → IsNumbered nodes n t → (it : IsIn n t) → (f : TermForm) → form_at nodes (n + before t) ≡ Some f → RootIn it.lets f
  root_in_scope (bound at x) n numbers it f e = subst (RootIn it.lets) (one_form nodes (n + before (bound at x)) (form.Bound x) f numbers e) tt
  root_in_scope (inner at k) n numbers it f e = subst (RootIn it.lets) (one_form nodes (n + before (inner at k)) (form.Inner k) f numbers e) it.scoped
  root_in_scope (global at g) n numbers it f e = subst (RootIn it.lets) (one_form nodes (n + before (global at g)) (form.Global g) f numbers e) tt
  root_in_scope (number at value) n numbers it f e = subst (RootIn it.lets) (one_form nodes (n + before (number at value)) (form.Number value) f numbers e) tt
  root_in_scope (truth at value) n numbers it f e = subst (RootIn it.lets) (one_form nodes (n + before (truth at value)) (form.Truth value) f numbers e) tt
  root_in_scope (fun at x b) n numbers it f e = subst (RootIn it.lets) (one_form nodes (n + before (fun at x b)) _ f numbers.0 e) tt
  root_in_scope (fix at x b) n numbers it f e = subst (RootIn it.lets) (one_form nodes (n + before (fix at x b)) _ f numbers.0 e) tt
  root_in_scope (project at b label) n numbers it f e = subst (RootIn it.lets) (one_form nodes (n + before (project at b label)) _ f numbers.0 e) tt
  root_in_scope (apply at b c) n numbers it f e = subst (RootIn it.lets) (one_form nodes (n + before (apply at b c)) _ f numbers.0 e) tt
  root_in_scope (choice at b c d) n numbers it f e = subst (RootIn it.lets) (one_form nodes (n + before (choice at b c d)) _ f numbers.0 e) tt
  root_in_scope (local at k b c) n numbers it f e = subst (RootIn it.lets) (one_form nodes (n + before (local at k b c)) _ f numbers.0 e) tt
  root_in_scope (make at fields) n numbers it f e =
      subst (RootIn it.lets) (one_form nodes (n + before (make at fields)) (form.Make (field_roots n fields)) f numbers.0 e)
      (subst (AllPairs (λ x y. x ≢ y)) (sym (labels_are fields n)) it.scoped.0)

-- the nodes of a whole term
module _ (globals : ℕ) (nodes : List TermNode) (binders lets : ℕ) (term : IsTerm globals nodes binders lets) where
  whole_in : IsIn nodes globals 0 term.tree
  whole_in = record { binders = []; lets = []; scoped = term.scoped; around = λ k there. absurd (nothing_in k there) }

  each_in : (i : ℕ) (f : TermForm) → form_at nodes i ≡ Some f → HasNodeWith nodes (IsIn nodes globals) (λ n t. kids_in nodes globals t n) 0 i
  each_in i f e =
      let many : length nodes ≡ suc (before term.tree) = ap length term.nodes_are ∙ length-postorder term.tree 0 in
      node_with nodes (IsIn nodes globals) (λ n t. kids_in nodes globals t n) term.tree 0 (numbered_whole nodes term.tree term.nodes_are) whole_in i (omega arith) (omega (arith, many, form_low nodes i f e))

  root_scoped : (i : ℕ) (f : TermForm) (e : form_at nodes i ≡ Some f) → RootIn nodes globals (each_in i f e).holds.lets f
  root_scoped i f e =
      let it = each_in i f e in
      root_in_scope nodes globals it.node.tree it.node.first it.node.numbers it.holds f (subst (λ k. form_at nodes k ≡ Some f) it.node.root e)

  pub own_labels : HaveOwnLabels nodes
  own_labels i parts e = root_scoped i (form.Make parts) e

  pub behind_firsts : AreBehindFirsts nodes
  behind_firsts u k e =
      let it = each_in u (form.Inner k) e in
      let at = it.holds.around k (root_scoped u (form.Inner k) e) in
      let root : u ≡ it.node.first + before it.node.tree = it.node.root in
      let less : at.1 < it.node.first = at.4 in
      let inside : it.node.first + before it.node.tree ≤ at.2 = at.5 in
      record { node = at.0; first = at.1; second = at.2; is = at.3; behind = omega arith; within = omega arith }

-- A part with a use of a let's name, or with the let, stands behind the let's first part.
module _ (nodes : List TermNode) (tree : AreTreeNodes nodes) where
  pub first_before_use : (r u k : ℕ) → IsPartRoot nodes r → IsNodeOf nodes r u → (it : IsBehindFirst nodes k u) → it.first < r
  first_before_use r u k root node it = let up : u ≤ r = node_low nodes tree r u root node in let less : it.first < u = it.behind in omega arith

  pub first_before_let : (r i k j l : ℕ) → IsPartRoot nodes r → IsNodeOf nodes r i → form_at nodes i ≡ Some (form.Let k j l) → j < r
  first_before_let r i k j l root node e =
      let up : i ≤ r = node_low nodes tree r i root node in
      let less : j < i = tree.below i j (form.Let k j l) e (Contains-here j (l ∷ [])) in
      omega arith
