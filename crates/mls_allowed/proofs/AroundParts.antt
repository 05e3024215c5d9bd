-- The binders around a part that it names, in place of all that are around it.
--     needed                  a binder that a known type needs
--     named_around            a binder that a part names is around it or bound in it
--     rises_around            so binders rise in it over those alone that it names
--     part_around             those of a part of a term
use Rattle.std.proofs.Common.{◌≡◌, ◌⊎◌, inl, inr, ℕ, ◌+◌, ◌<◌, arith, List, [], ◌∷◌, ◌++◌, refl, sym, ap, subst, Contains, All, Option, Some, None}
use Rattle.std.specs.BTreeMap.{BTreeMap}
use Rattle.std.proofs.lemmas.List.Elements.{All-contains, Contains-append_left, Contains-append_right, Contains-push, Contains-push_cases}
use Rattle.mls_automaton.specs.declared.scheme.EnvEntry.{EnvEntry}
use Rattle.mls_automaton.specs.declared.scheme.Scheme.{Scheme}
use Rattle.mls_automaton.proofs.Lists.{All-contained, Contains-map_back}
use Rattle.mls_term.specs.declared.term.Part.{Part}
use Rattle.mls_term.specs.declared.term.TermForm.{TermForm}
use Rattle.mls_term.specs.declared.term.TermForm.TheVariants as form
use Rattle.mls_term.specs.declared.term.TermNode.{TermNode}
use Rattle.mls_term.specs.Terms.{TermTree, TermFields, bound, inner, global, number, truth, fun, apply, make, project, choice, local, fix, no_field, a_field, before, field_roots}
use Rattle.mls_term.specs.WellFormed.{binders_of, field_binders_of}
use Rattle.mls_typing.proofs.Lists.{Contains-here, Contains-later, Contains-cases, nothing_in}
use Rattle.mls_deriv.specs.Steps.{form_at}
use Rattle.mls_layout.specs.PosedNodes.{IsRising, AreRising}
use Rattle.mls_parts.specs.declared.binders.PartBinders.{PartBinders}
use Rattle.mls_parts.specs.declared.split.TermPart.{TermPart}
use Rattle.mls_parts.specs.NodeTypes.{IsNodeOf, IsOwnPart, at_top, in_part}
use Rattle.mls_parts.specs.NumberedNodes.{behind, IsNumbered, AreNumbered}
use Rattle.mls_parts.specs.PartBinders.{NeedsBinder, NamesBinder, BindsBinder, IsNamed, IsBound, ArePartBinders}
use Rattle.mls_parts.specs.Posings.{known_in}
use Rattle.mls_parts.specs.TermParts.{IsTermPart}
use Rattle.mls_parts.proofs.TreeNodes.{one_form}
use Rattle.mls_allowed.specs.ReadyParts.{needed_binders, needed_by}
use Rattle.mls_allowed.proofs.FirstScopes.{IsAround, around_rises}

-- a binder that a known type needs
pub needed : (o : Option Scheme) (x : ℕ) → Contains (needed_binders o) x → NeedsBinder o x
needed None x there = absurd (nothing_in x there)
needed (Some s) x there = Contains-map_back (λ (entry : EnvEntry). entry.binder) s.env x there

module _ (nodes : List TermNode) (lets : BTreeMap ℕ Scheme) (part : List ℕ) (let_scope : ℕ → List ℕ) (needs : (k x : ℕ) → NeedsBinder (known_in lets k) x → Contains (let_scope k) x)
    (closed : (i j : ℕ) (f : TermForm) → Contains part i → form_at nodes i ≡ Some f → IsOwnPart f j → Contains part j) where
  abbrev Named : ℕ → Type 0
  Named = IsNamed nodes lets part

  abbrev Bound : ℕ → Type 0
  Bound = IsBound nodes lets part

  -- the binders of the small scope are around, and it has those that the part names
  pub record IsSmall (scope small : List ℕ) : Type 0 where
    pub inside : (x : ℕ) → Contains small x → Contains scope x
    pub kept : (x : ℕ) → Contains scope x → Named x → Contains small x

  more_small : (scope small : List ℕ) (x : ℕ) → IsSmall scope small → IsSmall (scope ++ x ∷ []) (small ++ x ∷ [])
  more_small scope small x it = record {
    inside = λ y there. elim (Contains-push_cases small x y there) [
      | inl outer ↦ Contains-append_left scope (x ∷ []) y (it.inside y outer)
      | inr same ↦ subst (Contains (scope ++ x ∷ [])) same (Contains-push scope x)
    ];
    kept = λ y there named. elim (Contains-push_cases scope x y there) [
      | inl outer ↦ Contains-append_left small (x ∷ []) y (it.kept y outer named)
      | inr same ↦ subst (Contains (small ++ x ∷ [])) same (Contains-push small x)
    ];
  }

  below_small : (scope small : List ℕ) (x : ℕ) → IsSmall scope small → All (λ y. y < x) scope → All (λ y. y < x) small
  below_small scope small x it all = All-contained (λ y. y < x) small (λ y there. All-contains (λ y. y < x) scope y all (it.inside y there))

  mutual
    unfolding field_roots

    pub rises_small : (t : TermTree) (n : ℕ) (scope small : List ℕ) → IsNumbered nodes n t → Contains part (n + before t) → IsSmall scope small → IsRising let_scope scope t → IsRising (needed_by lets) small t
    rises_small (bound at x) n scope small numbers here it rises = it.kept x rises (n + before (bound at x), form.Bound x, here, numbers, refl)
    rises_small (inner at k) n scope small numbers here it rises =
        λ x there. let need = needed (known_in lets k) x there in it.kept x (rises x (needs k x need)) (n + before (inner at k), form.Inner k, here, numbers, need)
    rises_small (global at g) n scope small numbers here it rises = tt
    rises_small (number at value) n scope small numbers here it rises = tt
    rises_small (truth at value) n scope small numbers here it rises = tt
    rises_small (fun at x e) n scope small numbers here it rises = (
      below_small scope small x it rises.0,
      rises_small e n (scope ++ x ∷ []) (small ++ x ∷ []) numbers.1 (closed (n + before (fun at x e)) (n + before e) (form.Fun x (n + before e)) here numbers.0 refl) (more_small scope small x it) rises.1,
    )
    rises_small (fix at x e) n scope small numbers here it rises = (
      below_small scope small x it rises.0,
      rises_small e n (scope ++ x ∷ []) (small ++ x ∷ []) numbers.1 (closed (n + before (fix at x e)) (n + before e) (form.Rec x (n + before e)) here numbers.0 refl) (more_small scope small x it) rises.1,
    )
    rises_small (project at e label) n scope small numbers here it rises =
        rises_small e n scope small numbers.1 (closed (n + before (project at e label)) (n + before e) (form.Project (n + before e) label) here numbers.0 refl) it rises
    rises_small (apply at e f) n scope small numbers here it rises =
        let own : (j : ℕ) → IsOwnPart (form.Apply (n + before e) (behind n e + before f)) j → Contains part j = λ j. closed (n + before (apply at e f)) j (form.Apply (n + before e) (behind n e + before f)) here numbers.0 in (
          rises_small e n scope small numbers.1 (own (n + before e) (inl refl)) it rises.0,
          rises_small f (behind n e) scope small numbers.2 (own (behind n e + before f) (inr refl)) it rises.1,
        )
    rises_small (choice at c e f) n scope small numbers here it rises =
        let own : (j : ℕ) → IsOwnPart (form.If (n + before c) (behind n c + before e) (behind (behind n c) e + before f)) j → Contains part j =
        λ j. closed (n + before (choice at c e f)) j (form.If (n + before c) (behind n c + before e) (behind (behind n c) e + before f)) here numbers.0 in (
          rises_small c n scope small numbers.1 (own (n + before c) (inl refl)) it rises.0,
          rises_small e (behind n c) scope small numbers.2 (own (behind n c + before e) (inr (inl refl))) it rises.1,
          rises_small f (behind (behind n c) e) scope small numbers.3 (own (behind (behind n c) e + before f) (inr (inr refl))) it rises.2,
        )
    rises_small (make at fields) n scope small numbers here it rises =
        fields_small fields n scope small numbers.1 (λ p there. closed (n + before (make at fields)) p.child (form.Make (field_roots n fields)) here numbers.0 (p, there, refl)) it rises
    rises_small (local at k e f) n scope small numbers here it rises = (
      (λ x there. let need = needed (known_in lets k) x there in it.kept x (rises.0 x (needs k x need)) (n + before (local at k e f), form.Let k (n + before e) (behind n e + before f), here, numbers.0, need)),
      rises_small f (behind n e) scope small numbers.2 (closed (n + before (local at k e f)) (behind n e + before f) (form.Let k (n + before e) (behind n e + before f)) here numbers.0 refl) it rises.1,
    )

    fields_small : (fields : TermFields) (n : ℕ) (scope small : List ℕ) → AreNumbered nodes n fields → ((p : Part) → Contains (field_roots n fields) p → Contains part p.child) → IsSmall scope small → AreRising let_scope scope fields → AreRising (needed_by lets) small fields
    fields_small no_field n scope small numbers here it rises = tt
    fields_small (a_field label e rest) n scope small numbers here it rises =
        let first : Part = record { label = label; child = n + before e } in (
          rises_small e n scope small numbers.0 (here first (Contains-here first (field_roots (behind n e) rest))) it rises.0,
          fields_small rest (behind n e) scope small numbers.1 (λ p there. here p (Contains-later first (field_roots (behind n e) rest) p there)) it rises.1,
        )

  -- The tree of a node of the part: the binders around it are around the part or bound in it, and those in it are in
  -- the part.
  module _ (top : List ℕ) (whole : List ℕ) where
    pub record IsHere (i : ℕ) : Type 0 where
      pub first : ℕ
      pub tree : TermTree
      pub root : i ≡ first + before tree
      pub numbers : IsNumbered nodes first tree
      pub there : Contains part i
      pub scope : List ℕ
      pub rises : IsRising let_scope scope tree
      pub around : (x : ℕ) → Contains scope x → Contains top x ⊎ Bound x
      pub inside : (x : ℕ) → Contains (binders_of tree) x → Contains whole x

    -- what the form of a node names is around it, and what it binds is in it
    named_here : (t : TermTree) (n : ℕ) (scope : List ℕ) → IsNumbered nodes n t → IsRising let_scope scope t → (f : TermForm) → form_at nodes (n + before t) ≡ Some f → (x : ℕ) → NamesBinder lets f x → Contains scope x
    named_here (bound at y) n scope numbers rises f e x names = let it : y ≡ x = subst (λ f. NamesBinder lets f x) (one_form nodes (n + before (bound at y)) f (form.Bound y) e numbers) names in subst (Contains scope) it rises
    named_here (inner at k) n scope numbers rises f e x names = rises x (needs k x (subst (λ f. NamesBinder lets f x) (one_form nodes (n + before (inner at k)) f (form.Inner k) e numbers) names))
    named_here (global at g) n scope numbers rises f e x names = absurd (subst (λ f. NamesBinder lets f x) (one_form nodes (n + before (global at g)) f (form.Global g) e numbers) names)
    named_here (number at value) n scope numbers rises f e x names = absurd (subst (λ f. NamesBinder lets f x) (one_form nodes (n + before (number at value)) f (form.Number value) e numbers) names)
    named_here (truth at value) n scope numbers rises f e x names = absurd (subst (λ f. NamesBinder lets f x) (one_form nodes (n + before (truth at value)) f (form.Truth value) e numbers) names)
    named_here (fun at y b) n scope numbers rises f e x names = absurd (subst (λ f. NamesBinder lets f x) (one_form nodes (n + before (fun at y b)) f (form.Fun y (n + before b)) e numbers.0) names)
    named_here (fix at y b) n scope numbers rises f e x names = absurd (subst (λ f. NamesBinder lets f x) (one_form nodes (n + before (fix at y b)) f (form.Rec y (n + before b)) e numbers.0) names)
    named_here (project at b label) n scope numbers rises f e x names = absurd (subst (λ f. NamesBinder lets f x) (one_form nodes (n + before (project at b label)) f (form.Project (n + before b) label) e numbers.0) names)
    named_here (apply at b c) n scope numbers rises f e x names = absurd (subst (λ f. NamesBinder lets f x) (one_form nodes (n + before (apply at b c)) f (form.Apply (n + before b) (behind n b + before c)) e numbers.0) names)
    named_here (choice at b c d) n scope numbers rises f e x names =
        absurd (subst (λ f. NamesBinder lets f x) (one_form nodes (n + before (choice at b c d)) f (form.If (n + before b) (behind n b + before c) (behind (behind n b) c + before d)) e numbers.0) names)
    named_here (make at fields) n scope numbers rises f e x names = absurd (subst (λ f. NamesBinder lets f x) (one_form nodes (n + before (make at fields)) f (form.Make (field_roots n fields)) e numbers.0) names)
    named_here (local at k b c) n scope numbers rises f e x names =
        rises.0 x (needs k x (subst (λ f. NamesBinder lets f x) (one_form nodes (n + before (local at k b c)) f (form.Let k (n + before b) (behind n b + before c)) e numbers.0) names))

    binds_here : (t : TermTree) (n : ℕ) → IsNumbered nodes n t → (f : TermForm) → form_at nodes (n + before t) ≡ Some f → (x : ℕ) → BindsBinder f x → Contains (binders_of t) x
    binds_here (bound at y) n numbers f e x binds = absurd (subst (λ f. BindsBinder f x) (one_form nodes (n + before (bound at y)) f (form.Bound y) e numbers) binds)
    binds_here (inner at k) n numbers f e x binds = absurd (subst (λ f. BindsBinder f x) (one_form nodes (n + before (inner at k)) f (form.Inner k) e numbers) binds)
    binds_here (global at g) n numbers f e x binds = absurd (subst (λ f. BindsBinder f x) (one_form nodes (n + before (global at g)) f (form.Global g) e numbers) binds)
    binds_here (number at value) n numbers f e x binds = absurd (subst (λ f. BindsBinder f x) (one_form nodes (n + before (number at value)) f (form.Number value) e numbers) binds)
    binds_here (truth at value) n numbers f e x binds = absurd (subst (λ f. BindsBinder f x) (one_form nodes (n + before (truth at value)) f (form.Truth value) e numbers) binds)
    binds_here (fun at y b) n numbers f e x binds =
        let it : y ≡ x = subst (λ f. BindsBinder f x) (one_form nodes (n + before (fun at y b)) f (form.Fun y (n + before b)) e numbers.0) binds in
        subst (Contains (y ∷ binders_of b)) it (Contains-here y (binders_of b))
    binds_here (fix at y b) n numbers f e x binds =
        let it : y ≡ x = subst (λ f. BindsBinder f x) (one_form nodes (n + before (fix at y b)) f (form.Rec y (n + before b)) e numbers.0) binds in
        subst (Contains (y ∷ binders_of b)) it (Contains-here y (binders_of b))
    binds_here (project at b label) n numbers f e x binds = absurd (subst (λ f. BindsBinder f x) (one_form nodes (n + before (project at b label)) f (form.Project (n + before b) label) e numbers.0) binds)
    binds_here (apply at b c) n numbers f e x binds = absurd (subst (λ f. BindsBinder f x) (one_form nodes (n + before (apply at b c)) f (form.Apply (n + before b) (behind n b + before c)) e numbers.0) binds)
    binds_here (choice at b c d) n numbers f e x binds =
        absurd (subst (λ f. BindsBinder f x) (one_form nodes (n + before (choice at b c d)) f (form.If (n + before b) (behind n b + before c) (behind (behind n b) c + before d)) e numbers.0) binds)
    binds_here (make at fields) n numbers f e x binds = absurd (subst (λ f. BindsBinder f x) (one_form nodes (n + before (make at fields)) f (form.Make (field_roots n fields)) e numbers.0) binds)
    binds_here (local at k b c) n numbers f e x binds = absurd (subst (λ f. BindsBinder f x) (one_form nodes (n + before (local at k b c)) f (form.Let k (n + before b) (behind n b + before c)) e numbers.0) binds)

    -- a part of a node is here too
    module _ (i : ℕ) (f : TermForm) (e : form_at nodes i ≡ Some f) (here : Contains part i) where
      kid_here : (m j : ℕ) (u : TermTree) (scope : List ℕ) → j ≡ m + before u → IsOwnPart f j → IsNumbered nodes m u → IsRising let_scope scope u → ((x : ℕ) → Contains scope x → Contains top x ⊎ Bound x) → ((x : ℕ) → Contains (binders_of u) x → Contains whole x) → IsHere j
      kid_here m j u scope root own numbers rises around inside = record { first = m; tree = u; root = root; numbers = numbers; there = closed i j f here e own; scope = scope; rises = rises; around = around; inside = inside }

      -- under one more binder
      around_more : (scope : List ℕ) (x : ℕ) → BindsBinder f x → ((y : ℕ) → Contains scope y → Contains top y ⊎ Bound y) → (y : ℕ) → Contains (scope ++ x ∷ []) y → Contains top y ⊎ Bound y
      around_more scope x binds around y there = elim (Contains-push_cases scope x y there) [ inl outer ↦ around y outer | inr same ↦ inr (i, f, here, e, subst (BindsBinder f) same binds) ]

      field_here : (fields : TermFields) (n : ℕ) (scope : List ℕ) → AreNumbered nodes n fields → AreRising let_scope scope fields → ((x : ℕ) → Contains scope x → Contains top x ⊎ Bound x) → ((x : ℕ) → Contains (field_binders_of fields) x → Contains whole x)
          → (p : Part) → Contains (field_roots n fields) p → IsOwnPart f p.child → IsHere p.child
      unfolding field_roots
      field_here no_field n scope numbers rises around inside p there own = absurd (nothing_in p there)
      field_here (a_field label b rest) n scope numbers rises around inside p there own =
          let first : Part = record { label = label; child = n + before b } in
          elim (Contains-cases first (field_roots (behind n b) rest) p there) [
            | inl same ↦ kid_here n p.child b scope (ap (λ (q : Part). q.child) (sym same)) own numbers.0 rises.0 around (λ x at. inside x (Contains-append_left (binders_of b) (field_binders_of rest) x at))
            | inr later ↦ field_here rest (behind n b) scope numbers.1 rises.1 around (λ x at. inside x (Contains-append_right (binders_of b) (field_binders_of rest) x at)) p later own
          ]

    part_here : (t : TermTree) (n i : ℕ) (scope : List ℕ) → i ≡ n + before t → Contains part i → IsNumbered nodes n t → IsRising let_scope scope t → ((x : ℕ) → Contains scope x → Contains top x ⊎ Bound x) → ((x : ℕ) → Contains (binders_of t) x → Contains whole x)
        → (f : TermForm) → form_at nodes i ≡ Some f → (j : ℕ) → IsOwnPart f j → IsHere j
    part_here (bound at y) n i scope root here numbers rises around inside f e j own =
        absurd (subst (λ f. IsOwnPart f j) (one_form nodes i f (form.Bound y) e (subst (λ m. form_at nodes m ≡ Some (form.Bound y)) (sym root) numbers)) own)
    part_here (inner at k) n i scope root here numbers rises around inside f e j own =
        absurd (subst (λ f. IsOwnPart f j) (one_form nodes i f (form.Inner k) e (subst (λ m. form_at nodes m ≡ Some (form.Inner k)) (sym root) numbers)) own)
    part_here (global at g) n i scope root here numbers rises around inside f e j own =
        absurd (subst (λ f. IsOwnPart f j) (one_form nodes i f (form.Global g) e (subst (λ m. form_at nodes m ≡ Some (form.Global g)) (sym root) numbers)) own)
    part_here (number at value) n i scope root here numbers rises around inside f e j own =
        absurd (subst (λ f. IsOwnPart f j) (one_form nodes i f (form.Number value) e (subst (λ m. form_at nodes m ≡ Some (form.Number value)) (sym root) numbers)) own)
    part_here (truth at value) n i scope root here numbers rises around inside f e j own =
        absurd (subst (λ f. IsOwnPart f j) (one_form nodes i f (form.Truth value) e (subst (λ m. form_at nodes m ≡ Some (form.Truth value)) (sym root) numbers)) own)
    part_here (fun at y b) n i scope root here numbers rises around inside f e j own =
        let g : TermForm = form.Fun y (n + before b) in
        let e' : form_at nodes i ≡ Some g = subst (λ m. form_at nodes m ≡ Some g) (sym root) numbers.0 in
        let own' : j ≡ n + before b = subst (λ f. IsOwnPart f j) (one_form nodes i f g e e') own in
        kid_here i g e' here n j b (scope ++ y ∷ []) own' own' numbers.1 rises.1 (around_more i g e' here scope y refl around) (λ x at. inside x (Contains-later y (binders_of b) x at))
    part_here (fix at y b) n i scope root here numbers rises around inside f e j own =
        let g : TermForm = form.Rec y (n + before b) in
        let e' : form_at nodes i ≡ Some g = subst (λ m. form_at nodes m ≡ Some g) (sym root) numbers.0 in
        let own' : j ≡ n + before b = subst (λ f. IsOwnPart f j) (one_form nodes i f g e e') own in
        kid_here i g e' here n j b (scope ++ y ∷ []) own' own' numbers.1 rises.1 (around_more i g e' here scope y refl around) (λ x at. inside x (Contains-later y (binders_of b) x at))
    part_here (project at b label) n i scope root here numbers rises around inside f e j own =
        let g : TermForm = form.Project (n + before b) label in
        let e' : form_at nodes i ≡ Some g = subst (λ m. form_at nodes m ≡ Some g) (sym root) numbers.0 in
        let own' : j ≡ n + before b = subst (λ f. IsOwnPart f j) (one_form nodes i f g e e') own in
        kid_here i g e' here n j b scope own' own' numbers.1 rises around inside
    part_here (apply at b c) n i scope root here numbers rises around inside f e j own =
        let g : TermForm = form.Apply (n + before b) (behind n b + before c) in
        let e' : form_at nodes i ≡ Some g = subst (λ m. form_at nodes m ≡ Some g) (sym root) numbers.0 in
        let own' : (j ≡ n + before b) ⊎ (j ≡ behind n b + before c) = subst (λ f. IsOwnPart f j) (one_form nodes i f g e e') own in
        elim own' [
          | inl at ↦ kid_here i g e' here n j b scope at (inl at) numbers.1 rises.0 around (λ x in_b. inside x (Contains-append_left (binders_of b) (binders_of c) x in_b))
          | inr at ↦ kid_here i g e' here (behind n b) j c scope at (inr at) numbers.2 rises.1 around (λ x in_c. inside x (Contains-append_right (binders_of b) (binders_of c) x in_c))
        ]
    part_here (choice at b c d) n i scope root here numbers rises around inside f e j own =
        let g : TermForm = form.If (n + before b) (behind n b + before c) (behind (behind n b) c + before d) in
        let e' : form_at nodes i ≡ Some g = subst (λ m. form_at nodes m ≡ Some g) (sym root) numbers.0 in
        let own' : (j ≡ n + before b) ⊎ ((j ≡ behind n b + before c) ⊎ (j ≡ behind (behind n b) c + before d)) = subst (λ f. IsOwnPart f j) (one_form nodes i f g e e') own in
        let front : (x : ℕ) → Contains (binders_of b ++ binders_of c) x → Contains whole x = λ x at. inside x (Contains-append_left (binders_of b ++ binders_of c) (binders_of d) x at) in
        elim own' [
          | inl at ↦ kid_here i g e' here n j b scope at (inl at) numbers.1 rises.0 around (λ x in_b. front x (Contains-append_left (binders_of b) (binders_of c) x in_b))
          | inr rest ↦ elim rest [
            | inl at ↦ kid_here i g e' here (behind n b) j c scope at (inr (inl at)) numbers.2 rises.1 around (λ x in_c. front x (Contains-append_right (binders_of b) (binders_of c) x in_c))
            | inr at ↦ kid_here i g e' here (behind (behind n b) c) j d scope at (inr (inr at)) numbers.3 rises.2 around (λ x in_d. inside x (Contains-append_right (binders_of b ++ binders_of c) (binders_of d) x in_d))
          ]
        ]
    part_here (make at fields) n i scope root here numbers rises around inside f e j own =
        let g : TermForm = form.Make (field_roots n fields) in
        let e' : form_at nodes i ≡ Some g = subst (λ m. form_at nodes m ≡ Some g) (sym root) numbers.0 in
        let own' = subst (λ f. IsOwnPart f j) (one_form nodes i f g e e') own in
        let H : ℕ → Type 0 = IsHere in
        subst H (sym own'.2) (field_here i g e' here fields n scope numbers.1 rises around inside own'.0 own'.1 (own'.0, own'.1, refl))
    part_here (local at k b c) n i scope root here numbers rises around inside f e j own =
        let g : TermForm = form.Let k (n + before b) (behind n b + before c) in
        let e' : form_at nodes i ≡ Some g = subst (λ m. form_at nodes m ≡ Some g) (sym root) numbers.0 in
        let own' : j ≡ behind n b + before c = subst (λ f. IsOwnPart f j) (one_form nodes i f g e e') own in
        kid_here i g e' here (behind n b) j c scope own' own' numbers.2 rises.1 around (λ x in_c. inside x (Contains-append_right (binders_of b) (binders_of c) x in_c))

    module _ (r : ℕ) (root : IsHere r) where
      node_here : (i : ℕ) → IsNodeOf nodes r i → IsHere i
      node_here i (at_top same) = let H : ℕ → Type 0 = IsHere in subst H (sym same) root
      node_here i (in_part j f outer e own) =
          let at : IsHere j = node_here j outer in
          part_here at.tree at.first j at.scope at.root at.there at.numbers at.rises at.around at.inside f e i own

      module _ (only : (j : ℕ) → Contains part j → IsNodeOf nodes r j) where
        -- a binder that the part names is around it or bound in it, and one that is bound in it is one of its tree
        pub named_around : (x : ℕ) → Named x → Contains top x ⊎ Bound x
        named_around x (i, f, there, e, names) =
            let at : IsHere i = node_here i (only i there) in
            at.around x (named_here at.tree at.first at.scope at.numbers at.rises f (subst (λ m. form_at nodes m ≡ Some f) at.root e) x names)

        pub bound_inside : (x : ℕ) → Bound x → Contains whole x
        bound_inside x (i, f, there, e, binds) =
            let at : IsHere i = node_here i (only i there) in
            at.inside x (binds_here at.tree at.first at.numbers f (subst (λ m. form_at nodes m ≡ Some f) at.root e) x binds)

-- The part of a term with this root: the binders around it that it names are around its tree, and binders rise in it
-- over these alone.
module _ (nodes : List TermNode) (lets : BTreeMap ℕ Scheme) (let_scope : ℕ → List ℕ) (globals : ℕ) (needs : (k x : ℕ) → NeedsBinder (known_in lets k) x → Contains (let_scope k) x) (part : TermPart) (binders : PartBinders) (are : ArePartBinders nodes lets part.nodes binders)
    (n : ℕ) (t : TermTree) (numbers : IsNumbered nodes n t) (is_part : IsTermPart nodes (n + before t) part) (it : IsAround nodes let_scope globals n t) where
  pub closed_part : (i j : ℕ) (f : TermForm) → Contains part.nodes i → form_at nodes i ≡ Some f → IsOwnPart f j → Contains part.nodes j
  closed_part i j f there e own = is_part.all j (in_part i f (is_part.only i there).1 e own)

  top_there : Contains part.nodes (n + before t)
  top_there = is_part.all (n + before t) (at_top refl)

  rising : IsRising let_scope it.scope t
  rising = around_rises nodes let_scope globals n t it

  top_here : IsHere nodes lets part.nodes let_scope needs closed_part it.scope (binders_of t) (n + before t)
  top_here = record { first = n; tree = t; root = refl; numbers = numbers; there = top_there; scope = it.scope; rises = rising; around = λ x at. inl at; inside = λ x at. at }

  pub part_around : (x : ℕ) → Contains binders.around x → Contains it.scope x
  part_around x there =
      let free = (are.around x).0 there in
      elim (named_around nodes lets part.nodes let_scope needs closed_part it.scope (binders_of t) (n + before t) top_here (λ j at. (is_part.only j at).1) x free.0) [ inl outer ↦ outer | inr within ↦ absurd (free.1 within) ]

  pub rises_around : IsRising (needed_by lets) binders.around t
  rises_around =
      rises_small nodes lets part.nodes let_scope needs closed_part t n it.scope binders.around numbers top_there
      (record {
        inside = part_around;
        kept = λ x there named. (are.around x).1 (
          named,
          (λ within.
              let inside : Contains (binders_of t) x = bound_inside nodes lets part.nodes let_scope needs closed_part it.scope (binders_of t) (n + before t) top_here (λ j at. (is_part.only j at).1) x within in
              let low : x < x = it.above x x there inside in
              omega arith),
        );
      })
      rising
