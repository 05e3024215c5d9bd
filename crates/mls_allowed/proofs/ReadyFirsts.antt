-- The first part of each let of a term that has a type is ready for its lines: it has a type too, so its constraint
-- does not clash.
--     IsTypedIn               a tree of a term that has a type in its place
--     typed_first             the first part of each let of a term that has a type
--     first_free              the constraint of a first part does not clash
--     first_ready
use Rattle.std.proofs.Common.{◌≡◌, inl, inr, ℕ, suc, ◌+◌, arith, List, [], ◌∷◌, length, refl, sym, ap, ◌∙◌, subst, Contains, Some}
use Rattle.std.specs.Prelude.{IsSome, is_some}
use Rattle.std.specs.BTreeMap.{BTreeMap}
use Rattle.mls_book.specs.Predicates.{Predicate, top, bool, arrow, rcd}
use Rattle.mls_book.specs.Passes.{passes, field_values}
use Rattle.mls_book.specs.Schemes as book
use Rattle.mls_book.specs.Schemes.{Subsumes}
use Rattle.mls_automaton.specs.declared.scheme.Scheme.{Scheme}
use Rattle.mls_automaton.specs.Schemes.{state_of}
use Rattle.mls_solver.specs.Clashes.{HasNoClash}
use Rattle.mls_solver.specs.Relations.{IsGoal, IsRelated}
use Rattle.mls_subsume.specs.declared.verdict.StatePair.{StatePair}
use Rattle.mls_subsume.specs.Verdicts.{DoesSubsume}
use Rattle.mls_term.specs.declared.term.TermForm.TheVariants as form
use Rattle.mls_term.specs.declared.term.TermNode.{TermNode}
use Rattle.mls_term.specs.Terms.{TermTree, TermFields, bound, inner, global, number, truth, fun, apply, make, project, choice, local, fix, no_field, a_field, before}
use Rattle.mls_term.specs.Derivations.{Known, with_let}
use Rattle.mls_term.specs.WellFormed.{IsTerm, HasRisingTree, field_parts}
use Rattle.mls_term.proofs.Metatheory.{AreSchemes-let, IsMoreGeneral-refl, IsMoreGeneral-let}
use Rattle.mls_typing.specs.Typed.{Types, IsTyped, needs_of, one_field, type_of, with_binder, AllOf}
use Rattle.mls_typing.proofs.Instances.{Allows-subsumes, IsTyped-derived, typed_under}
use Rattle.mls_typing.proofs.Lists.{Contains-cases, nothing_in}
use Rattle.mls_typing.proofs.PartNodes.{length-postorder}
use Rattle.mls_typing.proofs.TypedLet.{LetParts, let_parts, typed_more_general}
use Rattle.mls_typing.proofs.TypedMake.{typed_make}
use Rattle.mls_typing.proofs.TypedParts.{typed_fun, typed_fix}
use Rattle.mls_typing.proofs.TypedUses.{typed_apply, typed_project, typed_choice}
use Rattle.mls_deriv.specs.Steps.{form_at}
use Rattle.mls_layout.specs.Walks.{AreMet}
use Rattle.mls_parts.specs.NodeTypes.{AllowsAll, at_top, IsKnownHere, IsNodeOf, LetsAllow}
use Rattle.mls_parts.specs.NumberedNodes.{behind, IsNumbered, IsPlaced}
use Rattle.mls_parts.specs.PosedModels.{AreOver}
use Rattle.mls_parts.specs.Posings.{root_in}
use Rattle.mls_parts.specs.SolvedTypes.{solved_scheme}
use Rattle.mls_parts.specs.TermParts.{IsTermPart}
use Rattle.mls_parts.proofs.NumberedNodes.{numbered_whole}
use Rattle.mls_parts.proofs.TreeNodes.{kids, form_low, node_with, one_form, tree_nodes}
use Rattle.mls_allowed.specs.LetScopes.{HasScopes}
use Rattle.mls_allowed.specs.MadeFirsts.{around_states, IsFirstMade}
use Rattle.mls_allowed.specs.FirstTypes.{AreFirstsMade, AreFieldLetsIn, AreLetsIn, HaveFirstTypes}
use Rattle.mls_allowed.specs.PartTypes.{AreAround}
use Rattle.mls_allowed.specs.ReadyParts.{IsPartReady}
use Rattle.mls_allowed.proofs.FirstScopes.{IsFirstAround, first_around}
use Rattle.mls_allowed.proofs.FirstTypes.{firsts_allow}
use Rattle.mls_allowed.proofs.KnownHere.{known_let, known_more}
use Rattle.mls_allowed.proofs.PartTypes.{part_no_clash}
use Rattle.mls_allowed.proofs.PlacedParts.{ArePlaced, placed_fun, placed_fix, placed_project, placed_function, placed_argument, placed_condition, placed_first_branch, placed_second_branch, placed_first, placed_second, placed_fields, placed_field, placed_rest}
use Rattle.mls_allowed.proofs.ReadyParts.{part_ready, state_there}

-- A term, of which all first parts have known types.
module _ (nodes : List TermNode) (known : Known) (globals lets : BTreeMap ℕ Scheme) (over : AreOver known globals lets) (let_scope : ℕ → List ℕ) (firsts : HaveFirstTypes nodes known globals lets let_scope) where
  -- The tree has a type where these binders have these types.
  pub record IsTypedIn (n : ℕ) (t : TermTree) : Type 0 where
    pub scope : List ℕ
    pub here : Known
    pub placed : IsPlaced nodes scope n t
    pub lets_in : AreLetsIn let_scope scope t
    pub known_here : IsKnownHere known scope here
    pub types : Types
    pub type : Predicate
    pub typed : IsTyped here types t type

  -- so the types of its lets allow all that their first parts have
  allow : (n : ℕ) (t : TermTree) (it : IsTypedIn n t) → LetsAllow known it.scope it.here t
  allow n t it = firsts_allow nodes known globals lets over let_scope firsts t it.scope it.here n it.placed it.lets_in it.known_here

  abbrev AllTyped : List (ℕ × TermTree) → Type 0
  AllTyped ks = (kid : ℕ × TermTree) → Contains ks kid → IsTypedIn kid.0 kid.1

  none_typed : AllTyped []
  none_typed kid there = absurd (nothing_in kid there)

  more_typed : (n : ℕ) (t : TermTree) (rest : List (ℕ × TermTree)) → IsTypedIn n t → AllTyped rest → AllTyped ((n, t) ∷ rest)
  more_typed n t rest it all kid there = elim (Contains-cases (n, t) rest kid there) [
    | inl same ↦ (let P : ℕ × TermTree → Type 0 = λ k. IsTypedIn k.0 k.1 in subst P same it)
    | inr later ↦ all kid later
  ]

  fields_typed : (fields : TermFields) (n : ℕ) (scope : List ℕ) (here : Known) → ArePlaced nodes scope n fields → AreFieldLetsIn let_scope scope fields → IsKnownHere known scope here → (types : Types) (values : List ℕ → _) → AllOf (λ e ts g. IsTyped here ts e g) fields types values
      → AllTyped (field_parts n fields)
  fields_typed no_field n scope here placed inside known_here types values all = none_typed
  fields_typed (a_field label e rest) n scope here placed inside known_here types values all =
      more_typed n e (field_parts (n + suc (before e)) rest)
      (record { scope = scope; here = here; placed = placed_field nodes scope n label e rest placed; lets_in = inside.0; known_here = known_here; types = types; type = all.0.0; typed = all.0.2 })
      (fields_typed rest (n + suc (before e)) scope here (placed_rest nodes scope n label e rest placed) inside.1 known_here types values all.1)

  -- the first part of a let has a type
  pub first_typed : (n at k : ℕ) (e f : TermTree) → IsTypedIn n (local at k e f) → IsTypedIn n e
  first_typed n at k e f it =
      let parts : LetParts it.here it.types k e f it.type = let_parts it.here it.known_here.schemes it.types it.type at k e f it.typed in
      record {
        scope = it.scope;
        here = it.here;
        placed = placed_first nodes it.scope n at e f k it.placed;
        lets_in = it.lets_in.1;
        known_here = it.known_here;
        types = it.types;
        type = top;
        typed = typed_under parts.scheme parts.is it.types top parts.allowed it.here e parts.derives;
      }

  second_typed : (n at k : ℕ) (e f : TermTree) → IsTypedIn n (local at k e f) → IsTypedIn (behind n e) f
  second_typed n at k e f it =
      let parts : LetParts it.here it.types k e f it.type = let_parts it.here it.known_here.schemes it.types it.type at k e f it.typed in
      let all = allow n (local at k e f) it in
      let s : book.Scheme = all.0 in
      let best : AllowsAll it.scope it.here e s = all.2 in
      let subsumes : Subsumes s parts.scheme = Allows-subsumes s parts.scheme (best.all (needs_of parts.scheme) (type_of parts.scheme) (IsTyped-derived it.here e parts.scheme parts.is parts.derives)) in
      record {
        scope = it.scope;
        here = with_let it.here k s;
        placed = placed_second nodes it.scope n at e f k it.placed;
        lets_in = it.lets_in.2;
        known_here = known_let known it.scope it.here k s all.1 best.is best.needs it.known_here;
        types = it.types;
        type = it.type;
        typed = typed_more_general (with_let it.here k s) (with_let it.here k parts.scheme) it.types f it.type (IsMoreGeneral-let it.here it.here k s parts.scheme (IsMoreGeneral-refl it.here) subsumes)
            (AreSchemes-let it.here k parts.scheme it.known_here.schemes parts.is) parts.second;
      }

  kids_typed : (t : TermTree) (n : ℕ) → IsTypedIn n t → AllTyped (kids n t)
  kids_typed (bound at x) n it = none_typed
  kids_typed (inner at k) n it = none_typed
  kids_typed (global at g) n it = none_typed
  kids_typed (number at value) n it = none_typed
  kids_typed (truth at value) n it = none_typed
  kids_typed (fun at x e) n it =
      let parts = (typed_fun it.here it.known_here.schemes it.types it.type at x e).0 it.typed in
      more_typed n e []
      (record {
        scope = x ∷ it.scope;
        here = it.here;
        placed = placed_fun nodes it.scope n at x e it.placed;
        lets_in = it.lets_in;
        known_here = known_more known it.scope it.here x it.known_here;
        types = with_binder it.types x parts.domain;
        type = parts.codomain;
        typed = parts.body;
      })
      none_typed
  kids_typed (fix at x e) n it =
      let parts = (typed_fix it.here it.known_here.schemes it.types it.type at x e).0 it.typed in
      more_typed n e []
      (record {
        scope = x ∷ it.scope;
        here = it.here;
        placed = placed_fix nodes it.scope n at x e it.placed;
        lets_in = it.lets_in;
        known_here = known_more known it.scope it.here x it.known_here;
        types = with_binder it.types x parts.body_type;
        type = parts.body_type;
        typed = parts.body;
      })
      none_typed
  kids_typed (project at e label) n it =
      let parts = (typed_project it.here it.known_here.schemes it.types it.type at e label).0 it.typed in
      more_typed n e []
      (record { scope = it.scope; here = it.here; placed = placed_project nodes it.scope n at e label it.placed; lets_in = it.lets_in; known_here = it.known_here; types = it.types; type = rcd (one_field label parts.field); typed = parts.body })
      none_typed
  kids_typed (apply at e f) n it =
      let parts = (typed_apply it.here it.known_here.schemes it.types it.type at e f).0 it.typed in
      more_typed n e ((behind n e, f) ∷ [])
      (record { scope = it.scope; here = it.here; placed = placed_function nodes it.scope n at e f it.placed; lets_in = it.lets_in.0; known_here = it.known_here; types = it.types; type = arrow parts.domain parts.codomain; typed = parts.function })
      (more_typed (behind n e) f []
      (record { scope = it.scope; here = it.here; placed = placed_argument nodes it.scope n at e f it.placed; lets_in = it.lets_in.1; known_here = it.known_here; types = it.types; type = parts.domain; typed = parts.argument })
      none_typed)
  kids_typed (choice at c e f) n it =
      let parts = (typed_choice it.here it.known_here.schemes it.types it.type at c e f).0 it.typed in
      more_typed n c ((behind n c, e) ∷ (behind (behind n c) e, f) ∷ [])
      (record { scope = it.scope; here = it.here; placed = placed_condition nodes it.scope n at c e f it.placed; lets_in = it.lets_in.0; known_here = it.known_here; types = it.types; type = bool; typed = parts.condition })
      (more_typed (behind n c) e ((behind (behind n c) e, f) ∷ [])
      (record { scope = it.scope; here = it.here; placed = placed_first_branch nodes it.scope n at c e f it.placed; lets_in = it.lets_in.1; known_here = it.known_here; types = it.types; type = parts.branch; typed = parts.first })
      (more_typed (behind (behind n c) e) f []
      (record { scope = it.scope; here = it.here; placed = placed_second_branch nodes it.scope n at c e f it.placed; lets_in = it.lets_in.2; known_here = it.known_here; types = it.types; type = parts.branch; typed = parts.second })
      none_typed))
  kids_typed (make at fields) n it =
      let parts = (typed_make it.here it.known_here.schemes it.types it.type at fields).0 it.typed in
      fields_typed fields n it.scope it.here (placed_fields nodes it.scope n at fields it.placed) it.lets_in it.known_here it.types (field_values (passes parts.book) parts.fields) parts.each
  kids_typed (local at k e f) n it = more_typed n e ((behind n e, f) ∷ []) (first_typed n at k e f it) (more_typed (behind n e) f [] (second_typed n at k e f it) none_typed)

  step_typed : (n : ℕ) (t : TermTree) → IsNumbered nodes n t → IsTypedIn n t → (kid : ℕ × TermTree) → Contains (kids n t) kid → IsTypedIn kid.0 kid.1
  step_typed n t numbers it kid there = kids_typed t n it kid there

  -- the first part with this root
  pub record HasTypedFirst (r : ℕ) : Type 0 where
    pub first : ℕ
    pub tree : TermTree
    pub root : r ≡ first + before tree
    pub typed : IsTypedIn first tree

  first_of : (t : TermTree) (n k j l : ℕ) → IsNumbered nodes n t → IsTypedIn n t → form_at nodes (n + before t) ≡ Some (form.Let k j l) → HasTypedFirst j
  first_of (bound at x) n k j l numbers it e = absurd (let same : form.Bound x ≡ form.Let k j l = one_form nodes (n + before (bound at x)) (form.Bound x) (form.Let k j l) numbers e in cc)
  first_of (inner at q) n k j l numbers it e = absurd (let same : form.Inner q ≡ form.Let k j l = one_form nodes (n + before (inner at q)) (form.Inner q) (form.Let k j l) numbers e in cc)
  first_of (global at g) n k j l numbers it e = absurd (let same : form.Global g ≡ form.Let k j l = one_form nodes (n + before (global at g)) (form.Global g) (form.Let k j l) numbers e in cc)
  first_of (number at value) n k j l numbers it e = absurd (let same : form.Number value ≡ form.Let k j l = one_form nodes (n + before (number at value)) (form.Number value) (form.Let k j l) numbers e in cc)
  first_of (truth at value) n k j l numbers it e = absurd (let same : form.Truth value ≡ form.Let k j l = one_form nodes (n + before (truth at value)) (form.Truth value) (form.Let k j l) numbers e in cc)
  first_of (fun at x b) n k j l numbers it e = absurd (let same = one_form nodes (n + before (fun at x b)) _ (form.Let k j l) numbers.0 e in cc)
  first_of (fix at x b) n k j l numbers it e = absurd (let same = one_form nodes (n + before (fix at x b)) _ (form.Let k j l) numbers.0 e in cc)
  first_of (project at b label) n k j l numbers it e = absurd (let same = one_form nodes (n + before (project at b label)) _ (form.Let k j l) numbers.0 e in cc)
  first_of (apply at b c) n k j l numbers it e = absurd (let same = one_form nodes (n + before (apply at b c)) _ (form.Let k j l) numbers.0 e in cc)
  first_of (choice at b c d) n k j l numbers it e = absurd (let same = one_form nodes (n + before (choice at b c d)) _ (form.Let k j l) numbers.0 e in cc)
  first_of (make at fields) n k j l numbers it e = absurd (let same = one_form nodes (n + before (make at fields)) _ (form.Let k j l) numbers.0 e in cc)
  first_of (local at q b c) n k j l numbers it e =
      let same : form.Let q (n + before b) (behind n b + before c) ≡ form.Let k j l = one_form nodes (n + before (local at q b c)) (form.Let q (n + before b) (behind n b + before c)) (form.Let k j l) numbers.0 e in
      let part : n + before b ≡ j = cc in
      record { first = n; tree = b; root = sym part; typed = first_typed n at q b c it }

  module _ (count binders let_count : ℕ) (term : IsTerm count nodes binders let_count) (whole : IsTypedIn 0 term.tree) where
    -- each first part of a term that has a type has one
    pub typed_first : (i k j l : ℕ) → form_at nodes i ≡ Some (form.Let k j l) → HasTypedFirst j
    typed_first i k j l e =
        let many : length nodes ≡ suc (before term.tree) = ap length term.nodes_are ∙ length-postorder term.tree 0 in
        let it = node_with nodes IsTypedIn step_typed term.tree 0 (numbered_whole nodes term.tree term.nodes_are) whole i (omega arith) (omega (arith, many, form_low nodes i (form.Let k j l) e)) in
        first_of it.node.tree it.node.first k j l it.node.numbers it.holds (subst (λ m. form_at nodes m ≡ Some (form.Let k j l)) {y = it.node.first + before it.node.tree} it.node.root e)

    -- so its constraint does not clash
    module _ (i k r l : ℕ) (e : form_at nodes i ≡ Some (form.Let k r l)) (own : Scheme) (made : IsFirstMade nodes globals lets r own) where
      nothing_around : (scope : List ℕ) → AreAround made.posing made.binders.all scope []
      nothing_around scope = record { there = λ x s e. absurd (cc); around = λ x s e. absurd (cc); own = λ x s e. absurd (cc) }

      pub first_free : HasNoClash made.posing.automaton (IsRelated made.posing.automaton (IsGoal made.posing.goals))
      first_free =
          let at : HasTypedFirst r = typed_first i k r l e in
          let it : IsTypedIn at.first at.tree = at.typed in
          part_no_clash nodes globals lets made.binders.all made.part.nodes made.posing made.posed r (made.is_part.all r (at_top refl)) it.scope [] (nothing_around it.scope)
          known over it.here at.first at.tree (sym at.root) it.placed it.known_here (allow at.first at.tree it)
          (λ m there. subst (λ z. IsNodeOf nodes z m) at.root (made.is_part.only m there).1) it.types it.type it.typed

      -- and the part is ready
      pub first_ready : HasRisingTree nodes → HasScopes let_scope [] term.tree → AreFirstsMade nodes globals lets let_scope (length nodes)
          → (pairs : List StatePair) → AreMet (solved_scheme made.solved (root_in made.posing r) (around_states made.posing made.binders.around)) own pairs
          → IsPartReady nodes globals lets r made.part.nodes made.binders made.posing own pairs
      first_ready rising scopes all pairs met =
          let at : IsFirstAround nodes let_scope count k r = first_around nodes let_scope count binders let_count term rising scopes i k r l e in
          let general : ℕ → Scheme = λ z. solved_scheme made.solved (root_in made.posing z) (around_states made.posing made.binders.around) in
          let has : (x : ℕ) → Contains made.binders.around x → IsSome (state_of own.env x) = λ x there. made.all x (ap is_some (state_there made.posing made.binders.around x there)) in
          subst (λ z. IsPartReady nodes globals lets z made.part.nodes made.binders made.posing own pairs) (sym at.root)
          (part_ready nodes globals lets let_scope count all.needs made.part made.binders made.are_binders at.first at.tree at.numbers (subst (λ z. IsTermPart nodes z made.part) at.root made.is_part) at.around made.posing made.posed
          made.solved made.is_solved made.closed first_free own made.is made.single has (subst (λ z. DoesSubsume (general z) own) at.root made.subsumed) pairs (subst (λ z. AreMet (general z) own pairs) at.root met) (tree_nodes nodes term.tree term.nodes_are))
