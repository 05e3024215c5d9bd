-- What is around each tree of a term: its names are in scope there, and binders rise inwards.
--     IsAround                  a tree of a term, whose first node has this number
--     node_around               each node is the root of such a tree
--     first_around              the first part of a let has the binders around the let
--     around_rises              where binders rise inwards, they rise in such a tree
--     around_placed             and it has its place
use Rattle.std.proofs.Common.{◌≡◌, inl, inr, ℕ, suc, ◌+◌, ◌<◌, arith, List, [], ◌∷◌, ◌++◌, length, refl, sym, ap, ◌∙◌, subst, Contains, All, Some}
use Rattle.std.proofs.lemmas.List.Elements.{All-contains, Contains-append_left, Contains-append_right, Contains-push, Contains-push_cases}
use Rattle.mls_term.specs.declared.term.TermNode.{TermNode}
use Rattle.mls_term.specs.declared.term.TermForm.{TermForm}
use Rattle.mls_term.specs.declared.term.TermForm.TheVariants as form
use Rattle.mls_term.specs.Terms.{TermTree, TermFields, bound, inner, global, number, truth, fun, apply, make, project, choice, local, fix, no_field, a_field, before}
use Rattle.mls_term.specs.WellFormed.{binders_of, field_binders_of, IsScoped, AreScoped, IsTerm, HasRisingBinders, HaveRisingBinders, HasRisingTree, field_parts}
use Rattle.mls_typing.proofs.Lists.{Contains-here, Contains-later, Contains-cases, nothing_in}
use Rattle.mls_typing.proofs.PartNodes.{length-postorder}
use Rattle.mls_deriv.specs.Steps.{form_at}
use Rattle.mls_layout.specs.PosedNodes.{IsNamed, IsRising}
use Rattle.mls_parts.specs.NumberedNodes.{behind, IsNumbered, IsPlaced}
use Rattle.mls_parts.proofs.NumberedNodes.{numbered_whole}
use Rattle.mls_parts.proofs.TreeNodes.{kids, HasNodeWith, node_with, form_low, one_form}
use Rattle.mls_allowed.specs.LetScopes.{HasScopes, HaveScopes}
use Rattle.mls_allowed.proofs.RisingParts.{Around, AreAbove, rises, nothing_around}
use Rattle.mls_allowed.proofs.DistinctLists.{AreDistinct, distinct_left, distinct_right, distinct_rest}

module _ (nodes : List TermNode) (let_scope : ℕ → List ℕ) (globals : ℕ) where
  -- The binders around a tree, from the outermost on, and as its scoping has them, with the lets around it.
  pub record IsAround (n : ℕ) (t : TermTree) : Type 0 where
    pub scope : List ℕ
    pub binders : List ℕ
    pub lets : List ℕ
    pub scoped : IsScoped binders lets globals t
    pub scopes : HasScopes let_scope scope t
    pub around : Around let_scope globals binders lets scope
    pub back : (x : ℕ) → Contains scope x → Contains binders x
    pub rising : HasRisingBinders t
    pub above : AreAbove let_scope globals scope (binders_of t)
    pub once : AreDistinct (binders_of t)

  -- what is around the fields of a record
  record AreAround (fields : TermFields) : Type 0 where
    pub scope : List ℕ
    pub binders : List ℕ
    pub lets : List ℕ
    pub scoped : AreScoped binders lets globals fields
    pub scopes : HaveScopes let_scope scope fields
    pub around : Around let_scope globals binders lets scope
    pub back : (x : ℕ) → Contains scope x → Contains binders x
    pub rising : HaveRisingBinders fields
    pub above : AreAbove let_scope globals scope (field_binders_of fields)
    pub once : AreDistinct (field_binders_of fields)

  above_left : (scope xs ys : List ℕ) → AreAbove let_scope globals scope (xs ++ ys) → AreAbove let_scope globals scope xs
  above_left scope xs ys above y x there inside = above y x there (Contains-append_left xs ys x inside)

  above_right : (scope xs ys : List ℕ) → AreAbove let_scope globals scope (xs ++ ys) → AreAbove let_scope globals scope ys
  above_right scope xs ys above y x there inside = above y x there (Contains-append_right xs ys x inside)

  -- the body of a binder
  module _ (n x m : ℕ) (e : TermTree) (scope binders lets : List ℕ) (around : Around let_scope globals binders lets scope) (back : (y : ℕ) → Contains scope y → Contains binders y)
      (scoped : IsScoped (x ∷ binders) lets globals e) (scopes : HasScopes let_scope (scope ++ x ∷ []) e) (higher : All (λ y. x < y) (binders_of e)) (rising : HasRisingBinders e)
      (above : AreAbove let_scope globals scope (x ∷ binders_of e)) (once : AreDistinct (x ∷ binders_of e)) where
    body_around : IsAround m e
    body_around = record {
      scope = scope ++ x ∷ [];
      binders = x ∷ binders;
      lets = lets;
      scoped = scoped;
      scopes = scopes;
      around = record {
        binder = λ y there. elim (Contains-cases x binders y there) [
          | inl same ↦ subst (Contains (scope ++ x ∷ [])) same (Contains-push scope x)
          | inr later ↦ Contains-append_left scope (x ∷ []) y (around.binder y later)
        ];
        named = λ k there y at. Contains-append_left scope (x ∷ []) y (around.named k there y at);
      };
      back = λ y there. elim (Contains-push_cases scope x y there) [
        | inl outer ↦ Contains-later x binders y (back y outer)
        | inr same ↦ subst (Contains (x ∷ binders)) same (Contains-here x binders)
      ];
      rising = rising;
      above = λ y z there at. elim (Contains-push_cases scope x y there) [
        | inl outer ↦ above y z outer (Contains-later x (binders_of e) z at)
        | inr same ↦ subst (λ w. w < z) same (All-contains (λ w. x < w) (binders_of e) z higher at)
      ];
      once = distinct_rest x (binders_of e) once;
    }

  AllAround : List (ℕ × TermTree) → Type 0
  AllAround ks = (kid : ℕ × TermTree) → Contains ks kid → IsAround kid.0 kid.1

  none_around : AllAround []
  unfolding AllAround
  none_around kid there = absurd (nothing_in kid there)

  more_around : (n : ℕ) (t : TermTree) (rest : List (ℕ × TermTree)) → IsAround n t → AllAround rest → AllAround ((n, t) ∷ rest)
  unfolding AllAround
  more_around n t rest it all kid there = elim (Contains-cases (n, t) rest kid there) [
    | inl same ↦ (let P : ℕ × TermTree → Type 0 = λ k. IsAround k.0 k.1 in subst P same it)
    | inr later ↦ all kid later
  ]

  fields_around : (fields : TermFields) (n : ℕ) → AreAround fields → AllAround (field_parts n fields)
  fields_around no_field n it = none_around
  fields_around (a_field label e rest) n it =
      more_around n e (field_parts (n + suc (before e)) rest)
      (record {
        scope = it.scope;
        binders = it.binders;
        lets = it.lets;
        scoped = it.scoped.0;
        scopes = it.scopes.0;
        around = it.around;
        back = it.back;
        rising = it.rising.0;
        above = above_left it.scope (binders_of e) (field_binders_of rest) it.above;
        once = distinct_left (binders_of e) (field_binders_of rest) it.once;
      })
      (fields_around rest (n + suc (before e))
      (record {
        scope = it.scope;
        binders = it.binders;
        lets = it.lets;
        scoped = it.scoped.1;
        scopes = it.scopes.1;
        around = it.around;
        back = it.back;
        rising = it.rising.1;
        above = above_right it.scope (binders_of e) (field_binders_of rest) it.above;
        once = distinct_right (binders_of e) (field_binders_of rest) it.once;
      }))

  -- a child under the same binders
  module _ (n m : ℕ) (t u : TermTree) (it : IsAround n t) where
    child_around : (lets : List ℕ) → IsScoped it.binders lets globals u → HasScopes let_scope it.scope u → Around let_scope globals it.binders lets it.scope → HasRisingBinders u → AreAbove let_scope globals it.scope (binders_of u) → AreDistinct (binders_of u) → IsAround m u
    child_around lets scoped scopes around rising above once = record {
      scope = it.scope;
      binders = it.binders;
      lets = lets;
      scoped = scoped;
      scopes = scopes;
      around = around;
      back = it.back;
      rising = rising;
      above = above;
      once = once;
    }

  -- the two parts of a let
  pub let_first : (n at k : ℕ) (e f : TermTree) → IsAround n (local at k e f) → IsAround n e
  let_first n at k e f it =
      child_around n n (local at k e f) e it it.lets it.scoped.0 it.scopes.1 it.around it.rising.0 (above_left it.scope (binders_of e) (binders_of f) it.above)
      (distinct_left (binders_of e) (binders_of f) it.once)

  let_second : (n m at k : ℕ) (e f : TermTree) → IsAround n (local at k e f) → IsAround m f
  let_second n m at k e f it =
      let own : IsNamed let_scope it.scope k = λ x there. subst (λ (ys : List ℕ). Contains ys x) it.scopes.0 there in
      child_around n m (local at k e f) f it (k ∷ it.lets) it.scoped.1 it.scopes.2
      (record {
        binder = it.around.binder;
        named = λ j there. elim (Contains-cases k it.lets j there) [
          | inl same ↦ subst (IsNamed let_scope it.scope) same own
          | inr later ↦ it.around.named j later
        ];
      })
      it.rising.1 (above_right it.scope (binders_of e) (binders_of f) it.above) (distinct_right (binders_of e) (binders_of f) it.once)

  kids_around : (t : TermTree) (n : ℕ) → IsAround n t → AllAround (kids n t)
  kids_around (bound at x) n it = none_around
  kids_around (inner at k) n it = none_around
  kids_around (global at g) n it = none_around
  kids_around (number at value) n it = none_around
  kids_around (truth at value) n it = none_around
  kids_around (fun at x e) n it =
      more_around n e [] (body_around n x n e it.scope it.binders it.lets it.around it.back it.scoped it.scopes it.rising.0 it.rising.1 it.above it.once) none_around
  kids_around (fix at x e) n it =
      more_around n e [] (body_around n x n e it.scope it.binders it.lets it.around it.back it.scoped it.scopes it.rising.0 it.rising.1 it.above it.once) none_around
  kids_around (project at e label) n it =
      more_around n e [] (child_around n n (project at e label) e it it.lets it.scoped it.scopes it.around it.rising it.above it.once) none_around
  kids_around (apply at e f) n it =
      more_around n e ((behind n e, f) ∷ [])
      (child_around n n (apply at e f) e it it.lets it.scoped.0 it.scopes.0 it.around it.rising.0 (above_left it.scope (binders_of e) (binders_of f) it.above) (distinct_left (binders_of e) (binders_of f) it.once))
      (more_around (behind n e) f []
      (child_around n (behind n e) (apply at e f) f it it.lets it.scoped.1 it.scopes.1 it.around it.rising.1 (above_right it.scope (binders_of e) (binders_of f) it.above) (distinct_right (binders_of e) (binders_of f) it.once))
      none_around)
  kids_around (choice at c e f) n it =
      let above : AreAbove let_scope globals it.scope (binders_of c ++ binders_of e) = above_left it.scope (binders_of c ++ binders_of e) (binders_of f) it.above in
      let once : AreDistinct (binders_of c ++ binders_of e) = distinct_left (binders_of c ++ binders_of e) (binders_of f) it.once in
      more_around n c ((behind n c, e) ∷ (behind (behind n c) e, f) ∷ [])
      (child_around n n (choice at c e f) c it it.lets it.scoped.0 it.scopes.0 it.around it.rising.0 (above_left it.scope (binders_of c) (binders_of e) above) (distinct_left (binders_of c) (binders_of e) once))
      (more_around (behind n c) e ((behind (behind n c) e, f) ∷ [])
      (child_around n (behind n c) (choice at c e f) e it it.lets it.scoped.1 it.scopes.1 it.around it.rising.1 (above_right it.scope (binders_of c) (binders_of e) above) (distinct_right (binders_of c) (binders_of e) once))
      (more_around (behind (behind n c) e) f []
      (child_around n (behind (behind n c) e) (choice at c e f) f it it.lets it.scoped.2 it.scopes.2 it.around it.rising.2 (above_right it.scope (binders_of c ++ binders_of e) (binders_of f) it.above)
      (distinct_right (binders_of c ++ binders_of e) (binders_of f) it.once))
      none_around))
  kids_around (make at fields) n it = fields_around fields n (record {
    scope = it.scope;
    binders = it.binders;
    lets = it.lets;
    scoped = it.scoped.1;
    scopes = it.scopes;
    around = it.around;
    back = it.back;
    rising = it.rising;
    above = it.above;
    once = it.once;
  })
  kids_around (local at k e f) n it = more_around n e ((behind n e, f) ∷ []) (let_first n at k e f it) (more_around (behind n e) f [] (let_second n (behind n e) at k e f it) none_around)

  pub step_around : (n : ℕ) (t : TermTree) → IsNumbered nodes n t → IsAround n t → (kid : ℕ × TermTree) → Contains (kids n t) kid → IsAround kid.0 kid.1
  unfolding AllAround
  step_around n t numbers it = kids_around t n it

  -- binders rise in the tree, and it has its place
  pub around_rises : (n : ℕ) (t : TermTree) (it : IsAround n t) → IsRising let_scope it.scope t
  around_rises n t it = rises let_scope globals t it.binders it.lets it.scope it.scoped it.rising it.scopes it.around it.above

  pub around_placed : (n : ℕ) (t : TermTree) → IsNumbered nodes n t → (it : IsAround n t) → IsPlaced nodes it.binders n t
  around_placed n t numbers it = record {
    numbers = numbers;
    lets = it.lets;
    globals = globals;
    scoped = it.scoped;
    once = it.once;
    apart = λ x there inside. let low : x < x = it.above x x (it.around.binder x there) inside in absurd (omega arith);
  }

  -- the tree of the first part of a let
  pub record IsFirstAround (k r : ℕ) : Type 0 where
    pub first : ℕ
    pub tree : TermTree
    pub root : r ≡ first + before tree
    pub numbers : IsNumbered nodes first tree
    pub around : IsAround first tree
    pub scope : let_scope k ≡ around.scope

  first_of : (t : TermTree) (n k j l : ℕ) → IsNumbered nodes n t → IsAround n t → form_at nodes (n + before t) ≡ Some (form.Let k j l) → IsFirstAround k j
  unfolding let_first child_around
  first_of (bound at x) n k j l numbers it e = absurd (let same : form.Bound x ≡ form.Let k j l = one_form nodes (n + before (bound at x)) (form.Bound x) (form.Let k j l) numbers e in cc)
  first_of (inner at q) n k j l numbers it e = absurd (let same : form.Inner q ≡ form.Let k j l = one_form nodes (n + before (inner at q)) (form.Inner q) (form.Let k j l) numbers e in cc)
  first_of (global at g) n k j l numbers it e = absurd (let same : form.Global g ≡ form.Let k j l = one_form nodes (n + before (global at g)) (form.Global g) (form.Let k j l) numbers e in cc)
  first_of (number at value) n k j l numbers it e = absurd (let same : form.Number value ≡ form.Let k j l = one_form nodes (n + before (number at value)) (form.Number value) (form.Let k j l) numbers e in cc)
  first_of (truth at value) n k j l numbers it e = absurd (let same : form.Truth value ≡ form.Let k j l = one_form nodes (n + before (truth at value)) (form.Truth value) (form.Let k j l) numbers e in cc)
  first_of (fun at x b) n k j l numbers it e = absurd (let same : form.Fun x (n + before b) ≡ form.Let k j l = one_form nodes (n + before (fun at x b)) (form.Fun x (n + before b)) (form.Let k j l) numbers.0 e in cc)
  first_of (fix at x b) n k j l numbers it e = absurd (let same : form.Rec x (n + before b) ≡ form.Let k j l = one_form nodes (n + before (fix at x b)) (form.Rec x (n + before b)) (form.Let k j l) numbers.0 e in cc)
  first_of (project at b label) n k j l numbers it e = absurd (let same : form.Project (n + before b) label ≡ form.Let k j l = one_form nodes (n + before (project at b label)) (form.Project (n + before b) label) (form.Let k j l) numbers.0 e in cc)
  first_of (apply at b c) n k j l numbers it e =
      absurd (let same : form.Apply (n + before b) (behind n b + before c) ≡ form.Let k j l = one_form nodes (n + before (apply at b c)) (form.Apply (n + before b) (behind n b + before c)) (form.Let k j l) numbers.0 e in cc)
  first_of (choice at b c d) n k j l numbers it e =
      absurd (let same : form.If (n + before b) (behind n b + before c) (behind (behind n b) c + before d) ≡ form.Let k j l = one_form nodes (n + before (choice at b c d)) (form.If (n + before b) (behind n b + before c) (behind (behind n b) c + before d)) (form.Let k j l) numbers.0 e in cc)
  first_of (make at fields) n k j l numbers it e = absurd (let same = one_form nodes (n + before (make at fields)) _ (form.Let k j l) numbers.0 e in cc)
  first_of (local at q b c) n k j l numbers it e =
      let same : form.Let q (n + before b) (behind n b + before c) ≡ form.Let k j l = one_form nodes (n + before (local at q b c)) (form.Let q (n + before b) (behind n b + before c)) (form.Let k j l) numbers.0 e in
      let number : q ≡ k = cc in
      let part : n + before b ≡ j = cc in
      record {
        first = n;
        tree = b;
        root = sym part;
        numbers = numbers.1;
        around = let_first n at q b c it;
        scope = ap let_scope (sym number) ∙ it.scopes.0;
      }

  module _ (binders lets : ℕ) (term : IsTerm globals nodes binders lets) (rising : HasRisingTree nodes) (scopes : HasScopes let_scope [] term.tree) where
    pub whole_around : IsAround 0 term.tree
    whole_around = record {
      scope = [];
      binders = [];
      lets = [];
      scoped = term.scoped;
      scopes = scopes;
      around = nothing_around let_scope globals;
      back = λ x there. there;
      rising = rising term.tree term.nodes_are;
      above = λ y x there. absurd (nothing_in y there);
      once = term.binder_numbers.distinct;
    }

    -- no binder is around it
    pub whole_scope : whole_around.scope ≡ []
    unfolding whole_around
    whole_scope = refl

    -- each node is the root of a tree with what is around it
    pub node_around : (i : ℕ) (f : TermForm) → form_at nodes i ≡ Some f → HasNodeWith nodes IsAround step_around 0 i
    node_around i f e =
        let many : length nodes ≡ suc (before term.tree) = ap length term.nodes_are ∙ length-postorder term.tree 0 in
        node_with nodes IsAround step_around term.tree 0 (numbered_whole nodes term.tree term.nodes_are) whole_around i (omega arith) (omega (arith, many, form_low nodes i f e))

    pub first_around : (i k j l : ℕ) → form_at nodes i ≡ Some (form.Let k j l) → IsFirstAround k j
    first_around i k j l e =
        let it = node_around i (form.Let k j l) e in
        first_of it.node.tree it.node.first k j l it.node.numbers it.holds (subst (λ m. form_at nodes m ≡ Some (form.Let k j l)) it.node.root e)
