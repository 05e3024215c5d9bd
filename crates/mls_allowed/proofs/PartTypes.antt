-- The constraint of a part has the types of the part.
--     part_is_scheme      it is a scheme
--     part_model          for each type of the part it has a model
--     part_no_clash       so where the part has a type, its goals do not clash
--     part_allows_all     and the solved constraint allows all types of the part
use Rattle.std.proofs.Common.{◌≡◌, ◌⊎◌, inl, inr, ℕ, ◌+◌, List, Contains, refl, sym, ap, ◌∙◌, subst, Some}
use Rattle.std.specs.Prelude.{Option, None, option_map}
use Rattle.std.specs.BTreeMap.{BTreeMap, get}
use Rattle.std.specs.FinMap as finmap
use Rattle.std.specs.Ordering.{nat_cmp}
use Rattle.mls_book.specs.Predicates.{Predicate, Implies}
use Rattle.mls_book.specs.Passes.{passes}
use Rattle.mls_book.specs.Schemes as book
use Rattle.mls_book.specs.Schemes.{binder_passes}
use Rattle.mls_book.proofs.Depths.{Implies-trans, Implies-same}
use Rattle.mls_automaton.specs.declared.automaton.Polarity.TheVariants.{Negative}
use Rattle.mls_automaton.specs.declared.scheme.EnvEntry.{EnvEntry}
use Rattle.mls_automaton.specs.declared.scheme.Scheme.{Scheme}
use Rattle.mls_automaton.specs.Automata.{Automaton, IsState}
use Rattle.mls_automaton.specs.Models.{IsClosed}
use Rattle.mls_automaton.specs.Schemes.{state_of, IsScheme, IsSchemeOf}
use Rattle.mls_automaton.proofs.Instances.{HasModel, AreGoals}
use Rattle.mls_solver.specs.Clashes.{HasNoClash}
use Rattle.mls_solver.specs.Relations.{IsGoal, IsRelated}
use Rattle.mls_solver.specs.Solved.{IsSolved}
use Rattle.mls_term.specs.declared.term.TermNode.{TermNode}
use Rattle.mls_term.specs.Terms.{TermTree, before}
use Rattle.mls_term.specs.Derivations.{Known}
use Rattle.mls_term.specs.WellFormed.{binders_of}
use Rattle.mls_typing.specs.Typed.{Types, IsType, IsTyped, needs_of, type_of}
use Rattle.mls_typing.proofs.Instances.{IsTyped-derived}
use Rattle.mls_biunify.proofs.Membership.{decide_contains}
use Rattle.mls_parts.specs.declared.pose.Posing.{Posing}
use Rattle.mls_parts.specs.NodeTypes.{AllowsAll, HasNodeTypes, IsKnownHere, IsNodeOf, LetsAllow, NeedsOnly}
use Rattle.mls_parts.specs.NumberedNodes.{IsPlaced}
use Rattle.mls_allowed.specs.PartTypes.{AreAround, part_scheme, solved_part}
use Rattle.mls_parts.specs.PosedModels as posed
use Rattle.mls_parts.specs.PosedModels.{AreOver}
use Rattle.mls_parts.specs.PosedParts.{IsPartPosed}
use Rattle.mls_parts.specs.Posings.{binder_in, root_in}
use Rattle.mls_parts.proofs.HeldTypes.{top_type}
use Rattle.mls_allowed.proofs.ModelledConstraints.{model_no_clash, models_allow_all}
use Rattle.mls_allowed.proofs.NodeTypes.{nodes_have_types}
use Rattle.mls_parts.proofs.TypedModels.{has_model}

module _ (nodes : List TermNode) (globals lets : BTreeMap ℕ Scheme) (binders part : List ℕ) (p : Posing) (is : IsPartPosed nodes globals lets binders part p) (top : ℕ) (there : Contains part top)
    (scope : List ℕ) (env : List EnvEntry) (around : AreAround p binders scope env) where
  abbrev scheme : Scheme
  scheme = part_scheme p top env

  pub part_is_scheme : IsScheme scheme
  part_is_scheme = record {
    automaton = is.closed;
    root = is.roots top there;
    env = λ x s e. subst (IsState p.automaton Negative) (sym (around.own x s e)) (is.around x (around.there x s e));
  }

  pub are_goals : AreGoals p.automaton (IsGoal p.goals)
  are_goals q n goal = is.goals (record { positive = record { 0 = q }; negative = record { 0 = n } }) goal

  module _ (known : Known) (over_known : AreOver known globals lets) (here : Known) (n : ℕ) (t : TermTree) (root : n + before t ≡ top) (placed : IsPlaced nodes scope n t) (known_here : IsKnownHere known scope here)
      (allow : LetsAllow known scope here t) (inside : (i : ℕ) → Contains part i → IsNodeOf nodes (n + before t) i) where
    -- the types of the scheme that is derived, and so all above them
    module _ (types : Types) (f : Predicate) (typed : IsTyped here types t f) where
      abbrev needs : Types
      needs = needs_of typed.scheme

      found : HasNodeTypes nodes known needs n t (type_of typed.scheme)
      found = nodes_have_types nodes known scope here n t placed known_here allow needs (type_of typed.scheme) (IsTyped-derived here t typed.scheme typed.is typed.derives)

      -- what the scheme needs of a binder is a type
      need_type : (x : ℕ) → IsType (needs x)
      need_type x = go (finmap.get typed.scheme.env x) refl
        where
          go : (o : Option ℕ) → finmap.get typed.scheme.env x ≡ o → IsType (binder_passes (passes typed.scheme.book) o)
          go None e = top_type
          go (Some i) e = (typed.scheme.book, typed.is.book, (i, typed.is.env x i e, refl))

      -- the types of the binders of the constraint, inside the part and around it
      binder_type : (x : ℕ) → IsType (found.binder x)
      binder_type x = go (decide_contains x (binders_of t))
        where
          go : Contains (binders_of t) x ⊎ (Contains (binders_of t) x → ⊥) → IsType (found.binder x)
          go (inl bound) = found.binders_are x bound
          go (inr free) = subst IsType (sym (found.around x free)) (need_type x)

      model : posed.HasModel p found.type found.binder
      model = is.models known over_known found.type found.binder found.types_are (λ x at. binder_type x) (λ i f at e. found.each i f (inside i at) e)

      root_below : Implies (model.value (root_in p top)) f
      root_below =
          let same : model.value (root_in p top) ≡ found.type (n + before t) = model.roots top (root_in p top) (is.rooted top there) ∙ ap found.type (sym root) in
          Implies-trans (model.value (root_in p top)) (found.type (n + before t)) f
          (Implies-same (model.value (root_in p top)) (found.type (n + before t)) same)
          (Implies-trans (found.type (n + before t)) (type_of typed.scheme) f found.root typed.root)

      binder_above : (x : ℕ) (o : Option ℕ) → state_of env x ≡ o → Implies (types x) (binder_passes model.value o)
      binder_above x None e = λ q passes. refl
      binder_above x (Some s) e =
          let at : get nat_cmp p.binders x ≡ Some (binder_in p x) = is.bound x (around.there x s e) in
          let free : Contains (binders_of t) x → ⊥ = placed.apart x (around.around x s e) in
          let same : needs x ≡ model.value s = sym (ap model.value (around.own x s e) ∙ (model.binders x (binder_in p x) at ∙ found.around x free)) in
          Implies-trans (types x) (needs x) (model.value s) (typed.env x) (Implies-same (needs x) (model.value s) same)

      pub part_model : HasModel scheme (IsGoal p.goals) f types
      part_model =
          has_model scheme (IsGoal p.goals) f types model.value (λ m state. model.types_are m) model.model
          (λ q m goal. model.goals (record { positive = record { 0 = q }; negative = record { 0 = m } }) goal)
          root_below (λ x. binder_above x (state_of env x) refl)

      -- where the part has a type, its goals do not clash
      pub part_no_clash : HasNoClash p.automaton (IsRelated p.automaton (IsGoal p.goals))
      part_no_clash = model_no_clash scheme (IsGoal p.goals) part_is_scheme are_goals types f part_model

    -- the solved constraint allows all types of the part
    pub part_allows_all : (solved : Automaton) → IsSolved p.automaton (IsRelated p.automaton (IsGoal p.goals)) solved → IsClosed solved
        → (b : book.Scheme) → IsSchemeOf (solved_part p top env solved) b → AllowsAll scope here t b
    part_allows_all solved is_solved closed b is_book =
        models_allow_all scheme (IsGoal p.goals) part_is_scheme are_goals solved is_solved closed b is_book scope here t needs_only (λ types f typed. part_model types f typed)
      where
        needs_only : NeedsOnly scope b
        needs_only x i e = go (state_of env x) refl (sym (is_book.env x) ∙ e)
          where
            go : (o : Option ℕ) → state_of env x ≡ o → option_map is_book.place o ≡ Some i → Contains scope x
            go None at wrong = absurd (cc)
            go (Some s) at some = around.around x s at
