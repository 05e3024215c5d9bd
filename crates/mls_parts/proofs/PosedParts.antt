-- The nodes of a part are posed one after another.
--     can_pose            each may be posed
--     pose_none, pose_either
use Rattle.std.proofs.Common.{◌≡◌, ◌≢◌, ◌⊎◌, inl, inr, ℕ, zero, suc, ◌<◌, Bool, true, false, List, [], ◌∷◌, ◌++◌, length, take, get_or, Contains, refl, sym, ap, ◌∙◌, subst, arith, Option, Some, None, IsSome}
use Rattle.std.specs.Prelude.{cond, option_map}
use Rattle.std.specs.List.{AllPairs}
use Rattle.std.proofs.lemmas.List.{get_or_default}
use Rattle.std.proofs.lemmas.Option.{slice_get-get_or}
use Rattle.std.specs.BTreeMap.{BTreeMap, get, Updates}
use Rattle.std.specs.Ordering.{nat_cmp, is_eq}
use Rattle.std.proofs.lemmas.List.Elements.{Contains-append_left, Contains-push, Contains-push_cases}
use Rattle.mls_automaton.specs.declared.automaton.Polarity.TheVariants.{Negative}
use Rattle.mls_automaton.specs.declared.scheme.Scheme.{Scheme}
use Rattle.mls_automaton.specs.Automata.{IsState}
use Rattle.mls_solver.specs.Relations.{IsGoal}
use Rattle.mls_term.specs.declared.term.TermForm.{TermForm}
use Rattle.mls_term.specs.declared.term.TermForm.TheVariants as form
use Rattle.mls_term.specs.declared.term.TermNode.{TermNode}
use Rattle.mls_book.specs.Predicates.{Predicate}
use Rattle.mls_term.specs.Derivations.{Known}
use Rattle.mls_typing.specs.Typed.{IsType}
use Rattle.mls_typing.proofs.Contexts.{same_key}
use Rattle.mls_deriv.specs.Steps.{form_at}
use Rattle.mls_parts.specs.declared.pose.Posing.{Posing}
use Rattle.mls_parts.specs.PosedCopies.{Extends, HasBinder, HasBinderOf, IsGood, IsNew, IsUsePosed}
use Rattle.mls_layout.specs.PosedNodes.{HasPartsIn, IsNodePosed}
use Rattle.mls_parts.specs.PosedParts.{HasKnownType, HavePosed, IsBegun, IsPosable}
use Rattle.mls_parts.specs.PosedGoals.{constraint_of, IsPosedAt}
use Rattle.mls_parts.specs.PosedModels.{AreOver, HasModel}
use Rattle.mls_parts.specs.NodeTypes.{IsConditional, IsNodeTyped}
use Rattle.mls_parts.specs.Posings.{Adds, AddsNode, CanPose, HasKnown, NoEdge, binder_in, copy_in, known_in, or_zero, root_in}
use Rattle.mls_parts.specs.declared.shared.Shared.{Shared}
use Rattle.mls_parts.specs.steps.Sharing.{AreShared, HasNoEdges, PosesNext, first_use, shared_added}
use Rattle.mls_parts.proofs.BegunPosings.{begun_good}
use Rattle.mls_parts.proofs.GoodPosings.{node_good, shared_good}
use Rattle.mls_parts.proofs.PartLists.{parts_more}
use Rattle.mls_parts.proofs.PosedByNode.{IsChoiceForm, adds_extends, name_posed_at, node_extends, node_noted, node_posed, node_posed_at, node_root, noted_again, root_is, used_again, named}
use Rattle.mls_parts.proofs.PosedKept.{extends_all, extends_self, posed_at_kept, posed_kept}
use Rattle.mls_parts.proofs.PosedKept.{kept_root as root_stays}
use Rattle.mls_parts.proofs.PosedModels.{node_model, shared_model}

some_is : {X : Type 0} {x y : X} → Some x ≡ Some y → x ≡ y
some_is e = cc

-- a node may be posed behind others
module _ (binders : List ℕ) (globals lets : BTreeMap ℕ Scheme) (begun p : Posing) (it : IsBegun binders begun) (extends : Extends begun p) (good : IsGood p) where
  pub binder_there : (x : ℕ) → Contains binders x → HasBinder p x
  binder_there x there = subst (λ bs. IsSome (get nat_cmp bs x)) (sym extends.binders) (it.there x there)

  pub binder_state : (x : ℕ) → Contains binders x → IsState p.automaton Negative (binder_in p x)
  binder_state x there = go (get nat_cmp p.binders x) refl (binder_there x there)
    where
      go : (o : Option ℕ) → get nat_cmp p.binders x ≡ o → IsSome o → IsState p.automaton Negative (binder_in p x)
      go None e wrong = absurd (cc)
      go (Some s) e some = subst (IsState p.automaton Negative) (sym (ap or_zero e)) (good.binders x s e)

  known_type : (o : Option Scheme) → HasKnownType binders o → HasKnown p o
  known_type None has = absurd has
  known_type (Some s) has = record {
    closed = has.closed;
    root = has.root;
    states = has.states;
    around = λ entry there. binder_state entry.binder (has.around entry there);
    there = λ entry there. binder_there entry.binder (has.around entry there);
    found = has.found;
  }

  pub can_pose : (f : TermForm) → IsPosable binders globals lets f → CanPose globals lets p f
  can_pose (form.Bound x) can = binder_state x can
  can_pose (form.Inner k) can = known_type (known_in lets k) can
  can_pose (form.Global g) can = known_type (known_in globals g) can
  can_pose (form.Number value) can = tt
  can_pose (form.Truth value) can = tt
  can_pose (form.Fun x j) can = tt
  can_pose (form.Apply j k) can = tt
  can_pose (form.Make parts) can = can
  can_pose (form.Project j label) can = tt
  can_pose (form.If j k l) can = tt
  can_pose (form.Let k j l) can = known_type (known_in lets k) can
  can_pose (form.Rec x j) can = tt

  pub has_binder : (f : TermForm) → IsPosable binders globals lets f → HasBinderOf p f
  has_binder (form.Bound x) can = binder_there x can
  has_binder (form.Inner k) can = tt
  has_binder (form.Global g) can = tt
  has_binder (form.Number value) can = tt
  has_binder (form.Truth value) can = tt
  has_binder (form.Fun x j) can = binder_there x can
  has_binder (form.Apply j k) can = tt
  has_binder (form.Make parts) can = tt
  has_binder (form.Project j label) can = tt
  has_binder (form.If j k l) can = tt
  has_binder (form.Let k j l) can = tt
  has_binder (form.Rec x j) can = binder_there x can

module _ (nodes : List TermNode) (globals lets : BTreeMap ℕ Scheme) (begun : Posing) where
  abbrev no_nodes : List ℕ
  no_nodes = []

  pub pose_none : (binders : List ℕ) → IsBegun binders begun → HavePosed nodes globals lets begun begun no_nodes
  pose_none binders it = record {
    extends = extends_self begun;
    good = begun_good binders begun it;
    rooted = λ i there. let low : there.0 < 0 = there.1 in absurd (omega arith);
    only = λ i some. let none : get nat_cmp begun.roots i ≡ None = it.no_root i in absurd (cc);
    parts = λ i f there. let low : there.0 < 0 = there.1 in absurd (omega arith);
    results = λ i n e. let none : get nat_cmp begun.results i ≡ None = it.no_result i in absurd (cc);
    posed = λ i f there. let low : there.0 < 0 = there.1 in absurd (omega arith);
    posed_at = λ i f there. let low : there.0 < 0 = there.1 in absurd (omega arith);
    models = λ known over type binder types typed m. m;
  }

  -- one node more, however it was posed
  module _ (p q : Posing) (done : List ℕ) (i : ℕ) (f : TermForm) (it : HavePosed nodes globals lets begun p done) (form_is : form_at nodes i ≡ Some f) (behind : HasPartsIn (Contains done) f)
      (more : Extends p q) (root : ℕ) (updated : Updates nat_cmp p.roots q.roots i (Some root)) (noted : (k n : ℕ) → get nat_cmp q.results k ≡ Some n → (get nat_cmp p.results k ≡ Some n) ⊎ ((k ≡ i) × IsChoiceForm f)) (good : IsGood q)
      (own : IsNodePosed q.automaton (IsGoal q.goals) (root_in q) (binder_in q) (IsUsePosed (known_in globals) (known_in lets) q) i f)
      (own_at : IsPosedAt (constraint_of q) q f i) where
    abbrev Posed : Posing → ℕ → TermForm → Type 0
    Posed r j g = IsNodePosed r.automaton (IsGoal r.goals) (root_in r) (binder_in r) (IsUsePosed (known_in globals) (known_in lets) r) j g

    kept_root : (j : ℕ) → IsSome (get nat_cmp p.roots j) → IsSome (get nat_cmp q.roots j)
    kept_root j some = go (get nat_cmp p.roots j) refl some
      where
        go : (o : Option ℕ) → get nat_cmp p.roots j ≡ o → IsSome o → IsSome (get nat_cmp q.roots j)
        go None e wrong = absurd (cc)
        go (Some s) e some = subst IsSome (sym (more.roots j s e)) refl

    parts_now : (j : ℕ) (g : TermForm) → Contains done j ⊎ (i ≡ j) → form_at nodes j ≡ Some g → HasPartsIn (λ k. IsSome (get nat_cmp q.roots k)) g
    parts_now j g (inl old) e = parts_more (λ k. IsSome (get nat_cmp p.roots k)) (λ k. IsSome (get nat_cmp q.roots k)) kept_root g (it.parts j g old e)
    parts_now j g (inr new) e =
        let same : f ≡ g = some_is (sym form_is ∙ (ap (form_at nodes) new ∙ e)) in
        subst (HasPartsIn (λ k. IsSome (get nat_cmp q.roots k))) same (parts_more (Contains done) (λ k. IsSome (get nat_cmp q.roots k)) (λ k there. kept_root k (it.rooted k there)) f behind)

    rooted_now : (j : ℕ) → Contains done j ⊎ (i ≡ j) → IsSome (get nat_cmp q.roots j)
    rooted_now j (inl old) = kept_root j (it.rooted j old)
    rooted_now j (inr new) = subst (λ k. IsSome (get nat_cmp q.roots k)) new (subst IsSome (sym updated.1) refl)

    only_now : (j : ℕ) (b : Bool) → is_eq (nat_cmp i j) ≡ b → get nat_cmp q.roots j ≡ cond b (Some root) (get nat_cmp p.roots j) → IsSome (get nat_cmp q.roots j) → Contains (done ++ i ∷ []) j
    only_now j true same is some = subst (Contains (done ++ i ∷ [])) (same_key i j same) (Contains-push done i)
    only_now j false apart is some = Contains-append_left done (i ∷ []) j (it.only j (subst IsSome is some))

    posed_now : (j : ℕ) (g : TermForm) → Contains done j ⊎ (i ≡ j) → form_at nodes j ≡ Some g → Posed q j g
    posed_now j g (inl old) e =
        posed_kept p q more it.good j (it.rooted j old) (known_in globals) (known_in lets) g (it.parts j g old e) (it.posed j g old e)
    posed_now j g (inr new) e =
        subst (λ k. Posed q k g) new
        (let same : f ≡ g = some_is (sym form_is ∙ (ap (form_at nodes) new ∙ e)) in
        subst (Posed q i) same own)

    posed_at_now : (j : ℕ) (g : TermForm) → Contains done j ⊎ (i ≡ j) → form_at nodes j ≡ Some g → IsPosedAt (constraint_of q) q g j
    posed_at_now j g (inl old) e = posed_at_kept p q more it.good j (it.rooted j old) g (it.parts j g old e) (it.posed_at j g old e)
    posed_at_now j g (inr new) e =
        let same : f ≡ g = some_is (sym form_is ∙ (ap (form_at nodes) new ∙ e)) in
        subst (λ k. IsPosedAt (constraint_of q) q g k) new (subst (λ h. IsPosedAt (constraint_of q) q h i) same own_at)

    results_now : (k n : ℕ) → (get nat_cmp p.results k ≡ Some n) ⊎ ((k ≡ i) × IsChoiceForm f) → Contains (done ++ i ∷ []) k × IsConditional nodes k
    results_now k n (inl before) = let at = it.results k n before in (Contains-append_left done (i ∷ []) k at.0, at.1)
    results_now k n (inr (same, (j, l, m, is))) = (subst (Contains (done ++ i ∷ [])) (sym same) (Contains-push done i), subst (IsConditional nodes) (sym same) (j, l, m, form_is ∙ ap Some is))

    pub posed_more : ((known : Known) → AreOver known globals lets → (type binder : ℕ → Predicate) → ((k : ℕ) → IsType (type k))
        → ((j : ℕ) (g : TermForm) → Contains (done ++ i ∷ []) j → form_at nodes j ≡ Some g → IsNodeTyped nodes known type binder j g) → HasModel p type binder → HasModel q type binder)
        → HavePosed nodes globals lets begun q (done ++ i ∷ [])
    posed_more goes_on = record {
      extends = extends_all begun p q it.extends more;
      good = good;
      rooted = λ j there. rooted_now j (Contains-push_cases done i j there);
      only = λ j some. only_now j (is_eq (nat_cmp i j)) refl (updated.0 j) some;
      parts = λ j g there e. parts_now j g (Contains-push_cases done i j there) e;
      results = λ k n e. results_now k n (noted k n e);
      posed = λ j g there e. posed_now j g (Contains-push_cases done i j there) e;
      posed_at = λ j g there e. posed_at_now j g (Contains-push_cases done i j there) e;
      models = λ known over type bind types typed m.
          goes_on known over type bind types typed
          (it.models known over type bind types (λ j g there e. typed j g (Contains-append_left done (i ∷ []) j there) e) m);
    }

  module _ (p q : Posing) (done : List ℕ) (i : ℕ) (f : TermForm) (it : HavePosed nodes globals lets begun p done)
      (form_is : form_at nodes i ≡ Some f) (other : Contains done i → ⊥) (behind : HasPartsIn (Contains done) f) where
    is_new : IsNew p i
    is_new some = other (it.only i some)

    rooted_parts : HasPartsIn (λ k. IsSome (get nat_cmp p.roots k)) f
    rooted_parts = parts_more (Contains done) (λ k. IsSome (get nat_cmp p.roots k)) it.rooted f behind

    -- as its form says
    pub pose_next : AddsNode (known_in globals) (known_in lets) p q i f → HasBinderOf p f → CanPose globals lets p f → HavePosed nodes globals lets begun q (done ++ i ∷ [])
    pose_next adds binder can =
        let updated = node_root (known_in globals) (known_in lets) p q i it.good is_new f adds in
        posed_more p q done i f it form_is behind (node_extends (known_in globals) (known_in lets) p q i it.good is_new f adds) updated.0 updated.1
        (λ k n e. node_noted (known_in globals) (known_in lets) p q i k n e f adds)
        (node_good p q i it.good is_new globals lets f adds rooted_parts binder can)
        (node_posed (known_in globals) (known_in lets) p q i it.good is_new f adds rooted_parts)
        (node_posed_at (known_in globals) (known_in lets) p q i it.good is_new f adds rooted_parts)
        (λ known over type bind types typed m. node_model p it.good type bind m q i types nodes known globals lets over f adds (λ b n e. (it.results b n e).1) rooted_parts binder can (typed i f (Contains-push done i) form_is))

    -- with the copy of another use of its name
    pub pose_again : (j : ℕ) → Contains done j → form_at nodes j ≡ Some f → HasNoEdges globals lets f → Adds p q i (shared_added (root_in p j) (copy_in p j)) NoEdge → HavePosed nodes globals lets begun q (done ++ i ∷ [])
    pose_again j there same_form none adds =
        let more : Extends p q = adds_extends p q i (shared_added (root_in p j) (copy_in p j)) NoEdge adds it.good is_new in
        let root : root_in q i ≡ root_in q j = root_is p q i (shared_added (root_in p j) (copy_in p j)) NoEdge adds ∙ sym (root_stays p q more j (it.rooted j there)) in
        let again : (n : ℕ) → get nat_cmp q.copies j ≡ Some n → get nat_cmp q.copies i ≡ Some n = noted_again p.copies q.copies i j adds.copies in
        posed_more p q done i f it form_is behind more (root_in p j) adds.roots
        (λ k n e. inl (ap (λ rs. get nat_cmp rs k) (sym adds.results) ∙ e))
        (shared_good p q i it.good is_new j (it.rooted j there) adds)
        (used_again (known_in globals) (known_in lets) q i j root again f (named globals lets f none)
        (posed_kept p q more it.good j (it.rooted j there) (known_in globals) (known_in lets) f (it.parts j f there same_form) (it.posed j f there same_form)))
        (name_posed_at (known_in globals) (known_in lets) q i j root again f (named globals lets f none))
        (λ known over type bind types typed m.
        shared_model p it.good type bind m q i types nodes known globals lets over j f (it.rooted j there) none
        (typed j f (Contains-append_left done (i ∷ []) j there) same_form) (typed i f (Contains-push done i) form_is) adds)

    -- either way
    pub pose_either : (uses after : Shared) → AreShared nodes globals lets done uses → PosesNext globals lets uses after p q i f → HasBinderOf p f → CanPose globals lets p f
        → HavePosed nodes globals lets begun q (done ++ i ∷ []) × AreShared nodes globals lets (done ++ i ∷ []) after
    pose_either uses after are step binder can = (go step.adds, λ g j e. noted g j (step.notes g j e))
      where
        go : ((j : ℕ) × (first_use uses f ≡ Some j) × Adds p q i (shared_added (root_in p j) (copy_in p j)) NoEdge) ⊎ AddsNode (known_in globals) (known_in lets) p q i f → HavePosed nodes globals lets begun q (done ++ i ∷ [])
        go (inl (j, first, adds)) = let at = are f j first in pose_again j at.0 at.1 at.2 adds
        go (inr adds) = pose_next adds binder can

        noted : (g : TermForm) (j : ℕ) → (first_use uses g ≡ Some j) ⊎ ((g ≡ f) × (j ≡ i) × HasNoEdges globals lets f) → Contains (done ++ i ∷ []) j × (form_at nodes j ≡ Some g) × HasNoEdges globals lets g
        noted g j (inl before) = let at = are g j before in (Contains-append_left done (i ∷ []) j at.0, at.1, at.2)
        noted g j (inr (is_form, is_node, none)) = (
          subst (Contains (done ++ i ∷ [])) (sym is_node) (Contains-push done i),
          subst (λ k. form_at nodes k ≡ Some g) (sym is_node) (form_is ∙ ap Some (sym is_form)),
          subst (HasNoEdges globals lets) (sym is_form) none,
        )

-- the form of a node that is there
pub form_there : (nodes : List TermNode) (i : ℕ) (d : TermNode) → i < length nodes → form_at nodes i ≡ Some (get_or nodes i d).form
form_there nodes i d low = ap (option_map (λ (node : TermNode). node.form)) (slice_get-get_or nodes i d low)

-- of a list without doubles no element stands among those before it
take_low : (xs : List ℕ) (k m d : ℕ) → m < length (take k xs) → (m < k) × (get_or (take k xs) m d ≡ get_or xs m d)
take_low xs zero m d low = absurd (omega arith)
take_low [] (suc k) m d low = absurd (omega arith)
take_low (x ∷ xs) (suc k) zero d low = (omega arith, refl)
take_low (x ∷ xs) (suc k) (suc m) d low = let later = take_low xs k m d (omega arith) in ((let at : m < k = later.0 in omega arith), later.1)

pub not_before : (xs : List ℕ) (k d : ℕ) → AllPairs (λ i j. i ≢ j) xs → k < length xs → Contains (take k xs) (get_or xs k d) → ⊥
not_before xs k d once low (m, m_low, is) =
    let at = take_low xs k m (get_or xs k d) m_low in
    let before : m < k = at.0 in
    let one : get_or xs m (get_or xs k d) ≡ get_or xs k (get_or xs k d) = sym at.1 ∙ (is ∙ get_or_default xs k d (get_or xs k d) low) in
    once m k (get_or xs k d) before low one
