-- The rows of a part: over steps that give the parts of a node the roots of their states as types, a plan leads to a step that gives the
-- node the root of its state. Binders have the nodes of their states in all steps.
--     number_part, truth_part, bound_part, fun_part, apply_part, project_part, choice_part, fix_part
use Rattle.std.proofs.Common.{◌≡◌, ◌⊎◌, inl, inr, ℕ, ◌<◌, Bool, true, List, [], ◌∷◌, length, Contains, refl, sym, ◌∙◌, subst, arith, Some}
use Rattle.std.specs.FinMap as env
use Rattle.mls_book.specs.declared.book.Node.TheVariants as node
use Rattle.mls_book.specs.Books.{node_at, IsClosedBook}
use Rattle.mls_book.specs.Schemes.{Env, IsScheme}
use Rattle.mls_book.proofs.Children.{HasChildrenIn, closed_children}
use Rattle.mls_automaton.specs.declared.automaton.Arms.{Arms}
use Rattle.mls_automaton.specs.declared.automaton.Polarity.{Polarity}
use Rattle.mls_automaton.specs.declared.automaton.Polarity.TheVariants.{Positive, Negative}
use Rattle.mls_automaton.specs.declared.scheme.Scheme.{Scheme}
use Rattle.mls_automaton.specs.Automata.{Automaton, polarity_at, head_at, opposite, flow, HasFlow}
use Rattle.mls_automaton.specs.Heads.{parts_of}
use Rattle.mls_automaton.specs.Models.{IsClosed}
use Rattle.mls_automaton.proofs.Instances.{AreGoals}
use Rattle.mls_automaton.specs.declared.automaton.HeadKind.TheVariants as kind
use Rattle.mls_solver.specs.Relations.{IsRelated}
use Rattle.mls_solver.specs.Clashes.{HasNoClash}
use Rattle.mls_solver.specs.Solved.{IsSolved}
use Rattle.mls_solver.proofs.Following.{related_states}
use Rattle.mls_subsume.specs.declared.verdict.StatePair.{StatePair}
use Rattle.mls_subsume.specs.Walks.{IsIn, IsWalk}
use Rattle.mls_term.specs.declared.term.TermForm.TheVariants as form
use Rattle.mls_deriv.specs.declared.derivation.BinderNode.{BinderNode}
use Rattle.mls_deriv.specs.declared.derivation.Mode.{Mode}
use Rattle.mls_deriv.specs.declared.derivation.Mode.TheVariants.{Lr, Rl}
use Rattle.mls_deriv.specs.declared.derivation.StepLine.{StepLine}
use Rattle.mls_deriv.specs.Steps.{env_of, form_at, Before, Says}
use Rattle.mls_layout.specs.Shown.{IsShown, based, AreShown}
use Rattle.mls_layout.specs.Trees.{IsTree, IsPlaceIn}
use Rattle.mls_layout.specs.Heads.{AreParts}
use Rattle.mls_layout.specs.Layouts.{IsLayout, PartClaims, IsItself}
use Rattle.mls_layout.specs.Runs.{id}
use Rattle.mls_layout.specs.Rows.{at, concluded, Fits, HasRow, Widens, Keeps}
use Rattle.mls_allowed.proofs.PartClaims.{related_leaf, related_shown, part_shown}
use Rattle.mls_allowed.proofs.RowPairs.{set_below, set_above, value_below, value_above, edge_below, head_below, set_below_edge}
use Rattle.mls_allowed.proofs.Rows.{number_row, truth_row, var_row, app_row, fun_row, proj_row, choice_row, fix_row}

module _ (b : Before) (a : Automaton) (IsGoal : ℕ → ℕ → Type 0) (closed : IsClosed a) (goals : AreGoals a IsGoal) (free : HasNoClash a (IsRelated a IsGoal))
    (general special : Scheme) (is_solved : IsSolved a (IsRelated a IsGoal) general.automaton) (closed_type : IsClosed special.automaton)
    (walked : List StatePair) (walk : IsWalk general special walked)
    (place type_place : ℕ → ℕ) (layout : IsLayout b.book a special.automaton (IsRelated a IsGoal) (IsIn walked) place type_place)
    (closed_book : IsClosedBook b.book) (low : (s i : ℕ) → Contains (layout.parts s) i → i < length b.book) where
  abbrev R : ℕ → ℕ → Type 0
  R = IsRelated a IsGoal

  abbrev Claims : Mode → ℕ → ℕ → Type 0
  Claims = PartClaims a special.automaton R (IsIn walked) place type_place

  abbrev Shown : Mode → ℕ → ℕ → Type 0
  Shown = IsShown b.book [] IsItself Claims true

  shown : AreShown b.book [] IsItself Claims
  shown = part_shown b.book a IsGoal closed goals free general special is_solved closed_type walked walk place type_place layout

  keeps_widens : (d d' : Env) → Keeps d d' → Widens b IsItself Claims d d'
  keeps_widens d d' keeps x n found = (n, keeps x n found, based refl)

  -- the node of a function of a head
  pub record HasArrow (p : Polarity) (s : ℕ) (arms : Arms) : Type 0 where
    pub arrow : ℕ
    pub from : ℕ
    pub to : ℕ
    pub there : Contains (layout.parts s) arrow
    pub is : node_at b.book arrow ≡ node.Arrow (id from) (id to)
    pub domain : IsTree b.book (opposite p) (IsPlaceIn place arms.domain) from
    pub codomain : IsTree b.book p (IsPlaceIn place arms.codomain) to
    pub from_low : from < length b.book
    pub to_low : to < length b.book

  has_arrow : (p : Polarity) (s : ℕ) (arms : Arms) → polarity_at a s ≡ p → (head_at a s).function ≡ Some arms → HasArrow p s arms
  has_arrow p s arms is e =
      let it = (subst (λ q. AreParts b.book place q (parts_of (head_at a s)) (layout.parts s)) is (layout.heads s)).each kind.Function (arms, e) in
      let same : it.2.arms ≡ arms = (let h : Some it.2.arms ≡ Some arms = sym it.2.has ∙ e in cc) in
      let children : (it.2.from.0 < length b.book) × (it.2.to.0 < length b.book) = subst (HasChildrenIn (λ k. k < length b.book)) it.2.node (closed_children b.book closed_book.closed it.0 (low s it.0 it.1)) in
      record {
        arrow = it.0;
        from = it.2.from.0;
        to = it.2.to.0;
        there = it.1;
        is = it.2.node;
        domain = subst (λ (z : Arms). IsTree b.book (opposite p) (IsPlaceIn place z.domain) it.2.from.0) same it.2.domain;
        codomain = subst (λ (z : Arms). IsTree b.book p (IsPlaceIn place z.codomain) it.2.to.0) same it.2.codomain;
        from_low = children.0;
        to_low = children.1;
      }

  -- another node for the type
  with_type : (d : List BinderNode) (t u : ℕ) → u < length b.book → Fits b d t → Fits b d u
  with_type d t u h is = record { scheme = record { book = is.scheme.book; root = h; env = is.scheme.env }; rising = is.rising }

  below_leaf : (p n j : ℕ) → R p n → Contains (layout.parts n) j → Shown Lr (place p) j
  below_leaf p n j it there = related_leaf b.book a IsGoal closed goals free general special is_solved closed_type walked walk place type_place layout true Lr p n j it (inl there)

  below : (mode : Mode) (p n : ℕ) → R p n → Shown mode (place p) (place n)
  below mode p n it = related_shown b.book a IsGoal closed goals free general special is_solved closed_type walked walk place type_place layout true mode p n it

  negative : (n q : ℕ) → HasFlow a n q → polarity_at a n ≡ Negative
  negative n q edge = (closed.negative (flow n q) edge).polarity

  positive : (n q : ℕ) → HasFlow a n q → polarity_at a q ≡ Positive
  positive n q edge = (closed.positive (flow n q) edge).polarity

  -- an application: the root p of the function is related to a state g with the function from the root r of the argument to the state n,
  -- from which an edge goes to the root q
  pub apply_part : (steps : List StepLine) (n1 n2 e f x : ℕ) (d1 d2 : Env) (d : List BinderNode) (p r g n q : ℕ)
      → form_at b.term_nodes e ≡ Some (form.Apply f x)
      → (head_at a g).function ≡ Some (record { domain = r ∷ []; codomain = n ∷ [] }) → R p g → HasFlow a n q
      → Says (at b steps) n1 f (concluded b d1 (place p)) → IsScheme (concluded b d1 (place p))
      → Says (at b steps) n2 x (concluded b d2 (place r)) → IsScheme (concluded b d2 (place r))
      → Fits b d (place q) → Keeps d1 (env_of d) → Keeps d2 (env_of d)
      → HasRow b steps e (env_of d) (place q)
  apply_part steps n1 n2 e f x d1 d2 d p r g n q is_form has related edge says1 is1 says2 is2 is_d keeps1 keeps2 =
      let w = has_arrow Negative g (record { domain = r ∷ []; codomain = n ∷ [] }) (related_states a IsGoal closed goals p g related).1.polarity has in
      app_row b IsItself Claims shown (λ mode i. based refl) steps n1 n2 e f x d1 d2 (place p) (place r) d w.arrow w.from w.to (place q) is_form w.is says1 is1 says2 is2
      (with_type d (place q) w.arrow (low g w.arrow w.there) is_d) (with_type d (place q) w.from w.from_low is_d) (with_type d (place q) w.to w.to_low is_d) is_d
      (below_leaf p g w.arrow related w.there)
      (set_below b.book Claims true Lr place (r ∷ []) r w.from (0, omega arith, refl) w.domain)
      (set_below_edge b.book Claims true Lr a special.automaton R (IsIn walked) place type_place layout (n ∷ []) n q w.to (0, omega arith, refl) (negative n q edge) (positive n q edge) edge w.codomain)
      (keeps_widens d1 (env_of d) keeps1) (keeps_widens d2 (env_of d) keeps2)

  -- A function: the root q has the function from the states of the binder, of which there is none where it is not used, to the root r of
  -- the body.
  pub fun_part : (steps : List StepLine) (n1 e x body : ℕ) (d1 : Env) (d : List BinderNode) (states : List ℕ) (r q : ℕ) (inner : ℕ → List BinderNode)
      → form_at b.term_nodes e ≡ Some (form.Fun x body)
      → (head_at a q).function ≡ Some (record { domain = states; codomain = r ∷ [] }) → polarity_at a q ≡ Positive
      → Says (at b steps) n1 body (concluded b d1 (place r)) → IsScheme (concluded b d1 (place r))
      → Fits b d (place q)
      -- inside, the binder has the node of the domain, and the others have what they have outside
      → ((i : ℕ) → env.get (env_of (inner i)) x ≡ Some i) → ((i : ℕ) → env_of d ≡ env.remove (env_of (inner i)) x)
      → ((i : ℕ) → i < length b.book → Fits b (inner i) (place q))
      → ((i y k : ℕ) → env.get d1 y ≡ Some k → (env.get (env_of (inner i)) y ≡ Some k) ⊎ ((y ≡ x) × IsPlaceIn place states k))
      → HasRow b steps e (env_of d) (place q)
  fun_part steps n1 e x body d1 d states r q inner is_form has is_q says1 is1 is_d found removed is_inner kept =
      let w = has_arrow Positive q (record { domain = states; codomain = r ∷ [] }) is_q has in
      fun_row b IsItself Claims shown (λ mode i. based refl) steps n1 e x body d1 (place r) (inner w.from) d w.arrow w.from w.to (place q) is_form w.is says1 is1
      (with_type (inner w.from) (place q) w.to w.to_low (is_inner w.from w.from_low)) (with_type d (place q) w.arrow (low q w.arrow w.there) is_d) is_d
      (removed w.from) (inl (found w.from))
      (set_below b.book Claims true Lr place (r ∷ []) r w.to (0, omega arith, refl) w.codomain)
      (head_below b.book Claims true Lr a special.automaton R (IsIn walked) place type_place layout q w.arrow is_q w.there)
      (λ y k has_y. widens w.from w.domain y k (kept w.from y k has_y))
    where
      widens : (i : ℕ) → IsTree b.book Negative (IsPlaceIn place states) i → (y k : ℕ) → (env.get (env_of (inner i)) y ≡ Some k) ⊎ ((y ≡ x) × IsPlaceIn place states k)
          → (m : ℕ) × (env.get (env_of (inner i)) y ≡ Some m) × Shown Rl m k
      widens i tree y k (inl same) = (k, same, based refl)
      widens i tree y k (inr (is, (n, there, at_n))) =
          (i, subst (λ z. env.get (env_of (inner i)) z ≡ Some i) (sym is) (found i), subst (Shown Rl i) at_n (set_above b.book Claims true Rl place states n i there tree))

  -- a bound name: an edge goes from the state of the binder to the root
  pub bound_part : (steps : List StepLine) (e x n q : ℕ) (d : List BinderNode)
      → form_at b.term_nodes e ≡ Some (form.Bound x) → HasFlow a n q
      → (let v : List BinderNode = record { binder = x; node = id (layout.value n) } ∷ [] in
      Fits b v (layout.value n)
      × (env_of v ≡ env.insert env.empty x (layout.value n))
      × ((y k : ℕ) → env.get (env_of v) y ≡ Some k → (env.get (env_of d) y ≡ Some (place n)) × (k ≡ layout.value n)))
      → Fits b d (place q)
      → HasRow b steps e (env_of d) (place q)
  bound_part steps e x n q d is_form edge (is_v, same, kept) is_d =
      var_row b IsItself Claims shown (λ mode i. based refl) steps e x (layout.value n) (place q) d is_form is_v is_d
      (value_below b.book Claims true Lr a special.automaton R (IsIn walked) place type_place layout n q (positive n q edge) edge) same
      (λ y k found.
      let it = kept y k found in
      (place n, it.0, subst (Shown Rl (place n)) (sym it.1) (value_above b.book Claims true Rl a special.automaton R (IsIn walked) place type_place layout n (negative n q edge))))

  -- a conditional: the root p of the condition is related to a state with `bool`, those of the branches to the state n, from which an
  -- edge goes to the root q
  pub choice_part : (steps : List StepLine) (n1 n2 n3 e c f g : ℕ) (d1 d2 d3 : Env) (d : List BinderNode) (p r s bit n q : ℕ)
      → form_at b.term_nodes e ≡ Some (form.If c f g)
      → (head_at a bit).boolean ≡ true → R p bit → R r n → R s n → HasFlow a n q
      → Says (at b steps) n1 c (concluded b d1 (place p)) → IsScheme (concluded b d1 (place p))
      → Says (at b steps) n2 f (concluded b d2 (place r)) → IsScheme (concluded b d2 (place r))
      → Says (at b steps) n3 g (concluded b d3 (place s)) → IsScheme (concluded b d3 (place s))
      → Fits b d (place n) → Fits b d (place q)
      → Keeps d1 (env_of d) → Keeps d2 (env_of d) → Keeps d3 (env_of d)
      → HasRow b steps e (env_of d) (place q)
  choice_part steps n1 n2 n3 e c f g d1 d2 d3 d p r s bit n q is_form has related1 related2 related3 edge says1 is1 says2 is2 says3 is3 is_n is_d keeps1 keeps2 keeps3 =
      let w = (layout.heads bit).each kind.Bool has in
      choice_row b IsItself Claims shown (λ mode i. based refl) steps n1 n2 n3 e c f g d1 d2 d3 (place p) (place r) (place s) d w.0 (place n) (place q) is_form w.2.1
      says1 is1 says2 is2 says3 is3 (with_type d (place q) w.0 (low bit w.0 w.1) is_d) is_n is_d
      (below_leaf p bit w.0 related1 w.1) (below Lr r n related2) (below Lr s n related3)
      (edge_below b.book Claims true Lr a special.automaton R (IsIn walked) place type_place layout n q (negative n q edge) (positive n q edge) edge)
      (keeps_widens d1 (env_of d) keeps1) (keeps_widens d2 (env_of d) keeps2) (keeps_widens d3 (env_of d) keeps3)

  -- a recursion: the root r of the body is related to the state n of the binder; inside, the binder has the node of the root
  pub fix_part : (steps : List StepLine) (n1 e x body : ℕ) (d1 : Env) (inner d : List BinderNode) (r n : ℕ)
      → form_at b.term_nodes e ≡ Some (form.Rec x body) → R r n
      → Says (at b steps) n1 body (concluded b d1 (place r)) → IsScheme (concluded b d1 (place r))
      → Fits b inner (place r) → Fits b d (place r)
      → env_of d ≡ env.remove (env_of inner) x → env.get (env_of inner) x ≡ Some (place r)
      → ((y k : ℕ) → env.get d1 y ≡ Some k → (env.get (env_of inner) y ≡ Some k) ⊎ ((y ≡ x) × (k ≡ place n)))
      → HasRow b steps e (env_of d) (place r)
  fix_part steps n1 e x body d1 inner d r n is_form related says1 is1 is_inner is_d removed found kept =
      fix_row b IsItself Claims shown (λ mode i. based refl) steps n1 e x body d1 (place r) inner d (place r) is_form says1 is1 is_inner is_d removed found (based refl)
      (λ y k has_y. widens y k (kept y k has_y))
    where
      widens : (y k : ℕ) → (env.get (env_of inner) y ≡ Some k) ⊎ ((y ≡ x) × (k ≡ place n)) → (m : ℕ) × (env.get (env_of inner) y ≡ Some m) × Shown Rl m k
      widens y k (inl same) = (k, same, based refl)
      widens y k (inr it) = (place r, subst (λ z. env.get (env_of inner) z ≡ Some (place r)) (sym it.0) found, subst (Shown Rl (place r)) (sym it.1) (below Rl r n related))

  -- a projection: the root r of the body is related to a state with the record of the one field, which is the state n, from which an edge
  -- goes to the root q
  pub project_part : (steps : List StepLine) (n1 e body : ℕ) (label : List ℕ) (d1 : Env) (d : List BinderNode) (r g n q rcd to : ℕ)
      → form_at b.term_nodes e ≡ Some (form.Project body label)
      → Contains (layout.parts g) rcd → node_at b.book rcd ≡ node.Rcd (record { label = label; node = id to } ∷ []) → IsTree b.book Negative (IsPlaceIn place (n ∷ [])) to
      → R r g → HasFlow a n q
      → Says (at b steps) n1 body (concluded b d1 (place r)) → IsScheme (concluded b d1 (place r))
      → Fits b d to → Fits b d (place q) → Keeps d1 (env_of d)
      → HasRow b steps e (env_of d) (place q)
  project_part steps n1 e body label d1 d r g n q rcd to is_form there is_rcd tree related edge says is is_to is_d keeps =
      proj_row b IsItself Claims shown (λ mode i. based refl) steps n1 e body label d1 (place r) d rcd to (place q) is_form is_rcd says is
      (with_type d (place q) rcd (low g rcd there) is_d) is_to is_d
      (below_leaf r g rcd related there)
      (set_below_edge b.book Claims true Lr a special.automaton R (IsIn walked) place type_place layout (n ∷ []) n q to (0, omega arith, refl) (negative n q edge) (positive n q edge) edge tree)
      (keeps_widens d1 (env_of d) keeps)

  -- literals: the root has the part
  pub number_part : (steps : List StepLine) (e value q : ℕ) (d : List BinderNode) → form_at b.term_nodes e ≡ Some (form.Number value)
      → polarity_at a q ≡ Positive → (head_at a q).integer ≡ true
      → Fits b [] (place q) → Fits b d (place q)
      → HasRow b steps e (env_of d) (place q)
  number_part steps e value q d is_form is_q has is is_d =
      let w = (layout.heads q).each kind.Int has in
      number_row b IsItself Claims shown (λ mode i. based refl) steps e value w.0 (place q) d is_form w.2.1
      (with_type [] (place q) w.0 (low q w.0 w.1) is) is_d
      (head_below b.book Claims true Lr a special.automaton R (IsIn walked) place type_place layout q w.0 is_q w.1)

  pub truth_part : (steps : List StepLine) (e : ℕ) (value : Bool) (q : ℕ) (d : List BinderNode) → form_at b.term_nodes e ≡ Some (form.Truth value)
      → polarity_at a q ≡ Positive → (head_at a q).boolean ≡ true
      → Fits b [] (place q) → Fits b d (place q)
      → HasRow b steps e (env_of d) (place q)
  truth_part steps e value q d is_form is_q has is is_d =
      let w = (layout.heads q).each kind.Bool has in
      truth_row b IsItself Claims shown (λ mode i. based refl) steps e value w.0 (place q) d is_form w.2.1
      (with_type [] (place q) w.0 (low q w.0 w.1) is) is_d
      (head_below b.book Claims true Lr a special.automaton R (IsIn walked) place type_place layout q w.0 is_q w.1)
