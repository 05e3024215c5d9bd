-- The pairs that the steps of a part claim follow from one another: the closed relation without a clash and a walk from the solved
-- automaton to the type justify every one of them, without transitivity.
--     itself_justified        a node and itself, without `put` lines
--     related_leaf, related_shown, below_type_shown, above_type_shown     each kind of claim
--     part_shown              all claims of a part
use Rattle.std.proofs.Common.{◌≡◌, ◌⊎◌, inl, inr, ℕ, Bool, true, false, List, [], Contains, refl, sym, ◌∙◌, subst, Some, None}
use Rattle.std.specs.Prelude.{Option, option_map, map}
use Rattle.mls_book.specs.declared.book.Node.{Node}
use Rattle.mls_book.specs.declared.book.Node.TheVariants as node
use Rattle.mls_book.specs.Books.{node_at}
use Rattle.mls_automaton.specs.declared.automaton.FieldSet.{FieldSet}
use Rattle.mls_automaton.specs.declared.automaton.Polarity.{Polarity}
use Rattle.mls_automaton.specs.declared.automaton.Polarity.TheVariants.{Positive, Negative}
use Rattle.mls_automaton.specs.declared.scheme.Scheme.{Scheme}
use Rattle.mls_automaton.specs.Automata.{Automaton, polarity_at, head_at, flow, HasFlow, IsState}
use Rattle.mls_automaton.specs.Heads.{parts_of, set_at, combined}
use Rattle.mls_automaton.specs.Models.{IsClosed}
use Rattle.mls_automaton.proofs.Instances.{AreGoals}
use Rattle.mls_solver.specs.Relations.{IsRelated, along}
use Rattle.mls_solver.specs.Clashes.{HasNoClash}
use Rattle.mls_solver.specs.Solved.{ReachesBy, IsSolved}
use Rattle.mls_solver.proofs.Following.{in_domain-state, in_codomain-state, in_field-state, related_states}
use Rattle.mls_flow.specs.Simulations.{IsHeadWithin}
use Rattle.mls_flow.specs.Admissible.{IsAdmissible, IsMatched}
use Rattle.mls_flow.proofs.Admissibles.{matched_more_in, admissible_flows}
use Rattle.mls_flow.proofs.HeadsWithin.{Same, within-trans, within-combined, within-same}
use Rattle.mls_subsume.specs.declared.verdict.StatePair.{StatePair}
use Rattle.mls_subsume.specs.Walks.{IsIn, IsWalk}
use Rattle.mls_deriv.specs.declared.derivation.Mode.{Mode}
use Rattle.mls_deriv.specs.declared.derivation.Mode.TheVariants.{Lr, Rl, Pp}
use Rattle.mls_deriv.specs.Pairs.{left_put, right_put, exchanged, IsJustified, bot_below, below_top, join_below, below_meet, same_bool, same_int, same_variable, functions, records}
use Rattle.mls_layout.specs.Shown.{IsShown, based, claimed, one_variable, join_first, join_second, meet_first, meet_second, AreShown}
use Rattle.mls_layout.specs.Trees.{IsTree}
use Rattle.mls_layout.specs.Heads.{IsKindAt, AreParts, HasSigns}
use Rattle.mls_layout.specs.Layouts.{IsTypeLayout, Enters, IsLayout, related, below_type, above_type, in_type, PartClaims, IsItself}
use Rattle.mls_allowed.proofs.Trees.{IsInside, only_inside, member_inside, below_only, member_below, exchanged-forth}
use Rattle.mls_allowed.proofs.Heads.{head_inside}
use Rattle.mls_allowed.proofs.RelatedParts.{related_parts}
use Rattle.mls_allowed.proofs.MatchedParts.{matched_parts}

no_left : (mode : Mode) (x : ℕ) → left_put mode [] x ≡ None
no_left Lr x = refl
no_left Rl x = refl
no_left Pp x = refl

no_right : (mode : Mode) (x : ℕ) → right_put mode [] x ≡ None
no_right Lr x = refl
no_right Rl x = refl
no_right Pp x = refl

-- where each node may be claimed to be below itself, that is justified
pub itself_justified : (book : List Node) (claims : Mode → ℕ → ℕ → Type 0) (mode : Mode) (i : ℕ) → IsJustified book [] (IsShown book [] IsItself claims true) mode i i
itself_justified book claims mode i = go (node_at book i) refl
  where
    go : (n : Node) → node_at book i ≡ n → IsJustified book [] (IsShown book [] IsItself claims true) mode i i
    go node.Bot e = bot_below e
    go node.Top e = below_top e
    go (node.Var x) e = same_variable x e e (no_left mode x) (no_right mode x)
    go node.Bool e = same_bool e e
    go node.Int e = same_int e e
    go (node.Arrow j k) e = functions j k j k e e (based refl) (based refl)
    go (node.Rcd fields) e = records fields fields e e (λ label k found. (k, found, based refl))
    go (node.Join j k) e = join_below j k e (join_first j k e (based refl)) (join_second j k e (based refl))
    go (node.Meet j k) e = below_meet j k e (meet_first j k e (based refl)) (meet_second j k e (based refl))

-- the states that a state's head names have the signs of their places
pub signs_of : (a : Automaton) → IsClosed a → (s : ℕ) (p : Polarity) → polarity_at a s ≡ p → HasSigns (polarity_at a) p (parts_of (head_at a s))
signs_of a closed s p is = record {
  domain = λ arms e t there. (in_domain-state a closed s p is t (arms, e, there)).polarity;
  codomain = λ arms e t there. (in_codomain-state a closed s p is t (arms, e, there)).polarity;
  field = λ sets e label set found t there. go (head_at a s).fields refl sets e label set found t there;
}
  where
    go : (o : Option (List FieldSet)) → (head_at a s).fields ≡ o → (sets : List ℕ → Option (List ℕ)) → option_map set_at o ≡ Some sets → (label set : List ℕ) → sets label ≡ Some set → (t : ℕ) → Contains set t → polarity_at a t ≡ p
    go None e sets has label set found t there = absurd (cc)
    go (Some fields) e sets has label set found t there =
        let is_sets : set_at fields ≡ sets = cc in
        (in_field-state a closed s p is label t (fields, set, e, (λ i. is_sets i label) ∙ found, there)).polarity

-- the states of the type, for themselves
module _ (book : List Node) (b : Automaton) (closed : IsClosed b) (type_place : ℕ → ℕ) (type : IsTypeLayout book b type_place) (claims : Mode → ℕ → ℕ → Type 0) where
  abbrev IsOrdered : ℕ → ℕ → Type 0
  IsOrdered n p = IsAdmissible b n p × IsState b Negative n × IsState b Positive p

  abbrev TypeTree : ℕ → Polarity → Type 0
  TypeTree s q = IsTree book q (λ i. Contains (type.parts s) i ⊎ Contains (type.variables s) i) (type_place s)

  module _ (follows : (mode : Mode) (n p : ℕ) → IsOrdered n p → IsShown book [] IsItself claims true mode (type_place n) (type_place p)) where
    pub ordered_shown : (level : Bool) (mode : Mode) (n p : ℕ) → IsOrdered n p → IsShown book [] IsItself claims level mode (type_place n) (type_place p)
    ordered_shown level mode n p it = by_cases (admissible_flows b n p it.1 it.2 it.0)
      where
        by_members : (i j : ℕ) → Contains (type.parts n) i ⊎ Contains (type.variables n) i → Contains (type.parts p) j ⊎ Contains (type.variables p) j → IsShown book [] IsItself claims level mode i j
            → IsShown book [] IsItself claims level mode (type_place n) (type_place p)
        by_members i j in_n in_p shown =
            member_below book [] IsItself claims level mode (type_place n) i (type_place p)
            ((subst (λ q. TypeTree n q) it.1.polarity (type.tree n)).each i in_n)
            (member_inside book [] IsItself claims level Positive mode i j (type_place p)
            ((subst (λ q. TypeTree p q) it.2.polarity (type.tree p)).each j in_p) shown)

        by_cases : HasFlow b n p ⊎ IsMatched b (IsAdmissible b) n p → IsShown book [] IsItself claims level mode (type_place n) (type_place p)
        by_cases (inl edge) =
            let v = type.flows n p edge in
            by_members v.0 v.1 (inr v.3) (inr v.4) (one_variable v.2 v.5 v.6 (no_left mode v.2) (no_right mode v.2))
        by_cases (inr matched) =
            let found =
            matched_parts book [] IsItself claims type_place IsOrdered follows (head_at b n) (head_at b p) (type.parts n) (type.parts p)
            (subst (λ q. AreParts book type_place q (parts_of (head_at b n)) (type.parts n)) it.1.polarity (type.heads n))
            (subst (λ q. AreParts book type_place q (parts_of (head_at b p)) (type.parts p)) it.2.polarity (type.heads p))
            level mode
            (matched_more_in b (IsAdmissible b) IsOrdered (λ x y is_x is_y h. (h, is_x, is_y)) closed n p it.1 it.2 matched) in
            by_members found.0 found.1 (inl found.2) (inl found.3) found.4

-- the constraint of a part with its goals, the solved automaton, and a walk from it to the type
module _ (book : List Node) (a : Automaton) (IsGoal : ℕ → ℕ → Type 0) (closed : IsClosed a) (goals : AreGoals a IsGoal) (free : HasNoClash a (IsRelated a IsGoal))
    (general special : Scheme) (is_solved : IsSolved a (IsRelated a IsGoal) general.automaton) (closed_type : IsClosed special.automaton)
    (pairs : List StatePair) (walk : IsWalk general special pairs)
    (place type_place : ℕ → ℕ) (layout : IsLayout book a special.automaton (IsRelated a IsGoal) (IsIn pairs) place type_place) where
  abbrev R : ℕ → ℕ → Type 0
  R = IsRelated a IsGoal

  abbrev b : Automaton
  b = special.automaton

  abbrev Claims : Mode → ℕ → ℕ → Type 0
  Claims = PartClaims a b R (IsIn pairs) place type_place

  abbrev Shown : Bool → Mode → ℕ → ℕ → Type 0
  Shown = IsShown book [] IsItself Claims

  abbrev Inside : Bool → Polarity → Mode → ℕ → ℕ → Type 0
  Inside = IsInside book [] IsItself Claims

  type_follows : (mode : Mode) (n p : ℕ) → IsOrdered book b closed_type type_place layout.type Claims n p → Shown true mode (type_place n) (type_place p)
  type_follows mode n p it = claimed refl (in_type n p it.0 it.1 it.2 refl refl)

  in_type_shown : (level : Bool) (mode : Mode) (n p : ℕ) → IsAdmissible b n p → IsState b Negative n → IsState b Positive p → Shown level mode (type_place n) (type_place p)
  in_type_shown level mode n p it is_n is_p = ordered_shown book b closed_type type_place layout.type Claims type_follows level mode n p (it, is_n, is_p)

  follows : (mode : Mode) (p n : ℕ) → R p n → Shown true mode (place p) (place n)
  follows mode p n it = claimed refl (related p n it refl refl)

  is_positive : (p n : ℕ) → R p n → polarity_at a p ≡ Positive
  is_positive p n it = (related_states a IsGoal closed goals p n it).0.polarity

  is_negative : (p n : ℕ) → R p n → polarity_at a n ≡ Negative
  is_negative p n it = (related_states a IsGoal closed goals p n it).1.polarity

  from_negative : (n p : ℕ) → HasFlow a n p → polarity_at a n ≡ Negative
  from_negative n p edge = (closed.negative (flow n p) edge).polarity

  to_positive : (n p : ℕ) → HasFlow a n p → polarity_at a p ≡ Positive
  to_positive n p edge = (closed.positive (flow n p) edge).polarity

  -- the partners of a state have its polarity
  partner : (g s : ℕ) (p : Polarity) → polarity_at a g ≡ p → IsIn pairs g s → IsState b p s
  partner g s p is it = subst (λ q. IsState b q s) (is_solved.polarity g ∙ is) (walk.states g s it)

  paired : (mode : Mode) (x y : ℕ) → IsIn pairs x y → Inside true (polarity_at a x) mode (place x) (type_place y)
  paired mode x y it = go (polarity_at a x) refl
    where
      go : (q : Polarity) → polarity_at a x ≡ q → Inside true q mode (place x) (type_place y)
      go Positive e = claimed refl (below_type x y it e refl refl)
      go Negative e = claimed refl (above_type x y it e refl refl)

  -- what goes into the head of a solved state has parts that lie within those of its partners
  within_partner : (g s j : ℕ) → IsIn pairs g s → Contains (is_solved.members g) j → IsHeadWithin (IsIn pairs) (polarity_at a g) (parts_of (head_at a j)) (parts_of (head_at b s))
  within_partner g s j it there =
      within-trans Same (IsIn pairs) (IsIn pairs) (λ x y z e h. subst (λ w. IsIn pairs w z) (sym e) h) (polarity_at a g)
      (parts_of (head_at a j)) (parts_of (head_at general.automaton g)) (parts_of (head_at b s))
      (within-trans Same Same Same (λ x y z e e'. e ∙ e') (polarity_at a g)
      (parts_of (head_at a j)) (combined (polarity_at a g) (map (λ j. parts_of (head_at a j)) (is_solved.members g))) (parts_of (head_at general.automaton g))
      (within-combined (polarity_at a g) (λ j. parts_of (head_at a j)) (is_solved.members g) j there)
      (within-same (polarity_at a g) (parts_of (head_at general.automaton g)) (combined (polarity_at a g) (map (λ j. parts_of (head_at a j)) (is_solved.members g))) (is_solved.heads g)))
      (subst (λ q. IsHeadWithin (IsIn pairs) q (parts_of (head_at general.automaton g)) (parts_of (head_at b s))) (is_solved.polarity g) (walk.heads g s it))

  part_inside : (level : Bool) (mode : Mode) (p : Polarity) (g s j i : ℕ) → polarity_at a g ≡ p → polarity_at a j ≡ p → IsIn pairs g s → Contains (is_solved.members g) j → Contains (layout.parts j) i
      → (k : ℕ) × Contains (layout.type.parts s) k × Inside level p mode i k
  part_inside level mode p g s j i is_g is_j it there in_j =
      let at = (layout.heads j).all i in_j in
      head_inside book [] IsItself Claims mode place type_place (polarity_at a) (IsIn pairs) (paired mode)
      (parts_of (head_at a j)) (parts_of (head_at b s)) level p at.0 i (layout.type.parts s)
      (signs_of a closed j p is_j)
      (subst (λ q. IsHeadWithin (IsIn pairs) q (parts_of (head_at a j)) (parts_of (head_at b s))) is_g (within_partner g s j it there))
      (subst (λ q. IsKindAt book place q (parts_of (head_at a j)) at.0 i) is_j at.1)
      (subst (λ q. AreParts book type_place q (parts_of (head_at b s)) (layout.type.parts s)) (partner g s p is_g it).polarity (layout.type.heads s))

  type_tree : (p : Polarity) (s : ℕ) → IsState b p s → IsTree book p (λ i. Contains (layout.type.parts s) i ⊎ Contains (layout.type.variables s) i) (type_place s)
  type_tree p s is = subst (λ q. IsTree book q (λ i. Contains (layout.type.parts s) i ⊎ Contains (layout.type.variables s) i) (type_place s)) is.polarity (layout.type.tree s)

  -- what may flow in at a negative state is below its value
  enters_value : (level : Bool) (mode : Mode) (n i : ℕ) → polarity_at a n ≡ Negative → Enters a R (IsIn pairs) layout.parts type_place n i → Shown level mode i (layout.value n)
  enters_value level mode n i is it = member_inside book [] IsItself Claims level Positive mode i i (layout.value n) ((layout.values n is).each i it) (based refl)

  -- what a negative state is the meet of
  abbrev pub IsLeaf : ℕ → ℕ → Type 0
  IsLeaf n j = Contains (layout.parts n) j ⊎ (layout.value n ≡ j)

  -- a part of a related state
  part_leaf : (level : Bool) (mode : Mode) (p n i j : ℕ) → R p n → Contains (layout.parts p) i → IsLeaf n j → Shown level mode i j
  part_leaf level mode p n i j it in_p (inl in_n) =
      let at = (layout.heads p).all i in_p in
      let at' = (layout.heads n).all j in_n in
      related_parts book [] IsItself Claims place a IsGoal free follows p n it level mode at.0 at'.0 i j
      (subst (λ q. IsKindAt book place q (parts_of (head_at a p)) at.0 i) (is_positive p n it) at.1)
      (subst (λ q. IsKindAt book place q (parts_of (head_at a n)) at'.0 j) (is_negative p n it) at'.1)
  part_leaf level mode p n i j it in_p (inr e) = subst (Shown level mode i) e (enters_value level mode n i (is_negative p n it) (inr (inl (p, it, in_p))))

  -- a state of the type, from which an edge leads to a related state
  type_leaf : (level : Bool) (mode : Mode) (k p s n j : ℕ) → HasFlow a k p → R p n → IsIn pairs k s → IsLeaf n j → Shown level mode (type_place s) j
  type_leaf level mode k p s n j edge it pair (inl in_n) =
      let is_k = from_negative k p edge in
      let reached = is_solved.reaching k n (subst (λ q. ReachesBy a R q k n) (sym is_k) (p, edge, it)) in
      let found = part_inside level (exchanged mode) Negative k s n j is_k (is_negative p n it) pair reached in_n in
      member_below book [] IsItself Claims level mode (type_place s) found.0 j
      ((type_tree Negative s (partner k s Negative is_k pair)).each found.0 (inl found.1))
      (exchanged-forth book [] IsItself Claims level mode found.0 j found.2)
  type_leaf level mode k p s n j edge it pair (inr e) =
      subst (Shown level mode (type_place s)) e (enters_value level mode n (type_place s) (is_negative p n it) (inr (inr (k, p, s, edge, it, pair, refl))))

  -- a related pair: the positive state is below each part of the negative one
  pub related_leaf : (level : Bool) (mode : Mode) (p n j : ℕ) → R p n → IsLeaf n j → Shown level mode (place p) j
  related_leaf level mode p n j it leaf =
      only_inside book [] IsItself Claims level Positive mode (λ i. Contains (layout.parts p) i ⊎ ((m : ℕ) × HasFlow a m p × (layout.value m ≡ i))) (place p) j (layout.positive p (is_positive p n it)).only by_leaf
    where
      by_entered : (m i : ℕ) → HasFlow a m p → Enters a R (IsIn pairs) layout.parts type_place m i → Shown level mode i j
      by_entered m i edge (inl (s, pair, e)) = subst (λ z. Shown level mode z j) e (type_leaf level mode m p s n j edge it pair leaf)
      by_entered m i edge (inr (inl (p', it', in_p'))) = part_leaf level mode p' n i j (along it' edge it) in_p' leaf
      by_entered m i edge (inr (inr (k, p', s, edge', it', pair, e))) = subst (λ z. Shown level mode z j) e (type_leaf level mode k p' s n j edge' (along it' edge it) pair leaf)

      by_leaf : (i : ℕ) → Contains (layout.parts p) i ⊎ ((m : ℕ) × HasFlow a m p × (layout.value m ≡ i)) → Shown level mode i j
      by_leaf i (inl in_p) = part_leaf level mode p n i j it in_p leaf
      by_leaf i (inr (m, edge, e)) =
          subst (λ z. Shown level mode z j) e
          (only_inside book [] IsItself Claims level Positive mode (Enters a R (IsIn pairs) layout.parts type_place m) (layout.value m) j (layout.values m (from_negative m p edge)).only
          (λ l entered. by_entered m l edge entered))

  pub related_shown : (level : Bool) (mode : Mode) (p n : ℕ) → R p n → Shown level mode (place p) (place n)
  related_shown level mode p n it =
      below_only book [] IsItself Claims level mode (IsLeaf n) (place p) (place n) (layout.negative n (is_negative p n it)).only
      (λ j leaf. related_leaf level mode p n j it leaf)

  -- what goes into the head of a positive state with this partner
  part_below_type : (level : Bool) (mode : Mode) (q s j i : ℕ) → polarity_at a q ≡ Positive → polarity_at a j ≡ Positive → IsIn pairs q s → Contains (is_solved.members q) j → Contains (layout.parts j) i → Shown level mode i (type_place s)
  part_below_type level mode q s j i is_q is_j pair there in_j =
      let found = part_inside level mode Positive q s j i is_q is_j pair there in_j in
      member_inside book [] IsItself Claims level Positive mode i found.0 (type_place s) ((type_tree Positive s (partner q s Positive is_q pair)).each found.0 (inl found.1)) found.2

  pub below_type_shown : (level : Bool) (mode : Mode) (q s : ℕ) → IsIn pairs q s → polarity_at a q ≡ Positive → Shown level mode (place q) (type_place s)
  below_type_shown level mode q s pair is =
      only_inside book [] IsItself Claims level Positive mode (λ i. Contains (layout.parts q) i ⊎ ((m : ℕ) × HasFlow a m q × (layout.value m ≡ i))) (place q) (type_place s) (layout.positive q is).only by_leaf
    where
      reached : (m p : ℕ) → HasFlow a m q → R p m → Contains (is_solved.members q) p
      reached m p edge it = is_solved.reaching q p (subst (λ z. ReachesBy a R z q p) (sym is) (m, it, edge))

      ordered : (m w : ℕ) → HasFlow general.automaton m q → polarity_at a m ≡ Negative → IsIn pairs m w → Shown level mode (type_place w) (type_place s)
      ordered m w edge is_m pair' = in_type_shown level mode w s (walk.flows m q w s edge pair' pair) (partner m w Negative is_m pair') (partner q s Positive is pair)

      by_entered : (m i : ℕ) → HasFlow a m q → Enters a R (IsIn pairs) layout.parts type_place m i → Shown level mode i (type_place s)
      by_entered m i edge (inl (w, pair', e)) = subst (λ z. Shown level mode z (type_place s)) e (ordered m w (is_solved.old_flows m q edge) (from_negative m q edge) pair')
      by_entered m i edge (inr (inl (p, it, in_p))) = part_below_type level mode q s p i is (is_positive p m it) pair (reached m p edge it) in_p
      by_entered m i edge (inr (inr (k, p, w, edge', it, pair', e))) =
          subst (λ z. Shown level mode z (type_place s)) e (ordered k w (is_solved.new_flows k q (p, m, edge', it, edge)) (from_negative k p edge') pair')

      by_leaf : (i : ℕ) → Contains (layout.parts q) i ⊎ ((m : ℕ) × HasFlow a m q × (layout.value m ≡ i)) → Shown level mode i (type_place s)
      by_leaf i (inl in_q) = part_below_type level mode q s q i is is pair (is_solved.self q) in_q
      by_leaf i (inr (m, edge, e)) =
          subst (λ z. Shown level mode z (type_place s)) e
          (only_inside book [] IsItself Claims level Positive mode (Enters a R (IsIn pairs) layout.parts type_place m) (layout.value m) (type_place s) (layout.values m (from_negative m q edge)).only
          (λ j entered. by_entered m j edge entered))

  pub above_type_shown : (level : Bool) (mode : Mode) (n s : ℕ) → IsIn pairs n s → polarity_at a n ≡ Negative → Shown level mode (type_place s) (place n)
  above_type_shown level mode n s pair is =
      below_only book [] IsItself Claims level mode (λ j. Contains (layout.parts n) j ⊎ (layout.value n ≡ j)) (type_place s) (place n) (layout.negative n is).only by_leaf
    where
      by_leaf : (j : ℕ) → Contains (layout.parts n) j ⊎ (layout.value n ≡ j) → Shown level mode (type_place s) j
      by_leaf j (inl in_n) =
          let found = part_inside level (exchanged mode) Negative n s n j is is pair (is_solved.self n) in_n in
          member_below book [] IsItself Claims level mode (type_place s) found.0 j
          ((type_tree Negative s (partner n s Negative is pair)).each found.0 (inl found.1))
          (exchanged-forth book [] IsItself Claims level mode found.0 j found.2)
      by_leaf j (inr e) = subst (Shown level mode (type_place s)) e (enters_value level mode n (type_place s) is (inl (s, pair, refl)))

  each_shown : (mode : Mode) (i j : ℕ) → Claims mode i j → Shown false mode i j
  each_shown mode i j (related p n it e e') = subst (λ z. Shown false mode z j) e (subst (Shown false mode (place p)) e' (related_shown false mode p n it))
  each_shown mode i j (below_type q s it is e e') = subst (λ z. Shown false mode z j) e (subst (Shown false mode (place q)) e' (below_type_shown false mode q s it is))
  each_shown mode i j (above_type n s it is e e') = subst (λ z. Shown false mode z j) e (subst (Shown false mode (type_place s)) e' (above_type_shown false mode n s it is))
  each_shown mode i j (in_type n p it is_n is_p e e') = subst (λ z. Shown false mode z j) e (subst (Shown false mode (type_place n)) e' (in_type_shown false mode n p it is_n is_p))

  -- all claims of a part are justified by what follows from them
  pub part_shown : AreShown book [] IsItself Claims
  part_shown = record {
    basic = λ mode i j e. subst (IsJustified book [] (Shown true) mode i) e (itself_justified book Claims mode i);
    others = each_shown;
  }
