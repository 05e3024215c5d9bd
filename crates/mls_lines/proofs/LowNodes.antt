-- The nodes that environments and conclusions name are nodes of the book.
--     there_low, arrow_low, fields_low, field_low     a node of which something is known, a function, a field of a record
--     below_longer, env_more, nodes_more, firsts_more, globals_more       in a longer book
--     entries_low, pairs_low      the entries of an environment, and the pairs that go over from it
--     entry_low, none_low, with_low, without_low, placed_low, joined_low, all_joined_low, met_low       environments of several parts
--     offered_low, offers_low     what a part is offered
--     up, grown_offers_low, grown_joined_low, two_low, three_low, parts_low       what several parts are offered
--     puts_low, no_puts_own, step_low, with_puts_low, joins_put_low, first_puts_low, let_puts_low, puts_joined_low     conclusions
use Rattle.std.proofs.Common.{◌≡◌, ◌≢◌, inl, inr, ℕ, zero, suc, ◌+◌, ◌<◌, Bool, true, false, cond, List, [], ◌∷◌, ◌++◌, length, refl, sym, ap, ◌∙◌, subst, arith, length-append, Option, Some, None}
use Rattle.std.specs.Prelude.{All, find, option_map, ◌==◌}
use Rattle.std.specs.List.{flat_map}
use Rattle.std.specs.BTreeMap.{BTreeMap, get}
use Rattle.std.specs.FinMap as env
use Rattle.std.specs.FinMap.{get-empty}
use Rattle.std.specs.Ordering.{nat_cmp, eq_by_cmp}
use Rattle.std.proofs.lemmas.List.Elements.{All-nil, All-cons, All-head, All-tail, All-append}
use Rattle.mls_automaton.specs.declared.automaton.Flow.{Flow}
use Rattle.mls_automaton.specs.declared.scheme.Scheme.{Scheme}
use Rattle.mls_book.specs.declared.book.Field.{Field}
use Rattle.mls_book.specs.declared.book.Node.{Node}
use Rattle.mls_book.specs.declared.book.Node.TheVariants as node
use Rattle.mls_book.specs.declared.book.NodeId.{NodeId}
use Rattle.mls_book.specs.Books.{node_at, field_at, IsClosedBook}
use Rattle.mls_book.proofs.Children.{HasChildrenIn, at_found, closed_children}
use Rattle.mls_term.specs.declared.term.Part.{Part}
use Rattle.mls_term.specs.Derivations.{IsMeetAt}
use Rattle.mls_deriv.specs.declared.claim.Put.{Put}
use Rattle.mls_deriv.specs.declared.derivation.BinderNode.{BinderNode}
use Rattle.mls_deriv.specs.declared.derivation.Mode.TheVariants.{Lr, Rl}
use Rattle.mls_deriv.specs.declared.derivation.StepLine.{StepLine}
use Rattle.mls_deriv.specs.Pairs.{put_at}
use Rattle.mls_deriv.specs.Steps.{IsRising}
use Rattle.mls_layout.specs.declared.layout.Places.{Places}
use Rattle.mls_layout.specs.Emitted.{binder_pair, pair_with}
use Rattle.mls_layout.specs.LaidOut.{IsLonger}
use Rattle.mls_layout.specs.Plans.{HaveOwnVariables}
use Rattle.mls_layout.specs.Scopes.{entry}
use Rattle.mls_pairs.specs.PairLists.{IsInside, pair_of}
use Rattle.mls_parts.specs.declared.pose.Posing.{Posing}
use Rattle.mls_parts.specs.Posings.{binder_in}
use Rattle.mls_lines.specs.declared.known.FirstPart.{FirstPart}
use Rattle.mls_lines.specs.declared.known.GlobalAt.{GlobalAt}
use Rattle.mls_lines.specs.declared.steps.Conclusion as conclusion
use Rattle.mls_lines.specs.declared.steps.Steps.{Steps}
use Rattle.mls_lines.specs.declared.writer.Concluded as written
use Rattle.mls_lines.specs.declared.writer.Concluded.TheVariants.{Bound, Step}
use Rattle.mls_lines.specs.declared.writer.Writer as state
use Rattle.mls_lines.specs.Conclusions.{Concluded, Conclusion, a_binder, by_step, IsWith, IsWithout, IsPlaced, IsOffered, IsJoined, ComesFrom, AreJoined, no_more, one_more}
use Rattle.mls_lines.specs.Environments.{IsMetIn}
use Rattle.mls_lines.specs.PlainLines.{HaveLowFirsts, HaveLowGlobals, HaveLowPlaces, IsSound, JoinsThree}
use Rattle.mls_lines.specs.Puts.{AreJoins, ArePutsOfFirst, IsJoinOf, IsNodeOfCopy, IsPutOfEdge}
use Rattle.mls_lines.specs.Showing.{shown_by}
use Rattle.mls_lines.specs.PlainRecords.{JoinsParts, OfferAll}
use Rattle.mls_lines.specs.Stepping.{binder_node, conclusion_of, pairs_over, AddsStep}
use Rattle.mls_lines.specs.Writer.{concluded_of, own_node, Grows, HasLowEnv, HasLowNodes, Offers}
use Rattle.mls_lines.proofs.PutLists.{puts_hold}
use Rattle.mls_lines.proofs.Scopes.{looked, got, same_key, itself_key}

-- a node of which something is known is one of the book
pub there_low : (book : List Node) (i : ℕ) (v : Node) → (v ≡ node.Bot → ⊥) → node_at book i ≡ v → i < length book
there_low [] i v other is = absurd (other (sym is))
there_low (first ∷ book) zero v other is = omega arith
there_low (first ∷ book) (suc i) v other is = let low : i < length book = there_low book i v other is in omega (arith, low)

-- a function, and a field of a record, in a closed book
module _ (book : List Node) (closed : IsClosedBook book) where
  children : (i : ℕ) (v : Node) → (v ≡ node.Bot → ⊥) → node_at book i ≡ v → HasChildrenIn (λ k. k < length book) v
  children i v other is = subst (HasChildrenIn (λ k. k < length book)) is (closed_children book closed.closed i (there_low book i v other is))

  pub arrow_low : (i : ℕ) (from to : NodeId) → node_at book i ≡ node.Arrow from to → (i < length book) × (from.0 < length book) × (to.0 < length book)
  arrow_low i from to is =
      let both = children i (node.Arrow from to) (λ no. absurd (cc)) is in
      (there_low book i (node.Arrow from to) (λ no. absurd (cc)) is, both.0, both.1)

  pub fields_low : (i : ℕ) (fields : List Field) → node_at book i ≡ node.Rcd fields → All (λ (f : Field). f.node.0 < length book) fields
  fields_low i fields is = children i (node.Rcd fields) (λ no. absurd (cc)) is

  pub field_low : (i : ℕ) (fields : List Field) (label : List ℕ) (to : NodeId) → node_at book i ≡ node.Rcd fields → field_at label fields ≡ Some to → to.0 < length book
  field_low i fields label to is found = at_found (λ k. k < length book) label fields (fields_low i fields is) to found

-- in a longer book
pub below_longer : (book longer : List Node) (i : ℕ) → IsLonger book longer → i < length book → i < length longer
below_longer book longer i (more, is) low =
    let all : length longer ≡ length book + length more = ap (λ (l : List Node). length l) is ∙ length-append book more in
    omega (arith, all, low)

module _ (n m : ℕ) (more : (i : ℕ) → i < n → i < m) where
  pub env_more : (d : List BinderNode) → HasLowEnv n d → HasLowEnv m d
  env_more d low = λ x i found. more i (low x i found)

  pub nodes_more : (c : conclusion.Conclusion) → HasLowNodes n c → HasLowNodes m c
  nodes_more c low = record {
    root = more c.root.0 low.root;
    env = λ x i found. more i (low.env x i found);
    puts = λ x i found. more i (low.puts x i found);
    own = low.own;
  }

  pub firsts_more : (firsts : BTreeMap ℕ FirstPart) → HaveLowFirsts n firsts → HaveLowFirsts m firsts
  firsts_more firsts low = λ k part found. let it = low k part found in (more part.root.0 it.0, env_more part.env it.1)

  pub globals_more : (globals : BTreeMap ℕ GlobalAt) → HaveLowGlobals n globals → HaveLowGlobals m globals
  globals_more globals low = λ g known found. more known.root.0 (low g known found)

-- the entries of an environment that rises
abbrev IsLow : ℕ → BinderNode → Type 0
IsLow n e = e.node.0 < n

behind_none : (x : ℕ) (d : List BinderNode) → All (λ (later : BinderNode). x < later.binder) d → looked d x ≡ None
behind_none x [] all = refl
behind_none x (e ∷ d) all = by_test (eq_by_cmp nat_cmp x e.binder) refl (behind_none x d (All-tail (λ (later : BinderNode). x < later.binder) e d all))
  where
    by_test : (t : Bool) → eq_by_cmp nat_cmp x e.binder ≡ t → looked d x ≡ None → cond t (Some e.node.0) (looked d x) ≡ None
    by_test true is later =
        let less : x < e.binder = All-head (λ (later : BinderNode). x < later.binder) e d all in
        let same : x ≡ e.binder = same_key x e.binder is in
        absurd (omega (arith, less, same))
    by_test false is later = later

looked_low : (n : ℕ) (d : List BinderNode) → IsRising d → ((x m : ℕ) → looked d x ≡ Some m → m < n) → All (IsLow n) d
looked_low n [] rising low = All-nil (IsLow n)
looked_low n (e ∷ d) rising low =
    All-cons (IsLow n) e d (low e.binder e.node.0 (ap (λ t. cond t (Some e.node.0) (looked d e.binder)) (itself_key e.binder)))
    (looked_low n d rising.1 (λ x m found. low x m (past x m found (eq_by_cmp nat_cmp x e.binder) refl)))
  where
    past : (x m : ℕ) → looked d x ≡ Some m → (t : Bool) → eq_by_cmp nat_cmp x e.binder ≡ t → cond t (Some e.node.0) (looked d x) ≡ Some m
    past x m found true is =
        let none : looked d x ≡ None = ap (looked d) (same_key x e.binder is) ∙ behind_none e.binder d rising.0 in
        absurd (let wrong : None ≡ Some m = sym none ∙ found in cc)
    past x m found false is = found

pub entries_low : (n : ℕ) (d : List BinderNode) → IsRising d → HasLowEnv n d → All (IsLow n) d
entries_low n d rising low = looked_low n d rising (λ x m found. low x m (got d x ∙ found))

-- the pairs that go over from it
module _ (n : ℕ) (later : List BinderNode) (low : HasLowEnv n later) where
  pair_low : (e : BinderNode) (o : Option ℕ) → binder_node later e.binder ≡ o → e.node.0 < n → All (IsInside n) (pair_with o e.node.0)
  pair_low e None is h = All-nil (IsInside n)
  pair_low e (Some m) is h = All-cons (IsInside n) (pair_of Rl m e.node.0) [] (low e.binder m is, h) (All-nil (IsInside n))

  all_pairs_low : (d : List BinderNode) → All (IsLow n) d → All (IsInside n) (flat_map (binder_pair later) d)
  all_pairs_low [] all = All-nil (IsInside n)
  all_pairs_low (e ∷ d) all =
      All-append (IsInside n) (binder_pair later e) (flat_map (binder_pair later) d) (pair_low e (binder_node later e.binder) refl (All-head (IsLow n) e d all))
      (all_pairs_low d (All-tail (IsLow n) e d all))

  pub pairs_low : (earlier : List BinderNode) (from to : ℕ) → IsRising earlier → HasLowEnv n earlier → from < n → to < n → All (IsInside n) (pairs_over earlier later from to)
  pairs_low earlier from to rising earlier_low from_low to_low =
      All-cons (IsInside n) (pair_of Lr from to) (flat_map (binder_pair later) earlier) (from_low, to_low) (all_pairs_low earlier (entries_low n earlier rising earlier_low))

-- environments of several parts
some_same : {x y : ℕ} → Some x ≡ Some y → x ≡ y
some_same e = cc

differ : (y x : ℕ) → eq_by_cmp nat_cmp y x ≡ false → y ≡ x → ⊥
differ y x e same = let yes : eq_by_cmp nat_cmp y x ≡ true = ap (λ z. eq_by_cmp nat_cmp z x) same ∙ itself_key x in absurd (cc)

pub entry_low : (n x u : ℕ) → u < n → HasLowEnv n (entry x u ∷ [])
entry_low n x u low = λ y m found. by_test y m (eq_by_cmp nat_cmp y x) (sym (got (entry x u ∷ []) y) ∙ found)
  where
    by_test : (y m : ℕ) (t : Bool) → cond t (Some u) None ≡ Some m → m < n
    by_test y m true found = subst (λ k. k < n) (some_same found) low
    by_test y m false found = absurd (cc)

pub none_low : (n : ℕ) → HasLowEnv n []
none_low n = λ x m found. absurd (let none : binder_node [] x ≡ None = get-empty nat_cmp x in let wrong : None ≡ Some m = sym none ∙ found in cc)

pub with_low : (n : ℕ) (d longer : List BinderNode) (x i : ℕ) → IsWith d x i longer → i < n → HasLowEnv n d → HasLowEnv n longer
with_low n d longer x i it i_low low = λ y m found. by_test y m found (eq_by_cmp nat_cmp y x) refl
  where
    by_test : (y m : ℕ) → binder_node longer y ≡ Some m → (t : Bool) → eq_by_cmp nat_cmp y x ≡ t → m < n
    by_test y m found true is = subst (λ k. k < n) (some_same (sym it.found ∙ (ap (binder_node longer) (sym (same_key y x is)) ∙ found))) i_low
    by_test y m found false is = low y m (sym (it.others y (differ y x is)) ∙ found)

pub without_low : (n : ℕ) (d shorter : List BinderNode) (x : ℕ) → IsWithout d x shorter → HasLowEnv n d → HasLowEnv n shorter
without_low n d shorter x it low = λ y m found. by_test y m found (eq_by_cmp nat_cmp y x) refl
  where
    by_test : (y m : ℕ) → binder_node shorter y ≡ Some m → (t : Bool) → eq_by_cmp nat_cmp y x ≡ t → m < n
    by_test y m found true is =
        let none : binder_node shorter y ≡ None = ap (binder_node shorter) (same_key y x is) ∙ it.gone in
        absurd (let wrong : None ≡ Some m = sym none ∙ found in cc)
    by_test y m found false is = low y m (sym (it.others y (differ y x is)) ∙ found)

module _ (node_of : ℕ → ℕ) (n : ℕ) (places : (x : ℕ) → node_of x < n) where
  pub placed_low : (d placed : List BinderNode) → IsPlaced node_of d placed → HasLowEnv n placed
  placed_low d placed it = λ x m found.
      let earlier = it.only x m found in
      subst (λ k. k < n) (some_same (sym (it.each x earlier.0 earlier.1) ∙ found)) (places x)

  pub offered_low : (c : Conclusion) (u : ℕ) (d : List BinderNode) → HasLowEnv n c.env → IsOffered node_of (by_step c) u d → HasLowEnv n d
  offered_low c u d low (inl (none, same)) = subst (HasLowEnv n) (sym same) low
  offered_low c u d low (inr placed) = placed_low c.env d placed

module _ (node_of : ℕ → ℕ) (book : List Node) (places : (x : ℕ) → node_of x < length book) where
  pub joined_low : (d e joined : List BinderNode) → IsJoined node_of book d e joined → HasLowEnv (length book) d → HasLowEnv (length book) e → HasLowEnv (length book) joined
  joined_low d e joined it d_low e_low = λ x n found. from x n (it.from x n found)
    where
      from : (x n : ℕ) → ComesFrom node_of book (binder_node d x) (binder_node e x) x n → n < length book
      from x n (inl left) = d_low x n left
      from x n (inr (inl right)) = e_low x n right
      from x n (inr (inr (inl (own, m, left)))) = subst (λ k. k < length book) (sym own) (places x)
      from x n (inr (inr (inr (l, r, is, left, right)))) = there_low book n (node.Meet l r) (λ no. absurd (cc)) is

  pub all_joined_low : (d last : List BinderNode) (offered : List (List BinderNode)) → AreJoined node_of book d offered last → HasLowEnv (length book) d → All (HasLowEnv (length book)) offered
      → HasLowEnv (length book) last
  all_joined_low d last offered no_more low all = low
  all_joined_low d last offered (one_more {e = first} {joined = next} {rest = rest} joins later) low all =
      all_joined_low next last rest later (joined_low d first next joins low (All-head (HasLowEnv (length book)) first rest all)) (All-tail (HasLowEnv (length book)) first rest all)

pub met_low : (book : List Node) (d e met : List BinderNode) → IsMetIn book d e met → HasLowEnv (length book) d → HasLowEnv (length book) e → HasLowEnv (length book) met
met_low book d e met it d_low e_low = λ x n found. by_both x n (binder_node d x) refl (binder_node e x) refl (it.meets x) found
  where
    by_both : (x n : ℕ) (left : Option ℕ) → binder_node d x ≡ left → (right : Option ℕ) → binder_node e x ≡ right → IsMeetAt book left right (binder_node met x) → binder_node met x ≡ Some n → n < length book
    by_both x n None left right at_right both found = e_low x n (at_right ∙ (sym both ∙ found))
    by_both x n (Some i) left None at_right both found = d_low x n (left ∙ (sym both ∙ found))
    by_both x n (Some i) left (Some j) at_right (k, both, is) found =
        subst (λ m. m < length book) (some_same (sym both ∙ found)) (there_low book k (node.Meet (record { 0 = i }) (record { 0 = j })) (λ no. absurd (cc)) is)

-- what a part is offered
module _ (w : state.Writer) (p : Posing) (sound : IsSound w) where
  pub offers_low : (i u : ℕ) (d : List BinderNode) → u < length w.laid.book → Offers w p i u d → HasLowEnv (length w.laid.book) d
  offers_low i u d u_low it = by_known (get nat_cmp w.concluded i) refl it.known
    where
      by_known : (o : Option written.Concluded) → get nat_cmp w.concluded i ≡ o → option_map concluded_of o ≡ Some it.own → HasLowEnv (length w.laid.book) d
      by_known None is known = absurd (cc)
      by_known (Some (Bound x)) is known =
          let own : it.own ≡ a_binder x = (let h : Some (a_binder x) ≡ Some it.own = known in cc) in
          let same : d ≡ entry x u ∷ [] = subst (λ (o : Concluded). IsOffered (own_node w p) o u d) own it.offers in
          subst (HasLowEnv (length w.laid.book)) (sym same) (entry_low (length w.laid.book) x u u_low)
      by_known (Some (Step c)) is known =
          let own : it.own ≡ by_step (conclusion_of c) = (let h : Some (by_step (conclusion_of c)) ≡ Some it.own = known in cc) in
          offered_low (own_node w p) (length w.laid.book) (λ x. sound.places (binder_in p x)) (conclusion_of c) u d (sound.low i c is).env
          (subst (λ (o : Concluded). IsOffered (own_node w p) o u d) own it.offers)

-- what several parts are offered, in one environment of a book that has grown
module _ (old grown : state.Writer) (p : Posing) (sound : IsSound old) (grows : Grows old grown) where
  pub up : (n : ℕ) → n < length old.laid.book → n < length grown.laid.book
  up n low = below_longer old.laid.book grown.laid.book n (grows.more, grows.book) low

  pub grown_offers_low : (i u : ℕ) (d : List BinderNode) → u < length old.laid.book → Offers old p i u d → HasLowEnv (length grown.laid.book) d
  grown_offers_low i u d u_low it = env_more (length old.laid.book) (length grown.laid.book) up d (offers_low old p sound i u d u_low it)

  own_places : (x : ℕ) → own_node old p x < length grown.laid.book
  own_places x = up (own_node old p x) (sound.places (binder_in p x))

  pub grown_joined_low : (d e joined : List BinderNode) → IsJoined (own_node old p) grown.laid.book d e joined → HasLowEnv (length grown.laid.book) d → HasLowEnv (length grown.laid.book) e
      → HasLowEnv (length grown.laid.book) joined
  grown_joined_low d e joined it d_low e_low = joined_low (own_node old p) grown.laid.book own_places d e joined it d_low e_low

  pub two_low : (i j u v : ℕ) (left right joined : List BinderNode) → Offers old p i u left → Offers old p j v right → u < length old.laid.book → v < length old.laid.book
      → IsJoined (own_node old p) grown.laid.book left right joined → HasLowEnv (length grown.laid.book) joined
  two_low i j u v left right joined offers others u_low v_low it =
      grown_joined_low left right joined it (grown_offers_low i u left u_low offers) (grown_offers_low j v right v_low others)

  pub three_low : (j k l truth into : ℕ) (d : List BinderNode) → JoinsThree old grown p j k l truth into d → truth < length old.laid.book → into < length old.laid.book
      → HasLowEnv (length grown.laid.book) d
  three_low j k l truth into d it truth_low into_low =
      grown_joined_low it.upper it.right d it.joins (two_low j k truth into it.left it.middle it.upper it.offers_left it.offers_middle truth_low into_low it.joins_upper)
      (grown_offers_low l into it.right into_low it.offers_right)

  all_offers_low : (fields : List Field) (parts : List Part) (offered : List (List BinderNode)) → All (λ (f : Field). f.node.0 < length old.laid.book) fields → OfferAll old p fields parts offered
      → All (HasLowEnv (length grown.laid.book)) offered
  all_offers_low fields [] [] low all = All-nil (HasLowEnv (length grown.laid.book))
  all_offers_low fields [] (d ∷ offered) low all = absurd all
  all_offers_low fields (part ∷ parts) [] low all = absurd all
  all_offers_low fields (part ∷ parts) (d ∷ offered) low all =
      All-cons (HasLowEnv (length grown.laid.book)) d offered
      (grown_offers_low part.child all.0.0.0 d (at_found (λ k. k < length old.laid.book) part.label fields low all.0.0 all.0.1) all.0.2)
      (all_offers_low fields parts offered low all.1)

  pub parts_low : (id : ℕ) (fields : List Field) (parts : List Part) (d : List BinderNode) → node_at old.laid.book id ≡ node.Rcd fields → JoinsParts old grown p fields parts d
      → HasLowEnv (length grown.laid.book) d
  parts_low id fields parts d is it =
      all_joined_low (own_node old p) grown.laid.book own_places [] d it.offered it.joins (none_low (length grown.laid.book))
      (all_offers_low fields parts it.offered (fields_low old.laid.book sound.closed id fields is) it.offers)

-- conclusions
pub puts_low : (n : ℕ) (puts : List Put) → puts ≡ [] → (x m : ℕ) → put_at puts x ≡ Some m → m < n
puts_low n puts none x m found = absurd (let wrong : put_at [] x ≡ Some m = subst (λ (l : List Put). put_at l x ≡ Some m) none found in cc)

pub no_puts_own : (puts : List Put) → puts ≡ [] → HaveOwnVariables puts
no_puts_own puts none = subst HaveOwnVariables (sym none) tt

pub step_low : (n : ℕ) (old new : Steps) (step : StepLine) (own : conclusion.Conclusion) → AddsStep old new step own → step.root.0 < n → HasLowEnv n step.env → HasLowNodes n own
step_low n old new step own it root env = record {
  root = subst (λ (r : NodeId). r.0 < n) (sym it.root) root;
  env = subst (HasLowEnv n) (sym it.env) env;
  puts = puts_low n own.puts it.puts;
  own = no_puts_own own.puts it.puts;
}

-- the same with variables that are still to be put in
pub with_puts_low : (n : ℕ) (own : conclusion.Conclusion) (puts : List Put) → HasLowNodes n own → ((x m : ℕ) → put_at puts x ≡ Some m → m < n) → HaveOwnVariables puts
    → HasLowNodes n (record own { puts = puts })
with_puts_low n own puts it low own_variables = record { root = it.root; env = it.env; puts = low; own = own_variables }

-- what stands for the variables of a name's type
pub joins_put_low : (book : List Node) (place : ℕ → ℕ) (showing : BTreeMap ℕ (List ℕ)) (variables : ℕ) (puts : List Put) → AreJoins book place showing variables puts → (x m : ℕ) → put_at puts x ≡ Some m
    → m < length book
joins_put_low book place showing variables puts it x m found = (puts_hold (λ y. IsJoinOf book place (shown_by showing y)) 0 puts it.each x m found).0

of_edge : (IsNode : ℕ → ℕ → Type 0) (edges : List Flow) (first x node : ℕ) (P : Type 0) → ((s : ℕ) → IsNode s node → P) → IsPutOfEdge IsNode edges first x node → P
of_edge IsNode edges first x node P then_is w = then_is w.1.negative.0 w.4

-- and for those of a let's first part
module _ (n : ℕ) (places : Places) (p : Posing) (lets : BTreeMap ℕ Scheme) (node k variable : ℕ) (puts : List Put) (low : HaveLowPlaces n places) where
  copy_low : (known : Scheme) (first s m : ℕ) → IsNodeOfCopy places p known first s m → m < n
  copy_low known first s m (copy, is_copy, place) = subst (λ i. i < n) (sym place) (low copy)

  pub first_puts_low : ArePutsOfFirst places p lets node k variable puts → (x m : ℕ) → put_at puts x ≡ Some m → m < n
  first_puts_low it x m found =
      let IsNode = IsNodeOfCopy places p it.known it.first in
      of_edge IsNode it.known.automaton.flows variable x m (m < n) (λ s is. copy_low it.known it.first s m is)
      (puts_hold (IsPutOfEdge IsNode it.known.automaton.flows variable) variable puts it.edges.each x m found)

  pub let_puts_low : (d : List BinderNode) → (d ≡ [] → puts ≡ []) → (d ≢ [] → ArePutsOfFirst places p lets node k variable puts) → (x m : ℕ) → put_at puts x ≡ Some m → m < n
  let_puts_low [] none edges x m found = puts_low n puts (none refl) x m found
  let_puts_low (first ∷ rest) none edges x m found = first_puts_low (edges (λ no. absurd (cc))) x m found

-- variables of two lists
pub puts_joined_low : (n : ℕ) (first second : List Put) (x m : ℕ) → (put_at first x ≡ Some m → m < n) → (put_at second x ≡ Some m → m < n) → put_at (first ++ second) x ≡ Some m → m < n
puts_joined_low n [] second x m first_low second_low found = second_low found
puts_joined_low n (put ∷ first) second x m first_low second_low found =
    by_test (put.variable == x) refl found first_low (λ low later. puts_joined_low n first second x m low second_low later)
  where
    by_test : (t : Bool) → (put.variable == x) ≡ t → option_map (λ (p : Put). p.node) (cond t (Some put) (find (λ (p : Put). p.variable == x) (first ++ second))) ≡ Some m
        → (option_map (λ (p : Put). p.node) (cond t (Some put) (find (λ (p : Put). p.variable == x) first)) ≡ Some m → m < n)
        → ((put_at first x ≡ Some m → m < n) → put_at (first ++ second) x ≡ Some m → m < n) → m < n
    by_test true is at low later = low at
    by_test false is at low later = later low at
