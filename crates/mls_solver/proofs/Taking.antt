-- What follows from the pairs of a room, one pair after another.
use Rattle.std.proofs.Common.{◌≡◌, ◌⊎◌, inl, inr, ℕ, zero, suc, ◌+◌, ◌<◌, ◌≤◌, ◌==◌, Bool, true, false, List, [], ◌∷◌, ◌++◌, refl, sym, ap, ◌∙◌, subst, arith, append_assoc, append-nil, length, length-append, take, get_or, Contains, Some, None}
use Rattle.std.specs.Prelude.{Option, slice_get}
use Rattle.std.proofs.lemmas.Bool.{eqb-true, eqb-false}
use Rattle.std.proofs.lemmas.List.{get_or_default, get_or_append_left}
use Rattle.std.proofs.lemmas.List.Elements.{Contains-append_left}
use Rattle.mls_automaton.specs.declared.automaton.Polarity.TheVariants.{Positive, Negative}
use Rattle.mls_automaton.specs.declared.automaton.Arms.{Arms}
use Rattle.mls_automaton.specs.declared.automaton.FieldSet.{FieldSet}
use Rattle.mls_automaton.specs.Automata.{Automaton, polarity_at, head_at, flow, HasFlow, IsPartner, IsState}
use Rattle.mls_automaton.specs.Heads.{set_at, AreRising}
use Rattle.mls_automaton.specs.Models.{HasRisingLabels, IsClosed}
use Rattle.mls_automaton.proofs.Lists.{Contains-later}
use Rattle.mls_automaton.proofs.CombinedStates.{found_at}
use Rattle.mls_solver.specs.Relations.{InDomain, InCodomain, InField, IsRelated, goal, domain, codomain, field, along}
use Rattle.mls_solver.specs.Rooms.{Room, Holds, HoldsJust}
use Rattle.mls_solver.specs.steps.Growth.{Relates}
use Rattle.mls_solver.specs.steps.Consequences.{ByFunctions, ByRecords, ByHeads, IsRoomOf, Follows, HasConsequences, first_of, second_of, AreTaken}
use Rattle.mls_solver.proofs.RelatedHeads.{IsFieldAt, set_at-field}
use Rattle.mls_solver.proofs.Following.{related_states}
use Rattle.mls_solver.proofs.Relating.{taken-cases, Relates-kept}

pub slice_get-contains : {X : Type 0} (xs : List X) (i : ℕ) (x : X) → slice_get xs i ≡ Some x → Contains xs x
slice_get-contains [] i x e = absurd (cc)
slice_get-contains (y ∷ ys) zero x e = let same : y ≡ x = cc in (0, omega arith, same)
slice_get-contains (y ∷ ys) (suc i) x e = Contains-later y ys x (slice_get-contains ys i x e)

-- what is related by goals that are related
pub related-through : (a : Automaton) (First Second : ℕ → ℕ → Type 0) → ((p n : ℕ) → First p n → IsRelated a Second p n) → (p n : ℕ) → IsRelated a First p n → IsRelated a Second p n
related-through a First Second by p n (goal is) = by p n is
related-through a First Second by q m (domain {p = p} {n = n} it left right) = domain (related-through a First Second by p n it) left right
related-through a First Second by q m (codomain {p = p} {n = n} it left right) = codomain (related-through a First Second by p n it) left right
related-through a First Second by q m (field {p = p} {n = n} label it left right) = field label (related-through a First Second by p n it) left right
related-through a First Second by p m (along {n = n} {q = q} it edge later) = along (related-through a First Second by p n it) edge (related-through a First Second by q m later)

module _ (a : Automaton) where
  pub Follows-none : (room : Room) → Follows a room room
  Follows-none room = record {
    positives = refl;
    negatives = refl;
    rows = refl;
    columns = refl;
    behind = ([], sym (append-nil room.pairs));
    sound = λ p n it. goal it;
  }

  pub Follows-kept : (old new : Room) → Follows a old new → (p n : ℕ) → Holds old p n → Holds new p n
  Follows-kept old new it p n held =
      subst (λ pairs. Contains pairs (p, n)) (sym it.behind.1) (Contains-append_left old.pairs it.behind.0 (p, n) held)

  pub Follows-then : (old mid new : Room) → Follows a old mid → Follows a mid new → Follows a old new
  Follows-then old mid new one two = record {
    positives = two.positives ∙ one.positives;
    negatives = two.negatives ∙ one.negatives;
    rows = two.rows ∙ one.rows;
    columns = two.columns ∙ one.columns;
    behind = (
      one.behind.0 ++ two.behind.0,
      two.behind.1 ∙ ((λ i. one.behind.1 i ++ two.behind.0) ∙ append_assoc old.pairs one.behind.0 two.behind.0),
    );
    sound = λ p n it. related-through a (Holds mid) (Holds old) one.sound p n (two.sound p n it);
  }

  pub Follows-by : (old new : Room) (IsNew : ℕ → ℕ → Type 0) → Relates old new IsNew → ((p n : ℕ) → IsNew p n → IsRelated a (Holds old) p n) → Follows a old new
  Follows-by old new IsNew it by = record {
    positives = it.positives;
    negatives = it.negatives;
    rows = it.rows;
    columns = it.columns;
    behind = it.behind;
    sound = λ p n held. elim (it.sound p n held) [ inl before ↦ goal before | inr here ↦ by p n here ];
  }

  pub room_of-kept : (old new : Room) → Follows a old new → IsRoomOf a old → IsRoomOf a new
  room_of-kept old new it is = record {
    row = λ p state. subst (λ rows. Contains rows p) (sym it.rows) (is.row p state);
    column = λ n state. subst (λ columns. Contains columns n) (sym it.columns) (is.column n state);
    row_is = λ p there. is.row_is p (subst (λ rows. Contains rows p) it.rows there);
    column_is = λ n there. is.column_is n (subst (λ columns. Contains columns n) it.columns there);
  }

  -- what follows by heads is related
  module _ (IsGoal : ℕ → ℕ → Type 0) (closed : IsClosed a) (p n : ℕ) (it : IsRelated a IsGoal p n) where
    by_functions : (o o' : Option Arms) → (head_at a p).function ≡ o → (head_at a n).function ≡ o' → (q m : ℕ) → ByFunctions o o' q m → IsRelated a IsGoal q m
    by_functions None o' e e' q m by = absurd by
    by_functions (Some arms) None e e' q m by = absurd by
    by_functions (Some arms) (Some others) e e' q m (inl both) = domain it (others, e', both.0) (arms, e, both.1)
    by_functions (Some arms) (Some others) e e' q m (inr both) = codomain it (arms, e, both.0) (others, e', both.1)

    by_records : (o o' : Option (List FieldSet)) → (head_at a p).fields ≡ o → (head_at a n).fields ≡ o' → (q m : ℕ) → ByRecords o o' q m → IsRelated a IsGoal q m
    by_records None o' e e' q m by = absurd by
    by_records (Some fields) None e e' q m by = absurd by
    by_records (Some fields) (Some others) e e' q m by =
        let other : FieldSet = by.0 in
        let rising : AreRising others = subst HasRisingLabels e' (closed.labels n) in
        let there = by.1 in
        let found : set_at others (get_or others there.0 other).label ≡ Some (get_or others there.0 other).set = found_at others rising there.0 other there.1 in
        let at : set_at others other.label ≡ Some other.set =
        subst (λ (f : FieldSet). set_at others f.label ≡ Some f.set) there.2 found in
        field other.label it (fields, by.2.0, e, by.2.1, by.2.2) (others, other.set, e', at, by.2.3)

    pub by_heads-related : (q m : ℕ) → ByHeads (head_at a p) (head_at a n) q m → IsRelated a IsGoal q m
    by_heads-related q m (inl by) = by_functions (head_at a p).function (head_at a n).function refl refl q m by
    by_heads-related q m (inr by) = by_records (head_at a p).fields (head_at a n).fields refl refl q m by

  -- and back
  pub domain-by_heads : (p n q m : ℕ) → InDomain a n q → InDomain a p m → ByHeads (head_at a p) (head_at a n) q m
  domain-by_heads p n q m left right =
      inl (subst (λ o. ByFunctions o (head_at a n).function q m) (sym right.1)
      (subst (λ o. ByFunctions (Some right.0) o q m) (sym left.1) (inl (left.2, right.2))))

  pub codomain-by_heads : (p n q m : ℕ) → InCodomain a p q → InCodomain a n m → ByHeads (head_at a p) (head_at a n) q m
  codomain-by_heads p n q m left right =
      inl (subst (λ o. ByFunctions o (head_at a n).function q m) (sym left.1)
      (subst (λ o. ByFunctions (Some left.0) o q m) (sym right.1) (inr (left.2, right.2))))

  pub field-by_heads : (label : List ℕ) (p n q m : ℕ) → InField a p label q → InField a n label m → ByHeads (head_at a p) (head_at a n) q m
  field-by_heads label p n q m left right =
      let at : IsFieldAt right.0 label right.1 = set_at-field right.0 label right.1 right.3 in
      let by : ByRecords (Some left.0) (Some right.0) q m = (
        at.field,
        slice_get-contains right.0 at.number at.field at.there,
        (
          left.1,
          subst (λ (l : List ℕ). set_at left.0 l ≡ Some left.1) (sym at.is_label) left.3,
          left.4,
          subst (λ (set : List ℕ). Contains set m) (sym at.is_set) right.4,
        ),
      ) in
      inr (subst (λ o. ByRecords o (head_at a n).fields q m) (sym left.2)
      (subst (λ o. ByRecords (Some left.0) o q m) (sym right.2) by))

  -- what follows from the heads of one pair
  module _ (closed : IsClosed a) (old : Room) (p n : ℕ) (held : Holds old p n) where
    pub heads-follow : (new : Room) → Relates old new (ByHeads (head_at a p) (head_at a n)) → Follows a old new
    heads-follow new it =
        Follows-by old new (ByHeads (head_at a p) (head_at a n)) it
        (λ q m by. by_heads-related (Holds old) closed p n (goal held) q m by)

    pub consequences : (one two three : Room) → Relates old one (ByHeads (head_at a p) (head_at a n)) → Follows a one two → ((q m : ℕ) → HasFlow a n q → Holds one q m → Holds two p m) → Follows a two three → ((q m : ℕ) → Holds two q m → HasFlow a m p → Holds three q n) → Follows a old three × HasConsequences a p n old three
    consequences one two three heads first after second before =
        let start : Follows a old one = heads-follow one heads in (
          Follows-then old one three start (Follows-then one two three first second),
          record {
            heads = λ q m by. Follows-kept two three second q m (Follows-kept one two first q m (heads.complete q m by));
            after = λ q m edge there. Follows-kept two three second p m (after q m edge (Follows-kept old one start q m there));
            before = λ q m there edge. before q m (Follows-kept one two first q m (Follows-kept old one start q m there)) edge;
          },
        )

  -- the heads of one pair
  module _ (closed : IsClosed a) (old : Room) (p n : ℕ) (held : Holds old p n) (is_p : IsState a Positive p) (is_n : IsState a Negative n) (room_of : IsRoomOf a old) where
    abbrev IsPair : ℕ → ℕ → Type 0
    IsPair q m = (q ≡ p) × (m ≡ n)

    are_states : (q m : ℕ) → IsPair q m → IsState a Positive q × IsState a Negative m
    are_states q m it = (subst (IsState a Positive) (sym it.0) is_p, subst (IsState a Negative) (sym it.1) is_n)

    pub heads_in_range : (q m : ℕ) → ByHeads (head_at a p) (head_at a n) q m → Contains old.rows q × Contains old.columns m
    heads_in_range q m by =
        let states = related_states a IsPair closed are_states q m (by_heads-related IsPair closed p n (goal (refl, refl)) q m by) in
        (room_of.row q states.0, room_of.column m states.1)

  -- along the edges from the negative state of a pair, and to its positive state
  module _ (closed : IsClosed a) (old : Room) (p n : ℕ) (held : Holds old p n) where
    pub partner_above : (q : ℕ) → IsState a Negative n → IsPartner a n q → HasFlow a n q
    partner_above q state (inl edge) = edge
    partner_above q state (inr edge) =
        let other : polarity_at a n ≡ Positive = (closed.positive (flow q n) edge).polarity in
        let this : polarity_at a n ≡ Negative = state.polarity in
        absurd (cc)

    pub partner_below : (m : ℕ) → IsState a Positive p → IsPartner a p m → HasFlow a m p
    partner_below m state (inr edge) = edge
    partner_below m state (inl edge) =
        let other : polarity_at a p ≡ Negative = (closed.negative (flow p m) edge).polarity in
        let this : polarity_at a p ≡ Positive = state.polarity in
        absurd (cc)

    pub after-follows : (mid new : Room) (q : ℕ) → HasFlow a n q → Follows a old mid → Relates mid new (λ r m. (r ≡ p) × Holds mid q m) → Follows a old new
    after-follows mid new q edge so_far it =
        Follows-then old mid new so_far
        (Follows-by mid new (λ r m. (r ≡ p) × Holds mid q m) it
        (λ r m new_pair.
        subst (λ i. IsRelated a (Holds mid) i m) (sym new_pair.0)
        (along (goal (Follows-kept old mid so_far p n held)) edge (goal new_pair.1))))

    pub before-follows : (mid new : Room) (m : ℕ) → HasFlow a m p → Follows a old mid → Relates mid new (λ q r. (r ≡ n) × Holds mid q m) → Follows a old new
    before-follows mid new m edge so_far it =
        Follows-then old mid new so_far
        (Follows-by mid new (λ q r. (r ≡ n) × Holds mid q m) it
        (λ q r new_pair.
        subst (λ i. IsRelated a (Holds mid) q i) (sym new_pair.0)
        (along (goal new_pair.1) edge (goal (Follows-kept old mid so_far p n held)))))

    pub after-more : (mid new : Room) (xs : List ℕ) (i : ℕ) → i < length xs → Follows a old mid → ((q m : ℕ) → Contains (take i xs) q → Holds old q m → Holds mid p m) → Relates mid new (λ r m. (r ≡ p) × Holds mid (get_or xs i 0) m) → (q m : ℕ) → Contains (take (i + 1) xs) q → Holds old q m → Holds new p m
    after-more mid new xs i low so_far has it q m there before =
        elim (taken-cases xs i 0 low q there) [
          | inl earlier ↦ Relates-kept mid new (λ r m. (r ≡ p) × Holds mid (get_or xs i 0) m) it p m (has q m earlier before)
          | inr same ↦ it.complete p m (refl, subst (λ r. Holds mid r m) same (Follows-kept old mid so_far q m before))
        ]

    pub before-more : (mid new : Room) (xs : List ℕ) (i : ℕ) → i < length xs → Follows a old mid → ((q m : ℕ) → Holds old q m → Contains (take i xs) m → Holds mid q n) → Relates mid new (λ q r. (r ≡ n) × Holds mid q (get_or xs i 0)) → (q m : ℕ) → Holds old q m → Contains (take (i + 1) xs) m → Holds new q n
    before-more mid new xs i low so_far has it q m before there =
        elim (taken-cases xs i 0 low m there) [
          | inl earlier ↦ Relates-kept mid new (λ q r. (r ≡ n) × Holds mid q (get_or xs i 0)) it q n (has q m before earlier)
          | inr same ↦ it.complete q n (refl, subst (λ r. Holds mid q r) same (Follows-kept old mid so_far q m before))
        ]

  -- one more pair is taken
  module _ (old room new : Room) (next p n : ℕ) (so_far : AreTaken a old next room) (low : next < length room.pairs) (pair : (p, n) ≡ get_or room.pairs next (0, 0)) (follows : Follows a room new) (has : HasConsequences a p n room new) where
    stays : (k : ℕ) → k < length room.pairs → get_or new.pairs k (0, 0) ≡ get_or room.pairs k (0, 0)
    stays k below = ap (λ pairs. get_or pairs k (0, 0)) follows.behind.1 ∙ get_or_append_left room.pairs follows.behind.0 (0, 0) k below

    earlier : (k : ℕ) → k < next → k < length room.pairs
    earlier k less = omega arith

    first : first_of new next ≡ p
    first = (λ i. (stays next low i).0) ∙ sym (λ i. (pair i).0)

    second : second_of new next ≡ n
    second = (λ i. (stays next low i).1) ∙ sym (λ i. (pair i).1)

    held : Holds room p n
    held = (next, low, get_or_default room.pairs next (p, n) (0, 0) low ∙ sym pair)

    kept : (q m : ℕ) → Holds room q m → Holds new q m
    kept = Follows-kept room new follows

    case : (k : ℕ) (b : Bool) → (k == next) ≡ b → k < next + 1 → (k < next) ⊎ (k ≡ next)
    case k true e less = inr (eqb-true k next e)
    case k false e less = let apart : k ≡ next → ⊥ = eqb-false k next e in inl (omega arith)

    heads_at : (k q m : ℕ) → (k < next) ⊎ (k ≡ next) → ByHeads (head_at a (first_of new k)) (head_at a (second_of new k)) q m → Holds new q m
    heads_at k q m (inl less) by =
        let P : ℕ × ℕ → Type 0 = λ (x : ℕ × ℕ). ByHeads (head_at a x.0) (head_at a x.1) q m in
        kept q m (so_far.heads k q m less (subst P (stays k (earlier k less)) by))
    heads_at k q m (inr same) by =
        let P : ℕ → Type 0 = λ j. ByHeads (head_at a (first_of new j)) (head_at a (second_of new j)) q m in
        let Q : ℕ → ℕ → Type 0 = λ i j. ByHeads (head_at a i) (head_at a j) q m in
        has.heads q m (subst (λ i. Q i n) first (subst (λ j. Q (first_of new next) j) second (subst P same by)))

    flows_at : (j k : ℕ) → (j < next) ⊎ (j ≡ next) → (k < next) ⊎ (k ≡ next) → HasFlow a (second_of new j) (first_of new k) → Holds new (first_of new j) (second_of new k)
    flows_at j k (inl less) (inl less') edge =
        let x : ℕ × ℕ = get_or room.pairs j (0, 0) in
        let y : ℕ × ℕ = get_or room.pairs k (0, 0) in
        let ex = stays j (earlier j less) in
        let ey = stays k (earlier k less') in
        let P : ℕ × ℕ → ℕ × ℕ → Type 0 = λ (s t : ℕ × ℕ). HasFlow a s.1 t.0 in
        let Q : ℕ × ℕ → ℕ × ℕ → Type 0 = λ (s t : ℕ × ℕ). Holds new s.0 t.1 in
        let before : Holds new x.0 y.1 =
        kept x.0 y.1 (so_far.flows j k less less' (subst (λ (t : ℕ × ℕ). P x t) ey (subst (λ (s : ℕ × ℕ). P s (get_or new.pairs k (0, 0))) ex edge))) in
        subst (λ (s : ℕ × ℕ). Q s (get_or new.pairs k (0, 0))) (sym ex) (subst (λ (t : ℕ × ℕ). Q x t) (sym ey) before)
    flows_at j k (inl less) (inr same) edge =
        let x : ℕ × ℕ = get_or room.pairs j (0, 0) in
        let ex = stays j (earlier j less) in
        let at : first_of new k ≡ p = ap (first_of new) same ∙ first in
        let at' : second_of new k ≡ n = ap (second_of new) same ∙ second in
        let there : Holds room x.0 x.1 = (j, earlier j less, get_or_default room.pairs j x (0, 0) (earlier j less)) in
        let edge' : HasFlow a x.1 p = subst (λ (s : ℕ × ℕ). HasFlow a s.1 p) ex (subst (λ i. HasFlow a (second_of new j) i) at edge) in
        subst (λ (s : ℕ × ℕ). Holds new s.0 (second_of new k)) (sym ex)
        (subst (λ i. Holds new x.0 i) (sym at') (has.before x.0 x.1 there edge'))
    flows_at j k (inr same) (inl less) edge =
        let y : ℕ × ℕ = get_or room.pairs k (0, 0) in
        let ey = stays k (earlier k less) in
        let at : first_of new j ≡ p = ap (first_of new) same ∙ first in
        let at' : second_of new j ≡ n = ap (second_of new) same ∙ second in
        let there : Holds room y.0 y.1 = (k, earlier k less, get_or_default room.pairs k y (0, 0) (earlier k less)) in
        let edge' : HasFlow a n y.0 = subst (λ (t : ℕ × ℕ). HasFlow a n t.0) ey (subst (λ i. HasFlow a i (first_of new k)) at' edge) in
        subst (λ (t : ℕ × ℕ). Holds new (first_of new j) t.1) (sym ey)
        (subst (λ i. Holds new i y.1) (sym at) (has.after y.0 y.1 edge' there))
    flows_at j k (inr same) (inr same') edge =
        let at : first_of new j ≡ p = ap (first_of new) same ∙ first in
        let at' : second_of new k ≡ n = ap (second_of new) same' ∙ second in
        subst (λ i. Holds new i (second_of new k)) (sym at) (subst (λ i. Holds new p i) (sym at') (kept p n held))

    pub taken-next : AreTaken a old (next + 1) new
    taken-next = record {
      follows = Follows-then old room new so_far.follows follows;
      in_range =
          let longer : length new.pairs ≡ length room.pairs + length follows.behind.0 = ap length follows.behind.1 ∙ length-append room.pairs follows.behind.0 in
          omega arith;
      heads = λ k q m less by. heads_at k q m (case k (k == next) refl less) by;
      flows = λ j k less less' edge. flows_at j k (case j (j == next) refl less) (case k (k == next) refl less') edge;
    }

  -- before the first pair
  pub taken-none : (old : Room) → AreTaken a old 0 old
  taken-none old = record {
    follows = Follows-none old;
    in_range = omega arith;
    heads = λ k q m less by. absurd (omega arith);
    flows = λ j k less less' edge. absurd (omega arith);
  }

  -- at the end the room holds all that is related
  module _ (old room : Room) (next : ℕ) (taken : AreTaken a old next room) (all : length room.pairs ≤ next) where
    record IsAt (p n : ℕ) : Type 0 where
      number : ℕ
      low : number < next
      first : first_of room number ≡ p
      second : second_of room number ≡ n

    at : (p n : ℕ) → Holds room p n → IsAt p n
    at p n it =
        let pair : get_or room.pairs it.0 (0, 0) ≡ (p, n) = get_or_default room.pairs it.0 (0, 0) (p, n) it.1 ∙ it.2 in
        let low : it.0 < length room.pairs = it.1 in
        record { number = it.0; low = omega arith; first = λ i. (pair i).0; second = λ i. (pair i).1 }

    by_heads : (p n q m : ℕ) → Holds room p n → ByHeads (head_at a p) (head_at a n) q m → Holds room q m
    by_heads p n q m held by =
        let it : IsAt p n = at p n held in
        let Q : ℕ → ℕ → Type 0 = λ i j. ByHeads (head_at a i) (head_at a j) q m in
        taken.heads it.number q m it.low (subst (λ i. Q i (second_of room it.number)) (sym it.first) (subst (λ j. Q p j) (sym it.second) by))

    holds_related : (p n : ℕ) → IsRelated a (Holds old) p n → Holds room p n
    holds_related p n (goal is) = Follows-kept old room taken.follows p n is
    holds_related q m (domain {p = p} {n = n} it left right) = by_heads p n q m (holds_related p n it) (domain-by_heads p n q m left right)
    holds_related q m (codomain {p = p} {n = n} it left right) = by_heads p n q m (holds_related p n it) (codomain-by_heads p n q m left right)
    holds_related q m (field {p = p} {n = n} label it left right) = by_heads p n q m (holds_related p n it) (field-by_heads label p n q m left right)
    holds_related p m (along {n = n} {q = q} it edge later) =
        let x : IsAt p n = at p n (holds_related p n it) in
        let y : IsAt q m = at q m (holds_related q m later) in
        let edge' : HasFlow a (second_of room x.number) (first_of room y.number) =
        subst (λ i. HasFlow a i (first_of room y.number)) (sym x.second) (subst (λ i. HasFlow a n i) (sym y.first) edge) in
        subst (λ i. Holds room i m) x.first
        (subst (λ i. Holds room (first_of room x.number) i) y.second (taken.flows x.number y.number x.low y.low edge'))

    pub taken-all : HoldsJust room (IsRelated a (Holds old))
    taken-all p n = (taken.follows.sound p n, holds_related p n)
