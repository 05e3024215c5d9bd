-- Pairs that hold by themselves, where variables stand for themselves.
--     own_justified       what they need justifies them
--     own_more            and holds by itself too
use Rattle.std.proofs.Common.{◌≡◌, ◌⊎◌, inl, inr, ℕ, suc, ◌<◌, Bool, true, false, List, [], ◌∷◌, map, length, refl, sym, ap, ◌∙◌, subst, arith, Some, None, IsSome, bytes_eq}
use Rattle.std.specs.Prelude.{◌==◌, ◌||◌, Contains, cond, find, option_map}
use Rattle.std.proofs.lemmas.Bool.Decides.{Decides-eqb}
use Rattle.mls_book.specs.declared.book.Field.{Field}
use Rattle.mls_book.specs.declared.book.NodeId.{NodeId}
use Rattle.mls_book.specs.declared.book.Node.{Node}
use Rattle.mls_book.specs.declared.book.Node.TheVariants as node
use Rattle.mls_book.specs.Books.{node_at, field_at}
use Rattle.mls_deriv.specs.declared.derivation.Mode.{Mode}
use Rattle.mls_deriv.specs.declared.derivation.Mode.TheVariants.{Lr, Rl, Pp}
use Rattle.mls_deriv.specs.declared.claim.Pair.{Pair}
use Rattle.mls_deriv.specs.declared.claim.Put.{Put}
use Rattle.mls_deriv.specs.Pairs.{left_put, right_put, exchanged, IsJustified, bot_below, below_top, join_below, below_meet, first_below, second_below, below_first, below_second, same_bool, same_int, same_variable, functions, records}
use Rattle.mls_deriv.proofs.ScopedNames.{first_or_later}
use Rattle.mls_pairs.specs.PairLists.{pair_of}
use Rattle.mls_pairs.specs.steps.Needs.{has_member, is_member, member_needs, own_needs, self_needs}
use Rattle.mls_pairs.proofs.Needed.{head_there, next_there}

abbrev no_puts : List Put
no_puts = []

left_none : (mode : Mode) (x : ℕ) → left_put mode no_puts x ≡ None
left_none Lr x = refl
left_none Rl x = refl
left_none Pp x = refl

right_none : (mode : Mode) (x : ℕ) → right_put mode no_puts x ≡ None
right_none Lr x = refl
right_none Rl x = refl
right_none Pp x = refl

equal : (m n : ℕ) → m == n ≡ true → m ≡ n
equal m n e = (Decides-eqb m n).0 e

equal_self : (n : ℕ) → n == n ≡ true
equal_self n = (Decides-eqb n n).1 refl

-- the pair of the field of a label with itself
abbrev self_of : Mode → Field → Pair
self_of mode field = pair_of mode field.node.0 field.node.0

later : (x y : Pair) (xs : List Pair) → Contains xs y → Contains (x ∷ xs) y
later x y xs h = (suc h.0, (let low : h.0 < length xs = h.1 in omega arith), h.2)

field_self : (mode : Mode) (fields : List Field) (label : List ℕ) (k : NodeId) → field_at label fields ≡ Some k → Contains (map (self_of mode) fields) (pair_of mode k.0 k.0)
field_self mode [] label k e = absurd (cc)
field_self mode (first ∷ rest) label k e = go (bytes_eq first.label label) e (λ found. field_self mode rest label k found)
  where
    go : (b : Bool) → option_map (λ (field : Field). field.node) (cond b (Some first) (find (λ (field : Field). bytes_eq field.label label) rest)) ≡ Some k
        → (field_at label rest ≡ Some k → Contains (map (self_of mode) rest) (pair_of mode k.0 k.0)) → Contains (map (self_of mode) (first ∷ rest)) (pair_of mode k.0 k.0)
    go true e inside =
        let same : first.node ≡ k = cc in
        subst (λ (n : NodeId). Contains (map (self_of mode) (first ∷ rest)) (pair_of mode n.0 n.0)) same (head_there (self_of mode first) (map (self_of mode) rest))
    go false e inside = later (self_of mode first) (pair_of mode k.0 k.0) (map (self_of mode) rest) (inside e)

either_is : (a b : Bool) → a || b ≡ true → (a ≡ true) ⊎ (b ≡ true)
either_is true b e = inl refl
either_is false b e = inr e

some_is : {X : Type 0} {x y : X} → Some x ≡ Some y → x ≡ y
some_is e = cc

module _ (book : List Node) (claims : Mode → ℕ → ℕ → Type 0) where
  abbrev HasAll : List Pair → Type 0
  HasAll own = (other : Pair) → Contains own other → claims other.mode other.left other.right

  self_justified : (mode : Mode) (i : ℕ) (n : Node) → node_at book i ≡ n → HasAll (self_needs mode i n) → IsJustified book no_puts claims mode i i
  self_justified mode i node.Bot e all = bot_below e
  self_justified mode i node.Top e all = below_top e
  self_justified mode i (node.Var x) e all = same_variable x e e (left_none mode x) (right_none mode x)
  self_justified mode i node.Bool e all = same_bool e e
  self_justified mode i node.Int e all = same_int e e
  self_justified mode i (node.Arrow a b) e all = functions a b a b e e (all (pair_of (exchanged mode) a.0 a.0) (head_there (pair_of (exchanged mode) a.0 a.0) (pair_of mode b.0 b.0 ∷ []))) (all (pair_of mode b.0 b.0) (next_there (pair_of (exchanged mode) a.0 a.0) (pair_of mode b.0 b.0)))
  self_justified mode i (node.Rcd fields) e all = records fields fields e e (λ label k found. (k, found, all (pair_of mode k.0 k.0) (field_self mode fields label k found)))
  self_justified mode i (node.Join l r) e all = join_below l r e (all (pair_of mode l.0 i) (head_there (pair_of mode l.0 i) (pair_of mode r.0 i ∷ []))) (all (pair_of mode r.0 i) (next_there (pair_of mode l.0 i) (pair_of mode r.0 i)))
  self_justified mode i (node.Meet l r) e all = below_meet l r e (all (pair_of mode i l.0) (head_there (pair_of mode i l.0) (pair_of mode i r.0 ∷ []))) (all (pair_of mode i r.0) (next_there (pair_of mode i l.0) (pair_of mode i r.0)))

  member_justified : (mode : Mode) (i j : ℕ) (n : Node) → node_at book j ≡ n → is_member n i ≡ true → claims mode i i → IsJustified book no_puts claims mode i j
  member_justified mode i j (node.Join l r) e is h = go (either_is (l.0 == i) (r.0 == i) is)
    where
      go : (l.0 == i ≡ true) ⊎ (r.0 == i ≡ true) → IsJustified book no_puts claims mode i j
      go (inl s) = below_first l r e (subst (claims mode i) (sym (equal l.0 i s)) h)
      go (inr s) = below_second l r e (subst (claims mode i) (sym (equal r.0 i s)) h)
  member_justified mode i j node.Bot e is h = absurd (cc)
  member_justified mode i j node.Top e is h = absurd (cc)
  member_justified mode i j (node.Var x) e is h = absurd (cc)
  member_justified mode i j node.Bool e is h = absurd (cc)
  member_justified mode i j node.Int e is h = absurd (cc)
  member_justified mode i j (node.Arrow a b) e is h = absurd (cc)
  member_justified mode i j (node.Rcd fields) e is h = absurd (cc)
  member_justified mode i j (node.Meet l r) e is h = absurd (cc)

  meet_justified : (mode : Mode) (i j : ℕ) (n : Node) → node_at book i ≡ n → has_member n j ≡ true → claims mode j j → IsJustified book no_puts claims mode i j
  meet_justified mode i j (node.Meet l r) e is h = go (either_is (l.0 == j) (r.0 == j) is)
    where
      go : (l.0 == j ≡ true) ⊎ (r.0 == j ≡ true) → IsJustified book no_puts claims mode i j
      go (inl s) = first_below l r e (subst (λ k. claims mode k j) (sym (equal l.0 j s)) h)
      go (inr s) = second_below l r e (subst (λ k. claims mode k j) (sym (equal r.0 j s)) h)
  meet_justified mode i j node.Bot e is h = absurd (cc)
  meet_justified mode i j node.Top e is h = absurd (cc)
  meet_justified mode i j (node.Var x) e is h = absurd (cc)
  meet_justified mode i j node.Bool e is h = absurd (cc)
  meet_justified mode i j node.Int e is h = absurd (cc)
  meet_justified mode i j (node.Arrow a b) e is h = absurd (cc)
  meet_justified mode i j (node.Rcd fields) e is h = absurd (cc)
  meet_justified mode i j (node.Join l r) e is h = absurd (cc)

  -- what such a pair needs justifies it
  pub own_justified : (pair : Pair) (own : List Pair) → own_needs book pair ≡ Some own → HasAll own → IsJustified book no_puts claims pair.mode pair.left pair.right
  own_justified pair own e all = go (pair.left == pair.right) refl e
    where
      mode : Mode
      mode = pair.mode

      i : ℕ
      i = pair.left

      j : ℕ
      j = pair.right

      meet : (b : Bool) → has_member (node_at book i) j ≡ b → cond b (Some (pair_of mode j j ∷ [])) None ≡ Some own → IsJustified book no_puts claims mode i j
      meet true is e =
          meet_justified mode i j (node_at book i) refl is
          (all (pair_of mode j j) (subst (λ ps. Contains ps (pair_of mode j j)) (some_is e) (head_there (pair_of mode j j) [])))
      meet false is e = absurd (cc)

      join : (b : Bool) → is_member (node_at book j) i ≡ b → cond b (Some (pair_of mode i i ∷ [])) (cond (has_member (node_at book i) j) (Some (pair_of mode j j ∷ [])) None) ≡ Some own
          → IsJustified book no_puts claims mode i j
      join true is e =
          member_justified mode i j (node_at book j) refl is
          (all (pair_of mode i i) (subst (λ ps. Contains ps (pair_of mode i i)) (some_is e) (head_there (pair_of mode i i) [])))
      join false is e = meet (has_member (node_at book i) j) refl e

      go : (b : Bool) → i == j ≡ b → cond b (Some (self_needs mode i (node_at book i))) (member_needs mode i j (node_at book i) (node_at book j)) ≡ Some own
          → IsJustified book no_puts claims mode i j
      go true is e =
          subst (IsJustified book no_puts claims mode i) (equal i j is)
          (self_justified mode i (node_at book i) refl (λ other there. all other (subst (λ ps. Contains ps other) (some_is e) there)))
      go false is e = join (is_member (node_at book j) i) refl e

-- what it needs holds by itself too
module _ (book : List Node) where
  abbrev IsOwn : Pair → Type 0
  IsOwn pair = IsSome (own_needs book pair)

  own_self : (mode : Mode) (i : ℕ) → IsOwn (pair_of mode i i)
  own_self mode i = subst (λ b. IsSome (cond b (Some (self_needs mode i (node_at book i))) (member_needs mode i i (node_at book i) (node_at book i)))) (sym (equal_self i)) refl

  own_member : (mode : Mode) (i j : ℕ) → is_member (node_at book j) i ≡ true → IsOwn (pair_of mode i j)
  own_member mode i j is = go (i == j)
    where
      go : (b : Bool) → IsSome (cond b (Some (self_needs mode i (node_at book i))) (member_needs mode i j (node_at book i) (node_at book j)))
      go true = refl
      go false = subst (λ b. IsSome (cond b (Some (pair_of mode i i ∷ [])) (cond (has_member (node_at book i) j) (Some (pair_of mode j j ∷ [])) None))) (sym is) refl

  own_has : (mode : Mode) (i j : ℕ) → has_member (node_at book i) j ≡ true → IsOwn (pair_of mode i j)
  own_has mode i j is = go (i == j)
    where
      inner : (b : Bool) → IsSome (cond b (Some (pair_of mode i i ∷ [])) (cond (has_member (node_at book i) j) (Some (pair_of mode j j ∷ [])) None))
      inner true = refl
      inner false = subst (λ b. IsSome (cond b (Some (pair_of mode j j ∷ [])) None)) (sym is) refl

      go : (b : Bool) → IsSome (cond b (Some (self_needs mode i (node_at book i))) (member_needs mode i j (node_at book i) (node_at book j)))
      go true = refl
      go false = inner (is_member (node_at book j) i)

  two : (P : Pair → Type 0) (x y : Pair) → P x → P y → (other : Pair) → Contains (x ∷ y ∷ []) other → P other
  two P x y px py other there = first (first_or_later x (y ∷ []) other there)
    where
      second : (y ≡ other) ⊎ Contains [] other → P other
      second (inl e) = subst P e py
      second (inr h) = absurd (let low : h.0 < 0 = h.1 in omega arith)

      first : (x ≡ other) ⊎ Contains (y ∷ []) other → P other
      first (inl e) = subst P e px
      first (inr h) = second (first_or_later y [] other h)

  one : (P : Pair → Type 0) (x : Pair) → P x → (other : Pair) → Contains (x ∷ []) other → P other
  one P x px other there = go (first_or_later x [] other there)
    where
      go : (x ≡ other) ⊎ Contains [] other → P other
      go (inl e) = subst P e px
      go (inr h) = absurd (let low : h.0 < 0 = h.1 in omega arith)

  fields_own : (mode : Mode) (fields : List Field) (other : Pair) → Contains (map (self_of mode) fields) other → IsOwn other
  fields_own mode [] other there = absurd (let low : there.0 < 0 = there.1 in omega arith)
  fields_own mode (first ∷ rest) other there = go (first_or_later (self_of mode first) (map (self_of mode) rest) other there) (fields_own mode rest other)
    where
      go : (self_of mode first ≡ other) ⊎ Contains (map (self_of mode) rest) other → (Contains (map (self_of mode) rest) other → IsOwn other) → IsOwn other
      go (inl e) inside = subst IsOwn e (own_self mode first.node.0)
      go (inr h) inside = inside h

  left_or : (b : Bool) → true || b ≡ true
  left_or b = refl

  right_or : (b : Bool) → b || true ≡ true
  right_or true = refl
  right_or false = refl

  self_own : (mode : Mode) (i : ℕ) (n : Node) → node_at book i ≡ n → (other : Pair) → Contains (self_needs mode i n) other → IsOwn other
  self_own mode i (node.Join l r) e =
      two IsOwn (pair_of mode l.0 i) (pair_of mode r.0 i)
      (own_member mode l.0 i (ap (λ n. is_member n l.0) e ∙ (ap (λ b. b || (r.0 == l.0)) (equal_self l.0) ∙ left_or (r.0 == l.0))))
      (own_member mode r.0 i (ap (λ n. is_member n r.0) e ∙ (ap (λ b. (l.0 == r.0) || b) (equal_self r.0) ∙ right_or (l.0 == r.0))))
  self_own mode i (node.Meet l r) e =
      two IsOwn (pair_of mode i l.0) (pair_of mode i r.0)
      (own_has mode i l.0 (ap (λ n. has_member n l.0) e ∙ (ap (λ b. b || (r.0 == l.0)) (equal_self l.0) ∙ left_or (r.0 == l.0))))
      (own_has mode i r.0 (ap (λ n. has_member n r.0) e ∙ (ap (λ b. (l.0 == r.0) || b) (equal_self r.0) ∙ right_or (l.0 == r.0))))
  self_own mode i (node.Arrow a b) e = two IsOwn (pair_of (exchanged mode) a.0 a.0) (pair_of mode b.0 b.0) (own_self (exchanged mode) a.0) (own_self mode b.0)
  self_own mode i (node.Rcd fields) e = fields_own mode fields
  self_own mode i node.Bot e = λ other there. absurd (let low : there.0 < 0 = there.1 in omega arith)
  self_own mode i node.Top e = λ other there. absurd (let low : there.0 < 0 = there.1 in omega arith)
  self_own mode i (node.Var x) e = λ other there. absurd (let low : there.0 < 0 = there.1 in omega arith)
  self_own mode i node.Bool e = λ other there. absurd (let low : there.0 < 0 = there.1 in omega arith)
  self_own mode i node.Int e = λ other there. absurd (let low : there.0 < 0 = there.1 in omega arith)

  pub own_more : (pair : Pair) (own : List Pair) → own_needs book pair ≡ Some own → (other : Pair) → Contains own other → IsOwn other
  own_more pair own e other there = go (pair.left == pair.right) e
    where
      mode : Mode
      mode = pair.mode

      i : ℕ
      i = pair.left

      j : ℕ
      j = pair.right

      meet : (b : Bool) → cond b (Some (pair_of mode j j ∷ [])) None ≡ Some own → IsOwn other
      meet true e = one IsOwn (pair_of mode j j) (own_self mode j) other (subst (λ ps. Contains ps other) (sym (some_is e)) there)
      meet false e = absurd (cc)

      join : (b : Bool) → cond b (Some (pair_of mode i i ∷ [])) (cond (has_member (node_at book i) j) (Some (pair_of mode j j ∷ [])) None) ≡ Some own → IsOwn other
      join true e = one IsOwn (pair_of mode i i) (own_self mode i) other (subst (λ ps. Contains ps other) (sym (some_is e)) there)
      join false e = meet (has_member (node_at book i) j) e

      go : (b : Bool) → cond b (Some (self_needs mode i (node_at book i))) (member_needs mode i j (node_at book i) (node_at book j)) ≡ Some own → IsOwn other
      go true e = self_own mode i (node_at book i) refl other (subst (λ ps. Contains ps other) (sym (some_is e)) there)
      go false e = join (is_member (node_at book j) i) e
