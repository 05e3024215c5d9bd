-- The atoms of a node are found one after another.
--     look-seen, look-new     the next node
--     looked                  in the end
--     atom-alone              a node that is an atom itself
use Rattle.std.proofs.Common.{◌≡◌, ◌⊎◌, inl, inr, ℕ, zero, suc, ◌+◌, ◌-◌, ◌<◌, ◌≤◌, List, [], ◌∷◌, ◌++◌, refl, sym, ap, ◌∙◌, subst, arith, length, get_or, All, Contains}
use Rattle.std.proofs.lemmas.List.{length-append}
use Rattle.std.proofs.lemmas.List.Elements.{All-append, All-contains, Contains-append_cases, Contains-append_left, Contains-append_right}
use Rattle.mls_book.specs.declared.book.Node.{Node}
use Rattle.mls_book.specs.declared.book.Node.TheVariants as node
use Rattle.mls_book.specs.Books.{node_at, IsBook, IsOrdered}
use Rattle.mls_automaton.specs.Heads.{IsSameSet}
use Rattle.mls_automaton.proofs.Lists.{All-contained, All-one, Contains-cases, Contains-here, Contains-later}
use Rattle.mls_scheme.specs.ReadAutomata.{atoms, atoms_below, atoms_step}
use Rattle.mls_scheme.specs.steps.Layers.{atom_step, atoms_left, left_step, measure, AreAtoms, AreDifferent, IsLooking}

append-assoc : (xs ys zs : List ℕ) → (xs ++ ys) ++ zs ≡ xs ++ (ys ++ zs)
append-assoc [] ys zs = refl
append-assoc (x ∷ rest) ys zs = ap (λ ws. x ∷ ws) (append-assoc rest ys zs)

append-none : (xs : List ℕ) → xs ++ [] ≡ xs
append-none [] = refl
append-none (x ∷ rest) = ap (λ ws. x ∷ ws) (append-none rest)

empty : (j : ℕ) → Contains [] j → ⊥
empty j it = let low : it.0 < 0 = it.1 in omega arith

one-is : (i j : ℕ) → Contains (i ∷ []) j → i ≡ j
one-is i j it = elim (Contains-cases i [] j it) [ inl same ↦ same | inr none ↦ absurd (empty j none) ]

-- what a node is, and what is behind it
atom-is : (i : ℕ) (x : Node) (j : ℕ) → Contains (atom_step i x) j → i ≡ j
atom-is i (node.Join k l) j it = absurd (empty j it)
atom-is i (node.Meet k l) j it = absurd (empty j it)
atom-is i node.Bot j it = one-is i j it
atom-is i node.Top j it = one-is i j it
atom-is i (node.Var v) j it = one-is i j it
atom-is i node.Bool j it = one-is i j it
atom-is i node.Int j it = one-is i j it
atom-is i (node.Arrow k l) j it = one-is i j it
atom-is i (node.Rcd fields) j it = one-is i j it

child-below : (i : ℕ) (x : Node) → IsOrdered i x → (j : ℕ) → Contains (left_step x) j → j < i
child-below i x ordered j it = go x ordered it
  where
    two : (k l : ℕ) → k < i → l < i → Contains (l ∷ k ∷ []) j → j < i
    two k l low_k low_l it = elim (Contains-cases l (k ∷ []) j it) [
      | inl same ↦ subst (λ m. m < i) same low_l
      | inr later ↦ subst (λ m. m < i) (one-is k j later) low_k
    ]

    go : (x : Node) → IsOrdered i x → Contains (left_step x) j → j < i
    go (node.Join k l) low it = two k.0 l.0 low.0 low.1 it
    go (node.Meet k l) low it = two k.0 l.0 low.0 low.1 it
    go node.Bot low it = absurd (empty j it)
    go node.Top low it = absurd (empty j it)
    go (node.Var v) low it = absurd (empty j it)
    go node.Bool low it = absurd (empty j it)
    go node.Int low it = absurd (empty j it)
    go (node.Arrow k l) low it = absurd (empty j it)
    go (node.Rcd fields) low it = absurd (empty j it)

module _ (f : ℕ → List ℕ) (i : ℕ) where
  step-cases : (x : Node) (j : ℕ) → Contains (atoms_step f i x) j → Contains (atom_step i x) j ⊎ ((k : ℕ) × Contains (left_step x) k × Contains (f k) j)
  step-cases x j it = go x it
    where
      two : (k l : ℕ) → Contains (f k ++ f l) j → Contains [] j ⊎ ((m : ℕ) × Contains (l ∷ k ∷ []) m × Contains (f m) j)
      two k l it = elim (Contains-append_cases (f k) (f l) j it) [
        | inl first ↦ inr (k, Contains-later l (k ∷ []) k (Contains-here k []), first)
        | inr second ↦ inr (l, Contains-here l (k ∷ []), second)
      ]

      go : (x : Node) → Contains (atoms_step f i x) j → Contains (atom_step i x) j ⊎ ((k : ℕ) × Contains (left_step x) k × Contains (f k) j)
      go (node.Join k l) it = two k.0 l.0 it
      go (node.Meet k l) it = two k.0 l.0 it
      go node.Bot it = inl it
      go node.Top it = inl it
      go (node.Var v) it = inl it
      go node.Bool it = inl it
      go node.Int it = inl it
      go (node.Arrow k l) it = inl it
      go (node.Rcd fields) it = inl it

  step-atom : (x : Node) (j : ℕ) → Contains (atom_step i x) j → Contains (atoms_step f i x) j
  step-atom (node.Join k l) j it = absurd (empty j it)
  step-atom (node.Meet k l) j it = absurd (empty j it)
  step-atom node.Bot j it = it
  step-atom node.Top j it = it
  step-atom (node.Var v) j it = it
  step-atom node.Bool j it = it
  step-atom node.Int j it = it
  step-atom (node.Arrow k l) j it = it
  step-atom (node.Rcd fields) j it = it

  step-child : (x : Node) (k j : ℕ) → Contains (left_step x) k → Contains (f k) j → Contains (atoms_step f i x) j
  step-child x m j child it = go x child
    where
      two : (k l : ℕ) → Contains (l ∷ k ∷ []) m → Contains (f k ++ f l) j
      two k l child = elim (Contains-cases l (k ∷ []) m child) [
        | inl same ↦ Contains-append_right (f k) (f l) j (subst (λ n. Contains (f n) j) (sym same) it)
        | inr later ↦ Contains-append_left (f k) (f l) j (subst (λ n. Contains (f n) j) (sym (one-is k m later)) it)
      ]

      go : (x : Node) → Contains (left_step x) m → Contains (atoms_step f i x) j
      go (node.Join k l) child = two k.0 l.0 child
      go (node.Meet k l) child = two k.0 l.0 child
      go node.Bot child = absurd (empty m child)
      go node.Top child = absurd (empty m child)
      go (node.Var v) child = absurd (empty m child)
      go node.Bool child = absurd (empty m child)
      go node.Int child = absurd (empty m child)
      go (node.Arrow k l) child = absurd (empty m child)
      go (node.Rcd fields) child = absurd (empty m child)

-- one more that is not there
different-one : (xs : List ℕ) (i : ℕ) → AreDifferent xs → (Contains xs i → ⊥) → AreDifferent (xs ++ i ∷ [])
different-one [] i different new = (empty i, tt)
different-one (x ∷ rest) i different new = (
  λ it. elim (Contains-append_cases rest (i ∷ []) x it) [
    | inl before ↦ different.0 before
    | inr last ↦ new (subst (λ y. Contains (y ∷ rest) i) (one-is i x last) (Contains-here i rest))
  ],
  different-one rest i different.1 (λ it. new (Contains-later x rest i it)),
)

different-step : (xs : List ℕ) (i : ℕ) (x : Node) → AreDifferent xs → (Contains xs i → ⊥) → AreDifferent (xs ++ atom_step i x)
different-step xs i (node.Join k l) different new = subst AreDifferent (sym (append-none xs)) different
different-step xs i (node.Meet k l) different new = subst AreDifferent (sym (append-none xs)) different
different-step xs i node.Bot different new = different-one xs i different new
different-step xs i node.Top different new = different-one xs i different new
different-step xs i (node.Var v) different new = different-one xs i different new
different-step xs i node.Bool different new = different-one xs i different new
different-step xs i node.Int different new = different-one xs i different new
different-step xs i (node.Arrow k l) different new = different-one xs i different new
different-step xs i (node.Rcd fields) different new = different-one xs i different new

module _ (nodes : List Node) (is : IsBook nodes) where
  -- enough steps are enough
  same-step : (n m i : ℕ) (x : Node) → IsOrdered i x → ((j : ℕ) → j < i → atoms_below nodes n j ≡ atoms_below nodes m j) → atoms_step (atoms_below nodes n) i x ≡ atoms_step (atoms_below nodes m) i x
  same-step n m i (node.Join j k) low same = λ o. same j.0 low.0 o ++ same k.0 low.1 o
  same-step n m i (node.Meet j k) low same = λ o. same j.0 low.0 o ++ same k.0 low.1 o
  same-step n m i node.Bot low same = refl
  same-step n m i node.Top low same = refl
  same-step n m i (node.Var x) low same = refl
  same-step n m i node.Bool low same = refl
  same-step n m i node.Int low same = refl
  same-step n m i (node.Arrow j k) low same = refl
  same-step n m i (node.Rcd fields) low same = refl

  enough : (n m i : ℕ) → i < n → i < m → atoms_below nodes n i ≡ atoms_below nodes m i
  enough zero m i low low' = absurd (omega arith)
  enough (suc n) zero i low low' = absurd (omega arith)
  enough (suc n) (suc m) i low low' = same-step n m i (node_at nodes i) (is i) (λ j lower. enough n m j (omega arith) (omega arith))

  children : (i : ℕ) (x : Node) → IsOrdered i x → atoms_step (atoms_below nodes i) i x ≡ atoms_step (atoms nodes) i x
  children i (node.Join j k) low = λ o. enough i (suc j.0) j.0 low.0 (omega arith) o ++ enough i (suc k.0) k.0 low.1 (omega arith) o
  children i (node.Meet j k) low = λ o. enough i (suc j.0) j.0 low.0 (omega arith) o ++ enough i (suc k.0) k.0 low.1 (omega arith) o
  children i node.Bot low = refl
  children i node.Top low = refl
  children i (node.Var x) low = refl
  children i node.Bool low = refl
  children i node.Int low = refl
  children i (node.Arrow j k) low = refl
  children i (node.Rcd fields) low = refl

  pub atoms-next : (i : ℕ) → atoms nodes i ≡ atoms_step (atoms nodes) i (node_at nodes i)
  atoms-next i = children i (node_at nodes i) (is i)

  -- each node has an atom
  some-below : (n i : ℕ) → i < n → 0 < length (atoms_below nodes n i)
  some-below zero i low = absurd (omega arith)
  some-below (suc n) i low = go (node_at nodes i) (is i) (λ j lower. some-below n j (omega arith))
    where
      two : (j k : ℕ) → 0 < length (atoms_below nodes n j) → 0 < length (atoms_below nodes n j ++ atoms_below nodes n k)
      two j k some = let size : length (atoms_below nodes n j ++ atoms_below nodes n k) ≡ length (atoms_below nodes n j) + length (atoms_below nodes n k) = length-append (atoms_below nodes n j) (atoms_below nodes n k) in omega arith

      go : (x : Node) → IsOrdered i x → ((j : ℕ) → j < i → 0 < length (atoms_below nodes n j)) → 0 < length (atoms_step (atoms_below nodes n) i x)
      go (node.Join j k) low earlier = two j.0 k.0 (earlier j.0 low.0)
      go (node.Meet j k) low earlier = two j.0 k.0 (earlier j.0 low.0)
      go node.Bot low earlier = omega arith
      go node.Top low earlier = omega arith
      go (node.Var x) low earlier = omega arith
      go node.Bool low earlier = omega arith
      go node.Int low earlier = omega arith
      go (node.Arrow j k) low earlier = omega arith
      go (node.Rcd fields) low earlier = omega arith

  some : (i : ℕ) → 0 < length (atoms nodes i)
  some i = some-below (suc i) i (omega arith)

  left-few : (left : List ℕ) → length left ≤ length (atoms_left nodes left)
  left-few [] = omega arith
  left-few (i ∷ rest) =
      let size : length (atoms_left nodes rest ++ atoms nodes i) ≡ length (atoms_left nodes rest) + length (atoms nodes i) = length-append (atoms_left nodes rest) (atoms nodes i) in
      let later : length rest ≤ length (atoms_left nodes rest) = left-few rest in
      let one : 0 < length (atoms nodes i) = some i in
      omega arith

  -- the last is looked at first
  left-append : (left more : List ℕ) → atoms_left nodes (left ++ more) ≡ atoms_left nodes more ++ atoms_left nodes left
  left-append [] more = sym (append-none (atoms_left nodes more))
  left-append (i ∷ rest) more = ap (λ xs. xs ++ atoms nodes i) (left-append rest more) ∙ append-assoc (atoms_left nodes more) (atoms_left nodes rest) (atoms nodes i)

  pub look-seen : (top : ℕ) (met found left rest : List ℕ) (i : ℕ) → IsLooking nodes top met found left → left ≡ rest ++ i ∷ [] → Contains met i → IsLooking nodes top met found rest
  look-seen top met found left rest i is_looking is_left seen = record {
    low = All-contained (λ j. j < length nodes) rest (λ j it. All-contains (λ j. j < length nodes) left j is_looking.low (in-left j it));
    has_top = elim is_looking.has_top [ inl it ↦ inl it | inr it ↦ went top it ];
    next = λ k j it child. elim (is_looking.next k j it child) [ inl known ↦ inl known | inr there ↦ went j there ];
    atom = is_looking.atom;
    came = is_looking.came;
    once = is_looking.once;
    sound = is_looking.sound;
    below = λ k j it. is_looking.below k j (in-left k it);
  }
    where
      in-left : (j : ℕ) → Contains rest j → Contains left j
      in-left j it = subst (λ xs. Contains xs j) (sym is_left) (Contains-append_left rest (i ∷ []) j it)

      went : (j : ℕ) → Contains left j → Contains met j ⊎ Contains rest j
      went j it = elim (Contains-append_cases rest (i ∷ []) j (subst (λ xs. Contains xs j) is_left it)) [
        | inl before ↦ inr before
        | inr last ↦ inl (subst (Contains met) (one-is i j last) seen)
      ]

  module _ (top : ℕ) (met found left rest met' found' left' : List ℕ) (i : ℕ) (looking : IsLooking nodes top met found left) (is_left : left ≡ rest ++ i ∷ []) (new : Contains met i → ⊥) (is_met : met' ≡ met ++ i ∷ []) (is_found : found' ≡ found ++ atom_step i (node_at nodes i)) (is_left' : left' ≡ rest ++ left_step (node_at nodes i)) where
    abbrev x : Node
    x = node_at nodes i

    in-left : (j : ℕ) → Contains rest j → Contains left j
    in-left j it = subst (λ xs. Contains xs j) (sym is_left) (Contains-append_left rest (i ∷ []) j it)

    last-left : Contains left i
    last-left = subst (λ xs. Contains xs i) (sym is_left) (Contains-append_right rest (i ∷ []) i (Contains-here i []))

    still-met : (j : ℕ) → Contains met j → Contains met' j
    still-met j it = subst (λ xs. Contains xs j) (sym is_met) (Contains-append_left met (i ∷ []) j it)

    now-met : Contains met' i
    now-met = subst (λ xs. Contains xs i) (sym is_met) (Contains-append_right met (i ∷ []) i (Contains-here i []))

    met-cases : (j : ℕ) → Contains met' j → Contains met j ⊎ (i ≡ j)
    met-cases j it = elim (Contains-append_cases met (i ∷ []) j (subst (λ xs. Contains xs j) is_met it)) [ inl before ↦ inl before | inr last ↦ inr (one-is i j last) ]

    still-found : (j : ℕ) → Contains found j → Contains found' j
    still-found j it = subst (λ xs. Contains xs j) (sym is_found) (Contains-append_left found (atom_step i x) j it)

    found-cases : (j : ℕ) → Contains found' j → Contains found j ⊎ Contains (atom_step i x) j
    found-cases j it = Contains-append_cases found (atom_step i x) j (subst (λ xs. Contains xs j) is_found it)

    still-left : (j : ℕ) → Contains rest j → Contains left' j
    still-left j it = subst (λ xs. Contains xs j) (sym is_left') (Contains-append_left rest (left_step x) j it)

    now-left : (j : ℕ) → Contains (left_step x) j → Contains left' j
    now-left j it = subst (λ xs. Contains xs j) (sym is_left') (Contains-append_right rest (left_step x) j it)

    left-cases : (j : ℕ) → Contains left' j → Contains rest j ⊎ Contains (left_step x) j
    left-cases j it = Contains-append_cases rest (left_step x) j (subst (λ xs. Contains xs j) is_left' it)

    went : (j : ℕ) → Contains left j → Contains met' j ⊎ Contains left' j
    went j it = elim (Contains-append_cases rest (i ∷ []) j (subst (λ xs. Contains xs j) is_left it)) [
      | inl before ↦ inr (still-left j before)
      | inr last ↦ inl (subst (Contains met') (one-is i j last) now-met)
    ]

    here-low : i < length nodes
    here-low = All-contains (λ j. j < length nodes) left i looking.low last-left

    of-here : (ks : List ℕ) → atoms nodes i ≡ ks → (j : ℕ) → Contains ks j → Contains (atoms nodes top) j
    of-here ks same j it = looking.below i j last-left (subst (λ xs. Contains xs j) (sym same) it)

    pub look-new : IsLooking nodes top met' found' left'
    look-new = record {
      low = All-contained (λ j. j < length nodes) left' (λ j it. elim (left-cases j it) [
        | inl before ↦ All-contains (λ j. j < length nodes) left j looking.low (in-left j before)
        | inr child ↦ let below : j < i = child-below i x (is i) j child in let low = here-low in omega arith
      ]);
      has_top = elim looking.has_top [ inl it ↦ inl (still-met top it) | inr it ↦ went top it ];
      next = λ k j it child. elim (met-cases k it) [
        | inl before ↦ elim (looking.next k j before child) [ inl known ↦ inl (still-met j known) | inr there ↦ went j there ]
        | inr same ↦ inr (now-left j (subst (λ l. Contains (left_step (node_at nodes l)) j) (sym same) child))
      ];
      atom = λ k j it atom. elim (met-cases k it) [
        | inl before ↦ still-found j (looking.atom k j before atom)
        | inr same ↦ subst (λ xs. Contains xs j) (sym is_found) (Contains-append_right found (atom_step i x) j (subst (λ l. Contains (atom_step l (node_at nodes l)) j) (sym same) atom))
      ];
      came = λ j it. elim (found-cases j it) [
        | inl before ↦ still-met j (looking.came j before)
        | inr here ↦ subst (Contains met') (atom-is i x j here) now-met
      ];
      once = subst AreDifferent (sym is_found) (different-step found i x looking.once (λ it. new (looking.came i it)));
      sound = λ j it. elim (found-cases j it) [
        | inl before ↦ looking.sound j before
        | inr here ↦ of-here (atoms_step (atoms nodes) i x) (atoms-next i) j (step-atom (atoms nodes) i x j here)
      ];
      below = λ k j it atom. elim (left-cases k it) [
        | inl before ↦ looking.below k j (in-left k before) atom
        | inr child ↦ of-here (atoms_step (atoms nodes) i x) (atoms-next i) j (step-child (atoms nodes) i x k j child atom)
      ];
    }

  pub look-less : (left rest left' : List ℕ) (i : ℕ) → left ≡ rest ++ i ∷ [] → left' ≡ rest ++ left_step (node_at nodes i) → measure nodes left' < measure nodes left
  look-less left rest left' i is-left is-left' =
      go (node_at nodes i) (atoms-next i) is-left'
    where
      before : length left ≡ length rest + 1
      before = ap length is-left ∙ length-append rest (i ∷ [])

      atoms-before : length (atoms_left nodes left) ≡ length (atoms nodes i) + length (atoms_left nodes rest)
      atoms-before = ap (λ xs. length (atoms_left nodes xs)) is-left ∙ (ap length (left-append rest (i ∷ [])) ∙ length-append (atoms nodes i) (atoms_left nodes rest))

      after : (x : Node) → left' ≡ rest ++ left_step x → length left' ≡ length rest + length (left_step x)
      after x e = ap length e ∙ length-append rest (left_step x)

      atoms-after : (x : Node) → left' ≡ rest ++ left_step x → length (atoms_left nodes left') ≡ length (atoms_left nodes (left_step x)) + length (atoms_left nodes rest)
      atoms-after x e = ap (λ xs. length (atoms_left nodes xs)) e ∙ (ap length (left-append rest (left_step x)) ∙ length-append (atoms_left nodes (left_step x)) (atoms_left nodes rest))

      enough-left : length rest ≤ length (atoms_left nodes rest)
      enough-left = left-few rest

      node-some : 0 < length (atoms nodes i)
      node-some = some i

      two : (x : Node) (j k : ℕ) → left_step x ≡ k ∷ j ∷ [] → atoms nodes i ≡ atoms nodes j ++ atoms nodes k → left' ≡ rest ++ left_step x → (length (atoms_left nodes left') + length (atoms_left nodes left')) - length left' < (length (atoms_left nodes left) + length (atoms_left nodes left)) - length left
      two x j k is-two is-atoms e =
          let a = before in
          let b = atoms-before in
          let c = after x e in
          let d = atoms-after x e in
          let f : length (left_step x) ≡ 2 = ap length is-two in
          let g : length (atoms_left nodes (left_step x)) ≡ length (atoms nodes i) = ap (λ xs. length (atoms_left nodes xs)) is-two ∙ sym (ap length is-atoms) in
          let h = enough-left in
          let l = left-few left' in
          omega arith

      one : (x : Node) → left_step x ≡ [] → left' ≡ rest ++ left_step x → (length (atoms_left nodes left') + length (atoms_left nodes left')) - length left' < (length (atoms_left nodes left) + length (atoms_left nodes left)) - length left
      one x is-none e =
          let a = before in
          let b = atoms-before in
          let c = after x e in
          let d = atoms-after x e in
          let f : length (left_step x) ≡ 0 = ap length is-none in
          let g : length (atoms_left nodes (left_step x)) ≡ 0 = ap (λ xs. length (atoms_left nodes xs)) is-none in
          let h = enough-left in
          let l = node-some in
          omega arith

      go : (x : Node) → atoms nodes i ≡ atoms_step (atoms nodes) i x → left' ≡ rest ++ left_step x → (length (atoms_left nodes left') + length (atoms_left nodes left')) - length left' < (length (atoms_left nodes left) + length (atoms_left nodes left)) - length left
      go (node.Join j k) is-atoms e = two (node.Join j k) j.0 k.0 refl is-atoms e
      go (node.Meet j k) is-atoms e = two (node.Meet j k) j.0 k.0 refl is-atoms e
      go node.Bot is-atoms e = one node.Bot refl e
      go node.Top is-atoms e = one node.Top refl e
      go (node.Var x) is-atoms e = one (node.Var x) refl e
      go node.Bool is-atoms e = one node.Bool refl e
      go node.Int is-atoms e = one node.Int refl e
      go (node.Arrow j k) is-atoms e = one (node.Arrow j k) refl e
      go (node.Rcd fields) is-atoms e = one (node.Rcd fields) refl e

  pub less-seen : (left rest : List ℕ) (i : ℕ) → left ≡ rest ++ i ∷ [] → measure nodes rest < measure nodes left
  less-seen left rest i is-left =
      let before : length left ≡ length rest + 1 = ap length is-left ∙ length-append rest (i ∷ []) in
      let atoms-before : length (atoms_left nodes left) ≡ length (atoms nodes i) + length (atoms_left nodes rest) =
      ap (λ xs. length (atoms_left nodes xs)) is-left ∙ (ap length (left-append rest (i ∷ [])) ∙ length-append (atoms nodes i) (atoms_left nodes rest)) in
      let few : length rest ≤ length (atoms_left nodes rest) = left-few rest in
      let one : 0 < length (atoms nodes i) = some i in
      omega arith

  pub looking-first : (top : ℕ) (met : List ℕ) → top < length nodes → met ≡ [] → IsLooking nodes top met [] (top ∷ [])
  looking-first top met low none =
      rw none
      record {
        low = All-one (λ i. i < length nodes) top low;
        has_top = inr (Contains-here top []);
        next = λ i j it. absurd (empty i it);
        atom = λ i j it. absurd (empty i it);
        came = λ j it. absurd (empty j it);
        once = tt;
        sound = λ j it. absurd (empty j it);
        below = λ i j it atom. subst (λ k. Contains (atoms nodes k) j) (sym (one-is top i it)) atom;
      }

  module _ (top : ℕ) (met found left : List ℕ) (looking : IsLooking nodes top met found left) (none : left ≡ []) where
    all-met : (j : ℕ) → Contains met j ⊎ Contains left j → Contains met j
    all-met j (inl it) = it
    all-met j (inr it) = absurd (empty j (subst (λ xs. Contains xs j) none it))

    all-found : (n i : ℕ) → Contains met i → (j : ℕ) → Contains (atoms_below nodes n i) j → Contains found j
    all-found zero i here j it = absurd (empty j it)
    all-found (suc n) i here j it = elim (step-cases (atoms_below nodes n) i (node_at nodes i) j it) [
      | inl atom ↦ looking.atom i j here atom
      | inr child ↦ all-found n child.0 (all-met child.0 (looking.next i child.0 here child.1)) j child.2
    ]

    pub looked : AreAtoms nodes top found
    looked = record { same = (looking.sound, all-found (suc top) top (all-met top looking.has_top)); once = looking.once }

-- the atoms of a node are there
module _ (nodes : List Node) (is : IsBook nodes) where
  atoms-below : (n i : ℕ) → All (λ j. j ≤ i) (atoms_below nodes n i)
  atoms-below zero i = λ k d low. absurd (omega arith)
  atoms-below (suc n) i = go (node_at nodes i) (is i) (λ j. atoms-below n j)
    where
      alone : All (λ j. j ≤ i) (i ∷ [])
      alone = All-one (λ j. j ≤ i) i (omega arith)

      child : (j : ℕ) → j < i → ((j : ℕ) → All (λ k. k ≤ j) (atoms_below nodes n j)) → All (λ k. k ≤ i) (atoms_below nodes n j)
      child j low earlier k d in_list = let h : get_or (atoms_below nodes n j) k d ≤ j = earlier j k d in_list in omega arith

      go : (x : Node) → IsOrdered i x → ((j : ℕ) → All (λ k. k ≤ j) (atoms_below nodes n j)) → All (λ j. j ≤ i) (atoms_step (atoms_below nodes n) i x)
      go (node.Join j k) low earlier = All-append (λ j. j ≤ i) (atoms_below nodes n j.0) (atoms_below nodes n k.0) (child j.0 low.0 earlier) (child k.0 low.1 earlier)
      go (node.Meet j k) low earlier = All-append (λ j. j ≤ i) (atoms_below nodes n j.0) (atoms_below nodes n k.0) (child j.0 low.0 earlier) (child k.0 low.1 earlier)
      go node.Bot low earlier = alone
      go node.Top low earlier = alone
      go (node.Var x) low earlier = alone
      go node.Bool low earlier = alone
      go node.Int low earlier = alone
      go (node.Arrow j k) low earlier = alone
      go (node.Rcd fields) low earlier = alone

  pub atoms-low : (i : ℕ) → i < length nodes → All (λ j. j < length nodes) (atoms nodes i)
  atoms-low i low k d in_list = let h : get_or (atoms nodes i) k d ≤ i = atoms-below (suc i) i k d in_list in omega arith

  pub found-low : (i : ℕ) (found : List ℕ) → i < length nodes → AreAtoms nodes i found → All (λ j. j < length nodes) found
  found-low i found low are =
      All-contained (λ j. j < length nodes) found (λ j it. All-contains (λ j. j < length nodes) (atoms nodes i) j (atoms-low i low) (are.same.0 j it))

-- an atom alone
pub atom-alone : (nodes : List Node) (top : ℕ) → ((i : ℕ) → atom_step i (node_at nodes top) ≡ i ∷ []) → AreAtoms nodes top (top ∷ [])
atom-alone nodes top alone = record {
  same = subst (λ (xs : List ℕ). IsSameSet (top ∷ []) xs) (sym (only (node_at nodes top) (alone top))) (λ s it. it, λ s it. it);
  once = (λ it. empty top it, tt);
}
  where
    only : (x : Node) → atom_step top x ≡ top ∷ [] → atoms_step (atoms_below nodes top) top x ≡ top ∷ []
    only node.Bot e = refl
    only node.Top e = refl
    only (node.Var x) e = refl
    only node.Bool e = refl
    only node.Int e = refl
    only (node.Arrow j k) e = refl
    only (node.Rcd fields) e = refl
    only (node.Join j k) e = absurd (cc)
    only (node.Meet j k) e = absurd (cc)
