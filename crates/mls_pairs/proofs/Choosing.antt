-- How a part of a list is chosen that keeps one reason for each of its pairs.
--     found_held                  a reason that was found and is held
--     fields_reason               where each field of the right record is named, the left one has its label
--     needed_reason               the held pairs that the rules name are a reason
--     choosing_first, choosing_next, choosing_last    the loop over the list
--     chosen_list                 what is chosen of the table of a list is a list too
--     chosen_inside               and has nodes of the book
use Rattle.std.proofs.Common.{◌≡◌, ◌⊎◌, inl, inr, ℕ, suc, ◌<◌, ◌≤◌, ◌+◌, Bool, true, false, List, [], ◌∷◌, ◌++◌, length, refl, sym, ap, ◌∙◌, subst, arith, Option, Some, None, cond, bytes_eq, length-append}
use Rattle.std.specs.Prelude.{All, Contains, IfSome, get_or, option_map, find}
use Rattle.std.specs.List.{flat_map}
use Rattle.std.proofs.lemmas.List.{get_or_default}
use Rattle.std.proofs.lemmas.List.Elements.{All-nil, All-cons, All-contains, Contains-append_left, Contains-append_right, Contains-append_cases}
use Rattle.std.proofs.lemmas.Slice.Eq.{bytes_eq-Decides}
use Rattle.mls_book.specs.declared.book.Field.{Field}
use Rattle.mls_book.specs.declared.book.NodeId.{NodeId}
use Rattle.mls_book.specs.declared.book.Node.{Node}
use Rattle.mls_book.specs.declared.book.Node.TheVariants as node
use Rattle.mls_book.specs.Books.{node_at, field_at}
use Rattle.mls_deriv.specs.declared.derivation.Mode.{Mode}
use Rattle.mls_deriv.specs.declared.derivation.Mode.TheVariants.{Pp}
use Rattle.mls_deriv.specs.declared.claim.Pair.{Pair}
use Rattle.mls_deriv.specs.declared.claim.Put.{Put}
use Rattle.mls_deriv.specs.declared.table.Table.{Table}
use Rattle.mls_deriv.specs.Pairs.{put_at, Claims, exchanged, IsJustified}
use Rattle.mls_deriv.specs.inner.PairRules.{left_node, right_node, IsReadAs, ByLeft, ByRight, ByBoth, ByNodes}
use Rattle.mls_deriv.specs.inner.Tables.{Holds, put_in}
use Rattle.mls_deriv.proofs.PairRules.{from_nodes}
use Rattle.mls_deriv.proofs.ScopedNames.{first_or_later}
use Rattle.mls_pairs.specs.declared.found.Found.{Found}
use Rattle.mls_pairs.specs.PairLists.{pair_of, IsRefuted, IsPairList, StaysInside}
use Rattle.mls_pairs.specs.steps.Growth.{Finds}
use Rattle.mls_pairs.specs.Lines.{IsTable}
use Rattle.mls_pairs.specs.steps.Needs.{read_as, left_needs, right_needs, label_needs, field_needs, both_needs, node_needs}
use Rattle.mls_pairs.specs.steps.Reasons.{IsChosen, IsHeld, IsShownAt, FieldsReason, IsReasonFor, IsReasonOf, IsChoosing}
use Rattle.mls_pairs.specs.steps.Rounds.{AreThose, none, kept, gone}
use Rattle.mls_pairs.proofs.Growing.{at_front, split}
use Rattle.mls_pairs.proofs.Needed.{head_there, next_there, field_there}
use Rattle.mls_pairs.proofs.Inside.{all_there, part_inside}

-- what was found and is held
pub found_held : (P Q R : List Pair → Type 0) (found o : Option (List Pair)) → IfSome found P → IfSome o (λ reason. found ≡ Some reason) → IfSome o Q
    → ((reason : List Pair) → P reason → Q reason → R reason) → IfSome o R
found_held P Q R found None all same held both = tt
found_held P Q R found (Some reason) all same held both = both reason (subst (λ o. IfSome o P) same all) held

-- what is left of a list of one kind
module _ (IsOne : Pair → Type 0) where
  those_are : (pairs left : List Pair) → AreThose IsOne pairs left → All IsOne left
  those_are pairs left none = All-nil IsOne
  those_are pairs left (kept {pairs = ps} {left = ls} first one rest) = All-cons IsOne first ls one (those_are ps ls rest)
  those_are pairs left (gone {pairs = ps} {left = ls} first one rest) = those_are ps ls rest

  those_there : (pairs left : List Pair) (pair : Pair) → AreThose IsOne pairs left → Contains pairs pair → IsOne pair → Contains left pair
  those_there pairs left pair none there is = there
  those_there pairs left pair (kept {pairs = ps} {left = ls} first one rest) there is = go (first_or_later first ps pair there) (λ later. those_there ps ls pair rest later is)
    where
      go : (first ≡ pair) ⊎ Contains ps pair → (Contains ps pair → Contains ls pair) → Contains (first ∷ ls) pair
      go (inl e) next = subst (Contains (first ∷ ls)) e (head_there first ls)
      go (inr later) next = Contains-append_right (first ∷ []) ls pair (next later)
  those_there pairs left pair (gone {pairs = ps} {left = ls} first one rest) there is = go (first_or_later first ps pair there) (λ later. those_there ps ls pair rest later is)
    where
      go : (first ≡ pair) ⊎ Contains ps pair → (Contains ps pair → Contains ls pair) → Contains ls pair
      go (inl e) next = absurd (one (subst IsOne (sym e) is))
      go (inr later) next = next later

module _ (mode : Mode) (fields : List Field) where
  abbrev named : List Field → List Pair
  named others = flat_map (field_needs mode fields) others

  at_most_one : (o : Option NodeId) (k : NodeId) → length (label_needs mode o k) ≤ 1
  at_most_one None k = omega arith
  at_most_one (Some m) k = omega arith

  at_most_each : (others : List Field) → length (named others) ≤ length others
  at_most_each [] = omega arith
  at_most_each (other ∷ rest) =
      let sum : length (named (other ∷ rest)) ≡ length (field_needs mode fields other) + length (named rest) = length-append (field_needs mode fields other) (named rest) in
      let one : length (field_needs mode fields other) ≤ 1 = at_most_one (field_at other.label fields) other.node in
      let later : length (named rest) ≤ length rest = at_most_each rest in
      omega (arith, sum, one, later)

  has_label : (others : List Field) → length (named others) ≡ length others → (label : List ℕ) (k : NodeId) → field_at label others ≡ Some k → (m : NodeId) × (field_at label fields ≡ Some m)
  has_label [] same label k found = absurd (cc)
  has_label (other ∷ rest) same label k found = by_field (field_at other.label fields) refl (λ same found. has_label rest same label k found)
    where
      sum : length (named (other ∷ rest)) ≡ length (field_needs mode fields other) + length (named rest)
      sum = length-append (field_needs mode fields other) (named rest)

      low : length (named rest) ≤ length rest
      low = at_most_each rest

      by_field : (o : Option NodeId) → field_at other.label fields ≡ o → (length (named rest) ≡ length rest → field_at label rest ≡ Some k → (m : NodeId) × (field_at label fields ≡ Some m))
          → (m : NodeId) × (field_at label fields ≡ Some m)
      by_field None is next =
          let empty : length (field_needs mode fields other) ≡ 0 = ap (λ o. length (label_needs mode o other.node)) is in
          let all : length (named (other ∷ rest)) ≡ suc (length rest) = same in
          absurd (omega (arith, sum, low, empty, all))
      by_field (Some m) is next = by_label (bytes_eq other.label label) refl found
        where
          later : length (named rest) ≡ length rest
          later =
              let one : length (field_needs mode fields other) ≡ 1 = ap (λ o. length (label_needs mode o other.node)) is in
              let all : length (named (other ∷ rest)) ≡ suc (length rest) = same in
              omega (arith, sum, one, all)

          by_label : (t : Bool) → bytes_eq other.label label ≡ t → option_map (λ (f : Field). f.node) (cond t (Some other) (find (λ (f : Field). bytes_eq f.label label) rest)) ≡ Some k
              → (m : NodeId) × (field_at label fields ≡ Some m)
          by_label true e found = (m, subst (λ l. field_at l fields ≡ Some m) ((bytes_eq-Decides other.label label).0 e) is)
          by_label false e found = next later found

  pub fields_reason : (others : List Field) (reason : List Pair) → reason ≡ named others → length reason ≡ length others → FieldsReason mode fields others reason
  fields_reason others reason is same label k found =
      let it = has_label others (ap (λ (l : List Pair). length l) (sym is) ∙ same) label k found in
      (it.0, it.1, subst (λ (l : List Pair). Contains l (pair_of mode it.0.0 k.0)) (sym is) (field_there mode fields others label k it.0 found it.1))

-- what shows a pair by claims, shows it by those of them that the rules name
module _ (put : ℕ → Option ℕ) (claims more : Mode → ℕ → ℕ → Type 0) (mode : Mode) (i j : ℕ) where
  abbrev Within : List Pair → Type 0
  Within needs = (m : Mode) (k l : ℕ) → claims m k l → Contains needs (pair_of m k l) → more m k l

  read_named : (pair : ℕ → Pair) (claim moreover : ℕ → Type 0) (o : Option ℕ) → ((n : ℕ) → claim n → Contains (read_as pair o) (pair n) → moreover n) → IsReadAs claim o → IsReadAs moreover o
  read_named pair claim moreover None within h = h
  read_named pair claim moreover (Some n) within h = within n h (head_there (pair n) [])

  left_named : (v : Node) → Within (left_needs put mode j v) → ByLeft put claims mode j v → ByLeft put more mode j v
  left_named node.Bot within h = h
  left_named node.Top within h = absurd h
  left_named (node.Var x) within h = read_named (λ n. pair_of Pp n j) (λ n. claims Pp n j) (λ n. more Pp n j) (left_node mode put x) (λ n. within Pp n j) h
  left_named node.Bool within h = absurd h
  left_named node.Int within h = absurd h
  left_named (node.Arrow a b) within h = absurd h
  left_named (node.Rcd fields) within h = absurd h
  left_named (node.Join l r) within h =
      (within mode l.0 j h.0 (head_there (pair_of mode l.0 j) (pair_of mode r.0 j ∷ [])), within mode r.0 j h.1 (next_there (pair_of mode l.0 j) (pair_of mode r.0 j)))
  left_named (node.Meet l r) within (inl h) = inl (within mode l.0 j h (head_there (pair_of mode l.0 j) (pair_of mode r.0 j ∷ [])))
  left_named (node.Meet l r) within (inr h) = inr (within mode r.0 j h (next_there (pair_of mode l.0 j) (pair_of mode r.0 j)))

  right_named : (v : Node) → Within (right_needs put mode i v) → ByRight put claims mode i v → ByRight put more mode i v
  right_named node.Bot within h = absurd h
  right_named node.Top within h = h
  right_named (node.Var x) within h = read_named (λ n. pair_of Pp i n) (λ n. claims Pp i n) (λ n. more Pp i n) (right_node mode put x) (λ n. within Pp i n) h
  right_named node.Bool within h = absurd h
  right_named node.Int within h = absurd h
  right_named (node.Arrow a b) within h = absurd h
  right_named (node.Rcd fields) within h = absurd h
  right_named (node.Join l r) within (inl h) = inl (within mode i l.0 h (head_there (pair_of mode i l.0) (pair_of mode i r.0 ∷ [])))
  right_named (node.Join l r) within (inr h) = inr (within mode i r.0 h (next_there (pair_of mode i l.0) (pair_of mode i r.0)))
  right_named (node.Meet l r) within h =
      (within mode i l.0 h.0 (head_there (pair_of mode i l.0) (pair_of mode i r.0 ∷ [])), within mode i r.0 h.1 (next_there (pair_of mode i l.0) (pair_of mode i r.0)))

  both_named : (v w : Node) → Within (both_needs mode v w) → ByBoth put claims mode v w → ByBoth put more mode v w
  both_named node.Bool node.Bool within h = h
  both_named node.Int node.Int within h = h
  both_named (node.Var x) (node.Var y) within h = h
  both_named (node.Arrow a b) (node.Arrow c d) within h = (
    within (exchanged mode) c.0 a.0 h.0 (head_there (pair_of (exchanged mode) c.0 a.0) (pair_of mode b.0 d.0 ∷ [])),
    within mode b.0 d.0 h.1 (next_there (pair_of (exchanged mode) c.0 a.0) (pair_of mode b.0 d.0)),
  )
  both_named (node.Rcd fields) (node.Rcd others) within h =
      λ label k found.
      let it = h label k found in
      (it.0, it.1, within mode it.0.0 k.0 it.2 (field_there mode fields others label k it.0 found it.1))
  both_named _ _ within h = absurd h

  nodes_named : (v w : Node) → Within (node_needs put (pair_of mode i j) v w) → ByNodes put claims mode i j v w → ByNodes put more mode i j v w
  nodes_named v w within (inl (inl h)) =
      inl (inl (left_named v (λ m k l c there. within m k l c (Contains-append_left (left_needs put mode j v) (right_needs put mode i w ++ both_needs mode v w) (pair_of m k l) there)) h))
  nodes_named v w within (inl (inr h)) =
      inl (inr (right_named w (λ m k l c there. within m k l c (Contains-append_right (left_needs put mode j v) (right_needs put mode i w ++ both_needs mode v w) (pair_of m k l)
      (Contains-append_left (right_needs put mode i w) (both_needs mode v w) (pair_of m k l) there))) h))
  nodes_named v w within (inr (inl h)) =
      inr (inl (both_named v w (λ m k l c there. within m k l c (Contains-append_right (left_needs put mode j v) (right_needs put mode i w ++ both_needs mode v w) (pair_of m k l)
      (Contains-append_right (right_needs put mode i w) (both_needs mode v w) (pair_of m k l) there))) h))
  nodes_named v w within (inr (inr h)) = inr (inr h)

-- the pairs of the table that the rules name are a reason
pub needed_reason : (table : Table) (pair : Pair) (left right : Node) (reason : List Pair) → IsShownAt table pair left right
    → AreThose (IsHeld table) (node_needs (put_in table) pair left right) reason → IsReasonFor table pair left right reason
needed_reason table pair left right reason shown those = record {
  held = those_are (IsHeld table) (node_needs (put_in table) pair left right) reason those;
  shows =
      nodes_named (put_in table) (Holds table) (Claims reason) pair.mode pair.left pair.right left right
      (λ m k l held there. those_there (IsHeld table) (node_needs (put_in table) pair left right) reason (pair_of m k l) those there held) shown;
}

module _ (book : List Node) (table : Table) where
  -- more pairs show as much
  more_named : (pairs more : List Pair) → ((pair : Pair) → Contains pairs pair → Contains more pair) → (pair : Pair)
      → ByNodes (put_in table) (Claims pairs) pair.mode pair.left pair.right (node_at book pair.left) (node_at book pair.right)
      → ByNodes (put_in table) (Claims more) pair.mode pair.left pair.right (node_at book pair.left) (node_at book pair.right)
  more_named pairs more within pair h =
      nodes_named (put_in table) (Claims pairs) (Claims more) pair.mode pair.left pair.right (node_at book pair.left) (node_at book pair.right)
      (λ m k l claim there. within (pair_of m k l) claim) h

  pub choosing_first : (wanted held : List Pair) (f g : Found) → f.pairs ≡ [] → AreThose (IsHeld table) wanted held → Finds f g held → IsChoosing book table wanted 0 g
  choosing_first wanted held f g empty those finds = record {
    is = finds.is;
    has_wanted = λ pair there is. finds.has pair (those_there (IsHeld table) wanted held pair those there is);
    held = λ pair there. in_table pair (Contains-append_cases f.pairs finds.more pair (subst (λ (l : List Pair). Contains l pair) finds.behind there));
    reasoned = λ k pair low. absurd (omega arith);
  }
    where
      in_table : (pair : Pair) → Contains f.pairs pair ⊎ Contains finds.more pair → IsHeld table pair
      in_table pair (inl there) = absurd (let it : Contains [] pair = subst (λ (l : List Pair). Contains l pair) empty there in let low : it.0 < 0 = it.1 in omega arith)
      in_table pair (inr there) = All-contains (IsHeld table) held pair (those_are (IsHeld table) wanted held those) (finds.only pair there)

  pub choosing_next : (wanted reason : List Pair) (f g : Found) (n : ℕ) (pair : Pair) → n < length f.pairs → get_or f.pairs n pair ≡ pair → IsChoosing book table wanted n f
      → IsReasonOf book table pair reason → Finds f g reason → IsChoosing book table wanted (n + 1) g
  choosing_next wanted reason f g n pair low is it reasons finds = record {
    is = finds.is;
    has_wanted = λ other there is. still other (it.has_wanted other there is);
    held = λ other there. in_table other (Contains-append_cases f.pairs finds.more other (subst (λ (l : List Pair). Contains l other) finds.behind there));
    reasoned = λ k one k_low k_in at. go k one k_low k_in at (split k n);
  }
    where
      still : (other : Pair) → Contains f.pairs other → Contains g.pairs other
      still other there = subst (λ (l : List Pair). Contains l other) (sym finds.behind) (Contains-append_left f.pairs finds.more other there)

      in_table : (other : Pair) → Contains f.pairs other ⊎ Contains finds.more other → IsHeld table other
      in_table other (inl there) = it.held other there
      in_table other (inr there) = All-contains (IsHeld table) reason other reasons.held (finds.only other there)

      go : (k : ℕ) (one : Pair) → k < n + 1 → k < length g.pairs → get_or g.pairs k one ≡ one → (k < n) ⊎ (n ≤ k)
          → ByNodes (put_in table) (Claims g.pairs) one.mode one.left one.right (node_at book one.left) (node_at book one.right)
      go k one k_low k_in at (inl less) =
          more_named f.pairs g.pairs still one
          (it.reasoned k one less (omega arith) (sym (at_front f.pairs finds.more k one (omega arith)) ∙ (ap (λ (ps : List Pair). get_or ps k one) (sym finds.behind) ∙ at)))
      go k one k_low k_in at (inr more) =
          subst (λ (p : Pair). ByNodes (put_in table) (Claims g.pairs) p.mode p.left p.right (node_at book p.left) (node_at book p.right)) (sym same)
          (more_named reason g.pairs finds.has pair reasons.shows)
        where
          same : one ≡ pair
          same =
              let is_n : k ≡ n = omega arith in
              sym at
              ∙ (ap (λ (ps : List Pair). get_or ps k one) finds.behind
              ∙ (at_front f.pairs finds.more k one (omega arith)
              ∙ (ap (λ m. get_or f.pairs m one) is_n
              ∙ (get_or_default f.pairs n one pair low ∙ is))))

  pub choosing_last : (wanted : List Pair) (n : ℕ) (f : Found) → length f.pairs ≤ n → IsChoosing book table wanted n f → IsChosen book table wanted f.pairs
  choosing_last wanted n f all it = record {
    shown = λ pair there. it.reasoned there.0 pair (let low : there.0 < length f.pairs = there.1 in omega arith) there.1 there.2;
    held = it.held;
    has = it.has_wanted;
  }

module _ (book : List Node) (puts : List Put) (pairs : List Pair) (table : Table) (is : IsTable puts pairs table) where
  -- what is chosen has nodes of the book where the list has
  pub chosen_inside : (wanted chosen : List Pair) → StaysInside book (put_at puts) wanted pairs → IsChosen book table wanted chosen → StaysInside book (put_at puts) wanted chosen
  chosen_inside wanted chosen inside it =
      part_inside book (put_at puts) wanted pairs chosen (λ pair there. (is.holds pair.mode pair.left pair.right).0 (it.held pair there)) inside

  -- what is chosen for wanted pairs is a list for them, where the list has each of these that is not refuted
  pub chosen_list : (wanted chosen : List Pair) → ((pair : Pair) → Contains wanted pair → Contains pairs pair ⊎ IsRefuted book puts pair) → IsChosen book table wanted chosen → IsPairList book puts wanted chosen
  chosen_list wanted chosen has it = record {
    justified =
        all_there (λ (p : Pair). IsJustified book puts (Claims chosen) p.mode p.left p.right) chosen
        (λ pair there.
        from_nodes book puts (Claims chosen) pair.mode pair.left pair.right
        (subst (λ (put : ℕ → Option ℕ). ByNodes put (Claims chosen) pair.mode pair.left pair.right (node_at book pair.left) (node_at book pair.right)) (λ k x. is.put x k)
        (it.shown pair there)));
    has = λ pair there. go pair there (has pair there);
  }
    where
      go : (pair : Pair) → Contains wanted pair → Contains pairs pair ⊎ IsRefuted book puts pair → Contains chosen pair ⊎ IsRefuted book puts pair
      go pair there (inl h) = inl (it.has pair there ((is.holds pair.mode pair.left pair.right).1 h))
      go pair there (inr h) = inr h
