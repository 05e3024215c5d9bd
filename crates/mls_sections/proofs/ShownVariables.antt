-- Which variables the states of a type show.
--     tree_member         a variable in a tree is one of its members
--     same_shown          all layouts of a type with these places show the same variables
--     below_front         what a tree of the front of a book names is in the front
--     read_shown          the variables that a type shows which was read are those of what was read
use Rattle.std.proofs.Common.{◌≡◌, ◌⊎◌, inl, inr, ℕ, ◌<◌, List, length, sym, ap, ◌∙◌, subst, arith, Contains}
use Rattle.mls_book.specs.declared.book.Node.{Node}
use Rattle.mls_book.specs.declared.book.Node.TheVariants as node
use Rattle.mls_book.specs.declared.book.NodeId.{NodeId}
use Rattle.mls_book.specs.Books.{node_at, IsBook, IsOrdered}
use Rattle.mls_automaton.specs.declared.automaton.HeadKind.{HeadKind}
use Rattle.mls_automaton.specs.declared.automaton.HeadKind.TheVariants as kind
use Rattle.mls_automaton.specs.declared.automaton.Polarity.{Polarity}
use Rattle.mls_automaton.specs.declared.automaton.Polarity.TheVariants.{Positive, Negative}
use Rattle.mls_automaton.specs.Automata.{Automaton, head_at, polarity_at}
use Rattle.mls_automaton.specs.Heads.{Parts, parts_of}
use Rattle.mls_typetext.specs.declared.scheme.ReadScheme.{ReadScheme}
use Rattle.mls_typetext.specs.Laws.{IsReadScheme}
use Rattle.mls_deriv.specs.Steps.{raised, HasFrom}
use Rattle.mls_layout.specs.Heads.{IsKindAt}
use Rattle.mls_layout.specs.Layouts.{IsTypeLayout}
use Rattle.mls_layout.specs.Trees.{none_node, two_node, HasOnly, member, none, two, HasMember, here, first, second}
use Rattle.mls_layout.specs.Uses.{Shows}

-- a node of no member and one of two trees are no variables
none_other : (p : Polarity) (x : ℕ) → none_node p ≡ node.Var x → ⊥
none_other Positive x e = absurd (cc)
none_other Negative x e = absurd (cc)

two_other : (p : Polarity) (l r : NodeId) (x : ℕ) → two_node p l r ≡ node.Var x → ⊥
two_other Positive l r x e = absurd (cc)
two_other Negative l r x e = absurd (cc)

two_none : (p : Polarity) (l r : NodeId) → two_node p l r ≡ none_node p → ⊥
two_none Positive l r e = absurd (cc)
two_none Negative l r e = absurd (cc)

left_of : (p : Polarity) (l r m o : NodeId) → two_node p l r ≡ two_node p m o → l.0 ≡ m.0
left_of Positive l r m o e = cc
left_of Negative l r m o e = cc

right_of : (p : Polarity) (l r m o : NodeId) → two_node p l r ≡ two_node p m o → r.0 ≡ o.0
right_of Positive l r m o e = cc
right_of Negative l r m o e = cc

-- a variable in a tree is one of its members, where none of these is a tree
module _ (book : List Node) (p : Polarity) (M : ℕ → Type 0) (plain : (i : ℕ) → M i → (l r : NodeId) → node_at book i ≡ two_node p l r → ⊥) (j x : ℕ) (is : node_at book j ≡ node.Var x) where
  at_top : (i : ℕ) → HasOnly book p M i → i ≡ j → M j
  at_top i (member it) same = subst M same it
  at_top i (none e) same = absurd (none_other p x (sym e ∙ (ap (node_at book) same ∙ is)))
  at_top i (two l r e one other) same = absurd (two_other p l r x (sym e ∙ (ap (node_at book) same ∙ is)))

  left_only : (i : ℕ) (l r : NodeId) → node_at book i ≡ two_node p l r → HasOnly book p M i → HasOnly book p M l.0
  left_only i l r e (member it) = absurd (plain i it l r e)
  left_only i l r e (none empty) = absurd (two_none p l r (sym e ∙ empty))
  left_only i l r e (two m o both one other) = subst (HasOnly book p M) (left_of p m o l r (sym both ∙ e)) one

  right_only : (i : ℕ) (l r : NodeId) → node_at book i ≡ two_node p l r → HasOnly book p M i → HasOnly book p M r.0
  right_only i l r e (member it) = absurd (plain i it l r e)
  right_only i l r e (none empty) = absurd (two_none p l r (sym e ∙ empty))
  right_only i l r e (two m o both one other) = subst (HasOnly book p M) (right_of p m o l r (sym both ∙ e)) other

  pub tree_member : (i : ℕ) → HasOnly book p M i → HasMember book p j i → M j
  tree_member i only (here same) = at_top i only same
  tree_member i only (first l r e below) = tree_member l.0 (left_only i l r e only) below
  tree_member i only (second l r e below) = tree_member r.0 (right_only i l r e only) below

-- the members of the tree of a type's state are no trees
module _ (book : List Node) (b : Automaton) (place : ℕ → ℕ) (layout : IsTypeLayout book b place) (s : ℕ) where
  abbrev Member : ℕ → Type 0
  Member i = Contains (layout.parts s) i ⊎ Contains (layout.variables s) i

  kind_plain : (h : Parts) (k : HeadKind) (q : Polarity) (i : ℕ) → IsKindAt book place q h k i → (p : Polarity) (l r : NodeId) → node_at book i ≡ two_node p l r → ⊥
  kind_plain h kind.Bool q i it Positive l r e = let is : node_at book i ≡ node.Bool = it.1 in absurd (cc)
  kind_plain h kind.Bool q i it Negative l r e = let is : node_at book i ≡ node.Bool = it.1 in absurd (cc)
  kind_plain h kind.Int q i it Positive l r e = let is : node_at book i ≡ node.Int = it.1 in absurd (cc)
  kind_plain h kind.Int q i it Negative l r e = let is : node_at book i ≡ node.Int = it.1 in absurd (cc)
  kind_plain h kind.Function q i it Positive l r e = let is : node_at book i ≡ node.Arrow it.from it.to = it.node in absurd (cc)
  kind_plain h kind.Function q i it Negative l r e = let is : node_at book i ≡ node.Arrow it.from it.to = it.node in absurd (cc)
  kind_plain h kind.Rcd q i it Positive l r e = let is : node_at book i ≡ node.Rcd it.fields = it.node in absurd (cc)
  kind_plain h kind.Rcd q i it Negative l r e = let is : node_at book i ≡ node.Rcd it.fields = it.node in absurd (cc)

  kind_variable : (h : Parts) (k : HeadKind) (q : Polarity) (i : ℕ) → IsKindAt book place q h k i → (x : ℕ) → node_at book i ≡ node.Var x → ⊥
  kind_variable h kind.Bool q i it x e = let is : node_at book i ≡ node.Bool = it.1 in absurd (cc)
  kind_variable h kind.Int q i it x e = let is : node_at book i ≡ node.Int = it.1 in absurd (cc)
  kind_variable h kind.Function q i it x e = let is : node_at book i ≡ node.Arrow it.from it.to = it.node in absurd (cc)
  kind_variable h kind.Rcd q i it x e = let is : node_at book i ≡ node.Rcd it.fields = it.node in absurd (cc)

  plain_member : (p : Polarity) (i : ℕ) → Member i → (l r : NodeId) → node_at book i ≡ two_node p l r → ⊥
  plain_member p i (inl part) l r e = let w = (layout.heads s).all i part in kind_plain (parts_of (head_at b s)) w.0 (polarity_at b s) i w.1 p l r e
  plain_member p i (inr variable) l r e = let w = layout.are_variables s i variable in two_other p l r w.0 (sym e ∙ w.1)

  -- a variable in its tree is shown
  member_shown : (i x : ℕ) → Member i → node_at book i ≡ node.Var x → Shows book layout.variables s x
  member_shown i x (inl part) e = let w = (layout.heads s).all i part in absurd (kind_variable (parts_of (head_at b s)) w.0 (polarity_at b s) i w.1 x e)
  member_shown i x (inr variable) e = (i, variable, e)

  pub tree_shown : (i x : ℕ) → HasMember book (polarity_at b s) i (place s) → node_at book i ≡ node.Var x → Shows book layout.variables s x
  tree_shown i x below e = member_shown i x (tree_member book (polarity_at b s) Member (plain_member (polarity_at b s)) i x e (place s) (layout.tree s).only below) e

pub same_shown : (book : List Node) (b : Automaton) (place : ℕ → ℕ) (one other : IsTypeLayout book b place) (s x : ℕ) → Shows book one.variables s x → Shows book other.variables s x
same_shown book b place one other s x (i, there, e) = tree_shown book b place other s i x ((one.tree s).each i (inr there)) e

-- what a tree of the front of a book names is in the front
pub below_front : (book : List Node) → IsBook book → (n : ℕ) (p : Polarity) (j i : ℕ) → HasMember book p j i → i < n → j < n
below_front book is n p j i (here same) low = omega (arith, same, low)
below_front book is n p j i (first l r e below) low = below_front book is n p j l.0 below (let less : l.0 < i = lower p l r (subst (IsOrdered i) e (is i)) in omega (arith, less, low))
  where
    lower : (q : Polarity) (a c : NodeId) → IsOrdered i (two_node q a c) → a.0 < i
    lower Positive a c it = it.0
    lower Negative a c it = it.0
below_front book is n p j i (second l r e below) low = below_front book is n p j r.0 below (let less : r.0 < i = lower p l r (subst (IsOrdered i) e (is i)) in omega (arith, less, low))
  where
    lower : (q : Polarity) (a c : NodeId) → IsOrdered i (two_node q a c) → c.0 < i
    lower Positive a c it = it.1
    lower Negative a c it = it.1

-- the tree of no member names itself alone
none_below : (book : List Node) (p q : Polarity) (j i : ℕ) → HasMember book p j i → node_at book i ≡ none_node q → j ≡ i
none_below book p q j i (here same) e = sym same
none_below book p q j i (first l r both below) e = absurd (other p q l r (sym both ∙ e))
  where
    other : (a c : Polarity) (m o : NodeId) → two_node a m o ≡ none_node c → ⊥
    other Positive Positive m o is = absurd (cc)
    other Positive Negative m o is = absurd (cc)
    other Negative Positive m o is = absurd (cc)
    other Negative Negative m o is = absurd (cc)
none_below book p q j i (second l r both below) e = absurd (other p q l r (sym both ∙ e))
  where
    other : (a c : Polarity) (m o : NodeId) → two_node a m o ≡ none_node c → ⊥
    other Positive Positive m o is = absurd (cc)
    other Positive Negative m o is = absurd (cc)
    other Negative Positive m o is = absurd (cc)
    other Negative Negative m o is = absurd (cc)

-- a variable that was raised
raised_variable : (n x : ℕ) (v : Node) → raised n v ≡ node.Var x → v ≡ node.Var x
raised_variable n x node.Bot e = absurd (cc)
raised_variable n x node.Top e = absurd (cc)
raised_variable n x (node.Var y) e = e
raised_variable n x node.Bool e = absurd (cc)
raised_variable n x node.Int e = absurd (cc)
raised_variable n x (node.Arrow j k) e = absurd (cc)
raised_variable n x (node.Rcd fields) e = absurd (cc)
raised_variable n x (node.Join j k) e = absurd (cc)
raised_variable n x (node.Meet j k) e = absurd (cc)

-- the variables that a type shows which was read are those of what was read
pub read_shown : (read : ReadScheme) → IsReadScheme read → (book : List Node) → IsBook book → HasFrom book 0 read.book → (b : Automaton) (place : ℕ → ℕ) → ((q : ℕ) → (place q < length read.book) ⊎ ((p : Polarity) × (node_at book (place q) ≡ none_node p)))
    → (layout : IsTypeLayout book b place) (s x : ℕ) → Shows book layout.variables s x → x < read.vars
read_shown read good book is from b place nodes layout s x (i, there, e) = go (nodes s)
  where
    below : HasMember book (polarity_at b s) i (place s)
    below = (layout.tree s).each i (inr there)

    go : (place s < length read.book) ⊎ ((p : Polarity) × (node_at book (place s) ≡ none_node p)) → x < read.vars
    go (inl low) =
        let i_low : i < length read.book = below_front book is (length read.book) (polarity_at b s) i (place s) below low in
        good.variables i x i_low (raised_variable 0 x (node_at read.book i) (sym (from.nodes i i_low) ∙ (ap (node_at book) (omega arith) ∙ e)))
    go (inr (p, empty)) =
        let same : i ≡ place s = none_below book (polarity_at b s) p i (place s) below empty in
        absurd (none_other p x (sym empty ∙ (ap (node_at book) (sym same) ∙ e)))
