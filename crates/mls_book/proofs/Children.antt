-- The children of nodes.
use Rattle.std.proofs.Common.{◌≡◌, ℕ, ◌<◌, true, false, List, [], ◌∷◌, length, subst, Some, get_or}
use Rattle.std.specs.Prelude.{All, cond, bytes_eq, find, option_map}
use Rattle.std.proofs.lemmas.List.Elements.{All-get_or, All-head, All-tail}
use Rattle.mls_book.specs.declared.book.Field.{Field}
use Rattle.mls_book.specs.declared.book.Node.{Node}
use Rattle.mls_book.specs.declared.book.NodeId.{NodeId}
use Rattle.mls_book.specs.declared.book.Node.TheVariants as node
use Rattle.mls_book.specs.Books.{node_at, field_at, IsClosed, HasChildrenBelow}

-- what holds of each field holds of the one that is found
pub at_found : (P : ℕ → Type 0) (label : List ℕ) (fields : List Field) → All (λ field. P field.node.0) fields → (n : NodeId) → field_at label fields ≡ Some n → P n.0
at_found P label [] all n e = absurd (cc)
at_found P label (field ∷ rest) all n e =
    elim (bytes_eq field.label label) as (λ b. option_map (λ (f : Field). f.node) (cond b (Some field) (find (λ f. bytes_eq f.label label) rest)) ≡ Some n → P n.0) [
      | true ↦ λ same. let is : field.node ≡ n = cc in subst (λ (m : NodeId). P m.0) is (All-head (λ f. P f.node.0) field rest all)
      | false ↦ λ later. at_found P label rest (All-tail (λ f. P f.node.0) field rest all) n later
    ] e

-- each child of a node is such a number
abbrev pub HasChildrenIn : (ℕ → Type 0) → Node → Type 0
HasChildrenIn Q (node.Arrow j k) = Q j.0 × Q k.0
HasChildrenIn Q (node.Join j k) = Q j.0 × Q k.0
HasChildrenIn Q (node.Meet j k) = Q j.0 × Q k.0
HasChildrenIn Q (node.Rcd fields) = All (λ field. Q field.node.0) fields
HasChildrenIn Q _ = Unit {0}

-- below a number, in the words of closed books
pub children_below : (n : ℕ) (x : Node) → HasChildrenBelow n x → HasChildrenIn (λ j. j < n) x
children_below n node.Bot h = tt
children_below n node.Top h = tt
children_below n (node.Var x) h = tt
children_below n node.Bool h = tt
children_below n node.Int h = tt
children_below n (node.Arrow j k) h = h
children_below n (node.Rcd fields) h = h
children_below n (node.Join j k) h = h
children_below n (node.Meet j k) h = h

-- in a closed book the children are numbers of nodes
pub closed_children : (b : List Node) → IsClosed b → (i : ℕ) → i < length b → HasChildrenIn (λ j. j < length b) (node_at b i)
closed_children b closed i low = children_below (length b) (node_at b i) (All-get_or (HasChildrenBelow (length b)) b i node.Bot low closed)

-- where every number will do, each node has such children
pub any_children : (x : Node) → HasChildrenIn (λ j. Unit {0}) x
any_children node.Bot = tt
any_children node.Top = tt
any_children (node.Var x) = tt
any_children node.Bool = tt
any_children node.Int = tt
any_children (node.Arrow j k) = (tt, tt)
any_children (node.Rcd fields) = λ k d h. tt
any_children (node.Join j k) = (tt, tt)
any_children (node.Meet j k) = (tt, tt)

-- children that are such are also those that follow from it
pub HasChildrenIn-more : (P Q : ℕ → Type 0) → ((j : ℕ) → P j → Q j) → (x : Node) → HasChildrenIn P x → HasChildrenIn Q x
HasChildrenIn-more P Q more node.Bot h = tt
HasChildrenIn-more P Q more node.Top h = tt
HasChildrenIn-more P Q more (node.Var x) h = tt
HasChildrenIn-more P Q more node.Bool h = tt
HasChildrenIn-more P Q more node.Int h = tt
HasChildrenIn-more P Q more (node.Arrow j k) h = (more j.0 h.0, more k.0 h.1)
HasChildrenIn-more P Q more (node.Rcd fields) h = λ i d low. more (get_or fields i d).node.0 (h i d low)
HasChildrenIn-more P Q more (node.Join j k) h = (more j.0 h.0, more k.0 h.1)
HasChildrenIn-more P Q more (node.Meet j k) h = (more j.0 h.0, more k.0 h.1)
