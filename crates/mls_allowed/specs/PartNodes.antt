-- The nodes of a part: those of the states of its constraint and of its type, and all that they name.
use Rattle.std.specs.Prelude.{◌≡◌, ◌⊎◌, ℕ, List, Contains}
use Rattle.mls_book.specs.declared.book.Field.{Field}
use Rattle.mls_book.specs.declared.book.Node.{Node}
use Rattle.mls_book.specs.declared.book.Node.TheVariants as node
use Rattle.mls_book.specs.Books.{node_at}

-- the node names node m
abbrev pub HasChild : Node → ℕ → Type 0
HasChild (node.Arrow j k) m = (j.0 ≡ m) ⊎ (k.0 ≡ m)
HasChild (node.Rcd fields) m = (field : Field) × Contains fields field × (field.node.0 ≡ m)
HasChild (node.Join j k) m = (j.0 ≡ m) ⊎ (k.0 ≡ m)
HasChild (node.Meet j k) m = (j.0 ≡ m) ⊎ (k.0 ≡ m)
HasChild _ m = ⊥

pub data IsPartNode (book : List Node) (place type_place : ℕ → ℕ) : ℕ → Type 0 where
  of_state : {i : ℕ} (s : ℕ) → place s ≡ i → IsPartNode book place type_place i
  of_type : {i : ℕ} (s : ℕ) → type_place s ≡ i → IsPartNode book place type_place i
  named : {k : ℕ} (i : ℕ) → IsPartNode book place type_place i → HasChild (node_at book i) k
      → IsPartNode book place type_place k
