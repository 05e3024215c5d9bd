-- Partitions of nodes into blocks, and how they are split.
use Rattle.std.specs.Prelude.{◌≡◌, ◌⊎◌, ◌↔◌, ℕ, ◌<◌, ◌≤◌, Bool, List, [], ◌∷◌, ◌++◌, length, get_or, set, Contains}
use Rattle.mls_flow.specs.Admissible.{Holds}
use Rattle.mls_shape.specs.declared.partition.Partition.{Partition}
use Rattle.mls_shape.specs.steps.Classes.{class_in}

-- the nodes that are listed with a block
abbrev pub listed : List (List ℕ) → ℕ → List ℕ
listed lists k = get_or lists k []

-- each node is in a block, and is listed with it
pub record IsPartition (n : ℕ) (p : Partition) : Type 0 where
  pub size : length p.blocks.items ≡ n
  pub parts : length p.parts.items ≡ length p.members.items
  pub low : (v : ℕ) → v < n → class_in p.blocks.items v < length p.members.items
  pub part_low : (k : ℕ) → k < length p.members.items → class_in p.parts.items k < length p.members.items
  pub members : (v : ℕ) → v < n → Contains (listed p.members.items (class_in p.blocks.items v)) v

-- of the first nodes each is listed with its block
pub record AreMembers (blocks : List ℕ) (count upto : ℕ) (members : List (List ℕ)) : Type 0 where
  pub size : length members ≡ count
  pub listed : (v : ℕ) → v < upto → Contains (get_or members (class_in blocks v) []) v

abbrev pub IsInBlock : List ℕ → ℕ → ℕ → Type 0
IsInBlock blocks block v = (v < length blocks) × (class_in blocks v ≡ block)

-- just those of the nodes that are in the block
abbrev pub HoldsInBlock : List ℕ → ℕ → List ℕ → List ℕ → Type 0
HoldsInBlock blocks block nodes kept = (v : ℕ) → Contains kept v ↔ (Contains nodes v × IsInBlock blocks block v)

-- a node comes to the list if it is in the block
abbrev pub AddsIfInBlock : List ℕ → ℕ → ℕ → List ℕ → List ℕ → Type 0
AddsIfInBlock blocks block v old new =
    (u : ℕ) → Contains new u ↔ (Contains old u ⊎ ((u ≡ v) × IsInBlock blocks block u))

-- a new block for nodes of this one
pub record OpensPart (block : ℕ) (old new : Partition) : Type 0 where
  pub blocks : new.blocks.items ≡ old.blocks.items
  pub members : new.members.items ≡ old.members.items ++ [] ∷ []
  pub parts : new.parts.items ≡ set (old.parts.items ++ 0 ∷ []) block (length old.members.items)

-- the block has a part from `first` on, and the other parts of this kind are the same
pub record HasPart (first block n : ℕ) (old new : Partition) : Type 0 where
  pub is : IsPartition n new
  pub blocks : new.blocks.items ≡ old.blocks.items
  pub grows : length old.members.items ≤ length new.members.items
  pub part : first ≤ class_in new.parts.items block
  pub others : (k : ℕ) → first ≤ class_in old.parts.items k → class_in new.parts.items k ≡ class_in old.parts.items k

-- a node of the block goes to its part
pub record SendsNode (node block : ℕ) (old new : Partition) : Type 0 where
  pub blocks : new.blocks.items ≡ set old.blocks.items node (class_in old.parts.items block)
  pub members : new.members.items
      ≡ set old.members.items (class_in old.parts.items block)
      (listed old.members.items (class_in old.parts.items block) ++ node ∷ [])
  pub parts : new.parts.items ≡ old.parts.items

-- The node goes to the part of its block, unless it is in such a part. Parts have the numbers from `first` on.
pub record PartsNode (first node : ℕ) (old new : Partition) : Type 0 where
  pub others : (v : ℕ) → (v ≡ node → ⊥) → class_in new.blocks.items v ≡ class_in old.blocks.items v
  pub stays : first ≤ class_in old.blocks.items node → class_in new.blocks.items node ≡ class_in old.blocks.items node
  pub leaves : class_in old.blocks.items node < first
      → (first ≤ class_in new.blocks.items node)
      × (class_in new.blocks.items node ≡ class_in new.parts.items (class_in old.blocks.items node))
  pub parts : (k : ℕ) → first ≤ class_in old.parts.items k → class_in new.parts.items k ≡ class_in old.parts.items k

-- a node stayed, or it is one of these and went to the part of its block
abbrev pub StaysOrGoes : ℕ → List ℕ → Partition → Partition → ℕ → Type 0
StaysOrGoes first nodes old new v =
    (class_in new.blocks.items v ≡ class_in old.blocks.items v)
    ⊎ (Contains nodes v × (first ≤ class_in new.blocks.items v)
    × (class_in new.blocks.items v ≡ class_in new.parts.items (class_in old.blocks.items v)))

-- each of the nodes went to the part of its block, and each other node stayed
pub record PartsNodes (first : ℕ) (nodes : List ℕ) (old new : Partition) : Type 0 where
  pub moved : (v : ℕ) → Contains nodes v → first ≤ class_in new.blocks.items v
  pub how : (v : ℕ) → StaysOrGoes first nodes old new v

-- what is listed are nodes
abbrev pub AreNodes : List (List ℕ) → Type 0
AreNodes parents = (k v : ℕ) → Contains (listed parents k) v → v < length parents

-- for each child of a node a related node has a related child
pub record IsBisimulation (parents : List (List ℕ)) (R : ℕ → ℕ → Type 0) : Type 0 where
  pub low : (x y : ℕ) → R x y → (x < length parents) × (y < length parents)
  pub there : (x y child : ℕ) → R x y → Contains (listed parents child) x
      → (other : ℕ) × R child other × Contains (listed parents other) y
  pub back : (x y other : ℕ) → R x y → Contains (listed parents other) y
      → (child : ℕ) × R child other × Contains (listed parents child) x

-- related nodes are in one block
abbrev pub KeepsTogether : (ℕ → ℕ → Type 0) → List ℕ → Type 0
KeepsTogether R blocks = (x y : ℕ) → R x y → class_in blocks x ≡ class_in blocks y

-- related nodes that were in one block still are
abbrev pub IsRefinement : List (List ℕ) → List ℕ → List ℕ → Type 0
IsRefinement parents old new =
    (table : ℕ → ℕ → Bool) → IsBisimulation parents (Holds table) → KeepsTogether (Holds table) old
    → KeepsTogether (Holds table) new
