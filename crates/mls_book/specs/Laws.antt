-- Laws of the order, over all closed books that have such nodes.
use Rattle.std.specs.Prelude.{◌≡◌, ◌≢◌, ◌⊎◌, ◌↔◌, ℕ, ◌<◌, List, length, Option, Some, None}
use Rattle.mls_book.specs.declared.book.Field.{Field}
use Rattle.mls_book.specs.declared.book.Node.{Node}
use Rattle.mls_book.specs.declared.book.NodeId.{NodeId}
use Rattle.mls_book.specs.declared.book.Node.TheVariants.{Bot, Top, Var, Bool, Int, Arrow, Rcd, Join, Meet}
use Rattle.mls_book.specs.Books.{IsClosedBook, node_at, field_at}
use Rattle.mls_book.specs.Predicates.{Predicate, var}
use Rattle.mls_book.specs.Passes.{passes, node_value}
use Rattle.mls_book.specs.Order.{IsBelow, AreEqual}

-- a family of predicates for the nodes of a book is as the table says
abbrev pub IsAsTable : List Node → (ℕ → Predicate) → Type 0
IsAsTable b value = (i : ℕ) → i < length b → value i ≡ node_value var value (node_at b i)

-- what the nodes pass is as the table says, and nothing else is
abbrev pub PassesIsTable : Type 0
PassesIsTable =
    (b : List Node) → IsClosedBook b
    → IsAsTable b (passes b) × ((value : ℕ → Predicate) → IsAsTable b value → (i : ℕ) → i < length b
    → value i ≡ passes b i)

abbrev pub Reflexive : Type 0
Reflexive = (b : List Node) (i : ℕ) → IsClosedBook b → i < length b → IsBelow b i b i

abbrev pub Transitive : Type 0
Transitive =
    (b c d : List Node) (i j k : ℕ) → IsClosedBook b → IsClosedBook c → IsClosedBook d → i < length b → j < length c
    → k < length d
    → IsBelow b i c j → IsBelow c j d k → IsBelow b i d k

abbrev pub BotLeast : Type 0
BotLeast =
    (b c : List Node) (n m : ℕ) → IsClosedBook b → IsClosedBook c → n < length b → m < length c
    → node_at b n ≡ Bot → IsBelow b n c m

abbrev pub TopGreatest : Type 0
TopGreatest =
    (b c : List Node) (n m : ℕ) → IsClosedBook b → IsClosedBook c → n < length b → m < length c
    → node_at c m ≡ Top → IsBelow b n c m

abbrev pub JoinLeastUpper : Type 0
JoinLeastUpper =
    (b : List Node) (n : ℕ) (i j : NodeId) → IsClosedBook b → node_at b n ≡ Join i j
    → IsBelow b i.0 b n
    × IsBelow b j.0 b n
    × ((c : List Node) (m : ℕ) → IsClosedBook c → m < length c → IsBelow b i.0 c m → IsBelow b j.0 c m
    → IsBelow b n c m)

abbrev pub MeetGreatestLower : Type 0
MeetGreatestLower =
    (b : List Node) (n : ℕ) (i j : NodeId) → IsClosedBook b → node_at b n ≡ Meet i j
    → IsBelow b n b i.0
    × IsBelow b n b j.0
    × ((c : List Node) (m : ℕ) → IsClosedBook c → m < length c → IsBelow c m b i.0 → IsBelow c m b j.0
    → IsBelow c m b n)

-- i & (j | k) is (i & j) | (i & k)
abbrev pub Distributive : Type 0
Distributive =
    (b : List Node) (left right : ℕ) (i j k join first second : NodeId) → IsClosedBook b
    → node_at b left ≡ Meet i join → node_at b join.0 ≡ Join j k
    → node_at b right ≡ Join first second → node_at b first.0 ≡ Meet i j → node_at b second.0 ≡ Meet i k
    → AreEqual b left b right

-- (i -> j) | (k -> l) is (i & k) -> (j | l)
abbrev pub FunctionJoin : Type 0
FunctionJoin =
    (b : List Node) (join function : ℕ) (i j k l first second domain codomain : NodeId) → IsClosedBook b
    → node_at b join ≡ Join first second → node_at b first.0 ≡ Arrow i j → node_at b second.0 ≡ Arrow k l
    → node_at b function ≡ Arrow domain codomain → node_at b domain.0 ≡ Meet i k → node_at b codomain.0 ≡ Join j l
    → AreEqual b join b function

-- (i -> j) & (k -> l) is (i | k) -> (j & l)
abbrev pub FunctionMeet : Type 0
FunctionMeet =
    (b : List Node) (meet function : ℕ) (i j k l first second domain codomain : NodeId) → IsClosedBook b
    → node_at b meet ≡ Meet first second → node_at b first.0 ≡ Arrow i j → node_at b second.0 ≡ Arrow k l
    → node_at b function ≡ Arrow domain codomain → node_at b domain.0 ≡ Join i k → node_at b codomain.0 ≡ Meet j l
    → AreEqual b meet b function

-- a field of the join of two records: both have the label, and it is the join of their fields
abbrev pub IsJoinedField : List Node → Option NodeId → Option NodeId → Option NodeId → Type 0
IsJoinedField b (Some i) (Some j) field = (n : NodeId) × (field ≡ Some n) × (node_at b n.0 ≡ Join i j)
IsJoinedField b _ _ field = field ≡ None

-- the join of two records keeps the common labels, with joined fields
abbrev pub RecordJoin : Type 0
RecordJoin =
    (b : List Node) (join both : ℕ) (first second : NodeId) (f g h : List Field) → IsClosedBook b
    → node_at b join ≡ Join first second → node_at b first.0 ≡ Rcd f → node_at b second.0 ≡ Rcd g
    → node_at b both ≡ Rcd h → ((label : List ℕ)
    → IsJoinedField b (field_at label f) (field_at label g) (field_at label h))
    → AreEqual b join b both

-- a field of the meet of two records: one of them has the label, and where both have it, it is the meet of their fields
abbrev pub IsMetField : List Node → Option NodeId → Option NodeId → Option NodeId → Type 0
IsMetField b (Some i) (Some j) field = (n : NodeId) × (field ≡ Some n) × (node_at b n.0 ≡ Meet i j)
IsMetField b (Some i) None field = field ≡ Some i
IsMetField b None other field = field ≡ other

-- the meet of two records keeps all labels, and meets the common fields
abbrev pub RecordMeet : Type 0
RecordMeet =
    (b : List Node) (meet both : ℕ) (first second : NodeId) (f g h : List Field) → IsClosedBook b
    → node_at b meet ≡ Meet first second → node_at b first.0 ≡ Rcd f → node_at b second.0 ≡ Rcd g
    → node_at b both ≡ Rcd h → ((label : List ℕ)
    → IsMetField b (field_at label f) (field_at label g) (field_at label h))
    → AreEqual b meet b both

-- i -> j is below k -> l exactly where k is below i, and j below l
abbrev pub FunctionOrder : Type 0
FunctionOrder =
    (b c : List Node) (n m : ℕ) (i j k l : NodeId) → IsClosedBook b → IsClosedBook c
    → node_at b n ≡ Arrow i j → node_at c m ≡ Arrow k l
    → IsBelow b n c m ↔ (IsBelow c k.0 b i.0 × IsBelow b j.0 c l.0)

-- f is below g exactly where each label of g is in f with a lower field
abbrev pub RecordOrder : Type 0
RecordOrder =
    (b c : List Node) (n m : ℕ) (f g : List Field) → IsClosedBook b → IsClosedBook c
    → node_at b n ≡ Rcd f → node_at c m ≡ Rcd g
    → IsBelow b n c m
    ↔ ((label : List ℕ) (k : NodeId) → field_at label g ≡ Some k → (j : NodeId) × (field_at label f ≡ Some j)
    × IsBelow b j.0 c k.0)

-- top -> bot is not bot
abbrev pub FunctionNotBot : Type 0
FunctionNotBot =
    (b c : List Node) (n m : ℕ) (i j : NodeId) → IsClosedBook b → IsClosedBook c → m < length c
    → node_at b n ≡ Arrow i j → node_at b i.0 ≡ Top → node_at b j.0 ≡ Bot → node_at c m ≡ Bot
    → ¬ IsBelow b n c m

-- bot -> top is not top
abbrev pub TopNotFunction : Type 0
TopNotFunction =
    (b c : List Node) (n m : ℕ) (i j : NodeId) → IsClosedBook b → IsClosedBook c
    → node_at b n ≡ Top → node_at c m ≡ Arrow i j → node_at c i.0 ≡ Bot → node_at c j.0 ≡ Top
    → ¬ IsBelow b n c m

-- what a node is made by, where it is no join or meet and no bound
pub data Head : Type 0 where
  variable : ℕ → Head
  boolean integer function fields : Head

abbrev pub head_of : Node → Option Head
head_of (Var x) = Some (variable x)
head_of Bool = Some boolean
head_of Int = Some integer
head_of (Arrow i j) = Some function
head_of (Rcd all) = Some fields
head_of _ = None

-- nodes with unlike heads are not in order, nor are two different variables
abbrev pub HeadsUnlike : Type 0
HeadsUnlike =
    (b c : List Node) (n m : ℕ) (h k : Head) → IsClosedBook b → IsClosedBook c
    → head_of (node_at b n) ≡ Some h → head_of (node_at c m) ≡ Some k → h ≢ k
    → ¬ IsBelow b n c m

-- a variable, `bool` and `int`
abbrev pub IsPrime : Node → Type 0
IsPrime (Var x) = Unit {0}
IsPrime Bool = Unit {0}
IsPrime Int = Unit {0}
IsPrime _ = ⊥

-- such a node is below a join exactly where it is below a part of it
abbrev pub PrimeInJoin : Type 0
PrimeInJoin =
    (b c : List Node) (p n : ℕ) (i j : NodeId) → IsClosedBook b → IsClosedBook c
    → IsPrime (node_at b p) → node_at c n ≡ Join i j
    → IsBelow b p c n ↔ (IsBelow b p c i.0 ⊎ IsBelow b p c j.0)
