-- The book of a type.
use Rattle.std.specs.Prelude.{ℕ, zero, suc, ◌+◌, Bool, true, false, List, [], ◌∷◌, ◌++◌, filter, not, bytes_eq}
use Rattle.std.specs.Prelude.{if◌then◌else◌}
use Rattle.std.specs.Ordering.{nat_cmp}
use Rattle.std.specs.declared.cmp.Ordering.{Ordering}
use Rattle.std.specs.declared.cmp.Ordering.TheVariants.{Less, Equal, Greater}
use Rattle.std.specs.Cmp.Lexicographic.{slice_cmp}
use Rattle.mls_book.specs.declared.book.Field.{Field}
use Rattle.mls_book.specs.declared.book.NodeId.{NodeId}
use Rattle.mls_book.specs.declared.book.Node.{Node}
use Rattle.mls_book.specs.declared.book.Node.TheVariants as node
use Rattle.mls_typetext.specs.Trees.{TypeTree, a_name, a_bool, an_int, a_top, a_bot, an_arrow, a_record, a_join, a_meet}
use Rattle.mls_typetext.specs.Trees.{a_rec, TypeFields, no_field, a_field}

-- a type whose variables have numbers; `again k` is the k-th `rec` around it, counted from the nearest
mutual
  pub data Ty : Type 0 where
    var again : ℕ → Ty
    boolean integer top bot : Ty
    arrow join meet : Ty → Ty → Ty
    fields : TyFields → Ty
    rec : Ty → Ty

  pub data TyFields : Type 0 where
    none : TyFields
    one : (label : List ℕ) → Ty → TyFields → TyFields

-- where a name first stands in a list, or the list's length
abbrev pub place_in : List (List ℕ) → List ℕ → ℕ
place_in [] x = 0
place_in (y ∷ ys) x = if bytes_eq y x then 0 else suc (place_in ys x)

-- a name stands in a list
abbrev pub is_in : List (List ℕ) → List ℕ → Bool
is_in [] x = false
is_in (y ∷ ys) x = if bytes_eq y x then true else is_in ys x

-- the names of a list, each at its first place alone
abbrev pub first_places : List (List ℕ) → List (List ℕ)
first_places [] = []
first_places (x ∷ xs) = x ∷ filter (λ y. not (bytes_eq y x)) (first_places xs)

-- the type variables of a tree in the order of the text, each as often as it stands there; a name of a `rec` around it
-- is none
abbrev mutual
  pub variables_in : (recs : List (List ℕ)) → TypeTree → List (List ℕ)
  variables_in recs (a_name at x) = if is_in recs x then [] else x ∷ []
  variables_in recs a_bool = []
  variables_in recs an_int = []
  variables_in recs (a_top at) = []
  variables_in recs (a_bot at) = []
  variables_in recs (an_arrow from to) = variables_in recs from ++ variables_in recs to
  variables_in recs (a_record all) = field_variables recs all
  variables_in recs (a_join left at right) = variables_in recs left ++ variables_in recs right
  variables_in recs (a_meet left at right) = variables_in recs left ++ variables_in recs right
  variables_in recs (a_rec x t) = variables_in (x ∷ recs) t

  pub field_variables : (recs : List (List ℕ)) → TypeFields → List (List ℕ)
  field_variables recs no_field = []
  field_variables recs (a_field at label t rest) = variables_in recs t ++ field_variables recs rest

-- the type variables of a tree in the order of their first appearance
abbrev pub variables : TypeTree → List (List ℕ)
variables t = first_places (variables_in [] t)

-- the tree with numbers in place of names, where a variable has its place among the variables
abbrev mutual
  pub numbered : (vars recs : List (List ℕ)) → TypeTree → Ty
  numbered vars recs (a_name at x) = if is_in recs x then again (place_in recs x) else var (place_in vars x)
  numbered vars recs a_bool = boolean
  numbered vars recs an_int = integer
  numbered vars recs (a_top at) = top
  numbered vars recs (a_bot at) = bot
  numbered vars recs (an_arrow from to) = arrow (numbered vars recs from) (numbered vars recs to)
  numbered vars recs (a_record all) = fields (numbered_fields vars recs all)
  numbered vars recs (a_join left at right) = join (numbered vars recs left) (numbered vars recs right)
  numbered vars recs (a_meet left at right) = meet (numbered vars recs left) (numbered vars recs right)
  numbered vars recs (a_rec x t) = rec (numbered vars (x ∷ recs) t)

  pub numbered_fields : (vars recs : List (List ℕ)) → TypeFields → TyFields
  numbered_fields vars recs no_field = none
  numbered_fields vars recs (a_field at label t rest) =
      one label (numbered vars recs t) (numbered_fields vars recs rest)

-- the type of a tree
abbrev pub type_of : TypeTree → Ty
type_of t = numbered (variables t) [] t

-- A layer of a type is what lies between constructors: the joins, meets and `rec`s from one place down to the
-- variables, base types,
-- `top`, `bot`, functions, records and recursive names. A `rec` and a recursive name have no node of their own: both
-- stand for the node of the body.

-- how many nodes the layer has
unfoldable pub here : Ty → ℕ
here (var x) = 1
here (again k) = 0
here boolean = 1
here integer = 1
here top = 1
here bot = 1
here (arrow a b) = 1
here (join a b) = suc (here a + here b)
here (meet a b) = suc (here a + here b)
here (fields all) = 1
here (rec a) = here a

-- how many nodes lie below the layer
unfoldable mutual
  pub under : Ty → ℕ
  under (var x) = 0
  under (again k) = 0
  under boolean = 0
  under integer = 0
  under top = 0
  under bot = 0
  under (arrow a b) = (here a + under a) + (here b + under b)
  under (join a b) = under a + under b
  under (meet a b) = under a + under b
  under (fields all) = under_fields all
  under (rec a) = under a

  pub under_fields : TyFields → ℕ
  under_fields none = 0
  under_fields (one label a rest) = (here a + under a) + under_fields rest

-- the k-th node of a list
abbrev pub node_in : List ℕ → ℕ → ℕ
node_in [] k = 0
node_in (n ∷ ns) zero = n
node_in (n ∷ ns) (suc k) = node_in ns k

-- the node that a type stands for, where its layer begins at node p and the `rec`s around it stand for these nodes
unfoldable pub stands : ℕ → List ℕ → Ty → ℕ
stands p recs (var x) = p
stands p recs (again k) = node_in recs k
stands p recs boolean = p
stands p recs integer = p
stands p recs top = p
stands p recs bot = p
stands p recs (arrow a b) = p
stands p recs (join a b) = p + (here a + here b)
stands p recs (meet a b) = p + (here a + here b)
stands p recs (fields all) = p
stands p recs (rec a) = stands p (0 ∷ recs) a

abbrev pub id : ℕ → NodeId
id n = record { 0 = n }

-- a field put among fields in the order of labels
abbrev pub placed_by : Ordering → Field → Field → List Field → List Field → List Field
placed_by Less field first rest later = field ∷ first ∷ rest
placed_by Equal field first rest later = field ∷ first ∷ rest
placed_by Greater field first rest later = first ∷ later

unfoldable pub placed : Field → List Field → List Field
placed field [] = field ∷ []
placed field (first ∷ rest) = placed_by (slice_cmp nat_cmp field.label first.label) field first rest (placed field rest)

-- the fields of a record by their labels in byte order, where what lies below them begins at node q
unfoldable pub field_nodes : ℕ → List ℕ → TyFields → List Field
field_nodes q recs none = []
field_nodes q recs (one label a rest) =
    placed (record { label = label; node = id (stands q recs a) }) (field_nodes (q + (here a + under a)) recs rest)

-- the nodes of the layer that begins at p, where what lies below it begins at q: from left to right, the operands of a
-- join or meet before it
unfoldable pub layer : (p q : ℕ) → List ℕ → Ty → List Node
layer p q recs (var x) = node.Var x ∷ []
layer p q recs (again k) = []
layer p q recs boolean = node.Bool ∷ []
layer p q recs integer = node.Int ∷ []
layer p q recs top = node.Top ∷ []
layer p q recs bot = node.Bot ∷ []
layer p q recs (arrow a b) = node.Arrow (id (stands q recs a)) (id (stands (q + (here a + under a)) recs b)) ∷ []
layer p q recs (join a b) =
    layer p q recs a ++ layer (p + here a) (q + under a) recs b
    ++ node.Join (id (stands p recs a)) (id (stands (p + here a) recs b)) ∷ []
layer p q recs (meet a b) =
    layer p q recs a ++ layer (p + here a) (q + under a) recs b
    ++ node.Meet (id (stands p recs a)) (id (stands (p + here a) recs b)) ∷ []
layer p q recs (fields all) = node.Rcd (field_nodes q recs all) ∷ []
layer p q recs (rec a) = layer p q (stands p (0 ∷ recs) a ∷ recs) a

-- the nodes below the layer: for each function and record from left to right its child layers in turn, each with all
-- that lies below it, the domain before the codomain and fields in the order of the text
unfoldable mutual
  pub below : (p q : ℕ) → List ℕ → Ty → List Node
  below p q recs (var x) = []
  below p q recs (again k) = []
  below p q recs boolean = []
  below p q recs integer = []
  below p q recs top = []
  below p q recs bot = []
  below p q recs (arrow a b) =
      let r = q + (here a + under a) in
      (layer q (q + here a) recs a ++ below q (q + here a) recs a)
      ++ (layer r (r + here b) recs b ++ below r (r + here b) recs b)
  below p q recs (join a b) = below p q recs a ++ below (p + here a) (q + under a) recs b
  below p q recs (meet a b) = below p q recs a ++ below (p + here a) (q + under a) recs b
  below p q recs (fields all) = below_fields q recs all
  below p q recs (rec a) = below p q (stands p (0 ∷ recs) a ∷ recs) a

  pub below_fields : ℕ → List ℕ → TyFields → List Node
  below_fields q recs none = []
  below_fields q recs (one label a rest) =
      (layer q (q + here a) recs a ++ below q (q + here a) recs a) ++ below_fields (q + (here a + under a)) recs rest

-- the book of a type: its outermost layer, then what lies below it
unfoldable pub book_of : Ty → List Node
book_of a = layer 0 (here a) [] a ++ below 0 (here a) [] a

-- the node of the whole type
unfoldable pub root_of : Ty → ℕ
root_of a = stands 0 [] a
