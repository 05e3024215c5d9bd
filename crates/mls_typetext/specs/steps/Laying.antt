-- A machine that lays out the nodes of a type from the pieces of the type, both from the last to the first.
use Rattle.std.specs.Prelude.{◌≡◌, ℕ, zero, suc, ◌+◌, List, [], ◌∷◌, ◌++◌, reverse, length, take, drop, Option, Some}
use Rattle.std.specs.Prelude.{None}
use Rattle.mls_book.specs.declared.book.Field.{Field}
use Rattle.mls_book.specs.declared.book.Node.{Node}
use Rattle.mls_book.specs.declared.book.Node.TheVariants as node
use Rattle.mls_typetext.specs.declared.piece.Size.{Size}
use Rattle.mls_typetext.specs.declared.piece.Member.{Member}
use Rattle.mls_typetext.specs.declared.piece.Member.TheVariants as member
use Rattle.mls_typetext.specs.declared.lay_out.LayoutPlace.{LayoutPlace}
use Rattle.mls_typetext.specs.declared.lay_out.LayoutPlace.TheVariants.{Part, Block, Fields}
use Rattle.mls_typetext.specs.declared.lay_out.LayoutTask.{LayoutTask}
use Rattle.mls_typetext.specs.declared.lay_out.LayoutTask.TheVariants.{At, Leave, End}
use Rattle.mls_typetext.specs.declared.lay_out.Layout.{Layout}
use Rattle.mls_typetext.specs.Books.{Ty, node_in, id, placed, book_of}
use Rattle.mls_typetext.specs.steps.Members.{size_of, members}

-- what is to do and the nodes of the `rec`s around it, both the nearest first; the nodes of the layers that are open,
-- the fields of the record that is open, and the nodes that are laid out
pub record State : Type 0 where
  pub tasks : List LayoutTask
  pub recs : List ℕ
  pub held : List Node
  pub fields : List Field
  pub nodes : List Node

abbrev pub state_of : Layout → State
state_of layout = record {
  tasks = reverse layout.tasks.items;
  recs = reverse layout.recs.items;
  held = layout.held.items;
  fields = layout.fields.items;
  nodes = layout.nodes.items;
}

-- the node that a part of this size stands for, where its layer begins at node p
abbrev pub stand_by : (p : ℕ) (recs : List ℕ) (here : ℕ) → Option ℕ → ℕ
stand_by p recs here (Some k) = node_in recs k
stand_by p recs zero None = 0
stand_by p recs (suc n) None = p + n

abbrev pub stand : ℕ → List ℕ → Size → ℕ
stand p recs size = stand_by p recs size.here size.again

-- fields in the order of their labels
unfoldable pub in_order : List Field → List Field
in_order [] = []
in_order (field ∷ fields) = placed field (in_order fields)

abbrev pub later : List ℕ → List ℕ
later [] = []
later (n ∷ ns) = ns

-- what is over is closed: the next thing to do is a place, or there is none
abbrev pub closed_by : List LayoutTask → List ℕ → List Node → List Field → List Node → State
closed_by [] recs held fields nodes = record { tasks = []; recs = recs; held = held; fields = fields; nodes = nodes }
closed_by (At place ∷ st) recs held fields nodes =
    record { tasks = At place ∷ st; recs = recs; held = held; fields = fields; nodes = nodes }
closed_by (Leave ∷ st) recs held fields nodes = closed_by st (later recs) held fields nodes
closed_by (End start ∷ st) recs held fields nodes =
    closed_by st recs (take start held) fields (nodes ++ drop start held)

abbrev pub closed : State → State
closed s = closed_by s.tasks s.recs s.held s.fields s.nodes

-- one more node of the layer that is open
abbrev pub hold : Node → State → State
hold node s = record { tasks = s.tasks; recs = s.recs; held = s.held ++ node ∷ []; fields = s.fields; nodes = s.nodes }

-- more to do, the next first
abbrev pub todo : List LayoutTask → State → State
todo tasks s = record { tasks = tasks ++ s.tasks; recs = s.recs; held = s.held; fields = s.fields; nodes = s.nodes }

abbrev pub enter : ℕ → State → State
enter n s = record { tasks = s.tasks; recs = n ∷ s.recs; held = s.held; fields = s.fields; nodes = s.nodes }

-- the layer whose nodes are held from this place on is over
abbrev pub end_at : ℕ → State → State
end_at start s =
    record {
      tasks = s.tasks;
      recs = s.recs;
      held = take start s.held;
      fields = s.fields;
      nodes = s.nodes
          ++ drop start s.held;
    }

abbrev pub with_fields : List Field → State → State
with_fields fields s = record { tasks = s.tasks; recs = s.recs; held = s.held; fields = fields; nodes = s.nodes }

-- a piece of the layer that is open
abbrev pub lay_part : Member → (p q : ℕ) → Size → State → State
lay_part (member.Var x) p q size s = hold (node.Var x) s
lay_part (member.Again k) p q size s = s
lay_part member.Bool p q size s = hold node.Bool s
lay_part member.Int p q size s = hold node.Int s
lay_part member.Top p q size s = hold node.Top s
lay_part member.Bot p q size s = hold node.Bot s
lay_part (member.Arrow a b) p q size s =
    let r = q + (a.here + a.under) in
    hold (node.Arrow (id (stand q s.recs a)) (id (stand r s.recs b))) (todo (At (Block r b) ∷ At (Block q a) ∷ []) s)
lay_part (member.Join a b) p q size s =
    let r = p + a.here in
    hold (node.Join (id (stand p s.recs a)) (id (stand r s.recs b)))
    (todo (At (Part r (q + a.under) b) ∷ At (Part p q a) ∷ []) s)
lay_part (member.Meet a b) p q size s =
    let r = p + a.here in
    hold (node.Meet (id (stand p s.recs a)) (id (stand r s.recs b)))
    (todo (At (Part r (q + a.under) b) ∷ At (Part p q a) ∷ []) s)
lay_part (member.Rec a) p q size s = enter (stand p s.recs size) (todo (At (Part p q a) ∷ Leave ∷ []) s)
lay_part member.Record p q size s = todo (At (Fields q) ∷ []) s
lay_part member.Last p q size s = s
lay_part (member.Field label a) p q size s = s

-- a piece of the record that is open
abbrev pub lay_field : Member → (q : ℕ) → State → State
lay_field (member.Field label a) q s =
    with_fields (s.fields ++ record { label = label; node = id (stand q s.recs a) } ∷ [])
    (todo (At (Fields (q + (a.here + a.under))) ∷ At (Block q a) ∷ []) s)
lay_field member.Last q s = hold (node.Rcd (in_order s.fields)) (with_fields [] s)
lay_field _ q s = s

abbrev pub lay : Member → LayoutPlace → State → State
lay member (Part p q size) s = lay_part member p q size s
lay member (Block p size) s = lay_part member p (p + size.here) size (todo (End (length s.held) ∷ []) s)
lay member (Fields q) s = lay_field member q s

-- the state at its next place
abbrev pub at_place : Option LayoutPlace → State → State
at_place None s = s
at_place (Some place) s = todo (At place ∷ []) s

-- one piece, at the next place
abbrev pub lay_at : Member → List LayoutTask → State → State
lay_at member (At place ∷ st) s =
    lay member place (record { tasks = st; recs = s.recs; held = s.held; fields = s.fields; nodes = s.nodes })
lay_at member _ s = s

abbrev pub lay_next : Member → State → State
lay_next member s = lay_at member s.tasks s

-- the nodes of pieces, from a state in which what is over is closed
unfoldable pub lay_all : State → List Member → List Node
lay_all s [] = s.nodes
lay_all s (member ∷ ms) = lay_all (closed (lay_next member s)) ms

-- these are the nodes of the book of the type of these pieces, from the last to the first
abbrev pub AreNodesOf : List Member → Size → List Node → Type 0
AreNodesOf ms size nodes = (a : Ty) → ms ≡ members a → size ≡ size_of a → nodes ≡ reverse (book_of a)
