-- Many heads combined, two by two.
use Rattle.std.specs.Prelude.{ℕ, true, false, List, [], ◌∷◌, map, take, drop, Some, None}
use Rattle.mls_book.specs.declared.book.Field.{Field}
use Rattle.mls_book.specs.declared.book.Node.{Node}
use Rattle.mls_book.specs.declared.book.Node.TheVariants as node
use Rattle.mls_book.specs.Books.{node_at}
use Rattle.mls_automaton.specs.Automata.{empty_head}
use Rattle.mls_automaton.specs.declared.automaton.Polarity.{Polarity}
use Rattle.mls_automaton.specs.declared.automaton.FieldSet.{FieldSet}
use Rattle.mls_automaton.specs.declared.automaton.Head.{Head}
use Rattle.mls_automaton.specs.Heads.{combined, parts_of, IsSameParts}
use Rattle.mls_automaton.specs.Models.{HasRisingLabels}

-- the head is the combined one of this place and the next, if there is one
pub record HasOneHead (p : Polarity) (heads : List Head) (i : ℕ) (h : Head) : Type 0 where
  pub same : IsSameParts (parts_of h) (combined p (map parts_of (take 2 (drop i heads))))
  pub labels : HasRisingLabels h.fields

-- the field with the node alone
abbrev pub field_set_of : Field → FieldSet
field_set_of field = record { label = field.label; set = field.node.0 ∷ [] }

abbrev pub arrow_of : ℕ → ℕ → Head
arrow_of from to = record {
  boolean = false;
  integer = false;
  function = Some
      (record { domain = from ∷ []; codomain = to ∷ [] });
  fields = None;
}

abbrev pub record_of : List Field → Head
record_of fields = record { boolean = false; integer = false; function = None; fields = Some (map field_set_of fields) }

-- the head that an atom gives
abbrev pub atom_head_of : Node → Head
atom_head_of node.Bool = record { boolean = true; integer = false; function = None; fields = None }
atom_head_of node.Int = record { boolean = false; integer = true; function = None; fields = None }
atom_head_of (node.Arrow j k) = arrow_of j.0 k.0
atom_head_of (node.Rcd fields) = record_of fields
atom_head_of _ = empty_head

abbrev pub heads_of : List Node → List ℕ → List Head
heads_of nodes atoms = map (λ j. atom_head_of (node_at nodes j)) atoms
