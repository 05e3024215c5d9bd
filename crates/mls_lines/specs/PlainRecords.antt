-- What is written plainly for the parts of a record.
use Rattle.std.specs.Prelude.{◌≡◌, ℕ, List, [], ◌∷◌, map, Some}
use Rattle.mls_book.specs.declared.book.Field.{Field}
use Rattle.mls_book.specs.declared.book.NodeId.{NodeId}
use Rattle.mls_book.specs.Books.{field_at}
use Rattle.mls_term.specs.declared.term.Part.{Part}
use Rattle.mls_deriv.specs.declared.derivation.BinderNode.{BinderNode}
use Rattle.mls_deriv.specs.Sections.{steps_of}
use Rattle.mls_layout.specs.Plans.{PlannedLine}
use Rattle.mls_parts.specs.declared.pose.Posing.{Posing}
use Rattle.mls_lines.specs.declared.writer.Writer as state
use Rattle.mls_lines.specs.Conclusions.{Concluded, AreBrought, AreJoined}
use Rattle.mls_lines.specs.PlainLines.{AddsLines, AreConclusionsOf}
use Rattle.mls_lines.specs.Writer.{own_node, Offers}

-- the nodes of the fields with the labels of these parts
abbrev pub AreFieldsOf : List Field → List Part → List NodeId → Type 0
AreFieldsOf fields parts nodes =
    map (λ (part : Part). field_at part.label fields) parts ≡ map (λ (id : NodeId). Some id) nodes

-- what these parts are offered, each at the field of its label
abbrev pub OfferAll : state.Writer → Posing → List Field → List Part → List (List BinderNode) → Type 0
OfferAll w p fields [] [] = Unit {0}
OfferAll w p fields (part ∷ parts) (d ∷ rest) =
    ((field : NodeId) × (field_at part.label fields ≡ Some field) × Offers w p part.child field.0 d)
    × OfferAll w p fields parts rest
OfferAll w p fields _ _ = ⊥

-- What the parts of a record are offered, in one environment.
pub record JoinsParts (old new : state.Writer) (p : Posing) (fields : List Field) (parts : List Part) (d : List BinderNode) :
    Type 0 where
  pub offered : List (List BinderNode)
  pub offers : OfferAll old p fields parts offered
  pub joins : AreJoined (own_node old p) new.laid.book [] offered d

-- The lines that are added bring the parts of a record, one after the other, to this environment and to their fields.
pub record BringsParts (old new : state.Writer) (d : List BinderNode) (fields : List Field) (parts : List Part)
    (numbers : List ℕ) : Type 0 where
  pub plan : List PlannedLine
  pub brought : (of : ℕ → Concluded) → AreConclusionsOf old of
      → AreBrought of (steps_of old.steps.lines) d fields parts plan numbers
  pub adds : AddsLines old new plan
