-- The heads that atoms give.
use Rattle.std.proofs.Common.{◌≡◌, ℕ, Bool, true, false, List, [], ◌∷◌, map, refl, sym, subst, ap, arith, length, get_or, All, Some, None, cond}
use Rattle.std.specs.Prelude.{bytes_eq, find, option_map}
use Rattle.std.specs.Ordering.{nat_cmp}
use Rattle.std.specs.declared.cmp.Ordering.TheVariants.{Less}
use Rattle.std.specs.Cmp.Lexicographic.{slice_cmp}
use Rattle.std.proofs.lemmas.List.Elements.{All-map}
use Rattle.mls_book.specs.declared.book.Field.{Field}
use Rattle.mls_book.specs.declared.book.NodeId.{NodeId}
use Rattle.mls_book.specs.declared.book.Node.{Node}
use Rattle.mls_book.specs.declared.book.Node.TheVariants as node
use Rattle.mls_book.specs.Books.{node_at, field_at, AreRising, IsBook, IsOrdered}
use Rattle.mls_automaton.specs.declared.automaton.Polarity.{Polarity}
use Rattle.mls_automaton.specs.declared.automaton.FieldSet.{FieldSet}
use Rattle.mls_automaton.specs.declared.automaton.Head.{Head}
use Rattle.mls_automaton.specs.Heads.{combined, combined_two, no_parts, parts_of, set_at, AreRising as AreRisingSets, IsSameParts}
use Rattle.mls_automaton.specs.Models.{HasRisingLabels}
use Rattle.mls_scheme.specs.ReadAutomata.{atom_parts}
use Rattle.mls_scheme.specs.steps.Heads.{atom_head_of, field_set_of, heads_of}
use Rattle.mls_scheme.proofs.CombinedAll.{all_parts, same-refl, HasLabels}
use Rattle.mls_scheme.proofs.MetStates.{combined-none}

set-of : (fields : List Field) (label : List ℕ) → set_at (map field_set_of fields) label ≡ option_map (λ (id : NodeId). id.0 ∷ []) (field_at label fields)
set-of [] label = refl
set-of (first ∷ rest) label = go (bytes_eq first.label label) (set-of rest label)
  where
    go : (b : Bool) → set_at (map field_set_of rest) label ≡ option_map (λ (id : NodeId). id.0 ∷ []) (field_at label rest) → option_map (λ (f : FieldSet). f.set) (cond b (Some (field_set_of first)) (find (λ (f : FieldSet). bytes_eq f.label label) (map field_set_of rest))) ≡ option_map (λ (id : NodeId). id.0 ∷ []) (option_map (λ (f : Field). f.node) (cond b (Some first) (find (λ (f : Field). bytes_eq f.label label) rest)))
    go true later = refl
    go false later = later

atom-is : (x : Node) → parts_of (atom_head_of x) ≡ atom_parts x
atom-is node.Bot = refl
atom-is node.Top = refl
atom-is (node.Var v) = refl
atom-is node.Bool = refl
atom-is node.Int = refl
atom-is (node.Arrow j k) = refl
atom-is (node.Rcd fields) = λ i. record { boolean = false; integer = false; function = None; fields = Some (λ label. set-of fields label i) }
atom-is (node.Join j k) = refl
atom-is (node.Meet j k) = refl

rising-sets : (fields : List Field) → AreRising fields → AreRisingSets (map field_set_of fields)
rising-sets [] rising = tt
rising-sets (first ∷ rest) rising = (
  All-map (λ (later : FieldSet). slice_cmp nat_cmp first.label later.label ≡ Less) field_set_of rest rising.0,
  rising-sets rest rising.1,
)

atom-labels : (i : ℕ) (x : Node) → IsOrdered i x → HasRisingLabels (atom_head_of x).fields
atom-labels i node.Bot ordered = tt
atom-labels i node.Top ordered = tt
atom-labels i (node.Var v) ordered = tt
atom-labels i node.Bool ordered = tt
atom-labels i node.Int ordered = tt
atom-labels i (node.Arrow j k) ordered = tt
atom-labels i (node.Rcd fields) ordered = rising-sets fields ordered
atom-labels i (node.Join j k) ordered = tt
atom-labels i (node.Meet j k) ordered = tt

pub heads-parts : (p : Polarity) (nodes : List Node) (atoms : List ℕ) → all_parts p (heads_of nodes atoms) ≡ combined p (map (λ j. atom_parts (node_at nodes j)) atoms)
heads-parts p nodes atoms = ap (combined p) (go atoms)
  where
    go : (atoms : List ℕ) → map parts_of (heads_of nodes atoms) ≡ map (λ j. atom_parts (node_at nodes j)) atoms
    go [] = refl
    go (j ∷ rest) = λ i. atom-is (node_at nodes j) i ∷ go rest i

pub heads-labels : (nodes : List Node) → IsBook nodes → (atoms : List ℕ) → All HasLabels (heads_of nodes atoms)
heads-labels nodes is atoms = All-map HasLabels (λ j. atom_head_of (node_at nodes j)) atoms (λ k d low. atom-labels (get_or atoms k d) (node_at nodes (get_or atoms k d)) (is (get_or atoms k d)))

-- the head of a list of one atom
pub one-atom : (p : Polarity) (nodes : List Node) (atoms : List ℕ) (d : ℕ) (head : Head) → IsBook nodes → length atoms ≡ 1
    → head ≡ atom_head_of (node_at nodes (get_or atoms 0 d))
    → HasRisingLabels head.fields × IsSameParts (parts_of head) (combined p (map (λ j. atom_parts (node_at nodes j)) atoms))
one-atom p nodes [] d head is one at = absurd (omega arith)
one-atom p nodes (j ∷ []) d head is one at = (
  subst (λ (h : Head). HasRisingLabels h.fields) (sym at) (atom-labels j (node_at nodes j) (is j)),
  subst (λ (h : Head). IsSameParts (parts_of h) (combined_two p (atom_parts (node_at nodes j)) no_parts)) (sym at)
      (subst (IsSameParts (parts_of (atom_head_of (node_at nodes j)))) (sym (combined-none p (atom_parts (node_at nodes j))))
      (subst (IsSameParts (parts_of (atom_head_of (node_at nodes j)))) (atom-is (node_at nodes j)) (same-refl (parts_of (atom_head_of (node_at nodes j)))))),
)
one-atom p nodes (j ∷ k ∷ rest) d head is one at = absurd (omega arith)
