-- Schemes put behind others, and states added behind them.
use Rattle.std.specs.Prelude.{◌≡◌, ℕ, suc, ◌+◌, ◌<◌, List, [], ◌∷◌, ◌++◌, get_or, map, Option, Some, None}
use Rattle.std.specs.BTreeMap.{BTreeMap, get}
use Rattle.std.specs.Ordering.{nat_cmp}
use Rattle.std.specs.Cmp.Lexicographic.{slice_cmp}
use Rattle.mls_automaton.specs.declared.automaton.FieldSet.{FieldSet}
use Rattle.mls_automaton.specs.declared.state_set.StateId.{StateId}
use Rattle.mls_automaton.specs.declared.scheme.EnvEntry.{EnvEntry}
use Rattle.mls_automaton.specs.declared.scheme.Scheme.{Scheme}
use Rattle.mls_automaton.specs.Automata.{Automaton, empty_head, flow}
use Rattle.mls_automaton.specs.Embeddings.{appended}
use Rattle.mls_term.specs.declared.term.Part.{Part}
use Rattle.mls_infer.specs.Constraints.{Joined, grown, negative, positive, renamed_entry, size, up}

abbrev pub raised_entries : ℕ → List EnvEntry → List EnvEntry
raised_entries n env = map (renamed_entry (up n)) env

-- a scheme behind others
abbrev pub beside : Joined → Scheme → Joined
beside j s =
    let n = size j.automaton in
    record {
      automaton = appended j.automaton s.automaton;
      env = j.env ++ raised_entries n s.env;
      roots = j.roots ++ (n + s.root.0) ∷ [];
    }

-- a negative state and a positive one, and the edge from the first to the second
abbrev pub with_passage : Automaton → Automaton
with_passage a = grown a (negative empty_head ∷ positive empty_head ∷ []) (flow (size a) (suc (size a)) ∷ [])

abbrev pub field_of : List ℕ → ℕ → FieldSet
field_of label state = record { label = label; set = state ∷ [] }

abbrev pub listed : Option StateId → List ℕ
listed None = []
listed (Some s) = s.0 ∷ []

-- The map of the roots of a record's parts.
abbrev pub Rows : Type 0
Rows = BTreeMap (List ℕ) StateId

abbrev pub row_at : Rows → List ℕ → Option StateId
row_at = get (slice_cmp nat_cmp)

abbrev pub number_of : StateId → ℕ
number_of s = s.0

abbrev pub row_field : List ℕ × StateId → FieldSet
row_field row = field_of row.0 row.1.0

-- the labels of parts
abbrev pub part_labels : List Part → List (List ℕ)
part_labels parts = map (λ (part : Part). part.label) parts

-- the first n labels have these roots, and no other has one
pub record AreRows (n : ℕ) (labels : List (List ℕ)) (roots : List ℕ) (rows : Rows) : Type 0 where
  pub there : (k : ℕ) (d : List ℕ) (r : ℕ) → k < n
      → row_at rows (get_or labels k d) ≡ Some (record { 0 = get_or roots k r })
  pub back : (q : List ℕ) (s : StateId) → row_at rows q ≡ Some s
      → (k : ℕ) × (k < n) × ((d : List ℕ) → get_or labels k d ≡ q) × ((r : ℕ) → get_or roots k r ≡ s.0)
