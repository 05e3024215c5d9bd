-- Pairs of states whose heads clash.
use Rattle.std.specs.Prelude.{◌≡◌, ◌≢◌, ℕ, List, [], ◌∷◌, slice_get, IsTrue, Option, Some, None}
use Rattle.std.specs.Ordering.{nat_cmp, is_le}
use Rattle.std.specs.declared.cmp.Ordering.{Ordering}
use Rattle.std.specs.Cmp.Lexicographic.{slice_cmp}
use Rattle.mls_automaton.specs.declared.automaton.FieldSet.{FieldSet}
use Rattle.mls_automaton.specs.declared.automaton.Head.{Head}
use Rattle.mls_automaton.specs.Automata.{Automaton, head_at, has_kind}
use Rattle.mls_automaton.specs.Heads.{set_at}
use Rattle.mls_automaton.specs.declared.automaton.HeadKind.{HeadKind}
use Rattle.mls_automaton.specs.declared.automaton.HeadKind.TheVariants as kind
use Rattle.mls_solver.specs.declared.goal.Clash.{Clash}
use Rattle.mls_solver.specs.declared.goal.ClashKind.{ClashKind}
use Rattle.mls_solver.specs.declared.goal.ClashKind.TheVariants.{Unlike, Lacks}

-- both have a record, and the field of this number of the second is not in the first
abbrev pub LacksField : Option (List FieldSet) → Option (List FieldSet) → ℕ → Type 0
LacksField (Some fields) (Some others) i =
    (field : FieldSet) × (slice_get others i ≡ Some field) × (set_at fields field.label ≡ None)
LacksField _ _ i = ⊥

-- the heads of a positive and a negative state clash in this way
abbrev pub Clashes : Head → Head → ClashKind → Type 0
Clashes h k (Unlike first second) = IsTrue (has_kind first h) × IsTrue (has_kind second k) × (first ≢ second)
Clashes h k (Lacks i) = LacksField h.fields k.fields i

-- no related pair clashes
abbrev pub HasNoClash : Automaton → (ℕ → ℕ → Type 0) → Type 0
HasNoClash a IsRelated = (p n : ℕ) → IsRelated p n → (clash : ClashKind) → Clashes (head_at a p) (head_at a n) clash → ⊥

-- the pair of a clash is related and clashes so
abbrev pub IsClashOf : Automaton → (ℕ → ℕ → Type 0) → Clash → Type 0
IsClashOf a IsRelated c = IsRelated c.positive.0 c.negative.0
    × Clashes (head_at a c.positive.0) (head_at a c.negative.0) c.kind

-- the label of the field of this number
abbrev pub label_of : Option (List FieldSet) → ℕ → List ℕ
label_of None i = []
label_of (Some fields) i = elim (slice_get fields i) [ Some field ↦ field.label | None ↦ [] ]

abbrev pub rank : HeadKind → ℕ
rank kind.Bool = 0
rank kind.Int = 1
rank kind.Function = 2
rank kind.Rcd = 3

-- Unlike parts come before labels. Unlike parts are ordered by the positive one and then the negative one, and labels
-- by their bytes. The head is that of the negative state.
abbrev pub kind_key : Head → ClashKind → List ℕ
kind_key h (Unlike first second) = 0 ∷ rank first ∷ rank second ∷ []
kind_key h (Lacks i) = 1 ∷ label_of h.fields i

-- the first kind in which two heads clash, if they clash
abbrev pub IsFirstKind : Head → Head → Option ClashKind → Type 0
IsFirstKind h k None = (kind : ClashKind) → Clashes h k kind → ⊥
IsFirstKind h k (Some first) = Clashes h k first
    × ((kind : ClashKind) → Clashes h k kind → IsTrue (is_le (slice_cmp nat_cmp (kind_key k first) (kind_key k kind))))

-- clashes of one kind are ordered by the positive state and then the negative one
abbrev pub clash_key : Automaton → Clash → List (List ℕ)
clash_key a c = kind_key (head_at a c.negative.0) c.kind ∷ (c.positive.0 ∷ c.negative.0 ∷ []) ∷ []

-- Keys are compared from the front on, and in them the numbers.
abbrev pub key_cmp : List (List ℕ) → List (List ℕ) → Ordering
key_cmp = slice_cmp (slice_cmp nat_cmp)

-- the one clash comes first, or has the same key
abbrev pub IsAtMost : Automaton → Clash → Clash → Type 0
IsAtMost a c d = IsTrue (is_le (key_cmp (clash_key a c) (clash_key a d)))

-- the first of all clashes
pub record IsFirstClash (a : Automaton) (IsRelated : ℕ → ℕ → Type 0) (c : Clash) : Type 0 where
  pub clash : IsClashOf a IsRelated c
  pub first : (d : Clash) → IsClashOf a IsRelated d → IsAtMost a c d
