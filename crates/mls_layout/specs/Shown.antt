-- Pairs of nodes that follow from claimed ones by the rules of the derivation check.
use Rattle.std.specs.Prelude.{◌≡◌, ℕ, Bool, true, false, List, Some, None}
use Rattle.mls_book.specs.declared.book.NodeId.{NodeId}
use Rattle.mls_book.specs.declared.book.Field.{Field}
use Rattle.mls_book.specs.declared.book.Node.{Node}
use Rattle.mls_book.specs.declared.book.Node.TheVariants as node
use Rattle.mls_book.specs.Books.{node_at, field_at}
use Rattle.mls_deriv.specs.declared.derivation.Mode.{Mode}
use Rattle.mls_deriv.specs.declared.derivation.Mode.TheVariants.{Pp}
use Rattle.mls_deriv.specs.Pairs.{left_put, right_put, exchanged, IsJustified}
use Rattle.mls_deriv.specs.declared.claim.Put.{Put}

-- The pair is claimed, or the rules lead in some steps from claimed pairs to it. Some claims are basic. Below
-- functions and records all claims may be used, and at the level `false` basic ones alone elsewhere, so that no claim
-- leads to itself without a rule.
pub data IsShown (book : List Node) (puts : List Put) (base claims : Mode → ℕ → ℕ → Type 0) : Bool → Mode → ℕ → ℕ
    → Type 0 where
  based : {level : Bool} {mode : Mode} {i j : ℕ} → base mode i j → IsShown book puts base claims level mode i j
  claimed : {level : Bool} {mode : Mode} {i j : ℕ} → level ≡ true → claims mode i j
      → IsShown book puts base claims level mode i j
  bot_left : {level : Bool} {mode : Mode} {i j : ℕ} → node_at book i ≡ node.Bot
      → IsShown book puts base claims level mode i j
  top_right : {level : Bool} {mode : Mode} {i j : ℕ} → node_at book j ≡ node.Top
      → IsShown book puts base claims level mode i j
  join_left : {level : Bool} {mode : Mode} {i j : ℕ} (l r : NodeId) → node_at book i ≡ node.Join l r
      → IsShown book puts base claims level mode l.0 j → IsShown book puts base claims level mode r.0 j
      → IsShown book puts base claims level mode i j
  meet_right : {level : Bool} {mode : Mode} {i j : ℕ} (l r : NodeId) → node_at book j ≡ node.Meet l r
      → IsShown book puts base claims level mode i l.0 → IsShown book puts base claims level mode i r.0
      → IsShown book puts base claims level mode i j
  meet_first : {level : Bool} {mode : Mode} {i j : ℕ} (l r : NodeId) → node_at book i ≡ node.Meet l r
      → IsShown book puts base claims level mode l.0 j → IsShown book puts base claims level mode i j
  meet_second : {level : Bool} {mode : Mode} {i j : ℕ} (l r : NodeId) → node_at book i ≡ node.Meet l r
      → IsShown book puts base claims level mode r.0 j → IsShown book puts base claims level mode i j
  join_first : {level : Bool} {mode : Mode} {i j : ℕ} (l r : NodeId) → node_at book j ≡ node.Join l r
      → IsShown book puts base claims level mode i l.0 → IsShown book puts base claims level mode i j
  join_second : {level : Bool} {mode : Mode} {i j : ℕ} (l r : NodeId) → node_at book j ≡ node.Join l r
      → IsShown book puts base claims level mode i r.0 → IsShown book puts base claims level mode i j
  both_bool : {level : Bool} {mode : Mode} {i j : ℕ} → node_at book i ≡ node.Bool → node_at book j ≡ node.Bool
      → IsShown book puts base claims level mode i j
  both_int : {level : Bool} {mode : Mode} {i j : ℕ} → node_at book i ≡ node.Int → node_at book j ≡ node.Int
      → IsShown book puts base claims level mode i j
  one_variable : {level : Bool} {mode : Mode} {i j : ℕ} (x : ℕ) → node_at book i ≡ node.Var x
      → node_at book j ≡ node.Var x → left_put mode puts x ≡ None → right_put mode puts x ≡ None
      → IsShown book puts base claims level mode i j
  arrows : {level : Bool} {mode : Mode} {i j : ℕ} (a b c d : NodeId) → node_at book i ≡ node.Arrow a b
      → node_at book j ≡ node.Arrow c d
      → IsShown book puts base claims true (exchanged mode) c.0 a.0 → IsShown book puts base claims true mode b.0 d.0
      → IsShown book puts base claims level mode i j
  rcds : {level : Bool} {mode : Mode} {i j : ℕ} (fields others : List Field) → node_at book i ≡ node.Rcd fields
      → node_at book j ≡ node.Rcd others
      → (partner : (label : List ℕ) (k : NodeId) → field_at label others ≡ Some k → NodeId)
      → ((label : List ℕ) (k : NodeId) (e : field_at label others ≡ Some k)
      → field_at label fields ≡ Some (partner label k e))
      → ((label : List ℕ) (k : NodeId) (e : field_at label others ≡ Some k)
      → IsShown book puts base claims true mode (partner label k e).0 k.0)
      → IsShown book puts base claims level mode i j
  put_left : {level : Bool} {mode : Mode} {i j : ℕ} (x n : ℕ) → node_at book i ≡ node.Var x
      → left_put mode puts x ≡ Some n → IsShown book puts base claims level Pp n j
      → IsShown book puts base claims level mode i j
  put_right : {level : Bool} {mode : Mode} {i j : ℕ} (x n : ℕ) → node_at book j ≡ node.Var x
      → right_put mode puts x ≡ Some n → IsShown book puts base claims level Pp i n
      → IsShown book puts base claims level mode i j
  same : {level : Bool} {mode : Mode} {i j : ℕ} → mode ≡ Pp → i ≡ j → IsShown book puts base claims level mode i j

-- Each basic claim is justified by what follows from the claims, and each claim follows from basic ones but for what
-- stands below functions and records.
pub record AreShown (book : List Node) (puts : List Put) (base claims : Mode → ℕ → ℕ → Type 0) : Type 0 where
  pub basic : (mode : Mode) (i j : ℕ) → base mode i j
      → IsJustified book puts (IsShown book puts base claims true) mode i j
  pub others : (mode : Mode) (i j : ℕ) → claims mode i j → IsShown book puts base claims false mode i j
