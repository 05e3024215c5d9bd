-- A use of a name: the nodes of its type, and a copy of it in the constraint of the part.
use Rattle.std.specs.Prelude.{◌≡◌, ◌⊎◌, ℕ, ◌<◌, List, length, All, Contains, Some, None}
use Rattle.mls_book.specs.declared.book.Field.{Field}
use Rattle.mls_book.specs.declared.book.Node.{Node}
use Rattle.mls_book.specs.declared.book.Node.TheVariants as node
use Rattle.mls_book.specs.Books.{node_at}
use Rattle.mls_automaton.specs.declared.automaton.Polarity.{Polarity}
use Rattle.mls_automaton.specs.declared.automaton.Polarity.TheVariants.{Positive, Negative}
use Rattle.mls_automaton.specs.Automata.{Automaton, polarity_at, head_at, HasFlow}
use Rattle.mls_automaton.specs.declared.automaton.HeadKind.{HeadKind}
use Rattle.mls_automaton.specs.Heads.{Parts, parts_of}
use Rattle.mls_flow.specs.Simulations.{IsHeadWithin}
use Rattle.mls_deriv.specs.declared.derivation.Mode.{Mode}
use Rattle.mls_deriv.specs.declared.derivation.Mode.TheVariants.{Lr, Rl}
use Rattle.mls_deriv.specs.Pairs.{put_at}
use Rattle.mls_deriv.specs.declared.claim.Put.{Put}
use Rattle.mls_layout.specs.Trees.{IsTree}
use Rattle.mls_layout.specs.Heads.{IsKindAt, HasSigns}

-- a place of a type shows the variable
abbrev pub Shows : List Node → (ℕ → List ℕ) → ℕ → ℕ → Type 0
Shows book variables s x = (i : ℕ) × Contains (variables s) i × (node_at book i ≡ node.Var x)

-- where a negative and a positive state of a type show one variable, there is an edge between them
abbrev pub HasEdgeVariables : List Node → Automaton → (ℕ → List ℕ) → Type 0
HasEdgeVariables book b variables = (n p x : ℕ) → polarity_at b n ≡ Negative → polarity_at b p ≡ Positive
    → Shows book variables n x → Shows book variables p x → HasFlow b n p

-- The nodes of the type of a name, and the states of its copy in the constraint. Each place of the type, with its
-- sign, is the tree of its variables and of parts, each with a head of its own that lies within the head of the copy.
-- A declared type may have several functions or records in one place. Where a negative and a positive place show one
-- variable, there is an edge between their copies.
pub record IsNameLayout (book : List Node) (a : Automaton) (IsPlace : ℕ → Type 0) (sign : ℕ → Polarity) (place copy : ℕ
    → ℕ) : Type 0 where
  pub parts : ℕ → List ℕ
  pub variables : ℕ → List ℕ
  pub own : ℕ → ℕ → Parts
  pub polarity : (s : ℕ) → IsPlace s → polarity_at a (copy s) ≡ sign s
  pub signs : (s i : ℕ) → IsPlace s → Contains (parts s) i → HasSigns sign (sign s) (own s i)
  pub within : (s i : ℕ) → IsPlace s → Contains (parts s) i
      → IsHeadWithin (λ x y. IsPlace x × (copy x ≡ y)) (sign s) (own s i) (parts_of (head_at a (copy s)))
  pub heads : (s i : ℕ) → IsPlace s → Contains (parts s) i → (kind : HeadKind)
      × IsKindAt book place (sign s) (own s i) kind i
  pub are_variables : (s i : ℕ) → IsPlace s → Contains (variables s) i → (x : ℕ) × (node_at book i ≡ node.Var x)
  pub tree : (s : ℕ) → IsPlace s → IsTree book (sign s) (λ i. Contains (parts s) i ⊎ Contains (variables s) i) (place s)
  pub flows : (n p x : ℕ) → IsPlace n → IsPlace p → sign n ≡ Negative → sign p ≡ Positive → Shows book variables n x
      → Shows book variables p x → HasFlow a (copy n) (copy p)

-- Each variable of the type stands for the join of the copies of the negative places that show it.
pub record ArePuts (book : List Node) (IsPlace : ℕ → Type 0) (sign : ℕ → Polarity) (variables : ℕ → List ℕ)
    (place copy : ℕ → ℕ) (puts : List Put) : Type 0 where
  pub joined : ℕ → ℕ
  pub put : (s x : ℕ) → IsPlace s → Shows book variables s x → put_at puts x ≡ Some (joined x)
  pub tree : (s x : ℕ) → IsPlace s → Shows book variables s x
      → IsTree book Positive (λ i. (n : ℕ) × IsPlace n × (sign n ≡ Negative) × Shows book variables n x
      × (place (copy n) ≡ i)) (joined x)

-- What is known of a name: the nodes of its type, of which one place is the top, a copy of the type in the constraint,
-- and the nodes of its variables.
pub record IsCopyOf (book : List Node) (a : Automaton) (place : ℕ → ℕ) (IsPlace : ℕ → Type 0) (top : ℕ) : Type 0 where
  pub sign : ℕ → Polarity
  pub known_place : ℕ → ℕ
  pub copy : ℕ → ℕ
  pub type : IsNameLayout book a IsPlace sign known_place copy
  pub puts : List Put
  pub are : ArePuts book IsPlace sign type.variables place copy puts
  pub low : (x n : ℕ) → put_at puts x ≡ Some n → n < length book
  pub at_top : IsPlace top
  pub is_positive : sign top ≡ Positive

-- each node that the node names is of this kind
abbrev pub NamesOnly : (ℕ → Type 0) → Node → Type 0
NamesOnly IsOne (node.Arrow j k) = IsOne j.0 × IsOne k.0
NamesOnly IsOne (node.Rcd fields) = All (λ (field : Field). IsOne field.node.0) fields
NamesOnly IsOne (node.Join j k) = IsOne j.0 × IsOne k.0
NamesOnly IsOne (node.Meet j k) = IsOne j.0 × IsOne k.0
NamesOnly IsOne _ = Unit {0}

-- nodes from which no variable is reached that stands for another node
pub record AreFree (book : List Node) (puts : List Put) (Free : ℕ → Type 0) : Type 0 where
  pub children : (i : ℕ) → Free i → NamesOnly Free (node_at book i)
  pub variables : (i x : ℕ) → Free i → node_at book i ≡ node.Var x → put_at puts x ≡ None

-- a positive place of the type is below its copy, where its variables stand for their nodes, and a negative place is
-- above its copy
pub data IsUseClaim (IsPlace : ℕ → Type 0) (sign : ℕ → Polarity) (place type_place copy : ℕ → ℕ) (mode : Mode)
    (i j : ℕ) : Type 0 where
  below_copy : (s : ℕ) → IsPlace s → sign s ≡ Positive → mode ≡ Lr → type_place s ≡ i → place (copy s) ≡ j
      → IsUseClaim IsPlace sign place type_place copy mode i j
  above_copy : (s : ℕ) → IsPlace s → sign s ≡ Negative → mode ≡ Rl → place (copy s) ≡ i → type_place s ≡ j
      → IsUseClaim IsPlace sign place type_place copy mode i j

-- no claim is basic
abbrev pub NoClaim : Mode → ℕ → ℕ → Type 0
NoClaim mode i j = ⊥
