-- What is laid out of leaves and heads, alike for a type and for a part.
--     past_state                              past the end there is no head, and the polarity is positive
--     past_place                              the place there
--     boolean_at, integer_at, nothing_at      the leaves stand in a longer book
--     heads_made                              the nodes of the parts of all heads
use Rattle.std.proofs.Common.{◌≡◌, ◌⊎◌, inl, inr, ℕ, ◌+◌, ◌<◌, ◌≤◌, List, [], ◌∷◌, ◌++◌, length, refl, sym, ap, ◌∙◌, subst, arith}
use Rattle.std.specs.Prelude.{get_or}
use Rattle.std.proofs.lemmas.List.{get_or_past, get_or-append-add}
use Rattle.mls_book.specs.declared.book.NodeId.{NodeId}
use Rattle.mls_book.specs.declared.book.Node.{Node}
use Rattle.mls_book.specs.declared.book.Node.TheVariants as node
use Rattle.mls_book.specs.Books.{node_at, IsBook}
use Rattle.mls_book.proofs.LongerBooks.{below_or_more}
use Rattle.mls_automaton.specs.declared.automaton.Head.{Head}
use Rattle.mls_automaton.specs.declared.automaton.Polarity.TheVariants.{Positive}
use Rattle.mls_automaton.specs.declared.automaton.State.{State}
use Rattle.mls_automaton.specs.Automata.{Automaton, empty_head, head_at, polarity_at, state_at}
use Rattle.mls_automaton.specs.Heads.{parts_of}
use Rattle.mls_layout.specs.declared.layout.Places.{Places}
use Rattle.mls_layout.specs.declared.layout.leaves.Leaves.{Leaves}
use Rattle.mls_layout.specs.Heads.{AreParts}
use Rattle.mls_layout.specs.LaidOut.{place_of}
use Rattle.mls_layout.specs.steps.Owned.{AddsStates, HasOwn}
use Rattle.mls_layout.specs.steps.Planned.{Planned, AddsPlanned}
use Rattle.mls_layout.specs.steps.Sources.{AddsLeaves, AreParted, own_before}
use Rattle.mls_layout.proofs.HeadParts.{numbers, head_parts_are}
use Rattle.mls_layout.proofs.OwnNodes.{own_more}
use Rattle.mls_layout.proofs.PlannedTrees.{extends_none, planned_is}
use Rattle.mls_layout.proofs.WorkedParts.{empty_parts}

pub past_state : (a : Automaton) (s : ℕ) → length a.states ≤ s → state_at a s ≡ record { polarity = Positive; head = empty_head }
past_state a s past = get_or_past a.states s (record { polarity = Positive; head = empty_head }) past

pub past_place : (places : Places) (n : ℕ) (id : NodeId) → length places.nodes ≡ n → places.past ≡ id → (s : ℕ) → n ≤ s → place_of places s ≡ id.0
past_place places n id size past s le = ap (λ (at : NodeId). at.0) (get_or_past places.nodes s places.past (omega (arith, size, le)) ∙ past)

-- the leaves stand in the book that has more nodes behind them
module _ (old one new rest : List Node) (leaves : Leaves) (leaved : AddsLeaves old one leaves) (longer : new ≡ old ++ node.Bool ∷ node.Int ∷ node.Bot ∷ rest) where
  leaf : (k : ℕ) (n : Node) → get_or (node.Bool ∷ node.Int ∷ node.Bot ∷ rest) k node.Bot ≡ n → node_at new (length old + k) ≡ n
  leaf k n e = ap (λ (b : List Node). node_at b (length old + k)) longer ∙ (get_or-append-add old (node.Bool ∷ node.Int ∷ node.Bot ∷ rest) k node.Bot ∙ e)

  pub boolean_at : node_at new leaves.boolean.0 ≡ node.Bool
  boolean_at = let e : length old + 0 ≡ leaves.boolean.0 = let is : leaves.boolean.0 ≡ length old = leaved.boolean in omega (arith, is) in subst (λ k. node_at new k ≡ node.Bool) e (leaf 0 node.Bool refl)

  pub integer_at : node_at new leaves.integer.0 ≡ node.Int
  integer_at = subst (λ k. node_at new k ≡ node.Int) (sym leaved.integer) (leaf 1 node.Int refl)

  pub nothing_at : node_at new leaves.nothing.0 ≡ node.Bot
  nothing_at = subst (λ k. node_at new k ≡ node.Bot) (sym leaved.nothing) (leaf 2 node.Bot refl)

-- functions and records behind the first book, and trees behind these
module _ (a : Automaton) (leaves : Leaves) (one two new : List Node) (end : ℕ) (parts : List (List NodeId)) (place : ℕ → ℕ) (plan : Planned) (book_two : IsBook two)
    (parted : AreParted a leaves (length one) (length a.states) end parts) (owned : AddsStates plan place a (length a.states) one two) (planned : AddsPlanned plan two new)
    (is_boolean : node_at new leaves.boolean.0 ≡ node.Bool) (is_integer : node_at new leaves.integer.0 ≡ node.Int) where
  pub heads_made : (s : ℕ) → AreParts new place (polarity_at a s) (parts_of (head_at a s)) (numbers (get_or parts s []))
  heads_made s = go (below_or_more s (length a.states))
    where
      own : s < length a.states → HasOwn plan place (polarity_at a s) (head_at a s) new (length one + own_before a s)
      own low =
          subst (λ (b : List Node). HasOwn plan place (polarity_at a s) (head_at a s) b (length one + own_before a s)) (sym planned.longer)
          (own_more place (polarity_at a s) plan plan (extends_none plan) (head_at a s) two planned.more (length one + own_before a s) (owned.own s low))

      go : (s < length a.states) ⊎ ((j : ℕ) × (s ≡ length a.states + j)) → AreParts new place (polarity_at a s) (parts_of (head_at a s)) (numbers (get_or parts s []))
      go (inl low) =
          subst (λ (ids : List NodeId). AreParts new place (polarity_at a s) (parts_of (head_at a s)) (numbers ids)) (sym (parted.are s low))
          (head_parts_are plan new place (λ p M i it. (planned_is plan two new book_two planned p M i it).1) (polarity_at a s) leaves is_boolean is_integer (length one + own_before a s) (head_at a s) (own low))
      go (inr (j, e)) =
          let all : length parts ≡ length a.states = parted.size in
          let none : get_or parts s [] ≡ [] = get_or_past parts s [] (omega (arith, all, e)) in
          subst (λ (h : Head). AreParts new place (polarity_at a s) (parts_of h) (numbers (get_or parts s []))) (sym (ap (λ (t : State). t.head) (past_state a s (omega (arith, e)))))
          (subst (λ (ids : List NodeId). AreParts new place (polarity_at a s) (parts_of empty_head) (numbers ids)) (sym none) (empty_parts new (polarity_at a s) place))
