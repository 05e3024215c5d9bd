-- A let whose known type has a copy in the constraint of a part: the nodes of the type, as they are laid, are those of a
-- copy.
--     copied                  the copy of the states of a type is one of their nodes
--     use_copy                the nodes of the type of a let's first part
use Rattle.std.proofs.Common.{◌≡◌, ℕ, ◌<◌, List, length, Some}
use Rattle.mls_book.specs.declared.book.Node.{Node}
use Rattle.mls_automaton.specs.declared.scheme.Scheme.{Scheme}
use Rattle.mls_automaton.specs.Automata.{Automaton, polarity_at, head_at}
use Rattle.mls_automaton.specs.Heads.{parts_of}
use Rattle.mls_automaton.specs.Schemes.{IsScheme}
use Rattle.mls_flow.proofs.HeadsWithin.{within-more}
use Rattle.mls_deriv.specs.declared.claim.Put.{Put}
use Rattle.mls_deriv.specs.Pairs.{put_at}
use Rattle.mls_layout.specs.Layouts.{IsTypeLayout}
use Rattle.mls_layout.specs.Uses.{ArePuts, HasEdgeVariables, IsCopyOf, IsNameLayout}
use Rattle.mls_parts.specs.MetCopies.{IsCopyMet}
use Rattle.mls_allowed.proofs.NameLayouts.{IsCopied, name_layout}

module _ (book : List Node) (a : Automaton) (binder : ℕ → ℕ) (known : Scheme) (copy : ℕ → ℕ) (met : IsCopyMet a binder known copy) where
  pub copied : (variables : ℕ → List ℕ) → HasEdgeVariables book known.automaton variables → IsCopied book known.automaton a variables copy
  copied variables edges = record {
    polarity = met.polarity;
    heads = λ s.
        within-more (λ x y. copy x ≡ y) (λ x y. Unit {0} × (copy x ≡ y)) (λ x y same. (tt, same)) (polarity_at known.automaton s) (parts_of (head_at known.automaton s))
        (parts_of (head_at a (copy s))) (met.heads s);
    flows = λ n p x negative positive one two. met.flows n p (edges n p x negative positive one two);
  }

  -- all states are places, and the root is the top; the variables have these nodes
  module _ (is : IsScheme known) (IsPlace : ℕ → Type 0) (all : (s : ℕ) → IsPlace s) (known_place place : ℕ → ℕ) (type : IsTypeLayout book known.automaton known_place) (edges : HasEdgeVariables book known.automaton type.variables) where
    abbrev pub layout : IsNameLayout book a IsPlace (polarity_at known.automaton) known_place copy
    layout = name_layout book known.automaton a is.automaton IsPlace all known_place copy type (copied type.variables edges)

    unfoldable pub use_copy : (puts : List Put) → ArePuts book IsPlace (polarity_at known.automaton) (name_layout book known.automaton a is.automaton IsPlace all known_place copy type (copied type.variables edges)).variables place copy puts
        → ((x n : ℕ) → put_at puts x ≡ Some n → n < length book) → IsCopyOf book a place IsPlace known.root.0
    use_copy puts are low = record {
      sign = polarity_at known.automaton;
      known_place = known_place;
      copy = copy;
      type = layout;
      puts = puts;
      are = are;
      low = low;
      at_top = all known.root.0;
      is_positive = is.root.polarity;
    }
