-- The nodes of a type whose states have one part of each kind, and a copy of the type, are those of a name.
--     name_layout
use Rattle.std.proofs.Common.{◌≡◌, ℕ, List, refl}
use Rattle.mls_book.specs.declared.book.Node.{Node}
use Rattle.mls_automaton.specs.declared.automaton.Polarity.TheVariants.{Positive, Negative}
use Rattle.mls_automaton.specs.Automata.{Automaton, polarity_at, head_at, HasFlow}
use Rattle.mls_automaton.specs.Heads.{parts_of}
use Rattle.mls_automaton.specs.Models.{IsClosed}
use Rattle.mls_flow.specs.Simulations.{IsHeadWithin}
use Rattle.mls_flow.proofs.HeadsWithin.{within-more}
use Rattle.mls_layout.specs.Layouts.{IsTypeLayout}
use Rattle.mls_layout.specs.Uses.{Shows, IsNameLayout}
use Rattle.mls_allowed.proofs.PartClaims.{signs_of}

-- Each state of the type has a copy in the constraint, with its polarity and its head; and where a negative and a positive state show one
-- variable, there is an edge between their copies.
pub record IsCopied (book : List Node) (b a : Automaton) (variables : ℕ → List ℕ) (copy : ℕ → ℕ) : Type 0 where
  pub polarity : (s : ℕ) → polarity_at a (copy s) ≡ polarity_at b s
  pub heads : (s : ℕ) → IsHeadWithin (λ x y. Unit {0} × (copy x ≡ y)) (polarity_at b s) (parts_of (head_at b s)) (parts_of (head_at a (copy s)))
  pub flows : (n p x : ℕ) → polarity_at b n ≡ Negative → polarity_at b p ≡ Positive → Shows book variables n x → Shows book variables p x → HasFlow a (copy n) (copy p)

-- All states are places.
unfoldable pub name_layout : (book : List Node) (b a : Automaton) → IsClosed b → (IsPlace : ℕ → Type 0) → ((s : ℕ) → IsPlace s)
    → (place copy : ℕ → ℕ) (type : IsTypeLayout book b place) → IsCopied book b a type.variables copy
    → IsNameLayout book a IsPlace (polarity_at b) place copy
name_layout book b a closed IsPlace all place copy type copied = record {
  parts = type.parts;
  variables = type.variables;
  own = λ s i. parts_of (head_at b s);
  polarity = λ s at_s. copied.polarity s;
  signs = λ s i at_s there. signs_of b closed s (polarity_at b s) refl;
  within =
      λ s i at_s there.
      within-more (λ x y. Unit {0} × (copy x ≡ y)) (λ x y. IsPlace x × (copy x ≡ y)) (λ x y it. (all x, it.1)) (polarity_at b s)
      (parts_of (head_at b s)) (parts_of (head_at a (copy s))) (copied.heads s);
  heads = λ s i at_s there. (type.heads s).all i there;
  are_variables = λ s i at_s there. type.are_variables s i there;
  tree = λ s at_s. type.tree s;
  flows = λ n p x at_n at_p is_n is_p shows shows'. copied.flows n p x is_n is_p shows shows';
}
