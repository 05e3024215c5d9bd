-- Pieces of worked layouts: trees of one member, and the nodes of small heads.
--     single_tree, empty_tree, set_tree
--     empty_parts, function_parts, integer_parts
use Rattle.std.proofs.Common.{◌≡◌, inl, inr, ℕ, ◌<◌, true, false, List, [], ◌∷◌, Contains, refl, sym, subst, arith, Some, None}
use Rattle.mls_book.specs.declared.book.NodeId.{NodeId}
use Rattle.mls_book.specs.declared.book.Node.{Node}
use Rattle.mls_book.specs.declared.book.Node.TheVariants as node
use Rattle.mls_book.specs.Books.{node_at}
use Rattle.mls_automaton.specs.declared.automaton.Head.{Head}
use Rattle.mls_automaton.specs.declared.automaton.HeadKind.{HeadKind}
use Rattle.mls_automaton.specs.declared.automaton.HeadKind.TheVariants as kind
use Rattle.mls_automaton.specs.declared.automaton.Polarity.{Polarity}
use Rattle.mls_automaton.specs.Automata.{empty_head, opposite}
use Rattle.mls_automaton.specs.Heads.{parts_of}
use Rattle.mls_automaton.proofs.Lists.{Contains-here, Contains-cases}
use Rattle.mls_layout.specs.Trees.{none_node, member, none, here, IsTree, IsPlaceIn}
use Rattle.mls_layout.specs.Heads.{IsKindAt, HasKind, AreParts}

pub nothing : {X : Type 0} (x : X) → Contains [] x → ⊥
nothing x there = let low : there.0 < 0 = there.1 in absurd (omega arith)

pub contains_one : {X : Type 0} (x y : X) → Contains (x ∷ []) y → x ≡ y
contains_one x y there = elim (Contains-cases x [] y there) [ inl same ↦ same | inr later ↦ absurd (nothing y later) ]

abbrev pub function_head : List ℕ → List ℕ → Head
function_head domain codomain = record { boolean = false; integer = false; function = Some (record { domain = domain; codomain = codomain }); fields = None }

abbrev pub integer_head : Head
integer_head = record { boolean = false; integer = true; function = None; fields = None }

module _ (book : List Node) (p : Polarity) where
  pub single_tree : (Member : ℕ → Type 0) (i : ℕ) → Member i → ((j : ℕ) → Member j → j ≡ i) → IsTree book p Member i
  single_tree Member i it one = record { only = member it; each = λ j there. here (sym (one j there)) }

  pub empty_tree : (Member : ℕ → Type 0) (i : ℕ) → node_at book i ≡ none_node p → ((j : ℕ) → Member j → ⊥) → IsTree book p Member i
  empty_tree Member i is free = record { only = none is; each = λ j there. absurd (free j there) }

  -- the set of one state
  pub set_tree : (place : ℕ → ℕ) (s : ℕ) → IsTree book p (IsPlaceIn place (s ∷ [])) (place s)
  set_tree place s =
      single_tree (IsPlaceIn place (s ∷ [])) (place s) (s, Contains-here s [], refl)
      (λ j it. subst (λ z. j ≡ place z) (sym (contains_one s it.0 it.1)) (sym it.2))

  module _ (place : ℕ → ℕ) where
    pub empty_parts : AreParts book place p (parts_of empty_head) []
    empty_parts = record { all = λ i there. absurd (nothing i there); each = λ k has. absurd (no k has) }
      where
        no : (k : HeadKind) → HasKind (parts_of empty_head) k → ⊥
        no kind.Bool e = cc
        no kind.Int e = cc
        no kind.Function it = let e = it.1 in cc
        no kind.Rcd it = let e = it.1 in cc

    pub integer_parts : (i : ℕ) → node_at book i ≡ node.Int → AreParts book place p (parts_of integer_head) (i ∷ [])
    integer_parts i is = record {
      all = λ j there. (kind.Int, (refl, subst (λ z. node_at book z ≡ node.Int) (contains_one i j there) is));
      each = λ k has. (i, Contains-here i [], only k has);
    }
      where
        only : (k : HeadKind) → HasKind (parts_of integer_head) k → IsKindAt book place p (parts_of integer_head) k i
        only kind.Bool e = absurd (cc)
        only kind.Int e = (refl, is)
        only kind.Function it = let e = it.1 in absurd (cc)
        only kind.Rcd it = let e = it.1 in absurd (cc)

    pub function_parts : (domain codomain : List ℕ) (i : ℕ) (from to : NodeId) → node_at book i ≡ node.Arrow from to
        → IsTree book (opposite p) (IsPlaceIn place domain) from.0 → IsTree book p (IsPlaceIn place codomain) to.0
        → AreParts book place p (parts_of (function_head domain codomain)) (i ∷ [])
    function_parts domain codomain i from to is d c = record {
      all = λ j there. (kind.Function, subst (λ z. IsKindAt book place p (parts_of (function_head domain codomain)) kind.Function z) (contains_one i j there) it);
      each = λ k has. (i, Contains-here i [], only k has);
    }
      where
        it : IsKindAt book place p (parts_of (function_head domain codomain)) kind.Function i
        it = record { arms = record { domain = domain; codomain = codomain }; has = refl; from = from; to = to; node = is; domain = d; codomain = c }

        only : (k : HeadKind) → HasKind (parts_of (function_head domain codomain)) k → IsKindAt book place p (parts_of (function_head domain codomain)) k i
        only kind.Bool e = absurd (cc)
        only kind.Int e = absurd (cc)
        only kind.Function has = it
        only kind.Rcd has = let e = has.1 in absurd (cc)
