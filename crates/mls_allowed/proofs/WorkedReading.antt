-- The type `a -> a`, read: its book, the automaton that is read from it, and its layout, with `Bot` and `Top` behind the book.
use Rattle.std.proofs.Common.{◌≡◌, ℕ, zero, suc, ◌<◌, Bool, true, false, List, [], ◌∷◌, ◌++◌, map, length, get_or, Contains, refl, sym, ap, ◌∙◌, subst, arith}
use Rattle.std.specs.Prelude.{IsTrue}
use Rattle.mls_book.specs.declared.book.Node.{Node}
use Rattle.mls_book.specs.declared.book.Node.TheVariants as node
use Rattle.mls_book.specs.Books.{node_at, IsClosedBook}
use Rattle.mls_typetext.specs.Books.{Ty, var, arrow, id, book_of, root_of, layer, below, stands, here, under}
use Rattle.mls_typetext.proofs.FitBooks.{book_of-closed}
use Rattle.mls_automaton.specs.declared.automaton.Polarity.{Polarity}
use Rattle.mls_automaton.specs.declared.automaton.Polarity.TheVariants.{Positive, Negative}
use Rattle.mls_automaton.specs.Automata.{Automaton, empty_head, flow, head_at, polarity_at, HasFlow}
use Rattle.mls_automaton.specs.Heads.{parts_of, combined, IsSameParts}
use Rattle.mls_automaton.specs.Models.{HasRisingLabels, IsDeterministic}
use Rattle.mls_automaton.proofs.Lists.{Contains-here}
use Rattle.mls_scheme.specs.ReadAutomata.{IsPolarised, atoms, atom_parts, HasVariable, AreChildren, AreTops, IsReadAutomaton, IsReadFrom}
use Rattle.mls_layout.specs.Layouts.{IsTypeLayout}
use Rattle.mls_typenodes.specs.OneEach.{HaveOneEach, HasRisingSets, AreNoneNodes, read_place}
use Rattle.mls_typenodes.proofs.CombinedParts.{same_set_self}
use Rattle.mls_typenodes.proofs.PrintedLayouts.{read_is_laid_out, read_is_deterministic}
use Rattle.mls_typenodes.proofs.TypeLayers.{HasOneLayers, plain, book_has_one}
use Rattle.mls_typenodes.proofs.TypeLayouts.{at_front}
use Rattle.mls_layout.proofs.WorkedParts.{contains_one, function_head}

abbrev type : Ty
type = arrow (var 0) (var 0)

-- its nodes: the function, its domain and its codomain
abbrev nodes : List Node
nodes = node.Arrow (id 1) (id 2) ∷ node.Var 0 ∷ node.Var 0 ∷ []

book_is : book_of type ≡ nodes
unfolding book_of layer below stands here under
book_is = refl

root_is : root_of type ≡ 0
unfolding root_of stands
root_is = refl

abbrev sign : ℕ → Polarity
sign zero = Positive
sign (suc zero) = Negative
sign (suc (suc i)) = Positive

abbrev is_top : ℕ → Bool
is_top zero = true
is_top (suc zero) = true
is_top (suc (suc zero)) = true
is_top (suc (suc (suc i))) = false

abbrev b : Automaton
b = record {
  states =
      record { polarity = Positive; head = function_head (1 ∷ []) (2 ∷ []) }
      ∷ record { polarity = Negative; head = empty_head }
      ∷ record { polarity = Positive; head = empty_head } ∷ [];
  flows = flow 1 2 ∷ [];
}

closed : IsClosedBook nodes
closed = subst IsClosedBook book_is (book_of-closed 1 type (omega arith, omega arith))

one_layers : HasOneLayers type
one_layers = (plain tt (omega arith) (omega arith), ((plain tt (omega arith) (omega arith), tt), (plain tt (omega arith) (omega arith), tt)))

one_each : HaveOneEach nodes is_top
one_each i top = subst (λ xs. HaveOneEach xs is_top) book_is (λ i top. book_has_one type one_layers i (low i top)) i top
  where
    low : (i : ℕ) → IsTrue (is_top i) → i < length (book_of type)
    low i top = subst (λ xs. i < length xs) (sym book_is) (go i top)
      where
        go : (i : ℕ) → IsTrue (is_top i) → i < 3
        go zero top = omega arith
        go (suc zero) top = omega arith
        go (suc (suc zero)) top = omega arith
        go (suc (suc (suc i))) top = absurd (cc)

polarised : IsPolarised sign nodes
polarised zero low = (refl, refl)
polarised (suc zero) low = tt
polarised (suc (suc zero)) low = tt
polarised (suc (suc (suc i))) low = absurd (omega arith)

-- the one atom of a node is the node itself
children : (i : ℕ) → IsTrue (is_top i) → AreChildren (λ k. IsTrue (is_top k)) (node_at nodes i)
children zero top = (refl, refl)
children (suc zero) top = tt
children (suc (suc zero)) top = tt
children (suc (suc (suc i))) top = tt

atom_is : (i j : ℕ) → IsTrue (is_top i) → Contains (atoms nodes i) j → i ≡ j
atom_is zero j top there = contains_one 0 j there
atom_is (suc zero) j top there = contains_one 1 j there
atom_is (suc (suc zero)) j top there = contains_one 2 j there
atom_is (suc (suc (suc i))) j top there = absurd (cc)

tops : AreTops nodes 0 is_top
tops = record {
  has_root = refl;
  low = low;
  next = λ i j top there. subst (λ k. AreChildren (λ k. IsTrue (is_top k)) (node_at nodes k)) (atom_is i j top there) (children i top);
}
  where
    low : (i : ℕ) → IsTrue (is_top i) → i < 3
    low zero top = omega arith
    low (suc zero) top = omega arith
    low (suc (suc zero)) top = omega arith
    low (suc (suc (suc i))) top = absurd (cc)

read : IsReadAutomaton sign is_top nodes b
read = record {
  same_length = refl;
  polarity = polarity;
  heads = heads;
  others = others;
  flows = flows;
  all_flows = all_flows;
}
  where
    polarity : (i : ℕ) → IsTrue (is_top i) → polarity_at b i ≡ sign i
    polarity zero top = refl
    polarity (suc zero) top = refl
    polarity (suc (suc zero)) top = refl
    polarity (suc (suc (suc i))) top = absurd (cc)

    heads : (i : ℕ) → IsTrue (is_top i) → IsSameParts (parts_of (head_at b i)) (combined (sign i) (map (λ j. atom_parts (node_at nodes j)) (atoms nodes i)))
    heads zero top = record { boolean = refl; integer = refl; function = (same_set_self (1 ∷ []), same_set_self (2 ∷ [])); fields = tt }
    heads (suc zero) top = record { boolean = refl; integer = refl; function = tt; fields = tt }
    heads (suc (suc zero)) top = record { boolean = refl; integer = refl; function = tt; fields = tt }
    heads (suc (suc (suc i))) top = absurd (cc)

    others : (i : ℕ) → is_top i ≡ false → head_at b i ≡ empty_head
    others zero top = absurd (cc)
    others (suc zero) top = absurd (cc)
    others (suc (suc zero)) top = absurd (cc)
    others (suc (suc (suc i))) top = refl

    ends : (n p : ℕ) → HasFlow b n p → (n ≡ 1) × (p ≡ 2)
    ends n p edge =
        let same : flow 1 2 ≡ flow n p = contains_one (flow 1 2) (flow n p) edge in
        (sym (ap (λ f. f.negative.0) same), sym (ap (λ f. f.positive.0) same))

    shared : (x : ℕ) × HasVariable nodes 1 x × HasVariable nodes 2 x
    shared = (0, (1, Contains-here 1 [], refl), (2, Contains-here 2 [], refl))

    flows : (n p : ℕ) → HasFlow b n p → IsTrue (is_top n) × IsTrue (is_top p) × ((x : ℕ) × HasVariable nodes n x × HasVariable nodes p x)
    flows n p edge =
        let it = ends n p edge in
        subst (λ n. IsTrue (is_top n) × IsTrue (is_top p) × ((x : ℕ) × HasVariable nodes n x × HasVariable nodes p x)) (sym it.0)
        (subst (λ p. IsTrue true × IsTrue (is_top p) × ((x : ℕ) × HasVariable nodes 1 x × HasVariable nodes p x)) (sym it.1) (refl, refl, shared))

    -- the function has no variable of its own
    no_variable : (x : ℕ) → HasVariable nodes 0 x → ⊥
    no_variable x (j, there, is) = let same : 0 ≡ j = contains_one 0 j there in let at : node_at nodes 0 ≡ node.Var x = ap (node_at nodes) same ∙ is in cc

    all_flows : (n p x : ℕ) → IsTrue (is_top n) → IsTrue (is_top p) → sign n ≡ Negative → sign p ≡ Positive → HasVariable nodes n x → HasVariable nodes p x → HasFlow b n p
    all_flows zero p x top_n top_p negative positive first second = absurd (cc)
    all_flows (suc (suc n)) p x top_n top_p negative positive first second = absurd (cc)
    all_flows (suc zero) zero x top_n top_p negative positive first second = absurd (no_variable x second)
    all_flows (suc zero) (suc zero) x top_n top_p negative positive first second = absurd (cc)
    all_flows (suc zero) (suc (suc zero)) x top_n top_p negative positive first second = Contains-here (flow 1 2) []
    all_flows (suc zero) (suc (suc (suc p))) x top_n top_p negative positive first second = absurd (cc)

abbrev read_from : IsReadFrom nodes 0 b
read_from = record {
  sign = sign;
  is_top = is_top;
  closed = closed;
  polarised = polarised;
  is_positive = refl;
  tops = tops;
  automaton = read;
}

abbrev more : List Node
more = node.Bot ∷ node.Top ∷ []

abbrev none : Polarity → ℕ
none Positive = 3
none Negative = 4

are_none : AreNoneNodes (nodes ++ more) none
are_none Positive = (omega arith, refl)
are_none Negative = (omega arith, refl)

-- all states stand at nodes of the book: 0, 1 and 2 at their own
pub laid_out : IsTypeLayout (nodes ++ more) b (read_place 0 is_top none b) × ((s : ℕ) → read_place 0 is_top none b s < 5)
laid_out = read_is_laid_out nodes 0 b read_from one_each (nodes ++ more) 0 (at_front nodes more) none are_none

pub is_deterministic : IsDeterministic b
is_deterministic = read_is_deterministic nodes 0 b read_from one_each labels sets
  where
    labels : (s : ℕ) → HasRisingLabels (head_at b s).fields
    labels zero = tt
    labels (suc zero) = tt
    labels (suc (suc zero)) = tt
    labels (suc (suc (suc s))) = tt

    single : (k i j : ℕ) → i < j → j < 1 → get_or (k ∷ []) i 0 < get_or (k ∷ []) j 0
    single k i j less low = absurd (omega arith)

    sets : (s : ℕ) → HasRisingSets (head_at b s)
    sets zero = record { function = (single 1, single 2); fields = tt }
    sets (suc zero) = record { function = tt; fields = tt }
    sets (suc (suc zero)) = record { function = tt; fields = tt }
    sets (suc (suc (suc s))) = record { function = tt; fields = tt }
