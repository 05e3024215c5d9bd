-- The combined head of a set, part by part.
use Rattle.std.specs.Prelude.{ℕ, Bool, false, not, List, [], Option, Some, None, is_some, unwrap_or, if◌then◌else◌}
use Rattle.std.specs.List.{flat_map, list_any}
use Rattle.mls_automaton.specs.declared.automaton.Polarity.{Polarity}
use Rattle.mls_automaton.specs.declared.automaton.Polarity.TheVariants.{Positive, Negative}
use Rattle.mls_automaton.specs.declared.automaton.Arms.{Arms}

-- the domain and the codomain of a head
abbrev pub domain_in : Option Arms → List ℕ
domain_in None = []
domain_in (Some arms) = arms.domain

abbrev pub codomain_in : Option Arms → List ℕ
codomain_in None = []
codomain_in (Some arms) = arms.codomain

-- a record has the label, a record lacks it, and its set there
abbrev pub has_label : List ℕ → Option (List ℕ → Option (List ℕ)) → Bool
has_label label None = false
has_label label (Some sets) = is_some (sets label)

abbrev pub lacks_label : List ℕ → Option (List ℕ → Option (List ℕ)) → Bool
lacks_label label None = false
lacks_label label (Some sets) = not (is_some (sets label))

abbrev pub set_in : List ℕ → Option (List ℕ → Option (List ℕ)) → List ℕ
set_in label None = []
set_in label (Some sets) = unwrap_or (sets label) []

module _ {X : Type 0} (function : X → Option Arms) (fields : X → Option (List ℕ → Option (List ℕ))) where
  -- what has a function has it here, and all domains and codomains come one after the other
  abbrev pub flat_function : List X → Option Arms
  flat_function xs =
      if list_any (λ x. is_some (function x)) xs
      then Some (record {
        domain = flat_map (λ x. domain_in (function x)) xs;
        codomain = flat_map
            (λ x. codomain_in (function x)) xs;
      })
      else None

  -- a positive set has the labels that no record of it lacks, a negative one those that some record of it has
  abbrev pub shown_label : Polarity → List ℕ → List X → Bool
  shown_label Positive label xs = not (list_any (λ x. lacks_label label (fields x)) xs)
  shown_label Negative label xs = list_any (λ x. has_label label (fields x)) xs

  abbrev pub flat_set : Polarity → List X → List ℕ → Option (List ℕ)
  flat_set p xs label = if shown_label p label xs then Some (flat_map (λ x. set_in label (fields x)) xs) else None

  abbrev pub flat_record : Polarity → List X → Option (List ℕ → Option (List ℕ))
  flat_record p xs = if list_any (λ x. is_some (fields x)) xs then Some (flat_set p xs) else None
