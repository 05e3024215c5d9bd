-- Once a round splits no class, the classes are those of alike states.
use Rattle.std.proofs.Common.{◌≡◌, ◌<◌, ℕ, List, ◌∙◌, sym, ap, subst, length}
use Rattle.std.specs.Prelude.{◌↔◌}
use Rattle.mls_automaton.specs.Automata.{Automaton}
use Rattle.mls_automaton.specs.Models.{IsClosed}
use Rattle.mls_shape.specs.declared.classes.Classes.{Classes}
use Rattle.mls_shape.specs.Alike.{IsAlike}
use Rattle.mls_shape.specs.steps.Classes.{class_in, AreApart, AreClassesBy, AreClasses, LookAlike}
use Rattle.mls_shape.proofs.AlikeStates.{alike-refl, partition_classes, refined_keeps}

module _ (a : Automaton) (closed : IsClosed a) (classes : List ℕ) (finer : Classes) (fine : AreClassesBy a (LookAlike a classes) finer)
    (keeps : (x y : ℕ) → x < length a.states → y < length a.states → IsAlike a x y → class_in classes x ≡ class_in classes y) where
  pub finer_keeps : (x y : ℕ) → x < length a.states → y < length a.states → IsAlike a x y → class_in finer.numbers.items x ≡ class_in finer.numbers.items y
  finer_keeps = refined_keeps a closed (class_in classes) (class_in finer.numbers.items) keeps (λ i j low low' same look. (fine.classes i j low low').1 look)

  module _ (same : finer.numbers.items ≡ classes) where
    one : (i : ℕ) → class_in finer.numbers.items i ≡ class_in classes i
    one i = ap (λ xs. class_in xs i) same

    stable : (i j : ℕ) → i < length a.states → j < length a.states → (class_in classes i ≡ class_in classes j) ↔ IsAlike a i j
    stable = partition_classes a closed (class_in classes) keeps
        (λ i j low low' equal. (fine.classes i j low low').0 (one i ∙ (equal ∙ sym (one j))))

    pub settled : AreClasses a finer
    settled = record {
      size = fine.size;
      low = fine.low;
      chosen = fine.chosen;
      classes = λ i j low low'. (
        (λ equal. (stable i j low low').0 (sym (one i) ∙ (equal ∙ one j))),
        (λ alike. one i ∙ ((stable i j low low').1 alike ∙ sym (one j))),
      );
    }

  -- Where each state has a class of its own, the classes are those of alike states.
  module _ (apart : AreApart finer.numbers.items) where
    own_number : (s : ℕ) → s < length a.states → class_in finer.numbers.items s ≡ s
    own_number s low = apart s (subst (λ n. s < n) (sym fine.size) low)

    pub settled_apart : AreClasses a finer
    settled_apart = record {
      size = fine.size;
      low = fine.low;
      chosen = fine.chosen;
      classes = λ i j low low'. (
        (λ equal. subst (IsAlike a i) (sym (own_number i low) ∙ (equal ∙ own_number j low')) (alike-refl a i)),
        finer_keeps i j low low',
      );
    }
