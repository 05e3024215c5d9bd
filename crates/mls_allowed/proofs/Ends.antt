-- The last steps of a part: from the root of the constraint to the type, and from the type that is known of a name to its copy.
--     type_part       the root of the part gets its type, and each binder the node of a state of the type
--     copied_part     a use gets the copy of the root, and each binder the copy of its state
use Rattle.std.proofs.Common.{◌≡◌, ℕ, ◌<◌, true, List, [], length, refl, sym, subst, Some}
use Rattle.std.specs.FinMap as env
use Rattle.mls_book.specs.Schemes.{Env, IsScheme}
use Rattle.mls_automaton.specs.declared.automaton.Polarity.{Polarity}
use Rattle.mls_automaton.specs.declared.automaton.Polarity.TheVariants.{Positive, Negative}
use Rattle.mls_automaton.specs.declared.scheme.Scheme.{Scheme}
use Rattle.mls_automaton.specs.Automata.{Automaton, polarity_at}
use Rattle.mls_automaton.specs.Models.{IsClosed}
use Rattle.mls_automaton.proofs.Instances.{AreGoals}
use Rattle.mls_solver.specs.Relations.{IsRelated}
use Rattle.mls_solver.specs.Clashes.{HasNoClash}
use Rattle.mls_solver.specs.Solved.{IsSolved}
use Rattle.mls_subsume.specs.declared.verdict.StatePair.{StatePair}
use Rattle.mls_subsume.specs.Walks.{IsIn, IsWalk}
use Rattle.mls_deriv.specs.declared.derivation.BinderNode.{BinderNode}
use Rattle.mls_deriv.specs.declared.derivation.Mode.TheVariants.{Lr, Rl}
use Rattle.mls_deriv.specs.declared.derivation.StepLine.{StepLine}
use Rattle.mls_deriv.specs.Pairs.{put_at}
use Rattle.mls_deriv.specs.declared.claim.Put.{Put}
use Rattle.mls_deriv.specs.Steps.{env_of, Before, Says}
use Rattle.mls_layout.specs.Shown.{IsShown, based}
use Rattle.mls_layout.specs.Layouts.{IsLayout, PartClaims, IsItself}
use Rattle.mls_layout.specs.Uses.{IsNameLayout, ArePuts, IsUseClaim, NoClaim}
use Rattle.mls_layout.specs.Rows.{at, concluded, Fits, HasRow}
use Rattle.mls_allowed.proofs.PartClaims.{below_type_shown, above_type_shown, part_shown}
use Rattle.mls_allowed.proofs.UseClaims.{copied_shown, use_shown}
use Rattle.mls_allowed.proofs.Rows.{sub_row}
use Rattle.mls_allowed.proofs.UseRows.{put_row}

module _ (b : Before) (a : Automaton) (IsGoal : ℕ → ℕ → Type 0) (closed : IsClosed a) (goals : AreGoals a IsGoal) (free : HasNoClash a (IsRelated a IsGoal))
    (general special : Scheme) (is_solved : IsSolved a (IsRelated a IsGoal) general.automaton) (closed_type : IsClosed special.automaton)
    (walked : List StatePair) (walk : IsWalk general special walked)
    (place type_place : ℕ → ℕ) (layout : IsLayout b.book a special.automaton (IsRelated a IsGoal) (IsIn walked) place type_place) where
  pub type_part : (steps : List StepLine) (number part : ℕ) (d : Env) (wider : List BinderNode) → polarity_at a general.root.0 ≡ Positive
      → Says (at b steps) number part (concluded b d (place general.root.0)) → IsScheme (concluded b d (place general.root.0))
      → Fits b wider (type_place special.root.0)
      → ((x k : ℕ) → env.get d x ≡ Some k → (n s : ℕ) × (k ≡ place n) × (polarity_at a n ≡ Negative) × IsIn walked n s × (env.get (env_of wider) x ≡ Some (type_place s)))
      → HasRow b steps part (env_of wider) (type_place special.root.0)
  type_part steps number part d wider is_positive says is is' binders =
      sub_row b IsItself (PartClaims a special.automaton (IsRelated a IsGoal) (IsIn walked) place type_place)
      (part_shown b.book a IsGoal closed goals free general special is_solved closed_type walked walk place type_place layout)
      (λ mode i. based refl) steps number part d (place general.root.0) wider (type_place special.root.0) says is is'
      (below_type_shown b.book a IsGoal closed goals free general special is_solved closed_type walked walk place type_place layout true Lr general.root.0 special.root.0 walk.roots is_positive)
      (λ x k found.
      let it = binders x k found in (
        type_place it.1,
        it.5,
        subst (λ z. IsShown b.book [] IsItself (PartClaims a special.automaton (IsRelated a IsGoal) (IsIn walked) place type_place) true Rl (type_place it.1) z) (sym it.2)
            (above_type_shown b.book a IsGoal closed goals free general special is_solved closed_type walked walk place type_place layout true Rl it.0 it.1 it.4 it.3),
      ))

module _ (b : Before) (a type_of_part : Automaton) (R IsPair : ℕ → ℕ → Type 0) (place part_place : ℕ → ℕ) (layout : IsLayout b.book a type_of_part R IsPair place part_place)
    (IsPlace : ℕ → Type 0) (sign : ℕ → Polarity) (type_place copy : ℕ → ℕ) (type : IsNameLayout b.book a IsPlace sign type_place copy)
    (puts : List Put) (are : ArePuts b.book IsPlace sign type.variables place copy puts)
    (low : (x n : ℕ) → put_at puts x ≡ Some n → n < length b.book) where
  pub copied_part : (steps : List StepLine) (number part : ℕ) (d : Env) (root : ℕ) (wider : List BinderNode) → IsPlace root → sign root ≡ Positive
      → Says (at b steps) number part (concluded b d (type_place root)) → IsScheme (concluded b d (type_place root))
      → Fits b wider (place (copy root))
      → ((x k : ℕ) → env.get d x ≡ Some k → (s : ℕ) × (k ≡ type_place s) × IsPlace s × (sign s ≡ Negative) × (env.get (env_of wider) x ≡ Some (place (copy s))))
      → HasRow b steps part (env_of wider) (place (copy root))
  copied_part steps number part d root wider at_root is_positive says is is' binders =
      put_row b puts low NoClaim (IsUseClaim IsPlace sign place type_place copy)
      (use_shown b.book a type_of_part R IsPair place part_place layout IsPlace sign type_place copy type puts are)
      steps number part d (type_place root) wider (place (copy root)) says is is'
      (copied_shown b.book a type_of_part R IsPair place part_place layout IsPlace sign type_place copy type puts are true Positive root at_root is_positive)
      (λ x k found.
      let it = binders x k found in (
        place (copy it.0),
        it.4,
        subst (λ z. IsShown b.book puts NoClaim (IsUseClaim IsPlace sign place type_place copy) true Rl (place (copy it.0)) z) (sym it.1)
            (copied_shown b.book a type_of_part R IsPair place part_place layout IsPlace sign type_place copy type puts are true Negative it.0 it.2 it.3),
      ))
