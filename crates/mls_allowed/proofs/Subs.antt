-- Steps by pairs that are allowed.
--     sub_allowed
use Rattle.std.proofs.Common.{◌≡◌, inl, ℕ, ◌<◌, true, List, length, ap, ◌∙◌, subst, Some}
use Rattle.std.specs.FinMap as env
use Rattle.mls_book.specs.Schemes.{Scheme, IsScheme}
use Rattle.mls_deriv.specs.declared.derivation.Mode.{Mode}
use Rattle.mls_deriv.specs.declared.derivation.Mode.TheVariants.{Lr, Rl}
use Rattle.mls_deriv.specs.declared.derivation.StepLine.{StepLine}
use Rattle.mls_deriv.specs.declared.derivation.StepRule.TheVariants as rule
use Rattle.mls_deriv.specs.Pairs.{put_at, Claims}
use Rattle.mls_deriv.specs.declared.claim.Put.{Put}
use Rattle.mls_deriv.specs.declared.claim.Pair.{Pair}
use Rattle.mls_deriv.specs.Steps.{Before, Says, IsRising, conclusion, IsAllowed, sub}
use Rattle.mls_pairs.specs.PairLists.{IsPairList}
use Rattle.mls_layout.specs.Shown.{IsShown, AreShown}
use Rattle.mls_layout.specs.Emitted.{asked_at, IsListOf}
use Rattle.mls_allowed.proofs.Emitted.{list_of, asked_root, asked_binder}

-- A step may follow one about the same part, where the pairs of the types and of the environments are shown: whichever list it has of the
-- pairs that it asks for.
pub sub_allowed : (b : Before) (puts : List Put) (base claims : Mode → ℕ → ℕ → Type 0) → AreShown b.book puts base claims
    → ((x n : ℕ) → put_at puts x ≡ Some n → n < length b.book)
    → (step : StepLine) (number : ℕ) (first : Scheme) → step.rule ≡ rule.Sub number → Says b number step.node first → first.book ≡ b.book
    → IsScheme (conclusion b.book step) → IsRising step.env
    → IsShown b.book puts base claims true Lr first.root step.root.0
    → ((x n : ℕ) → env.get first.env x ≡ Some n → (m : ℕ) × (env.get (conclusion b.book step).env x ≡ Some m) × IsShown b.book puts base claims true Rl m n)
    → (pairs : List Pair) → IsPairList b.book puts (asked_at b.steps step) pairs
    → IsAllowed b puts pairs step
sub_allowed b puts base claims shown low step number first is says same_book is_step rising root kept pairs found = record {
  in_range = is_step;
  rising = rising;
  by_rule = sub number first is says low list.justified the_root (λ x n at_x. let it = kept x n at_x in inl (it.0, it.1, the_binder x n it.0 at_x it.1 it.2));
}
  where
    list : IsListOf b.book puts base claims (asked_at b.steps step) pairs
    list = list_of b.book puts base claims shown (asked_at b.steps step) pairs found

    the_root : Claims pairs Lr first.root step.root.0
    the_root =
        list.holds Lr first.root step.root.0
        (subst (λ i. Claims (asked_at b.steps step) Lr i step.root.0) (ap (λ (s : Scheme). s.root) says.concludes)
        (asked_root b.steps step says.step number is says.stands))
        root

    the_binder : (x n m : ℕ) → env.get first.env x ≡ Some n → env.get (conclusion b.book step).env x ≡ Some m → IsShown b.book puts base claims true Rl m n → Claims pairs Rl m n
    the_binder x n m at_x at_m it =
        list.holds Rl m n
        (asked_binder b.steps step says.step number is says.stands x n m (ap (λ (s : Scheme). env.get s.env x) says.concludes ∙ at_x) at_m)
        it
