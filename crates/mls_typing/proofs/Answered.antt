-- The laws of inference.
use Rattle.std.proofs.Common.{◌≡◌, ℕ, [], ap, ◌∙◌, Some, None}
use Rattle.std.specs.FinMap as finmap
use Rattle.std.specs.FinMap.{get-empty}
use Rattle.std.specs.Ordering.{nat_cmp}
use Rattle.mls_book.specs.Schemes.{Scheme}
use Rattle.mls_typing.specs.InferenceLaws.{at_start, AnswersAreBest, AnswersAreFirst, OneFirstNone, FirstNoneFails, ClosedIsBest, BestAllowsTypes}
use Rattle.mls_typing.proofs.FirstNone as first
use Rattle.mls_typing.proofs.Inference.{infers_best, infers_first_none}
use Rattle.mls_typing.proofs.Instances.{best_allows, best_by_types}
use Rattle.mls_typing.proofs.Scoped.{NeedsOnly, closed_best}

pub answers_are_best : AnswersAreBest
answers_are_best globals t s all h = infers_best globals t all s h

pub answers_are_first : AnswersAreFirst
answers_are_first globals t i all h = infers_first_none globals t all i h

pub one_first_none : OneFirstNone
one_first_none globals t i j all h k = first.one_first_none globals t all i j h k

pub first_none_fails : FirstNoneFails
first_none_fails globals t i all h = first.first_none_fails globals t all i h

nothing_known : (k : ℕ) (s : Scheme) → finmap.get (finmap.empty {X = Scheme} {R = nat_cmp}) k ≡ Some s → ⊥
nothing_known k s e = let absent : finmap.get (finmap.empty {X = Scheme} {R = nat_cmp}) k ≡ None = get-empty nat_cmp k in absurd (cc)

needs_none : (s : Scheme) → s.env ≡ finmap.empty → NeedsOnly [] s
needs_none s e x i has =
    let absent : finmap.get s.env x ≡ None = ap (λ d. finmap.get d x) e ∙ get-empty nat_cmp x in
    absurd (cc)

pub closed_is_best : ClosedIsBest
closed_is_best globals count t s all closed scoped is best =
    closed_best (at_start globals) (record { globals = all; lets = λ k u e. absurd (nothing_known k u e) }) count t
    (record {
      lets_within = λ k inside u e. absurd (nothing_known k u e);
      globals_within = λ g low u e. needs_none u (closed g u e);
    })
    scoped s is best

pub best_allows_types : BestAllowsTypes
best_allows_types known t s all is = (best_allows known t s is, best_by_types known t s all is)
