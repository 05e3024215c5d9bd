-- What the loop leaves at the end of a whole expression: its scheme, without the environment, is a most general one.
--     closed_same            without its environment a scheme allows what it allows where binders have no types
--     starts                 the loop goes on from the first node to the end
use Rattle.std.proofs.Common.{◌≡◌, ◌↔◌, ℕ, ◌+◌, List, [], length, refl, sym, subst, arith, append-nil, Some, slice_get}
use Rattle.std.specs.Prelude.{None}
use Rattle.std.specs.FinMap as finmap
use Rattle.std.specs.FinMap.{get-empty}
use Rattle.std.specs.Ordering.{nat_cmp}
use Rattle.mls_book.specs.Predicates.{Predicate, Implies, bot}
use Rattle.mls_book.specs.Passes.{passes_by}
use Rattle.mls_book.specs.Schemes as book
use Rattle.mls_book.specs.Schemes.{binder_passes}
use Rattle.mls_automaton.specs.declared.scheme.Scheme.{Scheme}
use Rattle.mls_automaton.specs.Schemes.{IsScheme}
use Rattle.mls_term.specs.declared.term.TermNode.{TermNode}
use Rattle.mls_term.specs.Terms.{TermTree, before, postorder}
use Rattle.mls_term.specs.Derivations.{Known, IsBest}
use Rattle.mls_term.specs.WellFormed.{IsScoped, at_root, IsFirstNone}
use Rattle.mls_term.specs.TypingLaws.{AreSchemes}
use Rattle.mls_typing.specs.InferenceLaws.{at_start, AllSchemes}
use Rattle.mls_typing.specs.Typed.{Allows}
use Rattle.mls_typing.proofs.Answered.{answers_are_best, answers_are_first, closed_is_best, best_allows_types}
use Rattle.mls_typing.proofs.Lists.{nothing_in}
use Rattle.mls_typing.proofs.Rows.{both_ways}
use Rattle.mls_infer.specs.Constraints.{HasStates, HasTypes, no_goals}
use Rattle.mls_infer.specs.Steps.{IsReadAs}
use Rattle.mls_infer.specs.Finished.{Finished}
use Rattle.mls_infer.specs.Inference.{IsKindAt}
use Rattle.mls_infer.specs.Finishing.{Scope, GoesOnIn, HasFirsts, without_env, IsInferred}
use Rattle.mls_infer.proofs.Going.{Done}
use Rattle.mls_infer.proofs.GoingTrees.{goes_tree}

-- a scheme over a book without its environment
abbrev closed : book.Scheme → book.Scheme
closed s = record { book = s.book; env = finmap.empty; root = s.root }

pub without_env_is : (s : Scheme) → HasStates s → IsScheme (without_env s)
without_env_is s is = record { automaton = is.automaton; root = is.root; env = λ x n e. absurd (cc) }

module _ (types : ℕ → Predicate) (f : Predicate) where
  -- nothing is asked of binders
  closed_same : (s : book.Scheme) → Allows (closed s) types f ↔ Allows s (λ x. bot) f
  closed_same s = (
    λ a. record { book = a.book; closed = a.closed; reading = a.reading; held = a.held; root = a.root; env = λ x q k. absurd (cc) },
    λ a. record {
      book = a.book;
      closed = a.closed;
      reading = a.reading;
      held = a.held;
      root = a.root;
      env = λ x. subst (λ o. Implies (types x) (binder_passes (passes_by a.reading s.book) o)) (sym (get-empty nat_cmp x)) (λ q k. refl);
    },
  )

  pub types_same : (s : Scheme) → HasTypes (no_goals s) (λ x. bot) f ↔ HasTypes (no_goals (without_env s)) types f
  types_same s = (
    λ h. record { nodes = h.nodes; closed = h.closed; value = h.value; held = h.held; model = h.model; goals = h.goals; root = h.root; env = λ entry inside. absurd (nothing_in entry inside) },
    λ h. record { nodes = h.nodes; closed = h.closed; value = h.value; held = h.held; model = h.model; goals = h.goals; root = h.root; env = λ entry inside q k. absurd (cc) },
  )

module _ (globals : List book.Scheme) (whole : TermTree) (all : AllSchemes globals) (closed_globals : (g : ℕ) (u : book.Scheme) → slice_get globals g ≡ Some u → u.env ≡ finmap.empty) (scoped : IsScoped [] [] (length globals) whole) where
  abbrev start : Known
  start = at_start globals

  start_schemes : AreSchemes start
  start_schemes = record {
    globals = all;
    lets = λ k s e. let nothing : finmap.get (finmap.empty {X = book.Scheme} {R = nat_cmp}) k ≡ None = get-empty nat_cmp k in absurd (cc);
  }

  -- the scheme of a finished whole, without its environment, is best
  module _ (done : Finished) (it : Done start 0 whole done) where
    abbrev s : Scheme
    s = it.part.automaton

    abbrev r : book.Scheme
    r = it.part.scheme

    closed_best : IsBest start whole (closed r)
    closed_best =
        let best = answers_are_best globals whole r all it.part.infers in
        closed_is_best globals (length globals) whole r all closed_globals scoped best.0 best.1

    closed_is : book.IsScheme (closed r)
    closed_is = record {
      book = it.part.read.is.book;
      root = it.part.read.is.root;
      env = λ x i e. let nothing : finmap.get (finmap.empty {X = ℕ} {R = nat_cmp}) x ≡ None = get-empty nat_cmp x in absurd (cc);
    }

    each_best : (u : book.Scheme) → IsReadAs (without_env s) u → IsBest start whole u
    each_best u read =
        (best_allows_types start whole u start_schemes read.is).1
        (λ types f.
        both_ways ((best_allows_types start whole (closed r) start_schemes closed_is).0 closed_best types f)
        (both_ways (closed_same types f r)
        (both_ways (let h = it.part.read.just (λ x. bot) f in (h.1, h.0))
        (both_ways (types_same types f s) (read.just types f)))))

    is_inferred : IsInferred globals whole done
    is_inferred = record { scheme = s; there = let P : ℕ → Type 0 = λ i. slice_get done i ≡ Some (Some s) in let here : 0 + before whole ≡ before whole = omega arith in subst P here it.there; is = it.part.states; best = each_best }

-- so the loop goes on from the first node to the end
module _ (scope : Scope) (whole : TermTree) (all : AllSchemes scope.globals) (closed_globals : (g : ℕ) (u : book.Scheme) → slice_get scope.globals g ≡ Some u → u.env ≡ finmap.empty) (scoped : IsScoped [] [] (length scope.globals) whole) where
  pub starts : HasFirsts scope.first_of 0 whole → GoesOnIn scope whole (postorder 0 whole) []
  starts firsts =
      let P : List TermNode → Type 0 = λ nodes. GoesOnIn scope whole nodes [] in
      subst P (append-nil (postorder 0 whole))
      (goes_tree scope (λ i m. IsFirstNone scope.globals whole i × IsKindAt scope.globals whole i m) (IsInferred scope.globals whole) whole [] [] (at_start scope.globals) 0 [] [] scoped firsts
      (record { globals = refl; size = refl; scoped = λ k inside. absurd (nothing_in k inside) })
      (λ i m kind stop. (answers_are_first scope.globals whole i all stop, kind scope.globals whole (start_schemes scope.globals whole all closed_globals scoped) (at_root refl refl refl)))
      (λ new agree size one. is_inferred scope.globals whole all closed_globals scoped new one))
