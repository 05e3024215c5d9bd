-- Where the constraint of an expression has a model for each of its types, it has no clash if there is a type at all, and a scheme over
-- the solved constraint allows all of them.
--     model_no_clash, models_allow_all
use Rattle.std.proofs.Common.{◌≡◌, ℕ, ◌<◌, List, length, sym, ◌∙◌, subst, Some}
use Rattle.std.specs.Prelude.{Option, None, option_map}
use Rattle.mls_book.specs.Predicates.{Predicate}
use Rattle.mls_book.specs.Schemes as book
use Rattle.mls_automaton.specs.declared.scheme.Scheme.{Scheme}
use Rattle.mls_automaton.specs.Automata.{Automaton}
use Rattle.mls_automaton.specs.Models.{IsClosed}
use Rattle.mls_automaton.specs.Schemes.{state_of, IsScheme, IsSchemeOf}
use Rattle.mls_automaton.proofs.Instances.{HasModel, AreGoals}
use Rattle.mls_solver.specs.Clashes.{HasNoClash}
use Rattle.mls_solver.specs.Relations.{IsRelated}
use Rattle.mls_solver.specs.Solved.{IsSolved}
use Rattle.mls_solver.proofs.Clashing.{clash-fails}
use Rattle.mls_solver.proofs.Following.{related_states, related-below}
use Rattle.mls_solver.proofs.SolvedInstances.{over, over_solved, to_solved}
use Rattle.mls_term.specs.Terms.{TermTree}
use Rattle.mls_term.specs.Derivations.{Known}
use Rattle.mls_typing.specs.Typed.{Types, IsTyped}
use Rattle.mls_parts.specs.NodeTypes.{NeedsOnly, AllowsAll}
use Rattle.mls_parts.proofs.TypedModels.{model_allows}

-- a scheme over a book of its automaton
module _ (s : Scheme) (is : IsScheme s) (b : book.Scheme) (is_book : IsSchemeOf s b) where
  there : (o : Option ℕ) → ((n : ℕ) → o ≡ Some n → n < length s.automaton.states) → (i : ℕ) → option_map is_book.place o ≡ Some i → i < length b.book
  there None low i e = absurd (cc)
  there (Some n) low i e = let same : is_book.place n ≡ i = cc in subst (λ i. i < length b.book) same (is_book.book.in_range n (low n (λ k. Some n)))

  pub book_scheme : book.IsScheme b
  book_scheme = record {
    book = is_book.book.closed;
    root = subst (λ r. r < length b.book) (sym is_book.root) (is_book.book.in_range s.root.0 is.root.in_range);
    env = λ x i e. there (state_of s.env x) (λ n found. (is.env x n found).in_range) i (sym (is_book.env x) ∙ e);
  }

module _ (s : Scheme) (IsGoal : ℕ → ℕ → Type 0) (is : IsScheme s) (are : AreGoals s.automaton IsGoal) where
  abbrev a : Automaton
  a = s.automaton

  -- a constraint with a model has no clash
  pub model_no_clash : (types : Types) (f : Predicate) → HasModel s IsGoal f types → HasNoClash a (IsRelated a IsGoal)
  model_no_clash types f it p n related clash clashes =
      let states = related_states a IsGoal is.automaton are p n related in
      clash-fails a it.value it.model p n states.0.polarity states.1.polarity
      (related-below a it.value it.model IsGoal is.automaton are it.goals p n related)
      clash clashes

  -- a scheme over the solved constraint allows all types for which there are models
  pub models_allow_all : (solved : Automaton) → IsSolved a (IsRelated a IsGoal) solved → IsClosed solved → (b : book.Scheme) → IsSchemeOf (over s solved) b
      → (scope : List ℕ) (here : Known) (t : TermTree) → NeedsOnly scope b
      → ((types : Types) (f : Predicate) → IsTyped here types t f → HasModel s IsGoal f types)
      → AllowsAll scope here t b
  models_allow_all solved is_solved closed b is_book scope here t needs models =
      let solved_is : IsScheme (over s solved) = over_solved s IsGoal is are solved is_solved closed in
      record {
        is = book_scheme (over s solved) solved_is b is_book;
        needs = needs;
        all = λ types f h.
            model_allows (over s solved) b solved_is is_book types f (to_solved s IsGoal is are solved is_solved f types (models types f h));
      }
