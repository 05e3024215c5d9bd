-- The part of a let whose first part needs nothing: its second part alone.
--     closed_let       it has the types of the let
--     let_closed       and is its part
use Rattle.std.proofs.Common.{◌≡◌, ℕ, List, [], ◌∷◌, refl, subst, Contains}
use Rattle.mls_book.specs.Predicates.{Predicate, bot, top}
use Rattle.mls_automaton.specs.declared.scheme.EnvEntry.{EnvEntry}
use Rattle.mls_automaton.specs.declared.scheme.Scheme.{Scheme}
use Rattle.mls_automaton.proofs.Lists.{Contains-here, Contains-later}
use Rattle.mls_biunify.specs.Live.{Live}
use Rattle.mls_term.specs.declared.term.TermForm.TheVariants as form
use Rattle.mls_infer.specs.declared.done.Known.{Known}
use Rattle.mls_infer.specs.Constraints.{HasStates, HasTypes, let_constraint, no_goals}
use Rattle.mls_infer.specs.Doing.{AreTaken, IsBuiltIn, schemes_known}
use Rattle.mls_infer.specs.Finished.{Finished, Has, HasEach}
use Rattle.mls_infer.specs.Finishing.{HasParts, KeepsBut}
use Rattle.mls_infer.specs.Merges.{AreAlike}
use Rattle.mls_infer.specs.Regions.{TablePart, scheme_at}
use Rattle.mls_infer.specs.Steps.{IsSolution}
use Rattle.mls_infer.proofs.ConstraintRows.{nothing_in}
use Rattle.mls_infer.proofs.DoneNodes.{own_types}
use Rattle.mls_infer.proofs.FinishedParts.{scheme_there}
use Rattle.mls_infer.proofs.Going.{read_scheme}
use Rattle.mls_infer.proofs.GoingNames.{allows_top}
use Rattle.mls_infer.proofs.JoinedRows.{let_row}

-- what needs nothing has types
closed_types : (s : Scheme) → HasStates s → s.env ≡ [] → (types : ℕ → Predicate) → HasTypes (no_goals s) types top
closed_types s states no_env types =
    let read = read_scheme s states in
    let h : HasTypes (no_goals s) (λ x. bot) top = (read.1.just (λ x. bot) top).1 (allows_top read.0 read.1.is) in
    record {
      nodes = h.nodes;
      closed = h.closed;
      value = h.value;
      held = h.held;
      model = h.model;
      goals = h.goals;
      root = h.root;
      env = λ entry inside. let E : List EnvEntry → Type 0 = λ env. Contains env entry in absurd (nothing_in entry (subst E no_env inside));
    }

pub closed_let : (s t : Scheme) → HasStates s → HasStates t → s.env ≡ [] → IsSolution (let_constraint s t) t
closed_let s t are are' no_env = record {
  states = are';
  just = λ types f. (
    λ h. ((let_row s t are are' types f).0 h).second,
    λ h. (let_row s t are are' types f).1 (record { first = closed_types s are no_env types; second = h }),
  );
}

-- fewer were taken
pub keeps_fewer : (gone more : List ℕ) (a b : Finished) → ((j : ℕ) → Contains gone j → Contains more j) → KeepsBut gone a b → KeepsBut more a b
keeps_fewer gone more a b within keeps = record { size = keeps.size; kept = λ j s out has. keeps.kept j s (λ inside. out (within j inside)) has }

module _ (first : Finished) (e f : ℕ) (has : HasParts (form.Let 0 e f) first) (live : Live) (nodes : List Known) (part : TablePart) (taken : AreTaken first (f ∷ []) live nodes (part ∷ [])) (s : Scheme) (at : Has first e s) (no_env : s.env ≡ []) where
  abbrev t : Scheme
  t = scheme_at live.table part

  states : HasStates s
  states = scheme_there (form.Let 0 e f) first has e (Contains-here e (f ∷ [])) s at

  second : (ss : List Scheme) → HasEach first (e ∷ f ∷ []) ss → (b : Scheme) × Has first f b
  second [] each = absurd each
  second (a ∷ []) each = absurd each.1
  second (a ∷ b ∷ []) each = (b, each.1.0)
  second (a ∷ b ∷ c ∷ ss) each = absurd each.1.1

  pub let_closed : IsBuiltIn (form.Let 0 e f) first live nodes part
  let_closed =
      let it = second has.schemes has.each in
      let alike : AreAlike (it.0 ∷ []) (t ∷ []) = taken.alike (it.0 ∷ []) (it.1, tt) in
      record {
        done = taken.done;
        beside = taken.beside;
        constraint = let_constraint s t;
        posed = record {
          schemes = s ∷ it.0 ∷ [];
          each = (at, (it.1, tt));
          taken = s ∷ t ∷ [];
          alike = ((states, own_types s), alike);
          is = refl;
        };
        solution = closed_let s t states alike.0.0 no_env;
        keeps = keeps_fewer (f ∷ []) (e ∷ f ∷ []) first (schemes_known live nodes) (λ j inside. Contains-later e (f ∷ []) j inside) taken.keeps;
      }
