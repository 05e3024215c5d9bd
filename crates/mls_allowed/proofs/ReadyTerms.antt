-- The last part of a term, the whole, is ready for its lines where it has the type: the types of all first parts are
-- known, so its constraint does not clash, and solved it subsumes each derivable scheme.
--     whole_typed             it has a type in its place
--     whole_ready
use Rattle.std.proofs.Common.{◌≡◌, ℕ, ◌+◌, List, [], length, refl, Contains, subst, Some, slice_get}
use Rattle.std.specs.BTreeMap.{BTreeMap}
use Rattle.std.specs.FinMap as env
use Rattle.mls_book.specs.Schemes as book
use Rattle.mls_book.specs.Schemes.{Subsumes}
use Rattle.mls_book.proofs.Subsumption.{Subsumes-trans}
use Rattle.mls_automaton.specs.declared.scheme.EnvEntry.{EnvEntry}
use Rattle.mls_automaton.specs.declared.scheme.Scheme.{Scheme}
use Rattle.mls_automaton.specs.Automata.{Automaton}
use Rattle.mls_automaton.specs.Models.{IsClosed, IsDeterministic}
use Rattle.mls_automaton.specs.Schemes.{IsScheme, IsSchemeOf}
use Rattle.mls_solver.specs.Clashes.{HasNoClash}
use Rattle.mls_solver.specs.Relations.{IsGoal, IsRelated}
use Rattle.mls_solver.specs.Solved.{IsSolved}
use Rattle.mls_subsume.specs.declared.verdict.StatePair.{StatePair}
use Rattle.mls_subsume.specs.Verdicts.{DoesSubsume}
use Rattle.mls_term.specs.declared.term.TermNode.{TermNode}
use Rattle.mls_term.specs.Terms.{before}
use Rattle.mls_term.specs.Derivations.{Derives, Known}
use Rattle.mls_term.specs.WellFormed.{IsTerm, HasRisingTree}
use Rattle.mls_typing.specs.InferenceLaws.{at_start, AllSchemes}
use Rattle.mls_typing.specs.Typed.{needs_of, type_of}
use Rattle.mls_typing.proofs.Instances.{IsTyped-derived}
use Rattle.mls_typing.proofs.Lists.{nothing_in}
use Rattle.mls_layout.specs.Walks.{AreMet}
use Rattle.mls_parts.specs.declared.binders.PartBinders.{PartBinders}
use Rattle.mls_parts.specs.declared.pose.Posing.{Posing}
use Rattle.mls_parts.specs.declared.split.TermPart.{TermPart}
use Rattle.mls_parts.specs.NodeTypes.{at_top, IsKnownHere, LetsAllow}
use Rattle.mls_parts.specs.NumberedNodes.{IsNumbered, IsPlaced}
use Rattle.mls_parts.specs.PartBinders.{ArePartBinders}
use Rattle.mls_parts.specs.PosedModels.{AreOver}
use Rattle.mls_parts.specs.PosedParts.{IsPartPosed}
use Rattle.mls_parts.specs.Posings.{root_in}
use Rattle.mls_parts.specs.SolvedTypes.{entries_of, solved_scheme}
use Rattle.mls_parts.specs.TermParts.{IsTermPart}
use Rattle.mls_parts.proofs.NumberedNodes.{numbered_whole}
use Rattle.mls_parts.proofs.TreeNodes.{tree_nodes}
use Rattle.mls_allowed.specs.LetScopes.{HasScopes}
use Rattle.mls_allowed.specs.FirstTypes.{AreFirstsMade, HaveBooks}
use Rattle.mls_allowed.specs.PartTypes.{AreAround}
use Rattle.mls_allowed.specs.MadeFirsts.{around_states}
use Rattle.mls_allowed.specs.ReadyParts.{IsPartReady}
use Rattle.mls_allowed.proofs.AroundParts.{part_around}
use Rattle.mls_allowed.proofs.FirstScopes.{IsAround, whole_around, whole_scope}
use Rattle.mls_allowed.proofs.FirstTypes.{allowed_subsumes, firsts_allow}
use Rattle.mls_allowed.proofs.KnownHere.{known_start}
use Rattle.mls_allowed.proofs.MadeTypes.{have_first_types, lets_in}
use Rattle.mls_allowed.proofs.PartTypes.{part_allows_all, part_no_clash}
use Rattle.mls_allowed.proofs.PlacedParts.{placed_whole}
use Rattle.mls_allowed.proofs.ReadyFirsts.{IsTypedIn}
use Rattle.mls_allowed.proofs.ReadyParts.{part_ready, state_back}

-- A term, of which the types of all first parts were made, and all names are known.
module _ (nodes : List TermNode) (globals types : BTreeMap ℕ Scheme) (let_scope : ℕ → List ℕ) (count binders lets : ℕ) (term : IsTerm count nodes binders lets) (rising : HasRisingTree nodes) (scopes : HasScopes let_scope [] term.tree)
    (firsts : AreFirstsMade nodes globals types let_scope (length nodes)) (known : Known) (books : HaveBooks known types) (over : AreOver known globals types) (schemes : AllSchemes known.globals)
    (no_needs : (g : ℕ) (s : book.Scheme) → slice_get known.globals g ≡ Some s → s.env ≡ env.empty) where
  abbrev here : Known
  here = at_start known.globals

  numbers : IsNumbered nodes 0 term.tree
  numbers = numbered_whole nodes term.tree term.nodes_are

  placed : IsPlaced nodes [] 0 term.tree
  placed = placed_whole count nodes binders lets term

  known_here : IsKnownHere known [] here
  known_here = known_start known known.globals schemes no_needs refl

  allow : LetsAllow known [] here term.tree
  allow =
      firsts_allow nodes known globals types over let_scope (have_first_types nodes globals let_scope count binders lets term rising scopes types firsts known books)
      term.tree [] here 0 placed (lets_in let_scope term.tree [] [] (λ x there. there) scopes) known_here

  -- where the term has a scheme, it has a type
  pub whole_typed : (u : book.Scheme) → book.IsScheme u → Derives (at_start known.globals) term.tree u
      → IsTypedIn nodes known globals types over let_scope (have_first_types nodes globals let_scope count binders lets term rising scopes types firsts known books) 0 term.tree
  whole_typed u is derives = record {
    scope = [];
    here = at_start known.globals;
    placed = placed;
    lets_in = lets_in let_scope term.tree [] [] (λ x there. there) scopes;
    known_here = known_here;
    types = needs_of u;
    type = type_of u;
    typed = IsTyped-derived here term.tree u is derives;
  }

  around : IsAround nodes let_scope count 0 term.tree
  around = whole_around nodes let_scope count binders lets term rising scopes

  -- its part, with a constraint that is posed and solved
  module _ (part : TermPart) (is_part : IsTermPart nodes (0 + before term.tree) part) (part_binders : PartBinders) (are : ArePartBinders nodes types part.nodes part_binders) (p : Posing) (posed : IsPartPosed nodes globals types part_binders.all part.nodes p)
      (solved : Automaton) (is_solved : IsSolved p.automaton (IsRelated p.automaton (IsGoal p.goals)) solved) (closed : IsClosed solved) where
    -- no binder is around it
    none_around : (x : ℕ) → Contains part_binders.around x → ⊥
    unfolding around
    none_around x there =
        nothing_in x
        (subst (λ (ys : List ℕ). Contains ys x) (whole_scope nodes let_scope count binders lets term rising scopes)
        (part_around nodes types let_scope count firsts.needs part part_binders are 0 term.tree numbers is_part around x there))

    abbrev states : List EnvEntry
    states = entries_of (around_states p part_binders.around)

    are_around : AreAround p part_binders.all [] states
    are_around = record {
      there = λ x s e. absurd (none_around x (state_back p part_binders.around x s e).0);
      around = λ x s e. absurd (none_around x (state_back p part_binders.around x s e).0);
      own = λ x s e. absurd (none_around x (state_back p part_binders.around x s e).0);
    }

    -- the term has this scheme, which subsumes the type
    module _ (u : book.Scheme) (is_u : book.IsScheme u) (derives : Derives (at_start known.globals) term.tree u) (special : Scheme) (is : IsScheme special) (single : IsDeterministic special.automaton)
        (below : (c : book.Scheme) → IsSchemeOf special c → Subsumes u c) where
      free : HasNoClash p.automaton (IsRelated p.automaton (IsGoal p.goals))
      free =
          part_no_clash nodes globals types part_binders.all part.nodes p posed (0 + before term.tree) (is_part.all (0 + before term.tree) (at_top refl)) [] states are_around
          known over here 0 term.tree refl placed known_here allow (λ i there. (is_part.only i there).1) (needs_of u) (type_of u) (IsTyped-derived here term.tree u is_u derives)

      does : DoesSubsume (solved_scheme solved (root_in p (0 + before term.tree)) (around_states p part_binders.around)) special
      does b c is_b is_c =
          Subsumes-trans b u c
          (allowed_subsumes [] here term.tree b u
          (part_allows_all nodes globals types part_binders.all part.nodes p posed (0 + before term.tree) (is_part.all (0 + before term.tree) (at_top refl)) [] states are_around
          known over here 0 term.tree refl placed known_here allow (λ i there. (is_part.only i there).1) solved is_solved closed b is_b)
          is_u derives)
          (below c is_c)

      pub whole_ready : (pairs : List StatePair) → AreMet (solved_scheme solved (root_in p (0 + before term.tree)) (around_states p part_binders.around)) special pairs
          → IsPartReady nodes globals types (0 + before term.tree) part.nodes part_binders p special pairs
      whole_ready pairs met =
          part_ready nodes globals types let_scope count firsts.needs part part_binders are 0 term.tree numbers is_part around p posed solved is_solved closed free special is single
          (λ x there. absurd (none_around x there)) does pairs met (tree_nodes nodes term.tree term.nodes_are)
