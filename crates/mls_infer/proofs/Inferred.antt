-- Inference node by node, over automata: what a loop over the nodes keeps of each finished part, and what it may do at the next node.
--     Inferred                    a finished part: its automaton, the scheme that is read from it, and that inference answers this scheme
--     inferred_step, inferred_let     the next node, where its constraint has a solution
--     inferred_none, part_none, second_none     where inference stops
use Rattle.std.proofs.Common.{◌≡◌, ℕ, suc, ◌+◌, false, List, [], ◌∷◌, ◌++◌, refl, sym, subst}
use Rattle.mls_book.specs.Schemes as book
use Rattle.mls_automaton.specs.declared.scheme.Scheme.{Scheme}
use Rattle.mls_term.specs.Terms.{TermTree, local, before}
use Rattle.mls_term.specs.Derivations.{Known, with_let}
use Rattle.mls_term.specs.WellFormed.{early_parts}
use Rattle.mls_infer.specs.Constraints.{Constraint, HasStates, let_constraint}
use Rattle.mls_typing.specs.Runs.{is_let, best, none, Infers, solved, unsolved, part_has_none, let_solved, second_has_none, AllInfer, no_part, a_part, OneHasNone, here, later}
use Rattle.mls_infer.specs.Steps.{IsReadAs, IsSolution, HasNoTypes, IsConstraintOf}
use Rattle.mls_infer.proofs.SideBySide.{AllHaveStates}
use Rattle.mls_infer.proofs.Stepping.{AllReadAs, step_solves, step_unsolvable, let_solves}

-- a finished part
pub record Inferred (known : Known) (n : ℕ) (t : TermTree) : Type 0 where
  pub automaton : Scheme
  pub scheme : book.Scheme
  pub states : HasStates automaton
  pub read : IsReadAs automaton scheme
  pub infers : Infers known n t (best scheme)

abbrev pub AllInferred : Known → List (ℕ × TermTree) → Type 0
AllInferred known [] = Unit {0}
AllInferred known (part ∷ parts) = Inferred known part.0 part.1 × AllInferred known parts

-- their automata and their schemes, in order
module _ (known : Known) where
  abbrev pub automata_of : (parts : List (ℕ × TermTree)) → AllInferred known parts → List Scheme
  automata_of [] all = []
  automata_of (part ∷ parts) all = all.0.automaton ∷ automata_of parts all.1

  abbrev pub schemes_of : (parts : List (ℕ × TermTree)) → AllInferred known parts → List book.Scheme
  schemes_of [] all = []
  schemes_of (part ∷ parts) all = all.0.scheme ∷ schemes_of parts all.1

  pub all_states : (parts : List (ℕ × TermTree)) (all : AllInferred known parts) → AllHaveStates (automata_of parts all)
  all_states [] all = tt
  all_states (part ∷ parts) all = (all.0.states, all_states parts all.1)

  pub all_read : (parts : List (ℕ × TermTree)) (all : AllInferred known parts) → AllReadAs (automata_of parts all) (schemes_of parts all)
  all_read [] all = tt
  all_read (part ∷ parts) all = (all.0.read, all_read parts all.1)

  pub all_infer : (parts : List (ℕ × TermTree)) (all : AllInferred known parts) → AllInfer known parts (schemes_of parts all)
  all_infer [] all = no_part refl refl
  all_infer (part ∷ parts) all = a_part part.0 part.1 parts all.0.scheme (schemes_of parts all.1) refl refl all.0.infers (all_infer parts all.1)

  -- the next node, over its finished parts
  module _ (n : ℕ) (t : TermTree) (plain : is_let t ≡ false) (all : AllInferred known (early_parts n t)) (c : Constraint) (is : IsConstraintOf known t (automata_of (early_parts n t) all) c) where
    abbrev automata : List Scheme
    automata = automata_of (early_parts n t) all

    abbrev schemes : List book.Scheme
    schemes = schemes_of (early_parts n t) all

    abbrev pub inferred_step : (s : Scheme) (u : book.Scheme) → IsSolution c s → IsReadAs s u → Inferred known n t
    inferred_step s u solution read = record {
      automaton = s;
      scheme = u;
      states = solution.states;
      read = read;
      infers =
          solved schemes u plain (all_infer (early_parts n t) all)
          (step_solves known t automata schemes c (all_states (early_parts n t) all) (all_read (early_parts n t) all) is s u solution read) refl;
    }

    -- where the goals clash, inference stops at this node
    pub inferred_none : HasNoTypes c → Infers known n t (none (n + before t))
    inferred_none no_types =
        unsolved schemes plain (all_infer (early_parts n t) all)
        (step_unsolvable known t automata schemes c (all_states (early_parts n t) all) (all_read (early_parts n t) all) is no_types) refl

  -- where it stopped at a part, behind finished ones, it has stopped at the whole
  one_none : (done : List (ℕ × TermTree)) (n : ℕ) (t : TermTree) (rest : List (ℕ × TermTree)) (i : ℕ) → AllInferred known done → Infers known n t (none i) → OneHasNone known (done ++ (n, t) ∷ rest) i
  one_none [] n t rest i all it = here n t rest refl it
  one_none (part ∷ done) n t rest i all it = later part.0 part.1 (done ++ (n, t) ∷ rest) all.0.scheme refl all.0.infers (one_none done n t rest i all.1 it)

  pub part_none : (n : ℕ) (t : TermTree) (done : List (ℕ × TermTree)) (m : ℕ) (e : TermTree) (rest : List (ℕ × TermTree)) (i : ℕ) → early_parts n t ≡ done ++ (m, e) ∷ rest → AllInferred known done → Infers known m e (none i) → Infers known n t (none i)
  part_none n t done m e rest i are all it =
      let P : List (ℕ × TermTree) → Type 0 = λ ps. OneHasNone known ps i in
      part_has_none i (subst P (sym are) (one_none done m e rest i all it)) refl

  -- a let, whose second part was inferred with the scheme of the first
  module _ (n at k : ℕ) (e e' : TermTree) (first : Inferred known n e) where
    abbrev pub inferred_let : (second : Inferred (with_let known k first.scheme) (n + suc (before e)) e') (s : Scheme) (u : book.Scheme) → IsSolution (let_constraint first.automaton second.automaton) s → IsReadAs s u → Inferred known n (local at k e e')
    inferred_let second s u solution read = record {
      automaton = s;
      scheme = u;
      states = solution.states;
      read = read;
      infers =
          let_solved at k e e' first.scheme second.scheme u refl first.infers second.infers
          (let_solves first.automaton second.automaton first.scheme second.scheme first.states second.states first.read second.read s u solution read) refl;
    }

    pub second_none : (i : ℕ) → Infers (with_let known k first.scheme) (n + suc (before e)) e' (none i) → Infers known n (local at k e e') (none i)
    second_none i it = second_has_none at k e e' first.scheme i refl first.infers it refl
