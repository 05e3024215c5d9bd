-- Types for the parts of a term, one after another: the type of each let's first part allows all types of it, so the
-- constraints of the parts that use its name have the types of these.
--     first_allows        the type of a first part, where the lets inside it have such types
--     firsts_allow        so all lets have such types
--     typed_no_clash      where the part has a type, its constraint does not clash
--     made_first_type     the type that is made of the solved constraint of a part
--     allowed_subsumes    what allows all types of a part subsumes each derivable scheme of it
use Rattle.std.proofs.Common.{◌≡◌, ℕ, ◌+◌, List, Contains, refl, sym, ap, ◌∙◌, Option, Some, None}
use Rattle.std.specs.Prelude.{IsSome, is_some, option_map}
use Rattle.std.specs.BTreeMap.{BTreeMap}
use Rattle.std.specs.FinMap as env
use Rattle.mls_book.specs.Predicates.{Predicate}
use Rattle.mls_book.specs.Schemes as book
use Rattle.mls_book.specs.Schemes.{Subsumes}
use Rattle.mls_automaton.specs.declared.scheme.Scheme.{Scheme}
use Rattle.mls_automaton.specs.Automata.{Automaton}
use Rattle.mls_automaton.specs.Models.{IsClosed}
use Rattle.mls_automaton.specs.Schemes.{state_of, IsScheme, IsSchemeOf}
use Rattle.mls_automaton.proofs.BooksExist.{scheme_exists}
use Rattle.mls_solver.specs.Clashes.{HasNoClash}
use Rattle.mls_solver.specs.Relations.{IsGoal, IsRelated}
use Rattle.mls_solver.specs.Solved.{IsSolved}
use Rattle.mls_solver.proofs.SolvedInstances.{over_solved}
use Rattle.mls_subsume.specs.Verdicts.{DoesSubsume}
use Rattle.mls_term.specs.declared.term.TermNode.{TermNode}
use Rattle.mls_term.specs.Terms.{TermTree, local, before}
use Rattle.mls_term.specs.Derivations.{Known, Derives}
use Rattle.mls_typing.specs.Typed.{Types, IsTyped, needs_of, type_of}
use Rattle.mls_typing.proofs.Instances.{Allows-subsumes, IsTyped-derived}
use Rattle.mls_layout.specs.PosedNodes.{IsNamed}
use Rattle.mls_allowed.specs.FirstTypes.{AreLetsIn, HasFirstType, HaveFirstTypes}
use Rattle.mls_parts.specs.declared.pose.Posing.{Posing}
use Rattle.mls_parts.specs.NodeTypes.{AllowsAll, IsKnownHere, IsNodeOf, LetsAllow}
use Rattle.mls_parts.specs.NumberedNodes.{IsPlaced}
use Rattle.mls_allowed.specs.PartTypes.{AreAround, part_scheme}
use Rattle.mls_parts.specs.PosedModels.{AreOver}
use Rattle.mls_parts.specs.PosedParts.{IsPartPosed}
use Rattle.mls_parts.specs.Posings.{root_in}
use Rattle.mls_parts.specs.SolvedTypes.{HasBindersOf, entries_of, solved_scheme}
use Rattle.mls_allowed.proofs.KnownHere.{allows_all_more, lets_allow}
use Rattle.mls_allowed.proofs.ModelledConstraints.{book_scheme}
use Rattle.mls_allowed.proofs.PartTypes.{are_goals, part_allows_all, part_is_scheme, part_no_clash}
use Rattle.mls_allowed.proofs.PlacedParts.{placed_first}

-- what allows all types of a part subsumes each derivable scheme of it
pub allowed_subsumes : (scope : List ℕ) (here : Known) (t : TermTree) (s u : book.Scheme) → AllowsAll scope here t s → book.IsScheme u → Derives here t u → Subsumes s u
allowed_subsumes scope here t s u it is derives = Allows-subsumes s u (it.all (needs_of u) (type_of u) (IsTyped-derived here t u is derives))

module _ (nodes : List TermNode) (known : Known) (globals lets : BTreeMap ℕ Scheme) (over : AreOver known globals lets) where
  pub first_allows : (scope : List ℕ) (here : Known) (n : ℕ) (t : TermTree) → IsPlaced nodes scope n t → IsKnownHere known scope here → LetsAllow known scope here t
      → (type : book.Scheme) → HasFirstType nodes globals lets scope n t type → AllowsAll scope here t type
  first_allows scope here n t placed known_here inside type it =
      allows_all_more scope here t it.scheme type it.is it.needs it.subsumes
      (part_allows_all nodes globals lets it.binders it.part it.posing it.posed (n + before t) it.root scope it.env it.around
      known over here n t refl placed known_here inside it.inside it.solved it.is_solved it.closed it.scheme it.is_scheme)

  -- where the constraint of a part has the type of a part, it does not clash
  pub typed_no_clash : (scope : List ℕ) (here : Known) (n : ℕ) (t : TermTree) → IsPlaced nodes scope n t → IsKnownHere known scope here → LetsAllow known scope here t
      → (type : book.Scheme) → (it : HasFirstType nodes globals lets scope n t type) → (types : Types) (f : Predicate) → IsTyped here types t f
      → HasNoClash it.posing.automaton (IsRelated it.posing.automaton (IsGoal it.posing.goals))
  typed_no_clash scope here n t placed known_here inside type it types f typed =
      part_no_clash nodes globals lets it.binders it.part it.posing it.posed (n + before t) it.root scope it.env it.around
      known over here n t refl placed known_here inside it.inside types f typed

  -- all lets of a part have types that allow all of their first parts
  pub firsts_allow : (let_scope : ℕ → List ℕ) → HaveFirstTypes nodes known globals lets let_scope → (t : TermTree) (scope : List ℕ) (here : Known) (n : ℕ) → IsPlaced nodes scope n t → AreLetsIn let_scope scope t → IsKnownHere known scope here → LetsAllow known scope here t
  firsts_allow let_scope firsts = lets_allow nodes known let_scope step
    where
      step : (scope : List ℕ) (here : Known) (n at k : ℕ) (e f : TermTree) → IsPlaced nodes scope n (local at k e f) → IsNamed let_scope scope k → IsKnownHere known scope here → LetsAllow known scope here e
          → (s : book.Scheme) × (env.get known.lets k ≡ Some s) × AllowsAll scope here e s
      step scope here n at k e f placed named known_here inside =
          let it = firsts scope n at k e f placed named in
          (it.0, it.1, first_allows scope here n e (placed_first nodes scope n at e f k placed) known_here inside it.0 it.2)

-- The type that is made of the solved constraint of a part: each book of a scheme that subsumes it, and has no binders but its own.
module _ (nodes : List TermNode) (globals lets : BTreeMap ℕ Scheme) (scope : List ℕ) (n : ℕ) (t : TermTree) (binders part : List ℕ) (p : Posing) (posed : IsPartPosed nodes globals lets binders part p) (root : Contains part (n + before t))
    (inside : (i : ℕ) → Contains part i → IsNodeOf nodes (n + before t) i) (around : List (ℕ × ℕ)) (are : AreAround p binders scope (entries_of around))
    (solved : Automaton) (is_solved : IsSolved p.automaton (IsRelated p.automaton (IsGoal p.goals)) solved) (closed : IsClosed solved) where
  abbrev general : Scheme
  general = solved_scheme solved (root_in p (n + before t)) around

  general_is : IsScheme general
  general_is =
      over_solved (part_scheme p (n + before t) (entries_of around)) (IsGoal p.goals)
      (part_is_scheme nodes globals lets binders part p posed (n + before t) root scope (entries_of around) are)
      (are_goals nodes globals lets binders part p posed (n + before t) root scope (entries_of around) are)
      solved is_solved closed

  pub made_first_type : (own : Scheme) → IsScheme own → HasBindersOf own general → DoesSubsume own general → (type : book.Scheme) → IsSchemeOf own type → HasFirstType nodes globals lets scope n t type
  made_first_type own is same does type is_book =
      let d = scheme_exists general general_is in
      record {
        binders = binders;
        part = part;
        posing = p;
        posed = posed;
        root = root;
        inside = inside;
        env = entries_of around;
        around = are;
        solved = solved;
        is_solved = is_solved;
        closed = closed;
        scheme = d.0;
        is_scheme = d.1;
        is = book_scheme own is type is_book;
        needs = λ x i e. needed x i (state_of own.env x) refl (sym (is_book.env x) ∙ e);
        subsumes = does type d.0 is_book d.1;
      }
    where
      around_there : (x : ℕ) (o : Option ℕ) → state_of (entries_of around) x ≡ o → IsSome o → Contains scope x
      around_there x None e wrong = absurd (cc)
      around_there x (Some s) e some = are.around x s e

      needed : (x i : ℕ) (o : Option ℕ) → state_of own.env x ≡ o → option_map is_book.place o ≡ Some i → Contains scope x
      needed x i None e wrong = absurd (cc)
      needed x i (Some s) e some = around_there x (state_of (entries_of around) x) refl (same x (ap is_some e))
