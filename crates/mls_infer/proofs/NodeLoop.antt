-- One turn of the loop over the nodes, as the program does it.
--     each_tree              the nodes are those of one tree
--     can_step, stops_here, goes_further
--     infers_whole           what is left at the end
use Rattle.std.proofs.Common.{◌≡◌, ℕ, zero, suc, ◌+◌, ◌<◌, ◌≤◌, List, [], ◌∷◌, ◌++◌, length, drop, get_or, refl, sym, ap, ◌∙◌, subst, arith, length-append, Some, slice_get}
use Rattle.std.specs.BTreeMap.{BTreeMap, get}
use Rattle.std.specs.Ordering.{nat_cmp}
use Rattle.std.proofs.Math.Seq.{drop-cons}
use Rattle.std.proofs.lemmas.List.{length-map}
use Rattle.mls_automaton.specs.declared.scheme.Scheme.{Scheme}
use Rattle.mls_automaton.specs.Schemes.{IsScheme, IsSchemeOf}
use Rattle.mls_book.specs.Predicates.{bot}
use Rattle.mls_book.specs.Schemes as book
use Rattle.mls_term.specs.declared.term.TermNode.{TermNode}
use Rattle.mls_term.specs.Terms.{TermTree, before, postorder}
use Rattle.mls_term.specs.Derivations.{IsBest}
use Rattle.mls_term.specs.WellFormed.{IsScoped, IsTerm, IsFirstNone}
use Rattle.mls_term.proofs.TreesOfTerms.{one_term_tree}
use Rattle.mls_typing.specs.InferenceLaws.{at_start}
use Rattle.mls_typing.proofs.PartNodes.{length-postorder}
use Rattle.mls_typing.proofs.Rows.{both_ways}
use Rattle.mls_typetext.specs.declared.scheme.Names.{Names}
use Rattle.mls_typetext.specs.Schemes.{scheme_of}
use Rattle.mls_infer.specs.declared.fault.SiteKind.{SiteKind}
use Rattle.mls_infer.specs.Finished.{Finished, Has}
use Rattle.mls_infer.specs.Constraints.{no_goals}
use Rattle.mls_infer.specs.Finishing.{Scope, CanStep, GoesOnIn, IsAnswerBy, IsInferred, IsStop, KeepsBut, first_in, scope_of, without_env}
use Rattle.mls_infer.specs.Forms.{children}
use Rattle.mls_infer.specs.Inference.{AreNames, IsKindAt}
use Rattle.mls_infer.specs.Merges.{HaveSameTypes}
use Rattle.mls_infer.proofs.ConstraintRows.{nothing_in}
use Rattle.mls_infer.proofs.FirstParts.{firsts_are}
use Rattle.mls_infer.proofs.KnownSchemes.{names_are}
use Rattle.mls_infer.proofs.Going.{read_alike}
use Rattle.mls_infer.proofs.Merges.{types_trans}
use Rattle.mls_infer.proofs.Models.{EachFound}
use Rattle.mls_infer.proofs.Reading.{read_as}
use Rattle.mls_infer.proofs.Told.{cleared, cleared_other, cleared_size, get_end}
use Rattle.mls_infer.proofs.WholeTerms.{starts, types_same}

-- before the end of a list
get_before : {X : Type 0} (xs : List X) (x : X) (k : ℕ) → k < length xs → slice_get (xs ++ x ∷ []) k ≡ slice_get xs k
get_before [] x k low = absurd (omega arith)
get_before (y ∷ xs) x zero low = refl
get_before (y ∷ xs) x (suc k) low = get_before xs x k (omega arith)

-- the loop goes on at the nodes from this number on, whatever tree they are of
abbrev pub GoesFrom : Scope → List TermNode → ℕ → Finished → Type 0
GoesFrom scope nodes i done = (t : TermTree) → nodes ≡ postorder 0 t → GoesOnIn scope t (drop i nodes) done

pub each_tree : (scope : Scope) (nodes : List TermNode) → (t : TermTree) × (nodes ≡ postorder 0 t) × GoesOnIn scope t nodes [] → GoesFrom scope nodes 0 []
each_tree scope nodes one t is =
    let same : one.0 ≡ t = one_term_tree one.0 t (sym one.1 ∙ is) in
    let P : TermTree → Type 0 = λ t. GoesOnIn scope t nodes [] in
    subst P same one.2

module _ (scope : Scope) (nodes : List TermNode) (i : ℕ) (done : Finished) (goes : GoesFrom scope nodes i done) where
  module _ (low : i < length nodes) (node : TermNode) (is : get_or nodes i node ≡ node) where
    at_node : (t : TermTree) → nodes ≡ postorder 0 t → GoesOnIn scope t (node ∷ drop (suc i) nodes) done
    at_node t nodes_are =
        let split : drop i nodes ≡ node ∷ drop (suc i) nodes = drop-cons nodes i node low ∙ ap (λ x. x ∷ drop (suc i) nodes) is in
        let P : List TermNode → Type 0 = λ xs. GoesOnIn scope t xs done in
        subst P split (goes t nodes_are)

    pub can_step : (t : TermTree) × (nodes ≡ postorder 0 t) → CanStep scope node.form done
    can_step one = (at_node one.0 one.1).0

    pub stops_here : (m : SiteKind) → IsStop node.form done m → (t : TermTree) → nodes ≡ postorder 0 t → IsFirstNone scope.globals t (length done) × IsKindAt scope.globals t (length done) m
    stops_here m stop t nodes_are = (at_node t nodes_are).1 m stop

    pub goes_further : (s : Scheme) → IsAnswerBy scope node.form done s → GoesFrom scope nodes (suc i) (cleared (children node.form) done ++ Some s ∷ [])
    goes_further s answer t nodes_are =
        let mid : Finished = cleared (children node.form) done in
        let size : length mid ≡ length done = cleared_size (children node.form) done in
        let P : ℕ → Type 0 = λ k. Has (mid ++ Some s ∷ []) k s in
        (at_node t nodes_are).2 (mid ++ Some s ∷ []) s
        (record {
          answer = answer.answer;
          states = answer.states;
          longer = let both : length (mid ++ Some s ∷ []) ≡ length mid + 1 = length-append mid (Some s ∷ []) in omega arith;
          added = subst P size (get_end mid (Some s));
          kept = λ j low' out. get_before mid (Some s) j (omega arith) ∙ cleared_other (children node.form) done j out;
        })

  -- behind the last node
  pub infers_whole : length nodes ≤ i → (t : TermTree) → nodes ≡ postorder 0 t → IsInferred scope.globals t done
  infers_whole past t nodes_are =
      let P : List TermNode → Type 0 = λ xs. GoesOnIn scope t xs done in
      subst P (drop_past nodes i past) (goes t nodes_are)
    where
      drop_past : (xs : List TermNode) (i : ℕ) → length xs ≤ i → drop i xs ≡ []
      drop_past [] zero past = refl
      drop_past [] (suc i) past = refl
      drop_past (x ∷ xs) zero past = absurd (omega arith)
      drop_past (x ∷ xs) (suc i) past = drop_past xs i (omega arith)

-- the loop over a whole term
module _ (names : Names) (firsts : BTreeMap ℕ ℕ) (nodes : List TermNode) (binders lets : ℕ) (are : AreNames names) (it : IsTerm (length names.schemes) nodes binders lets) where
  pub begins : ((k : ℕ) → get nat_cmp firsts k ≡ first_in nodes k) → (t : TermTree) × (nodes ≡ postorder 0 t) × GoesOnIn (scope_of names firsts) t nodes []
  begins tells =
      let scope : Scope = scope_of names firsts in
      let P : List TermNode → Type 0 = λ xs. GoesOnIn scope it.tree xs [] in
      let N : ℕ → Type 0 = λ n. IsScoped [] [] n it.tree in (
        it.tree,
        it.nodes_are,
        subst P (sym it.nodes_are)
            (starts scope it.tree (λ g u e. (names_are names.schemes are g u e).0) (λ g u e. (names_are names.schemes are g u e).1)
            (subst N (sym (length-map names.schemes scheme_of)) it.scoped)
            (firsts_are it.tree lets (get nat_cmp firsts) it.let_numbers (λ k. tells k ∙ ap (λ xs. first_in xs k) it.nodes_are))),
      )

-- the last node of a term is that of the root
pub last_node : (nodes : List TermNode) (t : TermTree) → nodes ≡ postorder 0 t → length nodes ≡ suc (before t)
last_node nodes t nodes_are = ap length nodes_are ∙ length-postorder t 0

-- without their environments schemes with the same types have the same types
pub same_closed : (s t : Scheme) → HaveSameTypes (no_goals s) (no_goals t) → HaveSameTypes (no_goals (without_env s)) (no_goals (without_env t))
same_closed s t same types f =
    let one = types_same types f s in
    both_ways (one.1, one.0) (both_ways (same (λ x. bot) f) (types_same types f t))

-- a scheme with the types of that which is known at the end, without its environment, is a most general one
pub whole_answer : (globals : List book.Scheme) (t : TermTree) (told known : Finished) → IsInferred globals t told → KeepsBut [] told known → (r : Scheme) → IsScheme r → r.env ≡ []
    → ((s : Scheme) → Has known (before t) s → HaveSameTypes (no_goals (without_env s)) (no_goals r)) → (u : book.Scheme) → IsSchemeOf r u → IsBest (at_start globals) t u
whole_answer globals t told known it keeps r is no_env same u is_u =
    let s = keeps.kept (before t) it.scheme (λ none. nothing_in (before t) none) it.there in
    let each : EachFound r.env = subst EachFound (sym no_env) (λ entry inside. absurd (nothing_in entry inside)) in
    it.best u
    (read_alike (without_env it.scheme) r u
    (types_trans (no_goals (without_env it.scheme)) (no_goals (without_env s.0)) (no_goals r) (same_closed it.scheme s.0 s.2) (same s.0 s.1))
    (read_as r is each u is_u))

-- the scheme of the root is known then
pub whole_known : (globals : List book.Scheme) (t : TermTree) (told known : Finished) → IsInferred globals t told → KeepsBut [] told known → (s : Scheme) × Has known (before t) s
whole_known globals t told known it keeps = let s = keeps.kept (before t) it.scheme (λ none. nothing_in (before t) none) it.there in (s.0, s.1)
