-- The loop over the nodes goes on to the root of each expression: whatever schemes its steps answer, the expression is inferred then, or
-- inference stopped at one of its nodes.
--     Done, Ready            what stands where the loop has come to
--     KindIn, KindAmong      the kind of a node of a part, or of one of several parts
--     node_goes              over the node of an expression that is no let and no known name
--     let_goes, inner_goes, global_goes
use Rattle.std.proofs.Common.{◌≡◌, ◌≢◌, ℕ, suc, ◌+◌, ◌<◌, ◌≤◌, false, List, [], ◌∷◌, length, map, All, Contains, refl, sym, ◌∙◌, subst, arith, Some, slice_get}
use Rattle.std.specs.List.{AllPairs}
use Rattle.std.proofs.lemmas.List.Elements.{All-cons}
use Rattle.std.proofs.lemmas.List.Kept.{AllPairs-cons}
use Rattle.mls_book.specs.Schemes as book
use Rattle.mls_automaton.specs.declared.scheme.Scheme.{Scheme}
use Rattle.mls_automaton.proofs.BooksExist.{scheme_exists}
use Rattle.mls_term.specs.declared.term.TermForm.{TermForm}
use Rattle.mls_term.specs.declared.term.TermForm.TheVariants as form
use Rattle.mls_term.specs.declared.term.TermNode.{TermNode}
use Rattle.mls_term.specs.Terms.{TermTree, local, before}
use Rattle.mls_term.specs.Derivations.{Known, with_let}
use Rattle.mls_term.specs.WellFormed.{early_parts, IsPartOf, in_part, in_second}
use Rattle.mls_term.specs.TypingLaws.{AreSchemes}
use Rattle.mls_term.proofs.Metatheory.{AreSchemes-let}
use Rattle.mls_typing.specs.Runs.{is_let, best, none, Infers}
use Rattle.mls_typing.proofs.Inference.{AreInTurn, parts_in_turn, in_turn_le, infers_right}
use Rattle.mls_infer.specs.declared.fault.SiteKind.{SiteKind}
use Rattle.mls_typing.proofs.Rows.{both_ways}
use Rattle.mls_infer.specs.Constraints.{Constraint, HasStates, no_goals}
use Rattle.mls_infer.specs.Merges.{AreAlike, AreMergedSchemes, HaveSameTypes}
use Rattle.mls_infer.specs.Inference.{AreBestFor, IsKindAt}
use Rattle.mls_infer.specs.Steps.{IsReadAs, IsSolution, IsConstraintOf}
use Rattle.mls_infer.specs.Finished.{Finished, Has, HasEach}
use Rattle.mls_infer.specs.Finishing.{Scope, HasConstraint, HasParts, CanStep, is_copied, is_read, IsAnswer, is_named, is_solved, IsStep, IsStop, GoesOn}
use Rattle.mls_infer.specs.Forms.{children, IsBuilt, IsPosed}
use Rattle.mls_infer.proofs.Inferred.{Inferred, AllInferred, all_states, automata_of, inferred_step, inferred_none}
use Rattle.mls_infer.proofs.MergedSchemes.{merged_exists}
use Rattle.mls_infer.proofs.NodeKinds.{kind_merged}
use Rattle.mls_infer.proofs.OneState.{rising_found}
use Rattle.mls_infer.proofs.Reading.{read_as}

-- schemes with the same types are read alike
pub read_alike : (s t : Scheme) (u : book.Scheme) → HaveSameTypes (no_goals s) (no_goals t) → IsReadAs t u → IsReadAs s u
read_alike s t u same read = record { is = read.is; just = λ types f. both_ways (same types f) (read.just types f) }

pub types_back : (c d : Constraint) → HaveSameTypes c d → HaveSameTypes d c
types_back c d same types f = let it = same types f in (it.1, it.0)

-- each automaton is read as a scheme
pub read_scheme : (s : Scheme) → HasStates s → (u : book.Scheme) × IsReadAs s u
read_scheme s states =
    let it = merged_exists s states in
    let one = scheme_exists it.0 it.1.is in
    (one.0, read_alike s it.0 one.0 it.1.types (read_as it.0 it.1.is (rising_found it.0.env it.1.rise) one.0 one.1))

-- wherever the expression is a part of a whole, this is the kind of a node of the whole
abbrev pub KindIn : Known → ℕ → TermTree → ℕ → SiteKind → Type 0
KindIn known n t i m = (globals : List book.Scheme) (whole : TermTree) → AreSchemes known → IsPartOf globals whole n t known → IsKindAt globals whole i m

-- these are parts of a whole
abbrev pub ArePartsOf : List book.Scheme → TermTree → List (ℕ × TermTree) → Known → Type 0
ArePartsOf globals whole parts known = (n : ℕ) (t : TermTree) → Contains parts (n, t) → IsPartOf globals whole n t known

-- wherever these are parts of a whole, this is the kind of a node of the whole
abbrev pub KindAmong : Known → List (ℕ × TermTree) → ℕ → SiteKind → Type 0
KindAmong known parts i m = (globals : List book.Scheme) (whole : TermTree) → AreSchemes known → ArePartsOf globals whole parts known → IsKindAt globals whole i m

first_part : (globals : List book.Scheme) (whole : TermTree) (part : ℕ × TermTree) (rest : List (ℕ × TermTree)) (known : Known) → ArePartsOf globals whole (part ∷ rest) known → IsPartOf globals whole part.0 part.1 known
first_part globals whole part rest known are = are part.0 part.1 (0, omega arith, refl)

other_parts : (globals : List book.Scheme) (whole : TermTree) (part : ℕ × TermTree) (rest : List (ℕ × TermTree)) (known : Known) → ArePartsOf globals whole (part ∷ rest) known → ArePartsOf globals whole rest known
other_parts globals whole part rest known are n t it = are n t (suc it.0, (let low : it.0 < length rest = it.1 in omega arith), it.2)

module _ (known : Known) (i : ℕ) (m : SiteKind) where
  pub kind_of_parts : (n : ℕ) (t : TermTree) → KindAmong known (early_parts n t) i m → KindIn known n t i m
  kind_of_parts n t kind globals whole all part = kind globals whole all (λ k e inside. in_part n t part inside)

  pub kind_here : (n : ℕ) (t : TermTree) (rest : List (ℕ × TermTree)) → KindIn known n t i m → KindAmong known ((n, t) ∷ rest) i m
  kind_here n t rest kind globals whole all are = kind globals whole all (first_part globals whole (n, t) rest known are)

  pub kind_later : (part : ℕ × TermTree) (rest : List (ℕ × TermTree)) → KindAmong known rest i m → KindAmong known (part ∷ rest) i m
  kind_later part rest kind globals whole all are = kind globals whole all (other_parts globals whole part rest known are)

  pub kind_second : (n at k : ℕ) (e e' : TermTree) (first : Inferred known n e) → KindIn (with_let known k first.scheme) (n + suc (before e)) e' i m → KindIn known n (local at k e e') i m
  kind_second n at k e e' first kind globals whole all part =
      let it = infers_right globals whole known n e (best first.scheme) all (in_part n (local at k e e') part (0, omega arith, refl)) first.infers in
      kind globals whole (AreSchemes-let known k first.scheme all first.read.is) (in_second n known at k e first.scheme part refl it.1 refl)

-- a finished part, whose automaton is there
pub record Done (known : Known) (n : ℕ) (t : TermTree) (done : Finished) : Type 0 where
  pub part : Inferred known n t
  pub there : Has done (n + before t) part.automaton

abbrev pub AllDone : Known → List (ℕ × TermTree) → Finished → Type 0
AllDone known [] done = Unit {0}
AllDone known (part ∷ parts) done = Done known part.0 part.1 done × AllDone known parts done

-- the first n are the same
abbrev pub Agree : ℕ → Finished → Finished → Type 0
Agree n old new = (j : ℕ) → j < n → slice_get new j ≡ slice_get old j

pub agree_trans : (n m : ℕ) (a b c : Finished) → n ≤ m → Agree n a b → Agree m b c → Agree n a c
agree_trans n m a b c le first second j low = second j (omega arith) ∙ first j low

pub agree_self : (n : ℕ) (a : Finished) → Agree n a a
agree_self n a j low = refl

abbrev pub done_later : (known : Known) (n m : ℕ) (t : TermTree) (old new : Finished) → n + before t < m → Agree m old new → Done known n t old → Done known n t new
done_later known n m t old new low agree it = record { part = it.part; there = agree (n + before t) low ∙ it.there }

abbrev pub root_of : ℕ × TermTree → ℕ
root_of part = part.0 + before part.1

abbrev pub roots : List (ℕ × TermTree) → List ℕ
roots parts = map root_of parts

-- the roots of parts that stand in turn rise
pub roots_between : (c a b : ℕ) (parts : List (ℕ × TermTree)) → AreInTurn a parts b → c ≤ a → All (λ j. (c ≤ j) × (j < b)) (roots parts)
roots_between c a b [] turn le = λ i d low. absurd (omega arith)
roots_between c a b (part ∷ rest) turn le =
    let at : part.0 ≡ a = turn.0 in
    let high : part.0 + suc (before part.1) ≤ b = in_turn_le (part.0 + suc (before part.1)) rest b turn.1 in
    All-cons (λ j. (c ≤ j) × (j < b)) (root_of part) (roots rest) (omega arith, omega arith) (roots_between c (part.0 + suc (before part.1)) b rest turn.1 (omega arith))

pub roots_distinct : (a b : ℕ) (parts : List (ℕ × TermTree)) → AreInTurn a parts b → AllPairs (λ i j. i ≢ j) (roots parts)
roots_distinct a b [] turn = λ i j d less low. absurd (omega arith)
roots_distinct a b (part ∷ rest) turn =
    let next : ℕ = part.0 + suc (before part.1) in
    let above : All (λ j. (next ≤ j) × (j < b)) (roots rest) = roots_between next next b rest turn.1 (omega arith) in
    AllPairs-cons (λ i j. i ≢ j) (root_of part) (roots rest)
    (λ k d low same. let le : next ≤ _ = (above k d low).0 in absurd (omega arith))
    (roots_distinct next b rest turn.1)

-- the schemes at the same numbers are the same
pub one_each : (done : Finished) (is : List ℕ) (ss ts : List Scheme) → HasEach done is ss → HasEach done is ts → ss ≡ ts
one_each done [] [] [] a b = refl
one_each done [] [] (t ∷ ts) a b = absurd b
one_each done [] (s ∷ ss) ts a b = absurd a
one_each done (i ∷ is) [] ts a b = absurd a
one_each done (i ∷ is) (s ∷ ss) [] a b = absurd b
one_each done (i ∷ is) (s ∷ ss) (t ∷ ts) a b =
    let both : Some (Some s) ≡ Some (Some t) = sym a.0 ∙ b.0 in
    let same : s ≡ t = cc in
    let others : ss ≡ ts = one_each done is ss ts a.1 b.1 in
    λ k. same k ∷ others k

module _ (known : Known) (done : Finished) where
  abbrev pub inferred_all : (parts : List (ℕ × TermTree)) → AllDone known parts done → AllInferred known parts
  inferred_all [] all = tt
  inferred_all (part ∷ parts) all = (all.0.part, inferred_all parts all.1)

  has_each : (parts : List (ℕ × TermTree)) (all : AllDone known parts done) → HasEach done (roots parts) (automata_of known parts (inferred_all parts all))
  has_each [] all = tt
  has_each (part ∷ parts) all = (all.0.there, has_each parts all.1)

module _ (known : Known) where
  -- a part whose automaton is another with the same types
  abbrev pub alike_part : (n : ℕ) (t : TermTree) (part : Inferred known n t) (s : Scheme) → HasStates s → HaveSameTypes (no_goals part.automaton) (no_goals s) → Inferred known n t
  alike_part n t part s states same = record {
    automaton = s;
    scheme = part.scheme;
    states = states;
    read = read_alike s part.automaton part.scheme (types_back (no_goals part.automaton) (no_goals s) same) part.read;
    infers = part.infers;
  }

  retaken : (parts : List (ℕ × TermTree)) (all : AllInferred known parts) (ss : List Scheme) → AreAlike (automata_of known parts all) ss → (others : AllInferred known parts) × (automata_of known parts others ≡ ss)
  retaken [] all [] alike = (tt, refl)
  retaken [] all (s ∷ ss) alike = absurd alike
  retaken (part ∷ parts) all [] alike = absurd alike
  retaken (part ∷ parts) all (s ∷ ss) alike =
      let later = retaken parts all.1 ss alike.1 in
      ((alike_part part.0 part.1 all.0 s alike.0.0 alike.0.1, later.0), λ k. s ∷ later.1 k)

  -- finished parts have most general schemes, with one state for each binder
  pub parts_best : (globals : List book.Scheme) (whole : TermTree) → AreSchemes known → (parts : List (ℕ × TermTree)) (all : AllInferred known parts) → ArePartsOf globals whole parts known
      → (ms : List Scheme) × AreMergedSchemes (automata_of known parts all) ms × AreBestFor known parts ms
  parts_best globals whole schemes [] all are = ([], tt, tt)
  parts_best globals whole schemes (part ∷ parts) all are =
      let it = infers_right globals whole known part.0 part.1 (best all.0.scheme) schemes (first_part globals whole part parts known are) all.0.infers in
      let m = merged_exists all.0.automaton all.0.states in
      let later = parts_best globals whole schemes parts all.1 (other_parts globals whole part parts known are) in
      let read : IsReadAs m.0 all.0.scheme = read_alike m.0 all.0.automaton all.0.scheme (types_back (no_goals all.0.automaton) (no_goals m.0) m.1.types) all.0.read in
      (m.0 ∷ later.0, (m.1, later.1), ((m.1.is, all.0.scheme, read, it.1), later.2))

module _ (scope : Scope) (Fails : ℕ → SiteKind → Type 0) (Ends : Finished → Type 0) where
  -- what fails at a part, fails
  abbrev pub Failing : Known → ℕ → TermTree → Type 0
  Failing known n t = (i : ℕ) (m : SiteKind) → KindIn known n t i m → Infers known n t (none i) → Fails i m

  -- from the end of a part on, the loop goes on with the nodes that are left
  abbrev pub Going : Known → ℕ → TermTree → List TermNode → Finished → Type 0
  Going known n t rest done =
      (new : Finished) → Agree n done new → length new ≡ n + suc (before t) → Done known n t new → GoesOn scope Fails Ends rest new

  -- the node of an expression over its finished parts
  module _ (known : Known) (n : ℕ) (t : TermTree) (plain : is_let t ≡ false) (done : Finished) (all : AllDone known (early_parts n t) done) (node : TermNode) (rest : List TermNode) (size : length done ≡ n + before t)
      (children_are : children node.form ≡ roots (early_parts n t)) (built : IsBuilt node.form)
      (posed : (ss : List Scheme) (c : Constraint) → IsPosed node.form ss c → IsConstraintOf known t ss c)
      (can : HasParts node.form done → CanStep scope node.form done)
      (failing : Failing known n t) (going : Going known n t rest done) where
    abbrev parts : AllInferred known (early_parts n t)
    parts = inferred_all known done (early_parts n t) all

    abbrev schemes : List Scheme
    schemes = automata_of known (early_parts n t) parts

    there : HasEach done (children node.form) schemes
    there = let P : List ℕ → Type 0 = λ is. HasEach done is schemes in subst P (sym children_are) (has_each known done (early_parts n t) all)

    all_with_states : (ps : List (ℕ × TermTree)) (them : AllInferred known ps) → All HasStates (automata_of known ps them)
    all_with_states [] them = λ i d low. absurd (omega arith)
    all_with_states (part ∷ ps) them = All-cons HasStates them.0.automaton (automata_of known ps them.1) them.0.states (all_with_states ps them.1)

    has_parts : HasParts node.form done
    has_parts = record {
      schemes = schemes;
      each = there;
      are = all_with_states (early_parts n t) parts;
      distinct = let P : List ℕ → Type 0 = AllPairs (λ i j. i ≢ j) in subst P (sym children_are) (roots_distinct n (n + before t) (early_parts n t) (parts_in_turn n t plain));
      built = built;
    }

    -- the constraint is posed over automata of the parts
    of_parts : (c : Constraint) → HasConstraint node.form done c → (others : AllInferred known (early_parts n t)) × IsPosed node.form (automata_of known (early_parts n t) others) c
    of_parts c has =
        let alike : AreAlike schemes has.taken = subst (λ (ss : List Scheme). AreAlike ss has.taken) (one_each done (children node.form) has.schemes schemes has.each there) has.alike in
        let it = retaken known (early_parts n t) parts has.taken alike in
        (it.0, subst (λ (ss : List Scheme). IsPosed node.form ss c) (sym it.1) has.is)

    -- no node below the first of the expression is a part of it
    no_child : (j : ℕ) → j < n → Contains (children node.form) j → ⊥
    no_child j low inside =
        let P : List ℕ → Type 0 = λ is. Contains is j in
        let it : Contains (roots (early_parts n t)) j = subst P children_are inside in
        let Q : ℕ → Type 0 = λ j. (n ≤ j) × (j < n + before t) in
        let bounds : (n ≤ j) × (j < n + before t) = subst Q it.2 (roots_between n n (n + before t) (early_parts n t) (parts_in_turn n t plain) (omega arith) it.0 j it.1) in
        let le : n ≤ j = bounds.0 in
        absurd (omega arith)

    stops : (m : SiteKind) → IsStop node.form done m → Fails (length done) m
    stops m stop =
        let it = of_parts stop.constraint stop.is in
        let over : List Scheme = automata_of known (early_parts n t) it.0 in
        let P : ℕ → Type 0 = λ i. Fails i m in
        subst P (sym size)
        (failing (n + before t) m
        (λ globals whole known_are part.
        let merged = parts_best known globals whole known_are (early_parts n t) it.0 (λ k e inside. in_part n t part inside) in
        let kind = kind_merged m node.form over merged.0 stop.constraint (all_states known (early_parts n t) it.0) merged.1 it.1 stop.first in
        record {
          n = n;
          t = t;
          known = known;
          part = part;
          number_is = refl;
          schemes = merged.0;
          best = merged.2;
          constraint = kind.0;
          constraint_is = posed merged.0 kind.0 kind.1;
          first = kind.2;
        })
        (inferred_none known n t plain it.0 stop.constraint (posed over stop.constraint it.1) stop.none))

    not_inner : (k : ℕ) → node.form ≡ form.Inner k → ⊥
    not_inner k same = let B : TermForm → Type 0 = IsBuilt in subst B same built

    not_global : (g : ℕ) → node.form ≡ form.Global g → ⊥
    not_global g same = let B : TermForm → Type 0 = IsBuilt in subst B same built

    solution_of : (s : Scheme) → IsAnswer scope node.form done s → (c : Constraint) × HasConstraint node.form done c × IsSolution c s
    solution_of s (is_named t (is_copied k i same first is_there) alike) = absurd (not_inner k same)
    solution_of s (is_named t (is_read g u same known_is is) alike) = absurd (not_global g same)
    solution_of s (is_solved c has solution) = (c, has, solution)

    goes : (new : Finished) (s : Scheme) → IsStep scope node.form done new s → GoesOn scope Fails Ends rest new
    goes new s step =
        let it = solution_of s step.answer in
        let over = of_parts it.0 it.1 in
        let it_read = read_scheme s step.states in
        let agree : Agree n done new = λ j low. step.kept j (omega arith) (no_child j low) in
        let P : ℕ → Type 0 = λ i. Has new i s in
        going new agree (let longer : length new ≡ suc (length done) = step.longer in omega arith)
        (record {
          part = inferred_step known n t plain over.0 it.0 (posed (automata_of known (early_parts n t) over.0) it.0 over.1) s it_read.0 it.2 it_read.1;
          there = subst P size step.added;
        })

    pub node_goes : GoesOn scope Fails Ends (node ∷ rest) done
    node_goes = (can has_parts, stops, goes)
