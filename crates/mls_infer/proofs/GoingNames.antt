-- The loop over the nodes goes on over known names and lets.
--     KnowsLet, Ready        what is known of the lets in scope
--     inner_goes, global_goes, let_goes
use Rattle.std.proofs.Common.{◌≡◌, ◌⊎◌, inl, inr, ℕ, suc, ◌+◌, ◌<◌, ◌≤◌, Bool, true, false, cond, List, [], ◌∷◌, length, Contains, refl, sym, ap, ◌∙◌, subst, arith, Some, slice_get}
use Rattle.std.specs.FinMap as finmap
use Rattle.std.specs.FinMap.{get-insert}
use Rattle.std.specs.Ordering.{nat_cmp, eq_by_cmp}
use Rattle.std.proofs.lemmas.Cmp.{nat_cmp_total}
use Rattle.std.proofs.lemmas.List.Elements.{All-cons}
use Rattle.mls_book.specs.Predicates.{bot, top}
use Rattle.mls_book.specs.Passes.{passes}
use Rattle.mls_book.specs.Schemes as book
use Rattle.mls_automaton.specs.declared.scheme.Scheme.{Scheme}
use Rattle.mls_term.specs.declared.term.TermForm.TheVariants as form
use Rattle.mls_term.specs.declared.term.TermNode.{TermNode}
use Rattle.mls_term.specs.Terms.{TermTree, local, inner, global, before}
use Rattle.mls_term.specs.Derivations.{Known, with_let}
use Rattle.mls_typing.specs.Typed.{Allows}
use Rattle.mls_typing.proofs.Contexts.{same_key}
use Rattle.mls_typing.proofs.Inference.{before_let}
use Rattle.mls_typing.proofs.Lists.{Contains-cases, nothing_in}
use Rattle.mls_typing.proofs.TypedForms.{same_self}
use Rattle.mls_infer.specs.declared.fault.SiteKind.{SiteKind}
use Rattle.mls_infer.specs.Constraints.{Constraint, HasStates, let_constraint, no_goals}
use Rattle.mls_infer.specs.Steps.{IsReadAs, IsSolution, HasNoTypes}
use Rattle.mls_infer.specs.Finished.{Finished, Has, HasEach}
use Rattle.mls_infer.specs.Finishing.{Scope, HasConstraint, is_copied, is_read, IsAnswer, is_named, is_solved, GoesOn}
use Rattle.mls_infer.specs.Forms.{IsPosed}
use Rattle.mls_infer.proofs.Inferred.{Inferred, inferred_step, inferred_let}
use Rattle.mls_infer.proofs.JoinedRows.{let_row}
use Rattle.mls_infer.specs.Merges.{AreAlike, HaveSameTypes}
use Rattle.mls_infer.proofs.Going.{alike_part, read_alike, read_scheme, types_back, Done, Agree, roots_between, roots_distinct, one_each, Going}

-- A constraint of a let has types: where its binders have none, all that it needs is there.
pub allows_top : (t : book.Scheme) → book.IsScheme t → Allows t (λ x. bot) top
allows_top t is = record {
  book = t.book;
  closed = is.book;
  reading = λ x. passes t.book t.root;
  held = λ x. (t.root, is.root, refl);
  root = λ q k. refl;
  env = λ x q k. absurd (cc);
}

let_has_types : (s s' : Scheme) (r r' : book.Scheme) → HasStates s → HasStates s' → IsReadAs s r → IsReadAs s' r' → HasNoTypes (let_constraint s s') → ⊥
let_has_types s s' r r' are are' read read' none =
    none (λ x. bot) top
    ((let_row s s' are are' (λ x. bot) top).1
    (record {
      first = (read.just (λ x. bot) top).1 (allows_top r read.is);
      second = (read'.just (λ x. bot) top).1 (allows_top r' read'.is);
    }))

-- a scheme is a solution of its own constraint
own_solution : (s : Scheme) → HasStates s → IsSolution (no_goals s) s
own_solution s states = record { states = states; just = λ types f. (λ h. h, λ h. h) }

module _ (scope : Scope) where
  -- the scheme of the first part of a let is still there
  pub record KnowsLet (known : Known) (k n : ℕ) (done : Finished) : Type 0 where
    pub root : ℕ
    pub first : scope.first_of k ≡ Some root
    pub low : root < n
    pub automaton : Scheme
    pub states : HasStates automaton
    pub there : Has done root automaton
    pub scheme : book.Scheme
    pub known_is : finmap.get known.lets k ≡ Some scheme
    pub read : IsReadAs automaton scheme

  -- so many parts are finished, and the names in scope have their schemes
  pub record Ready (lets : List ℕ) (known : Known) (n : ℕ) (done : Finished) : Type 0 where
    pub globals : known.globals ≡ scope.globals
    pub size : length done ≡ n
    pub scoped : (k : ℕ) → Contains lets k → KnowsLet known k n done

  knows_later : (known : Known) (k n m : ℕ) (old new : Finished) → n ≤ m → Agree n old new → KnowsLet known k n old → KnowsLet known k m new
  knows_later known k n m old new le agree it = record {
    root = it.root;
    first = it.first;
    low = let low : it.root < n = it.low in omega arith;
    automaton = it.automaton;
    states = it.states;
    there = agree it.root it.low ∙ it.there;
    scheme = it.scheme;
    known_is = it.known_is;
    read = it.read;
  }

  pub ready_later : (lets : List ℕ) (known : Known) (n m : ℕ) (old new : Finished) → n ≤ m → Agree n old new → length new ≡ m → Ready lets known n old → Ready lets known m new
  ready_later lets known n m old new le agree size ready = record {
    globals = ready.globals;
    size = size;
    scoped = λ k inside. knows_later known k n m old new le agree (ready.scoped k inside);
  }

  -- in the second part of a let
  module _ (lets : List ℕ) (known : Known) (n k : ℕ) (e : TermTree) (old new : Finished) (first_is : scope.first_of k ≡ Some (n + before e)) (ready : Ready lets known n old) (agree : Agree n old new) (size : length new ≡ n + suc (before e)) (first : Done known n e new) where
    abbrev inside_let : Known
    inside_let = with_let known k first.part.scheme

    by_key : (q : ℕ) (b : Bool) → eq_by_cmp nat_cmp q k ≡ b → (k ≡ q) ⊎ Contains lets q → KnowsLet inside_let q (n + suc (before e)) new
    by_key q true e' which =
        let same : q ≡ k = same_key q k e' in
        let at : finmap.get inside_let.lets q ≡ Some first.part.scheme = get-insert nat_cmp_total known.lets k first.part.scheme q ∙ ap (λ b. cond b (Some first.part.scheme) (finmap.get known.lets q)) e' in
        record {
          root = n + before e;
          first = ap scope.first_of same ∙ first_is;
          low = omega arith;
          automaton = first.part.automaton;
          states = first.part.states;
          there = first.there;
          scheme = first.part.scheme;
          known_is = at;
          read = first.part.read;
        }
    by_key q false e' (inl same) = let own : eq_by_cmp nat_cmp q k ≡ true = (λ i. eq_by_cmp nat_cmp (sym same i) k) ∙ same_self k in absurd (cc)
    by_key q false e' (inr there) =
        let it : KnowsLet known q (n + suc (before e)) new = knows_later known q n (n + suc (before e)) old new (omega arith) agree (ready.scoped q there) in
        record {
          root = it.root;
          first = it.first;
          low = it.low;
          automaton = it.automaton;
          states = it.states;
          there = it.there;
          scheme = it.scheme;
          known_is = get-insert nat_cmp_total known.lets k first.part.scheme q ∙ ap (λ b. cond b (Some first.part.scheme) (finmap.get known.lets q)) e' ∙ it.known_is;
          read = it.read;
        }

    pub ready_inside : Ready (k ∷ lets) inside_let (n + suc (before e)) new
    ready_inside = record { globals = ready.globals; size = size; scoped = λ q inside. by_key q (eq_by_cmp nat_cmp q k) refl (Contains-cases k lets q inside) }

  module _ (Fails : ℕ → SiteKind → Type 0) (Ends : Finished → Type 0) where
    -- a let-bound name
    pub inner_goes : (known : Known) (n at k : ℕ) (done : Finished) (rest : List TermNode) → length done ≡ n → KnowsLet known k n done → Going scope Fails Ends known n (inner at k) rest done → GoesOn scope Fails Ends (record { at = at; form = form.Inner k } ∷ rest) done
    unfolding before
    inner_goes known n at k done rest size it going = (
      (it.root, it.automaton, it.first, it.there, it.states),
      λ m stop. absurd stop.is.is,
      λ new s step.
          let same : HaveSameTypes (no_goals s) (no_goals it.automaton) = same_copy s it step.answer in
          let read : IsReadAs s it.scheme = read_alike s it.automaton it.scheme same it.read in
          let part : Inferred known n (inner at k) =
          inferred_step known n (inner at k) refl tt (no_goals s) (s, it.scheme, it.known_is, step.states, read, refl) s it.scheme (own_solution s step.states) read in
          let A : ℕ → Type 0 = λ i. Has new i s in
          let here : n + before (inner at k) ≡ n = omega arith in
          going new (λ j low. step.kept j (let low' : j < length done = subst (λ n. j < n) (sym size) low in low') (λ inside. nothing_in j inside))
          (let longer : length new ≡ suc (length done) = step.longer in let longer' : length new ≡ n + suc 0 = omega arith in longer')
          (record { part = part; there = subst A (size ∙ sym here) step.added }),
    )
      where
        copied_same : (s : Scheme) → (it : KnowsLet known k n done) → (j i : ℕ) → form.Inner k ≡ form.Inner j → scope.first_of j ≡ Some i → Has done i s → it.automaton ≡ s
        copied_same s it j i same first there =
            let same_let : k ≡ j = cc in
            let here : scope.first_of k ≡ Some i = ap scope.first_of same_let ∙ first in
            let both : Some i ≡ Some it.root = sym here ∙ it.first in
            let same_root : i ≡ it.root = cc in
            let schemes : Some (Some it.automaton) ≡ Some (Some s) = sym it.there ∙ (ap (slice_get done) (sym same_root) ∙ there) in
            cc

        same_copy : (s : Scheme) (it : KnowsLet known k n done) → IsAnswer scope (form.Inner k) done s → HaveSameTypes (no_goals s) (no_goals it.automaton)
        same_copy s it (is_named t (is_copied j i same first is_there) alike) =
            let P : Scheme → Type 0 = λ t. HaveSameTypes (no_goals t) (no_goals s) in
            types_back (no_goals it.automaton) (no_goals s) (subst P (sym (copied_same t it j i same first is_there)) alike)
        same_copy s it (is_named t (is_read g u same known_is is) alike) = absurd (cc)
        same_copy s it (is_solved c has solution) = absurd has.is

    -- a name of the environment
    pub global_goes : (known : Known) (n at g : ℕ) (done : Finished) (rest : List TermNode) → length done ≡ n → known.globals ≡ scope.globals → g < length scope.globals → Going scope Fails Ends known n (global at g) rest done → GoesOn scope Fails Ends (record { at = at; form = form.Global g } ∷ rest) done
    unfolding before
    global_goes known n at g done rest size globals low going = (
      low,
      λ m stop. absurd stop.is.is,
      λ new s step.
          let it = meaning_of s step.answer in
          let states : HasStates s = step.states in
          let known_is : slice_get known.globals g ≡ Some it.0 = ap (λ gs. slice_get gs g) globals ∙ it.1 in
          let part : Inferred known n (global at g) = inferred_step known n (global at g) refl tt (no_goals s) (s, it.0, known_is, states, it.2, refl) s it.0 (own_solution s states) it.2 in
          let A : ℕ → Type 0 = λ i. Has new i s in
          let here : n + before (global at g) ≡ n = omega arith in
          going new (λ j low. step.kept j (let low' : j < length done = subst (λ n. j < n) (sym size) low in low') (λ inside. nothing_in j inside))
          (let longer : length new ≡ suc (length done) = step.longer in let longer' : length new ≡ n + suc 0 = omega arith in longer')
          (record { part = part; there = subst A (size ∙ sym here) step.added }),
    )
      where
        meaning_of : (s : Scheme) → IsAnswer scope (form.Global g) done s → (t : book.Scheme) × (slice_get scope.globals g ≡ Some t) × IsReadAs s t
        meaning_of s (is_named r (is_copied j i same first is_there) alike) = absurd (cc)
        meaning_of s (is_named r (is_read h t same known_is is) alike) =
            let same_number : g ≡ h = cc in
            (t, ap (slice_get scope.globals) same_number ∙ known_is, read_alike s r t (types_back (no_goals r) (no_goals s) alike) is)
        meaning_of s (is_solved c has solution) = absurd has.is

    -- a let, whose second part was inferred with the scheme of the first
    module _ (known : Known) (n at k : ℕ) (e e' : TermTree) (done : Finished) (first : Done known n e done) (second : Done (with_let known k first.part.scheme) (n + suc (before e)) e' done) (rest : List TermNode) (size : length done ≡ n + (suc (before e) + suc (before e'))) (going : Going scope Fails Ends known n (local at k e e') rest done) where
      abbrev i : ℕ
      i = n + before e

      abbrev j : ℕ
      j = n + suc (before e) + before e'

      abbrev node : TermNode
      node = record { at = at; form = form.Let k i j }

      abbrev schemes : List Scheme
      schemes = first.part.automaton ∷ second.part.automaton ∷ []

      let_each : HasEach done (i ∷ j ∷ []) schemes
      let_each = (first.there, (second.there, tt))

      abbrev parts : List (ℕ × TermTree)
      parts = (n, e) ∷ (n + suc (before e), e') ∷ []

      -- the constraint is that of two parts with the same types
      record IsOverBoth (c : Constraint) : Type 0 where
        pub one : Inferred known n e
        pub same : one.scheme ≡ first.part.scheme
        pub two : Inferred (with_let known k one.scheme) (n + suc (before e)) e'
        pub is : c ≡ let_constraint one.automaton two.automaton

      let_constraint_is : (c : Constraint) → HasConstraint node.form done c → IsOverBoth c
      let_constraint_is c has = over has.taken (subst (λ (ss : List Scheme). AreAlike ss has.taken) (one_each done (i ∷ j ∷ []) has.schemes schemes has.each let_each) has.alike) has.is
        where
          over : (ss : List Scheme) → AreAlike schemes ss → IsPosed node.form ss c → IsOverBoth c
          over [] alike posed = absurd alike
          over (s ∷ []) alike posed = absurd alike.1
          over (s ∷ t ∷ []) alike posed = record {
            one = alike_part known n e first.part s alike.0.0 alike.0.1;
            same = refl;
            two = alike_part (with_let known k first.part.scheme) (n + suc (before e)) e' second.part t alike.1.0.0 alike.1.0.1;
            is = posed;
          }
          over (s ∷ t ∷ u ∷ ss) alike posed = absurd alike.1.1

      pub let_goes : GoesOn scope Fails Ends (node ∷ rest) done
      let_goes = (
        record {
          schemes = schemes;
          each = let_each;
          are = All-cons HasStates first.part.automaton (second.part.automaton ∷ []) first.part.states (All-cons HasStates second.part.automaton [] second.part.states (λ i d low. absurd (omega arith)));
          distinct = roots_distinct n (n + suc (before e) + suc (before e')) parts (refl, (refl, refl));
          built = tt;
        },
        λ m stop.
            let N : Constraint → Type 0 = HasNoTypes in
            let over : IsOverBoth stop.constraint = let_constraint_is stop.constraint stop.is in
            absurd (let_has_types over.one.automaton over.two.automaton over.one.scheme over.two.scheme over.one.states over.two.states over.one.read over.two.read (subst N over.is stop.none)),
        λ new s step.
            let solution = solution_of s step.answer in
            let over : IsOverBoth solution.0 = let_constraint_is solution.0 solution.1 in
            let solved : IsSolution (let_constraint over.one.automaton over.two.automaton) s = subst (λ (c : Constraint). IsSolution c s) over.is solution.2 in
            let it_read = read_scheme s step.states in
            let A : ℕ → Type 0 = λ i. Has new i s in
            going new
            (λ q low. step.kept q (let low' : q < length done = omega arith in low') (outside q low))
            (let longer : length new ≡ suc (length done) = step.longer in let longer' : length new ≡ n + suc (before (local at k e e')) = subst (λ b. length new ≡ n + suc b) (sym whole) (let l : length new ≡ n + suc (suc (before e) + suc (before e')) = omega arith in l) in longer')
            (record { part = inferred_let known n at k e e' over.one over.two s it_read.0 solved it_read.1; there = subst A (size ∙ ap (λ b. n + b) (sym whole)) step.added }),
      )
        where
          whole : before (local at k e e') ≡ suc (before e) + suc (before e')
          whole = before_let at k e e'

          solution_of : (s : Scheme) → IsAnswer scope node.form done s → (c : Constraint) × HasConstraint node.form done c × IsSolution c s
          solution_of s (is_named u (is_copied q r same is there) alike) = absurd (cc)
          solution_of s (is_named u (is_read g t same known_is is) alike) = absurd (cc)
          solution_of s (is_solved c has solution) = (c, has, solution)

          outside : (q : ℕ) → q < n → Contains (i ∷ j ∷ []) q → ⊥
          outside q low inside =
              let Q : ℕ → Type 0 = λ q. (n ≤ q) × (q < n + suc (before e) + suc (before e')) in
              let bounds : (n ≤ q) × (q < n + suc (before e) + suc (before e')) = subst Q inside.2 (roots_between n n (n + suc (before e) + suc (before e')) parts (refl, (refl, refl)) (omega arith) inside.0 q inside.1) in
              let le : n ≤ q = bounds.0 in
              absurd (omega arith)
