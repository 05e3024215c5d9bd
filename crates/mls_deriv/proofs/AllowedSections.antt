-- The type of an allowed section is derivable for its binding.
--     walk                     the steps of allowed lines are derivable, where the lets have the schemes of their steps
--     section_derives
--     allowed_is_derivable     the types of all sections
use Rattle.std.proofs.Common.{◌≡◌, ℕ, zero, suc, true, false, List, [], ◌∷◌, ◌++◌, map, length, refl, sym, ap, ◌∙◌, subst, arith, slice_get, append_assoc, append-nil, Some, cond}
use Rattle.std.specs.Prelude.{All, Contains, get_or, option_map}
use Rattle.std.specs.FinMap as env
use Rattle.std.specs.Ordering.{nat_cmp, eq_by_cmp}
use Rattle.std.proofs.lemmas.Cmp.{nat_cmp_total}
use Rattle.std.proofs.lemmas.Option.{slice_get_within, get_or_from_slice_get}
use Rattle.std.proofs.iter.runs.Lists.{nth_left, nth_seam}
use Rattle.std.proofs.lemmas.List.Elements.{All-head, All-tail, All-cons, All-nil, All-append}
use Rattle.mls_book.specs.declared.book.Node.{Node}
use Rattle.mls_book.specs.Schemes.{Scheme, IsScheme}
use Rattle.mls_book.proofs.LongerBooks.{Extends}
use Rattle.mls_book.proofs.MovedSchemes.{lengthened, Equivalent-lengthened}
use Rattle.mls_term.specs.declared.term.ResolvedBinding.{ResolvedBinding}
use Rattle.mls_term.specs.declared.term.TermNode.{TermNode}
use Rattle.mls_term.specs.Terms.{TermTree, postorder}
use Rattle.mls_term.specs.Derivations.{Known, Derives, sub}
use Rattle.mls_term.specs.WellFormed.{IsScoped}
use Rattle.mls_term.proofs.Environments.{is_scheme-empty}
use Rattle.mls_typetext.specs.declared.scheme.ReadScheme.{ReadScheme}
use Rattle.mls_typetext.specs.Laws.{IsReadScheme}
use Rattle.mls_typetext.specs.Schemes.{scheme_of}
use Rattle.mls_typetext.proofs.ReadLaws.{read_is_closed}
use Rattle.mls_deriv.specs.declared.derivation.Section.{Section}
use Rattle.mls_deriv.specs.declared.derivation.SectionLine.{SectionLine}
use Rattle.mls_deriv.specs.declared.derivation.SectionLine.TheVariants as line
use Rattle.mls_deriv.specs.declared.derivation.StepLine.{StepLine}
use Rattle.mls_deriv.specs.declared.derivation.StepRule.TheVariants as rule
use Rattle.mls_deriv.specs.Steps.{puts_of, pairs_of, conclusion, Before}
use Rattle.mls_deriv.specs.Sections.{AreAllowed, steps_of, IsEndAllowed, schemes_of, IsSectionAllowed, AreSectionsAllowed}
use Rattle.mls_deriv.specs.Laws.{IsDerivable, AreTerms, AreDerivable, AllowedIsDerivable}
use Rattle.mls_deriv.proofs.AllowedSteps.{AreClosed, StepsDerive, LetsAreKnown, allowed_step}
use Rattle.mls_deriv.proofs.ScopedNames.{uses_derives}
use Rattle.mls_deriv.proofs.TermNodes.{IsTreeAt, root_tree}

-- the let lines
abbrev lets_of : List SectionLine → List (ℕ × ℕ)
lets_of [] = []
lets_of (line.Let k number ∷ rest) = (k, number) ∷ lets_of rest
lets_of (line.Step step ∷ rest) = lets_of rest
lets_of (line.Put x n ∷ rest) = lets_of rest
lets_of (line.Pair mode i j ∷ rest) = lets_of rest

-- what is found stays found when entries follow
find_left : (k n : ℕ) (es fs : List (ℕ × ℕ)) → env.find nat_cmp k es ≡ Some n → env.find nat_cmp k (es ++ fs) ≡ Some n
find_left k n [] fs e = absurd (cc)
find_left k n (entry ∷ es) fs e =
    elim (eq_by_cmp nat_cmp k entry.0) as (λ b. cond b (Some entry.1) (env.find nat_cmp k es) ≡ Some n → cond b (Some entry.1) (env.find nat_cmp k (es ++ fs)) ≡ Some n) [
      | true ↦ λ h. h
      | false ↦ λ h. find_left k n es fs h
    ] e

find-map : (f : ℕ → Scheme) (k : ℕ) (es : List (ℕ × ℕ)) → env.find nat_cmp k (map (λ entry. (entry.0, f entry.1)) es) ≡ option_map f (env.find nat_cmp k es)
find-map f k [] = refl
find-map f k (entry ∷ es) =
    elim (eq_by_cmp nat_cmp k entry.0) as (λ b. cond b (Some (f entry.1)) (env.find nat_cmp k (map (λ entry. (entry.0, f entry.1)) es)) ≡ option_map f (cond b (Some entry.1) (env.find nat_cmp k es))) [
      | true ↦ refl
      | false ↦ find-map f k es
    ]

module _ (term_nodes : List TermNode) (globals : List Scheme) (closed : AreClosed globals) (book : List Node) (all_steps : List StepLine) (all_lets : List (ℕ × ℕ)) where
  abbrev at : List StepLine → List (ℕ × ℕ) → Before
  at steps lets = record { term_nodes = term_nodes; globals = globals; book = book; steps = steps; lets = lets }

  -- the scheme of the step of this number
  scheme_at_step : ℕ → Scheme
  scheme_at_step n = conclusion book (get_or all_steps n (record { node = 0; rule = rule.Var; env = []; root = record { 0 = 0 } }))

  -- the let numbers have the schemes of their steps
  pub section_known : Known
  section_known = record { globals = globals; lets = env.from_entries (map (λ entry. (entry.0, scheme_at_step entry.1)) all_lets) }

  globals_are : section_known.globals ≡ globals
  unfolding section_known
  globals_are = refl

  lets_known : (done : List StepLine) (given : List (ℕ × ℕ)) (lines : List SectionLine) → done ++ steps_of lines ≡ all_steps → given ++ lets_of lines ≡ all_lets → LetsAreKnown section_known (at done given)
  unfolding section_known scheme_at_step
  lets_known done given lines steps lets k n step found stands =
      let there : slice_get all_steps n ≡ Some step = subst (λ steps. slice_get steps n ≡ Some step) steps (nth_left done (steps_of lines) n (slice_get_within done n step stands) ∙ stands) in
      let entry : env.find nat_cmp k all_lets ≡ Some n = subst (λ es. env.find nat_cmp k es ≡ Some n) lets (find_left k n given (lets_of lines) found) in
      env.get-from_entries nat_cmp_total _ k
      ∙ (find-map scheme_at_step k all_lets
      ∙ (ap (option_map scheme_at_step) entry
      ∙ ap (λ step. Some (conclusion book step)) (get_or_from_slice_get all_steps n step _ there)))

  -- one more step that is derivable
  one_more : (known : Known) (done : List StepLine) (given other : List (ℕ × ℕ)) (step : StepLine) → StepsDerive known (at done given)
      → ((t : TermTree) → IsTreeAt term_nodes step.node t → Derives known t (conclusion book step))
      → StepsDerive known (at (done ++ step ∷ []) other)
  one_more known done given other step earlier this = go done earlier
    where
      go : (done : List StepLine) → StepsDerive known (at done given) → (n : ℕ) (found : StepLine) → slice_get (done ++ step ∷ []) n ≡ Some found
          → (t : TermTree) → IsTreeAt term_nodes found.node t → Derives known t (conclusion book found)
      go [] earlier zero found e t tree =
          let is : step ≡ found = cc in
          subst (λ (s : StepLine). IsTreeAt term_nodes s.node t → Derives known t (conclusion book s)) is (this t) tree
      go [] earlier (suc n) found e t tree = absurd (cc)
      go (first ∷ rest) earlier zero found e t tree = earlier 0 found e t tree
      go (first ∷ rest) earlier (suc n) found e t tree = go rest (λ m. earlier (suc m)) n found e t tree

  walk : (done : List StepLine) (given : List (ℕ × ℕ)) (lines : List SectionLine) → done ++ steps_of lines ≡ all_steps → given ++ lets_of lines ≡ all_lets
      → StepsDerive section_known (at done given) → AreAllowed (at done given) lines → StepsDerive section_known (at all_steps all_lets)
  walk done given [] steps lets earlier allowed =
      subst (λ steps. StepsDerive section_known (at steps all_lets)) (sym (append-nil done) ∙ steps) earlier
  walk done given (line.Let k number ∷ rest) steps lets earlier allowed =
      walk done (given ++ (k, number) ∷ []) rest steps (append_assoc given ((k, number) ∷ []) (lets_of rest) ∙ lets) earlier allowed
  walk done given (line.Step step ∷ rest) steps lets earlier allowed =
      walk (done ++ step ∷ []) given rest (append_assoc done (step ∷ []) (steps_of rest) ∙ steps) lets
      (one_more section_known done given given step earlier
      (allowed_step section_known (at done given) earlier globals_are closed (lets_known done given (line.Step step ∷ rest) steps lets) (puts_of rest) (pairs_of rest) step allowed.0))
      allowed.1
  walk done given (line.Put x n ∷ rest) steps lets earlier allowed = walk done given rest steps lets earlier allowed
  walk done given (line.Pair mode i j ∷ rest) steps lets earlier allowed = walk done given rest steps lets earlier allowed

-- the scheme of what is read
pub read_scheme : (read : ReadScheme) → IsReadScheme read → IsScheme (scheme_of read)
read_scheme read is = is_scheme-empty read.book is.book read.root.0 is.root

-- the type of an allowed section is derivable
pub section_derives : (globals : List Scheme) (count : ℕ) (binding : ResolvedBinding) (section : Section) (read : ReadScheme) → AreClosed globals
    → (t : TermTree) → binding.term.nodes ≡ postorder 0 t → IsScoped [] [] count t
    → IsSectionAllowed globals binding section read → IsDerivable globals binding (scheme_of read)
section_derives globals count binding section read closed t nodes_are uses allowed =
    let lines : List SectionLine = section.lines in
    let known : Known = section_known binding.term.nodes globals closed section.nodes (steps_of lines) (lets_of lines) in
    let end : IsEndAllowed binding section read = allowed.end in
    let last : StepLine = end.last in
    let all : StepsDerive known (at binding.term.nodes globals closed section.nodes (steps_of lines) (lets_of lines) (steps_of lines) (lets_of lines)) =
    walk binding.term.nodes globals closed section.nodes (steps_of lines) (lets_of lines) [] [] lines refl refl (λ n step e. absurd (cc)) allowed.lines in
    let found : slice_get (steps_of lines) (length end.earlier) ≡ Some last = ap (λ steps. slice_get steps (length end.earlier)) end.last_is ∙ nth_seam end.earlier last in
    let derives : Derives known t (conclusion section.nodes last) = all (length end.earlier) last found t (root_tree t binding.term.nodes last.node nodes_are end.root) in
    let s : Scheme = scheme_of read in
    let long : Scheme = lengthened section.nodes s in
    let conclusion_is : conclusion section.nodes last ≡ long = λ k. record { book = section.nodes; env = end.env k; root = end.type k } in
    let s_is : IsScheme s = read_scheme read (read_is_closed section.text read allowed.head.text) in
    let more : Extends read.book section.nodes = record { closed = allowed.head.closed; longer = allowed.head.longer; same = allowed.head.begins } in
    record {
      is = s_is;
      term_tree = t;
      nodes = nodes_are;
      derives =
          sub long
          (uses_derives [] [] count known (record { globals = globals; lets = env.empty }) t long uses
          (record { globals = sym (globals_are binding.term.nodes globals closed section.nodes (steps_of lines) (lets_of lines)); lets_are = λ k none. absurd (nothing k none) })
          (subst (λ u. Derives known t u) conclusion_is derives))
          (Equivalent-lengthened section.nodes s s_is more).1
          s_is;
    }
  where
    nothing : (k : ℕ) → Contains {X = ℕ} [] k → ⊥
    nothing k (i, low, is) = omega arith

-- what was read has closed schemes
AreClosed-nil : AreClosed []
AreClosed-nil = record { schemes = λ g u e. absurd (cc); nothing = λ g u e. absurd (cc) }

AreClosed-cons : (x : Scheme) (xs : List Scheme) → IsScheme x → x.env ≡ env.empty → AreClosed xs → AreClosed (x ∷ xs)
AreClosed-cons x xs is empty rest = record { schemes = schemes; nothing = nothing }
  where
    schemes : (g : ℕ) (u : Scheme) → slice_get (x ∷ xs) g ≡ Some u → IsScheme u
    schemes zero u e = let same : x ≡ u = cc in subst IsScheme same is
    schemes (suc g) u e = rest.schemes g u e

    nothing : (g : ℕ) (u : Scheme) → slice_get (x ∷ xs) g ≡ Some u → u.env ≡ env.empty
    nothing zero u e = let same : x ≡ u = cc in subst (λ (v : Scheme). v.env ≡ env.empty) same empty
    nothing (suc g) u e = rest.nothing g u e

AreClosed-read : (reads : List ReadScheme) → All IsReadScheme reads → AreClosed (map scheme_of reads)
AreClosed-read [] all = AreClosed-nil
AreClosed-read (read ∷ reads) all =
    AreClosed-cons (scheme_of read) (map scheme_of reads) (read_scheme read (All-head IsReadScheme read reads all)) refl (AreClosed-read reads (All-tail IsReadScheme read reads all))

sections_derive : (count : ℕ) (known : List ReadScheme) → All IsReadScheme known → (bindings : List ResolvedBinding) (sections : List Section)
    → AreTerms count bindings → AreSectionsAllowed known bindings sections → AreDerivable known bindings sections
sections_derive count known all [] [] terms allowed = tt
sections_derive count known all [] (section ∷ sections) terms allowed = absurd allowed
sections_derive count known all (binding ∷ bindings) [] terms allowed = absurd allowed
sections_derive count known all (binding ∷ bindings) (section ∷ sections) (term, terms) (read, allowed, allowed') =
    let is : IsReadScheme read = read_is_closed section.text read allowed.head.text in
    let more : All IsReadScheme (known ++ read ∷ []) = All-append IsReadScheme known (read ∷ []) all (All-cons IsReadScheme read [] is (All-nil IsReadScheme)) in (
      read,
      allowed.head.text,
      section_derives (schemes_of known) count binding section read (AreClosed-read known all) term.tree term.nodes_are term.scoped allowed,
      sections_derive (suc count) (known ++ read ∷ []) more bindings sections terms allowed',
    )

pub allowed_is_derivable : AllowedIsDerivable
allowed_is_derivable known bindings sections all terms allowed = sections_derive (length known) known all bindings sections terms allowed
