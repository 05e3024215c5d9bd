-- A section whose parts have come, one after another, is allowed, where its term has the type that was read, and each of
-- its lines stands where it may.
--     IsSectionCome
--     section_come
use Rattle.std.proofs.Common.{◌≡◌, ◌⊎◌, inl, inr, ℕ, suc, ◌+◌, ◌<◌, ◌≤◌, List, [], ◌++◌, length, map, refl, sym, ap, ◌∙◌, subst, arith, append-nil, slice_get, Option, Some, None}
use Rattle.std.proofs.Math.ListN.{get_or-append}
use Rattle.std.specs.Prelude.{option_map, is_some}
use Rattle.std.specs.BTreeMap.{BTreeMap, get}
use Rattle.std.specs.FinMap as env
use Rattle.std.specs.FinMap.{get-empty}
use Rattle.std.specs.Ordering.{nat_cmp}
use Rattle.std.proofs.lemmas.Option.{slice_get-map}
use Rattle.mls_book.specs.declared.book.Node.{Node}
use Rattle.mls_book.specs.declared.book.Node.TheVariants as node
use Rattle.mls_book.specs.Books.{node_at, IsClosedBook}
use Rattle.mls_book.specs.Schemes as book
use Rattle.mls_book.specs.Schemes.{Subsumes}
use Rattle.mls_automaton.specs.declared.automaton.Polarity.{Polarity}
use Rattle.mls_automaton.specs.declared.scheme.EnvEntry.{EnvEntry}
use Rattle.mls_automaton.specs.declared.scheme.Scheme.{Scheme}
use Rattle.mls_automaton.specs.Environments.{BindersRise}
use Rattle.mls_automaton.specs.Schemes.{IsScheme}
use Rattle.mls_solver.specs.Relations.{IsGoal, IsRelated}
use Rattle.mls_solver.specs.Rooms.{Holds}
use Rattle.mls_solver.proofs.SolvedRooms.{solved-same}
use Rattle.mls_term.specs.declared.term.ResolvedBinding.{ResolvedBinding}
use Rattle.mls_term.specs.declared.term.TermNode.{TermNode}
use Rattle.mls_term.specs.Derivations.{Known, Derives}
use Rattle.mls_term.specs.Terms.{before}
use Rattle.mls_term.specs.TypingLaws.{AreSchemes}
use Rattle.mls_term.specs.WellFormed.{IsTerm, HasRisingTree}
use Rattle.mls_term.proofs.Metatheory.{more_general_derives}
use Rattle.mls_typing.specs.InferenceLaws.{AllSchemes}
use Rattle.mls_typing.specs.InferenceLaws as typing
use Rattle.mls_typing.proofs.PartNodes.{length-postorder}
use Rattle.mls_typetext.specs.declared.scheme.ReadScheme.{ReadScheme}
use Rattle.mls_typetext.specs.Laws.{IsReadScheme}
use Rattle.mls_typetext.specs.Schemes.{scheme_of}
use Rattle.mls_typetext.specs.Texts.{IsTypeText}
use Rattle.mls_deriv.specs.declared.derivation.Section.{Section}
use Rattle.mls_deriv.specs.declared.derivation.StepLine.{StepLine}
use Rattle.mls_deriv.specs.Sections.{at_start, schemes_of, steps_of, IsHeadRead, IsSectionAllowed}
use Rattle.mls_deriv.proofs.AllowedSections.{read_scheme}
use Rattle.mls_deriv.specs.Steps.{env_of, Before, HasFrom}
use Rattle.mls_deriv.specs.Texts.{LinesStand}
use Rattle.mls_layout.specs.LaidOut.{place_of, IsLonger}
use Rattle.mls_layout.specs.Layouts.{IsTypeLayout}
use Rattle.mls_layout.specs.Lets.{after}
use Rattle.mls_layout.specs.Plans.{AreLinesOf}
use Rattle.mls_layout.specs.Scopes.{entry}
use Rattle.mls_layout.specs.Trees.{none_node}
use Rattle.mls_layout.specs.Uses.{Shows}
use Rattle.mls_layout.specs.Walks.{AreMet}
use Rattle.mls_parts.specs.PartBinders.{ArePartBinders}
use Rattle.mls_parts.specs.PosedModels.{AreOver}
use Rattle.mls_parts.specs.PosedParts.{IsPartPosed}
use Rattle.mls_parts.specs.Posings.{known_in, root_in}
use Rattle.mls_parts.specs.SolvedTypes.{solved_scheme}
use Rattle.mls_parts.specs.TermParts.{IsTermPart}
use Rattle.mls_parts.specs.TreeNodes.{AreTreeNodes}
use Rattle.mls_parts.proofs.TreeNodes.{tree_nodes}
use Rattle.mls_typenodes.specs.OneEach.{HasOneEach}
use Rattle.mls_typenodes.specs.ReadPlaces.{IsReadLaid}
use Rattle.mls_typenodes.proofs.TypeLayouts.{raised_none}
use Rattle.mls_lines.specs.declared.known.FirstPart as known
use Rattle.mls_lines.specs.PlainParts.{type_binders}
use Rattle.mls_lines.proofs.Bringing.{lines_joined, lines_steps}
use Rattle.mls_lines.proofs.Growing.{longer_then}
use Rattle.mls_lines.proofs.Lengthening.{longer_from}
use Rattle.mls_allowed.specs.FirstTypes.{AreFirstsMade, HaveBooks, HaveOwnLets}
use Rattle.mls_sections.specs.KnownNames.{AreGlobalsOf, AreNameTypes}
use Rattle.mls_allowed.specs.LetScopes.{HasScopes}
use Rattle.mls_allowed.specs.MadeFirsts.{around_states}
use Rattle.mls_allowed.specs.ReadyParts.{IsPartReady}
use Rattle.mls_allowed.specs.SectionParts.{AddsWhole, HaveCome, IsBegun, SoFar}
use Rattle.mls_sections.specs.SectionsGoing.{CanGoOn}
use Rattle.mls_allowed.specs.WrittenParts.{IsPartWritten}
use Rattle.mls_allowed.proofs.KnownBooks.{known_books}
use Rattle.mls_allowed.proofs.LetScopes.{have_scopes, let_scope_of}
use Rattle.mls_allowed.proofs.MadeTypes.{firsts_added, have_first_types}
use Rattle.mls_sections.proofs.NameBooks.{are_over, books_free, books_general, books_schemes, name_books}
use Rattle.mls_allowed.proofs.OwnLets.{own_lets}
use Rattle.mls_sections.proofs.PartsWritten.{part_done, IsKept, IsPartDone}
use Rattle.mls_allowed.proofs.ReadyTerms.{whole_ready, whole_typed}
use Rattle.mls_allowed.proofs.SectionParts.{come_added}
use Rattle.mls_sections.proofs.SectionsCome.{come_written, last_part, HasWhole, HasWritten, Ready}
use Rattle.mls_sections.proofs.SectionsGo.{begins_going, come_goes, globals_old, types_same, whole_longer, whole_made_longer}
use Rattle.mls_sections.proofs.ShownVariables.{read_shown}
use Rattle.mls_allowed.proofs.WrittenSections.{section_written, section_stands}

-- The section is allowed, and each of its lines may stand where it does.
pub record IsSectionCome (globals : List book.Scheme) (binding : ResolvedBinding) (section : Section) (read : ReadScheme) : Type 0 where
  pub allowed : IsSectionAllowed globals binding section read
  pub stand : LinesStand section

module _ (reads : List ReadScheme) (good : (g : ℕ) (r : ReadScheme) → slice_get reads g ≡ Some r → IsReadScheme r) (binding : ResolvedBinding) (section : Section) (read : ReadScheme) (is_read : IsReadScheme read) (is_text : IsTypeText section.text read) (name : section.name ≡ binding.name)
    (one : (i : ℕ) → i < length read.book → HasOneEach read.book i)
    (count : ℕ) (term : IsTerm count binding.term.nodes binding.term.binders binding.term.lets) (rising : HasRisingTree binding.term.nodes) (derives : Derives (typing.at_start (schemes_of reads)) term.tree (scheme_of read))
    (begun last : SoFar) (begins : IsBegun read begun) (begun_closed : IsClosedBook begun.book) (variables : read.vars ≤ begun.variable) (stand : AreGlobalsOf begun.book reads begun.globals) (names : AreNameTypes reads begun.known.globals)
    (come : HaveCome binding.term.nodes read begun (length binding.term.nodes) last) (nodes_are : section.nodes ≡ last.book) (lines_are : section.lines ≡ last.steps.lines) where
  abbrev nodes : List TermNode
  nodes = binding.term.nodes

  abbrev b : Before
  b = at_start (schemes_of reads) binding section

  can : CanGoOn begun
  can = begins_going read begun begins begun_closed reads stand

  abbrev lets : BTreeMap ℕ Scheme
  lets = last.known.lets

  abbrev scopes : HasScopes (let_scope_of term.tree) [] term.tree
  scopes = have_scopes count nodes binding.term.binders binding.term.lets term

  tree : AreTreeNodes nodes
  tree = tree_nodes nodes term.tree term.nodes_are

  own : HaveOwnLets nodes
  own = own_lets count nodes binding.term.binders binding.term.lets term

  many : length nodes ≡ suc (before term.tree)
  many = ap length term.nodes_are ∙ length-postorder term.tree 0

  -- the book of the section
  goes_on : CanGoOn last × IsLonger begun.book last.book
  goes_on = come_goes nodes tree read one begun can come

  closed : IsClosedBook section.nodes
  closed = subst IsClosedBook (sym nodes_are) goes_on.0.closed

  longer_last : IsLonger last.book section.nodes
  longer_last = ([], nodes_are ∙ sym (append-nil last.book))

  longer_begun : IsLonger begun.book section.nodes
  longer_begun = longer_then begun.book last.book section.nodes goes_on.1 longer_last

  from : HasFrom section.nodes 0 read.book
  from = longer_from begun.book section.nodes read.book 0 longer_begun begins.from

  stand_now : AreGlobalsOf section.nodes reads begun.globals
  stand_now g global there =
      let it = stand g global there in
      record {
        read = it.read;
        is = it.is;
        good = it.good;
        at = record {
          from = longer_from begun.book section.nodes it.read.book global.first longer_begun it.at.from;
          root = it.at.root;
          variables = it.at.variables;
          showing = it.at.showing;
        };
      }

  -- the types of its names and lets have books
  abbrev global_books : List book.Scheme
  global_books = name_books reads good begun.known.globals names

  made : AreFirstsMade nodes begun.known.globals lets (let_scope_of term.tree) (length nodes)
  made =
      firsts_added nodes begun.known.globals (let_scope_of term.tree) count binding.term.binders binding.term.lets term rising scopes own
      (types_same nodes read begun come) (come_added nodes read begun begins.lets come)

  let_schemes : (k : ℕ) (s : Scheme) → known_in lets k ≡ Some s → IsScheme s
  let_schemes k s is =
      let (i, j, l, at, low) = made.only k (ap is_some is) in
      let it = made.made i k j l at low in
      let both : Some it.0 ≡ Some s = sym it.1 ∙ is in
      let same : it.0 ≡ s = cc in
      subst IsScheme same it.2.is

  books : (known : Known) × (known.globals ≡ global_books) × HaveBooks known lets
  books = known_books lets let_schemes global_books

  abbrev known_now : Known
  known_now = books.0

  over : AreOver known_now begun.known.globals lets
  over = are_over reads good begun.known.globals names known_now books.1 lets let_schemes books.2

  all_schemes : AllSchemes known_now.globals
  all_schemes = subst AllSchemes (sym books.1) (books_schemes reads good begun.known.globals names)

  no_needs : (g : ℕ) (s : book.Scheme) → slice_get known_now.globals g ≡ Some s → s.env ≡ env.empty
  no_needs g s at = books_free reads good begun.known.globals names g s (sym (ap (λ (gs : List book.Scheme). slice_get gs g) books.1) ∙ at)

  read_is : book.IsScheme (scheme_of read)
  read_is = read_scheme read is_read

  read_schemes : AreSchemes (typing.at_start (schemes_of reads))
  read_schemes = record {
    globals = λ g s at. by_read g s (slice_get reads g) refl (sym (slice_get-map scheme_of reads g) ∙ at);
    lets = λ k s at. absurd (let none : env.get (env.empty {X = book.Scheme} {R = nat_cmp}) k ≡ None = get-empty nat_cmp k in let wrong : None ≡ Some s = sym none ∙ at in cc);
  }
    where
      by_read : (g : ℕ) (s : book.Scheme) (o : Option ReadScheme) → slice_get reads g ≡ o → option_map scheme_of (slice_get reads g) ≡ Some s → book.IsScheme s
      by_read g s None none at = absurd (let nothing : option_map scheme_of (slice_get reads g) ≡ None = ap (option_map scheme_of) none in cc)
      by_read g s (Some r) some at =
          let there : option_map scheme_of (slice_get reads g) ≡ Some (scheme_of r) = ap (option_map scheme_of) some in
          let is : scheme_of r ≡ s = cc in
          subst book.IsScheme is (read_scheme r (good g r some))

  derives_now : Derives (typing.at_start known_now.globals) term.tree (scheme_of read)
  derives_now =
      subst (λ (gs : List book.Scheme). Derives (typing.at_start gs) term.tree (scheme_of read)) (sym books.1)
      (more_general_derives (typing.at_start global_books) (typing.at_start (schemes_of reads)) term.tree (scheme_of read) (books_general reads good begun.known.globals names) read_schemes derives)

  is_ready : Ready nodes known_now (let_scope_of term.tree) count binding.term.binders binding.term.lets term begun.known.globals lets
  is_ready = record {
    over = over;
    firsts = have_first_types nodes begun.known.globals (let_scope_of term.tree) count binding.term.binders binding.term.lets term rising scopes lets made known_now books.2;
    typed =
        whole_typed nodes begun.known.globals lets (let_scope_of term.tree) count binding.term.binders binding.term.lets term rising scopes made known_now books.2 over all_schemes no_needs
        (scheme_of read) read_is derives_now;
    made = made;
  }

  -- the whole term
  abbrev Context : Type 0
  Context = HasWhole b read one reads refl closed known_now (let_scope_of term.tree) count binding.term.binders binding.term.lets term rising scopes begun can begins variables stand_now names lets is_ready last

  whole_part : Context
  whole_part =
      last_part b read one reads refl closed known_now (let_scope_of term.tree) count binding.term.binders binding.term.lets term rising scopes begun can begins variables stand_now names lets is_ready come refl
      (omega (arith, many))

  -- Where the whole term is added to the parts before it.
  module _ (q : ℕ) (old : SoFar) (earlier : HaveCome nodes read begun q old) (it : AddsWhole nodes read q old last) where
    can_old : CanGoOn old
    can_old = (come_goes nodes tree read one begun can earlier).0

    lets_same : old.known.lets ≡ lets
    lets_same = sym (λ i. (it.known i).lets)

    kept : IsKept old.known.lets lets
    kept k s is = sym (ap (λ (m : BTreeMap ℕ Scheme). known_in m k) lets_same) ∙ is

    longer_old : IsLonger old.book section.nodes
    longer_old = longer_then old.book last.book section.nodes (whole_longer nodes tree read one q old last can_old it) longer_last

    root_is : q ≡ 0 + before term.tree
    root_is = let end : suc q ≡ length nodes = it.is_last in omega (arith, many, end)

    so_far : HasWritten b read one reads refl closed known_now (let_scope_of term.tree) count binding.term.binders binding.term.lets term rising scopes begun can begins variables stand_now names lets is_ready q old
    so_far =
        come_written b read one reads refl closed known_now (let_scope_of term.tree) count binding.term.binders binding.term.lets term rising scopes begun can begins variables stand_now names lets is_ready earlier
        (let end : suc q ≡ length nodes = it.is_last in omega (arith, end)) kept longer_old

    made_closed : IsClosedBook it.made
    made_closed = it.is_type.closed can_old.closed

    laid : IsReadLaid read it.made it.type it.places
    laid = it.is_type.laid one

    rise : BindersRise it.type.env
    rise = subst BindersRise (sym it.is_type.free) (λ i j d less low. absurd (omega (arith, low)))

    types_old : old.known.globals ≡ begun.known.globals
    types_old = types_same nodes read begun earlier

    ready_old : Ready nodes known_now (let_scope_of term.tree) count binding.term.binders binding.term.lets term old.known.globals lets
    ready_old = subst (λ (gs : BTreeMap ℕ Scheme). Ready nodes known_now (let_scope_of term.tree) count binding.term.binders binding.term.lets term gs lets) (sym types_old) is_ready

    met : AreMet (solved_scheme it.adds.solution.automaton (root_in it.adds.posing (0 + before term.tree)) (around_states it.adds.posing it.adds.solved.binders.around)) it.type it.adds.is_laid.pairs
    met =
        subst (λ n. AreMet (solved_scheme it.adds.solution.automaton (root_in it.adds.posing n) (around_states it.adds.posing it.adds.solved.binders.around)) it.type it.adds.is_laid.pairs) root_is
        (subst (λ (xs : List ℕ). AreMet (solved_scheme it.adds.solution.automaton (root_in it.adds.posing q) (around_states it.adds.posing xs)) it.type it.adds.is_laid.pairs) it.adds.solved.is_around it.adds.is_laid.met)

    ready : IsPartReady nodes old.known.globals lets q it.part.nodes it.adds.solved.binders it.adds.posing it.type it.adds.is_laid.pairs
    ready =
        subst (λ n. IsPartReady nodes old.known.globals lets n it.part.nodes it.adds.solved.binders it.adds.posing it.type it.adds.is_laid.pairs) (sym root_is)
        (whole_ready nodes old.known.globals lets (let_scope_of term.tree) count binding.term.binders binding.term.lets term rising scopes ready_old.made known_now books.2 ready_old.over all_schemes no_needs
        it.part (subst (λ n. IsTermPart nodes n it.part) root_is it.adds.is_part) it.adds.solved.binders
        (subst (λ (m : BTreeMap ℕ Scheme). ArePartBinders nodes m it.part.nodes it.adds.solved.binders) lets_same it.adds.solved.are_binders) it.adds.posing
        (subst (λ (m : BTreeMap ℕ Scheme). IsPartPosed nodes old.known.globals m it.adds.solved.binders.all it.part.nodes it.adds.posing) lets_same it.adds.solved.posed)
        it.adds.solution.automaton
        (solved-same it.adds.posing.automaton (Holds it.adds.solution.found) (IsRelated it.adds.posing.automaton (IsGoal it.adds.posing.goals)) it.adds.solved.related it.adds.solution.automaton it.adds.solved.solved)
        it.adds.solved.closed (scheme_of read) read_is derives_now it.type it.is_type.is laid.deterministic (λ c is. (it.is_type.equivalent c is).1) it.adds.is_laid.pairs met)

    -- its own variables are those of what was read
    from_made : IsLonger it.made section.nodes
    from_made = longer_then it.made last.book section.nodes (whole_made_longer nodes tree read one q old last can_old it) longer_last

    type_nodes : (s : ℕ) → (place_of it.places s < length read.book) ⊎ ((p : Polarity) × (node_at section.nodes (place_of it.places s) ≡ none_node p))
    type_nodes s = elim (laid.nodes s) [
      | inl low ↦ inl low
      | inr none ↦ inr (
        none.0,
        ap (λ (l : List Node). node_at l (place_of it.places s)) from_made.1 ∙ (get_or-append it.made from_made.0 node.Bot (place_of it.places s) (laid.inside s) ∙ none.1),
      )
    ]

    apart : (layout : IsTypeLayout section.nodes it.type.automaton (place_of it.places)) (s x : ℕ) → Shows section.nodes layout.variables s x → (k : ℕ) (first : known.FirstPart) → get nat_cmp old.firsts k ≡ Some first → (t : Scheme) → known_in lets k ≡ Some t
        → (x < first.variable) ⊎ (first.variable + length t.automaton.flows ≤ x)
    apart layout s x shows k first there t is =
        let few : x < read.vars = read_shown read is_read section.nodes closed.book from it.type.automaton (place_of it.places) type_nodes layout s x shows in
        let range : read.vars ≤ first.variable = (so_far.ranges k first there t is).0 in
        inl (omega (arith, few, range))

    done : IsPartDone (after b (steps_of old.steps.lines) so_far.lines) so_far.firsts q it.type it.places old last.steps it.step
    done =
        part_done (after b (steps_of old.steps.lines) so_far.lines) tree q it.part old it.made it.type it.places last.book last.steps it.step it.adds can_old made_closed laid.layout rise closed longer_last reads refl own lets kept
        so_far.firsts so_far.said so_far.known (subst (AreGlobalsOf section.nodes reads) (sym (globals_old nodes read begun earlier)) stand_now) (subst (AreNameTypes reads) (sym types_old) names) apart it.adds.solved.binders ready

    no_binders : env_of (type_binders it.type it.places) ≡ env.empty
    no_binders = ap (λ (entries : List EnvEntry). env_of (map (λ (e : EnvEntry). entry e.binder (place_of it.places e.state.0)) entries)) it.is_type.free

    written : IsPartWritten (after b (steps_of old.steps.lines) so_far.lines) (steps_of old.steps.lines) so_far.firsts q env.empty read.root.0 done.plan
    written =
        subst (λ d. IsPartWritten (after b (steps_of old.steps.lines) so_far.lines) (steps_of old.steps.lines) so_far.firsts q d read.root.0 done.plan) no_binders
        (subst (λ n. IsPartWritten (after b (steps_of old.steps.lines) so_far.lines) (steps_of old.steps.lines) so_far.firsts q (env_of (type_binders it.type it.places)) n done.plan) laid.root done.written)

    lines : AreLinesOf section.nodes [] (so_far.plan ++ done.plan) section.lines
    lines =
        subst (AreLinesOf section.nodes [] (so_far.plan ++ done.plan)) (sym (lines_are ∙ done.lines))
        (lines_joined section.nodes done.plan done.more so_far.plan [] old.steps.lines so_far.are
        (subst (λ (steps : List StepLine). AreLinesOf section.nodes steps done.plan done.more) (lines_steps section.nodes so_far.plan [] old.steps.lines so_far.are) done.are))

    head : IsHeadRead section read
    head = record {
      text = is_text;
      closed = closed;
      longer = let within : 0 + length read.book ≤ length section.nodes = from.within in omega (arith, within);
      begins = λ i low. ap (node_at section.nodes) (omega arith) ∙ (from.nodes i low ∙ raised_none (node_at read.book i));
    }

    whole_come : IsSectionCome (schemes_of reads) binding section read
    whole_come = record {
      allowed =
          section_written (schemes_of reads) binding section read head name so_far.firsts so_far.own_numbers so_far.plan done.plan (steps_of old.steps.lines) so_far.lines so_far.written q written it.is_last lines;
      stand =
          section_stands (schemes_of reads) binding section read head name so_far.firsts so_far.own_numbers so_far.plan done.plan (steps_of old.steps.lines) so_far.lines so_far.written q written it.is_last lines;
    }

  pub section_come : IsSectionCome (schemes_of reads) binding section read
  section_come = whole_come whole_part.root whole_part.old whole_part.before whole_part.adds
