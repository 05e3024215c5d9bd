-- A part whose lines were added is written, in the book of the whole section.
--     last_same           the last of a list
--     puts_kept           what is put in, where more types of lets are known
--     variables_apart     a variable that is none of an edge's is not put in
--     part_adds           what is written of a part
--     part_goes           so the section goes on
--     part_done           the part is written
use Rattle.std.proofs.Common.{◌≡◌, ◌⊎◌, inl, inr, ℕ, ◌+◌, ◌<◌, ◌≤◌, List, [], ◌∷◌, ◌++◌, length, map, refl, sym, ap, ◌∙◌, subst, arith, Contains, length-append, Option, Some, None}
use Rattle.std.specs.List.{flat_map}
use Rattle.std.specs.BTreeMap.{BTreeMap, get}
use Rattle.std.specs.Ordering.{nat_cmp}
use Rattle.mls_book.specs.declared.book.Node.{Node}
use Rattle.mls_book.specs.Books.{IsClosedBook}
use Rattle.mls_automaton.specs.declared.automaton.Flow.{Flow}
use Rattle.mls_automaton.specs.declared.scheme.Scheme.{Scheme}
use Rattle.mls_automaton.specs.Environments.{BindersRise}
use Rattle.mls_solver.proofs.KeyOrder.{slice_get-below}
use Rattle.mls_subsume.specs.Walks.{IsIn}
use Rattle.mls_term.specs.declared.term.TermForm.{TermForm}
use Rattle.mls_term.specs.declared.term.TermForm.TheVariants as form
use Rattle.mls_term.specs.declared.term.TermNode.{TermNode}
use Rattle.mls_typetext.specs.declared.scheme.ReadScheme.{ReadScheme}
use Rattle.mls_deriv.specs.declared.claim.Put.{Put}
use Rattle.mls_deriv.specs.declared.derivation.SectionLine.{SectionLine}
use Rattle.mls_deriv.specs.Pairs.{put_at}
use Rattle.mls_deriv.specs.Sections.{schemes_of, steps_of}
use Rattle.mls_deriv.specs.Steps.{env_of, form_at, Before}
use Rattle.mls_layout.specs.declared.layout.Places.{Places}
use Rattle.mls_layout.specs.LaidOut.{place_of, IsLonger, LaysOut}
use Rattle.mls_layout.specs.Layouts.{IsTypeLayout}
use Rattle.mls_layout.specs.Lets.{FirstPart}
use Rattle.mls_layout.specs.Parts.{IsRelatedIn}
use Rattle.mls_layout.specs.Plans.{PlannedLine, AreLinesOf}
use Rattle.mls_layout.specs.Uses.{Shows}
use Rattle.mls_parts.specs.declared.binders.PartBinders.{PartBinders}
use Rattle.mls_parts.specs.declared.pose.Posing.{Posing}
use Rattle.mls_parts.specs.declared.split.TermPart.{TermPart}
use Rattle.mls_parts.specs.PosedGoals.{constraint_of}
use Rattle.mls_parts.specs.Posings.{known_in}
use Rattle.mls_parts.specs.TreeNodes.{AreTreeNodes}
use Rattle.mls_parts.proofs.SplitParts.{part_list}
use Rattle.mls_lines.specs.declared.known.FirstPart as known
use Rattle.mls_lines.specs.declared.known.GlobalAt.{GlobalAt}
use Rattle.mls_lines.specs.declared.steps.Steps.{Steps}
use Rattle.mls_lines.specs.Conclusions.{AreClear}
use Rattle.mls_lines.specs.PlainParts.{WritesWhole, type_binders}
use Rattle.mls_lines.specs.Puts.{ArePutsAt, ArePutsOfEdges, ArePutsOfFirst, IsPutOfEdge, PutsFirst}
use Rattle.mls_lines.specs.Stepping.{AreCounted}
use Rattle.mls_lines.proofs.Growing.{longer_then}
use Rattle.mls_lines.proofs.JoinedPuts.{puts_at_kept}
use Rattle.mls_lines.proofs.LowNodes.{firsts_more, globals_more}
use Rattle.mls_lines.proofs.PutLists.{puts_hold}
use Rattle.mls_allowed.specs.FirstTypes.{HaveOwnLets}
use Rattle.mls_sections.specs.KnownFirsts.{AreFirstsKnown, AreFirstsSaid}
use Rattle.mls_sections.specs.KnownNames.{AreGlobalsOf, AreNameTypes}
use Rattle.mls_allowed.specs.PartNodes.{IsPartNode}
use Rattle.mls_allowed.specs.ReadyParts.{HasLines, IsPartReady}
use Rattle.mls_allowed.specs.SectionParts.{AddsPart, SoFar}
use Rattle.mls_sections.specs.SectionsGoing.{CanGoOn}
use Rattle.mls_allowed.specs.WrittenParts.{IsPartWritten}
use Rattle.mls_sections.proofs.NamesOfPart.{are_names, names_of, numbers_known}
use Rattle.mls_allowed.proofs.PartLines.{can_write, own_parts, part_lines, stands_in, type_places_low, StandsIn}
use Rattle.mls_allowed.proofs.PartNodes.{part_clear}
use Rattle.mls_allowed.proofs.ReadyLines.{ready_number, ready_written}
use Rattle.mls_sections.proofs.UsesRead.{is_place, put_in, put_list, uses_read}

-- the last of a list
pub last_same : (xs ys : List ℕ) (x y : ℕ) → xs ++ x ∷ [] ≡ ys ++ y ∷ [] → x ≡ y
last_same [] [] x y e = cc
last_same [] (first ∷ []) x y e = absurd (cc)
last_same [] (first ∷ second ∷ ys) x y e = absurd (cc)
last_same (first ∷ []) [] x y e = absurd (cc)
last_same (first ∷ second ∷ xs) [] x y e = absurd (cc)
last_same (a ∷ xs) (b ∷ ys) x y e = last_same xs ys x y (let both : a ∷ (xs ++ x ∷ []) ≡ b ∷ (ys ++ y ∷ []) = e in cc)

-- the second map knows all that the first one does
abbrev pub IsKept : BTreeMap ℕ Scheme → BTreeMap ℕ Scheme → Type 0
IsKept old new = (k : ℕ) (s : Scheme) → known_in old k ≡ Some s → known_in new k ≡ Some s

module _ (book : List Node) (places : Places) (p : Posing) (globals : BTreeMap ℕ GlobalAt) (firsts : BTreeMap ℕ known.FirstPart) (old new : BTreeMap ℕ Scheme) (kept : IsKept old new) (i : ℕ) where
  first_kept : (k variable : ℕ) (puts : List Put) → ArePutsOfFirst places p old i k variable puts → ArePutsOfFirst places p new i k variable puts
  first_kept k variable puts it = record { known = it.known; is_known = kept k it.known it.is_known; first = it.first; copy = it.copy; edges = it.edges }

  part_kept : (k : ℕ) (part : known.FirstPart) (puts : Option (List Put)) → PutsFirst places p old i k part puts → PutsFirst places p new i k part puts
  part_kept k part puts it = record { own = it.own; is = it.is; are = first_kept k part.variable it.own it.are }

  pub puts_kept : (f : TermForm) (puts : Option (List Put)) → ArePutsAt book places p globals firsts old i f puts → ArePutsAt book places p globals firsts new i f puts
  puts_kept (form.Bound x) puts it = it
  puts_kept (form.Inner k) puts it = record { part = it.part; known = it.known; first = part_kept k it.part puts it.first }
  puts_kept (form.Global g) puts it = it
  puts_kept (form.Number value) puts it = it
  puts_kept (form.Truth value) puts it = it
  puts_kept (form.Fun x j) puts it = it
  puts_kept (form.Apply j k) puts it = it
  puts_kept (form.Make ps) puts it = it
  puts_kept (form.Project j label) puts it = it
  puts_kept (form.If j k l) puts it = it
  puts_kept (form.Let k j l) puts it = record {
    part = it.part;
    known = it.known;
    first = elim it.first [ inl nothing ↦ inl nothing | inr own ↦ inr (part_kept k it.part puts own) ];
  }
  puts_kept (form.Rec x j) puts it = it

-- a variable that is none of an edge's is not put in
pub variables_apart : (IsNode : ℕ → ℕ → Type 0) (edges : List Flow) (first : ℕ) (puts : List Put) → ArePutsOfEdges IsNode edges first puts → (x : ℕ) → (x < first) ⊎ (first + length edges ≤ x) → put_at puts x ≡ None
variables_apart IsNode edges first puts it x apart = go (put_at puts x) refl
  where
    go : (o : Option ℕ) → put_at puts x ≡ o → put_at puts x ≡ None
    go None none = none
    go (Some n) some =
        let w = puts_hold (IsPutOfEdge IsNode edges first) first puts it.each x n some in
        let low : w.0 < length edges = slice_get-below edges w.0 w.1 w.2 in
        let at : x ≡ first + w.0 = w.3 in
        elim apart [ inl less ↦ absurd (omega (arith, at, less)) | inr more ↦ absurd (omega (arith, at, low, more)) ]

-- A part is added to a section that can go on, behind the nodes of its type.
module _ (nodes : List TermNode) (tree : AreTreeNodes nodes) (r : ℕ) (part : TermPart) (old : SoFar) (made : List Node) (type : Scheme) (places : Places) (book : List Node) (steps : Steps) (number : ℕ) (it : AddsPart nodes r part old made type places book steps number)
    (can : CanGoOn old) (made_closed : IsClosedBook made) (type_laid : IsTypeLayout made type.automaton (place_of places)) where
  abbrev lays : LaysOut made it.posing.automaton it.solution.found it.is_laid.pairs (place_of places) it.laid.book (place_of it.laid.places) it.laid.own it.laid.boolean it.laid.integer
  lays = it.is_laid.nodes made_closed

  abbrev pub parts : ℕ → List ℕ
  parts = own_parts made it.posing it.solution.found it.is_laid.pairs type places it.laid lays type_laid it.solved.related

  laid_longer : length old.book ≤ length it.laid.book
  laid_longer =
      let one : length made ≡ length old.book + length it.type_longer.0 = ap length it.type_longer.1 ∙ length-append old.book it.type_longer.0 in
      let two : length it.laid.book ≡ length made + length lays.more = ap length lays.longer ∙ length-append made lays.more in
      omega (arith, one, two)

  pub part_adds : WritesWhole old.globals old.firsts old.known.lets (constraint_of it.posing) it.posing parts nodes part.nodes it.laid old.steps steps book (type_binders type places) (place_of places type.root.0) number
  part_adds =
      it.writes parts
      (can_write made it.posing it.solution.found it.is_laid.pairs type places it.laid lays type_laid it.solved.related nodes old.known.globals old.known.lets it.solved.binders.all part.nodes old.steps old.globals old.firsts it.solved.posed
      (part_list nodes tree r part it.is_part) can.counted can.rising (firsts_more (length old.book) (length it.laid.book) (λ i low. omega (arith, low, laid_longer)) old.firsts can.low_firsts)
      (globals_more (length old.book) (length it.laid.book) (λ i low. omega (arith, low, laid_longer)) old.globals can.low_globals))
      (type_places_low made it.posing it.solution.found it.is_laid.pairs type places it.laid lays type_laid it.solved.related)

  -- so the section goes on
  pub part_closed : IsClosedBook book
  part_closed = part_adds.closed

  pub part_counted : AreCounted steps
  part_counted = part_adds.adds.counted

  pub made_longer : IsLonger made book
  made_longer = longer_then made it.laid.book book (lays.more, lays.longer) part_adds.longer

  pub part_longer : IsLonger old.book book
  part_longer = longer_then old.book made book it.type_longer made_longer

  pub type_low : (s : ℕ) → place_of places s < length book
  type_low s =
      let low : place_of places s < length it.laid.book = type_places_low made it.posing it.solution.found it.is_laid.pairs type places it.laid lays type_laid it.solved.related s in
      let more : length book ≡ length it.laid.book + length part_adds.longer.0 = ap length part_adds.longer.1 ∙ length-append it.laid.book part_adds.longer.0 in
      omega (arith, low, more)

-- The lines of a part, and what they leave.
pub record IsPartDone (b : Before) (said : List FirstPart) (r : ℕ) (type : Scheme) (places : Places) (old : SoFar) (steps : Steps) (number : ℕ) : Type 0 where
  pub plan : List PlannedLine
  pub written : IsPartWritten b (steps_of old.steps.lines) said r (env_of (type_binders type places)) (place_of places type.root.0) plan
  pub number_is : written.number ≡ number
  pub more : List SectionLine
  pub lines : steps.lines ≡ old.steps.lines ++ more
  pub are : AreLinesOf b.book (steps_of old.steps.lines) plan more

-- the same where the section is done: a longer book, and more types of lets
module _ (b : Before) (tree : AreTreeNodes b.term_nodes) (r : ℕ) (part : TermPart) (old : SoFar) (made : List Node) (type : Scheme) (places : Places) (book : List Node) (steps : Steps) (number : ℕ) (it : AddsPart b.term_nodes r part old made type places book steps number)
    (can : CanGoOn old) (made_closed : IsClosedBook made) (type_laid : IsTypeLayout made type.automaton (place_of places)) (rise : BindersRise type.env)
    (closed : IsClosedBook b.book) (longer : IsLonger book b.book) (reads : List ReadScheme) (are_schemes : b.globals ≡ schemes_of reads) (own_lets : HaveOwnLets b.term_nodes)
    (lets : BTreeMap ℕ Scheme) (kept : IsKept old.known.lets lets) (said : List FirstPart) (are_said : AreFirstsSaid b.term_nodes old.firsts b.lets said) (known_firsts : AreFirstsKnown b.book lets old.firsts)
    (stand : AreGlobalsOf b.book reads old.globals) (name_types : AreNameTypes reads old.known.globals)
    (apart : (layout : IsTypeLayout b.book type.automaton (place_of places)) (s x : ℕ) → Shows b.book layout.variables s x → (k : ℕ) (first : known.FirstPart) → get nat_cmp old.firsts k ≡ Some first → (t : Scheme) → known_in lets k ≡ Some t
    → (x < first.variable) ⊎ (first.variable + length t.automaton.flows ≤ x))
    (binders : PartBinders) (ready : IsPartReady b.term_nodes old.known.globals lets r part.nodes binders it.posing type it.is_laid.pairs) where
  abbrev own : ℕ → List ℕ
  own = parts b.term_nodes tree r part old made type places book steps number it can made_closed type_laid

  abbrev whole : WritesWhole old.globals old.firsts old.known.lets (constraint_of it.posing) it.posing own b.term_nodes part.nodes it.laid old.steps steps book (type_binders type places) (place_of places type.root.0) number
  whole = part_adds b.term_nodes tree r part old made type places book steps number it can made_closed type_laid

  abbrev lay : LaysOut made it.posing.automaton it.solution.found it.is_laid.pairs (place_of places) it.laid.book (place_of it.laid.places) it.laid.own it.laid.boolean it.laid.integer
  lay = it.is_laid.nodes made_closed

  -- what was laid out stands in the book
  from_laid : IsLonger it.laid.book b.book
  from_laid = longer_then it.laid.book book b.book whole.longer longer

  abbrev Stands : List Node → Type 0
  Stands = StandsIn made it.posing it.solution.found it.is_laid.pairs type places it.laid lay type_laid it.solved.related

  stands : Stands b.book
  stands =
      subst Stands (sym from_laid.1)
      (stands_in made it.posing it.solution.found it.is_laid.pairs type places it.laid lay type_laid it.solved.related from_laid.0 (subst IsClosedBook from_laid.1 closed))

  -- what is put in at the nodes, in the whole book
  puts_are : (i : ℕ) (f : TermForm) → Contains part.nodes i → form_at b.term_nodes i ≡ Some f → ArePutsAt b.book it.laid.places it.posing old.globals old.firsts lets i f (whole.puts i)
  puts_are i f there is =
      puts_kept b.book it.laid.places it.posing old.globals old.firsts old.known.lets lets kept i f (whole.puts i)
      (puts_at_kept book b.book it.laid.places it.posing old.globals old.firsts old.known.lets i f (whole.puts i) whole.closed.book longer (whole.puts_are lay.closed i f there is))

  -- no node of the part shows a variable of a first part
  clear : (k : ℕ) (first : known.FirstPart) → get nat_cmp old.firsts k ≡ Some first → (t : Scheme) → known_in lets k ≡ Some t → (list : List Put) (node : ℕ → ℕ) → ArePutsOfEdges (λ s n. n ≡ node s) t.automaton.flows first.variable list
      → AreClear b.book (IsPartNode b.book (place_of it.laid.places) (place_of places)) list
  clear k first there t is list node edges =
      part_clear b.book (place_of it.laid.places) (place_of places) it.posing.automaton type.automaton it.solved.posed.closed (IsRelatedIn (constraint_of it.posing)) (IsIn it.is_laid.pairs) stands.0.layout closed.book list
      (λ s x shows. variables_apart (λ q n. n ≡ node q) t.automaton.flows first.variable list edges x (apart stands.0.layout.type s x shows k first there t is))

  abbrev list_of : ℕ → List Put
  list_of = put_list b it.posing part.nodes old.known.globals lets it.laid.places (place_of places) own old.globals old.firsts said whole.puts

  has_lines : (lines : HasLines b old.known.globals lets (steps_of old.steps.lines) said r (env_of (type_binders type places)) (place_of places type.root.0) (flat_map whole.plan part.nodes ++ whole.lines) part.nodes binders.around it.posing type it.is_laid.pairs ready.partner) × (lines.number ≡ number)
  has_lines =
      part_lines made it.posing it.solution.found it.is_laid.pairs type places it.laid lay type_laid it.solved.related b old.globals old.firsts old.known.lets part.nodes old.steps steps book number whole longer stands rise
      (names_of old.globals old.firsts said list_of) (are_names b.term_nodes old.globals old.firsts b.lets said are_said list_of)
      (put_in b it.posing part.nodes old.known.globals lets it.laid.places (place_of places) own old.globals old.firsts said whole.puts)
      r (last_same whole.earlier ready.earlier whole.root r (sym whole.last ∙ ready.last))
      old.known.globals lets binders.around said (map (λ (first : FirstPart). first.number) said)
      (is_place b it.posing part.nodes old.known.globals lets it.laid.places (place_of places) own old.globals old.firsts said whole.puts reads stand) ready.partner
      (λ k there. numbers_known b.term_nodes old.globals old.firsts b.lets said are_said list_of k there)
      (uses_read b it.posing part.nodes old.known.globals lets it.laid.places (place_of places) own old.globals old.firsts said whole.puts reads stand closed (λ s. stands.0.places s) are_schemes are_said known_firsts name_types own_lets puts_are clear)
      ready.partner_is

  pub part_done : IsPartDone b said r type places old steps number
  part_done = record {
    plan = flat_map whole.plan part.nodes ++ whole.lines;
    written = ready_written b old.known.globals lets (steps_of old.steps.lines) said r (env_of (type_binders type places)) (place_of places type.root.0) (flat_map whole.plan part.nodes ++ whole.lines) part.nodes binders it.posing type it.is_laid.pairs ready has_lines.0;
    number_is =
        ready_number b old.known.globals lets (steps_of old.steps.lines) said r (env_of (type_binders type places)) (place_of places type.root.0) (flat_map whole.plan part.nodes ++ whole.lines) part.nodes binders it.posing type it.is_laid.pairs ready has_lines.0
        ∙ has_lines.1;
    more = whole.adds.more;
    lines = whole.adds.lines;
    are = subst (λ (l : List Node). AreLinesOf l (steps_of old.steps.lines) (flat_map whole.plan part.nodes ++ whole.lines) whole.adds.more) (sym longer.1) (whole.adds.are longer.0);
  }
