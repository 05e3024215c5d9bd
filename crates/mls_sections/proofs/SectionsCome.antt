-- The parts of a section that have come are written, in the book of the whole section.
--     Ready               what holds of a term and of the types of its lets, so that its parts are ready
--     kept_first          a type that becomes known leaves the others as they are
--     HasWritten          what is written of the parts so far
--     come_written        the parts that have come
--     last_part           the last of them is the whole term
use Rattle.std.proofs.Common.{◌≡◌, ◌≢◌, ◌⊎◌, inl, inr, ℕ, suc, ◌+◌, ◌<◌, ◌≤◌, List, [], ◌∷◌, ◌++◌, length, refl, sym, ap, ◌∙◌, subst, arith, Contains, append_assoc, length-append, Some, None}
use Rattle.std.specs.Prelude.{IsSome, is_some}
use Rattle.std.specs.BTreeMap.{BTreeMap, get}
use Rattle.std.specs.FinMap as env
use Rattle.std.specs.Ordering.{nat_cmp}
use Rattle.std.proofs.lemmas.List.Elements.{Contains-push, Contains-push_cases, Contains-append_left}
use Rattle.mls_book.specs.declared.book.Node.{Node}
use Rattle.mls_book.specs.Books.{IsClosedBook}
use Rattle.mls_automaton.specs.declared.scheme.Scheme.{Scheme}
use Rattle.mls_term.specs.declared.term.TermForm.TheVariants as form
use Rattle.mls_term.specs.declared.term.TermNode.{TermNode}
use Rattle.mls_term.specs.Derivations.{Known}
use Rattle.mls_term.specs.WellFormed.{IsTerm, HasRisingTree}
use Rattle.mls_typetext.specs.declared.scheme.ReadScheme.{ReadScheme}
use Rattle.mls_typing.proofs.Lists.{Contains-here}
use Rattle.mls_deriv.specs.declared.derivation.SectionLine.{SectionLine}
use Rattle.mls_deriv.specs.declared.derivation.SectionLine.TheVariants as line
use Rattle.mls_deriv.specs.declared.derivation.StepLine.{StepLine}
use Rattle.mls_deriv.specs.Sections.{schemes_of, steps_of}
use Rattle.mls_deriv.specs.Steps.{env_of, form_at, Before}
use Rattle.mls_layout.specs.LaidOut.{node_of, place_of, IsLonger, IsTypeLaidOut}
use Rattle.mls_layout.specs.Layouts.{IsTypeLayout}
use Rattle.mls_layout.specs.Lets.{FirstPart, HaveOwnNumbers, after}
use Rattle.mls_layout.specs.Plans.{PlannedLine, a_let, planned_steps, AreLinesOf}
use Rattle.mls_layout.specs.Uses.{Shows}
use Rattle.mls_layout.specs.Walks.{AreMet}
use Rattle.mls_layout.proofs.LongerLayouts.{type_laid_kept}
use Rattle.mls_parts.specs.PosedModels.{AreOver}
use Rattle.mls_parts.specs.Posings.{known_in, root_in}
use Rattle.mls_parts.specs.SolvedTypes.{solved_scheme}
use Rattle.mls_parts.specs.TreeNodes.{AreTreeNodes}
use Rattle.mls_parts.proofs.TreeNodes.{form_low, tree_nodes}
use Rattle.mls_typenodes.specs.OneEach.{HasOneEach}
use Rattle.mls_lines.specs.declared.known.FirstPart as first_part
use Rattle.mls_lines.specs.PlainParts.{type_binders}
use Rattle.mls_lines.proofs.Bringing.{lines_joined, lines_steps}
use Rattle.mls_lines.proofs.Growing.{longer_then}
use Rattle.mls_lines.proofs.Runs.{steps_append}
use Rattle.mls_allowed.specs.FirstTypes.{AreFirstsMade, HaveFirstTypes, HaveOwnLets}
use Rattle.mls_sections.specs.KnownFirsts.{AreFirstsKnown, AreFirstsSaid, IsFirstKnown, IsFirstSaid}
use Rattle.mls_sections.specs.KnownNames.{AreGlobalsOf, AreNameTypes}
use Rattle.mls_allowed.specs.LetScopes.{HasScopes}
use Rattle.mls_allowed.specs.MadeFirsts.{around_states}
use Rattle.mls_allowed.specs.ReadyParts.{IsPartReady}
use Rattle.mls_allowed.specs.SectionParts.{AddsFirstPart, AddsWhole, HaveCome, IsBegun, SoFar, start, same, more, whole}
use Rattle.mls_sections.specs.SectionsGoing.{CanGoOn}
use Rattle.mls_allowed.specs.WrittenParts.{AreFirstsWritten}
use Rattle.mls_sections.proofs.FirstsWritten.{firsts_then, no_step, numbers_then}
use Rattle.mls_allowed.proofs.MadeTypes.{firsts_added, made_kept, type_new}
use Rattle.mls_allowed.proofs.OwnLets.{own_lets}
use Rattle.mls_sections.proofs.PartsWritten.{part_done, IsKept, IsPartDone}
use Rattle.mls_allowed.proofs.ReadyFirsts.{first_ready, IsTypedIn}
use Rattle.mls_allowed.proofs.SectionEmitted.{find_kept, find_last, find_other}
use Rattle.mls_allowed.proofs.SectionParts.{come_added, first_made}
use Rattle.mls_sections.proofs.SectionsGo.{come_goes, globals_old, nothing_at, types_same, first_longer, first_made_closed, first_made_longer}
use Rattle.mls_sections.proofs.ShownVariables.{same_shown}
use Rattle.mls_allowed.proofs.Updated.{updated_at, updated_own}

-- What holds of a term and of the types of its lets and names, so that its first parts are ready: it has a type in its
-- place, and the types of first parts were made of these.
pub record Ready (nodes : List TermNode) (known : Known) (let_scope : ℕ → List ℕ) (count binders let_count : ℕ) (term : IsTerm count nodes binders let_count) (globals lets : BTreeMap ℕ Scheme) : Type 0 where
  pub over : AreOver known globals lets
  pub firsts : HaveFirstTypes nodes known globals lets let_scope
  pub typed : IsTypedIn nodes known globals lets over let_scope firsts 0 term.tree
  pub made : AreFirstsMade nodes globals lets let_scope (length nodes)

none_in : {A : Type 0} (x : A) → Contains [] x → ⊥
none_in x there = let low = there.1 in absurd (omega (arith, low))

module _ (b : Before) (read : ReadScheme) (one : (i : ℕ) → i < length read.book → HasOneEach read.book i) (reads : List ReadScheme) (are_schemes : b.globals ≡ schemes_of reads) (closed : IsClosedBook b.book)
    (known_names : Known) (let_scope : ℕ → List ℕ) (count binders let_count : ℕ) (term : IsTerm count b.term_nodes binders let_count) (rising : HasRisingTree b.term_nodes) (scopes : HasScopes let_scope [] term.tree)
    (begun : SoFar) (can : CanGoOn begun) (begins : IsBegun read begun) (variables : read.vars ≤ begun.variable)
    (stand : AreGlobalsOf b.book reads begun.globals) (name_types : AreNameTypes reads begun.known.globals)
    (lets : BTreeMap ℕ Scheme) (is_ready : Ready b.term_nodes known_names let_scope count binders let_count term begun.known.globals lets) where
  abbrev nodes : List TermNode
  nodes = b.term_nodes

  tree : AreTreeNodes nodes
  tree = tree_nodes nodes term.tree term.nodes_are

  own : HaveOwnLets nodes
  own = own_lets count nodes binders let_count term

  -- the section can go on
  pub goes : {r : ℕ} {s : SoFar} → HaveCome nodes read begun r s → CanGoOn s
  goes come = (come_goes nodes tree read one begun can come).0

  -- a type that becomes known leaves the others as they are
  pub kept_first : (r : ℕ) (old new : SoFar) → HaveCome nodes read begun r old → AddsFirstPart nodes r old new → IsKept old.known.lets new.known.lets
  kept_first r old new before it k s known = elim (updated_at old.known.lets new.known.lets it.number it.type it.lets k) [
    | inl at ↦ absurd (type_new nodes begun.known.globals let_scope count binders let_count term rising scopes own old.known.lets r it.node it.number it.second it.is before_made (subst (λ q. IsSome (known_in old.known.lets q)) (sym at.0) (ap is_some known)))
    | inr other ↦ other.1 ∙ known
  ]
    where
      before_made : AreFirstsMade nodes begun.known.globals old.known.lets let_scope r
      before_made =
          firsts_added nodes begun.known.globals let_scope count binders let_count term rising scopes own (types_same nodes read begun before)
          (come_added nodes read begun begins.lets before)

  -- What is written of the parts with roots below this number.
  pub record HasWritten (r : ℕ) (s : SoFar) : Type 0 where
    pub firsts : List FirstPart
    pub plan : List PlannedLine
    pub lines : List (ℕ × ℕ)
    pub written : AreFirstsWritten b [] [] [] firsts plan (steps_of s.steps.lines) lines
    pub are : AreLinesOf b.book [] plan s.steps.lines
    pub said : AreFirstsSaid nodes s.firsts lines firsts
    pub known : AreFirstsKnown b.book lets s.firsts
    pub ranges : (k : ℕ) (first : first_part.FirstPart) → get nat_cmp s.firsts k ≡ Some first → (t : Scheme) → known_in lets k ≡ Some t
        → (read.vars ≤ first.variable) × (first.variable + length t.automaton.flows ≤ s.variable)
    pub variable : read.vars ≤ s.variable
    pub below : (first : FirstPart) → Contains firsts first → first.part < r
    pub only : (k : ℕ) → ((first : FirstPart) → Contains firsts first → first.number ≡ k → ⊥) → env.find nat_cmp k lines ≡ None
    pub own_numbers : HaveOwnNumbers firsts

  nothing_written : HasWritten 0 begun
  nothing_written = record {
    firsts = [];
    plan = [];
    lines = [];
    written = (refl, ap steps_of begins.lines, refl);
    are = begins.lines;
    said = record {
      each = λ first there. absurd (none_in first there);
      all = λ k part there. absurd (let none : get nat_cmp begun.firsts k ≡ None = nothing_at begun.firsts begins.firsts k in cc);
    };
    known = λ k part there. absurd (let none : get nat_cmp begun.firsts k ≡ None = nothing_at begun.firsts begins.firsts k in cc);
    ranges = λ k part there. absurd (let none : get nat_cmp begun.firsts k ≡ None = nothing_at begun.firsts begins.firsts k in cc);
    variable = variables;
    below = λ first there. absurd (none_in first there);
    only = λ k none. refl;
    own_numbers = tt;
  }

  -- One first part more.
  module _ (r : ℕ) (old new : SoFar) (before : HaveCome nodes read begun r old) (it : AddsFirstPart nodes r old new) (kept : IsKept new.known.lets lets) (longer : IsLonger new.book b.book) (so_far : HasWritten r old) where
    can_old : CanGoOn old
    can_old = goes before

    made_closed : IsClosedBook it.made
    made_closed = first_made_closed nodes tree read one r old new can_old it

    laid : IsTypeLaidOut old.book it.type.automaton old.variable it.made (place_of it.places)
    laid = it.laid.layout can_old.closed

    kept_old : IsKept old.known.lets lets
    kept_old k s known = kept k s (kept_first r old new before it k s known)

    type_known : known_in lets it.number ≡ Some it.type
    type_known = kept it.number it.type (updated_own old.known.lets new.known.lets it.number it.type it.lets)

    abbrev now : Before
    now = after b (steps_of old.steps.lines) so_far.lines

    -- the part is ready
    met : AreMet (solved_scheme it.adds.solution.automaton (root_in it.adds.posing r) (around_states it.adds.posing it.adds.solved.binders.around)) it.type it.adds.is_laid.pairs
    met =
        subst (λ (xs : List ℕ). AreMet (solved_scheme it.adds.solution.automaton (root_in it.adds.posing r) (around_states it.adds.posing xs)) it.type it.adds.is_laid.pairs) it.adds.solved.is_around it.adds.is_laid.met

    ready_old : Ready nodes known_names let_scope count binders let_count term old.known.globals lets
    ready_old = subst (λ (gs : BTreeMap ℕ Scheme). Ready nodes known_names let_scope count binders let_count term gs lets) (sym (types_same nodes read begun before)) is_ready

    first_is_ready : IsPartReady nodes old.known.globals lets r it.part.nodes it.adds.solved.binders it.adds.posing it.type it.adds.is_laid.pairs
    unfolding first_made made_kept
    first_is_ready =
        first_ready nodes known_names old.known.globals lets ready_old.over let_scope ready_old.firsts count binders let_count term ready_old.typed it.node it.number r it.second it.is it.type
        (made_kept nodes old.known.globals old.known.lets lets kept_old r it.type
        (first_made nodes old.known r it.part it.adds.is_part it.adds.know it.adds.posing it.adds.solution it.adds.around it.adds.solved it.type it.is_type it.rise))
        rising scopes ready_old.made it.adds.is_laid.pairs met

    from_made : IsLonger it.made b.book
    from_made = longer_then it.made new.book b.book (first_made_longer nodes tree read one r old new can_old it) longer

    type_in_book : IsTypeLaidOut old.book it.type.automaton old.variable b.book (place_of it.places)
    type_in_book =
        subst (λ (l : List Node). IsTypeLaidOut old.book it.type.automaton old.variable l (place_of it.places)) (sym from_made.1)
        (type_laid_kept it.made from_made.0 made_closed old.book it.type.automaton old.variable (place_of it.places) it.laid.inside laid)

    -- its own variables are none of those of earlier first parts
    apart : (layout : IsTypeLayout b.book it.type.automaton (place_of it.places)) (s x : ℕ) → Shows b.book layout.variables s x → (k : ℕ) (first : first_part.FirstPart) → get nat_cmp old.firsts k ≡ Some first → (t : Scheme) → known_in lets k ≡ Some t
        → (x < first.variable) ⊎ (first.variable + length t.automaton.flows ≤ x)
    apart layout s x shows k first there t is =
        let (n, at, ends) = (type_in_book.shown s x).0 (same_shown b.book it.type.automaton (place_of it.places) layout type_in_book.layout s x shows) in
        let range : first.variable + length t.automaton.flows ≤ old.variable = (so_far.ranges k first there t is).1 in
        inr (omega (arith, at, range))

    done : IsPartDone now so_far.firsts r it.type it.places old it.steps it.step
    done =
        part_done now tree r it.part old it.made it.type it.places new.book it.steps it.step it.adds can_old made_closed laid.layout it.rise closed longer reads are_schemes own lets kept_old so_far.firsts so_far.said so_far.known
        (subst (AreGlobalsOf b.book reads) (sym (globals_old nodes read begun before)) stand) (subst (AreNameTypes reads) (sym (types_same nodes read begun before)) name_types) apart it.adds.solved.binders first_is_ready

    abbrev first : FirstPart
    first = record { number = it.number; part = r; env = env_of (type_binders it.type it.places); type = place_of it.places it.type.root.0 }

    abbrev here : first_part.FirstPart
    here = record { step = it.step; root = node_of it.places it.type.root.0; env = type_binders it.type it.places; variable = old.variable }

    -- no earlier first part has its number
    apart_number : (other : FirstPart) → Contains so_far.firsts other → other.number ≢ it.number
    apart_number other there equal =
        let said = so_far.said.each other there in
        let at : form_at nodes said.node ≡ Some (form.Let it.number other.part said.second) = subst (λ k. form_at nodes said.node ≡ Some (form.Let k other.part said.second)) equal said.is in
        let one_node : said.node ≡ it.node = own said.node it.node it.number other.part said.second r it.second at it.is in
        let both : Some (form.Let it.number other.part said.second) ≡ Some (form.Let it.number r it.second) = sym (subst (λ n. form_at nodes n ≡ Some (form.Let it.number other.part said.second)) one_node at) ∙ it.is in
        let root : other.part ≡ r = cc in
        let low : other.part < r = so_far.below other there in
        absurd (omega (arith, root, low))

    first_new : env.find nat_cmp it.number so_far.lines ≡ None
    first_new = so_far.only it.number apart_number

    steps_now : steps_of new.steps.lines ≡ steps_of old.steps.lines ++ planned_steps done.plan
    steps_now =
        ap steps_of it.lines
        ∙ (no_step it.steps.lines it.number it.step
        ∙ (ap steps_of done.lines ∙ (steps_append old.steps.lines done.more ∙ ap (λ (l : List StepLine). steps_of old.steps.lines ++ l) (lines_steps b.book done.plan (steps_of old.steps.lines) done.more done.are))))

    lines_now : AreLinesOf b.book [] (so_far.plan ++ (done.plan ++ a_let it.number done.written.number ∷ [])) new.steps.lines
    lines_now =
        subst (AreLinesOf b.book [] (so_far.plan ++ (done.plan ++ a_let it.number done.written.number ∷ []))) (sym all_lines)
        (lines_joined b.book (done.plan ++ a_let it.number done.written.number ∷ []) (done.more ++ line.Let it.number it.step ∷ []) so_far.plan [] old.steps.lines so_far.are
        (subst (λ (steps : List StepLine). AreLinesOf b.book steps (done.plan ++ a_let it.number done.written.number ∷ []) (done.more ++ line.Let it.number it.step ∷ [])) (lines_steps b.book so_far.plan [] old.steps.lines so_far.are)
        (lines_joined b.book (a_let it.number done.written.number ∷ []) (line.Let it.number it.step ∷ []) done.plan (steps_of old.steps.lines) done.more done.are
        ([], ap (λ n. line.Let it.number n ∷ []) (sym done.number_is), refl))))
      where
        all_lines : new.steps.lines ≡ old.steps.lines ++ (done.more ++ line.Let it.number it.step ∷ [])
        all_lines = it.lines ∙ (ap (λ (l : List SectionLine). l ++ line.Let it.number it.step ∷ []) done.lines ∙ append_assoc old.steps.lines done.more (line.Let it.number it.step ∷ []))

    written_now : AreFirstsWritten b [] [] [] (so_far.firsts ++ first ∷ []) (so_far.plan ++ (done.plan ++ a_let it.number done.written.number ∷ [])) (steps_of new.steps.lines) (so_far.lines ++ (it.number, done.written.number) ∷ [])
    written_now =
        subst (λ (steps : List StepLine). AreFirstsWritten b [] [] [] (so_far.firsts ++ first ∷ []) (so_far.plan ++ (done.plan ++ a_let it.number done.written.number ∷ [])) steps (so_far.lines ++ (it.number, done.written.number) ∷ [])) (sym steps_now)
        (firsts_then b first done.plan [] [] [] so_far.firsts so_far.plan (steps_of old.steps.lines) so_far.lines so_far.written done.written)

    -- what is said of first parts now
    said_now : AreFirstsSaid nodes new.firsts (so_far.lines ++ (it.number, done.written.number) ∷ []) (so_far.firsts ++ first ∷ [])
    said_now = record {
      each = λ other there. elim (Contains-push_cases so_far.firsts first other there) [
        | inl earlier ↦ earlier_said other earlier
        | inr equal ↦ subst (IsFirstSaid nodes new.firsts (so_far.lines ++ (it.number, done.written.number) ∷ [])) equal first_said
      ];
      all = λ k part there. elim (updated_at old.firsts new.firsts it.number here it.firsts k) [
        | inl at ↦ (first, Contains-push so_far.firsts first, at.0)
        | inr other ↦ (let was = so_far.said.all k part (sym other.1 ∙ there) in (was.0, Contains-append_left so_far.firsts (first ∷ []) was.0 was.1, was.2))
      ];
    }
      where
        earlier_said : (other : FirstPart) → Contains so_far.firsts other → IsFirstSaid nodes new.firsts (so_far.lines ++ (it.number, done.written.number) ∷ []) other
        earlier_said other there =
            let said = so_far.said.each other there in
            record {
              part = said.part;
              there = elim (updated_at old.firsts new.firsts it.number here it.firsts other.number) [
                | inl at ↦ absurd (apart_number other there (sym at.0))
                | inr apart_at ↦ apart_at.1 ∙ said.there
              ];
              said = find_kept so_far.lines ((it.number, done.written.number) ∷ []) other.number said.part.step said.said;
              env = said.env;
              type = said.type;
              node = said.node;
              second = said.second;
              is = said.is;
            }

        first_said : IsFirstSaid nodes new.firsts (so_far.lines ++ (it.number, done.written.number) ∷ []) first
        first_said = record {
          part = here;
          there = updated_own old.firsts new.firsts it.number here it.firsts;
          said = find_last so_far.lines it.number done.written.number first_new ∙ ap Some done.number_is;
          env = refl;
          type = refl;
          node = it.node;
          second = it.second;
          is = it.is;
        }

    known_now : AreFirstsKnown b.book lets new.firsts
    known_now k part there = elim (updated_at old.firsts new.firsts it.number here it.firsts k) [
      | inl at ↦ (let both : Some here ≡ Some part = sym at.1 ∙ there in let is : here ≡ part = cc in subst (IsFirstKnown b.book lets k) is (subst (λ q. IsFirstKnown b.book lets q here) at.0 here_known))
      | inr other ↦ so_far.known k part (sym other.1 ∙ there)
    ]
      where
        here_known : IsFirstKnown b.book lets it.number here
        here_known = record {
          type = it.type;
          is_known = type_known;
          is = it.is_type.is;
          rise = it.rise;
          old = old.book;
          places = it.places;
          laid = type_in_book;
          inside = λ s.
              let low : place_of it.places s < length it.made = it.laid.inside s in
              let longer_made : length b.book ≡ length it.made + length from_made.0 = ap length from_made.1 ∙ length-append it.made from_made.0 in
              omega (arith, low, longer_made);
          root = refl;
          env = refl;
        }

    ranges_now : (k : ℕ) (part : first_part.FirstPart) → get nat_cmp new.firsts k ≡ Some part → (t : Scheme) → known_in lets k ≡ Some t → (read.vars ≤ part.variable) × (part.variable + length t.automaton.flows ≤ new.variable)
    ranges_now k part there t is = elim (updated_at old.firsts new.firsts it.number here it.firsts k) [
      | inl at ↦ own_range (let both : Some here ≡ Some part = sym at.1 ∙ there in cc) at.0
      | inr other ↦ earlier_range (so_far.ranges k part (sym other.1 ∙ there) t is)
    ]
      where
        grows : new.variable ≡ old.variable + length it.type.automaton.flows
        grows = it.laid.variables

        own_range : here ≡ part → it.number ≡ k → (read.vars ≤ part.variable) × (part.variable + length t.automaton.flows ≤ new.variable)
        own_range is_here number =
            let both : Some it.type ≡ Some t = sym type_known ∙ (ap (known_in lets) number ∙ is) in
            let type : it.type ≡ t = cc in
            let from : old.variable ≡ part.variable = ap (λ (p : first_part.FirstPart). p.variable) is_here in
            let count : length it.type.automaton.flows ≡ length t.automaton.flows = ap (λ (z : Scheme). length z.automaton.flows) type in
            let high : read.vars ≤ old.variable = so_far.variable in
            (omega (arith, from, high), omega (arith, from, count, grows))

        earlier_range : (read.vars ≤ part.variable) × (part.variable + length t.automaton.flows ≤ old.variable) → (read.vars ≤ part.variable) × (part.variable + length t.automaton.flows ≤ new.variable)
        earlier_range (low, high) = (low, omega (arith, high, grows))

    pub one_more : HasWritten (r + 1) new
    one_more = record {
      firsts = so_far.firsts ++ first ∷ [];
      plan = so_far.plan ++ (done.plan ++ a_let it.number done.written.number ∷ []);
      lines = so_far.lines ++ (it.number, done.written.number) ∷ [];
      written = written_now;
      are = lines_now;
      said = said_now;
      known = known_now;
      ranges = ranges_now;
      variable = let high : read.vars ≤ old.variable = so_far.variable in let grows : new.variable ≡ old.variable + length it.type.automaton.flows = it.laid.variables in omega (arith, high, grows);
      below = λ other there. elim (Contains-push_cases so_far.firsts first other there) [
        | inl earlier ↦ (let low : other.part < r = so_far.below other earlier in omega (arith, low))
        | inr equal ↦ subst (λ (f : FirstPart). f.part < r + 1) equal (omega arith)
      ];
      only = λ k none.
          find_other so_far.lines it.number done.written.number k
          (so_far.only k (λ other there. none other (Contains-append_left so_far.firsts (first ∷ []) other there)))
          (none first (Contains-push so_far.firsts first));
      own_numbers = numbers_then so_far.firsts first so_far.own_numbers apart_number;
    }

  -- the parts that have come before the last
  pub come_written : {r : ℕ} {s : SoFar} → HaveCome nodes read begun r s → r < length nodes → IsKept s.known.lets lets → IsLonger s.book b.book → HasWritten r s
  come_written start low kept longer = nothing_written
  come_written (same {r = r} {old = old} before no_first other) low kept longer =
      let so_far = come_written before (omega (arith, low)) kept longer in
      record {
        firsts = so_far.firsts;
        plan = so_far.plan;
        lines = so_far.lines;
        written = so_far.written;
        are = so_far.are;
        said = so_far.said;
        known = so_far.known;
        ranges = so_far.ranges;
        variable = so_far.variable;
        below = λ first there. (let less : first.part < r = so_far.below first there in omega (arith, less));
        only = so_far.only;
        own_numbers = so_far.own_numbers;
      }
  come_written (more {r = r} {old = old} {new = new} before it) low kept longer =
      one_more r old new before it kept longer
      (come_written before (omega (arith, low)) (λ k s known. kept k s (kept_first r old new before it k s known))
      (longer_then old.book new.book b.book (first_longer nodes tree read one r old new (goes before) it) longer))
  come_written (whole {r = r} before it) low kept longer = let last : suc r ≡ length nodes = it.is_last in absurd (omega (arith, low, last))

  -- The last of them is the whole term.
  pub record HasWhole (s : SoFar) : Type 0 where
    pub root : ℕ
    pub old : SoFar
    pub before : HaveCome nodes read begun root old
    pub adds : AddsWhole nodes read root old s

  pub last_part : {r : ℕ} {s : SoFar} → HaveCome nodes read begun r s → r ≡ length nodes → 0 < length nodes → HasWhole s
  last_part start is some = absurd (omega (arith, is, some))
  last_part (same {r = r} before no_first other) is some = absurd (other (omega (arith, is)))
  last_part (more {r = r} before it) is some =
      let under : r < it.node = tree.below it.node r (form.Let it.number r it.second) it.is (Contains-here r (it.second ∷ [])) in
      let low : it.node < length nodes = form_low nodes it.node (form.Let it.number r it.second) it.is in
      absurd (omega (arith, is, under, low))
  last_part (whole {r = r} {old = old} before it) is some = record { root = r; old = old; before = before; adds = it }
