-- What is written for a part, while a draft goes on, is what is told of a section.
--     adds_first_part      for the first part of a let
--     adds_whole           for the whole term
--     last_root            the root of a part that is the first part of no let is the last node
--     has_nodes            a part has its root
--     no_last              a root of no part is not the last node
--     part_comes           with the part, one root more has come
--     two_closed           a closed book stays closed with a `Bot` and a `Top` behind it
--     places_low           the places of a type that was read are nodes of such a book
use Rattle.std.proofs.Common.{◌≡◌, ◌≢◌, ◌∙◌, inl, inr, ℕ, zero, suc, ◌+◌, ◌<◌, ◌≤◌, arith, Bool, List, [], ◌∷◌, ◌++◌, length, true, false, Option, Some, None, refl, sym, ap, subst}
use Rattle.std.specs.Prelude.{All, Contains, IsSome, OnOk, Result, cond, is_some}
use Rattle.std.proofs.lemmas.List.{length_push}
use Rattle.std.proofs.lemmas.Result.{on_ok_weaker}
use Rattle.std.specs.BTreeMap.{BTreeMap, Updates, get}
use Rattle.std.specs.Ordering.{nat_cmp}
use Rattle.mls_book.specs.declared.book.Node.{Node}
use Rattle.mls_book.specs.declared.book.Node.TheVariants as node
use Rattle.mls_book.specs.Books.{IsClosedBook}
use Rattle.mls_book.proofs.LongerBooks.{below_or_more}
use Rattle.mls_automaton.specs.declared.automaton.Polarity.{Polarity}
use Rattle.mls_automaton.specs.declared.automaton.Polarity.TheVariants.{Negative, Positive}
use Rattle.mls_automaton.specs.declared.scheme.Scheme.{Scheme}
use Rattle.mls_automaton.specs.Automata.{polarity_at}
use Rattle.mls_term.specs.declared.term.TermForm.{TermForm}
use Rattle.mls_term.specs.declared.term.TermForm.TheVariants as form
use Rattle.mls_term.specs.declared.term.TermNode.{TermNode}
use Rattle.mls_typetext.specs.declared.scheme.ReadScheme.{ReadScheme}
use Rattle.mls_scheme.specs.ReadTypes.{IsReadFromBook}
use Rattle.mls_deriv.specs.Steps.{form_at, HasFrom}
use Rattle.mls_layout.specs.declared.layout.LaidOut.{LaidOut}
use Rattle.mls_layout.specs.declared.layout.Places.{Places}
use Rattle.mls_layout.specs.LaidOut.{node_of, place_of, IsLonger}
use Rattle.mls_layout.specs.Parts.{Constraint}
use Rattle.mls_layout.specs.Trees.{IsOfTree}
use Rattle.mls_layout.proofs.PartsLaidOut.{closed_with}
use Rattle.mls_layout.proofs.TreesMade.{book_pushed}
use Rattle.mls_typenodes.specs.ReadPlaces.{is_in, none_at, states_in_use, AreReadPlaces}
use Rattle.mls_lines.specs.declared.known.FirstPart.{FirstPart}
use Rattle.mls_lines.specs.declared.steps.Steps.{Steps}
use Rattle.mls_lines.specs.PlainLines.{HaveLowPlaces}
use Rattle.mls_lines.specs.PlainParts.{CanWritePart, WritesWhole, type_binders}
use Rattle.mls_parts.specs.declared.pose.KnownTypes.{KnownTypes}
use Rattle.mls_parts.specs.declared.pose.Posing.{Posing}
use Rattle.mls_parts.specs.declared.solve.Solution.{Solution}
use Rattle.mls_parts.specs.declared.split.TermPart.{TermPart}
use Rattle.mls_parts.specs.NodeTypes.{at_top}
use Rattle.mls_parts.specs.PartUses.{KnowTypes}
use Rattle.mls_parts.specs.PosedGoals.{constraint_of}
use Rattle.mls_parts.specs.Posings.{root_in}
use Rattle.mls_parts.specs.TermParts.{AreTermParts, IsFirstPart, IsPartRoot, IsTermPart}
use Rattle.mls_allowed.specs.MadeFirsts.{around_states, IsFirstLaid, IsFirstType, IsNoFirst, IsPartLaidOut, IsPartSolved}
use Rattle.mls_allowed.specs.SectionParts.{AddsFirstPart, AddsWhole, HaveCome, IsWholeType, SoFar, more, whole}
use Rattle.mls_emit.specs.declared.derive.section.Draft.{Draft}
use Rattle.mls_emit.specs.PlainSections.{so_far, NamesFirst}

-- a part with its constraint, which is solved, and its type
module _ (nodes : List TermNode) (r : ℕ) (part : TermPart) (p : Posing) (solution : Solution) (around : List ℕ) (type : Scheme) (places : Places) (number : ℕ) where
  -- its lines, behind the nodes of its type
  abbrev pub Lines : (root : ℕ) (list : List ℕ) (made : Draft) (new : Steps) (book : List Node) → Type 0
  Lines root list made new book =
      (laid : LaidOut)
      × IsPartLaidOut made.book p solution root around type places laid
      × ((c : Constraint) (parts : ℕ → List ℕ) → CanWritePart laid made.steps made.globals made.firsts c p parts nodes list → HaveLowPlaces (length laid.book) places
      → WritesWhole made.globals made.firsts made.known.lets c p parts nodes list laid made.steps new book (type_binders type places) (place_of places type.root.0) number)

  -- what was there before these nodes
  abbrev pub Behind : (old : Draft) (made : List Node) (new : Steps) (book : List Node) → Type 0
  Behind old made new book =
      (laid : LaidOut)
      × IsPartLaidOut made p solution (root_in p r) around type places laid
      × ((parts : ℕ → List ℕ) → CanWritePart laid old.steps old.globals old.firsts (constraint_of p) p parts nodes part.nodes → HaveLowPlaces (length laid.book) places
      → WritesWhole old.globals old.firsts old.known.lets (constraint_of p) p parts nodes part.nodes laid old.steps new book (type_binders type places) (place_of places type.root.0) number)

  module _ (old made wrote : Draft) (typed : made ≡ record old { book = made.book; variable = made.variable }) (written : wrote ≡ record made { book = wrote.book; steps = wrote.steps }) (is_part : IsTermPart nodes r part) (know : KnowTypes old.known.globals old.known.lets nodes part.nodes)
      (solved : IsPartSolved nodes old.known part.nodes p solution around) (longer : IsLonger old.book made.book) (root : ℕ) (list : List ℕ) (is_root : root ≡ root_in p r) (is_list : list ≡ part.nodes) (lines : Lines root list made wrote.steps wrote.book) where
    behind : Behind old made.book wrote.steps wrote.book
    behind =
        subst (λ (d : Draft). Lines (root_in p r) part.nodes d wrote.steps wrote.book → Behind old d.book wrote.steps wrote.book) (sym typed)
        (λ (l : Lines (root_in p r) part.nodes (record old { book = made.book; variable = made.variable }) wrote.steps wrote.book). (l.0, l.1, λ parts. l.2 (constraint_of p) parts))
        (subst (λ (xs : List ℕ). Lines (root_in p r) xs made wrote.steps wrote.book) is_list (subst (λ (q : ℕ). Lines q list made wrote.steps wrote.book) is_root lines))

    -- what is known stays
    known_is : wrote.known ≡ old.known
    known_is = (ap (λ (d : Draft). d.known) written) ∙ (ap (λ (d : Draft). d.known) typed)

    firsts_are : wrote.firsts ≡ old.firsts
    firsts_are = (ap (λ (d : Draft). d.firsts) written) ∙ (ap (λ (d : Draft). d.firsts) typed)

    -- the first part of a let
    module _ (new : Draft) (named : new ≡ record wrote { steps = new.steps; known = new.known; firsts = new.firsts }) (node k second : ℕ) (is : form_at nodes node ≡ Some (form.Let k r second)) where
      book_is : new.book ≡ wrote.book
      book_is = λ n. (named n).book

      behind_first : Behind old made.book wrote.steps new.book
      behind_first = subst (Behind old made.book wrote.steps) (sym book_is) behind

      pub adds_first_part : IsFirstType solution.automaton (root_in p r) (around_states p around) type → IsFirstLaid old.book old.variable made.book made.variable type places → NamesFirst (so_far wrote) (so_far new) k number old.variable type places
          → new.known.globals ≡ wrote.known.globals → AddsFirstPart nodes r (so_far old) (so_far new)
      adds_first_part is_type laid names types = record {
        node = node;
        number = k;
        second = second;
        is = is;
        part = part;
        made = made.book;
        type = type;
        places = places;
        steps = wrote.steps;
        step = number;
        adds = record {
          is_part = is_part;
          know = know;
          posing = p;
          solution = solution;
          around = around;
          solved = solved;
          type_longer = longer;
          laid = behind_first.0;
          is_laid = behind_first.1;
          writes = behind_first.2;
        };
        is_type = is_type;
        rise = names.knows.rise;
        laid = subst (λ (v : ℕ). IsFirstLaid old.book old.variable made.book v type places) (sym ((ap (λ (d : Draft). d.variable) named) ∙ (ap (λ (d : Draft). d.variable) written))) laid;
        lines = names.lines;
        count = names.count;
        lets = subst (λ (known : KnownTypes). Updates nat_cmp known.lets new.known.lets k (Some type)) known_is names.knows.updates;
        firsts = subst (λ (firsts : BTreeMap ℕ FirstPart). Updates nat_cmp firsts new.firsts k (Some (record { step = number; root = node_of places type.root.0; env = type_binders type places; variable = old.variable }))) firsts_are names.firsts;
        types = types ∙ ap (λ (known : KnownTypes). known.globals) known_is;
        globals = (ap (λ (d : Draft). d.globals) named) ∙ ((ap (λ (d : Draft). d.globals) written) ∙ (ap (λ (d : Draft). d.globals) typed));
      }

    -- the whole term
    pub adds_whole : (read : ReadScheme) → suc r ≡ length nodes → IsNoFirst nodes r → IsWholeType read old.book made.book type places → AddsWhole nodes read r (so_far old) (so_far wrote)
    adds_whole read is_last no_first is_type = record {
      is_last = is_last;
      no_first = no_first;
      part = part;
      made = made.book;
      type = type;
      places = places;
      step = number;
      adds = record {
        is_part = is_part;
        know = know;
        posing = p;
        solution = solution;
        around = around;
        solved = solved;
        type_longer = longer;
        laid = behind.0;
        is_laid = behind.1;
        writes = behind.2;
      };
      is_type = is_type;
      known = known_is;
      firsts = firsts_are;
      globals = (ap (λ (d : Draft). d.globals) written) ∙ (ap (λ (d : Draft). d.globals) typed);
    }

-- a part has its root
pub has_nodes : (nodes : List TermNode) (r : ℕ) (part : TermPart) → IsTermPart nodes r part → 0 < length part.nodes
has_nodes nodes r part it =
    let root : Contains part.nodes r = it.all r (at_top refl) in
    let low : root.0 < length part.nodes = root.1 in
    omega (arith, low)

-- the root of a part that is the first part of no let
pub last_root : (nodes : List TermNode) (r : ℕ) → IsPartRoot nodes r → IsNoFirst nodes r → suc r ≡ length nodes
last_root nodes r (inl is) none = is
last_root nodes r (inr it) none = absurd (of_form it.1 it.2 it.3)
  where
    of_form : (f : TermForm) → form_at nodes it.0 ≡ Some f → IsFirstPart f r → ⊥
    of_form (form.Bound x) e first = first
    of_form (form.Inner k) e first = first
    of_form (form.Global g) e first = first
    of_form (form.Number value) e first = first
    of_form (form.Truth value) e first = first
    of_form (form.Fun x j) e first = first
    of_form (form.Apply j k) e first = first
    of_form (form.Make parts) e first = first
    of_form (form.Project j label) e first = first
    of_form (form.If j k l) e first = first
    of_form (form.Let k j l) e first = none it.0 k l (subst (λ q. form_at nodes it.0 ≡ Some (form.Let k q l)) (sym first) e)
    of_form (form.Rec x j) e first = first

-- a root of no part
pub no_last : (nodes : List TermNode) (r : ℕ) (parts : BTreeMap ℕ TermPart) → AreTermParts nodes parts → get nat_cmp parts r ≡ None → suc r ≢ length nodes
no_last nodes r parts are none last =
    let some : IsSome (get nat_cmp parts r) = are.there r (inl last) in
    absurd (let wrong : is_some (get nat_cmp parts r) ≡ false = ap is_some none in cc)

-- with the part, one root more has come
pub part_comes : {X E : Type 0} (result : Result X E) (nodes : List TermNode) (read : ReadScheme) (begun : SoFar) (r : ℕ) (old new : SoFar) (of_let : Option ℕ) → HaveCome nodes read begun r old
    → ((k : ℕ) → of_let ≡ Some k → OnOk result (AddsFirstPart nodes r old new)) → (of_let ≡ None → OnOk result (AddsWhole nodes read r old new)) → OnOk result (HaveCome nodes read begun (r + 1) new)
part_comes result nodes read begun r old new (Some k) come first last = on_ok_weaker result (λ (adds : AddsFirstPart nodes r old new). more come adds) (first k refl)
part_comes result nodes read begun r old new None come first last = on_ok_weaker result (λ (adds : AddsWhole nodes read r old new). whole come adds) (last refl)

-- a closed book with two ends behind it
one_of_tree : (v : Node) → IsOfTree v → All IsOfTree (v ∷ [])
one_of_tree v is zero d low = is
one_of_tree v is (suc i) d low = absurd (omega (arith, low))

pub two_closed : (nodes : List Node) → IsClosedBook nodes → IsClosedBook ((nodes ++ node.Bot ∷ []) ++ node.Top ∷ [])
two_closed nodes closed =
    let one : IsClosedBook (nodes ++ node.Bot ∷ []) = closed_with nodes (node.Bot ∷ []) closed (book_pushed nodes node.Bot closed.book tt) (one_of_tree node.Bot tt) in
    closed_with (nodes ++ node.Bot ∷ []) (node.Top ∷ []) one (book_pushed (nodes ++ node.Bot ∷ []) node.Top one.book tt) (one_of_tree node.Top tt)

-- the places of a type that was read are nodes of such a book
module _ (read : ReadScheme) (type : Scheme) (it : IsReadFromBook read type) (old mid new : List Node) (bot top : ℕ) (mid_is : mid ≡ old ++ node.Bot ∷ []) (bot_is : bot ≡ length old) (new_is : new ≡ mid ++ node.Top ∷ []) (top_is : top ≡ length mid)
    (places : Places) (are : AreReadPlaces type bot top places) (from : HasFrom old 0 read.book) where
  long : length mid ≡ length old + 1
  long = ap length mid_is ∙ length_push old node.Bot

  longer : length new ≡ length mid + 1
  longer = ap length new_is ∙ length_push mid node.Top

  bot_low : bot < length new
  bot_low = omega (arith, long, longer, bot_is)

  -- a node that was read, or one of no member
  either_low : (b : Bool) (q : ℕ) (p : Polarity) → q < length new → cond b q (none_at bot top p) < length new
  either_low true q p low = low
  either_low false q Positive low = bot_low
  either_low false q Negative low = omega (arith, longer, top_is)

  pub places_low : HaveLowPlaces (length new) places
  places_low q = elim (below_or_more q (length type.automaton.states)) [
    | inl low ↦ subst (λ u. u < length new) (sym (are.inside q low)) (either_low (is_in (states_in_use type) q) q (polarity_at type.automaton q) (inside low))
    | inr over ↦ subst (λ u. u < length new) (sym (are.past q (behind over.0 over.1))) bot_low
  ]
    where
      inside : q < length type.automaton.states → q < length new
      inside low =
          let many : length type.automaton.states ≡ length read.book = it.automaton.automaton.same_length in
          let within : 0 + length read.book ≤ length old = from.within in
          omega (arith, low, many, within, long, longer)

      behind : (j : ℕ) → q ≡ length type.automaton.states + j → length type.automaton.states ≤ q
      behind j over = omega (arith, over)
