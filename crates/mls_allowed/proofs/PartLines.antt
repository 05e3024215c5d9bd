-- The lines of a part, as they are told of what was laid out for it and of its nodes, are those of a part that is ready:
-- what is left to be shown of them is what uses of names and lets ask for.
--     type_binder         a binder of a type has the node of its state
--     type_fits           the environment and the type of a part are there
--     StandsIn            what is laid out for a part stands in a book, with the parts that its states had
--     stands_in           it stands in each longer book that is closed
--     can_write           the nodes of the part can be written over it
--     type_places_low     the nodes of the type are nodes of its book
--     part_lines          the lines of the part, with the number of the last step
use Rattle.std.proofs.Common.{◌≡◌, ◌≢◌, ◌⊎◌, inl, inr, ℕ, ◌<◌, ◌==◌, Bool, true, false, List, [], ◌∷◌, ◌++◌, length, map, refl, sym, ap, ◌∙◌, subst, Contains, Option, Some, None}
use Rattle.std.specs.Prelude.{IsTrue, cond, find, option_map}
use Rattle.std.specs.List.{flat_map}
use Rattle.std.specs.BTreeMap.{BTreeMap}
use Rattle.std.specs.FinMap as env
use Rattle.std.specs.Ordering.{nat_cmp, eq_by_cmp}
use Rattle.std.proofs.lemmas.Bool.Decides.{eqb_tells}
use Rattle.mls_book.specs.declared.book.Node.{Node}
use Rattle.mls_book.specs.Books.{IsClosedBook}
use Rattle.mls_automaton.specs.declared.scheme.EnvEntry.{EnvEntry}
use Rattle.mls_automaton.specs.declared.scheme.Scheme.{Scheme}
use Rattle.mls_automaton.specs.Environments.{BindersRise}
use Rattle.mls_automaton.specs.Schemes.{state_of}
use Rattle.mls_solver.specs.Relations.{IsGoal, IsRelated}
use Rattle.mls_solver.specs.Rooms.{HoldsJust, Room}
use Rattle.mls_subsume.specs.declared.verdict.StatePair.{StatePair}
use Rattle.mls_term.specs.declared.term.TermNode.{TermNode}
use Rattle.mls_deriv.specs.declared.derivation.BinderNode.{BinderNode}
use Rattle.mls_deriv.specs.Sections.{steps_of}
use Rattle.mls_deriv.specs.Steps.{env_of, Before}
use Rattle.mls_layout.specs.declared.layout.Places.{Places}
use Rattle.mls_layout.specs.declared.layout.LaidOut.{LaidOut}
use Rattle.mls_layout.specs.LaidOut.{place_of, HasOwnParts, IsLonger, LaysOut}
use Rattle.mls_layout.specs.Layouts.{IsTypeLayout}
use Rattle.mls_layout.specs.Lets.{FirstPart}
use Rattle.mls_layout.specs.Parts.{IsLaidOut}
use Rattle.mls_layout.specs.Plans.{planned_steps}
use Rattle.mls_layout.specs.Rows.{Fits}
use Rattle.mls_layout.specs.Scopes.{entry}
use Rattle.mls_layout.proofs.LongerLayouts.{laid_out_kept}
use Rattle.mls_parts.specs.declared.pose.Posing.{Posing}
use Rattle.mls_parts.specs.PosedGoals.{constraint_of}
use Rattle.mls_parts.specs.PosedParts.{IsPartList, IsPartPosed}
use Rattle.mls_parts.specs.Posings.{binder_in, root_in}
use Rattle.mls_lines.specs.declared.known.FirstPart as known
use Rattle.mls_lines.specs.declared.known.GlobalAt.{GlobalAt}
use Rattle.mls_lines.specs.declared.steps.Steps.{Steps}
use Rattle.mls_lines.specs.Conclusions.{IsBrought}
use Rattle.mls_lines.specs.NodeLines.{NamesKnown}
use Rattle.mls_lines.specs.PlainLines.{AreNamesOf, HaveLowFirsts, HaveLowGlobals, HaveLowPlaces, HaveRisingFirsts}
use Rattle.mls_lines.specs.PlainParts.{ArePutInAt, CanWritePart, WritesWhole, type_binders}
use Rattle.mls_lines.specs.Stepping.{AreCounted}
use Rattle.mls_lines.specs.Writings.{IsWriting}
use Rattle.mls_lines.proofs.Scopes.{got, itself_key, looked, same_key}
use Rattle.mls_lines.proofs.WholeParts.{binders_rising}
use Rattle.mls_allowed.specs.PartNodes.{IsPartNode}
use Rattle.mls_allowed.specs.ReadyParts.{HasLines, IsUseAround}
use Rattle.mls_allowed.specs.WrittenUses.{IsUseRead}
use Rattle.mls_allowed.proofs.ReadyParts.{from_related, to_related}

module _ (places : Places) where
  abbrev nodes_of : List EnvEntry → List BinderNode
  nodes_of entries = map (λ (e : EnvEntry). entry e.binder (place_of places e.state.0)) entries

  looked_type : (entries : List EnvEntry) (x : ℕ) → looked (nodes_of entries) x ≡ option_map (place_of places) (state_of entries x)
  looked_type [] x = refl
  looked_type (e ∷ rest) x = by_test (eqb_tells e.binder x) (eq_by_cmp nat_cmp x e.binder) refl (looked_type rest x)
    where
      by_test : (((e.binder == x) ≡ true) × (e.binder ≡ x)) ⊎ (((e.binder == x) ≡ false) × (e.binder ≢ x)) → (t : Bool) → eq_by_cmp nat_cmp x e.binder ≡ t
          → looked (nodes_of rest) x ≡ option_map (place_of places) (state_of rest x)
          → looked (nodes_of (e ∷ rest)) x ≡ option_map (place_of places) (state_of (e ∷ rest) x)
      by_test (inl same) true is later =
          ap (λ t. cond t (Some (place_of places e.state.0)) (looked (nodes_of rest) x)) is
          ∙ sym (ap (λ t. option_map (place_of places) (option_map (λ (other : EnvEntry). other.state.0) (cond t (Some e) (find (λ (other : EnvEntry). other.binder == x) rest)))) same.0)
      by_test (inl same) false is later = let yes : eq_by_cmp nat_cmp x e.binder ≡ true = ap (eq_by_cmp nat_cmp x) same.1 ∙ itself_key x in absurd (cc)
      by_test (inr unlike) true is later = absurd (unlike.1 (sym (same_key x e.binder is)))
      by_test (inr unlike) false is later =
          ap (λ t. cond t (Some (place_of places e.state.0)) (looked (nodes_of rest) x)) is
          ∙ (later ∙ sym (ap (λ t. option_map (place_of places) (option_map (λ (other : EnvEntry). other.state.0) (cond t (Some e) (find (λ (other : EnvEntry). other.binder == x) rest)))) unlike.0))

  pub type_binder : (s : Scheme) (x : ℕ) → env.get (env_of (type_binders s places)) x ≡ option_map (place_of places) (state_of s.env x)
  type_binder s x = got (type_binders s places) x ∙ looked_type s.env x

  pub type_fits : (b : Before) (s : Scheme) → IsClosedBook b.book → ((n : ℕ) → place_of places n < length b.book) → BindersRise s.env → Fits b (type_binders s places) (place_of places s.root.0)
  type_fits b s closed inside rise = record {
    scheme = record { book = closed; root = inside s.root.0; env = λ x i found. low x i (state_of s.env x) refl found };
    rising = binders_rising places s rise;
  }
    where
      low : (x i : ℕ) (o : Option ℕ) → state_of s.env x ≡ o → env.get (env_of (type_binders s places)) x ≡ Some i → i < length b.book
      low x i None none found = let nothing : env.get (env_of (type_binders s places)) x ≡ None = type_binder s x ∙ ap (option_map (place_of places)) none in absurd (cc)
      low x i (Some n) some found =
          let there : env.get (env_of (type_binders s places)) x ≡ Some (place_of places n) = type_binder s x ∙ ap (option_map (place_of places)) some in
          let is : place_of places n ≡ i = cc in
          subst (λ k. k < length b.book) is (inside n)

-- what was laid out for a part behind the nodes of its type
module _ (old : List Node) (p : Posing) (found : Room) (pairs : List StatePair) (special : Scheme) (places : Places) (laid : LaidOut) (lays : LaysOut old p.automaton found pairs (place_of places) laid.book (place_of laid.places) laid.own laid.boolean laid.integer) (type : IsTypeLayout old special.automaton (place_of places))
    (related : HoldsJust found (IsRelated p.automaton (IsGoal p.goals))) where
  abbrev both : (l : IsLaidOut laid.book (constraint_of p) special pairs (place_of laid.places) (place_of places)) × HasOwnParts laid.book laid.own laid.boolean laid.integer p.automaton l.layout.parts
  both = lays.laid_out (constraint_of p) special refl (λ q m. (λ held. to_related p q m ((related q m).0 held), λ is. (related q m).1 (from_related p q m is))) type

  -- the nodes of the parts of each state
  abbrev pub own_parts : ℕ → List ℕ
  own_parts = both.0.layout.parts

  -- it stands in this book, with these parts
  abbrev pub StandsIn : List Node → Type 0
  StandsIn book = (l : IsLaidOut book (constraint_of p) special pairs (place_of laid.places) (place_of places)) × (l.layout.parts ≡ own_parts)

  pub stands_in : (rest : List Node) → IsClosedBook (laid.book ++ rest) → StandsIn (laid.book ++ rest)
  stands_in rest closed = laid_out_kept laid.book rest lays.closed (constraint_of p) special pairs (place_of laid.places) (place_of places) closed both.0

  pub can_write : (nodes : List TermNode) (globals lets : BTreeMap ℕ Scheme) (binders members : List ℕ) (begun : Steps) (globals_at : BTreeMap ℕ GlobalAt) (firsts : BTreeMap ℕ known.FirstPart) → IsPartPosed nodes globals lets binders members p → IsPartList nodes members → AreCounted begun → HaveRisingFirsts firsts
      → HaveLowFirsts (length laid.book) firsts → HaveLowGlobals (length laid.book) globals_at → CanWritePart laid begun globals_at firsts (constraint_of p) p own_parts nodes members
  can_write nodes globals lets binders members begun globals_at firsts posed list counted rising low_firsts low_globals = record {
    list = list;
    counted = counted;
    own_parts = both.1;
    rising = rising;
    closed = lays.closed;
    places = both.0.places;
    low_firsts = low_firsts;
    low_globals = low_globals;
    posed = posed.posed_at;
  }

  pub type_places_low : HaveLowPlaces (length laid.book) places
  type_places_low = both.0.type_places

  -- its lines, in a book that begins with what was there when they were written
  module _ (b : Before) (globals : BTreeMap ℕ GlobalAt) (firsts : BTreeMap ℕ known.FirstPart) (known_lets : BTreeMap ℕ Scheme) (members : List ℕ) (begun new : Steps) (book : List Node) (number : ℕ)
      (whole : WritesWhole globals firsts known_lets (constraint_of p) p own_parts b.term_nodes members laid begun new book (type_binders special places) (place_of places special.root.0) number) (longer : IsLonger book b.book) (stands : StandsIn b.book) (rise : BindersRise special.env)
      (names : NamesKnown) (are : AreNamesOf globals firsts names) (put_in : ArePutInAt whole.puts names members) where
    abbrev Writes : (ℕ → List ℕ) → Type 0
    Writes parts = (w : IsWriting b (constraint_of p) (record { root = root_in p; binder = binder_in p; place = place_of laid.places; parts = parts }) names (steps_of begun.lines) members) × (w.plan ≡ whole.plan) × (w.of ≡ whole.of)

    writes : Writes stands.0.layout.parts
    writes = subst Writes (sym stands.1) (whole.writing b longer refl names are put_in)

    pub part_lines : (root : ℕ) → whole.root ≡ root → (own_globals lets : BTreeMap ℕ Scheme) (around : List ℕ) (known : List FirstPart) (names_of : List ℕ) (is_place : ℕ → ℕ → Bool) (partner : ℕ → ℕ)
        → ((k : ℕ) → Contains names_of k → Contains known (names.first k) × ((names.first k).number ≡ k) × (env.find nat_cmp k b.lets ≡ Some (names.step k)))
        → ((scope : List ℕ) (i : ℕ) → IsUseAround b.term_nodes own_globals lets p members scope i → IsUseRead b p.automaton (record { root = root_in p; binder = binder_in p; place = place_of laid.places; parts = own_parts }) names names_of (λ j s. IsTrue (is_place j s)) (IsPartNode b.book (place_of laid.places) (place_of places)) scope i)
        → ((x : ℕ) → Contains around x → state_of special.env x ≡ Some (partner x))
        → (it : HasLines b own_globals lets (steps_of begun.lines) known root (env_of (type_binders special places)) (place_of places special.root.0) (flat_map whole.plan members ++ whole.lines) members around p special pairs partner) × (it.number ≡ number)
    part_lines root root_is own_globals lets around known names_of is_place partner are_known uses partners = (
      record {
        place = place_of laid.places;
        type_place = place_of places;
        laid_out = stands.0;
        names = names;
        names_of = names_of;
        are_known = are_known;
        is_place = is_place;
        uses = subst
            (λ parts. (scope : List ℕ) (i : ℕ) → IsUseAround b.term_nodes own_globals lets p members scope i → IsUseRead b p.automaton (record { root = root_in p; binder = binder_in p; place = place_of laid.places; parts = parts }) names names_of (λ j s. IsTrue (is_place j s)) (IsPartNode b.book (place_of laid.places) (place_of places)) scope i)
            (sym stands.1) uses;
        writing = writes.0;
        binders = type_binders special places;
        fits = type_fits places b special stands.0.closed stands.0.type_places rise;
        envs = λ x there. type_binder places special x ∙ ap (option_map (place_of places)) (partners x there);
        env = refl;
        is_type = refl;
        lines = whole.lines;
        number = number;
        brought =
            subst (λ i. IsBrought (writes.0.of i) (length (steps_of begun.lines ++ planned_steps (flat_map writes.0.plan members))) i (type_binders special places) (place_of places special.root.0) whole.lines number) root_is
            (brought_to (sym writes.1) (sym writes.2));
        is_plan = ap (λ plan. flat_map plan members ++ whole.lines) (sym writes.1);
        no_lets = whole.adds.no_lets;
      },
      refl,
    )
      where
        brought_to : whole.plan ≡ writes.0.plan → whole.of ≡ writes.0.of
            → IsBrought (writes.0.of whole.root) (length (steps_of begun.lines ++ planned_steps (flat_map writes.0.plan members))) whole.root (type_binders special places) (place_of places special.root.0) whole.lines number
        brought_to plans ofs =
            subst (λ of. IsBrought (of whole.root) (length (steps_of begun.lines ++ planned_steps (flat_map writes.0.plan members))) whole.root (type_binders special places) (place_of places special.root.0) whole.lines number) ofs
            (subst (λ plan. IsBrought (whole.of whole.root) (length (steps_of begun.lines ++ planned_steps (flat_map plan members))) whole.root (type_binders special places) (place_of places special.root.0) whole.lines number) plans whole.brought)
