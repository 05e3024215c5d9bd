-- The rows of the uses of names and of the lets of a part, where the lets before it are known, and so the row of the part at its type.
--     uses, lets          the rows of names and of lets
--     part_has_row        the row of a part
use Rattle.std.proofs.Common.{◌≡◌, inl, inr, ℕ, ◌<◌, List, length, Contains, sym, ap, ◌∙◌, subst, Some}
use Rattle.std.specs.FinMap as env
use Rattle.std.specs.Ordering.{nat_cmp}
use Rattle.mls_book.specs.Books.{IsClosedBook}
use Rattle.mls_book.specs.Schemes.{Env}
use Rattle.mls_automaton.specs.declared.automaton.Polarity.TheVariants.{Positive, Negative}
use Rattle.mls_automaton.specs.declared.scheme.Scheme.{Scheme}
use Rattle.mls_automaton.specs.Automata.{Automaton, polarity_at}
use Rattle.mls_automaton.specs.Models.{IsClosed}
use Rattle.mls_automaton.proofs.Instances.{AreGoals}
use Rattle.mls_solver.specs.Relations.{IsRelated}
use Rattle.mls_solver.specs.Clashes.{HasNoClash}
use Rattle.mls_solver.specs.Solved.{IsSolved}
use Rattle.mls_subsume.specs.declared.verdict.StatePair.{StatePair}
use Rattle.mls_subsume.specs.Walks.{IsIn, IsWalk}
use Rattle.mls_term.specs.declared.term.TermForm.TheVariants as form
use Rattle.mls_term.specs.Terms.{TermTree}
use Rattle.mls_deriv.specs.declared.derivation.StepLine.{StepLine}
use Rattle.mls_deriv.specs.Steps.{env_of, IsRising, form_at, Before, Says}
use Rattle.mls_layout.specs.Layouts.{IsLayout}
use Rattle.mls_layout.specs.Lets.{FirstPart, KnowsLets, after, HasRowWhere}
use Rattle.mls_layout.specs.Posed.{IsPosed}
use Rattle.mls_layout.specs.PosedUses.{AreBound, IsCopy, IsGlobalUse, IsInnerUse, IsLetUse, IsUseOf, IsUse}
use Rattle.mls_layout.specs.Rows.{at, concluded, Fits, Leads, HasRow}
use Rattle.mls_layout.specs.Scopes.{entries}
use Rattle.mls_allowed.proofs.Ends.{type_part}
use Rattle.mls_allowed.proofs.LetsEmitted.{let_part}
use Rattle.mls_allowed.proofs.NamesEmitted.{global_row, inner_row}
use Rattle.mls_allowed.proofs.PartEmitted.{HasUses, HasLets, emitted}
use Rattle.mls_allowed.proofs.Rows.{leads_still, leads_then, row_after}
use Rattle.mls_lines.proofs.Scopes.{found_in, found_back, other_rising}

module _ (b : Before) (a : Automaton) (IsGoal : ℕ → ℕ → Type 0) (closed : IsClosed a) (goals : AreGoals a IsGoal) (free : HasNoClash a (IsRelated a IsGoal))
    (general special : Scheme) (is_solved : IsSolved a (IsRelated a IsGoal) general.automaton) (closed_type : IsClosed special.automaton)
    (walked : List StatePair) (walk : IsWalk general special walked)
    (place type_place : ℕ → ℕ) (layout : IsLayout b.book a special.automaton (IsRelated a IsGoal) (IsIn walked) place type_place)
    (closed_book : IsClosedBook b.book) (low : (s i : ℕ) → Contains (layout.parts s) i → i < length b.book)
    (places : (s : ℕ) → place s < length b.book) (values : (n : ℕ) → layout.value n < length b.book)
    (root binder : ℕ → ℕ) (firsts : List FirstPart) (IsPlace IsFree : ℕ → ℕ → Type 0) where
  abbrev node_of : ℕ → ℕ
  node_of x = place (binder x)

  abbrev Use : List ℕ → ℕ → Type 0
  Use = IsUse b a place firsts root binder IsPlace IsFree

  abbrev Ordered : List ℕ → Type 0
  Ordered scope = IsRising (entries node_of scope)

  module _ (start : List StepLine) (lines : List (ℕ × ℕ)) (knows : KnowsLets (after b start lines) firsts) where
    abbrev c : Before
    c = after b start lines

    abbrev Row : List StepLine → List ℕ → ℕ → Type 0
    Row steps scope i = HasRow c steps i (env_of (entries node_of scope)) (place (root i))

    fits_nodes : (node : ℕ → ℕ) (scope : List ℕ) → ((x : ℕ) → node x < length b.book) → IsRising (entries node scope) → (t : ℕ) → t < length b.book → Fits c (entries node scope) t
    fits_nodes node scope inside rising t h = record {
      scheme = record {
        book = closed_book;
        root = h;
        env = λ y k found. subst (λ z. z < length b.book) (sym (found_back node scope y k found).1) (inside y);
      };
      rising = rising;
    }

    fits : (scope : List ℕ) → Ordered scope → (t : ℕ) → t < length b.book → Fits c (entries node_of scope) t
    fits scope rising t h = fits_nodes node_of scope (λ x. places (binder x)) rising t h

    -- what the step of a let line says is said of all steps behind it
    said : (steps : List StepLine) → Leads c start steps → (first : FirstPart) → (there : Contains firsts first) → Says (at c steps) (knows first there).number first.part (concluded c first.env first.type)
    said steps leads first there = leads.kept (knows first there).number first.part (concluded c first.env first.type) (knows first there).says

    bound_in : (scope : List ℕ) (i top : ℕ) (copied : IsCopy b a place firsts root binder IsPlace IsFree i top) (d : Env) → AreBound b a place firsts root binder IsPlace IsFree scope i top copied d
        → (x n : ℕ) → env.get d x ≡ Some n
        → (s : ℕ) × (n ≡ copied.known_place s) × IsPlace i s × (copied.sign s ≡ Negative) × (env.get (env_of (entries node_of scope)) x ≡ Some (place (copied.copy s)))
    bound_in scope i top copied d bound x n found =
        let it = bound x n found in
        (it.1, it.2, it.3, it.4, found_in node_of scope x it.0 ∙ ap (λ z. Some (place z)) (sym it.5))

    global_emitted : (scope : List ℕ) (i g : ℕ) → Ordered scope → form_at b.term_nodes i ≡ Some (form.Global g) → IsGlobalUse b a place firsts root binder IsPlace IsFree i g
        → (steps : List StepLine) → Row steps scope i
    global_emitted scope i g rising is_form it steps =
        subst (λ z. HasRow c steps i (env_of (entries node_of scope)) (place z)) it.is_root
        (global_row c a special.automaton (IsRelated a IsGoal) (IsIn walked) place type_place layout (IsPlace i) it.top it.copied steps i (entries node_of scope)
        (fits scope rising (place (it.copied.copy it.top)) (places (it.copied.copy it.top)))
        g it.from it.scheme is_form it.known it.stands it.type it.inside closed_book)

    inner_emitted : (scope : List ℕ) (i k : ℕ) → Ordered scope → form_at b.term_nodes i ≡ Some (form.Inner k) → IsInnerUse b a place firsts root binder IsPlace IsFree scope i k
        → (steps : List StepLine) → Leads c start steps → Row steps scope i
    inner_emitted scope i k rising is_form it steps leads =
        let known = knows it.first it.known in
        let t = it.copied.known_place it.top in
        subst (λ z. HasRow c steps i (env_of (entries node_of scope)) (place z)) it.is_root
        (inner_row c a special.automaton (IsRelated a IsGoal) (IsIn walked) place type_place layout (IsPlace i) it.top it.copied steps i (entries node_of scope)
        (fits scope rising (place (it.copied.copy it.top)) (places (it.copied.copy it.top)))
        k known.number it.first.part it.binders is_form
        (subst (λ z. env.find nat_cmp z lines ≡ Some known.number) it.number known.found)
        (subst (λ (d : Env). Says (at c steps) known.number it.first.part (concluded c d t)) it.env
        (subst (λ z. Says (at c steps) known.number it.first.part (concluded c it.first.env z)) it.type (said steps leads it.first it.known)))
        (subst (λ z. Fits c it.binders z) it.type (record { scheme = it.fits.scheme; rising = it.fits.rising }))
        (λ x n found. bound_in scope i it.top it.copied it.first.env it.bound x n (ap (λ (d : Env). env.get d x) it.env ∙ found)))

    uses : HasUses c a IsGoal closed goals free general special is_solved closed_type walked walk place type_place layout closed_book low places values root binder Use start
    uses scope i rising (inl (k, is_form)) there steps leads =
        inner_emitted scope i k rising is_form (subst (IsUseOf b a place firsts root binder IsPlace IsFree scope i) is_form there) steps leads
    uses scope i rising (inr (g, is_form)) there steps leads =
        global_emitted scope i g rising is_form (subst (IsUseOf b a place firsts root binder IsPlace IsFree scope i) is_form there) steps

    let_emitted : (scope : List ℕ) (i k j l : ℕ) → Ordered scope → form_at b.term_nodes i ≡ Some (form.Let k j l) → root i ≡ root l
        → IsLetUse b a place firsts root binder IsPlace IsFree scope i k j → (steps : List StepLine) → Leads c start steps → Row steps scope l → Row steps scope i
    let_emitted scope i k j l rising is_form same it steps leads row =
        let known = knows it.first it.known in
        let all : Leads c start row.more = leads_then c start steps row.more leads row.leads in
        row_after c steps row.more i (env_of (entries node_of scope)) (place (root i)) row.leads
        (let_part c a special.automaton (IsRelated a IsGoal) (IsIn walked) place type_place layout (IsPlace i) it.top it.copied (IsFree i) it.free
        row.more known.number row.number i k j l it.first.env it.first.type (place (root i)) it.both (entries node_of scope) is_form
        (subst (λ z. env.find nat_cmp z lines ≡ Some known.number) it.number known.found)
        it.meet
        (subst (λ z. Says (at c row.more) known.number z (concluded c it.first.env it.first.type)) it.part (said row.more all it.first it.known))
        (subst (λ z. Says (at c row.more) row.number l (concluded c (env_of (entries node_of scope)) (place z))) (sym same) row.says)
        (record { scheme = it.fits.scheme; rising = it.fits.rising })
        (fits scope rising (place (root i)) (places (root i)))
        it.free_root
        (λ x n found. let w = found_back node_of scope x n found in subst (IsFree i) (sym w.1) (it.free_binder x w.0))
        (λ x n found. bound_in scope i it.top it.copied it.first.env it.bound x n found))

    lets : HasLets c a IsGoal closed goals free general special is_solved closed_type walked walk place type_place layout closed_book low places values root binder Use start
    lets scope i k j l rising is_form same there steps leads row =
        let_emitted scope i k j l rising is_form same (subst (IsUseOf b a place firsts root binder IsPlace IsFree scope i) is_form there) steps leads row

  -- A part whose constraint has a walk to its type: wherever the lets before are known, it has a row at its type, where the binders around it
  -- have the nodes of the states that theirs are paired with.
  pub part_has_row : (t : TermTree) (scope : List ℕ) (i : ℕ) → Ordered scope → IsPosed b.term_nodes a IsGoal root binder Use scope i t
      → root i ≡ general.root.0 → polarity_at a general.root.0 ≡ Positive
      → ((s : ℕ) → type_place s < length b.book)
      → (partner : ℕ → ℕ) → ((x : ℕ) → Contains scope x → (polarity_at a (binder x) ≡ Negative) × IsIn walked (binder x) (partner x))
      → HasRowWhere b firsts i (env_of (entries (λ x. type_place (partner x)) scope)) (type_place special.root.0)
  part_has_row t scope i rising posed is_root is_positive type_places partner paired start lines knows =
      row_after c' start row.more i (env_of (entries type_node scope)) (type_place special.root.0) row.leads
      (type_part c' a IsGoal closed goals free general special is_solved closed_type walked walk place type_place layout
      row.more row.number i (env_of (entries node_of scope)) (entries type_node scope) is_positive
      (subst (λ z. Says (at c' row.more) row.number i (concluded c' (env_of (entries node_of scope)) (place z))) is_root row.says)
      (fits start lines knows scope rising (place general.root.0) (places general.root.0)).scheme
      (fits_nodes start lines knows type_node scope (λ x. type_places (partner x)) (other_rising node_of type_node scope rising) (type_place special.root.0) (type_places special.root.0))
      (λ x k found.
      let w = found_back node_of scope x k found in
      let it = paired x w.0 in
      (binder x, partner x, w.1, it.0, it.1, found_in type_node scope x w.0)))
    where
      c' : Before
      c' = after b start lines

      type_node : ℕ → ℕ
      type_node x = type_place (partner x)

      row : HasRow c' start i (env_of (entries node_of scope)) (place (root i))
      row =
          emitted c' a IsGoal closed goals free general special is_solved closed_type walked walk place type_place layout closed_book low places values root binder Use
          start (uses start lines knows) (lets start lines knows) t scope i rising posed start (leads_still c' start)
