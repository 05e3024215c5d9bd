-- Over the rows of names and lets, a plan leads to a step about each node of a part, which gives it the root of its state, where each binder
-- around it has the node of its state.
--     emitted
use Rattle.std.proofs.Common.{◌≡◌, ◌⊎◌, inl, inr, ℕ, ◌<◌, Bool, true, false, List, [], ◌∷◌, ◌++◌, length, refl, sym, ap, ◌∙◌, subst, arith, Option, Some, None, cond, bytes_eq}
use Rattle.std.specs.Prelude.{All, Contains, IsSome, ◌↔◌, map, option_map}
use Rattle.std.specs.FinMap as env
use Rattle.std.proofs.lemmas.List.Elements.{All-nil}
use Rattle.std.proofs.lemmas.Slice.Eq.{bytes_eq-Decides}
use Rattle.mls_book.specs.declared.book.NodeId.{NodeId}
use Rattle.mls_book.specs.declared.book.Node.TheVariants as node
use Rattle.mls_book.specs.Books.{field_at, IsOrdered, AreRising, IsClosedBook}
use Rattle.mls_book.specs.Schemes.{Env}
use Rattle.mls_book.proofs.Children.{HasChildrenIn, at_found, closed_children}
use Rattle.mls_automaton.specs.declared.automaton.FieldSet.{FieldSet}
use Rattle.mls_automaton.specs.declared.automaton.HeadKind.TheVariants as kind
use Rattle.mls_automaton.specs.declared.automaton.Polarity.TheVariants.{Positive, Negative}
use Rattle.mls_automaton.specs.declared.scheme.Scheme.{Scheme}
use Rattle.mls_automaton.specs.Automata.{Automaton, polarity_at, head_at, HasFlow}
use Rattle.mls_automaton.specs.Heads.{parts_of, set_at}
use Rattle.mls_automaton.specs.Models.{IsClosed}
use Rattle.mls_automaton.proofs.Instances.{AreGoals}
use Rattle.mls_automaton.proofs.Lists.{Contains-here}
use Rattle.mls_solver.specs.Relations.{IsRelated, goal}
use Rattle.mls_solver.specs.Clashes.{HasNoClash}
use Rattle.mls_solver.specs.Solved.{IsSolved}
use Rattle.mls_subsume.specs.declared.verdict.StatePair.{StatePair}
use Rattle.mls_subsume.specs.Walks.{IsIn, IsWalk}
use Rattle.mls_term.specs.declared.term.Part.{Part}
use Rattle.mls_term.specs.declared.term.TermForm.TheVariants as form
use Rattle.mls_term.specs.Terms.{TermTree, TermFields, bound, inner as a_let_name, global, number as a_number, truth, fun, apply, make, project, choice, local, fix, no_field, a_field}
use Rattle.mls_deriv.specs.declared.derivation.BinderNode.{BinderNode}
use Rattle.mls_deriv.specs.declared.derivation.Mode.{Mode}
use Rattle.mls_deriv.specs.declared.derivation.StepLine.{StepLine}
use Rattle.mls_deriv.specs.Steps.{env_of, IsRising, form_at, Before}
use Rattle.mls_layout.specs.Shown.{based, AreShown}
use Rattle.mls_layout.specs.Trees.{IsTree, IsPlaceIn}
use Rattle.mls_layout.specs.Heads.{IsFieldAt, IsRecordAt, AreParts}
use Rattle.mls_layout.specs.Layouts.{IsLayout, PartClaims, IsItself}
use Rattle.mls_layout.specs.Posed.{IsPosed, ArePosed}
use Rattle.mls_layout.specs.Rows.{at, concluded, Fits, Leads, HasRow, Keeps}
use Rattle.mls_layout.specs.Scopes.{entry, entries}
use Rattle.mls_allowed.proofs.MakeParts.{AllSayRoots, make_part}
use Rattle.mls_allowed.proofs.OneField.{one_field}
use Rattle.mls_allowed.proofs.PartRows.{bound_part, fun_part, apply_part, project_part, choice_part, fix_part, number_part, truth_part}
use Rattle.mls_allowed.proofs.PartClaims.{part_shown}
use Rattle.mls_allowed.proofs.Rows.{leads_then, leads_still, row_after, sub_row}
use Rattle.mls_lines.proofs.Scopes.{found_in, found_back, inner, inner_found, inner_back, inner_kept, inner_removed, inner_rising, pushed_rising}

module _ (b : Before) (a : Automaton) (IsGoal : ℕ → ℕ → Type 0) (closed : IsClosed a) (goals : AreGoals a IsGoal) (free : HasNoClash a (IsRelated a IsGoal))
    (general special : Scheme) (is_solved : IsSolved a (IsRelated a IsGoal) general.automaton) (closed_type : IsClosed special.automaton)
    (walked : List StatePair) (walk : IsWalk general special walked)
    (place type_place : ℕ → ℕ) (layout : IsLayout b.book a special.automaton (IsRelated a IsGoal) (IsIn walked) place type_place)
    (closed_book : IsClosedBook b.book) (low : (s i : ℕ) → Contains (layout.parts s) i → i < length b.book)
    (places : (s : ℕ) → place s < length b.book) (values : (n : ℕ) → layout.value n < length b.book)
    (root binder : ℕ → ℕ) (IsUse : List ℕ → ℕ → Type 0) where
  -- the node of a binder
  abbrev pub node_of : ℕ → ℕ
  node_of x = place (binder x)

  abbrev pub Row : List StepLine → List ℕ → ℕ → Type 0
  Row steps scope i = HasRow b steps i (env_of (entries node_of scope)) (place (root i))

  abbrev Ordered : List ℕ → Type 0
  Ordered scope = IsRising (entries node_of scope)

  fits : (scope : List ℕ) → Ordered scope → (t : ℕ) → t < length b.book → Fits b (entries node_of scope) t
  fits scope rising t h = record {
    scheme = record {
      book = closed_book;
      root = h;
      env = λ y k found. subst (λ z. z < length b.book) (sym (found_back node_of scope y k found).1) (places (binder y));
    };
    rising = rising;
  }

  fits_inner : (scope : List ℕ) → Ordered scope → (x i : ℕ) → All (λ y. y < x) scope → i < length b.book → (t : ℕ) → t < length b.book → Fits b (inner node_of scope x i) t
  fits_inner scope rising x i above low_i t h = record {
    scheme = record {
      book = closed_book;
      root = h;
      env =
          λ y k found.
          elim (inner_back node_of scope x i y k found) [
            | inl it ↦ subst (λ z. z < length b.book) (sym it.1) (places (binder y))
            | inr it ↦ subst (λ z. z < length b.book) (sym it.1) low_i
          ];
    };
    rising = inner_rising node_of scope x i rising above;
  }

  keeps_itself : (d : Env) → Keeps d d
  keeps_itself d x n found = found

  bound_emitted : (steps : List StepLine) (scope : List ℕ) (i x : ℕ) → Ordered scope → form_at b.term_nodes i ≡ Some (form.Bound x) → Contains scope x → HasFlow a (binder x) (root i) → Row steps scope i
  bound_emitted steps scope i x rising is_form there edge =
      let n = binder x in
      let v : List BinderNode = entry x (layout.value n) ∷ [] in
      let back : (y k : ℕ) → env.get (env_of v) y ≡ Some k → (y ≡ x) × (k ≡ layout.value n)
      = λ y k found. elim (inner_back node_of [] x (layout.value n) y k found) [ inl it ↦ (let low : it.0.0 < 0 = it.0.1 in absurd (omega arith)) | inr it ↦ it ] in
      bound_part b a IsGoal closed goals free general special is_solved closed_type walked walk place type_place layout closed_book low
      steps i x n (root i) (entries node_of scope) is_form edge (
        record {
          scheme = record { book = closed_book; root = values n; env = λ y k found. subst (λ z. z < length b.book) (sym (back y k found).1) (values n) };
          rising = (All-nil (λ (later : BinderNode). x < later.binder), tt);
        },
        refl,
        λ y k found. (subst (λ z. env.get (env_of (entries node_of scope)) z ≡ Some (place n)) (sym (back y k found).0) (found_in node_of scope x there), (back y k found).1),
      )
      (fits scope rising (place (root i)) (places (root i)))

  fun_emitted : (steps : List StepLine) (scope : List ℕ) (i x j : ℕ) → Ordered scope → form_at b.term_nodes i ≡ Some (form.Fun x j) → All (λ y. y < x) scope
      → polarity_at a (root i) ≡ Positive → (head_at a (root i)).function ≡ Some (record { domain = binder x ∷ []; codomain = root j ∷ [] })
      → Row steps (scope ++ x ∷ []) j → Row steps scope i
  fun_emitted steps scope i x j rising is_form above is_q has row =
      row_after b steps row.more i (env_of (entries node_of scope)) (place (root i)) row.leads
      (fun_part b a IsGoal closed goals free general special is_solved closed_type walked walk place type_place layout closed_book low
      row.more row.number i x j (env_of (entries node_of (scope ++ x ∷ []))) (entries node_of scope) (binder x ∷ []) (root j) (root i) (λ k. inner node_of scope x k)
      is_form has is_q row.says (fits (scope ++ x ∷ []) (pushed_rising node_of scope x rising above) (place (root j)) (places (root j))).scheme
      (fits scope rising (place (root i)) (places (root i)))
      (λ k. inner_found node_of scope x k above) (λ k. inner_removed node_of scope x k above)
      (λ k low_k. fits_inner scope rising x k above low_k (place (root i)) (places (root i)))
      (λ k y l found. elim (inner_kept node_of scope x k y l found) [ inl same ↦ inl same | inr it ↦ inr (it.0, (binder x, Contains-here (binder x) [], sym it.1)) ]))

  fix_emitted : (steps : List StepLine) (scope : List ℕ) (i x j : ℕ) → Ordered scope → form_at b.term_nodes i ≡ Some (form.Rec x j) → All (λ y. y < x) scope
      → root i ≡ root j → IsGoal (root j) (binder x) → Row steps (scope ++ x ∷ []) j → Row steps scope i
  fix_emitted steps scope i x j rising is_form above same is_goal row =
      subst (λ z. HasRow b steps i (env_of (entries node_of scope)) (place z)) (sym same)
      (row_after b steps row.more i (env_of (entries node_of scope)) (place (root j)) row.leads
      (fix_part b a IsGoal closed goals free general special is_solved closed_type walked walk place type_place layout closed_book low
      row.more row.number i x j (env_of (entries node_of (scope ++ x ∷ []))) (inner node_of scope x (place (root j))) (entries node_of scope) (root j) (binder x)
      is_form (goal is_goal) row.says (fits (scope ++ x ∷ []) (pushed_rising node_of scope x rising above) (place (root j)) (places (root j))).scheme
      (fits_inner scope rising x (place (root j)) above (places (root j)) (place (root j)) (places (root j)))
      (fits scope rising (place (root j)) (places (root j)))
      (inner_removed node_of scope x (place (root j)) above) (inner_found node_of scope x (place (root j)) above)
      (λ y l found. inner_kept node_of scope x (place (root j)) y l found)))

  apply_emitted : (steps : List StepLine) (scope : List ℕ) (i j k g n : ℕ) → Ordered scope → form_at b.term_nodes i ≡ Some (form.Apply j k)
      → (head_at a g).function ≡ Some (record { domain = root k ∷ []; codomain = n ∷ [] }) → IsGoal (root j) g → HasFlow a n (root i)
      → Row steps scope j → ((more : List StepLine) → Leads b steps more → Row more scope k) → Row steps scope i
  apply_emitted steps scope i j k g n rising is_form has is_goal edge first others =
      let second = others first.more first.leads in
      let d = env_of (entries node_of scope) in
      row_after b steps first.more i d (place (root i)) first.leads
      (row_after b first.more second.more i d (place (root i)) second.leads
      (apply_part b a IsGoal closed goals free general special is_solved closed_type walked walk place type_place layout closed_book low
      second.more first.number second.number i j k d d (entries node_of scope) (root j) (root k) g n (root i)
      is_form has (goal is_goal) edge
      (second.leads.kept first.number j (concluded b d (place (root j))) first.says) (fits scope rising (place (root j)) (places (root j))).scheme
      second.says (fits scope rising (place (root k)) (places (root k))).scheme
      (fits scope rising (place (root i)) (places (root i))) (keeps_itself d) (keeps_itself d)))

  choice_emitted : (steps : List StepLine) (scope : List ℕ) (i j k l bit n : ℕ) → Ordered scope → form_at b.term_nodes i ≡ Some (form.If j k l)
      → (head_at a bit).boolean ≡ true → IsGoal (root j) bit → IsGoal (root k) n → IsGoal (root l) n → HasFlow a n (root i)
      → Row steps scope j → ((more : List StepLine) → Leads b steps more → Row more scope k) → ((more : List StepLine) → Leads b steps more → Row more scope l) → Row steps scope i
  choice_emitted steps scope i j k l bit n rising is_form has goal1 goal2 goal3 edge first others rest =
      let second = others first.more first.leads in
      let third = rest second.more (leads_then b steps first.more second.more first.leads second.leads) in
      let d = env_of (entries node_of scope) in
      row_after b steps first.more i d (place (root i)) first.leads
      (row_after b first.more second.more i d (place (root i)) second.leads
      (row_after b second.more third.more i d (place (root i)) third.leads
      (choice_part b a IsGoal closed goals free general special is_solved closed_type walked walk place type_place layout closed_book low
      third.more first.number second.number third.number i j k l d d d (entries node_of scope) (root j) (root k) (root l) bit n (root i)
      is_form has (goal goal1) (goal goal2) (goal goal3) edge
      (third.leads.kept first.number j (concluded b d (place (root j))) (second.leads.kept first.number j (concluded b d (place (root j))) first.says)) (fits scope rising (place (root j)) (places (root j))).scheme
      (third.leads.kept second.number k (concluded b d (place (root k))) second.says) (fits scope rising (place (root k)) (places (root k))).scheme
      third.says (fits scope rising (place (root l)) (places (root l))).scheme
      (fits scope rising (place n) (places n)) (fits scope rising (place (root i)) (places (root i))) (keeps_itself d) (keeps_itself d) (keeps_itself d))))

  -- the record of a projection has the one field
  project_emitted : (steps : List StepLine) (scope : List ℕ) (i j g n : ℕ) (label : List ℕ) → Ordered scope → form_at b.term_nodes i ≡ Some (form.Project j label)
      → (head_at a g).fields ≡ Some (record { label = label; set = n ∷ [] } ∷ []) → IsGoal (root j) g → HasFlow a n (root i)
      → Row steps scope j → Row steps scope i
  project_emitted steps scope i j g n label rising is_form has is_goal edge row =
      row_after b steps row.more i d (place (root i)) row.leads
      (project_part b a IsGoal closed goals free general special is_solved closed_type walked walk place type_place layout closed_book low
      row.more row.number i j label d (entries node_of scope) (root j) g n (root i) w.0 there.0.0
      is_form w.1 (w.2.node ∙ ap node.Rcd single) there.2 (goal is_goal) edge row.says (fits scope rising (place (root j)) (places (root j))).scheme
      (fits scope rising there.0.0 (at_found (λ k. k < length b.book) label w.2.fields children there.0 there.1))
      (fits scope rising (place (root i)) (places (root i))) (keeps_itself d))
    where
      d : Env
      d = env_of (entries node_of scope)

      sets : List FieldSet
      sets = record { label = label; set = n ∷ [] } ∷ []

      has' : option_map set_at (head_at a g).fields ≡ Some (set_at sets)
      has' = ap (option_map set_at) has

      is_g : polarity_at a g ≡ Negative
      is_g = (goals (root j) g is_goal).1.polarity

      w : (k : ℕ) × Contains (layout.parts g) k × IsRecordAt b.book place Negative (parts_of (head_at a g)) k
      w = (subst (λ p. AreParts b.book place p (parts_of (head_at a g)) (layout.parts g)) is_g (layout.heads g)).each kind.Rcd (set_at sets, has')

      field : (other : List ℕ) → IsFieldAt b.book place Negative (set_at sets other) (field_at other w.2.fields)
      field other =
          let same : w.2.sets ≡ set_at sets = (let h : Some w.2.sets ≡ Some (set_at sets) = sym w.2.has ∙ has' in cc) in
          subst (λ (z : List ℕ → Option (List ℕ)). IsFieldAt b.book place Negative (z other) (field_at other w.2.fields)) same (w.2.field other)

      there_at : (set : List ℕ) (o : Option NodeId) → IsFieldAt b.book place Negative (Some set) o → (k : NodeId) × (o ≡ Some k) × IsTree b.book Negative (IsPlaceIn place set) k.0
      there_at set None is = absurd is
      there_at set (Some k) is = (k, refl, is)

      there : (k : NodeId) × (field_at label w.2.fields ≡ Some k) × IsTree b.book Negative (IsPlaceIn place (n ∷ [])) k.0
      there =
          there_at (n ∷ []) (field_at label w.2.fields)
          (subst (λ o. IsFieldAt b.book place Negative o (field_at label w.2.fields)) (ap (λ t. option_map (λ (f : FieldSet). f.set) (cond t (Some (record { label = label; set = n ∷ [] })) None)) ((bytes_eq-Decides label label).1 refl)) (field label))

      other_label : (other : List ℕ) (t : Bool) → bytes_eq label other ≡ t → (o : Option NodeId) (k : NodeId) → o ≡ Some k
          → IsFieldAt b.book place Negative (option_map (λ (f : FieldSet). f.set) (cond t (Some (record { label = label; set = n ∷ [] })) None)) o → other ≡ label
      other_label other true e o k is it = sym ((bytes_eq-Decides label other).0 e)
      other_label other false e None k is it = absurd (cc)
      other_label other false e (Some m) k is it = absurd it

      children : HasChildrenIn (λ k. k < length b.book) (node.Rcd w.2.fields)
      children = subst (HasChildrenIn (λ k. k < length b.book)) w.2.node (closed_children b.book closed_book.closed w.0 (low g w.0 w.1))

      rising_fields : AreRising w.2.fields
      rising_fields = subst (IsOrdered w.0) w.2.node (closed_book.book w.0)

      single : w.2.fields ≡ record { label = label; node = there.0 } ∷ []
      single =
          one_field label w.2.fields there.0 rising_fields there.1
          (λ other k found. other_label other (bytes_eq label other) refl (field_at other w.2.fields) k found (field other))

  abbrev Claims : Mode → ℕ → ℕ → Type 0
  Claims = PartClaims a special.automaton (IsRelated a IsGoal) (IsIn walked) place type_place

  shown : AreShown b.book [] IsItself Claims
  shown = part_shown b.book a IsGoal closed goals free general special is_solved closed_type walked walk place type_place layout

  abbrev PartSays : List StepLine → List FieldSet → Env → List ℕ → List Part → Type 0
  PartSays = AllSayRoots b a special.automaton (IsRelated a IsGoal) (IsIn walked) place type_place layout Claims shown closed_book low

  -- steps about the parts of a record
  record HasParts (steps : List StepLine) (scope : List ℕ) (sets : List FieldSet) (parts : List Part) : Type 0 where
    more : List StepLine
    leads : Leads b steps more
    numbers : List ℕ
    say : PartSays more sets (env_of (entries node_of scope)) numbers parts

  parts_kept : (steps more : List StepLine) → Leads b steps more → (sets : List FieldSet) (d : Env) (numbers : List ℕ) (parts : List Part) → PartSays steps sets d numbers parts → PartSays more sets d numbers parts
  parts_kept steps more leads sets d [] [] say = tt
  parts_kept steps more leads sets d [] (part ∷ parts) say = absurd say
  parts_kept steps more leads sets d (number ∷ numbers) [] say = absurd say
  parts_kept steps more leads sets d (number ∷ numbers) (part ∷ parts) say = (
    record {
      root = say.0.root;
      set = say.0.set;
      env = say.0.env;
      says = leads.kept number part.child (concluded b say.0.env (place say.0.root)) say.0.says;
      is = say.0.is;
      keeps = say.0.keeps;
    },
    parts_kept steps more leads sets d numbers parts say.1,
  )

  one_more : (steps : List StepLine) (scope : List ℕ) (sets : List FieldSet) (label : List ℕ) (j : ℕ) (others : List Part) → Ordered scope → set_at sets label ≡ Some (root j ∷ [])
      → Row steps scope j → ((more : List StepLine) → Leads b steps more → HasParts more scope sets others) → HasParts steps scope sets (record { label = label; child = j } ∷ others)
  one_more steps scope sets label j others rising set row rest =
      let later = rest row.more row.leads in
      record {
        more = later.more;
        leads = leads_then b steps row.more later.more row.leads later.leads;
        numbers = row.number ∷ later.numbers;
        say = (
          record {
            root = root j;
            set = set;
            env = env_of (entries node_of scope);
            says = later.leads.kept row.number j (concluded b (env_of (entries node_of scope)) (place (root j))) row.says;
            is = (fits scope rising (place (root j)) (places (root j))).scheme;
            keeps = keeps_itself (env_of (entries node_of scope));
          },
          later.say,
        );
      }

  make_emitted : (steps : List StepLine) (scope : List ℕ) (i : ℕ) (parts : List Part) (sets : List FieldSet) → Ordered scope → form_at b.term_nodes i ≡ Some (form.Make parts)
      → polarity_at a (root i) ≡ Positive → (head_at a (root i)).fields ≡ Some sets
      → ((label : List ℕ) → IsSome (set_at sets label) ↔ Contains (map (λ (part : Part). part.label) parts) label)
      → HasParts steps scope sets parts → Row steps scope i
  -- the rule of the empty record has no binder
  make_emitted steps scope i [] sets rising is_form is_q has labels told =
      let q = root i in
      let first =
      make_part b a special.automaton (IsRelated a IsGoal) (IsIn walked) place type_place layout Claims shown closed_book low
      steps i [] [] sets [] q is_form is_q has labels (λ e. refl) tt (fits [] tt (place q) (places q)) in
      row_after b steps first.more i (env_of (entries node_of scope)) (place q) first.leads
      (sub_row b IsItself Claims shown (λ mode i. based refl) first.more first.number i (env_of []) (place q) (entries node_of scope) (place q)
      first.says (fits [] tt (place q) (places q)).scheme (fits scope rising (place q) (places q)) (based refl)
      (λ x n found. let it = found_back node_of [] x n found in let free : it.0.0 < 0 = it.0.1 in absurd (omega arith)))
  make_emitted steps scope i (part ∷ parts) sets rising is_form is_q has labels told =
      row_after b steps told.more i (env_of (entries node_of scope)) (place (root i)) told.leads
      (make_part b a special.automaton (IsRelated a IsGoal) (IsIn walked) place type_place layout Claims shown closed_book low
      told.more i told.numbers (part ∷ parts) sets (entries node_of scope) (root i) is_form is_q has labels (λ e. absurd (cc)) told.say
      (fits scope rising (place (root i)) (places (root i))))

  -- a use of a name, and a let over the row of its second part, may rest on all steps that stand before the part
  abbrev pub IsName : ℕ → Type 0
  IsName i = ((k : ℕ) × (form_at b.term_nodes i ≡ Some (form.Inner k))) ⊎ ((g : ℕ) × (form_at b.term_nodes i ≡ Some (form.Global g)))

  abbrev pub HasUses : List StepLine → Type 0
  HasUses start = (scope : List ℕ) (i : ℕ) → Ordered scope → IsName i → IsUse scope i → (steps : List StepLine) → Leads b start steps → Row steps scope i

  abbrev pub HasLets : List StepLine → Type 0
  HasLets start =
      (scope : List ℕ) (i k j l : ℕ) → Ordered scope → form_at b.term_nodes i ≡ Some (form.Let k j l) → root i ≡ root l → IsUse scope i
      → (steps : List StepLine) → Leads b start steps → Row steps scope l → Row steps scope i

  module _ (start : List StepLine) (uses : HasUses start) (lets : HasLets start) where
    abbrev Posed : List ℕ → ℕ → TermTree → Type 0
    Posed = IsPosed b.term_nodes a IsGoal root binder IsUse

    abbrev PartsPosed : List ℕ → List FieldSet → List Part → TermFields → Type 0
    PartsPosed = ArePosed b.term_nodes a IsGoal root binder IsUse

    mutual
      pub emitted : (t : TermTree) (scope : List ℕ) (i : ℕ) → Ordered scope → Posed scope i t → (steps : List StepLine) → Leads b start steps → Row steps scope i
      emitted (bound at x) scope i rising it steps from = bound_emitted steps scope i x rising it.0 it.1 it.2
      emitted (a_let_name at k) scope i rising it steps from = uses scope i rising (inl (k, it.0)) it.1 steps from
      emitted (global at g) scope i rising it steps from = uses scope i rising (inr (g, it.0)) it.1 steps from
      emitted (a_number at value) scope i rising it steps from =
          number_part b a IsGoal closed goals free general special is_solved closed_type walked walk place type_place layout closed_book low
          steps i value (root i) (entries node_of scope) it.0 it.1 it.2 (fits [] tt (place (root i)) (places (root i))) (fits scope rising (place (root i)) (places (root i)))
      emitted (truth at value) scope i rising it steps from =
          truth_part b a IsGoal closed goals free general special is_solved closed_type walked walk place type_place layout closed_book low
          steps i value (root i) (entries node_of scope) it.0 it.1 it.2 (fits [] tt (place (root i)) (places (root i))) (fits scope rising (place (root i)) (places (root i)))
      emitted (fun at x e) scope i rising (j, is_form, above, is_q, has, it) steps from =
          fun_emitted steps scope i x j rising is_form above is_q has (emitted e (scope ++ x ∷ []) j (pushed_rising node_of scope x rising above) it steps from)
      emitted (apply at e f) scope i rising (j, k, g, n, is_form, has, is_goal, edge, it, it') steps from =
          apply_emitted steps scope i j k g n rising is_form has is_goal edge (emitted e scope j rising it steps from) (λ more leads. emitted f scope k rising it' more (leads_then b start steps more from leads))
      emitted (make at fields) scope i rising (parts, sets, is_form, is_q, has, labels, it) steps from =
          make_emitted steps scope i parts sets rising is_form is_q has labels (fields_emitted fields scope sets parts rising it steps from)
      emitted (project at e label) scope i rising (j, g, n, is_form, has, is_goal, edge, it) steps from =
          project_emitted steps scope i j g n label rising is_form has is_goal edge (emitted e scope j rising it steps from)
      emitted (choice at c e f) scope i rising (j, k, l, bit, n, is_form, has, goal1, goal2, goal3, edge, it, it', it'') steps from =
          choice_emitted steps scope i j k l bit n rising is_form has goal1 goal2 goal3 edge
          (emitted c scope j rising it steps from) (λ more leads. emitted e scope k rising it' more (leads_then b start steps more from leads)) (λ more leads. emitted f scope l rising it'' more (leads_then b start steps more from leads))
      emitted (local at k e f) scope i rising (j, l, is_form, same, there, it) steps from =
          lets scope i k j l rising is_form same there steps from (emitted f scope l rising it steps from)
      emitted (fix at x e) scope i rising (j, is_form, above, same, is_goal, it) steps from =
          fix_emitted steps scope i x j rising is_form above same is_goal (emitted e (scope ++ x ∷ []) j (pushed_rising node_of scope x rising above) it steps from)

      fields_emitted : (fields : TermFields) (scope : List ℕ) (sets : List FieldSet) (parts : List Part) → Ordered scope → PartsPosed scope sets parts fields → (steps : List StepLine) → Leads b start steps → HasParts steps scope sets parts
      fields_emitted no_field scope sets parts rising it steps from =
          subst (HasParts steps scope sets) (sym it) (record { more = steps; leads = leads_still b steps; numbers = []; say = tt })
      fields_emitted (a_field label e rest) scope sets parts rising (j, others, is, set, it, it') steps from =
          subst (HasParts steps scope sets) (sym is)
          (one_more steps scope sets label j others rising set (emitted e scope j rising it steps from) (λ more leads. fields_emitted rest scope sets others rising it' more (leads_then b start steps more from leads)))
