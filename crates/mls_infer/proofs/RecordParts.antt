-- A record: its parts side by side, and the part of the node.
--     rows_with           one more part
--     record_states       its fields name roots of parts
--     record_made
use Rattle.std.proofs.Common.{◌≡◌, ◌≢◌, ◌⊎◌, ◌↔◌, inl, inr, ℕ, zero, suc, ◌<◌, ◌==◌, Bool, true, false, cond, List, [], ◌∷◌, ◌++◌, map, length, get_or, refl, sym, ap, ◌∙◌, subst, arith, All, Contains, Some, None}
use Rattle.std.specs.Prelude.{Option, option_map, IsSome}
use Rattle.std.specs.List.{AllPairs}
use Rattle.std.specs.Ordering.{nat_cmp}
use Rattle.std.specs.declared.cmp.Ordering.TheVariants.{Less}
use Rattle.std.specs.Cmp.Lexicographic.{slice_cmp}
use Rattle.std.specs.BTreeMap.{IsOrdered, Updates}
use Rattle.std.proofs.lemmas.Bool.{eqb-true, eq-eqb}
use Rattle.std.proofs.lemmas.List.{length-map, map-append}
use Rattle.std.proofs.lemmas.List.Elements.{All-map, All-weaker, Contains-append_cases, Contains-append_left, Contains-append_right}
use Rattle.mls_book.specs.Predicates.{Predicate}
use Rattle.mls_automaton.specs.declared.automaton.Polarity.TheVariants.{Positive}
use Rattle.mls_automaton.specs.declared.automaton.FieldSet.{FieldSet}
use Rattle.mls_automaton.specs.declared.automaton.State.{State}
use Rattle.mls_automaton.specs.declared.state_set.StateId.{StateId}
use Rattle.mls_automaton.specs.declared.scheme.EnvEntry.{EnvEntry}
use Rattle.mls_automaton.specs.declared.scheme.Scheme.{Scheme}
use Rattle.mls_automaton.specs.Automata.{Automaton}
use Rattle.mls_automaton.specs.Embeddings.{renamed_field}
use Rattle.mls_automaton.specs.Heads.{AreRising, set_at}
use Rattle.mls_automaton.specs.Models.{HasStatesIn}
use Rattle.mls_automaton.proofs.Lists.{All-contained, All-one, Contains-cases, Contains-here, Contains-map, map-same}
use Rattle.mls_biunify.specs.Live.{IsLive, IsLiveState, Live}
use Rattle.mls_shape.proofs.HeadsAlike.{set_at-renamed}
use Rattle.mls_term.specs.declared.term.Part.{Part}
use Rattle.mls_term.specs.declared.term.TermForm.TheVariants as form
use Rattle.mls_term.specs.Terms.{TermFields, no_field, a_field}
use Rattle.mls_term.specs.Derivations.{labels_of}
use Rattle.mls_typing.specs.Typed.{EachHas}
use Rattle.mls_infer.specs.declared.forms.Rows.{Rows}
use Rattle.mls_infer.specs.Constraints.{AreFieldsOf, AreRoots, Constraint, HasTypes, joined, make_constraint, no_goals, positive, record_head}
use Rattle.mls_infer.specs.Joining.{AreRows, part_labels, row_at, row_field}
use Rattle.mls_infer.specs.Merges.{HaveSameTypes}
use Rattle.mls_infer.specs.Pending.{AreRowsOf, AreWaiting, Grows, IsMade, all_states, states_in}
use Rattle.mls_infer.specs.Regions.{InEnvs, IsPart, TablePart, part_over, part_roots, scheme_at, schemes_at}
use Rattle.mls_infer.specs.TableRows.{IsRecordAt}
use Rattle.mls_infer.proofs.BuiltConstraints.{joined_many}
use Rattle.mls_infer.proofs.ConstraintRows.{nothing_in}
use Rattle.mls_infer.proofs.FieldRows.{fields_made, rows_more, same_labels, some_parts}
use Rattle.mls_infer.proofs.FormParts.{no_ends}
use Rattle.mls_infer.proofs.GrownParts.{all_in, in_all, beside, edges_within, grown_changes, grown_waits, same_types, waiting_states}
use Rattle.mls_infer.proofs.MadeParts.{are_posed, made_grown}
use Rattle.mls_infer.proofs.MakeRow.{make_row}
use Rattle.mls_infer.proofs.SideBySide.{AllHaveStates}
use Rattle.mls_infer.proofs.TableParts.{AreStatesWith, make_part}
use Rattle.mls_infer.proofs.TableRows.{make_in}

-- Lists with one more element.
get_before : {X : Type 0} (xs ys : List X) (k : ℕ) (d : X) → k < length xs → get_or (xs ++ ys) k d ≡ get_or xs k d
get_before [] ys k d low = absurd (omega arith)
get_before (x ∷ xs) ys zero d low = refl
get_before (x ∷ xs) ys (suc k) d low = get_before xs ys k d (omega arith)

get_behind : {X : Type 0} (xs : List X) (y d : X) → get_or (xs ++ y ∷ []) (length xs) d ≡ y
get_behind [] y d = refl
get_behind (x ∷ xs) y d = get_behind xs y d

one_longer : {X : Type 0} (xs : List X) (y : X) → length (xs ++ y ∷ []) ≡ suc (length xs)
one_longer [] y = refl
one_longer (x ∷ xs) y = ap suc (one_longer xs y)

all_more : (parts : List TablePart) (more : TablePart) (s : ℕ) → Contains (all_states (parts ++ more ∷ [])) s ↔ (Contains (all_states parts) s ⊎ Contains more.states s)
all_more [] more s = (
  λ here. elim (Contains-append_cases more.states [] s here) [ inl one ↦ inr one | inr none ↦ inl none ],
  λ it. elim it [ inl none ↦ absurd (nothing_in s none) | inr here ↦ Contains-append_left more.states [] s here ],
)
all_more (part ∷ rest) more s =
    let later = all_more rest more s in (
      λ here. elim (Contains-append_cases part.states (all_states (rest ++ more ∷ [])) s here) [
        | inl one ↦ inl (Contains-append_left part.states (all_states rest) s one)
        | inr other ↦ elim (later.0 other) [ inl two ↦ inl (Contains-append_right part.states (all_states rest) s two) | inr new ↦ inr new ]
      ],
      λ it. elim it [
        | inl old ↦ elim (Contains-append_cases part.states (all_states rest) s old) [
          | inl one ↦ Contains-append_left part.states (all_states (rest ++ more ∷ [])) s one
          | inr two ↦ Contains-append_right part.states (all_states (rest ++ more ∷ [])) s (later.1 (inl two))
        ]
        | inr new ↦ Contains-append_right part.states (all_states (rest ++ more ∷ [])) s (later.1 (inr new))
      ],
    )

envs_more : (parts : List TablePart) (more : TablePart) (e : EnvEntry) → InEnvs (parts ++ more ∷ []) e ↔ (InEnvs parts e ⊎ Contains more.env e)
envs_more [] more e = (
  λ it. elim it [ inl here ↦ inr here | inr out ↦ absurd out ],
  λ it. elim it [ inl out ↦ absurd out | inr here ↦ inl here ],
)
envs_more (part ∷ rest) more e =
    let later = envs_more rest more e in (
      λ it. elim it [ inl here ↦ inl (inl here) | inr other ↦ elim (later.0 other) [ inl two ↦ inl (inr two) | inr new ↦ inr new ] ],
      λ it. elim it [ inl old ↦ elim old [ inl here ↦ inl here | inr two ↦ inr (later.1 (inl two)) ] | inr new ↦ inr (later.1 (inr new)) ],
    )

-- one more part
pub rows_with : (labels : List (List ℕ)) (parts : List TablePart) (old new : Rows) (label : List ℕ) (body : TablePart) → AreRowsOf labels parts old → AllPairs (λ x y. x ≢ y) (labels ++ label ∷ [])
    → Updates (slice_cmp nat_cmp) old.roots new.roots label (Some body.root)
    → ((s : ℕ) → Contains (states_in new.region) s ↔ Contains (states_in old.region) s ⊎ Contains body.states s)
    → ((e : EnvEntry) → Contains new.env e ↔ Contains old.env e ⊎ Contains body.env e) → AreRowsOf (labels ++ label ∷ []) (parts ++ body ∷ []) new
rows_with labels parts old new label body are distinct updates states env = record {
  each = one_longer labels label ∙ (ap suc are.each ∙ sym (one_longer parts body));
  roots = subst (λ n. AreRows n more more_roots new.roots) (sym (one_longer labels label)) (rows_more (length labels) more more_roots old.roots new.roots label body.root low distinct label_is root_is updates before);
  states = λ s. let it = all_more parts body s in (
    λ here. it.1 (elim ((states s).0 here) [ inl one ↦ inl ((are.states s).0 one) | inr two ↦ inr two ]),
    λ here. (states s).1 (elim (it.0 here) [ inl one ↦ inl ((are.states s).1 one) | inr two ↦ inr two ]),
  );
  env = λ e. let it = envs_more parts body e in (
    λ here. it.1 (elim ((env e).0 here) [ inl one ↦ inl ((are.env e).0 one) | inr two ↦ inr two ]),
    λ here. (env e).1 (elim (it.0 here) [ inl one ↦ inl ((are.env e).1 one) | inr two ↦ inr two ]),
  );
}
  where
    more : List (List ℕ)
    more = labels ++ label ∷ []

    more_roots : List ℕ
    more_roots = part_roots (parts ++ body ∷ [])

    roots_are : more_roots ≡ part_roots parts ++ body.root.0 ∷ []
    roots_are = map-append (λ (part : TablePart). part.root.0) parts (body ∷ [])

    many : length (part_roots parts) ≡ length labels
    many = length-map parts (λ (part : TablePart). part.root.0) ∙ sym are.each

    low : length labels < length more
    low = let it : length more ≡ suc (length labels) = one_longer labels label in omega arith

    label_is : (d : List ℕ) → label ≡ get_or more (length labels) d
    label_is d = sym (get_behind labels label d)

    root_is : (r : ℕ) → body.root.0 ≡ get_or more_roots (length labels) r
    root_is r =
        sym (ap (λ (rs : List ℕ). get_or rs (length labels) r) roots_are
        ∙ (ap (λ n. get_or (part_roots parts ++ body.root.0 ∷ []) n r) (sym many) ∙ get_behind (part_roots parts) body.root.0 r))

    root_before : (k : ℕ) (r : ℕ) → k < length labels → get_or more_roots k r ≡ get_or (part_roots parts) k r
    root_before k r small = ap (λ (rs : List ℕ). get_or rs k r) roots_are ∙ get_before (part_roots parts) (body.root.0 ∷ []) k r (subst (λ n. k < n) (sym many) small)

    before : AreRows (length labels) more more_roots old.roots
    before = record {
      there = λ k d r small.
          ap (λ (q : List ℕ). row q) (get_before labels (label ∷ []) k d small)
          ∙ (are.roots.there k d r small ∙ (λ i. Some (record { 0 = sym (root_before k r small) i })));
      back = λ q s e.
          let it = are.roots.back q s e in
          (it.0, it.1, (λ d. get_before labels (label ∷ []) it.0 d it.1 ∙ it.2 d), (λ r. root_before it.0 r it.1 ∙ it.3 r));
    }
      where
        row : List ℕ → Option StateId
        row q = row_at old.roots q

-- The fields of a head under other numbers.
module _ (place : ℕ → ℕ) where
  labels_rise : (label : List ℕ) (fields : List FieldSet) → All (λ (f : FieldSet). slice_cmp nat_cmp label f.label ≡ Less) fields → All (λ (f : FieldSet). slice_cmp nat_cmp label f.label ≡ Less) (map (renamed_field place) fields)
  labels_rise label fields each = All-map (λ (f : FieldSet). slice_cmp nat_cmp label f.label ≡ Less) (renamed_field place) fields each

  rising_placed : (fields : List FieldSet) → AreRising fields → AreRising (map (renamed_field place) fields)
  rising_placed [] rise = tt
  rising_placed (f ∷ fields) rise = (labels_rise f.label fields rise.0, rising_placed fields rise.1)

  roots_placed : (ps : TermFields) (roots : List ℕ) (fields : List FieldSet) → AreRoots ps roots fields → AreRoots ps (map place roots) (map (renamed_field place) fields)
  roots_placed no_field [] fields it = tt
  roots_placed no_field (r ∷ rs) fields it = absurd it
  roots_placed (a_field label e rest) [] fields it = absurd it
  roots_placed (a_field label e rest) (r ∷ rs) fields it = (set_at-renamed place label fields ∙ ap (option_map (map place)) it.0, roots_placed rest rs fields it.1)

  some_same : (o : Option (List ℕ)) → IsSome (option_map (map place) o) ↔ IsSome o
  some_same None = (λ h. h, λ h. h)
  some_same (Some x) = (λ h. refl, λ h. refl)

  fields_placed : (ps : TermFields) (roots : List ℕ) (fields : List FieldSet) → AreFieldsOf ps roots fields → AreFieldsOf ps (map place roots) (map (renamed_field place) fields)
  fields_placed ps roots fields is = record {
    rising = rising_placed fields is.rising;
    found = roots_placed ps roots fields is.found;
    labels = λ label.
        let same : set_at (map (renamed_field place) fields) label ≡ option_map (map place) (set_at fields label) = set_at-renamed place label fields in
        let some = some_same (set_at fields label) in (
          λ it. (is.labels label).0 (some.0 (subst IsSome same it)),
          λ it. subst IsSome (sym same) (some.1 ((is.labels label).1 it)),
        );
    single =
        All-map (λ (f : FieldSet). (root : ℕ) × Contains (map place roots) root × (f.set ≡ root ∷ [])) (renamed_field place) fields
        (All-weaker (λ (f : FieldSet). (root : ℕ) × Contains roots root × (f.set ≡ root ∷ [])) (λ (f : FieldSet). (root : ℕ) × Contains (map place roots) root × ((renamed_field place f).set ≡ root ∷ []))
        (λ f it. (place it.0, Contains-map place roots it.0 it.1, ap (map place) it.2)) fields is.single);
  }

-- the number in the second list that stands where this one stands in the first
moved : List ℕ → List ℕ → ℕ → ℕ
moved [] ys s = 0
moved (x ∷ xs) [] s = 0
moved (x ∷ xs) (y ∷ ys) s = cond (x == s) y (moved xs ys s)

-- each is of one place alone
abbrev AreOnce : List ℕ → Type 0
AreOnce [] = Unit {0}
AreOnce (x ∷ xs) = (Contains xs x → ⊥) × AreOnce xs

moved_all : (xs ys : List ℕ) → AreOnce xs → length xs ≡ length ys → map (moved xs ys) xs ≡ ys
unfolding moved
moved_all [] [] once many = refl
moved_all [] (y ∷ ys) once many = absurd (omega arith)
moved_all (x ∷ xs) [] once many = absurd (omega arith)
moved_all (x ∷ xs) (y ∷ ys) once many = λ i. first i ∷ later (moved_all xs ys once.1 (omega arith)) i
  where
    first : cond (x == x) y (moved xs ys x) ≡ y
    first = ap (λ b. cond b y (moved xs ys x)) (eq-eqb x x refl)

    at : (s : ℕ) → Contains xs s → (b : Bool) → (x == s) ≡ b → cond b y (moved xs ys s) ≡ moved xs ys s
    at s inside true e = absurd (once.0 (subst (Contains xs) (sym (eqb-true x s e)) inside))
    at s inside false e = refl

    later : map (moved xs ys) xs ≡ ys → map (λ s. cond (x == s) y (moved xs ys s)) xs ≡ ys
    later rest =
        map-same (λ s. cond (x == s) y (moved xs ys s)) (moved xs ys) xs (All-contained (λ s. cond (x == s) y (moved xs ys s) ≡ moved xs ys s) xs (λ s inside. at s inside (x == s) refl))
        ∙ rest

roots_there : (live : Live) (parts : List TablePart) → AreWaiting live parts → (r : ℕ) → Contains (part_roots parts) r → Contains (all_states parts) r
roots_there live [] are r inside = absurd (nothing_in r inside)
roots_there live (part ∷ rest) are r inside = elim (Contains-cases part.root.0 (part_roots rest) r inside) [
  | inl same ↦ subst (Contains (all_states (part ∷ rest))) same (Contains-append_left part.states (all_states rest) part.root.0 are.0.part.root_in)
  | inr later ↦ Contains-append_right part.states (all_states rest) r (roots_there live rest are.2 r later)
]

roots_once : (live : Live) (parts : List TablePart) → AreWaiting live parts → AreOnce (part_roots parts)
roots_once live [] are = tt
roots_once live (part ∷ rest) are = (λ inside. are.1 part.root.0 are.0.part.root_in (roots_there live rest are.2 part.root.0 inside), roots_once live rest are.2)

roots_live : (live : Live) (parts : List TablePart) → AreWaiting live parts → (r : ℕ) → Contains (part_roots parts) r → IsLiveState live Positive r
roots_live live [] are r inside = absurd (nothing_in r inside)
roots_live live (part ∷ rest) are r inside = elim (Contains-cases part.root.0 (part_roots rest) r inside) [
  | inl same ↦ subst (IsLiveState live Positive) same (record { there = are.0.there part.root.0 are.0.part.root_in; polarity = are.0.part.root_positive })
  | inr later ↦ roots_live live rest are.2 r later
]

-- what a record's head names is there
pub record_states : (live : Live) (labels : List (List ℕ)) (parts : List TablePart) (rows : Rows) → AreWaiting live parts → AreRowsOf labels parts rows → IsOrdered (slice_cmp nat_cmp) rows.roots
    → HasStatesIn (IsLiveState live) Positive (record_head (map row_field rows.roots.entries)) × AreRising (map row_field rows.roots.entries)
record_states live labels parts rows waiting are ordered =
    let roots : List ℕ = part_roots parts in
    let many : length labels ≡ length roots = are.each ∙ sym (length-map parts (λ (part : TablePart). part.root.0)) in
    let fields : List FieldSet = map row_field rows.roots.entries in
    let is : AreFieldsOf (some_parts labels) roots fields = fields_made labels roots rows.roots ordered many are.roots (some_parts labels) (same_labels labels) in
    let each : All (λ (f : FieldSet). All (IsLiveState live Positive) f.set) fields =
    All-weaker (λ (f : FieldSet). (root : ℕ) × Contains roots root × (f.set ≡ root ∷ [])) (λ (f : FieldSet). All (IsLiveState live Positive) f.set)
    (λ f it. subst (λ (set : List ℕ). All (IsLiveState live Positive) set) (sym it.2) (All-one (IsLiveState live Positive) it.0 (roots_live live parts waiting it.0 it.1))) fields is.single in
    (record { function = tt; fields = each }, is.rising)

all_states_of : (live : Live) → IsLive live → (parts : List TablePart) → AreWaiting live parts → AllHaveStates (schemes_at live.table parts)
all_states_of live is [] are = tt
all_states_of live is (part ∷ rest) are = (waiting_states live is part are.0, all_states_of live is rest are.2)

-- what the parts have in the one table, they have in the other
abbrev HaveAllSame : Automaton → Automaton → List TablePart → Type 0
HaveAllSame a b [] = Unit {0}
HaveAllSame a b (part ∷ rest) = HaveSameTypes (no_goals (scheme_at a part)) (no_goals (scheme_at b part)) × HaveAllSame a b rest

each_same : (a b : Automaton) (parts : List TablePart) → HaveAllSame a b parts → (ps : TermFields) (types : ℕ → Predicate) (types_of : List ℕ → Option Predicate)
    → EachHas (λ s. HasTypes (no_goals s)) ps (schemes_at a parts) types types_of ↔ EachHas (λ s. HasTypes (no_goals s)) ps (schemes_at b parts) types types_of
each_same a b [] same no_field types types_of = (λ h. h, λ h. h)
each_same a b [] same (a_field label e rest) types types_of = (λ h. h, λ h. h)
each_same a b (part ∷ parts) same no_field types types_of = (λ h. h, λ h. h)
each_same a b (part ∷ parts) same (a_field label e rest) types types_of =
    let later = each_same a b parts same.1 rest types types_of in (
      λ h. ((h.0.0, h.0.1, (same.0 types h.0.0).0 h.0.2), later.0 h.1),
      λ h. ((h.0.0, h.0.1, (same.0 types h.0.0).1 h.0.2), later.1 h.1),
    )

module _ (old new : Live) (named : List Part) (parts : List TablePart) (rows : Rows) (waiting : AreWaiting old parts) (are : AreRowsOf (part_labels named) parts rows) (ordered : IsOrdered (slice_cmp nat_cmp) rows.roots) (root : StateId)
    (grows : Grows old new ((root.0, positive (record_head (map row_field rows.roots.entries))) ∷ []) []) (states : List ℕ) (each : (s : ℕ) → Contains states s ↔ Contains (states_in rows.region) s ⊎ Contains (root.0 ∷ []) s) where
  abbrev fields : List FieldSet
  fields = map row_field rows.roots.entries

  abbrev came : List (ℕ × State)
  came = (root.0, positive (record_head fields)) ∷ []

  abbrev labels : List (List ℕ)
  labels = part_labels named

  abbrev made_of_rows : TablePart
  made_of_rows = record { states = states; env = rows.env; root = root }

  many : length labels ≡ length (part_roots parts)
  many = are.each ∙ sym (length-map parts (λ (part : TablePart). part.root.0))

  fields_are : (ps : TermFields) → labels_of ps ≡ labels → AreFieldsOf ps (part_roots parts) fields
  fields_are ps is = fields_made labels (part_roots parts) rows.roots ordered many are.roots ps is

  abbrev own_fields : TermFields
  own_fields = some_parts labels

  own_labels : labels_of own_fields ≡ labels
  own_labels = same_labels labels

  record_each : AreStatesWith parts (root.0 ∷ []) states
  record_each s = (
    λ here. elim ((each s).0 here) [ inl inside ↦ inl (all_in parts s ((are.states s).0 inside)) | inr came ↦ inr came ],
    λ it. (each s).1 (elim it [ inl inside ↦ inl ((are.states s).1 (in_all parts s inside)) | inr came ↦ inr came ]),
  )

  record_at : IsRecordAt new.table own_fields parts root.0 fields rows.env
  record_at = record {
    beside = beside old new came [] grows (no_ends came) parts waiting;
    result = grows.here root.0 (positive (record_head fields)) (Contains-here (root.0, positive (record_head fields)) []);
    fields_are = fields_are own_fields own_labels;
    entries = are.env;
  }

  record_is : IsPart new.table states rows.env root
  record_is = make_part new.table own_fields parts root.0 fields rows.env record_at (edges_within old new came [] grows (no_ends came)) states record_each

  -- the constraint over the schemes of the parts
  abbrev schemes : List Scheme
  schemes = schemes_at old.table parts

  abbrev places : List ℕ
  places = (joined schemes).roots

  abbrev place : ℕ → ℕ
  place = moved (part_roots parts) places

  abbrev placed : List FieldSet
  placed = map (renamed_field place) fields

  places_are : map place (part_roots parts) ≡ places
  places_are =
      moved_all (part_roots parts) places (roots_once old parts waiting)
      (length-map parts (λ (part : TablePart). part.root.0) ∙ (sym (length-map parts (scheme_at old.table)) ∙ sym (joined_many schemes)))

  placed_are : (ps : TermFields) → labels_of ps ≡ labels → AreFieldsOf ps places placed
  placed_are ps is = subst (λ (rs : List ℕ). AreFieldsOf ps rs placed) places_are (fields_placed place ps (part_roots parts) fields (fields_are ps is))

  all_same : (some : List TablePart) → AreWaiting old some → HaveAllSame old.table new.table some
  all_same [] waits = tt
  all_same (part ∷ rest) waits = (same_types old new came [] grows (no_ends came) part waits.0, all_same rest waits.2)

  made_same : HaveSameTypes (make_constraint placed schemes) (no_goals (part_over new.table rows.env root))
  made_same types f = (forth, back)
    where
      forth : HasTypes (make_constraint placed schemes) types f → HasTypes (no_goals (part_over new.table rows.env root)) types f
      forth h =
          let it = (make_row own_fields placed schemes (all_states_of old grows.live_old parts waiting) (placed_are own_fields own_labels) types f).0 h in
          (make_in new.table own_fields parts root.0 fields rows.env record_at types f).1
          (record {
            book = it.book;
            closed = it.closed;
            fields = it.fields;
            rising = it.rising;
            within = it.within;
            labels = it.labels;
            each = (each_same old.table new.table parts (all_same parts waiting) own_fields types _).0 it.each;
            below = it.below;
          })

      back : HasTypes (no_goals (part_over new.table rows.env root)) types f → HasTypes (make_constraint placed schemes) types f
      back h =
          let it = (make_in new.table own_fields parts root.0 fields rows.env record_at types f).0 h in
          (make_row own_fields placed schemes (all_states_of old grows.live_old parts waiting) (placed_are own_fields own_labels) types f).1
          (record {
            book = it.book;
            closed = it.closed;
            fields = it.fields;
            rising = it.rising;
            within = it.within;
            labels = it.labels;
            each = (each_same old.table new.table parts (all_same parts waiting) own_fields types _).1 it.each;
            below = it.below;
          })

  pub record_made : IsMade (form.Make named) old parts new made_of_rows
  record_made =
      let c : Constraint = make_constraint placed schemes in
      made_grown (form.Make named) old parts new made_of_rows
      (grown_waits old new came [] grows (no_ends came) parts waiting made_of_rows record_each record_is)
      (grown_changes old new came [] grows (no_ends came) parts waiting made_of_rows record_each record_is)
      c (are_posed old grows.live_old parts waiting (form.Make named) c (placed, placed_are, refl)) grows.live_new made_same
