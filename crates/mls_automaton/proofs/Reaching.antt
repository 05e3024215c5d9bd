-- The search finds exactly the states that are reached.
use Rattle.std.proofs.Common.{◌≡◌, inl, inr, ℕ, zero, suc, ◌<◌, ◌+◌, Bool, true, false, Option, Some, None, List, [], ◌∷◌, ◌++◌, refl, sym, ap, ◌∙◌, subst, arith, length, get_or, Contains, All, cond, ◌==◌}
use Rattle.std.specs.Prelude.{find, option_map, replicate}
use Rattle.std.proofs.lemmas.Bool.{eq-eqb, eqb-true}
use Rattle.std.proofs.lemmas.List.{length-append, length-replicate}
use Rattle.std.proofs.lemmas.List.Elements.{Contains-append_cases, Contains-append_left, Contains-append_right, All-contains}
use Rattle.mls_automaton.specs.declared.automaton.Polarity.{Polarity}
use Rattle.mls_automaton.specs.declared.automaton.Arms.{Arms}
use Rattle.mls_automaton.specs.declared.automaton.FieldSet.{FieldSet}
use Rattle.mls_automaton.specs.declared.automaton.Head.{Head}
use Rattle.mls_automaton.specs.declared.scheme.EnvEntry.{EnvEntry}
use Rattle.mls_automaton.specs.declared.scheme.Scheme.{Scheme}
use Rattle.mls_automaton.specs.Automata.{Automaton, IsState, head_at, opposite, polarity_at}
use Rattle.mls_automaton.specs.Environments.{BindersRise}
use Rattle.mls_automaton.specs.Models.{HasStatesIn, HasArmsIn, HasFieldsIn, IsClosed}
use Rattle.mls_automaton.specs.Schemes.{IsScheme, state_of}
use Rattle.mls_automaton.specs.Reached.{HeadNames, InAnyField, InFunction, InRecord, IsReached, Names, root as at-root, binder as at-binder, named as by-name}
use Rattle.mls_automaton.specs.steps.Searching.{AreReached, Found, Grows, InEntries, IsMarked, IsSearch, left_of, unmarked}
use Rattle.mls_automaton.proofs.Lists.{Contains-here, Contains-later, Contains-cases}
use Rattle.mls_automaton.proofs.Searches.{marked-low}

-- what a head names, in its place
pub named-in : (Q : ℕ → Type 0) (p : Polarity) (h : Head) → HasStatesIn (λ q s. Q s) p h → (j : ℕ) → HeadNames h j → Q j
named-in Q p h each j (inl it) = go h.function each.function it
  where
    go : (o : Option Arms) → HasArmsIn (λ q s. Q s) p o → InFunction o j → Q j
    go None all it = absurd (cc)
    go (Some arms) all it =
        let same : arms ≡ it.0 = cc in
        elim it.2 [
          | inl domain ↦ All-contains Q arms.domain j all.0 (subst (λ (a : Arms). Contains a.domain j) (sym same) domain)
          | inr codomain ↦ All-contains Q arms.codomain j all.1 (subst (λ (a : Arms). Contains a.codomain j) (sym same) codomain)
        ]
named-in Q p h each j (inr it) = go h.fields each.fields it
  where
    go : (o : Option (List FieldSet)) → HasFieldsIn (λ q s. Q s) p o → InRecord o j → Q j
    go None all it = absurd (cc)
    go (Some fields) all it =
        let same : fields ≡ it.0 = cc in
        let there : InAnyField fields j = subst (λ (fs : List FieldSet). InAnyField fs j) (sym same) it.2 in
        All-contains Q there.0.set j (All-contains (λ (f : FieldSet). All Q f.set) fields there.0 all there.1) there.2

ranges : (a : Automaton) (p : Polarity) (h : Head) → HasStatesIn (IsState a) p h → HasStatesIn (λ q s. s < length a.states) p h
ranges a p h each = record { function = go h.function each.function; fields = go-fields h.fields each.fields }
  where
    low : (q : Polarity) (set : List ℕ) → All (IsState a q) set → All (λ s. s < length a.states) set
    low q set all k d in_list = (all k d in_list).in_range

    go : (o : Option Arms) → HasArmsIn (IsState a) p o → HasArmsIn (λ q s. s < length a.states) p o
    go None all = tt
    go (Some arms) all = (low (opposite p) arms.domain all.0, low p arms.codomain all.1)

    go-fields : (o : Option (List FieldSet)) → HasFieldsIn (IsState a) p o → HasFieldsIn (λ q s. s < length a.states) p o
    go-fields None all = tt
    go-fields (Some fields) all = λ k d in_list. low p (get_or fields k d).set (all k d in_list)

-- a closed automaton's heads name states that are there
pub named-low : (a : Automaton) → IsClosed a → (s j : ℕ) → Names a s j → j < length a.states
named-low a closed s j it = named-in (λ i. i < length a.states) (polarity_at a s) (head_at a s) (ranges a (polarity_at a s) (head_at a s) (closed.heads s)) j it

-- entries and binders
pub entry-found : (env : List EnvEntry) → BindersRise env → (e : EnvEntry) → Contains env e → state_of env e.binder ≡ Some e.state.0
entry-found [] rise e it = let none : it.0 < 0 = it.1 in absurd (omega arith)
entry-found (first ∷ rest) rise e it = elim (Contains-cases first rest e it) [
  | inl same ↦ subst (λ (x : EnvEntry). state_of (first ∷ rest) x.binder ≡ Some x.state.0) same at-first
  | inr later ↦ past (entry-found rest (λ i j d less low. rise (suc i) (suc j) d (omega arith) (omega arith)) e later) later
]
  where
    at-first : state_of (first ∷ rest) first.binder ≡ Some first.state.0
    at-first = ap (λ b. option_map (λ (x : EnvEntry). x.state.0) (cond b (Some first) (find (λ (x : EnvEntry). x.binder == first.binder) rest))) (eq-eqb first.binder first.binder refl)

    unlike : Contains rest e → (first.binder == e.binder) ≡ false
    unlike later =
        let h : first.binder < (get_or rest later.0 e).binder = rise 0 (suc later.0) e (omega arith) (let low : later.0 < length rest = later.1 in omega arith) in
        let same : (get_or rest later.0 e).binder ≡ e.binder = ap (λ (x : EnvEntry). x.binder) later.2 in
        go (first.binder == e.binder) refl h same
      where
        go : (b : Bool) → (first.binder == e.binder) ≡ b → first.binder < (get_or rest later.0 e).binder → (get_or rest later.0 e).binder ≡ e.binder → b ≡ false
        go false is h same = refl
        go true is h same = let k : first.binder ≡ e.binder = eqb-true first.binder e.binder is in absurd (omega arith)

    past : state_of rest e.binder ≡ Some e.state.0 → Contains rest e → state_of (first ∷ rest) e.binder ≡ Some e.state.0
    past is later = ap (λ b. option_map (λ (x : EnvEntry). x.state.0) (cond b (Some first) (find (λ (x : EnvEntry). x.binder == e.binder) rest))) (unlike later) ∙ is

pub found-entry : (env : List EnvEntry) (x j : ℕ) → state_of env x ≡ Some j → (e : EnvEntry) × Contains env e × (e.binder ≡ x) × (e.state.0 ≡ j)
found-entry [] x j is = absurd (cc)
found-entry (first ∷ rest) x j is = go (first.binder == x) refl is (found-entry rest x j)
  where
    go : (b : Bool) → (first.binder == x) ≡ b → option_map (λ (e : EnvEntry). e.state.0) (cond b (Some first) (find (λ (e : EnvEntry). e.binder == x) rest)) ≡ Some j → (state_of rest x ≡ Some j → (e : EnvEntry) × Contains rest e × (e.binder ≡ x) × (e.state.0 ≡ j)) → (e : EnvEntry) × Contains (first ∷ rest) e × (e.binder ≡ x) × (e.state.0 ≡ j)
    go true same is later = (first, Contains-here first rest, eqb-true first.binder x same, (let e : first.state.0 ≡ j = cc in e))
    go false same is later = let it = later is in (it.0, Contains-later first rest it.0 it.1, it.2, it.3)

pub entries-low : (s : Scheme) → IsScheme s → BindersRise s.env → (j : ℕ) → InEntries s.env j → j < length s.automaton.states
entries-low s is rise j it = subst (λ k. k < length s.automaton.states) it.2 (is.env it.0.binder it.0.state.0 (entry-found s.env rise it.0 it.1)).in_range

-- before anything is found
none-marked : (n j : ℕ) → get_or (replicate n false) j false ≡ false
none-marked zero j = refl
none-marked (suc n) zero = refl
none-marked (suc n) (suc j) = none-marked n j

-- the search begins with the root and the binders
pub begun : (s : Scheme) (a b c : Found) → a.marks ≡ replicate (length s.automaton.states) false → a.work ≡ [] → BindersRise s.env → Grows a b (λ j. j ≡ s.root.0) → Grows b c (InEntries s.env) → IsSearch s c
begun s a b c marks work rise first second = record {
  same_length = second.same_length ∙ (first.same_length ∙ (ap length marks ∙ length-replicate (length s.automaton.states) false));
  sound = λ j it. elim (second.found j it) [
    | inl was ↦ elim (first.found j was) [
      | inl before ↦ absurd (not-before j before)
      | inr new ↦ at-root (sym new.0)
    ]
    | inr new ↦ binder j new.0
  ];
  root = second.kept s.root.0 (first.all s.root.0 refl);
  binders = second.all;
  work = λ j it. elim (second.work_new j it) [
    | inl was ↦ elim (first.work_new j was) [
      | inl before ↦ absurd (none j before)
      | inr e ↦ second.kept j (first.all j e)
    ]
    | inr entry ↦ second.all j entry
  ];
  closed = λ i it. elim (second.found i it) [
    | inl was ↦ elim (first.found i was) [
      | inl before ↦ absurd (not-before i before)
      | inr new ↦ inl (second.work_kept i new.1)
    ]
    | inr new ↦ inl new.1
  ];
}
  where
    not-before : (j : ℕ) → IsMarked a j → ⊥
    not-before j is =
        let e : get_or a.marks j false ≡ false = ap (λ ms. get_or ms j false) marks ∙ none-marked (length s.automaton.states) j in
        absurd (cc)

    none : (j : ℕ) → Contains a.work j → ⊥
    none j it = let there : Contains [] j = subst (λ xs. Contains xs j) work it in let low : there.0 < 0 = there.1 in absurd (omega arith)

    binder : (j : ℕ) → InEntries s.env j → IsReached s j
    binder j it = at-binder it.0.binder (entry-found s.env rise it.0 it.1 ∙ ap Some it.2)

-- one more state is looked at
pub looked : (s : Scheme) (before rest after : Found) (k : ℕ) → IsSearch s before → rest.marks ≡ before.marks → before.work ≡ rest.work ++ k ∷ [] → Grows rest after (Names s.automaton k) → IsSearch s after
looked s before rest after k is marks work grows = record {
  same_length = grows.same_length ∙ (ap length marks ∙ is.same_length);
  sound = λ j it. elim (grows.found j it) [
    | inl was ↦ is.sound j (back j was)
    | inr new ↦ by-name (is.sound k (is.work k last)) new.0
  ];
  root = grows.kept s.root.0 (forth s.root.0 is.root);
  binders = λ j it. grows.kept j (forth j (is.binders j it));
  work = λ j it. elim (grows.work_new j it) [
    | inl was ↦ grows.kept j (forth j (is.work j (more j was)))
    | inr new ↦ grows.all j new
  ];
  closed = λ i it. elim (grows.found i it) [
    | inl was ↦ elim (is.closed i (back i was)) [
      | inl in_work ↦ elim (Contains-append_cases rest.work (k ∷ []) i (subst (λ xs. Contains xs i) work in_work)) [
        | inl still ↦ inl (grows.work_kept i still)
        | inr now ↦ inr (λ j named. grows.all j (subst (λ m. Names s.automaton m j) (sym (one i now)) named))
      ]
      | inr all ↦ inr (λ j named. grows.kept j (forth j (all j named)))
    ]
    | inr new ↦ inl new.1
  ];
}
  where
    back : (j : ℕ) → IsMarked rest j → IsMarked before j
    back j it = ap (λ ms. get_or ms j false) (sym marks) ∙ it

    forth : (j : ℕ) → IsMarked before j → IsMarked rest j
    forth j it = ap (λ ms. get_or ms j false) marks ∙ it

    more : (j : ℕ) → Contains rest.work j → Contains before.work j
    more j it = subst (λ xs. Contains xs j) (sym work) (Contains-append_left rest.work (k ∷ []) j it)

    last : Contains before.work k
    last = subst (λ xs. Contains xs k) (sym work) (Contains-append_right rest.work (k ∷ []) k (Contains-here k []))

    one : (i : ℕ) → Contains (k ∷ []) i → k ≡ i
    one i it = elim (Contains-cases k [] i it) [
      | inl e ↦ e
      | inr none ↦ let low : none.0 < 0 = none.1 in absurd (omega arith)
    ]

pub looked-less : (before rest after : Found) (k : ℕ) (P : ℕ → Type 0) → rest.marks ≡ before.marks → before.work ≡ rest.work ++ k ∷ [] → Grows rest after P → left_of after < left_of before
looked-less before rest after k P marks work grows =
    let size : length before.work ≡ length rest.work + 1 = ap length work ∙ length-append rest.work (k ∷ []) in
    let same : unmarked rest.marks ≡ unmarked before.marks = ap unmarked marks in
    let h = grows.left in
    omega arith

-- where nothing is left to be looked at
pub searched : (s : Scheme) (f : Found) → IsSearch s f → f.work ≡ [] → AreReached s f.marks
searched s f is work = record { same_length = is.same_length; sound = is.sound; complete = complete }
  where
    complete : (j : ℕ) → IsReached s j → IsMarked f j
    complete j (at-root e) = subst (IsMarked f) e is.root
    complete j (at-binder x e) = let it = found-entry s.env x j e in is.binders j (it.0, it.1, it.3)
    complete j (by-name {i} before named) = elim (is.closed i (complete i before)) [
      | inl in_work ↦ let there : Contains [] i = subst (λ xs. Contains xs i) work in_work in let low : there.0 < 0 = there.1 in absurd (omega arith)
      | inr all ↦ all j named
    ]

-- the state that is taken up is there
pub last-low : (s : Scheme) (f : Found) (rest : List ℕ) (k : ℕ) → IsSearch s f → f.work ≡ rest ++ k ∷ [] → k < length s.automaton.states
last-low s f rest k is work =
    let there : Contains f.work k = subst (λ xs. Contains xs k) (sym work) (Contains-append_right rest (k ∷ []) k (Contains-here k [])) in
    subst (λ n. k < n) is.same_length (marked-low f k (is.work k there))
