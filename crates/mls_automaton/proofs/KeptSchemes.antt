-- A scheme over the states that are reached: it stands within the old one.
use Rattle.std.proofs.Common.{◌≡◌, ◌↔◌, ◌⊎◌, inl, inr, ℕ, zero, suc, ◌<◌, ◌≤◌, ◌+◌, Bool, true, false, Option, Some, None, List, [], ◌∷◌, map, take, refl, sym, ap, ◌∙◌, subst, arith, length, get_or, Contains, All, cond, ◌==◌}
use Rattle.std.specs.Prelude.{find, option_map}
use Rattle.std.proofs.lemmas.List.{get_or_default, get_or_past, get_or-take, length-map, length-take-le}
use Rattle.std.proofs.Math.ListN.{get_or-map}
use Rattle.std.proofs.lemmas.Bool.{cases_eq, cases_lt}
use Rattle.std.proofs.lemmas.List.Elements.{Contains-get_or}
use Rattle.mls_automaton.specs.declared.automaton.Polarity.{Polarity}
use Rattle.mls_automaton.specs.declared.automaton.Polarity.TheVariants.{Positive, Negative}
use Rattle.mls_automaton.specs.declared.automaton.Arms.{Arms}
use Rattle.mls_automaton.specs.declared.automaton.FieldSet.{FieldSet}
use Rattle.mls_automaton.specs.declared.automaton.Head.{Head}
use Rattle.mls_automaton.specs.declared.automaton.State.{State}
use Rattle.mls_automaton.specs.declared.automaton.Flow.{Flow}
use Rattle.mls_automaton.specs.declared.scheme.EnvEntry.{EnvEntry}
use Rattle.mls_automaton.specs.declared.scheme.Scheme.{Scheme}
use Rattle.mls_automaton.specs.Automata.{Automaton, HasFlow, IsState, empty_head, flow, head_at, opposite, polarity_at, state_at}
use Rattle.mls_automaton.specs.Models.{HasStatesIn, HasArmsIn, HasFieldsIn, HasRisingLabels, IsClosed}
use Rattle.mls_automaton.specs.Schemes.{IsScheme, state_of}
use Rattle.mls_automaton.specs.Embeddings.{IsEmbedded, renamed_arms, renamed_field, renamed_head, renamed_state}
use Rattle.mls_automaton.specs.Reached.{HeadNames, InFunction, InRecord, KeepsReached, Names, named as by-name, root as at-root, binder as at-binder}
use Rattle.mls_automaton.specs.steps.Searching.{AreReached}
use Rattle.mls_automaton.specs.steps.Numbers.{KeepsOrder, KeepsOrderInArms, KeepsOrderInFields, KeepsOrderInHead}
use Rattle.mls_automaton.specs.steps.Keeping.{AddsFlowOf, AreKept, HasFlowsOf, HasKeptEnds, IsFlowOf, IsKept, IsKeptState, renamed_entry}
use Rattle.mls_automaton.proofs.Lists.{Contains-here, Contains-later, All-contained}
use Rattle.mls_automaton.specs.Environments.{BindersRise}
use Rattle.mls_automaton.proofs.Searches.{next-more, next-last, next-cases}
use Rattle.mls_automaton.proofs.Appends.{renamed_states, renamed_labels}

-- Each state that a head names, in its place: what holds of its place, and what holds of every one that is named.
module _ (Q : Polarity → ℕ → Type 0) (P : ℕ → Type 0) where
  abbrev pub Both : Polarity → ℕ → Type 0
  Both q j = Q q j × P j

  both-arms : (p : Polarity) (o : Option Arms) → HasArmsIn Q p o → ((j : ℕ) → InFunction o j → P j) → HasArmsIn Both p o
  both-arms p None each all = tt
  both-arms p (Some arms) each all = (
    All-both arms.domain (opposite p) each.0 (λ j it. all j (arms, refl, inl it)),
    All-both arms.codomain p each.1 (λ j it. all j (arms, refl, inr it)),
  )
    where
      All-both : (set : List ℕ) (q : Polarity) → All (Q q) set → ((j : ℕ) → Contains set j → P j) → All (Both q) set
      All-both set q first second k d low = (first k d low, second (get_or set k d) (Contains-get_or set k d low))

  both-fields : (p : Polarity) (o : Option (List FieldSet)) → HasFieldsIn Q p o → ((j : ℕ) → InRecord o j → P j) → HasFieldsIn Both p o
  both-fields p None each all = tt
  both-fields p (Some fields) each all = λ k d low i e in_set. (
    each k d low i e in_set,
    all (get_or (get_or fields k d).set i e) (fields, refl, (get_or fields k d, Contains-get_or fields k d low, Contains-get_or (get_or fields k d).set i e in_set)),
  )

  pub named-both : (p : Polarity) (h : Head) → HasStatesIn Q p h → ((j : ℕ) → HeadNames h j → P j) → HasStatesIn Both p h
  named-both p h each all = record {
    function = both-arms p h.function each.function (λ j it. all j (inl it));
    fields = both-fields p h.fields each.fields (λ j it. all j (inr it));
  }

-- numbers there and back
module _ (f g : ℕ → ℕ) where
  back-set : (set : List ℕ) → ((j : ℕ) → Contains set j → f (g j) ≡ j) → map f (map g set) ≡ set
  back-set [] same = refl
  back-set (j ∷ rest) same = λ i. same j (Contains-here j rest) i ∷ back-set rest (λ k it. same k (Contains-later j rest k it)) i

  back-fields : (fields : List FieldSet) → ((field : FieldSet) → Contains fields field → (j : ℕ) → Contains field.set j → f (g j) ≡ j) → map (renamed_field f) (map (renamed_field g) fields) ≡ fields
  back-fields [] same = refl
  back-fields (field ∷ rest) same = λ i.
      record { label = field.label; set = back-set field.set (same field (Contains-here field rest)) i }
      ∷ back-fields rest (λ other it. same other (Contains-later field rest other it)) i

  back-arms : (o : Option Arms) → ((j : ℕ) → InFunction o j → f (g j) ≡ j) → option_map (renamed_arms f) (option_map (renamed_arms g) o) ≡ o
  back-arms None same = refl
  back-arms (Some arms) same = λ i. Some (record {
    domain = back-set arms.domain (λ j it. same j (arms, refl, inl it)) i;
    codomain = back-set arms.codomain (λ j it. same j (arms, refl, inr it)) i;
  })

  back-record : (o : Option (List FieldSet)) → ((j : ℕ) → InRecord o j → f (g j) ≡ j) → option_map (map (renamed_field f)) (option_map (map (renamed_field g)) o) ≡ o
  back-record None same = refl
  back-record (Some fields) same = ap Some (back-fields fields (λ field there j it. same j (fields, refl, (field, there, it))))

  pub back-head : (h : Head) → ((j : ℕ) → HeadNames h j → f (g j) ≡ j) → renamed_head f (renamed_head g h) ≡ h
  back-head h same = λ i. record {
    boolean = h.boolean;
    integer = h.integer;
    function = back-arms h.function (λ j it. same j (inl it)) i;
    fields = back-record h.fields (λ j it. same j (inr it)) i;
  }

-- the states of binders under other numbers
pub state_of-renamed : (number : ℕ → ℕ) (env : List EnvEntry) (x : ℕ) → state_of (map (renamed_entry number) env) x ≡ option_map number (state_of env x)
state_of-renamed number [] x = refl
state_of-renamed number (entry ∷ rest) x = go (entry.binder == x) (state_of-renamed number rest x)
  where
    go : (b : Bool) → state_of (map (renamed_entry number) rest) x ≡ option_map number (state_of rest x)
        → option_map (λ (e : EnvEntry). e.state.0) (cond b (Some (renamed_entry number entry)) (find (λ (e : EnvEntry). e.binder == x) (map (renamed_entry number) rest)))
        ≡ option_map number (option_map (λ (e : EnvEntry). e.state.0) (cond b (Some entry) (find (λ (e : EnvEntry). e.binder == x) rest)))
    go true later = refl
    go false later = later

module _ (s : Scheme) (marks : List Bool) (places : List ℕ) (number : ℕ → ℕ) (is : IsScheme s) (reached : AreReached s marks) (are : AreKept marks places number) where
  abbrev a : Automaton
  a = s.automaton

  abbrev place : ℕ → ℕ
  place i = get_or places i 0

  -- what a state that is kept names is kept
  kept-named : (j k : ℕ) → IsKept marks j → Names a j k → IsKept marks k
  kept-named j k it named = reached.complete k (by-name (reached.sound j it) named)

  low-state : (j : ℕ) → IsKept marks j → j < length a.states
  low-state j it = elim (cases_lt j (length marks)) [
    | inl low ↦ subst (λ n. j < n) reached.same_length low
    | inr high ↦ let none : get_or marks j false ≡ false = get_or_past marks j false high in absurd (cc)
  ]

  number-less : (i j : ℕ) → IsKept marks i → IsKept marks j → i < j → number i < number j
  number-less i j first second less =
      let p = are.place i first in
      let q = are.place j second in
      let at-i : get_or places (number i) 0 ≡ i = p.1 in
      let at-j : get_or places (number j) 0 ≡ j = q.1 in
      let low-i : number i < length places = p.0 in
      elim (cases_lt (number i) (number j)) [
        | inl h ↦ h
        | inr h ↦ elim (cases_eq (number i) (number j)) [
          | inl e ↦ let same : get_or places (number i) 0 ≡ get_or places (number j) 0 = ap (λ k. get_or places k 0) e in absurd (omega arith)
          | inr other ↦ let h2 : get_or places (number j) 0 < get_or places (number i) 0 = are.rising (number j) (number i) (omega arith) low-i in absurd (omega arith)
        ]
      ]

  order-set : (set : List ℕ) → ((j : ℕ) → Contains set j → IsKept marks j) → KeepsOrder number set
  order-set set all i j here there less = number-less i j (all i here) (all j there) less

  order-head : (h : Head) → ((j : ℕ) → HeadNames h j → IsKept marks j) → KeepsOrderInHead number h
  order-head h all = (go h.function (λ j it. all j (inl it)), go-fields h.fields (λ j it. all j (inr it)))
    where
      go : (o : Option Arms) → ((j : ℕ) → InFunction o j → IsKept marks j) → KeepsOrderInArms number o
      go None each = tt
      go (Some arms) each = (order-set arms.domain (λ j it. each j (arms, refl, inl it)), order-set arms.codomain (λ j it. each j (arms, refl, inr it)))

      go-fields : (o : Option (List FieldSet)) → ((j : ℕ) → InRecord o j → IsKept marks j) → KeepsOrderInFields number o
      go-fields None each = tt
      go-fields (Some fields) each = λ k d low. order-set (get_or fields k d).set (λ j it. each j (fields, refl, (get_or fields k d, Contains-get_or fields k d low, it)))

  pub kept-states : All (IsKeptState a number) places
  kept-states k d low =
      let e : get_or places k d ≡ place k = get_or_default places k d 0 low in
      let it : IsKept marks (place k) = are.kept k low in
      subst (IsKeptState a number) (sym e) (low-state (place k) it, order-head (head_at a (place k)) (λ j named. kept-named (place k) j it named))

  -- an automaton with these states
  module _ (b : Automaton) (states : b.states ≡ map (λ i. renamed_state number (state_at a i)) places) where
    abbrev default_state : State
    default_state = record { polarity = Positive; head = empty_head }

    length-kept : length b.states ≡ length places
    length-kept = ap length states ∙ length-map places (λ i. renamed_state number (state_at a i))

    pub kept-state : (i : ℕ) → i < length places → state_at b i ≡ renamed_state number (state_at a (place i))
    kept-state i low =
        ap (λ (xs : List State). get_or xs i default_state) states
        ∙ (get_or_default (map (λ k. renamed_state number (state_at a k)) places) i default_state (renamed_state number (state_at a 0)) (let e : length (map (λ k. renamed_state number (state_at a k)) places) ≡ length places = length-map places (λ k. renamed_state number (state_at a k)) in omega arith)
        ∙ get_or-map (λ k. renamed_state number (state_at a k)) places i 0)

    pub is-kept : (p : Polarity) (j : ℕ) → IsState a p j → IsKept marks j → IsState b p (number j)
    is-kept p j state it =
        let at = are.place j it in
        record {
          in_range = subst (λ n. number j < n) (sym length-kept) at.0;
          polarity = ap (λ (t : State). t.polarity) (kept-state (number j) at.0) ∙ (ap (polarity_at a) at.1 ∙ state.polarity);
        }

    pub kept-ends : (f : Flow) → Contains a.flows f → HasKeptEnds marks number b f
    kept-ends f it = record {
      negative_low = subst (λ n. f.negative.0 < n) (sym reached.same_length) (is.automaton.negative f it).in_range;
      positive_low = subst (λ n. f.positive.0 < n) (sym reached.same_length) (is.automaton.positive f it).in_range;
      negative = λ kept. is-kept Negative f.negative.0 (is.automaton.negative f it) kept;
      positive = λ kept. is-kept Positive f.positive.0 (is.automaton.positive f it) kept;
    }

    module _ (flows : HasFlowsOf marks number a.flows b) where
      kept-heads : (i : ℕ) → i < length places → HasStatesIn (IsState b) (polarity_at b i) (head_at b i)
      kept-heads i low =
          let it : IsKept marks (place i) = are.kept i low in
          subst (λ (t : State). HasStatesIn (IsState b) t.polarity t.head) (sym (kept-state i low))
          (renamed_states number (Both (IsState a) (IsKept marks)) (IsState b) (λ p j both. is-kept p j both.0 both.1) (polarity_at a (place i)) (head_at a (place i))
          (named-both (IsState a) (IsKept marks) (polarity_at a (place i)) (head_at a (place i)) (is.automaton.heads (place i)) (λ j named. kept-named (place i) j it named)))

      past : (i : ℕ) → length places ≤ i → state_at b i ≡ default_state
      past i high = get_or_past b.states i default_state (let e : length b.states ≡ length places = length-kept in omega arith)

      pub kept-closed : IsClosed b
      kept-closed = record {
        heads = λ i. elim (cases_lt i (length places)) [
          | inl low ↦ kept-heads i low
          | inr high ↦ subst (λ (t : State). HasStatesIn (IsState b) t.polarity t.head) (sym (past i high)) (record { function = tt; fields = tt })
        ];
        labels = λ i. elim (cases_lt i (length places)) [
          | inl low ↦ subst (λ (t : State). HasRisingLabels t.head.fields) (sym (kept-state i low)) (renamed_labels number (head_at a (place i)).fields (is.automaton.labels (place i)))
          | inr high ↦ subst (λ (t : State). HasRisingLabels t.head.fields) (sym (past i high)) tt
        ];
        negative = λ f it.
            let found = (flows f.negative.0 f.positive.0).0 it in
            subst (IsState b Negative) found.2.negative (is-kept Negative found.0.negative.0 (is.automaton.negative found.0 found.1) found.2.negative_kept);
        positive = λ f it.
            let found = (flows f.negative.0 f.positive.0).0 it in
            subst (IsState b Positive) found.2.positive (is-kept Positive found.0.positive.0 (is.automaton.positive found.0 found.1) found.2.positive_kept);
      }

      pub kept-embedded : IsEmbedded place b a
      kept-embedded = record {
        in_range = λ i low. low-state (place i) (are.kept i (in-places i low));
        distinct = λ i j low low' e.
            sym (are.number_of i (in-places i low)) ∙ (ap number e ∙ are.number_of j (in-places j low'));
        polarity = λ i low. sym (ap (λ (t : State). t.polarity) (kept-state i (in-places i low)));
        head = λ i low.
            let it : IsKept marks (place i) = are.kept i (in-places i low) in
            sym (ap (λ (t : State). renamed_head place t.head) (kept-state i (in-places i low))
            ∙ back-head place number (head_at a (place i)) (λ j named. (are.place j (kept-named (place i) j it named)).1));
        flows = λ f it.
            let found = (flows f.negative.0 f.positive.0).0 it in
            let n : place f.negative.0 ≡ found.0.negative.0 = ap place (sym found.2.negative) ∙ (are.place found.0.negative.0 found.2.negative_kept).1 in
            let p : place f.positive.0 ≡ found.0.positive.0 = ap place (sym found.2.positive) ∙ (are.place found.0.positive.0 found.2.positive_kept).1 in
            subst (λ m. HasFlow a m (place f.positive.0)) (sym n) (subst (λ m. HasFlow a found.0.negative.0 m) (sym p) found.1);
        no_more_flows = λ n p low low' it.
            (flows n p).1 (
              flow (place n) (place p),
              it,
              record {
                negative_kept = are.kept n (in-places n low);
                positive_kept = are.kept p (in-places p low');
                negative = are.number_of n (in-places n low);
                positive = are.number_of p (in-places p low');
              },
            );
      }
        where
          in-places : (i : ℕ) → i < length b.states → i < length places
          in-places i low = subst (λ n. i < n) length-kept low

      module _ (kept : Scheme) (same : kept.automaton ≡ b) (env : kept.env ≡ map (renamed_entry number) s.env) (root : kept.root.0 ≡ number s.root.0) where
        root-kept : IsKept marks s.root.0
        root-kept = reached.complete s.root.0 (at-root refl)

        binder-kept : (x j : ℕ) → state_of s.env x ≡ Some j → IsKept marks j
        binder-kept x j e = reached.complete j (at-binder x e)

        env-of : (x : ℕ) → state_of kept.env x ≡ option_map number (state_of s.env x)
        env-of x = ap (λ (es : List EnvEntry). state_of es x) env ∙ state_of-renamed number s.env x

        back-binder : (x : ℕ) → state_of s.env x ≡ option_map place (state_of kept.env x)
        back-binder x = go (state_of s.env x) refl ∙ ap (option_map place) (sym (env-of x))
          where
            go : (o : Option ℕ) → state_of s.env x ≡ o → o ≡ option_map place (option_map number o)
            go None e = refl
            go (Some j) e = ap Some (sym (are.place j (binder-kept x j e)).1)

        pub kept-scheme : IsScheme kept
        kept-scheme = record {
          automaton = subst IsClosed (sym same) kept-closed;
          root = subst (λ (c : Automaton). IsState c Positive kept.root.0) (sym same) (subst (IsState b Positive) (sym root) (is-kept Positive s.root.0 is.root root-kept));
          env = λ x n e. go x n (state_of s.env x) refl (sym (env-of x) ∙ e);
        }
          where
            go : (x n : ℕ) (o : Option ℕ) → state_of s.env x ≡ o → option_map number o ≡ Some n → IsState kept.automaton Negative n
            go x n None e f = absurd (cc)
            go x n (Some j) e f =
                let at : number j ≡ n = cc in
                subst (λ (c : Automaton). IsState c Negative n) (sym same) (subst (IsState b Negative) at (is-kept Negative j (is.env x j e) (binder-kept x j e)))

        pub keeps-reached : KeepsReached kept s
        keeps-reached = record {
          place = place;
          embedded = record {
            automaton = subst (λ (c : Automaton). IsEmbedded place c a) (sym same) kept-embedded;
            root = sym (ap place root ∙ (are.place s.root.0 root-kept).1);
            env = back-binder;
          };
          rising = λ i j less low. are.rising i j less (subst (λ n. j < n) length-is low);
          all = λ j. (
            λ it. let kept' = reached.complete j it in let at = are.place j kept' in (number j, subst (λ n. number j < n) (sym length-is) at.0, at.1),
            λ it. reached.sound j (subst (IsKept marks) it.2 (are.kept it.0 (subst (λ n. it.0 < n) length-is it.1))),
          );
        }
          where
            length-is : length kept.automaton.states ≡ length places
            length-is = ap (λ (c : Automaton). length c.states) same ∙ length-kept

-- one edge more of the list
pub flows-next : (marks : List Bool) (number : ℕ → ℕ) (flows : List Flow) (i : ℕ) (d : Flow) (old new : Automaton) → i < length flows → HasFlowsOf marks number (take i flows) old → AddsFlowOf marks number (get_or flows i d) old new → HasFlowsOf marks number (take (i + 1) flows) new
flows-next marks number flows i d old new low before adds n p = (
  λ it. elim ((adds n p).0 it) [
    | inl was ↦ let found = (before n p).0 was in (found.0, next-more flows i d low found.0 found.1, found.2)
    | inr one ↦ (get_or flows i d, next-last flows i d low, one)
  ],
  λ it. elim (next-cases flows i d low it.0 it.1) [
    | inl was ↦ (adds n p).1 (inl ((before n p).1 (it.0, was, it.2)))
    | inr same ↦ (adds n p).1 (inr (subst (IsFlowOf marks number n p) (sym same) it.2))
  ],
)

pub flows-all : (marks : List Bool) (number : ℕ → ℕ) (flows : List Flow) (i : ℕ) (b : Automaton) → length flows ≤ i → HasFlowsOf marks number (take i flows) b → HasFlowsOf marks number flows b
flows-all marks number flows i b all it = subst (λ (fs : List Flow). HasFlowsOf marks number fs b) (take-all flows i all) it
  where
    take-all : (xs : List Flow) (n : ℕ) → length xs ≤ n → take n xs ≡ xs
    take-all [] zero le = refl
    take-all [] (suc n) le = refl
    take-all (x ∷ xs) zero le = absurd (omega arith)
    take-all (x ∷ xs) (suc n) le = ap (λ ys. x ∷ ys) (take-all xs n (omega arith))

pub flows-none : (marks : List Bool) (number : ℕ → ℕ) (b : Automaton) → b.flows ≡ [] → HasFlowsOf marks number [] b
flows-none marks number b none n p = (
  λ it. let there : Contains [] (flow n p) = subst (λ (fs : List Flow). Contains fs (flow n p)) none it in let low : there.0 < 0 = there.1 in absurd (omega arith),
  λ it. let low : it.1.0 < 0 = it.1.1 in absurd (omega arith),
)

-- one edge, by the numbers of its ends
pub flow-of : (marks : List Bool) (number : ℕ → ℕ) (f : Flow) (negative positive : ℕ) (old new : Automaton) → IsKept marks f.negative.0 → IsKept marks f.positive.0 → negative ≡ number f.negative.0 → positive ≡ number f.positive.0 → ((n p : ℕ) → HasFlow new n p ↔ HasFlow old n p ⊎ ((n ≡ negative) × (p ≡ positive))) → AddsFlowOf marks number f old new
flow-of marks number f negative positive old new first second is-n is-p adds n p = (
  λ it. elim ((adds n p).0 it) [
    | inl was ↦ inl was
    | inr one ↦ inr (record { negative_kept = first; positive_kept = second; negative = sym is-n ∙ sym one.0; positive = sym is-p ∙ sym one.1 })
  ],
  λ it. elim it [
    | inl was ↦ (adds n p).1 (inl was)
    | inr one ↦ (adds n p).1 (inr (sym one.negative ∙ sym is-n, sym one.positive ∙ sym is-p))
  ],
)

-- the binders that were renamed rise too
pub entries-rise : (number : ℕ → ℕ) (env list : List EnvEntry) (i : ℕ) (d : EnvEntry) (kept : List EnvEntry) → BindersRise env → list ≡ env → i < length list → kept ≡ map (renamed_entry number) (take i list) → All (λ (other : EnvEntry). other.binder < (get_or list i d).binder) kept
entries-rise number env list i d kept rise same low is = rw is go
  where
    go : All (λ (other : EnvEntry). other.binder < (get_or list i d).binder) (map (renamed_entry number) (take i list))
    go k e in_list =
        let size : length (map (renamed_entry number) (take i list)) ≡ length (take i list) = length-map (take i list) (renamed_entry number) in
        let size' : length (take i list) ≡ i = length-take-le i list (omega arith) in
        let before : k < i = omega arith in
        let at : get_or (map (renamed_entry number) (take i list)) k e ≡ renamed_entry number (get_or list k d) =
        get_or_default (map (renamed_entry number) (take i list)) k e (renamed_entry number d) in_list ∙ (get_or-map (renamed_entry number) (take i list) k d ∙ ap (renamed_entry number) (get_or-take i list k d before)) in
        let rises : BindersRise list = subst BindersRise (sym same) rise in
        subst (λ (x : EnvEntry). x.binder < (get_or list i d).binder) (sym at) (rises k i d before low)

-- the same of lists that are equal
pub ends-of : (marks other : List Bool) (number : ℕ → ℕ) (b : Automaton) (flows list : List Flow) → other ≡ marks → list ≡ flows → ((f : Flow) → Contains flows f → HasKeptEnds marks number b f) → All (HasKeptEnds other number b) list
ends-of marks other number b flows list e f all = rw (e, f) (All-contained (HasKeptEnds marks number b) flows all)

pub flows-of : (marks other : List Bool) (number : ℕ → ℕ) (b : Automaton) (flows list : List Flow) → other ≡ marks → list ≡ flows → HasFlowsOf other number list b → HasFlowsOf marks number flows b
flows-of marks other number b flows list e f it = subst (λ (ms : List Bool). HasFlowsOf ms number flows b) e (subst (λ (fs : List Flow). HasFlowsOf other number fs b) f it)
