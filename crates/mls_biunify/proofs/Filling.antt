-- States of a table become a copy of an automaton.
use Rattle.std.proofs.Common.{◌≡◌, ◌≢◌, ◌↔◌, inl, inr, ℕ, ◌+◌, ◌<◌, ◌≤◌, true, false, List, [], ◌∷◌, ◌++◌, map, take, All, Contains, get_or, length, refl, sym, ap, ◌∙◌, subst, arith}
use Rattle.std.proofs.lemmas.Bool.{cases_eq}
use Rattle.std.proofs.lemmas.List.{get_or_default, get_or-take, length-take-le}
use Rattle.std.proofs.lemmas.List.Elements.{Contains-append_cases, Contains-append_left, Contains-append_right, Contains-get_or}
use Rattle.mls_automaton.specs.declared.automaton.Polarity.{Polarity}
use Rattle.mls_automaton.specs.declared.automaton.Polarity.TheVariants.{Positive, Negative}
use Rattle.mls_automaton.specs.declared.automaton.State.{State}
use Rattle.mls_automaton.specs.declared.automaton.Head.{Head}
use Rattle.mls_automaton.specs.declared.automaton.Flow.{Flow}
use Rattle.mls_automaton.specs.Automata.{Automaton, HasFlow, IsState, empty_head, flow, head_at, polarity_at, state_at}
use Rattle.mls_automaton.specs.Embeddings.{renamed_head, renamed_state}
use Rattle.mls_automaton.specs.Models.{HasRisingLabels, HasStatesIn, IsClosed}
use Rattle.mls_automaton.specs.Reached.{HeadNames, Names}
use Rattle.mls_automaton.specs.Sets.{Rises}
use Rattle.mls_automaton.specs.steps.Searching.{IsBelow}
use Rattle.mls_automaton.proofs.Appends.{renamed_labels, renamed_states}
use Rattle.mls_automaton.proofs.Lists.{Contains-here, Contains-later, Contains-cases}
use Rattle.mls_automaton.proofs.Reaching.{named-low}
use Rattle.mls_biunify.specs.Live.{IsStateIn, number_of}
use Rattle.mls_biunify.specs.steps.Absorbing.{AreEmpty, AreLoose, AreRenamedHeads, AreSigned, AreUnfilled, Fills, renamed_at, renamed_pair}
use Rattle.mls_biunify.specs.steps.Settlement.{AddsEdges, AreFit, StoresHeads}
use Rattle.mls_biunify.specs.steps.Tables.{IsNumbered, Numbered, SetsPolarity}
use Rattle.mls_biunify.proofs.Claiming.{rising-distinct, rising-same}
use Rattle.mls_biunify.proofs.Removals.{free-names_none}
use Rattle.mls_biunify.proofs.TableSteps.{there-or_not}

-- the numbers before one are below it
pub rising-front : (xs : List ℕ) (i : ℕ) → Rises xs → i < length xs → All (λ j. j < get_or xs i 0) (take i xs)
rising-front xs i rises low k d in_list =
    let size : length (take i xs) ≡ i = length-take-le i xs (omega arith) in
    let before : k < i = omega arith in
    let is : get_or (take i xs) k d ≡ get_or xs k 0 = get_or_default (take i xs) k d 0 in_list ∙ get_or-take i xs k 0 before in
    subst (λ n. n < get_or xs i 0) (sym is) (rises k i before low)

pub number-in : (numbers : List ℕ) (i : ℕ) → i < length numbers → Contains numbers (number_of numbers i)
number-in numbers i low = Contains-get_or numbers i 0 low

-- what is told of a list that grows at its end
pub upto-none : {X : Type 0} (f : ℕ → X) (xs : List X) → xs ≡ [] → (x : X) → Contains xs x ↔ ((k : ℕ) × (k < 0) × (f k ≡ x))
upto-none f xs e x = (
  λ it. let none = subst (λ ys. Contains ys x) e it in let low : none.0 < 0 = none.1 in absurd (omega arith),
  λ it. let low : it.0 < 0 = it.1 in absurd (omega arith),
)

pub upto-more : {X : Type 0} (f : ℕ → X) (i : ℕ) (xs more : List X) → more ≡ xs ++ f i ∷ [] → ((x : X) → Contains xs x ↔ ((k : ℕ) × (k < i) × (f k ≡ x))) → (x : X) → Contains more x ↔ ((k : ℕ) × (k < i + 1) × (f k ≡ x))
upto-more f i xs more e so_far x = (
  λ it. elim (Contains-append_cases xs (f i ∷ []) x (subst (λ ys. Contains ys x) e it)) [
    | inl before ↦ let one = (so_far x).0 before in (one.0, (let low : one.0 < i = one.1 in omega arith), one.2)
    | inr last ↦ elim (Contains-cases (f i) [] x last) [
      | inl same ↦ (i, omega arith, same)
      | inr none ↦ let low : none.0 < 0 = none.1 in absurd (omega arith)
    ]
  ],
  λ it.
      subst (λ ys. Contains ys x) (sym e)
      (elim (cases_eq it.0 i) [
        | inl last ↦ Contains-append_right xs (f i ∷ []) x (subst (Contains (f i ∷ [])) (ap f (sym last) ∙ it.2) (Contains-here (f i) []))
        | inr before ↦ Contains-append_left xs (f i ∷ []) x ((so_far x).1 (it.0, (let low : it.0 < i + 1 = it.1 in omega arith), it.2))
      ]),
)

-- the heads of a closed automaton name states that have numbers
pub names-numbered : (a : Automaton) (numbers : List ℕ) → IsClosed a → length numbers ≡ length a.states → (i : ℕ) (h : Head) → h ≡ head_at a i → IsBelow (HeadNames h) (length numbers)
names-numbered a numbers closed count i h e j it = subst (λ n. j < n) (sym count) (named-low a closed i j (subst (λ (k : Head). HeadNames k j) e it))

pub flow-ends : (a : Automaton) (numbers : List ℕ) (flows : List Flow) → IsClosed a → length numbers ≡ length a.states → flows ≡ a.flows → (f : Flow) → Contains flows f → (f.negative.0 < length numbers) × (f.positive.0 < length numbers)
flow-ends a numbers flows closed count same f it =
    let there : Contains a.flows f = subst (λ (fs : List Flow). Contains fs f) same it in (
      subst (λ n. f.negative.0 < n) (sym count) (closed.negative f there).in_range,
      subst (λ n. f.positive.0 < n) (sym count) (closed.positive f there).in_range,
    )

-- polarities
module _ (old : Numbered) (a : Automaton) (numbers : List ℕ) (count : length numbers ≡ length a.states) (rises : Rises numbers) (loose : AreLoose old numbers) (empty : AreEmpty old numbers) where
  pub signed-none : AreSigned old a numbers 0 old
  signed-none = record {
    there = refl;
    flows = refl;
    signed = λ i low. absurd (omega arith);
    heads = λ j. refl;
    others = λ j none. refl;
  }

  module _ (i : ℕ) (now : Numbered) (low : i < length a.states) (so_far : AreSigned old a numbers i now) where
    this : Contains numbers (number_of numbers i)
    this = number-in numbers i (subst (λ n. i < n) (sym count) low)

    pub signing-there : get_or now.there (number_of numbers i) false ≡ true
    signing-there = ap (λ bits. get_or bits (number_of numbers i) false) so_far.there ∙ loose.there (number_of numbers i) this

    pub signing-empty : head_at now.automaton (number_of numbers i) ≡ empty_head
    signing-empty = so_far.heads (number_of numbers i) ∙ empty (number_of numbers i) this

    pub signing-unnamed : IsNumbered old → (j : ℕ) → Names now.automaton j (number_of numbers i) → ⊥
    signing-unnamed is j names =
        let before : Names old.automaton j (number_of numbers i) = subst (λ (h : Head). HeadNames h (number_of numbers i)) (so_far.heads j) names in
        elim (there-or_not old.there j) [
          | inl here ↦ loose.unnamed j (number_of numbers i) here this before
          | inr free ↦ free-names_none old is j (number_of numbers i) free before
        ]

    pub signing-unlinked : (n p : ℕ) → HasFlow now.automaton n p → (n ≢ number_of numbers i) × (p ≢ number_of numbers i)
    signing-unlinked n p edge =
        let both = loose.unlinked n p (subst (λ (flows : List Flow). Contains flows (flow n p)) so_far.flows edge) in
        (λ same. both.0 (subst (Contains numbers) (sym same) this), λ same. both.1 (subst (Contains numbers) (sym same) this))

    other-number : (k : ℕ) → k < i → number_of numbers k ≢ number_of numbers i
    other-number k less = rising-distinct numbers rises k i less (subst (λ n. i < n) (sym count) low)

    pub signed-more : (new : Numbered) (p : Polarity) → p ≡ polarity_at a i → SetsPolarity now new (number_of numbers i) p → AreSigned old a numbers (i + 1) new
    signed-more new p e sets = record {
      there = sets.there ∙ so_far.there;
      flows = sets.flows ∙ so_far.flows;
      signed = λ k less. elim (cases_eq k i) [
        | inl same ↦ subst (λ m. polarity_at new.automaton (number_of numbers m) ≡ polarity_at a m) (sym same) (ap (λ (s : State). s.polarity) sets.here ∙ e)
        | inr before ↦
            let below : k < i = omega arith in
            ap (λ (s : State). s.polarity) (sets.others (number_of numbers k) (other-number k below)) ∙ so_far.signed k below
      ];
      heads = λ j. elim (cases_eq j (number_of numbers i)) [
        | inl same ↦ subst (λ m. head_at new.automaton m ≡ head_at old.automaton m) (sym same) (ap (λ (s : State). s.head) sets.here ∙ sym (empty (number_of numbers i) this))
        | inr other ↦ ap (λ (s : State). s.head) (sets.others j other) ∙ so_far.heads j
      ];
      others = λ j none. sets.others j (λ same. none (subst (Contains numbers) (sym same) this)) ∙ so_far.others j none;
    }

  pub signed-all : (n : ℕ) (now : Numbered) → length a.states ≤ n → AreSigned old a numbers n now → AreSigned old a numbers (length a.states) now
  signed-all n now high it = record {
    there = it.there;
    flows = it.flows;
    signed = λ k low. it.signed k (omega arith);
    heads = it.heads;
    others = it.others;
  }

-- the same lists have the same states
pub same-states : (a b : Automaton) → a.states ≡ b.states → (s : ℕ) → state_at a s ≡ state_at b s
same-states a b e s = ap (λ (states : List State). get_or states s (record { polarity = Positive; head = empty_head })) e

-- the copied edges
pub pair-of : (numbers : List ℕ) (flows : List Flow) (x : ℕ × ℕ) → Contains (map (renamed_pair numbers) flows) x → (f : Flow) × Contains flows f × (renamed_pair numbers f ≡ x)
pair-of numbers [] x it = let low : it.0 < 0 = it.1 in absurd (omega arith)
pair-of numbers (f ∷ rest) x it = elim (Contains-cases (renamed_pair numbers f) (map (renamed_pair numbers) rest) x it) [
  | inl same ↦ (f, Contains-here f rest, same)
  | inr later ↦ let one = pair-of numbers rest x later in (one.0, Contains-later f rest one.0 one.1, one.2)
]

pub of-pair : (numbers : List ℕ) (flows : List Flow) (f : Flow) → Contains flows f → Contains (map (renamed_pair numbers) flows) (renamed_pair numbers f)
of-pair numbers [] f it = let low : it.0 < 0 = it.1 in absurd (omega arith)
of-pair numbers (g ∷ rest) f it = elim (Contains-cases g rest f it) [
  | inl same ↦ subst (λ h. Contains (map (renamed_pair numbers) (g ∷ rest)) (renamed_pair numbers h)) same (Contains-here (renamed_pair numbers g) (map (renamed_pair numbers) rest))
  | inr later ↦ Contains-later (renamed_pair numbers g) (map (renamed_pair numbers) rest) (renamed_pair numbers f) (of-pair numbers rest f later)
]

module _ (old : Numbered) (a : Automaton) (closed : IsClosed a) (numbers : List ℕ) (count : length numbers ≡ length a.states) (rises : Rises numbers) (loose : AreLoose old numbers) (empty : AreEmpty old numbers) (signed : Numbered) (signs : AreSigned old a numbers (length a.states) signed) where
  copy-state : (t : Numbered) → t.there ≡ old.there → ((j : ℕ) → polarity_at t.automaton j ≡ polarity_at signed.automaton j) → (p : Polarity) (i : ℕ) → IsState a p i → IsStateIn t.automaton t.there p (number_of numbers i)
  copy-state t there same p i it = record {
    there = ap (λ bits. get_or bits (number_of numbers i) false) there ∙ loose.there (number_of numbers i) (number-in numbers i (subst (λ n. i < n) (sym count) it.in_range));
    polarity = same (number_of numbers i) ∙ (signs.signed i it.in_range ∙ it.polarity);
  }

  pub edges-fit : (edges slice : List (ℕ × ℕ)) → slice ≡ edges → edges ≡ map (renamed_pair numbers) a.flows → (n p : ℕ) → Contains slice (n, p) → IsStateIn signed.automaton signed.there Negative n × IsStateIn signed.automaton signed.there Positive p
  edges-fit edges slice same is n p it =
      let one = pair-of numbers a.flows (n, p) (subst (λ xs. Contains xs (n, p)) (same ∙ is) it) in (
        subst (IsStateIn signed.automaton signed.there Negative) (ap (λ (x : ℕ × ℕ). x.0) one.2) (copy-state signed signs.there (λ j. refl) Negative one.0.negative.0 (closed.negative one.0 one.1)),
        subst (IsStateIn signed.automaton signed.there Positive) (ap (λ (x : ℕ × ℕ). x.1) one.2) (copy-state signed signs.there (λ j. refl) Positive one.0.positive.0 (closed.positive one.0 one.1)),
      )

  pub unfilled : (linked : Numbered) → AddsEdges signed linked (λ n p. ⊥) → AreUnfilled old linked numbers
  unfilled linked links = record {
    there = links.there ∙ signs.there;
    empty = λ s one. ap (λ (state : State). state.head) (same-states linked.automaton signed.automaton links.states s) ∙ (signs.heads s ∙ empty s one);
    others = λ j none. same-states linked.automaton signed.automaton links.states j ∙ signs.others j none;
    flows = λ n p. (
      λ edge. subst (λ (flows : List Flow). Contains flows (flow n p)) signs.flows (elim ((links.flows n p).0 edge) [ inl before ↦ before | inr none ↦ absurd none ]),
      λ edge. (links.flows n p).1 (inl (subst (λ (flows : List Flow). Contains flows (flow n p)) (sym signs.flows) edge)),
    );
  }

  module _ (edges slice : List (ℕ × ℕ)) (same : slice ≡ edges) (is : edges ≡ map (renamed_pair numbers) a.flows) (linked : Numbered) (links : AddsEdges signed linked (λ n p. Contains slice (n, p))) (heads : List (ℕ × Head)) (renamed : AreRenamedHeads a numbers (length a.states) heads) where
    linked-state : (j : ℕ) → state_at linked.automaton j ≡ state_at signed.automaton j
    linked-state j = same-states linked.automaton signed.automaton links.states j

    pub heads-fit : AreFit linked heads
    heads-fit s h it =
        let one = (renamed (s, h)).0 it in
        let number : number_of numbers one.0 ≡ s = ap (λ (x : ℕ × Head). x.0) one.2 in
        let head : renamed_head (number_of numbers) (head_at a one.0) ≡ h = ap (λ (x : ℕ × Head). x.1) one.2 in
        let sign : polarity_at linked.automaton s ≡ polarity_at a one.0 =
        subst (λ k. polarity_at linked.automaton k ≡ polarity_at a one.0) number (ap (λ (state : State). state.polarity) (linked-state (number_of numbers one.0)) ∙ signs.signed one.0 one.1) in (
          subst (λ k. get_or linked.there k false ≡ true) number (ap (λ bits. get_or bits (number_of numbers one.0) false) (links.there ∙ signs.there) ∙ loose.there (number_of numbers one.0) (number-in numbers one.0 (subst (λ n. one.0 < n) (sym count) one.1))),
          subst (HasStatesIn (IsStateIn linked.automaton linked.there) (polarity_at linked.automaton s)) head
              (subst (λ p. HasStatesIn (IsStateIn linked.automaton linked.there) p (renamed_head (number_of numbers) (head_at a one.0))) (sym sign)
              (renamed_states (number_of numbers) (IsState a) (IsStateIn linked.automaton linked.there)
              (λ p i state. copy-state linked (links.there ∙ signs.there) (λ j. ap (λ (t : State). t.polarity) (linked-state j)) p i state)
              (polarity_at a one.0) (head_at a one.0) (closed.heads one.0))),
          subst (λ (k : Head). HasRisingLabels k.fields) head (renamed_labels (number_of numbers) (head_at a one.0).fields (closed.labels one.0)),
        )

    same-number : (i k : ℕ) → i < length a.states → k < length a.states → number_of numbers i ≡ number_of numbers k → i ≡ k
    same-number i k low high e = rising-same numbers rises i k (subst (λ n. i < n) (sym count) low) (subst (λ n. k < n) (sym count) high) e

    pub filled : (new : Numbered) → StoresHeads linked new heads → Fills old new a numbers
    filled new stores = record {
      there = stores.there ∙ (links.there ∙ signs.there);
      copies = copies;
      others = λ j none. elim (stores.stored j) [
        | inl here ↦
            let one = (renamed (j, here.0)).0 here.1 in
            absurd (none (subst (Contains numbers) (ap (λ (x : ℕ × Head). x.0) one.2) (number-in numbers one.0 (subst (λ n. one.0 < n) (sym count) one.1))))
        | inr same ↦ same.1 ∙ (linked-state j ∙ signs.others j none)
      ];
      flows = λ n p. (
        λ edge. elim ((links.flows n p).0 (subst (λ (flows : List Flow). Contains flows (flow n p)) stores.flows edge)) [
          | inl before ↦ inl (subst (λ (flows : List Flow). Contains flows (flow n p)) signs.flows before)
          | inr new_one ↦
              let one = pair-of numbers a.flows (n, p) (subst (λ xs. Contains xs (n, p)) (same ∙ is) new_one) in
              inr (one.0.negative.0, one.0.positive.0, one.1, ap (λ (x : ℕ × ℕ). x.0) one.2, ap (λ (x : ℕ × ℕ). x.1) one.2)
        ],
        λ edge. subst (λ (flows : List Flow). Contains flows (flow n p)) (sym stores.flows)
            ((links.flows n p).1 (elim edge [
              | inl before ↦ inl (subst (λ (flows : List Flow). Contains flows (flow n p)) (sym signs.flows) before)
              | inr copied ↦
                  inr (subst (λ xs. Contains xs (n, p)) (sym (same ∙ is))
                  (subst (Contains (map (renamed_pair numbers) a.flows)) (λ k. (copied.3 k, copied.4 k)) (of-pair numbers a.flows (flow copied.0 copied.1) copied.2)))
            ])),
      );
    }
      where
        copies : (i : ℕ) → i < length a.states → state_at new.automaton (number_of numbers i) ≡ renamed_state (number_of numbers) (state_at a i)
        copies i low =
            let known : Contains heads (renamed_at a numbers i) = (renamed (renamed_at a numbers i)).1 (i, low, refl) in
            elim (stores.stored (number_of numbers i)) [
              | inl here ↦
                  let one = (renamed (number_of numbers i, here.0)).0 here.1 in
                  let is_it : one.0 ≡ i = same-number one.0 i one.1 low (ap (λ (x : ℕ × Head). x.0) one.2) in
                  let head : here.0 ≡ renamed_head (number_of numbers) (head_at a i) = sym (ap (λ (x : ℕ × Head). x.1) one.2) ∙ ap (λ k. renamed_head (number_of numbers) (head_at a k)) is_it in
                  let sign : polarity_at linked.automaton (number_of numbers i) ≡ polarity_at a i = ap (λ (state : State). state.polarity) (linked-state (number_of numbers i)) ∙ signs.signed i low in
                  here.2 ∙ (λ k. record { polarity = sign k; head = head k })
              | inr same ↦ absurd (same.0 (renamed_at a numbers i).1 known)
            ]

-- before anything is done
pub untouched : (old : Numbered) (numbers : List ℕ) → AreEmpty old numbers → AreUnfilled old old numbers
untouched old numbers empty = record {
  there = refl;
  empty = empty;
  others = λ j none. refl;
  flows = λ n p. (λ it. it, λ it. it);
}
