-- The copy of a known type, where binders have what is needed of them.
--     renamed_within      a head lies within itself under other numbers
--     plain               a copied state of no binder has its number by that of the first
--     copy_met
use Rattle.std.proofs.Common.{◌≡◌, ◌⊎◌, inl, inr, ℕ, suc, ◌+◌, ◌<◌, Bool, true, false, List, [], ◌∷◌, map, length, All, Contains, refl, sym, ap, ◌∙◌, subst, arith, Option, Some, None}
use Rattle.std.specs.Prelude.{bytes_eq, cond, find, option_map}
use Rattle.std.proofs.lemmas.List.{get_or_past}
use Rattle.std.proofs.lemmas.List.Elements.{All-contains}
use Rattle.mls_book.proofs.LongerBooks.{below_or_more}
use Rattle.mls_automaton.specs.declared.automaton.Polarity.{Polarity}
use Rattle.mls_automaton.specs.declared.automaton.Polarity.TheVariants.{Negative, Positive}
use Rattle.mls_automaton.specs.declared.automaton.Arms.{Arms}
use Rattle.mls_automaton.specs.declared.automaton.FieldSet.{FieldSet}
use Rattle.mls_automaton.specs.declared.automaton.Head.{Head}
use Rattle.mls_automaton.specs.declared.automaton.State.{State}
use Rattle.mls_automaton.specs.declared.scheme.EnvEntry.{EnvEntry}
use Rattle.mls_automaton.specs.declared.scheme.Scheme.{Scheme}
use Rattle.mls_automaton.specs.Automata.{Automaton, empty_head, flow, head_at, polarity_at, state_at, opposite, HasFlow, IsState}
use Rattle.mls_automaton.specs.Embeddings.{renamed_arms, renamed_field, renamed_head, renamed_state}
use Rattle.mls_automaton.specs.Heads.{set_at, parts_of}
use Rattle.mls_automaton.specs.Models.{HasArmsIn, HasFieldsIn, HasStatesIn}
use Rattle.mls_automaton.specs.declared.automaton.Flow.{Flow}
use Rattle.mls_automaton.proofs.Lists.{Contains-cases, Contains-here, Contains-later, Contains-map}
use Rattle.std.specs.Ordering.{nat_cmp, eq_by_cmp}
use Rattle.mls_flow.proofs.HeadsWithin.{Same, within-trans}
use Rattle.mls_infer.proofs.Grown.{states_more}
use Rattle.mls_typing.proofs.Contexts.{same_key}
use Rattle.mls_typing.proofs.TypedForms.{same_self}
use Rattle.mls_parts.specs.declared.pose.Need.{Need}
use Rattle.mls_parts.specs.declared.pose.Posing.{Posing}
use Rattle.mls_parts.specs.MetCopies.{IsCopyMet, IsOfNoBinder}
use Rattle.mls_parts.specs.MetNeeds.{HasMet, needy}
use Rattle.mls_parts.specs.PosedCopies.{IsCopyAt}
use Rattle.mls_parts.specs.PosedParts.{IsKnownType}
use Rattle.mls_parts.specs.Posings.{binder_in, copied_need}
use Rattle.mls_flow.specs.Simulations.{IsSetWithin, IsFunctionWithin, IsFieldWithin, IsRecordWithin, IsHeadWithin}

-- a head lies within itself under other numbers
module _ (R : ℕ → ℕ → Type 0) (place : ℕ → ℕ) where
  set_within : (q : Polarity) (xs : List ℕ) → All (λ x. R x (place x)) xs → IsSetWithin R xs (map place xs)
  set_within q xs all x there = (place x, Contains-map place xs x there, All-contains (λ x. R x (place x)) xs x all there)

  function_within : (p : Polarity) (o : Option Arms) → HasArmsIn (λ q x. R x (place x)) p o → IsFunctionWithin R o (option_map (renamed_arms place) o)
  function_within p None it = tt
  function_within p (Some arms) it = (set_within (opposite p) arms.domain it.0, set_within p arms.codomain it.1)

  field_within : (p : Polarity) (fields : List FieldSet) → All (λ (field : FieldSet). All (λ x. R x (place x)) field.set) fields → (label : List ℕ) → IsFieldWithin R p (set_at fields label) (set_at (map (renamed_field place) fields) label)
  field_within Positive [] all label = tt
  field_within Negative [] all label = tt
  field_within p (field ∷ rest) all label = go (bytes_eq field.label label) (field_within p rest (λ k d low. all (suc k) d (omega arith)) label)
    where
      go : (b : Bool) → IsFieldWithin R p (set_at rest label) (set_at (map (renamed_field place) rest) label)
          → IsFieldWithin R p (option_map (λ (f : FieldSet). f.set) (cond b (Some field) (find (λ (f : FieldSet). bytes_eq f.label label) rest)))
          (option_map (λ (f : FieldSet). f.set) (cond b (Some (renamed_field place field)) (find (λ (f : FieldSet). bytes_eq f.label label) (map (renamed_field place) rest))))
      go true later = set_within p field.set (all 0 field (omega arith))
      go false later = later

  record_within : (p : Polarity) (o : Option (List FieldSet)) → HasFieldsIn (λ q x. R x (place x)) p o → IsRecordWithin R p (option_map set_at o) (option_map set_at (option_map (map (renamed_field place)) o))
  record_within p None it = tt
  record_within p (Some fields) it = λ label. field_within p fields it label

  pub renamed_within : (p : Polarity) (h : Head) → HasStatesIn (λ q x. R x (place x)) p h → IsHeadWithin R p (parts_of h) (parts_of (renamed_head place h))
  renamed_within p h it = record {
    boolean = λ e. e;
    integer = λ e. e;
    function = function_within p h.function it.function;
    fields = record_within p h.fields it.fields;
  }

-- both of two things that hold of the states of a head
states_both : (Q R : Polarity → ℕ → Type 0) (p : Polarity) (h : Head) → HasStatesIn Q p h → HasStatesIn R p h → HasStatesIn (λ q x. Q q x × R q x) p h
states_both Q R p h first second = record { function = arms h.function first.function second.function; fields = record_fields h.fields first.fields second.fields }
  where
    arms : (o : Option Arms) → HasArmsIn Q p o → HasArmsIn R p o → HasArmsIn (λ q x. Q q x × R q x) p o
    arms None one two = tt
    arms (Some f) one two = (λ i d low. (one.0 i d low, two.0 i d low), λ i d low. (one.1 i d low, two.1 i d low))

    record_fields : (o : Option (List FieldSet)) → HasFieldsIn Q p o → HasFieldsIn R p o → HasFieldsIn (λ q x. Q q x × R q x) p o
    record_fields None one two = tt
    record_fields (Some fields) one two = λ i d low j e low'. (one i d low j e low', two i d low j e low')

-- what is found passes, and where nothing is found nothing passes
module _ {X : Type 0} (p : X → Bool) where
  found_in : (xs : List X) (x : X) → find p xs ≡ Some x → Contains xs x × (p x ≡ true)
  found_in [] x e = absurd (cc)
  found_in (first ∷ rest) x e = go (p first) refl e (found_in rest x)
    where
      go : (b : Bool) → p first ≡ b → cond b (Some first) (find p rest) ≡ Some x → (find p rest ≡ Some x → Contains rest x × (p x ≡ true)) → Contains (first ∷ rest) x × (p x ≡ true)
      go true passes is later = let same : first ≡ x = cc in (subst (Contains (first ∷ rest)) same (Contains-here first rest), subst (λ y. p y ≡ true) same passes)
      go false fails is later = let it = later is in (Contains-later first rest x it.0, it.1)

  none_in : (xs : List X) → find p xs ≡ None → (x : X) → Contains xs x → p x ≡ false
  none_in [] e x there = let low : there.0 < 0 = there.1 in absurd (omega arith)
  none_in (first ∷ rest) e x there = go (p first) refl e (none_in rest)
    where
      at : (first ≡ x) ⊎ Contains rest x → p first ≡ false → find p rest ≡ None → (find p rest ≡ None → (y : X) → Contains rest y → p y ≡ false) → p x ≡ false
      at (inl same) fails is later = subst (λ y. p y ≡ false) same fails
      at (inr there) fails is later = later is x there

      go : (b : Bool) → p first ≡ b → cond b (Some first) (find p rest) ≡ None → (find p rest ≡ None → (y : X) → Contains rest y → p y ≡ false) → p x ≡ false
      go true passes is later = absurd (cc)
      go false fails is later = at (Contains-cases first rest x there) fails is later

module _ (binders : List ℕ) (q : Posing) (a : Automaton) (s : Scheme) (n : ℕ) (known : IsKnownType binders s) (at : IsCopyAt q s n) (met : HasMet q.binders q.needs q.automaton a)
    (around : (entry : EnvEntry) → Contains s.env entry → IsState q.automaton Negative (binder_in q entry.binder)) (low_needs : (need : Need) → Contains q.needs need → needy q.binders need < n) where
  abbrev is_of : ℕ → EnvEntry → Bool
  is_of k entry = eq_by_cmp nat_cmp entry.state.0 k

  abbrev many : ℕ
  many = length s.automaton.states

  -- the copy of a state of no binder
  abbrev own : (k : ℕ) → (k < many) ⊎ ((j : ℕ) × (k ≡ many + j)) → ℕ
  own k (inl low) = n + k
  own k (inr past) = length a.states + k

  abbrev place_of : Option EnvEntry → ℕ → ℕ
  place_of None k = own k (below_or_more k many)
  place_of (Some entry) k = binder_in q entry.binder

  abbrev pub copy : ℕ → ℕ
  copy k = place_of (find (is_of k) s.env) k

  -- the states of heads and the positive ends of edges are those of no binder
  pub plain : (k : ℕ) → k < many → IsOfNoBinder s k → copy k ≡ n + k
  plain k low none = go (find (is_of k) s.env) refl
    where
      here : (w : (k < many) ⊎ ((j : ℕ) × (k ≡ many + j))) → own k w ≡ n + k
      here (inl below) = refl
      here (inr (j, is)) = let past : k ≡ many + j = is in absurd (omega arith)

      go : (o : Option EnvEntry) → find (is_of k) s.env ≡ o → place_of o k ≡ n + k
      go None e = here (below_or_more k many)
      go (Some entry) e = let it = found_in (is_of k) s.env entry e in absurd (none entry it.0 (same_key entry.state.0 k it.1))

  named : (k : ℕ) → HasStatesIn (λ r x. copy x ≡ n + x) (polarity_at s.automaton k) (head_at s.automaton k)
  named k =
      states_more (λ r x. IsState s.automaton r x × IsOfNoBinder s x) (λ r x. copy x ≡ n + x) (λ r x it. plain x it.0.in_range it.1) (polarity_at s.automaton k) (head_at s.automaton k)
      (states_both (IsState s.automaton) (λ r. IsOfNoBinder s) (polarity_at s.automaton k) (head_at s.automaton k) (known.closed.heads k) (known.separate.free k))

  own_state : (k : ℕ) → k < many → state_at q.automaton (n + k) ≡ renamed_state (λ j. n + j) (state_at s.automaton k)
  own_state k low = at.states k low

  same_head : (k : ℕ) → head_at a (n + k) ≡ head_at q.automaton (n + k)
  same_head k = met.others (n + k) (λ need there e. let low : needy q.binders need < n = low_needs need there in omega (arith, e))

  past_s : (k j : ℕ) → k ≡ many + j → state_at s.automaton k ≡ record { polarity = Positive; head = empty_head }
  past_s k j is = get_or_past s.automaton.states k (record { polarity = Positive; head = empty_head }) (omega (arith, is))

  past_a : (k : ℕ) → state_at a (length a.states + k) ≡ record { polarity = Positive; head = empty_head }
  past_a k = get_or_past a.states (length a.states + k) (record { polarity = Positive; head = empty_head }) (omega arith)

  copy_polarity : (k : ℕ) (o : Option EnvEntry) → find (is_of k) s.env ≡ o → polarity_at a (place_of o k) ≡ polarity_at s.automaton k
  copy_polarity k (Some entry) e =
      let it = found_in (is_of k) s.env entry e in
      met.polarity (binder_in q entry.binder)
      ∙ ((around entry it.0).polarity ∙ sym (subst (λ j. polarity_at s.automaton j ≡ Negative) (same_key entry.state.0 k it.1) (known.states entry it.0).polarity))
  copy_polarity k None e = go (below_or_more k many)
    where
      go : (w : (k < many) ⊎ ((j : ℕ) × (k ≡ many + j))) → polarity_at a (own k w) ≡ polarity_at s.automaton k
      go (inl low) = met.polarity (n + k) ∙ ap (λ (x : State). x.polarity) (own_state k low)
      go (inr (j, is)) = ap (λ (x : State). x.polarity) (past_a k) ∙ sym (ap (λ (x : State). x.polarity) (past_s k j is))

  abbrev R : ℕ → ℕ → Type 0
  R x y = copy x ≡ y

  renamed : (k : ℕ) → IsHeadWithin R (polarity_at s.automaton k) (parts_of (head_at s.automaton k)) (parts_of (renamed_head (λ j. n + j) (head_at s.automaton k)))
  renamed k = renamed_within R (λ j. n + j) (polarity_at s.automaton k) (head_at s.automaton k) (named k)

  copy_head : (k : ℕ) (o : Option EnvEntry) → find (is_of k) s.env ≡ o → IsHeadWithin R (polarity_at s.automaton k) (parts_of (head_at s.automaton k)) (parts_of (head_at a (place_of o k)))
  copy_head k (Some entry) e =
      let it = found_in (is_of k) s.env entry e in
      let is_k : entry.state.0 ≡ k = same_key entry.state.0 k it.1 in
      let is_negative : polarity_at s.automaton k ≡ Negative = subst (λ j. polarity_at s.automaton j ≡ Negative) is_k (known.states entry it.0).polarity in
      let need : IsHeadWithin Same Negative (parts_of (renamed_head (λ j. n + j) (head_at s.automaton k))) (parts_of (head_at a (binder_in q entry.binder))) =
      subst (λ j. IsHeadWithin Same Negative (parts_of (renamed_head (λ i. n + i) (head_at s.automaton j))) (parts_of (head_at a (binder_in q entry.binder)))) is_k (met.needed (copied_need n s entry) (at.needs entry it.0)) in
      within-trans R Same R (λ x y z e e'. e ∙ e') (polarity_at s.automaton k) (parts_of (head_at s.automaton k)) (parts_of (renamed_head (λ j. n + j) (head_at s.automaton k))) (parts_of (head_at a (binder_in q entry.binder)))
      (renamed k) (subst (λ (r : Polarity). IsHeadWithin Same r (parts_of (renamed_head (λ j. n + j) (head_at s.automaton k))) (parts_of (head_at a (binder_in q entry.binder)))) (sym is_negative) need)
  copy_head k None e = go (below_or_more k many)
    where
      go : (w : (k < many) ⊎ ((j : ℕ) × (k ≡ many + j))) → IsHeadWithin R (polarity_at s.automaton k) (parts_of (head_at s.automaton k)) (parts_of (head_at a (own k w)))
      go (inl low) =
          subst (λ (h : Head). IsHeadWithin R (polarity_at s.automaton k) (parts_of (head_at s.automaton k)) (parts_of h)) (sym (same_head k ∙ ap (λ (x : State). x.head) (own_state k low))) (renamed k)
      go (inr (j, is)) =
          subst (λ (h : Head). IsHeadWithin R (polarity_at s.automaton k) (parts_of h) (parts_of (head_at a (length a.states + k)))) (sym (ap (λ (x : State). x.head) (past_s k j is)))
          (record { boolean = λ e. absurd (cc); integer = λ e. absurd (cc); function = tt; fields = tt })

  -- no positive state is that of a binder
  positive_plain : (l : ℕ) → IsState s.automaton Positive l → IsOfNoBinder s l
  positive_plain l state entry there is =
      let one : polarity_at s.automaton l ≡ Negative = subst (λ j. polarity_at s.automaton j ≡ Negative) is (known.states entry there).polarity in
      let two : polarity_at s.automaton l ≡ Positive = state.polarity in
      cc

  pub copy_root : copy s.root.0 ≡ n + s.root.0
  copy_root = plain s.root.0 known.root.in_range (positive_plain s.root.0 known.root)

  copy_flow : (k l : ℕ) (o : Option EnvEntry) → find (is_of k) s.env ≡ o → HasFlow s.automaton k l → HasFlow q.automaton (place_of o k) (n + l)
  copy_flow k l (Some entry) e edge =
      let it = found_in (is_of k) s.env entry e in
      at.bound entry l it.0 (subst (λ j. HasFlow s.automaton j l) (sym (same_key entry.state.0 k it.1)) edge)
  copy_flow k l None e edge = go (below_or_more k many)
    where
      go : (w : (k < many) ⊎ ((j : ℕ) × (k ≡ many + j))) → HasFlow q.automaton (own k w) (n + l)
      go (inl low) = at.flows k l edge
      go (inr (j, is)) = let low : k < many = (known.closed.negative (flow k l) edge).in_range in let past : k ≡ many + j = is in absurd (omega arith)

  pub copy_met : IsCopyMet a (binder_in q) s copy
  copy_met = record {
    polarity = λ k. copy_polarity k (find (is_of k) s.env) refl;
    heads = λ k. copy_head k (find (is_of k) s.env) refl;
    flows = λ k l edge.
        let end = known.closed.positive (flow k l) edge in
        subst (HasFlow a (copy k)) (sym (plain l end.in_range (positive_plain l end)))
        (subst (λ (fs : List Flow). Contains fs (flow (copy k) (n + l))) (sym met.flows) (copy_flow k l (find (is_of k) s.env) refl edge));
    bound = λ entry there. bound_at entry there (find (is_of entry.state.0) s.env) refl;
  }
    where
      bound_at : (entry : EnvEntry) → Contains s.env entry → (o : Option EnvEntry) → find (is_of entry.state.0) s.env ≡ o → place_of o entry.state.0 ≡ binder_in q entry.binder
      bound_at entry there (Some other) e =
          let it = found_in (is_of entry.state.0) s.env other e in
          ap (binder_in q) (known.separate.apart other entry it.0 there (same_key other.state.0 entry.state.0 it.1))
      bound_at entry there None e =
          let no : eq_by_cmp nat_cmp entry.state.0 entry.state.0 ≡ false = none_in (is_of entry.state.0) s.env e entry there in
          let yes : eq_by_cmp nat_cmp entry.state.0 entry.state.0 ≡ true = same_self entry.state.0 in
          absurd (cc)
