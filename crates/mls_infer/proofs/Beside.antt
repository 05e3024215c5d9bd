-- Schemes put behind others one by one are those side by side.
--     joined_one, joined_more     the first scheme, and one more
--     joined_two, joined_three
use Rattle.std.proofs.Common.{◌≡◌, ℕ, ◌+◌, List, [], ◌∷◌, ◌++◌, map, refl, sym, ap, ◌∙◌, arith, Some, None, append-nil, length-append}
use Rattle.std.specs.Prelude.{Option, option_map}
use Rattle.std.proofs.lemmas.List.{append_assoc, map-append, length-map}
use Rattle.mls_automaton.specs.declared.automaton.Arms.{Arms}
use Rattle.mls_automaton.specs.declared.automaton.FieldSet.{FieldSet}
use Rattle.mls_automaton.specs.declared.automaton.State.{State}
use Rattle.mls_automaton.specs.declared.automaton.Flow.{Flow}
use Rattle.mls_automaton.specs.declared.scheme.EnvEntry.{EnvEntry}
use Rattle.mls_automaton.specs.declared.scheme.Scheme.{Scheme}
use Rattle.mls_automaton.specs.Automata.{Automaton}
use Rattle.mls_automaton.specs.Embeddings.{renamed_arms, renamed_field, renamed_head, renamed_state, renamed_flow, appended}
use Rattle.mls_automaton.proofs.Appends.{renamed_head-self}
use Rattle.mls_automaton.proofs.Lists.{map-map}
use Rattle.mls_infer.specs.Constraints.{Joined, joined, renamed_entry, size, up}
use Rattle.mls_infer.specs.Joining.{beside}

map_each : {X Y : Type 0} (f g : X → Y) → ((x : X) → f x ≡ g x) → (xs : List X) → map f xs ≡ map g xs
map_each f g same [] = refl
map_each f g same (x ∷ rest) = λ i. same x i ∷ map_each f g same rest i

map_self : {X : Type 0} (f : X → X) → ((x : X) → f x ≡ x) → (xs : List X) → map f xs ≡ xs
map_self f same [] = refl
map_self f same (x ∷ rest) = λ i. same x i ∷ map_self f same rest i

option_map_map : {X : Type 0} (f g h : X → X) → ((x : X) → g (f x) ≡ h x) → (o : Option X) → option_map g (option_map f o) ≡ option_map h o
option_map_map f g h same None = refl
option_map_map f g h same (Some x) = ap Some (same x)

-- moved up twice
module _ (m n k : ℕ) (is : k ≡ m + n) where
  numbers : (set : List ℕ) → map (up m) (map (up n) set) ≡ map (up k) set
  numbers set = map-map (up m) (up n) set ∙ map_each (λ s. m + (n + s)) (up k) (λ s. omega arith) set

  arms_up : (arms : Arms) → renamed_arms (up m) (renamed_arms (up n) arms) ≡ renamed_arms (up k) arms
  arms_up arms = λ i. record { domain = numbers arms.domain i; codomain = numbers arms.codomain i }

  field_up : (field : FieldSet) → renamed_field (up m) (renamed_field (up n) field) ≡ renamed_field (up k) field
  field_up field = λ i. record { label = field.label; set = numbers field.set i }

  fields_up : (fields : List FieldSet) → map (renamed_field (up m)) (map (renamed_field (up n)) fields) ≡ map (renamed_field (up k)) fields
  fields_up fields = map-map (renamed_field (up m)) (renamed_field (up n)) fields ∙ map_each (λ f. renamed_field (up m) (renamed_field (up n) f)) (renamed_field (up k)) field_up fields

  state_up : (s : State) → renamed_state (up m) (renamed_state (up n) s) ≡ renamed_state (up k) s
  state_up s = λ i. record {
    polarity = s.polarity;
    head = record {
      boolean = s.head.boolean;
      integer = s.head.integer;
      function = option_map_map (renamed_arms (up n)) (renamed_arms (up m)) (renamed_arms (up k)) arms_up s.head.function i;
      fields = option_map_map (map (renamed_field (up n))) (map (renamed_field (up m))) (map (renamed_field (up k))) fields_up s.head.fields i;
    };
  }

  number_up : (s : ℕ) → m + (n + s) ≡ k + s
  number_up s = omega arith

  flow_up : (f : Flow) → renamed_flow (up m) (renamed_flow (up n) f) ≡ renamed_flow (up k) f
  flow_up f = λ i. record { negative = record { 0 = number_up f.negative.0 i }; positive = record { 0 = number_up f.positive.0 i } }

  entry_up : (e : EnvEntry) → renamed_entry (up m) (renamed_entry (up n) e) ≡ renamed_entry (up k) e
  entry_up e = λ i. record { binder = e.binder; state = record { 0 = number_up e.state.0 i } }

  -- what stands behind two lists
  behind : {X : Type 0} (f g h : X → X) → ((x : X) → f (g x) ≡ h x) → (xs ys zs : List X) → xs ++ map f (ys ++ map g zs) ≡ xs ++ map f ys ++ map h zs
  behind f g h same xs ys zs =
      ap (λ rest. xs ++ rest) (map-append f ys (map g zs) ∙ ap (λ rest. map f ys ++ rest) (map-map f g zs ∙ map_each (λ x. f (g x)) h same zs))
      ∙ sym (append_assoc xs (map f ys) (map h zs))

pub size_appended : (a b : Automaton) → size (appended a b) ≡ size a + size b
size_appended a b = length-append a.states (map (renamed_state (up (size a))) b.states) ∙ ap (λ k. size a + k) (length-map b.states (renamed_state (up (size a))))

appended_thrice : (a b c : Automaton) → appended a (appended b c) ≡ appended (appended a b) c
appended_thrice a b c =
    let m : ℕ = size a in
    let n : ℕ = size b in
    let k : ℕ = size (appended a b) in
    let is : k ≡ m + n = size_appended a b in
    λ i. record {
      states = behind m n k is (renamed_state (up m)) (renamed_state (up n)) (renamed_state (up k)) (state_up m n k is) a.states b.states c.states i;
      flows = behind m n k is (renamed_flow (up m)) (renamed_flow (up n)) (renamed_flow (up k)) (flow_up m n k is) a.flows b.flows c.flows i;
    }

abbrev nothing : Automaton
nothing = record { states = []; flows = [] }

appended_nothing : (a : Automaton) → appended a nothing ≡ a
appended_nothing a = λ i. record { states = append-nil a.states i; flows = append-nil a.flows i }

-- one scheme
pub joined_one : (s : Scheme) → joined (s ∷ []) ≡ record { automaton = s.automaton; env = s.env; roots = s.root.0 ∷ [] }
joined_one s = λ i. record { automaton = appended_nothing s.automaton i; env = append-nil s.env i; roots = s.root.0 ∷ [] }

-- one scheme behind none
zero_up : (s : ℕ) → 0 + s ≡ s
zero_up s = omega arith

no_move : up 0 ≡ (λ s. s)
no_move = λ i s. zero_up s i

state_same : (s : State) → renamed_state (up 0) s ≡ s
state_same s = λ i. record { polarity = s.polarity; head = (ap (λ (place : ℕ → ℕ). renamed_head place s.head) no_move ∙ renamed_head-self s.head) i }

flow_same : (f : Flow) → renamed_flow (up 0) f ≡ f
flow_same f = λ i. record { negative = record { 0 = zero_up f.negative.0 i }; positive = record { 0 = zero_up f.positive.0 i } }

entry_same : (e : EnvEntry) → renamed_entry (up 0) e ≡ e
entry_same e = λ i. record { binder = e.binder; state = record { 0 = zero_up e.state.0 i } }

appended_to_nothing : (a : Automaton) → appended nothing a ≡ a
appended_to_nothing a = λ i. record { states = map_self (renamed_state (up 0)) state_same a.states i; flows = map_self (renamed_flow (up 0)) flow_same a.flows i }

behind_none : (s : Scheme) → beside (joined []) s ≡ record { automaton = s.automaton; env = s.env; roots = s.root.0 ∷ [] }
behind_none s = λ i. record { automaton = appended_to_nothing s.automaton i; env = map_self (renamed_entry (up 0)) entry_same s.env i; roots = zero_up s.root.0 i ∷ [] }

-- one more scheme
pub joined_more : (ss : List Scheme) (s : Scheme) → joined (ss ++ s ∷ []) ≡ beside (joined ss) s
joined_more [] s = joined_one s ∙ sym (behind_none s)
joined_more (t ∷ ss) s =
    let m : ℕ = size t.automaton in
    let j : Joined = joined ss in
    let n : ℕ = size j.automaton in
    let k : ℕ = size (appended t.automaton j.automaton) in
    let is : k ≡ m + n = size_appended t.automaton j.automaton in
    let later : joined (ss ++ s ∷ []) ≡ beside j s = joined_more ss s in
    let first : Joined → Joined = λ rest. record { automaton = appended t.automaton rest.automaton; env = t.env ++ map (renamed_entry (up m)) rest.env; roots = t.root.0 ∷ map (up m) rest.roots } in
    ap first later
    ∙ (λ i. record {
      automaton = appended_thrice t.automaton j.automaton s.automaton i;
      env = behind m n k is (renamed_entry (up m)) (renamed_entry (up n)) (renamed_entry (up k)) (entry_up m n k is) t.env j.env s.env i;
      roots = t.root.0 ∷ (map-append (up m) j.roots ((n + s.root.0) ∷ []) ∙ ap (λ r. map (up m) j.roots ++ r ∷ []) (number_up m n k is s.root.0)) i;
    })

-- two and three
pub joined_two : (s t : Scheme) → joined (s ∷ t ∷ []) ≡ beside (record { automaton = s.automaton; env = s.env; roots = s.root.0 ∷ [] }) t
joined_two s t = joined_more (s ∷ []) t ∙ ap (λ j. beside j t) (joined_one s)

pub joined_three : (r s t : Scheme) → joined (r ∷ s ∷ t ∷ []) ≡ beside (beside (record { automaton = r.automaton; env = r.env; roots = r.root.0 ∷ [] }) s) t
joined_three r s t = joined_more (r ∷ s ∷ []) t ∙ ap (λ j. beside j t) (joined_two r s)
