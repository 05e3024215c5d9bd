-- Several schemes side by side: a model of all is one of each, and models of each are one of all.
--     JoinedValues, joined_each     a model of all of them gives what each has
--     joined_all                    and what each has gives a model of all
--     all_have_states               each has the states that constraints ask for
use Rattle.std.proofs.Common.{◌≡◌, ◌⊎◌, inl, inr, ℕ, ◌+◌, ◌<◌, List, [], ◌∷◌, map, sym, ap, ◌∙◌, subst, arith, All, Contains}
use Rattle.std.proofs.lemmas.List.{length-map}
use Rattle.std.proofs.lemmas.List.Elements.{All-head, All-tail, Contains-append_left, Contains-append_right, Contains-append_cases}
use Rattle.std.proofs.Common.{length-append}
use Rattle.mls_book.specs.declared.book.Node.{Node}
use Rattle.mls_book.specs.Books.{IsClosedBook}
use Rattle.mls_book.specs.Predicates.{Predicate, Implies}
use Rattle.mls_book.proofs.LongerBooks.{united}
use Rattle.mls_book.proofs.Representation.{IsIn-held, IsIn-longer}
use Rattle.mls_automaton.specs.declared.scheme.EnvEntry.{EnvEntry}
use Rattle.mls_automaton.specs.declared.scheme.Scheme.{Scheme}
use Rattle.mls_automaton.specs.Models.{IsModel}
use Rattle.mls_automaton.proofs.Lists.{Contains-map}
use Rattle.mls_typing.specs.Typed.{IsTypeOf}
use Rattle.mls_automaton.specs.Embeddings.{renamed_state}
use Rattle.mls_infer.specs.Constraints.{HasStates, up, renamed_entry, size, Joined, joined, AllHaveTypes}
use Rattle.mls_infer.proofs.Grown.{Contains-mapped, model_agree, beside-model, model-appended}
use Rattle.mls_typing.proofs.Readings.{two_readings, read_below, read_above, readings_held}
use Rattle.mls_infer.proofs.ConstraintRows.{nothing_in, no_goal}

-- each of these states is below the type in its place
abbrev pub AreRootsBelow : (ℕ → Predicate) → List ℕ → List Predicate → Type 0
AreRootsBelow value [] [] = Unit {0}
AreRootsBelow value (r ∷ rs) (f ∷ fs) = Implies (value r) f × AreRootsBelow value rs fs
AreRootsBelow value _ _ = ⊥

-- a model of schemes side by side, in a closed book
pub record JoinedValues (ss : List Scheme) (types : ℕ → Predicate) (fs : List Predicate) : Type 0 where
  pub nodes : List Node
  pub closed : IsClosedBook nodes
  pub value : ℕ → Predicate
  pub held : (s : ℕ) → IsTypeOf nodes (value s)
  pub model : IsModel (joined ss).automaton value
  pub env : (entry : EnvEntry) → Contains (joined ss).env entry → Implies (types entry.binder) (value entry.state.0)
  pub roots : AreRootsBelow value (joined ss).roots fs

roots_moved : (value : ℕ → Predicate) (n : ℕ) (rs : List ℕ) (fs : List Predicate) → AreRootsBelow value (map (up n) rs) fs → AreRootsBelow (λ s. value (n + s)) rs fs
roots_moved value n [] [] h = tt
roots_moved value n [] (f ∷ fs) h = absurd h
roots_moved value n (r ∷ rs) [] h = absurd h
roots_moved value n (r ∷ rs) (f ∷ fs) h = (h.0, roots_moved value n rs fs h.1)

moved_roots : (value : ℕ → Predicate) (n : ℕ) (rs : List ℕ) (fs : List Predicate) → AreRootsBelow (λ s. value (n + s)) rs fs → AreRootsBelow value (map (up n) rs) fs
moved_roots value n [] [] h = tt
moved_roots value n [] (f ∷ fs) h = absurd h
moved_roots value n (r ∷ rs) [] h = absurd h
moved_roots value n (r ∷ rs) (f ∷ fs) h = (h.0, moved_roots value n rs fs h.1)

-- each of them has its type
pub joined_each : (ss : List Scheme) (types : ℕ → Predicate) (fs : List Predicate) → JoinedValues ss types fs → AllHaveTypes types ss fs
joined_each [] types [] h = tt
joined_each [] types (f ∷ fs) h = absurd h.roots
joined_each (s ∷ ss) types [] h = absurd h.roots
joined_each (s ∷ ss) types (f ∷ fs) h =
    let n : ℕ = size s.automaton in
    let rest : Joined = joined ss in
    let both = beside-model s.automaton rest.automaton h.value h.model in (
      record {
        nodes = h.nodes;
        closed = h.closed;
        value = h.value;
        held = h.held;
        model = both.0;
        goals = no_goal h.value;
        root = h.roots.0;
        env = λ entry inside. h.env entry (Contains-append_left s.env (map (renamed_entry (up n)) rest.env) entry inside);
      },
      joined_each ss types fs (record {
        nodes = h.nodes;
        closed = h.closed;
        value = λ i. h.value (n + i);
        held = λ i. h.held (n + i);
        model = both.1;
        env = λ entry inside. h.env (renamed_entry (up n) entry) (Contains-append_right s.env (map (renamed_entry (up n)) rest.env) (renamed_entry (up n) entry) (Contains-map (renamed_entry (up n)) rest.env entry inside));
        roots = roots_moved h.value n rest.roots fs h.roots.1;
      }),
    )

abbrev pub AllHaveStates : List Scheme → Type 0
AllHaveStates [] = Unit {0}
AllHaveStates (s ∷ ss) = HasStates s × AllHaveStates ss

pub all_have_states : (ss : List Scheme) → All HasStates ss → AllHaveStates ss
all_have_states [] are = tt
all_have_states (s ∷ ss) are = (All-head HasStates s ss are, all_have_states ss (All-tail HasStates s ss are))

-- a model of all, behind which these values stand
pub record JoinedBefore (ss : List Scheme) (types : ℕ → Predicate) (fs : List Predicate) (tail : ℕ → Predicate) : Type 0 where
  pub values : JoinedValues ss types fs
  pub behind : (i : ℕ) → values.value (size (joined ss).automaton + i) ≡ tail i

pub joined_all : (ss : List Scheme) → AllHaveStates ss → (types : ℕ → Predicate) (fs : List Predicate) → AllHaveTypes types ss fs
    → (b : List Node) → IsClosedBook b → (tail : ℕ → Predicate) → ((i : ℕ) → IsTypeOf b (tail i)) → JoinedBefore ss types fs tail
joined_all [] are types [] each b closed tail held = record {
  values = record {
    nodes = b;
    closed = closed;
    value = tail;
    held = held;
    model = record { flows = λ e inside. absurd (nothing_in e inside); heads = λ s t e. absurd (cc) };
    env = λ entry inside. absurd (nothing_in entry inside);
    roots = tt;
  };
  behind = λ i. let at : 0 + i ≡ i = omega arith in ap tail at;
}
joined_all [] are types (f ∷ fs) each b closed tail held = absurd each
joined_all (s ∷ ss) are types [] each b closed tail held = absurd each
joined_all (s ∷ ss) are types (f ∷ fs) each b closed tail held =
    let n : ℕ = size s.automaton in
    let rest : Joined = joined ss in
    let later : JoinedBefore ss types fs tail = joined_all ss are.1 types fs each.1 b closed tail held in
    let R : ℕ → Predicate = later.values.value in
    let T : ℕ → Predicate = each.0.value in
    let u = united each.0.nodes later.values.nodes each.0.closed later.values.closed in
    let V : ℕ → Predicate = two_readings n T R in
    let old : (m : ℕ) → m < n → V m ≡ T m = λ m low. read_below n T R m low in
    let new : (λ i. V (n + i)) ≡ R = λ k i. read_above n T R i k in
    let all_length : size (joined (s ∷ ss)).automaton ≡ n + size rest.automaton =
    length-append s.automaton.states (map (renamed_state (up n)) rest.automaton.states) ∙ ap (λ m. n + m) (length-map rest.automaton.states (renamed_state (up n))) in
    record {
      values = record {
        nodes = u.0;
        closed = u.1.closed;
        value = V;
        held =
            readings_held n u.0 T R
            (λ m low. IsIn-longer each.0.nodes u.0 (T m) each.0.closed u.1 (each.0.held m))
            (λ m. IsIn-held later.values.nodes u.0 u.2.0 (R m) u.2.1 (later.values.held m));
        model =
            model-appended s.automaton rest.automaton V
            (model_agree s.automaton are.0.automaton T V (λ m low. sym (old m low)) each.0.model)
            (subst (IsModel rest.automaton) (sym new) later.values.model);
        env = λ entry inside. by_case s rest n V T R types old new are.0 each.0.env later.values.env entry (Contains-append_cases s.env (map (renamed_entry (up n)) rest.env) entry inside);
        roots = (
          subst (λ g. Implies g f) (sym (old s.root.0 are.0.root.in_range)) each.0.root,
          moved_roots V n rest.roots fs (let P : (ℕ → Predicate) → Type 0 = λ v. AreRootsBelow v rest.roots fs in subst P (sym new) later.values.roots),
        );
      };
      behind = λ i.
          let at : size (joined (s ∷ ss)).automaton + i ≡ n + (size rest.automaton + i) = omega arith in
          ap V at ∙ (read_above n T R (size rest.automaton + i) ∙ later.behind i);
    }
  where
    by_case : (s : Scheme) (rest : Joined) (n : ℕ) (V T R : ℕ → Predicate) (types : ℕ → Predicate) → ((m : ℕ) → m < size s.automaton → V m ≡ T m) → (λ i. V (n + i)) ≡ R → HasStates s
        → ((entry : EnvEntry) → Contains s.env entry → Implies (types entry.binder) (T entry.state.0))
        → ((entry : EnvEntry) → Contains rest.env entry → Implies (types entry.binder) (R entry.state.0))
        → (entry : EnvEntry) → Contains s.env entry ⊎ Contains (map (renamed_entry (up n)) rest.env) entry → Implies (types entry.binder) (V entry.state.0)
    by_case s rest n V T R types old new are first second entry (inl inside) =
        subst (Implies (types entry.binder)) (sym (old entry.state.0 (are.env entry inside).in_range)) (first entry inside)
    by_case s rest n V T R types old new are first second entry (inr inside) =
        let it = Contains-mapped (renamed_entry (up n)) rest.env entry inside in
        let value : V (n + it.0.state.0) ≡ R it.0.state.0 = λ k. new k it.0.state.0 in
        subst (λ (e : EnvEntry). Implies (types e.binder) (V e.state.0)) it.2
        (subst (Implies (types it.0.binder)) (sym value) (second it.0 it.1))
