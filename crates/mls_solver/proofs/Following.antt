-- In a model in which the goals hold, all of the closed relation holds.
use Rattle.std.proofs.Common.{◌≡◌, ℕ, List, ap, subst, All, Some}
use Rattle.std.specs.Prelude.{option_map}
use Rattle.std.proofs.lemmas.List.Elements.{All-contains}
use Rattle.mls_book.specs.Predicates.{Predicate, Implies}
use Rattle.mls_book.proofs.Depths.{Implies-trans}
use Rattle.mls_book.proofs.Constructors.{arrow-domain, arrow-codomain, rcd-fieldwise}
use Rattle.mls_automaton.specs.declared.automaton.Polarity.{Polarity}
use Rattle.mls_automaton.specs.declared.automaton.Polarity.TheVariants.{Positive, Negative}
use Rattle.mls_automaton.specs.declared.automaton.Arms.{Arms}
use Rattle.mls_automaton.specs.declared.automaton.FieldSet.{FieldSet}
use Rattle.mls_automaton.specs.Automata.{Automaton, polarity_at, head_at, opposite, flow, IsState}
use Rattle.mls_automaton.specs.Heads.{set_value, set_at, function_value, record_value, head_value}
use Rattle.mls_automaton.specs.Models.{HasArmsIn, HasFieldsIn, IsClosed, IsInside, IsModel}
use Rattle.mls_automaton.proofs.Signs.{all_upper}
use Rattle.mls_automaton.proofs.HeadOrder.{sets_found}
use Rattle.mls_automaton.proofs.HeadParts.{function-inside, record-inside}
use Rattle.mls_automaton.proofs.Instances.{AreGoals}
use Rattle.mls_solver.specs.declared.goal.Goal.{Goal}
use Rattle.mls_solver.specs.Relations.{IsGoal, IsGoalOf, InDomain, InCodomain, InField, IsRelated, goal, domain, codomain, field, along}

-- the states that a head names have the polarities of their places
module _ (a : Automaton) (closed : IsClosed a) (s : ℕ) (p : Polarity) (is : polarity_at a s ≡ p) where
  arms_in : (arms : Arms) → (head_at a s).function ≡ Some arms → All (IsState a (opposite p)) arms.domain × All (IsState a p) arms.codomain
  arms_in arms e =
      subst (λ q. All (IsState a (opposite q)) arms.domain × All (IsState a q) arms.codomain) is
      (subst (HasArmsIn (IsState a) (polarity_at a s)) e (closed.heads s).function)

  pub in_domain-state : (m : ℕ) → InDomain a s m → IsState a (opposite p) m
  in_domain-state m it = All-contains (IsState a (opposite p)) it.0.domain m (arms_in it.0 it.1).0 it.2

  pub in_codomain-state : (m : ℕ) → InCodomain a s m → IsState a p m
  in_codomain-state m it = All-contains (IsState a p) it.0.codomain m (arms_in it.0 it.1).1 it.2

  pub in_field-state : (label : List ℕ) (m : ℕ) → InField a s label m → IsState a p m
  in_field-state label m it =
      let all : All (λ (f : FieldSet). All (IsState a (polarity_at a s)) f.set) it.0 = subst (HasFieldsIn (IsState a) (polarity_at a s)) it.2 (closed.heads s).fields in
      subst (λ q. IsState a q m) is
      (All-contains (IsState a (polarity_at a s)) it.1 m (sets_found (IsState a (polarity_at a s)) it.0 all label it.1 it.3) it.4)

-- goals go from positive to negative states
pub goals_between : (a : Automaton) (goals : List Goal) → All (IsGoalOf a) goals → AreGoals a (IsGoal goals)
goals_between a goals all p n it = All-contains (IsGoalOf a) goals (record { positive = record { 0 = p }; negative = record { 0 = n } }) all it

-- related are a positive and a negative state
pub related_states : (a : Automaton) (IsGoal : ℕ → ℕ → Type 0) → IsClosed a → AreGoals a IsGoal → (p n : ℕ) → IsRelated a IsGoal p n → IsState a Positive p × IsState a Negative n
related_states a IsGoal closed are p n (goal is) = are p n is
related_states a IsGoal closed are q m (domain {p = p} {n = n} it left right) =
    let earlier = related_states a IsGoal closed are p n it in (
      in_domain-state a closed n Negative earlier.1.polarity q left,
      in_domain-state a closed p Positive earlier.0.polarity m right,
    )
related_states a IsGoal closed are q m (codomain {p = p} {n = n} it left right) =
    let earlier = related_states a IsGoal closed are p n it in (
      in_codomain-state a closed p Positive earlier.0.polarity q left,
      in_codomain-state a closed n Negative earlier.1.polarity m right,
    )
related_states a IsGoal closed are q m (field {p = p} {n = n} label it left right) =
    let earlier = related_states a IsGoal closed are p n it in (
      in_field-state a closed p Positive earlier.0.polarity label q left,
      in_field-state a closed n Negative earlier.1.polarity label m right,
    )
related_states a IsGoal closed are p m (along {n = n} {q = q} it edge later) =
    ((related_states a IsGoal closed are p n it).0, (related_states a IsGoal closed are q m later).1)

module _ (a : Automaton) (value : ℕ → Predicate) (model : IsModel a value) where
  pub head_below : (s : ℕ) → polarity_at a s ≡ Positive → Implies (head_value Positive value (head_at a s)) (value s)
  head_below s is = subst (λ p. IsInside p (head_value p value (head_at a s)) (value s)) is (model.heads s)

  pub head_above : (s : ℕ) → polarity_at a s ≡ Negative → Implies (value s) (head_value Negative value (head_at a s))
  head_above s is = subst (λ p. IsInside p (head_value p value (head_at a s)) (value s)) is (model.heads s)

  -- where a positive state is below a negative one, their heads are in order
  module _ (p n : ℕ) (is_p : polarity_at a p ≡ Positive) (is_n : polarity_at a n ≡ Negative) (below : Implies (value p) (value n)) where
    between_heads : (f g : Predicate) → IsInside Positive f (head_value Positive value (head_at a p)) → IsInside Negative g (head_value Negative value (head_at a n)) → Implies f g
    between_heads f g low high =
        Implies-trans f (head_value Positive value (head_at a p)) g low
        (Implies-trans (head_value Positive value (head_at a p)) (value p) g (head_below p is_p)
        (Implies-trans (value p) (value n) g below
        (Implies-trans (value n) (head_value Negative value (head_at a n)) g (head_above n is_n) high)))

    pub heads-below : (f g : Predicate) → IsInside Positive f (head_value Positive value (head_at a p)) → IsInside Negative g (head_value Negative value (head_at a n)) → Implies f g
    heads-below = between_heads

    pub functions-below : (f g : Arms) → (head_at a p).function ≡ Some f → (head_at a n).function ≡ Some g → Implies (function_value Positive value f) (function_value Negative value g)
    functions-below f g e e' =
        between_heads (function_value Positive value f) (function_value Negative value g)
        (function-inside Positive value (head_at a p) f e)
        (function-inside Negative value (head_at a n) g e')

    pub records-below : (fs gs : List FieldSet) → (head_at a p).fields ≡ Some fs → (head_at a n).fields ≡ Some gs → Implies (record_value Positive value (set_at fs)) (record_value Negative value (set_at gs))
    records-below fs gs e e' =
        between_heads (record_value Positive value (set_at fs)) (record_value Negative value (set_at gs))
        (record-inside Positive value (head_at a p) fs e)
        (record-inside Negative value (head_at a n) gs e')

    pub domain-follows : (q m : ℕ) → InDomain a n q → InDomain a p m → Implies (value q) (value m)
    domain-follows q m left right =
        let f : Arms = right.0 in
        let g : Arms = left.0 in
        Implies-trans (value q) (set_value Positive value g.domain) (value m)
        (all_upper value Positive g.domain q left.2)
        (Implies-trans (set_value Positive value g.domain) (set_value Negative value f.domain) (value m)
        (arrow-domain (set_value Negative value f.domain) (set_value Positive value f.codomain) (set_value Positive value g.domain) (set_value Negative value g.codomain)
        (functions-below f g right.1 left.1))
        (all_upper value Negative f.domain m right.2))

    pub codomain-follows : (q m : ℕ) → InCodomain a p q → InCodomain a n m → Implies (value q) (value m)
    codomain-follows q m left right =
        let f : Arms = left.0 in
        let g : Arms = right.0 in
        Implies-trans (value q) (set_value Positive value f.codomain) (value m)
        (all_upper value Positive f.codomain q left.2)
        (Implies-trans (set_value Positive value f.codomain) (set_value Negative value g.codomain) (value m)
        (arrow-codomain (set_value Negative value f.domain) (set_value Positive value f.codomain) (set_value Positive value g.domain) (set_value Negative value g.codomain)
        (functions-below f g left.1 right.1))
        (all_upper value Negative g.codomain m right.2))

    pub field-follows : (label : List ℕ) (q m : ℕ) → InField a p label q → InField a n label m → Implies (value q) (value m)
    field-follows label q m left right =
        let xs : List ℕ = left.1 in
        let ys : List ℕ = right.1 in
        let it =
        rcd-fieldwise (λ label. option_map (set_value Positive value) (set_at left.0 label)) (λ label. option_map (set_value Negative value) (set_at right.0 label))
        (records-below left.0 right.0 left.2 right.2) label (set_value Negative value ys) (ap (option_map (set_value Negative value)) right.3) in
        let there : option_map (set_value Positive value) (set_at left.0 label) ≡ Some (set_value Positive value xs) = ap (option_map (set_value Positive value)) left.3 in
        let found : option_map (set_value Positive value) (set_at left.0 label) ≡ Some it.0 = it.1 in
        let same : it.0 ≡ set_value Positive value xs = cc in
        Implies-trans (value q) (set_value Positive value xs) (value m)
        (all_upper value Positive xs q left.4)
        (Implies-trans (set_value Positive value xs) (set_value Negative value ys) (value m)
        (subst (λ f. Implies f (set_value Negative value ys)) same it.2)
        (all_upper value Negative ys m right.4))

  pub related-below : (IsGoal : ℕ → ℕ → Type 0) → IsClosed a → AreGoals a IsGoal → ((p n : ℕ) → IsGoal p n → Implies (value p) (value n)) → (p n : ℕ) → IsRelated a IsGoal p n → Implies (value p) (value n)
  related-below IsGoal closed are goals p n (goal is) = goals p n is
  related-below IsGoal closed are goals q m (domain {p = p} {n = n} it left right) =
      let states = related_states a IsGoal closed are p n it in
      domain-follows p n states.0.polarity states.1.polarity (related-below IsGoal closed are goals p n it) q m left right
  related-below IsGoal closed are goals q m (codomain {p = p} {n = n} it left right) =
      let states = related_states a IsGoal closed are p n it in
      codomain-follows p n states.0.polarity states.1.polarity (related-below IsGoal closed are goals p n it) q m left right
  related-below IsGoal closed are goals q m (field {p = p} {n = n} label it left right) =
      let states = related_states a IsGoal closed are p n it in
      field-follows p n states.0.polarity states.1.polarity (related-below IsGoal closed are goals p n it) label q m left right
  related-below IsGoal closed are goals p m (along {n = n} {q = q} it edge later) =
      Implies-trans (value p) (value n) (value m)
      (related-below IsGoal closed are goals p n it)
      (Implies-trans (value n) (value q) (value m)
      (model.flows (flow n q) edge)
      (related-below IsGoal closed are goals q m later))
