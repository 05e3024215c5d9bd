-- The steps of the functions that build constraints lead to the constraints of their forms.
--     true_flows, beside_flows           edges of closed automata, side by side
--     joined_next, joined_many           schemes side by side, one after another
--     application_built, applied_over, turned_over, choice_built, make_built, project_built     from the steps to the constraint
use Rattle.std.proofs.Common.{◌≡◌, ℕ, zero, suc, ◌+◌, ◌<◌, List, [], ◌∷◌, ◌++◌, length, take, get_or, map, refl, sym, ap, ◌∙◌, arith, subst, append-nil, length-append}
use Rattle.std.proofs.lemmas.List.{append_assoc, length-map, take_more}
use Rattle.mls_automaton.specs.declared.automaton.FieldSet.{FieldSet}
use Rattle.mls_automaton.specs.declared.automaton.Head.{Head}
use Rattle.mls_automaton.specs.declared.automaton.State.{State}
use Rattle.mls_automaton.specs.declared.scheme.EnvEntry.{EnvEntry}
use Rattle.mls_automaton.specs.declared.scheme.Scheme.{Scheme}
use Rattle.mls_automaton.specs.Automata.{Automaton, empty_head, flow, HasTrueFlows, with_state}
use Rattle.mls_automaton.specs.Embeddings.{appended}
use Rattle.mls_automaton.specs.Models.{IsClosed}
use Rattle.mls_automaton.proofs.Appends.{closed-appended}
use Rattle.mls_infer.specs.Constraints.{Constraint, id, grown, negative, positive, size, up, joined, function_head, record_head, bool_head, application_over, apply_constraint, turned_constraint, choice_constraint, make_constraint, project_constraint, Joined}
use Rattle.mls_infer.specs.declared.constraints.Open.{Open}
use Rattle.mls_infer.specs.Posed.{scheme_in}
use Rattle.mls_infer.specs.Joining.{beside, field_of, raised_entries, with_passage}
use Rattle.mls_infer.proofs.Beside.{joined_more, joined_two, joined_three, size_appended}

pub true_flows : (a : Automaton) → IsClosed a → HasTrueFlows a
true_flows a closed = record { negative = closed.negative; positive = closed.positive }

pub beside_flows : (a b c : Automaton) → c ≡ appended a b → IsClosed a → IsClosed b → HasTrueFlows c
beside_flows a b c is closed closed' = subst HasTrueFlows (sym is) (true_flows (appended a b) (closed-appended a b closed closed'))

-- one more state behind a passage, and a passage behind one more state
behind_passage : (a : Automaton) (x : State) → with_state (with_passage a) x ≡ grown a (negative empty_head ∷ positive empty_head ∷ x ∷ []) (flow (size a) (suc (size a)) ∷ [])
behind_passage a x = λ i. record {
  states = append_assoc a.states (negative empty_head ∷ positive empty_head ∷ []) (x ∷ []) i;
  flows = a.flows ++ flow (size a) (suc (size a)) ∷ [];
}

one_more : (a : Automaton) (x : State) → size (with_state a x) ≡ suc (size a)
one_more a x = let all : size (with_state a x) ≡ size a + 1 = length-append a.states (x ∷ []) in omega arith

passage_behind : (a : Automaton) (x : State) → with_passage (with_state a x) ≡ grown a (x ∷ negative empty_head ∷ positive empty_head ∷ []) (flow (suc (size a)) (suc (suc (size a))) ∷ [])
passage_behind a x = λ i. record {
  states = append_assoc a.states (x ∷ []) (negative empty_head ∷ positive empty_head ∷ []) i;
  flows = a.flows ++ flow (one_more a x i) (suc (one_more a x i)) ∷ [];
}

-- the constraint of an application, over an automaton and an environment of both parts
pub application_built : (j : Joined) (q r : ℕ) (a b d : Automaton) (env : List EnvEntry) (domain codomain root demand : ℕ) (head : Head) (goals : List (ℕ × ℕ))
    → a ≡ j.automaton → env ≡ j.env
    → b ≡ with_passage a → d ≡ with_state b (negative head) → head ≡ function_head (domain ∷ []) (codomain ∷ [])
    → domain ≡ r → codomain ≡ size a → root ≡ suc (size a) → demand ≡ length b.states
    → goals ≡ (q, demand) ∷ []
    → record { scheme = record { automaton = d; env = env; root = id root }; goals = goals } ≡ application_over q r j
application_built j q r a b d env domain codomain root demand head goals a_is env_is b_is d_is head_is domain_is codomain_is root_is demand_is goals_is =
    let n : ℕ = size a in
    let head_is' : head ≡ function_head (r ∷ []) (n ∷ []) = head_is ∙ (λ i. function_head (domain_is i ∷ []) (codomain_is i ∷ [])) in
    let d_is' : d ≡ grown a (negative empty_head ∷ positive empty_head ∷ negative (function_head (r ∷ []) (n ∷ [])) ∷ []) (flow n (suc n) ∷ []) =
    d_is ∙ ((λ i. with_state (b_is i) (negative (head_is' i))) ∙ behind_passage a (negative (function_head (r ∷ []) (n ∷ [])))) in
    let demand_is' : demand ≡ suc (suc n) = demand_is ∙ (ap (λ (x : Automaton). length x.states) b_is ∙ passage_two a) in
    let goals_is' : goals ≡ (q, suc (suc n)) ∷ [] = goals_is ∙ ap (λ m. (q, m) ∷ []) demand_is' in
    (λ i. record { scheme = record { automaton = d_is' i; env = env_is i; root = id (root_is i) }; goals = goals_is' i })
    ∙ ap (λ a. application_over q r (record { automaton = a; env = j.env; roots = j.roots })) a_is
  where
    passage_two : (a : Automaton) → size (with_passage a) ≡ suc (suc (size a))
    passage_two a = let all : size (with_passage a) ≡ size a + 2 = length-append a.states (negative empty_head ∷ positive empty_head ∷ []) in omega arith

-- two parts side by side, with the function in front or the argument
module _ (first second : Scheme) (a : Automaton) (env : List EnvEntry) (root : ℕ)
    (a_is : a ≡ appended first.automaton second.automaton) (env_is : env ≡ first.env ++ raised_entries (size first.automaton) second.env)
    (root_is : root ≡ size first.automaton + second.root.0) where
  abbrev both : Joined
  both = joined (first ∷ second ∷ [])

  -- the roots of parts side by side do not count
  over_both : (q r : ℕ) → application_over q r (record { automaton = a; env = env; roots = [] }) ≡ application_over q r both
  over_both q r =
      (λ i. application_over q r (record { automaton = a_is i; env = env_is i; roots = [] }))
      ∙ sym (ap (application_over q r) (joined_two first second))

  pub applied_over : application_over first.root.0 root (record { automaton = a; env = env; roots = [] }) ≡ apply_constraint first second
  applied_over = over_both first.root.0 root ∙ ap (λ r. application_over first.root.0 r both) root_is

  pub turned_over : application_over root first.root.0 (record { automaton = a; env = env; roots = [] }) ≡ turned_constraint second first
  turned_over = over_both root first.root.0 ∙ ap (λ q. application_over q first.root.0 both) root_is

-- the constraint of a conditional
abbrev choice_over : ℕ → ℕ → ℕ → Automaton → List EnvEntry → Constraint
choice_over first second third a env =
    let n = size a in
    record {
      scheme = record {
        automaton = grown a (negative bool_head ∷ negative empty_head ∷ positive empty_head ∷ []) (flow (suc n) (suc (suc n)) ∷ []);
        env = env;
        root = id (suc (suc n));
      };
      goals = (first, n) ∷ (second, suc n) ∷ (third, suc n) ∷ [];
    }

pub choice_built : (r s t : Scheme) (a b c d : Automaton) (env env' : List EnvEntry) (second third boolean either root : ℕ) (goals : List (ℕ × ℕ))
    → a ≡ appended r.automaton s.automaton → b ≡ appended a t.automaton
    → env ≡ r.env ++ raised_entries (size r.automaton) s.env → env' ≡ env ++ raised_entries (size a) t.env
    → second ≡ size r.automaton + s.root.0 → third ≡ size a + t.root.0
    → c ≡ with_state b (negative bool_head) → boolean ≡ size b → d ≡ with_passage c → either ≡ size c → root ≡ suc (size c)
    → goals ≡ (r.root.0, boolean) ∷ (second, either) ∷ (third, either) ∷ []
    → record { scheme = record { automaton = d; env = env'; root = id root }; goals = goals } ≡ choice_constraint r s t
choice_built r s t a b c d env env' second third boolean either root goals a_is b_is env_is env'_is second_is third_is c_is boolean_is d_is either_is root_is goals_is =
    let n : ℕ = size b in
    let x : ℕ = size r.automaton + s.root.0 in
    let y : ℕ = size r.automaton + (size s.automaton + t.root.0) in
    let a' : Automaton = appended r.automaton s.automaton in
    let size_c : size c ≡ suc n = ap size c_is ∙ one_more b (negative bool_head) in
    let either_is' : either ≡ suc n = either_is ∙ size_c in
    let third_is' : third ≡ y = third_at in
    let d_is' : d ≡ grown b (negative bool_head ∷ negative empty_head ∷ positive empty_head ∷ []) (flow (suc n) (suc (suc n)) ∷ []) =
    d_is ∙ (ap with_passage c_is ∙ passage_behind b (negative bool_head)) in
    let b_is' : b ≡ appended a' t.automaton = b_is ∙ ap (λ a. appended a t.automaton) a_is in
    let env_is' : env' ≡ r.env ++ raised_entries (size r.automaton) s.env ++ raised_entries (size a') t.env =
    env'_is ∙ (λ i. env_is i ++ raised_entries (size (a_is i)) t.env) in
    (λ i. record { scheme = record { automaton = d_is' i; env = env_is' i; root = id ((root_is ∙ ap suc size_c) i) }; goals = (goals_is ∙ (λ i. (r.root.0, boolean_is i) ∷ (second_is i, either_is' i) ∷ (third_is' i, either_is' i) ∷ [])) i })
    ∙ (ap (λ b. choice_over r.root.0 x y b (r.env ++ raised_entries (size r.automaton) s.env ++ raised_entries (size a') t.env)) b_is'
    ∙ sym (ap (λ j. choice_over r.root.0 x y j.automaton j.env) (joined_three r s t)))
  where
    third_at : third ≡ size r.automaton + (size s.automaton + t.root.0)
    third_at =
        let size_a : size a ≡ size r.automaton + size s.automaton = ap size a_is ∙ size_appended r.automaton s.automaton in
        omega arith

-- the schemes of a list, one after another
pub joined_next : (ss : List Scheme) (i : ℕ) (d : Scheme) → i < length ss → joined (take (i + 1) ss) ≡ beside (joined (take i ss)) (get_or ss i d)
joined_next ss i d low = ap joined (take_more ss i d low) ∙ joined_more (take i ss) (get_or ss i d)

pub joined_many : (ss : List Scheme) → length (joined ss).roots ≡ length ss
joined_many [] = refl
joined_many (s ∷ ss) = ap suc (length-map (joined ss).roots (up (size s.automaton)) ∙ joined_many ss)

pub make_built : (ss : List Scheme) (fields : List FieldSet) (a b : Automaton) (env : List EnvEntry) (root : ℕ) (head : Head) (goals : List (ℕ × ℕ))
    → a ≡ (joined ss).automaton → env ≡ (joined ss).env → b ≡ with_state a (positive head) → head ≡ record_head fields → root ≡ size a → goals ≡ []
    → record { scheme = record { automaton = b; env = env; root = id root }; goals = goals } ≡ make_constraint fields ss
make_built ss fields a b env root head goals a_is env_is b_is head_is root_is goals_is =
    let one : with_state (joined ss).automaton (positive (record_head fields)) ≡ grown (joined ss).automaton (positive (record_head fields) ∷ []) [] =
    (λ i. record { states = (joined ss).automaton.states ++ positive (record_head fields) ∷ []; flows = sym (append-nil (joined ss).automaton.flows) i }) in
    (λ i. record {
      scheme = record {
        automaton = (b_is ∙ ((λ i. with_state (a_is i) (positive (head_is i))) ∙ one)) i;
        env = env_is i;
        root = id ((root_is ∙ ap size a_is) i);
      };
      goals = goals_is i;
    })

-- the constraint of a projection
pub project_built : (label : List ℕ) (s : Scheme) (b d : Automaton) (env : List EnvEntry) (field root demand : ℕ) (head : Head) (goals : List (ℕ × ℕ))
    → env ≡ s.env → b ≡ with_passage s.automaton → d ≡ with_state b (negative head) → head ≡ record_head (field_of label field ∷ [])
    → field ≡ size s.automaton → root ≡ suc (size s.automaton) → demand ≡ length b.states → goals ≡ (s.root.0, demand) ∷ []
    → record { scheme = record { automaton = d; env = env; root = id root }; goals = goals } ≡ project_constraint label s
project_built label s b d env field root demand head goals env_is b_is d_is head_is field_is root_is demand_is goals_is =
    let a : Automaton = s.automaton in
    let head_is' : head ≡ record_head (field_of label (size a) ∷ []) = head_is ∙ ap (λ n. record_head (field_of label n ∷ [])) field_is in
    let d_is' : d ≡ grown a (negative empty_head ∷ positive empty_head ∷ negative (record_head (field_of label (size a) ∷ [])) ∷ []) (flow (size a) (suc (size a)) ∷ []) =
    d_is ∙ ((λ i. with_state (b_is i) (negative (head_is' i))) ∙ behind_passage a (negative (record_head (field_of label (size a) ∷ [])))) in
    let demand_is' : demand ≡ suc (suc (size a)) = demand_is ∙ (ap (λ (x : Automaton). length x.states) b_is ∙ two_more a) in
    λ i. record {
      scheme = record { automaton = d_is' i; env = env_is i; root = id (root_is i) };
      goals = (goals_is ∙ ap (λ m. (s.root.0, m) ∷ []) demand_is') i;
    }
  where
    two_more : (a : Automaton) → size (with_passage a) ≡ suc (suc (size a))
    two_more a = let all : size (with_passage a) ≡ size a + 2 = length-append a.states (negative empty_head ∷ positive empty_head ∷ []) in omega arith

-- one more scheme of a list
same_default : (ss : List Scheme) (i : ℕ) (d e : Scheme) → i < length ss → get_or ss i d ≡ get_or ss i e
same_default [] i d e low = absurd (omega arith)
same_default (s ∷ ss) zero d e low = refl
same_default (s ∷ ss) (suc i) d e low = same_default ss i d e (omega arith)

module _ (ss : List Scheme) (i : ℕ) (s : Scheme) (low : i < length ss) (is : s ≡ get_or ss i s) where
  next : joined (take (i + 1) ss) ≡ beside (joined (take i ss)) s
  next = joined_next ss i s low ∙ ap (beside (joined (take i ss))) (sym is)

  pub side_step : (a a' : Automaton) (env env' : List EnvEntry) (roots roots' : List ℕ) (root : ℕ)
      → a ≡ (joined (take i ss)).automaton → env ≡ (joined (take i ss)).env → roots ≡ (joined (take i ss)).roots
      → a' ≡ appended a s.automaton → env' ≡ env ++ raised_entries (size a) s.env → root ≡ size a + s.root.0 → roots' ≡ roots ++ root ∷ []
      → (a' ≡ (joined (take (i + 1) ss)).automaton) × (env' ≡ (joined (take (i + 1) ss)).env) × (roots' ≡ (joined (take (i + 1) ss)).roots)
  side_step a a' env env' roots roots' root a_is env_is roots_is a'_is env'_is root_is roots'_is =
      let root_is' : root ≡ size (joined (take i ss)).automaton + s.root.0 = root_is ∙ ap (λ (a : Automaton). size a + s.root.0) a_is in (
        a'_is ∙ (ap (λ a. appended a s.automaton) a_is ∙ sym (ap (λ (j : Joined). j.automaton) next)),
        env'_is ∙ ((λ k. env_is k ++ raised_entries (size (a_is k)) s.env) ∙ sym (ap (λ (j : Joined). j.env) next)),
        roots'_is ∙ ((λ k. roots_is k ++ root_is' k ∷ []) ∙ sym (ap (λ (j : Joined). j.roots) next)),
      )

-- the scheme of a part of a list
pub scheme_at : (parts : List Open) (i : ℕ) (part : Open) → i < length parts → part ≡ get_or parts i part → scheme_in part ≡ get_or (map scheme_in parts) i (scheme_in part)
scheme_at [] i part low is = absurd (omega arith)
scheme_at (x ∷ rest) zero part low is = ap scheme_in is
scheme_at (x ∷ rest) (suc i) part low is = scheme_at rest i part (omega arith) is
