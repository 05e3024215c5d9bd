-- Over one automaton each form of a term gives what the rule of the form makes of its parts.
--     literal_in, number_in, truth_in, bound_in, bound_field_in, bound_call_in, fun_in, fix_in
--     apply_in, project_in, choice_in, let_in, make_in
use Rattle.std.proofs.Common.{◌≡◌, ◌⊎◌, ◌↔◌, inl, inr, ℕ, suc, ◌<◌, ◌==◌, Bool, true, false, List, [], ◌∷◌, map, length, refl, sym, ap, ◌∙◌, subst, arith, Contains}
use Rattle.std.specs.Prelude.{None, cond}
use Rattle.std.specs.Ordering.{nat_cmp}
use Rattle.std.specs.declared.cmp.Ordering.TheVariants.{Less}
use Rattle.std.specs.Cmp.Lexicographic.{slice_cmp}
use Rattle.std.proofs.lemmas.Bool.{eqb-true, eq-eqb}
use Rattle.std.proofs.lemmas.List.Elements.{All-nil, All-cons}
use Rattle.mls_book.specs.declared.book.Field.{Field}
use Rattle.mls_book.specs.declared.book.Node.{Node}
use Rattle.mls_book.specs.declared.book.Node.TheVariants as node
use Rattle.mls_book.specs.Books.{IsClosedBook}
use Rattle.mls_book.specs.Predicates.{Predicate, Implies, arrow, bool, int, meets, rcd, top, var}
use Rattle.mls_book.specs.Passes.{passes}
use Rattle.mls_book.proofs.Constructors.{arrow-implies}
use Rattle.mls_book.proofs.Depths.{Implies-refl, Implies-trans, Implies-same, Implies-same_back}
use Rattle.mls_book.proofs.Lattice.{meets_greatest, meets_lower}
use Rattle.mls_book.proofs.LongerBooks.{Extends-value, closed_from, extended_with}
use Rattle.mls_book.proofs.Representation.{IsIn-longer}
use Rattle.mls_book.proofs.Table.{value-arrow, value-bool, value-int, value-rcd, value-top}
use Rattle.mls_automaton.specs.declared.automaton.Polarity.{Polarity}
use Rattle.mls_automaton.specs.declared.automaton.Polarity.TheVariants.{Positive, Negative}
use Rattle.mls_automaton.specs.declared.automaton.FieldSet.{FieldSet}
use Rattle.mls_automaton.specs.declared.automaton.Head.{Head}
use Rattle.mls_automaton.specs.declared.automaton.State.{State}
use Rattle.mls_automaton.specs.declared.scheme.EnvEntry.{EnvEntry}
use Rattle.mls_automaton.specs.declared.scheme.Scheme.{Scheme}
use Rattle.mls_automaton.specs.Automata.{Automaton, HasFlow, HasTrueFlows, empty_head, flow, polarity_at, state_at}
use Rattle.mls_automaton.specs.Heads.{head_value}
use Rattle.mls_automaton.specs.Models.{IsInside, IsModel}
use Rattle.mls_automaton.proofs.Lists.{All-contained, Contains-cases, Contains-here, Contains-later}
use Rattle.mls_term.specs.Terms.{TermFields}
use Rattle.mls_typing.specs.Typed.{EachHas, IsType, IsTypeOf, OfApply, OfBound, OfChoice, OfFix, OfFun, OfLet, OfMake, OfProject, one_field, with_binder}
use Rattle.mls_typing.proofs.TypedForms.{with_type}
use Rattle.mls_typing.proofs.TypedUses.{one_field-value}
use Rattle.mls_infer.specs.Constraints.{AllHaveTypes, HasTypes, bool_head, function_head, id, int_head, negative, no_goals, positive, record_head}
use Rattle.mls_infer.specs.Merges.{over}
use Rattle.mls_infer.specs.Regions.{AreSideBySide, InEnvs, TablePart, part_over, part_roots, part_types, schemes_at}
use Rattle.mls_infer.specs.TableRows.{IsApplicationAt, IsBoundAt, IsBoundCallAt, IsBoundFieldAt, IsChoiceAt, IsFunctionAt, IsLetAt, IsLiteralAt, IsPassage, IsProjectionAt, IsRecordAt, IsRecursionAt}
use Rattle.mls_infer.proofs.ConstraintRows.{above_others, above_states, empty_negative, empty_positive, entry_above, meets_held, no_goal, nothing_in, one_goal, one_set}
use Rattle.mls_infer.proofs.HeadValues.{bool_value, function_head-value, int_value, record_head-value, set_one}
use Rattle.mls_infer.proofs.MakeRow.{made, made-below, made_record, made_record-held, made_types, made_types-held, roots_themselves}
use Rattle.mls_infer.proofs.Regions.{Assembled, Stands, assembled, each_has}
use Rattle.mls_infer.proofs.SideBySide.{AreRootsBelow}

-- what a model asks of a state that is such
stands_is : (a : Automaton) (value : ℕ → Predicate) (s : ℕ) (x : State) → state_at a s ≡ x → Stands a value s ↔ IsInside x.polarity (head_value x.polarity value x.head) (value s)
stands_is a value s x e = (
  subst (λ (y : State). IsInside y.polarity (head_value y.polarity value y.head) (value s)) e,
  subst (λ (y : State). IsInside y.polarity (head_value y.polarity value y.head) (value s)) (sym e),
)

-- states that are not alike are not the same
different : (a : Automaton) (s t : ℕ) (x y : State) → state_at a s ≡ x → state_at a t ≡ y → (x ≡ y → ⊥) → (s == t) ≡ false
different a s t x y first second apart = at (s == t) refl
  where
    at : (b : Bool) → (s == t) ≡ b → b ≡ false
    at false e = refl
    at true e = absurd (apart (sym first ∙ (ap (state_at a) (eqb-true s t e) ∙ second)))

pub one_in : (P : ℕ → Type 0) (x : ℕ) → P x → (s : ℕ) → Contains (x ∷ []) s → P s
one_in P x first s inside = elim (Contains-cases x [] s inside) [ inl same ↦ subst P same first | inr none ↦ absurd (nothing_in s none) ]

pub two_in : (P : ℕ → Type 0) (x y : ℕ) → P x → P y → (s : ℕ) → Contains (x ∷ y ∷ []) s → P s
two_in P x y first second s inside = elim (Contains-cases x (y ∷ []) s inside) [ inl same ↦ subst P same first | inr later ↦ one_in P y second s later ]

pub three_in : (P : ℕ → Type 0) (x y z : ℕ) → P x → P y → P z → (s : ℕ) → Contains (x ∷ y ∷ z ∷ []) s → P s
three_in P x y z first second third s inside = elim (Contains-cases x (y ∷ z ∷ []) s inside) [ inl same ↦ subst P same first | inr later ↦ two_in P y z second third s later ]

not_both : (p : Polarity) → p ≡ Positive → p ≡ Negative → ⊥
not_both Positive first second = absurd (cc)
not_both Negative first second = absurd (cc)

-- among new states the only edge is that of the passage
one_way : (a : Automaton) (n p : ℕ) (new : List ℕ) → HasTrueFlows a → IsPassage a n p → ((q : ℕ) → Contains new q → (q ≡ p) ⊎ (polarity_at a q ≡ Negative)) → (V : ℕ → Predicate) → Implies (V n) (V p)
    → (m q : ℕ) → HasFlow a m q → Contains new m → Contains new q → Implies (V m) (V q)
one_way a n p new flows passage kinds V below m q edge inside there = at (kinds q there)
  where
    at : (q ≡ p) ⊎ (polarity_at a q ≡ Negative) → Implies (V m) (V q)
    at (inl same) =
        let from : m ≡ n = (passage.edges m).0 (subst (HasFlow a m) same edge) in
        subst (λ m. Implies (V m) (V q)) (sym from) (subst (λ q. Implies (V n) (V q)) (sym same) below)
    at (inr low) = absurd (not_both (polarity_at a q) (flows.positive (flow m q) edge).polarity low)

-- New states of which one asks something of the goals: a passage, and a negative state with a head.
module _ (a : Automaton) (parts : List TablePart) (n p d : ℕ) (h : Head) (are : AreSideBySide a parts (n ∷ p ∷ d ∷ [])) (passage : IsPassage a n p) (demand : state_at a d ≡ negative h)
    (some : empty_head ≡ h → ⊥) (types : ℕ → Predicate) (fs : List Predicate) (g k : Predicate) where
  record Demanded : Type 0 where
    pub nodes : List Node
    pub closed : IsClosedBook nodes
    pub value : ℕ → Predicate
    pub held : (s : ℕ) → IsTypeOf nodes (value s)
    pub model : IsModel a value
    pub from : value n ≡ g
    pub to : value p ≡ g
    pub demanded : value d ≡ k
    pub env : (entry : EnvEntry) → InEnvs parts entry → Implies (types entry.binder) (value entry.state.0)
    pub roots : AreRootsBelow value (part_roots parts) fs

  demanded_all : AllHaveTypes types (schemes_at a parts) fs → (b : List Node) → IsClosedBook b → IsTypeOf b g → IsTypeOf b k
      → ((V : ℕ → Predicate) → V n ≡ g → AreRootsBelow V (part_roots parts) fs → Implies k (head_value Negative V h)) → Demanded
  demanded_all each b closed held_g held_k above =
      let all : Assembled a parts (n ∷ p ∷ d ∷ []) types fs (λ s. cond (s == d) k g) = assembled a parts (n ∷ p ∷ d ∷ []) are types fs each b closed (λ s. cond (s == d) k g) (λ s. held_at (s == d)) in
      let V : ℕ → Predicate = all.value in
      let V_n : V n ≡ g = all.at_new n (Contains-here n (p ∷ d ∷ [])) ∙ ap (λ b. cond b k g) (different a n d (negative empty_head) (negative h) passage.from demand (λ same. some (ap (λ (x : State). x.head) same))) in
      let V_p : V p ≡ g = all.at_new p (Contains-later n (p ∷ d ∷ []) p (Contains-here p (d ∷ []))) ∙ ap (λ b. cond b k g) (different a p d (positive empty_head) (negative h) passage.to demand (λ same. some (ap (λ (x : State). x.head) same))) in
      let V_d : V d ≡ k = all.at_new d (Contains-later n (p ∷ d ∷ []) d (Contains-later p (d ∷ []) d (Contains-here d []))) ∙ ap (λ b. cond b k g) (eq-eqb d d refl) in
      record {
        nodes = all.nodes;
        closed = all.closed;
        value = V;
        held = all.held;
        model =
            all.model
            (one_way a n p (n ∷ p ∷ d ∷ []) are.flows passage
            (three_in (λ q. (q ≡ p) ⊎ (polarity_at a q ≡ Negative)) n p d (inr (ap (λ (x : State). x.polarity) passage.from)) (inl refl) (inr (ap (λ (x : State). x.polarity) demand)))
            V (Implies-same (V n) (V p) (V_n ∙ sym V_p)))
            (three_in (Stands a V) n p d
            ((stands_is a V n (negative empty_head) passage.from).1 (empty_negative V n))
            ((stands_is a V p (positive empty_head) passage.to).1 (empty_positive V p))
            ((stands_is a V d (negative h) demand).1 (subst (λ c. Implies c (head_value Negative V h)) (sym V_d) (above V V_n all.roots))));
        from = V_n;
        to = V_p;
        demanded = V_d;
        env = all.env;
        roots = all.roots;
      }
    where
      held_at : (b' : Bool) → IsTypeOf b (cond b' k g)
      held_at true = held_k
      held_at false = held_g

-- a book with both types, and with the functions from the one to the other
with_arrow : (domain codomain : Predicate) → IsType domain → IsType codomain → (b : List Node) × IsClosedBook b × IsTypeOf b codomain × IsTypeOf b (arrow domain codomain)
with_arrow domain codomain domain_is codomain_is =
    let one = with_type codomain_is.0 codomain_is.1 domain domain_is in
    let i : ℕ = one.2.0 in
    let i_low : i < length one.0 = one.2.1 in
    let c : IsTypeOf one.0 codomain = IsIn-longer codomain_is.0 one.0 codomain codomain_is.1 one.1 codomain_is.2 in
    let k : ℕ = c.0 in
    let k_low : k < length one.0 = c.1 in
    let two = extended_with one.0 (node.Arrow (record { 0 = i }) (record { 0 = k })) one.1.closed tt (omega arith, omega arith) in
    let b : List Node = two.0 in
    let i_value : passes b i ≡ domain = Extends-value one.0 b one.1.closed two.1 var i i_low ∙ one.2.2 in
    let k_value : passes b k ≡ codomain = Extends-value one.0 b one.1.closed two.1 var k k_low ∙ c.2 in (
      b,
      two.1.closed,
      IsIn-longer one.0 b codomain one.1.closed two.1 c,
      (two.2.0, two.2.1, value-arrow var b two.1.closed.book two.2.0 (record { 0 = i }) (record { 0 = k }) two.2.2 ∙ (λ q. arrow (i_value q) (k_value q))),
    )

-- an application
module _ (a : Automaton) (function argument : TablePart) (n p d : ℕ) (env : List EnvEntry) (is : IsApplicationAt a function argument n p d env) (types : ℕ → Predicate) (f : Predicate) where
  abbrev q : ℕ
  q = function.root.0

  abbrev r : ℕ
  r = argument.root.0

  abbrev applied_head : Head
  applied_head = function_head (r ∷ []) (n ∷ [])

  applied_value : (V : ℕ → Predicate) → head_value Negative V applied_head ≡ arrow (V r) (V n)
  applied_value V = function_head-value Negative V (r ∷ []) (n ∷ []) ∙ (λ k. arrow (set_one Positive V r k) (set_one Negative V n k))

  pub apply_in : HasTypes (over a env (id p) ((q, d) ∷ [])) types f ↔ OfApply (part_types a function) (part_types a argument) types f
  apply_in = (forth, back)
    where
      forth : HasTypes (over a env (id p) ((q, d) ∷ [])) types f → OfApply (part_types a function) (part_types a argument) types f
      forth h =
          let T : ℕ → Predicate = h.value in
          let below : Implies (T q) (arrow (T r) (T n)) =
          Implies-trans (T q) (T d) (arrow (T r) (T n)) (h.goals q d (Contains-here (q, d) []))
          (subst (Implies (T d)) (applied_value T) ((stands_is a T d (negative applied_head) is.demand).0 (h.model.heads d))) in
          let each : AllHaveTypes types (schemes_at a (function ∷ argument ∷ [])) (arrow (T r) (T n) ∷ T r ∷ []) =
          each_has a env (id p) ((q, d) ∷ []) types f h (function ∷ argument ∷ []) (λ entry. (is.entries entry).1) (arrow (T r) (T n) ∷ T r ∷ []) (below, (Implies-refl (T r), tt)) in
          record {
            domain = T r;
            codomain = T n;
            domain_is = (h.nodes, h.closed, h.held r);
            codomain_is = (h.nodes, h.closed, h.held n);
            function = each.0;
            argument = each.1.0;
            below = Implies-trans (T n) (T p) f (h.model.flows (flow n p) ((is.passage.edges n).1 refl)) h.root;
          }

      back : OfApply (part_types a function) (part_types a argument) types f → HasTypes (over a env (id p) ((q, d) ∷ [])) types f
      back it =
          let book = with_arrow it.domain it.codomain it.domain_is it.codomain_is in
          let all : Demanded a (function ∷ argument ∷ []) n p d applied_head is.beside is.passage is.demand some types (arrow it.domain it.codomain ∷ it.domain ∷ []) it.codomain (arrow it.domain it.codomain) =
          demanded_all a (function ∷ argument ∷ []) n p d applied_head is.beside is.passage is.demand some types (arrow it.domain it.codomain ∷ it.domain ∷ []) it.codomain (arrow it.domain it.codomain)
          (it.function, (it.argument, tt)) book.0 book.1 book.2 book.3
          (λ V V_n roots.
          subst (Implies (arrow it.domain it.codomain)) (sym (applied_value V))
          (arrow-implies it.domain it.codomain (V r) (V n) roots.1.0 (Implies-same_back (V n) it.codomain V_n))) in
          let V : ℕ → Predicate = all.value in
          record {
            nodes = all.nodes;
            closed = all.closed;
            value = V;
            held = all.held;
            model = all.model;
            goals = one_goal V q d [] (subst (Implies (V q)) (sym all.demanded) all.roots.0) (no_goal V);
            root = Implies-trans (V p) it.codomain f (Implies-same (V p) it.codomain all.to) it.below;
            env = λ entry inside. all.env entry ((is.entries entry).0 inside);
          }
        where
          some : empty_head ≡ applied_head → ⊥
          some same = let none : None ≡ applied_head.function = ap (λ (h : Head). h.function) same in absurd (cc)

-- a let
module _ (a : Automaton) (first second : TablePart) (env : List EnvEntry) (is : IsLetAt a first second env) (types : ℕ → Predicate) (f : Predicate) where
  pub let_in : HasTypes (no_goals (part_over a env second.root)) types f ↔ OfLet (part_types a first) (part_types a second) types f
  let_in = (forth, back)
    where
      forth : HasTypes (no_goals (part_over a env second.root)) types f → OfLet (part_types a first) (part_types a second) types f
      forth h =
          let each : AllHaveTypes types (schemes_at a (first ∷ second ∷ [])) (top ∷ f ∷ []) =
          each_has a env second.root [] types f h (first ∷ second ∷ []) (λ entry. (is.entries entry).1) (top ∷ f ∷ []) ((λ t e. refl), (h.root, tt)) in
          record { first = each.0; second = each.1.0 }

      back : OfLet (part_types a first) (part_types a second) types f → HasTypes (no_goals (part_over a env second.root)) types f
      back it =
          let one = extended_with [] node.Top (closed_from [] (λ i low. absurd (omega arith))) tt tt in
          let all : Assembled a (first ∷ second ∷ []) [] types (top ∷ f ∷ []) (λ s. top) =
          assembled a (first ∷ second ∷ []) [] is.beside types (top ∷ f ∷ []) (it.first, (it.second, tt)) one.0 one.1.closed (λ s. top)
          (λ s. (one.2.0, one.2.1, value-top var one.0 one.1.closed.book one.2.0 one.2.2)) in
          record {
            nodes = all.nodes;
            closed = all.closed;
            value = all.value;
            held = all.held;
            model = all.model (λ n p edge inside. absurd (nothing_in n inside)) (λ s inside. absurd (nothing_in s inside));
            goals = no_goal all.value;
            root = all.roots.1.0;
            env = λ entry inside. all.env entry ((is.entries entry).0 inside);
          }

-- One new state, which gives the result: a positive state with a head.
module _ (a : Automaton) (parts : List TablePart) (r : ℕ) (h : Head) (are : AreSideBySide a parts (r ∷ [])) (result : state_at a r ≡ positive h) (types : ℕ → Predicate) (fs : List Predicate) (k : Predicate) where
  record Supplied : Type 0 where
    pub nodes : List Node
    pub closed : IsClosedBook nodes
    pub value : ℕ → Predicate
    pub held : (s : ℕ) → IsTypeOf nodes (value s)
    pub model : IsModel a value
    pub supplied : value r ≡ k
    pub env : (entry : EnvEntry) → InEnvs parts entry → Implies (types entry.binder) (value entry.state.0)
    pub roots : AreRootsBelow value (part_roots parts) fs

  supplied_all : AllHaveTypes types (schemes_at a parts) fs → (b : List Node) → IsClosedBook b → IsTypeOf b k
      → ((V : ℕ → Predicate) → ((entry : EnvEntry) → InEnvs parts entry → Implies (types entry.binder) (V entry.state.0)) → AreRootsBelow V (part_roots parts) fs → Implies (head_value Positive V h) k) → Supplied
  supplied_all each b closed held_k below =
      let all : Assembled a parts (r ∷ []) types fs (λ s. k) = assembled a parts (r ∷ []) are types fs each b closed (λ s. k) (λ s. held_k) in
      let V : ℕ → Predicate = all.value in
      let V_r : V r ≡ k = all.at_new r (Contains-here r []) in
      record {
        nodes = all.nodes;
        closed = all.closed;
        value = V;
        held = all.held;
        model =
            all.model
            (λ m q edge inside there. absurd (not_both (polarity_at a m) (one_in (λ s. polarity_at a s ≡ Positive) r (ap (λ (x : State). x.polarity) result) m inside) (are.flows.negative (flow m q) edge).polarity))
            (one_in (Stands a V) r ((stands_is a V r (positive h) result).1 (subst (Implies (head_value Positive V h)) (sym V_r) (below V all.env all.roots))));
        supplied = V_r;
        env = all.env;
        roots = all.roots;
      }

-- numbers and truth values
module _ (a : Automaton) (r : ℕ) (h : Head) (env : List EnvEntry) (is : IsLiteralAt a r h env) (g : Predicate) (is_type : IsType g) (value_is : (v : ℕ → Predicate) → head_value Positive v h ≡ g) (types : ℕ → Predicate) (f : Predicate) where
  pub literal_in : HasTypes (no_goals (part_over a env (id r))) types f ↔ Implies g f
  literal_in = (forth, back)
    where
      forth : HasTypes (no_goals (part_over a env (id r))) types f → Implies g f
      forth t = Implies-trans g (t.value r) f (subst (λ k. Implies k (t.value r)) (value_is t.value) ((stands_is a t.value r (positive h) is.result).0 (t.model.heads r))) t.root

      back : Implies g f → HasTypes (no_goals (part_over a env (id r))) types f
      back below =
          let beside : AreSideBySide a [] (r ∷ []) = record { flows = is.flows; are = tt; outside = λ s inside none. none } in
          let all : Supplied a [] r h beside is.result types [] g =
          supplied_all a [] r h beside is.result types [] g tt is_type.0 is_type.1 is_type.2 (λ V entries roots. Implies-same (head_value Positive V h) g (value_is V)) in
          record {
            nodes = all.nodes;
            closed = all.closed;
            value = all.value;
            held = all.held;
            model = all.model;
            goals = no_goal all.value;
            root = subst (λ k. Implies k f) (sym all.supplied) below;
            env = λ entry inside. all.env entry ((is.entries entry).0 inside);
          }

pub number_in : (a : Automaton) (r : ℕ) (env : List EnvEntry) → IsLiteralAt a r int_head env → (types : ℕ → Predicate) (f : Predicate) → HasTypes (no_goals (part_over a env (id r))) types f ↔ Implies int f
number_in a r env is types f =
    let it = extended_with [] node.Int (closed_from [] (λ i low. absurd (omega arith))) tt tt in
    literal_in a r int_head env is int (it.0, it.1.closed, (it.2.0, it.2.1, value-int var it.0 it.1.closed.book it.2.0 it.2.2)) (int_value Positive) types f

pub truth_in : (a : Automaton) (r : ℕ) (env : List EnvEntry) → IsLiteralAt a r bool_head env → (types : ℕ → Predicate) (f : Predicate) → HasTypes (no_goals (part_over a env (id r))) types f ↔ Implies bool f
truth_in a r env is types f =
    let it = extended_with [] node.Bool (closed_from [] (λ i low. absurd (omega arith))) tt tt in
    literal_in a r bool_head env is bool (it.0, it.1.closed, (it.2.0, it.2.1, value-bool var it.0 it.1.closed.book it.2.0 it.2.2)) (bool_value Positive) types f

-- a function
module _ (a : Automaton) (body : TablePart) (x r : ℕ) (domain : List ℕ) (env : List EnvEntry) (is : IsFunctionAt a body x r domain env) (types : ℕ → Predicate) (f : Predicate) where
  abbrev made_head : Head
  made_head = function_head domain (body.root.0 ∷ [])

  made_value : (V : ℕ → Predicate) → head_value Positive V made_head ≡ arrow (meets (map V domain)) (V body.root.0)
  made_value V = function_head-value Positive V domain (body.root.0 ∷ []) ∙ ap (arrow (meets (map V domain))) (set_one Positive V body.root.0)

  pub fun_in : HasTypes (no_goals (part_over a env (id r))) types f ↔ OfFun x (part_types a body) types f
  fun_in = (forth, back)
    where
      forth : HasTypes (no_goals (part_over a env (id r))) types f → OfFun x (part_types a body) types f
      forth h =
          let T : ℕ → Predicate = h.value in
          let D : Predicate = meets (map T domain) in
          let one = meets_held h.nodes h.closed T h.held domain in
          record {
            domain = D;
            codomain = T body.root.0;
            domain_is = (one.0, one.1.closed, one.2);
            codomain_is = (h.nodes, h.closed, h.held body.root.0);
            body = record {
              nodes = h.nodes;
              closed = h.closed;
              value = T;
              held = h.held;
              model = h.model;
              goals = no_goal T;
              root = Implies-refl (T body.root.0);
              env = entry_above x body.env types T D (λ m inside. meets_lower T domain m ((is.binder m).1 inside)) (λ entry inside. h.env entry ((is.entries entry).1 inside));
            };
            below =
                Implies-trans (arrow D (T body.root.0)) (T r) f
                (subst (λ g. Implies g (T r)) (made_value T) ((stands_is a T r (positive made_head) is.result).0 (h.model.heads r)))
                h.root;
          }

      back : OfFun x (part_types a body) types f → HasTypes (no_goals (part_over a env (id r))) types f
      back it =
          let book = with_arrow it.domain it.codomain it.domain_is it.codomain_is in
          let within : ℕ → Predicate = with_binder types x it.domain in
          let result : Predicate = arrow it.domain it.codomain in
          let all : Supplied a (body ∷ []) r made_head is.beside is.result within (it.codomain ∷ []) result =
          supplied_all a (body ∷ []) r made_head is.beside is.result within (it.codomain ∷ []) result (it.body, tt) book.0 book.1 book.3
          (λ V entries roots.
          subst (λ g. Implies g result) (sym (made_value V))
          (arrow-implies (meets (map V domain)) (V body.root.0) it.domain it.codomain
          (meets_greatest V domain it.domain
          (All-contained (λ m. Implies it.domain (V m)) domain
          (λ m inside. above_states x body.env types V it.domain (λ entry there. entries entry (inl there)) m ((is.binder m).0 inside))))
          roots.0)) in
          let V : ℕ → Predicate = all.value in
          record {
            nodes = all.nodes;
            closed = all.closed;
            value = V;
            held = all.held;
            model = all.model;
            goals = no_goal V;
            root = Implies-trans (V r) result f (Implies-same (V r) result all.supplied) it.below;
            env = λ entry inside. above_others x body.env types V it.domain (λ entry there. all.env entry (inl there)) entry ((is.entries entry).0 inside);
          }

-- a recursion
module _ (a : Automaton) (body : TablePart) (x : ℕ) (goals : List (ℕ × ℕ)) (env : List EnvEntry) (is : IsRecursionAt body x goals env) (types : ℕ → Predicate) (f : Predicate) where
  pub fix_in : HasTypes (over a env body.root goals) types f ↔ OfFix x (part_types a body) types f
  fix_in = (forth, back)
    where
      forth : HasTypes (over a env body.root goals) types f → OfFix x (part_types a body) types f
      forth h = record {
        body_type = h.value body.root.0;
        is = (h.nodes, h.closed, h.held body.root.0);
        body = record {
          nodes = h.nodes;
          closed = h.closed;
          value = h.value;
          held = h.held;
          model = h.model;
          goals = no_goal h.value;
          root = Implies-refl (h.value body.root.0);
          env = entry_above x body.env types h.value (h.value body.root.0) (λ m inside. h.goals body.root.0 m ((is.goals_are body.root.0 m).1 (refl, inside))) (λ entry inside. h.env entry ((is.entries entry).1 inside));
        };
        below = h.root;
      }

      back : OfFix x (part_types a body) types f → HasTypes (over a env body.root goals) types f
      back it =
          let h = it.body in
          record {
            nodes = h.nodes;
            closed = h.closed;
            value = h.value;
            held = h.held;
            model = h.model;
            goals = λ p n inside.
                let goal = (is.goals_are p n).0 inside in
                subst (λ p. Implies (h.value p) (h.value n)) (sym goal.0)
                (Implies-trans (h.value body.root.0) it.body_type (h.value n) h.root (above_states x body.env types h.value it.body_type h.env n goal.1));
            root = Implies-trans (h.value body.root.0) it.body_type f h.root it.below;
            env = λ entry inside. above_others x body.env types h.value it.body_type h.env entry ((is.entries entry).0 inside);
          }

-- a book with the type, and with the records that have it at the label
with_field : (label : List ℕ) (g : Predicate) → IsType g → (b : List Node) × IsClosedBook b × IsTypeOf b g × IsTypeOf b (rcd (one_field label g))
with_field label g is =
    let i : ℕ = is.2.0 in
    let i_low : i < length is.0 = is.2.1 in
    let field : Field = record { label = label; node = record { 0 = i } } in
    let two = extended_with is.0 (node.Rcd (field ∷ [])) is.1 (All-nil (λ later. slice_cmp nat_cmp field.label later.label ≡ Less), tt) (All-cons (λ (field : Field). field.node.0 < suc (length is.0)) field [] (omega arith) (All-nil (λ (field : Field). field.node.0 < suc (length is.0)))) in
    let b : List Node = two.0 in
    let i_value : passes b i ≡ g = Extends-value is.0 b is.1 two.1 var i i_low ∙ is.2.2 in (
      b,
      two.1.closed,
      IsIn-longer is.0 b g is.1 two.1 is.2,
      (two.2.0, two.2.1, value-rcd var b two.1.closed.book two.2.0 (field ∷ []) two.2.2 ∙ ap rcd (one_field-value (passes b) label (record { 0 = i }) g i_value)),
    )

-- a projection
module _ (a : Automaton) (body : TablePart) (label : List ℕ) (n p d : ℕ) (env : List EnvEntry) (is : IsProjectionAt a body label n p d env) (types : ℕ → Predicate) (f : Predicate) where
  abbrev field_head : Head
  field_head = record_head (record { label = label; set = n ∷ [] } ∷ [])

  field_value : (V : ℕ → Predicate) → head_value Negative V field_head ≡ rcd (one_field label (V n))
  field_value V = record_head-value Negative V (record { label = label; set = n ∷ [] } ∷ []) ∙ one_set Negative V label n

  pub project_in : HasTypes (over a env (id p) ((body.root.0, d) ∷ [])) types f ↔ OfProject label (part_types a body) types f
  project_in = (forth, back)
    where
      forth : HasTypes (over a env (id p) ((body.root.0, d) ∷ [])) types f → OfProject label (part_types a body) types f
      forth h =
          let T : ℕ → Predicate = h.value in
          let below : Implies (T body.root.0) (rcd (one_field label (T n))) =
          Implies-trans (T body.root.0) (T d) (rcd (one_field label (T n))) (h.goals body.root.0 d (Contains-here (body.root.0, d) []))
          (subst (Implies (T d)) (field_value T) ((stands_is a T d (negative field_head) is.demand).0 (h.model.heads d))) in
          let each : AllHaveTypes types (schemes_at a (body ∷ [])) (rcd (one_field label (T n)) ∷ []) =
          each_has a env (id p) ((body.root.0, d) ∷ []) types f h (body ∷ []) (λ entry. (is.entries entry).1) (rcd (one_field label (T n)) ∷ []) (below, tt) in
          record {
            field = T n;
            field_is = (h.nodes, h.closed, h.held n);
            body = each.0;
            below = Implies-trans (T n) (T p) f (h.model.flows (flow n p) ((is.passage.edges n).1 refl)) h.root;
          }

      back : OfProject label (part_types a body) types f → HasTypes (over a env (id p) ((body.root.0, d) ∷ [])) types f
      back it =
          let R : Predicate = rcd (one_field label it.field) in
          let book = with_field label it.field it.field_is in
          let all : Demanded a (body ∷ []) n p d field_head is.beside is.passage is.demand some types (R ∷ []) it.field R =
          demanded_all a (body ∷ []) n p d field_head is.beside is.passage is.demand some types (R ∷ []) it.field R (it.body, tt) book.0 book.1 book.2 book.3
          (λ V V_n roots. Implies-same_back (head_value Negative V field_head) R (field_value V ∙ ap (λ g. rcd (one_field label g)) V_n)) in
          let V : ℕ → Predicate = all.value in
          record {
            nodes = all.nodes;
            closed = all.closed;
            value = V;
            held = all.held;
            model = all.model;
            goals = one_goal V body.root.0 d [] (subst (Implies (V body.root.0)) (sym all.demanded) all.roots.0) (no_goal V);
            root = Implies-trans (V p) it.field f (Implies-same (V p) it.field all.to) it.below;
            env = λ entry inside. all.env entry ((is.entries entry).0 inside);
          }
        where
          some : empty_head ≡ field_head → ⊥
          some same = let none : None ≡ field_head.fields = ap (λ (h : Head). h.fields) same in absurd (cc)

-- a conditional
module _ (a : Automaton) (condition first second : TablePart) (n p d : ℕ) (env : List EnvEntry) (is : IsChoiceAt a condition first second n p d env) (types : ℕ → Predicate) (f : Predicate) where
  abbrev branches : List TablePart
  branches = condition ∷ first ∷ second ∷ []

  abbrev two_goals : List (ℕ × ℕ)
  two_goals = (first.root.0, n) ∷ (second.root.0, n) ∷ []

  abbrev last_goal : List (ℕ × ℕ)
  last_goal = (second.root.0, n) ∷ []

  abbrev goals : List (ℕ × ℕ)
  goals = (condition.root.0, d) ∷ two_goals

  pub choice_in : HasTypes (over a env (id p) goals) types f ↔ OfChoice (part_types a condition) (part_types a first) (part_types a second) types f
  choice_in = (forth, back)
    where
      forth : HasTypes (over a env (id p) goals) types f → OfChoice (part_types a condition) (part_types a first) (part_types a second) types f
      forth h =
          let T : ℕ → Predicate = h.value in
          let condition_below : Implies (T condition.root.0) bool =
          Implies-trans (T condition.root.0) (T d) bool (h.goals condition.root.0 d (Contains-here (condition.root.0, d) two_goals))
          (subst (Implies (T d)) (bool_value Negative T) ((stands_is a T d (negative bool_head) is.demand).0 (h.model.heads d))) in
          let first_below : Implies (T first.root.0) (T n) = h.goals first.root.0 n (Contains-later (condition.root.0, d) two_goals (first.root.0, n) (Contains-here (first.root.0, n) last_goal)) in
          let second_below : Implies (T second.root.0) (T n) = h.goals second.root.0 n (Contains-later (condition.root.0, d) two_goals (second.root.0, n) (Contains-later (first.root.0, n) last_goal (second.root.0, n) (Contains-here (second.root.0, n) []))) in
          let each : AllHaveTypes types (schemes_at a branches) (bool ∷ T n ∷ T n ∷ []) =
          each_has a env (id p) goals types f h branches (λ entry. (is.entries entry).1) (bool ∷ T n ∷ T n ∷ []) (condition_below, (first_below, (second_below, tt))) in
          record {
            branch = T n;
            branch_is = (h.nodes, h.closed, h.held n);
            condition = each.0;
            first = each.1.0;
            second = each.1.1.0;
            below = Implies-trans (T n) (T p) f (h.model.flows (flow n p) ((is.passage.edges n).1 refl)) h.root;
          }

      back : OfChoice (part_types a condition) (part_types a first) (part_types a second) types f → HasTypes (over a env (id p) goals) types f
      back it =
          let one = extended_with it.branch_is.0 node.Bool it.branch_is.1 tt tt in
          let b : List Node = one.0 in
          let bool_held : IsTypeOf b bool = (one.2.0, one.2.1, value-bool var b one.1.closed.book one.2.0 one.2.2) in
          let branch_held : IsTypeOf b it.branch = IsIn-longer it.branch_is.0 b it.branch it.branch_is.1 one.1 it.branch_is.2 in
          let fs : List Predicate = bool ∷ it.branch ∷ it.branch ∷ [] in
          let all : Demanded a branches n p d bool_head is.beside is.passage is.demand some types fs it.branch bool =
          demanded_all a branches n p d bool_head is.beside is.passage is.demand some types fs it.branch bool (it.condition, (it.first, (it.second, tt))) b one.1.closed branch_held bool_held
          (λ V V_n roots. Implies-same_back (head_value Negative V bool_head) bool (bool_value Negative V)) in
          let V : ℕ → Predicate = all.value in
          record {
            nodes = all.nodes;
            closed = all.closed;
            value = V;
            held = all.held;
            model = all.model;
            goals =
                one_goal V condition.root.0 d two_goals (subst (Implies (V condition.root.0)) (sym all.demanded) all.roots.0)
                (one_goal V first.root.0 n last_goal (subst (Implies (V first.root.0)) (sym all.from) all.roots.1.0)
                (one_goal V second.root.0 n [] (subst (Implies (V second.root.0)) (sym all.from) all.roots.1.1.0) (no_goal V)));
            root = Implies-trans (V p) it.branch f (Implies-same (V p) it.branch all.to) it.below;
            env = λ entry inside. all.env entry ((is.entries entry).0 inside);
          }
        where
          some : empty_head ≡ bool_head → ⊥
          some same = let no : false ≡ true = ap (λ (h : Head). h.boolean) same in absurd (cc)

-- a binder
module _ (a : Automaton) (x n p : ℕ) (env : List EnvEntry) (is : IsBoundAt a x n p env) (types : ℕ → Predicate) (f : Predicate) where
  abbrev own : EnvEntry
  own = record { binder = x; state = id n }

  pub bound_in : HasTypes (no_goals (part_over a env (id p))) types f ↔ OfBound x types f
  bound_in = (forth, back)
    where
      forth : HasTypes (no_goals (part_over a env (id p))) types f → OfBound x types f
      forth h = record {
        between = h.value n;
        is = (h.nodes, h.closed, h.held n);
        above = h.env own ((is.entries own).1 refl);
        below = Implies-trans (h.value n) (h.value p) f (h.model.flows (flow n p) ((is.passage.edges n).1 refl)) h.root;
      }

      back : OfBound x types f → HasTypes (no_goals (part_over a env (id p))) types f
      back it =
          let all : Assembled a [] (n ∷ p ∷ []) types [] (λ s. it.between) =
          assembled a [] (n ∷ p ∷ []) (record { flows = is.flows; are = tt; outside = λ s inside none. none }) types [] tt it.is.0 it.is.1 (λ s. it.between) (λ s. it.is.2) in
          let V : ℕ → Predicate = all.value in
          let V_n : V n ≡ it.between = all.at_new n (Contains-here n (p ∷ [])) in
          let V_p : V p ≡ it.between = all.at_new p (Contains-later n (p ∷ []) p (Contains-here p [])) in
          record {
            nodes = all.nodes;
            closed = all.closed;
            value = V;
            held = all.held;
            model =
                all.model
                (one_way a n p (n ∷ p ∷ []) is.flows is.passage (two_in (λ q. (q ≡ p) ⊎ (polarity_at a q ≡ Negative)) n p (inr (ap (λ (x : State). x.polarity) is.passage.from)) (inl refl)) V (Implies-same (V n) (V p) (V_n ∙ sym V_p)))
                (two_in (Stands a V) n p
                ((stands_is a V n (negative empty_head) is.passage.from).1 (empty_negative V n))
                ((stands_is a V p (positive empty_head) is.passage.to).1 (empty_positive V p)));
            goals = no_goal V;
            root = Implies-trans (V p) it.between f (Implies-same (V p) it.between V_p) it.below;
            env = λ entry inside.
                subst (λ (e : EnvEntry). Implies (types e.binder) (V e.state.0)) (sym ((is.entries entry).0 inside))
                (Implies-trans (types x) it.between (V n) it.above (Implies-same_back (V n) it.between V_n));
          }

-- a projection from a binder
module _ (a : Automaton) (x : ℕ) (label : List ℕ) (n p d : ℕ) (env : List EnvEntry) (is : IsBoundFieldAt a x label n p d env) (types : ℕ → Predicate) (f : Predicate) where
  abbrev asked : EnvEntry
  asked = record { binder = x; state = id d }

  abbrev asked_head : Head
  asked_head = record_head (record { label = label; set = n ∷ [] } ∷ [])

  asked_value : (V : ℕ → Predicate) → head_value Negative V asked_head ≡ rcd (one_field label (V n))
  asked_value V = record_head-value Negative V (record { label = label; set = n ∷ [] } ∷ []) ∙ one_set Negative V label n

  pub bound_field_in : HasTypes (no_goals (part_over a env (id p))) types f ↔ OfProject label (OfBound x) types f
  bound_field_in = (forth, back)
    where
      forth : HasTypes (no_goals (part_over a env (id p))) types f → OfProject label (OfBound x) types f
      forth h =
          let T : ℕ → Predicate = h.value in
          record {
            field = T n;
            field_is = (h.nodes, h.closed, h.held n);
            body = record {
              between = T d;
              is = (h.nodes, h.closed, h.held d);
              above = h.env asked ((is.entries asked).1 refl);
              below = subst (Implies (T d)) (asked_value T) ((stands_is a T d (negative asked_head) is.demand).0 (h.model.heads d));
            };
            below = Implies-trans (T n) (T p) f (h.model.flows (flow n p) ((is.passage.edges n).1 refl)) h.root;
          }

      back : OfProject label (OfBound x) types f → HasTypes (no_goals (part_over a env (id p))) types f
      back it =
          let B : Predicate = it.body.between in
          let R : Predicate = rcd (one_field label it.field) in
          let one = with_type it.field_is.0 it.field_is.1 B it.body.is in
          let all : Demanded a [] n p d asked_head is.beside is.passage is.demand some types [] it.field B =
          demanded_all a [] n p d asked_head is.beside is.passage is.demand some types [] it.field B tt one.0 one.1.closed
          (IsIn-longer it.field_is.0 one.0 it.field it.field_is.1 one.1 it.field_is.2) one.2
          (λ V V_n roots.
          Implies-trans B R (head_value Negative V asked_head) it.body.below
          (Implies-same_back (head_value Negative V asked_head) R (asked_value V ∙ ap (λ g. rcd (one_field label g)) V_n))) in
          let V : ℕ → Predicate = all.value in
          record {
            nodes = all.nodes;
            closed = all.closed;
            value = V;
            held = all.held;
            model = all.model;
            goals = no_goal V;
            root = Implies-trans (V p) it.field f (Implies-same (V p) it.field all.to) it.below;
            env = λ entry inside.
                subst (λ (e : EnvEntry). Implies (types e.binder) (V e.state.0)) (sym ((is.entries entry).0 inside))
                (subst (Implies (types x)) (sym all.demanded) it.body.above);
          }
        where
          some : empty_head ≡ asked_head → ⊥
          some same = let none : None ≡ asked_head.fields = ap (λ (h : Head). h.fields) same in absurd (cc)

-- an application of a binder
module _ (a : Automaton) (argument : TablePart) (x n p d : ℕ) (env : List EnvEntry) (is : IsBoundCallAt a argument x n p d env) (types : ℕ → Predicate) (f : Predicate) where
  abbrev taker : EnvEntry
  taker = record { binder = x; state = id d }

  abbrev called_head : Head
  called_head = function_head (argument.root.0 ∷ []) (n ∷ [])

  called_value : (V : ℕ → Predicate) → head_value Negative V called_head ≡ arrow (V argument.root.0) (V n)
  called_value V = function_head-value Negative V (argument.root.0 ∷ []) (n ∷ []) ∙ (λ k. arrow (set_one Positive V argument.root.0 k) (set_one Negative V n k))

  pub bound_call_in : HasTypes (no_goals (part_over a env (id p))) types f ↔ OfApply (OfBound x) (part_types a argument) types f
  bound_call_in = (forth, back)
    where
      forth : HasTypes (no_goals (part_over a env (id p))) types f → OfApply (OfBound x) (part_types a argument) types f
      forth h =
          let T : ℕ → Predicate = h.value in
          let each : AllHaveTypes types (schemes_at a (argument ∷ [])) (T argument.root.0 ∷ []) =
          each_has a env (id p) [] types f h (argument ∷ []) (λ entry inside. (is.entries entry).1 (inr inside)) (T argument.root.0 ∷ []) (Implies-refl (T argument.root.0), tt) in
          record {
            domain = T argument.root.0;
            codomain = T n;
            domain_is = (h.nodes, h.closed, h.held argument.root.0);
            codomain_is = (h.nodes, h.closed, h.held n);
            function = record {
              between = T d;
              is = (h.nodes, h.closed, h.held d);
              above = h.env taker ((is.entries taker).1 (inl refl));
              below = subst (Implies (T d)) (called_value T) ((stands_is a T d (negative called_head) is.demand).0 (h.model.heads d));
            };
            argument = each.0;
            below = Implies-trans (T n) (T p) f (h.model.flows (flow n p) ((is.passage.edges n).1 refl)) h.root;
          }

      back : OfApply (OfBound x) (part_types a argument) types f → HasTypes (no_goals (part_over a env (id p))) types f
      back it =
          let B : Predicate = it.function.between in
          let one = with_type it.codomain_is.0 it.codomain_is.1 B it.function.is in
          let all : Demanded a (argument ∷ []) n p d called_head is.beside is.passage is.demand some types (it.domain ∷ []) it.codomain B =
          demanded_all a (argument ∷ []) n p d called_head is.beside is.passage is.demand some types (it.domain ∷ []) it.codomain B (it.argument, tt) one.0 one.1.closed
          (IsIn-longer it.codomain_is.0 one.0 it.codomain it.codomain_is.1 one.1 it.codomain_is.2) one.2
          (λ V V_n roots.
          subst (Implies B) (sym (called_value V))
          (Implies-trans B (arrow it.domain it.codomain) (arrow (V argument.root.0) (V n)) it.function.below
          (arrow-implies it.domain it.codomain (V argument.root.0) (V n) roots.0 (Implies-same_back (V n) it.codomain V_n)))) in
          let V : ℕ → Predicate = all.value in
          record {
            nodes = all.nodes;
            closed = all.closed;
            value = V;
            held = all.held;
            model = all.model;
            goals = no_goal V;
            root = Implies-trans (V p) it.codomain f (Implies-same (V p) it.codomain all.to) it.below;
            env = λ entry inside. elim ((is.entries entry).0 inside) [
              | inl same ↦ subst (λ (e : EnvEntry). Implies (types e.binder) (V e.state.0)) (sym same) (subst (Implies (types x)) (sym all.demanded) it.function.above)
              | inr own ↦ all.env entry own
            ];
          }
        where
          some : empty_head ≡ called_head → ⊥
          some same = let none : None ≡ called_head.function = ap (λ (h : Head). h.function) same in absurd (cc)

-- a record
module _ (a : Automaton) (fields_of : TermFields) (parts : List TablePart) (r : ℕ) (fields : List FieldSet) (env : List EnvEntry) (is : IsRecordAt a fields_of parts r fields env) (types : ℕ → Predicate) (f : Predicate) where
  abbrev roots : List ℕ
  roots = part_roots parts

  abbrev schemes : List Scheme
  schemes = schemes_at a parts

  abbrev Made : Type 0
  Made = OfMake fields_of (EachHas (λ s. HasTypes (no_goals s)) fields_of schemes) types f

  pub make_in : HasTypes (no_goals (part_over a env (id r))) types f ↔ Made
  make_in = (forth, back)
    where
      forth : HasTypes (no_goals (part_over a env (id r))) types f → Made
      forth h =
          let T : ℕ → Predicate = h.value in
          made fields_of fields roots is.fields_are schemes types f h.nodes h.closed T h.held
          (each_has a env (id r) [] types f h parts (λ entry. (is.entries entry).1) (map T roots) (roots_themselves T roots))
          (Implies-trans (head_value Positive T (record_head fields)) (T r) f ((stands_is a T r (positive (record_head fields)) is.result).0 (h.model.heads r)) h.root)

      back : Made → HasTypes (no_goals (part_over a env (id r))) types f
      back it =
          let R : Predicate = made_record fields_of fields roots is.fields_are schemes types f it in
          let R_is : IsType R = made_record-held fields_of fields roots is.fields_are schemes types f it in
          let fs : List Predicate = made_types fields_of fields roots is.fields_are schemes types f it in
          let all : Supplied a parts r (record_head fields) is.beside is.result types fs R =
          supplied_all a parts r (record_head fields) is.beside is.result types fs R (made_types-held fields_of fields roots is.fields_are schemes types f it) R_is.0 R_is.1 R_is.2
          (λ V entries below. made-below fields_of fields roots is.fields_are schemes types f it V below) in
          let V : ℕ → Predicate = all.value in
          record {
            nodes = all.nodes;
            closed = all.closed;
            value = V;
            held = all.held;
            model = all.model;
            goals = no_goal V;
            root = Implies-trans (V r) R f (Implies-same (V r) R all.supplied) it.below;
            env = λ entry inside. all.env entry ((is.entries entry).0 inside);
          }
