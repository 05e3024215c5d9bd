-- The lines that are written plainly for a node, by its form, over what is brought to the types and the environments
-- that its rule asks for.
--     fun_writes, rec_writes, project_writes, apply_writes, choice_writes, global_writes, inner_writes
--     number_writes, truth_writes, bound_writes
--     stepped_is              a step as what a node concludes
use Rattle.std.proofs.Common.{◌≡◌, inl, inr, ℕ, suc, ◌<◌, Bool, List, [], ◌∷◌, ◌++◌, length, refl, sym, ap, ◌∙◌, subst, Some, None}
use Rattle.std.specs.Prelude.{Contains, Err, IfOk, IsSome, Ok, OnOk, Result}
use Rattle.std.proofs.lemmas.Result.{IfOk-at_ok, IfOk-weaker}
use Rattle.std.specs.BTreeMap.{BTreeMap, get}
use Rattle.std.specs.Ordering.{nat_cmp}
use Rattle.mls_book.specs.declared.book.Field.{Field}
use Rattle.mls_book.specs.declared.book.Node.{Node}
use Rattle.mls_book.specs.declared.book.Node.TheVariants as node
use Rattle.mls_book.specs.declared.book.NodeId.{NodeId}
use Rattle.mls_book.specs.Books.{node_at, field_at, IsClosedBook}
use Rattle.mls_term.specs.declared.term.TermForm.TheVariants as form
use Rattle.mls_deriv.specs.declared.claim.Put.{Put}
use Rattle.mls_deriv.specs.declared.derivation.BinderNode.{BinderNode}
use Rattle.mls_deriv.specs.declared.derivation.StepLine.{StepLine}
use Rattle.mls_deriv.specs.declared.derivation.StepRule.TheVariants as rule
use Rattle.mls_deriv.specs.Pairs.{put_at}
use Rattle.mls_deriv.specs.Sections.{steps_of}
use Rattle.mls_deriv.specs.Steps.{IsRising}
use Rattle.mls_layout.specs.declared.layout.LaidOut.{LaidOut}
use Rattle.mls_layout.specs.LaidOut.{place_of}
use Rattle.mls_layout.specs.Parts.{Constraint}
use Rattle.mls_layout.specs.Plans.{PlannedLine, a_step_with, planned_steps}
use Rattle.mls_layout.specs.Runs.{a_step, id}
use Rattle.mls_parts.specs.declared.pose.Posing.{Posing}
use Rattle.mls_parts.specs.PosedGoals.{IsPosedAt}
use Rattle.mls_parts.specs.Posings.{or_zero, root_in}
use Rattle.mls_automaton.specs.declared.scheme.Scheme.{Scheme}
use Rattle.mls_lines.specs.declared.known.FirstPart.{FirstPart}
use Rattle.mls_lines.specs.declared.known.GlobalAt.{GlobalAt}
use Rattle.mls_lines.specs.declared.steps.Conclusion as conclusion
use Rattle.mls_lines.specs.declared.steps.Steps.{Steps}
use Rattle.mls_lines.specs.declared.writer.Concluded as written
use Rattle.mls_lines.specs.declared.writer.Concluded.TheVariants.{Bound, Step}
use Rattle.mls_lines.specs.declared.writer.Writer as state
use Rattle.mls_lines.specs.Conclusions.{Concluded, by_step, IsBrought, IsWith, IsWithout, IsOffered, IsJoined}
use Rattle.mls_lines.specs.NodeLines.{IsLeafWritten, NamesKnown, by_rule}
use Rattle.mls_lines.specs.Writings.{IsPartOf}
use Rattle.mls_lines.specs.Stepping.{AddsStep, conclusion_of}
use Rattle.mls_lines.specs.Writer.{concluded_in, own_node, BringsNode, Grows, HasLowEnv, HasLowNodes, Offers}
use Rattle.mls_lines.specs.PlainLines.{AreConclusionsOf, HasOwnParts, IsSound, IsSoundOwn, AddsLines, HaveLowFirsts, HaveLowGlobals, JoinsThree, WritesNode, standing}
use Rattle.mls_lines.specs.Puts.{ArePutsOfFirst, ArePutsOfGlobal}
use Rattle.mls_lines.proofs.Growing.{grows_itself}
use Rattle.mls_lines.proofs.GoingOn.{begins, brings_more, ends, step_own, own_stands, brought_first, brought_at}
use Rattle.mls_lines.proofs.JoinedEnvironments.{meet_stays}
use Rattle.mls_lines.proofs.LowNodes.{arrow_low, field_low, none_low, offers_low, step_low, there_low, three_low, two_low, up, with_puts_low, without_low}
use Rattle.mls_lines.proofs.OwnVariables.{first_puts_own, global_puts_own}

-- a node whose conclusion is known
pub is_known : (w : state.Writer) (i : ℕ) (own : Concluded) → concluded_in w i ≡ Some own → IsSome (concluded_in w i)
is_known w i own known = subst IsSome (sym known) refl

-- what a node is offered, where it concludes this
pub offered_of : (w : state.Writer) (p : Posing) (of : ℕ → Concluded) (i u : ℕ) (d : List BinderNode) → AreConclusionsOf w of → Offers w p i u d → IsOffered (own_node w p) (of i) u d
offered_of w p of i u d agree it = subst (λ (o : Concluded). IsOffered (own_node w p) o u d) (sym (agree i it.own it.known)) it.offers

module _ (globals : BTreeMap ℕ GlobalAt) (firsts : BTreeMap ℕ FirstPart) (lets : BTreeMap ℕ Scheme) (c : Constraint) (p : Posing) (parts : ℕ → List ℕ) (i : ℕ) (old : state.Writer) (sound : IsSound old) where
  -- one part, which is brought to a type and an environment, and the step of the node
  module _ (now new : state.Writer) (j : ℕ) (inner : List BinderNode) (u : NodeId) (number : ℕ) (it : BringsNode old now j inner u number) (own : conclusion.Conclusion) (same : new.laid ≡ now.laid)
      (kept : new.concluded ≡ now.concluded) where
    book_is : new.laid.book ≡ old.laid.book
    book_is = (λ n. (same n).book) ∙ (λ n. (it.laid n).book)

    so_far : AddsLines old now it.plan
    so_far = brings_more old old now [] j inner u number (begins old old (grows_itself old) sound) it

    low_own : (step : StepLine) → AddsStep now.steps new.steps step own → step.root.0 < length old.laid.book → HasLowEnv (length old.laid.book) step.env → HasLowNodes (length new.laid.book) own
    low_own step adds root env =
        subst (λ (book : List Node). HasLowNodes (length book) own) (sym book_is) (step_low (length old.laid.book) now.steps new.steps step own adds root env)

    used_part : (m : ℕ) → j ≡ m → IsSome (concluded_in old m)
    used_part m is = subst (λ k. IsSome (concluded_in old k)) is (is_known old j it.own it.known)

    pub fun_writes : (x : ℕ) (arrow from : NodeId) (offered outer : List BinderNode) → Contains (parts (root_in p i)) arrow.0 → node_at old.laid.book arrow.0 ≡ node.Arrow from u
        → Offers old p j u.0 offered → IsWith offered x from.0 inner → IsWithout offered x outer
        → AddsStep now.steps new.steps (a_step i (rule.Fun number) outer arrow.0) own → WritesNode globals firsts lets c p parts i (form.Fun x j) old new (Step own)
    fun_writes x arrow from offered outer there is offers longer shorter adds =
        let step = a_step i (rule.Fun number) outer arrow.0 in
        let all = arrow_low old.laid.book sound.closed arrow.0 from u is in
        let outer_low = without_low (length old.laid.book) offered outer x shorter (offers_low old p sound j u.0 offered all.2 offers) in
        record {
          puts = None;
          plan = it.plan ++ a_step_with step [] ∷ [];
          tells = λ names are_names puts of agree. record {
            arrow = arrow.0;
            from = from;
            to = u;
            is = record { there = there; is = subst (λ (book : List Node). node_at book arrow.0 ≡ node.Arrow from u) (sym book_is) is };
            offered = offered;
            inner = inner;
            outer = outer;
            offers = offered_of old p of j u.0 offered agree offers;
            with_binder = longer;
            without_binder = shorter;
            lines = it.plan;
            number = number;
            brought = brought_first old old now of agree j inner u number it (grows_itself old);
            plan_is = refl;
            own_is = ap by_step (step_own old now new it.plan step own so_far adds);
          };
          puts_are = λ closed. refl;
          used = used_part;
          continues = ends old now new it.plan step own so_far adds refl same kept;
          sound_own = (own_stands old now new it.plan step own so_far adds, subst IsRising (sym adds.env) shorter.rising, low_own step adds all.0 outer_low);
        }

    pub rec_writes : (x : ℕ) (offered outer : List BinderNode) → u.0 ≡ (standing old p parts).place (root_in p j) → Offers old p j u.0 offered → IsWith offered x u.0 inner
        → IsWithout offered x outer → AddsStep now.steps new.steps (a_step i (rule.Rec number) outer u.0) own → WritesNode globals firsts lets c p parts i (form.Rec x j) old new (Step own)
    rec_writes x offered outer place offers longer shorter adds =
        let step = a_step i (rule.Rec number) outer u.0 in
        let root_low : u.0 < length old.laid.book = subst (λ n. n < length old.laid.book) (sym place) (sound.places (root_in p j)) in
        record {
          puts = None;
          plan = it.plan ++ a_step_with step [] ∷ [];
          tells = λ names are_names puts of agree.
              let top : ℕ = (standing old p parts).place (root_in p j) in
              record {
                offered = offered;
                inner = inner;
                outer = outer;
                offers = subst (λ t. IsOffered (own_node old p) (of j) t offered) place (offered_of old p of j u.0 offered agree offers);
                with_binder = subst (λ t. IsWith offered x t inner) place longer;
                without_binder = shorter;
                lines = it.plan;
                number = number;
                brought = subst (λ t. IsBrought (of j) (length (steps_of old.steps.lines)) j inner t it.plan number) place (brought_first old old now of agree j inner u number it (grows_itself old));
                plan_is = ap (λ t. it.plan ++ a_step_with (a_step i (rule.Rec number) outer t) [] ∷ []) place;
                own_is =
                    ap by_step (step_own old now new it.plan step own so_far adds)
                    ∙ ap (λ t. by_step (by_rule (length (steps_of old.steps.lines ++ planned_steps it.plan)) (a_step i (rule.Rec number) outer t))) place;
              };
          puts_are = λ closed. refl;
          used = used_part;
          continues = ends old now new it.plan step own so_far adds refl same kept;
          sound_own = (own_stands old now new it.plan step own so_far adds, subst IsRising (sym adds.env) shorter.rising, low_own step adds root_low (without_low (length old.laid.book) offered outer x shorter (offers_low old p sound j u.0 offered root_low offers)));
        }

    pub project_writes : (label : List ℕ) (others : List Field) (to : NodeId) → IsPosedAt c p (form.Project j label) i → Contains (parts (suc (suc (root_in p i)))) u.0
        → node_at old.laid.book u.0 ≡ node.Rcd others → field_at label others ≡ Some to → Offers old p j u.0 inner
        → AddsStep now.steps new.steps (a_step i (rule.Proj number) inner to.0) own → WritesNode globals firsts lets c p parts i (form.Project j label) old new (Step own)
    project_writes label others to (fields, is_goal, flows) there is found offers adds =
        let step = a_step i (rule.Proj number) inner to.0 in
        let rcd_low : u.0 < length old.laid.book = there_low old.laid.book u.0 (node.Rcd others) (λ no. absurd (cc)) is in
        let to_low : to.0 < length old.laid.book = field_low old.laid.book sound.closed u.0 others label to is found in
        record {
          puts = None;
          plan = it.plan ++ a_step_with step [] ∷ [];
          tells = λ names are_names puts of agree. record {
            goal = suc (suc (root_in p i));
            result = suc (root_in p i);
            fields = fields;
            is_goal = is_goal;
            flows = flows;
            rcd = u.0;
            others = others;
            there = there;
            is = subst (λ (book : List Node). node_at book u.0 ≡ node.Rcd others) (sym book_is) is;
            to = to;
            found = found;
            outer = inner;
            offers = offered_of old p of j u.0 inner agree offers;
            lines = it.plan;
            number = number;
            brought = brought_first old old now of agree j inner u number it (grows_itself old);
            plan_is = refl;
            own_is = ap by_step (step_own old now new it.plan step own so_far adds);
          };
          puts_are = λ closed. refl;
          used = used_part;
          continues = ends old now new it.plan step own so_far adds refl same kept;
          sound_own = (own_stands old now new it.plan step own so_far adds, subst IsRising (sym adds.env) offers.rising, low_own step adds to_low (offers_low old p sound j u.0 inner rcd_low offers));
        }

  -- an application
  module _ (grown first second new : state.Writer) (grows : Grows old grown) (j k : ℕ) (outer : List BinderNode) (arrow from to : NodeId) (number other : ℕ)
      (it : BringsNode grown first j outer arrow number) (later : BringsNode first second k outer from other) (own : conclusion.Conclusion) (same : new.laid ≡ second.laid)
      (kept : new.concluded ≡ second.concluded) where
    pub apply_writes : (left right : List BinderNode) → IsPosedAt c p (form.Apply j k) i → Contains (parts (suc (suc (root_in p i)))) arrow.0 → node_at old.laid.book arrow.0 ≡ node.Arrow from to
        → Offers old p j arrow.0 left → Offers old p k from.0 right → IsJoined (own_node old p) grown.laid.book left right outer
        → AddsStep second.steps new.steps (a_step i (rule.App number other) outer to.0) own → WritesNode globals firsts lets c p parts i (form.Apply j k) old new (Step own)
    apply_writes left right (arms, is_goal, flows) there is offers others joins adds =
        let step = a_step i (rule.App number other) outer to.0 in
        let start = begins old grown grows sound in
        let once = brings_more old grown first [] j outer arrow number start it in
        let twice = brings_more old first second it.plan k outer from other once later in
        let book_is : new.laid.book ≡ grown.laid.book = (λ n. (same n).book) ∙ ((λ n. (later.laid n).book) ∙ (λ n. (it.laid n).book)) in
        let all = arrow_low old.laid.book sound.closed arrow.0 from to is in
        let outer_low = two_low old grown p sound grows j k arrow.0 from.0 left right outer offers others all.0 all.1 joins in
        let low = step_low (length grown.laid.book) second.steps new.steps step own adds (up old grown p sound grows to.0 all.2) outer_low in
        record {
          puts = None;
          plan = (it.plan ++ later.plan) ++ a_step_with step [] ∷ [];
          tells = λ names are_names puts of agree. record {
            goal = suc (suc (root_in p i));
            result = suc (root_in p i);
            arms = arms;
            is_goal = is_goal;
            flows = flows;
            arrow = arrow.0;
            from = from;
            to = to;
            is = record {
              there = there;
              is =
                  subst (λ (book : List Node). node_at book arrow.0 ≡ node.Arrow from to) (sym (book_is ∙ grows.book))
                  (meet_stays old.laid.book grows.more arrow.0 (node.Arrow from to) (λ no. absurd (cc)) is);
            };
            left = left;
            right = right;
            outer = outer;
            offers_left = offered_of old p of j arrow.0 left agree offers;
            offers_right = offered_of old p of k from.0 right agree others;
            joins = subst (λ (book : List Node). IsJoined (own_node old p) book left right outer) (sym book_is) joins;
            lines = it.plan;
            more = later.plan;
            first = number;
            second = other;
            brought_first = brought_first old grown first of agree j outer arrow number it grows;
            brought_second = brought_at old first second of agree k outer from other later it.plan once;
            plan_is = refl;
            own_is = ap by_step (step_own old second new (it.plan ++ later.plan) step own twice adds);
          };
          puts_are = λ closed. refl;
          used = λ m is. by_part m is;
          continues = ends old second new (it.plan ++ later.plan) step own twice adds refl same kept;
          sound_own = (own_stands old second new (it.plan ++ later.plan) step own twice adds, subst IsRising (sym adds.env) joins.rising, subst (λ (book : List Node). HasLowNodes (length book) own) (sym book_is) low);
        }
      where
        by_part : (m : ℕ) → IsPartOf (form.Apply j k) m → IsSome (concluded_in old m)
        by_part m (inl is) = subst (λ n. IsSome (concluded_in old n)) is (is_known old j offers.own offers.known)
        by_part m (inr is) = subst (λ n. IsSome (concluded_in old n)) is (is_known old k others.own others.known)

  -- a conditional
  module _ (grown first second third new : state.Writer) (grows : Grows old grown) (j k l : ℕ) (truth top : NodeId) (outer : List BinderNode) (number other last : ℕ)
      (it : BringsNode grown first j outer truth number) (later : BringsNode first second k outer top other) (latest : BringsNode second third l outer top last) (own : conclusion.Conclusion)
      (same : new.laid ≡ third.laid) (kept : new.concluded ≡ third.concluded) where
    pub choice_writes : (into : ℕ) → IsPosedAt c p (form.If j k l) i → get nat_cmp p.results i ≡ Some into → HasOwnParts old c.automaton parts → truth ≡ old.laid.boolean
        → top.0 ≡ place_of old.laid.places into → JoinsThree old grown p j k l truth.0 top.0 outer → AddsStep third.steps new.steps (a_step i (rule.If number other last) outer top.0) own
        → WritesNode globals firsts lets c p parts i (form.If j k l) old new (Step own)
    choice_writes into (bit, noted, found, is_bit, goal_first, goal_second, goal_third, flows) result have truth_is place joined adds =
        let step = a_step i (rule.If number other last) outer top.0 in
        let start = begins old grown grows sound in
        let once = brings_more old grown first [] j outer truth number start it in
        let twice = brings_more old first second it.plan k outer top other once later in
        let thrice = brings_more old second third (it.plan ++ later.plan) l outer top last twice latest in
        let lines : List PlannedLine = (it.plan ++ later.plan) ++ latest.plan in
        let book_is : new.laid.book ≡ grown.laid.book = (λ n. (same n).book) ∙ ((λ n. (latest.laid n).book) ∙ ((λ n. (later.laid n).book) ∙ (λ n. (it.laid n).book))) in
        let into_is : noted ≡ into = ap or_zero (sym found ∙ result) in
        let truth_low : truth.0 < length old.laid.book =
        subst (λ (n : NodeId). n.0 < length old.laid.book) (sym truth_is) (there_low old.laid.book old.laid.boolean.0 node.Bool (λ no. absurd (cc)) have.is_boolean) in
        let top_low : top.0 < length old.laid.book = subst (λ n. n < length old.laid.book) (sym place) (sound.places into) in
        let outer_low = three_low old grown p sound grows j k l truth.0 top.0 outer joined truth_low top_low in
        let low = step_low (length grown.laid.book) third.steps new.steps step own adds (up old grown p sound grows top.0 top_low) outer_low in
        let place_is : top.0 ≡ place_of old.laid.places noted = place ∙ ap (place_of old.laid.places) (sym into_is) in
        record {
          puts = None;
          plan = lines ++ a_step_with step [] ∷ [];
          tells = λ names are_names puts of agree.
              let place_in = own_node old p in
              record {
                bit = bit;
                result = noted;
                truth = truth.0;
                there = subst (λ (n : NodeId). Contains (parts bit) n.0) (sym truth_is) (have.boolean bit is_bit);
                is =
                    subst (λ (book : List Node). node_at book truth.0 ≡ node.Bool) (sym (book_is ∙ grows.book))
                    (meet_stays old.laid.book grows.more truth.0 node.Bool (λ no. absurd (cc)) (subst (λ (n : NodeId). node_at old.laid.book n.0 ≡ node.Bool) (sym truth_is) have.is_boolean));
                goal_first = goal_first;
                goal_second = goal_second;
                goal_third = goal_third;
                flows = flows;
                left = joined.left;
                middle = joined.middle;
                right = joined.right;
                upper = joined.upper;
                outer = outer;
                offers_left = offered_of old p of j truth.0 joined.left agree joined.offers_left;
                offers_middle = subst (λ t. IsOffered place_in (of k) t joined.middle) place_is (offered_of old p of k top.0 joined.middle agree joined.offers_middle);
                offers_right = subst (λ t. IsOffered place_in (of l) t joined.right) place_is (offered_of old p of l top.0 joined.right agree joined.offers_right);
                joins_upper = subst (λ (book : List Node). IsJoined place_in book joined.left joined.middle joined.upper) (sym book_is) joined.joins_upper;
                joins = subst (λ (book : List Node). IsJoined place_in book joined.upper joined.right outer) (sym book_is) joined.joins;
                lines = it.plan;
                more = later.plan;
                rest = latest.plan;
                first = number;
                second = other;
                third = last;
                brought_first = brought_first old grown first of agree j outer truth number it grows;
                brought_second = subst (λ t. IsBrought (of k) (length (steps_of old.steps.lines ++ planned_steps it.plan)) k outer t later.plan other) place_is (brought_at old first second of agree k outer top other later it.plan once);
                brought_third = subst (λ t. IsBrought (of l) (length (steps_of old.steps.lines ++ planned_steps (it.plan ++ later.plan))) l outer t latest.plan last) place_is (brought_at old second third of agree l outer top last latest (it.plan ++ later.plan) twice);
                plan_is = ap (λ t. lines ++ a_step_with (a_step i (rule.If number other last) outer t) [] ∷ []) place_is;
                own_is =
                    ap by_step (step_own old third new lines step own thrice adds)
                    ∙ ap (λ t. by_step (by_rule (length (steps_of old.steps.lines ++ planned_steps lines)) (a_step i (rule.If number other last) outer t))) place_is;
              };
          puts_are = λ closed. refl;
          used = λ m is. by_part m joined is;
          continues = ends old third new lines step own thrice adds refl same kept;
          sound_own = (own_stands old third new lines step own thrice adds, subst IsRising (sym adds.env) joined.joins.rising, subst (λ (book : List Node). HasLowNodes (length book) own) (sym book_is) low);
        }
      where
        by_part : (m : ℕ) → JoinsThree old grown p j k l truth.0 top.0 outer → IsPartOf (form.If j k l) m → IsSome (concluded_in old m)
        by_part m joined (inl is) = subst (λ n. IsSome (concluded_in old n)) is (is_known old j joined.offers_left.own joined.offers_left.known)
        by_part m joined (inr (inl is)) = subst (λ n. IsSome (concluded_in old n)) is (is_known old k joined.offers_middle.own joined.offers_middle.known)
        by_part m joined (inr (inr is)) = subst (λ n. IsSome (concluded_in old n)) is (is_known old l joined.offers_right.own joined.offers_right.known)

  -- a name of the environment
  pub global_writes : (g : ℕ) (grown new : state.Writer) (known : GlobalAt) (own : conclusion.Conclusion) (puts : List Put) → HaveLowGlobals (length old.laid.book) globals
      → ((x m : ℕ) → put_at puts x ≡ Some m → m < length grown.laid.book) → get nat_cmp globals g ≡ Some known → Grows old grown → new.laid ≡ grown.laid → new.concluded ≡ grown.concluded → AddsStep grown.steps new.steps (a_step i (rule.Name (id known.first)) [] known.root.0) own
      → (IsClosedBook old.laid.book → ArePutsOfGlobal grown.laid.book old.laid.places p i known puts) → WritesNode globals firsts lets c p parts i (form.Global g) old new (Step (record own { puts = puts }))
  global_writes g grown new known own puts globals_low puts_are_low found grows same kept adds are =
      let step = a_step i (rule.Name (id known.first)) [] known.root.0 in
      let start = begins old grown grows sound in
      let stands = own_stands old grown new [] step own start adds in
      let number : own.step ≡ length (steps_of old.steps.lines) = adds.number ∙ (start.sound.counted ∙ ap (λ (s : Steps). length (steps_of s.lines)) grows.steps) in
      let low = with_puts_low (length grown.laid.book) own puts
      (step_low (length grown.laid.book) grown.steps new.steps step own adds (up old grown p sound grows known.root.0 (globals_low g known found)) (none_low (length grown.laid.book))) puts_are_low
      (global_puts_own grown.laid.book old.laid.places p i known puts (are sound.closed)) in
      record {
        puts = Some puts;
        plan = a_step_with step [] ∷ [];
        tells = λ names are_names puts_is of agree.
            let from_is : known.first ≡ names.from g = sym (are_names.from g known found) in
            let type_is : known.root.0 ≡ names.type g = sym (are_names.type g known found) in
            let own_type : own.root.0 ≡ names.type g = ap (λ (n : NodeId). n.0) adds.root ∙ type_is in
            record {
              plan_is = λ n. a_step_with (a_step i (rule.Name (id (from_is n))) [] (type_is n)) [] ∷ [];
              own_is = λ n. by_step (record { number = number n; type = own_type n; env = adds.env n; puts = sym puts_is n });
            };
        puts_are = λ closed. record {
          own = puts;
          is = refl;
          global = known;
          known = found;
          are = subst (λ (l : LaidOut). ArePutsOfGlobal l.book old.laid.places p i known puts) (sym same) (are closed);
        };
        used = λ m no. absurd no;
        continues = ends old grown new [] step own start adds refl same kept;
        sound_own = (
          record { step = stands.step; found = stands.found; env = stands.env; root = stands.root },
          subst IsRising (sym adds.env) tt,
          subst (λ (book : List Node). HasLowNodes (length book) (record own { puts = puts })) (sym (λ n. (same n).book)) low,
        );
      }

  -- a let-bound name
  pub inner_writes : (k : ℕ) (new : state.Writer) (part : FirstPart) (own : conclusion.Conclusion) (puts : List Put) → HaveLowFirsts (length old.laid.book) firsts
      → ((x m : ℕ) → put_at puts x ≡ Some m → m < length old.laid.book) → get nat_cmp firsts k ≡ Some part → IsRising part.env → new.laid ≡ old.laid
      → new.concluded ≡ old.concluded → AddsStep old.steps new.steps (a_step i (rule.Use part.step) part.env part.root.0) own
      → ArePutsOfFirst old.laid.places p lets i k part.variable puts → WritesNode globals firsts lets c p parts i (form.Inner k) old new (Step (record own { puts = puts }))
  inner_writes k new part own puts firsts_low puts_are_low found rising same kept adds are =
      let step = a_step i (rule.Use part.step) part.env part.root.0 in
      let start = begins old old (grows_itself old) sound in
      let stands = own_stands old old new [] step own start adds in
      let number : own.step ≡ length (steps_of old.steps.lines) = adds.number ∙ sound.counted in
      let part_low = firsts_low k part found in
      let low = with_puts_low (length old.laid.book) own puts (step_low (length old.laid.book) old.steps new.steps step own adds part_low.0 part_low.1) puts_are_low
      (first_puts_own old.laid.places p lets i k part.variable puts are) in
      record {
        puts = Some puts;
        plan = a_step_with step [] ∷ [];
        tells = λ names are_names puts_is of agree.
            let step_is : part.step ≡ names.step k = sym (are_names.step k part found) in
            let env_is : part.env ≡ names.binders k = sym (are_names.binders k part found) in
            let type_is : part.root.0 ≡ (names.first k).type = sym (are_names.first_type k part found) in
            let own_type : own.root.0 ≡ (names.first k).type = ap (λ (n : NodeId). n.0) adds.root ∙ type_is in
            let own_env : own.env ≡ names.binders k = adds.env ∙ env_is in
            record {
              plan_is = λ n. a_step_with (a_step i (rule.Use (step_is n)) (env_is n) (type_is n)) [] ∷ [];
              own_is = λ n. by_step (record { number = number n; type = own_type n; env = own_env n; puts = sym puts_is n });
            };
        puts_are = λ closed. record { part = part; known = found; first = record { own = puts; is = refl; are = are } };
        used = λ m no. absurd no;
        continues = ends old old new [] step own start adds refl same kept;
        sound_own = (
          record { step = stands.step; found = stands.found; env = stands.env; root = stands.root },
          subst IsRising (sym adds.env) rising,
          subst (λ (book : List Node). HasLowNodes (length book) (record own { puts = puts })) (sym (λ n. (same n).book)) low,
        );
      }

  -- a number, a truth value and a use of a binder
  module _ (new : state.Writer) (own : conclusion.Conclusion) (root : NodeId) (there : Contains (parts (root_in p i)) root.0) (same : new.laid ≡ old.laid) (kept : new.concluded ≡ old.concluded)
      (adds : AddsStep old.steps new.steps (a_step i rule.Lit [] root.0) own) where
    abbrev leaf_plan : List PlannedLine
    leaf_plan = a_step_with (a_step i rule.Lit [] root.0) [] ∷ []

    leaf_told : (leaf : Node) → node_at old.laid.book root.0 ≡ leaf → (names : NamesKnown) (of : ℕ → Concluded)
        → IsLeafWritten new.laid.book c (standing old p parts) names of leaf i (steps_of old.steps.lines) leaf_plan (by_step (conclusion_of own))
    leaf_told leaf is names of = record {
      node = root.0;
      there = there;
      is = subst (λ (book : List Node). node_at book root.0 ≡ leaf) (sym (λ n. (same n).book)) is;
      plan_is = refl;
      own_is = λ n. by_step (record { number = (adds.number ∙ sound.counted) n; type = (adds.root n).0; env = adds.env n; puts = adds.puts n });
    }

    leaf_continues : AddsLines old new leaf_plan
    leaf_continues = ends old old new [] (a_step i rule.Lit [] root.0) own (begins old old (grows_itself old) sound) adds refl same kept

    leaf_sound : (leaf : Node) → (leaf ≡ node.Bot → ⊥) → node_at old.laid.book root.0 ≡ leaf → IsSoundOwn new.laid.book (steps_of new.steps.lines) (Step own)
    leaf_sound leaf other is = (
      own_stands old old new [] (a_step i rule.Lit [] root.0) own (begins old old (grows_itself old) sound) adds,
      subst IsRising (sym adds.env) tt,
      subst (λ (book : List Node). HasLowNodes (length book) own) (sym (λ n. (same n).book))
          (step_low (length old.laid.book) old.steps new.steps (a_step i rule.Lit [] root.0) own adds (there_low old.laid.book root.0 leaf other is) (none_low (length old.laid.book))),
    )

    pub number_writes : (value : ℕ) → node_at old.laid.book root.0 ≡ node.Int → WritesNode globals firsts lets c p parts i (form.Number value) old new (Step own)
    number_writes value is = record {
      puts = None;
      plan = leaf_plan;
      tells = λ names are_names puts of agree. leaf_told node.Int is names of;
      puts_are = λ closed. refl;
      used = λ m no. absurd no;
      continues = leaf_continues;
      sound_own = leaf_sound node.Int (λ no. absurd (cc)) is;
    }

    pub truth_writes : (value : Bool) → node_at old.laid.book root.0 ≡ node.Bool → WritesNode globals firsts lets c p parts i (form.Truth value) old new (Step own)
    truth_writes value is = record {
      puts = None;
      plan = leaf_plan;
      tells = λ names are_names puts of agree. leaf_told node.Bool is names of;
      puts_are = λ closed. refl;
      used = λ m no. absurd no;
      continues = leaf_continues;
      sound_own = leaf_sound node.Bool (λ no. absurd (cc)) is;
    }

  pub bound_writes : (x : ℕ) → WritesNode globals firsts lets c p parts i (form.Bound x) old old (Bound x)
  bound_writes x = record {
    puts = None;
    plan = [];
    tells = λ names are_names puts of agree. (refl, refl);
    puts_are = λ closed. refl;
    used = λ m no. absurd no;
    continues = begins old old (grows_itself old) sound;
    sound_own = tt;
  }

-- a step as what a node concludes
pub stepped_is : {E : Type 0} (r : Result conclusion.Conclusion E) (s : Result written.Concluded E) (P : written.Concluded → Type 0)
    → IfOk s (λ made. (own : conclusion.Conclusion) × (r ≡ Ok own) × (made ≡ Step own)) → IfOk r (λ own. P (Step own)) → IfOk s P
stepped_is r s P made it =
    IfOk-weaker s (λ o. (own : conclusion.Conclusion) × (r ≡ Ok own) × (o ≡ Step own)) P (λ o is. subst P (sym is.2) (IfOk-at_ok (λ own. P (Step own)) is.1 it)) made

-- a step of a number or a truth value
pub leaf_of : {E : Type 0} {P : conclusion.Conclusion → Type 0} (r : Result conclusion.Conclusion E) (old new : state.Writer) (i : ℕ) (root : NodeId) → OnOk r (new.laid ≡ old.laid)
    → OnOk r (new.concluded ≡ old.concluded) → IfOk r (AddsStep old.steps new.steps (record { node = i; rule = rule.Lit; env = []; root = root }))
    → ((own : conclusion.Conclusion) → new.laid ≡ old.laid → new.concluded ≡ old.concluded → AddsStep old.steps new.steps (a_step i rule.Lit [] root.0) own → P own) → IfOk r P
leaf_of (Ok own) old new i root same kept adds all = all own same kept adds
leaf_of (Err e) old new i root same kept adds all = tt
