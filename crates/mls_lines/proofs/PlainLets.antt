-- The lines that are written for a let, in a book that grows by meets of binders behind the lines of its second part.
--     bound_own, step_own_taken       the step of a node is taken out, whatever its type is
--     settled_as_is, settled_put_in   the second part by a step of its own
--     let_writes                      a let
use Rattle.std.proofs.Common.{◌≡◌, ◌≢◌, ◌⊎◌, inl, inr, ℕ, ◌<◌, List, [], ◌∷◌, ◌++◌, length, refl, sym, ap, ◌∙◌, subst, append-nil, Option, Some, None}
use Rattle.std.specs.Prelude.{IsSome, option_map}
use Rattle.std.proofs.lemmas.List.Elements.{All-nil}
use Rattle.std.specs.BTreeMap.{BTreeMap, get}
use Rattle.std.specs.FinMap as env
use Rattle.std.specs.FinMap.{get-empty}
use Rattle.std.specs.Ordering.{nat_cmp}
use Rattle.mls_book.specs.Schemes.{Env}
use Rattle.mls_book.specs.declared.book.Node.{Node}
use Rattle.mls_book.specs.declared.book.NodeId.{NodeId}
use Rattle.mls_term.specs.declared.term.TermForm.TheVariants as form
use Rattle.mls_term.specs.Derivations.{IsMeet}
use Rattle.mls_deriv.specs.declared.claim.Put.{Put}
use Rattle.mls_deriv.specs.declared.derivation.BinderNode.{BinderNode}
use Rattle.mls_deriv.specs.declared.derivation.StepLine.{StepLine}
use Rattle.mls_deriv.specs.declared.derivation.StepRule.TheVariants as rule
use Rattle.mls_deriv.specs.Pairs.{put_at}
use Rattle.mls_deriv.specs.Sections.{steps_of}
use Rattle.mls_deriv.specs.Steps.{env_of, IsRising}
use Rattle.mls_layout.specs.declared.layout.LaidOut.{LaidOut}
use Rattle.mls_layout.specs.LaidOut.{place_of}
use Rattle.mls_layout.specs.Parts.{Constraint}
use Rattle.mls_layout.specs.Plans.{PlannedLine, a_step_with, planned_steps}
use Rattle.mls_layout.specs.Runs.{a_step}
use Rattle.mls_layout.specs.Scopes.{entry}
use Rattle.mls_parts.specs.declared.pose.Posing.{Posing}
use Rattle.mls_parts.specs.Posings.{binder_in, root_in}
use Rattle.mls_automaton.specs.declared.scheme.Scheme.{Scheme}
use Rattle.mls_lines.specs.declared.known.FirstPart.{FirstPart}
use Rattle.mls_lines.specs.declared.known.GlobalAt.{GlobalAt}
use Rattle.mls_lines.specs.declared.steps.Conclusion as conclusion
use Rattle.mls_lines.specs.declared.steps.Steps.{Steps}
use Rattle.mls_lines.specs.declared.writer.Concluded.TheVariants.{Bound, Step}
use Rattle.mls_lines.specs.declared.writer.Writer as state
use Rattle.mls_lines.specs.Conclusions.{Conclusion, Concluded, a_binder, by_step, bound_as, IsAdapted, IsPlaced, IsSettled, a_bound, settled, put_in}
use Rattle.mls_lines.specs.Environments.{IsMetIn}
use Rattle.mls_lines.specs.PlainLines.{ArePutIn, HaveLowFirsts, IsSound, SettlesNode, TakesOwn, WritesNode}
use Rattle.mls_lines.specs.Puts.{ArePutsOfFirst, PutsFirst, ShareVariable}
use Rattle.mls_lines.specs.Stepping.{conclusion_of, Adds, AddsAdapted, AddsStep, AreCounted, Stands}
use Rattle.mls_lines.specs.Writer.{concluded_in, concluded_of, own_node, ConcludesNoMore, Grows, HasLowEnv, HasLowNodes}
use Rattle.mls_lines.proofs.Bringing.{adapted_adds, adds_steps, adds_then, step_stands}
use Rattle.mls_lines.proofs.GoingOn.{goes_then, grown_on, same_on, sound_added}
use Rattle.mls_lines.proofs.LowNodes.{below_longer, entry_low, env_more, met_low, no_puts_own, placed_low, puts_joined_low, puts_low, step_low, with_puts_low}
use Rattle.mls_lines.proofs.OwnVariables.{joined_own, let_own}
use Rattle.mls_lines.proofs.Stepping.{adds_longer, step_adds}

-- the step of a node is taken out, whatever its type is
module _ (old now new : state.Writer) (p : Posing) (i : ℕ) (from : conclusion.Conclusion) (sound : IsSound old) (same_steps : now.steps ≡ old.steps) (same_laid : now.laid ≡ old.laid) (fewer : ConcludesNoMore old now) where
  pub bound_own : (x : ℕ) (u : NodeId) → u.0 ≡ own_node old p x → get nat_cmp old.concluded i ≡ Some (Bound x) → new.laid ≡ now.laid → new.concluded ≡ now.concluded
      → AddsStep now.steps new.steps (a_step i rule.Var (entry x u.0 ∷ []) u.0) from → TakesOwn old new p i from
  bound_own x u place found laid concluded adds =
      let step = a_step i rule.Var (entry x u.0 ∷ []) u.0 in
      let count : ℕ = length (steps_of old.steps.lines) in
      let it = subst (λ (s : Steps). AddsStep s new.steps step from) same_steps adds in
      let u_low : u.0 < length old.laid.book = subst (λ n. n < length old.laid.book) (sym place) (sound.places (binder_in p x)) in
      let is : conclusion_of from ≡ bound_as x u.0 count = λ n. record { number = (it.number ∙ sound.counted) n; type = (it.root n).0; env = it.env n; puts = it.puts n } in
      record {
        own = a_binder x;
        known = ap (option_map concluded_of) found;
        plan = a_step_with step [] ∷ [];
        settles =
            λ top.
            subst (λ (s : Conclusion). IsSettled (own_node old p) count i top (a_binder x) (a_step_with step [] ∷ []) s) (sym is)
            (subst (λ n. IsSettled (own_node old p) count i top (a_binder x) (a_step_with (a_step i rule.Var (entry x n ∷ []) n) [] ∷ []) (bound_as x n count)) (sym place) a_bound);
        adds = step_adds old.laid.book old.steps new.steps step from refl sound.counted it;
        stands = step_stands old.steps new.steps step from sound.counted it;
        rising = subst IsRising (sym it.env) (All-nil (λ (later : BinderNode). x < later.binder), tt);
        low = step_low (length old.laid.book) old.steps new.steps step from it u_low (entry_low (length old.laid.book) x u.0 u_low);
        laid = laid ∙ same_laid;
        fewer = λ j own known. fewer j own (sym (ap (λ m. get nat_cmp m j) concluded) ∙ known);
      }

  pub step_own_taken : get nat_cmp old.concluded i ≡ Some (Step from) → TakesOwn old now p i from
  step_own_taken found = record {
    own = by_step (conclusion_of from);
    known = ap (option_map concluded_of) found;
    plan = [];
    settles = λ top. settled;
    adds = record {
      more = [];
      lines = (λ n. (same_steps n).lines) ∙ sym (append-nil old.steps.lines);
      are = λ later. refl;
      no_lets = tt;
      counted = subst AreCounted (sym same_steps) sound.counted;
    };
    stands = subst (λ (s : Steps). Stands (steps_of s.lines) from) (sym same_steps) (sound.have i from found);
    rising = sound.rising i from found;
    low = sound.low i from found;
    laid = same_laid;
    fewer = fewer;
  }

-- the second part of a let by a step of its own
pub settled_as_is : (old now : state.Writer) (p : Posing) (i : ℕ) (from : conclusion.Conclusion) (puts : List Put) → TakesOwn old now p i from → ((x n : ℕ) → put_at puts x ≡ Some n → put_at from.puts x ≡ None)
    → SettlesNode old now p i puts from
settled_as_is old now p i from puts it apart = record {
  own = it.own;
  known = it.known;
  plan = it.plan;
  settles = it.settles (place_of old.laid.places (root_in p i));
  adds = it.adds;
  rising = it.rising;
  low = it.low;
  apart = apart;
  laid = it.laid;
  fewer = it.fewer;
}

-- variables are put in by a step behind that of the node
put_in_behind : (node_of : ℕ → ℕ) (steps : List StepLine) (i top : ℕ) (own : Concluded) (plan more : List PlannedLine) (c : Conclusion) (placed : List BinderNode) (number : ℕ) → IsSettled node_of (length steps) i top own plan c
    → (c.puts ≡ [] → ⊥) → IsPlaced node_of c.env placed → IsAdapted c (length (steps ++ planned_steps plan)) i placed top more number
    → IsSettled node_of (length steps) i top own (plan ++ more) (record { number = number; type = top; env = placed; puts = [] })
put_in_behind node_of steps i top own plan more c placed number a_bound some is_placed adapts = absurd (some refl)
put_in_behind node_of steps i top own plan more c placed number settled some is_placed adapts =
    put_in placed more number is_placed (subst (λ (l : List StepLine). IsAdapted c (length l) i placed top more number) (append-nil steps) adapts)
put_in_behind node_of steps i top own plan more c placed number (put_in other lines last is_other adapted) some is_placed adapts = absurd (some refl)

pub settled_put_in : (old now new : state.Writer) (p : Posing) (i : ℕ) (from to : conclusion.Conclusion) (puts : List Put) (placed : List BinderNode) (u : NodeId) → IsSound old → TakesOwn old now p i from
    → ShareVariable from.puts puts → IsPlaced (own_node now p) from.env placed → u.0 ≡ place_of now.laid.places (root_in p i)
    → AddsAdapted now.laid.book now.steps new.steps i from placed u to → new.laid ≡ now.laid → new.concluded ≡ now.concluded → SettlesNode old new p i puts to
settled_put_in old now new p i from to puts placed u sound it (x, m, n, one, two) is_placed place adapts laid concluded =
    let steps : List StepLine = steps_of old.steps.lines in
    let top : ℕ = place_of old.laid.places (root_in p i) in
    let root_is : u.0 ≡ top = place ∙ (λ k. place_of (it.laid k).places (root_in p i)) in
    let count : now.steps.count ≡ length (steps ++ planned_steps it.plan) =
    it.adds.counted ∙ ap (λ (l : List StepLine). length l) (adds_steps old.laid.book old.steps now.steps it.plan it.adds) in
    let some : from.puts ≡ [] → ⊥ = λ none. absurd (let wrong : put_at [] x ≡ Some m = subst (λ (l : List Put). put_at l x ≡ Some m) none one in cc) in
    let is : conclusion_of to ≡ record { number = to.step; type = top; env = placed; puts = [] } =
    λ k. record { number = to.step; type = ((λ h. (adapts.root h).0) ∙ root_is) k; env = adapts.env k; puts = adapts.puts k } in
    let placed_before = subst (λ (l : LaidOut). IsPlaced (λ y. place_of l.places (binder_in p y)) from.env placed) it.laid is_placed in
    let root_low : u.0 < length old.laid.book = subst (λ k. k < length old.laid.book) (sym root_is) (sound.places (root_in p i)) in
    let env_low = placed_low (own_node old p) (length old.laid.book) (λ y. sound.places (binder_in p y)) from.env placed placed_before in
    let adapted = subst (λ t. IsAdapted (conclusion_of from) (length (steps ++ planned_steps it.plan)) i placed t adapts.plan to.step) root_is
    (subst (λ k. IsAdapted (conclusion_of from) k i placed u.0 adapts.plan to.step) count adapts.adapts) in
    record {
      own = it.own;
      known = it.known;
      plan = it.plan ++ adapts.plan;
      settles =
          subst (λ (s : Conclusion). IsSettled (own_node old p) (length steps) i top it.own (it.plan ++ adapts.plan) s) (sym is)
          (put_in_behind (own_node old p) steps i top it.own it.plan adapts.plan (conclusion_of from) placed to.step (it.settles top) some placed_before adapted);
      adds =
          adds_then old.laid.book old.steps now.steps new.steps it.plan adapts.plan it.adds
          (adapted_adds now.laid.book old.laid.book now.steps new.steps i from placed u to (λ k. (it.laid k).book) sound.closed it.rising it.low env_low root_low adapts);
      rising = subst IsRising (sym adapts.env) is_placed.rising;
      low = record {
        root = subst (λ (r : NodeId). r.0 < length old.laid.book) (sym adapts.root) root_low;
        env = subst (HasLowEnv (length old.laid.book)) (sym adapts.env) env_low;
        puts = puts_low (length old.laid.book) to.puts adapts.puts;
        own = no_puts_own to.puts adapts.puts;
      };
      apart = λ y k e. ap (λ (l : List Put). put_at l y) adapts.puts;
      laid = laid ∙ it.laid;
      fewer = λ j own known. it.fewer j own (sym (ap (λ m. get nat_cmp m j) concluded) ∙ known);
    }

-- variables are put in where the first part needs a binder
abbrev noted : List BinderNode → List Put → Option (List Put)
noted [] puts = None
noted (first ∷ rest) puts = Some puts

-- a let
module _ (globals : BTreeMap ℕ GlobalAt) (firsts : BTreeMap ℕ FirstPart) (lets : BTreeMap ℕ Scheme) (c : Constraint) (p : Posing) (parts : ℕ → List ℕ) (i : ℕ) (old : state.Writer) (sound : IsSound old) where
  pub let_writes : (k j l : ℕ) (now grown new : state.Writer) (part : FirstPart) (puts : List Put) (second own : conclusion.Conclusion) (met : List BinderNode) → HaveLowFirsts (length old.laid.book) firsts
      → ((x m : ℕ) → put_at puts x ≡ Some m → m < length old.laid.book) → get nat_cmp firsts k ≡ Some part → (part.env ≡ [] → puts ≡ [])
      → (part.env ≢ [] → ArePutsOfFirst old.laid.places p lets i k part.variable puts)
      → SettlesNode old now p l puts second → Grows now grown → IsMetIn grown.laid.book part.env second.env met → new.laid ≡ grown.laid → new.concluded ≡ grown.concluded
      → AddsStep grown.steps new.steps (a_step i (rule.Let part.step second.step) met second.root.0) own → WritesNode globals firsts lets c p parts i (form.Let k j l) old new (Step (record own { puts = second.puts ++ puts }))
  let_writes k j l now grown new part puts second own met firsts_low puts_are_low found none edges it grows met_in same kept adds =
      let steps : List StepLine = steps_of old.steps.lines in
      let step = a_step i (rule.Let part.step second.step) met second.root.0 in
      let plan : List PlannedLine = it.plan ++ a_step_with step [] ∷ [] in
      let counted : AreCounted grown.steps = subst AreCounted (sym grows.steps) it.adds.counted in
      let so_far = subst (λ (s : Steps). Adds old.laid.book old.steps s it.plan) (sym grows.steps) it.adds in
      let added = adds_then old.laid.book old.steps grown.steps new.steps it.plan (a_step_with step [] ∷ []) so_far (step_adds old.laid.book grown.steps new.steps step own refl counted adds) in
      let fewer : ConcludesNoMore grown new = λ m o known. sym (ap (λ ms. get nat_cmp ms m) kept) ∙ known in
      let goes = goes_then old now new (same_on old now it.laid it.fewer) (goes_then now grown new (grown_on now grown grows) (same_on grown new same fewer)) in
      let number : own.step ≡ length (steps ++ planned_steps it.plan) =
      adds.number ∙ (counted ∙ ap (λ (s : List StepLine). length s) (adds_steps old.laid.book old.steps grown.steps it.plan so_far)) in
      let stands = step_stands grown.steps new.steps step own counted adds in
      let book_is : new.laid.book ≡ grown.laid.book = λ n. (same n).book in
      let grown_is : grown.laid.book ≡ old.laid.book ++ grows.more = grows.book ∙ ap (λ (book : List Node). book ++ grows.more) (λ n. (it.laid n).book) in
      let up : (n : ℕ) → n < length old.laid.book → n < length grown.laid.book = λ n. below_longer old.laid.book grown.laid.book n (grows.more, grown_is) in
      let met_is_low = met_low grown.laid.book part.env second.env met met_in (env_more (length old.laid.book) (length grown.laid.book) up part.env (firsts_low k part found).1)
      (env_more (length old.laid.book) (length grown.laid.book) up second.env it.low.env) in
      let low = with_puts_low (length grown.laid.book) own (second.puts ++ puts)
      (step_low (length grown.laid.book) grown.steps new.steps step own adds (up second.root.0 it.low.root) met_is_low)
      (λ x m at. up m (puts_joined_low (length old.laid.book) second.puts puts x m (it.low.puts x m) (puts_are_low x m) at))
      (joined_own second.puts puts it.low.own (let_own old.laid.places p lets i k part.variable puts part.env none edges) it.apart) in
      record {
        puts = noted part.env puts;
        plan = plan;
        tells = λ names are_names puts_are of agree.
            let step_is : part.step ≡ names.step k = sym (are_names.step k part found) in
            let env_is : (names.first k).env ≡ env_of part.env = are_names.first_env k part found in
            record {
              lines = it.plan;
              second = conclusion_of second;
              settles = subst (λ (o : Concluded). IsSettled (own_node old p) (length steps) l (place_of old.laid.places (root_in p l)) o it.plan (conclusion_of second)) (sym (agree l it.own it.known)) it.settles;
              met = met;
              rising = met_in.rising;
              meets =
                  subst (λ (d : Env). IsMeet new.laid.book d (env_of second.env) (env_of met)) (sym env_is)
                  (subst (λ (book : List Node). IsMeet book (env_of part.env) (env_of second.env) (env_of met)) (sym book_is) met_in.meets);
              more = puts;
              puts = are_put_in part.env refl (names.first k).env env_is (names.puts i) puts_are;
              apart = it.apart;
              plan_is = λ n. it.plan ++ a_step_with (a_step i (rule.Let (step_is n) second.step) met second.root.0) [] ∷ [];
              own_is = λ n. by_step (record { number = number n; type = (adds.root n).0; env = adds.env n; puts = second.puts ++ puts });
            };
        puts_are = λ closed. record { part = part; known = found; first = puts_first part.env refl };
        used = λ m is. subst (λ n. IsSome (concluded_in old n)) is (subst IsSome (sym it.known) refl);
        continues = record {
          goes_on = goes;
          sound = sound_added old.laid.book old new plan added goes sound;
          adds = subst (λ (book : List Node). Adds book old.steps new.steps plan) (sym (book_is ∙ grown_is)) (adds_longer old.laid.book grows.more old.steps new.steps plan added);
        };
        sound_own = (
          record { step = stands.step; found = stands.found; env = stands.env; root = stands.root },
          subst IsRising (sym adds.env) met_in.rising,
          subst (λ (book : List Node). HasLowNodes (length book) (record own { puts = second.puts ++ puts })) (sym book_is) low,
        );
      }
    where
      puts_first : (d : List BinderNode) → part.env ≡ d → ((part.env ≡ []) × (noted part.env puts ≡ None)) ⊎ PutsFirst old.laid.places p lets i k part (noted part.env puts)
      puts_first [] is = inl (is, ap (λ (d : List BinderNode). noted d puts) is)
      puts_first (first ∷ rest) is = inr (record { own = puts; is = ap (λ (d : List BinderNode). noted d puts) is; are = edges (λ none. absurd (cc)) })

      are_put_in : (d : List BinderNode) → part.env ≡ d → (e : Env) → e ≡ env_of part.env → (own_puts : List Put) → ArePutIn (noted d puts) own_puts → (puts ≡ own_puts) ⊎ ((puts ≡ []) × ((x : ℕ) → env.get e x ≡ None))
      are_put_in [] is e env_is own_puts are = inr (none is, λ x. ap (λ (d : Env). env.get d x) (env_is ∙ ap env_of is) ∙ get-empty nat_cmp x)
      are_put_in (first ∷ rest) is e env_is own_puts are = inl (sym are)
