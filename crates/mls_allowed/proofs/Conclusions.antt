-- Steps that bring conclusions to other environments and types, and the environments that serve several of them.
--     good_none, good_then, good_step, says_then      plans
--     above_before, above_itself, type_behind         what is below the node of a binder, and above a type
--     adapted, brought            a conclusion is brought to an environment and a type
--     placed_outer, offered_outer, joined_outer       environments whose variables are all put in
--     over_itself, over_then, over_first, over_second, offered_covers
--     ruled                       the step of a rule
use Rattle.std.proofs.Common.{◌≡◌, inl, inr, ℕ, zero, suc, ◌<◌, true, List, [], ◌∷◌, ◌++◌, length, refl, sym, ap, ◌∙◌, subst, arith, append-nil, append_assoc, Some}
use Rattle.std.specs.Prelude.{Contains}
use Rattle.std.specs.FinMap as env
use Rattle.std.proofs.lemmas.List.Elements.{All-nil}
use Rattle.mls_book.specs.declared.book.NodeId.{NodeId}
use Rattle.mls_book.specs.declared.book.Node.{Node}
use Rattle.mls_book.specs.declared.book.Node.TheVariants as node
use Rattle.mls_book.specs.Books.{node_at}
use Rattle.mls_book.specs.Schemes.{Scheme}
use Rattle.mls_term.specs.declared.term.TermForm.TheVariants as form
use Rattle.mls_deriv.specs.declared.derivation.BinderNode.{BinderNode}
use Rattle.mls_deriv.specs.declared.derivation.Mode.{Mode}
use Rattle.mls_deriv.specs.declared.derivation.Mode.TheVariants.{Lr, Rl}
use Rattle.mls_deriv.specs.declared.derivation.SectionLine.{SectionLine}
use Rattle.mls_deriv.specs.declared.derivation.StepLine.{StepLine}
use Rattle.mls_deriv.specs.declared.derivation.StepRule.TheVariants as rule
use Rattle.mls_deriv.specs.declared.claim.Pair.{Pair}
use Rattle.mls_deriv.specs.declared.claim.Put.{Put}
use Rattle.mls_deriv.specs.Steps.{env_of, form_at, Before, Says, IsAllowed, var}
use Rattle.mls_deriv.proofs.CheckedSubs.{justified_more}
use Rattle.mls_lines.specs.Conclusions.{IsGood, AreClear, Extends, IsUnread, Conclusion, Concluded, a_binder, by_step, IsAdapted, as_it_is, by_pairs, bound_as, IsBrought, IsReading, IsBinderAbove, one, both, IsFit, Concludes, HasConcluded, IsOuter, IsOver, ServesLater, as_it_was, below_own, first_member, second_member, IsOffered, IsPlaced, Replaces, ComesFrom, IsJoined}
use Rattle.mls_layout.specs.Emitted.{asked_at}
use Rattle.mls_lines.specs.Orders.{Along}
use Rattle.mls_pairs.specs.PairLists.{IsPairList}
use Rattle.mls_layout.specs.Plans.{PlannedLine, a_step_with, planned_steps}
use Rattle.mls_layout.specs.Rows.{at, concluded, Fits}
use Rattle.mls_layout.specs.Runs.{a_step, lines_of, IsRun}
use Rattle.mls_layout.specs.Scopes.{entry}
use Rattle.mls_layout.specs.Shown.{IsShown, based, meet_right, meet_first, meet_second, AreShown}
use Rattle.mls_layout.specs.Uses.{NoClaim}
use Rattle.mls_allowed.proofs.Orders.{along_justified}
use Rattle.mls_allowed.proofs.Plans.{lines_split}
use Rattle.mls_lines.proofs.Bringing.{planned_append}
use Rattle.mls_lines.proofs.Runs.{nothing_run, run_then, step_run, says_last, says_kept}
use Rattle.mls_lines.proofs.Scopes.{inner_back, inner_found}
use Rattle.mls_allowed.proofs.Subs.{sub_allowed}

-- a node that is no `Bot` is in the book
pub node_low : (book : List Node) (n : ℕ) → (node_at book n ≡ node.Bot → ⊥) → n < length book
node_low [] n other = absurd (other refl)
node_low (first ∷ book) zero other = omega arith
node_low (first ∷ book) (suc n) other = let low : n < length book = node_low book n other in omega arith

module _ (b : Before) where
  pub good_none : (steps : List StepLine) → IsGood b steps []
  good_none steps lines are =
      subst (λ (l : List StepLine). IsRun (at b steps) lines (at b l)) (sym (append-nil steps))
      (subst (λ (l : List SectionLine). IsRun (at b steps) l (at b steps)) (sym are) (nothing_run (at b steps)))

  pub good_then : (steps : List StepLine) (plan more : List PlannedLine) → IsGood b steps plan → IsGood b (steps ++ planned_steps plan) more → IsGood b steps (plan ++ more)
  good_then steps plan more first second lines are =
      let it = lines_split b.book more plan steps lines are in
      subst (λ (l : List StepLine). IsRun (at b steps) lines (at b l))
      (append_assoc steps (planned_steps plan) (planned_steps more) ∙ ap (λ (l : List StepLine). steps ++ l) (sym (planned_append plan more)))
      (subst (λ (l : List SectionLine). IsRun (at b steps) l (at b ((steps ++ planned_steps plan) ++ planned_steps more))) (sym it.same)
      (run_then (at b steps) (at b (steps ++ planned_steps plan)) (at b ((steps ++ planned_steps plan) ++ planned_steps more)) it.first it.rest (first it.first it.are) (second it.rest it.later)))

  pub good_step : (steps : List StepLine) (step : StepLine) (puts : List Put)
      → ((pairs : List Pair) → IsPairList b.book puts (asked_at steps step) pairs → IsAllowed (at b steps) puts pairs step) → IsGood b steps (a_step_with step puts ∷ [])
  good_step steps step puts it lines are =
      subst (λ (l : List SectionLine). IsRun (at b steps) l (at b (steps ++ step ∷ [])))
      (sym (are.3 ∙ (ap (λ (l : List SectionLine). lines_of step puts are.0 ++ l) are.4 ∙ append-nil (lines_of step puts are.0))))
      (step_run (at b steps) step puts are.0 (it are.0 are.2.list))

  -- what is said stays said
  pub says_then : (more steps : List StepLine) (number part : ℕ) (s : Scheme) → Says (at b steps) number part s → Says (at b (steps ++ more)) number part s
  says_then [] steps number part s says = subst (λ (l : List StepLine). Says (at b l) number part s) (sym (append-nil steps)) says
  says_then (step ∷ more) steps number part s says =
      subst (λ (l : List StepLine). Says (at b l) number part s) (append_assoc steps (step ∷ []) more)
      (says_then more (steps ++ step ∷ []) number part s (says_kept (at b steps) step number part s says))

  module _ (Own : ℕ → Type 0) (Below : ℕ → ℕ → Type 0) (Read : List Put → Mode → ℕ → ℕ → Type 0) (node_of : ℕ → ℕ) (laws : IsReading b Own Below Read node_of) where
    abbrev pub Above : List Put → ℕ → ℕ → Type 0
    Above = IsBinderAbove b Own Below Read node_of

    pub above_before : (puts : List Put) (m k n : ℕ) → Below m k → Above puts k n → Above puts m n
    above_before puts m k n below (one h) = one (h.0, laws.further m k h.0 below h.1, h.2)
    above_before puts m k n below (both l r e h h') = both l r e (above_before puts m k l.0 below h) (above_before puts m k r.0 below h')

    pub above_itself : (puts : List Put) (n : ℕ) → IsUnread b.book Own puts n → Above puts n n
    above_itself puts n it = one (n, laws.itself n, laws.unread puts Rl n it)

    pub type_behind : (puts : List Put) (t k u : ℕ) → Along (Read puts) Below Lr t k → Below k u → Along (Read puts) Below Lr t u
    type_behind puts t k u h below = (h.0, h.1, laws.further h.0 k u h.2 below)

    pub type_unread : (puts : List Put) (t u : ℕ) → IsUnread b.book Own puts t → Below t u → Along (Read puts) Below Lr t u
    type_unread puts t u it below = (t, laws.unread puts Lr t it, below)

    pub clear_nothing : AreClear b.book Own []
    clear_nothing i x own is = refl

    pub extends_itself : (puts : List Put) → Extends b.book Own puts puts
    extends_itself puts = record { same = λ x n e. e; clear = λ c. c }

    -- an own node, where no variable of the conclusion is to be put in
    pub own_unread : (puts : List Put) (i : ℕ) → Own i → Extends b.book Own [] puts → IsUnread b.book Own puts i
    own_unread puts i own more = inr (more.clear clear_nothing, own)

    -- all that follows from claims along the order
    abbrev Follows : List Put → Mode → ℕ → ℕ → Type 0
    Follows puts = IsShown b.book puts (Along (Read puts) Below) NoClaim true

    follow : (puts : List Put) → AreShown b.book puts (Along (Read puts) Below) NoClaim
    follow puts = record {
      basic =
          λ mode i j h.
          justified_more b.book puts (Along (Read puts) Below) (Follows puts) (λ m k l it. based it) mode i j
          (along_justified b.book laws.closed.book puts (Read puts) (laws.justified puts) Below laws.is_order laws.further (laws.plain puts) mode i j h);
      others = λ mode i j h. absurd h;
    }

    above_follows : (puts : List Put) (m n : ℕ) → Above puts m n → Follows puts Rl m n
    above_follows puts m n (one h) = based h
    above_follows puts m n (both l r e h h') = meet_right l r e (above_follows puts m l.0 h) (above_follows puts m r.0 h')

    -- node m is below node n, where it may be a meet of which one member is
    pub data Under (puts : List Put) (n : ℕ) : ℕ → Type 0 where
      by_above : {m : ℕ} → Above puts m n → Under puts n m
      by_first : {m : ℕ} (l r : NodeId) → node_at b.book m ≡ node.Meet l r → Under puts n l.0 → Under puts n m
      by_second : {m : ℕ} (l r : NodeId) → node_at b.book m ≡ node.Meet l r → Under puts n r.0 → Under puts n m

    under_follows : (puts : List Put) (n m : ℕ) → Under puts n m → Follows puts Rl m n
    under_follows puts n m (by_above h) = above_follows puts m n h
    under_follows puts n m (by_first l r e h) = meet_first l r e (under_follows puts n l.0 h)
    under_follows puts n m (by_second l r e h) = meet_second l r e (under_follows puts n r.0 h)

    -- the later environment has a node for each binder of the conclusion, and the type is below the later one
    pub record Covers (c : Conclusion) (top : ℕ) (d : List BinderNode) (u : ℕ) : Type 0 where
      pub type : Below top u
      pub binders : (x n : ℕ) → env.get (env_of c.env) x ≡ Some n → (m : ℕ) × (env.get (env_of d) x ≡ Some m) × Under c.puts n m

    -- the plan is good, and a step says this
    pub record Brings (steps : List StepLine) (part : ℕ) (d : List BinderNode) (u : ℕ) (plan : List PlannedLine) (number : ℕ) : Type 0 where
      pub good : IsGood b steps plan
      pub says : Says (at b (steps ++ planned_steps plan)) number part (concluded b (env_of d) u)

    pub adapted : (steps : List StepLine) (part top : ℕ) (scope : List ℕ) (c : Conclusion) (d : List BinderNode) (u : ℕ) (plan : List PlannedLine) (number : ℕ)
        → Concludes b Own Below Read node_of steps part top scope c → Covers c top d u → Fits b d u
        → IsAdapted c (length steps) part d u plan number → Brings steps part d u plan number
    adapted steps part top scope c d u plan number it covers fits (as_it_is none same_type same_env) = record {
      good = good_none steps;
      says =
          subst (λ (l : List StepLine). Says (at b l) c.number part (concluded b (env_of d) u)) (sym (append-nil steps))
          (subst (λ z. Says (at b steps) c.number part (concluded b (env_of d) z)) same_type
          (subst (λ (z : List BinderNode). Says (at b steps) c.number part (concluded b (env_of z) c.type)) same_env it.says));
    }
    adapted steps part top scope c d u plan number it covers fits by_pairs =
        let step = a_step part (rule.Sub c.number) d u in
        record {
          good =
              good_step steps step c.puts
              (sub_allowed (at b steps) c.puts (Along (Read c.puts) Below) NoClaim (follow c.puts) it.low step c.number (concluded b (env_of c.env) c.type) refl it.says refl fits.scheme fits.rising
              (based (type_behind c.puts c.type top u (it.fit.type c.puts (extends_itself c.puts)) covers.type))
              (λ x n found. let w = covers.binders x n found in (w.0, w.1, under_follows c.puts n w.0 w.2)));
          says = says_last (at b steps) step;
        }

    only_one : (x u y k : ℕ) → env.get (env_of (entry x u ∷ [])) y ≡ Some k → (y ≡ x) × (k ≡ u)
    only_one x u y k found = elim (inner_back node_of [] x u y k found) [ inl it ↦ (let low : it.0.0 < 0 = it.0.1 in absurd (omega arith)) | inr it ↦ it ]

    -- a binder that has this type alone, in any environment that gives it a node below
    pub bound_allowed : (steps : List StepLine) (part x u : ℕ) (pairs : List Pair) → form_at b.term_nodes part ≡ Some (form.Bound x) → u < length b.book
        → IsAllowed (at b steps) [] pairs (a_step part rule.Var (entry x u ∷ []) u)
    bound_allowed steps part x u pairs is low = record {
      in_range = record { book = laws.closed; root = low; env = λ y k found. subst (λ z. z < length b.book) (sym (only_one x u y k found).1) low };
      rising = (All-nil (λ (later : BinderNode). x < later.binder), tt);
      by_rule = var x refl is refl;
    }

    bound_found : (x u : ℕ) → env.get (env_of (entry x u ∷ [])) x ≡ Some u
    bound_found x u = inner_found node_of [] x u (All-nil (λ y. y < x))

    pub bound_concludes : (steps : List StepLine) (part x u : ℕ) (scope : List ℕ) → form_at b.term_nodes part ≡ Some (form.Bound x) → u < length b.book → Own u → Below (node_of x) u → Contains scope x
        → Concludes b Own Below Read node_of (steps ++ a_step part rule.Var (entry x u ∷ []) u ∷ []) part u scope (bound_as x u (length steps))
    bound_concludes steps part x u scope is low own below there = record {
      says = says_last (at b steps) (a_step part rule.Var (entry x u ∷ []) u);
      fits = record { scheme = (bound_allowed steps part x u [] is low).in_range; rising = (bound_allowed steps part x u [] is low).rising };
      low = λ y n e. absurd (cc);
      fit = record {
        type = λ puts more. type_unread puts u u (own_unread puts u own more) (laws.itself u);
        binders =
            λ puts more y n found.
            let it = only_one x u y n found in
            subst (λ z. Above puts (node_of z) n) (sym it.0)
            (subst (Above puts (node_of x)) (sym it.1) (above_before puts (node_of x) u u below (above_itself puts u (own_unread puts u own more))));
      };
      inside = λ y n found. subst (Contains scope) (sym (only_one x u y n found).0) there;
    }

    -- what a later environment and type have to have for what a node concludes
    abbrev pub CoversAll : Concluded → ℕ → List BinderNode → ℕ → Type 0
    CoversAll (by_step c) top d u = Covers c top d u
    CoversAll (a_binder x) top d u = Below top u × Own u × (m : ℕ) × (env.get (env_of d) x ≡ Some m) × Under [] u m

    bound_covers : (x m u number : ℕ) (d : List BinderNode) → env.get (env_of d) x ≡ Some m → Under [] u m → Covers (bound_as x u number) u d u
    bound_covers x m u number d found below = record {
      type = laws.itself u;
      binders =
          λ y n at_y.
          let it = only_one x u y n at_y in
          (m, subst (λ z. env.get (env_of d) z ≡ Some m) (sym it.0) found, subst (λ z. Under [] z m) (sym it.1) below);
    }

    one_longer : (steps : List StepLine) (step : StepLine) → suc (length steps) ≡ length (steps ++ step ∷ [])
    one_longer [] step = refl
    one_longer (first ∷ steps) step = ap suc (one_longer steps step)

    bound_brought : (steps : List StepLine) (part x u : ℕ) (scope : List ℕ) (d : List BinderNode) (m : ℕ) (rest : List PlannedLine) (number : ℕ)
        → form_at b.term_nodes part ≡ Some (form.Bound x) → u < length b.book → Own u → Below (node_of x) u → Contains scope x
        → env.get (env_of d) x ≡ Some m → Under [] u m → Fits b d u → IsAdapted (bound_as x u (length steps)) (suc (length steps)) part d u rest number
        → Brings steps part d u (a_step_with (a_step part rule.Var (entry x u ∷ []) u) [] ∷ rest) number
    bound_brought steps part x u scope d m rest number is low own below there found below_u fits adapts =
        let step = a_step part rule.Var (entry x u ∷ []) u in
        let it =
        adapted (steps ++ step ∷ []) part u scope (bound_as x u (length steps)) d u rest number (bound_concludes steps part x u scope is low own below there)
        (bound_covers x m u (length steps) d found below_u) fits
        (subst (λ count. IsAdapted (bound_as x u (length steps)) count part d u rest number) (one_longer steps step) adapts) in
        record {
          good = good_then steps (a_step_with step [] ∷ []) rest (good_step steps step [] (λ pairs list. bound_allowed steps part x u pairs is low)) it.good;
          says = subst (λ (l : List StepLine). Says (at b l) number part (concluded b (env_of d) u)) (append_assoc steps (step ∷ []) (planned_steps rest)) it.says;
        }

    pub brought : (steps : List StepLine) (part top : ℕ) (scope : List ℕ) (c : Concluded) (d : List BinderNode) (u : ℕ) (plan : List PlannedLine) (number : ℕ)
        → HasConcluded b Own Below Read node_of steps part top scope c → CoversAll c top d u → Fits b d u
        → IsBrought c (length steps) part d u plan number → Brings steps part d u plan number
    brought steps part top scope (by_step c) d u plan number it covers fits adapts = adapted steps part top scope c d u plan number it covers fits adapts
    brought steps part top scope (a_binder x) d u plan number it covers fits (rest, is, adapts) =
        subst (λ (l : List PlannedLine). Brings steps part d u l number) (sym is)
        (bound_brought steps part x u scope d covers.2 rest number it.0 fits.scheme.root covers.1 (laws.further (node_of x) top u it.1 covers.0) it.2 covers.3 covers.4 fits adapts)

    -- environments
    pub fits_of : (scope : List ℕ) (d : List BinderNode) (u : ℕ) → IsOuter b Own Below Read node_of scope d → u < length b.book → Fits b d u
    fits_of scope d u it low = record { scheme = record { book = laws.closed; root = low; env = it.low }; rising = it.rising }

    node_above : (puts : List Put) (x n : ℕ) → Extends b.book Own [] puts → n ≡ node_of x → Above puts (node_of x) n
    node_above puts x n more is = subst (Above puts (node_of x)) (sym is) (above_itself puts (node_of x) (own_unread puts (node_of x) (laws.own_node x) more))

    placed_is : (d placed : List BinderNode) → IsPlaced node_of d placed → (x n : ℕ) → env.get (env_of placed) x ≡ Some n → n ≡ node_of x
    placed_is d placed it x n found =
        let w = it.only x n found in
        let at_x : env.get (env_of placed) x ≡ Some (node_of x) = it.each x w.0 w.1 in
        let same : Some n ≡ Some (node_of x) = sym found ∙ at_x in cc

    pub placed_outer : (scope : List ℕ) (d placed : List BinderNode) → IsPlaced node_of d placed → ((x n : ℕ) → env.get (env_of d) x ≡ Some n → Contains scope x)
        → IsOuter b Own Below Read node_of scope placed
    placed_outer scope d placed it inside = record {
      rising = it.rising;
      low = λ x n found. subst (λ z. z < length b.book) (sym (placed_is d placed it x n found)) (laws.low_node x);
      inside = λ x n found. let w = it.only x n found in inside x w.0 w.1;
      above = λ puts more x n found. node_above puts x n more (placed_is d placed it x n found);
    }

    pub offered_outer : (steps : List StepLine) (part top : ℕ) (scope : List ℕ) (c : Concluded) (d : List BinderNode) (u : ℕ)
        → HasConcluded b Own Below Read node_of steps part top scope c → u < length b.book → Own u → Below top u → IsOffered node_of c u d → IsOuter b Own Below Read node_of scope d
    offered_outer steps part top scope (a_binder x) d u it low own below is_entry =
        subst (IsOuter b Own Below Read node_of scope) (sym is_entry)
        (record {
          rising = (All-nil (λ (later : BinderNode). x < later.binder), tt);
          low = λ y n found. subst (λ z. z < length b.book) (sym (only_one x u y n found).1) low;
          inside = λ y n found. subst (Contains scope) (sym (only_one x u y n found).0) it.2;
          above =
              λ puts more y n found.
              let is = only_one x u y n found in
              subst (λ z. Above puts (node_of z) n) (sym is.0)
              (subst (Above puts (node_of x)) (sym is.1) (above_before puts (node_of x) u u (laws.further (node_of x) top u it.1 below) (above_itself puts u (own_unread puts u own more))));
        })
    offered_outer steps part top scope (by_step c) d u it low own below (inl (none, is_env)) =
        subst (IsOuter b Own Below Read node_of scope) (sym is_env)
        (record {
          rising = it.fits.rising;
          low = it.fits.scheme.env;
          inside = it.inside;
          above = λ puts more x n found. it.fit.binders puts (subst (λ (l : List Put). Extends b.book Own l puts) (sym none) more) x n found;
        })
    offered_outer steps part top scope (by_step c) d u it low own below (inr placed) = placed_outer scope c.env d placed it.inside

    pub joined_outer : (scope : List ℕ) (d e joined : List BinderNode) → IsOuter b Own Below Read node_of scope d → IsOuter b Own Below Read node_of scope e
        → IsJoined node_of b.book d e joined → IsOuter b Own Below Read node_of scope joined
    joined_outer scope d e joined first second it = record {
      rising = it.rising;
      low = λ x n found. low_from x n (it.from x n found);
      inside = λ x n found. inside_from x n (it.from x n found);
      above = λ puts more x n found. above_from puts more x n (it.from x n found);
    }
      where
        From : ℕ → ℕ → Type 0
        From x n = ComesFrom node_of b.book (env.get (env_of d) x) (env.get (env_of e) x) x n

        low_from : (x n : ℕ) → From x n → n < length b.book
        low_from x n (inl h) = first.low x n h
        low_from x n (inr (inl h)) = second.low x n h
        low_from x n (inr (inr (inl h))) = subst (λ z. z < length b.book) (sym h.0) (laws.low_node x)
        low_from x n (inr (inr (inr (l, r, is, h, h')))) = node_low b.book n (λ none. absurd (cc))

        inside_from : (x n : ℕ) → From x n → Contains scope x
        inside_from x n (inl h) = first.inside x n h
        inside_from x n (inr (inl h)) = second.inside x n h
        inside_from x n (inr (inr (inl h))) = first.inside x h.1 h.2
        inside_from x n (inr (inr (inr (l, r, is, h, h')))) = first.inside x l.0 h

        above_from : (puts : List Put) → Extends b.book Own [] puts → (x n : ℕ) → From x n → Above puts (node_of x) n
        above_from puts more x n (inl h) = first.above puts more x n h
        above_from puts more x n (inr (inl h)) = second.above puts more x n h
        above_from puts more x n (inr (inr (inl h))) = node_above puts x n more h.0
        above_from puts more x n (inr (inr (inr (l, r, is, h, h')))) = both l r is (first.above puts more x l.0 h) (second.above puts more x r.0 h')

    abbrev Serves : (x m n : ℕ) → Type 0
    Serves = ServesLater b Own Below Read node_of

    pub over_itself : (d : List BinderNode) → IsOver b Own Below Read node_of d d
    over_itself d x m found = (m, found, as_it_was)

    replaced : (x m n : ℕ) → Replaces node_of b.book x m n → Serves x m n
    replaced x m n (inl e) = subst (Serves x m) (sym e) as_it_was
    replaced x m n (inr (inl e)) = below_own (subst (λ z. Below z (node_of x)) (sym e) (laws.itself (node_of x)))
    replaced x m n (inr (inr (l, r, is, inl e))) = first_member l r is (subst (Serves x m) (sym e) as_it_was)
    replaced x m n (inr (inr (l, r, is, inr e))) = second_member l r is (subst (Serves x m) (sym e) as_it_was)

    pub over_first : (d e joined : List BinderNode) → IsJoined node_of b.book d e joined → IsOver b Own Below Read node_of d joined
    over_first d e joined it x m found = let w = it.first x m found in (w.0, w.1, replaced x m w.0 w.2)

    pub over_second : (d e joined : List BinderNode) → IsJoined node_of b.book d e joined → IsOver b Own Below Read node_of e joined
    over_second d e joined it x m found = let w = it.second x m found in (w.0, w.1, replaced x m w.0 w.2)

    serves_then : (x m n k : ℕ) → Serves x m n → Serves x n k → Serves x m k
    serves_then x m n k it as_it_was = it
    serves_then x m n k it (below_own h) = below_own h
    serves_then x m n k it (first_member l r is h) = first_member l r is (serves_then x m n l.0 it h)
    serves_then x m n k it (second_member l r is h) = second_member l r is (serves_then x m n r.0 it h)

    pub over_then : (d e f : List BinderNode) → IsOver b Own Below Read node_of d e → IsOver b Own Below Read node_of e f → IsOver b Own Below Read node_of d f
    over_then d e f first second x m found =
        let v = first x m found in
        let w = second x v.0 v.1 in
        (w.0, w.1, serves_then x m v.0 w.0 v.2 w.2)

    -- what serves in place of a node is below all that this one and the binder's own are below
    serves_under : (puts : List Put) (x m u : ℕ) → Above puts m u → Above puts (node_of x) u → (n : ℕ) → Serves x m n → Under puts u n
    serves_under puts x m u at_m at_own n as_it_was = by_above at_m
    serves_under puts x m u at_m at_own n (below_own h) = by_above (above_before puts n (node_of x) u h at_own)
    serves_under puts x m u at_m at_own n (first_member l r is h) = by_first l r is (serves_under puts x m u at_m at_own l.0 h)
    serves_under puts x m u at_m at_own n (second_member l r is h) = by_second l r is (serves_under puts x m u at_m at_own r.0 h)

    offered_binder : (c : Conclusion) (top : ℕ) (d later : List BinderNode) → IsFit b Own Below Read node_of c top → (c.puts ≡ []) × (d ≡ c.env) → IsOver b Own Below Read node_of d later
        → (x n : ℕ) → env.get (env_of c.env) x ≡ Some n → (m : ℕ) × (env.get (env_of later) x ≡ Some m) × Under c.puts n m
    offered_binder c top d later fit (none, is) over x n found =
        let w = over x n (subst (λ (l : List BinderNode). env.get (env_of l) x ≡ Some n) (sym is) found) in
        (w.0, w.1, serves_under c.puts x n n (above_itself c.puts n (inl none)) (fit.binders c.puts (extends_itself c.puts) x n found) w.0 w.2)

    pub placed_binder : (c : Conclusion) (top : ℕ) (d later : List BinderNode) → IsFit b Own Below Read node_of c top → IsPlaced node_of c.env d → IsOver b Own Below Read node_of d later
        → (x n : ℕ) → env.get (env_of c.env) x ≡ Some n → (m : ℕ) × (env.get (env_of later) x ≡ Some m) × Under c.puts n m
    placed_binder c top d later fit placed over x n found =
        let w = over x (node_of x) (placed.each x n found) in
        let own = fit.binders c.puts (extends_itself c.puts) x n found in
        (w.0, w.1, serves_under c.puts x (node_of x) n own own w.0 w.2)

    -- what is offered for a type serves it in each later environment
    pub offered_covers : (steps : List StepLine) (part top : ℕ) (scope : List ℕ) (c : Concluded) (d later : List BinderNode) (u : ℕ)
        → HasConcluded b Own Below Read node_of steps part top scope c → Own u → Below top u → IsOffered node_of c u d → IsOver b Own Below Read node_of d later
        → CoversAll c top later u
    offered_covers steps part top scope (a_binder x) d later u it own below is over =
        let w = over x u (subst (λ (l : List BinderNode). env.get (env_of l) x ≡ Some u) (sym is) (bound_found x u)) in
        let at_u = above_itself [] u (inl refl) in
        (below, own, w.0, w.1, serves_under [] x u u at_u (above_before [] (node_of x) u u (laws.further (node_of x) top u it.1 below) at_u) w.0 w.2)
    offered_covers steps part top scope (by_step c) d later u it own below (inl is) over = record { type = below; binders = offered_binder c top d later it.fit is over }
    offered_covers steps part top scope (by_step c) d later u it own below (inr placed) over = record { type = below; binders = placed_binder c top d later it.fit placed over }

    -- the step of a rule, in an environment whose variables are all put in
    pub ruled : (steps : List StepLine) (step : StepLine) (top : ℕ) (scope : List ℕ) → ((pairs : List Pair) → IsAllowed (at b steps) [] pairs step)
        → Own step.root.0 → Below step.root.0 top → IsOuter b Own Below Read node_of scope step.env
        → Concludes b Own Below Read node_of (steps ++ step ∷ []) step.node top scope (record { number = length steps; type = step.root.0; env = step.env; puts = [] })
    ruled steps step top scope it own below outer = record {
      says = says_last (at b steps) step;
      fits = record { scheme = (it []).in_range; rising = (it []).rising };
      low = λ y n e. absurd (cc);
      fit = record {
        type = λ puts more. type_unread puts step.root.0 top (own_unread puts step.root.0 own more) below;
        binders = outer.above;
      };
      inside = outer.inside;
    }
