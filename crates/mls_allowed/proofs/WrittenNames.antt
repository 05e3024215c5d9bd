-- The lines that are written for a name or a let: the step of its rule, whose variables are put in by a later step.
--     global_written, inner_written       a name
--     settled_concludes                   the second part of a let by a step of its own
--     let_written                         a let
use Rattle.std.proofs.Common.{◌≡◌, ℕ, ◌+◌, ◌<◌, Bool, true, false, List, [], ◌∷◌, ◌++◌, length, refl, sym, ◌∙◌, subst, slice_get, append-nil, Option, Some, None, cond}
use Rattle.std.specs.Prelude.{Contains, find, option_map, ◌==◌}
use Rattle.std.specs.FinMap as env
use Rattle.std.specs.Ordering.{nat_cmp}
use Rattle.mls_book.specs.Schemes.{Env, Scheme}
use Rattle.mls_term.specs.declared.term.TermForm.TheVariants as form
use Rattle.mls_term.specs.Derivations.{IsMeetAt, IsMeet}
use Rattle.mls_deriv.specs.declared.derivation.BinderNode.{BinderNode}
use Rattle.mls_deriv.specs.declared.derivation.Mode.{Mode}
use Rattle.mls_deriv.specs.declared.derivation.Mode.TheVariants.{Lr}
use Rattle.mls_deriv.specs.declared.derivation.StepLine.{StepLine}
use Rattle.mls_deriv.specs.declared.derivation.StepRule.TheVariants as rule
use Rattle.mls_deriv.specs.declared.claim.Pair.{Pair}
use Rattle.mls_deriv.specs.declared.claim.Put.{Put}
use Rattle.mls_deriv.specs.Pairs.{put_at}
use Rattle.mls_deriv.specs.Steps.{HasFrom, env_of, form_at, Before, Says, IsAllowed, use_let, use_name, let_in}
use Rattle.mls_lines.specs.Conclusions.{IsGood, AreClear, Extends, Conclusion, Concluded, IsReading, IsBinderAbove, both, Concludes, HasConcluded, IsSettled, a_bound, settled, put_in}
use Rattle.mls_lines.specs.Orders.{Along}
use Rattle.mls_layout.specs.Plans.{PlannedLine, a_step_with, planned_steps}
use Rattle.mls_layout.specs.Rows.{at, concluded, Fits}
use Rattle.mls_layout.specs.Runs.{id, a_step}
use Rattle.mls_allowed.proofs.Conclusions.{good_none, good_step, adapted, bound_allowed, bound_concludes, own_unread, type_unread, placed_outer, over_itself, placed_binder, fits_of}
use Rattle.mls_allowed.proofs.WrittenRows.{Writes, no_entry}
use Rattle.mls_lines.proofs.Runs.{says_last}

-- more variables at the end
put_first : (puts more : List Put) (x n : ℕ) → put_at puts x ≡ Some n → put_at (puts ++ more) x ≡ Some n
put_first [] more x n e = absurd (cc)
put_first (put ∷ puts) more x n e = go (put.variable == x) e (put_first puts more x n)
  where
    go : (t : Bool) → option_map (λ (p : Put). p.node) (cond t (Some put) (find (λ (p : Put). p.variable == x) puts)) ≡ Some n
        → (put_at puts x ≡ Some n → put_at (puts ++ more) x ≡ Some n)
        → option_map (λ (p : Put). p.node) (cond t (Some put) (find (λ (p : Put). p.variable == x) (puts ++ more))) ≡ Some n
    go true e later = e
    go false e later = later e

put_second : (puts more : List Put) (x : ℕ) → put_at puts x ≡ None → put_at (puts ++ more) x ≡ put_at more x
put_second [] more x e = refl
put_second (put ∷ puts) more x e = go (put.variable == x) e (put_second puts more x)
  where
    go : (t : Bool) → option_map (λ (p : Put). p.node) (cond t (Some put) (find (λ (p : Put). p.variable == x) puts)) ≡ None
        → (put_at puts x ≡ None → put_at (puts ++ more) x ≡ put_at more x)
        → option_map (λ (p : Put). p.node) (cond t (Some put) (find (λ (p : Put). p.variable == x) (puts ++ more))) ≡ put_at more x
    go true e later = absurd (cc)
    go false e later = later e

module _ (b : Before) (Own : ℕ → Type 0) (Below : ℕ → ℕ → Type 0) (Read : List Put → Mode → ℕ → ℕ → Type 0) (node_of : ℕ → ℕ) (laws : IsReading b Own Below Read node_of) where
  abbrev Above : List Put → ℕ → ℕ → Type 0
  Above = IsBinderAbove b Own Below Read node_of

  -- the step of a rule, whose variables are put in later
  rule_with : (steps : List StepLine) (step : StepLine) (puts : List Put) (top : ℕ) (scope : List ℕ) → ((pairs : List Pair) → IsAllowed (at b steps) [] pairs step)
      → ((x n : ℕ) → put_at puts x ≡ Some n → n < length b.book)
      → ((more : List Put) → Extends b.book Own puts more → Along (Read more) Below Lr step.root.0 top)
      → ((x n : ℕ) → env.get (env_of step.env) x ≡ Some n → Contains scope x × ((more : List Put) → Extends b.book Own puts more → Above more (node_of x) n))
      → Writes b Own Below Read node_of laws steps step.node top scope (a_step_with step [] ∷ []) (record { number = length steps; type = step.root.0; env = step.env; puts = puts })
  rule_with steps step puts top scope it low type binders = record {
    good = good_step b steps step [] (λ pairs list. it pairs);
    concludes = record {
      says = says_last (at b steps) step;
      fits = record { scheme = (it []).in_range; rising = (it []).rising };
      low = low;
      fit = record { type = type; binders = λ more extends x n found. (binders x n found).1 more extends };
      inside = λ x n found. (binders x n found).0;
    };
    ends = record { earlier = steps; last = step; is = refl; about = refl; env = refl; root = refl };
  }

  -- a name of the environment: the book of its scheme stands from the node n on
  pub global_written : (steps : List StepLine) (e g n t : ℕ) (s : Scheme) (puts : List Put) (top : ℕ) (scope : List ℕ) → form_at b.term_nodes e ≡ Some (form.Global g)
      → slice_get b.globals g ≡ Some s → HasFrom b.book n s.book → t ≡ n + s.root → t < length b.book → ((x n : ℕ) → put_at puts x ≡ Some n → n < length b.book)
      → ((more : List Put) → Extends b.book Own puts more → Along (Read more) Below Lr t top)
      → Writes b Own Below Read node_of laws steps e top scope (a_step_with (a_step e (rule.Name (id n)) [] t) [] ∷ []) (record { number = length steps; type = t; env = []; puts = puts })
  global_written steps e g n t s puts top scope is_form found from same t_low low type =
      rule_with steps (a_step e (rule.Name (id n)) [] t) puts top scope
      (λ pairs. record {
        in_range = record { book = laws.closed; root = t_low; env = λ x i found. absurd (no_entry x i found) };
        rising = tt;
        by_rule = use_name (id n) g s refl is_form found from refl same;
      })
      low type (λ x n found. absurd (no_entry x n found))

  -- a let-bound name: the first part of the let has its type at an earlier step
  pub inner_written : (steps : List StepLine) (e k number part t : ℕ) (d : List BinderNode) (puts : List Put) (top : ℕ) (scope : List ℕ) → form_at b.term_nodes e ≡ Some (form.Inner k)
      → env.find nat_cmp k b.lets ≡ Some number → Says (at b steps) number part (concluded b (env_of d) t) → Fits b d t → ((x n : ℕ) → put_at puts x ≡ Some n → n < length b.book)
      → ((more : List Put) → Extends b.book Own puts more → Along (Read more) Below Lr t top)
      → ((x n : ℕ) → env.get (env_of d) x ≡ Some n → Contains scope x × ((more : List Put) → Extends b.book Own puts more → Above more (node_of x) n))
      → Writes b Own Below Read node_of laws steps e top scope (a_step_with (a_step e (rule.Use number) d t) [] ∷ []) (record { number = length steps; type = t; env = d; puts = puts })
  inner_written steps e k number part t d puts top scope is_form found says fits low type binders =
      rule_with steps (a_step e (rule.Use number) d t) puts top scope
      (λ pairs. record { in_range = fits.scheme; rising = fits.rising; by_rule = use_let number k says.step refl is_form found says.stands (sym says.concludes) })
      low type binders

  -- the second part of a let
  pub record Settles (steps : List StepLine) (part top : ℕ) (scope : List ℕ) (plan : List PlannedLine) (own : Conclusion) : Type 0 where
    pub good : IsGood b steps plan
    pub concludes : Concludes b Own Below Read node_of (steps ++ planned_steps plan) part top scope own

  pub settled_concludes : (steps : List StepLine) (part top : ℕ) (scope : List ℕ) (c : Concluded) (plan : List PlannedLine) (own : Conclusion)
      → HasConcluded b Own Below Read node_of steps part top scope c → top < length b.book → Own top → IsSettled node_of (length steps) part top c plan own → Settles steps part top scope plan own
  settled_concludes steps part top scope c plan own it low own_top (a_bound {x = x}) = record {
    good =
        good_step b steps (a_step part rule.Var (record { binder = x; node = id (node_of x) } ∷ []) (node_of x)) []
        (λ pairs list. bound_allowed b Own Below Read node_of laws steps part x (node_of x) pairs it.0 (laws.low_node x));
    concludes =
        let own_step = bound_concludes b Own Below Read node_of laws steps part x (node_of x) scope it.0 (laws.low_node x) (laws.own_node x) (laws.itself (node_of x)) it.2 in
        record {
          says = own_step.says;
          fits = own_step.fits;
          low = own_step.low;
          fit = record {
            type = λ puts more. type_unread b Own Below Read node_of laws puts (node_of x) top (own_unread b Own Below Read node_of laws puts (node_of x) (laws.own_node x) more) it.1;
            binders = own_step.fit.binders;
          };
          inside = own_step.inside;
        };
  }
  settled_concludes steps part top scope c plan own it low own_top (settled {c = s}) = record {
    good = good_none b steps;
    concludes = subst (λ (l : List StepLine). Concludes b Own Below Read node_of l part top scope s) (sym (append-nil steps)) it;
  }
  settled_concludes steps part top scope c plan own it low own_top (put_in {c = s} placed lines number is_placed adapts) =
      let outer = placed_outer b Own Below Read node_of laws scope s.env placed is_placed it.inside in
      let fits = fits_of b Own Below Read node_of laws scope placed top outer low in
      let brings =
      adapted b Own Below Read node_of laws steps part top scope s placed top lines number it
      (record { type = laws.itself top; binders = placed_binder b Own Below Read node_of laws s top placed placed it.fit is_placed (over_itself b Own Below Read node_of laws placed) }) fits adapts in
      record {
        good = brings.good;
        concludes = record {
          says = brings.says;
          fits = fits;
          low = λ x n e. absurd (cc);
          fit = record {
            type = λ puts more. type_unread b Own Below Read node_of laws puts top top (own_unread b Own Below Read node_of laws puts top own_top more) (laws.itself top);
            binders = outer.above;
          };
          inside = outer.inside;
        };
      }

  -- variables of a let's first part, which no own node shows, beside those of its second part
  pub record AreBeside (puts more : List Put) : Type 0 where
    pub clear : AreClear b.book Own more
    pub apart : (x n : ℕ) → put_at more x ≡ Some n → put_at puts x ≡ None
    pub low : (x n : ℕ) → put_at more x ≡ Some n → n < length b.book

  beside_clear : (puts more : List Put) → AreBeside puts more → AreClear b.book Own puts → AreClear b.book Own (puts ++ more)
  beside_clear puts more beside clear i x own is = put_second puts more x (clear i x own is) ∙ beside.clear i x own is

  pub extends_first : (puts more all : List Put) → AreBeside puts more → Extends b.book Own (puts ++ more) all → Extends b.book Own puts all
  extends_first puts more all beside it = record {
    same = λ x n e. it.same x n (put_first puts more x n e);
    clear = λ c. it.clear (beside_clear puts more beside c);
  }

  pub extends_second : (puts more all : List Put) → AreBeside puts more → Extends b.book Own (puts ++ more) all → (x n : ℕ) → put_at more x ≡ Some n → put_at all x ≡ Some n
  extends_second puts more all beside it x n e = it.same x n (put_second puts more x (beside.apart x n e) ∙ e)

  both_low : (puts more : List Put) → AreBeside puts more → ((x n : ℕ) → put_at puts x ≡ Some n → n < length b.book) → (x n : ℕ) → put_at (puts ++ more) x ≡ Some n → n < length b.book
  both_low puts more beside low x n e = go (put_at puts x) refl
    where
      go : (o : Option ℕ) → put_at puts x ≡ o → n < length b.book
      go None is = beside.low x n (sym (put_second puts more x is) ∙ e)
      go (Some m) is =
          let same : m ≡ n = (let h : Some m ≡ Some n = sym (put_first puts more x m is) ∙ e in cc) in
          subst (λ z. z < length b.book) same (low x m is)

  -- a let: its binders have the meets of both parts
  pub let_written : (steps : List StepLine) (e first k f g : ℕ) (d1 : Env) (t1 top : ℕ) (scope : List ℕ) (c : Conclusion) (met : List BinderNode) (more : List Put)
      → form_at b.term_nodes e ≡ Some (form.Let k f g) → env.find nat_cmp k b.lets ≡ Some first → Says (at b steps) first f (concluded b d1 t1)
      → Concludes b Own Below Read node_of steps g top scope c → IsMeet b.book d1 (env_of c.env) (env_of met) → Fits b met c.type
      → AreBeside c.puts more
      → ((x i : ℕ) → env.get d1 x ≡ Some i → Contains scope x × ((all : List Put) → ((y n : ℕ) → put_at more y ≡ Some n → put_at all y ≡ Some n) → Above all (node_of x) i))
      → Writes b Own Below Read node_of laws steps e top scope (a_step_with (a_step e (rule.Let first c.number) met c.type) [] ∷ [])
      (record { number = length steps; type = c.type; env = met; puts = c.puts ++ more })
  let_written steps e first k f g d1 t1 top scope c met more is_form found says it meet fits beside binders =
      rule_with steps (a_step e (rule.Let first c.number) met c.type) (c.puts ++ more) top scope
      (λ pairs. record { in_range = fits.scheme; rising = fits.rising; by_rule = let_in first c.number k f g d1 (env_of c.env) t1 refl is_form found meet says it.says })
      (both_low c.puts more beside it.low)
      (λ all extends. it.fit.type all (extends_first c.puts more all beside extends))
      (λ x n at_x. met_binder x n (env.get d1 x) (env.get (env_of c.env) x) (env.get (env_of met) x) refl refl at_x (meet x))
    where
      Found : ℕ → ℕ → Type 0
      Found x n = Contains scope x × ((all : List Put) → Extends b.book Own (c.puts ++ more) all → Above all (node_of x) n)

      of_first : (x i : ℕ) → env.get d1 x ≡ Some i → Found x i
      of_first x i is = let w = binders x i is in (w.0, λ all extends. w.1 all (extends_second c.puts more all beside extends))

      of_second : (x j : ℕ) → env.get (env_of c.env) x ≡ Some j → Found x j
      of_second x j is = (it.inside x j is, λ all extends. it.fit.binders all (extends_first c.puts more all beside extends) x j is)

      met_binder : (x n : ℕ) (l r o : Option ℕ) → env.get d1 x ≡ l → env.get (env_of c.env) x ≡ r → o ≡ Some n → IsMeetAt b.book l r o → Found x n
      met_binder x n None r o is_l is_r is_n met = of_second x n (is_r ∙ (sym met ∙ is_n))
      met_binder x n (Some i) None o is_l is_r is_n met =
          let same : i ≡ n = (let h : Some i ≡ Some n = sym met ∙ is_n in cc) in
          subst (Found x) same (of_first x i is_l)
      met_binder x n (Some i) (Some j) o is_l is_r is_n (m, is_m, is_meet) =
          let same : m ≡ n = (let h : Some m ≡ Some n = sym is_m ∙ is_n in cc) in
          let left = of_first x i is_l in
          let right = of_second x j is_r in
          subst (Found x) same (left.0, λ all extends. both (record { 0 = i }) (record { 0 = j }) is_meet (left.1 all extends) (right.1 all extends))
