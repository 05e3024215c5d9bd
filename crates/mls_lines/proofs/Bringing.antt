-- The lines that bring what a node concludes to an environment and a type, as the writer adds them.
--     planned_append              the steps of one plan after another
--     lines_joined, adds_none, adds_then  their lines
--     step_stands                 the step that was added last
--     adapted_adds                the lines that bring a conclusion to an environment and a type
--     bound_taken, step_taken     the step of a node
--     taken_brings                brought to an environment and a type
use Rattle.std.proofs.Common.{◌≡◌, ℕ, suc, ◌<◌, List, [], ◌∷◌, ◌++◌, length, refl, sym, ap, ◌∙◌, subst, append-nil, append_assoc, slice_get, Some}
use Rattle.std.specs.Prelude.{All, option_map}
use Rattle.std.proofs.lemmas.List.Elements.{All-nil}
use Rattle.std.specs.BTreeMap.{get}
use Rattle.std.specs.Ordering.{nat_cmp}
use Rattle.mls_book.specs.declared.book.Node.{Node}
use Rattle.mls_book.specs.declared.book.NodeId.{NodeId}
use Rattle.mls_book.specs.Books.{IsClosedBook}
use Rattle.mls_deriv.specs.declared.derivation.BinderNode.{BinderNode}
use Rattle.mls_deriv.specs.declared.derivation.SectionLine.{SectionLine}
use Rattle.mls_deriv.specs.declared.derivation.SectionLine.TheVariants as line
use Rattle.mls_deriv.specs.declared.derivation.StepLine.{StepLine}
use Rattle.mls_deriv.specs.declared.derivation.StepRule.TheVariants as rule
use Rattle.mls_deriv.specs.Sections.{steps_of}
use Rattle.mls_deriv.specs.Steps.{IsRising}
use Rattle.mls_pairs.specs.PairLists.{IsInside}
use Rattle.mls_layout.specs.Plans.{PlannedLine, a_step_with, a_let, planned_steps, AreLinesOf, HasNoLets}
use Rattle.mls_layout.specs.Runs.{a_step, lines_of}
use Rattle.mls_layout.specs.Scopes.{entry}
use Rattle.mls_lines.specs.declared.steps.Conclusion as written
use Rattle.mls_lines.specs.declared.steps.Steps.{Steps}
use Rattle.mls_lines.specs.declared.writer.Concluded.TheVariants.{Bound, Step}
use Rattle.mls_lines.specs.declared.writer.Writer as state
use Rattle.mls_lines.specs.Conclusions.{Conclusion, Concluded, a_binder, by_step, IsAdapted, IsBrought, as_it_is, by_pairs}
use Rattle.mls_lines.specs.Stepping.{conclusion_of, pairs_over, AddsStep, Adds, AreCounted, Stands, AddsAdapted}
use Rattle.mls_lines.specs.Writer.{concluded_of, IsTaken, ConcludesNoMore, TakesStep, BringsNode, HasLowEnv, HasLowNodes}
use Rattle.mls_lines.specs.PlainLines.{IsSound}
use Rattle.mls_lines.proofs.LowNodes.{entry_low, pairs_low, step_low}
use Rattle.mls_lines.proofs.Runs.{no_steps, steps_append, last_found}
use Rattle.mls_lines.proofs.Stepping.{step_adds}

pub planned_append : (plan more : List PlannedLine) → planned_steps (plan ++ more) ≡ planned_steps plan ++ planned_steps more
planned_append [] more = refl
planned_append (a_step_with step puts ∷ plan) more = ap (λ (l : List StepLine). step ∷ l) (planned_append plan more)
planned_append (a_let k number ∷ plan) more = planned_append plan more

module _ (book : List Node) (more : List PlannedLine) (rest : List SectionLine) where
  pub lines_joined : (plan : List PlannedLine) (steps : List StepLine) (first : List SectionLine) → AreLinesOf book steps plan first → AreLinesOf book (steps ++ planned_steps plan) more rest
      → AreLinesOf book steps (plan ++ more) (first ++ rest)
  lines_joined [] steps first are later =
      subst (λ (l : List SectionLine). AreLinesOf book steps more (l ++ rest)) (sym are) (subst (λ (s : List StepLine). AreLinesOf book s more rest) (append-nil steps) later)
  lines_joined (a_step_with step puts ∷ plan) steps first (pairs, behind, list, is, are) later = (
    pairs,
    behind ++ rest,
    list,
    ap (λ (l : List SectionLine). l ++ rest) is ∙ append_assoc (lines_of step puts pairs) behind rest,
    lines_joined plan (steps ++ step ∷ []) behind are (subst (λ (s : List StepLine). AreLinesOf book s more rest) (sym (append_assoc steps (step ∷ []) (planned_steps plan))) later),
  )
  lines_joined (a_let k number ∷ plan) steps first (behind, is, are) later =
      (behind ++ rest, ap (λ (l : List SectionLine). l ++ rest) is, lines_joined plan steps behind are later)

-- the steps of the lines are those of the plan
pub lines_steps : (book : List Node) (plan : List PlannedLine) (steps : List StepLine) (lines : List SectionLine) → AreLinesOf book steps plan lines → steps_of lines ≡ planned_steps plan
lines_steps book [] steps lines are = ap steps_of are
lines_steps book (a_step_with step puts ∷ plan) steps lines (pairs, rest, list, is, are) =
    ap steps_of is
    ∙ (steps_append (lines_of step puts pairs) rest
    ∙ (ap (λ (l : List StepLine). step ∷ (l ++ steps_of rest)) (no_steps puts pairs) ∙ ap (λ (l : List StepLine). step ∷ l) (lines_steps book plan (steps ++ step ∷ []) rest are)))
lines_steps book (a_let k number ∷ plan) steps lines (rest, is, are) = ap steps_of is ∙ lines_steps book plan steps rest are

pub adds_steps : (book : List Node) (old new : Steps) (plan : List PlannedLine) → Adds book old new plan → steps_of new.lines ≡ steps_of old.lines ++ planned_steps plan
adds_steps book old new plan it =
    ap steps_of it.lines ∙ (steps_append old.lines it.more ∙ ap (λ (l : List StepLine). steps_of old.lines ++ l) (lines_steps (book ++ []) plan (steps_of old.lines) it.more (it.are [])))

pub adds_none : (book : List Node) (s : Steps) → AreCounted s → Adds book s s []
adds_none book s counted = record { more = []; lines = sym (append-nil s.lines); are = λ later. refl; no_lets = tt; counted = counted }

no_lets_append : (plan more : List PlannedLine) → HasNoLets plan → HasNoLets more → HasNoLets (plan ++ more)
no_lets_append [] more one two = two
no_lets_append (a_step_with step puts ∷ plan) more one two = no_lets_append plan more one two
no_lets_append (a_let k number ∷ plan) more one two = absurd one

no_lets_adapted : (c : Conclusion) (count part : ℕ) (d : List BinderNode) (u : ℕ) (plan : List PlannedLine) (number : ℕ) → IsAdapted c count part d u plan number → HasNoLets plan
no_lets_adapted c count part d u plan number (as_it_is none type env) = tt
no_lets_adapted c count part d u plan number by_pairs = tt

pub adds_then : (book : List Node) (old now new : Steps) (plan more : List PlannedLine) → Adds book old now plan → Adds book now new more → Adds book old new (plan ++ more)
adds_then book old now new plan more first second = record {
  more = first.more ++ second.more;
  lines = second.lines ∙ (ap (λ (l : List SectionLine). l ++ second.more) first.lines ∙ append_assoc old.lines first.more second.more);
  are =
      λ later.
      lines_joined (book ++ later) more second.more plan (steps_of old.lines) first.more (first.are later)
      (subst (λ (s : List StepLine). AreLinesOf (book ++ later) s more second.more) (adds_steps book old now plan first) (second.are later));
  no_lets = no_lets_append plan more first.no_lets second.no_lets;
  counted = second.counted;
}

-- the step that was added last
pub step_stands : (old new : Steps) (step : StepLine) (c : written.Conclusion) → AreCounted old → AddsStep old new step c → Stands (steps_of new.lines) c
step_stands old new step c counted it = record {
  step = step;
  found =
      (λ n. slice_get (steps_of (it.lines n)) c.step)
      ∙ (ap (λ (l : List StepLine). slice_get l c.step) (steps_append old.lines (line.Step step ∷ []))
      ∙ (ap (slice_get (steps_of old.lines ++ step ∷ [])) (it.number ∙ counted) ∙ last_found (steps_of old.lines) step));
  env = sym it.env;
  root = sym it.root;
}

-- the lines that bring a conclusion to an environment and a type: their lists of pairs last
pub adapted_adds : (now book : List Node) (old new : Steps) (i : ℕ) (from : written.Conclusion) (d : List BinderNode) (u : NodeId) (to : written.Conclusion) → now ≡ book → IsClosedBook book → IsRising from.env
    → HasLowNodes (length book) from → HasLowEnv (length book) d → u.0 < length book → (it : AddsAdapted now old new i from d u to) → Adds book old new it.plan
adapted_adds now book old new i from d u to same closed rising low d_low u_low it = record {
  more = it.more;
  lines = it.lines;
  are =
      λ later.
      subst (λ (b : List Node). AreLinesOf (b ++ later) (steps_of old.lines) it.plan it.more) same
      (it.lasting (subst IsClosedBook (sym same) closed) (λ x m found. subst (λ (b : List Node). m < length b) (sym same) (low.puts x m found)) low.own
      (subst (λ (b : List Node). All (IsInside (length b)) (pairs_over from.env d from.root.0 u.0)) (sym same) (pairs_low (length book) d d_low from.env from.root.0 u.0 rising low.env low.root u_low)) later);
  no_lets = no_lets_adapted (conclusion_of from) old.count i d u.0 it.plan to.step it.adapts;
  counted = it.counted;
}

module _ (old now new : state.Writer) (i : ℕ) (u : NodeId) (from : written.Conclusion) (sound : IsSound old) (u_low : u.0 < length old.laid.book) (same_steps : now.steps ≡ old.steps)
    (same_laid : now.laid ≡ old.laid) (fewer : ConcludesNoMore old now) where
  pub bound_taken : (x : ℕ) → get nat_cmp old.concluded i ≡ Some (Bound x) → new.laid ≡ now.laid → new.concluded ≡ now.concluded
      → AddsStep now.steps new.steps (a_step i rule.Var (entry x u.0 ∷ []) u.0) from → TakesStep old new i u from
  bound_taken x found laid concluded adds =
      let step = a_step i rule.Var (entry x u.0 ∷ []) u.0 in
      let it = subst (λ (s : Steps). AddsStep s new.steps step from) same_steps adds in
      record {
        own = a_binder x;
        known = ap (option_map concluded_of) found;
        plan = a_step_with step [] ∷ [];
        taken = (refl, λ n. record { number = (it.number ∙ sound.counted) n; type = (it.root n).0; env = it.env n; puts = it.puts n });
        adds = step_adds old.laid.book old.steps new.steps step from refl sound.counted it;
        stands = step_stands old.steps new.steps step from sound.counted it;
        rising = subst IsRising (sym it.env) (All-nil (λ (later : BinderNode). x < later.binder), tt);
        low = step_low (length old.laid.book) old.steps new.steps step from it u_low (entry_low (length old.laid.book) x u.0 u_low);
        laid = laid ∙ same_laid;
        fewer = λ j own known. fewer j own (sym (ap (λ m. get nat_cmp m j) concluded) ∙ known);
      }

  pub step_taken : get nat_cmp old.concluded i ≡ Some (Step from) → TakesStep old now i u from
  step_taken found = record {
    own = by_step (conclusion_of from);
    known = ap (option_map concluded_of) found;
    plan = [];
    taken = (refl, refl);
    adds = record {
      more = [];
      lines = (λ n. (same_steps n).lines) ∙ sym (append-nil old.steps.lines);
      are = λ later. refl;
      no_lets = tt;
      counted = subst AreCounted (sym same_steps) sound.counted;
    };
    stands = subst (λ (s : Steps). Stands (steps_of s.lines) from) (sym same_steps) (sound.have i from found);
    rising = sound.rising i from found;
    low = sound.low i from found;
    laid = same_laid;
    fewer = fewer;
  }

-- behind the step of a node, the lines that bring it to an environment and a type
pub taken_brings : (old now new : state.Writer) (i : ℕ) (d : List BinderNode) (u : NodeId) (from to : written.Conclusion) → IsSound old → HasLowEnv (length old.laid.book) d → u.0 < length old.laid.book
    → TakesStep old now i u from → AddsAdapted now.laid.book now.steps new.steps i from d u to → new.laid ≡ now.laid → new.concluded ≡ now.concluded → BringsNode old new i d u to.step
taken_brings old now new i d u from to sound d_low u_low it adapts laid concluded = record {
  own = it.own;
  known = it.known;
  plan = it.plan ++ adapts.plan;
  brought = by_own it.own it.plan it.taken (adds_steps old.laid.book old.steps now.steps it.plan it.adds);
  adds =
      adds_then old.laid.book old.steps now.steps new.steps it.plan adapts.plan it.adds
      (adapted_adds now.laid.book old.laid.book now.steps new.steps i from d u to (λ n. (it.laid n).book) sound.closed it.rising it.low d_low u_low adapts);
  laid = laid ∙ it.laid;
  fewer = λ j own known. it.fewer j own (sym (ap (λ m. get nat_cmp m j) concluded) ∙ known);
}
  where
    steps : List StepLine
    steps = steps_of old.steps.lines

    one_longer : (l : List StepLine) (step : StepLine) → length (l ++ step ∷ []) ≡ suc (length l)
    one_longer [] step = refl
    one_longer (first ∷ l) step = ap suc (one_longer l step)

    count : (plan : List PlannedLine) → steps_of now.steps.lines ≡ steps ++ planned_steps plan → now.steps.count ≡ length (steps ++ planned_steps plan)
    count plan is = it.adds.counted ∙ ap (λ (l : List StepLine). length l) is

    by_own : (own : Concluded) (plan : List PlannedLine) → IsTaken own (length steps) i u.0 plan (conclusion_of from) → steps_of now.steps.lines ≡ steps ++ planned_steps plan
        → IsBrought own (length steps) i d u.0 (plan ++ adapts.plan) to.step
    by_own (by_step c) plan (none, same) is =
        let at : now.steps.count ≡ length steps =
        count plan is ∙ (ap (λ (l : List PlannedLine). length (steps ++ planned_steps l)) none ∙ ap (λ (l : List StepLine). length l) (append-nil steps)) in
        subst (λ (l : List PlannedLine). IsAdapted c (length steps) i d u.0 (l ++ adapts.plan) to.step) (sym none)
        (subst (λ (s : Conclusion). IsAdapted s (length steps) i d u.0 adapts.plan to.step) same
        (subst (λ n. IsAdapted (conclusion_of from) n i d u.0 adapts.plan to.step) at adapts.adapts))
    by_own (a_binder x) plan (first, same) is =
        let step = a_step i rule.Var (entry x u.0 ∷ []) u.0 in
        let at : now.steps.count ≡ suc (length steps) =
        count plan is ∙ (ap (λ (l : List PlannedLine). length (steps ++ planned_steps l)) first ∙ one_longer steps step) in (
          adapts.plan,
          ap (λ (l : List PlannedLine). l ++ adapts.plan) first,
          subst (λ (s : Conclusion). IsAdapted s (suc (length steps)) i d u.0 adapts.plan to.step) same
              (subst (λ n. IsAdapted (conclusion_of from) n i d u.0 adapts.plan to.step) at adapts.adapts),
        )
