-- Steps that are written bring a conclusion to an environment and a type.
--     stays_adapted       no line
--     sub_adapted         a step by pairs
--     step_adds           a step that asks for no pair
--     adds_longer         lines that are added last in a longer book
use Rattle.std.proofs.Common.{◌≡◌, ℕ, suc, ◌+◌, ◌<◌, List, [], ◌∷◌, ◌++◌, length, refl, sym, ap, ◌∙◌, subst, arith, append-nil, append_assoc, get_or, length-append, Option}
use Rattle.std.specs.Prelude.{All}
use Rattle.std.proofs.lemmas.List.Elements.{All-nil}
use Rattle.mls_book.specs.declared.book.Node.{Node}
use Rattle.mls_book.specs.declared.book.NodeId.{NodeId}
use Rattle.mls_deriv.specs.declared.derivation.BinderNode.{BinderNode}
use Rattle.mls_deriv.specs.declared.derivation.SectionLine.TheVariants as line
use Rattle.mls_deriv.specs.declared.derivation.StepLine.{StepLine}
use Rattle.mls_deriv.specs.declared.derivation.StepRule.{StepRule}
use Rattle.mls_deriv.specs.declared.derivation.StepRule.TheVariants as rule
use Rattle.mls_deriv.specs.declared.claim.Pair.{Pair}
use Rattle.mls_deriv.specs.declared.claim.Put.{Put}
use Rattle.mls_deriv.specs.Pairs.{Claims, IsJustified}
use Rattle.mls_deriv.specs.Sections.{steps_of}
use Rattle.mls_lines.specs.declared.steps.Conclusion as written
use Rattle.mls_lines.specs.declared.steps.Steps.{Steps}
use Rattle.mls_lines.specs.Conclusions.{IsAdapted, as_it_is, by_pairs}
use Rattle.mls_layout.specs.Emitted.{asked_at, asked_after}
use Rattle.mls_pairs.specs.PairLists.{IsInside, IsPairList}
use Rattle.mls_layout.specs.Plans.{PlannedLine, AreLinesOf, StandBehind, a_step_with}
use Rattle.mls_layout.specs.Runs.{a_step, lines_of}
use Rattle.mls_lines.specs.Stepping.{conclusion_of, pairs_over, AddsStep, Adds, AddsSub, AreCounted, Stands, AddsAdapted}
use Rattle.mls_lines.proofs.FrontLists.{front_list}
use Rattle.mls_lines.proofs.OwnVariables.{puts_all_low}
use Rattle.mls_lines.proofs.Runs.{no_steps, steps_append}

-- a step by pairs asks for the pairs that go over from the step before
asked_is : (steps : List StepLine) (node : ℕ) (from : written.Conclusion) (d : List BinderNode) (u : NodeId) → Stands steps from
    → asked_at steps (a_step node (rule.Sub from.step) d u.0) ≡ pairs_over from.env d from.root.0 u.0
asked_is steps node from d u it =
    ap (λ (o : Option StepLine). asked_after o (a_step node (rule.Sub from.step) d u.0)) it.found
    ∙ (λ n. pairs_over (it.env n) d (it.root n).0 u.0)

one_more : (steps : List StepLine) (step : StepLine) → suc (length steps) ≡ length (steps ++ step ∷ [])
one_more [] step = refl
one_more (first ∷ steps) step = ap suc (one_more steps step)

-- no pair is asked for
no_pairs : (book : List Node) (puts : List Put) → IsPairList book puts [] []
no_pairs book puts = record {
  justified = All-nil (λ (pair : Pair). IsJustified book puts (Claims []) pair.mode pair.left pair.right);
  has = λ pair there. let low : there.0 < 0 = there.1 in absurd (omega arith);
}

-- nothing stands behind the step
nothing_behind : (r : StepRule) → StandBehind r [] []
nothing_behind rule.Var = (refl, refl)
nothing_behind (rule.Use s) = (refl, refl)
nothing_behind (rule.Name n) = (refl, refl)
nothing_behind rule.Lit = (refl, refl)
nothing_behind (rule.Fun s) = (refl, refl)
nothing_behind (rule.App s t) = (refl, refl)
nothing_behind (rule.Make numbers) = (refl, refl)
nothing_behind (rule.Proj s) = (refl, refl)
nothing_behind (rule.If s t u) = (refl, refl)
nothing_behind (rule.Let s t) = (refl, refl)
nothing_behind (rule.Rec s) = (refl, refl)
nothing_behind (rule.Sub s) = tt

-- nodes of a book are nodes of a longer one
longer_low : (book later : List Node) (i : ℕ) → i < length book → i < length (book ++ later)
longer_low book later i low = let all : length (book ++ later) ≡ length book + length later = length-append book later in omega (arith, all, low)

pairs_longer : (book later : List Node) (pairs : List Pair) → All (IsInside (length book)) pairs → All (IsInside (length (book ++ later))) pairs
pairs_longer book later pairs all = λ i d low. let both = all i d low in (longer_low book later (get_or pairs i d).left both.0, longer_low book later (get_or pairs i d).right both.1)

-- a step that asks for no pair
pub step_adds : (book : List Node) (old new : Steps) (step : StepLine) (c : written.Conclusion) → asked_at (steps_of old.lines) step ≡ [] → AreCounted old → AddsStep old new step c
    → Adds book old new (a_step_with step [] ∷ [])
step_adds book old new step c none counted it = record {
  more = line.Step step ∷ [];
  lines = it.lines;
  are = λ later. (
    [],
    [],
    record {
      list = subst (λ (l : List Pair). IsPairList (book ++ later) [] l []) (sym none) (no_pairs (book ++ later) []);
      inside = All-nil (IsInside (length (book ++ later)));
      low = All-nil (λ (put : Put). put.node < length (book ++ later));
      own = tt;
      behind = nothing_behind step.rule;
    },
    refl,
    refl,
  );
  no_lets = tt;
  counted =
      it.count
      ∙ (ap suc counted
      ∙ (one_more (steps_of old.lines) step
      ∙ ap (λ (l : List StepLine). length l) (sym (ap steps_of it.lines ∙ steps_append old.lines (line.Step step ∷ [])))));
}

-- lines that are added last in a longer book
pub adds_longer : (book more : List Node) (old new : Steps) (plan : List PlannedLine) → Adds book old new plan → Adds (book ++ more) old new plan
adds_longer book more old new plan it = record {
  more = it.more;
  lines = it.lines;
  are = λ later. subst (λ (b : List Node). AreLinesOf b (steps_of old.lines) plan it.more) (sym (append_assoc book more later)) (it.are (more ++ later));
  no_lets = it.no_lets;
  counted = it.counted;
}

module _ (book : List Node) (old : Steps) (node : ℕ) (from : written.Conclusion) (d : List BinderNode) (u : NodeId) where
  pub stays_adapted : AreCounted old → from.puts ≡ [] → from.root ≡ u → from.env ≡ d → AddsAdapted book old old node from d u from
  stays_adapted counted none same_root same_env = record {
    plan = [];
    adapts = as_it_is none (λ n. (same_root n).0) same_env;
    more = [];
    lines = sym (append-nil old.lines);
    lasting = λ closed low own asked later. refl;
    counted = counted;
    root = same_root;
    env = same_env;
    puts = none;
  }

  pub sub_adapted : (new : Steps) (c : written.Conclusion) → AreCounted old → Stands (steps_of old.lines) from → AddsSub book old new node from d u c → AddsAdapted book old new node from d u c
  sub_adapted new c counted stands it =
      let step = a_step node (rule.Sub from.step) d u.0 in
      let own = lines_of step from.puts it.pairs in
      record {
        plan = a_step_with step from.puts ∷ [];
        adapts = subst (λ z. IsAdapted (conclusion_of from) old.count node d u.0 (a_step_with step from.puts ∷ []) z) (sym it.number) by_pairs;
        more = own;
        lines = it.lines;
        lasting = λ closed low own_variables asked later. (
          it.pairs,
          [],
          record {
            list =
                subst (λ (l : List Pair). IsPairList (book ++ later) from.puts l it.pairs) (sym (asked_is (steps_of old.lines) node from d u stands))
                (front_list book later closed from.puts low (pairs_over from.env d from.root.0 u.0) it.pairs asked (it.inside closed.closed low asked) it.list);
            inside = pairs_longer book later it.pairs (it.inside closed.closed low asked);
            low = puts_all_low (length (book ++ later)) from.puts own_variables (λ x m found. longer_low book later m (low x m found));
            own = own_variables;
            behind = tt;
          },
          sym (append-nil own),
          refl,
        );
        counted =
            it.count
            ∙ (ap suc counted
            ∙ (one_more (steps_of old.lines) step
            ∙ ap (λ (l : List StepLine). length l) (sym (ap steps_of it.lines ∙ (steps_append old.lines own ∙ ap (λ (l : List StepLine). steps_of old.lines ++ step ∷ l) (no_steps from.puts it.pairs))))));
        root = it.root;
        env = it.env;
        puts = it.puts;
      }
