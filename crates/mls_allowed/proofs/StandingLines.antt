-- The lines of a plan stand where they may, where they are allowed and the let lines of the plan stand.
--     rule_in_range       what an allowed step names is there
--     lines_stand
use Rattle.std.proofs.Common.{◌≡◌, ◌⊎◌, inl, inr, ℕ, suc, ◌+◌, ◌<◌, List, [], ◌∷◌, ◌++◌, length, refl, sym, ap, ◌∙◌, subst, arith, append_assoc, length-append, Contains, Some, None}
use Rattle.std.specs.Prelude.{All, IsSome, option_map}
use Rattle.std.proofs.lemmas.List.Elements.{All-nil, All-cons, All-head, All-tail}
use Rattle.std.proofs.lemmas.Option.{slice_get_within}
use Rattle.mls_automaton.proofs.Lists.{Contains-cases, Contains-here, Contains-later}
use Rattle.mls_book.specs.declared.book.Field.{Field}
use Rattle.mls_book.specs.Schemes.{Scheme}
use Rattle.mls_term.specs.declared.term.Part.{Part}
use Rattle.mls_deriv.specs.declared.claim.Pair.{Pair}
use Rattle.mls_deriv.specs.declared.claim.Put.{Put}
use Rattle.mls_deriv.specs.declared.derivation.SectionLine.{SectionLine}
use Rattle.mls_deriv.specs.declared.derivation.SectionLine.TheVariants as line
use Rattle.mls_deriv.specs.declared.derivation.StepLine.{StepLine}
use Rattle.mls_deriv.specs.declared.derivation.StepRule.{StepRule}
use Rattle.mls_deriv.specs.declared.derivation.StepRule.TheVariants as rule
use Rattle.mls_deriv.specs.Pairs.{put_at}
use Rattle.mls_deriv.specs.Sections.{after_let, after_step, AreAllowed}
use Rattle.mls_deriv.specs.Steps.{conclusion, AllSay, Before, IsAllowed, IsAllowedByRule, Says, var, use_let, use_name, lit_number, lit_truth, fun, app, make, proj, choice, let_in, fix, sub}
use Rattle.mls_deriv.specs.Texts as text
use Rattle.mls_deriv.specs.Texts.{puts_behind, AllStand, Given, IsRuleInRange, Stands}
use Rattle.mls_layout.specs.Plans.{PlannedLine, a_let, a_step_with, AreLinesOf, HaveOwnVariables, LetsStand, StandBehind}
use Rattle.mls_layout.specs.Runs.{id, lines_of, pair_lines, put_lines}
use Rattle.mls_lines.proofs.LowNodes.{entries_low}
use Rattle.mls_lines.proofs.PutLists.{put_found}
use Rattle.mls_pairs.specs.PairLists.{IsInside}

-- what an allowed step names is there
module _ (b : Before) where
  abbrev IsEarlier : ℕ → Type 0
  IsEarlier s = s < length b.steps

  says_earlier : (number part : ℕ) (s : Scheme) → Says b number part s → IsEarlier number
  says_earlier number part s it = slice_get_within b.steps number it.step it.stands

  all_earlier : (numbers : List ℕ) (parts : List Part) (s : Scheme) (fields : List Field) → AllSay b numbers parts s fields → All IsEarlier numbers
  all_earlier [] [] s fields it = All-nil IsEarlier
  all_earlier [] (part ∷ parts) s fields it = absurd it
  all_earlier (number ∷ numbers) [] s fields it = absurd it
  all_earlier (number ∷ numbers) (part ∷ parts) s fields it = All-cons IsEarlier number numbers (says_earlier number part.child _ it.0.2) (all_earlier numbers parts s fields it.1)

  one : (s : ℕ) → IsEarlier s → All IsEarlier (s ∷ [])
  one s low = All-cons IsEarlier s [] low (All-nil IsEarlier)

  two : (s t : ℕ) → IsEarlier s → IsEarlier t → All IsEarlier (s ∷ t ∷ [])
  two s t first second = All-cons IsEarlier s (t ∷ []) first (one t second)

  module _ (puts : List Put) (pairs : List Pair) (step : StepLine) (root : step.root.0 < length b.book) where
    abbrev InRange : StepRule → Type 0
    InRange r = IsRuleInRange (length b.book) (length b.steps) r

    by_rule_in_range : IsAllowedByRule b puts pairs step (conclusion b.book step) → InRange step.rule
    by_rule_in_range (var x is form env) = subst InRange (sym is) (All-nil IsEarlier)
    by_rule_in_range (use_let number k first is form found at same) = subst InRange (sym is) (one number (slice_get_within b.steps number first at))
    by_rule_in_range (use_name n g u is form global from env type) =
        subst InRange (sym is)
        (let at : step.root.0 ≡ n.0 + u.root = type in let low : step.root.0 < length b.book = root in omega (arith, at, low))
    by_rule_in_range (lit_number value is form env type) = subst InRange (sym is) (All-nil IsEarlier)
    by_rule_in_range (lit_truth value is form env type) = subst InRange (sym is) (All-nil IsEarlier)
    by_rule_in_range (fun number x body d i j is form env takes type says) = subst InRange (sym is) (one number (says_earlier number body _ says))
    by_rule_in_range (app first second function argument f i is form type says also) =
        subst InRange (sym is) (two first second (says_earlier first function _ says) (says_earlier second argument _ also))
    by_rule_in_range (make numbers parts fields is form type labels empty says) = subst InRange (sym is) (all_earlier numbers parts _ fields says)
    by_rule_in_range (proj number body i label field is form type same to says) = subst InRange (sym is) (one number (says_earlier number body _ says))
    by_rule_in_range (choice first second third condition on other i is form type says also too) =
        subst InRange (sym is)
        (All-cons IsEarlier first (second ∷ third ∷ []) (says_earlier first condition _ says) (two second third (says_earlier second on _ also) (says_earlier third other _ too)))
    by_rule_in_range (let_in first second k e e' d1 d2 t1 is form found meet says also) =
        subst InRange (sym is) (two first second (says_earlier first e _ says) (says_earlier second e' _ also))
    by_rule_in_range (fix number x body d is form env type says) = subst InRange (sym is) (one number (says_earlier number body _ says))
    by_rule_in_range (sub number first is says low justified claims kept) = subst InRange (sym is) (one number (says_earlier number step.node first says))

  pub rule_in_range : (puts : List Put) (pairs : List Pair) (step : StepLine) → IsAllowed b puts pairs step → IsRuleInRange (length b.book) (length b.steps) step.rule
  rule_in_range puts pairs step it = by_rule_in_range puts pairs step it.in_range.root it.by_rule

  step_stands : (puts : List Put) (pairs : List Pair) (step : StepLine) (g : Given) → g.steps ≡ length b.steps → IsAllowed b puts pairs step → Stands (length b.book) g (line.Step step)
  step_stands puts pairs step g count it = (
    subst (λ n. IsRuleInRange (length b.book) n step.rule) (sym count) (rule_in_range puts pairs step it),
    entries_low (length b.book) step.env it.rising it.in_range.env,
    it.in_range.root,
  )

-- the put lines and the pair lines behind a step
module _ (n : ℕ) (rest : List SectionLine) where
  pairs_stand : (pairs : List Pair) (g : Given) → IsSome g.puts → All (IsInside n) pairs → AllStand n g rest → AllStand n g (pair_lines pairs ++ rest)
  pairs_stand [] g some inside next = next
  pairs_stand (pair ∷ pairs) g some inside next =
      let both = All-head (IsInside n) pair pairs inside in
      ((both.0, both.1, some), pairs_stand pairs g some (All-tail (IsInside n) pair pairs inside) next)

  abbrev IsLow : Put → Type 0
  IsLow put = put.node < n

  puts_stand : (pairs : List Pair) → All (IsInside n) pairs → (puts : List Put) (g : Given) (xs : List ℕ) → g.puts ≡ Some xs → HaveOwnVariables puts → ((put : Put) → Contains puts put → Contains xs put.variable → ⊥) → All IsLow puts
      → ((h : Given) → h.steps ≡ g.steps → h.lets ≡ g.lets → AllStand n h rest) → AllStand n g (put_lines puts ++ (pair_lines pairs ++ rest))
  puts_stand pairs inside [] g xs is own fresh low next = pairs_stand pairs g (subst IsSome (sym is) refl) inside (next g refl refl)
  puts_stand pairs inside (put ∷ puts) g xs is own fresh low next = (
    (All-head IsLow put puts low, (xs, is, fresh put (Contains-here put puts))),
    puts_stand pairs inside puts (text.after g (line.Put put.variable (id put.node))) (put.variable ∷ xs) (ap (option_map (λ ys. put.variable ∷ ys)) is) own.1 still_fresh (All-tail IsLow put puts low) next,
  )
    where
      still_fresh : (other : Put) → Contains puts other → Contains (put.variable ∷ xs) other.variable → ⊥
      still_fresh other there again = elim (Contains-cases put.variable xs other.variable again) [
        | inl same ↦ (
            let found = put_found puts other there in
            let none : put_at puts other.variable ≡ None = ap (put_at puts) (sym same) ∙ own.0 in
            absurd (let wrong : None ≡ Some found.0 = sym none ∙ found.1 in cc))
        | inr earlier ↦ fresh other (Contains-later put puts other there) earlier
      ]

  behind_cases : (r : StepRule) (puts : List Put) (pairs : List Pair) → StandBehind r puts pairs → (puts_behind r ≡ Some []) ⊎ ((puts ≡ []) × (pairs ≡ []))
  behind_cases rule.Var puts pairs it = inr it
  behind_cases (rule.Use s) puts pairs it = inr it
  behind_cases (rule.Name m) puts pairs it = inr it
  behind_cases rule.Lit puts pairs it = inr it
  behind_cases (rule.Fun s) puts pairs it = inr it
  behind_cases (rule.App s t) puts pairs it = inr it
  behind_cases (rule.Make numbers) puts pairs it = inr it
  behind_cases (rule.Proj s) puts pairs it = inr it
  behind_cases (rule.If s t u) puts pairs it = inr it
  behind_cases (rule.Let s t) puts pairs it = inr it
  behind_cases (rule.Rec s) puts pairs it = inr it
  behind_cases (rule.Sub s) puts pairs it = inl refl

  behind_stand : (step : StepLine) (puts : List Put) (pairs : List Pair) (g : Given) → g.puts ≡ puts_behind step.rule → StandBehind step.rule puts pairs → HaveOwnVariables puts → All IsLow puts → All (IsInside n) pairs
      → ((h : Given) → h.steps ≡ g.steps → h.lets ≡ g.lets → AllStand n h rest) → AllStand n g ((put_lines puts ++ pair_lines pairs) ++ rest)
  behind_stand step puts pairs g behind it own low inside next = elim (behind_cases step.rule puts pairs it) [
    | inl some ↦ subst (AllStand n g) (sym (append_assoc (put_lines puts) (pair_lines pairs) rest))
        (puts_stand pairs inside puts g [] (behind ∙ some) own (λ put there given. absurd (let none : given.0 < 0 = given.1 in omega arith)) low next)
    | inr none ↦ subst (λ (l : List Put). AllStand n g ((put_lines l ++ pair_lines pairs) ++ rest)) (sym none.0)
        (subst (λ (l : List Pair). AllStand n g (pair_lines l ++ rest)) (sym none.1) (next g refl refl))
  ]

  -- what is allowed behind them
  allowed_pairs : (pairs : List Pair) (b : Before) → AreAllowed b (pair_lines pairs ++ rest) → AreAllowed b rest
  allowed_pairs [] b it = it
  allowed_pairs (pair ∷ pairs) b it = allowed_pairs pairs b it

  allowed_behind : (puts : List Put) (pairs : List Pair) (b : Before) → AreAllowed b ((put_lines puts ++ pair_lines pairs) ++ rest) → AreAllowed b rest
  allowed_behind [] pairs b it = allowed_pairs pairs b it
  allowed_behind (put ∷ puts) pairs b it = allowed_behind puts pairs b it

one_longer : (steps : List StepLine) (step : StepLine) → length (steps ++ step ∷ []) ≡ suc (length steps)
one_longer steps step = let all : length (steps ++ step ∷ []) ≡ length steps + 1 = length-append steps (step ∷ []) in omega (arith, all)

pub lines_stand : (plan : List PlannedLine) (b : Before) (lines : List SectionLine) (g : Given) → g.steps ≡ length b.steps → LetsStand g.steps g.lets plan → AreLinesOf b.book b.steps plan lines → AreAllowed b lines
    → AllStand (length b.book) g lines
lines_stand [] b lines g count lets are allowed = subst (AllStand (length b.book) g) (sym are) tt
lines_stand (a_step_with step puts ∷ plan) b lines g count lets (pairs, rest, has, is, are) allowed =
    subst (AllStand (length b.book) g) (sym is) (
      step_stands b _ _ step g count here.0,
      behind_stand (length b.book) rest step puts pairs (text.after g (line.Step step)) refl has.behind has.own has.low has.inside
          (λ h steps same_lets.
          lines_stand plan (after_step b step) rest h (steps ∙ (ap suc count ∙ sym (one_longer b.steps step)))
          (subst (λ k. LetsStand k h.lets plan) (sym steps) (subst (λ (l : List ℕ). LetsStand (suc g.steps) l plan) (sym same_lets) lets)) are (allowed_behind (length b.book) rest puts pairs (after_step b step) here.1)),
    )
  where
    here : AreAllowed b (lines_of step puts pairs ++ rest)
    here = subst (AreAllowed b) is allowed
lines_stand (a_let k number ∷ plan) b lines g count lets (rest, is, are) allowed =
    subst (AllStand (length b.book) g) (sym is)
    ((lets.0, lets.1), lines_stand plan (after_let b k number) rest (text.after g (line.Let k number)) count lets.2 are (subst (AreAllowed b) is allowed))
