-- Sections whose lines are those of a plan.
--     goes_then, row_goes, let_goes       plans one after the other, that of a row, and a let line
--     let_known, let_kept what is known of lets behind a first part and its let line
--     lets_emitted        the first parts of all lets, in order
--     section_allowed     a plan that ends with the row of the whole term, at the type that was read
--     section_emitted     a section with lets
use Rattle.std.proofs.Common.{◌≡◌, ◌≢◌, ◌⊎◌, inl, inr, ℕ, suc, ◌<◌, List, [], ◌∷◌, ◌++◌, length, refl, sym, ◌∙◌, ap, subst, append-nil, append_assoc, arith, Bool, true, false, Some, None, cond}
use Rattle.std.specs.Prelude.{Contains}
use Rattle.std.proofs.lemmas.List.Elements.{All-contains, Contains-push_cases}
use Rattle.std.specs.FinMap as env
use Rattle.std.specs.Ordering.{nat_cmp, eq_by_cmp}
use Rattle.mls_book.specs.Schemes.{Env, Scheme}
use Rattle.mls_term.specs.declared.term.ResolvedBinding.{ResolvedBinding}
use Rattle.mls_typetext.specs.declared.scheme.ReadScheme.{ReadScheme}
use Rattle.mls_deriv.specs.declared.derivation.Section.{Section}
use Rattle.mls_deriv.specs.declared.derivation.SectionLine.{SectionLine}
use Rattle.mls_deriv.specs.declared.derivation.SectionLine.TheVariants as line
use Rattle.mls_deriv.specs.declared.derivation.StepLine.{StepLine}
use Rattle.mls_deriv.specs.Steps.{Before}
use Rattle.mls_deriv.specs.Sections.{after_let, AreAllowed, at_start, IsHeadRead, IsSectionAllowed}
use Rattle.mls_layout.specs.Lets.{FirstPart, KnowsLet, KnowsLets, after, HasRowWhere, HaveRows, HaveOwnNumbers}
use Rattle.mls_layout.specs.Rows.{at, concluded, HasRow}
use Rattle.mls_layout.specs.Runs.{BeginsAnew, IsRun}
use Rattle.mls_layout.specs.Plans.{PlannedLine, a_let, planned_steps, AreLinesOf}
use Rattle.mls_allowed.proofs.Plans.{lines_split}
use Rattle.mls_lines.proofs.Bringing.{planned_append}
use Rattle.mls_lines.proofs.Runs.{nothing_run, run_then}
use Rattle.mls_lines.proofs.Scopes.{itself_key, same_key}

-- the scheme of a let number is the conclusion of a step
pub let_run : (b : Before) (k number : ℕ) → IsRun b (line.Let k number ∷ []) (after_let b k number)
let_run b k number = record {
  steps = sym (append-nil b.steps);
  anew = λ rest anew. record { puts = refl; pairs = refl };
  allowed = λ rest anew all. all;
}

-- A plan leads from one place of a section to another, whichever lists of pairs its steps have.
pub record Goes (b : Before) (steps : List StepLine) (lets : List (ℕ × ℕ)) (more : List StepLine) (others : List (ℕ × ℕ)) (plan : List PlannedLine) : Type 0 where
  pub adds : more ≡ steps ++ planned_steps plan
  pub run : (lines : List SectionLine) → AreLinesOf b.book steps plan lines → IsRun (after b steps lets) lines (after b more others)

module _ (b : Before) where
  pub goes_still : (steps : List StepLine) (lets : List (ℕ × ℕ)) → Goes b steps lets steps lets []
  goes_still steps lets = record {
    adds = sym (append-nil steps);
    run = λ lines are. subst (λ (l : List SectionLine). IsRun (after b steps lets) l (after b steps lets)) (sym are) (nothing_run (after b steps lets));
  }

  pub goes_then : (steps more last : List StepLine) (lets others final : List (ℕ × ℕ)) (plan next : List PlannedLine)
      → Goes b steps lets more others plan → Goes b more others last final next → Goes b steps lets last final (plan ++ next)
  goes_then steps more last lets others final plan next first second = record {
    adds =
        second.adds
        ∙ (ap (λ (l : List StepLine). l ++ planned_steps next) first.adds
        ∙ (append_assoc steps (planned_steps plan) (planned_steps next)
        ∙ ap (λ (l : List StepLine). steps ++ l) (sym (planned_append plan next))));
    run =
        λ lines are.
        let it = lines_split b.book next plan steps lines are in
        subst (λ (l : List SectionLine). IsRun (after b steps lets) l (after b last final)) (sym it.same)
        (run_then (after b steps lets) (after b more others) (after b last final) it.first it.rest (first.run it.first it.are)
        (second.run it.rest (subst (λ (l : List StepLine). AreLinesOf b.book l next it.rest) (sym first.adds) it.later)));
  }

  pub row_goes : (steps : List StepLine) (lets : List (ℕ × ℕ)) (part : ℕ) (d : Env) (t : ℕ) → (row : HasRow (after b steps lets) steps part d t)
      → Goes b steps lets row.more lets row.leads.plan
  row_goes steps lets part d t row = record { adds = row.leads.adds; run = row.leads.run }

  pub let_goes : (steps : List StepLine) (lets : List (ℕ × ℕ)) (k number : ℕ) → Goes b steps lets steps (lets ++ (k, number) ∷ []) (a_let k number ∷ [])
  let_goes steps lets k number = record {
    adds = sym (append-nil steps);
    run =
        λ lines are.
        subst (λ (l : List SectionLine). IsRun (after b steps lets) l (after b steps (lets ++ (k, number) ∷ [])))
        (sym (are.1 ∙ ap (λ (l : List SectionLine). line.Let k number ∷ l) are.2)) (let_run (after b steps lets) k number);
  }

pub find_last : (lets : List (ℕ × ℕ)) (k n : ℕ) → env.find nat_cmp k lets ≡ None → env.find nat_cmp k (lets ++ (k, n) ∷ []) ≡ Some n
find_last [] k n none_yet = ap (λ t. cond t (Some n) None) (itself_key k)
find_last (entry ∷ lets) k n none_yet = go (eq_by_cmp nat_cmp k entry.0) none_yet (find_last lets k n)
  where
    go : (t : Bool) → cond t (Some entry.1) (env.find nat_cmp k lets) ≡ None → (env.find nat_cmp k lets ≡ None → env.find nat_cmp k (lets ++ (k, n) ∷ []) ≡ Some n)
        → cond t (Some entry.1) (env.find nat_cmp k (lets ++ (k, n) ∷ [])) ≡ Some n
    go true e later = absurd (cc)
    go false e later = later e

pub find_kept : (lets more : List (ℕ × ℕ)) (k n : ℕ) → env.find nat_cmp k lets ≡ Some n → env.find nat_cmp k (lets ++ more) ≡ Some n
find_kept [] more k n found = absurd (cc)
find_kept (entry ∷ lets) more k n found = go (eq_by_cmp nat_cmp k entry.0) found (find_kept lets more k n)
  where
    go : (t : Bool) → cond t (Some entry.1) (env.find nat_cmp k lets) ≡ Some n → (env.find nat_cmp k lets ≡ Some n → env.find nat_cmp k (lets ++ more) ≡ Some n)
        → cond t (Some entry.1) (env.find nat_cmp k (lets ++ more)) ≡ Some n
    go true e later = e
    go false e later = later e

pub find_other : (lets : List (ℕ × ℕ)) (k n l : ℕ) → env.find nat_cmp l lets ≡ None → (k ≡ l → ⊥) → env.find nat_cmp l (lets ++ (k, n) ∷ []) ≡ None
find_other [] k n l none_yet other = go (eq_by_cmp nat_cmp l k) refl
  where
    go : (t : Bool) → eq_by_cmp nat_cmp l k ≡ t → cond t (Some n) None ≡ None
    go true e = absurd (other (sym (same_key l k e)))
    go false e = refl
find_other (entry ∷ lets) k n l none_yet other = go (eq_by_cmp nat_cmp l entry.0) none_yet (λ e. find_other lets k n l e other)
  where
    go : (t : Bool) → cond t (Some entry.1) (env.find nat_cmp l lets) ≡ None → (env.find nat_cmp l lets ≡ None → env.find nat_cmp l (lets ++ (k, n) ∷ []) ≡ None)
        → cond t (Some entry.1) (env.find nat_cmp l (lets ++ (k, n) ∷ [])) ≡ None
    go true e later = absurd (cc)
    go false e later = later e

-- the new let is known, and those before stay so
pub let_known : (c : Before) (first : FirstPart) → env.find nat_cmp first.number c.lets ≡ None → (row : HasRow c c.steps first.part first.env first.type)
    → KnowsLet (after_let (at c row.more) first.number row.number) first
let_known c first none_yet row = record {
  number = row.number;
  found = find_last c.lets first.number row.number none_yet;
  says = record { step = row.says.step; stands = row.says.stands; about = row.says.about; concludes = row.says.concludes };
}

pub let_kept : (c : Before) (first : FirstPart) (row : HasRow c c.steps first.part first.env first.type) (known : FirstPart) → KnowsLet c known
    → KnowsLet (after_let (at c row.more) first.number row.number) known
let_kept c first row known it =
    let says = row.leads.kept it.number known.part (concluded c known.env known.type) it.says in
    record {
      number = it.number;
      found = find_kept c.lets ((first.number, row.number) ∷ []) known.number it.number it.found;
      says = record { step = says.step; stands = says.stands; about = says.about; concludes = says.concludes };
    }

-- A plan of first parts in order, each with its let line: behind it all these lets are known.
pub record HasLetPlan (b : Before) (steps : List StepLine) (lets : List (ℕ × ℕ)) (firsts : List FirstPart) : Type 0 where
  pub plan : List PlannedLine
  pub more : List StepLine
  pub others : List (ℕ × ℕ)
  pub goes : Goes b steps lets more others plan
  pub knows : KnowsLets (after b more others) firsts

-- by induction over the first parts
pub lets_emitted : (b : Before) (known firsts : List FirstPart) (steps : List StepLine) (lets : List (ℕ × ℕ)) → KnowsLets (after b steps lets) known
    → HaveOwnNumbers firsts → ((first : FirstPart) → Contains firsts first → env.find nat_cmp first.number lets ≡ None)
    → HaveRows b known firsts → HasLetPlan b steps lets (known ++ firsts)
lets_emitted b known [] steps lets knows own new rows = record {
  plan = [];
  more = steps;
  others = lets;
  goes = goes_still b steps lets;
  knows = subst (KnowsLets (after b steps lets)) (sym (append-nil known)) knows;
}
lets_emitted b known (first ∷ firsts) steps lets knows own new rows =
    joined
    (lets_emitted b (known ++ first ∷ []) firsts row.more (lets ++ (first.number, row.number) ∷ [])
    (λ other there. now_known other (Contains-push_cases known first other there)) own.1 still_new rows.1)
  where
    c : Before
    c = after b steps lets

    row : HasRow c c.steps first.part first.env first.type
    row = rows.0 steps lets knows

    is_new : env.find nat_cmp first.number lets ≡ None
    is_new = new first (0, omega arith, refl)

    now_known : (other : FirstPart) → Contains known other ⊎ (first ≡ other) → KnowsLet (after b row.more (lets ++ (first.number, row.number) ∷ [])) other
    now_known other (inl there) = let_kept c first row other (knows other there)
    now_known other (inr same) = subst (KnowsLet (after b row.more (lets ++ (first.number, row.number) ∷ []))) same (let_known c first is_new row)

    still_new : (other : FirstPart) → Contains firsts other → env.find nat_cmp other.number (lets ++ (first.number, row.number) ∷ []) ≡ None
    still_new other there =
        find_other lets first.number row.number other.number
        (new other (suc there.0, (let low : there.0 < length firsts = there.1 in omega arith), there.2))
        (All-contains (λ (z : FirstPart). first.number ≢ z.number) firsts other own.0 there)

    joined : HasLetPlan b row.more (lets ++ (first.number, row.number) ∷ []) ((known ++ first ∷ []) ++ firsts) → HasLetPlan b steps lets (known ++ first ∷ firsts)
    joined next = record {
      plan = (row.leads.plan ++ a_let first.number row.number ∷ []) ++ next.plan;
      more = next.more;
      others = next.others;
      goes =
          goes_then b steps row.more next.more lets (lets ++ (first.number, row.number) ∷ []) next.others
          (row.leads.plan ++ a_let first.number row.number ∷ []) next.plan
          (goes_then b steps row.more row.more lets lets (lets ++ (first.number, row.number) ∷ []) row.leads.plan (a_let first.number row.number ∷ [])
          (row_goes b steps lets first.part first.env first.type row) (let_goes b row.more lets first.number row.number))
          next.goes;
      knows = subst (KnowsLets (after b next.more next.others)) (append_assoc known (first ∷ []) firsts) next.knows;
    }

nothing_after : BeginsAnew []
nothing_after = record { puts = refl; pairs = refl }

-- A section whose lines are those of the plan of its lets and then of the row of the whole term.
pub section_allowed : (globals : List Scheme) (binding : ResolvedBinding) (section : Section) (read : ReadScheme) → IsHeadRead section read → section.name ≡ binding.name
    → (plan : List PlannedLine) (steps : List StepLine) (lets : List (ℕ × ℕ)) (e : ℕ) (d : Env) → Goes (at_start globals binding section) [] [] steps lets plan
    → (row : HasRow (after (at_start globals binding section) steps lets) steps e d read.root.0)
    → suc e ≡ length binding.term.nodes → d ≡ env.empty → AreLinesOf section.nodes [] (plan ++ row.leads.plan) section.lines
    → IsSectionAllowed globals binding section read
section_allowed globals binding section read head name plan steps lets e d first row is_root empty are = record {
  head = head;
  lines = subst (AreAllowed b) (append-nil section.lines) (run.allowed [] nothing_after tt);
  end = record {
    name = name;
    earlier = row.ends.earlier;
    last = row.ends.last;
    last_is = sym run.steps ∙ row.ends.is;
    root = ap suc row.ends.about ∙ is_root;
    env = row.ends.env ∙ empty;
    type = row.ends.root;
  };
}
  where
    b : Before
    b = at_start globals binding section

    run : IsRun b section.lines (after b row.more lets)
    run = (goes_then b [] steps row.more [] lets lets plan row.leads.plan first (row_goes b steps lets e d read.root.0 row)).run section.lines are

-- A section of which each first part and the whole term have a row where the lets before are known.
pub section_emitted : (globals : List Scheme) (binding : ResolvedBinding) (section : Section) (read : ReadScheme) → IsHeadRead section read → section.name ≡ binding.name
    → (firsts : List FirstPart) → HaveOwnNumbers firsts → HaveRows (at_start globals binding section) [] firsts
    → (e : ℕ) → HasRowWhere (at_start globals binding section) firsts e env.empty read.root.0 → suc e ≡ length binding.term.nodes
    → (plan : List PlannedLine) × (AreLinesOf section.nodes [] plan section.lines → IsSectionAllowed globals binding section read)
section_emitted globals binding section read head name firsts own rows e whole is_root = (
  all.plan ++ row.leads.plan,
  λ are. section_allowed globals binding section read head name all.plan all.more all.others e env.empty all.goes row is_root refl are,
)
  where
    b : Before
    b = at_start globals binding section

    all : HasLetPlan b [] [] firsts
    all =
        lets_emitted b [] firsts [] []
        (λ first there. absurd (let low : there.0 < 0 = there.1 in omega arith)) own (λ first there. refl) rows

    row : HasRow (after b all.more all.others) all.more e env.empty read.root.0
    row = whole all.more all.others all.knows
