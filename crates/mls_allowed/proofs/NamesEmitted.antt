-- The rows of names in a part: the rule of the name, and a step by which its type is below its copy in the constraint.
--     no_binder       the environment of no binder
--     global_row      a name of the environment
--     inner_row       a let-bound name
use Rattle.std.proofs.Common.{sym, ◌≡◌, ℕ, ◌+◌, ◌<◌, List, [], length, refl, slice_get, arith, Some}
use Rattle.std.specs.FinMap as env
use Rattle.std.specs.Ordering.{nat_cmp}
use Rattle.mls_book.specs.Books.{IsClosedBook}
use Rattle.mls_book.specs.Schemes.{Env, Scheme, IsScheme}
use Rattle.mls_automaton.specs.declared.automaton.Polarity.TheVariants.{Negative}
use Rattle.mls_automaton.specs.Automata.{Automaton}
use Rattle.mls_term.specs.declared.term.TermForm.TheVariants as form
use Rattle.mls_deriv.specs.declared.derivation.BinderNode.{BinderNode}
use Rattle.mls_deriv.specs.declared.derivation.StepLine.{StepLine}
use Rattle.mls_deriv.specs.declared.derivation.StepRule.TheVariants as rule
use Rattle.mls_deriv.specs.Steps.{HasFrom, env_of, form_at, Before, Says, use_let, use_name}
use Rattle.mls_layout.specs.Layouts.{IsLayout}
use Rattle.mls_layout.specs.Uses.{IsCopyOf}
use Rattle.mls_layout.specs.Runs.{id, a_step}
use Rattle.mls_layout.specs.Rows.{at, concluded, Fits, HasRow}
use Rattle.mls_allowed.proofs.Ends.{copied_part}
use Rattle.mls_allowed.proofs.Rows.{row_step, row_after}
use Rattle.mls_lines.proofs.Scopes.{found_back}

pub no_binder : (x i : ℕ) → env.get (env_of []) x ≡ Some i → ⊥
no_binder x i found = let it = (found_back (λ y. y) [] x i found).0 in let low : it.0 < 0 = it.1 in absurd (omega arith)

module _ (b : Before) (a type_of_part : Automaton) (R IsPair : ℕ → ℕ → Type 0) (place part_place : ℕ → ℕ) (layout : IsLayout b.book a type_of_part R IsPair place part_place) where
  module _ (IsPlace : ℕ → Type 0) (root : ℕ) (it : IsCopyOf b.book a place IsPlace root) (steps : List StepLine) (e : ℕ) (wider : List BinderNode) (fits : Fits b wider (place (it.copy root))) where
    -- the steps that the row of a name consists of, after the rule of the name
    after_rule : (d : Env) → (row : HasRow b steps e d (it.known_place root)) → IsScheme (concluded b d (it.known_place root))
        → ((x k : ℕ) → env.get d x ≡ Some k → (s : ℕ) × (k ≡ it.known_place s) × IsPlace s × (it.sign s ≡ Negative) × (env.get (env_of wider) x ≡ Some (place (it.copy s))))
        → HasRow b steps e (env_of wider) (place (it.copy root))
    after_rule d row is binders =
        row_after b steps row.more e (env_of wider) (place (it.copy root)) row.leads
        (copied_part b a type_of_part R IsPair place part_place layout IsPlace it.sign it.known_place it.copy it.type it.puts it.are it.low
        row.more row.number e d root wider it.at_top it.is_positive row.says is fits binders)

    -- the book of the name's scheme stands from the node n on
    pub global_row : (g n : ℕ) (s : Scheme) → form_at b.term_nodes e ≡ Some (form.Global g) → slice_get b.globals g ≡ Some s → HasFrom b.book n s.book
        → it.known_place root ≡ n + s.root → it.known_place root < length b.book → IsClosedBook b.book
        → HasRow b steps e (env_of wider) (place (it.copy root))
    global_row g n s is_form found from same low closed_book =
        let t = it.known_place root in
        let is : IsScheme (concluded b (env_of []) t) = record { book = closed_book; root = low; env = λ x i found. absurd (no_binder x i found) } in
        after_rule (env_of [])
        (row_step b steps (a_step e (rule.Name (id n)) [] t) []
        (λ pairs list. record { in_range = is; rising = tt; by_rule = use_name (id n) g s refl is_form found from refl same }))
        is (λ x k found. absurd (no_binder x k found))

    -- The first part of the let has its type at an earlier step. Its binders have the nodes of places of its type, and the copies of these
    -- are the states of the binders.
    pub inner_row : (k number part : ℕ) (d : List BinderNode) → form_at b.term_nodes e ≡ Some (form.Inner k) → env.find nat_cmp k b.lets ≡ Some number
        → Says (at b steps) number part (concluded b (env_of d) (it.known_place root)) → Fits b d (it.known_place root)
        → ((x i : ℕ) → env.get (env_of d) x ≡ Some i → (s : ℕ) × (i ≡ it.known_place s) × IsPlace s × (it.sign s ≡ Negative) × (env.get (env_of wider) x ≡ Some (place (it.copy s))))
        → HasRow b steps e (env_of wider) (place (it.copy root))
    inner_row k number part d is_form found says fits_first binders =
        after_rule (env_of d)
        (row_step b steps (a_step e (rule.Use number) d (it.known_place root)) []
        (λ pairs list. record { in_range = fits_first.scheme; rising = fits_first.rising; by_rule = use_let number k says.step refl is_form found says.stands (sym says.concludes) }))
        fits_first.scheme binders
