use Rattle.std.proofs.Common.{◌≡◌, ◌++◌, ◌∷◌, [], List, ℕ, Some, None, bytes_eq, sym, ap, ◌∙◌, rules, subst, length}
use Rattle.std.specs.List.{position_or_len}
use Rattle.std.specs.Option.{option_copied}
use Rattle.std.specs.Ordering.{nat_cmp}
use Rattle.std.specs.Cmp.Lexicographic.{slice_cmp}
use Rattle.std.specs.BTreeMap.{get, Updates}
use Rattle.mls_typetext.specs.steps.Variables.{with_name, number_in, AreNumbers}
use Rattle.mls_typetext.proofs.VariableNumbers.{at, none, number_added, with_known, with_unknown, on_ok}
use Rattle.mls_typetext.proofs.variables.Variables.number_of.Goals as goal

pub returns-in-Some-clause-number : goal.returns-in-Some-clause-number
returns-in-Some-clause-number c =
    let known : number_in c.self.inside.names.items c.args.name ≡ Some c.in-Some.number.now = sym (c.self.invariant c.args.name) ∙ (sym c.get.ensures.value ∙ ap option_copied c.in-Some.is) in
    (at c.self.inside.names.items c.args.name c.in-Some.number.now known).place ∙ ap (position_or_len (bytes_eq c.args.name)) c.self.view_is

pub returns-in-Some-clause-names : goal.returns-in-Some-clause-names
returns-in-Some-clause-names c =
    let known : number_in c.self.inside.names.items c.args.name ≡ Some c.in-Some.number.now = sym (c.self.invariant c.args.name) ∙ (sym c.get.ensures.value ∙ ap option_copied c.in-Some.is) in
    subst (λ names. names ≡ with_name names c.args.name) c.self.view_is (sym (with_known c.self.inside.names.items c.args.name c.in-Some.number.now known))

pub invariant_of-self-else-is_err : goal.invariant_of-self-else-is_err
invariant_of-self-else-is_err c =
    let before : List (List ℕ) = c.self.inside.names.items in
    let unknown : get (slice_cmp nat_cmp) c.self.inside.numbers c.args.name ≡ None = search rules in
    let size : c.len-number.result ≡ length before = search rules in
    let updates : Updates (slice_cmp nat_cmp) c.self.inside.numbers c.insert.new.self c.args.name (Some c.len-number.result) =
    on_ok c.insert.result _ (sym c.is_err.ensures.value ∙ c.if-is_err.false) c.insert.ensures.updates in
    let grown : c.push.new.self.items ≡ before ++ c.args.name ∷ [] = c.in_ok-push.ensures.items ∙ ap (λ x. before ++ x ∷ []) c.in_ok-copy_of.ensures in
    subst (λ names. AreNumbers names c.insert.new.self) (sym grown)
    (number_added before c.self.inside.numbers c.insert.new.self c.args.name c.self.invariant (sym (c.self.invariant c.args.name) ∙ unknown)
    (subst (λ n. Updates (slice_cmp nat_cmp) c.self.inside.numbers c.insert.new.self c.args.name (Some n)) size updates))

pub returns-clause-number : goal.returns-clause-number
returns-clause-number c =
    let unknown : get (slice_cmp nat_cmp) c.self.inside.numbers c.args.name ≡ None = search rules in
    let size : c.len-number.result ≡ length c.self.inside.names.items = search rules in
    size
    ∙ (sym (none c.self.inside.names.items c.args.name (sym (c.self.invariant c.args.name) ∙ unknown)).place
    ∙ ap (position_or_len (bytes_eq c.args.name)) c.self.view_is)

pub returns-clause-names : goal.returns-clause-names
returns-clause-names c =
    let unknown : get (slice_cmp nat_cmp) c.self.inside.numbers c.args.name ≡ None = search rules in
    c.in_ok-push.ensures.items
    ∙ (ap (λ x. c.self.inside.names.items ++ x ∷ []) c.in_ok-copy_of.ensures
    ∙ (sym (with_unknown c.self.inside.names.items c.args.name (sym (c.self.invariant c.args.name) ∙ unknown))
    ∙ ap (λ names. with_name names c.args.name) c.self.view_is))
