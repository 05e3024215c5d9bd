-- An expression has no scheme where a part of it has none.
use Rattle.std.proofs.Common.{◌≡◌, ℕ, suc, ◌+◌, List, subst}
use Rattle.std.specs.Prelude.{Contains}
use Rattle.std.specs.List.{AllByRecursion}
use Rattle.std.proofs.lemmas.List.Elements.{All-contains, All-from_recursion}
use Rattle.mls_book.specs.declared.book.Field.{Field}
use Rattle.mls_book.specs.Schemes.{Scheme}
use Rattle.mls_term.specs.Terms.{TermTree, TermFields, bound, inner, global, number, truth, fun, apply, make, project, choice, local, fix, no_field, a_field, before}
use Rattle.mls_term.specs.Derivations.{Known, with_let, over, Derives, AllDerive, none, more, IsBest, HasNone}
use Rattle.mls_term.specs.WellFormed.{early_parts, field_parts}
use Rattle.mls_term.specs.TypingLaws.{AreSchemes}
use Rattle.mls_term.proofs.Rules.{ByRule, ByLet, Generated, generation}
use Rattle.mls_term.proofs.Metatheory.{AreSchemes-let, derived_scheme, IsMoreGeneral-refl, IsMoreGeneral-let, more_general_derives}

-- a part has a scheme
abbrev HasOne : Known → ℕ × TermTree → Type 0
HasOne known part = (s : Scheme) × Derives known part.1 s

fields_have : (known : Known) (n : ℕ) (parts : TermFields) (s : Scheme) (fields : List Field) → AllDerive known parts s fields → AllByRecursion (HasOne known) (field_parts n parts)
fields_have known n no_field s fields h = tt
fields_have known n (a_field label e rest) s fields (none empty) = absurd (cc)
fields_have known n (a_field label e rest) s fields (more label' body rest' i same has h others) =
    let body_is : body ≡ e = cc in
    let rest_is : rest' ≡ rest = cc in
    let Has : TermTree → Type 0 = λ t. Derives known t (over s s.env i.0) in
    let Have : TermFields → Type 0 = λ ts. AllDerive known ts s fields in
    ((over s s.env i.0, subst Has body_is h), fields_have known (n + suc (before e)) rest s fields (subst Have rest_is others))

rule_has : (known : Known) (n : ℕ) (t : TermTree) (s : Scheme) → ByRule known t s → AllByRecursion (HasOne known) (early_parts n t)
rule_has known n (inner at k) s h = tt
rule_has known n (global at g) s h = tt
rule_has known n (bound at x) s h = tt
rule_has known n (truth at value) s h = tt
rule_has known n (number at value) s h = tt
rule_has known n (fun at x e) s h = ((over s h.d h.j.0, h.body_has), tt)
rule_has known n (apply at f a) s h = ((over s s.env h.f, h.function_has), ((over s s.env h.i.0, h.argument_has), tt))
rule_has known n (make at parts) s h = fields_have known n parts s h.fields h.parts_have
rule_has known n (project at e label) s h = ((over s s.env h.i, h.body_has), tt)
rule_has known n (choice at c e f) s h = ((over s s.env h.i, h.condition_has), ((s, h.first_has), ((s, h.second_has), tt)))
rule_has known n (local at k e f) s h = ((over s h.d1 h.t1, h.first_has), tt)
rule_has known n (fix at x e) s h = ((over s h.d s.root, h.body_has), tt)

-- if a part that is no second part of a let has no scheme, neither has the whole
pub part_fails : (known : Known) (n m : ℕ) (t e : TermTree) → Contains (early_parts n t) (m, e) → HasNone known e → HasNone known t
part_fails known n m t e part has_none s h =
    let g : Generated known t s = generation known t s h in
    let one : HasOne known (m, e) = All-contains (HasOne known) (early_parts n t) (m, e) (All-from_recursion (HasOne known) (early_parts n t) (rule_has known n t g.first g.rule)) part in
    has_none one.0 one.1

-- if the second part of a let has no scheme where its name has a best scheme of the first part, neither has the let
pub second_fails : (known : Known) (at k : ℕ) (first second : TermTree) (s : Scheme) → AreSchemes known → IsBest known first s → HasNone (with_let known k s) second → HasNone known (local at k first second)
second_fails known at k first second s all best has_none u h =
    let g : Generated known (local at k first second) u = generation known (local at k first second) u h in
    let rule : ByLet known k first second g.first = g.rule in
    let s1 = over g.first rule.d1 rule.t1 in
    has_none (over g.first rule.d2 g.first.root)
    (more_general_derives (with_let known k s) (with_let known k s1) second (over g.first rule.d2 g.first.root)
    (IsMoreGeneral-let known known k s s1 (IsMoreGeneral-refl known) (best.least s1 rule.first_has))
    (AreSchemes-let known k s1 all (derived_scheme known first s1 all rule.first_has))
    rule.second_has)
