-- The rows: best schemes of the parts of an expression give the types that it has.
--     row_types       an expression that is no let has just the types of its row
--     row_best, row_none      so a scheme that allows just these is best, and where there are none the expression has none
--     let_best        the same of a let
use Rattle.std.proofs.Common.{◌≡◌, ◌↔◌, ℕ, suc, ◌+◌, false, List, [], ◌∷◌}
use Rattle.std.specs.Prelude.{Option}
use Rattle.mls_book.specs.Predicates.{Predicate, arrow, rcd, bool, top}
use Rattle.mls_book.specs.Schemes.{Scheme, IsScheme}
use Rattle.mls_term.specs.Terms.{TermTree, TermFields, bound, inner, global, number, truth, fun, apply, make, project, choice, local, fix, no_field, a_field, before}
use Rattle.mls_term.specs.Derivations.{Known, with_let, IsBest, HasNone}
use Rattle.mls_term.specs.WellFormed.{early_parts, field_parts}
use Rattle.mls_term.specs.TypingLaws.{AreSchemes}
use Rattle.mls_typing.specs.Typed.{with_binder, IsTyped, Allows, AllOf, EachHas, OfFun, OfApply, OfMake, one_field, OfProject, OfChoice, OfFix, OfLet}
use Rattle.mls_typing.specs.Runs.{is_let, Row, Solves, IsUnsolvable}
use Rattle.mls_typing.proofs.Instances.{best_allows, best_by_types, none_by_types}
use Rattle.mls_typing.proofs.TypedForms.{typed_number, typed_truth, typed_bound, generated, rule_allows}
use Rattle.mls_typing.proofs.TypedParts.{typed_inner, typed_global, typed_fun, typed_fix}
use Rattle.mls_typing.proofs.TypedUses.{typed_apply, typed_project, typed_choice}
use Rattle.mls_typing.proofs.TypedMake.{typed_make}
use Rattle.mls_typing.proofs.TypedLet.{typed_let}

-- two ways to have types that are the same
abbrev pub IsSame : ((ℕ → Predicate) → Predicate → Type 0) → ((ℕ → Predicate) → Predicate → Type 0) → Type 0
IsSame A B = (types : ℕ → Predicate) (f : Predicate) → A types f ↔ B types f

-- a row depends on nothing else of its parts
pub fun_same : (x : ℕ) (A B : (ℕ → Predicate) → Predicate → Type 0) → IsSame A B → IsSame (OfFun x A) (OfFun x B)
fun_same x A B same types f = (
  λ h. record { domain = h.domain; codomain = h.codomain; domain_is = h.domain_is; codomain_is = h.codomain_is; body = (same (with_binder types x h.domain) h.codomain).0 h.body; below = h.below },
  λ h. record { domain = h.domain; codomain = h.codomain; domain_is = h.domain_is; codomain_is = h.codomain_is; body = (same (with_binder types x h.domain) h.codomain).1 h.body; below = h.below },
)

pub fix_same : (x : ℕ) (A B : (ℕ → Predicate) → Predicate → Type 0) → IsSame A B → IsSame (OfFix x A) (OfFix x B)
fix_same x A B same types f = (
  λ h. record { body_type = h.body_type; is = h.is; body = (same (with_binder types x h.body_type) h.body_type).0 h.body; below = h.below },
  λ h. record { body_type = h.body_type; is = h.is; body = (same (with_binder types x h.body_type) h.body_type).1 h.body; below = h.below },
)

pub apply_same : (A B A' B' : (ℕ → Predicate) → Predicate → Type 0) → IsSame A B → IsSame A' B' → IsSame (OfApply A A') (OfApply B B')
apply_same A B A' B' same same' types f = (
  λ h. record { domain = h.domain; codomain = h.codomain; domain_is = h.domain_is; codomain_is = h.codomain_is; function = (same types (arrow h.domain h.codomain)).0 h.function; argument = (same' types h.domain).0 h.argument; below = h.below },
  λ h. record { domain = h.domain; codomain = h.codomain; domain_is = h.domain_is; codomain_is = h.codomain_is; function = (same types (arrow h.domain h.codomain)).1 h.function; argument = (same' types h.domain).1 h.argument; below = h.below },
)

pub project_same : (label : List ℕ) (A B : (ℕ → Predicate) → Predicate → Type 0) → IsSame A B → IsSame (OfProject label A) (OfProject label B)
project_same label A B same types f = (
  λ h. record { field = h.field; field_is = h.field_is; body = (same types (rcd (one_field label h.field))).0 h.body; below = h.below },
  λ h. record { field = h.field; field_is = h.field_is; body = (same types (rcd (one_field label h.field))).1 h.body; below = h.below },
)

pub choice_same : (A B A' B' A'' B'' : (ℕ → Predicate) → Predicate → Type 0) → IsSame A B → IsSame A' B' → IsSame A'' B'' → IsSame (OfChoice A A' A'') (OfChoice B B' B'')
choice_same A B A' B' A'' B'' same same' same'' types f = (
  λ h. record { branch = h.branch; branch_is = h.branch_is; condition = (same types bool).0 h.condition; first = (same' types h.branch).0 h.first; second = (same'' types h.branch).0 h.second; below = h.below },
  λ h. record { branch = h.branch; branch_is = h.branch_is; condition = (same types bool).1 h.condition; first = (same' types h.branch).1 h.first; second = (same'' types h.branch).1 h.second; below = h.below },
)

pub let_same : (A B A' B' : (ℕ → Predicate) → Predicate → Type 0) → IsSame A B → IsSame A' B' → IsSame (OfLet A A') (OfLet B B')
let_same A B A' B' same same' types f = (
  λ h. record { first = (same types top).0 h.first; second = (same' types f).0 h.second },
  λ h. record { first = (same types top).1 h.first; second = (same' types f).1 h.second },
)

pub make_same : (parts : TermFields) (Each Every : (ℕ → Predicate) → (List ℕ → Option Predicate) → Type 0) → ((types : ℕ → Predicate) (fields : List ℕ → Option Predicate) → Each types fields ↔ Every types fields) → IsSame (OfMake parts Each) (OfMake parts Every)
make_same parts Each Every same types f = (
  λ h. record { book = h.book; closed = h.closed; fields = h.fields; rising = h.rising; within = h.within; labels = h.labels; each = (same types _).0 h.each; below = h.below },
  λ h. record { book = h.book; closed = h.closed; fields = h.fields; rising = h.rising; within = h.within; labels = h.labels; each = (same types _).1 h.each; below = h.below },
)

-- each part has a best scheme
abbrev pub AllBest : Known → List (ℕ × TermTree) → List Scheme → Type 0
AllBest known [] [] = Unit {0}
AllBest known (part ∷ parts) (s ∷ ss) = (IsScheme s × IsBest known part.1 s) × AllBest known parts ss
AllBest known _ _ = ⊥

fields_same : (known : Known) (n : ℕ) (parts : TermFields) (ss : List Scheme) → AllBest known (field_parts n parts) ss → (types : ℕ → Predicate) (fields : List ℕ → Option Predicate)
    → AllOf (λ e ts g. IsTyped known ts e g) parts types fields ↔ EachHas Allows parts ss types fields
fields_same known n no_field [] all types fields = (λ h. h, λ h. h)
fields_same known n no_field (s ∷ ss) all types fields = absurd all
fields_same known n (a_field label e rest) [] all types fields = absurd all
fields_same known n (a_field label e rest) (s ∷ ss) all types fields =
    let later = fields_same known (n + suc (before e)) rest ss all.1 types fields in (
      λ h. ((h.0.0, h.0.1, (best_allows known e s all.0.0 all.0.1 types h.0.0).0 h.0.2), later.0 h.1),
      λ h. ((h.0.0, h.0.1, (best_allows known e s all.0.0 all.0.1 types h.0.0).1 h.0.2), later.1 h.1),
    )

pub both_ways : {A B C : Type 0} → A ↔ B → B ↔ C → A ↔ C
both_ways first second = (λ a. second.0 (first.0 a), λ c. first.1 (second.1 c))

-- what a known name has
inner_types : (known : Known) → AreSchemes known → (at k : ℕ) (types : ℕ → Predicate) (f : Predicate) → IsTyped known types (inner at k) f ↔ Row known (inner at k) [] types f
inner_types known all at k types f = (
  λ h. let a : Allows (generated known types (inner at k) f h).first types f = rule_allows known types (inner at k) f h in
      ((generated known types (inner at k) f h).first, (generated known types (inner at k) f h).rule, a),
  λ h. (typed_inner known all types f at k h.0 h.1).1 h.2,
)

global_types : (known : Known) → AreSchemes known → (at k : ℕ) (types : ℕ → Predicate) (f : Predicate) → IsTyped known types (global at k) f ↔ Row known (global at k) [] types f
global_types known all at k types f = (
  λ h. let a : Allows (generated known types (global at k) f h).first types f = rule_allows known types (global at k) f h in
      ((generated known types (global at k) f h).first, (generated known types (global at k) f h).rule, a),
  λ h. (typed_global known all types f at k h.0 h.1).1 h.2,
)

-- an expression that is no let has just the types of its row
pub row_types : (known : Known) → AreSchemes known → (n : ℕ) (t : TermTree) (ss : List Scheme) → is_let t ≡ false → AllBest known (early_parts n t) ss → IsSame (λ types f. IsTyped known types t f) (Row known t ss)
row_types known all n (inner at k) [] plain each types f = inner_types known all at k types f
row_types known all n (inner at k) (s ∷ ss) plain each types f = absurd each
row_types known all n (global at k) [] plain each types f = global_types known all at k types f
row_types known all n (global at k) (s ∷ ss) plain each types f = absurd each
row_types known all n (bound at x) [] plain each types f = typed_bound known types f at x
row_types known all n (bound at x) (s ∷ ss) plain each types f = absurd each
row_types known all n (number at value) [] plain each types f = typed_number known types f at value
row_types known all n (number at value) (s ∷ ss) plain each types f = absurd each
row_types known all n (truth at value) [] plain each types f = typed_truth known types f at value
row_types known all n (truth at value) (s ∷ ss) plain each types f = absurd each
row_types known all n (fun at x e) [] plain each types f = absurd each
row_types known all n (fun at x e) (s ∷ []) plain each types f =
    both_ways (typed_fun known all types f at x e)
    (fun_same x (λ ts g. IsTyped known ts e g) (Allows s) (best_allows known e s each.0.0 each.0.1) types f)
row_types known all n (fun at x e) (s ∷ t ∷ ss) plain each types f = absurd each.1
row_types known all n (apply at e e') [] plain each types f = absurd each
row_types known all n (apply at e e') (s ∷ []) plain each types f = absurd each.1
row_types known all n (apply at e e') (s ∷ t ∷ []) plain each types f =
    both_ways (typed_apply known all types f at e e')
    (apply_same (λ ts g. IsTyped known ts e g) (Allows s) (λ ts g. IsTyped known ts e' g) (Allows t) (best_allows known e s each.0.0 each.0.1) (best_allows known e' t each.1.0.0 each.1.0.1) types f)
row_types known all n (apply at e e') (s ∷ t ∷ u ∷ ss) plain each types f = absurd each.1.1
row_types known all n (make at parts) ss plain each types f =
    both_ways (typed_make known all types f at parts)
    (make_same parts (AllOf (λ e ts g. IsTyped known ts e g) parts) (EachHas Allows parts ss) (fields_same known n parts ss each) types f)
row_types known all n (project at e label) [] plain each types f = absurd each
row_types known all n (project at e label) (s ∷ []) plain each types f =
    both_ways (typed_project known all types f at e label)
    (project_same label (λ ts g. IsTyped known ts e g) (Allows s) (best_allows known e s each.0.0 each.0.1) types f)
row_types known all n (project at e label) (s ∷ t ∷ ss) plain each types f = absurd each.1
row_types known all n (choice at c e e') [] plain each types f = absurd each
row_types known all n (choice at c e e') (r ∷ []) plain each types f = absurd each.1
row_types known all n (choice at c e e') (r ∷ s ∷ []) plain each types f = absurd each.1.1
row_types known all n (choice at c e e') (r ∷ s ∷ t ∷ []) plain each types f =
    both_ways (typed_choice known all types f at c e e')
    (choice_same (λ ts g. IsTyped known ts c g) (Allows r) (λ ts g. IsTyped known ts e g) (Allows s) (λ ts g. IsTyped known ts e' g) (Allows t)
    (best_allows known c r each.0.0 each.0.1) (best_allows known e s each.1.0.0 each.1.0.1) (best_allows known e' t each.1.1.0.0 each.1.1.0.1) types f)
row_types known all n (choice at c e e') (r ∷ s ∷ t ∷ u ∷ ss) plain each types f = absurd each.1.1.1
row_types known all n (local at k e e') ss plain each types f = absurd (cc)
row_types known all n (fix at x e) [] plain each types f = absurd each
row_types known all n (fix at x e) (s ∷ []) plain each types f =
    both_ways (typed_fix known all types f at x e)
    (fix_same x (λ ts g. IsTyped known ts e g) (Allows s) (best_allows known e s each.0.0 each.0.1) types f)
row_types known all n (fix at x e) (s ∷ t ∷ ss) plain each types f = absurd each.1

-- a scheme that allows just the types of the row is best
pub row_best : (known : Known) → AreSchemes known → (n : ℕ) (t : TermTree) (ss : List Scheme) (s : Scheme) → is_let t ≡ false → AllBest known (early_parts n t) ss → Solves (Row known t ss) s → IsBest known t s
row_best known all n t ss s plain each solves = best_by_types known t s all solves.is (λ types f. both_ways (row_types known all n t ss plain each types f) (solves.just types f))

-- and without such types the expression has no scheme
pub row_none : (known : Known) → AreSchemes known → (n : ℕ) (t : TermTree) (ss : List Scheme) → is_let t ≡ false → AllBest known (early_parts n t) ss → IsUnsolvable (Row known t ss) → HasNone known t
row_none known all n t ss plain each unsolvable = none_by_types known t all (λ types f h. unsolvable types f ((row_types known all n t ss plain each types f).0 h))

-- the same of a let, whose second part has a best scheme by that of the first
pub let_best : (known : Known) → AreSchemes known → (at k : ℕ) (e e' : TermTree) (r s u : Scheme) → IsScheme r → IsBest known e r → IsScheme s → IsBest (with_let known k r) e' s → Solves (OfLet (Allows r) (Allows s)) u → IsBest known (local at k e e') u
let_best known all at k e e' r s u is_r best_r is_s best_s solves =
    best_by_types known (local at k e e') u all solves.is
    (λ types f.
    both_ways (typed_let known all types f at k e e' r is_r best_r)
    (both_ways
    (let_same (Allows r) (Allows r) (λ ts g. IsTyped (with_let known k r) ts e' g) (Allows s) (λ ts g. (λ h. h, λ h. h)) (best_allows (with_let known k r) e' s is_s best_s) types f)
    (solves.just types f)))
