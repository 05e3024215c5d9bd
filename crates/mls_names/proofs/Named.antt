-- The term that a tree makes, and the names of a scope.
use Rattle.std.proofs.Common.{◌≡◌, ℕ, suc, ◌+◌, true, false, Bool, ◌||◌, cond, if◌then◌else◌, List, [], ◌∷◌, ◌++◌, refl, ap, ◌∙◌, Some, None, is_some, bytes_eq}
use Rattle.std.specs.Prelude.{Option, option_map, unwrap_or, find}
use Rattle.mls_term.specs.declared.term.TermNode.{TermNode}
use Rattle.mls_term.specs.declared.term.TermForm.TheVariants as form
use Rattle.mls_grammar.specs.Trees.{Tree, a_name, an_operator, a_number, a_truth, a_fun, a_fix, a_let, an_if, an_apply, a_make, a_project, Fields, no_field, a_field, before, field_nodes, field_roots}
use Rattle.mls_term.specs.Terms.{TermTree, TermFields, global, number, truth, fun, apply, make, project, choice, local, fix, postorder, field_postorder}
use Rattle.mls_term.specs.Terms as term
use Rattle.mls_names.specs.Resolution.{Meant, binder, let_number, scheme, Scope, meant_by, names_of, is_known, binders, lets}
use Rattle.mls_names.specs.steps.Meanings.{use_or_truth, resolved, resolved_fields}
use Rattle.mls_names.specs.steps.Walks.{use_form, with_unknown}

-- a name has a meaning exactly if it is one of the names of the scope
pub known : (scope : Scope) (x : List ℕ) → is_some (meant_by scope x) ≡ is_known (names_of scope) x
known [] x = refl
known (e ∷ es) x = by (bytes_eq e.0 x) (known es x)
  where
    by : (b : Bool) → is_some (meant_by es x) ≡ is_known (names_of es) x
        → is_some (option_map (λ (entry : List ℕ × Meant). entry.1) (cond b (Some e) (find (λ (entry : List ℕ × Meant). bytes_eq entry.0 x) es))) ≡ (b || is_known (names_of es) x)
    by true rest = refl
    by false rest = rest

-- what a name becomes, and whether its place is noted
pub name_node : (m : Option Meant) (at n : ℕ) (out : List TermNode) → record { at = at; form = unwrap_or (option_map use_form m) (form.Truth false) } ∷ out ≡ postorder n (use_or_truth at m) ++ out
unfolding postorder
name_node None at n out = refl
name_node (Some (binder x)) at n out = refl
name_node (Some (let_number k)) at n out = refl
name_node (Some (scheme g)) at n out = refl

pub name_noted : (m : Option Meant) (b : Bool) (at : ℕ) (places : List ℕ) → is_some m ≡ b → with_unknown (option_map use_form m) at places ≡ (if b then [] else at ∷ []) ++ places
name_noted None true at places e = absurd (cc)
name_noted None false at places e = refl
name_noted (Some m) true at places e = refl
name_noted (Some m) false at places e = absurd (cc)

before_name : (m : Option Meant) (at : ℕ) → term.before (use_or_truth at m) ≡ 0
unfolding term.before
before_name None at = refl
before_name (Some (binder x)) at = refl
before_name (Some (let_number k)) at = refl
before_name (Some (scheme g)) at = refl

-- a term has as many nodes as its tree
mutual
  unfolding term.before before

  pub before_is : (t : Tree) (scope : Scope) (b l : ℕ) → term.before (resolved scope b l t) ≡ before t
  before_is (a_name at x) scope b l = before_name (meant_by scope x) at
  before_is (an_operator at o) scope b l = refl
  before_is (a_number at value) scope b l = refl
  before_is (a_truth at value) scope b l = refl
  before_is (a_fun at x e) scope b l = ap (λ n. suc n) (before_is e ((x, binder b) ∷ scope) (suc b) l)
  before_is (a_fix at x e) scope b l = ap (λ n. suc n) (before_is e ((x, binder b) ∷ scope) (suc b) l)
  before_is (a_let at x e f) scope b l = λ i. suc (before_is e scope b (suc l) i) + suc (before_is f ((x, let_number l) ∷ scope) (b + binders e) (suc l + lets e) i)
  before_is (an_if at c e f) scope b l = λ i. suc (before_is c scope b l i) + suc (before_is e scope (b + binders c) (l + lets c) i) + suc (before_is f scope (b + binders c + binders e) (l + lets c + lets e) i)
  before_is (an_apply at f a) scope b l = λ i. suc (before_is f scope b l i) + suc (before_is a scope (b + binders f) (l + lets f) i)
  before_is (a_make at fields) scope b l = field_nodes_are fields scope b l
  before_is (a_project at e label) scope b l = ap (λ n. suc n) (before_is e scope b l)

  pub field_nodes_are : (fields : Fields) (scope : Scope) (b l : ℕ) → term.field_nodes (resolved_fields scope b l fields) ≡ field_nodes fields
  field_nodes_are no_field scope b l = refl
  field_nodes_are (a_field label e rest) scope b l = λ i. suc (before_is e scope b l i) + field_nodes_are rest scope (b + binders e) (l + lets e) i

pub field_roots_are : (fields : Fields) (n : ℕ) (scope : Scope) (b l : ℕ) → term.field_roots n (resolved_fields scope b l fields) ≡ field_roots n fields
unfolding term.field_roots field_roots
field_roots_are no_field n scope b l = refl
field_roots_are (a_field label e rest) n scope b l =
    let k = before_is e scope b l in
    (λ i. record { label = label; child = n + k i } ∷ term.field_roots (n + suc (k i)) (resolved_fields scope (b + binders e) (l + lets e) rest))
    ∙ ap (λ roots. record { label = label; child = n + before e } ∷ roots) (field_roots_are rest (n + suc (before e)) scope (b + binders e) (l + lets e))
