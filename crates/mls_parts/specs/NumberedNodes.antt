-- Parts of a term by the numbers of their nodes, and by the binders around them.
use Rattle.std.specs.Prelude.{◌≡◌, ◌≢◌, ℕ, suc, ◌+◌, List, Contains, Some}
use Rattle.std.specs.List.{AllPairs}
use Rattle.mls_term.specs.declared.term.TermForm.{TermForm}
use Rattle.mls_term.specs.declared.term.TermForm.TheVariants as form
use Rattle.mls_term.specs.declared.term.TermNode.{TermNode}
use Rattle.mls_term.specs.Terms.{TermTree, TermFields, bound, inner, global, number, truth, fun, apply, make, project}
use Rattle.mls_term.specs.Terms.{choice, local, fix, no_field, a_field, before, field_roots}
use Rattle.mls_term.specs.WellFormed.{IsScoped, binders_of}
use Rattle.mls_deriv.specs.Steps.{form_at}

-- the number behind a tree whose first node has the number n
abbrev pub behind : ℕ → TermTree → ℕ
behind n t = n + suc (before t)

-- The nodes of a tree, of which the first has the number n, are in postorder.
module _ (nodes : List TermNode) where
  -- its root has this form
  abbrev pub HasRoot : ℕ → TermTree → TermForm → Type 0
  HasRoot n t f = form_at nodes (n + before t) ≡ Some f

  abbrev mutual
    pub IsNumbered : ℕ → TermTree → Type 0
    IsNumbered n (bound at x) = HasRoot n (bound at x) (form.Bound x)
    IsNumbered n (inner at k) = HasRoot n (inner at k) (form.Inner k)
    IsNumbered n (global at g) = HasRoot n (global at g) (form.Global g)
    IsNumbered n (number at value) = HasRoot n (number at value) (form.Number value)
    IsNumbered n (truth at value) = HasRoot n (truth at value) (form.Truth value)
    IsNumbered n (fun at x e) = HasRoot n (fun at x e) (form.Fun x (n + before e)) × IsNumbered n e
    IsNumbered n (apply at e f) =
        HasRoot n (apply at e f) (form.Apply (n + before e) (behind n e + before f))
        × IsNumbered n e × IsNumbered (behind n e) f
    IsNumbered n (make at fields) =
        HasRoot n (make at fields) (form.Make (field_roots n fields)) × AreNumbered n fields
    IsNumbered n (project at e label) =
        HasRoot n (project at e label) (form.Project (n + before e) label) × IsNumbered n e
    IsNumbered n (choice at c e f) =
        HasRoot n (choice at c e f)
        (form.If (n + before c) (behind n c + before e) (behind (behind n c) e + before f))
        × IsNumbered n c × IsNumbered (behind n c) e × IsNumbered (behind (behind n c) e) f
    IsNumbered n (local at k e f) =
        HasRoot n (local at k e f) (form.Let k (n + before e) (behind n e + before f))
        × IsNumbered n e × IsNumbered (behind n e) f
    IsNumbered n (fix at x e) = HasRoot n (fix at x e) (form.Rec x (n + before e)) × IsNumbered n e

    -- the parts of a record
    pub AreNumbered : ℕ → TermFields → Type 0
    AreNumbered n no_field = Unit {0}
    AreNumbered n (a_field label e rest) = IsNumbered n e × AreNumbered (behind n e) rest

-- The nodes of a part have the numbers from n on. Its names are in scope under these binders, none of which is bound
-- in it, and no binder is bound in it twice.
pub record IsPlaced (nodes : List TermNode) (scope : List ℕ) (n : ℕ) (t : TermTree) : Type 0 where
  pub numbers : IsNumbered nodes n t
  pub lets : List ℕ
  pub globals : ℕ
  pub scoped : IsScoped scope lets globals t
  pub once : AllPairs (λ x y. x ≢ y) (binders_of t)
  pub apart : (x : ℕ) → Contains scope x → Contains (binders_of t) x → ⊥
