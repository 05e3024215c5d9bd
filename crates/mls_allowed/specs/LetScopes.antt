-- The binders around the lets of a term.
use Rattle.std.specs.Prelude.{◌≡◌, ℕ, List, [], ◌∷◌, ◌++◌}
use Rattle.mls_term.specs.Terms.{TermTree, TermFields, bound, inner, global, number, truth, fun, apply, make, project}
use Rattle.mls_term.specs.Terms.{choice, local, fix, no_field, a_field}

-- each let of a tree has the binders around it, of which those of the scope are around the tree
module _ (let_scope : ℕ → List ℕ) where
  abbrev mutual
    pub HasScopes : List ℕ → TermTree → Type 0
    HasScopes scope (bound at x) = Unit {0}
    HasScopes scope (inner at k) = Unit {0}
    HasScopes scope (global at g) = Unit {0}
    HasScopes scope (number at value) = Unit {0}
    HasScopes scope (truth at value) = Unit {0}
    HasScopes scope (fun at x e) = HasScopes (scope ++ x ∷ []) e
    HasScopes scope (apply at e f) = HasScopes scope e × HasScopes scope f
    HasScopes scope (make at fields) = HaveScopes scope fields
    HasScopes scope (project at e label) = HasScopes scope e
    HasScopes scope (choice at c e f) = HasScopes scope c × HasScopes scope e × HasScopes scope f
    HasScopes scope (local at k e f) = (let_scope k ≡ scope) × HasScopes scope e × HasScopes scope f
    HasScopes scope (fix at x e) = HasScopes (scope ++ x ∷ []) e

    pub HaveScopes : List ℕ → TermFields → Type 0
    HaveScopes scope no_field = Unit {0}
    HaveScopes scope (a_field label e rest) = HasScopes scope e × HaveScopes scope rest
