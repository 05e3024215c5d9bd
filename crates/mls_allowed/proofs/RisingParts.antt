-- Where binders rise inwards and names are in scope, so are they in each part of a term.
--     rises, fields_rise     the binders around a tree, and those in it
--     rising_term            a whole term
use Rattle.std.proofs.Common.{inl, inr, ℕ, ◌<◌, arith, List, [], ◌∷◌, ◌++◌, subst, Contains, All}
use Rattle.std.proofs.lemmas.List.Elements.{All-contains, Contains-append_left, Contains-append_right, Contains-push, Contains-push_cases}
use Rattle.mls_automaton.proofs.Lists.{All-contained, Contains-here, Contains-later, Contains-cases}
use Rattle.mls_term.specs.Terms.{TermTree, TermFields, bound, inner, global, number, truth, fun, apply, make, project, choice, local, fix, no_field, a_field}
use Rattle.mls_term.specs.declared.term.TermNode.{TermNode}
use Rattle.mls_term.specs.WellFormed.{binders_of, field_binders_of, IsScoped, AreScoped, IsTerm, HasRisingBinders, HaveRisingBinders, HasRisingTree}
use Rattle.mls_layout.proofs.WorkedParts.{nothing}
use Rattle.mls_layout.specs.PosedNodes.{IsNamed, IsRising, AreRising}
use Rattle.mls_allowed.specs.LetScopes.{HasScopes, HaveScopes}

module _ (let_scope : ℕ → List ℕ) (globals : ℕ) where
  -- what is around a tree: the binders in use are in scope, and so are those around each let in use
  pub record Around (binders lets scope : List ℕ) : Type 0 where
    pub binder : (x : ℕ) → Contains binders x → Contains scope x
    pub named : (k : ℕ) → Contains lets k → IsNamed let_scope scope k

  -- the binders of a list are higher than those around
  abbrev pub AreAbove : List ℕ → List ℕ → Type 0
  AreAbove scope inside = (y x : ℕ) → Contains scope y → Contains inside x → y < x

  above_left : (scope xs ys : List ℕ) → AreAbove scope (xs ++ ys) → AreAbove scope xs
  above_left scope xs ys above y x there inside = above y x there (Contains-append_left xs ys x inside)

  above_right : (scope xs ys : List ℕ) → AreAbove scope (xs ++ ys) → AreAbove scope ys
  above_right scope xs ys above y x there inside = above y x there (Contains-append_right xs ys x inside)

  -- in the body of a binder
  module _ (binders lets scope : List ℕ) (x : ℕ) (inside : List ℕ) (around : Around binders lets scope) (above : AreAbove scope (x ∷ inside)) (higher : All (λ y. x < y) inside) where
    body_around : Around (x ∷ binders) lets (scope ++ x ∷ [])
    body_around = record {
      binder = λ y there. elim (Contains-cases x binders y there) [
        | inl same ↦ subst (Contains (scope ++ x ∷ [])) same (Contains-push scope x)
        | inr later ↦ Contains-append_left scope (x ∷ []) y (around.binder y later)
      ];
      named = λ k there y at. Contains-append_left scope (x ∷ []) y (around.named k there y at);
    }

    body_above : AreAbove (scope ++ x ∷ []) inside
    body_above y z there at = elim (Contains-push_cases scope x y there) [
      | inl outer ↦ above y z outer (Contains-later x inside z at)
      | inr same ↦ subst (λ w. w < z) same (All-contains (λ w. x < w) inside z higher at)
    ]

    own_above : All (λ y. y < x) scope
    own_above = All-contained (λ y. y < x) scope (λ y there. above y x there (Contains-here x inside))

  mutual
    pub rises : (t : TermTree) (binders lets scope : List ℕ) → IsScoped binders lets globals t → HasRisingBinders t → HasScopes let_scope scope t → Around binders lets scope → AreAbove scope (binders_of t) → IsRising let_scope scope t
    rises (bound at x) binders lets scope scoped rising scopes around above = around.binder x scoped
    rises (inner at k) binders lets scope scoped rising scopes around above = around.named k scoped
    rises (global at g) binders lets scope scoped rising scopes around above = tt
    rises (number at value) binders lets scope scoped rising scopes around above = tt
    rises (truth at value) binders lets scope scoped rising scopes around above = tt
    rises (fun at x e) binders lets scope scoped rising scopes around above = (
      own_above binders lets scope x (binders_of e) around above rising.0,
      rises e (x ∷ binders) lets (scope ++ x ∷ []) scoped rising.1 scopes (body_around binders lets scope x (binders_of e) around above rising.0) (body_above binders lets scope x (binders_of e) around above rising.0),
    )
    rises (fix at x e) binders lets scope scoped rising scopes around above = (
      own_above binders lets scope x (binders_of e) around above rising.0,
      rises e (x ∷ binders) lets (scope ++ x ∷ []) scoped rising.1 scopes (body_around binders lets scope x (binders_of e) around above rising.0) (body_above binders lets scope x (binders_of e) around above rising.0),
    )
    rises (apply at e f) binders lets scope scoped rising scopes around above = (
      rises e binders lets scope scoped.0 rising.0 scopes.0 around (above_left scope (binders_of e) (binders_of f) above),
      rises f binders lets scope scoped.1 rising.1 scopes.1 around (above_right scope (binders_of e) (binders_of f) above),
    )
    rises (make at fields) binders lets scope scoped rising scopes around above = fields_rise fields binders lets scope scoped.1 rising scopes around above
    rises (project at e label) binders lets scope scoped rising scopes around above = rises e binders lets scope scoped rising scopes around above
    rises (choice at c e f) binders lets scope scoped rising scopes around above =
        let front : AreAbove scope (binders_of c ++ binders_of e) = above_left scope (binders_of c ++ binders_of e) (binders_of f) above in (
          rises c binders lets scope scoped.0 rising.0 scopes.0 around (above_left scope (binders_of c) (binders_of e) front),
          rises e binders lets scope scoped.1 rising.1 scopes.1 around (above_right scope (binders_of c) (binders_of e) front),
          rises f binders lets scope scoped.2 rising.2 scopes.2 around (above_right scope (binders_of c ++ binders_of e) (binders_of f) above),
        )
    rises (local at k e f) binders lets scope scoped rising scopes around above =
        let own : IsNamed let_scope scope k = λ x there. subst (λ (ys : List ℕ). Contains ys x) scopes.0 there in (
          own,
          rises f binders (k ∷ lets) scope scoped.1 rising.1 scopes.2
              (record {
                binder = around.binder;
                named = λ j there. elim (Contains-cases k lets j there) [
                  | inl same ↦ subst (IsNamed let_scope scope) same own
                  | inr later ↦ around.named j later
                ];
              })
              (above_right scope (binders_of e) (binders_of f) above),
        )

    fields_rise : (fields : TermFields) (binders lets scope : List ℕ) → AreScoped binders lets globals fields → HaveRisingBinders fields → HaveScopes let_scope scope fields → Around binders lets scope → AreAbove scope (field_binders_of fields)
        → AreRising let_scope scope fields
    fields_rise no_field binders lets scope scoped rising scopes around above = tt
    fields_rise (a_field label e rest) binders lets scope scoped rising scopes around above = (
      rises e binders lets scope scoped.0 rising.0 scopes.0 around (above_left scope (binders_of e) (field_binders_of rest) above),
      fields_rise rest binders lets scope scoped.1 rising.1 scopes.1 around (above_right scope (binders_of e) (field_binders_of rest) above),
    )

  pub nothing_around : Around [] [] []
  nothing_around = record { binder = λ x there. there; named = λ k there. absurd (let low : there.0 < 0 = there.1 in omega arith) }

-- so it is in a whole term of which the binders rise inwards
pub rising_term : (let_scope : ℕ → List ℕ) (globals : ℕ) (nodes : List TermNode) (binders lets : ℕ) (term : IsTerm globals nodes binders lets) → HasRisingTree nodes → HasScopes let_scope [] term.tree → IsRising let_scope [] term.tree
rising_term let_scope globals nodes binders lets term rising scopes =
    rises let_scope globals term.tree [] [] [] term.scoped (rising term.tree term.nodes_are) scopes (nothing_around let_scope globals) (λ y x there. absurd (nothing y there))
