-- The kind of a node's first clash is that over merged schemes of its parts.
--     kind_merged
use Rattle.std.proofs.Common.{◌≡◌, inl, inr, ℕ, ◌≤◌, List, [], ◌∷◌, length, refl, sym, ap, subst}
use Rattle.mls_automaton.specs.declared.scheme.Scheme.{Scheme}
use Rattle.mls_term.specs.declared.term.TermForm.{TermForm}
use Rattle.mls_term.specs.declared.term.TermForm.TheVariants as form
use Rattle.mls_infer.specs.declared.fault.SiteKind.{SiteKind}
use Rattle.mls_infer.specs.Constraints.{Constraint, apply_constraint, choice_constraint, fix_constraint, project_constraint, turned_constraint}
use Rattle.mls_infer.specs.Forms.{IsPosed}
use Rattle.mls_infer.specs.Merges.{AreMergedSchemes}
use Rattle.mls_infer.specs.Solved.{GoalsOf, IsFirstKind}
use Rattle.mls_infer.proofs.MergedKinds.{apply_merged, choice_merged, fix_merged, no_first_kind, project_merged, turned_merged}
use Rattle.mls_infer.proofs.SideBySide.{AllHaveStates}

-- it is the kind of a constraint's first clash
abbrev pub IsKindOf : SiteKind → Constraint → Type 0
IsKindOf m c = IsFirstKind c.scheme.automaton (GoalsOf c) m

module _ (m : SiteKind) where
  abbrev kind_at : (c d : Constraint) → c ≡ d → IsKindOf m c → IsKindOf m d
  kind_at c d is = subst (IsKindOf m) is

  -- where there are no goals, nothing clashes
  no_kind : (c : Constraint) → c.goals ≡ [] → IsKindOf m c → ⊥
  no_kind c none first = no_first_kind c.scheme.automaton c none m first

  goals_same : (c d : Constraint) → c ≡ d → c.goals ≡ d.goals
  goals_same c d is = ap (λ (c : Constraint). c.goals) is

  pub kind_merged : (node : TermForm) (ss ms : List Scheme) (c : Constraint) → AllHaveStates ss → AreMergedSchemes ss ms → IsPosed node ss c → IsKindOf m c
      → (d : Constraint) × IsPosed node ms d × IsKindOf m d
  kind_merged (form.Bound x) [] ms c are merged posed first = absurd (no_kind c (goals_same c _ posed) first)
  kind_merged (form.Bound x) (s ∷ ss) ms c are merged posed first = absurd posed
  kind_merged (form.Number value) [] ms c are merged posed first = absurd (no_kind c (goals_same c _ posed) first)
  kind_merged (form.Number value) (s ∷ ss) ms c are merged posed first = absurd posed
  kind_merged (form.Truth value) [] ms c are merged posed first = absurd (no_kind c (goals_same c _ posed) first)
  kind_merged (form.Truth value) (s ∷ ss) ms c are merged posed first = absurd posed
  kind_merged (form.Inner k) ss ms c are merged posed first = absurd posed
  kind_merged (form.Global g) ss ms c are merged posed first = absurd posed
  kind_merged (form.Fun x e) [] ms c are merged posed first = absurd posed
  kind_merged (form.Fun x e) (s ∷ []) ms c are merged posed first = absurd (no_kind c (goals_same c _ posed.2) first)
  kind_merged (form.Fun x e) (s ∷ t ∷ ss) ms c are merged posed first = absurd posed
  kind_merged (form.Make parts) ss ms c are merged posed first = absurd (no_kind c (goals_same c _ posed.2) first)
  kind_merged (form.Let k e f) [] ms c are merged posed first = absurd posed
  kind_merged (form.Let k e f) (s ∷ []) ms c are merged posed first = absurd posed
  kind_merged (form.Let k e f) (s ∷ t ∷ []) ms c are merged posed first = absurd (no_kind c (goals_same c _ posed) first)
  kind_merged (form.Let k e f) (s ∷ t ∷ u ∷ ss) ms c are merged posed first = absurd posed
  kind_merged (form.Apply f a) [] ms c are merged posed first = absurd posed
  kind_merged (form.Apply f a) (s ∷ []) ms c are merged posed first = absurd posed
  kind_merged (form.Apply f a) (s ∷ t ∷ []) [] c are merged posed first = absurd merged
  kind_merged (form.Apply f a) (s ∷ t ∷ []) (l ∷ []) c are merged posed first = absurd merged.1
  kind_merged (form.Apply f a) (s ∷ t ∷ []) (l ∷ n ∷ []) c are merged (inl posed) first =
      (apply_constraint l n, inl refl, apply_merged s t l n are.0 are.1.0 merged.0 merged.1.0 m (kind_at c (apply_constraint s t) posed first))
  kind_merged (form.Apply f a) (s ∷ t ∷ []) (l ∷ n ∷ []) c are merged (inr posed) first =
      (turned_constraint l n, inr refl, turned_merged s t l n are.0 are.1.0 merged.0 merged.1.0 m (kind_at c (turned_constraint s t) posed first))
  kind_merged (form.Apply f a) (s ∷ t ∷ []) (l ∷ n ∷ o ∷ ms) c are merged posed first = absurd merged.1.1
  kind_merged (form.Apply f a) (s ∷ t ∷ u ∷ ss) ms c are merged posed first = absurd posed
  kind_merged (form.Project e label) [] ms c are merged posed first = absurd posed
  kind_merged (form.Project e label) (s ∷ []) [] c are merged posed first = absurd merged
  kind_merged (form.Project e label) (s ∷ []) (l ∷ []) c are merged posed first =
      (project_constraint label l, refl, project_merged label s l are.0 merged.0 m (kind_at c (project_constraint label s) posed first))
  kind_merged (form.Project e label) (s ∷ []) (l ∷ n ∷ ms) c are merged posed first = absurd merged.1
  kind_merged (form.Project e label) (s ∷ t ∷ ss) ms c are merged posed first = absurd posed
  kind_merged (form.If g e f) [] ms c are merged posed first = absurd posed
  kind_merged (form.If g e f) (r ∷ []) ms c are merged posed first = absurd posed
  kind_merged (form.If g e f) (r ∷ s ∷ []) ms c are merged posed first = absurd posed
  kind_merged (form.If g e f) (r ∷ s ∷ t ∷ []) [] c are merged posed first = absurd merged
  kind_merged (form.If g e f) (r ∷ s ∷ t ∷ []) (k ∷ []) c are merged posed first = absurd merged.1
  kind_merged (form.If g e f) (r ∷ s ∷ t ∷ []) (k ∷ l ∷ []) c are merged posed first = absurd merged.1.1
  kind_merged (form.If g e f) (r ∷ s ∷ t ∷ []) (k ∷ l ∷ n ∷ []) c are merged posed first =
      (choice_constraint k l n, refl, choice_merged r s t k l n are.0 are.1.0 are.1.1.0 merged.0 merged.1.0 merged.1.1.0 m (kind_at c (choice_constraint r s t) posed first))
  kind_merged (form.If g e f) (r ∷ s ∷ t ∷ []) (k ∷ l ∷ n ∷ o ∷ ms) c are merged posed first = absurd merged.1.1.1
  kind_merged (form.If g e f) (r ∷ s ∷ t ∷ u ∷ ss) ms c are merged posed first = absurd posed
  kind_merged (form.Rec x e) [] ms c are merged posed first = absurd posed
  kind_merged (form.Rec x e) (s ∷ []) [] c are merged posed first = absurd merged
  kind_merged (form.Rec x e) (s ∷ []) (l ∷ []) c are merged posed first =
      let same = sym (merged.0.one x posed.0) in
      (fix_constraint x l, (subst (λ (ns : List ℕ). length ns ≤ 1) same posed.0, refl), fix_merged x s l are.0 merged.0 posed.0 m (kind_at c (fix_constraint x s) posed.1 first))
  kind_merged (form.Rec x e) (s ∷ []) (l ∷ n ∷ ms) c are merged posed first = absurd merged.1
  kind_merged (form.Rec x e) (s ∷ t ∷ ss) ms c are merged posed first = absurd posed
