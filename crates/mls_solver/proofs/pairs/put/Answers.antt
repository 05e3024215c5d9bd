use Rattle.std.proofs.Common.{◌≡◌, ◌⊎◌, inl, inr, [], false, ℕ, List, get_or, slice_set, ◌∙◌, subst, Contains}
use Rattle.std.specs.Prelude.{◌↔◌}
use Rattle.std.proofs.lemmas.List.{get_or_default}
use Rattle.mls_solver.specs.steps.Finding.{HasMember}
use Rattle.mls_solver.proofs.Finding.{set_more}
use Rattle.mls_solver.proofs.pairs.put.Goals as goal

pub returns-clause-more : goal.returns-clause-more
returns-clause-more c =
    let sets : List (List ℕ) = c.lengthen.new.sets.items in
    let at : c.index_mut.result.now ≡ get_or sets c.args.number [] =
    c.index_mut.ensures.value ∙ get_or_default sets c.args.number c.index_mut.result.now [] c.in_ok-lengthen.ensures.there in
    let added : (m : ℕ) → Contains c.add.new.set m ↔ (m ≡ c.args.member) ⊎ HasMember sets c.args.number m =
    subst (λ (old : List ℕ). (m : ℕ) → Contains c.add.new.set m ↔ (m ≡ c.args.member) ⊎ Contains old m) at c.in_ok-is_new.ensures.more in
    let more : (k m : ℕ) → HasMember (slice_set sets c.args.number c.add.new.set) k m ↔ HasMember sets k m ⊎ ((k ≡ c.args.number) × (m ≡ c.args.member)) =
    set_more sets c.args.number c.args.member c.add.new.set c.in_ok-lengthen.ensures.there added in
    let same : (k m : ℕ) → HasMember sets k m ↔ HasMember c.args.sets.now.items k m = c.in_ok-lengthen.ensures.same in
    λ k m. (
      λ it. elim ((more k m).0 it) [ inl there ↦ inl ((same k m).0 there) | inr is ↦ inr is ],
      λ both. (more k m).1 (elim both [ inl there ↦ inl ((same k m).1 there) | inr is ↦ inr is ]),
    )

pub returns-clause-there : goal.returns-clause-there
returns-clause-there c =
    let sets : List (List ℕ) = c.lengthen.new.sets.items in
    let at : c.index_mut.result.now ≡ get_or sets c.args.number [] =
    c.index_mut.ensures.value ∙ get_or_default sets c.args.number c.index_mut.result.now [] c.in_ok-lengthen.ensures.there in
    let same : (k m : ℕ) → HasMember sets k m ↔ HasMember c.args.sets.now.items k m = c.in_ok-lengthen.ensures.same in
    let there : c.in_ok-is_new.is_new ≡ false ↔ HasMember sets c.args.number c.args.member =
    subst (λ (old : List ℕ). c.in_ok-is_new.is_new ≡ false ↔ Contains old c.args.member) at c.in_ok-is_new.ensures.there in (
      λ is. (same c.args.number c.args.member).0 (there.0 is),
      λ it. there.1 ((same c.args.number c.args.member).1 it),
    )
