-- How sets of numbers grow.
use Rattle.std.proofs.Common.{◌⊎◌, inl, inr, ℕ, [], ◌++◌, sym, refl, ◌∙◌, subst, append_assoc, append-nil, Contains}
use Rattle.std.proofs.lemmas.List.Elements.{Contains-append_left}
use Rattle.mls_solver.specs.steps.Numbers.{Numbers, Inserts}

-- nothing is added
pub Inserts-none : (s : Numbers) (IsNew : ℕ → Type 0) → ((x : ℕ) → IsNew x → Contains s.members x) → Inserts s s IsNew
Inserts-none s IsNew known = record {
  limit = refl;
  behind = ([], sym (append-nil s.members));
  sound = λ x it. inl it;
  complete = known;
}

-- what was there stays
pub Inserts-kept : (old new : Numbers) (IsNew : ℕ → Type 0) → Inserts old new IsNew → (x : ℕ) → Contains old.members x → Contains new.members x
Inserts-kept old new IsNew it x there =
    subst (λ xs. Contains xs x) (sym it.behind.1) (Contains-append_left old.members it.behind.0 x there)

-- first the ones, then the others
pub Inserts-then : (old mid new : Numbers) (First Second All : ℕ → Type 0) → Inserts old mid First → Inserts mid new Second → ((x : ℕ) → First x → All x) → ((x : ℕ) → Second x → Contains old.members x ⊎ All x) → ((x : ℕ) → All x → Contains new.members x) → Inserts old new All
Inserts-then old mid new First Second All one two first second all = record {
  limit = two.limit ∙ one.limit;
  behind = (
    one.behind.0 ++ two.behind.0,
    two.behind.1 ∙ ((λ i. one.behind.1 i ++ two.behind.0) ∙ append_assoc old.members one.behind.0 two.behind.0),
  );
  sound = λ x it.
      elim (two.sound x it) [
        | inl before ↦ elim (one.sound x before) [ inl there ↦ inl there | inr new ↦ inr (first x new) ]
        | inr new ↦ second x new
      ];
  complete = all;
}
