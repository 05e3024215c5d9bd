-- The first element of a list that passes a test.
--     found_is            it is in the list and passes
--     found_none          where there is none, no element passes
--     found_there         where an element passes, there is one
use Rattle.std.proofs.Common.{arith, ◌≡◌, inl, inr, Bool, true, false, List, [], ◌∷◌, refl, sym, ap, ◌∙◌, subst, Contains, Option, Some, None}
use Rattle.std.specs.Prelude.{cond, find}
use Rattle.std.proofs.lemmas.List.Elements.{Contains-append_right}
use Rattle.mls_automaton.proofs.Lists.{Contains-cases}
use Rattle.mls_typing.proofs.Lists.{Contains-here}

module _ {A : Type 0} (test : A → Bool) where
  pub found_is : (xs : List A) (x : A) → find test xs ≡ Some x → Contains xs x × (test x ≡ true)
  found_is [] x e = absurd (cc)
  found_is (first ∷ rest) x e = go (test first) refl e (found_is rest x)
    where
      go : (b : Bool) → test first ≡ b → cond (test first) (Some first) (find test rest) ≡ Some x → (find test rest ≡ Some x → Contains rest x × (test x ≡ true)) → Contains (first ∷ rest) x × (test x ≡ true)
      go true is at later =
          let both : Some first ≡ Some x = sym (ap (λ t. cond t (Some first) (find test rest)) is) ∙ at in
          let same : first ≡ x = cc in
          (subst (Contains (first ∷ rest)) same (Contains-here first rest), subst (λ y. test y ≡ true) same is)
      go false is at later =
          let found = later (sym (ap (λ t. cond t (Some first) (find test rest)) is) ∙ at) in
          (Contains-append_right (first ∷ []) rest x found.0, found.1)

  pub found_none : (xs : List A) → find test xs ≡ None → (x : A) → Contains xs x → test x ≡ false
  found_none [] e x there = absurd (let low = there.1 in omega (arith, low))
  found_none (first ∷ rest) e x there = go (test first) refl (found_none rest)
    where
      go : (b : Bool) → test first ≡ b → (find test rest ≡ None → (y : A) → Contains rest y → test y ≡ false) → test x ≡ false
      go true is later = absurd (let both : Some first ≡ None = sym (ap (λ t. cond t (Some first) (find test rest)) is) ∙ e in cc)
      go false is later = elim (Contains-cases first rest x there) [
        | inl same ↦ subst (λ y. test y ≡ false) same is
        | inr other ↦ later (sym (ap (λ t. cond t (Some first) (find test rest)) is) ∙ e) x other
      ]

  pub found_there : (xs : List A) (x : A) → Contains xs x → test x ≡ true → (y : A) × (find test xs ≡ Some y)
  found_there xs x there passes = go (find test xs) refl
    where
      go : (o : Option A) → find test xs ≡ o → (y : A) × (find test xs ≡ Some y)
      go None none = absurd (let fails : test x ≡ false = found_none xs none x there in cc)
      go (Some y) some = (y, some)
