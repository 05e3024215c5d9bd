-- Lines that stand one behind another.
use Rattle.std.proofs.Common.{◌≡◌, ℕ, zero, suc, ◌+◌, ◌<◌, List, [], ◌∷◌, ◌++◌, length, take, get_or, sym, ap, ◌∙◌, subst, arith}
use Rattle.std.proofs.lemmas.List.{take_more}
use Rattle.mls_deriv.specs.declared.derivation.SectionLine.{SectionLine}
use Rattle.mls_deriv.specs.Texts.{Given, after, Stands, AllStand}
use Rattle.mls_deriv.specs.BadLines.{given_by}
use Rattle.mls_deriv.proofs.ReadParts.{stand_more, given_more}

-- where all lines stand, each stands behind those before it
pub stands_at : (count : ℕ) (g : Given) (ls : List SectionLine) (i : ℕ) (l : SectionLine) → i < length ls → get_or ls i l ≡ l → AllStand count g ls → Stands count (given_by g (take i ls)) l
stands_at count g [] i l low is all = absurd (omega arith)
stands_at count g (x ∷ ls) zero l low is all = subst (Stands count g) is all.0
stands_at count g (x ∷ ls) (suc i) l low is all = stands_at count (after g x) ls i l (omega arith) is all.1

module _ (count : ℕ) (g : Given) (ls : List SectionLine) (i : ℕ) (l : SectionLine) (low : i < length ls) (is : get_or ls i l ≡ l) where
  -- the lines up to one more
  front : take (i + 1) ls ≡ take i ls ++ l ∷ []
  front = take_more ls i l low ∙ ap (λ x. take i ls ++ x ∷ []) is

  pub stand_to : AllStand count g (take i ls) → Stands count (given_by g (take i ls)) l → AllStand count g (take (i + 1) ls)
  stand_to all stands = subst (AllStand count g) (sym front) (stand_more count g (take i ls) l all stands)

  pub given_to : given_by g (take (i + 1) ls) ≡ after (given_by g (take i ls)) l
  given_to = ap (given_by g) front ∙ given_more g (take i ls) l
