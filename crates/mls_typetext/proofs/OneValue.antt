-- A fit type passes one predicate.
use Rattle.std.proofs.Common.{◌≡◌, ℕ, zero, suc, ◌<◌, ◌≤◌, Bool, true, false, not, ◌&&◌, ◌||◌, List, [], ◌∷◌, refl, sym, ap, ◌∙◌, subst, arith, Some, None}
use Rattle.std.specs.Prelude.{cond, bytes_eq, Option, is_none}
use Rattle.mls_book.specs.Tests.{Test, test, depth, never_function, always_function, dom, cod, never_record, always_record, lacks, at}
use Rattle.mls_book.specs.Predicates as predicate
use Rattle.mls_book.specs.Predicates.{Predicate, rcd, field_answer}
use Rattle.mls_book.proofs.Depths.{IsSameTo, same_all}
use Rattle.mls_typetext.specs.Books.{Ty, var, again, boolean, integer, top, bot, arrow, join, meet, fields, rec, TyFields, none, one}
use Rattle.mls_typetext.specs.Values.{value_in, HasValue, HaveValues}
use Rattle.mls_typetext.proofs.Fit.{IsFit, AreFit}

-- the predicates of the `rec`s from the m-th on agree on all tests of less than this depth
abbrev AgreeTo : (d m recs : ℕ) → List Predicate → List Predicate → Type 0
AgreeTo d m recs fs gs = (k : ℕ) → m ≤ k → k < recs → IsSameTo d (value_in fs k) (value_in gs k)

AgreeTo-rec : (d m recs : ℕ) (f g : Predicate) (fs gs : List Predicate) → AgreeTo d m recs fs gs → AgreeTo d (suc m) (suc recs) (f ∷ fs) (g ∷ gs)
AgreeTo-rec d m recs f g fs gs agree zero first last = absurd (omega arith)
AgreeTo-rec d m recs f g fs gs agree (suc k) first last = agree k (omega arith) (omega arith)

AgreeTo-all : (d recs : ℕ) (f g : Predicate) (fs gs : List Predicate) → IsSameTo d f g → AgreeTo d 0 recs fs gs → AgreeTo d 0 (suc recs) (f ∷ fs) (g ∷ gs)
AgreeTo-all d recs f g fs gs same agree zero first last = same
AgreeTo-all d recs f g fs gs same agree (suc k) first last = agree k (omega arith) (omega arith)

same_through : (d : ℕ) (f g f' g' : Predicate) → f ≡ f' → g ≡ g' → IsSameTo d f' g' → IsSameTo d f g
same_through d f g f' g' e e' same t low = (λ i. e i t) ∙ (same t low ∙ (λ i. sym e' i t))

-- functions agree to one depth more than their parts
arrow-same : (d : ℕ) (g h g' h' : Predicate) → IsSameTo d g g' → IsSameTo d h h' → IsSameTo (suc d) (predicate.arrow g h) (predicate.arrow g' h')
arrow-same d g h g' h' domain codomain (test vars p q never_function all) low = refl
arrow-same d g h g' h' domain codomain (test vars p q always_function all) low = refl
arrow-same d g h g' h' domain codomain (test vars p q (dom t) all) low = ap not (domain t (omega arith))
arrow-same d g h g' h' domain codomain (test vars p q (cod t) all) low = codomain t (omega arith)

-- fields agree
abbrev OptionsAgree : ℕ → Option Predicate → Option Predicate → Type 0
OptionsAgree d None None = Unit {0}
OptionsAgree d (Some f) (Some g) = IsSameTo d f g
OptionsAgree d _ _ = ⊥

abbrev FieldsAgree : ℕ → (List ℕ → Option Predicate) → (List ℕ → Option Predicate) → Type 0
FieldsAgree d fs gs = (x : List ℕ) → OptionsAgree d (fs x) (gs x)

cond-agree : (d : ℕ) (b : Bool) (f g : Predicate) (o p : Option Predicate) → IsSameTo d f g → OptionsAgree d o p → OptionsAgree d (cond b (Some f) o) (cond b (Some g) p)
cond-agree d true f g o p same rest = same
cond-agree d false f g o p same rest = rest

none-same : (d : ℕ) (o p : Option Predicate) → OptionsAgree d o p → is_none o ≡ is_none p
none-same d None None agree = refl
none-same d None (Some g) agree = absurd agree
none-same d (Some f) None agree = absurd agree
none-same d (Some f) (Some g) agree = refl

field-same : (d : ℕ) (o p : Option Predicate) → OptionsAgree d o p → (t : Test) → depth t < d → field_answer o t ≡ field_answer p t
field-same d None None agree t low = refl
field-same d None (Some g) agree t low = absurd agree
field-same d (Some f) None agree t low = absurd agree
field-same d (Some f) (Some g) agree t low = agree t low

rcd-same : (d : ℕ) (fs gs : List ℕ → Option Predicate) → FieldsAgree d fs gs → IsSameTo (suc d) (rcd fs) (rcd gs)
rcd-same d fs gs agree (test vars p q function never_record) low = refl
rcd-same d fs gs agree (test vars p q function always_record) low = refl
rcd-same d fs gs agree (test vars p q function (lacks label)) low = none-same d (fs label) (gs label) (agree label)
rcd-same d fs gs agree (test vars p q function (at label t)) low = field-same d (fs label) (gs label) (agree label) t (omega arith)

module _ (v : ℕ → Predicate) (vars : ℕ) where
  -- to this depth a type passes one predicate, where all `rec`s around it do
  abbrev OneTo : ℕ → Type 0
  OneTo d =
      (m recs : ℕ) (fs gs : List Predicate) (a : Ty) (f g : Predicate) → IsFit vars m recs a → AgreeTo d 0 recs fs gs
      → HasValue v fs a f → HasValue v gs a g → IsSameTo d f g

  fields_to : (d : ℕ) → OneTo d → (recs : ℕ) (fs gs : List Predicate) (all : TyFields) (f g : List ℕ → Option Predicate) → AreFit vars recs all → AgreeTo d 0 recs fs gs → HaveValues v fs all f → HaveValues v gs all g → FieldsAgree d f g
  fields_to d less recs fs gs none f g fit agree is is' x =
      let P : Option Predicate → Type 0 = λ o. OptionsAgree d o (g x) in
      subst P (λ i. sym is i x) (let Q : Option Predicate → Type 0 = λ o. OptionsAgree d None o in subst Q (λ i. sym is' i x) tt)
  fields_to d less recs fs gs (one label a rest) f g fit agree is is' x =
      let P : Option Predicate → Type 0 = λ o. OptionsAgree d o (g x) in
      let Q : Option Predicate → Type 0 = λ o. OptionsAgree d (cond (bytes_eq label x) (Some is.0) (is.1 x)) o in
      subst P (λ i. sym is.4 i x)
      (subst Q (λ i. sym is'.4 i x)
      (cond-agree d (bytes_eq label x) is.0 is'.0 (is.1 x) (is'.1 x)
      (less 0 recs fs gs a is.0 is'.0 fit.1 agree is.2 is'.2)
      (fields_to d less recs fs gs rest is.1 is'.1 fit.2 agree is.3 is'.3 x)))

  -- to one depth more, where the `rec`s outside the layer agree to it
  next_to : (d : ℕ) → OneTo d → (m recs : ℕ) (fs gs : List Predicate) (a : Ty) (f g : Predicate) → IsFit vars m recs a → AgreeTo (suc d) m recs fs gs → AgreeTo d 0 recs fs gs → HasValue v fs a f → HasValue v gs a g → IsSameTo (suc d) f g
  next_to d less m recs fs gs (var x) f g fit outer all is is' = same_through (suc d) f g (v x) (v x) is is' (λ t low. refl)
  next_to d less m recs fs gs (again k) f g fit outer all is is' = same_through (suc d) f g (value_in fs k) (value_in gs k) is is' (outer k fit.0 fit.1)
  next_to d less m recs fs gs boolean f g fit outer all is is' = same_through (suc d) f g predicate.bool predicate.bool is is' (λ t low. refl)
  next_to d less m recs fs gs integer f g fit outer all is is' = same_through (suc d) f g predicate.int predicate.int is is' (λ t low. refl)
  next_to d less m recs fs gs top f g fit outer all is is' = same_through (suc d) f g predicate.top predicate.top is is' (λ t low. refl)
  next_to d less m recs fs gs bot f g fit outer all is is' = same_through (suc d) f g predicate.bot predicate.bot is is' (λ t low. refl)
  next_to d less m recs fs gs (arrow a b) f g fit outer all is is' =
      same_through (suc d) f g (predicate.arrow is.0 is.1) (predicate.arrow is'.0 is'.1) is.4 is'.4
      (arrow-same d is.0 is.1 is'.0 is'.1
      (less 0 recs fs gs a is.0 is'.0 fit.0 all is.2 is'.2)
      (less 0 recs fs gs b is.1 is'.1 fit.1 all is.3 is'.3))
  next_to d less m recs fs gs (join a b) f g fit outer all is is' =
      same_through (suc d) f g (predicate.join is.0 is.1) (predicate.join is'.0 is'.1) is.4 is'.4
      (λ t low i.
      next_to d less m recs fs gs a is.0 is'.0 fit.0 outer all is.2 is'.2 t low i
      || next_to d less m recs fs gs b is.1 is'.1 fit.1 outer all is.3 is'.3 t low i)
  next_to d less m recs fs gs (meet a b) f g fit outer all is is' =
      same_through (suc d) f g (predicate.meet is.0 is.1) (predicate.meet is'.0 is'.1) is.4 is'.4
      (λ t low i.
      next_to d less m recs fs gs a is.0 is'.0 fit.0 outer all is.2 is'.2 t low i
      && next_to d less m recs fs gs b is.1 is'.1 fit.1 outer all is.3 is'.3 t low i)
  next_to d less m recs fs gs (fields parts) f g fit outer all is is' =
      same_through (suc d) f g (rcd is.0) (rcd is'.0) is.2 is'.2
      (rcd-same d is.0 is'.0 (fields_to d less recs fs gs parts is.0 is'.0 fit all is.1 is'.1))
  next_to d less m recs fs gs (rec a) f g fit outer all is is' =
      let same : IsSameTo d f g = less m recs fs gs (rec a) f g fit all is is' in
      next_to d less (suc m) (suc recs) (f ∷ fs) (g ∷ gs) a f g fit
      (AgreeTo-rec (suc d) m recs f g fs gs outer) (AgreeTo-all d recs f g fs gs same all) is is'

  one_to : (d : ℕ) → OneTo d
  one_to zero m recs fs gs a f g fit agree is is' = λ t low. absurd (omega arith)
  one_to (suc d) m recs fs gs a f g fit agree is is' =
      next_to d (one_to d) m recs fs gs a f g fit
      (λ k first last. agree k (omega arith) last)
      (λ k first last t low. agree k first last t (omega arith))
      is is'

  -- so a fit type under no `rec` passes one predicate
  pub one_value : (a : Ty) (f g : Predicate) → IsFit vars 0 0 a → HasValue v [] a f → HasValue v [] a g → f ≡ g
  one_value a f g fit is is' =
      same_all f g (λ d. one_to d 0 0 [] [] a f g fit (λ k first last. absurd (omega arith)) is is')
