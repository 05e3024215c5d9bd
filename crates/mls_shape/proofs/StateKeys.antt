-- Two states have one key exactly where they look alike.
--     key_unique    a state has one key
--     key_alike     states of one key look alike
--     alike_key     states that look alike have one key
use Rattle.std.proofs.Common.{◌≡◌, inl, inr, ℕ, ◌<◌, List, [], ◌∷◌, ◌++◌, refl, sym, ap, ◌∙◌, subst, arith, length, Contains}
use Rattle.mls_automaton.specs.declared.automaton.Polarity.{Polarity}
use Rattle.mls_automaton.specs.declared.automaton.Polarity.TheVariants.{Positive, Negative}
use Rattle.mls_automaton.specs.Automata.{Automaton, polarity_at, head_at, flow, HasFlow, IsPartner}
use Rattle.mls_automaton.specs.Models.{IsClosed, IsDeterministic}
use Rattle.mls_shape.specs.Alike.{IsAlikePair}
use Rattle.mls_shape.specs.steps.Classes.{head_code, IsKeyOf}
use Rattle.mls_shape.specs.steps.Registers.{sign}
use Rattle.mls_shape.proofs.HeadCodes.{append_split, code_alike, alike_code}
use Rattle.mls_shape.proofs.RisingSets.{same_rising}

abbrev first_of : List ℕ → ℕ
first_of [] = 0
first_of (x ∷ xs) = x

abbrev rest_of : List ℕ → List ℕ
rest_of [] = []
rest_of (x ∷ xs) = xs

different : {X : Type 0} (x y : ℕ) → x ≡ y → x < y → X
different x y same less = absurd (omega arith)

sign-same : (p q : Polarity) → sign p ≡ sign q → p ≡ q
sign-same Positive Positive e = refl
sign-same Negative Negative e = refl
sign-same Positive Negative e = different 0 1 e (omega arith)
sign-same Negative Positive e = different 0 1 (sym e) (omega arith)

clash : (p : Polarity) → p ≡ Positive → p ≡ Negative → ⊥
clash p positive negative = cc

module _ (a : Automaton) (closed : IsClosed a) (single : IsDeterministic a) (class : ℕ → ℕ) where
  abbrev code : ℕ → List ℕ
  code s = head_code class (head_at a s)

  key_of : (s : ℕ) (partners : List ℕ) → List ℕ
  key_of s partners = sign (polarity_at a s) ∷ length partners ∷ partners ++ code s

  pub key_unique : (s : ℕ) (key other : List ℕ) → IsKeyOf a class s key → IsKeyOf a class s other → key ≡ other
  key_unique s key other one two =
      let same : one.partners ≡ two.partners =
      same_rising one.partners two.partners one.rises two.rises
      (λ j there. (two.are j).1 ((one.are j).0 there), λ j there. (one.are j).1 ((two.are j).0 there)) in
      one.is ∙ ((λ i. sign (polarity_at a s) ∷ length (same i) ∷ same i ++ code s) ∙ sym two.is)

  -- edges by partners
  outgoing : (i j k : ℕ) → (IsPartner a i k → IsPartner a j k) → HasFlow a i k → HasFlow a j k
  outgoing i j k moves edge =
      elim (moves (inl edge)) [
        | inl to ↦ to
        | inr from ↦ absurd (clash (polarity_at a k) (closed.positive (flow i k) edge).polarity (closed.negative (flow k j) from).polarity)
      ]

  incoming : (i j k : ℕ) → (IsPartner a i k → IsPartner a j k) → HasFlow a k i → HasFlow a k j
  incoming i j k moves edge =
      elim (moves (inr edge)) [
        | inl to ↦ absurd (clash (polarity_at a k) (closed.positive (flow j k) to).polarity (closed.negative (flow k i) edge).polarity)
        | inr from ↦ from
      ]

  pub key_alike : (i j : ℕ) (key : List ℕ) → IsKeyOf a class i key → IsKeyOf a class j key → IsAlikePair a (λ x y. class x ≡ class y) i j
  key_alike i j key one two =
      let e : sign (polarity_at a i) ∷ length one.partners ∷ one.partners ++ code i ≡ sign (polarity_at a j) ∷ length two.partners ∷ two.partners ++ code j = sym one.is ∙ two.is in
      let size : length one.partners ≡ length two.partners = ap (λ xs. first_of (rest_of xs)) e in
      let both = append_split one.partners two.partners (code i) (code j) size (ap (λ xs. rest_of (rest_of xs)) e) in
      let there : (k : ℕ) → IsPartner a i k → IsPartner a j k = λ k it. (two.are k).0 (subst (λ xs. Contains xs k) both.0 ((one.are k).1 it)) in
      let back : (k : ℕ) → IsPartner a j k → IsPartner a i k = λ k it. (one.are k).0 (subst (λ xs. Contains xs k) (sym both.0) ((two.are k).1 it)) in
      record {
        polarity = sign-same (polarity_at a i) (polarity_at a j) (ap first_of e);
        heads = code_alike class (head_at a i) (head_at a j) (single i) (single j) both.1;
        outgoing = λ k. (outgoing i j k (there k), outgoing j i k (back k));
        incoming = λ k. (incoming i j k (there k), incoming j i k (back k));
      }

  moved : (i j : ℕ) → IsAlikePair a (λ x y. class x ≡ class y) i j → (k : ℕ) → IsPartner a i k → IsPartner a j k
  moved i j alike k (inl to) = inl ((alike.outgoing k).0 to)
  moved i j alike k (inr from) = inr ((alike.incoming k).0 from)

  moved_back : (i j : ℕ) → IsAlikePair a (λ x y. class x ≡ class y) i j → (k : ℕ) → IsPartner a j k → IsPartner a i k
  moved_back i j alike k (inl to) = inl ((alike.outgoing k).1 to)
  moved_back i j alike k (inr from) = inr ((alike.incoming k).1 from)

  pub alike_key : (i j : ℕ) (key : List ℕ) → IsAlikePair a (λ x y. class x ≡ class y) i j → IsKeyOf a class i key → IsKeyOf a class j key
  alike_key i j key alike one =
      let codes : code i ≡ code j = alike_code class (head_at a i) (head_at a j) (closed.labels i) (closed.labels j) (single i) (single j) alike.heads in
      record {
        partners = one.partners;
        rises = one.rises;
        are = λ k. (λ there. moved i j alike k ((one.are k).0 there), λ it. (one.are k).1 (moved_back i j alike k it));
        is = one.is ∙ (λ t. sign (alike.polarity t) ∷ length one.partners ∷ one.partners ++ codes t);
      }
