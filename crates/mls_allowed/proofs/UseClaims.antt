-- The pairs that the step of a use claims follow from one another.
--     use_shown
use Rattle.std.proofs.Common.{◌≡◌, ◌⊎◌, inl, inr, ℕ, Bool, true, false, List, Contains, refl, sym, ◌∙◌, subst}
use Rattle.mls_book.specs.declared.book.Node.{Node}
use Rattle.mls_automaton.specs.declared.automaton.Polarity.{Polarity}
use Rattle.mls_automaton.specs.declared.automaton.Polarity.TheVariants.{Positive, Negative}
use Rattle.mls_automaton.specs.Automata.{Automaton, polarity_at, head_at, HasFlow}
use Rattle.mls_automaton.specs.Heads.{Parts, parts_of}
use Rattle.mls_deriv.specs.declared.derivation.Mode.{Mode}
use Rattle.mls_deriv.specs.declared.derivation.Mode.TheVariants.{Lr, Rl, Pp}
use Rattle.mls_deriv.specs.declared.claim.Put.{Put}
use Rattle.mls_layout.specs.Shown.{IsShown, claimed, put_left, put_right, same, AreShown}
use Rattle.mls_flow.specs.Simulations.{IsHeadWithin}
use Rattle.mls_layout.specs.Trees.{HasMember, IsTree}
use Rattle.mls_layout.specs.Heads.{IsKindAt, AreParts, HasSigns}
use Rattle.mls_layout.specs.Layouts.{IsLayout}
use Rattle.mls_layout.specs.Uses.{IsNameLayout, Shows, ArePuts, IsUseClaim, below_copy, above_copy, NoClaim}
use Rattle.mls_allowed.proofs.Trees.{IsInside, only_inside, member_inside, member_below}
use Rattle.mls_allowed.proofs.Heads.{head_inside}

module _ (book : List Node) (a type_of_part : Automaton) (R IsPair : ℕ → ℕ → Type 0) (place part_place : ℕ → ℕ) (layout : IsLayout book a type_of_part R IsPair place part_place)
    (IsPlace : ℕ → Type 0) (sign : ℕ → Polarity) (type_place copy : ℕ → ℕ) (type : IsNameLayout book a IsPlace sign type_place copy)
    (puts : List Put) (are : ArePuts book IsPlace sign type.variables place copy puts) where
  abbrev Claims : Mode → ℕ → ℕ → Type 0
  Claims = IsUseClaim IsPlace sign place type_place copy

  abbrev Shown : Bool → Mode → ℕ → ℕ → Type 0
  Shown = IsShown book puts NoClaim Claims

  abbrev Inside : Bool → Polarity → Mode → ℕ → ℕ → Type 0
  Inside = IsInside book puts NoClaim Claims

  copied_inside : (x y : ℕ) → IsPlace x × (copy x ≡ y) → Inside true (sign x) Lr (type_place x) (place y)
  copied_inside x y it = subst (λ z. Inside true (sign x) Lr (type_place x) (place z)) it.1 (go (sign x) refl)
    where
      go : (q : Polarity) → sign x ≡ q → Inside true q Lr (type_place x) (place (copy x))
      go Positive is = claimed refl (below_copy x it.0 is refl refl refl)
      go Negative is = claimed refl (above_copy x it.0 is refl refl refl)

  -- the members of a state of the constraint
  has_part : (p : Polarity) (s i : ℕ) → polarity_at a s ≡ p → Contains (layout.parts s) i → HasMember book p i (place s)
  has_part Positive s i is there = (layout.positive s is).each i (inl there)
  has_part Negative s i is there = (layout.negative s is).each i (inl there)

  part_copied : (level : Bool) (p : Polarity) (s i : ℕ) → IsPlace s → sign s ≡ p → Contains (type.parts s) i → Inside level p Lr i (place (copy s))
  part_copied level p s i at_s is there =
      let own : Parts = type.own s i in
      let at = type.heads s i at_s there in
      let found =
      head_inside book puts NoClaim Claims Lr type_place place sign (λ x y. IsPlace x × (copy x ≡ y)) copied_inside
      own (parts_of (head_at a (copy s))) level p at.0 i (layout.parts (copy s))
      (subst (λ q. HasSigns sign q own) is (type.signs s i at_s there))
      (subst (λ q. IsHeadWithin (λ x y. IsPlace x × (copy x ≡ y)) q own (parts_of (head_at a (copy s)))) is (type.within s i at_s there))
      (subst (λ q. IsKindAt book type_place q own at.0 i) is at.1)
      (subst (λ q. AreParts book place q (parts_of (head_at a (copy s))) (layout.parts (copy s))) (type.polarity s at_s ∙ is) (layout.heads (copy s))) in
      member_inside book puts NoClaim Claims level p Lr i found.0 (place (copy s)) (has_part p (copy s) found.0 (type.polarity s at_s ∙ is) found.1) found.2

  -- an edge of the constraint
  edge_shown : (n p : ℕ) → polarity_at a n ≡ Negative → polarity_at a p ≡ Positive → HasFlow a n p → (level : Bool) → Shown level Pp (place n) (place p)
  edge_shown n p is_n is_p edge level =
      member_below book puts NoClaim Claims level Pp (place n) (layout.value n) (place p) ((layout.negative n is_n).each (layout.value n) (inr refl))
      (member_inside book puts NoClaim Claims level Positive Pp (layout.value n) (layout.value n) (place p) ((layout.positive p is_p).each (layout.value n) (inr (n, edge, refl))) (same refl refl))

  variable_copied : (level : Bool) (p : Polarity) (s i : ℕ) → IsPlace s → sign s ≡ p → Contains (type.variables s) i → Inside level p Lr i (place (copy s))
  variable_copied level Positive s i at_s is there =
      let x = type.are_variables s i at_s there in
      let shows : Shows book type.variables s x.0 = (i, there, x.1) in
      put_left x.0 (are.joined x.0) x.1 (are.put s x.0 at_s shows)
      (only_inside book puts NoClaim Claims level Positive Pp (λ i. (n : ℕ) × IsPlace n × (sign n ≡ Negative) × Shows book type.variables n x.0 × (place (copy n) ≡ i)) (are.joined x.0) (place (copy s)) (are.tree s x.0 at_s shows).only
      (λ k it.
      subst (λ z. Shown level Pp z (place (copy s))) it.4
      (edge_shown (copy it.0) (copy s) (type.polarity it.0 it.1 ∙ it.2) (type.polarity s at_s ∙ is) (type.flows it.0 s x.0 it.1 at_s it.2 is it.3 shows) level)))
  variable_copied level Negative s i at_s is there =
      let x = type.are_variables s i at_s there in
      let shows : Shows book type.variables s x.0 = (i, there, x.1) in
      put_right x.0 (are.joined x.0) x.1 (are.put s x.0 at_s shows)
      (member_inside book puts NoClaim Claims level Positive Pp (place (copy s)) (place (copy s)) (are.joined x.0) ((are.tree s x.0 at_s shows).each (place (copy s)) (s, at_s, is, shows, refl)) (same refl refl))

  pub copied_shown : (level : Bool) (p : Polarity) (s : ℕ) → IsPlace s → sign s ≡ p → Inside level p Lr (type_place s) (place (copy s))
  copied_shown level p s at_s is =
      only_inside book puts NoClaim Claims level p Lr (λ i. Contains (type.parts s) i ⊎ Contains (type.variables s) i) (type_place s) (place (copy s))
      (subst (λ q. IsTree book q (λ i. Contains (type.parts s) i ⊎ Contains (type.variables s) i) (type_place s)) is (type.tree s at_s)).only by_leaf
    where
      by_leaf : (i : ℕ) → Contains (type.parts s) i ⊎ Contains (type.variables s) i → Inside level p Lr i (place (copy s))
      by_leaf i (inl there) = part_copied level p s i at_s is there
      by_leaf i (inr there) = variable_copied level p s i at_s is there

  each_shown : (mode : Mode) (i j : ℕ) → Claims mode i j → Shown false mode i j
  each_shown mode i j (below_copy s at_s is m e e') =
      subst (λ z. Shown false z i j) (sym m) (subst (λ z. Shown false Lr z j) e (subst (Shown false Lr (type_place s)) e' (copied_shown false Positive s at_s is)))
  each_shown mode i j (above_copy s at_s is m e e') =
      subst (λ z. Shown false z i j) (sym m) (subst (λ z. Shown false Rl z j) e (subst (Shown false Rl (place (copy s))) e' (copied_shown false Negative s at_s is)))

  -- all claims of a use are justified by what follows from them
  pub use_shown : AreShown book puts NoClaim Claims
  use_shown = record { basic = λ mode i j h. absurd h; others = each_shown }
