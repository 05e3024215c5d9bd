-- Orders of nodes, and claims along them.
--     moved           what an order justifies, read in any mode that reads no variable as another node
--     steps_order     an order in some steps is an order
--     steps_then      and one after the other
--     along_justified claims along an order justify themselves
use Rattle.std.proofs.Common.{◌≡◌, ℕ, zero, suc, List, [], refl, None}
use Rattle.mls_book.specs.declared.book.Node.{Node}
use Rattle.mls_book.specs.Books.{IsBook}
use Rattle.mls_deriv.specs.declared.derivation.Mode.{Mode}
use Rattle.mls_deriv.specs.declared.derivation.Mode.TheVariants.{Lr, Rl, Pp}
use Rattle.mls_deriv.specs.declared.claim.Put.{Put}
use Rattle.mls_deriv.specs.Pairs.{left_put, right_put, exchanged, IsJustified, bot_below, below_top, join_below, below_meet, first_below, second_below, below_first, below_second, same_bool, same_int, same_variable, functions, records, left_variable, right_variable, same_node}
use Rattle.mls_deriv.proofs.CheckedSubs.{justified_more}
use Rattle.mls_lines.specs.Orders.{JustifiesItself, IsOrder, InSteps, InSomeSteps, Along}
use Rattle.mls_allowed.proofs.Composed.{composed}

module _ (book : List Node) (Below : ℕ → ℕ → Type 0) (mode : Mode) (puts : List Put) (claims : Mode → ℕ → ℕ → Type 0)
    (no_left : (x : ℕ) → left_put mode puts x ≡ None) (no_right : (x : ℕ) → right_put mode puts x ≡ None)
    (within : (i j : ℕ) → Below i j → claims mode i j) (turned : (i j : ℕ) → Below i j → claims (exchanged mode) i j) where
  pub moved : (i j : ℕ) → IsJustified book [] (λ m. Below) Lr i j → IsJustified book puts claims mode i j
  moved i j (bot_below e) = bot_below e
  moved i j (below_top e) = below_top e
  moved i j (join_below l r e h k) = join_below l r e (within l.0 j h) (within r.0 j k)
  moved i j (below_meet l r e h k) = below_meet l r e (within i l.0 h) (within i r.0 k)
  moved i j (first_below l r e h) = first_below l r e (within l.0 j h)
  moved i j (second_below l r e h) = second_below l r e (within r.0 j h)
  moved i j (below_first l r e h) = below_first l r e (within i l.0 h)
  moved i j (below_second l r e h) = below_second l r e (within i r.0 h)
  moved i j (same_bool e f) = same_bool e f
  moved i j (same_int e f) = same_int e f
  moved i j (same_variable x e f p q) = same_variable x e f (no_left x) (no_right x)
  moved i j (functions a b c d e f h k) = functions a b c d e f (turned c.0 a.0 h) (within b.0 d.0 k)
  moved i j (records fields others e f each) = records fields others e f (λ label k found. let it = each label k found in (it.0, it.1, within it.0.0 k.0 it.2))
  moved i j (left_variable x n e p h) = let none : left_put Lr [] x ≡ None = refl in absurd (cc)
  moved i j (right_variable x n e p h) = let none : right_put Lr [] x ≡ None = refl in absurd (cc)
  moved i j (same_node e f) = absurd (cc)

-- in one step more, at the end
step_behind : (Below : ℕ → ℕ → Type 0) (n i k j : ℕ) → InSteps Below n i k → Below k j → InSteps Below (suc n) i j
step_behind Below zero i k j h one = (k, h, one)
step_behind Below (suc n) i k j h one = (h.0, h.1, step_behind Below n h.0 k j h.2 one)

pub steps_then : (Below : ℕ → ℕ → Type 0) (i k j : ℕ) → InSomeSteps Below i k → InSomeSteps Below k j → InSomeSteps Below i j
steps_then Below i k j (m, h) (n, g) = go m i h
  where
    go : (m i : ℕ) → InSteps Below m i k → InSomeSteps Below i j
    go zero i h = (suc n, (k, h, g))
    go (suc m) i h = let rest = go m h.0 h.2 in (suc rest.0, (h.0, h.1, rest.1))

module _ (book : List Node) (is_book : IsBook book) where
  not_lr : Lr ≡ Pp → ⊥
  not_lr e = absurd (cc)

  not_rl : Rl ≡ Pp → ⊥
  not_rl e = absurd (cc)

  in_steps : (Below : ℕ → ℕ → Type 0) → IsOrder book Below → (n : ℕ) → IsOrder book (InSteps Below n)
  in_steps Below is zero i j h = is i j h
  in_steps Below is (suc n) i j h =
      composed book is_book Lr [] [] [] (λ m. Below) (λ m. InSteps Below n) (λ m. InSteps Below (suc n)) is (in_steps Below is n)
      (λ x. refl) (λ x. refl) (λ x. refl) (λ x. refl) not_lr
      (λ i k j f s. (k, f, s)) (λ i k j s f. step_behind Below n i k j s f)
      (λ x m k j e f s. absurd (cc)) (λ x m i k e f s. absurd (cc))
      i h.0 j h.1 h.2

  pub steps_order : (Below : ℕ → ℕ → Type 0) → IsOrder book Below → IsOrder book (InSomeSteps Below)
  steps_order Below is i j (n, h) = justified_more book [] (λ m. InSteps Below n) (λ m. InSomeSteps Below) (λ m k l it. (n, it)) Lr i j (in_steps Below is n i j h)

  module _ (puts : List Put) (claims : Mode → ℕ → ℕ → Type 0) (justified : JustifiesItself book puts claims)
      (Below : ℕ → ℕ → Type 0) (is : IsOrder book Below) (then : (i k j : ℕ) → Below i k → Below k j → Below i j)
      (plain : (i j : ℕ) → claims Pp i j → Below i j) where
    pub along_justified : JustifiesItself book puts (Along claims Below)
    along_justified Lr i j (k, h, s) =
        composed book is_book Lr puts puts [] claims (λ m. Below) (Along claims Below) (justified Lr) is
        (λ x. refl) (λ x. refl) (λ x. refl) (λ x. refl) not_lr
        (λ i k j f s. (k, f, s)) (λ i k j s f. (k, s, f))
        (λ x n k j e f s. then n k j (plain n k f) s) (λ x n i k e f s. absurd (cc))
        i k j h s
    along_justified Rl i j (k, s, h) =
        composed book is_book Rl puts [] puts (λ m. Below) claims (Along claims Below)
        (λ i j it. moved book Below Rl [] (λ m. Below) (λ x. refl) (λ x. refl) (λ i j h. h) (λ i j h. h) i j (is i j it)) (justified Rl)
        (λ x. refl) (λ x. refl) (λ x. refl) (λ x. refl) not_rl
        (λ i k j f s. (k, f, s)) (λ i k j s f. (k, s, f))
        (λ x n k j e f s. absurd (cc)) (λ x n i k e f s. then i k n f (plain k n s))
        i k j s h
    along_justified Pp i j h = moved book Below Pp puts (Along claims Below) (λ x. refl) (λ x. refl) (λ i j h. h) (λ i j h. h) i j (is i j h)
