-- More claims justify as much, and as much follows from them.
--     IsJustified-more
--     shown_more      what follows from claims follows from more
--     reread          what follows in a mode that reads no variable as another node, follows in each mode without put lines
use Rattle.std.proofs.Common.{◌≡◌, ℕ, Bool, true, List, [], refl, None}
use Rattle.mls_book.specs.declared.book.Node.{Node}
use Rattle.mls_deriv.specs.declared.derivation.Mode.{Mode}
use Rattle.mls_deriv.specs.declared.derivation.Mode.TheVariants.{Lr, Rl, Pp}
use Rattle.mls_deriv.specs.declared.claim.Put.{Put}
use Rattle.mls_deriv.specs.Pairs.{left_put, right_put, exchanged, IsJustified, bot_below, below_top, join_below, below_meet, first_below, second_below, below_first, below_second, same_bool, same_int, same_variable, functions, records, left_variable, right_variable, same_node}
use Rattle.mls_layout.specs.Shown.{IsShown, based, claimed, bot_left, top_right, join_left, meet_right, meet_first, meet_second, join_first, join_second, both_bool, both_int, one_variable, arrows, rcds, put_left, put_right, same}

module _ (book : List Node) (puts : List Put) where
  -- more claims justify as much
  pub IsJustified-more : (claims more : Mode → ℕ → ℕ → Type 0) → ((mode : Mode) (i j : ℕ) → claims mode i j → more mode i j) → (mode : Mode) (i j : ℕ) → IsJustified book puts claims mode i j → IsJustified book puts more mode i j
  IsJustified-more claims more within mode i j (bot_below e) = bot_below e
  IsJustified-more claims more within mode i j (below_top e) = below_top e
  IsJustified-more claims more within mode i j (join_below l r e h k) = join_below l r e (within mode l.0 j h) (within mode r.0 j k)
  IsJustified-more claims more within mode i j (below_meet l r e h k) = below_meet l r e (within mode i l.0 h) (within mode i r.0 k)
  IsJustified-more claims more within mode i j (first_below l r e h) = first_below l r e (within mode l.0 j h)
  IsJustified-more claims more within mode i j (second_below l r e h) = second_below l r e (within mode r.0 j h)
  IsJustified-more claims more within mode i j (below_first l r e h) = below_first l r e (within mode i l.0 h)
  IsJustified-more claims more within mode i j (below_second l r e h) = below_second l r e (within mode i r.0 h)
  IsJustified-more claims more within mode i j (same_bool e e') = same_bool e e'
  IsJustified-more claims more within mode i j (same_int e e') = same_int e e'
  IsJustified-more claims more within mode i j (same_variable x e e' f f') = same_variable x e e' f f'
  IsJustified-more claims more within mode i j (functions a b c d e e' h k) = functions a b c d e e' (within (exchanged mode) c.0 a.0 h) (within mode b.0 d.0 k)
  IsJustified-more claims more within mode i j (records fields others e e' each) =
      records fields others e e' (λ label k found. let it = each label k found in (it.0, it.1, within mode it.0.0 k.0 it.2))
  IsJustified-more claims more within mode i j (left_variable x n e f h) = left_variable x n e f (within Pp n j h)
  IsJustified-more claims more within mode i j (right_variable x n e f h) = right_variable x n e f (within Pp i n h)
  IsJustified-more claims more within mode i j (same_node e e') = same_node e e'

  module _ (base claims more_base more : Mode → ℕ → ℕ → Type 0) (of_base : (mode : Mode) (i j : ℕ) → base mode i j → more_base mode i j)
      (of_claims : (mode : Mode) (i j : ℕ) → claims mode i j → more mode i j) where
    pub shown_more : (level : Bool) (mode : Mode) (i j : ℕ) → IsShown book puts base claims level mode i j → IsShown book puts more_base more level mode i j
    shown_more level mode i j (based h) = based (of_base mode i j h)
    shown_more level mode i j (claimed e h) = claimed e (of_claims mode i j h)
    shown_more level mode i j (bot_left e) = bot_left e
    shown_more level mode i j (top_right e) = top_right e
    shown_more level mode i j (join_left l r e h k) = join_left l r e (shown_more level mode l.0 j h) (shown_more level mode r.0 j k)
    shown_more level mode i j (meet_right l r e h k) = meet_right l r e (shown_more level mode i l.0 h) (shown_more level mode i r.0 k)
    shown_more level mode i j (meet_first l r e h) = meet_first l r e (shown_more level mode l.0 j h)
    shown_more level mode i j (meet_second l r e h) = meet_second l r e (shown_more level mode r.0 j h)
    shown_more level mode i j (join_first l r e h) = join_first l r e (shown_more level mode i l.0 h)
    shown_more level mode i j (join_second l r e h) = join_second l r e (shown_more level mode i r.0 h)
    shown_more level mode i j (both_bool e f) = both_bool e f
    shown_more level mode i j (both_int e f) = both_int e f
    shown_more level mode i j (one_variable x e f g h) = one_variable x e f g h
    shown_more level mode i j (arrows a b c d e f h k) = arrows a b c d e f (shown_more true (exchanged mode) c.0 a.0 h) (shown_more true mode b.0 d.0 k)
    shown_more level mode i j (rcds fields others e f partner there each) =
        rcds fields others e f partner there (λ label k found. shown_more true mode (partner label k found).0 k.0 (each label k found))
    shown_more level mode i j (put_left x n e f h) = put_left x n e f (shown_more level Pp n j h)
    shown_more level mode i j (put_right x n e f h) = put_right x n e f (shown_more level Pp i n h)
    shown_more level mode i j (same e f) = same e f

no_left : (mode : Mode) (x : ℕ) → left_put mode [] x ≡ None
no_left Lr x = refl
no_left Rl x = refl
no_left Pp x = refl

no_right : (mode : Mode) (x : ℕ) → right_put mode [] x ≡ None
no_right Lr x = refl
no_right Rl x = refl
no_right Pp x = refl

-- modes of this kind read no variable as another node
module _ (book : List Node) (puts : List Put) (base claims more_base more : Mode → ℕ → ℕ → Type 0) (IsPlain : Mode → Type 0)
    (turned : (mode : Mode) → IsPlain mode → IsPlain (exchanged mode))
    (plain_left : (mode : Mode) → IsPlain mode → (x : ℕ) → left_put mode puts x ≡ None) (plain_right : (mode : Mode) → IsPlain mode → (x : ℕ) → right_put mode puts x ≡ None)
    (of_base : (mode other : Mode) (i j : ℕ) → IsPlain mode → base mode i j → more_base other i j)
    (of_claims : (mode other : Mode) (i j : ℕ) → IsPlain mode → claims mode i j → more other i j)
    (itself : (mode : Mode) (i j : ℕ) → i ≡ j → more_base mode i j) where
  pub reread : (level : Bool) (mode other : Mode) (i j : ℕ) → IsPlain mode → IsShown book puts base claims level mode i j → IsShown book [] more_base more level other i j
  reread level mode other i j is (based h) = based (of_base mode other i j is h)
  reread level mode other i j is (claimed e h) = claimed e (of_claims mode other i j is h)
  reread level mode other i j is (bot_left e) = bot_left e
  reread level mode other i j is (top_right e) = top_right e
  reread level mode other i j is (join_left l r e h k) = join_left l r e (reread level mode other l.0 j is h) (reread level mode other r.0 j is k)
  reread level mode other i j is (meet_right l r e h k) = meet_right l r e (reread level mode other i l.0 is h) (reread level mode other i r.0 is k)
  reread level mode other i j is (meet_first l r e h) = meet_first l r e (reread level mode other l.0 j is h)
  reread level mode other i j is (meet_second l r e h) = meet_second l r e (reread level mode other r.0 j is h)
  reread level mode other i j is (join_first l r e h) = join_first l r e (reread level mode other i l.0 is h)
  reread level mode other i j is (join_second l r e h) = join_second l r e (reread level mode other i r.0 is h)
  reread level mode other i j is (both_bool e f) = both_bool e f
  reread level mode other i j is (both_int e f) = both_int e f
  reread level mode other i j is (one_variable x e f g h) = one_variable x e f (no_left other x) (no_right other x)
  reread level mode other i j is (arrows a b c d e f h k) =
      arrows a b c d e f (reread true (exchanged mode) (exchanged other) c.0 a.0 (turned mode is) h) (reread true mode other b.0 d.0 is k)
  reread level mode other i j is (rcds fields others e f partner there each) =
      rcds fields others e f partner there (λ label k found. reread true mode other (partner label k found).0 k.0 is (each label k found))
  reread level mode other i j is (put_left x n e f h) = let none : left_put mode puts x ≡ None = plain_left mode is x in absurd (cc)
  reread level mode other i j is (put_right x n e f h) = let none : right_put mode puts x ≡ None = plain_right mode is x in absurd (cc)
  reread level mode other i j is (same e f) = based (itself other i j f)
