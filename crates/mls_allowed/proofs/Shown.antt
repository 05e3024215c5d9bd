-- What follows from claims that are justified up to what follows from them.
--     shown_justified     it justifies itself, so it is what a list of pairs may hold
--     by_rule             and what it justifies follows
use Rattle.std.proofs.Common.{◌≡◌, ℕ, Bool, true, false, List, refl, subst}
use Rattle.mls_book.specs.declared.book.Node.{Node}
use Rattle.mls_deriv.specs.declared.derivation.Mode.{Mode}
use Rattle.mls_deriv.specs.declared.derivation.Mode.TheVariants.{Pp}
use Rattle.mls_deriv.specs.Pairs.{IsJustified, bot_below, below_top, join_below, below_meet, first_below, second_below, below_first, below_second, same_bool, same_int, same_variable, functions, records, left_variable, right_variable, same_node}
use Rattle.mls_deriv.specs.declared.claim.Put.{Put}
use Rattle.mls_layout.specs.Shown.{IsShown, based, claimed, bot_left, top_right, join_left, meet_right, meet_first, meet_second, join_first, join_second, both_bool, both_int, one_variable, arrows, rcds, put_left, put_right, same, AreShown}

module _ (book : List Node) (puts : List Put) (base claims : Mode → ℕ → ℕ → Type 0) where
  abbrev Shown : Mode → ℕ → ℕ → Type 0
  Shown = IsShown book puts base claims true

  -- at the higher level all follows that follows at the lower one
  raised : (level : Bool) → level ≡ false → (mode : Mode) (i j : ℕ) → IsShown book puts base claims level mode i j → Shown mode i j
  raised level is mode i j (based h) = based h
  raised level is mode i j (claimed e h) = absurd (cc)
  raised level is mode i j (bot_left e) = bot_left e
  raised level is mode i j (top_right e) = top_right e
  raised level is mode i j (join_left l r e h k) = join_left l r e (raised level is mode l.0 j h) (raised level is mode r.0 j k)
  raised level is mode i j (meet_right l r e h k) = meet_right l r e (raised level is mode i l.0 h) (raised level is mode i r.0 k)
  raised level is mode i j (meet_first l r e h) = meet_first l r e (raised level is mode l.0 j h)
  raised level is mode i j (meet_second l r e h) = meet_second l r e (raised level is mode r.0 j h)
  raised level is mode i j (join_first l r e h) = join_first l r e (raised level is mode i l.0 h)
  raised level is mode i j (join_second l r e h) = join_second l r e (raised level is mode i r.0 h)
  raised level is mode i j (both_bool e f) = both_bool e f
  raised level is mode i j (both_int e f) = both_int e f
  raised level is mode i j (one_variable x e f g h) = one_variable x e f g h
  raised level is mode i j (arrows a b c d e f h k) = arrows a b c d e f h k
  raised level is mode i j (rcds fields others e f partner there each) = rcds fields others e f partner there each
  raised level is mode i j (put_left x n e f h) = put_left x n e f (raised level is Pp n j h)
  raised level is mode i j (put_right x n e f h) = put_right x n e f (raised level is Pp i n h)
  raised level is mode i j (same e f) = same e f

  basic_justified : AreShown book puts base claims → (level : Bool) (mode : Mode) (i j : ℕ) → level ≡ false → IsShown book puts base claims level mode i j → IsJustified book puts Shown mode i j
  basic_justified all level mode i j is (claimed e h) = absurd (cc)
  basic_justified all level mode i j is (based h) = all.basic mode i j h
  basic_justified all level mode i j is (bot_left e) = bot_below e
  basic_justified all level mode i j is (top_right e) = below_top e
  basic_justified all level mode i j is (join_left l r e h k) = join_below l r e (raised level is mode l.0 j h) (raised level is mode r.0 j k)
  basic_justified all level mode i j is (meet_right l r e h k) = below_meet l r e (raised level is mode i l.0 h) (raised level is mode i r.0 k)
  basic_justified all level mode i j is (meet_first l r e h) = first_below l r e (raised level is mode l.0 j h)
  basic_justified all level mode i j is (meet_second l r e h) = second_below l r e (raised level is mode r.0 j h)
  basic_justified all level mode i j is (join_first l r e h) = below_first l r e (raised level is mode i l.0 h)
  basic_justified all level mode i j is (join_second l r e h) = below_second l r e (raised level is mode i r.0 h)
  basic_justified all level mode i j is (both_bool e f) = same_bool e f
  basic_justified all level mode i j is (both_int e f) = same_int e f
  basic_justified all level mode i j is (one_variable x e f g h) = same_variable x e f g h
  basic_justified all level mode i j is (arrows a b c d e f h k) = functions a b c d e f h k
  basic_justified all level mode i j is (rcds fields others e f partner there each) =
      records fields others e f (λ label k found. (partner label k found, there label k found, each label k found))
  basic_justified all level mode i j is (put_left x n e f h) = left_variable x n e f (raised level is Pp n j h)
  basic_justified all level mode i j is (put_right x n e f h) = right_variable x n e f (raised level is Pp i n h)
  basic_justified all level mode i j is (same e f) = same_node e f

  at : (level : Bool) → level ≡ true → (mode : Mode) (i j : ℕ) → IsShown book puts base claims level mode i j → Shown mode i j
  at level is mode i j h = subst (λ z. IsShown book puts base claims z mode i j) is h

  from_true : AreShown book puts base claims → (level : Bool) (mode : Mode) (i j : ℕ) → level ≡ true → IsShown book puts base claims level mode i j → IsJustified book puts Shown mode i j
  from_true all level mode i j is (based h) = all.basic mode i j h
  from_true all level mode i j is (claimed e h) = basic_justified all false mode i j refl (all.others mode i j h)
  from_true all level mode i j is (bot_left e) = bot_below e
  from_true all level mode i j is (top_right e) = below_top e
  from_true all level mode i j is (join_left l r e h k) = join_below l r e (at level is mode l.0 j h) (at level is mode r.0 j k)
  from_true all level mode i j is (meet_right l r e h k) = below_meet l r e (at level is mode i l.0 h) (at level is mode i r.0 k)
  from_true all level mode i j is (meet_first l r e h) = first_below l r e (at level is mode l.0 j h)
  from_true all level mode i j is (meet_second l r e h) = second_below l r e (at level is mode r.0 j h)
  from_true all level mode i j is (join_first l r e h) = below_first l r e (at level is mode i l.0 h)
  from_true all level mode i j is (join_second l r e h) = below_second l r e (at level is mode i r.0 h)
  from_true all level mode i j is (both_bool e f) = same_bool e f
  from_true all level mode i j is (both_int e f) = same_int e f
  from_true all level mode i j is (one_variable x e f g h) = same_variable x e f g h
  from_true all level mode i j is (arrows a b c d e f h k) = functions a b c d e f h k
  from_true all level mode i j is (rcds fields others e f partner there each) =
      records fields others e f (λ label k found. (partner label k found, there label k found, each label k found))
  from_true all level mode i j is (put_left x n e f h) = left_variable x n e f (at level is Pp n j h)
  from_true all level mode i j is (put_right x n e f h) = right_variable x n e f (at level is Pp i n h)
  from_true all level mode i j is (same e f) = same_node e f

  pub shown_justified : AreShown book puts base claims → (mode : Mode) (i j : ℕ) → Shown mode i j → IsJustified book puts Shown mode i j
  shown_justified all mode i j h = from_true all true mode i j refl h

  pub by_rule : (mode : Mode) (i j : ℕ) → IsJustified book puts Shown mode i j → Shown mode i j
  by_rule mode i j (bot_below e) = bot_left e
  by_rule mode i j (below_top e) = top_right e
  by_rule mode i j (join_below l r e h k) = join_left l r e h k
  by_rule mode i j (below_meet l r e h k) = meet_right l r e h k
  by_rule mode i j (first_below l r e h) = meet_first l r e h
  by_rule mode i j (second_below l r e h) = meet_second l r e h
  by_rule mode i j (below_first l r e h) = join_first l r e h
  by_rule mode i j (below_second l r e h) = join_second l r e h
  by_rule mode i j (same_bool e f) = both_bool e f
  by_rule mode i j (same_int e f) = both_int e f
  by_rule mode i j (same_variable x e f g h) = one_variable x e f g h
  by_rule mode i j (functions a b c d e f h k) = arrows a b c d e f h k
  by_rule mode i j (records fields others e f each) =
      rcds fields others e f (λ label k found. (each label k found).0) (λ label k found. (each label k found).1) (λ label k found. (each label k found).2)
  by_rule mode i j (left_variable x n e f h) = put_left x n e f h
  by_rule mode i j (right_variable x n e f h) = put_right x n e f h
  by_rule mode i j (same_node e f) = same e f
