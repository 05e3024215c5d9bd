-- What the check of a subsumption finds is what its rule asks.
use Rattle.std.proofs.Common.{◌≡◌, ◌↔◌, ◌⊎◌, inl, inr, ℕ, suc, ◌<◌, Bool, true, false, List, [], ◌∷◌, length, refl, sym, ap, ◌∙◌, subst, arith, Option, Some, None, cond, nat_eq}
use Rattle.std.specs.Prelude.{All, Contains, find, option_map}
use Rattle.std.specs.FinMap as env
use Rattle.std.proofs.lemmas.Bool.Decides.{Decides-eqb}
use Rattle.std.proofs.lemmas.List.Elements.{All-head, All-tail, All-nil, All-cons, All-contains}
use Rattle.mls_book.specs.declared.book.Node.{Node}
use Rattle.mls_book.specs.declared.book.Node.TheVariants as node
use Rattle.mls_book.specs.Books.{node_at}
use Rattle.mls_deriv.specs.declared.derivation.BinderNode.{BinderNode}
use Rattle.mls_deriv.specs.declared.derivation.Mode.{Mode}
use Rattle.mls_deriv.specs.declared.derivation.Mode.TheVariants.{Rl, Pp}
use Rattle.mls_deriv.specs.declared.derivation.SectionLine.{SectionLine}
use Rattle.mls_deriv.specs.declared.derivation.SectionLine.TheVariants as line
use Rattle.mls_deriv.specs.Pairs.{Put, Pair, put_at, Claims, exchanged, IsJustified, bot_below, below_top, join_below, below_meet, first_below, second_below, below_first, below_second, same_bool, same_int, same_variable, functions, records, left_variable, right_variable, same_node, AreJustified}
use Rattle.mls_deriv.specs.Steps.{puts_of, pairs_of, env_of, IsKept, IsRising}
use Rattle.mls_deriv.specs.inner.Rules.{node_in, IsKeptIn, IsLowPut, AreShown}
use Rattle.mls_deriv.specs.inner.PairRules.{IsShown}
use Rattle.mls_deriv.proofs.PairRules.{by_nodes, from_nodes}
use Rattle.mls_deriv.proofs.StepEnvironments.{env_get}
use Rattle.mls_deriv.proofs.ScopedNames.{first_or_later}

-- a pair is justified by more claims too
pub justified_more : (book : List Node) (puts : List Put) (c d : Mode → ℕ → ℕ → Type 0) → ((m : Mode) (k l : ℕ) → c m k l → d m k l) → (mode : Mode) (i j : ℕ) → IsJustified book puts c mode i j → IsJustified book puts d mode i j
justified_more book puts c d f mode i j (bot_below e) = bot_below e
justified_more book puts c d f mode i j (below_top e) = below_top e
justified_more book puts c d f mode i j (join_below l r e h k) = join_below l r e (f mode l.0 j h) (f mode r.0 j k)
justified_more book puts c d f mode i j (below_meet l r e h k) = below_meet l r e (f mode i l.0 h) (f mode i r.0 k)
justified_more book puts c d f mode i j (first_below l r e h) = first_below l r e (f mode l.0 j h)
justified_more book puts c d f mode i j (second_below l r e h) = second_below l r e (f mode r.0 j h)
justified_more book puts c d f mode i j (below_first l r e h) = below_first l r e (f mode i l.0 h)
justified_more book puts c d f mode i j (below_second l r e h) = below_second l r e (f mode i r.0 h)
justified_more book puts c d f mode i j (same_bool e e') = same_bool e e'
justified_more book puts c d f mode i j (same_int e e') = same_int e e'
justified_more book puts c d f mode i j (same_variable x e e' p q) = same_variable x e e' p q
justified_more book puts c d f mode i j (functions a b a' b' e e' h k) = functions a b a' b' e e' (f (exchanged mode) a'.0 a.0 h) (f mode b.0 b'.0 k)
justified_more book puts c d f mode i j (records fields others e e' each) = records fields others e e' (λ label k found. let it = each label k found in (it.0, it.1, f mode it.0.0 k.0 it.2))
justified_more book puts c d f mode i j (left_variable x n e p h) = left_variable x n e p (f Pp n j h)
justified_more book puts c d f mode i j (right_variable x n e p h) = right_variable x n e p (f Pp i n h)
justified_more book puts c d f mode i j (same_node e e') = same_node e e'

-- an entry that is found
pub entry_there : (es : List BinderNode) (x n : ℕ) → node_in es x ≡ Some n → (e : BinderNode) × Contains es e × (e.binder ≡ x) × (e.node.0 ≡ n)
entry_there [] x n found = absurd (cc)
entry_there (e ∷ es) x n found = go (nat_eq e.binder x) refl (entry_there es x n) found
  where
    go : (b : Bool) → nat_eq e.binder x ≡ b → (node_in es x ≡ Some n → (f : BinderNode) × Contains es f × (f.binder ≡ x) × (f.node.0 ≡ n))
        → option_map (λ (e : BinderNode). e.node.0) (cond b (Some e) (find (λ (e : BinderNode). nat_eq e.binder x) es)) ≡ Some n → (f : BinderNode) × Contains (e ∷ es) f × (f.binder ≡ x) × (f.node.0 ≡ n)
    go true is later found = (e, (0, omega arith, refl), (Decides-eqb e.binder x).0 is, (let same : e.node.0 ≡ n = cc in same))
    go false is later found =
        let it = later found in
        let low : it.1.0 < length es = it.1.1 in
        (it.0, (suc it.1.0, omega arith, it.1.2), it.2, it.3)

-- an entry of a list that rises is found
pub entry_found : (es : List BinderNode) → IsRising es → (e : BinderNode) → Contains es e → node_in es e.binder ≡ Some e.node.0
entry_found [] rising e there = absurd (let low : there.0 < 0 = there.1 in omega arith)
entry_found (f ∷ es) rising e there = go (entry_found es rising.1 e) (first_or_later f es e there)
  where
    go : (Contains es e → node_in es e.binder ≡ Some e.node.0) → (f ≡ e) ⊎ Contains es e → node_in (f ∷ es) e.binder ≡ Some e.node.0
    go rest (inl same) =
        let yes : nat_eq f.binder e.binder ≡ true = (Decides-eqb f.binder e.binder).1 (ap (λ (g : BinderNode). g.binder) same) in
        ap (λ b. option_map (λ (g : BinderNode). g.node.0) (cond b (Some f) (find (λ (g : BinderNode). nat_eq g.binder e.binder) es))) yes ∙ ap (λ (g : BinderNode). Some g.node.0) same
    go rest (inr later) =
        let less : f.binder < e.binder = All-contains (λ (g : BinderNode). f.binder < g.binder) es e rising.0 later in
        by_test (nat_eq f.binder e.binder) refl less
      where
        by_test : (b : Bool) → nat_eq f.binder e.binder ≡ b → f.binder < e.binder → option_map (λ (g : BinderNode). g.node.0) (cond b (Some f) (find (λ (g : BinderNode). nat_eq g.binder e.binder) es)) ≡ Some e.node.0
        by_test true is less = absurd (let same : f.binder ≡ e.binder = (Decides-eqb f.binder e.binder).0 is in omega arith)
        by_test false is less = rest later

pub all_of : (P : BinderNode → Type 0) (es : List BinderNode) → ((e : BinderNode) → Contains es e → P e) → All P es
all_of P [] h = All-nil P
all_of P (e ∷ es) h = All-cons P e es (h e (0, omega arith, refl)) (all_of P es (λ f there. h f (suc there.0, (let low : there.0 < length es = there.1 in omega arith), there.2)))

module _ (book : List Node) (whole : List SectionLine) (put : ℕ → Option ℕ) (claims : Mode → ℕ → ℕ → Type 0)
    (put_is : (x : ℕ) → put x ≡ put_at (puts_of whole) x)
    (same : (m : Mode) (k l : ℕ) → claims m k l ↔ Claims (pairs_of whole) m k l) where
  puts_are : put ≡ put_at (puts_of whole)
  puts_are = λ i x. put_is x i

  justified_to : (mode : Mode) (i j : ℕ) → IsShown book put claims mode i j → IsJustified book (puts_of whole) (Claims (pairs_of whole)) mode i j
  justified_to mode i j h =
      justified_more book (puts_of whole) claims (Claims (pairs_of whole)) (λ m k l. (same m k l).0) mode i j
      (from_nodes book (puts_of whole) claims mode i j (subst (λ put. IsShown book put claims mode i j) puts_are h))

  justified_from : (mode : Mode) (i j : ℕ) → IsJustified book (puts_of whole) (Claims (pairs_of whole)) mode i j → IsShown book put claims mode i j
  justified_from mode i j h =
      subst (λ put. IsShown book put claims mode i j) (sym puts_are)
      (by_nodes book (puts_of whole) claims mode i j (justified_more book (puts_of whole) (Claims (pairs_of whole)) claims (λ m k l. (same m k l).1) mode i j h))

  abbrev Justified : Pair → Type 0
  Justified pair = IsJustified book (puts_of whole) (Claims (pairs_of whole)) pair.mode pair.left pair.right

  all_justified : (lines : List SectionLine) → AreShown book put claims lines → All Justified (pairs_of lines)
  all_justified [] h = All-nil Justified
  all_justified (line.Let k n ∷ rest) h = All-nil Justified
  all_justified (line.Step step ∷ rest) h = All-nil Justified
  all_justified (line.Put x n ∷ rest) h = all_justified rest h.1
  all_justified (line.Pair mode i j ∷ rest) h = All-cons Justified _ (pairs_of rest) (justified_to mode i.0 j.0 h.0) (all_justified rest h.1)

  low_put : (lines : List SectionLine) → AreShown book put claims lines → (x m : ℕ) → put_at (puts_of lines) x ≡ Some m → IsLowPut book (put x)
  low_put [] h x m e = absurd (cc)
  low_put (line.Let k n ∷ rest) h x m e = absurd (cc)
  low_put (line.Step step ∷ rest) h x m e = absurd (cc)
  low_put (line.Pair mode i j ∷ rest) h x m e = low_put rest h.1 x m e
  low_put (line.Put y n ∷ rest) h x m e = go (λ e. low_put rest h.1 x m e) (nat_eq y x) refl e
    where
      go : (put_at (puts_of rest) x ≡ Some m → IsLowPut book (put x)) → (b : Bool) → nat_eq y x ≡ b → option_map (λ (p : Put). p.node) (cond b (Some (record { variable = y; node = n.0 })) (find (λ (p : Put). nat_eq p.variable x) (puts_of rest))) ≡ Some m → IsLowPut book (put x)
      go later true is e = subst (λ z. IsLowPut book (put z)) ((Decides-eqb y x).0 is) h.0
      go later false is e = later e

  pub lows : AreShown book put claims whole → (x n : ℕ) → put_at (puts_of whole) x ≡ Some n → n < length book
  lows h x n e = subst (IsLowPut book) (put_is x ∙ e) (low_put whole h x n e)

  pub justified : AreShown book put claims whole → AreJustified book (puts_of whole) (pairs_of whole)
  justified h = all_justified whole h

  shown_from : ((x n : ℕ) → put_at (puts_of whole) x ≡ Some n → n < length book) → (lines : List SectionLine) → All Justified (pairs_of lines) → AreShown book put claims lines
  shown_from low [] all = tt
  shown_from low (line.Let k n ∷ rest) all = tt
  shown_from low (line.Step step ∷ rest) all = tt
  shown_from low (line.Put x n ∷ rest) all = (at (put x) refl, shown_from low rest all)
    where
      at : (o : Option ℕ) → put x ≡ o → IsLowPut book o
      at None e = tt
      at (Some n) e = low x n (sym (put_is x) ∙ e)
  shown_from low (line.Pair mode i j ∷ rest) all = (justified_from mode i.0 j.0 (All-head Justified _ (pairs_of rest) all), shown_from low rest (All-tail Justified _ (pairs_of rest) all))

  pub shown : ((x n : ℕ) → put_at (puts_of whole) x ≡ Some n → n < length book) → AreJustified book (puts_of whole) (pairs_of whole) → AreShown book put claims whole
  shown low all = shown_from low whole all

  pub kept_to : (es fs : List BinderNode) → All (λ entry. IsKeptIn book claims (node_in fs entry.binder) entry.node.0) es
      → (x n : ℕ) → env.get (env_of es) x ≡ Some n → IsKept book (pairs_of whole) (env.get (env_of fs) x) n
  kept_to es fs all x n found =
      let it = entry_there es x n (sym (env_get es x) ∙ found) in
      go (node_in fs x) (env_get fs x)
      (subst (λ k. IsKeptIn book claims (node_in fs x) k) it.3 (subst (λ y. IsKeptIn book claims (node_in fs y) it.0.node.0) it.2
      (All-contains (λ (entry : BinderNode). IsKeptIn book claims (node_in fs entry.binder) entry.node.0) es it.0 all it.1)))
    where
      go : (o : Option ℕ) → env.get (env_of fs) x ≡ o → IsKeptIn book claims o n → IsKept book (pairs_of whole) (env.get (env_of fs) x) n
      go None e h = inr h
      go (Some m) e (inl h) = inl (m, e, (same Rl m n).0 h)
      go (Some m) e (inr h) = inr h

  pub kept_from : (es fs : List BinderNode) → IsRising es → ((x n : ℕ) → env.get (env_of es) x ≡ Some n → IsKept book (pairs_of whole) (env.get (env_of fs) x) n)
      → All (λ entry. IsKeptIn book claims (node_in fs entry.binder) entry.node.0) es
  kept_from es fs rising h = all_of (λ entry. IsKeptIn book claims (node_in fs entry.binder) entry.node.0) es
      (λ e there. go e (node_in fs e.binder) (env_get fs e.binder) (h e.binder e.node.0 (env_get es e.binder ∙ entry_found es rising e there)))
    where
      top : (n : ℕ) (o : Option ℕ) → node_at book n ≡ node.Top → IsKeptIn book claims o n
      top n None e = e
      top n (Some m) e = inr e

      go : (e : BinderNode) (o : Option ℕ) → env.get (env_of fs) e.binder ≡ o → IsKept book (pairs_of whole) (env.get (env_of fs) e.binder) e.node.0 → IsKeptIn book claims o e.node.0
      go e o is (inr h) = top e.node.0 o h
      go e None is (inl (m, found, h)) = absurd (let no : None ≡ Some m = sym is ∙ found in cc)
      go e (Some k) is (inl (m, found, h)) =
          let both : Some k ≡ Some m = sym is ∙ found in
          let same' : k ≡ m = cc in
          inl (subst (λ i. claims Rl i e.node.0) (sym same') ((same Rl m e.node.0).1 h))
