-- How many binders and lets are among the nodes of a tree, and that the numbers of its parts are below those of its nodes.
use Rattle.std.proofs.Common.{◌≡◌, ℕ, suc, ◌+◌, ◌<◌, ◌≤◌, Bool, cond, List, [], ◌∷◌, ◌++◌, length, get_or, take, refl, sym, ap, subst, ◌∙◌, arith, All, length-append, length-take}
use Rattle.std.specs.List.{count_by}
use Rattle.std.proofs.lemmas.List.{append_assoc, take_at, get_or_default}
use Rattle.std.proofs.lemmas.List.Elements.{All-nil, All-cons, All-append}
use Rattle.std.proofs.lemmas.List.Sums.{sum_by-append, count_by-le-length}
use Rattle.mls_names.specs.declared.counts.Count.{Count}
use Rattle.mls_grammar.specs.declared.module.ExprNode.{ExprNode}
use Rattle.mls_grammar.specs.declared.module.Form.TheVariants as form
use Rattle.mls_term.specs.declared.term.Part.{Part}
use Rattle.mls_grammar.specs.Trees.{Tree, a_name, an_operator, a_number, a_truth, a_fun, a_fix, a_let, an_if, an_apply, a_make, a_project, Fields, no_field, a_field, before, field_nodes, field_roots, postorder, field_postorder}
use Rattle.mls_names.specs.Resolution.{binders, lets, field_binders, field_lets}
use Rattle.mls_names.specs.steps.Counts.{is_binder_form, is_let_form, count_of, count_at, AreCounts}
use Rattle.mls_names.specs.steps.Walks.{HasPartsBelow, IsCountBelow}
use Rattle.mls_names.proofs.Walking.{Grows, Counted, AreCounted, one_before, two_before, three_before}

abbrev is_binder : ExprNode → Bool
is_binder node = is_binder_form node.form

abbrev is_let : ExprNode → Bool
is_let node = is_let_form node.form

count_by-append : (p : ExprNode → Bool) (xs ys : List ExprNode) → count_by p (xs ++ ys) ≡ count_by p xs + count_by p ys
count_by-append p xs ys = sum_by-append (λ x. cond (p x) 1 0) xs ys

-- the binders and lets of a tree are among its nodes
mutual
  unfolding postorder binders

  pub binders_are : (t : Tree) (n : ℕ) → count_by is_binder (postorder n t) ≡ binders t
  binders_are (a_name at x) n = refl
  binders_are (an_operator at o) n = refl
  binders_are (a_number at value) n = refl
  binders_are (a_truth at value) n = refl
  binders_are (a_fun at x e) n = omega (arith, count_by-append is_binder (postorder n e) (record { at = at; form = form.Fun x (n + before e) } ∷ []), binders_are e n)
  binders_are (a_fix at x e) n = omega (arith, count_by-append is_binder (postorder n e) (record { at = at; form = form.Rec x (n + before e) } ∷ []), binders_are e n)
  binders_are (a_let at x e f) n =
      let m = n + suc (before e) in
      omega (arith, count_by-append is_binder (postorder n e ++ postorder m f) (record { at = at; form = form.Let x (n + before e) (m + before f) } ∷ []), count_by-append is_binder (postorder n e) (postorder m f), binders_are e n, binders_are f m)
  binders_are (an_if at c e f) n =
      let m = n + suc (before c) in
      let l = m + suc (before e) in
      omega (arith, count_by-append is_binder (postorder n c ++ postorder m e ++ postorder l f) (record { at = at; form = form.If (n + before c) (m + before e) (l + before f) } ∷ []), count_by-append is_binder (postorder n c ++ postorder m e) (postorder l f), count_by-append is_binder (postorder n c) (postorder m e), binders_are c n, binders_are e m, binders_are f l)
  binders_are (an_apply at e f) n =
      let m = n + suc (before e) in
      omega (arith, count_by-append is_binder (postorder n e ++ postorder m f) (record { at = at; form = form.Apply (n + before e) (m + before f) } ∷ []), count_by-append is_binder (postorder n e) (postorder m f), binders_are e n, binders_are f m)
  binders_are (a_make at fields) n = omega (arith, count_by-append is_binder (field_postorder n fields) (record { at = at; form = form.Make (field_roots n fields) } ∷ []), field_binders_are fields n)
  binders_are (a_project at e label) n = omega (arith, count_by-append is_binder (postorder n e) (record { at = at; form = form.Project (n + before e) label } ∷ []), binders_are e n)

  field_binders_are : (fields : Fields) (n : ℕ) → count_by is_binder (field_postorder n fields) ≡ field_binders fields
  field_binders_are no_field n = refl
  field_binders_are (a_field label e rest) n =
      omega (arith, count_by-append is_binder (postorder n e) (field_postorder (n + suc (before e)) rest), binders_are e n, field_binders_are rest (n + suc (before e)))

mutual
  unfolding postorder lets

  pub lets_are : (t : Tree) (n : ℕ) → count_by is_let (postorder n t) ≡ lets t
  lets_are (a_name at x) n = refl
  lets_are (an_operator at o) n = refl
  lets_are (a_number at value) n = refl
  lets_are (a_truth at value) n = refl
  lets_are (a_fun at x e) n = omega (arith, count_by-append is_let (postorder n e) (record { at = at; form = form.Fun x (n + before e) } ∷ []), lets_are e n)
  lets_are (a_fix at x e) n = omega (arith, count_by-append is_let (postorder n e) (record { at = at; form = form.Rec x (n + before e) } ∷ []), lets_are e n)
  lets_are (a_let at x e f) n =
      let m = n + suc (before e) in
      omega (arith, count_by-append is_let (postorder n e ++ postorder m f) (record { at = at; form = form.Let x (n + before e) (m + before f) } ∷ []), count_by-append is_let (postorder n e) (postorder m f), lets_are e n, lets_are f m)
  lets_are (an_if at c e f) n =
      let m = n + suc (before c) in
      let l = m + suc (before e) in
      omega (arith, count_by-append is_let (postorder n c ++ postorder m e ++ postorder l f) (record { at = at; form = form.If (n + before c) (m + before e) (l + before f) } ∷ []), count_by-append is_let (postorder n c ++ postorder m e) (postorder l f), count_by-append is_let (postorder n c) (postorder m e), lets_are c n, lets_are e m, lets_are f l)
  lets_are (an_apply at e f) n =
      let m = n + suc (before e) in
      omega (arith, count_by-append is_let (postorder n e ++ postorder m f) (record { at = at; form = form.Apply (n + before e) (m + before f) } ∷ []), count_by-append is_let (postorder n e) (postorder m f), lets_are e n, lets_are f m)
  lets_are (a_make at fields) n = omega (arith, count_by-append is_let (field_postorder n fields) (record { at = at; form = form.Make (field_roots n fields) } ∷ []), field_lets_are fields n)
  lets_are (a_project at e label) n = omega (arith, count_by-append is_let (postorder n e) (record { at = at; form = form.Project (n + before e) label } ∷ []), lets_are e n)

  field_lets_are : (fields : Fields) (n : ℕ) → count_by is_let (field_postorder n fields) ≡ field_lets fields
  field_lets_are no_field n = refl
  field_lets_are (a_field label e rest) n =
      omega (arith, count_by-append is_let (postorder n e) (field_postorder (n + suc (before e)) rest), lets_are e n, field_lets_are rest (n + suc (before e)))

-- a tree has one node more than before its root
mutual
  unfolding postorder before

  pub length_is : (t : Tree) (n : ℕ) → length (postorder n t) ≡ suc (before t)
  length_is (a_name at x) n = refl
  length_is (an_operator at o) n = refl
  length_is (a_number at value) n = refl
  length_is (a_truth at value) n = refl
  length_is (a_fun at x e) n = omega (arith, length-append (postorder n e) (record { at = at; form = form.Fun x (n + before e) } ∷ []), length_is e n)
  length_is (a_fix at x e) n = omega (arith, length-append (postorder n e) (record { at = at; form = form.Rec x (n + before e) } ∷ []), length_is e n)
  length_is (a_let at x e f) n =
      let m = n + suc (before e) in
      omega (arith, length-append (postorder n e ++ postorder m f) (record { at = at; form = form.Let x (n + before e) (m + before f) } ∷ []), length-append (postorder n e) (postorder m f), length_is e n, length_is f m)
  length_is (an_if at c e f) n =
      let m = n + suc (before c) in
      let l = m + suc (before e) in
      omega (arith, length-append (postorder n c ++ postorder m e ++ postorder l f) (record { at = at; form = form.If (n + before c) (m + before e) (l + before f) } ∷ []), length-append (postorder n c ++ postorder m e) (postorder l f), length-append (postorder n c) (postorder m e), length_is c n, length_is e m, length_is f l)
  length_is (an_apply at e f) n =
      let m = n + suc (before e) in
      omega (arith, length-append (postorder n e ++ postorder m f) (record { at = at; form = form.Apply (n + before e) (m + before f) } ∷ []), length-append (postorder n e) (postorder m f), length_is e n, length_is f m)
  length_is (a_make at fields) n = omega (arith, length-append (field_postorder n fields) (record { at = at; form = form.Make (field_roots n fields) } ∷ []), fields_length_is fields n)
  length_is (a_project at e label) n = omega (arith, length-append (postorder n e) (record { at = at; form = form.Project (n + before e) label } ∷ []), length_is e n)

  fields_length_is : (fields : Fields) (n : ℕ) → length (field_postorder n fields) ≡ field_nodes fields
  fields_length_is no_field n = refl
  fields_length_is (a_field label e rest) n =
      omega (arith, length-append (postorder n e) (field_postorder (n + suc (before e)) rest), length_is e n, fields_length_is rest (n + suc (before e)))

module _ (whole : List ExprNode) (counts : List Count) (all : AreCounts whole counts) where
  -- what stands before a node
  module _ (pre rest : List ExprNode) (n : ℕ) (is : whole ≡ pre ++ rest) (len : length pre ≡ n) where
    count_is : count_at counts n ≡ count_of pre
    count_is =
        let bound : n ≤ length whole = omega (arith, ap length is, length-append pre rest) in
        all.each n bound ∙ ap count_of (ap (take n) is ∙ take_at pre rest n len)

  grows : (t : Tree) (n : ℕ) (pre post : List ExprNode) → whole ≡ pre ++ (postorder n t ++ post) → length pre ≡ n → Grows counts n t
  grows t n pre post is len =
      let here : count_at counts n ≡ count_of pre = count_is pre (postorder n t ++ post) n is len in
      let behind : count_at counts (n + suc (before t)) ≡ count_of (pre ++ postorder n t) =
      count_is (pre ++ postorder n t) post (n + suc (before t)) (is ∙ sym (append_assoc pre (postorder n t) post))
      (length-append pre (postorder n t) ∙ (λ i. len i + length_is t n i)) in
      record {
        more_binders =
            ap (λ (c : Count). c.binders) behind
            ∙ count_by-append is_binder pre (postorder n t)
            ∙ (λ i. sym (ap (λ (c : Count). c.binders) here) i + binders_are t n i);
        more_lets =
            ap (λ (c : Count). c.lets) behind
            ∙ count_by-append is_let pre (postorder n t)
            ∙ (λ i. sym (ap (λ (c : Count). c.lets) here) i + lets_are t n i);
      }

  more_length : (t : Tree) (n : ℕ) (pre : List ExprNode) → length pre ≡ n → length (pre ++ postorder n t) ≡ n + suc (before t)
  more_length t n pre len = length-append pre (postorder n t) ∙ (λ i. len i + length_is t n i)

  mutual
    unfolding postorder

    pub counted : (t : Tree) (n : ℕ) (pre post : List ExprNode) → whole ≡ pre ++ (postorder n t ++ post) → length pre ≡ n → Counted counts n t
    counted (a_name at x) n pre post is len = tt
    counted (an_operator at o) n pre post is len = tt
    counted (a_number at value) n pre post is len = tt
    counted (a_truth at value) n pre post is len = tt
    counted (a_fun at x e) n pre post is len =
        counted e n pre _ (is ∙ ap (λ ns. pre ++ ns) (one_before (postorder n e) (record { at = at; form = form.Fun x (n + before e) }) post)) len
    counted (a_fix at x e) n pre post is len =
        counted e n pre _ (is ∙ ap (λ ns. pre ++ ns) (one_before (postorder n e) (record { at = at; form = form.Rec x (n + before e) }) post)) len
    counted (a_project at e label) n pre post is len =
        counted e n pre _ (is ∙ ap (λ ns. pre ++ ns) (one_before (postorder n e) (record { at = at; form = form.Project (n + before e) label }) post)) len
    counted (a_let at x e f) n pre post is len =
        let m = n + suc (before e) in
        let node : ExprNode = record { at = at; form = form.Let x (n + before e) (m + before f) } in
        let first : whole ≡ pre ++ (postorder n e ++ (postorder m f ++ (node ∷ post))) = is ∙ ap (λ ns. pre ++ ns) (two_before (postorder n e) (postorder m f) node post) in
        let second : whole ≡ (pre ++ postorder n e) ++ (postorder m f ++ (node ∷ post)) = first ∙ sym (append_assoc pre (postorder n e) (postorder m f ++ (node ∷ post))) in
        (grows e n pre (postorder m f ++ (node ∷ post)) first len, counted e n pre (postorder m f ++ (node ∷ post)) first len, counted f m (pre ++ postorder n e) (node ∷ post) second (more_length e n pre len))
    counted (an_apply at e f) n pre post is len =
        let m = n + suc (before e) in
        let node : ExprNode = record { at = at; form = form.Apply (n + before e) (m + before f) } in
        let first : whole ≡ pre ++ (postorder n e ++ (postorder m f ++ (node ∷ post))) = is ∙ ap (λ ns. pre ++ ns) (two_before (postorder n e) (postorder m f) node post) in
        let second : whole ≡ (pre ++ postorder n e) ++ (postorder m f ++ (node ∷ post)) = first ∙ sym (append_assoc pre (postorder n e) (postorder m f ++ (node ∷ post))) in
        (grows e n pre (postorder m f ++ (node ∷ post)) first len, counted e n pre (postorder m f ++ (node ∷ post)) first len, counted f m (pre ++ postorder n e) (node ∷ post) second (more_length e n pre len))
    counted (an_if at c e f) n pre post is len =
        let m = n + suc (before c) in
        let l = m + suc (before e) in
        let node : ExprNode = record { at = at; form = form.If (n + before c) (m + before e) (l + before f) } in
        let last : List ExprNode = postorder l f ++ (node ∷ post) in
        let first : whole ≡ pre ++ (postorder n c ++ (postorder m e ++ last)) = is ∙ ap (λ ns. pre ++ ns) (three_before (postorder n c) (postorder m e) (postorder l f) node post) in
        let second : whole ≡ (pre ++ postorder n c) ++ (postorder m e ++ last) = first ∙ sym (append_assoc pre (postorder n c) (postorder m e ++ last)) in
        let third : whole ≡ ((pre ++ postorder n c) ++ postorder m e) ++ last = second ∙ sym (append_assoc (pre ++ postorder n c) (postorder m e) last) in
        let len' : length (pre ++ postorder n c) ≡ m = more_length c n pre len in
        (grows c n pre (postorder m e ++ last) first len, counted c n pre (postorder m e ++ last) first len, grows e m (pre ++ postorder n c) last second len', counted e m (pre ++ postorder n c) last second len', counted f l ((pre ++ postorder n c) ++ postorder m e) (node ∷ post) third (more_length e m (pre ++ postorder n c) len'))
    counted (a_make at fields) n pre post is len =
        are_counted fields n pre _ (is ∙ ap (λ ns. pre ++ ns) (one_before (field_postorder n fields) (record { at = at; form = form.Make (field_roots n fields) }) post)) len

    are_counted : (fields : Fields) (n : ℕ) (pre post : List ExprNode) → whole ≡ pre ++ (field_postorder n fields ++ post) → length pre ≡ n → AreCounted counts n fields
    are_counted no_field n pre post is len = tt
    are_counted (a_field label e rest) n pre post is len =
        let m = n + suc (before e) in
        let first : whole ≡ pre ++ (postorder n e ++ (field_postorder m rest ++ post)) = is ∙ ap (λ ns. pre ++ ns) (append_assoc (postorder n e) (field_postorder m rest) post) in
        let second : whole ≡ (pre ++ postorder n e) ++ (field_postorder m rest ++ post) = first ∙ sym (append_assoc pre (postorder n e) (field_postorder m rest ++ post)) in
        (grows e n pre (field_postorder m rest ++ post) first len, counted e n pre (field_postorder m rest ++ post) first len, are_counted rest m (pre ++ postorder n e) post second (more_length e n pre len))

  -- each count is below how many counts there are
  pub counts_below : All (λ (count : Count). IsCountBelow (length counts) count) counts
  counts_below k d inside =
      let within : k ≤ length whole = omega (arith, all.length_is) in
      let is : get_or counts k d ≡ count_of (take k whole) = get_or_default counts k d (record { binders = 0; lets = 0 }) inside ∙ all.each k within in
      subst (λ (count : Count). IsCountBelow (length counts) count) (sym is) (record {
        binders = omega (arith, all.length_is, count_by-le-length is_binder (take k whole), length-take k whole);
        lets = omega (arith, all.length_is, count_by-le-length is_let (take k whole), length-take k whole);
      })

abbrev AreBelow : ℕ → List ExprNode → Type 0
AreBelow limit nodes = All (λ (node : ExprNode). HasPartsBelow limit node.form) nodes

one : (limit : ℕ) (node : ExprNode) → HasPartsBelow limit node.form → AreBelow limit (node ∷ [])
one limit node h = All-cons (λ (node : ExprNode). HasPartsBelow limit node.form) node [] h (All-nil (λ (node : ExprNode). HasPartsBelow limit node.form))

both : (limit : ℕ) (xs ys : List ExprNode) → AreBelow limit xs → AreBelow limit ys → AreBelow limit (xs ++ ys)
both limit xs ys h k = All-append (λ (node : ExprNode). HasPartsBelow limit node.form) xs ys h k

more : (limit : ℕ) (xs : List ExprNode) (node : ExprNode) → AreBelow limit xs → HasPartsBelow limit node.form → AreBelow limit (xs ++ node ∷ [])
more limit xs node h k = both limit xs (node ∷ []) h (one limit node k)

-- the numbers of the parts of the nodes of a tree are below a number that is behind them
mutual
  unfolding postorder before field_roots

  pub parts_below : (t : Tree) (n limit : ℕ) → n + suc (before t) ≤ limit → AreBelow limit (postorder n t)
  parts_below (a_name at x) n limit h = one limit (record { at = at; form = form.Var x }) tt
  parts_below (an_operator at o) n limit h = one limit (record { at = at; form = form.Operator o }) tt
  parts_below (a_number at value) n limit h = one limit (record { at = at; form = form.Number value }) tt
  parts_below (a_truth at value) n limit h = one limit (record { at = at; form = form.Truth value }) tt
  parts_below (a_fun at x e) n limit h = more limit (postorder n e) (record { at = at; form = form.Fun x (n + before e) }) (parts_below e n limit (omega arith)) (omega arith)
  parts_below (a_fix at x e) n limit h = more limit (postorder n e) (record { at = at; form = form.Rec x (n + before e) }) (parts_below e n limit (omega arith)) (omega arith)
  parts_below (a_project at e label) n limit h = more limit (postorder n e) (record { at = at; form = form.Project (n + before e) label }) (parts_below e n limit (omega arith)) (omega arith)
  parts_below (a_let at x e f) n limit h =
      let m = n + suc (before e) in
      more limit (postorder n e ++ postorder m f) (record { at = at; form = form.Let x (n + before e) (m + before f) })
      (both limit (postorder n e) (postorder m f) (parts_below e n limit (omega arith)) (parts_below f m limit (omega arith))) (omega arith, omega arith)
  parts_below (an_apply at e f) n limit h =
      let m = n + suc (before e) in
      more limit (postorder n e ++ postorder m f) (record { at = at; form = form.Apply (n + before e) (m + before f) })
      (both limit (postorder n e) (postorder m f) (parts_below e n limit (omega arith)) (parts_below f m limit (omega arith))) (omega arith, omega arith)
  parts_below (an_if at c e f) n limit h =
      let m = n + suc (before c) in
      let l = m + suc (before e) in
      more limit (postorder n c ++ postorder m e ++ postorder l f) (record { at = at; form = form.If (n + before c) (m + before e) (l + before f) })
      (both limit (postorder n c ++ postorder m e) (postorder l f) (both limit (postorder n c) (postorder m e) (parts_below c n limit (omega arith)) (parts_below e m limit (omega arith))) (parts_below f l limit (omega arith)))
      (omega arith, omega arith, omega arith)
  parts_below (a_make at fields) n limit h =
      let it = fields_below fields n limit (omega arith) in
      more limit (field_postorder n fields) (record { at = at; form = form.Make (field_roots n fields) }) it.0 it.1

  fields_below : (fields : Fields) (n limit : ℕ) → n + field_nodes fields ≤ limit → AreBelow limit (field_postorder n fields) × All (λ (part : Part). part.child < limit) (field_roots n fields)
  fields_below no_field n limit h = (All-nil (λ (node : ExprNode). HasPartsBelow limit node.form), All-nil (λ (part : Part). part.child < limit))
  fields_below (a_field label e rest) n limit h =
      let m = n + suc (before e) in
      let later = fields_below rest m limit (omega arith) in
      (both limit (postorder n e) (field_postorder m rest) (parts_below e n limit (omega arith)) later.0, All-cons (λ (part : Part). part.child < limit) (record { label = label; child = n + before e }) (field_roots m rest) (omega arith) later.1)
