-- The loop over the nodes goes on over each expression, by recursion over its tree.
--     goes_tree
use Rattle.std.proofs.Common.{◌≡◌, ◌≢◌, ℕ, suc, ◌+◌, List, [], ◌∷◌, ◌++◌, length, map, refl, sym, ap, ◌∙◌, subst, arith, append_assoc}
use Rattle.std.specs.List.{AllPairs}
use Rattle.mls_automaton.specs.declared.scheme.Scheme.{Scheme}
use Rattle.mls_term.specs.declared.term.TermForm.TheVariants as form
use Rattle.mls_term.specs.declared.term.TermNode.{TermNode}
use Rattle.mls_term.specs.Terms.{TermTree, TermFields, bound, inner, global, number, truth, fun, apply, make, project, choice, local, fix, no_field, a_field, before, field_nodes, field_roots, postorder, field_postorder}
use Rattle.mls_term.specs.Derivations.{Known, with_let, labels_of}
use Rattle.mls_term.specs.WellFormed.{IsScoped, AreScoped, field_parts}
use Rattle.mls_typing.specs.Runs.{part_has_none, OneHasNone, here, later}
use Rattle.mls_infer.specs.declared.fault.SiteKind.{SiteKind}
use Rattle.mls_infer.specs.Constraints.{Constraint}
use Rattle.mls_infer.specs.Joining.{part_labels}
use Rattle.mls_infer.specs.Steps.{IsConstraintOf}
use Rattle.mls_infer.specs.Finished.{Finished, child_of}
use Rattle.mls_infer.specs.Finishing.{Scope, GoesOn, HasFirsts, HaveFirsts}
use Rattle.mls_infer.specs.Forms.{IsPosed}
use Rattle.mls_infer.proofs.Inferred.{second_none}
use Rattle.mls_infer.proofs.Going.{KindAmong, kind_of_parts, kind_here, kind_later, kind_second, AllDone, Agree, agree_trans, agree_self, done_later, roots, Failing, Going, node_goes}
use Rattle.mls_infer.proofs.GoingNames.{Ready, ready_later, ready_inside, inner_goes, global_goes, let_goes}

-- nodes before other nodes
one_then : (A : List TermNode) (x : TermNode) (rest : List TermNode) → (A ++ x ∷ []) ++ rest ≡ A ++ (x ∷ rest)
one_then A x rest = append_assoc A (x ∷ []) rest

two_then : (A B : List TermNode) (x : TermNode) (rest : List TermNode) → (A ++ B ++ x ∷ []) ++ rest ≡ A ++ (B ++ (x ∷ rest))
two_then A B x rest = append_assoc (A ++ B) (x ∷ []) rest ∙ append_assoc A B (x ∷ rest)

three_then : (A B C : List TermNode) (x : TermNode) (rest : List TermNode) → (A ++ B ++ C ++ x ∷ []) ++ rest ≡ A ++ (B ++ (C ++ (x ∷ rest)))
three_then A B C x rest = append_assoc (A ++ B ++ C) (x ∷ []) rest ∙ (append_assoc (A ++ B) C (x ∷ rest) ∙ append_assoc A B (C ++ (x ∷ rest)))

-- the labels and the roots of the parts of a record
labels_are : (fields : TermFields) (n : ℕ) → labels_of fields ≡ part_labels (field_roots n fields)
unfolding field_roots
labels_are no_field n = refl
labels_are (a_field label e rest) n = ap (λ ls. label ∷ ls) (labels_are rest (n + suc (before e)))

roots_are : (fields : TermFields) (n : ℕ) → map child_of (field_roots n fields) ≡ roots (field_parts n fields)
unfolding field_roots
roots_are no_field n = refl
roots_are (a_field label e rest) n = ap (λ is. (n + before e) ∷ is) (roots_are rest (n + suc (before e)))

-- what is posed is the constraint of the expression
module _ (known : Known) (c : Constraint) where
  posed_bound : (at x : ℕ) (ss : List Scheme) → IsPosed (form.Bound x) ss c → IsConstraintOf known (bound at x) ss c
  posed_bound at x [] posed = posed
  posed_bound at x (s ∷ ss) posed = absurd posed

  posed_number : (at value : ℕ) (ss : List Scheme) → IsPosed (form.Number value) ss c → IsConstraintOf known (number at value) ss c
  posed_number at value [] posed = posed
  posed_number at value (s ∷ ss) posed = absurd posed

  posed_truth : (at : ℕ) (value : _) (ss : List Scheme) → IsPosed (form.Truth value) ss c → IsConstraintOf known (truth at value) ss c
  posed_truth at value [] posed = posed
  posed_truth at value (s ∷ ss) posed = absurd posed

  posed_fun : (at x i : ℕ) (e : TermTree) (ss : List Scheme) → IsPosed (form.Fun x i) ss c → IsConstraintOf known (fun at x e) ss c
  posed_fun at x i e [] posed = absurd posed
  posed_fun at x i e (s ∷ []) posed = posed
  posed_fun at x i e (s ∷ t ∷ ss) posed = absurd posed

  posed_fix : (at x i : ℕ) (e : TermTree) (ss : List Scheme) → IsPosed (form.Rec x i) ss c → IsConstraintOf known (fix at x e) ss c
  posed_fix at x i e [] posed = absurd posed
  posed_fix at x i e (s ∷ []) posed = posed.1
  posed_fix at x i e (s ∷ t ∷ ss) posed = absurd posed

  posed_project : (at i : ℕ) (e : TermTree) (label : List ℕ) (ss : List Scheme) → IsPosed (form.Project i label) ss c → IsConstraintOf known (project at e label) ss c
  posed_project at i e label [] posed = absurd posed
  posed_project at i e label (s ∷ []) posed = posed
  posed_project at i e label (s ∷ t ∷ ss) posed = absurd posed

  posed_apply : (at i j : ℕ) (e e' : TermTree) (ss : List Scheme) → IsPosed (form.Apply i j) ss c → IsConstraintOf known (apply at e e') ss c
  posed_apply at i j e e' [] posed = absurd posed
  posed_apply at i j e e' (s ∷ []) posed = absurd posed
  posed_apply at i j e e' (s ∷ t ∷ []) posed = posed
  posed_apply at i j e e' (s ∷ t ∷ u ∷ ss) posed = absurd posed

  posed_choice : (at i j k : ℕ) (e e' e'' : TermTree) (ss : List Scheme) → IsPosed (form.If i j k) ss c → IsConstraintOf known (choice at e e' e'') ss c
  posed_choice at i j k e e' e'' [] posed = absurd posed
  posed_choice at i j k e e' e'' (s ∷ []) posed = absurd posed
  posed_choice at i j k e e' e'' (s ∷ t ∷ []) posed = absurd posed
  posed_choice at i j k e e' e'' (s ∷ t ∷ u ∷ []) posed = posed
  posed_choice at i j k e e' e'' (s ∷ t ∷ u ∷ v ∷ ss) posed = absurd posed

  posed_make : (at n : ℕ) (fields : TermFields) (ss : List Scheme) → IsPosed (form.Make (field_roots n fields)) ss c → IsConstraintOf known (make at fields) ss c
  posed_make at n fields ss posed = (posed.0, posed.1 fields (labels_are fields n), posed.2)

module _ (scope : Scope) (Fails : ℕ → SiteKind → Type 0) (Ends : Finished → Type 0) where
  abbrev Goes : List TermNode → Finished → Type 0
  Goes = GoesOn scope Fails Ends

  -- a node over its finished parts, where the nodes before it are those of its parts
  mutual
    unfolding postorder before field_roots

    pub goes_tree : (t : TermTree) (binders lets : List ℕ) (known : Known) (n : ℕ) (rest : List TermNode) (done : Finished) → IsScoped binders lets (length scope.globals) t → HasFirsts scope.first_of n t → Ready scope lets known n done → Failing scope Fails Ends known n t → Going scope Fails Ends known n t rest done → Goes (postorder n t ++ rest) done
    goes_tree (bound at x) binders lets known n rest done scoped firsts ready failing going =
        node_goes scope Fails Ends known n (bound at x) refl done tt (record { at = at; form = form.Bound x }) rest (let size : length done ≡ n = ready.size in let size' : length done ≡ n + 0 = omega arith in size') refl tt
        (λ ss c posed. posed_bound known c at x ss posed) (λ has. has) failing going
    goes_tree (inner at k) binders lets known n rest done scoped firsts ready failing going = inner_goes scope Fails Ends known n at k done rest ready.size (ready.scoped k scoped) going
    goes_tree (global at g) binders lets known n rest done scoped firsts ready failing going = global_goes scope Fails Ends known n at g done rest ready.size ready.globals scoped going
    goes_tree (number at value) binders lets known n rest done scoped firsts ready failing going =
        node_goes scope Fails Ends known n (number at value) refl done tt (record { at = at; form = form.Number value }) rest (let size : length done ≡ n = ready.size in let size' : length done ≡ n + 0 = omega arith in size') refl tt
        (λ ss c posed. posed_number known c at value ss posed) (λ has. has) failing going
    goes_tree (truth at value) binders lets known n rest done scoped firsts ready failing going =
        node_goes scope Fails Ends known n (truth at value) refl done tt (record { at = at; form = form.Truth value }) rest (let size : length done ≡ n = ready.size in let size' : length done ≡ n + 0 = omega arith in size') refl tt
        (λ ss c posed. posed_truth known c at value ss posed) (λ has. has) failing going
    goes_tree (fun at x e) binders lets known n rest done scoped firsts ready failing going =
        let node : TermNode = record { at = at; form = form.Fun x (n + before e) } in
        let P : List TermNode → Type 0 = λ xs. Goes xs done in
        subst P (sym (one_then (postorder n e) node rest))
        (goes_tree e (x ∷ binders) lets known n (node ∷ rest) done scoped firsts ready (λ i m kind stop. failing i m (kind_of_parts known i m n (fun at x e) (kind_here known i m n e [] kind)) (part_has_none i (here n e [] refl stop) refl))
        (λ new agree size one.
        node_goes scope Fails Ends known n (fun at x e) refl new (one, tt) node rest size refl tt
        (λ ss c posed. posed_fun known c at x (n + before e) e ss posed) (λ has. has) failing
        (λ new' agree' size' whole. going new' (agree_trans n n done new new' (omega arith) agree agree') size' whole)))
    goes_tree (fix at x e) binders lets known n rest done scoped firsts ready failing going =
        let node : TermNode = record { at = at; form = form.Rec x (n + before e) } in
        let P : List TermNode → Type 0 = λ xs. Goes xs done in
        subst P (sym (one_then (postorder n e) node rest))
        (goes_tree e (x ∷ binders) lets known n (node ∷ rest) done scoped firsts ready (λ i m kind stop. failing i m (kind_of_parts known i m n (fix at x e) (kind_here known i m n e [] kind)) (part_has_none i (here n e [] refl stop) refl))
        (λ new agree size one.
        node_goes scope Fails Ends known n (fix at x e) refl new (one, tt) node rest size refl tt
        (λ ss c posed. posed_fix known c at x (n + before e) e ss posed) (λ has. has) failing
        (λ new' agree' size' whole. going new' (agree_trans n n done new new' (omega arith) agree agree') size' whole)))
    goes_tree (project at e label) binders lets known n rest done scoped firsts ready failing going =
        let node : TermNode = record { at = at; form = form.Project (n + before e) label } in
        let P : List TermNode → Type 0 = λ xs. Goes xs done in
        subst P (sym (one_then (postorder n e) node rest))
        (goes_tree e binders lets known n (node ∷ rest) done scoped firsts ready (λ i m kind stop. failing i m (kind_of_parts known i m n (project at e label) (kind_here known i m n e [] kind)) (part_has_none i (here n e [] refl stop) refl))
        (λ new agree size one.
        node_goes scope Fails Ends known n (project at e label) refl new (one, tt) node rest size refl tt
        (λ ss c posed. posed_project known c at (n + before e) e label ss posed) (λ has. has) failing
        (λ new' agree' size' whole. going new' (agree_trans n n done new new' (omega arith) agree agree') size' whole)))
    goes_tree (apply at e e') binders lets known n rest done scoped firsts ready failing going =
        let m : ℕ = n + suc (before e) in
        let node : TermNode = record { at = at; form = form.Apply (n + before e) (m + before e') } in
        let P : List TermNode → Type 0 = λ xs. Goes xs done in
        subst P (sym (two_then (postorder n e) (postorder m e') node rest))
        (goes_tree e binders lets known n (postorder m e' ++ (node ∷ rest)) done scoped.0 firsts.0 ready (λ i k kind stop. failing i k (kind_of_parts known i k n (apply at e e') (kind_here known i k n e ((m, e') ∷ []) kind)) (part_has_none i (here n e ((m, e') ∷ []) refl stop) refl))
        (λ new agree size one.
        goes_tree e' binders lets known m (node ∷ rest) new scoped.1 firsts.1 (ready_later scope lets known n m done new (omega arith) agree size ready)
        (λ i k kind stop. failing i k (kind_of_parts known i k n (apply at e e') (kind_later known i k (n, e) ((m, e') ∷ []) (kind_here known i k m e' [] kind))) (part_has_none i (later n e ((m, e') ∷ []) one.part.scheme refl one.part.infers (here m e' [] refl stop)) refl))
        (λ new2 agree2 size2 two.
        node_goes scope Fails Ends known n (apply at e e') refl new2 (done_later known n m e new new2 (omega arith) agree2 one, (two, tt)) node rest
        (let size' : length new2 ≡ n + (suc (before e) + suc (before e')) = omega arith in size') refl tt
        (λ ss c posed. posed_apply known c at (n + before e) (m + before e') e e' ss posed) (λ has. has) failing
        (λ new3 agree3 size3 whole. going new3 (agree_trans n n done new2 new3 (omega arith) (agree_trans n m done new new2 (omega arith) agree agree2) agree3) size3 whole))))
    goes_tree (choice at e e' e'') binders lets known n rest done scoped firsts ready failing going =
        let m : ℕ = n + suc (before e) in
        let l : ℕ = m + suc (before e') in
        let node : TermNode = record { at = at; form = form.If (n + before e) (m + before e') (l + before e'') } in
        let P : List TermNode → Type 0 = λ xs. Goes xs done in
        subst P (sym (three_then (postorder n e) (postorder m e') (postorder l e'') node rest))
        (goes_tree e binders lets known n (postorder m e' ++ (postorder l e'' ++ (node ∷ rest))) done scoped.0 firsts.0 ready (λ i k kind stop. failing i k (kind_of_parts known i k n (choice at e e' e'') (kind_here known i k n e ((m, e') ∷ (l, e'') ∷ []) kind)) (part_has_none i (here n e ((m, e') ∷ (l, e'') ∷ []) refl stop) refl))
        (λ new agree size one.
        goes_tree e' binders lets known m (postorder l e'' ++ (node ∷ rest)) new scoped.1 firsts.1 (ready_later scope lets known n m done new (omega arith) agree size ready)
        (λ i k kind stop. failing i k (kind_of_parts known i k n (choice at e e' e'') (kind_later known i k (n, e) ((m, e') ∷ (l, e'') ∷ []) (kind_here known i k m e' ((l, e'') ∷ []) kind))) (part_has_none i (later n e ((m, e') ∷ (l, e'') ∷ []) one.part.scheme refl one.part.infers (here m e' ((l, e'') ∷ []) refl stop)) refl))
        (λ new2 agree2 size2 two.
        goes_tree e'' binders lets known l (node ∷ rest) new2 scoped.2 firsts.2 (ready_later scope lets known n l done new2 (omega arith) (agree_trans n m done new new2 (omega arith) agree agree2) size2 ready)
        (λ i k kind stop. failing i k (kind_of_parts known i k n (choice at e e' e'') (kind_later known i k (n, e) ((m, e') ∷ (l, e'') ∷ []) (kind_later known i k (m, e') ((l, e'') ∷ []) (kind_here known i k l e'' [] kind)))) (part_has_none i (later n e ((m, e') ∷ (l, e'') ∷ []) one.part.scheme refl one.part.infers (later m e' ((l, e'') ∷ []) two.part.scheme refl two.part.infers (here l e'' [] refl stop))) refl))
        (λ new3 agree3 size3 three.
        node_goes scope Fails Ends known n (choice at e e' e'') refl new3
        (done_later known n l e new2 new3 (omega arith) agree3 (done_later known n m e new new2 (omega arith) agree2 one), (done_later known m l e' new2 new3 (omega arith) agree3 two, (three, tt))) node rest
        (let size' : length new3 ≡ n + (suc (before e) + suc (before e') + suc (before e'')) = omega arith in size') refl tt
        (λ ss c posed. posed_choice known c at (n + before e) (m + before e') (l + before e'') e e' e'' ss posed) (λ has. has) failing
        (λ new4 agree4 size4 whole.
        going new4 (agree_trans n n done new3 new4 (omega arith) (agree_trans n l done new2 new3 (omega arith) (agree_trans n m done new new2 (omega arith) agree agree2) agree3) agree4) size4 whole)))))
    goes_tree (local at k e e') binders lets known n rest done scoped firsts ready failing going =
        let m : ℕ = n + suc (before e) in
        let node : TermNode = record { at = at; form = form.Let k (n + before e) (m + before e') } in
        let P : List TermNode → Type 0 = λ xs. Goes xs done in
        subst P (sym (two_then (postorder n e) (postorder m e') node rest))
        (goes_tree e binders lets known n (postorder m e' ++ (node ∷ rest)) done scoped.0 firsts.1 ready (λ i q kind stop. failing i q (kind_of_parts known i q n (local at k e e') (kind_here known i q n e [] kind)) (part_has_none i (here n e [] refl stop) refl))
        (λ new agree size one.
        goes_tree e' binders (k ∷ lets) (with_let known k one.part.scheme) m (node ∷ rest) new scoped.1 firsts.2 (ready_inside scope lets known n k e done new firsts.0 ready agree size one)
        (λ i q kind stop. failing i q (kind_second known i q n at k e e' one.part kind) (second_none known n at k e e' one.part i stop))
        (λ new2 agree2 size2 two.
        let_goes scope Fails Ends known n at k e e' new2 (done_later known n m e new new2 (omega arith) agree2 one) two rest
        (let size' : length new2 ≡ n + (suc (before e) + suc (before e')) = omega arith in size')
        (λ new3 agree3 size3 whole. going new3 (agree_trans n n done new2 new3 (omega arith) (agree_trans n m done new new2 (omega arith) agree agree2) agree3) size3 whole))))
    goes_tree (make at fields) binders lets known n rest done scoped firsts ready failing going =
        let node : TermNode = record { at = at; form = form.Make (field_roots n fields) } in
        let P : List TermNode → Type 0 = λ xs. Goes xs done in
        let L : List (List ℕ) → Type 0 = λ ls. AllPairs (λ x y. x ≢ y) ls in
        subst P (sym (one_then (field_postorder n fields) node rest))
        (goes_fields fields binders lets known n (node ∷ rest) done scoped.1 firsts ready (λ i m kind one. failing i m (kind_of_parts known i m n (make at fields) kind) (part_has_none i one refl))
        (λ new agree size all.
        node_goes scope Fails Ends known n (make at fields) refl new all node rest size (roots_are fields n) (subst L (labels_are fields n) scoped.0)
        (λ ss c posed. posed_make known c at n fields ss posed) (λ has. has) failing
        (λ new' agree' size' whole. going new' (agree_trans n n done new new' (omega arith) agree agree') size' whole)))

    goes_fields : (fields : TermFields) (binders lets : List ℕ) (known : Known) (n : ℕ) (rest : List TermNode) (done : Finished) → AreScoped binders lets (length scope.globals) fields → HaveFirsts scope.first_of n fields → Ready scope lets known n done
        → ((i : ℕ) (m : SiteKind) → KindAmong known (field_parts n fields) i m → OneHasNone known (field_parts n fields) i → Fails i m)
        → ((new : Finished) → Agree n done new → length new ≡ n + field_nodes fields → AllDone known (field_parts n fields) new → Goes rest new)
        → Goes (field_postorder n fields ++ rest) done
    goes_fields no_field binders lets known n rest done scoped firsts ready failing going = going done (agree_self n done) (let size : length done ≡ n = ready.size in let size' : length done ≡ n + 0 = omega arith in size') tt
    goes_fields (a_field label e fields) binders lets known n rest done scoped firsts ready failing going =
        let m : ℕ = n + suc (before e) in
        let P : List TermNode → Type 0 = λ xs. Goes xs done in
        subst P (sym (append_assoc (postorder n e) (field_postorder m fields) rest))
        (goes_tree e binders lets known n (field_postorder m fields ++ rest) done scoped.0 firsts.0 ready (λ i k kind stop. failing i k (kind_here known i k n e (field_parts m fields) kind) (here n e (field_parts m fields) refl stop))
        (λ new agree size one.
        goes_fields fields binders lets known m rest new scoped.1 firsts.1 (ready_later scope lets known n m done new (omega arith) agree size ready)
        (λ i k kind stop. failing i k (kind_later known i k (n, e) (field_parts m fields) kind) (later n e (field_parts m fields) one.part.scheme refl one.part.infers stop))
        (λ new2 agree2 size2 all.
        going new2 (agree_trans n m done new new2 (omega arith) agree agree2) (let size' : length new2 ≡ n + (suc (before e) + field_nodes fields) = omega arith in size')
        (done_later known n m e new new2 (omega arith) agree2 one, all))))
