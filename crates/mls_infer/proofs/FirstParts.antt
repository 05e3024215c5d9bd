-- The last let node with a number is the one let with this number, so its first part is the one that a name means.
--     has_firsts
use Rattle.std.proofs.Common.{◌≡◌, ◌≢◌, ◌⊎◌, inl, inr, ℕ, suc, ◌+◌, ◌<◌, Bool, true, false, cond, List, [], ◌∷◌, ◌++◌, length, take, get_or, Contains, refl, sym, ap, ◌∙◌, subst, arith, Some}
use Rattle.std.specs.Prelude.{Option, None}
use Rattle.std.specs.List.{AllPairs}
use Rattle.std.specs.Ordering.{nat_cmp, eq_by_cmp}
use Rattle.std.proofs.lemmas.List.{take_more}
use Rattle.std.proofs.lemmas.List.Elements.{Contains-append_left, Contains-append_right}
use Rattle.mls_term.specs.declared.term.TermForm.TheVariants as form
use Rattle.mls_term.specs.declared.term.TermNode.{TermNode}
use Rattle.mls_term.specs.Terms.{TermTree, TermFields, bound, inner, global, number, truth, fun, apply, make, project, choice, local, fix, no_field, a_field, before, field_roots, postorder, field_postorder}
use Rattle.mls_term.specs.WellFormed.{lets_of, field_lets_of, AreNumbersBelow}
use Rattle.mls_typing.proofs.Contexts.{same_key}
use Rattle.mls_typing.proofs.Lists.{Contains-cases, Contains-here, Contains-later, nothing_in}
use Rattle.mls_typing.proofs.TypedForms.{same_self}
use Rattle.mls_infer.specs.Finishing.{HasFirsts, HaveFirsts, first_at, first_in, or_earlier}

-- no number comes twice
abbrev Distinct : List ℕ → Type 0
Distinct [] = Unit {0}
Distinct (x ∷ xs) = (Contains xs x → ⊥) × Distinct xs

abbrev AreApart : List ℕ → List ℕ → Type 0
AreApart xs ys = (z : ℕ) → Contains xs z → Contains ys z → ⊥

distinct : (xs : List ℕ) → AllPairs (λ m n. m ≢ n) xs → Distinct xs
distinct [] pairs = tt
distinct (x ∷ xs) pairs = (
  λ inside. let low : inside.0 < length xs = inside.1 in pairs 0 (suc inside.0) x (omega arith) (omega arith) (sym inside.2),
  distinct xs (λ i j d less low. pairs (suc i) (suc j) d (omega arith) (omega arith)),
)

distinct_parts : (xs ys : List ℕ) → Distinct (xs ++ ys) → Distinct xs × Distinct ys × AreApart xs ys
distinct_parts [] ys all = (tt, all, λ z inside there. nothing_in z inside)
distinct_parts (x ∷ xs) ys all =
    let rest = distinct_parts xs ys all.1 in (
      (λ inside. all.0 (Contains-append_left xs ys x inside), rest.0),
      rest.1,
      λ z inside there. by_case z (Contains-cases x xs z inside) there rest.2,
    )
  where
    by_case : (z : ℕ) → (x ≡ z) ⊎ Contains xs z → Contains ys z → AreApart xs ys → ⊥
    by_case z (inl same) there apart = let P : ℕ → Type 0 = λ z. Contains ys z in all.0 (Contains-append_right xs ys x (subst P (sym same) there))
    by_case z (inr inside) there apart = apart z inside there

or_none : (a : Option ℕ) → or_earlier a None ≡ a
or_none None = refl
or_none (Some i) = refl

or_assoc : (a b c : Option ℕ) → or_earlier (or_earlier a b) c ≡ or_earlier a (or_earlier b c)
or_assoc None b c = refl
or_assoc (Some i) b c = refl

both_none : (a b : Option ℕ) → a ≡ None → b ≡ None → or_earlier a b ≡ None
both_none None b e h = h
both_none (Some i) b e h = e

first_none : (a b : Option ℕ) → a ≡ None → or_earlier a b ≡ b
first_none None b e = refl
first_none (Some i) b e = absurd (cc)

later_none : (a b : Option ℕ) → b ≡ None → or_earlier a b ≡ a
later_none None b e = e
later_none (Some i) b e = refl

-- of nodes behind others
pub first_append : (xs ys : List TermNode) (k : ℕ) → first_in (xs ++ ys) k ≡ or_earlier (first_in ys k) (first_in xs k)
first_append [] ys k = sym (or_none (first_in ys k))
first_append (x ∷ xs) ys k = ap (λ o. or_earlier o (first_at x.form k)) (first_append xs ys k) ∙ or_assoc (first_in ys k) (first_in xs k) (first_at x.form k)

module _ (node : TermNode) (k : ℕ) (no_let : first_at node.form k ≡ None) where
  -- the node itself is no let with this number
  one : (A : List TermNode) → first_in (A ++ node ∷ []) k ≡ first_in A k
  one A = first_append A (node ∷ []) k ∙ first_none (first_at node.form k) (first_in A k) no_let

  two : (A B : List TermNode) → first_in (A ++ B ++ node ∷ []) k ≡ or_earlier (first_in B k) (first_in A k)
  two A B = one (A ++ B) ∙ first_append A B k

  three : (A B C : List TermNode) → first_in (A ++ B ++ C ++ node ∷ []) k ≡ or_earlier (first_in C k) (or_earlier (first_in B k) (first_in A k))
  three A B C = one (A ++ B ++ C) ∙ (first_append (A ++ B) C k ∙ ap (or_earlier (first_in C k)) (first_append A B k))

other_number : (q k i : ℕ) → (k ≡ q → ⊥) → cond (eq_by_cmp nat_cmp q k) (Some i) None ≡ None
other_number q k i other = go (eq_by_cmp nat_cmp q k) refl
  where
    go : (b : Bool) → eq_by_cmp nat_cmp q k ≡ b → cond b (Some i) None ≡ None
    go true e = absurd (other (sym (same_key q k e)))
    go false e = refl

-- a tree without a let of this number has no such node
mutual
  unfolding postorder before field_roots

  outside : (t : TermTree) (n k : ℕ) → (Contains (lets_of t) k → ⊥) → first_in (postorder n t) k ≡ None
  outside (bound at x) n k out = refl
  outside (inner at j) n k out = refl
  outside (global at g) n k out = refl
  outside (number at value) n k out = refl
  outside (truth at value) n k out = refl
  outside (fun at x e) n k out = one (record { at = at; form = form.Fun x (n + before e) }) k refl (postorder n e) ∙ outside e n k out
  outside (fix at x e) n k out = one (record { at = at; form = form.Rec x (n + before e) }) k refl (postorder n e) ∙ outside e n k out
  outside (project at e label) n k out = one (record { at = at; form = form.Project (n + before e) label }) k refl (postorder n e) ∙ outside e n k out
  outside (apply at e e') n k out =
      let m : ℕ = n + suc (before e) in
      two (record { at = at; form = form.Apply (n + before e) (m + before e') }) k refl (postorder n e) (postorder m e')
      ∙ both_none (first_in (postorder m e') k) (first_in (postorder n e) k) (outside e' m k (λ inside. out (Contains-append_right (lets_of e) (lets_of e') k inside))) (outside e n k (λ inside. out (Contains-append_left (lets_of e) (lets_of e') k inside)))
  outside (choice at e e' e'') n k out =
      let m : ℕ = n + suc (before e) in
      let l : ℕ = m + suc (before e') in
      let both : List ℕ = lets_of e ++ lets_of e' in
      three (record { at = at; form = form.If (n + before e) (m + before e') (l + before e'') }) k refl (postorder n e) (postorder m e') (postorder l e'')
      ∙ both_none (first_in (postorder l e'') k) (or_earlier (first_in (postorder m e') k) (first_in (postorder n e) k)) (outside e'' l k (λ inside. out (Contains-append_right both (lets_of e'') k inside)))
      (both_none (first_in (postorder m e') k) (first_in (postorder n e) k)
      (outside e' m k (λ inside. out (Contains-append_left both (lets_of e'') k (Contains-append_right (lets_of e) (lets_of e') k inside))))
      (outside e n k (λ inside. out (Contains-append_left both (lets_of e'') k (Contains-append_left (lets_of e) (lets_of e') k inside)))))
  outside (local at j e e') n k out =
      let m : ℕ = n + suc (before e) in
      let both : List ℕ = lets_of e ++ lets_of e' in
      two (record { at = at; form = form.Let j (n + before e) (m + before e') }) k (other_number k j (n + before e) (λ same. let P : ℕ → Type 0 = λ k. Contains (j ∷ both) k in out (subst P same (Contains-here j both)))) (postorder n e) (postorder m e')
      ∙ both_none (first_in (postorder m e') k) (first_in (postorder n e) k)
      (outside e' m k (λ inside. out (Contains-later j both k (Contains-append_right (lets_of e) (lets_of e') k inside))))
      (outside e n k (λ inside. out (Contains-later j both k (Contains-append_left (lets_of e) (lets_of e') k inside))))
  outside (make at fields) n k out = one (record { at = at; form = form.Make (field_roots n fields) }) k refl (field_postorder n fields) ∙ outside_fields fields n k out

  outside_fields : (fields : TermFields) (n k : ℕ) → (Contains (field_lets_of fields) k → ⊥) → first_in (field_postorder n fields) k ≡ None
  outside_fields no_field n k out = refl
  outside_fields (a_field label e rest) n k out =
      let m : ℕ = n + suc (before e) in
      first_append (postorder n e) (field_postorder m rest) k
      ∙ both_none (first_in (field_postorder m rest) k) (first_in (postorder n e) k) (outside_fields rest m k (λ inside. out (Contains-append_right (lets_of e) (field_lets_of rest) k inside))) (outside e n k (λ inside. out (Contains-append_left (lets_of e) (field_lets_of rest) k inside)))

-- a table that tells, for these numbers, what these nodes tell
abbrev Tells : (ℕ → Option ℕ) → List ℕ → List TermNode → Type 0
Tells f numbers nodes = (k : ℕ) → Contains numbers k → f k ≡ first_in nodes k

abbrev TellsNone : List ℕ → List TermNode → Type 0
TellsNone numbers nodes = (k : ℕ) → (Contains numbers k → ⊥) → first_in nodes k ≡ None

-- of two parts with other numbers it tells what each of them tells
module _ (f : ℕ → Option ℕ) (xs ys : List ℕ) (A B : List TermNode) (apart : AreApart xs ys) (none_a : TellsNone xs A) (none_b : TellsNone ys B) (tells : (k : ℕ) → Contains (xs ++ ys) k → f k ≡ or_earlier (first_in B k) (first_in A k)) where
  of_first : Tells f xs A
  of_first k inside = tells k (Contains-append_left xs ys k inside) ∙ first_none (first_in B k) (first_in A k) (none_b k (λ there. apart k inside there))

  of_second : Tells f ys B
  of_second k there = tells k (Contains-append_right xs ys k there) ∙ later_none (first_in B k) (first_in A k) (none_a k (λ inside. apart k inside there))

mutual
  unfolding postorder before field_roots

  pub has_firsts : (t : TermTree) (n : ℕ) (f : ℕ → Option ℕ) → Distinct (lets_of t) → Tells f (lets_of t) (postorder n t) → HasFirsts f n t
  has_firsts (bound at x) n f all tells = tt
  has_firsts (inner at j) n f all tells = tt
  has_firsts (global at g) n f all tells = tt
  has_firsts (number at value) n f all tells = tt
  has_firsts (truth at value) n f all tells = tt
  has_firsts (fun at x e) n f all tells = has_firsts e n f all (λ k inside. tells k inside ∙ one (record { at = at; form = form.Fun x (n + before e) }) k refl (postorder n e))
  has_firsts (fix at x e) n f all tells = has_firsts e n f all (λ k inside. tells k inside ∙ one (record { at = at; form = form.Rec x (n + before e) }) k refl (postorder n e))
  has_firsts (project at e label) n f all tells = has_firsts e n f all (λ k inside. tells k inside ∙ one (record { at = at; form = form.Project (n + before e) label }) k refl (postorder n e))
  has_firsts (apply at e e') n f all tells =
      let m : ℕ = n + suc (before e) in
      let A : List TermNode = postorder n e in
      let B : List TermNode = postorder m e' in
      let parts = distinct_parts (lets_of e) (lets_of e') all in
      let each : (k : ℕ) → Contains (lets_of e ++ lets_of e') k → f k ≡ or_earlier (first_in B k) (first_in A k) = λ k inside. tells k inside ∙ two (record { at = at; form = form.Apply (n + before e) (m + before e') }) k refl A B in (
        has_firsts e n f parts.0 (of_first f (lets_of e) (lets_of e') A B parts.2 (outside e n) (outside e' m) each),
        has_firsts e' m f parts.1 (of_second f (lets_of e) (lets_of e') A B parts.2 (outside e n) (outside e' m) each),
      )
  has_firsts (choice at e e' e'') n f all tells =
      let m : ℕ = n + suc (before e) in
      let l : ℕ = m + suc (before e') in
      let A : List TermNode = postorder n e in
      let B : List TermNode = postorder m e' in
      let C : List TermNode = postorder l e'' in
      let xs : List ℕ = lets_of e in
      let ys : List ℕ = lets_of e' in
      let zs : List ℕ = lets_of e'' in
      let parts = distinct_parts (xs ++ ys) zs all in
      let parts' = distinct_parts xs ys parts.0 in
      let none_ab : TellsNone (xs ++ ys) (A ++ B) = λ k out.
      first_append A B k ∙ both_none (first_in B k) (first_in A k) (outside e' m k (λ inside. out (Contains-append_right xs ys k inside))) (outside e n k (λ inside. out (Contains-append_left xs ys k inside))) in
      let each : (k : ℕ) → Contains (xs ++ ys ++ zs) k → f k ≡ or_earlier (first_in C k) (first_in (A ++ B) k) = λ k inside.
      tells k inside ∙ (one (record { at = at; form = form.If (n + before e) (m + before e') (l + before e'') }) k refl (A ++ B ++ C) ∙ first_append (A ++ B) C k) in
      let tells_ab : Tells f (xs ++ ys) (A ++ B) = of_first f (xs ++ ys) zs (A ++ B) C parts.2 none_ab (outside e'' l) each in
      let each' : (k : ℕ) → Contains (xs ++ ys) k → f k ≡ or_earlier (first_in B k) (first_in A k) = λ k inside. tells_ab k inside ∙ first_append A B k in (
        has_firsts e n f parts'.0 (of_first f xs ys A B parts'.2 (outside e n) (outside e' m) each'),
        has_firsts e' m f parts'.1 (of_second f xs ys A B parts'.2 (outside e n) (outside e' m) each'),
        has_firsts e'' l f parts.1 (of_second f (xs ++ ys) zs (A ++ B) C parts.2 none_ab (outside e'' l) each),
      )
  has_firsts (local at j e e') n f all tells =
      let m : ℕ = n + suc (before e) in
      let A : List TermNode = postorder n e in
      let B : List TermNode = postorder m e' in
      let xs : List ℕ = lets_of e in
      let ys : List ℕ = lets_of e' in
      let node : TermNode = record { at = at; form = form.Let j (n + before e) (m + before e') } in
      let parts = distinct_parts xs ys all.1 in
      let P : ℕ → Type 0 = λ k. Contains (xs ++ ys) k in
      let each : (k : ℕ) → Contains (xs ++ ys) k → f k ≡ or_earlier (first_in B k) (first_in A k) = λ k inside.
      tells k (Contains-later j (xs ++ ys) k inside) ∙ two node k (other_number k j (n + before e) (λ same. all.0 (subst P (sym same) inside))) A B in
      let own : first_at node.form j ≡ Some (n + before e) = ap (λ b. cond b (Some (n + before e)) None) (same_self j) in (
        tells j (Contains-here j (xs ++ ys)) ∙ (first_append (A ++ B) (node ∷ []) j ∙ ap (λ o. or_earlier o (first_in (A ++ B) j)) own),
        has_firsts e n f parts.0 (of_first f xs ys A B parts.2 (outside e n) (outside e' m) each),
        has_firsts e' m f parts.1 (of_second f xs ys A B parts.2 (outside e n) (outside e' m) each),
      )
  has_firsts (make at fields) n f all tells = have_firsts fields n f all (λ k inside. tells k inside ∙ one (record { at = at; form = form.Make (field_roots n fields) }) k refl (field_postorder n fields))

  have_firsts : (fields : TermFields) (n : ℕ) (f : ℕ → Option ℕ) → Distinct (field_lets_of fields) → Tells f (field_lets_of fields) (field_postorder n fields) → HaveFirsts f n fields
  have_firsts no_field n f all tells = tt
  have_firsts (a_field label e rest) n f all tells =
      let m : ℕ = n + suc (before e) in
      let A : List TermNode = postorder n e in
      let B : List TermNode = field_postorder m rest in
      let xs : List ℕ = lets_of e in
      let ys : List ℕ = field_lets_of rest in
      let parts = distinct_parts xs ys all in
      let each : (k : ℕ) → Contains (xs ++ ys) k → f k ≡ or_earlier (first_in B k) (first_in A k) = λ k inside. tells k inside ∙ first_append A B k in (
        has_firsts e n f parts.0 (of_first f xs ys A B parts.2 (outside e n) (outside_fields rest m) each),
        have_firsts rest m f parts.1 (of_second f xs ys A B parts.2 (outside e n) (outside_fields rest m) each),
      )

-- one node more
pub first_more : (nodes : List TermNode) (i : ℕ) (node : TermNode) → i < length nodes → get_or nodes i node ≡ node → (old new : ℕ → Option ℕ) → ((k : ℕ) → old k ≡ first_in (take i nodes) k) → ((k : ℕ) → new k ≡ or_earlier (first_at node.form k) (old k)) → (k : ℕ) → new k ≡ first_in (take (i + 1) nodes) k
first_more nodes i node low is old new so_far noted k =
    let longer : take (i + 1) nodes ≡ take i nodes ++ node ∷ [] = take_more nodes i node low ∙ ap (λ x. take i nodes ++ x ∷ []) is in
    noted k ∙ (ap (or_earlier (first_at node.form k)) (so_far k) ∙ sym (ap (λ xs. first_in xs k) longer ∙ first_append (take i nodes) (node ∷ []) k))

-- of a whole term
pub firsts_are : (t : TermTree) (count : ℕ) (f : ℕ → Option ℕ) → AreNumbersBelow count (lets_of t) → ((k : ℕ) → f k ≡ first_in (postorder 0 t) k) → HasFirsts f 0 t
firsts_are t count f numbers tells = has_firsts t 0 f (distinct (lets_of t) numbers.distinct) (λ k inside. tells k)
