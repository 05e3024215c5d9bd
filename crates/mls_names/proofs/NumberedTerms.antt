-- The term of a tree has the numbers of its binders and lets in the order of the text, and its names are in scope.
use Rattle.std.proofs.Common.{◌≡◌, ◌≢◌, ℕ, zero, suc, ◌+◌, ◌<◌, ◌≤◌, true, false, List, [], ◌∷◌, ◌++◌, length, refl, sym, ap, ◌∙◌, subst, arith, Some, cond, bytes_eq, length-append}
use Rattle.std.specs.Prelude.{All, Contains, option_map, find}
use Rattle.std.specs.List.{AllPairs}
use Rattle.std.proofs.lemmas.List.Elements.{All-cons, All-nil, Contains-push, Contains-append_left, Contains-append_right}
use Rattle.std.proofs.lemmas.List.Sums.{sum_by-append}
use Rattle.std.proofs.lemmas.List.Kept.{AllPairs-cons}
use Rattle.mls_grammar.specs.declared.module.Op.{Op}
use Rattle.mls_grammar.specs.declared.module.Op.TheVariants as op
use Rattle.mls_term.specs.declared.term.ResolvedBinding.{ResolvedBinding}
use Rattle.mls_grammar.specs.Modules.{HasDistinctLabels, HaveDistinctLabels}
use Rattle.mls_grammar.specs.Modules as source
use Rattle.mls_term.specs.Terms.{TermTree, TermFields}
use Rattle.mls_grammar.specs.Trees.{Tree, a_name, an_operator, a_number, a_truth, a_fun, a_fix, a_let, an_if, an_apply, a_make, a_project, Fields, no_field, a_field, BindingTree}
use Rattle.mls_names.specs.Resolution.{Meant, binder, let_number, scheme, Scope, meant_by, use_of, operator_number, binders, field_binders, lets, field_lets, Means, MeanFields, schemes_from, declared_from, declared_count, scope_after, AreTermsOf}
use Rattle.mls_term.specs.Derivations.{labels_of}
use Rattle.mls_term.specs.WellFormed.{binders_of, field_binders_of, lets_of, field_lets_of, IsScoped, AreScoped, AreNumbersBelow}
use Rattle.mls_grammar.specs.Modules.{IsModule}
use Rattle.mls_grammar.specs.Trees.{SourceTree}
use Rattle.mls_grammar.proofs.TreesOfNodes.{one_source}
use Rattle.mls_names.specs.ResolutionLaws.{AreTerms, ResolvedAreTerms}

-- so many numbers, from this one on
abbrev pub numbers_from : ℕ → ℕ → List ℕ
numbers_from n zero = []
numbers_from n (suc k) = n ∷ numbers_from (suc n) k

pub numbers-append : (n j k m i : ℕ) → m ≡ n + j → i ≡ j + k → numbers_from n j ++ numbers_from m k ≡ numbers_from n i
numbers-append n zero k m i e f = let at : m ≡ n = omega arith in let same : k ≡ i = omega arith in (λ t. numbers_from (at t) (same t))
numbers-append n (suc j) k m i e f = go i f (numbers-append (suc n) j k m)
  where
    go : (i : ℕ) → i ≡ suc j + k → ((i : ℕ) → m ≡ suc n + j → i ≡ j + k → numbers_from (suc n) j ++ numbers_from m k ≡ numbers_from (suc n) i) → n ∷ (numbers_from (suc n) j ++ numbers_from m k) ≡ numbers_from n i
    go zero f later = absurd (omega arith)
    go (suc i) f later = ap (λ (ns : List ℕ). n ∷ ns) (later i (omega arith) (omega arith))

pub both_parts : (n j k : ℕ) (xs ys : List ℕ) → xs ≡ numbers_from n j → ys ≡ numbers_from (n + j) k → xs ++ ys ≡ numbers_from n (j + k)
both_parts n j k xs ys e f = (λ i. e i ++ f i) ∙ numbers-append n j k (n + j) (j + k) refl refl

-- the binders of a term are numbered in the order of the text
mutual
  unfolding binders

  pub means_binders : (e : Tree) (scope : Scope) (b l : ℕ) (t : TermTree) → Means scope b l e t → binders_of t ≡ numbers_from b (binders e)
  means_binders (a_name at x) scope b l t (m, found, is) = ap binders_of is ∙ go m
    where
      go : (m : Meant) → binders_of (use_of at m) ≡ []
      go (binder y) = refl
      go (let_number k) = refl
      go (scheme g) = refl
  means_binders (an_operator at o) scope b l t is = ap binders_of is
  means_binders (a_number at value) scope b l t is = ap binders_of is
  means_binders (a_truth at value) scope b l t is = ap binders_of is
  means_binders (a_fun at x e) scope b l t (f, h, is) = ap binders_of is ∙ ap (λ (ns : List ℕ). b ∷ ns) (means_binders e ((x, binder b) ∷ scope) (suc b) l f h)
  means_binders (a_fix at x e) scope b l t (f, h, is) = ap binders_of is ∙ ap (λ (ns : List ℕ). b ∷ ns) (means_binders e ((x, binder b) ∷ scope) (suc b) l f h)
  means_binders (a_let at x e f) scope b l t (c, d, h, k, is) =
      ap binders_of is
      ∙ both_parts b (binders e) (binders f) (binders_of c) (binders_of d) (means_binders e scope b (suc l) c h)
      (means_binders f ((x, let_number l) ∷ scope) (b + binders e) (suc l + lets e) d k)
  means_binders (an_if at e f g) scope b l t (c, d, r, h, k, m, is) =
      ap binders_of is
      ∙ both_parts b (binders e + binders f) (binders g) (binders_of c ++ binders_of d) (binders_of r)
      (both_parts b (binders e) (binders f) (binders_of c) (binders_of d) (means_binders e scope b l c h) (means_binders f scope (b + binders e) (l + lets e) d k))
      (means_binders g scope (b + binders e + binders f) (l + lets e + lets f) r m ∙ (let at : b + binders e + binders f ≡ b + (binders e + binders f) = omega arith in ap (λ n. numbers_from n (binders g)) at))
  means_binders (an_apply at e f) scope b l t (c, d, h, k, is) =
      ap binders_of is
      ∙ both_parts b (binders e) (binders f) (binders_of c) (binders_of d) (means_binders e scope b l c h) (means_binders f scope (b + binders e) (l + lets e) d k)
  means_binders (a_make at fields) scope b l t (parts, h, is) = ap binders_of is ∙ fields_binders fields scope b l parts h
  means_binders (a_project at e label) scope b l t (f, h, is) = ap binders_of is ∙ means_binders e scope b l f h

  fields_binders : (fields : Fields) (scope : Scope) (b l : ℕ) (ts : TermFields) → MeanFields scope b l fields ts → field_binders_of ts ≡ numbers_from b (field_binders fields)
  fields_binders no_field scope b l ts is = ap field_binders_of is
  fields_binders (a_field label e rest) scope b l ts (f, others, h, k, is) =
      ap field_binders_of is
      ∙ both_parts b (binders e) (field_binders rest) (binders_of f) (field_binders_of others) (means_binders e scope b l f h) (fields_binders rest scope (b + binders e) (l + lets e) others k)

-- and so are its lets
mutual
  unfolding lets

  pub means_lets : (e : Tree) (scope : Scope) (b l : ℕ) (t : TermTree) → Means scope b l e t → lets_of t ≡ numbers_from l (lets e)
  means_lets (a_name at x) scope b l t (m, found, is) = ap lets_of is ∙ go m
    where
      go : (m : Meant) → lets_of (use_of at m) ≡ []
      go (binder y) = refl
      go (let_number k) = refl
      go (scheme g) = refl
  means_lets (an_operator at o) scope b l t is = ap lets_of is
  means_lets (a_number at value) scope b l t is = ap lets_of is
  means_lets (a_truth at value) scope b l t is = ap lets_of is
  means_lets (a_fun at x e) scope b l t (f, h, is) = ap lets_of is ∙ means_lets e ((x, binder b) ∷ scope) (suc b) l f h
  means_lets (a_fix at x e) scope b l t (f, h, is) = ap lets_of is ∙ means_lets e ((x, binder b) ∷ scope) (suc b) l f h
  means_lets (a_let at x e f) scope b l t (c, d, h, k, is) =
      ap lets_of is
      ∙ ap (λ (ns : List ℕ). l ∷ ns)
      (both_parts (suc l) (lets e) (lets f) (lets_of c) (lets_of d) (means_lets e scope b (suc l) c h)
      (means_lets f ((x, let_number l) ∷ scope) (b + binders e) (suc l + lets e) d k))
  means_lets (an_if at e f g) scope b l t (c, d, r, h, k, m, is) =
      ap lets_of is
      ∙ both_parts l (lets e + lets f) (lets g) (lets_of c ++ lets_of d) (lets_of r)
      (both_parts l (lets e) (lets f) (lets_of c) (lets_of d) (means_lets e scope b l c h) (means_lets f scope (b + binders e) (l + lets e) d k))
      (means_lets g scope (b + binders e + binders f) (l + lets e + lets f) r m ∙ (let at : l + lets e + lets f ≡ l + (lets e + lets f) = omega arith in ap (λ n. numbers_from n (lets g)) at))
  means_lets (an_apply at e f) scope b l t (c, d, h, k, is) =
      ap lets_of is
      ∙ both_parts l (lets e) (lets f) (lets_of c) (lets_of d) (means_lets e scope b l c h) (means_lets f scope (b + binders e) (l + lets e) d k)
  means_lets (a_make at fields) scope b l t (parts, h, is) = ap lets_of is ∙ fields_lets fields scope b l parts h
  means_lets (a_project at e label) scope b l t (f, h, is) = ap lets_of is ∙ means_lets e scope b l f h

  fields_lets : (fields : Fields) (scope : Scope) (b l : ℕ) (ts : TermFields) → MeanFields scope b l fields ts → field_lets_of ts ≡ numbers_from l (field_lets fields)
  fields_lets no_field scope b l ts is = ap field_lets_of is
  fields_lets (a_field label e rest) scope b l ts (f, others, h, k, is) =
      ap field_lets_of is
      ∙ both_parts l (lets e) (field_lets rest) (lets_of f) (field_lets_of others) (means_lets e scope b l f h) (fields_lets rest scope (b + binders e) (l + lets e) others k)

-- these are so many numbers, each once
numbers_above : (n m k : ℕ) → n < m → All (λ x. n ≢ x) (numbers_from m k)
numbers_above n m zero low = All-nil (λ x. n ≢ x)
numbers_above n m (suc k) low = All-cons (λ x. n ≢ x) m (numbers_from (suc m) k) (λ e. omega arith) (numbers_above n (suc m) k (omega arith))

numbers_distinct : (n k : ℕ) → AllPairs (λ x y. x ≢ y) (numbers_from n k)
numbers_distinct n zero = λ i j d low low' h. absurd (omega arith)
numbers_distinct n (suc k) = AllPairs-cons (λ x y. x ≢ y) n (numbers_from (suc n) k) (numbers_above n (suc n) k (omega arith)) (numbers_distinct (suc n) k)

numbers_below : (n k m : ℕ) → n + k ≤ m → All (λ x. x < m) (numbers_from n k)
numbers_below n zero m le = All-nil (λ x. x < m)
numbers_below n (suc k) m le = All-cons (λ x. x < m) n (numbers_from (suc n) k) (omega arith) (numbers_below (suc n) k m (omega arith))

length-numbers : (n k : ℕ) → length (numbers_from n k) ≡ k
length-numbers n zero = refl
length-numbers n (suc k) = ap suc (length-numbers (suc n) k)

pub numbers_are : (k : ℕ) (xs : List ℕ) → xs ≡ numbers_from 0 k → AreNumbersBelow k xs
numbers_are k xs is =
    subst (AreNumbersBelow k) (sym is) (record { count_is = length-numbers 0 k; below = numbers_below 0 k k (omega arith); distinct = numbers_distinct 0 k })

-- a name of a scope is bound
abbrev pub IsBoundName : (bs ls : List ℕ) (count : ℕ) → Meant → Type 0
IsBoundName bs ls count (binder x) = Contains bs x
IsBoundName bs ls count (let_number k) = Contains ls k
IsBoundName bs ls count (scheme g) = g < count

abbrev pub AreBoundNames : (bs ls : List ℕ) (count : ℕ) → Scope → Type 0
AreBoundNames bs ls count scope = (x : List ℕ) (m : Meant) → meant_by scope x ≡ Some m → IsBoundName bs ls count m

later_one : (xs : List ℕ) (y x : ℕ) → Contains xs x → Contains (y ∷ xs) x
later_one xs y x it = (suc it.0, (let low : it.0 < length xs = it.1 in omega arith), it.2)

first_one : (xs : List ℕ) (y : ℕ) → Contains (y ∷ xs) y
first_one xs y = (0, omega arith, refl)

-- one more name
names_cons : (bs ls : List ℕ) (count : ℕ) (scope : Scope) (y : List ℕ) (n : Meant) → IsBoundName bs ls count n → AreBoundNames bs ls count scope → AreBoundNames bs ls count ((y, n) ∷ scope)
names_cons bs ls count scope y n own has x m e =
    elim (bytes_eq y x) as (λ t. option_map (λ (entry : List ℕ × Meant). entry.1) (cond t (Some (y, n)) (find (λ (entry : List ℕ × Meant). bytes_eq entry.0 x) scope)) ≡ Some m → IsBoundName bs ls count m) [
      | true ↦ λ h. (let same : n ≡ m = cc in subst (IsBoundName bs ls count) same own)
      | false ↦ λ h. has x m h
    ] e

more_binder : (bs ls : List ℕ) (count y : ℕ) (m : Meant) → IsBoundName bs ls count m → IsBoundName (y ∷ bs) ls count m
more_binder bs ls count y (binder x) h = later_one bs y x h
more_binder bs ls count y (let_number k) h = h
more_binder bs ls count y (scheme g) h = h

pub more_let : (bs ls : List ℕ) (count k : ℕ) (m : Meant) → IsBoundName bs ls count m → IsBoundName bs (k ∷ ls) count m
more_let bs ls count k (binder x) h = h
more_let bs ls count k (let_number j) h = later_one ls k j h
more_let bs ls count k (scheme g) h = h

with_binder : (bs ls : List ℕ) (count : ℕ) (scope : Scope) (y : List ℕ) (b : ℕ) → AreBoundNames bs ls count scope → AreBoundNames (b ∷ bs) ls count ((y, binder b) ∷ scope)
with_binder bs ls count scope y b has = names_cons (b ∷ bs) ls count scope y (binder b) (first_one bs b) (λ x m e. more_binder bs ls count b m (has x m e))

pub with_let_name : (bs ls : List ℕ) (count : ℕ) (scope : Scope) (y : List ℕ) (k : ℕ) → AreBoundNames bs ls count scope → AreBoundNames bs (k ∷ ls) count ((y, let_number k) ∷ scope)
with_let_name bs ls count scope y k has = names_cons bs (k ∷ ls) count scope y (let_number k) (first_one ls k) (λ x m e. more_let bs ls count k m (has x m e))

-- the operators are the first five
operator_low : (o : Op) → operator_number o < 5
operator_low op.Plus = omega arith
operator_low op.Minus = omega arith
operator_low op.Times = omega arith
operator_low op.Less = omega arith
operator_low op.Equal = omega arith

-- the labels of the term are those of the tree
labels_are : (fields : Fields) (scope : Scope) (b l : ℕ) (ts : TermFields) → MeanFields scope b l fields ts → labels_of ts ≡ source.labels_of fields
labels_are no_field scope b l ts is = ap labels_of is
labels_are (a_field label e rest) scope b l ts (f, others, h, k, is) =
    ap labels_of is ∙ ap (λ (ls : List (List ℕ)). label ∷ ls) (labels_are rest scope (b + binders e) (l + lets e) others k)

-- the names of the term are in scope
mutual
  pub means_scoped : (bs ls : List ℕ) (count : ℕ) → 5 ≤ count → (e : Tree) (scope : Scope) (b l : ℕ) (t : TermTree) → HasDistinctLabels e → AreBoundNames bs ls count scope → Means scope b l e t → IsScoped bs ls count t
  means_scoped bs ls count low (a_name at x) scope b l t distinct has (m, found, is) = subst (IsScoped bs ls count) (sym is) (go m (has x m found))
    where
      go : (m : Meant) → IsBoundName bs ls count m → IsScoped bs ls count (use_of at m)
      go (binder y) h = h
      go (let_number k) h = h
      go (scheme g) h = h
  means_scoped bs ls count low (an_operator at o) scope b l t distinct has is =
      subst (IsScoped bs ls count) (sym is) (let below : operator_number o < 5 = operator_low o in omega arith)
  means_scoped bs ls count low (a_number at value) scope b l t distinct has is = subst (IsScoped bs ls count) (sym is) tt
  means_scoped bs ls count low (a_truth at value) scope b l t distinct has is = subst (IsScoped bs ls count) (sym is) tt
  means_scoped bs ls count low (a_fun at x e) scope b l t distinct has (f, h, is) =
      subst (IsScoped bs ls count) (sym is) (means_scoped (b ∷ bs) ls count low e ((x, binder b) ∷ scope) (suc b) l f distinct (with_binder bs ls count scope x b has) h)
  means_scoped bs ls count low (a_fix at x e) scope b l t distinct has (f, h, is) =
      subst (IsScoped bs ls count) (sym is) (means_scoped (b ∷ bs) ls count low e ((x, binder b) ∷ scope) (suc b) l f distinct (with_binder bs ls count scope x b has) h)
  means_scoped bs ls count low (a_let at x e f) scope b l t distinct has (c, d, h, k, is) =
      subst (IsScoped bs ls count) (sym is) (
        means_scoped bs ls count low e scope b (suc l) c distinct.0 has h,
        means_scoped bs (l ∷ ls) count low f ((x, let_number l) ∷ scope) (b + binders e) (suc l + lets e) d distinct.1 (with_let_name bs ls count scope x l has) k,
      )
  means_scoped bs ls count low (an_if at e f g) scope b l t distinct has (c, d, r, h, k, m, is) =
      subst (IsScoped bs ls count) (sym is) (
        means_scoped bs ls count low e scope b l c distinct.0 has h,
        means_scoped bs ls count low f scope (b + binders e) (l + lets e) d distinct.1 has k,
        means_scoped bs ls count low g scope (b + binders e + binders f) (l + lets e + lets f) r distinct.2 has m,
      )
  means_scoped bs ls count low (an_apply at e f) scope b l t distinct has (c, d, h, k, is) =
      subst (IsScoped bs ls count) (sym is) (
        means_scoped bs ls count low e scope b l c distinct.0 has h,
        means_scoped bs ls count low f scope (b + binders e) (l + lets e) d distinct.1 has k,
      )
  means_scoped bs ls count low (a_make at fields) scope b l t distinct has (parts, h, is) =
      subst (IsScoped bs ls count) (sym is) (
        subst (λ (names : List (List ℕ)). AllPairs (λ x y. x ≢ y) names) (sym (labels_are fields scope b l parts h)) distinct.0,
        fields_scoped bs ls count low fields scope b l parts distinct.1 has h,
      )
  means_scoped bs ls count low (a_project at e label) scope b l t distinct has (f, h, is) =
      subst (IsScoped bs ls count) (sym is) (means_scoped bs ls count low e scope b l f distinct has h)

  fields_scoped : (bs ls : List ℕ) (count : ℕ) → 5 ≤ count → (fields : Fields) (scope : Scope) (b l : ℕ) (ts : TermFields) → HaveDistinctLabels fields → AreBoundNames bs ls count scope → MeanFields scope b l fields ts → AreScoped bs ls count ts
  fields_scoped bs ls count low no_field scope b l ts distinct has is = subst (AreScoped bs ls count) (sym is) tt
  fields_scoped bs ls count low (a_field label e rest) scope b l ts distinct has (f, others, h, k, is) =
      subst (AreScoped bs ls count) (sym is) (
        means_scoped bs ls count low e scope b l f distinct.0 has h,
        fields_scoped bs ls count low rest scope (b + binders e) (l + lets e) others distinct.1 has k,
      )

-- the names of the environment are below its length
abbrev AllBelow : ℕ → Scope → Type 0
AllBelow count [] = Unit {0}
AllBelow count ((x, m) ∷ rest) = ((g : ℕ) × (m ≡ scheme g) × (g < count)) × AllBelow count rest

below-append : (count : ℕ) (s u : Scope) → AllBelow count s → AllBelow count u → AllBelow count (s ++ u)
below-append count [] u h k = k
below-append count ((x, m) ∷ rest) u h k = (h.0, below-append count rest u h.1 k)

below_from : (count g : ℕ) (xs : List (List ℕ)) → g + length xs ≤ count → AllBelow count (schemes_from g xs)
below_from count g [] le = tt
below_from count g (x ∷ xs) le = ((g, refl, omega arith), below_from count (suc g) xs (omega arith))

below_declared : (count g : ℕ) (declared : List (List (List ℕ))) → g + declared_count declared ≤ count → AllBelow count (declared_from g declared)
below_declared count g [] le = tt
below_declared count g (names ∷ rest) le =
    let all : declared_count (names ∷ rest) ≡ length names + declared_count rest = omega (arith, sum_by-append (length {A = List ℕ}) (names ∷ []) rest) in
    below-append count (declared_from (g + length names) rest) (schemes_from g names) (below_declared count (g + length names) rest (omega arith)) (below_from count g names (omega arith))

below_names : (count : ℕ) (scope : Scope) → AllBelow count scope → AreBoundNames [] [] count scope
below_names count [] all x m e = absurd (cc)
below_names count ((y, n) ∷ rest) all x m e =
    names_cons [] [] count rest y n (subst (IsBoundName [] [] count) (sym all.0.1) all.0.2) (λ x m e. below_names count rest all.1 x m e) x m e

-- no record of these bindings has a label twice
abbrev AllDistinct : List BindingTree → Type 0
AllDistinct [] = Unit {0}
AllDistinct (b ∷ bs) = HasDistinctLabels b.body × AllDistinct bs

-- each binding of a resolved module is a term
terms_are : (declared : List (List (List ℕ))) (earlier : List (List ℕ)) (trees : List BindingTree) (bindings : List ResolvedBinding)
    → AllDistinct trees → AreTermsOf declared earlier trees bindings → AreTerms (5 + declared_count declared + length earlier) bindings
terms_are declared earlier [] bindings distinct is = subst (AreTerms (5 + declared_count declared + length earlier)) (sym is) tt
terms_are declared earlier (tree ∷ trees) bindings distinct (first, rest, is, term, terms) =
    let count : ℕ = 5 + declared_count declared + length earlier in
    let scope : Scope = scope_after declared earlier in
    let names : AreBoundNames [] [] count scope =
    below_names count scope (below-append count (schemes_from (5 + declared_count declared) earlier) (declared_from 5 declared) (below_from count (5 + declared_count declared) earlier (omega arith)) (below_declared count 5 declared (omega arith))) in
    let more : length (earlier ++ tree.x ∷ []) ≡ suc (length earlier) = length-append earlier (tree.x ∷ []) ∙ (let one : length earlier + 1 ≡ suc (length earlier) = omega arith in one) in
    let next : 5 + declared_count declared + length (earlier ++ tree.x ∷ []) ≡ suc count = omega arith in
    subst (AreTerms count) (sym is) (
      record {
        tree = term.term_tree;
        nodes_are = term.nodes;
        scoped = means_scoped [] [] count (omega arith) tree.body scope 0 0 term.term_tree distinct.0 names term.means;
        binder_numbers = numbers_are first.term.binders (binders_of term.term_tree) (means_binders tree.body scope 0 0 term.term_tree term.means ∙ ap (numbers_from 0) (sym term.binders));
        let_numbers = numbers_are first.term.lets (lets_of term.term_tree) (means_lets tree.body scope 0 0 term.term_tree term.means ∙ ap (numbers_from 0) (sym term.lets));
      },
      subst (λ n. AreTerms n rest) next (terms_are declared (earlier ++ tree.x ∷ []) trees rest distinct.1 terms),
    )

all_distinct : (trees : List BindingTree) → ((b : BindingTree) → Contains trees b → HasDistinctLabels b.body) → AllDistinct trees
all_distinct [] h = tt
all_distinct (b ∷ bs) h = (
  h b (Contains-append_left (b ∷ []) bs b (Contains-push [] b)),
  all_distinct bs (λ later there. h later (Contains-append_right (b ∷ []) bs later there)),
)

pub resolved_are_terms : ResolvedAreTerms
resolved_are_terms m declared r is resolves =
    let at : 5 + declared_count declared + 0 ≡ 5 + declared_count declared = omega arith in
    let same : is.tree ≡ resolves.tree = one_source m is.tree resolves.tree is.nodes resolves.nodes in
    let distinct = subst (λ (t : SourceTree). AllDistinct t.bound) same (all_distinct is.tree.bound is.no_doubles.labels) in
    subst (λ n. AreTerms n r.bindings) at (terms_are declared [] resolves.tree.bound r.bindings distinct resolves.terms)
