-- How the check of a section goes on.
use Rattle.std.proofs.Common.{◌≡◌, ◌↔◌, inl, inr, ℕ, zero, suc, ◌+◌, ◌-◌, ◌≤◌, Bool, true, false, List, [], ◌∷◌, ◌++◌, map, length, refl, sym, ap, ◌∙◌, subst, arith, slice_get, append_assoc, append-nil, length-append, Option, Some, None, cond, nat_eq}
use Rattle.std.specs.Prelude.{if◌then◌else◌}
use Rattle.std.specs.FinMap as env
use Rattle.std.specs.Ordering.{nat_cmp, eq_by_cmp}
use Rattle.std.proofs.iter.runs.Lists.{nth_seam}
use Rattle.mls_book.specs.declared.book.Field.{Field}
use Rattle.mls_book.specs.declared.book.Node.{Node}
use Rattle.mls_book.specs.declared.book.Node.TheVariants as node
use Rattle.mls_book.specs.Books.{node_at, IsClosedBook}
use Rattle.mls_book.specs.Schemes.{Scheme}
use Rattle.mls_term.specs.declared.term.ResolvedBinding.{ResolvedBinding}
use Rattle.mls_typetext.specs.declared.scheme.ReadScheme.{ReadScheme}
use Rattle.mls_typetext.specs.Texts.{IsTypeText}
use Rattle.mls_typetext.proofs.ReadLaws.{one_reading}
use Rattle.mls_book.specs.declared.book.NodeId.{NodeId}
use Rattle.mls_deriv.specs.declared.derivation.BinderNode.{BinderNode}
use Rattle.mls_deriv.specs.declared.derivation.Mode.{Mode}
use Rattle.mls_deriv.specs.declared.derivation.Section.{Section}
use Rattle.mls_deriv.specs.declared.derivation.SectionLine.{SectionLine}
use Rattle.mls_deriv.specs.declared.derivation.SectionLine.TheVariants as line
use Rattle.mls_deriv.specs.declared.derivation.StepLine.{StepLine}
use Rattle.mls_deriv.specs.Sections.{at_start, HasRefused, steps_of, IsHeadRead, IsEndAllowed}
use Rattle.mls_deriv.specs.Steps.{Before, HasFrom, raised, raised_id, raised_field, IsRising, IsAllowed, puts_of, pairs_of, env_of}
use Rattle.mls_deriv.specs.inner.Rules.{Given, last_of, IsWhole}
use Rattle.mls_deriv.specs.inner.Tables.{or_else}
use Rattle.mls_deriv.specs.inner.Walks.{behind, HasCome, AreChecked}
use Rattle.mls_deriv.proofs.Checking.{given_to, given_from}
use Rattle.mls_deriv.proofs.StepEnvironments.{one_test, env_first}

-- nothing is added
none_added : (n : ℕ) → 0 + n ≡ n
none_added n = omega arith

id_0 : (j : NodeId) → raised_id 0 j ≡ j
id_0 j = λ i. record { 0 = none_added j.0 i }

raised_fields : (fields : List Field) → map (raised_field 0) fields ≡ fields
raised_fields [] = refl
raised_fields (field ∷ fields) = λ i. record { label = field.label; node = id_0 field.node i } ∷ raised_fields fields i

raised_0 : (x : Node) → raised 0 x ≡ x
raised_0 node.Bot = refl
raised_0 node.Top = refl
raised_0 (node.Var x) = refl
raised_0 node.Bool = refl
raised_0 node.Int = refl
raised_0 (node.Arrow j k) = λ i. node.Arrow (id_0 j i) (id_0 k i)
raised_0 (node.Rcd fields) = ap node.Rcd (raised_fields fields)
raised_0 (node.Join j k) = λ i. node.Join (id_0 j i) (id_0 k i)
raised_0 (node.Meet j k) = λ i. node.Meet (id_0 j i) (id_0 k i)

-- the head is read as its text is, if the nodes begin with that book
pub head_is : (section : Section) (read : ReadScheme) → IsTypeText section.text read → IsClosedBook section.nodes × HasFrom section.nodes 0 read.book → IsHeadRead section read
head_is section read text (closed, has) = record {
  text = text;
  closed = closed;
  longer = subst (λ n. n ≤ length section.nodes) (none_added (length read.book)) has.within;
  begins = λ i low. ap (node_at section.nodes) (sym (none_added i)) ∙ (has.nodes i low ∙ raised_0 (node_at read.book i));
}

pub head_begins : (section : Section) (read : ReadScheme) → IsHeadRead section read → IsClosedBook section.nodes × HasFrom section.nodes 0 read.book
head_begins section read head = (
  head.closed,
  record {
    within = subst (λ n. n ≤ length section.nodes) (sym (none_added (length read.book))) head.longer;
    nodes = λ i low. ap (node_at section.nodes) (none_added i) ∙ (head.begins i low ∙ sym (raised_0 (node_at read.book i)));
  },
)

pub head_not : (section : Section) (read : ReadScheme) → IsTypeText section.text read → (IsClosedBook section.nodes × HasFrom section.nodes 0 read.book → ⊥) → (other : ReadScheme) → IsHeadRead section other → ⊥
head_not section read text not other head = not (head_begins section read (subst (IsHeadRead section) (one_reading section.text other read head.text text) head))

-- a let number that is given
find_more : (q k n : ℕ) (es : List (ℕ × ℕ)) → env.find nat_cmp q (es ++ (k, n) ∷ []) ≡ or_else (env.find nat_cmp q es) (if nat_eq k q then Some n else None)
find_more q k n [] = go (nat_eq k q) (one_test q k)
  where
    go : (b : Bool) → eq_by_cmp nat_cmp q k ≡ b → cond (eq_by_cmp nat_cmp q k) (Some n) None ≡ (if b then Some n else None)
    go true e = ap (λ b. cond b (Some n) None) e
    go false e = ap (λ b. cond b (Some n) None) e
find_more q k n (e ∷ es) = go (eq_by_cmp nat_cmp q e.0) (find_more q k n es)
  where
    go : (b : Bool) → env.find nat_cmp q (es ++ (k, n) ∷ []) ≡ or_else (env.find nat_cmp q es) (if nat_eq k q then Some n else None)
        → cond b (Some e.1) (env.find nat_cmp q (es ++ (k, n) ∷ [])) ≡ or_else (cond b (Some e.1) (env.find nat_cmp q es)) (if nat_eq k q then Some n else None)
    go true later = refl
    go false later = later

rising_more : (steps : List StepLine) (s : StepLine) → ((n : ℕ) (t : StepLine) → slice_get steps n ≡ Some t → IsRising t.env) → IsRising s.env
    → (n : ℕ) (t : StepLine) → slice_get (steps ++ s ∷ []) n ≡ Some t → IsRising t.env
rising_more [] s all rises zero t e = subst (λ (u : StepLine). IsRising u.env) (let same : s ≡ t = cc in same) rises
rising_more [] s all rises (suc n) t e = absurd (cc)
rising_more (first ∷ rest) s all rises zero t e = all 0 t e
rising_more (first ∷ rest) s all rises (suc n) t e = rising_more rest s (λ m. all (suc m)) rises n t e

module _ (b : Before) (lines : List SectionLine) where
  pub come_let : (k n : ℕ) (rest : List SectionLine) (steps : List StepLine) (l l' : ℕ → Option ℕ) → HasCome b lines (line.Let k n ∷ rest) steps l
      → ((q : ℕ) → l' q ≡ or_else (l q) (if nat_eq k q then Some n else None)) → HasCome b lines rest steps l'
  come_let k n rest steps l l' it adds = record {
    given = it.given ++ (k, n) ∷ [];
    lets_are = λ q. adds q ∙ (ap (λ o. or_else o (if nat_eq k q then Some n else None)) (it.lets_are q) ∙ sym (find_more q k n it.given));
    rising = it.rising;
    so_far = it.so_far;
    allowed = it.allowed;
    refused = it.refused;
  }

  pub come_put : (x : ℕ) (n : NodeId) (rest : List SectionLine) (steps : List StepLine) (l : ℕ → Option ℕ) → HasCome b lines (line.Put x n ∷ rest) steps l → HasCome b lines rest steps l
  come_put x n rest steps l it = record { given = it.given; lets_are = it.lets_are; rising = it.rising; so_far = it.so_far; allowed = it.allowed; refused = it.refused }

  pub come_pair : (m : Mode) (i j : NodeId) (rest : List SectionLine) (steps : List StepLine) (l : ℕ → Option ℕ) → HasCome b lines (line.Pair m i j ∷ rest) steps l → HasCome b lines rest steps l
  come_pair m i j rest steps l it = record { given = it.given; lets_are = it.lets_are; rising = it.rising; so_far = it.so_far; allowed = it.allowed; refused = it.refused }

  pub come_step : (s : StepLine) (rest : List SectionLine) (steps : List StepLine) (l : ℕ → Option ℕ) → (it : HasCome b lines (line.Step s ∷ rest) steps l)
      → IsAllowed (behind b steps it.given) (puts_of rest) (pairs_of rest) s → HasCome b lines rest (steps ++ s ∷ []) l
  come_step s rest steps l it allowed = record {
    given = it.given;
    lets_are = it.lets_are;
    rising = rising_more steps s it.rising allowed.rising;
    so_far = append_assoc steps (s ∷ []) (steps_of rest) ∙ it.so_far;
    allowed = λ h. it.allowed (allowed, h);
    refused = λ n r h.
        let count : n + length (steps ++ s ∷ []) ≡ suc (n + length steps) = ap (λ m. n + m) (length-append steps (s ∷ [])) ∙ (let e : n + (length steps + 1) ≡ suc (n + length steps) = omega arith in e) in
        it.refused n r (inr (allowed, subst (λ m. HasRefused (behind b (steps ++ s ∷ []) it.given) m rest r) count h));
  }

  pub come_refused : (s : StepLine) (rest : List SectionLine) (steps : List StepLine) (l : ℕ → Option ℕ) → (it : HasCome b lines (line.Step s ∷ rest) steps l)
      → (IsAllowed (behind b steps it.given) (puts_of rest) (pairs_of rest) s → ⊥) → AreChecked b lines steps false
  come_refused s rest steps l it not n = it.refused n (n + length steps) (inl (not, refl))

  pub come_end : (steps : List StepLine) (l : ℕ → Option ℕ) → HasCome b lines [] steps l → AreChecked b lines steps true
  come_end steps l it = (it.allowed tt, sym (append-nil steps) ∙ it.so_far)

-- at the first line
pub come_start : (globals : List Scheme) (binding : ResolvedBinding) (section : Section) (steps : List StepLine) (l : ℕ → Option ℕ) → steps ≡ [] → ((k : ℕ) → l k ≡ None)
    → HasCome (at_start globals binding section) section.lines section.lines steps l
come_start globals binding section steps l is none = subst (λ ss. HasCome (at_start globals binding section) section.lines section.lines ss l) (sym is) (record {
  given = [];
  lets_are = none;
  rising = λ n s e. absurd (cc);
  so_far = refl;
  allowed = λ h. h;
  refused = λ n r h. subst (λ m. HasRefused (at_start globals binding section) m section.lines r) (let e : n + 0 ≡ n = omega arith in e) h;
})

-- the last of a list
last_split : (xs : List StepLine) (x : StepLine) → last_of xs ≡ Some x → (ys : List StepLine) × (xs ≡ ys ++ x ∷ [])
last_split [] x e = absurd (cc)
last_split (y ∷ []) x e = ([], (let same : y ≡ x = cc in ap (λ (z : StepLine). z ∷ []) same))
last_split (y ∷ z ∷ zs) x e =
    let count : length (y ∷ z ∷ zs) - 1 ≡ suc (length (z ∷ zs) - 1) = omega arith in
    let it = last_split (z ∷ zs) x (ap (slice_get (y ∷ z ∷ zs)) (sym count) ∙ e) in
    (y ∷ it.0, ap (λ (ss : List StepLine). y ∷ ss) it.1)

last_is : (ys : List StepLine) (x : StepLine) → last_of (ys ++ x ∷ []) ≡ Some x
last_is ys x =
    let all : length (ys ++ x ∷ []) ≡ length ys + 1 = length-append ys (x ∷ []) in
    let count : length (ys ++ x ∷ []) - 1 ≡ length ys = omega arith in
    ap (slice_get (ys ++ x ∷ [])) count ∙ nth_seam ys x

-- the end of a section by its last step
pub end_is : (binding : ResolvedBinding) (section : Section) (read : ReadScheme) (steps : List StepLine) → steps ≡ steps_of section.lines → section.name ≡ binding.name
    → Given (last_of steps) (IsWhole (length binding.term.nodes) read) ↔ IsEndAllowed binding section read
end_is binding section read steps all name = (
  λ h.
      let it = given_to (last_of steps) _ h in
      let split = last_split steps it.0 it.1 in
      record { name = name; earlier = split.0; last = it.0; last_is = sym all ∙ split.1; root = it.2.0; env = ap env_of it.2.1; type = it.2.2 },
  λ e.
      given_from (last_of steps) _ e.last (ap last_of (all ∙ e.last_is) ∙ last_is e.earlier e.last)
      (e.root, no_entry e.last.env e.env, e.type),
)
  where
    no_entry : (es : List BinderNode) → env_of es ≡ env.empty → es ≡ []
    no_entry [] e = refl
    no_entry (x ∷ es) e = absurd (let found : env.get (env_of (x ∷ es)) x.binder ≡ Some x.node.0 = env_first x es in
        let none : env.get (env_of (x ∷ es)) x.binder ≡ None = ap (λ d. env.get d x.binder) e ∙ env.get-empty nat_cmp x.binder in
        let no : Some x.node.0 ≡ None = sym found ∙ none in cc)
