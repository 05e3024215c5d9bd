-- Environments of steps as lists and as maps.
--     env_same       lists that rise are equal where their maps are
--     env_get        the node of a binder
--     env_without    the other binders
use Rattle.std.proofs.Common.{◌≡◌, ℕ, ◌<◌, Bool, true, false, List, [], ◌∷◌, map, refl, sym, ap, ◌∙◌, arith, Option, Some, None, cond, nat_eq}
use Rattle.std.specs.Prelude.{All, find, option_map, not}
use Rattle.std.specs.FinMap as env
use Rattle.std.specs.FinMap.{same_map, nat_cmp-IsAntisymmetric, put}
use Rattle.std.specs.Ordering.{nat_cmp, eq_by_cmp, is_eq}
use Rattle.std.specs.Cmp.{nat_cmp_is}
use Rattle.std.specs.declared.cmp.Ordering.{Ordering}
use Rattle.std.specs.declared.cmp.Ordering.TheVariants.{Less, Equal, Greater}
use Rattle.std.proofs.lemmas.Cmp.{nat_cmp_total}
use Rattle.std.proofs.lemmas.Bool.Decides.{Decides-eqb}
use Rattle.std.proofs.lemmas.List.Elements.{All-head, All-tail, All-cons}
use Rattle.mls_deriv.specs.declared.derivation.BinderNode.{BinderNode}
use Rattle.mls_deriv.specs.Steps.{env_of, IsRising}
use Rattle.mls_deriv.specs.inner.Rules.{node_in, without}
use Rattle.mls_deriv.proofs.Entries.{entry_is}

abbrev entries_of : List BinderNode → List (ℕ × ℕ)
entries_of es = map (λ e. (e.binder, e.node.0)) es

tied : (x y : ℕ) → x ≡ y → eq_by_cmp nat_cmp x y ≡ true
tied x y e = ap is_eq (sym (nat_cmp_is x y Equal e))

apart : (x y : ℕ) → (x ≡ y → ⊥) → eq_by_cmp nat_cmp x y ≡ false
apart x y other = go (nat_cmp x y) refl
  where
    go : (o : Ordering) → nat_cmp x y ≡ o → is_eq o ≡ false
    go Less e = refl
    go Equal e = absurd (other (nat_cmp-IsAntisymmetric x y e))
    go Greater e = refl

-- both tests of keys are one
pub one_test : (x y : ℕ) → eq_by_cmp nat_cmp x y ≡ nat_eq y x
one_test x y = go (nat_eq y x) refl
  where
    go : (b : Bool) → nat_eq y x ≡ b → eq_by_cmp nat_cmp x y ≡ b
    go true e = tied x y (sym ((Decides-eqb y x).0 e))
    go false e = apart x y (λ same. absurd (let yes : nat_eq y x ≡ true = (Decides-eqb y x).1 (sym same) in cc))

find_is : (es : List BinderNode) (x : ℕ) → env.find nat_cmp x (entries_of es) ≡ node_in es x
find_is [] x = refl
find_is (e ∷ es) x = go (nat_eq e.binder x) (one_test x e.binder) (find_is es x)
  where
    go : (b : Bool) → eq_by_cmp nat_cmp x e.binder ≡ b → env.find nat_cmp x (entries_of es) ≡ node_in es x
        → cond (eq_by_cmp nat_cmp x e.binder) (Some e.node.0) (env.find nat_cmp x (entries_of es)) ≡ option_map (λ (e : BinderNode). e.node.0) (cond b (Some e) (find (λ (e : BinderNode). nat_eq e.binder x) es))
    go true is later = ap (λ b. cond b (Some e.node.0) (env.find nat_cmp x (entries_of es))) is
    go false is later = ap (λ b. cond b (Some e.node.0) (env.find nat_cmp x (entries_of es))) is ∙ later

-- the node of a binder
pub env_get : (es : List BinderNode) (x : ℕ) → env.get (env_of es) x ≡ node_in es x
env_get es x = env.get-from_entries nat_cmp_total (entries_of es) x ∙ find_is es x

put_first : (e : BinderNode) (es : List BinderNode) → All (λ later. e.binder < later.binder) es → put nat_cmp e.binder e.node.0 (entries_of es) ≡ entries_of (e ∷ es)
put_first e [] above = refl
put_first e (f ∷ es) above =
    let less : e.binder < f.binder = above 0 f (omega arith) in
    let is : nat_cmp e.binder f.binder ≡ Less = sym (nat_cmp_is e.binder f.binder Less less) in
    rw is refl

no_entry : (es : List (ℕ × ℕ)) → ((q : ℕ) → env.find nat_cmp q es ≡ None) → es ≡ []
no_entry [] none = refl
no_entry (e ∷ es) none =
    absurd (let found : env.find nat_cmp e.0 (e ∷ es) ≡ Some e.1 = ap (λ b. cond b (Some e.1) (env.find nat_cmp e.0 es)) (tied e.0 e.0 refl) in
    let nothing : env.find nat_cmp e.0 (e ∷ es) ≡ None = none e.0 in
    let no : Some e.1 ≡ None = sym found ∙ nothing in cc)

-- the entries of a list that rises
env_entries : (es : List BinderNode) → IsRising es → env.entries (env_of es) ≡ entries_of es
env_entries [] rising = no_entry (env.entries (env.empty {X = ℕ} {R = nat_cmp})) (λ q. sym (env.get-entries (env.empty {X = ℕ} {R = nat_cmp}) q) ∙ env.get-empty nat_cmp q)
env_entries (e ∷ es) rising =
    env.entries-insert nat_cmp_total (env_of es) e.binder e.node.0
    ∙ (ap (put nat_cmp e.binder e.node.0) (env_entries es rising.1) ∙ put_first e es rising.0)

entries_same : (es fs : List BinderNode) → entries_of es ≡ entries_of fs → es ≡ fs
entries_same [] [] same = refl
entries_same [] (f ∷ fs) same = absurd (cc)
entries_same (e ∷ es) [] same = absurd (cc)
entries_same (e ∷ es) (f ∷ fs) same =
    let first : ◌≡◌ {A = ℕ × ℕ} (e.binder, e.node.0) (f.binder, f.node.0) = cc in
    let rest : entries_of es ≡ entries_of fs = cc in
    let is : e ≡ f = entry_is e f (ap (λ (p : ℕ × ℕ). p.0) first) (ap (λ (p : ℕ × ℕ). p.1) first) in
    λ i. is i ∷ entries_same es fs rest i

-- lists that rise are equal where their maps are
pub env_same : (es fs : List BinderNode) → IsRising es → IsRising fs → env_of es ≡ env_of fs → es ≡ fs
env_same es fs rising rising' same = entries_same es fs (sym (env_entries es rising) ∙ (ap env.entries same ∙ env_entries fs rising'))

node_without : (x : ℕ) (es : List BinderNode) (y : ℕ) → node_in (without x es) y ≡ cond (nat_eq x y) None (node_in es y)
node_without x [] y = go (nat_eq x y)
  where
    go : (b : Bool) → ◌≡◌ {A = Option ℕ} None (cond b None None)
    go true = refl
    go false = refl
node_without x (e ∷ es) y = go (nat_eq e.binder x) (nat_eq e.binder y) (nat_eq x y) refl refl refl (node_without x es y)
  where
    at : Bool → Option ℕ
    at b = option_map (λ (e : BinderNode). e.node.0) (cond b (Some e) (find (λ (e : BinderNode). nat_eq e.binder y) es))

    kept : Bool → List BinderNode
    kept b = cond (not b) (e ∷ without x es) (without x es)

    go : (b c d : Bool) → nat_eq e.binder x ≡ b → nat_eq e.binder y ≡ c → nat_eq x y ≡ d → node_in (without x es) y ≡ cond d None (node_in es y)
        → node_in (kept b) y ≡ cond d None (at c)
    go true c true p q r later = later
    go true true false p q r later =
        absurd (let one : e.binder ≡ x = (Decides-eqb e.binder x).0 p in
        let two : e.binder ≡ y = (Decides-eqb e.binder y).0 q in
        let yes : nat_eq x y ≡ true = (Decides-eqb x y).1 (sym one ∙ two) in cc)
    go true false false p q r later = later
    go false true true p q r later =
        absurd (let two : e.binder ≡ y = (Decides-eqb e.binder y).0 q in
        let three : x ≡ y = (Decides-eqb x y).0 r in
        let yes : nat_eq e.binder x ≡ true = (Decides-eqb e.binder x).1 (two ∙ sym three) in cc)
    go false true false p q r later = ap (λ b. option_map (λ (e : BinderNode). e.node.0) (cond b (Some e) (find (λ (e : BinderNode). nat_eq e.binder y) (without x es)))) q
    go false false d p q r later = ap (λ b. option_map (λ (e : BinderNode). e.node.0) (cond b (Some e) (find (λ (e : BinderNode). nat_eq e.binder y) (without x es)))) q ∙ later

-- the other binders
pub env_without : (x : ℕ) (es : List BinderNode) → env_of (without x es) ≡ env.remove (env_of es) x
env_without x es =
    same_map nat_cmp_total nat_cmp-IsAntisymmetric (env_of (without x es)) (env.remove (env_of es) x)
    (λ q. env_get (without x es) q ∙ (node_without x es q
    ∙ sym (env.get-remove nat_cmp_total (env_of es) x q ∙ (ap (λ b. cond b None (env.get (env_of es) q)) (one_test q x) ∙ ap (cond (nat_eq x q) None) (env_get es q)))))

above_without : (n x : ℕ) (es : List BinderNode) → All (λ later. n < later.binder) es → All (λ later. n < later.binder) (without x es)
above_without n x [] above = above
above_without n x (e ∷ es) above = go (nat_eq e.binder x) (above_without n x es (All-tail (λ (l : BinderNode). n < l.binder) e es above))
  where
    go : (b : Bool) → All (λ (l : BinderNode). n < l.binder) (without x es) → All (λ (l : BinderNode). n < l.binder) (cond (not b) (e ∷ without x es) (without x es))
    go true rest = rest
    go false rest = All-cons (λ (l : BinderNode). n < l.binder) e (without x es) (All-head (λ (l : BinderNode). n < l.binder) e es above) rest

pub rising_without : (x : ℕ) (es : List BinderNode) → IsRising es → IsRising (without x es)
rising_without x [] rising = tt
rising_without x (e ∷ es) rising = go (nat_eq e.binder x) (rising_without x es rising.1)
  where
    go : (b : Bool) → IsRising (without x es) → IsRising (cond (not b) (e ∷ without x es) (without x es))
    go true rest = rest
    go false rest = (above_without e.binder x es rising.0, rest)

-- the first entry is found
pub env_first : (e : BinderNode) (es : List BinderNode) → env.get (env_of (e ∷ es)) e.binder ≡ Some e.node.0
env_first e es = env.get-from_entries nat_cmp_total (entries_of (e ∷ es)) e.binder ∙ ap (λ b. cond b (Some e.node.0) (env.find nat_cmp e.binder (entries_of es))) (tied e.binder e.binder refl)
