-- Lists of what variables stand for.
--     put_inside, put_found       a variable with a node has an entry
--     follow_inside, follow_has, first_variable   variables that follow each other
--     shares, shared, not_shared  whether some variable has a node in both lists
--     by_state_none, by_state_more        binders by their states
--     bound_copy, plain_copy      the copy of a state
--     puts_push, puts_follow, puts_inside, puts_hold, puts_there, puts_weaker     the variables from one on, in order
use Rattle.std.proofs.Common.{◌≡◌, ◌⊎◌, inl, inr, ℕ, suc, ◌+◌, ◌<◌, ◌≤◌, Bool, true, false, cond, List, [], ◌∷◌, ◌++◌, length, refl, sym, ap, ◌∙◌, subst, slice_get, arith, Contains, Option, Some, None}
use Rattle.std.specs.Prelude.{find, is_some, option_map, IsSome, ◌==◌}
use Rattle.std.specs.BTreeMap.{BTreeMap, IsEmpty, Updates, get, is_at}
use Rattle.std.specs.Map.{lookup}
use Rattle.std.specs.Ordering.{nat_cmp, is_eq}
use Rattle.std.proofs.lemmas.Bool.{eqb-true, eq-eqb}
use Rattle.std.proofs.lemmas.List.Elements.{Contains-append_left, Contains-push, Contains-push_cases}
use Rattle.mls_automaton.specs.declared.scheme.EnvEntry.{EnvEntry}
use Rattle.mls_automaton.specs.declared.scheme.Scheme.{Scheme}
use Rattle.mls_automaton.proofs.Lists.{Contains-here, Contains-later, Contains-cases}
use Rattle.mls_deriv.specs.declared.claim.Put.{Put}
use Rattle.mls_deriv.specs.Pairs.{put_at}
use Rattle.mls_layout.proofs.KeySets.{number_same, number_self}
use Rattle.mls_parts.specs.declared.pose.Posing.{Posing}
use Rattle.mls_parts.specs.Posings.{binder_in}
use Rattle.mls_lines.specs.Puts.{ArePutsFrom, AreByState, FollowFrom, IsCopyIn, ShareVariable}

-- a variable with a node has an entry
pub put_inside : (puts : List Put) (x n : ℕ) → put_at puts x ≡ Some n → (put : Put) × Contains puts put × (put.variable ≡ x) × (put.node ≡ n)
put_inside [] x n e = absurd (cc)
put_inside (put ∷ puts) x n e = go (put.variable == x) refl e (put_inside puts x n)
  where
    go : (t : Bool) → (put.variable == x) ≡ t → option_map (λ (p : Put). p.node) (cond t (Some put) (find (λ (p : Put). p.variable == x) puts)) ≡ Some n
        → (put_at puts x ≡ Some n → (p : Put) × Contains puts p × (p.variable ≡ x) × (p.node ≡ n))
        → (p : Put) × Contains (put ∷ puts) p × (p.variable ≡ x) × (p.node ≡ n)
    go true is e later = (put, Contains-here put puts, eqb-true put.variable x is, (let h : Some put.node ≡ Some n = e in cc))
    go false is e later = let w = later e in (w.0, Contains-later put puts w.0 w.1, w.2, w.3)

pub put_found : (puts : List Put) (put : Put) → Contains puts put → (n : ℕ) × (put_at puts put.variable ≡ Some n)
put_found [] put there = let low : there.0 < 0 = there.1 in absurd (omega arith)
put_found (first ∷ puts) put there = go (first.variable == put.variable) refl (Contains-cases first puts put there) (put_found puts put)
  where
    go : (t : Bool) → (first.variable == put.variable) ≡ t → (first ≡ put) ⊎ Contains puts put → (Contains puts put → (n : ℕ) × (put_at puts put.variable ≡ Some n))
        → (n : ℕ) × (option_map (λ (p : Put). p.node) (cond t (Some first) (find (λ (p : Put). p.variable == put.variable) puts)) ≡ Some n)
    go true is where_is later = (first.node, refl)
    go false is (inl same) later = absurd (let yes_it : (first.variable == put.variable) ≡ true = eq-eqb first.variable put.variable (ap (λ (p : Put). p.variable) same) in cc)
    go false is (inr rest) later = later rest

-- variables that follow each other
pub follow_inside : (x : ℕ) (puts : List Put) → FollowFrom x puts → (put : Put) → Contains puts put → (x ≤ put.variable) × (put.variable < x + length puts)
follow_inside x [] follow put there = let low : there.0 < 0 = there.1 in absurd (omega arith)
follow_inside x (first ∷ puts) follow put there = go (Contains-cases first puts put there) (follow_inside (suc x) puts follow.1 put)
  where
    go : (first ≡ put) ⊎ Contains puts put → (Contains puts put → (suc x ≤ put.variable) × (put.variable < suc x + length puts)) → (x ≤ put.variable) × (put.variable < x + suc (length puts))
    go (inl same) later = let is : put.variable ≡ x = sym (ap (λ (p : Put). p.variable) same) ∙ follow.0 in (omega (arith, is), omega (arith, is))
    go (inr rest) later = let w = later rest in (omega (arith, w.0), omega (arith, w.1))

pub follow_has : (x : ℕ) (puts : List Put) → FollowFrom x puts → (y : ℕ) → x ≤ y → y < x + length puts → (put : Put) × Contains puts put × (put.variable ≡ y)
follow_has x [] follow y more less = absurd (omega arith)
follow_has x (first ∷ puts) follow y more less = go (first.variable == y) refl (follow_has (suc x) puts follow.1 y)
  where
    go : (t : Bool) → (first.variable == y) ≡ t → (suc x ≤ y → y < suc x + length puts → (put : Put) × Contains puts put × (put.variable ≡ y)) → (put : Put) × Contains (first ∷ puts) put × (put.variable ≡ y)
    go true is later = (first, Contains-here first puts, eqb-true first.variable y is)
    go false is later =
        let other : x ≡ y → ⊥ = λ same. (let yes_it : (first.variable == y) ≡ true = eq-eqb first.variable y (follow.0 ∙ same) in absurd (cc)) in
        let w = later (omega (arith, other)) (omega arith) in
        (w.0, Contains-later first puts w.0 w.1, w.2)

-- the first of variables that follow each other
pub first_variable : (x : ℕ) (others : List Put) (first : Put) → FollowFrom x others → Some first ≡ slice_get others 0 → first.variable ≡ x
first_variable x [] first follow is = absurd (cc)
first_variable x (one ∷ others) first follow is = let same : first ≡ one = cc in ap (λ (p : Put). p.variable) same ∙ follow.0

-- whether some variable has a node in both lists
pub shares : (x : ℕ) (puts others : List Put) → FollowFrom x others → (put : Put) → Contains puts put → x ≤ put.variable → put.variable < x + length others → ShareVariable puts others
shares x puts others follow put there more less =
    let w = follow_has x others follow put.variable more less in
    let one = put_found puts put there in
    let two = put_found others w.0 w.1 in
    (put.variable, one.0, two.0, one.1, subst (λ y. put_at others y ≡ Some two.0) w.2 two.1)

pub shared : (x : ℕ) (puts others : List Put) → FollowFrom x others → ShareVariable puts others → (put : Put) × Contains puts put × (x ≤ put.variable) × (put.variable < x + length others)
shared x puts others follow (y, m, n, one, two) =
    let p = put_inside puts y m one in
    let q = put_inside others y n two in
    let same : q.0.variable ≡ p.0.variable = q.2 ∙ sym p.2 in
    let w = follow_inside x others follow q.0 q.1 in
    (p.0, p.1, subst (λ z. x ≤ z) same w.0, subst (λ z. z < x + length others) same w.1)

pub not_shared : (puts others : List Put) → (ShareVariable puts others → ⊥) → (x n : ℕ) → put_at others x ≡ Some n → put_at puts x ≡ None
not_shared puts others none x n two = go (put_at puts x) refl
  where
    go : (o : Option ℕ) → put_at puts x ≡ o → put_at puts x ≡ None
    go None one = one
    go (Some m) one = absurd (none (x, m, n, one, two))

-- binders by their states
pub by_state_none : (binders : BTreeMap ℕ ℕ) → IsEmpty binders → AreByState [] binders
by_state_none binders none = record {
  each = λ entry there. let low : there.0 < 0 = there.1 in absurd (omega arith);
  from =
      λ s x is.
      let empty : get nat_cmp binders s ≡ None = ap (lookup (is_at (nat_cmp s))) none in
      absurd (let wrong : None ≡ Some x = sym empty ∙ is in cc);
}

pub by_state_more : (env : List EnvEntry) (old new : BTreeMap ℕ ℕ) (entry : EnvEntry) → AreByState env old → Updates nat_cmp old new entry.state.0 (Some entry.binder) → AreByState (env ++ entry ∷ []) new
by_state_more env old new entry it updates = record {
  each = λ other there. each_at other (is_eq (nat_cmp entry.state.0 other.state.0)) refl (Contains-push_cases env entry other there);
  from = λ s x is. from_at s x (is_eq (nat_cmp entry.state.0 s)) refl is;
}
  where
    now : (s : ℕ) (t : Bool) → is_eq (nat_cmp entry.state.0 s) ≡ t → get nat_cmp new s ≡ cond t (Some entry.binder) (get nat_cmp old s)
    now s t e = updates.0 s ∙ (λ i. cond (e i) (Some entry.binder) (get nat_cmp old s))

    each_at : (other : EnvEntry) (t : Bool) → is_eq (nat_cmp entry.state.0 other.state.0) ≡ t → Contains env other ⊎ (entry ≡ other) → IsSome (get nat_cmp new other.state.0)
    each_at other true e there = subst IsSome (sym (now other.state.0 true e)) refl
    each_at other false e (inl there) = subst IsSome (sym (now other.state.0 false e)) (it.each other there)
    each_at other false e (inr same) =
        absurd (let wrong : is_eq (nat_cmp entry.state.0 other.state.0) ≡ true = subst (λ (o : EnvEntry). is_eq (nat_cmp entry.state.0 o.state.0) ≡ true) same (number_self entry.state.0) in cc)

    from_at : (s x : ℕ) (t : Bool) → is_eq (nat_cmp entry.state.0 s) ≡ t → get nat_cmp new s ≡ Some x
        → (other : EnvEntry) × Contains (env ++ entry ∷ []) other × (other.state.0 ≡ s) × (other.binder ≡ x)
    from_at s x true e is =
        let same : entry.binder ≡ x = (let h : Some entry.binder ≡ Some x = sym (now s true e) ∙ is in cc) in
        (entry, Contains-push env entry, number_same entry.state.0 s e, same)
    from_at s x false e is =
        let w = it.from s x (sym (now s false e) ∙ is) in
        (w.0, Contains-append_left env (entry ∷ []) w.0 w.1, w.2, w.3)

-- the copy of a state
pub bound_copy : (p : Posing) (known : Scheme) (binders : BTreeMap ℕ ℕ) (first s x : ℕ) → AreByState known.env binders → get nat_cmp binders s ≡ Some x → IsCopyIn p known first s (binder_in p x)
bound_copy p known binders first s x by is = let w = by.from s x is in inl (w.0, w.1, w.2, ap (binder_in p) (sym w.3))

pub plain_copy : (p : Posing) (known : Scheme) (binders : BTreeMap ℕ ℕ) (first s : ℕ) → AreByState known.env binders → get nat_cmp binders s ≡ None → IsCopyIn p known first s (first + s)
plain_copy p known binders first s by none =
    inr (
      (λ entry there same.
          let it : is_some (get nat_cmp binders s) ≡ true = subst (λ k. IsSome (get nat_cmp binders k)) same (by.each entry there) in
          let lacking : is_some (get nat_cmp binders s) ≡ false = ap is_some none in
          absurd (cc)),
      refl,
    )

-- the variables from one on, in order
module _ (Holds : ℕ → ℕ → Type 0) where
  pub puts_push : (x : ℕ) (puts : List Put) (put : Put) → ArePutsFrom Holds x puts → put.variable ≡ x + length puts → Holds put.variable put.node → ArePutsFrom Holds x (puts ++ put ∷ [])
  puts_push x [] put are variable holds = (omega (arith, variable), subst (λ y. Holds y put.node) (omega (arith, variable)) holds, tt)
  puts_push x (first ∷ puts) put are variable holds = (are.0, are.1, puts_push (suc x) puts put are.2 (omega (arith, variable)) holds)

  pub puts_follow : (x : ℕ) (puts : List Put) → ArePutsFrom Holds x puts → FollowFrom x puts
  puts_follow x [] are = tt
  puts_follow x (first ∷ puts) are = (are.0, puts_follow (suc x) puts are.2)

  pub puts_inside : (x : ℕ) (puts : List Put) → ArePutsFrom Holds x puts → (put : Put) → Contains puts put → Holds put.variable put.node
  puts_inside x [] are put there = let low : there.0 < 0 = there.1 in absurd (omega arith)
  puts_inside x (first ∷ puts) are put there = go (Contains-cases first puts put there) (puts_inside (suc x) puts are.2 put)
    where
      go : (first ≡ put) ⊎ Contains puts put → (Contains puts put → Holds put.variable put.node) → Holds put.variable put.node
      go (inl same) later = subst (λ (p : Put). Holds p.variable p.node) same (subst (λ y. Holds y first.node) (sym are.0) are.1)
      go (inr rest) later = later rest

  pub puts_hold : (x : ℕ) (puts : List Put) → ArePutsFrom Holds x puts → (y n : ℕ) → put_at puts y ≡ Some n → Holds y n
  puts_hold x puts are y n e =
      let w = put_inside puts y n e in
      subst (λ z. Holds z n) w.2 (subst (λ m. Holds w.0.variable m) w.3 (puts_inside x puts are w.0 w.1))

  pub puts_there : (x : ℕ) (puts : List Put) → ArePutsFrom Holds x puts → (y : ℕ) → x ≤ y → y < x + length puts → (n : ℕ) × (put_at puts y ≡ Some n) × Holds y n
  puts_there x puts are y more less =
      let w = follow_has x puts (puts_follow x puts are) y more less in
      let found = put_found puts w.0 w.1 in
      let at : put_at puts y ≡ Some found.0 = subst (λ z. put_at puts z ≡ Some found.0) w.2 found.1 in
      (found.0, at, puts_hold x puts are y found.0 at)

pub puts_weaker : (P Q : ℕ → ℕ → Type 0) → ((x n : ℕ) → P x n → Q x n) → (x : ℕ) (puts : List Put) → ArePutsFrom P x puts → ArePutsFrom Q x puts
puts_weaker P Q weaker x [] are = tt
puts_weaker P Q weaker x (first ∷ puts) are = (are.0, weaker x first.node are.1, puts_weaker P Q weaker (suc x) puts are.2)
