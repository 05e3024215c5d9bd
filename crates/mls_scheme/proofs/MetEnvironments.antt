-- Two environments are made into one, binder by binder.
--     meet-first, meet-second, meet-both     the next entry: of the one, of the other, of both
--     met                                    in the end
use Rattle.std.proofs.Common.{◌≡◌, ◌≢◌, inl, inr, ℕ, suc, ◌<◌, ◌≤◌, ◌+◌, Bool, true, false, Option, Some, None, List, [], ◌∷◌, ◌++◌, refl, sym, ap, ◌∙◌, subst, arith, length, get_or, Contains, cond, ◌==◌}
use Rattle.std.specs.Prelude.{find, option_map, take, map}
use Rattle.std.specs.Ordering.{nat_cmp, MatchOrdering}
use Rattle.std.specs.Cmp.{ranks}
use Rattle.std.specs.declared.cmp.Ordering.TheVariants.{Less, Equal, Greater}
use Rattle.std.proofs.lemmas.Bool.Decides.{eqb_tells}
use Rattle.std.proofs.lemmas.List.{get_or_default, get_or-take, get_or_append_left, length-map, length-take-le, take_all}
use Rattle.std.proofs.Math.ListN.{get_or-map}
use Rattle.std.proofs.Math.Seq.{get_or-append_seam}
use Rattle.std.proofs.lemmas.List.Elements.{All-head, All-tail, All-append, Contains-get_or}
use Rattle.mls_automaton.specs.declared.scheme.EnvEntry.{EnvEntry}
use Rattle.mls_automaton.specs.Environments.{BindersRise}
use Rattle.mls_automaton.specs.Schemes.{state_of}
use Rattle.mls_automaton.proofs.Lists.{All-one}
use Rattle.mls_automaton.proofs.Reaching.{entry-found}
use Rattle.mls_automaton.proofs.Searches.{next-is}
use Rattle.mls_scheme.specs.declared.environments.Shared.{Shared}
use Rattle.mls_scheme.specs.steps.Environments.{AreUnder, IsMeeting, IsMet, IsMetEnv, IsPairOf, entry_of, pair_of, raised_entry}

-- one more entry
pub state-other : (env : List EnvEntry) (e : EnvEntry) (x : ℕ) → e.binder ≢ x → state_of (env ++ e ∷ []) x ≡ state_of env x
state-other [] e x other =
    elim (eqb_tells e.binder x) [
      | inl same ↦ absurd (other same.1)
      | inr unlike ↦ ap (λ b. option_map (λ (y : EnvEntry). y.state.0) (cond b (Some e) None)) unlike.0
    ]
state-other (first ∷ rest) e x other = go (first.binder == x) (state-other rest e x other)
  where
    go : (b : Bool) → state_of (rest ++ e ∷ []) x ≡ state_of rest x → option_map (λ (y : EnvEntry). y.state.0) (cond b (Some first) (find (λ (y : EnvEntry). y.binder == x) (rest ++ e ∷ []))) ≡ option_map (λ (y : EnvEntry). y.state.0) (cond b (Some first) (find (λ (y : EnvEntry). y.binder == x) rest))
    go true later = refl
    go false later = later

pub state-last : (env : List EnvEntry) (e : EnvEntry) (x : ℕ) → e.binder ≡ x → state_of env x ≡ None → state_of (env ++ e ∷ []) x ≡ Some e.state.0
state-last [] e x same none =
    elim (eqb_tells e.binder x) [
      | inl like ↦ ap (λ b. option_map (λ (y : EnvEntry). y.state.0) (cond b (Some e) None)) like.0
      | inr other ↦ absurd (other.1 same)
    ]
state-last (first ∷ rest) e x same none = go (first.binder == x) none (state-last rest e x same)
  where
    go : (b : Bool) → option_map (λ (y : EnvEntry). y.state.0) (cond b (Some first) (find (λ (y : EnvEntry). y.binder == x) rest)) ≡ None → (state_of rest x ≡ None → state_of (rest ++ e ∷ []) x ≡ Some e.state.0) → option_map (λ (y : EnvEntry). y.state.0) (cond b (Some first) (find (λ (y : EnvEntry). y.binder == x) (rest ++ e ∷ []))) ≡ Some e.state.0
    go true is later = absurd (cc)
    go false is later = later is

pub under-none : (env : List EnvEntry) (x : ℕ) → AreUnder env x → state_of env x ≡ None
under-none [] x under = refl
under-none (first ∷ rest) x under =
    let low : first.binder < x = All-head (λ (e : EnvEntry). e.binder < x) first rest under in
    elim (eqb_tells first.binder x) [
      | inl same ↦ let e : first.binder ≡ x = same.1 in absurd (omega arith)
      | inr other ↦
          ap (λ b. option_map (λ (y : EnvEntry). y.state.0) (cond b (Some first) (find (λ (y : EnvEntry). y.binder == x) rest))) other.0
          ∙ under-none rest x (All-tail (λ (e : EnvEntry). e.binder < x) first rest under)
    ]

pub state-raised : (up : ℕ) (env : List EnvEntry) (x : ℕ) → state_of (map (raised_entry up) env) x ≡ option_map (λ s. up + s) (state_of env x)
state-raised up [] x = refl
state-raised up (first ∷ rest) x = go (first.binder == x) (state-raised up rest x)
  where
    go : (b : Bool) → state_of (map (raised_entry up) rest) x ≡ option_map (λ s. up + s) (state_of rest x) → option_map (λ (y : EnvEntry). y.state.0) (cond b (Some (raised_entry up first)) (find (λ (y : EnvEntry). y.binder == x) (map (raised_entry up) rest))) ≡ option_map (λ s. up + s) (option_map (λ (y : EnvEntry). y.state.0) (cond b (Some first) (find (λ (y : EnvEntry). y.binder == x) rest)))
    go true later = refl
    go false later = later

-- where none of the two states is there
none-right : (start : ℕ) (shared : List Shared) (l r o : Option ℕ) → l ≡ None → o ≡ None → IsMet start shared l r o → r ≡ None
none-right start shared None r o e none it = sym it ∙ none
none-right start shared (Some m) r o e none it = absurd (cc)

none-left : (start : ℕ) (shared : List Shared) (l r o : Option ℕ) → o ≡ None → IsMet start shared l r o → l ≡ None
none-left start shared None r o none it = refl
none-left start shared (Some m) None o none it = let e : None ≡ Some m = sym none ∙ it in absurd (cc)
none-left start shared (Some m) (Some n) o none it = let e : None ≡ Some (start + it.0) = sym none ∙ it.1 in absurd (cc)

length-more : (shared : List Shared) (pair : Shared) → length (shared ++ pair ∷ []) ≡ suc (length shared)
length-more [] pair = refl
length-more (first ∷ rest) pair = ap suc (length-more rest pair)

-- more pairs
met-more : (start : ℕ) (shared : List Shared) (pair : Shared) (l r o : Option ℕ) → IsMet start shared l r o → IsMet start (shared ++ pair ∷ []) l r o
met-more start shared pair None r o it = it
met-more start shared pair (Some m) None o it = it
met-more start shared pair (Some m) (Some n) o it = (
  it.0,
  it.1,
  (let low : it.0 < length shared = it.2 in let size : length (shared ++ pair ∷ []) ≡ suc (length shared) = length-more shared pair in omega arith),
  get_or_append_left shared (pair ∷ []) (pair_of 0 0) it.0 it.2 ∙ it.3,
)

-- what comes before an entry is under it
front-under : (env : List EnvEntry) (i : ℕ) (e : EnvEntry) → BindersRise env → i < length env → ((d : EnvEntry) → e ≡ get_or env i d) → AreUnder (take i env) e.binder
front-under env i e rise low at k d in_list =
    let size : length (take i env) ≡ i = length-take-le i env (omega arith) in
    let before : k < i = omega arith in
    let h : (get_or env k d).binder < (get_or env i d).binder = rise k i d before low in
    let here : (get_or (take i env) k d).binder ≡ (get_or env k d).binder = ap (λ (y : EnvEntry). y.binder) (get_or-take i env k d before) in
    let there : (get_or env i d).binder ≡ e.binder = ap (λ (y : EnvEntry). y.binder) (sym (at d)) in
    omega arith

found : (env : List EnvEntry) (i : ℕ) (e : EnvEntry) → BindersRise env → i < length env → ((d : EnvEntry) → e ≡ get_or env i d) → state_of env e.binder ≡ Some e.state.0
found env i e rise low at = entry-found env rise e (subst (λ (y : EnvEntry). Contains env y) (sym (at e)) (Contains-get_or env i e low))

under-more : (env : List EnvEntry) (x y : ℕ) → x < y → AreUnder env x → AreUnder env y
under-more env x y less under k d low = let h : (get_or env k d).binder < x = under k d low in omega arith

-- the next binder is higher
next-higher : (env : List EnvEntry) (i : ℕ) (e d : EnvEntry) → BindersRise env → i < length env → ((d : EnvEntry) → e ≡ get_or env i d) → i + 1 < length env → e.binder < (get_or env (i + 1) d).binder
next-higher env i e d rise low at more =
    let h : (get_or env i d).binder < (get_or env (i + 1) d).binder = rise i (i + 1) d (omega arith) more in
    let there : (get_or env i d).binder ≡ e.binder = ap (λ (y : EnvEntry). y.binder) (sym (at d)) in
    omega arith

-- the state in a front with one more entry
front-same : (env : List EnvEntry) (i : ℕ) (e : EnvEntry) → BindersRise env → i < length env → ((d : EnvEntry) → e ≡ get_or env i d) → state_of (take (i + 1) env) e.binder ≡ Some e.state.0
front-same env i e rise low at =
    ap (λ (es : List EnvEntry). state_of es e.binder) (next-is env i e low ∙ ap (λ (y : EnvEntry). take i env ++ y ∷ []) (sym (at e)))
    ∙ state-last (take i env) e e.binder refl (under-none (take i env) e.binder (front-under env i e rise low at))

front-other : (env : List EnvEntry) (i : ℕ) (e : EnvEntry) (x : ℕ) → i < length env → ((d : EnvEntry) → e ≡ get_or env i d) → e.binder ≢ x → state_of (take (i + 1) env) x ≡ state_of (take i env) x
front-other env i e x low at other =
    ap (λ (es : List EnvEntry). state_of es x) (next-is env i e low ∙ ap (λ (y : EnvEntry). take i env ++ y ∷ []) (sym (at e)))
    ∙ state-other (take i env) e x other

module _ (first second : List EnvEntry) (rise : BindersRise first) (rise' : BindersRise second) (i j start : ℕ) (env : List EnvEntry) (shared : List Shared) (is : IsMeeting first second i j start env shared) where
  pub meet-first : (e : EnvEntry) (new : List EnvEntry) (pairs : List Shared) → i < length first → ((d : EnvEntry) → e ≡ get_or first i d) → new ≡ env ++ e ∷ [] → pairs ≡ shared → ((d : EnvEntry) → j < length second → e.binder < (get_or second j d).binder) → IsMeeting first second (i + 1) j start new pairs
  meet-first e new pairs low at more same lower =
      rw (more, same)
      record {
        first_there = omega arith;
        second_there = is.second_there;
        before_first = λ d next. added (get_or first (i + 1) d).binder (next-higher first i e d rise low at next);
        before_second = λ d next. added (get_or second j d).binder (lower d next);
        state = λ x. elim (eqb_tells e.binder x) [
          | inl like ↦ subst (λ x. IsMet start shared (state_of (take (i + 1) first) x) (state_of (take j second) x) (state_of (env ++ e ∷ []) x)) like.1 here
          | inr other ↦
              subst (λ o. IsMet start shared o (state_of (take j second) x) (state_of (env ++ e ∷ []) x)) (sym (front-other first i e x low at other.1))
              (subst (IsMet start shared (state_of (take i first) x) (state_of (take j second) x)) (sym (state-other env e x other.1)) (is.state x))
        ];
        pairs = is.pairs;
      }
    where
      under : AreUnder env e.binder
      under = subst (λ (y : EnvEntry). AreUnder env y.binder) (sym (at e)) (is.before_first e low)

      added : (y : ℕ) → e.binder < y → AreUnder (env ++ e ∷ []) y
      added y less = All-append (λ (entry : EnvEntry). entry.binder < y) env (e ∷ []) (under-more env e.binder y less under) (All-one (λ (entry : EnvEntry). entry.binder < y) e less)

      nothing : state_of env e.binder ≡ None
      nothing = under-none env e.binder under

      nothing-first : state_of (take i first) e.binder ≡ None
      nothing-first = under-none (take i first) e.binder (front-under first i e rise low at)

      nothing-second : state_of (take j second) e.binder ≡ None
      nothing-second = none-right start shared (state_of (take i first) e.binder) (state_of (take j second) e.binder) (state_of env e.binder) nothing-first nothing (is.state e.binder)

      here : IsMet start shared (state_of (take (i + 1) first) e.binder) (state_of (take j second) e.binder) (state_of (env ++ e ∷ []) e.binder)
      here = rw (front-same first i e rise low at, nothing-second) (state-last env e e.binder refl nothing)

  pub meet-second : (e : EnvEntry) (new : List EnvEntry) (pairs : List Shared) → j < length second → ((d : EnvEntry) → e ≡ get_or second j d) → new ≡ env ++ e ∷ [] → pairs ≡ shared → ((d : EnvEntry) → i < length first → e.binder < (get_or first i d).binder) → IsMeeting first second i (j + 1) start new pairs
  meet-second e new pairs low at more same lower =
      rw (more, same)
      record {
        first_there = is.first_there;
        second_there = omega arith;
        before_first = λ d next. added (get_or first i d).binder (lower d next);
        before_second = λ d next. added (get_or second (j + 1) d).binder (next-higher second j e d rise' low at next);
        state = λ x. elim (eqb_tells e.binder x) [
          | inl like ↦ subst (λ x. IsMet start shared (state_of (take i first) x) (state_of (take (j + 1) second) x) (state_of (env ++ e ∷ []) x)) like.1 here
          | inr other ↦
              subst (λ o. IsMet start shared (state_of (take i first) x) o (state_of (env ++ e ∷ []) x)) (sym (front-other second j e x low at other.1))
              (subst (IsMet start shared (state_of (take i first) x) (state_of (take j second) x)) (sym (state-other env e x other.1)) (is.state x))
        ];
        pairs = is.pairs;
      }
    where
      under : AreUnder env e.binder
      under = subst (λ (y : EnvEntry). AreUnder env y.binder) (sym (at e)) (is.before_second e low)

      added : (y : ℕ) → e.binder < y → AreUnder (env ++ e ∷ []) y
      added y less = All-append (λ (entry : EnvEntry). entry.binder < y) env (e ∷ []) (under-more env e.binder y less under) (All-one (λ (entry : EnvEntry). entry.binder < y) e less)

      nothing : state_of env e.binder ≡ None
      nothing = under-none env e.binder under

      nothing-first : state_of (take i first) e.binder ≡ None
      nothing-first = none-left start shared (state_of (take i first) e.binder) (state_of (take j second) e.binder) (state_of env e.binder) nothing (is.state e.binder)

      here : IsMet start shared (state_of (take i first) e.binder) (state_of (take (j + 1) second) e.binder) (state_of (env ++ e ∷ []) e.binder)
      here = rw (front-same second j e rise' low at, nothing-first) (state-last env e e.binder refl nothing)

  pub meet-both : (e e' : EnvEntry) (new : List EnvEntry) (pairs : List Shared) → i < length first → j < length second → ((d : EnvEntry) → e ≡ get_or first i d) → ((d : EnvEntry) → e' ≡ get_or second j d) → e.binder ≡ e'.binder → new ≡ env ++ entry_of e.binder (start + length shared) ∷ [] → pairs ≡ shared ++ pair_of e.state.0 e'.state.0 ∷ [] → IsMeeting first second (i + 1) (j + 1) start new pairs
  meet-both e e' new pairs low low' at at' like more same =
      rw (more, same)
      record {
        first_there = omega arith;
        second_there = omega arith;
        before_first = λ d next. added (get_or first (i + 1) d).binder (next-higher first i e d rise low at next);
        before_second = λ d next. added (get_or second (j + 1) d).binder (let h : e'.binder < (get_or second (j + 1) d).binder = next-higher second j e' d rise' low' at' next in omega arith);
        state = λ x. elim (eqb_tells e.binder x) [
          | inl equal ↦ subst (λ x. IsMet start more-pairs (state_of (take (i + 1) first) x) (state_of (take (j + 1) second) x) (state_of (env ++ entry ∷ []) x)) equal.1 here
          | inr other ↦
              subst (λ o. IsMet start more-pairs o (state_of (take (j + 1) second) x) (state_of (env ++ entry ∷ []) x)) (sym (front-other first i e x low at other.1))
              (subst (λ o. IsMet start more-pairs (state_of (take i first) x) o (state_of (env ++ entry ∷ []) x)) (sym (front-other second j e' x low' at' (λ q. other.1 (like ∙ q))))
              (subst (IsMet start more-pairs (state_of (take i first) x) (state_of (take j second) x)) (sym (state-other env entry x other.1)) (met-more start shared pair (state_of (take i first) x) (state_of (take j second) x) (state_of env x) (is.state x))))
        ];
        pairs = All-append (IsPairOf first second) shared (pair ∷ []) is.pairs
            (All-one (IsPairOf first second) pair (e.binder, found first i e rise low at, subst (λ x. state_of second x ≡ Some e'.state.0) (sym like) (found second j e' rise' low' at')));
      }
    where
      entry : EnvEntry
      entry = entry_of e.binder (start + length shared)

      pair : Shared
      pair = pair_of e.state.0 e'.state.0

      more-pairs : List Shared
      more-pairs = shared ++ pair ∷ []

      under : AreUnder env e.binder
      under = subst (λ (y : EnvEntry). AreUnder env y.binder) (sym (at e)) (is.before_first e low)

      added : (y : ℕ) → e.binder < y → AreUnder (env ++ entry ∷ []) y
      added y less = All-append (λ (entry : EnvEntry). entry.binder < y) env (entry ∷ []) (under-more env e.binder y less under) (All-one (λ (entry : EnvEntry). entry.binder < y) entry less)

      here : IsMet start more-pairs (state_of (take (i + 1) first) e.binder) (state_of (take (j + 1) second) e.binder) (state_of (env ++ entry ∷ []) e.binder)
      here =
          rw (front-same first i e rise low at, subst (λ x. state_of (take (j + 1) second) x ≡ Some e'.state.0) (sym like) (front-same second j e' rise' low' at')) (
            length shared,
            state-last env entry e.binder refl (under-none env e.binder under),
            (let size : length more-pairs ≡ suc (length shared) = length-more shared pair in omega arith),
            get_or-append_seam shared pair [] (pair_of 0 0),
          )

pub met : (first second : List EnvEntry) (i j start : ℕ) (env : List EnvEntry) (shared : List Shared) → IsMeeting first second i j start env shared → length first ≤ i → length second ≤ j → IsMetEnv first second start env shared
met first second i j start env shared is all all' = record {
  state = λ x. subst (λ (es : List EnvEntry). IsMet start shared (state_of es x) (state_of second x) (state_of env x)) (take_all i first all) (subst (λ (es : List EnvEntry). IsMet start shared (state_of (take i first) x) (state_of es x) (state_of env x)) (take_all j second all') (is.state x));
  pairs = is.pairs;
}

-- the binders of the entries before one are lower
pub raised-rise : (up : ℕ) (env list : List EnvEntry) (i : ℕ) (d : EnvEntry) (raised : List EnvEntry) → BindersRise env → list ≡ env → i < length list → raised ≡ map (raised_entry up) (take i list) → AreUnder raised (get_or list i d).binder
raised-rise up env list i d raised rise same low is = rw is go
  where
    go : AreUnder (map (raised_entry up) (take i list)) (get_or list i d).binder
    go k e in_list =
        let size : length (map (raised_entry up) (take i list)) ≡ length (take i list) = length-map (take i list) (raised_entry up) in
        let size' : length (take i list) ≡ i = length-take-le i list (omega arith) in
        let before : k < i = omega arith in
        let at : get_or (map (raised_entry up) (take i list)) k e ≡ raised_entry up (get_or list k d) =
        get_or_default (map (raised_entry up) (take i list)) k e (raised_entry up d) in_list ∙ (get_or-map (raised_entry up) (take i list) k d ∙ ap (raised_entry up) (get_or-take i list k d before)) in
        let rises : BindersRise list = subst BindersRise (sym same) rise in
        subst (λ (x : EnvEntry). x.binder < (get_or list i d).binder) (sym at) (rises k i d before low)

pub meeting-none : (first second : List EnvEntry) (start : ℕ) → IsMeeting first second 0 0 start [] []
meeting-none first second start = record {
  first_there = omega arith;
  second_there = omega arith;
  before_first = λ d low k e none. absurd (omega arith);
  before_second = λ d low k e none. absurd (omega arith);
  state = λ x. refl;
  pairs = λ k e none. absurd (omega arith);
}

-- the order of two binders
pub order-equal : (x y : ℕ) → nat_cmp x y ≡ Equal → x ≡ y
order-equal x y e = subst (λ r. MatchOrdering r (x < y) (x ≡ y) (y < x)) e (ranks x y)

pub order-less : (x : ℕ) (e : EnvEntry) (env : List EnvEntry) (j : ℕ) (d : EnvEntry) → ((d : EnvEntry) → e ≡ get_or env j d) → nat_cmp x e.binder ≡ Less → x < (get_or env j d).binder
order-less x e env j d at is =
    subst (λ (y : EnvEntry). x < y.binder) (at d)
    (subst (λ r. MatchOrdering r (x < e.binder) (x ≡ e.binder) (e.binder < x)) is (ranks x e.binder))

pub order-greater : (e : EnvEntry) (y : ℕ) (env : List EnvEntry) (i : ℕ) (d : EnvEntry) → ((d : EnvEntry) → e ≡ get_or env i d) → nat_cmp e.binder y ≡ Greater → y < (get_or env i d).binder
order-greater e y env i d at is =
    subst (λ (x : EnvEntry). y < x.binder) (at d)
    (subst (λ r. MatchOrdering r (e.binder < y) (e.binder ≡ y) (y < e.binder)) is (ranks e.binder y))
