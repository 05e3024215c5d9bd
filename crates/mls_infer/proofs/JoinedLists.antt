-- Lists put together, by their members.
--     joined                             one list behind another
--     numbers_joined, numbers_turned     the numbers of states
--     members_joined, members_turned     and entries, behind the others or in front of them
--     taken_joined                       after a loop over the second list
--     others_alone                       where no entry is of a binder
--     rise_taken                         a binder of a rising environment is above those before it
use Rattle.std.proofs.Common.{◌≡◌, ◌≢◌, ◌⊎◌, ◌↔◌, inl, inr, ℕ, ◌<◌, ◌≤◌, Bool, true, false, List, [], ◌∷◌, ◌++◌, length, get_or, take, refl, sym, ap, ◌∙◌, subst, arith, Contains, All}
use Rattle.std.specs.Prelude.{cond, not}
use Rattle.std.specs.Ordering.{nat_cmp, eq_by_cmp}
use Rattle.std.specs.Cmp.{unsigned_tied}
use Rattle.std.proofs.lemmas.Bool.{eqb-true}
use Rattle.std.proofs.lemmas.List.{get_or-take, get_or_default, length-take-le, map-append, take_all}
use Rattle.std.proofs.lemmas.List.Elements.{All-contains, Contains-append_cases, Contains-append_left, Contains-append_right}
use Rattle.mls_automaton.specs.declared.state_set.StateId.{StateId}
use Rattle.mls_automaton.specs.declared.scheme.EnvEntry.{EnvEntry}
use Rattle.mls_automaton.specs.Environments.{BindersRise}
use Rattle.mls_automaton.proofs.Lists.{Contains-here, Contains-later}
use Rattle.mls_biunify.specs.Live.{numbers_in}
use Rattle.mls_infer.specs.Constraints.{without}

abbrev pub IsBoth : {X : Type 0} → List X → List X → List X → Type 0
IsBoth all xs ys = (x : _) → Contains all x ↔ Contains xs x ⊎ Contains ys x

pub joined : {X : Type 0} (all xs ys : List X) → all ≡ xs ++ ys → IsBoth all xs ys
joined all xs ys is x = (
  λ it. Contains-append_cases xs ys x (subst (λ (zs : List _). Contains zs x) is it),
  λ either. subst (λ (zs : List _). Contains zs x) (sym is) (elim either [ inl left ↦ Contains-append_left xs ys x left | inr right ↦ Contains-append_right xs ys x right ]),
)

turned : {X : Type 0} (all xs ys : List X) → IsBoth all xs ys → IsBoth all ys xs
turned all xs ys both x = (
  λ it. elim ((both x).0 it) [ inl left ↦ inr left | inr right ↦ inl right ],
  λ either. (both x).1 (elim either [ inl left ↦ inr left | inr right ↦ inl right ]),
)

pub numbers_joined : (all xs ys : List StateId) → all ≡ xs ++ ys → (s : ℕ) → Contains (numbers_in all) s ↔ Contains (numbers_in xs) s ⊎ Contains (numbers_in ys) s
numbers_joined all xs ys is = joined (numbers_in all) (numbers_in xs) (numbers_in ys) (ap numbers_in is ∙ map-append (λ (s : StateId). s.0) xs ys)

pub numbers_turned : (all xs ys : List StateId) → all ≡ xs ++ ys → (s : ℕ) → Contains (numbers_in all) s ↔ Contains (numbers_in ys) s ⊎ Contains (numbers_in xs) s
numbers_turned all xs ys is = turned (numbers_in all) (numbers_in xs) (numbers_in ys) (numbers_joined all xs ys is)

pub members_joined : (all xs ys zs : List EnvEntry) → zs ≡ ys → ((e : EnvEntry) → Contains all e ↔ Contains xs e ⊎ Contains zs e) → (e : EnvEntry) → Contains all e ↔ Contains xs e ⊎ Contains ys e
members_joined all xs ys zs same both = subst (λ (ws : List EnvEntry). (e : EnvEntry) → Contains all e ↔ Contains xs e ⊎ Contains ws e) same both

pub members_turned : (all xs ys zs : List EnvEntry) → zs ≡ ys → ((e : EnvEntry) → Contains all e ↔ Contains xs e ⊎ Contains zs e) → (e : EnvEntry) → Contains all e ↔ Contains ys e ⊎ Contains xs e
members_turned all xs ys zs same both = turned all xs ys (members_joined all xs ys zs same both)

pub taken_joined : (all xs ys : List EnvEntry) (i : ℕ) → length ys ≤ i → all ≡ xs ++ take i ys → (e : EnvEntry) → Contains all e ↔ Contains xs e ⊎ Contains ys e
taken_joined all xs ys i past is = joined all xs ys (is ∙ ap (λ (zs : List EnvEntry). xs ++ zs) (take_all i ys past))

pub others_alone : (x : ℕ) (env : List EnvEntry) → All (λ (e : EnvEntry). e.binder ≢ x) env → without x env ≡ env
others_alone x env all = go env (λ e it. All-contains (λ (e : EnvEntry). e.binder ≢ x) env e all it)
  where
    go : (env : List EnvEntry) → ((e : EnvEntry) → Contains env e → e.binder ≢ x) → without x env ≡ env
    go [] none = refl
    go (e ∷ rest) none = by (eq_by_cmp nat_cmp e.binder x) refl (go rest (λ d it. none d (Contains-later e rest d it)))
      where
        by : (b : Bool) → eq_by_cmp nat_cmp e.binder x ≡ b → without x rest ≡ rest → without x (e ∷ rest) ≡ e ∷ rest
        by true is later = absurd (none e (Contains-here e rest) (eqb-true e.binder x (sym (unsigned_tied e.binder x) ∙ is)))
        by false is later = (λ i. cond (not (is i)) (e ∷ without x rest) (without x rest)) ∙ ap (λ (ds : List EnvEntry). e ∷ ds) later

pub rise_taken : (entries env : List EnvEntry) (i : ℕ) (d' : EnvEntry) → BindersRise entries → env ≡ take i entries → i < length entries → (k : ℕ) (d : EnvEntry) → k < length env → (get_or env k d).binder < (get_or entries i d').binder
rise_taken entries env i d' rise is low k d k_low =
    let size : length env ≡ i = ap (λ (xs : List EnvEntry). length xs) is ∙ length-take-le i entries (omega arith) in
    let before : k < i = omega arith in
    let at : get_or env k d ≡ get_or entries k d = ap (λ (xs : List EnvEntry). get_or xs k d) is ∙ get_or-take i entries k d before in
    let other : get_or entries i d ≡ get_or entries i d' = get_or_default entries i d d' low in
    subst (λ (e : EnvEntry). e.binder < (get_or entries i d').binder) (sym at)
    (subst (λ (e : EnvEntry). (get_or entries k d).binder < e.binder) other (rise k i d before low))
