-- The binders of a part, met node by node.
--     met_env-push            a binder more of an environment
--     met_none, met_more      no node, and one more
--     part_binders            in the order of the map that notes them, they are those of the part
use Rattle.std.proofs.Common.{◌≡◌, ◌⊎◌, inl, inr, ℕ, zero, suc, ◌<◌, Bool, true, false, cond, List, [], ◌∷◌, ◌++◌, map, length, get_or, refl, sym, ap, ◌∙◌, subst, arith, Contains, Option, Some, None}
use Rattle.std.specs.Prelude.{IsSome, is_some}
use Rattle.std.specs.Cmp.Rules.{comparing}
use Rattle.std.specs.FinMap.{nat_cmp-IsAntisymmetric}
use Rattle.std.specs.List.{AllByRecursion}
use Rattle.std.specs.List.Sorted.{IsStrictlySortedBy}
use Rattle.std.specs.declared.cmp.Ordering.TheVariants.{Less, Equal}
use Rattle.std.specs.BTreeMap.{BTreeMap, get, IsOrdered}
use Rattle.std.specs.Ordering.{nat_cmp, is_eq}
use Rattle.std.proofs.lemmas.Cmp.{nat_cmp_total}
use Rattle.std.proofs.lemmas.List.Elements.{Contains-append_left, Contains-push, Contains-push_cases}
use Rattle.std.proofs.lemmas.Map.Views.{btree_map_get_iff}
use Rattle.mls_automaton.specs.Sets.{Rises}
use Rattle.mls_automaton.specs.declared.scheme.EnvEntry.{EnvEntry}
use Rattle.mls_automaton.specs.declared.scheme.Scheme.{Scheme}
use Rattle.mls_automaton.proofs.Lists.{Contains-here, Contains-later, Contains-cases, Contains-map, Contains-map_back}
use Rattle.mls_term.specs.declared.term.TermForm.{TermForm}
use Rattle.mls_term.specs.declared.term.TermForm.TheVariants as form
use Rattle.mls_term.specs.declared.term.TermNode.{TermNode}
use Rattle.mls_deriv.specs.Steps.{form_at}
use Rattle.mls_parts.specs.declared.binders.PartBinders.{PartBinders}
use Rattle.mls_parts.specs.PartBinders.{ArePartBinders, BindsBinder, IsBound, IsNamed, NamesBinder, NeedsBinder}
use Rattle.mls_parts.specs.Posings.{known_in}
use Rattle.mls_parts.specs.steps.MetBinders.{AreListed, HasMet, TellsOf, met_bound, met_env, met_form, met_known, met_named, met_node, or_named, unbound}
use Rattle.mls_layout.proofs.KeySets.{number_same, number_self}
use Rattle.mls_layout.proofs.WorkedParts.{nothing}

abbrev key : ℕ × Bool → ℕ
key entry = entry.0

number_exact : (x y : ℕ) → nat_cmp x y ≡ Equal → x ≡ y
number_exact x y e = nat_cmp-IsAntisymmetric x y e

pub met_env-push : (x : ℕ) (env : List EnvEntry) (entry : EnvEntry) (met : Option Bool) → met_env x (env ++ entry ∷ []) met ≡ met_named x entry.binder (met_env x env met)
met_env-push x [] entry met = refl
met_env-push x (first ∷ env) entry met = met_env-push x env entry (met_named x first.binder met)

-- the same in other words
tells_as : (N N' B B' : Type 0) → (N → N') → (N' → N) → (B → B') → (B' → B) → (met : Option Bool) → TellsOf N B met → TellsOf N' B' met
tells_as N N' B B' n n' b b' None it = (λ is. it.0 (n' is), λ is. it.1 (b' is))
tells_as N N' B B' n n' b b' (Some true) it = b it
tells_as N N' B B' n n' b b' (Some false) it = (n it.0, λ is. it.1 (b' is))

no_more : {N W : Type 0} → (W → ⊥) → N ⊎ W → N
no_more none (inl is) = is
no_more none (inr is) = absurd (none is)

same_kept : (N B W V : Type 0) → (W → ⊥) → (V → ⊥) → (met : Option Bool) → TellsOf N B met → TellsOf (N ⊎ W) (B ⊎ V) met
same_kept N B W V no_name no_bind met it = tells_as N (N ⊎ W) B (B ⊎ V) inl (no_more no_name) inl (no_more no_bind) met it

differ : (x y : ℕ) → is_eq (nat_cmp y x) ≡ false → y ≡ x → ⊥
differ x y e same = let it : is_eq (nat_cmp y x) ≡ true = subst (λ z. is_eq (nat_cmp y z) ≡ true) same (number_self y) in cc

tells_named : (N B : Type 0) (x y : ℕ) (met : Option Bool) → TellsOf N B met → TellsOf (N ⊎ (y ≡ x)) B (met_named x y met)
tells_named N B x y met it = go (is_eq (nat_cmp y x)) refl met it
  where
    go : (b : Bool) → is_eq (nat_cmp y x) ≡ b → (met : Option Bool) → TellsOf N B met → TellsOf (N ⊎ (y ≡ x)) B (cond b (or_named met) met)
    go false e met it = tells_as N (N ⊎ (y ≡ x)) B B inl (no_more (differ x y e)) (λ is. is) (λ is. is) met it
    go true e None it = (inr (number_same y x e), it.1)
    go true e (Some true) it = it
    go true e (Some false) it = (inl it.0, it.1)

tells_bound : (N B : Type 0) (x y : ℕ) (met : Option Bool) → TellsOf N B met → TellsOf N (B ⊎ (y ≡ x)) (met_bound x y met)
tells_bound N B x y met it = go (is_eq (nat_cmp y x)) refl met it
  where
    go : (b : Bool) → is_eq (nat_cmp y x) ≡ b → (met : Option Bool) → TellsOf N B met → TellsOf N (B ⊎ (y ≡ x)) (cond b (Some true) met)
    go false e met it = tells_as N N B (B ⊎ (y ≡ x)) (λ is. is) (λ is. is) inl (no_more (differ x y e)) met it
    go true e met it = inr (number_same y x e)

abbrev NeedsIn : List EnvEntry → ℕ → Type 0
NeedsIn env x = (entry : EnvEntry) × Contains env entry × (entry.binder ≡ x)

tells_env : (env : List EnvEntry) (N B : Type 0) (x : ℕ) (met : Option Bool) → TellsOf N B met → TellsOf (N ⊎ NeedsIn env x) B (met_env x env met)
tells_env [] N B x met it = tells_as N (N ⊎ NeedsIn [] x) B B inl (no_more (λ needs. nothing needs.0 needs.1)) (λ is. is) (λ is. is) met it
tells_env (first ∷ env) N B x met it =
    tells_as ((N ⊎ (first.binder ≡ x)) ⊎ NeedsIn env x) (N ⊎ NeedsIn (first ∷ env) x) B B to from (λ is. is) (λ is. is) (met_env x env (met_named x first.binder met))
    (tells_env env (N ⊎ (first.binder ≡ x)) B x (met_named x first.binder met) (tells_named N B x first.binder met it))
  where
    to : (N ⊎ (first.binder ≡ x)) ⊎ NeedsIn env x → N ⊎ NeedsIn (first ∷ env) x
    to (inl (inl is)) = inl is
    to (inl (inr same)) = inr (first, Contains-here first env, same)
    to (inr needs) = inr (needs.0, Contains-later first env needs.0 needs.1, needs.2)

    back : (entry : EnvEntry) → entry.binder ≡ x → (first ≡ entry) ⊎ Contains env entry → (N ⊎ (first.binder ≡ x)) ⊎ NeedsIn env x
    back entry is (inl same) = inl (inr (ap (λ (e : EnvEntry). e.binder) same ∙ is))
    back entry is (inr later) = inr (entry, later, is)

    from : N ⊎ NeedsIn (first ∷ env) x → (N ⊎ (first.binder ≡ x)) ⊎ NeedsIn env x
    from (inl is) = inl (inl is)
    from (inr needs) = back needs.0 needs.2 (Contains-cases first env needs.0 needs.1)

tells_known : (o : Option Scheme) (N B : Type 0) (x : ℕ) (met : Option Bool) → TellsOf N B met → TellsOf (N ⊎ NeedsBinder o x) B (met_known x o met)
tells_known None N B x met it = tells_as N (N ⊎ NeedsBinder None x) B B inl (no_more (λ is. is)) (λ is. is) (λ is. is) met it
tells_known (Some s) N B x met it = tells_env s.env N B x met it

module _ (lets : BTreeMap ℕ Scheme) (N B : Type 0) (x : ℕ) (met : Option Bool) (it : TellsOf N B met) where
  only_named : (f : TermForm) (after : Option Bool) → (BindsBinder f x → ⊥) → TellsOf (N ⊎ NamesBinder lets f x) B after → TellsOf (N ⊎ NamesBinder lets f x) (B ⊎ BindsBinder f x) after
  only_named f after none named = tells_as (N ⊎ NamesBinder lets f x) (N ⊎ NamesBinder lets f x) B (B ⊎ BindsBinder f x) (λ is. is) (λ is. is) inl (no_more none) after named

  only_bound : (f : TermForm) (after : Option Bool) → (NamesBinder lets f x → ⊥) → TellsOf N (B ⊎ BindsBinder f x) after → TellsOf (N ⊎ NamesBinder lets f x) (B ⊎ BindsBinder f x) after
  only_bound f after none bound = tells_as N (N ⊎ NamesBinder lets f x) (B ⊎ BindsBinder f x) (B ⊎ BindsBinder f x) inl (no_more none) (λ is. is) (λ is. is) after bound

  neither : (f : TermForm) → (NamesBinder lets f x → ⊥) → (BindsBinder f x → ⊥) → TellsOf (N ⊎ NamesBinder lets f x) (B ⊎ BindsBinder f x) met
  neither f no_name no_bind = same_kept N B (NamesBinder lets f x) (BindsBinder f x) no_name no_bind met it

  tells_form : (f : TermForm) → TellsOf (N ⊎ NamesBinder lets f x) (B ⊎ BindsBinder f x) (met_form lets f x met)
  tells_form (form.Bound y) = only_named (form.Bound y) (met_named x y met) (λ is. is) (tells_named N B x y met it)
  tells_form (form.Inner k) = only_named (form.Inner k) (met_known x (known_in lets k) met) (λ is. is) (tells_known (known_in lets k) N B x met it)
  tells_form (form.Let k j l) = only_named (form.Let k j l) (met_known x (known_in lets k) met) (λ is. is) (tells_known (known_in lets k) N B x met it)
  tells_form (form.Fun y j) = only_bound (form.Fun y j) (met_bound x y met) (λ is. is) (tells_bound N B x y met it)
  tells_form (form.Rec y j) = only_bound (form.Rec y j) (met_bound x y met) (λ is. is) (tells_bound N B x y met it)
  tells_form (form.Global g) = neither (form.Global g) (λ is. is) (λ is. is)
  tells_form (form.Number value) = neither (form.Number value) (λ is. is) (λ is. is)
  tells_form (form.Truth value) = neither (form.Truth value) (λ is. is) (λ is. is)
  tells_form (form.Apply j k) = neither (form.Apply j k) (λ is. is) (λ is. is)
  tells_form (form.Make parts) = neither (form.Make parts) (λ is. is) (λ is. is)
  tells_form (form.Project j label) = neither (form.Project j label) (λ is. is) (λ is. is)
  tells_form (form.If j k l) = neither (form.If j k l) (λ is. is) (λ is. is)

  abbrev NamesAt : Option TermForm → Type 0
  NamesAt o = (f : TermForm) × (o ≡ Some f) × NamesBinder lets f x

  abbrev BindsAt : Option TermForm → Type 0
  BindsAt o = (f : TermForm) × (o ≡ Some f) × BindsBinder f x

  tells_node : (o : Option TermForm) → TellsOf (N ⊎ NamesAt o) (B ⊎ BindsAt o) (met_node lets o x met)
  tells_node None = same_kept N B (NamesAt None) (BindsAt None) (λ is. absurd (let no_form : None ≡ Some is.0 = is.1 in cc)) (λ is. absurd (let no_form : None ≡ Some is.0 = is.1 in cc)) met it
  tells_node (Some f) = tells_as (N ⊎ NamesBinder lets f x) (N ⊎ NamesAt (Some f)) (B ⊎ BindsBinder f x) (B ⊎ BindsAt (Some f)) names named binds bound (met_form lets f x met) (tells_form f)
    where
      names : N ⊎ NamesBinder lets f x → N ⊎ NamesAt (Some f)
      names (inl is) = inl is
      names (inr is) = inr (f, refl, is)

      named : N ⊎ NamesAt (Some f) → N ⊎ NamesBinder lets f x
      named (inl is) = inl is
      named (inr (g, e, is)) = inr (let same : f ≡ g = cc in subst (λ h. NamesBinder lets h x) (sym same) is)

      binds : B ⊎ BindsBinder f x → B ⊎ BindsAt (Some f)
      binds (inl is) = inl is
      binds (inr is) = inr (f, refl, is)

      bound : B ⊎ BindsAt (Some f) → B ⊎ BindsBinder f x
      bound (inl is) = inl is
      bound (inr (g, e, is)) = inr (let same : f ≡ g = cc in subst (λ h. BindsBinder h x) (sym same) is)

module _ (nodes : List TermNode) (lets : BTreeMap ℕ Scheme) where
  pub met_none : (met : BTreeMap ℕ Bool) → ((x : ℕ) → get nat_cmp met x ≡ None) → HasMet nodes lets [] met
  met_none met none x = subst (TellsOf (IsNamed nodes lets [] x) (IsBound nodes lets [] x)) (sym (none x)) ((λ is. nothing is.0 is.2), (λ is. nothing is.0 is.2))

  pub met_more : (part : List ℕ) (i : ℕ) (old new : BTreeMap ℕ Bool) → HasMet nodes lets part old → ((x : ℕ) → get nat_cmp new x ≡ met_node lets (form_at nodes i) x (get nat_cmp old x)) → HasMet nodes lets (part ++ i ∷ []) new
  met_more part i old new it grows x =
      subst (TellsOf (IsNamed nodes lets (part ++ i ∷ []) x) (IsBound nodes lets (part ++ i ∷ []) x)) (sym (grows x))
      (tells_as (IsNamed nodes lets part x ⊎ NamesAt lets (IsNamed nodes lets part x) (IsBound nodes lets part x) x (get nat_cmp old x) (it x) (form_at nodes i)) (IsNamed nodes lets (part ++ i ∷ []) x)
      (IsBound nodes lets part x ⊎ BindsAt lets (IsNamed nodes lets part x) (IsBound nodes lets part x) x (get nat_cmp old x) (it x) (form_at nodes i)) (IsBound nodes lets (part ++ i ∷ []) x)
      named names bound binds (met_node lets (form_at nodes i) x (get nat_cmp old x))
      (tells_node lets (IsNamed nodes lets part x) (IsBound nodes lets part x) x (get nat_cmp old x) (it x) (form_at nodes i)))
    where
      Here : (TermForm → Type 0) → Type 0
      Here P = (f : TermForm) × (form_at nodes i ≡ Some f) × P f

      In : (TermForm → Type 0) → List ℕ → Type 0
      In P xs = (j : ℕ) × (f : TermForm) × Contains xs j × (form_at nodes j ≡ Some f) × P f

      to : (P : TermForm → Type 0) → In P part ⊎ Here P → In P (part ++ i ∷ [])
      to P (inl (j, f, there, e, is)) = (j, f, Contains-append_left part (i ∷ []) j there, e, is)
      to P (inr (f, e, is)) = (i, f, Contains-push part i, e, is)

      back : (P : TermForm → Type 0) (j : ℕ) (f : TermForm) → form_at nodes j ≡ Some f → P f → Contains part j ⊎ (i ≡ j) → In P part ⊎ Here P
      back P j f e is (inl there) = inl (j, f, there, e, is)
      back P j f e is (inr same) = inr (f, ap (form_at nodes) same ∙ e, is)

      from : (P : TermForm → Type 0) → In P (part ++ i ∷ []) → In P part ⊎ Here P
      from P (j, f, there, e, is) = back P j f e is (Contains-push_cases part i j there)

      named : IsNamed nodes lets part x ⊎ Here (λ f. NamesBinder lets f x) → IsNamed nodes lets (part ++ i ∷ []) x
      named = to (λ f. NamesBinder lets f x)

      names : IsNamed nodes lets (part ++ i ∷ []) x → IsNamed nodes lets part x ⊎ Here (λ f. NamesBinder lets f x)
      names = from (λ f. NamesBinder lets f x)

      bound : IsBound nodes lets part x ⊎ Here (λ f. BindsBinder f x) → IsBound nodes lets (part ++ i ∷ []) x
      bound = to (λ f. BindsBinder f x)

      binds : IsBound nodes lets (part ++ i ∷ []) x → IsBound nodes lets part x ⊎ Here (λ f. BindsBinder f x)
      binds = from (λ f. BindsBinder f x)

-- the entries of an ordered map, by their keys
module _ (met : BTreeMap ℕ Bool) (ordered : IsOrdered nat_cmp met) where
  pub key_there : (x : ℕ) → Contains (map key met.entries) x → IsSome (get nat_cmp met x)
  key_there x there =
      let found = Contains-map_back key met.entries x there in
      let is : get nat_cmp met found.0.0 ≡ Some found.0.1 = (btree_map_get_iff nat_cmp_total number_exact met ordered found.0.0 found.0.1).1 found.1 in
      subst (λ y. IsSome (get nat_cmp met y)) found.2 (ap is_some is)

  pub key_back : (x : ℕ) → IsSome (get nat_cmp met x) → Contains (map key met.entries) x
  key_back x some = go (get nat_cmp met x) refl some
    where
      go : (o : Option Bool) → get nat_cmp met x ≡ o → IsSome o → Contains (map key met.entries) x
      go None e wrong = absurd (cc)
      go (Some b) e is = Contains-map key met.entries (x, b) ((btree_map_get_iff nat_cmp_total number_exact met ordered x b).0 e)

-- the binders that are not bound are those of such entries
unbound_there : (es : List (ℕ × Bool)) (x : ℕ) → Contains (unbound es) x → Contains es (x, false)
unbound_there [] x there = absurd (nothing x there)
unbound_there ((y, true) ∷ rest) x there = Contains-later (y, true) rest (x, false) (unbound_there rest x there)
unbound_there ((y, false) ∷ rest) x there = elim (Contains-cases y (unbound rest) x there) [
  | inl same ↦ subst (λ z. Contains ((y, false) ∷ rest) (z, false)) same (Contains-here (y, false) rest)
  | inr later ↦ Contains-later (y, false) rest (x, false) (unbound_there rest x later)
]

unbound_back : (es : List (ℕ × Bool)) (x : ℕ) → Contains es (x, false) → Contains (unbound es) x
unbound_back [] x there = absurd (nothing (x, false) there)
unbound_back ((y, true) ∷ rest) x there = elim (Contains-cases (y, true) rest (x, false) there) [
  | inl same ↦ absurd (let wrong : true ≡ false = ap (λ (e : ℕ × Bool). e.1) same in cc)
  | inr later ↦ unbound_back rest x later
]
unbound_back ((y, false) ∷ rest) x there = elim (Contains-cases (y, false) rest (x, false) there) [
  | inl same ↦ subst (Contains (y ∷ unbound rest)) (ap (λ (e : ℕ × Bool). e.0) same) (Contains-here y (unbound rest))
  | inr later ↦ Contains-later y (unbound rest) x (unbound_back rest x later)
]

-- they rise as the keys do
above_unbound : (P : ℕ → Type 0) (es : List (ℕ × Bool)) → AllByRecursion P (map key es) → AllByRecursion P (unbound es)
above_unbound P [] all = tt
above_unbound P ((y, true) ∷ rest) all = above_unbound P rest all.1
above_unbound P ((y, false) ∷ rest) all = (all.0, above_unbound P rest all.1)

sorted_unbound : (es : List (ℕ × Bool)) → IsStrictlySortedBy nat_cmp (map key es) → IsStrictlySortedBy nat_cmp (unbound es)
unfolding IsStrictlySortedBy
sorted_unbound [] sorted = tt
sorted_unbound ((y, true) ∷ rest) sorted = sorted_unbound rest sorted.1
sorted_unbound ((y, false) ∷ rest) sorted = (above_unbound (λ z. nat_cmp y z ≡ Less) rest sorted.0, sorted_unbound rest sorted.1)

above_at : (P : ℕ → Type 0) (xs : List ℕ) → AllByRecursion P xs → (j : ℕ) → j < length xs → P (get_or xs j 0)
above_at P [] all j low = absurd (omega (arith, low))
above_at P (x ∷ xs) all zero low = all.0
above_at P (x ∷ xs) all (suc j) low = above_at P xs all.1 j (omega (arith, low))

less_is : (x y : ℕ) → nat_cmp x y ≡ Less → x < y
less_is x y e = search (comparing, arith)

rises_sorted : (xs : List ℕ) → IsStrictlySortedBy nat_cmp xs → Rises xs
unfolding IsStrictlySortedBy
rises_sorted [] sorted i j before low = absurd (omega (arith, low))
rises_sorted (x ∷ xs) sorted zero zero before low = absurd (omega (arith, before))
rises_sorted (x ∷ xs) sorted zero (suc j) before low = less_is x (get_or xs j 0) (above_at (λ z. nat_cmp x z ≡ Less) xs sorted.0 j (omega (arith, low)))
rises_sorted (x ∷ xs) sorted (suc i) zero before low = absurd (omega (arith, before))
rises_sorted (x ∷ xs) sorted (suc i) (suc j) before low = rises_sorted xs sorted.1 i j (omega (arith, before)) (omega (arith, low))

module _ (nodes : List TermNode) (lets : BTreeMap ℕ Scheme) where
  -- the listed binders that were met
  pub part_binders : (part : List ℕ) (met : BTreeMap ℕ Bool) (binders : PartBinders) → HasMet nodes lets part met → IsOrdered nat_cmp met → AreListed met binders → ArePartBinders nodes lets part binders
  part_binders part met binders it ordered listed = record {
    all_rise = subst Rises (sym listed.all) (rises_sorted (map key met.entries) ordered);
    all = λ x. (
      (λ inside. some x (get nat_cmp met x) (it x) (key_there met ordered x (subst (λ (xs : List ℕ). Contains xs x) listed.all inside))),
      (λ is. subst (λ (xs : List ℕ). Contains xs x) (sym listed.all) (key_back met ordered x (there x (get nat_cmp met x) (it x) is))),
    );
    around_rise = subst Rises (sym listed.around) (rises_sorted (unbound met.entries) (sorted_unbound met.entries ordered));
    around = λ x. (
      (λ inside. subst (Tells x) (found x (subst (λ (xs : List ℕ). Contains xs x) listed.around inside)) (it x)),
      (λ is. subst (λ (xs : List ℕ). Contains xs x) (sym listed.around) (unbound_back met.entries x ((btree_map_get_iff nat_cmp_total number_exact met ordered x false).0 (named x (get nat_cmp met x) (it x) is.0 is.1)))),
    );
  }
    where
      Tells : ℕ → Option Bool → Type 0
      Tells x = TellsOf (IsNamed nodes lets part x) (IsBound nodes lets part x)

      found : (x : ℕ) → Contains (unbound met.entries) x → get nat_cmp met x ≡ Some false
      found x inside = (btree_map_get_iff nat_cmp_total number_exact met ordered x false).1 (unbound_there met.entries x inside)

      some : (x : ℕ) (o : Option Bool) → TellsOf (IsNamed nodes lets part x) (IsBound nodes lets part x) o → IsSome o → IsNamed nodes lets part x ⊎ IsBound nodes lets part x
      some x None tells is = absurd (cc)
      some x (Some true) tells is = inr tells
      some x (Some false) tells is = inl tells.0

      there : (x : ℕ) (o : Option Bool) → TellsOf (IsNamed nodes lets part x) (IsBound nodes lets part x) o → IsNamed nodes lets part x ⊎ IsBound nodes lets part x → IsSome o
      there x None tells (inl is) = absurd (tells.0 is)
      there x None tells (inr is) = absurd (tells.1 is)
      there x (Some b) tells is = refl

      named : (x : ℕ) (o : Option Bool) → TellsOf (IsNamed nodes lets part x) (IsBound nodes lets part x) o → IsNamed nodes lets part x → (IsBound nodes lets part x → ⊥) → o ≡ Some false
      named x None tells is none = absurd (tells.0 is)
      named x (Some true) tells is none = absurd (none tells)
      named x (Some false) tells is none = refl
