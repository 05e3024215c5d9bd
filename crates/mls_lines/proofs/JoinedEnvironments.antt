-- Environments that are put together binder by binder.
--     with_nothing, empty_is  one binder alone, and none
--     entries_push, entries_more      one entry more, and in a longer book
--     placed_entries          the same binders with their own nodes
--     entries_joined, joined_none, joined_alone, joined_same      both environments in one
--     entries_meet            the meet of both
use Rattle.std.proofs.Common.{◌≡◌, inl, inr, ℕ, zero, suc, ◌<◌, Bool, true, false, cond, List, [], ◌∷◌, ◌++◌, map, length, get_or, refl, sym, ap, ◌∙◌, subst, arith, Contains, Option, Some, None}
use Rattle.std.specs.Prelude.{All, is_some}
use Rattle.std.specs.FinMap as env
use Rattle.std.specs.FinMap.{get-empty, same_map, nat_cmp-IsAntisymmetric}
use Rattle.std.specs.Ordering.{nat_cmp, eq_by_cmp}
use Rattle.std.specs.declared.cmp.Ordering.TheVariants.{Equal}
use Rattle.std.proofs.lemmas.Cmp.{nat_cmp_total}
use Rattle.std.proofs.lemmas.List.Elements.{All-nil, All-cons, All-head, All-tail}
use Rattle.mls_automaton.proofs.Lists.{Contains-cases}
use Rattle.mls_book.specs.declared.book.Node.{Node}
use Rattle.mls_book.specs.declared.book.Node.TheVariants as node
use Rattle.mls_book.specs.Books.{node_at}
use Rattle.mls_term.specs.Derivations.{IsMeetAt}
use Rattle.mls_deriv.specs.declared.derivation.BinderNode.{BinderNode}
use Rattle.mls_deriv.specs.Steps.{env_of, IsRising}
use Rattle.mls_deriv.proofs.StepEnvironments.{env_same, env_first}
use Rattle.mls_layout.specs.Runs.{id}
use Rattle.mls_layout.specs.Scopes.{entry}
use Rattle.mls_lines.specs.Conclusions.{IsWith, IsPlaced, Replaces, ComesFrom, IsJoined}
use Rattle.mls_lines.specs.Environments.{AreBinders, JoinsAt, JoinsIn, MeetsAt, MeetsIn, IsMetIn, AreEntries}
use Rattle.mls_lines.specs.Stepping.{binder_node}
use Rattle.mls_lines.proofs.Scopes.{looked, got, same_key, itself_key}

-- a binder is this one or another
differs : (y x : ℕ) → eq_by_cmp nat_cmp y x ≡ false → y ≡ x → ⊥
differs y x e same = let yes : eq_by_cmp nat_cmp y x ≡ true = ap (λ z. eq_by_cmp nat_cmp z x) same ∙ itself_key x in absurd (cc)

exact : (x y : ℕ) → nat_cmp x y ≡ Equal → x ≡ y
exact x y e = nat_cmp-IsAntisymmetric x y e

-- one binder alone
pub with_nothing : (x i : ℕ) (longer : List BinderNode) → IsWith [] x i longer → longer ≡ entry x i ∷ []
with_nothing x i longer it =
    env_same longer (entry x i ∷ []) it.rising (All-nil (λ (later : BinderNode). x < later.binder), tt)
    (same_map nat_cmp_total nat_cmp-IsAntisymmetric _ _ (λ q. by_test q (eq_by_cmp nat_cmp q x) refl))
  where
    by_test : (q : ℕ) (t : Bool) → eq_by_cmp nat_cmp q x ≡ t → env.get (env_of longer) q ≡ env.get (env_of (entry x i ∷ [])) q
    by_test q true e =
        let is : q ≡ x = same_key q x e in
        ap (env.get (env_of longer)) is ∙ (it.found ∙ (sym (env_first (entry x i) []) ∙ ap (env.get (env_of (entry x i ∷ []))) (sym is)))
    by_test q false e =
        it.others q (differs q x e) ∙ (get-empty nat_cmp q ∙ sym (got (entry x i ∷ []) q ∙ ap (λ t. cond t (Some i) None) e))

-- a list without an entry
pub empty_is : (d : List BinderNode) → length d ≡ 0 → d ≡ []
empty_is [] e = refl
empty_is (first ∷ d) e = absurd (omega (arith, e))

no_number : (x : ℕ) → Contains [] x → ⊥
no_number x there = let low : there.0 < 0 = there.1 in absurd (omega arith)

module _ (Holds : ℕ → ℕ → Type 0) where
  pub entries_push : (xs : List ℕ) (d : List BinderNode) (x : ℕ) (e : BinderNode) → AreEntries Holds xs d → e.binder ≡ x → Holds x e.node.0 → AreEntries Holds (xs ++ x ∷ []) (d ++ e ∷ [])
  entries_push [] [] x e all is holds = (is, holds, tt)
  entries_push [] (first ∷ d) x e all is holds = absurd all
  entries_push (y ∷ xs) [] x e all is holds = absurd all
  entries_push (y ∷ xs) (first ∷ d) x e all is holds = (all.0, all.1, entries_push xs d x e all.2 is holds)

  entries_at : (xs : List ℕ) (d : List BinderNode) → AreEntries Holds xs d → (i : ℕ) (e : BinderNode) → i < length d → ((get_or d i e).binder ≡ get_or xs i 0) × (i < length xs)
  entries_at [] [] all i e low = absurd (omega (arith, low))
  entries_at [] (first ∷ d) all i e low = absurd all
  entries_at (x ∷ xs) [] all i e low = absurd all
  entries_at (x ∷ xs) (first ∷ d) all zero e low = (all.0, omega arith)
  entries_at (x ∷ xs) (first ∷ d) all (suc i) e low =
      let it = entries_at xs d all.2 i e (omega (arith, low)) in
      let less : i < length xs = it.1 in
      (it.0, omega (arith, less))

  entries_rising : (xs : List ℕ) (d : List BinderNode) → ((i j : ℕ) → i < j → j < length xs → get_or xs i 0 < get_or xs j 0) → AreEntries Holds xs d → IsRising d
  entries_rising [] [] rise all = tt
  entries_rising [] (first ∷ d) rise all = absurd all
  entries_rising (x ∷ xs) [] rise all = absurd all
  entries_rising (x ∷ xs) (first ∷ d) rise all = (
    λ i e low.
        let it = entries_at xs d all.2 i e low in
        let less : i < length xs = it.1 in
        subst (λ z. first.binder < z) (sym it.0) (subst (λ z. z < get_or xs i 0) (sym all.0) (rise 0 (suc i) (omega arith) (omega (arith, less)))),
    entries_rising xs d (λ i j less low. rise (suc i) (suc j) (omega (arith, less)) (omega (arith, low))) all.2,
  )

  entries_found : (xs : List ℕ) (d : List BinderNode) → AreEntries Holds xs d → (x : ℕ) → Contains xs x → (n : ℕ) × (looked d x ≡ Some n) × Holds x n
  entries_found [] d all x there = absurd (no_number x there)
  entries_found (y ∷ xs) [] all x there = absurd all
  entries_found (y ∷ xs) (first ∷ d) all x there = by_test (eq_by_cmp nat_cmp x first.binder) refl (entries_found xs d all.2 x)
    where
      by_test : (t : Bool) → eq_by_cmp nat_cmp x first.binder ≡ t → (Contains xs x → (n : ℕ) × (looked d x ≡ Some n) × Holds x n)
          → (n : ℕ) × (cond t (Some first.node.0) (looked d x) ≡ Some n) × Holds x n
      by_test true e rest = (first.node.0, refl, subst (λ z. Holds z first.node.0) (sym (same_key x first.binder e ∙ all.0)) all.1)
      by_test false e rest = elim (Contains-cases y xs x there) [
        | inl is ↦ absurd (differs x first.binder e (sym (all.0 ∙ is)))
        | inr later ↦ rest later
      ]

  entries_back : (xs : List ℕ) (d : List BinderNode) → AreEntries Holds xs d → (x n : ℕ) → looked d x ≡ Some n → Holds x n
  entries_back [] [] all x n found = absurd (cc)
  entries_back [] (first ∷ d) all x n found = absurd all
  entries_back (y ∷ xs) [] all x n found = absurd all
  entries_back (y ∷ xs) (first ∷ d) all x n found = by_test (eq_by_cmp nat_cmp x first.binder) refl found (entries_back xs d all.2 x n)
    where
      by_test : (t : Bool) → eq_by_cmp nat_cmp x first.binder ≡ t → cond t (Some first.node.0) (looked d x) ≡ Some n → (looked d x ≡ Some n → Holds x n) → Holds x n
      by_test true e at later =
          let is : first.node.0 ≡ n = cc in
          subst (Holds x) is (subst (λ z. Holds z first.node.0) (sym (same_key x first.binder e ∙ all.0)) all.1)
      by_test false e at later = later at

-- the same of other nodes
pub entries_more : (Holds Now : ℕ → ℕ → Type 0) → ((x n : ℕ) → Holds x n → Now x n) → (xs : List ℕ) (d : List BinderNode) → AreEntries Holds xs d → AreEntries Now xs d
entries_more Holds Now each [] [] all = tt
entries_more Holds Now each [] (first ∷ d) all = absurd all
entries_more Holds Now each (x ∷ xs) [] all = absurd all
entries_more Holds Now each (x ∷ xs) (first ∷ d) all = (all.0, each x first.node.0 all.1, entries_more Holds Now each xs d all.2)

-- the same binders with their own nodes
module _ (node_of : ℕ → ℕ) where
  abbrev pub own_entry : BinderNode → BinderNode
  own_entry e = entry e.binder (node_of e.binder)

  placed_looked : (d : List BinderNode) (x : ℕ) → ((n : ℕ) → looked d x ≡ Some n → looked (map own_entry d) x ≡ Some (node_of x)) × ((n : ℕ) → looked (map own_entry d) x ≡ Some n → (m : ℕ) × (looked d x ≡ Some m))
  placed_looked [] x = (λ n found. absurd (cc), λ n found. absurd (cc))
  placed_looked (first ∷ d) x = by_test (eq_by_cmp nat_cmp x first.binder) refl (placed_looked d x)
    where
      by_test : (t : Bool) → eq_by_cmp nat_cmp x first.binder ≡ t
          → ((n : ℕ) → looked d x ≡ Some n → looked (map own_entry d) x ≡ Some (node_of x)) × ((n : ℕ) → looked (map own_entry d) x ≡ Some n → (m : ℕ) × (looked d x ≡ Some m))
          → ((n : ℕ) → cond t (Some first.node.0) (looked d x) ≡ Some n → cond t (Some (node_of first.binder)) (looked (map own_entry d) x) ≡ Some (node_of x))
          × ((n : ℕ) → cond t (Some (node_of first.binder)) (looked (map own_entry d) x) ≡ Some n → (m : ℕ) × (cond t (Some first.node.0) (looked d x) ≡ Some m))
      by_test true e later = (λ n found. ap (λ z. Some (node_of z)) (sym (same_key x first.binder e)), λ n found. (first.node.0, refl))
      by_test false e later = later

  placed_above : (x : ℕ) (d : List BinderNode) → All (λ (later : BinderNode). x < later.binder) d → All (λ (later : BinderNode). x < later.binder) (map own_entry d)
  placed_above x [] all = All-nil (λ (later : BinderNode). x < later.binder)
  placed_above x (first ∷ d) all =
      All-cons (λ (later : BinderNode). x < later.binder) (own_entry first) (map own_entry d) (All-head (λ (later : BinderNode). x < later.binder) first d all)
      (placed_above x d (All-tail (λ (later : BinderNode). x < later.binder) first d all))

  placed_rising : (d : List BinderNode) → IsRising d → IsRising (map own_entry d)
  placed_rising [] rising = tt
  placed_rising (first ∷ d) rising = (placed_above first.binder d rising.0, placed_rising d rising.1)

  pub placed_entries : (d : List BinderNode) → IsRising d → IsPlaced node_of d (map own_entry d)
  placed_entries d rising = record {
    rising = placed_rising d rising;
    each = λ x n found. got (map own_entry d) x ∙ (placed_looked d x).0 n (sym (got d x) ∙ found);
    only = λ x n found. let it = (placed_looked d x).1 n (sym (got (map own_entry d) x) ∙ found) in (it.0, got d x ∙ it.1);
  }

-- a meet stays in a longer book
pub meet_stays : (book more : List Node) (n : ℕ) (met : Node) → (met ≡ node.Bot → ⊥) → node_at book n ≡ met → node_at (book ++ more) n ≡ met
meet_stays [] more n met other is = absurd (other (sym is))
meet_stays (first ∷ book) more zero met other is = is
meet_stays (first ∷ book) more (suc n) met other is = meet_stays book more n met other is

pub joins_stays : (book more : List Node) (own : ℕ) (left right : Option ℕ) (n : ℕ) → JoinsAt book own left right n → JoinsAt (book ++ more) own left right n
joins_stays book more own (Some l) (Some r) n (inl is) = inl is
joins_stays book more own (Some l) (Some r) n (inr (inl is)) = inr (inl is)
joins_stays book more own (Some l) (Some r) n (inr (inr is)) = inr (inr (meet_stays book more n (node.Meet (id l) (id r)) (λ no. absurd (cc)) is))
joins_stays book more own (Some l) None n is = is
joins_stays book more own None (Some r) n is = is
joins_stays book more own None None n is = is

pub meets_stays : (book more : List Node) (left right : Option ℕ) (n : ℕ) → MeetsAt book left right n → MeetsAt (book ++ more) left right n
meets_stays book more (Some l) (Some r) n is = meet_stays book more n (node.Meet (id l) (id r)) (λ no. absurd (cc)) is
meets_stays book more (Some l) None n is = is
meets_stays book more None (Some r) n is = is
meets_stays book more None None n is = is

module _ (node_of : ℕ → ℕ) (book : List Node) where
  joined_first : (x m n : ℕ) (right : Option ℕ) → JoinsAt book (node_of x) (Some m) right n → Replaces node_of book x m n
  joined_first x m n (Some r) (inl (is, is')) = inl (sym is)
  joined_first x m n (Some r) (inr (inl is)) = inr (inl is)
  joined_first x m n (Some r) (inr (inr is)) = inr (inr (id m, id r, is, inl refl))
  joined_first x m n None is = inl (sym is)

  joined_second : (x m n : ℕ) (left : Option ℕ) → JoinsAt book (node_of x) left (Some m) n → Replaces node_of book x m n
  joined_second x m n (Some l) (inl (is, is')) = inl (sym is')
  joined_second x m n (Some l) (inr (inl is)) = inr (inl is)
  joined_second x m n (Some l) (inr (inr is)) = inr (inr (id l, id m, is, inr refl))
  joined_second x m n None is = inl (sym is)

  joined_from : (x n : ℕ) (left right : Option ℕ) → JoinsAt book (node_of x) left right n → ComesFrom node_of book left right x n
  joined_from x n (Some l) (Some r) (inl (is, is')) = inl (ap Some is)
  joined_from x n (Some l) (Some r) (inr (inl is)) = inr (inr (inl (is, l, refl)))
  joined_from x n (Some l) (Some r) (inr (inr is)) = inr (inr (inr (id l, id r, is, refl, refl)))
  joined_from x n (Some l) None is = inl (ap Some is)
  joined_from x n None (Some r) is = inr (inl (ap Some is))
  joined_from x n None None is = absurd is

  pub entries_joined : (d e both : List BinderNode) (binders : List ℕ) → AreBinders d e binders
      → AreEntries (JoinsIn book node_of d e) binders both → IsJoined node_of book d e both
  entries_joined d e both binders are all = record {
    rising = entries_rising Holds binders both are.rise all;
    first =
        λ x m found.
        let it = entries_found Holds binders both all x (are.first x (ap is_some found)) in
        (it.0, got both x ∙ it.1, joined_first x m it.0 (binder_node e x) (subst (λ o. JoinsAt book (node_of x) o (binder_node e x) it.0) found it.2));
    second =
        λ x m found.
        let it = entries_found Holds binders both all x (are.second x (ap is_some found)) in
        (it.0, got both x ∙ it.1, joined_second x m it.0 (binder_node d x) (subst (λ o. JoinsAt book (node_of x) (binder_node d x) o it.0) found it.2));
    from = λ x n found. joined_from x n (binder_node d x) (binder_node e x) (entries_back Holds binders both all x n (sym (got both x) ∙ found));
  }
    where
      Holds : ℕ → ℕ → Type 0
      Holds = JoinsIn book node_of d e

  nowhere : (x n : ℕ) → env.get (env_of []) x ≡ Some n → ⊥
  nowhere x n found = let none : env.get (env_of []) x ≡ None = get-empty nat_cmp x in cc

  -- where one of both has no binder, or both are the same
  pub joined_none : (e : List BinderNode) → IsRising e → IsJoined node_of book [] e e
  joined_none e rising = record {
    rising = rising;
    first = λ x m found. absurd (nowhere x m found);
    second = λ x m found. (m, found, inl refl);
    from = λ x n found. inr (inl found);
  }

  pub joined_alone : (d : List BinderNode) → IsRising d → IsJoined node_of book d [] d
  joined_alone d rising = record {
    rising = rising;
    first = λ x m found. (m, found, inl refl);
    second = λ x m found. absurd (nowhere x m found);
    from = λ x n found. inl found;
  }

  pub joined_same : (d : List BinderNode) → IsRising d → IsJoined node_of book d d d
  joined_same d rising = record {
    rising = rising;
    first = λ x m found. (m, found, inl refl);
    second = λ x m found. (m, found, inl refl);
    from = λ x n found. inl found;
  }

  -- the meet of both
  pub entries_meet : (d e met : List BinderNode) (binders : List ℕ) → AreBinders d e binders
      → AreEntries (MeetsIn book d e) binders met → IsMetIn book d e met
  entries_meet d e met binders are all = record {
    rising = entries_rising Holds binders met are.rise all;
    meets = λ x. subst (IsMeetAt book (binder_node d x) (binder_node e x)) (sym (got met x)) (at x (binder_node d x) (binder_node e x) (looked met x) refl refl refl);
  }
    where
      Holds : ℕ → ℕ → Type 0
      Holds = MeetsIn book d e

      found : (x : ℕ) → Contains binders x → (n : ℕ) × (looked met x ≡ Some n) × Holds x n
      found x there = entries_found Holds binders met all x there

      in_both : (x : ℕ) (left right : Option ℕ) → binder_node d x ≡ left → binder_node e x ≡ right → (n : ℕ) → Holds x n → MeetsAt book left right n
      in_both x left right is is' n holds =
          subst (λ o. MeetsAt book o right n) is (subst (λ o. MeetsAt book (binder_node d x) o n) is' holds)

      at : (x : ℕ) (left right o : Option ℕ) → binder_node d x ≡ left → binder_node e x ≡ right → looked met x ≡ o → IsMeetAt book left right o
      at x (Some l) (Some r) o is is' is_o =
          let it = found x (are.first x (ap is_some is)) in
          (it.0, sym is_o ∙ it.1, in_both x (Some l) (Some r) is is' it.0 it.2)
      at x (Some l) None o is is' is_o =
          let it = found x (are.first x (ap is_some is)) in
          let same : l ≡ it.0 = in_both x (Some l) None is is' it.0 it.2 in
          sym is_o ∙ (it.1 ∙ ap Some (sym same))
      at x None (Some r) o is is' is_o =
          let it = found x (are.second x (ap is_some is')) in
          let same : r ≡ it.0 = in_both x None (Some r) is is' it.0 it.2 in
          sym is_o ∙ (it.1 ∙ ap Some (sym same))
      at x None None None is is' is_o = refl
      at x None None (Some n) is is' is_o = absurd (in_both x None None is is' n (entries_back Holds binders met all x n is_o))
