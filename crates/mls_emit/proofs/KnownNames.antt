-- The types of the names of a part are known before it is written.
--     of_term               the nodes of a term
--     read_type             a type that was read has no binders, so it may be copied everywhere
--     no_name, one_name, same_name, name_form, no_form
--                           what is known of no name, of one name more, of one that is known, and of a node
--     all_before            binders before one of rising binders are below it
--     globals_none, globals_more      what is known of the names of the environment, one node after another
--     firsts_none           no first part stands before the first node
--     firsts_same           where the root is that of no first part
--     firsts_more           where the type of the first part with the root is known
--     before_same, before_more      so with all that is known
--     no_first              a root that is none of a part is that of no first part
--     know_types            what a part needs to be known
use Rattle.std.proofs.Common.{◌≡◌, ◌≢◌, ◌⊎◌, inl, inr, ℕ, ◌+◌, ◌<◌, false, List, [], ◌∷◌, length, refl, sym, ap, ◌∙◌, subst, arith, Contains, slice_get, get_or, take, Option, Some, None}
use Rattle.std.specs.Prelude.{All, IsSome, is_some}
use Rattle.std.proofs.lemmas.Bool.{cases_eq}
use Rattle.std.proofs.lemmas.List.{length-map, length-take-le, get_or-map, get_or-take}
use Rattle.std.specs.BTreeMap.{BTreeMap, IsEmpty, Updates, get, is_at}
use Rattle.std.specs.Map.{lookup}
use Rattle.std.specs.Ordering.{nat_cmp}
use Rattle.mls_book.proofs.LongerBooks.{below_or_more}
use Rattle.mls_automaton.specs.declared.scheme.EnvEntry.{EnvEntry}
use Rattle.mls_automaton.specs.declared.scheme.Scheme.{Scheme}
use Rattle.mls_automaton.specs.Automata.{head_at, polarity_at, IsState}
use Rattle.mls_automaton.specs.Schemes.{IsScheme}
use Rattle.mls_automaton.specs.Sets.{Rises}
use Rattle.mls_automaton.proofs.Passing.{states_more}
use Rattle.mls_typetext.specs.declared.scheme.ReadScheme.{ReadScheme}
use Rattle.mls_scheme.specs.ReadTypes.{IsEquivalentToRead, IsReadFromBook}
use Rattle.mls_term.specs.declared.term.TermForm.{TermForm}
use Rattle.mls_term.specs.declared.term.TermForm.TheVariants as form
use Rattle.mls_term.specs.declared.term.TermNode.{TermNode}
use Rattle.mls_term.specs.WellFormed.{IsTerm}
use Rattle.mls_typing.proofs.Lists.{Contains-here}
use Rattle.mls_deriv.specs.Steps.{form_at}
use Rattle.mls_layout.proofs.WorkedParts.{nothing}
use Rattle.mls_parts.specs.declared.pose.KnownTypes.{KnownTypes}
use Rattle.mls_parts.specs.declared.pose.Posing.{Posing}
use Rattle.mls_parts.specs.declared.split.TermPart.{TermPart}
use Rattle.mls_parts.specs.MetCopies.{IsOfNoBinder}
use Rattle.mls_parts.specs.PartUses.{HasOwnType, IsBehindFirst, KnowTypes, KnowsType}
use Rattle.mls_parts.specs.PosedParts.{HasKnownType, IsKnownType}
use Rattle.mls_parts.specs.Posings.{binder_in, known_in}
use Rattle.mls_parts.specs.SolvedTypes.{entries_of, entry_of}
use Rattle.mls_parts.specs.TermParts.{AreTermParts, IsTermPart}
use Rattle.mls_parts.specs.TreeNodes.{AreTreeNodes}
use Rattle.mls_parts.proofs.SplitParts.{own_labels, behind_firsts, first_before_let, first_before_use}
use Rattle.mls_parts.proofs.TreeNodes.{tree_nodes}
use Rattle.mls_allowed.specs.MadeFirsts.{around_states, same, more, IsFirstMade, IsNoFirst}
use Rattle.mls_sections.specs.KnownNames.{AreNameTypes}
use Rattle.mls_allowed.proofs.Updated.{updated_at, updated_other, updated_own}
use Rattle.mls_emit.specs.Drafts.{AreTermNodes, HaveNoBinders, KnowGlobals, KnowFirsts, KnowsBefore, KnowsForm, KnowsFirst, KnowsName}

-- the nodes of a term
pub of_term : (globals : ℕ) (nodes : List TermNode) (binders lets : ℕ) → IsTerm globals nodes binders lets → AreTermNodes nodes
of_term globals nodes binders lets term = record {
  tree = tree_nodes nodes term.tree term.nodes_are;
  labels = own_labels globals nodes binders lets term;
  firsts = behind_firsts globals nodes binders lets term;
}

-- a type without binders
pub read_type : (s : Scheme) → IsScheme s → s.env ≡ [] → IsKnownType [] s
read_type s is free = record {
  closed = is.automaton;
  root = is.root;
  states = λ entry there. absurd (none entry there);
  around = λ entry there. absurd (none entry there);
  found = λ entry there. absurd (none entry there);
  separate = record {
    apart = λ entry other there. absurd (none entry there);
    free = λ k.
        states_more (IsState s.automaton) (λ q. IsOfNoBinder s) (λ q j state entry there. absurd (none entry there)) (polarity_at s.automaton k) (head_at s.automaton k) (is.automaton.heads k);
  };
}
  where
    none : (entry : EnvEntry) → Contains s.env entry → ⊥
    none entry there = nothing entry (subst (λ (env : List EnvEntry). Contains env entry) free there)

-- the binders before one of rising binders, with their states, are below it
pub all_before : (p : Posing) (binders : List ℕ) → Rises binders → (i : ℕ) → i < length binders
    → All (λ (other : EnvEntry). other.binder < get_or binders i 0) (entries_of (around_states p (take i binders)))
all_before p binders rises i low k d less =
    let count : length (entries_of (around_states p (take i binders))) ≡ length (take i binders) = length-map (around_states p (take i binders)) entry_of ∙ length-map (take i binders) (λ x. (x, binder_in p x)) in
    let short : length (take i binders) ≡ i = length-take-le i binders (omega (arith, low)) in
    let under : k < i = subst (λ n. k < n) (count ∙ short) less in
    let states : List (ℕ × ℕ) = around_states p (take i binders) in
    let first : get_or (entries_of states) k d ≡ entry_of (get_or states k (0, 0)) = get_or-map entry_of states k (0, 0) d (subst (λ n. k < n) (sym (length-map (take i binders) (λ x. (x, binder_in p x)) ∙ short)) under) in
    let second : get_or states k (0, 0) ≡ (get_or (take i binders) k 0, binder_in p (get_or (take i binders) k 0)) = get_or-map (λ x. (x, binder_in p x)) (take i binders) k 0 (0, 0) (subst (λ n. k < n) (sym short) under) in
    let third : get_or (take i binders) k 0 ≡ get_or binders k 0 = get_or-take i binders k 0 under in
    let at : (get_or (entries_of states) k d).binder ≡ get_or binders k 0 = ap (λ (e : EnvEntry). e.binder) first ∙ ap (λ (q : ℕ × ℕ). q.0) second ∙ third in
    subst (λ x. x < get_or binders i 0) (sym at) (rises k i under low)

-- no name is known
pub no_name : (reads : List ReadScheme) (globals : BTreeMap ℕ Scheme) → IsEmpty globals → AreNameTypes reads globals
no_name reads globals none g s is =
    let empty : known_in globals g ≡ None = ap (lookup (is_at (nat_cmp g))) none in
    absurd (let wrong : None ≡ Some s = sym empty ∙ is in cc)

pub one_name : (old new : BTreeMap ℕ Scheme) (g : ℕ) (read : ReadScheme) (s : Scheme) → Updates nat_cmp old new g (Some s) → IsKnownType [] s → IsReadFromBook read s → IsEquivalentToRead read s → KnowsName old new g read
one_name old new g read s updates is from equivalent = record {
  there = ap is_some (updated_own old new g s updates);
  kept = λ h has. elim (updated_at old new g s updates h) [
    | inl at ↦ ap is_some at.1
    | inr other ↦ ap is_some other.1 ∙ has
  ];
  back = λ h t has. go h t has (cases_eq h g);
}
  where
    go : (h : ℕ) (t : Scheme) → known_in new h ≡ Some t → (h ≡ g) ⊎ (h ≢ g) → (known_in old h ≡ Some t) ⊎ ((h ≡ g) × IsKnownType [] t × IsReadFromBook read t × IsEquivalentToRead read t)
    go h t has (inl here) =
        let at : known_in new h ≡ Some s = subst (λ k. known_in new k ≡ Some s) (sym here) (updated_own old new g s updates) in
        let alike : s ≡ t = (let both : Some s ≡ Some t = sym at ∙ has in cc) in
        inr (here, subst (IsKnownType []) alike is, subst (IsReadFromBook read) alike from, subst (IsEquivalentToRead read) alike equivalent)
    go h t has (inr apart) = inl (sym (updated_other old new g s updates h apart) ∙ has)

pub same_name : (old : BTreeMap ℕ Scheme) (g : ℕ) (read : ReadScheme) → IsSome (known_in old g) → KnowsName old old g read
same_name old g read there = record {
  there = there;
  kept = λ h has. has;
  back = λ h s has. inl has;
}

-- so the name of a node is known
pub name_form : (reads : List ReadScheme) (old new : BTreeMap ℕ Scheme) (g : ℕ) (read : ReadScheme) → AreNameTypes reads old → slice_get reads g ≡ Some read → KnowsName old new g read → KnowsForm reads old new (form.Global g)
name_form reads old new g read types is name = record {
  types = λ h s has. elim (name.back h s has) [
    | inl before ↦ types h s before
    | inr it ↦ record { known = it.1; read = read; is = subst (λ k. slice_get reads k ≡ Some read) (sym it.0) is; from = it.2; equivalent = it.3 }
  ];
  there = λ h same. (let alike : g ≡ h = cc in subst (λ j. IsSome (known_in new j)) alike name.there);
  kept = name.kept;
}

-- any other node has no name of the environment
pub no_form : (reads : List ReadScheme) (globals : BTreeMap ℕ Scheme) (f : TermForm) → AreNameTypes reads globals → ((g : ℕ) → f ≡ form.Global g → ⊥) → KnowsForm reads globals globals f
no_form reads globals f types none = record {
  types = types;
  there = λ g is. absurd (none g is);
  kept = λ h has. has;
}

-- the names among the nodes, one node after another
pub globals_none : (nodes : List TermNode) (globals : BTreeMap ℕ Scheme) → KnowGlobals nodes globals 0
globals_none nodes globals i g low e = absurd (omega (arith, low))

pub globals_more : (reads : List ReadScheme) (nodes : List TermNode) (old new : BTreeMap ℕ Scheme) (n : ℕ) (f : TermForm) → KnowGlobals nodes old n → form_at nodes n ≡ Some f → KnowsForm reads old new f → KnowGlobals nodes new (n + 1)
globals_more reads nodes old new n f know is name i h low e = elim (below_or_more i n) [
  | inl before ↦ name.kept h (know i h before e)
  | inr it ↦ name.there h (alike it.0 it.1)
]
  where
    alike : (d : ℕ) → i ≡ n + d → f ≡ form.Global h
    alike d over =
        let same : i ≡ n = omega (arith, low, over) in
        let at : form_at nodes n ≡ Some (form.Global h) = subst (λ j. form_at nodes j ≡ Some (form.Global h)) same e in
        let both : Some f ≡ Some (form.Global h) = sym is ∙ at in
        cc

-- first parts, one root after another
pub firsts_none : (nodes : List TermNode) (lets : BTreeMap ℕ Scheme) → KnowFirsts nodes lets 0
firsts_none nodes lets i k j l e low = absurd (omega (arith, low))

module _ (nodes : List TermNode) (r : ℕ) where
  pub firsts_same : (lets : BTreeMap ℕ Scheme) → KnowFirsts nodes lets r → IsNoFirst nodes r → KnowFirsts nodes lets (r + 1)
  firsts_same lets know none i k j l e low = elim (below_or_more j r) [
    | inl before ↦ know i k j l e before
    | inr it ↦ absurd (let same : j ≡ r = (let is : j ≡ r + it.0 = it.1 in omega (arith, low, is)) in none i k l (subst (λ q. form_at nodes i ≡ Some (form.Let k q l)) same e))
  ]

  pub firsts_more : AreTreeNodes nodes → (old new : BTreeMap ℕ Scheme) (i k l : ℕ) → KnowFirsts nodes old r → form_at nodes i ≡ Some (form.Let k r l) → (s : Scheme) → KnowsFirst old new k s
      → KnowFirsts nodes new (r + 1)
  firsts_more tree old new i k l know is s first j h f m e low = elim (updated_at old new k s first.updates h) [
    | inl at ↦ subst HasOwnType (sym at.1) first.own
    | inr other ↦ subst HasOwnType (sym other.1) (elim (below_or_more f r) [
      | inl before ↦ know j h f m e before
      | inr it ↦ absurd (other.0 (alike it.0 it.1))
    ])
  ]
    where
      alike : (d : ℕ) → f ≡ r + d → k ≡ h
      alike d over =
          let same : f ≡ r = omega (arith, low, over) in
          let here : form_at nodes j ≡ Some (form.Let h r m) = subst (λ q. form_at nodes j ≡ Some (form.Let h q m)) same e in
          let one : i ≡ j = tree.one i j r (form.Let k r l) (form.Let h r m) is here (Contains-here r (l ∷ [])) (Contains-here r (m ∷ [])) in
          let there : form_at nodes j ≡ Some (form.Let k r l) = subst (λ q. form_at nodes q ≡ Some (form.Let k r l)) one is in
          let both : Some (form.Let k r l) ≡ Some (form.Let h r m) = sym there ∙ here in
          cc

  pub no_first : (parts : BTreeMap ℕ TermPart) → AreTermParts nodes parts → get nat_cmp parts r ≡ None → IsNoFirst nodes r
  no_first parts are none i k l e =
      let some : IsSome (get nat_cmp parts r) = are.there r (inr (i, form.Let k r l, e, refl)) in
      absurd (let wrong : is_some (get nat_cmp parts r) ≡ false = ap is_some none in cc)

-- what is known before the next root
pub before_same : (nodes : List TermNode) (r : ℕ) (old new : KnownTypes) → new ≡ old → KnowsBefore nodes old r → IsNoFirst nodes r → KnowsBefore nodes new (r + 1)
before_same nodes r old new is before none =
    subst (λ (known : KnownTypes). KnowsBefore nodes known (r + 1)) (sym is)
    (record { free = before.free; globals = before.globals; firsts = firsts_same nodes r old.lets before.firsts none; added = same before.added none })

pub before_more : (nodes : List TermNode) (r : ℕ) → AreTreeNodes nodes → (old new : KnownTypes) (k : ℕ) → KnowsBefore nodes old r → new.globals ≡ old.globals → (i l : ℕ) → form_at nodes i ≡ Some (form.Let k r l) → (s : Scheme) → KnowsFirst old.lets new.lets k s
    → IsFirstMade nodes old.globals old.lets r s → KnowsBefore nodes new (r + 1)
before_more nodes r tree old new k before globals i l is s first made = record {
  free = subst HaveNoBinders (sym globals) before.free;
  globals = subst (λ (names : BTreeMap ℕ Scheme). KnowGlobals nodes names (length nodes)) (sym globals) before.globals;
  firsts = firsts_more nodes r tree old.lets new.lets i k l before.firsts is s first;
  added = more before.added (record { node = i; number = k; second = l; is = is; scheme = s; made = made; updates = first.updates; globals = globals });
}

-- what a part needs to be known
pub know_types : (nodes : List TermNode) → AreTermNodes nodes → (known : KnownTypes) (r : ℕ) → KnowsBefore nodes known r → (part : TermPart) → IsTermPart nodes r part → KnowTypes known.globals known.lets nodes part.nodes
know_types nodes term known r before part it i f there e = by_form f e
  where
    is_known : (o : Option Scheme) (g : ℕ) → known_in known.globals g ≡ o → IsSome o → HasKnownType [] o
    is_known None g at some = absurd (cc)
    is_known (Some s) g at some = before.free g s at

    by_form : (f : TermForm) → form_at nodes i ≡ Some f → KnowsType known.globals known.lets f
    by_form (form.Bound x) e = tt
    by_form (form.Inner k) e =
        let behind : IsBehindFirst nodes k i = term.firsts i k e in
        before.firsts behind.node k behind.first behind.second behind.is (first_before_use nodes term.tree r i k it.root (it.only i there).1 behind)
    by_form (form.Global g) e = is_known (known_in known.globals g) g refl (before.globals i g (it.only i there).0 e)
    by_form (form.Number value) e = tt
    by_form (form.Truth value) e = tt
    by_form (form.Fun x j) e = tt
    by_form (form.Apply j k) e = tt
    by_form (form.Make parts) e = tt
    by_form (form.Project j label) e = tt
    by_form (form.If j k l) e = tt
    by_form (form.Let k j l) e = before.firsts i k j l e (first_before_let nodes term.tree r i k j l it.root (it.only i there).1 e)
    by_form (form.Rec x j) e = tt
