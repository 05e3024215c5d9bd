-- Where a part of a term has a type, all its nodes and binders have types as their forms ask.
--     nodes_have_types
use Rattle.std.proofs.Common.{◌≡◌, ℕ, ◌+◌, List, ◌∷◌, refl, ◌∙◌}
use Rattle.std.specs.Prelude.{Option}
use Rattle.mls_book.specs.Predicates.{Predicate, top, bool, arrow, rcd}
use Rattle.mls_book.specs.Passes.{passes, field_values}
use Rattle.mls_book.specs.Schemes.{Scheme, Subsumes}
use Rattle.mls_book.proofs.Depths.{Implies-refl}
use Rattle.mls_term.specs.declared.term.TermNode.{TermNode}
use Rattle.mls_term.specs.Terms.{TermTree, TermFields, bound, inner, global, number, truth, fun, apply, make, project, choice, local, fix, no_field, a_field, before}
use Rattle.mls_term.specs.Derivations.{Known, with_let}
use Rattle.mls_term.specs.WellFormed.{binders_of}
use Rattle.mls_term.proofs.Metatheory.{AreSchemes-let, IsMoreGeneral-refl, IsMoreGeneral-let}
use Rattle.mls_typing.specs.Typed.{Types, IsType, type_of, needs_of, with_binder, IsTyped, one_field, AllOf, OfChoice}
use Rattle.mls_typing.proofs.Instances.{Allows-subsumes, IsTyped-derived, IsTyped-more, typed_under}
use Rattle.mls_typing.proofs.TypedParts.{typed_fun, typed_fix}
use Rattle.mls_typing.proofs.TypedUses.{typed_apply, typed_project, typed_choice}
use Rattle.mls_typing.proofs.TypedMake.{typed_make}
use Rattle.mls_typing.proofs.TypedLet.{LetParts, let_parts, typed_more_general}
use Rattle.mls_parts.specs.NodeTypes.{AreTyped, AllowsAll, LetsAllow, AllLetsAllow, IsKnownHere, NodesHaveTypes}
use Rattle.mls_parts.specs.NumberedNodes.{behind, IsPlaced}
use Rattle.mls_parts.proofs.HeldTypes.{top_type, record_type}
use Rattle.mls_allowed.proofs.KnownHere.{known_more, known_let}
use Rattle.mls_allowed.proofs.KeptTypes.{AgreeOn, with_agree, reset, reset_inside, reset_outside, AreKept}
use Rattle.mls_allowed.proofs.PlacedParts.{AreApart}
use Rattle.mls_allowed.proofs.EachTyped.{IsChoice, each_typed}
use Rattle.mls_allowed.proofs.FoundTypes.{IsFound, AreFound, bound_found, inner_found, global_found, number_found, truth_found, fun_found, fix_found, project_found, apply_found, choice_found, local_found, no_field_found, field_found, make_found, label_there}
use Rattle.mls_allowed.proofs.PlacedParts.{ArePlaced, placed_fun, placed_fix, placed_project, placed_function, placed_argument, placed_condition, placed_first_branch, placed_second_branch, placed_second, placed_fields, placed_field, placed_rest}

module _ (nodes : List TermNode) (known : Known) where
  -- the binders around have the types that they had
  around_then : (scope : List ℕ) (n : ℕ) (bs : List ℕ) (old : ℕ → Predicate) (olds types : Types) (type : ℕ → Predicate) (binder : Types)
      → AreApart scope bs → AgreeOn scope olds types → AreKept n bs old olds type binder → AgreeOn scope binder types
  around_then scope n bs old olds types type binder apart agree kept x inside = kept.binders x (apart x inside) ∙ agree x inside

  -- a conditional has a type by its branches
  abbrev HasBranches : Known → (c e e' : TermTree) → Types → Predicate → Type 0
  HasBranches here c e e' = OfChoice (λ ts g. IsTyped here ts c g) (λ ts g. IsTyped here ts e g) (λ ts g. IsTyped here ts e' g)

  -- the type of the branches is raised to that of the conditional
  abbrev raised : (here : Known) (c e e' : TermTree) (types : Types) (f : Predicate) → IsType f → HasBranches here c e e' types f → HasBranches here c e e' types f
  raised here c e e' types f is it = record {
    branch = f;
    branch_is = is;
    condition = it.condition;
    first = IsTyped-more here types types e it.branch f (λ x. Implies-refl (types x)) it.below it.first;
    second = IsTyped-more here types types e' it.branch f (λ x. Implies-refl (types x)) it.below it.second;
    below = Implies-refl f;
  }

  -- types that are found for a tree, with this one at its root
  abbrev IsFoundAt : (scope : List ℕ) (n : ℕ) (t : TermTree) (f g : Predicate) (old : ℕ → Predicate) (olds : Types) → Type 0
  IsFoundAt scope n t f g old olds = (it : IsFound nodes known scope n t f old olds) × (it.type (n + before t) ≡ g)

  -- the same for a conditional alone
  abbrev IsRaisedTo : (scope : List ℕ) (n : ℕ) (t : TermTree) (f : Predicate) (old : ℕ → Predicate) (olds : Types) → Type 0
  IsRaisedTo scope n t f old olds = (it : IsFound nodes known scope n t f old olds) × (IsChoice t → it.type (n + before t) ≡ f)

  -- for any type, and where it is one, so that a conditional has just this type
  abbrev IsFoundEither : (scope : List ℕ) (n : ℕ) (t : TermTree) (f : Predicate) (old : ℕ → Predicate) (olds : Types) → Type 0
  IsFoundEither scope n t f old olds = IsFound nodes known scope n t f old olds × (IsType f → IsRaisedTo scope n t f old olds)

  alone : {scope : List ℕ} {n : ℕ} {t : TermTree} {f : Predicate} {old : ℕ → Predicate} {olds : Types} → (IsChoice t → ⊥) → IsFound nodes known scope n t f old olds → IsFoundEither scope n t f old olds
  alone other it = (it, λ is. (it, λ choice. absurd (other choice)))

  -- a conditional, over what is found for its parts one after another
  branches_found : {here : Known} (at : ℕ) (c e e' : TermTree) (scope : List ℕ) (n : ℕ) (placed : IsPlaced nodes scope n (choice at c e e')) (types olds : Types) → AgreeOn scope olds types
      → (f : Predicate) (it : HasBranches here c e e' types f) (old : ℕ → Predicate) → IsFound nodes known scope n c bool old olds
      → ((T : ℕ → Predicate) (B : Types) → AgreeOn scope B types → IsRaisedTo scope (behind n c) e it.branch T B)
      → ((T : ℕ → Predicate) (B : Types) → AgreeOn scope B types → IsRaisedTo scope (behind (behind n c) e) e' it.branch T B)
      → IsFoundAt scope n (choice at c e e') f it.branch old olds
  branches_found at c e e' scope n placed types olds agree f it old one first second =
      let placed_c : IsPlaced nodes scope n c = placed_condition nodes scope n at c e e' placed in
      let placed_e : IsPlaced nodes scope (behind n c) e = placed_first_branch nodes scope n at c e e' placed in
      let agree_one : AgreeOn scope one.binder types = around_then scope n (binders_of c) old olds types one.type one.binder placed_c.apart agree one.kept in
      let two : IsRaisedTo scope (behind n c) e it.branch one.type one.binder = first one.type one.binder agree_one in
      let agree_two : AgreeOn scope two.0.binder types = around_then scope (behind n c) (binders_of e) one.type one.binder types two.0.type two.0.binder placed_e.apart agree_one two.0.kept in
      let three : IsRaisedTo scope (behind (behind n c) e) e' it.branch two.0.type two.0.binder = second two.0.type two.0.binder agree_two in
      choice_found nodes known scope n at f old olds c e e' it.branch it.branch_is it.below placed one two.0 three.0 two.1 three.1

  -- The binders around have the types `olds` in the families that are found, which are those that the typing gives them.
  mutual
    found : (t : TermTree) (scope : List ℕ) (here : Known) (n : ℕ) → IsPlaced nodes scope n t → IsKnownHere known scope here → LetsAllow known scope here t
        → (types olds : Types) → AgreeOn scope olds types → (f : Predicate) → IsTyped here types t f → (old : ℕ → Predicate) → IsFoundEither scope n t f old olds
    found (bound at x) scope here n placed known_here allow types olds agree f h old = alone (λ choice. choice) (bound_found nodes known scope here known_here n types olds agree f old at x placed h)
    found (inner at k) scope here n placed known_here allow types olds agree f h old = alone (λ choice. choice) (inner_found nodes known scope here known_here n types olds agree f old at k placed h)
    found (global at g) scope here n placed known_here allow types olds agree f h old = alone (λ choice. choice) (global_found nodes known scope here known_here n types olds agree f old at g placed h)
    found (number at value) scope here n placed known_here allow types olds agree f h old = alone (λ choice. choice) (number_found nodes known scope here known_here n types olds agree f old at value placed h)
    found (truth at value) scope here n placed known_here allow types olds agree f h old = alone (λ choice. choice) (truth_found nodes known scope here known_here n types olds agree f old at value placed h)
    found (fun at x e) scope here n placed known_here allow types olds agree f h old =
        let it = (typed_fun here known_here.schemes types f at x e).0 h in
        alone (λ choice. choice) (fun_found nodes known scope n at f old olds x e it.domain it.codomain it.domain_is it.codomain_is it.below placed
        (found e (x ∷ scope) here n (placed_fun nodes scope n at x e placed) (known_more known scope here x known_here) allow
        (with_binder types x it.domain) (with_binder olds x it.domain) (with_agree scope x it.domain olds types agree) it.codomain it.body old).0)
    found (fix at x e) scope here n placed known_here allow types olds agree f h old =
        let it = (typed_fix here known_here.schemes types f at x e).0 h in
        alone (λ choice. choice) (fix_found nodes known scope n at f old olds x e it.body_type it.is it.below placed
        (found e (x ∷ scope) here n (placed_fix nodes scope n at x e placed) (known_more known scope here x known_here) allow
        (with_binder types x it.body_type) (with_binder olds x it.body_type) (with_agree scope x it.body_type olds types agree) it.body_type it.body old).0)
    found (project at e label) scope here n placed known_here allow types olds agree f h old =
        let it = (typed_project here known_here.schemes types f at e label).0 h in
        alone (λ choice. choice) (project_found nodes known scope n at f old olds e label it.field it.field_is it.below placed
        (found e scope here n (placed_project nodes scope n at e label placed) known_here allow types olds agree (rcd (one_field label it.field)) it.body old).0)
    found (apply at e e') scope here n placed known_here allow types olds agree f h old =
        let it = (typed_apply here known_here.schemes types f at e e').0 h in
        let placed_e : IsPlaced nodes scope n e = placed_function nodes scope n at e e' placed in
        let one : IsFound nodes known scope n e (arrow it.domain it.codomain) old olds =
        (found e scope here n placed_e known_here allow.0 types olds agree (arrow it.domain it.codomain) it.function old).0 in
        alone (λ choice. choice) (apply_found nodes known scope n at f old olds e e' it.domain it.codomain it.codomain_is it.below placed one
        (found e' scope here (behind n e) (placed_argument nodes scope n at e e' placed) known_here allow.1
        types one.binder (around_then scope n (binders_of e) old olds types one.type one.binder placed_e.apart agree one.kept) it.domain it.argument one.type).0)
    found (choice at c e e') scope here n placed known_here allow types olds agree f h old =
        let it : HasBranches here c e e' types f = (typed_choice here known_here.schemes types f at c e e').0 h in
        let over : (it : HasBranches here c e e' types f) → IsFoundAt scope n (choice at c e e') f it.branch old olds = λ it.
        branches_found at c e e' scope n placed types olds agree f it old
        (found c scope here n (placed_condition nodes scope n at c e e' placed) known_here allow.0 types olds agree bool it.condition old).0
        (λ T B agree. (found e scope here (behind n c) (placed_first_branch nodes scope n at c e e' placed) known_here allow.1 types B agree it.branch it.first T).1 it.branch_is)
        (λ T B agree. (found e' scope here (behind (behind n c) e) (placed_second_branch nodes scope n at c e e' placed) known_here allow.2 types B agree it.branch it.second T).1 it.branch_is) in
        ((over it).0, λ is. let raised_is = over (raised here c e e' types f is it) in (raised_is.0, λ choice. raised_is.1))
    found (make at parts) scope here n placed known_here allow types olds agree f h old =
        let it = (typed_make here known_here.schemes types f at parts).0 h in
        let fields : List ℕ → Option Predicate = field_values (passes it.book) it.fields in
        alone (λ choice. choice) (make_found nodes known scope n at parts f old olds fields (record_type it.book it.closed it.fields it.rising it.within) (label_there it.book parts it.fields it.labels) it.below placed
        (all_found parts scope here n (placed_fields nodes scope n at parts placed) known_here allow types olds agree fields it.each old))
    found (local at k e e') scope here n placed known_here allow types olds agree f h old =
        let it : LetParts here types k e e' f = let_parts here known_here.schemes types f at k e e' h in
        let s : Scheme = allow.0 in
        let best : AllowsAll scope here e s = allow.2 in
        let subsumes : Subsumes s it.scheme = Allows-subsumes s it.scheme (best.all (needs_of it.scheme) (type_of it.scheme) (IsTyped-derived here e it.scheme it.is it.derives)) in
        let second : IsTyped (with_let here k s) types e' f =
        typed_more_general (with_let here k s) (with_let here k it.scheme) types e' f (IsMoreGeneral-let here here k s it.scheme (IsMoreGeneral-refl here) subsumes)
        (AreSchemes-let here k it.scheme known_here.schemes it.is) it.second in
        alone (λ choice. choice) (local_found nodes known scope n at f old olds k e e' types s agree allow.1 best.needs (best.all types top (typed_under it.scheme it.is types top it.allowed here e it.derives)) placed
        (found e' scope (with_let here k s) (behind n e) (placed_second nodes scope n at e e' k placed) (known_let known scope here k s allow.1 best.is best.needs known_here) allow.3
        types olds agree f second old).0)

    all_found : (parts : TermFields) (scope : List ℕ) (here : Known) (n : ℕ) → ArePlaced nodes scope n parts → IsKnownHere known scope here → AllLetsAllow known scope here parts
        → (types olds : Types) → AgreeOn scope olds types → (fields : List ℕ → Option Predicate) → AllOf (λ e ts g. IsTyped here ts e g) parts types fields → (old : ℕ → Predicate)
        → AreFound nodes known scope n parts fields old olds
    all_found no_field scope here n placed known_here allow types olds agree fields h old = no_field_found nodes known scope n fields old olds
    all_found (a_field label e rest) scope here n placed known_here allow types olds agree fields h old =
        let placed_e : IsPlaced nodes scope n e = placed_field nodes scope n label e rest placed in
        let one : IsFound nodes known scope n e h.0.0 old olds = (found e scope here n placed_e known_here allow.0 types olds agree h.0.0 h.0.2 old).0 in
        field_found nodes known scope n label e rest fields h.0.0 old olds placed.once placed.apart h.0.1 one
        (all_found rest scope here (behind n e) (placed_rest nodes scope n label e rest placed) known_here allow.1
        types one.binder (around_then scope n (binders_of e) old olds types one.type one.binder placed_e.apart agree one.kept) fields h.1 one.type)

pub nodes_have_types : NodesHaveTypes
nodes_have_types nodes known scope here n t placed known_here allow types f h =
    let bs : List ℕ = binders_of t in
    let olds : Types = reset bs types in
    let it : IsFound nodes known scope n t f (λ m. top) olds =
    (found nodes known t scope here n placed known_here allow types olds (λ x around. reset_outside bs types x (placed.apart x around)) f h (λ m. top)).0 in
    let typed : AreTyped nodes known it.type it.binder (n + before t) t = it.typed it.type it.binder (λ m le. refl) (λ x which. refl) in
    record {
      type = it.type;
      binder = it.binder;
      typed = typed;
      each = each_typed nodes known it.type it.binder (n + before t) t typed;
      root = it.root;
      around = λ x out. it.kept.binders x out ∙ reset_outside bs types x out;
      types_are = it.kept.nodes_are (λ m. top_type);
      binders_are = λ x inside. it.kept.binders_are x (reset_inside bs types x inside);
    }
