-- An allowed step is derivable, where the steps before it are.
use Rattle.std.proofs.Common.{◌≡◌, ◌↔◌, ℕ, ◌+◌, ◌≤◌, Bool, true, false, List, [], ◌∷◌, map, length, refl, sym, ap, ◌∙◌, subst, arith, slice_get, Some, cond}
use Rattle.std.specs.Prelude.{Contains, IsSome, option_map}
use Rattle.std.specs.FinMap as env
use Rattle.std.specs.FinMap.{same_map, get-insert, nat_cmp-IsAntisymmetric}
use Rattle.std.specs.Ordering.{nat_cmp, eq_by_cmp, is_eq}
use Rattle.std.specs.declared.cmp.Ordering.{Ordering}
use Rattle.std.specs.declared.cmp.Ordering.TheVariants.{Less, Equal, Greater}
use Rattle.std.proofs.lemmas.Cmp.{nat_cmp_total}
use Rattle.mls_book.specs.declared.book.Field.{Field}
use Rattle.mls_book.specs.declared.book.Node.{Node}
use Rattle.mls_book.specs.declared.book.Node.TheVariants as node
use Rattle.mls_book.specs.Books.{node_at, field_at, IsClosedBook}
use Rattle.mls_book.specs.Schemes.{Scheme, IsScheme, Subsumes}
use Rattle.mls_book.proofs.LongerBooks.{Holds, IsCopied, IsCopied-value, renamed}
use Rattle.mls_book.proofs.Subsumption.{Equivalent-moved}
use Rattle.mls_term.specs.declared.term.Part.{Part}
use Rattle.mls_term.specs.Terms.{TermTree, TermFields, no_field, a_field}
use Rattle.mls_term.specs.Derivations.{Known, with_let, over, labels_of, Derives, AllDerive, none, more}
use Rattle.mls_term.specs.Derivations as rules
use Rattle.mls_deriv.specs.declared.derivation.StepLine.{StepLine}
use Rattle.mls_deriv.specs.Pairs.{Put, Pair}
use Rattle.mls_deriv.specs.Steps.{conclusion, raised, HasFrom, Before, Says, AllSay, IsAllowedByRule, var, use_let, use_name, lit_number, lit_truth, fun, app, make, proj, choice, let_in, fix, sub, IsAllowed}
use Rattle.mls_deriv.proofs.SubSteps.{pairs_subsume}
use Rattle.mls_deriv.proofs.TermNodes.{IsTreeAt, AreTreesAt, made_of}

-- schemes that need nothing of any binder
pub record AreClosed (globals : List Scheme) : Type 0 where
  pub schemes : (g : ℕ) (u : Scheme) → slice_get globals g ≡ Some u → IsScheme u
  pub nothing : (g : ℕ) (u : Scheme) → slice_get globals g ≡ Some u → u.env ≡ env.empty

-- a raised node is one with other numbers
raised_is : (n : ℕ) (x : Node) → raised n x ≡ renamed (λ i. n + i) (λ y. y) x
raised_is n node.Bot = refl
raised_is n node.Top = refl
raised_is n (node.Var x) = refl
raised_is n node.Bool = refl
raised_is n node.Int = refl
raised_is n (node.Arrow j k) = refl
raised_is n (node.Rcd fields) = refl
raised_is n (node.Join j k) = refl
raised_is n (node.Meet j k) = refl

-- so a book has the values of a book that stands in it
pub HasFrom-holds : (b c : List Node) (n : ℕ) → IsClosedBook b → IsClosedBook c → HasFrom c n b → Holds b c (λ i. n + i)
HasFrom-holds b c n closed closed' has =
    let le : n + length b ≤ length c = has.within in
    let copied : IsCopied b c (λ i. n + i) (λ y. y) = record {
      in_range = λ i low. omega arith;
      node = λ i low. has.nodes i low ∙ raised_is n (node_at b i);
    } in
    record {
      in_range = λ i low. omega arith;
      value = IsCopied-value b c (λ i. n + i) (λ y. y) closed closed'.book copied;
    }

-- what is known does not change where a let number gets the scheme that it has
known_let : (known : Known) (k : ℕ) (s : Scheme) → env.get known.lets k ≡ Some s → with_let known k s ≡ known
known_let known k s has = λ i. record known { lets = same i }
  where
    equal_is : (o : Ordering) → is_eq o ≡ true → o ≡ Equal
    equal_is Less e = absurd (cc)
    equal_is Equal e = refl
    equal_is Greater e = absurd (cc)

    by_test : (q : ℕ) (t : Bool) → eq_by_cmp nat_cmp q k ≡ t → cond t (Some s) (env.get known.lets q) ≡ env.get known.lets q
    by_test q true e = sym (ap (env.get known.lets) (nat_cmp-IsAntisymmetric q k (equal_is (nat_cmp q k) e)) ∙ has)
    by_test q false e = refl

    same : env.insert known.lets k s ≡ known.lets
    same = same_map nat_cmp_total nat_cmp-IsAntisymmetric _ _ (λ q. get-insert nat_cmp_total known.lets k s q ∙ by_test q (eq_by_cmp nat_cmp q k) refl)

module _ (known : Known) (b : Before) where
  -- the earlier steps are derivable
  abbrev pub StepsDerive : Type 0
  StepsDerive = (n : ℕ) (step : StepLine) → slice_get b.steps n ≡ Some step → (t : TermTree) → IsTreeAt b.term_nodes step.node t → Derives known t (conclusion b.book step)

  -- a let number has the scheme of its step
  abbrev pub LetsAreKnown : Type 0
  LetsAreKnown = (k n : ℕ) (step : StepLine) → env.find nat_cmp k b.lets ≡ Some n → slice_get b.steps n ≡ Some step → env.get known.lets k ≡ Some (conclusion b.book step)

  module _ (earlier : StepsDerive) where
    said : (n part : ℕ) (s : Scheme) → Says b n part s → (t : TermTree) → IsTreeAt b.term_nodes part t → Derives known t s
    said n part s says t tree =
        subst (λ u. Derives known t u) says.concludes
        (earlier n says.step says.stands t (subst (λ e. IsTreeAt b.term_nodes e t) (sym says.about) tree))

    all_said : (numbers : List ℕ) (parts : List Part) (trees : TermFields) (s : Scheme) (fields : List Field) → AllSay b numbers parts s fields → AreTreesAt b.term_nodes parts trees → AllDerive known trees s fields
    all_said [] [] no_field s fields say tree = none refl
    all_said [] [] (a_field label e rest) s fields say tree = absurd (let no : [] ≡ record { label = label; child = tree.0 } ∷ tree.1 = tree.2 in cc)
    all_said [] (part ∷ parts) trees s fields say tree = absurd say
    all_said (number ∷ numbers) [] trees s fields say tree = absurd say
    all_said (number ∷ numbers) (part ∷ parts) no_field s fields say tree = absurd (cc)
    all_said (number ∷ numbers) (part ∷ parts) (a_field label e rest) s fields say tree =
        let is : part ∷ parts ≡ record { label = label; child = tree.0 } ∷ tree.1 = tree.2 in
        let part_is : part ≡ record { label = label; child = tree.0 } = cc in
        let parts_is : parts ≡ tree.1 = cc in
        let i : ℕ × ℕ = (0, 0) in
        more label e rest say.0.0 refl ((λ k. field_at (sym part_is k).label fields) ∙ say.0.1)
        (said number part.child (over s s.env say.0.0.0) say.0.2 e (subst (λ p. IsTreeAt b.term_nodes p.child e) (sym part_is) tree.3))
        (all_said numbers parts rest s fields say.1 (subst (λ ps. AreTreesAt b.term_nodes ps rest) (sym parts_is) tree.4))

    labels_are : (parts : List Part) (trees : TermFields) → AreTreesAt b.term_nodes parts trees → map (λ part. part.label) parts ≡ labels_of trees
    labels_are parts no_field tree = ap (map (λ part. part.label)) tree
    labels_are parts (a_field label e rest) tree = ap (map (λ part. part.label)) tree.2 ∙ ap (λ (ls : List (List ℕ)). label ∷ ls) (labels_are tree.1 rest tree.4)

    no_parts : (parts : List Part) (trees : TermFields) → AreTreesAt b.term_nodes parts trees → trees ≡ no_field → parts ≡ []
    no_parts parts no_field tree e = tree
    no_parts parts (a_field label e rest) tree same = absurd (cc)

    module _ (globals : known.globals ≡ b.globals) (closed : AreClosed b.globals) (lets : LetsAreKnown) where
      by_rule : (puts : List Put) (pairs : List Pair) (step : StepLine) (s : Scheme) → s.book ≡ b.book → IsScheme s → IsAllowedByRule b puts pairs step s → (t : TermTree) → IsTreeAt b.term_nodes step.node t → Derives known t s
      by_rule puts pairs step s over_book is (var x r f env_is) t tree =
          let it = made_of b.term_nodes step.node t _ tree f in
          rules.var_fun it.0 x it.1 is env_is
      by_rule puts pairs step s over_book is (use_let n k first r f found stands same) t tree =
          let it = made_of b.term_nodes step.node t _ tree f in
          rules.var_inner it.0 k it.1 (lets k n first found stands ∙ ap Some (sym same))
      by_rule puts pairs step s over_book is (use_name n g u r f found has env_is root_is) t tree =
          let it = made_of b.term_nodes step.node t _ tree f in
          let u_is : IsScheme u = closed.schemes g u found in
          let nothing : u.env ≡ env.empty = closed.nothing g u found in
          rules.sub u (rules.var_global it.0 g it.1 (ap (λ gs. slice_get gs g) globals ∙ found))
          (Equivalent-moved u s (λ i. n.0 + i) u_is
          (HasFrom-holds u.book s.book n.0 u_is.book is.book (subst (λ c. HasFrom c n.0 u.book) (sym over_book) has))
          root_is
          (λ x. ap (λ e. env.get e x) env_is ∙ (env.get-empty nat_cmp x ∙ ap (option_map (λ i. n.0 + i)) (sym (ap (λ e. env.get e x) nothing ∙ env.get-empty nat_cmp x))))).0
          is
      by_rule puts pairs step s over_book is (lit_number value r f env_is root_is) t tree =
          let it = made_of b.term_nodes step.node t _ tree f in
          rules.lit_number it.0 value it.1 is env_is (subst (λ c. node_at c s.root ≡ node.Int) (sym over_book) root_is)
      by_rule puts pairs step s over_book is (lit_truth value r f env_is root_is) t tree =
          let it = made_of b.term_nodes step.node t _ tree f in
          rules.lit_truth it.0 value it.1 is env_is (subst (λ c. node_at c s.root ≡ node.Bool) (sym over_book) root_is)
      by_rule puts pairs step s over_book is (fun n x body d i j r f env_is takes root_is says) t tree =
          let it = made_of b.term_nodes step.node t _ tree f in
          rules.abs it.0 x it.1 d i j it.2 is env_is
          (subst (λ c. rules.Takes c d x i) (sym over_book) takes)
          (subst (λ c. node_at c s.root ≡ node.Arrow i j) (sym over_book) root_is)
          (said n body (over s d j.0) says it.1 it.3)
      by_rule puts pairs step s over_book is (app n m e e' g i r f function_is says says') t tree =
          let it = made_of b.term_nodes step.node t _ tree f in
          rules.app it.0 it.1 it.2 g i it.3 is
          (subst (λ c. node_at c g ≡ node.Arrow i (record { 0 = s.root })) (sym over_book) function_is)
          (said n e (over s s.env g) says it.1 it.4)
          (said m e' (over s s.env i.0) says' it.2 it.5)
      by_rule puts pairs step s over_book is (make numbers parts fields r f root_is labels nothing say) t tree =
          let it = made_of b.term_nodes step.node t _ tree f in
          rules.rcd it.0 it.1 fields it.2 is
          (subst (λ c. node_at c s.root ≡ node.Rcd fields) (sym over_book) root_is)
          (subst (λ (ls : List (List ℕ)). (label : List ℕ) → IsSome (field_at label fields) ↔ Contains ls label) (labels_are parts it.1 it.3) labels)
          (λ e. nothing (no_parts parts it.1 it.3 e))
          (all_said numbers parts it.1 s fields say it.3)
      by_rule puts pairs step s over_book is (proj n body i label field r f record_is label_is node_is says) t tree =
          let it = made_of b.term_nodes step.node t _ tree f in
          rules.proj it.0 it.1 label i field it.2 is
          (subst (λ c. node_at c i ≡ node.Rcd (field ∷ [])) (sym over_book) record_is) label_is node_is
          (said n body (over s s.env i) says it.1 it.3)
      by_rule puts pairs step s over_book is (choice n m l c e e' i r f condition_is says says' says'') t tree =
          let it = made_of b.term_nodes step.node t _ tree f in
          rules.cond it.0 it.1 it.2 it.3 i it.4 is
          (subst (λ c. node_at c i ≡ node.Bool) (sym over_book) condition_is)
          (said n c (over s s.env i) says it.1 it.5)
          (said m e s says' it.2 it.6)
          (said l e' s says'' it.3 it.7)
      by_rule puts pairs step s over_book is (let_in n m k e e' d1 d2 t1 r f found meet says says') t tree =
          let it = made_of b.term_nodes step.node t _ tree f in
          let s1 : Scheme = over s d1 t1 in
          let has : env.get known.lets k ≡ Some s1 = lets k n says.step found says.stands ∙ ap Some says.concludes in
          rules.let_in it.0 k it.1 it.2 d1 d2 t1 it.3 is
          (subst (λ c. rules.IsMeet c d1 d2 s.env) (sym over_book) meet)
          (said n e s1 says it.1 it.4)
          (subst (λ other. Derives other it.2 (over s d2 s.root)) (sym (known_let known k s1 has)) (said m e' (over s d2 s.root) says' it.2 it.5))
      by_rule puts pairs step s over_book is (fix n x body d r f env_is root_is says) t tree =
          let it = made_of b.term_nodes step.node t _ tree f in
          rules.rec_fix it.0 x it.1 d it.2 is env_is root_is
          (said n body (over s d s.root) says it.1 it.3)
      by_rule puts pairs step s over_book is (sub n first r says low all claims kept) t tree =
          let first_over : first.book ≡ b.book = λ k. (sym says.concludes k).book in
          let closed_book : IsClosedBook b.book = subst IsClosedBook over_book is.book in
          rules.sub first (said n step.node first says t tree)
          (subst (λ c. Subsumes (record { book = c; env = first.env; root = first.root }) s) (sym first_over)
          (subst (λ c. Subsumes (record { book = b.book; env = first.env; root = first.root }) (record { book = c; env = s.env; root = s.root })) (sym over_book)
          (pairs_subsume b.book closed_book puts pairs all first.env s.env first.root s.root low claims kept)))
          is

      -- an allowed step is derivable
      pub allowed_step : (puts : List Put) (pairs : List Pair) (step : StepLine) → IsAllowed b puts pairs step → (t : TermTree) → IsTreeAt b.term_nodes step.node t → Derives known t (conclusion b.book step)
      allowed_step puts pairs step allowed t tree = by_rule puts pairs step (conclusion b.book step) refl allowed.in_range allowed.by_rule t tree
