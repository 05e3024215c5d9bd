-- A step has what its check finds exactly if it is allowed by its rule.
use Rattle.std.proofs.Common.{◌≡◌, ◌↔◌, ◌⊎◌, inl, inr, ℕ, suc, ◌<◌, Bool, true, false, List, [], ◌∷◌, map, length, refl, sym, ap, ◌∙◌, subst, arith, slice_get, Option, Some, None, cond, bytes_eq, IsTrue}
use Rattle.std.specs.Prelude.{All, Contains, IsSome, is_some, find, option_map}
use Rattle.std.specs.FinMap as env
use Rattle.std.specs.Ordering.{nat_cmp}
use Rattle.std.proofs.lemmas.Slice.Eq.{bytes_eq-Decides}
use Rattle.std.proofs.lemmas.List.Elements.{All-nil, All-cons, All-contains}
use Rattle.mls_book.specs.declared.book.Field.{Field}
use Rattle.mls_book.specs.declared.book.NodeId.{NodeId}
use Rattle.mls_book.specs.declared.book.Node.{Node}
use Rattle.mls_book.specs.declared.book.Node.TheVariants as node
use Rattle.mls_book.specs.Books.{node_at, field_at, IsClosedBook}
use Rattle.mls_book.specs.Schemes.{Scheme}
use Rattle.mls_term.specs.declared.term.Part.{Part}
use Rattle.mls_term.specs.declared.term.TermForm.{TermForm}
use Rattle.mls_term.specs.declared.term.TermForm.TheVariants as form
use Rattle.mls_term.specs.declared.term.TermNode.{TermNode}
use Rattle.mls_term.specs.Derivations.{over}
use Rattle.mls_typetext.specs.declared.scheme.ReadScheme.{ReadScheme}
use Rattle.mls_deriv.specs.declared.derivation.BinderNode.{BinderNode}
use Rattle.mls_deriv.specs.declared.derivation.Mode.{Mode}
use Rattle.mls_deriv.specs.declared.derivation.Mode.TheVariants.{Lr}
use Rattle.mls_deriv.specs.declared.derivation.SectionLine.{SectionLine}
use Rattle.mls_deriv.specs.declared.derivation.StepLine.{StepLine}
use Rattle.mls_deriv.specs.declared.derivation.StepRule.{StepRule}
use Rattle.mls_deriv.specs.declared.derivation.StepRule.TheVariants as rule
use Rattle.mls_deriv.specs.declared.table.Table.{Table}
use Rattle.mls_deriv.specs.inner.Tables.{IsTableOf, Holds, put_in}
use Rattle.mls_deriv.specs.Pairs.{Put, Pair, put_at, Claims}
use Rattle.mls_deriv.specs.Steps.{env_of, conclusion, form_at, Before, Says, AllSay, IsRising, puts_of, pairs_of, IsAllowedByRule, IsAllowed}
use Rattle.mls_deriv.specs.Sections.{schemes_of}
use Rattle.mls_deriv.specs.inner.Rules.{Given, AreLow, IsPlain, about, child_of, AreFieldsOf, IsRecord, ByMake, ByForm, BySub, HasRule, IsInstance}
use Rattle.mls_deriv.proofs.StepRules.{ByStepRule, by_step_rule, from_step_rule}
use Rattle.mls_deriv.proofs.PairRules.{field_there}
use Rattle.mls_deriv.proofs.StepEnvironments.{env_get}
use Rattle.mls_deriv.proofs.ScopedNames.{first_or_later}
use Rattle.mls_deriv.proofs.CheckedSubs.{lows, justified, shown, kept_to, kept_from, entry_there, entry_found, all_of}
use Rattle.mls_deriv.proofs.Checking.{given_to, given_from, says_over, said, said_env, said_root, id_is, none_is, var_to, var_from, use_to, use_from, name_to, name_from, lit_to, lit_from, fun_to, fun_from, app_to, app_from, proj_to, proj_from, if_to, if_from, rec_to, rec_from, let_to, let_from, says}

-- a part has a label exactly if it has a child there
child_there : (parts : List Part) (label : List ℕ) → IsTrue (is_some (child_of parts label)) → Contains (map (λ (part : Part). part.label) parts) label
child_there [] label h = absurd (cc)
child_there (part ∷ parts) label h = go (bytes_eq part.label label) refl (child_there parts label) h
  where
    go : (b : Bool) → bytes_eq part.label label ≡ b → (IsTrue (is_some (child_of parts label)) → Contains (map (λ (part : Part). part.label) parts) label)
        → IsTrue (is_some (option_map (λ (p : Part). p.child) (cond b (Some part) (find (λ (p : Part). bytes_eq p.label label) parts)))) → Contains (map (λ (part : Part). part.label) (part ∷ parts)) label
    go true is later h = (0, omega arith, (bytes_eq-Decides part.label label).0 is)
    go false is later h = let it = later h in (suc it.0, (let low : it.0 < length (map (λ (part : Part). part.label) parts) = it.1 in omega arith), it.2)

child_found : (parts : List Part) (label : List ℕ) → Contains (map (λ (part : Part). part.label) parts) label → IsTrue (is_some (child_of parts label))
child_found [] label h = absurd (let low : h.0 < 0 = h.1 in omega arith)
child_found (part ∷ parts) label h = go (child_found parts label) (first_or_later part.label (map (λ (part : Part). part.label) parts) label h)
  where
    by_test : (b : Bool) → IsTrue (is_some (child_of parts label)) → IsTrue (is_some (option_map (λ (p : Part). p.child) (cond b (Some part) (find (λ (p : Part). bytes_eq p.label label) parts))))
    by_test true h = refl
    by_test false h = h

    go : (Contains (map (λ (part : Part). part.label) parts) label → IsTrue (is_some (child_of parts label))) → (part.label ≡ label) ⊎ Contains (map (λ (part : Part). part.label) parts) label → IsTrue (is_some (child_of (part ∷ parts) label))
    go later (inl e) =
        let yes : bytes_eq part.label label ≡ true = (bytes_eq-Decides part.label label).1 e in
        ap (λ b. is_some (option_map (λ (p : Part). p.child) (cond b (Some part) (find (λ (p : Part). bytes_eq p.label label) parts)))) yes
    go later (inr h) = by_test (bytes_eq part.label label) (later h)

-- the label of a field is found
own_label : (fields : List Field) (f : Field) → Contains fields f → IsSome (field_at f.label fields)
own_label [] f there = absurd (let low : there.0 < 0 = there.1 in omega arith)
own_label (g ∷ fields) f there = go (own_label fields f) (first_or_later g fields f there)
  where
    by_test : (b : Bool) → IsSome (field_at f.label fields) → IsSome (option_map (λ (h : Field). h.node) (cond b (Some g) (find (λ (h : Field). bytes_eq h.label f.label) fields)))
    by_test true h = refl
    by_test false h = h

    go : (Contains fields f → IsSome (field_at f.label fields)) → (g ≡ f) ⊎ Contains fields f → IsSome (field_at f.label (g ∷ fields))
    go later (inl e) =
        let yes : bytes_eq g.label f.label ≡ true = (bytes_eq-Decides g.label f.label).1 (ap (λ (h : Field). h.label) e) in
        ap (λ b. is_some (option_map (λ (h : Field). h.node) (cond b (Some g) (find (λ (h : Field). bytes_eq h.label f.label) fields)))) yes
    go later (inr h) = by_test (bytes_eq g.label f.label) (later h)

some_is : {X : Type 0} (o : Option X) → IsSome o → (x : X) × (o ≡ Some x)
some_is None h = absurd (cc)
some_is (Some x) h = (x, refl)

is_some_of : {X : Type 0} (o : Option X) (x : X) → o ≡ Some x → IsSome o
is_some_of o x e = ap is_some e

all_at : (P : Field → Type 0) (fs : List Field) → ((f : Field) → Contains fs f → P f) → All P fs
all_at P [] h = All-nil P
all_at P (f ∷ fs) h = All-cons P f fs (h f (0, omega arith, refl)) (all_at P fs (λ g there. h g (suc there.0, (let low : there.0 < length fs = there.1 in omega arith), there.2)))

-- each part has a field of its label
part_field : (steps : List StepLine) (step : StepLine) (fields : List Field) (numbers : List ℕ) (parts : List Part) → AreFieldsOf steps step fields numbers parts → (label : List ℕ) → Contains (map (λ (part : Part). part.label) parts) label → IsSome (field_at label fields)
part_field steps step fields [] [] h label there = absurd (let low : there.0 < 0 = there.1 in omega arith)
part_field steps step fields [] (part ∷ parts) h label there = absurd h
part_field steps step fields (number ∷ numbers) [] h label there = absurd h
part_field steps step fields (number ∷ numbers) (part ∷ parts) h label there = go (part_field steps step fields numbers parts h.1 label) (first_or_later part.label (map (λ (part : Part). part.label) parts) label there)
  where
    go : (Contains (map (λ (part : Part). part.label) parts) label → IsSome (field_at label fields)) → (part.label ≡ label) ⊎ Contains (map (λ (part : Part). part.label) parts) label → IsSome (field_at label fields)
    go later (inl e) =
        let it = given_to (about steps number part.child) _ h.0 in
        subst (λ l. IsSome (field_at l fields)) e (is_some_of (field_at part.label fields) it.0.root it.2.1)
    go later (inr h) = later h

module _ (nodes : List TermNode) (known : List ReadScheme) (book : List Node) (steps : List StepLine) (lets : List (ℕ × ℕ)) (lines : List SectionLine)
    (rising : (n : ℕ) (s : StepLine) → slice_get steps n ≡ Some s → IsRising s.env)
    (step : StepLine) (rises : IsRising step.env) where
  abbrev b : Before
  b = record { term_nodes = nodes; globals = schemes_of known; book = book; steps = steps; lets = lets }

  abbrev s : Scheme
  s = conclusion book step

  abbrev puts : List Put
  puts = puts_of lines

  abbrev pairs : List Pair
  pairs = pairs_of lines

  fields_say : (fields : List Field) (numbers : List ℕ) (parts : List Part) → AreFieldsOf steps step fields numbers parts → AllSay b numbers parts s fields
  fields_say fields [] [] h = tt
  fields_say fields [] (part ∷ parts) h = absurd h
  fields_say fields (number ∷ numbers) [] h = absurd h
  fields_say fields (number ∷ numbers) (part ∷ parts) h =
      let it = given_to (about steps number part.child) _ h.0 in
      ((it.0.root, it.2.1, says_over nodes known book steps lets puts pairs rising step rises number part.child it.0 it.1 it.2.0), fields_say fields numbers parts h.1)

  say_fields : (fields : List Field) (numbers : List ℕ) (parts : List Part) → AllSay b numbers parts s fields → AreFieldsOf steps step fields numbers parts
  say_fields fields [] [] h = tt
  say_fields fields [] (part ∷ parts) h = absurd h
  say_fields fields (number ∷ numbers) [] h = absurd h
  say_fields fields (number ∷ numbers) (part ∷ parts) h =
      let i : NodeId = h.0.0 in
      let says : Says b number part.child (over s s.env i.0) = h.0.2 in (
        given_from (about steps number part.child) _ says.step (said nodes known book steps lets puts pairs rising step rises number part.child (over s s.env i.0) says) (
          said_env nodes known book steps lets puts pairs rising step rises number part.child (over s s.env i.0) says refl,
          h.0.1 ∙ ap Some (id_is nodes known book steps lets puts pairs rising step rises i says.step.root (sym (said_root nodes known book steps lets puts pairs rising step rises number part.child (over s s.env i.0) says))),
        ),
        say_fields fields numbers parts h.1,
      )

  make_to : (numbers : List ℕ) (f : TermForm) → ByMake book steps step numbers f → form_at nodes step.node ≡ Some f → ByStepRule b puts pairs step s (rule.Make numbers)
  make_to numbers (form.Make parts) h e = go (node_at book step.root.0) refl h
    where
      go : (v : Node) → node_at book step.root.0 ≡ v → IsRecord steps step numbers parts v → ByStepRule b puts pairs step s (rule.Make numbers)
      go node.Bot is h = absurd h
      go node.Top is h = absurd h
      go (node.Var y) is h = absurd h
      go node.Bool is h = absurd h
      go node.Int is h = absurd h
      go (node.Arrow i j) is h = absurd h
      go (node.Join i j) is h = absurd h
      go (node.Meet i j) is h = absurd h
      go (node.Rcd fields) is h = (
        parts,
        fields,
        e,
        is,
        (λ label. (
          λ found.
              let it = some_is (field_at label fields) found in
              let there = field_there label it.0 fields it.1 in
              subst (Contains (map (λ (part : Part). part.label) parts)) there.2
              (child_there parts there.0.label (All-contains (λ (f : Field). IsTrue (is_some (child_of parts f.label))) fields there.0 h.1 there.1)),
          part_field steps step fields numbers parts h.0 label,
        )),
        (λ none. ap env_of (h.2 none)),
        fields_say fields numbers parts h.0,
      )
  make_to numbers (form.Bound x) h e = absurd h
  make_to numbers (form.Inner k) h e = absurd h
  make_to numbers (form.Global g) h e = absurd h
  make_to numbers (form.Number v) h e = absurd h
  make_to numbers (form.Truth v) h e = absurd h
  make_to numbers (form.Fun x j) h e = absurd h
  make_to numbers (form.Apply i j) h e = absurd h
  make_to numbers (form.Project i l) h e = absurd h
  make_to numbers (form.If i j k) h e = absurd h
  make_to numbers (form.Let k i j) h e = absurd h
  make_to numbers (form.Rec x i) h e = absurd h

  make_from : (numbers : List ℕ) → ByStepRule b puts pairs step s (rule.Make numbers) → Given (form_at nodes step.node) (ByMake book steps step numbers)
  make_from numbers (parts, fields, e, is, have, nothing, say) =
      given_from (form_at nodes step.node) (ByMake book steps step numbers) (form.Make parts) e
      (subst (IsRecord steps step numbers parts) (sym is) (
        say_fields fields numbers parts say,
        all_at (λ f. IsTrue (is_some (child_of parts f.label))) fields (λ f there. child_found parts f.label ((have f.label).0 (own_label fields f there))),
        λ none. none_is nodes known book steps lets puts pairs rising step rises (nothing none),
      ))

  module _ (put : ℕ → Option ℕ) (claims : Mode → ℕ → ℕ → Type 0)
      (put_is : (x : ℕ) → put x ≡ put_at puts x) (same : (m : Mode) (k l : ℕ) → claims m k l ↔ Claims pairs m k l) where
    sub_to : (number : ℕ) → BySub book steps put claims step lines number → ByStepRule b puts pairs step s (rule.Sub number)
    sub_to number h =
        let it = given_to (about steps number step.node) (λ t. IsInstance book claims step t) h.0 in
        let t : StepLine = it.0 in (
          conclusion book t,
          says nodes known book steps lets puts pairs rising step rises number step.node t it.1,
          lows book lines put claims put_is same h.1,
          justified book lines put claims put_is same h.1,
          (same Lr t.root.0 step.root.0).0 it.2.0,
          kept_to book lines put claims put_is same t.env step.env it.2.1,
        )

    sub_from : (number : ℕ) → ByStepRule b puts pairs step s (rule.Sub number) → BySub book steps put claims step lines number
    sub_from number (first, says, low, all, claimed, kept) =
        let t : StepLine = says.step in
        let d_is : env_of t.env ≡ first.env = ap (λ (v : Scheme). v.env) says.concludes in (
          given_from (about steps number step.node) (λ t. IsInstance book claims step t) t (said nodes known book steps lets puts pairs rising step rises number step.node first says) (
            subst (λ i. claims Lr i step.root.0) (ap (λ (v : Scheme). v.root) (sym says.concludes)) ((same Lr first.root step.root.0).1 claimed),
            kept_from book lines put claims put_is same t.env step.env (rising number t says.stands)
                (λ x n found. kept x n (ap (λ d. env.get d x) (sym d_is) ∙ found)),
          ),
          shown book lines put claims put_is same low all,
        )

    form_to : (r : StepRule) → ((f : TermForm) → ByForm book steps (λ k. env.find nat_cmp k lets) known step r f → form_at nodes step.node ≡ Some f → ByStepRule b puts pairs step s r)
        → Given (form_at nodes step.node) (ByForm book steps (λ k. env.find nat_cmp k lets) known step r) → ByStepRule b puts pairs step s r
    form_to r to h = let it = given_to (form_at nodes step.node) (ByForm book steps (λ k. env.find nat_cmp k lets) known step r) h in to it.0 it.2 it.1

    rule_to : (r : StepRule) → HasRule book steps (λ k. env.find nat_cmp k lets) known put claims lines step r (form_at nodes step.node) → ByStepRule b puts pairs step s r
    rule_to rule.Var h = form_to rule.Var (var_to nodes known book steps lets puts pairs rising step rises) h
    rule_to (rule.Use n) h = form_to (rule.Use n) (use_to nodes known book steps lets puts pairs rising step rises n) h
    rule_to (rule.Name n) h = form_to (rule.Name n) (name_to nodes known book steps lets puts pairs rising step rises n) h
    rule_to rule.Lit h = form_to rule.Lit (lit_to nodes known book steps lets puts pairs rising step rises) h
    rule_to (rule.Fun n) h = form_to (rule.Fun n) (fun_to nodes known book steps lets puts pairs rising step rises n) h
    rule_to (rule.App n m) h = form_to (rule.App n m) (app_to nodes known book steps lets puts pairs rising step rises n m) h
    rule_to (rule.Make ns) h = form_to (rule.Make ns) (make_to ns) h
    rule_to (rule.Proj n) h = form_to (rule.Proj n) (proj_to nodes known book steps lets puts pairs rising step rises n) h
    rule_to (rule.If n m l) h = form_to (rule.If n m l) (if_to nodes known book steps lets puts pairs rising step rises n m l) h
    rule_to (rule.Let n m) h = form_to (rule.Let n m) (let_to nodes known book steps lets puts pairs rising step rises n m) h
    rule_to (rule.Rec n) h = form_to (rule.Rec n) (rec_to nodes known book steps lets puts pairs rising step rises n) h
    rule_to (rule.Sub n) h = sub_to n h

    rule_from : (r : StepRule) → ByStepRule b puts pairs step s r → HasRule book steps (λ k. env.find nat_cmp k lets) known put claims lines step r (form_at nodes step.node)
    rule_from rule.Var h = var_from nodes known book steps lets puts pairs rising step rises h
    rule_from (rule.Use n) h = use_from nodes known book steps lets puts pairs rising step rises n h
    rule_from (rule.Name n) h = name_from nodes known book steps lets puts pairs rising step rises n h
    rule_from rule.Lit h = lit_from nodes known book steps lets puts pairs rising step rises h
    rule_from (rule.Fun n) h = fun_from nodes known book steps lets puts pairs rising step rises n h
    rule_from (rule.App n m) h = app_from nodes known book steps lets puts pairs rising step rises n m h
    rule_from (rule.Make ns) h = make_from ns h
    rule_from (rule.Proj n) h = proj_from nodes known book steps lets puts pairs rising step rises n h
    rule_from (rule.If n m l) h = if_from nodes known book steps lets puts pairs rising step rises n m l h
    rule_from (rule.Let n m) h = let_from nodes known book steps lets puts pairs rising step rises n m h
    rule_from (rule.Rec n) h = rec_from nodes known book steps lets puts pairs rising step rises n h
    rule_from (rule.Sub n) h = sub_from n h

    -- what the check finds of a step is what its rule asks
    pub rule_found : (let_of : ℕ → Option ℕ) → ((k : ℕ) → let_of k ≡ env.find nat_cmp k lets)
        → HasRule book steps let_of known put claims lines step step.rule (form_at nodes step.node) ↔ IsAllowedByRule b puts pairs step s
    rule_found let_of let_is =
        let same : let_of ≡ (λ k. env.find nat_cmp k lets) = λ i k. let_is k i in (
          λ h. from_step_rule b puts pairs step s step.rule refl (rule_to step.rule (subst (λ l. HasRule book steps l known put claims lines step step.rule (form_at nodes step.node)) same h)),
          λ h. subst (λ l. HasRule book steps l known put claims lines step step.rule (form_at nodes step.node)) (sym same) (rule_from step.rule (by_step_rule b puts pairs step s h)),
        )

low_at : (count : ℕ) (es : List BinderNode) → IsRising es → AreLow count es → (x i : ℕ) → env.get (env_of es) x ≡ Some i → i < count
low_at count es rises low x i found =
    let it = entry_there es x i (sym (env_get es x) ∙ found) in
    subst (λ n. n < count) it.3 (All-contains (λ (e : BinderNode). e.node.0 < count) es it.0 low it.1)

low_of : (count : ℕ) (es : List BinderNode) → IsRising es → ((x i : ℕ) → env.get (env_of es) x ≡ Some i → i < count) → AreLow count es
low_of count es rises h = all_of (λ e. e.node.0 < count) es (λ e there. h e.binder e.node.0 (env_get es e.binder ∙ entry_found es rises e there))

-- a step that is plain and has its rule is allowed
pub allowed_found : (nodes : List TermNode) (known : List ReadScheme) (book : List Node) (steps : List StepLine) (lets : List (ℕ × ℕ)) (lines : List SectionLine) (step : StepLine)
    (table : Table) (let_of : ℕ → Option ℕ) → IsClosedBook book → ((n : ℕ) (s : StepLine) → slice_get steps n ≡ Some s → IsRising s.env)
    → IsTableOf lines table → ((k : ℕ) → let_of k ≡ env.find nat_cmp k lets)
    → (IsPlain (length book) step × HasRule book steps let_of known (put_in table) (Holds table) lines step step.rule (form_at nodes step.node))
    ↔ IsAllowed (record { term_nodes = nodes; globals = schemes_of known; book = book; steps = steps; lets = lets }) (puts_of lines) (pairs_of lines) step
allowed_found nodes known book steps lets lines step table let_of closed rising is_table let_is = (
  λ h.
      let rises : IsRising step.env = h.0.2 in
      let both = rule_found nodes known book steps lets lines rising step rises (put_in table) (Holds table) is_table.1 is_table.0 let_of let_is in
      record {
        in_range = record { book = closed; root = h.0.0; env = low_at (length book) step.env rises h.0.1 };
        rising = rises;
        by_rule = both.0 h.1;
      },
  λ a.
      let both = rule_found nodes known book steps lets lines rising step a.rising (put_in table) (Holds table) is_table.1 is_table.0 let_of let_is in
      ((a.in_range.root, low_of (length book) step.env a.rising a.in_range.env, a.rising), both.1 a.by_rule),
)
