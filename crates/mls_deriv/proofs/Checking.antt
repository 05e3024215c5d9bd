-- What the check of a step finds is what the rules ask.
--     to_rule       what was found is what the rule asks
--     from_rule     and the other way round
use Rattle.std.proofs.Common.{◌≡◌, inl, inr, ℕ, zero, suc, ◌+◌, ◌<◌, Bool, true, false, List, [], ◌∷◌, refl, sym, ap, ◌∙◌, subst, slice_get, Option, Some, None, cond, nat_eq}
use Rattle.std.specs.Prelude.{option_map}
use Rattle.std.specs.FinMap as env
use Rattle.std.specs.Ordering.{nat_cmp}
use Rattle.std.proofs.lemmas.Bool.Decides.{Decides-eqb}
use Rattle.std.proofs.lemmas.List.Elements.{All-nil}
use Rattle.mls_book.specs.declared.book.Field.{Field}
use Rattle.mls_book.specs.declared.book.NodeId.{NodeId}
use Rattle.mls_book.specs.declared.book.Node.{Node}
use Rattle.mls_book.specs.declared.book.Node.TheVariants as node
use Rattle.mls_book.specs.Books.{node_at}
use Rattle.mls_book.specs.Schemes.{Env, Scheme}
use Rattle.mls_term.specs.declared.term.TermForm.{TermForm}
use Rattle.mls_term.specs.declared.term.TermForm.TheVariants as form
use Rattle.mls_term.specs.declared.term.TermNode.{TermNode}
use Rattle.mls_term.specs.Derivations.{over, Takes, IsMeet, IsMeetAt}
use Rattle.mls_typetext.specs.declared.scheme.ReadScheme.{ReadScheme}
use Rattle.mls_typetext.specs.Schemes.{scheme_of}
use Rattle.mls_deriv.specs.declared.derivation.BinderNode.{BinderNode}
use Rattle.mls_deriv.specs.declared.derivation.StepLine.{StepLine}
use Rattle.mls_deriv.specs.declared.derivation.StepRule.TheVariants as rule
use Rattle.mls_deriv.specs.Pairs.{Put, Pair}
use Rattle.mls_deriv.specs.Steps.{env_of, conclusion, form_at, HasFrom, Before, Says, IsRising}
use Rattle.mls_deriv.specs.Sections.{schemes_of}
use Rattle.mls_deriv.specs.inner.Rules.{node_in, without, Given, if_about, about, IsDomain, IsMeetIn, IsFunction, IsOneField, ByVar, ByUse, ByName, ByLit, ByFun, ByApp, ByProj, ByIf, ByLet, ByRec}
use Rattle.mls_deriv.proofs.StepRules.{ByStepRule}
use Rattle.mls_deriv.proofs.StepEnvironments.{env_same, env_get, env_without, rising_without}

-- what is given is there
pub given_to : {X : Type 0} (o : Option X) (P : X → Type 0) → Given o P → (x : X) × (o ≡ Some x) × P x
given_to None P h = absurd h
given_to (Some x) P h = (x, refl, h)

pub given_from : {X : Type 0} (o : Option X) (P : X → Type 0) (x : X) → o ≡ Some x → P x → Given o P
given_from {X} o P x e h = subst (λ (o : Option X). Given o P) (sym e) h

-- the step of a number that is about a part
about_to : (part : ℕ) (o : Option StepLine) (s : StepLine) → if_about part o ≡ Some s → (o ≡ Some s) × (s.node ≡ part)
about_to part None s e = absurd (cc)
about_to part (Some t) s e = go (nat_eq t.node part) refl e
  where
    go : (b : Bool) → nat_eq t.node part ≡ b → cond b (Some t) None ≡ Some s → (Some t ≡ Some s) × (s.node ≡ part)
    go true is e =
        let same : t ≡ s = cc in
        (e, subst (λ (u : StepLine). u.node ≡ part) same ((Decides-eqb t.node part).0 is))
    go false is e = absurd (cc)

about_from : (part : ℕ) (o : Option StepLine) (s : StepLine) → o ≡ Some s → s.node ≡ part → if_about part o ≡ Some s
about_from part o s e is =
    let yes : nat_eq s.node part ≡ true = (Decides-eqb s.node part).1 is in
    ap (if_about part) e ∙ ap (λ b. cond b (Some s) None) yes

module _ (nodes : List TermNode) (known : List ReadScheme) (book : List Node) (steps : List StepLine) (lets : List (ℕ × ℕ)) (puts : List Put) (pairs : List Pair)
    (rising : (n : ℕ) (s : StepLine) → slice_get steps n ≡ Some s → IsRising s.env)
    (step : StepLine) (rises : IsRising step.env) where
  abbrev b : Before
  b = record { term_nodes = nodes; globals = schemes_of known; book = book; steps = steps; lets = lets }

  abbrev s : Scheme
  s = conclusion book step

  abbrev let_of : ℕ → Option ℕ
  let_of k = env.find nat_cmp k lets

  -- an earlier step that was found says what it concludes
  pub says : (number part : ℕ) (t : StepLine) → about steps number part ≡ Some t → Says b number part (conclusion book t)
  says number part t e = record { step = t; stands = (about_to part (slice_get steps number) t e).0; about = (about_to part (slice_get steps number) t e).1; concludes = refl }

  pub says_over : (number part : ℕ) (t : StepLine) → about steps number part ≡ Some t → t.env ≡ step.env → Says b number part (over s s.env t.root.0)
  says_over number part t e same = record { step = t; stands = (about_to part (slice_get steps number) t e).0; about = (about_to part (slice_get steps number) t e).1; concludes = λ i. record { book = book; env = env_of (same i); root = t.root.0 } }

  -- and the other way round
  pub said : (number part : ℕ) (u : Scheme) → (h : Says b number part u) → about steps number part ≡ Some h.step
  said number part u h = about_from part (slice_get steps number) h.step h.stands h.about

  pub said_env : (number part : ℕ) (u : Scheme) → (h : Says b number part u) → u.env ≡ s.env → h.step.env ≡ step.env
  said_env number part u h e = env_same h.step.env step.env (rising number h.step h.stands) rises (ap (λ (v : Scheme). v.env) h.concludes ∙ e)

  pub said_root : (number part : ℕ) (u : Scheme) → (h : Says b number part u) → h.step.root.0 ≡ u.root
  said_root number part u h = ap (λ (v : Scheme). v.root) h.concludes

  pub id_is : (i j : NodeId) → i.0 ≡ j.0 → i ≡ j
  id_is i j e = λ k. record { 0 = e k }

  pub none_is : env_of step.env ≡ env.empty → step.env ≡ []
  none_is e = env_same step.env [] rises tt e

  pub var_to : (f : TermForm) → ByVar step f → form_at nodes step.node ≡ Some f → ByStepRule b puts pairs step s rule.Var
  var_to (form.Bound x) h e = (x, e, ap env_of h)
  var_to (form.Inner k) h e = absurd h
  var_to (form.Global g) h e = absurd h
  var_to (form.Number v) h e = absurd h
  var_to (form.Truth v) h e = absurd h
  var_to (form.Fun x j) h e = absurd h
  var_to (form.Apply i j) h e = absurd h
  var_to (form.Make ps) h e = absurd h
  var_to (form.Project i l) h e = absurd h
  var_to (form.If i j k) h e = absurd h
  var_to (form.Let k i j) h e = absurd h
  var_to (form.Rec x i) h e = absurd h

  pub var_from : ByStepRule b puts pairs step s rule.Var → Given (form_at nodes step.node) (ByVar step)
  var_from (x, e, is) = given_from (form_at nodes step.node) (ByVar step) (form.Bound x) e (env_same step.env (record { binder = x; node = step.root } ∷ []) rises (All-nil (λ (later : BinderNode). x < later.binder), tt) is)

  pub use_to : (number : ℕ) (f : TermForm) → ByUse steps let_of step number f → form_at nodes step.node ≡ Some f → ByStepRule b puts pairs step s (rule.Use number)
  use_to number (form.Inner k) (found, h) e =
      let it = given_to (slice_get steps number) (λ t. (step.env ≡ t.env) × (step.root ≡ t.root)) h in
      let first : StepLine = it.0 in
      (k, first, e, found, it.1, (λ i. record { book = book; env = env_of (it.2.0 i); root = (it.2.1 i).0 }))
  use_to number (form.Bound x) h e = absurd h
  use_to number (form.Global g) h e = absurd h
  use_to number (form.Number v) h e = absurd h
  use_to number (form.Truth v) h e = absurd h
  use_to number (form.Fun x j) h e = absurd h
  use_to number (form.Apply i j) h e = absurd h
  use_to number (form.Make ps) h e = absurd h
  use_to number (form.Project i l) h e = absurd h
  use_to number (form.If i j k) h e = absurd h
  use_to number (form.Let k i j) h e = absurd h
  use_to number (form.Rec x i) h e = absurd h

  pub use_from : (number : ℕ) → ByStepRule b puts pairs step s (rule.Use number) → Given (form_at nodes step.node) (ByUse steps let_of step number)
  use_from number (k, first, e, found, stands, is) =
      given_from (form_at nodes step.node) (ByUse steps let_of step number) (form.Inner k) e (
        found,
        given_from (slice_get steps number) (λ t. (step.env ≡ t.env) × (step.root ≡ t.root)) first stands (
          env_same step.env first.env rises (rising number first stands) (ap (λ (v : Scheme). v.env) is),
          id_is step.root first.root (ap (λ (v : Scheme). v.root) is),
        ),
      )

  pub global_to : (ks : List ReadScheme) (g : ℕ) (read : ReadScheme) → slice_get ks g ≡ Some read → slice_get (schemes_of ks) g ≡ Some (scheme_of read)
  global_to [] g read e = absurd (cc)
  global_to (k ∷ ks) zero read e = ap (option_map scheme_of) e
  global_to (k ∷ ks) (suc g) read e = global_to ks g read e

  pub global_from : (ks : List ReadScheme) (g : ℕ) (u : Scheme) → slice_get (schemes_of ks) g ≡ Some u → (read : ReadScheme) × (slice_get ks g ≡ Some read) × (scheme_of read ≡ u)
  global_from [] g u e = absurd (cc)
  global_from (k ∷ ks) zero u e = (k, refl, (let same : scheme_of k ≡ u = cc in same))
  global_from (k ∷ ks) (suc g) u e = global_from ks g u e

  pub name_to : (n : NodeId) (f : TermForm) → ByName book known step n f → form_at nodes step.node ≡ Some f → ByStepRule b puts pairs step s (rule.Name n)
  name_to n (form.Global g) h e =
      let it = given_to (slice_get known g) (λ read. HasFrom book n.0 read.book × (step.env ≡ []) × (step.root.0 ≡ n.0 + read.root.0)) h in
      (g, scheme_of it.0, e, global_to known g it.0 it.1, it.2.0, ap env_of it.2.1, it.2.2)
  name_to n (form.Bound x) h e = absurd h
  name_to n (form.Inner k) h e = absurd h
  name_to n (form.Number v) h e = absurd h
  name_to n (form.Truth v) h e = absurd h
  name_to n (form.Fun x j) h e = absurd h
  name_to n (form.Apply i j) h e = absurd h
  name_to n (form.Make ps) h e = absurd h
  name_to n (form.Project i l) h e = absurd h
  name_to n (form.If i j k) h e = absurd h
  name_to n (form.Let k i j) h e = absurd h
  name_to n (form.Rec x i) h e = absurd h

  pub name_from : (n : NodeId) → ByStepRule b puts pairs step s (rule.Name n) → Given (form_at nodes step.node) (ByName book known step n)
  name_from n (g, u, e, found, has, env_is, root_is) =
      let it = global_from known g u found in
      given_from (form_at nodes step.node) (ByName book known step n) (form.Global g) e
      (given_from (slice_get known g) (λ read. HasFrom book n.0 read.book × (step.env ≡ []) × (step.root.0 ≡ n.0 + read.root.0)) it.0 it.1 (
        subst (λ (v : Scheme). HasFrom book n.0 v.book) (sym it.2) has,
        none_is env_is,
        root_is ∙ ap (λ (v : Scheme). n.0 + v.root) (sym it.2),
      ))

  pub lit_to : (f : TermForm) → ByLit book step f → form_at nodes step.node ≡ Some f → ByStepRule b puts pairs step s rule.Lit
  lit_to (form.Number v) h e = inl (v, e, ap env_of h.0, h.1)
  lit_to (form.Truth v) h e = inr (v, e, ap env_of h.0, h.1)
  lit_to (form.Bound x) h e = absurd h
  lit_to (form.Inner k) h e = absurd h
  lit_to (form.Global g) h e = absurd h
  lit_to (form.Fun x j) h e = absurd h
  lit_to (form.Apply i j) h e = absurd h
  lit_to (form.Make ps) h e = absurd h
  lit_to (form.Project i l) h e = absurd h
  lit_to (form.If i j k) h e = absurd h
  lit_to (form.Let k i j) h e = absurd h
  lit_to (form.Rec x i) h e = absurd h

  pub lit_from : ByStepRule b puts pairs step s rule.Lit → Given (form_at nodes step.node) (ByLit book step)
  lit_from (inl (v, e, env_is, is)) = given_from (form_at nodes step.node) (ByLit book step) (form.Number v) e (none_is env_is, is)
  lit_from (inr (v, e, env_is, is)) = given_from (form_at nodes step.node) (ByLit book step) (form.Truth v) e (none_is env_is, is)

  pub fun_to : (number : ℕ) (f : TermForm) → ByFun book steps step number f → form_at nodes step.node ≡ Some f → ByStepRule b puts pairs step s (rule.Fun number)
  fun_to number (form.Fun x body) h e =
      let it = given_to (about steps number body) (λ t. IsFunction book step x t (node_at book step.root.0)) h in
      go it.0 it.1 (node_at book step.root.0) refl it.2
    where
      domain : (t : StepLine) (i : NodeId) (o : Option ℕ) → node_in t.env x ≡ o → IsDomain book o i.0 → Takes book (env_of t.env) x i
      domain t i None e h = inr (env_get t.env x ∙ e, h)
      domain t i (Some n) e h = inl (env_get t.env x ∙ (e ∙ ap Some h))

      go : (t : StepLine) → about steps number body ≡ Some t → (v : Node) → node_at book step.root.0 ≡ v → IsFunction book step x t v → ByStepRule b puts pairs step s (rule.Fun number)
      go t found node.Bot is h = absurd h
      go t found node.Top is h = absurd h
      go t found (node.Var y) is h = absurd h
      go t found node.Bool is h = absurd h
      go t found node.Int is h = absurd h
      go t found (node.Rcd fields) is h = absurd h
      go t found (node.Join i j) is h = absurd h
      go t found (node.Meet i j) is h = absurd h
      go t found (node.Arrow i j) is h = (
        x,
        body,
        env_of t.env,
        i,
        j,
        e,
        ap env_of h.1 ∙ env_without x t.env,
        domain t i (node_in t.env x) refl h.2,
        is,
        record { step = t; stands = (about_to body (slice_get steps number) t found).0; about = (about_to body (slice_get steps number) t found).1; concludes = λ k. record { book = book; env = env_of t.env; root = (sym h.0 k).0 } },
      )
  fun_to number (form.Bound x) h e = absurd h
  fun_to number (form.Inner k) h e = absurd h
  fun_to number (form.Global g) h e = absurd h
  fun_to number (form.Number v) h e = absurd h
  fun_to number (form.Truth v) h e = absurd h
  fun_to number (form.Apply i j) h e = absurd h
  fun_to number (form.Make ps) h e = absurd h
  fun_to number (form.Project i l) h e = absurd h
  fun_to number (form.If i j k) h e = absurd h
  fun_to number (form.Let k i j) h e = absurd h
  fun_to number (form.Rec x i) h e = absurd h

  pub fun_from : (number : ℕ) → ByStepRule b puts pairs step s (rule.Fun number) → Given (form_at nodes step.node) (ByFun book steps step number)
  fun_from number (x, body, d, i, j, e, env_is, takes, is, says) =
      let t : StepLine = says.step in
      let d_is : env_of t.env ≡ d = ap (λ (v : Scheme). v.env) says.concludes in
      let rises' : IsRising t.env = rising number t says.stands in
      given_from (form_at nodes step.node) (ByFun book steps step number) (form.Fun x body) e
      (given_from (about steps number body) (λ t. IsFunction book step x t (node_at book step.root.0)) t (said number body (over s d j.0) says)
      (subst (IsFunction book step x t) (sym is) (
        id_is j t.root (sym (said_root number body (over s d j.0) says)),
        env_same step.env (without x t.env) rises (rising_without x t.env rises') (env_is ∙ (ap (λ d. env.remove d x) (sym d_is) ∙ sym (env_without x t.env))),
        domain t i (subst (λ d. Takes book d x i) (sym d_is) takes),
      )))
    where
      domain : (t : StepLine) (i : NodeId) → Takes book (env_of t.env) x i → IsDomain book (node_in t.env x) i.0
      domain t i (inl h) = subst (λ o. IsDomain book o i.0) (sym (sym (env_get t.env x) ∙ h)) refl
      domain t i (inr h) = subst (λ o. IsDomain book o i.0) (sym (sym (env_get t.env x) ∙ h.0)) h.1

  pub app_to : (first second : ℕ) (f : TermForm) → ByApp book steps step first second f → form_at nodes step.node ≡ Some f → ByStepRule b puts pairs step s (rule.App first second)
  app_to first second (form.Apply f a) h e =
      let one = given_to (about steps first f) _ h in
      let two = given_to (about steps second a) _ one.2 in
      (f, a, one.0.root.0, two.0.root, e, two.2.2, says_over first f one.0 one.1 two.2.0, says_over second a two.0 two.1 two.2.1)
  app_to first second (form.Bound x) h e = absurd h
  app_to first second (form.Inner k) h e = absurd h
  app_to first second (form.Global g) h e = absurd h
  app_to first second (form.Number v) h e = absurd h
  app_to first second (form.Truth v) h e = absurd h
  app_to first second (form.Fun x j) h e = absurd h
  app_to first second (form.Make ps) h e = absurd h
  app_to first second (form.Project i l) h e = absurd h
  app_to first second (form.If i j k) h e = absurd h
  app_to first second (form.Let k i j) h e = absurd h
  app_to first second (form.Rec x i) h e = absurd h

  pub app_from : (first second : ℕ) → ByStepRule b puts pairs step s (rule.App first second) → Given (form_at nodes step.node) (ByApp book steps step first second)
  app_from first second (f, a, g, i, e, is, says, says') =
      let root : says.step.root.0 ≡ g = said_root first f (over s s.env g) says in
      let root' : i ≡ says'.step.root = id_is i says'.step.root (sym (said_root second a (over s s.env i.0) says')) in
      given_from (form_at nodes step.node) (ByApp book steps step first second) (form.Apply f a) e
      (given_from (about steps first f) _ says.step (said first f (over s s.env g) says)
      (given_from (about steps second a) _ says'.step (said second a (over s s.env i.0) says') (
        said_env first f (over s s.env g) says refl,
        said_env second a (over s s.env i.0) says' refl,
        ap (node_at book) root ∙ (is ∙ ap (λ i. node.Arrow i step.root) root'),
      )))

  pub proj_to : (number : ℕ) (f : TermForm) → ByProj book steps step number f → form_at nodes step.node ≡ Some f → ByStepRule b puts pairs step s (rule.Proj number)
  proj_to number (form.Project i l) h e =
      let it = given_to (about steps number i) _ h in
      go it.0 it.1 it.2.0 (node_at book it.0.root.0) refl it.2.1
    where
      go : (t : StepLine) → about steps number i ≡ Some t → t.env ≡ step.env → (v : Node) → node_at book t.root.0 ≡ v → IsOneField step l v → ByStepRule b puts pairs step s (rule.Proj number)
      go t found same node.Bot is h = absurd h
      go t found same node.Top is h = absurd h
      go t found same (node.Var y) is h = absurd h
      go t found same node.Bool is h = absurd h
      go t found same node.Int is h = absurd h
      go t found same (node.Arrow i j) is h = absurd h
      go t found same (node.Join i j) is h = absurd h
      go t found same (node.Meet i j) is h = absurd h
      go t found same (node.Rcd fields) is h = (i, t.root.0, l, record { label = l; node = step.root }, e, is ∙ ap node.Rcd h, refl, refl, says_over number i t found same)
  proj_to number (form.Bound x) h e = absurd h
  proj_to number (form.Inner k) h e = absurd h
  proj_to number (form.Global g) h e = absurd h
  proj_to number (form.Number v) h e = absurd h
  proj_to number (form.Truth v) h e = absurd h
  proj_to number (form.Fun x j) h e = absurd h
  proj_to number (form.Apply i j) h e = absurd h
  proj_to number (form.Make ps) h e = absurd h
  proj_to number (form.If i j k) h e = absurd h
  proj_to number (form.Let k i j) h e = absurd h
  proj_to number (form.Rec x i) h e = absurd h

  pub proj_from : (number : ℕ) → ByStepRule b puts pairs step s (rule.Proj number) → Given (form_at nodes step.node) (ByProj book steps step number)
  proj_from number (body, i, label, field, e, is, label_is, node_is, says) =
      let t : StepLine = says.step in
      let root : t.root.0 ≡ i = said_root number body (over s s.env i) says in
      let field_is : field ≡ record { label = label; node = step.root } = λ k. record { label = label_is k; node = id_is field.node step.root node_is k } in
      given_from (form_at nodes step.node) (ByProj book steps step number) (form.Project body label) e
      (given_from (about steps number body) _ t (said number body (over s s.env i) says) (
        said_env number body (over s s.env i) says refl,
        subst (IsOneField step label) (sym (ap (node_at book) root ∙ is)) (ap (λ (f : Field). f ∷ []) field_is),
      ))

  pub if_to : (first second third : ℕ) (f : TermForm) → ByIf book steps step first second third f → form_at nodes step.node ≡ Some f → ByStepRule b puts pairs step s (rule.If first second third)
  if_to first second third (form.If c i j) h e =
      let one = given_to (about steps first c) _ h in
      let two = given_to (about steps second i) _ one.2 in
      let three = given_to (about steps third j) _ two.2 in
      let it = three.2 in
      (c, i, j, one.0.root.0, e, it.1, says_over first c one.0 one.1 it.0, whole second i two.0 two.1 it.2 it.3, whole third j three.0 three.1 it.4 it.5)
    where
      whole : (number part : ℕ) (t : StepLine) → about steps number part ≡ Some t → t.env ≡ step.env → t.root ≡ step.root → Says b number part s
      whole number part t found same root = record { step = t; stands = (about_to part (slice_get steps number) t found).0; about = (about_to part (slice_get steps number) t found).1; concludes = λ k. record { book = book; env = env_of (same k); root = (root k).0 } }
  if_to first second third (form.Bound x) h e = absurd h
  if_to first second third (form.Inner k) h e = absurd h
  if_to first second third (form.Global g) h e = absurd h
  if_to first second third (form.Number v) h e = absurd h
  if_to first second third (form.Truth v) h e = absurd h
  if_to first second third (form.Fun x j) h e = absurd h
  if_to first second third (form.Apply i j) h e = absurd h
  if_to first second third (form.Make ps) h e = absurd h
  if_to first second third (form.Project i l) h e = absurd h
  if_to first second third (form.Let k i j) h e = absurd h
  if_to first second third (form.Rec x i) h e = absurd h

  pub if_from : (first second third : ℕ) → ByStepRule b puts pairs step s (rule.If first second third) → Given (form_at nodes step.node) (ByIf book steps step first second third)
  if_from first second third (c, i, j, n, e, is, says, says', says'') =
      given_from (form_at nodes step.node) (ByIf book steps step first second third) (form.If c i j) e
      (given_from (about steps first c) _ says.step (said first c (over s s.env n) says)
      (given_from (about steps second i) _ says'.step (said second i s says')
      (given_from (about steps third j) _ says''.step (said third j s says'') (
        said_env first c (over s s.env n) says refl,
        ap (node_at book) (said_root first c (over s s.env n) says) ∙ is,
        said_env second i s says' refl,
        id_is says'.step.root step.root (said_root second i s says'),
        said_env third j s says'' refl,
        id_is says''.step.root step.root (said_root third j s says''),
      ))))

  pub rec_to : (number : ℕ) (f : TermForm) → ByRec steps step number f → form_at nodes step.node ≡ Some f → ByStepRule b puts pairs step s (rule.Rec number)
  rec_to number (form.Rec x i) h e =
      let it = given_to (about steps number i) _ h in
      let t : StepLine = it.0 in
      let root : t.root ≡ step.root = it.2.0 in (
        x,
        i,
        env_of t.env,
        e,
        ap env_of it.2.2 ∙ env_without x t.env,
        env_get t.env x ∙ (it.2.1 ∙ ap (λ (n : NodeId). Some n.0) root),
        record { step = t; stands = (about_to i (slice_get steps number) t it.1).0; about = (about_to i (slice_get steps number) t it.1).1; concludes = λ k. record { book = book; env = env_of t.env; root = (root k).0 } },
      )
  rec_to number (form.Bound x) h e = absurd h
  rec_to number (form.Inner k) h e = absurd h
  rec_to number (form.Global g) h e = absurd h
  rec_to number (form.Number v) h e = absurd h
  rec_to number (form.Truth v) h e = absurd h
  rec_to number (form.Fun x j) h e = absurd h
  rec_to number (form.Apply i j) h e = absurd h
  rec_to number (form.Make ps) h e = absurd h
  rec_to number (form.Project i l) h e = absurd h
  rec_to number (form.If i j k) h e = absurd h
  rec_to number (form.Let k i j) h e = absurd h

  pub rec_from : (number : ℕ) → ByStepRule b puts pairs step s (rule.Rec number) → Given (form_at nodes step.node) (ByRec steps step number)
  rec_from number (x, body, d, e, env_is, root_is, says) =
      let t : StepLine = says.step in
      let d_is : env_of t.env ≡ d = ap (λ (v : Scheme). v.env) says.concludes in
      let root : t.root ≡ step.root = id_is t.root step.root (said_root number body (over s d s.root) says) in
      given_from (form_at nodes step.node) (ByRec steps step number) (form.Rec x body) e
      (given_from (about steps number body) _ t (said number body (over s d s.root) says) (
        root,
        sym (env_get t.env x) ∙ (ap (λ d. env.get d x) d_is ∙ (root_is ∙ ap (λ (n : NodeId). Some n.0) (sym root))),
        env_same step.env (without x t.env) rises (rising_without x t.env (rising number t says.stands)) (env_is ∙ (ap (λ d. env.remove d x) (sym d_is) ∙ sym (env_without x t.env))),
      ))

  pub let_to : (first second : ℕ) (f : TermForm) → ByLet book steps let_of step first second f → form_at nodes step.node ≡ Some f → ByStepRule b puts pairs step s (rule.Let first second)
  let_to first second (form.Let k i j) h e =
      let one = given_to (about steps first i) _ h.1 in
      let two = given_to (about steps second j) _ one.2 in
      let t : StepLine = one.0 in
      let u : StepLine = two.0 in (
        k,
        i,
        j,
        env_of t.env,
        env_of u.env,
        t.root.0,
        e,
        h.0,
        meets t u two.2.1,
        says first i t one.1,
        record { step = u; stands = (about_to j (slice_get steps second) u two.1).0; about = (about_to j (slice_get steps second) u two.1).1; concludes = λ n. record { book = book; env = env_of u.env; root = (two.2.0 n).0 } },
      )
    where
      meets : (t u : StepLine) → IsMeetIn book t.env u.env step.env → IsMeet book (env_of t.env) (env_of u.env) (env_of step.env)
      meets t u h x = subst (λ o. IsMeetAt book o (env.get (env_of u.env) x) (env.get (env_of step.env) x)) (sym (env_get t.env x))
          (subst (λ o. IsMeetAt book (node_in t.env x) o (env.get (env_of step.env) x)) (sym (env_get u.env x))
          (subst (λ o. IsMeetAt book (node_in t.env x) (node_in u.env x) o) (sym (env_get step.env x)) (h x)))
  let_to first second (form.Bound x) h e = absurd h
  let_to first second (form.Inner k) h e = absurd h
  let_to first second (form.Global g) h e = absurd h
  let_to first second (form.Number v) h e = absurd h
  let_to first second (form.Truth v) h e = absurd h
  let_to first second (form.Fun x j) h e = absurd h
  let_to first second (form.Apply i j) h e = absurd h
  let_to first second (form.Make ps) h e = absurd h
  let_to first second (form.Project i l) h e = absurd h
  let_to first second (form.If i j k) h e = absurd h
  let_to first second (form.Rec x i) h e = absurd h

  pub let_from : (first second : ℕ) → ByStepRule b puts pairs step s (rule.Let first second) → Given (form_at nodes step.node) (ByLet book steps let_of step first second)
  let_from first second (k, i, j, d1, d2, t1, e, found, meet, says, says') =
      let t : StepLine = says.step in
      let u : StepLine = says'.step in
      given_from (form_at nodes step.node) (ByLet book steps let_of step first second) (form.Let k i j) e (
        found,
        given_from (about steps first i) _ t (said first i (over s d1 t1) says)
            (given_from (about steps second j) _ u (said second j (over s d2 s.root) says') (
              id_is u.root step.root (said_root second j (over s d2 s.root) says'),
              λ x. subst (λ o. IsMeetAt book o (node_in u.env x) (node_in step.env x)) (sym (same t.env d1 (ap (λ (v : Scheme). v.env) says.concludes) x))
                  (subst (λ o. IsMeetAt book (env.get d1 x) o (node_in step.env x)) (sym (same u.env d2 (ap (λ (v : Scheme). v.env) says'.concludes) x))
                  (subst (λ o. IsMeetAt book (env.get d1 x) (env.get d2 x) o) (env_get step.env x) (meet x))),
            )),
      )
    where
      same : (es : List BinderNode) (d : Env) → env_of es ≡ d → (x : ℕ) → node_in es x ≡ env.get d x
      same es d is x = sym (env_get es x) ∙ ap (λ d. env.get d x) is
