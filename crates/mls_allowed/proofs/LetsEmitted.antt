-- The row of a let in a part: the rule of the let, and a step by which the part's binders have again the nodes of their states. In this
-- step the variables of the first part's type stand for nodes of a copy, as at a use of the name; nodes without such a variable are still
-- below themselves.
--     free_justified      a node without a variable that stands for another node
--     let_part
use Rattle.std.proofs.Common.{◌≡◌, ℕ, true, false, List, [], refl, sym, ◌∙◌, subst, Option, Some, None}
use Rattle.std.specs.FinMap as env
use Rattle.std.specs.Ordering.{nat_cmp}
use Rattle.mls_book.specs.declared.book.Node.{Node}
use Rattle.mls_book.specs.declared.book.Node.TheVariants as node
use Rattle.mls_book.specs.Books.{node_at}
use Rattle.mls_book.specs.Schemes.{Env}
use Rattle.mls_book.proofs.Children.{at_found}
use Rattle.mls_automaton.specs.declared.automaton.Polarity.TheVariants.{Negative}
use Rattle.mls_automaton.specs.Automata.{Automaton}
use Rattle.mls_term.specs.declared.term.TermForm.TheVariants as form
use Rattle.mls_term.specs.Derivations.{IsMeetAt, IsMeet}
use Rattle.mls_deriv.specs.declared.derivation.BinderNode.{BinderNode}
use Rattle.mls_deriv.specs.declared.derivation.Mode.{Mode}
use Rattle.mls_deriv.specs.declared.derivation.Mode.TheVariants.{Lr, Rl, Pp}
use Rattle.mls_deriv.specs.declared.derivation.StepLine.{StepLine}
use Rattle.mls_deriv.specs.declared.derivation.StepRule.TheVariants as rule
use Rattle.mls_deriv.specs.Pairs.{put_at, left_put, right_put, exchanged, IsJustified, bot_below, below_top, join_below, below_meet, same_bool, same_int, same_variable, functions, records}
use Rattle.mls_deriv.specs.declared.claim.Put.{Put}
use Rattle.mls_deriv.specs.Steps.{env_of, form_at, Before, Says, let_in}
use Rattle.mls_layout.specs.Shown.{IsShown, based, claimed, meet_right, meet_first, meet_second, join_first, join_second, AreShown}
use Rattle.mls_layout.specs.Layouts.{IsLayout}
use Rattle.mls_layout.specs.Uses.{IsCopyOf, NamesOnly, AreFree, IsUseClaim, above_copy, NoClaim}
use Rattle.mls_layout.specs.Runs.{a_step}
use Rattle.mls_layout.specs.Rows.{at, concluded, Fits, HasRow}
use Rattle.mls_allowed.proofs.MoreClaims.{shown_more}
use Rattle.mls_allowed.proofs.Rows.{row_step, row_after}
use Rattle.mls_allowed.proofs.UseClaims.{use_shown}
use Rattle.mls_allowed.proofs.UseRows.{put_row}

-- such a node and itself
abbrev pub IsFreeItself : (ℕ → Type 0) → Mode → ℕ → ℕ → Type 0
IsFreeItself Free mode i j = Free i × (i ≡ j)

module _ (book : List Node) (puts : List Put) (Free : ℕ → Type 0) (free : AreFree book puts Free) (claims : Mode → ℕ → ℕ → Type 0) where
  abbrev Shown : Mode → ℕ → ℕ → Type 0
  Shown = IsShown book puts (IsFreeItself Free) claims true

  no_left : (mode : Mode) (x : ℕ) → put_at puts x ≡ None → left_put mode puts x ≡ None
  no_left Lr x e = e
  no_left Rl x e = refl
  no_left Pp x e = refl

  no_right : (mode : Mode) (x : ℕ) → put_at puts x ≡ None → right_put mode puts x ≡ None
  no_right Lr x e = refl
  no_right Rl x e = e
  no_right Pp x e = refl

  itself : (mode : Mode) (i : ℕ) → Free i → Shown mode i i
  itself mode i it = based (it, refl)

  pub free_justified : (mode : Mode) (i : ℕ) → Free i → IsJustified book puts Shown mode i i
  free_justified mode i it = go (node_at book i) refl
    where
      children : (n : Node) → node_at book i ≡ n → NamesOnly Free n
      children n e = subst (NamesOnly Free) e (free.children i it)

      go : (n : Node) → node_at book i ≡ n → IsJustified book puts Shown mode i i
      go node.Bot e = bot_below e
      go node.Top e = below_top e
      go (node.Var x) e = same_variable x e e (no_left mode x (free.variables i x it e)) (no_right mode x (free.variables i x it e))
      go node.Bool e = same_bool e e
      go node.Int e = same_int e e
      go (node.Arrow j k) e = let c = children (node.Arrow j k) e in functions j k j k e e (itself (exchanged mode) j.0 c.0) (itself mode k.0 c.1)
      go (node.Rcd fields) e =
          records fields fields e e (λ label k found. (k, found, itself mode k.0 (at_found Free label fields (children (node.Rcd fields) e) k found)))
      go (node.Join j k) e =
          let c = children (node.Join j k) e in
          join_below j k e (join_first j k e (itself mode j.0 c.0)) (join_second j k e (itself mode k.0 c.1))
      go (node.Meet j k) e =
          let c = children (node.Meet j k) e in
          below_meet j k e (meet_first j k e (itself mode j.0 c.0)) (meet_second j k e (itself mode k.0 c.1))

  pub with_itself : AreShown book puts NoClaim claims → AreShown book puts (IsFreeItself Free) claims
  with_itself shown = record {
    basic = λ mode i j h. subst (IsJustified book puts Shown mode i) h.1 (free_justified mode i h.0);
    others = λ mode i j h. shown_more book puts NoClaim claims (IsFreeItself Free) claims (λ m k l it. absurd it) (λ m k l it. it) false mode i j (shown.others mode i j h);
  }

module _ (b : Before) (a type_of_part : Automaton) (R IsPair : ℕ → ℕ → Type 0) (place part_place : ℕ → ℕ) (layout : IsLayout b.book a type_of_part R IsPair place part_place)
    (IsPlace : ℕ → Type 0) (root : ℕ) (it : IsCopyOf b.book a place IsPlace root)
    (Free : ℕ → Type 0) (free : AreFree b.book it.puts Free) where
  abbrev Claims : Mode → ℕ → ℕ → Type 0
  Claims = IsUseClaim IsPlace it.sign place it.known_place it.copy

  abbrev LetShown : Mode → ℕ → ℕ → Type 0
  LetShown = IsShown b.book it.puts (IsFreeItself Free) Claims true

  pub let_shown : AreShown b.book it.puts (IsFreeItself Free) Claims
  let_shown = with_itself b.book it.puts Free free Claims (use_shown b.book a type_of_part R IsPair place part_place layout IsPlace it.sign it.known_place it.copy it.type it.puts it.are)

  -- The first part has its type at the step of its let line; its binders have the nodes of states of its type, whose copies are the states
  -- of the binders. Then the second part's step, in the environment `d`.
  pub let_part : (steps : List StepLine) (first second e k f g : ℕ) (d1 : Env) (t1 t : ℕ) (both d : List BinderNode)
      → form_at b.term_nodes e ≡ Some (form.Let k f g) → env.find nat_cmp k b.lets ≡ Some first → IsMeet b.book d1 (env_of d) (env_of both)
      → Says (at b steps) first f (concluded b d1 t1) → Says (at b steps) second g (concluded b (env_of d) t)
      → Fits b both t → Fits b d t → Free t → ((x n : ℕ) → env.get (env_of d) x ≡ Some n → Free n)
      → ((x i : ℕ) → env.get d1 x ≡ Some i → (s : ℕ) × (i ≡ it.known_place s) × IsPlace s × (it.sign s ≡ Negative) × (env.get (env_of d) x ≡ Some (place (it.copy s))))
      → HasRow b steps e (env_of d) t
  let_part steps first second e k f g d1 t1 t both d is_form found meet says1 says2 is_both is_d free_t free_d binders =
      let row =
      row_step b steps (a_step e (rule.Let first second) both t) []
      (λ pairs list. record { in_range = is_both.scheme; rising = is_both.rising; by_rule = let_in first second k f g d1 (env_of d) t1 refl is_form found meet says1 says2 }) in
      row_after b steps row.more e (env_of d) t row.leads
      (put_row b it.puts it.low (IsFreeItself Free) Claims let_shown row.more row.number e (env_of both) t d t row.says is_both.scheme is_d (based (free_t, refl))
      (λ x n at_x. above x n (env.get d1 x) (env.get (env_of d) x) (env.get (env_of both) x) refl refl at_x (meet x)))
    where
      Found : ℕ → ℕ → Type 0
      Found x n = (m : ℕ) × (env.get (env_of d) x ≡ Some m) × LetShown Rl m n

      from_copy : (x i j n : ℕ) → env.get (env_of d) x ≡ Some j → node_at b.book n ≡ node.Meet (record { 0 = i }) (record { 0 = j })
          → ((s : ℕ) × (i ≡ it.known_place s) × IsPlace s × (it.sign s ≡ Negative) × (env.get (env_of d) x ≡ Some (place (it.copy s)))) → Found x n
      from_copy x i j n is_j is_meet (s, is_i, at_s, is_s, at_copy) =
          let same_j : place (it.copy s) ≡ j = (let h : Some (place (it.copy s)) ≡ Some j = sym at_copy ∙ is_j in cc) in (
            j,
            is_j,
            meet_right (record { 0 = i }) (record { 0 = j }) is_meet (claimed refl (above_copy s at_s is_s refl same_j (sym is_i))) (based (free_d x j is_j, refl)),
          )

      above : (x n : ℕ) (l r o : Option ℕ) → env.get d1 x ≡ l → env.get (env_of d) x ≡ r → o ≡ Some n → IsMeetAt b.book l r o → Found x n
      above x n None r o is_l is_r is_n met =
          let at_x : env.get (env_of d) x ≡ Some n = is_r ∙ (sym met ∙ is_n) in
          (n, at_x, based (free_d x n at_x, refl))
      above x n (Some i) None o is_l is_r is_n met = let there = (binders x i is_l).4 in absurd (cc)
      above x n (Some i) (Some j) o is_l is_r is_n (m, is_m, is_meet) =
          let same_n : m ≡ n = (let h : Some m ≡ Some n = sym is_m ∙ is_n in cc) in
          from_copy x i j n is_r (subst (λ z. node_at b.book z ≡ node.Meet (record { 0 = i }) (record { 0 = j })) same_n is_meet) (binders x i is_l)
