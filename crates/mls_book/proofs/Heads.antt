-- One test for each head tells nodes with different heads apart, and is the least that a variable, `bool` or `int` passes.
use Rattle.std.proofs.Common.{rules, ◌≡◌, ◌⊎◌, inl, inr, ℕ, zero, suc, Bool, true, false, ◌||◌, ◌==◌, List, [], ◌∷◌, refl, sym, ap, ◌∙◌, subst, arith, Some}
use Rattle.std.specs.Prelude.{◌≢◌, Option}
use Rattle.std.proofs.lemmas.Bool.{eqb-true}
use Rattle.std.proofs.Math.Bool.{or-false}
use Rattle.std.proofs.lemmas.Grind.{common_steps}
use Rattle.std.proofs.lemmas.Bool.Decides.{nat_tests}
use Rattle.mls_book.specs.declared.book.Node.{Node}
use Rattle.mls_book.specs.declared.book.Node.TheVariants as node
use Rattle.mls_book.specs.Books.{node_at, IsBook}
use Rattle.mls_book.specs.Tests.{Test, test, never_function, always_function, never_record, always_record}
use Rattle.mls_book.specs.Predicates.{Predicate, var, bool, int, arrow, rcd, Implies, bot, top}
use Rattle.mls_book.specs.Passes.{answer, answer_below, passes, passes_by, node_value, field_values}
use Rattle.mls_book.specs.Order.{IsBelow}
use Rattle.mls_book.specs.Laws.{Head, variable, boolean, integer, function, fields, head_of, FunctionNotBot, TopNotFunction, HeadsUnlike, IsPrime, PrimeInJoin}
use Rattle.mls_book.proofs.Table.{answers_of, function_passes-answer, record_passes-answer, passes_by-value, value-bot, value-top, value-join}
use Rattle.mls_book.proofs.Lattice.{or_left, or_right, or_cases, and_left, and_right, and_both}

-- the test that this head alone passes
abbrev pub test_of : Head → Test
test_of (variable x) = test (x ∷ []) false false never_function never_record
test_of boolean = test [] true false never_function never_record
test_of integer = test [] false true never_function never_record
test_of function = test [] false false always_function never_record
test_of fields = test [] false false never_function always_record

abbrev pub same_head : Head → Head → Bool
same_head (variable x) (variable y) = y == x
same_head boolean boolean = true
same_head integer integer = true
same_head function function = true
same_head fields fields = true
same_head _ _ = false

pub same_head-self : (h : Head) → same_head h h ≡ true
same_head-self (variable x) = search (rules, common_steps)
same_head-self boolean = refl
same_head-self integer = refl
same_head-self function = refl
same_head-self fields = refl

pub same_head-true : (h k : Head) → same_head h k ≡ true → h ≡ k
same_head-true (variable x) (variable y) e = ap variable (grind (arith, nat_tests))
same_head-true boolean boolean e = refl
same_head-true integer integer e = refl
same_head-true function function e = refl
same_head-true fields fields e = refl
same_head-true _ _ e = cc

-- the test that asks for nothing
abbrev pub empty_test : Test
empty_test = test [] false false never_function never_record

-- the predicate answers the tests of heads as this head alone does
pub record HasHead (h : Head) (f : Predicate) : Type 0 where
  pub answers : (k : Head) → f (test_of k) ≡ same_head h k
  pub empty : f empty_test ≡ false

pub HasHead-var : (x : ℕ) → HasHead (variable x) (var x)
HasHead-var x = record { answers = go; empty = refl }
  where
    go : (k : Head) → var x (test_of k) ≡ same_head (variable x) k
    go (variable y) = or-false (y == x)
    go boolean = refl
    go integer = refl
    go function = refl
    go fields = refl

pub HasHead-bool : HasHead boolean bool
HasHead-bool = record { answers = go; empty = refl }
  where
    go : (k : Head) → bool (test_of k) ≡ same_head boolean k
    go (variable y) = refl
    go boolean = refl
    go integer = refl
    go function = refl
    go fields = refl

pub HasHead-int : HasHead integer int
HasHead-int = record { answers = go; empty = refl }
  where
    go : (k : Head) → int (test_of k) ≡ same_head integer k
    go (variable y) = refl
    go boolean = refl
    go integer = refl
    go function = refl
    go fields = refl

pub HasHead-arrow : (f g : Predicate) → HasHead function (arrow f g)
HasHead-arrow f g = record { answers = go; empty = refl }
  where
    go : (k : Head) → arrow f g (test_of k) ≡ same_head function k
    go (variable y) = refl
    go boolean = refl
    go integer = refl
    go function = refl
    go fields = refl

pub HasHead-rcd : (fs : List ℕ → Option Predicate) → HasHead fields (rcd fs)
HasHead-rcd fs = record { answers = go; empty = refl }
  where
    go : (k : Head) → rcd fs (test_of k) ≡ same_head fields k
    go (variable y) = refl
    go boolean = refl
    go integer = refl
    go function = refl
    go fields = refl

-- unlike heads are not in order, and a head is neither below `bot` nor above `top`
pub unlike_heads : (h k : Head) (f g : Predicate) → HasHead h f → HasHead k g → h ≢ k → Implies f g → ⊥
unlike_heads h k f g is_f is_g ne below =
    ne (sym (same_head-true k h (sym (is_g.answers h) ∙ below (test_of h) (is_f.answers h ∙ same_head-self h))))

pub head_not_bot : (h : Head) (f : Predicate) → HasHead h f → Implies f bot → ⊥
head_not_bot h f is below = let passed : false ≡ true = below (test_of h) (is.answers h ∙ same_head-self h) in absurd (cc)

pub top_not_head : (h : Head) (f : Predicate) → HasHead h f → Implies top f → ⊥
top_not_head h f is below =
    let passed : f empty_test ≡ true = below empty_test refl in
    let failed : f empty_test ≡ false = is.empty in
    absurd (cc)

-- a node with a head has it
HasHead-node : (f : ℕ → Predicate) (x : Node) (h : Head) → head_of x ≡ Some h → HasHead h (node_value var f x)
HasHead-node f node.Bot h e = absurd (cc)
HasHead-node f node.Top h e = absurd (cc)
HasHead-node f (node.Var x) h e = let same : variable x ≡ h = cc in subst (λ h. HasHead h (var x)) same (HasHead-var x)
HasHead-node f node.Bool h e = let same : boolean ≡ h = cc in subst (λ h. HasHead h bool) same HasHead-bool
HasHead-node f node.Int h e = let same : integer ≡ h = cc in subst (λ h. HasHead h int) same HasHead-int
HasHead-node f (node.Arrow j k) h e = let same : function ≡ h = cc in subst (λ h. HasHead h (arrow (f j.0) (f k.0))) same (HasHead-arrow (f j.0) (f k.0))
HasHead-node f (node.Rcd all) h e = let same : fields ≡ h = cc in subst (λ h. HasHead h (rcd (field_values f all))) same (HasHead-rcd (field_values f all))
HasHead-node f (node.Join j k) h e = absurd (cc)
HasHead-node f (node.Meet j k) h e = absurd (cc)

pub HasHead-passes : (b : List Node) → IsBook b → (n : ℕ) (h : Head) → head_of (node_at b n) ≡ Some h → HasHead h (passes b n)
HasHead-passes b book n h e = subst (HasHead h) (sym (passes_by-value var b book n)) (HasHead-node (passes b) (node_at b n) h e)

pub heads_unlike : HeadsUnlike
heads_unlike b c n m h k closed closed' is_h is_k ne below =
    unlike_heads h k (passes b n) (passes c m) (HasHead-passes b closed.book n h is_h) (HasHead-passes c closed'.book m k is_k) ne below

pub function_not_bot : FunctionNotBot
function_not_bot b c n m i j closed closed' low is_arrow is_top is_bot is_m below =
    head_not_bot function (passes b n) (HasHead-passes b closed.book n function (ap head_of is_arrow))
    (subst (Implies (passes b n)) (value-bot var c closed'.book m is_m) below)

pub top_not_function : TopNotFunction
top_not_function b c n m i j closed closed' is_top is_arrow is_bot is_top' below =
    top_not_head function (passes c m) (HasHead-passes c closed'.book m function (ap head_of is_arrow))
    (subst (λ f. Implies f (passes c m)) (value-top var b closed.book n is_top) below)

-- what passes the first test passes the second, of the nodes that are no join and no meet
pub record IsWider (v : ℕ → Predicate) (s t : Test) : Type 0 where
  pub variables : (x : ℕ) → v x s ≡ true → v x t ≡ true
  pub booleans : bool s ≡ true → bool t ≡ true
  pub integers : int s ≡ true → int t ≡ true
  pub functions : (f g : Predicate) → arrow f g s ≡ true → arrow f g t ≡ true
  pub records : (fs : List ℕ → Option Predicate) → rcd fs s ≡ true → rcd fs t ≡ true

-- then it does so of each node
module _ (v : ℕ → Predicate) (b : List Node) where
  wider_node : (s t : Test) → IsWider v s t → (c d : ℕ → Bool) → ((j : ℕ) → c j ≡ true → d j ≡ true) → (x : Node) → answer (answers_of v b s) c x ≡ true → answer (answers_of v b t) d x ≡ true
  wider_node s t wider c d more node.Bot e = e
  wider_node s t wider c d more node.Top e = e
  wider_node (test vars p q part record_part) (test vars' p' q' part' record_part') wider c d more (node.Var x) e = wider.variables x e
  wider_node (test vars p q part record_part) (test vars' p' q' part' record_part') wider c d more node.Bool e = wider.booleans e
  wider_node (test vars p q part record_part) (test vars' p' q' part' record_part') wider c d more node.Int e = wider.integers e
  wider_node (test vars p q part record_part) (test vars' p' q' part' record_part') wider c d more (node.Arrow j k) e =
      function_passes-answer v b part' j.0 k.0
      ∙ wider.functions (passes_by v b j.0) (passes_by v b k.0) (sym (function_passes-answer v b part j.0 k.0) ∙ e)
  wider_node (test vars p q part record_part) (test vars' p' q' part' record_part') wider c d more (node.Rcd all) e =
      record_passes-answer v b record_part' all
      ∙ wider.records (field_values (passes_by v b) all) (sym (record_passes-answer v b record_part all) ∙ e)
  wider_node s t wider c d more (node.Join j k) e =
      elim (or_cases (c j.0) (c k.0) e) [
        | inl h ↦ or_left (d j.0) (d k.0) (more j.0 h)
        | inr h ↦ or_right (d j.0) (d k.0) (more k.0 h)
      ]
  wider_node s t wider c d more (node.Meet j k) e =
      and_both (d j.0) (d k.0) (more j.0 (and_left (c j.0) (c k.0) e)) (more k.0 (and_right (c j.0) (c k.0) e))

  wider_below : (s t : Test) → IsWider v s t → (n i : ℕ) → answer_below (answers_of v b s) b n i ≡ true → answer_below (answers_of v b t) b n i ≡ true
  unfolding answer_below
  wider_below s t wider zero i e = e
  wider_below s t wider (suc n) i e =
      wider_node s t wider (answer_below (answers_of v b s) b n) (answer_below (answers_of v b t) b n) (wider_below s t wider n) (node_at b i) e

  pub passes_wider : (s t : Test) → IsWider v s t → (i : ℕ) → passes_by v b i s ≡ true → passes_by v b i t ≡ true
  unfolding passes_by
  passes_wider (test vars p q part record_part) (test vars' p' q' part' record_part') wider i e =
      wider_below (test vars p q part record_part) (test vars' p' q' part' record_part') wider (suc i) i e

-- a test that a variable, `bool` or `int` passes is wider than the test of its head
wider_var : (x : ℕ) (t : Test) → var x t ≡ true → IsWider var (test_of (variable x)) t
wider_var x t e = record {
  variables = λ y g. let same : x ≡ y = eqb-true x y (sym (or-false (x == y)) ∙ g) in (λ k. var (sym same k) t) ∙ e;
  booleans = λ g. absurd (cc);
  integers = λ g. absurd (cc);
  functions = λ f g h. absurd (cc);
  records = λ fs g. absurd (cc);
}

wider_bool : (t : Test) → bool t ≡ true → IsWider var (test_of boolean) t
wider_bool t e = record {
  variables = λ y g. absurd (cc);
  booleans = λ g. e;
  integers = λ g. absurd (cc);
  functions = λ f g h. absurd (cc);
  records = λ fs g. absurd (cc);
}

wider_int : (t : Test) → int t ≡ true → IsWider var (test_of integer) t
wider_int t e = record {
  variables = λ y g. absurd (cc);
  booleans = λ g. absurd (cc);
  integers = λ g. e;
  functions = λ f g h. absurd (cc);
  records = λ fs g. absurd (cc);
}

-- so it is below just those nodes that pass the test of its head
pub var-least : (x : ℕ) (b : List Node) (i : ℕ) → passes b i (test_of (variable x)) ≡ true → Implies (var x) (passes b i)
var-least x b i passed t e = passes_wider var b (test_of (variable x)) t (wider_var x t e) i passed

pub bool-least : (b : List Node) (i : ℕ) → passes b i (test_of boolean) ≡ true → Implies bool (passes b i)
bool-least b i passed t e = passes_wider var b (test_of boolean) t (wider_bool t e) i passed

pub int-least : (b : List Node) (i : ℕ) → passes b i (test_of integer) ≡ true → Implies int (passes b i)
int-least b i passed t e = passes_wider var b (test_of integer) t (wider_int t e) i passed

-- the test of the head of such a node
abbrev prime_head : Node → Head
prime_head (node.Var x) = variable x
prime_head node.Bool = boolean
prime_head _ = integer

head_of-prime : (x : Node) → IsPrime x → head_of x ≡ Some (prime_head x)
head_of-prime (node.Var x) prime = refl
head_of-prime node.Bool prime = refl
head_of-prime node.Int prime = refl
head_of-prime _ prime = absurd prime

prime-least : (f : ℕ → Predicate) (x : Node) → IsPrime x → (c : List Node) (m : ℕ) → passes c m (test_of (prime_head x)) ≡ true → Implies (node_value var f x) (passes c m)
prime-least f (node.Var x) prime c m passed = var-least x c m passed
prime-least f node.Bool prime c m passed = bool-least c m passed
prime-least f node.Int prime c m passed = int-least c m passed
prime-least f _ prime c m passed = absurd prime

pub prime_in_join : PrimeInJoin
prime_in_join b c p n i j closed closed' prime is_join = (forth, back)
  where
    its : Test
    its = test_of (prime_head (node_at b p))

    at_join : (t : Test) → passes c n t ≡ (passes c i.0 t || passes c j.0 t)
    at_join t = λ k. value-join var c closed'.book n i j is_join k t

    passed : passes b p (test_of (prime_head (node_at b p))) ≡ true
    passed =
        let h : Head = prime_head (node_at b p) in
        (HasHead-passes b closed.book p h (head_of-prime (node_at b p) prime)).answers h ∙ same_head-self h

    below_where : (m : ℕ) → passes c m (test_of (prime_head (node_at b p))) ≡ true → IsBelow b p c m
    below_where m h = subst (λ f. Implies f (passes c m)) (sym (passes_by-value var b closed.book p)) (prime-least (passes b) (node_at b p) prime c m h)

    forth : IsBelow b p c n → IsBelow b p c i.0 ⊎ IsBelow b p c j.0
    forth below =
        elim (or_cases (passes c i.0 its) (passes c j.0 its) (sym (at_join its) ∙ below its passed)) [
          | inl e ↦ inl (below_where i.0 e)
          | inr e ↦ inr (below_where j.0 e)
        ]

    back : IsBelow b p c i.0 ⊎ IsBelow b p c j.0 → IsBelow b p c n
    back (inl f) t e = at_join t ∙ or_left (passes c i.0 t) (passes c j.0 t) (f t e)
    back (inr f) t e = at_join t ∙ or_right (passes c i.0 t) (passes c j.0 t) (f t e)
