-- A test under a substitution is a plain test. So the order stays under every substitution.
--     pull             the test that asks of these variables what `v` says of them
--     pulled           a predicate at the pulled test; it goes through joins, meets, functions and records
--     passes-pulled    what a node passes under `v` is what it passes of the pulled test
--     Implies-stays    an order of nodes stays under every reading of variables
use Rattle.std.proofs.Common.{◌≡◌, ℕ, suc, arith, Bool, true, false, not, ◌&&◌, ◌==◌, List, [], ◌++◌, refl, sym, ap, ◌∙◌, Some, None}
use Rattle.std.specs.Prelude.{filter, max, Option, option_map, is_none}
use Rattle.std.proofs.lemmas.Bool.{eqb-true}
use Rattle.std.proofs.lemmas.Map.Views.{any-filter_same}
use Rattle.mls_book.specs.declared.book.Field.{Field}
use Rattle.mls_book.specs.declared.book.Node.{Node}
use Rattle.mls_book.specs.Books.{field_at}
use Rattle.mls_book.specs.Tests.{Test, test, depth, function_depth, record_depth, FunctionPart, never_function, always_function, dom, cod, RecordPart, never_record, always_record, lacks, at}
use Rattle.mls_book.specs.Predicates.{Predicate, Implies, bot, top, var, bool, int, arrow, field_answer, rcd, join, meet}
use Rattle.mls_book.specs.Passes.{answer_below, passes, passes_by, function_passes, record_passes, field_passes}
use Rattle.mls_book.specs.Order.{IsBelow}
use Rattle.mls_book.proofs.Depths.{ImpliesTo}
use Rattle.mls_book.proofs.Heads.{IsWider, passes_wider}
use Rattle.mls_book.proofs.Variables.{variables_of, has, has_left, has_right, passes_by-agree}

module _ (v : ℕ → Predicate) (names : List ℕ) where
  abbrev mutual
    pub pull : Test → Test
    pull (test vars p q function record_part) = test (filter (λ x. v x (test vars p q function record_part)) names) p q (pull_function function) (pull_record record_part)

    pub pull_function : FunctionPart → FunctionPart
    pull_function never_function = never_function
    pull_function always_function = always_function
    pull_function (dom t) = dom (pull t)
    pull_function (cod t) = cod (pull t)

    pub pull_record : RecordPart → RecordPart
    pull_record never_record = never_record
    pull_record always_record = always_record
    pull_record (lacks label) = lacks label
    pull_record (at label t) = at label (pull t)

  abbrev pub pulled : Predicate → Predicate
  pulled f t = f (pull t)

  mutual
    -- it is as deep
    pub depth-pull : (t : Test) → depth (pull t) ≡ depth t
    depth-pull (test vars p q function record_part) = λ i. max (depth-pull_function function i) (depth-pull_record record_part i)

    pub depth-pull_function : (part : FunctionPart) → function_depth (pull_function part) ≡ function_depth part
    depth-pull_function never_function = refl
    depth-pull_function always_function = refl
    depth-pull_function (dom t) = ap suc (depth-pull t)
    depth-pull_function (cod t) = ap suc (depth-pull t)

    pub depth-pull_record : (part : RecordPart) → record_depth (pull_record part) ≡ record_depth part
    depth-pull_record never_record = refl
    depth-pull_record always_record = refl
    depth-pull_record (lacks label) = refl
    depth-pull_record (at label t) = ap suc (depth-pull t)

  -- an order stays at pulled tests
  pub Implies-pulled : (f g : Predicate) → Implies f g → Implies (pulled f) (pulled g)
  Implies-pulled f g below t e = below (pull t) e

  pub ImpliesTo-pulled : (d : ℕ) (f g : Predicate) → ImpliesTo d f g → ImpliesTo d (pulled f) (pulled g)
  ImpliesTo-pulled d f g below t low e = let even : depth (pull t) ≡ depth t = depth-pull t in below (pull t) (omega arith) e

  -- a pulled type is one by pulled parts
  pub pulled-bot : pulled bot ≡ bot
  pulled-bot = refl

  pub pulled-top : pulled top ≡ top
  pulled-top = refl

  pub pulled-join : (f g : Predicate) → pulled (join f g) ≡ join (pulled f) (pulled g)
  pulled-join f g = refl

  pub pulled-meet : (f g : Predicate) → pulled (meet f g) ≡ meet (pulled f) (pulled g)
  pulled-meet f g = refl

  pub pulled-bool : pulled bool ≡ bool
  pulled-bool = λ i t. at_test t i
    where
      at_test : (t : Test) → pulled bool t ≡ bool t
      at_test (test vars p q function fields) = refl

  pub pulled-int : pulled int ≡ int
  pulled-int = λ i t. at_test t i
    where
      at_test : (t : Test) → pulled int t ≡ int t
      at_test (test vars p q function fields) = refl

  pub pulled-arrow : (f g : Predicate) → pulled (arrow f g) ≡ arrow (pulled f) (pulled g)
  pulled-arrow f g = λ i t. at_test t i
    where
      at_test : (t : Test) → pulled (arrow f g) t ≡ arrow (pulled f) (pulled g) t
      at_test (test vars p q never_function fields) = refl
      at_test (test vars p q always_function fields) = refl
      at_test (test vars p q (dom t) fields) = refl
      at_test (test vars p q (cod t) fields) = refl

  is_none-pulled : (o : Option Predicate) → is_none o ≡ is_none (option_map pulled o)
  is_none-pulled None = refl
  is_none-pulled (Some f) = refl

  field_answer-pulled : (o : Option Predicate) (t : Test) → field_answer o (pull t) ≡ field_answer (option_map pulled o) t
  field_answer-pulled None t = refl
  field_answer-pulled (Some f) t = refl

  pub pulled-rcd : (fs : List ℕ → Option Predicate) → pulled (rcd fs) ≡ rcd (λ label. option_map pulled (fs label))
  pulled-rcd fs = λ i t. at_test t i
    where
      at_test : (t : Test) → pulled (rcd fs) t ≡ rcd (λ label. option_map pulled (fs label)) t
      at_test (test vars p q function never_record) = refl
      at_test (test vars p q function always_record) = refl
      at_test (test vars p q function (lacks label)) = is_none-pulled (fs label)
      at_test (test vars p q function (at label t)) = field_answer-pulled (fs label) t

  -- a node at pulled tests is the node with its variables pulled
  module _ (w : ℕ → Predicate) (b : List Node) where
    abbrev w' : ℕ → Predicate
    w' x = pulled (w x)

    mutual
      unfolding passes_by

      pulled_at : (t : Test) (i : ℕ) → passes_by w b i (pull t) ≡ passes_by w' b i t
      pulled_at (test vars p q function fields) i =
          λ k. answer_below record {
            variable = λ x. w x (pull (test vars p q function fields));
            boolean = p;
            integer = q;
            function = λ j l. pulled_function function j l k;
            fields = λ all. pulled_record fields all k;
          } b (suc i) i

      pulled_function : (part : FunctionPart) (j k : ℕ) → function_passes w b (pull_function part) j k ≡ function_passes w' b part j k
      pulled_function never_function j k = refl
      pulled_function always_function j k = refl
      pulled_function (dom t) j k = ap not (pulled_at t j)
      pulled_function (cod t) j k = pulled_at t k

      pulled_record : (part : RecordPart) (fields : List Field) → record_passes w b (pull_record part) fields ≡ record_passes w' b part fields
      pulled_record never_record fields = refl
      pulled_record always_record fields = refl
      pulled_record (lacks label) fields = refl
      pulled_record (at label t) fields = λ k. field_passes (λ i. pulled_at t i k) (field_at label fields)

    pub passes_by-pulled : (i : ℕ) → pulled (passes_by w b i) ≡ passes_by w' b i
    passes_by-pulled i = λ k t. pulled_at t i k

  and_true : (p q : Bool) → q ≡ true → (p && q) ≡ p
  and_true true q e = e
  and_true false q e = refl

  has-filter : (x : ℕ) (p : ℕ → Bool) → has x names ≡ true → has x (filter p names) ≡ p x
  unfolding has
  has-filter x p e = any-filter_same (λ y. y == x) p (p x) (λ k same. ap p (eqb-true k x same)) names ∙ and_true (p x) _ e

  -- a variable of the list at pulled tests is as `v` says
  pub pulled-var : (x : ℕ) → has x names ≡ true → pulled (var x) ≡ v x
  unfolding has
  pulled-var x known = λ i t. at_test t i
    where
      at_test : (t : Test) → pulled (var x) t ≡ v x t
      at_test (test vars p q function fields) = has-filter x (λ y. v y (test vars p q function fields)) known

  -- so a plain node, whose variables are of the list, at pulled tests is the node under `v`
  pub passes-pulled : (b : List Node) → ((x : ℕ) → has x (variables_of b) ≡ true → has x names ≡ true) → (i : ℕ) → pulled (passes b i) ≡ passes_by v b i
  passes-pulled b known i =
      passes_by-pulled var b i
      ∙ (λ k. passes_by-agree (λ x. pulled (var x)) v b (λ x h. pulled-var x (known x h)) k i)

-- an order of two nodes under two readings stays where both readings are pulled
pub Implies_by-pulled : (v : ℕ → Predicate) (names : List ℕ) (w u : ℕ → Predicate) (b c : List Node) (i j : ℕ) → Implies (passes_by w b i) (passes_by u c j) → Implies (passes_by (λ x. pulled v names (w x)) b i) (passes_by (λ x. pulled v names (u x)) c j)
Implies_by-pulled v names w u b c i j below t e =
    (λ k. sym (passes_by-pulled v names u c j) k t)
    ∙ below (pull v names t) ((λ k. passes_by-pulled v names w b i k t) ∙ e)

-- an order of two nodes stays under every reading of variables
pub Implies-stays : (v : ℕ → Predicate) (b c : List Node) (i j : ℕ) → IsBelow b i c j → Implies (passes_by v b i) (passes_by v c j)
Implies-stays v b c i j below t e =
    let names : List ℕ = variables_of b ++ variables_of c in
    (λ k. sym (passes-pulled v names c (λ x. has_right x (variables_of b) (variables_of c)) j) k t)
    ∙ below (pull v names t) ((λ k. passes-pulled v names b (λ x. has_left x (variables_of b) (variables_of c)) i k t) ∙ e)

-- a plain test that names no variable is passed under every reading of variables, where its parts are kept as they are
pub passes_stays : (v : ℕ → Predicate) (b : List Node) (i : ℕ) (p q : Bool) (function : FunctionPart) (fields : RecordPart) → pull_function v (variables_of b) function ≡ function → pull_record v (variables_of b) fields ≡ fields → passes b i (test [] p q function fields) ≡ true → passes_by v b i (test [] p q function fields) ≡ true
passes_stays v b i p q function fields same same' e =
    let names : List ℕ = variables_of b in
    let bare : Test = test [] p q function fields in
    let wide : Test = test (filter (λ x. v x bare) names) p q function fields in
    let wider : IsWider var bare wide = record {
      variables = λ x h. absurd (cc);
      booleans = λ h. h;
      integers = λ h. h;
      functions = λ f g h. h;
      records = λ fs h. h;
    } in
    (λ k. sym (passes-pulled v names b (λ x h. h) i) k bare)
    ∙ ((λ k. passes b i (test (filter (λ x. v x bare) names) p q (same k) (same' k)))
    ∙ passes_wider var b bare wide wider i e)
