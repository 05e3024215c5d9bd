-- A derivation of `fun x -> x` at `a -> a`, as an example of allowed steps, and one that lacks a pair.
use Rattle.std.proofs.Common.{◌≡◌, inl, inr, ℕ, zero, suc, ◌+◌, ◌<◌, List, [], ◌∷◌, refl, sym, ap, subst, arith, None}
use Rattle.std.specs.FinMap as env
use Rattle.std.specs.FinMap.{get-empty}
use Rattle.std.specs.Ordering.{nat_cmp}
use Rattle.std.proofs.lemmas.List.Elements.{All-cons, All-nil, All-contains}
use Rattle.mls_book.specs.declared.book.NodeId.{NodeId}
use Rattle.mls_book.specs.declared.book.Node.{Node}
use Rattle.mls_book.specs.declared.book.Node.TheVariants as node
use Rattle.mls_book.specs.Books.{node_at, IsClosedBook}
use Rattle.mls_book.specs.Schemes.{Scheme}
use Rattle.mls_book.proofs.LongerBooks.{IsGood, closed_from}
use Rattle.mls_term.specs.declared.term.TermNode.{TermNode}
use Rattle.mls_term.specs.declared.term.TermForm.TheVariants as form
use Rattle.mls_term.proofs.Environments.{one, get-one, remove-one, is_scheme-empty, is_scheme-one}
use Rattle.mls_deriv.specs.declared.derivation.Mode.{Mode}
use Rattle.mls_deriv.specs.declared.derivation.Mode.TheVariants.{Lr, Rl}
use Rattle.mls_deriv.specs.declared.derivation.BinderNode.{BinderNode}
use Rattle.mls_deriv.specs.declared.derivation.SectionLine.{SectionLine}
use Rattle.mls_deriv.specs.declared.derivation.SectionLine.TheVariants as line
use Rattle.mls_deriv.specs.declared.derivation.StepLine.{StepLine}
use Rattle.mls_deriv.specs.declared.derivation.StepRule.TheVariants as rule
use Rattle.mls_deriv.specs.Pairs.{Put, Pair, Claims, IsJustified, bot_below, below_top, join_below, below_meet, first_below, second_below, below_first, below_second, same_bool, same_int, same_variable, functions, records, left_variable, right_variable, same_node, AreJustified}
use Rattle.mls_deriv.specs.Steps.{Before, IsAllowedByRule, var, use_let, use_name, lit_number, lit_truth, fun, app, make, proj, choice, let_in, fix, sub, pairs_of}
use Rattle.mls_deriv.specs.Sections.{AreAllowed, HasRefused}

abbrev id : ℕ → NodeId
id n = record { 0 = n }

-- fun x -> x
abbrev term_nodes : List TermNode
term_nodes = record { at = 9; form = form.Bound 0 } ∷ record { at = 0; form = form.Fun 0 0 } ∷ []

-- a -> a, and the function from node 1 to itself
abbrev book : List Node
book = node.Arrow (id 1) (id 2) ∷ node.Var 0 ∷ node.Var 0 ∷ node.Arrow (id 1) (id 1) ∷ []

-- the lines of the section
abbrev pub lines : List SectionLine
lines =
    line.Step (record { node = 0; rule = rule.Var; env = record { binder = 0; node = id 1 } ∷ []; root = id 1 })
    ∷ line.Step (record { node = 1; rule = rule.Fun 0; env = []; root = id 3 })
    ∷ line.Step (record { node = 1; rule = rule.Sub 1; env = []; root = id 0 })
    ∷ line.Pair Lr (id 3) (id 0)
    ∷ line.Pair Rl (id 1) (id 1)
    ∷ line.Pair Lr (id 1) (id 2)
    ∷ []

abbrev pub start : List Scheme → Before
start globals = record { term_nodes = term_nodes; globals = globals; book = book; steps = []; lets = [] }

closed : IsClosedBook book
closed = closed_from book at
  where
    at : (i : ℕ) → i < 4 → IsGood 4 (0 + i) (node_at book i)
    at zero low = record { ordered = tt; below = (omega arith, omega arith) }
    at (suc zero) low = record { ordered = tt; below = tt }
    at (suc (suc zero)) low = record { ordered = tt; below = tt }
    at (suc (suc (suc zero))) low = record { ordered = tt; below = (omega arith, omega arith) }
    at (suc (suc (suc (suc i)))) low = absurd (omega arith)

abbrev pairs : List Pair
pairs = pairs_of (line.Pair Lr (id 3) (id 0) ∷ line.Pair Rl (id 1) (id 1) ∷ line.Pair Lr (id 1) (id 2) ∷ [])

abbrev pair : Mode → ℕ → ℕ → Pair
pair mode i j = record { mode = mode; left = i; right = j }

justified : AreJustified book [] pairs
justified =
    All-cons J (pair Lr 3 0) (pair Rl 1 1 ∷ pair Lr 1 2 ∷ [])
    (functions (id 1) (id 1) (id 1) (id 2) refl refl (1, omega arith, refl) (2, omega arith, refl))
    (All-cons J (pair Rl 1 1) (pair Lr 1 2 ∷ []) (same_variable 0 refl refl refl refl)
    (All-cons J (pair Lr 1 2) [] (same_variable 0 refl refl refl refl) (All-nil J)))
  where
    J : Pair → Type 0
    J pair = IsJustified book [] (Claims pairs) pair.mode pair.left pair.right

-- each step is allowed
pub lines_allowed : (globals : List Scheme) → AreAllowed (start globals) lines
lines_allowed globals = (
  record {
    in_range = is_scheme-one book closed 0 1 1 (omega arith) (omega arith);
    rising = (All-nil (λ (later : BinderNode). 0 < later.binder), tt);
    by_rule = var 0 refl refl refl;
  },
  (
    record {
      in_range = is_scheme-empty book closed 3 (omega arith);
      rising = tt;
      by_rule =
          fun 0 0 0 (one 0 1) (id 1) (id 1) refl refl (sym (remove-one 0 1)) (inl (get-one 0 1)) refl
          (record { step = _; stands = refl; about = refl; concludes = refl });
    },
    (
      record {
        in_range = is_scheme-empty book closed 0 (omega arith);
        rising = tt;
        by_rule =
            sub 1 _ refl (record { step = _; stands = refl; about = refl; concludes = refl })
            (λ x n e. absurd (cc)) justified (0, omega arith, refl)
            (λ x n e. absurd (let none : env.get (env.empty {X = ℕ} {R = nat_cmp}) x ≡ None = get-empty nat_cmp x in cc));
      },
      tt,
    ),
  ),
)

-- without its last pair
abbrev pub lines_short : List SectionLine
lines_short =
    line.Step (record { node = 0; rule = rule.Var; env = record { binder = 0; node = id 1 } ∷ []; root = id 1 })
    ∷ line.Step (record { node = 1; rule = rule.Fun 0; env = []; root = id 3 })
    ∷ line.Step (record { node = 1; rule = rule.Sub 1; env = []; root = id 0 })
    ∷ line.Pair Lr (id 3) (id 0)
    ∷ line.Pair Rl (id 1) (id 1)
    ∷ []

abbrev pairs_short : List Pair
pairs_short = pair Lr 3 0 ∷ pair Rl 1 1 ∷ []

not_claimed : Claims pairs_short Lr 1 2 → ⊥
not_claimed (zero, low, e) = absurd (let left : 3 ≡ 1 = ap (λ (p : Pair). p.left) e in omega arith)
not_claimed (suc zero, low, e) = absurd (let right : 1 ≡ 2 = ap (λ (p : Pair). p.right) e in omega arith)
not_claimed (suc (suc k), low, e) = absurd (let below : suc (suc k) < 2 = low in omega arith)

not_justified : (puts : List Put) → IsJustified book puts (Claims pairs_short) Lr 3 0 → ⊥
not_justified puts (bot_below e) = absurd (cc)
not_justified puts (below_top e) = absurd (cc)
not_justified puts (join_below l r e h k) = absurd (cc)
not_justified puts (below_meet l r e h k) = absurd (cc)
not_justified puts (first_below l r e h) = absurd (cc)
not_justified puts (second_below l r e h) = absurd (cc)
not_justified puts (below_first l r e h) = absurd (cc)
not_justified puts (below_second l r e h) = absurd (cc)
not_justified puts (same_bool e e') = absurd (cc)
not_justified puts (same_int e e') = absurd (cc)
not_justified puts (same_variable x e e' f f') = absurd (cc)
not_justified puts (functions a b c d e e' h k) =
    let left : id 1 ≡ b = cc in
    let right : id 2 ≡ d = cc in
    not_claimed (subst (λ (n : NodeId). Claims pairs_short Lr n.0 2) (sym left) (subst (λ (n : NodeId). Claims pairs_short Lr b.0 n.0) (sym right) k))
not_justified puts (records fields others e e' each) = absurd (cc)
not_justified puts (left_variable x n e f h) = absurd (cc)
not_justified puts (right_variable x n e f h) = absurd (cc)
not_justified puts (same_node e e') = absurd (cc)

abbrev last_step : StepLine
last_step = record { node = 1; rule = rule.Sub 1; env = []; root = id 0 }

not_allowed : (b : Before) (s : Scheme) → b.book ≡ book → b.term_nodes ≡ term_nodes → IsAllowedByRule b [] pairs_short last_step s → ⊥
not_allowed b s book_is nodes_are (var x r f e) = absurd (cc)
not_allowed b s book_is nodes_are (use_let n k first r f found stands e) = absurd (cc)
not_allowed b s book_is nodes_are (use_name n g u r f found has e e') = absurd (cc)
not_allowed b s book_is nodes_are (lit_number value r f e e') = absurd (cc)
not_allowed b s book_is nodes_are (lit_truth value r f e e') = absurd (cc)
not_allowed b s book_is nodes_are (fun n x body d i j r f e takes e' says) = absurd (cc)
not_allowed b s book_is nodes_are (app n m e e' g i r f is says says') = absurd (cc)
not_allowed b s book_is nodes_are (make numbers parts fields r f is labels nothing say) = absurd (cc)
not_allowed b s book_is nodes_are (proj n body i label field r f is label_is node_is says) = absurd (cc)
not_allowed b s book_is nodes_are (choice n m l c e e' i r f is says says' says'') = absurd (cc)
not_allowed b s book_is nodes_are (let_in n m k e e' d1 d2 t1 r f found meet says says') = absurd (cc)
not_allowed b s book_is nodes_are (fix n x body d r f e e' says) = absurd (cc)
not_allowed b s book_is nodes_are (sub n first r says low all claims kept) =
    not_justified [] (subst (λ book. IsJustified book [] (Claims pairs_short) Lr 3 0) book_is
    (All-contains (λ pair. IsJustified b.book [] (Claims pairs_short) pair.mode pair.left pair.right) pairs_short (pair Lr 3 0) all (0, omega arith, refl)))

-- the last step is refused
pub short_refused : (globals : List Scheme) → HasRefused (start globals) 0 lines_short 2
short_refused globals = inr ((lines_allowed globals).0, inr ((lines_allowed globals).1.0, inl (λ allowed. not_allowed _ _ refl refl allowed.by_rule, refl)))
