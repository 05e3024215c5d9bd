-- For each phrase the machine tells what it emits, and gives what it gives.
use Rattle.std.proofs.Common.{◌≡◌, ℕ, suc, ◌+◌, true, false, List, [], ◌∷◌, ◌++◌, refl, ap}
use Rattle.mls_reader.specs.declared.piece.Piece.{Piece}
use Rattle.mls_reader.specs.declared.piece.Piece.TheVariants as piece
use Rattle.mls_reader.specs.declared.piece.Event.{Event}
use Rattle.mls_grammar.specs.Phrases.{Sort, source, imports, bindings, expr, let_rest, compare_tail, sum, sum_tail, product, product_tail, apply, arguments, post, dots, atom, Phrase, whole, no_import, importing, no_binding, binding, simple, recursive, fun, fix, local, choice, plain, simple_in, recursive_in, no_compare, less, equal, summed, no_sum, plus, minus, multiplied, no_product, times, applied, no_argument, argument, posted, no_dot, dot, variable, literal, truth, parens, braces, no_part, first_part, last_part, next_part, width}
use Rattle.mls_reader.specs.steps.PieceMachine.{Todo, a, arguments_of, let_of, tell, build, last_told, beginning}
use Rattle.mls_reader.specs.steps.Pieces.{emitted, given}
use Rattle.mls_lexer.specs.steps.Placed.{Placed}
use Rattle.mls_reader.proofs.Spelled.{spells}
use Rattle.mls_reader.proofs.Closing.{Closes, First, weaker, no_tail, closed_then, closed_else, closed_in, closed_paren, before_bindings, behind_imports, before_compare, before_sum, before_product, before_arguments, before_parts}
use Rattle.mls_reader.proofs.PieceSteps.{told_all, Goes, first_then, tells, then_tells, then_closes, alike, over, no_more_arguments, stays, takes}

-- what stands on the stack before a phrase of the sort, with the place of the application or the `let` to which it belongs
abbrev pub front : Sort → (around at : ℕ) → List Todo
front source n at = a n imports ∷ a n bindings ∷ []
front let_rest n at = let_of n at ∷ []
front arguments n at = arguments_of n at ∷ []
front s n at = a n s ∷ []

-- the two rows come to the same at these terminals
abbrev Same : List Todo → List Todo → List Placed → Type 0
Same row other us = (st : List Todo) (told : List Piece) (heard : List Event) → told_all (row ++ st) told heard us ≡ told_all (other ++ st) told heard us

-- an operand begins with its first atom
plain_begins : (place : ℕ → ℕ) (n k : ℕ) (x : Phrase atom) (us : List Placed) → Same (a n expr ∷ []) (a (suc n) sum ∷ a (suc n) compare_tail ∷ []) (spells place k x us)
unfolding spells told_all build
plain_begins place n k (variable x) us st told heard = refl
plain_begins place n k (literal value) us st told heard = refl
plain_begins place n k (truth true) us st told heard = refl
plain_begins place n k (truth false) us st told heard = refl
plain_begins place n k (parens e) us st told heard = refl
plain_begins place n k (braces p) us st told heard = refl

sum_begins : (place : ℕ → ℕ) (n k : ℕ) (x : Phrase atom) (us : List Placed) → Same (a n sum ∷ []) (a n product ∷ a n sum_tail ∷ []) (spells place k x us)
unfolding spells told_all build
sum_begins place n k (variable x) us st told heard = refl
sum_begins place n k (literal value) us st told heard = refl
sum_begins place n k (truth true) us st told heard = refl
sum_begins place n k (truth false) us st told heard = refl
sum_begins place n k (parens e) us st told heard = refl
sum_begins place n k (braces p) us st told heard = refl

product_begins : (place : ℕ → ℕ) (n k : ℕ) (x : Phrase atom) (us : List Placed) → Same (a n product ∷ []) (a n apply ∷ a n product_tail ∷ []) (spells place k x us)
unfolding spells told_all build
product_begins place n k (variable x) us st told heard = refl
product_begins place n k (literal value) us st told heard = refl
product_begins place n k (truth true) us st told heard = refl
product_begins place n k (truth false) us st told heard = refl
product_begins place n k (parens e) us st told heard = refl
product_begins place n k (braces p) us st told heard = refl

apply_begins : (place : ℕ → ℕ) (n k : ℕ) (x : Phrase atom) (us : List Placed) → Same (a n apply ∷ []) (a n post ∷ arguments_of n (place k) ∷ []) (spells place k x us)
unfolding spells told_all build
apply_begins place n k (variable x) us st told heard = refl
apply_begins place n k (literal value) us st told heard = refl
apply_begins place n k (truth true) us st told heard = refl
apply_begins place n k (truth false) us st told heard = refl
apply_begins place n k (parens e) us st told heard = refl
apply_begins place n k (braces p) us st told heard = refl

argument_begins : (place : ℕ → ℕ) (n at k : ℕ) (x : Phrase atom) (us : List Placed)
    → Same (arguments_of n at ∷ []) (a n post ∷ tell (piece.Apply at) ∷ arguments_of n at ∷ []) (spells place k x us)
unfolding spells told_all build
argument_begins place n at k (variable x) us st told heard = refl
argument_begins place n at k (literal value) us st told heard = refl
argument_begins place n at k (truth true) us st told heard = refl
argument_begins place n at k (truth false) us st told heard = refl
argument_begins place n at k (parens e) us st told heard = refl
argument_begins place n at k (braces p) us st told heard = refl

post_begins : (place : ℕ → ℕ) (n k : ℕ) (x : Phrase atom) (us : List Placed) → Same (a n post ∷ []) (a n atom ∷ a n dots ∷ []) (spells place k x us)
unfolding spells told_all build
post_begins place n k (variable x) us st told heard = refl
post_begins place n k (literal value) us st told heard = refl
post_begins place n k (truth true) us st told heard = refl
post_begins place n k (truth false) us st told heard = refl
post_begins place n k (parens e) us st told heard = refl
post_begins place n k (braces p) us st told heard = refl

plain_begins-sum : (place : ℕ → ℕ) (n k : ℕ) (s : Phrase sum) (us : List Placed) → Same (a n expr ∷ []) (a (suc n) sum ∷ a (suc n) compare_tail ∷ []) (spells place k s us)
unfolding spells
plain_begins-sum place n k (summed (multiplied (applied (posted x d) m) t) u) us = plain_begins place n k x _

sum_begins-product : (place : ℕ → ℕ) (n k : ℕ) (p : Phrase product) (us : List Placed) → Same (a n sum ∷ []) (a n product ∷ a n sum_tail ∷ []) (spells place k p us)
unfolding spells
sum_begins-product place n k (multiplied (applied (posted x d) m) t) us = sum_begins place n k x _

product_begins-apply : (place : ℕ → ℕ) (n k : ℕ) (p : Phrase apply) (us : List Placed) → Same (a n product ∷ []) (a n apply ∷ a n product_tail ∷ []) (spells place k p us)
unfolding spells
product_begins-apply place n k (applied (posted x d) m) us = product_begins place n k x _

apply_begins-post : (place : ℕ → ℕ) (n k : ℕ) (p : Phrase post) (us : List Placed) → Same (a n apply ∷ []) (a n post ∷ arguments_of n (place k) ∷ []) (spells place k p us)
unfolding spells
apply_begins-post place n k (posted x d) us = apply_begins place n k x _

argument_begins-post : (place : ℕ → ℕ) (n at k : ℕ) (p : Phrase post) (us : List Placed)
    → Same (arguments_of n at ∷ []) (a n post ∷ tell (piece.Apply at) ∷ arguments_of n at ∷ []) (spells place k p us)
unfolding spells
argument_begins-post place n at k (posted x d) us = argument_begins place n at k x _

-- the machine reads each phrase, where none of its tails goes on with what stands behind it
pub builds : (place : ℕ → ℕ) {s : Sort} (at n k : ℕ) (p : Phrase s) (us : List Placed) → First (Closes s) us
    → Goes (front s n at) (spells place k p us) (emitted place at k p) (given place k p) us
unfolding spells emitted given
builds place at n k (whole i b) us c =
    first_then (builds place at n k i (spells place (k + width i) b us) (behind_imports place (k + width i) b us c)) (builds place at n (k + width i) b us (weaker (λ t c. c.0) us c))
builds place at n k no_import us c = over n imports us (weaker (λ t c at. c n) us c)
builds place at n k (importing x i) us c = takes refl (takes refl (builds place at n (k + 2) i us c))
builds place at n k no_binding us c = over n bindings us (weaker (λ t c at. c.1 n) us c)
builds place at n k (binding r) us c = takes refl (builds place at n (k + 1) r us c)
builds place at n k (simple x e b) us c =
    takes refl (takes refl
    (first_then (builds place at n (k + 2) e (spells place (k + 2 + width e) b us) (before_bindings place (k + 2 + width e) b us c))
    (tells (builds place at n (k + 2 + width e) b us c))))
builds place at n k (recursive x e b) us c =
    takes refl (takes refl (takes refl
    (first_then (builds place at n (k + 3) e (spells place (k + 3 + width e) b us) (before_bindings place (k + 3 + width e) b us c))
    (tells (tells (builds place at n (k + 3 + width e) b us c))))))
builds place at n k (fun x e) us c = takes refl (takes refl (takes refl (then_tells (builds place at (suc n) (k + 3) e us c))))
builds place at n k (fix x e) us c = takes refl (takes refl (takes refl (then_tells (builds place at (suc n) (k + 3) e us c))))
builds place at n k (local r) us c = takes refl (builds place (place k) (suc n) (k + 1) r us c)
builds place at n k (choice p q r) us c =
    takes refl
    (first_then (builds place at (suc n) (k + 1) p _ closed_then)
    (takes refl
    (first_then (builds place at (suc n) (k + 2 + width p) q _ closed_else)
    (takes refl (then_tells (builds place at (suc n) (k + 3 + width p + width q) r us c))))))
builds place at n k (plain s t) us c =
    alike (plain_begins-sum place n k s (spells place (k + width s) t us))
    (first_then (builds place at (suc n) k s (spells place (k + width s) t us) (before_compare place (k + width s) t us c))
    (builds place at (suc n) (k + width s) t us c))
builds place at n k (simple_in x e f) us c =
    takes refl (takes refl
    (first_then (builds place at n (k + 2) e _ closed_in)
    (takes refl (then_tells (builds place at n (k + 3 + width e) f us c)))))
builds place at n k (recursive_in x e f) us c =
    takes refl (takes refl (takes refl
    (first_then (builds place at n (k + 3) e _ closed_in)
    (tells (takes refl (then_tells (builds place at n (k + 4 + width e) f us c)))))))
builds place at n k no_compare us c = over n compare_tail us (weaker (λ t c at. c.1 n at) us c)
builds place at n k (less s) us c = takes refl (then_tells (builds place at n (k + 1) s us (weaker (λ t c. c.0) us c)))
builds place at n k (equal s) us c = takes refl (then_tells (builds place at n (k + 1) s us (weaker (λ t c. c.0) us c)))
builds place at n k (summed p t) us c =
    alike (sum_begins-product place n k p (spells place (k + width p) t us))
    (first_then (builds place at n k p (spells place (k + width p) t us) (before_sum place (k + width p) t us c)) (builds place at n (k + width p) t us c))
builds place at n k no_sum us c = over n sum_tail us (weaker (λ t c at. c.1 n at) us c)
builds place at n k (plus p t) us c =
    takes refl
    (first_then (builds place at n (k + 1) p (spells place (k + 1 + width p) t us) (before_sum place (k + 1 + width p) t us c))
    (tells (builds place at n (k + 1 + width p) t us c)))
builds place at n k (minus p t) us c =
    takes refl
    (first_then (builds place at n (k + 1) p (spells place (k + 1 + width p) t us) (before_sum place (k + 1 + width p) t us c))
    (tells (builds place at n (k + 1 + width p) t us c)))
builds place at n k (multiplied p t) us c =
    alike (product_begins-apply place n k p (spells place (k + width p) t us))
    (first_then (builds place at n k p (spells place (k + width p) t us) (before_product place (k + width p) t us c)) (builds place at n (k + width p) t us c))
builds place at n k no_product us c = over n product_tail us (weaker (λ t c at. c.1 n at) us c)
builds place at n k (times p t) us c =
    takes refl
    (first_then (builds place at n (k + 1) p (spells place (k + 1 + width p) t us) (before_product place (k + 1 + width p) t us c))
    (tells (builds place at n (k + 1 + width p) t us c)))
builds place at n k (applied p m) us c =
    alike (apply_begins-post place n k p (spells place (k + width p) m us))
    (first_then (builds place at n k p (spells place (k + width p) m us) (before_arguments place (k + width p) m us c)) (builds place (place k) n (k + width p) m us c))
builds place at n k no_argument us c = no_more_arguments n at us c
builds place at n k (argument p m) us c =
    alike (argument_begins-post place n at k p (spells place (k + width p) m us))
    (first_then (builds place at n k p (spells place (k + width p) m us) (before_arguments place (k + width p) m us c))
    (tells (builds place at n (k + width p) m us c)))
builds place at n k (posted x d) us c =
    alike (post_begins place n k x (spells place (k + width x) d us))
    (first_then (builds place at n k x (spells place (k + width x) d us) (no_tail (spells place (k + width x) d us))) (builds place at n (k + width x) d us c))
builds place at n k no_dot us c = over n dots us (weaker (λ t c at. c n) us c)
builds place at n k (dot label d) us c = takes refl (takes refl (builds place at n (k + 2) d us c))
builds place at n k (variable x) us c = takes refl (stays us)
builds place at n k (literal value) us c = takes refl (stays us)
builds place at n k (truth true) us c = takes refl (stays us)
builds place at n k (truth false) us c = takes refl (stays us)
builds place at n k (parens e) us c = takes refl (then_closes (builds place at n (k + 1) e _ closed_paren))
builds place at n k (braces p) us c = takes refl (then_tells (builds place at n (k + 1) p us (no_tail us)))
builds place at n k no_part us c = takes refl (stays us)
builds place at n k (first_part label e p) us c =
    takes refl (takes refl
    (first_then (builds place at n (k + 2) e (spells place (k + 2 + width e) p us) (before_parts place (k + 2 + width e) p us))
    (then_tells (builds place at n (k + 2 + width e) p us (no_tail us)))))
builds place at n k last_part us c = takes refl (stays us)
builds place at n k (next_part label e p) us c =
    takes refl (takes refl (takes refl
    (first_then (builds place at n (k + 3) e (spells place (k + 3 + width e) p us) (before_parts place (k + 3 + width e) p us))
    (then_tells (builds place at n (k + 3 + width e) p us (no_tail us))))))

-- from the terminals of a module the machine tells its pieces, and gives its names and labels
pub built : (place : ℕ → ℕ) (at : ℕ) (p : Phrase source)
    → let s = build beginning [] [] (spells place 0 p []) in (last_told s.stack s.told ≡ emitted place at 0 p) × (s.heard ≡ given place 0 p)
unfolding told_all build
built place at p =
    let same = (builds place at 0 0 p [] tt).goes [] [] [] in
    (ap (λ it. it.0) same, ap (λ it. it.1) same)
