-- Reading the nodes of a tree from the last one to the first gives its term and its unknown names.
use Rattle.std.proofs.Common.{◌≡◌, ℕ, suc, ◌+◌, List, [], ◌∷◌, ◌++◌, refl, sym, ap, ◌∙◌, arith}
use Rattle.std.proofs.lemmas.List.{append_assoc}
use Rattle.mls_names.specs.declared.counts.Count.{Count}
use Rattle.mls_grammar.specs.declared.module.ExprNode.{ExprNode}
use Rattle.mls_term.specs.declared.term.Part.{Part}
use Rattle.mls_grammar.specs.declared.module.Form.TheVariants as form
use Rattle.mls_term.specs.declared.term.TermNode.{TermNode}
use Rattle.mls_term.specs.declared.term.TermForm.TheVariants as out
use Rattle.mls_grammar.specs.Trees.{Tree, a_name, an_operator, a_number, a_truth, a_fun, a_fix, a_let, an_if, an_apply, a_make, a_project, Fields, no_field, a_field, before, field_roots, postorder, field_postorder}
use Rattle.mls_term.specs.Terms.{TermTree, TermFields}
use Rattle.mls_term.specs.Terms as term
use Rattle.mls_names.specs.Resolution.{binder, let_number, Scope, meant_by, names_of, is_known, unknowns, field_unknowns, binders, lets}
use Rattle.mls_names.specs.steps.Counts.{count_at}
use Rattle.mls_names.specs.steps.Meanings.{resolved, resolved_fields}
use Rattle.mls_names.specs.steps.Walks.{Waiting, Walk, step, walk, fields_waiting}
use Rattle.mls_names.proofs.Named.{known, name_node, name_noted, before_is, field_roots_are}

-- a part that waits, before and behind what waits, what the nodes became and the places of unknown names
abbrev part : Scope → (n b l : ℕ) → Waiting
part scope n b l = record { scope = scope; stretch = record { first = n; binders = b; lets = l } }

abbrev at_point : List Waiting → List TermNode → List ℕ → Walk
at_point ws terms places = record { waiting = ws; terms = terms; unknown = places }

-- nodes before others
pub one_before : {A : Type 0} (xs : List A) (z : A) (rest : List A) → (xs ++ z ∷ []) ++ rest ≡ xs ++ (z ∷ rest)
one_before xs z rest = simp append_assoc

pub two_before : {A : Type 0} (xs ys : List A) (z : A) (rest : List A) → (xs ++ ys ++ z ∷ []) ++ rest ≡ xs ++ (ys ++ (z ∷ rest))
two_before xs ys z rest = simp append_assoc

pub three_before : {A : Type 0} (xs ys zs : List A) (z : A) (rest : List A) → (xs ++ ys ++ zs ++ z ∷ []) ++ rest ≡ xs ++ (ys ++ (zs ++ (z ∷ rest)))
three_before xs ys zs z rest = simp append_assoc

apply_nodes : (n at : ℕ) (f a : TermTree) (rest : List TermNode) (j k : ℕ) → term.before f ≡ j → term.before a ≡ k
    → term.postorder n (term.apply at f a) ++ rest ≡ term.postorder n f ++ (term.postorder (n + suc j) a ++ (record { at = at; form = out.Apply (n + j) (n + suc j + k) } ∷ rest))
unfolding term.postorder
apply_nodes n at f a rest j k d e =
    let m = n + suc (term.before f) in
    two_before (term.postorder n f) (term.postorder m a) (record { at = at; form = out.Apply (n + term.before f) (m + term.before a) }) rest
    ∙ (λ i. term.postorder n f ++ (term.postorder (n + suc (d i)) a ++ (record { at = at; form = out.Apply (n + d i) (n + suc (d i) + e i) } ∷ rest)))

fun_nodes : (n at x : ℕ) (f : TermTree) (rest : List TermNode) (k : ℕ) → term.before f ≡ k
    → term.postorder n (term.fun at x f) ++ rest ≡ term.postorder n f ++ (record { at = at; form = out.Fun x (n + k) } ∷ rest)
unfolding term.postorder
fun_nodes n at x f rest k e = one_before (term.postorder n f) (record { at = at; form = out.Fun x (n + term.before f) }) rest ∙ (λ i. term.postorder n f ++ (record { at = at; form = out.Fun x (n + e i) } ∷ rest))

fix_nodes : (n at x : ℕ) (f : TermTree) (rest : List TermNode) (k : ℕ) → term.before f ≡ k
    → term.postorder n (term.fix at x f) ++ rest ≡ term.postorder n f ++ (record { at = at; form = out.Rec x (n + k) } ∷ rest)
unfolding term.postorder
fix_nodes n at x f rest k e = one_before (term.postorder n f) (record { at = at; form = out.Rec x (n + term.before f) }) rest ∙ (λ i. term.postorder n f ++ (record { at = at; form = out.Rec x (n + e i) } ∷ rest))

project_nodes : (n at : ℕ) (f : TermTree) (label : List ℕ) (rest : List TermNode) (k : ℕ) → term.before f ≡ k
    → term.postorder n (term.project at f label) ++ rest ≡ term.postorder n f ++ (record { at = at; form = out.Project (n + k) label } ∷ rest)
unfolding term.postorder
project_nodes n at f label rest k e = one_before (term.postorder n f) (record { at = at; form = out.Project (n + term.before f) label }) rest ∙ (λ i. term.postorder n f ++ (record { at = at; form = out.Project (n + e i) label } ∷ rest))

local_nodes : (n at l : ℕ) (f a : TermTree) (rest : List TermNode) (j k : ℕ) → term.before f ≡ j → term.before a ≡ k
    → term.postorder n (term.local at l f a) ++ rest ≡ term.postorder n f ++ (term.postorder (n + suc j) a ++ (record { at = at; form = out.Let l (n + j) (n + suc j + k) } ∷ rest))
unfolding term.postorder
local_nodes n at l f a rest j k d e =
    let m = n + suc (term.before f) in
    two_before (term.postorder n f) (term.postorder m a) (record { at = at; form = out.Let l (n + term.before f) (m + term.before a) }) rest
    ∙ (λ i. term.postorder n f ++ (term.postorder (n + suc (d i)) a ++ (record { at = at; form = out.Let l (n + d i) (n + suc (d i) + e i) } ∷ rest)))

choice_nodes : (n at : ℕ) (c f a : TermTree) (rest : List TermNode) (h j k : ℕ) → term.before c ≡ h → term.before f ≡ j → term.before a ≡ k
    → term.postorder n (term.choice at c f a) ++ rest
    ≡ term.postorder n c ++ (term.postorder (n + suc h) f ++ (term.postorder (n + suc h + suc j) a ++ (record { at = at; form = out.If (n + h) (n + suc h + j) (n + suc h + suc j + k) } ∷ rest)))
unfolding term.postorder
choice_nodes n at c f a rest h j k b d e =
    let m = n + suc (term.before c) in
    let o = m + suc (term.before f) in
    three_before (term.postorder n c) (term.postorder m f) (term.postorder o a) (record { at = at; form = out.If (n + term.before c) (m + term.before f) (o + term.before a) }) rest
    ∙ (λ i. term.postorder n c ++ (term.postorder (n + suc (b i)) f ++ (term.postorder (n + suc (b i) + suc (d i)) a ++ (record { at = at; form = out.If (n + b i) (n + suc (b i) + d i) (n + suc (b i) + suc (d i) + e i) } ∷ rest))))

make_nodes : (n at : ℕ) (fields : TermFields) (rest : List TermNode) (roots : List Part) → term.field_roots n fields ≡ roots
    → term.postorder n (term.make at fields) ++ rest ≡ term.field_postorder n fields ++ (record { at = at; form = out.Make roots } ∷ rest)
unfolding term.postorder
make_nodes n at fields rest roots e =
    one_before (term.field_postorder n fields) (record { at = at; form = out.Make (term.field_roots n fields) }) rest
    ∙ (λ i. term.field_postorder n fields ++ (record { at = at; form = out.Make (e i) } ∷ rest))

field_term_nodes : (n : ℕ) (label : List ℕ) (f : TermTree) (fields : TermFields) (rest : List TermNode) (k : ℕ) → term.before f ≡ k
    → term.field_postorder n (term.a_field label f fields) ++ rest ≡ term.postorder n f ++ (term.field_postorder (n + suc k) fields ++ rest)
unfolding term.postorder
field_term_nodes n label f fields rest k e =
    append_assoc (term.postorder n f) (term.field_postorder (n + suc (term.before f)) fields) rest
    ∙ (λ i. term.postorder n f ++ (term.field_postorder (n + suc (e i)) fields ++ rest))

three_places : (xs ys zs rest : List ℕ) → (xs ++ ys ++ zs) ++ rest ≡ xs ++ (ys ++ (zs ++ rest))
three_places xs ys zs rest = simp append_assoc

module _ (counts : List Count) where
  -- behind the nodes of a tree there are its binders and lets more
  pub record Grows (n : ℕ) (t : Tree) : Type 0 where
    pub more_binders : (count_at counts (n + suc (before t))).binders ≡ (count_at counts n).binders + binders t
    pub more_lets : (count_at counts (n + suc (before t))).lets ≡ (count_at counts n).lets + lets t

  -- and so behind each part that another one follows
  abbrev mutual
    pub Counted : ℕ → Tree → Type 0
    Counted n (a_name at x) = Unit {0}
    Counted n (an_operator at o) = Unit {0}
    Counted n (a_number at value) = Unit {0}
    Counted n (a_truth at value) = Unit {0}
    Counted n (a_fun at x e) = Counted n e
    Counted n (a_fix at x e) = Counted n e
    Counted n (a_let at x e f) = Grows n e × Counted n e × Counted (n + suc (before e)) f
    Counted n (an_if at c e f) = Grows n c × Counted n c × Grows (n + suc (before c)) e × Counted (n + suc (before c)) e × Counted (n + suc (before c) + suc (before e)) f
    Counted n (an_apply at f a) = Grows n f × Counted n f × Counted (n + suc (before f)) a
    Counted n (a_make at fields) = AreCounted n fields
    Counted n (a_project at e label) = Counted n e

    pub AreCounted : ℕ → Fields → Type 0
    AreCounted n no_field = Unit {0}
    AreCounted n (a_field label e rest) = Grows n e × Counted n e × AreCounted (n + suc (before e)) rest

  walk-append : (xs ys : List ExprNode) (w : Walk) → walk counts (xs ++ ys) w ≡ walk counts xs (walk counts ys w)
  walk-append [] ys w = refl
  walk-append (x ∷ xs) ys w = ap (λ (v : Walk). step counts x v.waiting v) (walk-append xs ys w)

  walk-one : (xs : List ExprNode) (node : ExprNode) (w : Walk) → walk counts (xs ++ node ∷ []) w ≡ walk counts xs (step counts node w.waiting w)
  walk-one xs node w = walk-append xs (node ∷ []) w

  walk-two : (xs ys : List ExprNode) (node : ExprNode) (w : Walk) → walk counts (xs ++ ys ++ node ∷ []) w ≡ walk counts xs (walk counts ys (step counts node w.waiting w))
  walk-two xs ys node w = walk-one (xs ++ ys) node w ∙ walk-append xs ys (step counts node w.waiting w)

  walk-three : (xs ys zs : List ExprNode) (node : ExprNode) (w : Walk) → walk counts (xs ++ ys ++ zs ++ node ∷ []) w ≡ walk counts xs (walk counts ys (walk counts zs (step counts node w.waiting w)))
  walk-three xs ys zs node w = walk-two (xs ++ ys) zs node w ∙ walk-append xs ys (walk counts zs (step counts node w.waiting w))

  mutual
    unfolding postorder term.postorder before binders lets field_roots

    pub reads : (t : Tree) (n : ℕ) (scope : Scope) (b l x y : ℕ) (ws : List Waiting) (terms : List TermNode) (places : List ℕ)
        → Counted n t → (count_at counts n).binders + b ≡ x → (count_at counts n).lets + l ≡ y
        → walk counts (postorder n t) (at_point (part scope n b l ∷ ws) terms places)
        ≡ at_point ws (term.postorder n (resolved scope x y t) ++ terms) (unknowns (names_of scope) t ++ places)
    reads (a_name at name) n scope b l x y ws terms places h d e =
        λ i. at_point ws (name_node (meant_by scope name) at n terms i) (name_noted (meant_by scope name) (is_known (names_of scope) name) at places (known scope name) i)
    reads (an_operator at o) n scope b l x y ws terms places h d e = refl
    reads (a_number at value) n scope b l x y ws terms places h d e = refl
    reads (a_truth at value) n scope b l x y ws terms places h d e = refl
    reads (a_fun at name t) n scope b l x y ws terms places h d e =
        walk-one (postorder n t) (record { at = at; form = form.Fun name (n + before t) }) (at_point (part scope n b l ∷ ws) terms places)
        ∙ (λ i. walk counts (postorder n t) (at_point (part ((name, binder (d i)) ∷ scope) n (b + 1) l ∷ ws) (record { at = at; form = out.Fun (d i) (n + before t) } ∷ terms) places))
        ∙ reads t n ((name, binder x) ∷ scope) (b + 1) l (suc x) y ws (record { at = at; form = out.Fun x (n + before t) } ∷ terms) places h (omega arith) e
        ∙ ap (λ ns. at_point ws ns (unknowns (name ∷ names_of scope) t ++ places)) (sym (fun_nodes n at x (resolved ((name, binder x) ∷ scope) (suc x) y t) terms (before t) (before_is t ((name, binder x) ∷ scope) (suc x) y)))
    reads (a_fix at name t) n scope b l x y ws terms places h d e =
        walk-one (postorder n t) (record { at = at; form = form.Rec name (n + before t) }) (at_point (part scope n b l ∷ ws) terms places)
        ∙ (λ i. walk counts (postorder n t) (at_point (part ((name, binder (d i)) ∷ scope) n (b + 1) l ∷ ws) (record { at = at; form = out.Rec (d i) (n + before t) } ∷ terms) places))
        ∙ reads t n ((name, binder x) ∷ scope) (b + 1) l (suc x) y ws (record { at = at; form = out.Rec x (n + before t) } ∷ terms) places h (omega arith) e
        ∙ ap (λ ns. at_point ws ns (unknowns (name ∷ names_of scope) t ++ places)) (sym (fix_nodes n at x (resolved ((name, binder x) ∷ scope) (suc x) y t) terms (before t) (before_is t ((name, binder x) ∷ scope) (suc x) y)))
    reads (a_project at t label) n scope b l x y ws terms places h d e =
        walk-one (postorder n t) (record { at = at; form = form.Project (n + before t) label }) (at_point (part scope n b l ∷ ws) terms places)
        ∙ reads t n scope b l x y ws (record { at = at; form = out.Project (n + before t) label } ∷ terms) places h d e
        ∙ ap (λ ns. at_point ws ns (unknowns (names_of scope) t ++ places)) (sym (project_nodes n at (resolved scope x y t) label terms (before t) (before_is t scope x y)))
    reads (an_apply at f a) n scope b l x y ws terms places h d e =
        let m = n + suc (before f) in
        let node : ExprNode = record { at = at; form = form.Apply (n + before f) (m + before a) } in
        let became : TermNode = record { at = at; form = out.Apply (n + before f) (m + before a) } in
        let next : (n + before f) + 1 ≡ m = omega arith in
        let second : TermTree = resolved scope (x + binders f) (y + lets f) a in
        walk-two (postorder n f) (postorder m a) node (at_point (part scope n b l ∷ ws) terms places)
        ∙ (λ i. walk counts (postorder n f) (walk counts (postorder m a) (at_point (part scope (next i) b l ∷ part scope n b l ∷ ws) (became ∷ terms) places)))
        ∙ ap (walk counts (postorder n f)) (reads a m scope b l (x + binders f) (y + lets f) (part scope n b l ∷ ws) (became ∷ terms) places h.2 (omega (arith, h.0.more_binders)) (omega (arith, h.0.more_lets)))
        ∙ reads f n scope b l x y ws (term.postorder m second ++ (became ∷ terms)) (unknowns (names_of scope) a ++ places) h.1 d e
        ∙ (λ i. at_point ws
        (sym (apply_nodes n at (resolved scope x y f) second terms (before f) (before a) (before_is f scope x y) (before_is a scope (x + binders f) (y + lets f))) i)
        (sym (append_assoc (unknowns (names_of scope) f) (unknowns (names_of scope) a) places) i))
    reads (a_let at name f a) n scope b l x y ws terms places h d e =
        let m = n + suc (before f) in
        let node : ExprNode = record { at = at; form = form.Let name (n + before f) (m + before a) } in
        let became : TermNode = record { at = at; form = out.Let y (n + before f) (m + before a) } in
        let next : (n + before f) + 1 ≡ m = omega arith in
        let inside : Scope = (name, let_number y) ∷ scope in
        let second : TermTree = resolved inside (x + binders f) (suc y + lets f) a in
        walk-two (postorder n f) (postorder m a) node (at_point (part scope n b l ∷ ws) terms places)
        ∙ (λ i. walk counts (postorder n f) (walk counts (postorder m a) (at_point (part ((name, let_number (e i)) ∷ scope) (next i) b (l + 1) ∷ part scope n b (l + 1) ∷ ws) (record { at = at; form = out.Let (e i) (n + before f) (m + before a) } ∷ terms) places)))
        ∙ ap (walk counts (postorder n f)) (reads a m inside b (l + 1) (x + binders f) (suc y + lets f) (part scope n b (l + 1) ∷ ws) (became ∷ terms) places h.2 (omega (arith, h.0.more_binders)) (omega (arith, h.0.more_lets)))
        ∙ reads f n scope b (l + 1) x (suc y) ws (term.postorder m second ++ (became ∷ terms)) (unknowns (name ∷ names_of scope) a ++ places) h.1 d (omega arith)
        ∙ (λ i. at_point ws
        (sym (local_nodes n at y (resolved scope x (suc y) f) second terms (before f) (before a) (before_is f scope x (suc y)) (before_is a inside (x + binders f) (suc y + lets f))) i)
        (sym (append_assoc (unknowns (names_of scope) f) (unknowns (name ∷ names_of scope) a) places) i))
    reads (an_if at c f a) n scope b l x y ws terms places h d e =
        let m = n + suc (before c) in
        let o = m + suc (before f) in
        let node : ExprNode = record { at = at; form = form.If (n + before c) (m + before f) (o + before a) } in
        let became : TermNode = record { at = at; form = out.If (n + before c) (m + before f) (o + before a) } in
        let next : (n + before c) + 1 ≡ m = omega arith in
        let last : (m + before f) + 1 ≡ o = omega arith in
        let first : TermTree = resolved scope (x + binders c) (y + lets c) f in
        let second : TermTree = resolved scope (x + binders c + binders f) (y + lets c + lets f) a in
        walk-three (postorder n c) (postorder m f) (postorder o a) node (at_point (part scope n b l ∷ ws) terms places)
        ∙ (λ i. walk counts (postorder n c) (walk counts (postorder m f) (walk counts (postorder o a) (at_point (part scope (last i) b l ∷ part scope (next i) b l ∷ part scope n b l ∷ ws) (became ∷ terms) places))))
        ∙ ap (λ w. walk counts (postorder n c) (walk counts (postorder m f) w)) (reads a o scope b l (x + binders c + binders f) (y + lets c + lets f) (part scope m b l ∷ part scope n b l ∷ ws) (became ∷ terms) places h.4 (omega (arith, h.0.more_binders, h.2.more_binders)) (omega (arith, h.0.more_lets, h.2.more_lets)))
        ∙ ap (walk counts (postorder n c)) (reads f m scope b l (x + binders c) (y + lets c) (part scope n b l ∷ ws) (term.postorder o second ++ (became ∷ terms)) (unknowns (names_of scope) a ++ places) h.3 (omega (arith, h.0.more_binders)) (omega (arith, h.0.more_lets)))
        ∙ reads c n scope b l x y ws (term.postorder m first ++ (term.postorder o second ++ (became ∷ terms))) (unknowns (names_of scope) f ++ (unknowns (names_of scope) a ++ places)) h.1 d e
        ∙ (λ i. at_point ws
        (sym (choice_nodes n at (resolved scope x y c) first second terms (before c) (before f) (before a) (before_is c scope x y) (before_is f scope (x + binders c) (y + lets c)) (before_is a scope (x + binders c + binders f) (y + lets c + lets f))) i)
        (sym (three_places (unknowns (names_of scope) c) (unknowns (names_of scope) f) (unknowns (names_of scope) a) places) i))
    reads (a_make at fields) n scope b l x y ws terms places h d e =
        let became : TermNode = record { at = at; form = out.Make (field_roots n fields) } in
        walk-one (field_postorder n fields) (record { at = at; form = form.Make (field_roots n fields) }) (at_point (part scope n b l ∷ ws) terms places)
        ∙ read_fields fields n scope b l x y ws (became ∷ terms) places h d e
        ∙ (λ i. at_point ws (sym (make_nodes n at (resolved_fields scope x y fields) terms (field_roots n fields) (field_roots_are fields n scope x y)) i) (field_unknowns (names_of scope) fields ++ places))

    read_fields : (fields : Fields) (n : ℕ) (scope : Scope) (b l x y : ℕ) (ws : List Waiting) (terms : List TermNode) (places : List ℕ)
        → AreCounted n fields → (count_at counts n).binders + b ≡ x → (count_at counts n).lets + l ≡ y
        → walk counts (field_postorder n fields) (at_point (fields_waiting scope (record { first = n; binders = b; lets = l }) (field_roots n fields) ws) terms places)
        ≡ at_point ws (term.field_postorder n (resolved_fields scope x y fields) ++ terms) (field_unknowns (names_of scope) fields ++ places)
    read_fields no_field n scope b l x y ws terms places h d e = refl
    read_fields (a_field label f rest) n scope b l x y ws terms places h d e =
        let m = n + suc (before f) in
        let next : (n + before f) + 1 ≡ m = omega arith in
        let others : TermFields = resolved_fields scope (x + binders f) (y + lets f) rest in
        walk-append (postorder n f) (field_postorder m rest) (at_point (fields_waiting scope (record { first = (n + before f) + 1; binders = b; lets = l }) (field_roots m rest) (part scope n b l ∷ ws)) terms places)
        ∙ (λ i. walk counts (postorder n f) (walk counts (field_postorder m rest) (at_point (fields_waiting scope (record { first = next i; binders = b; lets = l }) (field_roots m rest) (part scope n b l ∷ ws)) terms places)))
        ∙ ap (walk counts (postorder n f)) (read_fields rest m scope b l (x + binders f) (y + lets f) (part scope n b l ∷ ws) terms places h.2 (omega (arith, h.0.more_binders)) (omega (arith, h.0.more_lets)))
        ∙ reads f n scope b l x y ws (term.field_postorder m others ++ terms) (field_unknowns (names_of scope) rest ++ places) h.1 d e
        ∙ (λ i. at_point ws
        (sym (field_term_nodes n label (resolved scope x y f) others terms (before f) (before_is f scope x y)) i)
        (sym (append_assoc (unknowns (names_of scope) f) (field_unknowns (names_of scope) rest) places) i))
