-- How the nodes of an expression are read from the last one to the first, so that a node comes before its parts, and a
-- later part before an earlier one.
use Rattle.std.specs.Prelude.{◌≡◌, ℕ, ◌+◌, ◌<◌, false, cond, List, [], ◌∷◌, ◌++◌, reverse, All, bytes_eq, Option, Some}
use Rattle.std.specs.Prelude.{None, option_map, unwrap_or, slice_get}
use Rattle.std.specs.BTreeMap.{BTreeMap, get}
use Rattle.std.specs.Ordering.{nat_cmp}
use Rattle.std.specs.Cmp.Lexicographic.{slice_cmp}
use Rattle.mls_names.specs.declared.counts.Count.{Count}
use Rattle.mls_grammar.specs.declared.module.ExprNode.{ExprNode}
use Rattle.mls_grammar.specs.declared.module.Form.{Form}
use Rattle.mls_grammar.specs.declared.module.Form.TheVariants as form
use Rattle.mls_term.specs.declared.term.Part.{Part}
use Rattle.mls_names.specs.declared.resolver.Meaning.{Meaning}
use Rattle.mls_names.specs.declared.resolver.Meaning.TheVariants as meaning
use Rattle.mls_names.specs.declared.resolver.Stretch.{Stretch}
use Rattle.mls_names.specs.declared.resolver.Task.{Task}
use Rattle.mls_names.specs.declared.resolver.Task.TheVariants as task
use Rattle.mls_names.specs.declared.resolver.Resolver.{Resolver}
use Rattle.mls_term.specs.declared.term.TermForm.{TermForm}
use Rattle.mls_term.specs.declared.term.TermForm.TheVariants as term
use Rattle.mls_term.specs.declared.term.TermNode.{TermNode}
use Rattle.mls_term.specs.declared.term.Term.{Term}
use Rattle.mls_grammar.specs.declared.fault.Fault.{Fault}
use Rattle.mls_grammar.specs.Trees.{Tree}
use Rattle.mls_grammar.specs.Trees as tree
use Rattle.mls_term.specs.Terms.{postorder}
use Rattle.mls_names.specs.Resolution.{Meant, binder, let_number, scheme, Scope, meant_by, operator_number, unknowns}
use Rattle.mls_names.specs.Resolution.{names_of}
use Rattle.mls_names.specs.steps.Counts.{count_at}
use Rattle.mls_names.specs.steps.Meanings.{resolved, term_of, IsFirstOf}

-- a part of an expression that waits to be read, with its scope
pub record Waiting : Type 0 where
  pub scope : Scope
  pub stretch : Stretch

-- the part behind the one with this root
abbrev pub after : Stretch → ℕ → Stretch
after s root = record s { first = root + 1 }

-- the numbers that the next binder and the next let of a part have
abbrev pub next_numbers : List Count → Stretch → Count
next_numbers counts s =
    record { binders = (count_at counts s.first).binders + s.binders; lets = (count_at counts s.first).lets + s.lets }

-- what the use of a name becomes
abbrev pub use_form : Meant → TermForm
use_form (binder x) = term.Bound x
use_form (let_number k) = term.Inner k
use_form (scheme g) = term.Global g

-- what a node becomes in a scope, where the next binder and the next let have these numbers
abbrev pub form_in : Scope → Count → Form → Option TermForm
form_in scope next (form.Var x) = option_map use_form (meant_by scope x)
form_in scope next (form.Operator o) = Some (term.Global (operator_number o))
form_in scope next (form.Number value) = Some (term.Number value)
form_in scope next (form.Truth value) = Some (term.Truth value)
form_in scope next (form.Fun x body) = Some (term.Fun next.binders body)
form_in scope next (form.Apply f a) = Some (term.Apply f a)
form_in scope next (form.Make parts) = Some (term.Make parts)
form_in scope next (form.Project e label) = Some (term.Project e label)
form_in scope next (form.If c e f) = Some (term.If c e f)
form_in scope next (form.Let x e f) = Some (term.Let next.lets e f)
form_in scope next (form.Rec x body) = Some (term.Rec next.binders body)

-- the parts of a record wait, the last one first
abbrev pub fields_waiting : Scope → Stretch → List Part → List Waiting → List Waiting
fields_waiting scope s [] ws = ws
fields_waiting scope s (part ∷ parts) ws =
    fields_waiting scope (after s part.child) parts (record { scope = scope; stretch = s } ∷ ws)

-- the parts of a let wait, the second one first, where alone the name means the let
abbrev pub let_waiting : Scope → Stretch → Count → List ℕ → ℕ → List Waiting → List Waiting
let_waiting scope s next x e ws =
    let inside : Stretch = record s { lets = s.lets + 1 } in
    record { scope = (x, let_number next.lets) ∷ scope; stretch = after inside e }
    ∷ record { scope = scope; stretch = inside } ∷ ws

-- the parts of a node wait, the last one first
abbrev pub parts_waiting : Scope → Stretch → Count → Form → List Waiting → List Waiting
parts_waiting scope s next (form.Fun x body) ws =
    record { scope = (x, binder next.binders) ∷ scope; stretch = record s { binders = s.binders + 1 } } ∷ ws
parts_waiting scope s next (form.Rec x body) ws =
    record { scope = (x, binder next.binders) ∷ scope; stretch = record s { binders = s.binders + 1 } } ∷ ws
parts_waiting scope s next (form.Let x e f) ws = let_waiting scope s next x e ws
parts_waiting scope s next (form.If c e f) ws =
    record { scope = scope; stretch = after s e } ∷ record { scope = scope; stretch = after s c }
    ∷ record { scope = scope; stretch = s } ∷ ws
parts_waiting scope s next (form.Apply f a) ws =
    record { scope = scope; stretch = after s f } ∷ record { scope = scope; stretch = s } ∷ ws
parts_waiting scope s next (form.Make parts) ws = fields_waiting scope s parts ws
parts_waiting scope s next (form.Project e label) ws = record { scope = scope; stretch = s } ∷ ws
parts_waiting scope s next _ ws = ws

-- what waits, what the nodes became, and the places of names without a meaning
pub record Walk : Type 0 where
  pub waiting : List Waiting
  pub terms : List TermNode
  pub unknown : List ℕ

-- one place more, where a name became nothing
abbrev pub with_unknown : Option TermForm → ℕ → List ℕ → List ℕ
with_unknown None at places = at ∷ places
with_unknown (Some f) at places = places

-- a node that becomes this is read
abbrev pub walked : Option TermForm → ℕ → List Waiting → Walk → Walk
walked became at ws w = record {
  waiting = ws;
  terms = record { at = at; form = unwrap_or became (term.Truth false) } ∷ w.terms;
  unknown = with_unknown became at w.unknown;
}

-- a node is read for the first part that waits
abbrev pub step : List Count → ExprNode → List Waiting → Walk → Walk
step counts node [] w = w
step counts node (part ∷ ws) w =
    let next : Count = next_numbers counts part.stretch in
    walked (form_in part.scope next node.form) node.at (parts_waiting part.scope part.stretch next node.form ws) w

-- nodes are read, the last one first
abbrev pub walk : List Count → List ExprNode → Walk → Walk
walk counts [] w = w
walk counts (node ∷ nodes) w = let rest : Walk = walk counts nodes w in step counts node rest.waiting rest

-- the numbers of the parts of a node are below this number
abbrev pub HasPartsBelow : ℕ → Form → Type 0
HasPartsBelow n (form.Fun x e) = e < n
HasPartsBelow n (form.Rec x e) = e < n
HasPartsBelow n (form.Let x e f) = (e < n) × (f < n)
HasPartsBelow n (form.If c e f) = (c < n) × (e < n) × (f < n)
HasPartsBelow n (form.Apply f a) = (f < n) × (a < n)
HasPartsBelow n (form.Make parts) = All (λ part. part.child < n) parts
HasPartsBelow n (form.Project e label) = e < n
HasPartsBelow n _ = Unit {0}

-- the numbers of a part are below this number
pub record IsWithin (n : ℕ) (s : Stretch) : Type 0 where
  pub first : s.first < n
  pub binders : s.binders < n
  pub lets : s.lets < n

-- and numbers of binders and lets
pub record IsCountBelow (n : ℕ) (count : Count) : Type 0 where
  pub binders : count.binders < n
  pub lets : count.lets < n

-- what a meaning is
abbrev pub meant_of : Meaning → Meant
meant_of (meaning.Binder x) = binder x
meant_of (meaning.Let k) = let_number k
meant_of (meaning.Scheme g) = scheme g

-- what a name means at present
abbrev pub meant_now : BTreeMap (List ℕ) Meaning → List ℕ → Option Meant
meant_now meanings x = option_map meant_of (get (slice_cmp nat_cmp) meanings x)

-- one name means this, and all others what they meant
abbrev pub with_meaning : (List ℕ → Option Meant) → List ℕ → Option Meant → List ℕ → Option Meant
with_meaning look x m y = cond (bytes_eq x y) m (look y)

-- names mean what the scope says
abbrev pub Agrees : (List ℕ → Option Meant) → Scope → Type 0
Agrees look scope = (x : List ℕ) → look x ≡ meant_by scope x

-- when these tasks, the next one first, are done, these parts have been read, each in its scope, and names mean what
-- they mean outside
abbrev pub Waits : Scope → List Task → (List ℕ → Option Meant) → List Waiting → Type 0
Waits outside [] look ws = (ws ≡ []) × Agrees look outside
Waits outside (task.Read s ∷ tasks) look ws =
    (scope : Scope) × (rest : List Waiting) × (ws ≡ record { scope = scope; stretch = s } ∷ rest) × Agrees look scope
    × Waits outside tasks look rest
Waits outside (task.Restore x m ∷ tasks) look ws = Waits outside tasks (with_meaning look x (option_map meant_of m)) ws

-- these parts wait
abbrev pub HasWaiting : Scope → Resolver → List Waiting → Type 0
HasWaiting outside r ws = Waits outside (reverse r.tasks.items) (meant_now r.meanings) ws

-- names mean what the scope says
abbrev pub Knows : Resolver → Scope → Type 0
Knows r scope = Agrees (meant_now r.meanings) scope

-- nothing is left to do, and names mean what the scope says
abbrev pub IsReady : Resolver → Scope → Type 0
IsReady r scope = (r.tasks.items ≡ []) × Knows r scope

-- a part is left to be read in the present scope
abbrev pub Pushes : (old new : Resolver) → Stretch → Type 0
Pushes old new s =
    (outside scope : Scope) (ws : List Waiting) → HasWaiting outside old ws → Knows old scope
    → HasWaiting outside new (record { scope = scope; stretch = s } ∷ ws) × Knows new scope

-- a name has this meaning from now on, until what is left to do above it is done
abbrev pub Binds : (old new : Resolver) → List ℕ → Meaning → Type 0
Binds old new x m =
    (outside scope : Scope) (ws : List Waiting) → HasWaiting outside old ws → Knows old scope
    → HasWaiting outside new ws × Knows new ((x, meant_of m) ∷ scope)

-- the parts of a node are left to be read: of any node, of a function or a recursion, of a let, and of a record
abbrev pub Enters : (old new : Resolver) → Stretch → Count → Form → Type 0
Enters old new s next f =
    (outside scope : Scope) (ws : List Waiting) → HasWaiting outside old ws → Knows old scope
    → HasWaiting outside new (parts_waiting scope s next f ws)

abbrev pub EntersBinder : (old new : Resolver) → Stretch → Count → List ℕ → Type 0
EntersBinder old new s next x =
    (outside scope : Scope) (ws : List Waiting) → HasWaiting outside old ws → Knows old scope
    → HasWaiting outside new (record {
      scope = (x, binder next.binders)
          ∷ scope;
      stretch = record s { binders = s.binders + 1 };
    } ∷ ws)

abbrev pub EntersLet : (old new : Resolver) → Stretch → Count → List ℕ → ℕ → Type 0
EntersLet old new s next x e =
    (outside scope : Scope) (ws : List Waiting) → HasWaiting outside old ws → Knows old scope
    → HasWaiting outside new (let_waiting scope s next x e ws)

abbrev pub EntersFields : (old new : Resolver) → Stretch → List Part → Type 0
EntersFields old new s parts =
    (outside scope : Scope) (ws : List Waiting) → HasWaiting outside old ws → Knows old scope
    → HasWaiting outside new (fields_waiting scope s parts ws)

-- a name means again what it meant outside
abbrev pub Restores : (old new : Resolver) → List ℕ → Option Meaning → Type 0
Restores old new x m =
    (new.tasks ≡ old.tasks) × ((y : List ℕ) → meant_now new.meanings y
    ≡ with_meaning (meant_now old.meanings) x (option_map meant_of m) y)

-- the next part was taken, or there is none
abbrev pub IsNext : Scope → Resolver → List Waiting → Option Stretch → Type 0
IsNext outside new ws None = (ws ≡ []) × IsReady new outside
IsNext outside new ws (Some s) =
    (scope : Scope) × (rest : List Waiting) × (ws ≡ record { scope = scope; stretch = s } ∷ rest) × Knows new scope
    × HasWaiting outside new rest

abbrev pub Takes : (old new : Resolver) → Option Stretch → Type 0
Takes old new next = (outside : Scope) (ws : List Waiting) → HasWaiting outside old ws → IsNext outside new ws next

-- the reader is at this point of a walk
pub record IsAt (outside : Scope) (r : Resolver) (terms : List TermNode) (unknown : Option ℕ) (w : Walk) : Type 0 where
  pub waiting : HasWaiting outside r w.waiting
  pub terms_are : terms ≡ reverse w.terms
  pub unknown_is : unknown ≡ slice_get w.unknown 0

-- the parts that wait have numbers below this number
abbrev pub AreWithin : ℕ → List Waiting → Type 0
AreWithin n [] = Unit {0}
AreWithin n (part ∷ ws) = IsWithin n part.stretch × AreWithin n ws

abbrev pub HasWithin : ℕ → Resolver → Type 0
HasWithin n r = (outside : Scope) × (ws : List Waiting) × HasWaiting outside r ws × AreWithin n ws

-- a node is read
abbrev pub ReadsNode : List Count → ExprNode → (old new : Resolver) → (before behind : List TermNode)
    → (unknown first : Option ℕ) → Type 0
ReadsNode counts node old new before behind unknown first =
    (outside : Scope) (w : Walk) → IsAt outside old before unknown w
    → IsAt outside new behind first (step counts node w.waiting w)

-- all nodes of a tree are read
abbrev pub ReadsNodes : List ExprNode → (old new : Resolver) → (before behind : List TermNode) → Option ℕ → Type 0
ReadsNodes nodes old new before behind unknown =
    (scope : Scope) (t : Tree) → nodes ≡ tree.postorder 0 t → IsReady old scope
    → (behind ≡ before ++ reverse (postorder 0 (resolved scope 0 0 t)))
    × (unknown ≡ slice_get (unknowns (names_of scope) t) 0) × IsReady new scope

-- the nodes of a tree without unknown names have this term
abbrev pub HasTerm : (old new : Resolver) → List ExprNode → Term → Type 0
HasTerm old new nodes term =
    (scope : Scope) (t : Tree) → nodes ≡ tree.postorder 0 t → IsReady old scope → (term ≡ term_of scope t)
    × (unknowns (names_of scope) t ≡ []) × IsReady new scope

-- the first unknown name of the nodes of a tree
abbrev pub HasUnknown : Resolver → List ExprNode → Fault → Type 0
HasUnknown old nodes fault =
    (scope : Scope) (t : Tree) → nodes ≡ tree.postorder 0 t → IsReady old scope
    → IsFirstOf (unknowns (names_of scope) t) fault

-- some scope says what names mean, and nothing is left to do
abbrev pub IsIdle : Resolver → Type 0
IsIdle r = (scope : Scope) × IsReady r scope
