-- Generation: a derivation is a rule of the expression's form, and then a subsumption.
use Rattle.std.proofs.Common.{◌≡◌, ℕ, List, [], ◌∷◌, refl, sym, subst, Some, slice_get}
use Rattle.std.specs.FinMap as env
use Rattle.mls_book.specs.declared.book.Field.{Field}
use Rattle.mls_book.specs.declared.book.NodeId.{NodeId}
use Rattle.mls_book.specs.declared.book.Node.TheVariants as node
use Rattle.mls_book.specs.Books.{node_at}
use Rattle.mls_book.specs.Schemes.{Env, Scheme, IsScheme, Subsumes}
use Rattle.mls_book.proofs.Subsumption.{Subsumes-refl, Subsumes-trans}
use Rattle.mls_term.specs.Terms.{TermTree, TermFields, bound, inner, global, number, truth, fun, apply, make, project, choice, local, fix, no_field}
use Rattle.mls_term.specs.Derivations.{Known, with_let, over, Takes, IsMeet, HaveLabels, Derives, var_inner, var_global, var_fun, lit_truth, lit_number, abs, app, rcd, proj, cond, let_in, rec_fix, sub, AllDerive}

-- what the rule of each form asks of a scheme
pub record ByBound (x : ℕ) (s : Scheme) : Type 0 where
  pub scheme : IsScheme s
  pub env_is : s.env ≡ env.insert env.empty x s.root

pub record ByTruth (s : Scheme) : Type 0 where
  pub scheme : IsScheme s
  pub env_is : s.env ≡ env.empty
  pub root_is : node_at s.book s.root ≡ node.Bool

pub record ByNumber (s : Scheme) : Type 0 where
  pub scheme : IsScheme s
  pub env_is : s.env ≡ env.empty
  pub root_is : node_at s.book s.root ≡ node.Int

pub record ByFun (known : Known) (x : ℕ) (body : TermTree) (s : Scheme) : Type 0 where
  pub scheme : IsScheme s
  pub d : Env
  pub i : NodeId
  pub j : NodeId
  pub env_is : s.env ≡ env.remove d x
  pub takes : Takes s.book d x i
  pub root_is : node_at s.book s.root ≡ node.Arrow i j
  pub body_has : Derives known body (over s d j.0)

pub record ByApply (known : Known) (function argument : TermTree) (s : Scheme) : Type 0 where
  pub scheme : IsScheme s
  pub f : ℕ
  pub i : NodeId
  pub function_is : node_at s.book f ≡ node.Arrow i (record { 0 = s.root })
  pub function_has : Derives known function (over s s.env f)
  pub argument_has : Derives known argument (over s s.env i.0)

pub record ByMake (known : Known) (parts : TermFields) (s : Scheme) : Type 0 where
  pub scheme : IsScheme s
  pub fields : List Field
  pub root_is : node_at s.book s.root ≡ node.Rcd fields
  pub labels : HaveLabels parts fields
  pub nothing : parts ≡ no_field → s.env ≡ env.empty
  pub parts_have : AllDerive known parts s fields

pub record ByProject (known : Known) (body : TermTree) (label : List ℕ) (s : Scheme) : Type 0 where
  pub scheme : IsScheme s
  pub i : ℕ
  pub field : Field
  pub record_is : node_at s.book i ≡ node.Rcd (field ∷ [])
  pub label_is : field.label ≡ label
  pub node_is : field.node.0 ≡ s.root
  pub body_has : Derives known body (over s s.env i)

pub record ByChoice (known : Known) (condition first second : TermTree) (s : Scheme) : Type 0 where
  pub scheme : IsScheme s
  pub i : ℕ
  pub condition_is : node_at s.book i ≡ node.Bool
  pub condition_has : Derives known condition (over s s.env i)
  pub first_has : Derives known first s
  pub second_has : Derives known second s

pub record ByLet (known : Known) (k : ℕ) (first second : TermTree) (s : Scheme) : Type 0 where
  pub scheme : IsScheme s
  pub d1 : Env
  pub d2 : Env
  pub t1 : ℕ
  pub meet : IsMeet s.book d1 d2 s.env
  pub first_has : Derives known first (over s d1 t1)
  pub second_has : Derives (with_let known k (over s d1 t1)) second (over s d2 s.root)

pub record ByFix (known : Known) (x : ℕ) (body : TermTree) (s : Scheme) : Type 0 where
  pub scheme : IsScheme s
  pub d : Env
  pub env_is : s.env ≡ env.remove d x
  pub root_is : env.get d x ≡ Some s.root
  pub body_has : Derives known body (over s d s.root)

-- the rule of the form of an expression gives it the scheme
abbrev pub ByRule : Known → TermTree → Scheme → Type 0
ByRule known (inner at k) s = env.get known.lets k ≡ Some s
ByRule known (global at g) s = slice_get known.globals g ≡ Some s
ByRule known (bound at x) s = ByBound x s
ByRule known (truth at value) s = ByTruth s
ByRule known (number at value) s = ByNumber s
ByRule known (fun at x body) s = ByFun known x body s
ByRule known (apply at function argument) s = ByApply known function argument s
ByRule known (make at parts) s = ByMake known parts s
ByRule known (project at body label) s = ByProject known body label s
ByRule known (choice at condition first second) s = ByChoice known condition first second s
ByRule known (local at k first second) s = ByLet known k first second s
ByRule known (fix at x body) s = ByFix known x body s

-- and the other way round
pub from_rule : (known : Known) (t : TermTree) (s : Scheme) → ByRule known t s → Derives known t s
from_rule known (inner at k) s h = var_inner at k refl h
from_rule known (global at g) s h = var_global at g refl h
from_rule known (bound at x) s h = var_fun at x refl h.scheme h.env_is
from_rule known (truth at value) s h = lit_truth at value refl h.scheme h.env_is h.root_is
from_rule known (number at value) s h = lit_number at value refl h.scheme h.env_is h.root_is
from_rule known (fun at x body) s h = abs at x body h.d h.i h.j refl h.scheme h.env_is h.takes h.root_is h.body_has
from_rule known (apply at function argument) s h = app at function argument h.f h.i refl h.scheme h.function_is h.function_has h.argument_has
from_rule known (make at parts) s h = rcd at parts h.fields refl h.scheme h.root_is h.labels h.nothing h.parts_have
from_rule known (project at body label) s h = proj at body label h.i h.field refl h.scheme h.record_is h.label_is h.node_is h.body_has
from_rule known (choice at condition first second) s h = cond at condition first second h.i refl h.scheme h.condition_is h.condition_has h.first_has h.second_has
from_rule known (local at k first second) s h = let_in at k first second h.d1 h.d2 h.t1 refl h.scheme h.meet h.first_has h.second_has
from_rule known (fix at x body) s h = rec_fix at x body h.d refl h.scheme h.env_is h.root_is h.body_has

-- the scheme of a rule, and that it subsumes this one
pub record Generated (known : Known) (t : TermTree) (s : Scheme) : Type 0 where
  pub first : Scheme
  pub rule : ByRule known t first
  pub subsumes : Subsumes first s

at_once : (known : Known) (t form : TermTree) (s : Scheme) → t ≡ form → ByRule known form s → Generated known t s
at_once known t form s e rule = record {
  first = s;
  rule = let P : TermTree → Type 0 = λ u. ByRule known u s in subst P (sym e) rule;
  subsumes = Subsumes-refl s;
}

pub generation : (known : Known) (t : TermTree) (s : Scheme) → Derives known t s → Generated known t s
generation known t s (var_inner at k e h) = at_once known t (inner at k) s e h
generation known t s (var_global at g e h) = at_once known t (global at g) s e h
generation known t s (var_fun at x e scheme env_is) = at_once known t (bound at x) s e (record { scheme = scheme; env_is = env_is })
generation known t s (lit_truth at value e scheme env_is root_is) = at_once known t (truth at value) s e (record { scheme = scheme; env_is = env_is; root_is = root_is })
generation known t s (lit_number at value e scheme env_is root_is) = at_once known t (number at value) s e (record { scheme = scheme; env_is = env_is; root_is = root_is })
generation known t s (abs at x body d i j e scheme env_is takes root_is h) =
    at_once known t (fun at x body) s e (record { scheme = scheme; d = d; i = i; j = j; env_is = env_is; takes = takes; root_is = root_is; body_has = h })
generation known t s (app at function argument f i e scheme function_is h h') =
    at_once known t (apply at function argument) s e (record { scheme = scheme; f = f; i = i; function_is = function_is; function_has = h; argument_has = h' })
generation known t s (rcd at parts fields e scheme root_is labels nothing h) =
    at_once known t (make at parts) s e (record { scheme = scheme; fields = fields; root_is = root_is; labels = labels; nothing = nothing; parts_have = h })
generation known t s (proj at body label i field e scheme record_is label_is node_is h) =
    at_once known t (project at body label) s e (record { scheme = scheme; i = i; field = field; record_is = record_is; label_is = label_is; node_is = node_is; body_has = h })
generation known t s (cond at condition first second i e scheme condition_is h h1 h2) =
    at_once known t (choice at condition first second) s e (record { scheme = scheme; i = i; condition_is = condition_is; condition_has = h; first_has = h1; second_has = h2 })
generation known t s (let_in at k first second d1 d2 t1 e scheme meet h1 h2) =
    at_once known t (local at k first second) s e (record { scheme = scheme; d1 = d1; d2 = d2; t1 = t1; meet = meet; first_has = h1; second_has = h2 })
generation known t s (rec_fix at x body d e scheme env_is root_is h) =
    at_once known t (fix at x body) s e (record { scheme = scheme; d = d; env_is = env_is; root_is = root_is; body_has = h })
generation known t s (sub first h subsumes scheme) =
    let g : Generated known t first = generation known t first h in
    record { first = g.first; rule = g.rule; subsumes = Subsumes-trans g.first first s g.subsumes subsumes }
