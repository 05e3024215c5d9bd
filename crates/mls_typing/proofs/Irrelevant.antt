-- What an expression has depends on the schemes of the names that it uses alone.
--     Agree                two environments have the same schemes for these names
--     derives_agree
use Rattle.std.proofs.Common.{◌≡◌, List, ◌∙◌, subst, slice_get}
use Rattle.std.specs.FinMap as finmap
use Rattle.mls_book.specs.declared.book.Field.{Field}
use Rattle.mls_book.specs.Schemes.{Scheme}
use Rattle.mls_term.specs.Terms.{TermTree, TermFields, bound, inner, global, number, truth, fun, apply, make, project, choice, local, fix, no_field, a_field}
use Rattle.mls_term.specs.Derivations.{Known, with_let, over, Derives, var_inner, var_global, var_fun, lit_truth, lit_number, abs, app, rcd, proj, cond as if_else, let_in, rec_fix, sub, AllDerive, none, more}

-- the same schemes for the names that an expression uses
abbrev mutual
  pub Agree : Known → Known → TermTree → Type 0
  Agree known other (inner at k) = finmap.get other.lets k ≡ finmap.get known.lets k
  Agree known other (global at g) = slice_get other.globals g ≡ slice_get known.globals g
  Agree known other (bound at x) = Unit {0}
  Agree known other (number at value) = Unit {0}
  Agree known other (truth at value) = Unit {0}
  Agree known other (fun at x e) = Agree known other e
  Agree known other (apply at e f) = Agree known other e × Agree known other f
  Agree known other (make at fields) = AgreeFields known other fields
  Agree known other (project at e label) = Agree known other e
  Agree known other (choice at c e f) = Agree known other c × (Agree known other e × Agree known other f)
  Agree known other (local at k e f) = Agree known other e × ((s : Scheme) → Agree (with_let known k s) (with_let other k s) f)
  Agree known other (fix at x e) = Agree known other e

  pub AgreeFields : Known → Known → TermFields → Type 0
  AgreeFields known other no_field = Unit {0}
  AgreeFields known other (a_field label e rest) = Agree known other e × AgreeFields known other rest

-- the one derives what the other does
mutual
  pub derives_agree : (known other : Known) (t : TermTree) (s : Scheme) → Agree known other t → Derives known t s → Derives other t s
  derives_agree known other t s agree (var_inner at k e h) =
      let A : TermTree → Type 0 = λ t. Agree known other t in
      let same : finmap.get other.lets k ≡ finmap.get known.lets k = subst A e agree in
      var_inner at k e (same ∙ h)
  derives_agree known other t s agree (var_global at g e h) =
      let A : TermTree → Type 0 = λ t. Agree known other t in
      let same : slice_get other.globals g ≡ slice_get known.globals g = subst A e agree in
      var_global at g e (same ∙ h)
  derives_agree known other t s agree (var_fun at x e scheme env_is) = var_fun at x e scheme env_is
  derives_agree known other t s agree (lit_truth at value e scheme env_is root_is) = lit_truth at value e scheme env_is root_is
  derives_agree known other t s agree (lit_number at value e scheme env_is root_is) = lit_number at value e scheme env_is root_is
  derives_agree known other t s agree (abs at x body d i j e scheme env_is takes root_is h) =
      let A : TermTree → Type 0 = λ t. Agree known other t in
      abs at x body d i j e scheme env_is takes root_is (derives_agree known other body (over s d j.0) (subst A e agree) h)
  derives_agree known other t s agree (app at function argument f i e scheme function_is h h') =
      let A : TermTree → Type 0 = λ t. Agree known other t in
      let both : Agree known other function × Agree known other argument = subst A e agree in
      app at function argument f i e scheme function_is
      (derives_agree known other function (over s s.env f) both.0 h)
      (derives_agree known other argument (over s s.env i.0) both.1 h')
  derives_agree known other t s agree (rcd at parts fields e scheme root_is labels nothing h) =
      let A : TermTree → Type 0 = λ t. Agree known other t in
      rcd at parts fields e scheme root_is labels nothing (all_agree known other parts s fields (subst A e agree) h)
  derives_agree known other t s agree (proj at body label i field e scheme record_is label_is node_is h) =
      let A : TermTree → Type 0 = λ t. Agree known other t in
      proj at body label i field e scheme record_is label_is node_is (derives_agree known other body (over s s.env i) (subst A e agree) h)
  derives_agree known other t s agree (if_else at condition first second i e scheme condition_is h h1 h2) =
      let A : TermTree → Type 0 = λ t. Agree known other t in
      let all : Agree known other condition × (Agree known other first × Agree known other second) = subst A e agree in
      if_else at condition first second i e scheme condition_is
      (derives_agree known other condition (over s s.env i) all.0 h)
      (derives_agree known other first s all.1.0 h1)
      (derives_agree known other second s all.1.1 h2)
  derives_agree known other t s agree (let_in at k first second d1 d2 t1 e scheme meet h1 h2) =
      let A : TermTree → Type 0 = λ t. Agree known other t in
      let both : Agree known other first × ((u : Scheme) → Agree (with_let known k u) (with_let other k u) second) = subst A e agree in
      let_in at k first second d1 d2 t1 e scheme meet
      (derives_agree known other first (over s d1 t1) both.0 h1)
      (derives_agree (with_let known k (over s d1 t1)) (with_let other k (over s d1 t1)) second (over s d2 s.root) (both.1 (over s d1 t1)) h2)
  derives_agree known other t s agree (rec_fix at x body d e scheme env_is root_is h) =
      let A : TermTree → Type 0 = λ t. Agree known other t in
      rec_fix at x body d e scheme env_is root_is (derives_agree known other body (over s d s.root) (subst A e agree) h)
  derives_agree known other t s agree (sub first h subsumes scheme) = sub first (derives_agree known other t first agree h) subsumes scheme

  all_agree : (known other : Known) (parts : TermFields) (s : Scheme) (fields : List Field) → AgreeFields known other parts → AllDerive known parts s fields → AllDerive other parts s fields
  all_agree known other parts s fields agree (none e) = none e
  all_agree known other parts s fields agree (more label body rest i e has h others) =
      let A : TermFields → Type 0 = λ ps. AgreeFields known other ps in
      let both : Agree known other body × AgreeFields known other rest = subst A e agree in
      more label body rest i e has (derives_agree known other body (over s s.env i.0) both.0 h) (all_agree known other rest s fields both.1 others)
