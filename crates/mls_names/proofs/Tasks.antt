-- What the reader does with its tasks.
use Rattle.std.proofs.Common.{◌≡◌, ℕ, ◌+◌, true, false, Bool, cond, List, [], ◌∷◌, ◌++◌, reverse, refl, sym, ap, subst, ◌∙◌, Some, bytes_eq}
use Rattle.std.specs.Prelude.{Option, option_map, find, Result, Ok, Err, OnOk}
use Rattle.std.proofs.lemmas.List.{reverse-append}
use Rattle.std.proofs.lemmas.Slice.Eq.{bytes_eq-Decides}
use Rattle.std.proofs.lemmas.Map.Text.{is_eq-slice_cmp}
use Rattle.std.specs.BTreeMap.{BTreeMap, get, Updates}
use Rattle.std.specs.Ordering.{nat_cmp}
use Rattle.std.specs.Cmp.Lexicographic.{slice_cmp}
use Rattle.mls_names.specs.declared.counts.Count.{Count}
use Rattle.mls_term.specs.declared.term.Part.{Part}
use Rattle.mls_names.specs.declared.resolver.Meaning.{Meaning}
use Rattle.mls_names.specs.declared.resolver.Meaning.TheVariants as meaning
use Rattle.mls_names.specs.declared.resolver.Stretch.{Stretch}
use Rattle.mls_names.specs.declared.resolver.Task.{Task}
use Rattle.mls_names.specs.declared.resolver.Task.TheVariants as task
use Rattle.mls_names.specs.declared.resolver.Resolver.{Resolver}
use Rattle.mls_names.specs.Resolution.{Meant, binder, let_number, Scope, meant_by}
use Rattle.mls_names.specs.steps.Walks.{Waiting, after, fields_waiting, meant_of, meant_now, with_meaning, Waits, HasWaiting, Knows, Pushes, Binds, EntersBinder, EntersLet, EntersFields, Restores, IsReady}

-- what names mean counts only name by name
pub same_waits : (outside : Scope) (tasks : List Task) (look other : List ℕ → Option Meant) (ws : List Waiting) → ((x : List ℕ) → look x ≡ other x) → Waits outside tasks look ws → Waits outside tasks other ws
same_waits outside tasks look other ws same h = subst (λ (l : List ℕ → Option Meant). Waits outside tasks l ws) (λ i x. same x i) h

-- a task that is put on the others comes first
pub last_first : (tasks : List Task) (t : Task) → reverse (tasks ++ t ∷ []) ≡ t ∷ reverse tasks
last_first tasks t = reverse-append tasks (t ∷ [])

-- a name is put into a scope
meant_more : (scope : Scope) (x : List ℕ) (m : Meant) (y : List ℕ) → meant_by ((x, m) ∷ scope) y ≡ with_meaning (meant_by scope) x (Some m) y
meant_more scope x m y = by (bytes_eq x y)
  where
    by : (b : Bool) → option_map (λ (entry : List ℕ × Meant). entry.1) (cond b (Some (x, m)) (find (λ (entry : List ℕ × Meant). bytes_eq entry.0 y) scope)) ≡ cond b (Some m) (meant_by scope y)
    by true = refl
    by false = refl

-- where a name means something else and then again what it meant, nothing has changed
put_back : (look : List ℕ → Option Meant) (x : List ℕ) (m : Option Meant) (y : List ℕ) → with_meaning (with_meaning look x m) x (look x) y ≡ look y
put_back look x m y = by (bytes_eq x y) refl
  where
    by : (b : Bool) → bytes_eq x y ≡ b → cond b (look x) (cond b m (look y)) ≡ look y
    by true e = ap look ((bytes_eq-Decides x y).0 e)
    by false e = refl

-- an inserted meaning, as what names mean
cond_map : (b : Bool) (m : Option Meaning) (rest : Option Meaning) → option_map meant_of (cond b m rest) ≡ cond b (option_map meant_of m) (option_map meant_of rest)
cond_map true m rest = refl
cond_map false m rest = refl

-- names that are equal are at the same place of the order
changed : (old new : BTreeMap (List ℕ) Meaning) (y : List ℕ) (m : Option Meaning) → Updates (slice_cmp nat_cmp) old new y m
    → (q : List ℕ) → get (slice_cmp nat_cmp) new q ≡ cond (bytes_eq y q) m (get (slice_cmp nat_cmp) old q)
changed old new y m updates q = updates.0 q ∙ ap (λ b. cond b m (get (slice_cmp nat_cmp) old q)) (is_eq-slice_cmp y q)

-- where a name means this or nothing, it means nothing else
pub restores : (old new : Resolver) (x : List ℕ) (m : Option Meaning) → Updates (slice_cmp nat_cmp) old.meanings new.meanings x m
    → new.tasks ≡ old.tasks → Restores old new x m
restores old new x m updates tasks = (
  tasks,
  λ y. ap (option_map meant_of) (changed old.meanings new.meanings x m updates y) ∙ cond_map (bytes_eq x y) m (get (slice_cmp nat_cmp) old.meanings y),
)

-- a name is declared where nothing is left to do
pub declares : (old new : Resolver) (x y : List ℕ) (m : Meaning) → Updates (slice_cmp nat_cmp) old.meanings new.meanings y (Some m) → y ≡ x → new.tasks.items ≡ old.tasks.items
    → (scope : Scope) → IsReady old scope → IsReady new ((x, meant_of m) ∷ scope)
declares old new x y m updates same tasks scope ready = (
  tasks ∙ ready.0,
  λ q. ap (option_map meant_of) (changed old.meanings new.meanings y (Some m) updates q)
      ∙ (cond_map (bytes_eq y q) (Some m) (get (slice_cmp nat_cmp) old.meanings q)
      ∙ ((λ i. cond (bytes_eq (same i) q) (Some (meant_of m)) (ready.1 q i))
      ∙ sym (meant_more scope x (meant_of m) q))),
)

-- a name has a new meaning, and what it meant is kept below it
module _ (old new : Resolver) (x y z : List ℕ) (m : Meaning) (outside : Option Meaning)
    (updates : Updates (slice_cmp nat_cmp) old.meanings new.meanings y (Some m))
    (same : y ≡ x) (was : outside ≡ get (slice_cmp nat_cmp) old.meanings y)
    (tasks : new.tasks.items ≡ old.tasks.items ++ task.Restore z outside ∷ []) (alike : z ≡ x) where
  now : (q : List ℕ) → meant_now new.meanings q ≡ with_meaning (meant_now old.meanings) x (Some (meant_of m)) q
  now q = ap (option_map meant_of) (changed old.meanings new.meanings y (Some m) updates q) ∙ cond_map (bytes_eq y q) (Some m) (get (slice_cmp nat_cmp) old.meanings q) ∙ (λ i. cond (bytes_eq (same i) q) (Some (meant_of m)) (meant_now old.meanings q))

  back : (q : List ℕ) → meant_now old.meanings q ≡ with_meaning (meant_now new.meanings) z (option_map meant_of outside) q
  back q =
      sym (put_back (meant_now old.meanings) x (Some (meant_of m)) q)
      ∙ (λ i. cond (bytes_eq (sym alike i) q) (option_map meant_of (sym (was ∙ ap (get (slice_cmp nat_cmp) old.meanings) same) i)) (sym (now q) i))

  pub binds : Binds old new x m
  binds outer scope ws waits knows = (
    subst (λ (ts : List Task). Waits outer ts (meant_now new.meanings) ws) (sym (ap reverse tasks ∙ last_first old.tasks.items (task.Restore z outside)))
        (same_waits outer (reverse old.tasks.items) (meant_now old.meanings) (with_meaning (meant_now new.meanings) z (option_map meant_of outside)) ws back waits),
    λ q. now q ∙ (λ i. cond (bytes_eq x q) (Some (meant_of m)) (knows q i)) ∙ sym (meant_more scope x (meant_of m) q),
  )

-- what holds in any case
pub fine : {T E : Type 0} (r : Result T E) (P : Type 0) → P → OnOk r P
fine (Ok x) P h = h
fine (Err e) P h = tt

-- what a result that is fine says may be weakened
pub on_ok : {T E : Type 0} (r : Result T E) (P Q : Type 0) → (P → Q) → OnOk r P → OnOk r Q
on_ok (Ok x) P Q f h = f h
on_ok (Err e) P Q f h = h

-- the body of a function or a recursion waits
pub enters_binder : (old middle new : Resolver) (s : Stretch) (next : Count) (x : List ℕ) → Binds old middle x (meaning.Binder next.binders)
    → Pushes middle new (record s { binders = s.binders + 1 }) → EntersBinder old new s next x
enters_binder old middle new s next x bound pushed outside scope ws waits knows =
    let inner = bound outside scope ws waits knows in
    (pushed outside ((x, binder next.binders) ∷ scope) ws inner.0 inner.1).0

-- the parts of a let wait
pub enters_let : (old first middle new : Resolver) (s : Stretch) (next : Count) (x : List ℕ) (e : ℕ) → Pushes old first (record s { lets = s.lets + 1 }) → Binds first middle x (meaning.Let next.lets)
    → Pushes middle new (after (record s { lets = s.lets + 1 }) e) → EntersLet old new s next x e
enters_let old first middle new s next x e early bound late outside scope ws waits knows =
    let one = early outside scope ws waits knows in
    let two = bound outside scope (record { scope = scope; stretch = record s { lets = s.lets + 1 } } ∷ ws) one.0 one.1 in
    (late outside ((x, let_number next.lets) ∷ scope) (record { scope = scope; stretch = record s { lets = s.lets + 1 } } ∷ ws) two.0 two.1).0

-- the parts of a record so far wait
abbrev pub AreEntering : (old now : Resolver) → Stretch → List Part → Stretch → List Part → Type 0
AreEntering old now s parts s' rest =
    (outside scope : Scope) (ws : List Waiting) → HasWaiting outside old ws → Knows old scope
    → (more : List Waiting) × HasWaiting outside now more × Knows now scope × (fields_waiting scope s' rest more ≡ fields_waiting scope s parts ws)

pub entering_first : (r : Resolver) (s : Stretch) (parts : List Part) → AreEntering r r s parts s parts
entering_first r s parts outside scope ws waits knows = (ws, waits, knows, refl)

pub entering_more : (old now new : Resolver) (s s' : Stretch) (parts rest more : List Part) (part : Part) → AreEntering old now s parts s' rest → rest ≡ part ∷ more → Pushes now new s' → AreEntering old new s parts (after s' part.child) more
entering_more old now new s s' parts rest more part h is pushed outside scope ws waits knows =
    let it = h outside scope ws waits knows in
    let next = pushed outside scope it.0 it.1 it.2 in
    (record { scope = scope; stretch = s' } ∷ it.0, next.0, next.1, ap (λ (ps : List Part). fields_waiting scope s' ps it.0) (sym is) ∙ it.3)

pub entering_last : (old new : Resolver) (s s' : Stretch) (parts rest : List Part) → AreEntering old new s parts s' rest → rest ≡ [] → EntersFields old new s parts
entering_last old new s s' parts rest h is outside scope ws waits knows =
    let it = h outside scope ws waits knows in
    subst (λ (more : List Waiting). HasWaiting outside new more) (ap (λ (ps : List Part). fields_waiting scope s' ps it.0) (sym is) ∙ it.3) it.1
