-- What a clause about a result says where another one is known.
use Rattle.std.proofs.Common.{true, false, subst}
use Rattle.std.specs.Prelude.{◌≡◌, Result, Ok, Err, OnOk, OnErr, IfErr, IfOk, IsOk}

pub on_ok : {X E : Type 0} (r : Result X E) (P Q : Type 0) → (P → Q) → OnOk r P → OnOk r Q
on_ok (Ok x) P Q f it = f it
on_ok (Err e) P Q f it = it

pub on_err : {X E : Type 0} (r : Result X E) (P Q : Type 0) → (P → Q) → OnErr r P → OnErr r Q
on_err (Ok x) P Q f it = it
on_err (Err e) P Q f it = f it

pub on_both : {X Y E F : Type 0} (r : Result X E) (s : Result Y F) (P : Type 0) → OnOk r (IsOk s) → OnOk s P → OnOk r P
on_both (Ok x) (Ok y) P first it = it
on_both (Ok x) (Err f) P first it = let e : false ≡ true = first in absurd (cc)
on_both (Err e) s P first it = tt

pub if_err : {X E : Type 0} (r : Result X E) (P Q : E → Type 0) → ((e : E) → P e → Q e) → IfErr r P → IfErr r Q
if_err (Ok x) P Q f it = it
if_err (Err e) P Q f it = f e it

pub at_err : {X E : Type 0} (r : Result X E) (P : E → Type 0) (e : E) → r ≡ Err e → IfErr r P → P e
at_err {X} {E} r P e is it = subst (λ (s : Result X E). IfErr s P) is it

pub always_ok : {X E : Type 0} (r : Result X E) (P : Type 0) → P → OnOk r P
always_ok (Ok x) P it = it
always_ok (Err e) P it = tt

pub always_err : {X E : Type 0} (r : Result X E) (P : Type 0) → P → OnErr r P
always_err (Ok x) P it = tt
always_err (Err e) P it = it

pub if_ok : {X E : Type 0} (r : Result X E) (P Q : X → Type 0) → ((x : X) → P x → Q x) → IfOk r P → IfOk r Q
if_ok (Ok x) P Q f it = f x it
if_ok (Err e) P Q f it = it
