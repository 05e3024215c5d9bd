-- What a clause about a result says where it is known to be an `Ok` or an `Err`.
use Rattle.std.specs.Prelude.{◌≡◌, true, false, Result, Ok, Err, OnOk, OnErr, is_err}

module _ {X E : Type 0} where
  pub refused : (r : Result X E) (P : Type 0) → is_err r ≡ true → OnErr r P → P
  refused (Ok x) P is it = absurd (cc)
  refused (Err e) P is it = it

  pub accepted : (r : Result X E) (P : Type 0) → is_err r ≡ false → OnOk r P → P
  accepted (Ok x) P is it = it
  accepted (Err e) P is it = absurd (cc)
