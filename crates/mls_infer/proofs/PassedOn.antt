-- An error is passed on.
use Rattle.std.proofs.Common.{◌≡◌, sym, subst, Result, Ok, Err, IfErr}
use Rattle.std.specs.Result.{IsErrAnd}
use Rattle.mls_infer.specs.declared.solve.NoSolution.{NoSolution}

pub passed : {T : Type 0} (result : Result T NoSolution) (e : NoSolution) (P : NoSolution → Type 0) → IsErrAnd result (λ other. other ≡ e) → P e → IfErr result P
passed (Ok x) e P is h = tt
passed (Err other) e P is h = subst P (sym is) h
