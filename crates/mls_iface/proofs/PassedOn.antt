-- Faults that are passed on.
use Rattle.std.proofs.Common.{◌≡◌, ◌≢◌, sym, ap, subst, Result, Ok, Err, IfErr}
use Rattle.std.specs.Result.{IsErrAnd}
use Rattle.mls_lexer.specs.declared.token.LexFault.{LexFault}
use Rattle.mls_lexer.specs.declared.token.LexFault.TheVariants as lex
use Rattle.mls_typetext.specs.declared.scheme.TypeFault.{TypeFault}
use Rattle.mls_typetext.specs.declared.scheme.TypeFault.TheVariants as type
use Rattle.mls_iface.specs.declared.interface.IfaceFault.{IfaceFault}
use Rattle.mls_iface.specs.declared.interface.IfaceFault.TheVariants.{Memory}
use Rattle.mls_iface.specs.Faults.{of_tokens, of_type}

pub passed : {T : Type 0} (result : Result T IfaceFault) (e : IfaceFault) (P : IfaceFault → Type 0) → IsErrAnd result (λ fault. fault ≡ e) → (e ≢ Memory → P e) → IfErr result (λ fault. fault ≢ Memory → P fault)
passed (Ok x) e P is h = tt
passed (Err fault) e P is h = λ other. subst P (sym is) (h (λ same. other (subst (λ f. fault ≡ f) same is)))

-- one of types,
pub passed_type : {T : Type 0} (result : Result T IfaceFault) (e : TypeFault) (P : IfaceFault → Type 0) → IsErrAnd result (λ fault. fault ≡ of_type e) → (e ≢ type.Memory → P (of_type e)) → IfErr result (λ fault. fault ≢ Memory → P fault)
passed_type result e P is h = passed result (of_type e) P is (λ other. h (λ same. other (ap of_type same)))

-- or of tokens
pub passed_tokens : {T : Type 0} (result : Result T IfaceFault) (e : LexFault) (P : IfaceFault → Type 0) → IsErrAnd result (λ fault. fault ≡ of_tokens e) → (e ≢ lex.Memory → P (of_tokens e)) → IfErr result (λ fault. fault ≢ Memory → P fault)
passed_tokens result e P is h = passed result (of_tokens e) P is (λ other. h (λ same. other (ap of_tokens same)))
