-- Environments of no binder and of one, and schemes over them.
use Rattle.std.proofs.Common.{◌≡◌, ℕ, ◌<◌, Bool, true, false, List, length, refl, sym, ap, ◌∙◌, arith, Some, None, cond}
use Rattle.std.specs.FinMap as env
use Rattle.std.specs.FinMap.{same_map, nat_cmp-IsAntisymmetric, get-insert, get-remove, get-empty}
use Rattle.std.specs.Ordering.{nat_cmp, eq_by_cmp, is_eq}
use Rattle.std.specs.Cmp.{nat_cmp_is}
use Rattle.std.specs.declared.cmp.Ordering.TheVariants.{Less, Equal, Greater}
use Rattle.std.specs.declared.cmp.Ordering.{Ordering}
use Rattle.std.proofs.lemmas.Cmp.{nat_cmp_total}
use Rattle.mls_book.specs.declared.book.Node.{Node}
use Rattle.mls_book.specs.Books.{IsClosedBook}
use Rattle.mls_book.specs.Schemes.{Env, Scheme, IsScheme}

-- an environment of one binder
abbrev pub one : ℕ → ℕ → Env
one x i = env.insert env.empty x i

pub get-one : (x i : ℕ) → env.get (one x i) x ≡ Some i
get-one x i = grind (arith, env.gets)

unlike : (x b : ℕ) → x < b → eq_by_cmp nat_cmp b x ≡ false
unlike x b low = ap is_eq (sym (nat_cmp_is b x Greater low))

pub get-other : (x i b : ℕ) → x < b → env.get (one x i) b ≡ None
get-other x i b low =
    get-insert nat_cmp_total env.empty x i b
    ∙ ap (λ t. cond t (Some i) (env.get (env.empty {X = ℕ} {R = nat_cmp}) b)) (unlike x b low)
    ∙ get-empty nat_cmp b

pub remove-empty : (b : ℕ) → env.remove (env.empty {X = ℕ} {R = nat_cmp}) b ≡ env.empty
remove-empty b = same_map nat_cmp_total nat_cmp-IsAntisymmetric _ _ (λ q. grind (arith, env.gets))

equal_is : (o : Ordering) → is_eq o ≡ true → o ≡ Equal
equal_is Less e = absurd (cc)
equal_is Equal e = refl
equal_is Greater e = absurd (cc)

pub remove-other : (x i b : ℕ) → x < b → env.remove (one x i) b ≡ one x i
remove-other x i b low = same_map nat_cmp_total nat_cmp-IsAntisymmetric _ _ at
  where
    by_test : (q : ℕ) (t : Bool) → eq_by_cmp nat_cmp q b ≡ t → cond t None (env.get (one x i) q) ≡ env.get (one x i) q
    by_test q true e = sym (ap (env.get (one x i)) (nat_cmp-IsAntisymmetric q b (equal_is (nat_cmp q b) e)) ∙ get-other x i b low)
    by_test q false e = refl

    at : (q : ℕ) → env.get (env.remove (one x i) b) q ≡ env.get (one x i) q
    at q = get-remove nat_cmp_total (one x i) b q ∙ by_test q (eq_by_cmp nat_cmp q b) refl

pub remove-one : (x i : ℕ) → env.remove (one x i) x ≡ env.empty
remove-one x i = same_map nat_cmp_total nat_cmp-IsAntisymmetric _ _ (λ q. grind (arith, env.gets))

-- a scheme by its parts
abbrev pub scheme_at : List Node → Env → ℕ → Scheme
scheme_at b d root = record { book = b; env = d; root = root }

pub is_scheme-empty : (b : List Node) → IsClosedBook b → (p : ℕ) → p < length b → IsScheme (scheme_at b env.empty p)
is_scheme-empty b closed p low = record {
  book = closed;
  root = low;
  env = λ x i e. absurd (no_entry x i e);
}
  where
    no_entry : (x i : ℕ) → env.get (env.empty {X = ℕ} {R = nat_cmp}) x ≡ Some i → ⊥
    no_entry x i e = grind (arith, env.gets)

pub is_scheme-one : (b : List Node) → IsClosedBook b → (x n p : ℕ) → n < length b → p < length b → IsScheme (scheme_at b (one x n) p)
is_scheme-one b closed x n p n_low low = record {
  book = closed;
  root = low;
  env = λ y i e. entry y i e;
}
  where
    entry : (y i : ℕ) → env.get (one x n) y ≡ Some i → i < length b
    entry y i e = let same : n ≡ i = grind (arith, env.gets) in omega arith
