-- An interface without its first declaration is an interface.
use Rattle.std.proofs.Common.{◌≡◌, ◌⊎◌, inl, inr, ℕ, suc, ◌+◌, List, [], ◌∷◌, ◌++◌, length, take, refl, sym, ap, ◌∙◌, subst, arith}
use Rattle.std.proofs.Math.Seq.{take-append-add}
use Rattle.mls_lexer.specs.declared.token.Kind.TheVariants as kind
use Rattle.mls_lexer.specs.Tokens.{Terminal, name, word}
use Rattle.mls_typetext.specs.Phrases.{Phrase, whole, yields, width}
use Rattle.mls_typetext.specs.Stops.{IsType, BeginsType}
use Rattle.mls_typetext.proofs.OnePhrase.{IsOver, one_phrase_before}
use Rattle.mls_iface.proofs.Widths.{width-yields}
use Rattle.mls_iface.specs.Declarations.{Declaration, spelled, IsInterface, BeginsInterface}
use Rattle.mls_iface.proofs.Yields.{yields-append}

-- a declaration, and what follows it
abbrev pub header : List ℕ → Phrase whole → List Terminal → List Terminal
header x p vs = word kind.WordVal ∷ name x ∷ word kind.Colon ∷ yields p vs

-- nothing follows, or another declaration
abbrev pub IsBound : List Terminal → Type 0
IsBound vs = (vs ≡ []) ⊎ ((rest : List Terminal) × (vs ≡ word kind.WordVal ∷ rest))

pub over-nothing : IsOver whole []
over-nothing = (λ rest e. cc, λ rest e. cc, λ rest e. cc)

over-val : (rest : List Terminal) → IsOver whole (word kind.WordVal ∷ rest)
over-val rest = (λ rest e. cc, λ rest e. cc, λ rest e. cc)

pub bound-over : (vs : List Terminal) → IsBound vs → IsOver whole vs
bound-over vs (inl none) = subst (IsOver whole) (sym none) over-nothing
bound-over vs (inr (rest, is)) = subst (IsOver whole) (sym is) (over-val rest)

pub spelled-bound : (ds : List Declaration) → IsBound (spelled ds)
unfolding spelled
spelled-bound [] = inl refl
spelled-bound (d ∷ ds) = inr (name d.declared ∷ word kind.Colon ∷ yields d.type (spelled ds), refl)

behind_header : (x y : List ℕ) (ts us : List Terminal)
    → word kind.WordVal ∷ name x ∷ word kind.Colon ∷ ts ≡ word kind.WordVal ∷ name y ∷ word kind.Colon ∷ us → (x ≡ y) × (ts ≡ us)
behind_header x y ts us e = (cc, cc)

-- the first declaration is read in one way
pub first_declaration : (d : Declaration) (ds : List Declaration) (x : List ℕ) (p : Phrase whole) (vs : List Terminal)
    → spelled (d ∷ ds) ≡ header x p vs → IsBound vs → (d.declared ≡ x) × (d.type ≡ p) × (spelled ds ≡ vs)
unfolding spelled
first_declaration d ds x p vs is bound =
    let parts = behind_header d.declared x (yields d.type (spelled ds)) (yields p vs) is in
    let same = one_phrase_before d.type p (spelled ds) vs (bound-over (spelled ds) (spelled-bound ds)) (bound-over vs bound) parts.1 in
    (parts.0, same.0, same.1)

pub without_first : (es : List Declaration) (x : List ℕ) (p : Phrase whole) (vs : List Terminal)
    → spelled es ≡ header x p vs → IsBound vs → IsInterface vs
unfolding spelled
without_first [] x p vs is bound = absurd (cc)
without_first (d ∷ ds) x p vs is bound = (ds, (first_declaration d ds x p vs is bound).2)

pub header-append : (x : List ℕ) (p : Phrase whole) (vs more : List Terminal) → header x p (vs ++ more) ≡ header x p vs ++ more
header-append x p vs more = ap (λ ts. word kind.WordVal ∷ name x ∷ word kind.Colon ∷ ts) (yields-append p vs more)

pub with_first : (x : List ℕ) (p : Phrase whole) (vs : List Terminal) → IsInterface vs → IsInterface (header x p vs)
unfolding spelled
with_first x p vs (ds, is) = (record { declared = x; type = p } ∷ ds, ap (header x p) is)

pub begins_with_first : (x : List ℕ) (p : Phrase whole) (vs : List Terminal) → BeginsInterface vs → BeginsInterface (header x p vs)
begins_with_first x p vs (more, is) = (more, subst IsInterface (header-append x p vs more) (with_first x p (vs ++ more) is))

pub begins_without_first : (x : List ℕ) (p : Phrase whole) (vs rest : List Terminal) → vs ≡ word kind.WordVal ∷ rest
    → BeginsInterface (header x p vs) → BeginsInterface vs
begins_without_first x p vs rest at (more, (es, is)) =
    (more, without_first es x p (vs ++ more) (is ∙ sym (header-append x p vs more)) (inr (rest ++ more, ap (λ ts. ts ++ more) at)))

-- the first terminals of a declaration and of what follows it
pub take-header : (x : List ℕ) (p : Phrase whole) (vs : List Terminal) (m n : ℕ) → m ≡ suc (suc (suc (width p + n))) → take m (header x p vs) ≡ header x p (take n vs)
take-header x p vs m n is =
    let size : length (yields p []) ≡ width p + 0 = width-yields p [] in
    let count : width p + n ≡ length (yields p []) + n = omega arith in
    ap (λ i. take i (header x p vs)) is
    ∙ ap (λ ts. word kind.WordVal ∷ name x ∷ word kind.Colon ∷ ts)
    (ap (λ i. take i (yields p vs)) count
    ∙ (ap (take (length (yields p []) + n)) (yields-append p [] vs)
    ∙ (take-append-add (yields p []) vs n
    ∙ sym (yields-append p [] (take n vs)))))

-- two lists that are put together alike: the first is the longer one, or the other
split_at : (q ys a zs : List Terminal) → q ++ ys ≡ a ++ zs
    → ((m : List Terminal) × (q ≡ a ++ m)) ⊎ ((u : Terminal) × (m : List Terminal) × (a ≡ q ++ u ∷ m) × (ys ≡ u ∷ (m ++ zs)))
split_at q ys [] zs e = inl (q, refl)
split_at [] ys (u ∷ a) zs e = inr (u, a, refl, e)
split_at (t ∷ q) ys (u ∷ a) zs e = go (split_at q ys a zs (rest t u (q ++ ys) (a ++ zs) e))
  where
    rest : (t u : Terminal) (ts us : List Terminal) → t ∷ ts ≡ u ∷ us → ts ≡ us
    rest t u ts us e = cc

    same : t ≡ u
    same = head t u (q ++ ys) (a ++ zs) e
      where
        head : (t u : Terminal) (ts us : List Terminal) → t ∷ ts ≡ u ∷ us → t ≡ u
        head t u ts us e = cc

    go : ((m : List Terminal) × (q ≡ a ++ m)) ⊎ ((v : Terminal) × (m : List Terminal) × (a ≡ q ++ v ∷ m) × (ys ≡ v ∷ (m ++ zs)))
        → ((m : List Terminal) × (t ∷ q ≡ u ∷ (a ++ m))) ⊎ ((v : Terminal) × (m : List Terminal) × (u ∷ a ≡ t ∷ (q ++ v ∷ m)) × (ys ≡ v ∷ (m ++ zs)))
    go (inl (m, is)) = inl (m, λ i. same i ∷ is i)
    go (inr (v, m, is, is')) = inr (v, m, λ i. sym same i ∷ is i, is')

-- what ends with one terminal, and begins with others and one more
last_split : (f : List Terminal) (t : Terminal) (q : List Terminal) (u : Terminal) (m : List Terminal) → f ++ t ∷ [] ≡ q ++ u ∷ m
    → ((f ≡ q) × (t ≡ u)) ⊎ ((n : List Terminal) × (f ≡ q ++ u ∷ n))
last_split [] t [] u m e = inl (refl, cc)
last_split (v ∷ f) t [] u m e = let same : v ≡ u = cc in inr (f, ap (λ w. w ∷ f) same)
last_split [] t (w ∷ q) u m e = absurd (no q (rest t w [] (q ++ u ∷ m) e))
  where
    rest : (t u : Terminal) (ts us : List Terminal) → t ∷ ts ≡ u ∷ us → ts ≡ us
    rest t u ts us e = cc

    no : (q : List Terminal) → [] ≡ q ++ u ∷ m → ⊥
    no [] e = cc
    no (w ∷ q) e = cc
last_split (v ∷ f) t (w ∷ q) u m e = go (last_split f t q u m (rest v w (f ++ t ∷ []) (q ++ u ∷ m) e))
  where
    rest : (t u : Terminal) (ts us : List Terminal) → t ∷ ts ≡ u ∷ us → ts ≡ us
    rest t u ts us e = cc

    same : v ≡ w
    same = head v w (f ++ t ∷ []) (q ++ u ∷ m) e
      where
        head : (t u : Terminal) (ts us : List Terminal) → t ∷ ts ≡ u ∷ us → t ≡ u
        head t u ts us e = cc

    go : ((f ≡ q) × (t ≡ u)) ⊎ ((n : List Terminal) × (f ≡ q ++ u ∷ n)) → ((v ∷ f ≡ w ∷ q) × (t ≡ u)) ⊎ ((n : List Terminal) × (v ∷ f ≡ w ∷ (q ++ u ∷ n)))
    go (inl (is, is')) = inl (λ i. same i ∷ is i, is')
    go (inr (n, is)) = inr (n, λ i. same i ∷ is i)

val_first : (ds : List Declaration) (u : Terminal) (ts : List Terminal) → spelled ds ≡ u ∷ ts → u ≡ word kind.WordVal
unfolding spelled
val_first [] u ts e = absurd (cc)
val_first (d ∷ ds) u ts e = cc

-- a type does not go on with `val`
pub no_val_within : (p q : Phrase whole) (rest : List Terminal) → yields p [] ≡ yields q (word kind.WordVal ∷ rest) → ⊥
no_val_within p q rest e =
    let same = one_phrase_before p q [] (word kind.WordVal ∷ rest) over-nothing (over-val rest) e in
    let wrong : [] ≡ word kind.WordVal ∷ rest = same.1 in
    absurd (cc)

-- what begins a type begins a declaration,
pub type_begins : (x : List ℕ) (ts : List Terminal) → BeginsType ts → BeginsInterface (word kind.WordVal ∷ name x ∷ word kind.Colon ∷ ts)
unfolding spelled
type_begins x ts (more, (p, is)) =
    (more, (record { declared = x; type = p } ∷ [], ap (λ us. word kind.WordVal ∷ name x ∷ word kind.Colon ∷ us) is))

-- and where one terminal more begins an interface, it begins a type with it, or it is over before `val`
pub type_goes_on : (x : List ℕ) (f : List Terminal) (t : Terminal) → BeginsType f
    → BeginsInterface (word kind.WordVal ∷ name x ∷ word kind.Colon ∷ (f ++ t ∷ []))
    → BeginsType (f ++ t ∷ []) ⊎ (IsType f × (t ≡ word kind.WordVal))
unfolding spelled
type_goes_on x f t begins (more, ([], is)) = absurd (cc)
type_goes_on x f t (after, (p, spells)) (more, (d ∷ ds, is)) =
    go (split_at (yields d.type []) (spelled ds) (f ++ t ∷ []) more (sym (yields-append d.type [] (spelled ds)) ∙ parts.1))
  where
    parts : (d.declared ≡ x) × (yields d.type (spelled ds) ≡ (f ++ t ∷ []) ++ more)
    parts = behind_header d.declared x (yields d.type (spelled ds)) ((f ++ t ∷ []) ++ more) is

    within : (n : List Terminal) → f ≡ yields d.type [] ++ word kind.WordVal ∷ n → ⊥
    within n at =
        no_val_within p d.type (n ++ after)
        (spells ∙ (ap (λ ts. ts ++ after) (at ∙ sym (yields-append d.type [] (word kind.WordVal ∷ n))) ∙ sym (yields-append d.type (word kind.WordVal ∷ n) after)))

    by_last : ((f ≡ yields d.type []) × (t ≡ word kind.WordVal)) ⊎ ((n : List Terminal) × (f ≡ yields d.type [] ++ word kind.WordVal ∷ n))
        → BeginsType (f ++ t ∷ []) ⊎ (IsType f × (t ≡ word kind.WordVal))
    by_last (inl (same, val)) = inr ((d.type, sym same), val)
    by_last (inr (n, at)) = absurd (within n at)

    go : ((m : List Terminal) × (yields d.type [] ≡ (f ++ t ∷ []) ++ m)) ⊎ ((u : Terminal) × (m : List Terminal) × (f ++ t ∷ [] ≡ yields d.type [] ++ u ∷ m) × (spelled ds ≡ u ∷ (m ++ more)))
        → BeginsType (f ++ t ∷ []) ⊎ (IsType f × (t ≡ word kind.WordVal))
    go (inl (m, longer)) = inl (m, (d.type, longer))
    go (inr (u, m, shorter, next)) =
        by_last (last_split f t (yields d.type []) (word kind.WordVal) m
        (shorter ∙ ap (λ v. yields d.type [] ++ v ∷ m) (val_first ds u (m ++ more) next)))

-- where all that begins a type and is none is the rest, it is no interface
pub type_owed : (x : List ℕ) (vs : List Terminal) → BeginsType vs → (IsType vs → ⊥) → IsInterface (word kind.WordVal ∷ name x ∷ word kind.Colon ∷ vs) → ⊥
unfolding spelled
type_owed x vs begins owed ([], is) = absurd (cc)
type_owed x vs (more, (p, spells)) owed (d ∷ ds, is) = go (spelled-bound ds)
  where
    parts : (d.declared ≡ x) × (yields d.type (spelled ds) ≡ vs)
    parts = behind_header d.declared x (yields d.type (spelled ds)) vs is

    go : IsBound (spelled ds) → ⊥
    go (inl none) = owed (d.type, ap (yields d.type) (sym none) ∙ parts.1)
    go (inr (rest, at)) =
        no_val_within p d.type (rest ++ more)
        (spells ∙ (ap (λ ts. ts ++ more) (sym parts.1 ∙ ap (yields d.type) at) ∙ sym (yields-append d.type (word kind.WordVal ∷ rest) more)))

-- an interface is spelled by one list of declarations
pub one_spelling : (ds es : List Declaration) → spelled ds ≡ spelled es → ds ≡ es
unfolding spelled
one_spelling [] [] is = refl
one_spelling [] (e ∷ es) is = absurd (cc)
one_spelling (d ∷ ds) [] is = absurd (cc)
one_spelling (d ∷ ds) (e ∷ es) is =
    let same = first_declaration d ds e.declared e.type (spelled es) is (spelled-bound es) in
    let rest = one_spelling ds es same.2 in
    λ i. record { declared = same.0 i; type = same.1 i } ∷ rest i
