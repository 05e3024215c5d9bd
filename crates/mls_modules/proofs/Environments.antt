-- The names behind entries.
--     names_mean      operators, declared schemes and entries' schemes are what is known
--     names_named     and are valid
use Rattle.std.proofs.Common.{◌≡◌, ℕ, ◌+◌, List, [], ◌∷◌, ◌++◌, map, length, refl, sym, ap, ◌∙◌, subst, append_assoc, All, arith}
use Rattle.std.specs.List.{AllByRecursion}
use Rattle.std.proofs.lemmas.List.{map-append, length-append, length-map}
use Rattle.std.proofs.lemmas.List.Sums.{sum_by-append}
use Rattle.std.proofs.lemmas.List.Elements.{All-append, All-map, All-from_recursion, recursion_from_All}
use Rattle.mls_book.specs.Schemes as book
use Rattle.mls_typetext.specs.declared.scheme.Names.{Names}
use Rattle.mls_typetext.specs.declared.scheme.ReadScheme.{ReadScheme}
use Rattle.mls_typetext.specs.Schemes.{scheme_of, type_scheme, operator_types, environment}
use Rattle.mls_grammar.specs.Modules.{AreDistinct}
use Rattle.mls_names.specs.Resolution.{declared_count}
use Rattle.mls_infer.specs.Inference.{AreNames, schemes_in}
use Rattle.mls_iface.specs.declared.interface.Interface.{Interface}
use Rattle.mls_iface.specs.declared.interface.Val.{Val}
use Rattle.mls_iface.specs.declared.signature.SigEntry.{SigEntry}
use Rattle.mls_iface.specs.Signatures.{IsEntry}
use Rattle.mls_iface.specs.Matches.{IsRead}
use Rattle.mls_modules.specs.Environments.{IsValidInterface, declared_names, declared_schemes, entry_schemes, MeanAfter}
use Rattle.mls_modules.proofs.KnownTypes.{text_is_valid}

abbrev operators : List book.Scheme
operators = map type_scheme operator_types

-- the names of the operators, and behind them these schemes
pub names_mean : (imports : List Interface) (entries : List SigEntry) (first second third : Names) → schemes_in first ≡ operators
    → second.schemes ≡ first.schemes ++ declared_schemes imports → third.schemes ≡ second.schemes ++ entry_schemes entries
    → MeanAfter imports entries third
names_mean imports entries first second third ops declared own =
    ap (map scheme_of) own ∙ map-append scheme_of second.schemes (entry_schemes entries)
    ∙ ap (λ l. l ++ map scheme_of (entry_schemes entries))
    (ap (map scheme_of) declared ∙ map-append scheme_of first.schemes (declared_schemes imports) ∙ ap (λ l. l ++ map scheme_of (declared_schemes imports)) ops)
    ∙ append_assoc operators (map scheme_of (declared_schemes imports)) (map scheme_of (entry_schemes entries))

-- the declared schemes are valid
pub declared_valid : (imports : List Interface) → All IsValidInterface imports → All IsRead (declared_schemes imports)
declared_valid imports all = All-from_recursion IsRead (declared_schemes imports) (each imports (recursion_from_All IsValidInterface imports all))
  where
    each : (imports : List Interface) → AllByRecursion IsValidInterface imports → AllByRecursion IsRead (declared_schemes imports)
    each [] all = tt
    each (i ∷ imports) all =
        let here : All IsRead (map (λ (v : Val). v.scheme) i.vals) = All-map IsRead (λ (v : Val). v.scheme) i.vals all.0.schemes in
        recursion_from_All IsRead (map (λ (v : Val). v.scheme) i.vals ++ declared_schemes imports)
        (All-append IsRead (map (λ (v : Val). v.scheme) i.vals) (declared_schemes imports) here
        (All-from_recursion IsRead (declared_schemes imports) (each imports all.1)))

-- and those of entries
pub entries_valid : (entries : List SigEntry) → All IsEntry entries → All IsRead (entry_schemes entries)
entries_valid entries all =
    All-from_recursion IsRead (entry_schemes entries) (each entries (recursion_from_All IsEntry entries all))
  where
    each : (entries : List SigEntry) → AllByRecursion IsEntry entries → AllByRecursion IsRead (entry_schemes entries)
    each [] all = tt
    each (e ∷ entries) all = (text_is_valid e.text e.scheme all.0.reads, each entries all.1)

pub names_named : (imports : List Interface) (entries : List SigEntry) (first second third : Names) → AreNames first → All IsValidInterface imports → All IsEntry entries
    → second.schemes ≡ first.schemes ++ declared_schemes imports → third.schemes ≡ second.schemes ++ entry_schemes entries
    → AreNames third
names_named imports entries first second third named valid are declared own =
    subst (All IsRead) (sym own)
    (All-append IsRead second.schemes (entry_schemes entries)
    (subst (All IsRead) (sym declared) (All-append IsRead first.schemes (declared_schemes imports) named (declared_valid imports valid)))
    (entries_valid entries are))

-- so many schemes are declared
length-declared : (imports : List Interface) → length (declared_schemes imports) ≡ declared_count (declared_names imports)
length-declared [] = refl
length-declared (i ∷ imports) =
    let names : List (List ℕ) = map (λ (v : Val). v.name) i.vals in
    let schemes : List ReadScheme = map (λ (v : Val). v.scheme) i.vals in
    let all : declared_count (names ∷ declared_names imports) ≡ length names + declared_count (declared_names imports) = omega (arith, sum_by-append (length {A = List ℕ}) (names ∷ []) (declared_names imports)) in
    let parts : length (schemes ++ declared_schemes imports) ≡ length schemes + length (declared_schemes imports) = length-append schemes (declared_schemes imports) in
    let one : length schemes ≡ length i.vals = length-map i.vals (λ (v : Val). v.scheme) in
    let other : length names ≡ length i.vals = length-map i.vals (λ (v : Val). v.name) in
    let rest : length (declared_schemes imports) ≡ declared_count (declared_names imports) = length-declared imports in
    let same : length (schemes ++ declared_schemes imports) ≡ declared_count (names ∷ declared_names imports) = omega arith in
    same

-- there are as many names as operators, declared schemes and entries
pub length-names : (imports : List Interface) (entries : List SigEntry) (names : Names) → MeanAfter imports entries names
    → length names.schemes ≡ 5 + declared_count (declared_names imports) + length entries
length-names imports entries names mean =
    let all : length (schemes_in names) ≡ length names.schemes = length-map names.schemes scheme_of in
    let five : length operators ≡ 5 = refl in
    let both : length (schemes_in names) ≡ length operators + length (map scheme_of (declared_schemes imports) ++ map scheme_of (entry_schemes entries)) =
    ap length mean ∙ length-append operators (map scheme_of (declared_schemes imports) ++ map scheme_of (entry_schemes entries)) in
    let parts : length (map scheme_of (declared_schemes imports) ++ map scheme_of (entry_schemes entries)) ≡ length (map scheme_of (declared_schemes imports)) + length (map scheme_of (entry_schemes entries)) =
    length-append (map scheme_of (declared_schemes imports)) (map scheme_of (entry_schemes entries)) in
    let declared : length (map scheme_of (declared_schemes imports)) ≡ length (declared_schemes imports) = length-map (declared_schemes imports) scheme_of in
    let count : length (declared_schemes imports) ≡ declared_count (declared_names imports) = length-declared imports in
    let reads : length (map scheme_of (entry_schemes entries)) ≡ length (entry_schemes entries) = length-map (entry_schemes entries) scheme_of in
    let own : length (entry_schemes entries) ≡ length entries = length-map entries (λ (e : SigEntry). e.scheme) in
    omega arith

-- what is known with one entry more
pub known_more : (imports : List Interface) (entries : List SigEntry) (e : SigEntry) → environment (declared_schemes imports) (entry_schemes (entries ++ e ∷ []))
    ≡ environment (declared_schemes imports) (entry_schemes entries) ++ scheme_of e.scheme ∷ []
known_more imports entries e =
    let declared : List book.Scheme = map scheme_of (declared_schemes imports) in
    let here : List book.Scheme = map scheme_of (entry_schemes entries) in
    let last : List book.Scheme = scheme_of e.scheme ∷ [] in
    let more : map scheme_of (entry_schemes (entries ++ e ∷ [])) ≡ here ++ last =
    ap (map scheme_of) (map-append (λ (e : SigEntry). e.scheme) entries (e ∷ [])) ∙ map-append scheme_of (entry_schemes entries) (e.scheme ∷ []) in
    ap (λ l. operators ++ (declared ++ l)) more ∙ ap (λ l. operators ++ l) (sym (append_assoc declared here last)) ∙ sym (append_assoc operators (declared ++ here) last)

-- and what the names mean then
pub mean_more : (imports : List Interface) (entries : List SigEntry) (e : SigEntry) (old new : Names) → MeanAfter imports entries old → new.schemes ≡ old.schemes ++ e.scheme ∷ []
    → MeanAfter imports (entries ++ e ∷ []) new
mean_more imports entries e old new mean pushed =
    ap (map scheme_of) pushed ∙ map-append scheme_of old.schemes (e.scheme ∷ []) ∙ ap (λ l. l ++ scheme_of e.scheme ∷ []) mean ∙ sym (known_more imports entries e)

-- the names that each import declares are distinct
pub distinct_names : (imports : List Interface) → All IsValidInterface imports → All AreDistinct (declared_names imports)
distinct_names imports valid = All-map AreDistinct (λ (i : Interface). map (λ (v : Val). v.name) i.vals) imports (λ k d low. (valid k d low).distinct)
