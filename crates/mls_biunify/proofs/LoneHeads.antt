-- A head among others that have nothing.
use Rattle.std.proofs.Common.{◌≡◌, ℕ, ◌<◌, ◌+◌, ◌-◌, ◌∙◌, List, [], ◌∷◌, length, map, take, drop, get_or, All, ap, sym, subst}
use Rattle.std.proofs.lemmas.List.{drop_more, take-append-drop, take_rest}
use Rattle.mls_automaton.specs.declared.automaton.Polarity.{Polarity}
use Rattle.mls_automaton.specs.Heads.{Parts, IsSameParts, combined, no_parts}
use Rattle.mls_automaton.proofs.CombinedHeads.{back-nothing, front-nothing, same_parts-self}
use Rattle.mls_biunify.proofs.SettledTables.{combined-alone}

-- it is the combined head; those behind it are a slice to the end
pub lone_head : (p : Polarity) (parts : ℕ → Parts) (n s : ℕ) (xs : List ℕ) → n < length xs → get_or xs n 0 ≡ s
    → All (λ j. parts j ≡ no_parts) (take n xs)
    → All (λ j. parts j ≡ no_parts) (take (length xs - (n + 1)) (drop (n + 1) xs))
    → IsSameParts (parts s) (combined p (map parts xs))
lone_head p parts n s xs low is before behind =
    let whole : combined p (map parts xs) ≡ parts s =
    ap (λ ys. combined p (map parts ys)) (sym (take-append-drop n xs))
    ∙ front-nothing p parts (take n xs) (drop n xs) before
    ∙ ap (λ ys. combined p (map parts ys)) (drop_more xs n 0 low)
    ∙ back-nothing p parts (get_or xs n 0 ∷ []) (drop (n + 1) xs) (subst (All (λ j. parts j ≡ no_parts)) (take_rest xs (n + 1)) behind)
    ∙ combined-alone p (parts (get_or xs n 0))
    ∙ ap parts is in
    subst (IsSameParts (parts s)) (sym whole) (same_parts-self (parts s))
