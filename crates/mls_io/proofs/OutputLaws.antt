-- What several writes append.
use Rattle.std.proofs.Common.{◌≡◌, ℕ, ◌-◌, List, ◌++◌, length, take, drop, sym, ap, subst, ◌∙◌, append_assoc, length-drop}
use Rattle.std.proofs.lemmas.List.{take-append-drop}
use Rattle.std.proofs.Math.Seq.{take-length}
use Rattle.std.specs.Prelude.{Option, Some, None}
use Rattle.std.specs.Io.KnownBytes.{Appends}

-- one write after another
pub Appends-then : (a b c : Option (List ℕ)) (first next : List ℕ) → Appends a b first → Appends b c next → Appends a c (first ++ next)
Appends-then None b c first next p q = tt
Appends-then (Some x) None c first next p q = absurd p
Appends-then (Some x) (Some y) None first next p q = absurd q
Appends-then (Some x) (Some y) (Some z) first next p q = q ∙ ap (λ bytes. bytes ++ next) p ∙ append_assoc x first next

-- what is left after `n` bytes more, as a slice from `n` on
pub split_more : (piece taken left : List ℕ) (n : ℕ) → piece ≡ taken ++ left → piece ≡ taken ++ take n left ++ take (length left - n) (drop n left)
split_more piece taken left n parts =
    let rest : take (length left - n) (drop n left) ≡ drop n left = subst (λ (m : ℕ). take m (drop n left) ≡ drop n left) (length-drop n left) (take-length (drop n left)) in
    parts
    ∙ ap (λ bytes. taken ++ bytes) (sym (take-append-drop n left))
    ∙ sym (append_assoc taken (take n left) (drop n left))
    ∙ ap (λ bytes. taken ++ take n left ++ bytes) (sym rest)
