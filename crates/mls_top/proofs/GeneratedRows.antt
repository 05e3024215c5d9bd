-- Worked rows of the generated text.
use Rattle.std.specs.Prelude.{◌≡◌, ℕ, ◌/◌, List, [], ◌∷◌, map, codes, length, refl}
use Rattle.std.specs.Fmt.{digits}
use Rattle.mls_top.specs.Generator.{state, draws_of, draws_before, generated}

-- the first numbers that are drawn with the seed 1
draws : map (λ k. state 1 k / 65536) (1 ∷ 2 ∷ 3 ∷ 4 ∷ 5 ∷ 6 ∷ 7 ∷ []) ≡ 16838 ∷ 5758 ∷ 10113 ∷ 17515 ∷ 31051 ∷ 5627 ∷ 23010 ∷ []
unfolding state
draws = refl

-- one binding
one : length (generated 1 1) ≡ 51
unfolding state draws_before generated digits
one = refl

-- one of each kind
four : generated 1 4
    ≡ codes "let v0 = fun x -> fun y -> {a = x, b = y, c = 838}\nlet v1 = (v0 113) true\nlet v2 = fun r -> r.b + v1.c\nlet rec v3 = fun n -> if n < 627 then v2 {a = n, b = n, c = n} else v3 (n - 1)\n"
unfolding state draws_before generated digits
four = refl

four_are_long : length (generated 1 4) ≡ 182
unfolding state draws_before generated digits
four_are_long = refl
