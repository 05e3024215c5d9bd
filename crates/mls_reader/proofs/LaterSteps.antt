-- What the functions over the stack of later pieces do is what the machine of the order of nodes does.
use Rattle.std.proofs.Common.{◌≡◌, ℕ, ◌+◌, List, [], ◌∷◌, ◌++◌, reverse, sym, ap, ◌∙◌, add-one}
use Rattle.std.proofs.lemmas.List.{reverse-append, append_assoc}
use Rattle.mls_reader.specs.declared.piece.Piece.{Piece}
use Rattle.mls_reader.specs.declared.nodes.Later.{Later}
use Rattle.mls_reader.specs.declared.nodes.Later.TheVariants.{Part}
use Rattle.mls_reader.specs.steps.Arranging.{node_piece, fronts, told, left, parts, arrangement}

-- a stack and what was told give the same as these
pub record GiveSame (later old_later : List Later) (backward old_backward : List Piece) : Type 0 where
  pub told : backward ++ told (reverse later) ≡ old_backward ++ told (reverse old_later)
  pub left : left (reverse later) ≡ left (reverse old_later)

-- the last of a list comes first in the reverse
pub reverse-last : {X : Type 0} (xs old : List X) (x : X) → old ≡ xs ++ x ∷ [] → reverse old ≡ x ∷ reverse xs
reverse-last xs old x e = ap reverse e ∙ reverse-append xs (x ∷ [])

-- one part more on the stack
pub parts-more : (st more old : List Later) (i : ℕ) → more ≡ st ++ Part ∷ [] → reverse st ≡ parts i ++ reverse old → reverse more ≡ parts (i + 1) ++ reverse old
parts-more st more old i e f = reverse-last st more Part e ∙ (ap (λ l. Part ∷ l) f ∙ ap (λ n. parts n ++ reverse old) (sym (add-one i)))

-- one piece: what was told before it, and what it leaves to stand before it
pub arrangement-step : (st middle later : List Later) (out said new : List Piece) (pieces rest all : List Piece) (p : Piece)
    → pieces ≡ rest ++ p ∷ [] → said ≡ out ++ told (reverse st) → reverse middle ≡ left (reverse st)
    → new ≡ said ++ node_piece p ∷ [] → reverse later ≡ fronts p ++ reverse middle
    → out ++ arrangement (reverse st) (reverse pieces) ≡ arrangement [] (reverse all)
    → new ++ arrangement (reverse later) (reverse rest) ≡ arrangement [] (reverse all)
unfolding arrangement
arrangement-step st middle later out said new pieces rest all p e f g h k same =
    (λ i. h i ++ arrangement (k i) (reverse rest))
    ∙ ((λ i. (f i ++ node_piece p ∷ []) ++ arrangement (fronts p ++ g i) (reverse rest))
    ∙ (append_assoc (out ++ told (reverse st)) (node_piece p ∷ []) (arrangement (fronts p ++ left (reverse st)) (reverse rest))
    ∙ (append_assoc out (told (reverse st)) (node_piece p ∷ arrangement (fronts p ++ left (reverse st)) (reverse rest))
    ∙ (ap (λ l. out ++ arrangement (reverse st) l) (sym (reverse-last rest pieces p e)) ∙ same))))

pub arrangement-end : (st : List Later) (out said pieces all : List Piece) → pieces ≡ [] → said ≡ out ++ told (reverse st)
    → out ++ arrangement (reverse st) (reverse pieces) ≡ arrangement [] (reverse all) → said ≡ arrangement [] (reverse all)
unfolding arrangement
arrangement-end st out said pieces all e f same = f ∙ (ap (λ l. out ++ arrangement (reverse st) (reverse l)) (sym e) ∙ same)
