-- How a text grows by what is written of a list, item by item.
use Rattle.std.proofs.Common.{◌≡◌, ℕ, ◌+◌, ◌<◌, ◌≤◌, List, ◌∷◌, ◌++◌, length, drop, get_or, sym, ap, ◌∙◌, append_assoc, append-nil}
use Rattle.std.specs.List.{flat_map}
use Rattle.std.proofs.lemmas.List.{drop_more, drop_all}

module _ {X : Type 0} (f : X → List ℕ) (xs : List X) (whole : List ℕ) where
  -- one item more
  pub more_written : (i : ℕ) (x : X) (text text' : List ℕ) → i < length xs → get_or xs i x ≡ x → text ++ flat_map f (drop i xs) ≡ whole → text' ≡ text ++ f x → text' ++ flat_map f (drop (i + 1) xs) ≡ whole
  more_written i x text text' low is written added =
      let rest : drop i xs ≡ x ∷ drop (i + 1) xs = drop_more xs i x low ∙ ap (λ (y : X). y ∷ drop (i + 1) xs) is in
      ap (λ t. t ++ flat_map f (drop (i + 1) xs)) added
      ∙ (append_assoc text (f x) (flat_map f (drop (i + 1) xs)) ∙ (sym (ap (λ r. text ++ flat_map f r) rest) ∙ written))

  -- no item is left
  pub all_written : (i : ℕ) (text : List ℕ) → length xs ≤ i → text ++ flat_map f (drop i xs) ≡ whole → text ≡ whole
  all_written i text all written = sym (append-nil text) ∙ (sym (ap (λ r. text ++ flat_map f r) (drop_all i xs all)) ∙ written)
