-- What several puts added.
use Rattle.std.proofs.Common.{◌≡◌, List, [], ◌++◌, append-nil, append_assoc, refl, sym, ap, ◌∙◌}
use Rattle.std.specs.Prelude.{ℕ, Option, Some, None, is_some, option_map}
use Rattle.mls_io.specs.Sinks.{Written, Adds, TakesNone}

-- two pieces in turn
pub Adds-trans : (a b c : Written) (first next : List ℕ) → Adds a b first → Adds b c next → Adds a c (first ++ next)
Adds-trans a b c first next adds_first adds_next = adds_next ∙ ap (option_map (λ bytes. bytes ++ next)) adds_first ∙ joined a.bytes
  where
    joined : (told : Option (List ℕ)) → option_map (λ bytes. bytes ++ next) (option_map (λ bytes. bytes ++ first) told) ≡ option_map (λ bytes. bytes ++ (first ++ next)) told
    joined None = refl
    joined (Some bytes) = ap Some (append_assoc bytes first next)

-- adding nothing
pub Adds-nil : (a b : Written) → TakesNone a b → Adds a b []
Adds-nil a b same = same ∙ by a.bytes
  where
    by : (told : Option (List ℕ)) → told ≡ option_map (λ bytes. bytes ++ []) told
    by None = refl
    by (Some bytes) = ap Some (sym (append-nil bytes))

-- whether a sink tells does not change where something is added
pub Adds-told : (a b : Written) (added : List ℕ) → Adds a b added → is_some b.bytes ≡ is_some a.bytes
Adds-told a b added adds = ap is_some adds ∙ by a.bytes
  where
    by : (told : Option (List ℕ)) → is_some (option_map (λ bytes. bytes ++ added) told) ≡ is_some told
    by None = refl
    by (Some bytes) = refl
