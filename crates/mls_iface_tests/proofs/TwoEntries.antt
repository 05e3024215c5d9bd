-- Two entries of different names are those of a signature.
use Rattle.std.proofs.Common.{◌≢◌, [], ◌∷◌, arith}
use Rattle.std.proofs.lemmas.List.Elements.{All-nil, All-cons}
use Rattle.std.proofs.lemmas.List.Kept.{AllPairs-cons}
use Rattle.mls_iface.specs.declared.signature.SigEntry.{SigEntry}
use Rattle.mls_iface.specs.Signatures.{IsEntry, AreEntries}

pub two_entries : (e f : SigEntry) → IsEntry e → IsEntry f → e.name ≢ f.name → AreEntries (e ∷ f ∷ [])
two_entries e f is is' differ = record {
  each = All-cons IsEntry e (f ∷ []) is (All-cons IsEntry f [] is' (All-nil IsEntry));
  distinct =
      AllPairs-cons (λ x y. x ≢ y) e.name (f.name ∷ []) (All-cons (λ y. e.name ≢ y) f.name [] differ (All-nil (λ y. e.name ≢ y)))
      (AllPairs-cons (λ x y. x ≢ y) f.name [] (All-nil (λ y. f.name ≢ y)) (λ i j d less low. absurd (omega arith)));
}
