-- How counts go on over several calls, and what stays of what stores and sinks say.
use Rattle.std.proofs.Common.{inl, inr, refl, sym, ◌∙◌, true≢false, arith}
use Rattle.mls_io.specs.Counts.{Count, Grows, Rose, no_count}
use Rattle.mls_io.specs.Stores as stores
use Rattle.mls_io.specs.Stores.{Holdings}
use Rattle.mls_io.specs.Sinks as sinks
use Rattle.mls_io.specs.Sinks.{Written}

-- a count has not fallen where nothing happened
pub Grows-refl : (a : Count) → Grows a a
Grows-refl a = record { value = omega arith; worn = λ worn. worn }

-- nor over two calls
pub Grows-trans : (a b c : Count) → Grows a b → Grows b c → Grows a c
Grows-trans a b c first next = record {
  value = omega (arith, first.value, next.value);
  worn = λ worn. next.worn (first.worn worn);
}

-- a count that rose later rose over the whole
pub Grows-Rose : (a b c : Count) → Grows a b → Rose b c → Rose a c
Grows-Rose a b c first next =
    elim next [ inl rose ↦ inl (omega (arith, first.value, rose)) | inr worn ↦ inr worn ]

-- and so did one that rose earlier
pub Rose-Grows : (a b c : Count) → Rose a b → Grows b c → Rose a c
Rose-Grows a b c first next =
    elim first [ inl rose ↦ inl (omega (arith, rose, next.value)) | inr worn ↦ inr (next.worn worn) ]

-- a count that stays 0 never rose, so nothing that comes only where it rose ever comes
pub no_count-never-rose : Rose no_count no_count → ⊥
no_count-never-rose rose = elim rose [ inl less ↦ omega (arith, less) | inr worn ↦ absurd (true≢false (sym worn)) ]

-- a store that was not called
pub Store-Follows-refl : (a : Holdings) → stores.Follows a a
Store-Follows-refl a = record {
  files = refl;
  faults = Grows-refl a.faults;
  misses = Grows-refl a.misses;
  longs = Grows-refl a.longs;
}

-- a store that was called twice
pub Store-Follows-trans : (a b c : Holdings) → stores.Follows a b → stores.Follows b c → stores.Follows a c
Store-Follows-trans a b c first next = record {
  files = next.files ∙ first.files;
  faults = Grows-trans _ _ _ first.faults next.faults;
  misses = Grows-trans _ _ _ first.misses next.misses;
  longs = Grows-trans _ _ _ first.longs next.longs;
}

-- a sink that was not called
pub Sink-Follows-refl : (a : Written) → sinks.Follows a a
Sink-Follows-refl a = record { told = refl; faults = Grows-refl a.faults }

-- a sink that was called twice
pub Sink-Follows-trans : (a b c : Written) → sinks.Follows a b → sinks.Follows b c → sinks.Follows a c
Sink-Follows-trans a b c first next = record {
  told = next.told ∙ first.told;
  faults = Grows-trans _ _ _ first.faults next.faults;
}
