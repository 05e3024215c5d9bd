-- Each turn adds its file at the end, since its name is new.
use Rattle.std.proofs.Common.{refl, sym, ap, subst, ◌∙◌}
use Rattle.std.specs.Prelude.{string_bytes}
use Rattle.std.specs.String.{string_eq}
use Rattle.mls_io.specs.Memory.{HasDistinctNames}
use Rattle.mls_io.proofs.ShelfLaws.{files_of, files_of-insert_next, split_next}
use Rattle.mls_io.proofs.memory.SureStore.new.Goals as goal

pub loop-file-preserved-in_ok-insert : goal.loop-file-preserved-in_ok-insert
loop-file-preserved-in_ok-insert c = record {
  filled = ap (files_of string_bytes (λ bytes. bytes.items)) c.in_ok-insert.ensures.entries
      ∙ files_of-insert_next string_bytes (λ bytes. bytes.items) string_eq (λ j k. refl) c.loop-file.by_name.entries _ _ _ _ _ _ c.loop-file.invariant.filled c.file.view_is c.in-Some.ensures.steps.0 (subst HasDistinctNames (sym c.loop-file.invariant.split) c.requires.distinct);
  split = split_next _ _ _ _ _ c.in-Some.ensures.steps.0 c.loop-file.invariant.split;
}

pub loop-file-preserved : goal.loop-file-preserved
loop-file-preserved c = record {
  filled = ap (files_of string_bytes (λ bytes. bytes.items)) c.in_ok-insert.ensures.entries
      ∙ files_of-insert_next string_bytes (λ bytes. bytes.items) string_eq (λ j k. refl) c.loop-file.by_name.entries _ _ _ _ _ _ c.loop-file.invariant.filled c.file.view_is c.in-Some.ensures.steps.0 (subst HasDistinctNames (sym c.loop-file.invariant.split) c.requires.distinct);
  split = split_next _ _ _ _ _ c.in-Some.ensures.steps.0 c.loop-file.invariant.split;
}
