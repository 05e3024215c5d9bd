use Rattle.std.proofs.Common.{◌<◌, get_or, sym, subst, refl}
use Rattle.std.proofs.lemmas.List.Elements.{Contains-get_or}
use Rattle.mls_automaton.specs.steps.Searching.{search_of}
use Rattle.mls_automaton.proofs.Searches.{entries-next}
use Rattle.mls_automaton.proofs.reach.Search.mark_entries.Goals as goal

pub mark-requires : goal.mark-requires
mark-requires c =
    subst (λ n. (get_or c.args.entries.now c.loop-entry.entry-index (record { binder = 0; state = record { 0 = 0 } })).state.0 < n) (sym c.loop-entry.invariant.same_length)
    (c.requires _ (get_or c.args.entries.now c.loop-entry.entry-index (record { binder = 0; state = record { 0 = 0 } }), Contains-get_or c.args.entries.now c.loop-entry.entry-index (record { binder = 0; state = record { 0 = 0 } }) c.loop-entry-test.true, refl))

pub loop-entry-preserved : goal.loop-entry-preserved
loop-entry-preserved c = entries-next (search_of c.args.self.now) (search_of c.loop-entry.self) (search_of c.mark.new.self) c.args.entries.now c.loop-entry.entry-index (record { binder = 0; state = record { 0 = 0 } }) c.loop-entry-test.true c.loop-entry.invariant c.in_ok-mark.ensures
