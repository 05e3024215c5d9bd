use Rattle.std.proofs.Common.{List, subst}
use Rattle.mls_automaton.specs.declared.scheme.EnvEntry.{EnvEntry}
use Rattle.mls_automaton.specs.Schemes.{AreEquivalentSchemes}
use Rattle.mls_biunify.specs.Live.{Live}
use Rattle.mls_solver.specs.Solutions.{scheme_over}
use Rattle.mls_infer.specs.Pending.{part_in}
use Rattle.mls_infer.specs.Regions.{TablePart}
use Rattle.mls_infer.proofs.DoneOut.{each_there, entries_live, taken_out_as}
use Rattle.mls_infer.proofs.done.taken_out.Goals as goal

pub freeze-requires-clause-env : goal.freeze-requires-clause-env
freeze-requires-clause-env c = entries_live c.merged.new.live (part_in c.in_ok-part.part) c.in_ok-part.ensures.remade.waits c.as_slice.result.now c.as_slice.ensures

pub keep_among-requires-clause-states : goal.keep_among-requires-clause-states
keep_among-requires-clause-states c = each_there c.merged.new.live c.in_ok-part.part.region.states.items c.in_ok-part.ensures.remade.waits.there

pub returns : goal.returns
returns c =
    let mid : Live = c.merged.new.live in
    let other : TablePart = part_in c.in_ok-part.part in
    let same : AreEquivalentSchemes (scheme_over mid.table other.root.0 other.env) c.in_ok-scheme.scheme =
    subst (λ (env : List EnvEntry). AreEquivalentSchemes (scheme_over mid.table other.root.0 env) c.in_ok-scheme.scheme) c.as_slice.ensures c.in_ok-scheme.ensures.equivalent in
    taken_out_as c.args.live.now mid c.keep_among.new.self c.ready-merged.ensures.live c.ready-left.ensures.live (part_in c.args.part) other c.in_ok-part.ensures.remade c.in_ok-part.ensures.rise
    c.in_ok-scheme.scheme c.in_ok-simple.simple c.in_ok-scheme.ensures.scheme c.as_slice-2.ensures.rise same c.in_ok-simple.ensures.scheme c.as_slice-3.ensures.rise c.in_ok-simple.ensures.equivalent
    c.in_ok-keep_among.ensures.kept
