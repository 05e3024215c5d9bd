use Rattle.std.proofs.Common.{◌∷◌, [], List}
use Rattle.mls_automaton.proofs.Lists.{Contains-here, Contains-later}
use Rattle.mls_biunify.specs.Live.{Live}
use Rattle.mls_term.specs.declared.term.TermForm.{TermForm}
use Rattle.mls_term.specs.declared.term.TermForm.TheVariants as form
use Rattle.mls_infer.specs.declared.done.Known.{Known}
use Rattle.mls_infer.specs.Doing.{AreTaken, finished_in}
use Rattle.mls_infer.specs.Finished.{Finished}
use Rattle.mls_infer.specs.Pending.{IsMade, part_in}
use Rattle.mls_infer.specs.Regions.{TablePart}
use Rattle.mls_infer.proofs.DoneSteps.{fresh_second, made_as, made_in, still_there, take_one}
use Rattle.mls_infer.proofs.FinishedParts.{some_there}
use Rattle.mls_infer.proofs.LetParts.{let_closed}
use Rattle.mls_infer.proofs.PosedForms.{posed_let}
use Rattle.mls_infer.proofs.done.Done.end_let.Goals as goal

pub returns-then-needs_nothing : goal.returns-then-needs_nothing
returns-then-needs_nothing c =
    let it = c.needs_nothing.ensures c.if-needs_nothing.true in
    let part : TablePart = part_in c.in_ok-alone.alone in
    let taken = take_one c.args.self.now.live c.args.self.now.nodes.items c.requires.done c.args.second c.take.new.self.live c.take.new.self.nodes.items part c.in_ok-alone.ensures in
    let_closed (finished_in c.args.self.now) c.args.first c.args.second c.requires.parts c.take.new.self.live c.take.new.self.nodes.items part taken it.0 it.1 it.3

pub take-requires-2-clause-there : goal.take-requires-2-clause-there
take-requires-2-clause-there c =
    some_there (form.Let 0 c.args.first c.args.second) (finished_in c.args.self.now) c.requires.parts c.args.first (Contains-here c.args.first (c.args.second ∷ []))

pub take-requires-3-clause-done : goal.take-requires-3-clause-done
take-requires-3-clause-done c =
    let taken = take_one c.args.self.now.live c.args.self.now.nodes.items c.requires.done c.args.first c.take-2.new.self.live c.take-2.new.self.nodes.items (part_in c.in_ok-needed.needed) c.in_ok-needed.ensures in
    taken.done

pub take-requires-3-clause-there : goal.take-requires-3-clause-there
take-requires-3-clause-there c =
    let taken = take_one c.args.self.now.live c.args.self.now.nodes.items c.requires.done c.args.first c.take-2.new.self.live c.take-2.new.self.nodes.items (part_in c.in_ok-needed.needed) c.in_ok-needed.ensures in
    still_there (finished_in c.args.self.now) (c.args.first ∷ []) c.take-2.new.self.live c.take-2.new.self.nodes.items (part_in c.in_ok-needed.needed ∷ []) taken c.args.second
    (fresh_second c.args.first c.args.second [] c.requires.parts.distinct)
    (some_there (form.Let 0 c.args.first c.args.second) (finished_in c.args.self.now) c.requires.parts c.args.second
    (Contains-later c.args.first (c.args.second ∷ []) c.args.second (Contains-here c.args.second [])))

pub returns : goal.returns
returns c =
    let node : TermForm = form.Let 0 c.args.first c.args.second in
    let old : Finished = finished_in c.args.self.now in
    let new : Live = c.take-3.new.self.live in
    let nodes : List Known = c.take-3.new.self.nodes.items in
    let needed : TablePart = part_in c.in_ok-needed.needed in
    let parts : List TablePart = needed ∷ part_in c.in_ok-body.body ∷ [] in
    let part : TablePart = part_in c.in_ok-part.part in
    let one = take_one c.args.self.now.live c.args.self.now.nodes.items c.requires.done c.args.first c.take-2.new.self.live c.take-2.new.self.nodes.items needed c.in_ok-needed.ensures in
    let both : AreTaken old (c.args.first ∷ c.args.second ∷ []) new nodes parts =
    c.in_ok-body.ensures old (c.args.first ∷ []) (needed ∷ []) one (fresh_second c.args.first c.args.second [] c.requires.parts.distinct) in
    let made : IsMade (form.Let 0 0 0) new parts new part = c.in_ok-part.ensures new both.done.is_live both.beside.waiting in
    made_in node old new new nodes parts both c.requires.parts part both.done.is_live (made_as (form.Let 0 0 0) node new new parts part (posed_let 0 0 0 0 c.args.first c.args.second) made)
