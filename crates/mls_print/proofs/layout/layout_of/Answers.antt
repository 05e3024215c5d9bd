use Rattle.std.proofs.Common.{◌≡◌, ◌∷◌, [], refl, rules, length, replicate, None}
use Rattle.mls_automaton.specs.declared.automaton.Polarity.TheVariants.{Positive}
use Rattle.mls_print.specs.declared.components.Item.TheVariants.{Show}
use Rattle.mls_print.specs.declared.layout.Printer.{Printer}
use Rattle.mls_print.proofs.LayoutRounds.{safe_begins, plan_begins, safe_taken, plan_taken}
use Rattle.mls_print.proofs.layout.layout_of.Goals as goal

pub loop-init : goal.loop-init
loop-init c =
    let w : Printer = record { items = c.in_ok-vec.field-0; shown = c.in_ok-vec-2.field-0; pieces = c.new.result; sets = 0 } in
    let items : w.items.items ≡ Show Positive 0 ∷ [] = search rules in
    let shown : w.shown.items ≡ replicate (length c.args.table.now.rows.items) None = search rules in (
      safe_begins c.args.table.now c.requires w items shown refl,
      plan_begins c.args.table.now w items shown c.new.ensures.items refl,
    )

pub take-requires-clause-below : goal.take-requires-clause-below
take-requires-clause-below c = (safe_taken c.args.table.now c.loop.printer (record { items = c.pop.new.self; shown = c.loop.printer.shown; pieces = c.loop.printer.pieces; sets = c.loop.printer.sets }) c.in-Some.item c.loop.invariant.0 c.in-Some.ensures.items refl refl refl).1

pub take-requires-clause-safe : goal.take-requires-clause-safe
take-requires-clause-safe c = (safe_taken c.args.table.now c.loop.printer (record { items = c.pop.new.self; shown = c.loop.printer.shown; pieces = c.loop.printer.pieces; sets = c.loop.printer.sets }) c.in-Some.item c.loop.invariant.0 c.in-Some.ensures.items refl refl refl).0

pub loop-preserved : goal.loop-preserved
loop-preserved c =
    let taken : Printer = record { items = c.pop.new.self; shown = c.loop.printer.shown; pieces = c.loop.printer.pieces; sets = c.loop.printer.sets } in (
      c.in_ok-take.ensures.safe (safe_taken c.args.table.now c.loop.printer taken c.in-Some.item c.loop.invariant.0 c.in-Some.ensures.items refl refl refl).0,
      λ plan is. c.in_ok-take.ensures.on_plan plan is (plan_taken c.args.table.now c.loop.printer taken c.in-Some.item plan (c.loop.invariant.1 plan is) c.in-Some.ensures.items refl refl refl),
    )
