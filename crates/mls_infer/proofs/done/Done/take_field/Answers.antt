use Rattle.std.proofs.Common.{◌<◌, [], ℕ, List, length, refl, rules, subst}
use Rattle.std.specs.Prelude.{IfSome, Option}
use Rattle.mls_automaton.specs.declared.scheme.Scheme.{Scheme}
use Rattle.mls_term.specs.declared.term.TermForm.{TermForm}
use Rattle.mls_term.specs.declared.term.TermForm.TheVariants as form
use Rattle.mls_infer.specs.declared.done.Done.{Done}
use Rattle.mls_infer.specs.declared.done.Known.{Known}
use Rattle.mls_infer.specs.Doing.{finished_in}
use Rattle.mls_infer.specs.Fields.{IsFieldOf}
use Rattle.mls_infer.specs.Finished.{Has}
use Rattle.mls_infer.specs.Pending.{part_in}
use Rattle.mls_infer.proofs.DonePlaces.{known_low}
use Rattle.mls_infer.proofs.DoneSteps.{field_built}
use Rattle.mls_infer.proofs.TakenParts.{first_there}
use Rattle.mls_infer.proofs.done.Done.take_field.Goals as goal

pub field-requires-clause-there : goal.field-requires-clause-there
field-requires-clause-there c =
    let node : TermForm = form.Project c.args.i c.args.label.now in
    first_there c.args.self.now c.requires.done node c.requires.parts c.args.i [] refl

pub index_mut-requires : goal.index_mut-requires
index_mut-requires c =
    let node : TermForm = form.Project c.args.i c.args.label.now in
    let one = first_there c.args.self.now c.requires.done node c.requires.parts c.args.i [] refl in
    let low : c.args.i < length c.args.self.now.nodes.items = known_low c.args.self.now.live c.args.self.now.nodes.items c.args.i one.0 one.1 in
    search rules

-- what the field is asked, by whatever its node is known
abbrev IsKnownField : Done → ℕ → List ℕ → Scheme → Type 0
IsKnownField done i label t = (s : Scheme) → Has (finished_in done) i s → IsFieldOf label s t

pub copied-requires : goal.copied-requires
copied-requires c =
    let node : TermForm = form.Project c.args.i c.args.label.now in
    let one = first_there c.args.self.now c.requires.done node c.requires.parts c.args.i [] refl in
    let field : IsKnownField c.args.self.now c.args.i c.args.label.now c.in-Some.field = subst (λ (o : Option Scheme). IfSome o (IsKnownField c.args.self.now c.args.i c.args.label.now)) c.in-Some.is c.in_ok-known.ensures in
    (field one.0 one.1).solution.states

pub returns-in_ok-part-in-Some-clause-some : goal.returns-in_ok-part-in-Some-clause-some
returns-in_ok-part-in-Some-clause-some c =
    let nodes : List Known = c.args.self.now.nodes.items in
    let field : IsKnownField c.args.self.now c.args.i c.args.label.now c.in-Some.field = subst (λ (o : Option Scheme). IfSome o (IsKnownField c.args.self.now c.args.i c.args.label.now)) c.in-Some.is c.in_ok-known.ensures in
    field_built c.args.self.now.live c.copied.new.live nodes c.requires.done c.args.i c.args.label.now c.requires.parts c.ready-copied.ensures.live
    c.in-Some.field (part_in c.in_ok-part-in-Some.part) c.in_ok-part-in-Some.ensures.copied field
