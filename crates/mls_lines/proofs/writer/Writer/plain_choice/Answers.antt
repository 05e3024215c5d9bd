use Rattle.std.proofs.Common.{◌∙◌, ◌<◌, length, refl, sym, ap, subst}
use Rattle.mls_book.specs.declared.book.NodeId.{NodeId}
use Rattle.mls_lines.specs.Writer.{HasLowEnv}
use Rattle.mls_book.specs.declared.book.Node.TheVariants as node
use Rattle.mls_layout.specs.declared.layout.LaidOut.{LaidOut}
use Rattle.mls_lines.proofs.LowNodes.{there_low, three_low, up}
use Rattle.mls_lines.proofs.GoingOn.{sound_grown, sound_brought}
use Rattle.mls_lines.proofs.PlainForms.{choice_writes}
use Rattle.mls_lines.proofs.Lengthening.{lengthens_grown, lengthens_kept}
use Rattle.mls_lines.proofs.writer.Writer.plain_choice.Goals as goal

pub returns-clause-writes : goal.returns-clause-writes
returns-clause-writes c = λ k parts sound have posed.
    let w = c.args.self.now in
    let p = c.args.view.now.posing.now in
    let grown = c.env_of_parts_of_choice.new.self in
    let once = c.adapted.new.self in
    let twice = c.adapted-2.new.self in
    let thrice = c.adapted-3.new.self in
    let truth = w.laid.boolean in
    let top = c.place-into.result in
    let grows = c.in_ok-env.ensures.grows in
    let joins = c.in_ok-env.ensures.joins sound.rising in
    let rising = joins.joins.rising in
    let now = sound_grown w grown grows sound in
    let truth_low = there_low w.laid.book truth.0 node.Bool (λ no. absurd (cc)) have.is_boolean in
    let place = ap (λ (n : NodeId). n.0) c.place-into.ensures in
    let top_low : top.0 < length w.laid.book = subst (λ n. n < length w.laid.book) (sym place) (sound.places c.result_of-state.result) in
    let low = three_low w grown p sound grows c.args.condition c.args.first c.args.second truth.0 top.0 c.in_ok-env.env joins truth_low top_low in
    let top_up = up w grown p sound grows top.0 top_low in
    let it = c.in_ok-asked.ensures.brings rising now low (up w grown p sound grows truth.0 truth_low) in
    let then_now = sound_brought grown once c.args.condition c.in_ok-env.env truth c.in_ok-asked.asked it now in
    let later = c.in_ok-yes.ensures.brings rising then_now (subst (λ (l : LaidOut). HasLowEnv (length l.book) c.in_ok-env.env) (sym it.laid) low)
    (subst (λ (l : LaidOut). top.0 < length l.book) (sym it.laid) top_up) in
    let last_now = sound_brought once twice c.args.first c.in_ok-env.env top c.in_ok-yes.yes later then_now in
    let latest = c.in_ok-no.ensures.brings rising last_now (subst (λ (l : LaidOut). HasLowEnv (length l.book) c.in_ok-env.env) (sym (later.laid ∙ it.laid)) low)
    (subst (λ (l : LaidOut). top.0 < length l.book) (sym (later.laid ∙ it.laid)) top_up) in
    choice_writes c.args.view.now.globals.now c.args.view.now.firsts.now c.args.view.now.known.now.lets k p parts c.args.node w sound grown once twice thrice _ grows c.args.condition c.args.first c.args.second truth top c.in_ok-env.env
    c.in_ok-asked.asked c.in_ok-yes.yes c.in_ok-no.no it later latest c.in_ok-own.own refl refl c.result_of-state.result posed c.result_of-state.ensures have refl place joins c.in_ok-own.ensures

pub returns-clause-lengthens : goal.returns-clause-lengthens
returns-clause-lengthens c =
    lengthens_kept c.args.self.now.laid c.env_of_parts_of_choice.new.self.laid c.adapted-3.new.self.laid (lengthens_grown c.args.self.now c.env_of_parts_of_choice.new.self c.in_ok-env.ensures.grows)
    (c.in_ok-no.ensures.laid ∙ (c.in_ok-yes.ensures.laid ∙ c.in_ok-asked.ensures.laid))
