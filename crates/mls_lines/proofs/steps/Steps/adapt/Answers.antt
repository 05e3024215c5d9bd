use Rattle.std.proofs.Common.{◌≡◌, ◌∙◌, sym}
use Rattle.std.proofs.lemmas.Bool.Decides.{Decides-eqb}
use Rattle.std.proofs.lemmas.Result.{IfOk-weaker}
use Rattle.mls_lines.specs.Stepping.{AddsSub, AddsAdapted}
use Rattle.mls_lines.proofs.Stepping.{stays_adapted, sub_adapted}
use Rattle.mls_lines.proofs.steps.Steps.adapt.Goals as goal

pub returns-then-are_same : goal.returns-then-are_same
returns-then-are_same c = λ rising counted stands.
    let same : c.args.from.root.0 ≡ c.args.root.0 = (Decides-eqb c.args.from.root.0 c.args.root.0).0 (sym c.eq.ensures ∙ c.if-eq.true) in
    stays_adapted c.args.book.now c.args.self.now c.args.node c.args.from c.args.env.now c.args.root counted
    (c.is_empty.ensures.0 c.if-is_empty.true) (λ n. record { 0 = same n }) (sym c.as_slice.ensures ∙ (c.are_same.ensures c.if-are_same.true ∙ c.as_slice-then-eq.ensures))

pub returns : goal.returns
returns c = λ rising counted stands.
    IfOk-weaker c.sub.result (AddsSub c.args.book.now c.args.self.now c.sub.new.self c.args.node c.args.from c.args.env.now c.args.root)
    (AddsAdapted c.args.book.now c.args.self.now c.sub.new.self c.args.node c.args.from c.args.env.now c.args.root)
    (λ to it. sub_adapted c.args.book.now c.args.self.now c.args.node c.args.from c.args.env.now c.args.root c.sub.new.self to counted stands it)
    (c.sub.ensures rising)
