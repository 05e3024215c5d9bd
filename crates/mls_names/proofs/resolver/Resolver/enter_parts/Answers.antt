use Rattle.std.proofs.Common.{◌∷◌, ◌+◌, sym, ap, ◌∙◌, drop, subst}
use Rattle.std.proofs.lemmas.List.{drop_more, drop_all}
use Rattle.mls_names.proofs.Tasks.{AreEntering, entering_more, entering_last}
use Rattle.mls_names.proofs.resolver.Resolver.enter_parts.Goals as goal

pub loop-part-preserved : goal.loop-part-preserved
loop-part-preserved c =
    subst (λ s. AreEntering c.args.self.now c.push.new.self c.args.stretch c.args.parts.now s (drop (c.loop-part.part-index + 1) c.args.parts.now)) (sym c.after-rest.ensures)
    (entering_more c.args.self.now c.loop-part.self c.push.new.self c.args.stretch c.loop-part.rest c.args.parts.now (drop c.loop-part.part-index c.args.parts.now) (drop (c.loop-part.part-index + 1) c.args.parts.now) c.part-item.result
    c.loop-part.invariant (drop_more c.args.parts.now c.loop-part.part-index c.part-item.result c.loop-part-test.true ∙ ap (λ p. p ∷ drop (c.loop-part.part-index + 1) c.args.parts.now) (sym c.part-item.is)) c.in_ok-push.ensures)

pub returns : goal.returns
returns c =
    entering_last c.args.self.now c.loop-part.self c.args.stretch c.loop-part.rest c.args.parts.now (drop c.loop-part.part-index c.args.parts.now) c.loop-part.invariant (drop_all c.loop-part.part-index c.args.parts.now c.loop-part-test.false)
