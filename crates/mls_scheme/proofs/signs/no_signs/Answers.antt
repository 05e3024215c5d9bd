use Rattle.std.proofs.Common.{◌≡◌, ◌+◌, ◌∙◌, ◌∷◌, [], length, arith, ap, None}
use Rattle.std.proofs.lemmas.List.{length-append}
use Rattle.mls_scheme.proofs.FoundSigns.{none-more}
use Rattle.mls_scheme.proofs.signs.no_signs.Goals as goal

pub loop-signs-preserved : goal.loop-signs-preserved
loop-signs-preserved c =
    let size : length c.push.new.self.items ≡ length c.loop-signs.signs.items + 1 = ap length c.in_ok-push.ensures.items ∙ length-append c.loop-signs.signs.items (None ∷ []) in
    let low = c.loop-signs-test.true in
    (omega arith, none-more c.loop-signs.signs.items c.push.new.self.items c.loop-signs.invariant.1 c.in_ok-push.ensures.items)
