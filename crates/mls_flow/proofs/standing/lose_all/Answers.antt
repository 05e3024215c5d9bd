use Rattle.std.proofs.Common.{◌≡◌, ◌<◌, ◌∙◌, length, arith}
use Rattle.mls_automaton.proofs.Lists.{All-contained}
use Rattle.mls_flow.specs.declared.standing.Use.{Use}
use Rattle.mls_flow.proofs.Losses.{claims-low, taken-more}
use Rattle.mls_flow.proofs.standing.lose_all.Goals as goal

pub lose_uses-requires : goal.lose_uses-requires
lose_uses-requires c =
    let len : c.len.result ≡ length c.loop-next.lost.items = c.len.ensures ∙ c.loop-next.lost.ok.0 in
    let low : c.loop-next.next < length c.loop-next.lost.items = omega arith in
    All-contained (λ (u : Use). u.claim < length c.loop-next.left.items) c.as_slice.result.now
    (claims-low c.args.claims.now c.args.uses.now c.requires.uses c.loop-next.next (record { left = c.loop-next.left.items; lost = c.loop-next.lost.items })
    c.loop-next.invariant.0 low c.index.result.now c.index.ensures c.as_slice.result.now c.index-uses-index.result (c.as_slice.ensures ∙ c.index-uses-index.is))

pub loop-next-preserved : goal.loop-next-preserved
loop-next-preserved c =
    let len : c.len.result ≡ length c.loop-next.lost.items = c.len.ensures ∙ c.loop-next.lost.ok.0 in
    let low : c.loop-next.next < length c.loop-next.lost.items = omega arith in
    taken-more c.args.claims.now c.args.uses.now c.requires.uses c.loop-next.next (record { left = c.loop-next.left.items; lost = c.loop-next.lost.items })
    c.loop-next.invariant.0 low c.index.result.now c.index.ensures c.as_slice.result.now c.index-uses-index.result (c.as_slice.ensures ∙ c.index-uses-index.is)
    (record { left = c.lose_uses.new.left.items; lost = c.lose_uses.new.lost.items }) c.in_ok-lose_uses.ensures
