use Rattle.std.proofs.Common.{◌≡◌, arith, [], ◌∷◌, reverse, ◌∙◌}
use Rattle.mls_typetext.specs.declared.lay_out.LayoutPlace.TheVariants.{Block}
use Rattle.mls_typetext.specs.declared.lay_out.LayoutTask.TheVariants.{At}
use Rattle.mls_typetext.specs.steps.Laying.{state_of, closed_by, lay_all}
use Rattle.std.proofs.lemmas.Grind.{common_steps}
use Rattle.mls_typetext.proofs.Laid.{lays-book, lay-step, lay-end}
use Rattle.mls_typetext.proofs.lay_out.lay_out.Goals as goal

pub loop-member-preserved : goal.loop-member-preserved
loop-member-preserved c =
    lay-step (state_of c.loop-member.layout) (state_of c.take.new.self) c.in-Some.member c.loop-member.left.items c.pop.new.self.items _ c.in-Some.ensures.items c.in_ok-take.ensures c.loop-member.invariant

pub returns : goal.returns
returns c = λ a is is'.
    let none : c.loop-member.left.items ≡ [] = grind (arith, common_steps) in
    lay-end (state_of c.loop-member.layout) (state_of c.next.new.self) c.in_ok-next.field-0 c.loop-member.left.items _ none c.in_ok-next.ensures.closed c.loop-member.invariant
    ∙ ((λ i. lay_all (closed_by (At (Block 0 (is' i)) ∷ []) [] [] [] []) (reverse (is i)))
    ∙ lays-book a)
