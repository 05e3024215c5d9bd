use Rattle.std.proofs.Common.{[], ◌∷◌, ◌++◌, sym, ap, ◌∙◌, subst, Some}
use Rattle.std.specs.List.{list_all}
use Rattle.mls_lexer.specs.steps.Machine.{run}
use Rattle.mls_lexer.specs.declared.token.Kind.TheVariants.{Name}
use Rattle.mls_typetext.specs.declared.end.EndPart.TheVariants.{Whole}
use Rattle.mls_typetext.specs.steps.EndTable.{may_end}
use Rattle.mls_typetext.specs.steps.EndStacks.{part_of, stack_of, Stepped}
use Rattle.mls_typetext.proofs.TypeEnds.{token-read, token-over, token-stuck, last-over, last-early}
use Rattle.mls_typetext.proofs.end.type_end.Goals as goal

pub loop-count-init : goal.loop-count-init
unfolding run
loop-count-init c = ap (λ parts. Some (stack_of parts)) (sym (c.in_ok-push.ensures.items ∙ ap (λ parts. parts ++ Whole ∷ []) c.new-stack.ensures.items))

pub returns-in-Over-clause-end : goal.returns-in-Over-clause-end
returns-in-Over-clause-end c =
    token-over c.args.text.now c.args.tokens.now c.args.from c.loop-count.count (record { kind = Name; start = 0; end = 0 }) c.loop-count-test.true c.loop-count.stack.items c.read_token.new.stack.items c.loop-count.invariant
    (subst (Stepped _ c.loop-count.stack.items c.read_token.new.stack.items) c.in-Over.is c.in_ok-read_token.ensures)

pub returns-in-Stuck-clause-fault : goal.returns-in-Stuck-clause-fault
returns-in-Stuck-clause-fault c =
    λ other. token-stuck c.args.text.now c.args.tokens.now c.args.from c.loop-count.count (record { kind = Name; start = 0; end = 0 }) c.loop-count-test.true c.loop-count.stack.items c.read_token.new.stack.items c.loop-count.invariant
    (subst (Stepped _ c.loop-count.stack.items c.read_token.new.stack.items) c.in-Stuck.is c.in_ok-read_token.ensures)

pub loop-count-preserved : goal.loop-count-preserved
loop-count-preserved c =
    token-read c.args.text.now c.args.tokens.now c.args.from c.loop-count.count (record { kind = Name; start = 0; end = 0 }) c.loop-count-test.true c.loop-count.stack.items c.read_token.new.stack.items c.loop-count.invariant
    (subst (Stepped _ c.loop-count.stack.items c.read_token.new.stack.items) c.in-Read.is c.in_ok-read_token.ensures)

pub returns-then-can_end-clause-end : goal.returns-then-can_end-clause-end
returns-then-can_end-clause-end c =
    last-over c.args.text.now c.args.tokens.now c.args.from c.loop-count.count c.loop-count.stack.items c.requires.from c.loop-count-test.false c.loop-count.invariant (ap (list_all (λ part. may_end (part_of part))) (sym c.deref.ensures.value) ∙ sym c.if-can_end.ensures)

pub returns-clause-fault : goal.returns-clause-fault
returns-clause-fault c =
    λ other. last-early c.args.text.now c.args.tokens.now c.args.from c.loop-count.count c.loop-count.stack.items c.loop-count-test.false c.loop-count.invariant (ap (list_all (λ part. may_end (part_of part))) (sym c.deref.ensures.value) ∙ sym c.if-can_end.ensures)
