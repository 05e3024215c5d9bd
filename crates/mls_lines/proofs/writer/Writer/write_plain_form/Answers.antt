use Rattle.std.proofs.Common.{IfOk, List, sym, subst}
use Rattle.mls_term.specs.declared.term.Part.{Part}
use Rattle.mls_term.specs.declared.term.TermForm.{TermForm}
use Rattle.mls_term.specs.declared.term.TermForm.TheVariants as form
use Rattle.mls_parts.specs.PosedGoals.{IsPosedAt}
use Rattle.mls_lines.specs.declared.writer.Concluded.TheVariants.{Bound}
use Rattle.mls_lines.specs.PlainLines.{WritesNode}
use Rattle.mls_lines.specs.Found.{IsFound}
use Rattle.mls_lines.proofs.PlainForms.{leaf_of, number_writes, truth_writes, bound_writes, stepped_is}
use Rattle.mls_lines.proofs.Lengthening.{lengthens_itself, stepped_kept, stepped_long}
use Rattle.mls_lines.proofs.writer.Writer.write_plain_form.Goals as goal

-- what is looked up is found
pub inner-requires : goal.inner-requires
inner-requires c =
    subst (λ (f : TermForm). IsFound c.args.view.now.globals.now c.args.view.now.firsts.now c.args.view.now.known.now.lets c.args.view.now.posing.now f c.args.node) c.in-Inner.is c.requires

pub global-requires : goal.global-requires
global-requires c =
    subst (λ (f : TermForm). IsFound c.args.view.now.globals.now c.args.view.now.firsts.now c.args.view.now.known.now.lets c.args.view.now.posing.now f c.args.node) c.in-Global.is c.requires

pub plain_choice-requires : goal.plain_choice-requires
plain_choice-requires c =
    subst (λ (f : TermForm). IsFound c.args.view.now.globals.now c.args.view.now.firsts.now c.args.view.now.known.now.lets c.args.view.now.posing.now f c.args.node) c.in-If.is c.requires

pub let_in-requires : goal.let_in-requires
let_in-requires c =
    subst (λ (f : TermForm). IsFound c.args.view.now.globals.now c.args.view.now.firsts.now c.args.view.now.known.now.lets c.args.view.now.posing.now f c.args.node) c.in-Let.is c.requires

pub returns-in-Bound-clause-writes : goal.returns-in-Bound-clause-writes
returns-in-Bound-clause-writes c = λ k parts sound have rise firsts_low globals_low posed.
    subst (λ (f : TermForm). WritesNode c.args.view.now.globals.now c.args.view.now.firsts.now c.args.view.now.known.now.lets k c.args.view.now.posing.now parts c.args.node f c.args.self.now c.args.self.now (Bound c.in-Bound.x)) (sym c.in-Bound.is)
    (bound_writes c.args.view.now.globals.now c.args.view.now.firsts.now c.args.view.now.known.now.lets k c.args.view.now.posing.now parts c.args.node c.args.self.now sound c.in-Bound.x)

pub returns-in-Inner-clause-writes : goal.returns-in-Inner-clause-writes
returns-in-Inner-clause-writes c = λ k parts sound have rise firsts_low globals_low posed.
    let it = subst (λ (f : TermForm). IsPosedAt k c.args.view.now.posing.now f c.args.node) c.in-Inner.is posed in
    subst (λ (f : TermForm). IfOk c.stepped.result (WritesNode c.args.view.now.globals.now c.args.view.now.firsts.now c.args.view.now.known.now.lets k c.args.view.now.posing.now parts c.args.node f c.args.self.now c.inner.new.self)) (sym c.in-Inner.is)
    (stepped_is c.inner.result c.stepped.result (WritesNode c.args.view.now.globals.now c.args.view.now.firsts.now c.args.view.now.known.now.lets k c.args.view.now.posing.now parts c.args.node _ c.args.self.now c.inner.new.self) c.stepped.ensures (c.inner.ensures.writes k parts sound rise firsts_low))

pub returns-in-Global-clause-writes : goal.returns-in-Global-clause-writes
returns-in-Global-clause-writes c = λ k parts sound have rise firsts_low globals_low posed.
    let it = subst (λ (f : TermForm). IsPosedAt k c.args.view.now.posing.now f c.args.node) c.in-Global.is posed in
    subst (λ (f : TermForm). IfOk c.stepped-in-Global.result (WritesNode c.args.view.now.globals.now c.args.view.now.firsts.now c.args.view.now.known.now.lets k c.args.view.now.posing.now parts c.args.node f c.args.self.now c.global.new.self)) (sym c.in-Global.is)
    (stepped_is c.global.result c.stepped-in-Global.result (WritesNode c.args.view.now.globals.now c.args.view.now.firsts.now c.args.view.now.known.now.lets k c.args.view.now.posing.now parts c.args.node _ c.args.self.now c.global.new.self) c.stepped-in-Global.ensures (c.global.ensures.writes k parts sound globals_low))

pub returns-in-Number-clause-writes : goal.returns-in-Number-clause-writes
returns-in-Number-clause-writes c = λ k parts sound have rise firsts_low globals_low posed.
    let w = c.args.self.now in
    let it = subst (λ (f : TermForm). IsPosedAt k c.args.view.now.posing.now f c.args.node) c.in-Number.is posed in
    subst (λ (f : TermForm). IfOk c.stepped-in-Number.result (WritesNode c.args.view.now.globals.now c.args.view.now.firsts.now c.args.view.now.known.now.lets k c.args.view.now.posing.now parts c.args.node f c.args.self.now c.literal.new.self)) (sym c.in-Number.is)
    (stepped_is c.literal.result c.stepped-in-Number.result (WritesNode c.args.view.now.globals.now c.args.view.now.firsts.now c.args.view.now.known.now.lets k c.args.view.now.posing.now parts c.args.node _ c.args.self.now c.literal.new.self) c.stepped-in-Number.ensures
    (leaf_of c.literal.result w c.literal.new.self c.args.node w.laid.integer
    c.literal.ensures.laid c.literal.ensures.concluded c.literal.ensures.lines
    (λ own same kept adds. number_writes c.args.view.now.globals.now c.args.view.now.firsts.now c.args.view.now.known.now.lets k c.args.view.now.posing.now parts c.args.node w sound c.literal.new.self own w.laid.integer (have.integer _ it) same kept adds _ have.is_integer)))

pub returns-in-Truth-clause-writes : goal.returns-in-Truth-clause-writes
returns-in-Truth-clause-writes c = λ k parts sound have rise firsts_low globals_low posed.
    let w = c.args.self.now in
    let it = subst (λ (f : TermForm). IsPosedAt k c.args.view.now.posing.now f c.args.node) c.in-Truth.is posed in
    subst (λ (f : TermForm). IfOk c.stepped-in-Truth.result (WritesNode c.args.view.now.globals.now c.args.view.now.firsts.now c.args.view.now.known.now.lets k c.args.view.now.posing.now parts c.args.node f c.args.self.now c.literal-in-Truth.new.self)) (sym c.in-Truth.is)
    (stepped_is c.literal-in-Truth.result c.stepped-in-Truth.result (WritesNode c.args.view.now.globals.now c.args.view.now.firsts.now c.args.view.now.known.now.lets k c.args.view.now.posing.now parts c.args.node _ c.args.self.now c.literal-in-Truth.new.self) c.stepped-in-Truth.ensures
    (leaf_of c.literal-in-Truth.result w c.literal-in-Truth.new.self c.args.node w.laid.boolean
    c.literal-in-Truth.ensures.laid c.literal-in-Truth.ensures.concluded c.literal-in-Truth.ensures.lines
    (λ own same kept adds. truth_writes c.args.view.now.globals.now c.args.view.now.firsts.now c.args.view.now.known.now.lets k c.args.view.now.posing.now parts c.args.node w sound c.literal-in-Truth.new.self own w.laid.boolean (have.boolean _ it) same kept adds _ have.is_boolean)))

pub returns-in-Fun-clause-writes : goal.returns-in-Fun-clause-writes
returns-in-Fun-clause-writes c = λ k parts sound have rise firsts_low globals_low posed.
    let it = subst (λ (f : TermForm). IsPosedAt k c.args.view.now.posing.now f c.args.node) c.in-Fun.is posed in
    subst (λ (f : TermForm). IfOk c.stepped-in-Fun.result (WritesNode c.args.view.now.globals.now c.args.view.now.firsts.now c.args.view.now.known.now.lets k c.args.view.now.posing.now parts c.args.node f c.args.self.now c.plain_fun.new.self)) (sym c.in-Fun.is)
    (stepped_is c.plain_fun.result c.stepped-in-Fun.result (WritesNode c.args.view.now.globals.now c.args.view.now.firsts.now c.args.view.now.known.now.lets k c.args.view.now.posing.now parts c.args.node _ c.args.self.now c.plain_fun.new.self) c.stepped-in-Fun.ensures (c.plain_fun.ensures.writes k parts sound have))

pub returns-in-Apply-clause-writes : goal.returns-in-Apply-clause-writes
returns-in-Apply-clause-writes c = λ k parts sound have rise firsts_low globals_low posed.
    let it = subst (λ (f : TermForm). IsPosedAt k c.args.view.now.posing.now f c.args.node) c.in-Apply.is posed in
    subst (λ (f : TermForm). IfOk c.stepped-in-Apply.result (WritesNode c.args.view.now.globals.now c.args.view.now.firsts.now c.args.view.now.known.now.lets k c.args.view.now.posing.now parts c.args.node f c.args.self.now c.plain_apply.new.self)) (sym c.in-Apply.is)
    (stepped_is c.plain_apply.result c.stepped-in-Apply.result (WritesNode c.args.view.now.globals.now c.args.view.now.firsts.now c.args.view.now.known.now.lets k c.args.view.now.posing.now parts c.args.node _ c.args.self.now c.plain_apply.new.self) c.stepped-in-Apply.ensures (c.plain_apply.ensures.writes k parts sound have it))

pub returns-in-Project-clause-writes : goal.returns-in-Project-clause-writes
returns-in-Project-clause-writes c = λ k parts sound have rise firsts_low globals_low posed.
    let it = subst (λ (f : TermForm). IsPosedAt k c.args.view.now.posing.now f c.args.node) c.in-Project.is posed in
    subst (λ (f : TermForm). IfOk c.stepped-in-Project.result (WritesNode c.args.view.now.globals.now c.args.view.now.firsts.now c.args.view.now.known.now.lets k c.args.view.now.posing.now parts c.args.node f c.args.self.now c.plain_project.new.self)) (sym c.in-Project.is)
    (stepped_is c.plain_project.result c.stepped-in-Project.result (WritesNode c.args.view.now.globals.now c.args.view.now.firsts.now c.args.view.now.known.now.lets k c.args.view.now.posing.now parts c.args.node _ c.args.self.now c.plain_project.new.self) c.stepped-in-Project.ensures (c.plain_project.ensures.writes k parts sound have it))

pub returns-in-If-clause-writes : goal.returns-in-If-clause-writes
returns-in-If-clause-writes c = λ k parts sound have rise firsts_low globals_low posed.
    let it = subst (λ (f : TermForm). IsPosedAt k c.args.view.now.posing.now f c.args.node) c.in-If.is posed in
    subst (λ (f : TermForm). IfOk c.stepped-in-If.result (WritesNode c.args.view.now.globals.now c.args.view.now.firsts.now c.args.view.now.known.now.lets k c.args.view.now.posing.now parts c.args.node f c.args.self.now c.plain_choice.new.self)) (sym c.in-If.is)
    (stepped_is c.plain_choice.result c.stepped-in-If.result (WritesNode c.args.view.now.globals.now c.args.view.now.firsts.now c.args.view.now.known.now.lets k c.args.view.now.posing.now parts c.args.node _ c.args.self.now c.plain_choice.new.self) c.stepped-in-If.ensures (c.plain_choice.ensures.writes k parts sound have it))

pub returns-in-Rec-clause-writes : goal.returns-in-Rec-clause-writes
returns-in-Rec-clause-writes c = λ k parts sound have rise firsts_low globals_low posed.
    let it = subst (λ (f : TermForm). IsPosedAt k c.args.view.now.posing.now f c.args.node) c.in-Rec.is posed in
    subst (λ (f : TermForm). IfOk c.stepped-in-Rec.result (WritesNode c.args.view.now.globals.now c.args.view.now.firsts.now c.args.view.now.known.now.lets k c.args.view.now.posing.now parts c.args.node f c.args.self.now c.recursion.new.self)) (sym c.in-Rec.is)
    (stepped_is c.recursion.result c.stepped-in-Rec.result (WritesNode c.args.view.now.globals.now c.args.view.now.firsts.now c.args.view.now.known.now.lets k c.args.view.now.posing.now parts c.args.node _ c.args.self.now c.recursion.new.self) c.stepped-in-Rec.ensures (c.recursion.ensures.writes k parts sound have))

pub returns-in-Make-clause-writes : goal.returns-in-Make-clause-writes
returns-in-Make-clause-writes c = λ k parts sound have rise firsts_low globals_low posed.
    subst (λ (f : TermForm). IfOk c.stepped-in-Make.result (WritesNode c.args.view.now.globals.now c.args.view.now.firsts.now c.args.view.now.known.now.lets k c.args.view.now.posing.now parts c.args.node f c.args.self.now c.plain_make.new.self)) (sym c.in-Make.is)
    (subst (λ (fields : List Part). IfOk c.stepped-in-Make.result (WritesNode c.args.view.now.globals.now c.args.view.now.firsts.now c.args.view.now.known.now.lets k c.args.view.now.posing.now parts c.args.node (form.Make fields) c.args.self.now c.plain_make.new.self)) c.as_slice.ensures
    (stepped_is c.plain_make.result c.stepped-in-Make.result (WritesNode c.args.view.now.globals.now c.args.view.now.firsts.now c.args.view.now.known.now.lets k c.args.view.now.posing.now parts c.args.node _ c.args.self.now c.plain_make.new.self) c.stepped-in-Make.ensures (c.plain_make.ensures.writes k parts sound have)))

pub returns-in-Let-clause-writes : goal.returns-in-Let-clause-writes
returns-in-Let-clause-writes c = λ k parts sound have rise firsts_low globals_low posed.
    subst (λ (f : TermForm). IfOk c.stepped-in-Let.result (WritesNode c.args.view.now.globals.now c.args.view.now.firsts.now c.args.view.now.known.now.lets k c.args.view.now.posing.now parts c.args.node f c.args.self.now c.let_in.new.self)) (sym c.in-Let.is)
    (stepped_is c.let_in.result c.stepped-in-Let.result (WritesNode c.args.view.now.globals.now c.args.view.now.firsts.now c.args.view.now.known.now.lets k c.args.view.now.posing.now parts c.args.node _ c.args.self.now c.let_in.new.self) c.stepped-in-Let.ensures (c.let_in.ensures.writes k parts _ sound rise firsts_low))

pub returns-in-Bound-clause-lengthens : goal.returns-in-Bound-clause-lengthens
returns-in-Bound-clause-lengthens c = lengthens_itself c.args.self.now.laid

pub returns-in-Inner-clause-lengthens : goal.returns-in-Inner-clause-lengthens
returns-in-Inner-clause-lengthens c = stepped_kept c.inner.result c.stepped.result c.stepped.ensures c.args.self.now.laid c.inner.new.self.laid c.inner.ensures.laid

pub returns-in-Global-clause-lengthens : goal.returns-in-Global-clause-lengthens
returns-in-Global-clause-lengthens c = stepped_long c.global.result c.stepped-in-Global.result c.stepped-in-Global.ensures c.args.self.now.laid c.global.new.self.laid c.global.ensures.lengthens

pub returns-in-Number-clause-lengthens : goal.returns-in-Number-clause-lengthens
returns-in-Number-clause-lengthens c = stepped_kept c.literal.result c.stepped-in-Number.result c.stepped-in-Number.ensures c.args.self.now.laid c.literal.new.self.laid c.literal.ensures.laid

pub returns-in-Truth-clause-lengthens : goal.returns-in-Truth-clause-lengthens
returns-in-Truth-clause-lengthens c = stepped_kept c.literal-in-Truth.result c.stepped-in-Truth.result c.stepped-in-Truth.ensures c.args.self.now.laid c.literal-in-Truth.new.self.laid c.literal-in-Truth.ensures.laid

pub returns-in-Fun-clause-lengthens : goal.returns-in-Fun-clause-lengthens
returns-in-Fun-clause-lengthens c = stepped_kept c.plain_fun.result c.stepped-in-Fun.result c.stepped-in-Fun.ensures c.args.self.now.laid c.plain_fun.new.self.laid c.plain_fun.ensures.laid

pub returns-in-Apply-clause-lengthens : goal.returns-in-Apply-clause-lengthens
returns-in-Apply-clause-lengthens c = stepped_long c.plain_apply.result c.stepped-in-Apply.result c.stepped-in-Apply.ensures c.args.self.now.laid c.plain_apply.new.self.laid c.plain_apply.ensures.lengthens

pub returns-in-Make-clause-lengthens : goal.returns-in-Make-clause-lengthens
returns-in-Make-clause-lengthens c = stepped_long c.plain_make.result c.stepped-in-Make.result c.stepped-in-Make.ensures c.args.self.now.laid c.plain_make.new.self.laid c.plain_make.ensures.lengthens

pub returns-in-Project-clause-lengthens : goal.returns-in-Project-clause-lengthens
returns-in-Project-clause-lengthens c = stepped_kept c.plain_project.result c.stepped-in-Project.result c.stepped-in-Project.ensures c.args.self.now.laid c.plain_project.new.self.laid c.plain_project.ensures.laid

pub returns-in-If-clause-lengthens : goal.returns-in-If-clause-lengthens
returns-in-If-clause-lengthens c = stepped_long c.plain_choice.result c.stepped-in-If.result c.stepped-in-If.ensures c.args.self.now.laid c.plain_choice.new.self.laid c.plain_choice.ensures.lengthens

pub returns-in-Let-clause-lengthens : goal.returns-in-Let-clause-lengthens
returns-in-Let-clause-lengthens c = stepped_long c.let_in.result c.stepped-in-Let.result c.stepped-in-Let.ensures c.args.self.now.laid c.let_in.new.self.laid c.let_in.ensures.lengthens

pub returns-in-Rec-clause-lengthens : goal.returns-in-Rec-clause-lengthens
returns-in-Rec-clause-lengthens c = stepped_kept c.recursion.result c.stepped-in-Rec.result c.stepped-in-Rec.ensures c.args.self.now.laid c.recursion.new.self.laid c.recursion.ensures.laid
