use Rattle.std.proofs.Common.{subst}
use Rattle.mls_term.specs.declared.term.TermForm.{TermForm}
use Rattle.mls_lines.specs.Found.{IsFound}
use Rattle.mls_lines.proofs.Lengthening.{lengthens_itself, stepped_kept, stepped_long}
use Rattle.mls_lines.proofs.writer.Writer.write_form.Goals as goal

-- what is looked up is found
pub inner-requires : goal.inner-requires
inner-requires c =
    subst (λ (f : TermForm). IsFound c.args.view.now.globals.now c.args.view.now.firsts.now c.args.view.now.known.now.lets c.args.view.now.posing.now f c.args.node) c.in-Inner.is c.requires

pub global-requires : goal.global-requires
global-requires c =
    subst (λ (f : TermForm). IsFound c.args.view.now.globals.now c.args.view.now.firsts.now c.args.view.now.known.now.lets c.args.view.now.posing.now f c.args.node) c.in-Global.is c.requires

pub let_in-requires : goal.let_in-requires
let_in-requires c =
    subst (λ (f : TermForm). IsFound c.args.view.now.globals.now c.args.view.now.firsts.now c.args.view.now.known.now.lets c.args.view.now.posing.now f c.args.node) c.in-Let.is c.requires

pub returns-in-Bound : goal.returns-in-Bound
returns-in-Bound c = lengthens_itself c.args.self.now.laid

pub returns-in-Inner : goal.returns-in-Inner
returns-in-Inner c = stepped_kept c.inner.result c.stepped.result c.stepped.ensures c.args.self.now.laid c.inner.new.self.laid c.inner.ensures.laid

pub returns-in-Global : goal.returns-in-Global
returns-in-Global c = stepped_long c.global.result c.stepped-in-Global.result c.stepped-in-Global.ensures c.args.self.now.laid c.global.new.self.laid c.global.ensures.lengthens

pub returns-in-Number : goal.returns-in-Number
returns-in-Number c = stepped_kept c.literal.result c.stepped-in-Number.result c.stepped-in-Number.ensures c.args.self.now.laid c.literal.new.self.laid c.literal.ensures.laid

pub returns-in-Truth : goal.returns-in-Truth
returns-in-Truth c = stepped_kept c.literal-in-Truth.result c.stepped-in-Truth.result c.stepped-in-Truth.ensures c.args.self.now.laid c.literal-in-Truth.new.self.laid c.literal-in-Truth.ensures.laid

pub returns-in-Fun : goal.returns-in-Fun
returns-in-Fun c = stepped_long c.fun.result c.stepped-in-Fun.result c.stepped-in-Fun.ensures c.args.self.now.laid c.fun.new.self.laid c.fun.ensures

pub returns-in-Apply : goal.returns-in-Apply
returns-in-Apply c = stepped_long c.apply.result c.stepped-in-Apply.result c.stepped-in-Apply.ensures c.args.self.now.laid c.apply.new.self.laid c.apply.ensures

pub returns-in-Make : goal.returns-in-Make
returns-in-Make c = stepped_long c.make.result c.stepped-in-Make.result c.stepped-in-Make.ensures c.args.self.now.laid c.make.new.self.laid c.make.ensures

pub returns-in-Project : goal.returns-in-Project
returns-in-Project c = stepped_long c.project.result c.stepped-in-Project.result c.stepped-in-Project.ensures c.args.self.now.laid c.project.new.self.laid c.project.ensures

pub returns-in-If : goal.returns-in-If
returns-in-If c = stepped_long c.choice.result c.stepped-in-If.result c.stepped-in-If.ensures c.args.self.now.laid c.choice.new.self.laid c.choice.ensures

pub returns-in-Let : goal.returns-in-Let
returns-in-Let c = stepped_long c.let_in.result c.stepped-in-Let.result c.stepped-in-Let.ensures c.args.self.now.laid c.let_in.new.self.laid c.let_in.ensures.lengthens

pub returns-in-Rec : goal.returns-in-Rec
returns-in-Rec c = stepped_kept c.recursion.result c.stepped-in-Rec.result c.stepped-in-Rec.ensures c.args.self.now.laid c.recursion.new.self.laid c.recursion.ensures.laid
