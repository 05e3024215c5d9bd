use Rattle.std.proofs.Common.{rules, ◌<◌, length, sym, ap, ◌∙◌, not}
use Rattle.mls_book.specs.Passes.{passes}
use Rattle.mls_book.proofs.Shown.{at_node, at_parts, at_function, at_record, none_where, found_field, or_yes, or_no, and_yes, and_no, field_in_range}
use Rattle.mls_book.proofs.test.+passes.Goals as goal

pub passes-requires-in-Some : goal.passes-requires-in-Some
passes-requires-in-Some t c =
    let in_range : c.in-Some.node.0 < length c.args.book.now = field_in_range _ c.requires.closed _ c.requires.in_range _ c.node.ensures.node _ c.in-Rcd.is _ _ c.get-in-At.ensures _ c.in-Some.is in
    search rules

pub returns-in-Bot : goal.returns-in-Bot
returns-in-Bot t c = at_node _ c.node.ensures.book _ _ _ c.test.view_is _ c.node.ensures.node _ c.in-Bot.is

pub returns-in-Top : goal.returns-in-Top
returns-in-Top t c = at_node _ c.node.ensures.book _ _ _ c.test.view_is _ c.node.ensures.node _ c.in-Top.is

pub returns-in-Var : goal.returns-in-Var
returns-in-Var t c = c.has.ensures ∙ at_parts _ c.node.ensures.book _ _ _ c.test.view_is _ c.node.ensures.node _ c.in-Var.is

pub returns-in-Bool : goal.returns-in-Bool
returns-in-Bool t c = at_parts _ c.node.ensures.book _ _ _ c.test.view_is _ c.node.ensures.node _ c.in-Bool.is

pub returns-in-Int : goal.returns-in-Int
returns-in-Int t c = at_parts _ c.node.ensures.book _ _ _ c.test.view_is _ c.node.ensures.node _ c.in-Int.is

pub returns-in-Never : goal.returns-in-Never
returns-in-Never t c = at_function _ c.node.ensures.book _ _ _ c.test.view_is _ c.node.ensures.node _ _ c.in-Arrow.is _ c.in-Never.is

pub returns-in-Always : goal.returns-in-Always
returns-in-Always t c = at_function _ c.node.ensures.book _ _ _ c.test.view_is _ c.node.ensures.node _ _ c.in-Arrow.is _ c.in-Always.is

pub returns-in-Dom : goal.returns-in-Dom
returns-in-Dom t c =
    ap not (c.passes.ensures ∙ ap (passes c.args.book.now c.in-Arrow.j.0) c.deref.ensures)
    ∙ at_function _ c.node.ensures.book _ _ _ c.test.view_is _ c.node.ensures.node _ _ c.in-Arrow.is _ c.in-Dom.is

pub returns-in-Cod : goal.returns-in-Cod
returns-in-Cod t c =
    (c.passes-in-Cod.ensures ∙ ap (passes c.args.book.now c.in-Arrow.k.0) c.deref-in-Cod.ensures)
    ∙ at_function _ c.node.ensures.book _ _ _ c.test.view_is _ c.node.ensures.node _ _ c.in-Arrow.is _ c.in-Cod.is

pub returns-in-Never-fields : goal.returns-in-Never-fields
returns-in-Never-fields t c = at_record _ c.node.ensures.book _ _ _ c.test.view_is _ c.node.ensures.node _ c.in-Rcd.is _ c.in-Never-fields.is

pub returns-in-Always-fields : goal.returns-in-Always-fields
returns-in-Always-fields t c = at_record _ c.node.ensures.book _ _ _ c.test.view_is _ c.node.ensures.node _ c.in-Rcd.is _ c.in-Always-fields.is

pub returns-in-Lacks : goal.returns-in-Lacks
returns-in-Lacks t c =
    none_where (passes c.args.book.now) _ _ _ c.get.ensures (c.is_none.ensures)
    ∙ at_record _ c.node.ensures.book _ _ _ c.test.view_is _ c.node.ensures.node _ c.in-Rcd.is _ c.in-Lacks.is

pub returns-in-None : goal.returns-in-None
returns-in-None t c =
    found_field (passes c.args.book.now) c.in-At.part.value _ _ (sym c.in-None.is ∙ c.get-in-At.ensures)
    ∙ at_record _ c.node.ensures.book _ _ _ c.test.view_is _ c.node.ensures.node _ c.in-Rcd.is _ c.in-At.is

pub returns-in-Some : goal.returns-in-Some
returns-in-Some t c =
    (c.passes-in-Some.ensures ∙ ap (passes c.args.book.now c.in-Some.node.0) c.deref-in-Some.ensures)
    ∙ (found_field (passes c.args.book.now) c.in-At.part.value _ _ (sym c.in-Some.is ∙ c.get-in-At.ensures)
    ∙ at_record _ c.node.ensures.book _ _ _ c.test.view_is _ c.node.ensures.node _ c.in-Rcd.is _ c.in-At.is)

pub returns-then-passes : goal.returns-then-passes
returns-then-passes t c =
    c.passes-in-Join.ensures
    ∙ (or_yes (passes c.args.book.now c.in-Join.j.0 c.args.test.now) (passes c.args.book.now c.in-Join.k.0 c.args.test.now) (sym c.passes-in-Join.ensures ∙ c.if-passes.true)
    ∙ at_node _ c.node.ensures.book _ _ _ c.test.view_is _ c.node.ensures.node _ c.in-Join.is)

pub returns-else-passes : goal.returns-else-passes
returns-else-passes t c =
    c.passes-else-passes.ensures
    ∙ (or_no (passes c.args.book.now c.in-Join.j.0 c.args.test.now) (passes c.args.book.now c.in-Join.k.0 c.args.test.now) (sym c.passes-in-Join.ensures ∙ c.if-passes.false)
    ∙ at_node _ c.node.ensures.book _ _ _ c.test.view_is _ c.node.ensures.node _ c.in-Join.is)

pub returns-then-passes-2 : goal.returns-then-passes-2
returns-then-passes-2 t c =
    c.passes-then-passes-2.ensures
    ∙ (and_yes (passes c.args.book.now c.in-Meet.j.0 c.args.test.now) (passes c.args.book.now c.in-Meet.k.0 c.args.test.now) (sym c.passes-in-Meet.ensures ∙ c.if-passes-2.true)
    ∙ at_node _ c.node.ensures.book _ _ _ c.test.view_is _ c.node.ensures.node _ c.in-Meet.is)

pub returns-else-passes-2 : goal.returns-else-passes-2
returns-else-passes-2 t c =
    c.passes-in-Meet.ensures
    ∙ (and_no (passes c.args.book.now c.in-Meet.j.0 c.args.test.now) (passes c.args.book.now c.in-Meet.k.0 c.args.test.now) (sym c.passes-in-Meet.ensures ∙ c.if-passes-2.false)
    ∙ at_node _ c.node.ensures.book _ _ _ c.test.view_is _ c.node.ensures.node _ c.in-Meet.is)
