use Rattle.std.proofs.Common.{◌≡◌, ◌∙◌, ◌<◌, sym, subst, refl, length, get_or, arith, Some, None}
use Rattle.std.proofs.lemmas.List.{get_or_default}
use Rattle.mls_print.specs.declared.components.Item.{Item as LaidItem}
use Rattle.std.specs.Vec.{with_item}
use Rattle.mls_print.specs.declared.layout.Printer.{Printer}
use Rattle.mls_print.specs.steps.Progress.{Advances, IsItemBelow}
use Rattle.mls_print.proofs.LayoutRounds.{told_advances, left_advances, again_advances, domain_again_advances}
use Rattle.mls_print.proofs.layout.Printer.take.Goals as goal

pub returns-in_ok-push-in-Tell : goal.returns-in_ok-push-in-Tell
returns-in_ok-push-in-Tell c =
    let w : Printer = c.args.self.now in
    let new : Printer = record { items = w.items; shown = w.shown; pieces = c.push.new.self; sets = w.sets } in
    subst (λ (item : LaidItem). Advances c.args.table.now item w new) (sym c.in-Tell.is)
    (told_advances c.args.table.now c.requires.table w new c.in-Tell.piece refl refl c.in_ok-push-in-Tell.ensures.items refl)

pub returns-in-Leave : goal.returns-in-Leave
returns-in-Leave c =
    let w : Printer = c.args.self.now in
    let new : Printer = record { items = w.items; shown = with_item w.shown c.in-Leave.set None; pieces = w.pieces; sets = w.sets } in
    let low : c.in-Leave.set < length c.args.table.now.rows.items = subst (λ (item : LaidItem). IsItemBelow (length c.args.table.now.rows.items) item) c.in-Leave.is c.requires.below in
    subst (λ (item : LaidItem). Advances c.args.table.now item w new) (sym c.in-Leave.is)
    (left_advances c.args.table.now c.requires.table w new c.in-Leave.set c.requires.safe.shown low refl refl refl refl)

pub returns-in_ok-push-in-Some : goal.returns-in_ok-push-in-Some
returns-in_ok-push-in-Some c =
    let w : Printer = c.args.self.now in
    let new : Printer = record { items = w.items; shown = w.shown; pieces = c.push-in-Some.new.self; sets = w.sets } in
    let low : c.in-Show.set < length c.args.table.now.rows.items = subst (λ (item : LaidItem). IsItemBelow (length c.args.table.now.rows.items) item) c.in-Show.is c.requires.below in
    let inside : c.in-Show.set < length c.args.self.now.shown.items = omega (arith, c.requires.safe.shown) in
    let found : get_or c.args.self.now.shown.items c.in-Show.set None ≡ Some c.in-Some.number = get_or_default c.args.self.now.shown.items c.in-Show.set None c.index.result.now inside ∙ (sym c.index.ensures ∙ c.in-Some.is) in
    subst (λ (item : LaidItem). Advances c.args.table.now item w new) (sym c.in-Show.is)
    (again_advances c.args.table.now c.requires.table w new c.in-Show.polarity c.in-Show.set c.in-Some.number low found refl refl c.in_ok-push-in-Some.ensures.items refl)

pub returns-in_ok-push-in-Some-index : goal.returns-in_ok-push-in-Some-index
returns-in_ok-push-in-Some-index c =
    let w : Printer = c.args.self.now in
    let new : Printer = record { items = w.items; shown = w.shown; pieces = c.push-in-Some-index.new.self; sets = w.sets } in
    let low : c.in-ShowDomain.set < length c.args.table.now.rows.items = subst (λ (item : LaidItem). IsItemBelow (length c.args.table.now.rows.items) item) c.in-ShowDomain.is c.requires.below in
    let inside : c.in-ShowDomain.set < length c.args.self.now.shown.items = omega (arith, c.requires.safe.shown) in
    let found : get_or c.args.self.now.shown.items c.in-ShowDomain.set None ≡ Some c.in-Some-index.number = get_or_default c.args.self.now.shown.items c.in-ShowDomain.set None c.index-in-ShowDomain.result.now inside ∙ (sym c.index-in-ShowDomain.ensures ∙ c.in-Some-index.is) in
    subst (λ (item : LaidItem). Advances c.args.table.now item w new) (sym c.in-ShowDomain.is)
    (domain_again_advances c.args.table.now c.requires.table w new c.in-ShowDomain.polarity c.in-ShowDomain.set c.in-Some-index.number low found refl refl c.in_ok-push-in-Some-index.ensures.items refl)
