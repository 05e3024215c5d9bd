use Rattle.std.proofs.Common.{◌≡◌, true, false}
use Rattle.mls_pairs.proofs.Sweeping.{look_absent, look_gone, look_shown}
use Rattle.mls_pairs.proofs.deleting.deletes.Goals as goal

pub returns-then-not-holds : goal.returns-then-not-holds
returns-then-not-holds c =
    look_absent c.args.book.now c.args.pair c.args.table.now
    (λ held. let yes : c.holds.result ≡ true = c.holds.ensures.1 held in let no : c.holds.result ≡ false = c.if-not-holds.true in absurd (cc))

pub returns-then-is_shown : goal.returns-then-is_shown
returns-then-is_shown c = look_shown c.args.book.now c.args.pair c.args.table.now (c.is_shown.ensures.0 c.if-is_shown.true)

pub returns : goal.returns
returns c =
    look_gone c.args.book.now c.args.pair c.args.table.now c.remove.new.self
    (λ shown. let yes : c.is_shown.result ≡ true = c.is_shown.ensures.1 shown in let no : c.is_shown.result ≡ false = c.if-is_shown.false in absurd (cc))
    c.remove.ensures
