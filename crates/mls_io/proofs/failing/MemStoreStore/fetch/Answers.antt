-- A listed call is counted before it fails, and the count does not fall.
use Rattle.std.proofs.Common.{sym, subst, ◌∙◌}
use Rattle.mls_io.specs.Counts.{Count, Rose}
use Rattle.mls_io.specs.Memory.{shelf_holdings}
use Rattle.mls_io.specs.Stores.{Follows}
use Rattle.mls_io.specs.Listed.{FailingShelf, failing_holdings, made_of, next_count}
use Rattle.mls_io.proofs.CountLaws.{Store-Follows-refl}
use Rattle.mls_io.proofs.ListedLaws.{asked-Follows, made_of-Rose}
use Rattle.mls_io.proofs.failing.MemStoreStore.fetch.Goals as goal

pub returns-then-listed-clause-follows : goal.returns-then-listed-clause-follows
returns-then-listed-clause-follows c =
    let inside : FailingShelf = record { shelf = c.self.inside.shelf; failing = c.self.inside.failing.items; calls = c.self.inside.calls } in
    subst (λ (old : FailingShelf). Follows (failing_holdings old) (failing_holdings (record { shelf = c.self.inside.shelf; failing = c.self.inside.failing.items; calls = c.rise.new.self }))) c.self.view_is (asked-Follows inside c.self.inside.shelf c.rise.new.self (Store-Follows-refl (shelf_holdings c.self.inside.shelf)) c.rise.ensures.grows)

pub returns-then-listed-clause-failed : goal.returns-then-listed-clause-failed
returns-then-listed-clause-failed c _ =
    let old = c.args.self.now in
    let counted : Rose (made_of old.failing old.calls) (made_of c.self.inside.failing.items (next_count c.self.inside.calls)) =
    subst (λ (store : FailingShelf). Rose (made_of old.failing old.calls) (made_of store.failing (next_count store.calls))) (sym c.self.view_is) (made_of-Rose old.failing old.calls (sym c.is_next_listed-listed.ensures ∙ c.if-listed.true)) in
    subst (λ (calls : Count). Rose (made_of old.failing old.calls) (made_of c.self.inside.failing.items calls)) (sym c.rise.ensures.next) counted

pub returns-clause-follows : goal.returns-clause-follows
returns-clause-follows c =
    let inside : FailingShelf = record { shelf = c.self.inside.shelf; failing = c.self.inside.failing.items; calls = c.self.inside.calls } in
    subst (λ (old : FailingShelf). Follows (failing_holdings old) (failing_holdings (record { shelf = c.fetch.new.self; failing = c.self.inside.failing.items; calls = c.rise.new.self }))) c.self.view_is (asked-Follows inside c.fetch.new.self c.rise.new.self c.fetch.ensures.follows c.rise.ensures.grows)
