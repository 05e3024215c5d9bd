use Rattle.std.proofs.Common.{◌≡◌, ◌↔◌, ◌⊎◌, ◌∙◌, ℕ, true, false, Contains, get_or, sym}
use Rattle.mls_solver.proofs.Answered.{on_ok}
use Rattle.mls_biunify.proofs.Numbers.{number-free, number-put}
use Rattle.mls_biunify.proofs.table.Table.push_number.Goals as goal

pub returns-then-contains : goal.returns-then-contains
returns-then-contains c =
    on_ok c.insert.result ((j : ℕ) → Contains c.insert.new.self j ↔ (j ≡ c.args.s) ⊎ Contains c.args.set.now j)
    ((j : ℕ) → Contains c.insert.new.self j ↔ (Contains c.args.set.now j ⊎ ((j ≡ c.args.s) × (get_or c.args.self.now.there c.args.s false ≡ true))))
    (number-put c.args.set.now c.insert.new.self c.args.s (get_or c.args.self.now.there c.args.s false) (sym c.contains.ensures ∙ c.if-contains.true)) c.insert.ensures.ok

pub returns : goal.returns
returns c = number-free c.args.set.now c.args.s (get_or c.args.self.now.there c.args.s false) (sym c.contains.ensures ∙ c.if-contains.false)
