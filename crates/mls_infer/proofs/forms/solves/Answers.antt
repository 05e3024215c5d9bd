use Rattle.std.proofs.Common.{◌≡◌, ◌∙◌, List, ap, subst}
use Rattle.mls_automaton.specs.Automata.{Automaton}
use Rattle.mls_solver.specs.declared.goal.Goal.{Goal}
use Rattle.mls_solver.specs.declared.goal.Refusal.{Refusal}
use Rattle.mls_solver.specs.declared.goal.Refusal.TheVariants.{Clashing}
use Rattle.mls_biunify.specs.Live.{IsRefusalOf, Live}
use Rattle.mls_solver.specs.Relations.{IsGoal, IsRelated}
use Rattle.mls_infer.proofs.forms.solves.Goals as goal

pub returns-in_ok-settle-in-Ok : goal.returns-in_ok-settle-in-Ok
returns-in_ok-settle-in-Ok c =
    let table : c.reserve.new.self.table ≡ c.args.live.now.table = ap (λ (live : Live). live.table) c.in_ok-reserve.ensures.ok in
    let numbers : c.reserve.new.self.there ≡ c.args.live.now.there = ap (λ (live : Live). live.there) c.in_ok-reserve.ensures.ok in
    record {
      live_old = c.ready-before.ensures.live;
      live_new = c.ready-after.ensures.live;
      numbers = c.settle.ensures.numbers ∙ (c.solve.ensures.numbers ∙ numbers);
      mid = c.solve.new.self;
      same = c.solve.ensures.table ∙ table;
      same_numbers = c.solve.ensures.numbers ∙ numbers;
      related = c.in-Ok.ensures.solved;
      solved = c.in_ok-settle-in-Ok.ensures.solved;
    }

pub returns-in-Err-Clashing : goal.returns-in-Err-Clashing
returns-in-Err-Clashing c =
    let table : c.reserve.new.self.table ≡ c.args.live.now.table = ap (λ (live : Live). live.table) c.in_ok-reserve.ensures.ok in
    let numbers : c.reserve.new.self.there ≡ c.args.live.now.there = ap (λ (live : Live). live.there) c.in_ok-reserve.ensures.ok in
    let goals : List Goal = c.args.goals.now in
    let first : IsRefusalOf c.solve.new.self (IsRelated c.reserve.new.self.table (IsGoal goals)) (Clashing c.in-Err-Clashing.field-0-0) =
    subst (λ (r : Refusal). IsRefusalOf c.solve.new.self (IsRelated c.reserve.new.self.table (IsGoal goals)) r) c.in-Err-Clashing.field-0-is c.in-Err-Clashing.ensures.refusal in
    record {
      live_old = c.ready-before.ensures.live;
      same = c.solve.ensures.table ∙ table;
      numbers = c.solve.ensures.numbers ∙ numbers;
      clash = c.in-Err-Clashing.field-0-0;
      refused = subst (λ (a : Automaton). IsRefusalOf c.solve.new.self (IsRelated a (IsGoal goals)) (Clashing c.in-Err-Clashing.field-0-0)) table first;
    }
