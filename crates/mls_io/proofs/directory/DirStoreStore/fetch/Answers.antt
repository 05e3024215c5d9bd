-- What was read stands after what was there.
use Rattle.std.proofs.Common.{◌++◌, ◌∙◌, ap, sym, drop, length, arith, rules, length-drop}
use Rattle.std.proofs.lemmas.List.{take-append-drop}
use Rattle.mls_io.specs.Directory.{untold_holdings}
use Rattle.mls_io.specs.Stores.{GivesFound}
use Rattle.mls_io.proofs.directory.DirStoreStore.fetch.Goals as goal
use Rattle.mls_io.proofs.directory.DirStoreStore.fetch.Goals.{then-ne, else-ne}

pub returns-clause-found : goal.returns-clause-found
returns-clause-found g c found =
    let before = c.args.into.now.items in
    let after = c.read-answer.new.into.items in
    elim c.if-ne.branch [
      | then-ne w ↦ absurd {A = GivesFound (untold_holdings c.args.self.now) c.args.name.now c.args.limit before c.if-ne.into.items} (search rules)
      | else-ne w ↦ record {
        bytes = drop (length before) after;
        added = ap (λ into. into.items) w.into-is ∙ sym (take-append-drop (length before) after) ∙ ap (λ front. front ++ drop (length before) after) c.read-answer.ensures.kept;
        within = omega (arith, length-drop (length before) after, c.read-answer.ensures.within found);
        told = tt;
      }
    ]
