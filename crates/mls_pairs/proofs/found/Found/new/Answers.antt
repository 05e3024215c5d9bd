use Rattle.mls_pairs.proofs.found.Found.new.Goals as goal

pub returns-clause-found : goal.returns-clause-found
returns-clause-found c = c.in_ok-table.ensures.holds

pub returns-clause-puts : goal.returns-clause-puts
returns-clause-puts c = c.in_ok-table.ensures.put
