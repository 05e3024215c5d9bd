use Rattle.std.proofs.Common.{rules, ◌≡◌, sym, subst, None, Some}
use Rattle.slab.specs.Slab.{get, Updates}
use Rattle.mls_automaton.specs.Models.{HasStatesIn}
use Rattle.mls_biunify.specs.Live.{IsStateIn}
use Rattle.mls_biunify.specs.steps.Tables.{Numbered, InsertsState, numbered_of}
use Rattle.mls_biunify.proofs.TableSteps.{inserts, inserted-is}
use Rattle.mls_biunify.proofs.table.Table.insert.Goals as goal

pub invariant_of-self-2 : goal.invariant_of-self-2
invariant_of-self-2 c =
    let updates : Updates c.self.inside.states c.insert.new.self c.in_ok-key.key (Some (record { polarity = c.args.polarity; head = c.args.head })) = c.in_ok-key.ensures.updates in
    let free : get c.self.inside.states c.in_ok-key.key ≡ None = c.in_ok-key.ensures.was_vacant in
    inserted-is c.self.inside.states c.insert.new.self c.self.inside.flows c.grow.new.self c.self.invariant c.in_ok-key.key (record { polarity = c.args.polarity; head = c.args.head })
    free updates c.grow.ensures.grown
    (subst (λ (t : Numbered). HasStatesIn (IsStateIn t.automaton t.there) c.args.polarity c.args.head) (sym c.self.view_is) c.requires.states)
    c.requires.labels (search rules)

pub returns-clause-inserts : goal.returns-clause-inserts
returns-clause-inserts c =
    let updates : Updates c.self.inside.states c.insert.new.self c.in_ok-key.key (Some (record { polarity = c.args.polarity; head = c.args.head })) = c.in_ok-key.ensures.updates in
    let free : get c.self.inside.states c.in_ok-key.key ≡ None = c.in_ok-key.ensures.was_vacant in
    subst (λ (t : Numbered). InsertsState t (numbered_of c.insert.new.self c.grow.new.self) c.in_ok-key.key (record { polarity = c.args.polarity; head = c.args.head })) c.self.view_is
    (inserts c.self.inside.states c.insert.new.self c.self.inside.flows c.grow.new.self c.self.invariant c.in_ok-key.key (record { polarity = c.args.polarity; head = c.args.head })
    free updates c.grow.ensures.grown)
