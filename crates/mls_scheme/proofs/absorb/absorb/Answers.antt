use Rattle.std.proofs.Common.{◌∙◌, ap, refl}
use Rattle.mls_automaton.specs.Automata.{Automaton}
use Rattle.mls_automaton.specs.declared.scheme.Scheme.{Scheme}
use Rattle.mls_scheme.proofs.AbsorbedModels.{models_of_both}
use Rattle.mls_scheme.proofs.Absorbs.{absorbed_equivalent}
use Rattle.mls_scheme.proofs.PutTogether.{absorbed, front-back, new_scheme}
use Rattle.mls_scheme.proofs.absorb.absorb.Goals as goal

pub returns-in-Ok-clause-absorbed : goal.returns-in-Ok-clause-absorbed
returns-in-Ok-clause-absorbed c =
    absorbed (record { automaton = c.put_together.new.automaton; env = c.in-Ok.env; root = c.args.into.now.root }) c.args.into.now c.args.from.now c.in-Ok.place.0
    c.requires.into c.requires.from refl c.in-Ok.ensures.together

pub returns-in-Ok-clause-scheme : goal.returns-in-Ok-clause-scheme
returns-in-Ok-clause-scheme c =
    new_scheme (record { automaton = c.put_together.new.automaton; env = c.in-Ok.env; root = c.args.into.now.root }) c.args.into.now c.args.from.now c.in-Ok.place.0
    c.requires.into c.requires.from refl c.in-Ok.ensures.together

pub returns-in-Ok-clause-meets : goal.returns-in-Ok-clause-meets
returns-in-Ok-clause-meets c =
    let new : Scheme = record { automaton = c.put_together.new.automaton; env = c.in-Ok.env; root = c.args.into.now.root } in
    absorbed_equivalent new c.args.into.now c.args.from.now c.in-Ok.place.0 c.requires.into c.requires.from
    (new_scheme new c.args.into.now c.args.from.now c.in-Ok.place.0 c.requires.into c.requires.from refl c.in-Ok.ensures.together)
    (absorbed new c.args.into.now c.args.from.now c.in-Ok.place.0 c.requires.into c.requires.from refl c.in-Ok.ensures.together)

pub returns-in-Ok-clause-models : goal.returns-in-Ok-clause-models
returns-in-Ok-clause-models c =
    let new : Scheme = record { automaton = c.put_together.new.automaton; env = c.in-Ok.env; root = c.args.into.now.root } in
    models_of_both new c.args.into.now c.args.from.now c.in-Ok.place.0 c.requires.into c.requires.from
    (new_scheme new c.args.into.now c.args.from.now c.in-Ok.place.0 c.requires.into c.requires.from refl c.in-Ok.ensures.together)
    (absorbed new c.args.into.now c.args.from.now c.in-Ok.place.0 c.requires.into c.requires.from refl c.in-Ok.ensures.together)

pub returns-in-Err-clause-err : goal.returns-in-Err-clause-err
returns-in-Err-clause-err c =
    ap (λ (a : Automaton). record { automaton = a; env = c.args.into.now.env; root = c.args.into.now.root })
    (c.truncate.ensures ∙ front-back c.args.into.now.automaton c.put_together.new.automaton c.len-states.result c.requires.into.automaton c.len-states.ensures.len c.in-Err.ensures.front)
