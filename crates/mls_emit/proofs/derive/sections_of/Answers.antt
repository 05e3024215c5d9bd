use Rattle.std.proofs.Common.{◌≡◌, ◌<◌, ◌≤◌, arith, length}
use Rattle.mls_emit.specs.declared.derive.Way.TheVariants.{Plain}
use Rattle.mls_emit.proofs.NamesBelow.{terms_at}
use Rattle.mls_emit.proofs.PlainSections.{all_names, all_sections, all_texts, as_many, binding_there, derivable_at, entries_front, entry_at, next_sections, no_sections, stands_at}
use Rattle.mls_emit.proofs.derive.sections_of.Goals as goal

pub loop-k-init : goal.loop-k-init
loop-k-init c =
    no_sections (c.args.way ≡ Plain) c.args.declared.now c.args.bindings.now c.args.entries.now c.new-sections.result c.new-schemes.result c.new-sections.ensures c.new-schemes.ensures.empty

-- the entries before this one, and this one
pub section_of-requires-clause-earlier : goal.section_of-requires-clause-earlier
section_of-requires-clause-earlier c = entries_front c.args.entries.now c.requires.entries c.loop-k.k

pub section_of-requires-clause-entry : goal.section_of-requires-clause-entry
section_of-requires-clause-entry c = entry_at c.args.entries.now c.requires.entries c.loop-k.k c.index-entries-k.result c.loop-k-test.true c.index-entries-k.is

pub section_of-requires-clause-types : goal.section_of-requires-clause-types
section_of-requires-clause-types c = c.loop-k.invariant.types

-- there is a binding for each entry
pub bounds-bindings-k : goal.bounds-bindings-k
bounds-bindings-k c = binding_there c.args.declared.now c.args.bindings.now c.args.entries.now c.requires.derivable c.loop-k.k c.loop-k-test.true

pub section_of-requires-clause-term : goal.section_of-requires-clause-term
section_of-requires-clause-term c =
    let bound : c.loop-k.k < length c.args.bindings.now = binding_there c.args.declared.now c.args.bindings.now c.args.entries.now c.requires.derivable c.loop-k.k c.loop-k-test.true in
    terms_at c.args.declared.now c.args.entries.now c.args.bindings.now c.requires.terms c.loop-k.k c.index-bindings-k.result c.loop-k-test.true
    (stands_at c.args.bindings.now c.loop-k.k c.index-bindings-k.result bound c.index-bindings-k.is)

pub section_of-requires-clause-derivable : goal.section_of-requires-clause-derivable
section_of-requires-clause-derivable c =
    let bound : c.loop-k.k < length c.args.bindings.now = binding_there c.args.declared.now c.args.bindings.now c.args.entries.now c.requires.derivable c.loop-k.k c.loop-k-test.true in
    derivable_at c.args.declared.now c.args.bindings.now c.args.entries.now c.requires.derivable c.loop-k.k c.index-bindings-k.result c.index-entries-k.result
    (stands_at c.args.bindings.now c.loop-k.k c.index-bindings-k.result bound c.index-bindings-k.is) (stands_at c.args.entries.now c.loop-k.k c.index-entries-k.result c.loop-k-test.true c.index-entries-k.is)

pub loop-k-preserved : goal.loop-k-preserved
loop-k-preserved c =
    let bound : c.loop-k.k < length c.args.bindings.now = binding_there c.args.declared.now c.args.bindings.now c.args.entries.now c.requires.derivable c.loop-k.k c.loop-k-test.true in
    next_sections (c.args.way ≡ Plain) c.args.declared.now c.args.bindings.now c.args.entries.now c.loop-k.k c.loop-k.sections c.loop-k.schemes c.loop-k.invariant bound c.loop-k-test.true
    c.index-bindings-k.result c.index-entries-k.result c.in_ok-section.section c.section_of.new.schemes c.index-bindings-k.is c.index-entries-k.is
    c.in_ok-section.ensures.name c.in_ok-section.ensures.text c.section_of.ensures.types c.in_ok-section.ensures.allowed c.in_ok-section.ensures.stand c.push.new.self c.in_ok-push.ensures.ok

-- all entries were gone over
pub returns-clause-names : goal.returns-clause-names
returns-clause-names c =
    let past : length c.args.entries.now ≤ c.loop-k.k = omega arith in
    all_names (c.args.way ≡ Plain) c.args.declared.now c.args.bindings.now c.args.entries.now c.loop-k.k c.loop-k.sections c.loop-k.schemes c.loop-k.invariant past

pub returns-clause-texts : goal.returns-clause-texts
returns-clause-texts c =
    let past : length c.args.entries.now ≤ c.loop-k.k = omega arith in
    all_texts (c.args.way ≡ Plain) c.args.declared.now c.args.bindings.now c.args.entries.now c.loop-k.k c.loop-k.sections c.loop-k.schemes c.loop-k.invariant past

pub returns-clause-allowed : goal.returns-clause-allowed
returns-clause-allowed c =
    let past : length c.args.entries.now ≤ c.loop-k.k = omega arith in
    all_sections (c.args.way ≡ Plain) c.args.declared.now c.args.bindings.now c.args.entries.now c.loop-k.k c.loop-k.sections c.loop-k.schemes c.loop-k.invariant past
    (as_many c.args.declared.now c.args.bindings.now c.args.entries.now c.requires.derivable)

pub returns-clause-stand : goal.returns-clause-stand
returns-clause-stand c = c.loop-k.invariant.stand
