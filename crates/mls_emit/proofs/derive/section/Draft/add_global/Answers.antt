use Rattle.std.proofs.Common.{◌≡◌, List, Some, slice_get, subst, sym, rules}
use Rattle.std.specs.BTreeMap.{BTreeMap, get}
use Rattle.std.specs.Ordering.{nat_cmp}
use Rattle.std.specs.Prelude.{ℕ, IsSome}
use Rattle.mls_automaton.specs.declared.scheme.Scheme.{Scheme}
use Rattle.mls_typetext.specs.declared.scheme.ReadScheme.{ReadScheme}
use Rattle.mls_term.specs.declared.term.TermForm.TheVariants as form
use Rattle.mls_emit.specs.Derivable.{names_read}
use Rattle.mls_emit.specs.Drafts.{KnowsForm}
use Rattle.mls_emit.proofs.KnownNames.{name_form}
use Rattle.mls_emit.proofs.PlacedNames.{place_same}
use Rattle.mls_emit.proofs.PlainSections.{grown_itself}
use Rattle.mls_emit.proofs.derive.section.Draft.add_global.Goals as goal

-- the type of the name is read from what it means
pub returns-then-contains_key-clause-form : goal.returns-then-contains_key-clause-form
returns-then-contains_key-clause-form c =
    let reads : List ReadScheme = names_read c.args.declared.now c.args.entries.now in
    let is : slice_get reads c.args.g ≡ Some c.read_at-read.result.now = search rules in
    name_form reads c.args.self.now.known.globals c.know_type.new.schemes c.args.g c.read_at-read.result.now c.requires.types is c.in_ok-know_type.ensures

pub returns-clause-form : goal.returns-clause-form
returns-clause-form c =
    let reads : List ReadScheme = names_read c.args.declared.now c.args.entries.now in
    let is : slice_get reads c.args.g ≡ Some c.read_at-read.result.now = search rules in
    let same : c.place_global.new.self.known.globals ≡ c.know_type.new.schemes = search rules in
    subst (λ (globals : BTreeMap ℕ Scheme). KnowsForm reads c.args.self.now.known.globals globals (form.Global c.args.g)) (sym same)
    (name_form reads c.args.self.now.known.globals c.know_type.new.schemes c.args.g c.read_at-read.result.now c.requires.types is c.in_ok-know_type.ensures)

pub returns-then-contains_key-clause-grown : goal.returns-then-contains_key-clause-grown
returns-then-contains_key-clause-grown c = grown_itself c.args.self.now.book c.args.self.now.variable

-- its place
pub returns-then-contains_key-clause-places : goal.returns-then-contains_key-clause-places
returns-then-contains_key-clause-places c =
    let there : IsSome (get nat_cmp c.args.self.now.globals c.args.g) = search rules in
    place_same (names_read c.args.declared.now c.args.entries.now) c.args.self.now.book c.args.self.now.variable c.args.self.now.globals c.args.g c.requires.places there

pub returns-clause-places : goal.returns-clause-places
returns-clause-places c =
    let reads : List ReadScheme = names_read c.args.declared.now c.args.entries.now in
    let is : slice_get reads c.args.g ≡ Some c.read_at-read.result.now = search rules in
    c.in_ok-place_global.ensures.places reads is c.requires.places
