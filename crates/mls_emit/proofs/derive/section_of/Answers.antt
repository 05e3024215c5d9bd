use Rattle.std.proofs.Common.{◌≡◌, List, length, rules, subst, sym}
use Rattle.mls_deriv.specs.declared.derivation.Section.{Section}
use Rattle.mls_typetext.specs.declared.scheme.ReadScheme.{ReadScheme}
use Rattle.mls_emit.specs.Derivable.{names_read}
use Rattle.mls_emit.specs.Drafts.{AreTermNodes, NameOnly}
use Rattle.mls_emit.proofs.KnownNames.{of_term}
use Rattle.mls_emit.proofs.NamesBelow.{names_of_term}
use Rattle.mls_emit.proofs.PlainSections.{entry_come}
use Rattle.mls_emit.proofs.derive.section_of.Goals as goal

-- the nodes of a term
pub write_section-requires-clause-term : goal.write_section-requires-clause-term
write_section-requires-clause-term c =
    let same : c.as_slice-nodes.result.now ≡ c.args.binding.now.term.nodes = search rules in
    subst AreTermNodes (sym same) (of_term (length (names_read c.args.declared.now c.args.earlier.now)) c.args.binding.now.term.nodes c.args.binding.now.term.binders c.args.binding.now.term.lets c.requires.term)

pub write_section-requires-clause-names : goal.write_section-requires-clause-names
write_section-requires-clause-names c =
    let reads : List ReadScheme = names_read c.args.declared.now c.args.earlier.now in
    let same : c.as_slice-nodes.result.now ≡ c.args.binding.now.term.nodes = search rules in
    subst (NameOnly reads) (sym same) (names_of_term reads c.args.binding.now.term.nodes c.args.binding.now.term.binders c.args.binding.now.term.lets c.requires.term)

-- what is written plainly is allowed, and its lines stand
pub returns-clause-allowed : goal.returns-clause-allowed
returns-clause-allowed c = λ plain.
    let own : Section = record { name = c.in_ok-copied_name.field-0; text = c.in_ok-copied_bytes.field-0; nodes = c.in_ok-written.written.book; lines = c.in_ok-written.written.lines } in
    (entry_come c.args.declared.now c.args.earlier.now c.requires.declared c.requires.earlier c.args.binding.now own c.args.entry.now c.requires.entry (search rules) (search rules) c.as_slice.result.now (search rules)
    c.in_ok-copied_bytes.ensures.short (length (names_read c.args.declared.now c.args.earlier.now)) c.requires.term c.as_slice-nodes.result.now (search rules) c.scheme_of-read.result.now (search rules) (c.in_ok-written.ensures.plain plain) c.requires.derivable).allowed

pub returns-clause-stand : goal.returns-clause-stand
returns-clause-stand c = λ plain.
    let own : Section = record { name = c.in_ok-copied_name.field-0; text = c.in_ok-copied_bytes.field-0; nodes = c.in_ok-written.written.book; lines = c.in_ok-written.written.lines } in
    (entry_come c.args.declared.now c.args.earlier.now c.requires.declared c.requires.earlier c.args.binding.now own c.args.entry.now c.requires.entry (search rules) (search rules) c.as_slice.result.now (search rules)
    c.in_ok-copied_bytes.ensures.short (length (names_read c.args.declared.now c.args.earlier.now)) c.requires.term c.as_slice-nodes.result.now (search rules) c.scheme_of-read.result.now (search rules) (c.in_ok-written.ensures.plain plain) c.requires.derivable).stand
