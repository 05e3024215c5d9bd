use Rattle.std.proofs.Common.{◌≡◌, ◌≤◌, ◌∙◌, ℕ, ap, arith, length, refl, subst, sym}
use Rattle.std.specs.BTreeMap.{BTreeMap, IsEmpty}
use Rattle.mls_automaton.specs.declared.scheme.Scheme.{Scheme}
use Rattle.mls_lines.specs.declared.known.FirstPart.{FirstPart}
use Rattle.mls_lines.specs.declared.known.GlobalAt.{GlobalAt}
use Rattle.mls_allowed.specs.MadeFirsts.{start}
use Rattle.mls_allowed.specs.SectionParts as come
use Rattle.mls_emit.specs.declared.derive.section.Draft.{Draft}
use Rattle.mls_emit.specs.PlainSections.{so_far, HasParts}
use Rattle.mls_sections.specs.KnownNames.{AreNameTypes}
use Rattle.mls_emit.specs.Derivable.{names_read}
use Rattle.mls_emit.specs.Drafts.{AreGlobalsIn, HavePlaces}
use Rattle.mls_emit.proofs.KnownNames.{firsts_none}
use Rattle.mls_emit.proofs.FoundNames.{no_firsts}
use Rattle.mls_emit.proofs.PlacedNames.{globals_kept, no_globals}
use Rattle.mls_lines.proofs.Lengthening.{longer_from}
use Rattle.mls_emit.proofs.derive.section.write_section.Goals as goal

pub add_globals-requires-clause-types : goal.add_globals-requires-clause-types
add_globals-requires-clause-types c =
    subst (λ (globals : BTreeMap ℕ Scheme). AreNameTypes (names_read c.args.declared.now c.args.entries.now) globals) (sym (c.in_ok-draft.ensures.globals ∙ c.replace_schemes.ensures.result)) c.requires.types

-- no name has a place at first
pub add_globals-requires-clause-places : goal.add_globals-requires-clause-places
add_globals-requires-clause-places c =
    no_globals (names_read c.args.declared.now c.args.entries.now) c.in_ok-draft.draft.book c.in_ok-draft.draft.variable c.in_ok-draft.draft.globals c.in_ok-draft.ensures.places

-- the book begins with the nodes of the type, and nothing is known of lets before the first node
pub loop-root-init : goal.loop-root-init
loop-root-init c = (
  record {
    free = λ g s is. (c.in_ok-add_globals.ensures.types g s is).known;
    globals = c.in_ok-add_globals.ensures.known;
    firsts = firsts_none c.args.nodes.now c.add_globals.new.self.known.lets;
    added = start (subst (λ (lets : BTreeMap ℕ Scheme). IsEmpty lets) (sym c.add_globals.ensures.lets) c.in_ok-draft.ensures.begins.lets);
  },
  c.in_ok-add_globals.ensures.types,
  longer_from c.in_ok-draft.draft.book c.add_globals.new.self.book c.args.read.now.book 0 c.in_ok-add_globals.ensures.grown.longer c.in_ok-draft.ensures.begins.from,
  c.in_ok-add_globals.ensures.globals,
  c.in_ok-add_globals.ensures.places,
  (ap (λ (d : Draft). d.way) c.add_globals.ensures.kept) ∙ c.in_ok-draft.ensures.way,
  λ plain. record {
    begun = so_far c.add_globals.new.self;
    begins = record {
      begun_so = record {
        lines = (ap (λ (d : Draft). d.steps.lines) c.add_globals.ensures.kept) ∙ c.in_ok-draft.ensures.begins.lines;
        count = (ap (λ (d : Draft). d.steps.count) c.add_globals.ensures.kept) ∙ c.in_ok-draft.ensures.begins.count;
        lets = subst (λ (lets : BTreeMap ℕ Scheme). IsEmpty lets) (sym c.add_globals.ensures.lets) c.in_ok-draft.ensures.begins.lets;
        firsts = subst (λ (firsts : BTreeMap ℕ FirstPart). IsEmpty firsts) (sym (ap (λ (d : Draft). d.firsts) c.add_globals.ensures.kept)) c.in_ok-draft.ensures.begins.firsts;
        from = longer_from c.in_ok-draft.draft.book c.add_globals.new.self.book c.args.read.now.book 0 c.in_ok-add_globals.ensures.grown.longer c.in_ok-draft.ensures.begins.from;
      };
      closed = c.in_ok-add_globals.ensures.grown.closed c.in_ok-draft.ensures.closed;
      variables =
          (let own : c.args.read.now.vars ≤ c.in_ok-draft.draft.variable = c.in_ok-draft.ensures.variable in
          let more : c.in_ok-draft.draft.variable ≤ c.add_globals.new.self.variable = c.in_ok-add_globals.ensures.grown.variable in
          omega (arith, own, more));
      types = c.in_ok-add_globals.ensures.types;
      known = c.in_ok-add_globals.ensures.known;
      globals = c.in_ok-add_globals.ensures.globals;
      places = c.in_ok-add_globals.ensures.places;
    };
    come = come.start;
  },
  omega arith,
  no_firsts c.add_globals.new.self.known.lets c.add_globals.new.self.firsts (subst (λ (lets : BTreeMap ℕ Scheme). IsEmpty lets) (sym c.add_globals.ensures.lets) c.in_ok-draft.ensures.begins.lets),
)

pub loop-root-preserved : goal.loop-root-preserved
loop-root-preserved c = (
  c.in_ok-add_root.ensures.known,
  subst (λ (globals : BTreeMap ℕ Scheme). AreNameTypes (names_read c.args.declared.now c.args.entries.now) globals) (sym c.add_root.ensures.globals) c.loop-root.invariant.1,
  longer_from c.loop-root.draft.book c.add_root.new.self.book c.args.read.now.book 0 c.in_ok-add_root.ensures.longer c.loop-root.invariant.2,
  globals_kept (names_read c.args.declared.now c.args.entries.now) c.loop-root.draft.book c.add_root.new.self.book c.loop-root.draft.variable c.add_root.new.self.variable c.add_root.new.self.globals
      c.in_ok-add_root.ensures.longer c.in_ok-add_root.ensures.variable
      (subst (AreGlobalsIn (names_read c.args.declared.now c.args.entries.now) c.loop-root.draft.book c.loop-root.draft.variable) (sym c.add_root.ensures.places) c.loop-root.invariant.3),
  subst (λ (globals : BTreeMap ℕ GlobalAt). HavePlaces c.args.nodes.now globals (length c.args.nodes.now)) (sym c.add_root.ensures.places) c.loop-root.invariant.4,
  c.add_root.ensures.way ∙ c.loop-root.invariant.5,
  λ plain.
      let it = c.loop-root.invariant.6 plain in record {
        begun = it.begun;
        begins = it.begins;
        come = c.in_ok-add_root.ensures.come it.begun (c.loop-root.invariant.5 ∙ plain) it.come;
      },
  omega arith,
  c.in_ok-add_root.ensures.firsts,
)

-- all parts have come
pub returns-clause-plain : goal.returns-clause-plain
returns-clause-plain c = λ plain.
    let bound : c.loop-root.root ≤ length c.args.nodes.now = c.loop-root.invariant.7 in
    let all : c.loop-root.root ≡ length c.args.nodes.now = omega (arith, bound) in
    record {
      last = so_far c.loop-root.draft;
      parts = subst (λ n. HasParts (names_read c.args.declared.now c.args.entries.now) c.args.nodes.now c.args.read.now n (so_far c.loop-root.draft)) all (c.loop-root.invariant.6 plain);
      book_is = refl;
      lines_are = refl;
    }

pub returns-in-Short-clause-plain : goal.returns-in-Short-clause-plain
returns-in-Short-clause-plain c = λ plain. absurd (let short = c.in-Short.is in cc)
