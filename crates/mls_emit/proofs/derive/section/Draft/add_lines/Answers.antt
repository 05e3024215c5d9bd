use Rattle.std.proofs.Common.{◌≡◌, ◌∙◌, ℕ, List, ap, sym, subst}
use Rattle.std.specs.BTreeMap.{BTreeMap}
use Rattle.mls_automaton.specs.declared.scheme.Scheme.{Scheme}
use Rattle.mls_layout.specs.LaidOut.{place_of}
use Rattle.mls_lines.specs.declared.known.FirstPart.{FirstPart}
use Rattle.mls_lines.specs.declared.known.GlobalAt.{GlobalAt}
use Rattle.mls_lines.specs.declared.steps.Steps.{Steps}
use Rattle.mls_allowed.specs.MadeFirsts.{IsPartLaidOut}
use Rattle.mls_lines.specs.PlainParts.{CanWritePart, WritesWhole, type_binders}
use Rattle.mls_lines.proofs.Growing.{longer_then}
use Rattle.mls_emit.specs.declared.derive.section.Draft.{Draft}
use Rattle.mls_emit.proofs.FoundNames.{found_in}
use Rattle.mls_emit.proofs.derive.section.Draft.add_lines.Goals as goal

-- the part is laid out, and what is looked up is still found
pub write-requires-clause-found : goal.write-requires-clause-found
write-requires-clause-found c =
    let kept = c.laid_out.ensures.kept in
    found_in c.args.self.now c.laid_out.new.self (λ n. (kept n).known) (λ n. (kept n).firsts) (λ n. (kept n).globals) c.args.nodes.now c.args.list.now c.args.solved.posing c.requires.found

pub returns-clause-longer : goal.returns-clause-longer
returns-clause-longer c = longer_then c.args.self.now.book c.in_ok-laid.laid.book c.write.new.self.book c.in_ok-laid.ensures.longer c.in_ok-step.ensures.longer

pub returns-clause-lines : goal.returns-clause-lines
returns-clause-lines c = λ way.
    let old = c.args.self.now in
    let draft = c.laid_out.new.self in
    let new = c.write.new.self in
    let p = c.args.solved.posing in
    let nodes = c.args.nodes.now in
    let list : List ℕ = c.args.list.now in
    let laid = c.in_ok-laid.laid in
    let d = type_binders c.args.at.now.scheme c.args.at.now.places in
    let top : ℕ = place_of c.args.at.now.places c.args.at.now.scheme.root.0 in
    let kept = c.laid_out.ensures.kept in
    let globals_are : draft.globals ≡ old.globals = λ n. (kept n).globals in
    let firsts_are : draft.firsts ≡ old.firsts = λ n. (kept n).firsts in
    let lets_are : draft.known.lets ≡ old.known.lets = λ n. (kept n).known.lets in
    let steps_are : draft.steps ≡ old.steps = λ n. (kept n).steps in
    let way_is : draft.way ≡ old.way = λ n. (kept n).way in (
      laid,
      subst (λ (around : List ℕ). IsPartLaidOut old.book p c.args.solved.solution c.args.root around c.args.at.now.scheme c.args.at.now.places laid) c.as_slice.ensures c.in_ok-laid.ensures.laid,
      λ k parts can low.
          subst (λ (globals : BTreeMap ℕ GlobalAt). WritesWhole globals old.firsts old.known.lets k p parts nodes list laid old.steps new.steps new.book d top c.in_ok-step.step) globals_are
          (subst (λ (firsts : BTreeMap ℕ FirstPart). WritesWhole draft.globals firsts old.known.lets k p parts nodes list laid old.steps new.steps new.book d top c.in_ok-step.step) firsts_are
          (subst (λ (lets : BTreeMap ℕ Scheme). WritesWhole draft.globals draft.firsts lets k p parts nodes list laid old.steps new.steps new.book d top c.in_ok-step.step) lets_are
          (subst (λ (s : Steps). WritesWhole draft.globals draft.firsts draft.known.lets k p parts nodes list laid s new.steps new.book d top c.in_ok-step.step) steps_are
          (c.in_ok-step.ensures.lines k parts (way_is ∙ way)
          (subst (λ (s : Steps). CanWritePart laid s draft.globals draft.firsts k p parts nodes list) (sym steps_are)
          (subst (λ (firsts : BTreeMap ℕ FirstPart). CanWritePart laid old.steps draft.globals firsts k p parts nodes list) (sym firsts_are)
          (subst (λ (globals : BTreeMap ℕ GlobalAt). CanWritePart laid old.steps globals old.firsts k p parts nodes list) (sym globals_are) can))) low)))),
    )

pub returns-clause-kept : goal.returns-clause-kept
returns-clause-kept c = c.write.ensures.kept ∙ ap (λ (draft : Draft). record draft { book = c.write.new.self.book; steps = c.write.new.self.steps }) c.laid_out.ensures.kept
