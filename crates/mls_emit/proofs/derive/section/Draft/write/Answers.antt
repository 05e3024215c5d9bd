use Rattle.std.proofs.Common.{◌≡◌, ◌∙◌, ◌-◌, ◌<◌, ℕ, List, length, get_or, sym, subst, arith}
use Rattle.std.proofs.lemmas.List.{get_or_default}
use Rattle.std.specs.BTreeMap.{BTreeMap}
use Rattle.mls_automaton.specs.declared.scheme.Scheme.{Scheme}
use Rattle.mls_book.specs.declared.book.NodeId.{NodeId}
use Rattle.mls_deriv.specs.declared.derivation.BinderNode.{BinderNode}
use Rattle.mls_deriv.specs.Steps.{IsRising}
use Rattle.mls_layout.specs.declared.layout.LaidOut.{LaidOut}
use Rattle.mls_lines.specs.declared.known.FirstPart.{FirstPart}
use Rattle.mls_lines.specs.declared.known.GlobalAt.{GlobalAt}
use Rattle.mls_lines.specs.declared.steps.Steps.{Steps}
use Rattle.mls_layout.specs.LaidOut.{place_of}
use Rattle.mls_lines.specs.PlainLines.{HaveLowPlaces}
use Rattle.mls_lines.specs.Writer.{BringsNode, HasLowEnv}
use Rattle.mls_lines.proofs.LowNodes.{below_longer}
use Rattle.mls_lines.specs.PlainParts.{CanWritePart, WritesPart, WritesWhole, type_binders}
use Rattle.mls_layout.specs.LaidOut.{IsLonger}
use Rattle.mls_lines.proofs.WholeParts.{at_end, binders_low, binders_rising, whole_writes}
use Rattle.mls_emit.proofs.FoundNames.{found_in}
use Rattle.mls_emit.proofs.derive.section.Draft.write.Goals as goal

-- what is looked up is found where the steps are taken out
pub write_nodes-requires : goal.write_nodes-requires
write_nodes-requires c =
    let kept = c.writer-writer.ensures.kept in
    record { found = found_in c.args.self.now c.writer-writer.new.self (λ n. (kept n).known) (λ n. (kept n).firsts) (λ n. (kept n).globals) c.args.nodes.now c.args.part.now c.args.posing.now c.requires.found }

pub returns-clause-lines : goal.returns-clause-lines
returns-clause-lines c = λ k parts way can low.
    let draft = c.writer-writer.new.self in
    let p = c.args.posing.now in
    let nodes = c.args.nodes.now in
    let part : List ℕ = c.args.part.now in
    let first = c.writer-writer.result in
    let last = c.write_nodes.new.writer in
    let kept = c.writer-writer.ensures.kept in
    let globals_are : draft.globals ≡ c.args.self.now.globals = λ n. (kept n).globals in
    let firsts_are : draft.firsts ≡ c.args.self.now.firsts = λ n. (kept n).firsts in
    let lets_are : draft.known.lets ≡ c.args.self.now.known.lets = λ n. (kept n).known.lets in
    let way_is : draft.way ≡ c.args.self.now.way = λ n. (kept n).way in
    let able : CanWritePart first.laid first.steps draft.globals draft.firsts k p parts nodes part =
    subst (λ (l : LaidOut). CanWritePart l first.steps draft.globals draft.firsts k p parts nodes part) (sym c.writer-writer.ensures.laid)
    (subst (λ (s : Steps). CanWritePart c.args.laid s draft.globals draft.firsts k p parts nodes part) (sym c.writer-writer.ensures.steps)
    (subst (λ (firsts : BTreeMap ℕ FirstPart). CanWritePart c.args.laid c.args.self.now.steps draft.globals firsts k p parts nodes part) (sym firsts_are)
    (subst (λ (globals : BTreeMap ℕ GlobalAt). CanWritePart c.args.laid c.args.self.now.steps globals c.args.self.now.firsts k p parts nodes part) (sym globals_are) can))) in
    let writes : WritesPart c.args.self.now.globals c.args.self.now.firsts c.args.self.now.known.lets k p parts nodes part first last =
    subst (λ (globals : BTreeMap ℕ GlobalAt). WritesPart globals c.args.self.now.firsts c.args.self.now.known.lets k p parts nodes part first last) globals_are
    (subst (λ (firsts : BTreeMap ℕ FirstPart). WritesPart draft.globals firsts c.args.self.now.known.lets k p parts nodes part first last) firsts_are
    (subst (λ (lets : BTreeMap ℕ Scheme). WritesPart draft.globals draft.firsts lets k p parts nodes part first last) lets_are
    (c.in_ok-write_nodes.ensures.writes k parts (way_is ∙ way) able c.writer-writer.ensures.nothing))) in
    let root : ℕ = get_or part (length part - 1) 0 in
    let within : length part - 1 < length part = (let some : 0 < length part = c.requires.part in omega (arith, some)) in
    let root_is : root ≡ get_or part (length part - 1) root = get_or_default part (length part - 1) 0 root within in
    let d : List BinderNode = type_binders c.args.at.now.scheme c.args.at.now.places in
    let env_is : c.in_ok-env.env ≡ d = c.in_ok-env.ensures.env in
    let rising : IsRising d = binders_rising c.args.at.now.places c.args.at.now.scheme c.in_ok-env.ensures.rise in
    let low_now : HaveLowPlaces (length last.laid.book) c.args.at.now.places =
    λ s. below_longer c.args.laid.book last.laid.book (place_of c.args.at.now.places s) (subst (λ (l : LaidOut). IsLonger l.book last.laid.book) c.writer-writer.ensures.laid writes.keeps.book) (low s) in
    let env_low : HasLowEnv (length last.laid.book) d = binders_low (length last.laid.book) c.args.at.now.places low_now c.args.at.now.scheme in
    let root_low : c.node-type_root.result.0 < length last.laid.book =
    subst (λ (u : NodeId). u.0 < length last.laid.book) (sym c.node-type_root.ensures) (low_now c.args.at.now.scheme.root.0) in
    let it : BringsNode last c.adapted.new.self root d c.node-type_root.result c.in_ok-step.step =
    subst (λ (l : List BinderNode). BringsNode last c.adapted.new.self root l c.node-type_root.result c.in_ok-step.step) env_is
    (c.in_ok-step.ensures.brings (subst IsRising (sym env_is) rising) writes.sound (subst (HasLowEnv (length last.laid.book)) (sym env_is) env_low) root_low) in
    subst (λ (u : NodeId). WritesWhole c.args.self.now.globals c.args.self.now.firsts c.args.self.now.known.lets k p parts nodes part c.args.laid c.args.self.now.steps c.adapted.new.self.steps c.adapted.new.self.laid.book d u.0 c.in_ok-step.step)
    c.node-type_root.ensures
    (whole_writes c.args.self.now.globals c.args.self.now.firsts c.args.self.now.known.lets k p parts nodes part c.args.laid c.args.self.now.steps first last c.adapted.new.self c.writer-writer.ensures.laid c.writer-writer.ensures.steps writes
    _ root d c.node-type_root.result c.in_ok-step.step (at_end part root c.requires.part root_is) it)

pub returns-clause-longer : goal.returns-clause-longer
returns-clause-longer c =
    subst (λ (laid : LaidOut). IsLonger c.args.laid.book laid.book) (sym c.in_ok-step.ensures.laid)
    (subst (λ (laid : LaidOut). IsLonger laid.book c.write_nodes.new.writer.laid.book) c.writer-writer.ensures.laid c.in_ok-write_nodes.ensures.lengthens.book)
