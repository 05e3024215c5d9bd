use Rattle.std.proofs.Common.{◌≡◌, ◌++◌, sym, ap, subst, ◌∙◌, true, false}
use Rattle.std.specs.Prelude.{codes}
use Rattle.mls_deriv.specs.Spellings.{node_words}
use Rattle.mls_deriv.specs.inner.Readings.{HasRising}
use Rattle.mls_deriv.proofs.Guessed.{node_found, node_form, node_rises}
use Rattle.mls_deriv.proofs.node_line.read_node.Goals as goal

pub returns-then-not-is_rising : goal.returns-then-not-is_rising
returns-then-not-is_rising c = λ n is spelled.
    let found = c.in_ok-node.node in
    let same : found ≡ n = node_found c.args.line.now c.in_ok-words.words found n c.in_ok-words.ensures c.in_ok-node.ensures is spelled in
    let yes' : c.is_rising.result ≡ true = c.is_rising.ensures.1 (subst HasRising (sym same) (node_rises n is)) in
    let no' : c.is_rising.result ≡ false = c.if-not-is_rising.true in
    absurd (cc)

pub returns-then-branch : goal.returns-then-branch
returns-then-branch c = (node_form c.in_ok-words.words c.in_ok-node.node c.in_ok-node.ensures (c.is_rising.ensures.0 c.if-not-is_rising.false), c.in_ok-is_spelled.ensures.0 c.if-branch.true)

pub returns : goal.returns
returns c = λ n is spelled.
    let found = c.in_ok-node.node in
    let same : found ≡ n = node_found c.args.line.now c.in_ok-words.words found n c.in_ok-words.ensures c.in_ok-node.ensures is spelled in
    let yes' : c.in_ok-is_spelled.field-0 ≡ true = c.in_ok-is_spelled.ensures.1 (spelled ∙ ap (λ m. codes "node" ++ node_words m) (sym same)) in
    let no' : c.in_ok-is_spelled.field-0 ≡ false = c.if-branch.false in
    absurd (cc)
