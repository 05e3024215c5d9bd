use Rattle.std.proofs.Common.{◌≡◌, ◌∙◌, true, false, rules, sym}
use Rattle.mls_biunify.specs.steps.Marking.{WasFound}
use Rattle.mls_biunify.proofs.KeptTables.{found-more, found-none}
use Rattle.mls_biunify.proofs.keep.insert_found.Goals as goal

pub returns-then-not-contains : goal.returns-then-not-contains
returns-then-not-contains c =
    found-none c.args.left.now c.args.found.now c.args.s
    (λ was. let there : c.contains.result ≡ true = c.contains.ensures.1 (record { is = was }) in let none : c.contains.result ≡ false = search rules in let wrong : true ≡ false = sym there ∙ none in cc)

pub returns : goal.returns
returns c =
    let was : WasFound c.args.found.now c.args.s = search rules in
    found-more c.args.left.now c.insert.new.self c.args.found.now c.args.s was.is c.in_ok-insert.ensures.ok
