use Rattle.std.proofs.Common.{◌≡◌, ◌∙◌, true, false, sym}
use Rattle.mls_biunify.proofs.KeptTables.{pushed-one, unfound-more, unfound-none}
use Rattle.mls_biunify.proofs.keep.push_unfound.Goals as goal

pub returns-then-contains : goal.returns-then-contains
returns-then-contains c = unfound-none c.args.gone.now.items c.args.found.now c.args.s (c.contains.ensures.0 c.if-contains.true).is

pub returns : goal.returns
returns c =
    let none : c.contains.result ≡ false = c.if-contains.false in
    unfound-more c.args.gone.now.items c.push.new.self.items c.args.found.now c.args.s
    (λ was. let there : c.contains.result ≡ true = c.contains.ensures.1 (record { is = was }) in let wrong : true ≡ false = sym there ∙ none in cc)
    (pushed-one c.args.gone.now.items c.push.new.self.items c.args.s c.in_ok-push.ensures.items)
