use Rattle.std.proofs.Common.{◌≡◌, ◌≢◌, ◌<◌, ℕ, List, length, get_or, rules, subst, sym, Some}
use Rattle.std.specs.BTreeMap.{get}
use Rattle.std.specs.Ordering.{nat_cmp}
use Rattle.mls_typetext.specs.declared.scheme.ReadScheme.{ReadScheme}
use Rattle.mls_infer.specs.Fields.{Shared}
use Rattle.mls_infer.specs.Finishing.{IsRead}
use Rattle.mls_infer.specs.Inference.{schemes_in}
use Rattle.mls_infer.proofs.KnownSchemes.{none_rise, reads_more, reads_stay, scheme_read}
use Rattle.mls_infer.proofs.reads.read.Goals as goal

pub new-requires-clause-rise : goal.new-requires-clause-rise
new-requires-clause-rise c = none_rise c.in_ok-scheme.scheme.env c.in_ok-scheme.ensures.env

pub returns : goal.returns
returns c =
    let schemes : List ReadScheme = c.args.names.now.schemes in
    let one : ReadScheme = c.index-schemes-g.result in
    let r : Shared = c.in_ok-named.named in
    let low : c.args.g < length schemes = search rules in
    let at : get_or schemes c.args.g one ≡ one = search rules in
    let here : get nat_cmp c.insert.new.self c.args.g ≡ Some r = search rules in
    let others : (k : ℕ) → k ≢ c.args.g → get nat_cmp c.insert.new.self k ≡ get nat_cmp c.args.reads.now k = search rules in
    reads_more (schemes_in c.args.names.now) c.args.reads.now c.insert.new.self c.args.g r c.requires.reads here others c.in_ok-named.ensures.known
    (subst (IsRead (schemes_in c.args.names.now) c.args.g) (sym c.in_ok-named.ensures.scheme)
    (scheme_read c.args.names.now c.args.g one c.in_ok-scheme.scheme c.requires.names low at c.in_ok-scheme.ensures.scheme c.in_ok-scheme.ensures.env c.in_ok-scheme.ensures.equivalent))

pub returns-in_err-insert : goal.returns-in_err-insert
returns-in_err-insert c = reads_stay (schemes_in c.args.names.now) c.args.reads.now c.insert.new.self c.in_err-insert.ensures.err c.requires.reads
