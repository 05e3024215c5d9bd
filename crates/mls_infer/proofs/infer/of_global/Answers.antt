use Rattle.std.proofs.Common.{◌≡◌, ◌<◌, List, arith, get_or, length, rules, subst, sym, Some}
use Rattle.std.specs.BTreeMap.{get}
use Rattle.std.specs.Ordering.{nat_cmp}
use Rattle.std.proofs.lemmas.List.{length-map}
use Rattle.mls_automaton.specs.declared.scheme.Scheme.{Scheme}
use Rattle.mls_typetext.specs.declared.scheme.ReadScheme.{ReadScheme}
use Rattle.mls_typetext.specs.Schemes.{scheme_of}
use Rattle.mls_infer.specs.declared.named.Named.{Named}
use Rattle.mls_infer.specs.Fields.{IsKnownType}
use Rattle.mls_infer.specs.Finishing.{IsRead}
use Rattle.mls_infer.specs.Inference.{schemes_in}
use Rattle.mls_infer.proofs.KnownSchemes.{none_rise, scheme_read}
use Rattle.mls_infer.proofs.infer.of_global.Goals as goal

pub once-requires-clause-rise : goal.once-requires-clause-rise
once-requires-clause-rise c = none_rise c.in_ok-scheme-in-None.scheme.env c.in_ok-scheme-in-None.ensures.env

pub returns-in_ok-one_more-in-Some-clause-known : goal.returns-in_ok-one_more-in-Some-clause-known
returns-in_ok-one_more-in-Some-clause-known c =
    let at : get nat_cmp c.args.reads.now c.args.g ≡ Some c.in-Some.named.now = search rules in
    subst IsKnownType (sym c.in_ok-one_more-in-Some.ensures.cases) (c.requires.reads c.args.g c.in-Some.named.now at).0

pub returns-in_ok-one_more-in-Some-clause-read : goal.returns-in_ok-one_more-in-Some-clause-read
returns-in_ok-one_more-in-Some-clause-read c =
    let at : get nat_cmp c.args.reads.now c.args.g ≡ Some c.in-Some.named.now = search rules in
    subst (λ (n : Named). IsRead (schemes_in c.args.names.now) c.args.g n.scheme) (sym c.in_ok-one_more-in-Some.ensures.cases) (c.requires.reads c.args.g c.in-Some.named.now at).1

pub returns-in_ok-named-in-None-clause-read : goal.returns-in_ok-named-in-None-clause-read
returns-in_ok-named-in-None-clause-read c =
    let schemes : List ReadScheme = c.args.names.now.schemes in
    let one : ReadScheme = c.index-as_slice-g.result in
    let s : Scheme = c.in_ok-scheme-in-None.scheme in
    let size : length (schemes_in c.args.names.now) ≡ length schemes = length-map schemes scheme_of in
    let low : c.args.g < length schemes = omega arith in
    let at : get_or schemes c.args.g one ≡ one = search rules in
    subst (IsRead (schemes_in c.args.names.now) c.args.g) (sym c.in_ok-named-in-None.ensures.scheme)
    (scheme_read c.args.names.now c.args.g one s c.requires.names low at c.in_ok-scheme-in-None.ensures.scheme c.in_ok-scheme-in-None.ensures.env c.in_ok-scheme-in-None.ensures.equivalent)
