use Rattle.std.proofs.Common.{◌≡◌, true, false, [], ◌∷◌, ◌++◌, refl, sym, subst, rules}
use Rattle.std.specs.BTreeSet.{contains}
use Rattle.std.specs.Ordering.{nat_cmp}
use Rattle.std.specs.Cmp.Lexicographic.{slice_cmp}
use Rattle.mls_iface.specs.declared.interface.Val.{Val}
use Rattle.mls_iface.specs.Interfaces.{HasInterfaceFault}
use Rattle.mls_iface.specs.steps.Reading.{AreRead}
use Rattle.mls_iface.proofs.DeclarationsRead.{none_read, read_more, declared_again, type_faulty, all_read}
use Rattle.mls_iface.proofs.PassedOn.{passed}
use Rattle.mls_iface.proofs.read.read_declarations.Goals as goal

pub loop-from-init : goal.loop-from-init
loop-from-init c =
    none_read c.args.text.now c.args.tokens.now c.requires.grammar.0 c.requires.grammar.1 c.new-vals.result c.new-vals.ensures c.new-known.result c.new-known.ensures.empty

pub returns-then-contains-clause-fault : goal.returns-then-contains-clause-fault
returns-then-contains-clause-fault c =
    let known_it : contains (slice_cmp nat_cmp) c.loop-from.known c.in_ok-name.name ≡ true = search rules in
    λ differs.
    declared_again c.args.text.now c.args.tokens.now c.requires.tokens c.loop-from.from c.loop-from.vals c.loop-from.known c.loop-from.invariant
    c.in_ok-name.name c.in_ok-name.at c.in_ok-name.ensures known_it

pub returns-in_err-scheme-clause-fault : goal.returns-in_err-scheme-clause-fault
returns-in_err-scheme-clause-fault c =
    let unknown : contains (slice_cmp nat_cmp) c.loop-from.known c.in_ok-name.name ≡ false = search rules in
    passed c.from_residual-in_err-scheme.result c.in_err-scheme.field-0.0 (HasInterfaceFault c.args.text.now) c.from_residual-in_err-scheme.ensures.1
    (λ differs.
    type_faulty c.args.text.now c.args.tokens.now c.requires.tokens c.loop-from.from c.loop-from.vals c.loop-from.known c.loop-from.invariant
    c.in_ok-name.name c.in_ok-name.at c.in_err-scheme.field-0.0 c.in_ok-name.ensures unknown (c.in_err-scheme.ensures.fault differs))

pub loop-from-preserved : goal.loop-from-preserved
loop-from-preserved c =
    let val : Val = record { name = c.in_ok-name.name; at = c.in_ok-name.at; scheme = c.in_ok-scheme.scheme } in
    let unknown : contains (slice_cmp nat_cmp) c.loop-from.known c.in_ok-name.name ≡ false = search rules in
    let pushed : c.push.new.self ≡ c.loop-from.vals ++ val ∷ [] = search rules in
    subst (λ v. AreRead c.args.text.now c.args.tokens.now c.in_ok-scheme.end v c.note.new.known) (sym pushed)
    (read_more c.args.text.now c.args.tokens.now c.loop-from.from c.loop-from.vals c.loop-from.known c.note.new.known c.loop-from.invariant
    val c.in_ok-scheme.end c.in_ok-name.ensures c.in_ok-scheme.ensures.read unknown c.in_ok-note.ensures)

pub returns-clause-found : goal.returns-clause-found
returns-clause-found c =
    all_read c.args.text.now c.args.tokens.now c.requires.tokens c.loop-from.from c.loop-from.vals c.loop-from.known c.loop-from.invariant
    (search rules) (record { vals = c.loop-from.vals }) refl
