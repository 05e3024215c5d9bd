use Rattle.std.proofs.Common.{◌≡◌, ◌<◌, ◌++◌, ◌∙◌, ◌∷◌, [], All, List, length, get_or, take, Ok, ◌+◌, rules, refl, sym, ap, subst, length-append}
use Rattle.std.proofs.lemmas.List.Elements.{All-nil, All-cons, All-append}
use Rattle.mls_io.proofs.CountLaws.{Store-Follows-refl, Store-Follows-trans}
use Rattle.mls_grammar.specs.declared.module.Import.{Import}
use Rattle.mls_iface.specs.declared.interface.Interface.{Interface}
use Rattle.mls_modules.specs.Environments.{IsValidInterface}
use Rattle.mls_top.specs.Outcomes.{ReadsImports}
use Rattle.mls_top.specs.steps.Fetching.{Learns, IsInterfaceFile}
use Rattle.mls_top.proofs.ImportsRead.{none_read, next_read, next_refused}
use Rattle.mls_top.proofs.SitesTold.{read_at}
use Rattle.mls_top.proofs.Telling.{passed}
use Rattle.mls_top.proofs.reading.imports_of.Goals as goal

pub loop-import-init : goal.loop-import-init
loop-import-init g c = record {
  follows = Store-Follows-refl _;
  count = ap (λ (l : List Interface). length l) c.new-interfaces.ensures;
  valid = subst (All IsValidInterface) (sym c.new-interfaces.ensures) (All-nil IsValidInterface);
  read = none_read (g.S.Store.holdings c.args.store.now).files c.args.imports.now _ c.new-interfaces.ensures;
}

pub returns-in_err-interface_of-clause-refused : goal.returns-in_err-interface_of-clause-refused
returns-in_err-interface_of-clause-refused g c =
    let i : Import = c.import-item.result in
    let low : c.loop-import.import-index < length c.args.imports.now = search rules in
    let here : i ≡ get_or c.args.imports.now c.loop-import.import-index i = search rules in
    passed c.from_residual.result c.in_err-interface_of.field-0.0 _ c.from_residual.ensures.1
    (next_refused (g.S.Store.holdings c.args.store.now).files c.args.imports.now c.requires.distinct c.loop-import.import-index i (read_at c.args.imports.now c.args.imports.now c.loop-import.import-index i refl low here)
    c.loop-import.interfaces c.loop-import.invariant.read (g.S.Store.holdings c.loop-import.store).files c.loop-import.invariant.follows.files c.in_err-interface_of.field-0.0 c.in_err-interface_of.ensures.refused)

pub loop-import-preserved : goal.loop-import-preserved
loop-import-preserved g c =
    let i : Import = c.import-item.result in
    let low : c.loop-import.import-index < length c.args.imports.now = search rules in
    let here : i ≡ get_or c.args.imports.now c.loop-import.import-index i = search rules in
    let j : Interface = c.in_ok-interface_of.field-0 in
    let added : c.push.new.self ≡ c.loop-import.interfaces ++ j ∷ [] = c.in_ok-push.ensures.ok in
    let P : List Interface → Type 0 = λ l. Learns (g.S.Store.holdings c.args.store.now).files (IsInterfaceFile (take (c.loop-import.import-index + 1) c.args.imports.now))
    (λ files. ReadsImports files (take (c.loop-import.import-index + 1) c.args.imports.now) (Ok l)) in
    record {
      follows = Store-Follows-trans _ _ _ c.loop-import.invariant.follows c.in_ok-interface_of.ensures.follows;
      count = ap (λ (l : List Interface). length l) added ∙ (length-append c.loop-import.interfaces (j ∷ []) ∙ ap (λ n. n + 1) c.loop-import.invariant.count);
      valid = subst (All IsValidInterface) (sym added)
          (All-append IsValidInterface c.loop-import.interfaces (j ∷ []) c.loop-import.invariant.valid (All-cons IsValidInterface j [] c.in_ok-interface_of.ensures.valid (All-nil IsValidInterface)));
      read = subst P (sym added)
          (next_read (g.S.Store.holdings c.args.store.now).files c.args.imports.now c.requires.distinct c.loop-import.import-index i (read_at c.args.imports.now c.args.imports.now c.loop-import.import-index i refl low here)
          c.loop-import.interfaces c.loop-import.invariant.read (g.S.Store.holdings c.loop-import.store).files c.loop-import.invariant.follows.files j c.in_ok-interface_of.ensures.read);
    }
