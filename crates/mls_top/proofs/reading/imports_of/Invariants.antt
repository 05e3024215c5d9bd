use Rattle.std.proofs.Common.{◌≡◌, take, length, All, Ok}
use Rattle.mls_io.specs.Stores.{Follows}
use Rattle.mls_modules.specs.Environments.{IsValidInterface}
use Rattle.mls_top.specs.Outcomes.{ReadsImports}
use Rattle.mls_top.specs.steps.Fetching.{Learns, IsInterfaceFile}
use Rattle.mls_top.proofs.reading.imports_of.Given as goal

-- what the imports before this one declare was read
abbrev pub invariant-loop-import : goal.invariant-loop-import
invariant-loop-import g l = record {
  follows : Follows (g.S.Store.holdings l.fn.store) (g.S.Store.holdings l.store);
  count : length l.interfaces ≡ l.import-index;
  valid : All IsValidInterface l.interfaces;
  read : Learns (g.S.Store.holdings l.fn.store).files (IsInterfaceFile (take l.import-index l.imports))
      (λ files. ReadsImports files (take l.import-index l.imports) (Ok l.interfaces));
}
