use Rattle.std.proofs.Common.{refl}
use Rattle.mls_top.specs.Refusals.{no_file, too_long}
use Rattle.mls_top.proofs.Learning.{found_text, missing_text, long_text}
use Rattle.mls_top.proofs.fetching.text_of.Goals as goal

pub returns-in-Found-clause-found : goal.returns-in-Found-clause-found
returns-in-Found-clause-found g c =
    found_text (g.S.Store.holdings c.args.store.now) c.args.file.now c.args.limit _ c.fetch.new.into.items c.new-text.ensures.items
    (c.fetch.ensures.found c.in-Found.is)

pub returns-in_ok-not_found_line-in-Missing-clause-refused : goal.returns-in_ok-not_found_line-in-Missing-clause-refused
returns-in_ok-not_found_line-in-Missing-clause-refused g c = (
  no_file c.args.file.now,
  record { status = refl; text = c.in_ok-not_found_line-in-Missing.ensures },
  missing_text (g.S.Store.holdings c.args.store.now) _ c.args.file.now c.args.limit c.fetch.result c.in-Missing.is c.fetch.ensures.missing,
)

pub returns-in_ok-too_long_line-in-Long-clause-refused : goal.returns-in_ok-too_long_line-in-Long-clause-refused
returns-in_ok-too_long_line-in-Long-clause-refused g c = (
  too_long c.args.file.now c.args.limit,
  record { status = refl; text = c.in_ok-too_long_line-in-Long.ensures },
  long_text (g.S.Store.holdings c.args.store.now) _ c.args.file.now c.args.limit (c.fetch.ensures.long c.in-Long.is),
)
