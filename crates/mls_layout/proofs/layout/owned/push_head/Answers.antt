use Rattle.mls_layout.specs.LaidOut.{place_of}
use Rattle.mls_layout.proofs.OwnNodes.{places_low, function_more}
use Rattle.mls_layout.proofs.layout.owned.push_head.Goals as goal

pub push_record-requires-clause-low : goal.push_record-requires-clause-low
push_record-requires-clause-low c = places_low (place_of c.args.places.now) c.args.trees.now c.push_function.new.trees c.in_ok-push_function.ensures.extends c.requires.low

pub returns-clause-adds : goal.returns-clause-adds
returns-clause-adds c = record {
  between = c.push_function.new.book;
  function =
      function_more (place_of c.args.places.now) c.args.polarity c.push_function.new.trees c.push_record.new.trees c.in_ok-push_record.ensures.extends c.args.head.now.function c.args.book.now c.push_function.new.book
      c.in_ok-push_function.ensures.adds;
  fields = c.in_ok-push_record.ensures.adds;
}
