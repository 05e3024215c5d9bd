use Rattle.std.proofs.Common.{rules, ◌≡◌, ◌∙◌, ◌++◌, List, [], Some, None, sym, ap, append-nil}
use Rattle.std.proofs.lemmas.List.{map-append}
use Rattle.clap.specs.Walk.{rows_of, texts}
use Rattle.clap.specs.Matches.{found_of}
use Rattle.mls_top.proofs.WordsFound.{ids_turn, values_found, words_turn}
use Rattle.mls_top.proofs.parser.words_of.Goals as goal

pub loop-operand-preserved-in-Continue-branch-2 : goal.loop-operand-preserved-in-Continue-branch-2
loop-operand-preserved-in-Continue-branch-2 c =
    let found = found_of c.args.operands.now in
    let more = values_found found c.in-Some.operand.now (Some (texts c.in-Some-get_raw.values.now)) c.in-Some-get_raw.ensures in
    let grown : texts c.extend_from_slice.new.self.items ≡ texts c.loop-operand.words.items ++ texts c.in-Some-get_raw.values.now
    = ap texts c.in_ok-extend_from_slice.ensures.items ∙ map-append (λ s. s.now) c.loop-operand.words.items c.in-Some-get_raw.values.now in (
      grown ∙ words_turn (rows_of found) c.args.name.now (texts c.loop-operand.words.items) c.loop-operand.yielded c.in-Some.operand
          (texts c.in-Some-get_raw.values.now) c.loop-operand.invariant.0 more,
      ids_turn c.loop-operand.yielded c.in-Some.operand _ _ _ c.loop-operand.invariant.1 c.in-Some.ensures.steps.0 c.in-Some.ensures.steps.1,
    )

pub loop-operand-preserved : goal.loop-operand-preserved
loop-operand-preserved c =
    let found = found_of c.args.operands.now in
    let more = values_found found c.in-Some.operand.now None c.in_default.ensures in (
      sym (append-nil (texts c.loop-operand.words.items)) ∙ words_turn (rows_of found) c.args.name.now (texts c.loop-operand.words.items) c.loop-operand.yielded c.in-Some.operand
          [] c.loop-operand.invariant.0 more,
      ids_turn c.loop-operand.yielded c.in-Some.operand _ _ _ c.loop-operand.invariant.1 c.in-Some.ensures.steps.0 c.in-Some.ensures.steps.1,
    )
