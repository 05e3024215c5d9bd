use Rattle.std.proofs.Common.{◌≡◌, ◌∙◌, ap}
use Rattle.clap.specs.Simple.{App}
use Rattle.clap.specs.Takes.{takes}
use Rattle.clap.specs.Walk.{texts}
use Rattle.mls_top.proofs.ParsedWords.{has_option, no_words, unreadable}
use Rattle.mls_top.proofs.command.command_of_texts.Goals as goal
use Rattle.mls_top.proofs.command.command_of_texts.Goals.{then-is_empty-via-then-is_empty, then-is_empty-via-else-is_empty+then-has_option}

pub returns-then-is_empty : goal.returns-then-is_empty
returns-then-is_empty c = elim c.then-is_empty.branch [
  | then-is_empty-via-then-is_empty w ↦ no_words c.args.words.now w.if-is_empty.ensures
  | then-is_empty-via-else-is_empty+then-has_option w ↦ has_option c.args.words.now w.if-has_option.ensures
]

pub returns : goal.returns
returns c = unreadable (texts c.args.words.now) (λ r. c.in_default.not-OutOfMemory (c.kind.ensures
    ∙ c.in-Err.ensures.passes (ap (λ (app : App). takes app (texts c.args.words.now)) c.in_ok-program.ensures ∙ r.taken)))
