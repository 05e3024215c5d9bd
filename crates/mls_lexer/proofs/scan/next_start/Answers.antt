use Rattle.std.proofs.Common.{◌-◌, ap, sym, ◌∙◌, refl, length, take, drop, get_or, Some}
use Rattle.mls_lexer.proofs.Gaps.{more_comment, more_hash, more_space}
use Rattle.mls_lexer.proofs.scan.next_start.Goals as goal
use Rattle.mls_lexer.proofs.scan.next_start.Goals.{then-in_comment, else-in_comment+then-byte-eq35, else-in_comment+else-byte-eq35+else-not-is_space}

pub loop-count-preserved : goal.loop-count-preserved
loop-count-preserved c =
    let bytes = take (length c.args.text.now - c.args.from) (drop c.args.from c.args.text.now) in
    let i = c.loop-count.count in
    let byte = get_or bytes i 0 in
    let so_far = c.loop-count.invariant in
    elim c.if-in_comment.branch [
      | then-in_comment w ↦
          more_comment bytes i c.loop-count-test.true byte refl (so_far ∙ ap Some w.if-in_comment.true) ∙ ap Some (sym w.in_comment-is)
      | else-in_comment+then-byte-eq35 w ↦
          more_hash bytes i c.loop-count-test.true byte refl (so_far ∙ ap Some w.if-in_comment.false) w.if-byte-eq35.true ∙ ap Some (sym w.in_comment-is)
      | else-in_comment+else-byte-eq35+else-not-is_space w ↦
          more_space bytes i c.loop-count-test.true byte refl (so_far ∙ ap Some w.if-in_comment.false) (sym w.if-not-is_space.ensures)
          ∙ ap Some (sym w.if-in_comment.false) ∙ ap Some (sym w.in_comment-is)
    ]
