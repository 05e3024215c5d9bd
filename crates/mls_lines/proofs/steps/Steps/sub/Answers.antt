use Rattle.std.proofs.Common.{◌∙◌, List, [], ◌∷◌, ◌++◌, append_assoc, subst, sym}
use Rattle.mls_deriv.specs.declared.claim.Pair.{Pair}
use Rattle.mls_deriv.specs.declared.claim.Put.{Put}
use Rattle.mls_deriv.specs.declared.derivation.SectionLine.{SectionLine}
use Rattle.mls_deriv.specs.declared.derivation.SectionLine.TheVariants as line
use Rattle.mls_deriv.specs.declared.derivation.StepLine.{StepLine}
use Rattle.mls_deriv.specs.declared.derivation.StepRule.TheVariants as rule
use Rattle.mls_deriv.specs.Pairs.{put_at}
use Rattle.mls_deriv.specs.Steps.{IsRising}
use Rattle.mls_lines.specs.Stepping.{pairs_over}
use Rattle.mls_pairs.specs.Lines.{pair_lines, put_lines}
use Rattle.mls_pairs.specs.PairLists.{IsPairList, StaysInside}
use Rattle.mls_lines.proofs.steps.Steps.sub.Goals as goal

pub returns : goal.returns
returns c = λ rising.
    let from = c.args.from.now in
    let book = c.args.book.now in
    let old : List SectionLine = c.args.self.now.lines in
    let binders = c.as_slice-binders.ensures in
    let asked = c.as_slice.ensures ∙ (c.in_ok-wanted.ensures (subst IsRising (sym binders) rising) ∙ (λ n. pairs_over from.env (binders n) from.root.0 c.args.root.0)) in
    let pairs : List Pair = c.in_ok-pairs.pairs in
    let wanted : List Pair = pairs_over from.env c.args.env.now from.root.0 c.args.root.0 in
    let to = c.in_ok-to.ensures in
    let step : StepLine = record { node = c.args.node; rule = rule.Sub from.step; env = c.args.env.now; root = c.args.root } in
    let first : List SectionLine = old ++ line.Step step ∷ [] in
    let written = to.lines ∙ (λ n. old ++ line.Step (record { node = c.args.node; rule = rule.Sub from.step; env = c.in_ok-own.ensures n; root = c.args.root }) ∷ []) in
    let put = c.in_ok-push_puts.ensures ∙ (λ n. written n ++ put_lines (c.as_slice-puts.ensures n)) in
    let all = c.in_ok-push_pairs.ensures ∙ (λ n. put n ++ pair_lines (c.as_slice-2.ensures n)) in
    record {
      pairs = pairs;
      list =
          subst (λ (puts : List Put). IsPairList book puts wanted pairs) c.as_slice-puts.ensures
          (subst (λ (l : List Pair). IsPairList book c.as_slice-puts.result.now l pairs) asked c.in_ok-pairs.ensures.list);
      inside =
          subst (λ (puts : List Put). StaysInside book (put_at puts) wanted pairs) c.as_slice-puts.ensures
          (subst (λ (l : List Pair). StaysInside book (put_at c.as_slice-puts.result.now) l pairs) asked c.in_ok-pairs.ensures.inside);
      lines = all ∙ (append_assoc first (put_lines from.puts) (pair_lines pairs) ∙ append_assoc old (line.Step step ∷ []) (put_lines from.puts ++ pair_lines pairs));
      count = to.count;
      number = to.number;
      root = to.root;
      env = to.env ∙ c.in_ok-own.ensures;
      puts = to.puts;
    }
