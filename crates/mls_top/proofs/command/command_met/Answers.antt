use Rattle.std.proofs.Common.{rules, ◌≡◌, ◌∙◌, IfOk, true, sym, ap, subst, true≢false, refl}
use Rattle.std.proofs.lemmas.Result.{IfOk-weaker}
use Rattle.clap.specs.Walk.{rows_of, texts}
use Rattle.clap.specs.Matches.{found_of}
use Rattle.mls_top.specs.Commands.{command_of}
use Rattle.mls_top.proofs.ParsedWords.{nothing_met, others_met, same_words}
use Rattle.mls_top.proofs.command.command_met.Goals as goal

pub returns-in_default : goal.returns-in_default
returns-in_default c = nothing_met c.args.matches.now (texts c.args.words.now) c.requires c.in_default.ensures.rows

pub returns-then-eq : goal.returns-then-eq
returns-then-eq c =
    let same = (same_words c.as_slice.result.now c.args.words.now true c.if-eq.ensures).0 refl in
    let kept : texts c.as_slice-then-eq.result.now ≡ texts c.args.words.now = ap texts (c.as_slice-then-eq.ensures.value ∙ sym c.as_slice.ensures.value) ∙ same in
    IfOk-weaker c.command_found.result _ _ (λ command e. e ∙ ap command_of kept) c.command_found.ensures

pub returns : goal.returns
returns c = others_met c.args.matches.now (texts c.args.words.now) c.requires c.in-Some.name.now (rows_of (found_of c.in-Some.operands.now)) c.in-Some.ensures.name c.in-Some.ensures.rows
    (λ same. true≢false (sym ((same_words c.as_slice.result.now c.args.words.now _ c.if-eq.ensures).1 (ap texts c.as_slice.ensures.value ∙ c.in_ok-found.ensures ∙ same))))
