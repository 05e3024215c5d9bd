use Rattle.std.proofs.Common.{◌≡◌, ◌++◌, List, ℕ, rules, take, drop, sym, ◌∙◌}
use Rattle.std.proofs.lemmas.List.{take-append-drop}
use Rattle.mls_top.proofs.Written.{AddsBefore-line, AddsFront-part}
use Rattle.mls_top.proofs.writing.write_lines.Goals as goal

-- the two pieces of a split are the whole
split : (n : ℕ) (left line rest : List ℕ) → line ≡ take n left → rest ≡ drop n left → left ≡ line ++ rest
split n left line rest front back = sym ((λ t. front t ++ back t) ∙ take-append-drop n left)

pub loop-left-preserved : goal.loop-left-preserved
loop-left-preserved g c = record {
  follows = search rules;
  added = AddsBefore-line _ _ _ _ _ c.split_at.result.0.now c.split_at.result.1.now c.loop-left.invariant.added (split _ _ _ _ c.split_at.ensures.front c.split_at.ensures.back) (c.put.ensures.all c.in-All.is);
}

pub returns-in-Failed-clause-failed : goal.returns-in-Failed-clause-failed
returns-in-Failed-clause-failed g c = λ _. AddsFront-part _ _ _ _ _ c.split_at.result.0.now c.split_at.result.1.now c.loop-left.invariant.added (split _ _ _ _ c.split_at.ensures.front c.split_at.ensures.back) (c.put.ensures.failed c.in-Failed.is)
