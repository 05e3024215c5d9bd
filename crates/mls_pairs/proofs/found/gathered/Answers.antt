use Rattle.std.proofs.Common.{◌≡◌, ◌<◌, ◌≤◌, ℕ, suc, true, List, [], ◌∷◌, Option, arith, length, refl, sym, ◌∙◌, rules, subst}
use Rattle.std.specs.Prelude.{◌==◌}
use Rattle.std.proofs.lemmas.Bool.Decides.{Decides-eqb}
use Rattle.mls_deriv.specs.declared.claim.Put.{Put}
use Rattle.mls_deriv.specs.Pairs.{put_at}
use Rattle.mls_pairs.specs.steps.Growth.{FindsNeeds}
use Rattle.mls_pairs.proofs.Growing.{growing_first, growing_next, growing_last}
use Rattle.mls_pairs.proofs.found.gathered.Goals as goal

-- a list of no put
no_put : (puts : List Put) → length puts == 0 ≡ true → puts ≡ []
no_put [] e = refl
no_put (put ∷ puts) e = absurd (let none : suc (length puts) ≡ 0 = (Decides-eqb (suc (length puts)) 0).0 e in omega arith)

pub loop-next-init : goal.loop-next-init
loop-next-init c =
    growing_first c.is_empty-alone.result c.args.book.now (put_at c.args.puts.now) c.args.wanted.now _ c.add_all.new.self c.in_ok-found.ensures.empty c.in_ok-add_all.ensures c.in_ok-found.ensures.puts

pub loop-next-preserved : goal.loop-next-preserved
loop-next-preserved c =
    let low : c.loop-next.next < length c.loop-next.found.pairs = search rules in
    growing_next c.is_empty-alone.result c.args.book.now (put_at c.args.puts.now) c.args.wanted.now c.loop-next.found c.add_needs.new.self c.loop-next.next c.at-pair.result low
    c.at-pair.ensures c.loop-next.invariant
    (subst (λ (put : ℕ → Option ℕ). FindsNeeds c.is_empty-alone.result c.args.book.now put c.loop-next.found c.add_needs.new.self c.at-pair.result) (λ n x. c.loop-next.invariant.puts x n) c.in_ok-add_needs.ensures)

pub returns-clause-whole : goal.returns-clause-whole
returns-clause-whole c = record {
  alone = c.is_empty-alone.result;
  none = λ e. no_put c.args.puts.now (sym c.is_empty-alone.ensures ∙ e);
  closed =
      let all : length c.loop-next.found.pairs ≤ c.loop-next.next = search rules in
      growing_last c.is_empty-alone.result c.args.book.now (put_at c.args.puts.now) c.args.wanted.now c.loop-next.found c.loop-next.next all c.loop-next.invariant;
  inside = c.loop-next.invariant.inside;
}

pub returns-clause-table : goal.returns-clause-table
returns-clause-table c = record { holds = c.loop-next.invariant.is; put = c.loop-next.invariant.puts }
