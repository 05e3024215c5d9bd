use Rattle.std.proofs.Common.{◌↔◌, ℕ, List, All, Contains, subst}
use Rattle.std.proofs.lemmas.List.Elements.{All-contains}
use Rattle.mls_biunify.specs.steps.Marking.{WasFound}
use Rattle.mls_biunify.proofs.KeptTables.{cut-none, cut-one}
use Rattle.mls_biunify.proofs.keep.add_cut.Goals as goal

pub returns-then-were_found : goal.returns-then-were_found
returns-then-were_found c =
    let all : All (WasFound c.args.found.now) c.as_slice.result.now = c.were_found.ensures c.if-were_found.true in
    cut-none c.args.s.0 c.args.set.now c.args.found.now c.args.cuts.now.items
    (λ j it. (All-contains (WasFound c.args.found.now) c.args.set.now j (subst (All (WasFound c.args.found.now)) c.as_slice.ensures.members all) it).is)

pub returns : goal.returns
returns c =
    cut-one c.args.s.0 c.args.set.now c.args.found.now c.in_ok-left.left c.args.cuts.now.items c.push.new.self.items
    (subst (λ (xs : List ℕ). (j : ℕ) → Contains c.in_ok-left.left j ↔ Contains xs j × Contains c.args.found.now j) c.as_slice-2.ensures.members c.in_ok-left.ensures)
    c.in_ok-push.ensures.items
