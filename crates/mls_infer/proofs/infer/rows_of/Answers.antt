use Rattle.std.proofs.Common.{◌≡◌, ◌≢◌, ◌+◌, ◌<◌, ◌++◌, ◌∷◌, [], ℕ, List, length, map, take, get_or, rules, subst, sym, arith, Contains}
use Rattle.std.specs.List.{AllPairs}
use Rattle.std.proofs.lemmas.List.{length-map}
use Rattle.mls_biunify.specs.Live.{Live}
use Rattle.mls_term.specs.declared.term.Part.{Part}
use Rattle.mls_term.specs.declared.term.TermForm.TheVariants as form
use Rattle.mls_infer.specs.declared.done.Known.{Known}
use Rattle.mls_infer.specs.Doing.{AreTaken, schemes_known}
use Rattle.mls_infer.specs.Finished.{Finished, child_of}
use Rattle.mls_infer.specs.Joining.{part_labels}
use Rattle.mls_infer.specs.Pending.{AreRowsOf, part_in}
use Rattle.mls_infer.specs.Regions.{TablePart}
use Rattle.mls_infer.proofs.DoneSteps.{none_taken, still_there}
use Rattle.mls_infer.proofs.FinishedParts.{child_at, child_inside, next_taken, not_taken, some_there}
use Rattle.mls_infer.proofs.RowParts.{first_pairs, label_at}
use Rattle.mls_infer.proofs.infer.rows_of.Goals as goal

pub loop-part-init : goal.loop-part-init
loop-part-init c = ([], none_taken c.args.done.now.live c.args.done.now.nodes.items c.requires.done, c.new-rows.ensures)

pub take-requires-clause-done : goal.take-requires-clause-done
take-requires-clause-done c = c.loop-part.invariant.1.done

pub take-requires-clause-there : goal.take-requires-clause-there
take-requires-clause-there c =
    let parts : List Part = c.args.parts.now in
    let part : Part = c.part-item.result in
    let i : ℕ = c.loop-part.part-index in
    let low : i < length parts = search rules in
    let is : get_or parts i part ≡ part = search rules in
    let size : length (map child_of parts) ≡ length parts = length-map parts child_of in
    let low_child : i < length (map child_of parts) = omega arith in
    let at : get_or (map child_of parts) i part.child ≡ part.child = child_at parts i part low is in
    let first : Finished = schemes_known c.args.done.now.live c.args.done.now.nodes.items in
    let gone : List ℕ = take i (map child_of parts) in
    let fresh : Contains gone part.child → ⊥ = not_taken (map child_of parts) i part.child low_child at c.requires.parts.distinct in
    still_there first gone c.loop-part.done.live c.loop-part.done.nodes.items c.loop-part.invariant.0 c.loop-part.invariant.1 part.child fresh
    (some_there (form.Make parts) first c.requires.parts part.child (child_inside (map child_of parts) i part.child low_child at))

pub loop-part-preserved : goal.loop-part-preserved
loop-part-preserved c =
    let parts : List Part = c.args.parts.now in
    let part : Part = c.part-item.result in
    let i : ℕ = c.loop-part.part-index in
    let low : i < length parts = search rules in
    let is : get_or parts i part ≡ part = search rules in
    let size : length (map child_of parts) ≡ length parts = length-map parts child_of in
    let low_child : i < length (map child_of parts) = omega arith in
    let at : get_or (map child_of parts) i part.child ≡ part.child = child_at parts i part low is in
    let first : Finished = schemes_known c.args.done.now.live c.args.done.now.nodes.items in
    let gone : List ℕ = take i (map child_of parts) in
    let fresh : Contains gone part.child → ⊥ = not_taken (map child_of parts) i part.child low_child at c.requires.parts.distinct in
    let before : List TablePart = c.loop-part.invariant.0 in
    let body : TablePart = part_in c.in_ok-body.body in
    let mid : Live = c.take.new.self.live in
    let rest : List Known = c.take.new.self.nodes.items in
    let labels : List (List ℕ) = part_labels parts in
    let label_size : length labels ≡ length parts = length-map parts (λ (part : Part). part.label) in
    let low_label : i < length labels = omega arith in
    let label_is : get_or labels i part.label ≡ part.label = label_at parts i part low is in
    let next_label : take (i + 1) labels ≡ take i labels ++ part.label ∷ [] = next_taken labels i part.label low_label label_is in
    let next_child : take (i + 1) (map child_of parts) ≡ gone ++ part.child ∷ [] = next_taken (map child_of parts) i part.child low_child at in
    let T : List ℕ → Type 0 = λ gone. AreTaken first gone mid rest (before ++ body ∷ []) in
    let D : List (List ℕ) → Type 0 = AllPairs (λ x y. x ≢ y) in
    let R : List (List ℕ) → Type 0 = λ labels. AreRowsOf labels (before ++ body ∷ []) c.in_ok-rows.rows in
    let distinct : AllPairs (λ x y. x ≢ y) (take i labels ++ part.label ∷ []) = subst D next_label (first_pairs labels (i + 1) c.requires.parts.built) in (
      before ++ body ∷ [],
      subst T (sym next_child) (c.in_ok-body.ensures first gone before c.loop-part.invariant.1 fresh),
      subst R (sym next_label) (c.in_ok-rows.ensures (take i labels) before c.loop-part.invariant.2 distinct),
    )
