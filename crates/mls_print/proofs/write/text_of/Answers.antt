use Rattle.std.proofs.Common.{refl, ◌≡◌, ◌<◌, ◌≤◌, Bool, List, ◌∙◌, ap, sym, subst, rules, length, get_or, false, map, replicate, None}
use Rattle.std.proofs.lemmas.List.{length-map}
use Rattle.mls_print.specs.declared.piece.Piece.{Piece as LaidPiece}
use Rattle.mls_print.specs.Pieces.{is_called, text_of}
use Rattle.mls_print.specs.steps.Writing.{piece_of}
use Rattle.mls_print.proofs.WritingLoop.{writing_begins, writing_step_at, writing_ends}
use Rattle.mls_print.proofs.write.text_of.Goals as goal

pub loop-piece-init : goal.loop-piece-init
loop-piece-init c =
    let variables : c.in_ok-vec.field-0.items ≡ replicate c.args.states None = search rules in
    let recursions : c.in_ok-vec-2.field-0.items ≡ replicate c.args.layout.now.sets None = search rules in
    writing_begins (λ j. get_or c.in_ok-recursive.recursive.items j false) (map piece_of c.deref-piece-items.result.now) c.args.states c.args.layout.now.sets
    (record { text = c.new.result; variables = c.in_ok-vec.field-0; recursions = c.in_ok-vec-2.field-0; named = 0 })
    c.new.ensures.items variables recursions refl

pub loop-piece-preserved : goal.loop-piece-preserved
loop-piece-preserved c =
    let recursive : List Bool = c.in_ok-recursive.recursive.items in
    let same : c.as_slice.result.now ≡ recursive = c.as_slice.ensures.value in
    let low : c.loop-piece.piece-index < length c.deref-piece-items.result.now = search rules in
    writing_step_at recursive c.as_slice.result.now same c.deref-piece-items.result.now c.loop-piece.piece-index _ c.args.states c.args.layout.now.sets c.loop-piece.writer c.write.new.self low c.loop-piece.invariant c.in_ok-write.ensures

pub returns : goal.returns
returns c =
    let items : List LaidPiece = c.deref-piece-items.result.now in
    let same : items ≡ c.args.layout.now.pieces.items = c.deref-piece-items.ensures.value in
    let low : length (map piece_of items) ≤ c.loop-piece.piece-index = search (rules, length-map items piece_of) in
    let T : List LaidPiece → Type 0 = λ items. c.loop-piece.writer.text.items ≡ text_of (map piece_of items) in
    subst T same
    (writing_ends (λ j. get_or c.in_ok-recursive.recursive.items j false) (map piece_of items) c.loop-piece.piece-index c.args.states c.args.layout.now.sets c.loop-piece.writer low c.loop-piece.invariant
    (λ j. c.in_ok-recursive.ensures.again j ∙ ap (λ (items : List LaidPiece). is_called (map piece_of items) j) (sym same)))
