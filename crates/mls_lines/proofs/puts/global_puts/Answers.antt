use Rattle.std.proofs.Common.{◌≡◌, ◌+◌, ◌∷◌, ◌++◌, [], ℕ, sym, subst}
use Rattle.mls_deriv.specs.declared.claim.Put.{Put}
use Rattle.mls_layout.specs.LaidOut.{place_of}
use Rattle.mls_lines.specs.Puts.{AreJoins}
use Rattle.mls_lines.proofs.Growing.{longer_itself, longer_then}
use Rattle.mls_lines.proofs.JoinedPuts.{joins_none, joins_more}
use Rattle.mls_lines.proofs.puts.global_puts.Goals as goal

pub loop-variable-init : goal.loop-variable-init
loop-variable-init c = record {
  longer = longer_itself c.args.book.now;
  is_book = λ is. is;
  closed = λ is. is;
  joins =
      λ is.
      let place : ℕ → ℕ = λ s. place_of c.args.places.now (c.args.first + s) in
      subst (AreJoins c.args.book.now place c.args.global.now.showing 0) (sym c.new-puts.ensures) (joins_none c.args.book.now place c.args.global.now.showing);
}

pub loop-variable-preserved : goal.loop-variable-preserved
loop-variable-preserved c =
    let so_far = c.loop-variable.invariant in
    let put : Put = c.in_ok-put.put in
    let node = c.in_ok-put.ensures.node in
    let place : ℕ → ℕ = λ s. place_of c.args.places.now (c.args.first + s) in
    let pushed : c.push.new.self ≡ c.loop-variable.puts ++ put ∷ [] = c.in_ok-push.ensures.ok in record {
      longer = longer_then c.args.book.now c.loop-variable.book c.joined_put.new.book so_far.longer node.longer;
      is_book = λ is. node.is_book (so_far.is_book is);
      closed = λ is. node.closed (so_far.closed is);
      joins =
          λ is.
          subst (AreJoins c.joined_put.new.book place c.args.global.now.showing (c.loop-variable.variable + 1)) (sym pushed)
          (joins_more c.loop-variable.book c.joined_put.new.book place c.args.global.now.showing c.loop-variable.variable c.loop-variable.puts put (so_far.is_book is) (so_far.joins is)
          c.in_ok-put.ensures.variable node);
    }
