-- What holds of each part of a node.
use Rattle.std.proofs.Common.{ℕ}
use Rattle.mls_term.specs.declared.term.TermForm.{TermForm}
use Rattle.mls_term.specs.declared.term.TermForm.TheVariants as form
use Rattle.mls_layout.specs.PosedNodes.{HasPartsIn}

pub parts_more : (P Q : ℕ → Type 0) → ((j : ℕ) → P j → Q j) → (f : TermForm) → HasPartsIn P f → HasPartsIn Q f
parts_more P Q more (form.Bound x) it = tt
parts_more P Q more (form.Inner k) it = tt
parts_more P Q more (form.Global g) it = tt
parts_more P Q more (form.Number value) it = tt
parts_more P Q more (form.Truth value) it = tt
parts_more P Q more (form.Fun x j) it = more j it
parts_more P Q more (form.Apply j k) it = (more j it.0, more k it.1)
parts_more P Q more (form.Make parts) it = λ part there. more part.child (it part there)
parts_more P Q more (form.Project j label) it = more j it
parts_more P Q more (form.If j k l) it = (more j it.0, more k it.1, more l it.2)
parts_more P Q more (form.Let k j l) it = more l it
parts_more P Q more (form.Rec x j) it = more j it
