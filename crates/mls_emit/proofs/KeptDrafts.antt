-- A draft goes on, and keeps all but what a function says that it changes.
--     names_then      names become known, and then more of them
use Rattle.std.proofs.Common.{◌≡◌, ◌∙◌, ap}
use Rattle.mls_emit.specs.declared.derive.section.Draft.{Draft}

pub names_then : (old new between : Draft) → between ≡ record old { book = between.book; known = between.known; globals = between.globals; variable = between.variable }
    → new ≡ record between { book = new.book; known = new.known; globals = new.globals; variable = new.variable }
    → new ≡ record old { book = new.book; known = new.known; globals = new.globals; variable = new.variable }
names_then old new between first second = second ∙ ap (λ (d : Draft). record d { book = new.book; known = new.known; globals = new.globals; variable = new.variable }) first
