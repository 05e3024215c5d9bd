use Rattle.std.proofs.Common.{List, subst, sym}
use Rattle.mls_typetext.specs.declared.scheme.ReadScheme.{ReadScheme}
use Rattle.mls_infer.specs.Fields.{AreReads}
use Rattle.mls_infer.specs.Inference.{AreNames, schemes_in}
use Rattle.mls_infer.proofs.KnownSchemes.{names_grow}
use Rattle.mls_infer.proofs.environment.Environment.add.Goals as goal

pub invariant_of-self : goal.invariant_of-self
invariant_of-self c =
    let P : List ReadScheme → Type 0 = λ schemes. AreNames (record { schemes = schemes }) × AreReads (schemes_in (record { schemes = schemes })) c.self.inside.uses.reads in
    subst P (sym c.in_err-push.ensures.err) c.self.invariant

pub invariant_of-self-2 : goal.invariant_of-self-2
invariant_of-self-2 c =
    names_grow c.self.inside.names c.push.new.self c.args.scheme c.self.inside.uses.reads c.in_ok-push.ensures.ok c.requires.read c.requires.polarised c.self.invariant
