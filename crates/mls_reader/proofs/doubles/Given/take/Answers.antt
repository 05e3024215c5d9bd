use Rattle.std.proofs.Common.{◌∷◌, reverse, sym, ap, ◌∙◌}
use Rattle.mls_reader.specs.steps.GivenTwice.{doubles_in, fault_before}
use Rattle.mls_reader.proofs.DoublesIn.{import_taken, binding_taken, label_taken}
use Rattle.mls_reader.proofs.doubles.Given.take.Goals as goal

pub returns-in_ok-new-in-Import : goal.returns-in_ok-new-in-Import
returns-in_ok-new-in-Import c = λ rest.
    ap (λ e. doubles_in c.args.self.now.imports c.args.self.now.bindings (reverse c.args.self.now.records.items) (e ∷ rest)) c.in-Import.is
    ∙ (import_taken c.in-Import.at c.in-Import.name c.args.self.now.imports c.args.self.now.bindings c.add.new.self (reverse c.args.self.now.records.items) c.in_ok-new-in-Import.new rest
    c.in_ok-new-in-Import.ensures.new c.in_ok-new-in-Import.ensures.names
    ∙ ap (λ f. fault_before f (doubles_in c.add.new.self c.args.self.now.bindings (reverse c.args.self.now.records.items) rest)) (sym c.fault_unless.ensures))

pub returns-in_ok-new-in-Binding : goal.returns-in_ok-new-in-Binding
returns-in_ok-new-in-Binding c = λ rest.
    ap (λ e. doubles_in c.args.self.now.imports c.args.self.now.bindings (reverse c.args.self.now.records.items) (e ∷ rest)) c.in-Binding.is
    ∙ (binding_taken c.in-Binding.at c.in-Binding.name c.args.self.now.imports c.args.self.now.bindings c.add-in-Binding.new.self (reverse c.args.self.now.records.items) c.in_ok-new-in-Binding.new rest
    c.in_ok-new-in-Binding.ensures.new c.in_ok-new-in-Binding.ensures.names
    ∙ ap (λ f. fault_before f (doubles_in c.args.self.now.imports c.add-in-Binding.new.self (reverse c.args.self.now.records.items) rest)) (sym c.fault_unless-in-Binding.ensures))

pub returns-in_ok-new-in-Label : goal.returns-in_ok-new-in-Label
returns-in_ok-new-in-Label c = λ rest.
    ap (λ e. doubles_in c.args.self.now.imports c.args.self.now.bindings (reverse c.args.self.now.records.items) (e ∷ rest)) c.in-Label.is
    ∙ (label_taken c.in-Label.at c.in-Label.name c.args.self.now.imports c.args.self.now.bindings (reverse c.args.self.now.records.items) (reverse c.add_label.new.self.records.items) c.in_ok-new-in-Label.new rest
    c.in_ok-new-in-Label.ensures.labels
    ∙ ((λ i. fault_before (sym c.fault_unless-in-Label.ensures i) (doubles_in (sym c.in_ok-new-in-Label.ensures.others.0 i) (sym c.in_ok-new-in-Label.ensures.others.1 i) (reverse c.add_label.new.self.records.items) rest))))
