-- A text is one module, or has a first fault, and not both.
use Rattle.std.proofs.Common.{sym, ap, ◌∙◌}
use Rattle.mls_grammar.specs.Modules.{module_of}
use Rattle.mls_grammar.specs.Laws.{OneModule, NoFaultBesideAModule}
use Rattle.mls_grammar.proofs.OneTree.{one_tree}
use Rattle.mls_grammar.proofs.FirstStops.{no_fault_beside_a_tree}

pub one_module : OneModule
one_module text m n is is' = is.nodes ∙ (ap module_of (one_tree text is.tree is'.tree is.text_of is'.text_of) ∙ sym is'.nodes)

pub no_fault_beside_a_module : NoFaultBesideAModule
no_fault_beside_a_module text m fault is has = no_fault_beside_a_tree text is.tree fault is.text_of has
