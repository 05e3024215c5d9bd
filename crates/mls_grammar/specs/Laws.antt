-- The laws of modules.
use Rattle.std.specs.Prelude.{◌≡◌, ℕ, ◌≤◌, List, length}
use Rattle.mls_grammar.specs.declared.module.Module.{Module}
use Rattle.mls_grammar.specs.declared.fault.Fault.{Fault}
use Rattle.mls_grammar.specs.Modules.{IsModuleText}
use Rattle.mls_grammar.specs.Faults.{fault_place}
use Rattle.mls_grammar.specs.FirstFaults.{HasFirstFault}

-- a text is one module at most
abbrev pub OneModule : Type 0
OneModule = (text : List ℕ) (m n : Module) → IsModuleText text m → IsModuleText text n → m ≡ n

-- a text that is a module has no fault before its names are looked at
abbrev pub NoFaultBesideAModule : Type 0
NoFaultBesideAModule = (text : List ℕ) (m : Module) (fault : Fault) → IsModuleText text m → HasFirstFault text fault → ⊥

-- the first fault of a text stands in it, or at its end
abbrev pub FaultIsInText : Type 0
FaultIsInText = (text : List ℕ) (fault : Fault) → HasFirstFault text fault
    → fault_place (length text) fault ≤ length text
