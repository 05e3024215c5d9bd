-- The first bindings of a module are one.
use Rattle.std.proofs.Common.{◌≡◌, ℕ, ◌<◌, ◌≤◌, List, map, take, drop, length, sym, ap, ◌∙◌, subst, arith}
use Rattle.std.specs.Prelude.{Contains}
use Rattle.std.proofs.lemmas.List.{take-map, get_or-take, length-take-le, length-map, take-append-drop}
use Rattle.std.proofs.lemmas.List.Elements.{Contains-append_left}
use Rattle.mls_grammar.specs.declared.module.Module.{Module}
use Rattle.mls_grammar.specs.declared.module.Binding.{Binding}
use Rattle.mls_grammar.specs.Trees.{BindingTree}
use Rattle.mls_grammar.specs.Modules.{AreDistinct, binding_of, module_of, IsModule}
use Rattle.mls_modules.specs.ModuleFaults.{first_bindings}

first_distinct : (n : ℕ) (names : List (List ℕ)) → n ≤ length names → AreDistinct names → AreDistinct (take n names)
first_distinct n names within distinct i j d low inside =
    let count : length (take n names) ≡ n = length-take-le n names within in
    let first : i < n = omega arith in
    let second : j < n = omega arith in
    let at_first = get_or-take n names i d first in
    let at_second = get_or-take n names j d second in
    λ same. distinct i j d low (omega arith) (sym at_first ∙ (same ∙ at_second))

pub first_is_module : (m : Module) (n : ℕ) → n ≤ length m.bindings → IsModule m → IsModule (first_bindings n m)
first_is_module m n within is =
    let trees : List BindingTree = is.tree.bound in
    let names : List (List ℕ) = map (λ (b : BindingTree). b.x) trees in
    let all : length m.bindings ≡ length trees = ap (λ (m : Module). length m.bindings) is.nodes ∙ length-map trees binding_of in
    let named : length names ≡ length trees = length-map trees (λ (b : BindingTree). b.x) in
    record {
      tree = record { imported = is.tree.imported; bound = take n trees };
      no_doubles = record {
        imported = is.no_doubles.imported;
        bound = subst AreDistinct (take-map (λ (b : BindingTree). b.x) n trees) (first_distinct n names (omega arith) is.no_doubles.bound);
        labels = λ b among. is.no_doubles.labels b (subst (λ (l : List BindingTree). Contains l b) (take-append-drop n trees) (Contains-append_left (take n trees) (drop n trees) b among));
      };
      nodes = ap (first_bindings n) is.nodes ∙ ap (λ (bs : List Binding). record { imports = (module_of is.tree).imports; bindings = bs }) (take-map binding_of n trees);
    }
