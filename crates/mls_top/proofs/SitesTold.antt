-- A binding without a scheme is told by its name and the place of the module's node, which is that of the term's.
use Rattle.std.proofs.Common.{◌≡◌, ◌≢◌, ℕ, ◌<◌, ◌≤◌, List, length, get_or, sym, ap, ◌∙◌, subst}
use Rattle.std.proofs.lemmas.Option.{slice_get_within, slice_get-get_or}
use Rattle.std.specs.Prelude.{slice_get, Some, Result, Ok, Err, IfOk}
use Rattle.mls_base.specs.declared.memory.Memory.{Memory}
use Rattle.mls_grammar.specs.declared.fault.Fault.TheVariants as names
use Rattle.mls_grammar.specs.declared.module.Binding.{Binding}
use Rattle.mls_grammar.specs.declared.module.ExprNode.{ExprNode}
use Rattle.mls_grammar.specs.declared.module.Module.{Module}
use Rattle.mls_grammar.specs.Modules.{IsModuleText}
use Rattle.mls_names.proofs.NamesWithin.{node-within, unknown-within}
use Rattle.mls_infer.specs.declared.fault.Site.{Site}
use Rattle.mls_iface.specs.declared.interface.Interface.{Interface}
use Rattle.mls_modules.specs.declared.fault.ModuleFault.{ModuleFault}
use Rattle.mls_modules.specs.declared.fault.ModuleFault.TheVariants.{UnknownName, NoScheme, Memory as WantOfMemory}
use Rattle.mls_modules.specs.Environments.{declared_names}
use Rattle.mls_modules.specs.ModuleFaults.{IsWithoutScheme, HasModuleFault}
use Rattle.mls_top.specs.declared.answer.Answer.{Answer}
use Rattle.mls_top.specs.declared.status.Status.TheVariants as status
use Rattle.mls_top.specs.Outcomes.{HasNoScheme, InfersBindings, unknown_name, one_has_none, refused}
use Rattle.mls_top.specs.Refusals.{Refusal, no_scheme, for_fault}
use Rattle.mls_top.specs.steps.Answering.{HasFaultOverSome, Tells, TellsFault}
use Rattle.mls_top.proofs.SamePlaces.{site_stands}
use Rattle.mls_top.proofs.Telling.{quiet_is_uncounted}

some_is : {X : Type 0} {x y : X} → Some x ≡ Some y → x ≡ y
some_is e = cc

-- what stands at a number of a list that was read
pub read_at : {X : Type 0} (xs read : List X) (k : ℕ) (x : X) → read ≡ xs → k < length read → x ≡ get_or read k x → slice_get xs k ≡ Some x
read_at xs read k x same low is = ap (λ l. slice_get l k) (sym same) ∙ (slice_get-get_or read k x low ∙ ap (λ x. Some x) (sym is))

-- a number is below the length of a list that was read
pub read_below : {X : Type 0} (xs read : List X) (k : ℕ) → read ≡ xs → k < length xs → k < length read
read_below xs read k same low = subst (λ n. k < n) (ap length (sym same)) low

module _ (text : List ℕ) (m : Module) (is : IsModuleText text m) (k : ℕ) (site : Site) (h : HasFaultOverSome m (NoScheme k site)) where
  pub binding_below : k < length m.bindings
  binding_below = let s = site_stands m h.0 k site.node h.1 in slice_get_within m.bindings k s.b s.binding

  module _ (b : Binding) (binding : slice_get m.bindings k ≡ Some b) where
    node_of : (imports : List Interface) (w : IsWithoutScheme m imports k site.node) → slice_get b.expr.nodes site.node ≡ Some (site_stands m imports k site.node w).n
    node_of imports w =
        let s = site_stands m imports k site.node w in
        let same : s.b ≡ b = some_is (sym s.binding ∙ binding) in
        ap (λ (b : Binding). slice_get b.expr.nodes site.node) (sym same) ∙ s.stands

    pub node_below : site.node < length b.expr.nodes
    node_below = slice_get_within b.expr.nodes site.node _ (node_of h.0 h.1)

    module _ (n : ExprNode) (node : slice_get b.expr.nodes site.node ≡ Some n) where
      pub site_within : n.at ≤ length text
      site_within =
          let s = site_stands m h.0 k site.node h.1 in
          let same : s.n ≡ n = some_is (sym (node_of h.0 h.1) ∙ node) in
          let low = node-within text m (declared_names h.0) h.1.resolved k site.node h.1.none.b s.found is h.1.resolves h.1.none.binding s.found_stands in
          subst (λ at. at ≤ length text) (sym s.at ∙ ap (λ (n : ExprNode). n.at) same) low

      has_none : (imports : List Interface) (w : IsWithoutScheme m imports k site.node) → HasNoScheme m imports b.name n.at
      has_none imports w =
          let s = site_stands m imports k site.node w in
          let same : s.b ≡ b = some_is (sym s.binding ∙ binding) in
          let same_node : s.n ≡ n = some_is (sym (node_of imports w) ∙ node) in
          record {
            number = k;
            node = site.node;
            without = w;
            x_is = ap (λ (b : Binding). b.name) (sym same) ∙ s.name;
            found = s.found;
            stands = s.found_stands;
            place_is = ap (λ (n : ExprNode). n.at) (sym same_node) ∙ s.at;
          }

      pub site_told : (file : List ℕ) (answer : Answer) → Tells (no_scheme file text n.at b.name site.kind) answer → TellsFault file text m (NoScheme k site) answer
      site_told file answer tells = record {
        r = no_scheme file text n.at b.name site.kind;
        not_memory = λ same. absurd (cc);
        uncounted = quiet_is_uncounted status.NoScheme answer (λ old new. tt) tells.status;
        tells = tells;
        is = λ imports w. one_has_none (has_none imports w);
      }

-- a name without a meaning is told by its place
pub unknown_within : (text : List ℕ) (m : Module) (fault : ModuleFault) (at : ℕ) → fault ≡ UnknownName at → IsModuleText text m → (fault ≢ WantOfMemory → HasFaultOverSome m fault) → at ≤ length text
unknown_within text m (UnknownName place) at same is h =
    let it = h (λ wrong. absurd (cc)) in
    let one : place ≡ at = cc in
    subst (λ at. at ≤ length text) one (unknown-within text m (declared_names it.0) (names.UnknownName place) is it.1)
unknown_within text m (NoScheme k site) at same is h = absurd (cc)
unknown_within text m WantOfMemory at same is h = absurd (cc)

pub unknown_told : (file text : List ℕ) (m : Module) (fault : ModuleFault) (at : ℕ) → fault ≡ UnknownName at → (r : Result Answer Memory) → IfOk r (Tells (for_fault file text (names.UnknownName at)))
    → IfOk r (TellsFault file text m fault)
unknown_told file text m fault at same (Err e) h = tt
unknown_told file text m fault at same (Ok answer) h =
    let told : TellsFault file text m (UnknownName at) answer = record {
      r = for_fault file text (names.UnknownName at);
      not_memory = λ wrong. absurd (cc);
      uncounted = quiet_is_uncounted status.BadText answer (λ old new. tt) h.status;
      tells = h;
      is = λ imports none. unknown_name none;
    } in
    let P : ModuleFault → Type 0 = λ fault. TellsFault file text m fault answer in
    subst P (sym same) told

-- what is told of a fault is what is found for the bindings
pub fault_told : (file text : List ℕ) (m : Module) (imports : List Interface) (fault : ModuleFault) (answer : Answer) → (fault ≢ WantOfMemory → HasModuleFault m imports fault)
    → TellsFault file text m fault answer → (r : Refusal) × Tells r answer × InfersBindings file text m imports (refused r)
fault_told file text m imports fault answer h it = (it.r, it.tells, it.is imports (h it.not_memory))
