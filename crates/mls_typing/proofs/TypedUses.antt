-- What an expression has, by what its parts have: applications, projections, conditionals.
--     typed_apply, typed_project, typed_choice
use Rattle.std.proofs.Common.{◌≡◌, ◌↔◌, ℕ, suc, ◌<◌, ◌≤◌, Bool, true, false, cond, List, [], ◌∷◌, length, refl, ap, ◌∙◌, arith, Some, bytes_eq}
use Rattle.std.specs.Prelude.{None, option_map}
use Rattle.std.specs.Ordering.{nat_cmp}
use Rattle.std.specs.declared.cmp.Ordering.TheVariants.{Less}
use Rattle.std.proofs.lemmas.List.Elements.{All-nil, All-cons}
use Rattle.mls_book.specs.declared.book.Field.{Field}
use Rattle.mls_book.specs.declared.book.NodeId.{NodeId}
use Rattle.mls_book.specs.declared.book.Node.{Node}
use Rattle.mls_book.specs.declared.book.Node.TheVariants as node
use Rattle.mls_book.specs.Predicates.{Predicate, bool, arrow, rcd, var}
use Rattle.mls_book.specs.Passes.{passes, passes_by, field_values}
use Rattle.mls_book.specs.Schemes.{Scheme, IsScheme}
use Rattle.mls_book.proofs.Depths.{Implies-refl, Implies-trans, Implies-same, Implies-same_back}
use Rattle.mls_book.proofs.LongerBooks.{Extends, Extends-value, Extends-trans, extended_with}
use Rattle.mls_book.proofs.Table.{value-bool, value-arrow, value-rcd}
use Rattle.mls_term.specs.Terms.{TermTree, apply, project, choice}
use Rattle.mls_term.specs.Derivations.{Known, over, app, proj, cond as if_else}
use Rattle.mls_term.specs.TypingLaws.{AreSchemes}
use Rattle.mls_term.proofs.Environments.{scheme_at}
use Rattle.mls_term.proofs.Metatheory.{derived_scheme}
use Rattle.mls_term.proofs.Rules.{ByApply, ByProject, ByChoice, Generated}
use Rattle.mls_typing.specs.Typed.{AreBelow, IsTyped, Allows, OfApply, one_field, OfProject, OfChoice}
use Rattle.mls_typing.proofs.Instances.{IsTyped-more, typed_under, instance_is_type}
use Rattle.mls_typing.proofs.Contexts.{longer_within}
use Rattle.mls_typing.proofs.TypedForms.{Context, needs_in, in_context, with_type, Allows-over, generated, rule_allows, meet_contexts, derived_over, typed_over}
use Rattle.std.specs.Cmp.Lexicographic.{slice_cmp}

-- two expressions in one context
module _ (known : Known) (types : ℕ → Predicate) (t u : TermTree) (f g : Predicate) (h : IsTyped known types t f) (k : IsTyped known types u g) where
  pub both_in : (c : Context types) × IsTyped known (needs_in c) t f × IsTyped known (needs_in c) u g
  both_in =
      let one = in_context known types t f h in
      let two = in_context known types u g k in
      let m = meet_contexts types one.0 two.0 in (
        m.0,
        IsTyped-more known (needs_in one.0) (needs_in m.0) t f f m.1 (Implies-refl f) one.1,
        IsTyped-more known (needs_in two.0) (needs_in m.0) u g g m.2 (Implies-refl g) two.1,
      )

-- a lower context has what a context has
lower_context : (known : Known) (types : ℕ → Predicate) (c d : Context types) (t : TermTree) (f : Predicate) → AreBelow (needs_in d) (needs_in c) → IsTyped known (needs_in c) t f → IsTyped known (needs_in d) t f
lower_context known types c d t f lower h = IsTyped-more known (needs_in c) (needs_in d) t f f lower (Implies-refl f) h

-- the nodes of a context's scheme over a longer book
context_scheme : (types : ℕ → Predicate) (c : Context types) (b : List Node) → Extends c.book b → (n : ℕ) → n < length b → IsScheme (scheme_at b c.env n)
context_scheme types c b more n low = record { book = more.closed; root = low; env = longer_within c.book b c.env more c.within }

-- the only field of a record
pub one_field-value : (value : ℕ → Predicate) (label : List ℕ) (i : NodeId) (f : Predicate) → value i.0 ≡ f → field_values value (record { label = label; node = i } ∷ []) ≡ one_field label f
one_field-value value label i f is = λ k other. at other (bytes_eq label other) k
  where
    at : (other : List ℕ) (b : Bool) → option_map (λ (id : NodeId). value id.0) (option_map (λ (field : Field). field.node) (cond b (Some (record { label = label; node = i })) None)) ≡ cond b (Some f) None
    at other true = ap Some is
    at other false = refl

module _ (known : Known) (all : AreSchemes known) (types : ℕ → Predicate) (f : Predicate) where
  -- an application
  pub typed_apply : (at : ℕ) (e e' : TermTree) → IsTyped known types (apply at e e') f ↔ OfApply (λ ts g. IsTyped known ts e g) (λ ts g. IsTyped known ts e' g) types f
  typed_apply at e e' = (forth, back)
    where
      forth : IsTyped known types (apply at e e') f → OfApply (λ ts g. IsTyped known ts e g) (λ ts g. IsTyped known ts e' g) types f
      forth h =
          let g : Generated known (apply at e e') h.scheme = generated known types (apply at e e') f h in
          let a : Allows g.first types f = rule_allows known types (apply at e e') f h in
          let rule : ByApply known e e' g.first = g.rule in
          let s : Scheme = g.first in
          let P : ℕ → Predicate = passes_by a.reading s.book in
          let function_is : IsScheme (over s s.env rule.f) = derived_scheme known e (over s s.env rule.f) all rule.function_has in
          let argument_is : IsScheme (over s s.env rule.i.0) = derived_scheme known e' (over s s.env rule.i.0) all rule.argument_has in
          record {
            domain = P rule.i.0;
            codomain = P s.root;
            domain_is = instance_is_type s rule.scheme types f a rule.i.0 argument_is.root;
            codomain_is = instance_is_type s rule.scheme types f a s.root rule.scheme.root;
            function =
                typed_under (over s s.env rule.f) function_is types (arrow (P rule.i.0) (P s.root))
                (Allows-over s types f a types (arrow (P rule.i.0) (P s.root)) s.env rule.f
                (Implies-same (P rule.f) (arrow (P rule.i.0) (P s.root)) (value-arrow a.reading s.book rule.scheme.book.book rule.f rule.i (record { 0 = s.root }) rule.function_is)) a.env)
                known e rule.function_has;
            argument =
                typed_under (over s s.env rule.i.0) argument_is types (P rule.i.0)
                (Allows-over s types f a types (P rule.i.0) s.env rule.i.0 (Implies-refl (P rule.i.0)) a.env)
                known e' rule.argument_has;
            below = a.root;
          }

      back : OfApply (λ ts g. IsTyped known ts e g) (λ ts g. IsTyped known ts e' g) types f → IsTyped known types (apply at e e') f
      back it =
          let both = both_in known types e e' (arrow it.domain it.codomain) it.domain it.function it.argument in
          let c : Context types = both.0 in
          let one = with_type c.book c.closed it.domain it.domain_is in
          let two = with_type one.0 one.1.closed it.codomain it.codomain_is in
          let n : ℕ = one.2.0 in
          let m : ℕ = two.2.0 in
          let n_low : n < length one.0 = one.2.1 in
          let n_in : n < length two.0 = let le : length one.0 ≤ length two.0 = two.1.longer in omega arith in
          let m_in : m < length two.0 = two.2.1 in
          let three = extended_with two.0 (node.Arrow (record { 0 = n }) (record { 0 = m })) two.1.closed tt (omega arith, omega arith) in
          let b : List Node = three.0 in
          let le : length two.0 ≤ length b = three.1.longer in
          let n_there : n < length b = omega arith in
          let m_there : m < length b = omega arith in
          let more : Extends c.book b = Extends-trans c.book one.0 b one.1 (Extends-trans one.0 two.0 b two.1 three.1) in
          let domain_value : passes b n ≡ it.domain = Extends-value one.0 b one.1.closed (Extends-trans one.0 two.0 b two.1 three.1) var n n_low ∙ one.2.2 in
          let codomain_value : passes b m ≡ it.codomain = Extends-value two.0 b two.1.closed three.1 var m m_in ∙ two.2.2 in
          let function_value : passes b three.2.0 ≡ arrow it.domain it.codomain =
          value-arrow var b three.1.closed.book three.2.0 (record { 0 = n }) (record { 0 = m }) three.2.2 ∙ (λ k. arrow (domain_value k) (codomain_value k)) in
          typed_over known types c b more (apply at e e') f m m_there
          (app at e e' three.2.0 (record { 0 = n }) refl (context_scheme types c b more m m_there) three.2.2
          (derived_over known types c b more e (arrow it.domain it.codomain) both.1 three.2.0 three.2.1 (Implies-same_back (passes b three.2.0) (arrow it.domain it.codomain) function_value))
          (derived_over known types c b more e' it.domain both.2 n n_there (Implies-same_back (passes b n) it.domain domain_value)))
          (Implies-trans (passes b m) it.codomain f (Implies-same (passes b m) it.codomain codomain_value) it.below)

  -- a projection
  pub typed_project : (at : ℕ) (e : TermTree) (label : List ℕ) → IsTyped known types (project at e label) f ↔ OfProject label (λ ts g. IsTyped known ts e g) types f
  typed_project at e label = (forth, back)
    where
      forth : IsTyped known types (project at e label) f → OfProject label (λ ts g. IsTyped known ts e g) types f
      forth h =
          let g : Generated known (project at e label) h.scheme = generated known types (project at e label) f h in
          let a : Allows g.first types f = rule_allows known types (project at e label) f h in
          let rule : ByProject known e label g.first = g.rule in
          let s : Scheme = g.first in
          let P : ℕ → Predicate = passes_by a.reading s.book in
          let body_is : IsScheme (over s s.env rule.i) = derived_scheme known e (over s s.env rule.i) all rule.body_has in
          let record_value : P rule.i ≡ rcd (one_field label (P s.root)) =
          value-rcd a.reading s.book rule.scheme.book.book rule.i (rule.field ∷ []) rule.record_is
          ∙ (ap rcd (one_field-value P rule.field.label rule.field.node (P s.root) (ap P rule.node_is)) ∙ (λ k. rcd (one_field (rule.label_is k) (P s.root)))) in
          record {
            field = P s.root;
            field_is = instance_is_type s rule.scheme types f a s.root rule.scheme.root;
            body =
                typed_under (over s s.env rule.i) body_is types (rcd (one_field label (P s.root)))
                (Allows-over s types f a types (rcd (one_field label (P s.root))) s.env rule.i (Implies-same (P rule.i) (rcd (one_field label (P s.root))) record_value) a.env)
                known e rule.body_has;
            below = a.root;
          }

      back : OfProject label (λ ts g. IsTyped known ts e g) types f → IsTyped known types (project at e label) f
      back it =
          let only = in_context known types e (rcd (one_field label it.field)) it.body in
          let c : Context types = only.0 in
          let one = with_type c.book c.closed it.field it.field_is in
          let n : ℕ = one.2.0 in
          let n_in : n < length one.0 = one.2.1 in
          let field : Field = record { label = label; node = record { 0 = n } } in
          let two = extended_with one.0 (node.Rcd (field ∷ [])) one.1.closed (All-nil (λ later. slice_cmp nat_cmp field.label later.label ≡ Less), tt) (All-cons (λ (field : Field). field.node.0 < suc (length one.0)) field [] (omega arith) (All-nil (λ (field : Field). field.node.0 < suc (length one.0)))) in
          let b : List Node = two.0 in
          let n_there : n < length b = let le : length one.0 ≤ length b = two.1.longer in omega arith in
          let more : Extends c.book b = Extends-trans c.book one.0 b one.1 two.1 in
          let field_value : passes b n ≡ it.field = Extends-value one.0 b one.1.closed two.1 var n n_in ∙ one.2.2 in
          let record_value : passes b two.2.0 ≡ rcd (one_field label it.field) =
          value-rcd var b two.1.closed.book two.2.0 (field ∷ []) two.2.2 ∙ ap rcd (one_field-value (passes b) label (record { 0 = n }) it.field field_value) in
          typed_over known types c b more (project at e label) f n n_there
          (proj at e label two.2.0 field refl (context_scheme types c b more n n_there) two.2.2 refl refl
          (derived_over known types c b more e (rcd (one_field label it.field)) only.1 two.2.0 two.2.1 (Implies-same_back (passes b two.2.0) (rcd (one_field label it.field)) record_value)))
          (Implies-trans (passes b n) it.field f (Implies-same (passes b n) it.field field_value) it.below)

  -- a conditional
  pub typed_choice : (at : ℕ) (e e1 e2 : TermTree) → IsTyped known types (choice at e e1 e2) f ↔ OfChoice (λ ts g. IsTyped known ts e g) (λ ts g. IsTyped known ts e1 g) (λ ts g. IsTyped known ts e2 g) types f
  typed_choice at e e1 e2 = (forth, back)
    where
      forth : IsTyped known types (choice at e e1 e2) f → OfChoice (λ ts g. IsTyped known ts e g) (λ ts g. IsTyped known ts e1 g) (λ ts g. IsTyped known ts e2 g) types f
      forth h =
          let g : Generated known (choice at e e1 e2) h.scheme = generated known types (choice at e e1 e2) f h in
          let a : Allows g.first types f = rule_allows known types (choice at e e1 e2) f h in
          let rule : ByChoice known e e1 e2 g.first = g.rule in
          let s : Scheme = g.first in
          let P : ℕ → Predicate = passes_by a.reading s.book in
          let condition_is : IsScheme (over s s.env rule.i) = derived_scheme known e (over s s.env rule.i) all rule.condition_has in
          let branch : Allows s types (P s.root) = Allows-over s types f a types (P s.root) s.env s.root (Implies-refl (P s.root)) a.env in
          record {
            branch = P s.root;
            branch_is = instance_is_type s rule.scheme types f a s.root rule.scheme.root;
            condition =
                typed_under (over s s.env rule.i) condition_is types bool
                (Allows-over s types f a types bool s.env rule.i (Implies-same (P rule.i) bool (value-bool a.reading s.book rule.scheme.book.book rule.i rule.condition_is)) a.env)
                known e rule.condition_has;
            first = typed_under s rule.scheme types (P s.root) branch known e1 rule.first_has;
            second = typed_under s rule.scheme types (P s.root) branch known e2 rule.second_has;
            below = a.root;
          }

      back : OfChoice (λ ts g. IsTyped known ts e g) (λ ts g. IsTyped known ts e1 g) (λ ts g. IsTyped known ts e2 g) types f → IsTyped known types (choice at e e1 e2) f
      back it =
          let two = both_in known types e1 e2 it.branch it.branch it.first it.second in
          let one = in_context known types e bool it.condition in
          let m = meet_contexts types one.0 two.0 in
          let c : Context types = m.0 in
          let first = lower_context known types two.0 c e1 it.branch m.2 two.1 in
          let second = lower_context known types two.0 c e2 it.branch m.2 two.2 in
          let condition = lower_context known types one.0 c e bool m.1 one.1 in
          let with_branch = with_type c.book c.closed it.branch it.branch_is in
          let n : ℕ = with_branch.2.0 in
          let n_in : n < length with_branch.0 = with_branch.2.1 in
          let last = extended_with with_branch.0 node.Bool with_branch.1.closed tt tt in
          let b : List Node = last.0 in
          let n_there : n < length b = let le : length with_branch.0 ≤ length b = last.1.longer in omega arith in
          let more : Extends c.book b = Extends-trans c.book with_branch.0 b with_branch.1 last.1 in
          let branch_value : passes b n ≡ it.branch = Extends-value with_branch.0 b with_branch.1.closed last.1 var n n_in ∙ with_branch.2.2 in
          typed_over known types c b more (choice at e e1 e2) f n n_there
          (if_else at e e1 e2 last.2.0 refl (context_scheme types c b more n n_there) last.2.2
          (derived_over known types c b more e bool condition last.2.0 last.2.1 (Implies-same_back (passes b last.2.0) bool (value-bool var b last.1.closed.book last.2.0 last.2.2)))
          (derived_over known types c b more e1 it.branch first n n_there (Implies-same_back (passes b n) it.branch branch_value))
          (derived_over known types c b more e2 it.branch second n n_there (Implies-same_back (passes b n) it.branch branch_value)))
          (Implies-trans (passes b n) it.branch f (Implies-same (passes b n) it.branch branch_value) it.below)
