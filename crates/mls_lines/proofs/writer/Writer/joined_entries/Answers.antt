use Rattle.std.proofs.Common.{◌≡◌, ◌∙◌, ◌++◌, ◌∷◌, [], ℕ, ◌+◌, List, ap, map, take, get_or, sym, subst}
use Rattle.std.proofs.lemmas.List.{map-append, take_all, take_more}
use Rattle.mls_deriv.specs.declared.derivation.BinderNode.{BinderNode}
use Rattle.mls_lines.specs.declared.envs.Needed.{Needed}
use Rattle.mls_lines.specs.declared.envs.Needed.TheVariants as needed
use Rattle.mls_lines.specs.Environments.{AreEntries, JoinsIn, needed_binder}
use Rattle.mls_lines.specs.Writer.{own_node}
use Rattle.mls_lines.proofs.Growing.{grows_itself, grows_then, joins_more}
use Rattle.mls_lines.proofs.writer.Writer.joined_entries.Goals as goal

pub loop-needed-init : goal.loop-needed-init
loop-needed-init c = record {
  grows = grows_itself c.args.self.now;
  entries = λ d e every. subst (AreEntries (JoinsIn c.args.self.now.laid.book (own_node c.args.self.now c.args.view.now.posing.now) d e) []) (sym c.new-env.ensures) tt;
}

pub loop-needed-preserved : goal.loop-needed-preserved
loop-needed-preserved c =
    let w = c.args.self.now in
    let now = c.loop-needed.self in
    let new = c.joined_entry.new.self in
    let p = c.args.view.now.posing.now in
    let all : List Needed = c.args.all.now in
    let i : ℕ = c.loop-needed.needed-index in
    let own : BinderNode = c.in_ok-entry.entry in
    let none : Needed = needed.One (record { binder = 0; node = record { 0 = 0 } }) in
    let binders : map needed_binder (take i all) ++ needed_binder (get_or all i none) ∷ [] ≡ map needed_binder (take (i + 1) all) =
    sym (ap (map needed_binder) (take_more all i none c.loop-needed-test.true) ∙ map-append needed_binder (take i all) (get_or all i none ∷ [])) in
    record {
      grows = grows_then w now new c.loop-needed.invariant.grows c.in_ok-entry.ensures.grows;
      entries =
          λ d e every.
          let it = c.in_ok-entry.ensures.entry d e (every i none c.loop-needed-test.true) in
          subst (λ (xs : List ℕ). AreEntries (JoinsIn new.laid.book (own_node w p) d e) xs c.push.new.self) binders
          (subst (λ (x : ℕ). AreEntries (JoinsIn new.laid.book (own_node w p) d e) (map needed_binder (take i all) ++ x ∷ []) c.push.new.self) it.0
          (subst (AreEntries (JoinsIn new.laid.book (own_node w p) d e) (map needed_binder (take i all) ++ own.binder ∷ [])) (sym c.in_ok-push.ensures.ok)
          (joins_more w now new c.loop-needed.invariant.grows c.in_ok-entry.ensures.grows d e (map needed_binder (take i all)) c.loop-needed.env own.binder own.node p (c.loop-needed.invariant.entries d e every) it.1)));
    }

pub returns-clause-entries : goal.returns-clause-entries
returns-clause-entries c = λ d e every.
    subst (λ (all : List Needed). AreEntries (JoinsIn c.loop-needed.self.laid.book (own_node c.args.self.now c.args.view.now.posing.now) d e) (map needed_binder all) c.loop-needed.env)
    (take_all c.loop-needed.needed-index c.args.all.now c.loop-needed-test.false) (c.loop-needed.invariant.entries d e every)
