use Rattle.std.proofs.Common.{◌≡◌, ◌∙◌, List, [], map, length, sym, subst}
use Rattle.std.specs.Prelude.{All}
use Rattle.std.proofs.lemmas.Bool.Decides.{Decides-eqb}
use Rattle.std.proofs.lemmas.Result.{IfOk-weaker}
use Rattle.mls_deriv.specs.declared.derivation.BinderNode.{BinderNode}
use Rattle.mls_lines.specs.Conclusions.{IsJoined}
use Rattle.mls_lines.specs.declared.envs.Needed.{Needed}
use Rattle.mls_lines.specs.Environments.{AreEntries, HasNodes, JoinsIn, needed_binder}
use Rattle.mls_lines.specs.Writer.{own_node}
use Rattle.mls_lines.proofs.JoinedEnvironments.{empty_is, entries_joined, joined_none, joined_alone, joined_same}
use Rattle.mls_lines.proofs.writer.Writer.joined.Goals as goal
use Rattle.mls_lines.proofs.writer.Writer.joined.Goals.{then-is_empty-via-then-is_empty, then-is_empty-via-else-is_empty+then-are_same}

pub returns-then-is_empty-clause-joined : goal.returns-then-is_empty-clause-joined
returns-then-is_empty-clause-joined c = λ rising rising'.
    let node = own_node c.args.self.now c.args.view.now.posing.now in
    let book = c.args.self.now.laid.book in
    let d : List BinderNode = c.args.first.now in
    let e : List BinderNode = c.args.second.now in
    elim c.then-is_empty.branch [
      | then-is_empty-via-then-is_empty w ↦
          (let none : d ≡ [] = empty_is d ((Decides-eqb (length d) 0).0 (sym c.is_empty.ensures ∙ w.if-is_empty.true)) in
          IfOk-weaker c.copied.result (λ copy. copy ≡ e) (IsJoined node book d e)
          (λ copy it. subst (λ (l : List BinderNode). IsJoined node book l e copy) (sym none) (subst (IsJoined node book [] e) (sym it) (joined_none node book e rising')))
          c.copied.ensures)
      | then-is_empty-via-else-is_empty+then-are_same w ↦
          (let same : d ≡ e = w.are_same.ensures w.if-are_same.true in
          IfOk-weaker c.copied.result (λ copy. copy ≡ e) (IsJoined node book d e)
          (λ copy it. subst (λ (l : List BinderNode). IsJoined node book l e copy) (sym same) (subst (IsJoined node book e e) (sym it) (joined_same node book e rising')))
          c.copied.ensures)
    ]

pub returns-then-is_empty-2-clause-joined : goal.returns-then-is_empty-2-clause-joined
returns-then-is_empty-2-clause-joined c = λ rising rising'.
    let node = own_node c.args.self.now c.args.view.now.posing.now in
    let book = c.args.self.now.laid.book in
    let d : List BinderNode = c.args.first.now in
    let e : List BinderNode = c.args.second.now in
    let none : e ≡ [] = empty_is e ((Decides-eqb (length e) 0).0 (sym c.is_empty-2.ensures ∙ c.if-is_empty-2.true)) in
    IfOk-weaker c.copied-then-is_empty-2.result (λ copy. copy ≡ d) (IsJoined node book d e)
    (λ copy it. subst (λ (l : List BinderNode). IsJoined node book d l copy) (sym none) (subst (IsJoined node book d []) (sym it) (joined_alone node book d rising)))
    c.copied-then-is_empty-2.ensures

pub returns-clause-joined : goal.returns-clause-joined
returns-clause-joined c = λ rising rising'.
    let d : List BinderNode = c.args.first.now in
    let e : List BinderNode = c.args.second.now in
    let it = c.in_ok-all.ensures rising rising' in
    entries_joined (own_node c.args.self.now c.args.view.now.posing.now) c.joined_entries.new.self.laid.book d e c.in_ok-env.env (map needed_binder c.in_ok-all.all) it.binders
    (subst (λ (all : List Needed). AreEntries (JoinsIn c.joined_entries.new.self.laid.book (own_node c.args.self.now c.args.view.now.posing.now) d e) (map needed_binder all) c.in_ok-env.env) c.as_slice.ensures
    (c.in_ok-env.ensures.entries d e (subst (All (HasNodes d e)) (sym c.as_slice.ensures) it.nodes)))
