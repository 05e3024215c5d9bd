-- The parts of a node are taken one after another, and give way to that of the node.
--     first_there, first_taken          the first part
--     second_there, both_taken, third_there, all_taken
--     built_as, stops_at                what the form makes of them, or why it stops
--     projected_bound, called_bound     what is made where the first part is a binder
use Rattle.std.proofs.Common.{◌≡◌, ◌≢◌, ℕ, List, [], ◌∷◌, Contains, Result, sym, subst, IfErr}
use Rattle.std.specs.List.{AllPairs}
use Rattle.std.specs.Result.{IsErrAnd}
use Rattle.mls_automaton.specs.declared.scheme.Scheme.{Scheme}
use Rattle.mls_automaton.proofs.Lists.{Contains-here, Contains-later}
use Rattle.mls_biunify.specs.Live.{IsLive, Live}
use Rattle.mls_term.specs.declared.term.TermForm.{TermForm}
use Rattle.mls_term.specs.declared.term.TermForm.TheVariants as form
use Rattle.mls_infer.specs.declared.done.Done.{Done}
use Rattle.mls_infer.specs.declared.done.Known.{Known}
use Rattle.mls_infer.specs.declared.solve.NoSolution.{NoSolution}
use Rattle.mls_infer.specs.Constraints.{Constraint, apply_constraint, bound_scheme, project_constraint}
use Rattle.mls_infer.specs.Doing.{AreDone, AreTaken, HasTaken, IsBuiltIn, IsDone, TakesBound, TakesMore, finished_in, schemes_known}
use Rattle.mls_infer.specs.Finished.{Has}
use Rattle.mls_infer.specs.Finishing.{HasParts, StopsAt}
use Rattle.mls_infer.specs.Forms.{IsPosed, children}
use Rattle.mls_infer.specs.Pending.{IsMade, IsMadeWith, StopsOver}
use Rattle.mls_infer.specs.Regions.{TablePart, scheme_at}
use Rattle.mls_infer.proofs.DoneSteps.{argument_there, bound_called, bound_left, bound_projected, fresh_second, fresh_third, made_as, made_in, still_there, stops_as, stops_in, take_one}
use Rattle.mls_infer.proofs.FinishedParts.{some_there}
use Rattle.mls_infer.proofs.PassedOn.{passed}

module _ (old : Done) (done : IsDone old) (node : TermForm) (parts : HasParts node (finished_in old)) where
  abbrev Is : List ℕ → Type 0
  Is is = children node ≡ is

  inside : (is : List ℕ) → Is is → (i : ℕ) → Contains is i → (s : Scheme) × Has (finished_in old) i s
  inside is are i it = let P : List ℕ → Type 0 = λ is. Contains is i in some_there node (finished_in old) parts i (subst P (sym are) it)

  apart : (is : List ℕ) → Is is → AllPairs (λ i j. i ≢ j) is
  apart is are = let P : List ℕ → Type 0 = AllPairs (λ i j. i ≢ j) in subst P are parts.distinct

  pub first_there : (i : ℕ) (more : List ℕ) → Is (i ∷ more) → (s : Scheme) × Has (finished_in old) i s
  first_there i more are = inside (i ∷ more) are i (Contains-here i more)

  pub first_taken : (i : ℕ) (mid : Done) (one : TablePart) → TakesMore old i mid one → HasTaken old (i ∷ []) mid (one ∷ [])
  first_taken i mid one takes = take_one old.live old.nodes.items done i mid.live mid.nodes.items one takes

  module _ (i j : ℕ) (more : List ℕ) (are : Is (i ∷ j ∷ more)) (mid : Done) (one : TablePart) (takes : TakesMore old i mid one) where
    pub second_there : (s : Scheme) × Has (finished_in mid) j s
    second_there =
        still_there (finished_in old) (i ∷ []) mid.live mid.nodes.items (one ∷ []) (first_taken i mid one takes) j (fresh_second i j more (apart (i ∷ j ∷ more) are))
        (inside (i ∷ j ∷ more) are j (Contains-later i (j ∷ more) j (Contains-here j more)))

    pub both_taken : (new : Done) (two : TablePart) → TakesMore mid j new two → HasTaken old (i ∷ j ∷ []) new (one ∷ two ∷ [])
    both_taken new two more_taken = more_taken (finished_in old) (i ∷ []) (one ∷ []) (first_taken i mid one takes) (fresh_second i j more (apart (i ∷ j ∷ more) are))

  module _ (i j k : ℕ) (are : Is (i ∷ j ∷ k ∷ [])) (mid : Done) (one : TablePart) (takes : TakesMore old i mid one) (later : Done) (two : TablePart) (takes_two : TakesMore mid j later two) where
    two_taken : HasTaken old (i ∷ j ∷ []) later (one ∷ two ∷ [])
    two_taken = both_taken i j (k ∷ []) are mid one takes later two takes_two

    pub third_there : (s : Scheme) × Has (finished_in later) k s
    third_there =
        still_there (finished_in old) (i ∷ j ∷ []) later.live later.nodes.items (one ∷ two ∷ []) two_taken k (fresh_third i j k (apart (i ∷ j ∷ k ∷ []) are))
        (inside (i ∷ j ∷ k ∷ []) are k (Contains-later i (j ∷ k ∷ []) k (Contains-later j (k ∷ []) k (Contains-here k []))))

    pub all_taken : (new : Done) (three : TablePart) → TakesMore later k new three → HasTaken old (i ∷ j ∷ k ∷ []) new (one ∷ two ∷ three ∷ [])
    all_taken new three more_taken = more_taken (finished_in old) (i ∷ j ∷ []) (one ∷ two ∷ []) two_taken (fresh_third i j k (apart (i ∷ j ∷ k ∷ []) are))

  -- the form is that of other numbers
  module _ (other : TermForm) (same : (ss : List Scheme) (c : Constraint) → IsPosed other ss c → IsPosed node ss c) (last : Done) (taken : List TablePart) (has : HasTaken old (children node) last taken) where
    pub built_as : (new : Live) (part : TablePart) → IsLive new → IsMade other last.live taken new part → IsBuiltIn node (finished_in old) new last.nodes.items part
    built_as new part is_new made = made_in node (finished_in old) last.live new last.nodes.items taken has parts part is_new (made_as other node last.live new taken part same made)

    pub stops_at : {T : Type 0} (result : Result T NoSolution) (e : NoSolution) → IsErrAnd result (λ given. given ≡ e) → StopsOver other last.live taken e → IfErr result (StopsAt node (finished_in old))
    stops_at result e is stop =
        passed result e (StopsAt node (finished_in old)) is
        (stops_in node (finished_in old) last.live last.live last.nodes.items taken has parts e (stops_as other node last.live taken same e stop))

-- A binder is taken first.
module _ (old : Done) (done : IsDone old) (i x : ℕ) (mid : Done) (takes : TakesBound old i x mid) where
  pub bound_done : IsDone mid
  bound_done =
      subst (λ (live : Live). AreDone live mid.nodes.items) (sym takes.live)
      (subst (λ (nodes : List Known). AreDone old.live nodes) (sym takes.left) (bound_left old.live old.nodes.items done i x takes.is))

  pub projected_bound : (label : List ℕ) → HasParts (form.Project i label) (finished_in old) → (new : Live) → IsLive new → (part : TablePart) → IsMadeWith (project_constraint label (bound_scheme x)) mid.live [] new part
      → IsBuiltIn (form.Project i label) (finished_in old) new mid.nodes.items part
  projected_bound label has new is_new part made =
      subst (λ (nodes : List Known). IsBuiltIn (form.Project i label) (finished_in old) new nodes part) (sym takes.left)
      (bound_projected old.live old.nodes.items done i x takes.is label has new is_new part
      (subst (λ (live : Live). IsMadeWith (project_constraint label (bound_scheme x)) live [] new part) takes.live made))

  module _ (a : ℕ) (has : HasParts (form.Apply i a) (finished_in old)) where
    pub argument_in : (s : Scheme) × Has (finished_in mid) a s
    argument_in =
        subst (λ (live : Live). (s : Scheme) × Has (schemes_known live mid.nodes.items) a s) (sym takes.live)
        (subst (λ (nodes : List Known). (s : Scheme) × Has (schemes_known old.live nodes) a s) (sym takes.left)
        (argument_there old.live old.nodes.items done i x takes.is a has))

    module _ (later : Done) (argument : TablePart) (takes_more : TakesMore mid a later argument) where
      pub argument_taken : HasTaken mid (a ∷ []) later (argument ∷ [])
      argument_taken = take_one mid.live mid.nodes.items bound_done a later.live later.nodes.items argument takes_more

      pub called_bound : (new : Live) → IsLive new → (part : TablePart) → IsMadeWith (apply_constraint (bound_scheme x) (scheme_at later.live.table argument)) later.live (argument ∷ []) new part
          → IsBuiltIn (form.Apply i a) (finished_in old) new later.nodes.items part
      called_bound new is_new part made =
          bound_called old.live old.nodes.items done i x takes.is a has later.live later.nodes.items argument
          (subst (λ (nodes : List Known). AreTaken (schemes_known old.live nodes) (a ∷ []) later.live later.nodes.items (argument ∷ [])) takes.left
          (subst (λ (live : Live). AreTaken (schemes_known live mid.nodes.items) (a ∷ []) later.live later.nodes.items (argument ∷ [])) takes.live argument_taken))
          new is_new part made
