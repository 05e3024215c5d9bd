use Rattle.std.proofs.Common.{◌≡◌, ◌∙◌, ◌++◌, ◌∷◌, [], ℕ, List, true, false, refl, subst, sym}
use Rattle.mls_biunify.proofs.FoundMarks.{marks-find_new, marks-pushed}
use Rattle.mls_biunify.proofs.marks.MarksFound.find.Goals as goal

pub invariant_of-self-2 : goal.invariant_of-self-2
invariant_of-self-2 c =
    marks-pushed c.self.inside.found.items c.self.inside.is_found.items c.self.invariant c.push.new.self.items c.grow.new.marks.items c.args.s c.in_ok-push.ensures.items c.grow.ensures.same c.in_ok-grow.ensures.size

pub returns : goal.returns
returns c =
    let none : c.contains.result ≡ false = c.if-contains.false in
    marks-find_new c.args.self.now c.push.new.self.items c.args.s true refl
    (λ was. let there : c.contains.result ≡ true = c.contains.ensures.1 was in let wrong : true ≡ false = sym there ∙ none in cc)
    (subst (λ (xs : List ℕ). c.push.new.self.items ≡ xs ++ c.args.s ∷ []) c.self.view_is c.in_ok-push.ensures.items)
