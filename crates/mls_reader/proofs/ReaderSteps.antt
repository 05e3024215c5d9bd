-- What the reader does with what it had to do next is what the machine does.
use Rattle.std.proofs.Common.{◌≡◌, ◌≢◌, ℕ, suc, Bool, true, false, List, [], ◌++◌, refl, sym, ap, ◌∙◌, append-nil, arith, Some, None}
use Rattle.std.specs.Prelude.{Option, ◌&&◌, ◌==◌}
use Rattle.std.proofs.lemmas.Bool.Decides.{nat_tests}
use Rattle.mls_lexer.specs.declared.token.Kind.{Kind}
use Rattle.mls_lexer.specs.declared.token.Kind.TheVariants as kind
use Rattle.mls_lexer.specs.declared.token.Token.{Token}
use Rattle.mls_lexer.specs.Tokens.{terminal, terminal_of}
use Rattle.mls_grammar.specs.declared.fault.Fault.TheVariants.{Unexpected, TooDeep}
use Rattle.mls_reader.specs.declared.todo.PiecePart.{PiecePart}
use Rattle.mls_reader.specs.declared.todo.PiecePart.TheVariants as part
use Rattle.mls_reader.specs.declared.todo.Word.{Word}
use Rattle.mls_reader.specs.declared.todo.Word.TheVariants as word
use Rattle.mls_reader.specs.declared.read.ModuleReader.{ModuleReader}
use Rattle.mls_grammar.specs.Phrases.{expr}
use Rattle.mls_reader.specs.steps.PieceMachine.{Todo, a, Act, acts, expr_acts}
use Rattle.mls_reader.specs.steps.Todos.{part_of, word_of, begins_expr, is_deep, may_be_empty}
use Rattle.mls_reader.specs.steps.PieceReaders.{Acted, own, told_by, Tried, Refused, is_owed, is_too_deep}

-- an expression has an act exactly at the kinds with which one begins
begins-some : (k : Kind) (m at : ℕ) (bytes : List ℕ) → begins_expr k ≡ true → (it : Act) × (expr_acts m at (terminal_of k bytes) ≡ Some it)
begins-some kind.Name m at bytes e = (_, refl)
begins-some kind.Number m at bytes e = (_, refl)
begins-some kind.WordTrue m at bytes e = (_, refl)
begins-some kind.WordFalse m at bytes e = (_, refl)
begins-some kind.WordFun m at bytes e = (_, refl)
begins-some kind.WordRec m at bytes e = (_, refl)
begins-some kind.WordLet m at bytes e = (_, refl)
begins-some kind.WordIf m at bytes e = (_, refl)
begins-some kind.ParenLeft m at bytes e = (_, refl)
begins-some kind.BraceLeft m at bytes e = (_, refl)
begins-some _ m at bytes e = absurd (cc)

begins-none : (k : Kind) (m at : ℕ) (bytes : List ℕ) → begins_expr k ≡ false → expr_acts m at (terminal_of k bytes) ≡ None
begins-none kind.Name m at bytes e = absurd (cc)
begins-none kind.Number m at bytes e = absurd (cc)
begins-none kind.WordTrue m at bytes e = absurd (cc)
begins-none kind.WordFalse m at bytes e = absurd (cc)
begins-none kind.WordFun m at bytes e = absurd (cc)
begins-none kind.WordRec m at bytes e = absurd (cc)
begins-none kind.WordLet m at bytes e = absurd (cc)
begins-none kind.WordIf m at bytes e = absurd (cc)
begins-none kind.ParenLeft m at bytes e = absurd (cc)
begins-none kind.BraceLeft m at bytes e = absurd (cc)
begins-none _ m at bytes e = refl

both-true : (b d : Bool) → (b && d) ≡ true → (b ≡ true) × (d ≡ true)
both-true true d e = (refl, e)
both-true false d e = absurd (cc)

second-false : (b d : Bool) → (b && d) ≡ false → b ≡ true → d ≡ false
second-false true d e is = e
second-false false d e is = absurd (cc)

-- what is too deep has an act, and the nesting 201
deep-act : (todo : Todo) (at : ℕ) (k : Kind) (bytes : List ℕ) → is_deep todo k ≡ true → (it : Act) × (acts todo at (terminal_of k bytes) ≡ Some it) × (own todo ≡ 201)
deep-act (a n expr) at k bytes e =
    let two = both-true (n == 200) (begins_expr k) e in
    let it = begins-some k (suc n) at bytes two.1 in
    (it.0, it.1, grind (arith, nat_tests))
deep-act _ at k bytes e = absurd (cc)

-- and no other act has it
act-shallow : (todo : Todo) (at : ℕ) (k : Kind) (bytes : List ℕ) (it : Act) → is_deep todo k ≡ false → acts todo at (terminal_of k bytes) ≡ Some it → own todo ≢ 201
act-shallow (a n expr) at k bytes it e is same =
    let here : (n == 200) ≡ true = grind (arith, nat_tests) in
    let none = begins-none k (suc n) at bytes (second-false (n == 200) (begins_expr k) e here) in
    cc
act-shallow _ at k bytes it e is same = cc

word-tells_nothing : (w : Word) → told_by (word_of w) ≡ []
word-tells_nothing word.Equals = refl
word-tells_nothing _ = refl

part-tells_nothing : (p : PiecePart) → told_by (part_of p) ≡ []
part-tells_nothing (part.Word w) = word-tells_nothing w
part-tells_nothing _ = refl

module _ (text : List ℕ) (token : Token) (part : PiecePart) where
  pub deep-refused : is_deep (part_of part) token.kind ≡ true → Refused text token (part_of part) (TooDeep token.start)
  deep-refused e = let it = deep-act (part_of part) token.start token.kind _ e in is_too_deep it.0 it.1 it.2

  pub owed-refused : (old new : ModuleReader) (begun : Bool) → Acted (acts (part_of part) token.start (terminal text token)) old new begun → begun ≡ false → may_be_empty (part_of part) ≡ false → Refused text token (part_of part) (Unexpected token.start token.kind)
  owed-refused old new begun did e owed = go (acts (part_of part) token.start (terminal text token)) refl did
    where
      go : (o : Option Act) → acts (part_of part) token.start (terminal text token) ≡ o → Acted o old new begun → Refused text token (part_of part) (Unexpected token.start token.kind)
      go (Some it) is did = absurd (cc)
      go None is did = is_owed is owed

  pub acted-tried : (old new : ModuleReader) (begun : Bool) → is_deep (part_of part) token.kind ≡ false → Acted (acts (part_of part) token.start (terminal text token)) old new begun → (begun ≡ false → may_be_empty (part_of part) ≡ true) → Tried text token (part_of part) old new begun
  acted-tried old new begun shallow did empty = go begun (acts (part_of part) token.start (terminal text token)) refl did empty
    where
      go : (b : Bool) (o : Option Act) → acts (part_of part) token.start (terminal text token) ≡ o → Acted o old new b → (b ≡ false → may_be_empty (part_of part) ≡ true) → Tried text token (part_of part) old new b
      go true (Some it) is did empty = (it, is, did.1, act-shallow (part_of part) token.start token.kind _ it shallow is)
      go false (Some it) is did empty = absurd (cc)
      go true None is did empty = absurd (cc)
      go false None is did empty = (is, empty refl, did.1.stack, did.1.pieces ∙ (sym (append-nil old.pieces.items) ∙ ap (λ ps. old.pieces.items ++ ps) (sym (part-tells_nothing part))), did.1.events)
