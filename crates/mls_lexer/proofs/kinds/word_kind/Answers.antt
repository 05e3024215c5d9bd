use Rattle.std.proofs.Common.{◌≡◌, ℕ, List, sym, ap, ◌∙◌, refl, codes, arith, rules}
use Rattle.std.proofs.lemmas.Slice.Eq.{text_from_reads}
use Rattle.mls_lexer.specs.declared.token.Kind.{Kind}
use Rattle.mls_lexer.specs.declared.token.Kind.TheVariants.{WordFormat, WordImport}
use Rattle.mls_lexer.specs.Tokens.{word_kind}
use Rattle.mls_lexer.proofs.kinds.word_kind.Goals as goal

-- the bytes are this reserved word
word : (bytes p : List ℕ) (kind : Kind) → bytes ≡ p → kind ≡ word_kind p → kind ≡ word_kind bytes
word bytes p kind e h = h ∙ sym (ap word_kind e)

pub returns-in-format : goal.returns-in-format
unfolding word_kind
returns-in-format c = word _ (codes "format") WordFormat (text_from_reads c.args.bytes.now (codes "format") (omega arith) (search rules)) refl

pub returns-in-import : goal.returns-in-import
unfolding word_kind
returns-in-import c = word _ (codes "import") WordImport (text_from_reads c.args.bytes.now (codes "import") (omega arith) (search rules)) refl
