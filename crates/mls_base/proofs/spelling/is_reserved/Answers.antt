use Rattle.std.proofs.Common.{◌≡◌, ℕ, List, true, sym, ap, ◌∙◌, refl, codes, arith, rules}
use Rattle.std.proofs.lemmas.Slice.Eq.{text_from_reads}
use Rattle.mls_base.specs.Spelling.{is_reserved}
use Rattle.mls_base.proofs.spelling.is_reserved.Goals as goal

-- the bytes are this reserved word
word : (bytes p : List ℕ) → bytes ≡ p → true ≡ is_reserved p → true ≡ is_reserved bytes
word bytes p e h = h ∙ sym (ap is_reserved e)

pub returns-in-false : goal.returns-in-false
unfolding is_reserved
returns-in-false c = word _ (codes "false") (text_from_reads c.args.bytes.now (codes "false") (omega arith) (search rules)) refl

pub returns-in-format : goal.returns-in-format
unfolding is_reserved
returns-in-format c = word _ (codes "format") (text_from_reads c.args.bytes.now (codes "format") (omega arith) (search rules)) refl

pub returns-in-import : goal.returns-in-import
unfolding is_reserved
returns-in-import c = word _ (codes "import") (text_from_reads c.args.bytes.now (codes "import") (omega arith) (search rules)) refl
