use Rattle.mls_lexer.proofs.Pieces.{word_token}
use Rattle.mls_lexer.proofs.scan.word_at.Goals as goal

pub returns-clause-token : goal.returns-clause-token
returns-clause-token c =
    word_token c.args.text.now c.args.start c.requires.in_text c.name_bytes.result c.word_kind.result c.requires.letter c.name_bytes.ensures c.word_kind.ensures
