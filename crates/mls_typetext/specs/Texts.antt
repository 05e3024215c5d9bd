-- Which texts are types, and what they are read as.
use Rattle.std.specs.Prelude.{◌≡◌, ℕ, true, List, [], length}
use Rattle.mls_lexer.specs.declared.token.Token.{Token}
use Rattle.mls_lexer.specs.Tokens.{IsTokens, terminals, place_of}
use Rattle.mls_typetext.specs.declared.scheme.ReadScheme.{ReadScheme}
use Rattle.mls_typetext.specs.Phrases.{Phrase, whole, yields}
use Rattle.mls_typetext.specs.Trees.{TypeTree, meaning}
use Rattle.mls_typetext.specs.Faults.{faults}
use Rattle.mls_typetext.specs.Books.{type_of, variables, book_of, root_of, id}

-- what a tree is read as
abbrev pub read_of : TypeTree → ReadScheme
read_of tree =
    record { book = book_of (type_of tree); root = id (root_of (type_of tree)); vars = length (variables tree) }

-- the text is a type of this tree: its tokens are spelled by a phrase, and nothing in it is a fault
pub record IsTypeOf (text : List ℕ) (tree : TypeTree) : Type 0 where
  pub tokens : List Token
  pub has_tokens : IsTokens text tokens
  pub phrase : Phrase whole
  pub spelled : yields phrase [] ≡ terminals text tokens
  pub meant : tree ≡ meaning (place_of tokens) 0 phrase
  pub no_fault : faults true [] 0 tree ≡ []

-- the text is a type that is read as this
pub record IsTypeText (text : List ℕ) (read : ReadScheme) : Type 0 where
  pub tree : TypeTree
  pub text_of : IsTypeOf text tree
  pub read_as : read ≡ read_of tree
