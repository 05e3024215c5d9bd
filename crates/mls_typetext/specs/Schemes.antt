-- The schemes of the environment of a binding.
use Rattle.std.specs.Prelude.{List, [], ◌∷◌, ◌++◌, map}
use Rattle.std.specs.FinMap as env
use Rattle.mls_book.specs.Schemes.{Scheme}
use Rattle.mls_typetext.specs.declared.scheme.ReadScheme.{ReadScheme}
use Rattle.mls_typetext.specs.Books.{Ty, boolean, integer, arrow, book_of, root_of}

-- what was read, as a scheme that needs nothing of any binder
abbrev pub scheme_of : ReadScheme → Scheme
scheme_of read = record { book = read.book; env = env.empty; root = read.root.0 }

-- the scheme of a type
abbrev pub type_scheme : Ty → Scheme
type_scheme t = record { book = book_of t; env = env.empty; root = root_of t }

-- the types of the operators `+`, `-`, `*`, `<` and `==`, in this order
abbrev pub operator_types : List Ty
operator_types =
    arrow integer (arrow integer integer) ∷ arrow integer (arrow integer integer)
    ∷ arrow integer (arrow integer integer)
    ∷ arrow integer (arrow integer boolean) ∷ arrow integer (arrow integer boolean) ∷ []

-- the environment of a binding: the operators, what the imports declare in order, and what the texts of the earlier
-- entries are read as
abbrev pub environment : (declared earlier : List ReadScheme) → List Scheme
environment declared earlier = map type_scheme operator_types ++ map scheme_of declared ++ map scheme_of earlier
