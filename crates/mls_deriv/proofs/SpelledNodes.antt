-- The lines of nodes by their clauses: each node has other clauses than any other, and is read from them.
use Rattle.std.proofs.Common.{◌≡◌, ℕ, ◌≤◌, Bool, true, false, List, [], ◌∷◌, ◌++◌, map, Some, None, sym, ap, subst, ◌∙◌, refl, arith, nat_eq, append-nil, append_assoc}
use Rattle.std.specs.Prelude.{All, decimal, Option, codes, if◌then◌else◌, nat_le, IsTrue}
use Rattle.std.specs.List.{flat_map, list_all}
use Rattle.std.proofs.lemmas.Bool.{and_parts, ne_eqb, leb-true}
use Rattle.std.proofs.lemmas.List.{append_cancel_right}
use Rattle.std.proofs.lemmas.List.Elements.{All-nil, All-cons, All-head, All-tail}
use Rattle.mls_base.specs.Spelling.{is_name_byte, is_lower, begins_lower, is_spelled}
use Rattle.mls_book.specs.declared.book.Field.{Field}
use Rattle.mls_book.specs.declared.book.Node.{Node}
use Rattle.mls_book.specs.declared.book.Node.TheVariants as node
use Rattle.mls_deriv.specs.Spellings.{number_word, field_words, node_words, node_line}
use Rattle.mls_deriv.specs.Forms.{IsWord, IsFieldForm, IsNodeForm}
use Rattle.mls_deriv.specs.inner.Clauses.{number_of, Said, words_of, IsSaid, line_parts}
use Rattle.mls_deriv.proofs.SpelledNumbers.{no_number, one_saying, tails, bytes_of, HasNoSpace}
use Rattle.mls_deriv.proofs.SpelledLines.{is, two_words, high, only, one, two, HasPlainWord, parts_said, plain, no_word}

-- the clauses of a node
abbrev pub field_said : Field → Said
field_said field = (field.label, field.node.0 ∷ [])

abbrev pub node_said : Node → List Said
node_said node.Bot = (codes "bot", []) ∷ []
node_said node.Top = (codes "top", []) ∷ []
node_said (node.Var x) = (codes "var", x ∷ []) ∷ []
node_said node.Bool = (codes "bool", []) ∷ []
node_said node.Int = (codes "int", []) ∷ []
node_said (node.Arrow j k) = (codes "fn", j.0 ∷ k.0 ∷ []) ∷ []
node_said (node.Rcd fields) = (codes "rcd", []) ∷ map field_said fields
node_said (node.Join j k) = (codes "join", j.0 ∷ k.0 ∷ []) ∷ []
node_said (node.Meet j k) = (codes "meet", j.0 ∷ k.0 ∷ []) ∷ []

-- nodes are read from their clauses
abbrev more_fields : List ℕ → ℕ → Option (List Field) → Option (List Field)
more_fields label n None = None
more_fields label n (Some fields) = Some (record { label = label; node = record { 0 = n } } ∷ fields)

fields_from : List Said → Option (List Field)
fields_from [] = Some []
fields_from ((label, []) ∷ rest) = None
fields_from ((label, n ∷ more) ∷ rest) = more_fields label n (fields_from rest)

fields_read : (fields : List Field) → fields_from (map field_said fields) ≡ Some fields
unfolding fields_from
fields_read [] = refl
fields_read (field ∷ rest) = ap (more_fields field.label field.node.0) (fields_read rest)

abbrev record_of : Option (List Field) → Option Node
record_of None = None
record_of (Some fields) = Some (node.Rcd fields)

abbrev plain_node : List ℕ → Option Node → Option Node
plain_node word other =
    if is word (codes "bot") then Some node.Bot else (if is word (codes "top") then Some node.Top else (if is word (codes "bool") then Some node.Bool
    else (if is word (codes "int") then Some node.Int else other)))

abbrev node_from : List Said → Option Node
node_from ((word, []) ∷ rest) = plain_node word (record_of (fields_from rest))
node_from ((word, x ∷ []) ∷ rest) = Some (node.Var x)
node_from ((word, i ∷ j ∷ []) ∷ rest) =
    if is word (codes "fn") then Some (node.Arrow (record { 0 = i }) (record { 0 = j })) else (if is word (codes "join") then Some (node.Join (record { 0 = i }) (record { 0 = j }))
    else Some (node.Meet (record { 0 = i }) (record { 0 = j })))
node_from _ = None

node_read : (n : Node) → node_from (node_said n) ≡ Some n
node_read node.Bot = refl
node_read node.Top = refl
node_read (node.Var x) = refl
node_read node.Bool = refl
node_read node.Int = refl
node_read (node.Arrow j k) = refl
node_read (node.Rcd fields) = ap record_of (fields_read fields)
node_read (node.Join j k) = refl
node_read (node.Meet j k) = refl

-- a node is spelled by the words of its clauses
fields_spelled : (fields : List Field) → flat_map field_words fields ≡ tails (words_of (map field_said fields))
fields_spelled [] = refl
fields_spelled (field ∷ rest) =
    append_assoc (32 ∷ field.label) (number_word field.node.0) (flat_map field_words rest)
    ∙ ap (λ t. (32 ∷ field.label) ++ (number_word field.node.0 ++ t)) (fields_spelled rest)

abbrev pub first_word : Said
first_word = (codes "node", [])

pub node_spelled : (n : Node) → codes "node" ++ node_words n ≡ bytes_of (words_of (first_word ∷ node_said n))
node_spelled node.Bot = refl
node_spelled node.Top = refl
node_spelled (node.Var x) = ap (λ t. codes "node var" ++ t) (sym (append-nil (number_word x)))
node_spelled node.Bool = refl
node_spelled node.Int = refl
node_spelled (node.Arrow j k) = two_words (codes "node fn") (decimal j.0) (decimal k.0)
node_spelled (node.Rcd fields) = ap (λ t. codes "node rcd" ++ t) (fields_spelled fields)
node_spelled (node.Join j k) = two_words (codes "node join") (decimal j.0) (decimal k.0)
node_spelled (node.Meet j k) = two_words (codes "node meet") (decimal j.0) (decimal k.0)

pub true_test : (b : Bool) → IsTrue b → b ≡ true
true_test true h = refl
true_test false h = absurd (cc)

-- names are no numbers and have no space
name_high : (name : List ℕ) → is_spelled name ≡ true → number_of name ≡ None
name_high [] h = absurd (cc)
name_high (b ∷ rest) h =
    let lower : is_lower b ≡ true = (and_parts (is_lower b) (list_all is_name_byte (b ∷ rest)) h).0 in
    let low : 97 ≤ b = leb-true 97 b (and_parts (nat_le 97 b) (nat_le b 122) lower).0 in
    no_number b rest (omega arith)

name_byte : (b : ℕ) → is_name_byte b ≡ true → nat_eq b 32 ≡ false
name_byte b h = ne_eqb b 32 (λ e. let wrong : is_name_byte 32 ≡ true = subst (λ c. is_name_byte c ≡ true) e h in absurd (cc))

pub name_bytes : (name : List ℕ) → list_all is_name_byte name ≡ true → HasNoSpace name
name_bytes [] h = All-nil (λ byte. nat_eq byte 32 ≡ false)
name_bytes (b ∷ rest) h =
    let parts = and_parts (is_name_byte b) (list_all is_name_byte rest) h in
    All-cons (λ byte. nat_eq byte 32 ≡ false) b rest (name_byte b parts.0) (name_bytes rest parts.1)

fields_are_said : (fields : List Field) → All IsFieldForm fields → All IsSaid (map field_said fields)
fields_are_said [] all = All-nil IsSaid
fields_are_said (field ∷ rest) all =
    let first = All-head IsFieldForm field rest all in
    All-cons IsSaid (field_said field) (map field_said rest) (name_high field.label (true_test (is_spelled field.label) first.0.spelled), one field.node.0 first.1)
    (fields_are_said rest (All-tail IsFieldForm field rest all))

fields_plain : (fields : List Field) → All IsFieldForm fields → All HasPlainWord (map field_said fields)
fields_plain [] all = All-nil HasPlainWord
fields_plain (field ∷ rest) all =
    let first = All-head IsFieldForm field rest all in
    let bytes = and_parts (begins_lower field.label) (list_all is_name_byte field.label) (true_test (is_spelled field.label) first.0.spelled) in
    All-cons HasPlainWord (field_said field) (map field_said rest) (name_bytes field.label bytes.1) (fields_plain rest (All-tail IsFieldForm field rest all))

node_is_said : (n : Node) → IsNodeForm n → All IsSaid (node_said n)
node_is_said node.Bot is = only (codes "bot", []) (high _ _ refl, All-nil IsWord)
node_is_said node.Top is = only (codes "top", []) (high _ _ refl, All-nil IsWord)
node_is_said (node.Var x) is = only (codes "var", x ∷ []) (high _ _ refl, one x is)
node_is_said node.Bool is = only (codes "bool", []) (high _ _ refl, All-nil IsWord)
node_is_said node.Int is = only (codes "int", []) (high _ _ refl, All-nil IsWord)
node_is_said (node.Arrow j k) is = only (codes "fn", j.0 ∷ k.0 ∷ []) (high _ _ refl, two j.0 k.0 is.0 is.1)
node_is_said (node.Rcd fields) is = All-cons IsSaid (codes "rcd", []) (map field_said fields) (high _ _ refl, All-nil IsWord) (fields_are_said fields is.0)
node_is_said (node.Join j k) is = only (codes "join", j.0 ∷ k.0 ∷ []) (high _ _ refl, two j.0 k.0 is.0 is.1)
node_is_said (node.Meet j k) is = only (codes "meet", j.0 ∷ k.0 ∷ []) (high _ _ refl, two j.0 k.0 is.0 is.1)

node_plain : (n : Node) → IsNodeForm n → All HasPlainWord (node_said n)
node_plain node.Bot is = plain (codes "bot", []) refl [] no_word
node_plain node.Top is = plain (codes "top", []) refl [] no_word
node_plain (node.Var x) is = plain (codes "var", x ∷ []) refl [] no_word
node_plain node.Bool is = plain (codes "bool", []) refl [] no_word
node_plain node.Int is = plain (codes "int", []) refl [] no_word
node_plain (node.Arrow j k) is = plain (codes "fn", j.0 ∷ k.0 ∷ []) refl [] no_word
node_plain (node.Rcd fields) is = plain (codes "rcd", []) refl (map field_said fields) (fields_plain fields is.0)
node_plain (node.Join j k) is = plain (codes "join", j.0 ∷ k.0 ∷ []) refl [] no_word
node_plain (node.Meet j k) is = plain (codes "meet", j.0 ∷ k.0 ∷ []) refl [] no_word

pub all_said : (n : Node) → IsNodeForm n → All IsSaid (first_word ∷ node_said n)
all_said n is = All-cons IsSaid first_word (node_said n) (high _ _ refl, All-nil IsWord) (node_is_said n is)

-- the words of the line of a node are those of its clauses
pub node_parted : (n : Node) → IsNodeForm n → line_parts (codes "node" ++ node_words n) ≡ words_of (first_word ∷ node_said n)
node_parted n is = ap line_parts (node_spelled n) ∙ parts_said first_word (node_said n) (all_said n is) (plain first_word refl (node_said n) (node_plain n is))

or_else : Node → Option Node → Node
or_else n None = n
or_else n (Some found) = found

behind_first : List Said → List Said
behind_first [] = []
behind_first (c ∷ cs) = cs

-- nodes with the same line are the same
pub one_node : (n other : Node) → IsNodeForm n → IsNodeForm other → node_line n ≡ node_line other → n ≡ other
unfolding or_else behind_first
one_node n other is is' e =
    let bytes : codes "node" ++ node_words n ≡ codes "node" ++ node_words other = append_cancel_right (codes "node" ++ node_words n) (codes "node" ++ node_words other) (codes "\n") e in
    let words : words_of (first_word ∷ node_said n) ≡ words_of (first_word ∷ node_said other) = sym (node_parted n is) ∙ (ap line_parts bytes ∙ node_parted other is') in
    let said : first_word ∷ node_said n ≡ first_word ∷ node_said other = one_saying (first_word ∷ node_said n) (first_word ∷ node_said other) (all_said n is) (all_said other is') words in
    ap (or_else n) (sym (node_read n) ∙ (ap (λ cs. node_from (behind_first cs)) said ∙ node_read other))
